-- calls on opens that are not there, or not for change: they are refused so and need no lock
use Rattle.std.specs.Prelude.{cond, Bool, true, false, ◌==◌, nat_lt, Option, None, Some}
use Rattle.std.proofs.Common.{inl, inr, ◌⊎◌, ◌≡◌, ℕ, ◌+◌, ◌-◌, List, [], ◌∷◌, ◌++◌, refl}
use Rattle.alp_base.specs.declared.ids.Run.{Run}
use Rattle.alp_base.specs.declared.key.Key.TheVariants.{Leader, OwnerOf}
use Rattle.alp_base.specs.declared.choices.Access.{Access}
use Rattle.alp_base.specs.declared.choices.Access.TheVariants.{ReadOnly, Change}
use Rattle.alp_base.specs.declared.cell.Props.{Props}
use Rattle.alp_base.specs.declared.cell.Cell.TheVariants as cell
use Rattle.alp_files.specs.declared.open.Open.{Open}
use Rattle.alp_files.specs.declared.call.PropChange.{PropChange}
use Rattle.alp_files.specs.declared.call.PropChange.TheVariants as prop
use Rattle.alp_files.specs.declared.reply.Reply.TheVariants as reply
use Rattle.alp_files.specs.declared.refusal.Refusal.{Refusal}
use Rattle.alp_files.specs.declared.refusal.Refusal.TheVariants as refusal
use Rattle.alp_files.specs.Cells.{View, same_name, props_in}
use Rattle.alp_files.specs.Edits.{Put}
use Rattle.alp_files.specs.Act.{Own, Answer, Look, Ask, Say, run, unless, refused, replied, on_open, on_props, on_change, if_change, owner_of, is_over, quota_exceeded, charge_put, close_file, page_past, page_puts, mark_put, read_pages, ask_pages, write_pages, lock_pages, put_props, cut_file, grow_file, set_size, move_tests, move_file, write_props}
use Rattle.alp_files.specs.Locks.{Need, needs_there, needs_on_open, needs_on_change, needs_if_change}
use Rattle.alp_journal.specs.Answers.{open_reply}
use Rattle.alp_node.proofs.AnswerLemmas.{by_tests, by_pages}

-- it is not refused for its open
abbrev pub IsOnOpen : Answer → Type 0
IsOnOpen a = open_reply a.reply ≡ None

-- it is refused for its open, and what it would need is nothing
pub record IsClosed (w : Own) (needs : List Need) (a : Answer) : Type 0 where
  pub refusal : Refusal
  pub is : a ≡ refused w refusal
  pub shows : open_reply (Some (reply.Refused refusal)) ≡ Some refusal
  pub none : needs ≡ []

abbrev pub EitherOpen : Own → List Need → Answer → Type 0
EitherOpen w needs a = IsOnOpen a ⊎ IsClosed w needs a

module _ (m : View) (w : Own) where
  unknown : (needs : List Need) → needs ≡ [] → IsClosed w needs (refused w refusal.UnknownOpen)
  unknown needs none = record { refusal = refusal.UnknownOpen; is = refl; shows = refl; none = none }

  pub either_open : (x : Option Open) (needs : Open → Props → List Need) (next : Open → Props → Look) → ((o : Open) (p : Props) → IsOnOpen (run m (next o p))) → EitherOpen w (needs_on_open m x needs) (run m (on_open w x next))
  either_open None needs next each = inr (unknown [] refl)
  either_open (Some o) needs next each = there (props_in (m (Leader o.file)))
    where
      there : (y : Option Props) → EitherOpen w (needs_there y (needs o)) (run m (on_props w y (next o)))
      there None = inr (unknown [] refl)
      there (Some p) = inl (each o p)

  pub either_change : (x : Option Open) (needs : Open → Props → List Need) (next : Open → Props → Look) → ((o : Open) (p : Props) → IsOnOpen (run m (next o p))) → EitherOpen w (needs_on_change m x needs) (run m (on_change w x next))
  either_change None needs next each = inr (unknown [] refl)
  either_change (Some o) needs next each = go o.access
    where
      there : (y : Option Props) → EitherOpen w (needs_there y (λ p. needs o p)) (run m (on_props w y (next o)))
      there None = inr (unknown [] refl)
      there (Some p) = inl (each o p)

      no_needs : (y : Option Props) → needs_there y (λ (p : Props). []) ≡ []
      no_needs None = refl
      no_needs (Some p) = refl

      go : (a : Access) → EitherOpen w (needs_there (props_in (m (Leader o.file))) (λ p. needs_if_change a (needs o p))) (run m (if_change w a (Ask (Leader o.file) (λ lc. on_props w (props_in lc) (next o)))))
      go ReadOnly = inr (record { refusal = refusal.ReadOnlyOpen; is = refl; shows = refl; none = no_needs (props_in (m (Leader o.file))) })
      go Change = there (props_in (m (Leader o.file)))

  -- pages are locked on an open for change where they are to be changed
  pub lock_open : (r : Run) (b : Bool) (x : Option Open) (needs : Open → Props → List Need)
      → EitherOpen w (cond {A = List Need} b (needs_on_change m x needs) (needs_on_open m x needs)) (run m (cond {A = Look} b (on_change w x (lock_pages w r)) (on_open w x (lock_pages w r))))
  lock_open r true x needs = either_change x needs (lock_pages w r) (λ o p. by_tests IsOnOpen w (page_past r p) (replied w reply.Plain []) (refl, tt) refl)
  lock_open r false x needs = either_open x needs (lock_pages w r) (λ o p. by_tests IsOnOpen w (page_past r p) (replied w reply.Plain []) (refl, tt) refl)

  pub close_open : (n : ℕ) (x : Option Open) → EitherOpen w [] (run m (close_file w n x))
  close_open n None = inr (unknown [] refl)
  close_open n (Some o) = inl refl

  -- what each says of an open that is there
  pub read_on : (r : Run) (o : Open) (p : Props) → IsOnOpen (run m (read_pages w r o p))
  read_on r o p = go (nat_lt p.size (r.first + r.count))
    where
      go : (b : Bool) → IsOnOpen (run m (cond {A = Look} b (Say (refused w (refusal.NoSuchPage p.size))) (ask_pages o.file r.first r.count (λ ps. Say (replied w (reply.Pages ps) [])))))
      go true = refl
      go false = by_pages IsOnOpen m w o.file r.count r.first (λ ps. Say (replied w (reply.Pages ps) [])) (λ ps. refl)

  pub write_on : (r : Run) (ps : List (List ℕ)) (o : Open) (p : Props) → IsOnOpen (run m (write_pages w r ps o p))
  write_on r ps o p = by_tests IsOnOpen w (page_past r p) (replied w reply.Plain (page_puts o.file r.first ps ++ mark_put o.file p (r.first + r.count))) (refl, tt) refl

  pub size_on : (size : ℕ) (o : Open) (p : Props) → IsOnOpen (run m (set_size w size o p))
  size_on size o p = go (size == p.size) (nat_lt size p.size)
    where
      go : (same less : Bool) → IsOnOpen (run m (cond {A = Look} same (put_props w o p) (cond {A = Look} less (cut_file w size o p) (grow_file w size o p))))
      go true less = refl
      go false true = refl
      go false false = by_tests IsOnOpen w ((is_over (owner_of (m (OwnerOf p.owner))) (size - p.size), quota_exceeded (owner_of (m (OwnerOf p.owner))) (size - p.size)) ∷ [])
          (replied w reply.Plain (Put (Leader o.file) (cell.Leader (record p { size = size })) ∷ charge_put p.owner (owner_of (m (OwnerOf p.owner))) ((owner_of (m (OwnerOf p.owner))).charge + (size - p.size)) ∷ [])) (refl, tt) refl

  move_on : (who name : List ℕ) (o : Open) (p : Props) → IsOnOpen (run m (move_file w who name o p))
  move_on who name o p = go (same_name p.owner name)
    where
      go : (same : Bool) → IsOnOpen (run m (cond {A = Look} same (Say (replied w reply.Plain []))
          (Ask (OwnerOf name) (λ nc. Ask (OwnerOf p.owner) (λ oc. Say (unless w (move_tests who name p.size nc) (replied w reply.Plain (
          Put (Leader o.file) (cell.Leader (record p { owner = name })) ∷ charge_put p.owner (owner_of oc) ((owner_of oc).charge - p.size)
          ∷ charge_put name (owner_of nc) ((owner_of nc).charge + p.size) ∷ []))))))))
      go true = refl
      go false = by_tests IsOnOpen w (move_tests who name p.size (m (OwnerOf name)))
          (replied w reply.Plain (Put (Leader o.file) (cell.Leader (record p { owner = name })) ∷ charge_put p.owner (owner_of (m (OwnerOf p.owner))) ((owner_of (m (OwnerOf p.owner))).charge - p.size)
          ∷ charge_put name (owner_of (m (OwnerOf name))) ((owner_of (m (OwnerOf name))).charge + p.size) ∷ [])) (refl, (refl, (refl, tt))) refl

  pub props_on : (who : List ℕ) (c : PropChange) (o : Open) (p : Props) → IsOnOpen (run m (write_props w who c o p))
  props_on who (prop.Owner n) o p = move_on who n o p
  props_on who (prop.Name n) o p = refl
  props_on who (prop.TypeNo n) o p = refl
  props_on who (prop.ByteLength n) o p = refl
  props_on who (prop.Read l) o p = refl
  props_on who (prop.Modify l) o p = refl
