-- only a call that creates a file makes one
use Rattle.std.specs.Prelude.{cond, Bool, true, false, not, ◌==◌, nat_lt, Option, None, Some, is_some}
use Rattle.std.specs.List.{AllByRecursion}
use Rattle.std.proofs.Common.{◌≡◌, ℕ, ◌+◌, ◌-◌, List, [], ◌∷◌, ◌++◌, refl, sym, ◌∙◌, ap}
use Rattle.alp_base.specs.declared.ids.FileId.{FileId}
use Rattle.alp_base.specs.declared.ids.Run.{Run}
use Rattle.alp_base.specs.declared.key.Key.TheVariants.{Leader, OwnerOf}
use Rattle.alp_base.specs.declared.cell.Props.{Props}
use Rattle.alp_base.specs.declared.cell.Cell.TheVariants as cell
use Rattle.alp_files.specs.declared.open.Open.{Open}
use Rattle.alp_files.specs.declared.call.Call.{Call}
use Rattle.alp_files.specs.declared.call.Call.TheVariants as call
use Rattle.alp_files.specs.declared.call.PropChange.{PropChange}
use Rattle.alp_files.specs.declared.call.PropChange.TheVariants as prop
use Rattle.alp_files.specs.declared.reply.Reply.{Reply}
use Rattle.alp_files.specs.declared.reply.Reply.TheVariants as reply
use Rattle.alp_files.specs.declared.refusal.Refusal.{Refusal}
use Rattle.alp_files.specs.declared.refusal.Refusal.TheVariants as refusal
use Rattle.alp_files.specs.declared.refusal.ListName.TheVariants as lists
use Rattle.alp_files.specs.Cells.{View, same_name, owner_in, props_in}
use Rattle.alp_files.specs.Edits.{Put}
use Rattle.alp_files.specs.Act.{Own, Answer, Look, Ask, Say, run, answer, id_in, open_at, opened, unless, refused, replied, on_open, on_change, owner_of, props_of, is_admin, is_over, quota_exceeded, charge_put, access_tests, close_file, delete_file, page_past, page_puts, mark_put, read_pages, ask_pages, write_pages, lock_pages, is_changing, put_props, cut_file, grow_file, set_size, move_tests, move_file, write_props}
use Rattle.alp_node.specs.Asks.{makes_file}
use Rattle.alp_node.specs.Calls.{IsServedCall}
use Rattle.alp_node.proofs.AnswerLemmas.{by_tests, by_open, by_change, by_pages}

same_reply : (a b : Reply) → Some a ≡ Some b → a ≡ b
same_reply a b e = cc

-- no file is made
abbrev MakesNone : Answer → Type 0
MakesNone a = (r : Reply) → a.reply ≡ Some r → id_in r ≡ None

none_given : (x : Reply) → id_in x ≡ None → (r : Reply) → Some x ≡ Some r → id_in r ≡ None
none_given x none r e = sym (ap id_in (same_reply x r e)) ∙ none

module _ (m : View) (w : Own) where
  none_tested : (tests : List (Bool × Refusal)) (a : Answer) → MakesNone a → MakesNone (unless w tests a)
  none_tested tests a h = by_tests MakesNone w tests a (each tests) h
    where
      each : (ts : List (Bool × Refusal)) → AllByRecursion (λ (t : Bool × Refusal). MakesNone (refused w t.1)) ts
      each [] = tt
      each (t ∷ ts) = (none_given (reply.Refused t.1) refl, each ts)

  none_change : (x : Option Open) (next : Open → Props → Look) → ((o : Open) (p : Props) → MakesNone (run m (next o p))) → MakesNone (run m (on_change w x next))
  none_change x next each = by_change MakesNone m w x next (none_given (reply.Refused refusal.UnknownOpen) refl) (none_given (reply.Refused refusal.ReadOnlyOpen) refl) (λ o at change p there. each o p)

  none_open : (x : Option Open) (next : Open → Props → Look) → ((o : Open) (p : Props) → MakesNone (run m (next o p))) → MakesNone (run m (on_open w x next))
  none_open x next each = by_open MakesNone m w x next (none_given (reply.Refused refusal.UnknownOpen) refl) (λ o at p. each o p)

  close_none : (n : ℕ) (x : Option Open) → MakesNone (run m (close_file w n x))
  close_none n None = none_given (reply.Refused refusal.UnknownOpen) refl
  close_none n (Some o) = none_given reply.Plain refl

  read_none : (r : Run) (o : Open) (p : Props) → MakesNone (run m (read_pages w r o p))
  read_none r o p = go (nat_lt p.size (r.first + r.count))
    where
      go : (b : Bool) → MakesNone (run m (cond {A = Look} b (Say (refused w (refusal.NoSuchPage p.size))) (ask_pages o.file r.first r.count (λ ps. Say (replied w (reply.Pages ps) [])))))
      go true = none_given (reply.Refused (refusal.NoSuchPage p.size)) refl
      go false = by_pages MakesNone m w o.file r.count r.first (λ ps. Say (replied w (reply.Pages ps) [])) (λ ps. none_given (reply.Pages ps) refl)

  write_none : (r : Run) (ps : List (List ℕ)) (o : Open) (p : Props) → MakesNone (run m (write_pages w r ps o p))
  write_none r ps o p = none_tested (page_past r p) (replied w reply.Plain (page_puts o.file r.first ps ++ mark_put o.file p (r.first + r.count))) (none_given reply.Plain refl)

  lock_none : (r : Run) (b : Bool) (x : Option Open) → MakesNone (run m (cond {A = Look} b (on_change w x (lock_pages w r)) (on_open w x (lock_pages w r))))
  lock_none r true x = none_change x (lock_pages w r) (λ o p. none_tested (page_past r p) (replied w reply.Plain []) (none_given reply.Plain refl))
  lock_none r false x = none_open x (lock_pages w r) (λ o p. none_tested (page_past r p) (replied w reply.Plain []) (none_given reply.Plain refl))

  grow_none : (size : ℕ) (o : Open) (p : Props) → MakesNone (run m (grow_file w size o p))
  grow_none size o p =
      none_tested ((is_over (owner_of (m (OwnerOf p.owner))) (size - p.size), quota_exceeded (owner_of (m (OwnerOf p.owner))) (size - p.size)) ∷ [])
      (replied w reply.Plain (Put (Leader o.file) (cell.Leader (record p { size = size })) ∷ charge_put p.owner (owner_of (m (OwnerOf p.owner))) ((owner_of (m (OwnerOf p.owner))).charge + (size - p.size)) ∷ []))
      (none_given reply.Plain refl)

  size_none : (size : ℕ) (o : Open) (p : Props) → MakesNone (run m (set_size w size o p))
  size_none size o p = go (size == p.size) (nat_lt size p.size)
    where
      go : (same less : Bool) → MakesNone (run m (cond {A = Look} same (put_props w o p) (cond {A = Look} less (cut_file w size o p) (grow_file w size o p))))
      go true less = none_given reply.Plain refl
      go false true = none_given reply.Plain refl
      go false false = grow_none size o p

  move_none : (who name : List ℕ) (o : Open) (p : Props) → MakesNone (run m (move_file w who name o p))
  move_none who name o p = go (same_name p.owner name)
    where
      moved : Answer
      moved = replied w reply.Plain (Put (Leader o.file) (cell.Leader (record p { owner = name })) ∷ charge_put p.owner (owner_of (m (OwnerOf p.owner))) ((owner_of (m (OwnerOf p.owner))).charge - p.size)
          ∷ charge_put name (owner_of (m (OwnerOf name))) ((owner_of (m (OwnerOf name))).charge + p.size) ∷ [])

      go : (same : Bool) → MakesNone (run m (cond {A = Look} same (Say (replied w reply.Plain []))
          (Ask (OwnerOf name) (λ nc. Ask (OwnerOf p.owner) (λ oc. Say (unless w (move_tests who name p.size nc) (replied w reply.Plain (
          Put (Leader o.file) (cell.Leader (record p { owner = name })) ∷ charge_put p.owner (owner_of oc) ((owner_of oc).charge - p.size)
          ∷ charge_put name (owner_of nc) ((owner_of nc).charge + p.size) ∷ []))))))))
      go true = none_given reply.Plain refl
      go false = none_tested (move_tests who name p.size (m (OwnerOf name))) moved (none_given reply.Plain refl)

  props_none : (who : List ℕ) (c : PropChange) (o : Open) (p : Props) → MakesNone (run m (write_props w who c o p))
  props_none who (prop.Owner n) o p = move_none who n o p
  props_none who (prop.Name n) o p = none_given reply.Plain refl
  props_none who (prop.TypeNo n) o p = none_given reply.Plain refl
  props_none who (prop.ByteLength n) o p = none_given reply.Plain refl
  props_none who (prop.Read l) o p = none_given reply.Plain refl
  props_none who (prop.Modify l) o p = none_given reply.Plain refl

pub makes_only : (server : ℕ) (made : List FileId) (m : View) (w : Own) (who : List ℕ) (c : Call) (r : Reply) → IsServedCall c → makes_file c ≡ false → (answer server made m who w c r).reply ≡ Some r → id_in r ≡ None
makes_only server made m w who (call.CreateFile t start choice) r is none = cc
makes_only server made m w who (call.OpenFile t f a mode choice) r is none =
    none_tested m w ((not (is_some (props_in (m (Leader f)))), refusal.UnknownFile) ∷ access_tests a who (props_of (m (Leader f)))) (record { reply = Some (reply.Opened (w.last + 1)); edits = []; own = opened w f a })
    (none_given (reply.Opened (w.last + 1)) refl) r
makes_only server made m w who (call.CloseFile t n) r is none = close_none m w n (open_at w.opens n) r
makes_only server made m w who (call.DeleteFile t n choice) r is none = none_change m w (open_at w.opens n) (delete_file w) (λ o p. none_given reply.Plain refl) r
makes_only server made m w who (call.ReadPages t n run mode choice) r is none = none_open m w (open_at w.opens n) (read_pages w run) (read_none m w run) r
makes_only server made m w who (call.WritePages t n run pages choice) r is none = none_change m w (open_at w.opens n) (write_pages w run pages) (write_none m w run pages) r
makes_only server made m w who (call.LockPages t n run mode choice) r is none = lock_none m w run (is_changing mode) (open_at w.opens n) r
makes_only server made m w who (call.SetSize t n size choice) r is none = none_change m w (open_at w.opens n) (set_size w size) (size_none m w size) r
makes_only server made m w who (call.ReadProps t n) r is none = none_open m w (open_at w.opens n) (λ o p. Say (replied w (reply.Props p) [])) (λ o p. none_given (reply.Props p) refl) r
makes_only server made m w who (call.WriteProps t n change choice) r is none = none_change m w (open_at w.opens n) (write_props w who change) (props_none m w who change) r
makes_only server made m w who (call.ReadOwner t name choice) r is none =
    none_tested m w ((not (is_some (owner_in (m (OwnerOf name)))), refusal.UnknownOwner) ∷ []) (replied w (reply.Owner (owner_of (m (OwnerOf name)))) []) (none_given (reply.Owner (owner_of (m (OwnerOf name)))) refl) r
makes_only server made m w who (call.MakeOwner t name quota create choice) r is none =
    none_tested m w ((is_some (owner_in (m (OwnerOf name))), refusal.OwnerExists) ∷ (not (is_admin who), refusal.AccessDenied lists.Admin) ∷ [])
    (replied w reply.Plain (Put (OwnerOf name) (cell.Owner (record { name = name; quota = quota; charge = 0; create = create })) ∷ [])) (none_given reply.Plain refl) r
makes_only server made m w who (call.SetQuota t name quota choice) r is none =
    none_tested m w ((not (is_some (owner_in (m (OwnerOf name)))), refusal.UnknownOwner) ∷ (not (is_admin who), refusal.AccessDenied lists.Admin) ∷ [])
    (replied w reply.Plain (Put (OwnerOf name) (cell.Owner (record (owner_of (m (OwnerOf name))) { quota = quota })) ∷ [])) (none_given reply.Plain refl) r
makes_only server made m w who c r is none = (let wrong : false ≡ true = is in cc)
