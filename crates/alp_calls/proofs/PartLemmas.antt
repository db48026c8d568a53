-- what one thread is told, call by call
use Rattle.std.specs.Prelude.{cond, Bool, true, false, not, ◌&&◌, ◌||◌, Option, None, Some, is_some, unwrap_or, nat_lt, Ok, Err}
use Rattle.std.proofs.Common.{◌≡◌, ℕ, zero, suc, ◌+◌, ◌-◌, List, [], ◌∷◌, refl, sym, ◌∙◌, ap, eq-eqb}
use Rattle.alp_base.specs.declared.ids.FileId.{FileId}
use Rattle.alp_base.specs.declared.ids.Run.{Run}
use Rattle.alp_base.specs.declared.key.Key.{Key}
use Rattle.alp_base.specs.declared.key.Key.TheVariants.{Leader, PageOf, OwnerOf}
use Rattle.alp_base.specs.declared.choices.Access.TheVariants.{ReadOnly, Change}
use Rattle.alp_base.specs.declared.choices.Access.{Access}
use Rattle.alp_files.specs.declared.call.PropChange.{PropChange}
use Rattle.alp_files.specs.declared.call.PropChange.TheVariants as prop
use Rattle.alp_base.specs.declared.cell.Cell.{Cell}
use Rattle.alp_base.specs.declared.cell.Cell.TheVariants as cell
use Rattle.alp_base.specs.declared.cell.Props.{Props}
use Rattle.alp_base.specs.declared.cell.OwnerRecord.{OwnerRecord}
use Rattle.alp_files.specs.declared.open.Open.{Open}
use Rattle.alp_files.specs.declared.reply.Reply.TheVariants as reply
use Rattle.alp_files.specs.declared.refusal.Refusal.{Refusal}
use Rattle.alp_files.specs.declared.refusal.Refusal.TheVariants as refusal
use Rattle.alp_files.specs.declared.refusal.ListName.{ListName}
use Rattle.alp_files.specs.declared.refusal.ListName.TheVariants as lists
use Rattle.alp_files.specs.Act.{Own, Answer, Look, run, unless, refused, replied, no_answer, admits, on_open, on_change, is_new, created_file, create_file, open_file, access_tests, read_pages, move_file, write_props, ask_pages, charge_put, opened}
use Rattle.alp_files.specs.Cells.{View, has_file, same_name, props_in, owner_in, page_in, no_owner, no_props, pages_at}
use Rattle.alp_files.specs.Edits.{Edit, Put}
use Rattle.alp_files.specs.Undo.{puts_of}
use Rattle.alp_calls.specs.Finds.{denied_by, found_on, props_with, charged}
use Rattle.alp_calls.specs.declared.finding.OpenedFile.{OpenedFile}
use Rattle.alp_calls.proofs.FindLemmas.{found_then, if_charged, tests_charge, charged_is}

-- ---- puts, as edits

pub two_edits : (puts : List (Key × Cell)) (k l : Key) (c d : Cell) → puts ≡ (k, c) ∷ (l, d) ∷ [] → puts_of puts ≡ Put k c ∷ Put l d ∷ []
two_edits puts k l c d is = ap (λ (xs : List (Key × Cell)). puts_of xs) is

module _ (m : View) (own : Own) where
  -- ---- CreateFile

  pub create_refused : (server : ℕ) (made : List FileId) (who : List ℕ) (start : Props) (f : Refusal)
      → charged who start.owner start.size (owner_in (m (OwnerOf start.owner))) ≡ Err f
      → run m (create_file server made own who start None) ≡ refused own f
  create_refused server made who start f is =
      tests_charge own who start.owner start.size (m (OwnerOf start.owner)) (no_answer own) ∙ ap (if_charged own (no_answer own)) is

  is_new-true : (made : List FileId) (f : FileId) (lc : Option Cell) → lc ≡ None → has_file f made ≡ false → is_new f.server made f lc ≡ true
  is_new-true made f lc none fresh =
      ap (λ (b : Bool). b && not (is_some lc) && not (has_file f made)) (eq-eqb f.server f.server refl)
      ∙ ap (λ (o : Option Cell). not (is_some o) && not (has_file f made)) none
      ∙ ap not fresh

  -- what a create says of an owner's record that may be there
  created_by : FileId → Props → Option OwnerRecord → Answer
  created_by f start oi = created_file own start (unwrap_or oi no_owner) f

  pub file_created : (who : List ℕ) (f : FileId) (start : Props) (new : OwnerRecord) (puts : List (Key × Cell))
      → charged who start.owner start.size (owner_in (m (OwnerOf start.owner))) ≡ Ok new → m (Leader f) ≡ None
      → puts_of puts ≡ Put (Leader f) (cell.Leader (record start { byte_length = 0; high_water = 0 })) ∷ Put (OwnerOf start.owner) (cell.Owner new) ∷ []
      → (made : List FileId) → has_file f made ≡ false
      → run m (create_file f.server made own who start (Some f)) ≡ record { reply = Some (reply.Created f (own.last + 1)); edits = puts_of puts; own = opened own f Change }
  unfolding created_by
  file_created who f start new puts is none are made fresh =
      let found = charged_is who start.owner start.size (owner_in (m (OwnerOf start.owner))) new is in
      let a : Answer = cond (is_new f.server made f (m (Leader f))) (created_by f start (owner_in (m (OwnerOf start.owner)))) (no_answer own) in
      tests_charge own who start.owner start.size (m (OwnerOf start.owner)) a ∙ ap (if_charged own a) is
      ∙ ap (λ (b : Bool). cond b (created_by f start (owner_in (m (OwnerOf start.owner)))) (no_answer own)) (is_new-true made f (m (Leader f)) none fresh)
      ∙ ap (created_by f start) found.there
      ∙ ap (λ (o : OwnerRecord). record {
        reply = Some (reply.Created f (own.last + 1));
        edits = Put (Leader f) (cell.Leader (record start { byte_length = 0; high_water = 0 })) ∷ Put (OwnerOf start.owner) (cell.Owner o) ∷ [];
        own = opened own f Change;
      }) (sym found.new_is)
      ∙ ap (λ (es : List Edit). record { reply = Some (reply.Created f (own.last + 1)); edits = es; own = opened own f Change }) (sym are)

  -- ---- OpenFile

  -- what an open says of the properties that may be there
  open_by : List ℕ → FileId → Access → Option Props → Answer
  open_by who f a pi = unless own ((not (is_some pi), refusal.UnknownFile) ∷ access_tests a who (unwrap_or pi no_props))
      (record { reply = Some (reply.Opened (own.last + 1)); edits = []; own = opened own f a })

  denied_answer : Option ListName → Answer → Answer
  denied_answer None a = a
  denied_answer (Some l) a = refused own (refusal.AccessDenied l)

  -- who is not admitted is refused by that list
  denied_says : (access : Access) (who : List ℕ) (p : Props) (a : Answer) → unless own (access_tests access who p) a ≡ denied_answer (denied_by access who p) a
  unfolding denied_answer
  denied_says ReadOnly who p a = elim (admits p.read who p.owner || admits p.modify who p.owner) as (λ b.
      cond (not b) (refused own (refusal.AccessDenied lists.Read)) a ≡ denied_answer (cond b None (Some lists.Read)) a) [ true ↦ refl | false ↦ refl ]
  denied_says Change who p a = elim (admits p.modify who p.owner) as (λ b.
      cond (not b) (refused own (refusal.AccessDenied lists.Modify)) a ≡ denied_answer (cond b None (Some lists.Modify)) a) [ true ↦ refl | false ↦ refl ]

  open_by-some : (who : List ℕ) (f : FileId) (a : Access) (p : Props)
      → open_by who f a (Some p) ≡ denied_answer (denied_by a who p) (record { reply = Some (reply.Opened (own.last + 1)); edits = []; own = opened own f a })
  unfolding open_by
  open_by-some who f a p = denied_says a who p (record { reply = Some (reply.Opened (own.last + 1)); edits = []; own = opened own f a })

  pub open_denied : (who : List ℕ) (f : FileId) (a : Access) (props : Props) (l : ListName)
      → props_in (m (Leader f)) ≡ Some props → denied_by a who props ≡ Some l
      → run m (open_file own who f a) ≡ refused own (refusal.AccessDenied l)
  unfolding open_by denied_answer
  open_denied who f a props l there denied =
      ap (open_by who f a) there ∙ open_by-some who f a props
      ∙ ap (λ (d : Option ListName). denied_answer d (record { reply = Some (reply.Opened (own.last + 1)); edits = []; own = opened own f a })) denied

  -- ---- ReadPages

  run-ask_pages : (f : FileId) (first n : ℕ) (next : List (List ℕ) → Look) → run m (ask_pages f first n next) ≡ run m (next (pages_at m f first n))
  run-ask_pages f first zero next = refl
  run-ask_pages f first (suc n) next = run-ask_pages f (first + 1) n (λ ps. next (page_in (m (PageOf f first)) ∷ ps))

  cond_run : (b c : Bool) (x y : Look) → b ≡ c → run m (cond b x y) ≡ run m (cond c x y)
  cond_run b c x y e = ap (λ (d : Bool). run m (cond d x y)) e

  pub pages_read : (oo : Option Open) (r : Run) (x : OpenedFile) (ps : List (List ℕ)) → found_on ReadOnly m oo ≡ Ok x → nat_lt x.props.size (r.first + r.count) ≡ false
      → ps ≡ pages_at m x.opened.file r.first r.count
      → run m (on_open own oo (read_pages own r)) ≡ replied own (reply.Pages ps) []
  pages_read oo r x ps is within pages =
      found_then ReadOnly m own oo (read_pages own r) x is
      ∙ cond_run _ false _ _ within
      ∙ run-ask_pages x.opened.file r.first r.count _
      ∙ ap (λ (y : List (List ℕ)). replied own (reply.Pages y) []) (sym pages)

  -- ---- WriteProps

  -- a change of another property than the owner
  pub props_put : (oo : Option Open) (who : List ℕ) (change : PropChange) (x : OpenedFile) → found_on Change m oo ≡ Ok x → ((n : List ℕ) → change ≡ prop.Owner n → ⊥)
      → run m (on_change own oo (write_props own who change)) ≡ replied own reply.Plain (Put (Leader x.opened.file) (cell.Leader (props_with change x.props)) ∷ [])
  props_put oo who change x is other = found_then Change m own oo (write_props own who change) x is ∙ go change other
    where
      go : (c : PropChange) → ((n : List ℕ) → c ≡ prop.Owner n → ⊥) → run m (write_props own who c x.opened x.props) ≡ replied own reply.Plain (Put (Leader x.opened.file) (cell.Leader (props_with c x.props)) ∷ [])
      go (prop.Owner n) other = absurd (other n refl)
      go (prop.Name n) other = refl
      go (prop.TypeNo n) other = refl
      go (prop.ByteLength n) other = refl
      go (prop.Read l) other = refl
      go (prop.Modify l) other = refl

  -- to another one, what is said of both records
  moved_by : List ℕ → OpenedFile → Option OwnerRecord → Option OwnerRecord → Answer
  moved_by name x ni oi = replied own reply.Plain (
      Put (Leader x.opened.file) (cell.Leader (record x.props { owner = name })) ∷ charge_put x.props.owner (unwrap_or oi no_owner) ((unwrap_or oi no_owner).charge - x.props.size)
      ∷ charge_put name (unwrap_or ni no_owner) ((unwrap_or ni no_owner).charge + x.props.size) ∷ [])

  pub move_refused : (who name : List ℕ) (x : OpenedFile) (f : Refusal) → same_name x.props.owner name ≡ false
      → charged who name x.props.size (owner_in (m (OwnerOf name))) ≡ Err f → run m (move_file own who name x.opened x.props) ≡ refused own f
  unfolding moved_by
  move_refused who name x f other is =
      let a : Answer = moved_by name x (owner_in (m (OwnerOf name))) (owner_in (m (OwnerOf x.props.owner))) in
      cond_run _ false _ _ other ∙ tests_charge own who name x.props.size (m (OwnerOf name)) a ∙ ap (if_charged own a) is
