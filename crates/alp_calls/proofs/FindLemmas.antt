-- what a thread is told that looks for an open, or for an owner
use Rattle.std.specs.Prelude.{cond, Bool, true, false, not, Option, None, Some, is_some, unwrap_or, Result, Ok, Err}
use Rattle.std.proofs.Common.{◌≡◌, ℕ, ◌+◌, List, [], ◌∷◌, refl, ◌∙◌, ap}
use Rattle.alp_base.specs.declared.choices.Access.{Access}
use Rattle.alp_base.specs.declared.choices.Access.TheVariants.{ReadOnly, Change}
use Rattle.alp_base.specs.declared.key.Key.TheVariants.{Leader}
use Rattle.alp_base.specs.declared.cell.Cell.{Cell}
use Rattle.alp_base.specs.declared.cell.OwnerRecord.{OwnerRecord}
use Rattle.alp_base.specs.declared.cell.Props.{Props}
use Rattle.alp_files.specs.declared.open.Open.{Open}
use Rattle.alp_files.specs.declared.refusal.ListName.TheVariants as lists
use Rattle.alp_files.specs.declared.refusal.Refusal.{Refusal}
use Rattle.alp_files.specs.declared.refusal.Refusal.TheVariants as refusal
use Rattle.alp_files.specs.Act.{Own, Answer, Look, Ask, run, unless, refused, admits, is_over, quota_exceeded, on_props, on_open, on_change, if_change, move_tests}
use Rattle.alp_files.specs.Cells.{View, props_in, owner_in, no_owner}
use Rattle.alp_calls.specs.Finds.{with_props, if_allowed, found_on, charged}
use Rattle.alp_calls.specs.declared.finding.OpenedFile.{OpenedFile}

-- ---- opens

-- a look on an open that may be used so
abbrev pub look_on : Access → Own → Option Open → (Open → Props → Look) → Look
look_on ReadOnly own oo next = on_open own oo next
look_on Change own oo next = on_change own oo next

-- what is said of what was found
abbrev pub on_found : View → Own → (Open → Props → Look) → Result OpenedFile Refusal → Answer
on_found m own next (Ok x) = run m (next x.opened x.props)
on_found m own next (Err f) = refused own f

props_found : (m : View) (own : Own) (o : Open) (next : Open → Props → Look) (pi : Option Props) → run m (on_props own pi (next o)) ≡ on_found m own next (with_props o pi)
props_found m own o next None = refl
props_found m own o next (Some p) = refl

look_found : (wanted : Access) (m : View) (own : Own) (oo : Option Open) (next : Open → Props → Look) → run m (look_on wanted own oo next) ≡ on_found m own next (found_on wanted m oo)
look_found ReadOnly m own None next = refl
look_found Change m own None next = refl
look_found ReadOnly m own (Some o) next = props_found m own o next (props_in (m (Leader o.file)))
look_found Change m own (Some o) next = go o.access
  where
    go : (a : Access) → run m (if_change own a (Ask (Leader o.file) (λ lc. on_props own (props_in lc) (next o)))) ≡ on_found m own next (if_allowed Change a (with_props o (props_in (m (Leader o.file)))))
    go ReadOnly = refl
    go Change = props_found m own o next (props_in (m (Leader o.file)))

-- an open that is there
pub found_then : (wanted : Access) (m : View) (own : Own) (oo : Option Open) (next : Open → Props → Look) (x : OpenedFile) → found_on wanted m oo ≡ Ok x
    → run m (look_on wanted own oo next) ≡ run m (next x.opened x.props)
found_then wanted m own oo next x is = look_found wanted m own oo next ∙ ap (on_found m own next) is

-- and one that is not, or may not be used so
pub found_refused : (wanted : Access) (m : View) (own : Own) (oo : Option Open) (next : Open → Props → Look) (f : Refusal) → found_on wanted m oo ≡ Err f
    → run m (look_on wanted own oo next) ≡ refused own f
found_refused wanted m own oo next f is = look_found wanted m own oo next ∙ ap (on_found m own next) is

-- ---- owners

-- what is said behind the tests of an owner who gets a file
abbrev pub if_charged : Own → Answer → Result OwnerRecord Refusal → Answer
if_charged own a (Ok o) = a
if_charged own a (Err f) = refused own f

-- the tests, on a record that may be there
abbrev charge_tests : (who name : List ℕ) → ℕ → Option OwnerRecord → List (Bool × Refusal)
charge_tests who name size oi =
    (not (is_some oi), refusal.UnknownOwner)
    ∷ (not (admits (unwrap_or oi no_owner).create who name), refusal.AccessDenied lists.Create)
    ∷ (is_over (unwrap_or oi no_owner) size, quota_exceeded (unwrap_or oi no_owner) size) ∷ []

pub tests_charge : (own : Own) (who name : List ℕ) (size : ℕ) (oc : Option Cell) (a : Answer) → unless own (move_tests who name size oc) a ≡ if_charged own a (charged who name size (owner_in oc))
tests_charge own who name size oc a = by (owner_in oc)
  where
    admitted : (o : OwnerRecord) (b c : Bool)
        → cond (not b) (refused own (refusal.AccessDenied lists.Create)) (cond c (refused own (quota_exceeded o size)) a)
        ≡ if_charged own a (cond b (cond c (Err (quota_exceeded o size)) (Ok (record o { charge = o.charge + size }))) (Err (refusal.AccessDenied lists.Create)))
    admitted o true true = refl
    admitted o true false = refl
    admitted o false c = refl

    by : (oi : Option OwnerRecord) → unless own (charge_tests who name size oi) a ≡ if_charged own a (charged who name size oi)
    by None = refl
    by (Some o) = admitted o (admits o.create who name) (is_over o size)

-- the record that is charged is the one that is there
pub record IsCharged (oi : Option OwnerRecord) (size : ℕ) (new : OwnerRecord) : Type 0 where
  pub old : OwnerRecord
  pub there : oi ≡ Some old
  pub new_is : new ≡ record old { charge = old.charge + size }

pub charged_is : (who name : List ℕ) (size : ℕ) (oi : Option OwnerRecord) (new : OwnerRecord) → charged who name size oi ≡ Ok new → IsCharged oi size new
charged_is who name size None new e = cc
charged_is who name size (Some o) new e = go (admits o.create who name) (is_over o size) e
  where
    go : (b c : Bool) → cond b (cond c (Err (quota_exceeded o size)) (Ok (record o { charge = o.charge + size }))) (Err (refusal.AccessDenied lists.Create)) ≡ Ok new → IsCharged (Some o) size new
    go true true h = cc
    go true false h = record { old = o; there = refl; new_is = cc }
    go false c h = cc
