-- what a call is answered, by how it is refused or else
use Rattle.std.specs.Prelude.{cond, Bool, true, false, Option, None, Some, zero, suc}
use Rattle.std.specs.List.{AllByRecursion}
use Rattle.std.proofs.Common.{◌≡◌, ℕ, ◌+◌, List, [], ◌∷◌, refl}
use Rattle.alp_base.specs.declared.ids.FileId.{FileId}
use Rattle.alp_base.specs.declared.key.Key.TheVariants.{Leader}
use Rattle.alp_base.specs.declared.choices.Access.{Access}
use Rattle.alp_base.specs.declared.choices.Access.TheVariants.{ReadOnly, Change}
use Rattle.alp_base.specs.declared.cell.Props.{Props}
use Rattle.alp_files.specs.declared.open.Open.{Open}
use Rattle.alp_files.specs.declared.refusal.Refusal.{Refusal}
use Rattle.alp_files.specs.declared.refusal.Refusal.TheVariants as refusal
use Rattle.alp_files.specs.Cells.{View, props_in}
use Rattle.alp_files.specs.Act.{Own, Answer, Look, Ask, run, unless, refused, on_open, on_props, on_change, if_change, ask_pages}

-- ---- whatever is answered

-- whatever refuses
pub by_tests : (P : Answer → Type 0) (w : Own) (tests : List (Bool × Refusal)) (a : Answer) → AllByRecursion (λ (t : Bool × Refusal). P (refused w t.1)) tests → P a → P (unless w tests a)
by_tests P w [] a refuses answers = answers
by_tests P w (t ∷ ts) a refuses answers = go t.0 (by_tests P w ts a refuses.1 answers)
  where
    go : (b : Bool) → P (unless w ts a) → P (cond {A = Answer} b (refused w t.1) (unless w ts a))
    go true more = refuses.0
    go false more = more

module _ (P : Answer → Type 0) (m : View) (w : Own) where
  -- on an open, whose file is there
  pub by_open : (x : Option Open) (next : Open → Props → Look) → P (refused w refusal.UnknownOpen) → ((o : Open) → x ≡ Some o → (p : Props) → P (run m (next o p))) → P (run m (on_open w x next))
  by_open None next unknown answers = unknown
  by_open (Some o) next unknown answers = there (props_in (m (Leader o.file))) (answers o refl)
    where
      there : (y : Option Props) → ((p : Props) → P (run m (next o p))) → P (run m (on_props w y (next o)))
      there None each = unknown
      there (Some p) each = each p

  -- on an open for change, whose file is there
  pub by_change : (x : Option Open) (next : Open → Props → Look) → P (refused w refusal.UnknownOpen) → P (refused w refusal.ReadOnlyOpen)
      → ((o : Open) → x ≡ Some o → o.access ≡ Change → (p : Props) → props_in (m (Leader o.file)) ≡ Some p → P (run m (next o p))) → P (run m (on_change w x next))
  by_change None next unknown closed answers = unknown
  by_change (Some o) next unknown closed answers = go o.access refl
    where
      there : (y : Option Props) → props_in (m (Leader o.file)) ≡ y → o.access ≡ Change → P (run m (on_props w y (next o)))
      there None e change = unknown
      there (Some p) e change = answers o refl change p e

      go : (a : Access) → o.access ≡ a → P (run m (if_change w a (Ask (Leader o.file) (λ lc. on_props w (props_in lc) (next o)))))
      go ReadOnly e = closed
      go Change e = there (props_in (m (Leader o.file))) refl e

  pub by_pages : (f : FileId) (n first : ℕ) (next : List (List ℕ) → Look) → ((ps : List (List ℕ)) → P (run m (next ps))) → P (run m (ask_pages f first n next))
  by_pages f zero first next h = h []
  by_pages f (suc n) first next h = by_pages f n (first + 1) _ (λ ps. h _)
