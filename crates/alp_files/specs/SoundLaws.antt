-- Any two proofs that files are sound are one, so that a struct may carry such a proof.
use Rattle.std.specs.Prelude.{◌≡◌, ℕ, ◌<◌, Option, None, Some}
use Rattle.std.specs.Coded.{Coded, Coded-set, coded_ℕ, coded_list, coded_option, ×_prop, Unit-prop, le_prop}
use Rattle.std.proofs.Common.{sym, ◌∙◌, ap}
use mathlib.Core.HLevel.{Σ_prop_path}
use Rattle.alp_base.specs.declared.key.Key.{Key}
use Rattle.alp_base.specs.declared.key.Key.TheVariants.{Leader, PageOf, OwnerOf}
use Rattle.alp_base.specs.declared.cell.Cell.{Cell}
use Rattle.alp_base.specs.declared.cell.Cell.TheVariants as cell
use Rattle.alp_base.specs.declared.cell.Props.{Props}
use Rattle.alp_base.specs.declared.cell.OwnerRecord.{OwnerRecord}
use Rattle.alp_base.specs.contracts.cell.Cell as cell_type
use Rattle.alp_files.specs.Cells.{Cells, View}
use Rattle.alp_files.specs.Files.{AreFiles, IsOfKind}
use Rattle.alp_files.specs.Sound.{AreSound}

cell_code : Coded (Option Cell)
cell_code = coded_option cell_type.the_row.coded

same_cell : (a b : Option Cell) → IsProp (a ≡ b)
same_cell a b = Coded-set cell_code a b

IsOfKind-prop : (k : Key) (c : Cell) → IsProp (IsOfKind k c)
IsOfKind-prop (Leader f) (cell.Leader p) = Unit-prop
IsOfKind-prop (Leader f) (cell.Page bytes) = λ p q. absurd p
IsOfKind-prop (Leader f) (cell.Owner o) = λ p q. absurd p
IsOfKind-prop (PageOf f n) (cell.Leader p) = λ p q. absurd p
IsOfKind-prop (PageOf f n) (cell.Page bytes) = Unit-prop
IsOfKind-prop (PageOf f n) (cell.Owner o) = λ p q. absurd p
IsOfKind-prop (OwnerOf name) (cell.Leader p) = λ p q. absurd p
IsOfKind-prop (OwnerOf name) (cell.Page bytes) = λ p q. absurd p
IsOfKind-prop (OwnerOf name) (cell.Owner o) = Coded-set (coded_list coded_ℕ) o.name name

abbrev owner_or : OwnerRecord → Option Cell → OwnerRecord
owner_or d (Some (cell.Owner o)) = o
owner_or d (Some (cell.Page bytes)) = d
owner_or d (Some (cell.Leader p)) = d
owner_or d None = d

abbrev props_or : Props → Option Cell → Props
props_or d (Some (cell.Leader p)) = p
props_or d (Some (cell.Page bytes)) = d
props_or d (Some (cell.Owner o)) = d
props_or d None = d

below : (n k : ℕ) → IsProp (n < k)
below n k = le_prop

one_owner : (c : Option Cell) → IsProp ((o : OwnerRecord) × (c ≡ Some (cell.Owner o)))
one_owner c a b = Σ_prop_path (λ o. same_cell c (Some (cell.Owner o))) (ap (owner_or a.0) (sym a.1 ∙ b.1))

one_leader : (c : Option Cell) (n : ℕ) → IsProp ((p : Props) × (c ≡ Some (cell.Leader p)) × (n < p.size))
one_leader c n a b =
    let alike : ◌≡◌ {A = (p : Props) × ((c ≡ Some (cell.Leader p)) × (n < p.size))} (a.0, (a.1, a.2)) (b.0, (b.1, b.2)) =
    Σ_prop_path (λ p. ×_prop (same_cell c (Some (cell.Leader p))) (below n p.size)) (ap (props_or a.0) (sym a.1 ∙ b.1)) in
    λ i. ((alike i).0, (alike i).1.0, (alike i).1.1)

pub AreFiles-prop : (m : View) → IsProp (AreFiles m)
AreFiles-prop m a b = λ i. record {
  kinds = λ k c is. IsOfKind-prop k c (a.kinds k c is) (b.kinds k c is) i;
  owned = λ f p is. one_owner (m (OwnerOf p.owner)) (a.owned f p is) (b.owned f p is) i;
  paged = λ f n c is. one_leader (m (Leader f)) n (a.paged f n c is) (b.paged f n c is) i;
}

pub AreSound-prop : (m : Cells) → IsProp (AreSound m)
AreSound-prop m = ×_prop (AreFiles-prop _) (λ a b i owner o is. Coded-set coded_ℕ _ _ (a owner o is) (b owner o is) i)
