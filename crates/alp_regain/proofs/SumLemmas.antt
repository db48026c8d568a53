-- numbers of pages by owners' names
use Rattle.std.specs.Prelude.{cond, Bool, true, false, Option, Some, unwrap_or}
use Rattle.std.specs.FinMap as map
use Rattle.std.specs.FinMap.{get-insert, get-empty}
use Rattle.std.specs.Ordering.{eq_by_cmp}
use Rattle.std.specs.Cmp.{eq_by_cmp_equiv}
use Rattle.std.proofs.Common.{◌≡◌, ℕ, ◌+◌, ◌≤◌, List, refl, sym, ◌∙◌, ap, arith}
use Rattle.std.proofs.lemmas.Map.Views.{tells_apart}
use Rattle.alp_files.specs.Cells.{same_name}
use Rattle.alp_files.proofs.SameLemmas.{same_name-itself, other_name}
use Rattle.alp_regain.specs.Sums.{name_cmp, Charges, charge_at, pages_for}
pub use Rattle.std.specs.Cmp.Lexicographic.{nat_list_cmp_total}
pub use Rattle.std.proofs.lemmas.Map.Lookups.{exact_bytes}

pub none_charged : (name : List ℕ) → charge_at map.empty name ≡ 0
none_charged name = ap (λ (o : Option ℕ). unwrap_or o 0) (get-empty name_cmp name)

-- one owner is charged more, and no other
pub added : (t : Charges) (owner : List ℕ) (pages : ℕ) (name : List ℕ) → charge_at (map.insert t owner (charge_at t owner + pages)) name ≡ charge_at t name + pages_for owner pages name
added t owner pages name =
    ap (λ (o : Option ℕ). unwrap_or o 0) (get-insert nat_list_cmp_total t owner (charge_at t owner + pages) name) ∙ go (eq_by_cmp name_cmp name owner) refl
  where
    go : (b : Bool) → eq_by_cmp name_cmp name owner ≡ b → unwrap_or (cond b (Some (charge_at t owner + pages)) (map.get t name)) 0 ≡ charge_at t name + pages_for owner pages name
    go true e =
        let same : name ≡ owner = tells_apart exact_bytes name owner e in
        let mine : same_name owner name ≡ true = ap (same_name owner) same ∙ same_name-itself owner in
        (λ i. charge_at t (sym same i) + cond {A = ℕ} (sym mine i) pages 0)
    go false e =
        let others : same_name owner name ≡ false = other_name owner name (λ same. (let yes : eq_by_cmp name_cmp name owner ≡ true = ap (eq_by_cmp name_cmp name) same ∙ (eq_by_cmp_equiv nat_list_cmp_total).refl name in cc)) in
        let none : pages_for owner pages name ≡ 0 = ap (λ (b : Bool). cond {A = ℕ} b pages 0) others in
        omega (arith, none)

pub few_for : (owner : List ℕ) (pages : ℕ) (name : List ℕ) → pages_for owner pages name ≤ pages
few_for owner pages name = go (same_name owner name)
  where
    go : (b : Bool) → cond {A = ℕ} b pages 0 ≤ pages
    go true = omega arith
    go false = omega arith
