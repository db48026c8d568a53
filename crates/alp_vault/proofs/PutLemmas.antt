-- puts, taken back
use Rattle.std.specs.Prelude.{None, Some, cond, Bool, true, false}
use Rattle.std.specs.FinMap as map
use Rattle.std.specs.FinMap.{get-insert, get-remove, same_map}
use Rattle.std.specs.Ordering.{eq_by_cmp}
use Rattle.std.proofs.Common.{◌≡◌, refl, sym, ◌∙◌, ap}
use Rattle.alp_base.specs.declared.key.Key.{Key}
use Rattle.alp_base.specs.Keys.{key_cmp}
use Rattle.alp_base.specs.KeyLaws.{keys_total, exact_keys}
use Rattle.alp_base.specs.declared.cell.Cell.{Cell}
use Rattle.alp_files.specs.Cells.{Cells}
use Rattle.alp_files.proofs.SameLemmas.{same_key-true}

-- the cell at a key that had none, taken away again
pub one_gone : (m now new : Cells) (k : Key) (c : Cell) → map.get m k ≡ None → now ≡ map.insert m k c → new ≡ map.remove now k → new ≡ m
one_gone m now new k c none put gone = gone ∙ ap (λ (x : Cells). map.remove x k) put ∙ same_map keys_total exact_keys _ _ (λ q.
    get-remove keys_total (map.insert m k c) k q ∙ ap (cond (eq_by_cmp key_cmp q k) None) (get-insert keys_total m k c q) ∙ go q (eq_by_cmp key_cmp q k) refl)
  where
    go : (q : Key) (t : Bool) → eq_by_cmp key_cmp q k ≡ t → cond t None (cond t (Some c) (map.get m q)) ≡ map.get m q
    go q true e = sym (ap (map.get m) (same_key-true q k e) ∙ none)
    go q false e = refl
