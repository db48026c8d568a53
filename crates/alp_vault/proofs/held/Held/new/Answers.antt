use Rattle.std.proofs.Common.{List, ℕ, refl, sym, ◌∙◌, ap, arith, length}
use Rattle.std.specs.List.{filter_map}
use Rattle.std.proofs.Common.{map as list_map}
use Rattle.alp_base.specs.declared.key.Key.{Key}
use Rattle.alp_base.specs.declared.cell.Cell.{Cell}
use Rattle.alp_files.specs.Counts.{name_at, owner_names_of}
use Rattle.alp_vault.proofs.CountLemmas.{none_held}
use Rattle.alp_vault.proofs.held.Held.new.Goals as goal

pub invariant_of-result : goal.invariant_of-result
invariant_of-result c = record {
  named =
      c.new-2.ensures.items ∙ ap (λ (es : List (Key × Cell)). filter_map name_at (list_map (λ e. e.0) es)) (sym none_held) ∙ ap owner_names_of (sym c.new.ensures);
  few = omega (arith, ap (λ (ns : List (List ℕ)). length ns) c.new-2.ensures.items);
}
