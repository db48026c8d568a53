use Rattle.std.specs.Prelude.{nat_lt, map as list_map}
use Rattle.std.specs.List.{list_all}
use Rattle.std.proofs.Common.{ℕ, List, ap, sym, ◌∙◌}
use Rattle.std.specs.FinMap as map
use Rattle.std.specs.Cmp.{nat_cmp_total}
use Rattle.std.specs.FinMap.{nat_cmp-IsAntisymmetric}
use Rattle.alp_base.proofs.TreeLemmas.{entries_back, tree_sorted}
use Rattle.alp_tables.proofs.sheets.Sheets.are_below.Goals as goal

pub returns : goal.returns
returns c =
    c.all_below.ensures.below
    ∙ ap (λ (xs : List (ℕ × List ℕ)). list_all (λ (at : ℕ). nat_lt at c.args.home) (list_map (λ (e : ℕ × List ℕ). e.0) xs))
    (sym (entries_back nat_cmp_total nat_cmp-IsAntisymmetric c.self.inside.pages.entries (tree_sorted nat_cmp_total nat_cmp-IsAntisymmetric c.self.inside.pages.entries c.all_below.ensures.rising))
    ∙ ap map.entries c.self.view_is)
