use Rattle.std.proofs.Common.{ap, sym, ◌∙◌}
use Rattle.std.specs.FinMap as map
use Rattle.std.specs.Cmp.{nat_cmp_total}
use Rattle.std.specs.FinMap.{nat_cmp-IsAntisymmetric}
use Rattle.alp_base.proofs.TreeLemmas.{entries_back, tree_sorted}
use Rattle.alp_tables.proofs.sheets.Sheets.images.Goals as goal

pub returns : goal.returns
returns c =
    c.in_ok-images.ensures.images
    ∙ sym (entries_back nat_cmp_total nat_cmp-IsAntisymmetric c.self.inside.pages.entries (tree_sorted nat_cmp_total nat_cmp-IsAntisymmetric c.self.inside.pages.entries c.in_ok-images.ensures.rising))
    ∙ ap map.entries c.self.view_is
