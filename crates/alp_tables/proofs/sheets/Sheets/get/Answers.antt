use Rattle.std.proofs.Common.{ap, sym, ◌∙◌}
use Rattle.std.specs.FinMap as map
use Rattle.std.specs.Cmp.{nat_cmp_total}
use Rattle.std.specs.FinMap.{nat_cmp-IsAntisymmetric}
use Rattle.alp_base.proofs.TreeLemmas.{get_at}
use Rattle.alp_tables.proofs.sheets.Sheets.get.Goals as goal

pub returns : goal.returns
returns c = c.get.ensures.value ∙ sym (get_at nat_cmp_total nat_cmp-IsAntisymmetric c.self.inside.pages.entries c.args.at) ∙ ap (λ m. map.get m c.args.at) c.self.view_is
