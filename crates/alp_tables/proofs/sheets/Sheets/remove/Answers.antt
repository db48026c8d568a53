use Rattle.std.proofs.Common.{ap, ◌∙◌}
use Rattle.std.specs.FinMap as map
use Rattle.std.specs.Cmp.{nat_cmp_total}
use Rattle.std.specs.FinMap.{nat_cmp-IsAntisymmetric}
use Rattle.alp_base.proofs.TreeLemmas.{remove_at}
use Rattle.alp_tables.proofs.sheets.Sheets.remove.Goals as goal

pub returns : goal.returns
returns c =
    remove_at nat_cmp_total nat_cmp-IsAntisymmetric c.self.inside.pages.entries c.remove.new.self.entries c.args.at c.remove.ensures.updates.0
    ∙ ap (λ m. map.remove m c.args.at) c.self.view_is
