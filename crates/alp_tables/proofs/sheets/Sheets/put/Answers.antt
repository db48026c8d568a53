use Rattle.std.proofs.Common.{ap, ◌∙◌}
use Rattle.std.specs.FinMap as map
use Rattle.std.specs.Cmp.{nat_cmp_total}
use Rattle.std.specs.FinMap.{nat_cmp-IsAntisymmetric}
use Rattle.alp_base.proofs.TreeLemmas.{put_at}
use Rattle.alp_tables.proofs.sheets.Sheets.put.Goals as goal

pub returns-clause-ok : goal.returns-clause-ok
returns-clause-ok c =
    put_at nat_cmp_total nat_cmp-IsAntisymmetric c.self.inside.pages.entries c.insert.new.self.entries c.args.at c.args.page c.in_ok-insert.ensures.updates.0
    ∙ ap (λ m. map.insert m c.args.at c.args.page) c.self.view_is
