use Rattle.std.proofs.Common.{ap, ◌∙◌}
use Rattle.std.specs.FinMap as map
use Rattle.std.specs.Cmp.{nat_cmp_total}
use Rattle.std.specs.FinMap.{nat_cmp-IsAntisymmetric}
use Rattle.alp_base.proofs.TreeLemmas.{put_at}
use Rattle.alp_volume.proofs.before.Before.put.Goals as goal

pub returns : goal.returns
returns c =
    put_at nat_cmp_total nat_cmp-IsAntisymmetric c.self.inside.taken.entries c.insert.new.self.entries c.args.place c.args.taken c.in_ok-insert.ensures.updates.0
    ∙ ap (λ m. map.insert m c.args.place c.args.taken) c.self.view_is
