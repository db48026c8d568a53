use Rattle.std.proofs.Common.{ap, ◌∙◌}
use Rattle.std.specs.FinMap as map
use Rattle.std.specs.Cmp.{nat_cmp_total}
use Rattle.std.specs.FinMap.{nat_cmp-IsAntisymmetric}
use Rattle.alp_session.specs.Maps.{SessionMap}
use Rattle.alp_base.proofs.TreeLemmas.{remove_at}
use Rattle.alp_session.proofs.sessions.Sessions.forget.Goals as goal

pub returns : goal.returns
returns c =
    remove_at nat_cmp_total nat_cmp-IsAntisymmetric c.self.inside.greeted.entries c.remove.new.self.entries c.args.server c.remove.ensures.updates.0
    ∙ ap (λ (m : SessionMap). map.remove m c.args.server) c.self.view_is
