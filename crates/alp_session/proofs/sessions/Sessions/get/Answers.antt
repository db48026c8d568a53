use Rattle.std.proofs.Common.{ap, sym, ◌∙◌}
use Rattle.std.specs.FinMap as map
use Rattle.std.specs.Cmp.{nat_cmp_total}
use Rattle.std.specs.FinMap.{nat_cmp-IsAntisymmetric}
use Rattle.alp_session.specs.Maps.{SessionMap}
use Rattle.alp_base.proofs.TreeLemmas.{get_at}
use Rattle.alp_session.proofs.sessions.Sessions.get.Goals as goal

pub returns : goal.returns
returns c =
    c.copied.ensures ∙ c.get.ensures.value ∙ sym (get_at nat_cmp_total nat_cmp-IsAntisymmetric c.self.inside.greeted.entries c.args.server)
    ∙ ap (λ (m : SessionMap). map.get m c.args.server) c.self.view_is
