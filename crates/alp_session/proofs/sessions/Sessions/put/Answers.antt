use Rattle.std.proofs.Common.{ap, sym, ◌∙◌}
use Rattle.std.specs.FinMap as map
use Rattle.std.specs.Cmp.{nat_cmp_total}
use Rattle.std.specs.FinMap.{nat_cmp-IsAntisymmetric}
use Rattle.alp_session.specs.Maps.{SessionMap}
use Rattle.alp_base.proofs.TreeLemmas.{put_at, get_at}
use Rattle.alp_files.proofs.UndoLemmas.{on_err}
use Rattle.alp_session.proofs.sessions.Sessions.put.Goals as goal

pub returns-in_err-insert-clause-absent : goal.returns-in_err-insert-clause-absent
returns-in_err-insert-clause-absent c =
    on_err c.from_residual.result _
    (ap (λ (m : SessionMap). map.get m c.args.server) (sym c.self.view_is) ∙ get_at nat_cmp_total nat_cmp-IsAntisymmetric c.self.inside.greeted.entries c.args.server ∙ c.in_err-insert.ensures.absent)

pub returns-clause-ok : goal.returns-clause-ok
returns-clause-ok c =
    put_at nat_cmp_total nat_cmp-IsAntisymmetric c.self.inside.greeted.entries c.insert.new.self.entries c.args.server c.args.greeted c.in_ok-insert.ensures.updates.0
    ∙ ap (λ (m : SessionMap). map.insert m c.args.server c.args.greeted) c.self.view_is
