use Rattle.std.specs.Prelude.{take, length}
use Rattle.std.proofs.Common.{◌∙◌, ap}
use Rattle.std.proofs.lemmas.Result.{on_ok_weaker}
use Rattle.alp_cluster.specs.declared.fault.RunFault.TheVariants as fault
use Rattle.alp_cluster.proofs.GoneLemmas.{handed_on, end_any, end_map}
use Rattle.alp_cluster.proofs.StationLemmas.{leaves_wanting, leaves_on, came_by, push_by, event_by}
use Rattle.alp_cluster.proofs.station.Station.happen.Goals as goal

pub step_here-stepped-requires-clause-stands : goal.step_here-stepped-requires-clause-stands
step_here-stepped-requires-clause-stands g c = (let (n, keeps) = c.requires.stands in (n, c.push_rank.ensures.server ∙ keeps.stands, keeps.on))

pub returns-in_err-push_rank-clause-gone : goal.returns-in_err-push_rank-clause-gone
returns-in_err-push_rank-clause-gone g c =
    leaves_wanting g.V.Vault (Unit {0}) c.args.self.now c.push_rank.new.self c.from_residual.result c.push_rank.ensures.server
    (handed_on fault.OutOfMemory c.from_residual.result c.from_residual.ensures.0 c.from_residual.ensures.1)

pub returns-clause-gone : goal.returns-clause-gone
returns-clause-gone g c =
    leaves_on g.V.Vault (Unit {0}) c.args.self.now c.push_rank.new.self c.step_here-stepped.new.self c.drop_ranks.new.self c.step_here-stepped.result c.push_rank.ensures.server c.drop_ranks.ensures.server c.step_here-stepped.ensures.gone

pub returns-in_err-push_rank-clause-ended : goal.returns-in_err-push_rank-clause-ended
returns-in_err-push_rank-clause-ended g c =
    end_any fault.OutOfMemory c.from_residual.result _ (handed_on fault.OutOfMemory c.from_residual.result c.from_residual.ensures.0 c.from_residual.ensures.1)
    (λ n keeps. push_by g.V.Vault c.args.self.now c.push_rank.new.self n keeps c.push_rank.ensures.server c.push_rank.ensures.fused c.in_err-push_rank.ensures.refused)

pub returns-clause-ended : goal.returns-clause-ended
returns-clause-ended g c =
    end_map c.step_here-stepped.result _ _
    (λ f ends n keeps.
    let (m, stands, step) = ends n (c.push_rank.ensures.server ∙ keeps.stands) in
    event_by g.V.Vault c.args.seen c.args.self.now c.drop_ranks.new.self n m keeps (c.drop_ranks.ensures.server ∙ stands) (c.drop_ranks.ensures.fused ∙ c.step_here-stepped.ensures.fused ∙ c.push_rank.ensures.fused)
    (c.drop_ranks.ensures.dropped m stands ∙ ap (λ v. take (length m.journal) v.items) c.step_here-stepped.ensures.ranks ∙ ap (take (length m.journal)) c.in_ok-push_rank.ensures.pushed) c.args.event f step)
    c.step_here-stepped.ensures.ended

pub returns-clause-came : goal.returns-clause-came
returns-clause-came g c =
    on_ok_weaker c.step_here-stepped.result
    (λ came n keeps.
    let (m, stands, come) = came n (c.push_rank.ensures.server ∙ keeps.stands) in
    came_by g.V.Vault c.args.seen c.args.event c.args.self.now c.drop_ranks.new.self n m keeps c.requires.served (c.drop_ranks.ensures.server ∙ stands) come (c.drop_ranks.ensures.fused ∙ c.step_here-stepped.ensures.fused ∙ c.push_rank.ensures.fused)
    (c.drop_ranks.ensures.dropped m stands ∙ ap (λ v. take (length m.journal) v.items) c.step_here-stepped.ensures.ranks ∙ ap (take (length m.journal)) c.in_ok-push_rank.ensures.pushed))
    c.step_here-stepped.ensures.came
