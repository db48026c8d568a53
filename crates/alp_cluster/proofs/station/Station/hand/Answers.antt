use Rattle.std.specs.Prelude.{take, length}
use Rattle.std.proofs.Common.{◌∙◌, ap}
use Rattle.std.proofs.lemmas.Result.{IfOk-weaker}
use Rattle.alp_fields.specs.Forms.{whole}
use Rattle.alp_rpc.specs.Frames.{request}
use Rattle.alp_cluster.specs.declared.fault.RunFault.TheVariants as fault
use Rattle.alp_cluster.proofs.GoneLemmas.{handed_on, end_any, end_map}
use Rattle.alp_cluster.proofs.StationLemmas.{leaves_wanting, leaves_on, push_by, frame_by, frame_wants}
use Rattle.alp_cluster.proofs.station.Station.hand.Goals as goal

pub hand_here-handed-requires-clause-stands : goal.hand_here-handed-requires-clause-stands
hand_here-handed-requires-clause-stands g c = (let (n, keeps) = c.requires.stands in (n, c.push_rank.ensures.server ∙ keeps.stands, keeps.on))

pub returns-in_err-push_rank-clause-gone : goal.returns-in_err-push_rank-clause-gone
returns-in_err-push_rank-clause-gone g c =
    leaves_wanting g.V.Vault (Unit {0}) c.args.self.now c.push_rank.new.self c.from_residual.result c.push_rank.ensures.server
    (handed_on fault.OutOfMemory c.from_residual.result c.from_residual.ensures.0 c.from_residual.ensures.1)

pub returns-clause-gone : goal.returns-clause-gone
returns-clause-gone g c =
    leaves_on g.V.Vault (Unit {0}) c.args.self.now c.push_rank.new.self c.hand_here-handed.new.self c.drop_ranks.new.self c.hand_here-handed.result c.push_rank.ensures.server c.drop_ranks.ensures.server c.hand_here-handed.ensures.gone

pub returns-in_err-push_rank-clause-ended : goal.returns-in_err-push_rank-clause-ended
returns-in_err-push_rank-clause-ended g c =
    end_any fault.OutOfMemory c.from_residual.result _ (handed_on fault.OutOfMemory c.from_residual.result c.from_residual.ensures.0 c.from_residual.ensures.1)
    (λ n keeps. frame_wants g.V.Vault c.args.self.now c.push_rank.new.self n (whole request c.args.frame.now) (push_by g.V.Vault c.args.self.now c.push_rank.new.self n keeps c.push_rank.ensures.server c.push_rank.ensures.fused c.in_err-push_rank.ensures.refused))

pub returns-clause-ended : goal.returns-clause-ended
returns-clause-ended g c =
    end_map c.hand_here-handed.result _ _
    (λ f ends n keeps.
    let (m, stands, step) = ends n (c.push_rank.ensures.server ∙ keeps.stands) in
    frame_by g.V.Vault c.args.self.now c.drop_ranks.new.self n m keeps (c.drop_ranks.ensures.server ∙ stands) (c.drop_ranks.ensures.fused ∙ c.hand_here-handed.ensures.fused ∙ c.push_rank.ensures.fused)
    (c.drop_ranks.ensures.dropped m stands ∙ ap (λ v. take (length m.journal) v.items) c.hand_here-handed.ensures.ranks ∙ ap (take (length m.journal)) c.in_ok-push_rank.ensures.pushed) f (whole request c.args.frame.now) step)
    c.hand_here-handed.ensures.ended

pub returns-clause-handed : goal.returns-clause-handed
returns-clause-handed g c =
    IfOk-weaker c.hand_here-handed.result _ _
    (λ h handed n keeps.
    let (m, stands, made) = handed n (c.push_rank.ensures.server ∙ keeps.stands) in
    record {
      after = m;
      stands = c.drop_ranks.ensures.server ∙ stands;
      fused = c.drop_ranks.ensures.fused ∙ c.hand_here-handed.ensures.fused ∙ c.push_rank.ensures.fused;
      handed = made;
      ranks = c.drop_ranks.ensures.dropped m stands ∙ ap (λ v. take (length m.journal) v.items) c.hand_here-handed.ensures.ranks ∙ ap (take (length m.journal)) c.in_ok-push_rank.ensures.pushed;
    })
    c.hand_here-handed.ensures.handed
