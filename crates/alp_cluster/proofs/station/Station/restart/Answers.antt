use Rattle.std.specs.Prelude.{Err}
use Rattle.std.proofs.Common.{◌≡◌, refl, sym, ◌∙◌, ap, subst}
use Rattle.alp_cluster.specs.Servers.{HasGone}
use Rattle.alp_cluster.specs.Station.{EndsRestart}
use Rattle.alp_cluster.specs.declared.fault.RunFault.{RunFault}
use Rattle.alp_cluster.specs.declared.fault.RunFault.TheVariants as fault
use Rattle.alp_cluster.proofs.GoneLemmas.{handed_on, end_any}
use Rattle.alp_cluster.proofs.RestartLemmas.{stays_gone}
use Rattle.alp_cluster.proofs.StationLemmas.{leaves_wanting, leaves_server, again_leaves, again_went}
use Rattle.alp_cluster.proofs.station.Station.restart.Goals as goal

pub restart_here-requires : goal.restart_here-requires
restart_here-requires g c = (let (n, keeps) = c.requires.stands in record { stands = (n, c.push_rank.ensures.server ∙ keeps.stands, keeps.on) })

pub returns-in_err-push_rank-clause-gone : goal.returns-in_err-push_rank-clause-gone
returns-in_err-push_rank-clause-gone g c =
    leaves_wanting g.V.Vault (Unit {0}) c.args.self.now c.push_rank.new.self c.from_residual.result c.push_rank.ensures.server
    (handed_on fault.OutOfMemory c.from_residual.result c.from_residual.ensures.0 c.from_residual.ensures.1)

pub returns-in_err-restart_here-clause-gone : goal.returns-in_err-restart_here-clause-gone
returns-in_err-restart_here-clause-gone g c =
    let (n, keeps) = c.requires.stands in
    let (d, f, left, named, stays) = c.in_err-restart_here.ensures.stays n (c.push_rank.ensures.server ∙ keeps.stands) in
    let e : RunFault = c.in_err-restart_here.field-0.0 in
    let is = handed_on e c.from_residual-in_err-restart_here.result c.from_residual-in_err-restart_here.ensures.0 c.from_residual-in_err-restart_here.ensures.1 in
    leaves_server g.V.Vault (Unit {0}) c.args.self.now c.restart_here.new.self.server n d.vault c.from_residual-in_err-restart_here.result keeps.stands (rw left refl)
    (subst (λ r. HasGone g.V.Vault (Unit {0}) n.kept.vault d.vault r) (sym (is ∙ ap Err named)) (stays_gone g.V.Vault c.args.pick n keeps.on d (Unit {0}) f stays))

pub returns-in_err-push_rank-clause-ended : goal.returns-in_err-push_rank-clause-ended
returns-in_err-push_rank-clause-ended g c =
    end_any fault.OutOfMemory c.from_residual.result _ (handed_on fault.OutOfMemory c.from_residual.result c.from_residual.ensures.0 c.from_residual.ensures.1)
    (λ n keeps. record { server = c.push_rank.ensures.server; ranks = c.in_err-push_rank.ensures.refused; fused = c.push_rank.ensures.fused })

pub returns-in_err-restart_here-clause-ended : goal.returns-in_err-restart_here-clause-ended
returns-in_err-restart_here-clause-ended g c =
    let e : RunFault = c.in_err-restart_here.field-0.0 in
    end_any e c.from_residual-in_err-restart_here.result _ (handed_on e c.from_residual-in_err-restart_here.result c.from_residual-in_err-restart_here.ensures.0 c.from_residual-in_err-restart_here.ensures.1)
    (λ n keeps.
    let (d, f, left, named, stays) = c.in_err-restart_here.ensures.stays n (c.push_rank.ensures.server ∙ keeps.stands) in
    subst (λ (x : RunFault). EndsRestart g.V.Vault c.args.pick x c.args.self.now c.restart_here.new.self n) (sym named) (d, left, refl, stays))

pub returns-clause-gone : goal.returns-clause-gone
returns-clause-gone g c =
    let (n, keeps) = c.requires.stands in
    let (m, stands, again) = c.in_ok-restart_here.ensures.starts n (c.push_rank.ensures.server ∙ keeps.stands) in
    again_leaves g.V.Vault c.args.pick c.args.self.now c.restart_here.new.self.server n m keeps.stands again stands

pub returns-clause-went : goal.returns-clause-went
returns-clause-went g c = λ n keeps tells.
    let (m, stands, again) = c.in_ok-restart_here.ensures.starts n (c.push_rank.ensures.server ∙ keeps.stands) in
    again_went g.V.Vault c.args.pick tells c.args.self.now _ n m keeps again stands refl (ap (λ v. v.items) c.restart_here.ensures.ranks ∙ c.in_ok-push_rank.ensures.pushed)

pub returns-clause-again : goal.returns-clause-again
returns-clause-again g c = λ n keeps. c.in_ok-restart_here.ensures.starts n (c.push_rank.ensures.server ∙ keeps.stands)
