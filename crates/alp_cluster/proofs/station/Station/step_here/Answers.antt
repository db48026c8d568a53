use Rattle.std.specs.Prelude.{Some, Ok}
use Rattle.std.proofs.Common.{◌≡◌, refl, subst, ◌∙◌, ap}
use Rattle.alp_node.specs.NodeStates.{NodeState}
use Rattle.alp_cluster.specs.Servers.{Steps, EndsStep}
use Rattle.alp_cluster.specs.Station.{standing}
use Rattle.alp_cluster.proofs.GoneLemmas.{one_handed, one_ok, handed_on, end_on}
use Rattle.alp_cluster.proofs.StationLemmas.{one_of, leaves_server}
use Rattle.alp_cluster.proofs.station.Station.step_here.Goals as goal

pub returns-in_err-step-in-Some-Up-clause-gone : goal.returns-in_err-step-in-Some-Up-clause-gone
returns-in_err-step-in-Some-Up-clause-gone g c =
    let is : c.args.self.now.server ≡ standing c.in-Some-Up.node = c.in-Some-Up.is ∙ ap Some c.in-Some-Up.field-0-is in
    leaves_server g.V.Vault (Unit {0}) c.args.self.now (standing c.step.new.node) c.in-Some-Up.node c.step.new.node.kept.vault c.from_residual.result is refl
    (one_handed g.V.Vault (Unit {0}) c.in-Some-Up.node.kept.vault c.step.new.node.kept.vault c.in_err-step-in-Some-Up.field-0.0 c.from_residual.result c.in_err-step-in-Some-Up.ensures.gone
    (handed_on c.in_err-step-in-Some-Up.field-0.0 c.from_residual.result c.from_residual.ensures.0 c.from_residual.ensures.1))

pub returns-clause-gone : goal.returns-clause-gone
returns-clause-gone g c =
    let is : c.args.self.now.server ≡ standing c.in-Some-Up.node = c.in-Some-Up.is ∙ ap Some c.in-Some-Up.field-0-is in
    leaves_server g.V.Vault {T = Unit {0}} (Unit {0}) c.args.self.now (standing c.step.new.node) c.in-Some-Up.node c.step.new.node.kept.vault (Ok tt) is refl
    (one_ok g.V.Vault (Unit {0}) c.in-Some-Up.node.kept.vault c.step.new.node.kept.vault c.in_ok-step-in-Some-Up.field-0 (tt {0}) c.in_ok-step-in-Some-Up.ensures.gone)

pub returns-in_err-step-in-Some-Up-clause-ended : goal.returns-in_err-step-in-Some-Up-clause-ended
returns-in_err-step-in-Some-Up-clause-ended g c =
    let is : c.args.self.now.server ≡ standing c.in-Some-Up.node = c.in-Some-Up.is ∙ ap Some c.in-Some-Up.field-0-is in
    end_on c.in_err-step-in-Some-Up.field-0.0 c.from_residual.result _ _ (handed_on c.in_err-step-in-Some-Up.field-0.0 c.from_residual.result c.from_residual.ensures.0 c.from_residual.ensures.1)
    (λ f ends n stood. (c.step.new.node, refl, subst (λ (z : NodeState _). EndsStep g.V.Vault f z c.step.new.node c.args.event) (one_of c.args.self.now.server c.in-Some-Up.node n is stood) ends)) c.in_err-step-in-Some-Up.ensures.ended

pub returns-clause-came : goal.returns-clause-came
returns-clause-came g c = λ n stood.
    let is : c.args.self.now.server ≡ standing c.in-Some-Up.node = c.in-Some-Up.is ∙ ap Some c.in-Some-Up.field-0-is in (
      c.step.new.node,
      refl,
      (
        c.in_ok-step-in-Some-Up.field-0,
        subst (λ (z : NodeState _). Steps g.V.Vault z.kept.is_down z c.step.new.node c.args.event c.in_ok-step-in-Some-Up.field-0) (one_of c.args.self.now.server c.in-Some-Up.node n is stood) c.in_ok-step-in-Some-Up.ensures.steps,
      ),
    )

pub returns-in_err-step-in-Some-Up-clause-stands : goal.returns-in_err-step-in-Some-Up-clause-stands
returns-in_err-step-in-Some-Up-clause-stands g c = (c.step.new.node, refl)

pub returns-clause-stands : goal.returns-clause-stands
returns-clause-stands g c = (c.step.new.node, refl)
