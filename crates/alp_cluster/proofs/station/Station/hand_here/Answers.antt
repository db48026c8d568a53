use Rattle.std.specs.Prelude.{Some}
use Rattle.std.proofs.Common.{◌≡◌, refl, subst, ◌∙◌, ap}
use Rattle.std.proofs.lemmas.Result.{IfOk-weaker}
use Rattle.alp_fields.specs.Forms.{whole}
use Rattle.alp_rpc.specs.Frames.{request}
use Rattle.alp_node.specs.NodeStates.{NodeState}
use Rattle.alp_cluster.specs.Exchanges.{IsHanded, EndsHanding}
use Rattle.alp_cluster.specs.Station.{standing}
use Rattle.alp_cluster.proofs.GoneLemmas.{end_map}
use Rattle.alp_cluster.proofs.StationLemmas.{one_of, leaves_server}
use Rattle.alp_cluster.proofs.station.Station.hand_here.Goals as goal

pub returns-clause-gone : goal.returns-clause-gone
returns-clause-gone g c =
    let is : c.args.self.now.server ≡ standing c.in-Some-Up.node = c.in-Some-Up.is ∙ ap Some c.in-Some-Up.field-0-is in
    leaves_server g.V.Vault (Unit {0}) c.args.self.now (standing c.hand.new.node) c.in-Some-Up.node c.hand.new.node.kept.vault c.hand.result is refl c.hand.ensures.gone

pub returns-clause-ended : goal.returns-clause-ended
returns-clause-ended g c =
    let is : c.args.self.now.server ≡ standing c.in-Some-Up.node = c.in-Some-Up.is ∙ ap Some c.in-Some-Up.field-0-is in
    end_map c.hand.result _ _
    (λ f ends n stood. (c.hand.new.node, refl, subst (λ (z : NodeState _). EndsHanding g.V.Vault f z c.hand.new.node (whole request c.args.frame.now)) (one_of c.args.self.now.server c.in-Some-Up.node n is stood) ends)) c.hand.ensures.ended

pub returns-clause-handed : goal.returns-clause-handed
returns-clause-handed g c =
    let is : c.args.self.now.server ≡ standing c.in-Some-Up.node = c.in-Some-Up.is ∙ ap Some c.in-Some-Up.field-0-is in
    IfOk-weaker c.hand.result _ _
    (λ h handed n stood. (
      c.hand.new.node,
      refl,
      subst (λ (z : NodeState _). IsHanded g.V.Vault z c.hand.new.node c.args.client c.args.frame.now (whole request c.args.frame.now) h) (one_of c.args.self.now.server c.in-Some-Up.node n is stood) handed,
    ))
    c.hand.ensures.handed

pub returns-clause-stands : goal.returns-clause-stands
returns-clause-stands g c = (c.hand.new.node, refl)
