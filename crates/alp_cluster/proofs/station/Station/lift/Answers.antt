use Rattle.std.specs.Prelude.{Bool, false, Ok, Some}
use Rattle.std.proofs.Common.{◌≡◌, refl, sym, ◌∙◌, ap, subst}
use Rattle.alp_node.specs.NodeStates.{NodeState}
use Rattle.alp_course.specs.Happens.{Happens, lifts}
use Rattle.alp_cluster.specs.Servers.{IsOn, IsLifted}
use Rattle.alp_cluster.specs.Station.{standing, WentBy}
use Rattle.alp_cluster.proofs.RestartLemmas.{lifted_gone, lifted_down}
use Rattle.alp_cluster.proofs.StationLemmas.{one_of, leaves_server, lift_went}
use Rattle.alp_cluster.proofs.station.Station.lift.Goals as goal

pub returns-clause-gone : goal.returns-clause-gone
returns-clause-gone g c =
    let (n, keeps) = c.requires.stands in
    let is : c.args.self.now.server ≡ standing c.in-Some-Up.node = c.in-Some-Up.is ∙ ap Some c.in-Some-Up.field-0-is in
    let same : n ≡ c.in-Some-Up.node = one_of c.args.self.now.server n c.in-Some-Up.node keeps.stands is in
    let lifted : IsLifted g.V.Vault c.in-Some-Up.node c.stop_after.new.self = record { kept = c.knows.ensures; same = c.stop_after.ensures.same; faults = c.stop_after.ensures.faults; rest = c.stop_after.ensures.kept; free = c.stop_after.ensures.allowance } in
    leaves_server g.V.Vault {T = Unit {0}} (Unit {0}) c.args.self.now (standing c.stop_after.new.self) c.in-Some-Up.node c.stop_after.new.self.kept.vault (Ok tt) is refl
    (lifted_gone g.V.Vault c.in-Some-Up.node c.stop_after.new.self (subst (λ (z : NodeState _). IsOn g.V.Vault z) same keeps.on) lifted (Unit {0}) tt)

pub returns-clause-went : goal.returns-clause-went
returns-clause-went g c = λ n keeps tells.
    let is : c.args.self.now.server ≡ standing c.in-Some-Up.node = c.in-Some-Up.is ∙ ap Some c.in-Some-Up.field-0-is in
    let same : c.in-Some-Up.node ≡ n = one_of c.args.self.now.server c.in-Some-Up.node n is keeps.stands in
    let lifted : IsLifted g.V.Vault c.in-Some-Up.node c.stop_after.new.self = record { kept = c.knows.ensures; same = c.stop_after.ensures.same; faults = c.stop_after.ensures.faults; rest = c.stop_after.ensures.kept; free = c.stop_after.ensures.allowance } in
    let here : IsLifted g.V.Vault n c.stop_after.new.self = subst (λ (z : NodeState _). IsLifted g.V.Vault z c.stop_after.new.self) same lifted in
    let told : n.kept.is_down ≡ c.is_down.result = sym (c.is_down.ensures ∙ lifted_down g.V.Vault n c.stop_after.new.self keeps.on here) in
    subst (λ (b : Bool). WentBy g.V.Vault 0 (λ w es v. Happens tells w (lifts b) es v) c.args.self.now (record { server = standing c.stop_after.new.self; ranks = c.args.self.now.ranks; is_fused = false }) n) told
    (lift_went g.V.Vault tells c.args.self.now (record { server = standing c.stop_after.new.self; ranks = c.args.self.now.ranks; is_fused = false }) n c.stop_after.new.self keeps here refl refl refl)
