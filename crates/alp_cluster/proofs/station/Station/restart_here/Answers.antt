use Rattle.std.specs.Prelude.{Some}
use Rattle.std.proofs.Common.{◌≡◌, refl, sym, ◌∙◌, ap, subst}
use Rattle.alp_node.specs.NodeStates.{NodeState}
use Rattle.alp_cluster.specs.Servers.{IsOn, StartsAgain, StaysDown}
use Rattle.alp_cluster.specs.Station.{standing}
use Rattle.alp_cluster.specs.declared.fault.RunFault.TheVariants as fault
use Rattle.alp_cluster.proofs.StationLemmas.{one_of}
use Rattle.alp_cluster.proofs.station.Station.restart_here.Goals as goal

pub start_again-requires : goal.start_again-requires
start_again-requires g c =
    let (n, stands, on) = c.requires.stands in
    let is : c.args.self.now.server ≡ standing c.in-Some-Up.node = sym c.take.ensures.value ∙ c.in-Some-Up.is ∙ ap Some c.in-Some-Up.field-0-is in
    record { on = subst (λ (z : NodeState _). IsOn g.V.Vault z) (one_of c.args.self.now.server n c.in-Some-Up.node stands is) on }

pub returns-in-Ok-clause-starts : goal.returns-in-Ok-clause-starts
returns-in-Ok-clause-starts g c = λ n stands.
    let is : c.args.self.now.server ≡ standing c.in-Some-Up.node = sym c.take.ensures.value ∙ c.in-Some-Up.is ∙ ap Some c.in-Some-Up.field-0-is in
    (c.in-Ok.node, refl, subst (λ (z : NodeState _). StartsAgain g.V.Vault c.args.pick z c.in-Ok.node) (one_of c.args.self.now.server c.in-Some-Up.node n is stands) c.in-Ok.ensures)

pub returns-in-Err-clause-stays : goal.returns-in-Err-clause-stays
returns-in-Err-clause-stays g c = λ n stands.
    let is : c.args.self.now.server ≡ standing c.in-Some-Up.node = sym c.take.ensures.value ∙ c.in-Some-Up.is ∙ ap Some c.in-Some-Up.field-0-is in
    let same : c.in-Some-Up.node ≡ n = one_of c.args.self.now.server c.in-Some-Up.node n is stands in
    let (f, named, stays) = c.in-Err.ensures in
    (c.in-Err.down, f, refl, named ∙ ap (λ (z : NodeState _). fault.Start z.kept.server f) same, subst (λ (z : NodeState _). StaysDown g.V.Vault c.args.pick z c.in-Err.down f) same stays)
