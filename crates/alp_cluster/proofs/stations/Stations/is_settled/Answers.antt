use Rattle.std.specs.Prelude.{Bool, true, false, slice_get, Some}
use Rattle.std.proofs.Common.{◌≡◌, ◌<◌, ◌≤◌, List, length, get_or, ◌∙◌, sym, subst, ap, arith}
use Rattle.alp_cluster.specs.Station.{seat_of}
use Rattle.alp_cluster.specs.declared.station.Station.{Station}
use Rattle.alp_cluster.proofs.LoopLemmas.{stands_at}
use Rattle.alp_cluster.proofs.OpenLemmas.{TellsItsRest, rest_none, rest_more, its_rest, tells_rest, tells_unrest, read_at}
use Rattle.alp_cluster.proofs.stations.Stations.is_settled.Goals as goal

pub loop-station-init : goal.loop-station-init
loop-station-init g c = rest_none g.V.Vault c.args.self.now.all.items

pub node-requires : goal.node-requires
node-requires g c =
    let s = c.args.self.now in
    let there = read_at s.all.items c.deref-station-items.result.now c.deref-station-items.ensures.value c.loop-station.station-index c.station-item.result c.loop-station-test.true c.station-item.is in
    record { stands = stands_at g.V.Vault s c.requires.on c.loop-station.station-index c.station-item.result there }

pub returns-then-not-is_settled : goal.returns-then-not-is_settled
returns-then-not-is_settled g c =
    let s = c.args.self.now in
    let x = c.station-item.result in
    let there = read_at s.all.items c.deref-station-items.result.now c.deref-station-items.ensures.value c.loop-station.station-index x c.loop-station-test.true c.station-item.is in
    tells_unrest g.V.Vault s c.loop-station.station-index x there
    (subst (λ (b : Bool). TellsItsRest g.V.Vault b (seat_of g.V.Vault x)) c.if-not-is_settled.true (its_rest g.V.Vault x c.node.result.now c.node.ensures.is c.is_settled.result c.is_settled.ensures))

pub loop-station-preserved : goal.loop-station-preserved
loop-station-preserved g c =
    let s = c.args.self.now in
    let x = c.station-item.result in
    let there = read_at s.all.items c.deref-station-items.result.now c.deref-station-items.ensures.value c.loop-station.station-index x c.loop-station-test.true c.station-item.is in
    rest_more g.V.Vault s.all.items c.loop-station.station-index x c.loop-station.invariant there
    (subst (λ (b : Bool). TellsItsRest g.V.Vault b (seat_of g.V.Vault x)) c.if-not-is_settled.false (its_rest g.V.Vault x c.node.result.now c.node.ensures.is c.is_settled.result c.is_settled.ensures))

pub returns : goal.returns
returns g c =
    let s = c.args.self.now in
    tells_rest g.V.Vault s c.loop-station.station-index (subst (λ (xs : List (Station _)). length xs ≤ c.loop-station.station-index) c.deref-station-items.ensures.value c.loop-station-test.false) c.loop-station.invariant
