use Rattle.std.specs.Prelude.{Ok}
use Rattle.std.proofs.Common.{refl}
use Rattle.alp_cluster.proofs.AtLemmas.{at_there, at_keeps}
use Rattle.alp_cluster.proofs.EventLemmas.{lift_did}
use Rattle.alp_cluster.proofs.StationsLemmas.{leaves_all}
use Rattle.alp_cluster.proofs.stations.Stations.lift.Goals as goal

pub lift-requires : goal.lift-requires
lift-requires g c = record { stands = at_keeps g.V.Vault c.args.self.now c.requires.on c.args.server c.requires.server c.index_mut.result.now c.index_mut.ensures.value }

pub returns-clause-gone : goal.returns-clause-gone
returns-clause-gone g c = leaves_all g.V.Vault c.args.self.now _ c.requires.on c.args.server c.requires.server c.index_mut.result.now c.lift.new.self (at_there c.args.self.now c.args.server c.requires.server c.index_mut.result.now c.index_mut.ensures.value) refl (Unit {0}) (Ok tt) c.lift.ensures.gone

pub returns-clause-did : goal.returns-clause-did
returns-clause-did g c =
    let s = c.args.self.now in
    let x = c.index_mut.result.now in
    let (n, keeps) = at_keeps g.V.Vault s c.requires.on c.args.server c.requires.server x c.index_mut.ensures.value in
    let there = at_there s c.args.server c.requires.server x c.index_mut.ensures.value in
    lift_did g.V.Vault s _ c.requires.on c.args.server c.requires.server x c.lift.new.self there refl refl n keeps.stands c.lift.result (c.lift.ensures.went n keeps (g.V.Vault.tells n.kept.vault))
