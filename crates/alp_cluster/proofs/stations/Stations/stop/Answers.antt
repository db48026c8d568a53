use Rattle.std.specs.Prelude.{Ok}
use Rattle.std.proofs.Common.{refl}
use Rattle.alp_cluster.proofs.AtLemmas.{at_there, at_keeps}
use Rattle.alp_cluster.proofs.EventLemmas.{stop_did}
use Rattle.alp_cluster.proofs.StationsLemmas.{leaves_all}
use Rattle.alp_cluster.proofs.stations.Stations.stop.Goals as goal

pub stop-requires : goal.stop-requires
stop-requires g c = record { stands = at_keeps g.V.Vault c.args.self.now c.requires.on c.args.server c.requires.server c.index_mut.result.now c.index_mut.ensures.value }

pub returns-clause-gone : goal.returns-clause-gone
returns-clause-gone g c = leaves_all g.V.Vault c.args.self.now _ c.requires.on c.args.server c.requires.server c.index_mut.result.now c.stop.new.self (at_there c.args.self.now c.args.server c.requires.server c.index_mut.result.now c.index_mut.ensures.value) refl ⊥ (Ok tt) c.stop.ensures.gone

pub returns-clause-did : goal.returns-clause-did
returns-clause-did g c =
    let s = c.args.self.now in
    let x = c.index_mut.result.now in
    let (n, keeps) = at_keeps g.V.Vault s c.requires.on c.args.server c.requires.server x c.index_mut.ensures.value in
    let there = at_there s c.args.server c.requires.server x c.index_mut.ensures.value in
    stop_did g.V.Vault s _ c.requires.on c.args.server c.requires.server x c.stop.new.self there refl refl n keeps.stands c.args.calls (c.stop.ensures.went n keeps (g.V.Vault.tells n.kept.vault)) (c.stop.ensures.sets n keeps)
