use Rattle.std.proofs.Common.{refl}
use Rattle.std.proofs.lemmas.Result.{on_ok_weaker}
use Rattle.alp_cluster.proofs.AtLemmas.{at_there, at_keeps, at_number, ok_both}
use Rattle.alp_cluster.proofs.EventLemmas.{restart_did}
use Rattle.alp_cluster.proofs.FillLemmas.{no_restart}
use Rattle.alp_cluster.proofs.GoneLemmas.{end_map}
use Rattle.alp_cluster.proofs.StationsLemmas.{leaves_all}
use Rattle.alp_cluster.proofs.stations.Stations.restart.Goals as goal

pub restart-requires : goal.restart-requires
restart-requires g c = record { stands = at_keeps g.V.Vault c.args.self.now c.requires.on c.args.server c.requires.server c.index_mut.result.now c.index_mut.ensures.value }

pub returns-clause-gone : goal.returns-clause-gone
returns-clause-gone g c = leaves_all g.V.Vault c.args.self.now _ c.requires.on c.args.server c.requires.server c.index_mut.result.now c.restart.new.self (at_there c.args.self.now c.args.server c.requires.server c.index_mut.result.now c.index_mut.ensures.value) refl (Unit {0}) c.restart.result c.restart.ensures.gone

pub returns-clause-did : goal.returns-clause-did
returns-clause-did g c =
    let s = c.args.self.now in
    let x = c.index_mut.result.now in
    let (n, keeps) = at_keeps g.V.Vault s c.requires.on c.args.server c.requires.server x c.index_mut.ensures.value in
    let there = at_there s c.args.server c.requires.server x c.index_mut.ensures.value in
    on_ok_weaker c.restart.result (λ both. restart_did g.V.Vault s _ c.requires.on c.args.server c.requires.server x c.restart.new.self there refl refl n keeps.stands c.args.pick (both.0 n keeps (g.V.Vault.tells n.kept.vault)) (both.1 n keeps))
    (ok_both _ _ c.restart.result c.restart.ensures.went c.restart.ensures.again)

pub returns-clause-ended : goal.returns-clause-ended
returns-clause-ended g c =
    let s = c.args.self.now in
    let x = c.index_mut.result.now in
    let (n, keeps) = at_keeps g.V.Vault s c.requires.on c.args.server c.requires.server x c.index_mut.ensures.value in
    let there = at_there s c.args.server c.requires.server x c.index_mut.ensures.value in
    end_map c.restart.result _ _
    (λ f ends. no_restart g.V.Vault s _ c.requires.on c.args.server c.requires.server x c.restart.new.self there refl c.args.pick n keeps.stands (at_number g.V.Vault s c.requires.on c.args.server c.requires.server x there n keeps) refl f (ends n keeps)) c.restart.ensures.ended
