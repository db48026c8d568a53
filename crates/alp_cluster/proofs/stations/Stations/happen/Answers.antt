use Rattle.std.proofs.Common.{refl}
use Rattle.std.proofs.lemmas.Result.{on_ok_weaker}
use Rattle.alp_cluster.proofs.AtLemmas.{at_there, at_keeps}
use Rattle.alp_cluster.proofs.EventLemmas.{event_did}
use Rattle.alp_cluster.proofs.FillLemmas.{ends_at}
use Rattle.alp_cluster.proofs.GoneLemmas.{end_map}
use Rattle.alp_cluster.proofs.HandLemmas.{event_ends}
use Rattle.alp_cluster.proofs.StationsLemmas.{leaves_all}
use Rattle.alp_cluster.proofs.stations.Stations.happen.Goals as goal

pub happen-requires-clause-stands : goal.happen-requires-clause-stands
happen-requires-clause-stands g c = at_keeps g.V.Vault c.args.self.now c.requires.on c.args.server c.requires.server c.index_mut.result.now c.index_mut.ensures.value

pub returns-clause-gone : goal.returns-clause-gone
returns-clause-gone g c = leaves_all g.V.Vault c.args.self.now _ c.requires.on c.args.server c.requires.server c.index_mut.result.now c.happen.new.self (at_there c.args.self.now c.args.server c.requires.server c.index_mut.result.now c.index_mut.ensures.value) refl (Unit {0}) c.happen.result c.happen.ensures.gone

pub returns-clause-did : goal.returns-clause-did
returns-clause-did g c =
    let s = c.args.self.now in
    let x = c.index_mut.result.now in
    let (n, keeps) = at_keeps g.V.Vault s c.requires.on c.args.server c.requires.server x c.index_mut.ensures.value in
    let there = at_there s c.args.server c.requires.server x c.index_mut.ensures.value in
    on_ok_weaker c.happen.result (λ came h is. event_did g.V.Vault s _ c.requires.on c.args.server c.requires.server x c.happen.new.self there refl refl n keeps.stands h c.args.event is (came n keeps)) c.happen.ensures.came

pub returns-clause-ended : goal.returns-clause-ended
returns-clause-ended g c =
    let s = c.args.self.now in
    let x = c.index_mut.result.now in
    let (n, keeps) = at_keeps g.V.Vault s c.requires.on c.args.server c.requires.server x c.index_mut.ensures.value in
    let there = at_there s c.args.server c.requires.server x c.index_mut.ensures.value in
    end_map c.happen.result _ _
    (λ f ends h is. ends_at g.V.Vault s _ c.requires.on c.args.server h c.args.event is f (event_ends g.V.Vault s _ c.requires.on c.args.server c.requires.server x c.happen.new.self there refl refl n keeps.stands 0 c.args.event f (ends n keeps))) c.happen.ensures.ended
