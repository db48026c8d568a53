use Rattle.std.proofs.Common.{refl}
use Rattle.std.proofs.lemmas.Result.{on_ok_weaker}
use Rattle.alp_journal.specs.declared.event.Event.TheVariants as event
use Rattle.alp_cluster.proofs.AtLemmas.{at_there, at_keeps}
use Rattle.alp_cluster.proofs.GoneLemmas.{end_map}
use Rattle.alp_cluster.proofs.HandLemmas.{arrived, event_ends}
use Rattle.alp_cluster.proofs.StationsLemmas.{leaves_all}
use Rattle.alp_cluster.proofs.stations.Stations.arrive.Goals as goal

pub happen-requires-clause-stands : goal.happen-requires-clause-stands
happen-requires-clause-stands g c = at_keeps g.V.Vault c.args.self.now c.requires.on c.args.to c.requires.to c.index_mut.result.now c.index_mut.ensures.value

pub returns-clause-gone : goal.returns-clause-gone
returns-clause-gone g c = leaves_all g.V.Vault c.args.self.now _ c.requires.on c.args.to c.requires.to c.index_mut.result.now c.happen.new.self (at_there c.args.self.now c.args.to c.requires.to c.index_mut.result.now c.index_mut.ensures.value) refl (Unit {0}) c.happen.result c.happen.ensures.gone

pub returns-clause-came : goal.returns-clause-came
returns-clause-came g c =
    let s = c.args.self.now in
    let x = c.index_mut.result.now in
    let (n, keeps) = at_keeps g.V.Vault s c.requires.on c.args.to c.requires.to x c.index_mut.ensures.value in
    let there = at_there s c.args.to c.requires.to x c.index_mut.ensures.value in
    on_ok_weaker c.happen.result (λ came. arrived g.V.Vault s _ c.requires.on c.args.to c.requires.to x c.happen.new.self there refl refl n keeps.stands c.args.from c.args.message c.args.seen (came n keeps)) c.happen.ensures.came

pub returns-clause-ended : goal.returns-clause-ended
returns-clause-ended g c =
    let s = c.args.self.now in
    let x = c.index_mut.result.now in
    let (n, keeps) = at_keeps g.V.Vault s c.requires.on c.args.to c.requires.to x c.index_mut.ensures.value in
    let there = at_there s c.args.to c.requires.to x c.index_mut.ensures.value in
    end_map c.happen.result _ _ (λ f ends. event_ends g.V.Vault s _ c.requires.on c.args.to c.requires.to x c.happen.new.self there refl refl n keeps.stands c.args.seen (event.Arrive c.args.from c.args.message) f (ends n keeps)) c.happen.ensures.ended
