use Rattle.std.proofs.Common.{[], ◌∷◌}
use Rattle.std.proofs.lemmas.Result.{on_ok_weaker}
use Rattle.alp_course.specs.Courses.{repeats}
use Rattle.alp_course.specs.Languages.{Just}
use Rattle.alp_course.specs.Plays.{OfTwo}
use Rattle.alp_cluster.proofs.DidLemmas.{did_map, some_map, gone_none}
use Rattle.alp_cluster.proofs.GoneLemmas.{end_map}
use Rattle.alp_cluster.proofs.OtherLemmas.{of_itself, of_other, did_none}
use Rattle.alp_cluster.proofs.stations.Stations.again_other.Goals as goal

pub returns-then-from-to-clause-gone : goal.returns-then-from-to-clause-gone
returns-then-from-to-clause-gone g c = gone_none g.V.Vault (Unit {0}) c.args.self.now (tt {0})

pub returns-then-from-to-clause-did : goal.returns-then-from-to-clause-did
returns-then-from-to-clause-did g c = did_none g.V.Vault (OfTwo c.args.from c.args.to (repeats c.args.from c.args.to)) c.args.self.now c.requires.on (of_itself c.args.from c.args.to (repeats c.args.from c.args.to) c.if-from-to.true)

pub again-requires-clause-apart : goal.again-requires-clause-apart
again-requires-clause-apart g c = record { sender = c.requires.from; receiver = c.requires.to; apart = c.if-from-to.false }

pub returns-clause-did : goal.returns-clause-did
returns-clause-did g c =
    let x = repeats c.args.from c.args.to in
    on_ok_weaker c.again.result (λ d. did_map g.V.Vault (Just (x ∷ [])) (OfTwo c.args.from c.args.to x) c.args.self.now c.again.new.self (of_other c.args.from c.args.to x c.if-from-to.false) d) c.again.ensures.did

pub returns-clause-ended : goal.returns-clause-ended
returns-clause-ended g c =
    let x = repeats c.args.from c.args.to in
    end_map c.again.result _ _ (λ f d. some_map g.V.Vault (Just (x ∷ [])) (OfTwo c.args.from c.args.to x) f c.args.self.now c.again.new.self (of_other c.args.from c.args.to x c.if-from-to.false) d) c.again.ensures.ended
