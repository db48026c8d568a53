use Rattle.std.proofs.lemmas.Result.{IfOk-weaker}
use Rattle.alp_course.specs.Carries.{ArePairCarried, CarriesTo}
use Rattle.alp_cluster.proofs.DidLemmas.{gone_none, some_map}
use Rattle.alp_cluster.proofs.GoneLemmas.{end_map}
use Rattle.alp_cluster.proofs.SweepLemmas.{to_itself, other_word, say_map}
use Rattle.alp_cluster.proofs.stations.Stations.carry_to.Goals as goal

pub returns-then-from-to-clause-gone : goal.returns-then-from-to-clause-gone
returns-then-from-to-clause-gone g c = gone_none g.V.Vault (Unit {0}) c.args.self.now _

pub returns-then-from-to-clause-did : goal.returns-then-from-to-clause-did
returns-then-from-to-clause-did g c = to_itself g.V.Vault c.args.from c.args.to c.args.self.now c.requires.on c.if-from-to.true

pub carry_pair-requires-clause-apart : goal.carry_pair-requires-clause-apart
carry_pair-requires-clause-apart g c = record { sender = c.requires.from; receiver = c.requires.to; apart = c.if-from-to.false }

pub returns-clause-did : goal.returns-clause-did
returns-clause-did g c =
    IfOk-weaker c.carry_pair.result _ _
    (λ some d. say_map g.V.Vault (ArePairCarried c.args.from c.args.to) (CarriesTo c.args.from c.args.to) some c.args.self.now c.carry_pair.new.self (other_word g.V.Vault c.args.from c.args.to c.if-from-to.false) d) c.carry_pair.ensures.did

pub returns-clause-ended : goal.returns-clause-ended
returns-clause-ended g c =
    end_map c.carry_pair.result _ _
    (λ f d. some_map g.V.Vault (ArePairCarried c.args.from c.args.to) (CarriesTo c.args.from c.args.to) f c.args.self.now c.carry_pair.new.self (other_word g.V.Vault c.args.from c.args.to c.if-from-to.false) d) c.carry_pair.ensures.ended
