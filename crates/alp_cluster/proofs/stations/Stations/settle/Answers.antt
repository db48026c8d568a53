use Rattle.std.specs.Prelude.{Ok}
use Rattle.std.proofs.Common.{ℕ, length, ◌∙◌}
use Rattle.std.proofs.lemmas.Result.{on_ok_weaker}
use Rattle.alp_course.specs.Languages.{Then, Each}
use Rattle.alp_course.specs.Settles.{IsLifted, AreTimedOut, AreRounds}
use Rattle.alp_course.proofs.LanguageLemmas.{then_has}
use Rattle.alp_course.proofs.WordLemmas.{timed_all, rounds_has}
use Rattle.alp_cluster.proofs.CarryLemmas.{count_later}
use Rattle.alp_cluster.proofs.DidLemmas.{gone_both, all_handed, all_on, did_then, some_first, some_second}
use Rattle.alp_cluster.proofs.GoneLemmas.{end_on, end_map, handed_on}
use Rattle.alp_cluster.proofs.LoopLemmas.{did_count, some_count, lifted_all_up}
use Rattle.alp_cluster.proofs.stations.Stations.settle.Goals as goal

pub returns-in_err-lift_all-clause-gone : goal.returns-in_err-lift_all-clause-gone
returns-in_err-lift_all-clause-gone g c =
    all_handed g.V.Vault (Unit {0}) c.args.self.now c.lift_all.new.self c.in_err-lift_all.field-0.0 c.from_residual.result c.in_err-lift_all.ensures.gone
    (handed_on c.in_err-lift_all.field-0.0 c.from_residual.result c.from_residual.ensures.0 c.from_residual.ensures.1)

pub returns-in_err-lift_all-clause-ended : goal.returns-in_err-lift_all-clause-ended
returns-in_err-lift_all-clause-ended g c =
    let s = c.args.self.now in
    let n = length s.all.items in
    end_on c.in_err-lift_all.field-0.0 c.from_residual.result _ _ (handed_on c.in_err-lift_all.field-0.0 c.from_residual.result c.from_residual.ensures.0 c.from_residual.ensures.1)
    (λ f d. some_first g.V.Vault (Each IsLifted n) (Then (Each AreTimedOut n) (AreRounds n 8)) f s c.lift_all.new.self (then_has (Each AreTimedOut n) (AreRounds n 8) (timed_all n) (rounds_has n 8)) d) c.in_err-lift_all.ensures.ended

pub time_out_all-requires-clause-on : goal.time_out_all-requires-clause-on
time_out_all-requires-clause-on g c = c.in_ok-lift_all.ensures.did.goes.later.on

pub time_out_all-requires-clause-up : goal.time_out_all-requires-clause-up
time_out_all-requires-clause-up g c = lifted_all_up g.V.Vault c.args.self.now c.lift_all.new.self c.in_ok-lift_all.ensures.did

pub returns-in_err-time_out_all-clause-gone : goal.returns-in_err-time_out_all-clause-gone
returns-in_err-time_out_all-clause-gone g c =
    all_on g.V.Vault (Unit {0}) c.args.self.now c.lift_all.new.self c.time_out_all.new.self _ c.in_err-time_out_all.field-0.0 c.from_residual-in_err-time_out_all.result c.in_ok-lift_all.ensures.did.goes.later.on c.in_ok-lift_all.ensures.gone
    c.in_err-time_out_all.ensures.gone
    (handed_on c.in_err-time_out_all.field-0.0 c.from_residual-in_err-time_out_all.result c.from_residual-in_err-time_out_all.ensures.0 c.from_residual-in_err-time_out_all.ensures.1)

pub returns-in_err-time_out_all-clause-ended : goal.returns-in_err-time_out_all-clause-ended
returns-in_err-time_out_all-clause-ended g c =
    let s = c.args.self.now in
    let a = c.lift_all.new.self in
    let n = length s.all.items in
    end_on c.in_err-time_out_all.field-0.0 c.from_residual-in_err-time_out_all.result _ _
    (handed_on c.in_err-time_out_all.field-0.0 c.from_residual-in_err-time_out_all.result c.from_residual-in_err-time_out_all.ensures.0 c.from_residual-in_err-time_out_all.ensures.1)
    (λ f d. some_second g.V.Vault (Each IsLifted n) (Then (Each AreTimedOut n) (AreRounds n 8)) f s a c.time_out_all.new.self c.in_ok-lift_all.ensures.did
    (some_first g.V.Vault (Each AreTimedOut n) (AreRounds n 8) f a c.time_out_all.new.self (rounds_has n 8)
    (some_count g.V.Vault (Each AreTimedOut) (length a.all.items) n f a c.time_out_all.new.self (count_later g.V.Vault s a c.in_ok-lift_all.ensures.did.goes.later) d))) c.in_err-time_out_all.ensures.ended

pub rounds-requires : goal.rounds-requires
rounds-requires g c = record { on = c.in_ok-time_out_all.ensures.did.goes.later.on }

pub returns-clause-gone : goal.returns-clause-gone
returns-clause-gone g c =
    let s = c.args.self.now in
    let a = c.lift_all.new.self in
    let b = c.time_out_all.new.self in
    gone_both g.V.Vault (Unit {0}) s b c.rounds.new.self _ c.rounds.result c.in_ok-time_out_all.ensures.did.goes.later.on
    (gone_both g.V.Vault (Unit {0}) s a b _ _ c.in_ok-lift_all.ensures.did.goes.later.on c.in_ok-lift_all.ensures.gone c.in_ok-time_out_all.ensures.gone) c.rounds.ensures.gone

pub returns-clause-did : goal.returns-clause-did
returns-clause-did g c =
    let s = c.args.self.now in
    let a = c.lift_all.new.self in
    let b = c.time_out_all.new.self in
    let n = length s.all.items in
    let first = count_later g.V.Vault s a c.in_ok-lift_all.ensures.did.goes.later in
    let second = count_later g.V.Vault a b c.in_ok-time_out_all.ensures.did.goes.later in
    on_ok_weaker c.rounds.result
    (λ d. did_then g.V.Vault (Each IsLifted n) (Then (Each AreTimedOut n) (AreRounds n 8)) s a c.rounds.new.self c.in_ok-lift_all.ensures.did
    (did_then g.V.Vault (Each AreTimedOut n) (AreRounds n 8) a b c.rounds.new.self (did_count g.V.Vault (Each AreTimedOut) (length a.all.items) n a b first c.in_ok-time_out_all.ensures.did)
    (did_count g.V.Vault (λ (k : ℕ). AreRounds k 8) (length b.all.items) n b c.rounds.new.self (second ∙ first) d))) c.rounds.ensures.did

pub returns-clause-ended : goal.returns-clause-ended
returns-clause-ended g c =
    let s = c.args.self.now in
    let a = c.lift_all.new.self in
    let b = c.time_out_all.new.self in
    let n = length s.all.items in
    let first = count_later g.V.Vault s a c.in_ok-lift_all.ensures.did.goes.later in
    let second = count_later g.V.Vault a b c.in_ok-time_out_all.ensures.did.goes.later in
    end_map c.rounds.result _ _
    (λ f d. some_second g.V.Vault (Each IsLifted n) (Then (Each AreTimedOut n) (AreRounds n 8)) f s a c.rounds.new.self c.in_ok-lift_all.ensures.did
    (some_second g.V.Vault (Each AreTimedOut n) (AreRounds n 8) f a b c.rounds.new.self (did_count g.V.Vault (Each AreTimedOut) (length a.all.items) n a b first c.in_ok-time_out_all.ensures.did)
    (some_count g.V.Vault (λ (k : ℕ). AreRounds k 8) (length b.all.items) n f b c.rounds.new.self (second ∙ first) d))) c.rounds.ensures.ended
