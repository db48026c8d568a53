use Rattle.std.specs.Prelude.{Bool, true, false, suc, Ok}
use Rattle.std.proofs.Common.{rules, ◌≡◌, ◌-◌, ◌<◌, ℕ, length, sym, subst, arith}
use Rattle.std.proofs.lemmas.Result.{on_ok_weaker}
use Rattle.alp_course.specs.Settles.{IsRound, AreRounds}
use Rattle.alp_cluster.specs.Settled.{TellsRest}
use Rattle.alp_cluster.specs.Stations.{AreOn, Did, DidSome}
use Rattle.alp_cluster.proofs.CarryLemmas.{count_later}
use Rattle.alp_cluster.proofs.DidLemmas.{did_nothing, gone_none, gone_both, all_ok, all_handed}
use Rattle.alp_cluster.proofs.GoneLemmas.{end_on, end_map, handed_on}
use Rattle.alp_cluster.proofs.LoopLemmas.{did_count, some_count}
use Rattle.alp_cluster.proofs.SettleLemmas.{last_round, more_rounds, round_cut, rounds_cut}
use Rattle.alp_cluster.proofs.stations.Stations.+rounds.Goals as goal

pub returns-then-most-eq0-clause-gone : goal.returns-then-most-eq0-clause-gone
returns-then-most-eq0-clause-gone g t c = gone_none g.V.Vault (Unit {0}) c.args.self.now (tt {0})

pub returns-then-most-eq0-clause-did : goal.returns-then-most-eq0-clause-did
returns-then-most-eq0-clause-did g t c =
    let s = c.args.self.now in
    subst (λ (n : ℕ). Did g.V.Vault (AreRounds (length s.all.items) n) s s) (sym c.if-most-eq0.true) (did_nothing g.V.Vault s c.requires.on)

pub returns-in_err-round-clause-gone : goal.returns-in_err-round-clause-gone
returns-in_err-round-clause-gone g t c =
    all_handed g.V.Vault (Unit {0}) c.args.self.now c.round.new.self c.in_err-round.field-0.0 c.from_residual.result c.in_err-round.ensures.gone
    (handed_on c.in_err-round.field-0.0 c.from_residual.result c.from_residual.ensures.0 c.from_residual.ensures.1)

pub returns-in_err-round-clause-ended : goal.returns-in_err-round-clause-ended
returns-in_err-round-clause-ended g t c =
    let s = c.args.self.now in
    let servers = length s.all.items in
    let next : suc (c.args.most - 1) ≡ c.args.most = omega (arith, c.if-most-eq0.false) in
    end_on c.in_err-round.field-0.0 c.from_residual.result _ _ (handed_on c.in_err-round.field-0.0 c.from_residual.result c.from_residual.ensures.0 c.from_residual.ensures.1)
    (λ f d. some_count g.V.Vault (AreRounds servers) (suc (c.args.most - 1)) c.args.most f s c.round.new.self next (round_cut g.V.Vault servers (c.args.most - 1) s c.round.new.self f d)) c.in_err-round.ensures.ended

pub is_settled-requires : goal.is_settled-requires
is_settled-requires g t c = record { on = c.in_ok-round.ensures.did.goes.later.on }

pub returns-then-is_settled-clause-gone : goal.returns-then-is_settled-clause-gone
returns-then-is_settled-clause-gone g t c = all_ok g.V.Vault (Unit {0}) c.args.self.now c.round.new.self _ (tt {0}) c.in_ok-round.ensures.gone

pub returns-then-is_settled-clause-did : goal.returns-then-is_settled-clause-did
returns-then-is_settled-clause-did g t c =
    let s = c.args.self.now in
    let servers = length s.all.items in
    let next : suc (c.args.most - 1) ≡ c.args.most = omega (arith, c.if-most-eq0.false) in
    did_count g.V.Vault (AreRounds servers) (suc (c.args.most - 1)) c.args.most s c.round.new.self next
    (last_round g.V.Vault servers (c.args.most - 1) s c.round.new.self c.in_ok-round.ensures.did.goes.later.on c.in_ok-round.ensures.did
    (subst (λ (b : Bool). TellsRest g.V.Vault b c.round.new.self) c.if-is_settled.true c.is_settled.ensures))

pub rounds-requires : goal.rounds-requires
rounds-requires g t c =
    let on : AreOn g.V.Vault c.round.new.self = c.in_ok-round.ensures.did.goes.later.on in
    let less : c.args.most - 1 < c.args.most = omega (arith, c.if-most-eq0.false) in
    search rules

pub returns-clause-gone : goal.returns-clause-gone
returns-clause-gone g t c =
    gone_both g.V.Vault (Unit {0}) c.args.self.now c.round.new.self c.rounds.new.self _ c.rounds.result c.in_ok-round.ensures.did.goes.later.on c.in_ok-round.ensures.gone c.rounds.ensures.gone

pub returns-clause-did : goal.returns-clause-did
returns-clause-did g t c =
    let s = c.args.self.now in
    let servers = length s.all.items in
    let next : suc (c.args.most - 1) ≡ c.args.most = omega (arith, c.if-most-eq0.false) in
    let told = subst (λ (b : Bool). TellsRest g.V.Vault b c.round.new.self) c.if-is_settled.false c.is_settled.ensures in
    on_ok_weaker c.rounds.result
    (λ d. did_count g.V.Vault (AreRounds servers) (suc (c.args.most - 1)) c.args.most s c.rounds.new.self next
    (more_rounds g.V.Vault servers (c.args.most - 1) s c.round.new.self c.rounds.new.self c.in_ok-round.ensures.did.goes.later.on c.in_ok-round.ensures.did told
    (did_count g.V.Vault (λ (n : ℕ). AreRounds n (c.args.most - 1)) (length c.round.new.self.all.items) servers c.round.new.self c.rounds.new.self (count_later g.V.Vault s c.round.new.self c.in_ok-round.ensures.did.goes.later) d))) c.rounds.ensures.did

pub returns-clause-ended : goal.returns-clause-ended
returns-clause-ended g t c =
    let s = c.args.self.now in
    let servers = length s.all.items in
    let next : suc (c.args.most - 1) ≡ c.args.most = omega (arith, c.if-most-eq0.false) in
    let told = subst (λ (b : Bool). TellsRest g.V.Vault b c.round.new.self) c.if-is_settled.false c.is_settled.ensures in
    end_map c.rounds.result _ _
    (λ f d. some_count g.V.Vault (AreRounds servers) (suc (c.args.most - 1)) c.args.most f s c.rounds.new.self next
    (rounds_cut g.V.Vault servers (c.args.most - 1) s c.round.new.self f c.rounds.new.self c.in_ok-round.ensures.did.goes.later.on c.in_ok-round.ensures.did told
    (some_count g.V.Vault (λ (n : ℕ). AreRounds n (c.args.most - 1)) (length c.round.new.self.all.items) servers f c.round.new.self c.rounds.new.self (count_later g.V.Vault s c.round.new.self c.in_ok-round.ensures.did.goes.later) d))) c.rounds.ensures.ended
