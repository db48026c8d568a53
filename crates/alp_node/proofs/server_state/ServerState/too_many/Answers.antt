use Rattle.std.proofs.Common.{ℕ, ◌+◌, ◌<◌, ◌≤◌, length, sym, ap, arith}
use Rattle.std.proofs.lemmas.Bool.{le-leb}
use Rattle.alp_files.specs.declared.refusal.Refusal.TheVariants as refusal
use Rattle.alp_files.specs.declared.refusal.What.TheVariants as what
use Rattle.alp_journal.specs.Answers.{if_over}
use Rattle.alp_coord.specs.Coordinators.{counted_of}
use Rattle.alp_node.proofs.LiveSums.{not_reached}
use Rattle.alp_node.proofs.server_state.ServerState.too_many.Goals as goal

pub returns-then-own-len-lt-MOST_TRANSACTIONS : goal.returns-then-own-len-lt-MOST_TRANSACTIONS
returns-then-own-len-lt-MOST_TRANSACTIONS g c =
    let all : ℕ = counted_of c.args.self.now.coordinator + length c.args.self.now.joins.lives in
    let few : all < 64 = omega (arith, c.if-own-len-lt-MOST_TRANSACTIONS.true, c.counted-own.ensures, c.len.ensures) in
    sym (ap (λ b. if_over b (refusal.TooMany what.Transactions 64)) (not_reached 64 all few))

pub returns : goal.returns
returns g c =
    let all : ℕ = counted_of c.args.self.now.coordinator + length c.args.self.now.joins.lives in
    let many : 64 ≤ all = omega (arith, c.if-own-len-lt-MOST_TRANSACTIONS.false, c.counted-own.ensures, c.len.ensures) in
    sym (ap (λ b. if_over b (refusal.TooMany what.Transactions 64)) (le-leb 64 all many))
