use Rattle.std.proofs.Common.{◌+◌, arith}
use Rattle.alp_chain_tests.proofs.FreeLemmas.{free-kept}
use Rattle.alp_chain.proofs.RaisedLemmas.{among-out}
use Rattle.alp_chain_tests.proofs.tests.lock.Goals as goal

pub add_span-requires-clause-free : goal.add_span-requires-clause-free
add_span-requires-clause-free c = record { page = 999; below = omega arith; unheld = c.requires.free c.args.trans; unasked = among-out c.args.first (c.args.first + c.args.count) 999 (λ i j. omega arith) }

pub returns-clause-free : goal.returns-clause-free
returns-clause-free c =
    free-kept 3 c.args.trans 999 (record { first = c.args.first; count = c.args.count }) c.args.mode c.args.chains.now c.add_span.new.self (among-out c.args.first (c.args.first + c.args.count) 999 (λ i j. omega arith)) c.in_ok-add_span.ensures.locked c.in_ok-add_span.ensures.others c.requires.free
