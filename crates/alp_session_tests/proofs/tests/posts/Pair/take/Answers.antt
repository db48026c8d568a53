use Rattle.std.proofs.Common.{arith}
use Rattle.alp_session_tests.proofs.tests.posts.Pair.take.Goals as goal

pub take-requires-clause-grown : goal.take-requires-clause-grown
take-requires-clause-grown c = c.self.invariant.shown 1 c.args.to ((omega arith, omega arith), c.requires.1)
