use Rattle.std.proofs.Common.{arith}
use Rattle.alp_session_tests.proofs.tests.posts.Pair.next.Goals as goal

pub next-requires-clause-grown : goal.next-requires-clause-grown
next-requires-clause-grown c = c.self.invariant.shown 1 c.args.to ((omega arith, omega arith), c.requires.1)
