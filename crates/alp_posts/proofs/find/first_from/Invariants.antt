use Rattle.std.proofs.Common.{◌≡◌}
use Rattle.alp_posts.specs.Places.{behind}
use Rattle.alp_posts.proofs.find.first_from.Given as goal

abbrev pub invariant-loop-at : goal.invariant-loop-at
invariant-loop-at l = behind l.to l.at l.first l.entries ≡ behind l.to l.entry l.passed l.entries
