use Rattle.std.proofs.Common.{◌≡◌, drop}
use Rattle.alp_posts.specs.Messages.{messages_in}
use Rattle.alp_posts.proofs.find.first_in.Given as goal

abbrev pub invariant-loop-at : goal.invariant-loop-at
invariant-loop-at l = messages_in l.to (drop l.at l.acts) ≡ messages_in l.to (drop l.from l.acts)
