use Rattle.std.proofs.Common.{◌≡◌, ◌++◌, drop}
use Rattle.alp_node.specs.Ticks.{said_all}
use Rattle.alp_node.proofs.ticks.say_all.Given as goal

-- what was said, and what is to be said still
abbrev pub invariant-loop-mail : goal.invariant-loop-mail
invariant-loop-mail l = l.acts.items ++ said_all (drop l.mail-index l.mails) ≡ l.fn.acts.items ++ said_all l.mails
