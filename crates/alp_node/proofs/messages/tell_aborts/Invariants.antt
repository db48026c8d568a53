use Rattle.std.specs.Prelude.{vec_capacity}
use Rattle.std.proofs.Common.{◌≡◌, ℕ, ◌+◌, ◌++◌, drop, length}
use Rattle.alp_base.specs.declared.ids.JoinNo.{JoinNo}
use Rattle.alp_journal.specs.declared.message.Message.TheVariants as msg
use Rattle.alp_node.specs.Says.{said_each}
use Rattle.alp_node.proofs.messages.tell_aborts.Given as goal

-- what was said, and what is to be said still; there is room for that
abbrev pub invariant-loop-join : goal.invariant-loop-join
invariant-loop-join l =
    (l.acts.items ++ said_each (λ (j : JoinNo). msg.Abort l.fn.trans j l.fn.cause) (drop l.join-index l.fn.joins) ≡ l.fn.acts.items ++ said_each (λ (j : JoinNo). msg.Abort l.fn.trans j l.fn.cause) l.fn.joins)
    × (length l.acts.items ≡ length l.fn.acts.items + l.join-index) × (vec_capacity l.acts ≡ vec_capacity l.fn.acts)
