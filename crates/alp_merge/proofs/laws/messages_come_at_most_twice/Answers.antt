use Rattle.std.proofs.Common.{ℕ}
use Rattle.alp_journal.specs.declared.message.Message.{Message}
use Rattle.alp_merge.proofs.TwiceLemmas.{come_twice}
use Rattle.alp_merge.proofs.laws.messages_come_at_most_twice.Goals as goal

pub returns : goal.returns
returns c = come_twice (λ (behind : ℕ) (m : Message). Unit {0})
