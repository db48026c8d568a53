use Rattle.std.proofs.Common.{◌≡◌, ◌++◌, drop}
use Rattle.alp_journal.specs.declared.message.Message.TheVariants as msg
use Rattle.alp_coord.specs.Coordinators.{again_to}
use Rattle.alp_coord.proofs.words.ask_members.Given as goal

abbrev pub invariant-loop-member : goal.invariant-loop-member
invariant-loop-member l =
    l.out.items ++ again_to l.server l.servers (msg.Ask l.trans) l.members (drop l.member-index l.members) ≡ l.fn.out.items ++ again_to l.server l.servers (msg.Ask l.trans) l.members l.members
