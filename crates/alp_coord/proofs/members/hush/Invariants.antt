use Rattle.std.proofs.Common.{◌≡◌, ◌++◌, take, drop}
use Rattle.alp_coord.specs.Members.{hushed}
use Rattle.alp_coord.proofs.members.hush.Given as goal

abbrev pub invariant-loop-member : goal.invariant-loop-member
invariant-loop-member l = l.members ≡ hushed (take l.member-index l.fn.members) ++ drop l.member-index l.fn.members
