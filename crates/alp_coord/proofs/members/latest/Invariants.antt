use Rattle.std.proofs.Common.{◌≡◌, drop}
use Rattle.alp_coord.specs.Members.{latest_of}
use Rattle.alp_coord.proofs.members.latest.Given as goal

abbrev pub invariant-loop-member : goal.invariant-loop-member
invariant-loop-member l = latest_of l.latest (drop l.member-index l.members) ≡ latest_of l.least l.members
