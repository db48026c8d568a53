use Rattle.std.proofs.Common.{◌≡◌, ◌++◌, drop}
use Rattle.alp_locks.specs.Wanted.{rising_in}
use Rattle.alp_locks.proofs.asking.rising_of.Given as goal

abbrev pub invariant-loop-wanted : goal.invariant-loop-wanted
invariant-loop-wanted l = l.list.items ++ rising_in (drop l.wanted-index l.all) ≡ rising_in l.all
