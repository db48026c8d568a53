use Rattle.std.proofs.Common.{◌≡◌, take}
use Rattle.alp_top.specs.Tallies.{tally_in}
use Rattle.alp_top.proofs.tally.tally_of.Given as goal

abbrev pub invariant-loop-entry : goal.invariant-loop-entry
invariant-loop-entry l = l.tally ≡ tally_in (take l.entry-index l.entries)
