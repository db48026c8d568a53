use Rattle.std.proofs.Common.{◌≡◌, take}
use Rattle.alp_top.specs.Tallies.{none_seen, seen_from}
use Rattle.alp_top.proofs.tally.see_all.Given as goal

abbrev pub invariant-loop-act : goal.invariant-loop-act
invariant-loop-act l = l.seen ≡ seen_from none_seen (take l.act-index l.acts)
