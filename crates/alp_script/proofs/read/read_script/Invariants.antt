use Rattle.std.proofs.Common.{◌≡◌}
use Rattle.alp_script.specs.Progress.{room}
use Rattle.alp_script.specs.Reading.{HasRead}
use Rattle.alp_script.proofs.read.read_script.Given as goal

abbrev pub invariant-loop-count : goal.invariant-loop-count
invariant-loop-count g l = record {
  read : HasRead (g.S.Source.left l.fn.source) (g.S.Source.left l.source) l.reader;
  still : g.S.Source.faults l.source ≡ g.S.Source.faults l.fn.source;
}

abbrev pub decreases-loop-count : goal.decreases-loop-count
decreases-loop-count g l = room l.reader
