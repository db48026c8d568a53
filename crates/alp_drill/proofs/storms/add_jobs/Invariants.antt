use Rattle.std.specs.Prelude.{flat_map}
use Rattle.std.specs.List.{range_with_len}
use Rattle.std.proofs.Common.{◌≡◌, ◌++◌}
use Rattle.alp_drill.specs.Storms.{job_lines}
use Rattle.alp_drill.proofs.storms.add_jobs.Given as goal

abbrev pub invariant-loop-i : goal.invariant-loop-i
invariant-loop-i l = l.script.items ≡ l.fn.script.items ++ flat_map (job_lines l.storm) (range_with_len 2 l.i)
