use Rattle.std.proofs.Common.{◌≡◌, take}
use Rattle.rand_core.specs.Steps.{stream_of, steps_u32}
use Rattle.rand_pcg.specs.Pcg.{pcg32}
use Rattle.alp_disk.specs.Pending.{low_bytes}
use Rattle.alp_disk.proofs.outcomes.draw.Given as goal

abbrev pub invariant-loop-i : goal.invariant-loop-i
invariant-loop-i l = (take l.i l.bytes, stream_of (steps_u32 pcg32) l.rng) ≡ low_bytes l.i (stream_of (steps_u32 pcg32) l.fn.rng)
