use Rattle.std.proofs.Common.{◌≡◌, drop}
use Rattle.rand_core.specs.Steps.{stream_of, steps_u32}
use Rattle.rand_pcg.specs.Pcg.{pcg32}
use Rattle.alp_disk.specs.Pending.{filled, words_of}
use Rattle.alp_disk.proofs.outcomes.fill_all.Given as goal

abbrev pub invariant-loop-write : goal.invariant-loop-write
invariant-loop-write l = filled (stream_of (steps_u32 pcg32) l.rng) l.stable.items (drop l.write-index l.write-items) ≡ filled (words_of l.pick) l.fn.stable.items l.write-items
