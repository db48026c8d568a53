use Rattle.std.proofs.Common.{arith}
use Rattle.rand_core.specs.Steps.{stream_of, steps_u32}
use Rattle.rand_pcg.specs.Pcg.{pcg32}
use Rattle.alp_disk.proofs.Replays.{draw_more}
use Rattle.alp_disk.proofs.outcomes.draw.Goals as goal

pub loop-i-preserved : goal.loop-i-preserved
loop-i-preserved c =
    draw_more c.loop-i.i c.loop-i.bytes c.next_u32.result _ (stream_of (steps_u32 pcg32) c.loop-i.rng) (stream_of (steps_u32 pcg32) c.next_u32.new.self) (omega (arith, c.loop-i-test.true, c.loop-i.auto.bytes)) c.loop-i.invariant c.next_u32.ensures
