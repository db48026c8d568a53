use Rattle.std.proofs.Common.{arith, length-drop, ◌∙◌}
use Rattle.alp_top.proofs.StreamLemmas.{appended_slice}
use Rattle.alp_top.proofs.write_all.write_all.Goals as goal

pub loop-done-preserved : goal.loop-done-preserved
loop-done-preserved g c = record {
  within = omega (arith, c.loop-done.invariant.within, c.in_ok-done.ensures.bound, length-drop c.loop-done.done c.args.bytes.now);
  bytes = appended_slice (g.K.Sink.written c.args.sink.now) (g.K.Sink.written c.loop-done.sink) (g.K.Sink.written c.write.new.self) c.args.bytes.now c.loop-done.done c.in_ok-done.field-0 c.loop-done.invariant.bytes c.in_ok-done.ensures.bytes;
  still = c.in_ok-done.ensures.cause.still ∙ c.loop-done.invariant.still;
}
