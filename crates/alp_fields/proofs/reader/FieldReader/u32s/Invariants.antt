use Rattle.std.proofs.Common.{length, take}
use Rattle.alp_fields.specs.Forms.{u32}
use Rattle.alp_fields.proofs.RepeatLemmas.{RepeatsSoFar}
use Rattle.alp_fields.proofs.reader.FieldReader.u32s.Given as goal

abbrev pub invariant-loop-i : goal.invariant-loop-i
invariant-loop-i l = RepeatsSoFar u32 (length l.initial.out) l.i (take l.i l.out) l.self l.initial.self
