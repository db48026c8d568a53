use Rattle.std.proofs.Common.{take}
use Rattle.alp_fields.specs.Forms.{IsSet, repeated, u32}
use Rattle.alp_fields.proofs.rows.set_u32s.Given as goal

abbrev pub invariant-loop-i : goal.invariant-loop-i
invariant-loop-i l = IsSet (repeated u32 l.i) (take l.i l.numbers) l.at l.initial.out l.out
