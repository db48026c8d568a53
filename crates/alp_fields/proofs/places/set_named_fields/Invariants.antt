use Rattle.std.proofs.Common.{take}
use Rattle.alp_fields.specs.Forms.{IsSet, repeated}
use Rattle.alp_fields.specs.Fields.{named_field}
use Rattle.alp_fields.proofs.places.set_named_fields.Given as goal

abbrev pub invariant-loop-i : goal.invariant-loop-i
invariant-loop-i l = IsSet (repeated named_field l.i) (take l.i l.names) l.at l.initial.out l.out
