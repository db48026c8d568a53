use Rattle.std.proofs.Common.{take}
use Rattle.alp_fields.specs.Forms.{repeated}
use Rattle.alp_fields.specs.Fields.{name}
use Rattle.alp_cluster.proofs.fits.names_fit.Given as goal

abbrev pub invariant-loop-next : goal.invariant-loop-next
invariant-loop-next l = (repeated name l.next-index).Fits (take l.next-index l.names)
