use Rattle.std.proofs.Common.{length}
use Rattle.alp_volume.specs.declared.catalog.Catalog.{Catalog}
use Rattle.alp_volume.specs.Undone.{LeadsOn}
use Rattle.alp_volume.proofs.catalog.Catalog.take_back.Given as goal

abbrev pub invariant-loop-undo : goal.invariant-loop-undo
invariant-loop-undo l = LeadsOn l.fn.undos.items l.fn.self l.undos.items l.self

abbrev pub decreases-loop-undo : goal.decreases-loop-undo
decreases-loop-undo l = length l.undos.items
