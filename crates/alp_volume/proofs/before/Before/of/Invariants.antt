use Rattle.std.proofs.Common.{drop}
use Rattle.alp_volume.specs.declared.catalog.Catalog.{Catalog}
use Rattle.alp_volume.specs.Undone.{Leads}
use Rattle.alp_volume.proofs.PartsLaws.{TellsBy}
use Rattle.alp_volume.proofs.before.Before.of.Given as goal

abbrev pub invariant-loop-undo : goal.invariant-loop-undo
invariant-loop-undo l = (now old : Catalog) → Leads l.undos now old → TellsBy l.before (drop l.undo-index l.undos) now old
