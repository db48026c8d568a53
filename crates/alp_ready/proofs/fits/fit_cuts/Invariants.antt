use Rattle.std.specs.Prelude.{All}
use Rattle.std.proofs.Common.{take}
use Rattle.alp_fields.specs.ChangeField.{cut}
use Rattle.alp_ready.proofs.fits.fit_cuts.Given as goal

abbrev pub invariant-loop-file : goal.invariant-loop-file
invariant-loop-file l = All cut.Fits (take l.file-index l.cuts)
