use Rattle.std.specs.Prelude.{All}
use Rattle.std.proofs.Common.{take}
use Rattle.alp_fields.specs.Fields.{file_id}
use Rattle.alp_ready.proofs.fits.fit_files.Given as goal

abbrev pub invariant-loop-file : goal.invariant-loop-file
invariant-loop-file l = All file_id.Fits (take l.file-index l.files)
