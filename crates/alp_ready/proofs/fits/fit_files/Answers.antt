use Rattle.std.proofs.Common.{All, List, subst, arith}
use Rattle.std.proofs.lemmas.List.{take_all}
use Rattle.std.proofs.lemmas.List.Elements.{All-more}
use Rattle.alp_base.specs.declared.ids.FileId.{FileId}
use Rattle.alp_fields.specs.Fields.{file_id}
use Rattle.alp_ready.proofs.fits.fit_files.Goals as goal

pub loop-file-preserved : goal.loop-file-preserved
loop-file-preserved c = All-more file_id.Fits c.args.files.now c.loop-file.file-index _ c.loop-file-test.true c.loop-file.invariant c.fit_file.ensures

pub returns : goal.returns
returns c = subst (λ (fs : List FileId). All file_id.Fits fs) (take_all c.loop-file.file-index c.args.files.now (omega (arith, c.loop-file-test.false))) c.loop-file.invariant
