use Rattle.std.proofs.Common.{◌∙◌, refl, arith}
use Rattle.alp_base.specs.KeyLaws.{file_cmp, exact_files}
use Rattle.alp_tables.specs.Tables.{rows_in}
use Rattle.alp_tables.proofs.Tables.{files_total, none_shown}
use Rattle.alp_tables.proofs.files.FileTable.new.Goals as goal

pub returns : goal.returns
returns c = (λ i. rows_in file_cmp (c.in_ok-ids.ensures.items i) (c.in_ok-slots.ensures.items i)) ∙ none_shown files_total exact_files
