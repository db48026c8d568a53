use Rattle.std.specs.FinMap as map
use Rattle.std.proofs.Common.{◌∙◌, ap, arith}
use Rattle.alp_base.specs.KeyLaws.{exact_files}
use Rattle.alp_tables.proofs.Tables.{files_total, len_shown}
use Rattle.alp_tables.proofs.files.FileTable.len.Goals as goal

pub returns-clause-count : goal.returns-clause-count
returns-clause-count c = omega (arith, c.len.ensures, len_shown files_total exact_files c.self.inside.ids.items c.self.inside.slots.items c.self.invariant.rows, ap map.len c.self.view_is)

pub returns-clause-few : goal.returns-clause-few
returns-clause-few c = omega (arith, c.len.ensures, c.self.invariant.few)
