use Rattle.std.specs.FinMap as map
use Rattle.std.proofs.Common.{◌∙◌, ap}
use Rattle.alp_base.specs.KeyLaws.{exact_files}
use Rattle.alp_tables.proofs.Tables.{files_total, keys_shown}
use Rattle.alp_tables.proofs.files.FileTable.ids.Goals as goal

pub returns : goal.returns
returns c = c.as_slice.ensures.value ∙ keys_shown files_total exact_files c.self.inside.ids.items c.self.inside.slots.items c.self.invariant.rows ∙ ap map.keys c.self.view_is
