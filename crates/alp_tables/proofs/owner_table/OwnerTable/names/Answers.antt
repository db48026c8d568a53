use Rattle.std.specs.FinMap as map
use Rattle.std.specs.Cmp.Lexicographic.{nat_list_cmp_total}
use Rattle.std.proofs.Common.{ap, ◌∙◌}
use Rattle.std.proofs.lemmas.Map.Lookups.{exact_bytes}
use Rattle.alp_tables.proofs.Tables.{keys_shown}
use Rattle.alp_tables.proofs.owner_table.OwnerTable.names.Goals as goal

pub returns : goal.returns
returns c = c.as_slice.ensures.value ∙ keys_shown nat_list_cmp_total exact_bytes c.self.inside.names.items c.self.inside.rows.items c.self.invariant.rows ∙ ap map.keys c.self.view_is
