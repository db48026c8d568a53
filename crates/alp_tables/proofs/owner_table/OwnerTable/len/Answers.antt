use Rattle.std.specs.FinMap as map
use Rattle.std.specs.Cmp.Lexicographic.{nat_list_cmp_total}
use Rattle.std.proofs.Common.{◌∙◌, ap, arith}
use Rattle.std.proofs.lemmas.Map.Lookups.{exact_bytes}
use Rattle.alp_tables.proofs.Tables.{len_shown}
use Rattle.alp_tables.proofs.owner_table.OwnerTable.len.Goals as goal

pub returns-clause-count : goal.returns-clause-count
returns-clause-count c = omega (arith, c.len.ensures, len_shown nat_list_cmp_total exact_bytes c.self.inside.names.items c.self.inside.rows.items c.self.invariant.rows, ap map.len c.self.view_is)

pub returns-clause-few : goal.returns-clause-few
returns-clause-few c = omega (arith, c.len.ensures, c.self.invariant.few)
