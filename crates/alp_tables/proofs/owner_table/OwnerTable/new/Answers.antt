use Rattle.std.proofs.Common.{◌∙◌, refl, arith}
use Rattle.std.specs.Cmp.Lexicographic.{nat_list_cmp_total}
use Rattle.std.proofs.lemmas.Map.Lookups.{exact_bytes}
use Rattle.alp_base.specs.Notes.{text_cmp}
use Rattle.alp_tables.specs.Tables.{rows_in}
use Rattle.alp_tables.proofs.Tables.{none_shown}
use Rattle.alp_tables.proofs.owner_table.OwnerTable.new.Goals as goal

pub returns : goal.returns
returns c = (λ i. rows_in text_cmp (c.in_ok-names.ensures.items i) (c.in_ok-rows.ensures.items i)) ∙ none_shown nat_list_cmp_total exact_bytes
