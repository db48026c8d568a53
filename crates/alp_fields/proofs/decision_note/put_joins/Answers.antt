use Rattle.alp_fields.proofs.ItemLemmas.{each_free}
use Rattle.alp_fields.proofs.decision_note.put_joins.Goals as goal

pub put_items-requires : goal.put_items-requires
put_items-requires c = each_free _
