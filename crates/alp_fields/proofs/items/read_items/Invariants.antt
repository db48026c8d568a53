use Rattle.alp_fields.proofs.ItemLemmas.{ReadSoFar}
use Rattle.alp_fields.proofs.items.read_items.Given as goal

abbrev pub invariant-loop : goal.invariant-loop
invariant-loop g l = ReadSoFar g.T.Item.form l.count l.counter l.items.items l.reader l.initial.reader l.rises l.last
