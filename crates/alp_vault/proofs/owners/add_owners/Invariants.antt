use Rattle.std.proofs.Common.{◌≡◌, ◌+◌, ◌≤◌, length, drop}
use Rattle.std.specs.List.Sorted.{IsStrictlySortedBy}
use Rattle.alp_base.specs.Notes.{text_cmp}
use Rattle.alp_vault.specs.Owners.{with_owners}
use Rattle.alp_vault.proofs.owners.add_owners.Given as goal

abbrev pub invariant-loop-put : goal.invariant-loop-put
invariant-loop-put l = record {
  rest : with_owners (drop l.put-index l.puts) l.names.items ≡ with_owners l.puts l.fn.names.items;
  few : length l.names.items ≤ length l.fn.names.items + l.put-index;
  room : l.names.cap ≡ l.fn.names.cap;
  rising : IsStrictlySortedBy text_cmp l.names.items;
}
