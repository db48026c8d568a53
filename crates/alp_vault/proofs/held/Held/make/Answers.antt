use Rattle.std.proofs.Common.{List, sym, ◌∙◌, ap, subst, arith}
use Rattle.std.specs.List.Sorted.{IsStrictlySortedBy}
use Rattle.alp_base.specs.Notes.{text_cmp}
use Rattle.alp_base.specs.declared.key.Key.{Key}
use Rattle.alp_base.specs.declared.cell.Cell.{Cell}
use Rattle.alp_files.specs.Counts.{owner_names_of}
use Rattle.alp_vault.specs.Owners.{with_owners}
use Rattle.alp_vault.proofs.OwnerLemmas.{owners-made, owners-rise}
use Rattle.alp_vault.proofs.held.Held.make.Goals as goal

pub invariant_of-self-2 : goal.invariant_of-self-2
invariant_of-self-2 c = record {
  named =
      c.add_owners.ensures.added
      ∙ ap (λ (ps : List (Key × Cell)). with_owners ps c.make_room.new.self.owners.items) c.as_slice-puts.ensures
      ∙ ap (with_owners c.args.change.now.puts) c.make_room.new.self.named
      ∙ sym (owners-made c.args.change.now c.make_room.new.self.cells)
      ∙ ap owner_names_of (sym c.in_ok-apply.ensures.ok);
  few = omega (arith, c.add_owners.ensures.few, c.in_ok-copies.ensures.few);
}

pub add_owners-requires-clause-rising : goal.add_owners-requires-clause-rising
add_owners-requires-clause-rising c = subst (IsStrictlySortedBy text_cmp) (sym c.make_room.new.self.named) (owners-rise c.make_room.new.self.cells)
