use Rattle.std.proofs.Common.{refl, ◌∙◌}
use Rattle.alp_notes.specs.Rows.{notes_in}
use Rattle.alp_notes.proofs.RowLemmas.{none_shown}
use Rattle.alp_notes.proofs.notes.Notes.new.Goals as goal

pub invariant_of-result : goal.invariant_of-result
invariant_of-result c = rw (c.new.ensures.items, c.new-2.ensures.items) (record { paired = refl; rising = refl })

pub returns : goal.returns
returns c = (λ i. notes_in (c.new.ensures.items i) (c.new-2.ensures.items i)) ∙ none_shown
