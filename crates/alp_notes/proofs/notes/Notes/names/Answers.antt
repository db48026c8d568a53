use Rattle.std.specs.FinMap as map
use Rattle.std.proofs.Common.{ap, ◌∙◌}
use Rattle.alp_notes.specs.Held.{Held}
use Rattle.alp_notes.proofs.RowLemmas.{names_shown}
use Rattle.alp_notes.proofs.notes.Notes.names.Goals as goal

pub returns : goal.returns
returns c = c.as_slice.ensures.value ∙ names_shown c.self.inside.names.items c.self.inside.values.items c.self.invariant ∙ ap (λ (h : Held). map.keys h.notes) c.self.view_is
