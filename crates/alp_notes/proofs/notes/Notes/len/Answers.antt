use Rattle.std.specs.FinMap as map
use Rattle.std.proofs.Common.{ap, arith}
use Rattle.alp_notes.specs.Held.{Held}
use Rattle.alp_notes.proofs.RowLemmas.{len_shown}
use Rattle.alp_notes.proofs.notes.Notes.len.Goals as goal

pub returns : goal.returns
returns c = omega (arith, c.len.ensures, len_shown c.self.inside.names.items c.self.inside.values.items c.self.invariant, ap (λ (h : Held). map.len h.notes) c.self.view_is)
