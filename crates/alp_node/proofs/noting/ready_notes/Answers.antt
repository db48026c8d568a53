use Rattle.std.proofs.Common.{◌≡◌, ℕ, ◌^◌, ◌<◌, List, [], ◌∷◌, ◌++◌, length, refl, ◌∙◌, ap, arith}
use Rattle.alp_base.specs.declared.bytes.NoteChange.{NoteChange}
use Rattle.alp_fields.specs.ReadyNote.{ready_form, ready_in, ready_noted}
use Rattle.alp_fields.specs.declared.ready_note.ReadyPart.{ReadyPart}
use Rattle.alp_node.proofs.VoteNotes.{cells_noted, named_by}
use Rattle.alp_node.proofs.noting.ready_notes.Goals as goal

pub ready_change-requires : goal.ready_change-requires
ready_change-requires c = record {
  time = c.requires.time;
  few = (let same = c.in_ok-locks.ensures.len in let few = c.requires.few in omega (arith, same, few));
  locks = c.in_ok-locks.ensures.rises;
  change = c.in_ok-change.ensures.noted;
}

pub returns : goal.returns
returns c =
    let p : ReadyPart = record { trans = c.args.trans; ts = c.args.ts; client = c.args.client; locks = c.in_ok-locks.locks; change = c.in_ok-change.change } in
    let x : NoteChange = c.in_ok-ready_change.field-0 in
    record {
      kept = p;
      trans = refl;
      owner = refl;
      time = refl;
      count = c.in_ok-locks.ensures.len;
      held = c.in_ok-locks.ensures.held;
      cells = cells_noted c.args.part.now c.in_ok-change.change c.requires.part c.in_ok-change.ensures.drops c.in_ok-change.ensures.cuts c.in_ok-change.ensures.puts;
      intents = c.in_ok-change.ensures.back;
      fits = c.in_ok-ready_change.ensures.fits;
      named = named_by c.args.join x.name (ready_form.spell p) p c.in_ok-ready_change.ensures.back;
      written = c.push_reserved.ensures.items ∙ ap (λ (xs : List NoteChange). xs ++ x ∷ []) c.in_ok-notes.ensures.items ∙ ap (λ (y : NoteChange). y ∷ []) c.in_ok-ready_change.ensures.change;
    }
