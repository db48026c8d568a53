-- the note of the clock, put where notes tell of a state, and where they go together
use Rattle.std.specs.Prelude.{Option, None, Some, unwrap_or}
use Rattle.std.specs.FinMap as map
use Rattle.std.proofs.Common.{◌≡◌, ℕ, ◌+◌, ◌<◌, ◌≤◌, ◌^◌, List, refl, ◌∙◌, arith}
use Rattle.alp_base.specs.Notes.{Notes, noted}
use Rattle.alp_fields.specs.Forms.{whole}
use Rattle.alp_fields.specs.ClockNote.{clock_name, clock_form, clock_in, clock_kept, no_clock}
use Rattle.alp_fields.specs.declared.clock_note.ClockNote.{ClockNote}
use Rattle.alp_fields.proofs.ClockLemmas.{clock_within}
use Rattle.alp_ready.specs.NoteLooks.{Keeps}
use Rattle.alp_ready.proofs.NoteViews.{put_clock}
use Rattle.alp_vault.specs.Contents.{Contents}
use Rattle.alp_journal.specs.State.{State}
use Rattle.alp_node.specs.Downs.{next_clock}
use Rattle.alp_node.specs.Durable.{IsReadyNote, IsStoredBy}
use Rattle.alp_node.specs.Noted.{decision_kept}
use Rattle.alp_node.specs.Starts.{with_clock}
use Rattle.alp_node.proofs.ClockLaws.{time_fits}

-- ---- the clock

value_within : (o : Option (List ℕ)) → (clock_in o).clock ≤ 2 ^ 62
value_within None = omega arith
value_within (Some value) = go (whole clock_form value) refl
  where
    go : (o : Option ClockNote) → whole clock_form value ≡ o → (unwrap_or o no_clock).clock ≤ 2 ^ 62
    go None e = omega arith
    go (Some k) e = clock_within value k e

-- it is a time
pub kept_within : (notes : Notes) → (clock_kept notes).clock ≤ 2 ^ 62
kept_within notes = value_within (map.get notes clock_name)

-- ---- put where the notes tell of a state

-- with the note of the next epoch a vault has what the state says too
pub raised_stored : (near last : ℕ) (s : State) (c : Contents) → last < 4294967295 → IsStoredBy near s c → IsStoredBy (last + 1) s (with_clock c (next_clock last c))
raised_stored near last s c low h =
    let now : ClockNote = next_clock last c in
    let fits : clock_form.Fits now = time_fits now (omega (arith, low)) (kept_within c.notes) in
    let k : Keeps s.holder.server s.servers now (λ j. IsReadyNote s.holder.lives (s.phases j)) (λ t. decision_kept (s.fates t)) (noted clock_name (Some (clock_form.spell now)) c.notes) =
    put_clock s.holder.server s.servers (clock_kept c.notes) (λ j. IsReadyNote s.holder.lives (s.phases j)) (λ t. decision_kept (s.fates t)) c.notes (record { clock = refl; ready = h.notes.ready; decided = h.notes.decided; format = h.notes.format }) now fits in
    record {
      cells = h.cells;
      notes = record {
        clock = k.clock ∙ (λ i. record { epoch = last + 1; clock = (h.notes.clock i).clock });
        ready = k.ready;
        decided = k.decided;
        fit = h.notes.fit;
        fit_decided = h.notes.fit_decided;
        timely = h.notes.timely;
        format = k.format;
      };
    }
