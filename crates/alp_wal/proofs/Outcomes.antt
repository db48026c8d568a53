-- What a call on a log leaves, carried over from the calls that it makes.
use Rattle.std.proofs.Common.{◌≡◌, inl, inr, ◌⊎◌, ◌≤◌, ◌<◌, refl, sym, ◌∙◌, ap, subst, arith}
use Rattle.std.specs.Prelude.{Result, Ok, Err, OnOk, OnErr, IsErr}
use Rattle.alp_base.specs.Notes.{notes_after}
use Rattle.alp_anchor.specs.declared.anchor.Anchor.{Anchor}
use Rattle.alp_batch.specs.declared.batch.Batch.{Batch}
use Rattle.alp_wal.specs.State.{State}
use Rattle.alp_wal.specs.Live.{batch_pages, notes_pages}
use Rattle.alp_wal.specs.Reading.{area_end}
use Rattle.alp_wal.specs.Wal.{anchor_of, index_of, end_of, notes_of, room_of, indexed, no_index, IsSameVolume}
use Rattle.alp_wal.specs.Checkpoint.{turned, IsUnmoved, HasTurned}
use Rattle.alp_wal.specs.Calls.{Becomes, IsBehind, IsBehindNotes, HasCommitted, HasNotCommitted}
use Rattle.alp_wal.specs.declared.wal.Wal.{Wal}

pub becomes_from : {T E : Type 0} (r : Result T E) (before other_before after other_after now : State) → other_before ≡ before → other_after ≡ after → Becomes r other_before other_after now → Becomes r before after now
becomes_from (Ok x) before other_before after other_after now one two is = is ∙ two
becomes_from (Err e) before other_before after other_after now one two is = is ∙ one

-- of a call that hands on an error
pub becomes_stays : {T E : Type 0} (r : Result T E) (before after now : State) → IsErr r → now ≡ before → Becomes r before after now
becomes_stays (Ok x) before after now err is = absurd cc
becomes_stays (Err e) before after now err is = is

pub on_error : {T E : Type 0} (r : Result T E) (P : Type 0) → P → OnErr r P
on_error (Ok x) P p = tt
on_error (Err e) P p = p

pub on_ok_both : {T E : Type 0} (r : Result T E) (P Q R : Type 0) → (P → Q → R) → OnOk r P → OnOk r Q → OnOk r R
on_ok_both (Ok x) P Q R both p q = both p q
on_ok_both (Err e) P Q R both p q = tt

pub volume_then : (a b c : Anchor) → IsSameVolume a b → c ≡ b → IsSameVolume a c
volume_then a b c same next = subst (λ (x : Anchor). IsSameVolume a x) (sym next) same

-- nothing was done
pub stays_same : {D : Type 0} (b : Batch) (w : Wal D) → HasNotCommitted b w w
stays_same b w = record {
  volume = record { server = refl; servers = refl; sizes = refl };
  notes = refl;
  fitting = λ fits. (refl, refl, refl);
  over = λ over. inl (refl, refl, refl);
}

module _ {D : Type 0} (old mid new : Wal D) (b c : Batch) (anchor : anchor_of mid ≡ anchor_of old) (index : index_of mid ≡ index_of old) (end : end_of mid ≡ end_of old) (notes : notes_of mid ≡ notes_of old) (batch : b ≡ c) where
  same_room : room_of mid ≡ room_of old
  same_room = omega (arith, ap area_end anchor, end)

  fits_too : batch_pages c ≤ room_of old → batch_pages b ≤ room_of mid
  fits_too fits = omega (arith, ap batch_pages batch, same_room, fits)

  over_too : room_of old < batch_pages c → room_of mid < batch_pages b
  over_too over = omega (arith, ap batch_pages batch, same_room, over)

  same_volume : IsSameVolume (anchor_of mid) (anchor_of new) → IsSameVolume (anchor_of old) (anchor_of new)
  same_volume same = subst (λ (a : Anchor). IsSameVolume a (anchor_of new)) anchor same

  unmoved_too : IsUnmoved mid new → IsUnmoved old new
  unmoved_too same = (same.0 ∙ anchor, same.1 ∙ index, same.2 ∙ end)

  turned_too : HasTurned mid new → HasTurned old new
  turned_too has = (has.0 ∙ ap turned anchor, has.1 ∙ ap (λ (a : Anchor). no_index a.sizes.home) anchor, omega (arith, has.2, ap notes_pages notes, ap (λ (a : Anchor). a.sizes.area) anchor))

  behind_too : IsBehind b mid new → IsBehind c old new
  behind_too is = record {
    anchor = is.anchor ∙ anchor;
    room = omega (arith, is.room, ap batch_pages batch, same_room);
    index = is.index ∙ (λ i. indexed (index i) (batch i).images);
  }

  behind_notes_too : IsBehindNotes b mid new → IsBehindNotes c old new
  behind_notes_too is = record {
    anchor = is.anchor ∙ ap turned anchor;
    room = omega (arith, is.room, ap batch_pages batch, ap notes_pages notes, ap (λ (a : Anchor). a.sizes.area) anchor);
    index = is.index ∙ (λ i. indexed (no_index (anchor i).sizes.home) (batch i).images);
  }

  -- the same of a log that is seen in another way
  pub committed_as : HasCommitted b mid new → HasCommitted c old new
  committed_as is = record {
    volume = same_volume is.volume;
    notes = is.notes ∙ (λ i. notes_after (batch i).notes (notes i));
    fitting = λ fits. behind_too (is.fitting (fits_too fits));
    over = λ over. behind_notes_too (is.over (over_too over));
  }

  pub stays_as : HasNotCommitted b mid new → HasNotCommitted c old new
  stays_as is = record {
    volume = same_volume is.volume;
    notes = is.notes ∙ notes;
    fitting = λ fits. unmoved_too (is.fitting (fits_too fits));
    over = λ over. either (is.over (over_too over));
  }
    where
      either : IsUnmoved mid new ⊎ HasTurned mid new → IsUnmoved old new ⊎ HasTurned old new
      either (inl same) = inl (unmoved_too same)
      either (inr has) = inr (turned_too has)
