use Rattle.std.proofs.Common.{inl, inr, ◌≤◌, IsTrue, refl, sym, ◌∙◌, ap, subst, arith, length}
use Rattle.alp_base.specs.declared.faults.Sizes.{Sizes}
use Rattle.alp_batch.proofs.BatchLaws.{batch_is}
use Rattle.alp_record.specs.Record.{body_pages}
use Rattle.alp_base.specs.Notes.{Notes, notes_after}
use Rattle.alp_notes.specs.Held.{Held}
use Rattle.alp_wal.specs.State.{State, Suits, applied}
use Rattle.alp_wal.specs.Live.{BothFit}
use Rattle.alp_wal.specs.Home.{Index}
use Rattle.alp_wal.specs.Reading.{area_end}
use Rattle.alp_wal.specs.Wal.{anchor_of, indexed}
use Rattle.alp_wal.specs.Prepared.{batch_of}
use Rattle.alp_wal.proofs.Commits.{leaves_weaker, leaves_then, before_or_after_as, on_err_both}
use Rattle.alp_wal.specs.Checkpoint.{IsUnmoved}
use Rattle.alp_wal.specs.Calls.{IsBehind}
use Rattle.alp_wal.proofs.Outcomes.{becomes_from, becomes_stays, on_error, on_ok_both, volume_then}
use Rattle.alp_wal.proofs.wal.Wal.store.Goals as goal

pub returns-in_err-make_room-clause-before_or_after : goal.returns-in_err-make_room-clause-before_or_after
returns-in_err-make_room-clause-before_or_after g c told = leaves_weaker g.D.Disk.left_since _ _ _ _ (c.make_room.ensures.any_moment told) (λ x before. inl before)

pub put-requires-clause-suits : goal.put-requires-clause-suits
put-requires-clause-suits g c =
    let notes = ap (λ (h : Held). h.notes) c.make_room.ensures.notes in
    subst (λ (t : Sizes × Notes). Suits t.0.home t.1 (batch_of c.args.prepared)) (λ i. (sym c.make_room.ensures.volume.sizes i, sym notes i)) c.requires.suits

pub put-requires-clause-room : goal.put-requires-clause-room
put-requires-clause-room g c = subst (λ (m : Held). length c.args.prepared.notes.items ≤ m.room) (sym c.make_room.ensures.notes) c.requires.room

pub put-requires-clause-both : goal.put-requires-clause-both
put-requires-clause-both g c =
    let notes = ap (λ (h : Held). h.notes) c.make_room.ensures.notes in
    subst (λ (t : Sizes × Notes). BothFit t.0.area t.1 (batch_of c.args.prepared)) (λ i. (sym c.make_room.ensures.volume.sizes i, sym notes i)) c.requires.both

pub returns-clause-before_or_after : goal.returns-clause-before_or_after
returns-clause-before_or_after g c told =
    let told2 = subst IsTrue (sym c.make_room.ensures.below.tells) told in
    leaves_then g.D.Disk.left_since _ _ _ _ _ _ (c.make_room.ensures.any_moment told) (c.put.ensures.before_or_after told2) (λ x before. inl before)
    (λ x is. before_or_after_as {p = batch_of c.args.prepared} {q = batch_of c.args.prepared} x c.make_room.ensures.volume c.make_room.ensures.below.size (c.make_room.ensures.same told) refl is)

pub overflow_cast-as_slice : goal.overflow_cast-as_slice
overflow_cast-as_slice g c =
    let long = ap length (c.as_slice.ensures ∙ c.requires.ready.spelled) ∙ batch_is (batch_of c.args.prepared) c.requires.ready.fits in
    omega (arith, long, c.requires.both, c.requires.log.anchor.sizes.most_area)

pub make_room-requires-clause-both : goal.make_room-requires-clause-both
make_room-requires-clause-both g c =
    let long = ap length (c.as_slice.ensures ∙ c.requires.ready.spelled) ∙ batch_is (batch_of c.args.prepared) c.requires.ready.fits in
    omega (arith, ap body_pages long, c.record_pages.ensures, c.requires.both)

pub put-requires-clause-fits : goal.put-requires-clause-fits
put-requires-clause-fits g c =
    let long = ap length (c.as_slice.ensures ∙ c.requires.ready.spelled) ∙ batch_is (batch_of c.args.prepared) c.requires.ready.fits in
    omega (arith, ap body_pages long, c.record_pages.ensures, c.in_ok-make_room.ensures.room)

pub returns-clause-becomes : goal.returns-clause-becomes
returns-clause-becomes g c told =
    let told2 = subst IsTrue (sym c.make_room.ensures.below.tells) told in
    let same = c.make_room.ensures.same told in
    becomes_from c.put.result _ _ _ _ _ same (ap (λ (s : State). applied s (batch_of c.args.prepared)) same) (c.put.ensures.becomes told2)

pub returns-in_err-make_room-clause-stays : goal.returns-in_err-make_room-clause-stays
returns-in_err-make_room-clause-stays g c = on_error c.from_residual.result _ (record {
  volume = c.make_room.ensures.volume;
  notes = ap (λ (h : Held). h.notes) c.make_room.ensures.notes;
  fitting = λ fits. c.in_err-make_room.ensures.stays;
  over = λ over. inl c.in_err-make_room.ensures.stays;
})

pub returns-in_err-make_room-clause-becomes : goal.returns-in_err-make_room-clause-becomes
returns-in_err-make_room-clause-becomes g c told = becomes_stays c.from_residual.result _ _ _ c.from_residual.ensures.0 (c.make_room.ensures.same told)

pub returns-clause-made : goal.returns-clause-made
returns-clause-made g c =
    let b = batch_of c.args.prepared in
    let long = ap length (c.as_slice.ensures ∙ c.requires.ready.spelled) ∙ batch_is b c.requires.ready.fits in
    let notes = ap (λ (h : Held). h.notes) c.make_room.ensures.notes in
    on_ok_both c.put.result _ _ _
    (λ (made : IsBehind b c.make_room.new.self c.put.new.self) noted. record {
      volume = volume_then (anchor_of c.args.self.now) (anchor_of c.make_room.new.self) (anchor_of c.put.new.self) c.make_room.ensures.volume made.anchor;
      notes = noted ∙ ap (λ (x : Notes). notes_after b.notes x) notes;
      fitting = λ fits. subst (λ w. IsBehind b w c.put.new.self) (c.make_room.ensures.fitting (omega (arith, ap body_pages long, c.record_pages.ensures, fits))) made;
      over = λ over.
          let turns = c.in_ok-make_room.ensures.turned (omega (arith, ap body_pages long, c.record_pages.ensures, over)) in
          record {
            anchor = made.anchor ∙ turns.0;
            room = omega (arith, made.room, turns.2);
            index = made.index ∙ ap (λ (x : Index). indexed x b.images) turns.1;
          };
    })
    c.put.ensures.made c.put.ensures.notes

pub returns-clause-stays : goal.returns-clause-stays
returns-clause-stays g c =
    let b = batch_of c.args.prepared in
    let long = ap length (c.as_slice.ensures ∙ c.requires.ready.spelled) ∙ batch_is b c.requires.ready.fits in
    let notes = ap (λ (h : Held). h.notes) c.make_room.ensures.notes in
    on_err_both c.put.result _ _ _
    (λ (stays : IsUnmoved c.make_room.new.self c.put.new.self) noted. record {
      volume = volume_then (anchor_of c.args.self.now) (anchor_of c.make_room.new.self) (anchor_of c.put.new.self) c.make_room.ensures.volume stays.0;
      notes = noted ∙ notes;
      fitting = λ fits. subst (λ w. IsUnmoved w c.put.new.self) (c.make_room.ensures.fitting (omega (arith, ap body_pages long, c.record_pages.ensures, fits))) stays;
      over = λ over.
          let turns = c.in_ok-make_room.ensures.turned (omega (arith, ap body_pages long, c.record_pages.ensures, over)) in
          inr (stays.0 ∙ turns.0, stays.1 ∙ turns.1, omega (arith, ap area_end stays.0, stays.2, turns.2));
    })
    c.put.ensures.stays c.put.ensures.stays_notes
