-- a server that starts keeps what its opening says, which is sound
use Rattle.std.specs.Prelude.{cond, Bool, true, false, ◌&&◌, ◌==◌, nat_le, Option, None, Some}
use Rattle.std.specs.List.{list_all}
use Rattle.std.specs.FinMap as map
use Rattle.std.specs.Ordering.{eq_by_cmp}
use Rattle.std.proofs.Common.{◌≡◌, ◌⊎◌, inl, inr, ℕ, ◌<◌, ◌≤◌, List, [], ◌∷◌, length, refl, sym, ◌∙◌, ap, subst, arith}
use Rattle.std.proofs.lemmas.Bool.{leb-true, le-leb, and_parts}
use Rattle.std.proofs.lemmas.Map.Views.{tells_apart}
use Rattle.alp_base.specs.KeyLaws.{exact_keys}
use Rattle.alp_base.specs.Keys.{key_cmp}
use Rattle.alp_base.specs.Notes.{Notes}
use Rattle.alp_base.specs.declared.cell.Cell.{Cell}
use Rattle.alp_base.specs.declared.faults.Sizes.{Sizes}
use Rattle.alp_base.specs.declared.ids.FileId.{FileId}
use Rattle.alp_base.specs.declared.ids.TransId.{TransId}
use Rattle.alp_base.specs.declared.key.Key.TheVariants.{Leader}
use Rattle.alp_base.specs.declared.key.Resource.{Resource}
use Rattle.alp_fields.specs.ClockNote.{clock_kept}
use Rattle.alp_files.specs.Cells.{Cells}
use Rattle.alp_files.specs.Edits.{Edit, Drop, Cut, Put, edit_at, edits_at, is_in_file, is_past}
use Rattle.alp_files.specs.Holdings.{held_by}
use Rattle.alp_locks.specs.Tables.{Table}
use Rattle.alp_vault.specs.Volumes.{IsVolumeOf}
use Rattle.alp_coord.specs.declared.coordinator.Coordinator.{Coordinator}
use Rattle.alp_worker.specs.declared.joins.Joins.{Joins}
use Rattle.alp_files.proofs.FilesLemmas.{same-some}
use Rattle.alp_journal.specs.Counts.{with_resources, locked_noted}
use Rattle.alp_journal.specs.Coordinator.{Undrawn, decision_in, fate_noted}
use Rattle.alp_journal.specs.Holder.{Life, early_life, lives_noted, no_locks}
use Rattle.alp_journal.specs.Ids.{same_trans}
use Rattle.alp_journal.specs.Opening.{Start, ReadyNote, DecisionNote, ready_kept, decisions_kept}
use Rattle.alp_journal.proofs.IdLemmas.{same_trans-true, same_trans-itself}
use Rattle.alp_journal.proofs.OpenedLemmas.{opened_on}
use Rattle.alp_regain.specs.Named.{is_own, is_own_key, is_own_edit, is_drawn_by}
use Rattle.alp_regain.specs.Regained.{PutsAreSized}
use Rattle.alp_regain.specs.Together.{clock_before, IsPartNote, AreApart, AreNotesTogether, AreSoundTogether}
use Rattle.alp_regain.proofs.LockLemmas.{are_intended, are_within}
use Rattle.alp_regain.proofs.OwnerLemmas.{joins_apart, are_ready_here, are_decided_here}
use Rattle.alp_node.specs.Covers.{AreHeld, AreSizedEdits}
use Rattle.alp_node.specs.Found.{IsFoundIn}
use Rattle.alp_node.specs.Nodes.{IsSoundStart}
use Rattle.alp_node.specs.ServerState.{IsToCome, PutNoneBeyond}
use Rattle.alp_node.specs.Totals.{LiveMap}
use Rattle.alp_node.proofs.FoundAs.{IsTold, IsLeftLife, IsAtRest}
use Rattle.alp_node.proofs.FoundNotes.{Has, differ, all_has, IsLifeNoted, life_or, IsFateNoted, fate_or, one_trans}
use Rattle.alp_node.proofs.FoundReady.{part_live, joins_are}
use Rattle.alp_node.proofs.FoundStart.{opening, opening_keeps, opening_fits, opening_decided_fits, part_of_note, decided_drawn, decided_time, drawn_epoch, quiet}
use Rattle.alp_node.proofs.LockCountLemmas.{held_then}
use Rattle.alp_node.proofs.SoundNoted.{notes_sound}
use Rattle.alp_node.proofs.StartLemmas.{volume_sized, none_born}

-- ---- what the notes of older epochs change

pub sized_puts : (es : List Edit) → PutsAreSized es → AreSizedEdits es
sized_puts [] h = tt
sized_puts (Drop f ∷ es) h = sized_puts es h
sized_puts (Cut f n ∷ es) h = sized_puts es h
sized_puts (Put k c ∷ es) h = (h.0, sized_puts es h.1)

if_none : (b : Bool) → cond {A = Option Cell} b None None ≡ None
if_none true = refl
if_none false = refl

module _ (server before : ℕ) (f : FileId) (away : is_own server before f ≡ true → ⊥) where
  none_at : (e : Edit) → is_own_edit server before e ≡ true → edit_at e (Leader f) None ≡ None
  none_at (Drop g) own = if_none (is_in_file g (Leader f))
  none_at (Cut g n) own = if_none (is_past g n (Leader f))
  none_at (Put k c) own = go (eq_by_cmp key_cmp (Leader f) k) refl
    where
      go : (b : Bool) → eq_by_cmp key_cmp (Leader f) k ≡ b → cond {A = Option Cell} b (Some c) None ≡ None
      go false e = refl
      go true e = absurd (away (ap (is_own_key server before) (tells_apart exact_keys (Leader f) k e) ∙ own))

  pub none_put : (es : List Edit) → list_all (is_own_edit server before) es ≡ true → edits_at es (Leader f) None ≡ None
  none_put [] own = refl
  none_put (e ∷ es) own =
      let both = and_parts (is_own_edit server before e) (list_all (is_own_edit server before) es) own in
      ap (edits_at es (Leader f)) (none_at e both.0) ∙ none_put es both.1

to_come_away : (server before epoch count : ℕ) (f : FileId) → before < epoch → IsToCome server epoch count f → is_own server before f ≡ true → ⊥
to_come_away server before epoch count f less comes own =
    let low : f.epoch ≤ before = leb-true f.epoch before (and_parts (f.server == server) (nat_le f.epoch before) own).1 in
    go low comes.1
  where
    go : f.epoch ≤ before → ((epoch < f.epoch) × (0 < f.counter)) ⊎ ((f.epoch ≡ epoch) × (count < f.counter)) → ⊥
    go low (inl after) = (let high : epoch < f.epoch = after.0 in absurd (omega (arith, low, less, high)))
    go low (inr now) = (let at : f.epoch ≡ epoch = now.0 in absurd (omega (arith, low, less, at)))

-- ---- locks

locked_looked : (ns : List ReadyNote) (t : TransId) (n : ReadyNote) → AreApart ns → Has n ns → n.trans ≡ t → locked_noted ns t ≡ with_resources n.locks []
locked_looked [] t n apart has at = absurd has
locked_looked (m ∷ ns) t n apart has at = go (same_trans m.trans t) refl has (λ h. locked_looked ns t n apart.1 h at)
  where
    go : (b : Bool) → same_trans m.trans t ≡ b → (m ≡ n) ⊎ Has n ns → (Has n ns → locked_noted ns t ≡ with_resources n.locks []) → cond {A = List Resource} b (with_resources m.locks []) (locked_noted ns t) ≡ with_resources n.locks []
    go true e h rest = ap (λ (x : ReadyNote). with_resources x.locks []) (one_trans (m ∷ ns) apart m n (inl refl) has (same_trans-true m.trans t e ∙ sym at))
    go false e (inl is) rest = absurd (by (sym e ∙ ap (λ (x : ReadyNote). same_trans x.trans t) is ∙ ap (λ (u : TransId). same_trans u t) at ∙ same_trans-itself t))
      where
        by : false ≡ true → ⊥
        by wrong = cc
    go false e (inr h) rest = rest h

-- ---- the opening

module _ (tells : Bool) (server servers area : ℕ) (sizes : Sizes) (epoch clock : ℕ) (cells : Cells) (notes : Notes) (h : AreNotesTogether server servers epoch area notes) (later : (clock_before epoch notes).epoch < epoch)
    (l : LiveMap) (t : Table) (k : Joins) (c : Coordinator) (f : IsFoundIn tells cells server epoch notes l t k c) (volume : IsVolumeOf sizes cells)
    (own : (g : FileId) (x : Cell) → map.get cells (Leader g) ≡ Some x → (g.server ≡ server) × (g.epoch ≤ (clock_before epoch notes).epoch)) where
  abbrev o : Start
  o = opening server servers area sizes epoch clock cells notes h later

  note_sized : (n : ReadyNote) → Has n (ready_kept notes) → AreSizedEdits n.edits
  note_sized n has = sized_puts n.edits (part_live tells server servers area sizes epoch clock cells notes h later l t k c f n has).2.sized

  left_life : (u : TransId) (x : Life) → lives_noted (ready_kept notes) u ≡ Some x → IsLeftLife x (locked_noted (ready_kept notes) u)
  left_life u x is = go (life_or (ready_kept notes) u)
    where
      go : (lives_noted (ready_kept notes) u ≡ None) ⊎ IsLifeNoted (ready_kept notes) u (lives_noted (ready_kept notes) u) → IsLeftLife x (locked_noted (ready_kept notes) u)
      go (inl none) = absurd (differ (lives_noted (ready_kept notes) u) x none is)
      go (inr y) =
          let n : ReadyNote = y.note in
          let p : IsPartNote server (clock_before epoch notes).epoch n = part_of_note server servers area sizes epoch clock cells notes h later n y.has in
          subst (λ (z : Life). IsLeftLife z (locked_noted (ready_kept notes) u)) (same-some (early_life n) x (sym y.says ∙ is)) (record {
            vote = n.ts;
            voted = refl;
            within = are_within (held_by n.locks) n.edits p.locks.covered;
            intended = are_intended n.locks p.locks.intended;
            sized = note_sized n y.has;
            known = subst (AreHeld (held_by n.locks)) (sym (locked_looked (ready_kept notes) u n h.apart y.has y.of)) (held_then no_locks n.locks [] ((λ q. refl), tt));
          })

  beyond : (u : TransId) (x : Life) → lives_noted (ready_kept notes) u ≡ Some x → PutNoneBeyond server epoch 0 x.edits
  beyond u x is g comes = go (life_or (ready_kept notes) u)
    where
      go : (lives_noted (ready_kept notes) u ≡ None) ⊎ IsLifeNoted (ready_kept notes) u (lives_noted (ready_kept notes) u) → edits_at x.edits (Leader g) None ≡ None
      go (inl none) = absurd (differ (lives_noted (ready_kept notes) u) x none is)
      go (inr y) =
          ap (λ (z : Life). edits_at z.edits (Leader g) None) (sym (same-some (early_life y.note) x (sym y.says ∙ is)))
          ∙ none_put server (clock_before epoch notes).epoch g (to_come_away server (clock_before epoch notes).epoch epoch 0 g later comes) y.note.edits (part_of_note server servers area sizes epoch clock cells notes h later y.note y.has).edited

  undecided : (u : TransId) → u.epoch ≡ epoch → fate_noted (decisions_kept notes) u ≡ Undrawn
  undecided u now = go (fate_or (decisions_kept notes) u)
    where
      go : (fate_noted (decisions_kept notes) u ≡ Undrawn) ⊎ IsFateNoted (decisions_kept notes) u (fate_noted (decisions_kept notes) u) → fate_noted (decisions_kept notes) u ≡ Undrawn
      go (inl none) = none
      go (inr y) =
          let low : y.note.stamp.trans.epoch ≤ (clock_before epoch notes).epoch = drawn_epoch (clock_before epoch notes).epoch y.note.stamp.trans.epoch y.note.stamp.trans.counter (decided_drawn server servers area sizes epoch clock cells notes h later y.note y.has) in
          let at : y.note.stamp.trans.epoch ≡ u.epoch = ap (λ (v : TransId). v.epoch) y.of in
          absurd (omega (arith, low, at, later, now))

  pub new_told : IsTold tells server servers area sizes epoch clock cells notes h later l t k c f (opened_on o)
  new_told = record {
    server_is = refl;
    servers_is = refl;
    sizes_is = refl;
    ids_is = refl;
    clock_is = refl;
    kept_is = refl;
    cells_is = refl;
    sized = volume_sized sizes cells volume;
    sessions = λ client. refl;
    dead = λ client u. refl;
    waits = refl;
    up = refl;
    ready = (opening_keeps server servers area sizes epoch clock cells notes h later).ready;
    decided = (opening_keeps server servers area sizes epoch clock cells notes h later).decided;
    fit = opening_fits server servers area sizes epoch clock cells notes h later;
    fit_decided = opening_decided_fits server servers area sizes epoch clock cells notes h later;
    lives = left_life;
    counts = λ u x n live has at. ap (λ (rs : List Resource). length rs) (sym (locked_looked (ready_kept notes) u n h.apart has at));
    fates = λ u. (elim (fate_or (decisions_kept notes) u) [
      | inl none ↦ subst IsAtRest (sym none) tt
      | inr y ↦ subst IsAtRest (sym y.says) refl
    ]);
    joins = joins_are tells server servers area sizes epoch clock cells notes h later l t k c f;
    applied = λ u stamp js now is. absurd (differ (decision_in (fate_noted (decisions_kept notes) u)) (stamp, js) (ap decision_in (undecided u now)) is);
    unborn = beyond;
    made = record { early = []; old = tt; all = refl };
    born = none_born server epoch (clock_before epoch notes).epoch cells own later;
    earlier = tt;
    quiet = quiet server servers area sizes epoch clock cells notes h later;
  }

  passes_all : {A : Type 0} (p : A → Bool) (xs : List A) → ((x : A) → Has x xs → p x ≡ true) → list_all p xs ≡ true
  passes_all p [] each = refl
  passes_all p (x ∷ xs) each = (λ i. each x (inl refl) i && list_all p xs) ∙ passes_all p xs (λ y has. each y (inr has))

  pub new_sound : AreSoundTogether cells (ready_kept notes) → (clock_kept notes).clock ≤ clock → IsSoundStart o
  new_sound sound low = record {
    parts =
        notes_sound cells server (clock_before epoch notes).epoch (ready_kept notes) volume.sound (volume_sized sizes cells volume) h.parts h.apart sound
        (all_has (λ (n : ReadyNote). AreSizedEdits n.edits) (ready_kept notes) note_sized);
    before = (clock_before epoch notes).epoch;
    earlier = later;
    ready = h.parts;
    here = are_ready_here server servers notes h.format;
    joins = joins_apart notes;
    apart = h.apart;
    decisions = are_decided_here server servers notes h.format;
    drawn = passes_all (λ (d : DecisionNote). is_drawn_by (clock_before epoch notes).epoch d.stamp.trans.epoch d.stamp.trans.counter) (decisions_kept notes) (decided_drawn server servers area sizes epoch clock cells notes h later);
    times = passes_all (λ (d : DecisionNote). nat_le d.stamp.ts clock) (decisions_kept notes) (λ d has. le-leb d.stamp.ts clock (let time : d.stamp.ts ≤ (clock_kept notes).clock = decided_time server servers area sizes epoch clock cells notes h later d has in omega (arith, time, low)));
  }
