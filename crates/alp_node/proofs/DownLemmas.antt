-- a server that fell, and its journal when it starts again
use Rattle.std.specs.Prelude.{false, IsTrue, Some, slice_get}
use Rattle.std.proofs.Common.{◌≡◌, ◌⊎◌, inl, inr, ⊎_elim, ℕ, zero, suc, ◌+◌, ◌<◌, ◌≤◌, ◌^◌, List, [], ◌∷◌, ◌++◌, length, refl, sym, ◌∙◌, ap, subst, arith}
use Rattle.alp_base.specs.Crashes.{Only, NoMore}
use Rattle.alp_base.specs.Notes.{Notes, noted}
use Rattle.alp_base.specs.declared.allowance.Allowance.TheVariants.{Free}
use Rattle.alp_base.specs.declared.faults.Sizes.{Sizes}
use Rattle.alp_fields.specs.ClockNote.{clock_form, clock_kept}
use Rattle.alp_fields.specs.declared.clock_note.ClockNote.{ClockNote}
use Rattle.alp_vault.specs.Contents.{Contents}
use Rattle.alp_vault.specs.Vault.{IsOneOf, IsSameVault}
use Rattle.alp_vault.specs.Volumes.{IsVolumeOf}
use Rattle.alp_vault.specs.declared.vault.Vault.{Ghosts}
use Rattle.alp_journal.specs.declared.entry.Entry.{Entry}
use Rattle.alp_journal.specs.declared.event.Event.TheVariants as event
use Rattle.alp_journal.specs.Opening.{Start, ready_kept, decisions_kept}
use Rattle.alp_journal.specs.State.{State, opened}
use Rattle.alp_journal.specs.Moves.{next}
use Rattle.alp_journal.specs.Laws.{IsLawful, IsLawfulEntry}
use Rattle.alp_journal.specs.Answered.{IsAnswered, IsAnsweredSo, IsAnsweredEntry, FitsJournal}
use Rattle.alp_journal.specs.Account.{Account, state_of as account_state, Leads}
use Rattle.alp_journal.specs.Restarts.{restart_entry, restarted_at}
use Rattle.alp_regain.specs.Together.{clock_before, AreNotesTogether, AreTogether}
use Rattle.alp_node.specs.DownStates.{DownState}
use Rattle.alp_node.specs.NodeStates.{NodeState}
use Rattle.alp_node.specs.Durable.{IsStoredBy}
use Rattle.alp_node.specs.Found.{HasBegun, KeepsFound, joins_noted, stamps_noted}
use Rattle.alp_node.specs.Nodes.{IsConsistent, IsRight, state_of, start_by, start_in}
use Rattle.alp_node.specs.Downs.{IsLeftOf, IsPast, IsPastRight, IsFallen, IsLeftOrRaised, HasRegained, IsPoweredOff, IsHandedBack, HasRaiseCause, HasBegunEpoch, HasNotBegun, HasRestarted, IsStillDown, next_clock, state_then, entry_again, start_of}
use Rattle.alp_node.specs.Noted.{AreNotesFor}
use Rattle.alp_node.specs.ServerState.{IsAs, IsReady}
use Rattle.alp_node.specs.Starts.{with_clock}
use Rattle.alp_node.specs.declared.found.Found.{Found}
use Rattle.alp_node.specs.declared.server_state.ServerState.{ServerState}
use Rattle.alp_node.specs.declared.start.StartFault.{StartFault}
use Rattle.alp_node.specs.declared.start.StartFault.TheVariants as start_fault
use Rattle.alp_node.proofs.ClockLaws.{time_fits}
use Rattle.alp_node.proofs.FoundAs.{IsTold, found_as}
use Rattle.alp_node.proofs.FoundReady.{found_kept, found_ready, raised_noted}
use Rattle.alp_node.proofs.NodeLemmas.{state_after-push, Along-push, sent_pushed, up_durable}
use Rattle.alp_node.proofs.NoteLemmas.{raised_stored}
use Rattle.alp_node.proofs.PastLemmas.{IsFoundAs, past_of, found_before, found_then}
use Rattle.alp_node.proofs.RestartTold.{clock_found, found_leads, found_told}
use Rattle.alp_node.proofs.StartLemmas.{before_less}
use Rattle.alp_node.proofs.StartMade.{put_back}
use Rattle.alp_node.specs.SoundLives.{HasSoundLives}
use Rattle.alp_node.proofs.SoundLives.{journal_sound}
use Rattle.alp_node.proofs.TriedVotes.{TriesInRoom, room_tried}

-- ---- a server falls

module _ {V : Type 0} (G : Ghosts V) (n : NodeState V) (v : V) (h : IsConsistent G n) (same : IsSameVault G.tells G.volume G.server G.servers n.kept.vault v) where
  abbrev d : DownState V
  d = record { opening = n.opening; vault = v; journal = n.journal; server = n.kept.server; servers = n.kept.servers; epoch = n.kept.epoch }

  told_before : IsTrue (G.tells v) → IsTrue (G.tells n.kept.vault)
  told_before told = subst IsTrue same.telling told

  fallen_right : IsTrue (G.tells v) → IsPastRight (start_in G n) (G.volume v) d
  fallen_right told =
      let r : IsRight (start_in G n) (G.held n.kept.vault) n = h.right (told_before told) in
      record {
        opening = r.opening;
        lawful = r.lawful;
        caused = r.caused;
        state = r.state;
        says = r.says;
        past = past_of r.state (G.held n.kept.vault) n.kept (G.volume v) r.kept (h.sizes ∙ sym same.sizes) (length n.journal) (G.serves n.kept.vault) h.ready
            (subst (λ (s : State). HasSoundLives s.holder) r.says (journal_sound (opened (start_in G n)) n.journal r.lawful r.opening.parts))
            (subst TriesInRoom r.says (room_tried (start_in G n) n.journal r.lawful r.caused));
      }

  here_last : IsRight (start_in G n) (G.held n.kept.vault) n → (state_of (start_in G n) n.journal).ids.epoch < 2 ^ 32
  here_last r = subst (λ (m : ℕ). m < 2 ^ 32) (sym (ap (λ (z : State). z.ids.epoch) r.says ∙ r.kept.epoch)) h.ready.last

  fallen_left : (IsTrue (G.tells n.kept.vault) → IsOneOf (G.may_leave n.kept.vault) (G.may_leave v)) → IsTrue (G.tells v) → (c : Contents) → G.may_leave v c → IsLeftOf (state_of (start_in G n) n.journal) c
  fallen_left one told c here = record {
    epoch = (state_of (start_in G n) n.journal).ids.epoch;
    near = inl refl;
    last = here_last (h.right (told_before told));
    either = (h.durable (told_before told)).down c ((one (told_before told)).was c here);
  }

  pub fallen_as : (IsTrue (G.tells n.kept.vault) → IsOneOf (G.may_leave n.kept.vault) (G.may_leave v)) → G.serves v ≡ false → G.allowance v ≡ Free → IsFallen G d
  fallen_as one rests free = record {
    number = same.number ∙ h.number;
    all = same.of_all ∙ h.all;
    raised = h.ready.raised;
    last = h.ready.last;
    rests = rests;
    free = free;
    said = h.said;
    right = fallen_right;
    left = fallen_left one;
  }

-- ---- what a crash leaves then

-- with the note of the next epoch it is as the journal says too
left_raised : (last : ℕ) (s : State) (found : Contents) → s.ids.epoch ≡ last → last < 4294967295 → IsLeftOf s found → IsLeftOf s (with_clock found (next_clock last found))
left_raised last s found at low l = record {
  epoch = last + 1;
  near = inr (ap (λ (n : ℕ). n + 1) (sym at));
  last = omega (arith, low);
  either = ⊎_elim (λ e. inl (raised_stored l.epoch last s found low e)) (λ e. inr (raised_stored l.epoch last (state_then s) found low e)) l.either;
}

-- a crash of the vault that was refused a restart leaves what the journal says too
still_left : {V : Type 0} (G : Ghosts V) (d : DownState V) (new : V) → IsFallen G d → IsTrue (G.tells d.vault) → NoMore (IsLeftOrRaised G d.server d.servers d.epoch d.vault) (G.may_leave new)
    → (c : Contents) → G.may_leave new c → IsLeftOf (state_of (start_of G d) d.journal) c
still_left G d new h told no_more c here = go (no_more c here)
  where
    r : IsPastRight (start_of G d) (G.volume d.vault) d
    r = h.right told

    go : IsLeftOrRaised G d.server d.servers d.epoch d.vault c → IsLeftOf (state_of (start_of G d) d.journal) c
    go (inl before) = h.left told c before
    go (inr (found, low, before, notes, is)) =
        subst (IsLeftOf (state_of (start_of G d) d.journal)) (sym is)
        (left_raised d.epoch (state_of (start_of G d) d.journal) found (ap (λ (z : State). z.ids.epoch) r.says ∙ r.past.now) low (h.left told found before))

-- ---- the journal of a server that starts again

pushed_at : {A : Type 0} (xs : List A) (y x : A) (i : ℕ) → slice_get (xs ++ y ∷ []) i ≡ Some x → (slice_get xs i ≡ Some x) ⊎ (y ≡ x)
pushed_at [] y x zero e = inr (cc)
pushed_at [] y x (suc i) e = cc
pushed_at (z ∷ xs) y x zero e = inl e
pushed_at (z ∷ xs) y x (suc i) e = pushed_at xs y x i e

-- a restart adds its entry at any count
fits_again : (es : List Entry) (e : Entry) → e.event ≡ event.Restart → FitsJournal es → FitsJournal (es ++ e ∷ [])
fits_again es e is fits i x at = ⊎_elim (λ before. fits i x before) (λ last. inl (ap (λ (y : Entry). y.event) (sym last) ∙ is)) (pushed_at es e x i at)

-- of what a crash left the state tells, or the state with all that was tried
record IsKnownAs (a : Account) (c : Contents) : Type 0 where
  state : State
  it : IsFoundAs a state
  near : ℕ
  stored : IsStoredBy near state c

known_as : (a : Account) (server servers epoch : ℕ) (sizes : Sizes) → IsPast a server servers epoch sizes → (c : Contents) → IsLeftOf (account_state a) c → IsKnownAs a c
known_as a server servers epoch sizes past c l = ⊎_elim
    (λ e. record { state = account_state a; it = found_before a server servers epoch sizes past; near = l.epoch; stored = e })
    (λ e. record { state = state_then (account_state a); it = found_then a server servers epoch sizes past; near = l.epoch; stored = e }) l.either

module _ {V : Type 0} (G : Ghosts V) (d : DownState V) (n : NodeState V) (clock : ClockNote) (f : Found) (h : IsFallen G d) (b : HasBegunEpoch G d.server d.servers d.epoch d.vault n.kept.vault clock f) (s : HasBegun (G.volume n.kept.vault) d.server d.servers clock f n.kept.vault n.kept)
    (opening : n.opening ≡ d.opening) (journal : n.journal ≡ d.journal ++ entry_again clock f.ready f.decided ∷ []) where
  abbrev v : V
  v = n.kept.vault

  abbrev notes : Notes
  notes = b.found.notes

  abbrev area : ℕ
  area = (G.volume d.vault).area

  told_down : IsTrue (G.tells v) → IsTrue (G.tells d.vault)
  told_down told = subst IsTrue b.same.telling told

  epoch_next : clock.epoch ≡ d.epoch + 1
  epoch_next = ap (λ (c : ClockNote). c.epoch) b.next

  time_is : clock.clock ≡ (clock_kept notes).clock
  time_is = ap (λ (c : ClockNote). c.clock) b.next

  later : (clock_before clock.epoch notes).epoch < clock.epoch
  later = before_less (clock_kept notes).epoch clock.epoch (omega (arith, epoch_next))

  last_epoch : clock.epoch < 2 ^ 32
  last_epoch = (let low : d.epoch < 4294967295 = b.low in omega (arith, epoch_next, low))

  fits : clock_form.Fits clock
  fits = time_fits clock last_epoch b.within

  sizes_is : n.kept.sizes ≡ G.volume d.vault
  sizes_is = s.volume ∙ b.same.sizes

  abbrev kept_then : ServerState V
  kept_then = found_kept (G.tells d.vault) d.server d.servers area (G.volume d.vault) clock.epoch clock.clock b.found.cells notes b.alone later f.lives f.locks f.joins f.coordinator b.finds.found n.kept

  kept_is : n.kept ≡ kept_then
  kept_is = λ i. record (n.kept) {
    server = s.number i;
    servers = s.of_all i;
    sizes = sizes_is i;
    epoch = s.epoch i;
    clock = s.time i;
    given = s.given i;
    coordinator = s.coordinator i;
    joins = s.joins i;
    sessions = s.sessions i;
    lives = s.lives i;
    dead = s.dead i;
    waits = s.waits i;
    locks = s.locks i;
    is_down = s.up i;
  }

  -- a server that starts again keeps what its journal says
  again_right : (IsTrue (G.tells v) → IsVolumeOf (G.volume v) (G.held v).cells) → IsTrue (G.tells v) → IsRight (start_in G n) (G.held v) n
  again_right volume tells =
      let told : IsTrue (G.tells d.vault) = told_down tells in
      let r : IsPastRight (start_of G d) (G.volume d.vault) d = h.right told in
      let g : HasRegained G d.server d.servers d.vault v b.found clock = b.regained told in
      let o : Start = start_of G d in
      let a : Account = r.state in
      let same_start : o ≡ start_in G n = (λ i. start_by G (sym s.number i) (sym opening i).vault.value) in
      let cells_now : (G.held v).cells ≡ b.found.cells = ap (λ (c : Contents). c.cells) g.held in
      let sound : IsVolumeOf (G.volume d.vault) b.found.cells = subst (λ (z : Sizes). IsVolumeOf z b.found.cells) b.same.sizes (subst (IsVolumeOf (G.volume v)) cells_now (volume tells)) in
      let k : IsKnownAs a b.found = known_as a d.server d.servers d.epoch (G.volume d.vault) r.past b.found (subst (λ (z : State). IsLeftOf z b.found) r.says (h.left told b.found g.left)) in
      let m : Account = restarted_at k.it.account k.it.clock in
      let at : k.it.clock ≡ clock.clock = clock_found a d.server d.servers d.epoch (G.volume d.vault) r.past h.raised k.state k.it k.near b.found k.stored clock.epoch area epoch_next b.alone later ∙ sym time_is in
      let leads_found : Leads false a (restart_entry a k.it.clock (joins_noted (ready_kept notes)) (stamps_noted (decisions_kept notes))) m =
      found_leads a d.server d.servers d.epoch (G.volume d.vault) r.past h.raised k.state k.it k.near b.found k.stored clock.epoch area epoch_next b.alone later in
      let e : Entry = entry_again clock f.ready f.decided in
      let entry_is : restart_entry a k.it.clock (joins_noted (ready_kept notes)) (stamps_noted (decisions_kept notes)) ≡ e =
      (λ i. entry_again (record { epoch = (ap (λ (x : ℕ). x + 1) r.past.now ∙ sym epoch_next) i; clock = at i }) (sym b.finds.ready i) (sym b.finds.decided i)) in
      let leads : Leads false a e m = subst (λ (x : Entry). Leads false a x m) entry_is leads_found in
      let told_of : IsTold (G.tells d.vault) d.server d.servers area (G.volume d.vault) clock.epoch clock.clock b.found.cells notes b.alone later f.lives f.locks f.joins f.coordinator b.finds.found m =
      found_told a d.server d.servers d.epoch (G.volume d.vault) r.past h.raised k.state k.it k.near b.found k.stored clock.epoch area epoch_next b.alone later (G.tells d.vault) f.lives f.locks f.joins f.coordinator b.finds.found sound clock.clock time_is in
      let kept : IsAs m (G.held v) n.kept = subst (IsAs m (G.held v)) (sym kept_is)
      (found_as (G.tells d.vault) d.server d.servers area (G.volume d.vault) clock.epoch clock.clock b.found.cells notes b.alone later f.lives f.locks f.joins f.coordinator b.finds.found m told_of n.kept (G.held v) told fits (omega (arith, time_is)) cells_now b.notes g.together.room) in
      subst (λ (x : Start). IsRight x (G.held v) n) same_start (record {
        opening = r.opening;
        lawful = subst (IsLawful o) (sym journal) (Along-push next IsLawfulEntry (opened o) d.journal e r.lawful (subst (λ (z : State). IsLawfulEntry z e) (sym r.says) leads.lawful));
        caused = subst (IsAnswered o) (sym journal)
            (Along-push next IsAnsweredSo (opened o) d.journal e r.caused.0 (false, subst (λ (z : State). IsAnsweredEntry false z e) (sym r.says) leads.answered), fits_again d.journal e refl r.caused.1);
        state = m;
        says = ap (state_of o) journal ∙ state_after-push next (opened o) d.journal e ∙ ap (λ (z : State). next z e) r.says ∙ leads.leaves;
        kept = kept;
      })

  -- and to all that holds of servers
  pub restarted_kept : 64 ≤ (G.volume v).area → (IsTrue (G.tells v) → IsVolumeOf (G.volume v) (G.held v).cells) → (IsTrue (G.tells v) → Only (G.held v) (G.may_leave v)) → IsConsistent G n
  restarted_kept least volume only = record {
    number = b.same.number ∙ h.number ∙ sym s.number;
    all = b.same.of_all ∙ h.all ∙ sym s.of_all;
    sizes = s.volume;
    ready = subst (IsReady (length n.journal) (G.serves v)) (sym kept_is)
        (found_ready (G.tells d.vault) d.server d.servers area (G.volume d.vault) clock.epoch clock.clock b.found.cells notes b.alone later f.lives f.locks f.joins f.coordinator b.finds.found (length n.journal) (G.serves v) n.kept b.serving refl
        (subst (λ (z : Sizes). 64 ≤ z.area) b.same.sizes least) (omega (arith, time_is)) b.within last_epoch);
    noted = λ up. subst (λ (x : ServerState V). AreNotesFor x (G.held v).notes) (sym kept_is)
        (subst (AreNotesFor kept_then) (sym b.notes)
        (raised_noted (G.tells d.vault) d.server d.servers area (G.volume d.vault) clock.epoch clock.clock b.found.cells notes b.alone later f.lives f.locks f.joins f.coordinator b.finds.found fits));
    said = sent_pushed d.journal n.journal (entry_again clock f.ready f.decided) journal h.said tt;
    right = again_right volume;
    durable = λ tells. up_durable (start_in G n) (G.held v) n (G.may_leave v) (again_right volume tells) s.up (only tells);
  }

  clock_is : clock ≡ record { epoch = n.kept.epoch; clock = n.kept.clock }
  clock_is = λ i. record { epoch = sym s.epoch i; clock = sym s.time i }

  pub has_restarted : HasRestarted G d n
  has_restarted = record {
    low = b.low;
    opening = opening;
    server = s.number;
    servers = s.of_all;
    epoch = s.epoch ∙ epoch_next;
    joins = f.ready;
    stamps = f.decided;
    journal = journal ∙ ap (λ (c : ClockNote). d.journal ++ entry_again c f.ready f.decided ∷ []) clock_is;
    found = b.found;
    alone = subst (λ (e : ℕ). AreNotesTogether d.server d.servers e area notes) (sym s.epoch) b.alone;
    ready = b.finds.ready;
    decided = b.finds.decided;
    time = s.time ∙ time_is;
    nobody = subst (KeepsFound (G.tells d.vault) b.found) (sym kept_is) (record { all = b.finds.found; given = refl; sessions = refl; dead = refl; waits = refl; up = refl });
    regained = λ told. subst (HasRegained G d.server d.servers d.vault v b.found) clock_is (b.regained told);
    same = b.same;
    faults = b.counted;
    allowance = b.free;
    note = ap clock_kept b.notes ∙ put_back notes clock fits ∙ clock_is;
    crash = b.crash;
  }

-- what a crash leaves goes together
left_together : (a : Account) (server servers last : ℕ) (sizes : Sizes) → IsPast a server servers last sizes → (c : Contents) → IsLeftOf (account_state a) c → (here all : ℕ) → here ≡ server → all ≡ servers → AreTogether here all (last + 1) sizes c.cells c.notes
left_together a server servers last sizes past c left here all is of_all =
    subst (λ (n : ℕ). AreTogether n all (last + 1) sizes c.cells c.notes) (past.number ∙ sym is)
    (subst (λ (n : ℕ). AreTogether a.holder.server n (last + 1) sizes c.cells c.notes) (past.among ∙ sym of_all)
    (subst (λ (n : ℕ). AreTogether a.holder.server a.servers (n + 1) sizes c.cells c.notes) past.now
    (subst (λ (z : Sizes). AreTogether a.holder.server a.servers (a.ids.epoch + 1) z c.cells c.notes) past.volume (past.together left.epoch c late left.either))))
  where
    late : a.ids.epoch ≤ left.epoch
    late = go left.near
      where
        go : (left.epoch ≡ a.ids.epoch) ⊎ (left.epoch ≡ a.ids.epoch + 1) → a.ids.epoch ≤ left.epoch
        go (inl same) = omega (arith, same)
        go (inr next) = omega (arith, next)

-- a vault that is handed back may be left with no more
handed_no_more : {V : Type 0} (G : Ghosts V) (old new : V) (P : Contents → Type 0) → IsHandedBack G old new P → IsTrue (G.tells old) → NoMore P (G.may_leave new)
handed_no_more G old new P h told c here = (h.crash told).crash c (before h.back)
  where
    before : (new ≡ h.mid) ⊎ (IsTrue (G.serves h.mid) × IsPoweredOff G 0 h.mid new) → G.may_leave h.mid c
    before (inl same) = subst (λ (v : _). G.may_leave v c) same here
    before (inr (on, off)) = (off.left (subst IsTrue (sym h.same.telling) told)).was c here

-- a server that was refused its restart may be started again
module _ {V : Type 0} (G : Ghosts V) (d : DownState V) (new : V) (journal : List Entry) (f : StartFault) (is : journal ≡ d.journal) (h : IsFallen G d) (b : HasNotBegun G d.server d.servers d.epoch d.vault new f) where
  abbrev then_down : DownState V
  then_down = record d { vault = new; journal = journal }

  pub still_fallen : IsFallen G then_down
  still_fallen = subst (λ (es : List Entry). IsFallen G (record d { vault = new; journal = es })) (sym is) (record {
    number = b.same.number ∙ h.number;
    all = b.same.of_all ∙ h.all;
    raised = h.raised;
    last = h.last;
    rests = b.rests;
    free = b.free;
    said = h.said;
    right = λ told. (
        let r : IsPastRight (start_of G d) (G.volume d.vault) d = h.right (subst IsTrue b.same.telling told) in
        record {
          opening = r.opening;
          lawful = r.lawful;
          caused = r.caused;
          state = r.state;
          says = r.says;
          past = subst (IsPast r.state d.server d.servers d.epoch) (sym b.same.sizes) r.past;
        }
        );
    left = λ told. (let before : IsTrue (G.tells d.vault) = subst IsTrue b.same.telling told in still_left G d new h before (handed_no_more G d.vault new (IsLeftOrRaised G d.server d.servers d.epoch d.vault) b.back before));
  })

  pub still_down : (d.epoch ≡ 4294967295 → f ≡ start_fault.EpochEnd) → IsStillDown G d then_down f
  still_down end = record {
    opening = refl;
    journal = is;
    server = refl;
    servers = refl;
    epoch = refl;
    same = b.same;
    cause = b.cause;
    end = end;
    sound = λ told e. (
        let r : IsPastRight (start_of G d) (G.volume d.vault) d = h.right told in
        let bad = (subst (HasRaiseCause G d.epoch d.vault new) e b.cause).1 told in
        let left : IsLeftOf (account_state r.state) bad.0 = subst (λ (z : State). IsLeftOf z bad.0) r.says (h.left told bad.0 bad.1) in
        bad.2.told told (left_together r.state d.server d.servers d.epoch (G.volume d.vault) r.past bad.0 left (G.server d.vault) (G.servers d.vault) h.number h.all)
        );
    back = b.back;
  }
