-- a restart finds a state that its notes tell of
use Rattle.std.specs.Prelude.{cond, Bool, true, false, not, ◌==◌, ◌&&◌, ◌||◌, Option, None, Some, is_some}
use Rattle.std.specs.List.{AllByRecursion}
use Rattle.std.specs.FinMap as map
use Rattle.std.proofs.Common.{◌≡◌, ◌⊎◌, inl, inr, ℕ, ◌+◌, ◌<◌, List, [], ◌∷◌, length, refl, sym, ◌∙◌, ap, subst}
use Rattle.std.proofs.lemmas.Bool.{eqb-true, eq-eqb, and_from, and_parts, or_left, or_right, or_parts, not-true, not_from_false, false_from_ne_true}
use Rattle.alp_base.specs.Notes.{Notes}
use Rattle.alp_base.specs.declared.faults.Sizes.{Sizes}
use Rattle.alp_base.specs.declared.ids.FileId.{FileId}
use Rattle.alp_base.specs.declared.ids.JoinNo.{JoinNo}
use Rattle.alp_base.specs.declared.ids.Stamp.{Stamp}
use Rattle.alp_base.specs.declared.ids.TransId.{TransId}
use Rattle.alp_base.specs.declared.key.Resource.{Resource}
use Rattle.alp_fields.specs.ClockNote.{clock_kept}
use Rattle.alp_fields.specs.DecisionNote.{decision_name}
use Rattle.alp_fields.specs.ReadyNote.{ready_name}
use Rattle.alp_fields.specs.declared.clock_note.ClockNote.{ClockNote}
use Rattle.alp_fields.specs.declared.decision_note.Decision.{Decision}
use Rattle.alp_fields.specs.declared.ready_note.ReadyPart.{ReadyPart}
use Rattle.alp_files.specs.Apart.{AreSized}
use Rattle.alp_files.specs.Cells.{Cells}
use Rattle.alp_files.specs.Holdings.{held_by}
use Rattle.alp_files.proofs.FilesLemmas.{same-some}
use Rattle.alp_locks.specs.Tables.{Table, held_of}
use Rattle.alp_vault.specs.Contents.{Contents}
use Rattle.alp_vault.specs.Volumes.{IsVolumeOf}
use Rattle.alp_ready.specs.NoteLooks.{ready_at, decision_at}
use Rattle.alp_coord.specs.declared.coordinator.Coordinator.{Coordinator}
use Rattle.alp_worker.specs.Joins.{AreJoinsOf}
use Rattle.alp_worker.specs.Lives.{live_at}
use Rattle.alp_worker.specs.declared.joins.Joins.{Joins}
use Rattle.alp_journal.specs.Counts.{with_resources, kept_locks}
use Rattle.alp_journal.specs.Coordinator.{Fate, Undrawn, Running, Finishing, Committed, Forgotten, Ended, decision_in}
use Rattle.alp_journal.specs.Coordinator as fate
use Rattle.alp_journal.specs.Participant.{Phase, Unseen, Joining, Active, Ready, Applied, Over, is_ready, live_in, phase_noted}
use Rattle.alp_journal.specs.Participant as phase
use Rattle.alp_journal.specs.Holder.{Life, if_ready, no_locks}
use Rattle.alp_journal.specs.Ids.{same_trans, same_join, has_join, same_stamp, has_stamp, is_drawn}
use Rattle.alp_journal.specs.Laws.{is_standing, are_joins_apart, are_stamps_apart}
use Rattle.alp_journal.specs.Opening.{Start, ReadyNote, DecisionNote, ready_kept, decisions_kept}
use Rattle.alp_journal.specs.State.{State, Ids, opened}
use Rattle.alp_journal.specs.Account.{Account, state_of, HasLife, IsPhaseOf, Stands, IsQuiet, Leads, has_trans, are_trans_apart}
use Rattle.alp_journal.specs.Restarts.{restart_entry, restarted_at}
use Rattle.alp_journal.proofs.IdLemmas.{same_trans-true, same_trans-itself, same_join-true, or-true}
use Rattle.alp_journal.proofs.OpenedLemmas.{decided_trans}
use Rattle.alp_journal.proofs.RestartLemmas.{IsNoted}
use Rattle.alp_journal.proofs.StandLemmas.{same_join-itself}
use Rattle.alp_regain.specs.Notes.{part_note}
use Rattle.alp_regain.specs.Owners.{joins_of}
use Rattle.alp_regain.specs.Together.{clock_before, AreNotesTogether}
use Rattle.alp_regain.proofs.OwnerLemmas.{joins_apart}
use Rattle.alp_node.specs.Downs.{IsPartPast, IsPast}
use Rattle.alp_node.specs.Durable.{IsKeptOf, IsKeptIf, IsReadyNote, IsStoredBy}
use Rattle.alp_node.specs.Found.{IsFoundIn, joins_noted, stamps_noted}
use Rattle.alp_node.specs.Noted.{decision_kept}
use Rattle.alp_node.specs.ServerState.{AreMade, IsToCome}
use Rattle.alp_node.specs.Totals.{LiveMap}
use Rattle.alp_node.proofs.CountedLocks.{as_many}
use Rattle.alp_node.proofs.FoundAs.{IsLeftLife, IsAtRest, IsNoteKept, note_kept, IsTold}
use Rattle.alp_node.proofs.FoundNotes.{Has, differ, IsReadyAt, ready_stands, ready_has, IsDecisionAt, decision_stands, decision_has, IsPhaseNoted, phase_or, phase_of, decided_apart}
use Rattle.alp_node.proofs.FoundReady.{note_held}
use Rattle.alp_node.proofs.FoundStart.{opening, joins_noted_so}
use Rattle.alp_node.proofs.LockCountLemmas.{held_then}
use Rattle.alp_node.proofs.PastIds.{made_again, unsaid}
use Rattle.alp_node.proofs.PastLemmas.{IsFoundAs}
use Rattle.alp_node.proofs.StartLemmas.{volume_sized}
use Rattle.alp_node.proofs.ToComeLemmas.{comes_after}

-- ---- lists of notes

-- two that are true together are one
same_bits : (p q : Bool) → (p ≡ true → q ≡ true) → (q ≡ true → p ≡ true) → p ≡ q
same_bits true q f g = sym (f refl)
same_bits false true f g = g refl
same_bits false false f g = refl

and_nothing : (b : Bool) → (b && false) ≡ false
and_nothing true = refl
and_nothing false = refl

joined_has : (j : JoinNo) (ns : List ReadyNote) → has_join j (joins_of ns) ≡ true → (n : ReadyNote) × Has n ns × (n.join ≡ j)
joined_has j [] h = let wrong : false ≡ true = h in cc
joined_has j (n ∷ ns) h = elim (or-true (same_join n.join j) (has_join j (joins_of ns)) h) [
  | inl same ↦ (n, inl refl, same_join-true n.join j same)
  | inr more ↦ (let m = joined_has j ns more in (m.0, inr m.1, m.2))
]

has_joined : (n : ReadyNote) (ns : List ReadyNote) → Has n ns → has_join n.join (joins_of ns) ≡ true
has_joined n [] has = absurd has
has_joined n (m ∷ ns) (inl is) = or_left (same_join m.join n.join) (has_join n.join (joins_of ns)) (ap (λ (x : ReadyNote). same_join x.join n.join) is ∙ same_join-itself n.join)
has_joined n (m ∷ ns) (inr has) = or_right (same_join m.join n.join) (has_join n.join (joins_of ns)) (has_joined n ns has)

stamped_has : (x : Stamp) (ds : List DecisionNote) → has_stamp x (stamps_noted ds) ≡ true → (d : DecisionNote) × Has d ds × (same_stamp d.stamp x ≡ true)
stamped_has x [] h = let wrong : false ≡ true = h in cc
stamped_has x (d ∷ ds) h = elim (or-true (same_stamp d.stamp x) (has_stamp x (stamps_noted ds)) h) [
  | inl same ↦ (d, inl refl, same)
  | inr more ↦ (let m = stamped_has x ds more in (m.0, inr m.1, m.2))
]

has_stamped : (x : Stamp) (d : DecisionNote) (ds : List DecisionNote) → same_stamp d.stamp x ≡ true → Has d ds → has_stamp x (stamps_noted ds) ≡ true
has_stamped x d [] same has = absurd has
has_stamped x d (e ∷ ds) same (inl is) = or_left (same_stamp e.stamp x) (has_stamp x (stamps_noted ds)) (ap (λ (y : DecisionNote). same_stamp y.stamp x) is ∙ same)
has_stamped x d (e ∷ ds) same (inr has) = or_right (same_stamp e.stamp x) (has_stamp x (stamps_noted ds)) (has_stamped x d ds same has)

none_stamped : (x : Stamp) (ds : List DecisionNote) → has_trans x.trans (decided_trans ds) ≡ false → has_stamp x (stamps_noted ds) ≡ false
none_stamped x [] none = refl
none_stamped x (d ∷ ds) none =
    let both = or_parts (same_trans d.stamp.trans x.trans) (has_trans x.trans (decided_trans ds)) none in
    ap (λ (b : Bool). (d.stamp.ts == x.ts && b) || has_stamp x (stamps_noted ds)) both.0 ∙ ap (λ (b : Bool). b || has_stamp x (stamps_noted ds)) (and_nothing (d.stamp.ts == x.ts)) ∙ none_stamped x ds both.1

stamps_apart : (ds : List DecisionNote) → are_trans_apart (decided_trans ds) ≡ true → are_stamps_apart (stamps_noted ds) ≡ true
stamps_apart [] apart = refl
stamps_apart (d ∷ ds) apart =
    let both = and_parts (not (has_trans d.stamp.trans (decided_trans ds))) (are_trans_apart (decided_trans ds)) apart in
    and_from (not (has_stamp d.stamp (stamps_noted ds))) (are_stamps_apart (stamps_noted ds)) (not_from_false (has_stamp d.stamp (stamps_noted ds)) (none_stamped d.stamp ds (not-true (has_trans d.stamp.trans (decided_trans ds)) both.0)))
    (stamps_apart ds both.1)

-- ---- what a restart leaves of a phase, a fate and a part

ready_same : (p : Phase) → is_ready (phase.restarted p) ≡ is_ready p
ready_same Unseen = refl
ready_same (Joining t c who) = refl
ready_same (Active t c who) = refl
ready_same (Ready t c ts) = refl
ready_same (Applied t stamp) = refl
ready_same Over = refl

unready_gone : (j : JoinNo) (p : Phase) → is_ready p ≡ false → live_at j (phase.restarted p) ≡ None
unready_gone j Unseen h = refl
unready_gone j (Joining t c who) h = refl
unready_gone j (Active t c who) h = refl
unready_gone j (Ready t c ts) h = let wrong : true ≡ false = h in cc
unready_gone j (Applied t stamp) h = refl
unready_gone j Over h = refl

kept_same : (epoch : ℕ) (f : Fate) → decision_kept (fate.restarted epoch f) ≡ decision_kept f
kept_same epoch Undrawn = refl
kept_same epoch (Running c js) = refl
kept_same epoch (Finishing c js vs) = refl
kept_same epoch (Committed stamp [] ds) = refl
kept_same epoch (Committed stamp (j ∷ js) ds) = refl
kept_same epoch (Forgotten stamp js) = refl
kept_same epoch (Ended c) = refl

at_rest : (epoch : ℕ) (f : Fate) → IsAtRest (fate.restarted epoch f)
at_rest epoch Undrawn = tt
at_rest epoch (Running c js) = tt
at_rest epoch (Finishing c js vs) = tt
at_rest epoch (Committed stamp js ds) = refl
at_rest epoch (Forgotten stamp js) = tt
at_rest epoch (Ended c) = tt

-- a part that outlives it has voted
record IsVoted (x : Option Life) (l : Life) (rs : List Resource) : Type 0 where
  was : x ≡ Some l
  vote : ℕ
  voted : l.vote ≡ Some vote
  locks : kept_locks x rs ≡ rs

voted_life : (x : Option Life) (l : Life) (rs : List Resource) → if_ready x ≡ Some l → IsVoted x l rs
voted_life None l rs is = let wrong : None ≡ Some l = is in cc
voted_life (Some k) l rs is = go k.vote refl is
  where
    go : (v : Option ℕ) → k.vote ≡ v → cond {A = Option Life} (is_some v) (Some k) None ≡ Some l → IsVoted (Some k) l rs
    go None e same = let wrong : None ≡ Some l = same in cc
    go (Some n) e same =
        let one : k ≡ l = same-some k l same in
        record { was = same; vote = n; voted = ap (λ (y : Life). y.vote) (sym one) ∙ e; locks = ap (λ (v : Option ℕ). cond {A = List Resource} (is_some v) rs []) e }

-- the note of one that outlives it stays its note
ready_again : (before lives : TransId → Option Life) → ((t : TransId) → (before t ≡ lives t) ⊎ (lives t ≡ None)) → (j : JoinNo) (p : Phase) (x : Option ReadyPart) → HasLife (λ t. if_ready (lives t)) j (phase.restarted p) → IsReadyNote before p x
    → IsReadyNote (λ t. if_ready (lives t)) (phase.restarted p) x
ready_again before lives same j Unseen x has h = h
ready_again before lives same j (Joining t c who) x has h = none_of x h
  where
    none_of : (o : Option ReadyPart) → IsReadyNote before (Joining t c who) o → IsReadyNote (λ t. if_ready (lives t)) Over o
    none_of None h = refl
    none_of (Some p) h = h
ready_again before lives same j (Active t c who) x has h = none_of x h
  where
    none_of : (o : Option ReadyPart) → IsReadyNote before (Active t c who) o → IsReadyNote (λ t. if_ready (lives t)) Over o
    none_of None h = refl
    none_of (Some p) h = h
ready_again before lives same j (Ready t c ts) None has h = absurd h
ready_again before lives same j (Ready t c ts) (Some p) has h = (h.0, h.1, h.2, subst (λ (y : Option Life). IsKeptIf y p) (sym has.1) kept)
  where
    was : lives t ≡ Some has.0
    was = (voted_life (lives t) has.0 [] has.1).was

    kept : IsKeptOf has.0 p
    kept = elim (same t) [
      | inl one ↦ subst (λ (y : Option Life). IsKeptIf y p) (one ∙ was) h.3
      | inr none ↦ absurd (differ (lives t) has.0 none was)
    ]
ready_again before lives same j (Applied t stamp) x has h = h
ready_again before lives same j Over x has h = h

-- a decision is kept where it stands
kept_stands : (f : Fate) (d : Decision) (x : Stamp) → decision_kept f ≡ Some d → d.ts ≡ x.ts → ((stamp : Stamp) (js ds : List JoinNo) → f ≡ Committed stamp js ds → stamp.trans ≡ x.trans) → is_standing x f ≡ true
kept_stands Undrawn d x is time own = let wrong : None ≡ Some d = is in cc
kept_stands (Running c js) d x is time own = let wrong : None ≡ Some d = is in cc
kept_stands (Finishing c js vs) d x is time own = let wrong : None ≡ Some d = is in cc
kept_stands (Committed stamp [] ds) d x is time own = let wrong : None ≡ Some d = is in cc
kept_stands (Committed stamp (j ∷ js) ds) d x is time own =
    let one : record { ts = stamp.ts; joins = j ∷ js } ≡ d = same-some (record { ts = stamp.ts; joins = j ∷ js }) d is in
    let at : stamp.ts ≡ x.ts = ap (λ (y : Decision). y.ts) one ∙ time in
    let same : stamp ≡ x = (λ i. record { ts = at i; trans = own stamp (j ∷ js) ds refl i }) in
    ap (same_stamp stamp) (sym same) ∙ stamp_itself stamp
  where
    stamp_itself : (y : Stamp) → same_stamp y y ≡ true
    stamp_itself y = and_from (y.ts == y.ts) (same_trans y.trans y.trans) (eq-eqb y.ts y.ts refl) (same_trans-itself y.trans)
kept_stands (Forgotten stamp js) d x is time own = let wrong : None ≡ Some d = is in cc
kept_stands (Ended c) d x is time own = let wrong : None ≡ Some d = is in cc

record IsKept (f : Fate) (x : Stamp) : Type 0 where
  decision : Decision
  kept : decision_kept f ≡ Some decision
  time : (decision.ts == x.ts) ≡ true

stands_kept : (f : Fate) (x : Stamp) → is_standing x f ≡ true → IsKept f x
stands_kept Undrawn x h = let wrong : false ≡ true = h in cc
stands_kept (Running c js) x h = let wrong : false ≡ true = h in cc
stands_kept (Finishing c js vs) x h = let wrong : false ≡ true = h in cc
stands_kept (Committed stamp [] ds) x h = let wrong : false ≡ true = h in cc
stands_kept (Committed stamp (j ∷ js) ds) x h = record { decision = record { ts = stamp.ts; joins = j ∷ js }; kept = refl; time = (and_parts (stamp.ts == x.ts) (same_trans stamp.trans x.trans) h).0 }
stands_kept (Forgotten stamp js) x h = let wrong : false ≡ true = h in cc
stands_kept (Ended c) x h = let wrong : false ≡ true = h in cc

-- what is true is not false
clash : (b : Bool) → b ≡ true → b ≡ false → ⊥
clash b yes_so no_so = by (sym yes_so ∙ no_so)
  where
    by : true ≡ false → ⊥
    by wrong = cc

-- ---- what stands of joins

module _ (servers server epoch count : ℕ) (joined : List JoinNo) where
  phase_drawn : (j : JoinNo) (p : Phase) → IsPhaseOf servers server epoch count joined j p → (p ≡ Unseen) ⊎ ((is_drawn server epoch count j.server j.epoch j.counter ≡ true) × (has_join j joined ≡ true))
  phase_drawn j Unseen h = inl refl
  phase_drawn j (Joining t c who) h = inr h.0
  phase_drawn j (Active t c who) h = inr h.0
  phase_drawn j (Ready t c ts) h = inr h.0
  phase_drawn j (Applied t stamp) h = inr h
  phase_drawn j Over h = inr h

  phase_unseen : (j : JoinNo) (p : Phase) → p ≡ Unseen → IsPhaseOf servers server epoch count joined j p → has_join j joined ≡ false
  phase_unseen j p is h = subst (IsPhaseOf servers server epoch count joined j) is h

all_joined : (P : JoinNo → Type 0) (js : List JoinNo) → ((j : JoinNo) → has_join j js ≡ true → P j) → AllByRecursion P js
all_joined P [] f = tt
all_joined P (j ∷ js) f = (f j (or_left (same_join j j) (has_join j js) (same_join-itself j)), all_joined P js (λ k h. f k (or_right (same_join j k) (has_join k js) h)))

live_seen : (p : Phase) → p ≡ Unseen → is_some (live_in p) ≡ true → ⊥
live_seen p is some = by (sym (ap (λ (q : Phase). is_some (live_in q)) is) ∙ some)
  where
    by : false ≡ true → ⊥
    by wrong = cc

-- ---- what is found

module _ (a : Account) (server servers last : ℕ) (sizes : Sizes) (past : IsPast a server servers last sizes) (some : 0 < last) (s : State) (it : IsFoundAs a s) (near : ℕ) (found : Contents) (stored : IsStoredBy near s found) (epoch area : ℕ) (at : epoch ≡ last + 1)
    (alone : AreNotesTogether server servers epoch area found.notes) (later : (clock_before epoch found.notes).epoch < epoch) where
  abbrev b : Account
  b = it.account

  abbrev notes : Notes
  notes = found.notes

  abbrev m : Account
  m = restarted_at it.account it.clock

  pub clock_found : it.clock ≡ (clock_kept notes).clock
  clock_found = sym it.last.kept ∙ ap (λ (c : ClockNote). c.clock) (sym stored.notes.clock)

  ready_before : (j : JoinNo) → ready_name.Fits j → IsReadyNote s.holder.lives (b.phases j) (ready_at notes j)
  ready_before j fits = subst (λ (p : Phase). IsReadyNote s.holder.lives p (ready_at notes j)) (it.last.phases j) (stored.notes.ready j fits)

  fits_before : (j : JoinNo) → is_ready (b.phases j) ≡ true → ready_name.Fits j
  fits_before j is = stored.notes.fit j (ap is_ready (it.last.phases j) ∙ is)

  kept_before : (u : TransId) → decision_name.Fits u → decision_at notes u ≡ decision_kept (b.fates u)
  kept_before u fits = stored.notes.decided u fits ∙ ap decision_kept (it.last.fates u)

  fits_kept : (u : TransId) → is_some (decision_kept (b.fates u)) ≡ true → decision_name.Fits u
  fits_kept u is = stored.notes.fit_decided u (ap (λ (f : Fate). is_some (decision_kept f)) (it.last.fates u) ∙ is)

  -- a join that is ready has its note
  ready_noted : (j : JoinNo) → is_ready (b.phases j) ≡ true → (p : ReadyPart) × (ready_at notes j ≡ Some p)
  ready_noted j is = go (b.phases j) is (ready_at notes j) refl (ready_before j (fits_before j is))
    where
      go : (q : Phase) → is_ready q ≡ true → (x : Option ReadyPart) → ready_at notes j ≡ x → IsReadyNote s.holder.lives q (ready_at notes j) → (p : ReadyPart) × (ready_at notes j ≡ Some p)
      go q is (Some p) e h = (p, e)
      go (Ready t c ts) is None e h = absurd (subst (IsReadyNote s.holder.lives (Ready t c ts)) e h)
      go Unseen is None e h = let wrong : false ≡ true = is in cc
      go (Joining t c who) is None e h = let wrong : false ≡ true = is in cc
      go (Active t c who) is None e h = let wrong : false ≡ true = is in cc
      go (Applied t stamp) is None e h = let wrong : false ≡ true = is in cc
      go Over is None e h = let wrong : false ≡ true = is in cc

  -- and a note is of one that is ready
  noted_ready : (n : ReadyNote) → Has n (ready_kept notes) → b.phases n.join ≡ Ready n.trans n.client n.ts
  noted_ready n has =
      let r : IsReadyAt notes n = ready_stands notes n has in
      let k : IsNoteKept s.holder.lives (b.phases n.join) r.part = note_kept s.holder.lives (b.phases n.join) r.part (subst (IsReadyNote s.holder.lives (b.phases n.join)) r.at (ready_before n.join r.named)) in
      k.phase_is ∙ ap (λ (y : ReadyNote). Ready y.trans y.client y.ts) r.same

  pub found_noted : IsNoted b (joins_noted (ready_kept notes)) (stamps_noted (decisions_kept notes))
  found_noted = record {
    once = and_from (are_joins_apart (joins_noted (ready_kept notes))) (are_stamps_apart (stamps_noted (decisions_kept notes))) (joins_apart notes) (stamps_apart (decisions_kept notes) (decided_apart notes));
    ready = λ j. same_bits (has_join j (joins_of (ready_kept notes))) (is_ready (b.phases j)) (of_note j) (has_note j);
    decided = λ x. same_bits (has_stamp x (stamps_noted (decisions_kept notes))) (is_standing x (b.fates x.trans)) (of_decision x) (has_decision x);
  }
    where
      of_note : (j : JoinNo) → has_join j (joins_of (ready_kept notes)) ≡ true → is_ready (b.phases j) ≡ true
      of_note j h = (let n = joined_has j (ready_kept notes) h in ap (λ (i : JoinNo). is_ready (b.phases i)) (sym n.2) ∙ ap is_ready (noted_ready n.0 n.1))

      has_note : (j : JoinNo) → is_ready (b.phases j) ≡ true → has_join j (joins_of (ready_kept notes)) ≡ true
      has_note j h = (let p = ready_noted j h in has_joined (part_note (j, p.0)) (ready_kept notes) (ready_has notes j p.0 (fits_before j h) p.1))

      of_decision : (x : Stamp) → has_stamp x (stamps_noted (decisions_kept notes)) ≡ true → is_standing x (b.fates x.trans) ≡ true
      of_decision x h =
          let d = stamped_has x (decisions_kept notes) h in
          let both = and_parts (d.0.stamp.ts == x.ts) (same_trans d.0.stamp.trans x.trans) d.2 in
          let is : IsDecisionAt notes d.0 = decision_stands notes d.0 d.1 in
          let of : d.0.stamp.trans ≡ x.trans = same_trans-true d.0.stamp.trans x.trans both.1 in
          let kept : decision_kept (b.fates x.trans) ≡ Some is.decision = ap (λ (u : TransId). decision_kept (b.fates u)) (sym of) ∙ sym (kept_before d.0.stamp.trans is.named) ∙ is.at in
          kept_stands (b.fates x.trans) is.decision x kept (is.ts ∙ eqb-true d.0.stamp.ts x.ts both.0) (λ stamp js ds e. it.so.own x.trans stamp js ds e)

      has_decision : (x : Stamp) → is_standing x (b.fates x.trans) ≡ true → has_stamp x (stamps_noted (decisions_kept notes)) ≡ true
      has_decision x h =
          let k : IsKept (b.fates x.trans) x = stands_kept (b.fates x.trans) x h in
          let fits : decision_name.Fits x.trans = fits_kept x.trans (ap (λ (o : Option Decision). is_some o) k.kept) in
          let has = decision_has notes x.trans k.decision fits (kept_before x.trans fits ∙ k.kept) in
          has_stamped x (record { stamp = record { ts = k.decision.ts; trans = x.trans }; joins = k.decision.joins }) (decisions_kept notes) (and_from (k.decision.ts == x.ts) (same_trans x.trans x.trans) k.time (same_trans-itself x.trans)) has

  pub found_leads : Leads false a (restart_entry a it.clock (joins_noted (ready_kept notes)) (stamps_noted (decisions_kept notes))) m
  found_leads = it.so.leads (joins_noted (ready_kept notes)) (stamps_noted (decisions_kept notes)) found_noted

  abbrev quiet : IsQuiet m
  quiet = found_leads.quiet

  abbrev stands : Stands m
  stands = quiet.settled.stands

  -- ---- with what was found

  module _ (tells : Bool) (l : LiveMap) (t : Table) (k : Joins) (c : Coordinator) (f : IsFoundIn tells found.cells server epoch found.notes l t k c) (volume : IsVolumeOf sizes found.cells) (time : ℕ) (time_is : time ≡ (clock_kept notes).clock) where
    number_is : m.holder.server ≡ server
    number_is = it.so.number ∙ past.number

    epoch_is : b.ids.epoch + 1 ≡ epoch
    epoch_is = ap (λ (i : Ids). i.epoch + 1) it.so.now ∙ ap (λ (n : ℕ). n + 1) past.now ∙ sym at

    ids_is : m.ids ≡ record { epoch = epoch; transactions = 0; joins = 0; files = 0 }
    ids_is = λ i. record { epoch = epoch_is i; transactions = 0; joins = 0; files = 0 }

    cells_is : m.holder.cells ≡ found.cells
    cells_is = sym (stored.cells ∙ it.last.cells)

    ready_is : (j : JoinNo) → ready_name.Fits j → IsReadyNote m.holder.lives (m.phases j) (ready_at notes j)
    ready_is j fits = ready_again s.holder.lives b.holder.lives it.last.lives j (b.phases j) (ready_at notes j) (stands.held j) (ready_before j fits)

    -- ---- its joins

    abbrev o : Start
    o = opening server servers area sizes epoch time found.cells notes alone later

    opens : AreJoinsOf (opened o) k
    opens = f.opens o refl refl refl (joins_noted_so server servers area sizes epoch time found.cells notes alone later)

    live_is : (j : JoinNo) → live_at j (phase_noted (ready_kept notes) j) ≡ live_at j (m.phases j)
    live_is j = go (phase_or (ready_kept notes) j)
      where
        no_note : phase_noted (ready_kept notes) j ≡ Unseen → is_ready (b.phases j) ≡ true → ⊥
        no_note none is =
            let p = ready_noted j is in
            by p.0 (sym none ∙ phase_of notes (part_note (j, p.0)) (ready_has notes j p.0 (fits_before j is) p.1))
          where
            by : (p : ReadyPart) → Unseen ≡ Ready p.trans p.client p.ts → ⊥
            by p wrong = cc

        go : (phase_noted (ready_kept notes) j ≡ Unseen) ⊎ IsPhaseNoted (ready_kept notes) j (phase_noted (ready_kept notes) j) → live_at j (phase_noted (ready_kept notes) j) ≡ live_at j (m.phases j)
        go (inl none) = ap (live_at j) none ∙ sym (unready_gone j (b.phases j) (false_from_ne_true (is_ready (b.phases j)) (no_note none)))
        go (inr y) = ap (live_at j) (y.says ∙ sym (ap phase.restarted (ap b.phases (sym y.of) ∙ noted_ready y.note y.has)))

    joins_is : AreJoinsOf (state_of m) k
    joins_is = record {
      server = opens.server ∙ sym number_is;
      current = opens.current ∙ sym epoch_is;
      count = opens.count;
      raised = subst (λ (n : ℕ). 0 < n) (sym epoch_is) opens.raised;
      live = λ j. opens.live j ∙ live_is j;
      once = opens.once;
      single = opens.single;
      known = λ j live. elim (phase_drawn m.servers m.holder.server m.ids.epoch m.ids.joins m.joined j (m.phases j) (stands.phases j)) [
        | inl none ↦ absurd (live_seen (m.phases j) none live)
        | inr drawn ↦ drawn.1
      ];
      apart = stands.joined;
      numbered = all_joined (λ (j : JoinNo). is_drawn m.holder.server m.ids.epoch m.ids.joins j.server j.epoch j.counter ≡ true) m.joined (λ j has. elim (phase_drawn m.servers m.holder.server m.ids.epoch m.ids.joins m.joined j (m.phases j) (stands.phases j)) [
        | inl none ↦ absurd (clash (has_join j m.joined) has (phase_unseen m.servers m.holder.server m.ids.epoch m.ids.joins m.joined j (m.phases j) none (stands.phases j)))
        | inr drawn ↦ drawn.0
      ]);
      unseen = λ j none. elim (phase_drawn m.servers m.holder.server m.ids.epoch m.ids.joins m.joined j (m.phases j) (stands.phases j)) [
        | inl is ↦ is
        | inr drawn ↦ absurd (clash (is_drawn m.holder.server m.ids.epoch m.ids.joins j.server j.epoch j.counter) drawn.0 none)
      ];
    }

    -- ---- its parts

    life_was : (u : TransId) (x : Life) → m.holder.lives u ≡ Some x → IsVoted (b.holder.lives u) x (b.locked u)
    life_was u x is = voted_life (b.holder.lives u) x (b.locked u) is

    lives_is : (u : TransId) (x : Life) → m.holder.lives u ≡ Some x → IsLeftLife x (m.locked u)
    lives_is u x is =
        let v : IsVoted (b.holder.lives u) x (b.locked u) = life_was u x is in
        let p : IsPartPast x (b.locked u) = (it.so.parts u x v.was).0 in
        subst (IsLeftLife x) (sym v.locks) (record { vote = v.vote; voted = v.voted; within = p.within; intended = p.intended; sized = p.sized; known = p.known })

    counts_is : (u : TransId) (x : Life) (n : ReadyNote) → m.holder.lives u ≡ Some x → Has n (ready_kept notes) → n.trans ≡ u → length (with_resources n.locks []) ≡ length (m.locked u)
    counts_is u x n is has its =
        let v : IsVoted (b.holder.lives u) x (b.locked u) = life_was u x is in
        let p : IsPartPast x (b.locked u) = (it.so.parts u x v.was).0 in
        let r : IsReadyAt notes n = ready_stands notes n has in
        let nk : IsNoteKept m.holder.lives (m.phases n.join) r.part = note_kept m.holder.lives (m.phases n.join) r.part (subst (IsReadyNote m.holder.lives (m.phases n.join)) r.at (ready_is n.join r.named)) in
        let one : nk.life ≡ x = same-some nk.life x (sym nk.live ∙ ap m.holder.lives (ap (λ (y : ReadyNote). y.trans) r.same ∙ its) ∙ is) in
        let holds : (q : Resource) → x.held q ≡ held_by n.locks q = (λ q. ap (λ (y : Life). y.held q) (sym one) ∙ sym (nk.kept.held q) ∙ ap (λ (y : ReadyNote). held_by y.locks q) r.same) in
        let has_it : (q : Resource) → map.get (held_of t.held n.trans) q ≡ held_by n.locks q = (λ q. note_held tells server servers area sizes epoch time found.cells notes alone later l t k c f n has q) in
        let named = held_then no_locks n.locks [] ((λ q. refl), tt) in
        sym (as_many (with_resources n.locks []) (held_of t.held n.trans) (λ q. named.0 q ∙ ap is_some (sym (has_it q))) named.1)
        ∙ as_many (b.locked u) (held_of t.held n.trans) (λ q. p.known.0 q ∙ ap is_some (holds q ∙ sym (has_it q))) p.known.1 ∙ ap (λ (rs : List Resource). length rs) (sym v.locks)

    -- ---- its files

    comes_before : (g : FileId) → IsToCome m.holder.server m.ids.epoch 0 g → IsToCome a.holder.server a.ids.epoch a.ids.files g
    comes_before g comes = comes_after a.holder.server a.ids.epoch a.ids.files g (subst (λ (i : Ids). IsToCome a.holder.server (i.epoch + 1) 0 g) it.so.now (subst (λ (n : ℕ). IsToCome n (b.ids.epoch + 1) 0 g) it.so.number comes))

    made_is : AreMade m.holder.server m.ids.epoch 0 m.holder.made
    made_is =
        subst (λ (n : ℕ). AreMade n (b.ids.epoch + 1) 0 b.holder.made) (sym it.so.number)
        (subst (λ (i : Ids). AreMade a.holder.server (i.epoch + 1) 0 b.holder.made) (sym it.so.now)
        (subst (λ (fs : List FileId). AreMade a.holder.server (a.ids.epoch + 1) 0 fs) (sym it.so.made)
        (made_again a.holder.server a.ids.epoch a.ids.files a.holder.made (subst (λ (n : ℕ). 0 < n) (sym past.now) some) past.made)))

    -- ---- all of it

    pub found_told : IsTold tells server servers area sizes epoch time found.cells notes alone later l t k c f m
    found_told = record {
      server_is = number_is;
      servers_is = it.so.among ∙ past.among;
      sizes_is = it.so.volume ∙ past.volume;
      ids_is = ids_is;
      clock_is = clock_found ∙ sym time_is;
      kept_is = clock_found ∙ sym time_is;
      cells_is = cells_is;
      sized = subst (λ (x : Cells). AreSized (map.get x)) (sym cells_is) (volume_sized sizes found.cells volume);
      sessions = λ client. refl;
      dead = λ client u. refl;
      waits = refl;
      up = refl;
      ready = ready_is;
      decided = λ u fits. kept_before u fits ∙ sym (kept_same (b.ids.epoch + 1) (b.fates u));
      fit = λ j is. fits_before j (sym (ready_same (b.phases j)) ∙ is);
      fit_decided = λ u is. fits_kept u (ap (λ (o : Option Decision). is_some o) (sym (kept_same (b.ids.epoch + 1) (b.fates u))) ∙ is);
      lives = lives_is;
      counts = counts_is;
      fates = λ u. at_rest (b.ids.epoch + 1) (b.fates u);
      joins = joins_is;
      applied = λ u stamp js now is. absurd (differ (decision_in (m.fates u)) (stamp, js) (ap decision_in (unsaid m.servers m.holder.server m.ids.epoch m.begun u (m.fates u) now (stands.fates u))) is);
      unborn = λ u x is g comes. (it.so.parts u x (life_was u x is).was).1 g (comes_before g comes);
      made = made_is;
      born = λ g comes. it.so.born g (comes_before g comes);
      earlier = it.so.earlier;
      quiet = quiet;
    }
