-- a server that keeps what it found keeps what a state says of which the notes tell
use Rattle.std.specs.Prelude.{cond, Bool, true, false, ◌==◌, IsTrue, Option, None, Some, is_some}
use Rattle.std.specs.List.{AllByRecursion}
use Rattle.std.specs.FinMap as map
use Rattle.std.proofs.Common.{◌≡◌, ◌⊎◌, inl, inr, ℕ, ◌<◌, ◌≤◌, List, [], ◌∷◌, length, refl, sym, ◌∙◌, ap, subst, arith}
use Rattle.std.proofs.lemmas.Bool.{eqb-true}
use Rattle.alp_base.specs.Notes.{Notes, noted}
use Rattle.alp_base.specs.declared.faults.Sizes.{Sizes}
use Rattle.alp_base.specs.declared.ids.JoinNo.{JoinNo}
use Rattle.alp_base.specs.declared.ids.Stamp.{Stamp}
use Rattle.alp_base.specs.declared.ids.TransId.{TransId}
use Rattle.alp_base.specs.declared.key.Resource.{Resource}
use Rattle.alp_fields.specs.ClockNote.{clock_name, clock_form, clock_kept}
use Rattle.alp_fields.specs.DecisionNote.{decision_name}
use Rattle.alp_fields.specs.ReadyNote.{ready_name}
use Rattle.alp_fields.specs.declared.clock_note.ClockNote.{ClockNote}
use Rattle.alp_fields.specs.declared.decision_note.Decision.{Decision}
use Rattle.alp_fields.specs.declared.ready_note.ReadyPart.{ReadyPart}
use Rattle.alp_files.specs.Apart.{AreSized, IsWithin as AreWithin}
use Rattle.alp_files.specs.Cells.{Cells}
use Rattle.alp_files.specs.Holdings.{held_by, IsIntended}
use Rattle.alp_files.specs.Locks.{Writes}
use Rattle.alp_files.specs.Needs.{intents_of}
use Rattle.alp_files.proofs.FilesLemmas.{same-some}
use Rattle.alp_locks.specs.Tables.{Table, holding}
use Rattle.alp_vault.specs.Contents.{Contents}
use Rattle.alp_vault.specs.Volumes.{AreServerNotes}
use Rattle.alp_trans.specs.Counting.{AreCountsOf}
use Rattle.alp_turns.specs.Queues.{queue_of}
use Rattle.alp_ready.specs.NoteLooks.{Keeps, ready_at, decision_at}
use Rattle.alp_ready.proofs.NoteViews.{put_clock}
use Rattle.alp_coord.specs.Coordinators.{IsOf, fate_in, remembered}
use Rattle.alp_coord.specs.Likeness.{IsLike, same, is_over, IsLikeOld, standing, nothing, IsFateOf}
use Rattle.alp_coord.specs.declared.coordinator.Coordinator.{Coordinator}
use Rattle.alp_worker.specs.Joins.{AreJoinsOf}
use Rattle.alp_worker.specs.declared.joins.Joins.{Joins}
use Rattle.alp_journal.specs.Along.{Where}
use Rattle.alp_journal.specs.Counts.{with_resources}
use Rattle.alp_journal.specs.Coordinator.{Fate, Undrawn, Running, Finishing, Committed, Forgotten, Ended, fate_noted}
use Rattle.alp_journal.specs.Participant.{Phase, Unseen, Joining, Active, Ready, Applied, Over, is_ready}
use Rattle.alp_journal.specs.Holder.{Life}
use Rattle.alp_journal.specs.Laws.{IsHolding}
use Rattle.alp_journal.specs.Opening.{ReadyNote, DecisionNote, ready_kept, decisions_kept}
use Rattle.alp_journal.specs.Ids.{has_join}
use Rattle.alp_journal.specs.State.{Ids}
use Rattle.alp_journal.specs.Account.{Account, state_of, IsPaired, IsPartAs, IsJoined, IsFateOf as IsToldFate, IsQuiet, AreEarlier}
use Rattle.alp_journal.proofs.StandLemmas.{life_of, pair_of, join_part_is}
use Rattle.alp_regain.specs.Notes.{part_note}
use Rattle.alp_regain.specs.Regained.{IsPartOf}
use Rattle.alp_regain.specs.Together.{clock_before, AreNotesTogether, HaveRoomTogether}
use Rattle.alp_regain.proofs.ChangeLemmas.{same_counts}
use Rattle.alp_regain.proofs.RoomLemmas.{room_meant}
use Rattle.alp_node.specs.Covers.{AreHeld, AreSizedEdits}
use Rattle.alp_node.specs.Durable.{IsKeptOf, IsKeptIf, IsReadyNote, AreNotesOf}
use Rattle.alp_node.specs.Found.{live_of, lives_of, IsFoundIn}
use Rattle.alp_node.specs.Noted.{decision_kept}
use Rattle.alp_node.specs.ServerState.{IsLife, IsAlike, IsAs, SeesNoneToCome, PutNoneBeyond, AreMade, AreApplied}
use Rattle.alp_node.specs.Totals.{LiveMap, totals_of, HaveRoom}
use Rattle.alp_node.specs.declared.lives.Live.{Live}
use Rattle.alp_node.specs.declared.server_state.ServerState.{ServerState}
use Rattle.alp_node.proofs.FoundLives.{IsFoundLive, lives_or, are_live, lives_room}
use Rattle.alp_node.proofs.FoundNotes.{Has, differ, IsReadyAt, ready_stands, ready_has, decision_has, IsFateNoted, fate_or, fate_of, IsDecisionAt, decision_stands}
use Rattle.alp_node.proofs.FoundReady.{found_kept, known_is, none_held, note_held}
use Rattle.alp_node.proofs.PastIds.{unsaid}
use Rattle.alp_node.proofs.StartLemmas.{no_session}
use Rattle.alp_node.proofs.FoundStart.{decided_time}

-- ---- what is left of a part that voted, and of a transaction

-- it may write what it changes under its locks, which are on just these resources, beside their intentions
pub record IsLeftLife (x : Life) (locked : List Resource) : Type 0 where
  pub vote : ℕ
  pub voted : x.vote ≡ Some vote
  pub within : AreWithin (Writes x.held) x.edits
  pub intended : IsIntended x.held
  pub sized : AreSizedEdits x.edits
  pub known : AreHeld x.held locked

-- nothing runs, and no part has said that it applied a decision
abbrev pub IsAtRest : Fate → Type 0
IsAtRest (Running client js) = ⊥
IsAtRest (Finishing client js vs) = ⊥
IsAtRest (Committed s js ds) = ds ≡ []
IsAtRest f = Unit {0}

-- ---- a note and what it is of

-- the phase and the part of a note
pub record IsNoteKept (lives : TransId → Option Life) (phase : Phase) (p : ReadyPart) : Type 0 where
  pub life : Life
  pub phase_is : phase ≡ Ready p.trans p.client p.ts
  pub live : lives p.trans ≡ Some life
  pub kept : IsKeptOf life p

kept_if : (lives : TransId → Option Life) (p : ReadyPart) (phase : Phase) → phase ≡ Ready p.trans p.client p.ts → (x : Option Life) → lives p.trans ≡ x → IsKeptIf x p → IsNoteKept lives phase p
kept_if lives p phase is None at h = absurd h
kept_if lives p phase is (Some life) at h = record { life = life; phase_is = is; live = at; kept = h }

pub note_kept : (lives : TransId → Option Life) (phase : Phase) (p : ReadyPart) → IsReadyNote lives phase (Some p) → IsNoteKept lives phase p
note_kept lives (Ready t client ts) p h =
    kept_if lives p (Ready t client ts) (λ i. Ready (sym h.0 i) (sym h.1 i) (sym h.2 i)) (lives p.trans) refl (subst (λ (u : TransId). IsKeptIf (lives u) p) (sym h.0) h.3)
note_kept lives Unseen p h = let wrong : Some p ≡ None = h in cc
note_kept lives (Joining t c who) p h = let wrong : Some p ≡ None = h in cc
note_kept lives (Active t c who) p h = let wrong : Some p ≡ None = h in cc
note_kept lives (Applied t stamp) p h = let wrong : Some p ≡ None = h in cc
note_kept lives Over p h = let wrong : Some p ≡ None = h in cc

none_unkept : {P : Type 0} (lives : TransId → Option Life) (t : TransId) (client ts : ℕ) → IsReadyNote lives (Ready t client ts) None → P
none_unkept lives t client ts h = absurd h

-- ---- a state of which the notes tell

module _ (tells : Bool) (server servers area : ℕ) (sizes : Sizes) (epoch clock : ℕ) (cells : Cells) (notes : Notes) (h : AreNotesTogether server servers epoch area notes) (later : (clock_before epoch notes).epoch < epoch)
    (l : LiveMap) (t : Table) (k : Joins) (c : Coordinator) (f : IsFoundIn tells cells server epoch notes l t k c) where
  -- It is in the epoch that begins, at this clock, in which nothing was drawn. Nobody has a session or a call that waits, nothing runs,
  -- and each part that is live has voted.
  pub record IsTold (m : Account) : Type 0 where
    pub server_is : m.holder.server ≡ server
    pub servers_is : m.servers ≡ servers
    pub sizes_is : m.sizes ≡ sizes
    pub ids_is : m.ids ≡ record { epoch = epoch; transactions = 0; joins = 0; files = 0 }
    pub clock_is : m.holder.clock ≡ clock
    pub kept_is : m.holder.kept ≡ clock
    pub cells_is : m.holder.cells ≡ cells
    pub sized : AreSized (map.get m.holder.cells)
    pub sessions : (client : ℕ) → m.sessions client ≡ None
    pub dead : (client : ℕ) (u : TransId) → m.dead client u ≡ None
    pub waits : m.waits ≡ []
    pub up : m.is_down ≡ false
    pub ready : (j : JoinNo) → ready_name.Fits j → IsReadyNote m.holder.lives (m.phases j) (ready_at notes j)
    pub decided : (u : TransId) → decision_name.Fits u → decision_at notes u ≡ decision_kept (m.fates u)
    pub fit : (j : JoinNo) → is_ready (m.phases j) ≡ true → ready_name.Fits j
    pub fit_decided : (u : TransId) → is_some (decision_kept (m.fates u)) ≡ true → decision_name.Fits u
    pub lives : (u : TransId) (x : Life) → m.holder.lives u ≡ Some x → IsLeftLife x (m.locked u)
    pub counts : (u : TransId) (x : Life) (n : ReadyNote) → m.holder.lives u ≡ Some x → Has n (ready_kept notes) → n.trans ≡ u → length (with_resources n.locks []) ≡ length (m.locked u)
    pub fates : (u : TransId) → IsAtRest (m.fates u)
    pub joins : AreJoinsOf (state_of m) k
    pub applied : AreApplied m
    pub unborn : (u : TransId) (x : Life) → m.holder.lives u ≡ Some x → PutNoneBeyond m.holder.server m.ids.epoch 0 x.edits
    pub made : AreMade m.holder.server m.ids.epoch 0 m.holder.made
    pub born : SeesNoneToCome m.holder.server m.ids.epoch 0 (map.get m.holder.cells)
    pub earlier : AreEarlier m.holder.kept m.holder.applied
    pub quiet : IsQuiet m

  module _ (m : Account) (q : IsTold m) where
    -- ---- parts

    -- whose vote and client are those of its phase
    voted_life : (j : JoinNo) (u : TransId) (client ts : ℕ) (x : Life) → m.phases j ≡ Ready u client ts → m.holder.lives u ≡ Some x → (x.client ≡ client) × (x.join ≡ Some j) × (x.vote ≡ Some ts)
    voted_life j u client ts x ready live =
        let (y, there, of) = life_of m q.quiet.settled.stands u j (subst (IsHolding u) (sym ready) refl) in
        let mine : y ≡ x = same-some y x (sym there ∙ live) in
        go x (ap (λ (z : Life). z.join) (sym mine) ∙ of) (subst (λ (z : Life). IsJoined u z (m.phases j)) mine (join_part_is u m.phases y (m.fates u) j of (pair_of m q.quiet.settled.stands u y there)).0)
      where
        by : (a b : ℕ) (v w : ℕ) → Ready u a v ≡ Ready u b w → (a ≡ b) × (v ≡ w)
        by a b v w e = (ap client_in e, ap time_in e)
          where
            client_in : Phase → ℕ
            client_in (Ready s n z) = n
            client_in p = 0

            time_in : Phase → ℕ
            time_in (Ready s n z) = z
            time_in p = 0

        go : (z : Life) → z.join ≡ Some j → IsJoined u z (m.phases j) → (z.client ≡ client) × (z.join ≡ Some j) × (z.vote ≡ Some ts)
        go z of (inl y) = let wrong : Active u z.client z.who ≡ Ready u client ts = sym y.0 ∙ ready in cc
        go z of (inr y) = (let both = by z.client client y.0 ts (sym y.1 ∙ ready) in (both.0, of, y.2 ∙ ap (λ (n : ℕ). Some n) both.1))

    -- a life of a note's part
    note_life : (told : IsTrue tells) (u : TransId) (x : Live) → IsFoundLive tells cells server (clock_before epoch notes).epoch (ready_kept notes) u x → (life : Life) × (m.holder.lives u ≡ Some life) × IsLife m.holder.cells t.held (m.locked u) u x life
    note_life tell u x found =
        let n : ReadyNote = found.note in
        let s : IsReadyAt notes n = ready_stands notes n found.has in
        let nk : IsNoteKept m.holder.lives (m.phases n.join) s.part = note_kept m.holder.lives (m.phases n.join) s.part (subst (IsReadyNote m.holder.lives (m.phases n.join)) s.at (q.ready n.join s.named)) in
        let trans : s.part.trans ≡ u = ap (λ (z : ReadyNote). z.trans) s.same ∙ found.trans in
        let live : m.holder.lives u ≡ Some nk.life = ap m.holder.lives (sym trans) ∙ nk.live in
        let v = voted_life n.join s.part.trans s.part.client s.part.ts nk.life nk.phase_is nk.live in
        let left : IsLeftLife nk.life (m.locked u) = q.lives u nk.life live in
        let intents : intents_of n.edits ≡ intents_of nk.life.edits = ap (λ (z : ReadyNote). intents_of z.edits) (sym s.same) ∙ nk.kept.intents in (
          nk.life,
          live,
          subst (λ (z : Live). IsLife m.holder.cells t.held (m.locked u) u z nk.life) (sym found.is) (record {
            client = v.0 ∙ ap (λ (z : ReadyNote). z.client) s.same ∙ sym found.of.client;
            join = v.1 ∙ ap (λ (j : JoinNo). Some j) (sym found.of.join);
            intents = found.of.intents ∙ intents;
            held = λ r. sym (nk.kept.held r) ∙ ap (λ (z : ReadyNote). held_by z.locks r) s.same
                ∙ sym (note_held tells server servers area sizes epoch clock cells notes h later l t k c f n found.has r) ∙ ap (λ (w : TransId). holding t.held w r) found.trans;
            calls = λ none. absurd (differ nk.life.vote s.part.ts none v.2);
            counts = subst (λ (z : Cells). AreCountsOf z nk.life.edits found.part.part.counts) (sym q.cells_is) (same_counts cells n.edits nk.life.edits found.part.part.counts intents (found.of.counts tell));
            within = left.within;
            intended = left.intended;
            sized = left.sized;
            count = found.of.locks ∙ q.counts u nk.life n live found.has found.trans;
            known = left.known;
          }),
        )

    -- what is not found is not live
    none_there : (u : TransId) → ((n : ReadyNote) → Has n (ready_kept notes) → n.trans ≡ u → ⊥) → (x : Option Life) → m.holder.lives u ≡ x → x ≡ None
    none_there u none None is = refl
    none_there u none (Some x) is = absurd (by x.join refl (pair_of m q.quiet.settled.stands u x is))
      where
        left : IsLeftLife x (m.locked u)
        left = q.lives u x is

        noted_not : (j : JoinNo) (ts : ℕ) → m.phases j ≡ Ready u x.client ts → (o : Option ReadyPart) → ready_at notes j ≡ o → ⊥
        noted_not j ts ready None at = none_unkept m.holder.lives u x.client ts (subst (λ (p : Phase). IsReadyNote m.holder.lives p None) ready (subst (IsReadyNote m.holder.lives (m.phases j)) at (q.ready j (q.fit j (ap is_ready ready)))))
        noted_not j ts ready (Some p) at =
            let nk : IsNoteKept m.holder.lives (m.phases j) p = note_kept m.holder.lives (m.phases j) p (subst (IsReadyNote m.holder.lives (m.phases j)) at (q.ready j (q.fit j (ap is_ready ready)))) in
            none (part_note (j, p)) (ready_has notes j p (q.fit j (ap is_ready ready)) at) (same_trans_in p.trans u p.client x.client p.ts ts (sym nk.phase_is ∙ ready))
          where
            same_trans_in : (v w : TransId) (a b d e : ℕ) → Ready v a d ≡ Ready w b e → v ≡ w
            same_trans_in v w a b d e is = ap (of v) is
              where
                of : TransId → Phase → TransId
                of z (Ready s n y) = s
                of z p = z

        by : (o : Option JoinNo) → x.join ≡ o → IsPartAs u m.phases x (m.fates u) x.join → ⊥
        by None e pair = differ x.vote left.vote (subst (IsPartAs u m.phases x (m.fates u)) e pair).1 left.voted
        by (Some j) e pair = elim (subst (IsPartAs u m.phases x (m.fates u)) e pair).0 [
          | inl y ↦ differ x.vote left.vote y.1 left.voted
          | inr y ↦ noted_not j y.0 y.1 (ready_at notes j) refl
        ]

    -- just the live parts are kept
    lives_alike : IsTrue tells → (u : TransId) → IsAlike m.holder.cells t.held (m.locked u) u (map.get l u) (m.holder.lives u)
    lives_alike tell u = go (lives_or tells cells server (clock_before epoch notes).epoch f.parts (ready_kept notes) f.of u)
      where
        go : ((map.get (lives_of f.parts) u ≡ None) × ((n : ReadyNote) → Has n (ready_kept notes) → n.trans ≡ u → ⊥)) ⊎ ((x : Live) × (map.get (lives_of f.parts) u ≡ Some x) × IsFoundLive tells cells server (clock_before epoch notes).epoch (ready_kept notes) u x)
            → IsAlike m.holder.cells t.held (m.locked u) u (map.get l u) (m.holder.lives u)
        go (inl none) =
            let gone : map.get l u ≡ None = ap (λ (x : LiveMap). map.get x u) f.lives ∙ none.0 in
            subst (λ (x : Option Live). IsAlike m.holder.cells t.held (m.locked u) u x (m.holder.lives u)) (sym gone)
            (subst (λ (x : Option Life). IsAlike m.holder.cells t.held (m.locked u) u None x) (sym (none_there u none.1 (m.holder.lives u) refl))
            (none_held tells server servers area sizes epoch clock cells notes h later l t k c f u gone))
        go (inr live) =
            let there : map.get l u ≡ Some live.0 = ap (λ (x : LiveMap). map.get x u) f.lives ∙ live.1 in
            let y = note_life tell u live.0 live.2 in
            subst (λ (x : Option Live). IsAlike m.holder.cells t.held (m.locked u) u x (m.holder.lives u)) (sym there)
            (subst (λ (x : Option Life). IsAlike m.holder.cells t.held (m.locked u) u (Some live.0) x) (sym y.1) y.2)

    -- ---- transactions

    -- what is of this epoch was not drawn yet
    told_now : (u : TransId) → (u.epoch == epoch) ≡ true → m.fates u ≡ Undrawn
    told_now u now =
        unsaid m.servers m.holder.server epoch m.begun u (m.fates u) (eqb-true u.epoch epoch now)
        (subst (λ (i : Ids). IsToldFate m.servers m.holder.server i.epoch i.transactions m.begun u (m.fates u)) q.ids_is (q.quiet.settled.stands.fates u))

    -- where nothing is kept, nothing is noted
    unnoted : (u : TransId) (x : Fate) → m.fates u ≡ x → decision_kept x ≡ None → remembered (fate_noted (decisions_kept notes) u) ≡ Undrawn
    unnoted u x is none = by (fate_or (decisions_kept notes) u)
      where
        by : (fate_noted (decisions_kept notes) u ≡ Undrawn) ⊎ IsFateNoted (decisions_kept notes) u (fate_noted (decisions_kept notes) u) → remembered (fate_noted (decisions_kept notes) u) ≡ Undrawn
        by (inl undrawn) = ap remembered undrawn
        by (inr y) =
            let s : IsDecisionAt notes y.note = decision_stands notes y.note y.has in
            absurd (differ (decision_kept x) s.decision none (sym (ap decision_kept is) ∙ ap (λ (w : TransId). decision_kept (m.fates w)) (sym y.of) ∙ sym (q.decided y.note.stamp.trans s.named) ∙ s.at))

    -- a decision that stands is noted
    noted_then : (u : TransId) (s : Stamp) (j : JoinNo) (js ds : List JoinNo) → m.fates u ≡ Committed s (j ∷ js) ds → s.trans ≡ u → remembered (fate_noted (decisions_kept notes) u) ≡ Committed s (j ∷ js) []
    noted_then u s j js ds is own =
        let d : Decision = record { ts = s.ts; joins = j ∷ js } in
        let fits : decision_name.Fits u = q.fit_decided u (ap (λ (x : Fate). is_some (decision_kept x)) is) in
        let n : DecisionNote = record { stamp = record { ts = s.ts; trans = u }; joins = j ∷ js } in
        let has : Has n (decisions_kept notes) = decision_has notes u d fits (q.decided u fits ∙ ap decision_kept is) in
        ap remembered (fate_of notes n has) ∙ (λ i. Committed (record { ts = s.ts; trans = sym own i }) (j ∷ js) [])

    old_like : (u : TransId) (x : Fate) → m.fates u ≡ x → IsAtRest x → IsToldFate m.servers m.holder.server m.ids.epoch m.ids.transactions m.begun u x → IsLikeOld (remembered (fate_noted (decisions_kept notes) u)) x
    old_like u Undrawn is rest told = subst (λ (y : Fate). IsLikeOld y Undrawn) (sym (unnoted u Undrawn is refl)) (nothing Undrawn refl)
    old_like u (Running client js) is rest told = absurd rest
    old_like u (Finishing client js vs) is rest told = absurd rest
    old_like u (Committed s [] ds) is rest told = subst (λ (y : Fate). IsLikeOld y (Committed s [] ds)) (sym (unnoted u (Committed s [] ds) is refl)) (nothing (Committed s [] ds) refl)
    old_like u (Committed s (j ∷ js) ds) is rest told = subst (λ (y : Fate). IsLikeOld y (Committed s (j ∷ js) ds)) (sym (noted_then u s j js ds is told.1)) (standing s j js [] ds (record { who = λ i. ap (has_join i) (sym rest) }))
    old_like u (Forgotten s js) is rest told = subst (λ (y : Fate). IsLikeOld y (Forgotten s js)) (sym (unnoted u (Forgotten s js) is refl)) (nothing (Forgotten s js) refl)
    old_like u (Ended why) is rest told = subst (λ (y : Fate). IsLikeOld y (Ended why)) (sym (unnoted u (Ended why) is refl)) (nothing (Ended why) refl)

    fates_told : (u : TransId) → IsFateOf epoch u (fate_in c u) (m.fates u)
    fates_told u = subst (λ (y : Fate). IsFateOf epoch u y (m.fates u)) (sym (known_is tells server servers area sizes epoch clock cells notes h later l t k c f u)) (go (u.epoch == epoch) refl)
      where
        go : (b : Bool) → (u.epoch == epoch) ≡ b → Where b (IsLike (cond {A = Fate} b Undrawn (remembered (fate_noted (decisions_kept notes) u))) (m.fates u)) (IsLikeOld (cond {A = Fate} b Undrawn (remembered (fate_noted (decisions_kept notes) u))) (m.fates u))
        go true now = subst (IsLike Undrawn) (sym (told_now u now)) (same Undrawn)
        go false old = old_like u (m.fates u) refl (q.fates u) (q.quiet.settled.stands.fates u)

    -- ---- all of it

    epoch_is : m.ids.epoch ≡ epoch
    epoch_is = ap (λ (i : Ids). i.epoch) q.ids_is

    -- a decision that stands was found, and is no later than the clock
    decided_early : (clock_kept notes).clock ≤ clock → (u : TransId) (d : Decision) → decision_kept (m.fates u) ≡ Some d → d.ts ≤ m.holder.kept
    decided_early low u d is =
        let fits : decision_name.Fits u = q.fit_decided u (ap is_some is) in
        let has : Has (record { stamp = record { ts = d.ts; trans = u }; joins = d.joins }) (decisions_kept notes) = decision_has notes u d fits (q.decided u fits ∙ is) in
        let early : d.ts ≤ (clock_kept notes).clock = decided_time server servers area sizes epoch clock cells notes h later (record { stamp = record { ts = d.ts; trans = u }; joins = d.joins }) has in
        omega (arith, early, low, q.kept_is)

    -- the notes with the clock raised
    raised_told : clock_form.Fits (record { epoch = epoch; clock = clock }) → (clock_kept notes).clock ≤ clock → AreNotesOf (state_of m) m.ids.epoch (noted clock_name (Some (clock_form.spell (record { epoch = epoch; clock = clock }))) notes)
    raised_told fits low =
        let now : ClockNote = record { epoch = epoch; clock = clock } in
        let s : Keeps server servers now (λ j. IsReadyNote m.holder.lives (m.phases j)) (λ u. decision_kept (m.fates u)) (noted clock_name (Some (clock_form.spell now)) notes) =
        put_clock server servers (clock_kept notes) (λ j. IsReadyNote m.holder.lives (m.phases j)) (λ u. decision_kept (m.fates u)) notes (record { clock = refl; ready = q.ready; decided = q.decided; format = h.format }) now fits in
        record {
          clock = s.clock ∙ (λ i. record { epoch = sym epoch_is i; clock = sym q.kept_is i });
          ready = s.ready;
          decided = s.decided;
          fit = q.fit;
          fit_decided = q.fit_decided;
          timely = λ u d is. decided_early low u d is;
          format = subst (λ (n : ℕ). AreServerNotes n m.servers (noted clock_name (Some (clock_form.spell now)) notes)) (sym q.server_is)
              (subst (λ (n : ℕ). AreServerNotes server n (noted clock_name (Some (clock_form.spell now)) notes)) (sym q.servers_is) s.format);
        }

    pub found_as : {V : Type 0} (old : ServerState V) (held : Contents) → IsTrue tells → clock_form.Fits (record { epoch = epoch; clock = clock }) → (clock_kept notes).clock ≤ clock → held.cells ≡ cells
        → held.notes ≡ noted clock_name (Some (clock_form.spell (record { epoch = epoch; clock = clock }))) notes → HaveRoomTogether sizes cells (ready_kept notes)
        → IsAs m held (found_kept tells server servers area sizes epoch clock cells notes h later l t k c f old)
    found_as old held tell fits low cells_are notes_are room = record {
      server = q.server_is;
      servers = q.servers_is;
      sizes = q.sizes_is;
      epoch = epoch_is;
      clock = q.clock_is;
      cells = λ _. cells_are ∙ sym q.cells_is;
      sized = q.sized;
      notes = λ _. subst (AreNotesOf (state_of m) m.ids.epoch) (sym notes_are) (raised_told fits low);
      places = refl;
      sessions = λ client. q.sessions client ∙ sym (no_session client);
      dead = q.dead;
      waits = q.waits;
      queue = f.locks.waiting ∙ sym (ap (queue_of m.holder t.held) q.waits);
      asked = tt;
      lives = lives_alike tell;
      room = subst (λ (x : LiveMap). HaveRoom sizes m.holder.cells (totals_of x)) (sym f.lives)
          (subst (λ (x : Cells). HaveRoom sizes x (totals_of (lives_of f.parts))) (sym q.cells_is)
          (lives_room sizes cells f.parts (are_live tells cells server (clock_before epoch notes).epoch f.parts (ready_kept notes) f.of h.apart) (room_meant tells cells server (clock_before epoch notes).epoch tell sizes f.parts (ready_kept notes) f.of room)));
      unborn = q.unborn;
      coordinator = record {
        run = subst (λ (i : Ids). IsOf m.holder.server i.epoch i.transactions c) (sym q.ids_is) (subst (λ (n : ℕ). IsOf n epoch 0 c) (sym q.server_is) f.run);
        fates = λ u. subst (λ (n : ℕ). IsFateOf n u (fate_in c u) (m.fates u)) (sym epoch_is) (fates_told u);
      };
      decided = q.applied;
      joins = q.joins;
      files = ap (λ (i : Ids). i.files) q.ids_is;
      made = q.made;
      born = q.born;
      earlier = q.earlier;
      quiet = q.quiet;
      down = q.up;
    }
