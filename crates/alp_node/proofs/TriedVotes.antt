-- a vote that a server tried as it went down was for a part that has room in the log with all that are ready
use Rattle.std.specs.Prelude.{cond, max, Bool, true, false, nat_lt, ◌==◌, flat_map, Option, None, Some, is_some}
use Rattle.std.specs.List.{list_any}
use Rattle.std.proofs.Common.{◌≡◌, inl, inr, ℕ, ◌+◌, ◌-◌, ◌≤◌, List, [], ◌∷◌, ◌++◌, refl, sym, ◌∙◌, ap, subst}
use Rattle.std.proofs.lemmas.Bool.{ltb-false}
use Rattle.alp_base.specs.declared.ids.JoinNo.{JoinNo}
use Rattle.alp_base.specs.declared.ids.TransId.{TransId}
use Rattle.alp_files.specs.declared.refusal.Why.{Why}
use Rattle.alp_files.specs.declared.refusal.Why.TheVariants as why
use Rattle.alp_journal.specs.declared.act.Act.{Act}
use Rattle.alp_journal.specs.declared.act.Act.TheVariants as act
use Rattle.alp_journal.specs.declared.entry.Entry.{Entry}
use Rattle.alp_journal.specs.declared.event.Event.{Event}
use Rattle.alp_journal.specs.declared.event.Event.TheVariants as event
use Rattle.alp_journal.specs.declared.message.Message.TheVariants as msg
use Rattle.alp_journal.specs.Along.{Along, Where, state_after}
use Rattle.alp_journal.specs.Answered.{IsAnsweredSo, IsAnswered}
use Rattle.alp_journal.specs.Counts.{ready_sum}
use Rattle.alp_journal.specs.Deeds.{Deed, Readies}
use Rattle.alp_journal.specs.Desk.{waiting_of}
use Rattle.alp_journal.specs.Halts.{HaltsRight, written, by_ask, readies}
use Rattle.alp_journal.specs.Laws.{IsLawful, IsLawfulDeed, IsLawfulEntry, DeedsAreLawful, StartsRight, Regains, MayReady}
use Rattle.alp_journal.specs.Messages.{all_ready, applying, clock_end, first_why, greatest, no_room, weight_of, weights, why_not}
use Rattle.alp_journal.specs.Moves.{act_deeds, done_deeds, event_deeds, first_sent, halted, if_its, is_stop, next, no_in, quits_for, stops, told, tried}
use Rattle.alp_journal.specs.Opening.{Start}
use Rattle.alp_journal.specs.Participant.{open_in}
use Rattle.alp_journal.specs.State.{State, state_deed, opened}
use Rattle.alp_journal.proofs.IdLemmas.{same_trans-itself}

-- there was room for the part of a vote that was tried last
abbrev pub TriesInRoom : State → Type 0
TriesInRoom s = (j : JoinNo) (t : TransId) (ts : ℕ) → s.pending ≡ Readies j t ts ∷ [] → ready_sum (weights s (t ∷ all_ready s)) (greatest s (t ∷ all_ready s)) ≤ s.sizes.area

-- ---- nothing is in the way of a vote

first_none : (waits is_end : Bool) (full : Option Why) → first_why false waits is_end full ≡ None → full ≡ None
first_none true is_end full e = let wrong : Some why.Waiting ≡ None = e in cc
first_none false true full e = let wrong : Some why.ClockEnd ≡ None = e in cc
first_none false false None e = refl
first_none false false (Some w) e = e

fits_none : (area before after : ℕ) → no_room area before after ≡ None → after ≤ area
fits_none area before after e = go (nat_lt area after) refl e
  where
    go : (b : Bool) → nat_lt area after ≡ b → cond {A = Option Why} b (Some (why.LogFull (area - before) (after - before))) None ≡ None → after ≤ area
    go false less none = ltb-false area after less
    go true less none = let wrong : Some (why.LogFull (area - before) (after - before)) ≡ None = none in cc

-- ---- sums

weights_halted : (s : State) (e : Entry) (ts : List TransId) → weights (halted s e) ts ≡ weights s ts
weights_halted s e [] = refl
weights_halted s e (t ∷ ts) = ap (λ (n : ℕ). weight_of s t + n) (weights_halted s e ts)

greatest_halted : (s : State) (e : Entry) (ts : List TransId) → greatest (halted s e) ts ≡ greatest s ts
greatest_halted s e [] = refl
greatest_halted s e (t ∷ ts) = ap (λ (n : ℕ). max (applying s t) n) (greatest_halted s e ts)

-- ---- an entry that stopped, of which a vote is to be seen at the restart

module _ (s : State) (e : Entry) (j : JoinNo) (t : TransId) (ts : ℕ) (stopped : stops e ≡ true) (law : IsLawfulEntry s e) (pending : tried s e ≡ Readies j t ts ∷ []) where
  -- a restart does not stop
  starts_on : (acts : List Act) → Regains s acts → list_any is_stop acts ≡ true → ⊥
  starts_on (act.Regained epoch clock ready stamps ∷ []) regains stop = let wrong : false ≡ true = stop in cc
  starts_on acts regains stop = absurd regains

  one : (x : Event) → Along state_deed (IsLawfulDeed x) s (tried s e) → MayReady x s j t ts
  one x deeds = (let d : IsLawfulDeed x s (Readies j t ts) = (subst (λ (ds : List Deed). Along state_deed (IsLawfulDeed x) s ds) pending deeds).0 in d.vote)

  may_at : (x : Event) → DeedsAreLawful s e x → StartsRight s e x → MayReady x s j t ts
  may_at event.Restart deeds start = absurd (starts_on e.acts start.0 stopped)
  may_at (event.Call client epoch number c) deeds start = one (event.Call client epoch number c) deeds
  may_at (event.Arrive from m) deeds start = one (event.Arrive from m) deeds
  may_at (event.Timeout u) deeds start = one (event.Timeout u) deeds
  may_at event.Tick deeds start = one event.Tick deeds
  may_at event.Force deeds start = one event.Force deeds

  may : MayReady e.event s j t ts
  may = may_at e.event law.deeds law.restart

  -- the part was asked for its vote, and what was written is that
  abbrev asked : Event
  asked = event.Arrive may.from (msg.Ask t j)

  written_is : written s e.event ≡ readies s t j (why_not false s may.client t)
  written_is =
      ap (written s) may.asked ∙ ap (by_ask s t j) may.active
      ∙ ap (λ (b : Bool). cond {A = List Act} b (readies s t j (why_not false s may.client t)) []) (same_trans-itself t)

  tried_with : (acts : List Act) → e.acts ≡ acts
      → tried s e ≡ if_its t (open_in (s.phases j)) (λ client. quits_for j t client (first_sent (no_in s.holder.server j) acts)) ++ flat_map (act_deeds s asked) acts ++ []
  tried_with acts is = λ i. event_deeds s (may.asked i) e.reply (is i) ++ flat_map (act_deeds s (may.asked i)) (is i) ++ done_deeds s (may.asked i) e.reply

  nothing : (acts : List Act) → e.acts ≡ acts → first_sent (no_in s.holder.server j) acts ≡ None → flat_map (act_deeds s asked) acts ≡ [] → tried s e ≡ []
  nothing acts is unsent idle =
      tried_with acts is
      ∙ (λ i. if_its t (open_in (may.active i)) (λ client. quits_for j t client (unsent i)) ++ idle i ++ [])
      ∙ ap (λ (b : Bool). cond {A = List Deed} b [] [] ++ [] ++ []) (same_trans-itself t)

  never : tried s e ≡ [] → ⊥
  never is = let wrong : Readies j t ts ∷ [] ≡ [] = sym pending ∙ is in cc

  both : HaltsRight s e → written s e.event ≡ [] → ⊥
  both (inl h) none = never (nothing (act.Stopped ∷ []) (h.acts ∙ ap (λ (xs : List Act). xs ++ act.Stopped ∷ []) none) refl refl)
  both (inr h) none = never (nothing (act.Failed ∷ []) (h.acts ∙ ap (λ (xs : List Act). xs ++ act.Failed ∷ []) none) refl refl)

  free : HaltsRight s e → why_not false s may.client t ≡ None
  free halts = go (why_not false s may.client t) refl
    where
      go : (w : Option Why) → why_not false s may.client t ≡ w → why_not false s may.client t ≡ None
      go None is = is
      go (Some w) is = absurd (both halts (written_is ∙ ap (readies s t j) is))

  room : HaltsRight s e → ready_sum (weights s (t ∷ all_ready s)) (greatest s (t ∷ all_ready s)) ≤ s.sizes.area
  room halts =
      let before : ℕ = ready_sum (weights s (all_ready s)) (greatest s (all_ready s)) in
      let after : ℕ = ready_sum (weights s (t ∷ all_ready s)) (greatest s (t ∷ all_ready s)) in
      fits_none s.sizes.area before after (first_none (is_some (waiting_of s.desk may.client t)) (s.holder.clock == clock_end) (no_room s.sizes.area before after) (free halts))

-- ---- a journal

entry_room : (s : State) (e : Entry) → IsLawfulEntry s e → IsAnsweredSo s e → TriesInRoom (next s e)
entry_room s e law caused = go (stops e) refl
  where
    go : (b : Bool) → stops e ≡ b → TriesInRoom (cond {A = State} b (halted s e) (told s e))
    go false is = λ j t ts pending. (let wrong : ◌≡◌ {A = List Deed} [] (Readies j t ts ∷ []) = pending in cc)
    go true is = λ j t ts pending. (
        let halts : HaltsRight s e = subst (λ (b : Bool). Where b (HaltsRight s e) (Unit {0})) is caused.1.halted in
        let fits : ready_sum (weights s (t ∷ all_ready s)) (greatest s (t ∷ all_ready s)) ≤ s.sizes.area = room s e j t ts is law pending halts in
        subst (λ (n : ℕ). ready_sum n (greatest (halted s e) (t ∷ all_ready s)) ≤ s.sizes.area) (sym (weights_halted s e (t ∷ all_ready s)))
        (subst (λ (n : ℕ). ready_sum (weights s (t ∷ all_ready s)) n ≤ s.sizes.area) (sym (greatest_halted s e (t ∷ all_ready s))) fits)
        )

journal_room : (s : State) (es : List Entry) → TriesInRoom s → Along next IsLawfulEntry s es → Along next IsAnsweredSo s es → TriesInRoom (state_after next s es)
journal_room s [] h law caused = h
journal_room s (e ∷ es) h law caused = journal_room (next s e) es (entry_room s e law.0 caused.0) law.1 caused.1

pub room_tried : (o : Start) (journal : List Entry) → IsLawful o journal → IsAnswered o journal → TriesInRoom (state_after next (opened o) journal)
room_tried o journal law caused = journal_room (opened o) journal (λ j t ts pending. (let wrong : ◌≡◌ {A = List Deed} [] (Readies j t ts ∷ []) = pending in cc)) law caused.0
