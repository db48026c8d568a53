-- greetings and begins
use Rattle.std.specs.Prelude.{cond, Bool, true, false, not, ◌&&◌, ◌||◌, ◌==◌, max, find, is_some, flat_map, Option, None, Some, IsSome, if◌then◌else◌}
use Rattle.std.specs.List.{AllByRecursion}
use Rattle.std.specs.List.Sorted.{IsPermutation}
use Rattle.std.proofs.lemmas.Bool.{eqb-true, not-true, and_parts, or_right}
use Rattle.std.proofs.lemmas.List.{append-nil}
use Rattle.std.proofs.lemmas.List.Sorted.{IsPermutation-refl}
use Rattle.std.proofs.Common.{inl, inr, ◌≡◌, ℕ, ◌+◌, ◌<◌, ◌≤◌, List, [], ◌∷◌, ◌++◌, refl, sym, ◌∙◌, ap, subst, eq-eqb, arith}
use Rattle.alp_base.specs.declared.ids.JoinNo.{JoinNo}
use Rattle.alp_base.specs.declared.ids.TransId.{TransId}
use Rattle.alp_base.specs.declared.ids.Stamp.{Stamp}
use Rattle.alp_files.specs.Holdings.{DoAgree}
use Rattle.alp_files.proofs.FilesLemmas.{same-some}
use Rattle.alp_files.specs.declared.call.Call.TheVariants as call
use Rattle.alp_files.specs.declared.reply.Reply.{Reply}
use Rattle.alp_files.specs.declared.reply.Reply.TheVariants as reply
use Rattle.alp_files.specs.declared.refusal.Refusal.{Refusal}
use Rattle.alp_files.specs.declared.refusal.Cause.{Cause}
use Rattle.alp_journal.specs.declared.act.Act.TheVariants as act
use Rattle.alp_journal.specs.declared.event.Event.{Event}
use Rattle.alp_journal.specs.declared.event.Event.TheVariants as event
use Rattle.alp_journal.specs.declared.entry.Entry.{Entry}
use Rattle.alp_journal.specs.Along.{Along, Where, state_after}
use Rattle.alp_journal.specs.Ids.{same_trans}
use Rattle.alp_journal.specs.Deeds.{Deed, Begins}
use Rattle.alp_journal.specs.Coordinator.{Fate, Undrawn, Running, Finishing, Committed, Forgotten, Ended, client_of, is_running, decision_in, has_votes}
use Rattle.alp_journal.specs.Coordinator as fate
use Rattle.alp_journal.specs.Participant.{Phase, live_in}
use Rattle.alp_journal.specs.Holder.{Life, new_life, with_life}
use Rattle.alp_journal.specs.Desk.{Session, Waiting, file_trans, part_trans, is_of, is_of_part, is_on, is_call_on, without}
use Rattle.alp_journal.specs.Counts.{lock_set}
use Rattle.alp_journal.specs.State.{State, state_deed, has_part, is_this, is_whose, join_for}
use Rattle.alp_journal.specs.Moves.{who_is, next_trans, is_new, follows, greeted, tried, next}
use Rattle.alp_journal.specs.Laws.{IsLawfulDeed, IsBlocked, DoLivesAgree, WaitsInTurn, Greets, ended_by, grants_of}
use Rattle.alp_journal.specs.Messages.{Mail}
use Rattle.alp_journal.specs.Answered.{is_all_done, CountsVotes, ForgetsDone}
use Rattle.alp_journal.specs.Answers.{too_many, First, IsAnswer}
use Rattle.alp_journal.specs.Account.{Account, state_of, IsJoined, IsPartAs, is_other, has_trans, IsKnown, IsFateOf, Stands, Tells, IsSettled, IsQuiet, HasTried, IsPartOf, IsOfPart, IsFinishOf, IsOther, HasCome, HasNoCall, is_on_trans, Leads}
use Rattle.alp_journal.proofs.IdLemmas.{same_trans-true, same_trans-itself, all-filter}
use Rattle.alp_journal.proofs.MadeIds.{all-map}
use Rattle.alp_journal.proofs.WaitLemmas.{turned, all-both, all-of, passing, filter-same, file_part}
use Rattle.alp_journal.proofs.TurnLemmas.{blocked-as, turns-set}
use Rattle.alp_journal.proofs.StandLemmas.{own_server, any-last, trans-last, known_next, drawn_next, moved_all, fate_more, undecided_far, far_of_live, live_of_open, whose_own, paired_set, held_set, no_own_join, own_unheld, pair_of, none_lives, live_undecided, join_live, join_none, next_new}
use Rattle.alp_journal.proofs.PartLemmas.{WaitsAs, each_waits, off-files, none_waits}
use Rattle.alp_journal.proofs.QuietLemmas.{agree_set, ended_moved, ended_fewer, fewer-where, parts-gone, other-on, KeepsJoins, came_on, stands_as, later-come, quiet_session, tells_without, turns-as}
use Rattle.alp_journal.proofs.CallLemmas.{no_mail, call_entry, new_call, call_leads, quiet_votes, quiet_forgets}
use Rattle.alp_journal.proofs.RefusedCalls.{counted_as}

-- ---- a client's dead parts go, and their calls, and those of what was decided

module _ (a : Account) (client : ℕ) where
  abbrev pub is_buried : Waiting → Bool
  is_buried w = is_call_on (λ t. is_some (a.dead client t)) client w

  abbrev pub unburied : List Waiting
  unburied = without is_buried a.waits

  -- the call is a Finish of a transaction that is decided
  abbrev pub is_decided : Waiting → Bool
  is_decided w = is_call_on (λ t. is_some (decision_in (a.fates t))) client w

  -- who waits on behind a Begin
  abbrev pub undecided : List Waiting
  undecided = without is_decided unburied

  -- the call is of no dead part of the client
  is_unburied : (w : Waiting) (u : TransId) → part_trans w.call ≡ Some u → is_buried w ≡ false → w.client ≡ client → is_some (a.dead client u) ≡ false
  is_unburied w u of off own =
      ap (λ (b : Bool). b && is_some (a.dead client u)) (sym (eq-eqb w.client client own))
      ∙ ap (λ (x : Option TransId). w.client == client && is_on (λ t. is_some (a.dead client t)) x) (sym of) ∙ off

  pub not_dead : (w : Waiting) (u : TransId) → part_trans w.call ≡ Some u → is_buried w ≡ false → w.client ≡ client → IsSome (a.dead w.client u) → ⊥
  not_dead w u of off own h = let wrong : false ≡ true = sym (is_unburied w u of off own) ∙ ap (λ (c : ℕ). is_some (a.dead c u)) (sym own) ∙ h in cc

  -- of a state in which no fate is another but that of a new transaction
  pub record IsAsKnown (new : TransId) (m : State) : Type 0 where
    pub fates : (u : TransId) → same_trans new u ≡ false → m.fates u ≡ a.fates u
    pub phases : m.phases ≡ a.phases
    pub joined : m.joined ≡ a.joined
    pub own : new.server ≡ a.holder.server
    pub off : AllByRecursion (λ w. is_of new (part_trans w.call) ≡ false) a.waits

  module _ (q : IsSettled a) where
    -- the client has a live part of it just where it is not decided
    has_part_as : (new : TransId) (m : State) (u : TransId) → IsAsKnown new m → same_trans new u ≡ false → has_part m client u ≡ has_part (state_of a) client u
    has_part_as new m u k away =
        (λ i. is_this client (client_of (k.fates u away i)) || is_some (find (λ j. is_whose client u (live_in (k.phases i j))) (k.joined i)))

    own_has : (u : TransId) → client_of (a.fates u) ≡ Some client → has_part (state_of a) client u ≡ true
    own_has u is = ap (λ (x : Option ℕ). is_this client x || is_some (join_for (state_of a) client u)) is ∙ ap (λ (b : Bool). b || is_some (join_for (state_of a) client u)) (eq-eqb client client refl)

    join_has : (u : TransId) (j : JoinNo) → is_whose client u (live_in (a.phases j)) ≡ true → has_part (state_of a) client u ≡ true
    join_has u j live = or_right (is_this client (client_of (a.fates u))) (is_some (join_for (state_of a) client u)) (ap (λ (x : Option JoinNo). is_some x) (join_live a q.stands client u j live))

    live_has : (u : TransId) (l : Life) → a.holder.lives u ≡ Some l → l.client ≡ client → has_part (state_of a) client u ≡ true
    live_has u l live own = go l.join refl (pair_of a q.stands u l live)
      where
        its : (j : JoinNo) (p : Phase) → IsJoined u l p → is_whose client u (live_in p) ≡ true
        its j p h = elim h [
          | inl x ↦ ap (λ (y : Phase). is_whose client u (live_in y)) x.0 ∙ ap (λ (n : ℕ). same_trans u u && n == client) own ∙ whose_own client u
          | inr x ↦ ap (λ (y : Phase). is_whose client u (live_in y)) x.1 ∙ ap (λ (n : ℕ). same_trans u u && n == client) own ∙ whose_own client u
        ]

        go : (x : Option JoinNo) → l.join ≡ x → IsPartAs u a.phases l (a.fates u) x → has_part (state_of a) client u ≡ true
        go None e h = own_has u (h.0 ∙ ap Some own)
        go (Some j) e h = join_has u j (its j (a.phases j) h.0)

    -- what is decided has no live part
    decided_none : (u : TransId) (f : Fate) → a.fates u ≡ f → is_running f ≡ false → IsKnown a.holder.server a.ids.epoch a.ids.transactions a.begun u → has_part (state_of a) client u ≡ false
    decided_none u f is over known =
        (λ i. is_this client (client_of (is i)) || is_some (join_none a q.stands client u (no_own_join a q.stands u (own_server a.holder.server a.ids.epoch a.ids.transactions u known.0) client) i)) ∙ ap (λ (b : Bool). b || false) (nobody f over)
      where
        nobody : (g : Fate) → is_running g ≡ false → is_this client (client_of g) ≡ false
        nobody Undrawn h = refl
        nobody (Running c js) h = let wrong : true ≡ false = h in cc
        nobody (Finishing c js vs) h = let wrong : true ≡ false = h in cc
        nobody (Committed stamp js ds) h = refl
        nobody (Forgotten stamp js) h = refl
        nobody (Ended c) h = refl

    as_decided : (w : Waiting) → is_buried w ≡ false → w.client ≡ client → (u : TransId) → part_trans w.call ≡ Some u → WaitsAs a w → not (has_part (state_of a) client u) ≡ is_some (decision_in (a.fates u))
    as_decided w off own u of (WaitsAs.file t on p) = by (a.holder.lives t) refl p
      where
        same : t ≡ u
        same = same-some t u (sym (file_part w.call t on) ∙ of)

        by : (x : Option Life) → a.holder.lives t ≡ x → IsPartOf w.client x (a.dead w.client t) → not (has_part (state_of a) client u) ≡ is_some (decision_in (a.fates u))
        by None e p = absurd (not_dead w t (file_part w.call t on) off own p)
        by (Some l) e p =
            let live : a.holder.lives u ≡ Some l = ap a.holder.lives (sym same) ∙ e in
            ap not (live_has u l live (sym p ∙ own)) ∙ sym (ap (λ (x : Option (Stamp × List JoinNo)). is_some x) (live_undecided a q.stands u l live))
    as_decided w off own u of (WaitsAs.join t on p) = elim p [
      | inl x ↦ (
          let same : t ≡ u = same-some t u (sym on ∙ of) in
          let live : is_whose client u (live_in (a.phases x.0)) ≡ true =
          (λ i. is_whose (sym own i) (sym same i) (live_in (a.phases x.0))) ∙ live_of_open w.client t (a.phases x.0) x.1 in
          ap not (join_has u x.0 live) ∙ sym (ap (λ (y : Option (Stamp × List JoinNo)). is_some y) (undecided_far a.servers a.holder.server a.ids.epoch a.ids.transactions a.begun u (a.fates u) (far_of_live a.servers a.holder.server a.ids.epoch a.ids.joins a.joined x.0 client u (a.phases x.0) live (q.stands.phases x.0)) (q.stands.fates u)))
          )
      | inr d ↦ absurd (not_dead w t on off own d)
    ]
    as_decided w off own u of (WaitsAs.finish t on p) = by (a.fates u) refl (q.stands.fates u) (subst (λ (v : TransId). IsFinishOf w.client (a.fates v) (a.dead w.client v)) (same-some t u (sym on ∙ of)) p)
      where
        told : IsSome (a.dead w.client u) → not (has_part (state_of a) client u) ≡ is_some (decision_in (a.fates u))
        told d = absurd (not_dead w u of off own d)

        by : (f : Fate) → a.fates u ≡ f → IsFateOf a.servers a.holder.server a.ids.epoch a.ids.transactions a.begun u f → IsFinishOf w.client f (a.dead w.client u) → not (has_part (state_of a) client u) ≡ is_some (decision_in (a.fates u))
        by Undrawn e k h = told h
        by (Running c js) e k h = told h
        by (Finishing c js vs) e k h = ap not (own_has u (ap client_of e ∙ ap Some (h ∙ own))) ∙ ap (λ (f : Fate). is_some (decision_in f)) (sym e)
        by (Committed stamp js ds) e k h = ap not (decided_none u (Committed stamp js ds) e refl k.0) ∙ ap (λ (f : Fate). is_some (decision_in f)) (sym e)
        by (Forgotten stamp js) e k h = ap not (decided_none u (Forgotten stamp js) e refl k.0) ∙ ap (λ (f : Fate). is_some (decision_in f)) (sym e)
        by (Ended c) e k h = told h

    -- each call of the client that waits is of a part
    part_named : (w : Waiting) → WaitsAs a w → (u : TransId) × (part_trans w.call ≡ Some u)
    part_named w (WaitsAs.file t on p) = (t, file_part w.call t on)
    part_named w (WaitsAs.join t on p) = (t, on)
    part_named w (WaitsAs.finish t on p) = (t, on)

    -- whoever has a part then keeps its call
    live_stay : (new : TransId) (m : State) → IsAsKnown new m → without (is_call_on (λ t. not (has_part m client t)) client) unburied ≡ undecided
    live_stay new m k = filter-same (λ w. not (is_call_on (λ t. not (has_part m client t)) client w)) (λ w. not (is_decided w)) unburied
        (all-both (λ w. not (is_buried w) ≡ true) (λ (w : Waiting). WaitsAs a w × (is_of new (part_trans w.call) ≡ false))
        (λ w. not (is_call_on (λ t. not (has_part m client t)) client w) ≡ not (is_decided w)) (λ w o p. ap not (one w (not-true (is_buried w) o) p.0 p.1 (w.client == client) refl)) unburied
        (passing (λ w. not (is_buried w)) a.waits)
        (all-filter (λ (w : Waiting). WaitsAs a w × (is_of new (part_trans w.call) ≡ false)) (λ w. not (is_buried w)) a.waits
        (all-both (WaitsAs a) (λ w. is_of new (part_trans w.call) ≡ false) (λ (w : Waiting). WaitsAs a w × (is_of new (part_trans w.call) ≡ false)) (λ w h o. (h, o)) a.waits (each_waits a q.tells) k.off)))
      where
        one : (w : Waiting) → is_buried w ≡ false → WaitsAs a w → is_of new (part_trans w.call) ≡ false → (b : Bool) → (w.client == client) ≡ b
            → (w.client == client && is_on (λ t. not (has_part m client t)) (part_trans w.call)) ≡ (w.client == client && is_on (λ t. is_some (decision_in (a.fates t))) (part_trans w.call))
        one w off h o false e =
            ap (λ (b : Bool). b && is_on (λ t. not (has_part m client t)) (part_trans w.call)) e ∙ sym (ap (λ (b : Bool). b && is_on (λ t. is_some (decision_in (a.fates t))) (part_trans w.call)) e)
        one w off h o true e =
            let (u, of) = part_named w h in
            let away : same_trans new u ≡ false = turned new u ∙ ap (is_of new) (sym of) ∙ o in
            ap (λ (b : Bool). w.client == client && b)
            (ap (is_on (λ t. not (has_part m client t))) of ∙ ap not (has_part_as new m u k away) ∙ as_decided w off (eqb-true w.client client e) u of h ∙ sym (ap (is_on (λ t. is_some (decision_in (a.fates t)))) of))

    -- ---- what the others have

    abbrev dead_then : ℕ → TransId → Option Cause
    dead_then = λ d u. cond {A = Option Cause} (d == client) None (a.dead d u)

    -- a call of no dead part is as it was
    kept_dead : (w : Waiting) (u : TransId) → part_trans w.call ≡ Some u → is_buried w ≡ false → IsSome (a.dead w.client u) → IsSome (cond {A = Option Cause} (w.client == client) None (a.dead w.client u))
    kept_dead w u of off h = go (w.client == client) refl
      where
        go : (b : Bool) → (w.client == client) ≡ b → IsSome (cond {A = Option Cause} b None (a.dead w.client u))
        go false e = h
        go true e = absurd (not_dead w u of off (eqb-true w.client client e) h)

    part_kept : (w : Waiting) → is_buried w ≡ false → (x : Option TransId) → file_trans w.call ≡ x → IsOfPart a.holder.lives a.dead w x → IsOfPart a.holder.lives dead_then w x
    part_kept w off None e h = tt
    part_kept w off (Some u) e h = by (a.holder.lives u) h
      where
        by : (x : Option Life) → IsPartOf w.client x (a.dead w.client u) → IsPartOf w.client x (cond {A = Option Cause} (w.client == client) None (a.dead w.client u))
        by (Some l) p = p
        by None p = kept_dead w u (file_part w.call u e) off p

    finish_kept : (w : Waiting) (u : TransId) → part_trans w.call ≡ Some u → is_buried w ≡ false → (f : Fate) → IsFinishOf w.client f (a.dead w.client u) → IsFinishOf w.client f (cond {A = Option Cause} (w.client == client) None (a.dead w.client u))
    finish_kept w u of off Undrawn h = kept_dead w u of off h
    finish_kept w u of off (Running c js) h = kept_dead w u of off h
    finish_kept w u of off (Finishing c js vs) h = h
    finish_kept w u of off (Committed stamp js ds) h = tt
    finish_kept w u of off (Forgotten stamp js) h = tt
    finish_kept w u of off (Ended c) h = kept_dead w u of off h

    other_kept : (w : Waiting) → is_buried w ≡ false → IsOther a.fates a.phases a.dead w.client w.call → IsOther a.fates a.phases dead_then w.client w.call
    other_kept w off h = other-on a.fates a.fates a.phases a.phases a.dead dead_then w.client w.call
        (λ u of j. elim j [ inl x ↦ inl x | inr d ↦ inr (kept_dead w u of off d) ]) (λ u of f. finish_kept w u of off (a.fates u) f) h

    -- no Join goes that is waited for
    keeps_buried : KeepsJoins a.phases is_buried a.waits
    keeps_buried j t owner who is = all-of (λ w. is_of_part owner t w ≡ true → is_buried w ≡ false) (λ w of. go w of (is_buried w) refl) a.waits
      where
        go : (w : Waiting) → is_of_part owner t w ≡ true → (b : Bool) → is_buried w ≡ b → b ≡ false
        go w of false e = refl
        go w of true e =
            let mine = and_parts (w.client == client) (is_on (λ u. is_some (a.dead client u)) (part_trans w.call)) e in
            let its = and_parts (w.client == owner) (is_of t (part_trans w.call)) of in
            absurd (over (part_trans w.call) its.1 mine.1 (sym (eqb-true w.client owner its.0) ∙ eqb-true w.client client mine.0))
          where
            told : (v : TransId) → v ≡ t → owner ≡ client → (x : Option Cause) → a.dead client v ≡ x → IsSome x → ⊥
            told v same own None e h = let wrong : false ≡ true = h in cc
            told v same own (Some c) e h =
                let none : is_whose client v (live_in (a.phases j)) ≡ false = (q.tells.ended client v c e).1 j in
                let wrong : false ≡ true = sym none ∙ ap (λ (p : Phase). is_whose client v (live_in p)) is ∙ (λ i. is_whose client (same i) (Some (t, own i))) ∙ whose_own client t in
                cc

            over : (x : Option TransId) → is_of t x ≡ true → is_on (λ u. is_some (a.dead client u)) x ≡ true → owner ≡ client → ⊥
            over None m h own = let wrong : false ≡ true = m in cc
            over (Some v) m h own = told v (same_trans-true v t m) own (a.dead client v) refl h

    keeps_decided : KeepsJoins a.phases is_decided unburied
    keeps_decided j t owner who is = all-of (λ w. is_of_part owner t w ≡ true → is_decided w ≡ false) (λ w of. go w of (is_decided w) refl) unburied
      where
        far : is_other a.servers a.holder.server t.server ≡ true
        far = far_of_live a.servers a.holder.server a.ids.epoch a.ids.joins a.joined j owner t (a.phases j) (ap (λ (p : Phase). is_whose owner t (live_in p)) is ∙ whose_own owner t) (q.stands.phases j)

        go : (w : Waiting) → is_of_part owner t w ≡ true → (b : Bool) → is_decided w ≡ b → b ≡ false
        go w of false e = refl
        go w of true e =
            let mine = and_parts (w.client == client) (is_on (λ u. is_some (decision_in (a.fates u))) (part_trans w.call)) e in
            let its = and_parts (w.client == owner) (is_of t (part_trans w.call)) of in
            absurd (over (part_trans w.call) its.1 mine.1)
          where
            over : (x : Option TransId) → is_of t x ≡ true → is_on (λ u. is_some (decision_in (a.fates u))) x ≡ true → ⊥
            over None m h = let wrong : false ≡ true = m in cc
            over (Some v) m h =
                let wrong : false ≡ true = ap (λ (x : Option (Stamp × List JoinNo)). is_some x) (sym (undecided_far a.servers a.holder.server a.ids.epoch a.ids.transactions a.begun t (a.fates t) far (q.stands.fates t))) ∙ ap (λ (u : TransId). is_some (decision_in (a.fates u))) (sym (same_trans-true v t m)) ∙ h in
                cc

    -- what the client's desk says then
    pub tells_unburied : Tells (record a { dead = dead_then; waits = unburied })
    tells_unburied =
        let fewer : Tells (record a { waits = unburied }) = tells_without is_buried a keeps_buried q.tells in
        record {
          ended = ended_fewer a.holder.server a.dead dead_then a.fates a.phases (λ d u c is. fewer-where (d == client) (a.dead d u) c is) q.tells.ended;
          parts = all-both (λ w. not (is_buried w) ≡ true) (λ (w : Waiting). IsOfPart a.holder.lives a.dead w (file_trans w.call)) (λ (w : Waiting). IsOfPart a.holder.lives dead_then w (file_trans w.call))
              (λ w o p. part_kept w (not-true (is_buried w) o) (file_trans w.call) refl p) unburied (passing (λ w. not (is_buried w)) a.waits) fewer.parts;
          others = all-both (λ w. not (is_buried w) ≡ true) (λ (w : Waiting). IsOther a.fates a.phases a.dead w.client w.call) (λ (w : Waiting). IsOther a.fates a.phases dead_then w.client w.call)
              (λ w o p. other_kept w (not-true (is_buried w) o) p) unburied (passing (λ w. not (is_buried w)) a.waits) fewer.others;
          came = fewer.came;
          apart = fewer.apart;
          joining = fewer.joining;
          finishing = fewer.finishing;
        }

    tells_undecided : Tells (record a { dead = dead_then; waits = undecided })
    tells_undecided = tells_without is_decided (record a { dead = dead_then; waits = unburied }) keeps_decided tells_unburied

-- ---- a begin

module _ (a : Account) (client number : ℕ) (w : Session) where
  abbrev pub with_begun : Stamp → Account
  with_begun seen = record (counted_as a client number w (reply.Begun (next_trans (state_of a)))) {
    ids = record a.ids { transactions = a.ids.transactions + 1 };
    holder = with_life (record a.holder { clock = max a.holder.clock seen.ts }) (next_trans (state_of a)) (Some (new_life None client w.who));
    fates = λ u. if same_trans (next_trans (state_of a)) u then fate.begun client (a.fates u) else a.fates u;
    dead = λ d u. if d == client then None else a.dead d u;
    waits = undecided a client;
    locked = lock_set a.locked (next_trans (state_of a)) [];
    begun = a.begun ++ next_trans (state_of a) ∷ [];
  }

  -- it stands as before with the new part
  begun_stands : (seen : Stamp) → 0 < a.ids.epoch → Stands a → Stands (with_begun seen)
  begun_stands seen raised q =
      let t : TransId = next_trans (state_of a) in
      let fresh : Life = new_life None client w.who in
      let new : a.fates t ≡ Undrawn = next_new a q in
      let unnamed : has_trans t a.begun ≡ false = subst (IsFateOf a.servers a.holder.server a.ids.epoch a.ids.transactions a.begun t) new (q.fates t) in
      let named : has_trans t (a.begun ++ t ∷ []) ≡ true = any-last (λ u. same_trans u t) a.begun t ∙ or_right (has_trans t a.begun) (same_trans t t) (same_trans-itself t) in
      record {
        agree = agree_set a.holder.lives t (Some fresh) q.agree (λ l born u k away is. subst (λ (x : Life). DoAgree x.held k.held) (same-some fresh l born) (λ r. refl));
        paired = paired_set a.phases a.holder.lives a.fates t (Some fresh) (fate.begun client) q.paired (ap (λ (f : Fate). client_of (fate.begun client f)) new, refl, refl);
        held = λ j. held_set a.holder.lives t (Some fresh) j (a.phases j) (own_unheld a q t refl j) (q.held j);
        votes = moved_all (λ u f. has_votes f ≡ false) a.fates t (fate.begun client) (λ u away. q.votes u) (ap (λ (f : Fate). has_votes (fate.begun client f)) new);
        forgets = moved_all (λ u f. is_all_done f ≡ false) a.fates t (fate.begun client) (λ u away. q.forgets u) (ap (λ (f : Fate). is_all_done (fate.begun client f)) new);
        fates = moved_all (IsFateOf a.servers a.holder.server a.ids.epoch (a.ids.transactions + 1) (with_begun seen).begun) a.fates t (fate.begun client)
            (λ u away. fate_more a.servers a.holder.server a.ids.epoch a.ids.transactions (a.ids.transactions + 1) a.begun (with_begun seen).begun u (a.fates u) (omega arith) (sym (any-last (λ v. same_trans v u) a.begun t ∙ (λ i. has_trans u a.begun || away i) ∙ or_none (has_trans u a.begun))) (q.fates u))
            (subst (λ (f : Fate). IsFateOf a.servers a.holder.server a.ids.epoch (a.ids.transactions + 1) (with_begun seen).begun t (fate.begun client f)) (sym new) ((drawn_next a.holder.server a.ids.epoch a.ids.transactions raised, named), refl, (refl, refl)));
        begun = trans-last a.begun t q.begun unnamed;
        known = known_next a.holder.server a.ids.epoch a.ids.transactions a.begun q.known;
        phases = q.phases;
        joined = q.joined;
        single = q.single;
        order = (let low : a.holder.kept ≤ a.holder.clock = q.order in omega (arith, low));
      }
    where
      or_none : (b : Bool) → (b || false) ≡ b
      or_none true = refl
      or_none false = refl

  -- the new transaction has no call, and nothing else is told
  begun_tells : (seen : Stamp) → IsSettled a → a.sessions client ≡ Some w → number ≡ w.last + 1 → Tells (with_begun seen)
  begun_tells seen q there turn =
      let t : TransId = next_trans (state_of a) in
      let fresh : Life = new_life None client w.who in
      let new : a.fates t ≡ Undrawn = next_new a q.stands in
      let told : Tells (record a { dead = λ d u. cond {A = Option Cause} (d == client) None (a.dead d u); waits = undecided a client }) = tells_undecided a client q in
      record {
        ended = ended_moved a.holder.server (with_begun seen).dead a.fates a.phases t (fate.begun client) told.ended (λ c. refl);
        parts = parts-gone a.holder.lives (with_begun seen).dead t (Some fresh) (undecided a client) (off_files q) told.parts;
        others = all-both (λ v. is_of t (part_trans v.call) ≡ false) (λ (v : Waiting). IsOther a.fates a.phases (with_begun seen).dead v.client v.call) (λ (v : Waiting). IsOther (with_begun seen).fates a.phases (with_begun seen).dead v.client v.call)
            (λ v o p. other-on a.fates (with_begun seen).fates a.phases a.phases (with_begun seen).dead (with_begun seen).dead v.client v.call (λ u of j. j)
            (λ u of f. subst (λ (b : Bool). IsFinishOf v.client (cond {A = Fate} b (fate.begun client (a.fates u)) (a.fates u)) ((with_begun seen).dead v.client u)) (sym (turned t u ∙ ap (is_of t) (sym of) ∙ o)) f) p)
            (undecided a client) (off_parts q) told.others;
        came = came_on a.sessions client (record w { last = number; reply = reply.Begun t }) (later-come a.sessions client w (record w { last = number; reply = reply.Begun t }) there (omega (arith, turn))) (undecided a client) told.came;
        apart = told.apart;
        joining = told.joining;
        finishing = moved_all (HasNoCall (undecided a client)) a.fates t (fate.begun client) (λ u away. told.finishing u) (subst (λ (f : Fate). HasNoCall (undecided a client) t (fate.begun client f)) (sym new) tt);
      }
    where
      off_parts : (q : IsSettled a) → AllByRecursion (λ v. is_of (next_trans (state_of a)) (part_trans v.call) ≡ false) (undecided a client)
      off_parts q = all-filter (λ v. is_of (next_trans (state_of a)) (part_trans v.call) ≡ false) (λ v. not (is_decided a client v)) (unburied a client)
          (all-filter (λ v. is_of (next_trans (state_of a)) (part_trans v.call) ≡ false) (λ v. not (is_buried a client v)) a.waits (none_waits a q (next_trans (state_of a)) refl (next_new a q.stands)))

      off_files : (q : IsSettled a) → AllByRecursion (λ v. is_on_trans (next_trans (state_of a)) v ≡ false) (undecided a client)
      off_files q = all-map (λ v. is_of (next_trans (state_of a)) (part_trans v.call) ≡ false) (λ v. is_on_trans (next_trans (state_of a)) v ≡ false) (λ v o. off-files (next_trans (state_of a)) v o) (undecided a client) (off_parts q)

  begun_quiet : (seen : Stamp) → 0 < a.ids.epoch → IsQuiet a → a.sessions client ≡ Some w → number ≡ w.last + 1 → IsQuiet (with_begun seen)
  begun_quiet seen raised q there turn =
      let t : TransId = next_trans (state_of a) in
      let fresh : Life = new_life None client w.who in
      record {
        settled = record { stands = begun_stands seen raised q.settled.stands; tells = begun_tells seen q.settled there turn };
        tried = HasTried.nothing refl;
        turns = turns-set (state_of a) (state_of (with_begun seen)) t fresh refl (λ u. refl) (λ k live. absurd (let wrong : Some k ≡ None = sym live ∙ unlived q.settled.stands in cc)) (undecided a client) (off q.settled)
            (all-filter (λ (v : Waiting). IsBlocked (state_of a) v (file_trans v.call)) (λ v. not (is_decided a client v)) (unburied a client)
            (all-filter (λ (v : Waiting). IsBlocked (state_of a) v (file_trans v.call)) (λ v. not (is_buried a client v)) a.waits q.turns));
      }
    where
      unlived : Stands a → a.holder.lives (next_trans (state_of a)) ≡ None
      unlived q = none_lives a q (next_trans (state_of a)) (ap is_running (next_new a q)) (own_unheld a q (next_trans (state_of a)) refl)

      off : IsSettled a → AllByRecursion (λ v. is_on_trans (next_trans (state_of a)) v ≡ false) (undecided a client)
      off q = all-map (λ v. is_of (next_trans (state_of a)) (part_trans v.call) ≡ false) (λ v. is_on_trans (next_trans (state_of a)) v ≡ false) (λ v o. off-files (next_trans (state_of a)) v o) (undecided a client)
          (all-filter (λ v. is_of (next_trans (state_of a)) (part_trans v.call) ≡ false) (λ v. not (is_decided a client v)) (unburied a client)
          (all-filter (λ v. is_of (next_trans (state_of a)) (part_trans v.call) ≡ false) (λ v. not (is_buried a client v)) a.waits (none_waits a q (next_trans (state_of a)) refl (next_new a q.stands))))

  -- no fate is another but that of the new transaction
  as_known : (m : State) → ((u : TransId) → same_trans (next_trans (state_of a)) u ≡ false → m.fates u ≡ a.fates u) → m.phases ≡ a.phases → m.joined ≡ a.joined → IsSettled a → IsAsKnown a client (next_trans (state_of a)) m
  as_known m fates phases joined q = record { fates = fates; phases = phases; joined = joined; own = refl; off = none_waits a q (next_trans (state_of a)) refl (next_new a q.stands) }

  pub begin_leads : (seen : Stamp) → 0 < a.ids.epoch → IsQuiet a → a.is_down ≡ false → a.sessions client ≡ Some w → number ≡ w.last + 1 → too_many (state_of a) ≡ None
      → Leads false a (call_entry a client number w (call.Begin seen) (reply.Begun (next_trans (state_of a))) (act.Drawn (next_trans (state_of a)) ∷ [])) (with_begun seen)
  begin_leads seen raised q up there turn few =
      let t : TransId = next_trans (state_of a) in
      let ev : Event = event.Call client a.ids.epoch number (call.Begin seen) in
      let did : State = state_deed (state_of a) (Begins t client w.who seen.ts) in
      call_leads a client number w false (call.Begin seen) (reply.Begun t) (act.Drawn t ∷ []) (Begins t client w.who seen.ts ∷ []) (with_begun seen) there turn (record {
        plain = λ m. refl;
        greets = λ e h. h;
        up = refl;
        running = up;
        brought = ap (λ (x : Option Session). Begins t client (who_is x) seen.ts ∷ []) there;
        new = new_call a client number w there turn;
        there = there;
        left = (λ i. state_of (record (with_begun seen) {
          waits = live_stay a client q.settled t did (as_known did (λ u away. ap (λ (b : Bool). cond {A = Fate} b (fate.begun client (a.fates u)) (a.fates u)) away) refl (append-nil a.joined) q.settled) i;
          joined = append-nil a.joined i;
        }));
        drawn = refl;
        deeds = (record { counts = refl; view = tt; locks = tt; running = tt; registration = tt; vote = tt; decision = tt; application = tt; forgetting = tt }, tt);
        released = refl;
        granted = refl;
        said = (tt, tt);
        tells = tt;
        regained = refl;
        quiet = begun_quiet seen raised q there turn;
        answer = subst (λ (x : Option Refusal). First x (reply.Begun t) (reply.Begun t ≡ reply.Begun t)) (sym few) refl;
        mail = no_mail (act.Drawn t ∷ []) refl refl;
        turns = tt;
        grants = tt;
      })

  -- ---- too many transactions are live

  -- the client's dead parts go as it is answered
  abbrev pub with_buried_as : Reply → Account
  with_buried_as r = record (counted_as a client number w r) { dead = λ d u. if d == client then None else a.dead d u; waits = unburied a client }

  -- the begin is refused, and they go, and with them the calls of what was decided
  abbrev pub with_buried : Refusal → Account
  with_buried f = record (with_buried_as (reply.Refused f)) { waits = undecided a client }

  -- with a desk that tells so it is quiet as the session goes on
  desk_quiet : (r : Reply) (ws : List Waiting) (dead : ℕ → TransId → Option Cause) → IsQuiet a → Tells (record a { dead = dead; waits = ws }) → AllByRecursion (λ (v : Waiting). IsBlocked (state_of a) v (file_trans v.call)) ws
      → a.sessions client ≡ Some w → number ≡ w.last + 1 → IsQuiet (record (counted_as a client number w r) { dead = dead; waits = ws })
  desk_quiet r ws dead q told turns there turn = record {
    settled = record {
      stands = stands_as a (counted_as a client number w r).sessions ws dead false [] q.settled.stands;
      tells = record {
        ended = told.ended;
        parts = told.parts;
        others = told.others;
        came = came_on a.sessions client (record w { last = number; reply = r }) (later-come a.sessions client w (record w { last = number; reply = r }) there (omega (arith, turn))) ws told.came;
        apart = told.apart;
        joining = told.joining;
        finishing = told.finishing;
      };
    };
    turns = turns-as (record (state_of a) { desk = record (state_of a).desk { waits = ws } }) (state_of (record (counted_as a client number w r) { dead = dead; waits = ws })) refl refl
        (all-map (λ (v : Waiting). IsBlocked (state_of a) v (file_trans v.call)) (λ (v : Waiting). IsBlocked (record (state_of a) { desk = record (state_of a).desk { waits = ws } }) v (file_trans v.call))
        (λ v b. blocked-as (state_of a) (record (state_of a) { desk = record (state_of a).desk { waits = ws } }) v (file_trans v.call) refl b) ws turns);
    tried = HasTried.nothing refl;
  }

  pub buried_quiet : (r : Reply) → IsQuiet a → a.sessions client ≡ Some w → number ≡ w.last + 1 → IsQuiet (with_buried_as r)
  buried_quiet r q there turn = desk_quiet r (unburied a client) (with_buried_as r).dead q (tells_unburied a client q.settled)
      (all-filter (λ (v : Waiting). IsBlocked (state_of a) v (file_trans v.call)) (λ v. not (is_buried a client v)) a.waits q.turns) there turn

  undecided_quiet : (f : Refusal) → IsQuiet a → a.sessions client ≡ Some w → number ≡ w.last + 1 → IsQuiet (with_buried f)
  undecided_quiet f q there turn = desk_quiet (reply.Refused f) (undecided a client) (with_buried f).dead q (tells_undecided a client q.settled)
      (all-filter (λ (v : Waiting). IsBlocked (state_of a) v (file_trans v.call)) (λ v. not (is_decided a client v)) (unburied a client)
      (all-filter (λ (v : Waiting). IsBlocked (state_of a) v (file_trans v.call)) (λ v. not (is_buried a client v)) a.waits q.turns)) there turn

  pub begin_refused_leads : (seen : Stamp) (f : Refusal) → IsQuiet a → a.is_down ≡ false → a.sessions client ≡ Some w → number ≡ w.last + 1 → too_many (state_of a) ≡ Some f
      → Leads false a (call_entry a client number w (call.Begin seen) (reply.Refused f) []) (with_buried f)
  begin_refused_leads seen f q up there turn many =
      call_leads a client number w false (call.Begin seen) (reply.Refused f) [] [] (with_buried f) there turn (record {
        plain = λ m. refl;
        greets = λ e h. h;
        up = refl;
        running = up;
        brought = refl;
        new = new_call a client number w there turn;
        there = there;
        left = λ i. state_of (record (with_buried f) { waits = live_stay a client q.settled (next_trans (state_of a)) (state_of a) (as_known (state_of a) (λ u away. refl) refl refl q.settled) i });
        drawn = refl;
        deeds = tt;
        released = refl;
        granted = refl;
        said = tt;
        tells = tt;
        regained = refl;
        quiet = undecided_quiet f q there turn;
        answer = subst (λ (x : Option Refusal). First x (reply.Refused f) (reply.Refused f ≡ reply.Begun (next_trans (state_of a)))) (sym many) refl;
        mail = no_mail [] refl refl;
        turns = tt;
        grants = tt;
      })

-- ---- a greeting

cond_same : {A : Type 0} (b : Bool) (x : A) → cond {A = A} b x x ≡ x
cond_same true x = refl
cond_same false x = refl

module _ (a : Account) (client : ℕ) (name : List ℕ) where
  abbrev pub hello_entry : Entry
  hello_entry = record { event = event.Call client 0 1 (call.Hello name); reply = Some (reply.Welcome a.ids.epoch); acts = [] }

  abbrev pub with_hello : Account
  with_hello = record a { sessions = λ c. if c == client then Some (record { who = name; last = 1; reply = reply.Welcome a.ids.epoch }) else a.sessions c; is_down = false; pending = [] }

  pub hello_leads : IsQuiet a → a.is_down ≡ false → a.sessions client ≡ None → Leads false a hello_entry with_hello
  hello_leads q up first =
      let s : State = state_of a in
      let ev : Event = event.Call client 0 1 (call.Hello name) in
      let quiet : IsQuiet with_hello = quiet_session a client (record { who = name; last = 1; reply = reply.Welcome a.ids.epoch }) (λ n h. absurd (subst (HasCome n) first h)) q in
      let new : is_new s client 0 1 ≡ false = ap (follows a.ids.epoch 0 1) first in
      let none : tried s hello_entry ≡ [] = ap (λ (b : Bool). cond {A = List Deed} b [] [] ++ [] ++ cond {A = List Deed} b [] []) new in
      let leaves : next s hello_entry ≡ state_of with_hello =
      ap (λ (ds : List Deed). record (state_after state_deed s ds) { desk = greeted (state_after state_deed s ds).desk client 0 1 name (reply.Welcome a.ids.epoch) ((state_after state_deed s ds).desk.sessions client); is_down = false; pending = [] }) none
      ∙ ap (λ (x : Option Session). record s { desk = greeted s.desk client 0 1 name (reply.Welcome a.ids.epoch) x; is_down = false; pending = [] }) first in
      record {
        leaves = leaves;
        lawful = record {
          drawn = sym (cond_same {A = List TransId} (is_new s client 0 1) []);
          sessions = subst (Greets s 0 1 hello_entry) (sym first) refl;
          deeds = subst (Along state_deed (IsLawfulDeed ev) s) (sym none) tt;
          agree = subst (λ (x : State). DoLivesAgree x.holder.lives) (sym leaves) q.settled.stands.agree;
          released = ((ap (flat_map (ended_by s)) (sym none), ap (flat_map grants_of) (sym none)), subst WaitsInTurn (sym leaves) quiet.turns);
          sent = refl;
          said = tt;
          told = either (is_new s client 0 1);
          restart = (refl, up);
          stopped = tt;
        };
        answered = record {
          answered = subst (λ (b : Bool). Where b (IsAnswer false s client (call.Hello name) (reply.Welcome a.ids.epoch)) (Unit {0})) (sym new) tt;
          sent = subst (λ (x : List Mail). IsPermutation x []) (sym (cond_same {A = List Mail} (is_new s client 0 1) [])) (IsPermutation-refl []);
          ticks = tt;
          applied = tt;
          votes = subst CountsVotes (sym leaves) (quiet_votes with_hello quiet);
          forgets = subst ForgetsDone (sym leaves) (quiet_forgets with_hello quiet);
          turns = tt;
          grants = either (is_new s client 0 1);
          halted = tt;
        };
        quiet = quiet;
      }
    where
      either : (b : Bool) → Where b (Unit {0}) (Unit {0})
      either true = tt
      either false = tt
