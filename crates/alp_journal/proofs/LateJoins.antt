-- time runs out for a transaction of another server of which several joins did not vote: all of them quit, and the part of the one
-- that was let in ends
use Rattle.std.specs.Prelude.{cond, Bool, true, false, not, ◌&&◌, ◌==◌, flat_map, Option, None, Some, IsSome}
use Rattle.std.specs.List.{AllByRecursion}
use Rattle.std.specs.List.Sorted.{IsPermutation}
use Rattle.std.proofs.lemmas.Bool.{and_parts, or_parts, not-true}
use Rattle.std.proofs.lemmas.List.{append-nil}
use Rattle.std.proofs.lemmas.List.Sorted.{IsPermutation-refl}
use Rattle.std.proofs.Common.{inl, inr, ◌≡◌, ℕ, List, [], ◌∷◌, ◌++◌, refl, sym, ◌∙◌, ap, subst}
use Rattle.alp_base.specs.declared.ids.JoinNo.{JoinNo}
use Rattle.alp_base.specs.declared.ids.TransId.{TransId}
use Rattle.alp_files.specs.declared.refusal.Cause.{Cause}
use Rattle.alp_files.specs.declared.refusal.Cause.TheVariants as cause
use Rattle.alp_journal.specs.declared.act.Act.{Act}
use Rattle.alp_journal.specs.declared.act.Act.TheVariants as act
use Rattle.alp_journal.specs.declared.event.Event.{Event}
use Rattle.alp_journal.specs.declared.event.Event.TheVariants as event
use Rattle.alp_journal.specs.Along.{Along, state_after}
use Rattle.alp_journal.specs.Ids.{same_trans, same_join, has_join}
use Rattle.alp_journal.specs.Deeds.{Deed, Quits, Releases}
use Rattle.alp_journal.specs.Coordinator.{is_running}
use Rattle.alp_journal.specs.Participant.{Phase, Unseen, Joining, Active, Ready, Applied, Over, live_in, open_in}
use Rattle.alp_journal.specs.Participant as phase
use Rattle.alp_journal.specs.Holder.{Life, with_life}
use Rattle.alp_journal.specs.Counts.{lock_set}
use Rattle.alp_journal.specs.State.{State, state_deed}
use Rattle.alp_journal.specs.Moves.{is_stop, if_its, times_out_here, times_out_join, event_deeds, act_deeds}
use Rattle.alp_journal.specs.Laws.{IsLawfulDeed, IsHolding, are_joins_apart, ended_by, ended_join, grants_of, regained_by}
use Rattle.alp_journal.specs.Messages.{Mail, on_timeout}
use Rattle.alp_journal.specs.Answered.{IsWalk, in_turn}
use Rattle.alp_journal.specs.Account.{Account, state_of, IsPhaseOf, IsSettled, IsQuiet, granted_calls, with_granted, grant_acts, grant_deeds, Leads}
use Rattle.alp_journal.proofs.IdLemmas.{same_trans-true, same_trans-itself, same_join-true, or-true}
use Rattle.alp_journal.proofs.WaitLemmas.{all-both}
use Rattle.alp_journal.proofs.StandLemmas.{same_join-itself, join_turned, known_join, held_once, life_of}
use Rattle.alp_journal.proofs.MoveLemmas.{far_idle}
use Rattle.alp_journal.proofs.QuietLemmas.{has_ended, none_tried, quiet_up}
use Rattle.alp_journal.proofs.CallLemmas.{flat-append, no_mail}
use Rattle.alp_journal.proofs.LetGoLemmas.{state-append, along-append, GoesOn, let_go_quiet, let_go_reached, let_go_lawful, let_go_brought, let_go_released, let_go_granted, let_go_said, let_go_none, let_go_drawn, let_go_mail, let_go_turns}
use Rattle.alp_journal.proofs.OwnEnds.{lived_on}
use Rattle.alp_journal.proofs.TimeoutLemmas.{timeout_entry, timeout_so, not_running}
use Rattle.alp_journal.proofs.TimeoutJoins.{flat-once}
use Rattle.alp_journal.proofs.RegisterSteps.{quiet_beside}
use Rattle.alp_journal.proofs.JoinEnds.{settled_join_ended}
use Rattle.alp_journal.proofs.WorkerSteps.{with_quit, quit_settled, quits_active}

flat-flat : {A B C : Type 0} (f : A → List B) (g : B → List C) (xs : List A) → flat_map g (flat_map f xs) ≡ flat_map (λ x. flat_map g (f x)) xs
flat-flat f g [] = refl
flat-flat f g (x ∷ xs) = flat-append g (f x) (flat_map f xs) ∙ ap (λ cs. flat_map g (f x) ++ cs) (flat-flat f g xs)

flat-none : {A B : Type 0} (f : A → List B) → ((x : A) → f x ≡ []) → (xs : List A) → flat_map f xs ≡ []
flat-none f none [] = refl
flat-none f none (x ∷ xs) = ap (λ bs. bs ++ flat_map f xs) (none x) ∙ flat-none f none xs

away_from : (j : JoinNo) (js : List JoinNo) → has_join j js ≡ false → AllByRecursion (λ k. same_join j k ≡ false) js
away_from j [] e = tt
away_from j (k ∷ js) e = (let both = or_parts (same_join k j) (has_join j js) e in (join_turned j k ∙ both.0, away_from j js both.1))

-- it was not let in to the transaction, or voted
abbrev pub IsNoActive : TransId → Phase → Type 0
IsNoActive t p = (client : ℕ) (who : List ℕ) → p ≡ Active t client who → ⊥

module _ (a : Account) (t : TransId) where
  -- ---- the joins that did not vote quit

  abbrev pub phase_out : JoinNo → Option (TransId × ℕ) → (JoinNo → Phase) → JoinNo → Phase
  phase_out j None p = p
  phase_out j (Some x) p = cond {A = JoinNo → Phase} (same_trans x.0 t) (λ k. cond {A = Phase} (same_join j k) (phase.quit (p k)) (p k)) p

  abbrev pub dead_out : JoinNo → Option (TransId × ℕ) → (ℕ → TransId → Option Cause) → ℕ → TransId → Option Cause
  dead_out j None d = d
  dead_out j (Some x) d = cond {A = ℕ → TransId → Option Cause} (same_trans x.0 t) (λ c u. cond {A = Option Cause} (c == x.1 && same_trans u t) (Some cause.TimedOut) (d c u)) d

  abbrev pub phases_out : List JoinNo → (JoinNo → Phase) → JoinNo → Phase
  phases_out [] p = p
  phases_out (j ∷ js) p = phases_out js (phase_out j (open_in (a.phases j)) p)

  abbrev pub deads_out : List JoinNo → (ℕ → TransId → Option Cause) → ℕ → TransId → Option Cause
  deads_out [] d = d
  deads_out (j ∷ js) d = deads_out js (dead_out j (open_in (a.phases j)) d)

  abbrev pub one_out : JoinNo → Option (TransId × ℕ) → Account → Account
  one_out j x m = record m { phases = phase_out j x m.phases; dead = dead_out j x m.dead }

  -- all of these
  abbrev pub with_out : List JoinNo → Account → Account
  with_out js m = record m { phases = phases_out js m.phases; dead = deads_out js m.dead }

  -- and the part's locks are released
  abbrev pub released_too : Account → Account
  released_too m = record m { holder = with_life m.holder t None; locked = lock_set m.locked t [] }

  abbrev pub outs : List JoinNo → List Deed
  outs js = flat_map (times_out_join (state_of a) t) js

  quit_deed : (m : Account) (j : JoinNo) (n : ℕ) → state_deed (state_of m) (Quits j t n (Some cause.TimedOut))
      ≡ state_of (record m { phases = λ k. cond {A = Phase} (same_join j k) (phase.quit (m.phases k)) (m.phases k); dead = λ c u. cond {A = Option Cause} (c == n && same_trans u t) (Some cause.TimedOut) (m.dead c u) })
  quit_deed m j n = λ i. state_of (record m {
    phases = λ k. cond {A = Phase} (same_join j k) (phase.quit (m.phases k)) (m.phases k);
    dead = λ c u. cond {A = Option Cause} (c == n && same_trans u t) (Some cause.TimedOut) (m.dead c u);
    begun = append-nil m.begun i;
    joined = append-nil m.joined i;
  })

  outs_state : (js : List JoinNo) (m : Account) → state_after state_deed (state_of m) (outs js) ≡ state_of (with_out js m)
  outs_state [] m = refl
  outs_state (j ∷ js) m =
      state-append (times_out_join (state_of a) t j) (outs js) (state_of m) ∙ ap (λ (s : State). state_after state_deed s (outs js)) (one (open_in (a.phases j))) ∙ outs_state js (one_out j (open_in (a.phases j)) m)
    where
      one : (x : Option (TransId × ℕ)) → state_after state_deed (state_of m) (if_its t x (λ n. Quits j t n (Some cause.TimedOut) ∷ [])) ≡ state_of (one_out j x m)
      one None = refl
      one (Some x) = go (same_trans x.0 t)
        where
          go : (b : Bool) → state_after state_deed (state_of m) (cond {A = List Deed} b (Quits j t x.1 (Some cause.TimedOut) ∷ []) [])
              ≡ state_of (record m {
                phases = cond {A = JoinNo → Phase} b (λ k. cond {A = Phase} (same_join j k) (phase.quit (m.phases k)) (m.phases k)) m.phases;
                dead = cond {A = ℕ → TransId → Option Cause} b (λ c u. cond {A = Option Cause} (c == x.1 && same_trans u t) (Some cause.TimedOut) (m.dead c u)) m.dead;
              })
          go true = quit_deed m j x.1
          go false = refl

  outs_lawful : (ev : Event) (js : List JoinNo) (s : State) → Along state_deed (IsLawfulDeed ev) s (outs js)
  outs_lawful ev [] s = tt
  outs_lawful ev (j ∷ js) s = along-append (IsLawfulDeed ev) (times_out_join (state_of a) t j) (outs js) s (one (open_in (a.phases j))) (outs_lawful ev js (state_after state_deed s (times_out_join (state_of a) t j)))
    where
      one : (x : Option (TransId × ℕ)) → Along state_deed (IsLawfulDeed ev) s (if_its t x (λ n. Quits j t n (Some cause.TimedOut) ∷ []))
      one None = tt
      one (Some x) = go (same_trans x.0 t)
        where
          go : (b : Bool) → Along state_deed (IsLawfulDeed ev) s (cond {A = List Deed} b (Quits j t x.1 (Some cause.TimedOut) ∷ []) [])
          go true = (record { counts = tt; view = tt; locks = tt; running = tt; registration = tt; vote = tt; decision = tt; application = tt; forgetting = tt }, tt)
          go false = tt

  outs_grant_none : (js : List JoinNo) → flat_map grants_of (outs js) ≡ []
  outs_grant_none js = flat-flat (times_out_join (state_of a) t) grants_of js ∙ flat-none (λ j. flat_map grants_of (times_out_join (state_of a) t j)) (λ j. one j (open_in (a.phases j))) js
    where
      one : (j : JoinNo) (x : Option (TransId × ℕ)) → flat_map grants_of (if_its t x (λ n. Quits j t n (Some cause.TimedOut) ∷ [])) ≡ []
      one j None = refl
      one j (Some x) = go (same_trans x.0 t)
        where
          go : (b : Bool) → flat_map grants_of (cond {A = List Deed} b (Quits j t x.1 (Some cause.TimedOut) ∷ []) []) ≡ []
          go true = refl
          go false = refl

  -- what ends of a join that was not let in
  ends_none : (j : JoinNo) → IsNoActive t (a.phases j) → flat_map (ended_by (state_of a)) (times_out_join (state_of a) t j) ≡ []
  ends_none j asks = go (a.phases j) refl asks
    where
      its : (p : Phase) → a.phases j ≡ p → (n : ℕ) → ended_join t p ≡ [] → (b : Bool) → flat_map (ended_by (state_of a)) (cond {A = List Deed} b (Quits j t n (Some cause.TimedOut) ∷ []) []) ≡ []
      its p e n none false = refl
      its p e n none true = ap (λ (x : Phase). ended_join t x ++ []) e ∙ ap (λ (us : List TransId). us ++ []) none

      active : (u : TransId) (n : ℕ) (who : List ℕ) → IsNoActive t (Active u n who) → (b : Bool) → same_trans u t ≡ b → flat_map (ended_by (state_of a)) (cond {A = List Deed} b (Quits j t n (Some cause.TimedOut) ∷ []) []) ≡ []
      active u n who none false f = refl
      active u n who none true f = absurd (none n who (ap (λ (v : TransId). Active v n who) (same_trans-true u t f)))

      go : (p : Phase) → a.phases j ≡ p → IsNoActive t p → flat_map (ended_by (state_of a)) (if_its t (open_in (a.phases j)) (λ n. Quits j t n (Some cause.TimedOut) ∷ [])) ≡ []
      go Unseen e none = ap (λ (p : Phase). flat_map (ended_by (state_of a)) (if_its t (open_in p) (λ n. Quits j t n (Some cause.TimedOut) ∷ []))) e
      go (Joining u n who) e none = ap (λ (p : Phase). flat_map (ended_by (state_of a)) (if_its t (open_in p) (λ m. Quits j t m (Some cause.TimedOut) ∷ []))) e ∙ its (Joining u n who) e n refl (same_trans u t)
      go (Active u n who) e none = ap (λ (p : Phase). flat_map (ended_by (state_of a)) (if_its t (open_in p) (λ m. Quits j t m (Some cause.TimedOut) ∷ []))) e ∙ active u n who none (same_trans u t) refl
      go (Ready u n ts) e none = ap (λ (p : Phase). flat_map (ended_by (state_of a)) (if_its t (open_in p) (λ m. Quits j t m (Some cause.TimedOut) ∷ []))) e
      go (Applied u stamp) e none = ap (λ (p : Phase). flat_map (ended_by (state_of a)) (if_its t (open_in p) (λ m. Quits j t m (Some cause.TimedOut) ∷ []))) e
      go Over e none = ap (λ (p : Phase). flat_map (ended_by (state_of a)) (if_its t (open_in p) (λ m. Quits j t m (Some cause.TimedOut) ∷ []))) e

  -- ---- what holds on as they quit, one after the other

  kept_phase : (j k : JoinNo) (x : Option (TransId × ℕ)) (p : JoinNo → Phase) → same_join j k ≡ false → phase_out j x p k ≡ p k
  kept_phase j k None p away = refl
  kept_phase j k (Some x) p away = go (same_trans x.0 t)
    where
      go : (b : Bool) → cond {A = JoinNo → Phase} b (λ i. cond {A = Phase} (same_join j i) (phase.quit (p i)) (p i)) p k ≡ p k
      go true = ap (λ (b : Bool). cond {A = Phase} b (phase.quit (p k)) (p k)) away
      go false = refl

  later_same : (j : JoinNo) (js : List JoinNo) (x : Option (TransId × ℕ)) (m : Account) → has_join j js ≡ false → AllByRecursion (λ k. m.phases k ≡ a.phases k) js → AllByRecursion (λ k. (one_out j x m).phases k ≡ a.phases k) js
  later_same j js x m none same =
      all-both (λ k. same_join j k ≡ false) (λ k. m.phases k ≡ a.phases k) (λ k. phase_out j x m.phases k ≡ a.phases k) (λ k away is. kept_phase j k x m.phases away ∙ is) js (away_from j js none) same

  module _ (P : Account → Type 0) (step : (m : Account) (j : JoinNo) (client : ℕ) (who : List ℕ) → m.phases j ≡ Joining t client who → P m → P (with_quit m 0 t j client who cause.TimedOut)) where
    asked_out : (m : Account) (j : JoinNo) → m.phases j ≡ a.phases j → IsNoActive t (a.phases j) → P m → P (one_out j (open_in (a.phases j)) m)
    asked_out m j same asks h = go (a.phases j) refl asks
      where
        asking : (u : TransId) (n : ℕ) (who : List ℕ) → a.phases j ≡ Joining u n who → (b : Bool) → same_trans u t ≡ b
            → P (record m {
              phases = cond {A = JoinNo → Phase} b (λ k. cond {A = Phase} (same_join j k) (phase.quit (m.phases k)) (m.phases k)) m.phases;
              dead = cond {A = ℕ → TransId → Option Cause} b (λ c u. cond {A = Option Cause} (c == n && same_trans u t) (Some cause.TimedOut) (m.dead c u)) m.dead;
            })
        asking u n who e true f = step m j n who (same ∙ e ∙ ap (λ (v : TransId). Joining v n who) (same_trans-true u t f)) h
        asking u n who e false f = h

        active : (u : TransId) (n : ℕ) (who : List ℕ) → IsNoActive t (Active u n who) → (b : Bool) → same_trans u t ≡ b
            → P (record m {
              phases = cond {A = JoinNo → Phase} b (λ k. cond {A = Phase} (same_join j k) (phase.quit (m.phases k)) (m.phases k)) m.phases;
              dead = cond {A = ℕ → TransId → Option Cause} b (λ c u. cond {A = Option Cause} (c == n && same_trans u t) (Some cause.TimedOut) (m.dead c u)) m.dead;
            })
        active u n who none true f = absurd (none n who (ap (λ (v : TransId). Active v n who) (same_trans-true u t f)))
        active u n who none false f = h

        go : (p : Phase) → a.phases j ≡ p → IsNoActive t p → P (one_out j (open_in p) m)
        go Unseen e none = h
        go (Joining u n who) e none = asking u n who e (same_trans u t) refl
        go (Active u n who) e none = active u n who none (same_trans u t) refl
        go (Ready u n ts) e none = h
        go (Applied u stamp) e none = h
        go Over e none = h

    all_out : (js : List JoinNo) → are_joins_apart js ≡ true → (m : Account) → AllByRecursion (λ k. m.phases k ≡ a.phases k) js → AllByRecursion (λ k. IsNoActive t (a.phases k)) js → P m → P (with_out js m)
    all_out [] apart m same asks h = h
    all_out (j ∷ js) apart m same asks h =
        let both = and_parts (not (has_join j js)) (are_joins_apart js) apart in
        all_out js both.1 (one_out j (open_in (a.phases j)) m) (later_same j js (open_in (a.phases j)) m (not-true (has_join j js) both.0) same.1) asks.1 (asked_out m j same.0 asks.0 h)

  same_now : (js : List JoinNo) → AllByRecursion (λ k. a.phases k ≡ a.phases k) js
  same_now [] = tt
  same_now (j ∷ js) = (refl, same_now js)

  each_asks : ((k : JoinNo) → IsNoActive t (a.phases k)) → (js : List JoinNo) → AllByRecursion (λ k. IsNoActive t (a.phases k)) js
  each_asks asks [] = tt
  each_asks asks (j ∷ js) = (asks j, each_asks asks js)

  -- ---- none was let in

  abbrev pub with_late_all : Account
  with_late_all = record (with_out a.joined a) { is_down = false; pending = [] }

  pub late_asking_leads : IsQuiet a → a.is_down ≡ false → is_running (a.fates t) ≡ false → ((k : JoinNo) → IsNoActive t (a.phases k)) → Leads false a (timeout_entry a t []) with_late_all
  late_asking_leads q up over asks =
      let none = not_running a t (a.fates t) over in
      let settled : IsSettled (with_out a.joined a) = all_out IsSettled (λ m j n who is h. quit_settled m 0 t j n who cause.TimedOut h is) a.joined q.settled.stands.joined a (same_now a.joined) (each_asks asks a.joined) q.settled in
      timeout_so a t [] (outs a.joined) with_late_all refl up refl
      ((λ i. (times_out_here t (none.0 i) ++ outs a.joined) ++ [] ++ []) ∙ append-nil (outs a.joined ++ []) ∙ append-nil (outs a.joined))
      (ap (λ (s : State). record s { is_down = false; pending = [] }) (outs_state a.joined a))
      (outs_lawful (event.Timeout t) a.joined (state_of a))
      (sym (flat-flat (times_out_join (state_of a) t) (ended_by (state_of a)) a.joined ∙ flat-none (λ j. flat_map (ended_by (state_of a)) (times_out_join (state_of a) t j)) (λ j. ends_none j (asks j)) a.joined))
      (sym (outs_grant_none a.joined)) tt refl (quiet_up (with_out a.joined a) (quiet_beside a (with_out a.joined a) refl refl (none_tried a q up) settled q)) (no_mail [] none.1 refl) tt

  -- ---- one was let in

  module _ (j : JoinNo) (client : ℕ) (who : List ℕ) (l : Life) (q : IsQuiet a) (active : a.phases j ≡ Active t client who) (live : a.holder.lives t ≡ Some l) (own : l.client ≡ client) where
    holds : IsHolding t (a.phases j)
    holds = subst (IsHolding t) (sym active) refl

    others_ask : (k : JoinNo) → same_join k j ≡ false → IsNoActive t (a.phases k)
    others_ask k away n w is =
        let one : k ≡ j = held_once a q.settled.stands t k j (subst (IsHolding t) (sym is) refl) holds in
        let wrong : true ≡ false = sym (same_join-itself j) ∙ ap (λ (x : JoinNo). same_join x j) (sym one) ∙ away in
        cc

    -- its part is gone then
    it_ends : (m : Account) (k : JoinNo) → k ≡ j → m.phases k ≡ a.phases k → m.holder.lives t ≡ Some l → IsSettled m → IsSettled (released_too (one_out k (open_in (a.phases k)) m))
    it_ends m k one same lives h =
        let at : a.phases k ≡ Active t client who = ap a.phases one ∙ active in
        let now : m.phases k ≡ Active t client who = same ∙ at in
        subst (λ (x : Option (TransId × ℕ)). IsSettled (released_too (one_out k x m))) (sym (ap open_in at))
        (subst (λ (b : Bool). IsSettled (released_too (record m {
          phases = cond {A = JoinNo → Phase} b (λ i. cond {A = Phase} (same_join k i) (phase.quit (m.phases i)) (m.phases i)) m.phases;
          dead = cond {A = ℕ → TransId → Option Cause} b (λ c u. cond {A = Option Cause} (c == client && same_trans u t) (Some cause.TimedOut) (m.dead c u)) m.dead;
        }))) (sym (same_trans-itself t))
        (settled_join_ended m k t client phase.quit cause.TimedOut l (Quits k t client (Some cause.TimedOut)) m.holder (quits_active m 0 t k client l cause.TimedOut who h now) (subst (IsHolding t) (sym now) refl) lives own))

    not_this : (k : JoinNo) (js : List JoinNo) → k ≡ j → has_join k js ≡ false → AllByRecursion (λ i. IsNoActive t (a.phases i)) js
    not_this k [] one e = tt
    not_this k (i ∷ js) one e = (let both = or_parts (same_join i k) (has_join k js) e in (others_ask i (ap (same_join i) (sym one) ∙ both.0), not_this k js one both.1))

    released_out : (js : List JoinNo) → are_joins_apart js ≡ true → (m : Account) → AllByRecursion (λ k. m.phases k ≡ a.phases k) js → has_join j js ≡ true → m.holder.lives t ≡ Some l → IsSettled m → IsSettled (released_too (with_out js m))
    released_out [] apart m same has lives h = let wrong : false ≡ true = has in cc
    released_out (k ∷ js) apart m same has lives h = go (same_join k j) refl (released_out js (and_parts (not (has_join k js)) (are_joins_apart js) apart).1)
      where
        none : has_join k js ≡ false
        none = not-true (has_join k js) (and_parts (not (has_join k js)) (are_joins_apart js) apart).0

        later : AllByRecursion (λ i. (one_out k (open_in (a.phases k)) m).phases i ≡ a.phases i) js
        later = later_same k js (open_in (a.phases k)) m none same.1

        go : (b : Bool) → same_join k j ≡ b → ((n : Account) → AllByRecursion (λ i. n.phases i ≡ a.phases i) js → has_join j js ≡ true → n.holder.lives t ≡ Some l → IsSettled n → IsSettled (released_too (with_out js n)))
            → IsSettled (released_too (with_out js (one_out k (open_in (a.phases k)) m)))
        go true e rest =
            all_out (λ (n : Account). IsSettled (released_too n)) (λ n i c w is s. quit_settled (released_too n) 0 t i c w cause.TimedOut s is) js (and_parts (not (has_join k js)) (are_joins_apart js) apart).1
            (one_out k (open_in (a.phases k)) m) later (not_this k js (same_join-true k j e) none) (it_ends m k (same_join-true k j e) same.0 lives h)
        go false e rest = rest (one_out k (open_in (a.phases k)) m) later
            (elim (or-true (same_join k j) (has_join j js) has) [
              | inl this ↦ (let wrong : true ≡ false = sym this ∙ e in cc)
              | inr more ↦ more
            ])
            lives (asked_out IsSettled (λ n i c w is s. quit_settled n 0 t i c w cause.TimedOut s is) m k same.0 (others_ask k e) h)

    abbrev out_then : Account
    out_then = with_out a.joined a

    abbrev ended_all : Account
    ended_all = released_too out_then

    named : has_join j a.joined ≡ true
    named = known_join a q.settled.stands j (t, client) (ap live_in active)

    settled_all : IsSettled ended_all
    settled_all = released_out a.joined q.settled.stands.joined a (same_now a.joined) named live q.settled

    unheld_all : (k : JoinNo) → IsHolding t (out_then.phases k) → ⊥
    unheld_all k h =
        let (m, there, its) = life_of ended_all settled_all.stands t k h in
        let wrong : None ≡ Some m = sym (ap (λ (b : Bool). cond {A = Option Life} b None (a.holder.lives t)) (same_trans-itself t)) ∙ there in
        cc

    over_all : is_running (a.fates t) ≡ false
    over_all = far_idle a q.settled.stands j t client who ((subst (IsPhaseOf a.servers a.holder.server a.ids.epoch a.ids.joins a.joined j) active (q.settled.stands.phases j)).1)

    ends_one : flat_map (ended_by (state_of a)) (outs a.joined) ≡ t ∷ []
    ends_one =
        flat-flat (times_out_join (state_of a) t) (ended_by (state_of a)) a.joined
        ∙ flat-once (λ k. flat_map (ended_by (state_of a)) (times_out_join (state_of a) t k)) j a.joined q.settled.stands.joined named (λ k away. ends_none k (others_ask k away))
        ∙ ap (λ (p : Phase). flat_map (ended_by (state_of a)) (if_its t (open_in p) (λ n. Quits j t n (Some cause.TimedOut) ∷ []))) active
        ∙ ap (λ (b : Bool). flat_map (ended_by (state_of a)) (cond {A = List Deed} b (Quits j t client (Some cause.TimedOut) ∷ []) [])) (same_trans-itself t)
        ∙ ap (λ (p : Phase). ended_join t p ++ []) active

    abbrev pub with_late_some : Account
    with_late_some = record (released_too (with_out a.joined a)) { is_down = false; pending = [] }

    abbrev pub with_late_some_given : List TransId → Account
    with_late_some_given ts = with_granted with_late_some (granted_calls a.waits ts)

    late_goes : a.is_down ≡ false → (ts : List TransId) → IsWalk ended_all.holder (in_turn ended_all.holder a.waits) ts → GoesOn a ended_all (event.Timeout t) (act.Released t ∷ []) (outs a.joined ++ Releases t ∷ []) ts
    late_goes up ts walk = record {
      before = q.settled;
      none_tried = none_tried a q up;
      settled = settled_all;
      was = lived_on a.holder t;
      waits = refl;
      walk = walk;
      no_call = λ u n. refl;
      reached = state-append (outs a.joined) (Releases t ∷ []) (state_of a) ∙ ap (λ (s : State). state_deed s (Releases t)) (outs_state a.joined a)
          ∙ (λ i. state_of (record ended_all { begun = append-nil a.begun i; joined = append-nil a.joined i }));
      deeds = along-append (IsLawfulDeed (event.Timeout t)) (outs a.joined) (Releases t ∷ []) (state_of a) (outs_lawful (event.Timeout t) a.joined (state_of a))
          (subst (λ (s : State). Along state_deed (IsLawfulDeed (event.Timeout t)) s (Releases t ∷ [])) (sym (outs_state a.joined a)) (
            record {
              counts = tt;
              view = tt;
              locks = (subst (λ (x : Option Life). IsSome x) (sym live) refl, has_ended t (state_of out_then) (a.fates t) refl over_all unheld_all);
              running = tt;
              registration = tt;
              vote = tt;
              decision = tt;
              application = tt;
              forgetting = tt;
            },
            tt,
          ));
      stops = refl;
      release = λ rest. refl;
      first = λ rest. refl;
      released = sym (flat-append (ended_by (state_of a)) (outs a.joined) (Releases t ∷ []) ∙ append-nil (flat_map (ended_by (state_of a)) (outs a.joined)) ∙ ends_one);
      none_granted = (refl, flat-append grants_of (outs a.joined) (Releases t ∷ []) ∙ append-nil (flat_map grants_of (outs a.joined)) ∙ outs_grant_none a.joined);
      said = λ x. (tt, tt);
      regained = refl;
      sent = refl;
    }

    pub late_active_leads : a.is_down ≡ false → (ts : List TransId) → IsWalk with_late_some.holder (in_turn with_late_some.holder a.waits) ts → Leads false a (timeout_entry a t ((act.Released t ∷ grant_acts ts) ++ [])) (with_late_some_given ts)
    late_active_leads up ts walk =
        let ev : Event = event.Timeout t in
        let front : List Act = act.Released t ∷ [] in
        let back : List Deed = outs a.joined ++ Releases t ∷ [] in
        let acts : List Act = (front ++ grant_acts ts) ++ [] in
        let none = not_running a t (a.fates t) over_all in
        let goes : GoesOn a ended_all ev front back ts = late_goes up ts walk in
        let brings : event_deeds (state_of a) ev None acts ++ flat_map (act_deeds (state_of a) ev) front ≡ back = (λ i. (times_out_here t (none.0 i) ++ outs a.joined) ++ Releases t ∷ []) in
        timeout_so a t acts (back ++ grant_deeds (granted_calls a.waits ts)) (with_late_some_given ts)
        (let_go_none a ended_all ev front back ts goes is_stop [] (λ u. refl) (λ x. refl) refl) up (let_go_drawn a ended_all ev front back ts goes [] [] refl)
        (let_go_brought a ended_all ev front back ts goes (event_deeds (state_of a) ev None acts) [] brings)
        (ap (λ (s : State). record s { is_down = false; pending = [] }) (let_go_reached a ended_all ev front back ts goes))
        (let_go_lawful a ended_all ev front back ts goes)
        (let_go_released a ended_all ev front back ts goes [])
        (let_go_granted a ended_all ev front back ts goes [])
        (let_go_said a ended_all ev front back ts goes (state_of (with_late_some_given ts)) [] tt)
        (let_go_none a ended_all ev front back ts goes regained_by [] (λ u. refl) (λ x. refl) refl)
        (quiet_up (with_granted ended_all (granted_calls a.waits ts)) (let_go_quiet a ended_all ev front back ts goes))
        (let_go_mail a ended_all ev front back ts goes (on_timeout t (a.fates t)) [] refl (subst (λ (ms : List Mail). IsPermutation ms []) (sym none.1) (IsPermutation-refl [])))
        (let_go_turns a ended_all ev front back ts goes (timeout_entry a t acts) [] refl refl brings)
