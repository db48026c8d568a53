-- time runs out for a join: one that asks to be let in, and one that was let in
use Rattle.std.specs.Prelude.{cond, Bool, true, false, not, ◌&&◌, ◌==◌, flat_map, Option, None, Some, IsSome}
use Rattle.std.specs.List.Sorted.{IsPermutation}
use Rattle.std.proofs.lemmas.Bool.{and_parts, or_parts, not-true}
use Rattle.std.proofs.lemmas.List.{append-nil}
use Rattle.std.proofs.lemmas.List.Sorted.{IsPermutation-refl}
use Rattle.std.proofs.Common.{inl, inr, ◌≡◌, ℕ, List, [], ◌∷◌, ◌++◌, refl, sym, ◌∙◌, ap, subst}
use Rattle.alp_base.specs.declared.ids.JoinNo.{JoinNo}
use Rattle.alp_base.specs.declared.ids.TransId.{TransId}
use Rattle.alp_files.specs.declared.refusal.Cause.{Cause}
use Rattle.alp_files.specs.declared.refusal.Cause.TheVariants as cause
use Rattle.alp_journal.specs.declared.act.Act.{Act}
use Rattle.alp_journal.specs.declared.act.Act.TheVariants as act
use Rattle.alp_journal.specs.declared.event.Event.{Event}
use Rattle.alp_journal.specs.declared.event.Event.TheVariants as event
use Rattle.alp_journal.specs.Ids.{same_trans, same_join, has_join}
use Rattle.alp_journal.specs.Deeds.{Deed, Quits, Releases}
use Rattle.alp_journal.specs.Coordinator.{is_running}
use Rattle.alp_journal.specs.Participant.{Phase, Joining, Active, live_in, open_in}
use Rattle.alp_journal.specs.Participant as phase
use Rattle.alp_journal.specs.Holder.{Life}
use Rattle.alp_journal.specs.State.{State}
use Rattle.alp_journal.specs.Moves.{is_stop, if_its, times_out_here, times_out_join, event_deeds, act_deeds}
use Rattle.alp_journal.specs.Laws.{IsHolding, are_joins_apart, ended_join, regained_by}
use Rattle.alp_journal.specs.Messages.{Mail, on_timeout}
use Rattle.alp_journal.specs.Answered.{IsWalk, in_turn}
use Rattle.alp_journal.specs.Account.{Account, state_of, IsPhaseOf, Stands, IsQuiet, granted_calls, with_granted, grant_acts, grant_deeds, Leads}
use Rattle.alp_journal.proofs.IdLemmas.{same_trans-itself, same_join-true, or-true}
use Rattle.alp_journal.proofs.StandLemmas.{known_join}
use Rattle.alp_journal.proofs.MoveLemmas.{far_idle}
use Rattle.alp_journal.proofs.QuietLemmas.{none_tried, quiet_up}
use Rattle.alp_journal.proofs.CallLemmas.{no_mail}
use Rattle.alp_journal.proofs.LetGoLemmas.{GoesOn, let_go_quiet, let_go_reached, let_go_lawful, let_go_brought, let_go_released, let_go_granted, let_go_said, let_go_none, let_go_drawn, let_go_mail, let_go_turns}
use Rattle.alp_journal.proofs.TimeoutLemmas.{timeout_entry, timeout_so, not_running}
use Rattle.alp_journal.proofs.RegisterSteps.{quiet_beside}
use Rattle.alp_journal.proofs.JoinEnds.{join_ended, join_ended_goes}
use Rattle.alp_journal.proofs.WorkerSteps.{with_quit, quit_settled, quits_active}

-- where one of them brings something about, and is named once, just that comes of all
pub flat-once : {B : Type 0} (f : JoinNo → List B) (j : JoinNo) (js : List JoinNo) → are_joins_apart js ≡ true → has_join j js ≡ true → ((k : JoinNo) → same_join k j ≡ false → f k ≡ []) → flat_map f js ≡ f j
flat-once f j [] apart has others = let wrong : false ≡ true = has in cc
flat-once {B} f j (k ∷ js) apart has others = go (same_join k j) refl (λ more. flat-once f j js (and_parts (not (has_join k js)) (are_joins_apart js) apart).1 more others)
  where
    both : (not (has_join k js) ≡ true) × (are_joins_apart js ≡ true)
    both = and_parts (not (has_join k js)) (are_joins_apart js) apart

    none : (is : List JoinNo) → has_join j is ≡ false → flat_map f is ≡ []
    none [] e = refl
    none (i ∷ is) e =
        let away = or_parts (same_join i j) (has_join j is) e in
        ap (λ (bs : List B). bs ++ flat_map f is) (others i away.0) ∙ none is away.1

    go : (b : Bool) → same_join k j ≡ b → (has_join j js ≡ true → flat_map f js ≡ f j) → f k ++ flat_map f js ≡ f j
    go true e rest =
        let one : k ≡ j = same_join-true k j e in
        ap (λ (bs : List B). f k ++ bs) (none js (ap (λ (i : JoinNo). has_join i js) (sym one) ∙ not-true (has_join k js) both.0)) ∙ append-nil (f k) ∙ ap f one
    go false e rest = ap (λ (bs : List B). bs ++ flat_map f js) (others k e) ∙ rest (elim (or-true (same_join k j) (has_join j js) has) [
      | inl same ↦ (let wrong : true ≡ false = sym same ∙ e in cc)
      | inr more ↦ more
    ])

module _ (a : Account) (t : TransId) (j : JoinNo) (client : ℕ) (who : List ℕ) where
  -- no other join of it has not voted
  abbrev pub IsOnlyOpen : Type 0
  IsOnlyOpen = (k : JoinNo) (x : TransId × ℕ) → open_in (a.phases k) ≡ Some x → same_join k j ≡ false → same_trans x.0 t ≡ false

  abbrev late : Cause
  late = cause.TimedOut

  -- just this one quits
  its_quit : Stands a → IsOnlyOpen → open_in (a.phases j) ≡ Some (t, client) → live_in (a.phases j) ≡ Some (t, client) → flat_map (times_out_join (state_of a) t) a.joined ≡ Quits j t client (Some cause.TimedOut) ∷ []
  its_quit q only opened live =
      flat-once (times_out_join (state_of a) t) j a.joined q.joined (known_join a q j (t, client) live) (λ k away. other k away (open_in (a.phases k)) refl)
      ∙ ap (λ (x : Option (TransId × ℕ)). if_its t x (λ n. Quits j t n (Some cause.TimedOut) ∷ [])) opened ∙ ap (λ (b : Bool). cond {A = List Deed} b (Quits j t client (Some cause.TimedOut) ∷ []) []) (same_trans-itself t)
    where
      other : (k : JoinNo) → same_join k j ≡ false → (x : Option (TransId × ℕ)) → open_in (a.phases k) ≡ x → times_out_join (state_of a) t k ≡ []
      other k away None e = ap (λ (y : Option (TransId × ℕ)). if_its t y (λ n. Quits k t n (Some cause.TimedOut) ∷ [])) e
      other k away (Some x) e = ap (λ (y : Option (TransId × ℕ)). if_its t y (λ n. Quits k t n (Some cause.TimedOut) ∷ [])) e
          ∙ ap (λ (b : Bool). cond {A = List Deed} b (Quits k t x.1 (Some cause.TimedOut) ∷ []) []) (only k x e away)

  -- ---- one that asks to be let in

  abbrev pub with_late : Account
  with_late = record (with_quit a 0 t j client who cause.TimedOut) { is_down = false; pending = [] }

  over_here : Stands a → a.phases j ≡ Joining t client who → is_running (a.fates t) ≡ false
  over_here q asks = far_idle a q j t client who ((subst (IsPhaseOf a.servers a.holder.server a.ids.epoch a.ids.joins a.joined j) asks (q.phases j)).1)

  pub timeout_joining_leads : IsQuiet a → a.is_down ≡ false → a.phases j ≡ Joining t client who → IsOnlyOpen → Leads false a (timeout_entry a t []) with_late
  timeout_joining_leads q up asks only =
      let none = not_running a t (a.fates t) (over_here q.settled.stands asks) in
      timeout_so a t [] (Quits j t client (Some cause.TimedOut) ∷ []) with_late refl up refl
      ((λ i. (times_out_here t (none.0 i) ++ its_quit q.settled.stands only (ap open_in asks) (ap live_in asks) i) ++ [] ++ []))
      (λ i. state_of (record with_late { begun = append-nil a.begun i; joined = append-nil a.joined i }))
      (record { counts = tt; view = tt; locks = tt; running = tt; registration = tt; vote = tt; decision = tt; application = tt; forgetting = tt }, tt)
      (sym (ap (λ (p : Phase). ended_join t p ++ []) asks)) refl tt refl
      (quiet_up (with_quit a 0 t j client who cause.TimedOut) (quiet_beside a (with_quit a 0 t j client who cause.TimedOut) refl refl (none_tried a q up) (quit_settled a 0 t j client who cause.TimedOut q.settled asks) q))
      (no_mail [] none.1 refl) tt

  -- ---- one that was let in

  module _ (l : Life) where
    abbrev ended : Account
    ended = join_ended a j t client phase.quit cause.TimedOut l (Quits j t client (Some cause.TimedOut)) a.holder

    abbrev pub with_late_part : Account
    with_late_part = record (join_ended a j t client phase.quit cause.TimedOut l (Quits j t client (Some cause.TimedOut)) a.holder) { is_down = false; pending = [] }

    abbrev pub with_late_given : List TransId → Account
    with_late_given ts = with_granted with_late_part (granted_calls a.waits ts)

    pub timeout_active_leads : IsQuiet a → a.is_down ≡ false → a.phases j ≡ Active t client who → a.holder.lives t ≡ Some l → l.client ≡ client → IsOnlyOpen → (ts : List TransId) → IsWalk with_late_part.holder (in_turn with_late_part.holder a.waits) ts
        → Leads false a (timeout_entry a t ((act.Released t ∷ grant_acts ts) ++ [])) (with_late_given ts)
    timeout_active_leads q up active live own only ts walk =
        let ev : Event = event.Timeout t in
        let d : Deed = Quits j t client (Some cause.TimedOut) in
        let front : List Act = act.Released t ∷ [] in
        let back : List Deed = d ∷ Releases t ∷ [] in
        let acts : List Act = (front ++ grant_acts ts) ++ [] in
        let none = not_running a t (a.fates t) (far_idle a q.settled.stands j t client who ((subst (IsPhaseOf a.servers a.holder.server a.ids.epoch a.ids.joins a.joined j) active (q.settled.stands.phases j)).1)) in
        let goes : GoesOn a ended ev front back ts = join_ended_goes a j t client phase.quit cause.TimedOut l d a.holder ev (λ u n. refl) (quits_active a 0 t j client l cause.TimedOut who q.settled active) (record {
          first = refl;
          gone = refl;
          there = subst (λ (x : Option Life). IsSome x) (sym live) refl;
          lawful = record { counts = tt; view = tt; locks = tt; running = tt; registration = tt; vote = tt; decision = tt; application = tt; forgetting = tt };
          ends = refl;
          grants_none = refl;
        }) (subst (IsHolding t) (sym active) refl) live own (none_tried a q up) ts walk in
        let brings : event_deeds (state_of a) ev None acts ++ flat_map (act_deeds (state_of a) ev) front ≡ back =
        (λ i. (times_out_here t (none.0 i) ++ its_quit q.settled.stands only (ap open_in active) (ap live_in active) i) ++ Releases t ∷ []) in
        timeout_so a t acts (back ++ grant_deeds (granted_calls a.waits ts)) (with_late_given ts)
        (let_go_none a ended ev front back ts goes is_stop [] (λ u. refl) (λ x. refl) refl) up (let_go_drawn a ended ev front back ts goes [] [] refl)
        (let_go_brought a ended ev front back ts goes (event_deeds (state_of a) ev None acts) [] brings)
        (ap (λ (s : State). record s { is_down = false; pending = [] }) (let_go_reached a ended ev front back ts goes))
        (let_go_lawful a ended ev front back ts goes)
        (let_go_released a ended ev front back ts goes [])
        (let_go_granted a ended ev front back ts goes [])
        (let_go_said a ended ev front back ts goes (state_of (with_late_given ts)) [] tt)
        (let_go_none a ended ev front back ts goes regained_by [] (λ u. refl) (λ x. refl) refl)
        (quiet_up (with_granted ended (granted_calls a.waits ts)) (let_go_quiet a ended ev front back ts goes))
        (let_go_mail a ended ev front back ts goes (on_timeout t (a.fates t)) [] refl (subst (λ (ms : List Mail). IsPermutation ms []) (sym none.1) (IsPermutation-refl [])))
        (let_go_turns a ended ev front back ts goes (timeout_entry a t acts) [] refl refl brings)
