-- the refusal of a call that is no Finish leaves what a server holds, but for what is granted
use Rattle.std.specs.Prelude.{Bool, true, false, cond, ◌||◌, Option, None, Some, flat_map}
use Rattle.std.specs.List.{list_any, AllByRecursion}
use Rattle.std.proofs.Common.{◌≡◌, ℕ, List, [], ◌∷◌, ◌++◌, refl, sym, ap, subst, ◌∙◌, append-nil, inl, inr}
use Rattle.alp_base.specs.declared.ids.JoinNo.{JoinNo}
use Rattle.alp_base.specs.declared.ids.TransId.{TransId}
use Rattle.alp_files.specs.declared.call.Call.{Call}
use Rattle.alp_files.specs.declared.call.Call.TheVariants as call
use Rattle.alp_files.specs.declared.reply.Reply.{Reply}
use Rattle.alp_files.specs.declared.reply.Reply.TheVariants as reply
use Rattle.alp_files.specs.declared.refusal.Refusal.{Refusal}
use Rattle.alp_files.specs.Act.{refused}
use Rattle.alp_files.specs.History.{PerformedCall}
use Rattle.alp_files.specs.Locks.{needs_made}
use Rattle.alp_files.specs.Passing.{is_passing}
use Rattle.alp_files.proofs.CoverLemmas.{joined-more}
use Rattle.alp_journal.specs.declared.act.Act.{Act}
use Rattle.alp_journal.specs.declared.act.Act.TheVariants as act
use Rattle.alp_journal.specs.declared.entry.Entry.{Entry}
use Rattle.alp_journal.specs.declared.event.Event.{Event}
use Rattle.alp_journal.specs.declared.event.Event.TheVariants as event
use Rattle.alp_journal.specs.Along.{Along, state_after}
use Rattle.alp_journal.specs.Deeds.{Deed, Begins, Joins, Enters, Grants, Performs, Releases, Readies, Aborts, Applies, Decides, Restarts}
use Rattle.alp_journal.specs.Ids.{same_trans}
use Rattle.alp_journal.specs.Holder.{Holder, Life, answer_in, after_done, holder_after, performs}
use Rattle.alp_journal.specs.Desk.{file_trans, is_not_yet}
use Rattle.alp_journal.specs.State.{State, state_deed, has_part}
use Rattle.alp_journal.specs.Moves.{is_new, joins_here, call_deeds, event_deeds, asks_for, grants_to, act_deeds, answered, is_of_no_file, done_by, done_of, done_deeds, next_join, principal, stops, tried, told, halted, next}
use Rattle.alp_journal.specs.Laws.{IsLawfulDeed, IsLawfulEntry, drawn_by, released_by, regained_by, DecidesAt}
use Rattle.alp_journal.specs.Account.{IsOwnEvent}
use Rattle.alp_journal.specs.Refused.{LivesOn, IsAsBefore, is_finish}
use Rattle.alp_journal.proofs.IdLemmas.{same_trans-true, all-append}
use Rattle.alp_journal.proofs.Origins.{all-cond}
use Rattle.alp_journal.proofs.RefusedLemmas.{as_same, as_trans, grant_still, all-right, IsNoVote, IsNoEnd, none_ended, grants_all, acts_no_end, entry_of, let_go, none_drawn, same_entry}
use Rattle.alp_history.specs.Refusals.{AddsRefused, IsStandingPart, StandsOn, StandsAsBefore}
use Rattle.alp_history.proofs.Places.{state-append}
use Rattle.alp_history.proofs.FoundActs.{along-mid}
use Rattle.alp_history.proofs.RefusedAnswers.{refused_answers}

-- ---- as before, step by step

module _ (f : Refusal) where
  part_stands : (o : Option Life) → StandsOn f o o
  part_stands None = refl
  part_stands (Some l) = record { same = refl; calls = inl refl; more = λ r m h. h }

  stands_same : (h : Holder) → StandsAsBefore f h h
  stands_same h = record { holder = refl; lives = λ t. part_stands (h.lives t) }

  part_then : (a b c : Option Life) → LivesOn a b → StandsOn f b c → StandsOn f a c
  part_then None b c h k = subst (λ (x : Option Life). StandsOn f x c) h k
  part_then (Some l) None c h k = absurd h
  part_then (Some l) (Some m) None h k = k
  part_then (Some l) (Some m) (Some n) h k = record {
    same = k.same ∙ (λ i. record (h.same i) { held = n.held; calls = n.calls });
    calls = subst (λ (cs : List PerformedCall). AddsRefused f cs n.calls) (ap (λ (x : Life). x.calls) h.same) k.calls;
    more = λ r x g. k.more r x (h.more r x g);
  }

  stands_then : (a b c : Holder) → IsAsBefore a b → StandsAsBefore f b c → StandsAsBefore f a c
  stands_then a b c h k = record {
    holder = k.holder ∙ (λ i. record (h.holder i) { lives = c.lives });
    lives = λ t. part_then (a.lives t) (b.lives t) (c.lives t) (h.lives t) (k.lives t);
  }

  -- ---- the refused call, where it is performed

  abbrev refused_call : Call → PerformedCall
  refused_call c = record { call = c; reply = reply.Refused f }

  done_part : (h : Holder) (l : Life) (c : Call) → (answer_in h l (refused_call c)).reply ≡ Some (reply.Refused f) → IsStandingPart f l (after_done l (refused_call c) (answer_in h l (refused_call c)))
  done_part h l c right =
      let d : PerformedCall = refused_call c in
      let same : answer_in h l d ≡ refused l.own f = refused_answers h.server [] _ l.who l.own c (reply.Refused f) f right in
      record {
        same = ap (after_done l d) same ∙ (λ i. record l { calls = l.calls ++ d ∷ []; edits = append-nil l.edits i; held = (after_done l d (answer_in h l d)).held });
        calls = inr (c, refl);
        more = joined-more l.held (needs_made None);
      }

  performed_stands : (e : Event) (m : State) (t : TransId) (c : Call) → IsLawfulDeed e m (Performs t (refused_call c)) → StandsAsBefore f m.holder (holder_after m.holder (Performs t (refused_call c)))
  performed_stands e m t c law =
      let l : Life = law.view.0 in
      let live : m.holder.lives t ≡ Some l = law.view.1 in
      subst (λ (o : Option Life). StandsAsBefore f m.holder (performs m.holder t (refused_call c) o)) (sym live)
      (record { holder = refl; lives = λ u. go l live (done_part m.holder l c law.view.2.right) u (same_trans u t) refl })
    where
      go : (l : Life) → m.holder.lives t ≡ Some l → IsStandingPart f l (after_done l (refused_call c) (answer_in m.holder l (refused_call c))) → (u : TransId) (b : Bool) → same_trans u t ≡ b
          → StandsOn f (m.holder.lives u) (cond {A = Option Life} b (Some (after_done l (refused_call c) (answer_in m.holder l (refused_call c)))) (m.holder.lives u))
      go l live stands u true is = subst (λ (x : Option Life). StandsOn f x (Some (after_done l (refused_call c) (answer_in m.holder l (refused_call c))))) (sym (ap m.holder.lives (same_trans-true u t is) ∙ live)) stands
      go l live stands u false is = part_stands (m.holder.lives u)

-- ---- what comes before it

-- a deed that moves nothing of what is held, but for what is granted
abbrev IsQuiet : Deed → Type 0
IsQuiet (Begins t client who seen) = ⊥
IsQuiet (Enters j t client who) = ⊥
IsQuiet (Performs t d) = ⊥
IsQuiet (Releases t) = ⊥
IsQuiet (Readies j t ts) = ⊥
IsQuiet (Aborts j t client c) = ⊥
IsQuiet (Decides x js) = ⊥
IsQuiet (Applies j x) = ⊥
IsQuiet (Restarts epoch clock) = ⊥
IsQuiet d = Unit {0}

deed_quiet : (h : Holder) (d : Deed) → IsQuiet d → IsAsBefore h (holder_after h d)
deed_quiet h (Grants t c) quiet = grant_still h t c (h.lives t) refl
deed_quiet h (Begins t client who seen) quiet = absurd quiet
deed_quiet h (Enters j t client who) quiet = absurd quiet
deed_quiet h (Performs t d) quiet = absurd quiet
deed_quiet h (Releases t) quiet = absurd quiet
deed_quiet h (Readies j t ts) quiet = absurd quiet
deed_quiet h (Aborts j t client c) quiet = absurd quiet
deed_quiet h (Decides x js) quiet = absurd quiet
deed_quiet h (Applies j x) quiet = absurd quiet
deed_quiet h (Restarts epoch clock) quiet = absurd quiet
deed_quiet h d quiet = as_same h

deeds_quiet : (s : State) (ds : List Deed) → AllByRecursion IsQuiet ds → IsAsBefore s.holder (state_after state_deed s ds).holder
deeds_quiet s [] quiet = as_same s.holder
deeds_quiet s (d ∷ ds) quiet = as_trans s.holder (holder_after s.holder d) (state_after state_deed s (d ∷ ds)).holder (deed_quiet s.holder d quiet.0) (deeds_quiet (state_deed s d) ds quiet.1)

-- acts that are no votes, where none draws an id or lets go
acts_quiet : (s : State) (e : Event) (acts : List Act) → list_any regained_by acts ≡ false → flat_map drawn_by acts ≡ [] → flat_map released_by acts ≡ [] → AllByRecursion IsNoVote (flat_map (act_deeds s e) acts)
    → AllByRecursion IsQuiet (flat_map (act_deeds s e) acts)
acts_quiet s e [] r d l v = tt
acts_quiet s e (act.Granted t ∷ acts) r d l v =
    let ds : List Deed = grants_to t (asks_for s e t (s.holder.lives t)) in
    all-append IsQuiet ds (flat_map (act_deeds s e) acts) (grants_all s e IsQuiet (λ t c. tt) t (asks_for s e t (s.holder.lives t))) (acts_quiet s e acts r d l (all-right IsNoVote ds (flat_map (act_deeds s e) acts) v))
acts_quiet s e (act.Drawn t ∷ acts) r d l v = let wrong : (t ∷ flat_map drawn_by acts) ≡ [] = d in cc
acts_quiet s e (act.Registered t j ∷ acts) r d l v = (tt, acts_quiet s e acts r d l v.1)
acts_quiet s e (act.Readied t j ts ∷ acts) r d l v = absurd v.0
acts_quiet s e (act.Decided x js ∷ acts) r d l v = absurd v.0
acts_quiet s e (act.Applied j x ∷ acts) r d l v = absurd v.0
acts_quiet s e (act.Released t ∷ acts) r d l v = let wrong : (t ∷ flat_map released_by acts) ≡ [] = l in cc
acts_quiet s e (act.Forgot t ∷ acts) r d l v = (tt, acts_quiet s e acts r d l v.1)
acts_quiet s e (act.Regained epoch clock ready xs ∷ acts) r d l v = let wrong : true ≡ false = r in cc
acts_quiet s e (act.Sent to m ∷ acts) r d l v = acts_quiet s e acts r d l v
acts_quiet s e (act.Stopped ∷ acts) r d l v = acts_quiet s e acts r d l v
acts_quiet s e (act.Failed ∷ acts) r d l v = acts_quiet s e acts r d l v

-- ---- a call that is no Finish

not_decided : (t : TransId) (client epoch number : ℕ) (c : Call) → is_finish c ≡ false → DecidesAt t (event.Call client epoch number c) → ⊥
not_decided t client epoch number (call.Finish u commit) plain h = let wrong : true ≡ false = plain in cc
not_decided t client epoch number c plain h = h

-- it brings about joins by itself, and nothing else
abbrev HasJoins : (Deed → Type 0) → Type 0
HasJoins P = (j : JoinNo) (t : TransId) (client : ℕ) (who : List ℕ) → P (Joins j t client who)

call_joins : (P : Deed → Type 0) → HasJoins P → (s : State) (client : ℕ) (c : Call) (r : Reply) → is_finish c ≡ false → AllByRecursion P (call_deeds s client c r)
call_joins P joins s client (call.Join t) r plain =
    all-cond P (is_not_yet r) (joins_here s client t) [] (all-cond P (has_part s client t) [] (Joins (next_join s) t client (principal s client) ∷ []) tt (joins (next_join s) t client (principal s client), tt)) tt
call_joins P joins s client (call.Finish t commit) r plain = let wrong : true ≡ false = plain in cc
call_joins P joins s client c r plain = tt

module _ (client epoch number : ℕ) (c : Call) (plain : is_finish c ≡ false) where
  abbrev its_event : Event
  its_event = event.Call client epoch number c

  no_vote : (s : State) (d : Deed) → IsLawfulDeed its_event s d → IsNoVote d
  no_vote s (Readies j t ts) law = absurd (subst IsOwnEvent law.vote.asked tt)
  no_vote s (Applies j x) law = absurd (subst IsOwnEvent law.application.told tt)
  no_vote s (Decides x js) law = absurd (not_decided x.trans client epoch number c plain law.decision.asked)
  no_vote s d law = tt

  no_votes : (xs ys : List Deed) (s : State) → Along state_deed (IsLawfulDeed its_event) s (xs ++ ys) → AllByRecursion IsNoVote xs
  no_votes [] ys s law = tt
  no_votes (d ∷ xs) ys s law = (no_vote s d law.0, no_votes xs ys (state_deed s d) law.1)

  module _ (s : State) (f : Refusal) (acts : List Act) where
    abbrev its : Entry
    its = entry_of s client epoch number f acts c

    abbrev at_first : List Deed
    at_first = event_deeds s its_event (Some (reply.Refused f)) acts

    abbrev by_acts : List Deed
    by_acts = flat_map (act_deeds s its_event) acts

    first_all : (P : Deed → Type 0) → HasJoins P → AllByRecursion P at_first
    first_all P joins = all-cond P (is_new s client epoch number) (call_deeds s client c (reply.Refused f)) [] (call_joins P joins s client c (reply.Refused f) plain) tt

    -- ---- the call that it answers is performed, or none is

    module _ (ds : List Deed) (before : IsAsBefore s.holder (state_after state_deed s ds).holder) where
      abbrev Closes : List Deed → Type 0
      Closes done = Along state_deed (IsLawfulDeed its_event) s (ds ++ done) → StandsAsBefore f s.holder (state_after state_deed s (ds ++ done)).holder

      closing : (done : List Deed) → StandsAsBefore f (state_after state_deed s ds).holder (state_after state_deed (state_after state_deed s ds) done).holder → StandsAsBefore f s.holder (state_after state_deed s (ds ++ done)).holder
      closing done h = subst (λ (x : State). StandsAsBefore f s.holder x.holder) (sym (state-append state_deed s ds done))
          (stands_then f s.holder (state_after state_deed s ds).holder (state_after state_deed (state_after state_deed s ds) done).holder before h)

      none_closes : Closes []
      none_closes law = closing [] (stands_same f (state_after state_deed s ds).holder)

      one_closes : (t : TransId) (c : Call) → Closes (Performs t (refused_call f c) ∷ [])
      one_closes t c law = closing (Performs t (refused_call f c) ∷ []) (performed_stands f its_event (state_after state_deed s ds) t c (along-mid (IsLawfulDeed its_event) ds (Performs t (refused_call f c)) [] s law))

      cond_closes : (b : Bool) (xs ys : List Deed) → Closes xs → Closes ys → Closes (cond {A = List Deed} b xs ys)
      cond_closes true xs ys h k = h
      cond_closes false xs ys h k = k

      done_by_closes : (c : Call) (o : Option TransId) → Closes (done_by s c (reply.Refused f) o)
      done_by_closes c None = none_closes
      done_by_closes c (Some t) = cond_closes (is_passing (reply.Refused f) || is_of_no_file s c (reply.Refused f)) [] (Performs t (refused_call f c) ∷ []) none_closes (one_closes t c)

      done_of_closes : (o : Option Call) → Closes (done_of s (reply.Refused f) o)
      done_of_closes None = none_closes
      done_of_closes (Some c) = done_by_closes c (file_trans c)

      done_closes : Closes (done_deeds s its_event (Some (reply.Refused f)))
      done_closes = cond_closes (is_new s client epoch number) (done_of s (reply.Refused f) (answered s client c)) [] (done_of_closes (answered s client c)) none_closes

    -- ---- the entry

    done_no_end : AllByRecursion IsNoEnd (done_deeds s its_event (Some (reply.Refused f)))
    done_no_end = all-cond IsNoEnd (is_new s client epoch number) (done_of s (reply.Refused f) (answered s client c)) [] (go (answered s client c)) tt
      where
        by : (c : Call) (o : Option TransId) → AllByRecursion IsNoEnd (done_by s c (reply.Refused f) o)
        by c None = tt
        by c (Some t) = all-cond IsNoEnd (is_passing (reply.Refused f) || is_of_no_file s c (reply.Refused f)) [] (Performs t (refused_call f c) ∷ []) tt (tt, tt)

        go : (o : Option Call) → AllByRecursion IsNoEnd (done_of s (reply.Refused f) o)
        go None = tt
        go (Some c) = by c (file_trans c)

    tried_stands : IsLawfulEntry s its → stops its ≡ false → StandsAsBefore f s.holder (state_after state_deed s (tried s its)).holder
    tried_stands law up =
        let done : List Deed = done_deeds s its_event (Some (reply.Refused f)) in
        let votes : AllByRecursion IsNoVote by_acts = all-right IsNoVote at_first by_acts (no_votes (at_first ++ by_acts) done s law.deeds) in
        let ends : AllByRecursion IsNoEnd (tried s its) =
        all-append IsNoEnd (at_first ++ by_acts) done (all-append IsNoEnd at_first by_acts (first_all IsNoEnd (λ j t client who. tt)) (acts_no_end s its_event acts law.restart.0 votes)) done_no_end in
        let none : flat_map released_by acts ≡ [] = let_go s client epoch number f acts c law up ∙ none_ended s (tried s its) ends in
        let quiet : AllByRecursion IsQuiet (at_first ++ by_acts) =
        all-append IsQuiet at_first by_acts (first_all IsQuiet (λ j t client who. tt)) (acts_quiet s its_event acts law.restart.0 (none_drawn s client epoch number f acts c law) none votes) in
        done_closes (at_first ++ by_acts) (deeds_quiet s (at_first ++ by_acts) quiet) law.deeds

    entry_stands : IsLawfulEntry s its → StandsAsBefore f s.holder (next s its).holder
    entry_stands law = go (stops its) refl
      where
        go : (b : Bool) → stops its ≡ b → StandsAsBefore f s.holder (cond {A = State} b (halted s its) (told s its)).holder
        go true is = stands_same f s.holder
        go false is = tried_stands law is

pub refusal_leaves : (s : State) (e : Entry) (client epoch number : ℕ) (c : Call) (f : Refusal) → IsLawfulEntry s e → e.event ≡ event.Call client epoch number c → is_finish c ≡ false → e.reply ≡ Some (reply.Refused f)
    → StandsAsBefore f s.holder (next s e).holder
refusal_leaves s e client epoch number c f law is plain told =
    let same : e ≡ entry_of s client epoch number f e.acts c = same_entry e (event.Call client epoch number c) (Some (reply.Refused f)) is told in
    subst (λ (x : Entry). StandsAsBefore f s.holder (next s x).holder) (sym same)
    (entry_stands client epoch number c plain s f e.acts (subst (IsLawfulEntry s) same law))
