-- messages at which the device of a server stopped or failed
use Rattle.std.specs.Prelude.{cond, Bool, true, false, ◌&&◌, ◌||◌, ◌==◌, flat_map, is_some, Option, None, Some}
use Rattle.std.specs.List.{list_any, list_all, AllByRecursion}
use Rattle.std.specs.List.Sorted.{IsPermutation}
use Rattle.std.proofs.lemmas.Bool.{and_parts}
use Rattle.std.proofs.Common.{inl, inr, ◌≡◌, ◌⊎◌, ℕ, ◌+◌, List, [], ◌∷◌, ◌++◌, refl, sym, ◌∙◌, ap, subst}
use Rattle.alp_base.specs.declared.ids.JoinNo.{JoinNo}
use Rattle.alp_base.specs.declared.ids.Stamp.{Stamp}
use Rattle.alp_base.specs.declared.ids.TransId.{TransId}
use Rattle.alp_files.specs.declared.reply.Reply.{Reply}
use Rattle.alp_files.specs.declared.reply.Reply.TheVariants as reply
use Rattle.alp_files.specs.declared.refusal.Refusal.TheVariants as refusal
use Rattle.alp_files.specs.declared.refusal.Why.{Why}
use Rattle.alp_files.specs.declared.refusal.Why.TheVariants as why
use Rattle.alp_files.specs.declared.refusal.Cause.{Cause}
use Rattle.alp_files.specs.declared.refusal.Cause.TheVariants as cause
use Rattle.alp_journal.specs.declared.act.Act.{Act}
use Rattle.alp_journal.specs.declared.act.Act.TheVariants as act
use Rattle.alp_journal.specs.declared.event.Event.{Event}
use Rattle.alp_journal.specs.declared.event.Event.TheVariants as event
use Rattle.alp_journal.specs.declared.message.Message.{Message}
use Rattle.alp_journal.specs.declared.message.Message.TheVariants as msg
use Rattle.alp_journal.specs.declared.entry.Entry.{Entry}
use Rattle.alp_journal.specs.Along.{Along, Where}
use Rattle.alp_journal.specs.Ids.{same_trans, has_join}
use Rattle.alp_journal.specs.Deeds.{Deed, Readies, Aborts, Hears, Decides, Acknowledges, Forgets}
use Rattle.alp_journal.specs.Coordinator.{Fate, Vote, Finishing, Committed, has_votes, has_all, voted, with_vote}
use Rattle.alp_journal.specs.Coordinator as fate
use Rattle.alp_journal.specs.Participant.{Phase, Active, Ready, live_in, open_in}
use Rattle.alp_journal.specs.Holder.{Life}
use Rattle.alp_journal.specs.Desk.{is_of_part, waiting_of}
use Rattle.alp_journal.specs.Counts.{ready_sum}
use Rattle.alp_journal.specs.State.{State, state_deed}
use Rattle.alp_journal.specs.Halts.{HaltsRight, written, by_vote, by_ask, by_commit, by_done, decides, is_some_act, is_note_of, ends_note, may_read}
use Rattle.alp_journal.specs.Halts as halts
use Rattle.alp_journal.specs.Moves.{is_stop, tried, told, halted, next, if_its, quits_for, first_sent, abort_in, ends_for, hears, acknowledges}
use Rattle.alp_journal.specs.Laws.{IsLawfulDeed, DoLivesAgree, ReleasesEnded, WaitsInTurn, IsStopped, TellsStop, SaysRight, drawn_by, granted_by, regained_by, sends_last, latest_vote}
use Rattle.alp_journal.specs.Messages.{due, sent_by, has_all_votes, clock_end, first_why, no_room, weights, greatest, all_ready, applying, why_not, why_not_own}
use Rattle.alp_journal.specs.Answered.{AppliesTold, is_all_done, is_release, at_release, in_turn, IsWalk, CountsVotes, ForgetsDone}
use Rattle.alp_journal.specs.Account.{Account, state_of, IsPhaseOf, IsQuiet, HasTried, Leads}
use Rattle.alp_journal.proofs.WaitLemmas.{none-found}
use Rattle.alp_journal.proofs.IdLemmas.{same_trans-itself}
use Rattle.alp_journal.proofs.StandLemmas.{moved_fate, own_pair}
use Rattle.alp_journal.proofs.PartLemmas.{active_at_work}
use Rattle.alp_journal.proofs.QuietLemmas.{quiet_down}
use Rattle.alp_journal.proofs.OwnEnds.{IsOwn, here_as, now_as}
use Rattle.alp_journal.proofs.VoteSteps.{idle, voted_as, IsVoted}
use Rattle.alp_journal.proofs.DecideSteps.{decision_stamp, own, hearing_fate, idle_then}
use Rattle.alp_journal.proofs.DecisionSteps.{undone}

-- the device stopped, or failed
abbrev pub stop_of : Bool → Act
stop_of true = act.Stopped
stop_of false = act.Failed

within_by : (failed waits is_end : Bool) (full : Option Why) → first_why failed waits is_end full ≡ None → is_end ≡ false
within_by failed true is_end full is = let wrong : Some why.Waiting ≡ None = is in cc
within_by failed false true full is = let wrong : Some why.ClockEnd ≡ None = is in cc
within_by failed false false full is = refl

module _ (a : Account) (from : ℕ) (x : Message) where
  abbrev pub stop_entry : List Act → Entry
  stop_entry acts = record { event = event.Arrive from x; reply = Some (reply.Refused refusal.Down); acts = acts }

  -- the server is down, and what was tried is to be seen at the restart
  abbrev pub with_stop : List Act → Account
  with_stop acts = record a { is_down = true; pending = tried (state_of a) (stop_entry acts) }

  -- what is owed of it
  pub record StopOwes (acts : List Act) : Type 0 where
    pub stops : list_any is_stop acts ≡ true
    pub drawn : flat_map drawn_by acts ≡ []
    pub deeds : Along state_deed (IsLawfulDeed (event.Arrive from x)) (state_of a) (tried (state_of a) (stop_entry acts))
    pub sent : sends_last acts ≡ true
    pub said : (m : State) → AllByRecursion (SaysRight (event.Arrive from x) m) acts
    pub regained : list_any regained_by acts ≡ false
    pub stopped : IsStopped acts
    pub released : list_any is_release acts ≡ false
    pub halted : HaltsRight (state_of a) (stop_entry acts)
    pub tried_so : HasTried (with_stop acts)

  pub stop_leads : (acts : List Act) → IsQuiet a → a.is_down ≡ false → StopOwes acts → Leads false a (stop_entry acts) (with_stop acts)
  stop_leads acts q up o =
      let s : State = state_of a in
      let e : Entry = stop_entry acts in
      let ev : Event = event.Arrive from x in
      let leaves : next s e ≡ state_of (with_stop acts) = ap (λ (b : Bool). cond {A = State} b (halted s e) (told s e)) o.stops in
      record {
        leaves = leaves;
        lawful = record {
          drawn = o.drawn;
          sessions = ap (λ (b : Bool). cond {A = Option Reply} b (Some (reply.Refused refusal.Down)) None) (sym o.stops);
          deeds = o.deeds;
          agree = subst (λ (y : State). DoLivesAgree y.holder.lives) (sym leaves) q.settled.stands.agree;
          released = subst (λ (b : Bool). Where b (Unit {0}) (ReleasesEnded s e × WaitsInTurn (next s e))) (sym o.stops) tt;
          sent = o.sent;
          said = o.said (next s e);
          told = tt;
          restart = (o.regained, up);
          stopped = subst (λ (b : Bool). Where b (IsStopped acts × TellsStop ev (Some (reply.Refused refusal.Down))) (Unit {0})) (sym o.stops) (o.stopped, refl);
        };
        answered = record {
          answered = either (list_any is_stop acts);
          sent = subst (λ (b : Bool). Where b (Unit {0}) (IsPermutation (due false s (next s e) ev (Some (reply.Refused refusal.Down))) (flat_map sent_by acts))) (sym o.stops) tt;
          ticks = tt;
          applied = subst (λ (b : Bool). Where b (Unit {0}) (AppliesTold s (next s e) ev)) (sym o.stops) tt;
          votes = subst (λ (b : Bool). Where b (Unit {0}) (CountsVotes (next s e))) (sym o.stops) tt;
          forgets = subst (λ (b : Bool). Where b (Unit {0}) (ForgetsDone (next s e))) (sym o.stops) tt;
          turns = subst (λ (b : Bool). Where b (IsWalk (at_release s e) (in_turn (at_release s e) a.waits) (flat_map granted_by acts)) (Unit {0})) (sym o.released) tt;
          grants = either (list_any is_stop acts);
          halted = subst (λ (b : Bool). Where b (HaltsRight s e) (Unit {0})) (sym o.stops) o.halted;
        };
        quiet = quiet_down a true (tried s e) q o.tried_so;
      }
    where
      either : (b : Bool) → Where b (Unit {0}) (Unit {0})
      either true = tt
      either false = tt

-- ---- a part votes

module _ (a : Account) (from : ℕ) (t : TransId) (j : JoinNo) (client : ℕ) (who : List ℕ) (l : Life) (q : IsQuiet a) (up : a.is_down ≡ false) (active : a.phases j ≡ Active t client who) (live : a.holder.lives t ≡ Some l) (may : why_not false (state_of a) client t ≡ None) where
  abbrev ask : Message
  ask = msg.Ask t j

  abbrev ask_ev : Event
  ask_ev = event.Arrive from (msg.Ask t j)

  asks_written : written (state_of a) ask_ev ≡ act.Readied t j (a.holder.clock + 1) ∷ []
  asks_written = ap (by_ask (state_of a) t j) active ∙ ap (λ (b : Bool). cond {A = List Act} b (halts.readies (state_of a) t j (why_not false (state_of a) client t)) []) (same_trans-itself t) ∙ ap (halts.readies (state_of a) t j) may

  none_quits : (b : Bool) → cond {A = List Deed} b [] [] ++ (Readies j t (a.holder.clock + 1) ∷ []) ++ [] ≡ Readies j t (a.holder.clock + 1) ∷ []
  none_quits true = refl
  none_quits false = refl

  asks_deeds : if_its t (open_in (a.phases j)) (λ n. quits_for j t n None) ++ (Readies j t (a.holder.clock + 1) ∷ []) ++ [] ≡ Readies j t (a.holder.clock + 1) ∷ []
  asks_deeds = ap (λ (p : Phase). if_its t (open_in p) (λ n. quits_for j t n None) ++ (Readies j t (a.holder.clock + 1) ∷ []) ++ []) active ∙ none_quits (same_trans t t)

  its_idle : waiting_of (state_of a).desk client t ≡ None
  its_idle = idle a from t j client who l may

  ask_owes : (b : Bool) → StopOwes a from (msg.Ask t j) (act.Readied t j (a.holder.clock + 1) ∷ stop_of b ∷ [])
  ask_owes true = record {
    stops = refl;
    drawn = refl;
    deeds = subst (Along state_deed (IsLawfulDeed ask_ev) (state_of a)) (sym (asks_deeds)) ((record { counts = tt; view = tt; locks = tt; running = tt; registration = tt; vote = record { from = from; client = client; who = who; asked = refl; active = active; idle = its_idle; time = refl; live = (l, live, (active_at_work a q.settled.stands t l live j client who active).vote) }; decision = tt; application = tt; forgetting = tt }, tt));
    sent = refl;
    said = λ m. (tt, (tt, tt));
    regained = refl;
    stopped = (refl, refl);
    released = refl;
    halted = inl (record { reaches = (λ i. (is_some_act (asks_written i) || ends_note (state_of a) ask_ev) || may_read (state_of a) ask_ev); acts = ap (λ (ws : List Act). ws ++ act.Stopped ∷ []) (sym asks_written) });
    tried_so = HasTried.vote (record { join = j; trans = t; client = client; who = who; tried = (asks_deeds); down = refl; within = within_by false (is_some (waiting_of (state_of a).desk client t)) (a.holder.clock == clock_end) (no_room a.sizes.area (ready_sum (weights (state_of a) (all_ready (state_of a))) (greatest (state_of a) (all_ready (state_of a)))) (ready_sum (weights (state_of a) (t ∷ all_ready (state_of a))) (greatest (state_of a) (t ∷ all_ready (state_of a))))) may; active = active; idle = none-found (is_of_part client t) a.waits its_idle });
  }
  ask_owes false = record {
    stops = refl;
    drawn = refl;
    deeds = subst (Along state_deed (IsLawfulDeed ask_ev) (state_of a)) (sym (asks_deeds)) ((record { counts = tt; view = tt; locks = tt; running = tt; registration = tt; vote = record { from = from; client = client; who = who; asked = refl; active = active; idle = its_idle; time = refl; live = (l, live, (active_at_work a q.settled.stands t l live j client who active).vote) }; decision = tt; application = tt; forgetting = tt }, tt));
    sent = refl;
    said = λ m. (tt, (tt, tt));
    regained = refl;
    stopped = (refl, refl);
    released = refl;
    halted = inr (record { reaches = (λ i. (is_some_act (asks_written i) || ends_note (state_of a) ask_ev)); acts = ap (λ (ws : List Act). ws ++ act.Failed ∷ []) (sym asks_written) });
    tried_so = HasTried.vote (record { join = j; trans = t; client = client; who = who; tried = (asks_deeds); down = refl; within = within_by false (is_some (waiting_of (state_of a).desk client t)) (a.holder.clock == clock_end) (no_room a.sizes.area (ready_sum (weights (state_of a) (all_ready (state_of a))) (greatest (state_of a) (all_ready (state_of a)))) (ready_sum (weights (state_of a) (t ∷ all_ready (state_of a))) (greatest (state_of a) (t ∷ all_ready (state_of a))))) may; active = active; idle = none-found (is_of_part client t) a.waits its_idle });
  }

  pub ask_stop_leads : (b : Bool) → Leads false a (stop_entry a from (msg.Ask t j) (act.Readied t j (a.holder.clock + 1) ∷ stop_of b ∷ [])) (with_stop a from (msg.Ask t j) (act.Readied t j (a.holder.clock + 1) ∷ stop_of b ∷ []))
  ask_stop_leads b = stop_leads a from (msg.Ask t j) (act.Readied t j (a.holder.clock + 1) ∷ stop_of b ∷ []) q up (ask_owes b)

-- ---- a part is told to commit, or that it ends

module _ (a : Account) (from : ℕ) (t : TransId) (j : JoinNo) (client ts : ℕ) (l : Life) (q : IsQuiet a) (up : a.is_down ≡ false) (ready : a.phases j ≡ Ready t client ts) (live : a.holder.lives t ≡ Some l) where
  known : IsPhaseOf a.servers a.holder.server a.ids.epoch a.ids.joins a.joined j (Ready t client ts)
  known = subst (IsPhaseOf a.servers a.holder.server a.ids.epoch a.ids.joins a.joined j) ready (q.settled.stands.phases j)

  module _ (time : ℕ) where
    abbrev stamp : Stamp
    stamp = record { ts = time; trans = t }

    abbrev commit_ev : Event
    commit_ev = event.Arrive from (msg.Commit t j (record { ts = time; trans = t }))

    commit_written : written (state_of a) commit_ev ≡ act.Applied j stamp ∷ []
    commit_written = ap (by_commit t j stamp) ready ∙ ap (λ (b : Bool). cond {A = List Act} (b && b) (act.Applied j stamp ∷ []) []) (same_trans-itself t)

    commit_owes : (b : Bool) → StopOwes a from (msg.Commit t j (record { ts = time; trans = t })) (act.Applied j (record { ts = time; trans = t }) ∷ stop_of b ∷ [])
    commit_owes true = record {
      stops = refl;
      drawn = refl;
      deeds = (record { counts = tt; view = tt; locks = tt; running = tt; registration = tt; vote = tt; decision = tt; application = record { from = from; client = client; ts = ts; told = refl; ready = ready; elsewhere = known.1; live = (l, live, IsVoted.vote (voted_as a from t j client ts time l q.settled ready live)) }; forgetting = tt }, tt);
      sent = refl;
      said = λ m. (tt, (tt, tt));
      regained = refl;
      stopped = (refl, refl);
      released = refl;
      halted = inl (record { reaches = (λ i. (is_some_act (commit_written i) || ends_note (state_of a) commit_ev) || may_read (state_of a) commit_ev); acts = ap (λ (ws : List Act). ws ++ act.Stopped ∷ []) (sym commit_written) });
      tried_so = HasTried.application (record { join = j; stamp = stamp; client = client; ts = ts; tried = (refl); down = refl; ready = ready });
    }
    commit_owes false = record {
      stops = refl;
      drawn = refl;
      deeds = (record { counts = tt; view = tt; locks = tt; running = tt; registration = tt; vote = tt; decision = tt; application = record { from = from; client = client; ts = ts; told = refl; ready = ready; elsewhere = known.1; live = (l, live, IsVoted.vote (voted_as a from t j client ts time l q.settled ready live)) }; forgetting = tt }, tt);
      sent = refl;
      said = λ m. (tt, (tt, tt));
      regained = refl;
      stopped = (refl, refl);
      released = refl;
      halted = inr (record { reaches = (λ i. (is_some_act (commit_written i) || ends_note (state_of a) commit_ev)); acts = ap (λ (ws : List Act). ws ++ act.Failed ∷ []) (sym commit_written) });
      tried_so = HasTried.application (record { join = j; stamp = stamp; client = client; ts = ts; tried = (refl); down = refl; ready = ready });
    }

    pub commit_stop_leads : (b : Bool) → Leads false a (stop_entry a from (msg.Commit t j (record { ts = time; trans = t })) (act.Applied j (record { ts = time; trans = t }) ∷ stop_of b ∷ []))
        (with_stop a from (msg.Commit t j (record { ts = time; trans = t })) (act.Applied j (record { ts = time; trans = t }) ∷ stop_of b ∷ []))
    commit_stop_leads b = stop_leads a from (msg.Commit t j (record { ts = time; trans = t })) (act.Applied j (record { ts = time; trans = t }) ∷ stop_of b ∷ []) q up (commit_owes b)

  module _ (c : Cause) where
    abbrev abort_ev : Event
    abort_ev = event.Arrive from (msg.Abort t j c)

    abort_written : written (state_of a) abort_ev ≡ []
    abort_written = refl

    abort_notes : ends_note (state_of a) abort_ev ≡ true
    abort_notes = ap (is_note_of t) ready ∙ same_trans-itself t

    abort_deeds : if_its t (live_in (a.phases j)) (λ n. Aborts j t n c ∷ []) ++ [] ++ [] ≡ Aborts j t client c ∷ []
    abort_deeds = ap (λ (p : Phase). if_its t (live_in p) (λ n. Aborts j t n c ∷ []) ++ [] ++ []) ready ∙ ap (λ (b : Bool). cond {A = List Deed} b (Aborts j t client c ∷ []) [] ++ [] ++ []) (same_trans-itself t)

    abort_owes : (b : Bool) → StopOwes a from (msg.Abort t j c) (stop_of b ∷ [])
    abort_owes true = record {
      stops = refl;
      drawn = refl;
      deeds = subst (Along state_deed (IsLawfulDeed abort_ev) (state_of a)) (sym (abort_deeds)) ((record { counts = tt; view = tt; locks = tt; running = tt; registration = tt; vote = tt; decision = tt; application = tt; forgetting = tt }, tt));
      sent = refl;
      said = λ m. (tt, tt);
      regained = refl;
      stopped = refl;
      released = refl;
      halted = inl (record { reaches = (λ i. (is_some_act (abort_written i) || abort_notes i) || may_read (state_of a) abort_ev); acts = ap (λ (ws : List Act). ws ++ act.Stopped ∷ []) (sym abort_written) });
      tried_so = HasTried.abort (record { join = j; trans = t; client = client; ts = ts; cause = c; tried = (abort_deeds); down = refl; ready = ready });
    }
    abort_owes false = record {
      stops = refl;
      drawn = refl;
      deeds = subst (Along state_deed (IsLawfulDeed abort_ev) (state_of a)) (sym (abort_deeds)) ((record { counts = tt; view = tt; locks = tt; running = tt; registration = tt; vote = tt; decision = tt; application = tt; forgetting = tt }, tt));
      sent = refl;
      said = λ m. (tt, tt);
      regained = refl;
      stopped = refl;
      released = refl;
      halted = inr (record { reaches = (λ i. (is_some_act (abort_written i) || abort_notes i)); acts = ap (λ (ws : List Act). ws ++ act.Failed ∷ []) (sym abort_written) });
      tried_so = HasTried.abort (record { join = j; trans = t; client = client; ts = ts; cause = c; tried = (abort_deeds); down = refl; ready = ready });
    }

    pub abort_stop_leads : (b : Bool) → Leads false a (stop_entry a from (msg.Abort t j c) (stop_of b ∷ [])) (with_stop a from (msg.Abort t j c) (stop_of b ∷ []))
    abort_stop_leads b = stop_leads a from (msg.Abort t j c) (stop_of b ∷ []) q up (abort_owes b)

-- ---- the last vote arrives

module _ (a : Account) (from : ℕ) (t : TransId) (j : JoinNo) (ts client : ℕ) (js : List JoinNo) (vs : List Vote) (l : Life) (q : IsQuiet a) (up : a.is_down ≡ false) (is : a.fates t ≡ Finishing client js vs) (all : has_all_votes j ts js vs ≡ true)
    (live : a.holder.lives t ≡ Some l) (part : l.join ≡ None) (may : why_not_own false (state_of a) t ≡ None) where
  abbrev last_stamp : Stamp
  last_stamp = decision_stamp a from t j ts client js vs l

  abbrev vote_ev : Event
  vote_ev = event.Arrive from (msg.Ready t j ts)

  both : (has_join j js ≡ true) × (list_all (λ k. voted k (with_vote j ts vs)) js ≡ true)
  both = and_parts (has_join j js) (list_all (λ k. voted k (with_vote j ts vs)) js) all

  its_own : IsOwn a client t l cause.Asked
  its_own = own a from t j ts client js vs l q is live part

  vote_written : written (state_of a) vote_ev ≡ act.Decided last_stamp js ∷ []
  vote_written = ap (by_vote (state_of a) t j ts) is ∙ ap (λ (b : Bool). cond {A = List Act} b (decides t (latest_vote (a.holder.clock + 1) (with_vote j ts vs)) js (why_not_own false (state_of a) t)) []) all
      ∙ ap (decides t (latest_vote (a.holder.clock + 1) (with_vote j ts vs)) js) may

  vote_deeds : (acts : List Act) → first_sent (abort_in t) acts ≡ None → hears (state_of a) acts t j ts (a.fates t) ++ (Decides last_stamp js ∷ []) ++ [] ≡ Hears t j ts ∷ Decides last_stamp js ∷ []
  vote_deeds acts none = ap (λ (f : Fate). hears (state_of a) acts t j ts f ++ (Decides last_stamp js ∷ []) ++ []) is
      ∙ ap (λ (b : Bool). cond {A = List Deed} b (Hears t j ts ∷ ends_for t client (first_sent (abort_in t) acts)) [] ++ (Decides last_stamp js ∷ []) ++ []) both.0
      ∙ ap (λ (c : Option Cause). (Hears t j ts ∷ ends_for t client c) ++ (Decides last_stamp js ∷ []) ++ []) none

  vote_within : (a.holder.clock == clock_end) ≡ false
  vote_within = within_by false false (a.holder.clock == clock_end) (no_room a.sizes.area (ready_sum (weights (state_of a) (all_ready (state_of a))) 0) (ready_sum (weights (state_of a) (all_ready (state_of a))) (applying (state_of a) t))) may

  vote_owes : (b : Bool) → StopOwes a from (msg.Ready t j ts) (act.Decided last_stamp js ∷ stop_of b ∷ [])
  vote_owes true = record {
    stops = refl;
    drawn = refl;
    deeds = subst (Along state_deed (IsLawfulDeed vote_ev) (state_of a)) (sym (vote_deeds (act.Decided last_stamp js ∷ act.Stopped ∷ []) refl)) ((record { counts = tt; view = tt; locks = tt; running = tt; registration = tt; vote = tt; decision = tt; application = tt; forgetting = tt }, (record { counts = tt; view = tt; locks = tt; running = tt; registration = tt; vote = tt; decision = record { client = client; votes = with_vote j ts vs; asked = refl; own = here_as a client t l cause.Asked its_own; now = now_as a client t l cause.Asked its_own; finishing = hearing_fate a from t j ts client js vs l is; voted = ap has_votes (hearing_fate a from t j ts client js vs l is) ∙ both.1; time = refl; idle = λ w found. idle_then a from t j ts client js vs l q is w found; live = (l, live, (own_pair a q.settled.stands t l live part).1) }; application = tt; forgetting = tt }, tt)));
    sent = refl;
    said = λ m. (tt, (tt, tt));
    regained = refl;
    stopped = (refl, refl);
    released = refl;
    halted = inl (record { reaches = (λ i. (is_some_act (vote_written i) || ends_note (state_of a) vote_ev) || may_read (state_of a) vote_ev); acts = ap (λ (ws : List Act). ws ++ act.Stopped ∷ []) (sym vote_written) });
    tried_so = HasTried.decision (record { stamp = last_stamp; life = l; join = j; ts = ts; joins = js; votes = vs; tried = (vote_deeds (act.Decided last_stamp js ∷ act.Stopped ∷ []) refl); down = refl; time = refl; within = vote_within; own = here_as a client t l cause.Asked its_own; now = now_as a client t l cause.Asked its_own; live = live; own_part = part; finishing = is ∙ ap (λ (n : ℕ). Finishing n js vs) (sym its_own.its); voted = all });
  }
  vote_owes false = record {
    stops = refl;
    drawn = refl;
    deeds = subst (Along state_deed (IsLawfulDeed vote_ev) (state_of a)) (sym (vote_deeds (act.Decided last_stamp js ∷ act.Failed ∷ []) refl)) ((record { counts = tt; view = tt; locks = tt; running = tt; registration = tt; vote = tt; decision = tt; application = tt; forgetting = tt }, (record { counts = tt; view = tt; locks = tt; running = tt; registration = tt; vote = tt; decision = record { client = client; votes = with_vote j ts vs; asked = refl; own = here_as a client t l cause.Asked its_own; now = now_as a client t l cause.Asked its_own; finishing = hearing_fate a from t j ts client js vs l is; voted = ap has_votes (hearing_fate a from t j ts client js vs l is) ∙ both.1; time = refl; idle = λ w found. idle_then a from t j ts client js vs l q is w found; live = (l, live, (own_pair a q.settled.stands t l live part).1) }; application = tt; forgetting = tt }, tt)));
    sent = refl;
    said = λ m. (tt, (tt, tt));
    regained = refl;
    stopped = (refl, refl);
    released = refl;
    halted = inr (record { reaches = (λ i. (is_some_act (vote_written i) || ends_note (state_of a) vote_ev)); acts = ap (λ (ws : List Act). ws ++ act.Failed ∷ []) (sym vote_written) });
    tried_so = HasTried.decision (record { stamp = last_stamp; life = l; join = j; ts = ts; joins = js; votes = vs; tried = (vote_deeds (act.Decided last_stamp js ∷ act.Failed ∷ []) refl); down = refl; time = refl; within = vote_within; own = here_as a client t l cause.Asked its_own; now = now_as a client t l cause.Asked its_own; live = live; own_part = part; finishing = is ∙ ap (λ (n : ℕ). Finishing n js vs) (sym its_own.its); voted = all });
  }

  pub vote_stop_leads : (b : Bool) → Leads false a (stop_entry a from (msg.Ready t j ts) (act.Decided last_stamp js ∷ stop_of b ∷ [])) (with_stop a from (msg.Ready t j ts) (act.Decided last_stamp js ∷ stop_of b ∷ []))
  vote_stop_leads b = stop_leads a from (msg.Ready t j ts) (act.Decided last_stamp js ∷ stop_of b ∷ []) q up (vote_owes b)

-- ---- the last of the joins has applied a decision

module _ (a : Account) (from : ℕ) (t : TransId) (j : JoinNo) (stamp : Stamp) (js ds : List JoinNo) (q : IsQuiet a) (up : a.is_down ≡ false) (is : a.fates t ≡ Committed stamp js ds) (its : has_join j js ≡ true) (all : has_all (j ∷ ds) js ≡ true) where
  abbrev done_ev : Event
  done_ev = event.Arrive from (msg.Done t j)

  done_written : written (state_of a) done_ev ≡ act.Forgot t ∷ []
  done_written = ap (by_done t j) is ∙ (λ i. cond {A = List Act} (its i && all i) (act.Forgot t ∷ []) [])

  done_deeds : acknowledges t j (a.fates t) ++ (Forgets t ∷ []) ++ [] ≡ Acknowledges t j ∷ Forgets t ∷ []
  done_deeds = ap (λ (f : Fate). acknowledges t j f ++ (Forgets t ∷ []) ++ []) is ∙ ap (λ (b : Bool). cond {A = List Deed} b (Acknowledges t j ∷ []) [] ++ (Forgets t ∷ []) ++ []) its

  done_owes : (b : Bool) → StopOwes a from (msg.Done t j) (act.Forgot t ∷ stop_of b ∷ [])
  done_owes true = record {
    stops = refl;
    drawn = refl;
    deeds = subst (Along state_deed (IsLawfulDeed done_ev) (state_of a)) (sym (done_deeds)) ((record { counts = tt; view = tt; locks = tt; running = tt; registration = tt; vote = tt; decision = tt; application = tt; forgetting = tt }, (record { counts = tt; view = tt; locks = tt; running = tt; registration = tt; vote = tt; decision = tt; application = tt; forgetting = record { from = from; join = j; stamp = stamp; joins = js; before = ds; told = refl; committed = moved_fate a.fates t (fate.acknowledged j) ∙ ap (fate.acknowledged j) is; its = its; missing = sym (undone a from t j stamp js ds js ds its) ∙ ap is_all_done (sym is) ∙ q.settled.stands.forgets t; all = all } }, tt)));
    sent = refl;
    said = λ m. (tt, (tt, tt));
    regained = refl;
    stopped = (refl, refl);
    released = refl;
    halted = inl (record { reaches = (λ i. (is_some_act (done_written i) || ends_note (state_of a) done_ev) || may_read (state_of a) done_ev); acts = ap (λ (ws : List Act). ws ++ act.Stopped ∷ []) (sym done_written) });
    tried_so = HasTried.end (record { trans = t; join = j; stamp = stamp; joins = js; done = ds; tried = (done_deeds); down = refl; committed = is; its = its; all = all });
  }
  done_owes false = record {
    stops = refl;
    drawn = refl;
    deeds = subst (Along state_deed (IsLawfulDeed done_ev) (state_of a)) (sym (done_deeds)) ((record { counts = tt; view = tt; locks = tt; running = tt; registration = tt; vote = tt; decision = tt; application = tt; forgetting = tt }, (record { counts = tt; view = tt; locks = tt; running = tt; registration = tt; vote = tt; decision = tt; application = tt; forgetting = record { from = from; join = j; stamp = stamp; joins = js; before = ds; told = refl; committed = moved_fate a.fates t (fate.acknowledged j) ∙ ap (fate.acknowledged j) is; its = its; missing = sym (undone a from t j stamp js ds js ds its) ∙ ap is_all_done (sym is) ∙ q.settled.stands.forgets t; all = all } }, tt)));
    sent = refl;
    said = λ m. (tt, (tt, tt));
    regained = refl;
    stopped = (refl, refl);
    released = refl;
    halted = inr (record { reaches = (λ i. (is_some_act (done_written i) || ends_note (state_of a) done_ev)); acts = ap (λ (ws : List Act). ws ++ act.Failed ∷ []) (sym done_written) });
    tried_so = HasTried.end (record { trans = t; join = j; stamp = stamp; joins = js; done = ds; tried = (done_deeds); down = refl; committed = is; its = its; all = all });
  }

  pub done_stop_leads : (b : Bool) → Leads false a (stop_entry a from (msg.Done t j) (act.Forgot t ∷ stop_of b ∷ [])) (with_stop a from (msg.Done t j) (act.Forgot t ∷ stop_of b ∷ []))
  done_stop_leads b = stop_leads a from (msg.Done t j) (act.Forgot t ∷ stop_of b ∷ []) q up (done_owes b)
