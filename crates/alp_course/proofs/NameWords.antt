-- Who asks to be registered was drawn there, and who is let in is of a transaction that was drawn there.
use Rattle.std.specs.Prelude.{Bool, true, false, not, cond, ◌&&◌, ◌||◌, ◌==◌, filter, flat_map, map as list_map, Option, None, Some, is_none, is_some, slice_get}
use Rattle.std.specs.List.{list_any, list_all, AllByRecursion}
use Rattle.std.proofs.Common.{◌≡◌, ◌⊎◌, inl, inr, ℕ, zero, suc, ◌+◌, ◌<◌, ◌≤◌, List, [], ◌∷◌, ◌++◌, length, refl, sym, ◌∙◌, ap, subst, arith}
use Rattle.std.specs.List.Sorted.{IsPermutation}
use Rattle.std.proofs.lemmas.List.Sorted.{IsPermutation-sym}
use Rattle.alp_base.specs.declared.ids.JoinNo.{JoinNo}
use Rattle.alp_base.specs.declared.ids.Stamp.{Stamp}
use Rattle.alp_base.specs.declared.ids.TransId.{TransId}
use Rattle.alp_files.specs.declared.call.Call.{Call}
use Rattle.alp_files.specs.declared.call.Call.TheVariants as call
use Rattle.alp_files.specs.declared.reply.Reply.{Reply}
use Rattle.alp_files.specs.declared.refusal.Cause.{Cause}
use Rattle.alp_files.specs.declared.refusal.Why.{Why}
use Rattle.alp_journal.specs.Along.{Where, state_after}
use Rattle.alp_journal.specs.Answered.{IsAnsweredSo, IsAnsweredEntry}
use Rattle.alp_journal.specs.Coordinator.{Fate, Vote, Undrawn, Running, Finishing, Committed, Forgotten, Ended, voted}
use Rattle.alp_journal.specs.Deeds.{Deed, Begins, Joins, Enters, Quits, Aborts, Grants, Performs, Releases, Readies, Applies, Registers, Finishes, Hears, Decides, Ends, Acknowledges, Forgets, Restarts}
use Rattle.alp_journal.specs.Desk.{waiting_of, is_not_yet}
use Rattle.alp_journal.specs.Ids.{same_trans, has_join}
use Rattle.alp_journal.specs.Laws.{IsStopped, TellsStop, is_written, StartsRight}
use Rattle.alp_journal.specs.Messages.{Mail, sent_by, to_each, asks_to_join, on_finish, on_call, vote_on, on_register, unknown_join, on_ask, has_all_votes, on_votes, own_vote, on_ready, on_no, on_commit, commit_to, lost_or, on_inquire, on_message, on_timeout, register_again, inquire_again, ask_again, commit_again, on_tick, to_others, due, SendsDue, may_join, why_not, why_not_own}
use Rattle.alp_journal.specs.Moves.{next, stops, told, halted, tried, did, is_stop, is_new, call_deeds, joins_here, next_join, principal, event_deeds, act_deeds, done_deeds}
use Rattle.alp_journal.specs.Participant.{Phase, Unseen, Joining, Active, Ready, Applied, Over, live_in}
use Rattle.alp_journal.specs.State.{Ids, State, ids_after, state_deed, is_other_server, is_join_drawn, is_trans_drawn, has_part}
use Rattle.alp_journal.specs.declared.act.Act.{Act}
use Rattle.alp_journal.specs.declared.act.Act.TheVariants as act
use Rattle.alp_journal.specs.declared.entry.Entry.{Entry}
use Rattle.alp_journal.specs.declared.event.Event.{Event}
use Rattle.alp_journal.specs.declared.event.Event.TheVariants as event
use Rattle.alp_journal.specs.declared.message.Message.{Message}
use Rattle.alp_journal.specs.declared.message.Message.TheVariants as msg
use Rattle.alp_journal.proofs.IdLemmas.{all-append}
use Rattle.alp_journal.proofs.Origins.{IsFrom, tried-from, all-flat, all-cond}
use Rattle.alp_history.specs.Log.{IsIn}
use Rattle.alp_history.proofs.Places.{all-in}
use Rattle.alp_course.proofs.CalmArrivals.{flat_in, permuted_in}

-- ---- what is sent is due

pub sent_due : (failed : Bool) (s : State) (e : Entry) (to : ℕ) (m : Message) → stops e ≡ false → SendsDue failed s e → IsIn (act.Sent to m) e.acts → IsIn (to, m) (due failed s (next s e) e.event e.reply)
sent_due failed s e to m goes sends i =
    permuted_in (flat_map sent_by e.acts) (due failed s (next s e) e.event e.reply) (to, m)
    (IsPermutation-sym (due failed s (next s e) e.event e.reply) (flat_map sent_by e.acts)
    (subst (λ (b : Bool). Where b (Unit {0}) (IsPermutation (due failed s (next s e) e.event e.reply) (flat_map sent_by e.acts))) goes sends)) (flat_in sent_by (act.Sent to m) (to, m) e.acts i (inl refl))

-- and nothing is sent where something stopped
stopped_says : (acts : List Act) (to : ℕ) (m : Message) → IsStopped acts → IsIn (act.Sent to m) acts → ⊥
stopped_says [] to m h i = absurd h
stopped_says (a ∷ []) to m h (inl e) = (let x : is_stop (act.Sent to m) ≡ true = ap is_stop e ∙ h in let no_ : false ≡ true = x in cc)
stopped_says (a ∷ []) to m h (inr i) = absurd i
stopped_says (a ∷ b ∷ []) to m h (inl e) = (let x : is_written (act.Sent to m) ≡ true = ap is_written e ∙ h.0 in let no_ : false ≡ true = x in cc)
stopped_says (a ∷ b ∷ []) to m h (inr (inl e)) = (let x : is_stop (act.Sent to m) ≡ true = ap is_stop e ∙ h.1 in let no_ : false ≡ true = x in cc)
stopped_says (a ∷ b ∷ []) to m h (inr (inr i)) = absurd i
stopped_says (a ∷ b ∷ c ∷ acts) to m h i = absurd h

pub says_so : (e : Entry) (to : ℕ) (m : Message) → Where (stops e) (IsStopped e.acts × TellsStop e.event e.reply) (Unit {0}) → IsIn (act.Sent to m) e.acts → stops e ≡ false
says_so e to m law i = go (stops e) refl law
  where
    go : (b : Bool) → stops e ≡ b → Where b (IsStopped e.acts × TellsStop e.event e.reply) (Unit {0}) → stops e ≡ false
    go true is h = absurd (stopped_says e.acts to m h.0 i)
    go false is h = is

-- ---- words that do not ask

module _ (P : Message → Type 0) (p_ask : (t : TransId) (j : JoinNo) → P (msg.Ask t j)) (p_ready : (t : TransId) (j : JoinNo) (ts : ℕ) → P (msg.Ready t j ts)) (p_no : (t : TransId) (j : JoinNo) (w : Why) → P (msg.No t j w))
    (p_commit : (t : TransId) (j : JoinNo) (x : Stamp) → P (msg.Commit t j x)) (p_abort : (t : TransId) (j : JoinNo) (c : Cause) → P (msg.Abort t j c)) (p_done : (t : TransId) (j : JoinNo) → P (msg.Done t j))
    (p_inquire : (t : TransId) (j : JoinNo) → P (msg.Inquire t j)) where
  abbrev AllP : List Mail → Type 0
  AllP ms = AllByRecursion (λ (a : Mail). P a.1) ms

  each_p : (f : JoinNo → Message) → ((j : JoinNo) → P (f j)) → (js : List JoinNo) → AllP (to_each f js)
  each_p f h [] = tt
  each_p f h (j ∷ js) = (h j, each_p f h js)

  cond_p : (b : Bool) (ms ns : List Mail) → AllP ms → AllP ns → AllP (cond b ms ns)
  cond_p true ms ns h k = h
  cond_p false ms ns h k = k

  finish_p : (t : TransId) (commit : Bool) (client : ℕ) (idle : Bool) (f : Fate) → AllP (on_finish t commit client idle f)
  finish_p t true client idle (Running c js) = cond_p (c == client && idle) (to_each (msg.Ask t) js) [] (each_p (msg.Ask t) (p_ask t) js) tt
  finish_p t false client idle (Running c js) = cond_p (c == client) _ [] (each_p _ (λ j. p_abort t j _) js) tt
  finish_p t true client idle Undrawn = tt
  finish_p t true client idle (Finishing c js vs) = tt
  finish_p t true client idle (Committed x js ds) = tt
  finish_p t true client idle (Forgotten x js) = tt
  finish_p t true client idle (Ended c) = tt
  finish_p t false client idle Undrawn = tt
  finish_p t false client idle (Finishing c js vs) = tt
  finish_p t false client idle (Committed x js ds) = tt
  finish_p t false client idle (Forgotten x js) = tt
  finish_p t false client idle (Ended c) = tt

  vote_p : (s : State) (t : TransId) (j : JoinNo) (client : ℕ) (w : Option Why) → P (vote_on s t j client w)
  vote_p s t j client None = p_ready t j _
  vote_p s t j client (Some w) = p_no t j w

  unknown_p : (s : State) (t : TransId) (j : JoinNo) → AllP (unknown_join s t j)
  unknown_p s t j = cond_p (is_join_drawn s j) _ [] (p_no t j _, tt) tt

  ask_p : (failed : Bool) (s : State) (t : TransId) (j : JoinNo) (p : Phase) → AllP (on_ask failed s t j p)
  ask_p failed s t j (Ready u client ts) = cond_p (same_trans u t) _ _ (p_ready t j ts, tt) (unknown_p s t j)
  ask_p failed s t j (Active u client who) = cond_p (same_trans u t) _ _ (vote_p s t j client (why_not failed s client t), tt) (unknown_p s t j)
  ask_p failed s t j (Joining u client who) = cond_p (same_trans u t) _ _ (p_no t j _, tt) (unknown_p s t j)
  ask_p failed s t j Unseen = unknown_p s t j
  ask_p failed s t j (Applied u x) = unknown_p s t j
  ask_p failed s t j Over = unknown_p s t j

  votes_p : (t : TransId) (f : Fate) → AllP (on_votes t f)
  votes_p t (Committed x js ds) = each_p _ (λ j. p_commit t j x) js
  votes_p t Undrawn = tt
  votes_p t (Running c js) = tt
  votes_p t (Finishing c js vs) = tt
  votes_p t (Forgotten x js) = tt
  votes_p t (Ended c) = tt

  own_p : (s m : State) (t : TransId) (js : List JoinNo) (w : Option Why) → AllP (own_vote s m t js w)
  own_p s m t js None = votes_p t (m.fates t)
  own_p s m t js (Some w) = each_p _ (λ k. p_abort t k _) js

  ready_p : (s m : State) (t : TransId) (j : JoinNo) (ts : ℕ) (w : Option Why) (f : Fate) → AllP (on_ready s m t j ts w f)
  ready_p s m t j ts w (Finishing client js vs) = cond_p (has_all_votes j ts js vs) _ [] (own_p s m t js w) tt
  ready_p s m t j ts w Undrawn = tt
  ready_p s m t j ts w (Running c js) = tt
  ready_p s m t j ts w (Committed x js ds) = tt
  ready_p s m t j ts w (Forgotten x js) = tt
  ready_p s m t j ts w (Ended c) = tt

  no_p : (t : TransId) (j : JoinNo) (w : Why) (f : Fate) → AllP (on_no t j w f)
  no_p t j w (Finishing client js vs) = cond_p (has_join j js) _ [] (each_p _ (λ k. p_abort t k _) js) tt
  no_p t j w Undrawn = tt
  no_p t j w (Running c js) = tt
  no_p t j w (Committed x js ds) = tt
  no_p t j w (Forgotten x js) = tt
  no_p t j w (Ended c) = tt

  commit_p : (s m : State) (t : TransId) (j : JoinNo) → AllP (on_commit s m t j)
  commit_p s m t j = cond_p (is_join_drawn s j && is_none (live_in (m.phases j))) _ [] (p_done t j, tt) tt

  to_p : (t : TransId) (j : JoinNo) (x : Stamp) (js : List JoinNo) → AllP (commit_to t j x js)
  to_p t j x js = cond_p (has_join j js) _ [] (p_commit t j x, tt) tt

  inquire_p : (s : State) (t : TransId) (j : JoinNo) (f : Fate) → AllP (on_inquire s t j f)
  inquire_p s t j (Running client js) = tt
  inquire_p s t j (Finishing client js vs) = tt
  inquire_p s t j (Committed x [] ds) = cond_p (t.epoch == s.ids.epoch) [] _ tt (p_abort t j _, tt)
  inquire_p s t j (Committed x (k ∷ js) ds) = to_p t j x (k ∷ js)
  inquire_p s t j (Forgotten x js) = cond_p (t.epoch == s.ids.epoch) _ _ (to_p t j x js) (p_abort t j _, tt)
  inquire_p s t j (Ended c) = (p_abort t j _, tt)
  inquire_p s t j Undrawn = (p_abort t j _, tt)

  timeout_p : (t : TransId) (f : Fate) → AllP (on_timeout t f)
  timeout_p t (Running client js) = each_p _ (λ j. p_abort t j _) js
  timeout_p t (Finishing client js vs) = each_p _ (λ j. p_abort t j _) js
  timeout_p t Undrawn = tt
  timeout_p t (Committed x js ds) = tt
  timeout_p t (Forgotten x js) = tt
  timeout_p t (Ended c) = tt

  again_p : (j : JoinNo) (p : Phase) → AllP (inquire_again j p)
  again_p j (Ready t client ts) = (p_inquire t j, tt)
  again_p j Unseen = tt
  again_p j (Joining t c w) = tt
  again_p j (Active t c w) = tt
  again_p j (Applied t x) = tt
  again_p j Over = tt

  ask_again_p : (t : TransId) (f : Fate) → AllP (ask_again t f)
  ask_again_p t (Finishing client js vs) = each_p (msg.Ask t) (p_ask t) (filter (λ j. not (voted j vs)) js)
  ask_again_p t Undrawn = tt
  ask_again_p t (Running c js) = tt
  ask_again_p t (Committed x js ds) = tt
  ask_again_p t (Forgotten x js) = tt
  ask_again_p t (Ended c) = tt

  commit_again_p : (t : TransId) (f : Fate) → AllP (commit_again t f)
  commit_again_p t (Committed x js ds) = each_p _ (λ j. p_commit t j x) (filter (λ j. not (has_join j ds)) js)
  commit_again_p t Undrawn = tt
  commit_again_p t (Running c js) = tt
  commit_again_p t (Finishing c js vs) = tt
  commit_again_p t (Forgotten x js) = tt
  commit_again_p t (Ended c) = tt

  -- behind the registers of a tick
  tick_p : (s : State) → ((j : JoinNo) → AllP (register_again j (s.phases j))) → AllP (on_tick s)
  tick_p s h =
      all-append (λ (a : Mail). P a.1) (flat_map (λ j. register_again j (s.phases j)) s.joined ++ flat_map (λ t. ask_again t (s.fates t)) s.begun ++ flat_map (λ t. commit_again t (s.fates t)) s.begun) (flat_map (λ j. inquire_again j (s.phases j)) s.joined)
      (all-append (λ (a : Mail). P a.1) (flat_map (λ j. register_again j (s.phases j)) s.joined ++ flat_map (λ t. ask_again t (s.fates t)) s.begun) (flat_map (λ t. commit_again t (s.fates t)) s.begun)
      (all-append (λ (a : Mail). P a.1) (flat_map (λ j. register_again j (s.phases j)) s.joined) (flat_map (λ t. ask_again t (s.fates t)) s.begun)
      (all-flat (λ (a : Mail). P a.1) (λ j. register_again j (s.phases j)) s.joined h)
      (all-flat (λ (a : Mail). P a.1) (λ t. ask_again t (s.fates t)) s.begun (λ t. ask_again_p t (s.fates t))))
      (all-flat (λ (a : Mail). P a.1) (λ t. commit_again t (s.fates t)) s.begun (λ t. commit_again_p t (s.fates t))))
      (all-flat (λ (a : Mail). P a.1) (λ j. inquire_again j (s.phases j)) s.joined (λ j. again_p j (s.phases j)))

  -- of all messages but those that ask to be registered
  message_p : (failed : Bool) (s m : State) (x : Message) → ((t : TransId) (j : JoinNo) (client : ℕ) → x ≡ msg.Register t j client → AllP (on_register s t j client)) → AllP (on_message failed s m x)
  message_p failed s m (msg.Register t j client) h = h t j client refl
  message_p failed s m (msg.Ask t j) h = ask_p failed s t j (s.phases j)
  message_p failed s m (msg.Ready t j ts) h = ready_p s m t j ts (why_not_own failed s t) (s.fates t)
  message_p failed s m (msg.No t j w) h = no_p t j w (s.fates t)
  message_p failed s m (msg.Commit t j stamp) h = commit_p s m t j
  message_p failed s m (msg.Inquire t j) h = cond_p (is_trans_drawn s t) _ [] (inquire_p s t j (s.fates t)) tt
  message_p failed s m (msg.Joined t j) h = tt
  message_p failed s m (msg.JoinRefused t j) h = tt
  message_p failed s m (msg.Abort t j c) h = tt
  message_p failed s m (msg.Done t j) h = tt

-- ---- who is let in

-- it is no word that lets this join in for this transaction, unless that was drawn here
abbrev LetsDrawn : State → Message → Type 0
LetsDrawn s (msg.Joined t j) = is_trans_drawn s t ≡ true
LetsDrawn s m = Unit {0}

register_lets : (s : State) (t : TransId) (j : JoinNo) (client : ℕ) → AllByRecursion (λ (a : Mail). LetsDrawn s a.1) (on_register s t j client)
register_lets s t j client = go (is_trans_drawn s t) refl
  where
    two : (b : Bool) → is_trans_drawn s t ≡ true → AllByRecursion (λ (a : Mail). LetsDrawn s a.1) (cond b ((j.server, msg.Joined t j) ∷ []) ((j.server, msg.JoinRefused t j) ∷ []))
    two true drawn = (drawn, tt)
    two false drawn = (tt, tt)

    go : (b : Bool) → is_trans_drawn s t ≡ b → AllByRecursion (λ (a : Mail). LetsDrawn s a.1) (cond {A = List Mail} (not b) [] (cond (may_join s j client (s.fates t)) ((j.server, msg.Joined t j) ∷ []) ((j.server, msg.JoinRefused t j) ∷ [])))
    go true drawn = two (may_join s j client (s.fates t)) drawn
    go false drawn = tt

asks_lets : (s : State) (ds : List Deed) → AllByRecursion (λ (a : Mail). LetsDrawn s a.1) (flat_map asks_to_join ds)
asks_lets s ds = all-flat (λ (a : Mail). LetsDrawn s a.1) asks_to_join ds one
  where
    one : (d : Deed) → AllByRecursion (λ (a : Mail). LetsDrawn s a.1) (asks_to_join d)
    one (Joins j t client who) = (tt, tt)
    one d = tt

abbrev AllLets : State → List Mail → Type 0
AllLets s ms = AllByRecursion (λ (a : Mail). LetsDrawn s a.1) ms

call_lets : (s : State) (client : ℕ) (c : Call) (r : Reply) → AllLets s (on_call s client c r)
call_lets s client (call.Join t) r = asks_lets s (call_deeds s client (call.Join t) r)
call_lets s client (call.Finish t commit) r =
    finish_p (LetsDrawn s) (λ t j. tt) (λ t j ts. tt) (λ t j w. tt) (λ t j x. tt) (λ t j c. tt) (λ t j. tt) (λ t j. tt) t commit client (is_none (waiting_of s.desk client t)) (s.fates t)
call_lets s client c r = tt

register_again_lets : (s : State) (j : JoinNo) (p : Phase) → AllLets s (register_again j p)
register_again_lets s j (Joining t client who) = (tt, tt)
register_again_lets s j Unseen = tt
register_again_lets s j (Active t c w) = tt
register_again_lets s j (Ready t c ts) = tt
register_again_lets s j (Applied t x) = tt
register_again_lets s j Over = tt

all_filtered : (P : Mail → Type 0) (p : Mail → Bool) (ms : List Mail) → AllByRecursion P ms → AllByRecursion P (filter p ms)
all_filtered P p [] h = tt
all_filtered P p (a ∷ ms) h = go (p a) (all_filtered P p ms h.1)
  where
    go : (b : Bool) → AllByRecursion P (filter p ms) → AllByRecursion P (cond b (a ∷ filter p ms) (filter p ms))
    go true rest = (h.0, rest)
    go false rest = rest

due_lets : (failed : Bool) (s m : State) (x : Event) (r : Option Reply) → AllLets s (due failed s m x r)
due_lets failed s m (event.Call client epoch number c) (Some r) = all-cond (λ (a : Mail). LetsDrawn s a.1) (is_new s client epoch number) (on_call s client c r) [] (call_lets s client c r) tt
due_lets failed s m (event.Call client epoch number c) None = tt
due_lets failed s m (event.Arrive from x) r =
    all_filtered (λ (a : Mail). LetsDrawn s a.1) (λ (a : Mail). is_other_server s a.0) (on_message failed s m x)
    (message_p (LetsDrawn s) (λ t j. tt) (λ t j ts. tt) (λ t j w. tt) (λ t j x. tt) (λ t j c. tt) (λ t j. tt) (λ t j. tt) failed s m x (λ t j client is. register_lets s t j client))
due_lets failed s m (event.Timeout t) r = timeout_p (LetsDrawn s) (λ t j. tt) (λ t j ts. tt) (λ t j w. tt) (λ t j x. tt) (λ t j c. tt) (λ t j. tt) (λ t j. tt) t (s.fates t)
due_lets failed s m event.Tick r =
    all_filtered (λ (a : Mail). LetsDrawn s a.1) (λ (a : Mail). is_other_server s a.0) (on_tick s)
    (tick_p (LetsDrawn s) (λ t j. tt) (λ t j ts. tt) (λ t j w. tt) (λ t j x. tt) (λ t j c. tt) (λ t j. tt) (λ t j. tt) s (λ j. register_again_lets s j (s.phases j)))
due_lets failed s m event.Force r = tt
due_lets failed s m event.Restart r = tt

-- whoever is let in, the transaction was drawn
pub joined_drawn : (failed : Bool) (s : State) (e : Entry) (to : ℕ) (t : TransId) (j : JoinNo) → stops e ≡ false → IsAnsweredEntry failed s e → IsIn (act.Sent to (msg.Joined t j)) e.acts → is_trans_drawn s t ≡ true
joined_drawn failed s e to t j goes answered i =
    all-in (λ (a : Mail). LetsDrawn s a.1) (due failed s (next s e) e.event e.reply) (to, msg.Joined t j) (due_lets failed s (next s e) e.event e.reply) (sent_due failed s e to (msg.Joined t j) goes answered.sent i)

-- ---- who asks to be registered

-- the join is drawn by one of these deeds
abbrev pub DrawsIn : JoinNo → List Deed → Type 0
DrawsIn j ds = (t : TransId) × (client : ℕ) × (who : List ℕ) × IsIn (Joins j t client who) ds

-- this server asks for the join that it draws next, by these deeds, or for one that asks already
abbrev AsksFor : State → List Deed → Message → Type 0
AsksFor s ds (msg.Register t j client) = ((j ≡ next_join s) × DrawsIn j ds) ⊎ ((u : TransId) × (c : ℕ) × (who : List ℕ) × (s.phases j ≡ Joining u c who))
AsksFor s ds m = Unit {0}

abbrev AllAsk : State → List Deed → List Mail → Type 0
AllAsk s ds ms = AllByRecursion (λ (a : Mail). AsksFor s ds a.1) ms

-- it stands so in what the call brings about
abbrev DrawsNext : State → Deed → Type 0
DrawsNext s (Joins j t client who) = j ≡ next_join s
DrawsNext s d = Unit {0}

call_draws : (s : State) (client : ℕ) (t : TransId) (r : Reply) → AllByRecursion (DrawsNext s) (call_deeds s client (call.Join t) r)
call_draws s client t r = all-cond (DrawsNext s) (is_not_yet r) (joins_here s client t) [] (all-cond (DrawsNext s) (has_part s client t) [] _ tt (refl, tt)) tt

asks_of : (s : State) (all ds : List Deed) → ((d : Deed) → IsIn d ds → IsIn d all) → AllByRecursion (DrawsNext s) ds → AllAsk s all (flat_map asks_to_join ds)
asks_of s all [] within h = tt
asks_of s all (d ∷ ds) within h = all-append (λ (a : Mail). AsksFor s all a.1) (asks_to_join d) (flat_map asks_to_join ds) (one d (within d (inl refl)) h.0) (asks_of s all ds (λ x i. within x (inr i)) h.1)
  where
    one : (d : Deed) → IsIn d all → DrawsNext s d → AllAsk s all (asks_to_join d)
    one (Joins j t client who) i is = (inl (is, (t, client, who, i)), tt)
    one d i is = tt

call_asks : (s : State) (client : ℕ) (c : Call) (r : Reply) → AllAsk s (call_deeds s client c r) (on_call s client c r)
call_asks s client (call.Join t) r = asks_of s (call_deeds s client (call.Join t) r) (call_deeds s client (call.Join t) r) (λ d i. i) (call_draws s client t r)
call_asks s client (call.Finish t commit) r =
    finish_p (AsksFor s (call_deeds s client (call.Finish t commit) r)) (λ t j. tt) (λ t j ts. tt) (λ t j w. tt) (λ t j x. tt) (λ t j c. tt) (λ t j. tt) (λ t j. tt) t commit client (is_none (waiting_of s.desk client t)) (s.fates t)
call_asks s client c r = tt

register_again_asks : (s : State) (ds : List Deed) (j : JoinNo) (p : Phase) → s.phases j ≡ p → AllAsk s ds (register_again j p)
register_again_asks s ds j (Joining t client who) is = (inr (t, client, who, is), tt)
register_again_asks s ds j Unseen is = tt
register_again_asks s ds j (Active t c w) is = tt
register_again_asks s ds j (Ready t c ts) is = tt
register_again_asks s ds j (Applied t x) is = tt
register_again_asks s ds j Over is = tt

on_register_asks : (s : State) (ds : List Deed) (t : TransId) (j : JoinNo) (client : ℕ) → AllAsk s ds (on_register s t j client)
on_register_asks s ds t j client = all-cond (λ (a : Mail). AsksFor s ds a.1) (not (is_trans_drawn s t)) [] _ tt (all-cond (λ (a : Mail). AsksFor s ds a.1) (may_join s j client (s.fates t)) _ _ (tt, tt) (tt, tt))

due_asks : (failed : Bool) (s m : State) (x : Event) (r : Option Reply) (acts : List Act) → AllAsk s (event_deeds s x r acts) (due failed s m x r)
due_asks failed s m (event.Call client epoch number c) (Some r) acts = go (is_new s client epoch number)
  where
    go : (b : Bool) → AllAsk s (cond {A = List Deed} b (call_deeds s client c r) []) (cond {A = List Mail} b (on_call s client c r) [])
    go true = call_asks s client c r
    go false = tt
due_asks failed s m (event.Call client epoch number c) None acts = tt
due_asks failed s m (event.Arrive from x) r acts =
    all_filtered (λ (a : Mail). AsksFor s (event_deeds s (event.Arrive from x) r acts) a.1) (λ (a : Mail). is_other_server s a.0) (on_message failed s m x)
    (message_p (AsksFor s (event_deeds s (event.Arrive from x) r acts)) (λ t j. tt) (λ t j ts. tt) (λ t j w. tt) (λ t j x. tt) (λ t j c. tt) (λ t j. tt) (λ t j. tt) failed s m x (λ t j client is. on_register_asks s (event_deeds s (event.Arrive from x) r acts) t j client))
due_asks failed s m (event.Timeout t) r acts = timeout_p (AsksFor s (event_deeds s (event.Timeout t) r acts)) (λ t j. tt) (λ t j ts. tt) (λ t j w. tt) (λ t j x. tt) (λ t j c. tt) (λ t j. tt) (λ t j. tt) t (s.fates t)
due_asks failed s m event.Tick r acts =
    all_filtered (λ (a : Mail). AsksFor s (event_deeds s event.Tick r acts) a.1) (λ (a : Mail). is_other_server s a.0) (on_tick s)
    (tick_p (AsksFor s (event_deeds s event.Tick r acts)) (λ t j. tt) (λ t j ts. tt) (λ t j w. tt) (λ t j x. tt) (λ t j c. tt) (λ t j. tt) (λ t j. tt) s (λ j. register_again_asks s (event_deeds s event.Tick r acts) j (s.phases j) refl))
due_asks failed s m event.Force r acts = tt
due_asks failed s m event.Restart r acts = tt

-- whoever asks to be registered is the next join, which is drawn, or asks already
pub register_asks : (failed : Bool) (s : State) (e : Entry) (to : ℕ) (t : TransId) (j : JoinNo) (client : ℕ) → stops e ≡ false → IsAnsweredEntry failed s e → IsIn (act.Sent to (msg.Register t j client)) e.acts
    → ((j ≡ next_join s) × DrawsIn j (event_deeds s e.event e.reply e.acts)) ⊎ ((u : TransId) × (c : ℕ) × (who : List ℕ) × (s.phases j ≡ Joining u c who))
register_asks failed s e to t j client goes answered i =
    all-in (λ (a : Mail). AsksFor s (event_deeds s e.event e.reply e.acts) a.1) (due failed s (next s e) e.event e.reply) (to, msg.Register t j client) (due_asks failed s (next s e) e.event e.reply e.acts)
    (sent_due failed s e to (msg.Register t j client) goes answered.sent i)

-- ---- what is drawn is counted

-- no deed of an entry that is no restart takes an id back
pub ids_more : (s : State) (x : Event) (ds : List Deed) (m : State) → AllByRecursion (IsFrom s x) ds → ((state_after state_deed m ds).ids.epoch ≡ m.ids.epoch) × (m.ids.joins ≤ (state_after state_deed m ds).ids.joins)
ids_more s x [] m of = (refl, omega arith)
ids_more s x (d ∷ ds) m of = (let rest = ids_more s x ds (state_deed m d) of.1 in let here = one d of.0 in (rest.0 ∙ here.0, omega (arith, rest.1, here.1)))
  where
    one : (d : Deed) → IsFrom s x d → ((state_deed m d).ids.epoch ≡ m.ids.epoch) × (m.ids.joins ≤ (state_deed m d).ids.joins)
    one (Restarts epoch clock) from = absurd from
    one (Joins j t client who) from = (refl, omega arith)
    one (Begins t client who seen) from = (refl, omega arith)
    one (Performs t c) from = (refl, omega arith)
    one (Enters j t client who) from = (refl, omega arith)
    one (Quits j t client c) from = (refl, omega arith)
    one (Aborts j t client c) from = (refl, omega arith)
    one (Grants t c) from = (refl, omega arith)
    one (Releases t) from = (refl, omega arith)
    one (Readies j t ts) from = (refl, omega arith)
    one (Applies j y) from = (refl, omega arith)
    one (Registers t j) from = (refl, omega arith)
    one (Finishes t) from = (refl, omega arith)
    one (Hears t j ts) from = (refl, omega arith)
    one (Decides y js) from = (refl, omega arith)
    one (Ends t client c) from = (refl, omega arith)
    one (Acknowledges t j) from = (refl, omega arith)
    one (Forgets t) from = (refl, omega arith)

pub ids_drawn : (s : State) (x : Event) (ds : List Deed) (m : State) (j : JoinNo) (t : TransId) (client : ℕ) (who : List ℕ) → AllByRecursion (IsFrom s x) ds → IsIn (Joins j t client who) ds
    → ((state_after state_deed m ds).ids.epoch ≡ m.ids.epoch) × (m.ids.joins + 1 ≤ (state_after state_deed m ds).ids.joins)
ids_drawn s x [] m j t client who of i = absurd i
ids_drawn s x (d ∷ ds) m j t client who of (inl is) =
    let rest = ids_more s x ds (state_deed m d) of.1 in
    let here : (state_deed m d).ids ≡ record m.ids { joins = m.ids.joins + 1 } = (λ p. ids_after m.ids (sym is p)) in
    let joins : (state_deed m d).ids.joins ≡ m.ids.joins + 1 = ap (λ (y : Ids). y.joins) here in
    (rest.0 ∙ ap (λ (y : Ids). y.epoch) here, omega (arith, rest.1, joins))
ids_drawn s x (d ∷ ds) m j t client who of (inr i) =
    let rest = ids_drawn s x ds (state_deed m d) j t client who of.1 i in
    let here = ids_more s x (d ∷ []) m (of.0, tt) in
    (rest.0 ∙ here.0, omega (arith, rest.1, here.1))
