-- What a message brings about where it comes, and what is said there.
use Rattle.std.specs.Prelude.{Bool, true, false, not, cond, ◌&&◌, ◌||◌, ◌==◌, filter, flat_map, map as list_map, Option, None, Some, is_none}
use Rattle.std.specs.List.{list_any, list_all, AllByRecursion}
use Rattle.std.specs.List.Sorted.{IsPermutation}
use Rattle.std.proofs.Common.{◌≡◌, ◌⊎◌, ℕ, ◌+◌, List, [], ◌∷◌, ◌++◌, refl, sym, ◌∙◌, ap, subst, inl, inr}
use Rattle.std.proofs.lemmas.List.Folds.{list_any-append}
use Rattle.std.proofs.lemmas.List.Sorted.{All-permutation, IsPermutation-sym}
use Rattle.std.proofs.lemmas.List.Elements.{All-from_recursion, recursion_from_All}
use Rattle.alp_base.specs.declared.ids.JoinNo.{JoinNo}
use Rattle.alp_base.specs.declared.ids.Stamp.{Stamp}
use Rattle.alp_base.specs.declared.ids.TransId.{TransId}
use Rattle.alp_files.specs.declared.refusal.Cause.{Cause}
use Rattle.alp_files.specs.declared.refusal.Cause.TheVariants as cause
use Rattle.alp_files.specs.declared.refusal.Why.{Why}
use Rattle.alp_files.specs.declared.refusal.Why.TheVariants as why
use Rattle.alp_journal.specs.Along.{Where, state_after}
use Rattle.alp_journal.specs.Answered.{IsAnsweredEntry, AppliesTold}
use Rattle.alp_journal.specs.Coordinator.{Fate, Vote, Undrawn, Running, Finishing, Committed, Forgotten, Ended, voted, with_vote, heard, ended, acknowledged, fate_after, is_running}
use Rattle.alp_journal.specs.Deeds.{Deed, Hears, Ends, Aborts, Acknowledges}
use Rattle.alp_journal.specs.Desk.{Desk}
use Rattle.alp_journal.specs.Ids.{same_trans, same_join, has_join}
use Rattle.alp_journal.specs.Laws.{StartsRight}
use Rattle.alp_journal.specs.Messages.{Mail, sent_by, to_others, on_message, on_ask, unknown_join, on_inquire, on_commit, on_tick, commit_to, lost_or, due, SendsDue, vote_on, why_not}
use Rattle.alp_journal.specs.Moves.{next, stops, told, halted, tried, did, event_deeds, act_deeds, done_deeds, message_deeds, hears, refuses, acknowledges, if_its, ends_for, first_sent, abort_in}
use Rattle.alp_journal.specs.Participant.{Phase, Unseen, Joining, Active, Ready, Applied, Over, aborted, phase_after, live_in, open_in}
use Rattle.alp_journal.specs.State.{State, state_deed, is_other_server, is_join_drawn, is_trans_drawn}
use Rattle.alp_journal.specs.declared.act.Act.{Act}
use Rattle.alp_journal.specs.declared.act.Act.TheVariants as act
use Rattle.alp_journal.specs.declared.entry.Entry.{Entry}
use Rattle.alp_journal.specs.declared.event.Event.{Event}
use Rattle.alp_journal.specs.declared.event.Event.TheVariants as event
use Rattle.alp_journal.specs.declared.message.Message.{Message}
use Rattle.alp_journal.specs.declared.message.Message.TheVariants as msg
use Rattle.alp_journal.proofs.IdLemmas.{same_trans-itself}
use Rattle.alp_history.specs.Log.{IsIn}
use Rattle.alp_history.proofs.Decisions.{in-filter, in-map}
use Rattle.alp_history.proofs.Linked.{in-left, in-right, same_join-self}
use Rattle.alp_history.proofs.Places.{all-in}
use Rattle.alp_course.proofs.CalmDeeds.{IsStill, HasThese, IsHeardBy, heard_still, IsDoneBy, done_still, WasDecided, IsReadyFor, live_still}
use Rattle.alp_course.proofs.CalmRange.{IsMild, IsMildEntry, tried_still, IsKept, deeds_keep}

-- ---- what is due is sent

each_in : {A : Type 0} (xs ys : List A) → ((x : A) → IsIn x xs → IsIn x ys) → AllByRecursion (λ (x : A). IsIn x ys) xs
each_in [] ys h = tt
each_in (x ∷ xs) ys h = (h x (inl refl), each_in xs ys (λ y i. h y (inr i)))

pub permuted_in : {A : Type 0} (xs ys : List A) (x : A) → IsPermutation xs ys → IsIn x xs → IsIn x ys
permuted_in {A} xs ys x p i =
    all-in (λ (y : A). IsIn y ys) xs x
    (recursion_from_All (λ (y : A). IsIn y ys) xs (All-permutation (λ (y : A). IsIn y ys) ys xs (IsPermutation-sym xs ys p) (All-from_recursion (λ (y : A). IsIn y ys) ys (each_in ys ys (λ y j. j))))) i

act_in : (a : Mail) (b : Act) → IsIn a (sent_by b) → act.Sent a.0 a.1 ≡ b
act_in a (act.Sent to m) (inl is) = (λ i. act.Sent (is i).0 (is i).1)
act_in a (act.Sent to m) (inr other) = absurd other
act_in a (act.Granted t) i = absurd i
act_in a (act.Drawn t) i = absurd i
act_in a (act.Registered t j) i = absurd i
act_in a (act.Readied t j ts) i = absurd i
act_in a (act.Decided stamp js) i = absurd i
act_in a (act.Applied j stamp) i = absurd i
act_in a (act.Released t) i = absurd i
act_in a (act.Forgot t) i = absurd i
act_in a (act.Regained epoch clock ready stamps) i = absurd i
act_in a act.Stopped i = absurd i
act_in a act.Failed i = absurd i

split_in : {A : Type 0} (x : A) (xs ys : List A) → IsIn x (xs ++ ys) → IsIn x xs ⊎ IsIn x ys
split_in x [] ys i = inr i
split_in x (y ∷ xs) ys (inl is) = inl (inl is)
split_in x (y ∷ xs) ys (inr i) = elim (split_in x xs ys i) [ inl j ↦ inl (inr j) | inr j ↦ inr j ]

acts_in : (a : Mail) (acts : List Act) → IsIn a (flat_map sent_by acts) → IsIn (act.Sent a.0 a.1) acts
acts_in a [] i = absurd i
acts_in a (b ∷ acts) i = elim (split_in a (sent_by b) (flat_map sent_by acts) i) [ inl j ↦ inl (act_in a b j) | inr j ↦ inr (acts_in a acts j) ]

-- of an entry that nothing stopped
pub due_sent : (failed : Bool) (s : State) (e : Entry) (a : Mail) → stops e ≡ false → SendsDue failed s e → IsIn a (due failed s (next s e) e.event e.reply) → IsIn (act.Sent a.0 a.1) e.acts
due_sent failed s e a goes sends i =
    acts_in a e.acts
    (permuted_in (due failed s (next s e) e.event e.reply) (flat_map sent_by e.acts) a
    (subst (λ (b : Bool). Where b (Unit {0}) (IsPermutation (due failed s (next s e) e.event e.reply) (flat_map sent_by e.acts))) goes sends) i)

pub flat_in : {A B : Type 0} (f : A → List B) (x : A) (y : B) (xs : List A) → IsIn x xs → IsIn y (f x) → IsIn y (flat_map f xs)
flat_in f x y [] i k = absurd i
flat_in f x y (z ∷ xs) (inl is) k = in-left y (f z) (flat_map f xs) (subst (λ w. IsIn y (f w)) is k)
flat_in f x y (z ∷ xs) (inr i) k = in-right y (f z) (flat_map f xs) (flat_in f x y xs i k)

-- ---- an ask

-- a vote on the transaction by this join
pub data IsVote (t : TransId) (j : JoinNo) : Message → Type 0 where
  for_it : (ts : ℕ) → IsVote t j (msg.Ready t j ts)
  against : (w : Why) → IsVote t j (msg.No t j w)

-- such a message goes to that server
pub record Says (P : Message → Type 0) (to : ℕ) (ms : List Mail) : Type 0 where
  pub message : Message
  pub right : P message
  pub said : IsIn (to, message) ms

unknown_says : (s : State) (t : TransId) (j : JoinNo) → is_join_drawn s j ≡ true → Says (IsVote t j) t.server (unknown_join s t j)
unknown_says s t j drawn =
    subst (λ (b : Bool). Says (IsVote t j) t.server (cond b ((t.server, msg.No t j why.UnknownJoin) ∷ []) [])) (sym drawn) (record { message = msg.No t j why.UnknownJoin; right = against why.UnknownJoin; said = inl refl })

ask_says : (failed : Bool) (s : State) (t : TransId) (j : JoinNo) (p : Phase) → open_in p ≡ None → is_join_drawn s j ≡ true → Says (IsVote t j) t.server (on_ask failed s t j p)
ask_says failed s t j Unseen none drawn = unknown_says s t j drawn
ask_says failed s t j (Joining u client who) none drawn = absurd (let wrong : Some (u, client) ≡ None = none in cc)
ask_says failed s t j (Active u client who) none drawn = absurd (let wrong : Some (u, client) ≡ None = none in cc)
ask_says failed s t j (Applied u x) none drawn = unknown_says s t j drawn
ask_says failed s t j Over none drawn = unknown_says s t j drawn
ask_says failed s t j (Ready u client ts) none drawn = go (same_trans u t)
  where
    go : (b : Bool) → Says (IsVote t j) t.server (cond b ((t.server, msg.Ready t j ts) ∷ []) (unknown_join s t j))
    go true = record { message = msg.Ready t j ts; right = for_it ts; said = inl refl }
    go false = unknown_says s t j drawn

-- what is said in answer to a message is sent, where it goes to another server
pub answer_sent : (P : Message → Type 0) (failed : Bool) (s : State) (e : Entry) (from : ℕ) (m : Message) (to : ℕ) → e.event ≡ event.Arrive from m → stops e ≡ false → IsAnsweredEntry failed s e → is_other_server s to ≡ true → Says P to (on_message failed s (next s e) m)
    → (x : Message) × P x × IsIn (act.Sent to x) e.acts
answer_sent P failed s e from m to is goes answered other says = (
  says.message,
  says.right,
  due_sent failed s e (to, says.message) goes answered.sent
      (subst (λ (v : Event). IsIn (to, says.message) (due failed s (next s e) v e.reply)) (sym is) (in-filter (λ (a : Mail). is_other_server s a.0) (to, says.message) (on_message failed s (next s e) m) says.said other)),
)

pub ask_answered : (failed : Bool) (s : State) (e : Entry) (from : ℕ) (t : TransId) (j : JoinNo) → e.event ≡ event.Arrive from (msg.Ask t j) → stops e ≡ false → IsAnsweredEntry failed s e → open_in (s.phases j) ≡ None → is_join_drawn s j ≡ true
    → is_other_server s t.server ≡ true → (x : Message) × IsVote t j x × IsIn (act.Sent t.server x) e.acts
ask_answered failed s e from t j is goes answered none drawn other = answer_sent (IsVote t j) failed s e from (msg.Ask t j) t.server is goes answered other (ask_says failed s t j (s.phases j) none drawn)

-- and so is what is said again at a tick
pub tick_sent : (failed : Bool) (s : State) (e : Entry) (a : Mail) → e.event ≡ event.Tick → stops e ≡ false → IsAnsweredEntry failed s e → is_other_server s a.0 ≡ true → IsIn a (on_tick s) → IsIn (act.Sent a.0 a.1) e.acts
tick_sent failed s e a is goes answered other i =
    due_sent failed s e a goes answered.sent (subst (λ (v : Event). IsIn a (due failed s (next s e) v e.reply)) (sym is) (in-filter (λ (b : Mail). is_other_server s b.0) a (on_tick s) i other))

-- ---- a vote

pub heard_kept : (t : TransId) (j : JoinNo) → IsKept (λ s. IsHeardBy j (s.fates t))
heard_kept t j = record { keep = λ s d still h. heard_still j d t (s.fates t) still h; still = λ s desk down pending h. h }

voted_now : (j : JoinNo) (ts : ℕ) (vs : List Vote) → voted j (with_vote j ts vs) ≡ true
voted_now j ts vs = go (voted j vs) refl
  where
    one : (b : Bool) → (b || (same_join j j || false)) ≡ true
    one true = refl
    one false = ap (λ (b : Bool). b || false) (same_join-self j)

    go : (b : Bool) → voted j vs ≡ b → voted j (cond b vs (vs ++ (j, ts) ∷ [])) ≡ true
    go true is = is
    go false is = list_any-append (λ (v : Vote). same_join v.0 j) vs ((j, ts) ∷ []) ∙ one (voted j vs)

-- of an entry that nothing stopped, what its deeds leave is left
module _ (s : State) (e : Entry) (mild : IsMildEntry e) (Q : State → Type 0) (still : (m : State) (desk : Desk) (down : Bool) (pending : List Deed) → Q m → Q (record m { desk = desk; is_down = down; pending = pending })) where
  pub left_by : Q (did s e) → Q (next s e)
  left_by h = go (stops e) mild.goes
    where
      go : (b : Bool) → b ≡ false → Q (cond b (halted s e) (told s e))
      go true wrong = absurd (let no : true ≡ false = wrong in cc)
      go false is = still (did s e) (told s e).desk false [] h

module _ (s : State) (t : TransId) (j : JoinNo) (js : List JoinNo) (its : has_join j js ≡ true) (acts : List Act) (back last : List Deed) where
  abbrev Heard : List Deed → Type 0
  Heard ds = AllByRecursion IsStill ds → IsHeardBy j ((state_after state_deed s ds).fates t)

  without : (ds : List Deed) → IsHeardBy j (s.fates t) → Heard ds
  without ds h all = deeds_keep (λ m. IsHeardBy j (m.fates t)) (heard_kept t j) ds s all h

  ready_heard : (ts : ℕ) (f : Fate) → s.fates t ≡ f → HasThese js f → Heard ((hears s acts t j ts f ++ back) ++ last)
  ready_heard ts Undrawn is h = without (back ++ last) (subst (IsHeardBy j) (sym is) tt)
  ready_heard ts (Running client ks) is h = absurd h
  ready_heard ts (Committed x ks ds) is h = without (back ++ last) (subst (IsHeardBy j) (sym is) tt)
  ready_heard ts (Forgotten x ks) is h = without (back ++ last) (subst (IsHeardBy j) (sym is) tt)
  ready_heard ts (Ended c) is h = without (back ++ last) (subst (IsHeardBy j) (sym is) tt)
  ready_heard ts (Finishing client ks vs) is h =
      subst (λ (b : Bool). Heard ((cond b (Hears t j ts ∷ ends_for t client (first_sent (abort_in t) acts)) [] ++ back) ++ last)) (sym (ap (has_join j) h ∙ its))
      (λ all. deeds_keep (λ m. IsHeardBy j (m.fates t)) (heard_kept t j) ((ends_for t client (first_sent (abort_in t) acts) ++ back) ++ last) (state_deed s (Hears t j ts)) all.1
      (subst (λ (b : Bool). IsHeardBy j (cond b (heard j ts (s.fates t)) (s.fates t))) (sym (same_trans-itself t)) (subst (λ (f : Fate). IsHeardBy j (heard j ts f)) (sym is) (voted_now j ts vs))))

  no_heard : (c : Cause) (f : Fate) → s.fates t ≡ f → HasThese js f → Heard ((refuses t j c f ++ back) ++ last)
  no_heard c Undrawn is h = without (back ++ last) (subst (IsHeardBy j) (sym is) tt)
  no_heard c (Running client ks) is h = absurd h
  no_heard c (Committed x ks ds) is h = without (back ++ last) (subst (IsHeardBy j) (sym is) tt)
  no_heard c (Forgotten x ks) is h = without (back ++ last) (subst (IsHeardBy j) (sym is) tt)
  no_heard c (Ended d) is h = without (back ++ last) (subst (IsHeardBy j) (sym is) tt)
  no_heard c (Finishing client ks vs) is h =
      subst (λ (b : Bool). Heard ((cond b (Ends t client c ∷ []) [] ++ back) ++ last)) (sym (ap (has_join j) h ∙ its))
      (λ all. deeds_keep (λ m. IsHeardBy j (m.fates t)) (heard_kept t j) (back ++ last) (state_deed s (Ends t client c)) all.1
      (subst (λ (b : Bool). IsHeardBy j (cond b (ended c (s.fates t)) (s.fates t))) (sym (same_trans-itself t)) (subst (λ (f : Fate). IsHeardBy j (ended c f)) (sym is) tt)))

  vote_heard : (x : Message) → IsVote t j x → HasThese js (s.fates t) → Heard ((message_deeds s acts x ++ back) ++ last)
  vote_heard x (for_it ts) h = ready_heard ts (s.fates t) refl h
  vote_heard x (against w) h = no_heard (cause.Voted j.server w) (s.fates t) refl h

-- behind a vote of a join of its transaction that one is heard
pub vote_came : (s : State) (e : Entry) (from : ℕ) (t : TransId) (j : JoinNo) (js : List JoinNo) (x : Message) → e.event ≡ event.Arrive from x → IsVote t j x → IsMildEntry e → StartsRight s e e.event → HasThese js (s.fates t) → has_join j js ≡ true
    → IsHeardBy j ((next s e).fates t)
vote_came s e from t j js x is vote mild starts these its =
    left_by s e mild (λ m. IsHeardBy j (m.fates t)) (λ m desk down pending h. h)
    (subst (λ (v : Event). Heard s t j js its e.acts [] [] ((event_deeds s v e.reply e.acts ++ flat_map (act_deeds s e.event) e.acts) ++ done_deeds s e.event e.reply)) (sym is)
    (vote_heard s t j js its e.acts (flat_map (act_deeds s e.event) e.acts) (done_deeds s e.event e.reply) x vote these)
    (tried_still s e mild.mild starts))

-- ---- an inquiry

-- the end of the transaction, for this join: at its own stamp, or in abort
pub data IsEnd (t : TransId) (j : JoinNo) : Message → Type 0 where
  applies : (x : Stamp) → x.trans ≡ t → IsEnd t j (msg.Commit t j x)
  aborts : (c : Cause) → IsEnd t j (msg.Abort t j c)

-- its decision has the join, and its stamp is the transaction's
abbrev pub HasIt : TransId → JoinNo → Fate → Type 0
HasIt t j (Committed x js ds) = (has_join j js ≡ true) × (x.trans ≡ t)
HasIt t j (Forgotten x js) = (has_join j js ≡ true) × (x.trans ≡ t)
HasIt t j f = Unit {0}

commit_says : (t : TransId) (j : JoinNo) (x : Stamp) (js : List JoinNo) → has_join j js ≡ true → x.trans ≡ t → Says (IsEnd t j) j.server (commit_to t j x js)
commit_says t j x js its is = subst (λ (b : Bool). Says (IsEnd t j) j.server (cond b ((j.server, msg.Commit t j x) ∷ []) [])) (sym its) (record { message = msg.Commit t j x; right = applies x is; said = inl refl })

abort_says : (t : TransId) (j : JoinNo) (c : Cause) → Says (IsEnd t j) j.server ((j.server, msg.Abort t j c) ∷ [])
abort_says t j c = record { message = msg.Abort t j c; right = aborts c; said = inl refl }

inquiry_says : (s : State) (t : TransId) (j : JoinNo) (f : Fate) → is_running f ≡ false → HasIt t j f → Says (IsEnd t j) j.server (on_inquire s t j f)
inquiry_says s t j Undrawn over h = abort_says t j (cause.Lost s.ids.epoch)
inquiry_says s t j (Running client js) over h = absurd (let wrong : true ≡ false = over in cc)
inquiry_says s t j (Finishing client js vs) over h = absurd (let wrong : true ≡ false = over in cc)
inquiry_says s t j (Committed x [] ds) over h = absurd (let wrong : false ≡ true = h.0 in cc)
inquiry_says s t j (Committed x (k ∷ js) ds) over h = commit_says t j x (k ∷ js) h.0 h.1
inquiry_says s t j (Forgotten x js) over h = go (t.epoch == s.ids.epoch)
  where
    go : (b : Bool) → Says (IsEnd t j) j.server (cond b (commit_to t j x js) ((j.server, msg.Abort t j (cause.Lost s.ids.epoch)) ∷ []))
    go true = commit_says t j x js h.0 h.1
    go false = abort_says t j (cause.Lost s.ids.epoch)
inquiry_says s t j (Ended c) over h = abort_says t j (lost_or s t c)

pub inquiry_answered : (failed : Bool) (s : State) (e : Entry) (from : ℕ) (t : TransId) (j : JoinNo) → e.event ≡ event.Arrive from (msg.Inquire t j) → stops e ≡ false → IsAnsweredEntry failed s e → is_trans_drawn s t ≡ true → is_running (s.fates t) ≡ false → HasIt t j (s.fates t)
    → is_other_server s j.server ≡ true → (x : Message) × IsEnd t j x × IsIn (act.Sent j.server x) e.acts
inquiry_answered failed s e from t j is goes answered drawn over has other =
    answer_sent (IsEnd t j) failed s e from (msg.Inquire t j) j.server is goes answered other
    (subst (λ (b : Bool). Says (IsEnd t j) j.server (cond b (on_inquire s t j (s.fates t)) [])) (sym drawn) (inquiry_says s t j (s.fates t) over has))

-- ---- the end of a join

module _ (s : State) (t : TransId) (j : JoinNo) (back last : List Deed) where
  abbrev Gone : List Deed → Type 0
  Gone ds = AllByRecursion IsStill ds → live_in ((state_after state_deed s ds).phases j) ≡ None

  gone_kept : IsKept (λ m. live_in (m.phases j) ≡ None)
  gone_kept = record { keep = λ m d still h. live_still d j (m.phases j) still h; still = λ m desk down pending h. h }

  was_gone : (ds : List Deed) → live_in (s.phases j) ≡ None → Gone ds
  was_gone ds h all = deeds_keep (λ m. live_in (m.phases j) ≡ None) gone_kept ds s all h

  abort_gone : (c : Cause) (p : Phase) → s.phases j ≡ p → IsReadyFor t p → Gone ((if_its t (live_in p) (λ client. Aborts j t client c ∷ []) ++ back) ++ last)
  abort_gone c Unseen is h = was_gone (back ++ last) (ap live_in is)
  abort_gone c (Joining u client who) is h = absurd h
  abort_gone c (Active u client who) is h = absurd h
  abort_gone c (Applied u x) is h = was_gone (back ++ last) (ap live_in is)
  abort_gone c Over is h = was_gone (back ++ last) (ap live_in is)
  abort_gone c (Ready u client ts) is h =
      let same : same_trans u t ≡ true = ap (λ (v : TransId). same_trans v t) h ∙ same_trans-itself t in
      subst (λ (b : Bool). Gone ((cond b (Aborts j t client c ∷ []) [] ++ back) ++ last)) (sym same)
      (λ all. deeds_keep (λ m. live_in (m.phases j) ≡ None) gone_kept (back ++ last) (state_deed s (Aborts j t client c)) all.1
      (ap (λ (b : Bool). live_in (cond b (aborted t (s.phases j)) (s.phases j))) (same_join-self j) ∙ ap (λ (p : Phase). live_in (aborted t p)) is
      ∙ ap (λ (v : TransId). live_in (cond (same_trans t v) Over (Ready v client ts))) h ∙ ap (λ (b : Bool). live_in (cond b Over (Ready t client ts))) (same_trans-itself t)))

applied_gone : (s m : State) (from : ℕ) (t : TransId) (j : JoinNo) (x : Stamp) (p : Phase) → s.phases j ≡ p → x.trans ≡ t → IsReadyFor t p → AppliesTold s m (event.Arrive from (msg.Commit t j x)) → (live_in p ≡ None → live_in (m.phases j) ≡ None) → live_in (m.phases j) ≡ None
applied_gone s m from t j x Unseen is its h told stays = stays refl
applied_gone s m from t j x (Joining u client who) is its h told stays = absurd h
applied_gone s m from t j x (Active u client who) is its h told stays = absurd h
applied_gone s m from t j x (Applied u y) is its h told stays = stays refl
applied_gone s m from t j x Over is its h told stays = stays refl
applied_gone s m from t j x (Ready u client ts) is its h told stays = ap live_in (told client ts its (is ∙ ap (λ (v : TransId). Ready v client ts) h))

-- behind the end of its transaction the join is not live
pub end_came : (failed : Bool) (s : State) (e : Entry) (from : ℕ) (t : TransId) (j : JoinNo) (x : Message) → e.event ≡ event.Arrive from x → IsEnd t j x → IsMildEntry e → IsAnsweredEntry failed s e → StartsRight s e e.event → IsReadyFor t (s.phases j) → live_in ((next s e).phases j) ≡ None
end_came failed s e from t j x is (applies y its) mild answered starts for =
    applied_gone s (next s e) from t j y (s.phases j) refl its for
    (subst (λ (v : Event). AppliesTold s (next s e) v) is (subst (λ (b : Bool). Where b (Unit {0}) (AppliesTold s (next s e) e.event)) mild.goes answered.applied))
    (λ none. left_by s e mild (λ m. live_in (m.phases j) ≡ None) (λ m desk down pending h. h) (was_gone s t j [] [] (tried s e) none (tried_still s e mild.mild starts)))
end_came failed s e from t j x is (aborts c) mild answered starts for =
    left_by s e mild (λ m. live_in (m.phases j) ≡ None) (λ m desk down pending h. h)
    (subst (λ (v : Event). Gone s t j [] [] ((event_deeds s v e.reply e.acts ++ flat_map (act_deeds s e.event) e.acts) ++ done_deeds s e.event e.reply)) (sym is)
    (abort_gone s t j (flat_map (act_deeds s e.event) e.acts) (done_deeds s e.event e.reply) c (s.phases j) refl for)
    (tried_still s e mild.mild starts))

-- ---- a commit that is done

pub data IsDoneWord (t : TransId) (j : JoinNo) : Message → Type 0 where
  done_it : IsDoneWord t j (msg.Done t j)

-- who has no live part says that it is done
pub commit_answered : (failed : Bool) (s : State) (e : Entry) (from : ℕ) (t : TransId) (j : JoinNo) (x : Stamp) → e.event ≡ event.Arrive from (msg.Commit t j x) → stops e ≡ false → IsAnsweredEntry failed s e → is_join_drawn s j ≡ true → live_in ((next s e).phases j) ≡ None
    → is_other_server s t.server ≡ true → (y : Message) × IsDoneWord t j y × IsIn (act.Sent t.server y) e.acts
commit_answered failed s e from t j x is goes answered drawn none other =
    answer_sent (IsDoneWord t j) failed s e from (msg.Commit t j x) t.server is goes answered other
    (subst (λ (b : Bool). Says (IsDoneWord t j) t.server (cond b ((t.server, msg.Done t j) ∷ []) [])) (sym ((λ i. drawn i && is_none (none i))))
    (record { message = msg.Done t j; right = done_it; said = inl refl }))

pub done_kept : (t : TransId) (j : JoinNo) → IsKept (λ s. IsDoneBy j (s.fates t))
done_kept t j = record { keep = λ s d still h. done_still j d t (s.fates t) still h; still = λ s desk down pending h. h }

-- its decision has these joins, and nothing runs
abbrev pub HasThose : List JoinNo → Fate → Type 0
HasThose ks (Running client js) = ⊥
HasThose ks (Finishing client js vs) = ⊥
HasThose ks (Committed x js ds) = js ≡ ks
HasThose ks f = Unit {0}

module _ (s : State) (t : TransId) (j : JoinNo) (js : List JoinNo) (its : has_join j js ≡ true) (back last : List Deed) where
  abbrev DoneIn : List Deed → Type 0
  DoneIn ds = AllByRecursion IsStill ds → IsDoneBy j ((state_after state_deed s ds).fates t)

  was_done : (ds : List Deed) → IsDoneBy j (s.fates t) → DoneIn ds
  was_done ds h all = deeds_keep (λ m. IsDoneBy j (m.fates t)) (done_kept t j) ds s all h

  done_now : (f : Fate) → s.fates t ≡ f → HasThose js f → DoneIn ((acknowledges t j f ++ back) ++ last)
  done_now Undrawn is h = was_done (back ++ last) (subst (IsDoneBy j) (sym is) tt)
  done_now (Running client ks) is h = absurd h
  done_now (Finishing client ks vs) is h = absurd h
  done_now (Forgotten x ks) is h = was_done (back ++ last) (subst (IsDoneBy j) (sym is) tt)
  done_now (Ended d) is h = was_done (back ++ last) (subst (IsDoneBy j) (sym is) tt)
  done_now (Committed x ks ds) is h =
      subst (λ (b : Bool). DoneIn ((cond b (Acknowledges t j ∷ []) [] ++ back) ++ last)) (sym (ap (has_join j) h ∙ its))
      (λ all. deeds_keep (λ m. IsDoneBy j (m.fates t)) (done_kept t j) (back ++ last) (state_deed s (Acknowledges t j)) all.1
      (subst (λ (b : Bool). IsDoneBy j (cond b (acknowledged j (s.fates t)) (s.fates t))) (sym (same_trans-itself t))
      (subst (λ (f : Fate). IsDoneBy j (acknowledged j f)) (sym is) (ap (λ (b : Bool). b || has_join j ds) (same_join-self j)))))

pub done_came : (s : State) (e : Entry) (from : ℕ) (t : TransId) (j : JoinNo) (js : List JoinNo) (x : Message) → e.event ≡ event.Arrive from x → IsDoneWord t j x → IsMildEntry e → StartsRight s e e.event → HasThose js (s.fates t) → has_join j js ≡ true
    → IsDoneBy j ((next s e).fates t)
done_came s e from t j js x is done_it mild starts those its =
    left_by s e mild (λ m. IsDoneBy j (m.fates t)) (λ m desk down pending h. h)
    (subst (λ (v : Event). DoneIn s t j js its [] [] ((event_deeds s v e.reply e.acts ++ flat_map (act_deeds s e.event) e.acts) ++ done_deeds s e.event e.reply)) (sym is)
    (done_now s t j js its (flat_map (act_deeds s e.event) e.acts) (done_deeds s e.event e.reply) (s.fates t) refl those)
    (tried_still s e mild.mild starts))
