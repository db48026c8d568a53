-- a transaction that its Finish ends goes, and leaves all else as before
use Rattle.std.specs.Prelude.{Bool, true, false, cond, ◌&&◌, ◌||◌, ◌==◌, Option, None, Some, is_some, is_none, flat_map}
use Rattle.std.specs.List.{list_any, AllByRecursion}
use Rattle.std.proofs.Common.{◌≡◌, ◌⊎◌, ℕ, inl, inr, List, [], ◌∷◌, ◌++◌, refl, sym, ap, subst, ◌∙◌}
use Rattle.alp_base.specs.declared.ids.TransId.{TransId}
use Rattle.alp_files.specs.declared.call.Call.{Call}
use Rattle.alp_files.specs.declared.call.Call.TheVariants as call
use Rattle.alp_files.specs.declared.reply.Reply.{Reply}
use Rattle.alp_files.specs.declared.reply.Reply.TheVariants as reply
use Rattle.alp_files.specs.declared.refusal.Refusal.{Refusal}
use Rattle.alp_files.specs.declared.refusal.Refusal.TheVariants as refusal
use Rattle.alp_files.specs.declared.refusal.Cause.{Cause}
use Rattle.alp_files.specs.declared.refusal.Cause.TheVariants as cause
use Rattle.std.proofs.lemmas.List.{append-nil}
use Rattle.alp_files.proofs.FilesLemmas.{same-some}
use Rattle.alp_journal.specs.declared.act.Act.{Act}
use Rattle.alp_journal.specs.declared.act.Act.TheVariants as act
use Rattle.alp_journal.specs.declared.entry.Entry.{Entry}
use Rattle.alp_journal.specs.declared.event.Event.{Event}
use Rattle.alp_journal.specs.declared.event.Event.TheVariants as event
use Rattle.alp_journal.specs.Along.{Along, Where, state_after}
use Rattle.alp_journal.specs.Deeds.{Deed, Begins, Enters, Aborts, Grants, Performs, Releases, Readies, Applies, Finishes, Decides, Ends, Restarts}
use Rattle.alp_journal.specs.Ids.{same_trans}
use Rattle.alp_journal.specs.Coordinator.{Fate, Running, Finishing, finishing, ended, is_running, has_votes}
use Rattle.alp_journal.specs.Holder.{Holder, Life, holder_after, with_life, grants, held_for}
use Rattle.alp_journal.specs.Desk.{Waiting, is_aborted, waiting_of}
use Rattle.alp_journal.specs.State.{State, state_deed, join_for}
use Rattle.alp_journal.specs.Moves.{is_new, finishes, event_deeds, asks_for, grants_to, act_deeds, stops, tried, did, told, halted, next}
use Rattle.alp_journal.specs.Laws.{IsLawfulDeed, IsLawfulEntry, IsStopped, TellsStop, drawn_by, released_by, regained_by, ended_by}
use Rattle.alp_journal.specs.Answers.{Part, NoPart, AtWork, AtFinish, own_part, join_part, at_part, First, IsAnswer, finish_reply}
use Rattle.alp_journal.specs.Answered.{CountsVotes, IsAnsweredEntry}
use Rattle.alp_journal.specs.Account.{IsOwnEvent}
use Rattle.alp_journal.specs.Refused.{LivesOn, IsAsBefore, IsReached}
use Rattle.alp_journal.proofs.IdLemmas.{same_trans-true, same_trans-itself, all-append}
use Rattle.alp_journal.proofs.ReachedLemmas.{reached_order}
use Rattle.alp_journal.proofs.RefusedLemmas.{IsNoEnd, IsNoVote, OwnAnswer, acts_no_end, acts_unheard, all-right, as_same, as_trans, entry_of, fate_votes, grant_still, grants_all, its, its_answer, its_done, let_go, none_drawn, none_ended, part_same, same_entry, unvoted_along}

-- beside the transaction all is as before
abbrev IsElseAsBefore : TransId → Holder → Holder → Type 0
IsElseAsBefore t h g = IsAsBefore (with_life h t None) (with_life g t None)

else_before : (t : TransId) (h g : Holder) → IsAsBefore h g → IsElseAsBefore t h g
else_before t h g is = record { holder = λ i. with_life (is.holder i) t None; lives = λ u. go u (same_trans u t) }
  where
    go : (u : TransId) (b : Bool) → LivesOn (cond {A = Option Life} b None (h.lives u)) (cond {A = Option Life} b None (g.lives u))
    go u true = refl
    go u false = is.lives u

-- a deed that moves nothing but what is granted, or lets go what this transaction held
abbrev IsStillBut : TransId → Deed → Type 0
IsStillBut t (Releases u) = u ≡ t
IsStillBut t (Begins u client who seen) = ⊥
IsStillBut t (Enters j u client who) = ⊥
IsStillBut t (Performs u d) = ⊥
IsStillBut t (Readies j u ts) = ⊥
IsStillBut t (Aborts j u client c) = ⊥
IsStillBut t (Decides x js) = ⊥
IsStillBut t (Applies j x) = ⊥
IsStillBut t (Restarts epoch clock) = ⊥
IsStillBut t d = Unit {0}

released_else : (t : TransId) (h : Holder) → IsElseAsBefore t h (with_life h t None)
released_else t h = record { holder = refl; lives = λ u. go u (same_trans u t) }
  where
    go : (u : TransId) (b : Bool) → LivesOn (cond {A = Option Life} b None (h.lives u)) (cond {A = Option Life} b None (cond {A = Option Life} b None (h.lives u)))
    go u true = refl
    go u false = part_same (h.lives u)

deed_else : (t : TransId) (h : Holder) (d : Deed) → IsStillBut t d → IsElseAsBefore t h (holder_after h d)
deed_else t h (Releases u) still = subst (λ (x : TransId). IsElseAsBefore t h (with_life h x None)) (sym still) (released_else t h)
deed_else t h (Grants u c) still = else_before t h (grants h u c (h.lives u)) (grant_still h u c (h.lives u) refl)
deed_else t h (Begins u client who seen) still = absurd still
deed_else t h (Enters j u client who) still = absurd still
deed_else t h (Performs u d) still = absurd still
deed_else t h (Readies j u ts) still = absurd still
deed_else t h (Aborts j u client c) still = absurd still
deed_else t h (Decides x js) still = absurd still
deed_else t h (Applies j x) still = absurd still
deed_else t h (Restarts epoch clock) still = absurd still
deed_else t h d still = as_same (with_life h t None)

-- what is gone is granted nothing any more
grant_gone : (t u : TransId) (h : Holder) (c : Call) (o : Option Life) → h.lives u ≡ o → h.lives t ≡ None → (grants h u c o).lives t ≡ None
grant_gone t u h c None is gone = gone
grant_gone t u h c (Some l) is gone = go (same_trans t u) refl
  where
    go : (b : Bool) → same_trans t u ≡ b → cond {A = Option Life} b (Some (record l { held = held_for h l c })) (h.lives t) ≡ None
    go true e = let wrong : None ≡ Some l = sym gone ∙ ap h.lives (same_trans-true t u e) ∙ is in cc
    go false e = gone

deed_gone : (t : TransId) (h : Holder) (d : Deed) → IsStillBut t d → h.lives t ≡ None → (holder_after h d).lives t ≡ None
deed_gone t h (Releases u) still gone = go (same_trans t u)
  where
    go : (b : Bool) → cond {A = Option Life} b None (h.lives t) ≡ None
    go true = refl
    go false = gone
deed_gone t h (Grants u c) still gone = grant_gone t u h c (h.lives u) refl gone
deed_gone t h (Begins u client who seen) still gone = absurd still
deed_gone t h (Enters j u client who) still gone = absurd still
deed_gone t h (Performs u d) still gone = absurd still
deed_gone t h (Readies j u ts) still gone = absurd still
deed_gone t h (Aborts j u client c) still gone = absurd still
deed_gone t h (Decides x js) still gone = absurd still
deed_gone t h (Applies j x) still gone = absurd still
deed_gone t h (Restarts epoch clock) still gone = absurd still
deed_gone t h d still gone = gone

-- the locks of a transaction are let go by one of these deeds
abbrev is_letting_go : Deed → Bool
is_letting_go (Releases t) = true
is_letting_go d = false

-- what the deeds leave: all else as before, and nothing of this transaction
record LeavesElse (t : TransId) (h g : Holder) : Type 0 where
  else_same : IsElseAsBefore t h g
  gone : g.lives t ≡ None

deeds_else : (t : TransId) (ds : List Deed) (s : State) → AllByRecursion (IsStillBut t) ds → (list_any is_letting_go ds ≡ true) ⊎ (s.holder.lives t ≡ None) → LeavesElse t s.holder (state_after state_deed s ds).holder
deeds_else t [] s still (inl wrong) = let no_deed : false ≡ true = wrong in cc
deeds_else t [] s still (inr gone) = record { else_same = as_same (with_life s.holder t None); gone = gone }
deeds_else t (d ∷ ds) s still way =
    let more = deeds_else t ds (state_deed s d) still.1 (go d still.0 way) in
    record { else_same = as_trans (with_life s.holder t None) (with_life (holder_after s.holder d) t None) (with_life (state_after state_deed s (d ∷ ds)).holder t None) (deed_else t s.holder d still.0) more.else_same; gone = more.gone }
  where
    let_go_now : (u : TransId) → u ≡ t → (with_life s.holder u None).lives t ≡ None
    let_go_now u is = subst (λ (x : TransId). (with_life s.holder x None).lives t ≡ None) (sym is) (ap (λ (b : Bool). cond {A = Option Life} b None (s.holder.lives t)) (same_trans-itself t))

    go : (d : Deed) → IsStillBut t d → (list_any is_letting_go (d ∷ ds) ≡ true) ⊎ (s.holder.lives t ≡ None) → (list_any is_letting_go ds ≡ true) ⊎ ((state_deed s d).holder.lives t ≡ None)
    go (Releases u) is w = inr (let_go_now u is)
    go d is (inr gone) = inr (deed_gone t s.holder d is gone)
    go d is (inl goes) = inl goes

-- as of a holder without the transaction
without_life : (t : TransId) (h g : Holder) → LeavesElse t h g → IsAsBefore (with_life h t None) g
without_life t h g l = record { holder = λ i. record (l.else_same.holder i) { lives = g.lives }; lives = λ u. go u (same_trans u t) refl (l.else_same.lives u) }
  where
    go : (u : TransId) (b : Bool) → same_trans u t ≡ b → LivesOn (cond {A = Option Life} b None (h.lives u)) (cond {A = Option Life} b None (g.lives u)) → LivesOn (cond {A = Option Life} b None (h.lives u)) (g.lives u)
    go u true e same = ap g.lives (same_trans-true u t e) ∙ l.gone
    go u false e same = same

any-right : {A : Type 0} (p : A → Bool) (xs ys : List A) → list_any p ys ≡ true → list_any p (xs ++ ys) ≡ true
any-right p [] ys h = h
any-right p (x ∷ xs) ys h = go (p x) (any-right p xs ys h)
  where
    go : (b : Bool) → list_any p (xs ++ ys) ≡ true → (b || list_any p (xs ++ ys)) ≡ true
    go true k = refl
    go false k = k

module _ (s : State) (e : Event) (t : TransId) where
  acts_else : (acts : List Act) → list_any regained_by acts ≡ false → flat_map drawn_by acts ≡ [] → AllByRecursion (λ (u : TransId). u ≡ t) (flat_map released_by acts) → AllByRecursion IsNoVote (flat_map (act_deeds s e) acts)
      → AllByRecursion (IsStillBut t) (flat_map (act_deeds s e) acts)
  acts_else [] r d l v = tt
  acts_else (act.Granted u ∷ acts) r d l v =
      let ds : List Deed = grants_to u (asks_for s e u (s.holder.lives u)) in
      all-append (IsStillBut t) ds (flat_map (act_deeds s e) acts) (grants_all s e (IsStillBut t) (λ u c. tt) u (asks_for s e u (s.holder.lives u))) (acts_else acts r d l (all-right IsNoVote ds (flat_map (act_deeds s e) acts) v))
  acts_else (act.Drawn u ∷ acts) r d l v = let wrong : (u ∷ flat_map drawn_by acts) ≡ [] = d in cc
  acts_else (act.Registered u j ∷ acts) r d l v = (tt, acts_else acts r d l v.1)
  acts_else (act.Readied u j ts ∷ acts) r d l v = absurd v.0
  acts_else (act.Decided x js ∷ acts) r d l v = absurd v.0
  acts_else (act.Applied j x ∷ acts) r d l v = absurd v.0
  acts_else (act.Released u ∷ acts) r d l v = (l.0, acts_else acts r d l.1 v.1)
  acts_else (act.Forgot u ∷ acts) r d l v = (tt, acts_else acts r d l v.1)
  acts_else (act.Regained epoch clock ready xs ∷ acts) r d l v = let wrong : true ≡ false = r in cc
  acts_else (act.Sent to m ∷ acts) r d l v = acts_else acts r d l v
  acts_else (act.Stopped ∷ acts) r d l v = acts_else acts r d l v
  acts_else (act.Failed ∷ acts) r d l v = acts_else acts r d l v

  acts_let_go : (u : TransId) (acts : List Act) → flat_map released_by acts ≡ u ∷ [] → list_any is_letting_go (flat_map (act_deeds s e) acts) ≡ true
  acts_let_go u [] h = let wrong : [] ≡ u ∷ [] = h in cc
  acts_let_go u (act.Released v ∷ acts) h = refl
  acts_let_go u (act.Granted v ∷ acts) h = any-right is_letting_go (act_deeds s e (act.Granted v)) (flat_map (act_deeds s e) acts) (acts_let_go u acts h)
  acts_let_go u (act.Drawn v ∷ acts) h = any-right is_letting_go (act_deeds s e (act.Drawn v)) (flat_map (act_deeds s e) acts) (acts_let_go u acts h)
  acts_let_go u (act.Registered v j ∷ acts) h = acts_let_go u acts h
  acts_let_go u (act.Readied v j ts ∷ acts) h = acts_let_go u acts h
  acts_let_go u (act.Decided x js ∷ acts) h = acts_let_go u acts h
  acts_let_go u (act.Applied j x ∷ acts) h = acts_let_go u acts h
  acts_let_go u (act.Forgot v ∷ acts) h = acts_let_go u acts h
  acts_let_go u (act.Regained epoch clock ready xs ∷ acts) h = any-right is_letting_go (act_deeds s e (act.Regained epoch clock ready xs)) (flat_map (act_deeds s e) acts) (acts_let_go u acts h)
  acts_let_go u (act.Sent to m ∷ acts) h = acts_let_go u acts h
  acts_let_go u (act.Stopped ∷ acts) h = acts_let_go u acts h
  acts_let_go u (act.Failed ∷ acts) h = acts_let_go u acts h

-- ---- the deeds by which a Finish ends its transaction

data IsEnding (t : TransId) (client : ℕ) : List Deed → Type 0 where
  asked : (c : Cause) → IsEnding t client (Ends t client c ∷ [])
  voted : (c : Cause) → IsEnding t client (Finishes t ∷ Ends t client c ∷ [])

ending_votes : (s : State) (t : TransId) (client : ℕ) (ds : List Deed) → IsEnding t client ds → CountsVotes s → CountsVotes (state_after state_deed s ds)
ending_votes s t client ds (asked c) none u = fate_votes (Ends t client c) u (s.fates u) tt (none u)
ending_votes s t client ds (voted c) none u = go (same_trans t u) (s.fates u) (none u)
  where
    over : (f : Fate) → has_votes f ≡ false → has_votes (ended c (finishing f)) ≡ false
    over (Running d js) h = refl
    over (Finishing d js vs) h = refl
    over f h = h

    go : (b : Bool) (f : Fate) → has_votes f ≡ false → has_votes (cond {A = Fate} b (ended c (cond {A = Fate} b (finishing f) f)) (cond {A = Fate} b (finishing f) f)) ≡ false
    go true f h = over f h
    go false f h = h

ending_else : (t : TransId) (client : ℕ) (ds : List Deed) → IsEnding t client ds → AllByRecursion (IsStillBut t) ds
ending_else t client ds (asked c) = (tt, tt)
ending_else t client ds (voted c) = (tt, (tt, tt))

-- it ends its transaction alone
ending_ends : (s : State) (t : TransId) (client : ℕ) (ds rest : List Deed) → IsEnding t client ds → AllByRecursion IsNoEnd rest → flat_map (ended_by s) (ds ++ rest) ≡ t ∷ []
ending_ends s t client ds rest (asked c) none = ap (λ (ts : List TransId). t ∷ ts) (none_ended s rest none)
ending_ends s t client ds rest (voted c) none = ap (λ (ts : List TransId). t ∷ ts) (none_ended s rest none)

along-after : (x : Event) (ds rest : List Deed) (s : State) → Along state_deed (IsLawfulDeed x) s (ds ++ rest) → Along state_deed (IsLawfulDeed x) (state_after state_deed s ds) rest
along-after x [] rest s law = law
along-after x (d ∷ ds) rest s law = along-after x ds rest (state_deed s d) law.1

-- an entry that begins so
ending_still : (s : State) (e : Entry) (t : TransId) (client : ℕ) (ds : List Deed) → IsOwnEvent e.event → tried s e ≡ ds ++ flat_map (act_deeds s e.event) e.acts → IsEnding t client ds → CountsVotes s
    → Along state_deed (IsLawfulDeed e.event) s (tried s e) → flat_map drawn_by e.acts ≡ [] → list_any regained_by e.acts ≡ false → flat_map released_by e.acts ≡ flat_map (ended_by s) (tried s e)
    → LeavesElse t s.holder (state_after state_deed s (tried s e)).holder
ending_still s e t client ds own brought ends counts law drawn regained released =
    let acts : List Deed = flat_map (act_deeds s e.event) e.acts in
    let votes : AllByRecursion IsNoVote acts =
    unvoted_along e.event own acts (state_after state_deed s ds) (acts_unheard s e.event e.acts regained) (ending_votes s t client ds ends counts) (along-after e.event ds acts s (subst (Along state_deed (IsLawfulDeed e.event) s) brought law)) in
    let its_own : flat_map released_by e.acts ≡ t ∷ [] = released ∙ ap (flat_map (ended_by s)) brought ∙ ending_ends s t client ds acts ends (acts_no_end s e.event e.acts regained votes) in
    let still : AllByRecursion (IsStillBut t) (ds ++ acts) =
    all-append (IsStillBut t) ds acts (ending_else t client ds ends) (acts_else s e.event t e.acts regained drawn (subst (AllByRecursion (λ (u : TransId). u ≡ t)) (sym its_own) (refl, tt)) votes) in
    let goes : list_any is_letting_go (ds ++ acts) ≡ true = any-right is_letting_go ds acts (acts_let_go s e.event t t e.acts its_own) in
    subst (λ (xs : List Deed). LeavesElse t s.holder (state_after state_deed s xs).holder) (sym brought) (deeds_else t (ds ++ acts) s still (inl goes))

-- ---- a Finish that is answered so

wrong_abort : (why : Cause) (r : Reply) → is_aborted r ≡ false → reply.Refused (refusal.Aborted why) ≡ r → ⊥
wrong_abort why r other same = let wrong : true ≡ false = ap is_aborted same ∙ other in cc

module _ (failed : Bool) (s : State) (client : ℕ) (t : TransId) (why : Cause) where
  abbrev Answer : Bool → Fate → Part → Type 0
  Answer commit fate p = OwnAnswer failed s client t (refusal.Aborted why) commit fate p

  unknown_wrong : (commit : Bool) (fate : Fate) → Answer commit fate NoPart → ⊥
  unknown_wrong commit fate h = wrong_abort why (reply.Refused refusal.UnknownTrans) refl h

  own_ends : (commit : Bool) (fate : Fate) → is_running fate ≡ true → Answer commit fate (own_part client (s.desk.dead client t) fate) → IsEnding t client (finishes s.desk client t commit (reply.Refused (refusal.Aborted why)) fate)
  own_ends false (Running c js) r a = go (c == client) a
    where
      go : (b : Bool) → Answer false (Running c js) (cond {A = Part} b AtWork NoPart) → IsEnding t client (cond {A = List Deed} b (Ends t client cause.Asked ∷ []) [])
      go true h = IsEnding.asked cause.Asked
      go false h = absurd (unknown_wrong false (Running c js) h)
  own_ends true (Running c js) r a = go (c == client) (waiting_of s.desk client t) a
    where
      go : (b : Bool) (w : Option Waiting)
          → First (at_part (true && is_some w) (cond {A = Part} b AtWork NoPart)) (reply.Refused (refusal.Aborted why)) (reply.Refused (refusal.Aborted why) ≡ finish_reply failed s t (Running c js))
          → IsEnding t client (cond {A = List Deed} (b && is_none w) (Finishes t ∷ Ends t client why ∷ []) [])
      go true None h = IsEnding.voted why
      go true (Some w) h = absurd (wrong_abort why (reply.Refused refusal.NotYet) refl h)
      go false w h = absurd (wrong_abort why (reply.Refused refusal.UnknownTrans) refl h)
  own_ends commit (Finishing c js vs) r a = absurd (go (c == client) a)
    where
      go : (b : Bool) → Answer commit (Finishing c js vs) (cond {A = Part} b AtFinish NoPart) → ⊥
      go true h = wrong_abort why (reply.Refused refusal.Finishing) refl h
      go false h = unknown_wrong commit (Finishing c js vs) h
  own_ends commit fate r a = let wrong : false ≡ true = r in cc

  finish_ends : (commit : Bool) → is_running (s.fates t) ≡ true → IsAnswer failed s client (call.Finish t commit) (reply.Refused (refusal.Aborted why))
      → IsEnding t client (finishes s.desk client t commit (reply.Refused (refusal.Aborted why)) (s.fates t))
  finish_ends commit runs a = go (t.server == s.holder.server) a
    where
      go : (b : Bool)
          → Where b (Answer commit (s.fates t) (cond {A = Part} b (own_part client (s.desk.dead client t) (s.fates t)) (join_part s (s.desk.dead client t) (join_for s client t)))) (reply.Refused (refusal.Aborted why) ≡ reply.Refused refusal.UnknownTrans)
          → IsEnding t client (finishes s.desk client t commit (reply.Refused (refusal.Aborted why)) (s.fates t))
      go true h = own_ends commit (s.fates t) runs h
      go false h = absurd (wrong_abort why (reply.Refused refusal.UnknownTrans) refl h)

module _ (s : State) (client epoch number : ℕ) (why : Cause) (acts : List Act) (t : TransId) (commit : Bool) where
  abbrev aborted_entry : Entry
  aborted_entry = its s client epoch number (refusal.Aborted why) acts t commit

  not_stopped : IsLawfulEntry s aborted_entry → (b : Bool) → stops aborted_entry ≡ b → b ≡ false
  not_stopped law true up =
      let told_so = (subst (λ (b : Bool). Where b (IsStopped acts × TellsStop aborted_entry.event aborted_entry.reply) (Unit {0})) up law.stopped).1 in
      absurd (wrong_abort why (reply.Refused refusal.Down) refl (same-some (reply.Refused (refusal.Aborted why)) (reply.Refused refusal.Down) told_so))
  not_stopped law false up = refl

  aborted_still : (failed : Bool) → CountsVotes s → IsLawfulEntry s aborted_entry → IsAnsweredEntry failed s aborted_entry → is_new s client epoch number ≡ true → is_running (s.fates t) ≡ true
      → IsAsBefore (with_life s.holder t None) (next s aborted_entry).holder
  aborted_still failed counts law answers new runs =
      let up : stops aborted_entry ≡ false = not_stopped law (stops aborted_entry) refl in
      let f : Refusal = refusal.Aborted why in
      let a : IsAnswer failed s client (call.Finish t commit) (reply.Refused f) =
      subst (λ (b : Bool). Where b (IsAnswer failed s client (call.Finish t commit) (reply.Refused f)) (Unit {0})) new (its_answer s client epoch number f acts t commit failed answers up) in
      let first : List Deed = event_deeds s aborted_entry.event aborted_entry.reply acts in
      let middle : List Deed = flat_map (act_deeds s aborted_entry.event) acts in
      let ends : IsEnding t client first =
      subst (λ (b : Bool). IsEnding t client (cond {A = List Deed} b (finishes s.desk client t commit (reply.Refused f) (s.fates t)) [])) (sym new) (finish_ends failed s client t why commit runs a) in
      let brought : tried s aborted_entry ≡ first ++ middle = ap (λ (xs : List Deed). (first ++ middle) ++ xs) (its_done s client epoch number f acts t commit refl) ∙ append-nil (first ++ middle) in
      let leaves = ending_still s aborted_entry t client first tt brought ends counts law.deeds (none_drawn s client epoch number f acts (call.Finish t commit) law) law.restart.0 (let_go s client epoch number f acts (call.Finish t commit) law up) in
      subst (λ (b : Bool). IsAsBefore (with_life s.holder t None) (cond {A = State} b (halted s aborted_entry) (told s aborted_entry)).holder) (sym up)
      (without_life t s.holder (did s aborted_entry).holder leaves)

-- one that ends its transaction
pub aborted_leaves : (failed : Bool) (s : State) (e : Entry) (client epoch number : ℕ) (t : TransId) (commit : Bool) (why : Cause) → IsReached s → IsLawfulEntry s e → IsAnsweredEntry failed s e
    → e.event ≡ event.Call client epoch number (call.Finish t commit) → e.reply ≡ Some (reply.Refused (refusal.Aborted why)) → is_new s client epoch number ≡ true → is_running (s.fates t) ≡ true
    → IsAsBefore (with_life s.holder t None) (next s e).holder
aborted_leaves failed s e client epoch number t commit why reached law answers is told new runs =
    let f : Refusal = refusal.Aborted why in
    let same : e ≡ entry_of s client epoch number f e.acts (call.Finish t commit) = same_entry e (event.Call client epoch number (call.Finish t commit)) (Some (reply.Refused f)) is told in
    let order = reached_order s reached in
    subst (λ (x : Entry). IsAsBefore (with_life s.holder t None) (next s x).holder) (sym same)
    (aborted_still s client epoch number why e.acts t commit failed order.votes (subst (IsLawfulEntry s) same law) (subst (IsAnsweredEntry failed s) same answers) new runs)
