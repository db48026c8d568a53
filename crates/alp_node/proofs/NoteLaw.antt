-- an entry that makes no commit leaves what the notes of a server say: its ready parts stay with their locks and what they intend, its
-- decisions stay, and so does the clock that a restart finds
use Rattle.std.specs.Prelude.{Bool, true, false, cond, not, ◌&&◌, ◌||◌, ◌==◌, ◌+◌, nat_lt, flat_map, is_none, is_some, Option, None, Some}
use Rattle.std.specs.List.{list_any, AllByRecursion}
use Rattle.std.proofs.Common.{◌≡◌, ℕ, List, [], ◌∷◌, ◌++◌, refl, sym, ap, subst, ◌∙◌, inl, inr, eq-eqb, ◌≤◌}
use Rattle.std.proofs.lemmas.Bool.{and_parts}
use Rattle.alp_base.specs.Notes.{Notes}
use Rattle.alp_base.specs.declared.ids.JoinNo.{JoinNo}
use Rattle.alp_base.specs.declared.ids.Stamp.{Stamp}
use Rattle.alp_base.specs.declared.ids.TransId.{TransId}
use Rattle.alp_fields.specs.declared.decision_note.Decision.{Decision}
use Rattle.alp_fields.specs.declared.ready_note.ReadyPart.{ReadyPart}
use Rattle.alp_files.specs.declared.call.Call.{Call}
use Rattle.alp_files.specs.declared.call.Call.TheVariants as call
use Rattle.alp_files.specs.declared.refusal.Cause.{Cause}
use Rattle.alp_files.specs.declared.refusal.Cause.TheVariants as cause
use Rattle.alp_files.specs.declared.refusal.Refusal.TheVariants as refusal
use Rattle.alp_files.specs.declared.reply.Reply.{Reply}
use Rattle.alp_files.specs.declared.reply.Reply.TheVariants as reply
use Rattle.alp_files.specs.History.{PerformedCall}
use Rattle.alp_files.specs.Passing.{is_passing}
use Rattle.alp_journal.specs.declared.act.Act.{Act}
use Rattle.alp_journal.specs.declared.act.Act.TheVariants as act
use Rattle.alp_journal.specs.declared.entry.Entry.{Entry}
use Rattle.alp_journal.specs.declared.event.Event.{Event}
use Rattle.alp_journal.specs.declared.event.Event.TheVariants as event
use Rattle.alp_journal.specs.declared.message.Message.{Message}
use Rattle.alp_journal.specs.declared.message.Message.TheVariants as msg
use Rattle.alp_journal.specs.Along.{Along, state_after}
use Rattle.alp_journal.specs.Account.{Account, state_of, IsQuiet, IsPaired, IsPartAs, IsJoined, HasLife, IsPhaseOf, is_other}
use Rattle.alp_journal.specs.Coordinator.{Fate, Undrawn, Running, Finishing, Committed, Forgotten, Ended, begun, registered, finishing, heard, ended, acknowledged, client_of, fate_after}
use Rattle.alp_journal.specs.Deeds.{Deed, Begins, Joins, Enters, Quits, Aborts, Grants, Performs, Releases, Readies, Applies, Registers, Finishes, Hears, Decides, Ends, Acknowledges, Forgets, Restarts}
use Rattle.alp_journal.specs.Desk.{Desk, Waiting, file_trans, is_called, is_not_yet, waiting_of}
use Rattle.alp_journal.specs.Holder.{Holder, Life, new_life, with_life, grants, held_for, performs, after_done, answer_in, lapsed, emptied, is_part, holder_after}
use Rattle.alp_journal.specs.Ids.{same_trans, same_join, has_join, has_server}
use Rattle.alp_journal.specs.Laws.{IsLawfulDeed, DeedsAreLawful, IsLawfulEntry, IsHolding}
use Rattle.alp_journal.specs.Moves.{is_new, next_join, principal, joins_here, ends_by, finishes, call_deeds, abort_in, no_in, first_sent, ends_for, quits_for, enters, refused_join, if_its, hears, refuses, acknowledges, message_deeds, times_out_here, times_out_join, event_deeds, asks_for, grants_to, begins_at, act_deeds, answered, is_of_no_file, done_by, done_of, done_deeds, stops, tried, did, told, halted, next}
use Rattle.alp_journal.specs.Participant.{Phase, Unseen, Joining, Active, Ready, Applied, Over, drawn, entered, quit, aborted, phase_after, is_ready, live_in, open_in}
use Rattle.alp_journal.specs.State.{State, state_deed, has_part}
use Rattle.alp_journal.proofs.IdLemmas.{same_trans-true, same_join-true, all-append}
use Rattle.alp_journal.proofs.Origins.{all-cond}
use Rattle.alp_node.specs.Durable.{IsKeptIf, IsReadyNote, AreNotesOf}
use Rattle.alp_ready.specs.NoteLooks.{ready_at}
use Rattle.alp_node.specs.Noted.{decision_kept}
use Rattle.alp_vault.specs.Volumes.{is_server_note}
use Rattle.alp_node.proofs.NotedLemmas.{ready_before}

-- ---- what the notes say

-- whoever says the one says the other
pub record SaysAsBefore (s m : State) : Type 0 where
  pub server : m.holder.server ≡ s.holder.server
  pub servers : m.servers ≡ s.servers
  pub kept : m.holder.kept ≡ s.holder.kept
  pub ready : (j : JoinNo) (x : Option ReadyPart) → IsReadyNote s.holder.lives (s.phases j) x → IsReadyNote m.holder.lives (m.phases j) x
  pub decided : (t : TransId) → decision_kept (m.fates t) ≡ decision_kept (s.fates t)

pub says_same : (s : State) → SaysAsBefore s s
says_same s = record { server = refl; servers = refl; kept = refl; ready = λ j x h. h; decided = λ t. refl }

pub says_on : (s m n : State) → SaysAsBefore s m → SaysAsBefore m n → SaysAsBefore s n
says_on s m n h k = record {
  server = k.server ∙ h.server;
  servers = k.servers ∙ h.servers;
  kept = k.kept ∙ h.kept;
  ready = λ j x g. k.ready j x (h.ready j x g);
  decided = λ t. k.decided t ∙ h.decided t;
}

pub notes_along : (s m : State) (epoch : ℕ) (notes : Notes) → SaysAsBefore s m → AreNotesOf s epoch notes → AreNotesOf m epoch notes
notes_along s m epoch notes h k = record {
  clock = k.clock ∙ (λ i. record { epoch = epoch; clock = sym h.kept i });
  ready = λ j fits. h.ready j (ready_at notes j) (k.ready j fits);
  decided = λ t fits. k.decided t fits ∙ sym (h.decided t);
  fit = λ j is. k.fit j (ready_before s.holder.lives m.holder.lives (s.phases j) (m.phases j) (h.ready j) is);
  fit_decided = λ t is. k.fit_decided t (ap (λ (o : Option Decision). is_some o) (sym (h.decided t)) ∙ is);
  timely = λ t d is. subst (λ (n : ℕ). d.ts ≤ n) (sym h.kept) (k.timely t d (sym (h.decided t) ∙ is));
  format = λ name value is. subst (λ (n : ℕ). is_server_note n m.servers name value ≡ true) (sym h.server) (subst (λ (n : ℕ). is_server_note s.holder.server n name value ≡ true) (sym h.servers) (k.format name value is));
}

-- ---- deeds that no note keeps

-- each ready part lives, with its vote, and is of another server's transaction
pub record IsVoted (s : State) (j : JoinNo) (t : TransId) (ts : ℕ) : Type 0 where
  pub life : Life
  pub live : s.holder.lives t ≡ Some life
  pub vote : life.vote ≡ Some ts
  pub join : life.join ≡ Some j
  pub away : (t.server == s.holder.server) ≡ false

abbrev pub AreVoted : State → Type 0
AreVoted s = (j : JoinNo) (t : TransId) (client ts : ℕ) → s.phases j ≡ Ready t client ts → IsVoted s j t ts

-- of whichever state
abbrev pub IsUnkept : Deed → Type 0
IsUnkept (Enters j t client who) = ⊥
IsUnkept (Aborts j t client c) = ⊥
IsUnkept (Readies j t ts) = ⊥
IsUnkept (Applies j stamp) = ⊥
IsUnkept (Decides stamp js) = ⊥
IsUnkept (Forgets t) = ⊥
IsUnkept (Restarts epoch clock) = ⊥
IsUnkept d = Unit {0}

-- who enters has no part yet, and who is aborted did not vote
abbrev pub IsUnkeptIn : State → Deed → Type 0
IsUnkeptIn s (Enters j t client who) = s.holder.lives t ≡ None
IsUnkeptIn s (Aborts j t client c) = is_ready (s.phases j) ≡ false
IsUnkeptIn s d = IsUnkept d

unkept-in : (s : State) (d : Deed) → IsUnkept d → IsUnkeptIn s d
unkept-in s (Enters j t client who) h = absurd h
unkept-in s (Aborts j t client c) h = absurd h
unkept-in s d h = h

-- ---- phases

abbrev IsReadyLike : Phase → Phase → Type 0
IsReadyLike (Ready t client ts) q = q ≡ Ready t client ts
IsReadyLike p q = is_ready q ≡ false

like_itself : (p : Phase) → IsReadyLike p p
like_itself Unseen = refl
like_itself (Joining t client who) = refl
like_itself (Active t client who) = refl
like_itself (Ready t client ts) = refl
like_itself (Applied t stamp) = refl
like_itself Over = refl

like_if : (p q : Phase) (b : Bool) → IsReadyLike p q → IsReadyLike p (cond {A = Phase} b q p)
like_if p q true h = h
like_if p q false h = like_itself p

like_drawn : (t : TransId) (client : ℕ) (who : List ℕ) (p : Phase) → IsReadyLike p (drawn t client who p)
like_drawn t client who Unseen = refl
like_drawn t client who (Joining u c w) = refl
like_drawn t client who (Active u c w) = refl
like_drawn t client who (Ready u c ts) = refl
like_drawn t client who (Applied u stamp) = refl
like_drawn t client who Over = refl

like_entered : (p : Phase) → IsReadyLike p (entered p)
like_entered Unseen = refl
like_entered (Joining u c w) = refl
like_entered (Active u c w) = refl
like_entered (Ready u c ts) = refl
like_entered (Applied u stamp) = refl
like_entered Over = refl

like_quit : (p : Phase) → IsReadyLike p (quit p)
like_quit Unseen = refl
like_quit (Joining u c w) = refl
like_quit (Active u c w) = refl
like_quit (Ready u c ts) = refl
like_quit (Applied u stamp) = refl
like_quit Over = refl

not_ready_if : (b : Bool) (p q : Phase) → is_ready p ≡ false → is_ready q ≡ false → is_ready (cond {A = Phase} b p q) ≡ false
not_ready_if true p q h k = h
not_ready_if false p q h k = k

like_aborted : (t : TransId) (p : Phase) → is_ready p ≡ false → IsReadyLike p (aborted t p)
like_aborted t Unseen h = refl
like_aborted t (Joining u c w) h = not_ready_if (same_trans t u) Over (Joining u c w) refl refl
like_aborted t (Active u c w) h = not_ready_if (same_trans t u) Over (Active u c w) refl refl
like_aborted t (Ready u c ts) h = let wrong : true ≡ false = h in cc
like_aborted t (Applied u stamp) h = refl
like_aborted t Over h = refl

like_ended : (t : TransId) (j k : JoinNo) (phases : JoinNo → Phase) → is_ready (phases k) ≡ false → IsReadyLike (phases j) (cond {A = Phase} (same_join k j) (aborted t (phases j)) (phases j))
like_ended t j k phases h = go (same_join k j) refl
  where
    go : (b : Bool) → same_join k j ≡ b → IsReadyLike (phases j) (cond {A = Phase} b (aborted t (phases j)) (phases j))
    go true is = like_aborted t (phases j) (subst (λ (i : JoinNo). is_ready (phases i) ≡ false) (same_join-true k j is) h)
    go false is = like_itself (phases j)

phases_like : (s : State) (d : Deed) (j : JoinNo) → IsUnkeptIn s d → IsReadyLike (s.phases j) (phase_after d j (s.phases j))
phases_like s (Joins k t client who) j h = like_if (s.phases j) (drawn t client who (s.phases j)) (same_join k j) (like_drawn t client who (s.phases j))
phases_like s (Enters k t client who) j h = like_if (s.phases j) (entered (s.phases j)) (same_join k j) (like_entered (s.phases j))
phases_like s (Quits k t client c) j h = like_if (s.phases j) (quit (s.phases j)) (same_join k j) (like_quit (s.phases j))
phases_like s (Aborts k t client c) j h = like_ended t j k s.phases h
phases_like s (Begins t client who seen) j h = like_itself (s.phases j)
phases_like s (Grants t c) j h = like_itself (s.phases j)
phases_like s (Performs t d) j h = like_itself (s.phases j)
phases_like s (Releases t) j h = like_itself (s.phases j)
phases_like s (Registers t k) j h = like_itself (s.phases j)
phases_like s (Finishes t) j h = like_itself (s.phases j)
phases_like s (Hears t k ts) j h = like_itself (s.phases j)
phases_like s (Ends t client c) j h = like_itself (s.phases j)
phases_like s (Acknowledges t k) j h = like_itself (s.phases j)
phases_like s (Readies k t ts) j h = absurd h
phases_like s (Applies k stamp) j h = absurd h
phases_like s (Decides stamp js) j h = absurd h
phases_like s (Forgets t) j h = absurd h
phases_like s (Restarts epoch clock) j h = absurd h

-- a ready one was so before
was_ready : (p q : Phase) (t : TransId) (client ts : ℕ) → IsReadyLike p q → q ≡ Ready t client ts → p ≡ Ready t client ts
was_ready (Ready u c us) q t client ts h is = sym h ∙ is
was_ready Unseen q t client ts h is = let wrong : false ≡ true = sym h ∙ ap is_ready is in cc
was_ready (Joining u c w) q t client ts h is = let wrong : false ≡ true = sym h ∙ ap is_ready is in cc
was_ready (Active u c w) q t client ts h is = let wrong : false ≡ true = sym h ∙ ap is_ready is in cc
was_ready (Applied u stamp) q t client ts h is = let wrong : false ≡ true = sym h ∙ ap is_ready is in cc
was_ready Over q t client ts h is = let wrong : false ≡ true = sym h ∙ ap is_ready is in cc

-- ---- lives

other_life : (h : Holder) (t u : TransId) (x : Option Life) → same_trans u t ≡ false → (with_life h t x).lives u ≡ h.lives u
other_life h t u x e = ap (λ (b : Bool). cond {A = Option Life} b x (h.lives u)) e

-- the transactions differ, as one has what the other has not
pub apart : (P : TransId → Type 0) (t u : TransId) → P u → (P t → ⊥) → (b : Bool) → same_trans u t ≡ b → b ≡ false
apart P t u h n true is = absurd (n (subst P (same_trans-true u t is) h))
apart P t u h n false is = refl

module _ (e : Event) (s : State) (j : JoinNo) (u : TransId) (client ts : ℕ) (ready : s.phases j ≡ Ready u client ts) (v : IsVoted s j u ts) where
  -- another part than one that did not vote
  unvoted_other : (t : TransId) → ((l : Life) → s.holder.lives t ≡ Some l → l.vote ≡ None) → same_trans u t ≡ false
  unvoted_other t h =
      apart (λ (w : TransId). s.holder.lives w ≡ Some v.life) t u v.live (λ is. (let wrong : None ≡ Some ts = sym (h v.life is) ∙ v.vote in cc)) (same_trans u t) refl

  granted : (t : TransId) (c : Call) (o : Option Life) → same_trans u t ≡ false → (grants s.holder t c o).lives u ≡ s.holder.lives u
  granted t c None n = refl
  granted t c (Some l) n = ap (λ (b : Bool). cond {A = Option Life} b (Some (record l { held = held_for s.holder l c })) (s.holder.lives u)) n

  performed : (t : TransId) (d : PerformedCall) (o : Option Life) → same_trans u t ≡ false → (performs s.holder t d o).lives u ≡ s.holder.lives u
  performed t d None n = refl
  performed t d (Some l) n = ap (λ (b : Bool). cond {A = Option Life} b (Some (after_done l d (answer_in s.holder l d))) (s.holder.lives u)) n

  lapsed_other : (k : JoinNo) (o : Option Life) → o ≡ Some v.life → same_join j k ≡ false → lapsed k o ≡ o
  lapsed_other k None is n = refl
  lapsed_other k (Some l) is n =
      let part : is_part k l.join ≡ false = ap (λ (x : Option Life). is_part k (join_in x)) is ∙ ap (is_part k) v.join ∙ n in
      ap (λ (b : Bool). Some (cond {A = Life} b (emptied l) l)) part
    where
      join_in : Option Life → Option JoinNo
      join_in None = None
      join_in (Some l) = l.join

  aborted_other : (k : JoinNo) → is_ready (s.phases k) ≡ false → same_join j k ≡ false
  aborted_other k h = go (same_join j k) refl
    where
      go : (b : Bool) → same_join j k ≡ b → b ≡ false
      go true is = let wrong : true ≡ false = sym (ap is_ready ready) ∙ subst (λ (i : JoinNo). is_ready (s.phases i) ≡ false) (sym (same_join-true j k is)) h in cc
      go false is = refl

  kept_or : (b : Bool) (x y : Option Life) → x ≡ y → cond {A = Option Life} b x y ≡ y
  kept_or true x y is = is
  kept_or false x y is = refl

  pub life_stays : (d : Deed) → IsUnkeptIn s d → IsLawfulDeed e s d → (holder_after s.holder d).lives u ≡ s.holder.lives u
  life_stays (Begins t c who seen) h law =
      let n : same_trans u t ≡ false = apart (λ (w : TransId). (w.server == s.holder.server) ≡ false) t u v.away (λ is. (let wrong : true ≡ false = sym (eq-eqb t.server s.holder.server (λ i. (law.counts i).server)) ∙ is in cc)) (same_trans u t) refl in
      ap (λ (b : Bool). cond {A = Option Life} b (Some (new_life None c who)) (s.holder.lives u)) n
  life_stays (Enters k t c who) h law =
      let n : same_trans u t ≡ false = apart (λ (w : TransId). s.holder.lives w ≡ Some v.life) t u v.live (λ is. (let wrong : None ≡ Some v.life = sym h ∙ is in cc)) (same_trans u t) refl in
      ap (λ (b : Bool). cond {A = Option Life} b (Some (new_life (Some k) c who)) (s.holder.lives u)) n
  life_stays (Grants t c) h law = granted t c (s.holder.lives t) (unvoted_other t law.locks.0)
  life_stays (Performs t d) h law =
      performed t d (s.holder.lives t) (unvoted_other t (λ k is. subst (λ (x : Option Life). vote_is x) (sym law.view.1 ∙ is) law.view.2.active))
    where
      vote_is : Option Life → Type 0
      vote_is None = ⊥
      vote_is (Some k) = k.vote ≡ None
  life_stays (Releases t) h law =
      let n : same_trans u t ≡ false = apart (λ (w : TransId). w ≡ u) t u refl (λ is. law.locks.1.1 j (subst (IsHolding t) (sym ready) (sym is))) (same_trans u t) refl in
      ap (λ (b : Bool). cond {A = Option Life} b None (s.holder.lives u)) n
  life_stays (Aborts k t c why) h law = kept_or (same_trans u t) (lapsed k (s.holder.lives u)) (s.holder.lives u) (lapsed_other k (s.holder.lives u) v.live (aborted_other k h))
  life_stays (Joins k t c who) h law = refl
  life_stays (Quits k t c why) h law = refl
  life_stays (Registers t k) h law = refl
  life_stays (Finishes t) h law = refl
  life_stays (Hears t k us) h law = refl
  life_stays (Ends t c why) h law = refl
  life_stays (Acknowledges t k) h law = refl
  life_stays (Readies k t us) h law = absurd h
  life_stays (Applies k stamp) h law = absurd h
  life_stays (Decides stamp js) h law = absurd h
  life_stays (Forgets t) h law = absurd h
  life_stays (Restarts epoch clock) h law = absurd h

-- ---- fates

kept_if : (b : Bool) (f g : Fate) → decision_kept g ≡ decision_kept f → decision_kept (cond {A = Fate} b g f) ≡ decision_kept f
kept_if true f g h = h
kept_if false f g h = refl

begun_kept : (client : ℕ) (f : Fate) → decision_kept (begun client f) ≡ decision_kept f
begun_kept client Undrawn = refl
begun_kept client (Running c js) = refl
begun_kept client (Finishing c js vs) = refl
begun_kept client (Committed x js ds) = refl
begun_kept client (Forgotten x js) = refl
begun_kept client (Ended c) = refl

registered_kept : (j : JoinNo) (f : Fate) → decision_kept (registered j f) ≡ decision_kept f
registered_kept j (Running c js) = kept_if (has_server j.server js) (Running c (js ++ j ∷ [])) (Running c js) refl
registered_kept j Undrawn = refl
registered_kept j (Finishing c js vs) = refl
registered_kept j (Committed x js ds) = refl
registered_kept j (Forgotten x js) = refl
registered_kept j (Ended c) = refl

pub finishing_kept : (f : Fate) → decision_kept (finishing f) ≡ decision_kept f
finishing_kept Undrawn = refl
finishing_kept (Running c js) = refl
finishing_kept (Finishing c js vs) = refl
finishing_kept (Committed x js ds) = refl
finishing_kept (Forgotten x js) = refl
finishing_kept (Ended c) = refl

heard_kept : (j : JoinNo) (ts : ℕ) (f : Fate) → decision_kept (heard j ts f) ≡ decision_kept f
heard_kept j ts Undrawn = refl
heard_kept j ts (Running c js) = refl
heard_kept j ts (Finishing c js vs) = refl
heard_kept j ts (Committed x js ds) = refl
heard_kept j ts (Forgotten x js) = refl
heard_kept j ts (Ended c) = refl

ended_kept : (c : Cause) (f : Fate) → decision_kept (ended c f) ≡ decision_kept f
ended_kept c Undrawn = refl
ended_kept c (Running n js) = refl
ended_kept c (Finishing n js vs) = refl
ended_kept c (Committed x js ds) = refl
ended_kept c (Forgotten x js) = refl
ended_kept c (Ended d) = refl

acknowledged_kept : (j : JoinNo) (f : Fate) → decision_kept (acknowledged j f) ≡ decision_kept f
acknowledged_kept j (Committed x [] ds) = refl
acknowledged_kept j (Committed x (k ∷ js) ds) = refl
acknowledged_kept j Undrawn = refl
acknowledged_kept j (Running c js) = refl
acknowledged_kept j (Finishing c js vs) = refl
acknowledged_kept j (Forgotten x js) = refl
acknowledged_kept j (Ended c) = refl

fates_kept : (s : State) (d : Deed) (t : TransId) (f : Fate) → IsUnkeptIn s d → decision_kept (fate_after d t f) ≡ decision_kept f
fates_kept s (Begins u client who seen) t f h = kept_if (same_trans u t) f (begun client f) (begun_kept client f)
fates_kept s (Registers u j) t f h = kept_if (same_trans u t) f (registered j f) (registered_kept j f)
fates_kept s (Finishes u) t f h = kept_if (same_trans u t) f (finishing f) (finishing_kept f)
fates_kept s (Hears u j ts) t f h = kept_if (same_trans u t) f (heard j ts f) (heard_kept j ts f)
fates_kept s (Ends u client c) t f h = kept_if (same_trans u t) f (ended c f) (ended_kept c f)
fates_kept s (Acknowledges u j) t f h = kept_if (same_trans u t) f (acknowledged j f) (acknowledged_kept j f)
fates_kept s (Joins k u c who) t f h = refl
fates_kept s (Enters k u c who) t f h = refl
fates_kept s (Quits k u c why) t f h = refl
fates_kept s (Aborts k u c why) t f h = refl
fates_kept s (Grants u c) t f h = refl
fates_kept s (Performs u c) t f h = refl
fates_kept s (Releases u) t f h = refl
fates_kept s (Readies k u us) t f h = absurd h
fates_kept s (Applies k stamp) t f h = absurd h
fates_kept s (Decides stamp js) t f h = absurd h
fates_kept s (Forgets u) t f h = absurd h
fates_kept s (Restarts epoch clock) t f h = absurd h

-- ---- one deed, and several

-- who it is and the clock that a restart finds
pub record IsHolderAs (a b : Holder) : Type 0 where
  pub server : b.server ≡ a.server
  pub kept : b.kept ≡ a.kept

holder_as : (h : Holder) → IsHolderAs h h
holder_as h = record { server = refl; kept = refl }

grants_as : (h : Holder) (t : TransId) (c : Call) (o : Option Life) → IsHolderAs h (grants h t c o)
grants_as h t c None = record { server = refl; kept = refl }
grants_as h t c (Some l) = record { server = refl; kept = refl }

performs_as : (h : Holder) (t : TransId) (d : PerformedCall) (o : Option Life) → IsHolderAs h (performs h t d o)
performs_as h t d None = record { server = refl; kept = refl }
performs_as h t d (Some l) = record { server = refl; kept = refl }

deed_as : (s : State) (d : Deed) → IsUnkeptIn s d → IsHolderAs s.holder (holder_after s.holder d)
deed_as s (Begins t c who seen) h = record { server = refl; kept = refl }
deed_as s (Enters k t c who) h = record { server = refl; kept = refl }
deed_as s (Grants t c) h = grants_as s.holder t c (s.holder.lives t)
deed_as s (Performs t d) h = performs_as s.holder t d (s.holder.lives t)
deed_as s (Releases t) h = record { server = refl; kept = refl }
deed_as s (Aborts k t c why) h = record { server = refl; kept = refl }
deed_as s (Joins k t c who) h = holder_as s.holder
deed_as s (Quits k t c why) h = holder_as s.holder
deed_as s (Registers t k) h = holder_as s.holder
deed_as s (Finishes t) h = holder_as s.holder
deed_as s (Hears t k us) h = holder_as s.holder
deed_as s (Ends t c why) h = holder_as s.holder
deed_as s (Acknowledges t k) h = holder_as s.holder
deed_as s (Readies k t us) h = absurd h
deed_as s (Applies k stamp) h = absurd h
deed_as s (Decides stamp js) h = absurd h
deed_as s (Forgets t) h = absurd h
deed_as s (Restarts epoch clock) h = absurd h

-- no note of a part that did not vote
none_note : (lives : TransId → Option Life) (q : Phase) (x : Option ReadyPart) → is_ready q ≡ false → x ≡ None → IsReadyNote lives q x
none_note lives (Ready t c ts) x n h = let wrong : true ≡ false = n in cc
none_note lives Unseen x n h = h
none_note lives (Joining t c w) x n h = h
none_note lives (Active t c w) x n h = h
none_note lives (Applied t stamp) x n h = h
none_note lives Over x n h = h

-- a note of the same part
same_note : (lives after : TransId → Option Life) (p q : Phase) → IsReadyLike p q → ((t : TransId) (client ts : ℕ) → p ≡ Ready t client ts → after t ≡ lives t) → (x : Option ReadyPart) → IsReadyNote lives p x → IsReadyNote after q x
same_note lives after (Ready t client ts) q like stays None h = absurd h
same_note lives after (Ready t client ts) q like stays (Some p) h =
    subst (λ (r : Phase). IsReadyNote after r (Some p)) (sym like) (h.0, h.1, h.2, subst (λ (o : Option Life). IsKeptIf o p) (sym (stays t client ts refl)) h.3)
same_note lives after Unseen q like stays x h = none_note after q x like h
same_note lives after (Joining t c w) q like stays x h = none_note after q x like h
same_note lives after (Active t c w) q like stays x h = none_note after q x like h
same_note lives after (Applied t stamp) q like stays x h = none_note after q x like h
same_note lives after Over q like stays x h = none_note after q x like h

module _ (e : Event) (s : State) (d : Deed) (free : IsUnkeptIn s d) (law : IsLawfulDeed e s d) (voted : AreVoted s) where
  alike : IsHolderAs s.holder (holder_after s.holder d)
  alike = deed_as s d free

  stays : (j : JoinNo) (t : TransId) (client ts : ℕ) → s.phases j ≡ Ready t client ts → (holder_after s.holder d).lives t ≡ s.holder.lives t
  stays j t client ts is = life_stays e s j t client ts is (voted j t client ts is) d free law

  pub deed_says : SaysAsBefore s (state_deed s d)
  deed_says = record {
    server = alike.server;
    servers = refl;
    kept = alike.kept;
    ready = λ j. same_note s.holder.lives (holder_after s.holder d).lives (s.phases j) (phase_after d j (s.phases j)) (phases_like s d j free) (stays j);
    decided = λ t. fates_kept s d t (s.fates t) free;
  }

  pub deed_voted : AreVoted (state_deed s d)
  deed_voted j t client ts is =
      let was : s.phases j ≡ Ready t client ts = was_ready (s.phases j) (phase_after d j (s.phases j)) t client ts (phases_like s d j free) is in
      let v : IsVoted s j t ts = voted j t client ts was in
      record { life = v.life; live = stays j t client ts was ∙ v.live; vote = v.vote; join = v.join; away = ap (λ (n : ℕ). t.server == n) alike.server ∙ v.away }

pub deeds_say : (e : Event) (ds : List Deed) (s : State) → Along state_deed IsUnkeptIn s ds → Along state_deed (IsLawfulDeed e) s ds → AreVoted s → SaysAsBefore s (state_after state_deed s ds)
deeds_say e [] s free law voted = says_same s
deeds_say e (d ∷ ds) s free law voted =
    says_on s (state_deed s d) (state_after state_deed (state_deed s d) ds) (deed_says e s d free.0 law.0 voted)
    (deeds_say e ds (state_deed s d) free.1 law.1 (deed_voted e s d free.0 law.0 voted))

-- ---- what an entry brings about

pub behind : (ys : List Deed) → AllByRecursion IsUnkept ys → (s : State) → Along state_deed IsUnkeptIn s ys
behind [] h s = tt
behind (d ∷ ys) h s = (unkept-in s d h.0, behind ys h.1 (state_deed s d))

first_then : (xs ys : List Deed) → AllByRecursion IsUnkept ys → (s : State) → Along state_deed IsUnkeptIn s xs → Along state_deed IsUnkeptIn s (xs ++ ys)
first_then [] ys h s k = behind ys h s
first_then (x ∷ xs) ys h s k = (k.0, first_then xs ys h (state_deed s x) k.1)

-- no act makes a commit
abbrev pub is_write : Act → Bool
is_write (act.Readied t j ts) = true
is_write (act.Decided stamp js) = true
is_write (act.Applied j stamp) = true
is_write (act.Forgot t) = true
is_write (act.Regained epoch clock ready stamps) = true
is_write a = false

-- and no join that voted is aborted
abbrev pub AbortsNoVote : State → Event → Type 0
AbortsNoVote s (event.Arrive from (msg.Abort t j c)) = is_ready (s.phases j) ≡ false
AbortsNoVote s e = Unit {0}

module _ (s : State) (e : Event) where
  begins_free : (x : Event) (t : TransId) → AllByRecursion IsUnkept (begins_at s x t)
  begins_free (event.Call client epoch number (call.Begin seen)) t = (tt, tt)
  begins_free (event.Call client epoch number c) t = tt
  begins_free x t = tt

  grants_free : (t : TransId) (c : Option Call) → AllByRecursion IsUnkept (grants_to t c)
  grants_free t None = tt
  grants_free t (Some c) = (tt, tt)

  pub acts_free : (acts : List Act) → list_any is_write acts ≡ false → AllByRecursion IsUnkept (flat_map (act_deeds s e) acts)
  acts_free [] n = tt
  acts_free (act.Granted t ∷ acts) n = all-append IsUnkept (grants_to t (asks_for s e t (s.holder.lives t))) (flat_map (act_deeds s e) acts) (grants_free t (asks_for s e t (s.holder.lives t))) (acts_free acts n)
  acts_free (act.Drawn t ∷ acts) n = all-append IsUnkept (begins_at s e t) (flat_map (act_deeds s e) acts) (begins_free e t) (acts_free acts n)
  acts_free (act.Registered t j ∷ acts) n = (tt, acts_free acts n)
  acts_free (act.Released t ∷ acts) n = (tt, acts_free acts n)
  acts_free (act.Sent to m ∷ acts) n = acts_free acts n
  acts_free (act.Stopped ∷ acts) n = acts_free acts n
  acts_free (act.Failed ∷ acts) n = acts_free acts n
  acts_free (act.Readied t j ts ∷ acts) n = let wrong : true ≡ false = n in cc
  acts_free (act.Decided x js ∷ acts) n = let wrong : true ≡ false = n in cc
  acts_free (act.Applied j x ∷ acts) n = let wrong : true ≡ false = n in cc
  acts_free (act.Forgot t ∷ acts) n = let wrong : true ≡ false = n in cc
  acts_free (act.Regained epoch clock ready xs ∷ acts) n = let wrong : true ≡ false = n in cc

-- ---- what the event brings about

call_free : (s : State) (client : ℕ) (c : Call) (r : Reply) → AllByRecursion IsUnkept (call_deeds s client c r)
call_free s client (call.Join t) r =
    all-cond IsUnkept (is_not_yet r) (joins_here s client t) [] (all-cond IsUnkept (has_part s client t) [] (Joins (next_join s) t client (principal s client) ∷ []) tt (tt, tt)) tt
call_free s client (call.Finish t commit) r = finish_free s.desk commit (s.fates t)
  where
    ends_free : (r : Reply) → AllByRecursion IsUnkept (ends_by t client r)
    ends_free (reply.Refused (refusal.Aborted c)) = (tt, tt)
    ends_free r = tt

    finish_free : (desk : Desk) (commit : Bool) (f : Fate) → AllByRecursion IsUnkept (finishes desk client t commit r f)
    finish_free desk false (Running n js) = all-cond IsUnkept (n == client) (Ends t client cause.Asked ∷ []) [] (tt, tt) tt
    finish_free desk true (Running n js) = all-cond IsUnkept (n == client && is_none (waiting_of desk client t)) (Finishes t ∷ ends_by t client r) [] (tt, ends_free r) tt
    finish_free desk commit f = tt
call_free s client c r = tt

ends_for_free : (t : TransId) (client : ℕ) (c : Option Cause) → AllByRecursion IsUnkept (ends_for t client c)
ends_for_free t client None = tt
ends_for_free t client (Some c) = (tt, tt)

quits_for_free : (j : JoinNo) (t : TransId) (client : ℕ) (c : Option Cause) → AllByRecursion IsUnkept (quits_for j t client c)
quits_for_free j t client None = tt
quits_for_free j t client (Some c) = (tt, tt)

its_free : (t : TransId) (x : Option (TransId × ℕ)) (g : ℕ → List Deed) → ((n : ℕ) → AllByRecursion IsUnkept (g n)) → AllByRecursion IsUnkept (if_its t x g)
its_free t None g h = tt
its_free t (Some x) g h = all-cond IsUnkept (same_trans x.0 t) (g x.1) [] (h x.1) tt

along-cond : (s : State) (b : Bool) (xs : List Deed) → Along state_deed IsUnkeptIn s xs → Along state_deed IsUnkeptIn s (cond {A = List Deed} b xs [])
along-cond s true xs h = h
along-cond s false xs h = tt

-- who is let in has no part yet
entered_free : (s : State) (j : JoinNo) (t : TransId) (o : Option Life) → s.holder.lives t ≡ o → (ws : List Waiting) (p : Phase) → Along state_deed IsUnkeptIn s (enters j t o ws p)
entered_free s j t None is ws (Joining u client who) = along-cond s (same_trans u t && not (is_called t ws)) (Enters j t client who ∷ []) (is, tt)
entered_free s j t None is ws Unseen = tt
entered_free s j t None is ws (Active u c w) = tt
entered_free s j t None is ws (Ready u c ts) = tt
entered_free s j t None is ws (Applied u x) = tt
entered_free s j t None is ws Over = tt
entered_free s j t (Some l) is ws p = tt

refused_free : (j : JoinNo) (t : TransId) (p : Phase) → AllByRecursion IsUnkept (refused_join j t p)
refused_free j t (Joining u client who) = all-cond IsUnkept (same_trans u t) (Quits j t client None ∷ []) [] (tt, tt) tt
refused_free j t p = tt

heard_free : (s : State) (acts : List Act) (t : TransId) (j : JoinNo) (ts : ℕ) (f : Fate) → AllByRecursion IsUnkept (hears s acts t j ts f)
heard_free s acts t j ts (Finishing client js vs) =
    all-cond IsUnkept (has_join j js) (Hears t j ts ∷ ends_for t client (first_sent (abort_in t) acts)) [] (tt, ends_for_free t client (first_sent (abort_in t) acts)) tt
heard_free s acts t j ts f = tt

no_free : (t : TransId) (j : JoinNo) (c : Cause) (f : Fate) → AllByRecursion IsUnkept (refuses t j c f)
no_free t j c (Finishing client js vs) = all-cond IsUnkept (has_join j js) (Ends t client c ∷ []) [] (tt, tt) tt
no_free t j c f = tt

done_free : (t : TransId) (j : JoinNo) (f : Fate) → AllByRecursion IsUnkept (acknowledges t j f)
done_free t j (Committed x js ds) = all-cond IsUnkept (has_join j js) (Acknowledges t j ∷ []) [] (tt, tt) tt
done_free t j f = tt

aborted_free : (s : State) (t : TransId) (j : JoinNo) (c : Cause) → is_ready (s.phases j) ≡ false → (x : Option (TransId × ℕ)) → Along state_deed IsUnkeptIn s (if_its t x (λ client. Aborts j t client c ∷ []))
aborted_free s t j c n None = tt
aborted_free s t j c n (Some x) = along-cond s (same_trans x.0 t) (Aborts j t x.1 c ∷ []) (n, tt)

message_free : (s : State) (acts : List Act) (from : ℕ) (m : Message) → AbortsNoVote s (event.Arrive from m) → Along state_deed IsUnkeptIn s (message_deeds s acts m)
message_free s acts from (msg.Joined t j) n = entered_free s j t (s.holder.lives t) refl s.desk.waits (s.phases j)
message_free s acts from (msg.JoinRefused t j) n = behind (refused_join j t (s.phases j)) (refused_free j t (s.phases j)) s
message_free s acts from (msg.Ask t j) n =
    let g : ℕ → List Deed = λ client. quits_for j t client (first_sent (no_in s.holder.server j) acts) in
    behind (if_its t (open_in (s.phases j)) g) (its_free t (open_in (s.phases j)) g (λ c. quits_for_free j t c (first_sent (no_in s.holder.server j) acts))) s
message_free s acts from (msg.Ready t j ts) n = behind (hears s acts t j ts (s.fates t)) (heard_free s acts t j ts (s.fates t)) s
message_free s acts from (msg.No t j why) n = behind (refuses t j (cause.Voted j.server why) (s.fates t)) (no_free t j (cause.Voted j.server why) (s.fates t)) s
message_free s acts from (msg.Abort t j c) n = aborted_free s t j c n (live_in (s.phases j))
message_free s acts from (msg.Done t j) n = behind (acknowledges t j (s.fates t)) (done_free t j (s.fates t)) s
message_free s acts from (msg.Register t j client) n = tt
message_free s acts from (msg.Commit t j stamp) n = tt
message_free s acts from (msg.Inquire t j) n = tt

timed_free : (s : State) (t : TransId) (js : List JoinNo) → AllByRecursion IsUnkept (flat_map (times_out_join s t) js)
timed_free s t [] = tt
timed_free s t (j ∷ js) =
    let g : ℕ → List Deed = λ client. Quits j t client (Some cause.TimedOut) ∷ [] in
    all-append IsUnkept (times_out_join s t j) (flat_map (times_out_join s t) js) (its_free t (open_in (s.phases j)) g (λ c. (tt, tt))) (timed_free s t js)

timeout_free : (s : State) (t : TransId) (o : Option ℕ) → AllByRecursion IsUnkept (times_out_here t o ++ flat_map (times_out_join s t) s.joined)
timeout_free s t None = timed_free s t s.joined
timeout_free s t (Some client) = (tt, timed_free s t s.joined)

event_free : (s : State) (e : Event) (r : Option Reply) (acts : List Act) → AbortsNoVote s e → Along state_deed IsUnkeptIn s (event_deeds s e r acts)
event_free s (event.Call client epoch number c) (Some r) acts n =
    let all : AllByRecursion IsUnkept (cond {A = List Deed} (is_new s client epoch number) (call_deeds s client c r) []) = all-cond IsUnkept (is_new s client epoch number) (call_deeds s client c r) [] (call_free s client c r) tt in
    behind (cond {A = List Deed} (is_new s client epoch number) (call_deeds s client c r) []) all s
event_free s (event.Call client epoch number c) None acts n = tt
event_free s (event.Arrive from m) r acts n = message_free s acts from m n
event_free s (event.Timeout t) r acts n = behind (times_out_here t (client_of (s.fates t)) ++ flat_map (times_out_join s t) s.joined) (timeout_free s t (client_of (s.fates t))) s
event_free s event.Tick r acts n = tt
event_free s event.Force r acts n = tt
event_free s event.Restart r acts n = tt

-- ---- what is performed

done_by_free : (s : State) (c : Call) (r : Reply) (o : Option TransId) → AllByRecursion IsUnkept (done_by s c r o)
done_by_free s c r None = tt
done_by_free s c r (Some t) = all-cond IsUnkept (is_passing r || is_of_no_file s c r) [] (Performs t (record { call = c; reply = r }) ∷ []) tt (tt, tt)

done_of_free : (s : State) (r : Reply) (o : Option Call) → AllByRecursion IsUnkept (done_of s r o)
done_of_free s r None = tt
done_of_free s r (Some c) = done_by_free s c r (file_trans c)

performed_free : (s : State) (e : Event) (r : Option Reply) → AllByRecursion IsUnkept (done_deeds s e r)
performed_free s (event.Call client epoch number c) (Some r) = all-cond IsUnkept (is_new s client epoch number) (done_of s r (answered s client c)) [] (done_of_free s r (answered s client c)) tt
performed_free s (event.Call client epoch number c) None = tt
performed_free s (event.Arrive from m) r = tt
performed_free s (event.Timeout t) r = tt
performed_free s event.Tick r = tt
performed_free s event.Force r = tt
performed_free s event.Restart r = tt

pub entry_free : (s : State) (e : Entry) → list_any is_write e.acts ≡ false → AbortsNoVote s e.event → Along state_deed IsUnkeptIn s (tried s e)
entry_free s e n a =
    first_then (event_deeds s e.event e.reply e.acts ++ flat_map (act_deeds s e.event) e.acts) (done_deeds s e.event e.reply) (performed_free s e.event e.reply) s
    (first_then (event_deeds s e.event e.reply e.acts) (flat_map (act_deeds s e.event) e.acts) (acts_free s e.event e.acts n) s (event_free s e.event e.reply e.acts a))

-- ---- an entry

-- each ready part of a state that stands did vote
pub stands_voted : (a : Account) → IsQuiet a → AreVoted (state_of a)
stands_voted a q j t client ts is =
    let life = subst (HasLife a.holder.lives j) is (q.settled.stands.held j) in
    let paired : IsPaired t a.phases (Some life.0) (a.fates t) = subst (λ (o : Option Life). IsPaired t a.phases o (a.fates t)) life.1 (q.settled.stands.paired t) in
    let known = subst (IsPhaseOf a.servers a.holder.server a.ids.epoch a.ids.joins a.joined j) is (q.settled.stands.phases j) in
    record { life = life.0; live = life.1; vote = voted life.0 life.0.join life.2 paired; join = life.2; away = away_of (is_other_parts known.1) }
  where
    some_same : {k : JoinNo} → Some k ≡ Some j → k ≡ j
    some_same {k} at = ap (λ (x : Option JoinNo). or_this x) at
      where
        or_this : Option JoinNo → JoinNo
        or_this None = k
        or_this (Some x) = x

    from : (l : Life) (k : JoinNo) → k ≡ j → IsJoined t l (a.phases k) → l.vote ≡ Some ts
    from l k at (inl h) = let wrong : Active t l.client l.who ≡ Ready t client ts = sym h.0 ∙ ap a.phases at ∙ is in cc
    from l k at (inr h) = h.2 ∙ ap Some (time_same (sym h.1 ∙ ap a.phases at ∙ is))
      where
        time_in : Phase → ℕ
        time_in (Ready u c us) = us
        time_in p = 0

        time_same : Ready t l.client h.0 ≡ Ready t client ts → h.0 ≡ ts
        time_same x = ap time_in x

    voted : (l : Life) (o : Option JoinNo) → o ≡ Some j → IsPartAs t a.phases l (a.fates t) o → l.vote ≡ Some ts
    voted l None at h = let wrong : None ≡ Some j = at in cc
    voted l (Some k) at h = from l k (some_same at) h.0

    is_other_parts : is_other a.servers a.holder.server t.server ≡ true → not (t.server == a.holder.server) ≡ true
    is_other_parts h = (and_parts (nat_lt 0 t.server && nat_lt t.server (a.servers + 1)) (not (t.server == a.holder.server)) h).1

    away_of : not (t.server == a.holder.server) ≡ true → (t.server == a.holder.server) ≡ false
    away_of h = go (t.server == a.holder.server) h
      where
        go : (b : Bool) → not b ≡ true → b ≡ false
        go true h = let wrong : false ≡ true = h in cc
        go false h = refl

module _ (a m : Account) (e : Entry) (quiet : IsQuiet a) (law : IsLawfulEntry (state_of a) e) (leads : next (state_of a) e ≡ state_of m) where
  -- it is no restart
  deeds_lawful : (x : Event) → (x ≡ event.Restart → ⊥) → DeedsAreLawful (state_of a) e x → Along state_deed (IsLawfulDeed x) (state_of a) (tried (state_of a) e)
  deeds_lawful (event.Call client epoch number c) n h = h
  deeds_lawful (event.Arrive from y) n h = h
  deeds_lawful (event.Timeout t) n h = h
  deeds_lawful event.Tick n h = h
  deeds_lawful event.Force n h = h
  deeds_lawful event.Restart n h = absurd (n refl)

  pub entry_says : (e.event ≡ event.Restart → ⊥) → list_any is_write e.acts ≡ false → AbortsNoVote (state_of a) e.event → SaysAsBefore (state_of a) (state_of m)
  entry_says n w b = subst (SaysAsBefore (state_of a)) leads (go (stops e))
    where
      go : (x : Bool) → SaysAsBefore (state_of a) (cond {A = State} x (halted (state_of a) e) (told (state_of a) e))
      go true = record { server = refl; servers = refl; kept = refl; ready = λ j x h. h; decided = λ t. refl }
      go false =
          let k : SaysAsBefore (state_of a) (did (state_of a) e) = deeds_say e.event (tried (state_of a) e) (state_of a) (entry_free (state_of a) e w b) (deeds_lawful e.event n law.deeds) (stands_voted a quiet) in
          record { server = k.server; servers = k.servers; kept = k.kept; ready = k.ready; decided = k.decided }

  pub notes_stay : (e.event ≡ event.Restart → ⊥) → list_any is_write e.acts ≡ false → AbortsNoVote (state_of a) e.event → (epoch : ℕ) (notes : Notes) → AreNotesOf (state_of a) epoch notes → AreNotesOf (state_of m) epoch notes
  notes_stay n w b epoch notes h = notes_along (state_of a) (state_of m) epoch notes (entry_says n w b) h
