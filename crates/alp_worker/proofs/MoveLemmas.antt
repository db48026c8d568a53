-- what becomes of a join, of the kept joins and of the journal alike
use Rattle.std.specs.Prelude.{cond, Bool, true, false, not, ◌&&◌, Option, None, Some, is_some}
use Rattle.std.specs.Option.{option_map}
use Rattle.std.proofs.Common.{◌≡◌, ℕ, List, [], ◌++◌, refl, sym, ◌∙◌, ap, subst}
use Rattle.std.proofs.lemmas.List.{append-nil}
use Rattle.alp_base.specs.declared.ids.JoinNo.{JoinNo}
use Rattle.alp_base.specs.declared.ids.TransId.{TransId}
use Rattle.alp_base.specs.declared.ids.Stamp.{Stamp}
use Rattle.alp_files.specs.History.{PerformedCall}
use Rattle.alp_files.specs.declared.call.Call.{Call}
use Rattle.alp_files.specs.declared.refusal.Cause.{Cause}
use Rattle.alp_journal.specs.Deeds.{Deed, Begins, Joins as JoinsOf, Enters, Quits, Aborts, Grants, Performs, Releases, Readies, Applies, Registers, Finishes, Hears, Decides, Ends, Acknowledges, Forgets, Restarts}
use Rattle.alp_journal.specs.Holder.{Life, holder_after, grants, performs, readies, commits}
use Rattle.alp_journal.specs.Ids.{same_join, same_trans}
use Rattle.alp_journal.specs.Participant.{Phase, Unseen, Joining, Active, Ready, Applied, Over, live_in, entered, readied, applied, quit, aborted, phase_after}
use Rattle.alp_journal.specs.State.{State, state_deed, ids_after, joined_by}
use Rattle.alp_worker.specs.Joins.{AreJoins, AreJoinsOf, is_move, joins_after, with_entered, with_readied, with_quit, with_aborted, with_applied}
use Rattle.alp_worker.specs.Lives.{live_at, is_at, join_at, AreOnce, AreSingle, is_open, is_ready_in, stage_after, staged_one, staged, without}
use Rattle.alp_worker.specs.declared.joins.Joins.{Joins}
use Rattle.alp_worker.specs.declared.live.LiveJoin.{LiveJoin}
use Rattle.alp_worker.specs.declared.live.Stage.{Stage}
use Rattle.alp_worker.specs.declared.live.Stage.TheVariants as stage
use Rattle.alp_worker.specs.declared.live.Step.TheVariants as step
use Rattle.alp_worker.proofs.LiveLemmas.{staged_at, once_staged, single_staged, stays_if, without_at, once_filter, single_filter}

-- ---- one join, and its phase

abbrev live : JoinNo → TransId → ℕ → Stage → LiveJoin
live j t client s = record { join = j; trans = t; client = client; stage = s }

abbrev with_stage : (Stage → Stage) → LiveJoin → LiveJoin
with_stage f l = record l { stage = f l.stage }

some_cond : (b : Bool) (x y : LiveJoin) → Some (cond b x y) ≡ cond {A = Option LiveJoin} b (Some x) (Some y)
some_cond true x y = refl
some_cond false x y = refl

cond_same : {A : Type 0} (b : Bool) (x : A) → x ≡ cond b x x
cond_same true x = refl
cond_same false x = refl

live_cond : (b : Bool) (i : JoinNo) (p q : Phase) → cond {A = Option LiveJoin} b (live_at i p) (live_at i q) ≡ live_at i (cond {A = Phase} b p q)
live_cond true i p q = refl
live_cond false i p q = refl

-- the join goes on
staged_live : (f : Stage → Stage) (j i : JoinNo) (p : Phase) → option_map (staged_one j f) (live_at i p) ≡ cond {A = Option LiveJoin} (same_join j i) (option_map (with_stage f) (live_at i p)) (live_at i p)
staged_live f j i (Joining t client who) = some_cond (same_join j i) (live i t client (f (stage.Joining who))) (live i t client (stage.Joining who))
staged_live f j i (Active t client who) = some_cond (same_join j i) (live i t client (f (stage.Active who))) (live i t client (stage.Active who))
staged_live f j i (Ready t client ts) = some_cond (same_join j i) (live i t client (f (stage.Ready ts))) (live i t client (stage.Ready ts))
staged_live f j i Unseen = cond_same (same_join j i) None
staged_live f j i (Applied t stamp) = cond_same (same_join j i) None
staged_live f j i Over = cond_same (same_join j i) None

staged_phase : (f : Stage → Stage) (m : Phase → Phase) → ((i : JoinNo) (p : Phase) → option_map (with_stage f) (live_at i p) ≡ live_at i (m p))
    → (j i : JoinNo) (ls : List LiveJoin) (p : Phase) → join_at ls i ≡ live_at i p → join_at (staged j f ls) i ≡ live_at i (cond {A = Phase} (same_join j i) (m p) p)
staged_phase f m moves j i ls p is =
    staged_at j i f ls ∙ ap (option_map (staged_one j f)) is ∙ staged_live f j i p
    ∙ ap (λ (o : Option LiveJoin). cond {A = Option LiveJoin} (same_join j i) o (live_at i p)) (moves i p) ∙ live_cond (same_join j i) i (m p) p

-- the join ends
abbrev left_if : (LiveJoin → Bool) → Option LiveJoin → Option LiveJoin
left_if q None = None
left_if q (Some l) = cond (q l) None (Some l)

and_cond : (b c : Bool) (o : Option LiveJoin) → cond {A = Option LiveJoin} (b && c) None o ≡ cond {A = Option LiveJoin} b (cond {A = Option LiveJoin} c None o) o
and_cond true c o = refl
and_cond false c o = refl

stays_live : (q : LiveJoin → Bool) (j i : JoinNo) (p : Phase) → stays_if q j (live_at i p) ≡ cond {A = Option LiveJoin} (same_join j i) (left_if q (live_at i p)) (live_at i p)
stays_live q j i (Joining t client who) = and_cond (same_join j i) (q (live i t client (stage.Joining who))) (Some (live i t client (stage.Joining who)))
stays_live q j i (Active t client who) = and_cond (same_join j i) (q (live i t client (stage.Active who))) (Some (live i t client (stage.Active who)))
stays_live q j i (Ready t client ts) = and_cond (same_join j i) (q (live i t client (stage.Ready ts))) (Some (live i t client (stage.Ready ts)))
stays_live q j i Unseen = cond_same (same_join j i) None
stays_live q j i (Applied t stamp) = cond_same (same_join j i) None
stays_live q j i Over = cond_same (same_join j i) None

ended_phase : (q : LiveJoin → Bool) (m : Phase → Phase) → ((i : JoinNo) (p : Phase) → left_if q (live_at i p) ≡ live_at i (m p))
    → (j i : JoinNo) (ls : List LiveJoin) (p : Phase) → AreOnce ls → join_at ls i ≡ live_at i p → join_at (without j q ls) i ≡ live_at i (cond {A = Phase} (same_join j i) (m p) p)
ended_phase q m ends j i ls p once is =
    without_at j i q ls once ∙ ap (stays_if q j) is ∙ stays_live q j i p
    ∙ ap (λ (o : Option LiveJoin). cond {A = Option LiveJoin} (same_join j i) o (live_at i p)) (ends i p) ∙ live_cond (same_join j i) i (m p) p

-- ---- the moves

enters_phase : (i : JoinNo) (p : Phase) → option_map (with_stage (stage_after step.Enter)) (live_at i p) ≡ live_at i (entered p)
enters_phase i (Joining t client who) = refl
enters_phase i (Active t client who) = refl
enters_phase i (Ready t client ts) = refl
enters_phase i Unseen = refl
enters_phase i (Applied t stamp) = refl
enters_phase i Over = refl

votes_phase : (ts : ℕ) (i : JoinNo) (p : Phase) → option_map (with_stage (stage_after (step.Vote ts))) (live_at i p) ≡ live_at i (readied ts p)
votes_phase ts i (Joining t client who) = refl
votes_phase ts i (Active t client who) = refl
votes_phase ts i (Ready t client time) = refl
votes_phase ts i Unseen = refl
votes_phase ts i (Applied t stamp) = refl
votes_phase ts i Over = refl

quits_phase : (i : JoinNo) (p : Phase) → left_if (λ (l : LiveJoin). is_open l.stage) (live_at i p) ≡ live_at i (quit p)
quits_phase i (Joining t client who) = refl
quits_phase i (Active t client who) = refl
quits_phase i (Ready t client ts) = refl
quits_phase i Unseen = refl
quits_phase i (Applied t stamp) = refl
quits_phase i Over = refl

aborts_phase : (u : TransId) (i : JoinNo) (p : Phase) → left_if (λ (l : LiveJoin). same_trans u l.trans) (live_at i p) ≡ live_at i (aborted u p)
aborts_phase u i (Joining t client who) = live_cond (same_trans u t) i Over (Joining t client who)
aborts_phase u i (Active t client who) = live_cond (same_trans u t) i Over (Active t client who)
aborts_phase u i (Ready t client ts) = live_cond (same_trans u t) i Over (Ready t client ts)
aborts_phase u i Unseen = refl
aborts_phase u i (Applied t stamp) = refl
aborts_phase u i Over = refl

never : (b : Bool) (o : Option LiveJoin) → cond {A = Option LiveJoin} (b && false) None o ≡ o
never true o = refl
never false o = refl

always : (b : Bool) (o : Option LiveJoin) → cond {A = Option LiveJoin} (b && true) None o ≡ cond {A = Option LiveJoin} b None o
always true o = refl
always false o = refl

applies_phase : (stamp : Stamp) (i : JoinNo) (p : Phase) → left_if (is_ready_in stamp.trans) (live_at i p) ≡ live_at i (applied stamp p)
applies_phase stamp i (Joining t client who) = never (same_trans stamp.trans t) (Some (live i t client (stage.Joining who)))
applies_phase stamp i (Active t client who) = never (same_trans stamp.trans t) (Some (live i t client (stage.Active who)))
applies_phase stamp i (Ready t client ts) = always (same_trans stamp.trans t) (Some (live i t client (stage.Ready ts))) ∙ live_cond (same_trans stamp.trans t) i (Applied t stamp) (Ready t client ts)
applies_phase stamp i Unseen = refl
applies_phase stamp i (Applied t x) = refl
applies_phase stamp i Over = refl

-- what is over stays so, and what was not seen
pub record IsMove (m : Phase → Phase) : Type 0 where
  pub falls : (p : Phase) → is_some (live_in (m p)) ≡ true → is_some (live_in p) ≡ true
  pub unseen : m Unseen ≡ Unseen

entered_move : IsMove entered
entered_move = record { falls = go; unseen = refl }
  where
    go : (p : Phase) → is_some (live_in (entered p)) ≡ true → is_some (live_in p) ≡ true
    go (Joining t client who) h = refl
    go (Active t client who) h = refl
    go (Ready t client ts) h = refl
    go Unseen h = h
    go (Applied t stamp) h = h
    go Over h = h

readied_move : (ts : ℕ) → IsMove (readied ts)
readied_move ts = record { falls = go; unseen = refl }
  where
    go : (p : Phase) → is_some (live_in (readied ts p)) ≡ true → is_some (live_in p) ≡ true
    go (Joining t client who) h = refl
    go (Active t client who) h = refl
    go (Ready t client time) h = refl
    go Unseen h = h
    go (Applied t stamp) h = h
    go Over h = h

quit_move : IsMove quit
quit_move = record { falls = go; unseen = refl }
  where
    go : (p : Phase) → is_some (live_in (quit p)) ≡ true → is_some (live_in p) ≡ true
    go (Joining t client who) h = refl
    go (Active t client who) h = refl
    go (Ready t client ts) h = refl
    go Unseen h = h
    go (Applied t stamp) h = h
    go Over h = h

aborted_move : (u : TransId) → IsMove (aborted u)
aborted_move u = record { falls = go; unseen = refl }
  where
    go : (p : Phase) → is_some (live_in (aborted u p)) ≡ true → is_some (live_in p) ≡ true
    go (Joining t client who) h = refl
    go (Active t client who) h = refl
    go (Ready t client ts) h = refl
    go Unseen h = h
    go (Applied t stamp) h = h
    go Over h = h

applied_move : (stamp : Stamp) → IsMove (applied stamp)
applied_move stamp = record { falls = go; unseen = refl }
  where
    go : (p : Phase) → is_some (live_in (applied stamp p)) ≡ true → is_some (live_in p) ≡ true
    go (Joining t client who) h = refl
    go (Active t client who) h = refl
    go (Ready t client ts) h = refl
    go Unseen h = h
    go (Applied t x) h = h
    go Over h = h

-- ---- the kept joins

-- one join moves
moved : (m : Phase → Phase) → IsMove m → (j : JoinNo) (ls : List LiveJoin) (here epoch drawn : ℕ) (phases : JoinNo → Phase) (joined : List JoinNo) (k : Joins) → AreJoins here epoch drawn phases joined k
    → ((i : JoinNo) → join_at ls i ≡ live_at i (cond {A = Phase} (same_join j i) (m (phases i)) (phases i))) → AreOnce ls → AreSingle ls
    → AreJoins here epoch drawn (λ i. cond {A = Phase} (same_join j i) (m (phases i)) (phases i)) joined (record k { lives = ls })
moved m is j ls here epoch drawn phases joined k h live once single = record {
  server = h.server;
  current = h.current;
  count = h.count;
  raised = h.raised;
  live = live;
  once = once;
  single = single;
  known = λ i e. h.known i (falls i (same_join j i) e);
  apart = h.apart;
  numbered = h.numbered;
  unseen = λ i e. still i (same_join j i) (h.unseen i e);
}
  where
    falls : (i : JoinNo) (b : Bool) → is_some (live_in (cond {A = Phase} b (m (phases i)) (phases i))) ≡ true → is_some (live_in (phases i)) ≡ true
    falls i true e = is.falls (phases i) e
    falls i false e = e

    still : (i : JoinNo) (b : Bool) → phases i ≡ Unseen → cond {A = Phase} b (m (phases i)) (phases i) ≡ Unseen
    still i true e = ap m e ∙ is.unseen
    still i false e = e

staged_moved : (f : Stage → Stage) (m : Phase → Phase) → IsMove m → ((i : JoinNo) (p : Phase) → option_map (with_stage f) (live_at i p) ≡ live_at i (m p))
    → (j : JoinNo) (here epoch drawn : ℕ) (phases : JoinNo → Phase) (joined : List JoinNo) (k : Joins) → AreJoins here epoch drawn phases joined k
    → AreJoins here epoch drawn (λ i. cond {A = Phase} (same_join j i) (m (phases i)) (phases i)) joined (record k { lives = staged j f k.lives })
staged_moved f m is moves j here epoch drawn phases joined k h =
    moved m is j (staged j f k.lives) here epoch drawn phases joined k h (λ i. staged_phase f m moves j i k.lives (phases i) (h.live i)) (once_staged j f k.lives h.once) (single_staged j f k.lives h.single)

ended_moved : (q : LiveJoin → Bool) (m : Phase → Phase) → IsMove m → ((i : JoinNo) (p : Phase) → left_if q (live_at i p) ≡ live_at i (m p))
    → (j : JoinNo) (here epoch drawn : ℕ) (phases : JoinNo → Phase) (joined : List JoinNo) (k : Joins) → AreJoins here epoch drawn phases joined k
    → AreJoins here epoch drawn (λ i. cond {A = Phase} (same_join j i) (m (phases i)) (phases i)) joined (record k { lives = without j q k.lives })
ended_moved q m is ends j here epoch drawn phases joined k h =
    moved m is j (without j q k.lives) here epoch drawn phases joined k h (λ i. ended_phase q m ends j i k.lives (phases i) h.once (h.live i))
    (once_filter (λ (l : LiveJoin). not (is_at j l && q l)) k.lives h.once) (single_filter (λ (l : LiveJoin). not (is_at j l && q l)) k.lives h.single)

-- ---- the state

-- a server keeps its number
pub server_same : (s : State) (d : Deed) → (holder_after s.holder d).server ≡ s.holder.server
server_same s d = go d
  where
    g : (t : TransId) (c : Call) (l : Option Life) → (grants s.holder t c l).server ≡ s.holder.server
    g t c None = refl
    g t c (Some l) = refl

    p : (t : TransId) (x : PerformedCall) (l : Option Life) → (performs s.holder t x l).server ≡ s.holder.server
    p t x None = refl
    p t x (Some l) = refl

    r : (t : TransId) (ts : ℕ) (l : Option Life) → (readies s.holder t ts l).server ≡ s.holder.server
    r t ts None = refl
    r t ts (Some l) = refl

    c : (x : Stamp) (l : Option Life) → (commits s.holder x l).server ≡ s.holder.server
    c x None = refl
    c x (Some l) = refl

    go : (d : Deed) → (holder_after s.holder d).server ≡ s.holder.server
    go (Grants t x) = g t x (s.holder.lives t)
    go (Performs t x) = p t x (s.holder.lives t)
    go (Readies j t ts) = r t ts (s.holder.lives t)
    go (Applies j x) = c x (s.holder.lives x.trans)
    go (Decides x js) = c x (s.holder.lives x.trans)
    go (Begins t client who seen) = refl
    go (Enters j t client who) = refl
    go (Aborts j t client x) = refl
    go (Releases t) = refl
    go (Restarts epoch clock) = refl
    go d = refl

-- the state after a deed that draws no join
stands : (s : State) (d : Deed) (k : Joins) → joined_by d ≡ [] → (ids_after s.ids d).epoch ≡ s.ids.epoch → (ids_after s.ids d).joins ≡ s.ids.joins
    → AreJoins s.holder.server s.ids.epoch s.ids.joins (λ i. phase_after d i (s.phases i)) s.joined k → AreJoinsOf (state_deed s d) k
stands s d k none epoch count h =
    subst (λ (n : ℕ). AreJoins n (ids_after s.ids d).epoch (ids_after s.ids d).joins (λ i. phase_after d i (s.phases i)) (s.joined ++ joined_by d) k) (sym (server_same s d))
    (subst (λ (n : ℕ). AreJoins s.holder.server n (ids_after s.ids d).joins (λ i. phase_after d i (s.phases i)) (s.joined ++ joined_by d) k) (sym epoch)
    (subst (λ (n : ℕ). AreJoins s.holder.server s.ids.epoch n (λ i. phase_after d i (s.phases i)) (s.joined ++ joined_by d) k) (sym count)
    (subst (λ (js : List JoinNo). AreJoins s.holder.server s.ids.epoch s.ids.joins (λ i. phase_after d i (s.phases i)) (s.joined ++ js) k) (sym none)
    (subst (λ (js : List JoinNo). AreJoins s.holder.server s.ids.epoch s.ids.joins (λ i. phase_after d i (s.phases i)) js k) (sym (append-nil s.joined)) h))))

module _ (s : State) (k : Joins) (h : AreJoinsOf s k) where
  pub enters_kept : (j : JoinNo) (t : TransId) (client : ℕ) (who : List ℕ) → AreJoinsOf (state_deed s (Enters j t client who)) (with_entered k j)
  enters_kept j t client who = stands s (Enters j t client who) (with_entered k j) refl refl refl (staged_moved (stage_after step.Enter) entered entered_move enters_phase j s.holder.server s.ids.epoch s.ids.joins s.phases s.joined k h)

  pub readies_kept : (j : JoinNo) (t : TransId) (ts : ℕ) → AreJoinsOf (state_deed s (Readies j t ts)) (with_readied k j ts)
  readies_kept j t ts = stands s (Readies j t ts) (with_readied k j ts) refl refl refl (staged_moved (stage_after (step.Vote ts)) (readied ts) (readied_move ts) (votes_phase ts) j s.holder.server s.ids.epoch s.ids.joins s.phases s.joined k h)

  pub quits_kept : (j : JoinNo) (t : TransId) (client : ℕ) (c : Option Cause) → AreJoinsOf (state_deed s (Quits j t client c)) (with_quit k j)
  quits_kept j t client c = stands s (Quits j t client c) (with_quit k j) refl refl refl (ended_moved (λ (l : LiveJoin). is_open l.stage) quit quit_move quits_phase j s.holder.server s.ids.epoch s.ids.joins s.phases s.joined k h)

  pub aborts_kept : (j : JoinNo) (t : TransId) (client : ℕ) (c : Cause) → AreJoinsOf (state_deed s (Aborts j t client c)) (with_aborted k j t)
  aborts_kept j t client c = stands s (Aborts j t client c) (with_aborted k j t) refl refl refl (ended_moved (λ (l : LiveJoin). same_trans t l.trans) (aborted t) (aborted_move t) (aborts_phase t) j s.holder.server s.ids.epoch s.ids.joins s.phases s.joined k h)

  pub applies_kept : (j : JoinNo) (stamp : Stamp) → AreJoinsOf (state_deed s (Applies j stamp)) (with_applied k j stamp.trans)
  applies_kept j stamp = stands s (Applies j stamp) (with_applied k j stamp.trans) refl refl refl (ended_moved (is_ready_in stamp.trans) (applied stamp) (applied_move stamp) (applies_phase stamp) j s.holder.server s.ids.epoch s.ids.joins s.phases s.joined k h)

  -- whatever comes about but a draw and a restart
  pub follows : (d : Deed) → is_move d ≡ true → AreJoinsOf (state_deed s d) (joins_after d k)
  follows (JoinsOf j t client who) e = cc
  follows (Restarts epoch clock) e = cc
  follows (Enters j t client who) e = enters_kept j t client who
  follows (Readies j t ts) e = readies_kept j t ts
  follows (Quits j t client c) e = quits_kept j t client c
  follows (Aborts j t client c) e = aborts_kept j t client c
  follows (Applies j stamp) e = applies_kept j stamp
  follows (Begins t client who seen) e = stands s (Begins t client who seen) k refl refl refl h
  follows (Grants t c) e = stands s (Grants t c) k refl refl refl h
  follows (Performs t x) e = stands s (Performs t x) k refl refl refl h
  follows (Releases t) e = stands s (Releases t) k refl refl refl h
  follows (Registers t j) e = stands s (Registers t j) k refl refl refl h
  follows (Finishes t) e = stands s (Finishes t) k refl refl refl h
  follows (Hears t j ts) e = stands s (Hears t j ts) k refl refl refl h
  follows (Decides x js) e = stands s (Decides x js) k refl refl refl h
  follows (Ends t client c) e = stands s (Ends t client c) k refl refl refl h
  follows (Acknowledges t j) e = stands s (Acknowledges t j) k refl refl refl h
  follows (Forgets t) e = stands s (Forgets t) k refl refl refl h
