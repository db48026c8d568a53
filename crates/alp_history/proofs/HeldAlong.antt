-- what a server of a log holds is one thread's history at each place of its journal
use Rattle.std.specs.Prelude.{Bool, true, false, cond, not, ◌&&◌, ◌||◌, ◌==◌, nat_lt, filter, Option, None, Some}
use Rattle.std.specs.List.{list_any, AllByRecursion}
use Rattle.std.specs.Option.{option_to_list}
use Rattle.std.specs.FinMap.Entries.{put, by_order}
use Rattle.std.specs.declared.cmp.Ordering.{Ordering}
use Rattle.std.specs.declared.cmp.Ordering.TheVariants.{Less, Equal, Greater}
use Rattle.std.specs.Ordering.{nat_cmp}
use Rattle.std.proofs.Common.{◌≡◌, ℕ, suc, ◌+◌, ◌<◌, ◌≤◌, List, [], ◌∷◌, ◌++◌, slice_get, length, refl, sym, ap, subst, ◌∙◌, arith, inl, inr, ◌⊎◌, eq-eqb}
use Rattle.std.proofs.lemmas.Bool.{and_parts}
use Rattle.std.proofs.lemmas.Bool.Decides.{nat_tests}
use Rattle.std.proofs.lemmas.Map.Lookups.{exact_pairs, exact_unsigned}
use Rattle.alp_base.specs.declared.ids.FileId.{FileId}
use Rattle.alp_base.specs.declared.ids.JoinNo.{JoinNo}
use Rattle.alp_base.specs.declared.ids.TransId.{TransId}
use Rattle.alp_base.specs.declared.ids.Stamp.{Stamp}
use Rattle.alp_base.specs.Orders.{trans_cmp, exact_transactions}
use Rattle.alp_files.specs.Cells.{same_file, has_file}
use Rattle.alp_files.specs.Act.{id_in}
use Rattle.alp_files.specs.History.{PerformedCall, Decided}
use Rattle.alp_journal.specs.declared.event.Event.{Event}
use Rattle.alp_journal.specs.declared.event.Event.TheVariants as event
use Rattle.alp_journal.specs.declared.entry.Entry.{Entry}
use Rattle.alp_journal.specs.Along.{Along, Where, state_after}
use Rattle.alp_journal.specs.Ids.{same_trans, same_join, has_join, stamp_cmp}
use Rattle.alp_journal.specs.Opening.{ReadyNote}
use Rattle.alp_journal.specs.Deeds.{Deed, Begins, Joins, Enters, Quits, Aborts, Grants, Performs, Releases, Readies, Applies, Registers, Finishes, Hears, Decides, Ends, Acknowledges, Forgets, Restarts}
use Rattle.alp_journal.specs.Coordinator.{Fate, Vote, Finishing, decision_in, is_running, fate_after}
use Rattle.alp_journal.specs.Participant.{Phase, Unseen, Ready, Applied, phase_after, phase_noted, open_in, Joining, Active}
use Rattle.alp_journal.specs.Holder.{Holder, Life, holder_after, commits, grants, performs, readies}
use Rattle.alp_journal.specs.State.{Ids, State, ids_after, joined_by, state_deed, is_other_server}
use Rattle.alp_journal.specs.Moves.{next_file, next_join, is_new, no_in, first_sent, quits_for, if_its, event_deeds, act_deeds, answered, is_of_no_file, done_by, done_of, done_deeds, is_stop, stops, tried, did, told, halted, next, resolved, is_effective, next_trans}
use Rattle.alp_journal.specs.Laws.{latest_vote, CountsOn, DecidesRight, AppliesRight, DecidesAt, is_written, IsStopped, TellsStop, StopsRight, Regains, regained_by, IsOpenPart, HasEnded, LivesVoted, LivesUnvoted}
use Rattle.alp_journal.specs.Holding.{IsNewStamp, IsTimely, HasNotVoted, MayDo}
use Rattle.alp_history.specs.Log.{Log, journal_of, opening_of, state_at, final, IsIn}
use Rattle.alp_history.specs.Theorems.{IsProper}
use Rattle.alp_history.proofs.Places.{in-list, some-same, state-append}
use Rattle.alp_journal.specs.Desk.{Desk, file_trans}
use Rattle.alp_files.specs.Passing.{is_passing}
use Rattle.alp_files.specs.declared.call.Call.{Call}
use Rattle.alp_files.specs.declared.reply.Reply.{Reply}
use Rattle.alp_journal.specs.declared.act.Act.{Act}
use Rattle.alp_journal.specs.declared.act.Act.TheVariants as act
use Rattle.alp_history.proofs.Entries.{is_open, effective-open}
use Rattle.alp_files.proofs.SameLemmas.{same_file-true}
use Rattle.alp_journal.proofs.IdLemmas.{same_join-true, same_trans-itself, all-filter, all-append}
use Rattle.alp_journal.proofs.MadeIds.{all-map, WasMade, made-fresh, made-after}
use Rattle.alp_history.proofs.Fates.{Decision}
use Rattle.alp_history.proofs.Phases.{IsJoining, IsSeen, home-stays, phase-cases, unseen-stays, IsTold, Carries}
use Rattle.alp_journal.proofs.Origins.{IsFrom, IsEventFrom, event-from, tried-from}
use Rattle.alp_history.proofs.Logs.{server-stays}
use Rattle.alp_journal.proofs.HeldLemmas.{latest-after}
use Rattle.alp_journal.proofs.OneServer.{IsHeld, deed_held, own-life}
use Rattle.alp_history.proofs.Linked.{IsPart, IsLinkedUp, Does, linked-after}
use Rattle.alp_history.proofs.Turned.{leads_on, IsTest, runs-the-same, is_left, Began, turns}
use Rattle.alp_history.proofs.Agreed.{WasDrawn, past-from, not-next, drawn-after, later-law, drawn-epoch, carries-right, size, committed-parts, AbortCame, CommitCame, AreTold, told-keep}
use Rattle.alp_history.proofs.Stamped.{IsSameVote, vote-stays, vote-from, NotedIn, Tells, commit-of}
use Rattle.alp_journal.specs.declared.message.Message.TheVariants as msg
use Rattle.alp_history.proofs.Rights.{IsRightDeed}

-- ---- stamps

pub exact_stamps : (a b : Stamp) → stamp_cmp a b ≡ Equal → a ≡ b
exact_stamps a b h =
    ap (λ (p : ℕ × TransId). record { ts = p.0; trans = p.1 }) (exact_pairs nat_cmp trans_cmp exact_unsigned exact_transactions (a.ts, a.trans) (b.ts, b.trans) h)

-- what holds of a key that is put and of all others
pub put-keys : {X : Type 0} (P : Stamp → Type 0) (k : Stamp) (v : X) (xs : List (Stamp × X)) → P k → AllByRecursion (λ (x : Stamp × X). P x.0) xs → AllByRecursion (λ (x : Stamp × X). P x.0) (put stamp_cmp k v xs)
put-keys P k v [] h g = (h, tt)
put-keys P k v (x ∷ xs) h g = go (stamp_cmp k x.0) (put-keys P k v xs h g.1)
  where
    go : (o : Ordering) → AllByRecursion (λ x. P x.0) (put stamp_cmp k v xs) → AllByRecursion (λ x. P x.0) (by_order o ((k, v) ∷ x ∷ xs) ((x.0, v) ∷ xs) (x ∷ put stamp_cmp k v xs))
    go Less rest = (h, g)
    go Equal rest = (g.0, g.1)
    go Greater rest = (g.0, rest)

pub same_join-itself : (j : JoinNo) → same_join j j ≡ true
same_join-itself t =
    ap (λ (b : Bool). b && t.epoch == t.epoch && t.counter == t.counter) (eq-eqb t.server t.server refl)
    ∙ ap (λ (b : Bool). b && t.counter == t.counter) (eq-eqb t.epoch t.epoch refl) ∙ eq-eqb t.counter t.counter refl

abbrev epoch_of : ℕ → Deed → ℕ
epoch_of k (Restarts a b) = a
epoch_of k d = k

abbrev stamp_of : Stamp → Deed → Stamp
stamp_of y (Decides z ks) = z
stamp_of y d = y

-- ---- an applied join stays so

abbrev pub IsAt : Stamp → Phase → Type 0
IsAt x p = p ≡ Applied x.trans x

applied-stays : (x : Stamp) (d : Deed) (j : JoinNo) (p : Phase) → IsAt x p → IsAt x (phase_after d j p)
applied-stays x d j p h =
    subst (λ q. IsAt x (phase_after d j q)) (sym h)
    (phase-cases (IsAt x) d j (Applied x.trans x) refl (λ t c w e. refl) refl (λ ts. refl) (λ y e. refl) refl (λ t c k e. refl) refl)

pub applies-there : (x : Stamp) (j : JoinNo) (c ts : ℕ) (p : Phase) → p ≡ Ready x.trans c ts → IsAt x (phase_after (Applies j x) j p)
applies-there x j c ts p h = subst (λ q. IsAt x (phase_after (Applies j x) j q)) (sym h) (go (same_join j j) (same_join-itself j) (same_trans x.trans x.trans) (same_trans-itself x.trans))
  where
    go : (a : Bool) → a ≡ true → (b : Bool) → b ≡ true → cond a (cond b (Applied x.trans x) (Ready x.trans c ts)) (Ready x.trans c ts) ≡ Applied x.trans x
    go true e true f = refl
    go true e false f = cc
    go false e b f = cc

-- ---- what a deed leaves of the list of applied transactions

commits-keys : (P : Stamp → Type 0) (h : Holder) (x : Stamp) (l : Option Life) → P x → AllByRecursion (λ (y : Stamp × Decided). P y.0) h.applied → AllByRecursion (λ (y : Stamp × Decided). P y.0) (commits h x l).applied
commits-keys P h x None p g = g
commits-keys P h x (Some l) p g = go (l.is_early)
  where
    go : (b : Bool) → AllByRecursion (λ (y : Stamp × Decided). P y.0) (cond {A = List (Stamp × Decided)} b h.applied (put stamp_cmp x (record { stamp = x; who = l.who; calls = l.calls }) h.applied))
    go true = g
    go false = put-keys P x (record { stamp = x; who = l.who; calls = l.calls }) h.applied p g

-- each key is an old one, or that of the commit
applied-keys : (P : Stamp → Type 0) (h : Holder) (d : Deed) → ((x : Stamp) (js : List JoinNo) → d ≡ Decides x js → P x) → ((j : JoinNo) (x : Stamp) → d ≡ Applies j x → P x)
    → AllByRecursion (λ (y : Stamp × Decided). P y.0) h.applied → AllByRecursion (λ (y : Stamp × Decided). P y.0) (holder_after h d).applied
applied-keys P h (Grants t c) dec app g = go (h.lives t)
  where
    go : (l : Option Life) → AllByRecursion (λ (y : Stamp × Decided). P y.0) (grants h t c l).applied
    go None = g
    go (Some l) = g
applied-keys P h (Performs t d) dec app g = go (h.lives t)
  where
    go : (l : Option Life) → AllByRecursion (λ (y : Stamp × Decided). P y.0) (performs h t d l).applied
    go None = g
    go (Some l) = g
applied-keys P h (Readies j t ts) dec app g = go (h.lives t)
  where
    go : (l : Option Life) → AllByRecursion (λ (y : Stamp × Decided). P y.0) (readies h t ts l).applied
    go None = g
    go (Some l) = g
applied-keys P h (Decides x js) dec app g = commits-keys P h x (h.lives x.trans) (dec x js refl) g
applied-keys P h (Applies j x) dec app g = commits-keys P h x (h.lives x.trans) (app j x refl) g
applied-keys P h (Begins t c w n) dec app g = g
applied-keys P h (Joins j t c w) dec app g = g
applied-keys P h (Enters j t c w) dec app g = g
applied-keys P h (Quits j t c k) dec app g = g
applied-keys P h (Aborts j t c k) dec app g = g
applied-keys P h (Releases t) dec app g = g
applied-keys P h (Registers t j) dec app g = g
applied-keys P h (Finishes t) dec app g = g
applied-keys P h (Hears t j ts) dec app g = g
applied-keys P h (Ends t c k) dec app g = g
applied-keys P h (Acknowledges t j) dec app g = g
applied-keys P h (Forgets t) dec app g = g
applied-keys P h (Restarts n k) dec app g = g

module _ (log : Log) (proper : IsProper log) where
  -- a join was told that it is let in
  abbrev pub JoinedCame : ℕ → TransId → JoinNo → Type 0
  JoinedCame n t j = (q : ℕ) × (from : ℕ) × (e : Entry) × (slice_get (journal_of log n) q ≡ Some e) × (e.event ≡ event.Arrive from (msg.Joined t j))

  -- what is known of a deed as it comes about, in its entry or at a restart
  abbrev pub Knows : ℕ → State → Deed → Type 0
  Knows n m (Begins t c w k) = t ≡ next_trans m
  Knows n m (Joins j t c w) = t.server ≡ n → ⊥
  Knows n m (Enters j t c w) = JoinedCame n t j × (m.phases j ≡ Joining t c w) × (m.holder.lives t ≡ None)
  Knows n m (Grants t c) = IsOpenPart m t
  Knows n m (Performs t x) = IsOpenPart m t
  Knows n m (Releases t) = HasEnded m t
  Knows n m (Readies j t ts) = (c : ℕ) × (w : List ℕ) × (m.phases j ≡ Active t c w)
  Knows n m (Applies j x) = (c : ℕ) × (ts : ℕ) × (m.phases j ≡ Ready x.trans c ts) × LivesVoted m x.trans ts × (ts ≤ x.ts) × (x.trans.server ≡ n → ⊥)
  Knows n m (Decides x js) = (x.trans.server ≡ n) × LivesUnvoted m x.trans
  Knows n m (Restarts epoch clock) = m.ids.epoch < epoch
  Knows n m d = Unit {0}

-- two states are alike in ids, what is held, phases, fates, joins and the number of servers
abbrev pub IsSameCore : State → State → Type 0
IsSameCore s m = (s.ids ≡ m.ids) × (s.holder ≡ m.holder) × (s.phases ≡ m.phases) × (s.fates ≡ m.fates) × (s.joined ≡ m.joined) × (s.servers ≡ m.servers)

-- beside it, whatever each deed keeps
module _ (log : Log) (proper : IsProper log) (X : ℕ → State → Type 0)
    (core : (n : ℕ) (s m : State) → IsSameCore s m → X n s → X n m)
    (step : (n : ℕ) (m : State) (d : Deed) → IsHeld (Began log proper n (is_left log proper m.phases)) m.holder → m.holder.server ≡ n → ((j : JoinNo) → IsSeen (m.phases j) ≡ true → j.server ≡ n) → MayDo m.holder d → Knows log proper n m d → IsLinkedUp log proper n (state_deed m d) → X n m → X n (state_deed m d)) where
  -- ---- what holds at a place

  -- an applied transaction is this server's own, or came by a join that was applied at its stamp
  abbrev pub IsOf : ℕ → (JoinNo → Phase) → Stamp → Type 0
  IsOf n phases x = (x.trans.server ≡ n) ⊎ ((j : JoinNo) × IsAt x (phases j))

  pub record Along_ (n : ℕ) (s : State) : Type 0 where
    pub held : IsHeld (Began log proper n (is_left log proper s.phases)) s.holder
    pub linked : IsLinkedUp log proper n s
    pub here : s.holder.server ≡ n
    pub seen : (j : JoinNo) → IsSeen (s.phases j) ≡ true → j.server ≡ n
    pub applied : AllByRecursion (λ (x : Stamp × Decided). IsOf n s.phases x.0) s.holder.applied
    pub told : AreTold log proper n s
    pub made : AllByRecursion (WasMade s.ids) s.holder.made
    pub beside : X n s

  -- what stands at the begin of an entry is as it was, or went on; what was never seen then is not seen since
  abbrev IsSince : State → State → Type 0
  IsSince s m = ((j : JoinNo) (t : TransId) (ts : ℕ) → IsSameVote t ts (s.phases j) → IsSameVote t ts (m.phases j)) × ((j : JoinNo) → s.phases j ≡ Unseen → WasDrawn log proper j s.ids → (m.phases j ≡ Unseen) × WasDrawn log proper j m.ids)

  -- ---- what the laws say of a deed is what a holder may do

  unvoted : (h : Holder) (t : TransId) → (l : Life) × (h.lives t ≡ Some l) × (l.vote ≡ None) → HasNotVoted h t
  unvoted h t x l is = subst (λ (k : Life). k.vote ≡ None) (some-same x.0 l (sym x.1 ∙ is)) x.2

  -- the stamp of a Commit is new here
  pub new-stamp : (n i : ℕ) (e : Entry) (m : State) (x : Stamp) (j : JoinNo) (c ts : ℕ) → Along_ n m → Tells log proper n i x j → m.phases j ≡ Ready x.trans c ts → (x.trans.server ≡ n → ⊥) → IsNewStamp x m.holder.applied
  new-stamp n i e m x j c ts w tells ready other = all-map (λ (y : Stamp × Decided). IsOf n m.phases y.0) (λ (y : Stamp × Decided). stamp_cmp x y.0 ≡ Equal → ⊥) (λ y o eq. no y.0 (exact_stamps x y.0 eq) o) m.holder.applied (w.applied)
    where
      one : (k : JoinNo) → IsAt x (m.phases k) → ⊥
      one k at =
          let came = subst (IsTold (AbortCame log proper n) (CommitCame log proper n) k) at (w.told k) in
          let a = came.1 in
          let there : k.server ≡ n = w.seen k (ap IsSeen at) in
          let mine : j.server ≡ n = w.seen j (ap IsSeen ready) in
          let other_one : Tells log proper n a.0 x k = commit-of log proper n a.0 a.2 a.3 x k there a.1 a.4 in
          let from : other_one.from ≡ tells.from = sym (committed-parts log proper other_one.from x.trans (x, other_one.joins) other_one.stands).0 ∙ (committed-parts log proper tells.from x.trans (x, tells.joins) tells.stands).0 in
          let same : (x, other_one.joins) ≡ (x, tells.joins) =
          some-same (x, other_one.joins) (x, tells.joins) (sym (subst (λ z. decision_in ((final log z).fates x.trans) ≡ Some (x, other_one.joins)) from other_one.stands) ∙ tells.stands) in
          let has : has_join k tells.joins ≡ true = ap (λ (d : Decision). has_join k d.1) (sym same) ∙ other_one.has in
          let is : j ≡ k = tells.spread j k tells.has has (mine ∙ sym there) in
          let wrong : Ready x.trans c ts ≡ Applied x.trans x = sym ready ∙ ap m.phases is ∙ at in cc

      no : (y : Stamp) → x ≡ y → IsOf n m.phases y → ⊥
      no y same o = elim (subst (IsOf n m.phases) (sym same) o) [ inl own ↦ other own | inr k ↦ one k.0 k.1 ]

  -- another server's transaction
  other-server : (m : State) (t : TransId) → is_other_server m t.server ≡ true → t.server ≡ m.holder.server → ⊥
  other-server m t h e =
      let parts = and_parts (nat_lt 0 t.server && nat_lt t.server (m.servers + 1)) (not (t.server == m.holder.server)) h in
      let same : (t.server == m.holder.server) ≡ true = eq-eqb t.server m.holder.server e in
      let wrong : not true ≡ true = ap not (sym same) ∙ parts.1 in
      let no : false ≡ true = wrong in cc

  -- the join stood ready in a note of the opening, or has not been seen in this run
  noted-vote : (n : ℕ) (x : Stamp) (j : JoinNo) → j.server ≡ n → (from : ℕ) → NotedIn log proper from x j → ((state_at log n 0).phases j ≡ Unseen) ⊎ ((ts : ℕ) × (ts ≤ x.ts) × IsSameVote x.trans ts ((state_at log n 0).phases j))
  noted-vote n x j here from d = go (opening_of log n).ready (λ r i. i)
    where
      its : (r : ReadyNote) → IsIn r (opening_of log n).ready → r.join ≡ j → (r.trans ≡ x.trans) × (r.ts ≤ x.ts)
      its r i e =
          let note = (proper.sound from).decisions d.0 d.1 in
          let trans : r.trans ≡ (d.0).stamp.trans = note.its n r i (ap (λ k. has_join k (d.0).joins) e ∙ d.3) in
          let low = (((proper.sound n).ready r i).decided from d.0 d.1 (sym trans)).1 in
          (trans ∙ ap (λ (z : Stamp). z.trans) d.2, subst (λ (z : Stamp). r.ts ≤ z.ts) d.2 low)

      go : (rs : List ReadyNote) → ((r : ReadyNote) → IsIn r rs → IsIn r (opening_of log n).ready) → (phase_noted rs j ≡ Unseen) ⊎ ((ts : ℕ) × (ts ≤ x.ts) × IsSameVote x.trans ts (phase_noted rs j))
      go [] f = inl refl
      go (r ∷ rs) f = one (same_join r.join j) refl (go rs (λ q i. f q (inr i)))
        where
          one : (b : Bool) → same_join r.join j ≡ b → (phase_noted rs j ≡ Unseen) ⊎ ((ts : ℕ) × (ts ≤ x.ts) × IsSameVote x.trans ts (phase_noted rs j))
              → (cond b (Ready r.trans r.client r.ts) (phase_noted rs j) ≡ Unseen) ⊎ ((ts : ℕ) × (ts ≤ x.ts) × IsSameVote x.trans ts (cond b (Ready r.trans r.client r.ts) (phase_noted rs j)))
          one true e rest = (let i = its r (f r (inl refl)) (same_join-true r.join j e) in inr (r.ts, i.1, (i.0, refl)))
          one false e rest = rest

  -- the join voted for no later time than the stamp
  pub vote-low : (n i : ℕ) (m : State) (x : Stamp) (j : JoinNo) (c ts : ℕ) → i ≤ size log proper n → j.server ≡ n → Tells log proper n i x j → IsSince (state_at log n i) m → m.phases j ≡ Ready x.trans c ts → ts ≤ x.ts
  vote-low n i m x j c ts end here tells since ready = elim (tells.voted) [
    | inr v ↦
        let start : IsSameVote x.trans v.0 ((state_at log n (suc v.1)).phases j) = subst (IsSameVote x.trans v.0) (sym v.5) (refl, refl) in
        let now : IsSameVote x.trans v.0 (m.phases j) = since.0 j x.trans v.0 (vote-from log proper n j x.trans v.0 (suc v.1) i v.4 end start) in
        let same = subst (IsSameVote x.trans v.0) ready now in
        let is : ts ≡ v.0 = same.1 in let low : v.0 ≤ x.ts = v.3 in omega (arith, is, low)
    | inl d ↦ elim (noted-vote n x j here (tells.from) d) [
      | inl none ↦
          let early : j.epoch < (opening_of log n).epoch = subst (λ w. j.epoch < (opening_of log w).epoch) here (((proper.sound (tells.from)).decisions d.0 d.1).known j d.3) in
          let past = past-from log proper (λ j p. p ≡ Unseen) unseen-stays n j 0 i (omega arith) end (none, inl early) in
          let wrong : Ready x.trans c ts ≡ Unseen = sym ready ∙ (since.1 j past.0 past.1).0 in cc
      | inr v ↦
          let now : IsSameVote x.trans v.0 (m.phases j) = since.0 j x.trans v.0 (vote-from log proper n j x.trans v.0 0 i (omega arith) end v.2) in
          let same = subst (IsSameVote x.trans v.0) ready now in
          let is : ts ≡ v.0 = same.1 in let low : v.0 ≤ x.ts = v.1 in omega (arith, is, low)
    ]
  ]

  -- a join of another server of the run
  other-part : {n : ℕ} (m : State) (j : JoinNo) → Along_ n m → is_other_server m j.server ≡ true → IsPart log proper n j
  other-part {n} m j w h =
      let parts = and_parts (nat_lt 0 j.server && nat_lt j.server (m.servers + 1)) (not (j.server == m.holder.server)) h in
      let low = and_parts (nat_lt 0 j.server) (nat_lt j.server (m.servers + 1)) parts.0 in
      let few : m.servers ≤ 8 = (w.linked).few in
      let above : 0 < j.server = grind (arith, nat_tests, low.0) in
      let below : j.server < m.servers + 1 = grind (arith, nat_tests, low.1) in (
        above,
        omega (arith, below, few),
        λ e.
            (let same : (j.server == m.holder.server) ≡ true = eq-eqb j.server m.holder.server (e ∙ sym (w.here)) in
            let wrong : not true ≡ true = ap not (sym same) ∙ parts.1 in
            let no_ : false ≡ true = wrong in cc),
      )

  -- what is decided is of this run, and its part too
  decides-does : {n : ℕ} (m : State) (x : Stamp) (js : List JoinNo) → Along_ n m → x.trans.server ≡ m.holder.server → x.trans.epoch ≡ m.ids.epoch → (c : ℕ) (vs : List Vote) → m.fates x.trans ≡ Finishing c js vs
      → (l : Life) × (m.holder.lives x.trans ≡ Some l) × (l.vote ≡ None) → Does log proper n m (Decides x js)
  decides-does {n} m x js w own now c vs fin live = (
    own ∙ w.here,
    (let low : (opening_of log n).epoch ≤ m.ids.epoch = (w.linked).now in omega (arith, low, now)),
    (c, vs, fin),
    (live.0, live.1, (let h = w.held in (own-life m.holder.server m.holder.cells h.ids m.holder.made h.parts live.0 live.2 (h.live x.trans live.0 live.1)).0)),
  )

  module _ (n i : ℕ) (e : Entry) (at : slice_get (journal_of log n) i ≡ Some e) where
    abbrev before : State
    before = state_at log n i

    end : i ≤ size log proper n
    end = let l : i < size log proper n = in-list (journal_of log n) i e at in omega (arith, l)

    timely : (m : State) (j : JoinNo) (x : Stamp) → Along_ n m → IsSince before m → IsRightDeed e.event m (Applies j x) → (l : Life) → m.holder.lives x.trans ≡ Some l → IsTimely m.holder x l
    timely m j x w since law l is = go (l.is_early) refl
      where
        go : (b : Bool) → l.is_early ≡ b → IsTimely m.holder x l
        go true own = inl own
        go false own =
            let a = law.application in
            let here : j.server ≡ n = w.seen j (ap IsSeen (a.ready)) in
            let tells : Tells log proper n i x j = commit-of log proper n i e at x j here (a.from) (a.told) in
            let low : a.ts ≤ x.ts = vote-low n i m x j (a.client) (a.ts) end here tells since (a.ready) in
            let vote : l.vote ≡ Some (a.ts) = subst (λ (k : Life). k.vote ≡ Some (a.ts)) (some-same (a.live.0) l (sym (a.live.1) ∙ is)) (a.live.2) in
            let other : x.trans.server ≡ n → ⊥ = λ q. other-server m x.trans (a.elsewhere) (q ∙ sym (w.here)) in
            inr (a.ts, own, vote, low, new-stamp n i e m x j (a.client) (a.ts) w tells (a.ready) other)

    may : (m : State) (d : Deed) → Along_ n m → IsSince before m → IsRightDeed e.event m d → IsFrom before e.event d → MayDo m.holder d
    may m (Grants t c) w since law from = law.locks
    may m (Performs t d) w since law from =
        let v = law.view in
        let p = v.2 in (
          (
            v.0,
            v.1,
            record {
              active = p.active;
              formed = p.formed;
              right = p.right;
              fresh = λ f is. (let next : f ≡ next_file m = law.counts f is in made-fresh m.ids f m.holder.made (ap (λ (x : FileId). x.epoch) next) (ap (λ (x : FileId). x.counter) next) (w.made));
              locked = p.locked;
            },
          ),
          law.locks,
        )
    may m (Readies j t ts) w since law from = (let time : ts ≡ m.holder.clock + 1 = law.vote.time in omega (arith, time), unvoted m.holder t (law.vote.live))
    may m (Decides x js) w since law from =
        let v = law.decision in
        let low : m.holder.clock + 1 ≤ latest_vote (m.holder.clock + 1) (v.votes) = latest-after (m.holder.clock + 1) (v.votes) in
        let time : x.ts ≡ latest_vote (m.holder.clock + 1) (v.votes) = v.time in
        (omega (arith, low, time), unvoted m.holder x.trans (v.live))
    may m (Applies j x) w since law from = timely m j x w since law
    may m (Restarts epoch clock) w since law from = absurd from
    may m d w since law from = tt

    -- and it does what it needs
    does : (m : State) (d : Deed) → Along_ n m → IsRightDeed e.event m d → IsFrom before e.event d → Does log proper n m d
    does m (Begins t c k u) w law from = ap (λ (x : TransId). x.server) law.counts ∙ w.here
    does m (Joins j t c k) w law from = ((λ q. other-server m t law.counts.1 (q ∙ sym (w.here))), law.counts.0)
    does m (Enters j t c k) w law from = (law.running.1, law.running.0)
    does m (Grants t c) w law from = law.locks.0
    does m (Performs t d) w law from = (let v = law.view in unvoted m.holder t (v.0, v.1, (v.2).active))
    does m (Releases t) w law from = law.locks.1.1
    does m (Readies j t ts) w law from = (let v = law.vote in (v.client, v.who, v.active))
    does m (Decides x js) w law from = (let v = law.decision in decides-does m x js w (v.own) (v.now) (v.client) (v.votes) (v.finishing) (v.live))
    does m (Applies j x) w law from = (let a = law.application in (a.client, a.ts, a.ready))
    does m (Registers t j) w law from = other-part m j w (law.registration.elsewhere)
    does m (Restarts epoch clock) w law from = absurd from
    does m d w law from = tt

    -- a deed that may be done keeps all of it
    along-step : (m : State) (d : Deed) → Along_ n m → MayDo m.holder d → Does log proper n m d → ((j : JoinNo) → IsJoining j d → j.server ≡ n) → Carries (AbortCame log proper n) (CommitCame log proper n) d
        → ((x : Stamp) (js : List JoinNo) → d ≡ Decides x js → x.trans.server ≡ n) → ((j : JoinNo) (x : Stamp) → d ≡ Applies j x → (c : ℕ) × (ts : ℕ) × (m.phases j ≡ Ready x.trans c ts))
        → ((epoch clock : ℕ) → d ≡ Restarts epoch clock → m.ids.epoch < epoch)
        → ((t : TransId) (x : PerformedCall) → d ≡ Performs t x → (f : FileId) → id_in x.reply ≡ Some f → (f.epoch ≡ m.ids.epoch) × (f.counter ≡ m.ids.files + 1)) → Knows log proper n m d → Along_ n (state_deed m d)
    along-step m d w may does joins carries own ready up ids knows = record {
      held = deed_held (Began log proper n (is_left log proper m.phases)) (Began log proper n (is_left log proper (state_deed m d).phases)) m.holder d may (turns log proper n m (w.linked) d does carries) (w.held);
      linked = linked-after log proper n m (w.linked) d does;
      here = server-stays d m.holder ∙ w.here;
      seen = λ j. home-stays n d j (m.phases j) (joins j) (w.seen j);
      applied =
          applied-keys (IsOf n (λ j. phase_after d j (m.phases j))) m.holder d (λ x js is. inl (own x js is))
          (λ j x is. (let r = ready j x is in inr (j, subst (λ c. IsAt x (phase_after c j (m.phases j))) (sym is) (applies-there x j r.0 r.1 (m.phases j) r.2))))
          (all-map (λ (y : Stamp × Decided). IsOf n m.phases y.0) (λ (y : Stamp × Decided). IsOf n (λ j. phase_after d j (m.phases j)) y.0)
          (λ y o. elim o [ inl a ↦ inl a | inr a ↦ inr (a.0, applied-stays y.0 d a.0 (m.phases a.0) a.1) ]) m.holder.applied (w.applied));
      told = told-keep log proper n m d carries (w.told);
      made = made-after m.ids m.holder d up ids (w.made);
      beside = step n m d (w.held) (w.here) (w.seen) may knows (linked-after log proper n m (w.linked) d does) (w.beside);
    }

    known : (m : State) (d : Deed) → Along_ n m → IsSince before m → IsRightDeed e.event m d → IsFrom before e.event d → Knows log proper n m d
    known m (Begins t c w k) z since law from = law.counts
    known m (Joins j t c w) z since law from = λ q. other-server m t law.counts.1 (q ∙ sym (z.here))
    known m (Enters j t c w) z since law from = ((i, from.0, e, at, from.1), law.running.0, law.running.1)
    known m (Grants t c) z since law from = law.running
    known m (Performs t x) z since law from = law.running
    known m (Releases t) z since law from = law.locks.1
    known m (Readies j t ts) z since law from = let v = law.vote in (v.client, v.who, v.active)
    known m (Applies j x) z since law from =
        let a = law.application in
        let here : j.server ≡ n = z.seen j (ap IsSeen (a.ready)) in
        let tells : Tells log proper n i x j = commit-of log proper n i e at x j here (a.from) (a.told) in
        let low : a.ts ≤ x.ts = vote-low n i m x j (a.client) (a.ts) end here tells since (a.ready) in
        (a.client, a.ts, a.ready, a.live, low, (λ q. other-server m x.trans (a.elsewhere) (q ∙ sym (z.here))))
    known m (Decides x js) z since law from = let v = law.decision in (v.own ∙ z.here, v.live)
    known m (Restarts epoch clock) z since law from = absurd from
    known m d z since law from = tt

    -- so does a lawful one
    lawful-step : (m : State) (d : Deed) → Along_ n m → IsSince before m → IsRightDeed e.event m d → IsFrom before e.event d → Along_ n (state_deed m d)
    lawful-step m d w since law from =
        along-step m d w (may m d w since law from) (does m d w law from)
        (λ j i. (let is : j ≡ next_join m = (subst (CountsOn m) i.3 law.counts).0 in ap (λ x. x.server) is ∙ w.here))
        (carries-right log proper n i e at m d law from)
        (λ x js is. (subst (DecidesRight e.event m) is law.decision).own ∙ w.here)
        (λ j x is. (let a = subst (AppliesRight e.event m) is law.application in (a.client, a.ts, a.ready)))
        (λ epoch clock is. (let c : epoch ≡ m.ids.epoch + 1 = subst (CountsOn m) is law.counts in omega (arith, c)))
        (λ t x is f got. (let next : f ≡ next_file m = subst (CountsOn m) is law.counts f got in (ap (λ (y : FileId). y.epoch) next, ap (λ (y : FileId). y.counter) next)))
        (known m d w since law from)

    since-itself : IsSince before before
    since-itself = (λ j t ts h. h, λ j u w. (u, w))

    since-step : (m : State) (d : Deed) → IsSince before m → IsRightDeed e.event m d → IsSince before (state_deed m d)
    since-step m d since law = (
      λ j t ts h. vote-stays t ts d j (m.phases j) (since.0 j t ts h),
      λ j u w. (
          let k = since.1 j u w in (
            unseen-stays d j (m.phases j) (λ is. not-next log proper j m k.1 (subst (CountsOn m) is.3 law.counts).0) k.0,
            drawn-after log proper j d m.ids (later-law log proper j.epoch e.event m d (drawn-epoch log proper j m.ids k.1) law) k.1,
          )
          ),
    )

    lawful-fold : (ds : List Deed) (m : State) → Along_ n m → IsSince before m → Along state_deed (IsRightDeed e.event) m ds → AllByRecursion (IsFrom before e.event) ds → Along_ n (state_after state_deed m ds)
    lawful-fold [] m w since law from = w
    lawful-fold (d ∷ ds) m w since law from = lawful-fold ds (state_deed m d) (lawful-step m d w since law.0 from.0) (since-step m d since law.0) law.1 from.1

  -- ---- a stopped entry, and what a restart finds of it

  still : (n : ℕ) (s : State) (desk : Desk) (down : Bool) (pending : List Deed) → Along_ n s → Along_ n (record s { desk = desk; is_down = down; pending = pending })
  still n s desk down pending w = record { held = w.held; linked = record { few = (w.linked).few; now = (w.linked).now; away = (w.linked).away; parts = (w.linked).parts; one = (w.linked).one; listed = (w.linked).listed; apart = (w.linked).apart; drawn = (w.linked).drawn; fates = (w.linked).fates; tied = (w.linked).tied; kept = (w.linked).kept; sorted = (w.linked).sorted }; here = w.here; seen = w.seen; applied = w.applied; told = w.told; made = w.made; beside = core n s (record s { desk = desk; is_down = down; pending = pending }) (refl, refl, refl, refl, refl, refl) (w.beside) }

  -- whatever of the open deeds came about, the same holds
  abbrev pub IsOpenTest : (Deed → Bool) → Type 0
  IsOpenTest p = IsTest p

  abbrev pub Resolves : ℕ → State → List Deed → Type 0
  Resolves n s ds = (p : Deed → Bool) → IsOpenTest p → Along_ n (state_after state_deed s (filter p ds))

  -- what is no write, and has its cause
  abbrev IsCalm : ℕ → Deed → Type 0
  IsCalm n (Readies j t ts) = ⊥
  IsCalm n (Applies j x) = ⊥
  IsCalm n (Decides x js) = ⊥
  IsCalm n (Aborts j t c k) = AbortCame log proper n t j
  IsCalm n d = Unit {0}

  -- a deed that is none of these brings nothing of theirs
  abbrev IsPlain : Deed → Bool
  IsPlain (Joins j t c w) = false
  IsPlain (Decides x js) = false
  IsPlain (Applies j x) = false
  IsPlain (Restarts a b) = false
  IsPlain (Performs t x) = false
  IsPlain d = true

  plain-step : (n i : ℕ) (e : Entry) (at : slice_get (journal_of log n) i ≡ Some e) (m : State) (d : Deed) → IsPlain d ≡ true → MayDo m.holder d → Does log proper n m d → Carries (AbortCame log proper n) (CommitCame log proper n) d → Knows log proper n m d → Along_ n m
      → Along_ n (state_deed m d)
  plain-step n i e at m d p may does_ carries knows w =
      along-step n i e at m d w may does_ (λ j k. absurd (not_ (Joins j k.0 k.1 k.2) k.3 refl)) carries (λ x js k. absurd (not_ (Decides x js) k refl)) (λ j x k. absurd (not_ (Applies j x) k refl))
      (λ a b k. absurd (not_ (Restarts a b) k refl)) (λ u x k. absurd (not_ (Performs u x) k refl)) knows
    where
      not_ : (c : Deed) → d ≡ c → IsPlain c ≡ false → ⊥
      not_ c is f = let wrong : true ≡ false = sym p ∙ ap IsPlain is ∙ f in cc

  calm-step : (n i : ℕ) (e : Entry) (at : slice_get (journal_of log n) i ≡ Some e) (m : State) (d : Deed) → is_open d ≡ true → IsCalm n d → Along_ n m → Along_ n (state_deed m d)
  calm-step n i e at m (Finishes t) o c w = plain-step n i e at m (Finishes t) refl tt tt tt tt w
  calm-step n i e at m (Hears t j ts) o c w = plain-step n i e at m (Hears t j ts) refl tt tt tt tt w
  calm-step n i e at m (Acknowledges t j) o c w = plain-step n i e at m (Acknowledges t j) refl tt tt tt tt w
  calm-step n i e at m (Forgets t) o c w = plain-step n i e at m (Forgets t) refl tt tt tt tt w
  calm-step n i e at m (Aborts j t k x) o c w = plain-step n i e at m (Aborts j t k x) refl tt tt c tt w
  calm-step n i e at m (Readies j t ts) o c w = absurd c
  calm-step n i e at m (Applies j x) o c w = absurd c
  calm-step n i e at m (Decides x js) o c w = absurd c
  calm-step n i e at m (Begins t k v u) o c w = cc
  calm-step n i e at m (Joins j t k v) o c w = cc
  calm-step n i e at m (Enters j t k v) o c w = cc
  calm-step n i e at m (Quits j t k v) o c w = cc
  calm-step n i e at m (Grants t k) o c w = cc
  calm-step n i e at m (Performs t k) o c w = cc
  calm-step n i e at m (Releases t) o c w = cc
  calm-step n i e at m (Registers t j) o c w = cc
  calm-step n i e at m (Ends t k v) o c w = cc
  calm-step n i e at m (Restarts k v) o c w = cc

  abbrev AreCalm : ℕ → List Deed → Type 0
  AreCalm n ds = AllByRecursion (λ d. is_open d ≡ true → IsCalm n d) ds

  calm-fold : (n i : ℕ) (e : Entry) (at : slice_get (journal_of log n) i ≡ Some e) (p : Deed → Bool) → IsOpenTest p → (ds : List Deed) (m : State) → AreCalm n ds → Along_ n m → Along_ n (state_after state_deed m (filter p ds))
  calm-fold n i e at p o [] m c w = w
  calm-fold n i e at p o (d ∷ ds) m c w = go (p d) refl (calm-fold n i e at p o ds m c.1 w) (λ k. calm-fold n i e at p o ds (state_deed m d) c.1 (calm-step n i e at m d (o.0 d k) (c.0 (o.0 d k)) w))
    where
      go : (b : Bool) → p d ≡ b → Along_ n (state_after state_deed m (filter p ds)) → (p d ≡ true → Along_ n (state_after state_deed (state_deed m d) (filter p ds))) → Along_ n (state_after state_deed m (cond b (d ∷ filter p ds) (filter p ds)))
      go true is without with_ = with_ is
      go false is without with_ = without

  event-calm : (n i : ℕ) (e : Entry) → slice_get (journal_of log n) i ≡ Some e → (ds : List Deed) → AllByRecursion (IsEventFrom (state_at log n i) e.event) ds → AreCalm n ds
  event-calm n i e at [] h = tt
  event-calm n i e at (d ∷ ds) h = ((λ o. one d h.0), event-calm n i e at ds h.1)
    where
      one : (d : Deed) → IsEventFrom (state_at log n i) e.event d → IsCalm n d
      one (Readies j t ts) h = h
      one (Applies j x) h = h
      one (Decides x js) h = h
      one (Aborts j t c k) h = (i, h.0, e, k, at, h.1, h.2)
      one d h = tt

  filter-append : (p : Deed → Bool) (xs ys : List Deed) → filter p (xs ++ ys) ≡ filter p xs ++ filter p ys
  filter-append p [] ys = refl
  filter-append p (x ∷ xs) ys = go (p x) (filter-append p xs ys)
    where
      go : (b : Bool) → filter p (xs ++ ys) ≡ filter p xs ++ filter p ys → cond b (x ∷ filter p (xs ++ ys)) (filter p (xs ++ ys)) ≡ cond b (x ∷ filter p xs) (filter p xs) ++ filter p ys
      go true e = ap (λ zs. x ∷ zs) e
      go false e = e

  -- the write of a stopped entry, behind what led to it
  write-resolves : (n i : ℕ) (e : Entry) (at : slice_get (journal_of log n) i ≡ Some e) (xs ys : List Deed) (d : Deed) (m : State) → AreCalm n xs → AreCalm n ys
      → ((p : Deed → Bool) → IsOpenTest p → Along_ n (state_after state_deed m (filter p xs)) → Along_ n (state_deed (state_after state_deed m (filter p xs)) d)) → Along_ n m → Resolves n m ((xs ++ d ∷ []) ++ ys)
  write-resolves n i e at xs ys d m cx cy step w p o =
      let first : Along_ n (state_after state_deed m (filter p xs)) = calm-fold n i e at p o xs m cx w in
      let mid : Along_ n (state_after state_deed (state_after state_deed m (filter p xs)) (filter p (d ∷ []))) = one (p d) first (step p o first) in
      let both : Along_ n (state_after state_deed m (filter p (xs ++ d ∷ []))) =
      subst (Along_ n) (sym (ap (state_after state_deed m) (filter-append p xs (d ∷ [])) ∙ state-append state_deed m (filter p xs) (filter p (d ∷ [])))) mid in
      subst (Along_ n) (sym (ap (state_after state_deed m) (filter-append p (xs ++ d ∷ []) ys) ∙ state-append state_deed m (filter p (xs ++ d ∷ [])) (filter p ys)))
      (calm-fold n i e at p o ys (state_after state_deed m (filter p (xs ++ d ∷ []))) cy both)
    where
      one : (b : Bool) → Along_ n (state_after state_deed m (filter p xs)) → Along_ n (state_deed (state_after state_deed m (filter p xs)) d)
          → Along_ n (state_after state_deed (state_after state_deed m (filter p xs)) (cond b (d ∷ []) []))
      one true a b = b
      one false a b = a

  -- a file call is no write
  cond-calm : (n : ℕ) (b : Bool) (ds es : List Deed) → AreCalm n ds → AreCalm n es → AreCalm n (cond b ds es)
  cond-calm n true ds es h k = h
  cond-calm n false ds es h k = k

  done-calm : (n : ℕ) (s : State) (x : Event) (r : Option Reply) → AreCalm n (done_deeds s x r)
  done-calm n s (event.Call client epoch number c) (Some r) = cond-calm n (is_new s client epoch number) (done_of s r (answered s client c)) [] (of (answered s client c)) tt
    where
      by : (c : Call) (t : Option TransId) → AreCalm n (done_by s c r t)
      by c None = tt
      by c (Some t) = cond-calm n (is_passing r || is_of_no_file s c r) [] (Performs t (record { call = c; reply = r }) ∷ []) tt ((λ o. (let wrong : false ≡ true = o in cc)), tt)

      of : (c : Option Call) → AreCalm n (done_of s r c)
      of None = tt
      of (Some c) = by c (file_trans c)
  done-calm n s (event.Call client epoch number c) None = tt
  done-calm n s (event.Arrive from m) r = tt
  done-calm n s (event.Timeout t) r = tt
  done-calm n s event.Tick r = tt
  done-calm n s event.Force r = tt
  done-calm n s event.Restart r = tt

  along-mid : {e : Event} (xs ys : List Deed) (d : Deed) (m : State) → Along state_deed (IsRightDeed e) m ((xs ++ d ∷ []) ++ ys) → IsRightDeed e (state_after state_deed m xs) d
  along-mid [] ys d m h = h.0
  along-mid (x ∷ xs) ys d m h = along-mid xs ys d (state_deed m x) h.1

  -- what leads to a decision leaves what is held
  quiet-holder : (s : State) (e : Event) (t : TransId) → DecidesAt t e → (d : Deed) → IsEventFrom s e d → (h : Holder) → holder_after h d ≡ h
  quiet-holder s e t a (Enters j u c w) f h = absurd (subst (DecidesAt t) f.1 a)
  quiet-holder s e t a (Joins j u c w) f h = refl
  quiet-holder s e t a (Quits j u c w) f h = refl
  quiet-holder s e t a (Aborts j u c w) f h = absurd (subst (DecidesAt t) f.1 a)
  quiet-holder s e t a (Registers u j) f h = refl
  quiet-holder s e t a (Finishes u) f h = refl
  quiet-holder s e t a (Hears u j ts) f h = refl
  quiet-holder s e t a (Ends u c w) f h = refl
  quiet-holder s e t a (Acknowledges u j) f h = refl
  quiet-holder s e t a (Forgets u) f h = refl
  quiet-holder s e t a (Begins u c w k) f h = absurd f
  quiet-holder s e t a (Grants u c) f h = absurd f
  quiet-holder s e t a (Performs u x) f h = absurd f
  quiet-holder s e t a (Releases u) f h = absurd f
  quiet-holder s e t a (Readies j u ts) f h = absurd f
  quiet-holder s e t a (Applies j x) f h = absurd f
  quiet-holder s e t a (Decides x js) f h = absurd f
  quiet-holder s e t a (Restarts k c) f h = absurd f

  quiet-fold : (s : State) (e : Event) (t : TransId) → DecidesAt t e → (ds : List Deed) → AllByRecursion (IsEventFrom s e) ds → (m : State) → (state_after state_deed m ds).holder ≡ m.holder
  quiet-fold s e t a [] f m = refl
  quiet-fold s e t a (d ∷ ds) f m = quiet-fold s e t a ds f.1 (state_deed m d) ∙ quiet-holder s e t a d f.0 m.holder

  -- the epoch is the same
  event-epoch : (s : State) (e : Event) (ds : List Deed) → AllByRecursion (IsEventFrom s e) ds → (m : State) → (state_after state_deed m ds).ids.epoch ≡ m.ids.epoch
  event-epoch s e [] f m = refl
  event-epoch s e (d ∷ ds) f m = event-epoch s e ds f.1 (state_deed m d) ∙ one d f.0
    where
      one : (d : Deed) → IsEventFrom s e d → (ids_after m.ids d).epoch ≡ m.ids.epoch
      one (Restarts a b) f = absurd f
      one (Begins t c k u) f = refl
      one (Joins j t c k) f = refl
      one (Performs t x) f = refl
      one d f = refl

  its-none : (t : TransId) (o : Option (TransId × ℕ)) → if_its t o (λ client. []) ≡ []
  its-none t None = refl
  its-none t (Some y) = go (same_trans y.0 t)
    where
      go : (b : Bool) → cond {A = List Deed} b [] [] ≡ []
      go true = refl
      go false = refl

  -- what is held rests on ids, holder and phases alone
  -- it is that state, but for what does not matter here
  abbrev with_core : State → Ids → Holder → (JoinNo → Phase) → (TransId → Fate) → List JoinNo → ℕ → State
  with_core s ids holder phases fates joined servers = record s { ids = ids; holder = holder; phases = phases; fates = fates; joined = joined; servers = servers }

  along-core : (n : ℕ) (s m : State) → IsSameCore s m → Along_ n s → Along_ n m
  along-core n s m c w =
      let base : Along_ n (with_core m s.ids s.holder s.phases s.fates s.joined s.servers) = like m w in
      path (λ (ids : Ids). Along_ n (with_core m ids m.holder m.phases m.fates m.joined m.servers)) c.0
      (path (λ (h : Holder). Along_ n (with_core m s.ids h m.phases m.fates m.joined m.servers)) c.1
      (path (λ (p : JoinNo → Phase). Along_ n (with_core m s.ids s.holder p m.fates m.joined m.servers)) c.2
      (path (λ (f : TransId → Fate). Along_ n (with_core m s.ids s.holder s.phases f m.joined m.servers)) c.3
      (path (λ (js : List JoinNo). Along_ n (with_core m s.ids s.holder s.phases s.fates js m.servers)) c.4 (path (λ (k : ℕ). Along_ n (with_core m s.ids s.holder s.phases s.fates s.joined k)) c.5 base)))))
    where
      path : {A : Type 0} {x y : A} (P : A → Type 0) → x ≡ y → P x → P y
      path P e p = subst P e p

      like : (m : State) → Along_ n s → Along_ n (with_core m s.ids s.holder s.phases s.fates s.joined s.servers)
      like m w = record { held = w.held; linked = record { few = (w.linked).few; now = (w.linked).now; away = (w.linked).away; parts = (w.linked).parts; one = (w.linked).one; listed = (w.linked).listed; apart = (w.linked).apart; drawn = (w.linked).drawn; fates = (w.linked).fates; tied = (w.linked).tied; kept = (w.linked).kept; sorted = (w.linked).sorted }; here = w.here; seen = w.seen; applied = w.applied; told = w.told; made = w.made; beside = core n s (with_core m s.ids s.holder s.phases s.fates s.joined s.servers) (refl, refl, refl, refl, refl, refl) (w.beside) }

  core-fold : (ds : List Deed) (s m : State) → IsSameCore s m → IsSameCore (state_after state_deed s ds) (state_after state_deed m ds)
  core-fold [] s m c = c
  core-fold (d ∷ ds) s m c = core-fold ds (state_deed s d) (state_deed m d) (ap (λ q. ids_after q d) c.0, ap (λ h. holder_after h d) c.1, ap {B = JoinNo → Phase} (λ (p : JoinNo → Phase). λ j. phase_after d j (p j)) c.2, ap {B = TransId → Fate} (λ (f : TransId → Fate). λ t. fate_after d t (f t)) c.3, ap (λ js. js ++ joined_by d) c.4, c.5)

  -- ---- an entry that stops leaves what resolves

  module _ (n i : ℕ) (x : Event) (r : Option Reply) where
    abbrev pub entry : List Act → Entry
    entry acts = record { event = x; reply = r; acts = acts }

    abbrev pub now : State
    now = state_at log n i

    abbrev leads : List Act → List Deed
    leads acts = event_deeds now x r acts

    abbrev ends : List Deed
    ends = done_deeds now x r

    -- a part that votes or is applied does so by nothing but the message
    alone : (acts : List Act) (at : slice_get (journal_of log n) i ≡ Some (entry acts)) (d : Deed) → leads acts ≡ [] → Along state_deed (IsRightDeed x) now ((leads acts ++ d ∷ []) ++ ends) → IsFrom now x d → Along_ n now
        → Resolves n now ((leads acts ++ d ∷ []) ++ ends)
    alone acts at d none law from w =
        write-resolves n i (entry acts) at (leads acts) ends d now (subst (AreCalm n) (sym none) tt) (done-calm n now x r)
        (λ p o first. subst (λ zs. Along_ n (state_deed (state_after state_deed now (filter p zs)) d)) (sym none)
        (lawful-step n i (entry acts) at now d w (since-itself n i (entry acts) at) (subst (λ zs. IsRightDeed x (state_after state_deed now zs) d) none (along-mid (leads acts) ends d now law)) from)) w

    stop-brings : (b : Act) → is_stop b ≡ true → act_deeds now x b ≡ []
    stop-brings act.Stopped q = refl
    stop-brings act.Failed q = refl
    stop-brings (act.Sent to m) q = cc
    stop-brings (act.Granted t) q = cc
    stop-brings (act.Drawn t) q = cc
    stop-brings (act.Registered t j) q = cc
    stop-brings (act.Readied t j ts) q = cc
    stop-brings (act.Decided y js) q = cc
    stop-brings (act.Applied j y) q = cc
    stop-brings (act.Released t) q = cc
    stop-brings (act.Forgot t) q = cc
    stop-brings (act.Regained k c js xs) q = cc

    stop-says : (f : _) (b : Act) → is_stop b ≡ true → first_sent f (b ∷ []) ≡ None
    stop-says f act.Stopped q = refl
    stop-says f act.Failed q = refl
    stop-says f (act.Sent to m) q = cc
    stop-says f (act.Granted t) q = refl
    stop-says f (act.Drawn t) q = refl
    stop-says f (act.Registered t j) q = refl
    stop-says f (act.Readied t j ts) q = refl
    stop-says f (act.Decided y js) q = refl
    stop-says f (act.Applied j y) q = refl
    stop-says f (act.Released t) q = refl
    stop-says f (act.Forgot t) q = refl
    stop-says f (act.Regained k c js xs) q = refl

    -- one deed, behind what led to it
    abbrev Stopping : List Act → Deed → List Deed → Type 0
    Stopping acts d zs = Along state_deed (IsRightDeed x) now ((leads acts ++ (d ∷ (zs ++ []))) ++ ends) → Resolves n now ((leads acts ++ (d ∷ (zs ++ []))) ++ ends)

    stopped-one : (acts : List Act) (b : Act) → is_stop b ≡ true → (d : Deed) → Stopping acts d [] → Stopping acts d (act_deeds now x b)
    stopped-one acts b q d h = subst (Stopping acts d) (sym (stop-brings b q)) h

    vote-stops : (t : TransId) (j : JoinNo) (ts : ℕ) (b : Act) → is_stop b ≡ true → (at : slice_get (journal_of log n) i ≡ Some (entry (act.Readied t j ts ∷ b ∷ []))) → Along_ n now → Stopping (act.Readied t j ts ∷ b ∷ []) (Readies j t ts) []
    vote-stops t j ts b q at w law =
        let acts : List Act = act.Readied t j ts ∷ b ∷ [] in
        let v = (along-mid (leads acts) ends (Readies j t ts) now law).vote in
        let quiet : if_its t (open_in (now.phases j)) (λ client. quits_for j t client (first_sent (no_in now.holder.server j) (b ∷ []))) ≡ [] =
        subst (λ o. if_its t (open_in (now.phases j)) (λ client. quits_for j t client o) ≡ []) (sym (stop-says (no_in now.holder.server j) b q)) (its-none t (open_in (now.phases j))) in
        alone acts at (Readies j t ts) (subst (λ y. event_deeds now y r acts ≡ []) (sym (v.asked)) quiet) law tt w

    apply-stops : (j : JoinNo) (y : Stamp) (b : Act) (at : slice_get (journal_of log n) i ≡ Some (entry (act.Applied j y ∷ b ∷ []))) → Along_ n now → Stopping (act.Applied j y ∷ b ∷ []) (Applies j y) []
    apply-stops j y b at w law =
        let acts : List Act = act.Applied j y ∷ b ∷ [] in
        let v = (along-mid (leads acts) ends (Applies j y) now law).application in
        alone acts at (Applies j y) (subst (λ z. event_deeds now z r acts ≡ []) (sym (v.told)) refl) law tt w

    leads-calm : (acts : List Act) → slice_get (journal_of log n) i ≡ Some (entry acts) → AreCalm n (leads acts)
    leads-calm acts at = event-calm n i (entry acts) at (leads acts) (event-from now x r acts)

    forget-stops : (t : TransId) (b : Act) (at : slice_get (journal_of log n) i ≡ Some (entry (act.Forgot t ∷ b ∷ []))) → Along_ n now → Stopping (act.Forgot t ∷ b ∷ []) (Forgets t) []
    forget-stops t b at w law =
        let acts : List Act = act.Forgot t ∷ b ∷ [] in
        write-resolves n i (entry acts) at (leads acts) ends (Forgets t) now (leads-calm acts at) (done-calm n now x r)
        (λ p o first. plain-step n i (entry acts) at (state_after state_deed now (filter p (leads acts))) (Forgets t) refl tt tt tt tt first) w

    decide-stops : (y : Stamp) (js : List JoinNo) (b : Act) (at : slice_get (journal_of log n) i ≡ Some (entry (act.Decided y js ∷ b ∷ []))) → Along_ n now → Stopping (act.Decided y js ∷ b ∷ []) (Decides y js) []
    decide-stops y js b at w law =
        let acts : List Act = act.Decided y js ∷ b ∷ [] in
        let v = (along-mid (leads acts) ends (Decides y js) now law).decision in
        let from = event-from now x r acts in
        let full : (state_after state_deed now (leads acts)).holder ≡ now.holder = quiet-fold now x y.trans (v.asked) (leads acts) from now in
        let clock : ℕ = (state_after state_deed now (leads acts)).holder.clock in
        let low : clock + 1 ≤ latest_vote (clock + 1) (v.votes) = latest-after (clock + 1) (v.votes) in
        let time : y.ts ≡ latest_vote (clock + 1) (v.votes) = v.time in
        let there : MayDo (state_after state_deed now (leads acts)).holder (Decides y js) = (omega (arith, low, time), unvoted (state_after state_deed now (leads acts)).holder y.trans (v.live)) in
        let may : MayDo now.holder (Decides y js) = subst (λ h. MayDo h (Decides y js)) full there in
        let own : y.trans.server ≡ n = v.own ∙ ap (λ (h : Holder). h.server) full ∙ w.here in
        write-resolves n i (entry acts) at (leads acts) ends (Decides y js) now (leads-calm acts at) (done-calm n now x r)
        (λ p o first.
        (let m = state_after state_deed now (filter p (leads acts)) in
        let same : m.holder ≡ now.holder = quiet-fold now x y.trans (v.asked) (filter p (leads acts)) (all-filter (IsEventFrom now x) p (leads acts) from) now in
        let run = runs-the-same now x p o y.trans (leads acts) from now now (λ k. refl) (ap is_running (v.finishing)) in
        along-step n i (entry acts) at m (Decides y js) first (subst (λ h. MayDo h (Decides y js)) (sym same) may)
        (decides-does m y js first (v.own ∙ ap (λ (h : Holder). h.server) (full ∙ sym same))
        (v.now ∙ event-epoch now x (leads acts) from now ∙ sym (event-epoch now x (filter p (leads acts)) (all-filter (IsEventFrom now x) p (leads acts) from) now)) (v.client) (v.votes) (sym run.1 ∙ v.finishing)
        ((v.live).0, ap (λ (h : Holder). h.lives y.trans) (same ∙ sym full) ∙ (v.live).1, (v.live).2))
        (λ j k. (let wrong : Decides y js ≡ Joins j k.0 k.1 k.2 = k.3 in cc)) tt (λ z ks k. own-of z ks own k) (λ j z k. (let wrong : Decides y js ≡ Applies j z = k in cc))
        (λ k c e. (let wrong : Decides y js ≡ Restarts k c = e in cc)) (λ u z k. (let wrong : Decides y js ≡ Performs u z = k in cc))
        (own, subst (λ (h : Holder). (l : Life) × (h.lives y.trans ≡ Some l) × (l.vote ≡ None)) (full ∙ sym same) (v.live))))
        w
      where
        own-of : (z : Stamp) (ks : List JoinNo) → y.trans.server ≡ n → Decides y js ≡ Decides z ks → z.trans.server ≡ n
        own-of z ks own k = ap (λ (s : Stamp). s.trans.server) (sym (ap (stamp_of y) k)) ∙ own

    stops-at : (a b : Act) → is_written a ≡ true → is_stop b ≡ true → (at : slice_get (journal_of log n) i ≡ Some (entry (a ∷ b ∷ []))) → Along_ n now → Along state_deed (IsRightDeed x) now (tried now (entry (a ∷ b ∷ [])))
        → Resolves n now (tried now (entry (a ∷ b ∷ [])))
    stops-at (act.Readied t j ts) b p q at w = stopped-one (act.Readied t j ts ∷ b ∷ []) b q (Readies j t ts) (vote-stops t j ts b q at w)
    stops-at (act.Applied j y) b p q at w = stopped-one (act.Applied j y ∷ b ∷ []) b q (Applies j y) (apply-stops j y b at w)
    stops-at (act.Decided y js) b p q at w = stopped-one (act.Decided y js ∷ b ∷ []) b q (Decides y js) (decide-stops y js b at w)
    stops-at (act.Forgot t) b p q at w = stopped-one (act.Forgot t ∷ b ∷ []) b q (Forgets t) (forget-stops t b at w)
    stops-at (act.Sent to m) b p q at w = cc
    stops-at (act.Granted t) b p q at w = cc
    stops-at (act.Drawn t) b p q at w = cc
    stops-at (act.Registered t j) b p q at w = cc
    stops-at (act.Released t) b p q at w = cc
    stops-at (act.Regained k c js xs) b p q at w = cc
    stops-at act.Stopped b p q at w = cc
    stops-at act.Failed b p q at w = cc

    -- a stop, or a write and a stop
    stops-right : (acts : List Act) → IsStopped acts → (at : slice_get (journal_of log n) i ≡ Some (entry acts)) → Along_ n now → Along state_deed (IsRightDeed x) now (tried now (entry acts)) → Resolves n now (tried now (entry acts))
    stops-right [] h at w law = absurd h
    stops-right (a ∷ []) h at w law =
        λ p o. calm-fold n i (entry (a ∷ [])) at p o (tried now (entry (a ∷ []))) now
        (all-append (λ d. is_open d ≡ true → IsCalm n d) (leads (a ∷ []) ++ (act_deeds now x a ++ [])) ends
        (all-append (λ d. is_open d ≡ true → IsCalm n d) (leads (a ∷ [])) (act_deeds now x a ++ []) (leads-calm (a ∷ []) at) (subst (λ zs. AreCalm n (zs ++ [])) (sym (stop-brings a h)) tt)) (done-calm n now x r)) w
    stops-right (a ∷ b ∷ []) h at w law = stops-at a b h.0 h.1 at w law
    stops-right (a ∷ b ∷ c ∷ acts) h at w law = absurd h

    -- an entry that is no restart
    pub plain-entry : (acts : List Act) (at : slice_get (journal_of log n) i ≡ Some (entry acts)) → Along state_deed (IsRightDeed x) now (tried now (entry acts)) → list_any regained_by acts ≡ false → StopsRight (entry acts) → Along_ n now
        → Along_ n (next now (entry acts)) × Resolves n (next now (entry acts)) (next now (entry acts)).pending
    plain-entry acts at law none stop w = go (stops (entry acts)) refl
      where
        go : (b : Bool) → stops (entry acts) ≡ b → Along_ n (cond b (halted now (entry acts)) (told now (entry acts))) × Resolves n (cond b (halted now (entry acts)) (told now (entry acts))) (cond b (halted now (entry acts)) (told now (entry acts))).pending
        go true e = (
          still n now now.desk true (tried now (entry acts)) w,
          λ p o. still-fold p (tried now (entry acts)) (stops-right acts (subst (λ b. Where b (IsStopped acts × TellsStop x r) (Unit {0})) e stop).0 at w law p o),
        )
          where
            still-fold : (p : Deed → Bool) (ds : List Deed) → Along_ n (state_after state_deed now (filter p ds)) → Along_ n (state_after state_deed (halted now (entry acts)) (filter p ds))
            still-fold p ds h = along-core n (state_after state_deed now (filter p ds)) (state_after state_deed (halted now (entry acts)) (filter p ds)) (core-fold (filter p ds) now (halted now (entry acts)) (refl, refl, refl, refl, refl, refl)) h
        go false e =
            let done : Along_ n (did now (entry acts)) = lawful-fold n i (entry acts) at (tried now (entry acts)) now w (since-itself n i (entry acts) at) law (tried-from now x r acts none) in
            let all = still n (did now (entry acts)) (told now (entry acts)).desk false [] done in
            (all, λ p o. all)

  -- ---- a restart

  open-ids : (d : Deed) (s : Ids) → is_open d ≡ true → ids_after s d ≡ s
  open-ids (Finishes t) s o = refl
  open-ids (Hears t j ts) s o = refl
  open-ids (Acknowledges t j) s o = refl
  open-ids (Forgets t) s o = refl
  open-ids (Aborts j t k x) s o = refl
  open-ids (Readies j t ts) s o = refl
  open-ids (Applies j x) s o = refl
  open-ids (Decides x js) s o = refl
  open-ids (Begins t k v u) s o = cc
  open-ids (Joins j t k v) s o = cc
  open-ids (Enters j t k v) s o = cc
  open-ids (Quits j t k v) s o = cc
  open-ids (Grants t k) s o = cc
  open-ids (Performs t k) s o = cc
  open-ids (Releases t) s o = cc
  open-ids (Registers t j) s o = cc
  open-ids (Ends t k v) s o = cc
  open-ids (Restarts k v) s o = cc

  found-ids : (p : Deed → Bool) → IsOpenTest p → (ds : List Deed) (s : State) → (state_after state_deed s (filter p ds)).ids ≡ s.ids
  found-ids p o [] s = refl
  found-ids p o (d ∷ ds) s = go (p d) refl (found-ids p o ds s) (λ k. found-ids p o ds (state_deed s d) ∙ open-ids d s.ids (o.0 d k))
    where
      go : (b : Bool) → p d ≡ b → (state_after state_deed s (filter p ds)).ids ≡ s.ids → (p d ≡ true → (state_after state_deed (state_deed s d) (filter p ds)).ids ≡ s.ids) → (state_after state_deed s (cond b (d ∷ filter p ds) (filter p ds))).ids ≡ s.ids
      go true is a b = b is
      go false is a b = a

  effective-leads : (ready : List JoinNo) (clock : ℕ) (stamps : List Stamp) (d : Deed) → leads_on d ≡ true → is_effective ready clock stamps d ≡ true
  effective-leads ready clock stamps (Finishes t) h = refl
  effective-leads ready clock stamps (Hears t j ts) h = refl
  effective-leads ready clock stamps (Begins t k v u) h = (let wrong : false ≡ true = h in cc)
  effective-leads ready clock stamps (Joins j t k v) h = (let wrong : false ≡ true = h in cc)
  effective-leads ready clock stamps (Enters j t k v) h = (let wrong : false ≡ true = h in cc)
  effective-leads ready clock stamps (Quits j t k v) h = (let wrong : false ≡ true = h in cc)
  effective-leads ready clock stamps (Aborts j t k v) h = (let wrong : false ≡ true = h in cc)
  effective-leads ready clock stamps (Grants t k) h = (let wrong : false ≡ true = h in cc)
  effective-leads ready clock stamps (Performs t k) h = (let wrong : false ≡ true = h in cc)
  effective-leads ready clock stamps (Releases t) h = (let wrong : false ≡ true = h in cc)
  effective-leads ready clock stamps (Readies j t ts) h = (let wrong : false ≡ true = h in cc)
  effective-leads ready clock stamps (Applies j x) h = (let wrong : false ≡ true = h in cc)
  effective-leads ready clock stamps (Registers t j) h = (let wrong : false ≡ true = h in cc)
  effective-leads ready clock stamps (Decides x js) h = (let wrong : false ≡ true = h in cc)
  effective-leads ready clock stamps (Ends t k v) h = (let wrong : false ≡ true = h in cc)
  effective-leads ready clock stamps (Acknowledges t j) h = (let wrong : false ≡ true = h in cc)
  effective-leads ready clock stamps (Forgets t) h = (let wrong : false ≡ true = h in cc)
  effective-leads ready clock stamps (Restarts k v) h = (let wrong : false ≡ true = h in cc)

  pub restart-entry : (n i : ℕ) (r : Option Reply) (acts : List Act) (at : slice_get (journal_of log n) i ≡ Some (record { event = event.Restart; reply = r; acts = acts })) → Regains (state_at log n i) acts
      → Resolves n (state_at log n i) (state_at log n i).pending
      → Along_ n (next (state_at log n i) (record { event = event.Restart; reply = r; acts = acts })) × Resolves n (next (state_at log n i) (record { event = event.Restart; reply = r; acts = acts })) (next (state_at log n i) (record { event = event.Restart; reply = r; acts = acts })).pending
  restart-entry n i r (act.Regained epoch clock ready stamps ∷ []) at law h =
      let s : State = state_at log n i in
      let e : Entry = record { event = event.Restart; reply = r; acts = act.Regained epoch clock ready stamps ∷ [] } in
      let open_ : IsOpenTest (is_effective ready clock stamps) = (effective-open ready clock stamps, effective-leads ready clock stamps) in
      let found : State = state_after state_deed s (resolved s ready clock stamps) in
      let there : Along_ n found = h (is_effective ready clock stamps) open_ in
      let ids : found.ids ≡ s.ids = found-ids (is_effective ready clock stamps) open_ s.pending s in
      let up : found.ids.epoch < epoch = (let a : found.ids.epoch ≡ s.ids.epoch = ap (λ (q : Ids). q.epoch) ids in let b : epoch ≡ s.ids.epoch + 1 = law.0 in omega (arith, a, b)) in
      let low : found.holder.kept ≤ clock = (let k : clock ≡ found.holder.kept = (law.1).clock in omega (arith, k)) in
      let last : Along_ n (state_deed found (Restarts epoch clock)) =
      along-step n i e at found (Restarts epoch clock) there low up (λ j k. (let wrong : Restarts epoch clock ≡ Joins j k.0 k.1 k.2 = k.3 in cc)) tt (λ x js k. (let wrong : Restarts epoch clock ≡ Decides x js = k in cc))
      (λ j x k. (let wrong : Restarts epoch clock ≡ Applies j x = k in cc)) (λ a b k. subst (λ z. found.ids.epoch < z) (ap (epoch_of epoch) k) up) (λ u x k. (let wrong : Restarts epoch clock ≡ Performs u x = k in cc)) up in
      let list : state_after state_deed s (tried s e) ≡ state_deed found (Restarts epoch clock) =
      state-append state_deed s ((resolved s ready clock stamps ++ Restarts epoch clock ∷ []) ++ []) []
      ∙ state-append state_deed s (resolved s ready clock stamps ++ Restarts epoch clock ∷ []) []
      ∙ state-append state_deed s (resolved s ready clock stamps) (Restarts epoch clock ∷ []) in
      let all : Along_ n (told s e) = still n (did s e) (told s e).desk false [] (subst (Along_ n) (sym list) last) in
      (all, λ p o. all)
  restart-entry n i r [] at law h = absurd law
  restart-entry n i r (act.Regained epoch clock ready stamps ∷ a ∷ acts) at law h = absurd law
  restart-entry n i r (act.Sent to m ∷ acts) at law h = absurd law
  restart-entry n i r (act.Granted t ∷ acts) at law h = absurd law
  restart-entry n i r (act.Drawn t ∷ acts) at law h = absurd law
  restart-entry n i r (act.Registered t j ∷ acts) at law h = absurd law
  restart-entry n i r (act.Readied t j ts ∷ acts) at law h = absurd law
  restart-entry n i r (act.Decided x js ∷ acts) at law h = absurd law
  restart-entry n i r (act.Applied j x ∷ acts) at law h = absurd law
  restart-entry n i r (act.Released t ∷ acts) at law h = absurd law
  restart-entry n i r (act.Forgot t ∷ acts) at law h = absurd law
  restart-entry n i r (act.Stopped ∷ acts) at law h = absurd law
  restart-entry n i r (act.Failed ∷ acts) at law h = absurd law
