-- the parts of a transaction end as its coordinator decided
use Rattle.std.specs.Prelude.{Bool, true, false, cond, ◌&&◌, ◌||◌, ◌==◌, nat_lt, nat_le, Option, None, Some}
use Rattle.std.specs.List.{list_all, AllByRecursion}
use Rattle.std.proofs.Common.{◌≡◌, ℕ, suc, ◌+◌, ◌<◌, ◌≤◌, List, [], ◌∷◌, slice_get, length, refl, sym, ap, subst, ◌∙◌, arith, inl, inr, ◌⊎◌}
use Rattle.std.proofs.lemmas.Bool.{eqb-true, and_parts}
use Rattle.std.proofs.lemmas.Bool.Decides.{nat_tests}
use Rattle.alp_base.specs.declared.ids.JoinNo.{JoinNo}
use Rattle.alp_base.specs.declared.ids.TransId.{TransId}
use Rattle.alp_base.specs.declared.ids.Stamp.{Stamp}
use Rattle.alp_journal.specs.declared.event.Event.{Event}
use Rattle.alp_journal.specs.declared.event.Event.TheVariants as event
use Rattle.alp_journal.specs.declared.message.Message.TheVariants as msg
use Rattle.alp_journal.specs.declared.entry.Entry.{Entry}
use Rattle.alp_journal.specs.Ids.{same_trans, same_join, has_join, is_drawn}
use Rattle.alp_journal.specs.Opening.{ReadyNote, DecisionNote}
use Rattle.alp_journal.specs.Deeds.{Deed, Begins, Joins, Enters, Quits, Aborts, Grants, Performs, Releases, Readies, Applies, Registers, Finishes, Hears, Decides, Ends, Acknowledges, Forgets, Restarts}
use Rattle.alp_journal.specs.Coordinator.{Fate, Undrawn, Running, Finishing, Committed, Forgotten, Ended, voted, has_votes, begun, fate_after, fate_noted, decision_in}
use Rattle.alp_journal.specs.Participant.{Phase, Unseen, Joining, Active, Ready, Applied, Over, phase_after, phase_noted, live_in}
use Rattle.alp_journal.specs.Desk.{Desk}
use Rattle.alp_journal.specs.State.{Ids, State, ids_after, state_deed}
use Rattle.alp_journal.specs.Moves.{next_trans, next_join}
use Rattle.alp_journal.specs.Laws.{CountsOn, MayAbort, HasDecision}
use Rattle.alp_history.specs.Log.{Log, journal_of, opening_of, rank_at, state_at, final, IsIn, WasSent}
use Rattle.alp_history.specs.Theorems.{IsProper, HasCommitted, IsKept, DoAgreeOnEnds, Agreement}
use Rattle.alp_history.proofs.Places.{in-list, some-same}
use Rattle.alp_journal.proofs.IdLemmas.{same_trans-true, same_join-true, all-each}
use Rattle.alp_history.proofs.Fates.{Decision, decision-stays, IsOver, over-stays, IsBacked, Brings, backed-after}
use Rattle.alp_history.proofs.Phases.{IsJoining, dead-stays, unseen-stays, IsSeen, home-stays, IsBound, IsTold, Carries, bound-stays, told-stays}
use Rattle.alp_journal.proofs.Origins.{IsFrom}
use Rattle.alp_history.proofs.Entries.{is_open, MayBeRight, Stands}
use Rattle.alp_history.proofs.Logs.{opening-server, server-stays, last, said, rank-le, rank-lt, stands-from}
use Rattle.alp_history.proofs.Rights.{IsRightDeed}

-- ---- deeds that bring nothing

abbrev pub Nothing : Deed → Type 0
Nothing d = Unit {0}

pub nothing : (ds : List Deed) → AllByRecursion (λ d. is_open d ≡ true → Unit {0}) ds
nothing [] = tt
nothing (d ∷ ds) = ((λ e. tt), nothing ds)

module _ (log : Log) (proper : IsProper log) where
  abbrev pub size : ℕ → ℕ
  size n = length (journal_of log n)

  -- ---- whose a server and its joins are

  abbrev pub IsHome : ℕ → State → Type 0
  IsHome n s = (s.holder.server ≡ n) × ((j : JoinNo) → IsSeen (s.phases j) ≡ true → j.server ≡ n)

  abbrev JoinsHere : ℕ → Deed → Type 0
  JoinsHere n d = (j : JoinNo) → IsJoining j d → j.server ≡ n

  noted-home : (n : ℕ) (rs : List ReadyNote) → ((r : ReadyNote) → IsIn r rs → r.join.server ≡ n) → (j : JoinNo) → IsSeen (phase_noted rs j) ≡ true → j.server ≡ n
  noted-home n [] f j h = cc
  noted-home n (r ∷ rs) f j h = go (same_join r.join j) refl (noted-home n rs (λ q i. f q (inr i)) j) h
    where
      go : (b : Bool) → same_join r.join j ≡ b → (IsSeen (phase_noted rs j) ≡ true → j.server ≡ n) → IsSeen (cond b (Ready r.trans r.client r.ts) (phase_noted rs j)) ≡ true → j.server ≡ n
      go true e rest k = ap (λ x. x.server) (sym (same_join-true r.join j e)) ∙ f r (inl refl)
      go false e rest k = rest k

  home-keep : (n : ℕ) (s : State) (d : Deed) → JoinsHere n d → IsHome n s → IsHome n (state_deed s d)
  home-keep n s d r h = (server-stays d s.holder ∙ h.0, λ j. home-stays n d j (s.phases j) (r j) (h.1 j))

  home-right : (n : ℕ) (m : State) (d : Deed) (e : Event) → IsHome n m → IsRightDeed e m d → JoinsHere n d
  home-right n m d e h law j i =
      let is : j ≡ next_join m = (subst (CountsOn m) i.3 law.counts).0 in
      ap (λ x. x.server) is ∙ h.0

  home-still : (n : ℕ) (s : State) (desk : Desk) (down : Bool) (pending : List Deed) → IsHome n s → IsHome n (record s { desk = desk; is_down = down; pending = pending })
  home-still n s desk down pending h = h

  pub home-at : (n i : ℕ) → i ≤ size n → IsHome n (state_at log n i)
  home-at n i le =
      (stands-from log proper.lawful proper.linked (JoinsHere n) (IsHome n) (home-keep n) (home-still n) n 0 i (λ k e a b at m d q law from. home-right n m d e.event q law)
      (λ k e epoch clock q l j w. not-joins epoch clock j w)
      ((opening-server log n, noted-home n (opening_of log n).ready (λ r x. ((proper.sound n).ready r x).here)), tt) i (omega arith) (omega arith) le).0
    where
      not-joins : (epoch clock : ℕ) (j : JoinNo) → IsJoining j (Restarts epoch clock) → j.server ≡ n
      not-joins epoch clock j w = let wrong : Restarts epoch clock ≡ Joins j w.0 w.1 w.2 = w.3 in cc

  -- ---- what votes and decisions rest on

  -- the join was ready for the transaction at some place
  abbrev pub WasReady : TransId → JoinNo → Type 0
  WasReady t j = (i : ℕ) × (client : ℕ) × (ts : ℕ) × (i ≤ size j.server) × ((state_at log j.server i).phases j ≡ Ready t client ts)

  -- or an earlier run decided it
  abbrev pub Noted : ℕ → TransId → JoinNo → Type 0
  Noted n t j = (d : DecisionNote) × IsIn d (opening_of log n).decisions × (d.stamp.trans ≡ t) × (has_join j d.joins ≡ true)

  abbrev pub Promise : ℕ → TransId → JoinNo → Type 0
  Promise n t j = Noted n t j ⊎ WasReady t j

  -- the word that the join is applied came before a place
  abbrev pub Acked : ℕ → ℕ → TransId → JoinNo → Type 0
  Acked n to t j = (q : ℕ) × (from : ℕ) × (e : Entry) × (q < to) × (slice_get (journal_of log n) q ≡ Some e) × (e.event ≡ event.Arrive from (msg.Done t j))

  ready-sent : (t : TransId) (j : JoinNo) (ts from n rank : ℕ) → WasSent log from n (msg.Ready t j ts) rank → WasReady t j
  ready-sent t j ts from n rank w =
      let s = said log proper.lawful proper.linked from n (msg.Ready t j ts) rank w in
      let le : suc w.place ≤ size from = in-list (journal_of log from) w.place w.entry w.stands in
      let here : j.server ≡ from = (home-at from (suc w.place) le).1 j (ap IsSeen s.1) in
      let there = subst (λ x. (suc w.place ≤ size x) × ((state_at log x (suc w.place)).phases j ≡ Ready t s.0 ts)) (sym here) (le, s.1) in
      (suc w.place, s.0, ts, there.0, there.1)

  abbrev pub AreBacked : ℕ → ℕ → State → Type 0
  AreBacked n to s = (s.holder.server ≡ n) × ((t : TransId) → IsBacked n (Promise n) (Acked n to) t (s.fates t))

  backed-right : (n to i : ℕ) (e : Entry) → i < to → slice_get (journal_of log n) i ≡ Some e → (m : State) (d : Deed) → AreBacked n to m → IsRightDeed e.event m d → IsFrom (state_at log n i) e.event d
      → Brings n (Promise n) (Acked n to) d
  backed-right n to i e lt at m (Begins t client who seen) h law from = ap (λ x. x.server) law.counts ∙ h.0
  backed-right n to i e lt at m (Hears t j ts) h law from = inr (ready-sent t j ts from.0 n (rank_at log n i) (proper.linked.sent n i from.0 e (msg.Ready t j ts) at from.1))
  backed-right n to i e lt at m (Decides x js) h law from =
      let v = law.decision in
      let b = subst (IsBacked n (Promise n) (Acked n to) x.trans) v.finishing (h.1 x.trans) in
      let all : list_all (λ j. voted j v.votes) js ≡ true = sym (ap has_votes v.finishing) ∙ v.voted in
      λ j is. b.1 j (all-each (λ k. voted k v.votes) js j all is)
  backed-right n to i e lt at m (Acknowledges t j) h law from = (i, from.0, e, lt, at, from.1)
  backed-right n to i e lt at m d h law from = tt

  backed-keep : (n to : ℕ) (s : State) (d : Deed) → Brings n (Promise n) (Acked n to) d → AreBacked n to s → AreBacked n to (state_deed s d)
  backed-keep n to s d r h = (server-stays d s.holder ∙ h.0, λ t. backed-after n (Promise n) (Acked n to) d t (s.fates t) r (h.1 t))

  noted-backed : (n to : ℕ) (ds : List DecisionNote) → ((d : DecisionNote) → IsIn d ds → IsIn d (opening_of log n).decisions) → (t : TransId) → IsBacked n (Promise n) (Acked n to) t (fate_noted ds t)
  noted-backed n to [] f t = tt
  noted-backed n to (d ∷ ds) f t = go (same_trans d.stamp.trans t) refl (noted-backed n to ds (λ x i. f x (inr i)) t)
    where
      go : (b : Bool) → same_trans d.stamp.trans t ≡ b → IsBacked n (Promise n) (Acked n to) t (fate_noted ds t) → IsBacked n (Promise n) (Acked n to) t (cond b (Committed d.stamp d.joins []) (fate_noted ds t))
      go true e rest =
          let is : d.stamp.trans ≡ t = same_trans-true d.stamp.trans t e in
          let own : IsIn d (opening_of log n).decisions = f d (inl refl) in
          (ap (λ x. x.server) (sym is) ∙ ((proper.sound n).decisions d own).here, λ j i. inl (d, own, is, i), λ j i. (let wrong : false ≡ true = i in cc))
      go false e rest = rest

  pub backed-at : (n to i : ℕ) → i ≤ to → i ≤ size n → AreBacked n to (state_at log n i)
  backed-at n to i le end =
      (stands-from log proper.lawful proper.linked (Brings n (Promise n) (Acked n to)) (AreBacked n to) (backed-keep n to) (λ s desk down pending h. h) n 0 to
      (λ k e a b at m d q law from. backed-right n to k e b at m d q law from) (λ k e epoch clock q l. tt)
      ((opening-server log n, λ t. noted-backed n to (opening_of log n).decisions (λ d x. x) t), tt) i (omega arith) le end).0

  -- ---- what stays at the coordinator

  pub decided-from : (n : ℕ) (t : TransId) (x : Decision) (i k : ℕ) → i ≤ k → k ≤ size n → decision_in ((state_at log n i).fates t) ≡ Some x → decision_in ((state_at log n k).fates t) ≡ Some x
  decided-from n t x i k le end h =
      (stands-from log proper.lawful proper.linked Nothing (λ s. decision_in (s.fates t) ≡ Some x) (λ s d r q. decision-stays x d t (s.fates t) q) (λ s desk down pending q. q) n i k
      (λ k e a b at m d q law from. tt) (λ k e epoch clock q l. tt) (h, nothing (state_at log n i).pending) k le (omega arith) end).0

  pub over-from : (n : ℕ) (t : TransId) (i k : ℕ) → i ≤ k → k ≤ size n → IsOver ((state_at log n i).fates t) → IsOver ((state_at log n k).fates t)
  over-from n t i k le end h =
      (stands-from log proper.lawful proper.linked Nothing (λ s. IsOver (s.fates t)) (λ s d r q. over-stays d t (s.fates t) q) (λ s desk down pending q. q) n i k
      (λ k e a b at m d q law from. tt) (λ k e epoch clock q l. tt) (h, nothing (state_at log n i).pending) k le (omega arith) end).0

  -- an id of an older epoch is never drawn

  abbrev pub IsBegun : TransId → Deed → Type 0
  IsBegun t d = (client : ℕ) × (who : List ℕ) × (seen : ℕ) × (d ≡ Begins t client who seen)

  -- a restart comes in a later epoch than this one
  abbrev pub IsLater : ℕ → Deed → Type 0
  IsLater old (Restarts epoch clock) = old < epoch
  IsLater old d = Unit {0}

  pub later-law : (old : ℕ) (e : Event) (m : State) (d : Deed) → old ≤ m.ids.epoch → IsRightDeed e m d → IsLater old d
  later-law old e m (Restarts epoch clock) le law = let c : epoch ≡ m.ids.epoch + 1 = law.counts in omega (arith, c, le)
  later-law old e m d le law = tt

  later-open : (old : ℕ) (d : Deed) → is_open d ≡ true → IsLater old d
  later-open old (Restarts epoch clock) h = cc
  later-open old d h = tt

  pub begun-open : (t : TransId) (d : Deed) → is_open d ≡ true → IsBegun t d → ⊥
  begun-open t d h w = let e : is_open (Begins t w.0 w.1 w.2) ≡ true = subst (λ x. is_open x ≡ true) w.3 h in let no : false ≡ true = e in cc

  joins-open : (j : JoinNo) (d : Deed) → is_open d ≡ true → IsJoining j d → ⊥
  joins-open j d h w = let e : is_open (Joins j w.0 w.1 w.2) ≡ true = subst (λ x. is_open x ≡ true) w.3 h in let no : false ≡ true = e in cc

  -- the epoch does not fall
  epoch-after : (d : Deed) (s : Ids) (old : ℕ) → IsLater old d → old < s.epoch → old < (ids_after s d).epoch
  epoch-after (Restarts epoch clock) s old l h = l
  epoch-after (Begins t client who seen) s old l h = h
  epoch-after (Joins j t client who) s old l h = h
  epoch-after (Performs t x) s old l h = h
  epoch-after d s old l h = h

  pub undrawn-stays : (d : Deed) (t : TransId) (f : Fate) → (IsBegun t d → ⊥) → f ≡ Undrawn → fate_after d t f ≡ Undrawn
  undrawn-stays d t f n h = subst (λ g. fate_after d t g ≡ Undrawn) (sym h) (go d n)
    where
      same : (b : Bool) → cond b Undrawn Undrawn ≡ Undrawn
      same true = refl
      same false = refl

      go : (d : Deed) → (IsBegun t d → ⊥) → fate_after d t Undrawn ≡ Undrawn
      go (Begins u client who seen) n = new (same_trans u t) refl
        where
          new : (b : Bool) → same_trans u t ≡ b → cond b (begun client Undrawn) Undrawn ≡ Undrawn
          new true e = absurd (n (client, who, seen, ap (λ x. Begins x client who seen) (same_trans-true u t e)))
          new false e = refl
      go (Registers u j) n = same (same_trans u t)
      go (Finishes u) n = same (same_trans u t)
      go (Hears u j ts) n = same (same_trans u t)
      go (Decides x js) n = same (same_trans x.trans t)
      go (Ends u client c) n = same (same_trans u t)
      go (Acknowledges u j) n = same (same_trans u t)
      go (Forgets u) n = same (same_trans u t)
      go (Restarts epoch clock) n = refl
      go (Joins j u client who) n = refl
      go (Enters j u client who) n = refl
      go (Quits j u client c) n = refl
      go (Aborts j u client c) n = refl
      go (Grants u c) n = refl
      go (Performs u x) n = refl
      go (Releases u) n = refl
      go (Readies j u ts) n = refl
      go (Applies j x) n = refl

  abbrev StaysOld : TransId → Deed → Type 0
  StaysOld t d = (IsBegun t d → ⊥) × IsLater t.epoch d

  abbrev IsOld : TransId → State → Type 0
  IsOld t s = (s.fates t ≡ Undrawn) × (t.epoch < s.ids.epoch)

  old-from : (n : ℕ) (t : TransId) (i k : ℕ) → i ≤ k → k ≤ size n → IsOld t (state_at log n i) → IsOld t (state_at log n k)
  old-from n t i k le end h =
      (stands-from log proper.lawful proper.linked (StaysOld t) (IsOld t) (λ s d r q. (undrawn-stays d t (s.fates t) r.0 q.0, epoch-after d s.ids t.epoch r.1 q.1)) (λ s desk down pending q. q) n i k
      (λ k e a b at m d q law from. (new e.event m d q law, later-law t.epoch e.event m d (let l : t.epoch < m.ids.epoch = q.1 in omega (arith, l)) law))
      (λ k e epoch clock q l. ((λ w. (let wrong : Restarts epoch clock ≡ Begins t w.0 w.1 w.2 = w.3 in cc)), (let m : t.epoch < (state_at log n k).ids.epoch = q.1 in omega (arith, m, l))))
      (h, pending (state_at log n i).pending) k le (omega arith) end).0
    where
      new : (e : Event) (m : State) (d : Deed) → IsOld t m → IsRightDeed e m d → IsBegun t d → ⊥
      new e m d q law w =
          let is : t ≡ next_trans m = subst (CountsOn m) w.3 law.counts in
          let now : t.epoch ≡ m.ids.epoch = ap (λ x. x.epoch) is in
          let l : t.epoch < m.ids.epoch = q.1 in omega (arith, now, l)

      pending : (ds : List Deed) → AllByRecursion (MayBeRight (StaysOld t) (IsOld t) (λ s d r q. (undrawn-stays d t (s.fates t) r.0 q.0, epoch-after d s.ids t.epoch r.1 q.1)) (λ s desk down pending q. q)) ds
      pending [] = tt
      pending (d ∷ ds) = ((λ o. (begun-open t d o, later-open t.epoch d o)), pending ds)

  -- ---- joins that are not live

  -- the id was given before
  abbrev pub WasDrawn : JoinNo → Ids → Type 0
  WasDrawn j s = (j.epoch < s.epoch) ⊎ ((j.epoch ≡ s.epoch) × (j.counter ≤ s.joins))

  pub drawn-epoch : (j : JoinNo) (s : Ids) → WasDrawn j s → j.epoch ≤ s.epoch
  drawn-epoch j s w = elim w [ inl l ↦ omega (arith, l) | inr l ↦ omega (arith, l.0) ]

  pub drawn-after : (j : JoinNo) (d : Deed) (s : Ids) → IsLater j.epoch d → WasDrawn j s → WasDrawn j (ids_after s d)
  drawn-after j (Restarts epoch clock) s l w = inl l
  drawn-after j (Joins k t client who) s l w = elim w [ inl a ↦ inl a | inr a ↦ inr (a.0, (let b : j.counter ≤ s.joins = a.1 in omega (arith, b))) ]
  drawn-after j (Begins t client who seen) s l w = w
  drawn-after j (Performs t x) s l w = w
  drawn-after j d s l w = w

  pub not-next : (j : JoinNo) (m : State) → WasDrawn j m.ids → j ≡ next_join m → ⊥
  not-next j m w is =
      let epoch : j.epoch ≡ m.ids.epoch = ap (λ x. x.epoch) is in
      let counter : j.counter ≡ m.ids.joins + 1 = ap (λ x. x.counter) is in
      elim w [ inl l ↦ omega (arith, l, epoch) | inr l ↦ (let b : j.counter ≤ m.ids.joins = l.1 in omega (arith, b, counter)) ]

  abbrev pub StaysDrawn : JoinNo → Deed → Type 0
  StaysDrawn j d = (IsJoining j d → ⊥) × IsLater j.epoch d

  module _ (D : JoinNo → Phase → Type 0) (stays : (d : Deed) (j : JoinNo) (p : Phase) → (IsJoining j d → ⊥) → D j p → D j (phase_after d j p)) where
    abbrev pub IsPast : JoinNo → State → Type 0
    IsPast j s = D j (s.phases j) × WasDrawn j s.ids

    pub past-keep : (j : JoinNo) (s : State) (d : Deed) → StaysDrawn j d → IsPast j s → IsPast j (state_deed s d)
    past-keep j s d r q = (stays d j (s.phases j) r.0 q.0, drawn-after j d s.ids r.1 q.1)

    pub past-still : (j : JoinNo) (s : State) (desk : Desk) (down : Bool) (pending : List Deed) → IsPast j s → IsPast j (record s { desk = desk; is_down = down; pending = pending })
    past-still j s desk down pending q = q

    pub past-from : (n : ℕ) (j : JoinNo) (i k : ℕ) → i ≤ k → k ≤ size n → IsPast j (state_at log n i) → IsPast j (state_at log n k)
    past-from n j i k le end h =
        (stands-from log proper.lawful proper.linked (StaysDrawn j) (IsPast j) (past-keep j) (past-still j) n i k
        (λ k e a b at m d q law from. (new e.event m d q law, later-law j.epoch e.event m d (drawn-epoch j m.ids q.1) law))
        (λ k e epoch clock q l. ((λ w. (let wrong : Restarts epoch clock ≡ Joins j w.0 w.1 w.2 = w.3 in cc)), (let m : j.epoch ≤ (state_at log n k).ids.epoch = drawn-epoch j (state_at log n k).ids q.1 in omega (arith, m, l))))
        (h, pending (state_at log n i).pending) k le (omega arith) end).0
      where
        new : (e : Event) (m : State) (d : Deed) → IsPast j m → IsRightDeed e m d → IsJoining j d → ⊥
        new e m d q law w = not-next j m q.1 (subst (CountsOn m) w.3 law.counts).0

        pending : (ds : List Deed) → AllByRecursion (MayBeRight (StaysDrawn j) (IsPast j) (past-keep j) (past-still j)) ds
        pending [] = tt
        pending (d ∷ ds) = ((λ o. (joins-open j d o, later-open j.epoch d o)), pending ds)

  -- ---- how a ready join ends

  -- its coordinator's word that it is aborted came while it was live
  abbrev pub AbortCame : ℕ → TransId → JoinNo → Type 0
  AbortCame n t j =
      (q : ℕ) × (from : ℕ) × (e : Entry) × (c : _) × (slice_get (journal_of log n) q ≡ Some e) × (e.event ≡ event.Arrive from (msg.Abort t j c)) × ((x : TransId × ℕ) × (live_in ((state_at log n q).phases j) ≡ Some x))

  abbrev pub CommitCame : ℕ → Stamp → JoinNo → Type 0
  CommitCame n x j = (q : ℕ) × (from : ℕ) × (e : Entry) × (slice_get (journal_of log n) q ≡ Some e) × (e.event ≡ event.Arrive from (msg.Commit x.trans j x))

  pub carries-right : (n i : ℕ) (e : Entry) → slice_get (journal_of log n) i ≡ Some e → (m : State) (d : Deed) → IsRightDeed e.event m d → IsFrom (state_at log n i) e.event d → Carries (AbortCame n) (CommitCame n) d
  carries-right n i e at m (Applies j x) law from = let a = law.application in (i, a.from, e, at, a.told)
  carries-right n i e at m (Aborts j t client c) law from = (i, from.0, e, c, at, from.1, from.2)
  carries-right n i e at m d law from = tt

  abbrev pub AreTold : ℕ → State → Type 0
  AreTold n s = (j : JoinNo) → IsTold (AbortCame n) (CommitCame n) j (s.phases j)

  pub told-keep : (n : ℕ) (s : State) (d : Deed) → Carries (AbortCame n) (CommitCame n) d → AreTold n s → AreTold n (state_deed s d)
  told-keep n s d r q j = told-stays (AbortCame n) (CommitCame n) d j (s.phases j) r (q j)

  pub told-still : (n : ℕ) (s : State) (desk : Desk) (down : Bool) (pending : List Deed) → AreTold n s → AreTold n (record s { desk = desk; is_down = down; pending = pending })
  told-still n s desk down pending q = q

  noted-told : (n : ℕ) (rs : List ReadyNote) (j : JoinNo) → IsTold (AbortCame n) (CommitCame n) j (phase_noted rs j)
  noted-told n [] j = tt
  noted-told n (r ∷ rs) j = go (same_join r.join j) (noted-told n rs j)
    where
      go : (b : Bool) → IsTold (AbortCame n) (CommitCame n) j (phase_noted rs j) → IsTold (AbortCame n) (CommitCame n) j (cond b (Ready r.trans r.client r.ts) (phase_noted rs j))
      go true h = tt
      go false h = h

  pub told-at : (n i : ℕ) → i ≤ size n → Stands (Carries (AbortCame n) (CommitCame n)) (AreTold n) (told-keep n) (told-still n) (state_at log n i)
  told-at n i le =
      stands-from log proper.lawful proper.linked (Carries (AbortCame n) (CommitCame n)) (AreTold n) (told-keep n) (told-still n) n 0 i
      (λ k e a b at m d q law from. carries-right n k e at m d law from) (λ k e epoch clock q l. tt)
      ((λ j. noted-told n (opening_of log n).ready j), tt) i (omega arith) (omega arith) le

  abbrev IsBoundAt : ℕ → TransId → JoinNo → State → Type 0
  IsBoundAt n t j s = IsBound (AbortCame n) (CommitCame n) t j (s.phases j)

  bound-keep : (n : ℕ) (t : TransId) (j : JoinNo) (s : State) (d : Deed) → Carries (AbortCame n) (CommitCame n) d → IsBoundAt n t j s → IsBoundAt n t j (state_deed s d)
  bound-keep n t j s d r q = bound-stays (AbortCame n) (CommitCame n) t d j (s.phases j) r q

  bound-from : (n : ℕ) (t : TransId) (j : JoinNo) (i k : ℕ) → i ≤ k → k ≤ size n → IsBoundAt n t j (state_at log n i) → IsBoundAt n t j (state_at log n k)
  bound-from n t j i k le end h =
      (stands-from log proper.lawful proper.linked (Carries (AbortCame n) (CommitCame n)) (IsBoundAt n t j) (bound-keep n t j) (λ s desk down pending q. q) n i k
      (λ k e a b at m d q law from. carries-right n k e at m d law from) (λ k e epoch clock q l. tt)
      (h, (told-at n i (omega (arith, le, end))).1) k le (omega arith) end).0

  -- ---- the end of the log

  pub at-end : (n : ℕ) (P : State → Type 0) → P (state_at log n (size n)) → P (final log n)
  at-end n P h = subst P (last log proper.lawful proper.linked n) h

  pub from-end : (n : ℕ) (P : State → Type 0) → P (final log n) → P (state_at log n (size n))
  from-end n P h = subst P (sym (last log proper.lawful proper.linked n)) h

  pub all-of : (n : ℕ) → size n ≤ size n
  all-of n = omega arith

  pub over-none : (f : Fate) (x : Decision) → IsOver f → decision_in f ≡ Some x → ⊥
  over-none (Ended c) x h k = cc
  over-none Undrawn x h k = h
  over-none (Running c js) x h k = h
  over-none (Finishing c js vs) x h k = h
  over-none (Committed y js ds) x h k = h
  over-none (Forgotten y js) x h k = h

  pub drawn-parts : (j : JoinNo) (here now last : ℕ) → is_drawn here now last j.server j.epoch j.counter ≡ true → (j.server ≡ here) × ((j.epoch < now) ⊎ ((j.epoch ≡ now) × (j.counter ≤ last)))
  drawn-parts j here now last h =
      let a = and_parts (j.server == here && nat_lt 0 j.epoch && nat_lt 0 j.counter) (nat_lt j.epoch now || (j.epoch == now && nat_le j.counter last)) h in
      let b = and_parts (j.server == here && nat_lt 0 j.epoch) (nat_lt 0 j.counter) a.0 in
      let c = and_parts (j.server == here) (nat_lt 0 j.epoch) b.0 in
      (eqb-true j.server here c.0, grind (arith, nat_tests, a.1))

  trans-server : (t : TransId) (here now last : ℕ) → is_drawn here now last t.server t.epoch t.counter ≡ true → t.server ≡ here
  trans-server t here now last h =
      let a = and_parts (t.server == here && nat_lt 0 t.epoch && nat_lt 0 t.counter) (nat_lt t.epoch now || (t.epoch == now && nat_le t.counter last)) h in
      let b = and_parts (t.server == here && nat_lt 0 t.epoch) (nat_lt 0 t.counter) a.0 in
      let c = and_parts (t.server == here) (nat_lt 0 t.epoch) b.0 in
      eqb-true t.server here c.0

  -- a committed transaction is its server's own, and rests on a promise of each join
  backed-parts : (n to : ℕ) (t : TransId) (f : Fate) (x : Decision) → IsBacked n (Promise n) (Acked n to) t f → decision_in f ≡ Some x → (t.server ≡ n) × ((j : JoinNo) → has_join j x.1 ≡ true → Promise n t j)
  backed-parts n to t (Committed y js ds) x b h = (b.0, λ j i. b.1 j (ap (λ (d : Decision). has_join j d.1) (some-same (y, js) x h) ∙ i))
  backed-parts n to t (Forgotten y js) x b h = (b.0, λ j i. b.1 j (ap (λ (d : Decision). has_join j d.1) (some-same (y, js) x h) ∙ i))
  backed-parts n to t Undrawn x b h = cc
  backed-parts n to t (Running c js) x b h = cc
  backed-parts n to t (Finishing c js vs) x b h = cc
  backed-parts n to t (Ended c) x b h = cc

  pub committed-parts : (n : ℕ) (t : TransId) (x : Decision) → decision_in ((final log n).fates t) ≡ Some x → (t.server ≡ n) × ((j : JoinNo) → has_join j x.1 ≡ true → Promise n t j)
  committed-parts n t x h = backed-parts n (size n) t ((final log n).fates t) x (at-end n (λ s. IsBacked n (Promise n) (Acked n (size n)) t (s.fates t)) ((backed-at n (size n) (size n) (all-of n) (all-of n)).1 t)) h

  -- what is forgotten was done by each join before
  forgotten-acked : (n to : ℕ) (t : TransId) (f : Fate) (y : Stamp) (js : List JoinNo) → f ≡ Forgotten y js → IsBacked n (Promise n) (Acked n to) t f → (j : JoinNo) → has_join j js ≡ true → Acked n to t j
  forgotten-acked n to t f y js e b = (subst (IsBacked n (Promise n) (Acked n to) t) e b).2

  -- no live join of a transaction that is committed at the end is told to abort
  module _ (n w : ℕ) (t : TransId) (j : JoinNo) (x : Decision) (own : t.server ≡ n) (here : j.server ≡ w) (committed : decision_in ((final log n).fates t) ≡ Some x) (has : has_join j x.1 ≡ true) where
    -- its coordinator forgot it only when the join was not live any more
    forgot-late : (k : ℕ) (place rank : ℕ) (e : Entry) → slice_get (journal_of log n) k ≡ Some e → rank_at log n k < rank_at log w place → (f : Entry) → slice_get (journal_of log w) place ≡ Some f
        → Acked n (suc k) t j → (y : TransId × ℕ) → live_in ((state_at log w place).phases j) ≡ Some y → ⊥
    forgot-late k place rank e at less f stands a y live =
        let sent = proper.linked.sent n a.0 a.1 a.2 (msg.Done t j) a.4 a.5 in
        let done = said log proper.lawful proper.linked a.1 n (msg.Done t j) (rank_at log n a.0) sent in
        let le : suc sent.place ≤ size a.1 = in-list (journal_of log a.1) sent.place sent.entry sent.stands in
        let s = state_at log a.1 (suc sent.place) in
        let drawn = drawn-parts j s.holder.server s.ids.epoch s.ids.joins done.3 in
        let from : a.1 ≡ w = sym (home-at a.1 (suc sent.place) le).0 ∙ sym drawn.0 ∙ here in
        let before : rank_at log n a.0 ≤ rank_at log n k = rank-le log proper.lawful proper.linked n a.0 k a.2 e a.4 at (let b : a.0 < suc k = a.3 in omega (arith, b)) in
        let order = rank-lt log proper.lawful proper.linked w sent.place place sent.entry f (subst (λ z. slice_get (journal_of log z) sent.place ≡ Some sent.entry) from sent.stands) stands
        (subst (λ z. rank_at log z sent.place < rank_at log w place) from (let b : rank_at log a.1 sent.place < rank_at log n a.0 = sent.earlier in omega (arith, b, before, less))) in
        let past = subst (λ z. (live_in ((state_at log z (suc sent.place)).phases j) ≡ None) × WasDrawn j (state_at log z (suc sent.place)).ids) from (done.4, drawn.1) in
        let gone = past-from (λ j p. live_in p ≡ None) dead-stays w j (suc sent.place) place (omega (arith, order)) (let b : place < size w = in-list (journal_of log w) place f stands in omega (arith, b)) past in
        let wrong : None ≡ Some y = sym gone.0 ∙ live in cc

    -- after its word that the join is aborted it never was committed, or it has forgotten that
    abort-case : (p place : ℕ) (e f : Entry) → slice_get (journal_of log n) p ≡ Some e → rank_at log n p < rank_at log w place → slice_get (journal_of log w) place ≡ Some f
        → (y : TransId × ℕ) → live_in ((state_at log w place).phases j) ≡ Some y → (c : _) (g : Fate) → (state_at log n (suc p)).fates t ≡ g → MayAbort (state_at log n (suc p)) t c g → ⊥
    abort-case p place e f at less stands y live c (Ended d) is may =
        let le : suc p ≤ size n = in-list (journal_of log n) p e at in
        over-none ((final log n).fates t) x (at-end n (λ s. IsOver (s.fates t)) (over-from n t (suc p) (size n) le (all-of n) (subst IsOver (sym is) tt))) committed
    abort-case p place e f at less stands y live c Undrawn is may =
        let le : suc p ≤ size n = in-list (journal_of log n) p e at in
        let old : IsOld t (final log n) = at-end n (IsOld t) (old-from n t (suc p) (size n) le (all-of n) (is, may.0)) in
        let none : decision_in Undrawn ≡ Some x = subst (λ g. decision_in g ≡ Some x) old.0 committed in
        let wrong : None ≡ Some x = none in cc
    abort-case p place e f at less stands y live c (Forgotten z js) is may =
        let le : suc p ≤ size n = in-list (journal_of log n) p e at in
        let here_too : decision_in ((final log n).fates t) ≡ Some (z, js) = at-end n (λ s. decision_in (s.fates t) ≡ Some (z, js)) (decided-from n t (z, js) (suc p) (size n) le (all-of n) (ap decision_in is)) in
        let same : x ≡ (z, js) = some-same x (z, js) (sym committed ∙ here_too) in
        let acked : Acked n (suc p) t j =
        forgotten-acked n (suc p) t ((state_at log n (suc p)).fates t) z js is ((backed-at n (suc p) (suc p) (omega arith) le).1 t) j (ap (λ (d : Decision). has_join j d.1) (sym same) ∙ has) in
        forgot-late p place 0 e at less f stands acked y live
    abort-case p place e f at less stands y live c (Committed z [] ds) is may =
        let le : suc p ≤ size n = in-list (journal_of log n) p e at in
        let here_too : decision_in ((final log n).fates t) ≡ Some (z, []) = at-end n (λ s. decision_in (s.fates t) ≡ Some (z, [])) (decided-from n t (z, []) (suc p) (size n) le (all-of n) (ap decision_in is)) in
        let wrong : true ≡ false = sym has ∙ ap (λ (d : Decision). has_join j d.1) (some-same x (z, []) (sym committed ∙ here_too)) in cc
    abort-case p place e f at less stands y live c (Committed z (k ∷ js) ds) is may = may
    abort-case p place e f at less stands y live c (Running k js) is may = may
    abort-case p place e f at less stands y live c (Finishing k js vs) is may = may

    pub abort-late : AbortCame w t j → ⊥
    abort-late a =
        let sent = proper.linked.sent w a.0 a.1 a.2 (msg.Abort t j a.3) a.4 a.5 in
        let said_so = said log proper.lawful proper.linked a.1 w (msg.Abort t j a.3) (rank_at log w a.0) sent in
        let k : ℕ = suc sent.place in
        let le : k ≤ size a.1 = in-list (journal_of log a.1) sent.place sent.entry sent.stands in
        let s = state_at log a.1 k in
        let from : a.1 ≡ n = sym (home-at a.1 k le).0 ∙ sym (trans-server t s.holder.server s.ids.epoch s.ids.transactions said_so.0) ∙ own in
        let there = subst (λ m. (slice_get (journal_of log m) sent.place ≡ Some sent.entry) × (rank_at log m sent.place < rank_at log w a.0) × MayAbort (state_at log m (suc sent.place)) t a.3 ((state_at log m (suc sent.place)).fates t)) from
        (sent.stands, sent.earlier, said_so.1) in
        abort-case sent.place a.0 sent.entry a.2 there.0 there.1 a.4 (a.6).0 (a.6).1 a.3 ((state_at log n (suc sent.place)).fates t) refl there.2

  -- ---- what was applied was committed

  abbrev pub WasCommitted : Stamp → JoinNo → Type 0
  WasCommitted y j = (m : ℕ) × (joins : List JoinNo) × HasCommitted log m y joins × (has_join j joins ≡ true)

  decision-end : (m p : ℕ) (y : Stamp) (j : JoinNo) (o : Option Decision) → decision_in ((state_at log m p).fates y.trans) ≡ o → p ≤ size m → HasDecision y j o → WasCommitted y j
  decision-end m p y j None e le h = absurd h
  decision-end m p y j (Some d) e le h =
      let end : decision_in ((final log m).fates y.trans) ≡ Some d = at-end m (λ s. decision_in (s.fates y.trans) ≡ Some d) (decided-from m y.trans d p (size m) le (all-of m) e) in
      (m, d.1, end ∙ ap (λ (z : Stamp). Some (z, d.1)) h.0, h.1)

  pub commit-came : (n : ℕ) (y : Stamp) (j : JoinNo) → CommitCame n y j → WasCommitted y j
  commit-came n y j a =
      let sent = proper.linked.sent n a.0 a.1 a.2 (msg.Commit y.trans j y) a.3 a.4 in
      let le : suc sent.place ≤ size a.1 = in-list (journal_of log a.1) sent.place sent.entry sent.stands in
      decision-end a.1 (suc sent.place) y j (decision_in ((state_at log a.1 (suc sent.place)).fates y.trans)) refl le (said log proper.lawful proper.linked a.1 n (msg.Commit y.trans j y) (rank_at log n a.0) sent)

  pub applied-committed : (n : ℕ) (j : JoinNo) (t : TransId) (y : Stamp) → (final log n).phases j ≡ Applied t y → (t ≡ y.trans) × WasCommitted y j
  applied-committed n j t y h =
      let told : IsTold (AbortCame n) (CommitCame n) j ((final log n).phases j) = at-end n (λ s. IsTold (AbortCame n) (CommitCame n) j (s.phases j)) ((told-at n (size n) (all-of n)).0 j) in
      let both = subst (IsTold (AbortCame n) (CommitCame n) j) h told in
      (both.0, commit-came n y j both.1)

  -- ---- what was committed is kept

  module _ (n : ℕ) (stamp : Stamp) (joins : List JoinNo) (j : JoinNo) (committed : HasCommitted log n stamp joins) (has : has_join j joins ≡ true) where
    abbrev w : ℕ
    w = j.server

    parts : (stamp.trans.server ≡ n) × ((k : JoinNo) → has_join k joins ≡ true → Promise n stamp.trans k)
    parts = committed-parts n stamp.trans (stamp, joins) committed

    -- one server decides a transaction once
    same-stamp : (y : Stamp) → stamp.trans ≡ y.trans → WasCommitted y j → y ≡ stamp
    same-stamp y t c =
        let own = committed-parts c.0 y.trans (y, c.1) c.2 in
        let here : c.0 ≡ n = sym own.0 ∙ ap (λ x. x.server) (sym t) ∙ parts.0 in
        let too : decision_in ((final log n).fates stamp.trans) ≡ Some (y, c.1) =
        subst (λ m. decision_in ((final log m).fates stamp.trans) ≡ Some (y, c.1)) here (subst (λ u. decision_in ((final log c.0).fates u) ≡ Some (y, c.1)) (sym t) c.2) in
        ap (λ (d : Decision). d.0) (some-same (y, c.1) (stamp, joins) (sym too ∙ committed))

    bound-kept : (p : Phase) → (final log w).phases j ≡ p → IsBound (AbortCame w) (CommitCame w) stamp.trans j p → IsKept stamp p
    bound-kept (Ready u client ts) e h = h
    bound-kept (Applied u y) e h =
        let a = applied-committed w j u y e in
        (h, same-stamp y (sym h ∙ a.0) a.1)
    bound-kept Over e h = absurd (abort-late n w stamp.trans j (stamp, joins) parts.0 refl committed has h)
    bound-kept Unseen e h = absurd h
    bound-kept (Joining u c k) e h = absurd h
    bound-kept (Active u c k) e h = absurd h

    bound-end : (i : ℕ) → i ≤ size w → IsBoundAt w stamp.trans j (state_at log w i) → IsKept stamp ((final log w).phases j)
    bound-end i le h = bound-kept ((final log w).phases j) refl (at-end w (IsBoundAt w stamp.trans j) (bound-from w stamp.trans j i (size w) le (all-of w) h))

    was-ready : WasReady stamp.trans j → IsKept stamp ((final log w).phases j)
    was-ready r = bound-end r.0 r.3 (subst (IsBound (AbortCame w) (CommitCame w) stamp.trans j) (sym r.4) refl)

    -- the join's note stood at the opening, or was gone
    note-of : (rs : List ReadyNote) → (phase_noted rs j ≡ Unseen) ⊎ ((r : ReadyNote) × IsIn r rs × (r.join ≡ j) × (phase_noted rs j ≡ Ready r.trans r.client r.ts))
    note-of [] = inl refl
    note-of (r ∷ rs) = go (same_join r.join j) refl (note-of rs)
      where
        go : (b : Bool) → same_join r.join j ≡ b → (phase_noted rs j ≡ Unseen) ⊎ ((q : ReadyNote) × IsIn q rs × (q.join ≡ j) × (phase_noted rs j ≡ Ready q.trans q.client q.ts))
            → (cond b (Ready r.trans r.client r.ts) (phase_noted rs j) ≡ Unseen)
            ⊎ ((q : ReadyNote) × IsIn q (r ∷ rs) × (q.join ≡ j) × (cond b (Ready r.trans r.client r.ts) (phase_noted rs j) ≡ Ready q.trans q.client q.ts))
        go true e rest = inr (r, inl refl, same_join-true r.join j e, refl)
        go false e (inl k) = inl k
        go false e (inr k) = inr (k.0, inr k.1, k.2, k.3)

    was-noted : Noted n stamp.trans j → IsKept stamp ((final log w).phases j)
    was-noted d = elim (note-of (opening_of log w).ready) [
      | inl none ↦
          let early : j.epoch < (opening_of log w).epoch = ((proper.sound n).decisions d.0 d.1).known j d.3 in
          let past = past-from (λ j p. p ≡ Unseen) unseen-stays w j 0 (size w) (omega arith) (all-of w) (none, inl early) in
          subst (IsKept stamp) (sym (at-end w (λ s. s.phases j ≡ Unseen) past.0)) tt
      | inr r ↦
          let its : (r.0).trans ≡ stamp.trans = ((proper.sound n).decisions d.0 d.1).its w r.0 r.1 (ap (λ k. has_join k (d.0).joins) r.2 ∙ d.3) ∙ d.2 in
          bound-end 0 (omega arith) (subst (IsBound (AbortCame w) (CommitCame w) stamp.trans j) (sym r.3) its)
    ]

    pub kept : IsKept stamp ((final log w).phases j)
    kept = elim (parts.1 j has) [ inl d ↦ was-noted d | inr r ↦ was-ready r ]

  pub agreed : DoAgreeOnEnds log
  agreed = record {
    kept = kept;
    only = λ n j t stamp h. (let a = applied-committed n j t stamp h in ((a.1).0, (a.1).1, (a.1).2, (a.1).3, a.0));
  }

pub agreement : Agreement
agreement = agreed
