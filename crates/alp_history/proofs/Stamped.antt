-- what a Commit that arrives says of the decision: each part voted for no later time, before
use Rattle.std.specs.Prelude.{Bool, true, false, cond, Option, None, Some}
use Rattle.std.specs.List.{list_all}
use Rattle.std.proofs.Common.{◌≡◌, ℕ, suc, ◌+◌, ◌<◌, ◌≤◌, List, [], ◌∷◌, slice_get, refl, sym, ap, subst, ◌∙◌, arith, inl, inr, ◌⊎◌}
use Rattle.alp_base.specs.declared.ids.JoinNo.{JoinNo}
use Rattle.alp_base.specs.declared.ids.TransId.{TransId}
use Rattle.alp_base.specs.declared.ids.Stamp.{Stamp}
use Rattle.alp_journal.specs.declared.event.Event.TheVariants as event
use Rattle.alp_journal.specs.declared.message.Message.TheVariants as msg
use Rattle.alp_journal.specs.declared.entry.Entry.{Entry}
use Rattle.alp_journal.specs.Ids.{same_trans, has_join}
use Rattle.alp_journal.specs.Opening.{DecisionNote}
use Rattle.alp_journal.specs.Deeds.{Deed, Hears, Decides}
use Rattle.alp_journal.specs.Coordinator.{Fate, Undrawn, Running, Finishing, Committed, Forgotten, Ended, voted, has_votes, fate_noted, decision_in}
use Rattle.alp_journal.specs.Participant.{Phase, Unseen, Joining, Active, Ready, Applied, Over, phase_after}
use Rattle.alp_journal.specs.State.{State}
use Rattle.alp_journal.specs.Laws.{latest_vote, HasDecision}
use Rattle.alp_history.specs.Log.{Log, journal_of, opening_of, rank_at, state_at, final, IsIn, WasSent}
use Rattle.alp_history.specs.Theorems.{IsProper}
use Rattle.alp_history.proofs.Places.{in-list, some-same}
use Rattle.alp_journal.proofs.IdLemmas.{all-each}
use Rattle.alp_history.proofs.Fates.{Decision}
use Rattle.alp_history.proofs.Phases.{IsSeen, phase-cases}
use Rattle.alp_journal.proofs.Origins.{IsFrom}
use Rattle.alp_history.proofs.Logs.{said, rank-le, rank-lt, stands-from}
use Rattle.alp_history.proofs.Votes.{IsSpread, vote-in, latest-vote, IsAgreed, IsTimed, Votes, timed-after}
use Rattle.alp_history.proofs.Agreed.{size, home-at, at-end, all-of, decided-from, Nothing, nothing}
use Rattle.alp_history.proofs.Rights.{IsRightDeed}

-- the vote of a ready join stays the same
abbrev pub IsSameVote : TransId → ℕ → Phase → Type 0
IsSameVote t ts (Ready u client v) = (u ≡ t) × (v ≡ ts)
IsSameVote t ts (Applied u x) = Unit {0}
IsSameVote t ts Over = Unit {0}
IsSameVote t ts Unseen = ⊥
IsSameVote t ts (Joining u client who) = ⊥
IsSameVote t ts (Active u client who) = ⊥

pub vote-stays : (t : TransId) (ts : ℕ) (d : Deed) (j : JoinNo) (p : Phase) → IsSameVote t ts p → IsSameVote t ts (phase_after d j p)
vote-stays t ts d j (Ready u c v) h =
    phase-cases (IsSameVote t ts) d j (Ready u c v) h (λ a b w e. h) h (λ n. h) (λ x e. go x (same_trans x.trans u)) h (λ a b w e. stop (same_trans a u)) h
  where
    go : (x : Stamp) (b : Bool) → IsSameVote t ts (cond b (Applied u x) (Ready u c v))
    go x true = tt
    go x false = h

    stop : (b : Bool) → IsSameVote t ts (cond b Over (Ready u c v))
    stop true = tt
    stop false = h
vote-stays t ts d j (Applied u x) h = phase-cases (IsSameVote t ts) d j (Applied u x) h (λ a b w e. h) h (λ n. h) (λ x e. h) h (λ a b w e. h) h
vote-stays t ts d j Over h = phase-cases (IsSameVote t ts) d j Over h (λ a b w e. h) h (λ n. h) (λ x e. h) h (λ a b w e. h) h
vote-stays t ts d j Unseen h = absurd h
vote-stays t ts d j (Joining u c w) h = absurd h
vote-stays t ts d j (Active u c w) h = absurd h

module _ (log : Log) (proper : IsProper log) where
  -- the vote was said by the join's server, and came here before a place
  abbrev pub SaidAt : ℕ → ℕ → TransId → JoinNo → ℕ → Type 0
  SaidAt n to t j ts =
      (p : ℕ) × (c : ℕ) × (f : Entry) × (q : ℕ) × (e : Entry) × (slice_get (journal_of log j.server) p ≡ Some f) × ((state_at log j.server (suc p)).phases j ≡ Ready t c ts)
      × (q < to) × (slice_get (journal_of log n) q ≡ Some e) × (rank_at log j.server p < rank_at log n q)

  abbrev pub NotedIn : ℕ → Stamp → JoinNo → Type 0
  NotedIn n x j = (d : DecisionNote) × IsIn d (opening_of log n).decisions × (d.stamp ≡ x) × (has_join j d.joins ≡ true)

  said-at : (n to i from : ℕ) (e : Entry) (t : TransId) (j : JoinNo) (ts : ℕ) → i < to → slice_get (journal_of log n) i ≡ Some e → e.event ≡ event.Arrive from (msg.Ready t j ts) → SaidAt n to t j ts
  said-at n to i from e t j ts lt at came =
      let w = proper.linked.sent n i from e (msg.Ready t j ts) at came in
      let s = said log proper.lawful proper.linked from n (msg.Ready t j ts) (rank_at log n i) w in
      let le : suc w.place ≤ size log proper from = in-list (journal_of log from) w.place w.entry w.stands in
      let here : j.server ≡ from = (home-at log proper from (suc w.place) le).1 j (ap IsSeen s.1) in
      let there = subst (λ x. (slice_get (journal_of log x) w.place ≡ Some w.entry) × ((state_at log x (suc w.place)).phases j ≡ Ready t s.0 ts) × (rank_at log x w.place < rank_at log n i)) (sym here) (w.stands, s.1, w.earlier) in
      (w.place, s.0, w.entry, i, e, there.0, there.1, lt, at, there.2)

  abbrev pub AreTimed : ℕ → ℕ → State → Type 0
  AreTimed n to s = (t : TransId) → IsTimed (SaidAt n to) (NotedIn n) t (s.fates t)

  timed-right : (n to i : ℕ) (e : Entry) → i < to → slice_get (journal_of log n) i ≡ Some e → (m : State) (d : Deed) → AreTimed n to m → IsRightDeed e.event m d → IsFrom (state_at log n i) e.event d
      → Votes (SaidAt n to) (NotedIn n) d
  timed-right n to i e lt at m (Hears t j ts) h law from = said-at n to i from.0 e t j ts lt at from.1
  timed-right n to i e lt at m (Decides x js) h law from =
      let v = law.decision in
      let b = subst (IsTimed (SaidAt n to) (NotedIn n) x.trans) v.finishing (h x.trans) in
      let all : list_all (λ j. voted j v.votes) js ≡ true = sym (ap has_votes v.finishing) ∙ v.voted in (
        b.0,
        λ j is.
            (let r = vote-in j v.votes (all-each (λ k. voted k v.votes) js j all is) in
            let low : r.0 ≤ latest_vote (m.holder.clock + 1) v.votes = latest-vote (m.holder.clock + 1) v.votes j r.0 r.1 in
            let time : x.ts ≡ latest_vote (m.holder.clock + 1) v.votes = v.time in
            inr (r.0, b.1 j r.0 r.1, omega (arith, low, time))),
      )
  timed-right n to i e lt at m d h law from = tt

  noted-timed : (n to : ℕ) (ds : List DecisionNote) → ((d : DecisionNote) → IsIn d ds → IsIn d (opening_of log n).decisions) → (t : TransId) → IsTimed (SaidAt n to) (NotedIn n) t (fate_noted ds t)
  noted-timed n to [] f t = tt
  noted-timed n to (d ∷ ds) f t = go (same_trans d.stamp.trans t) (noted-timed n to ds (λ x i. f x (inr i)) t)
    where
      go : (b : Bool) → IsTimed (SaidAt n to) (NotedIn n) t (fate_noted ds t) → IsTimed (SaidAt n to) (NotedIn n) t (cond b (Committed d.stamp d.joins []) (fate_noted ds t))
      go true rest = (((proper.sound n).decisions d (f d (inl refl))).spread, λ j i. inl (d, f d (inl refl), refl, i))
      go false rest = rest

  pub timed-at : (n to i : ℕ) → i ≤ to → i ≤ size log proper n → AreTimed n to (state_at log n i)
  timed-at n to i le end =
      (stands-from log proper.lawful proper.linked (Votes (SaidAt n to) (NotedIn n)) (AreTimed n to) (λ s d r h t. timed-after (SaidAt n to) (NotedIn n) d t (s.fates t) r (h t)) (λ s desk down pending h. h) n 0 to
      (λ k e a b at m d q law from. timed-right n to k e b at m d q law from) (λ k e epoch clock q l. tt)
      ((λ t. noted-timed n to (opening_of log n).decisions (λ d x. x) t), tt) i (omega arith) le end).0

  -- a vote stays
  pub vote-from : (n : ℕ) (j : JoinNo) (t : TransId) (ts i k : ℕ) → i ≤ k → k ≤ size log proper n → IsSameVote t ts ((state_at log n i).phases j) → IsSameVote t ts ((state_at log n k).phases j)
  vote-from n j t ts i k le end h =
      (stands-from log proper.lawful proper.linked Nothing (λ s. IsSameVote t ts (s.phases j)) (λ s d r q. vote-stays t ts d j (s.phases j) q) (λ s desk down pending q. q) n i k
      (λ k e a b at m d q law from. tt) (λ k e epoch clock q l. tt) (h, nothing (state_at log n i).pending) k le (omega arith) end).0

  -- ---- a Commit that arrives

  -- the decision that it tells of: the join is one of its joins, all of different servers, and voted before for no later time,
  -- unless an earlier run decided
  pub record Tells (w i : ℕ) (x : Stamp) (j : JoinNo) : Type 0 where
    pub from : ℕ
    pub joins : List JoinNo
    pub stands : decision_in ((final log from).fates x.trans) ≡ Some (x, joins)
    pub has : has_join j joins ≡ true
    pub spread : IsSpread joins
    pub voted : NotedIn from x j ⊎ ((ts : ℕ) × (p : ℕ) × (c : ℕ) × (ts ≤ x.ts) × (suc p ≤ i) × ((state_at log w (suc p)).phases j ≡ Ready x.trans c ts))

  -- of a fate that is decided
  pub decided-timed : (n to : ℕ) (t : TransId) (f : Fate) (d : Decision) → decision_in f ≡ Some d → IsTimed (SaidAt n to) (NotedIn n) t f → IsSpread d.1 × ((j : JoinNo) → has_join j d.1 ≡ true → IsAgreed (SaidAt n to) (NotedIn n) d.0 j)
  decided-timed n to t (Committed x js ds) d e h = subst (λ (y : Decision). IsSpread y.1 × ((j : JoinNo) → has_join j y.1 ≡ true → IsAgreed (SaidAt n to) (NotedIn n) y.0 j)) (some-same (x, js) d e) h
  decided-timed n to t (Forgotten x js) d e h = subst (λ (y : Decision). IsSpread y.1 × ((j : JoinNo) → has_join j y.1 ≡ true → IsAgreed (SaidAt n to) (NotedIn n) y.0 j)) (some-same (x, js) d e) h
  decided-timed n to t Undrawn d e h = cc
  decided-timed n to t (Running c js) d e h = cc
  decided-timed n to t (Finishing c js vs) d e h = cc
  decided-timed n to t (Ended c) d e h = cc

  module _ (w i : ℕ) (e : Entry) (at : slice_get (journal_of log w) i ≡ Some e) (x : Stamp) (j : JoinNo) (here : j.server ≡ w) where
    commit-tells : (from : ℕ) (sent : WasSent log from w (msg.Commit x.trans j x) (rank_at log w i)) (o : Option Decision) → decision_in ((state_at log from (suc sent.place)).fates x.trans) ≡ o → HasDecision x j o → Tells w i x j
    commit-tells from sent None is h = absurd h
    commit-tells from sent (Some d) is h =
        let k : ℕ = sent.place in
        let le : suc k ≤ size log proper from = in-list (journal_of log from) k sent.entry sent.stands in
        let t = decided-timed from (suc k) x.trans ((state_at log from (suc k)).fates x.trans) d is (timed-at from (suc k) (suc k) (omega arith) le x.trans) in
        record {
          from = from;
          joins = d.1;
          stands = at-end log proper from (λ s. decision_in (s.fates x.trans) ≡ Some d) (decided-from log proper from x.trans d (suc k) (size log proper from) le (all-of log proper from) is) ∙ ap (λ (z : Stamp). Some (z, d.1)) h.0;
          has = h.1;
          spread = t.0;
          voted = elim (t.1 j h.1) [
            | inl n ↦ inl (subst (λ z. NotedIn from z j) h.0 n)
            | inr v ↦ (let s = subst (λ z. SaidAt from (suc k) z.trans j v.0) h.0 v.1 in
                let q : rank_at log from s.3 ≤ rank_at log from k = rank-le log proper.lawful proper.linked from s.3 k s.4 sent.entry s.8 sent.stands (let l : s.3 < suc k = s.7 in omega (arith, l)) in
                let there = subst (λ m. (slice_get (journal_of log m) s.0 ≡ Some s.2) × ((state_at log m (suc s.0)).phases j ≡ Ready x.trans s.1 v.0) × (rank_at log m s.0 < rank_at log from s.3)) here (s.5, s.6, s.9) in
                let less : rank_at log w s.0 < rank_at log w i = (let a : rank_at log w s.0 < rank_at log from s.3 = there.2 in let b : rank_at log from k < rank_at log w i = sent.earlier in omega (arith, a, b, q)) in
                let before : s.0 < i = rank-lt log proper.lawful proper.linked w s.0 i s.2 e there.0 at less in
                let low : v.0 ≤ x.ts = subst (λ (z : Stamp). v.0 ≤ z.ts) h.0 v.2 in
                inr (v.0, s.0, s.1, low, omega (arith, before), there.1))
          ];
        }

    pub commit-of : (from : ℕ) → e.event ≡ event.Arrive from (msg.Commit x.trans j x) → Tells w i x j
    commit-of from came =
        let sent = proper.linked.sent w i from e (msg.Commit x.trans j x) at came in
        commit-tells from sent (decision_in ((state_at log from (suc sent.place)).fates x.trans)) refl (said log proper.lawful proper.linked from w (msg.Commit x.trans j x) (rank_at log w i) sent)
