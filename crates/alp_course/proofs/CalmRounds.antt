-- What the rounds of a settling leave, where no part is open: first nothing runs, then no part is live, then no decision stands.
use Rattle.std.specs.Prelude.{Bool, true, false, not, cond, ◌&&◌, ◌||◌, ◌==◌, filter, flat_map, Option, None, Some}
use Rattle.std.specs.List.{list_all, AllByRecursion}
use Rattle.std.proofs.Common.{◌≡◌, ℕ, zero, suc, ◌+◌, ◌<◌, ◌≤◌, List, [], ◌∷◌, ◌++◌, slice_get, length, refl, sym, ◌∙◌, ap, subst, arith, inl, inr, ◌⊎◌}
use Rattle.std.proofs.lemmas.Bool.{lt-ltb}
use Rattle.std.proofs.lemmas.Bool.Decides.{eqb_tells}
use Rattle.alp_base.specs.declared.ids.JoinNo.{JoinNo}
use Rattle.alp_base.specs.declared.ids.Stamp.{Stamp}
use Rattle.alp_base.specs.declared.ids.TransId.{TransId}
use Rattle.alp_journal.specs.Along.{Where}
use Rattle.alp_journal.specs.Answered.{IsAnswered, IsAnsweredSo, IsAnsweredEntry, CountsVotes, ForgetsDone, is_all_done}
use Rattle.alp_journal.specs.Coordinator.{Fate, Vote, Undrawn, Running, Finishing, Committed, Forgotten, Ended, voted, has_all, has_votes, joins_of, is_running}
use Rattle.alp_journal.specs.Ids.{same_join, same_stamp, has_join}
use Rattle.alp_journal.specs.Laws.{StartsRight, is_standing}
use Rattle.alp_journal.specs.Messages.{Mail, to_each, register_again, ask_again, commit_again, inquire_again, on_tick}
use Rattle.alp_journal.specs.Moves.{next, stops}
use Rattle.alp_journal.specs.Participant.{Phase, Unseen, Joining, Active, Ready, Applied, Over, live_in, open_in, is_ready}
use Rattle.alp_journal.specs.State.{State, opened, is_other_server, is_join_drawn, is_trans_drawn}
use Rattle.alp_journal.specs.declared.act.Act.TheVariants as act
use Rattle.alp_journal.specs.declared.entry.Entry.{Entry}
use Rattle.alp_journal.specs.declared.event.Event.TheVariants as event
use Rattle.alp_journal.specs.declared.message.Message.{Message}
use Rattle.alp_journal.specs.declared.message.Message.TheVariants as msg
use Rattle.alp_history.specs.Log.{Log, journal_of, opening_of, state_at, IsIn}
use Rattle.alp_history.specs.Theorems.{IsProper}
use Rattle.alp_history.proofs.Decisions.{in-filter, in-map}
use Rattle.alp_history.proofs.Linked.{in-left, in-right, same_join-self}
use Rattle.alp_history.proofs.Logs.{lawful-at, state-suc}
use Rattle.alp_history.proofs.Places.{keeps-from, along-at, past-end}
use Rattle.alp_history.proofs.Rights.{IsRightEntry}
use Rattle.alp_course.specs.Courses.{IsOneOf}
use Rattle.alp_course.specs.Opens.{is_unasked}
use Rattle.alp_course.proofs.CalmDeeds.{unasked_still, over_still, HasThese, these_still, IsHeardBy, heard_still, IsDoneBy, done_still, WasDecided, decided_still, IsUncommitted, uncommitted_still, open_still, live_still, IsReadyFor, for_still}
use Rattle.alp_course.proofs.CalmRange.{IsMildEntry, IsKept, entry_keeps}
use Rattle.alp_course.proofs.CalmArrivals.{IsVote, IsEnd, IsDoneWord, HasIt, HasThose, flat_in, tick_sent, ask_answered, vote_came, inquiry_answered, end_came, commit_answered, done_came, heard_kept, done_kept}

-- ---- lists of joins

pub has_in : (j : JoinNo) (js : List JoinNo) → IsIn j js → has_join j js ≡ true
has_in j [] i = absurd i
has_in j (k ∷ js) (inl is) = ap (λ (q : JoinNo). same_join q j || has_join j js) (sym is) ∙ ap (λ (b : Bool). b || has_join j js) (same_join-self j)
has_in j (k ∷ js) (inr i) = go (same_join k j) (has_in j js i)
  where
    go : (b : Bool) → has_join j js ≡ true → (b || has_join j js) ≡ true
    go true h = refl
    go false h = h

all_true : (p : JoinNo → Bool) (js : List JoinNo) → ((j : JoinNo) → IsIn j js → p j ≡ true) → list_all p js ≡ true
all_true p [] h = refl
all_true p (j ∷ js) h = (λ i. h j (inl refl) i && all_true p js (λ k e. h k (inr e)) i)

-- ---- states in which nothing is left open

-- every transaction of the server was asked to finish, and every join voted
pub record IsShut (s : State) : Type 0 where
  pub fates : (t : TransId) → is_unasked (s.fates t) ≡ false
  pub phases : (j : JoinNo) → open_in (s.phases j) ≡ None

abbrev pub IsOverIn : State → Type 0
IsOverIn s = (t : TransId) → is_running (s.fates t) ≡ false

abbrev pub AreGoneIn : State → Type 0
AreGoneIn s = (j : JoinNo) → live_in (s.phases j) ≡ None

pub shut_kept : IsKept IsShut
shut_kept = record {
  keep = λ s d still h. record { fates = λ t. unasked_still d t (s.fates t) still (h.fates t); phases = λ j. open_still d j (s.phases j) still (h.phases j) };
  still = λ s desk down pending h. record { fates = h.fates; phases = h.phases };
}

pub over_kept : IsKept IsOverIn
over_kept = record { keep = λ s d still h t. over_still d t (s.fates t) still (h t); still = λ s desk down pending h. h }

pub gone_kept : IsKept AreGoneIn
gone_kept = record { keep = λ s d still h j. live_still d j (s.phases j) still (h j); still = λ s desk down pending h. h }

-- what is known of the names in a state of a server
pub record IsNamed (servers n : ℕ) (s : State) : Type 0 where
  pub number : s.holder.server ≡ n
  pub among : s.servers ≡ servers
  -- what is known of a transaction is known of one of this server, which began here
  pub own : (t : TransId) (j : JoinNo) → IsIn j (joins_of (s.fates t)) → (t.server ≡ n) × IsIn t s.begun
  -- its joins are of other servers
  pub others : (t : TransId) (j : JoinNo) → IsIn j (joins_of (s.fates t)) → IsOneOf servers j.server × (j.server ≡ n → ⊥)
  -- a ready join is of this server, and its transaction of another one
  pub ready : (j : JoinNo) (t : TransId) (client ts : ℕ) → s.phases j ≡ Ready t client ts → (j.server ≡ n) × IsIn j s.joined × IsOneOf servers t.server × (t.server ≡ n → ⊥)

-- another one of the run
pub other_one : (servers n : ℕ) (s : State) (to : ℕ) → IsNamed servers n s → IsOneOf servers to → (to ≡ n → ⊥) → is_other_server s to ≡ true
other_one servers n s to named one apart = (λ i. lt-ltb 0 to (omega (arith, one.first)) i && lt-ltb to (s.servers + 1) (omega (arith, one.last, named.among)) i && not (away i))
  where
    away : (to == s.holder.server) ≡ false
    away = elim (eqb_tells to s.holder.server) [ inl same ↦ absurd (apart (same.1 ∙ named.number)) | inr other ↦ other.0 ]

module _ (log : Log) (proper : IsProper log) (servers : ℕ) (answered : (n : ℕ) → IsOneOf servers n → IsAnswered (opening_of log n) (journal_of log n)) where
  -- ---- a round

  -- the message came there
  pub record CameTo (a b : ℕ → ℕ) (from to : ℕ) (m : Message) : Type 0 where
    pub place : ℕ
    pub entry : Entry
    pub low : a to ≤ place
    pub high : place < b to
    pub stands : slice_get (journal_of log to) place ≡ Some entry
    pub event_is : entry.event ≡ event.Arrive from m

  -- From these places of the journals to those a tick stands first, then messages and ticks alone, none of which was stopped, and
  -- whatever is sent to another server comes there.
  pub record IsCalmRound (a b : ℕ → ℕ) : Type 0 where
    pub some : (n : ℕ) → IsOneOf servers n → a n < b n
    pub within : (n : ℕ) → IsOneOf servers n → b n ≤ length (journal_of log n)
    pub tick : (n : ℕ) → IsOneOf servers n → (e : Entry) × (slice_get (journal_of log n) (a n) ≡ Some e) × (e.event ≡ event.Tick)
    pub mild : (n i : ℕ) (e : Entry) → IsOneOf servers n → a n ≤ i → i < b n → slice_get (journal_of log n) i ≡ Some e → IsMildEntry e
    pub came : (from to i : ℕ) (e : Entry) (m : Message) → IsOneOf servers from → IsOneOf servers to → (from ≡ to → ⊥) → a from ≤ i → i < b from → slice_get (journal_of log from) i ≡ Some e → IsIn (act.Sent to m) e.acts → CameTo a b from to m

  -- What is known of names along it: of each state, that a join of a transaction that is known as it begins was drawn at its server,
  -- and that a ready join's transaction was drawn at its own, whose decision has the join.
  pub record AreKnownIn (a b : ℕ → ℕ) : Type 0 where
    pub named : (n i : ℕ) → IsOneOf servers n → a n ≤ i → i ≤ b n → IsNamed servers n (state_at log n i)
    pub drawn : (n : ℕ) (t : TransId) (j : JoinNo) → IsOneOf servers n → IsIn j (joins_of ((state_at log n (a n)).fates t)) → (i : ℕ) → a j.server ≤ i → i ≤ b j.server → is_join_drawn (state_at log j.server i) j ≡ true
    pub let_in : (n : ℕ) (j : JoinNo) (t : TransId) (client ts : ℕ) → IsOneOf servers n → (state_at log n (a n)).phases j ≡ Ready t client ts → (i : ℕ) → a t.server ≤ i → i ≤ b t.server
        → (is_trans_drawn (state_at log t.server i) t ≡ true) × HasIt t j ((state_at log t.server i).fates t)

  module _ (a b : ℕ → ℕ) (r : IsCalmRound a b) (known : AreKnownIn a b) where
    -- what each tick and message keeps is kept
    pub keeps : (Q : State → Type 0) → IsKept Q → (n : ℕ) → IsOneOf servers n → (i k : ℕ) → a n ≤ i → i ≤ k → k ≤ b n → Q (state_at log n i) → Q (state_at log n k)
    keeps Q kept n one i k low up high h =
        keeps-from next Q (opened (opening_of log n)) (journal_of log n) i k
        (λ p e from to at q. entry_keeps Q kept (state_at log n p) e (r.mild n p e one (omega (arith, low, from)) (omega (arith, to, high)) at) (lawful-at log proper.lawful proper.linked n p e at).restart q) h k up (omega arith)
        (let end : b n ≤ length (journal_of log n) = r.within n one in omega (arith, high, end))

    answered_at : (n i : ℕ) (e : Entry) → IsOneOf servers n → slice_get (journal_of log n) i ≡ Some e → IsAnsweredSo (state_at log n i) e
    answered_at n i e one at = along-at next IsAnsweredSo (opened (opening_of log n)) (journal_of log n) i e (answered n one).0 at

    -- the last entry of it
    record IsLast (n : ℕ) : Type 0 where
      place : ℕ
      entry : Entry
      stands : slice_get (journal_of log n) place ≡ Some entry
      low : a n ≤ place
      last : suc place ≡ b n

    last_of : (n : ℕ) → IsOneOf servers n → IsLast n
    last_of n one = go (b n) refl
      where
        go : (k : ℕ) → b n ≡ k → IsLast n
        go zero is = absurd (let some : a n < b n = r.some n one in omega (arith, some, is))
        go (suc p) is = there (slice_get (journal_of log n) p) refl
          where
            there : (o : Option Entry) → slice_get (journal_of log n) p ≡ o → IsLast n
            there None none =
                absurd (let out : length (journal_of log n) ≤ p = past-end (journal_of log n) p none in let within : b n ≤ length (journal_of log n) = r.within n one in omega (arith, out, within, is))
            there (Some e) at = record { place = p; entry = e; stands = at; low = (let some : a n < b n = r.some n one in omega (arith, some, is)); last = sym is }

    -- what is left uncounted by no entry
    counted : (n : ℕ) → IsOneOf servers n → CountsVotes (state_at log n (b n)) × ForgetsDone (state_at log n (b n))
    counted n one =
        let l : IsLast n = last_of n one in
        let goes : stops l.entry ≡ false = (r.mild n l.place l.entry one l.low (omega (arith, l.last)) l.stands).goes in
        let (failed, answer) = answered_at n l.place l.entry one l.stands in
        let is : next (state_at log n l.place) l.entry ≡ state_at log n (b n) = sym (state-suc log proper.lawful proper.linked n l.place l.entry l.stands) ∙ ap (state_at log n) l.last in (
          subst CountsVotes is (subst (λ (d : Bool). Where d (Unit {0}) (CountsVotes (next (state_at log n l.place) l.entry))) goes answer.votes),
          subst ForgetsDone is (subst (λ (d : Bool). Where d (Unit {0}) (ForgetsDone (next (state_at log n l.place) l.entry))) goes answer.forgets),
        )

    abbrev first : ℕ → State
    first n = state_at log n (a n)

    low_end : (n : ℕ) → IsOneOf servers n → a n ≤ b n
    low_end n one = let some : a n < b n = r.some n one in omega (arith, some)

    at_first : (n : ℕ) → a n ≤ a n
    at_first n = omega arith

    -- what the tick says comes there
    other_at : (n to i : ℕ) → IsOneOf servers n → IsOneOf servers to → (to ≡ n → ⊥) → a n ≤ i → i ≤ b n → is_other_server (state_at log n i) to ≡ true
    other_at n to i one two apart low high = other_one servers n (state_at log n i) to (known.named n i one low high) two apart

    ticked : (n to : ℕ) (m : Message) → IsOneOf servers n → IsOneOf servers to → (n ≡ to → ⊥) → IsIn (to, m) (on_tick (first n)) → CameTo a b n to m
    ticked n to m one two apart i =
        let (e, at, is) = r.tick n one in
        let (failed, answer) = answered_at n (a n) e one at in
        let goes : stops e ≡ false = (r.mild n (a n) e one (omega arith) (r.some n one) at).goes in
        r.came n to (a n) e m one two apart (omega arith) (r.some n one) at (tick_sent failed (first n) e (to, m) is goes answer (other_at n to (a n) one two (λ e. apart (sym e)) (omega arith) (low_end n one)) i)

    -- ---- votes

    module _ (shut : (n : ℕ) → IsOneOf servers n → IsShut (first n)) (n : ℕ) (one : IsOneOf servers n) (t : TransId) (client : ℕ) (js : List JoinNo) (vs : List Vote) (is : (first n).fates t ≡ Finishing client js vs) where
      its : (j : JoinNo) → IsIn j js → IsIn j (joins_of ((first n).fates t))
      its j i = subst (λ (f : Fate). IsIn j (joins_of f)) (sym is) i

      asked : (j : JoinNo) → IsIn j js → voted j vs ≡ false → IsIn (j.server, msg.Ask t j) (on_tick (first n))
      asked j i unheard =
          in-left (j.server, msg.Ask t j) _ (flat_map (λ k. inquire_again k ((first n).phases k)) (first n).joined)
          (in-left (j.server, msg.Ask t j) _ (flat_map (λ u. commit_again u ((first n).fates u)) (first n).begun)
          (in-right (j.server, msg.Ask t j) (flat_map (λ k. register_again k ((first n).phases k)) (first n).joined) (flat_map (λ u. ask_again u ((first n).fates u)) (first n).begun)
          (flat_in (λ u. ask_again u ((first n).fates u)) t (j.server, msg.Ask t j) (first n).begun ((known.named n (a n) one (omega arith) (low_end n one)).own t j (its j i)).1
          (subst (λ (f : Fate). IsIn (j.server, msg.Ask t j) (ask_again t f)) (sym is)
          (in-map (λ (k : JoinNo). (k.server, msg.Ask t k)) j (filter (λ k. not (voted k vs)) js) (in-filter (λ k. not (voted k vs)) j js i (ap not unheard)))))))

      these : (k : ℕ) → a n ≤ k → k ≤ b n → HasThese js ((state_at log n k).fates t)
      these k low high =
          keeps (λ s. HasThese js (s.fates t)) (record { keep = λ s d still h. these_still js d t (s.fates t) still h; still = λ s desk down pending h. h }) n one (a n) k (omega arith) low high (subst (HasThese js) (sym is) refl)

      heard_last : (j : JoinNo) → IsIn j js → IsHeardBy j ((state_at log n (b n)).fates t)
      heard_last j i = go (voted j vs) refl
        where
          go : (d : Bool) → voted j vs ≡ d → IsHeardBy j ((state_at log n (b n)).fates t)
          go true heard = keeps (λ s. IsHeardBy j (s.fates t)) (heard_kept t j) n one (a n) (b n) (omega arith) (low_end n one) (omega arith) (subst (IsHeardBy j) (sym is) heard)
          go false unheard =
              let here = known.named n (a n) one (omega arith) (low_end n one) in
              let other = here.others t j (its j i) in
              let home : t.server ≡ n = (here.own t j (its j i)).0 in
              let w : ℕ = j.server in
              let ask : CameTo a b n w (msg.Ask t j) = ticked n w (msg.Ask t j) one other.0 (λ e. other.1 (sym e)) (asked j i unheard) in
              let there : ℕ = ask.place in
              let (failed, answer) = answered_at w there ask.entry other.0 ask.stands in
              let goes : stops ask.entry ≡ false = (r.mild w there ask.entry other.0 ask.low ask.high ask.stands).goes in
              let calm : IsShut (state_at log w there) = keeps IsShut shut_kept w other.0 (a w) there (omega arith) ask.low (omega (arith, ask.high)) (shut w other.0) in
              let drawn : is_join_drawn (state_at log w there) j ≡ true = known.drawn n t j one (its j i) there ask.low (omega (arith, ask.high)) in
              let (x, vote, sent) = ask_answered failed (state_at log w there) ask.entry n t j ask.event_is goes answer (calm.phases j) drawn (subst (λ (to : ℕ). is_other_server (state_at log w there) to ≡ true) (sym home) (other_at w n there other.0 one (λ e. other.1 (sym e)) ask.low (omega (arith, ask.high)))) in
              let back : CameTo a b w n x = r.came w n there ask.entry x other.0 one other.1 ask.low ask.high ask.stands (subst (λ (to : ℕ). IsIn (act.Sent to x) ask.entry.acts) home sent) in
              let came : IsHeardBy j ((next (state_at log n back.place) back.entry).fates t) =
              vote_came (state_at log n back.place) back.entry w t j js x back.event_is vote (r.mild n back.place back.entry one back.low back.high back.stands) (lawful-at log proper.lawful proper.linked n back.place back.entry back.stands).restart
              (these back.place back.low (omega (arith, back.high))) (has_in j js i) in
              keeps (λ s. IsHeardBy j (s.fates t)) (heard_kept t j) n one (suc back.place) (b n) (omega (arith, back.low)) (omega (arith, back.high)) (omega arith)
              (subst (λ (s : State). IsHeardBy j (s.fates t)) (sym (state-suc log proper.lawful proper.linked n back.place back.entry back.stands)) came)

      finished : (f : Fate) → (state_at log n (b n)).fates t ≡ f → is_running f ≡ false
      finished Undrawn e = refl
      finished (Committed x ks ds) e = refl
      finished (Forgotten x ks) e = refl
      finished (Ended c) e = refl
      finished (Running c ks) e = absurd (subst (HasThese js) e (these (b n) (low_end n one) (omega arith)))
      finished (Finishing c ks ws) e = absurd (
          let same : ks ≡ js = subst (HasThese js) e (these (b n) (low_end n one) (omega arith)) in
          let all : list_all (λ j. voted j ws) ks ≡ true = all_true (λ j. voted j ws) ks (λ j i. subst (IsHeardBy j) e (heard_last j (subst (IsIn j) same i))) in
          let none : has_votes (Finishing c ks ws) ≡ false = sym (ap has_votes e) ∙ (counted n one).0 t in
          let wrong : true ≡ false = sym all ∙ none in cc)

    -- behind a round nothing runs
    pub over_then : ((n : ℕ) → IsOneOf servers n → IsShut (first n)) → (n : ℕ) → IsOneOf servers n → IsOverIn (state_at log n (b n))
    over_then shut n one t = go ((first n).fates t) refl
      where
        still : is_running ((first n).fates t) ≡ false → is_running ((state_at log n (b n)).fates t) ≡ false
        still h = keeps (λ s. is_running (s.fates t) ≡ false) (record { keep = λ s d calm k. over_still d t (s.fates t) calm k; still = λ s desk down pending k. k }) n one (a n) (b n) (omega arith) (low_end n one) (omega arith) h

        go : (f : Fate) → (first n).fates t ≡ f → is_running ((state_at log n (b n)).fates t) ≡ false
        go Undrawn is = still (ap is_running is)
        go (Committed x js ds) is = still (ap is_running is)
        go (Forgotten x js) is = still (ap is_running is)
        go (Ended c) is = still (ap is_running is)
        go (Running client js) is = absurd (let wrong : true ≡ false = sym (ap is_unasked is) ∙ (shut n one).fates t in cc)
        go (Finishing client js vs) is = finished shut n one t client js vs is ((state_at log n (b n)).fates t) refl

    -- ---- parts

    module _ (over : (n : ℕ) → IsOneOf servers n → IsOverIn (first n)) (shut : (n : ℕ) → IsOneOf servers n → IsShut (first n)) (n : ℕ) (one : IsOneOf servers n) (j : JoinNo) (t : TransId) (client ts : ℕ) (is : (first n).phases j ≡ Ready t client ts) where
      inquired : IsIn j (first n).joined → IsIn (t.server, msg.Inquire t j) (on_tick (first n))
      inquired i =
          in-right (t.server, msg.Inquire t j) _ (flat_map (λ k. inquire_again k ((first n).phases k)) (first n).joined)
          (flat_in (λ k. inquire_again k ((first n).phases k)) j (t.server, msg.Inquire t j) (first n).joined i (subst (λ (p : Phase). IsIn (t.server, msg.Inquire t j) (inquire_again j p)) (sym is) (inl refl)))

      ready_gone : live_in ((state_at log n (b n)).phases j) ≡ None
      ready_gone =
          let here = (known.named n (a n) one (omega arith) (low_end n one)).ready j t client ts is in
          let c : ℕ = t.server in
          let two : IsOneOf servers c = here.2 in
          let inquiry : CameTo a b n c (msg.Inquire t j) = ticked n c (msg.Inquire t j) one two (λ e. here.3 (sym e)) (inquired here.1) in
          let there : ℕ = inquiry.place in
          let (failed, answer) = answered_at c there inquiry.entry two inquiry.stands in
          let goes : stops inquiry.entry ≡ false = (r.mild c there inquiry.entry two inquiry.low inquiry.high inquiry.stands).goes in
          let calm : IsOverIn (state_at log c there) = keeps IsOverIn over_kept c two (a c) there (omega arith) inquiry.low (omega (arith, inquiry.high)) (over c two) in
          let known_there = known.let_in n j t client ts one is there inquiry.low (omega (arith, inquiry.high)) in
          let back_is : j.server ≡ n = here.0 in
          let (x, ending, sent) = inquiry_answered failed (state_at log c there) inquiry.entry n t j inquiry.event_is goes answer known_there.0 (calm t) known_there.1
          (subst (λ (to : ℕ). is_other_server (state_at log c there) to ≡ true) (sym back_is) (other_at c n there two one (λ e. here.3 (sym e)) inquiry.low (omega (arith, inquiry.high)))) in
          let back : CameTo a b c n x = r.came c n there inquiry.entry x two one here.3 inquiry.low inquiry.high inquiry.stands (subst (λ (to : ℕ). IsIn (act.Sent to x) inquiry.entry.acts) back_is sent) in
          let (bad, reply) = answered_at n back.place back.entry one back.stands in
          let for : IsReadyFor t ((state_at log n back.place).phases j) =
          keeps (λ s. IsReadyFor t (s.phases j)) (record { keep = λ s d still h. for_still t d j (s.phases j) still h; still = λ s desk down pending h. h }) n one (a n) back.place (omega arith) back.low (omega (arith, back.high)) (subst (IsReadyFor t) (sym is) refl) in
          let came : live_in ((next (state_at log n back.place) back.entry).phases j) ≡ None =
          end_came bad (state_at log n back.place) back.entry c t j x back.event_is ending (r.mild n back.place back.entry one back.low back.high back.stands) reply (lawful-at log proper.lawful proper.linked n back.place back.entry back.stands).restart for in
          keeps (λ s. live_in (s.phases j) ≡ None) (record { keep = λ s d still h. live_still d j (s.phases j) still h; still = λ s desk down pending h. h }) n one (suc back.place) (b n) (omega (arith, back.low)) (omega (arith, back.high)) (omega arith)
          (subst (λ (s : State). live_in (s.phases j) ≡ None) (sym (state-suc log proper.lawful proper.linked n back.place back.entry back.stands)) came)

    -- behind a round at whose begin nothing runs no part is live
    pub gone_then : ((n : ℕ) → IsOneOf servers n → IsOverIn (first n)) → ((n : ℕ) → IsOneOf servers n → IsShut (first n)) → (n : ℕ) → IsOneOf servers n → AreGoneIn (state_at log n (b n))
    gone_then over shut n one j = go ((first n).phases j) refl
      where
        still : live_in ((first n).phases j) ≡ None → live_in ((state_at log n (b n)).phases j) ≡ None
        still h = keeps (λ s. live_in (s.phases j) ≡ None) (record { keep = λ s d calm k. live_still d j (s.phases j) calm k; still = λ s desk down pending k. k }) n one (a n) (b n) (omega arith) (low_end n one) (omega arith) h

        go : (p : Phase) → (first n).phases j ≡ p → live_in ((state_at log n (b n)).phases j) ≡ None
        go Unseen is = still (ap live_in is)
        go (Applied t x) is = still (ap live_in is)
        go Over is = still (ap live_in is)
        go (Joining t client who) is = absurd (let wrong : Some (t, client) ≡ None = sym (ap open_in is) ∙ (shut n one).phases j in cc)
        go (Active t client who) is = absurd (let wrong : Some (t, client) ≡ None = sym (ap open_in is) ∙ (shut n one).phases j in cc)
        go (Ready t client ts) is = ready_gone over shut n one j t client ts is

    -- ---- decisions

    module _ (over : (n : ℕ) → IsOneOf servers n → IsOverIn (first n)) (gone : (n : ℕ) → IsOneOf servers n → AreGoneIn (first n)) (n : ℕ) (one : IsOneOf servers n) (t : TransId) (x : Stamp) (js ds : List JoinNo) (is : (first n).fates t ≡ Committed x js ds) where
      these_are : (j : JoinNo) → IsIn j js → IsIn j (joins_of ((first n).fates t))
      these_are j i = subst (λ (f : Fate). IsIn j (joins_of f)) (sym is) i

      committed : (j : JoinNo) → IsIn j js → has_join j ds ≡ false → IsIn (j.server, msg.Commit t j x) (on_tick (first n))
      committed j i undone =
          in-left (j.server, msg.Commit t j x) _ (flat_map (λ k. inquire_again k ((first n).phases k)) (first n).joined)
          (in-right (j.server, msg.Commit t j x) _ (flat_map (λ u. commit_again u ((first n).fates u)) (first n).begun)
          (flat_in (λ u. commit_again u ((first n).fates u)) t (j.server, msg.Commit t j x) (first n).begun ((known.named n (a n) one (omega arith) (low_end n one)).own t j (these_are j i)).1
          (subst (λ (f : Fate). IsIn (j.server, msg.Commit t j x) (commit_again t f)) (sym is)
          (in-map (λ (k : JoinNo). (k.server, msg.Commit t k x)) j (filter (λ k. not (has_join k ds)) js) (in-filter (λ k. not (has_join k ds)) j js i (ap not undone))))))

      stands_so : (k : ℕ) → a n ≤ k → k ≤ b n → WasDecided x js ((state_at log n k).fates t)
      stands_so k low high =
          keeps (λ s. WasDecided x js (s.fates t)) (record { keep = λ s d still h. decided_still x js d t (s.fates t) still h; still = λ s desk down pending h. h }) n one (a n) k (omega arith) low high (subst (WasDecided x js) (sym is) (refl, refl))

      those : (f : Fate) → WasDecided x js f → HasThose js f
      those Undrawn h = tt
      those (Running client ks) h = absurd h
      those (Finishing client ks vs) h = absurd h
      those (Committed y ks es) h = h.1
      those (Forgotten y ks) h = tt
      those (Ended c) h = tt

      done_last : (j : JoinNo) → IsIn j js → IsDoneBy j ((state_at log n (b n)).fates t)
      done_last j i = go (has_join j ds) refl
        where
          go : (d : Bool) → has_join j ds ≡ d → IsDoneBy j ((state_at log n (b n)).fates t)
          go true done = keeps (λ s. IsDoneBy j (s.fates t)) (done_kept t j) n one (a n) (b n) (omega arith) (low_end n one) (omega arith) (subst (IsDoneBy j) (sym is) done)
          go false undone =
              let here = known.named n (a n) one (omega arith) (low_end n one) in
              let other = here.others t j (these_are j i) in
              let home : t.server ≡ n = (here.own t j (these_are j i)).0 in
              let w : ℕ = j.server in
              let word : CameTo a b n w (msg.Commit t j x) = ticked n w (msg.Commit t j x) one other.0 (λ e. other.1 (sym e)) (committed j i undone) in
              let there : ℕ = word.place in
              let (failed, answer) = answered_at w there word.entry other.0 word.stands in
              let goes : stops word.entry ≡ false = (r.mild w there word.entry other.0 word.low word.high word.stands).goes in
              let calm : AreGoneIn (state_at log w (suc there)) = keeps AreGoneIn gone_kept w other.0 (a w) (suc there) (omega arith) (omega (arith, word.low)) (omega (arith, word.high)) (gone w other.0) in
              let none : live_in ((next (state_at log w there) word.entry).phases j) ≡ None = subst (λ (s : State). live_in (s.phases j) ≡ None) (state-suc log proper.lawful proper.linked w there word.entry word.stands) (calm j) in
              let drawn : is_join_drawn (state_at log w there) j ≡ true = known.drawn n t j one (these_are j i) there word.low (omega (arith, word.high)) in
              let (y, done, sent) = commit_answered failed (state_at log w there) word.entry n t j x word.event_is goes answer drawn none
              (subst (λ (to : ℕ). is_other_server (state_at log w there) to ≡ true) (sym home) (other_at w n there other.0 one (λ e. other.1 (sym e)) word.low (omega (arith, word.high)))) in
              let back : CameTo a b w n y = r.came w n there word.entry y other.0 one other.1 word.low word.high word.stands (subst (λ (to : ℕ). IsIn (act.Sent to y) word.entry.acts) home sent) in
              let came : IsDoneBy j ((next (state_at log n back.place) back.entry).fates t) =
              done_came (state_at log n back.place) back.entry w t j js y back.event_is done (r.mild n back.place back.entry one back.low back.high back.stands) (lawful-at log proper.lawful proper.linked n back.place back.entry back.stands).restart
              (those ((state_at log n back.place).fates t) (stands_so back.place back.low (omega (arith, back.high)))) (has_in j js i) in
              keeps (λ s. IsDoneBy j (s.fates t)) (done_kept t j) n one (suc back.place) (b n) (omega (arith, back.low)) (omega (arith, back.high)) (omega arith)
              (subst (λ (s : State). IsDoneBy j (s.fates t)) (sym (state-suc log proper.lawful proper.linked n back.place back.entry back.stands)) came)

      none_left : (y : Stamp) (f : Fate) → (state_at log n (b n)).fates t ≡ f → is_standing y f ≡ false
      none_left y Undrawn e = refl
      none_left y (Running c ks) e = refl
      none_left y (Finishing c ks ws) e = refl
      none_left y (Forgotten z ks) e = refl
      none_left y (Ended c) e = refl
      none_left y (Committed z [] es) e = refl
      none_left y (Committed z (k ∷ ks) es) e = absurd (
          let same : k ∷ ks ≡ js = (subst (WasDecided x js) e (stands_so (b n) (low_end n one) (omega arith))).1 in
          let all : has_all es (k ∷ ks) ≡ true = all_true (λ j. has_join j es) (k ∷ ks) (λ j i. subst (IsDoneBy j) e (done_last j (subst (IsIn j) same i))) in
          let none : has_all es (k ∷ ks) ≡ false = sym (ap is_all_done e) ∙ (counted n one).1 t in
          let wrong : true ≡ false = sym all ∙ none in cc)

    -- behind a round at whose begin nothing runs and no part is live no decision stands
    pub none_then : ((n : ℕ) → IsOneOf servers n → IsOverIn (first n)) → ((n : ℕ) → IsOneOf servers n → AreGoneIn (first n)) → (n : ℕ) → IsOneOf servers n → (t : TransId) (y : Stamp) → is_standing y ((state_at log n (b n)).fates t) ≡ false
    none_then over gone n one t y = go ((first n).fates t) refl
      where
        quiet_standing : (f : Fate) → IsUncommitted f → is_standing y f ≡ false
        quiet_standing Undrawn h = refl
        quiet_standing (Running c ks) h = refl
        quiet_standing (Finishing c ks ws) h = refl
        quiet_standing (Committed z ks es) h = absurd h
        quiet_standing (Forgotten z ks) h = refl
        quiet_standing (Ended c) h = refl

        still : IsUncommitted ((first n).fates t) → is_standing y ((state_at log n (b n)).fates t) ≡ false
        still h =
            quiet_standing ((state_at log n (b n)).fates t)
            (keeps (λ s. IsUncommitted (s.fates t)) (record { keep = λ s d calm k. uncommitted_still d t (s.fates t) calm k; still = λ s desk down pending k. k }) n one (a n) (b n) (omega arith) (low_end n one) (omega arith) h)

        go : (f : Fate) → (first n).fates t ≡ f → is_standing y ((state_at log n (b n)).fates t) ≡ false
        go Undrawn is = still (subst IsUncommitted (sym is) tt)
        go (Forgotten x js) is = still (subst IsUncommitted (sym is) tt)
        go (Ended c) is = still (subst IsUncommitted (sym is) tt)
        go (Running client js) is = absurd (let wrong : true ≡ false = sym (ap is_running is) ∙ over n one t in cc)
        go (Finishing client js vs) is = absurd (let wrong : true ≡ false = sym (ap is_running is) ∙ over n one t in cc)
        go (Committed x js ds) is = none_left over gone n one t x js ds is y ((state_at log n (b n)).fates t) refl
