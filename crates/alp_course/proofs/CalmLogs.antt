-- A round as the log of a later course has it, and what a settling of at least three rounds leaves.
use Rattle.std.specs.Prelude.{◌==◌, ◌≢◌, Bool, true, false, IsTrue, cond, slice_get, take, get_or, Option, None, Some}
use Rattle.std.specs.List.{AllByRecursion}
use Rattle.std.proofs.Common.{◌≡◌, ◌⊎◌, ℕ, zero, suc, ◌+◌, ◌-◌, ◌<◌, ◌≤◌, List, [], ◌∷◌, ◌++◌, length, inl, inr, refl, sym, ◌∙◌, ap, subst, arith}
use Rattle.std.proofs.lemmas.List.{append_assoc, length-append}
use Rattle.alp_base.specs.declared.ids.JoinNo.{JoinNo}
use Rattle.alp_base.specs.declared.ids.Stamp.{Stamp}
use Rattle.alp_base.specs.declared.ids.TransId.{TransId}
use Rattle.alp_journal.specs.Account.{Account, state_of, IsJoined, IsPartAs, IsPaired, Stands}
use Rattle.alp_journal.specs.Along.{state_after}
use Rattle.alp_journal.specs.Answered.{IsAnswered}
use Rattle.alp_journal.specs.Coordinator.{Fate, Undrawn, Running, Finishing, Committed, Forgotten, Ended, client_of, is_running}
use Rattle.alp_journal.specs.Holder.{Life}
use Rattle.alp_journal.specs.Laws.{is_standing}
use Rattle.alp_journal.specs.Moves.{next}
use Rattle.alp_journal.specs.Opening.{Start}
use Rattle.alp_journal.specs.Participant.{Phase, Unseen, Joining, Active, Ready, Applied, Over, live_in, is_ready}
use Rattle.alp_journal.specs.State.{State, opened}
use Rattle.alp_journal.specs.declared.act.Act.TheVariants as act
use Rattle.alp_journal.specs.declared.entry.Entry.{Entry}
use Rattle.alp_journal.specs.declared.message.Message.{Message}
use Rattle.alp_history.specs.Items.{Handed}
use Rattle.alp_history.specs.Log.{Log, ServerLog, IsIn, of, journal_of, opening_of, state_at}
use Rattle.alp_history.specs.Theorems.{IsProper, IsSettled}
use Rattle.alp_history.proofs.Places.{past-end}
use Rattle.alp_posts.specs.Messages.{messages_to}
use Rattle.alp_posts.proofs.MessageLemmas.{messages_append}
use Rattle.alp_course.specs.Courses.{Course, Seat, seat_at, no_seat, IsOneOf, IsSeat, AreTwo, next_message}
use Rattle.alp_course.specs.Links.{server_log, log_of, AreNumbered}
use Rattle.alp_course.specs.Midway.{taken_of, sent_to, IsWithin, said_by}
use Rattle.alp_course.proofs.CalmCourse.{IsGrown, grown_then, IsArrived, HasMoved, sent_in_list, seat_then}
use Rattle.alp_course.proofs.CalmRange.{IsMildEntry}
use Rattle.alp_course.proofs.CalmRest.{IsRoundTo}
use Rattle.alp_course.proofs.CalmRounds.{IsShut, IsOverIn, AreGoneIn, CameTo, IsCalmRound, AreKnownIn, keeps, shut_kept, over_kept, gone_kept, over_then, gone_then, none_then}
use Rattle.alp_course.proofs.LinkLemmas.{get_left, get_right, all_at}
use Rattle.alp_course.proofs.RankLemmas.{get_below}
use Rattle.alp_course.proofs.SeatLemmas.{of_seat}

take_first : {X : Type 0} (xs ys : List X) → take (length xs) (xs ++ ys) ≡ xs
take_first [] ys = refl
take_first (x ∷ xs) ys = ap (λ zs. x ∷ zs) (take_first xs ys)

-- this holds of each server there
abbrev pub AllIn : (servers : ℕ) → (State → Type 0) → Course → Type 0
AllIn servers Q c = (n : ℕ) → IsOneOf servers n → Q (said_by (seat_at c n))

-- no decision stands
abbrev pub HasNoDecision : State → Type 0
HasNoDecision s = (t : TransId) (x : Stamp) → is_standing x (s.fates t) ≡ false

module _ (z : Course) (handed : Handed) (numbered : AreNumbered 1 z.seats) where
  abbrev pub log : Log
  log = log_of z handed

  abbrev pub servers : ℕ
  servers = length z.seats

  module _ (proper : IsProper log) (answered : (n : ℕ) → IsOneOf servers n → IsAnswered (opening_of log n) (journal_of log n)) where
    -- ---- a course on the way

    module _ (r : Course) (later : HasMoved r z) where
      pub seat_of : (n : ℕ) → IsOneOf servers n → IsSeat r n
      seat_of n one = record { first = one.first; last = (let last : n ≤ servers = one.last in omega (arith, last, later.seats)) }

      abbrev pub end_of : ℕ → ℕ
      end_of n = length (seat_at r n).journal

      log_is : (n : ℕ) → IsOneOf servers n → of log n ≡ server_log (seat_at z n)
      log_is n one = of_seat z handed n numbered (record { first = one.first; last = one.last })

      journal_is : (n : ℕ) (one : IsOneOf servers n) → journal_of log n ≡ (seat_at r n).journal ++ (later.grown n (seat_of n one)).more
      journal_is n one = ap (λ (l : ServerLog). l.journal) (log_is n one) ∙ (later.grown n (seat_of n one)).is

      opening_is : (n : ℕ) → IsOneOf servers n → opening_of log n ≡ (seat_at r n).opening
      opening_is n one = ap (λ (l : ServerLog). l.opening) (log_is n one) ∙ (later.grown n (seat_of n one)).opening

      -- the state there
      pub state_is : (n : ℕ) → IsOneOf servers n → state_at log n (end_of n) ≡ said_by (seat_at r n)
      state_is n one = (λ i. state_after next (opened (opening_is n one i)) ((ap (take (end_of n)) (journal_is n one) ∙ take_first (seat_at r n).journal (later.grown n (seat_of n one)).more) i))

      pub stands_in_log : (n : ℕ) → IsOneOf servers n → (i : ℕ) (e : Entry) → slice_get (seat_at r n).journal i ≡ Some e → slice_get (journal_of log n) i ≡ Some e
      stands_in_log n one i e h = ap (λ (es : List Entry). slice_get es i) (journal_is n one) ∙ get_left (seat_at r n).journal (later.grown n (seat_of n one)).more i (get_below (seat_at r n).journal i e h) ∙ h

      pub in_journal : (n : ℕ) → IsOneOf servers n → (i : ℕ) (e : Entry) → i < end_of n → slice_get (journal_of log n) i ≡ Some e → slice_get (seat_at r n).journal i ≡ Some e
      in_journal n one i e low h = sym (get_left (seat_at r n).journal (later.grown n (seat_of n one)).more i low) ∙ sym (ap (λ (es : List Entry). slice_get es i) (journal_is n one)) ∙ h

      pub end_within : (n : ℕ) → IsOneOf servers n → end_of n ≤ length (journal_of log n)
      end_within n one =
          (let all : length (journal_of log n) ≡ length (seat_at r n).journal + length (later.grown n (seat_of n one)).more = ap (λ (es : List Entry). length es) (journal_is n one) ∙ length-append (seat_at r n).journal (later.grown n (seat_of n one)).more in
          omega (arith, all))

    -- ---- a round

    module _ (r after : Course) (within : IsWithin r) (round : IsRoundTo r after) (before : HasMoved r z) (later : HasMoved after z) where
      seat_then_of : (n : ℕ) → IsOneOf servers n → IsSeat r n
      seat_then_of n one = seat_of r before n one

      two_of : (from to : ℕ) → IsOneOf servers from → IsOneOf servers to → (from ≡ to → ⊥) → AreTwo r from to
      two_of from to f t apart = record { sender = seat_then_of from f; receiver = seat_then_of to t; apart = apart }

      -- an entry of the round is one of those that came behind
      behind : (n i : ℕ) (e : Entry) (one : IsOneOf servers n) → end_of r before n ≤ i → i < end_of after later n → slice_get (journal_of log n) i ≡ Some e → slice_get (round.moved.grown n (seat_then_of n one)).more (i - end_of r before n) ≡ Some e
      behind n i e one low high h =
          let g : IsGrown (seat_at r n) (seat_at after n) = round.moved.grown n (seat_then_of n one) in
          sym (get_right (seat_at r n).journal g.more i low) ∙ sym (ap (λ (es : List Entry). slice_get es i) g.is) ∙ in_journal after later n one i e high h

      comes : (from to i : ℕ) (e : Entry) (m : Message) → IsOneOf servers from → IsOneOf servers to → (from ≡ to → ⊥) → end_of r before from ≤ i → i < end_of after later from → slice_get (journal_of log from) i ≡ Some e → IsIn (act.Sent to m) e.acts
          → CameTo log proper servers answered (end_of r before) (end_of after later) from to m
      comes from to i e m f t apart low high h sent =
          let two : AreTwo r from to = two_of from to f t apart in
          let g : IsGrown (seat_at r from) (seat_at after from) = round.moved.grown from (seat_then_of from f) in
          let (k, got) = sent_in_list to m g.more (i - end_of r before from) e (behind from i e f low high h) sent in
          let all : sent_to after from to ≡ sent_to r from to ++ messages_to to g.more = ap (messages_to to) g.is ∙ messages_append to (seat_at r from).journal g.more in
          let place : length (sent_to r from to) + k - length (sent_to r from to) ≡ k = omega arith in
          let stands : slice_get (sent_to after from to) (length (sent_to r from to) + k) ≡ Some m =
          ap (λ (ms : List Message). slice_get ms (length (sent_to r from to) + k)) all ∙ get_right (sent_to r from to) (messages_to to g.more) (length (sent_to r from to) + k) (omega arith) ∙ ap (slice_get (messages_to to g.more)) place ∙ got in
          let under : length (sent_to r from to) + k < length (sent_to after from to) = get_below (sent_to after from to) (length (sent_to r from to) + k) m stands in
          let few : taken_of r from to ≤ length (sent_to r from to) = within from to two in
          let most : length (sent_to after from to) ≤ taken_of after from to = past-end (sent_to after from to) (taken_of after from to) (round.none from to two) in
          let c : IsArrived r after from to m = round.moved.came from to two (length (sent_to r from to) + k) m (omega (arith, few)) (omega (arith, under, most)) stands in
          record { place = c.place; entry = c.entry; low = c.low; high = get_below (seat_at after to).journal c.place c.entry c.stands; stands = stands_in_log after later to t c.place c.entry c.stands; event_is = c.event_is }

      pub calm_round : IsCalmRound log proper servers answered (end_of r before) (end_of after later)
      calm_round = record {
        some = λ n one. (let (e, at, is) = round.ticks n (seat_then_of n one) in get_below (seat_at after n).journal (end_of r before n) e at);
        within = end_within after later;
        tick = λ n one. (let (e, at, is) = round.ticks n (seat_then_of n one) in (e, stands_in_log after later n one (end_of r before n) e at, is));
        mild = λ n i e one low high h. all_at IsMildEntry (round.moved.grown n (seat_then_of n one)).more (i - end_of r before n) e (round.moved.grown n (seat_then_of n one)).mild (behind n i e one low high h);
        came = comes;
      }

      -- ---- what it leaves

      module _ (known : AreKnownIn log proper servers answered (end_of r before) (end_of after later)) where
        at_first : (Q : State → Type 0) → AllIn servers Q r → (n : ℕ) → IsOneOf servers n → Q (state_at log n (end_of r before n))
        at_first Q h n one = subst Q (sym (state_is r before n one)) (h n one)

        at_last : (Q : State → Type 0) → ((n : ℕ) → IsOneOf servers n → Q (state_at log n (end_of after later n))) → AllIn servers Q after
        at_last Q h n one = subst Q (state_is after later n one) (h n one)

        low_high : (n : ℕ) → IsOneOf servers n → end_of r before n ≤ end_of after later n
        low_high n one = (let some : end_of r before n < end_of after later n = calm_round.some n one in omega (arith, some))

        pub shut_on : AllIn servers IsShut r → AllIn servers IsShut after
        shut_on h =
            at_last IsShut
            (λ n one. keeps log proper servers answered (end_of r before) (end_of after later) calm_round known IsShut shut_kept n one (end_of r before n) (end_of after later n) (omega arith) (low_high n one) (omega arith) (at_first IsShut h n one))

        pub over_on : AllIn servers IsOverIn r → AllIn servers IsOverIn after
        over_on h =
            at_last IsOverIn
            (λ n one. keeps log proper servers answered (end_of r before) (end_of after later) calm_round known IsOverIn over_kept n one (end_of r before n) (end_of after later n) (omega arith) (low_high n one) (omega arith) (at_first IsOverIn h n one))

        pub gone_on : AllIn servers AreGoneIn r → AllIn servers AreGoneIn after
        gone_on h =
            at_last AreGoneIn
            (λ n one. keeps log proper servers answered (end_of r before) (end_of after later) calm_round known AreGoneIn gone_kept n one (end_of r before n) (end_of after later n) (omega arith) (low_high n one) (omega arith) (at_first AreGoneIn h n one))

        pub first_leaves : AllIn servers IsShut r → AllIn servers IsOverIn after
        first_leaves shut = at_last IsOverIn (over_then log proper servers answered (end_of r before) (end_of after later) calm_round known (at_first IsShut shut))

        pub second_leaves : AllIn servers IsOverIn r → AllIn servers IsShut r → AllIn servers AreGoneIn after
        second_leaves over shut = at_last AreGoneIn (gone_then log proper servers answered (end_of r before) (end_of after later) calm_round known (at_first IsOverIn over) (at_first IsShut shut))

        pub third_leaves : AllIn servers IsOverIn r → AllIn servers AreGoneIn r → AllIn servers HasNoDecision after
        third_leaves over gone = at_last HasNoDecision (none_then log proper servers answered (end_of r before) (end_of after later) calm_round known (at_first IsOverIn over) (at_first AreGoneIn gone))

-- ---- where no transaction runs and no join is live no part lives

unclient : (f : Fate) → is_running f ≡ false → client_of f ≡ None
unclient Undrawn h = refl
unclient (Running c js) h = absurd (let wrong : true ≡ false = h in cc)
unclient (Finishing c js vs) h = absurd (let wrong : true ≡ false = h in cc)
unclient (Committed x js ds) h = refl
unclient (Forgotten x js) h = refl
unclient (Ended c) h = refl

not_joined : (t : TransId) (l : Life) (p : Phase) → live_in p ≡ None → IsJoined t l p → ⊥
not_joined t l p none (inl h) = (let wrong : Some (t, l.client) ≡ None = sym (ap live_in h.0) ∙ none in cc)
not_joined t l p none (inr h) = (let wrong : Some (t, l.client) ≡ None = sym (ap live_in h.1) ∙ none in cc)

no_life : (a : Account) → Stands a → (t : TransId) → is_running (a.fates t) ≡ false → ((j : JoinNo) → live_in (a.phases j) ≡ None) → a.holder.lives t ≡ None
no_life a stands t over gone = go (a.holder.lives t) refl (stands.paired t)
  where
    part : (l : Life) (o : Option JoinNo) → IsPartAs t a.phases l (a.fates t) o → ⊥
    part l None h = (let wrong : Some l.client ≡ None = sym h.0 ∙ unclient (a.fates t) over in cc)
    part l (Some j) h = not_joined t l (a.phases j) (gone j) h.0

    go : (x : Option Life) → a.holder.lives t ≡ x → IsPaired t a.phases x (a.fates t) → a.holder.lives t ≡ None
    go None is h = is
    go (Some l) is h = absurd (part l l.join h)

unready : (p : Phase) → live_in p ≡ None → is_ready p ≡ false
unready Unseen h = refl
unready (Joining t c w) h = refl
unready (Active t c w) h = refl
unready (Ready t c ts) h = absurd (let wrong : Some (t, c) ≡ None = h in cc)
unready (Applied t x) h = refl
unready Over h = refl

pub settled_so : (s : State) (a : Account) → s ≡ state_of a → Stands a → IsOverIn s → AreGoneIn s → ((t : TransId) (x : Stamp) → is_standing x (s.fates t) ≡ false) → IsSettled s
settled_so s a is stands over gone none = record {
  parts = λ t. ap (λ (z : State). z.holder.lives t) is ∙ no_life a stands t (subst IsOverIn is over t) (subst AreGoneIn is gone);
  ready = λ j. unready (s.phases j) (gone j);
  decisions = λ x. none x.trans x;
}
