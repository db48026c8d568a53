-- A settling up to its first round, and a round as journals have it.
use Rattle.std.specs.Prelude.{◌==◌, ◌≢◌, Bool, true, false, IsTrue, cond, slice_get, take, Option, None, Some}
use Rattle.std.specs.List.{AllByRecursion, Contains}
use Rattle.std.proofs.Common.{◌≡◌, ◌⊎◌, ℕ, zero, suc, ◌+◌, ◌-◌, ◌<◌, ◌≤◌, List, [], ◌∷◌, ◌++◌, length, get_or, inl, inr, refl, sym, ◌∙◌, ap, subst, arith}
use Rattle.std.proofs.lemmas.List.{append-nil, append_assoc, length-append}
use Rattle.std.proofs.lemmas.Bool.{cases_eq}
use Rattle.alp_base.specs.declared.ids.JoinNo.{JoinNo}
use Rattle.alp_base.specs.declared.ids.TransId.{TransId}
use Rattle.alp_journal.specs.Along.{state_after}
use Rattle.alp_journal.specs.Answered.{IsAnswered}
use Rattle.alp_journal.specs.Moves.{next, stops}
use Rattle.alp_journal.specs.Opening.{Start}
use Rattle.alp_journal.specs.Participant.{open_in}
use Rattle.alp_journal.specs.State.{State, opened}
use Rattle.alp_journal.specs.declared.act.Act.TheVariants as act
use Rattle.alp_journal.specs.declared.entry.Entry.{Entry}
use Rattle.alp_journal.specs.declared.event.Event.TheVariants as event
use Rattle.alp_journal.specs.declared.message.Message.{Message}
use Rattle.alp_history.specs.Items.{Handed}
use Rattle.alp_history.specs.Log.{Log, ServerLog, IsIn, of, journal_of, opening_of, state_at}
use Rattle.alp_history.specs.Theorems.{IsProper}
use Rattle.alp_posts.specs.Messages.{messages_to}
use Rattle.alp_posts.proofs.MessageLemmas.{messages_append}
use Rattle.alp_course.specs.Courses.{Course, Seat, no_seat, TellAll, seat_at, seat_after, IsOneOf, IsSeat, IsAt, AreTwo, Occurrence, at as happens_at, looks, brings, rests, next_message, is_waiting, Occurs, AreCourse}
use Rattle.alp_course.specs.Carries.{ArePairCarried, none_waits, one_waits, OfOthers, CarriesTo, CarriesFrom, IsSweep, IsCarried, last_sweep, one_more}
use Rattle.alp_course.specs.Happens.{Stand, timed_out, ticked, finds, ComesTo, Happens, stand_after, IsNone, IsEntryOf}
use Rattle.alp_course.specs.Languages.{Language, Just, Then, Each}
use Rattle.alp_course.specs.Links.{server_log, log_of, AreNumbered}
use Rattle.alp_course.specs.Opens.{is_unasked, HasOpenPart, IsLeastOpen}
use Rattle.alp_course.specs.Settles.{AreTimedOut, none_open, one_open, IsTicked, IsRound, Further, AreRounds, IsUpIn, AreUp}
use Rattle.alp_course.specs.Midway.{taken_of, sent_to, IsWithin, said_by, Holds}
use Rattle.alp_course.proofs.CalmArrivals.{flat_in}
use Rattle.alp_course.proofs.CalmCourse.{IsGrown, longer, stood, IsArrived, HasMoved, IsOneMore, one_more as makes_one, IsOfRound, course_moved, sent_in_list, seat_then, two_then}
use Rattle.alp_course.proofs.CalmRange.{IsMildEntry}
use Rattle.alp_course.proofs.CalmRounds.{IsShut, CameTo, IsCalmRound}
use Rattle.alp_course.proofs.CalmStart.{within_step, within_on}
use Rattle.alp_course.proofs.LanguageLemmas.{IsVia, course_split}
use Rattle.alp_course.proofs.LinkLemmas.{get_left, get_right, course_on}
use Rattle.alp_course.proofs.RankLemmas.{get_below, below_or}
use Rattle.alp_course.proofs.SeatLemmas.{as_many, each_seat, seat_there, seat_elsewhere, of_seat}
use Rattle.alp_course.proofs.TakenLemmas.{NoneLeft, carried_none, no_message}
use Rattle.alp_course.proofs.UpLemmas.{course_up, calm_carried}

-- ---- one server after the other

-- one that is none of these stands as it was, and this holds of the one
record IsOnOne (C : Course → Type 0) (P : Seat → Seat → Type 0) (n : ℕ) (r after : Course) : Type 0 where
  here : P (seat_at r n) (seat_at after n)
  others : (m : ℕ) → 1 ≤ m → m ≢ n → seat_at after m ≡ seat_at r m
  behind : C after

record AreOnEach (C : Course → Type 0) (P : Seat → Seat → Type 0) (k : ℕ) (r after : Course) : Type 0 where
  each : (n : ℕ) → 1 ≤ n → n ≤ k → P (seat_at r n) (seat_at after n)
  others : (m : ℕ) → 1 ≤ m → k < m → seat_at after m ≡ seat_at r m
  behind : C after

each_on : (C : Course → Type 0) (P : Seat → Seat → Type 0) (A : ℕ → Language) → ((n : ℕ) (r after : Course) (xs : List Occurrence) → A n xs → AreCourse r xs after → C r → IsOnOne C P n r after)
    → (k : ℕ) (r after : Course) (xs : List Occurrence) → Each A k xs → AreCourse r xs after → C r → AreOnEach C P k r after
each_on C P A step zero r after xs none course c =
    let same : after ≡ r = subst (λ (ys : List Occurrence). AreCourse r ys after) none course in
    record { each = λ n some few. absurd (omega (arith, some, few)); others = λ m some more. ap (λ (d : Course). seat_at d m) same; behind = subst C (sym same) c }
each_on C P A step (suc k) r after xs word course c =
    let via : IsVia r word.front word.back after = course_split r after word.front word.back (subst (λ (ys : List Occurrence). AreCourse r ys after) word.are course) in
    let before : AreOnEach C P k r via.mid = each_on C P A step k r via.mid word.front word.first via.first c in
    let one : IsOnOne C P (suc k) via.mid after = step (suc k) via.mid after word.back word.second via.second before.behind in
    record {
      each = λ n some few. elim (cases_eq n (suc k)) [
        | inl same ↦ subst (λ (m : ℕ). P (seat_at r m) (seat_at after m)) (sym same) (subst (λ (s : Seat). P s (seat_at after (suc k))) (before.others (suc k) (omega arith) (omega arith)) one.here)
        | inr away ↦ subst (P (seat_at r n)) (sym (one.others n some away)) (before.each n some (omega (arith, few, away)))
      ];
      others = λ m some more. one.others m some (λ is. absurd (omega (arith, more, is))) ∙ before.others m some (omega (arith, more));
      behind = one.behind;
    }

-- ---- timeouts

abbrev pub TellsAt : Course → Type 0
TellsAt r = (n : ℕ) → IsSeat r n → IsTrue (seat_at r n).tells

none_in : (t : TransId) → Contains {X = TransId} [] t → ⊥
none_in t c = absurd (omega (arith, c.1))

-- nothing is found, and so none is open
shut_there : (s : State) → IsLeastOpen s None → IsShut s
shut_there s h = record { fates = λ t. fate t (is_unasked (s.fates t)) refl; phases = λ j. phase j (open_in (s.phases j)) refl }
  where
    empty : (ts : List TransId) → None ≡ slice_get ts 0 → ts ≡ []
    empty [] is = refl
    empty (u ∷ us) is = cc

    none : (t : TransId) → HasOpenPart s t → ⊥
    none t o = subst (λ (ts : List TransId). Contains ts t → ⊥) (sym (empty h.all h.first)) (none_in t) ((h.are.parts t).1 o)

    fate : (t : TransId) (b : Bool) → is_unasked (s.fates t) ≡ b → is_unasked (s.fates t) ≡ false
    fate t true is = absurd (none t (inl is))
    fate t false is = is

    phase : (j : JoinNo) (o : Option (TransId × ℕ)) → open_in (s.phases j) ≡ o → open_in (s.phases j) ≡ None
    phase j None is = is
    phase j (Some x) is = absurd (none x.0 (inr (j, record { client = x.1; part = is })))

module _ (r after : Course) (n : ℕ) (Makes : Seat → List Entry → Stand → Type 0) (a : IsAt r n 0 Makes after) where
  abbrev now : Seat
  now = seat_after (seat_at r n) 0 a.entries a.stand

  elsewhere : (m : ℕ) → 1 ≤ m → m ≢ n → seat_at after m ≡ seat_at r m
  elsewhere = seat_elsewhere r after n now a.here a.seats

  there : seat_at after n ≡ now
  there = seat_there r after n now a.here a.seats

  tells_then : TellsAt r → TellsAt after
  tells_then tells m s =
      each_seat r after n now a.here a.seats (λ k t. k ≤ length r.seats → IsTrue t.tells) (λ low. tells n a.here) (λ k some away low. tells k (record { first = some; last = low })) m s.first
      (let many : length after.seats ≡ length r.seats = as_many r after n now a.here a.seats in let last : m ≤ length after.seats = s.last in omega (arith, many, last))

abbrev IsShutSeat : Seat → Seat → Type 0
IsShutSeat s t = IsShut t.stand.state

timed_one : (n : ℕ) (r after : Course) (xs : List Occurrence) → AreTimedOut n xs → AreCourse r xs after → TellsAt r → IsOnOne TellsAt IsShutSeat n r after
timed_one n r after xs none_open course tells =
    let (mid, found, same) = course in
    let Makes : Seat → List Entry → Stand → Type 0 = (λ s es w. Happens s.tells s.stand (finds None) es w) in
    let state : (now r mid n Makes found).stand.state ≡ (seat_at r n).stand.state = ap (λ (w : Stand). w.state) found.made.1.1 in
    subst (IsOnOne TellsAt IsShutSeat n r) (sym same) (record {
      here = subst (λ (s : Seat). IsShut s.stand.state) (sym (there r mid n Makes found)) (subst IsShut (sym state) (shut_there (seat_at r n).stand.state (found.made.0 (tells n found.here))));
      others = elsewhere r mid n Makes found;
      behind = tells_then r mid n Makes found tells;
    })
timed_one n r after xs (one_open t zs word) course tells =
    let (mid, found, rest) = course in
    let (later, timed, last) = rest in
    let Finds : Seat → List Entry → Stand → Type 0 = (λ s es w. Happens s.tells s.stand (finds (Some t)) es w) in
    let Times : Seat → List Entry → Stand → Type 0 = (λ s es w. Happens s.tells s.stand (timed_out t) es w) in
    let end : IsOnOne TellsAt IsShutSeat n later after = timed_one n later after zs word last (tells_then mid later n Times timed (tells_then r mid n Finds found tells)) in
    record {
      here = end.here;
      others = λ m some away. end.others m some away ∙ elsewhere mid later n Times timed m some away ∙ elsewhere r mid n Finds found m some away;
      behind = end.behind;
    }

-- behind the timeouts no part is open
pub timed_shut : (r after : Course) (xs : List Occurrence) → Each AreTimedOut (length r.seats) xs → AreCourse r xs after → TellsAt r → ((n : ℕ) → IsSeat r n → IsShut (seat_at after n).stand.state) × TellsAt after
timed_shut r after xs word course tells =
    let all : AreOnEach TellsAt IsShutSeat (length r.seats) r after = each_on TellsAt IsShutSeat AreTimedOut timed_one (length r.seats) r after xs word course tells in
    ((λ n s. all.each n s.first s.last), all.behind)

-- ---- ticks

-- a tick is what comes next
pub record HasTicked (s t : Seat) : Type 0 where
  pub entry : Entry
  pub one : t.journal ≡ s.journal ++ entry ∷ []
  pub event_is : entry.event ≡ event.Tick

ticked_one : (n : ℕ) (r after : Course) (xs : List Occurrence) → IsTicked n xs → AreCourse r xs after → AreUp r → IsOnOne AreUp HasTicked n r after
ticked_one n r after xs word course up =
    let (mid, a, same) = subst (λ (ys : List Occurrence). AreCourse r ys after) word course in
    let Makes : Seat → List Entry → Stand → Type 0 = (λ s es w. Happens s.tells s.stand ticked es w) in
    let o : IsOneMore (seat_at r n) event.Tick a.entries = makes_one (seat_at r n) event.Tick a.entries a.stand (up n a.here) a.made in
    subst (IsOnOne AreUp HasTicked n r) (sym same) (record {
      here = record { entry = o.entry; one = ap (λ (s : Seat). s.journal) (there r mid n Makes a) ∙ ap (λ (es : List Entry). (seat_at r n).journal ++ es) o.one; event_is = o.event_is };
      others = elsewhere r mid n Makes a;
      behind = course_up r mid (happens_at n ticked ∷ []) (tt, tt) (mid, a, refl) up;
    })

-- ---- words of a round

round_append : (xs ys : List Occurrence) → AllByRecursion IsOfRound xs → AllByRecursion IsOfRound ys → AllByRecursion IsOfRound (xs ++ ys)
round_append [] ys h k = k
round_append (x ∷ xs) ys h k = (h.0, round_append xs ys h.1 k)

abbrev InRound : Language → Type 0
InRound A = (xs : List Occurrence) → A xs → AllByRecursion IsOfRound xs

round_none : (xs : List Occurrence) → xs ≡ [] → AllByRecursion IsOfRound xs
round_none xs none = subst (AllByRecursion IsOfRound) (sym none) tt

round_then : (A B : Language) → InRound A → InRound B → InRound (Then A B)
round_then A B first second xs h = subst (AllByRecursion IsOfRound) (sym h.are) (round_append h.front h.back (first h.front h.first) (second h.back h.second))

round_each : (A : ℕ → Language) → ((n : ℕ) → InRound (A n)) → (n : ℕ) → InRound (Each A n)
round_each A each zero xs h = round_none xs h
round_each A each (suc n) xs h = round_then (Each A n) (A (suc n)) (round_each A each n) (each (suc n)) xs h

round_pair : (from to : ℕ) → InRound (ArePairCarried from to)
round_pair from to xs none_waits = (tt, tt)
round_pair from to xs (one_waits zs word) = (tt, (tt, round_pair from to zs word))

round_to : (from to : ℕ) → InRound (CarriesTo from to)
round_to from to = go (from == to)
  where
    go : (b : Bool) → InRound (OfOthers b (ArePairCarried from to))
    go true = λ xs h. round_none xs h
    go false = round_pair from to

round_sweep : (servers : ℕ) → InRound (IsSweep servers)
round_sweep servers = round_each (CarriesFrom servers) (λ from. round_each (CarriesTo from) (round_to from) servers) servers

round_carried : (servers : ℕ) → InRound (IsCarried servers)
round_carried servers xs (last_sweep ys word quiet) = round_sweep servers ys word
round_carried servers xs (one_more ys zs word some rest) = round_append ys zs (round_sweep servers ys word) (round_carried servers zs rest)

round_ticks : (servers : ℕ) → InRound (Each IsTicked servers)
round_ticks servers = round_each IsTicked (λ n xs h. subst (AllByRecursion IsOfRound) (sym h) (tt, tt)) servers

round_further : (A : Language) → InRound A → (b : Bool) → InRound (Further b A)
round_further A of true ys is = subst (AllByRecursion IsOfRound) (sym is) (tt, tt)
round_further A of false ys word = round_then (Just (rests false ∷ [])) A (λ zs is. subst (AllByRecursion IsOfRound) (sym is) (tt, tt)) of ys word

round_rounds : (servers most : ℕ) → InRound (AreRounds servers most)
round_rounds servers zero xs h = round_none xs h
round_rounds servers (suc k) xs (is_rest, h) =
    round_then (IsRound servers) (Further is_rest (AreRounds servers k)) (round_then (Each IsTicked servers) (IsCarried servers) (round_ticks servers) (round_carried servers)) (round_further (AreRounds servers k) (round_rounds servers k) is_rest) xs h

pub rounds_moved : (servers most : ℕ) (b : Bool) (ys : List Occurrence) → Further b (AreRounds servers most) ys → AllByRecursion IsOfRound ys
rounds_moved servers most b = round_further (AreRounds servers most) (round_rounds servers most) b

-- ---- which tell

tells_at : (ss : List Seat) (i : ℕ) → AllByRecursion (λ (s : Seat). IsTrue s.tells) ss → i < length ss → IsTrue (get_or ss i no_seat).tells
tells_at [] i h less = absurd (omega (arith, less))
tells_at (s ∷ ss) zero h less = h.0
tells_at (s ∷ ss) (suc i) h less = tells_at ss i h.1 (omega (arith, less))

pub each_tells : (r : Course) → TellAll r → TellsAt r
each_tells r h n s = tells_at r.seats (n - 1) h (omega (arith, s.first, s.last))

tells_from : (ss : List Seat) → ((i : ℕ) → i < length ss → IsTrue (get_or ss i no_seat).tells) → AllByRecursion (λ (s : Seat). IsTrue s.tells) ss
tells_from [] h = tt
tells_from (s ∷ ss) h = (h 0 (omega arith), tells_from ss (λ i less. h (suc i) (omega (arith, less))))

pub all_tell : (r : Course) → TellsAt r → TellAll r
all_tell r h = tells_from r.seats (λ i less. subst (λ (k : ℕ). IsTrue (get_or r.seats k no_seat).tells) (omega arith) (h (i + 1) (record { first = omega arith; last = omega (arith, less) })))

pub tells_on : (r after : Course) → HasMoved r after → TellAll r → TellAll after
tells_on r after moved tells =
    all_tell after
    (λ n s.
    let here : IsSeat r n = record { first = s.first; last = (let many : length after.seats ≡ length r.seats = moved.seats in let last : n ≤ length after.seats = s.last in omega (arith, many, last)) } in
    subst IsTrue (sym (moved.grown n here).tells) (each_tells r tells n here))

-- ---- a round

-- from this course to that one it was a round: each server has a tick next, and no message of it is left
pub record IsRoundTo (r after : Course) : Type 0 where
  pub moved : HasMoved r after
  pub ticks : (n : ℕ) → IsSeat r n → (e : Entry) × (slice_get (seat_at after n).journal (length (seat_at r n).journal) ≡ Some e) × (e.event ≡ event.Tick)
  pub none : (from to : ℕ) → AreTwo r from to → next_message after from to ≡ None
  pub up : AreUp after
  pub within : IsWithin after

last_there : (es : List Entry) (e : Entry) → slice_get (es ++ e ∷ []) (length es) ≡ Some e
last_there [] e = refl
last_there (x ∷ es) e = last_there es e

pub round_to_end : (r after : Course) (xs : List Occurrence) → Holds r → IsWithin r → AreUp r → IsRound (length r.seats) xs → AreCourse r xs after → IsRoundTo r after
round_to_end r after xs holds within up word course =
    let servers : ℕ = length r.seats in
    let via : IsVia r word.front word.back after = course_split r after word.front word.back (subst (λ (ys : List Occurrence). AreCourse r ys after) word.are course) in
    let all : AllByRecursion IsOfRound xs = round_then (Each IsTicked servers) (IsCarried servers) (round_ticks servers) (round_carried servers) xs word in
    let moved : HasMoved r after = course_moved r after xs holds up within_step within all course in
    let begun : HasMoved r via.mid = course_moved r via.mid word.front holds up within_step within (round_ticks servers word.front word.first) via.first in
    let ticks : AreOnEach AreUp HasTicked servers r via.mid = each_on AreUp HasTicked IsTicked ticked_one servers r via.mid word.front word.first via.first up in
    let held : Holds via.mid = course_on r via.mid word.front holds via.first in
    let carried : HasMoved via.mid after = course_moved via.mid after word.back held ticks.behind within_step (within_on r via.mid word.front holds within via.first) (round_carried servers word.back word.second) via.second in
    let last_up : AreUp after = course_up via.mid after word.back (calm_carried servers word.back word.second) via.second ticks.behind in
    let left : NoneLeft servers after = carried_none servers via.mid after word.back word.second via.second in
    record {
      moved = moved;
      ticks = λ n s. (
          let t : HasTicked (seat_at r n) (seat_at via.mid n) = ticks.each n s.first s.last in (
            t.entry,
            stood (seat_at via.mid n) (seat_at after n) (carried.grown n (seat_then r via.mid n begun.seats s)) (length (seat_at r n).journal) t.entry
                (ap (λ (es : List Entry). slice_get es (length (seat_at r n).journal)) t.one ∙ last_there (seat_at r n).journal t.entry),
            t.event_is,
          )
          );
      none = λ from to two. no_message (next_message after from to) (seat_at after to).stand.is_down (last_up to (seat_then r after to moved.seats two.receiver)).up (left from two.sender.first two.sender.last to two.receiver.first two.receiver.last two.apart);
      up = last_up;
      within = within_on r after xs holds within course;
    }
