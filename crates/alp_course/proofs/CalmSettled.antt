-- Behind a settling of several servers all are at rest.
use Rattle.std.specs.Prelude.{Bool, true, false, IsTrue, cond, slice_get, get_or, Option, None, Some}
use Rattle.std.specs.List.{AllByRecursion}
use Rattle.std.proofs.Common.{◌≡◌, ◌⊎◌, ℕ, zero, suc, ◌+◌, ◌-◌, ◌<◌, ◌≤◌, List, [], ◌∷◌, ◌++◌, length, inl, inr, refl, sym, ◌∙◌, ap, subst, arith}
use Rattle.alp_base.specs.declared.ids.TransId.{TransId}
use Rattle.alp_base.specs.declared.ids.Stamp.{Stamp}
use Rattle.alp_journal.specs.Account.{Account, state_of, Stands}
use Rattle.alp_journal.specs.Answered.{IsAnswered}
use Rattle.alp_journal.specs.Laws.{is_standing}
use Rattle.alp_journal.specs.State.{State}
use Rattle.alp_history.specs.Items.{Handed}
use Rattle.alp_history.specs.Log.{journal_of, opening_of}
use Rattle.alp_history.specs.Theorems.{IsProper, IsSettled}
use Rattle.alp_course.specs.Courses.{Course, Seat, seat_at, no_seat, IsOneOf, IsSeat, Occurrence, rests, AreCourse, TellAll, AreRest}
use Rattle.alp_course.specs.Languages.{Language, Just, Then, Each}
use Rattle.alp_course.specs.Links.{log_of, AreNumbered}
use Rattle.alp_course.specs.Opens.{IsRestOf}
use Rattle.alp_course.specs.Settles.{IsRound, Further, AreRounds, AreUp}
use Rattle.alp_course.specs.Midway.{IsWithin, said_by, AreSaid, Holds}
use Rattle.alp_course.proofs.CalmCourse.{HasMoved, not_moved, course_moved, then_moved, IsOfRound}
use Rattle.alp_course.proofs.CalmLogs.{end_of, AllIn, HasNoDecision, shut_on, over_on, gone_on, first_leaves, second_leaves, third_leaves, settled_so}
use Rattle.alp_course.proofs.CalmRest.{IsRoundTo, round_to_end, rounds_moved, tells_on}
use Rattle.alp_course.proofs.CalmRounds.{IsShut, IsOverIn, AreGoneIn, AreKnownIn}
use Rattle.alp_course.proofs.CalmStart.{said_on, within_step, within_on}
use Rattle.alp_course.proofs.LanguageLemmas.{IsVia, course_split}
use Rattle.alp_course.proofs.LinkLemmas.{course_on}

-- what is asked of the end of it
module _ (z : Course) (handed : Handed) (numbered : AreNumbered 1 z.seats) (proper : IsProper (log_of z handed)) (answered : (n : ℕ) → IsOneOf (length z.seats) n → IsAnswered (opening_of (log_of z handed) n) (journal_of (log_of z handed) n))
    (account : (n : ℕ) → IsOneOf (length z.seats) n → (a : Account) × (said_by (seat_at z n) ≡ state_of a) × Stands a)
    -- what is known of names in each round on the way
    (knows : (r after : Course) (before : HasMoved r z) (later : HasMoved after z) → Holds r → AllIn (length z.seats) IsShut r → IsRoundTo r after → AreKnownIn (log_of z handed) proper (length z.seats) answered (end_of z handed numbered proper answered r before) (end_of z handed numbered proper answered after later)) where
  abbrev pub In : (State → Type 0) → Course → Type 0
  In Q c = AllIn (length z.seats) Q c

  abbrev pub AllSettled : Type 0
  AllSettled = (n : ℕ) → IsOneOf (length z.seats) n → IsSettled (said_by (seat_at z n))

  at_end : In IsOverIn z → In AreGoneIn z → In HasNoDecision z → AllSettled
  at_end over gone none n one = (let (a, is, stands) = account n one in settled_so (said_by (seat_at z n)) a is stands (over n one) (gone n one) (none n one))

  -- where it is found at rest
  found_rest : (r : Course) → AreSaid r → TellAll r → (TellAll r → AreRest true r.seats) → z ≡ r → AllSettled
  found_rest r said tells rest same n one = subst IsSettled (ap (λ (c : Course). said_by (seat_at c n)) (sym same)) (subst IsSettled (said n (record { first = one.first; last = (let last : n ≤ length z.seats = one.last in let many : length z.seats ≡ length r.seats = ap (λ (c : Course). length c.seats) same in omega (arith, last, many)) })) ((rest_at r.seats (n - 1) (rest tells) low).0 refl))
    where
      low : n - 1 < length r.seats
      low = (let first : 1 ≤ n = one.first in let last : n ≤ length z.seats = one.last in let many : length z.seats ≡ length r.seats = ap (λ (c : Course). length c.seats) same in omega (arith, first, last, many))

      rest_at : (ss : List Seat) (i : ℕ) → AllByRecursion (λ (s : Seat). IsRestOf true s.stand.state) ss → i < length ss → IsRestOf true (get_or ss i no_seat).stand.state
      rest_at [] i h less = absurd (omega (arith, less))
      rest_at (s ∷ ss) zero h less = h.0
      rest_at (s ∷ ss) (suc i) h less = rest_at ss i h.1 (omega (arith, less))

  -- what holds of a course on the way
  pub record IsOnWay (r : Course) : Type 0 where
    pub holds : Holds r
    pub within : IsWithin r
    pub up : AreUp r
    pub said : AreSaid r
    pub tells : TellAll r
    pub many : length r.seats ≡ length z.seats

  -- a round from there on, and the course behind it
  record IsRoundOn (k : ℕ) (r : Course) : Type 0 where
    after : Course
    round : IsRoundTo r after
    way : IsOnWay after
    before : HasMoved r z
    later : HasMoved after z
    is_rest : Bool
    word : List Occurrence
    further : Further is_rest (AreRounds (length z.seats) k) word
    course : AreCourse after word z

  round_on : (k : ℕ) (r : Course) (xs : List Occurrence) → IsOnWay r → AreRounds (length z.seats) (suc k) xs → AreCourse r xs z → IsRoundOn k r
  round_on k r xs way (is_rest, h) course =
      let via : IsVia r h.front h.back z = course_split r z h.front h.back (subst (λ (ys : List Occurrence). AreCourse r ys z) h.are course) in
      let round : IsRoundTo r via.mid = round_to_end r via.mid h.front way.holds way.within way.up (subst (λ (n : ℕ). IsRound n h.front) (sym way.many) h.first) via.first in
      let next : Holds via.mid = course_on r via.mid h.front way.holds via.first in
      let later : HasMoved via.mid z = course_moved via.mid z h.back next round.up within_step round.within (rounds_moved (length z.seats) k is_rest h.back h.second) via.second in
      record {
        after = via.mid;
        round = round;
        way = record { holds = next; within = round.within; up = round.up; said = said_on r via.mid h.front way.said via.first; tells = tells_on r via.mid round.moved way.tells; many = round.moved.seats ∙ way.many };
        before = then_moved r via.mid z round.within round.moved later;
        later = later;
        is_rest = is_rest;
        word = h.back;
        further = h.second;
        course = via.second;
      }

  -- behind it all is at rest, or there are further rounds
  behind_it : {P : Type 0} (k : ℕ) (after : Course) (b : Bool) (ys : List Occurrence) → IsOnWay after → Further b (AreRounds (length z.seats) k) ys → AreCourse after ys z → (AllSettled → P) → ((zs : List Occurrence) → AreRounds (length z.seats) k zs → AreCourse after zs z → P) → P
  behind_it k after true ys way is course rest on =
      let (n, found, last) = subst (λ (zs : List Occurrence). AreCourse after zs z) is course in
      rest (found_rest after way.said way.tells found.0 (last ∙ found.1))
  behind_it k after false ys way word course rest on =
      let split : IsVia after word.front word.back z = course_split after z word.front word.back (subst (λ (zs : List Occurrence). AreCourse after zs z) word.are course) in
      let (n, found, last) = subst (λ (zs : List Occurrence). AreCourse after zs split.mid) word.first split.first in
      on word.back word.second (subst (λ (c : Course). AreCourse c word.back z) (last ∙ found.1) split.second)

  -- from where nothing runs and no part is live
  record IsGoneOn (k : ℕ) (r : Course) : Type 0 where
    on : IsRoundOn k r
    shut : In IsShut on.after
    over : In IsOverIn on.after
    gone : In AreGoneIn on.after
    none : In HasNoDecision on.after

  gone_on_round : (k : ℕ) (r : Course) (xs : List Occurrence) → IsOnWay r → In IsShut r → In IsOverIn r → In AreGoneIn r → AreRounds (length z.seats) (suc k) xs → AreCourse r xs z → IsGoneOn k r
  gone_on_round k r xs way shut over gone word course =
      let o : IsRoundOn k r = round_on k r xs way word course in
      let known = knows r o.after o.before o.later way.holds shut o.round in
      record {
        on = o;
        shut = shut_on z handed numbered proper answered r o.after way.within o.round o.before o.later known shut;
        over = over_on z handed numbered proper answered r o.after way.within o.round o.before o.later known over;
        gone = gone_on z handed numbered proper answered r o.after way.within o.round o.before o.later known gone;
        none = third_leaves z handed numbered proper answered r o.after way.within o.round o.before o.later known over gone;
      }

  gone_rest : (k : ℕ) (r : Course) (xs : List Occurrence) → IsOnWay r → In IsShut r → In IsOverIn r → In AreGoneIn r → AreRounds (length z.seats) (suc k) xs → AreCourse r xs z → AllSettled
  gone_rest zero r xs way shut over gone word course =
      let g : IsGoneOn zero r = gone_on_round zero r xs way shut over gone word course in
      behind_it zero g.on.after g.on.is_rest g.on.word g.on.way g.on.further g.on.course (λ all. all)
      (λ zs none_left rest.
      let same : z ≡ g.on.after = subst (λ (ys : List Occurrence). AreCourse g.on.after ys z) none_left rest in
      at_end (subst (In IsOverIn) (sym same) g.over) (subst (In AreGoneIn) (sym same) g.gone) (subst (In HasNoDecision) (sym same) g.none))
  gone_rest (suc k) r xs way shut over gone word course =
      let g : IsGoneOn (suc k) r = gone_on_round (suc k) r xs way shut over gone word course in
      behind_it (suc k) g.on.after g.on.is_rest g.on.word g.on.way g.on.further g.on.course (λ all. all) (λ zs rounds rest. gone_rest k g.on.after zs g.on.way g.shut g.over g.gone rounds rest)

  -- from where nothing runs
  over_rest : (k : ℕ) (r : Course) (xs : List Occurrence) → IsOnWay r → In IsShut r → In IsOverIn r → AreRounds (length z.seats) (suc (suc k)) xs → AreCourse r xs z → AllSettled
  over_rest k r xs way shut over word course =
      let o : IsRoundOn (suc k) r = round_on (suc k) r xs way word course in
      let known = knows r o.after o.before o.later way.holds shut o.round in
      let next_shut : In IsShut o.after = shut_on z handed numbered proper answered r o.after way.within o.round o.before o.later known shut in
      let next_over : In IsOverIn o.after = over_on z handed numbered proper answered r o.after way.within o.round o.before o.later known over in
      let next_gone : In AreGoneIn o.after = second_leaves z handed numbered proper answered r o.after way.within o.round o.before o.later known over shut in
      behind_it (suc k) o.after o.is_rest o.word o.way o.further o.course (λ all. all) (λ zs rounds rest. gone_rest k o.after zs o.way next_shut next_over next_gone rounds rest)

  -- from where no part is open
  pub shut_rest : (k : ℕ) (r : Course) (xs : List Occurrence) → IsOnWay r → In IsShut r → AreRounds (length z.seats) (suc (suc (suc k))) xs → AreCourse r xs z → AllSettled
  shut_rest k r xs way shut word course =
      let o : IsRoundOn (suc (suc k)) r = round_on (suc (suc k)) r xs way word course in
      let known = knows r o.after o.before o.later way.holds shut o.round in
      let next_shut : In IsShut o.after = shut_on z handed numbered proper answered r o.after way.within o.round o.before o.later known shut in
      let next_over : In IsOverIn o.after = first_leaves z handed numbered proper answered r o.after way.within o.round o.before o.later known shut in
      behind_it (suc (suc k)) o.after o.is_rest o.word o.way o.further o.course (λ all. all) (λ zs rounds rest. over_rest k o.after zs o.way next_shut next_over rounds rest)
