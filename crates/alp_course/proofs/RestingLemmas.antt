-- A settling comes to rest.
use Rattle.std.specs.Prelude.{IsTrue, Option, None, Some}
use Rattle.std.specs.List.{AllByRecursion}
use Rattle.std.proofs.Common.{◌≡◌, ℕ, ◌+◌, ◌-◌, ◌<◌, ◌≤◌, List, [], ◌∷◌, ◌++◌, length, refl, sym, ◌∙◌, ap, subst, arith}
use Rattle.alp_journal.specs.Account.{Account, state_of, Stands}
use Rattle.alp_journal.specs.Answered.{IsAnswered}
use Rattle.alp_journal.specs.Opening.{Start}
use Rattle.alp_journal.specs.State.{State}
use Rattle.alp_journal.specs.declared.entry.Entry.{Entry}
use Rattle.alp_journal.specs.declared.event.Event.TheVariants as event
use Rattle.alp_journal.specs.declared.message.Message.{Message}
use Rattle.alp_history.specs.Items.{Handed}
use Rattle.alp_history.specs.Log.{Log, ServerLog, of, journal_of, opening_of}
use Rattle.alp_history.specs.Theorems.{IsProper, IsSettled}
use Rattle.alp_posts.specs.Posts.{post_at}
use Rattle.alp_course.specs.Courses.{Course, Seat, seat_at, seat_after, last_rank, IsOneOf, IsSeat, IsAt, Occurrence, at as happens_at, looks, brings, loses, repeats, comes, rests, next_message, taking, IsBrought, IsLost, IsRepeated, Occurs, AreCourse, TellAll}
use Rattle.alp_course.specs.Happens.{Stand, ComesTo, Happens}
use Rattle.alp_course.specs.Links.{server_log, log_of, AreNumbered, IsFirst}
use Rattle.alp_course.specs.Resting.{AreSpelled, IsWellRun, Resting}
use Rattle.alp_course.specs.Languages.{Each}
use Rattle.alp_course.specs.Settles.{AreTimedOut, AreRounds, IsSettling, AreUp}
use Rattle.alp_course.specs.Midway.{said_by, AreSaid, Holds}
use Rattle.alp_course.proofs.CalmCourse.{HasMoved}
use Rattle.alp_course.proofs.CalmLogs.{AllIn, end_of}
use Rattle.alp_course.proofs.CalmRest.{IsRoundTo, TellsAt, each_tells, all_tell, timed_shut}
use Rattle.alp_course.proofs.CalmRounds.{IsShut, AreKnownIn}
use Rattle.alp_course.proofs.CalmSettled.{IsOnWay, shut_rest}
use Rattle.alp_course.proofs.CalmStart.{said_on, said_first, within_on, within_first}
use Rattle.alp_course.proofs.LanguageLemmas.{IsVia, course_split, course_append}
use Rattle.alp_course.proofs.LinkLemmas.{first_holds, course_on}
use Rattle.alp_course.proofs.NamesKnown.{known_in}
use Rattle.alp_course.proofs.SeatLemmas.{as_many, each_seat, of_seat}
use Rattle.alp_course.proofs.UpLemmas.{many_on, lifted_up, course_up, calm_timed_all}

-- ---- which servers tell stays

-- those of the one tell where those of the other do
abbrev TellsBack : Course → Course → Type 0
TellsBack r after = TellsAt after → TellsAt r

at_back : (r after : Course) (n seen : ℕ) (Makes : Seat → List Entry → Stand → Type 0) → IsAt r n seen Makes after → TellsBack r after
at_back r after n seen Makes a tells m s =
    each_seat r after n now a.here a.seats (λ k t. (m ≡ k → IsTrue t.tells) → m ≡ k → IsTrue (seat_at r k).tells) (λ h is. h is) (λ k some away h is. h is) m s.first (λ is. tells m later) refl
  where
    now : Seat
    now = seat_after (seat_at r n) seen a.entries a.stand

    later : IsSeat after m
    later = record { first = s.first; last = (let many : length after.seats ≡ length r.seats = as_many r after n now a.here a.seats in let last : m ≤ length r.seats = s.last in omega (arith, many, last)) }

same_back : (r after : Course) → after ≡ r → TellsBack r after
same_back r after same tells = subst TellsAt same tells

occurs_back : (r after : Course) (x : Occurrence) → Occurs r x after → TellsBack r after
occurs_back r after (happens_at n h) a = at_back r after n 0 (λ s es w. Happens s.tells s.stand h es w) a
occurs_back r after (looks from to waits) a = same_back r after a.2
occurs_back r after (rests is_rest) a = same_back r after a.1
occurs_back r after (comes from to m seen) a = at_back r after to seen (λ t es w. ComesTo t.stand t.stand.is_down (event.Arrive from m) es w) a.2
occurs_back r after (brings from to) a = go (next_message r from to) a.1
  where
    go : (o : Option Message) → IsBrought r from to o after → TellsBack r after
    go None b = same_back r after b
    go (Some m) b = λ tells n s. at_back (taking r from to m) after to (last_rank (seat_at r from).ranks) (λ t es w. ComesTo t.stand t.stand.is_down (event.Arrive from m) es w) b tells n (record { first = s.first; last = s.last })
occurs_back r after (loses from to) a = go (next_message r from to) a.1
  where
    go : (o : Option Message) → IsLost r from to o after → TellsBack r after
    go None b = same_back r after b
    go (Some m) b = λ tells n s. subst TellsAt b tells n (record { first = s.first; last = s.last })
occurs_back r after (repeats from to) a = go (post_at r.posts from to).last a.1
  where
    go : (o : Option (Message × ℕ)) → IsRepeated r from to o after → TellsBack r after
    go None b = same_back r after b
    go (Some x) b = at_back r after to x.1 (λ t es w. ComesTo t.stand t.stand.is_down (event.Arrive from x.0) es w) b

course_back : (r after : Course) (xs : List Occurrence) → AreCourse r xs after → TellsBack r after
course_back r after [] h = same_back r after h
course_back r after (x ∷ xs) h = λ tells. occurs_back r h.0 x h.1 (course_back h.0 after xs h.2 tells)

-- ---- all of it

knows_in : (z : Course) (handed : Handed) (numbered : AreNumbered 1 z.seats) (proper : IsProper (log_of z handed)) (answered : (n : ℕ) → IsOneOf (length z.seats) n → IsAnswered (opening_of (log_of z handed) n) (journal_of (log_of z handed) n))
    → ((n : ℕ) → IsOneOf (length z.seats) n → AreSpelled (opening_of (log_of z handed) n)) → ((n : ℕ) → IsOneOf (length z.seats) n → (opening_of (log_of z handed) n).servers ≡ length z.seats)
    → (r after : Course) (before : HasMoved r z) (later : HasMoved after z) → Holds r → AllIn (length z.seats) IsShut r → IsRoundTo r after
    → AreKnownIn (log_of z handed) proper (length z.seats) answered (end_of z handed numbered proper answered r before) (end_of z handed numbered proper answered after later)
knows_in z handed numbered proper answered spelled among r after before later held quiet round = known_in z handed numbered proper answered spelled among r after before later held

pub resting : Resting
resting r after xs handed mid h settling well n s =
    let servers : ℕ = length after.seats in
    let one : IsVia r h.front h.back after = course_split r after h.front h.back (subst (λ (zs : List Occurrence). AreCourse r zs after) h.are settling) in
    let next : IsVia one.mid h.second.front h.second.back after = course_split one.mid after h.second.front h.second.back (subst (λ (zs : List Occurrence). AreCourse one.mid zs after) h.second.are one.second) in
    let all_same : length after.seats ≡ length r.seats = many_on r after xs settling in
    let lift_same : length one.mid.seats ≡ length r.seats = many_on r one.mid h.front one.first in
    let time_same : length next.mid.seats ≡ length one.mid.seats = many_on one.mid next.mid h.second.front next.first in
    let holds_r : Holds r = mid.holds in
    let holds_one : Holds one.mid = course_on r one.mid h.front holds_r one.first in
    let holds_next : Holds next.mid = course_on one.mid next.mid h.second.front holds_one next.first in
    let holds_end : Holds after = course_on next.mid after h.second.back holds_next next.second in
    let said_r : AreSaid r = mid.said in
    let said_one : AreSaid one.mid = said_on r one.mid h.front said_r one.first in
    let said_next : AreSaid next.mid = said_on one.mid next.mid h.second.front said_one next.first in
    let said_end : AreSaid after = said_on next.mid after h.second.back said_next next.second in
    let within_next = within_on one.mid next.mid h.second.front holds_one (within_on r one.mid h.front holds_r mid.within one.first) next.first in
    let up_one : AreUp one.mid = lifted_up r one.mid h.front h.first one.first in
    let up_next : AreUp next.mid = course_up one.mid next.mid h.second.front (calm_timed_all (length r.seats) h.second.front h.second.first) next.first up_one in
    let tells_next : TellsAt next.mid = course_back next.mid after h.second.back next.second (each_tells after well.tells) in
    let tells_one : TellsAt one.mid = course_back one.mid next.mid h.second.front next.first tells_next in
    let timed = timed_shut one.mid next.mid h.second.front (subst (λ (k : ℕ). Each AreTimedOut k h.second.front) (sym lift_same) h.second.first) next.first tells_one in
    let shut : AllIn servers IsShut next.mid =
    (λ m each. subst IsShut (said_next m (record { first = each.first; last = (let last : m ≤ servers = each.last in omega (arith, last, all_same, lift_same, time_same)) }))
    (timed.0 m (record { first = each.first; last = (let last : m ≤ servers = each.last in omega (arith, last, all_same, lift_same)) }))) in
    let log_is : (m : ℕ) → IsOneOf servers m → of (log_of after handed) m ≡ server_log (seat_at after m) = (λ m each. of_seat after handed m holds_end.numbered (record { first = each.first; last = each.last })) in
    let answered : (m : ℕ) → IsOneOf servers m → IsAnswered (opening_of (log_of after handed) m) (journal_of (log_of after handed) m) =
    (λ m each. subst (λ (l : ServerLog). IsAnswered l.opening l.journal) (sym (log_is m each)) (well.answered m (record { first = each.first; last = each.last }))) in
    let spelled : (m : ℕ) → IsOneOf servers m → AreSpelled (opening_of (log_of after handed) m) =
    (λ m each. subst (λ (l : ServerLog). AreSpelled l.opening) (sym (log_is m each)) (well.spelled m (record { first = each.first; last = each.last }))) in
    let among : (m : ℕ) → IsOneOf servers m → (opening_of (log_of after handed) m).servers ≡ servers =
    (λ m each. ap (λ (l : ServerLog). l.opening.servers) (log_is m each) ∙ well.among m (record { first = each.first; last = each.last })) in
    let account : (m : ℕ) → IsOneOf servers m → (a : Account) × (said_by (seat_at after m) ≡ state_of a) × Stands a =
    (λ m each. let (a, is, stands) = well.account m (record { first = each.first; last = each.last }) in (a, sym (said_end m (record { first = each.first; last = each.last })) ∙ is, stands)) in
    let way : IsOnWay after handed holds_end.numbered well.proper answered account (knows_in after handed holds_end.numbered well.proper answered spelled among) next.mid = record {
      holds = holds_next;
      within = within_next;
      up = up_next;
      said = said_next;
      tells = all_tell next.mid tells_next;
      many = (let x : length next.mid.seats ≡ length after.seats = time_same ∙ lift_same ∙ sym all_same in x);
    } in
    let rests_all = shut_rest after handed holds_end.numbered well.proper answered account (knows_in after handed holds_end.numbered well.proper answered spelled among) 5 next.mid h.second.back way shut (subst (λ (k : ℕ). AreRounds k 8 h.second.back) (sym all_same) h.second.second) next.second in
    subst IsSettled (sym (said_end n s)) (rests_all n (record { first = s.first; last = s.last }))
