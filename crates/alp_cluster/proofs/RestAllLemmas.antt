-- Behind a run that was settled all servers are at rest.
use Rattle.std.specs.Prelude.{IsTrue, map as list_map}
use Rattle.std.proofs.Common.{inl, inr, ◌≡◌, ℕ, suc, ◌+◌, ◌-◌, ◌<◌, ◌≤◌, List, [], ◌∷◌, ◌++◌, length, get_or, sym, ◌∙◌, ap, subst, arith}
use Rattle.std.proofs.lemmas.List.{length-map}
use Rattle.alp_journal.specs.Account.{Account, state_of as account_state, Stands}
use Rattle.alp_journal.specs.Answered.{IsAnswered}
use Rattle.alp_journal.specs.Laws.{IsLawful}
use Rattle.alp_history.specs.Items.{Handed}
use Rattle.alp_history.specs.Log as logs
use Rattle.alp_history.specs.Log.{IsIn}
use Rattle.alp_node.specs.NodeStates.{NodeState}
use Rattle.alp_node.specs.Nodes.{IsRight, start_in}
use Rattle.alp_vault.specs.declared.vault.Vault.{Ghosts}
use Rattle.alp_course.specs.Courses.{Course, Seat, seat_at, no_seat, IsSeat, Occurrence, AreCourse}
use Rattle.alp_course.specs.Links.{server_log, log_of, AreNumbered}
use Rattle.alp_course.specs.Midway.{IsMidway}
use Rattle.alp_course.specs.Resting.{IsWellRun}
use Rattle.alp_course.specs.Settles.{IsSettling}
use Rattle.alp_course.proofs.CalmRest.{each_tells}
use Rattle.alp_course.proofs.LinkLemmas.{linked}
use Rattle.alp_course.proofs.MidwayLemmas.{midway_on}
use Rattle.alp_course.proofs.RestingLemmas.{resting}
use Rattle.alp_course.proofs.SeatLemmas.{IsOf, its as its_log, nobodys, of_course, of_seat, seat_number}
use Rattle.alp_cluster.specs.Runs.{AreRested}
use Rattle.alp_cluster.specs.Station.{standing, seat_for, seat_of}
use Rattle.alp_cluster.specs.Stations.{AreOn, IsManned, IsOneOf, course_of}
use Rattle.alp_cluster.specs.declared.stations.Stations.{Stations}
use Rattle.alp_cluster.proofs.StationsLemmas.{its, seat_stands}
use Rattle.alp_cluster.proofs.SweepLemmas.{is_there}

-- ---- the log of a course

in_seats : (x : logs.ServerLog) (ss : List Seat) → IsIn x (list_map server_log ss) → (i : ℕ) × (i < length ss) × (x ≡ server_log (get_or ss i no_seat))
in_seats x [] h = absurd h
in_seats x (s ∷ ss) (inl is) = (0, omega arith, is)
in_seats x (s ∷ ss) (inr h) = (let (i, less, is) = in_seats x ss h in (suc i, omega (arith, less), is))

different : (r : Course) (handed : Handed) → AreNumbered 1 r.seats → logs.AreDifferent (log_of r handed)
different r handed h x i =
    let (k, less, is) = in_seats x r.seats i in
    let here : IsSeat r (k + 1) = record { first = omega arith; last = omega (arith, less) } in
    let same : k + 1 - 1 ≡ k = omega arith in
    let its_place : x ≡ server_log (seat_at r (k + 1)) = is ∙ ap (λ (j : ℕ). server_log (get_or r.seats j no_seat)) (sym same) in
    let there : logs.of (log_of r handed) (k + 1) ≡ server_log (seat_at r (k + 1)) = of_seat r handed (k + 1) h here in
    let number : x.opening.server ≡ k + 1 = ap (λ (y : logs.ServerLog). y.opening.server) its_place ∙ seat_number r (k + 1) h here in
    ap (logs.of (log_of r handed)) number ∙ there ∙ sym its_place

all_lawful : (r : Course) (handed : Handed) → AreNumbered 1 r.seats → ((n : ℕ) → IsSeat r n → IsLawful (seat_at r n).opening (seat_at r n).journal) → logs.AreLawful (log_of r handed)
all_lawful r handed h lawful n = go (logs.of (log_of r handed) n) (of_course r handed n h)
  where
    go : (l : logs.ServerLog) → IsOf r n l → IsLawful l.opening l.journal
    go l (its_log s) = lawful n s
    go l nobodys = tt

-- ---- what each server is known by

record IsRightSeat (count : ℕ) (v : Seat) : Type 0 where
  lawful : IsLawful v.opening v.journal
  answered : IsAnswered v.opening v.journal
  among : v.opening.servers ≡ count
  account : (a : Account) × (v.stand.state ≡ account_state a) × Stands a

module _ {V : Type 0} (G : Ghosts V) (z : Stations V) (on : AreOn G z) where
  right_seat : (n : ℕ) → IsSeat (course_of G z) n → IsTrue (seat_at (course_of G z) n).tells → IsRightSeat (length (course_of G z).seats) (seat_at (course_of G z) n)
  right_seat n s told =
      let many : length (course_of G z).seats ≡ length z.all.items = length-map z.all.items (seat_of G) in
      let low : n - 1 < length z.all.items = (let first : 1 ≤ n = s.first in let last : n ≤ length (course_of G z).seats = s.last in omega (arith, first, last, many)) in
      let here : IsOneOf z n = record { first = s.first; last = (let last : n ≤ length (course_of G z).seats = s.last in omega (arith, last, many)) } in
      let (x, there) = is_there z.all.items (n - 1) low in
      let mine : IsManned G (length z.all.items) n x = its G z on n here x there in
      let m : NodeState V = mine.node in
      let seat : seat_at (course_of G z) n ≡ seat_for G x.is_fused x.ranks.items (standing m) = seat_stands G z on n here x there m mine.keeps.stands in
      let right : IsRight (start_in G m) (G.held m.kept.vault) m = mine.keeps.on.kept.right (subst (λ (v : Seat). IsTrue v.tells) seat told) in
      subst (IsRightSeat (length (course_of G z).seats)) (sym seat) (record {
        lawful = right.lawful;
        answered = right.caused;
        among = mine.keeps.on.all ∙ mine.count_is ∙ sym many;
        account = (right.state, right.says, right.kept.quiet.settled.stands);
      })

  -- behind a settling, wherever that began
  pub rested_all : (r : Course) (behind : List Occurrence) → IsMidway r → IsSettling (length r.seats) behind → AreCourse r behind (course_of G z) → AreRested G z
  rested_all r behind mid settles course handed tells sound spelled n s =
      let c : Course = course_of G z in
      let last : IsMidway c = midway_on r c behind mid course in
      let facts : (k : ℕ) → IsSeat c k → IsRightSeat (length c.seats) (seat_at c k) = (λ k here. right_seat k here (each_tells c tells k here)) in
      let well : IsWellRun c handed = record {
        proper = record { different = different c handed last.holds.numbered; sound = sound; lawful = all_lawful c handed last.holds.numbered (λ k here. (facts k here).lawful); linked = linked c handed last.holds };
        answered = λ k here. (facts k here).answered;
        tells = tells;
        spelled = spelled;
        among = λ k here. (facts k here).among;
        account = λ k here. (facts k here).account;
      } in
      resting r c behind handed mid settles course well n s
