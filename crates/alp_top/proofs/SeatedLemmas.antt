-- the servers of a run as seats of its course
use Rattle.std.specs.Prelude.{Bool, IsTrue, map as list_map, get_or, slice_get, Option, None, Some, unwrap_or}
use Rattle.std.proofs.Common.{inl, inr, ◌⊎◌, ◌≡◌, ℕ, zero, suc, ◌+◌, ◌-◌, ◌<◌, ◌≤◌, List, [], ◌∷◌, length, refl, sym, ◌∙◌, ap, subst, arith}
use Rattle.std.proofs.lemmas.List.{length-map}
use Rattle.alp_journal.specs.Along.{Along}
use Rattle.alp_journal.specs.Laws.{IsLawful}
use Rattle.alp_journal.specs.Moves.{next}
use Rattle.alp_journal.specs.State.{opened}
use Rattle.alp_history.specs.Items.{Handed}
use Rattle.alp_history.specs.Log as logs
use Rattle.alp_history.specs.Log.{IsIn}
use Rattle.alp_history.specs.Theorems.{IsProper}
use Rattle.alp_course.specs.Courses.{Course, Seat, Occurrence, IsOneOf, IsSeat, no_seat, seat_at, AreCourse}
use Rattle.alp_course.specs.Links.{IsFirst, AreNumbered, server_log, log_of}
use Rattle.alp_course.proofs.LinkLemmas.{linking}
use Rattle.alp_course.proofs.SeatLemmas.{seat_number, IsOf, its, nobodys, of_course, of_seat}
use Rattle.alp_node.specs.NodeStates.{NodeState}
use Rattle.alp_vault.specs.declared.vault.Vault.{Ghosts}
use Rattle.alp_cluster.specs.Servers.{IsOn, IsDone}
use Rattle.alp_cluster.specs.Station.{standing, seat_for, seat_of}
use Rattle.alp_cluster.specs.Stations.{AreOn, IsManned, course_of}
use Rattle.alp_cluster.specs.declared.station.Station.{Station}
use Rattle.alp_cluster.specs.declared.stations.Stations.{Stations}

-- ---- places

pub map_there : {A B : Type 0} (f : A → B) (d : B) (xs : List A) (i : ℕ) → i < length xs → (x : A) × (slice_get xs i ≡ Some x) × (get_or (list_map f xs) i d ≡ f x)
map_there f d [] i less = absurd (omega (arith, less))
map_there f d (x ∷ xs) zero less = (x, refl, refl)
map_there f d (x ∷ xs) (suc i) less = map_there f d xs i (omega (arith, less))

pub there_less : {A : Type 0} (xs : List A) (i : ℕ) (x : A) → slice_get xs i ≡ Some x → i < length xs
there_less [] i x is = cc
there_less (y ∷ xs) zero x is = omega arith
there_less (y ∷ xs) (suc i) x is = (let more : i < length xs = there_less xs i x is in omega (arith, more))

-- ---- a seat and its server

-- the server of this number sits there
pub record IsSeatOf {V : Type 0} (G : Ghosts V) (servers n : ℕ) (seat : Seat) : Type 0 where
  pub node : NodeState V
  pub on : IsOn G node
  pub number : node.kept.server ≡ n
  pub count : node.kept.servers ≡ servers
  pub station : Station V
  pub stands : station.server ≡ standing node
  pub is : seat ≡ seat_for G station.is_fused station.ranks.items (standing node)

module _ {V : Type 0} (G : Ghosts V) (s : Stations V) (on : AreOn G s) where
  pub many : length (course_of G s).seats ≡ length s.all.items
  many = length-map s.all.items (seat_of G)

  pub seat_on : (n : ℕ) → IsSeat (course_of G s) n → (x : Station V) × (slice_get s.all.items (n - 1) ≡ Some x) × (m : IsManned G (length s.all.items) n x) × (seat_at (course_of G s) n ≡ seat_for G x.is_fused x.ranks.items (standing m.node))
  seat_on n here =
      let (x, at, is) = map_there (seat_of G) no_seat s.all.items (n - 1) (omega (arith, here.first, here.last, many)) in
      let same : n - 1 + 1 ≡ n = omega (arith, here.first) in
      let m : IsManned G (length s.all.items) n x = subst (λ (k : ℕ). IsManned G (length s.all.items) k x) same (on.each (n - 1) x at) in
      (x, at, m, is ∙ ap (seat_for G x.is_fused x.ranks.items) m.keeps.stands)

  pub seated : (n : ℕ) → IsSeat (course_of G s) n → IsSeatOf G (length s.all.items) n (seat_at (course_of G s) n)
  seated n here =
      let (x, at, m, is) = seat_on n here in
      record { node = m.node; on = m.keeps.on; number = m.number_is; count = m.count_is; station = x; stands = m.keeps.stands; is = is }

  -- the numbers are in order
  numbered_from : (k : ℕ) (xs : List (Station V)) → ((i : ℕ) (x : Station V) → slice_get xs i ≡ Some x → (seat_of G x).opening.server ≡ k + i) → AreNumbered k (list_map (seat_of G) xs)
  numbered_from k [] f = tt
  numbered_from k (x ∷ xs) f = (f 0 x refl ∙ omega arith, numbered_from (k + 1) xs (λ i y at. f (suc i) y at ∙ omega arith))

  pub numbered : AreNumbered 1 (course_of G s).seats
  numbered = numbered_from 1 s.all.items (λ i x at.
      let m : IsManned G (length s.all.items) (i + 1) x = on.each i x at in
      let same : i + 1 ≡ 1 + i = omega arith in
      ap (λ o. (seat_for G x.is_fused x.ranks.items o).opening.server) m.keeps.stands ∙ m.number_is ∙ same)

-- ---- the log of a course

in_seats : (x : logs.ServerLog) (ss : List Seat) → IsIn x (list_map server_log ss) → (i : ℕ) × (i < length ss) × (x ≡ server_log (get_or ss i no_seat))
in_seats x [] h = absurd h
in_seats x (s ∷ ss) (inl is) = (0, omega arith, is)
in_seats x (s ∷ ss) (inr h) = (let (i, less, is) = in_seats x ss h in (suc i, omega (arith, less), is))

pub different : (r : Course) (handed : Handed) → AreNumbered 1 r.seats → logs.AreDifferent (log_of r handed)
different r handed h x i =
    let (k, less, is) = in_seats x r.seats i in
    let here : IsSeat r (k + 1) = record { first = omega arith; last = omega (arith, less) } in
    let same : k + 1 - 1 ≡ k = omega arith in
    let its_place : x ≡ server_log (seat_at r (k + 1)) = is ∙ ap (λ (j : ℕ). server_log (get_or r.seats j no_seat)) (sym same) in
    let there : logs.of (log_of r handed) (k + 1) ≡ server_log (seat_at r (k + 1)) = of_seat r handed (k + 1) h here in
    let number : x.opening.server ≡ k + 1 = ap (λ (y : logs.ServerLog). y.opening.server) its_place ∙ seat_number r (k + 1) h here in
    ap (logs.of (log_of r handed)) number ∙ there ∙ sym its_place

-- what holds of each seat, and of servers that are none, holds of each server of the log
pub of_each : (P : logs.ServerLog → Type 0) (r : Course) (handed : Handed) → AreNumbered 1 r.seats → ((n : ℕ) → IsSeat r n → P (server_log (seat_at r n))) → ((n : ℕ) → P (logs.nobody n)) → (n : ℕ) → P (logs.of (log_of r handed) n)
of_each P r handed h seats none n = go (logs.of (log_of r handed) n) (of_course r handed n h)
  where
    go : (l : logs.ServerLog) → IsOf r n l → P l
    go l (its s) = seats n s
    go l nobodys = none n

pub proper_course : (first r : Course) (xs : List Occurrence) (handed : Handed) → IsFirst first → AreCourse first xs r → AreNumbered 1 r.seats → ((n : ℕ) → IsSeat r n → IsLawful (seat_at r n).opening (seat_at r n).journal) → logs.AreSoundOpenings (log_of r handed) → IsProper (log_of r handed)
proper_course first r xs handed begins course h lawful sound = record {
  different = different r handed h;
  sound = sound;
  lawful = of_each (λ l. IsLawful l.opening l.journal) r handed h lawful (λ n. tt);
  linked = linking first r xs handed begins course;
}
