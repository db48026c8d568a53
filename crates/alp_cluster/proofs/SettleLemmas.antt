-- All comes to rest.
use Rattle.std.specs.Prelude.{Bool, true, false, map as list_map, slice_get, slice_set, IsTrue, Option, None, Some}
use Rattle.std.proofs.Common.{◌≡◌, ℕ, zero, suc, ◌+◌, ◌-◌, ◌<◌, ◌≤◌, List, [], ◌∷◌, ◌++◌, length, refl, sym, ◌∙◌, ap, subst, arith}
use Rattle.std.proofs.lemmas.List.{append-nil, set-get_or}
use Rattle.alp_base.specs.declared.ids.TransId.{TransId}
use Rattle.alp_vault.specs.declared.vault.Vault.{Ghosts}
use Rattle.alp_course.specs.Happens.{timed_out, restarted, lifts, finds, Happens}
use Rattle.alp_course.specs.Courses.{Course, Seat, no_seat, Occurrence, at, rests, seat_at, seat_after, IsAt, AreRest, TellAll, AreCourse, Occurs}
use Rattle.alp_course.specs.Languages.{Language, Just, Then, Each}
use Rattle.alp_course.specs.Carries.{room_left}
use Rattle.alp_course.specs.Plays.{timeouts_at}
use Rattle.alp_course.specs.Settles.{lifting, IsLifted, AreTimedOut, none_open, one_open, IsRound, Further, AreRounds}
use Rattle.alp_course.proofs.LanguageLemmas.{Has, then_has, just_has}
use Rattle.alp_course.proofs.RankLemmas.{none_with}
use Rattle.alp_course.proofs.RoomLemmas.{timeout_falls}
use Rattle.alp_course.proofs.WordLemmas.{timed_has, round_has, rounds_has}
use Rattle.alp_cluster.specs.Settled.{FindsOpen, TellsRest, IsUpAt}
use Rattle.alp_cluster.specs.Station.{seat_of}
use Rattle.alp_cluster.specs.Stations.{AreOn, IsOneOf, Did, DidSome, course_of}
use Rattle.alp_cluster.specs.declared.fault.RunFault.{RunFault}
use Rattle.alp_cluster.specs.declared.station.Station.{Station}
use Rattle.alp_cluster.specs.declared.stations.Stations.{Stations}
use Rattle.alp_cluster.proofs.DidLemmas.{later_none, go_one, did_just, did_map, did_then, some_map, some_first, some_second, passes_course}
use Rattle.alp_cluster.proofs.StationsLemmas.{seat_here}
use Rattle.alp_cluster.proofs.SweepLemmas.{is_there, placed}

two_are : (x y : Occurrence) (xs : List Occurrence) → Then (Just (x ∷ [])) (Just (y ∷ [])) xs → xs ≡ x ∷ y ∷ []
two_are x y xs h = h.are ∙ (λ i. h.first i ++ h.second i)

module _ {V : Type 0} (G : Ghosts V) where
  -- ---- nobody stops a disk any more

  pub lifted_up : (n : ℕ) (a b : Stations V) → Did G (Just (at n (lifts false) ∷ [])) a b → Did G (IsLifted n) a b
  lifted_up n a b d = did_map G (Just (at n (lifts false) ∷ [])) (IsLifted n) a b (λ xs is. (false, is)) d

  pub lifted_again : (n : ℕ) (a b c : Stations V) → Did G (Just (at n (lifts true) ∷ [])) a b → Did G (Just (at n (restarted 0) ∷ [])) b c → Did G (IsLifted n) a c
  lifted_again n a b c d k =
      did_map G (Then (Just (at n (lifts true) ∷ [])) (Just (at n (restarted 0) ∷ []))) (IsLifted n) a c (λ xs h. (true, two_are (at n (lifts true)) (at n (restarted 0)) xs h))
      (did_then G (Just (at n (lifts true) ∷ [])) (Just (at n (restarted 0) ∷ [])) a b c d k)

  pub lifted_cut : (n : ℕ) (f : RunFault) (a b c : Stations V) → Did G (Just (at n (lifts true) ∷ [])) a b → DidSome G (Just (at n (restarted 0) ∷ [])) f b c → DidSome G (IsLifted n) f a c
  lifted_cut n f a b c d k =
      some_map G (Then (Just (at n (lifts true) ∷ [])) (Just (at n (restarted 0) ∷ []))) (IsLifted n) f a c (λ xs h. (true, two_are (at n (lifts true)) (at n (restarted 0)) xs h))
      (some_second G (Just (at n (lifts true) ∷ [])) (Just (at n (restarted 0) ∷ [])) f a b c d k)

  -- ---- what is open at a server

  pub found : (n : ℕ) (least : Option TransId) (s : Stations V) → AreOn G s → IsOneOf s n → FindsOpen G n least s → Did G (Just (at n (finds least) ∷ [])) s s
  found n least s on here is_open = did_just G (at n (finds least)) s s (go_one G (at n (finds least)) s s (later_none G s on) occurs tt)
    where
      x : Station V
      x = (is_there s.all.items (n - 1) (let some : 1 ≤ n = here.first in let last : n ≤ length s.all.items = here.last in omega (arith, some, last))).0

      there : slice_get s.all.items (n - 1) ≡ Some x
      there = (is_there s.all.items (n - 1) (let some : 1 ≤ n = here.first in let last : n ≤ length s.all.items = here.last in omega (arith, some, last))).1

      seat : Seat
      seat = seat_at (course_of G s) n

      same : seat_after seat 0 [] seat.stand ≡ seat
      same = (λ i. record { opening = seat.opening; tells = seat.tells; stand = seat.stand; journal = append-nil seat.journal i; ranks = none_with seat.ranks 0 i })

      occurs : Occurs (course_of G s) (at n (finds least)) (course_of G s)
      occurs = record {
        here = seat_here G s on n here x there;
        entries = [];
        stand = seat.stand;
        made = (is_open, (refl, refl));
        seats = sym (ap (slice_set (course_of G s).seats (n - 1)) same ∙ set-get_or (course_of G s).seats (n - 1) no_seat);
        posts = refl;
      }

  pub none_timed : (n : ℕ) (s : Stations V) → AreOn G s → IsOneOf s n → FindsOpen G n None s → Did G (AreTimedOut n) s s
  none_timed n s on here is_open =
      did_map G (Just (at n (finds None) ∷ [])) (AreTimedOut n) s s (λ xs is. subst (AreTimedOut n) (sym is) none_open) (found n None s on here is_open)

  -- it times out, and so on
  timing : (n : ℕ) (t : TransId) (xs : List Occurrence) → Then (Just (at n (finds (Some t)) ∷ [])) (Then (Just (at n (timed_out t) ∷ [])) (AreTimedOut n)) xs → AreTimedOut n xs
  timing n t xs h =
      subst (AreTimedOut n) (sym (h.are ∙ (λ i. h.first i ++ (h.second.are ∙ ap (λ (ys : List Occurrence). ys ++ h.second.back) h.second.first) i))) (one_open t h.second.back h.second.second)

  module _ (n : ℕ) (t : TransId) (s b : Stations V) (on : AreOn G s) (here : IsOneOf s n) (is_open : FindsOpen G n (Some t) s) where
    pub one_timed : (c : Stations V) → Did G (Just (timeouts_at n (Some t))) s b → Did G (AreTimedOut n) b c → Did G (AreTimedOut n) s c
    one_timed c d k =
        did_map G (Then (Just (at n (finds (Some t)) ∷ [])) (Then (Just (at n (timed_out t) ∷ [])) (AreTimedOut n))) (AreTimedOut n) s c (timing n t)
        (did_then G (Just (at n (finds (Some t)) ∷ [])) (Then (Just (at n (timed_out t) ∷ [])) (AreTimedOut n)) s s c (found n (Some t) s on here is_open) (did_then G (Just (at n (timed_out t) ∷ [])) (AreTimedOut n) s b c d k))

    pub timed_cut : (f : RunFault) → DidSome G (Just (timeouts_at n (Some t))) f s b → DidSome G (AreTimedOut n) f s b
    timed_cut f d =
        some_map G (Then (Just (at n (finds (Some t)) ∷ [])) (Then (Just (at n (timed_out t) ∷ [])) (AreTimedOut n))) (AreTimedOut n) f s b (timing n t)
        (some_second G (Just (at n (finds (Some t)) ∷ [])) (Then (Just (at n (timed_out t) ∷ [])) (AreTimedOut n)) f s s b (found n (Some t) s on here is_open) (some_first G (Just (at n (timed_out t) ∷ [])) (AreTimedOut n) f s b (timed_has n) d))

    pub later_timed_cut : (f : RunFault) (c : Stations V) → Did G (Just (timeouts_at n (Some t))) s b → DidSome G (AreTimedOut n) f b c → DidSome G (AreTimedOut n) f s c
    later_timed_cut f c d k =
        some_map G (Then (Just (at n (finds (Some t)) ∷ [])) (Then (Just (at n (timed_out t) ∷ [])) (AreTimedOut n))) (AreTimedOut n) f s c (timing n t)
        (some_second G (Just (at n (finds (Some t)) ∷ [])) (Then (Just (at n (timed_out t) ∷ [])) (AreTimedOut n)) f s s c (found n (Some t) s on here is_open) (some_second G (Just (at n (timed_out t) ∷ [])) (AreTimedOut n) f s b c d k))

    -- there is less room behind it
    pub timed_less : IsUpAt G n s → Did G (Just (timeouts_at n (Some t))) s b → room_left (course_of G b) < room_left (course_of G s)
    timed_less up d =
        let (mid, first, same) = subst (λ (xs : List Occurrence). AreCourse (course_of G s) xs (course_of G b)) d.word (passes_course G d.hs s b d.goes.passes) in
        let less : room_left mid < room_left (course_of G s) = timeout_falls (course_of G s) mid n t first up.up (placed G s on) in
        let level : room_left (course_of G b) ≡ room_left mid = ap room_left same in
        omega (arith, less, level)

  -- ---- rounds

  pub rested : (b : Bool) (s : Stations V) → AreOn G s → TellsRest G b s → Did G (Just (rests b ∷ [])) s s
  rested b s on told = did_just G (rests b) s s (go_one G (rests b) s s (later_none G s on) (told, refl) tt)

  module _ (servers k : ℕ) (a b : Stations V) where
    pub last_round : AreOn G b → Did G (IsRound servers) a b → TellsRest G true b → Did G (AreRounds servers (suc k)) a b
    last_round on d told =
        did_map G (Then (IsRound servers) (Further true (AreRounds servers k))) (AreRounds servers (suc k)) a b (λ xs h. (true, h)) (did_then G (IsRound servers) (Just (rests true ∷ [])) a b b d (rested true b on told))

    pub more_rounds : (c : Stations V) → AreOn G b → Did G (IsRound servers) a b → TellsRest G false b → Did G (AreRounds servers k) b c → Did G (AreRounds servers (suc k)) a c
    more_rounds c on d told rest =
        did_map G (Then (IsRound servers) (Further false (AreRounds servers k))) (AreRounds servers (suc k)) a c (λ xs h. (false, h))
        (did_then G (IsRound servers) (Then (Just (rests false ∷ [])) (AreRounds servers k)) a b c d (did_then G (Just (rests false ∷ [])) (AreRounds servers k) b b c (rested false b on told) rest))

    pub round_cut : (f : RunFault) → DidSome G (IsRound servers) f a b → DidSome G (AreRounds servers (suc k)) f a b
    round_cut f d =
        some_map G (Then (IsRound servers) (Just (rests true ∷ []))) (AreRounds servers (suc k)) f a b (λ xs h. (true, h)) (some_first G (IsRound servers) (Just (rests true ∷ [])) f a b (just_has (rests true ∷ [])) d)

    pub rounds_cut : (f : RunFault) (c : Stations V) → AreOn G b → Did G (IsRound servers) a b → TellsRest G false b → DidSome G (AreRounds servers k) f b c → DidSome G (AreRounds servers (suc k)) f a c
    rounds_cut f c on d told rest =
        some_map G (Then (IsRound servers) (Then (Just (rests false ∷ [])) (AreRounds servers k))) (AreRounds servers (suc k)) f a c (λ xs h. (false, h))
        (some_second G (IsRound servers) (Then (Just (rests false ∷ [])) (AreRounds servers k)) f a b c d (some_second G (Just (rests false ∷ [])) (AreRounds servers k) f b b c (rested false b on told) rest))
