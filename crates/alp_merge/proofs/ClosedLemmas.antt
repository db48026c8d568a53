-- What closed monitors give is one course.
use Rattle.std.specs.Prelude.{◌==◌, Bool, false, get_or, slice_get, map as list_map}
use Rattle.std.specs.List.{AllByRecursion}
use Rattle.std.proofs.Common.{◌≡◌, ◌⊎◌, ℕ, ◌<◌, ◌≤◌, List, [], ◌∷◌, ◌++◌, length, inl, inr, refl, sym, ◌∙◌, ap, subst, arith}
use Rattle.alp_journal.specs.Moves.{stops}
use Rattle.alp_journal.specs.declared.entry.Entry.{Entry}
use Rattle.alp_journal.specs.declared.message.Message.{Message}
use Rattle.alp_history.specs.Log.{IsIn}
use Rattle.alp_monitor.specs.History.{entries_in}
use Rattle.alp_course.proofs.RankLemmas.{below_or}
use Rattle.alp_course.specs.Courses.{Course, Seat, seat_at, IsSeat, IsSentBy, Occurrence, comes}
use Rattle.alp_course.specs.Midway.{IsMidway}
use Rattle.alp_merge.specs.Closed.{WasSentTo, last_of, AreServed, IsOfPass, HasGoneOn, AreOneCourse, StormsAreCourses}
use Rattle.alp_merge.specs.Served.{Ranked, entries_of, ranks_of, done_by, ranked_in}
use Rattle.alp_merge.specs.Turns.{Who, Turn, server_of}
use Rattle.alp_merge.proofs.CourseLemmas.{GoesBy, AreMerged, merge}
use Rattle.alp_merge.proofs.RunLemmas.{Runs, runs_journal, runs_ranks}
use Rattle.alp_merge.proofs.ServedLemmas.{IsOne, IsTold, served}

pub all_in : (P : Occurrence → Type 0) (o : Occurrence) (os : List Occurrence) → AllByRecursion P os → IsIn o os → P o
all_in P o [] all i = absurd i
all_in P o (x ∷ os) all (inl same) = subst P (sym same) all.0
all_in P o (x ∷ os) all (inr i) = all_in P o os all.1 i

-- a message was sent by a server that has the same journal and ranks
sent_alike : (s t : Seat) → t.journal ≡ s.journal → t.ranks ≡ s.ranks → (to : ℕ) (m : Message) (seen : ℕ) → IsSentBy s to m seen → IsSentBy t to m seen
sent_alike s t journal ranks to m seen h = record {
  place = h.place;
  entry = h.entry;
  stands = ap (λ (es : List Entry). slice_get es h.place) journal ∙ h.stands;
  sent = h.sent;
  low = subst (λ (rs : List ℕ). get_or rs h.place 0 ≤ seen) (sym ranks) h.low;
}

module _ (r : Course) (passes : ℕ → ℕ) (who : (server pass : ℕ) → Who) (history : ℕ → List (ℕ × Ranked)) (done : (server pass : ℕ) → List Occurrence) (midway : IsMidway r) (served_by : AreServed r passes who history done) where
  abbrev Is : ℕ → Type 0
  Is n = IsTold (seat_at r n) n (passes n) (who n) (history n) (done n)

  told : (n : ℕ) → IsSeat r n → Is n
  told n s = served (seat_at r n) n (passes n) (who n) (history n) (done n) (served_by.each n s)

  -- a number is that of a server, or of none
  abbrev EitherSeat : ℕ → Type 0
  EitherSeat n = IsSeat r n ⊎ (IsSeat r n → ⊥)

  either : (n : ℕ) → EitherSeat n
  either n = go (below_or n 1) (below_or (length r.seats) n)
    where
      go : (n < 1) ⊎ (1 ≤ n) → (length r.seats < n) ⊎ (n ≤ length r.seats) → EitherSeat n
      go (inl none) far = inr (λ s. (let some : 1 ≤ n = s.first in omega (arith, none, some)))
      go (inr some) (inl far) = inr (λ s. (let near : n ≤ length r.seats = s.last in omega (arith, far, near)))
      go (inr some) (inr near) = inl (record { first = some; last = near })

  abbrev turns_by : (n : ℕ) → EitherSeat n → List Turn
  turns_by n (inl s) = (told n s).turns
  turns_by n (inr none) = []

  abbrev last_by : (n : ℕ) → EitherSeat n → Seat
  last_by n (inl s) = (told n s).last
  last_by n (inr none) = seat_at r n

  abbrev own : ℕ → List Turn
  own n = turns_by n (either n)

  abbrev last : ℕ → Seat
  last n = last_by n (either n)

  here_by : (n : ℕ) (e : EitherSeat n) → AllByRecursion (λ (x : Turn). server_of x.occurrence ≡ n) (turns_by n e)
  here_by n (inl s) = (told n s).here
  here_by n (inr none) = tt

  runs_by : (n : ℕ) (e : EitherSeat n) → Runs (seat_at r n) (turns_by n e) (last_by n e)
  runs_by n (inl s) = (told n s).runs
  runs_by n (inr none) = refl

  entries_by : (n : ℕ) (e : EitherSeat n) → IsSeat r n → list_map ranked_in (turns_by n e) ≡ entries_in (history n)
  entries_by n (inl s) here = (told n s).are
  entries_by n (inr none) here = absurd (none here)

  own_by : (n : ℕ) (e : EitherSeat n) → IsSeat r n → (j : ℕ) (is : Who → Bool) → j < passes n → ((i : ℕ) → is (who n i) ≡ (i == j)) → done_by is (turns_by n e) ≡ done n j
  own_by n (inl s) here j is less same = (told n s).own is j less same
  own_by n (inr none) here j is less same = absurd (none here)

  calm_by : (n : ℕ) (e : EitherSeat n) → AllByRecursion (λ (x : Turn). stops x.entry ≡ false) (turns_by n e)
  calm_by n (inl s) = (told n s).calm
  calm_by n (inr none) = tt

  all_by : (n : ℕ) (e : EitherSeat n) → AllByRecursion (IsOne (passes n) (who n) (done n)) (turns_by n e)
  all_by n (inl s) = (told n s).all
  all_by n (inr none) = tt

  stands_by : (n : ℕ) (e : EitherSeat n) → IsSeat r n → HasGoneOn (seat_at r n) (last_by n e) (entries_in (history n))
  stands_by n (inl s) here =
      let t : Is n = told n s in
      record {
        journal = runs_journal (seat_at r n) t.last t.turns t.runs ∙ ap (λ (xs : List Ranked). (seat_at r n).journal ++ entries_of xs) t.are;
        ranks = runs_ranks (seat_at r n) t.last t.turns t.runs ∙ ap (λ (xs : List Ranked). (seat_at r n).ranks ++ ranks_of xs) t.are;
        up = t.up;
        opening = t.opening;
        telling = t.telling;
        server = t.server;
        epoch = t.epoch;
        fused = t.fused;
      }
  stands_by n (inr none) here = absurd (none here)

  -- what its server's entries say in the end says where the server stands then
  was_sent : (o : Occurrence) → WasSentTo (length r.seats) (last_of r passes who history done) o → WasSentTo (length r.seats) last o
  was_sent (comes from to m seen) (one, apart, sent) =
      let on : HasGoneOn (seat_at r from) (last from) (entries_in (history from)) = stands_by from (either from) (record { first = one.first; last = one.last }) in
      (one, apart, sent_alike (last_of r passes who history done from) (last from) on.journal on.ranks to m seen sent)
  was_sent o was = tt

  each_sent : (n : ℕ) → IsSeat r n → (xs : List Turn) → AllByRecursion (IsOne (passes n) (who n) (done n)) xs → AllByRecursion (λ (x : Turn). WasSentTo (length r.seats) last x.occurrence) xs
  each_sent n s [] ones = tt
  each_sent n s (x ∷ xs) ones =
      (was_sent x.occurrence (all_in (WasSentTo (length r.seats) (last_of r passes who history done)) x.occurrence (done n ones.0.pass) (served_by.sent n ones.0.pass s ones.0.within) ones.0.among), each_sent n s xs ones.1)

  goes : (n : ℕ) → IsSeat r n → GoesBy r last n (own n)
  goes n s = record { here = here_by n (either n); runs = runs_by n (either n); sent = each_sent n s (own n) (all_by n (either n)) }

  all : AreMerged r last own
  all = merge r last own midway goes

  of_passes : (n : ℕ) → IsSeat r n → (xs : List Turn) → AllByRecursion (IsOne (passes n) (who n) (done n)) xs → AllByRecursion (IsOfPass r passes who history done) xs
  of_passes n s [] ones = tt
  of_passes n s (x ∷ xs) ones = (record { server = n; pass = ones.0.pass; here = s; within = ones.0.within; who_is = ones.0.who_is; among = ones.0.among }, of_passes n s xs ones.1)

  pub one_course : AreOneCourse r passes who history done
  one_course = record {
    turns = all.turns;
    after = all.after;
    ordered = all.ordered;
    course = all.course;
    midway = all.midway;
    many = all.many;
    posts = all.posts;
    entries = λ n s. ap (list_map ranked_in) (all.owned n s) ∙ entries_by n (either n) s;
    own = λ n j is s less same. ap (done_by is) (all.owned n s) ∙ own_by n (either n) s j is less same;
    all = all.all_of (IsOfPass r passes who history done) (λ n s. of_passes n s (own n) (all_by n (either n)));
    calm = all.all_of (λ (x : Turn). stops x.entry ≡ false) (λ n s. calm_by n (either n));
    stands = λ n s. subst (λ (t : Seat). HasGoneOn (seat_at r n) t (entries_in (history n))) (sym (all.seats n s)) (stands_by n (either n) s);
  }

pub storms : StormsAreCourses
storms r passes who history done midway served_by = one_course r passes who history done midway served_by
