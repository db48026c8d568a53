-- What threads did is a storm.
use Rattle.std.specs.Prelude.{◌==◌, Bool, true, false, IsTrue, map as list_map, Option, None, Some}
use Rattle.std.specs.List.{AllByRecursion}
use Rattle.std.proofs.Common.{◌≡◌, ◌⊎◌, ℕ, zero, suc, ◌≤◌, List, [], ◌∷◌, ◌++◌, length, inl, inr, refl, sym, ◌∙◌, ap, subst, arith}
use Rattle.std.proofs.lemmas.Bool.Decides.{eqb_tells}
use Rattle.alp_carrier.specs.Sights.{Sight}
use Rattle.alp_carrier.specs.declared.taken.Taken.{Taken}
use Rattle.alp_history.specs.RunLogs.{Lists}
use Rattle.alp_jobs.specs.Deeds.{Deed}
use Rattle.alp_jobs.specs.Does.{DoesJob}
use Rattle.alp_journal.specs.declared.entry.Entry.{Entry}
use Rattle.alp_journal.specs.declared.message.Message.{Message}
use Rattle.alp_lines.specs.declared.line.Line.{Line}
use Rattle.alp_script.specs.declared.numbered.NumberedLine.{NumberedLine}
use Rattle.alp_session.specs.Crowd.{Crowd}
use Rattle.alp_session.specs.Crowds.{lent_crowd}
use Rattle.alp_monitor.specs.History.{entries_in}
use Rattle.alp_course.specs.Courses.{Course, Seat, seat_at, IsSeat, AreTwo, Occurrence, loses, next_message, taking, IsLost, AreCourse}
use Rattle.alp_course.specs.Languages.{Language, Just, Each}
use Rattle.alp_course.specs.Midway.{IsMidway}
use Rattle.alp_course.proofs.LanguageLemmas.{course_append}
use Rattle.alp_course.proofs.MidwayLemmas.{midway_on}
use Rattle.alp_merge.specs.Carried.{IsBased, AreCarriedBy}
use Rattle.alp_merge.specs.Closed.{AreServed, IsOfPass, HasGoneOn, AreOneCourse}
use Rattle.alp_merge.specs.Served.{Ranked, entries_of, ranks_of, ranked_in, done_by}
use Rattle.alp_merge.specs.Storms.{is_worker, is_carrier, deeds_at, pair_seed, ranked_with, entries_at, first_place, entries_since, times, IfOther, AreCounted, IsBy, IsCarriedPair, IsStorm}
use Rattle.alp_merge.specs.Stormed.{IsStormed, occurred_in}
use Rattle.alp_merge.specs.Threads.{HasOwnPass, HasCarrierPass, AreByThreads, IsStormy, starved_in, ThreadsMakeAStorm}
use Rattle.alp_merge.specs.Turns.{Who, Turn, occurrence_in, turns_at}
use Rattle.alp_merge.proofs.ClosedLemmas.{all_in, one_course}

-- ---- what was taken is counted

-- a course that goes on by this, where all seats stay
record HasCounted (c : Course) (xs : List Occurrence) : Type 0 where
  now : Course
  course : AreCourse c xs now
  seats : now.seats ≡ c.seats

count_none : (c : Course) → HasCounted c []
count_none c = record { now = c; course = refl; seats = refl }

count_both : (c : Course) (xs ys : List Occurrence) (h : HasCounted c xs) → HasCounted h.now ys → HasCounted c (xs ++ ys)
count_both c xs ys h k = record { now = k.now; course = course_append c h.now k.now xs ys h.course k.course; seats = k.seats ∙ h.seats }

-- the next message counts as taken, if there is one
count_next : (c : Course) (from to : ℕ) → AreTwo c from to → HasCounted c (loses from to ∷ [])
count_next c from to two = go (next_message c from to) refl
  where
    go : (o : Option Message) → next_message c from to ≡ o → HasCounted c (loses from to ∷ [])
    go None is = record { now = c; course = (c, (two, subst (λ (o : Option Message). IsLost c from to o c) (sym is) refl), refl); seats = refl }
    go (Some m) is = record { now = taking c from to m; course = (taking c from to m, (two, subst (λ (o : Option Message). IsLost c from to o (taking c from to m)) (sym is) refl), refl); seats = refl }

two_still : (c now : Course) (from to : ℕ) → now.seats ≡ c.seats → AreTwo c from to → AreTwo now from to
two_still c now from to same two =
    let many : length now.seats ≡ length c.seats = ap (λ (ss : List Seat). length ss) same in
    record {
      sender = record { first = two.sender.first; last = (let most : from ≤ length c.seats = two.sender.last in omega (arith, most, many)) };
      receiver = record { first = two.receiver.first; last = (let most : to ≤ length c.seats = two.receiver.last in omega (arith, most, many)) };
      apart = two.apart;
    }

count_times : (k : ℕ) (c : Course) (from to : ℕ) → AreTwo c from to → HasCounted c (times k (loses from to))
count_times zero c from to two = count_none c
count_times (suc k) c from to two =
    let one : HasCounted c (loses from to ∷ []) = count_next c from to two in
    count_both c (loses from to ∷ []) (times k (loses from to)) one (count_times k one.now from to (two_still c one.now from to one.seats two))

-- a language has a word that counts
abbrev CountsIn : Language → Course → Type 0
CountsIn A c = (xs : List Occurrence) × A xs × HasCounted c xs

count_each : (A : ℕ → Language) (n : ℕ) (servers : ℕ) → ((c : Course) (k : ℕ) → length c.seats ≡ servers → 1 ≤ k → k ≤ n → CountsIn (A k) c) → (c : Course) → length c.seats ≡ servers → CountsIn (Each A n) c
count_each A zero servers each c many = ([], refl, count_none c)
count_each A (suc n) servers each c many =
    let (xs, word, front) = count_each A n servers (λ d k all some low. each d k all some (omega (arith, low))) c many in
    let (ys, last, back) = each front.now (suc n) (ap (λ (ss : List Seat). length ss) front.seats ∙ many) (omega arith) (omega arith) in
    (xs ++ ys, record { front = xs; back = ys; are = refl; first = word; second = last }, count_both c xs ys front back)

count_pair : (servers : ℕ) (took : (from to : ℕ) → List Taken) (c : Course) (from to : ℕ) → length c.seats ≡ servers → 1 ≤ from → from ≤ servers → 1 ≤ to → to ≤ servers
    → CountsIn (IfOther (from == to) (Just (times (length (took from to)) (loses from to)))) c
count_pair servers took c from to many one near two far = go (eqb_tells from to)
  where
    go : (((from == to) ≡ true) × (from ≡ to)) ⊎ (((from == to) ≡ false) × (from ≡ to → ⊥)) → CountsIn (IfOther (from == to) (Just (times (length (took from to)) (loses from to)))) c
    go (inl same) = subst (λ (b : Bool). CountsIn (IfOther b (Just (times (length (took from to)) (loses from to)))) c) (sym same.0) ([], refl, count_none c)
    go (inr away) =
        subst (λ (b : Bool). CountsIn (IfOther b (Just (times (length (took from to)) (loses from to)))) c) (sym away.0)
        (times (length (took from to)) (loses from to), refl, count_times (length (took from to)) c from to (record { sender = record { first = one; last = omega (arith, near, many) }; receiver = record { first = two; last = omega (arith, far, many) }; apart = away.1 }))

counted_all : (servers : ℕ) (took : (from to : ℕ) → List Taken) (c : Course) → length c.seats ≡ servers → CountsIn (AreCounted servers took) c
counted_all servers took c many =
    count_each (λ from. Each (λ to. IfOther (from == to) (Just (times (length (took from to)) (loses from to)))) servers) servers servers
    (λ d from all one near. count_each (λ to. IfOther (from == to) (Just (times (length (took from to)) (loses from to)))) servers servers (λ e to every two far. count_pair servers took e from to every one near two far) d all) c many

-- ---- what stands behind it

with_self : (xs : List Ranked) → ranked_with (entries_of xs) (ranks_of xs) ≡ xs
with_self [] = refl
with_self (x ∷ xs) = ap (λ (l : List Ranked). x ∷ l) (with_self xs)

with_more : (es : List Entry) (rs : List ℕ) (xs : List Ranked) → length rs ≡ length es → ranked_with (es ++ entries_of xs) (rs ++ ranks_of xs) ≡ ranked_with es rs ++ xs
with_more [] [] xs same = with_self xs
with_more [] (r ∷ rs) xs same = absurd (omega (arith, same))
with_more (e ∷ es) [] xs same = absurd (omega (arith, same))
with_more (e ∷ es) (r ∷ rs) xs same = ap (λ (l : List Ranked). record { entry = e; rank = r } ∷ l) (with_more es rs xs (omega (arith, same)))

-- a server of a course on its way has further entries
entries_behind : (r after : Course) (n : ℕ) (xs : List Ranked) → IsMidway r → IsSeat r n → HasGoneOn (seat_at r n) (seat_at after n) xs → entries_at after n ≡ entries_at r n ++ xs
entries_behind r after n xs midway s g =
    (λ i. ranked_with (g.journal i) (g.ranks i)) ∙ with_more (seat_at r n).journal (seat_at r n).ranks xs (midway.holds.rising n s.first).many

-- ---- the storm

module _ (plan : ℕ) (is_job : ℕ → Bool) (Starved : ℕ → ℕ → ℕ → Message → Type 0) (r : Course) (passes : ℕ → ℕ) (who : (server pass : ℕ) → Who) (history : ℕ → List (ℕ × Ranked)) (done : (server pass : ℕ) → List Occurrence) (deeds : ℕ → List Deed) (took : (from to : ℕ) → List Taken)
    (a : AreOneCourse r passes who history done) (t : AreByThreads plan is_job Starved r passes who history done deeds took) where
  own_deeds : (k n : ℕ) → IsTrue (is_job k) → IsSeat r n → done_by (is_worker k) (turns_at n a.turns) ≡ deeds_at k n (deeds k)
  own_deeds k n job here = (let w : HasOwnPass plan is_job Starved r passes who history done deeds took k n = t.workers k n job here in a.own n w.pass (is_worker k) here w.within w.only ∙ w.did)

  carried_pair : (from to : ℕ) → AreTwo r from to → IsCarriedPair Starved plan r a.turns from to (took from to)
  carried_pair from to two =
      let w : HasCarrierPass plan is_job Starved r passes who history done deeds took from to = t.carriers from to two in
      let there : entries_in (history from) ≡ list_map ranked_in (turns_at from a.turns) = sym (a.entries from two.sender) in
      let here : entries_in (history to) ≡ list_map ranked_in (turns_at to a.turns) = sym (a.entries to two.receiver) in
      let own : done to w.pass ≡ done_by (is_carrier from to) (turns_at to a.turns) = sym (a.own to w.pass (is_carrier from to) two.receiver w.within w.only) in
      subst (λ (y : List Ranked × (List Ranked × List Occurrence)). AreCarriedBy (Starved from to) (pair_seed plan from to) (first_place r from) from to (entries_at r from) (entries_at r to) y.0 y.1.0 (took from to) y.1.1)
      (λ i. (there i, (here i, own i))) w.did

  by_them : (xs : List Turn) → AllByRecursion (IsOfPass r passes who history done) xs → AllByRecursion (λ (x : Turn). IsBy is_job x.who x.occurrence) xs
  by_them [] all = tt
  by_them (x ∷ xs) all =
      (subst (λ (w : Who). IsBy is_job w x.occurrence) (sym all.0.who_is) (all_in (IsBy is_job (who all.0.server all.0.pass)) x.occurrence (done all.0.server all.0.pass) (t.others all.0.server all.0.pass all.0.here all.0.within) all.0.among), by_them xs all.1)

pub storm_of : (plan : ℕ) (is_job : ℕ → Bool) (job : ℕ → List (List Line)) (Starved : ℕ → ℕ → ℕ → Message → Type 0) (c : Crowd) (r : Course) (passes : ℕ → ℕ) (who : (server pass : ℕ) → Who) (history : ℕ → List (ℕ × Ranked))
    (done : (server pass : ℕ) → List Occurrence) (deeds : ℕ → List Deed) (took : (from to : ℕ) → List Taken) (knows : ℕ → Crowd)
    → IsMidway r → AreServed r passes who history done → AreByThreads plan is_job Starved r passes who history done deeds took → ((k : ℕ) → IsTrue (is_job k) → DoesJob k (job k) (lent_crowd c k) (deeds k) (knows k))
    → (after : Course) × IsStorm plan is_job job Starved c r after deeds knows × IsStormy r after history
storm_of plan is_job job Starved c r passes who history done deeds took knows midway served_by threads works =
    let a : AreOneCourse r passes who history done = one_course r passes who history done midway served_by in
    let (xs, word, counts) = counted_all (length r.seats) took a.after a.many in
    let stands : (n : ℕ) → IsSeat r n → HasGoneOn (seat_at r n) (seat_at counts.now n) (entries_in (history n)) =
    λ n s. subst (λ (ss : List Seat). HasGoneOn (seat_at r n) (seat_at (record { seats = ss; posts = counts.now.posts }) n) (entries_in (history n))) (sym counts.seats) (a.stands n s) in (
      counts.now,
      record {
        turns = a.turns;
        took = took;
        counted = xs;
        ordered = a.ordered;
        works = works;
        among = threads.among;
        own = own_deeds plan is_job Starved r passes who history done deeds took a threads;
        carried = carried_pair plan is_job Starved r passes who history done deeds took a threads;
        others = by_them plan is_job Starved r passes who history done deeds took a threads a.turns a.all;
        calm = a.calm;
        entries = λ n s. entries_behind r counts.now n (entries_in (history n)) midway s (stands n s) ∙ ap (λ (l : List Ranked). entries_at r n ++ l) (sym (a.entries n s));
        are_counted = word;
        course = course_append r a.after counts.now (list_map occurrence_in a.turns) xs a.course counts.course;
      },
      record {
        midway = midway_on a.after counts.now xs a.midway counts.course;
        many = ap (λ (ss : List Seat). length ss) counts.seats ∙ a.many;
        stands = stands;
      },
    )

module _ {B E : Type 0} (sight : Sight B E) where
  pub threads_storm : ThreadsMakeAStorm sight
  threads_storm bases entries plan is_job job c r passes who history done deeds took knows midway served_by threads works =
      storm_of plan is_job job (starved_in sight bases entries) c r passes who history done deeds took knows midway served_by threads works

-- ---- its run

-- the lines of a setup, the storm and a settling are one course
pub run_as_one : (servers : ℕ) (lines : List NumberedLine) (plan : ℕ) (is_job : ℕ → Bool) (job : ℕ → List (List Line)) (Starved : ℕ → ℕ → ℕ → Message → Type 0) (lists : Lists) (first last : Course)
    → (h : IsStormed servers lines plan is_job job Starved lists first last) → AreCourse first (occurred_in servers lines plan is_job job Starved lists first last h) last
run_as_one servers lines plan is_job job Starved lists first last h =
    course_append first h.begun last h.by_lines ((list_map occurrence_in h.storm.turns ++ h.storm.counted) ++ h.behind) h.setup
    (course_append h.begun h.ended last (list_map occurrence_in h.storm.turns ++ h.storm.counted) h.behind h.storm.course h.settled)

-- ---- where servers stood

entries_with : (es : List Entry) (rs : List ℕ) → length rs ≡ length es → es ≡ entries_of (ranked_with es rs)
entries_with [] rs same = refl
entries_with (e ∷ es) [] same = absurd (omega (arith, same))
entries_with (e ∷ es) (r ∷ rs) same = ap (λ (l : List Entry). e ∷ l) (entries_with es rs (omega (arith, same)))

ranks_in_with : (es : List Entry) (rs : List ℕ) → length rs ≡ length es → rs ≡ ranks_of (ranked_with es rs)
ranks_in_with [] [] same = refl
ranks_in_with [] (r ∷ rs) same = absurd (omega (arith, same))
ranks_in_with (e ∷ es) [] same = absurd (omega (arith, same))
ranks_in_with (e ∷ es) (r ∷ rs) same = ap (λ (l : List ℕ). r ∷ l) (ranks_in_with es rs (omega (arith, same)))

-- a server of a course on its way stands as its entries say, each with its rank
pub based_at : (r : Course) (n : ℕ) → IsMidway r → IsSeat r n → IsBased (seat_at r n) (entries_at r n)
based_at r n midway s = record {
  journal = entries_with (seat_at r n).journal (seat_at r n).ranks (midway.holds.rising n s.first).many;
  ranks = ranks_in_with (seat_at r n).journal (seat_at r n).ranks (midway.holds.rising n s.first).many;
}
