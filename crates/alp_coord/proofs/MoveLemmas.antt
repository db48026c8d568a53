-- what becomes of transactions by each call of a coordinator
use Rattle.std.specs.Prelude.{cond, Bool, true, false, not, ◌==◌, ◌&&◌, ◌||◌, max, Option, None, Some, is_some, map as list_map}
use Rattle.std.specs.List.{list_any, list_all}
use Rattle.std.specs.Option.{option_map}
use Rattle.std.specs.FinMap as map
use Rattle.std.proofs.Common.{◌≡◌, ℕ, ◌<◌, ◌≤◌, List, [], ◌∷◌, ◌++◌, length, refl, sym, ◌∙◌, ap, subst, arith, eq-eqb}
use Rattle.alp_base.specs.declared.ids.JoinNo.{JoinNo}
use Rattle.alp_base.specs.declared.ids.TransId.{TransId}
use Rattle.alp_base.specs.declared.ids.Stamp.{Stamp}
use Rattle.alp_files.specs.declared.refusal.Cause.{Cause}
use Rattle.alp_journal.specs.Ids.{same_trans, has_join, has_server}
use Rattle.alp_journal.specs.Coordinator.{Fate, Undrawn, Running, Finishing, Committed, Forgotten, Ended, Vote, voted, with_vote, has_votes, joins_of, has_all}
use Rattle.alp_journal.specs.Coordinator as journal
use Rattle.alp_journal.specs.Laws.{latest_vote}
use Rattle.alp_journal.specs.Deeds.{Deed, Registers, Finishes, Hears, Decides, Ends, Acknowledges}
use Rattle.alp_journal.proofs.IdLemmas.{same_trans-true}
use Rattle.alp_coord.specs.declared.members.Member.{Member}
use Rattle.alp_coord.specs.declared.course.Course.{Course}
use Rattle.alp_coord.specs.declared.course.Stage.{Stage}
use Rattle.alp_coord.specs.declared.course.Stage.TheVariants as stage
use Rattle.alp_coord.specs.declared.begun.Settled.{Settled}
use Rattle.alp_coord.specs.declared.begun.Settled.TheVariants as settled
use Rattle.alp_coord.specs.declared.answers.Registration.{Registration}
use Rattle.alp_coord.specs.declared.answers.Registration.TheVariants as registration
use Rattle.alp_coord.specs.declared.answers.Ballot.{Ballot}
use Rattle.alp_coord.specs.declared.answers.Ballot.TheVariants as ballot
use Rattle.alp_coord.specs.declared.answers.Receipt.{Receipt}
use Rattle.alp_coord.specs.declared.answers.Receipt.TheVariants as receipt
use Rattle.alp_coord.specs.declared.coordinator.Coordinator.{Coordinator}
use Rattle.alp_coord.specs.Members.{joins, votes, dones, are_none, takes_part, has_said, have_all_said, have_all_said_with, saying, having_said, hushed}
use Rattle.alp_coord.specs.Begun.{fate_settled}
use Rattle.alp_coord.specs.Courses.{CourseMap, changed_at, fate_at, fate_of, entered, turned, told, is_running_stage, is_finishing_stage, is_early_stage, is_decided_stage, is_standing, time_of}
use Rattle.alp_coord.specs.Likeness.{AreLikeVotes, AreLikeDones, IsLike, same, finishing, committed}
use Rattle.alp_coord.specs.Coordinators.{settled_in, course_in, fate_known, fate_in, settle_in, Comes, ComesLike, Keeps, registration_of, admitted, ballot_of, receipt_of, is_known, is_other, registration_in, at_stage, is_applied, applied_time, forgotten_as, forgotten_fate}
use Rattle.alp_coord.proofs.MemberLemmas.{takes_part-joins, all-voted_with, all-done, all-done_with, joins-append, joins-hushed, votes-hushed, dones-hushed, joins-having_said, voted-having_said, latest-having_said, done-having_said, saying-nowhere}
use Rattle.alp_coord.proofs.FateLemmas.{Shows, now, older, course_shows, fate_course, fate_none, early_open, changed_fates, still_fates, settle_fates, gone_fates}

-- a transaction at a stage has a course
pub record IsAt (s : Coordinator) (t : TransId) (x : Stage) : Type 0 where
  pub course : Course
  pub stands : course_in s t ≡ Some course
  pub at : course.stage ≡ x

pub record IsDecided (s : Coordinator) (t : TransId) : Type 0 where
  pub ts : ℕ
  pub there : IsAt s t (stage.Decided ts)

pub record IsEarly (s : Coordinator) (t : TransId) : Type 0 where
  pub place : Stage
  pub there : IsAt s t place
  pub early : is_early_stage place ≡ true

running_is : (x : Stage) → is_running_stage x ≡ true → x ≡ stage.Running
running_is stage.Running h = refl
running_is stage.Finishing h = cc
running_is (stage.Decided ts) h = cc

finishing_is : (x : Stage) → is_finishing_stage x ≡ true → x ≡ stage.Finishing
finishing_is stage.Running h = cc
finishing_is stage.Finishing h = refl
finishing_is (stage.Decided ts) h = cc

decided_is : (x : Stage) → is_decided_stage x ≡ true → (ts : ℕ) × (x ≡ stage.Decided ts)
decided_is stage.Running h = cc
decided_is stage.Finishing h = cc
decided_is (stage.Decided ts) h = (ts, refl)

pub running_at : (s : Coordinator) (t : TransId) → at_stage is_running_stage (course_in s t) ≡ true → IsAt s t stage.Running
running_at s t h = go (course_in s t) refl h
  where
    go : (o : Option Course) → course_in s t ≡ o → at_stage is_running_stage o ≡ true → IsAt s t stage.Running
    go None e i = cc
    go (Some c) e i = record { course = c; stands = e; at = running_is c.stage i }

pub finishing_at : (s : Coordinator) (t : TransId) → at_stage is_finishing_stage (course_in s t) ≡ true → IsAt s t stage.Finishing
finishing_at s t h = go (course_in s t) refl h
  where
    go : (o : Option Course) → course_in s t ≡ o → at_stage is_finishing_stage o ≡ true → IsAt s t stage.Finishing
    go None e i = cc
    go (Some c) e i = record { course = c; stands = e; at = finishing_is c.stage i }

-- one whose joins have all voted is finishing
pub voted_finishing : (s : Coordinator) (t : TransId) → has_votes (fate_in s t) ≡ true → at_stage is_finishing_stage (course_in s t) ≡ true
voted_finishing s t h = go (course_in s t) h
  where
    none : (x : Option Settled) → has_votes (fate_settled t x) ≡ true → false ≡ true
    none None i = i
    none (Some settled.Open) i = i
    none (Some (settled.Committed ts)) i = i
    none (Some (settled.Forgotten ts ms)) i = i
    none (Some (settled.Ended c)) i = i

    at : (x : Stage) (client : ℕ) (ms : List Member) → has_votes (fate_at t x client ms) ≡ true → is_finishing_stage x ≡ true
    at stage.Running client ms i = i
    at stage.Finishing client ms i = refl
    at (stage.Decided ts) client ms i = i

    go : (o : Option Course) → has_votes (fate_known t o (settled_in s t)) ≡ true → at_stage is_finishing_stage o ≡ true
    go None i = none (settled_in s t) i
    go (Some c) i = at c.stage c.client c.members i

pub decided_at : (s : Coordinator) (t : TransId) → at_stage is_decided_stage (course_in s t) ≡ true → IsDecided s t
decided_at s t h = go (course_in s t) refl h
  where
    go : (o : Option Course) → course_in s t ≡ o → at_stage is_decided_stage o ≡ true → IsDecided s t
    go None e i = cc
    go (Some c) e i = (let x = decided_is c.stage i in record { ts = x.0; there = record { course = c; stands = e; at = x.1 } })

pub early_at : (s : Coordinator) (t : TransId) → at_stage is_early_stage (course_in s t) ≡ true → IsEarly s t
early_at s t h = go (course_in s t) refl h
  where
    go : (o : Option Course) → course_in s t ≡ o → at_stage is_early_stage o ≡ true → IsEarly s t
    go None e i = cc
    go (Some c) e i = record { place = c.stage; there = record { course = c; stands = e; at = refl }; early = i }

-- what is said of it there
pub fate_there : (s : Coordinator) (t : TransId) (x : Stage) (a : IsAt s t x) → fate_in s t ≡ fate_at t x a.course.client a.course.members
fate_there s t x a = fate_course s t a.course a.stands ∙ ap (λ (y : Stage). fate_at t y a.course.client a.course.members) a.at

pub not_standing : (s : Coordinator) (t : TransId) (x : Stage) (a : IsAt s t x) → is_standing x a.course.members ≡ false → is_standing a.course.stage a.course.members ≡ false
not_standing s t x a e = ap (λ (y : Stage). is_standing y a.course.members) a.at ∙ e

never : {A : Type 0} (b : Bool) → b ≡ false → b ≡ true → A
never true e i = cc
never false e i = cc

-- ---- what moves nothing

module _ (move : Fate → Fate) (t : TransId) where
  -- of a transaction without a course
  abbrev pub StillSettled : Type 0
  StillSettled = (x : Option Settled) → move (fate_settled t x) ≡ fate_settled t x

  -- at a stage
  abbrev pub StillAt : Stage → Type 0
  StillAt x = (client : ℕ) (ms : List Member) → move (fate_at t x client ms) ≡ fate_at t x client ms

  pub still : (s : Coordinator) → StillSettled → ((c : Course) → course_in s t ≡ Some c → move (fate_at t c.stage c.client c.members) ≡ fate_at t c.stage c.client c.members) → move (fate_in s t) ≡ fate_in s t
  still s none some = go (course_in s t) refl
    where
      go : (o : Option Course) → course_in s t ≡ o → move (fate_known t o (settled_in s t)) ≡ fate_known t o (settled_in s t)
      go None e = none (settled_in s t)
      go (Some c) e = some c e

-- ---- a part takes part

enter_moves : (t : TransId) (j : JoinNo) (x : Stage) (client : ℕ) (ms : List Member) → x ≡ stage.Running → has_server j.server (joins ms) ≡ false → fate_of t (entered j (record { client = client; stage = x; members = ms })) ≡ journal.registered j (fate_at t x client ms)
enter_moves t j stage.Running client ms at new =
    ap (λ (js : List JoinNo). Running client js) (joins-append ms j)
    ∙ ap (λ (b : Bool). cond {A = Fate} b (Running client (joins ms)) (Running client (joins ms ++ j ∷ []))) (sym new)
enter_moves t j stage.Finishing client ms at new = cc
enter_moves t j (stage.Decided ts) client ms at new = cc

pub enter_fates : (s : Coordinator) (t : TransId) (j : JoinNo) (c : Course) → course_in s t ≡ Some c → c.stage ≡ stage.Running → has_server j.server (joins c.members) ≡ false → Comes (Registers t j) s (record s { courses = changed_at (entered j) s.courses t })
enter_fates s t j c is at new =
    changed_fates (λ (f g : Fate). f ≡ g) (λ f. refl) s t c (entered j) (journal.registered j) is
    (λ stands. never (is_standing c.stage c.members) (ap (λ (y : Stage). is_standing y c.members) at) stands) (enter_moves t j c.stage c.client c.members at new)

-- ---- its client asks for the commit

finish_moves : (t : TransId) (x : Stage) (client : ℕ) (ms : List Member) → x ≡ stage.Running → fate_at t stage.Finishing client (hushed ms) ≡ journal.finishing (fate_at t x client ms)
finish_moves t stage.Running client ms at = λ i. Finishing client (joins-hushed ms i) (votes-hushed ms i)
finish_moves t stage.Finishing client ms at = cc
finish_moves t (stage.Decided ts) client ms at = cc

pub finish_fates : (s : Coordinator) (t : TransId) → IsAt s t stage.Running → Comes (Finishes t) s (record s { courses = changed_at (turned stage.Finishing) s.courses t })
finish_fates s t a =
    changed_fates (λ (f g : Fate). f ≡ g) (λ f. refl) s t a.course (turned stage.Finishing) journal.finishing a.stands
    (λ stands. never (is_standing a.course.stage a.course.members) (not_standing s t stage.Running a refl) stands) (finish_moves t a.course.stage a.course.client a.course.members a.at)

finish_settled : (t : TransId) → StillSettled journal.finishing t
finish_settled t None = refl
finish_settled t (Some settled.Open) = refl
finish_settled t (Some (settled.Committed ts)) = refl
finish_settled t (Some (settled.Forgotten ts ms)) = refl
finish_settled t (Some (settled.Ended e)) = refl

finish_stage : (t : TransId) (x : Stage) (client : ℕ) (ms : List Member) → is_running_stage x ≡ false → journal.finishing (fate_at t x client ms) ≡ fate_at t x client ms
finish_stage t stage.Running client ms away = cc
finish_stage t stage.Finishing client ms away = refl
finish_stage t (stage.Decided ts) client ms away = refl

-- a course is at no such stage
pub not_at : (p : Stage → Bool) (s : Coordinator) (t : TransId) (c : Course) → at_stage p (course_in s t) ≡ false → course_in s t ≡ Some c → p c.stage ≡ false
not_at p s t c away is = sym (ap (at_stage p) is) ∙ away

pub finish_still : (s : Coordinator) (t : TransId) → at_stage is_running_stage (course_in s t) ≡ false → Comes (Finishes t) s s
finish_still s t away =
    still_fates (λ (f g : Fate). f ≡ g) (λ f. refl) s t journal.finishing
    (still journal.finishing t s (finish_settled t) (λ c is. finish_stage t c.stage c.client c.members (not_at is_running_stage s t c away is)))

-- ---- a vote

hear_moves : (t : TransId) (j : JoinNo) (ts : ℕ) (x : Stage) (client : ℕ) (ms : List Member) → x ≡ stage.Finishing → has_join j (joins ms) ≡ true
    → IsLike (fate_at t x client (having_said j ts ms)) (journal.heard j ts (fate_at t x client ms))
hear_moves t j ts stage.Running client ms at its = cc
hear_moves t j ts stage.Finishing client ms at its =
    subst (λ (js : List JoinNo). IsLike (Finishing client js (votes (having_said j ts ms))) (Finishing client (joins ms) (with_vote j ts (votes ms)))) (sym (joins-having_said j ts ms))
    (finishing client (joins ms) (votes (having_said j ts ms)) (with_vote j ts (votes ms)) (record {
      who = λ k. voted-having_said j k ts ms (takes_part-joins j ms ∙ its);
      latest = λ n. latest-having_said j ts n ms (takes_part-joins j ms ∙ its);
    }))
hear_moves t j ts (stage.Decided time) client ms at its = cc

joins_there : (t : TransId) (x : Stage) (client : ℕ) (ms : List Member) → joins_of (fate_at t x client ms) ≡ joins ms
joins_there t stage.Running client ms = refl
joins_there t stage.Finishing client ms = refl
joins_there t (stage.Decided ts) client ms = refl

pub joins_course : (s : Coordinator) (t : TransId) (c : Course) → course_in s t ≡ Some c → joins_of (fate_in s t) ≡ joins c.members
joins_course s t c is = ap joins_of (fate_course s t c is) ∙ joins_there t c.stage c.client c.members

pub hear_fates : (s : Coordinator) (t : TransId) (j : JoinNo) (ts : ℕ) → IsAt s t stage.Finishing → has_join j (joins_of (fate_in s t)) ≡ true → ComesLike (Hears t j ts) s (record s { courses = changed_at (told j ts) s.courses t })
hear_fates s t j ts a its =
    changed_fates IsLike same s t a.course (told j ts) (journal.heard j ts) a.stands
    (λ stands. never (is_standing a.course.stage a.course.members) (not_standing s t stage.Finishing a refl) stands)
    (hear_moves t j ts a.course.stage a.course.client a.course.members a.at (sym (ap (has_join j) (joins_course s t a.course a.stands)) ∙ its))

hear_settled : (j : JoinNo) (ts : ℕ) (t : TransId) → StillSettled (journal.heard j ts) t
hear_settled j ts t None = refl
hear_settled j ts t (Some settled.Open) = refl
hear_settled j ts t (Some (settled.Committed time)) = refl
hear_settled j ts t (Some (settled.Forgotten time ms)) = refl
hear_settled j ts t (Some (settled.Ended e)) = refl

hear_stage : (t : TransId) (j : JoinNo) (ts : ℕ) (x : Stage) (client : ℕ) (ms : List Member) → is_finishing_stage x ≡ false → journal.heard j ts (fate_at t x client ms) ≡ fate_at t x client ms
hear_stage t j ts stage.Running client ms away = refl
hear_stage t j ts stage.Finishing client ms away = cc
hear_stage t j ts (stage.Decided time) client ms away = refl

pub hear_still : (s : Coordinator) (t : TransId) (j : JoinNo) (ts : ℕ) → at_stage is_finishing_stage (course_in s t) ≡ false → ComesLike (Hears t j ts) s s
hear_still s t j ts away =
    still_fates IsLike same s t (journal.heard j ts)
    (still (journal.heard j ts) t s (hear_settled j ts t) (λ c is. hear_stage t j ts c.stage c.client c.members (not_at is_finishing_stage s t c away is)))

-- ---- a decision

decide_moves : (t : TransId) (ts : ℕ) (js : List JoinNo) (x : Stage) (client : ℕ) (ms : List Member) → x ≡ stage.Finishing → js ≡ joins ms → fate_at t (stage.Decided ts) client (hushed ms) ≡ journal.decided (record { ts = ts; trans = t }) js (fate_at t x client ms)
decide_moves t ts js stage.Running client ms at is = cc
decide_moves t ts js stage.Finishing client ms at is = λ i. Committed (record { ts = ts; trans = t }) ((joins-hushed ms ∙ sym is) i) (dones-hushed ms i)
decide_moves t ts js (stage.Decided time) client ms at is = cc

pub decide_fates : (s : Coordinator) (t : TransId) (ts : ℕ) → IsAt s t stage.Finishing → Comes (Decides (record { ts = ts; trans = t }) (joins_of (fate_in s t))) s (record s { courses = changed_at (turned (stage.Decided ts)) s.courses t })
decide_fates s t ts a =
    changed_fates (λ (f g : Fate). f ≡ g) (λ f. refl) s t a.course (turned (stage.Decided ts)) (journal.decided (record { ts = ts; trans = t }) (joins_of (fate_in s t))) a.stands
    (λ stands. never (is_standing a.course.stage a.course.members) (not_standing s t stage.Finishing a refl) stands)
    (decide_moves t ts (joins_of (fate_in s t)) a.course.stage a.course.client a.course.members a.at (joins_course s t a.course a.stands))

-- one is settled, by a move
pub settle_moves : (s : Coordinator) (t : TransId) (x : Settled) (move : Fate → Fate) → settled_in s t ≡ Some settled.Open → fate_settled t (Some x) ≡ move (fate_in s t) → (u : TransId) → fate_in (settle_in s t x) u ≡ cond {A = Fate} (same_trans t u) (move (fate_in s u)) (fate_in s u)
settle_moves s t x move opens moves u = settle_fates s t x opens u ∙ go (same_trans t u) refl
  where
    go : (b : Bool) → same_trans t u ≡ b → cond {A = Fate} b (fate_settled u (Some x)) (fate_in s u) ≡ cond {A = Fate} b (move (fate_in s u)) (fate_in s u)
    go true e = subst (λ (v : TransId). fate_settled v (Some x) ≡ move (fate_in s v)) (same_trans-true t u e) moves
    go false e = refl

pub open_there : (s : Coordinator) (t : TransId) (x : Stage) (a : IsAt s t x) → is_standing x a.course.members ≡ false → settled_in s t ≡ Some settled.Open
open_there s t x a early = early_open s t a.course a.stands (not_standing s t x a early)

alone_moves : (t : TransId) (ts : ℕ) (js : List JoinNo) (f : Fate) (client : ℕ) (ms : List Member) → f ≡ fate_at t stage.Finishing client ms → js ≡ [] → fate_settled t (Some (settled.Committed ts)) ≡ journal.decided (record { ts = ts; trans = t }) js f
alone_moves t ts js f client ms is none = sym (λ i. journal.decided (record { ts = ts; trans = t }) (none i) (is i))

pub alone_fates : (s : Coordinator) (t : TransId) (ts : ℕ) → IsAt s t stage.Finishing → joins_of (fate_in s t) ≡ [] → Comes (Decides (record { ts = ts; trans = t }) (joins_of (fate_in s t))) s (settle_in s t (settled.Committed ts))
alone_fates s t ts a none =
    settle_moves s t (settled.Committed ts) (journal.decided (record { ts = ts; trans = t }) (joins_of (fate_in s t))) (open_there s t stage.Finishing a refl)
    (alone_moves t ts (joins_of (fate_in s t)) (fate_in s t) a.course.client a.course.members (fate_there s t stage.Finishing a) none)

-- a finishing transaction has parts or has none
no_joins : (ms : List Member) → are_none ms ≡ true → joins ms ≡ []
no_joins [] h = refl
no_joins (m ∷ ms) h = cc

pub no_joins_of : (f : Fate) (ms : List Member) → joins ms ≡ joins_of f → are_none ms ≡ true → joins_of f ≡ []
no_joins_of f ms is none = sym is ∙ no_joins ms none

-- ---- an end

pub end_open : (s : Coordinator) (t : TransId) (x : Stage) (a : IsAt s t x) → is_early_stage x ≡ true → settled_in s t ≡ Some settled.Open
end_open s t stage.Running a early = open_there s t stage.Running a refl
end_open s t stage.Finishing a early = open_there s t stage.Finishing a refl
end_open s t (stage.Decided ts) a early = cc

end_moves : (t : TransId) (e : Cause) (x : Stage) (client : ℕ) (ms : List Member) → is_early_stage x ≡ true → journal.ended e (fate_at t x client ms) ≡ Ended e
end_moves t e stage.Running client ms early = refl
end_moves t e stage.Finishing client ms early = refl
end_moves t e (stage.Decided ts) client ms early = cc

pub end_fates : (s : Coordinator) (t : TransId) (e : Cause) (client : ℕ) (a : IsEarly s t) → Comes (Ends t client e) s (settle_in s t (settled.Ended e))
end_fates s t e client a =
    settle_moves s t (settled.Ended e) (journal.ended e) (end_open s t a.place a.there a.early)
    (sym (ap (journal.ended e) (fate_there s t a.place a.there) ∙ end_moves t e a.place a.there.course.client a.there.course.members a.early))

end_settled : (e : Cause) (t : TransId) → StillSettled (journal.ended e) t
end_settled e t None = refl
end_settled e t (Some settled.Open) = refl
end_settled e t (Some (settled.Committed ts)) = refl
end_settled e t (Some (settled.Forgotten ts ms)) = refl
end_settled e t (Some (settled.Ended d)) = refl

end_stage : (t : TransId) (e : Cause) (x : Stage) (client : ℕ) (ms : List Member) → is_early_stage x ≡ false → journal.ended e (fate_at t x client ms) ≡ fate_at t x client ms
end_stage t e stage.Running client ms away = cc
end_stage t e stage.Finishing client ms away = cc
end_stage t e (stage.Decided ts) client ms away = refl

pub end_still : (s : Coordinator) (t : TransId) (e : Cause) (client : ℕ) → at_stage is_early_stage (course_in s t) ≡ false → Comes (Ends t client e) s s
end_still s t e client away =
    still_fates (λ (f g : Fate). f ≡ g) (λ f. refl) s t (journal.ended e)
    (still (journal.ended e) t s (end_settled e t) (λ c is. end_stage t e c.stage c.client c.members (not_at is_early_stage s t c away is)))

-- ---- a part has applied it

ack_moves : (t : TransId) (j : JoinNo) (n ts : ℕ) (x : Stage) (client : ℕ) (ms : List Member) → x ≡ stage.Decided ts → has_join j (joins ms) ≡ true
    → IsLike (fate_at t x client (having_said j n ms)) (journal.acknowledged j (fate_at t x client ms))
ack_moves t j n ts stage.Running client ms at its = cc
ack_moves t j n ts stage.Finishing client ms at its = cc
ack_moves t j n ts (stage.Decided time) client ms at its =
    subst (λ (js : List JoinNo). IsLike (Committed (record { ts = time; trans = t }) js (dones (having_said j n ms))) (Committed (record { ts = time; trans = t }) (joins ms) (j ∷ dones ms))) (sym (joins-having_said j n ms))
    (committed (record { ts = time; trans = t }) (joins ms) (dones (having_said j n ms)) (j ∷ dones ms) (record { who = λ k. done-having_said j k n ms (takes_part-joins j ms ∙ its) }))

some_stands : (ms : List Member) (ns : List Member) → joins ns ≡ joins ms → (ts : ℕ) → is_standing (stage.Decided ts) ms ≡ true → is_standing (stage.Decided ts) ns ≡ true
some_stands [] ns is ts h = cc
some_stands (m ∷ ms) [] is ts h = cc
some_stands (m ∷ ms) (n ∷ ns) is ts h = refl

stage_stands : (x : Stage) (ms ns : List Member) → joins ns ≡ joins ms → is_standing x ms ≡ true → is_standing x ns ≡ true
stage_stands stage.Running ms ns is h = cc
stage_stands stage.Finishing ms ns is h = cc
stage_stands (stage.Decided ts) ms ns is h = some_stands ms ns is ts h

pub ack_fates : (s : Coordinator) (t : TransId) (j : JoinNo) (n ts : ℕ) → IsAt s t (stage.Decided ts) → has_join j (joins_of (fate_in s t)) ≡ true → ComesLike (Acknowledges t j) s (record s { courses = changed_at (told j n) s.courses t })
ack_fates s t j n ts a its =
    changed_fates IsLike same s t a.course (told j n) (journal.acknowledged j) a.stands
    (stage_stands a.course.stage a.course.members (having_said j n a.course.members) (joins-having_said j n a.course.members))
    (ack_moves t j n ts a.course.stage a.course.client a.course.members a.at (sym (ap (has_join j) (joins_course s t a.course a.stands)) ∙ its))

ack_settled : (j : JoinNo) (t : TransId) (x : Option Settled) → has_join j (joins_of (fate_settled t x)) ≡ true → journal.acknowledged j (fate_settled t x) ≡ fate_settled t x
ack_settled j t None its = refl
ack_settled j t (Some settled.Open) its = refl
ack_settled j t (Some (settled.Committed ts)) its = cc
ack_settled j t (Some (settled.Forgotten ts ms)) its = refl
ack_settled j t (Some (settled.Ended e)) its = refl

ack_stage : (t : TransId) (j : JoinNo) (x : Stage) (client : ℕ) (ms : List Member) → is_decided_stage x ≡ false → journal.acknowledged j (fate_at t x client ms) ≡ fate_at t x client ms
ack_stage t j stage.Running client ms away = refl
ack_stage t j stage.Finishing client ms away = refl
ack_stage t j (stage.Decided ts) client ms away = cc

pub ack_still : (s : Coordinator) (t : TransId) (j : JoinNo) → at_stage is_decided_stage (course_in s t) ≡ false → has_join j (joins_of (fate_in s t)) ≡ true → ComesLike (Acknowledges t j) s s
ack_still s t j away its = still_fates IsLike same s t (journal.acknowledged j) (go (course_in s t) refl its)
  where
    go : (o : Option Course) → course_in s t ≡ o → has_join j (joins_of (fate_known t o (settled_in s t))) ≡ true → journal.acknowledged j (fate_known t o (settled_in s t)) ≡ fate_known t o (settled_in s t)
    go None e i = ack_settled j t (settled_in s t) i
    go (Some c) e i = ack_stage t j c.stage c.client c.members (not_at is_decided_stage s t c away e)

-- ---- one is forgotten

-- it is decided, with joins, at that time
pub time_settled : (t : TransId) (x : Option Settled) → applied_time (fate_settled t x) ≡ None
time_settled t None = refl
time_settled t (Some settled.Open) = refl
time_settled t (Some (settled.Committed ts)) = refl
time_settled t (Some (settled.Forgotten ts ms)) = refl
time_settled t (Some (settled.Ended e)) = refl

time_stage : (t : TransId) (x : Stage) (client : ℕ) (ms : List Member) (ts : ℕ) → applied_time (fate_at t x client ms) ≡ Some ts → x ≡ stage.Decided ts
time_stage t stage.Running client ms ts h = cc
time_stage t stage.Finishing client ms ts h = cc
time_stage t (stage.Decided time) client [] ts h = cc
time_stage t (stage.Decided time) client (m ∷ ms) ts h = go (has_all (dones (m ∷ ms)) (joins (m ∷ ms))) h
  where
    go : (b : Bool) → cond {A = Option ℕ} b (Some time) None ≡ Some ts → stage.Decided time ≡ stage.Decided ts
    go true i = (let same : time ≡ ts = cc in ap stage.Decided same)
    go false i = cc

pub applied_at : (s : Coordinator) (t : TransId) (ts : ℕ) → applied_time (fate_in s t) ≡ Some ts → IsAt s t (stage.Decided ts)
applied_at s t ts h = go (course_in s t) refl h
  where
    go : (o : Option Course) → course_in s t ≡ o → applied_time (fate_known t o (settled_in s t)) ≡ Some ts → IsAt s t (stage.Decided ts)
    go None e i = (let wrong : None ≡ Some ts = sym (time_settled t (settled_in s t)) ∙ i in cc)
    go (Some c) e i = record { course = c; stands = e; at = time_stage t c.stage c.client c.members ts i }

-- of one with a course
pub time_early : (t : TransId) (c : Course) → time_of c.stage ≡ None → applied_time (fate_of t c) ≡ None
time_early t c away = go c.stage away
  where
    go : (x : Stage) → time_of x ≡ None → applied_time (fate_at t x c.client c.members) ≡ None
    go stage.Running h = refl
    go stage.Finishing h = refl
    go (stage.Decided time) h = cc

pub time_there : (t : TransId) (c : Course) (ts : ℕ) (a b : Bool) → time_of c.stage ≡ Some ts → are_none c.members ≡ a → have_all_said c.members ≡ b → applied_time (fate_of t c) ≡ cond {A = Option ℕ} a None (cond {A = Option ℕ} b (Some ts) None)
time_there t c ts a b at none all = go c.stage at c.members none all
  where
    go : (x : Stage) → time_of x ≡ Some ts → (ms : List Member) → are_none ms ≡ a → have_all_said ms ≡ b → applied_time (fate_at t x c.client ms) ≡ cond {A = Option ℕ} a None (cond {A = Option ℕ} b (Some ts) None)
    go stage.Running h ms n k = cc
    go stage.Finishing h ms n k = cc
    go (stage.Decided time) h [] n k = ap (λ (x : Bool). cond {A = Option ℕ} x None (cond {A = Option ℕ} b (Some ts) None)) n
    go (stage.Decided time) h (m ∷ ms) n k =
        (λ i. cond {A = Option ℕ} ((all-done (m ∷ ms) ∙ k) i) (h i) None) ∙ ap (λ (x : Bool). cond {A = Option ℕ} x None (cond {A = Option ℕ} b (Some ts) None)) n

-- a time is told just where it is applied
time_applied : (f : Fate) → is_some (applied_time f) ≡ is_applied f
time_applied Undrawn = refl
time_applied (Running c js) = refl
time_applied (Finishing c js vs) = refl
time_applied (Committed stamp [] ds) = refl
time_applied (Committed stamp (j ∷ js) ds) = go (has_all ds (j ∷ js))
  where
    go : (b : Bool) → is_some (cond {A = Option ℕ} b (Some stamp.ts) None) ≡ b
    go true = refl
    go false = refl
time_applied (Forgotten stamp js) = refl
time_applied (Ended e) = refl

pub told_applied : (f : Fate) (ts : ℕ) → applied_time f ≡ Some ts → is_applied f ≡ true
told_applied f ts is = sym (time_applied f) ∙ ap is_some is

pub none_applied : (f : Fate) → applied_time f ≡ None → is_applied f ≡ false
none_applied f is = sym (time_applied f) ∙ ap is_some is

-- a decision of this epoch is open
pub decided_open : (s : Coordinator) (t : TransId) (c : Course) → course_in s t ≡ Some c → (t.epoch == s.epoch) ≡ true → settled_in s t ≡ Some settled.Open
decided_open s t c is at = go (course_shows s t c is).0
  where
    go : Shows s t c → settled_in s t ≡ Some settled.Open
    go (now e opens) = opens
    go (older e stands) = never (t.epoch == s.epoch) e at

pub forget_fates : (s : Coordinator) (t : TransId) (ts : ℕ) (a : IsAt s t (stage.Decided ts)) → settled_in s t ≡ Some settled.Open → (u : TransId)
    → fate_in (settle_in s t (settled.Forgotten ts a.course.members)) u ≡ cond {A = Fate} (same_trans t u) (forgotten_as true (fate_in s u)) (fate_in s u)
forget_fates s t ts a opens = settle_moves s t (settled.Forgotten ts a.course.members) (forgotten_as true) opens (sym (ap (forgotten_as true) (fate_there s t (stage.Decided ts) a)))

-- the one that is forgotten was applied
pub forgotten_applied : (s : Coordinator) (t u : TransId) (f : Fate) (b : Bool) → is_applied (fate_in s t) ≡ true → (t.epoch == s.epoch) ≡ b
    → f ≡ cond {A = Fate} (same_trans t u) (forgotten_as b (fate_in s u)) (fate_in s u) → f ≡ cond {A = Fate} (same_trans t u) (forgotten_fate (u.epoch == s.epoch) (fate_in s u)) (fate_in s u)
forgotten_applied s t u f b applied at is = is ∙ go (same_trans t u) refl
  where
    go : (c : Bool) → same_trans t u ≡ c → cond {A = Fate} c (forgotten_as b (fate_in s u)) (fate_in s u) ≡ cond {A = Fate} c (forgotten_fate (u.epoch == s.epoch) (fate_in s u)) (fate_in s u)
    go true e =
        subst (λ (v : TransId). forgotten_as b (fate_in s v) ≡ forgotten_fate (v.epoch == s.epoch) (fate_in s v)) (same_trans-true t u e)
        (ap (λ (c : Bool). forgotten_as c (fate_in s t)) (sym at) ∙ sym (ap (λ (c : Bool). cond {A = Fate} c (forgotten_as (t.epoch == s.epoch) (fate_in s t)) (fate_in s t)) applied))
    go false e = refl

-- one that was not applied stays
pub not_applied : (s : Coordinator) (t : TransId) → is_applied (fate_in s t) ≡ false → (u : TransId) → fate_in s u ≡ cond {A = Fate} (same_trans t u) (forgotten_fate (u.epoch == s.epoch) (fate_in s u)) (fate_in s u)
not_applied s t away u = go (same_trans t u) refl
  where
    go : (c : Bool) → same_trans t u ≡ c → fate_in s u ≡ cond {A = Fate} c (forgotten_fate (u.epoch == s.epoch) (fate_in s u)) (fate_in s u)
    go true e =
        subst (λ (v : TransId). fate_in s v ≡ forgotten_fate (v.epoch == s.epoch) (fate_in s v)) (same_trans-true t u e)
        (sym (ap (λ (c : Bool). cond {A = Fate} c (forgotten_as (t.epoch == s.epoch) (fate_in s t)) (fate_in s t)) away))
    go false e = refl

-- ---- words of a join that takes no part

told_none : (t : TransId) (j : JoinNo) (n : ℕ) (x : Stage) (client : ℕ) (ms : List Member) → has_join j (joins ms) ≡ false → fate_at t x client (having_said j n ms) ≡ fate_at t x client ms
told_none t j n x client ms none = ap (fate_at t x client) (go (has_said j ms))
  where
    go : (b : Bool) → cond {A = List Member} b ms (saying j n ms) ≡ ms
    go true = refl
    go false = saying-nowhere j n ms (takes_part-joins j ms ∙ none)

pub told_keeps : (s : Coordinator) (t : TransId) (j : JoinNo) (n : ℕ) (x : Stage) → IsAt s t x → has_join j (joins_of (fate_in s t)) ≡ false → Keeps s (record s { courses = changed_at (told j n) s.courses t })
told_keeps s t j n x a none u =
    changed_fates (λ (f g : Fate). f ≡ g) (λ f. refl) s t a.course (told j n) (λ f. f) a.stands
    (stage_stands a.course.stage a.course.members (having_said j n a.course.members) (joins-having_said j n a.course.members))
    (told_none t j n a.course.stage a.course.client a.course.members (sym (ap (has_join j) (joins_course s t a.course a.stands)) ∙ none)) u
    ∙ cond_itself (same_trans t u) (fate_in s u)
  where
    cond_itself : (b : Bool) (f : Fate) → cond {A = Fate} b f f ≡ f
    cond_itself true f = refl
    cond_itself false f = refl

-- a decision that all have applied, as it is forgotten
pub record IsForgetting (s : Coordinator) (t : TransId) (ts : ℕ) : Type 0 where
  pub there : IsAt s t (stage.Decided ts)
  pub applied : is_applied (fate_in s t) ≡ true

pub forgetting : (s : Coordinator) (t : TransId) (ts : ℕ) → applied_time (fate_in s t) ≡ Some ts → IsForgetting s t ts
forgetting s t ts h = record { there = applied_at s t ts h; applied = told_applied (fate_in s t) ts h }

-- its course stands in the map
pub forgetting_course : (s : Coordinator) (t : TransId) (ts : ℕ) (f : IsForgetting s t ts) → map.get s.courses t ≡ Some f.there.course
forgetting_course s t ts f = (course_shows s t f.there.course f.there.stands).1

pub forgetting_open : (s : Coordinator) (t : TransId) (ts : ℕ) → IsForgetting s t ts → (t.epoch == s.epoch) ≡ true → settled_in s t ≡ Some settled.Open
forgetting_open s t ts f at = decided_open s t f.there.course f.there.stands at

pub forgetting_now : (s : Coordinator) (t : TransId) (ts : ℕ) (f : IsForgetting s t ts) (c : Course) → (t.epoch == s.epoch) ≡ true → map.get s.courses t ≡ Some c → (k : Coordinator) → k ≡ settle_in s t (settled.Forgotten ts c.members)
    → (u : TransId) → fate_in k u ≡ cond {A = Fate} (same_trans t u) (forgotten_fate (u.epoch == s.epoch) (fate_in s u)) (fate_in s u)
forgetting_now s t ts f c at is k same_ u =
    let one : c ≡ f.there.course = (let both : Some c ≡ Some f.there.course = sym is ∙ forgetting_course s t ts f in cc) in
    forgotten_applied s t u (fate_in k u) true f.applied at
    (ap (λ (x : Coordinator). fate_in x u) (same_ ∙ ap (λ (d : Course). settle_in s t (settled.Forgotten ts d.members)) one) ∙ forget_fates s t ts f.there (forgetting_open s t ts f at) u)

-- a decision that is found and applied goes
pub gone_forgotten : (s : Coordinator) (t : TransId) → (t.epoch == s.epoch) ≡ false → (u : TransId) → fate_in (record s { courses = map.remove s.courses t }) u ≡ cond {A = Fate} (same_trans t u) (forgotten_as false (fate_in s u)) (fate_in s u)
gone_forgotten s t old u = gone_fates s t old u ∙ go (same_trans t u)
  where
    nothing_left : (f : Fate) → Undrawn ≡ forgotten_as false f
    nothing_left Undrawn = refl
    nothing_left (Running c js) = refl
    nothing_left (Finishing c js vs) = refl
    nothing_left (Committed stamp js ds) = refl
    nothing_left (Forgotten stamp js) = refl
    nothing_left (Ended e) = refl

    go : (b : Bool) → cond {A = Fate} b Undrawn (fate_in s u) ≡ cond {A = Fate} b (forgotten_as false (fate_in s u)) (fate_in s u)
    go true = nothing_left (fate_in s u)
    go false = refl

-- ---- answers

none_ballot : (t : TransId) (j : JoinNo) (ts least : ℕ) (x : Option Settled) → ballot_of j ts least (fate_settled t x) ≡ ballot.Dropped
none_ballot t j ts least None = refl
none_ballot t j ts least (Some settled.Open) = refl
none_ballot t j ts least (Some (settled.Committed time)) = refl
none_ballot t j ts least (Some (settled.Forgotten time ms)) = refl
none_ballot t j ts least (Some (settled.Ended e)) = refl

pub ballot_none : (s : Coordinator) (t : TransId) (j : JoinNo) (ts least : ℕ) → course_in s t ≡ None → ballot_of j ts least (fate_in s t) ≡ ballot.Dropped
ballot_none s t j ts least is = ap (ballot_of j ts least) (fate_none s t is) ∙ none_ballot t j ts least (settled_in s t)

-- at another stage it is dropped
pub ballot_early : (t : TransId) (j : JoinNo) (ts least : ℕ) (c : Course) → is_finishing_stage c.stage ≡ false → ballot_of j ts least (fate_of t c) ≡ ballot.Dropped
ballot_early t j ts least c away = go c.stage away
  where
    go : (x : Stage) → is_finishing_stage x ≡ false → ballot_of j ts least (fate_at t x c.client c.members) ≡ ballot.Dropped
    go stage.Running h = refl
    go stage.Finishing h = cc
    go (stage.Decided time) h = refl

-- else it goes by who has voted
pub ballot_there : (t : TransId) (j : JoinNo) (ts least : ℕ) (c : Course) (a b : Bool) → is_finishing_stage c.stage ≡ true → takes_part j c.members ≡ a → have_all_said_with j c.members ≡ b
    → ballot_of j ts least (fate_of t c) ≡ cond {A = Ballot} a (cond {A = Ballot} b (ballot.Last (latest_vote least (with_vote j ts (votes c.members)))) ballot.Kept) ballot.Dropped
ballot_there t j ts least c a b at its all = go c.stage at
  where
    go : (x : Stage) → is_finishing_stage x ≡ true → ballot_of j ts least (fate_at t x c.client c.members) ≡ cond {A = Ballot} a (cond {A = Ballot} b (ballot.Last (latest_vote least (with_vote j ts (votes c.members)))) ballot.Kept) ballot.Dropped
    go stage.Running h = cc
    go stage.Finishing h = λ i. cond {A = Ballot} ((sym (takes_part-joins j c.members) ∙ its) i) (cond {A = Ballot} ((all-voted_with j ts c.members ∙ all) i) (ballot.Last (latest_vote least (with_vote j ts (votes c.members)))) ballot.Kept) ballot.Dropped
    go (stage.Decided time) h = cc

none_receipt : (t : TransId) (j : JoinNo) (x : Option Settled) → receipt_of j (fate_settled t x) ≡ receipt.Dropped
none_receipt t j None = refl
none_receipt t j (Some settled.Open) = refl
none_receipt t j (Some (settled.Committed time)) = refl
none_receipt t j (Some (settled.Forgotten time ms)) = refl
none_receipt t j (Some (settled.Ended e)) = refl

pub receipt_none : (s : Coordinator) (t : TransId) (j : JoinNo) → course_in s t ≡ None → receipt_of j (fate_in s t) ≡ receipt.Dropped
receipt_none s t j is = ap (receipt_of j) (fate_none s t is) ∙ none_receipt t j (settled_in s t)

pub receipt_early : (t : TransId) (j : JoinNo) (c : Course) → is_decided_stage c.stage ≡ false → receipt_of j (fate_of t c) ≡ receipt.Dropped
receipt_early t j c away = go c.stage away
  where
    go : (x : Stage) → is_decided_stage x ≡ false → receipt_of j (fate_at t x c.client c.members) ≡ receipt.Dropped
    go stage.Running h = refl
    go stage.Finishing h = refl
    go (stage.Decided time) h = cc

pub receipt_there : (t : TransId) (j : JoinNo) (c : Course) (a b d : Bool) → is_decided_stage c.stage ≡ true → takes_part j c.members ≡ a → have_all_said c.members ≡ b → have_all_said_with j c.members ≡ d
    → receipt_of j (fate_of t c) ≡ cond {A = Receipt} a (cond {A = Receipt} (not b && d) receipt.Last receipt.Kept) receipt.Dropped
receipt_there t j c a b d at its before after = go c.stage at
  where
    go : (x : Stage) → is_decided_stage x ≡ true → receipt_of j (fate_at t x c.client c.members) ≡ cond {A = Receipt} a (cond {A = Receipt} (not b && d) receipt.Last receipt.Kept) receipt.Dropped
    go stage.Running h = cc
    go stage.Finishing h = cc
    go (stage.Decided time) h =
        λ i. cond {A = Receipt} ((sym (takes_part-joins j c.members) ∙ its) i) (cond {A = Receipt} (not ((all-done c.members ∙ before) i) && (all-done_with j c.members ∙ after) i) receipt.Last receipt.Kept) receipt.Dropped

none_registration : (t : TransId) (other : Bool) (j : JoinNo) (client : ℕ) (x : Option Settled) → registration_of other j client (fate_settled t x) ≡ registration.Refused
none_registration t other j client None = refl
none_registration t other j client (Some settled.Open) = refl
none_registration t other j client (Some (settled.Committed time)) = refl
none_registration t other j client (Some (settled.Forgotten time ms)) = refl
none_registration t other j client (Some (settled.Ended e)) = refl

pub registration_none : (s : Coordinator) (t : TransId) (other : Bool) (j : JoinNo) (client : ℕ) → course_in s t ≡ None → registration_of other j client (fate_in s t) ≡ registration.Refused
registration_none s t other j client is = ap (registration_of other j client) (fate_none s t is) ∙ none_registration t other j client (settled_in s t)

pub registration_late : (t : TransId) (other : Bool) (j : JoinNo) (client : ℕ) (c : Course) → is_running_stage c.stage ≡ false → registration_of other j client (fate_of t c) ≡ registration.Refused
registration_late t other j client c away = go c.stage away
  where
    go : (x : Stage) → is_running_stage x ≡ false → registration_of other j client (fate_at t x c.client c.members) ≡ registration.Refused
    go stage.Running h = cc
    go stage.Finishing h = refl
    go (stage.Decided time) h = refl

pub registration_there : (t : TransId) (other : Bool) (j : JoinNo) (client : ℕ) (c : Course) (b : Bool) → is_running_stage c.stage ≡ true → (c.client == client && other) ≡ b
    → registration_of other j client (fate_of t c) ≡ cond {A = Registration} b (admitted (has_join j (joins c.members)) (has_server j.server (joins c.members))) registration.Refused
registration_there t other j client c b at its = go c.stage at
  where
    go : (x : Stage) → is_running_stage x ≡ true → registration_of other j client (fate_at t x c.client c.members) ≡ cond {A = Registration} b (admitted (has_join j (joins c.members)) (has_server j.server (joins c.members))) registration.Refused
    go stage.Running h = ap (λ (x : Bool). cond {A = Registration} x (admitted (has_join j (joins c.members)) (has_server j.server (joins c.members))) registration.Refused) its
    go stage.Finishing h = cc
    go (stage.Decided time) h = cc

-- one that is let in is running, and none of its server takes part
pub record IsLetIn (s : Coordinator) (t : TransId) (j : JoinNo) : Type 0 where
  pub there : IsAt s t stage.Running
  pub new : has_server j.server (joins there.course.members) ≡ false

admitted_new : (a b : Bool) → admitted a b ≡ registration.Registered → b ≡ false
admitted_new true b h = cc
admitted_new false true h = cc
admitted_new false false h = refl

pub let_in : (s : Coordinator) (t : TransId) (j : JoinNo) (client servers : ℕ) → registration_in s t j client servers ≡ registration.Registered → IsLetIn s t j
let_in s t j client servers h = known (is_known s t) h
  where
    other : Bool
    other = is_other s.server servers j.server

    running : (c : Course) → course_in s t ≡ Some c → (x : Stage) → c.stage ≡ x → registration_of other j client (fate_at t x c.client c.members) ≡ registration.Registered → IsLetIn s t j
    running c e stage.Running at i = at_last (c.client == client && other) i
      where
        at_last : (b : Bool) → cond {A = Registration} b (admitted (has_join j (joins c.members)) (has_server j.server (joins c.members))) registration.Refused ≡ registration.Registered → IsLetIn s t j
        at_last true k = record { there = record { course = c; stands = e; at = at }; new = admitted_new (has_join j (joins c.members)) (has_server j.server (joins c.members)) k }
        at_last false k = cc
    running c e stage.Finishing at i = cc
    running c e (stage.Decided ts) at i = cc

    go : (o : Option Course) → course_in s t ≡ o → registration_of other j client (fate_known t o (settled_in s t)) ≡ registration.Registered → IsLetIn s t j
    go None e i = (let wrong : registration.Refused ≡ registration.Registered = sym (none_registration t other j client (settled_in s t)) ∙ i in cc)
    go (Some c) e i = running c e c.stage refl i

    known : (b : Bool) → cond {A = Registration} b (registration_of other j client (fate_in s t)) registration.Silence ≡ registration.Registered → IsLetIn s t j
    known true i = go (course_in s t) refl i
    known false i = cc

pub forgetting_old : (s : Coordinator) (t : TransId) (ts : ℕ) (f : IsForgetting s t ts) → (t.epoch == s.epoch) ≡ false → (m : CourseMap) → m ≡ map.remove s.courses t
    → (u : TransId) → fate_in (record s { courses = m }) u ≡ cond {A = Fate} (same_trans t u) (forgotten_fate (u.epoch == s.epoch) (fate_in s u)) (fate_in s u)
forgetting_old s t ts f at m is u =
    forgotten_applied s t u (fate_in (record s { courses = m }) u) false f.applied at (ap (λ (x : CourseMap). fate_in (record s { courses = x }) u) is ∙ gone_forgotten s t at u)
