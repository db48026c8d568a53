-- Behind a settling no message between the servers of a run is left.
use Rattle.std.specs.Prelude.{◌==◌, ◌||◌, ◌&&◌, ◌≢◌, not, Bool, true, false, Option, None, Some, is_some}
use Rattle.std.proofs.Common.{◌≡◌, ℕ, zero, suc, ◌+◌, ◌<◌, ◌≤◌, List, [], ◌∷◌, ◌++◌, length, inl, inr, ◌⊎◌, refl, sym, ◌∙◌, ap, subst, arith}
use Rattle.std.proofs.lemmas.Bool.{cases_eq}
use Rattle.std.proofs.lemmas.Bool.Decides.{eqb_tells}
use Rattle.alp_journal.specs.declared.message.Message.{Message}
use Rattle.alp_course.specs.Courses.{Course, Occurrence, looks, brings, rests, seat_at, next_message, is_waiting, AreTwo, AreCourse}
use Rattle.alp_course.specs.Languages.{Language, Just, Then, Each}
use Rattle.alp_course.specs.Carries.{ArePairCarried, none_waits, one_waits, OfOthers, CarriesTo, CarriesFrom, IsSweep, brings_some, IsCarried, last_sweep, one_more}
use Rattle.alp_course.specs.Settles.{IsTicked, IsRound, Further, AreRounds, IsSettling, AreUp, AreTaken, Emptying}
use Rattle.alp_course.proofs.LanguageLemmas.{IsVia, course_split}
use Rattle.alp_course.proofs.UpLemmas.{many_on, lifting_up}
use Rattle.alp_course.proofs.WordLemmas.{brings_append}

-- ---- a sweep that brings nothing

-- it changes nothing, and this holds
record IsStill (r after : Course) (P : Course → Type 0) : Type 0 where
  same : after ≡ r
  holds : P r

-- words of the language that bring nothing
abbrev Stays : Language → (Course → Type 0) → Type 0
Stays A P = (r after : Course) (xs : List Occurrence) → A xs → brings_some xs ≡ false → AreCourse r xs after → IsStill r after P

neither : (b d : Bool) → (b || d) ≡ false → (b ≡ false) × (d ≡ false)
neither true d h = (let wrong : true ≡ false = h in cc)
neither false d h = (refl, h)

abbrev pub NoneWaits : (from to : ℕ) → Course → Type 0
NoneWaits from to r = is_waiting r from to ≡ false

pair_stays : (from to : ℕ) → Stays (ArePairCarried from to) (NoneWaits from to)
pair_stays from to r after xs none_waits quiet course = record { same = course.2 ∙ course.1.2; holds = sym course.1.1 }
pair_stays from to r after xs (one_waits zs word) quiet course = (let wrong : true ≡ false = quiet in cc)

to_stays : (from to : ℕ) → Stays (CarriesTo from to) (λ r. from ≢ to → NoneWaits from to r)
to_stays from to = elim (eqb_tells from to) [
  | inl is ↦
      subst (λ (b : Bool). Stays (OfOthers b (ArePairCarried from to)) (λ r. from ≢ to → NoneWaits from to r)) (sym is.0)
      (λ r after xs word quiet course. record { same = subst (λ (ys : List Occurrence). AreCourse r ys after) word course; holds = λ away. absurd (away is.1) })
  | inr away ↦
      subst (λ (b : Bool). Stays (OfOthers b (ArePairCarried from to)) (λ r. from ≢ to → NoneWaits from to r)) (sym away.0)
      (λ r after xs word quiet course. (let s : IsStill r after (NoneWaits from to) = pair_stays from to r after xs word quiet course in record { same = s.same; holds = λ apart. s.holds }))
]

-- of each number up to one
abbrev UpTo : (ℕ → Course → Type 0) → ℕ → Course → Type 0
UpTo P k r = (n : ℕ) → 1 ≤ n → n ≤ k → P n r

each_stays : (A : ℕ → Language) (P : ℕ → Course → Type 0) → ((n : ℕ) → Stays (A n) (P n)) → (k : ℕ) → Stays (Each A k) (UpTo P k)
each_stays A P stays zero r after xs word quiet course = record { same = subst (λ (ys : List Occurrence). AreCourse r ys after) word course; holds = λ n some few. absurd (omega (arith, some, few)) }
each_stays A P stays (suc k) r after xs h quiet course =
    let via : IsVia r h.front h.back after = course_split r after h.front h.back (subst (λ (ys : List Occurrence). AreCourse r ys after) h.are course) in
    let both = neither (brings_some h.front) (brings_some h.back) (sym (brings_append h.front h.back) ∙ sym (ap brings_some h.are) ∙ quiet) in
    let one : IsStill r via.mid (UpTo P k) = each_stays A P stays k r via.mid h.front h.first both.0 via.first in
    let two : IsStill via.mid after (P (suc k)) = stays (suc k) via.mid after h.back h.second both.1 via.second in
    record {
      same = two.same ∙ one.same;
      holds = λ n some few. elim (cases_eq n (suc k)) [
        | inl same ↦ subst (λ (m : ℕ). P m r) (sym same) (subst (P (suc k)) one.same two.holds)
        | inr away ↦ one.holds n some (omega (arith, few, away))
      ];
    }

-- no message of one of so many servers to another one waits
abbrev pub NoneLeft : (servers : ℕ) → Course → Type 0
NoneLeft servers r = (from : ℕ) → 1 ≤ from → from ≤ servers → (to : ℕ) → 1 ≤ to → to ≤ servers → from ≢ to → NoneWaits from to r

sweep_stays : (servers : ℕ) → Stays (IsSweep servers) (NoneLeft servers)
sweep_stays servers =
    each_stays (CarriesFrom servers) (λ from r. UpTo (λ to c. from ≢ to → NoneWaits from to c) servers r) (λ from. each_stays (CarriesTo from) (λ to c. from ≢ to → NoneWaits from to c) (to_stays from) servers) servers

-- ---- all messages are carried

pub carried_none : (servers : ℕ) (r after : Course) (xs : List Occurrence) → IsCarried servers xs → AreCourse r xs after → NoneLeft servers after
carried_none servers r after xs (last_sweep ys word quiet) course =
    let s : IsStill r after (NoneLeft servers) = sweep_stays servers r after ys word quiet course in
    subst (NoneLeft servers) (sym s.same) s.holds
carried_none servers r after xs (one_more ys zs word some rest) course = (let via : IsVia r ys zs after = course_split r after ys zs course in carried_none servers via.mid after zs rest via.second)

rounds_keep : (servers k : ℕ) (r after : Course) (xs : List Occurrence) → NoneLeft servers r → AreRounds servers k xs → AreCourse r xs after → NoneLeft servers after
rounds_keep servers zero r after xs before word course = subst (NoneLeft servers) (sym (subst (λ (ys : List Occurrence). AreCourse r ys after) word course)) before
rounds_keep servers (suc k) r after xs before (is_rest, h) course =
    let via : IsVia r h.front h.back after = course_split r after h.front h.back (subst (λ (ys : List Occurrence). AreCourse r ys after) h.are course) in
    let inner : IsVia r h.first.front h.first.back via.mid = course_split r via.mid h.first.front h.first.back (subst (λ (ys : List Occurrence). AreCourse r ys via.mid) h.first.are via.first) in
    further is_rest via.mid after h.back (carried_none servers inner.mid via.mid h.first.back h.first.second inner.second) h.second via.second (λ m ys none word. rounds_keep servers k m after ys none word)
  where
    further : (b : Bool) (m z : Course) (ys : List Occurrence) → NoneLeft servers m → Further b (AreRounds servers k) ys → AreCourse m ys z
        → ((n : Course) (zs : List Occurrence) → NoneLeft servers n → AreRounds servers k zs → AreCourse n zs z → NoneLeft servers z) → NoneLeft servers z
    further true m z ys none is course rec_call =
        let (n, same, last) = subst (λ (zs : List Occurrence). AreCourse m zs z) is course in
        subst (NoneLeft servers) (sym (last ∙ same.1)) none
    further false m z ys none word course rec_call =
        let split : IsVia m word.front word.back z = course_split m z word.front word.back (subst (λ (zs : List Occurrence). AreCourse m zs z) word.are course) in
        let (n, same, last) = subst (λ (zs : List Occurrence). AreCourse m zs split.mid) word.first split.first in
        rec_call split.mid word.back (subst (NoneLeft servers) (sym (last ∙ same.1)) none) word.second split.second

rounds_none : (servers k : ℕ) (r after : Course) (xs : List Occurrence) → AreRounds servers (suc k) xs → AreCourse r xs after → NoneLeft servers after
rounds_none servers k r after xs (is_rest, h) course =
    let via : IsVia r h.front h.back after = course_split r after h.front h.back (subst (λ (ys : List Occurrence). AreCourse r ys after) h.are course) in
    let inner : IsVia r h.first.front h.first.back via.mid = course_split r via.mid h.first.front h.first.back (subst (λ (ys : List Occurrence). AreCourse r ys via.mid) h.first.are via.first) in
    behind is_rest via.mid h.back (carried_none servers inner.mid via.mid h.first.back h.first.second inner.second) h.second via.second
  where
    behind : (b : Bool) (m : Course) (ys : List Occurrence) → NoneLeft servers m → Further b (AreRounds servers k) ys → AreCourse m ys after → NoneLeft servers after
    behind true m ys none is course =
        let (n, same, last) = subst (λ (zs : List Occurrence). AreCourse m zs after) is course in
        subst (NoneLeft servers) (sym (last ∙ same.1)) none
    behind false m ys none word course =
        let split : IsVia m word.front word.back after = course_split m after word.front word.back (subst (λ (zs : List Occurrence). AreCourse m zs after) word.are course) in
        let (n, same, last) = subst (λ (zs : List Occurrence). AreCourse m zs split.mid) word.first split.first in
        rounds_keep servers k split.mid after word.back (subst (NoneLeft servers) (sym (last ∙ same.1)) none) word.second split.second

-- ---- all of it

pub no_message : (o : Option Message) (down : Bool) → down ≡ false → (is_some o && not down) ≡ false → o ≡ None
no_message None down up none = refl
no_message (Some m) down up none = (let wrong : true ≡ false = sym (ap not up) ∙ none in cc)

pub taken_all : Emptying
taken_all r after xs h course from to two =
    let servers : ℕ = length r.seats in
    let one : IsVia r h.front h.back after = course_split r after h.front h.back (subst (λ (ys : List Occurrence). AreCourse r ys after) h.are course) in
    let next : IsVia one.mid h.second.front h.second.back after = course_split one.mid after h.second.front h.second.back (subst (λ (ys : List Occurrence). AreCourse one.mid ys after) h.second.are one.second) in
    let none : NoneLeft servers after = rounds_none servers 7 next.mid after h.second.back h.second.second next.second in
    let many : length after.seats ≡ servers = many_on r after xs course in
    let high : from ≤ length after.seats = two.sender.last in
    let higher : to ≤ length after.seats = two.receiver.last in
    let up : (seat_at after to).stand.is_down ≡ false = (lifting_up r after xs h course to two.receiver).up in
    no_message (next_message after from to) (seat_at after to).stand.is_down up (none from two.sender.first (omega (arith, many, high)) to two.receiver.first (omega (arith, many, higher)) two.apart)
