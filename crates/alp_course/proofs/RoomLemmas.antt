-- Each message that is brought takes room from a journal, and so carrying comes to its end.
use Rattle.std.specs.Prelude.{◌==◌, ◌||◌, ◌&&◌, ◌⊎◌, ◌≢◌, not, Bool, true, false, slice_set, Option, None, Some, is_some}
use Rattle.std.proofs.Common.{◌≡◌, ℕ, zero, suc, ◌+◌, ◌-◌, ◌<◌, ◌≤◌, List, [], ◌∷◌, ◌++◌, length, get_or, inl, inr, refl, sym, ◌∙◌, ap, subst, arith}
use Rattle.std.proofs.lemmas.List.{length-append}
use Rattle.std.proofs.lemmas.Bool.{cases_eq}
use Rattle.alp_journal.specs.Answered.{entries_limit}
use Rattle.alp_journal.specs.declared.entry.Entry.{Entry}
use Rattle.alp_journal.specs.declared.event.Event.{Event}
use Rattle.alp_journal.specs.declared.event.Event.TheVariants as event
use Rattle.alp_journal.specs.declared.message.Message.{Message}
use Rattle.alp_base.specs.declared.ids.TransId.{TransId}
use Rattle.alp_course.specs.Happens.{Stand, timed_out, IsEntryOf, ComesTo, Happens}
use Rattle.alp_course.specs.Courses.{Course, Seat, no_seat, seat_at, seat_after, IsSeat, IsAt, Occurrence, at, looks, brings, next_message, is_waiting, taking, Arrives, IsBrought, Occurs, AreCourse}
use Rattle.alp_course.specs.Languages.{Language, Then, Each}
use Rattle.alp_course.specs.Carries.{ArePairCarried, none_waits, one_waits, OfOthers, CarriesTo, CarriesFrom, IsSweep, brings_some, room_in, room_of, room_left, ArePlaced}
use Rattle.alp_course.proofs.LanguageLemmas.{IsVia, course_split}
use Rattle.alp_course.proofs.SeatLemmas.{as_many, seat_there, seat_elsewhere, each_seat}
use Rattle.alp_course.proofs.WordLemmas.{brings_append}

-- ---- room

room_set : (ss : List Seat) (i : ℕ) (x : Seat) → i < length ss → room_of (slice_set ss i x) + room_in (get_or ss i no_seat) ≡ room_of ss + room_in x
room_set [] i x less = absurd (omega (arith, less))
room_set (s ∷ ss) zero x less = omega arith
room_set (s ∷ ss) (suc i) x less = (let rest : room_of (slice_set ss i x) + room_in (get_or ss i no_seat) ≡ room_of ss + room_in x = room_set ss i x (omega (arith, less)) in omega (arith, rest))

-- one entry more, where there was room for it
module _ (r after : Course) (n seen : ℕ) (Makes : Seat → List Entry → Stand → Type 0) (a : IsAt r n seen Makes after) (e : Entry) (one : a.entries ≡ e ∷ []) (placed : ArePlaced r) where
  entry_placed : a.stand.place ≡ (seat_at r n).stand.place + 1 → ArePlaced after
  entry_placed next m s =
      each_seat r after n (seat_after (seat_at r n) seen a.entries a.stand) a.here a.seats (λ k t. k ≤ length r.seats → t.stand.place ≡ length t.journal)
      (λ low.
      let long : length ((seat_at r n).journal ++ a.entries) ≡ length (seat_at r n).journal + length a.entries = length-append (seat_at r n).journal a.entries in
      let single : length a.entries ≡ 1 = ap length one in
      let was : (seat_at r n).stand.place ≡ length (seat_at r n).journal = placed n a.here in
      omega (arith, next, long, single, was))
      (λ k some away low. placed k (record { first = some; last = low })) m s.first
      (let many : length after.seats ≡ length r.seats = as_many r after n (seat_after (seat_at r n) seen a.entries a.stand) a.here a.seats in let last : m ≤ length after.seats = s.last in omega (arith, many, last))

  entry_falls : (seat_at r n).stand.place < entries_limit → room_left after < room_left r
  entry_falls room =
      let now : Seat = seat_after (seat_at r n) seen a.entries a.stand in
      let sum : room_of (slice_set r.seats (n - 1) now) + room_in (seat_at r n) ≡ room_of r.seats + room_in now = room_set r.seats (n - 1) now (omega (arith, a.here.first, a.here.last)) in
      let same : room_of after.seats ≡ room_of (slice_set r.seats (n - 1) now) = ap room_of a.seats in
      let long : length ((seat_at r n).journal ++ a.entries) ≡ length (seat_at r n).journal + length a.entries = length-append (seat_at r n).journal a.entries in
      let single : length a.entries ≡ 1 = ap length one in
      let was : (seat_at r n).stand.place ≡ length (seat_at r n).journal = placed n a.here in
      omega (arith, sum, same, long, single, was, room)

-- ---- an event that comes to a server that is up

module _ (r after : Course) (n seen : ℕ) (x : Event) (a : IsAt r n seen (λ s es w. ComesTo s.stand s.stand.is_down x es w) after) (up : (seat_at r n).stand.is_down ≡ false) (placed : ArePlaced r) where
  its_entry : IsEntryOf (seat_at r n).stand x a.entries a.stand
  its_entry = subst (λ (b : Bool). ComesTo (seat_at r n).stand b x a.entries a.stand) up a.made

  pub comes_falls : room_left after < room_left r
  comes_falls = entry_falls r after n seen (λ s es w. ComesTo s.stand s.stand.is_down x es w) a its_entry.entry its_entry.one placed its_entry.room

  pub comes_placed : ArePlaced after
  comes_placed = entry_placed r after n seen (λ s es w. ComesTo s.stand s.stand.is_down x es w) a its_entry.entry its_entry.one placed (ap (λ (w : Stand). w.place) its_entry.behind)

pub timeout_falls : (r after : Course) (n : ℕ) (t : TransId) → Occurs r (at n (timed_out t)) after → (seat_at r n).stand.is_down ≡ false → ArePlaced r → room_left after < room_left r
timeout_falls r after n t a up placed =
    comes_falls r after n 0 (event.Timeout t) (record { here = a.here; entries = a.entries; stand = a.stand; made = a.made; seats = a.seats; posts = a.posts }) up placed

-- ---- a message that waits is brought

pub record IsLess (r after : Course) : Type 0 where
  pub less : room_left after < room_left r
  pub placed : ArePlaced after

both_true : (a b : Bool) → (a && not b) ≡ true → (a ≡ true) × (b ≡ false)
both_true true true h = cc
both_true true false h = (refl, refl)
both_true false b h = cc

pub brought_less : (r after : Course) (from to : ℕ) → is_waiting r from to ≡ true → Occurs r (brings from to) after → ArePlaced r → IsLess r after
brought_less r after from to waits a placed = go (next_message r from to) (both_true (is_some (next_message r from to)) (seat_at r to).stand.is_down waits).0 a.1
  where
    up : (seat_at r to).stand.is_down ≡ false
    up = (both_true (is_some (next_message r from to)) (seat_at r to).stand.is_down waits).1

    go : (o : Option Message) → is_some o ≡ true → IsBrought r from to o after → IsLess r after
    go None there h = cc
    go (Some m) there h = record {
      less = comes_falls (taking r from to m) after to _ (event.Arrive from m) h up (λ n s. placed n (record { first = s.first; last = s.last }));
      placed = comes_placed (taking r from to m) after to _ (event.Arrive from m) h up (λ n s. placed n (record { first = s.first; last = s.last }));
    }

-- ---- what a sweep takes

-- there is no more room behind it, and less where something was brought
pub record TakesRoom (r after : Course) (xs : List Occurrence) : Type 0 where
  pub placed : ArePlaced after
  pub most : room_left after ≤ room_left r
  pub less : brings_some xs ≡ true → room_left after < room_left r

abbrev Takes : Language → Type 0
Takes A = (r after : Course) (xs : List Occurrence) → A xs → ArePlaced r → AreCourse r xs after → TakesRoom r after xs

takes_none : (r after : Course) (xs : List Occurrence) → xs ≡ [] → ArePlaced r → AreCourse r xs after → TakesRoom r after xs
takes_none r after xs none placed h =
    let same : after ≡ r = subst (λ (ys : List Occurrence). AreCourse r ys after) none h in
    subst (TakesRoom r after) (sym none)
    (record { placed = subst ArePlaced (sym same) placed; most = (let level : room_left after ≡ room_left r = ap room_left same in omega (arith, level)); less = λ e. (let wrong : false ≡ true = e in cc) })

either : (a b : Bool) → (a || b) ≡ true → (a ≡ true) ⊎ (b ≡ true)
either true b h = inl refl
either false b h = inr h

takes_then : (A B : Language) → Takes A → Takes B → Takes (Then A B)
takes_then A B first second r after xs h placed course =
    let via : IsVia r h.front h.back after = course_split r after h.front h.back (subst (λ (ys : List Occurrence). AreCourse r ys after) h.are course) in
    let one : TakesRoom r via.mid h.front = first r via.mid h.front h.first placed via.first in
    let two : TakesRoom via.mid after h.back = second via.mid after h.back h.second one.placed via.second in
    let low : room_left via.mid ≤ room_left r = one.most in
    let lower : room_left after ≤ room_left via.mid = two.most in
    record {
      placed = two.placed;
      most = omega (arith, low, lower);
      less = λ e. elim (either (brings_some h.front) (brings_some h.back) (sym (brings_append h.front h.back) ∙ sym (ap brings_some h.are) ∙ e)) [
        | inl some ↦ (let less : room_left via.mid < room_left r = one.less some in omega (arith, less, lower))
        | inr some ↦ (let less : room_left after < room_left via.mid = two.less some in omega (arith, less, low))
      ];
    }

takes_each : (A : ℕ → Language) → ((n : ℕ) → Takes (A n)) → (n : ℕ) → Takes (Each A n)
takes_each A takes zero r after xs h placed course = takes_none r after xs h placed course
takes_each A takes (suc n) r after xs h placed course = takes_then (Each A n) (A (suc n)) (takes_each A takes n) (takes (suc n)) r after xs h placed course

takes_pair : (from to : ℕ) → Takes (ArePairCarried from to)
takes_pair from to r after xs none_waits placed course =
    let same : after ≡ r = course.2 ∙ course.1.2 in
    record { placed = subst ArePlaced (sym same) placed; most = (let level : room_left after ≡ room_left r = ap room_left same in omega (arith, level)); less = λ e. (let wrong : false ≡ true = e in cc) }
takes_pair from to r after xs (one_waits zs word) placed course =
    let (mid, look, then_on) = course in
    let (next, bring, rest) = then_on in
    let same : mid ≡ r = look.2 in
    let waits : is_waiting mid from to ≡ true = ap (λ (c : Course). is_waiting c from to) same ∙ sym look.1 in
    let one : IsLess mid next = brought_less mid next from to waits bring (subst ArePlaced (sym same) placed) in
    let two : TakesRoom next after zs = takes_pair from to next after zs word one.placed rest in
    let level : room_left mid ≡ room_left r = ap room_left same in
    let less : room_left next < room_left mid = one.less in
    let lower : room_left after ≤ room_left next = two.most in
    record { placed = two.placed; most = omega (arith, level, less, lower); less = λ e. omega (arith, level, less, lower) }

takes_to : (from to : ℕ) → Takes (CarriesTo from to)
takes_to from to = go (from == to)
  where
    go : (b : Bool) → Takes (OfOthers b (ArePairCarried from to))
    go true = λ r after xs h placed course. takes_none r after xs h placed course
    go false = takes_pair from to

pub takes_sweep : (servers : ℕ) (r after : Course) (xs : List Occurrence) → IsSweep servers xs → ArePlaced r → AreCourse r xs after → TakesRoom r after xs
takes_sweep servers = takes_each (CarriesFrom servers) (λ from. takes_each (CarriesTo from) (takes_to from) servers) servers
