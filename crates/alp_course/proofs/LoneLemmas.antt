-- A run of one server.
use Rattle.std.specs.Prelude.{Bool, slice_set}
use Rattle.std.proofs.Common.{◌≡◌, ℕ, ◌+◌, ◌-◌, ◌≤◌, List, [], ◌∷◌, ◌++◌, length, get_or, refl, sym, ◌∙◌, ap, subst, arith}
use Rattle.std.proofs.lemmas.List.{append-nil, append_assoc}
use Rattle.alp_journal.specs.declared.entry.Entry.{Entry}
use Rattle.alp_course.specs.Happens.{Happening, Stand, Happens, AreRecorded}
use Rattle.alp_course.specs.Courses.{Course, Seat, Occurrence, at, looks, brings, loses, repeats, comes, rests, seat_at, seat_after, no_seat, ranks_with, IsSeat, IsAt, AreTwo, Occurs, AreCourse}
use Rattle.alp_course.specs.Lone.{happenings_of, HasGoneOn, Alone}
use Rattle.alp_course.proofs.RankLemmas.{none_with, with_append}

-- ---- how it goes on

on_none : (s : Seat) → HasGoneOn s s []
on_none s = record { opening = refl; telling = refl; entries = []; journal = sym (append-nil s.journal); ranks = sym (none_with s.ranks 0); recorded = (refl, refl) }

on_then : (s : Seat) (h : Happening) (es : List Entry) (w : Stand) (t : Seat) (hs : List Happening) → Happens s.tells s.stand h es w → HasGoneOn (seat_after s 0 es w) t hs → HasGoneOn s t (h ∷ hs)
on_then s h es w t hs happens on = record {
  opening = on.opening;
  telling = on.telling;
  entries = es ++ on.entries;
  journal = on.journal ∙ append_assoc s.journal es on.entries;
  ranks = on.ranks ∙ with_append s.ranks es on.entries;
  recorded = (es, on.entries, w, refl, happens, on.recorded);
}

-- ---- there is no other

pub one_seat : (r : Course) (s : Seat) → r.seats ≡ s ∷ [] → seat_at r 1 ≡ s
one_seat r s single = ap (λ (ss : List Seat). get_or ss 0 no_seat) single

first_alone : (r : Course) (s : Seat) (n : ℕ) → r.seats ≡ s ∷ [] → IsSeat r n → n ≡ 1
first_alone r s n single h =
    let many : length r.seats ≡ 1 = ap length single in
    let low : 1 ≤ n = h.first in
    let high : n ≤ length r.seats = h.last in
    omega (arith, many, low, high)

no_two : (r : Course) (s : Seat) (from to : ℕ) → r.seats ≡ s ∷ [] → AreTwo r from to → ⊥
no_two r s from to single h = h.apart (first_alone r s from single h.sender ∙ sym (first_alone r s to single h.receiver))

-- ---- all of it

module _ (r mid after : Course) (xs : List Occurrence) (s : Seat) (single : r.seats ≡ s ∷ []) where
  here_then : (n : ℕ) (h : Happening) → IsAt r n 0 (λ t es w. Happens t.tells t.stand h es w) mid → ((t : Seat) → mid.seats ≡ t ∷ [] → (z : Seat) × (after.seats ≡ z ∷ []) × HasGoneOn t z (happenings_of xs))
      → (z : Seat) × (after.seats ≡ z ∷ []) × HasGoneOn s z (h ∷ happenings_of xs)
  here_then n h a rest =
      let first : n ≡ 1 = first_alone r s n single a.here in
      let same : seat_at r n ≡ s = ap (seat_at r) first ∙ one_seat r s single in
      let made : Happens s.tells s.stand h a.entries a.stand = subst (λ (t : Seat). Happens t.tells t.stand h a.entries a.stand) same a.made in
      let now : mid.seats ≡ seat_after s 0 a.entries a.stand ∷ [] =
      a.seats ∙ (λ i. slice_set (single i) (first i - 1) (seat_after (same i) 0 a.entries a.stand)) in
      let (z, is, on) = rest (seat_after s 0 a.entries a.stand) now in
      (z, is, on_then s h a.entries a.stand z (happenings_of xs) made on)

here_only : (r mid after : Course) (x : Occurrence) (xs : List Occurrence) (s : Seat) → r.seats ≡ s ∷ [] → Occurs r x mid → ((t : Seat) → mid.seats ≡ t ∷ [] → (z : Seat) × (after.seats ≡ z ∷ []) × HasGoneOn t z (happenings_of xs))
    → (z : Seat) × (after.seats ≡ z ∷ []) × HasGoneOn s z (happenings_of (x ∷ xs))
here_only r mid after (at n h) xs s single a rest = here_then r mid after xs s single n h a rest
here_only r mid after (looks from to waits) xs s single a rest = absurd (no_two r s from to single a.0)
here_only r mid after (brings from to) xs s single a rest = absurd (no_two r s from to single a.0)
here_only r mid after (loses from to) xs s single a rest = absurd (no_two r s from to single a.0)
here_only r mid after (repeats from to) xs s single a rest = absurd (no_two r s from to single a.0)
here_only r mid after (comes from to m seen) xs s single a rest = absurd (no_two r s from to single a.0)
here_only r mid after (rests is_rest) xs s single a rest = rest s (ap (λ (c : Course). c.seats) a.1 ∙ single)

pub alone : Alone
alone r after [] s single h = (s, ap (λ (c : Course). c.seats) h ∙ single, on_none s)
alone r after (x ∷ xs) s single h = here_only r h.0 after x xs s single h.1 (λ t now. alone h.0 after xs t now h.2)
