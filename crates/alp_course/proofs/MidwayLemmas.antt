-- What holds of a course on its way goes on to hold.
use Rattle.std.specs.Prelude.{Bool, true, false, get_or, Option, None, Some}
use Rattle.std.proofs.Common.{◌≡◌, ℕ, zero, suc, ◌+◌, ◌-◌, ◌≤◌, List, [], ◌∷◌, ◌++◌, length, refl, sym, ◌∙◌, ap, subst, arith}
use Rattle.std.proofs.lemmas.List.{length-append}
use Rattle.alp_files.specs.declared.call.Call.{Call}
use Rattle.alp_journal.specs.declared.entry.Entry.{Entry}
use Rattle.alp_journal.specs.declared.event.Event.{Event}
use Rattle.alp_journal.specs.declared.event.Event.TheVariants as event
use Rattle.alp_journal.specs.declared.log.Item.{Item}
use Rattle.alp_journal.specs.declared.log.Sent.{Sent}
use Rattle.alp_journal.specs.declared.log.Sent.TheVariants as sent
use Rattle.alp_journal.specs.declared.message.Message.{Message}
use Rattle.alp_posts.specs.Posts.{post_at}
use Rattle.alp_course.specs.Carries.{ArePlaced}
use Rattle.alp_course.specs.Courses.{Course, Seat, seat_at, seat_after, no_seat, last_rank, IsSeat, IsAt, Occurrence, at, looks, brings, loses, repeats, comes, rests, next_message, taking, IsBrought, IsLost, IsRepeated, Occurs, AreCourse}
use Rattle.alp_course.specs.Happens.{Stand, Happening, sent_it, timed_out, ticked, forced, stop_set, restarted, lifts, finds, IsEntryOf, IsNone, ComesTo, Takes, Happens}
use Rattle.alp_course.specs.Links.{AreIdle, IsFirst}
use Rattle.alp_course.specs.Midway.{IsMidway, Keeping}
use Rattle.alp_course.proofs.CalmStart.{said_on, said_first, within_on, within_first}
use Rattle.alp_course.proofs.LinkLemmas.{first_holds, course_on}
use Rattle.alp_course.proofs.SeatLemmas.{as_many, each_seat}

-- ---- what came of it has so many entries more

by_entry : (w : Stand) (x : Event) (es : List Entry) (v : Stand) → IsEntryOf w x es v → v.place ≡ w.place + length es
by_entry w x es v h = (let one : length es ≡ 1 = ap length h.one in let next : v.place ≡ w.place + 1 = ap (λ (z : Stand). z.place) h.behind in omega (arith, one, next))

by_none : (w : Stand) (es : List Entry) (v : Stand) → IsNone w es v → v.place ≡ w.place + length es
by_none w es v h = (let none : length es ≡ 0 = ap length h.0 in let same : v.place ≡ w.place = ap (λ (z : Stand). z.place) h.1 in omega (arith, none, same))

by_event : (w : Stand) (b : Bool) (x : Event) (es : List Entry) (v : Stand) → ComesTo w b x es v → v.place ≡ w.place + length es
by_event w true x es v h = by_none w es v h
by_event w false x es v h = by_entry w x es v h

by_call : (w : Stand) (k : ℕ) (x : Item) (b : Bool) (s : Sent) (es : List Entry) (v : Stand) → Takes w k x b s es v → v.place ≡ w.place + length es
by_call w k x b (sent.Bytes bytes) es v h = by_none w es v h.none
by_call w k x true (sent.Call client epoch number c) es v h = by_none w es v h.none
by_call w k x false (sent.Call client epoch number c) es v h = by_entry w (event.Call client epoch number c) es v h.made

by_still : (w : Stand) (es : List Entry) (v : Stand) → es ≡ [] → v.place ≡ w.place → v.place ≡ w.place + length es
by_still w es v none same = (let few : length es ≡ 0 = ap length none in omega (arith, few, same))

happens_place : (tells : Bool) (w : Stand) (h : Happening) (es : List Entry) (v : Stand) → Happens tells w h es v → v.place ≡ w.place + length es
happens_place tells w (sent_it k x) es v h = by_call w k x w.is_down x.sent es v h.1
happens_place tells w (timed_out t) es v h = by_event w w.is_down (event.Timeout t) es v h
happens_place tells w ticked es v h = by_event w w.is_down event.Tick es v h
happens_place tells w forced es v h = by_event w w.is_down event.Force es v h
happens_place tells w (stop_set calls) es v h = by_still w es v h.0 (ap (λ (z : Stand). z.place) h.1)
happens_place tells w (restarted pick) es v h = (let one : length es ≡ 1 = ap length h.one in let next : v.place ≡ w.place + 1 = ap (λ (z : Stand). z.place) h.behind in omega (arith, one, next))
happens_place tells w (lifts is_down) es v h = by_still w es v h.1 (ap (λ (z : Stand). z.place) h.2)
happens_place tells w (finds least) es v h = by_none w es v h.1

module _ (r after : Course) (n seen : ℕ) (Makes : Seat → List Entry → Stand → Type 0) (a : IsAt r n seen Makes after) (makes : a.stand.place ≡ (seat_at r n).stand.place + length a.entries) where
  at_placed : ArePlaced r → ArePlaced after
  at_placed placed k s =
      each_seat r after n (seat_after (seat_at r n) seen a.entries a.stand) a.here a.seats (λ i t. i ≤ length r.seats → t.stand.place ≡ length t.journal)
      (λ low.
      let long : length ((seat_at r n).journal ++ a.entries) ≡ length (seat_at r n).journal + length a.entries = length-append (seat_at r n).journal a.entries in
      let was : (seat_at r n).stand.place ≡ length (seat_at r n).journal = placed n a.here in
      omega (arith, makes, long, was))
      (λ i some away low. placed i (record { first = some; last = low })) k s.first
      (let many : length after.seats ≡ length r.seats = as_many r after n (seat_after (seat_at r n) seen a.entries a.stand) a.here a.seats in let last : k ≤ length after.seats = s.last in omega (arith, many, last))

placed_step : (r after : Course) (x : Occurrence) → ArePlaced r → Occurs r x after → ArePlaced after
placed_step r after (at n h) placed a = at_placed r after n 0 (λ s es w. Happens s.tells s.stand h es w) a (happens_place (seat_at r n).tells (seat_at r n).stand h a.entries a.stand a.made) placed
placed_step r after (looks from to waits) placed a = subst ArePlaced (sym a.2) placed
placed_step r after (rests is_rest) placed a = subst ArePlaced (sym a.1) placed
placed_step r after (comes from to m seen) placed a =
    at_placed r after to seen (λ s es w. ComesTo s.stand s.stand.is_down (event.Arrive from m) es w) a.2 (by_event (seat_at r to).stand (seat_at r to).stand.is_down (event.Arrive from m) a.2.entries a.2.stand a.2.made) placed
placed_step r after (brings from to) placed a = go (next_message r from to) a.1
  where
    go : (o : Option Message) → IsBrought r from to o after → ArePlaced after
    go None b = subst ArePlaced (sym b) placed
    go (Some m) b =
        at_placed (taking r from to m) after to (last_rank (seat_at r from).ranks) (λ s es w. ComesTo s.stand s.stand.is_down (event.Arrive from m) es w) b (by_event (seat_at r to).stand (seat_at r to).stand.is_down (event.Arrive from m) b.entries b.stand b.made)
        (λ n s. placed n (record { first = s.first; last = s.last }))
placed_step r after (loses from to) placed a = go (next_message r from to) a.1
  where
    go : (o : Option Message) → IsLost r from to o after → ArePlaced after
    go None b = subst ArePlaced (sym b) placed
    go (Some m) b = subst ArePlaced (sym b) (λ n s. placed n (record { first = s.first; last = s.last }))
placed_step r after (repeats from to) placed a = go (post_at r.posts from to).last a.1
  where
    go : (o : Option (Message × ℕ)) → IsRepeated r from to o after → ArePlaced after
    go None b = subst ArePlaced (sym b) placed
    go (Some x) b = at_placed r after to x.1 (λ s es w. ComesTo s.stand s.stand.is_down (event.Arrive from x.0) es w) b (by_event (seat_at r to).stand (seat_at r to).stand.is_down (event.Arrive from x.0) b.entries b.stand b.made) placed

placed_on : (r after : Course) (xs : List Occurrence) → ArePlaced r → AreCourse r xs after → ArePlaced after
placed_on r after [] placed h = subst ArePlaced (sym h) placed
placed_on r after (x ∷ xs) placed h = placed_on h.0 after xs (placed_step r h.0 x placed h.1) h.2

idle_placed : (ss : List Seat) (i : ℕ) → AreIdle ss → (get_or ss i no_seat).stand.place ≡ length (get_or ss i no_seat).journal
idle_placed [] i h = refl
idle_placed (s ∷ ss) zero h = subst (λ (t : Seat). t.stand.place ≡ length t.journal) (sym h.0) refl
idle_placed (s ∷ ss) (suc i) h = idle_placed ss i h.1

-- ---- all of it

pub first_midway : (r : Course) → IsFirst r → IsMidway r
first_midway r f = record { holds = first_holds r f; within = within_first r f (first_holds r f); said = said_first r f; placed = λ n s. idle_placed r.seats (n - 1) f.idle }

pub midway_on : (r after : Course) (xs : List Occurrence) → IsMidway r → AreCourse r xs after → IsMidway after
midway_on r after xs m h = record { holds = course_on r after xs m.holds h; within = within_on r after xs m.holds m.within h; said = said_on r after xs m.said h; placed = placed_on r after xs m.placed h }

pub keeping : Keeping
keeping = record { first = first_midway; on = midway_on }
