-- What holds along each course: no more was taken than was sent, and each server stands as its journal says.
use Rattle.std.specs.Prelude.{◌==◌, ◌≢◌, Bool, true, false, cond, slice_get, Option, None, Some}
use Rattle.std.specs.List.{AllByRecursion}
use Rattle.std.proofs.Common.{◌≡◌, ◌⊎◌, ℕ, zero, suc, ◌+◌, ◌-◌, ◌<◌, ◌≤◌, List, [], ◌∷◌, ◌++◌, length, get_or, inl, inr, refl, sym, ◌∙◌, ap, subst, arith}
use Rattle.std.proofs.lemmas.List.{append-nil, length-append}
use Rattle.std.proofs.lemmas.Bool.{cases_eq}
use Rattle.alp_files.specs.declared.call.Call.{Call}
use Rattle.alp_journal.specs.Along.{state_after}
use Rattle.alp_journal.specs.Moves.{next}
use Rattle.alp_journal.specs.Opening.{Start}
use Rattle.alp_journal.specs.State.{State, opened}
use Rattle.alp_journal.specs.declared.entry.Entry.{Entry}
use Rattle.alp_journal.specs.declared.event.Event.{Event}
use Rattle.alp_journal.specs.declared.event.Event.TheVariants as event
use Rattle.alp_journal.specs.declared.log.Item.{Item}
use Rattle.alp_journal.specs.declared.log.Sent.{Sent}
use Rattle.alp_journal.specs.declared.log.Sent.TheVariants as sent
use Rattle.alp_journal.specs.declared.message.Message.{Message}
use Rattle.alp_history.proofs.Places.{state-append}
use Rattle.alp_posts.specs.Messages.{messages_to}
use Rattle.alp_posts.specs.Post.{Post, took}
use Rattle.alp_posts.specs.Posts.{AreServers, post_at, with_post}
use Rattle.alp_posts.proofs.MessageLemmas.{messages_append}
use Rattle.alp_posts.proofs.TableLemmas.{same_post, other_post}
use Rattle.alp_course.specs.Courses.{Course, Seat, seat_at, seat_after, no_seat, first_seat, last_rank, IsSeat, IsAt, AreTwo, Occurrence, at, looks, brings, loses, repeats, comes, rests, next_message, taking, Arrives, IsBrought, IsLost, IsRepeated, Occurs, AreCourse}
use Rattle.alp_course.specs.Happens.{Stand, Happening, sent_it, timed_out, ticked, forced, stop_set, restarted, lifts, finds, IsEntryOf, IsNone, ComesTo, Takes, Happens}
use Rattle.alp_course.specs.Links.{AreIdle, IsFirst}
use Rattle.alp_course.specs.Midway.{Holds, taken_of, sent_to, IsWithin, said_by, AreSaid}
use Rattle.alp_course.proofs.CalmCourse.{seat_then}
use Rattle.alp_course.proofs.LinkLemmas.{are_servers, occurs_on}
use Rattle.alp_course.proofs.RankLemmas.{get_below}
use Rattle.alp_course.proofs.SeatLemmas.{as_many, each_seat}

-- ---- no more was taken than was sent

back_seat : (r after : Course) (n : ℕ) → length after.seats ≡ length r.seats → IsSeat after n → IsSeat r n
back_seat r after n same s = record { first = s.first; last = (let last : n ≤ length after.seats = s.last in omega (arith, last, same)) }

back_two : (r after : Course) (from to : ℕ) → length after.seats ≡ length r.seats → AreTwo after from to → AreTwo r from to
back_two r after from to same two = record { sender = back_seat r after from same two.sender; receiver = back_seat r after to same two.receiver; apart = two.apart }

module _ (r after : Course) (n seen : ℕ) (Makes : Seat → List Entry → Stand → Type 0) (a : IsAt r n seen Makes after) where
  at_within : IsWithin r → IsWithin after
  at_within within from to two =
      let before : AreTwo r from to = back_two r after from to many two in
      let same : taken_of after from to ≡ taken_of r from to = ap (λ (p : List Post). (post_at p from to).taken) a.posts in
      let few : taken_of r from to ≤ length (sent_to r from to) = within from to before in
      let more : length (sent_to r from to) ≤ length (sent_to after from to) =
      each_seat r after n (seat_after (seat_at r n) seen a.entries a.stand) a.here a.seats (λ k t. length (messages_to to (seat_at r k).journal) ≤ length (messages_to to t.journal)) grows (λ k some away. omega arith) from before.sender.first in
      omega (arith, same, few, more)
    where
      many : length after.seats ≡ length r.seats
      many = as_many r after n (seat_after (seat_at r n) seen a.entries a.stand) a.here a.seats

      grows : length (messages_to to (seat_at r n).journal) ≤ length (messages_to to ((seat_at r n).journal ++ a.entries))
      grows =
          let all : length (messages_to to ((seat_at r n).journal ++ a.entries)) ≡ length (messages_to to (seat_at r n).journal) + length (messages_to to a.entries) =
          ap (λ (ms : List Message). length ms) (messages_append to (seat_at r n).journal a.entries) ∙ length-append (messages_to to (seat_at r n).journal) (messages_to to a.entries) in
          omega (arith, all)

taking_within : (r : Course) (from to : ℕ) (m : Message) → Holds r → AreTwo r from to → next_message r from to ≡ Some m → IsWithin r → IsWithin (taking r from to m)
taking_within r from to m h pair is within f u two = elim (cases_eq f from) [
  | inl one_is ↦ elim (cases_eq u to) [
    | inl two_is ↦ subst (λ (k : ℕ). taken_of (taking r from to m) k u ≤ length (sent_to r k u)) (sym one_is) (subst (λ (k : ℕ). taken_of (taking r from to m) from k ≤ length (sent_to r from k)) (sym two_is) mine)
    | inr away ↦ others (λ p q. away q)
  ]
  | inr away ↦ others (λ p q. away p)
]
  where
    post : Post
    post = took m (last_rank (seat_at r from).ranks) [] (post_at r.posts from to)

    before : AreTwo r f u
    before = record { sender = record { first = two.sender.first; last = two.sender.last }; receiver = record { first = two.receiver.first; last = two.receiver.last }; apart = two.apart }

    servers : AreServers from to
    servers = are_servers r from to h.few pair.sender pair.receiver

    others : (f ≡ from → u ≡ to → ⊥) → taken_of (taking r from to m) f u ≤ length (sent_to r f u)
    others apart =
        let same : taken_of (taking r from to m) f u ≡ taken_of r f u = ap (λ (p : Post). p.taken) (other_post r.posts from to f u post servers (are_servers r f u h.few before.sender before.receiver) apart) in
        let few : taken_of r f u ≤ length (sent_to r f u) = within f u before in
        omega (arith, same, few)

    mine : taken_of (taking r from to m) from to ≤ length (sent_to r from to)
    mine =
        let same : taken_of (taking r from to m) from to ≡ taken_of r from to + 1 = ap (λ (p : Post). p.taken) (same_post r.posts from to post h.table servers) in
        let less : taken_of r from to < length (sent_to r from to) = get_below (sent_to r from to) (taken_of r from to) m is in
        omega (arith, same, less)

pub within_step : (r after : Course) (x : Occurrence) → Holds r → IsWithin r → Occurs r x after → IsWithin after
within_step r after (at n h) holds within a = at_within r after n 0 (λ s es w. Happens s.tells s.stand h es w) a within
within_step r after (looks from to waits) holds within a = subst IsWithin (sym a.2) within
within_step r after (rests is_rest) holds within a = subst IsWithin (sym a.1) within
within_step r after (comes from to m seen) holds within a = at_within r after to seen (λ s es w. ComesTo s.stand s.stand.is_down (event.Arrive from m) es w) a.2 within
within_step r after (brings from to) holds within a = go (next_message r from to) refl a.1
  where
    go : (o : Option Message) → next_message r from to ≡ o → IsBrought r from to o after → IsWithin after
    go None is b = subst IsWithin (sym b) within
    go (Some m) is b = at_within (taking r from to m) after to (last_rank (seat_at r from).ranks) (λ s es w. ComesTo s.stand s.stand.is_down (event.Arrive from m) es w) b (taking_within r from to m holds a.0 is within)
within_step r after (loses from to) holds within a = go (next_message r from to) refl a.1
  where
    go : (o : Option Message) → next_message r from to ≡ o → IsLost r from to o after → IsWithin after
    go None is b = subst IsWithin (sym b) within
    go (Some m) is b = subst IsWithin (sym b) (taking_within r from to m holds a.0 is within)
within_step r after (repeats from to) holds within a = go (post_at r.posts from to).last a.1
  where
    go : (o : Option (Message × ℕ)) → IsRepeated r from to o after → IsWithin after
    go None b = subst IsWithin (sym b) within
    go (Some x) b = at_within r after to x.1 (λ s es w. ComesTo s.stand s.stand.is_down (event.Arrive from x.0) es w) b within

pub within_on : (r after : Course) (xs : List Occurrence) → Holds r → IsWithin r → AreCourse r xs after → IsWithin after
within_on r after [] holds within h = subst IsWithin (sym h) within
within_on r after (x ∷ xs) holds within h = within_on h.0 after xs (occurs_on r h.0 x holds h.1) (within_step r h.0 x holds within h.1) h.2

pub within_first : (r : Course) → IsFirst r → Holds r → IsWithin r
within_first r f holds from to two =
    let none : taken_of r from to ≡ 0 = ap (λ (p : Post). p.taken) (f.untaken from to (are_servers r from to holds.few two.sender two.receiver)) in
    omega (arith, none)

-- ---- each server stands as its journal says

by_entry : (w : Stand) (x : Event) (es : List Entry) (v : Stand) → IsEntryOf w x es v → v.state ≡ state_after next w.state es
by_entry w x es v h = ap (λ (z : Stand). z.state) h.behind ∙ sym (ap (state_after next w.state) h.one)

by_none : (w : Stand) (es : List Entry) (v : Stand) → IsNone w es v → v.state ≡ state_after next w.state es
by_none w es v h = ap (λ (z : Stand). z.state) h.1 ∙ sym (ap (state_after next w.state) h.0)

by_event : (w : Stand) (b : Bool) (x : Event) (es : List Entry) (v : Stand) → ComesTo w b x es v → v.state ≡ state_after next w.state es
by_event w true x es v h = by_none w es v h
by_event w false x es v h = by_entry w x es v h

by_call : (w : Stand) (k : ℕ) (x : Item) (b : Bool) (s : Sent) (es : List Entry) (v : Stand) → Takes w k x b s es v → v.state ≡ state_after next w.state es
by_call w k x b (sent.Bytes bytes) es v h = by_none w es v h.none
by_call w k x true (sent.Call client epoch number c) es v h = by_none w es v h.none
by_call w k x false (sent.Call client epoch number c) es v h = by_entry w (event.Call client epoch number c) es v h.made

happens_state : (tells : Bool) (w : Stand) (h : Happening) (es : List Entry) (v : Stand) → Happens tells w h es v → v.state ≡ state_after next w.state es
happens_state tells w (sent_it k x) es v h = by_call w k x w.is_down x.sent es v h.1
happens_state tells w (timed_out t) es v h = by_event w w.is_down (event.Timeout t) es v h
happens_state tells w ticked es v h = by_event w w.is_down event.Tick es v h
happens_state tells w forced es v h = by_event w w.is_down event.Force es v h
happens_state tells w (stop_set calls) es v h = ap (λ (z : Stand). z.state) h.1 ∙ sym (ap (state_after next w.state) h.0)
happens_state tells w (restarted pick) es v h = ap (λ (z : Stand). z.state) h.behind ∙ sym (ap (state_after next w.state) h.one)
happens_state tells w (lifts is_down) es v h = ap (λ (z : Stand). z.state) h.2 ∙ sym (ap (state_after next w.state) h.1)
happens_state tells w (finds least) es v h = by_none w es v h.1

module _ (r after : Course) (n seen : ℕ) (Makes : Seat → List Entry → Stand → Type 0) (a : IsAt r n seen Makes after) (makes : a.stand.state ≡ state_after next (seat_at r n).stand.state a.entries) where
  at_said : AreSaid r → AreSaid after
  at_said said k s =
      each_seat r after n (seat_after (seat_at r n) seen a.entries a.stand) a.here a.seats (λ i t. IsSeat r i → t.stand.state ≡ said_by t)
      (λ here. makes ∙ ap (λ (z : State). state_after next z a.entries) (said n here) ∙ sym (state-append next (opened (seat_at r n).opening) (seat_at r n).journal a.entries)) (λ i some away here. said i here) k s.first
      (back_seat r after k (as_many r after n (seat_after (seat_at r n) seen a.entries a.stand) a.here a.seats) s)

said_step : (r after : Course) (x : Occurrence) → AreSaid r → Occurs r x after → AreSaid after
said_step r after (at n h) said a = at_said r after n 0 (λ s es w. Happens s.tells s.stand h es w) a (happens_state (seat_at r n).tells (seat_at r n).stand h a.entries a.stand a.made) said
said_step r after (looks from to waits) said a = subst AreSaid (sym a.2) said
said_step r after (rests is_rest) said a = subst AreSaid (sym a.1) said
said_step r after (comes from to m seen) said a =
    at_said r after to seen (λ s es w. ComesTo s.stand s.stand.is_down (event.Arrive from m) es w) a.2 (by_event (seat_at r to).stand (seat_at r to).stand.is_down (event.Arrive from m) a.2.entries a.2.stand a.2.made) said
said_step r after (brings from to) said a = go (next_message r from to) a.1
  where
    go : (o : Option Message) → IsBrought r from to o after → AreSaid after
    go None b = subst AreSaid (sym b) said
    go (Some m) b =
        at_said (taking r from to m) after to (last_rank (seat_at r from).ranks) (λ s es w. ComesTo s.stand s.stand.is_down (event.Arrive from m) es w) b (by_event (seat_at r to).stand (seat_at r to).stand.is_down (event.Arrive from m) b.entries b.stand b.made)
        (λ n s. said n (record { first = s.first; last = s.last }))
said_step r after (loses from to) said a = go (next_message r from to) a.1
  where
    go : (o : Option Message) → IsLost r from to o after → AreSaid after
    go None b = subst AreSaid (sym b) said
    go (Some m) b = subst AreSaid (sym b) (λ n s. said n (record { first = s.first; last = s.last }))
said_step r after (repeats from to) said a = go (post_at r.posts from to).last a.1
  where
    go : (o : Option (Message × ℕ)) → IsRepeated r from to o after → AreSaid after
    go None b = subst AreSaid (sym b) said
    go (Some x) b = at_said r after to x.1 (λ s es w. ComesTo s.stand s.stand.is_down (event.Arrive from x.0) es w) b (by_event (seat_at r to).stand (seat_at r to).stand.is_down (event.Arrive from x.0) b.entries b.stand b.made) said

pub said_on : (r after : Course) (xs : List Occurrence) → AreSaid r → AreCourse r xs after → AreSaid after
said_on r after [] said h = subst AreSaid (sym h) said
said_on r after (x ∷ xs) said h = said_on h.0 after xs (said_step r h.0 x said h.1) h.2

idle_said : (ss : List Seat) (i : ℕ) → AreIdle ss → (get_or ss i no_seat).stand.state ≡ said_by (get_or ss i no_seat)
idle_said [] i h = refl
idle_said (s ∷ ss) zero h = subst (λ (t : Seat). t.stand.state ≡ said_by t) (sym h.0) refl
idle_said (s ∷ ss) (suc i) h = idle_said ss i h.1

pub said_first : (r : Course) → IsFirst r → AreSaid r
said_first r f n s = idle_said r.seats (n - 1) f.idle
