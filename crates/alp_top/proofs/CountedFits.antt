-- the journals of a course have no more entries than a journal has places, but for those of restarts
use Rattle.std.specs.Prelude.{◌⊎◌, Bool, true, false, get_or, slice_get, Option, None, Some}
use Rattle.std.proofs.Common.{◌≡◌, ℕ, zero, suc, ◌+◌, ◌-◌, ◌<◌, ◌≤◌, List, [], ◌∷◌, ◌++◌, length, length-append, inl, inr, refl, sym, ◌∙◌, ap, subst, arith}
use Rattle.std.proofs.lemmas.List.{append-nil}
use Rattle.alp_journal.specs.Answered.{FitsJournal, entries_limit}
use Rattle.alp_journal.specs.declared.entry.Entry.{Entry}
use Rattle.alp_journal.specs.declared.event.Event.{Event}
use Rattle.alp_journal.specs.declared.event.Event.TheVariants as event
use Rattle.alp_journal.specs.declared.log.Item.{Item}
use Rattle.alp_journal.specs.declared.log.Sent.{Sent}
use Rattle.alp_journal.specs.declared.log.Sent.TheVariants as sent
use Rattle.alp_journal.specs.declared.message.Message.{Message}
use Rattle.alp_course.specs.Courses.{Course, Seat, IsSeat, IsAt, no_seat, seat_at, seat_after, Occurrence, at, looks, brings, loses, repeats, comes, rests, next_message, taking, Arrives, IsBrought, IsLost, IsRepeated, Occurs, AreCourse}
use Rattle.alp_course.specs.Happens.{Happening, sent_it, timed_out, ticked, forced, stop_set, restarted, lifts, finds, Stand, IsEntryOf, IsNone, ComesTo, Takes, Happens}
use Rattle.alp_course.specs.Links.{IsFirst, AreIdle}
use Rattle.alp_course.proofs.SeatLemmas.{as_many, each_seat}
use Rattle.alp_posts.specs.Posts.{post_at}

-- ---- one entry more

pushed : {A : Type 0} (xs : List A) (y x : A) (i : ℕ) → slice_get (xs ++ y ∷ []) i ≡ Some x → (slice_get xs i ≡ Some x) ⊎ ((i ≡ length xs) × (y ≡ x))
pushed [] y x zero e = inr (refl, cc)
pushed [] y x (suc i) e = cc
pushed (z ∷ xs) y x zero e = inl e
pushed (z ∷ xs) y x (suc i) e = elim (pushed xs y x i e) [ inl before ↦ inl before | inr last ↦ inr (let same : i ≡ length xs = last.0 in (omega (arith, same), last.1)) ]

-- an entry at a place that a journal has, or of a restart
fits_push : (es : List Entry) (e : Entry) → (e.event ≡ event.Restart) ⊎ (length es < entries_limit) → FitsJournal es → FitsJournal (es ++ e ∷ [])
fits_push es e room fits i x there = elim (pushed es e x i there) [
  | inl before ↦ fits i x before
  | inr last ↦ elim room [
    | inl restart ↦ inl (ap (λ (y : Entry). y.event) (sym last.1) ∙ restart)
    | inr low ↦ inr (let same : i ≡ length es = last.0 in omega (arith, same, low))
  ]
]

-- ---- a seat

record IsFit (s : Seat) : Type 0 where
  place : s.stand.place ≡ length s.journal
  fits : FitsJournal s.journal

still_fit : (s : Seat) (seen : ℕ) (es : List Entry) (v : Stand) → es ≡ [] → v.place ≡ s.stand.place → IsFit s → IsFit (seat_after s seen es v)
still_fit s seen es v none same h =
    let all : s.journal ++ es ≡ s.journal = ap (λ (fs : List Entry). s.journal ++ fs) none ∙ append-nil s.journal in
    record { place = same ∙ h.place ∙ ap (λ (fs : List Entry). length fs) (sym all); fits = subst FitsJournal (sym all) h.fits }

entry_fit : (s : Seat) (seen : ℕ) (es : List Entry) (v : Stand) (e : Entry) → es ≡ e ∷ [] → v.place ≡ s.stand.place + 1 → (e.event ≡ event.Restart) ⊎ (s.stand.place < entries_limit) → IsFit s → IsFit (seat_after s seen es v)
entry_fit s seen es v e one more room h =
    let all : s.journal ++ es ≡ s.journal ++ e ∷ [] = ap (λ (fs : List Entry). s.journal ++ fs) one in
    let long : length (s.journal ++ es) ≡ length s.journal + 1 = ap (λ (fs : List Entry). length fs) all ∙ length-append s.journal (e ∷ []) in
    let was : s.stand.place ≡ length s.journal = h.place in
    record { place = omega (arith, long, was, more); fits = subst FitsJournal (sym all) (fits_push s.journal e (here room) h.fits) }
  where
    here : (e.event ≡ event.Restart) ⊎ (s.stand.place < entries_limit) → (e.event ≡ event.Restart) ⊎ (length s.journal < entries_limit)
    here (inl is) = inl is
    here (inr low) = inr (subst (λ (k : ℕ). k < entries_limit) h.place low)

none_fit : (s : Seat) (seen : ℕ) (es : List Entry) (v : Stand) → IsNone s.stand es v → IsFit s → IsFit (seat_after s seen es v)
none_fit s seen es v none h = still_fit s seen es v none.0 (ap (λ (w : Stand). w.place) none.1) h

made_fit : (s : Seat) (seen : ℕ) (x : Event) (es : List Entry) (v : Stand) → IsEntryOf s.stand x es v → IsFit s → IsFit (seat_after s seen es v)
made_fit s seen x es v made h = entry_fit s seen es v made.entry made.one (ap (λ (w : Stand). w.place) made.behind) (inr made.room) h

comes_fit : (s : Seat) (seen : ℕ) (b : Bool) (x : Event) (es : List Entry) (v : Stand) → ComesTo s.stand b x es v → IsFit s → IsFit (seat_after s seen es v)
comes_fit s seen true x es v none h = none_fit s seen es v none h
comes_fit s seen false x es v made h = made_fit s seen x es v made h

takes_fit : (s : Seat) (k : ℕ) (x : Item) (b : Bool) (y : Sent) (es : List Entry) (v : Stand) → Takes s.stand k x b y es v → IsFit s → IsFit (seat_after s 0 es v)
takes_fit s k x b (sent.Bytes bytes) es v off h = none_fit s 0 es v off.none h
takes_fit s k x true (sent.Call client epoch number c) es v off h = none_fit s 0 es v off.none h
takes_fit s k x false (sent.Call client epoch number c) es v taken h = made_fit s 0 (event.Call client epoch number c) es v taken.made h

happens_fit : (s : Seat) (y : Happening) (es : List Entry) (v : Stand) → Happens s.tells s.stand y es v → IsFit s → IsFit (seat_after s 0 es v)
happens_fit s (sent_it k x) es v made h = takes_fit s k x s.stand.is_down x.sent es v made.1 h
happens_fit s (timed_out t) es v made h = comes_fit s 0 s.stand.is_down (event.Timeout t) es v made h
happens_fit s ticked es v made h = comes_fit s 0 s.stand.is_down event.Tick es v made h
happens_fit s forced es v made h = comes_fit s 0 s.stand.is_down event.Force es v made h
happens_fit s (stop_set calls) es v made h = still_fit s 0 es v made.0 (ap (λ (w : Stand). w.place) made.1) h
happens_fit s (restarted pick) es v made h = entry_fit s 0 es v made.entry made.one (ap (λ (w : Stand). w.place) made.behind) (inl (ap (λ (e : Entry). e.event) made.is)) h
happens_fit s (lifts is_down) es v made h = still_fit s 0 es v made.1 (ap (λ (w : Stand). w.place) made.2) h
happens_fit s (finds least) es v made h = none_fit s 0 es v made.1 h

-- ---- a course

abbrev AreFit : Course → Type 0
AreFit r = (n : ℕ) → IsSeat r n → IsFit (seat_at r n)

-- the entries of one server fit, and the others stay
one_fit : (r after : Course) (n seen : ℕ) (Makes : Seat → List Entry → Stand → Type 0) (a : IsAt r n seen Makes after) → ((es : List Entry) (v : Stand) → Makes (seat_at r n) es v → IsFit (seat_at r n) → IsFit (seat_after (seat_at r n) seen es v)) → AreFit r → AreFit after
one_fit r after n seen Makes a fit before m s =
    let now : Seat = seat_after (seat_at r n) seen a.entries a.stand in
    let many : length after.seats ≡ length r.seats = as_many r after n now a.here a.seats in
    let last : m ≤ length after.seats = s.last in
    each_seat r after n now a.here a.seats (λ k t. k ≤ length r.seats → IsFit t) (λ low. fit a.entries a.stand a.made (before n a.here)) (λ k some away low. before k (record { first = some; last = low })) m s.first (omega (arith, many, last))

arrives_fit : (r after : Course) (from to : ℕ) (m : Message) (seen : ℕ) → Arrives r from to m seen after → AreFit r → AreFit after
arrives_fit r after from to m seen a before =
    one_fit r after to seen (λ s es w. ComesTo s.stand s.stand.is_down (event.Arrive from m) es w) a (λ es v made h. comes_fit (seat_at r to) seen (seat_at r to).stand.is_down (event.Arrive from m) es v made h) before

taking_fit : (r : Course) (from to : ℕ) (m : Message) → AreFit r → AreFit (taking r from to m)
taking_fit r from to m before n s = before n (record { first = s.first; last = s.last })

brought_fit : (r after : Course) (from to : ℕ) (o : Option Message) → IsBrought r from to o after → AreFit r → AreFit after
brought_fit r after from to None same before = subst AreFit (sym same) before
brought_fit r after from to (Some m) a before = arrives_fit (taking r from to m) after from to m _ a (taking_fit r from to m before)

lost_fit : (r after : Course) (from to : ℕ) (o : Option Message) → IsLost r from to o after → AreFit r → AreFit after
lost_fit r after from to None same before = subst AreFit (sym same) before
lost_fit r after from to (Some m) same before = subst AreFit (sym same) (taking_fit r from to m before)

repeated_fit : (r after : Course) (from to : ℕ) (o : Option (Message × ℕ)) → IsRepeated r from to o after → AreFit r → AreFit after
repeated_fit r after from to None same before = subst AreFit (sym same) before
repeated_fit r after from to (Some x) a before = arrives_fit r after from to x.0 x.1 a before

occurs_fit : (r after : Course) (x : Occurrence) → Occurs r x after → AreFit r → AreFit after
occurs_fit r after (at n h) a before = one_fit r after n 0 (λ s es w. Happens s.tells s.stand h es w) a (λ es v made fit. happens_fit (seat_at r n) h es v made fit) before
occurs_fit r after (looks from to waits) a before = subst AreFit (sym a.2) before
occurs_fit r after (brings from to) a before = brought_fit r after from to (next_message r from to) a.1 before
occurs_fit r after (loses from to) a before = lost_fit r after from to (next_message r from to) a.1 before
occurs_fit r after (repeats from to) a before = repeated_fit r after from to (post_at r.posts from to).last a.1 before
occurs_fit r after (comes from to m seen) a before = arrives_fit r after from to m seen a.2 before
occurs_fit r after (rests is_rest) a before = subst AreFit (sym a.1) before

course_fit : (r after : Course) (xs : List Occurrence) → AreCourse r xs after → AreFit r → AreFit after
course_fit r after [] same before = subst AreFit (sym same) before
course_fit r after (x ∷ xs) h before = course_fit h.0 after xs h.2 (occurs_fit r h.0 x h.1 before)

-- nothing was done yet
idle_fit : (ss : List Seat) (i : ℕ) → AreIdle ss → i < length ss → IsFit (get_or ss i no_seat)
idle_fit [] i idle less = absurd (omega (arith, less))
idle_fit (s ∷ ss) zero idle less = subst IsFit (sym idle.0) (record { place = refl; fits = λ i e is. cc })
idle_fit (s ∷ ss) (suc i) idle less = idle_fit ss i idle.1 (omega (arith, less))

first_fit : (r : Course) → IsFirst r → AreFit r
first_fit r begins n s = idle_fit r.seats (n - 1) begins.idle (omega (arith, s.first, s.last))

-- of a whole run
pub journals_fit : (first after : Course) (xs : List Occurrence) → IsFirst first → AreCourse first xs after → (n : ℕ) → IsSeat after n → FitsJournal (seat_at after n).journal
journals_fit first after xs begins course n s = (course_fit first after xs course (first_fit first begins) n s).fits
