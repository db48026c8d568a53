-- The journals of a course are linked.
use Rattle.std.specs.Prelude.{◌⊎◌, ◌≢◌, Bool, true, false, max, slice_get, slice_set, Option, None, Some, IfSome, unwrap_or}
use Rattle.std.specs.List.{AllByRecursion}
use Rattle.std.proofs.Common.{◌≡◌, ℕ, zero, suc, ◌+◌, ◌-◌, ◌<◌, ◌≤◌, List, [], ◌∷◌, ◌++◌, length, get_or, inl, inr, refl, sym, ◌∙◌, ap, subst, arith}
use Rattle.std.proofs.lemmas.List.{length-append}
use Rattle.std.proofs.lemmas.Bool.{cases_eq}
use Rattle.alp_files.specs.declared.call.Call.{Call}
use Rattle.alp_journal.specs.declared.act.Act.{Act}
use Rattle.alp_journal.specs.declared.act.Act.TheVariants as act
use Rattle.alp_journal.specs.declared.entry.Entry.{Entry}
use Rattle.alp_journal.specs.declared.event.Event.{Event}
use Rattle.alp_journal.specs.declared.event.Event.TheVariants as event
use Rattle.alp_journal.specs.declared.log.Item.{Item}
use Rattle.alp_journal.specs.declared.log.Sent.{Sent}
use Rattle.alp_journal.specs.declared.log.Sent.TheVariants as sent
use Rattle.alp_journal.specs.declared.message.Message.{Message}
use Rattle.alp_history.specs.Items.{Handed}
use Rattle.alp_history.specs.Log.{Log, ServerLog, IsIn, IsLinked, WasSent, of, rank_at, nobody}
use Rattle.alp_posts.specs.Messages.{IsSent, messages_to}
use Rattle.alp_posts.specs.Post.{Post, nothing_taken, took}
use Rattle.alp_posts.specs.Posts.{AreServers, IsTable, post_at, with_post}
use Rattle.alp_posts.proofs.MessageLemmas.{sent_by}
use Rattle.alp_posts.proofs.TableLemmas.{same_post, other_post, still_table}
use Rattle.alp_course.specs.Happens.{Happening, sent_it, timed_out, ticked, forced, stop_set, restarted, lifts, finds, Stand, IsEntryOf, IsNone, ComesTo, Takes, Happens}
use Rattle.alp_course.specs.Courses.{Course, Seat, no_seat, seat_at, seat_after, last_rank, ranks_with, IsSeat, IsSentBy, IsAt, Occurrence, at, looks, brings, loses, repeats, comes, rests, next_message, taking, Arrives, IsBrought, IsLost, IsRepeated, Occurs, AreCourse, first_seat}
use Rattle.alp_course.specs.Links.{server_log, log_of, AreNumbered, AreIdle, IsFirst, Linking}
use Rattle.alp_course.specs.Midway.{AreRising, AllSent, LastSent, Holds}
use Rattle.alp_course.proofs.RankLemmas.{unwrap_get, get_below, below_or, none_rising, old_rank, new_rank, still_rising}
use Rattle.alp_course.proofs.SeatLemmas.{as_many, seat_there, each_seat, still_seat, seat_number, still_numbered, IsOf, its, nobodys, of_course, of_seat}

-- ---- what was sent

stands_in : (a : Act) (acts : List Act) (i : ℕ) → slice_get acts i ≡ Some a → IsIn a acts
stands_in a [] i h = absurd cc
stands_in a (b ∷ acts) zero h = inl (let same : b ≡ a = cc in sym same)
stands_in a (b ∷ acts) (suc i) h = inr (stands_in a acts i h)

pub get_left : {X : Type 0} (xs ys : List X) (i : ℕ) → i < length xs → slice_get (xs ++ ys) i ≡ slice_get xs i
get_left [] ys i less = absurd (omega (arith, less))
get_left (x ∷ xs) ys zero less = refl
get_left (x ∷ xs) ys (suc i) less = get_left xs ys i (omega (arith, less))

pub get_right : {X : Type 0} (xs ys : List X) (i : ℕ) → length xs ≤ i → slice_get (xs ++ ys) i ≡ slice_get ys (i - length xs)
get_right [] ys i low = (let same : i ≡ i - 0 = omega arith in ap (slice_get ys) same)
get_right (x ∷ xs) ys zero low = absurd (omega (arith, low))
get_right (x ∷ xs) ys (suc i) low = (let same : i - length xs ≡ suc i - suc (length xs) = omega arith in get_right xs ys i (omega (arith, low)) ∙ ap (slice_get ys) same)

-- one that the journal sends has a rank that is not above the last one
is_sent : (s : Seat) (to : ℕ) (m : Message) → AreRising s.ranks s.journal → IsSent to m s.journal → IsSentBy s to m (last_rank s.ranks)
is_sent s to m rising h =
    let under : h.place < length s.journal = get_below s.journal h.place h.entry h.stands in
    record {
      place = h.place;
      entry = h.entry;
      stands = h.stands;
      sent = stands_in (act.Sent to m) h.entry.acts h.number h.sent;
      low = rising.top h.place (let many : length s.ranks ≡ length s.journal = rising.many in omega (arith, under, many));
    }

-- as the sender goes on it was sent still
still_sent : (s : Seat) (to : ℕ) (m : Message) (most seen : ℕ) (es : List Entry) (w : Stand) → AreRising s.ranks s.journal → IsSentBy s to m most → IsSentBy (seat_after s seen es w) to m most
still_sent s to m most seen es w rising h =
    let under : h.place < length s.journal = get_below s.journal h.place h.entry h.stands in
    let ranked : h.place < length s.ranks = (let many : length s.ranks ≡ length s.journal = rising.many in omega (arith, under, many)) in
    let same : get_or (ranks_with s.ranks seen es) h.place 0 ≡ get_or s.ranks h.place 0 = old_rank s.ranks seen es h.place ranked in
    let low : get_or s.ranks h.place 0 ≤ most = h.low in
    record { place = h.place; entry = h.entry; stands = get_left s.journal es h.place under ∙ h.stands; sent = h.sent; low = omega (arith, same, low) }

higher : (s : Seat) (to : ℕ) (m : Message) (a b : ℕ) → a ≤ b → IsSentBy s to m a → IsSentBy s to m b
higher s to m a b up h = (let low : get_or s.ranks h.place 0 ≤ a = h.low in record { place = h.place; entry = h.entry; stands = h.stands; sent = h.sent; low = omega (arith, low, up) })

-- ---- what arrived

-- where the entry is of a message that arrives, its sender sent it, at no higher rank than this
abbrev pub AsSent : Course → (n most : ℕ) → Entry → Type 0
AsSent r n most e = (from : ℕ) (m : Message) → e.event ≡ event.Arrive from m → IsSeat r from × IsSentBy (seat_at r from) n m most

-- ---- entries that bring no message

abbrev IsNoArrival : Event → Type 0
IsNoArrival (event.Arrive from m) = ⊥
IsNoArrival e = Unit {0}

no_arrival : (e : Event) → IsNoArrival e → (from : ℕ) (m : Message) → e ≡ event.Arrive from m → ⊥
no_arrival e h from m is = subst IsNoArrival is h

abbrev NoArrivals : List Entry → Type 0
NoArrivals es = AllByRecursion (λ (e : Entry). IsNoArrival e.event) es

by_entry : (w : Stand) (x : Event) (es : List Entry) (v : Stand) → IsNoArrival x → IsEntryOf w x es v → NoArrivals es
by_entry w x es v other h = subst NoArrivals (sym h.one) (subst IsNoArrival (sym h.event) other, tt)

by_none : (w : Stand) (es : List Entry) (v : Stand) → IsNone w es v → NoArrivals es
by_none w es v h = subst NoArrivals (sym h.0) tt

by_event : (w : Stand) (b : Bool) (x : Event) (es : List Entry) (v : Stand) → IsNoArrival x → ComesTo w b x es v → NoArrivals es
by_event w true x es v other h = by_none w es v h
by_event w false x es v other h = by_entry w x es v other h

by_call : (w : Stand) (k : ℕ) (x : Item) (b : Bool) (s : Sent) (es : List Entry) (v : Stand) → Takes w k x b s es v → NoArrivals es
by_call w k x b (sent.Bytes bytes) es v h = by_none w es v h.none
by_call w k x true (sent.Call client epoch number c) es v h = by_none w es v h.none
by_call w k x false (sent.Call client epoch number c) es v h = by_entry w (event.Call client epoch number c) es v tt h.made

happens_none : (tells : Bool) (w : Stand) (h : Happening) (es : List Entry) (v : Stand) → Happens tells w h es v → NoArrivals es
happens_none tells w (sent_it k x) es v h = by_call w k x w.is_down x.sent es v h.1
happens_none tells w (timed_out t) es v h = by_event w w.is_down (event.Timeout t) es v tt h
happens_none tells w ticked es v h = by_event w w.is_down event.Tick es v tt h
happens_none tells w forced es v h = by_event w w.is_down event.Force es v tt h
happens_none tells w (stop_set calls) es v h = subst NoArrivals (sym h.0) tt
happens_none tells w (restarted pick) es v h = subst NoArrivals (sym h.one) (subst (λ (e : Entry). IsNoArrival e.event) (sym h.is) tt, tt)
happens_none tells w (lifts is_down) es v h = subst NoArrivals (sym h.1) tt
happens_none tells w (finds least) es v h = by_none w es v h.1

none_as_sent : (r : Course) (n most : ℕ) (es : List Entry) → NoArrivals es → AllByRecursion (AsSent r n most) es
none_as_sent r n most [] h = tt
none_as_sent r n most (e ∷ es) h = ((λ from m is. absurd (no_arrival e.event h.0 from m is)), none_as_sent r n most es h.1)

-- ---- a server goes on

pub all_at : {X : Type 0} (P : X → Type 0) (xs : List X) (i : ℕ) (x : X) → AllByRecursion P xs → slice_get xs i ≡ Some x → P x
all_at P [] i x h is = absurd cc
all_at P (y ∷ xs) zero x h is = (let same : y ≡ x = cc in subst P same h.0)
all_at P (y ∷ xs) (suc i) x h is = all_at P xs i x h.1 is

module _ (r after : Course) (n seen : ℕ) (Makes : Seat → List Entry → Stand → Type 0) (h : Holds r) (a : IsAt r n seen Makes after) (as_sent : AllByRecursion (AsSent r n seen) a.entries) where
  abbrev now : Seat
  now = seat_after (seat_at r n) seen a.entries a.stand

  later_seat : (m : ℕ) → IsSeat r m → IsSeat after m
  later_seat m s = still_seat r after n now a.here a.seats m s

  -- what was sent before is sent still
  later_sent : (from to : ℕ) (m : Message) (most : ℕ) → IsSeat r from → IsSentBy (seat_at r from) to m most → IsSentBy (seat_at after from) to m most
  later_sent from to m most s old =
      each_seat r after n now a.here a.seats (λ k t. IsSentBy (seat_at r k) to m most → IsSentBy t to m most)
      (λ sent. still_sent (seat_at r n) to m most seen a.entries a.stand (h.rising n a.here.first) sent) (λ k some away sent. sent) from s.first old

  all_rising : (k : ℕ) → 1 ≤ k → AreRising (seat_at after k).ranks (seat_at after k).journal
  all_rising = each_seat r after n now a.here a.seats (λ k t. AreRising t.ranks t.journal) (still_rising (seat_at r n).ranks seen (seat_at r n).journal a.entries (h.rising n a.here.first)) (λ k some away. h.rising k some)

  later : (k most : ℕ) (s : Seat) (i from : ℕ) (m : Message) → (most < get_or s.ranks i 0) × IsSeat r from × IsSentBy (seat_at r from) k m most → (most < get_or s.ranks i 0) × IsSeat after from × IsSentBy (seat_at after from) k m most
  later k most s i from m known = (known.0, later_seat from known.1, later_sent from k m most known.1 known.2)

  own_sent : AllSent after n now
  own_sent i e stands from m is = go (below_or i (length (seat_at r n).journal))
    where
      many : length (seat_at r n).ranks ≡ length (seat_at r n).journal
      many = (h.rising n a.here.first).many

      go : (i < length (seat_at r n).journal) ⊎ (length (seat_at r n).journal ≤ i) → (most : ℕ) × (most < get_or now.ranks i 0) × IsSeat after from × IsSentBy (seat_at after from) n m most
      go (inl old) =
          let (most, low, s, sent) = h.sent n a.here.first i e (sym (get_left (seat_at r n).journal a.entries i old) ∙ stands) from m is in
          let same : get_or now.ranks i 0 ≡ get_or (seat_at r n).ranks i 0 = old_rank (seat_at r n).ranks seen a.entries i (omega (arith, old, many)) in
          let below : most < get_or (seat_at r n).ranks i 0 = low in
          (most, omega (arith, below, same), later_seat from s, later_sent from n m most s sent)
      go (inr new) =
          let mine : slice_get a.entries (i - length (seat_at r n).journal) ≡ Some e = sym (get_right (seat_at r n).journal a.entries i new) ∙ stands in
          let under : i - length (seat_at r n).journal < length a.entries = get_below a.entries (i - length (seat_at r n).journal) e mine in
          let (s, sent) = all_at (AsSent r n seen) a.entries (i - length (seat_at r n).journal) e as_sent mine from m is in
          let rank : get_or now.ranks i 0 ≡ max (last_rank (seat_at r n).ranks) seen + 1 + (i - length (seat_at r n).ranks) = new_rank (seat_at r n).ranks seen a.entries i (omega (arith, new, many)) (omega (arith, new, under, many)) in
          (seen, omega (arith, rank), later_seat from s, later_sent from n m seen s sent)

  all_sent : (k : ℕ) → 1 ≤ k → AllSent after k (seat_at after k)
  all_sent = each_seat r after n now a.here a.seats (λ k t. AllSent after k t) own_sent
      (λ k some away i e stands from m is.
      let (most, low, s, sent) = h.sent k some i e stands from m is in
      (most, low, later_seat from s, later_sent from k m most s sent))

  later_last : (from to : ℕ) (last : Option (Message × ℕ)) → IsSeat r from → LastSent r from to last → LastSent after from to last
  later_last from to None s old = tt
  later_last from to (Some x) s old = later_sent from to x.0 x.1 s old

  earlier_seat : (m : ℕ) → IsSeat after m → IsSeat r m
  earlier_seat m s = record { first = s.first; last = (let all : length after.seats ≡ length r.seats = as_many r after n now a.here a.seats in let most : m ≤ length after.seats = s.last in omega (arith, all, most)) }

  goes_on : Holds after
  goes_on = record {
    few = (let all : length after.seats ≡ length r.seats = as_many r after n now a.here a.seats in let most : length r.seats ≤ 8 = h.few in omega (arith, all, most));
    numbered = subst (AreNumbered 1) (sym a.seats) (still_numbered r n now h.numbered a.here refl);
    table = subst IsTable (sym a.posts) h.table;
    rising = all_rising;
    sent = all_sent;
    posts = λ from to s t. subst (λ (p : List Post). LastSent after from to (post_at p from to).last) (sym a.posts)
        (later_last from to (post_at r.posts from to).last (earlier_seat from s) (h.posts from to (earlier_seat from s) (earlier_seat to t)));
  }

-- ---- messages

pub are_servers : (r : Course) (from to : ℕ) → length r.seats ≤ 8 → IsSeat r from → IsSeat r to → AreServers from to
are_servers r from to few s t =
    let one : from ≤ length r.seats = s.last in
    let two : to ≤ length r.seats = t.last in
    ((s.first, omega (arith, one, few)), (t.first, omega (arith, two, few)))

-- the next message was sent
next_sent : (r : Course) (from to : ℕ) (m : Message) → Holds r → IsSeat r from → next_message r from to ≡ Some m → IsSentBy (seat_at r from) to m (last_rank (seat_at r from).ranks)
next_sent r from to m h s is = is_sent (seat_at r from) to m (h.rising from s.first) (sent_by to (post_at r.posts from to).taken m (seat_at r from).journal is)

-- it is taken
pub takes_it : (r : Course) (from to : ℕ) (m : Message) → Holds r → IsSeat r from → IsSeat r to → next_message r from to ≡ Some m → Holds (taking r from to m)
takes_it r from to m h s t is = record {
  few = h.few;
  numbered = h.numbered;
  table = still_table r.posts from to now h.table servers (h.table.there from to servers);
  rising = h.rising;
  sent = h.sent;
  posts = λ f u fs us. go f u fs us (cases_eq f from) (cases_eq u to);
}
  where
    servers : AreServers from to
    servers = are_servers r from to h.few s t

    now : Post
    now = took m (last_rank (seat_at r from).ranks) [] (post_at r.posts from to)

    others : (f u : ℕ) → IsSeat r f → IsSeat r u → (f ≡ from → u ≡ to → ⊥) → LastSent r f u (post_at (with_post r.posts from to now) f u).last
    others f u fs us apart =
        subst (λ (p : Post). LastSent r f u p.last) (sym (other_post r.posts from to f u now servers (are_servers r f u h.few fs us) apart)) (h.posts f u fs us)

    go : (f u : ℕ) → IsSeat r f → IsSeat r u → (f ≡ from) ⊎ (f ≡ from → ⊥) → (u ≡ to) ⊎ (u ≡ to → ⊥) → LastSent r f u (post_at (with_post r.posts from to now) f u).last
    go f u fs us (inl a) (inl b) =
        subst (λ (k : ℕ). LastSent r k u (post_at (with_post r.posts from to now) k u).last) (sym a)
        (subst (λ (k : ℕ). LastSent r from k (post_at (with_post r.posts from to now) from k).last) (sym b)
        (subst (λ (p : Post). LastSent r from to p.last) (sym (same_post r.posts from to now h.table servers)) (next_sent r from to m h s is)))
    go f u fs us (inl a) (inr b) = others f u fs us (λ x y. b y)
    go f u fs us (inr a) b = others f u fs us (λ x y. a x)

-- and arrives
arrives_at : (r after : Course) (from to : ℕ) (m : Message) (seen : ℕ) → Holds r → IsSeat r from → IsSentBy (seat_at r from) to m seen → Arrives r from to m seen after → Holds after
arrives_at r after from to m seen h s sent a = goes_on r after to seen (λ s es w. ComesTo s.stand s.stand.is_down (event.Arrive from m) es w) h a (by_down (seat_at r to).stand.is_down a.entries a.made)
  where
    by_down : (b : Bool) (es : List Entry) → ComesTo (seat_at r to).stand b (event.Arrive from m) es a.stand → AllByRecursion (AsSent r to seen) es
    by_down true es c = subst (AllByRecursion (AsSent r to seen)) (sym c.0) tt
    by_down false es c = subst (AllByRecursion (AsSent r to seen)) (sym c.one) (
      (λ f x is. (
          let same : event.Arrive from m ≡ event.Arrive f x = sym c.event ∙ is in
          let one : from ≡ f = cc in
          let two : m ≡ x = cc in
          subst (λ (k : ℕ). IsSeat r k × IsSentBy (seat_at r k) to x seen) one (s, subst (λ (y : Message). IsSentBy (seat_at r from) to y seen) two sent)
          )),
      tt,
    )

brought : (r after : Course) (from to : ℕ) → Holds r → IsSeat r from → IsSeat r to → IsBrought r from to (next_message r from to) after → Holds after
brought r after from to h s t = go (next_message r from to) refl
  where
    go : (o : Option Message) → next_message r from to ≡ o → IsBrought r from to o after → Holds after
    go None is a = subst Holds (sym a) h
    go (Some m) is a =
        arrives_at (taking r from to m) after from to m (last_rank (seat_at r from).ranks) (takes_it r from to m h s t is) (record { first = s.first; last = s.last }) (next_sent r from to m h s is) a

lost : (r after : Course) (from to : ℕ) → Holds r → IsSeat r from → IsSeat r to → IsLost r from to (next_message r from to) after → Holds after
lost r after from to h s t = go (next_message r from to) refl
  where
    go : (o : Option Message) → next_message r from to ≡ o → IsLost r from to o after → Holds after
    go None is a = subst Holds (sym a) h
    go (Some m) is a = subst Holds (sym a) (takes_it r from to m h s t is)

repeated : (r after : Course) (from to : ℕ) → Holds r → IsSeat r from → IsSeat r to → IsRepeated r from to (post_at r.posts from to).last after → Holds after
repeated r after from to h s t = go (post_at r.posts from to).last (h.posts from to s t)
  where
    go : (o : Option (Message × ℕ)) → LastSent r from to o → IsRepeated r from to o after → Holds after
    go None sent a = subst Holds (sym a) h
    go (Some x) sent a = arrives_at r after from to x.0 x.1 h s sent a

-- ---- all of it

pub occurs_on : (r after : Course) (x : Occurrence) → Holds r → Occurs r x after → Holds after
occurs_on r after (at n x) h a = goes_on r after n 0 (λ s es w. Happens s.tells s.stand x es w) h a (none_as_sent r n 0 a.entries (happens_none (seat_at r n).tells (seat_at r n).stand x a.entries a.stand a.made))
occurs_on r after (looks from to waits) h a = subst Holds (sym a.2) h
occurs_on r after (brings from to) h a = brought r after from to h a.0.sender a.0.receiver a.1
occurs_on r after (loses from to) h a = lost r after from to h a.0.sender a.0.receiver a.1
occurs_on r after (repeats from to) h a = repeated r after from to h a.0.sender a.0.receiver a.1
occurs_on r after (comes from to m seen) h a = arrives_at r after from to m seen h a.0.sender a.1 a.2
occurs_on r after (rests is_rest) h a = subst Holds (sym a.1) h

pub course_on : (r after : Course) (xs : List Occurrence) → Holds r → AreCourse r xs after → Holds after
course_on r after [] h a = subst Holds (sym a) h
course_on r after (x ∷ xs) h a = course_on a.0 after xs (occurs_on r a.0 x h a.1) a.2

-- ---- from the start on

idle_at : (ss : List Seat) (i : ℕ) → AreIdle ss → (get_or ss i no_seat).journal ≡ [] × ((get_or ss i no_seat).ranks ≡ [])
idle_at [] i h = (refl, refl)
idle_at (s ∷ ss) zero h = (ap (λ (t : Seat). t.journal) h.0, ap (λ (t : Seat). t.ranks) h.0)
idle_at (s ∷ ss) (suc i) h = idle_at ss i h.1

nothing_stands : {X : Type 0} (xs : List X) (i : ℕ) (x : X) → xs ≡ [] → slice_get xs i ≡ Some x → ⊥
nothing_stands {X = X} xs i x empty is = (let wrong : None ≡ Some x = sym (ap (λ (ys : List X). slice_get ys i) empty) ∙ is in cc)

pub first_holds : (r : Course) → IsFirst r → Holds r
first_holds r f = record {
  few = f.few;
  numbered = f.numbered;
  table = f.table;
  rising = λ n some.
      let (journal, ranks) = idle_at r.seats (n - 1) f.idle in
      subst (λ (es : List Entry). AreRising (seat_at r n).ranks es) (sym journal) (subst (λ (rs : List ℕ). AreRising rs []) (sym ranks) none_rising);
  sent = λ n some i e stands. absurd (nothing_stands (seat_at r n).journal i e (idle_at r.seats (n - 1) f.idle).0 stands);
  posts = λ from to s t. subst (λ (p : Post). LastSent r from to p.last) (sym (f.untaken from to (are_servers r from to f.few s t))) tt;
}

-- ---- as a log

module _ (r : Course) (handed : Handed) (h : Holds r) where
  abbrev log : Log
  log = log_of r handed

  nobody_there : {X : Type 0} (i : ℕ) (x : X) → slice_get {X = X} [] i ≡ Some x → ⊥
  nobody_there i x is = cc

  rises : (n : ℕ) (l : ServerLog) → IsOf r n l → (i k : ℕ) (f : Entry) → slice_get l.journal k ≡ Some f → i < k → unwrap_or (slice_get l.ranks i) 0 < unwrap_or (slice_get l.ranks k) 0
  rises n l (its s) i k f stands low =
      let seat : Seat = seat_at r n in
      let rising : AreRising seat.ranks seat.journal = h.rising n s.first in
      let under : k < length seat.journal = get_below seat.journal k f stands in
      let many : length seat.ranks ≡ length seat.journal = rising.many in
      let up : get_or seat.ranks i 0 < get_or seat.ranks k 0 = rising.rise i k low (omega (arith, under, many)) in
      let one : unwrap_or (slice_get seat.ranks i) 0 ≡ get_or seat.ranks i 0 = unwrap_get seat.ranks i 0 in
      let two : unwrap_or (slice_get seat.ranks k) 0 ≡ get_or seat.ranks k 0 = unwrap_get seat.ranks k 0 in
      omega (arith, up, one, two)
  rises n l nobodys i k f stands low = absurd (nobody_there k f stands)

  was_sent : (from to : ℕ) (m : Message) (most rank : ℕ) → IsSeat r from → IsSentBy (seat_at r from) to m most → most < rank → WasSent log from to m rank
  was_sent from to m most rank s sent low =
      let same : of log from ≡ server_log (seat_at r from) = of_seat r handed from h.numbered s in
      let at : rank_at log from sent.place ≡ get_or (seat_at r from).ranks sent.place 0 = ap (λ (l : ServerLog). unwrap_or (slice_get l.ranks sent.place) 0) same ∙ unwrap_get (seat_at r from).ranks sent.place 0 in
      let under : get_or (seat_at r from).ranks sent.place 0 ≤ most = sent.low in
      record {
        place = sent.place;
        entry = sent.entry;
        stands = ap (λ (l : ServerLog). slice_get l.journal sent.place) same ∙ sent.stands;
        sent = sent.sent;
        earlier = omega (arith, at, under, low);
      }

  arrived : (n : ℕ) (l : ServerLog) → IsOf r n l → (i from : ℕ) (e : Entry) (m : Message) → slice_get l.journal i ≡ Some e → e.event ≡ event.Arrive from m → WasSent log from n m (unwrap_or (slice_get l.ranks i) 0)
  arrived n l (its s) i from e m stands is =
      let (most, low, t, sent) = h.sent n s.first i e stands from m is in
      let at : unwrap_or (slice_get (seat_at r n).ranks i) 0 ≡ get_or (seat_at r n).ranks i 0 = unwrap_get (seat_at r n).ranks i 0 in
      let below : most < get_or (seat_at r n).ranks i 0 = low in
      was_sent from n m most (unwrap_or (slice_get (seat_at r n).ranks i) 0) t sent (omega (arith, at, below))
  arrived n l nobodys i from e m stands is = absurd (nobody_there i e stands)

  pub linked : IsLinked log
  linked = record {
    rising = λ n i k e f first second low. rises n (of log n) (of_course r handed n h.numbered) i k f second low;
    sent = λ n i from e m stands is. arrived n (of log n) (of_course r handed n h.numbered) i from e m stands is;
  }

pub linking : Linking
linking r after xs handed first course = linked after handed (course_on r after xs (first_holds r first) course)
