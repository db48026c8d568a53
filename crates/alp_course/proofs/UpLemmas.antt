-- Behind a settling all servers are up.
use Rattle.std.specs.Prelude.{◌==◌, ◌⊎◌, ◌≢◌, Bool, true, false, slice_set, Option, None, Some}
use Rattle.std.specs.List.{AllByRecursion}
use Rattle.std.proofs.Common.{◌≡◌, ℕ, zero, suc, ◌+◌, ◌-◌, ◌<◌, ◌≤◌, List, [], ◌∷◌, ◌++◌, length, inl, inr, refl, sym, ◌∙◌, ap, subst, arith}
use Rattle.std.proofs.lemmas.Bool.{cases_eq}
use Rattle.alp_base.specs.declared.ids.TransId.{TransId}
use Rattle.alp_journal.specs.Moves.{stops}
use Rattle.alp_journal.specs.declared.entry.Entry.{Entry}
use Rattle.alp_journal.specs.declared.event.Event.{Event}
use Rattle.alp_journal.specs.declared.event.Event.TheVariants as event
use Rattle.alp_journal.specs.declared.message.Message.{Message}
use Rattle.alp_posts.specs.Posts.{post_at}
use Rattle.alp_course.specs.Happens.{Stand, Happening, timed_out, ticked, restarted, lifts, finds, IsEntryOf, ComesTo, Happens, stand_after}
use Rattle.alp_course.specs.Courses.{Course, Seat, seat_at, seat_after, IsSeat, IsAt, Occurrence, at, looks, brings, loses, repeats, comes, rests, next_message, taking, IsBrought, IsLost, IsRepeated, Occurs, AreCourse}
use Rattle.alp_course.specs.Languages.{Language, Just, Then, Each}
use Rattle.alp_course.specs.Carries.{ArePairCarried, none_waits, one_waits, OfOthers, CarriesTo, CarriesFrom, IsSweep, IsCarried, last_sweep, one_more}
use Rattle.alp_course.specs.Settles.{lifting, IsLifted, AreTimedOut, none_open, one_open, IsTicked, IsRound, Further, AreRounds, IsSettling, IsUpIn, AreUp, Lifting}
use Rattle.alp_course.proofs.LanguageLemmas.{IsVia, course_split}
use Rattle.alp_course.proofs.SeatLemmas.{as_many, each_seat, seat_there, seat_elsewhere}

-- ---- a server that is up, and that nobody stops, stays so

stays_up : (s : Seat) (seen : ℕ) (x : Event) (es : List Entry) (w : Stand) → IsUpIn s → ComesTo s.stand s.stand.is_down x es w → IsUpIn (seat_after s seen es w)
stays_up s seen x es w h c =
    let e : IsEntryOf s.stand x es w = subst (λ (b : Bool). ComesTo s.stand b x es w) h.up c in
    let goes_on : stops e.entry ≡ false = not_stopped (stops e.entry) e.halts in
    record { up = ap (λ (v : Stand). v.is_down) e.behind ∙ goes_on; free = ap (λ (v : Stand). v.is_fused) e.behind ∙ h.free }
  where
    not_stopped : (b : Bool) → (b ≡ true → s.stand.is_fused ≡ true) → b ≡ false
    not_stopped true halts = (let wrong : true ≡ false = sym (halts refl) ∙ h.free in cc)
    not_stopped false halts = refl

-- all of them are up where this one is
module _ (r after : Course) (n seen : ℕ) (Makes : Seat → List Entry → Stand → Type 0) (a : IsAt r n seen Makes after) where
  abbrev here_now : Seat
  here_now = seat_after (seat_at r n) seen a.entries a.stand

  still_one : (m : ℕ) → IsSeat after m → m ≤ length r.seats
  still_one m s = (let many : length after.seats ≡ length r.seats = as_many r after n here_now a.here a.seats in let last : m ≤ length after.seats = s.last in omega (arith, many, last))

  all_up : IsUpIn here_now → AreUp r → AreUp after
  all_up mine before m s =
      each_seat r after n here_now a.here a.seats (λ k t. k ≤ length r.seats → IsUpIn t) (λ low. mine) (λ k some away low. before k (record { first = some; last = low })) m s.first (still_one m s)

comes_up : (r after : Course) (n seen : ℕ) (x : Event) → IsAt r n seen (λ s es w. ComesTo s.stand s.stand.is_down x es w) after → AreUp r → AreUp after
comes_up r after n seen x a up = all_up r after n seen (λ s es w. ComesTo s.stand s.stand.is_down x es w) a (stays_up (seat_at r n) seen x a.entries a.stand (up n a.here) a.made) up

-- a transaction times out at a server that is up
pub timeout_up : (r after : Course) (n : ℕ) (t : TransId) → Occurs r (at n (timed_out t)) after → IsUpIn (seat_at r n) → IsUpIn (seat_at after n)
timeout_up r after n t a up = subst IsUpIn (sym (seat_there r after n (seat_after (seat_at r n) 0 a.entries a.stand) a.here a.seats)) (stays_up (seat_at r n) 0 (event.Timeout t) a.entries a.stand up a.made)

-- of what occurs behind the lifting
abbrev pub IsCalm : Occurrence → Type 0
IsCalm (at n (timed_out t)) = Unit {0}
IsCalm (at n ticked) = Unit {0}
IsCalm (at n (finds least)) = Unit {0}
IsCalm (at n h) = ⊥
IsCalm (looks from to waits) = Unit {0}
IsCalm (brings from to) = Unit {0}
IsCalm (loses from to) = ⊥
IsCalm (repeats from to) = ⊥
IsCalm (comes from to m seen) = ⊥
IsCalm (rests is_rest) = Unit {0}

brought_up : (r after : Course) (from to : ℕ) (o : Option Message) → IsBrought r from to o after → AreUp r → AreUp after
brought_up r after from to None h up = subst AreUp (sym h) up
brought_up r after from to (Some m) h up = comes_up (taking r from to m) after to _ (event.Arrive from m) h (λ n s. up n (record { first = s.first; last = s.last }))

found_up : (r after : Course) (n : ℕ) (least : Option TransId) → Occurs r (at n (finds least)) after → AreUp r → AreUp after
found_up r after n least a up =
    all_up r after n 0 (λ s es w. Happens s.tells s.stand (finds least) es w) a
    (let same : a.stand ≡ (seat_at r n).stand = a.made.1.1 in record { up = ap (λ (w : Stand). w.is_down) same ∙ (up n a.here).up; free = ap (λ (w : Stand). w.is_fused) same ∙ (up n a.here).free }) up

at_calm : (r after : Course) (n : ℕ) (h : Happening) → IsCalm (at n h) → Occurs r (at n h) after → AreUp r → AreUp after
at_calm r after n (timed_out t) calm a up = comes_up r after n 0 (event.Timeout t) (record { here = a.here; entries = a.entries; stand = a.stand; made = a.made; seats = a.seats; posts = a.posts }) up
at_calm r after n ticked calm a up = comes_up r after n 0 event.Tick (record { here = a.here; entries = a.entries; stand = a.stand; made = a.made; seats = a.seats; posts = a.posts }) up
at_calm r after n (finds least) calm a up = found_up r after n least a up
at_calm r after n h calm a up = absurd calm

occurs_up : (r after : Course) (x : Occurrence) → IsCalm x → Occurs r x after → AreUp r → AreUp after
occurs_up r after (at n h) calm a up = at_calm r after n h calm a up
occurs_up r after (looks from to waits) calm a up = subst AreUp (sym a.2) up
occurs_up r after (brings from to) calm a up = brought_up r after from to (next_message r from to) a.1 up
occurs_up r after (loses from to) calm a up = absurd calm
occurs_up r after (repeats from to) calm a up = absurd calm
occurs_up r after (comes from to m seen) calm a up = absurd calm
occurs_up r after (rests is_rest) calm a up = subst AreUp (sym a.1) up

pub course_up : (r after : Course) (xs : List Occurrence) → AllByRecursion IsCalm xs → AreCourse r xs after → AreUp r → AreUp after
course_up r after [] calm h up = subst AreUp (sym h) up
course_up r after (x ∷ xs) calm h up = course_up h.0 after xs calm.1 h.2 (occurs_up r h.0 x calm.0 h.1 up)

-- ---- words of calm

calm_append : (xs ys : List Occurrence) → AllByRecursion IsCalm xs → AllByRecursion IsCalm ys → AllByRecursion IsCalm (xs ++ ys)
calm_append [] ys h k = k
calm_append (x ∷ xs) ys h k = (h.0, calm_append xs ys h.1 k)

abbrev Calm : Language → Type 0
Calm A = (xs : List Occurrence) → A xs → AllByRecursion IsCalm xs

calm_none : (xs : List Occurrence) → xs ≡ [] → AllByRecursion IsCalm xs
calm_none xs none = subst (AllByRecursion IsCalm) (sym none) tt

calm_then : (A B : Language) → Calm A → Calm B → Calm (Then A B)
calm_then A B first second xs h = subst (AllByRecursion IsCalm) (sym h.are) (calm_append h.front h.back (first h.front h.first) (second h.back h.second))

calm_each : (A : ℕ → Language) → ((n : ℕ) → Calm (A n)) → (n : ℕ) → Calm (Each A n)
calm_each A calm zero xs h = calm_none xs h
calm_each A calm (suc n) xs h = calm_then (Each A n) (A (suc n)) (calm_each A calm n) (calm (suc n)) xs h

calm_pair : (from to : ℕ) → Calm (ArePairCarried from to)
calm_pair from to xs none_waits = (tt, tt)
calm_pair from to xs (one_waits zs word) = (tt, (tt, calm_pair from to zs word))

calm_to : (from to : ℕ) → Calm (CarriesTo from to)
calm_to from to = go (from == to)
  where
    go : (b : Bool) → Calm (OfOthers b (ArePairCarried from to))
    go true = λ xs h. calm_none xs h
    go false = calm_pair from to

calm_sweep : (servers : ℕ) → Calm (IsSweep servers)
calm_sweep servers = calm_each (CarriesFrom servers) (λ from. calm_each (CarriesTo from) (calm_to from) servers) servers

pub calm_carried : (servers : ℕ) (xs : List Occurrence) → IsCarried servers xs → AllByRecursion IsCalm xs
calm_carried servers xs (last_sweep ys word quiet) = calm_sweep servers ys word
calm_carried servers xs (one_more ys zs word some rest) = calm_append ys zs (calm_sweep servers ys word) (calm_carried servers zs rest)

pub calm_timed : (n : ℕ) (xs : List Occurrence) → AreTimedOut n xs → AllByRecursion IsCalm xs
calm_timed n xs none_open = (tt, tt)
calm_timed n xs (one_open t zs word) = (tt, (tt, calm_timed n zs word))

pub calm_timed_all : (servers : ℕ) (xs : List Occurrence) → Each AreTimedOut servers xs → AllByRecursion IsCalm xs
calm_timed_all servers = calm_each AreTimedOut calm_timed servers

calm_ticked : (n : ℕ) → Calm (IsTicked n)
calm_ticked n xs h = subst (AllByRecursion IsCalm) (sym h) (tt, tt)

calm_round : (servers : ℕ) → Calm (IsRound servers)
calm_round servers = calm_then (Each IsTicked servers) (IsCarried servers) (calm_each IsTicked calm_ticked servers) (calm_carried servers)

calm_further : (A : Language) → Calm A → (b : Bool) → Calm (Further b A)
calm_further A calm true ys is = subst (AllByRecursion IsCalm) (sym is) (tt, tt)
calm_further A calm false ys t = calm_then (Just (rests false ∷ [])) A (λ zs is. subst (AllByRecursion IsCalm) (sym is) (tt, tt)) calm ys t

calm_rounds : (servers most : ℕ) → Calm (AreRounds servers most)
calm_rounds servers zero xs h = calm_none xs h
calm_rounds servers (suc k) xs (is_rest, h) = calm_then (IsRound servers) (Further is_rest (AreRounds servers k)) (calm_round servers) (calm_further (AreRounds servers k) (calm_rounds servers k) is_rest) xs h

pub calm_rounds_all : (servers most : ℕ) (xs : List Occurrence) → AreRounds servers most xs → AllByRecursion IsCalm xs
calm_rounds_all servers most = calm_rounds servers most

-- ---- lifting

-- the servers up to this one are up
abbrev AreUpTo : ℕ → Course → Type 0
AreUpTo i r = (n : ℕ) → IsSeat r n → n ≤ i → IsUpIn (seat_at r n)

-- something happens at a server: those up to this one are up where it is, if it is one of them
up_to : (r after : Course) (n i : ℕ) (Makes : Seat → List Entry → Stand → Type 0) (a : IsAt r n 0 Makes after) → (n ≤ i → IsUpIn (here_now r after n 0 Makes a)) → ((m : ℕ) → IsSeat r m → m ≤ i → m ≢ n → IsUpIn (seat_at r m)) → AreUpTo i after
up_to r after n i Makes a mine before m s low =
    each_seat r after n (here_now r after n 0 Makes a) a.here a.seats (λ k t. k ≤ length r.seats → k ≤ i → IsUpIn t) (λ last most. mine most) (λ k some away last most. before k (record { first = some; last = last }) most away) m s.first
    (still_one r after n 0 Makes a m s) low

-- the next server is lifted
lifted_step : (r after : Course) (i : ℕ) (b : Bool) → Occurs r (at (suc i) (lifts b)) after → AreUpTo i r → (b ≡ false → AreUpTo (suc i) after) × AreUpTo i after
lifted_step r after i b a before = (
  (λ up. up_to r after (suc i) (suc i) Makes a (λ low. mine up) (λ m s low away. before m s (omega (arith, low, away)))),
  up_to r after (suc i) i Makes a (λ low. absurd (omega (arith, low))) (λ m s low away. before m s low),
)
  where
    Makes : Seat → List Entry → Stand → Type 0
    Makes s es w = Happens s.tells s.stand (lifts b) es w

    mine : b ≡ false → IsUpIn (here_now r after (suc i) 0 Makes a)
    mine up = record { up = ap (λ (w : Stand). w.is_down) a.made.2 ∙ sym a.made.0 ∙ up; free = ap (λ (w : Stand). w.is_fused) a.made.2 }

-- and starts again, where it was down
again_step : (r after : Course) (i : ℕ) → Occurs r (at (suc i) (restarted 0)) after → AreUpTo i r → AreUpTo (suc i) after
again_step r after i a before = up_to r after (suc i) (suc i) Makes a (λ low. mine) (λ m s low away. before m s (omega (arith, low, away)))
  where
    Makes : Seat → List Entry → Stand → Type 0
    Makes s es w = Happens s.tells s.stand (restarted 0) es w

    mine : IsUpIn (here_now r after (suc i) 0 Makes a)
    mine = record { up = ap (λ (w : Stand). w.is_down) a.made.behind; free = ap (λ (w : Stand). w.is_fused) a.made.behind }

lifting_on : (r after : Course) (i : ℕ) (b : Bool) → AreCourse r (lifting (suc i) b) after → AreUpTo i r → AreUpTo (suc i) after
lifting_on r after i true h before =
    let (mid, lift, then_on) = h in
    let (next, start, same) = then_on in
    subst (AreUpTo (suc i)) (sym same) (again_step mid next i start (lifted_step r mid i true lift before).1)
lifting_on r after i false h before = (let (mid, lift, same) = h in subst (AreUpTo (suc i)) (sym same) ((lifted_step r mid i false lift before).0 refl))

lifted_on : (r after : Course) (n : ℕ) (xs : List Occurrence) → Each IsLifted n xs → AreCourse r xs after → AreUpTo n after
lifted_on r after zero xs h course = λ m s low. absurd (let some : 1 ≤ m = s.first in omega (arith, low, some))
lifted_on r after (suc n) xs h course =
    let via : IsVia r h.front h.back after = course_split r after h.front h.back (subst (λ (ys : List Occurrence). AreCourse r ys after) h.are course) in
    lifting_on via.mid after n h.second.0 (subst (λ (ys : List Occurrence). AreCourse via.mid ys after) h.second.1 via.second) (lifted_on r via.mid n h.front h.first via.first)

-- there are as many servers as before
many_at : (r after : Course) (x : Occurrence) → Occurs r x after → length after.seats ≡ length r.seats
many_at r after (at n h) a = as_many r after n (seat_after (seat_at r n) 0 a.entries a.stand) a.here a.seats
many_at r after (looks from to waits) a = ap (λ (c : Course). length c.seats) a.2
many_at r after (brings from to) a = go (next_message r from to) a.1
  where
    go : (o : Option Message) → IsBrought r from to o after → length after.seats ≡ length r.seats
    go None h = ap (λ (c : Course). length c.seats) h
    go (Some m) h = as_many (taking r from to m) after to _ h.here h.seats
many_at r after (loses from to) a = go (next_message r from to) a.1
  where
    go : (o : Option Message) → IsLost r from to o after → length after.seats ≡ length r.seats
    go None h = ap (λ (c : Course). length c.seats) h
    go (Some m) h = ap (λ (c : Course). length c.seats) h
many_at r after (repeats from to) a = go (post_at r.posts from to).last a.1
  where
    go : (o : Option (Message × ℕ)) → IsRepeated r from to o after → length after.seats ≡ length r.seats
    go None h = ap (λ (c : Course). length c.seats) h
    go (Some m) h = as_many r after to _ h.here h.seats
many_at r after (comes from to m seen) a = as_many r after to _ a.2.here a.2.seats
many_at r after (rests is_rest) a = ap (λ (c : Course). length c.seats) a.1

pub many_on : (r after : Course) (xs : List Occurrence) → AreCourse r xs after → length after.seats ≡ length r.seats
many_on r after [] h = ap (λ (c : Course). length c.seats) h
many_on r after (x ∷ xs) h = many_on h.0 after xs h.2 ∙ many_at r h.0 x h.1

pub lifted_up : (r after : Course) (xs : List Occurrence) → Each IsLifted (length r.seats) xs → AreCourse r xs after → AreUp after
lifted_up r after xs h course n s = (let many : length after.seats ≡ length r.seats = many_on r after xs course in let last : n ≤ length after.seats = s.last in lifted_on r after (length r.seats) xs h course n s (omega (arith, many, last)))

pub lifting_up : Lifting
lifting_up r after xs h course =
    let one : IsVia r h.front h.back after = course_split r after h.front h.back (subst (λ (ys : List Occurrence). AreCourse r ys after) h.are course) in
    let two : IsVia one.mid h.second.front h.second.back after = course_split one.mid after h.second.front h.second.back (subst (λ (ys : List Occurrence). AreCourse one.mid ys after) h.second.are one.second) in
    course_up two.mid after h.second.back (calm_rounds (length r.seats) 8 h.second.back h.second.second) two.second
    (course_up one.mid two.mid h.second.front (calm_timed_all (length r.seats) h.second.front h.second.first) two.first (lifted_up r one.mid h.front h.first one.first))
