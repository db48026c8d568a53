-- along the course of a run: what a client sends has its entry at its server, and each call in a journal was sent
use Rattle.std.specs.Prelude.{◌==◌, Bool, true, false, cond, slice_get, slice_set, Option, None, Some}
use Rattle.std.specs.List.{AllByRecursion}
use Rattle.std.proofs.Common.{inl, inr, ◌⊎◌, ◌≡◌, ℕ, zero, suc, ◌+◌, ◌-◌, ◌≤◌, List, [], ◌∷◌, ◌++◌, length, length-append, get_or, refl, sym, ◌∙◌, ap, subst, arith, eq-eqb, append_assoc, append-nil}
use Rattle.std.proofs.lemmas.Bool.{ne_eqb}
use Rattle.alp_files.specs.declared.call.Call.{Call}
use Rattle.alp_journal.specs.declared.entry.Entry.{Entry}
use Rattle.alp_journal.specs.declared.event.Event.{Event}
use Rattle.alp_journal.specs.declared.event.Event.TheVariants as event
use Rattle.alp_journal.specs.declared.log.Item.{Item}
use Rattle.alp_journal.specs.declared.log.Sent.{Sent}
use Rattle.alp_journal.specs.declared.log.Sent.TheVariants as sent
use Rattle.alp_journal.specs.declared.message.Message.{Message}
use Rattle.alp_history.specs.Handed.{IsOfNone}
use Rattle.alp_history.specs.Log.{IsIn}
use Rattle.alp_history.proofs.Linked.{in-left, in-right}
use Rattle.alp_course.specs.Happens.{Happening, sent_it, timed_out, ticked, forced, stop_set, restarted, lifts, finds, Stand, IsNone, ComesTo, Takes, Happens}
use Rattle.alp_course.specs.Courses.{Course, Seat, first_seat, no_seat, seat_at, seat_after, last_rank, IsSeat, IsAt, Occurrence, at, looks, brings, loses, repeats, comes, rests, next_message, taking, Arrives, IsBrought, IsLost, IsRepeated, Occurs, AreCourse}
use Rattle.alp_course.specs.Links.{AreIdle, IsFirst}
use Rattle.alp_course.specs.Plays.{sent_of}
use Rattle.alp_course.proofs.LinkLemmas.{all_at}
use Rattle.alp_course.proofs.PlayLemmas.{sent_append}
use Rattle.alp_course.proofs.SeatLemmas.{as_many, each_seat, seat_number}

-- ---- lists

pub get_left : (xs ys : List Entry) (i : ℕ) (e : Entry) → slice_get xs i ≡ Some e → slice_get (xs ++ ys) i ≡ Some e
get_left [] ys i e is = cc
get_left (x ∷ xs) ys zero e is = is
get_left (x ∷ xs) ys (suc i) e is = get_left xs ys i e is

get_right : (xs ys : List Entry) (i : ℕ) (e : Entry) → slice_get ys i ≡ Some e → slice_get (xs ++ ys) (length xs + i) ≡ Some e
get_right [] ys i e is = ap (λ (n : ℕ). slice_get ys n) (let same : length {A = Entry} [] + i ≡ i = omega arith in same) ∙ is
get_right (x ∷ xs) ys i e is = ap (λ (n : ℕ). slice_get (x ∷ (xs ++ ys)) n) (let same : length (x ∷ xs) + i ≡ suc (length xs + i) = omega arith in same) ∙ get_right xs ys i e is

-- what stands at a place of two lists stands in one of them
record IsBehind (xs ys : List Entry) (i : ℕ) (e : Entry) : Type 0 where
  at_place : ℕ
  place : i ≡ length xs + at_place
  stands : slice_get ys at_place ≡ Some e

get_either : (xs ys : List Entry) (i : ℕ) (e : Entry) → slice_get (xs ++ ys) i ≡ Some e → (slice_get xs i ≡ Some e) ⊎ IsBehind xs ys i e
get_either [] ys i e is = inr (record { at_place = i; place = omega arith; stands = is })
get_either (x ∷ xs) ys zero e is = inl is
get_either (x ∷ xs) ys (suc i) e is = elim (get_either xs ys i e is) [
  | inl h ↦ inl h
  | inr h ↦ inr (let same : i ≡ length xs + h.at_place = h.place in record { at_place = h.at_place; place = omega (arith, same); stands = h.stands })
]

-- none of these is
no_entry : (es : List Entry) (i : ℕ) (e : Entry) → es ≡ [] → slice_get es i ≡ Some e → ⊥
no_entry es i e none is = (let wrong : slice_get [] i ≡ Some e = ap (λ (js : List Entry). slice_get js i) (sym none) ∙ is in apart i e wrong)
  where
    apart : (i : ℕ) (e : Entry) → slice_get [] i ≡ Some e → ⊥
    apart i e wrong = cc

-- the only one is this
only_entry : (es : List Entry) (i : ℕ) (e f : Entry) → es ≡ f ∷ [] → slice_get es i ≡ Some e → i ≡ 0
only_entry es i e f one is = go i (ap (λ (js : List Entry). slice_get js i) (sym one) ∙ is)
  where
    go : (i : ℕ) → slice_get (f ∷ []) i ≡ Some e → i ≡ 0
    go zero is = refl
    go (suc i) is = absurd (no_entry [] i e refl is)

-- what stands in a concatenation stands in one of the two
pub in_either : {A : Type 0} (x : A) (xs ys : List A) → IsIn x (xs ++ ys) → IsIn x xs ⊎ IsIn x ys
in_either x [] ys i = inr i
in_either x (y ∷ xs) ys (inl is) = inl (inl is)
in_either x (y ∷ xs) ys (inr i) = elim (in_either x xs ys i) [ inl a ↦ inl (inr a) | inr b ↦ inr b ]

-- ---- items and their entries

-- an item without an entry
pub record IsAside (x : Item) : Type 0 where
  pub place : x.place ≡ None
  pub none : IsOfNone x.reply

-- and one with its entry among these, which begin at this place
pub record IsEntered (from : ℕ) (x : Item) (es : List Entry) : Type 0 where
  pub at_place : ℕ
  pub entry : Entry
  pub client : ℕ
  pub epoch : ℕ
  pub number : ℕ
  pub asked : Call
  pub stands : slice_get es at_place ≡ Some entry
  pub place : x.place ≡ Some (from + at_place)
  pub sent_is : x.sent ≡ sent.Call client epoch number asked
  pub event_is : entry.event ≡ event.Call client epoch number asked
  pub reply_is : entry.reply ≡ x.reply

-- among more entries
entered_front : (from : ℕ) (x : Item) (own others : List Entry) → IsEntered from x own → IsEntered from x (own ++ others)
entered_front from x own others h = record {
  at_place = h.at_place;
  entry = h.entry;
  client = h.client;
  epoch = h.epoch;
  number = h.number;
  asked = h.asked;
  stands = get_left own others h.at_place h.entry h.stands;
  place = h.place;
  sent_is = h.sent_is;
  event_is = h.event_is;
  reply_is = h.reply_is;
}

entered_back : (from mid : ℕ) (x : Item) (own others : List Entry) → mid ≡ from + length own → IsEntered mid x others → IsEntered from x (own ++ others)
entered_back from mid x own others is h = record {
  at_place = length own + h.at_place;
  entry = h.entry;
  client = h.client;
  epoch = h.epoch;
  number = h.number;
  asked = h.asked;
  stands = get_right own others h.at_place h.entry h.stands;
  place = h.place ∙ ap Some (let same : mid + h.at_place ≡ from + (length own + h.at_place) = omega (arith, is) in same);
  sent_is = h.sent_is;
  event_is = h.event_is;
  reply_is = h.reply_is;
}

-- the entry is of a call
abbrev pub IsCall : Entry → Type 0
IsCall e = (client : ℕ) × (epoch : ℕ) × (number : ℕ) × (c : Call) × (e.event ≡ event.Call client epoch number c)

-- an entry of a call at that server has its item among what was sent
pub record IsSent (n i : ℕ) (xs : List (ℕ × Item)) : Type 0 where
  pub item : ℕ × Item
  pub among : IsIn item xs
  pub server : item.1.server ≡ n
  pub place : item.1.place ≡ Some i

-- ---- places

-- the place that an item has at this server
abbrev pub place_here : ℕ → Item → Option ℕ
place_here n x = cond (x.server == n) x.place None

-- it is not before this one; and the next one
abbrev pub IsFrom : ℕ → Option ℕ → Type 0
IsFrom from None = Unit {0}
IsFrom from (Some p) = from ≤ p

abbrev pub behind : ℕ → Option ℕ → ℕ
behind from None = from
behind from (Some p) = p + 1

-- the places at this server rise from this one on, and are below that one
abbrev pub AreSentRising : (n from to : ℕ) → List (ℕ × Item) → Type 0
AreSentRising n from to [] = from ≤ to
AreSentRising n from to (x ∷ xs) = IsFrom from (place_here n x.1) × AreSentRising n (behind from (place_here n x.1)) to xs

lower_sent : (n a b to : ℕ) (xs : List (ℕ × Item)) → a ≤ b → AreSentRising n b to xs → AreSentRising n a to xs
lower_sent n a b to [] le h = (let high : b ≤ to = h in omega (arith, le, high))
lower_sent n a b to (x ∷ xs) le h = go (lower_sent n a b to xs le) (place_here n x.1) h.0 h.1
  where
    go : (AreSentRising n b to xs → AreSentRising n a to xs) → (o : Option ℕ) → IsFrom b o → AreSentRising n (behind b o) to xs → IsFrom a o × AreSentRising n (behind a o) to xs
    go more None from rest = (tt, more rest)
    go more (Some p) from rest = ((let high : b ≤ p = from in omega (arith, le, high)), rest)

rising_append : (n a b c : ℕ) (xs ys : List (ℕ × Item)) → AreSentRising n a b xs → AreSentRising n b c ys → AreSentRising n a c (xs ++ ys)
rising_append n a b c [] ys h k = lower_sent n a b c ys h k
rising_append n a b c (x ∷ xs) ys h k = (h.0, rising_append n (behind a (place_here n x.1)) b c xs ys h.1 k)

-- what is sent to others has no place here
away_rising : (n a : ℕ) (xs : List (ℕ × Item)) → ((y : ℕ × Item) → IsIn y xs → y.1.server ≡ n → ⊥) → AreSentRising n a a xs
away_rising n a [] f = omega arith
away_rising n a (y ∷ xs) f =
    subst (λ (b : Bool). IsFrom a (cond b y.1.place None) × AreSentRising n (behind a (cond b y.1.place None)) a xs) (sym (ne_eqb y.1.server n (f y (inl refl)))) (tt, away_rising n a xs (λ z i. f z (inr i)))

-- ---- what one server did

-- between two seats it made these entries; all that was sent to it meanwhile has its place there, and each call among them was sent
record DidHere (n : ℕ) (s t : Seat) (xs : List (ℕ × Item)) : Type 0 where
  entries : List Entry
  journal : t.journal ≡ s.journal ++ entries
  place : t.stand.place ≡ s.stand.place + length entries
  server : t.stand.server ≡ s.stand.server
  entered : (y : ℕ × Item) → IsIn y xs → y.1.server ≡ n → IsAside y.1 ⊎ IsEntered s.stand.place y.1 entries
  found : (i : ℕ) (e : Entry) → slice_get entries i ≡ Some e → IsCall e → IsSent n (s.stand.place + i) xs
  rising : AreSentRising n s.stand.place t.stand.place xs

-- nothing, where it was sent nothing
did_nothing : (n : ℕ) (s : Seat) (xs : List (ℕ × Item)) → ((y : ℕ × Item) → IsIn y xs → y.1.server ≡ n → ⊥) → DidHere n s s xs
did_nothing n s xs away = record {
  entries = [];
  journal = sym (append-nil s.journal);
  place = (let same : s.stand.place ≡ s.stand.place + length {A = Entry} [] = omega arith in same);
  server = refl;
  entered = λ y i is. absurd (away y i is);
  found = λ i e is called. absurd (no_entry [] i e refl is);
  rising = away_rising n s.stand.place xs away;
}

-- one after the other
did_then : (n : ℕ) (s t u : Seat) (xs ys : List (ℕ × Item)) → DidHere n s t xs → DidHere n t u ys → DidHere n s u (xs ++ ys)
did_then n s t u xs ys a b = record {
  entries = a.entries ++ b.entries;
  journal = b.journal ∙ ap (λ (es : List Entry). es ++ b.entries) a.journal ∙ append_assoc s.journal a.entries b.entries;
  place =
      (let one : t.stand.place ≡ s.stand.place + length a.entries = a.place in
      let two : u.stand.place ≡ t.stand.place + length b.entries = b.place in
      let all : length (a.entries ++ b.entries) ≡ length a.entries + length b.entries = length-append a.entries b.entries in
      omega (arith, one, two, all));
  server = b.server ∙ a.server;
  entered = λ y i is. elim (in_either y xs ys i) [
    | inl first ↦ elim (a.entered y first is) [ inl aside ↦ inl aside | inr at_it ↦ inr (entered_front s.stand.place y.1 a.entries b.entries at_it) ]
    | inr second ↦ elim (b.entered y second is) [ inl aside ↦ inl aside | inr at_it ↦ inr (entered_back s.stand.place t.stand.place y.1 a.entries b.entries a.place at_it) ]
  ];
  found = λ i e is called. elim (get_either a.entries b.entries i e is) [
    | inl first ↦ front (s.stand.place + i) (a.found i e first called)
    | inr second ↦
        let one : t.stand.place ≡ s.stand.place + length a.entries = a.place in
        let two : i ≡ length a.entries + second.at_place = second.place in
        back (s.stand.place + i) (subst (λ (k : ℕ). IsSent n k ys) (let same : t.stand.place + second.at_place ≡ s.stand.place + i = omega (arith, one, two) in same) (b.found second.at_place e second.stands called))
  ];
  rising = rising_append n s.stand.place t.stand.place u.stand.place xs ys a.rising b.rising;
}
  where
    front : (k : ℕ) → IsSent n k xs → IsSent n k (xs ++ ys)
    front k h = record { item = h.item; among = in-left h.item xs ys h.among; server = h.server; place = h.place }

    back : (k : ℕ) → IsSent n k ys → IsSent n k (xs ++ ys)
    back k h = record { item = h.item; among = in-right h.item xs ys h.among; server = h.server; place = h.place }

-- ---- an event that is no call

abbrev IsNoCall : Event → Type 0
IsNoCall (event.Call client epoch number c) = ⊥
IsNoCall x = Unit {0}

record IsQuiet (w : Stand) (es : List Entry) (v : Stand) : Type 0 where
  calls : AllByRecursion (λ (e : Entry). IsNoCall e.event) es
  place : v.place ≡ w.place + length es
  server : v.server ≡ w.server

-- no entry comes of it
quiet_none : (w : Stand) (es : List Entry) (v : Stand) → es ≡ [] → v.place ≡ w.place → v.server ≡ w.server → IsQuiet w es v
quiet_none w es v none place server = record {
  calls = subst (AllByRecursion (λ (e : Entry). IsNoCall e.event)) (sym none) tt;
  place = (let long : length es ≡ 0 = ap (λ (js : List Entry). length js) none in omega (arith, long, place));
  server = server;
}

-- or one
quiet_one : (w : Stand) (e : Entry) (es : List Entry) (v : Stand) → es ≡ e ∷ [] → IsNoCall e.event → v.place ≡ w.place + 1 → v.server ≡ w.server → IsQuiet w es v
quiet_one w e es v one other place server = record {
  calls = subst (AllByRecursion (λ (f : Entry). IsNoCall f.event)) (sym one) (other, tt);
  place = (let long : length es ≡ 1 = ap (λ (js : List Entry). length js) one in omega (arith, long, place));
  server = server;
}

quiet_comes : (w : Stand) (b : Bool) (x : Event) (es : List Entry) (v : Stand) → IsNoCall x → ComesTo w b x es v → IsQuiet w es v
quiet_comes w true x es v other h = quiet_none w es v h.0 (ap (λ (z : Stand). z.place) h.1) (ap (λ (z : Stand). z.server) h.1)
quiet_comes w false x es v other h = quiet_one w h.entry es v h.one (subst IsNoCall (sym h.event) other) (ap (λ (z : Stand). z.place) h.behind) (ap (λ (z : Stand). z.server) h.behind)

did_quiet : (n seen : ℕ) (s : Seat) (es : List Entry) (v : Stand) → IsQuiet s.stand es v → DidHere n s (seat_after s seen es v) []
did_quiet n seen s es v q = record {
  entries = es;
  journal = refl;
  place = q.place;
  server = q.server;
  entered = λ y i is. absurd i;
  found = λ i e is called. absurd (subst IsNoCall called.4 (all_at (λ (f : Entry). IsNoCall f.event) es i e q.calls is));
  rising = (let place : v.place ≡ s.stand.place + length es = q.place in omega (arith, place));
}

-- ---- what a client sends

takes_server : (w : Stand) (k : ℕ) (x : Item) (b : Bool) (s : Sent) (es : List Entry) (v : Stand) → Takes w k x b s es v → v.server ≡ w.server
takes_server w k x b (sent.Bytes bytes) es v h = ap (λ (z : Stand). z.server) h.none.1
takes_server w k x true (sent.Call client epoch number c) es v h = ap (λ (z : Stand). z.server) h.none.1
takes_server w k x false (sent.Call client epoch number c) es v h = ap (λ (z : Stand). z.server) h.made.behind

none_place : (w : Stand) (es : List Entry) (v : Stand) → IsNone w es v → v.place ≡ w.place + length es
none_place w es v h = (let long : length es ≡ 0 = ap (λ (js : List Entry). length js) h.0 in let same : v.place ≡ w.place = ap (λ (z : Stand). z.place) h.1 in omega (arith, long, same))

takes_place : (w : Stand) (k : ℕ) (x : Item) (b : Bool) (s : Sent) (es : List Entry) (v : Stand) → Takes w k x b s es v → v.place ≡ w.place + length es
takes_place w k x b (sent.Bytes bytes) es v h = none_place w es v h.none
takes_place w k x true (sent.Call client epoch number c) es v h = none_place w es v h.none
takes_place w k x false (sent.Call client epoch number c) es v h = (let long : length es ≡ 1 = ap (λ (js : List Entry). length js) h.made.one in let more : v.place ≡ w.place + 1 = ap (λ (z : Stand). z.place) h.made.behind in omega (arith, long, more))

taken_entered : (w : Stand) (k : ℕ) (x : Item) (b : Bool) (s : Sent) (es : List Entry) (v : Stand) → x.sent ≡ s → Takes w k x b s es v → IsAside x ⊎ IsEntered w.place x es
taken_entered w k x b (sent.Bytes bytes) es v is h = inl (record { place = h.place; none = inl h.reply })
taken_entered w k x true (sent.Call client epoch number c) es v is h = inl (record { place = h.place; none = inr h.reply })
taken_entered w k x false (sent.Call client epoch number c) es v is h = inr (record {
  at_place = 0;
  entry = h.made.entry;
  client = client;
  epoch = epoch;
  number = number;
  asked = c;
  stands = ap (λ (js : List Entry). slice_get js 0) h.made.one;
  place = h.place ∙ ap Some (let same : w.place ≡ w.place + 0 = omega arith in same);
  sent_is = is;
  event_is = h.made.event;
  reply_is = h.reply;
})

taken_found : (w : Stand) (k : ℕ) (x : Item) (b : Bool) (s : Sent) (es : List Entry) (v : Stand) (i : ℕ) (e : Entry) → Takes w k x b s es v → slice_get es i ≡ Some e → x.place ≡ Some (w.place + i)
taken_found w k x b (sent.Bytes bytes) es v i e h is = absurd (no_entry es i e h.none.0 is)
taken_found w k x true (sent.Call client epoch number c) es v i e h is = absurd (no_entry es i e h.none.0 is)
taken_found w k x false (sent.Call client epoch number c) es v i e h is = (let zero_is : i ≡ 0 = only_entry es i e h.made.entry h.made.one is in h.place ∙ ap Some (let same : w.place ≡ w.place + i = omega (arith, zero_is) in same))

-- it has its place where the server stands, or none
aside_from : (w : Stand) (x : Item) (es : List Entry) (v : Stand) → x.place ≡ None → IsNone w es v → IsFrom w.place x.place × (behind w.place x.place ≤ v.place)
aside_from w x es v is none = subst (λ (o : Option ℕ). IsFrom w.place o × (behind w.place o ≤ v.place)) (sym is) (tt, (let same : v.place ≡ w.place = ap (λ (z : Stand). z.place) none.1 in omega (arith, same)))

taken_from : (w : Stand) (k : ℕ) (x : Item) (b : Bool) (s : Sent) (es : List Entry) (v : Stand) → Takes w k x b s es v → IsFrom w.place x.place × (behind w.place x.place ≤ v.place)
taken_from w k x b (sent.Bytes bytes) es v h = aside_from w x es v h.place h.none
taken_from w k x true (sent.Call client epoch number c) es v h = aside_from w x es v h.place h.none
taken_from w k x false (sent.Call client epoch number c) es v h =
    subst (λ (o : Option ℕ). IsFrom w.place o × (behind w.place o ≤ v.place)) (sym h.place) (omega arith, (let more : v.place ≡ w.place + 1 = ap (λ (z : Stand). z.place) h.made.behind in omega (arith, more)))

did_take : (n : ℕ) (s : Seat) (k : ℕ) (x : Item) (es : List Entry) (v : Stand) → x.server ≡ n → Takes s.stand k x s.stand.is_down x.sent es v → DidHere n s (seat_after s 0 es v) ((k, x) ∷ [])
did_take n s k x es v here h = record {
  entries = es;
  journal = refl;
  place = takes_place s.stand k x s.stand.is_down x.sent es v h;
  server = takes_server s.stand k x s.stand.is_down x.sent es v h;
  entered = λ y i is. elim i [
    | inl same ↦ subst (λ (z : ℕ × Item). IsAside z.1 ⊎ IsEntered s.stand.place z.1 es) (sym same) (taken_entered s.stand k x s.stand.is_down x.sent es v refl h)
    | inr none ↦ absurd none
  ];
  found = λ i e is called. record { item = (k, x); among = inl refl; server = here; place = taken_found s.stand k x s.stand.is_down x.sent es v i e h is };
  rising = subst (λ (b : Bool). IsFrom s.stand.place (cond b x.place None) × (behind s.stand.place (cond b x.place None) ≤ v.place)) (sym (eq-eqb x.server n here)) (taken_from s.stand k x s.stand.is_down x.sent es v h);
}

-- ---- what all of them did

-- each server did so, and all that was sent was sent to servers of the run
record HasDone (r after : Course) (xs : List (ℕ × Item)) : Type 0 where
  many : length after.seats ≡ length r.seats
  each : (n : ℕ) → 1 ≤ n → DidHere n (seat_at r n) (seat_at after n) xs
  servers : (y : ℕ × Item) → IsIn y xs → IsSeat r y.1.server

-- one of them did something
one_done : (r after : Course) (n : ℕ) (s : Seat) (xs : List (ℕ × Item)) → IsSeat r n → after.seats ≡ slice_set r.seats (n - 1) s → DidHere n (seat_at r n) s xs → ((y : ℕ × Item) → IsIn y xs → y.1.server ≡ n) → HasDone r after xs
one_done r after n s xs here seats did own = record {
  many = as_many r after n s here seats;
  each = each_seat r after n s here seats (λ m t. DidHere m (seat_at r m) t xs) did (λ m some away. did_nothing m (seat_at r m) xs (λ y i is. away (sym is ∙ own y i)));
  servers = λ y i. subst (IsSeat r) (sym (own y i)) here;
}

-- by an event that is no call
quiet_done : (r after : Course) (n seen : ℕ) (es : List Entry) (v : Stand) → IsSeat r n → after.seats ≡ slice_set r.seats (n - 1) (seat_after (seat_at r n) seen es v) → IsQuiet (seat_at r n).stand es v → HasDone r after []
quiet_done r after n seen es v here seats q = one_done r after n (seat_after (seat_at r n) seen es v) [] here seats (did_quiet n seen (seat_at r n) es v q) (λ y i. absurd i)

none_done : (r after : Course) → after.seats ≡ r.seats → HasDone r after []
none_done r after same = record {
  many = ap (λ (ss : List Seat). length ss) same;
  each = λ n some. subst (λ (s : Seat). DidHere n (seat_at r n) s []) (ap (λ (ss : List Seat). get_or ss (n - 1) no_seat) (sym same)) (did_nothing n (seat_at r n) [] (λ y i is. i));
  servers = λ y i. absurd i;
}

done_then : (r mid after : Course) (xs ys : List (ℕ × Item)) → HasDone r mid xs → HasDone mid after ys → HasDone r after (xs ++ ys)
done_then r mid after xs ys a b = record {
  many = b.many ∙ a.many;
  each = λ n some. did_then n (seat_at r n) (seat_at mid n) (seat_at after n) xs ys (a.each n some) (b.each n some);
  servers = λ y i. elim (in_either y xs ys i) [ inl first ↦ a.servers y first | inr second ↦ earlier y.1.server (b.servers y second) ];
}
  where
    earlier : (n : ℕ) → IsSeat mid n → IsSeat r n
    earlier n s = record { first = s.first; last = (let all : length mid.seats ≡ length r.seats = a.many in let most : n ≤ length mid.seats = s.last in omega (arith, all, most)) }

-- ---- all that occurs

-- each server has its own number
abbrev AreOwn : Course → Type 0
AreOwn r = (n : ℕ) → IsSeat r n → (seat_at r n).stand.server ≡ n

own_after : (r after : Course) (xs : List (ℕ × Item)) → AreOwn r → HasDone r after xs → AreOwn after
own_after r after xs own h n s = (h.each n s.first).server ∙ own n (record { first = s.first; last = (let all : length after.seats ≡ length r.seats = h.many in let most : n ≤ length after.seats = s.last in omega (arith, all, most)) })

happens_done : (r after : Course) (n : ℕ) (x : Happening) → AreOwn r → IsAt r n 0 (λ s es w. Happens s.tells s.stand x es w) after → HasDone r after (sent_of (at n x ∷ []))
happens_done r after n (sent_it k x) own a =
    let here : x.server ≡ n = a.made.0 ∙ own n a.here in
    one_done r after n (seat_after (seat_at r n) 0 a.entries a.stand) ((k, x) ∷ []) a.here a.seats (did_take n (seat_at r n) k x a.entries a.stand here a.made.1)
    (λ y i. elim i [ inl same ↦ ap (λ (z : ℕ × Item). z.1.server) same ∙ here | inr none ↦ absurd none ])
happens_done r after n (timed_out t) own a = quiet_done r after n 0 a.entries a.stand a.here a.seats (quiet_comes (seat_at r n).stand (seat_at r n).stand.is_down (event.Timeout t) a.entries a.stand tt a.made)
happens_done r after n ticked own a = quiet_done r after n 0 a.entries a.stand a.here a.seats (quiet_comes (seat_at r n).stand (seat_at r n).stand.is_down event.Tick a.entries a.stand tt a.made)
happens_done r after n forced own a = quiet_done r after n 0 a.entries a.stand a.here a.seats (quiet_comes (seat_at r n).stand (seat_at r n).stand.is_down event.Force a.entries a.stand tt a.made)
happens_done r after n (stop_set calls) own a =
    quiet_done r after n 0 a.entries a.stand a.here a.seats (quiet_none (seat_at r n).stand a.entries a.stand a.made.0 (ap (λ (z : Stand). z.place) a.made.1) (ap (λ (z : Stand). z.server) a.made.1))
happens_done r after n (restarted pick) own a =
    quiet_done r after n 0 a.entries a.stand a.here a.seats
    (quiet_one (seat_at r n).stand a.made.entry a.entries a.stand a.made.one (subst (λ (e : Entry). IsNoCall e.event) (sym a.made.is) tt) (ap (λ (z : Stand). z.place) a.made.behind) (ap (λ (z : Stand). z.server) a.made.behind))
happens_done r after n (lifts is_down) own a =
    quiet_done r after n 0 a.entries a.stand a.here a.seats (quiet_none (seat_at r n).stand a.entries a.stand a.made.1 (ap (λ (z : Stand). z.place) a.made.2) (ap (λ (z : Stand). z.server) a.made.2))
happens_done r after n (finds least) own a =
    quiet_done r after n 0 a.entries a.stand a.here a.seats (quiet_none (seat_at r n).stand a.entries a.stand a.made.1.0 (ap (λ (z : Stand). z.place) a.made.1.1) (ap (λ (z : Stand). z.server) a.made.1.1))

-- a message comes
arrives_done : (r after : Course) (from to seen : ℕ) (m : Message) → Arrives r from to m seen after → HasDone r after []
arrives_done r after from to seen m a = quiet_done r after to seen a.entries a.stand a.here a.seats (quiet_comes (seat_at r to).stand (seat_at r to).stand.is_down (event.Arrive from m) a.entries a.stand tt a.made)

brought_done : (r after : Course) (from to : ℕ) (o : Option Message) → IsBrought r from to o after → HasDone r after []
brought_done r after from to None h = none_done r after (ap (λ (c : Course). c.seats) h)
brought_done r after from to (Some m) h = (let d : HasDone (taking r from to m) after [] = arrives_done (taking r from to m) after from to (last_rank (seat_at r from).ranks) m h in record { many = d.many; each = d.each; servers = λ y i. absurd i })

lost_done : (r after : Course) (from to : ℕ) (o : Option Message) → IsLost r from to o after → HasDone r after []
lost_done r after from to None h = none_done r after (ap (λ (c : Course). c.seats) h)
lost_done r after from to (Some m) h = none_done r after (ap (λ (c : Course). c.seats) h)

repeated_done : (r after : Course) (from to : ℕ) (o : Option (Message × ℕ)) → IsRepeated r from to o after → HasDone r after []
repeated_done r after from to None h = none_done r after (ap (λ (c : Course). c.seats) h)
repeated_done r after from to (Some x) h = arrives_done r after from to x.1 x.0 h

occurs_done : (r after : Course) (x : Occurrence) → AreOwn r → Occurs r x after → HasDone r after (sent_of (x ∷ []))
occurs_done r after (at n x) own a = happens_done r after n x own a
occurs_done r after (looks from to waits) own a = none_done r after (ap (λ (c : Course). c.seats) a.2)
occurs_done r after (brings from to) own a = brought_done r after from to (next_message r from to) a.1
occurs_done r after (loses from to) own a = lost_done r after from to (next_message r from to) a.1
occurs_done r after (repeats from to) own a = repeated_done r after from to _ a.1
occurs_done r after (comes from to m seen) own a = arrives_done r after from to seen m a.2
occurs_done r after (rests is_rest) own a = none_done r after (ap (λ (c : Course). c.seats) a.1)

course_done : (r after : Course) (xs : List Occurrence) → AreOwn r → AreCourse r xs after → HasDone r after (sent_of xs)
course_done r after [] own h = none_done r after (ap (λ (c : Course). c.seats) h)
course_done r after (x ∷ xs) own (mid, occurs, rest) =
    let one : HasDone r mid (sent_of (x ∷ [])) = occurs_done r mid x own occurs in
    subst (HasDone r after) (sym (sent_append (x ∷ []) xs)) (done_then r mid after (sent_of (x ∷ [])) (sent_of xs) one (course_done mid after xs (own_after r mid (sent_of (x ∷ [])) own one) rest))

-- ---- from the start of a run on

idle_seat : (ss : List Seat) (i : ℕ) → AreIdle ss → get_or ss i no_seat ≡ first_seat (get_or ss i no_seat).opening (get_or ss i no_seat).tells
idle_seat [] i h = refl
idle_seat (s ∷ ss) zero h = h.0
idle_seat (s ∷ ss) (suc i) h = idle_seat ss i h.1

-- All that was sent to this server has its entry in the journal, or is answered without one; each call of the journal was sent; and the
-- places rise in the order in which it was sent.
pub record IsRecorded (n : ℕ) (es : List Entry) (xs : List (ℕ × Item)) : Type 0 where
  pub entered : (y : ℕ × Item) → IsIn y xs → y.1.server ≡ n → IsAside y.1 ⊎ IsEntered 0 y.1 es
  pub found : (i : ℕ) (e : Entry) → slice_get es i ≡ Some e → IsCall e → IsSent n (0 + i) xs
  pub rising : AreSentRising n 0 (0 + length es) xs

did_first : (n : ℕ) (s t : Seat) (xs : List (ℕ × Item)) → s.stand.place ≡ 0 → s.journal ≡ [] → DidHere n s t xs → IsRecorded n t.journal xs
did_first n s t xs none empty d =
    let are : d.entries ≡ t.journal = sym (d.journal ∙ ap (λ (es : List Entry). es ++ d.entries) empty) in
    subst (λ (es : List Entry). IsRecorded n es xs) are (record {
      entered = subst (λ (k : ℕ). (y : ℕ × Item) → IsIn y xs → y.1.server ≡ n → IsAside y.1 ⊎ IsEntered k y.1 d.entries) none d.entered;
      found = subst (λ (k : ℕ). (i : ℕ) (e : Entry) → slice_get d.entries i ≡ Some e → IsCall e → IsSent n (k + i) xs) none d.found;
      rising = subst (λ (k : ℕ). AreSentRising n k (k + length d.entries) xs) none (subst (λ (k : ℕ). AreSentRising n s.stand.place k xs) d.place d.rising);
    })

module _ (first after : Course) (xs : List Occurrence) (begins : IsFirst first) (course : AreCourse first xs after) where
  idle : (n : ℕ) → seat_at first n ≡ first_seat (seat_at first n).opening (seat_at first n).tells
  idle n = idle_seat first.seats (n - 1) begins.idle

  done : HasDone first after (sent_of xs)
  done = course_done first after xs (λ n s. ap (λ (t : Seat). t.stand.server) (idle n) ∙ seat_number first n begins.numbered s) course

  -- each journal records what was sent to its server
  pub recorded : (n : ℕ) → 1 ≤ n → IsRecorded n (seat_at after n).journal (sent_of xs)
  recorded n some = did_first n (seat_at first n) (seat_at after n) (sent_of xs) (ap (λ (t : Seat). t.stand.place) (idle n)) (ap (λ (t : Seat). t.journal) (idle n)) (done.each n some)

  -- and all of it was sent to servers of the run
  pub sent_to_seat : (y : ℕ × Item) → IsIn y (sent_of xs) → IsSeat after y.1.server
  sent_to_seat y i = (let s : IsSeat first y.1.server = done.servers y i in record { first = s.first; last = (let all : length after.seats ≡ length first.seats = done.many in let most : y.1.server ≤ length first.seats = s.last in omega (arith, all, most)) })
