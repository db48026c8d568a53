-- What clients sent and were handed in a run of any number of servers is as their machine and the servers leave it. The order of a client's
-- items is that of its list, and what occurred agrees with it server by server.
use Rattle.std.specs.Prelude.{◌==◌, true, false, Bool, cond, Option, None, Some, slice_get, map as list_map}
use Rattle.std.specs.List.{AllByRecursion}
use Rattle.std.proofs.Common.{inl, inr, ◌⊎◌, ◌≡◌, ℕ, ◌+◌, ◌<◌, ◌≤◌, List, [], ◌∷◌, ◌++◌, length, refl, sym, ◌∙◌, ap, subst, arith, eq-eqb}
use Rattle.alp_base.specs.declared.ids.TransId.{TransId}
use Rattle.alp_files.specs.declared.call.Call.{Call}
use Rattle.alp_files.specs.declared.call.Call.TheVariants as call
use Rattle.alp_files.specs.declared.refusal.Refusal.TheVariants as refusal
use Rattle.alp_files.specs.declared.reply.Reply.{Reply}
use Rattle.alp_files.specs.declared.reply.Reply.TheVariants as reply
use Rattle.alp_journal.specs.Laws.{IsLawful}
use Rattle.alp_journal.specs.Opening.{Start}
use Rattle.alp_journal.specs.declared.entry.Entry.{Entry}
use Rattle.alp_journal.specs.declared.log.Item.{Item}
use Rattle.alp_journal.specs.declared.log.Mark.TheVariants as mark
use Rattle.alp_journal.specs.declared.log.Sent.{Sent}
use Rattle.alp_journal.specs.declared.log.Sent.TheVariants as sent
use Rattle.alp_history.specs.Handed.{AreOfClients, IsOfPlace, IsOfEntry, IsOfNone, IsNoGreeting, IsBefore, IsOfRun, IsOfRunBy, HaveSeen}
use Rattle.alp_history.specs.Items as items
use Rattle.alp_history.specs.Items.{Handed, IsOwn, IsRaw}
use Rattle.alp_history.specs.Log.{Log, ServerLog, of, journal_of, opening_of, IsIn}
use Rattle.alp_history.specs.RunLogs.{item_of}
use Rattle.alp_history.proofs.Decisions.{map-in, in-map}
use Rattle.alp_course.specs.Courses.{Course, Occurrence, IsSeat, seat_at, AreCourse}
use Rattle.alp_course.specs.Links.{IsFirst, AreNumbered as AreSeatsNumbered, server_log, log_of}
use Rattle.alp_course.specs.Plays.{sent_of}
use Rattle.alp_course.specs.Turns.{Turn, own_in, sent_in}
use Rattle.alp_course.proofs.LinkLemmas.{first_holds, course_on}
use Rattle.alp_course.proofs.SeatLemmas.{seat_number, IsOf, its, nobodys, of_course, of_seat}
use Rattle.alp_session.specs.Crowd.{Crowd}
use Rattle.alp_session.specs.Crowds.{client_at}
use Rattle.alp_cluster.specs.Clients.{States, HasSaid, come_of, come_by, come_with, IsOwnTurn, IsAgainTurn, IsInTurn, IsSentBy, AreNumbered, IsToldOf, AsksOfTold, SentOfTold, at_server}
use Rattle.alp_cluster.specs.Come.{Come, none_come, IsUpTo, IsBelow, further}
use Rattle.alp_cluster.proofs.ComeLemmas.{up_to_left, up_to_right, up_to_self, below_after}
use Rattle.alp_top.proofs.BegunLemmas.{begun_of_run}
use Rattle.alp_top.proofs.KeptCourse.{IsAside, IsEntered, IsCall, IsSent, IsFrom, behind, IsRecorded, recorded, sent_to_seat}
use Rattle.alp_top.proofs.KeptOwn.{DoesAgree, list_sent, sent_list, behind_up, AreRising, rises, agree_in_turn}

-- ---- numbers

sent_same : (s t : items.Sent) → ◌≡◌ {A = Option items.Sent} (Some s) (Some t) → s ≡ t
sent_same s t e = cc

place_same : (i j : ℕ) → ◌≡◌ {A = Option ℕ} (Some i) (Some j) → i ≡ j
place_same i j e = cc

-- a mark that is not a raw line's
abbrev IsCounted : items.Mark → Type 0
IsCounted items.Raw = ⊥
IsCounted m = Unit {0}

raw_or : (m : items.Mark) → IsRaw m ⊎ IsCounted m
raw_or items.Own = inr tt
raw_or items.Repeated = inr tt
raw_or items.Raw = inl tt

own_counted : (m : items.Mark) → IsOwn m → IsCounted m
own_counted items.Own h = tt
own_counted items.Repeated h = absurd h
own_counted items.Raw h = absurd h

-- what such an item sent: the client is the list's, and it is in turn
record IsOwnSent (k : ℕ) (a : Come) (m : items.Mark) (q : items.Sent) : Type 0 where
  client : q.client ≡ k
  turn : IsInTurn a m q

sent_turn : (k : ℕ) (a : Come) (m : items.Mark) (o : Option items.Sent) (q : items.Sent) → IsCounted m → o ≡ Some q → IsSentBy k a m o → IsOwnSent k a m q
sent_turn k a items.Raw o q m is h = absurd m
sent_turn k a items.Own None q m is h = absurd h
sent_turn k a items.Own (Some s) q m is h = subst (IsOwnSent k a items.Own) (sent_same s q is) (record { client = h.0; turn = h.1 })
sent_turn k a items.Repeated None q m is h = absurd h
sent_turn k a items.Repeated (Some s) q m is h = subst (IsOwnSent k a items.Repeated) (sent_same s q is) (record { client = h.0; turn = h.1 })

-- the client of an item is the list's, but a raw line's may be any
client_in : (k : ℕ) (a : Come) (xs : List items.Item) (x : items.Item) (q : items.Sent) → AreNumbered k a xs → IsIn x xs → IsCounted x.mark → x.sent ≡ Some q → q.client ≡ k
client_in k a [] x q h i m is = absurd i
client_in k a (y ∷ xs) x q h (inl e) m is =
    (sent_turn k a y.mark y.sent q (subst (λ (z : items.Item). IsCounted z.mark) e m) (ap (λ (z : items.Item). z.sent) (sym e) ∙ is) h.0).client
client_in k a (y ∷ xs) x q h (inr i) m is = client_in k (come_with a y.mark y.sent) xs x q h.1 i m is

-- ---- how far the calls have come

-- by what one item sent it does not fall back
come_rises : (a : Come) (m : items.Mark) (o : Option items.Sent) → IsUpTo a (come_with a m o)
come_rises a items.Raw o = up_to_self a
come_rises a items.Own None = up_to_self a
come_rises a items.Own (Some s) = by_call s.call
  where
    by_call : (c : Call) → IsUpTo a (come_by a c (come_of s))
    by_call (call.Hello name) = up_to_self a
    by_call c = up_to_left a (come_of s)
come_rises a items.Repeated None = up_to_self a
come_rises a items.Repeated (Some s) = by_call s.call
  where
    by_call : (c : Call) → IsUpTo a (come_by a c (come_of s))
    by_call (call.Hello name) = up_to_self a
    by_call c = up_to_left a (come_of s)

by_further : (a b : Come) (c : Call) → IsNoGreeting c → come_by a c b ≡ further a b
by_further a b (call.Hello name) none = absurd none
by_further a b c none = refl

-- and it comes to what a call was that is no greeting
come_has : (a : Come) (m : items.Mark) (o : Option items.Sent) (s : items.Sent) → IsCounted m → o ≡ Some s → IsNoGreeting s.call → IsUpTo (come_of s) (come_with a m o)
come_has a items.Raw o s m is none = absurd m
come_has a items.Own o s m is none = subst (λ (x : Option items.Sent). IsUpTo (come_of s) (come_with a items.Own x)) (sym is) (subst (IsUpTo (come_of s)) (sym (by_further a (come_of s) s.call none)) (up_to_right a (come_of s)))
come_has a items.Repeated o s m is none = subst (λ (x : Option items.Sent). IsUpTo (come_of s) (come_with a items.Repeated x)) (sym is) (subst (IsUpTo (come_of s)) (sym (by_further a (come_of s) s.call none)) (up_to_right a (come_of s)))

-- a call that is no greeting has an epoch
turn_epoch : (a : Come) (m : items.Mark) (s : items.Sent) → IsCounted m → IsNoGreeting s.call → IsInTurn a m s → 0 < s.epoch
turn_epoch a items.Raw s m none h = absurd m
turn_epoch a items.Own s m none h = by_call s.call none h
  where
    by_call : (c : Call) → IsNoGreeting c → IsOwnTurn a (come_of s) c → 0 < s.epoch
    by_call (call.Hello name) none h = absurd none
    by_call c none h = h.0
turn_epoch a items.Repeated s m none h = by_call s.call none h
  where
    by_call : (c : Call) → IsNoGreeting c → IsAgainTurn (come_of s) c → 0 < s.epoch
    by_call (call.Hello name) none h = absurd none
    by_call c none h = h

-- a call of its own is a greeting of epoch 0, or behind all before
own_or : (a : Come) (m : items.Mark) (s : items.Sent) → IsOwn m → IsInTurn a m s → (s.epoch ≡ 0) ⊎ IsBelow a (come_of s)
own_or a items.Raw s m h = absurd m
own_or a items.Repeated s m h = absurd m
own_or a items.Own s m h = by_call s.call h
  where
    by_call : (c : Call) → IsOwnTurn a (come_of s) c → (s.epoch ≡ 0) ⊎ IsBelow a (come_of s)
    by_call (call.Hello name) h = inl h
    by_call c h = inr h.1

above : (k : ℕ) (a : Come) (xs : List items.Item) (x : items.Item) (q : items.Sent) → AreNumbered k a xs → IsIn x xs → IsOwn x.mark → x.sent ≡ Some q → (q.epoch ≡ 0) ⊎ IsBelow a (come_of q)
above k a [] x q h i own is = absurd i
above k a (y ∷ xs) x q h (inl e) own is =
    let mine : IsOwn y.mark = subst (λ (z : items.Item). IsOwn z.mark) e own in
    own_or a y.mark q mine (sent_turn k a y.mark y.sent q (own_counted y.mark mine) (ap (λ (z : items.Item). z.sent) (sym e) ∙ is) h.0).turn
above k a (y ∷ xs) x q h (inr i) own is = elim (above k (come_with a y.mark y.sent) xs x q h.1 i own is) [
  | inl greets ↦ inl greets
  | inr below ↦ inr (below_after a (come_with a y.mark y.sent) (come_of q) (come_rises a y.mark y.sent) below)
]

-- ---- places

place_in : (from at : ℕ) (xs : List items.Item) (x : items.Item) → AreRising from xs → IsIn x xs → x.place ≡ Some at → from ≤ at
place_in from at [] x h i is = absurd i
place_in from at (y ∷ xs) x h (inl e) is = subst (IsFrom from) (ap (λ (z : items.Item). z.place) (sym e) ∙ is) h.0
place_in from at (y ∷ xs) x h (inr i) is = (let up : behind from y.place ≤ at = place_in (behind from y.place) at xs x h.1 i is in let low : from ≤ behind from y.place = behind_up from y.place h.0 in omega (arith, up, low))

-- no item before one of a client's own has its epoch and number, but a raw line's or a greeting
own_number : (k : ℕ) (a : Come) (low : ℕ) (xs : List items.Item) (x y : items.Item) (q r : items.Sent) (here there : ℕ) → AreNumbered k a xs → AreRising low xs → IsIn x xs → IsIn y xs → IsOwn x.mark → IsCounted y.mark
    → x.sent ≡ Some q → y.sent ≡ Some r → x.place ≡ Some here → y.place ≡ Some there → there < here → r.epoch ≡ q.epoch → r.number ≡ q.number → IsNoGreeting r.call → ⊥
own_number k a low [] x y q r here there n h i j own kept is too at to less epoch same none = absurd i
own_number k a low (z ∷ xs) x y q r here there n h (inl e) (inl f) own kept is too at to less epoch same none =
    let one : here ≡ there = place_same here there (sym at ∙ ap (λ (u : items.Item). u.place) (e ∙ sym f) ∙ to) in
    omega (arith, one, less)
own_number k a low (z ∷ xs) x y q r here there n h (inl e) (inr j) own kept is too at to less epoch same none =
    let stands : z.place ≡ Some here = ap (λ (u : items.Item). u.place) (sym e) ∙ at in
    let later : here + 1 ≤ there = place_in (here + 1) there xs y (subst (λ (o : Option ℕ). AreRising (behind low o) xs) stands h.1) j to in
    omega (arith, later, less)
own_number k a low (z ∷ xs) x y q r here there n h (inr i) (inl f) own kept is too at to less epoch same none =
    let counted : IsCounted z.mark = subst (λ (u : items.Item). IsCounted u.mark) f kept in
    let said : z.sent ≡ Some r = ap (λ (u : items.Item). u.sent) (sym f) ∙ too in
    let some : 0 < r.epoch = turn_epoch a z.mark r counted none (sent_turn k a z.mark z.sent r counted said n.0).turn in
    elim (above k (come_with a z.mark z.sent) xs x q n.1 i own is) [
      | inl greets ↦ omega (arith, some, epoch, greets)
      | inr below ↦ not_below (below_after (come_of r) (come_with a z.mark z.sent) (come_of q) (come_has a z.mark z.sent r counted said none) below)
    ]
  where
    not_below : IsBelow (come_of r) (come_of q) → ⊥
    not_below (inl older) = omega (arith, older, epoch)
    not_below (inr lower_one) = (let less : r.number < q.number = lower_one.1 in omega (arith, less, same))
own_number k a low (z ∷ xs) x y q r here there n h (inr i) (inr j) own kept is too at to less epoch same none =
    own_number k (come_with a z.mark z.sent) (behind low z.place) xs x y q r here there n.1 h.1 i j own kept is too at to less epoch same none

in_all : (P : items.Item → Type 0) (xs : List items.Item) (x : items.Item) → AllByRecursion P xs → IsIn x xs → P x
in_all P [] x h i = absurd i
in_all P (y ∷ xs) x h (inl is) = subst P (sym is) h.0
in_all P (y ∷ xs) x h (inr i) = in_all P xs x h.1 i

-- ---- outcomes

-- an item by which a client was told that the transaction began
record IsTelling (t : TransId) (xs : List items.Item) : Type 0 where
  item : items.Item
  among : IsIn item xs
  begun : item.reply ≡ Some (reply.Begun t)

telling : (t : TransId) (xs : List items.Item) → IsToldOf t xs → IsTelling t xs
telling t [] h = absurd h
telling t (x ∷ xs) (inl is) = record { item = x; among = inl refl; begun = is }
telling t (x ∷ xs) (inr h) = (let more = telling t xs h in record { item = more.item; among = inr more.among; begun = more.begun })

-- transactions that it was told of are of this run
run_by : (log : Log) (xs : List items.Item) (c : Call) → ((t : TransId) → IsToldOf t xs → (opening_of log t.server).epoch ≤ t.epoch) → AsksOfTold xs c → IsOfRunBy log c
run_by log xs (call.Outcome t) all h = all t h
run_by log xs c all h = tt

run_of : (log : Log) (xs : List items.Item) (m : items.Mark) (o : Option items.Sent) → ((t : TransId) → IsToldOf t xs → (opening_of log t.server).epoch ≤ t.epoch) → SentOfTold xs m o → IsOfRun log m o
run_of log xs items.Own None all h = tt
run_of log xs items.Own (Some s) all h = run_by log xs s.call all h
run_of log xs items.Repeated None all h = tt
run_of log xs items.Repeated (Some s) all h = run_by log xs s.call all h
run_of log xs items.Raw o all h = tt

-- what is refused tells of no transaction
not_begun : (r : Option Reply) (t : TransId) → IsOfNone r → r ≡ Some (reply.Begun t) → ⊥
not_begun r t (inl is) begun = (let wrong : ◌≡◌ {A = Option Reply} (Some (reply.Refused refusal.BadFrame)) (Some (reply.Begun t)) = sym is ∙ begun in cc)
not_begun r t (inr is) begun = (let wrong : ◌≡◌ {A = Option Reply} (Some (reply.Refused refusal.Down)) (Some (reply.Begun t)) = sym is ∙ begun in cc)

-- ---- what was sent to one server

in_server : (n : ℕ) (x : items.Item) (xs : List items.Item) → IsIn x xs → x.server ≡ n → IsIn x (at_server n xs)
in_server n x [] i is = absurd i
in_server n x (y ∷ xs) (inl same) is =
    subst (λ (b : Bool). IsIn x (cond b (y ∷ at_server n xs) (at_server n xs))) (sym (eq-eqb y.server n (ap (λ (z : items.Item). z.server) (sym same) ∙ is))) (inl same)
in_server n x (y ∷ xs) (inr i) is = go (y.server == n) (in_server n x xs i is)
  where
    go : (b : Bool) → IsIn x (at_server n xs) → IsIn x (cond b (y ∷ at_server n xs) (at_server n xs))
    go true j = inr j
    go false j = j

-- ---- all of it

-- an item of a client has no entry, or its own
abbrev IsPut : Log → items.Item → Type 0
IsPut log x = ((x.place ≡ None) × IsOfNone x.reply) ⊎ ((at : ℕ) × (x.place ≡ Some at) × IsOfEntry log x at)

-- What is asked of a client's list alone: its own calls come in turn at each server, their begins carry what it was told, and it asks of
-- what it was told.
pub record IsInOrder (k : ℕ) (xs : List items.Item) : Type 0 where
  pub numbered : (n : ℕ) → AreNumbered k none_come (at_server n xs)
  pub seen : HaveSeen [] xs
  pub outcomes : AllByRecursion (λ (x : items.Item). SentOfTold xs x.mark x.sent) xs

module _ (first after : Course) (hs : List Occurrence) (list : ℕ → List Item) (h : Handed) (begins : IsFirst first) (course : AreCourse first hs after) (agrees : DoesAgree hs list)
    (said : (k : ℕ) → IsInOrder k (list_map item_of (list k))) (handed_is : (k : ℕ) → h k ≡ list_map item_of (list k))
    (lawful : (n : ℕ) → IsSeat after n → IsLawful (seat_at after n).opening (seat_at after n).journal) where
  abbrev log : Log
  log = log_of after h

  numbers : AreSeatsNumbered 1 after.seats
  numbers = (course_on first after hs (first_holds first begins) course).numbered

  server_is : (n : ℕ) → IsSeat after n → of log n ≡ server_log (seat_at after n)
  server_is n here = of_seat after h n numbers here

  journal_is : (n : ℕ) → IsSeat after n → journal_of log n ≡ (seat_at after n).journal
  journal_is n here = ap (λ (y : ServerLog). y.journal) (server_is n here)

  opening_is : (n : ℕ) → IsSeat after n → opening_of log n ≡ (seat_at after n).opening
  opening_is n here = ap (λ (y : ServerLog). y.opening) (server_is n here)

  records : (n : ℕ) → IsSeat after n → IsRecorded n (seat_at after n).journal (sent_of hs)
  records n here = recorded first after hs begins course n here.first

  -- an item as the run kept it
  record IsKept (k : ℕ) (x : items.Item) : Type 0 where
    kept : Item
    same : item_of kept ≡ x
    here : IsSeat after x.server
    put : IsAside kept ⊎ IsEntered 0 kept (seat_at after x.server).journal

  member : (k : ℕ) (x : items.Item) → IsIn x (h k) → IsKept k x
  member k x i =
      let (y, there, is) = map-in item_of x (list k) (subst (IsIn x) (handed_is k) i) in
      let among : IsIn {A = ℕ × Item} (k, y) (sent_of hs) = list_sent hs list agrees k y there in
      let server : y.server ≡ x.server = ap (λ (z : items.Item). z.server) is in
      let here : IsSeat after x.server = subst (IsSeat after) server (sent_to_seat first after hs begins course (k, y) among) in
      record { kept = y; same = is; here = here; put = (records x.server here).entered (k, y) among server }

  call_sent : (y : Item) (client epoch number : ℕ) (asked : Call) → y.sent ≡ sent.Call client epoch number asked → (item_of y).sent ≡ Some (record { client = client; epoch = epoch; number = number; call = asked })
  call_sent y client epoch number asked e = ap (λ (q : Sent). (item_of (record { line = 0; server = 0; mark = mark.Own; sent = q; reply = None; place = None })).sent) e

  placed_item : (n : ℕ) (y : Item) → IsSeat after n → (item_of y).server ≡ n → IsAside y ⊎ IsEntered 0 y (seat_at after n).journal → IsPut log (item_of y)
  placed_item n y here server (inl a) = inl (a.place, a.none)
  placed_item n y here server (inr e) = inr (
    e.at_place,
    e.place ∙ ap Some (let same : 0 + e.at_place ≡ e.at_place = omega arith in same),
    record {
      entry = e.entry;
      sent = record { client = e.client; epoch = e.epoch; number = e.number; call = e.asked };
      stands = ap (λ (m : ℕ). slice_get (journal_of log m) e.at_place) server ∙ ap (λ (es : List Entry). slice_get es e.at_place) (journal_is n here) ∙ e.stands;
      said = call_sent y e.client e.epoch e.number e.asked e.sent_is;
      called = e.event_is;
      handed = sym e.reply_is;
    },
  )

  put_in : (k : ℕ) (x : items.Item) → IsIn x (h k) → IsPut log x
  put_in k x i = (let m : IsKept k x = member k x i in subst (IsPut log) m.same (placed_item x.server m.kept m.here (ap (λ (z : items.Item). z.server) m.same) m.put))

  placed : (x : items.Item) → IsPut log x → IsOfPlace log x x.place
  placed x (inl (is, none)) = subst (IsOfPlace log x) (sym is) none
  placed x (inr (at, is, e)) = subst (IsOfPlace log x) (sym is) e

  -- the item of an entry
  abbrev HasItem : ℕ → ℕ → Type 0
  HasItem n i = (owner : ℕ) × (x : items.Item) × IsIn x (h owner) × (x.server ≡ n) × (x.place ≡ Some i)

  found_item : (n i : ℕ) → IsSent n (0 + i) (sent_of hs) → HasItem n i
  found_item n i q = (
    q.item.0,
    item_of q.item.1,
    subst (IsIn (item_of q.item.1)) (sym (handed_is q.item.0)) (in-map item_of q.item.1 (list q.item.0) (sent_list hs list agrees q.item.0 q.item.1 q.among)),
    q.server,
    q.place ∙ ap Some (let same : 0 + i ≡ i = omega arith in same),
  )

  has_item : (n : ℕ) (l : ServerLog) → IsOf after n l → (i : ℕ) (e : Entry) → slice_get l.journal i ≡ Some e → IsCall e → HasItem n i
  has_item n l (its here) i e stands called = found_item n i ((records n here).found i e stands called)
  has_item n l nobodys i e stands called = absurd (nobody_there i e stands)
    where
      nobody_there : (i : ℕ) (e : Entry) → slice_get [] i ≡ Some e → ⊥
      nobody_there i e is = cc

  numbered : (n k : ℕ) → AreNumbered k none_come (at_server n (h k))
  numbered n k = subst (λ (xs : List items.Item). AreNumbered k none_come (at_server n xs)) (sym (handed_is k)) ((said k).numbered n)

  rising : (n k : ℕ) → IsSeat after n → AreRising 0 (at_server n (h k))
  rising n k here =
      subst (λ (xs : List items.Item). AreRising 0 (at_server n xs)) (sym (handed_is k))
      (rises hs list agrees n k (0 + length (seat_at after n).journal) (records n here).rising)

  fresh : (client owner : ℕ) (x y : items.Item) → IsIn x (h client) → IsIn y (h owner) → IsOwn x.mark → IsBefore x y → IsRaw y.mark
  fresh client owner x y i j own before = elim (raw_or y.mark) [
    | inl raw ↦ raw
    | inr counted ↦
        let n : ℕ = x.server in
        let here : IsIn x (at_server n (h client)) = in_server n x (h client) i refl in
        let there : IsIn y (at_server n (h owner)) = in_server n y (h owner) j before.server in
        let mine : before.later.client ≡ client = client_in client none_come (at_server n (h client)) x before.later (numbered n client) here (own_counted x.mark own) before.later_sent in
        let other : before.earlier.client ≡ owner = client_in owner none_come (at_server n (h owner)) y before.earlier (numbered n owner) there counted before.earlier_sent in
        let whose : owner ≡ client = sym other ∙ before.client ∙ mine in
        absurd (own_number client none_come 0 (at_server n (h client)) x y before.later before.earlier before.here before.there (numbered n client) (rising n client (member client x i).here) here (subst (λ (k : ℕ). IsIn y (at_server n (h k))) whose there) own counted
        before.later_sent before.earlier_sent before.later_place before.earlier_place before.order before.epoch before.number before.no_greeting)
  ]

  -- a transaction that a client was told of is of this run
  of_run : (client : ℕ) (t : TransId) → IsToldOf t (list_map item_of (list client)) → (opening_of log t.server).epoch ≤ t.epoch
  of_run client t told = go (put_in client tells_it.item among)
    where
      tells_it : IsTelling t (list_map item_of (list client))
      tells_it = telling t (list_map item_of (list client)) told

      among : IsIn tells_it.item (h client)
      among = subst (IsIn tells_it.item) (sym (handed_is client)) tells_it.among

      by_entry : (at : ℕ) → IsOfEntry log tells_it.item at → (opening_of log t.server).epoch ≤ t.epoch
      by_entry at e =
          let n : ℕ = tells_it.item.server in
          let here : IsSeat after n = (member client tells_it.item among).here in
          let opens : Start = (seat_at after n).opening in
          let stands : slice_get (seat_at after n).journal at ≡ Some e.entry = ap (λ (es : List Entry). slice_get es at) (sym (journal_is n here)) ∙ e.stands in
          let young : (t.server ≡ opens.server) × (opens.epoch ≤ t.epoch) = begun_of_run opens (seat_at after n).journal (lawful n here) at e.entry t stands (sym e.handed ∙ tells_it.begun) in
          let epoch : (opening_of log t.server).epoch ≡ opens.epoch = ap (λ (m : ℕ). (opening_of log m).epoch) (young.0 ∙ seat_number after n numbers here) ∙ ap (λ (o : Start). o.epoch) (opening_is n here) in
          let low : opens.epoch ≤ t.epoch = young.1 in
          omega (arith, epoch, low)

      go : IsPut log tells_it.item → (opening_of log t.server).epoch ≤ t.epoch
      go (inl (is, none)) = absurd (not_begun tells_it.item.reply t none tells_it.begun)
      go (inr (at, is, e)) = by_entry at e

  -- what clients sent and were handed is as their machine and the servers leave it
  pub clients_agree : AreOfClients log
  clients_agree = record {
    replies = λ client x i. placed x (put_in client x i);
    whole = λ client n i epoch number asked e stands is. has_item n (of log n) (of_course after h n numbers) i e stands (client, epoch, number, asked, is);
    fresh = fresh;
    seen = λ client. subst (HaveSeen []) (sym (handed_is client)) (said client).seen;
    outcomes = λ client x i.
        run_of log (list_map item_of (list client)) x.mark x.sent (of_run client)
        (in_all (λ (y : items.Item). SentOfTold (list_map item_of (list client)) y.mark y.sent) (list_map item_of (list client)) x (said client).outcomes (subst (IsIn x) (handed_is client) i));
  }

-- and so where all that was sent is what turns sent, one after the other
module _ {V : Type 0} (s : States V) (c : Crowd) (first after : Course) (hs : List Occurrence) (turns : List Turn) (h : Handed) (begins : IsFirst first) (course : AreCourse first hs after) (sent_is : sent_of hs ≡ sent_in turns)
    (said : (k : ℕ) → HasSaid s k (client_at c k) (list_map item_of (own_in k turns))) (handed_is : (k : ℕ) → h k ≡ list_map item_of (own_in k turns))
    (lawful : (n : ℕ) → IsSeat after n → IsLawful (seat_at after n).opening (seat_at after n).journal) where
  pub clients_kept : AreOfClients (log_of after h)
  clients_kept = clients_agree first after hs (λ (k : ℕ). own_in k turns) h begins course (agree_in_turn hs turns sent_is) (λ k. record { numbered = λ n. ((said k).to n).numbered; seen = (said k).seen; outcomes = (said k).outcomes }) handed_is lawful
