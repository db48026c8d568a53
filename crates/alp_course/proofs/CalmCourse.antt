-- What ticks and messages come to in the journals of a course: they go on, and each message that was taken came.
use Rattle.std.specs.Prelude.{◌==◌, ◌≢◌, Bool, true, false, cond, flat_map, slice_get, option_to_list, Option, None, Some}
use Rattle.std.specs.List.{AllByRecursion}
use Rattle.std.proofs.Common.{◌≡◌, ◌⊎◌, ℕ, zero, suc, ◌+◌, ◌-◌, ◌<◌, ◌≤◌, List, [], ◌∷◌, ◌++◌, length, inl, inr, refl, sym, ◌∙◌, ap, subst, arith, eq-eqb}
use Rattle.std.proofs.lemmas.List.{append-nil, append_assoc, length-append}
use Rattle.std.proofs.lemmas.Bool.{cases_eq}
use Rattle.alp_journal.specs.Moves.{stops}
use Rattle.alp_journal.specs.Opening.{Start}
use Rattle.alp_journal.specs.declared.act.Act.{Act}
use Rattle.alp_journal.specs.declared.act.Act.TheVariants as act
use Rattle.alp_journal.specs.declared.entry.Entry.{Entry}
use Rattle.alp_journal.specs.declared.event.Event.{Event}
use Rattle.alp_journal.specs.declared.event.Event.TheVariants as event
use Rattle.alp_journal.specs.declared.message.Message.{Message}
use Rattle.alp_journal.proofs.IdLemmas.{all-append}
use Rattle.alp_history.specs.Log.{IsIn}
use Rattle.alp_history.proofs.Linked.{in-left, in-right}
use Rattle.alp_posts.specs.Messages.{message_to, messages_in, messages_to, HasGrown}
use Rattle.alp_posts.specs.Post.{Post, took}
use Rattle.alp_posts.specs.Posts.{AreServers, post_at, with_post}
use Rattle.alp_posts.proofs.MessageLemmas.{messages_append, messages_kept}
use Rattle.alp_posts.proofs.TableLemmas.{same_post, other_post}
use Rattle.alp_course.specs.Courses.{Course, Seat, seat_at, seat_after, last_rank, IsSeat, IsAt, AreTwo, Occurrence, at as happens_at, looks, brings, loses, repeats, comes, rests, next_message, taking, IsBrought, Occurs, AreCourse}
use Rattle.alp_course.specs.Happens.{Stand, Happening, ticked, IsEntryOf, ComesTo, Happens}
use Rattle.alp_course.specs.Midway.{Holds, taken_of, sent_to, IsWithin}
use Rattle.alp_course.specs.Settles.{IsUpIn, AreUp}
use Rattle.alp_course.proofs.CalmArrivals.{flat_in}
use Rattle.alp_course.proofs.CalmRange.{IsMild, IsMildEntry}
use Rattle.alp_course.proofs.LinkLemmas.{are_servers, occurs_on, get_left}
use Rattle.alp_course.proofs.RankLemmas.{get_below, below_or}
use Rattle.alp_course.proofs.SeatLemmas.{as_many, each_seat}
use Rattle.alp_course.proofs.UpLemmas.{course_up, IsCalm}

-- ---- journals that go on

-- this seat has further entries, of ticks and messages, none of which was stopped
pub record IsGrown (s t : Seat) : Type 0 where
  pub more : List Entry
  pub is : t.journal ≡ s.journal ++ more
  pub mild : AllByRecursion IsMildEntry more
  pub opening : t.opening ≡ s.opening
  pub tells : t.tells ≡ s.tells

pub grown_same : (s : Seat) → IsGrown s s
grown_same s = record { more = []; is = sym (append-nil s.journal); mild = tt; opening = refl; tells = refl }

pub grown_then : (s t u : Seat) → IsGrown s t → IsGrown t u → IsGrown s u
grown_then s t u a b = record {
  more = a.more ++ b.more;
  is = b.is ∙ ap (λ (es : List Entry). es ++ b.more) a.is ∙ append_assoc s.journal a.more b.more;
  mild = all-append IsMildEntry a.more b.more a.mild b.mild;
  opening = b.opening ∙ a.opening;
  tells = b.tells ∙ a.tells;
}

pub longer : (s t : Seat) → IsGrown s t → length s.journal ≤ length t.journal
longer s t g = (let all : length t.journal ≡ length s.journal + length g.more = ap (λ (es : List Entry). length es) g.is ∙ length-append s.journal g.more in omega (arith, all))

-- what stood stands
pub stood : (s t : Seat) → IsGrown s t → (i : ℕ) (e : Entry) → slice_get s.journal i ≡ Some e → slice_get t.journal i ≡ Some e
stood s t g i e at = ap (λ (es : List Entry). slice_get es i) g.is ∙ get_left s.journal g.more i (get_below s.journal i e at) ∙ at

-- ---- messages that came

-- the message came there behind the first course
pub record IsArrived (r after : Course) (from to : ℕ) (m : Message) : Type 0 where
  pub place : ℕ
  pub entry : Entry
  pub low : length (seat_at r to).journal ≤ place
  pub stands : slice_get (seat_at after to).journal place ≡ Some entry
  pub event_is : entry.event ≡ event.Arrive from m

pub record HasMoved (r after : Course) : Type 0 where
  pub seats : length after.seats ≡ length r.seats
  pub grown : (n : ℕ) → IsSeat r n → IsGrown (seat_at r n) (seat_at after n)
  pub came : (from to : ℕ) → AreTwo r from to → (i : ℕ) (m : Message) → taken_of r from to ≤ i → i < taken_of after from to → slice_get (sent_to after from to) i ≡ Some m → IsArrived r after from to m

pub not_moved : (r : Course) → HasMoved r r
not_moved r = record { seats = refl; grown = λ n s. grown_same (seat_at r n); came = λ from to two i m low high at. absurd (omega (arith, low, high)) }

pub seat_then : (r mid : Course) (n : ℕ) → length mid.seats ≡ length r.seats → IsSeat r n → IsSeat mid n
seat_then r mid n same s = record { first = s.first; last = (let last : n ≤ length r.seats = s.last in omega (arith, last, same)) }

pub two_then : (r mid : Course) (from to : ℕ) → length mid.seats ≡ length r.seats → AreTwo r from to → AreTwo mid from to
two_then r mid from to same two = record { sender = seat_then r mid from same two.sender; receiver = seat_then r mid to same two.receiver; apart = two.apart }

pub then_moved : (r mid after : Course) → IsWithin mid → HasMoved r mid → HasMoved mid after → HasMoved r after
then_moved r mid after within a b = record {
  seats = b.seats ∙ a.seats;
  grown = λ n s. grown_then (seat_at r n) (seat_at mid n) (seat_at after n) (a.grown n s) (b.grown n (seat_then r mid n a.seats s));
  came = λ from to two i m low high at. go from to two i m low high at (below_or i (taken_of mid from to));
}
  where
    go : (from to : ℕ) → AreTwo r from to → (i : ℕ) (m : Message) → taken_of r from to ≤ i → i < taken_of after from to → slice_get (sent_to after from to) i ≡ Some m → (i < taken_of mid from to) ⊎ (taken_of mid from to ≤ i) → IsArrived r after from to m
    go from to two i m low high at (inl below) =
        let twice : AreTwo mid from to = two_then r mid from to a.seats two in
        let later : IsGrown (seat_at mid from) (seat_at after from) = b.grown from twice.sender in
        let few : taken_of mid from to ≤ length (sent_to mid from to) = within from to twice in
        let all : sent_to after from to ≡ sent_to mid from to ++ messages_to to later.more = ap (messages_to to) later.is ∙ messages_append to (seat_at mid from).journal later.more in
        let before : slice_get (sent_to mid from to) i ≡ Some m = sym (get_left (sent_to mid from to) (messages_to to later.more) i (omega (arith, below, few))) ∙ sym (ap (λ (ms : List Message). slice_get ms i) all) ∙ at in
        let c : IsArrived r mid from to m = a.came from to two i m low below before in
        record { place = c.place; entry = c.entry; low = c.low; stands = stood (seat_at mid to) (seat_at after to) (b.grown to twice.receiver) c.place c.entry c.stands; event_is = c.event_is }
    go from to two i m low high at (inr above) =
        let c : IsArrived mid after from to m = b.came from to (two_then r mid from to a.seats two) i m above high at in
        let less : length (seat_at r to).journal ≤ length (seat_at mid to).journal = longer (seat_at r to) (seat_at mid to) (a.grown to two.receiver) in
        let more : length (seat_at mid to).journal ≤ c.place = c.low in
        record { place = c.place; entry = c.entry; low = omega (arith, less, more); stands = c.stands; event_is = c.event_is }

-- ---- one step

-- what comes to a server that is up, and that nobody stops, makes one entry
pub record IsOneMore (s : Seat) (x : Event) (es : List Entry) : Type 0 where
  pub entry : Entry
  pub one : es ≡ entry ∷ []
  pub event_is : entry.event ≡ x
  pub goes : stops entry ≡ false

pub one_more : (s : Seat) (x : Event) (es : List Entry) (w : Stand) → IsUpIn s → ComesTo s.stand s.stand.is_down x es w → IsOneMore s x es
one_more s x es w h c =
    let e : IsEntryOf s.stand x es w = subst (λ (b : Bool). ComesTo s.stand b x es w) h.up c in
    record { entry = e.entry; one = e.one; event_is = e.event; goes = not_stopped (stops e.entry) e.halts }
  where
    not_stopped : (b : Bool) → (b ≡ true → s.stand.is_fused ≡ true) → b ≡ false
    not_stopped true halts = absurd (let wrong : true ≡ false = sym (halts refl) ∙ h.free in cc)
    not_stopped false halts = refl

grown_by : (s : Seat) (x : Event) (es : List Entry) (seen : ℕ) (w : Stand) → IsMild x → IsOneMore s x es → IsGrown s (seat_after s seen es w)
grown_by s x es seen w mild o = record {
  more = es;
  is = refl;
  mild = subst (AllByRecursion IsMildEntry) (sym o.one) (record { mild = subst IsMild (sym o.event_is) mild; goes = o.goes }, tt);
  opening = refl;
  tells = refl;
}

-- one of the seats goes on
all_grown : (r after : Course) (n seen : ℕ) (Makes : Seat → List Entry → Stand → Type 0) (a : IsAt r n seen Makes after) → IsGrown (seat_at r n) (seat_after (seat_at r n) seen a.entries a.stand) → (m : ℕ) → IsSeat r m → IsGrown (seat_at r m) (seat_at after m)
all_grown r after n seen Makes a g m s = each_seat r after n (seat_after (seat_at r n) seen a.entries a.stand) a.here a.seats (λ k t. IsGrown (seat_at r k) t) g (λ k some away. grown_same (seat_at r k)) m s.first

tick_moved : (r after : Course) (n : ℕ) → AreUp r → Occurs r (happens_at n ticked) after → HasMoved r after
tick_moved r after n up a = record {
  seats = as_many r after n (seat_after (seat_at r n) 0 a.entries a.stand) a.here a.seats;
  grown = all_grown r after n 0 (λ s es w. Happens s.tells s.stand ticked es w) a (grown_by (seat_at r n) event.Tick a.entries 0 a.stand tt (one_more (seat_at r n) event.Tick a.entries a.stand (up n a.here) a.made));
  came = λ from to two i m low high at. absurd (let same : taken_of after from to ≡ taken_of r from to = ap (λ (p : List Post). (post_at p from to).taken) a.posts in omega (arith, low, high, same));
}

last_there : (es : List Entry) (e : Entry) → slice_get (es ++ e ∷ []) (length es) ≡ Some e
last_there [] e = refl
last_there (x ∷ es) e = last_there es e

brought_moved : (r after : Course) (from to : ℕ) → Holds r → AreUp r → AreTwo r from to → Occurs r (brings from to) after → HasMoved r after
brought_moved r after from to h up pair o = go (next_message r from to) refl o.1
  where
    go : (x : Option Message) → next_message r from to ≡ x → IsBrought r from to x after → HasMoved r after
    go None is a = subst (HasMoved r) (sym a) (not_moved r)
    go (Some m) is a = record {
      seats = as_many (taking r from to m) after to now a.here a.seats;
      grown = grown;
      came = came;
    }
      where
        one : IsOneMore (seat_at r to) (event.Arrive from m) a.entries
        one = one_more (seat_at r to) (event.Arrive from m) a.entries a.stand (up to pair.receiver) a.made

        now : Seat
        now = seat_after (seat_at r to) (last_rank (seat_at r from).ranks) a.entries a.stand

        grown : (n : ℕ) → IsSeat r n → IsGrown (seat_at r n) (seat_at after n)
        grown n s =
            each_seat (taking r from to m) after to now a.here a.seats (λ k t. IsGrown (seat_at r k) t) (grown_by (seat_at r to) (event.Arrive from m) a.entries (last_rank (seat_at r from).ranks) a.stand tt one)
            (λ k some away. grown_same (seat_at r k)) n s.first

        servers : (f u : ℕ) → AreTwo r f u → AreServers f u
        servers f u two = are_servers r f u h.few two.sender two.receiver

        post : Post
        post = took m (last_rank (seat_at r from).ranks) [] (post_at r.posts from to)

        others : (f u : ℕ) → AreTwo r f u → (f ≡ from → u ≡ to → ⊥) → taken_of after f u ≡ taken_of r f u
        others f u two apart = ap (λ (p : List Post). (post_at p f u).taken) a.posts ∙ ap (λ (p : Post). p.taken) (other_post r.posts from to f u post (servers from to pair) (servers f u two) apart)

        mine : taken_of after from to ≡ taken_of r from to + 1
        mine = ap (λ (p : List Post). (post_at p from to).taken) a.posts ∙ ap (λ (p : Post). p.taken) (same_post r.posts from to post h.table (servers from to pair))

        arrived : (i : ℕ) (x : Message) → taken_of r from to ≤ i → i < taken_of after from to → slice_get (sent_to after from to) i ≡ Some x → IsArrived r after from to x
        arrived i x low high at =
            let number : i ≡ taken_of r from to = omega (arith, low, high, mine) in
            let g : IsGrown (seat_at r from) (seat_at after from) = grown from pair.sender in
            let kept : slice_get (sent_to after from to) (taken_of r from to) ≡ Some m = messages_kept to (taken_of r from to) m (seat_at r from).journal (seat_at after from).journal (record { more = g.more; is = g.is }) is in
            let same : Some m ≡ Some x = sym kept ∙ ap (slice_get (sent_to after from to)) (sym number) ∙ at in
            let it : m ≡ x = cc in
            let there : IsGrown (seat_at r to) (seat_at after to) = grown to pair.receiver in
            record {
              place = length (seat_at r to).journal;
              entry = one.entry;
              low = omega arith;
              stands = ap (λ (s : Seat). slice_get s.journal (length (seat_at r to).journal)) seat_now ∙ ap (λ (es : List Entry). slice_get ((seat_at r to).journal ++ es) (length (seat_at r to).journal)) one.one ∙ last_there (seat_at r to).journal one.entry;
              event_is = one.event_is ∙ ap (event.Arrive from) it;
            }
          where
            seat_now : seat_at after to ≡ now
            seat_now = each_seat (taking r from to m) after to now a.here a.seats (λ k t. k ≡ to → t ≡ now) (λ e. refl) (λ k some away e. absurd (away e)) to pair.receiver.first refl

        came : (f u : ℕ) → AreTwo r f u → (i : ℕ) (x : Message) → taken_of r f u ≤ i → i < taken_of after f u → slice_get (sent_to after f u) i ≡ Some x → IsArrived r after f u x
        came f u two i x low high at = elim (cases_eq f from) [
          | inl one_is ↦ elim (cases_eq u to) [
            | inl two_is ↦ subst (λ (k : ℕ). taken_of r k u ≤ i → i < taken_of after k u → slice_get (sent_to after k u) i ≡ Some x → IsArrived r after k u x) (sym one_is)
                (subst (λ (k : ℕ). taken_of r from k ≤ i → i < taken_of after from k → slice_get (sent_to after from k) i ≡ Some x → IsArrived r after from k x) (sym two_is) (arrived i x)) low high at
            | inr away ↦ absurd (let same : taken_of after f u ≡ taken_of r f u = others f u two (λ p q. away q) in omega (arith, low, high, same))
          ]
          | inr away ↦ absurd (let same : taken_of after f u ≡ taken_of r f u = others f u two (λ p q. away p) in omega (arith, low, high, same))
        ]

-- of what occurs in a round
abbrev pub IsOfRound : Occurrence → Type 0
IsOfRound (happens_at n ticked) = Unit {0}
IsOfRound (happens_at n h) = ⊥
IsOfRound (looks from to waits) = Unit {0}
IsOfRound (brings from to) = Unit {0}
IsOfRound (loses from to) = ⊥
IsOfRound (repeats from to) = ⊥
IsOfRound (comes from to m seen) = ⊥
IsOfRound (rests is_rest) = Unit {0}

at_moved : (r after : Course) (n : ℕ) (h : Happening) → AreUp r → IsOfRound (happens_at n h) → Occurs r (happens_at n h) after → HasMoved r after
at_moved r after n ticked up of a = tick_moved r after n up a
at_moved r after n h up of a = absurd of

occurs_moved : (r after : Course) (x : Occurrence) → Holds r → AreUp r → IsOfRound x → Occurs r x after → HasMoved r after
occurs_moved r after (happens_at n h) holds up of a = at_moved r after n h up of a
occurs_moved r after (looks from to waits) holds up of a = subst (HasMoved r) (sym a.2) (not_moved r)
occurs_moved r after (brings from to) holds up of a = brought_moved r after from to holds up a.0 a
occurs_moved r after (loses from to) holds up of a = absurd of
occurs_moved r after (repeats from to) holds up of a = absurd of
occurs_moved r after (comes from to m seen) holds up of a = absurd of
occurs_moved r after (rests is_rest) holds up of a = subst (HasMoved r) (sym a.1) (not_moved r)

calm_of : (x : Occurrence) → IsOfRound x → IsCalm x
calm_of (happens_at n ticked) of = tt
calm_of (happens_at n h) of = absurd of
calm_of (looks from to waits) of = tt
calm_of (brings from to) of = tt
calm_of (loses from to) of = absurd of
calm_of (repeats from to) of = absurd of
calm_of (comes from to m seen) of = absurd of
calm_of (rests is_rest) of = tt

-- of all that occurs in it, where no more is taken than was sent on the way
pub course_moved : (r after : Course) (xs : List Occurrence) → Holds r → AreUp r → ((c d : Course) (x : Occurrence) → Holds c → IsWithin c → Occurs c x d → IsWithin d) → IsWithin r → AllByRecursion IsOfRound xs → AreCourse r xs after → HasMoved r after
course_moved r after [] holds up keeps within of h = subst (HasMoved r) (sym h) (not_moved r)
course_moved r after (x ∷ xs) holds up keeps within of h =
    let mid : Course = h.0 in
    let next : IsWithin mid = keeps r mid x holds within h.1 in
    then_moved r mid after next (occurs_moved r mid x holds up of.0 h.1)
    (course_moved mid after xs (occurs_on r mid x holds h.1) (course_up r mid (x ∷ []) (calm_of x of.0, tt) (mid, h.1, refl) up) keeps next of.1 h.2)

-- ---- where a message stands

in_get : {A : Type 0} (x : A) (xs : List A) → IsIn x xs → (k : ℕ) × (slice_get xs k ≡ Some x)
in_get x [] i = absurd i
in_get x (y ∷ xs) (inl is) = (0, ap (λ z. Some z) (sym is))
in_get x (y ∷ xs) (inr i) = (let (k, at) = in_get x xs i in (suc k, at))

get_in : {A : Type 0} (x : A) (xs : List A) (k : ℕ) → slice_get xs k ≡ Some x → IsIn x xs
get_in x [] k at = absurd (let wrong : None ≡ Some x = at in cc)
get_in x (y ∷ xs) zero at = inl (let same : Some y ≡ Some x = at in let it : x ≡ y = cc in it)
get_in x (y ∷ xs) (suc k) at = inr (get_in x xs k at)

-- one that an entry sends is among the messages
pub sent_in_list : (to : ℕ) (m : Message) (es : List Entry) (k : ℕ) (e : Entry) → slice_get es k ≡ Some e → IsIn (act.Sent to m) e.acts → (i : ℕ) × (slice_get (messages_to to es) i ≡ Some m)
sent_in_list to m es k e at sent =
    in_get m (messages_to to es)
    (flat_in (λ (x : Entry). messages_in to x.acts) e m es (get_in e es k at)
    (flat_in (λ a. option_to_list (message_to to a)) (act.Sent to m) m e.acts sent
    (subst (λ (b : Bool). IsIn m (option_to_list (cond {A = Option Message} b (Some m) None))) (sym (eq-eqb to to refl)) (inl refl))))
