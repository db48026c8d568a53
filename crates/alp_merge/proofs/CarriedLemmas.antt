-- What carriers brought, as turns.
use Rattle.std.specs.Prelude.{◌==◌, Bool, true, false, max, take, drop, flat_map, get_or, map as list_map, slice_get, None, Some, if◌then◌else◌}
use Rattle.std.specs.List.{AllByRecursion}
use Rattle.std.proofs.Common.{◌≡◌, ◌⊎◌, ℕ, zero, suc, ◌+◌, ◌<◌, ◌≤◌, List, [], ◌∷◌, ◌++◌, length, inl, inr, refl, sym, ◌∙◌, ap, subst, arith}
use Rattle.std.proofs.lemmas.List.{append_assoc, length-append, map-append, take-append-le}
use lib.ListN.{length-map}
use mathlib.Core.List.{IsPrefix}
use Rattle.alp_carrier.specs.Brings.{IsPrevented, shut as seen_shut, starved as seen_starved, ranks_end_here as seen_here, ranks_end_there as seen_there, Came, AreBrought, nothing as none_brought, one_came as brought_one, one_missed as missed_one}
use Rattle.alp_carrier.specs.Plans.{planned}
use Rattle.alp_carrier.specs.Sights.{Arrival, Sight, next_rank}
use Rattle.alp_carrier.specs.Takes.{addressed_to, sent_before}
use Rattle.alp_carrier.specs.declared.carrying.Carried.{Carried}
use Rattle.alp_carrier.specs.declared.route.Route.{Route}
use Rattle.alp_carrier.specs.declared.taken.Taken.{Taken}
use Rattle.alp_carrier.proofs.PlanLemmas.{all_planned}
use Rattle.alp_carrier.proofs.TakeLemmas.{WasSeenAmong, all_among, all_other}
use Rattle.alp_journal.specs.declared.act.Act.{Act}
use Rattle.alp_journal.specs.declared.act.Act.TheVariants as act
use Rattle.alp_journal.specs.declared.entry.Entry.{Entry}
use Rattle.alp_journal.specs.declared.event.Event.{Event}
use Rattle.alp_journal.specs.declared.event.Event.TheVariants as event
use Rattle.alp_journal.specs.declared.message.Envelope.{Envelope}
use Rattle.alp_journal.specs.declared.message.Message.{Message}
use Rattle.alp_history.specs.Log.{IsIn}
use Rattle.alp_monitor.specs.History.{entries_in, entry_of as entry_there, turns_from}
use Rattle.alp_monitor.specs.Passes.{front, turns, number, first_base}
use Rattle.alp_course.specs.Courses.{Seat, last_rank, IsSentBy, Occurrence, comes}
use Rattle.alp_course.proofs.LinkLemmas.{get_left}
use Rattle.alp_course.proofs.RankLemmas.{get_below}
use Rattle.alp_merge.specs.Carried.{sent_by, ranked_as, sent_at, sent_in, arrival_by, IsShutBehind, IsReadAs, IsBased, IsKeptOff, shut, starved, ranks_end_here, ranks_end_there, WasTakenBehind, AreBroughtTo, nothing, one_came, one_missed, base_there, base_here, all_read, read_turn, was_starved, WasSentThere, CarriersTakeTurns}
use Rattle.alp_merge.specs.Served.{Ranked, entry_of, rank_of, entries_of, ranks_of, seat_behind, IsTurnOf, AreTurnsOf}

-- ---- which entry sent it

module _ {X : Type 0} where
  get_in : (xs : List X) (i : ℕ) (x : X) → slice_get xs i ≡ Some x → IsIn x xs
  get_in [] i x is = absurd (let wrong : None ≡ Some x = is in cc)
  get_in (y ∷ xs) zero x is = inl (let some : Some y ≡ Some x = is in let same : y ≡ x = cc in sym same)
  get_in (y ∷ xs) (suc i) x is = inr (get_in xs i x is)

  in_either : (x : X) (xs ys : List X) → IsIn x (xs ++ ys) → IsIn x xs ⊎ IsIn x ys
  in_either x [] ys i = inr i
  in_either x (y ∷ xs) ys (inl is) = inl (inl is)
  in_either x (y ∷ xs) ys (inr i) = elim (in_either x xs ys i) [ inl first ↦ inl (inr first) | inr second ↦ inr second ]

by_act : (to : ℕ) (m : Message) (a : Act) → IsIn (record { to = to; message = m }) (sent_by a) → act.Sent to m ≡ a
by_act to m (act.Sent there n) (inl is) = ap (λ (e : Envelope). act.Sent e.to e.message) is
by_act to m (act.Sent there n) (inr none) = absurd none
by_act to m a none = absurd none

by_acts : (to : ℕ) (m : Message) (acts : List Act) → IsIn (record { to = to; message = m }) (flat_map sent_by acts) → IsIn (act.Sent to m) acts
by_acts to m [] i = absurd i
by_acts to m (a ∷ acts) i = elim (in_either (record { to = to; message = m }) (sent_by a) (flat_map sent_by acts) i) [ inl here ↦ inl (by_act to m a here) | inr there ↦ inr (by_acts to m acts there) ]

of_rank : (n rank : ℕ) (e : Envelope) (es : List Envelope) → IsIn (rank, e) (list_map (ranked_as n) es) → (rank ≡ n) × IsIn e es
of_rank n rank e [] i = absurd i
of_rank n rank e (d ∷ es) (inl is) = (ap (λ (y : ℕ × Envelope). y.0) is, inl (ap (λ (y : ℕ × Envelope). y.1) is))
of_rank n rank e (d ∷ es) (inr i) = (let more = of_rank n rank e es i in (more.0, inr more.1))

-- the entry, at its place
record IsSentAt (xs : List Ranked) (to : ℕ) (m : Message) (rank : ℕ) : Type 0 where
  place : ℕ
  sender : Ranked
  stands : slice_get xs place ≡ Some sender
  rank_is : rank ≡ sender.rank
  sent : IsIn (act.Sent to m) sender.entry.acts

sent_found : (xs : List Ranked) (to : ℕ) (m : Message) (rank : ℕ) → IsIn (rank, record { to = to; message = m }) (sent_in xs) → IsSentAt xs to m rank
sent_found [] to m rank i = absurd i
sent_found (x ∷ xs) to m rank i = elim (in_either (rank, record { to = to; message = m }) (sent_at x) (sent_in xs) i) [
  | inl here ↦ (let own = of_rank x.rank rank (record { to = to; message = m }) (flat_map sent_by x.entry.acts) here in record { place = 0; sender = x; stands = refl; rank_is = own.0; sent = by_acts to m x.entry.acts own.1 })
  | inr there ↦ (let more = sent_found xs to m rank there in record { place = suc more.place; sender = more.sender; stands = more.stands; rank_is = more.rank_is; sent = more.sent })
]

-- ---- lists that are read

get_map : {X Y : Type 0} (f : X → Y) (xs : List X) (i : ℕ) (x : X) → slice_get xs i ≡ Some x → slice_get (list_map f xs) i ≡ Some (f x)
get_map f [] i x is = absurd (let wrong : None ≡ Some x = is in cc)
get_map f (y ∷ xs) zero x is = ap (λ z. Some (f z)) (let some : Some y ≡ Some x = is in let same : y ≡ x = cc in same)
get_map f (y ∷ xs) (suc i) x is = get_map f xs i x is

get_or_map : (xs : List Ranked) (i : ℕ) (x : Ranked) → slice_get xs i ≡ Some x → get_or (ranks_of xs) i 0 ≡ x.rank
get_or_map [] i x is = absurd (let wrong : None ≡ Some x = is in cc)
get_or_map (y ∷ xs) zero x is = ap rank_of (let some : Some y ≡ Some x = is in let same : y ≡ x = cc in same)
get_or_map (y ∷ xs) (suc i) x is = get_or_map xs i x is

take_map : {X Y : Type 0} (f : X → Y) (n : ℕ) (xs : List X) → take n (list_map f xs) ≡ list_map f (take n xs)
take_map f zero xs = refl
take_map f (suc n) [] = refl
take_map {Y = Y} f (suc n) (x ∷ xs) = ap (λ (l : List Y). f x ∷ l) (take_map f n xs)

take_drop : {X : Type 0} (n : ℕ) (xs : List X) → take n xs ++ drop n xs ≡ xs
take_drop zero xs = refl
take_drop (suc n) [] = refl
take_drop {X = X} (suc n) (x ∷ xs) = ap (λ (l : List X). x ∷ l) (take_drop n xs)

flat_append : (xs ys : List Ranked) → sent_in (xs ++ ys) ≡ sent_in xs ++ sent_in ys
flat_append [] ys = refl
flat_append (x ∷ xs) ys = ap (λ (l : List (ℕ × Envelope)). sent_at x ++ l) (flat_append xs ys) ∙ sym (append_assoc (sent_at x) (sent_in xs) (sent_in ys))

-- ---- what one entry brought

arrival_is : (e : Event) (rank : ℕ) (a : Arrival) → arrival_by rank e ≡ Some a → (e ≡ event.Arrive a.from a.message) × (rank ≡ a.rank)
arrival_is (event.Arrive from m) rank a is =
    let same : record { from = from; message = m; rank = rank } ≡ a = same_arrival (record { from = from; message = m; rank = rank }) a is in
    (ap (λ (b : Arrival). event.Arrive b.from b.message) same, ap (λ (b : Arrival). b.rank) same)
  where
    same_arrival : (a b : Arrival) → Some a ≡ Some b → a ≡ b
    same_arrival a b e = cc
arrival_is e rank a is = absurd (let wrong : None ≡ Some a = is in cc)

module _ {S B E : Type 0} (base_of : S → B) (sight : Sight B E) (base : B → List Ranked) (read : E → Ranked) (r : Route S B E) (reads_there : IsReadAs sight base read (first_base base_of r.from.now)) (reads_here : IsReadAs sight base read (first_base base_of r.to.now)) (s t : Seat) (based_there : IsBased s (base_there base_of sight base read r)) (based_here : IsBased t (base_here base_of sight base read r)) (there here : List (ℕ × E)) (c : Carried S B E)
    (begins_there : IsPrefix (front c.sender) there) (begins_here : IsPrefix (front c.receiver) here) where
  abbrev Seen : Taken → Type 0
  Seen x = WasSeenAmong base_of sight r.from.now r.pair.to r.pair.first c.next c.sender x

  -- so many entries of the front of a pass are those of the whole history
  front_there : (k : ℕ) → k ≤ length (front c.sender) → take k (entries_in (front c.sender)) ≡ take k (entries_in there)
  front_there k low =
      sym (take-append-le k (entries_in (front c.sender)) (entries_in begins_there.0) (let long : length (entries_in (front c.sender)) ≡ length (front c.sender) = length-map (front c.sender) entry_there in omega (arith, low, long)))
      ∙ ap (take k) (sym (map-append entry_there (front c.sender) begins_there.0) ∙ ap entries_in begins_there.1)

  front_here : (k : ℕ) → k ≤ length (front c.receiver) → take k (entries_in (front c.receiver)) ≡ take k (entries_in here)
  front_here k low =
      sym (take-append-le k (entries_in (front c.receiver)) (entries_in begins_here.0) (let long : length (entries_in (front c.receiver)) ≡ length (front c.receiver) = length-map (front c.receiver) entry_there in omega (arith, low, long)))
      ∙ ap (take k) (sym (map-append entry_there (front c.receiver) begins_here.0) ∙ ap entries_in begins_here.1)

  -- a message that was taken was sent, as the sender's entries say in the end
  was_sent : (x : Taken) → Seen x → IsSentBy (seat_behind s (all_read base_of sight base read there)) r.pair.to x.message x.seen
  was_sent x (seen, low, high) =
      let early : List E = take seen.after (entries_in (front c.sender)) in
      let b : B = first_base base_of r.from.now in
      let shown : slice_get (sent_in (base b ++ list_map read early)) seen.place ≡ Some (seen.shown.rank, record { to = r.pair.to; message = x.message }) = ap (λ (l : List (ℕ × Envelope)). slice_get l seen.place) (sym (reads_there.sent_is early)) ∙ seen.shown.sent_is in
      let found : IsSentAt (base b ++ list_map read early) r.pair.to x.message seen.shown.rank = sent_found (base b ++ list_map read early) r.pair.to x.message seen.shown.rank (get_in (sent_in (base b ++ list_map read early)) seen.place (seen.shown.rank, record { to = r.pair.to; message = x.message }) shown) in
      let later : List Ranked = list_map read (drop seen.after (entries_in there)) in
      let whole : (base b ++ list_map read early) ++ later ≡ base b ++ all_read base_of sight base read there =
      append_assoc (base b) (list_map read early) later ∙ ap (λ (l : List Ranked). base b ++ l)
      (ap (λ (l : List E). list_map read l ++ later) (front_there seen.after seen.within) ∙ (sym (map-append read (take seen.after (entries_in there)) (drop seen.after (entries_in there))) ∙ ap (list_map read) (take_drop seen.after (entries_in there)))) in
      let stands : slice_get (base b ++ all_read base_of sight base read there) found.place ≡ Some found.sender = ap (λ (l : List Ranked). slice_get l found.place) (sym whole) ∙ (get_left (base b ++ list_map read early) later found.place (get_below (base b ++ list_map read early) found.place found.sender found.stands) ∙ found.stands) in
      let journal : s.journal ++ entries_of (all_read base_of sight base read there) ≡ entries_of (base b ++ all_read base_of sight base read there) = ap (λ (l : List Entry). l ++ entries_of (all_read base_of sight base read there)) based_there.journal ∙ sym (map-append entry_of (base b) (all_read base_of sight base read there)) in
      let ranks : s.ranks ++ ranks_of (all_read base_of sight base read there) ≡ ranks_of (base b ++ all_read base_of sight base read there) = ap (λ (l : List ℕ). l ++ ranks_of (all_read base_of sight base read there)) based_there.ranks ∙ sym (map-append rank_of (base b) (all_read base_of sight base read there)) in
      record {
        place = found.place;
        entry = found.sender.entry;
        stands = ap (λ (l : List Entry). slice_get l found.place) journal ∙ get_map entry_of (base b ++ all_read base_of sight base read there) found.place found.sender stands;
        sent = found.sent;
        low =
            (let is : get_or (s.ranks ++ ranks_of (all_read base_of sight base read there)) found.place 0 ≡ found.sender.rank = ap (λ (l : List ℕ). get_or l found.place 0) ranks ∙ get_or_map (base b ++ all_read base_of sight base read there) found.place found.sender stands in
            let rank : seen.shown.rank ≡ found.sender.rank = found.rank_is in
            let low : seen.shown.rank ≤ sight.last b early = seen.shown.earlier in
            let last : x.seen ≡ sight.last b early = seen.seen_is in
            omega (arith, is, rank, low, last));
      }

  -- it was taken behind so many of the sender's entries
  taken_behind : (x : Taken) → Seen x → WasTakenBehind (base_there base_of sight base read r) (all_read base_of sight base read there) x
  taken_behind x (seen, low, high) =
      let b : B = first_base base_of r.from.now in
      let early : List E = take seen.after (entries_in (front c.sender)) in
      let same : list_map read early ≡ take seen.after (all_read base_of sight base read there) = ap (list_map read) (front_there seen.after seen.within) ∙ sym (take_map read seen.after (entries_in there)) in
      record {
        behind = seen.after;
        within =
            (let below : seen.after ≤ length (front c.sender) = seen.within in
            let all : length there ≡ length (front c.sender) + length begins_there.0 = ap (λ (l : List (ℕ × E)). length l) (sym begins_there.1) ∙ length-append (front c.sender) begins_there.0 in
            let one : length (entries_in there) ≡ length there = length-map there entry_there in
            let two : length (all_read base_of sight base read there) ≡ length (entries_in there) = length-map (entries_in there) read in
            omega (arith, below, all, one, two));
        seen_is = seen.seen_is ∙ (reads_there.last_is early ∙ ap (λ (l : List Ranked). last_rank (ranks_of (base b ++ l))) same);
      }

  -- the turn that brought it
  came_by : (x : Taken) (u : ℕ × E) → Came sight (first_base base_of r.to.now) r.pair.from x (front c.receiver) u → IsTurnOf t r.pair.to (all_read base_of sight base read here) (comes r.pair.from r.pair.to x.message x.seen) (read_turn base_of sight base read u)
  came_by x u came =
      let b : B = first_base base_of r.to.now in
      let before : List E = take u.0 (entries_in (front c.receiver)) in
      let both = arrival_is (read u.1).entry.event (read u.1).rank (record { from = r.pair.from; message = x.message; rank = next_rank sight b before x.seen }) (sym (reads_here.arrived_is u.1) ∙ came.brought) in
      let same : list_map read before ≡ take u.0 (all_read base_of sight base read here) = ap (list_map read) (front_here u.0 (let less : u.0 < length (front c.receiver) = came.within in omega (arith, less))) ∙ sym (take_map read u.0 (entries_in here)) in
      let ranks : ranks_of (base b ++ list_map read before) ≡ t.ranks ++ ranks_of (take u.0 (all_read base_of sight base read here)) = map-append rank_of (base b) (list_map read before) ∙ (ap (λ (l : List ℕ). l ++ ranks_of (list_map read before)) (sym based_here.ranks) ∙ ap (λ (l : List Ranked). t.ranks ++ ranks_of l) same) in
      let last : sight.last b before ≡ last_rank (t.ranks ++ ranks_of (take u.0 (all_read base_of sight base read here))) = reads_here.last_is before ∙ ap last_rank ranks in
      record { here = refl; its = both.0; ranked = both.1 ∙ ap (λ (n : ℕ). max n x.seen + 1) last }

  -- why it did not come
  kept_off : (x : Taken) (k : ℕ) → k ≤ length (front c.receiver) → IsPrevented sight (first_base base_of r.to.now) r.pair.from x (take k (entries_in (front c.receiver)))
      → IsKeptOff (was_starved base_of sight base read r here k x.message) x.seen (base_here base_of sight base read r ++ take k (all_read base_of sight base read here))
  kept_off x k low why = by (subst (IsPrevented sight (first_base base_of r.to.now) r.pair.from x) (front_here k low) why)
    where
      b : B
      b = first_base base_of r.to.now

      same : base b ++ list_map read (take k (entries_in here)) ≡ base b ++ take k (all_read base_of sight base read here)
      same = ap (λ (l : List Ranked). base b ++ l) (sym (take_map read k (entries_in here)))

      by : IsPrevented sight b r.pair.from x (take k (entries_in here)) → IsKeptOff (was_starved base_of sight base read r here k x.message) x.seen (base b ++ take k (all_read base_of sight base read here))
      by (seen_shut is) = shut (subst IsShutBehind same (reads_here.shut_is (take k (entries_in here)) is))
      by (seen_starved is) = starved is
      by (seen_here up) = ranks_end_here (let last : sight.last b (take k (entries_in here)) ≡ last_rank (ranks_of (base b ++ take k (all_read base_of sight base read here))) = reads_here.last_is (take k (entries_in here)) ∙ ap (λ (l : List Ranked). last_rank (ranks_of l)) same in omega (arith, up, last))
      by (seen_there up) = ranks_end_there up

  -- all of it
  record AreDone (place : ℕ) (xs : List Taken) (us : List (ℕ × E)) : Type 0 where
    done : List Occurrence
    are : AreTurnsOf t r.pair.to (all_read base_of sight base read here) done (list_map (read_turn base_of sight base read) us)
    sent : AllByRecursion (WasSentThere base_of sight base read r s there) done
    brought : AreBroughtTo (was_starved base_of sight base read r here) r.pair.from r.pair.to (base_here base_of sight base read r) (all_read base_of sight base read here) place xs done

  -- an entry of this history stands at its place
  abbrev Stands : ℕ × E → Type 0
  Stands u = slice_get (entries_in here) u.0 ≡ Some u.1

  longer_here : length (front c.receiver) ≤ length (all_read base_of sight base read here)
  longer_here =
      let all : length here ≡ length (front c.receiver) + length begins_here.0 = ap (λ (l : List (ℕ × E)). length l) (sym begins_here.1) ∙ length-append (front c.receiver) begins_here.0 in
      let one : length (entries_in here) ≡ length here = length-map here entry_there in
      let two : length (all_read base_of sight base read here) ≡ length (entries_in here) = length-map (entries_in here) read in
      omega (arith, all, one, two)

  done_by : (place : ℕ) (xs : List Taken) (us : List (ℕ × E)) → AllByRecursion Seen xs → AllByRecursion Stands us → AreBrought sight (first_base base_of r.to.now) r.pair.from (front c.receiver) place xs us → AreDone place xs us
  done_by place xs us seen stand (none_brought p) = record { done = []; are = tt; sent = tt; brought = nothing p }
  done_by place xs us seen stand (brought_one p x u ys vs above came more) =
      let rest : AreDone (u.0 + 1) ys vs = done_by (u.0 + 1) ys vs seen.1 stand.1 more in
      let turn : IsTurnOf t r.pair.to (all_read base_of sight base read here) (comes r.pair.from r.pair.to x.message x.seen) (read_turn base_of sight base read u) = came_by x u came in
      record {
        done = comes r.pair.from r.pair.to x.message x.seen ∷ rest.done;
        are = (turn, rest.are);
        sent = ((refl, refl, was_sent x seen.0), rest.sent);
        brought = one_came p u.0 x (read u.1) ys rest.done above (get_map read (entries_in here) u.0 u.1 stand.0) turn.its rest.brought;
      }
  done_by place xs us seen stand (missed_one p x ys vs m above more) =
      let rest : AreDone m.after ys vs = done_by m.after ys vs seen.1 stand more in
      record {
        done = rest.done;
        are = rest.are;
        sent = rest.sent;
        brought = one_missed p m.after x ys rest.done above (let low : m.after ≤ length (front c.receiver) = m.within in let all = longer_here in omega (arith, low, all)) (kept_off x m.after m.within m.why) rest.brought;
      }

  -- what the pass of the sender saw sent begins all that was sent
  abbrev sent_more : List (ℕ × Envelope)
  sent_more = sent_in (list_map read (entries_in begins_there.0))

  sent_all : sent_in (base_there base_of sight base read r ++ all_read base_of sight base read there) ≡ sent_before base_of sight r.from.now c.sender ++ sent_more
  sent_all =
      let b : B = first_base base_of r.from.now in
      let fronts : List Ranked = list_map read (entries_in (front c.sender)) in
      let more : List Ranked = list_map read (entries_in begins_there.0) in
      let split : all_read base_of sight base read there ≡ fronts ++ more = ap (list_map read) (ap entries_in (sym begins_there.1) ∙ map-append entry_there (front c.sender) begins_there.0) ∙ map-append read (entries_in (front c.sender)) (entries_in begins_there.0) in
      ap (λ (l : List Ranked). sent_in (base b ++ l)) split ∙ (ap sent_in (sym (append_assoc (base b) fronts more)) ∙ (flat_append (base b ++ fronts) more ∙ ap (λ (l : List (ℕ × Envelope)). l ++ sent_more) (sym (reads_there.sent_is (entries_in (front c.sender))))))

-- the turns of a pass stand at their places
turns_stand : {E : Type 0} (n k : ℕ) (h whole : List (ℕ × E)) → ((i : ℕ) (x : ℕ × E) → slice_get h i ≡ Some x → slice_get whole (n + i) ≡ Some x) → AllByRecursion (λ (u : ℕ × E). slice_get (entries_in whole) u.0 ≡ Some u.1) (turns_from n k h)
turns_stand n k [] whole there = tt
turns_stand {E = E} n k (x ∷ h) whole there = go (x.0 == k) (turns_stand (suc n) k h whole (λ i y is. ap (slice_get whole) (let same : suc n + i ≡ n + suc i = omega arith in same) ∙ there (suc i) y is))
  where
    stands : slice_get (entries_in whole) n ≡ Some x.1
    stands = get_map entry_there whole n x (ap (slice_get whole) (let same : n ≡ n + 0 = omega arith in same) ∙ there 0 x refl)

    go : (b : Bool) → AllByRecursion (λ (u : ℕ × E). slice_get (entries_in whole) u.0 ≡ Some u.1) (turns_from (suc n) k h)
        → AllByRecursion (λ (u : ℕ × E). slice_get (entries_in whole) u.0 ≡ Some u.1) (if b then (n, x.1) ∷ turns_from (suc n) k h else turns_from (suc n) k h)
    go true more = (stands, more)
    go false more = more

module _ {S B E : Type 0} (base_of : S → B) (sight : Sight B E) where
  pub carriers : CarriersTakeTurns base_of sight
  carriers base read r reads_there reads_here seed sender receiver c h no_turns no_front s t based_there based_here there here begins_there begins_here = record {
    done = d.done;
    are = subst (λ (us : List (ℕ × E)). AreTurnsOf t r.pair.to (all_read base_of sight base read here) d.done (list_map (read_turn base_of sight base read) us)) (sym turns_are) d.are;
    sent = d.sent;
    taken = h.taken;
    carried = record {
      next = c.next;
      from_first = h.are_taken.from_first;
      within =
          (let low : c.next ≤ length (sent_before base_of sight r.from.now c.sender) = h.are_taken.within in
          let long : length (sent_in (base_there base_of sight base read r ++ all_read base_of sight base read there)) ≡ length (sent_before base_of sight r.from.now c.sender) + length more = ap (λ (l : List (ℕ × Envelope)). length l) whole ∙ length-append (sent_before base_of sight r.from.now c.sender) more in
          omega (arith, low, long));
      are = h.are_taken.are ∙ ap (λ (l : List (ℕ × Envelope)). addressed_to r.pair.to (drop r.pair.first l)) (sym (take-append-le c.next (sent_before base_of sight r.from.now c.sender) more h.are_taken.within) ∙ ap (take c.next) (sym whole));
      seen = all_other (λ (x : Taken). WasSeenAmong base_of sight r.from.now r.pair.to r.pair.first c.next c.sender x) (WasTakenBehind (base_there base_of sight base read r) (all_read base_of sight base read there)) h.taken
          (taken_behind base_of sight base read r reads_there reads_here s t based_there based_here there here c begins_there begins_here) among;
      brought = subst (λ (n : ℕ). AreBroughtTo (was_starved base_of sight base read r here) r.pair.from r.pair.to (base_here base_of sight base read r) (all_read base_of sight base read here) n (planned seed h.taken) d.done) (ap (λ (l : List (ℕ × E)). length l) no_front) d.brought;
    };
  }
    where
      turns_are : turns c.receiver ≡ h.brings.more
      turns_are = h.brings.turns_are ∙ ap (λ (l : List (ℕ × E)). l ++ h.brings.more) no_turns

      more : List (ℕ × Envelope)
      more = sent_more base_of sight base read r reads_there reads_here s t based_there based_here there here c begins_there begins_here

      whole : sent_in (base_there base_of sight base read r ++ all_read base_of sight base read there) ≡ sent_before base_of sight r.from.now c.sender ++ more
      whole = sent_all base_of sight base read r reads_there reads_here s t based_there based_here there here c begins_there begins_here

      stand : AllByRecursion (λ (u : ℕ × E). slice_get (entries_in here) u.0 ≡ Some u.1) (turns c.receiver)
      stand = turns_stand 0 (number c.receiver) (front c.receiver) here (λ i x is. ap (slice_get here) (let same : 0 + i ≡ i = omega arith in same) ∙ (ap (λ (l : List (ℕ × E)). slice_get l i) (sym begins_here.1) ∙ (get_left (front c.receiver) begins_here.0 i (get_below (front c.receiver) i x is) ∙ is)))

      among : AllByRecursion (λ (x : Taken). WasSeenAmong base_of sight r.from.now r.pair.to r.pair.first c.next c.sender x) h.taken
      among = all_among base_of sight r.from.now r.pair.to r.pair.first c.sender c.next r.pair.first h.taken (omega arith) h.are_taken.seen

      d : AreDone base_of sight base read r reads_there reads_here s t based_there based_here there here c begins_there begins_here (length (front receiver)) (planned seed h.taken) h.brings.more
      d = done_by base_of sight base read r reads_there reads_here s t based_there based_here there here c begins_there begins_here (length (front receiver)) (planned seed h.taken) h.brings.more
          (all_planned (λ (x : Taken). WasSeenAmong base_of sight r.from.now r.pair.to r.pair.first c.next c.sender x) seed h.taken among)
          (subst (AllByRecursion (λ (u : ℕ × E). slice_get (entries_in here) u.0 ≡ Some u.1)) turns_are stand) h.brings.brought
