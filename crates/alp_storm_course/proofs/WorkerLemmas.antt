-- A worker's turns at a server are its deeds there.
use Rattle.std.specs.Prelude.{◌==◌, Bool, true, false, max, take, filter, map as list_map, Some, if◌then◌else◌}
use Rattle.std.specs.List.{AllByRecursion}
use Rattle.std.proofs.Common.{◌≡◌, ◌⊎◌, ℕ, zero, suc, ◌+◌, ◌<◌, ◌≤◌, List, [], ◌∷◌, ◌++◌, length, inl, inr, refl, sym, ◌∙◌, ap, subst, arith}
use Rattle.std.proofs.lemmas.Bool.Decides.{eqb_tells}
use Rattle.std.proofs.lemmas.List.{map-append, take-append-le}
use lib.ListN.{length-map}
use mathlib.Core.List.{IsPrefix}
use Rattle.alp_carrier.specs.Sights.{Sight}
use Rattle.alp_jobs.specs.Deeds.{Deed, sends, gives_tick, gives_timeout}
use Rattle.alp_journal.specs.declared.entry.Entry.{Entry}
use Rattle.alp_journal.specs.declared.event.Event.{Event}
use Rattle.alp_journal.specs.declared.log.Item.{Item}
use Rattle.alp_journal.specs.declared.log.Sent.{Sent}
use Rattle.alp_journal.specs.declared.log.Sent.TheVariants as sent_as
use Rattle.alp_monitor.specs.History.{entries_in, entry_of as entry_there}
use Rattle.alp_session.specs.Frames.{told_by}
use Rattle.alp_course.specs.Courses.{Seat, last_rank, at}
use Rattle.alp_course.specs.Happens.{handed_for}
use Rattle.alp_merge.specs.Carried.{IsBased}
use Rattle.alp_merge.specs.Served.{Ranked, rank_of, ranks_of, IsCallOf, IsTurnOf, AreTurnsOf}
use Rattle.alp_merge.specs.Storms.{place_of, happening_of, deeds_at, items_by, items_of}
use Rattle.alp_storm.specs.Logs.{Log}
use Rattle.alp_storm.specs.Turns.{WasMade}
use Rattle.alp_storm.specs.Works.{server_of, deeds_at as deeds_there, item_of, items_of as items_there, IsCallOf as IsCallThere, IsTurnOf as IsTurnThere, AreTurnsOf as AreTurnsThere}
use Rattle.alp_storm_course.specs.Joins.{IsRead}

-- ---- deeds at a server

pub same_place : (d : Deed) → place_of d ≡ server_of d
same_place (sends x) = refl
same_place (gives_tick server) = refl
same_place (gives_timeout server t) = refl

-- both say the same deeds
same_deeds : (n : ℕ) (ds : List Deed) → filter (λ (d : Deed). place_of d == n) ds ≡ deeds_there n ds
same_deeds n [] = refl
same_deeds n (d ∷ ds) =
    ap (λ (m : ℕ). if m == n then d ∷ filter (λ (e : Deed). place_of e == n) ds else filter (λ (e : Deed). place_of e == n) ds) (same_place d)
    ∙ ap (λ (l : List Deed). if server_of d == n then d ∷ l else l) (same_deeds n ds)

-- and both have the same items
same_item : (d : Deed) → item_of d ≡ items_by d
same_item (sends x) = refl
same_item (gives_tick server) = refl
same_item (gives_timeout server t) = refl

pub same_items : (ds : List Deed) → items_there ds ≡ items_of ds
same_items [] = refl
same_items (d ∷ ds) = λ i. same_item d i ++ same_items ds i

all_there : (n : ℕ) (ds : List Deed) → AllByRecursion (λ (d : Deed). server_of d ≡ n) (deeds_there n ds)
all_there n [] = tt
all_there n (d ∷ ds) = go (eqb_tells (server_of d) n) (all_there n ds)
  where
    go : (((server_of d == n) ≡ true) × (server_of d ≡ n)) ⊎ (((server_of d == n) ≡ false) × (server_of d ≡ n → ⊥)) → AllByRecursion (λ (e : Deed). server_of e ≡ n) (deeds_there n ds) → AllByRecursion (λ (e : Deed). server_of e ≡ n) (deeds_there n (d ∷ ds))
    go (inl is) more = subst (λ (b : Bool). AllByRecursion (λ (e : Deed). server_of e ≡ n) (if b then d ∷ deeds_there n ds else deeds_there n ds)) (sym is.0) (is.1, more)
    go (inr away) more = subst (λ (b : Bool). AllByRecursion (λ (e : Deed). server_of e ≡ n) (if b then d ∷ deeds_there n ds else deeds_there n ds)) (sym away.0) more

-- ---- turns

take_map : {X Y : Type 0} (f : X → Y) (n : ℕ) (xs : List X) → take n (list_map f xs) ≡ list_map f (take n xs)
take_map f zero xs = refl
take_map f (suc n) [] = refl
take_map {Y = Y} f (suc n) (x ∷ xs) = ap (λ (l : List Y). f x ∷ l) (take_map f n xs)

module _ {B E : Type 0} (log : Log B E) (sight : Sight B E) (base : B → List Ranked) (read : E → Ranked) (b : B) (reads : IsRead log sight base read b) (s : Seat) (n : ℕ)
    (based : IsBased s (base b)) (placed : s.stand.place ≡ log.since b) (epoch_is : s.stand.epoch ≡ log.epoch b) (server_is : s.stand.server ≡ n) (front here : List (ℕ × E)) (begins : IsPrefix front here) where
  abbrev all_here : List Ranked
  all_here = list_map read (entries_in here)

  front_is : (k : ℕ) → k ≤ length front → take k (entries_in front) ≡ take k (entries_in here)
  front_is k low =
      sym (take-append-le k (entries_in front) (entries_in begins.0) (let long : length (entries_in front) ≡ length front = length-map front entry_there in omega (arith, low, long)))
      ∙ ap (take k) (sym (map-append entry_there front begins.0) ∙ ap entries_in begins.1)

  entry_read : (e : E) → (read e).entry ≡ log.entry e
  entry_read e = sym (reads.entry_is e)

  rank_by : (t : ℕ × E) (e : Event) → WasMade log b front e t → (read t.1).rank ≡ max (last_rank (s.ranks ++ ranks_of (take t.0 all_here))) 0 + 1
  rank_by t e was =
      let low : t.0 ≤ length front = (let less : t.0 < length front = was.within in omega (arith, less)) in
      let before : list_map read (take t.0 (entries_in front)) ≡ take t.0 all_here = ap (list_map read) (front_is t.0 low) ∙ sym (take_map read t.0 (entries_in here)) in
      let ranks : ranks_of (base b ++ list_map read (take t.0 (entries_in front))) ≡ s.ranks ++ ranks_of (take t.0 all_here) =
      map-append rank_of (base b) (list_map read (take t.0 (entries_in front))) ∙ (ap (λ (l : List ℕ). l ++ ranks_of (list_map read (take t.0 (entries_in front)))) (sym based.ranks) ∙ ap (λ (l : List Ranked). s.ranks ++ ranks_of l) before) in
      let last : log.last b (take t.0 (entries_in front)) ≡ last_rank (s.ranks ++ ranks_of (take t.0 all_here)) = reads.last_is (take t.0 (entries_in front)) ∙ ap last_rank ranks in
      let rank : (read t.1).rank ≡ log.last b (take t.0 (entries_in front)) + 1 = sym (reads.rank_is t.1) ∙ was.made.rank_is in
      omega (arith, last, rank)

  call_by : (x : Item) (t : ℕ × E) (e : Event) (y : Sent) → x.sent ≡ y → x.server ≡ n → (log.entry t.1).event ≡ e → IsCallThere (log.epoch b) y x.reply e → x.reply ≡ (log.entry t.1).reply → x.place ≡ Some (log.since b + t.0)
      → IsCallOf s t.0 x (read t.1).entry
  call_by x t e (sent_as.Bytes bytes) is there made call replied stands = absurd call
  call_by x t e (sent_as.Call client epoch number asked) is there made call replied stands =
      let reply : (read t.1).entry.reply ≡ x.reply = ap (λ (z : Entry). z.reply) (entry_read t.1) ∙ sym replied in
      record {
        client = client;
        epoch = epoch;
        number = number;
        call = asked;
        sent = is;
        made = ap (λ (z : Entry). z.event) (entry_read t.1) ∙ (made ∙ call.0);
        server = there ∙ sym server_is;
        placed = stands ∙ ap (λ (m : ℕ). Some (m + t.0)) (sym placed);
        reply = reply;
        told = (λ i. told_by (handed_for (epoch_is i) client number (reply i))) ∙ call.1;
      }

  turn_by : (k : ℕ) (d : Deed) (t : ℕ × E) → server_of d ≡ n → IsTurnThere log b front d t → IsTurnOf s n all_here (at n (happening_of k d)) (t.0, read t.1)
  turn_by k (sends x) t there u = record { here = refl; its = call_by x t u.what x.sent refl there u.was.made.event_is u.what_is u.item.0 u.item.1; ranked = rank_by t u.what u.was }
  turn_by k (gives_tick server) t there u = record { here = refl; its = ap (λ (z : Entry). z.event) (entry_read t.1) ∙ (u.was.made.event_is ∙ u.what_is); ranked = rank_by t u.what u.was }
  turn_by k (gives_timeout server trans) t there u = record { here = refl; its = ap (λ (z : Entry). z.event) (entry_read t.1) ∙ (u.was.made.event_is ∙ u.what_is); ranked = rank_by t u.what u.was }

  abbrev read_turn : ℕ × E → ℕ × Ranked
  read_turn t = (t.0, read t.1)

  turns_by : (k : ℕ) (ds : List Deed) (ts : List (ℕ × E)) → AllByRecursion (λ (d : Deed). server_of d ≡ n) ds → AreTurnsThere log b front ds ts
      → AreTurnsOf s n all_here (list_map (λ (d : Deed). at n (happening_of k d)) ds) (list_map read_turn ts)
  turns_by k [] [] there turns = tt
  turns_by k [] (t ∷ ts) there turns = absurd turns
  turns_by k (d ∷ ds) [] there turns = absurd turns
  turns_by k (d ∷ ds) (t ∷ ts) there turns = (turn_by k d t there.0 turns.0, turns_by k ds ts there.1 turns.1)

  -- all of them
  pub worker_turns : (k : ℕ) (ds : List Deed) (ts : List (ℕ × E)) → AreTurnsThere log b front (deeds_there n ds) ts → AreTurnsOf s n all_here (deeds_at k n ds) (list_map read_turn ts)
  worker_turns k ds ts turns =
      subst (λ (l : List Deed). AreTurnsOf s n all_here (list_map (λ (d : Deed). at n (happening_of k d)) l) (list_map read_turn ts)) (sym (same_deeds n ds)) (turns_by k (deeds_there n ds) ts (all_there n ds) turns)
