-- What follows of each carrier.
use Rattle.std.proofs.Common.{◌≡◌, ℕ, ◌+◌, ◌*◌, ◌≤◌, List, [], ◌∷◌, ◌++◌, length, take, map, Option, Some, refl, ap, ◌∙◌, arith}
use Rattle.std.specs.List.{AllByRecursion}
use Rattle.alp_journal.specs.declared.message.Message.{Message}
use Rattle.alp_monitor.specs.History.{entries_in}
use Rattle.alp_monitor.specs.Passes.{front, first_base}
use Rattle.alp_carrier.specs.Sights.{Arrival, Sight, next_rank}
use Rattle.alp_carrier.specs.Plans.{planned}
use Rattle.alp_carrier.specs.Takes.{message_of, messages_up_to, sent_before}
use Rattle.alp_carrier.specs.Brings.{Came, AreBrought, nothing, one_came, one_missed}
use Rattle.alp_carrier.specs.Claims.{message_in, messages_of, weight_of, WasSentBefore, BringsWhatWasSent, BringsTwiceAtMost}
use Rattle.alp_carrier.specs.declared.carrying.Carried.{Carried}
use Rattle.alp_carrier.specs.declared.route.Route.{Route}
use Rattle.alp_carrier.specs.declared.taken.Taken.{Taken}
use Rattle.alp_carrier.proofs.Fronts.{get_begins}
use Rattle.alp_carrier.proofs.PlanLemmas.{all_planned, weigh, few_planned}
use Rattle.alp_carrier.proofs.TakeLemmas.{WasSeenAmong, all_among, all_other, sent_begins}

module _ {B E : Type 0} (sight : Sight B E) (b : B) (from : ℕ) (history : List (ℕ × E)) where
  -- each turn brought a message of which P holds
  brought_of : (P : Taken → Type 0) (k : ℕ) (xs : List Taken) (ts : List (ℕ × E)) → AllByRecursion P xs → AreBrought sight b from history k xs ts → AllByRecursion (λ (t : ℕ × E). (x : Taken) × P x × Came sight b from x history t) ts
  brought_of P k xs ts all (nothing j) = tt
  brought_of P k xs ts all (one_came j x t ys us above c more) = ((x, all.0, c), brought_of P (t.0 + 1) ys us all.1 more)
  brought_of P k xs ts all (one_missed j x ys us m above more) = brought_of P m.after ys us all.1 more

  message_weight : (w : Message → ℕ) (o : Option Arrival) (a : Arrival) (ms : List Message) → o ≡ Some a → weight_of w (message_in o ++ ms) ≡ w a.message + weight_of w ms
  message_weight w o a ms is = ap (λ (u : Option Arrival). weight_of w (message_in u ++ ms)) is

  -- what came weighs at most what was to come
  brought_weight : (w : Message → ℕ) (k : ℕ) (xs : List Taken) (ts : List (ℕ × E)) → AreBrought sight b from history k xs ts → weight_of w (messages_of sight ts) ≤ weigh (λ (x : Taken). w x.message) xs
  brought_weight w k xs ts (nothing j) = omega arith
  brought_weight w k xs ts (one_came j x t ys us above c more) =
      let rest : weight_of w (messages_of sight us) ≤ weigh (λ (x : Taken). w x.message) ys = brought_weight w (t.0 + 1) ys us more in
      let one : weight_of w (message_in (sight.arrived t.1) ++ messages_of sight us) ≡ w x.message + weight_of w (messages_of sight us) = message_weight w (sight.arrived t.1) (record { from = from; message = x.message; rank = next_rank sight b (take t.0 (entries_in history)) x.seen }) (messages_of sight us) c.brought in
      omega (arith, rest, one)
  brought_weight w k xs ts (one_missed j x ys us m above more) = (let rest : weight_of w (messages_of sight us) ≤ weigh (λ (x : Taken). w x.message) ys = brought_weight w m.after ys us more in omega (arith, rest))

taken_weight : (w : Message → ℕ) (xs : List Taken) → weigh (λ (x : Taken). w x.message) xs ≡ weight_of w (map message_of xs)
taken_weight w [] = refl
taken_weight w (x ∷ xs) = ap (λ (n : ℕ). w x.message + n) (taken_weight w xs)

module _ {S B E : Type 0} (base_of : S → B) (sight : Sight B E) where
  sent_first : (r : Route S B E) (w : Carried S B E) (b : B) (history : List (ℕ × E)) (t : ℕ × E) (x : Taken) → WasSeenAmong base_of sight r.from.now r.pair.to r.pair.first w.next w.sender x → Came sight b r.pair.from x history t
      → WasSentBefore base_of sight r w t
  sent_first r w b history t x (seen, low, high) c = record {
    arrival = record { from = r.pair.from; message = x.message; rank = next_rank sight b (take t.0 (entries_in history)) x.seen };
    arrived_is = c.brought;
    from_is = refl;
    place = seen.place;
    among = (low, high);
    rank = seen.shown.rank;
    sent_is = get_begins (sight.sent (first_base base_of r.from.now) (take seen.after (entries_in (front w.sender)))) (sent_before base_of sight r.from.now w.sender) seen.place (seen.shown.rank, record { to = r.pair.to; message = x.message })
        (sent_begins base_of sight r.from.now w.sender seen.after) seen.shown.sent_is;
    earlier = (let up = seen.shown.earlier in let same = seen.seen_is in omega (arith, up, same));
  }

  pub brings_sent : BringsWhatWasSent base_of sight
  brings_sent r seed sender receiver c h =
      let P : Taken → Type 0 = WasSeenAmong base_of sight r.from.now r.pair.to r.pair.first c.next c.sender in
      all_other (λ (t : ℕ × E). (x : Taken) × P x × Came sight (first_base base_of r.to.now) r.pair.from x (front c.receiver) t) (WasSentBefore base_of sight r c) h.brings.more (λ t y. sent_first r c (first_base base_of r.to.now) (front c.receiver) t y.0 y.1 y.2)
      (brought_of sight (first_base base_of r.to.now) r.pair.from (front c.receiver) P (length (front receiver)) (planned seed h.taken) h.brings.more (all_planned P seed h.taken (all_among base_of sight r.from.now r.pair.to r.pair.first c.sender c.next r.pair.first h.taken (omega arith) h.are_taken.seen)) h.brings.brought)

  pub brings_twice : BringsTwiceAtMost base_of sight
  brings_twice r seed sender receiver c h w =
      let came : weight_of w (messages_of sight h.brings.more) ≤ weigh (λ (x : Taken). w x.message) (planned seed h.taken) = brought_weight sight (first_base base_of r.to.now) r.pair.from (front c.receiver) w (length (front receiver)) (planned seed h.taken) h.brings.more h.brings.brought in
      let few : weigh (λ (x : Taken). w x.message) (planned seed h.taken) ≤ 2 * weigh (λ (x : Taken). w x.message) h.taken = few_planned (λ (x : Taken). w x.message) seed h.taken in
      let are : weigh (λ (x : Taken). w x.message) h.taken ≡ weight_of w (messages_up_to base_of sight r.from.now r.pair c.next c.sender) = taken_weight w h.taken ∙ ap (weight_of w) h.are_taken.are in
      omega (arith, came, few, are)
