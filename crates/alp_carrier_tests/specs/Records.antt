-- What the records of a depot tell.
use Rattle.std.specs.Prelude.{◌≡◌, ℕ, ◌≤◌, Bool, false, List, [], ◌∷◌, ◌++◌, length, map as list_map, Option, None, Some}
use Rattle.std.proofs.Common.{refl, sym, ap, ◌∙◌}
use Rattle.std.specs.List.{AllByRecursion}
use mathlib.Core.List.{IsPrefix, append_assoc}
use Rattle.alp_journal.specs.declared.message.Envelope.{Envelope}
use Rattle.alp_carrier.specs.Sights.{Arrival, Sight}
use Rattle.alp_carrier_tests.specs.declared.record.Deed.{Deed}
use Rattle.alp_carrier_tests.specs.declared.record.Deed.TheVariants as deed
use Rattle.alp_carrier_tests.specs.declared.record.Outgoing.{Outgoing}
use Rattle.alp_carrier_tests.specs.declared.record.Record.{Record}

abbrev pub sent_by : ℕ → Deed → List (ℕ × Envelope)
sent_by rank (deed.Sent e) = (rank, e) ∷ []
sent_by rank (deed.Came from m) = []

-- what was sent, each with the rank of its record
abbrev pub sent_in : List Record → List (ℕ × Envelope)
sent_in [] = []
sent_in (r ∷ rs) = sent_by r.rank r.deed ++ sent_in rs

abbrev pub came_by : ℕ → Deed → Option Arrival
came_by rank (deed.Sent e) = None
came_by rank (deed.Came from m) = Some (record { from = from; message = m; rank = rank })

abbrev pub came_in : Record → Option Arrival
came_in r = came_by r.rank r.deed

-- the rank of the last record, or 0
abbrev pub last_in : List Record → ℕ
last_in [] = 0
last_in (r ∷ []) = r.rank
last_in (r ∷ s ∷ rs) = last_in (s ∷ rs)

abbrev pub pair_of : Outgoing → ℕ × Envelope
pair_of o = (o.rank, o.envelope)

-- what goes out is what the records say was sent, with ranks up to the last; there are no more records than that
pub record IsDepot (records : List Record) (outgoing : List Outgoing) : Type 0 where
  pub told : list_map pair_of outgoing ≡ sent_in records
  pub low : AllByRecursion (λ (o : Outgoing). o.rank ≤ last_in records) outgoing
  pub counted : length records ≤ last_in records

sent_both : (xs ys : List Record) → sent_in (xs ++ ys) ≡ sent_in xs ++ sent_in ys
sent_both [] ys = refl
sent_both (x ∷ xs) ys = ap (λ l. sent_by x.rank x.deed ++ l) (sent_both xs ys) ∙ sym (append_assoc (sent_by x.rank x.deed) (sent_in xs) (sent_in ys))

pub sent_stays : (xs ys : List Record) → IsPrefix (sent_in xs) (sent_in (xs ++ ys))
sent_stays xs ys = (sent_in ys, sym (sent_both xs ys))

-- what a carrier sees of a depot
abbrev pub depot_sight : Sight Bool Record
depot_sight = record {
  sent = λ b es. sent_in es;
  arrived = came_in;
  last = λ b es. last_in es;
  is_shut = λ b es. b ≡ false;
  is_starved = λ b es from m. Unit {0};
  is_timely = λ m. Unit {0};
  stays = λ b es more. sent_stays es more;
}
