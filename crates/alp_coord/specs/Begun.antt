-- What became of the transactions of an epoch, by their counters, which begin at 1.
use Rattle.std.specs.Prelude.{ℕ, ◌-◌, nat_lt, List, [], Option, None, Some, slice_get, slice_set, if◌then◌else◌}
use Rattle.alp_base.specs.declared.ids.TransId.{TransId}
use Rattle.alp_journal.specs.Coordinator.{Fate, Undrawn, Committed, Forgotten, Ended}
use Rattle.alp_coord.specs.declared.begun.Settled.{Settled}
use Rattle.alp_coord.specs.declared.begun.Settled.TheVariants as settled
use Rattle.alp_coord.specs.Members.{joins}

abbrev pub settled_at : List Settled → ℕ → Option Settled
settled_at xs n = if nat_lt 0 n then slice_get xs (n - 1) else None

abbrev pub with_settled : List Settled → ℕ → Settled → List Settled
with_settled xs n x = slice_set xs (n - 1) x

-- what a journal says of a transaction that has no course
abbrev pub fate_settled : TransId → Option Settled → Fate
fate_settled t None = Undrawn
fate_settled t (Some settled.Open) = Undrawn
fate_settled t (Some (settled.Committed ts)) = Committed (record { ts = ts; trans = t }) [] []
fate_settled t (Some (settled.Forgotten ts ms)) = Forgotten (record { ts = ts; trans = t }) (joins ms)
fate_settled t (Some (settled.Ended cause)) = Ended cause
