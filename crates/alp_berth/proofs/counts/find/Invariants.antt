use Rattle.std.specs.Prelude.{slice_get, Some}
use Rattle.std.proofs.Common.{◌≡◌, ◌<◌, ◌≤◌, ◌-◌, ℕ, length}
use Rattle.alp_berth.proofs.counts.find.Given as goal

abbrev pub invariant-loop-high : goal.invariant-loop-high
invariant-loop-high l =
    (l.low < l.high) × (l.high ≤ length l.counts) × ((n : ℕ) → slice_get l.counts l.low ≡ Some n → n ≤ l.place) × ((m : ℕ) → slice_get l.counts l.high ≡ Some m → l.place < m)

abbrev pub decreases-loop-high : goal.decreases-loop-high
decreases-loop-high l = l.high - l.low
