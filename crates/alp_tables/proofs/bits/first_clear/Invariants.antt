use Rattle.std.proofs.Common.{◌≡◌, ◌<◌, ◌*◌, ℕ, true}
use Rattle.alp_tables.specs.Bits.{flag_in}
use Rattle.alp_tables.proofs.bits.first_clear.Given as goal

abbrev pub invariant-loop-at : goal.invariant-loop-at
invariant-loop-at l = (p : ℕ) → p < 32 * l.at → flag_in l.words p ≡ true
