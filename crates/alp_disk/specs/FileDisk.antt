-- A disk that tells nothing.
use Rattle.std.specs.Prelude.{false, IsTrue}
use Rattle.std.proofs.Common.{sym, refl}
use Rattle.std.proofs.lemmas.Bool.{eqb-false}

-- what is said where the contents are told is said of no such disk
pub untold : {P : Type 0} → IsTrue false → P
untold told = absurd (eqb-false 0 0 (sym told) refl)
