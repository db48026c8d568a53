-- A gate is the first byte of a page: this one is open, and any other is closed.
use Rattle.std.specs.Prelude.{◌≡◌, ◌≢◌, ℕ, List, slice_index}
use Rattle.alp_disk.specs.declared.gate.TheConstants.{OPEN_GATE}

abbrev pub HasOpenGate : List ℕ → Type 0
HasOpenGate p = slice_index p 0 ≡ OPEN_GATE

abbrev pub IsClosed : List ℕ → Type 0
IsClosed p = slice_index p 0 ≢ OPEN_GATE
