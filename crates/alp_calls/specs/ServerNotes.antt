-- Whether the notes of a vault are those of a server so far.
use Rattle.std.specs.Prelude.{ℕ, Bool, true, List, Option, None, Some}
use Rattle.alp_fields.specs.ClockNote.{is_clock_note}

-- that of the clock is, if it stands
abbrev pub is_good : List ℕ → Option (List ℕ) → Bool
is_good name None = true
is_good name (Some value) = is_clock_note name value
