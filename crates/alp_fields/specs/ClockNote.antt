-- The note that keeps a server's epoch and clock.
use Rattle.std.specs.Prelude.{◌≡◌, ℕ, Bool, true, ◌&&◌, nat_eq, List, [], ◌∷◌, Option, None, Some, is_some, unwrap_or}
use Rattle.std.specs.Cmp.Lexicographic.{pointwise}
use Rattle.std.specs.FinMap as map
use Rattle.alp_base.specs.Notes.{Notes}
use Rattle.alp_base.specs.declared.bytes.NoteChange.{NoteChange}
use Rattle.alp_fields.specs.Forms.{Form, whole, pair, checked, mapped, u32, u64}
use Rattle.alp_fields.specs.Fields.{is_time}
use Rattle.alp_fields.specs.declared.clock_note.ClockNote.{ClockNote}
use Rattle.alp_fields.specs.declared.clock_note.TheConstants.{CLOCK_LETTER}

-- the letter C
abbrev pub clock_name : List ℕ
clock_name = CLOCK_LETTER ∷ []

-- an epoch, and a clock of at most 2 ^ 62
unfoldable pub clock_form : Form ClockNote
clock_form = mapped (λ x. record { epoch = x.0; clock = x.1 }) (λ c. (c.epoch, c.clock)) (pair u32 (checked is_time u64))

-- the note of that clock
pub record IsClockNote (n : NoteChange) : Type 0 where
  pub name : n.name ≡ clock_name
  pub clock : ClockNote
  pub fits : clock_form.Fits clock
  pub value : n.value ≡ Some (clock_form.spell clock)

-- at most that note is changed
abbrev pub IsClockAtMost : List NoteChange → Type 0
IsClockAtMost [] = Unit {0}
IsClockAtMost (n ∷ []) = IsClockNote n
IsClockAtMost (n ∷ m ∷ ns) = ⊥

-- whether a note of that name with that value keeps an epoch and a clock
abbrev pub is_clock_note : List ℕ → List ℕ → Bool
is_clock_note name value = pointwise nat_eq name clock_name && is_some (whole clock_form value)

-- no other note stands
abbrev pub AreClockNotes : Notes → Type 0
AreClockNotes notes = (name value : List ℕ) → map.get notes name ≡ Some value → is_clock_note name value ≡ true

-- the clock of a server that keeps none
abbrev pub no_clock : ClockNote
no_clock = record { epoch = 0; clock = 0 }

abbrev pub clock_in : Option (List ℕ) → ClockNote
clock_in None = no_clock
clock_in (Some value) = unwrap_or (whole clock_form value) no_clock

-- the epoch and the clock that the notes keep, or 0 and 0
abbrev pub clock_kept : Notes → ClockNote
clock_kept notes = clock_in (map.get notes clock_name)
