-- How a call is refused for what is counted of its part.
use Rattle.std.specs.Prelude.{ℕ, ◌+◌, ◌-◌, ◌<◌, ◌≤◌, Bool, ◌&&◌, nat_lt, Option}
use Rattle.std.specs.Option.{option_or}
use Rattle.alp_files.specs.declared.refusal.Refusal.{Refusal}
use Rattle.alp_files.specs.declared.refusal.Refusal.TheVariants as refusal
use Rattle.alp_files.specs.declared.refusal.What.TheVariants as what
use Rattle.alp_journal.specs.Answers.{if_over}
use Rattle.alp_journal.specs.Counts.{log_need}
use Rattle.alp_trans.specs.declared.counts.Counts.{Counts}
use Rattle.alp_calls.specs.declared.limits.Room.{Room}

-- more are made, and they are too many with those that stand
abbrev pub is_past : (now later stand limit : ℕ) → Bool
is_past now later stand limit = nat_lt now later && nat_lt limit (stand + (later - now))

abbrev pub many_for : Room → (now later : Counts) → Option Refusal
many_for room now later =
    option_or (if_over (is_past now.files later.files room.files 4096) (refusal.TooMany what.Files 4096))
    (if_over (is_past now.owners later.owners room.owners 256) (refusal.TooMany what.Owners 256))

-- the first limit that a part would pass which comes to the second counts from the first
abbrev pub refused_for : Room → (now later : Counts) → Option Refusal
refused_for room now later =
    option_or (if_over (nat_lt 256 later.cells) (refusal.TooMany what.Cells 256))
    (option_or (many_for room now later)
    (option_or (if_over (nat_lt room.left (later.places - now.places)) (refusal.VolumeFull room.left (later.places - now.places)))
    (if_over (nat_lt room.area (log_need later.cells room.locks)) (refusal.LogFull room.area (log_need later.cells room.locks)))))

-- it passes none of them
pub record IsAllowed (room : Room) (now later : Counts) : Type 0 where
  pub cells : later.cells ≤ 256
  pub files : now.files < later.files → room.files + (later.files - now.files) ≤ 4096
  pub owners : now.owners < later.owners → room.owners + (later.owners - now.owners) ≤ 256
  pub places : later.places - now.places ≤ room.left
  pub log : log_need later.cells room.locks ≤ room.area
