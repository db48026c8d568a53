-- Values that a client makes: the properties of a new file, and the greater of two stamps.
use Rattle.std.specs.Prelude.{ℕ, List, if◌then◌else◌}
use Rattle.std.specs.Ordering.{is_lt}
use Rattle.alp_base.specs.declared.ids.Stamp.{Stamp}
use Rattle.alp_journal.specs.Ids.{stamp_cmp}
use Rattle.alp_base.specs.declared.cell.Props.{Props}

abbrev pub new_props : List ℕ → List ℕ → ℕ → List (List ℕ) → List (List ℕ) → Props
new_props word owner size read modify = record {
  owner = owner;
  name = word;
  type_no = 0;
  create_time = 0;
  byte_length = 0;
  size = size;
  high_water = 0;
  read = read;
  modify = modify;
}

-- the greater of two stamps
abbrev pub later : Stamp → Stamp → Stamp
later told s = if is_lt (stamp_cmp told s) then s else told
