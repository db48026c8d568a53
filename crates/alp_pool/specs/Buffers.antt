-- What page buffers hold.
use Rattle.std.specs.Prelude.{◌≡◌, ℕ, true, nat_eq, is_some, List, Some}
use Rattle.std.specs.Map.{lookup}
use Rattle.alp_disk.specs.Disk.{Image, page}

-- pages by their numbers, the one used last first
abbrev pub Buffers : Type 0
Buffers = List (ℕ × List ℕ)

-- a buffer has this page
abbrev pub IsResident : ℕ → Buffers → Type 0
IsResident at held = is_some (lookup (nat_eq at) held) ≡ true

-- each buffer holds what the page of its number holds
abbrev pub AreBuffersOf : Image → Buffers → Type 0
AreBuffersOf pages held = (q : ℕ) (bytes : List ℕ) → lookup (nat_eq q) held ≡ Some bytes → bytes ≡ page pages q

-- the same pages in both
abbrev pub HoldTheSame : Buffers → Buffers → Type 0
HoldTheSame old new = (q : ℕ) → lookup (nat_eq q) new ≡ lookup (nat_eq q) old
