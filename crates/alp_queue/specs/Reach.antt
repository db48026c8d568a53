-- one mode that covers all that a transaction holds
use Rattle.std.specs.Prelude.{◌≡◌, Bool, false, not, List, [], ◌∷◌, Option, None, Some, IsTrue}
use Rattle.alp_base.specs.declared.key.Resource.{Resource}
use Rattle.alp_modes.specs.declared.Mode.{Mode}
use Rattle.alp_modes.specs.Modes.{agree, covers_of, join_of}

-- that mode where one more is held
abbrev pub reach_with : Option Mode → Mode → Mode
reach_with None m = m
reach_with (Some a) m = join_of a m

-- that mode where all of these are held too
abbrev pub reach_of : Option Mode → List (Resource × Mode) → Option Mode
reach_of a [] = a
reach_of a (e ∷ es) = reach_of (Some (reach_with a e.1)) es

-- it covers the mode
abbrev pub reaches : Option Mode → Mode → Bool
reaches None m = false
reaches (Some a) m = covers_of a m

-- it covers each mode that is held
abbrev pub IsReach : Option Mode → (Resource → Option Mode) → Type 0
IsReach a held = (r : Resource) (m : Mode) → held r ≡ Some m → IsTrue (reaches a m)

-- a mode is held there that does not agree with that one
abbrev pub disagrees_with : Mode → Option Mode → Bool
disagrees_with m None = false
disagrees_with m (Some a) = not (agree a m)
