-- What stands in a bay of believed devices.
use Rattle.std.specs.Prelude.{ℕ, List, Option, None, get_or}
use Rattle.std.specs.Option.{option_map}
use Rattle.alp_disk.specs.declared.disk.Disk.{Ghosts}
use Rattle.alp_belief.specs.declared.believed.Believed.{Believed}
use Rattle.alp_belief.specs.declared.believed_bay.Standing.{Standing}

-- the device at a server's place, if any
abbrev pub believed_at : {D : Type 0} {G : Ghosts D} → List (Option (Standing D G)) → ℕ → Option (Believed D G)
believed_at places server = option_map (λ standing. standing.device) (get_or places server None)
