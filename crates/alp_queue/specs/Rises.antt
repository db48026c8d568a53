-- which modes are not those of before
use Rattle.std.specs.Prelude.{Bool, not, Option, None, Some}
use Rattle.std.specs.Option.{option_eq}
use Rattle.std.specs.FinMap as map
use Rattle.alp_base.specs.declared.key.Resource.{Resource}
use Rattle.alp_modes.specs.declared.Mode.{Mode}
use Rattle.alp_modes.specs.contracts.ModePartialEq.TheImpl as mode_eq
use Rattle.alp_base.specs.Orders.{resource_cmp}
use Rattle.alp_queue.specs.declared.wanted.Wanted.{Wanted}

-- what a transaction holds: a mode on each resource that it has locked
abbrev pub Held : Type 0
Held = map.FinMap resource_cmp Mode

-- a resource that is asked for, with what is held there
abbrev pub wanted_of : (Resource → Option Mode) → Resource × Mode → Wanted
wanted_of held e = record { resource = e.0; asked = e.1; held = held e.0 }

-- nothing is held there
abbrev pub unheld : Resource × Mode → Wanted
unheld e = record { resource = e.0; asked = e.1; held = None }

-- the mode on that resource is not the one of before
abbrev pub is_raised : Held → Resource × Mode → Bool
is_raised before e = not (option_eq (mode_eq.ghosts).eq (map.get before e.0) (Some e.1))
