-- what the resources that are asked come to, each with what is held there
use Rattle.std.specs.Prelude.{Bool, not, ◌&&◌, cond, List, [], ◌∷◌, Some, is_some, map as list_map}
use Rattle.std.specs.List.{list_any}
use Rattle.std.specs.Option.{option_eq}
use Rattle.std.specs.FinMap as map
use Rattle.alp_base.specs.declared.key.Resource.{Resource}
use Rattle.alp_modes.specs.declared.Mode.{Mode}
use Rattle.alp_modes.specs.contracts.ModePartialEq.TheImpl as mode_eq
use Rattle.alp_queue.specs.declared.wanted.Wanted.{Wanted}
use Rattle.alp_queue.specs.Rises.{Held, wanted_of}
use Rattle.alp_locks.specs.Asks.{raised, joined}

-- the mode that a grant would leave there
abbrev pub mode_after : Wanted → Mode
mode_after w = raised w.held w.asked

-- it is another one than is held
abbrev pub is_rising : Wanted → Bool
is_rising w = not (option_eq (mode_eq.ghosts).eq w.held (Some (mode_after w)))

-- those that rise, with the modes that would be left
abbrev pub rising_in : List Wanted → List (Resource × Mode)
rising_in [] = []
rising_in (w ∷ ws) = cond (is_rising w) ((w.resource, mode_after w) ∷ rising_in ws) (rising_in ws)

-- each resource that the needs name, once and in order, with the modes that they ask on it joined and what is held there
abbrev pub wanted_in : Held → List (Resource × Mode) → List Wanted
wanted_in held ns = list_map (wanted_of (map.get held)) (map.entries (joined map.empty ns))

-- a lock is held on one that rises
abbrev pub is_converting : List Wanted → Bool
is_converting ws = list_any (λ w. is_rising w && is_some w.held) ws
