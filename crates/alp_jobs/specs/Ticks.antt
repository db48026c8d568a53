-- When a client thread gives Ticks, without its lines and what it knows.
use Rattle.std.specs.Prelude.{◌≡◌, ℕ, List, [], ◌∷◌, Option, None, Some, if◌then◌else◌}
use Rattle.alp_jobs.specs.Deeds.{Deed, sends, gives_tick, gives_timeout, waits_on}

-- Each collect that is answered that its call waits is followed by one Tick at its server, and no other deed is. Where a server is named a
-- Tick is due there first.
abbrev pub AreTicked : Option ℕ → List Deed → Type 0
AreTicked None [] = Unit {0}
AreTicked (Some server) [] = ⊥
AreTicked None (sends x ∷ ds) = AreTicked (if waits_on x then Some x.server else None) ds
AreTicked (Some server) (sends x ∷ ds) = ⊥
AreTicked None (gives_tick there ∷ ds) = ⊥
AreTicked (Some server) (gives_tick there ∷ ds) = (there ≡ server) × AreTicked None ds
AreTicked None (gives_timeout there t ∷ ds) = AreTicked None ds
AreTicked (Some server) (gives_timeout there t ∷ ds) = ⊥
