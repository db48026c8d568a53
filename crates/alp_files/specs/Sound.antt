-- Files that are well formed and charged, and histories that keep them so.
use Rattle.std.specs.Prelude.{◌≡◌, ℕ, List, [], ◌∷◌, length}
use Rattle.std.specs.List.{AllByRecursion}
use Rattle.std.specs.FinMap as map
use Rattle.alp_files.specs.declared.call.Call.{Call}
use Rattle.alp_files.specs.declared.call.Call.TheVariants as call
use Rattle.alp_files.specs.Cells.{Cells}
use Rattle.alp_files.specs.Files.{AreFiles, AreCharged}
use Rattle.alp_files.specs.History.{PerformedCall, Standing, Decided, begun, steps}

-- well-formed files, whose owners' records hold their charges
abbrev pub AreSound : Cells → Type 0
AreSound m = AreFiles (map.get m) × AreCharged m

-- a write brings as many pages as its run has
abbrev pub HasItsPages : Call → Type 0
HasItsPages (call.WritePages trans open_no r pages choice) = length pages ≡ r.count
HasItsPages _ = Unit {0}

-- the writes of these transactions do
abbrev pub HaveTheirPages : List Decided → Type 0
HaveTheirPages decided = AllByRecursion (λ d. AllByRecursion (λ (c : PerformedCall). HasItsPages c.call) d.calls) decided

-- the files are sound after each transaction
abbrev pub IsSoundAfterEach : ℕ → Standing → List Decided → Type 0
IsSoundAfterEach server s [] = Unit {0}
IsSoundAfterEach server s (d ∷ ds) = AreSound (steps server (begun s) d.who d.calls).files × IsSoundAfterEach server (steps server (begun s) d.who d.calls) ds
