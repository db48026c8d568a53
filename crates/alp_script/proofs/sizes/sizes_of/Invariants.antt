use Rattle.std.proofs.Common.{◌≡◌, drop}
use Rattle.std.specs.Prelude.{None}
use Rattle.std.specs.List.{filter_map, last_or}
use Rattle.alp_script.specs.Volumes.{sizes_in as sizes_in_said}
use Rattle.alp_script.proofs.sizes.sizes_of.Given as goal

abbrev pub invariant-loop-line : goal.invariant-loop-line
invariant-loop-line l =
    last_or l.said (filter_map (λ m. sizes_in_said l.server m.line) (drop l.line-index l.lines)) ≡ last_or None (filter_map (λ m. sizes_in_said l.server m.line) l.lines)
