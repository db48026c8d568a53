use Rattle.std.proofs.Common.{◌≡◌, length, []}
use Rattle.std.specs.List.{AllByRecursion}
use Rattle.alp_cluster.proofs.cluster.new_lists.Given as goal

abbrev pub invariant-loop-place : goal.invariant-loop-place
invariant-loop-place l = record { many : length l.lists.items ≡ l._place; empty : AllByRecursion (λ x. x.items ≡ []) l.lists.items }
