use Rattle.std.proofs.Common.{◌≡◌, ◌≤◌, ◌*◌, ◌^◌, sum_by, take}
use Rattle.alp_tables.specs.Costs.{cost_to}
use Rattle.alp_tables.proofs.costs.charge_of.Given as goal

abbrev pub invariant-loop-cost : goal.invariant-loop-cost
invariant-loop-cost l = record { sum : l.charge ≡ sum_by (cost_to l.owner) (take l.cost-index l.costs); few : l.charge ≤ 2 ^ 32 * l.cost-index }
