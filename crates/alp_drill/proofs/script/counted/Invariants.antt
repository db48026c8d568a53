use Rattle.std.proofs.Common.{◌≡◌, ◌+◌, ◌++◌, length}
use Rattle.alp_drill.specs.Script.{counted}
use Rattle.alp_drill.proofs.script.counted.Given as goal

abbrev pub invariant-loop-line : goal.invariant-loop-line
invariant-loop-line l = record {
  script : l.script.items ++ counted (length l.script.items + 1) l.line-iterator.rest.items ≡ counted 1 l.fn.lines.items;
  count : length l.script.items + length l.line-iterator.rest.items ≡ length l.fn.lines.items;
}
