use Rattle.std.proofs.Common.{◌≡◌, ◌+◌, ◌-◌, ◌++◌}
use Rattle.std.specs.Option.{option_to_list}
use Rattle.alp_files.specs.Locks.{page_needs}
use Rattle.alp_node.proofs.needs.pages.Given as goal

abbrev pub invariant-loop-i : goal.invariant-loop-i
invariant-loop-i l = l.needs.items ++ page_needs l.file (l.run.first + l.i) (l.run.count - l.i) l.mode ≡ option_to_list l.fn.first ++ page_needs l.file l.run.first l.run.count l.mode
