use Rattle.std.specs.Prelude.{flat_map}
use Rattle.std.proofs.Common.{◌≡◌, ◌++◌, drop}
use Rattle.alp_report.specs.Sections.{held_text}
use Rattle.alp_report.proofs.summary.put_servers.Given as goal

abbrev pub invariant-loop-held : goal.invariant-loop-held
invariant-loop-held l = l.out.items ++ flat_map held_text (drop l.held-index l.servers) ≡ l.fn.out.items ++ flat_map held_text l.servers
