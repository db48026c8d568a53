use Rattle.std.specs.Prelude.{flat_map}
use Rattle.std.proofs.Common.{◌≡◌, ◌++◌, drop}
use Rattle.alp_report.specs.Sections.{owned_text}
use Rattle.alp_report.proofs.summary.put_all_owners.Given as goal

abbrev pub invariant-loop-held : goal.invariant-loop-held
invariant-loop-held l = l.out.items ++ flat_map owned_text (drop l.held-index l.servers) ≡ l.fn.out.items ++ flat_map owned_text l.servers
