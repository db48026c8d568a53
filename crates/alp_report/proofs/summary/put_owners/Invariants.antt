use Rattle.std.proofs.Common.{◌≡◌, ◌++◌, drop}
use Rattle.alp_report.specs.Reports.{owners_text}
use Rattle.alp_report.proofs.summary.put_owners.Given as goal

abbrev pub invariant-loop-owner : goal.invariant-loop-owner
invariant-loop-owner l = l.out.items ++ owners_text l.server (drop l.owner-index l.owners) ≡ l.fn.out.items ++ owners_text l.server l.owners
