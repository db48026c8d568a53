use Rattle.std.proofs.Common.{◌≡◌, ◌*◌, ◌^◌, ◌≤◌, take}
use Rattle.alp_report.specs.Sections.{charges_of}
use Rattle.alp_report.proofs.summary.charges.Given as goal

abbrev pub invariant-loop-owner : goal.invariant-loop-owner
invariant-loop-owner l = (l.total ≡ charges_of (take l.owner-index l.owners)) × (l.total ≤ l.owner-index * 2 ^ 32)
