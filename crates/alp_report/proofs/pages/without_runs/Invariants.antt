use Rattle.std.proofs.Common.{◌≡◌, ◌≤◌, length, take}
use Rattle.alp_report.specs.Replies.{shown_part}
use Rattle.alp_report.proofs.pages.without_runs.Given as goal

abbrev pub invariant-loop-len : goal.invariant-loop-len
invariant-loop-len l = (l.len ≤ length l.bytes) × (shown_part (take l.len l.bytes) ≡ shown_part l.bytes)

abbrev pub decreases-loop-len : goal.decreases-loop-len
decreases-loop-len l = l.len
