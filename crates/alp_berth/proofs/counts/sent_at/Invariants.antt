use Rattle.std.proofs.Common.{◌≡◌, ◌+◌, length, take}
use Rattle.alp_berth.specs.Sends.{sent_by}
use Rattle.alp_berth.proofs.counts.sent_at.Given as goal

abbrev pub invariant-loop-act : goal.invariant-loop-act
invariant-loop-act l = l.place ≡ length (sent_by (take l.act-index l.acts)) + l.left
