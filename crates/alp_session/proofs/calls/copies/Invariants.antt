use Rattle.std.proofs.Common.{◌≡◌, replicate}
use Rattle.alp_session.proofs.calls.copies.Given as goal

abbrev pub invariant-loop-copy : goal.invariant-loop-copy
invariant-loop-copy l = l.pages.items ≡ replicate l._copy l.page
