use Rattle.std.proofs.Common.{arith}
use Rattle.alp_script.proofs.ScriptLemmas.{outside-byte, follows-byte, takes-flaw}
use Rattle.alp_script.proofs.reader.Reader.hold.Goals as goal

pub returns-then-len-gt-LINE_BYTES : goal.returns-then-len-gt-LINE_BYTES
returns-then-len-gt-LINE_BYTES c =
    rw c.flaw_at.ensures (takes-flaw (Unit {0}) _ c.args.self.now _ _ (rw (← c.self.view_is) (outside-byte _ _ c.requires c.self.invariant.open_ended (omega arith))))

pub returns : goal.returns
returns c = rw (c.in_ok-push.ensures.items, ← c.self.view_is) (follows-byte _ _ c.requires (omega arith))
