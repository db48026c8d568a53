use Rattle.std.proofs.Common.{◌≡◌, ◌++◌, drop}
use Rattle.std.specs.Prelude.{flat_map}
use Rattle.alp_report.specs.Replies.{byte_text}
use Rattle.alp_report.proofs.pages.put_bytes.Given as goal

abbrev pub invariant-loop-byte : goal.invariant-loop-byte
invariant-loop-byte l = l.out.items ++ flat_map byte_text (drop l.byte-index l.bytes) ≡ l.fn.out.items ++ flat_map byte_text l.bytes
