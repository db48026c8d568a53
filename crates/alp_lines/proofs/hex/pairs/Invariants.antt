use Rattle.std.proofs.Common.{◌≡◌, ◌*◌, ◌++◌, drop}
use Rattle.alp_lines.specs.Hex.{pairs_of}
use Rattle.alp_lines.proofs.hex.pairs.Given as goal

abbrev pub invariant-loop-pair : goal.invariant-loop-pair
invariant-loop-pair l = l.bytes.items ++ pairs_of (drop (2 * l.pair) l.word) ≡ pairs_of l.word
