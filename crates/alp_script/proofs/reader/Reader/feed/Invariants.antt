use Rattle.std.proofs.Common.{◌≡◌, ◌+◌, ◌≤◌, ℕ, List, ◌++◌, length, take, drop}
use Rattle.alp_script.specs.Progress.{resume, room, line_ends, unended}
use Rattle.alp_script.specs.declared.numbered.TheConstants.{SCRIPT_LINES_MOST}
use Rattle.alp_tokens.specs.declared.words.TheConstants.{LINE_BYTES}
use Rattle.alp_script.proofs.reader.Reader.feed.Given as goal

abbrev pub invariant-loop-byte : goal.invariant-loop-byte
invariant-loop-byte l = record {
  same : (rest : List ℕ) → resume l.fn.self (l.piece ++ rest) ≡ resume l.self (drop l.byte-index l.piece ++ rest);
  counted : l.self.lines ≡ l.fn.self.lines + line_ends (take l.byte-index l.piece);
  few : l.fn.self.lines ≤ SCRIPT_LINES_MOST → l.self.lines ≤ SCRIPT_LINES_MOST;
  held : unended l.self.partial ≡ unended (l.fn.self.partial ++ take l.byte-index l.piece);
  short : length l.fn.self.partial ≤ LINE_BYTES + 1 → length l.self.partial ≤ LINE_BYTES + 1;
  nearer : room l.self + l.byte-index ≤ room l.fn.self;
}
