use Rattle.std.proofs.Common.{◌≡◌, ◌++◌, filter, drop}
use Rattle.alp_tokens.specs.Words.{is_word, shown}
use Rattle.alp_tokens.proofs.words.words_in.Given as goal

abbrev pub invariant-loop-part : goal.invariant-loop-part
invariant-loop-part l = shown l.words.items ++ filter is_word (shown (drop l.part-index l.part-items)) ≡ filter is_word (shown l.part-items)
