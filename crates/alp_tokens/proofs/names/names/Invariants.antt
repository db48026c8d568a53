use Rattle.std.proofs.Common.{◌≡◌, ◌++◌, drop, length}
use Rattle.std.specs.List.{list_all}
use Rattle.alp_base.specs.Names.{is_name}
use Rattle.alp_tokens.specs.Words.{shown}
use Rattle.alp_tokens.proofs.names.names.Given as goal

abbrev pub invariant-loop-word : goal.invariant-loop-word
invariant-loop-word l = record {
  kept : l.names.items ++ shown (drop l.word-index l.words) ≡ shown l.words;
  many : length l.names.items ≡ l.word-index;
  named : list_all is_name (shown (drop l.word-index l.words)) ≡ list_all is_name (shown l.words);
}
