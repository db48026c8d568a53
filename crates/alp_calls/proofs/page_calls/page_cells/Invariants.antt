use Rattle.std.specs.Prelude.{true}
use Rattle.std.proofs.Common.{◌≡◌, ◌+◌, ◌++◌, length, drop}
use Rattle.alp_files.specs.Act.{page_puts}
use Rattle.alp_files.specs.Undo.{puts_of}
use Rattle.alp_vault.specs.Volumes.{fit_keys}
use Rattle.alp_calls.proofs.page_calls.page_cells.Given as goal

abbrev pub invariant-loop-i : goal.invariant-loop-i
invariant-loop-i l = record {
  puts : puts_of l.puts.items ++ page_puts l.file (l.first + l.i) (drop l.i l.pages) ≡ page_puts l.fn.file l.fn.first l.pages;
  fit : fit_keys l.puts.items ≡ true;
  all : length l.puts.items ≡ l.i;
}
