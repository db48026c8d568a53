use Rattle.std.proofs.Common.{List, sym, subst}
use Rattle.std.specs.Prelude.{Option}
use Rattle.alp_base.specs.declared.key.Key.{Key}
use Rattle.alp_base.specs.declared.cell.Cell.{Cell}
use Rattle.alp_files.specs.Cells.{Cells}
use Rattle.alp_files.specs.Undo.{LedBy}
use Rattle.alp_files.proofs.UndoLemmas.{Last, LedBy-pop}
use Rattle.alp_vault.proofs.puts.take_back.Goals as goal

pub loop-key-preserved : goal.loop-key-preserved
loop-key-preserved c m led =
    let x : Key × Option Cell = (c.in-Some.key, c.in-Some.old) in
    let last : Last m c.pop.new.self.items x c.loop-key.cells =
    LedBy-pop m c.loop-key.cells c.pop.new.self.items x (subst (λ (xs : List (Key × Option Cell)). LedBy m xs c.loop-key.cells) c.in-Some.ensures.items (c.loop-key.invariant m led)) in
    subst (λ (s : Cells). LedBy m c.pop.new.self.items s) (sym (c.restore.ensures last.mid last.cell last.stood last.put)) last.led
