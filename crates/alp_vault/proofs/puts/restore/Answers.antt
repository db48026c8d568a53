use Rattle.std.proofs.Common.{sym, ◌∙◌}
use Rattle.alp_files.proofs.UndoLemmas.{put_over}
use Rattle.alp_vault.proofs.PutLemmas.{one_gone}
use Rattle.alp_vault.proofs.puts.restore.Goals as goal

pub returns-in-Some : goal.returns-in-Some
returns-in-Some c m cell stood put =
    put_over m c.args.cells.now c.put.new.self c.args.key cell c.in-Some.cell (sym c.in-Some.is ∙ stood) put c.put.result c.put.ensures.ok c.put.ensures.absent

pub returns-in-None : goal.returns-in-None
returns-in-None c m cell stood put = one_gone m c.args.cells.now c.remove.new.self c.args.key cell (sym stood ∙ c.in-None.is) put c.remove.ensures
