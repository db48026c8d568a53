use Rattle.std.proofs.Common.{sym, ◌∙◌, ap}
use Rattle.alp_store.specs.Shelves.{shelf_log, stage_log}
use Rattle.alp_store.specs.StoreStates.{StoreOf}
use Rattle.alp_store.specs.declared.stage.Stage.{Stage}
use Rattle.alp_store.proofs.RightLaws.{stored_crash}
use Rattle.alp_store.proofs.store.StoreVault.commit.Goals as goal

pub returns-in-Ok-clause-crash : goal.returns-in-Ok-clause-crash
returns-in-Ok-clause-crash g c = stored_crash g.D.Disk c.args.change.now c.args.notes.now (shelf_log c.in-Open.shelf) (shelf_log c.commit-done.new.self) c.args.self.now.log
    (ap (λ (x : Stage g.row.D.Denot). stage_log x) (sym c.in-Open.is) ∙ ap (λ (x : StoreOf g.row.D.Denot). x.log) c.self.view_is) c.commit-done.ensures.crash

pub returns-in-Err-clause-crash : goal.returns-in-Err-clause-crash
returns-in-Err-clause-crash g c = stored_crash g.D.Disk c.args.change.now c.args.notes.now (shelf_log c.in-Open.shelf) (shelf_log c.commit-done.new.self) c.args.self.now.log
    (ap (λ (x : Stage g.row.D.Denot). stage_log x) (sym c.in-Open.is) ∙ ap (λ (x : StoreOf g.row.D.Denot). x.log) c.self.view_is) c.commit-done.ensures.crash
