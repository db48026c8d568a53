use Rattle.std.proofs.Common.{refl, ◌∙◌, ap}
use Rattle.alp_store.specs.Holding.{MayLeave}
use Rattle.alp_store.specs.Shelves.{shelf_log}
use Rattle.alp_store.specs.StoreStates.{StoreOf}
use Rattle.alp_store.proofs.RightLaws.{store_adds, store_adds_no_more}
use Rattle.alp_store.proofs.store.StoreVault.recover.Goals as goal

pub returns-in-Ok-clause-time : goal.returns-in-Ok-clause-time
returns-in-Ok-clause-time g c =
    store_adds g.D.Disk c.args.self _ c.into_log.result (shelf_log c.in-Ok.shelf) (MayLeave g.D.Disk (shelf_log c.in-Ok.shelf)) (c.into_log.ensures ∙ ap (λ (x : StoreOf g.row.D.Denot). x.log) c.self.view_is) refl c.in-Ok.ensures.time

pub returns-in-Err-clause-time : goal.returns-in-Err-clause-time
returns-in-Err-clause-time g c =
    store_adds_no_more g.D.Disk c.args.self _ c.into_log.result c.in-Err.log (c.into_log.ensures ∙ ap (λ (x : StoreOf g.row.D.Denot). x.log) c.self.view_is) refl c.in-Err.ensures.time
