use Rattle.std.proofs.Common.{refl, sym, ◌∙◌, ap, subst}
use Rattle.alp_base.specs.Crashes.{Adds}
use Rattle.alp_pool.specs.Pools.{log_of}
use Rattle.alp_store.specs.Holding.{MayLeave, LeftSince}
use Rattle.alp_store.specs.Shelves.{IsRight, shelf_log, stage_log}
use Rattle.alp_store.specs.StoreStates.{StoreOf}
use Rattle.alp_store.specs.declared.stage.Stage.{Stage}
use Rattle.alp_store.specs.declared.store.Store.TheInside.{Inside}
use Rattle.alp_store.proofs.RightLaws.{right_open, right_fallen, store_adds}
use Rattle.alp_store.proofs.VaultLaws.{limited_time}
use Rattle.alp_store.proofs.store.StoreVault.stop_after.Goals as goal
use Rattle.alp_store.proofs.store.StoreVault.stop_after.Goals.{in-Open, in-Fallen}

pub invariant_of-self : goal.invariant_of-self
invariant_of-self g c = elim c.match-self.branch [
  | in-Open w ↦ (
      let i = c.self.inside in
      subst (λ (s : Inside g.row.D.Denot). IsRight g.D.Disk s.server s.servers s.serves s.stage) (sym w.self-inside-is)
      (right_open g.D.Disk i.server i.servers i.serves w.in-Open.shelf w.stop_after.new.self c.args.calls w.stop_after.ensures.same w.stop_after.ensures.below (subst (λ (st : Stage g.row.D.Denot). IsRight g.D.Disk i.server i.servers i.serves st) w.in-Open.is c.self.invariant))
      )
  | in-Fallen w ↦ (
      let i = c.self.inside in
      subst (λ (s : Inside g.row.D.Denot). IsRight g.D.Disk s.server s.servers s.serves s.stage) (sym w.self-inside-is)
      (right_fallen g.D.Disk i.server i.servers i.serves w.in-Fallen.log w.stop_after-in-Fallen.new.self c.args.calls w.stop_after-in-Fallen.ensures.same w.stop_after-in-Fallen.ensures.below (subst (λ (st : Stage g.row.D.Denot). IsRight g.D.Disk i.server i.servers i.serves st) w.in-Fallen.is c.self.invariant))
      )
]

pub returns-clause-time : goal.returns-clause-time
returns-clause-time g c = elim c.match-self.branch [
  | in-Open w ↦ (
      let p = w.stop_after.new.self in
      subst (λ (s : Inside g.row.D.Denot). Adds (λ (start x : StoreOf g.row.D.Denot). LeftSince g.D.Disk start.log x.log) c.args.self.now (record { log = stage_log s.stage; serves = s.serves }) (MayLeave g.D.Disk (stage_log s.stage))) (sym w.self-inside-is)
      (store_adds g.D.Disk c.args.self.now _ (shelf_log w.in-Open.shelf) (log_of p) (MayLeave g.D.Disk (log_of p)) (ap (λ (st : Stage g.row.D.Denot). stage_log st) (sym w.in-Open.is) ∙ ap (λ (x : StoreOf g.row.D.Denot). x.log) c.self.view_is) refl
      (limited_time g.D.Disk (shelf_log w.in-Open.shelf) (log_of p) c.args.calls w.stop_after.ensures.same w.stop_after.ensures.below))
      )
  | in-Fallen w ↦ (
      let l = w.stop_after-in-Fallen.new.self in
      subst (λ (s : Inside g.row.D.Denot). Adds (λ (start x : StoreOf g.row.D.Denot). LeftSince g.D.Disk start.log x.log) c.args.self.now (record { log = stage_log s.stage; serves = s.serves }) (MayLeave g.D.Disk (stage_log s.stage))) (sym w.self-inside-is)
      (store_adds g.D.Disk c.args.self.now _ w.in-Fallen.log l (MayLeave g.D.Disk l) (ap (λ (st : Stage g.row.D.Denot). stage_log st) (sym w.in-Fallen.is) ∙ ap (λ (x : StoreOf g.row.D.Denot). x.log) c.self.view_is) refl
      (limited_time g.D.Disk w.in-Fallen.log l c.args.calls w.stop_after-in-Fallen.ensures.same w.stop_after-in-Fallen.ensures.below))
      )
]
