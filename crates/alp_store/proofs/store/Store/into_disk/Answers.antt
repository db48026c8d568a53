use Rattle.std.proofs.Common.{sym, ◌∙◌, ap, subst}
use Rattle.alp_store.specs.Shelves.{IsServing, stage_log}
use Rattle.alp_store.specs.StoreStates.{StoreOf}
use Rattle.alp_store.specs.declared.stage.Stage.{Stage}
use Rattle.alp_wal.specs.Wal.{disk_of}
use Rattle.alp_wal.specs.declared.wal.Wal.{Wal}
use Rattle.alp_store.proofs.KnowLaws.{disk_holds, leaves_some}
use Rattle.alp_store.proofs.store.Store.into_disk.Goals as goal

pub returns-in-Open-clause-holds : goal.returns-in-Open-clause-holds
returns-in-Open-clause-holds g c told serving =
    let open_ = subst (λ (x : Stage g.row.D.Denot). IsServing g.D.Disk x) c.in-Open.is (c.self.invariant.serving (ap (λ (x : StoreOf g.row.D.Denot). x.serves) c.self.view_is ∙ serving)) in
    let last = c.close-in-Open.ensures ∙ ap (λ (w : Wal g.row.D.Denot). disk_of w) c.close.ensures ∙ ap (λ (x : Stage g.row.D.Denot). disk_of (stage_log x)) (sym c.in-Open.is) ∙ ap (λ (x : StoreOf g.row.D.Denot). disk_of x.log) c.self.view_is in
    disk_holds g.D.Disk c.self.inside.stage c.self.inside.serves c.args.self c.self.view_is c.self.invariant.store c.in-Open.shelf c.in-Open.is open_ (λ there. c.knows.ensures.known there open_.alive) c.close-in-Open.result last told

pub returns-in-Open-clause-whole : goal.returns-in-Open-clause-whole
returns-in-Open-clause-whole g c =
    let last = c.close-in-Open.ensures ∙ ap (λ (w : Wal g.row.D.Denot). disk_of w) c.close.ensures ∙ ap (λ (x : Stage g.row.D.Denot). disk_of (stage_log x)) (sym c.in-Open.is) ∙ ap (λ (x : StoreOf g.row.D.Denot). disk_of x.log) c.self.view_is in
    leaves_some g.D.Disk c.self.inside.stage c.self.inside.serves c.args.self c.self.view_is c.self.invariant.store c.close-in-Open.result last

pub returns-in-Fallen-clause-whole : goal.returns-in-Fallen-clause-whole
returns-in-Fallen-clause-whole g c =
    let last = c.close-in-Fallen.ensures ∙ ap (λ (x : Stage g.row.D.Denot). disk_of (stage_log x)) (sym c.in-Fallen.is) ∙ ap (λ (x : StoreOf g.row.D.Denot). disk_of x.log) c.self.view_is in
    leaves_some g.D.Disk c.self.inside.stage c.self.inside.serves c.args.self c.self.view_is c.self.invariant.store c.close-in-Fallen.result last
