use Rattle.std.proofs.Common.{sym, ◌∙◌, ap, subst}
use Rattle.alp_anchor.specs.declared.anchor.Anchor.{Anchor}
use Rattle.alp_disk.specs.Calls.{Looked}
use Rattle.alp_wal.specs.Reading.{Reads}
use Rattle.alp_wal.specs.Wal.{disk_of, anchor_of, IsLog}
use Rattle.alp_wal.specs.declared.wal.Wal.{Wal}
use Rattle.alp_store.specs.Told.{told_by}
use Rattle.alp_store.proofs.OpenLaws.{open_holds, open_below, open_why}
use Rattle.alp_store.proofs.open.open.Goals as goal

pub returns-clause-holds : goal.returns-clause-holds
returns-clause-holds g c told =
    let p = c.in-Ok-buffered.pages in
    let back = sym c.in-Ok-buffered.ensures.log in
    let looked = subst (λ (w : Wal g.row.D.Denot). Looked g.D.Disk c.args.disk (disk_of w)) back c.in-Ok.ensures.below in
    let reads = subst (λ (w : Wal g.row.D.Denot). Reads c.args.server c.args.servers (g.D.Disk.size c.args.disk) (g.D.Disk.seen c.args.disk) (told_by g.D.Disk w)) back (c.in-Ok.ensures.reads told) in
    let anchor = ap (λ (w : Wal g.row.D.Denot). anchor_of w) c.in-Ok-buffered.ensures.log in
    open_holds g.D.Disk c.args.disk c.args.server c.args.servers p looked (λ _. reads) (ap (λ (a : Anchor). a.server) anchor ∙ c.in-Ok.ensures.named.0) (ap (λ (a : Anchor). a.servers) anchor ∙ c.in-Ok.ensures.named.1)
    c.shelve.result c.shelve.ensures.shelf c.shelve.ensures.read told

pub returns-clause-below : goal.returns-clause-below
returns-clause-below g c =
    let p = c.in-Ok-buffered.pages in
    let looked = subst (λ (w : Wal g.row.D.Denot). Looked g.D.Disk c.args.disk (disk_of w)) (sym c.in-Ok-buffered.ensures.log) c.in-Ok.ensures.below in
    open_below g.D.Disk c.args.disk c.args.server c.args.servers p looked c.shelve.result c.shelve.ensures.read c.shelve.ensures.cause.later

pub returns-clause-why_not : goal.returns-clause-why_not
returns-clause-why_not g c told =
    let p = c.in-Ok-buffered.pages in
    let back = sym c.in-Ok-buffered.ensures.log in
    let looked = subst (λ (w : Wal g.row.D.Denot). Looked g.D.Disk c.args.disk (disk_of w)) back c.in-Ok.ensures.below in
    let reads = subst (λ (w : Wal g.row.D.Denot). Reads c.args.server c.args.servers (g.D.Disk.size c.args.disk) (g.D.Disk.seen c.args.disk) (told_by g.D.Disk w)) back (c.in-Ok.ensures.reads told) in
    let log = subst (λ (w : Wal g.row.D.Denot). IsLog (g.D.Disk.size (disk_of w)) w) back c.in-Ok.ensures.log in
    open_why g.D.Disk c.args.disk c.args.server c.args.servers p looked log (λ _. reads) c.shelve.result c.shelve.ensures.volume c.shelve.ensures.damaged told
