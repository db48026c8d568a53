use Rattle.std.specs.Prelude.{IsTrue, Err, Ok, Bool, cond}
use Rattle.std.proofs.Common.{◌≡◌, ℕ, sym, ap, subst, ⊎_elim}
use Rattle.alp_anchor.specs.declared.anchor.Anchor.{Anchor}
use Rattle.alp_notes.specs.Held.{Held}
use Rattle.alp_files.specs.Cells.{Cells}
use Rattle.alp_pages.specs.Pages.{Pages}
use Rattle.alp_pool.specs.Pools.{log_of, device_of}
use Rattle.alp_pool.specs.declared.pool.Pool.{Pool}
use Rattle.alp_volume.specs.declared.catalog.Catalog.{Catalog}
use Rattle.alp_volume.specs.Drafts.{IsPlanned}
use Rattle.alp_volume.specs.Known.{IsCatalog}
use Rattle.alp_wal.specs.Wal.{anchor_of, notes_of}
use Rattle.alp_store.specs.Batches.{IsLoggable, AreBelow, batch_of}
use Rattle.alp_store.specs.Commits.{HasStored}
use Rattle.alp_store.specs.Reads.{IsReadOn, home_of}
use Rattle.alp_store.specs.Shelves.{shelf_log}
use Rattle.alp_store.specs.Told.{pages_of, told_by, contents_of}
use Rattle.alp_store.proofs.PutLaws.{put_read}
use Rattle.alp_store.proofs.StoredLaws.{stored_ok, stored_err, stored_nothing}
use Rattle.alp_store.proofs.shelf.Shelf.commit.Goals as goal

-- how many pages there are, while the log goes on
planned_here : (home here : ℕ) → here ≡ home → (at : Pages) (m : Cells) (k : Catalog) → {after : Pages} {later : Cells} {c : Catalog} → IsPlanned home at m k → (IsPlanned here at m k → IsPlanned here after later c) → IsPlanned home after later c
planned_here home here same at m k {after} {later} {c} is plan = subst (λ (h : ℕ). IsPlanned h after later c) same (plan (subst (λ (h : ℕ). IsPlanned h at m k) (sym same) is))

pub put_plan-requires-clause-loggable : goal.put_plan-requires-clause-loggable
put_plan-requires-clause-loggable g c =
    let read = c.plan_change.ensures.read.on in
    let w = shelf_log c.args.self.now in
    let here : IsLoggable (anchor_of w).server (anchor_of w).servers (anchor_of w).sizes.area (notes_of w) c.args.change.now c.in-Ok.draft.pages c.args.notes.now =
    record { few = c.in-Ok.ensures.few; noted = c.requires.asked.noted; log = c.requires.asked.log; area_most = c.requires.shelf.store.sizes.most_area } in (
      c.args.change.now,
      subst (λ (t : Anchor × Held). IsLoggable t.0.server t.0.servers t.0.sizes.area t.1.notes c.args.change.now c.in-Ok.draft.pages c.args.notes.now) (λ i. (sym read.same.anchor i, sym read.same.notes i)) here,
    )

pub returns-in-Err : goal.returns-in-Err
returns-in-Err g c =
    let s = c.args.self.now in
    let why = c.in-Err.ensures.read.cause in
    subst (λ (k : Catalog). HasStored {T = Unit {0}} g.D.Disk c.args.change.now c.args.notes.now s (record { pages = c.plan_change.new.reader; catalog = k }) (Err c.in-Err.fault)) (sym c.in-Err.ensures.same)
    (stored_nothing g.D.Disk g.met.D.Disk.counts_now g.met.D.Disk.only_now c.args.change.now c.args.notes.now s c.requires.shelf (λ told. c.knows.ensures.known told c.requires.shelf.alive) c.plan_change.new.reader c.plan_change.ensures.read.on c.in-Err.fault
    (record { later = why.later; still = why.still; cause = why.cause; volume = why.volume }))

pub returns : goal.returns
returns g c =
    let s = c.args.self.now in
    let w = shelf_log s in
    let read = c.plan_change.ensures.read.on in
    let pages = c.in-Ok.draft.pages in
    let notes = c.args.notes.now in
    let home = (anchor_of w).sizes.home in
    let alive_home : home_of s.pages ≡ home = ap (λ (b : Bool). cond b 0 home) c.requires.shelf.alive in
    let put = put_read g.D.Disk g.met.D.Disk.only_now s.pages c.plan_change.new.reader (log_of c.put_plan.new.pages) (batch_of pages notes) (Ok c.in_default.field-0) read c.in-Ok.ensures.read.cause.still (λ told. c.knows.ensures.known told c.requires.shelf.alive) c.in_default.ensures.put in
    let below : AreBelow home pages = subst (λ (a : Anchor). AreBelow a.sizes.home pages) read.same.anchor (⊎_elim (λ low. low) (λ no_batch. cc (no_batch.1)) c.in_default.ensures.below) in
    stored_ok g.D.Disk g.met.D.Disk.counts_now c.args.change.now notes s c.requires.shelf c.put_plan.new.pages pages below c.plan_change.new.catalog (subst (λ (h : ℕ). IsCatalog h c.plan_change.new.catalog) alive_home c.plan_change.ensures.sized)
    (λ told. planned_here home (home_of s.pages) alive_home (pages_of (told_by g.D.Disk w)) (contents_of g.D.Disk w).cells s.catalog (c.requires.shelf.knows told)
    (λ p. c.in-Ok.ensures.planned (contents_of g.D.Disk w).cells p.stands told p.knows (c.requires.room told).sound))
    c.in_default.field-0 put

pub returns-in-Err-put_plan : goal.returns-in-Err-put_plan
returns-in-Err-put_plan g c =
    let s = c.args.self.now in
    let w = shelf_log s in
    let read = c.plan_change.ensures.read.on in
    let pages = c.in-Ok.draft.pages in
    let notes = c.args.notes.now in
    let f = c.in-Err-put_plan.fault in
    let home = (anchor_of w).sizes.home in
    let known = λ (told : IsTrue (g.D.Disk.tells (device_of s.pages))). c.knows.ensures.known told c.requires.shelf.alive in
    let alive_home : home_of s.pages ≡ home = ap (λ (b : Bool). cond b 0 home) c.requires.shelf.alive in
    let put = put_read g.D.Disk g.met.D.Disk.only_now s.pages c.plan_change.new.reader (log_of c.put_plan.new.pages) (batch_of pages notes) (Err f) read c.in-Ok.ensures.read.cause.still known c.in-Err-put_plan.ensures.put in
    subst (λ (k : Catalog). HasStored {T = Unit {0}} g.D.Disk c.args.change.now notes s (record { pages = c.put_plan.new.pages; catalog = k }) (Err f)) (sym (c.take_back.ensures s.catalog c.in-Ok.ensures.back))
    (⊎_elim
    (λ low. stored_err g.D.Disk g.met.D.Disk.counts_now c.args.change.now notes s c.requires.shelf c.put_plan.new.pages pages (subst (λ (a : Anchor). AreBelow a.sizes.home pages) read.same.anchor low) c.plan_change.new.catalog (subst (λ (h : ℕ). IsCatalog h c.plan_change.new.catalog) alive_home c.plan_change.ensures.sized)
    (λ told. planned_here home (home_of s.pages) alive_home (pages_of (told_by g.D.Disk w)) (contents_of g.D.Disk w).cells s.catalog (c.requires.shelf.knows told)
    (λ p. c.in-Ok.ensures.planned (contents_of g.D.Disk w).cells p.stands told p.knows (c.requires.room told).sound))
    known f put)
    (λ same. stored_nothing g.D.Disk g.met.D.Disk.counts_now g.met.D.Disk.only_now c.args.change.now notes s c.requires.shelf known c.put_plan.new.pages (subst (λ (p : Pool g.row.D.Denot). IsReadOn g.D.Disk s.pages p) (sym same.0) read) f put.cause)
    c.in-Err-put_plan.ensures.below)
