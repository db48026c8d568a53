use Rattle.std.specs.Prelude.{Result, IsTrue, OnOk}
use Rattle.std.proofs.Common.{◌≡◌, ◌≤◌, sym, ◌∙◌, ap, subst, arith}
use Rattle.alp_anchor.specs.declared.anchor.Anchor.{Anchor}
use Rattle.alp_base.specs.declared.faults.VaultFault.{VaultFault}
use Rattle.alp_format.specs.Format.{first_anchor}
use Rattle.alp_base.specs.Crashes.{LeavesOnly}
use Rattle.alp_pool.specs.Pools.{log_of, device_of}
use Rattle.alp_wal.specs.Calls.{Becomes}
use Rattle.alp_wal.specs.Live.{batch_pages}
use Rattle.alp_wal.specs.State.{State, applied}
use Rattle.alp_wal.specs.Wal.{disk_of, anchor_of, room_of}
use Rattle.alp_wal.specs.declared.wal.Wal.{Wal}
use Rattle.alp_store.specs.Starts.{header_batch, Making}
use Rattle.alp_store.specs.Told.{told_by}
use Rattle.alp_store.proofs.CreateLaws.{made_empty, made_volume, made_anchored}
use Rattle.alp_store.proofs.NewLaws.{header_small}
use Rattle.alp_store.proofs.MakingLaws.{header_put, shelved}
use Rattle.alp_store.proofs.new_volume.made.Goals as goal

pub returns-in-Err-put_header-clause-moment : goal.returns-in-Err-put_header-clause-moment
returns-in-Err-put_header-clause-moment g c told =
    let p = c.in-Ok.pages in
    let q = c.put_header.new.pages in
    let k = c.in-Ok.ensures in
    let there = subst IsTrue (sym k.below.tells) told in
    let header =
    header_put g.D.Disk c.args.server c.args.servers c.args.sizes c.args.disk (device_of p) (device_of q) (anchor_of (log_of p)) (told_by g.D.Disk (log_of p)) k.anchor k.below.size (k.told told) (k.moment told) (c.put_header.ensures.crash there) in
    let last = c.close-in-Err-put_header.ensures ∙ ap (λ (w : Wal g.row.D.Denot). disk_of w) c.close.ensures in
    subst (λ (e : g.row.D.Denot). LeavesOnly g.D.Disk.left_since c.args.disk e (Making c.args.server c.args.servers (g.D.Disk.size c.args.disk) c.args.sizes (g.D.Disk.may_leave c.args.disk))) (sym last) header

pub returns-clause-moment : goal.returns-clause-moment
returns-clause-moment g c told =
    let p = c.in-Ok.pages in
    let q = c.put_header.new.pages in
    let k = c.in-Ok.ensures in
    let there = subst IsTrue (sym k.below.tells) told in
    let header =
    header_put g.D.Disk c.args.server c.args.servers c.args.sizes c.args.disk (device_of p) (device_of q) (anchor_of (log_of p)) (told_by g.D.Disk (log_of p)) k.anchor k.below.size (k.told told) (k.moment told) (c.put_header.ensures.crash there) in
    shelved g.D.Disk c.args.server c.args.servers c.args.sizes g.met.D.Disk.counts_now c.args.disk q c.shelve.result c.shelve.ensures.read header

pub returns-clause-empty : goal.returns-clause-empty
returns-clause-empty g c told =
    let p = c.in-Ok.pages in
    let q = c.put_header.new.pages in
    let there = subst IsTrue (sym c.in-Ok.ensures.below.tells) told in
    let becomes = subst (λ (r : Result (Unit {0}) VaultFault). Becomes r (told_by g.D.Disk (log_of p)) (applied (told_by g.D.Disk (log_of p)) header_batch) (told_by g.D.Disk (log_of q))) c.in_default.is (c.put_header.ensures.becomes there) in
    let state = becomes ∙ ap (λ (s : State). applied s header_batch) (c.in-Ok.ensures.told told) in
    made_empty g.D.Disk q c.args.sizes c.requires.sizes.least_home state c.shelve.result c.shelve.ensures.read

pub returns-clause-volume : goal.returns-clause-volume
returns-clause-volume g c told =
    let p = c.in-Ok.pages in
    let q = c.put_header.new.pages in
    let there = subst IsTrue (sym c.in-Ok.ensures.below.tells) told in
    let becomes = subst (λ (r : Result (Unit {0}) VaultFault). Becomes r (told_by g.D.Disk (log_of p)) (applied (told_by g.D.Disk (log_of p)) header_batch) (told_by g.D.Disk (log_of q))) c.in_default.is (c.put_header.ensures.becomes there) in
    let state = becomes ∙ ap (λ (s : State). applied s header_batch) (c.in-Ok.ensures.told told) in
    let now = subst IsTrue (sym c.put_header.ensures.same.tells) there in
    made_volume g.D.Disk q c.args.sizes c.requires.sizes.least_home state c.shelve.result (c.put_header.ensures.same.volume.sizes ∙ ap (λ (a : Anchor). a.sizes) c.in-Ok.ensures.anchor) (c.shelve.ensures.damaged now) c.shelve.ensures.volume

pub returns-clause-anchor : goal.returns-clause-anchor
returns-clause-anchor g c =
    let p = c.in-Ok.pages in
    let q = c.put_header.new.pages in
    let stays = subst (λ (r : Result (Unit {0}) VaultFault). OnOk r (batch_pages header_batch ≤ room_of (log_of p) → anchor_of (log_of q) ≡ anchor_of (log_of p))) c.in_default.is c.put_header.ensures.anchor in
    let enough : 64 ≤ room_of (log_of p) = omega (arith, c.in-Ok.ensures.room, c.requires.sizes.least_area) in
    made_anchored g.D.Disk q (first_anchor c.args.server c.args.servers c.args.sizes) (stays (header_small (room_of (log_of p)) enough) ∙ c.in-Ok.ensures.anchor) c.shelve.result c.shelve.ensures.read
