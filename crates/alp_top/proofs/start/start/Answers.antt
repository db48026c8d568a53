use Rattle.std.specs.Prelude.{IsTrue}
use Rattle.std.proofs.Common.{◌≡◌, ◌≤◌, ℕ, arith, refl, sym, ◌∙◌, ap, subst}
use Rattle.alp_base.specs.Crashes.{NoMore, Only}
use Rattle.alp_base.specs.declared.faults.Sizes.{Sizes}
use Rattle.alp_anchor.specs.declared.anchor.Anchor.{Anchor}
use Rattle.alp_disk.specs.Disk.{Image}
use Rattle.alp_node.specs.NodeStates.{NodeState}
use Rattle.alp_node.specs.Starts.{GaveFiles, HasStartCause, HasRaised, IsKeptOrRaised, IsNoteFault}
use Rattle.alp_node.specs.declared.start.StartFault.{StartFault}
use Rattle.alp_store.specs.Starts.{AreOfServer as StoredOfServer}
use Rattle.alp_store.specs.Holding.{Holds, HoldsBy}
use Rattle.alp_store.specs.Told.{contents_of}
use Rattle.alp_vault.specs.Contents.{Contents}
use Rattle.alp_vault.specs.Volumes.{AreServerNotes}
use Rattle.alp_vault.proofs.VolumeLemmas.{alone_so_far}
use Rattle.alp_store.specs.contracts.store.StoreVault.TheImpl as store_vault
use Rattle.alp_wal.specs.Wal.{disk_of, anchor_of}
use Rattle.alp_cluster.proofs.GoneLemmas.{stays_free}
use Rattle.alp_top.specs.Disks.{IsStarted, IsCountedStart}
use Rattle.alp_top.specs.Faults.{of_start}
use Rattle.alp_top.specs.Volumes.{pages_of, WhyNotBegun}
use Rattle.alp_top.specs.declared.fault.NoReport.{NoReport}
use Rattle.alp_top.proofs.BeginLemmas.{of_server, holds_by, new_on, opened_new, opened_bare, opened_on, not_opened, not_started, opened_counted, started_counted}
use Rattle.alp_top.proofs.start.start.Goals as goal

-- ---- the store did not start

pub returns-in-Err-clause-cause : goal.returns-in-Err-clause-cause
returns-in-Err-clause-cause g c told =
    let h = c.in-Err.ensures in
    let there : IsTrue (g.D.Disk.tells c.in-Err.disk) = subst IsTrue (sym h.below.tells) told in
    subst (λ (f : NoReport). WhyNotBegun g.D.Disk c.args.sizes c.args.server c.args.servers f c.args.disk c.in-Err.disk) (sym c.of_vault.ensures)
    (not_opened g.D.Disk c.args.sizes c.args.server c.args.servers c.args.disk c.in-Err.disk c.in-Err.fault h.cause.cause h.cause.still (stays_free _ _ h.below.allowance c.requires.free) (λ is. (h.new told is).volume) (λ old. h.why_not told old)
    (record { seen = λ old. (h.looked told old).seen; crash = λ old. (h.looked told old).crash })
    (λ is memory. (h.new told is).memory memory)
    (λ is. record { left = λ image may. (h.new told is).refused.within image (g.met.D.Disk.counts_now c.args.disk c.in-Err.disk image may); read = g.met.D.Disk.as_read c.in-Err.disk there }))

pub returns-in-Err-clause-counted : goal.returns-in-Err-clause-counted
returns-in-Err-clause-counted g c =
    let h = c.in-Err.ensures in
    subst (λ (f : NoReport). IsCountedStart c.args.server f (g.D.Disk.faults c.args.disk) (g.D.Disk.faults c.in-Err.disk)) (sym c.of_vault.ensures)
    (opened_counted c.args.server _ _ _ c.in-Err.fault h.cause.cause (stays_free _ _ h.below.allowance c.requires.free))

-- ---- the server did not

pub start-requires-2-clause-given : goal.start-requires-2-clause-given
start-requires-2-clause-given g c tells =
    let h = c.in-Ok.ensures in
    let told = subst IsTrue h.below.tells tells in
    of_server g.D.Disk c.args.sizes c.args.server c.args.disk (contents_of g.D.Disk c.in-Ok.store.log) (λ is. (h.new told is).empty)
    (λ old. subst (λ (k : ℕ). GaveFiles k (contents_of g.D.Disk c.in-Ok.store.log)) h.named.0 (h.mounted told old).own.files)

pub returns-in-Err-start-clause-cause : goal.returns-in-Err-start-clause-cause
returns-in-Err-start-clause-cause g c told =
    let G = g.D.Disk in
    let d = c.args.disk in
    let s = c.in-Ok.store.log in
    let h = c.in-Ok.ensures in
    let k = c.in-Err-start.ensures in
    let f : StartFault = c.in-Err-start.fault in
    let e = disk_of c.in-Err-start.store.log in
    let cause : HasStartCause (G.tells (disk_of s)) c.args.server c.args.servers (anchor_of s).sizes (contents_of G s) (G.faults (disk_of s)) (G.faults e) (G.allowance e) f =
    subst (λ (b : ℕ). HasStartCause (G.tells (disk_of s)) c.args.server b (anchor_of s).sizes (contents_of G s) (G.faults (disk_of s)) (G.faults e) (G.allowance e) f) h.named.1
    (subst (λ (a : ℕ). HasStartCause (G.tells (disk_of s)) a (anchor_of s).servers (anchor_of s).sizes (contents_of G s) (G.faults (disk_of s)) (G.faults e) (G.allowance e) f) h.named.0 k.cause) in
    let into = c.into_disk.ensures in
    let here : IsTrue (G.tells (disk_of s)) = subst IsTrue (sym h.below.tells) told in
    let there : IsTrue (G.tells e) = subst IsTrue (sym k.same.telling) here in
    let stays : (image : Image) → G.may_leave e image → (x : Contents) × HoldsBy G c.in-Err-start.store.log image x × IsKeptOrRaised (contents_of G s) x = (λ image may.
    let now : IsTrue (G.tells c.into_disk.result) = subst IsTrue (sym (ap G.tells into.disk)) there in
    let (x, holds) = into.whole now image (subst (λ (q : g.row.D.Denot). G.may_leave q image) (sym into.disk) may) in (
      x,
      holds,
      (k.crash here).crash x (record { image = image; left = may; holds = holds }),
    )) in
    subst (λ (q : NoReport). WhyNotBegun G c.args.sizes c.args.server c.args.servers q d c.into_disk.result) (sym c.of_start.ensures)
    (subst (λ (q : g.row.D.Denot). WhyNotBegun G c.args.sizes c.args.server c.args.servers (of_start c.args.server f) d q) (sym c.into_disk.ensures.disk)
    (not_started G c.args.sizes c.args.server c.args.servers d e (G.tells (disk_of s)) (anchor_of s).sizes (contents_of G s) f (G.faults (disk_of s)) (G.allowance e) (anchor_of s).sizes.home cause (stays_free _ _ k.allowance (stays_free _ _ h.below.allowance c.requires.free)) h.cause.still (subst IsTrue (sym h.below.tells) told) c.requires.server.first c.requires.server.among ((let least : 64 ≤ (anchor_of s).sizes.area = h.sized.least_area in omega (arith, least))) h.notes
    (λ bad old several apart. (
    let quiet = k.noted (subst IsNoteFault (sym bad) tt) in
    let now : IsTrue (G.tells c.into_disk.result) = subst IsTrue (sym (ap G.tells into.disk ∙ k.same.telling)) here in
    record {
      old = old;
      several = several;
      anchor = anchor_of s;
      counts = (h.mounted told old).counts;
      held = contents_of G s;
      holds = holds_by _ _ _ _ _ _ _ _ (G.seen d) (contents_of G s) h.named.0 h.named.1 (h.looked told old).size refl (h.mounted told old).holds;
      own = subst (λ (b : ℕ). StoredOfServer c.args.server b (contents_of G s)) h.named.1 (subst (λ (a : ℕ). StoredOfServer a (anchor_of s).servers (contents_of G s)) h.named.0 (h.mounted told old).own);
      apart = apart;
      left = subst (λ (x : Contents). Holds c.args.server c.args.servers (G.size e) (anchor_of s).sizes.home (G.seen e) x) quiet.0.held
          (holds_by _ _ _ _ _ _ _ _ (G.seen e) (contents_of G c.in-Err-start.store.log) (k.same.number ∙ h.named.0) (k.same.of_all ∙ h.named.1) refl (ap (λ (z : Sizes). z.home) k.same.sizes)
          (subst (λ (q : g.row.D.Denot). HoldsBy G c.in-Err-start.store.log (G.seen q) (contents_of G c.in-Err-start.store.log)) into.disk (into.holds now quiet.1)));
      durable = subst (λ (q : g.row.D.Denot). Only (G.seen q) (G.may_leave q)) into.disk (into.left now quiet.1);
      unfailed = quiet.0.faults ∙ h.cause.still;
    }
    ))
    (λ is. (k.memory is).0.faults)
    (λ is. ap (λ v. G.faults (disk_of v.log)) (k.untouched is))
    (λ is. (h.new told is).empty)
    (λ old. holds_by _ _ _ _ _ _ _ _ (G.seen d) (contents_of G s) h.named.0 h.named.1 (h.looked told old).size refl (h.mounted told old).holds)
    (λ old. subst (λ (b : ℕ). StoredOfServer c.args.server b (contents_of G s)) h.named.1 (subst (λ (a : ℕ). StoredOfServer a (anchor_of s).servers (contents_of G s)) h.named.0 (h.mounted told old).own))
    (λ last. (
    let same = k.untouched last in
    record {
      seen = λ old. ap (λ v. G.seen (disk_of v.log)) same ∙ (h.looked told old).seen;
      crash = λ old. subst (λ (q : g.row.D.Denot). NoMore (G.may_leave d) (G.may_leave q)) (sym (ap (λ v. disk_of v.log) same)) (h.looked told old).crash;
    }
    ))
    (λ old. record {
      home = (anchor_of s).sizes.home;
      held = contents_of G s;
      holds = holds_by _ _ _ _ _ _ _ _ (G.seen d) (contents_of G s) h.named.0 h.named.1 (h.looked told old).size refl (h.mounted told old).holds;
      own = subst (λ (b : ℕ). StoredOfServer c.args.server b (contents_of G s)) h.named.1 (subst (λ (a : ℕ). StoredOfServer a (anchor_of s).servers (contents_of G s)) h.named.0 (h.mounted told old).own);
      left = λ image may.
          let (x, holds, is) = stays image may in (
            x,
            holds_by _ _ _ _ _ _ _ _ image x (k.same.number ∙ h.named.0) (k.same.of_all ∙ h.named.1) refl (ap (λ (z : Sizes). z.home) k.same.sizes) holds,
            is,
          );
      read = g.met.D.Disk.as_read e there;
    })
    (λ new. record {
      left = λ image may.
          let (x, holds, is) = stays image may in (
            x,
            holds_by _ _ _ _ _ _ _ _ image x (k.same.number ∙ h.named.0) (k.same.of_all ∙ h.named.1) refl (ap (λ (z : Sizes). z.home) k.same.sizes ∙ ap (λ (a : Anchor). a.sizes.home) (h.new told new).anchor) holds,
            subst (λ (y : Contents). IsKeptOrRaised y x) (h.new told new).empty is,
          );
      read = g.met.D.Disk.as_read e there;
    })))

pub returns-in-Err-start-clause-counted : goal.returns-in-Err-start-clause-counted
returns-in-Err-start-clause-counted g c =
    let G = g.D.Disk in
    let s = c.in-Ok.store.log in
    let h = c.in-Ok.ensures in
    let k = c.in-Err-start.ensures in
    let f : StartFault = c.in-Err-start.fault in
    subst (λ (q : NoReport). IsCountedStart c.args.server q (G.faults c.args.disk) (G.faults c.into_disk.result)) (sym c.of_start.ensures)
    (subst (λ (q : g.row.D.Denot). IsCountedStart c.args.server (of_start c.args.server f) (G.faults c.args.disk) (G.faults q)) (sym c.into_disk.ensures.disk)
    (started_counted (G.tells (disk_of s)) (anchor_of s).sizes c.args.server c.args.servers (anchor_of s).server (anchor_of s).servers _ _ _ (contents_of G s) _ f k.cause (stays_free _ _ k.allowance (stays_free _ _ h.below.allowance c.requires.free)) h.cause.still))

-- ---- it started

pub returns-in-Ok-start-clause-started : goal.returns-in-Ok-start-clause-started
returns-in-Ok-start-clause-started g c =
    let G = g.D.Disk in
    let V = store_vault.ghosts g.row.D g.D.Disk g.D.Disk-dict g.D.Destruct-dict in
    let d = c.args.disk in
    let s = c.in-Ok.store.log in
    let h = c.in-Ok.ensures in
    let n = c.in-Ok-start.node in
    let k = c.in-Ok-start.ensures in
    let vol : Sizes = (anchor_of s).sizes in
    let telling = k.same.telling ∙ h.below.tells in
    let free = stays_free _ _ k.allowance (stays_free _ _ h.below.allowance c.requires.free) in
    let all = ap V.servers k.new.opening ∙ c.knows.ensures.all in
    let rose : HasRaised (V.tells n.kept.vault) c.args.server c.args.servers vol (contents_of G s) (V.held n.kept.vault) (record { epoch = n.kept.epoch; clock = n.kept.clock }) =
    subst (λ b. HasRaised b c.args.server c.args.servers vol (contents_of G s) (V.held n.kept.vault) (record { epoch = n.kept.epoch; clock = n.kept.clock })) (sym k.same.telling)
    (subst (λ (b : ℕ). HasRaised (G.tells (disk_of s)) c.args.server b vol (contents_of G s) (V.held n.kept.vault) (record { epoch = n.kept.epoch; clock = n.kept.clock })) h.named.1
    (subst (λ (a : ℕ). HasRaised (G.tells (disk_of s)) a (anchor_of s).servers vol (contents_of G s) (V.held n.kept.vault) (record { epoch = n.kept.epoch; clock = n.kept.clock })) h.named.0 k.raised)) in
    record {
      on = new_on V n c.knows.ensures k.new.found.sessions k.new.journal all;
      idle = record { opening = k.new.opening; journal = k.new.journal; sessions = k.new.found.sessions; up = k.new.found.up; free = free };
      number = k.new.number ∙ h.named.0;
      count = sym c.knows.ensures.all ∙ k.same.of_all ∙ h.named.1;
      telling = telling;
      sized = sym h.below.size ∙ sym h.sized.total ∙ ap pages_of (sym k.same.sizes);
      faults = k.counted ∙ h.cause.still;
      alone = λ given one.
          opened_bare V G c.args.sizes c.args.server c.args.servers n (contents_of G s) vol d c.knows.ensures k.new.journal k.new.opening k.same.sizes (subst IsTrue (sym telling) given) rose
          (let low : 1 ≤ c.args.server = c.requires.server.first in
          let high : c.args.server ≤ c.args.servers = c.requires.server.among in
          let first : c.args.server ≡ 1 = omega (arith, low, high, one) in
          alone_so_far (contents_of G s).notes
          (subst (λ (b : ℕ). AreServerNotes 1 b (contents_of G s).notes) one (subst (λ (a : ℕ). AreServerNotes a c.args.servers (contents_of G s).notes) first h.notes)));
      new = λ given is.
          opened_new V G c.args.sizes c.args.server c.args.servers n (contents_of G s) vol d c.knows.ensures k.new.journal k.new.opening k.same.sizes (subst IsTrue (sym telling) given) rose (h.new given is).empty (ap (λ (a : Anchor). a.sizes) (h.new given is).anchor);
      found = λ given old.
          opened_on V G c.args.sizes c.args.server c.args.servers n (contents_of G s) vol d c.knows.ensures k.new.journal k.new.opening k.same.sizes (subst IsTrue (sym telling) given) rose (anchor_of s) (h.mounted given old).counts h.named refl
          (holds_by _ _ _ _ _ _ _ _ (G.seen d) (contents_of G s) h.named.0 h.named.1 (h.looked given old).size refl (h.mounted given old).holds)
          (subst (λ (b : ℕ). StoredOfServer c.args.server b (contents_of G s)) h.named.1 (subst (λ (a : ℕ). StoredOfServer a (anchor_of s).servers (contents_of G s)) h.named.0 (h.mounted given old).own));
    }
