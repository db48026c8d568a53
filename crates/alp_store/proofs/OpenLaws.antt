-- A volume that is opened over a log.
use Rattle.std.specs.Prelude.{IsTrue, None, Result, Ok, Err, MatchResult, IfOk, IfErr, false}
use Rattle.std.proofs.Common.{◌≡◌, ◌≤◌, ℕ, refl, sym, ◌∙◌, ap, subst, ⊎_elim, inl, inr, arith}
use Rattle.alp_base.specs.Allowances.{Spends}
use Rattle.alp_base.specs.declared.allowance.Allowance.{Allowance}
use Rattle.alp_anchor.specs.declared.anchor.Anchor.{Anchor}
use Rattle.alp_base.specs.declared.faults.VaultFault.{VaultFault}
use Rattle.alp_base.specs.declared.faults.VaultFault.TheVariants as fault
use Rattle.alp_disk.specs.Disk.{Image}
use Rattle.alp_disk.specs.Calls.{Looked, OnlyRead}
use Rattle.alp_disk.specs.declared.disk.Disk.{Ghosts}
use Rattle.alp_files.specs.Cells.{Cells}
use Rattle.alp_pages.specs.Damage.{damage_of}
use Rattle.alp_pages.specs.Reading.{MayBeDamaged}
use Rattle.alp_pages.specs.Volume.{StandFor}
use Rattle.alp_pool.specs.Pools.{log_of, device_of, IsPool}
use Rattle.alp_pool.specs.declared.pool.Pool.{Pool}
use Rattle.alp_pool.proofs.Logged.{as_many_pages}
use Rattle.alp_vault.specs.Vault.{IsServer}
use Rattle.alp_volume.specs.Known.{IsCatalog, Knows}
use Rattle.alp_volume.specs.declared.catalog.Catalog.{Catalog}
use Rattle.alp_wal.specs.Mount.{WhyNotMounted}
use Rattle.alp_wal.specs.Reading.{Reads}
use Rattle.alp_wal.specs.State.{State}
use Rattle.alp_wal.specs.Wal.{disk_of, anchor_of, is_dead, IsLog}
use Rattle.alp_wal.specs.declared.wal.Wal.{Wal}
use Rattle.alp_store.specs.Holding.{HoldsBy}
use Rattle.alp_store.specs.Reads.{IsReadOn}
use Rattle.alp_store.specs.ReadLaws.{read_told}
use Rattle.alp_store.specs.Shelves.{IsShelf, shelf_log}
use Rattle.alp_store.specs.Starts.{IsDamagedHome, WhyNotOpened}
use Rattle.alp_store.specs.Told.{pages_of, told_by, contents_of, cells_on}
use Rattle.alp_store.specs.declared.shelf.Shelf.{Shelf}
use Rattle.alp_store.proofs.Holdings.{known_leaves, state_holds}
use Rattle.alp_store.proofs.PutLaws.{spends_nothing}
use Rattle.alp_store.proofs.Standing.{told_stands}

module _ {D : Type 0} (g : Ghosts D) where
  -- ---- pages that were read without damage

  pub shelf_read : (p : Pool D) → IsPool g p → is_dead (log_of p) ≡ false → IsServer (anchor_of (log_of p)).server (anchor_of (log_of p)).servers → (c : Catalog) → IsCatalog (anchor_of (log_of p)).sizes.home c
      → (IsTrue (g.tells (device_of p)) → damage_of (anchor_of (log_of p)).sizes.home (pages_of (told_by g (log_of p))) ≡ None)
      → (IsTrue (g.tells (device_of p)) → (m : Cells) (standing : StandFor (anchor_of (log_of p)).sizes.home (pages_of (told_by g (log_of p))) m) → Knows (anchor_of (log_of p)).sizes.home standing.volume c)
      → IsShelf g (record { pages = p; catalog = c })
  shelf_read p pool alive server c sized right known =
      let w = log_of p in
      let home = (anchor_of w).sizes.home in
      let at = pages_of (told_by g w) in
      record {
        alive = alive;
        store = record {
          sizes = pool.log.anchor.sizes;
          server = server;
          leaves = λ told image left. known_leaves g w (pool.known told alive) (cells_on at) (told_stands home at (right told)) image left;
        };
        sized = sized;
        knows = λ told. (let standing = told_stands home at (right told) in record { stands = standing; knows = known told (cells_on at) standing });
      }

  -- ---- a disk that was looked at

  pub looked_then_read : (a b c : D) → Looked g a b → OnlyRead g b c → g.faults b ≤ g.faults c → Looked g a c
  looked_then_read a b c one two later = record {
    tells = two.tells ∙ one.tells;
    size = two.size ∙ one.size;
    seen = two.seen ∙ one.seen;
    crash = λ x left. one.crash x (two.crash x left);
    time = record { each = λ start x left. ⊎_elim (one.time.each start x) (λ now. inr (one.crash x now)) (two.time.each start x left) };
    allowance = subst (λ (z : Allowance). Spends (g.allowance a) z) (sym two.allowance) one.allowance;
    later = omega (arith, one.later, later);
  }

  -- reads before it leave it so
  pub read_then_looked : (a b c : D) → OnlyRead g a b → g.faults a ≤ g.faults b → Looked g b c → Looked g a c
  read_then_looked a b c one later two = record {
    tells = two.tells ∙ one.tells;
    size = two.size ∙ one.size;
    seen = two.seen ∙ one.seen;
    crash = λ x left. one.crash x (two.crash x left);
    time = record { each = λ start x left. ⊎_elim (one.time.each start x) (λ now. inr (one.crash x now)) (two.time.each start x left) };
    allowance = subst (λ (z : Allowance). Spends z (g.allowance c)) one.allowance two.allowance;
    later = omega (arith, later, two.later);
  }

  pub read_looked : (a b : D) → OnlyRead g a b → g.faults a ≤ g.faults b → Looked g a b
  read_looked a b one later = record {
    tells = one.tells;
    size = one.size;
    seen = one.seen;
    crash = one.crash;
    time = one.time;
    allowance = subst (λ (z : Allowance). Spends (g.allowance a) z) (sym one.allowance) (spends_nothing (g.allowance a));
    later = later;
  }

  pub looked_after : (a b : D) → OnlyRead g a b → g.faults a ≤ g.faults b → (r : Result (Shelf D) (D × VaultFault)) → MatchResult r (λ s. Looked g b (disk_of (shelf_log s))) (λ e. Looked g b e.0) → MatchResult r (λ s. Looked g a (disk_of (shelf_log s))) (λ e. Looked g a e.0)
  looked_after a b one later (Ok s) two = read_then_looked a b (disk_of (shelf_log s)) one later two
  looked_after a b one later (Err e) two = read_then_looked a b e.0 one later two

  -- what was mounted is what the volume holds that was opened over it
  pub opened_holds : (disk : D) (server servers : ℕ) (v : Wal D) (s : Shelf D) → Reads server servers (g.size disk) (g.seen disk) (told_by g v) → told_by g (shelf_log s) ≡ told_by g v → IsShelf g s → IsTrue (g.tells (disk_of (shelf_log s))) → g.size (disk_of (shelf_log s)) ≡ g.size disk
      → (anchor_of (shelf_log s)).server ≡ server → (anchor_of (shelf_log s)).servers ≡ servers → HoldsBy g (shelf_log s) (g.seen disk) (contents_of g (shelf_log s))
  opened_holds disk server servers v s reads told is tells size number of_all =
      let w = shelf_log s in
      let here : Reads (anchor_of w).server (anchor_of w).servers (g.size (disk_of w)) (g.seen disk) (told_by g w) =
      subst (λ (t : (ℕ × ℕ) × (ℕ × State)). Reads t.0.0 t.0.1 t.1.0 (g.seen disk) t.1.1) (λ i. ((sym number i, sym of_all i), (sym size i, sym told i))) reads in
      state_holds (anchor_of w).server (anchor_of w).servers (g.size (disk_of w)) (anchor_of w).sizes.home (g.seen disk) (told_by g w) (contents_of g w).cells here (as_many_pages w (g.seen (disk_of w))) (is.knows tells).stands

-- why a disk was not mounted is why its volume was not opened
pub not_mounted : (server servers n : ℕ) (image : Image) (f : VaultFault) → WhyNotMounted server servers n image f → WhyNotOpened server servers n image f
not_mounted server servers n image fault.Failed h = h
not_mounted server servers n image fault.Stopped h = h
not_mounted server servers n image fault.OutOfMemory h = h
not_mounted server servers n image (fault.NotAVolume found) h = h
not_mounted server servers n image (fault.Damaged place) h = inl h

-- and so is a damaged page
pub not_opened : {D : Type 0} (g : Ghosts D) (disk : D) (server servers : ℕ) (w : Wal D) (f : VaultFault) → IsLog (g.size (disk_of w)) w → g.size (disk_of w) ≡ g.size disk → Reads server servers (g.size disk) (g.seen disk) (told_by g w) → MayBeDamaged f
    → ((place : ℕ) → f ≡ fault.Damaged place → IsDamagedHome (anchor_of w).sizes (pages_of (told_by g w)) place) → WhyNotOpened server servers (g.size disk) (g.seen disk) f
not_opened g disk server servers w fault.Failed log size reads may damaged = tt
not_opened g disk server servers w fault.Stopped log size reads may damaged = tt
not_opened g disk server servers w fault.OutOfMemory log size reads may damaged = tt
not_opened g disk server servers w (fault.NotAVolume found) log size reads may damaged = absurd may
not_opened g disk server servers w (fault.Damaged place) log size reads may damaged =
    inr (record { sizes = (anchor_of w).sizes; state = told_by g w; reads = reads; long = as_many_pages w (g.seen (disk_of w)); total = log.anchor.sizes.total ∙ size; damaged = damaged place refl })

-- ---- what opening leaves, over the pages of a log that was mounted

module _ {D : Type 0} (g : Ghosts D) (disk : D) (server servers : ℕ) (p : Pool D) (looked : Looked g disk (device_of p)) where
  tells_still : (s : Shelf D) → IsReadOn g p s.pages → IsTrue (g.tells disk) → IsTrue (g.tells (disk_of (shelf_log s)))
  tells_still s read told = subst IsTrue (sym (read.below.tells ∙ looked.tells)) told

  pub open_holds : (IsTrue (g.tells disk) → Reads server servers (g.size disk) (g.seen disk) (told_by g (log_of p))) → (anchor_of (log_of p)).server ≡ server → (anchor_of (log_of p)).servers ≡ servers → (r : Result (Shelf D) (D × VaultFault)) → IfOk r (IsShelf g)
      → MatchResult r (λ s. IsReadOn g p s.pages) (λ e. OnlyRead g (device_of p) e.0) → IsTrue (g.tells disk) → IfOk r (λ s. HoldsBy g (shelf_log s) (g.seen disk) (contents_of g (shelf_log s)))
  open_holds reads number of_all (Ok s) is read told =
      opened_holds g disk server servers (log_of p) s (reads told) (read_told g p s.pages read) is (tells_still s read told) (read.below.size ∙ looked.size)
      (ap (λ (a : Anchor). a.server) read.same.anchor ∙ number) (ap (λ (a : Anchor). a.servers) read.same.anchor ∙ of_all)
  open_holds reads number of_all (Err e) is read told = tt

  pub open_below : (r : Result (Shelf D) (D × VaultFault)) → MatchResult r (λ s. IsReadOn g p s.pages) (λ e. OnlyRead g (device_of p) e.0) → IfErr r (λ e. g.faults (device_of p) ≤ g.faults e.0) → MatchResult r (λ s. Looked g disk (disk_of (shelf_log s))) (λ e. Looked g disk e.0)
  open_below (Ok s) read later = looked_then_read g disk (device_of p) (device_of s.pages) looked read.below read.later
  open_below (Err e) read later = looked_then_read g disk (device_of p) e.0 looked read later

  pub open_why : IsLog (g.size (device_of p)) (log_of p) → (IsTrue (g.tells disk) → Reads server servers (g.size disk) (g.seen disk) (told_by g (log_of p))) → (r : Result (Shelf D) (D × VaultFault)) → IfErr r (λ e. MayBeDamaged e.1)
      → (IsTrue (g.tells (device_of p)) → IfErr r (λ e. (place : ℕ) → e.1 ≡ fault.Damaged place → IsDamagedHome (anchor_of (log_of p)).sizes (pages_of (told_by g (log_of p))) place)) → IsTrue (g.tells disk) → IfErr r (λ e. WhyNotOpened server servers (g.size disk) (g.seen disk) e.1)
  open_why log reads (Ok s) may damaged told = tt
  open_why log reads (Err e) may damaged told = not_opened g disk server servers (log_of p) e.1 log looked.size (reads told) may (damaged (subst IsTrue (sym looked.tells) told))
