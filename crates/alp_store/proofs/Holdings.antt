-- What a store holds and may leave, from one log to the next.
use Rattle.std.specs.Prelude.{IsTrue}
use Rattle.std.proofs.Common.{◌≡◌, ℕ, length, inl, inr, refl, sym, ◌∙◌, ap, subst, ⊎_elim, arith}
use Rattle.alp_base.specs.Crashes.{NoMore, Adds}
use Rattle.alp_base.specs.declared.faults.Sizes.{Sizes}
use Rattle.alp_anchor.specs.Anchor.{AreSizesOf}
use Rattle.alp_anchor.specs.declared.anchor.Anchor.{Anchor}
use Rattle.alp_disk.specs.Disk.{Image}
use Rattle.alp_disk.specs.declared.disk.Disk.{Ghosts}
use Rattle.alp_files.specs.Cells.{Cells}
use Rattle.alp_pages.specs.Volume.{StandFor}
use Rattle.alp_pool.specs.Pools.{log_of}
use Rattle.alp_pool.specs.declared.pool.Pool.{Pool}
use Rattle.alp_pool.proofs.Logged.{as_many_pages}
use Rattle.alp_vault.specs.Contents.{Contents}
use Rattle.alp_vault.specs.Vault.{IsServer}
use Rattle.alp_vault.specs.Volumes.{IsVolumeOf}
use Rattle.alp_volume.specs.Drafts.{IsPlanned}
use Rattle.alp_volume.specs.Known.{IsCatalog}
use Rattle.alp_wal.specs.Reading.{Reads}
use Rattle.alp_wal.specs.State.{State}
use Rattle.alp_wal.specs.Wal.{disk_of, anchor_of, IsKnown}
use Rattle.alp_wal.specs.declared.wal.Wal.{Wal}
use Rattle.alp_wal.proofs.Readings.{reads_once}
use Rattle.alp_store.specs.Holding.{Holds, HoldsBy, MayLeave, LeftSince, IsSameDisk, IsAlwaysWhole}
use Rattle.alp_store.specs.Reads.{IsReadOn}
use Rattle.alp_store.specs.ReadLaws.{read_told}
use Rattle.alp_store.specs.Shelves.{IsStore, IsShelf, shelf_log}
use Rattle.alp_store.specs.Told.{pages_of, contents_in, told_by, contents_of}
use Rattle.alp_store.specs.declared.shelf.Shelf.{Shelf}
use Rattle.alp_store.proofs.Standing.{told_is, standing_volume}

-- what one disk holds is one
pub holds_once : (server servers n home : ℕ) (image : Image) (a b : Contents) → Holds server servers n home image a → Holds server servers n home image b → a ≡ b
holds_once server servers n home image a b x y =
    let state : x.state ≡ y.state = reads_once server servers n image x.state y.state x.reads y.reads in
    let standing : StandFor home (pages_of y.state) a.cells = subst (λ (s : State). StandFor home (pages_of s) a.cells) state x.stand in
    let cells : a.cells ≡ b.cells = sym (told_is home (pages_of y.state) a.cells standing) ∙ told_is home (pages_of y.state) b.cells y.stand in
    let notes : a.notes ≡ b.notes = x.notes ∙ ap (λ (s : State). s.notes) state ∙ sym y.notes in
    λ i. record { cells = cells i; notes = notes i }

-- where its reading is this state, it is what the state comes to
pub holds_state : (server servers n home : ℕ) (image : Image) (c : Contents) (s : State) → Holds server servers n home image c → Reads server servers n image s → c ≡ contents_in s
holds_state server servers n home image c s x reads =
    let state : x.state ≡ s = reads_once server servers n image x.state s x.reads reads in
    let standing : StandFor home (pages_of s) c.cells = subst (λ (t : State). StandFor home (pages_of t) c.cells) state x.stand in
    let cells = sym (told_is home (pages_of s) c.cells standing) in
    let notes = x.notes ∙ ap (λ (t : State). t.notes) state in
    λ i. record { cells = cells i; notes = notes i }

-- a state whose pages stand for cells, as what a disk holds
pub state_holds : (server servers n home : ℕ) (image : Image) (s : State) (m : Cells) → Reads server servers n image s → length s.pages ≡ home → StandFor home (pages_of s) m → Holds server servers n home image (record { cells = m; notes = s.notes })
state_holds server servers n home image s m reads long stand = record { state = s; reads = reads; long = long; stand = stand; notes = refl }

module _ {D : Type 0} (g : Ghosts D) where
  -- ---- the same volume

  pub holds_before : (v w : Wal D) → IsSameDisk g v w → (image : Image) (c : Contents) → HoldsBy g w image c → HoldsBy g v image c
  holds_before v w same image c h =
      subst (λ (t : ℕ × ℕ × ℕ × ℕ). Holds t.0 t.1 t.2 t.3 image c) (λ i. (same.volume.server i, same.volume.servers i, same.size i, (same.volume.sizes i).home)) h

  pub holds_after : (v w : Wal D) → IsSameDisk g v w → (image : Image) (c : Contents) → HoldsBy g v image c → HoldsBy g w image c
  holds_after v w same image c h =
      subst (λ (t : ℕ × ℕ × ℕ × ℕ). Holds t.0 t.1 t.2 t.3 image c) (λ i. (sym same.volume.server i, sym same.volume.servers i, sym same.size i, (sym same.volume.sizes i).home)) h

  pub same_then : (u v w : Wal D) → IsSameDisk g u v → IsSameDisk g v w → IsSameDisk g u w
  same_then u v w one two = record {
    tells = two.tells ∙ one.tells;
    size = two.size ∙ one.size;
    volume = record { server = two.volume.server ∙ one.volume.server; servers = two.volume.servers ∙ one.volume.servers; sizes = two.volume.sizes ∙ one.volume.sizes };
  }

  pub same_anchor : (v w : Wal D) → g.tells (disk_of w) ≡ g.tells (disk_of v) → g.size (disk_of w) ≡ g.size (disk_of v) → anchor_of w ≡ anchor_of v → IsSameDisk g v w
  same_anchor v w tells size anchor = record {
    tells = tells;
    size = size;
    volume = record { server = ap (λ (a : Anchor). a.server) anchor; servers = ap (λ (a : Anchor). a.servers) anchor; sizes = ap (λ (a : Anchor). a.sizes) anchor };
  }

  pub may_fewer : (v w : Wal D) → IsSameDisk g v w → NoMore (g.may_leave (disk_of v)) (g.may_leave (disk_of w)) → NoMore (MayLeave g v) (MayLeave g w)
  may_fewer v w same fewer c m = record { image = m.image; left = fewer m.image m.left; holds = holds_before v w same m.image c m.holds }

  -- what a call adds that was possible before it adds nothing
  pub adds_none : ((start disk : D) (c : Image) → g.may_leave disk c → g.left_since start disk c) → (v w : Wal D) → IsSameDisk g v w → Adds g.left_since (disk_of v) (disk_of w) (g.may_leave (disk_of v)) → (P : Contents → Type 0) → Adds (LeftSince g) v w P
  adds_none counts v w same adds P = record {
    each = λ start c m. ⊎_elim
        (λ before. inl (record { image = m.image; left = before; holds = holds_before v w same m.image c m.holds }))
        (λ now. inl (record { image = m.image; left = counts (disk_of start) (disk_of v) m.image now; holds = holds_before v w same m.image c m.holds }))
        (adds.each (disk_of start) m.image m.left);
  }

  pub store_on : (v w : Wal D) → IsSameDisk g v w → NoMore (g.may_leave (disk_of v)) (g.may_leave (disk_of w)) → IsStore g v → IsStore g w
  store_on v w same fewer store = record {
    sizes = subst (λ (t : ℕ × Sizes). AreSizesOf t.0 t.1) (λ i. (sym same.size i, sym same.volume.sizes i)) store.sizes;
    server = subst (λ (t : ℕ × ℕ). IsServer t.0 t.1) (λ i. (sym same.volume.server i, sym same.volume.servers i)) store.server;
    leaves = λ told image left. (let x = store.leaves (subst IsTrue same.tells told) image (fewer image left) in (x.0, holds_after v w same image x.0 x.1));
  }

  -- a disk that was only looked at leaves what it might have left
  pub whole_still : ((disk : D) (c : Image) → g.left_since disk disk c → g.may_leave disk c) → (v w : Wal D) → Adds g.left_since (disk_of v) (disk_of w) (g.may_leave (disk_of v)) → IsStore g v → IsAlwaysWhole g v w
  whole_still only v w adds store told = record {
    within = λ c left. store.leaves told c (⊎_elim (λ was. only (disk_of v) c was) (λ now. now) (adds.each (disk_of v) c left));
    adds = record { each = λ start c left. ⊎_elim (λ was. inl was) (λ now. inr (store.leaves told c now)) (adds.each start c left) };
  }

  -- ---- what is left is a volume

  pub left_volume : (w : Wal D) → IsStore g w → (image : Image) (c : Contents) → HoldsBy g w image c → IsVolumeOf (anchor_of w).sizes c.cells
  left_volume w store image c h = standing_volume (anchor_of w).sizes (pages_of h.state) c.cells (omega (arith, store.sizes.least_home)) h.stand

  -- ---- a log that is known

  module _ (w : Wal D) (known : IsKnown (g.size (disk_of w)) (g.seen (disk_of w)) (g.may_leave (disk_of w)) w) where
    pub known_reads : Reads (anchor_of w).server (anchor_of w).servers (g.size (disk_of w)) (g.seen (disk_of w)) (told_by g w)
    known_reads = record { anchor = anchor_of w; bodies = known.bodies; server_is = refl; servers_is = refl; by = known.by }

    pub known_holds : (m : Cells) → StandFor (anchor_of w).sizes.home (pages_of (told_by g w)) m → HoldsBy g w (g.seen (disk_of w)) (contents_of g w)
    known_holds m stand = state_holds (anchor_of w).server (anchor_of w).servers (g.size (disk_of w)) (anchor_of w).sizes.home (g.seen (disk_of w)) (told_by g w) (contents_of g w).cells known_reads (as_many_pages w (g.seen (disk_of w)))
        (subst (λ (x : Cells). StandFor (anchor_of w).sizes.home (pages_of (told_by g w)) x) (sym (told_is (anchor_of w).sizes.home (pages_of (told_by g w)) m stand)) stand)

    pub known_leaves : (m : Cells) → StandFor (anchor_of w).sizes.home (pages_of (told_by g w)) m → (image : Image) → g.may_leave (disk_of w) image → (c : Contents) × HoldsBy g w image c
    known_leaves m stand image left = (contents_of g w, subst (λ (x : Image). HoldsBy g w x (contents_of g w)) (sym (known.durable image left)) (known_holds m stand))

  -- ---- reads

  pub read_same : (p q : Pool D) → IsReadOn g p q → IsSameDisk g (log_of p) (log_of q)
  read_same p q read = same_anchor (log_of p) (log_of q) read.below.tells read.below.size read.same.anchor

  pub read_holds : (p q : Pool D) → IsReadOn g p q → contents_of g (log_of q) ≡ contents_of g (log_of p)
  read_holds p q read = ap contents_in (read_told g p q read)

  pub read_shelf : (s : Shelf D) (p : Pool D) → IsReadOn g s.pages p → IsShelf g s → IsShelf g (record s { pages = p })
  read_shelf s p read is = record {
    alive = read.same.dead ∙ is.alive;
    store = store_on (shelf_log s) (log_of p) (read_same s.pages p read) read.below.crash is.store;
    sized = subst (λ (a : Anchor). IsCatalog a.sizes.home s.catalog) (sym read.same.anchor) is.sized;
    knows = λ told. subst (λ (t : Anchor × State). IsPlanned t.0.sizes.home (pages_of t.1) (contents_in t.1).cells s.catalog) (λ i. (sym read.same.anchor i, sym (read_told g s.pages p read) i)) (is.knows (subst IsTrue read.below.tells told));
  }
