-- What a store does, said of a vault.
use Rattle.std.specs.Prelude.{IsTrue, Option, true}
use Rattle.std.proofs.Common.{◌≡◌, ℕ, refl, sym, ◌∙◌, ap, subst, ⊎_elim, inl, inr}
use Rattle.alp_base.specs.Crashes.{NoMore, Only, Adds, SameOutcomes}
use Rattle.alp_base.specs.declared.faults.Sizes.{Sizes}
use Rattle.alp_base.specs.declared.faults.VaultFault.{VaultFault}
use Rattle.alp_base.specs.declared.faults.VaultFault.TheVariants as fault
use Rattle.alp_anchor.specs.Anchor.{AreSizesOf}
use Rattle.alp_anchor.specs.declared.anchor.Anchor.{Anchor}
use Rattle.alp_disk.specs.Disk.{Image}
use Rattle.alp_disk.specs.declared.disk.Disk.{Ghosts}
use Rattle.alp_pool.specs.Pools.{log_of, device_of}
use Rattle.alp_pool.specs.declared.pool.Pool.{Pool}
use Rattle.alp_vault.specs.Contents.{Contents}
use Rattle.alp_vault.specs.Vault.{AreSizes, serves_past_read, serves_past_change, IsOneOf, IsServer}
use Rattle.alp_volume.specs.Drafts.{IsPlanned}
use Rattle.alp_volume.specs.Known.{IsCatalog}
use Rattle.alp_wal.specs.Calls.{IsSameLog, IsLimited}
use Rattle.alp_wal.specs.State.{State}
use Rattle.alp_wal.specs.Wal.{disk_of, anchor_of, IsKnown}
use Rattle.alp_wal.specs.declared.wal.Wal.{Wal}
use Rattle.alp_store.specs.Holding.{HoldsBy, MayLeave, LeftSince, IsSameDisk}
use Rattle.alp_store.specs.ReadLaws.{same_told}
use Rattle.alp_store.specs.Shelves.{IsStore, IsShelf, shelf_log}
use Rattle.alp_store.specs.Told.{pages_of, contents_in, contents_of}
use Rattle.alp_store.specs.declared.shelf.Shelf.{Shelf}
use Rattle.alp_store.proofs.Holdings.{holds_before, holds_after, may_fewer, same_anchor, store_on, known_holds, holds_once}

-- a read that was not stopped leaves a store serving
pub serves_on : (f : VaultFault) → (f ≡ fault.Stopped → ⊥) → serves_past_read f ≡ true
serves_on fault.Failed h = refl
serves_on fault.Stopped h = absurd (h refl)
serves_on fault.OutOfMemory h = refl
serves_on (fault.NotAVolume found) h = refl
serves_on (fault.Damaged place) h = refl

-- and so does a change that neither failed nor was stopped
pub changes_on : (f : VaultFault) → (f ≡ fault.Failed → ⊥) → (f ≡ fault.Stopped → ⊥) → serves_past_change f ≡ true
changes_on fault.Failed h k = absurd (h refl)
changes_on fault.Stopped h k = absurd (k refl)
changes_on fault.OutOfMemory h k = refl
changes_on (fault.NotAVolume found) h k = refl
changes_on (fault.Damaged place) h k = refl

pub sizes_of_disk : (n : ℕ) (s : Sizes) → AreSizesOf n s → AreSizes s
sizes_of_disk n s is = record { home_least = is.least_home; home_most = is.most_home; area_least = is.least_area; area_most = is.most_area }

module _ {D : Type 0} (g : Ghosts D) where
  -- a known log with an open volume may leave what it holds
  pub leaves_held : (s : Shelf D) → IsShelf g s → IsKnown (g.size (disk_of (shelf_log s))) (g.seen (disk_of (shelf_log s))) (g.may_leave (disk_of (shelf_log s))) (shelf_log s) → ((d : D) → IsTrue (g.tells d) → g.may_leave d (g.seen d)) → IsTrue (g.tells (disk_of (shelf_log s)))
      → MayLeave g (shelf_log s) (contents_of g (shelf_log s))
  leaves_held s is known as_read told = record { image = g.seen (disk_of (shelf_log s)); left = as_read (disk_of (shelf_log s)) told; holds = known_holds g (shelf_log s) known (contents_of g (shelf_log s)).cells (is.knows told).stands }

  -- ---- another allowance

  pub limited_same : (v w : Wal D) (calls : Option ℕ) → IsSameLog v w → IsLimited g calls (disk_of v) (disk_of w) → IsSameDisk g v w
  limited_same v w calls same below = same_anchor g v w below.tells below.size same.anchor

  pub limited_held : (v w : Wal D) (calls : Option ℕ) → IsSameLog v w → IsLimited g calls (disk_of v) (disk_of w) → contents_of g w ≡ contents_of g v
  limited_held v w calls same below = ap contents_in (same_told g v w same below.seen)

  pub limited_store : (v w : Wal D) (calls : Option ℕ) → IsSameLog v w → IsLimited g calls (disk_of v) (disk_of w) → IsStore g v → IsStore g w
  limited_store v w calls same below = store_on g v w (limited_same v w calls same below) below.crash.no_more

  pub limited_outcomes : (v w : Wal D) (calls : Option ℕ) → IsSameLog v w → IsLimited g calls (disk_of v) (disk_of w) → SameOutcomes (MayLeave g v) (MayLeave g w)
  limited_outcomes v w calls same below = record {
    no_more = may_fewer g v w (limited_same v w calls same below) below.crash.no_more;
    no_fewer = λ c m. record { image = m.image; left = below.crash.no_fewer m.image m.left; holds = holds_after g v w (limited_same v w calls same below) m.image c m.holds };
  }

  pub limited_time : (v w : Wal D) (calls : Option ℕ) → IsSameLog v w → IsLimited g calls (disk_of v) (disk_of w) → Adds (LeftSince g) v w (MayLeave g w)
  limited_time v w calls same below = record {
    each = λ start c m. ⊎_elim
        (λ before. inl (record { image = m.image; left = before; holds = holds_before g v w (limited_same v w calls same below) m.image c m.holds }))
        (λ now. inr (record { image = m.image; left = now; holds = m.holds }))
        (below.time.each (disk_of start) m.image m.left);
  }

  pub limited_shelf : (s : Shelf D) (p : Pool D) (calls : Option ℕ) → IsSameLog (shelf_log s) (log_of p) → IsLimited g calls (device_of s.pages) (device_of p) → IsShelf g s → IsShelf g (record s { pages = p })
  limited_shelf s p calls same below is = record {
    alive = same.dead ∙ is.alive;
    store = limited_store (shelf_log s) (log_of p) calls same below is.store;
    sized = subst (λ (a : Anchor). IsCatalog a.sizes.home s.catalog) (sym same.anchor) is.sized;
    knows = λ told. subst (λ (t : Anchor × State). IsPlanned t.0.sizes.home (pages_of t.1) (contents_in t.1).cells s.catalog) (λ i. (sym same.anchor i, sym (same_told g (shelf_log s) (log_of p) same below.seen) i)) (is.knows (subst IsTrue below.tells told));
  }

  -- ---- a crash

  -- the log over the disk as it comes back
  module _ (v w : Wal D) (tells : g.tells (disk_of w) ≡ g.tells (disk_of v)) (size : g.size (disk_of w) ≡ g.size (disk_of v)) (anchor : anchor_of w ≡ anchor_of v)
      (left : IsTrue (g.tells (disk_of v)) → g.may_leave (disk_of v) (g.seen (disk_of w))) (still : IsTrue (g.tells (disk_of v)) → Only (g.seen (disk_of w)) (g.may_leave (disk_of w))) where
    same : IsSameDisk g v w
    same = same_anchor g v w tells size anchor

    fewer : IsTrue (g.tells (disk_of v)) → NoMore (g.may_leave (disk_of v)) (g.may_leave (disk_of w))
    fewer told c may = subst (λ (x : Image). g.may_leave (disk_of v) x) (sym (still told c may)) (left told)

    pub crash_store : IsStore g v → IsStore g w
    crash_store store = record {
      sizes = subst (λ (t : ℕ × Sizes). AreSizesOf t.0 t.1) (λ i. (sym size i, sym (ap (λ (a : Anchor). a.sizes) anchor) i)) store.sizes;
      server = subst (λ (a : Anchor). IsServer a.server a.servers) (sym anchor) store.server;
      leaves = λ told image may. (let before = subst IsTrue tells told in let x = store.leaves before image (fewer before image may) in (x.0, holds_after g v w same image x.0 x.1));
    }

    pub crash_one : ((d : D) → IsTrue (g.tells d) → g.may_leave d (g.seen d)) → IsStore g v → IsTrue (g.tells (disk_of v)) → IsOneOf (MayLeave g v) (MayLeave g w)
    crash_one as_read store told =
        let now = subst IsTrue (sym tells) told in
        let x = (crash_store store).leaves now (g.seen (disk_of w)) (as_read (disk_of w) now) in
        record {
          was = may_fewer g v w same (fewer told);
          alone = ∣ (x.0, record { image = g.seen (disk_of w); left = as_read (disk_of w) now; holds = x.1 }, λ c m. once c m x.0 x.1) ∣₁;
        }
      where
        once : (c : Contents) (m : MayLeave g w c) (b : Contents) → HoldsBy g w (g.seen (disk_of w)) b → c ≡ b
        once c m b holds = holds_once (anchor_of w).server (anchor_of w).servers (g.size (disk_of w)) (anchor_of w).sizes.home (g.seen (disk_of w)) c b (subst (λ (y : Image). HoldsBy g w y c) (still told m.image m.left) m.holds) holds
