-- A volume that is read anew, or not.
use Rattle.std.specs.Prelude.{IsTrue, None, Some}
use Rattle.std.proofs.Common.{◌≡◌, ◌+◌, ◌*◌, ℕ, length, sym, ◌∙◌, ap, subst, ⊎_elim, arith}
use Rattle.alp_base.specs.Crashes.{NoMore, Adds}
use Rattle.alp_base.specs.Faults.{HasFaultCause, IsCountKept, IsOfVolume}
use Rattle.alp_base.specs.declared.faults.Sizes.{Sizes}
use Rattle.alp_base.specs.declared.faults.VaultFault.{VaultFault}
use Rattle.alp_base.specs.declared.faults.VaultFault.TheVariants as fault
use Rattle.alp_disk.specs.Disk.{Image}
use Rattle.alp_disk.specs.Calls.{Looked}
use Rattle.alp_disk.specs.declared.disk.Disk.{Ghosts}
use Rattle.alp_pages.specs.Damage.{damage_of}
use Rattle.alp_pages.proofs.OrderLaws.{standing_undamaged}
use Rattle.alp_vault.specs.Contents.{Contents}
use Rattle.alp_wal.specs.Reading.{home_pages}
use Rattle.alp_wal.specs.State.{State}
use Rattle.alp_wal.specs.Wal.{disk_of, anchor_of, index_of, held_notes, shown}
use Rattle.alp_wal.specs.declared.wal.Wal.{Wal}
use Rattle.alp_wal.proofs.Readings.{reads_once}
use Rattle.alp_wal.proofs.Refusals.{read_is_mounted}
use Rattle.alp_store.specs.Holding.{Holds, HoldsBy, MayLeave, LeftSince, IsSameDisk}
use Rattle.alp_store.specs.Recoveries.{IsReopened, IsGivenBack}
use Rattle.alp_store.specs.Shelves.{IsStore, IsShelf, shelf_log}
use Rattle.alp_store.specs.Starts.{IsDamagedVolume, WhyNotOpened}
use Rattle.alp_store.specs.Told.{pages_of, contents_in, told_by, contents_of}
use Rattle.alp_store.specs.declared.shelf.Shelf.{Shelf}
use Rattle.alp_store.proofs.Holdings.{same_anchor, holds_before, may_fewer, adds_none, whole_still, store_on}

-- a disk that holds a volume has no damaged page
no_damage : (server servers n home : ℕ) (image : Image) (c : Contents) (place : ℕ) → Holds server servers n home image c → IsDamagedVolume server servers n image place → ⊥
no_damage server servers n home image c place holds bad =
    let state : bad.state ≡ holds.state = reads_once server servers n image bad.state holds.state bad.reads holds.reads in
    let size : bad.sizes.home ≡ home = sym bad.long ∙ ap (λ (s : State). length s.pages) state ∙ holds.long in
    let wrong : damage_of home (pages_of holds.state) ≡ Some bad.damaged.page = subst (λ (t : ℕ × State). damage_of t.0 (pages_of t.1) ≡ Some bad.damaged.page) (λ i. (size i, state i)) bad.damaged.wrong in
    let right : damage_of home (pages_of holds.state) ≡ None = standing_undamaged home (pages_of holds.state) c.cells holds.stand in
    cc

-- so it is opened, but for a halt or want of memory
pub is_opened : (server servers n home : ℕ) (image : Image) (c : Contents) (f : VaultFault) → Holds server servers n home image c → WhyNotOpened server servers n image f → IsOfVolume f
is_opened server servers n home image c fault.Failed holds why = tt
is_opened server servers n home image c fault.Stopped holds why = tt
is_opened server servers n home image c fault.OutOfMemory holds why = tt
is_opened server servers n home image c (fault.NotAVolume found) holds why = absurd (read_is_mounted server servers n image holds.state (fault.NotAVolume found) holds.reads tt why)
is_opened server servers n home image c (fault.Damaged place) holds why = ⊎_elim
    (λ not_mounted. absurd (read_is_mounted server servers n image holds.state (fault.Damaged place) holds.reads tt not_mounted))
    (λ bad. absurd (no_damage server servers n home image c place holds bad)) why

-- what a disk holds has one number of home pages, and so one pair of sizes
pub one_size : (server servers n : ℕ) (a b : Sizes) (image : Image) (c d : Contents) → Holds server servers n a.home image c → Holds server servers n b.home image d → 2 + 2 * a.area + a.home ≡ n → 2 + 2 * b.area + b.home ≡ n → a ≡ b
one_size server servers n a b image c d x y first second =
    let state : x.state ≡ y.state = reads_once server servers n image x.state y.state x.reads y.reads in
    let home : a.home ≡ b.home = sym x.long ∙ ap (λ (s : State). length s.pages) state ∙ y.long in
    let area : a.area ≡ b.area = omega (arith, first, second, home) in
    λ i. record { home = home i; area = area i }

module _ {D : Type 0} (g : Ghosts D) (counts : (start disk : D) (c : Image) → g.may_leave disk c → g.left_since start disk c) (as_read : (d : D) → IsTrue (g.tells d) → g.may_leave d (g.seen d)) where
  -- the log over the disk that came back
  module _ (v w : Wal D) (looked : Looked g (disk_of v) (disk_of w)) (anchor : anchor_of w ≡ anchor_of v) (index : index_of w ≡ index_of v) (notes : held_notes w ≡ held_notes v) where
    pub back_same : IsSameDisk g v w
    back_same = same_anchor g v w looked.tells looked.size anchor

    pub back_held : contents_of g w ≡ contents_of g v
    back_held = let state : told_by g w ≡ told_by g v = (λ i. record { pages = shown (home_pages (looked.seen i) (anchor i)) (index i); notes = (notes i).notes }) in ap contents_in state

    pub back_crash : NoMore (MayLeave g v) (MayLeave g w)
    back_crash = may_fewer g v w back_same looked.crash

    pub back_time : (P : Contents → Type 0) → Adds (LeftSince g) v w P
    back_time P = adds_none g counts v w back_same looked.time P

    pub back_store : IsStore g v → IsStore g w
    back_store = store_on g v w back_same looked.crash

  -- what a read gives is one of the outcomes
  pub read_holds_one : (w : Wal D) → IsStore g w → IsTrue (g.tells (disk_of w)) → (c : Contents) × HoldsBy g w (g.seen (disk_of w)) c
  read_holds_one w store told = store.leaves told (g.seen (disk_of w)) (as_read (disk_of w) told)

  -- the volume that was opened
  module _ (v w : Wal D) (looked : Looked g (disk_of v) (disk_of w)) (number : (anchor_of w).server ≡ (anchor_of v).server) (of_all : (anchor_of w).servers ≡ (anchor_of v).servers) (sizes : (anchor_of w).sizes ≡ (anchor_of v).sizes) where
    pub opened_same : IsSameDisk g v w
    opened_same = record { tells = looked.tells; size = looked.size; volume = record { server = number; servers = of_all; sizes = sizes } }

    pub opened_left : (c : Contents) → HoldsBy g w (g.seen (disk_of v)) c → IsTrue (g.tells (disk_of v)) → MayLeave g v c
    opened_left c holds told = record { image = g.seen (disk_of v); left = as_read (disk_of v) told; holds = holds_before g v w opened_same (g.seen (disk_of v)) c holds }

    pub opened_crash : NoMore (MayLeave g v) (MayLeave g w)
    opened_crash = may_fewer g v w opened_same looked.crash

    pub opened_time : (P : Contents → Type 0) → Adds (LeftSince g) v w P
    opened_time P = adds_none g counts v w opened_same looked.time P

  -- it has the sizes that the store had
  pub same_sizes : (v w : Wal D) → IsStore g v → IsStore g w → Looked g (disk_of v) (disk_of w) → (anchor_of w).server ≡ (anchor_of v).server → (anchor_of w).servers ≡ (anchor_of v).servers → IsTrue (g.tells (disk_of v)) → (c : Contents) → HoldsBy g w (g.seen (disk_of v)) c → (anchor_of w).sizes ≡ (anchor_of v).sizes
  same_sizes v w before after looked number of_all told c holds =
      let old = read_holds_one v before told in
      let here : Holds (anchor_of v).server (anchor_of v).servers (g.size (disk_of v)) (anchor_of w).sizes.home (g.seen (disk_of v)) c =
      subst (λ (t : ℕ × ℕ × ℕ). Holds t.0 t.1 t.2 (anchor_of w).sizes.home (g.seen (disk_of v)) c) (λ i. (number i, of_all i, looked.size i)) holds in
      one_size (anchor_of v).server (anchor_of v).servers (g.size (disk_of v)) (anchor_of w).sizes (anchor_of v).sizes (g.seen (disk_of v)) c old.0 here old.1 (after.sizes.total ∙ looked.size) before.sizes.total

  -- ---- both outcomes

  -- the log over the disk that was given back
  pub given_back : ((disk : D) (c : Image) → g.left_since disk disk c → g.may_leave disk c) → (v w : Wal D) (d e : D) (f : VaultFault) (server servers : ℕ) → d ≡ disk_of v → disk_of w ≡ e → Looked g d e → anchor_of w ≡ anchor_of v → index_of w ≡ index_of v → held_notes w ≡ held_notes v → IsStore g v
      → HasFaultCause (g.faults d) (g.faults e) (g.allowance e) f → IsCountKept (g.faults d) (g.faults e) f → (IsTrue (g.tells (disk_of v)) → IsOfVolume f) → IsGivenBack g v w f
  given_back only v w d e f server servers from there looked anchor index notes store cause still volume =
      let here : Looked g (disk_of v) (disk_of w) = subst (λ (t : D × D). Looked g t.0 t.1) (λ i. (from i, sym there i)) looked in
      record {
        store = back_store v w here anchor index notes store;
        same = back_same v w here anchor index notes;
        held = back_held v w here anchor index notes;
        crash = back_crash v w here anchor index notes;
        time = back_time v w here anchor index notes (MayLeave g v);
        whole = whole_still g only v w here.time store;
        later = here.later;
        spends = here.allowance;
        cause = subst (λ (t : D × D). HasFaultCause (g.faults t.0) (g.faults t.1) (g.allowance t.1) f) (λ i. (from i, sym there i)) cause;
        still = subst (λ (t : D × D). IsCountKept (g.faults t.0) (g.faults t.1) f) (λ i. (from i, sym there i)) still;
        volume = volume;
      }

  -- why it was not opened is no fault of a volume
  pub not_of_volume : (v : Wal D) (d : D) (server servers : ℕ) (f : VaultFault) → d ≡ disk_of v → IsStore g v → (anchor_of v).server ≡ server → (anchor_of v).servers ≡ servers → (IsTrue (g.tells d) → WhyNotOpened server servers (g.size d) (g.seen d) f) → IsTrue (g.tells (disk_of v)) → IsOfVolume f
  not_of_volume v d server servers f from store number of_all why told =
      let c = read_holds_one v store told in
      let here : WhyNotOpened (anchor_of v).server (anchor_of v).servers (g.size (disk_of v)) (g.seen (disk_of v)) f =
      subst (λ (t : (ℕ × ℕ) × D). WhyNotOpened t.0.0 t.0.1 (g.size t.1) (g.seen t.1) f) (λ i. ((sym number i, sym of_all i), from i)) (why (subst (λ (x : D). IsTrue (g.tells x)) (sym from) told)) in
      is_opened (anchor_of v).server (anchor_of v).servers (g.size (disk_of v)) (anchor_of v).sizes.home (g.seen (disk_of v)) c.0 f c.1 here

  -- the volume is open, and has the sizes that it had
  pub reopened : ((disk : D) (c : Image) → g.left_since disk disk c → g.may_leave disk c) → (v : Wal D) (s : Shelf D) (d : D) (server servers : ℕ) → d ≡ disk_of v → Looked g d (disk_of (shelf_log s)) → (anchor_of v).server ≡ server → (anchor_of v).servers ≡ servers → (anchor_of (shelf_log s)).server ≡ server → (anchor_of (shelf_log s)).servers ≡ servers
      → (anchor_of (shelf_log s)).sizes ≡ (anchor_of v).sizes → IsStore g v → IsShelf g s → (IsTrue (g.tells d) → HoldsBy g (shelf_log s) (g.seen d) (contents_of g (shelf_log s))) → g.faults (disk_of (shelf_log s)) ≡ g.faults d → IsReopened g v s
  reopened only v s d server servers from looked number of_all number_now all_now sizes store is holds faults =
      let w = shelf_log s in
      let here : Looked g (disk_of v) (disk_of w) = subst (λ (x : D). Looked g x (disk_of w)) from looked in
      let first = number_now ∙ sym number in
      let second = all_now ∙ sym of_all in
      record {
        shelf = is;
        same = opened_same v w here first second sizes;
        left = λ told. opened_left v w here first second sizes (contents_of g w) (subst (λ (x : D). HoldsBy g w (g.seen x) (contents_of g w)) from (holds (subst (λ (x : D). IsTrue (g.tells x)) (sym from) told))) told;
        crash = opened_crash v w here first second sizes;
        time = opened_time v w here first second sizes (MayLeave g w);
        whole = whole_still g only v w here.time store;
        faults = faults ∙ ap g.faults from;
        spends = here.allowance;
      }

  -- so a disk that tells has them
  pub has_its_sizes : (v : Wal D) (s : Shelf D) (d : D) (server servers : ℕ) → d ≡ disk_of v → Looked g d (disk_of (shelf_log s)) → (anchor_of v).server ≡ server → (anchor_of v).servers ≡ servers → (anchor_of (shelf_log s)).server ≡ server → (anchor_of (shelf_log s)).servers ≡ servers
      → IsStore g v → IsShelf g s → (IsTrue (g.tells d) → HoldsBy g (shelf_log s) (g.seen d) (contents_of g (shelf_log s))) → IsTrue (g.tells (disk_of v)) → (anchor_of (shelf_log s)).sizes ≡ (anchor_of v).sizes
  has_its_sizes v s d server servers from looked number of_all number_now all_now before is holds told =
      let w = shelf_log s in
      let here : Looked g (disk_of v) (disk_of w) = subst (λ (x : D). Looked g x (disk_of w)) from looked in
      same_sizes v w before is.store here (number_now ∙ sym number) (all_now ∙ sym of_all) told (contents_of g w) (subst (λ (x : D). HoldsBy g w (g.seen x) (contents_of g w)) from (holds (subst (λ (x : D). IsTrue (g.tells x)) (sym from) told)))
