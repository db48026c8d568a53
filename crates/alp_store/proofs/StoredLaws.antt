-- What a commit leaves of an open volume.
use Rattle.std.specs.Prelude.{IsTrue, Result, Ok, Err, true, false}
use Rattle.std.proofs.Common.{◌≡◌, ℕ, List, length, inl, inr, refl, sym, ◌∙◌, ap, subst, ⊎_elim}
use Rattle.alp_base.specs.Allowances.{Spends}
use Rattle.alp_base.specs.Crashes.{NoMore, Either, Adds}
use Rattle.alp_base.specs.Faults.{HasVaultCause, IsOfVolume}
use Rattle.alp_base.specs.Notes.{notes_after}
use Rattle.alp_base.specs.declared.allowance.Allowance.{Allowance}
use Rattle.alp_base.specs.declared.bytes.NoteChange.{NoteChange}
use Rattle.alp_base.specs.declared.faults.Sizes.{Sizes}
use Rattle.alp_base.specs.declared.faults.VaultFault.{VaultFault}
use Rattle.alp_base.specs.declared.faults.VaultFault.TheVariants as fault
use Rattle.alp_anchor.specs.Anchor.{AreSizesOf}
use Rattle.alp_disk.specs.Disk.{Image}
use Rattle.alp_disk.specs.declared.disk.Disk.{Ghosts}
use Rattle.alp_files.specs.Cells.{Cells}
use Rattle.alp_files.specs.Changes.{edits_of}
use Rattle.alp_files.specs.Edits.{edits_map}
use Rattle.alp_base.specs.declared.change.Change.{Change}
use Rattle.alp_pages.specs.Pages.{Pages}
use Rattle.alp_pool.specs.Pools.{log_of, device_of}
use Rattle.alp_pool.specs.declared.pool.Pool.{Pool}
use Rattle.alp_pool.proofs.Logged.{as_many_pages}
use Rattle.alp_vault.specs.Contents.{Contents, made}
use Rattle.alp_vault.specs.Vault.{IsServer, serves_past_change}
use Rattle.alp_volume.specs.Drafts.{Changed, IsPlanned, laid}
use Rattle.alp_volume.specs.Known.{IsCatalog}
use Rattle.alp_volume.specs.declared.catalog.Catalog.{Catalog}
use Rattle.alp_wal.specs.State.{State, applied}
use Rattle.alp_wal.specs.Wal.{disk_of, anchor_of, notes_of, is_dead, BeforeOrAfter, IsKnown}
use Rattle.alp_wal.specs.declared.wal.Wal.{Wal}
use Rattle.alp_store.specs.Batches.{batch_of, AreBelow}
use Rattle.alp_store.specs.Commits.{HasPut, HasStored, IsAsItWas}
use Rattle.alp_store.specs.Holding.{HoldsBy, MayLeave, LeftSince, IsSameDisk, IsAlwaysWhole}
use Rattle.alp_store.specs.Reads.{IsReadOn}
use Rattle.alp_store.specs.Shelves.{shelf_log, IsShelf, IsStore}
use Rattle.alp_store.specs.Told.{pages_of, contents_in, told_by, contents_of}
use Rattle.alp_store.specs.declared.shelf.Shelf.{Shelf}
use Rattle.alp_store.proofs.Holdings.{holds_state, state_holds, holds_before, holds_after, may_fewer, adds_none, whole_still, read_same, read_holds, read_shelf}
use Rattle.alp_store.proofs.Overlaid.{laid_held, length-overlaid}
use Rattle.alp_store.proofs.PutLaws.{spends_nothing}
use Rattle.alp_store.proofs.Standing.{told_is}

module _ {D : Type 0} (g : Ghosts D) (counts : (start disk : D) (c : Image) → g.may_leave disk c → g.left_since start disk c) where
  -- what a crash leaves of an open volume is what it holds
  pub settled : (s : Shelf D) → IsShelf g s → (IsTrue (g.tells (disk_of (shelf_log s))) → IsKnown (g.size (disk_of (shelf_log s))) (g.seen (disk_of (shelf_log s))) (g.may_leave (disk_of (shelf_log s))) (shelf_log s))
      → IsTrue (g.tells (disk_of (shelf_log s))) → (c : Contents) → MayLeave g (shelf_log s) c → c ≡ contents_of g (shelf_log s)
  settled s is known told c m =
      let w = shelf_log s in
      let k = known told in
      let holds : HoldsBy g w (g.seen (disk_of w)) c = subst (λ (x : Image). HoldsBy g w x c) (k.durable m.image m.left) m.holds in
      holds_state (anchor_of w).server (anchor_of w).servers (g.size (disk_of w)) (anchor_of w).sizes.home (g.seen (disk_of w)) c (told_by g w) holds (record { anchor = anchor_of w; bodies = k.bodies; server_is = refl; servers_is = refl; by = k.by })

  -- and what it might have left since, where there was nothing else to be left than before
  pub settled_since : (s : Shelf D) → IsShelf g s → (IsTrue (g.tells (disk_of (shelf_log s))) → IsKnown (g.size (disk_of (shelf_log s))) (g.seen (disk_of (shelf_log s))) (g.may_leave (disk_of (shelf_log s))) (shelf_log s))
      → (w : Wal D) → IsSameDisk g (shelf_log s) w → Adds g.left_since (disk_of (shelf_log s)) (disk_of w) (g.may_leave (disk_of (shelf_log s))) → IsTrue (g.tells (disk_of (shelf_log s))) → Adds (LeftSince g) (shelf_log s) w (λ c. c ≡ contents_of g (shelf_log s))
  settled_since s is known w same adds told = record {
    each = λ start c m. (
        let holds = holds_before g (shelf_log s) w same m.image c m.holds in
        ⊎_elim (λ before. inl (record { image = m.image; left = before; holds = holds })) (λ now. inr (settled s is known told c (record { image = m.image; left = now; holds = holds }))) (adds.each (disk_of start) m.image m.left)
        );
  }

  -- ---- a call that only read

  module _ {T : Type 0} (only : (disk : D) (c : Image) → g.left_since disk disk c → g.may_leave disk c) (change : Change) (notes : List NoteChange) (s : Shelf D) (is : IsShelf g s) (known : IsTrue (g.tells (disk_of (shelf_log s))) → IsKnown (g.size (disk_of (shelf_log s))) (g.seen (disk_of (shelf_log s))) (g.may_leave (disk_of (shelf_log s))) (shelf_log s))
      (p : Pool D) (read : IsReadOn g s.pages p) (f : VaultFault) (cause : HasVaultCause {T = T} (g.faults (device_of s.pages)) (g.faults (device_of p)) (g.allowance (device_of p)) (Err f)) where
    pub stored_nothing : HasStored {T = T} g change notes s (record s { pages = p }) (Err f)
    stored_nothing =
        let still = read_shelf g s p read is in
        let same = read_same g s.pages p read in
        record {
          cells = λ told. tt;
          noted = tt;
          crash = λ told c m. inl (settled s is known told c (may_fewer g (shelf_log s) (log_of p) same read.below.crash c m));
          time = λ told. adds_none g counts (shelf_log s) (log_of p) same read.below.time (Either (contents_of g (shelf_log s)) (made change notes (contents_of g (shelf_log s))));
          whole = whole_still g only (shelf_log s) (log_of p) read.below.time is.store;
          memory = λ told e. settled_since s is known (log_of p) same read.below.time told;
          same = λ e. (read_holds g s.pages p read, read.below.allowance);
          kept = same;
          store = still.store;
          stays = λ serving. still;
          spends = subst (λ (a : Allowance). Spends (g.allowance (device_of s.pages)) a) (sym read.below.allowance) (spends_nothing (g.allowance (device_of s.pages)));
          cause = cause;
        }

  -- ---- a call that committed the pages of a plan

  module _ {T : Type 0} (change : Change) (notes : List NoteChange) (s : Shelf D) (is : IsShelf g s) (p : Pool D) (pages : Changed) (r : Result T VaultFault) (put : HasPut g (batch_of pages notes) (shelf_log s) (log_of p) r)
      (below : AreBelow (anchor_of (shelf_log s)).sizes.home pages) (c : Catalog) (sized : IsCatalog (anchor_of (shelf_log s)).sizes.home c)
      (planned : IsTrue (g.tells (disk_of (shelf_log s))) → IsPlanned (anchor_of (shelf_log s)).sizes.home (laid pages (pages_of (told_by g (shelf_log s)))) (edits_map (edits_of change) (contents_of g (shelf_log s)).cells) c) where
    abbrev w : Wal D
    w = shelf_log s

    abbrev home : ℕ
    home = (anchor_of (shelf_log s)).sizes.home

    abbrev later : State
    later = applied (told_by g (shelf_log s)) (batch_of pages notes)

    abbrev cells_later : Cells
    cells_later = edits_map (edits_of change) (contents_of g (shelf_log s)).cells

    long : length (told_by g w).pages ≡ home
    long = as_many_pages w (g.seen (disk_of w))

    pages_later : laid pages (pages_of (told_by g w)) ≡ pages_of later
    pages_later = laid_held home pages (told_by g w) notes long below

    stands_later : IsTrue (g.tells (disk_of w)) → IsPlanned home (pages_of later) cells_later c
    stands_later told = subst (λ (at : Pages). IsPlanned home at cells_later c) pages_later (planned told)

    contents_later : IsTrue (g.tells (disk_of w)) → contents_in later ≡ made change notes (contents_of g w)
    contents_later told = let cells = told_is home (pages_of later) cells_later (stands_later told).stands in λ i. record { cells = cells i; notes = notes_after notes (notes_of w) }

    -- what may be left of the disk holds the one or the other
    either : IsTrue (g.tells (disk_of w)) → (image : Image) (x : Contents) → HoldsBy g w image x → BeforeOrAfter (anchor_of w).server (anchor_of w).servers (g.size (disk_of w)) (told_by g w) (batch_of pages notes) image → Either (contents_of g w) (made change notes (contents_of g w)) x
    either told image x holds is = ⊎_elim
        (λ before. inl (holds_state (anchor_of w).server (anchor_of w).servers (g.size (disk_of w)) home image x (told_by g w) holds before))
        (λ after. inr (holds_state (anchor_of w).server (anchor_of w).servers (g.size (disk_of w)) home image x later holds after ∙ contents_later told)) is

    outcome : IsTrue (g.tells (disk_of w)) → (image : Image) → g.may_leave (device_of p) image → BeforeOrAfter (anchor_of w).server (anchor_of w).servers (g.size (disk_of w)) (told_by g w) (batch_of pages notes) image
    outcome told image left = (put.crash told).within image (counts (disk_of w) (device_of p) image left)

    -- so they hold something
    volume : IsTrue (g.tells (disk_of w)) → (image : Image) → BeforeOrAfter (anchor_of w).server (anchor_of w).servers (g.size (disk_of w)) (told_by g w) (batch_of pages notes) image → (x : Contents) × HoldsBy g w image x
    volume told image is_one = ⊎_elim
        (λ before. (contents_of g w, state_holds (anchor_of w).server (anchor_of w).servers (g.size (disk_of w)) home image (told_by g w) (contents_of g w).cells before long (is.knows told).stands))
        (λ after. (record { cells = cells_later; notes = later.notes }, state_holds (anchor_of w).server (anchor_of w).servers (g.size (disk_of w)) home image later cells_later after (length-overlaid (batch_of pages notes).images (told_by g w).pages ∙ long) (stands_later told).stands))
        is_one

    whole : IsAlwaysWhole g w (log_of p)
    whole told = record {
      within = λ c left. volume told c ((put.crash told).within c left);
      adds = record { each = λ start c left. ⊎_elim (λ was. inl was) (λ now. inr (volume told c now)) ((put.crash told).adds.each start c left) };
    }

    leaves : IsTrue (g.tells (disk_of w)) → (image : Image) → g.may_leave (device_of p) image → (x : Contents) × HoldsBy g (log_of p) image x
    leaves told image left = let x = volume told image (outcome told image left) in (x.0, holds_after g w (log_of p) put.same image x.0 x.1)

    store : IsStore g (log_of p)
    store = record {
      sizes = subst (λ (t : ℕ × Sizes). AreSizesOf t.0 t.1) (λ i. (sym put.same.size i, sym put.same.volume.sizes i)) is.store.sizes;
      server = subst (λ (t : ℕ × ℕ). IsServer t.0 t.1) (λ i. (sym put.same.volume.server i, sym put.same.volume.servers i)) is.store.server;
      leaves = λ told image left. leaves (subst IsTrue put.same.tells told) image left;
    }

    sized_later : (k : Catalog) → IsCatalog home k → IsCatalog (anchor_of (log_of p)).sizes.home k
    sized_later k is_sized = subst (λ (z : Sizes). IsCatalog z.home k) (sym put.same.volume.sizes) is_sized

    knows_at : (k : Catalog) (st : State) → told_by g (log_of p) ≡ st → IsPlanned home (pages_of st) (contents_in st).cells k → IsPlanned (anchor_of (log_of p)).sizes.home (pages_of (told_by g (log_of p))) (contents_of g (log_of p)).cells k
    knows_at k st now is_planned = subst (λ (t : Sizes × State). IsPlanned t.0.home (pages_of t.1) (contents_in t.1).cells k) (λ i. (sym put.same.volume.sizes i, sym now i)) is_planned

    -- the volume after Ok
    shelf_ok : is_dead (log_of p) ≡ false → (IsTrue (g.tells (disk_of w)) → told_by g (log_of p) ≡ later) → IsShelf g (record { pages = p; catalog = c })
    shelf_ok alive now = record {
      alive = alive;
      store = store;
      sized = sized_later c sized;
      knows = λ told. (
          let told0 = subst IsTrue put.same.tells told in
          knows_at c later (now told0) (subst (λ (m : Cells). IsPlanned home (pages_of later) m c) (sym (told_is home (pages_of later) cells_later (stands_later told0).stands)) (stands_later told0))
          );
    }

    -- and after want of memory
    shelf_err : IsAsItWas g w (log_of p) → IsShelf g (record s { pages = p })
    shelf_err was = record {
      alive = was.goes_on ∙ is.alive;
      store = store;
      sized = sized_later s.catalog is.sized;
      knows = λ told. knows_at s.catalog (told_by g w) was.told (is.knows (subst IsTrue put.same.tells told));
    }

    crash : IsTrue (g.tells (disk_of w)) → NoMore (Either (contents_of g w) (made change notes (contents_of g w))) (MayLeave g (log_of p))
    crash told x m = either told m.image x (holds_before g w (log_of p) put.same m.image x m.holds) (outcome told m.image m.left)

    time : IsTrue (g.tells (disk_of w)) → Adds (LeftSince g) w (log_of p) (Either (contents_of g w) (made change notes (contents_of g w)))
    time told = record {
      each = λ start x m. (
          let holds = holds_before g w (log_of p) put.same m.image x m.holds in
          ⊎_elim (λ before. inl (record { image = m.image; left = before; holds = holds })) (λ now. inr (either told m.image x holds now)) ((put.crash told).adds.each (disk_of start) m.image m.left)
          );
    }

  module _ {T : Type 0} (change : Change) (notes : List NoteChange) (s : Shelf D) (is : IsShelf g s) (p : Pool D) (pages : Changed) (below : AreBelow (anchor_of (shelf_log s)).sizes.home pages) (c : Catalog) (sized : IsCatalog (anchor_of (shelf_log s)).sizes.home c)
      (planned : IsTrue (g.tells (disk_of (shelf_log s))) → IsPlanned (anchor_of (shelf_log s)).sizes.home (laid pages (pages_of (told_by g (shelf_log s)))) (edits_map (edits_of change) (contents_of g (shelf_log s)).cells) c) where
    pub stored_ok : (x : T) → HasPut g (batch_of pages notes) (shelf_log s) (log_of p) (Ok x) → HasStored g change notes s (record { pages = p; catalog = c }) (Ok x)
    stored_ok x put = record {
      cells = λ told. ap contents_in (put.becomes told) ∙ contents_later change notes s is p pages (Ok x) put below c sized planned told;
      noted = put.notes;
      crash = crash change notes s is p pages (Ok x) put below c sized planned;
      time = time change notes s is p pages (Ok x) put below c sized planned;
      whole = whole change notes s is p pages (Ok x) put below c sized planned;
      memory = λ told e. cc;
      same = λ e. cc;
      kept = put.same;
      store = store change notes s is p pages (Ok x) put below c sized planned;
      stays = shelf_ok change notes s is p pages (Ok x) put below c sized planned put.alive put.becomes;
      spends = put.spends;
      cause = put.cause;
    }

    pub stored_err : (IsTrue (g.tells (disk_of (shelf_log s))) → IsKnown (g.size (disk_of (shelf_log s))) (g.seen (disk_of (shelf_log s))) (g.may_leave (disk_of (shelf_log s))) (shelf_log s)) → (f : VaultFault) → HasPut {T = T} g (batch_of pages notes) (shelf_log s) (log_of p) (Err f) → HasStored {T = T} g change notes s (record s { pages = p }) (Err f)
    stored_err known f put = record {
      cells = λ told. tt;
      noted = tt;
      crash = crash change notes s is p pages (Err f) put below c sized planned;
      time = time change notes s is p pages (Err f) put below c sized planned;
      whole = whole change notes s is p pages (Err f) put below c sized planned;
      memory = λ told e. settled_since s is known (log_of p) put.same (put.memory e).time told;
      same = λ e. (let m = put.memory e in (ap contents_in m.told, m.allowance));
      kept = put.same;
      store = store change notes s is p pages (Err f) put below c sized planned;
      stays = λ serving. shelf_err change notes s is p pages (Err f) put below c sized planned (put.memory (wanted f serving put.cause.volume));
      spends = put.spends;
      cause = put.cause;
    }
      where
        -- only want of memory leaves it open
        wanted : (f : VaultFault) → serves_past_change f ≡ true → IsOfVolume f → ◌≡◌ {A = Result T VaultFault} (Err f) (Err fault.OutOfMemory)
        wanted fault.Failed e v = cc
        wanted fault.Stopped e v = cc
        wanted fault.OutOfMemory e v = refl
        wanted (fault.NotAVolume found) e v = absurd v
        wanted (fault.Damaged place) e v = absurd v
