-- A store after calls of its log.
use Rattle.std.specs.Prelude.{Bool, false, Option, IsTrue}
use Rattle.std.proofs.Common.{◌≡◌, ℕ, List, sym, ◌∙◌, ap, subst}
use Rattle.alp_anchor.specs.declared.anchor.Anchor.{Anchor}
use Rattle.alp_base.specs.Crashes.{Adds, NoMore, Either, Only}
use Rattle.alp_base.specs.declared.bytes.NoteChange.{NoteChange}
use Rattle.alp_disk.specs.declared.disk.Disk.{Ghosts}
use Rattle.alp_base.specs.declared.change.Change.{Change}
use Rattle.alp_pool.specs.Pools.{log_of, device_of}
use Rattle.alp_pool.specs.declared.pool.Pool.{Pool}
use Rattle.alp_vault.specs.Contents.{Contents, made}
use Rattle.alp_vault.specs.Vault.{IsOneOf}
use Rattle.alp_wal.specs.Calls.{IsSameLog, IsLimited}
use Rattle.alp_wal.specs.Wal.{disk_of, anchor_of}
use Rattle.alp_wal.specs.declared.wal.Wal.{Wal}
use Rattle.alp_store.specs.Holding.{MayLeave, LeftSince}
use Rattle.alp_store.specs.Shelves.{IsStore, IsRight, shelf_log, stage_log}
use Rattle.alp_store.specs.StoreStates.{StoreOf}
use Rattle.alp_store.specs.Told.{contents_of}
use Rattle.alp_store.specs.declared.shelf.Shelf.{Shelf}
use Rattle.alp_store.specs.declared.stage.Stage.{Stage}
use Rattle.alp_store.specs.declared.stage.Stage.TheVariants.{Open, Fallen}
use Rattle.alp_store.proofs.VaultLaws.{limited_store, limited_shelf, crash_store, crash_one}

module _ {D : Type 0} (g : Ghosts D) where
  -- ---- another allowance

  pub right_open : (server servers : ℕ) (serves : Bool) (s : Shelf D) (p : Pool D) (calls : Option ℕ) → IsSameLog (shelf_log s) (log_of p) → IsLimited g calls (device_of s.pages) (device_of p) → IsRight g server servers serves (Open s) → IsRight g server servers serves (Open (record s { pages = p }))
  right_open server servers serves s p calls same below is = record {
    number = ap (λ (a : Anchor). a.server) same.anchor ∙ is.number;
    of_all = ap (λ (a : Anchor). a.servers) same.anchor ∙ is.of_all;
    store = limited_store g (shelf_log s) (log_of p) calls same below is.store;
    serving = λ e. limited_shelf g s p calls same below (is.serving e);
  }

  pub right_fallen : (server servers : ℕ) (serves : Bool) (v w : Wal D) (calls : Option ℕ) → IsSameLog v w → IsLimited g calls (disk_of v) (disk_of w) → IsRight g server servers serves (Fallen v) → IsRight g server servers serves (Fallen w)
  right_fallen server servers serves v w calls same below is = record {
    number = ap (λ (a : Anchor). a.server) same.anchor ∙ is.number;
    of_all = ap (λ (a : Anchor). a.servers) same.anchor ∙ is.of_all;
    store = limited_store g v w calls same below is.store;
    serving = is.serving;
  }

  -- ---- what is said of logs, said of stores

  pub store_adds : (old new : StoreOf D) (v w : Wal D) (P : Contents → Type 0) → v ≡ old.log → w ≡ new.log → Adds (LeftSince g) v w P → Adds (λ (start s : StoreOf D). LeftSince g start.log s.log) old new P
  store_adds old new v w P before after adds = record { each = λ start c. on.each start.log c }
    where
      on : Adds (LeftSince g) old.log new.log P
      on = subst (λ (t : Wal D × Wal D). Adds (LeftSince g) t.0 t.1 P) (λ i. (before i, after i)) adds

  pub stored_crash : (change : Change) (notes : List NoteChange) (v w u : Wal D) → v ≡ u → (IsTrue (g.tells (disk_of v)) → NoMore (Either (contents_of g v) (made change notes (contents_of g v))) (MayLeave g w)) → IsTrue (g.tells (disk_of u)) → NoMore (Either (contents_of g u) (made change notes (contents_of g u))) (MayLeave g w)
  stored_crash change notes v w u same h = subst (λ (x : Wal D). IsTrue (g.tells (disk_of x)) → NoMore (Either (contents_of g x) (made change notes (contents_of g x))) (MayLeave g w)) same h

  pub store_adds_no_more : (old new : StoreOf D) (v w : Wal D) → v ≡ old.log → w ≡ new.log → Adds (LeftSince g) v w (MayLeave g v) → Adds (λ (start s : StoreOf D). LeftSince g start.log s.log) old new (MayLeave g old.log)
  store_adds_no_more old new v w before after adds = store_adds old new v w (MayLeave g old.log) before after (subst (λ (x : Wal D). Adds (LeftSince g) v w (MayLeave g x)) before adds)

  -- ---- a crash

  module _ (server servers : ℕ) (serves : Bool) (st : Stage D) (d p : D) (w : Wal D) (from : d ≡ disk_of (stage_log st)) (to : disk_of w ≡ p) (anchor : anchor_of w ≡ anchor_of (stage_log st)) (tells : g.tells p ≡ g.tells d) (size : g.size p ≡ g.size d)
      (left : IsTrue (g.tells d) → g.may_leave d (g.seen p)) (still : IsTrue (g.tells d) → Only (g.seen p) (g.may_leave p)) where
    tells_now : g.tells (disk_of w) ≡ g.tells (disk_of (stage_log st))
    tells_now = ap g.tells to ∙ tells ∙ ap g.tells from

    size_now : g.size (disk_of w) ≡ g.size (disk_of (stage_log st))
    size_now = ap g.size to ∙ size ∙ ap g.size from

    left_now : IsTrue (g.tells (disk_of (stage_log st))) → g.may_leave (disk_of (stage_log st)) (g.seen (disk_of w))
    left_now = subst (λ (t : D × D). IsTrue (g.tells t.0) → g.may_leave t.0 (g.seen t.1)) (λ i. (from i, sym to i)) left

    still_now : IsTrue (g.tells (disk_of (stage_log st))) → Only (g.seen (disk_of w)) (g.may_leave (disk_of w))
    still_now = subst (λ (t : D × D). IsTrue (g.tells t.0) → Only (g.seen t.1) (g.may_leave t.1)) (λ i. (from i, sym to i)) still

    pub fallen_right : IsRight g server servers serves st → IsRight g server servers false (Fallen w)
    fallen_right is = record {
      number = ap (λ (a : Anchor). a.server) anchor ∙ is.number;
      of_all = ap (λ (a : Anchor). a.servers) anchor ∙ is.of_all;
      store = crash_store g (stage_log st) w tells_now size_now anchor left_now still_now is.store;
      serving = λ e. cc;
    }

    pub fallen_one : ((x : D) → IsTrue (g.tells x) → g.may_leave x (g.seen x)) → IsStore g (stage_log st) → IsTrue (g.tells (disk_of (stage_log st))) → IsOneOf (MayLeave g (stage_log st)) (MayLeave g w)
    fallen_one as_read store told = crash_one g (stage_log st) w tells_now size_now anchor left_now still_now as_read store told
