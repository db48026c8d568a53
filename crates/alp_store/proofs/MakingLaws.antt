-- What a crash may leave while a new disk is made a volume, or made new again.
use Rattle.std.specs.Prelude.{Result, Ok, Err, MatchResult, IfOk, IfErr}
use Rattle.std.proofs.Common.{◌≡◌, ℕ, inl, inr, refl, sym, subst, ⊎_elim, arith}
use Rattle.alp_anchor.specs.declared.anchor.Anchor.{Anchor}
use Rattle.alp_base.specs.Crashes.{Adds, After, LeavesOnly}
use Rattle.alp_base.specs.declared.faults.Sizes.{Sizes}
use Rattle.alp_base.specs.declared.faults.VaultFault.{VaultFault}
use Rattle.alp_disk.specs.Calls.{OnlyRead}
use Rattle.alp_disk.specs.Disk.{Image}
use Rattle.alp_disk.specs.Runs.{SameOutside}
use Rattle.alp_disk.specs.declared.disk.Disk.{Ghosts}
use Rattle.alp_disk.proofs.Moments.{adds_more}
use Rattle.alp_format.specs.Format.{blank_state, first_anchor, Formatting}
use Rattle.alp_pool.specs.Pools.{log_of, device_of}
use Rattle.alp_pool.specs.declared.pool.Pool.{Pool}
use Rattle.alp_wal.proofs.Commits.{leaves_weaker, leaves_then}
use Rattle.alp_wal.specs.Reading.{Reads}
use Rattle.alp_wal.specs.State.{State, applied}
use Rattle.alp_wal.specs.Wal.{disk_of, BeforeOrAfter}
use Rattle.alp_wal.specs.declared.wal.Wal.{Wal}
use Rattle.alp_store.specs.Reads.{IsReadOn}
use Rattle.alp_store.specs.Shelves.{shelf_log}
use Rattle.alp_store.specs.Starts.{header_batch, Making, Unmaking, HasFormatted}
use Rattle.alp_store.specs.declared.shelf.Shelf.{Shelf}

-- what holds of the disk of a log holds of it in buffers, and of the disk that is given back
pub buffered_as : {D : Type 0} (P : D → Type 0) (w : Wal D) (result : Result (Pool D) (D × VaultFault)) → IfOk result (λ p. log_of p ≡ w) → IfErr result (λ e. e.0 ≡ disk_of w) → P (disk_of w) → MatchResult result (λ p. P (device_of p)) (λ e. P e.0)
buffered_as {D = D} P w (Ok p) same back h = subst (λ (v : Wal D). P (disk_of v)) (sym same) h
buffered_as {D = D} P w (Err e) same back h = subst P (sym back) h

module _ {D : Type 0} (g : Ghosts D) (server servers : ℕ) (sizes : Sizes) where
  abbrev IsFormatting : D → Image → Type 0
  IsFormatting d = Formatting server servers (g.size d) sizes (g.may_leave d)

  abbrev IsMaking : D → Image → Type 0
  IsMaking d = Making server servers (g.size d) sizes (g.may_leave d)

  abbrev IsUnmaking : D → Image → Type 0
  IsUnmaking d = Unmaking server servers (g.size d) sizes (g.may_leave d)

  as_making : (d : D) (c : Image) → IsFormatting d c → IsMaking d c
  as_making d c is = inl is

  as_unmaking : (d : D) (c : Image) → IsMaking d c → IsUnmaking d c
  as_unmaking d c is = record { made = c; making = is; behind = λ q more. refl }

  -- formatting alone
  pub only_formatted : (d e : D) → LeavesOnly g.left_since d e (Formatting server servers (g.size d) sizes (g.may_leave d)) → LeavesOnly g.left_since d e (Making server servers (g.size d) sizes (g.may_leave d))
  only_formatted d e is = leaves_weaker g.left_since d e (IsFormatting d) (IsMaking d) is (as_making d)

  -- the header behind it
  pub header_put : (d m e : D) (a : Anchor) (s : State) → a ≡ first_anchor server servers sizes → g.size m ≡ g.size d → s ≡ blank_state sizes.home
      → LeavesOnly g.left_since d m (Formatting server servers (g.size d) sizes (g.may_leave d)) → LeavesOnly g.left_since m e (BeforeOrAfter a.server a.servers (g.size m) s header_batch)
      → LeavesOnly g.left_since d e (Making server servers (g.size d) sizes (g.may_leave d))
  header_put d m e a s first size blank format put =
      leaves_then g.left_since d m e (IsFormatting d) (BeforeOrAfter server servers (g.size d) (blank_state sizes.home) header_batch) (IsMaking d) format
      (subst (λ (x : State). LeavesOnly g.left_since m e (BeforeOrAfter server servers (g.size d) x header_batch)) blank
      (subst (λ (n : ℕ). LeavesOnly g.left_since m e (BeforeOrAfter server servers n s header_batch)) size
      (subst (λ (x : Anchor). LeavesOnly g.left_since m e (BeforeOrAfter x.server x.servers (g.size m) s header_batch)) first put)))
      (as_making d) (λ c either. ⊎_elim (λ before. inl (inr before)) (λ after. inr after) either)

  module _ (counts : (start disk : D) (c : Image) → g.may_leave disk c → g.left_since start disk c) where
    -- a call that reads adds nothing
    read_behind : (d m e : D) (P : Image → Type 0) → LeavesOnly g.left_since d m P → OnlyRead g m e → LeavesOnly g.left_since d e P
    read_behind d m e P only read = record {
      within = λ c left. ⊎_elim (only.within c) (λ now. only.within c (counts d m c now)) (read.time.each d c left);
      adds = adds_more g.left_since d m e P (g.may_leave m) only.adds read.time (λ c now. only.within c (counts d m c now));
    }

    pub shelved : (d : D) (q : Pool D) (result : Result (Shelf D) (D × VaultFault)) → MatchResult result (λ s. IsReadOn g q s.pages) (λ e. OnlyRead g (device_of q) e.0)
        → LeavesOnly g.left_since d (device_of q) (Making server servers (g.size d) sizes (g.may_leave d))
        → MatchResult result (λ s. LeavesOnly g.left_since d (disk_of (shelf_log s)) (Making server servers (g.size d) sizes (g.may_leave d))) (λ e. LeavesOnly g.left_since d e.0 (Making server servers (g.size d) sizes (g.may_leave d)))
    shelved d q (Ok s) read only = read_behind d (device_of q) (disk_of (shelf_log s)) (IsMaking d) only read.below
    shelved d q (Err e) read only = read_behind d (device_of q) e.0 (IsMaking d) only read

    -- zeros over the anchors
    pub unmade : (d m e : D) → LeavesOnly g.left_since d m (Making server servers (g.size d) sizes (g.may_leave d)) → Adds g.left_since m e (After (SameOutside 0 2) (g.may_leave m))
        → LeavesOnly g.left_since d e (Unmaking server servers (g.size d) sizes (g.may_leave d))
    unmade d m e only zeros =
        let here : (c : Image) → After (SameOutside 0 2) (g.may_leave m) c → IsUnmaking d c =
        (λ c after. record { made = after.0; making = only.within after.0 (counts d m after.0 after.1); behind = λ q more. after.2.behind q (omega (arith, more)) }) in
        let before = leaves_weaker g.left_since d m (IsMaking d) (IsUnmaking d) only (as_unmaking d) in
        record {
          within = λ c left. ⊎_elim (before.within c) (here c) (zeros.each d c left);
          adds = adds_more g.left_since d m e (IsUnmaking d) (After (SameOutside 0 2) (g.may_leave m)) before.adds zeros here;
        }

  pub not_renewed : (d e : D) → LeavesOnly g.left_since d e (Making server servers (g.size d) sizes (g.may_leave d)) → LeavesOnly g.left_since d e (Unmaking server servers (g.size d) sizes (g.may_leave d))
  not_renewed d e only = leaves_weaker g.left_since d e (IsMaking d) (IsUnmaking d) only (as_unmaking d)

  -- ---- a disk that was looked at before

  module _ (only_now : (disk : D) (c : Image) → g.left_since disk disk c → g.may_leave disk c) (d m : D) (read : OnlyRead g d m) where
    kept : LeavesOnly g.left_since d m (g.may_leave d)
    kept = record { within = λ c left. ⊎_elim (only_now d c) (λ now. now) (read.time.each d c left); adds = read.time }

    untouched : (c : Image) → g.may_leave d c → IsMaking d c
    untouched c left = inl (inl (c, left, λ q low high. refl))

    making_on : (c : Image) → IsMaking m c → IsMaking d c
    making_on c (inl (inl (x, left, same))) = inl (inl (x, read.crash x left, same))
    making_on c (inl (inr blank)) = inl (inr (subst (λ (n : ℕ). Reads server servers n c (blank_state sizes.home)) read.size blank))
    making_on c (inr made) = inr (subst (λ (n : ℕ). Reads server servers n c (applied (blank_state sizes.home) header_batch)) read.size made)

    -- no more than reads
    pub only_looked : LeavesOnly g.left_since d m (Unmaking server servers (g.size d) sizes (g.may_leave d))
    only_looked = leaves_weaker g.left_since d m (g.may_leave d) (IsUnmaking d) kept (λ c left. as_unmaking d c (untouched c left))

    pub formatted_on : {T : Type 0} (log_in : T → Wal D) (result : Result T (D × VaultFault)) → HasFormatted g log_in server servers sizes m result → HasFormatted g log_in server servers sizes d result
    formatted_on {T = T} log_in result h = record { empty = h.empty; anchor = h.anchor; volume = h.volume; memory = h.memory; made = made result h.made; refused = refused result h.refused }
      where
        made : (result : Result T (D × VaultFault)) → IfOk result (λ s. LeavesOnly g.left_since m (disk_of (log_in s)) (IsMaking m)) → IfOk result (λ s. LeavesOnly g.left_since d (disk_of (log_in s)) (IsMaking d))
        made (Ok s) only = leaves_then g.left_since d m (disk_of (log_in s)) (g.may_leave d) (IsMaking m) (IsMaking d) kept only untouched making_on
        made (Err e) only = tt

        refused : (result : Result T (D × VaultFault)) → IfErr result (λ e. LeavesOnly g.left_since m e.0 (IsUnmaking m)) → IfErr result (λ e. LeavesOnly g.left_since d e.0 (IsUnmaking d))
        refused (Ok s) only = tt
        refused (Err e) only =
            leaves_then g.left_since d m e.0 (g.may_leave d) (IsUnmaking m) (IsUnmaking d) kept only (λ c left. as_unmaking d c (untouched c left)) (λ c is. record { made = is.made; making = making_on is.made is.making; behind = is.behind })
