-- A commit through the log, seen from the pages that were read before it.
use Rattle.std.specs.Prelude.{IsTrue, Result, Err, OnOk}
use Rattle.std.proofs.Common.{◌≡◌, ◌≤◌, ◌-◌, ℕ, inl, inr, refl, sym, ◌∙◌, ap, subst, ⊎_elim, arith}
use Rattle.alp_base.specs.Allowances.{Spends}
use Rattle.alp_base.specs.Crashes.{Adds}
use Rattle.alp_base.specs.Faults.{HasVaultCause}
use Rattle.alp_base.specs.Notes.{Notes, notes_after}
use Rattle.alp_base.specs.declared.allowance.Allowance.{Allowance}
use Rattle.alp_base.specs.declared.allowance.Allowance.TheVariants.{Free, Left, Spent}
use Rattle.alp_base.specs.declared.faults.VaultFault.{VaultFault}
use Rattle.alp_base.specs.declared.faults.VaultFault.TheVariants as fault
use Rattle.alp_anchor.specs.declared.anchor.Anchor.{Anchor}
use Rattle.alp_batch.specs.declared.batch.Batch.{Batch}
use Rattle.alp_disk.specs.Disk.{Image}
use Rattle.alp_disk.specs.declared.disk.Disk.{Ghosts}
use Rattle.alp_notes.specs.Held.{Held}
use Rattle.alp_pool.specs.Pools.{log_of, device_of}
use Rattle.alp_pool.specs.declared.pool.Pool.{Pool}
use Rattle.alp_wal.specs.Calls.{Becomes, IsAsBefore}
use Rattle.alp_wal.specs.Live.{batch_pages}
use Rattle.alp_wal.specs.Reading.{home_pages, area_end}
use Rattle.alp_wal.specs.State.{State, applied}
use Rattle.alp_wal.specs.Wal.{disk_of, anchor_of, notes_of, shown, BeforeOrAfter, IsKnown}
use Rattle.alp_wal.specs.declared.wal.Wal.{Wal}
use Rattle.alp_wal.proofs.Commits.{crash_before, before_or_after_as}
use Rattle.alp_store.specs.Commits.{HasPut, IsAsItWas}
use Rattle.alp_store.specs.Holding.{IsSameDisk}
use Rattle.alp_store.specs.Reads.{IsReadOn}
use Rattle.alp_store.specs.ReadLaws.{read_told}
use Rattle.alp_store.specs.Told.{told_by}
use Rattle.alp_store.proofs.Holdings.{read_same, same_then}

pub spends_nothing : (a : Allowance) → Spends a a
spends_nothing Free = refl
spends_nothing (Left n) = omega arith
spends_nothing Spent = refl

-- want of memory has no cause
pub no_cause : {T : Type 0} (n : ℕ) (a : Allowance) → HasVaultCause {T = T} n n a (Err fault.OutOfMemory)
no_cause n a = record { later = omega arith; still = refl; cause = record { failed = λ e. cc; stopped = λ e. cc }; volume = tt }

module _ {D : Type 0} (g : Ghosts D) where
  pub same_itself : (w : Wal D) → IsSameDisk g w w
  same_itself w = record { tells = refl; size = refl; volume = record { server = refl; servers = refl; sizes = refl } }

  -- the log that wants memory tells what it told
  pub as_before : (old new : Wal D) → IsAsBefore old new → IsAsItWas g old new
  as_before old new is = record {
    told = λ i. record { pages = shown (home_pages (g.seen (is.disk i)) (is.anchor i)) (is.index i); notes = is.notes i };
    goes_on = is.dead;
    crash = λ c left. subst (λ (d : D). g.may_leave d c) is.disk left;
    time = record { each = λ start c left. inl (subst (λ (d : D). g.left_since start d c) is.disk left) };
    allowance = ap g.allowance is.disk;
  }

  -- nothing was put
  pub nothing_put : {T : Type 0} → ((disk : D) (c : Image) → g.left_since disk disk c → g.may_leave disk c) → (w : Wal D) (b : Batch) → (IsTrue (g.tells (disk_of w)) → IsKnown (g.size (disk_of w)) (g.seen (disk_of w)) (g.may_leave (disk_of w)) w)
      → HasPut {T = T} g b w w (Err fault.OutOfMemory)
  nothing_put only w b known = record {
    same = same_itself w;
    becomes = λ told. refl;
    crash = λ told. (let k = known told in record {
      within = λ c left. crash_before (g.size (disk_of w)) (anchor_of w) (g.seen (disk_of w)) k.bodies (told_by g w) b (g.may_leave (disk_of w)) k.by k.durable c (only (disk_of w) c left);
      adds = record { each = λ start c left. inl left };
    });
    notes = tt;
    alive = tt;
    anchor = tt;
    memory = λ e. record { told = refl; goes_on = refl; crash = λ c left. left; time = record { each = λ start c left. inl left }; allowance = refl };
    spends = spends_nothing (g.allowance (disk_of w));
    cause = no_cause (g.faults (disk_of w)) (g.allowance (disk_of w));
  }

  -- ---- reads before it

  module _ {T : Type 0} (only : (disk : D) (c : Image) → g.left_since disk disk c → g.may_leave disk c) (p q : Pool D) (w : Wal D) (b : Batch) (r : Result T VaultFault) (read : IsReadOn g p q) (faults : g.faults (device_of q) ≡ g.faults (device_of p))
      (known : IsTrue (g.tells (device_of p)) → IsKnown (g.size (device_of p)) (g.seen (device_of p)) (g.may_leave (device_of p)) (log_of p)) (put : HasPut g b (log_of q) w r) where
    told_still : IsTrue (g.tells (device_of p)) → IsTrue (g.tells (device_of q))
    told_still told = subst IsTrue (sym read.below.tells) told

    -- what the second log may leave meanwhile, said of the first
    meanwhile : (c : Image) → BeforeOrAfter (anchor_of (log_of q)).server (anchor_of (log_of q)).servers (g.size (device_of q)) (told_by g (log_of q)) b c → BeforeOrAfter (anchor_of (log_of p)).server (anchor_of (log_of p)).servers (g.size (device_of p)) (told_by g (log_of p)) b c
    meanwhile c is = before_or_after_as {a = anchor_of (log_of q)} {b = anchor_of (log_of p)} {p = b} {q = b} c
        (record { server = ap (λ (a : Anchor). a.server) read.same.anchor; servers = ap (λ (a : Anchor). a.servers) read.same.anchor; sizes = ap (λ (a : Anchor). a.sizes) read.same.anchor })
        read.below.size (read_told g p q read) refl is

    before : IsTrue (g.tells (device_of p)) → (c : Image) → g.may_leave (device_of p) c → BeforeOrAfter (anchor_of (log_of p)).server (anchor_of (log_of p)).servers (g.size (device_of p)) (told_by g (log_of p)) b c
    before told c left = let k = known told in crash_before (g.size (device_of p)) (anchor_of (log_of p)) (g.seen (device_of p)) k.bodies (told_by g (log_of p)) b (g.may_leave (device_of p)) k.by k.durable c left

    adds : IsTrue (g.tells (device_of p)) → Adds g.left_since (device_of p) (disk_of w) (BeforeOrAfter (anchor_of (log_of p)).server (anchor_of (log_of p)).servers (g.size (device_of p)) (told_by g (log_of p)) b)
    adds told = record {
      each = λ start c left. ⊎_elim
          (λ mid. ⊎_elim (λ was. inl was) (λ now. inr (before told c now)) (read.below.time.each start c mid))
          (λ later. inr (meanwhile c later))
          ((put.crash (told_still told)).adds.each start c left);
    }

    pub put_read : HasPut g b (log_of p) w r
    put_read = record {
      same = same_then g (log_of p) (log_of q) w (read_same g p q read) put.same;
      becomes = λ told. subst (λ (s : State). Becomes r s (applied s b) (told_by g w)) (read_told g p q read) (put.becomes (told_still told));
      crash = λ told. record { within = λ c left. ⊎_elim (λ was. before told c (only (device_of p) c was)) (λ now. now) ((adds told).each (device_of p) c left); adds = adds told };
      notes = subst (λ (n : Notes). OnOk r (notes_of w ≡ notes_after b.notes n)) (ap (λ (h : Held). h.notes) read.same.notes) put.notes;
      alive = put.alive;
      anchor = subst (λ (t : Anchor × ℕ). OnOk r (batch_pages b ≤ area_end t.0 - t.1 → anchor_of w ≡ t.0)) (λ i. (read.same.anchor i, read.same.end i)) put.anchor;
      memory = λ e. (let m = put.memory e in record {
        told = m.told ∙ read_told g p q read;
        goes_on = m.goes_on ∙ read.same.dead;
        crash = λ c left. read.below.crash c (m.crash c left);
        time = record { each = λ start c left. ⊎_elim (λ was. read.below.time.each start c was) (λ now. inr (read.below.crash c now)) (m.time.each start c left) };
        allowance = m.allowance ∙ read.below.allowance;
      });
      spends = subst (λ (a : Allowance). Spends a (g.allowance (disk_of w))) read.below.allowance put.spends;
      cause = subst (λ (n : ℕ). HasVaultCause n (g.faults (disk_of w)) (g.allowance (disk_of w)) r) faults put.cause;
    }
