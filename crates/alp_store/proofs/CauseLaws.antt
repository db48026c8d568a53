-- Why a store was not opened, from one disk to the next.
use Rattle.std.specs.Prelude.{Result, Ok, Err, IfOk, IfErr}
use Rattle.std.proofs.Common.{◌≡◌, ◌≤◌, ℕ, sym, ◌∙◌, ap, subst, arith}
use Rattle.alp_base.specs.Faults.{HasFaultCause, IsCountKept}
use Rattle.alp_base.specs.declared.faults.VaultFault.{VaultFault}
use Rattle.alp_base.specs.declared.faults.VaultFault.TheVariants as fault
use Rattle.alp_disk.specs.declared.disk.Disk.{Ghosts}
use Rattle.alp_pool.specs.Pools.{log_of, device_of}
use Rattle.alp_pool.specs.declared.pool.Pool.{Pool}
use Rattle.alp_wal.specs.Wal.{disk_of}
use Rattle.alp_wal.specs.declared.wal.Wal.{Wal}
use Rattle.alp_store.specs.Starts.{HasOpenCause}

module _ {D : Type 0} (g : Ghosts D) where
  -- from a disk that failed as often
  pub cause_from : {T : Type 0} (disk_in : T → D) (was now : D) → g.faults now ≡ g.faults was → (r : Result T (D × VaultFault)) → HasOpenCause g disk_in now r → HasOpenCause g disk_in was r
  cause_from disk_in was now same (Ok x) c = record { later = tt; still = c.still ∙ same; cause = tt }
  cause_from disk_in was now same (Err e) c = record {
    later = subst (λ (n : ℕ). n ≤ g.faults e.0) same c.later;
    still = subst (λ (n : ℕ). IsCountKept n (g.faults e.0) e.1) same c.still;
    cause = subst (λ (n : ℕ). HasFaultCause n (g.faults e.0) (g.allowance e.0) e.1) same c.cause;
  }

  -- buffers of a log fail for want of memory alone
  pub buffered_cause : (disk : D) (w : Wal D) → g.faults (disk_of w) ≡ g.faults disk → (r : Result (Pool D) (D × VaultFault)) → IfOk r (λ p. log_of p ≡ w) → IfErr r (λ e. e.0 ≡ disk_of w) → IfErr r (λ e. e.1 ≡ fault.OutOfMemory) → HasOpenCause g (λ p. device_of p) disk r
  buffered_cause disk w still (Ok p) log back memory = record { later = tt; still = ap (λ (x : Wal D). g.faults (disk_of x)) log ∙ still; cause = tt }
  buffered_cause disk w still (Err e) log back memory =
      let same : g.faults e.0 ≡ g.faults disk = ap g.faults back ∙ still in
      record {
        later = omega (arith, same);
        still = subst (λ (f : VaultFault). IsCountKept (g.faults disk) (g.faults e.0) f) (sym memory) same;
        cause = record { failed = λ is. (let other : e.1 ≡ fault.OutOfMemory = memory in cc); stopped = λ is. (let other : e.1 ≡ fault.OutOfMemory = memory in cc) };
      }
