-- how a run came to a limit, whatever its bay tells
use Rattle.std.specs.Prelude.{Vec}
use Rattle.std.specs.Global.{Global}
use Rattle.std.proofs.Common.{◌≡◌, ℕ, ◌+◌, ◌<◌, List, refl, ◌∙◌, arith}
use Rattle.alp_base.specs.declared.faults.VaultFault.TheVariants as vault_fault
use Rattle.alp_bay.specs.declared.bay.BayFault.{BayFault}
use Rattle.alp_bay.specs.declared.bay.BayFault.TheVariants as bay_fault
use Rattle.alp_cluster.specs.Runs.{HasEndedEarly}
use Rattle.alp_cluster.specs.Stations.{course_of}
use Rattle.alp_cluster.specs.declared.fault.RunFault.{RunFault}
use Rattle.alp_cluster.specs.declared.fault.RunFault.TheVariants as run_fault
use Rattle.alp_cluster.specs.declared.stations.Stations.{Stations}
use Rattle.alp_course.specs.Courses.{IsOneOf}
use Rattle.alp_disk.specs.declared.disk.Disk.{Ghosts}
use Rattle.alp_journal.specs.declared.log.Item.{Item}
use Rattle.alp_node.specs.declared.start.StartFault.TheVariants as start_fault
use Rattle.alp_script.specs.Accepted.{servers_said}
use Rattle.alp_script.specs.declared.numbered.NumberedLine.{NumberedLine}
use Rattle.alp_vault.specs.declared.vault.Vault.{Ghosts as VaultGhosts}
use Rattle.alp_top.specs.Disks.{IsOfServer}
use Rattle.alp_top.specs.Limits.{IsEndedFor, IsEndTold}
use Rattle.alp_top.specs.Faults.{of_bay, played}
use Rattle.alp_top.specs.declared.fault.NoReport.{NoReport}
use Rattle.alp_top.specs.declared.fault.NoReport.TheVariants as fault
use Rattle.alp_top.proofs.SeatedLemmas.{many}

-- a run that ended before its script did
pub ended_for : {V : Type 0} (G : VaultGhosts V) (lines : List NumberedLine) (f : RunFault) (left : Stations V) (vs : List (Vec Item Global)) → HasEndedEarly G (servers_said lines) lines f left vs → IsEndedFor lines f
ended_for G lines f left vs h = record {
  first = h.ran.first;
  begins = h.ran.is_first;
  last = course_of G h.last;
  count = many G h.last h.on ∙ h.count;
  turns = h.turns;
  happened = h.hs;
  due = h.due;
  course = h.ran.course;
  sent = h.sent;
  stopped = h.next_was;
  ends = h.ends;
}

pub ended_told : (lines : List NumberedLine) (f : RunFault) → (f ≡ run_fault.JournalFull → IsEndedFor lines run_fault.JournalFull) → ((s : ℕ) → f ≡ run_fault.Start s start_fault.EpochEnd → IsOneOf (servers_said lines) s) → IsEndTold lines (played f)
ended_told lines (run_fault.DiskFault s) full over = tt
ended_told lines run_fault.OutOfMemory full over = tt
ended_told lines run_fault.JournalFull full over = full refl
ended_told lines (run_fault.Start s (start_fault.Vault vault_fault.Failed)) full over = tt
ended_told lines (run_fault.Start s (start_fault.Vault vault_fault.Stopped)) full over = tt
ended_told lines (run_fault.Start s (start_fault.Vault vault_fault.OutOfMemory)) full over = tt
ended_told lines (run_fault.Start s (start_fault.Vault (vault_fault.NotAVolume found))) full over = tt
ended_told lines (run_fault.Start s (start_fault.Vault (vault_fault.Damaged place))) full over = tt
ended_told lines (run_fault.Start s start_fault.BadNote) full over = tt
ended_told lines (run_fault.Start s start_fault.EpochEnd) full over = over s refl

-- the bay comes to none
pub bay_unended : (lines : List NumberedLine) (f : BayFault) → IsEndTold lines (of_bay f)
bay_unended lines bay_fault.Failed = tt
bay_unended lines bay_fault.OutOfMemory = tt

-- a server that is not started comes at most to the last epoch
pub start_unended : {D : Type 0} (g : Ghosts D) (lines : List NumberedLine) (k : ℕ) (f : NoReport) → k < servers_said lines → IsOfServer g (k + 1) f → IsEndTold lines f
start_unended {D} g lines k f less h = go f h
  where
    go : (q : NoReport) → IsOfServer g (k + 1) q → IsEndTold lines q
    go fault.Bay h = tt
    go (fault.Disk s) h = tt
    go fault.OutOfMemory h = tt
    go fault.JournalFull h = absurd h
    go (fault.EpochEnd s) h = (let is : s ≡ k + 1 = h in record { first = omega (arith, is); last = omega (arith, is, less) })
    go (fault.NotAVolume s found) h = tt
    go (fault.Damaged s place) h = tt
