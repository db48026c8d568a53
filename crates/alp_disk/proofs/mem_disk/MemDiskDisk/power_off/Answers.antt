use Rattle.std.proofs.Common.{length, sym, subst, arith}
use Rattle.alp_disk.specs.Disk.{Image, IsImage}
use Rattle.alp_disk.specs.Pending.{MayLeave}
use Rattle.alp_disk.proofs.Replays.{nothing_pending}
use Rattle.alp_disk.proofs.mem_disk.MemDiskDisk.power_off.Goals as goal

pub invariant_of-result-clause-whole : goal.invariant_of-result-clause-whole
invariant_of-result-clause-whole c =
    let left = (c.crash.ensures.left _ c.args.self.whole).0 in
    subst (λ n. IsImage n c.crash.new.stable.items) (sym left.count) left

pub invariant_of-result-clause-few : goal.invariant_of-result-clause-few
invariant_of-result-clause-few c = omega (arith, (c.crash.ensures.left _ c.args.self.whole).0.count, c.args.self.few)

pub returns-clause-size : goal.returns-clause-size
returns-clause-size c = (c.crash.ensures.left _ c.args.self.whole).0.count

pub returns-clause-left : goal.returns-clause-left
returns-clause-left c =
    let m = c.args.self in
    subst (λ (i : Image). MayLeave (length m.stable.items) m.stable.items m.pending.items i) (sym (nothing_pending c.crash.new.stable.items _ c.clear.ensures.items)) (c.crash.ensures.left _ m.whole)
