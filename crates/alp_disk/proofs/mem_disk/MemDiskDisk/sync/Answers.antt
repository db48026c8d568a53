use Rattle.std.proofs.Common.{◌∙◌, ap, length, arith}
use Rattle.alp_disk.proofs.Replays.{settled_to, whole_after_replay, length-replay, same_size}
use Rattle.alp_disk.proofs.mem_disk.MemDiskDisk.sync.Goals as goal

pub invariant_of-self-clause-whole : goal.invariant_of-self-clause-whole
invariant_of-self-clause-whole c = whole_after_replay _ c.args.self.now.pending.items _ c.args.self.now.whole c.settle.ensures.stable

pub invariant_of-self-clause-few : goal.invariant_of-self-clause-few
invariant_of-self-clause-few c = omega (arith, ap length c.settle.ensures.stable, length-replay c.args.self.now.stable.items c.args.self.now.pending.items, c.args.self.now.few)

pub returns-then-not-fails_now-clause-size : goal.returns-then-not-fails_now-clause-size
returns-then-not-fails_now-clause-size c = ap length c.settle.ensures.stable ∙ length-replay _ c.args.self.now.pending.items

pub returns-then-not-fails_now-clause-crash : goal.returns-then-not-fails_now-clause-crash
returns-then-not-fails_now-clause-crash c k left =
    settled_to _ _ _ _ _ c.args.self.now.whole c.settle.ensures.stable c.settle.ensures.none k (same_size _ _ _ _ k (ap length c.settle.ensures.stable ∙ length-replay _ c.args.self.now.pending.items) left)
