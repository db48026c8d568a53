use Rattle.std.proofs.Common.{arith, nat_lt, length}
use Rattle.alp_disk.specs.declared.outcomes.TheConstants.{ROOM}
use Rattle.alp_disk.proofs.Replays.{noted}
use Rattle.alp_disk.proofs.mem_disk.MemDiskDisk.write.Goals as goal

pub invariant_of-self-2-clause-whole : goal.invariant_of-self-2-clause-whole
invariant_of-self-2-clause-whole c =
    let m = c.args.self.now in
    (noted _ _ _ _ c.new-write.result c.args.at c.args.offset c.args.bytes.now (nat_lt (length m.pending.items) ROOM) m.whole c.new-write.ensures.at_page c.new-write.ensures.from c.new-write.ensures.size c.new-write.ensures.holds c.note.ensures.stable c.note.ensures.pending).whole

pub invariant_of-self-2-clause-few : goal.invariant_of-self-2-clause-few
invariant_of-self-2-clause-few c =
    let m = c.args.self.now in
    let n = noted _ _ _ _ c.new-write.result c.args.at c.args.offset c.args.bytes.now (nat_lt (length m.pending.items) ROOM) m.whole c.new-write.ensures.at_page c.new-write.ensures.from c.new-write.ensures.size c.new-write.ensures.holds c.note.ensures.stable c.note.ensures.pending in
    omega (arith, n.size, m.few)

pub returns-clause-written : goal.returns-clause-written
returns-clause-written c =
    let m = c.args.self.now in
    (noted _ _ _ _ c.new-write.result c.args.at c.args.offset c.args.bytes.now (nat_lt (length m.pending.items) ROOM) m.whole c.new-write.ensures.at_page c.new-write.ensures.from c.new-write.ensures.size c.new-write.ensures.holds c.note.ensures.stable c.note.ensures.pending).replayed

pub returns-clause-size : goal.returns-clause-size
returns-clause-size c =
    let m = c.args.self.now in
    (noted _ _ _ _ c.new-write.result c.args.at c.args.offset c.args.bytes.now (nat_lt (length m.pending.items) ROOM) m.whole c.new-write.ensures.at_page c.new-write.ensures.from c.new-write.ensures.size c.new-write.ensures.holds c.note.ensures.stable c.note.ensures.pending).size

pub returns-clause-crash : goal.returns-clause-crash
returns-clause-crash c =
    let m = c.args.self.now in
    (noted _ _ _ _ c.new-write.result c.args.at c.args.offset c.args.bytes.now (nat_lt (length m.pending.items) ROOM) m.whole c.new-write.ensures.at_page c.new-write.ensures.from c.new-write.ensures.size c.new-write.ensures.holds c.note.ensures.stable c.note.ensures.pending).follows

pub returns-clause-waits : goal.returns-clause-waits
returns-clause-waits c = record {
  write = c.new-write.result;
  place = (c.new-write.ensures.at_page, c.new-write.ensures.from, c.new-write.ensures.holds);
  stable = c.note.ensures.stable;
  pending = c.note.ensures.pending;
}
