use Rattle.std.proofs.Common.{arith}
use Rattle.alp_disk.proofs.Moments.{leaves_only, nothing_added}
use Rattle.alp_record.proofs.Bodies.{on_ok}
use Rattle.alp_wal.specs.Reading.{Reads}
use Rattle.alp_wal.specs.Wal.{disk_of, anchor_of, state_of}
use Rattle.alp_wal.proofs.Checkpoints.{reads_at}
use Rattle.alp_wal.proofs.wal.Wal.make_room.Goals as goal

pub returns-then-pages-room-clause-any_moment : goal.returns-then-pages-room-clause-any_moment
returns-then-pages-room-clause-any_moment g c told =
    let l = g.D.Disk.left_since in
    let old = c.args.self.now in
    let known = c.requires.known told in
    let n = g.D.Disk.size (disk_of old) in
    let image = g.D.Disk.seen (disk_of old) in
    let a = anchor_of old in
    leaves_only l _ _ (λ x. Reads a.server a.servers n x (state_of old image)) (λ x was. reads_at n a image known.bodies (state_of old image) (g.D.Disk.may_leave (disk_of old)) known.by known.durable x (g.met.D.Disk.only_now (disk_of old) x was))
    (nothing_added l (disk_of old) _)

pub returns-clause-any_moment : goal.returns-clause-any_moment
returns-clause-any_moment g c told = c.checkpoint.ensures.any_moment told c.requires.alive

pub returns-clause-room : goal.returns-clause-room
returns-clause-room g c = on_ok c.checkpoint.result _ _ (λ turns. omega (arith, turns.2, c.requires.both)) c.checkpoint.ensures.turned

pub returns-clause-turned : goal.returns-clause-turned
returns-clause-turned g c over = c.checkpoint.ensures.turned
