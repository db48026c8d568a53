use Rattle.std.specs.Prelude.{IsTrue}
use Rattle.std.proofs.Common.{◌≡◌, ◌≤◌, ℕ, sym, subst, arith}
use Rattle.alp_disk.specs.contracts.fuse.FuseDisk.TheImpl as fuse_disk
use Rattle.alp_top.proofs.AlikeLemmas.{given_alike}
use Rattle.alp_top.proofs.bay.give.Goals as goal

pub give_disk-requires-clause-long : goal.give_disk-requires-clause-long
give_disk-requires-clause-long g c κs lives = (let sized = c.disk_in.ensures.sized in omega (arith, sized))

pub give_disk-requires-clause-told : goal.give_disk-requires-clause-told
give_disk-requires-clause-told g c κs lives told = subst IsTrue (sym c.disk_in.ensures.telling) (c.requires.told told)

pub returns-clause-given : goal.returns-clause-given
returns-clause-given g c =
    let F = fuse_disk.ghosts g.row.B-Device g.B.Device.Disk g.B.Device.Disk-dict g.B.Device.Destruct-dict in
    let placed = c.give_disk.ensures.given in
    record {
      device = placed.device;
      back = given_alike F g.B.Device.Disk c.disk_in.result placed.device placed.alike _ c.args.vault c.disk_in.ensures;
      filled = placed.filled;
    }
