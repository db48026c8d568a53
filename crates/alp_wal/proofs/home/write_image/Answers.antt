use Rattle.std.proofs.Common.{ℕ, List, sym, subst}
use Rattle.std.specs.Prelude.{Option}
use Rattle.alp_record.proofs.Bodies.{on_ok}
use Rattle.alp_wal.specs.Home.{IsBrought}
use Rattle.alp_wal.proofs.Bringing.{is_brought}
use Rattle.alp_wal.proofs.home.write_image.Goals as goal

pub returns-in-Some-clause-written : goal.returns-in-Some-clause-written
returns-in-Some-clause-written g c told =
    let old = g.D.Disk.seen c.args.disk.now in
    let new = g.D.Disk.seen c.write.new.self in
    on_ok c.write.result _ _
    (λ written. subst (λ (o : Option (List ℕ)). IsBrought c.args.at o old new) (sym c.in-Some.is)
    (is_brought (g.D.Disk.size c.args.disk.now) c.args.at c.bytes.result.now c.in-Some.image old new (g.met.D.Disk.is_image c.args.disk.now told) c.requires c.bytes.ensures.same c.bytes.ensures.whole written))
    (c.write.ensures.written told)
