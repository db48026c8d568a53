use Rattle.std.proofs.Common.{IsTrue, inl, sym, subst, arith}
use Rattle.alp_disk.proofs.Moments.{adds_more, adds_weaker}
use Rattle.alp_record.specs.Adding.{Adding}
use Rattle.alp_record.proofs.Bodies.{on_ok}
use Rattle.alp_record.proofs.Adds.{gate_crash, gate_opened, one_more, one_more_or_not}
use Rattle.alp_record.proofs.add.add_record.Goals as goal

pub returns-in_err-lay-clause-before_or_after : goal.returns-in_err-lay-clause-before_or_after
returns-in_err-lay-clause-before_or_after g c told =
    adds_weaker g.D.Disk.left_since _ _ _ _ (c.lay.ensures.any_moment told) (λ i not_yet. one_more_or_not c.args.area.now.generation c.args.area.now.end c.args.at c.args.body.now _ i (inl not_yet))

pub returns-clause-any_moment : goal.returns-clause-any_moment
returns-clause-any_moment g c told =
    let l = g.D.Disk.left_since in
    let P = Adding c.args.area.now.generation c.args.area.now.end c.args.at c.args.body.now (g.D.Disk.seen c.args.disk.now) in
    adds_more l _ _ _ P _ (adds_weaker l _ _ _ P (c.lay.ensures.any_moment told) (λ i not_yet. inl not_yet)) c.write_synced.ensures.any_moment
    (gate_crash c.args.area.now.generation c.args.area.now.end c.args.at c.args.body.now _ _ c.requires.size c.requires.room (c.in_ok-lay.ensures.laid told) _ (c.in_ok-lay.ensures.durable told))

pub returns-clause-before_or_after : goal.returns-clause-before_or_after
returns-clause-before_or_after g c told =
    adds_weaker g.D.Disk.left_since _ _ _ _ (returns-clause-any_moment g c told) (λ i adding. one_more_or_not c.args.area.now.generation c.args.area.now.end c.args.at c.args.body.now _ i adding)

pub returns-clause-added : goal.returns-clause-added
returns-clause-added g c told =
    let told2 = subst IsTrue (sym c.lay.ensures.tells) told in
    on_ok c.write_synced.result _ _
    (λ written. gate_opened c.args.area.now.generation c.args.area.now.end c.args.at c.args.body.now _ _ c.requires.size c.requires.room (c.in_ok-lay.ensures.laid told) _ _ (g.met.D.Disk.is_image c.lay.new.disk told2) (omega (arith, c.requires.area, c.lay.ensures.size)) written)
    (c.write_synced.ensures.written told2)

pub returns-clause-records : goal.returns-clause-records
returns-clause-records g c told = on_ok c.write_synced.result _ _ (one_more c.args.area.now.generation c.args.area.now.end c.args.at c.args.body.now _ _) (returns-clause-added g c told)
