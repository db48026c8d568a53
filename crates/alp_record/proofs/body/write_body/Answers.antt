use Rattle.std.proofs.Common.{List, ℕ, ◌/◌, ◌+◌, length, IsTrue, refl, sym, subst}
use Rattle.alp_disk.specs.Runs.{Holds}
use Rattle.alp_record.specs.Record.{body_pages, padded}
use Rattle.alp_record.proofs.Bodies.{on_ok, body_written}
use Rattle.alp_record.proofs.body.write_body.Goals as goal

pub returns-clause-written : goal.returns-clause-written
returns-clause-written g c told =
    let whole : ℕ = length c.args.body.now / 512 in
    let told2 = subst IsTrue (sym c.write_span.ensures.tells) told in
    let front = subst (λ (l : List ℕ). Holds c.args.first whole l (g.D.Disk.seen c.args.disk.now) (g.D.Disk.seen c.write_span.new.disk)) c.split_at.ensures.front (c.in_ok-write_span.ensures.written told) in
    on_ok c.write_rest.result _ _
    (λ rest. body_written c.args.first whole c.args.body.now _ _ _ refl front
    (subst (λ (l : List ℕ). Holds (c.args.first + whole) (body_pages (length l)) (padded l) (g.D.Disk.seen c.write_span.new.disk) (g.D.Disk.seen c.write_rest.new.disk)) c.split_at.ensures.back rest))
    (c.write_rest.ensures.written told2)
