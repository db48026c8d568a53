use Rattle.std.proofs.Common.{List, ℕ, ◌<◌, length, ◌∙◌, ap, arith}
use Rattle.alp_disk.specs.Disk.{with_bytes}
use Rattle.alp_record.proofs.Bodies.{on_ok, rest_written}
use Rattle.alp_record.proofs.body.write_rest.Goals as goal

pub returns-clause-written : goal.returns-clause-written
returns-clause-written g c told =
    let empty = c.is_empty.ensures in
    let no = c.if-is_empty.false in
    let some : 0 < length c.args.rest.now = grind arith in
    on_ok c.write.result _ _
    (λ written. rest_written c.args.at _ c.args.rest.now _ _ (g.met.D.Disk.is_image c.args.disk.now told) (omega (arith, c.requires.room, some)) some c.requires.small
    (written ∙ ap (λ (l : List ℕ). with_bytes (g.D.Disk.seen c.args.disk.now) c.args.at 0 l) (c.bytes.ensures.same ∙ c.beginning-last.ensures)))
    (c.write.ensures.written told)
