use Rattle.std.proofs.Common.{◌≡◌, ◌+◌, ◌-◌, IsTrue, sym, ◌∙◌, subst, arith}
use Rattle.alp_disk.specs.Disk.{Image}
use Rattle.alp_record.specs.Record.{body_pages, Hold}
use Rattle.alp_record.proofs.Readings.{past_area, bad_padding}
use Rattle.alp_record.proofs.Causes.{none_of_ok, none_of_damage}
use Rattle.alp_record.proofs.read.read_record.Goals as goal

pub returns-then-area-at-clause-damaged : goal.returns-then-area-at-clause-damaged
returns-then-area-at-clause-damaged g c told place is =
    let head = sym (c.in_ok-read.ensures.bytes told) ∙ c.in-Some.ensures.0 in
    let here : place ≡ c.args.at = cc in
    (here, past_area (g.D.Disk.seen c.args.disk.now) c.args.area.now.generation c.args.area.now.end c.args.at c.in-Some.size c.if-at-area.false head c.in-Some.ensures.1 (omega (arith, c.if-area-at.true, c.record_pages-pages.ensures)))

pub returns-in_default-unpadded-clause-damaged : goal.returns-in_default-unpadded-clause-damaged
returns-in_default-unpadded-clause-damaged g c told place is =
    let told2 = subst IsTrue (sym c.read.ensures.tells) told in
    let head = sym (c.in_ok-read.ensures.bytes told) ∙ c.in-Some.ensures.0 in
    let here : place ≡ c.args.at = cc in
    let count : c.record_pages-pages.result - 1 ≡ body_pages c.in-Some.size = omega (arith, c.record_pages-pages.ensures) in
    let held = subst (λ (i : Image). Hold i (c.args.at + 1) (c.record_pages-pages.result - 1) c.in_ok-bytes.bytes.items) c.read.ensures.seen (c.in_ok-bytes.ensures.held told2) in (
      here,
      bad_padding (g.D.Disk.seen c.args.disk.now) c.args.area.now.generation c.args.area.now.end c.args.at c.in-Some.size c.in_ok-bytes.bytes.items c.if-at-area.false head c.in-Some.ensures.1
          (subst (λ n. Hold (g.D.Disk.seen c.args.disk.now) (c.args.at + 1) n c.in_ok-bytes.bytes.items) count held)
          (omega (arith, c.in_ok-bytes.ensures.long, count)) c.in_default-unpadded.ensures,
    )

pub returns-in_default-unpadded-clause-cause : goal.returns-in_default-unpadded-clause-cause
returns-in_default-unpadded-clause-cause g c = none_of_damage _ _ _ _ (c.in_ok-bytes.ensures.still ∙ c.in_ok-read.ensures.cause.no_fault)

pub returns-clause-cause : goal.returns-clause-cause
returns-clause-cause g c = none_of_ok _ _ _ _ (c.in_ok-bytes.ensures.still ∙ c.in_ok-read.ensures.cause.no_fault)
