use Rattle.std.proofs.Common.{IsTrue, ◌+◌, ◌∙◌, sym, ap, subst, arith, length, length-append}
use Rattle.alp_disk.specs.Disk.{Image, page}
use Rattle.alp_disk.proofs.Moments.{adds_more}
use Rattle.alp_record.proofs.Bodies.{hold_more}
use Rattle.alp_record.proofs.body.read_pages.Goals as goal

pub loop-k-preserved : goal.loop-k-preserved
loop-k-preserved g c =
    let before = c.loop-k.invariant in
    let added = c.in_ok-add_page.ensures.added in
    record {
      held = λ told.
          let told2 = subst IsTrue (sym before.tells) told in
          let read = c.in_ok-read.ensures.bytes told2 ∙ ap (λ (i : Image). page i (c.args.first + c.loop-k.k)) before.seen in
          rw added (hold_more (g.D.Disk.seen c.args.disk.now) c.args.first c.loop-k.k _ c.loop-k.bytes.items _ (g.met.D.Disk.is_image c.args.disk.now told) (omega (arith, c.requires, c.loop-k-test.true)) (before.held told) before.long read);
      long = omega (arith, ap length added, length-append c.loop-k.bytes.items c.read.new.page, c.add_page.ensures.whole, before.long);
      tells = c.read.ensures.tells ∙ before.tells;
      size = c.read.ensures.size ∙ before.size;
      seen = c.read.ensures.seen ∙ before.seen;
      crash = λ i left. before.crash i (c.read.ensures.crash i left);
      time = adds_more g.D.Disk.left_since _ _ _ _ _ before.time c.read.ensures.time (λ i left. before.crash i (c.read.ensures.crash i left));
      allowance = c.read.ensures.allowance ∙ before.allowance;
      faults = c.in_ok-read.ensures.cause.no_fault ∙ before.faults;
    }
