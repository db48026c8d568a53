use Rattle.std.proofs.Common.{length, sym, ◌∙◌, ap, subst, arith}
use Rattle.alp_batch.specs.Batch.{batch}
use Rattle.alp_wal.proofs.prepare.prepare.Goals as goal

pub returns-clause-batch : goal.returns-clause-batch
returns-clause-batch c =
    let images = c.in_ok-images.ensures ∙ c.as_slice.ensures in
    let notes = c.in_ok-changes.ensures.copied ∙ c.as_slice-2.ensures in
    λ i. record { images = images i; notes = notes i }

pub returns-clause-ready : goal.returns-clause-ready
returns-clause-ready c = record {
  spelled = c.in_ok-body.ensures.spelled ∙ ap batch.spell (sym (returns-clause-batch c));
  fits = subst batch.Fits (sym (returns-clause-batch c)) c.in_ok-body.ensures.fits;
}

pub returns-clause-room : goal.returns-clause-room
returns-clause-room c = omega (arith, ap length c.in_ok-changes.ensures.copied, c.in_ok-changes.ensures.room)
