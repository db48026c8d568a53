use Rattle.std.proofs.Common.{ℕ, List, ap, ◌∙◌}
use Rattle.alp_fields.specs.ReadyNote.{ready_form, ready_in}
use Rattle.alp_fields.proofs.ReadyNoteLaw.{ready_back}
use Rattle.alp_fields.proofs.ready_note.ready_change.Goals as goal

pub returns-clause-back : goal.returns-clause-back
returns-clause-back c =
    let part = c.args.part.now in
    ap (λ (name : List ℕ). ready_in name (ready_form.spell part)) c.in_ok-name.ensures.spelled ∙ ready_back c.args.join part c.in_ok-name.ensures.fits c.in_ok-value.ensures.fits
