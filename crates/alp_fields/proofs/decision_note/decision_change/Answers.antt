use Rattle.std.proofs.Common.{ℕ, List, ap, ◌∙◌}
use Rattle.alp_fields.specs.DecisionNote.{decision_form, decision_in}
use Rattle.alp_fields.proofs.DecisionNoteLaw.{decision_back}
use Rattle.alp_fields.proofs.decision_note.decision_change.Goals as goal

pub returns-clause-back : goal.returns-clause-back
returns-clause-back c =
    let decision = c.args.decision.now in
    ap (λ (name : List ℕ). decision_in name (decision_form.spell decision)) c.in_ok-name.ensures.spelled ∙ decision_back c.args.trans decision c.in_ok-name.ensures.fits c.in_ok-value.ensures.fits
