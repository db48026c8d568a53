use Rattle.std.proofs.Common.{◌≡◌, List, ◌∙◌, subst}
use Rattle.alp_base.specs.declared.ids.JoinNo.{JoinNo}
use Rattle.alp_fields.specs.DecisionNote.{decision_form}
use Rattle.alp_fields.specs.declared.decision_note.Decision.{Decision}
use Rattle.alp_node.proofs.DecidedNotes.{fit_decision, named_from}
use Rattle.alp_node.proofs.decide.decision_notes.Goals as goal

pub returns-clause-fits : goal.returns-clause-fits
returns-clause-fits c =
    let same : c.new.result ≡ c.args.joins.now = c.new.ensures ∙ c.in_ok-from_slice.ensures.items in
    let d : Decision = record { ts = c.args.stamp.ts; joins = c.new.result } in
    fit_decision c.args.stamp c.args.joins.now (subst (λ (js : List JoinNo). decision_form.Fits (record { ts = c.args.stamp.ts; joins = js })) same c.in_ok-decision_change.ensures.fits)
    (named_from c.args.stamp.trans d c.in_ok-decision_change.field-0.name (decision_form.spell d) c.in_ok-decision_change.ensures.back)
