use Rattle.std.proofs.Common.{Some, ℕ, List, ap, ◌∙◌}
use Rattle.alp_fields.specs.ClockNote.{clock_in}
use Rattle.alp_fields.proofs.ClockLemmas.{clock_back}
use Rattle.alp_fields.proofs.clock_note.clock_change.Goals as goal

pub returns-clause-back : goal.returns-clause-back
returns-clause-back c =
    ap (λ (bytes : List ℕ). clock_in (Some bytes)) (c.new.ensures ∙ c.in_ok-value.ensures.spelled) ∙ clock_back c.args.clock c.in_ok-value.ensures.fits
