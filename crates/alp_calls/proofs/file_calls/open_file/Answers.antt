use Rattle.std.proofs.Common.{◌∙◌, sym}
use Rattle.alp_trans.specs.Parts.{own_of}
use Rattle.alp_calls.specs.Parts.{seen}
use Rattle.alp_calls.proofs.PartLemmas.{open_denied}
use Rattle.alp_calls.proofs.file_calls.open_file.Goals as goal

pub returns-in-Some-denied-clause-right : goal.returns-in-Some-denied-clause-right
returns-in-Some-denied-clause-right g c = λ told.
    open_denied (seen (g.V.Vault.held c.args.vault.now).cells c.args.part.now) (own_of c.args.part.now) c.args.who c.args.file c.args.access c.in-Some.props c.in-Some-denied.list
    (sym (c.in_ok-props.ensures.props told) ∙ c.in-Some.is) (sym c.in-Some-denied.ensures)
