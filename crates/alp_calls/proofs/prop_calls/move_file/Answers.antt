use Rattle.std.proofs.Common.{sym, ◌∙◌}
use Rattle.alp_trans.specs.Parts.{own_of}
use Rattle.alp_calls.specs.Parts.{seen}
use Rattle.alp_calls.proofs.PartLemmas.{move_refused}
use Rattle.alp_calls.proofs.prop_calls.move_file.Goals as goal

pub returns-in-Err-clause-right : goal.returns-in-Err-clause-right
returns-in-Err-clause-right g c = λ told.
    move_refused (seen (g.V.Vault.held c.args.vault.now).cells c.args.part.now) (own_of c.args.part.now) c.args.who c.args.name c.args.found c.in-Err.refusal
    (sym c.eq.ensures ∙ c.if-eq.false) (sym (c.in_ok-owner.ensures.charged told) ∙ c.in-Err.is)
