use Rattle.std.specs.Prelude.{Option}
use Rattle.std.proofs.Common.{refl, sym, ◌∙◌, subst}
use Rattle.alp_fields.specs.Forms.{whole}
use Rattle.alp_rpc.specs.Frames.{request}
use Rattle.alp_rpc.specs.declared.frame.Request.{Request}
use Rattle.alp_cluster.specs.Exchanges.{EndsHanding}
use Rattle.alp_cluster.specs.declared.fault.RunFault.TheVariants as fault
use Rattle.alp_cluster.proofs.GoneLemmas.{one_nothing, end_any, end_map, handed_on}
use Rattle.alp_cluster.proofs.HandLemmas.{wants_memory}
use Rattle.alp_cluster.proofs.TakenLemmas.{untouched}
use Rattle.alp_cluster.proofs.exchange.hand.Goals as goal

pub returns-in_err-request-clause-gone : goal.returns-in_err-request-clause-gone
returns-in_err-request-clause-gone g c =
    rw (handed_on fault.OutOfMemory c.from_residual.result c.from_residual.ensures.0 c.from_residual.ensures.1)
    (one_nothing g.V.Vault (Unit {0}) c.args.node.now.kept.vault _ tt tt refl)

pub returns-in_err-request-clause-ended : goal.returns-in_err-request-clause-ended
returns-in_err-request-clause-ended g c =
    end_any fault.OutOfMemory c.from_residual.result _ (handed_on fault.OutOfMemory c.from_residual.result c.from_residual.ensures.0 c.from_residual.ensures.1)
    (wants_memory g.V.Vault c.args.node.now c.args.node.now (whole request c.args.frame.now) (untouched g.V.Vault c.args.node.now))

pub returns-in_err-refuse-in-None-clause-ended : goal.returns-in_err-refuse-in-None-clause-ended
returns-in_err-refuse-in-None-clause-ended g c =
    end_any fault.OutOfMemory c.from_residual-in_err-refuse-in-None.result _
    (handed_on fault.OutOfMemory c.from_residual-in_err-refuse-in-None.result c.from_residual-in_err-refuse-in-None.ensures.0 c.from_residual-in_err-refuse-in-None.ensures.1)
    (wants_memory g.V.Vault c.args.node.now c.args.node.now (whole request c.args.frame.now) (untouched g.V.Vault c.args.node.now))

pub returns-in-Some-clause-ended : goal.returns-in-Some-clause-ended
returns-in-Some-clause-ended g c =
    end_map c.ask.result _ _ (λ f ends. subst (λ (o : Option Request). EndsHanding g.V.Vault f c.args.node.now c.ask.new.node o) (sym c.in-Some.is ∙ c.in_ok-request.ensures.exact) ends) c.ask.ensures.ended
