use Rattle.std.proofs.Common.{◌<◌, ℕ, refl, sym, ◌∙◌, ap, subst}
use Rattle.alp_files.specs.Locks.{page_limit}
use Rattle.alp_base.specs.declared.cell.Props.{Props}
use Rattle.alp_acknowledge.proofs.TurnLemmas.{small_size}
use Rattle.alp_acknowledge.proofs.files.create.Goals as goal

pub ask-requires-clause-call : goal.ask-requires-clause-call
ask-requires-clause-call g c =
    (refl, (tt, subst (λ (n : ℕ). n < page_limit) (sym c.in_ok-props.ensures ∙ ap (λ (p : Props). p.size) (sym c.in_ok-start.ensures)) (small_size c.args.size c.requires.size), tt), tt)
