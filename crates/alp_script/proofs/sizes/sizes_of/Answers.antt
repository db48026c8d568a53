use Rattle.std.specs.Prelude.{unwrap_or}
use Rattle.std.proofs.Common.{◌≡◌, ap, sym, ◌∙◌, refl}
use Rattle.alp_script.specs.Volumes.{new_sizes}
use Rattle.alp_script.proofs.VolumeLemmas.{later, said_next, said_whole}
use Rattle.alp_script.proofs.sizes.sizes_of.Goals.{in-Some, in_default}
use Rattle.alp_script.proofs.sizes.sizes_of.Goals as goal

pub loop-line-init : goal.loop-line-init
loop-line-init c = refl

pub loop-line-preserved : goal.loop-line-preserved
loop-line-preserved c =
    let next = said_next c.args.server c.loop-line.said c.match-sizes_in.said c.sizes_in.result c.args.lines.now c.loop-line.line-index c.line-item.result _ c.loop-line-test.true c.line-item.is c.sizes_in.ensures in
    let now : c.match-sizes_in.said ≡ later c.loop-line.said c.sizes_in.result =
    elim c.match-sizes_in.branch [
      | in-Some w ↦ w.said-is ∙ sym (ap (later c.loop-line.said) w.in-Some.is)
      | in_default w ↦ w.said-is ∙ sym (ap (later c.loop-line.said) w.in_default.is)
    ] in
    next now c.loop-line.invariant

pub returns-in-Some-said : goal.returns-in-Some-said
returns-in-Some-said c = said_whole c.args.server c.loop-line.said c.args.lines.now c.loop-line.line-index c.in-Some-said.sizes c.loop-line-test.false (ap (λ o. unwrap_or o new_sizes) c.in-Some-said.is) c.loop-line.invariant

pub returns-in-None : goal.returns-in-None
returns-in-None c = said_whole c.args.server c.loop-line.said c.args.lines.now c.loop-line.line-index new_sizes c.loop-line-test.false (ap (λ o. unwrap_or o new_sizes) c.in-None.is) c.loop-line.invariant
