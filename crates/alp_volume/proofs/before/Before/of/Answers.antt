use Rattle.std.proofs.Common.{◌≡◌, ◌+◌, ◌∷◌, List, drop, get_or, sym, ◌∙◌, ap, subst}
use Rattle.std.proofs.lemmas.List.{at_drop_more}
use Rattle.alp_volume.specs.declared.undo.Undo.{Undo}
use Rattle.alp_volume.specs.Parts.{Before as Said}
use Rattle.alp_volume.proofs.PartsLaws.{TellsBy, none_said, one_said}
use Rattle.alp_volume.proofs.before.Before.of.Goals as goal

pub loop-undo-init : goal.loop-undo-init
loop-undo-init c now old led = none_said c.args.undos.now c.new-before.result c.new-before.ensures now old led

pub loop-undo-preserved : goal.loop-undo-preserved
loop-undo-preserved c now old led =
    let i = c.loop-undo.undo-index in
    let u : Undo = c.undo-item.result in
    let rest : List Undo = drop (i + 1) c.args.undos.now in
    let more : drop i c.args.undos.now ≡ get_or c.args.undos.now i u ∷ rest = at_drop_more (λ (us : List Undo). us) c.args.undos.now i u c.loop-undo-test.true in
    let told : TellsBy c.loop-undo.before (u ∷ rest) now old = subst (λ (us : List Undo). TellsBy c.loop-undo.before us now old) (more ∙ ap (λ (x : Undo). x ∷ rest) (sym c.undo-item.is)) (c.loop-undo.invariant now old led) in
    subst (λ (t : Said). TellsBy t rest now old) (sym c.in_ok-add.ensures) (one_said u rest c.loop-undo.before now old told)
