use Rattle.std.proofs.Common.{◌∙◌, ◌++◌, [], ◌∷◌, ap, arith}
use Rattle.alp_lines.specs.declared.line.Line.TheVariants as line
use Rattle.alp_drill.proofs.StepLemmas.{create_more, create_end}
use Rattle.alp_drill.proofs.files.create_group.Goals as goal

pub loop-i-preserved : goal.loop-i-preserved
loop-i-preserved c = create_more c.args.shape c.args.pages.now c.args.number c.loop-i.i _ _ _ c.loop-i.invariant c.in_ok-create_file.ensures

pub returns : goal.returns
returns c =
    create_end c.args.shape c.args.pages.now c.args.number c.loop-i.i _ _ _ (omega (arith, c.loop-i.auto.i-end, c.loop-i-test.false)) c.loop-i.invariant
    (c.in_ok-add-2.ensures ∙ ap (λ n. c.loop-i.script.items ++ line.Commit n ∷ []) c.client_of-client.ensures)
