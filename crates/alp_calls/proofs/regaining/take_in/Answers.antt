use Rattle.std.specs.Prelude.{Bool}
use Rattle.std.proofs.Common.{List, ◌++◌, ap, ◌∙◌, subst}
use Rattle.alp_base.specs.declared.key.Key.{Key}
use Rattle.alp_base.specs.declared.cell.Cell.{Cell}
use Rattle.alp_files.specs.Cells.{Cells}
use Rattle.alp_files.specs.Needs.{intents_from, changed_by}
use Rattle.alp_files.specs.Undo.{puts_of}
use Rattle.alp_trans.specs.Counting.{AreCountsOf}
use Rattle.alp_trans.specs.Parts.{gone_edits}
use Rattle.alp_trans.specs.declared.part.Part.{Part}
use Rattle.alp_calls.specs.declared.said.Effect.{Effect}
use Rattle.alp_calls.proofs.RegainLemmas.{taken_in}
use Rattle.alp_calls.proofs.regaining.take_in.Goals as goal

pub returns-clause-taken : goal.returns-clause-taken
returns-clause-taken g c =
    let tells : Bool = g.V.Vault.tells c.args.vault.now in
    let held : Cells = (g.V.Vault.held c.args.vault.now).cells in
    let old : Part = c.args.part.now in
    let e : Effect = c.args.effect in
    taken_in tells held old c.change.new.part e c.in_ok-counts.counts c.requires.part c.requires.puts.fit c.requires.opens c.requires.room
    (c.in_ok-counts.ensures.cells ∙ ap (λ (ps : List (Key × Cell)). changed_by (intents_from old.intents (gone_edits e.gone ++ puts_of ps))) c.deref.ensures.value)
    c.in_ok-counts.ensures.few
    (λ told es is are.
    subst (λ (ps : List (Key × Cell)). AreCountsOf held (es ++ (gone_edits e.gone ++ puts_of ps)) c.in_ok-counts.counts) c.deref.ensures.value (c.in_ok-counts.ensures.counts told es is are))
    c.in_ok-change.ensures.intents c.in_ok-change.ensures.own c.in_ok-change.ensures.counts
