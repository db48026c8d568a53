use Rattle.std.specs.Prelude.{Bool}
use Rattle.std.proofs.Common.{List, ◌++◌, sym, ap, ◌∙◌, subst}
use Rattle.alp_base.specs.declared.key.Key.{Key}
use Rattle.alp_base.specs.declared.cell.Cell.{Cell}
use Rattle.alp_files.specs.Cells.{Cells}
use Rattle.alp_files.specs.Needs.{intents_from, changed_by}
use Rattle.alp_files.specs.Undo.{puts_of}
use Rattle.alp_trans.specs.Counting.{AreCountsOf}
use Rattle.alp_trans.specs.Parts.{gone_edits}
use Rattle.alp_trans.specs.declared.part.Part.{Part}
use Rattle.alp_calls.specs.Parts.{IsProper, Settled}
use Rattle.alp_calls.specs.declared.said.Effect.{Effect}
use Rattle.alp_calls.specs.declared.said.Said.{Said}
use Rattle.alp_calls.specs.declared.said.Said.TheVariants.{Done}
use Rattle.alp_calls.proofs.SettleLemmas.{done_settled, done_part}
use Rattle.alp_calls.proofs.performing.settle.Goals as goal

pub returns-in_ok-change-in-Done-clause-settled : goal.returns-in_ok-change-in-Done-clause-settled
returns-in_ok-change-in-Done-clause-settled g c =
    let tells : Bool = g.V.Vault.tells c.args.vault.now in
    let held : Cells = (g.V.Vault.held c.args.vault.now).cells in
    let old : Part = c.args.part.now in
    let e : Effect = c.in-Done.effect in
    let proper : IsProper old (Done c.in-Done.reply e) = subst (IsProper old) c.in-Done.is c.requires.proper in
    subst (λ (s : Said). Settled tells held old c.change.new.part c.args.room s c.in-Done.reply) (sym c.in-Done.is)
    (done_settled old c.change.new.part c.args.room c.in-Done.reply e c.in_ok-counts-in-Done.counts proper (sym c.in_default-refused_for.ensures)
    c.in_ok-change-in-Done.ensures.intents c.in_ok-change-in-Done.ensures.own c.in_ok-change-in-Done.ensures.counts
    tells held
    (λ told es is are.
    subst (λ (ps : List (Key × Cell)). AreCountsOf held (es ++ (gone_edits e.gone ++ puts_of ps)) c.in_ok-counts-in-Done.counts) c.deref.ensures.value (c.in_ok-counts-in-Done.ensures.counts told es is are)))

pub returns-in_ok-change-in-Done-clause-part : goal.returns-in_ok-change-in-Done-clause-part
returns-in_ok-change-in-Done-clause-part g c =
    let old : Part = c.args.part.now in
    let e : Effect = c.in-Done.effect in
    let proper : IsProper old (Done c.in-Done.reply e) = subst (IsProper old) c.in-Done.is c.requires.proper in
    done_part old c.change.new.part c.args.room c.in-Done.reply e c.in_ok-counts-in-Done.counts proper (sym c.in_default-refused_for.ensures)
    c.in_ok-change-in-Done.ensures.intents c.in_ok-change-in-Done.ensures.own c.in_ok-change-in-Done.ensures.counts
    c.requires.part
    (c.in_ok-counts-in-Done.ensures.cells ∙ ap (λ (ps : List (Key × Cell)). changed_by (intents_from old.intents (gone_edits e.gone ++ puts_of ps))) c.deref.ensures.value)
    c.in_ok-counts-in-Done.ensures.few
