use Rattle.std.specs.Prelude.{ℕ, ◌&&◌}
use Rattle.std.specs.List.{list_all}
use Rattle.std.proofs.Common.{sym, ap, ◌∙◌}
use Rattle.alp_base.specs.declared.cell.Cell.{Cell}
use Rattle.alp_base.specs.declared.ids.FileId.{FileId}
use Rattle.alp_base.specs.declared.key.Key.{Key}
use Rattle.alp_base.specs.declared.key.Resource.TheVariants.{Whole}
use Rattle.alp_modes.specs.declared.Mode.TheVariants.{Write}
use Rattle.alp_files.specs.Holdings.{Holding, covers_held, mode_on}
use Rattle.alp_locks.specs.Tables.{holding}
use Rattle.alp_regain.specs.Named.{is_covered}
use Rattle.alp_regain.proofs.ListLemmas.{all_of_change}
use Rattle.alp_regain.proofs.locks.is_change_covered.Goals as goal

pub returns : goal.returns
returns c =
    let held : Holding = holding c.args.table.now.held c.args.trans in
    c.are_all.ensures
    ∙ (λ i. (c.are_written-drops.ensures ∙ ap (list_all (λ (f : FileId). covers_held (held (Whole f)) Write)) c.as_slice.ensures) i
    && ((c.are_cuts_written-cuts.ensures ∙ ap (list_all (λ (x : FileId × ℕ). covers_held (held (Whole x.0)) Write)) c.as_slice-2.ensures) i
    && (c.are_puts_written-puts.ensures ∙ ap (list_all (λ (x : Key × Cell). covers_held (mode_on held x.0) Write)) c.as_slice-3.ensures) i))
    ∙ sym (all_of_change (is_covered held) c.args.change.now)
