use Rattle.std.proofs.Common.{◌<◌, List, length, ◌∙◌, ap, sym, subst}
use Rattle.std.specs.FinMap as map
use Rattle.alp_base.specs.declared.key.Key.{Key}
use Rattle.alp_base.specs.declared.cell.Cell.{Cell}
use Rattle.alp_files.specs.Edits.{edits_map}
use Rattle.alp_files.specs.Undo.{puts_of}
use Rattle.alp_vault.specs.declared.sweep.Sweep.{Sweep}
use Rattle.alp_vault.proofs.SweepLemmas.{all_made}
use Rattle.alp_vault.proofs.apply.apply.Goals as goal

pub returns-clause-ok : goal.returns-clause-ok
returns-clause-ok c =
    all_made c.args.cells.now c.put_all.new.cells c.sweep_all.new.cells c.in_ok-kept.kept c.as_slice-2.result.now c.args.change.now c.requires
    (c.in_ok-put_all.ensures.ok ∙ ap (λ (xs : List (Key × Cell)). edits_map (puts_of xs) c.args.cells.now) c.as_slice-puts.ensures)
    (c.as_slice-2.ensures.value ∙ c.in_ok-sweeps.ensures)
    (λ some.
    c.in_ok-kept.ensures (subst (λ (ss : List Sweep). 0 < length ss) (c.as_slice-2.ensures.value ∙ sym c.as_slice.ensures.value) some)
    ∙ ap (λ (xs : List (Key × Cell)). edits_map (puts_of xs) map.empty) c.as_slice-puts.ensures)
    c.sweep_all.ensures
