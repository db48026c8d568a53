use Rattle.std.specs.Prelude.{ℕ, ◌&&◌}
use Rattle.std.specs.List.{list_all}
use Rattle.std.proofs.Common.{sym, ap, ◌∙◌}
use Rattle.alp_base.specs.declared.cell.Cell.{Cell}
use Rattle.alp_base.specs.declared.ids.FileId.{FileId}
use Rattle.alp_base.specs.declared.key.Key.{Key}
use Rattle.alp_regain.specs.Named.{is_own, is_own_key, is_own_edit}
use Rattle.alp_regain.proofs.ListLemmas.{all_of_change}
use Rattle.alp_regain.proofs.ids.is_own_change.Goals as goal

pub returns : goal.returns
returns c =
    let server : ℕ = c.args.of.0 in
    let epoch : ℕ = c.args.of.1 in
    c.are_all.ensures
    ∙ (λ i. (c.are_own_files-drops.ensures ∙ ap (list_all (λ (f : FileId). is_own server epoch f)) c.as_slice.ensures) i
    && ((c.are_own_cuts-cuts.ensures ∙ ap (list_all (λ (x : FileId × ℕ). is_own server epoch x.0)) c.as_slice-2.ensures) i
    && (c.are_own_puts-puts.ensures ∙ ap (list_all (λ (x : Key × Cell). is_own_key server epoch x.0)) c.as_slice-3.ensures) i))
    ∙ sym (all_of_change (is_own_edit server epoch) c.args.change.now)
