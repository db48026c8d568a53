use Rattle.std.proofs.Common.{ℕ, List, length, ap, ◌∙◌, arith}
use Rattle.alp_base.specs.declared.ids.FileId.{FileId}
use Rattle.alp_base.specs.declared.key.Key.{Key}
use Rattle.alp_base.specs.declared.cell.Cell.{Cell}
use Rattle.alp_vault.specs.Volumes.{fit_keys}
use Rattle.alp_server_tests.proofs.tests.parts.change_of.Goals as goal

pub returns : goal.returns
returns c = record {
  fit = ap fit_keys (c.new-4.ensures ∙ c.in_ok-vec-3.ensures.items);
  few = omega (
    arith,
    ap (λ (xs : List FileId). length xs) (c.new-2.ensures ∙ c.in_ok-vec.ensures.items),
    ap (λ (xs : List (FileId × ℕ)). length xs) (c.new-3.ensures ∙ c.in_ok-vec-2.ensures.items),
    ap (λ (xs : List (Key × Cell)). length xs) (c.new-4.ensures ∙ c.in_ok-vec-3.ensures.items),
  );
}
