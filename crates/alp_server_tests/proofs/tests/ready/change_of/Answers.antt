use Rattle.std.specs.Prelude.{◌&&◌, true}
use Rattle.std.proofs.Common.{ℕ, List, length, ap, ◌∙◌, arith}
use Rattle.alp_base.specs.declared.ids.FileId.{FileId}
use Rattle.alp_base.specs.declared.key.Key.{Key}
use Rattle.alp_base.specs.declared.cell.Cell.{Cell}
use Rattle.alp_vault.specs.Volumes.{fit_keys}
use Rattle.alp_server_tests.proofs.tests.ready.change_of.Goals as goal

pub returns : goal.returns
returns c = record {
  fit = ap fit_keys (c.new-5.ensures ∙ c.in_ok-vec.ensures.items) ∙ (λ i. c.owner_put-first.ensures i && (c.owner_put-second.ensures i && true));
  few = omega (
    arith,
    ap (λ (xs : List FileId). length xs) (c.new-2.ensures ∙ c.new.ensures.items),
    ap (λ (xs : List (FileId × ℕ)). length xs) (c.new-4.ensures ∙ c.new-3.ensures.items),
    ap (λ (xs : List (Key × Cell)). length xs) (c.new-5.ensures ∙ c.in_ok-vec.ensures.items),
  );
}
