use Rattle.std.specs.Prelude.{None, Bool, ◌&&◌, IsTrue}
use Rattle.std.proofs.Common.{◌≡◌, ℕ, ◌+◌, List, ◌∷◌, drop, sym, ap, ◌∙◌}
use Rattle.std.proofs.lemmas.List.{at_drop_more, at_drop_all}
use Rattle.alp_base.specs.declared.cell.Cell.{Cell}
use Rattle.alp_base.specs.declared.key.Key.{Key}
use Rattle.alp_files.specs.Cells.{Cells}
use Rattle.alp_calls.proofs.LookLemmas.{looks_then, later}
use Rattle.alp_regain.specs.Balance.{are_even, is_even_for, owner_named}
use Rattle.alp_regain.specs.Sums.{charge_at}
use Rattle.alp_regain.proofs.balance.are_even_cells.Goals as goal

pub loop-cell-preserved : goal.loop-cell-preserved
loop-cell-preserved g c =
    let left = c.loop-cell.invariant.left in
    let held : Cells = (g.V.Vault.held c.args.vault.now).cells in
    let cells : List (Key × Cell) = c.args.cells.now in
    let i : ℕ = c.loop-cell.cell-index in
    let item : Key × Cell = c.cell-item.result in
    let rest : List (Key × Cell) = drop (i + 1) cells in
    let here : drop i cells ≡ item ∷ rest = at_drop_more (λ (xs : List (Key × Cell)). xs) cells i item c.loop-cell-test.true ∙ ap (λ (x : Key × Cell). x ∷ rest) (sym c.cell-item.is) in
    let even : IsTrue (g.V.Vault.tells c.args.vault.now) → c.in_ok-is_even_cell.field-0 ≡ is_even_for c.args.intents.now held (charge_at c.args.moved.now.lost) (charge_at c.args.moved.now.put) (owner_named item.1) =
    later g.V.Vault c.args.vault.now c.loop-cell.vault left.0
    (λ m. c.in_ok-is_even_cell.field-0 ≡ is_even_for c.args.intents.now m (charge_at c.args.moved.now.lost) (charge_at c.args.moved.now.put) (owner_named item.1)) c.in_ok-is_even_cell.ensures.even in
    let all : List (Key × Cell) → Bool = are_even c.args.intents.now held (charge_at c.args.moved.now.lost) (charge_at c.args.moved.now.put) in
    record {
      left = looks_then g.V.Vault c.args.vault.now c.loop-cell.vault c.is_even_cell.new.vault None left c.in_ok-is_even_cell.ensures.looked;
      all = λ told. ap (λ (b : Bool). b && all rest) (sym c.if-not-branch.false ∙ even told) ∙ ap all (sym here) ∙ c.loop-cell.invariant.all told;
    }

pub returns-clause-even : goal.returns-clause-even
returns-clause-even g c = λ told.
    sym (at_drop_all (are_even c.args.intents.now (g.V.Vault.held c.args.vault.now).cells (charge_at c.args.moved.now.lost) (charge_at c.args.moved.now.put)) c.args.cells.now c.loop-cell.cell-index c.loop-cell-test.false)
    ∙ c.loop-cell.invariant.all told

pub returns-then-not-branch-clause-even : goal.returns-then-not-branch-clause-even
returns-then-not-branch-clause-even g c = λ told.
    let left = c.loop-cell.invariant.left in
    let held : Cells = (g.V.Vault.held c.args.vault.now).cells in
    let cells : List (Key × Cell) = c.args.cells.now in
    let i : ℕ = c.loop-cell.cell-index in
    let item : Key × Cell = c.cell-item.result in
    let rest : List (Key × Cell) = drop (i + 1) cells in
    let here : drop i cells ≡ item ∷ rest = at_drop_more (λ (xs : List (Key × Cell)). xs) cells i item c.loop-cell-test.true ∙ ap (λ (x : Key × Cell). x ∷ rest) (sym c.cell-item.is) in
    let even : IsTrue (g.V.Vault.tells c.args.vault.now) → c.in_ok-is_even_cell.field-0 ≡ is_even_for c.args.intents.now held (charge_at c.args.moved.now.lost) (charge_at c.args.moved.now.put) (owner_named item.1) =
    later g.V.Vault c.args.vault.now c.loop-cell.vault left.0
    (λ m. c.in_ok-is_even_cell.field-0 ≡ is_even_for c.args.intents.now m (charge_at c.args.moved.now.lost) (charge_at c.args.moved.now.put) (owner_named item.1)) c.in_ok-is_even_cell.ensures.even in
    let all : List (Key × Cell) → Bool = are_even c.args.intents.now held (charge_at c.args.moved.now.lost) (charge_at c.args.moved.now.put) in
    ap (λ (b : Bool). b && all rest) (sym c.if-not-branch.true ∙ even told) ∙ ap all (sym here) ∙ c.loop-cell.invariant.all told
