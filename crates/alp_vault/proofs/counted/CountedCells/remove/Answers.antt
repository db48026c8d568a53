use Rattle.std.specs.FinMap as map
use Rattle.std.proofs.Common.{◌∙◌, ap, sym, arith}
use Rattle.alp_files.specs.Cells.{Cells}
use Rattle.alp_vault.proofs.CountLemmas.{nothing_there, something_there, remove_none, counts-gone}
use Rattle.alp_vault.proofs.counted.CountedCells.remove.Goals as goal

pub returns-then-is_none : goal.returns-then-is_none
returns-then-is_none c =
    remove_none c.args.self.now c.args.key.now (ap (λ (m : Cells). map.get m c.args.key.now) (sym c.self.view_is) ∙ nothing_there c.get.result _ c.get.ensures c.if-is_none.ensures)

pub overflow_sub-self : goal.overflow_sub-self
overflow_sub-self c =
    let went = counts-gone _ _ _ _ _ c.remove.new.self c.args.key.now c.self.invariant (something_there c.get.result _ c.get.ensures c.if-is_none.ensures) c.remove.ensures c.adds-files.ensures.files c.adds-files.ensures.places in
    omega (arith, went.before_files)

pub overflow_sub-self-2 : goal.overflow_sub-self-2
overflow_sub-self-2 c =
    let went = counts-gone _ _ _ _ _ c.remove.new.self c.args.key.now c.self.invariant (something_there c.get.result _ c.get.ensures c.if-is_none.ensures) c.remove.ensures c.adds-files.ensures.files c.adds-files.ensures.places in
    omega (arith, went.before_places)

pub invariant_of-self : goal.invariant_of-self
invariant_of-self c =
    let went = counts-gone _ _ _ _ _ c.remove.new.self c.args.key.now c.self.invariant (something_there c.get.result _ c.get.ensures c.if-is_none.ensures) c.remove.ensures c.adds-files.ensures.files c.adds-files.ensures.places in
    record { of_files = omega (arith, went.before_files); of_places = omega (arith, went.before_places) }
