use Rattle.std.specs.Prelude.{Bool, List, false, true, slice_index_or}
use Rattle.std.proofs.Common.{◌≡◌, sym, ap, ◌∙◌, arith}
use Rattle.alp_tables.proofs.FreeLaws.{free_within}
use Rattle.alp_tables.proofs.FreeLaws.{one_fits}
use Rattle.alp_tables.proofs.free.Free.mark.Goals as goal

pub overflow_add-self : goal.overflow_add-self
overflow_add-self c =
    let free : slice_index_or c.self.inside.taken c.args.number true ≡ false = ap (λ (xs : List Bool). slice_index_or xs c.args.number true) c.self.view_is ∙ sym c.is_taken.ensures ∙ c.if-is_taken.false in
    omega (arith, c.self.inside.counted, one_fits c.self.inside.taken c.args.number (free_within c.self.inside.taken c.args.number free) free c.self.inside.few)
