use Rattle.std.specs.Prelude.{Bool, List, false, true, slice_index_or}
use Rattle.std.proofs.Common.{◌≡◌, ◌<◌, ◌∙◌, length, ap, subst, sym, arith}
use Rattle.alp_tables.proofs.FreeLaws.{one_fits}
use Rattle.alp_tables.proofs.free.Free.take.Goals as goal

pub overflow_add-self : goal.overflow_add-self
overflow_add-self c =
    let p = c.in_ok-number.number in
    let xs = c.self.inside.taken in
    let free : slice_index_or xs p true ≡ false = ap (λ (ys : List Bool). slice_index_or ys p true) c.self.view_is ∙ c.in_ok-number.ensures.free in
    let within : p < length xs = subst (λ (ys : List Bool). p < length ys) (sym c.self.view_is) c.in_ok-number.ensures.within in
    omega (arith, c.self.inside.counted, one_fits xs p within free c.self.inside.few)
