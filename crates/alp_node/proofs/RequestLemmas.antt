-- what needs come to, one after the other
use Rattle.std.specs.Prelude.{cond, Bool, true, false, suc, Option, None, Some}
use Rattle.std.specs.Ordering.{eq_by_cmp}
use Rattle.std.proofs.Common.{◌≡◌, ℕ, ◌+◌, ◌<◌, List, ◌∷◌, length, get_or, drop, drop-cons, sym, ◌∙◌, ap, arith}
use Rattle.alp_base.specs.Orders.{resource_cmp}
use Rattle.alp_base.specs.declared.key.Resource.{Resource}
use Rattle.alp_modes.specs.declared.Mode.{Mode}
use Rattle.alp_files.specs.Holdings.{join_held, held_by}
use Rattle.alp_files.proofs.HoldingLemmas.{join_held-assoc, none-right}
use Rattle.alp_files.specs.Locks.{Need}

-- the first of the needs that are left
next_need : (ns : List Need) (i : ℕ) (n : Need) → i < length ns → get_or ns i n ≡ n → drop i ns ≡ n ∷ drop (i + 1) ns
next_need ns i n less is =
    let next : suc i ≡ i + 1 = omega arith in
    drop-cons ns i n less ∙ ap (λ (x : Need). x ∷ drop (suc i) ns) is ∙ ap (λ (k : ℕ). n ∷ drop k ns) next

mode_more : (b : Bool) (x : Mode) (mode rest : Option Mode) → join_held (join_held mode (cond {A = Option Mode} b (Some x) None)) rest ≡ join_held mode (cond {A = Option Mode} b (join_held (Some x) rest) rest)
mode_more true x mode rest = join_held-assoc mode (Some x) rest
mode_more false x mode rest = ap (λ (o : Option Mode). join_held o rest) (none-right mode)

pub mode_step : (ns : List Need) (i : ℕ) (n : Need) (at : Resource) (mode : Option Mode) → i < length ns → get_or ns i n ≡ n
    → join_held (join_held mode (cond {A = Option Mode} (eq_by_cmp resource_cmp at n.0) (Some n.1) None)) (held_by (drop (i + 1) ns) at) ≡ join_held mode (held_by (drop i ns) at)
mode_step ns i n at mode less is =
    mode_more (eq_by_cmp resource_cmp at n.0) n.1 mode (held_by (drop (i + 1) ns) at) ∙ ap (λ (x : List Need). join_held mode (held_by x at)) (sym (next_need ns i n less is))
