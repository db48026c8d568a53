use Rattle.std.proofs.Common.{◌≡◌, ◌≤◌, ◌*◌, ℕ, length, refl, subst, sym, arith}
use Rattle.alp_tables.proofs.BitsLaws.{flags_clear}
use Rattle.alp_tables.proofs.bits.Bits.new.Goals as goal

pub returns : goal.returns
returns c =
    flags_clear c.resize.new.self.items c.args.len (omega (arith, c.in_ok-resize.ensures.len))
    (λ k few. c.in_ok-resize.ensures.by_index.1 k 0 refl (omega (arith, c.new-words.ensures.len)) (omega (arith, few, c.in_ok-resize.ensures.len)))
