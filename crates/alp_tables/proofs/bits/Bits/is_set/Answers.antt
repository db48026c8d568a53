use Rattle.std.specs.Prelude.{Bool, true, ◌/◌, ◌%◌, ◌==◌, slice_index_or}
use Rattle.std.specs.Int.{bit_at}
use Rattle.std.proofs.Common.{◌≡◌, ◌<◌, ◌≤◌, ◌∙◌, List, ℕ, length, ap, sym, arith}
use Rattle.std.proofs.lemmas.Nat.Bits.{shr_and_one}
use Rattle.std.proofs.lemmas.List.{get_or_default}
use Rattle.alp_tables.proofs.BitsLaws.{flag_at, flag_past}
use Rattle.alp_tables.proofs.bits.Bits.is_set.Goals as goal

pub returns-then-at-self : goal.returns-then-at-self
returns-then-at-self c =
    sym (flag_past c.self.inside.words.items c.self.inside.len c.args.at (omega (arith, c.if-at-self.true))) ∙ ap (λ (xs : List Bool). slice_index_or xs c.args.at true) c.self.view_is

pub returns : goal.returns
returns c =
    let low : c.args.at < c.self.inside.len = omega (arith, c.if-at-self.false) in
    let within : c.args.at / 32 < length c.self.inside.words.items = omega (arith, low, c.self.inside.room) in
    ap (λ (n : ℕ). n == 1) (shr_and_one c.index-word.result.now (c.args.at % 32))
    ∙ ap (λ (w : ℕ). bit_at w (c.args.at % 32) == 1) (c.index-word.ensures ∙ get_or_default c.self.inside.words.items (c.args.at / 32) c.index-word.result.now 0 within)
    ∙ sym (flag_at c.self.inside.words.items c.self.inside.len c.args.at low)
    ∙ ap (λ (xs : List Bool). slice_index_or xs c.args.at true) c.self.view_is
