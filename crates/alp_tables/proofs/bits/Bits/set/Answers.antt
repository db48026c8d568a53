use Rattle.std.specs.Prelude.{Bool, true, false, ◌/◌, ◌==◌, slice_set}
use Rattle.std.specs.Int.{bit_at}
use Rattle.std.proofs.Common.{◌≡◌, ◌<◌, ◌∙◌, List, ℕ, length, ap, arith}
use Rattle.std.proofs.lemmas.List.{get_or_default}
use Rattle.alp_tables.proofs.BitsLaws.{flag_set, flags_long}
use Rattle.alp_tables.proofs.bits.Bits.set.Goals as goal

pub index-requires : goal.index-requires
index-requires c = omega (arith, c.requires, c.self.inside.room, c.self.inside.words.ok, flags_long c.self.inside.words.items c.self.inside.len, ap length c.self.view_is)

pub index_mut-requires : goal.index_mut-requires
index_mut-requires c = omega (arith, c.requires, c.self.inside.room, c.self.inside.words.ok, flags_long c.self.inside.words.items c.self.inside.len, ap length c.self.view_is)

pub returns : goal.returns
returns c =
    let low : c.args.at < c.self.inside.len = omega (arith, c.requires, flags_long c.self.inside.words.items c.self.inside.len, ap length c.self.view_is) in
    let within : c.args.at / 32 < length c.self.inside.words.items = omega (arith, low, c.self.inside.room) in
    flag_set c.self.inside.words.items c.self.inside.len c.args.at c.with_bit.result true low within (ap (λ (n : ℕ). n == 1) c.with_bit.ensures.own)
    (λ i few other. c.with_bit.ensures.others i few other ∙ ap (λ (w : ℕ). bit_at w i) (c.index.ensures ∙ get_or_default c.self.inside.words.items (c.args.at / 32) c.index.result.now 0 within))
    ∙ ap (λ (xs : List Bool). slice_set xs c.args.at true) c.self.view_is
