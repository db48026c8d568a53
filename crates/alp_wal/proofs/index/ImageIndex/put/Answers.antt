use Rattle.std.proofs.Common.{◌<◌, ℕ, List, Some, None, sym, ◌∙◌, ap, subst, arith, length, set}
use Rattle.std.proofs.lemmas.List.{get_or_read}
use Rattle.alp_wal.specs.Logged.{IsWhole}
use Rattle.alp_wal.proofs.Listing.{whole_new, whole_again, room_left}
use Rattle.alp_wal.proofs.index.ImageIndex.put.Goals as goal

pub invariant_of-self : goal.invariant_of-self
invariant_of-self c =
    let i = c.self.inside in
    let low : c.args.at < length i.images.items = omega (arith, c.requires, ap length c.self.view_is) in
    let read = get_or_read i.images.items c.args.at c.index.result.now low c.index.ensures None in
    whole_again i.logged.items i.logged.cap i.images.items c.args.at _ c.args.image c.self.invariant (sym read ∙ c.in-Some.is)

pub push_reserved-requires : goal.push_reserved-requires
push_reserved-requires c =
    let i = c.self.inside in
    let low : c.args.at < length i.images.items = omega (arith, c.requires, ap length c.self.view_is) in
    let read = get_or_read i.images.items c.args.at c.index.result.now low c.index.ensures None in
    omega (arith, room_left i.logged.items i.logged.cap i.images.items c.args.at c.self.invariant low (sym read ∙ c.in_default.is), i.logged.ok)

pub invariant_of-self-2 : goal.invariant_of-self-2
invariant_of-self-2 c =
    let i = c.self.inside in
    let low : c.args.at < length i.images.items = omega (arith, c.requires, ap length c.self.view_is) in
    let read = get_or_read i.images.items c.args.at c.index.result.now low c.index.ensures None in
    let pushed = c.push_reserved.ensures in
    subst (λ (t : List ℕ × ℕ). IsWhole t.0 t.1 (set i.images.items c.args.at (Some c.args.image))) (λ k. (sym pushed.items k, sym pushed.capacity k))
    (whole_new i.logged.items i.logged.cap i.images.items c.args.at c.args.image c.self.invariant low (sym read ∙ c.in_default.is))
