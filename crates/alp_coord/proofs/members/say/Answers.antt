use Rattle.std.specs.Prelude.{Option, None, Some, slice_set}
use Rattle.std.specs.List.{position_or_len}
use Rattle.std.proofs.Common.{◌≡◌, ℕ, ◌<◌, List, length, ap, sym, ◌∙◌, arith}
use Rattle.alp_journal.specs.Ids.{same_join}
use Rattle.alp_coord.specs.declared.members.Member.{Member}
use Rattle.alp_coord.proofs.MemberLemmas.{saying-nowhere, saying-at, nowhere-none, place_within, place_none}
use Rattle.alp_coord.proofs.members.say.Goals as goal

pub bounds-members-place : goal.bounds-members-place
bounds-members-place c =
    let at = place_within (λ (m : Member). same_join m.join c.args.join.now) c.args.members.now c.in-Some.place (sym c.place_of.ensures ∙ c.in-Some.is) in
    omega (arith, at.0, at.1)

pub returns-in_default : goal.returns-in_default
returns-in_default c =
    sym (saying-nowhere c.args.join.now c.args.time c.args.members.now
    (nowhere-none c.args.join.now c.args.members.now (place_none (λ (m : Member). same_join m.join c.args.join.now) c.args.members.now (sym c.place_of.ensures ∙ c.in_default.is))))

pub returns : goal.returns
returns c =
    let at = place_within (λ (m : Member). same_join m.join c.args.join.now) c.args.members.now c.in-Some.place (sym c.place_of.ensures ∙ c.in-Some.is) in
    ap (λ (n : ℕ). slice_set c.args.members.now n (record { join = c.args.join.now; said = Some c.args.time })) at.0
    ∙ sym (saying-at c.args.join.now c.args.time c.args.members.now at.1)
