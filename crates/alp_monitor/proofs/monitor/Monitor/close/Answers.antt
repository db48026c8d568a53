use Rattle.std.proofs.Common.{rules, arith, ap, refl, ◌≡◌, ℕ, [], ◌∷◌}
use Rattle.std.proofs.lemmas.Grind.{common_steps}
use Rattle.alp_monitor.specs.Passes.{IsMadeBy}
use Rattle.alp_monitor.proofs.Ends.{joins}
use Rattle.alp_monitor.proofs.Passes.{gathered_one, gathered_more, next_of, some_pass, closes, same_state}
use Rattle.alp_monitor.proofs.monitor.Monitor.close.Goals as goal

pub take_last-keeper-requires : goal.take_last-keeper-requires
take_last-keeper-requires g c = let l = some_pass c.args.passes.items _ c.args.self.some c.requires.all in first_of (search rules, grind (arith, common_steps))

pub loop-pass-init : goal.loop-pass-init
loop-pass-init g c = gathered_one c.args.self c.args.passes.items _ c.take_last-keeper.result _ c.requires.own c.take_last-keeper.ensures.items refl

pub join_seat-requires : goal.join_seat-requires
join_seat-requires g c =
    let i = c.loop-pass.invariant in
    let next = next_of c.args.self c.args.passes.items _ _ c.in-Some.pass _ c.requires.own i c.in-Some.ensures.items in
    let out = next.1 in
    (search rules, next.0, ap (λ m. m.1) out.2, search rules, joins g.S.Story.base g.S.Story.entries _ _ _ _ _ _ i.base out.0 _ (out.1 ∷ []) (ap (λ m. m.0) i.keeper_is) (ap (λ m. m.0) out.2))

pub loop-pass-preserved : goal.loop-pass-preserved
loop-pass-preserved g c = gathered_more c.args.self c.args.passes.items _ _ c.in-Some.pass _ _ c.requires.own c.loop-pass.invariant c.in-Some.ensures.items c.join_seat.ensures.0 c.join_seat.ensures.2

pub unreachable-requires : goal.unreachable-requires
unreachable-requires g c =
    let t = closes g.S.Story.base g.S.Story.entries _ _ c.args.self c.loop-pass.keeper c.args.passes.items c.loop-pass.passes.items _ _ _ c.loop-pass.invariant (first_of (search rules, grind (arith, common_steps))) c.requires.all c.close_with-closed.ensures.values.2 c.take-home.ensures.value in
    c.in_default-home.not-Some t.0 t.1

found : (g : _) (c : goal.In-Some-home g) → (g.S.Story.base c.in-Some-home.state ≡ g.S.Story.base c.args.self.table.shared.key.0.value) × IsMadeBy c.args.passes.items (g.S.Story.entries c.in-Some-home.state)
found g c =
    let passes : ℕ = c.args.self.table.shared.key.1 in
    let t = closes g.S.Story.base g.S.Story.entries _ passes c.args.self c.loop-pass.keeper c.args.passes.items c.loop-pass.passes.items _ _ _ c.loop-pass.invariant (first_of (search rules, grind (arith, common_steps))) c.requires.all c.close_with-closed.ensures.values.2 c.take-home.ensures.value in
    same_state g.S.Story.base g.S.Story.entries _ passes _ c.args.passes.items c.in-Some-home.state t c.in-Some-home.is

pub returns-clause-base : goal.returns-clause-base
returns-clause-base g c = (found g c).0

pub returns-clause-history : goal.returns-clause-history
returns-clause-history g c = (found g c).1
