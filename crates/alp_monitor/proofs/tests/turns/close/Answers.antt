use Rattle.std.proofs.Common.{◌<◌, sym, ap, ◌∙◌, arith}
use Rattle.std.specs.Prelude.{slice_get}
use Rattle.alp_monitor.proofs.Fours.{own_four, all_four, pushed_four}
use Rattle.alp_monitor.proofs.tests.turns.close.Goals as goal

pub close-numbers-requires-clause-own : goal.close-numbers-requires-clause-own
close-numbers-requires-clause-own c i p e =
    let r = c.requires in
    let is = pushed_four _ _ _ _ _ c.args.done.0.0.pass c.args.done.0.1.pass c.args.done.1.0.pass c.args.done.1.1.pass r.room.0 c.push_reserved.ensures.items c.push_reserved-2.ensures.items c.push_reserved-3.ensures.items c.push_reserved-4.ensures.items in
    own_four c.args.monitor _ _ _ _ r.first r.second r.third r.fourth i p (ap (λ l. slice_get l i) (sym is) ∙ e)

pub close-numbers-requires-clause-all : goal.close-numbers-requires-clause-all
close-numbers-requires-clause-all c k l =
    let r = c.requires in
    let small : k < 4 = omega (arith, r.count, l) in
    let is = pushed_four _ _ _ _ _ c.args.done.0.0.pass c.args.done.0.1.pass c.args.done.1.0.pass c.args.done.1.1.pass r.room.0 c.push_reserved.ensures.items c.push_reserved-2.ensures.items c.push_reserved-3.ensures.items c.push_reserved-4.ensures.items in
    let t = all_four c.args.monitor _ _ _ _ r.first r.second r.third r.fourth k small in (t.0, t.1, ap (λ l. slice_get l t.0) is ∙ t.2, t.3)
