use Rattle.std.proofs.Common.{refl, rules, inl, inr, false, ◌≡◌}
use Rattle.alp_carrier.proofs.WayLemmas.{starts, ends_so}
use Rattle.alp_carrier.proofs.carrying.carry.Goals as goal

pub loop-init : goal.loop-init
loop-init g c = (
  record { sender = c.requires.sender; receiver = c.requires.receiver; delayed = tt },
  starts g.S.Story.base g.S.Station.sight c.args.route.now c.args.plan.seed _ c.args.sender c.args.receiver c.requires.sender c.requires.receiver c.requires.first refl refl refl c.dice.ensures refl,
)

pub returns-then-way : goal.returns-then-way
returns-then-way g c =
    ends_so g.S.Story.base g.S.Station.sight c.args.route.now c.args.plan.seed c.args.sender c.args.receiver c.loop.way c.finish.result c.loop.invariant.1 (let full : c.loop.way.next ≡ 4294967295 = search rules in inl full) c.finish.ensures

pub returns-then-last : goal.returns-then-last
returns-then-last g c =
    ends_so g.S.Story.base g.S.Station.sight c.args.route.now c.args.plan.seed c.args.sender c.args.receiver c.take_next-back.result.0 c.finish-then-last.result (c.take_next-back.ensures.on c.args.plan.seed c.args.sender c.args.receiver c.loop.invariant.1)
    (let none : c.take_next-back.result.1 ≡ false = search rules in inr (c.take_next-back.ensures.all none)) c.finish-then-last.ensures
