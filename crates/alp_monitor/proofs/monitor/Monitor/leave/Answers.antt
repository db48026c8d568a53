use Rattle.std.proofs.Common.{rules, ◌*◌, ap, ◌∙◌}
use Rattle.alp_monitor.proofs.Rules.{settles}
use Rattle.alp_monitor.proofs.Seats.{base_at, adds_at, brought, leaves, Leaves}
use Rattle.alp_monitor.proofs.monitor.Monitor.leave.Goals as goal

pub store-requires : goal.store-requires
store-requires g c =
    let i = c.requires.inside in (
      search rules,
      search rules,
      settles g.S.Story.base g.S.Story.entries _ _ _ _ _ _ i.0 i.1 c.args.turn.state (brought g.S.Story.base g.S.Story.entries _ _ i.0 i.1 _ i.2 c.exchange-place.ensures.3) (base_at g.S.Story.base g.S.Story.entries c.args.turn.pass i.0 i.1 _ i.2 c.requires.base)
          (adds_at g.S.Story.base g.S.Story.entries c.args.turn.pass i.0 i.1 _ i.2 c.requires.history) (ap (λ n. 2 * n) c.count-word.ensures),
    )

left : (g : _) (c : goal.After-wake g) → Leaves g.S.Story.base g.S.Story.entries c.args.turn.pass c.wake.new.pass c.args.turn.state
left g c =
    let i = c.requires.inside in
    leaves g.S.Story.base g.S.Story.entries c.args.turn.pass c.wake.new.pass _ _ i.0 i.1 _ i.2 (brought g.S.Story.base g.S.Story.entries _ _ i.0 i.1 _ i.2 c.exchange-place.ensures.3) c.store.ensures.2 (adds_at g.S.Story.base g.S.Story.entries c.args.turn.pass i.0 i.1 _ i.2 c.requires.history) c.wake.ensures.me
    (c.wake.ensures.table ∙ (c.store.ensures.0 ∙ c.exchange-place.ensures.0))

pub returns-clause-pass : goal.returns-clause-pass
returns-clause-pass g c = ((left g c).same, (left g c).outside)

pub returns-clause-history : goal.returns-clause-history
returns-clause-history g c = (left g c).entries

pub returns-clause-front : goal.returns-clause-front
returns-clause-front g c = (left g c).begins

pub returns-clause-none : goal.returns-clause-none
returns-clause-none g c = (left g c).none

pub returns-clause-entry : goal.returns-clause-entry
returns-clause-entry g c = (left g c).entry

pub returns-clause-turn : goal.returns-clause-turn
returns-clause-turn g c = (left g c).turn
