use Rattle.std.proofs.Common.{rules}
use Rattle.alp_monitor.proofs.Rules.{claims}
use Rattle.alp_monitor.proofs.Seats.{won, holds, taken}
use Rattle.alp_monitor.proofs.monitor.Monitor.claim.Goals as goal

pub compare_exchange-requires : goal.compare_exchange-requires
compare_exchange-requires g c = (search rules, search rules, claims g.S.Story.base g.S.Story.entries _ _ _ _ _ _ c.requires.outside.0 c.requires.outside.1 c.requires.outside.2 c.requires.even)

pub exchange-place-requires : goal.exchange-place-requires
exchange-place-requires g c =
    let o = c.requires.outside in (
      search rules,
      holds g.S.Story.base g.S.Story.entries _ o.0 o.1 (won g.S.Story.base g.S.Story.entries _ _ _ _ o.0 o.1 o.2 c.compare_exchange.ensures.2 c.if-compare_exchange-word.false),
    )

pub unreachable-requires : goal.unreachable-requires
unreachable-requires g c =
    let o = c.requires.outside in
    let w = won g.S.Story.base g.S.Story.entries _ _ _ _ o.0 o.1 o.2 c.compare_exchange.ensures.2 c.if-compare_exchange-word.false in
    c.in_default.not-Some w.0 (taken g.S.Story.base g.S.Story.entries _ o.0 o.1 _ w c.exchange-place.ensures.2)
