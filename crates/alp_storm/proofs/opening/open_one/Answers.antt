use Rattle.std.proofs.Common.{rules, ◌≡◌, ◌<◌, ◌≤◌, length}
use Rattle.std.specs.Vec.{vec_len, vec_capacity}
use Rattle.alp_storm.proofs.opening.open_one.Goals as goal

pub returns-clause-ok : goal.returns-clause-ok
returns-clause-ok g c = (
  c.in_ok-monitor.monitor,
  c.in_ok-monitor.room.items,
  c.spread.new.room,
  c.push_reserved.ensures.items,
  c.push_reserved-2.ensures.items,
  c.spread.ensures.each,
  c.in_ok-monitor.ensures.passes,
  search rules,
  search rules,
  (c.spread.ensures.none_left.0, c.spread.ensures.none_left.1, search rules),
  c.in_ok-monitor.ensures.base,
)
