use Rattle.std.proofs.Common.{◌≡◌}
use Rattle.alp_top.proofs.finish.Rests.put.Goals as goal

pub returns : goal.returns
returns g c = record { helds = c.in_ok-insert.ensures.items; logs = c.in_ok-insert-2.ensures.items; begun = c.saturating_add-self.ensures; committed = c.saturating_add-self-2.ensures }
