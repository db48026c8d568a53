use Rattle.alp_monitor.proofs.Fours.{AreFour, four_fresh}
use Rattle.alp_monitor.proofs.tests.turns.of_four.Goals as goal

four : (c : goal.After-take_last-a) → AreFour c.in-Ok.monitor c.take_last-a.result c.take_last-b.result c.take_last-c.result c.take_last-d.result c.take_last-a.new.self.items
four c = four_fresh _ c.in-Ok.monitor c.in-Ok.passes.items _ _ _ _ _ _ _ _ c.in-Ok.ensures.passes c.in-Ok.ensures.count.1 c.take_last-d.ensures.items c.take_last-c.ensures.items c.take_last-b.ensures.items c.take_last-a.ensures.items

pub returns-clause-first : goal.returns-clause-first
returns-clause-first c = (four c).first

pub returns-clause-second : goal.returns-clause-second
returns-clause-second c = (four c).second

pub returns-clause-third : goal.returns-clause-third
returns-clause-third c = (four c).third

pub returns-clause-fourth : goal.returns-clause-fourth
returns-clause-fourth c = (four c).fourth
