use Rattle.std.specs.Prelude.{Ok}
use Rattle.alp_course.specs.Carries.{room_left}
use Rattle.alp_cluster.specs.Stations.{HaveGone, course_of}
use Rattle.alp_cluster.proofs.CarryLemmas.{IsCarrying}
use Rattle.alp_cluster.proofs.stations.Stations.carry_pair.Given as goal

abbrev pub decreases-loop-self : goal.decreases-loop-self
decreases-loop-self g l = room_left (course_of g.V.Vault l.self)

abbrev pub invariant-loop-self : goal.invariant-loop-self
invariant-loop-self g l = record {
  carrying : IsCarrying g.V.Vault l.from l.to l.some l.fn.self l.self;
  gone : HaveGone {T = Unit {0}} g.V.Vault (Unit {0}) l.fn.self l.self (Ok tt);
}
