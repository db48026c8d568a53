use Rattle.std.specs.Prelude.{Ok}
use Rattle.alp_course.specs.Settles.{IsLifted}
use Rattle.alp_course.specs.Languages.{Each}
use Rattle.alp_cluster.specs.Stations.{Did, HaveGone}
use Rattle.alp_cluster.proofs.stations.Stations.lift_all.Given as goal

abbrev pub invariant-loop-place : goal.invariant-loop-place
invariant-loop-place g l = record {
  did : Did g.V.Vault (Each IsLifted l.place) l.fn.self l.self;
  gone : HaveGone {T = Unit {0}} g.V.Vault (Unit {0}) l.fn.self l.self (Ok tt);
}
