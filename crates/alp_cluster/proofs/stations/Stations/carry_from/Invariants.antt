use Rattle.std.specs.Prelude.{Ok}
use Rattle.alp_course.specs.Carries.{CarriesTo}
use Rattle.alp_course.specs.Languages.{Each}
use Rattle.alp_cluster.specs.Messages.{DidSay}
use Rattle.alp_cluster.specs.Stations.{HaveGone}
use Rattle.alp_cluster.proofs.stations.Stations.carry_from.Given as goal

abbrev pub invariant-loop-place : goal.invariant-loop-place
invariant-loop-place g l = record {
  said : DidSay g.V.Vault (Each (CarriesTo l.from) l.place) l.some l.fn.self l.self;
  gone : HaveGone {T = Unit {0}} g.V.Vault (Unit {0}) l.fn.self l.self (Ok tt);
}
