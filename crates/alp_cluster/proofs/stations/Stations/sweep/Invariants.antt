use Rattle.std.specs.Prelude.{Ok}
use Rattle.std.proofs.Common.{length}
use Rattle.alp_course.specs.Carries.{CarriesFrom}
use Rattle.alp_course.specs.Languages.{Each}
use Rattle.alp_cluster.specs.Messages.{DidSay}
use Rattle.alp_cluster.specs.Stations.{HaveGone}
use Rattle.alp_cluster.proofs.stations.Stations.sweep.Given as goal

abbrev pub invariant-loop-place : goal.invariant-loop-place
invariant-loop-place g l = record {
  said : DidSay g.V.Vault (Each (CarriesFrom (length l.fn.self.all.items)) l.place) l.some l.fn.self l.self;
  gone : HaveGone {T = Unit {0}} g.V.Vault (Unit {0}) l.fn.self l.self (Ok tt);
}
