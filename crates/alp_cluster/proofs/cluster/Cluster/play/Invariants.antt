use Rattle.std.specs.Prelude.{Ok}
use Rattle.std.proofs.Common.{◌≡◌, take}
use Rattle.alp_script.specs.Accepted.{servers_said}
use Rattle.alp_cluster.specs.Runs.{HasPlayed, StopNone}
use Rattle.alp_cluster.specs.Stations.{AreCalmSince, HaveGone, openings_of}
use Rattle.alp_cluster.proofs.cluster.Cluster.play.Given as goal

abbrev pub invariant-loop-line : goal.invariant-loop-line
invariant-loop-line g l = record {
  played : HasPlayed g.V.Vault (servers_said l.lines) (take l.line-index l.lines) l.self.parties.clients l.self.parties.stations l.self.lists.items l.self.text.items;
  gone : HaveGone {T = Unit {0}} g.V.Vault (StopNone l.lines) l.fn.self.parties.stations l.self.parties.stations (Ok tt);
  openings : openings_of l.self.parties.stations ≡ openings_of l.fn.self.parties.stations;
  calm : AreCalmSince g.V.Vault l.fn.self.parties.stations l.self.parties.stations;
}
