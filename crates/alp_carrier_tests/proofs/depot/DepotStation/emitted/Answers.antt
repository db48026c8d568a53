use Rattle.std.proofs.Common.{rules, subst, ◌≡◌, ◌<◌, List}
use Rattle.std.specs.Prelude.{slice_index_or, length}
use Rattle.alp_carrier.specs.Sights.{IsShown}
use Rattle.alp_carrier_tests.specs.Records.{depot_sight}
use Rattle.alp_carrier_tests.specs.declared.record.Outgoing.{Outgoing}
use Rattle.alp_carrier_tests.specs.declared.record.Record.{Record}
use Rattle.alp_carrier_tests.proofs.DepotLemmas.{shown_index}
use Rattle.alp_carrier_tests.proofs.depot.DepotStation.emitted.Goals as goal

pub returns-clause-some : goal.returns-clause-some
returns-clause-some c =
    let low : c.args.place < length c.self.inside.outgoing.items = search rules in
    let is : slice_index_or c.self.inside.outgoing.items c.args.place c.index.result.now ≡ c.index.result.now = search rules in
    let same : c.self.inside.records.items ≡ c.args.self.now.records = search rules in
    subst (λ (rs : List Record). IsShown depot_sight c.args.self.now.is_open rs c.args.place c.index.result.now.envelope) same
    (subst (λ (o : Outgoing). IsShown depot_sight c.args.self.now.is_open c.self.inside.records.items c.args.place o.envelope) is
    (shown_index c.args.self.now.is_open c.self.inside.records.items c.self.inside.outgoing.items c.args.place c.index.result.now c.self.invariant low))
