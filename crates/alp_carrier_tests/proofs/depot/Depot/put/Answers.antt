use Rattle.std.proofs.Common.{rules}
use Rattle.alp_carrier_tests.proofs.DepotLemmas.{put_sent, put_came}
use Rattle.alp_carrier_tests.proofs.depot.Depot.put.Goals as goal

pub invariant_of-self-in-Sent : goal.invariant_of-self-in-Sent
invariant_of-self-in-Sent c = put_sent c.self.inside.records.items c.self.inside.outgoing.items _ _ c.args.rank c.args.deed c.in-Sent.envelope c.self.invariant (search rules) (search rules) (search rules) (search rules)

pub invariant_of-self-in_default : goal.invariant_of-self-in_default
invariant_of-self-in_default c = put_came c.self.inside.records.items c.self.inside.outgoing.items _ _ c.args.rank c.args.deed c.self.invariant (search rules) (search rules) (search rules) (search rules)
