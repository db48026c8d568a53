use Rattle.std.proofs.Common.{arith}
use Rattle.alp_carrier_tests.proofs.DepotLemmas.{last_index}
use Rattle.alp_carrier_tests.proofs.depot.last_of.Goals as goal

pub returns-in-len1-up : goal.returns-in-len1-up
returns-in-len1-up c = last_index c.args.records.now _ (let some = c.in-len1-up.len_at_least in omega (arith, some))
