use Rattle.std.proofs.Common.{arith}
use Rattle.alp_carrier_tests.proofs.tests.fn.carry_beside.join+arg3.Goals as goal

pub carry-requires : goal.carry-requires
carry-requires g c = record { sender = c.requires.0; receiver = c.requires.1; first = (let zero_is = c.requires.2 in omega (arith, zero_is)) }
