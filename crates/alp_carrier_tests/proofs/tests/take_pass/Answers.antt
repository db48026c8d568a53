use Rattle.alp_carrier_tests.specs.Depots.{is_open_of}
use Rattle.alp_carrier_tests.proofs.PassLemmas.{last_fresh}
use Rattle.alp_carrier_tests.proofs.tests.take_pass.Goals as goal

pub returns-clause-held : goal.returns-clause-held
returns-clause-held c = (last_fresh is_open_of c.args.monitor.now _ _ c.take_last.result c.requires.fresh c.take_last.ensures.items).0

pub returns-clause-others : goal.returns-clause-others
returns-clause-others c = (last_fresh is_open_of c.args.monitor.now _ _ c.take_last.result c.requires.fresh c.take_last.ensures.items).1
