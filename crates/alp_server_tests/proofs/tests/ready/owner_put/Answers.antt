use Rattle.alp_files.proofs.SameLemmas.{same_name-itself}
use Rattle.alp_server_tests.proofs.tests.ready.owner_put.Goals as goal

pub returns : goal.returns
returns c = same_name-itself c.args.name
