use Rattle.alp_script.proofs.AcceptedLemmas.{accepted}
use Rattle.alp_script.proofs.read.accepted_lines.Goals as goal

pub returns : goal.returns
returns c = accepted
