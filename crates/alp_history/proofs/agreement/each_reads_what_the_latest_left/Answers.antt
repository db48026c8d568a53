use Rattle.alp_history.proofs.Performed.{findings_both}
use Rattle.alp_history.proofs.agreement.each_reads_what_the_latest_left.Goals as goal

pub returns : goal.returns
returns c = findings_both
