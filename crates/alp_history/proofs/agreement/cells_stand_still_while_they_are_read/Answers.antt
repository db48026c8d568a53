use Rattle.alp_history.proofs.StillReads.{still-reads}
use Rattle.alp_history.proofs.agreement.cells_stand_still_while_they_are_read.Goals as goal

pub returns : goal.returns
returns c = still-reads
