use Rattle.alp_history.proofs.LockEnds.{stamps_go_by_locks}
use Rattle.alp_history.proofs.agreement.stamps_go_by_locks.Goals as goal

pub returns : goal.returns
returns c = stamps_go_by_locks
