use Rattle.alp_vault.proofs.VolumeLemmas.{log_room}
use Rattle.alp_vault.proofs.laws.counts_leave_log_room.Goals as goal

pub returns : goal.returns
returns c = log_room
