use Rattle.alp_files.proofs.FrameLemmas.{part-frame, part-within, files-changed}
use Rattle.alp_files.proofs.laws.calls_keep_to_their_locks.Goals as goal

pub returns-clause-frame : goal.returns-clause-frame
returns-clause-frame c held server who = part-frame held server who

pub returns-clause-change : goal.returns-clause-change
returns-clause-change c held server who = part-within held server who

pub returns-clause-files : goal.returns-clause-files
returns-clause-files c = files-changed
