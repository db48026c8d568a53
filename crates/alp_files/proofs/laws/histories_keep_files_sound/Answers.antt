use Rattle.alp_files.proofs.SoundLemmas.{history_sound, end_sound}
use Rattle.alp_files.proofs.laws.histories_keep_files_sound.Goals as goal

pub returns-clause-after_each : goal.returns-clause-after_each
returns-clause-after_each c = history_sound

pub returns-clause-at_end : goal.returns-clause-at_end
returns-clause-at_end c = end_sound
