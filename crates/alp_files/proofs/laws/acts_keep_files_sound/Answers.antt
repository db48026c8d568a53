use Rattle.alp_files.proofs.SoundLemmas.{empty_sound, answers_sound}
use Rattle.alp_files.proofs.laws.acts_keep_files_sound.Goals as goal

pub returns-clause-none : goal.returns-clause-none
returns-clause-none c = empty_sound

pub returns-clause-call : goal.returns-clause-call
returns-clause-call c = answers_sound
