use Rattle.alp_files.proofs.FrameLemmas.{steps-sized}
use Rattle.alp_files.proofs.laws.acts_keep_sizes.Goals as goal

pub returns : goal.returns
returns c = steps-sized
