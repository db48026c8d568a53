use Rattle.alp_regain.proofs.TouchedLemmas.{files_just_so}
use Rattle.alp_regain.proofs.laws.puts_tell_of_files.Goals as goal

pub returns : goal.returns
returns c = λ i m files fit. files_just_so i m files fit
