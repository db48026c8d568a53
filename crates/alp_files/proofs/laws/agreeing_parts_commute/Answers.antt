use Rattle.alp_files.proofs.FrameLemmas.{parts-commute}
use Rattle.alp_files.proofs.SwapLemmas.{history-swap}
use Rattle.alp_files.proofs.laws.agreeing_parts_commute.Goals as goal

pub returns-clause-parts : goal.returns-clause-parts
returns-clause-parts c = parts-commute

pub returns-clause-history : goal.returns-clause-history
returns-clause-history c = history-swap
