use Rattle.alp_coord.proofs.TickLemmas.{says_all}
use Rattle.alp_coord.proofs.laws.ticks_say_all.Goals as goal

pub returns : goal.returns
returns c = says_all
