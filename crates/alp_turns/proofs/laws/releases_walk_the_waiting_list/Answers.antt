use Rattle.alp_turns.proofs.QueueLemmas.{gives_on}
use Rattle.alp_turns.proofs.laws.releases_walk_the_waiting_list.Goals as goal

pub returns : goal.returns
returns c = gives_on
