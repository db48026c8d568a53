use Rattle.alp_worker.proofs.RoomLemmas.{vote_told, own_told}
use Rattle.alp_worker.proofs.laws.votes_look_at_the_sum.Goals as goal

pub returns-clause-other : goal.returns-clause-other
returns-clause-other c failed s client t ts ns n moved sizes size = vote_told s ts ns moved sizes t n size failed client

pub returns-clause-own : goal.returns-clause-own
returns-clause-own c failed s t ts ns n moved sizes size = own_told s ts ns moved sizes t n size failed
