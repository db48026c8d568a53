use Rattle.alp_worker.proofs.WalkLemmas.{walks}
use Rattle.alp_worker.proofs.laws.walks_are_alike.Goals as goal

pub returns : goal.returns
returns c s k f silent h = walks f silent s.holder.server s.ids.epoch s.ids.joins s.phases s.joined k h
