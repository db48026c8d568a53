use Rattle.alp_volume.proofs.PartsLaws.{free_stands}
use Rattle.alp_volume.proofs.laws.free_places_may_hold_anything.Goals as goal

pub returns : goal.returns
returns c = free_stands
