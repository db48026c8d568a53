use Rattle.alp_pages.proofs.UniqueLaws.{one_map}
use Rattle.alp_pages.proofs.laws.pages_stand_for_one_map.Goals as goal

pub returns : goal.returns
returns c = one_map
