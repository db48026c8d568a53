use Rattle.alp_pages.proofs.NewLaws.{new_volume}
use Rattle.alp_pages.proofs.laws.a_new_volume_holds_nothing.Goals as goal

pub returns : goal.returns
returns c = new_volume
