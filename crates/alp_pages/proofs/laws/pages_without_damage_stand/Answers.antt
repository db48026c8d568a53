use Rattle.alp_pages.proofs.StandLaws.{undamaged_stand}
use Rattle.alp_pages.proofs.OrderLaws.{standing_undamaged}
use Rattle.alp_pages.proofs.laws.pages_without_damage_stand.Goals as goal

pub returns-clause-stand : goal.returns-clause-stand
returns-clause-stand c = undamaged_stand

pub returns-clause-undamaged : goal.returns-clause-undamaged
returns-clause-undamaged c = standing_undamaged
