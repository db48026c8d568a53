use Rattle.alp_pages.proofs.UnnamedLaws.{unnamed_stands}
use Rattle.alp_pages.proofs.laws.unnamed_pages_may_hold_anything.Goals as goal

pub returns : goal.returns
returns c = unnamed_stands
