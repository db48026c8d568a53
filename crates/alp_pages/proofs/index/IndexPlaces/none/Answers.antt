use Rattle.alp_pages.proofs.IndexLaws.{no_places}
use Rattle.alp_pages.proofs.index.IndexPlaces.none.Goals as goal

pub returns-clause-none : goal.returns-clause-none
returns-clause-none c k = no_places 128 k
