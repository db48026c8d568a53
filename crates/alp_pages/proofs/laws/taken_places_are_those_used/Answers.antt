use Rattle.alp_pages.proofs.NodeLaws.{taken-used, shaped_held}
use Rattle.alp_pages.proofs.laws.taken_places_are_those_used.Goals as goal

pub returns : goal.returns
returns c home pages m stands = taken-used home stands.volume m stands.spells.shape.places (shaped_held home stands.volume m stands.spells.shape)
