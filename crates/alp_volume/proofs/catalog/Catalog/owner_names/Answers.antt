use Rattle.std.proofs.Common.{◌∙◌}
use Rattle.alp_volume.proofs.CountedLaws.{owners_named}
use Rattle.alp_volume.proofs.catalog.Catalog.owner_names.Goals as goal

pub returns : goal.returns
returns c home at m stands knows = c.names.ensures ∙ owners_named home at m stands c.args.self.now knows
