use Rattle.std.proofs.Common.{arith}
use Rattle.alp_volume.proofs.CountedLaws.{owners_counted}
use Rattle.alp_volume.proofs.catalog.Catalog.owner_count.Goals as goal

pub returns : goal.returns
returns c home at m stands knows = omega (arith, c.len.ensures.count, c.len.ensures.few, owners_counted home at m stands c.args.self.now knows)
