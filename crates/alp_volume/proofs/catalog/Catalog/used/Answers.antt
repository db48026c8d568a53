use Rattle.std.proofs.Common.{arith}
use Rattle.alp_tables.proofs.FreeLaws.{few_taken}
use Rattle.alp_volume.proofs.UsedLaws.{head_used, used_taken}
use Rattle.alp_volume.proofs.catalog.Catalog.used.Goals as goal

pub overflow_sub-result : goal.overflow_sub-result
overflow_sub-result c = omega (arith, c.taken.ensures, head_used c.requires.0 c.args.self.now c.requires.1 c.requires.2)

pub returns-clause-used : goal.returns-clause-used
returns-clause-used c home at m stands knows sized least = omega (arith, c.taken.ensures, used_taken home at m stands c.args.self.now knows sized least)

pub returns-clause-room : goal.returns-clause-room
returns-clause-room c home sized least = omega (arith, c.taken.ensures, few_taken c.args.self.now.places, head_used home c.args.self.now sized least, sized.places)
