use Rattle.std.proofs.Common.{arith}
use Rattle.alp_volume.proofs.PutLaws.{names_new}
use Rattle.alp_volume.proofs.put_block.first_index.Goals as goal

pub page-requires : goal.page-requires
page-requires c = rw c.set.ensures (names_new c.none-row.result c.args.slot c.args.place (omega (arith, c.requires.slot, c.none-row.ensures.all)) c.requires.some)
