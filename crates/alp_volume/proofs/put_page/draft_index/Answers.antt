use Rattle.alp_volume.proofs.PutLaws.{long_row}
use Rattle.alp_volume.proofs.put_page.draft_index.Goals as goal

pub returns-clause-long : goal.returns-clause-long
returns-clause-long g c = long_row c.bytes.result.now c.decode_index.result c.decode_index.ensures
