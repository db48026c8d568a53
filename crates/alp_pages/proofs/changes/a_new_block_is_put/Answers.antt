use Rattle.alp_pages.proofs.BlockLaws.{block_added}
use Rattle.alp_pages.proofs.changes.a_new_block_is_put.Goals as goal

pub returns : goal.returns
returns c home pages v m s f n leader index place here few none free_i free_p apart bytes ix lbytes one block =
    block_added home pages v m s f n leader index place here few none free_i.free free_p.free apart (free_i.least, free_i.most) (free_p.least, free_p.most) bytes ix lbytes one block
