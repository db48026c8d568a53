use Rattle.alp_pages.proofs.GrowLaws.{page_added}
use Rattle.alp_pages.proofs.changes.a_new_page_is_put.Goals as goal

pub returns : goal.returns
returns c home pages v m s f n index place here none free bytes ix row old reads =
    page_added home pages v m s f n index place here none free.free free.least free.most bytes ix row old reads
