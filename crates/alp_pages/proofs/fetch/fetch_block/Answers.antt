use Rattle.std.specs.Prelude.{is_some}
use Rattle.std.proofs.Common.{◌∙◌, ap}
use Rattle.alp_pages.specs.Nodes.{LeaderOf, IndexOf}
use Rattle.alp_pages.proofs.FetchLaws.{names_child}
use Rattle.alp_pages.proofs.NodeLaws.{shaped_held}
use Rattle.alp_pages.proofs.fetch.fetch_block.Goals as goal

pub returns-clause-block : goal.returns-clause-block
returns-clause-block g c home v m tells s here =
    c.is_some.ensures
    ∙ ap is_some (
    c.in_ok-place.ensures.place tells
    ∙ names_child home v s.shape.places (g.R.PageReader.pages c.args.reader.now c.args.leader_at) (LeaderOf c.args.file) (s.rows (LeaderOf c.args.file) c.args.leader_at here) c.args.block c.requires.block
    )
    ∙ shaped_held home v m s.shape (IndexOf c.args.file c.args.block)
