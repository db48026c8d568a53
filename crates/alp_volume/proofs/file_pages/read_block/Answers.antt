use Rattle.std.proofs.Common.{sym, ◌∙◌}
use Rattle.alp_volume.proofs.FileNames.{block_right, block_wrong}
use Rattle.alp_volume.proofs.file_pages.read_block.Goals as goal

pub returns-clause-judged : goal.returns-clause-judged
returns-clause-judged g c home names f tells marks fresh =
    block_right home (g.R.PageReader.pages c.args.reader.now) names f c.args.size c.args.block c.args.place c.saturating_sub-limit.result c.if-place-eq0.false c.saturating_sub-limit.ensures c.read_index.new.places
    (sym (c.in_ok-read_index.ensures.judged home names f c.args.block tells marks fresh) ∙ c.if-not-branch.false)
    (c.in_ok-read_index.ensures.marked home names f c.args.block tells marks fresh c.if-not-branch.false)

pub returns-then-not-branch-clause-judged : goal.returns-then-not-branch-clause-judged
returns-then-not-branch-clause-judged g c home names f tells marks fresh =
    block_wrong home (g.R.PageReader.pages c.args.reader.now) names f c.args.size c.args.block c.args.place c.saturating_sub-limit.result c.if-place-eq0.false c.saturating_sub-limit.ensures c.read_index.new.places
    (sym (c.in_ok-read_index.ensures.judged home names f c.args.block tells marks fresh) ∙ c.if-not-branch.true)
