use Rattle.std.proofs.Common.{◌∙◌}
use Rattle.alp_jobs.proofs.QueueLemmas.{nil_by}
use Rattle.alp_jobs.proofs.queues.has_no_line.Goals as goal

pub returns : goal.returns
returns c = c.is_empty.ensures ∙ nil_by c.args.lines.now.items c.args.lines.now.len c.args.lines.now.ok.0
