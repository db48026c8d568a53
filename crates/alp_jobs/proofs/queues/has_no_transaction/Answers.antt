use Rattle.std.specs.Global.{Global}
use Rattle.std.specs.Prelude.{Vec}
use Rattle.std.proofs.Common.{◌∙◌}
use Rattle.alp_lines.specs.declared.line.Line.{Line}
use Rattle.alp_jobs.proofs.QueueLemmas.{nil_by, nil_map}
use Rattle.alp_jobs.proofs.queues.has_no_transaction.Goals as goal

pub returns : goal.returns
returns c =
    c.is_empty.ensures
    ∙ nil_by c.args.transactions.now.items c.args.transactions.now.len c.args.transactions.now.ok.0
    ∙ nil_map (λ (ls : Vec Line Global). ls.items) c.args.transactions.now.items
