use Rattle.alp_journal.proofs.RefusedLemmas.{refused_leaves, unknown_leaves, finish_leaves, ended_leaves}
use Rattle.alp_journal.proofs.EndedLemmas.{aborted_leaves}
use Rattle.alp_journal.proofs.laws.passing_refusals_change_nothing.Goals as goal

pub returns : goal.returns
returns c = record { refused = refused_leaves; unknown = unknown_leaves; finish = finish_leaves; ended = ended_leaves; aborted = aborted_leaves }
