use Rattle.std.specs.List.Sorted.{IsPermutation}
use Rattle.std.proofs.Common.{List, ap, sym, subst, ◌∙◌}
use Rattle.alp_base.specs.declared.ids.TransId.{TransId}
use Rattle.alp_journal.specs.Messages.{all_ready, trans_ready}
use Rattle.alp_worker.specs.Walks.{ready_in}
use Rattle.alp_worker.proofs.WalkLemmas.{walks, ready-silent}
use Rattle.alp_worker.proofs.joins.Joins.ready_transactions.Goals as goal

pub returns-clause-journal : goal.returns-clause-journal
returns-clause-journal c s h =
    subst (λ (ts : List TransId). IsPermutation (all_ready s) ts) (sym (c.in_ok-ready.ensures ∙ ap ready_in c.as_slice.ensures))
    (walks (λ j p. trans_ready p) ready-silent s.holder.server s.ids.epoch s.ids.joins s.phases s.joined c.args.self.now h)
