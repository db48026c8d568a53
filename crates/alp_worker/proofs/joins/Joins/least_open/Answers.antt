use Rattle.std.proofs.Common.{Option, ap, sym, subst, ◌∙◌, None}
use Rattle.alp_base.specs.declared.ids.TransId.{TransId}
use Rattle.alp_worker.specs.Walks.{IsLeastOf, has_open, least_from}
use Rattle.alp_worker.proofs.LeastLemmas.{least_open_in, least_joined}
use Rattle.alp_worker.proofs.joins.Joins.least_open.Goals as goal

pub returns-clause-same : goal.returns-clause-same
returns-clause-same c =
    subst (λ (x : Option TransId). IsLeastOf (has_open c.args.self.now.lives) x) (sym (c.least_in.ensures ∙ ap (least_from None) c.as_slice.ensures)) (least_open_in c.args.self.now.lives)

pub returns-clause-journal : goal.returns-clause-journal
returns-clause-journal c s h = least_joined s c.args.self.now h c.least_in.result (returns-clause-same c)
