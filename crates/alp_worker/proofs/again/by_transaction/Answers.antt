use Rattle.std.proofs.Common.{rules}
use Rattle.std.proofs.lemmas.List.Sorted.{answers_always}
use Rattle.alp_worker.specs.Again.{trans_at}
use Rattle.alp_worker.proofs.again.by_transaction.Goals as goal

pub returns-clause-sorted : goal.returns-clause-sorted
returns-clause-sorted c =
    let keys = answers_always _ _ _ (λ f a r next called. search rules) in
    c.sort_unstable_by_key.ensures.sorted trans_at keys
