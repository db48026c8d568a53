use Rattle.std.proofs.Common.{◌≡◌, true, false, ap, sym, ◌∙◌, is_some}
use Rattle.std.specs.FinMap as map
use Rattle.alp_base.specs.Orders.{transactions_total, exact_transactions}
use Rattle.alp_base.proofs.TreeLemmas.{get_at, put_at}
use Rattle.alp_locks.proofs.ResultLemmas.{either}
use Rattle.alp_locks.proofs.holders.Holders.replace.Goals as goal

pub returns : goal.returns
returns c =
    either c.insert.result _ _ _ c.insert.ensures.updates c.insert.ensures.absent
    (λ u. put_at transactions_total exact_transactions c.self.inside.locks.entries c.insert.new.self.entries c.args.trans c.args.locks u.0
    ∙ ap (λ m. map.insert m c.args.trans c.args.locks) c.self.view_is)
    (λ a. let wrong : false ≡ true =
    ap is_some (sym (sym (ap (λ m. map.get m c.args.trans) c.self.view_is) ∙ get_at transactions_total exact_transactions c.self.inside.locks.entries c.args.trans ∙ a)) ∙ c.requires in cc)
