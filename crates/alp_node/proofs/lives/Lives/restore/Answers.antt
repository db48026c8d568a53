use Rattle.std.specs.Prelude.{None}
use Rattle.std.proofs.Common.{◌≡◌, ap, sym, ◌∙◌}
use Rattle.std.specs.FinMap as map
use Rattle.alp_base.specs.Orders.{transactions_total, exact_transactions}
use Rattle.alp_base.proofs.TreeLemmas.{put_at}
use Rattle.alp_node.specs.Totals.{LiveMap, totals_of, with_part}
use Rattle.alp_node.specs.declared.totals.Totals.{Totals}
use Rattle.alp_node.proofs.TotalLemmas.{restored_totals}
use Rattle.alp_node.proofs.lives.Lives.restore.Goals as goal

pub returns-clause-ok : goal.returns-clause-ok
returns-clause-ok c =
    put_at transactions_total exact_transactions c.self.inside.lives.entries c.insert.new.self.entries c.args.trans c.args.live c.in_ok-insert.ensures.updates.0
    ∙ ap (λ m. map.insert m c.args.trans c.args.live) c.self.view_is

pub invariant_of-self-2 : goal.invariant_of-self-2
invariant_of-self-2 c =
    let none : map.get (map.from_entries c.self.inside.lives.entries) c.args.trans ≡ None = ap (λ (m : LiveMap). map.get m c.args.trans) c.self.view_is ∙ c.requires.new in
    c.with-self-inside.ensures ∙ ap (λ (t : Totals). with_part t c.args.live.part.counts) c.self.invariant
    ∙ sym (restored_totals (map.from_entries c.self.inside.lives.entries) c.args.trans c.args.live none)
    ∙ sym (ap totals_of (put_at transactions_total exact_transactions c.self.inside.lives.entries c.insert.new.self.entries c.args.trans c.args.live c.in_ok-insert.ensures.updates.0))
