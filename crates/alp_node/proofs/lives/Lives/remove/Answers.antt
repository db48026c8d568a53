use Rattle.std.proofs.Common.{◌≤◌, ap, sym, subst, ◌∙◌}
use Rattle.std.specs.FinMap as map
use Rattle.alp_base.specs.Orders.{transactions_total, exact_transactions}
use Rattle.alp_base.proofs.TreeLemmas.{get_at, remove_at}
use Rattle.alp_node.specs.Totals.{totals_of, without_part}
use Rattle.alp_node.specs.declared.lives.Live.{Live}
use Rattle.alp_node.specs.declared.totals.Totals.{Totals}
use Rattle.alp_node.proofs.TotalLemmas.{among, gone_totals}
use Rattle.alp_node.proofs.lives.Lives.remove.Goals as goal

pub without-self-inside-requires-clause-places : goal.without-self-inside-requires-clause-places
without-self-inside-requires-clause-places c =
    subst (λ (t : Totals). c.in-Some.old.part.counts.places ≤ t.places) (sym c.self.invariant)
    (among (λ (l : Live). l.part.counts.places) (map.from_entries c.self.inside.lives.entries) c.args.trans.now c.in-Some.old
    (get_at transactions_total exact_transactions c.self.inside.lives.entries c.args.trans.now ∙ sym c.in-Some.ensures.value))

pub without-self-inside-requires-clause-files : goal.without-self-inside-requires-clause-files
without-self-inside-requires-clause-files c =
    subst (λ (t : Totals). c.in-Some.old.part.counts.files ≤ t.files) (sym c.self.invariant)
    (among (λ (l : Live). l.part.counts.files) (map.from_entries c.self.inside.lives.entries) c.args.trans.now c.in-Some.old
    (get_at transactions_total exact_transactions c.self.inside.lives.entries c.args.trans.now ∙ sym c.in-Some.ensures.value))

pub without-self-inside-requires-clause-owners : goal.without-self-inside-requires-clause-owners
without-self-inside-requires-clause-owners c =
    subst (λ (t : Totals). c.in-Some.old.part.counts.owners ≤ t.owners) (sym c.self.invariant)
    (among (λ (l : Live). l.part.counts.owners) (map.from_entries c.self.inside.lives.entries) c.args.trans.now c.in-Some.old
    (get_at transactions_total exact_transactions c.self.inside.lives.entries c.args.trans.now ∙ sym c.in-Some.ensures.value))

-- what they come to is kept
pub invariant_of-self : goal.invariant_of-self
invariant_of-self c =
    c.without-self-inside.ensures ∙ ap (λ (t : Totals). without_part t c.in-Some.old.part.counts) c.self.invariant
    ∙ sym (gone_totals (map.from_entries c.self.inside.lives.entries) c.args.trans.now c.in-Some.old
    (get_at transactions_total exact_transactions c.self.inside.lives.entries c.args.trans.now ∙ sym c.in-Some.ensures.value))
    ∙ sym (ap totals_of (remove_at transactions_total exact_transactions c.self.inside.lives.entries c.remove.new.self.entries c.args.trans.now c.remove.ensures.updates.0))

pub returns-in-Some : goal.returns-in-Some
returns-in-Some c =
    remove_at transactions_total exact_transactions c.self.inside.lives.entries c.remove.new.self.entries c.args.trans.now c.remove.ensures.updates.0
    ∙ ap (λ m. map.remove m c.args.trans.now) c.self.view_is

pub returns-in_default : goal.returns-in_default
returns-in_default c =
    remove_at transactions_total exact_transactions c.self.inside.lives.entries c.remove.new.self.entries c.args.trans.now c.remove.ensures.updates.0
    ∙ ap (λ m. map.remove m c.args.trans.now) c.self.view_is
