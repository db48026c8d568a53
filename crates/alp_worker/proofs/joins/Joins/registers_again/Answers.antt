use Rattle.std.specs.Prelude.{flat_map, ℕ}
use Rattle.std.specs.List.Sorted.{IsPermutation}
use Rattle.std.proofs.Common.{List, ap, sym, subst, ◌∙◌}
use Rattle.std.proofs.lemmas.List.Sorted.{IsPermutation-trans, IsPermutation-map}
use Rattle.alp_journal.specs.Messages.{register_again, to_others}
use Rattle.alp_journal.specs.State.{is_other_server}
use Rattle.alp_journal.specs.declared.message.Envelope.{Envelope}
use Rattle.alp_worker.specs.Again.{mail, mails, registers_in}
use Rattle.alp_worker.proofs.OrderLemmas.{registers_order}
use Rattle.alp_worker.proofs.WalkLemmas.{registers}
use Rattle.alp_worker.proofs.joins.Joins.registers_again.Goals as goal

pub returns-clause-same : goal.returns-clause-same
returns-clause-same c = subst (λ (es : List Envelope). IsPermutation es c.by_transaction.new.out.items) (c.in_ok-out.ensures ∙ ap (registers_in c.args.servers c.args.self.now.server) c.as_slice.ensures) c.by_transaction.ensures.moved

pub returns-clause-order : goal.returns-clause-order
returns-clause-order c =
    registers_order c.args.servers c.args.self.now.server c.args.self.now.lives c.by_transaction.new.out.items
    (subst (λ (es : List Envelope). IsPermutation es c.by_transaction.new.out.items) (c.in_ok-out.ensures ∙ ap (registers_in c.args.servers c.args.self.now.server) c.as_slice.ensures) c.by_transaction.ensures.moved) c.by_transaction.ensures.sorted

pub returns-clause-journal : goal.returns-clause-journal
returns-clause-journal c s h many =
    IsPermutation-trans (to_others s (flat_map (λ j. register_again j (s.phases j)) s.joined)) (mails (registers_in c.args.servers c.args.self.now.server c.args.self.now.lives)) (mails c.by_transaction.new.out.items)
    (subst (λ (n : ℕ). IsPermutation (to_others s (flat_map (λ j. register_again j (s.phases j)) s.joined)) (mails (registers_in n c.args.self.now.server c.args.self.now.lives))) many
    (subst (λ (n : ℕ). IsPermutation (to_others s (flat_map (λ j. register_again j (s.phases j)) s.joined)) (mails (registers_in s.servers n c.args.self.now.lives))) (sym h.server)
    (registers (is_other_server s) s.holder.server s.ids.epoch s.ids.joins s.phases s.joined c.args.self.now h)))
    (IsPermutation-map mail (registers_in c.args.servers c.args.self.now.server c.args.self.now.lives) c.by_transaction.new.out.items
    (subst (λ (es : List Envelope). IsPermutation es c.by_transaction.new.out.items) (c.in_ok-out.ensures ∙ ap (registers_in c.args.servers c.args.self.now.server) c.as_slice.ensures) c.by_transaction.ensures.moved))
