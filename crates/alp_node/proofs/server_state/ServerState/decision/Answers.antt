use Rattle.std.specs.Prelude.{length}
use Rattle.std.proofs.Common.{◌≡◌, ℕ, ◌+◌, ◌≤◌, List, [], ◌∷◌, ◌++◌, refl, sym, ap, ◌∙◌, arith}
use Rattle.alp_journal.specs.declared.act.Act.{Act}
use Rattle.alp_journal.specs.declared.act.Act.TheVariants as act
use Rattle.alp_node.proofs.server_state.ServerState.decision.Goals as goal

pub returns : goal.returns
returns g c =
    let stamp = c.args.stamp in
    record {
      stamp = refl;
      notes = c.in_ok-notes.ensures.notes;
      fits = c.in_ok-notes.ensures.fits;
      acts =
          c.push_reserved-2.ensures.items
          ∙ ap (λ (xs : List Act). xs ++ act.Released stamp.trans ∷ []) (c.push_reserved.ensures.items ∙ ap (λ (xs : List Act). xs ++ c.in_ok-decision_act.field-0 ∷ []) c.in_ok-acts.ensures.items ∙ ap (λ (x : Act). x ∷ []) c.in_ok-decision_act.ensures);
      room = omega (arith, c.in_ok-acts.ensures.capacity, c.push_reserved.ensures.capacity, c.push_reserved-2.ensures.capacity, c.waiters.ensures.count);
      halted = c.push_reserved-3.ensures.items ∙ ap (λ (xs : List Act). xs ++ c.in_ok-decision_act-2.field-0 ∷ []) c.in_ok-halted.ensures.items ∙ ap (λ (x : Act). x ∷ []) c.in_ok-decision_act-2.ensures;
      place = omega (arith, c.in_ok-halted.ensures.capacity, c.push_reserved-3.ensures.capacity);
    }
