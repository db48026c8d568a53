use Rattle.std.proofs.Common.{ap, sym, subst, ◌∙◌}
use Rattle.alp_locks.specs.Tables.{Holders, Table, held_of, are_known}
use Rattle.alp_locks.specs.Sound.{IsSound}
use Rattle.alp_locks.proofs.ResultLemmas.{either}
use Rattle.alp_locks.proofs.HeldLemmas.{known-insert}
use Rattle.alp_locks.proofs.SoundLemmas.{entered-sound}
use Rattle.alp_locks.proofs.table.LockTable.enter.Goals as goal

pub invariant_of-self-2 : goal.invariant_of-self-2
invariant_of-self-2 c =
    let holders : Holders = c.self.inside.holders in
    either c.enter.result _ _ _ c.enter.ensures.ok c.enter.ensures.err
    (λ a. (
      ap (λ (p : Holders). are_known p c.self.inside.queue) a ∙ known-insert holders c.args.trans (held_of holders c.args.trans) c.self.inside.queue c.self.invariant.0,
      c.self.invariant.1,
    ))
    (λ e. (ap (λ (p : Holders). are_known p c.self.inside.queue) e ∙ c.self.invariant.0, c.self.invariant.1))

pub returns-clause-sound : goal.returns-clause-sound
returns-clause-sound c s =
    let table : Holders → Table = λ p. record { held = p; waiting = c.self.inside.queue; woken = c.self.inside.woken.items } in
    let before : IsSound (table c.self.inside.holders) = subst IsSound (sym c.self.view_is) s in
    either c.enter.result _ _ (IsSound (table c.enter.new.self)) c.enter.ensures.ok c.enter.ensures.err
    (λ a. subst (λ (p : Holders). IsSound (table p)) (sym a) (entered-sound (table c.self.inside.holders) c.args.trans before))
    (λ e. subst (λ (p : Holders). IsSound (table p)) (sym e) before)
