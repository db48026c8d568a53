use Rattle.std.proofs.Common.{◌≡◌, ◌≤◌, ◌+◌, suc, is_some, length, vec_len, vec_capacity, ap, ◌∙◌, arith}
use Rattle.std.specs.FinMap as map
use Rattle.alp_queue.specs.declared.waiter.Waiter.{Waiter}
use Rattle.alp_locks.specs.Tables.{Holders, held_of, are_known}
use Rattle.alp_locks.proofs.ResultLemmas.{either, both}
use Rattle.alp_locks.proofs.HeldLemmas.{known-insert, insert-knows, all-placed, length-placed}
use Rattle.alp_locks.proofs.table.LockTable.let_in.Goals as goal

pub invariant_of-self-2 : goal.invariant_of-self-2
invariant_of-self-2 c =
    let holders = c.self.inside.holders in
    let queue = c.self.inside.queue in
    let w = c.args.waiter in
    let held = map.insert holders w.trans (held_of holders w.trans) in
    let room : vec_len c.reserve.new.self + (length c.waiters.result.now + 1) ≤ vec_capacity c.reserve.new.self = c.in_ok-reserve.ensures.ok in
    let seen : length c.waiters.result.now ≡ length queue = ap length c.waiters.ensures in
    let count : vec_len c.reserve.new.self ≡ length c.reserve.new.self.items = c.reserve.new.self.ok.0 in
    either c.line_up.result _ _ _ (both c.line_up.result _ _ c.line_up.ensures.held c.line_up.ensures.waiting) c.line_up.ensures.err
    (λ a. (
      ap (λ (p : Holders). are_known p c.line_up.new.queue) a.0 ∙ ap (are_known held) a.1
          ∙ all-placed (λ (x : Waiter). is_some (map.get held x.trans)) queue w (known-insert holders w.trans (held_of holders w.trans) queue c.self.invariant.0) (insert-knows holders w.trans (held_of holders w.trans)),
      let longer : length c.line_up.new.queue ≡ suc (length queue) = ap length a.1 ∙ length-placed queue w in omega arith,
    ))
    (λ b. (
      ap (λ (p : Holders). are_known p c.line_up.new.queue) b.0 ∙ ap (are_known holders) b.1 ∙ c.self.invariant.0,
      let same : length c.line_up.new.queue ≡ length queue = ap length b.1 in omega arith,
    ))
