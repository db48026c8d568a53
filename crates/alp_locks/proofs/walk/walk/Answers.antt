use Rattle.std.proofs.Common.{◌≡◌, ◌+◌, ◌≤◌, ◌<◌, ◌∷◌, [], suc, true, is_some, length, List, remove, get_or, vec_capacity, ap, sym, ◌∙◌, arith}
use Rattle.std.specs.FinMap as map
use Rattle.std.proofs.lemmas.Option.{slice_get_within, get_or_from_slice_get}
use Rattle.std.proofs.lemmas.List.{length-append}
use Rattle.alp_base.specs.declared.ids.TransId.{TransId}
use Rattle.alp_queue.specs.declared.waiter.Waiter.{Waiter}
use Rattle.alp_locks.specs.Tables.{Holders, are_known}
use Rattle.alp_locks.specs.Releases.{is_free}
use Rattle.alp_locks.proofs.HeldLemmas.{all-at, all-removed, known-insert, length-removed}
use Rattle.alp_locks.proofs.WalkLemmas.{from_here, walk-free}
use Rattle.alp_locks.proofs.walk.walk.Goals as goal

pub replace-requires : goal.replace-requires
replace-requires c =
    all-at (λ (w : Waiter). is_some (map.get c.loop-at.holders w.trans)) c.loop-at.queue c.loop-at.at c.take-waiter.result c.take-waiter.ensures.taken c.loop-at.invariant.1.0

pub loop-at-preserved-then-is_free : goal.loop-at-preserved-then-is_free
loop-at-preserved-then-is_free c =
    let holders = c.loop-at.holders in
    let qs = c.loop-at.queue in
    let at = c.loop-at.at in
    let w = c.take-waiter.result in
    let granted = map.insert holders w.trans w.after in
    let within : at < length qs = slice_get_within qs at w c.take-waiter.ensures.taken in
    let seen : c.index-waiters-at.result ≡ w =
    c.index-waiters-at.is
    ∙ ap (λ (ws : List Waiter). get_or ws at c.index-waiters-at.result) c.waiters-in-loop-at.ensures
    ∙ get_or_from_slice_get qs at w c.index-waiters-at.result c.take-waiter.ensures.taken in
    let free : is_free holders w ≡ true = ap (is_free holders) (sym seen) ∙ sym c.is_free.ensures ∙ c.if-is_free.true in
    let shorter : suc (length c.take-waiter.new.self) ≡ length qs = ap (λ (ws : List Waiter). suc (length ws)) c.take-waiter.ensures.others ∙ length-removed qs at within in
    let longer : length c.push_reserved.new.self.items ≡ length c.loop-at.woken.items + 1 = ap length c.push_reserved.ensures.items ∙ length-append c.loop-at.woken.items (w.trans ∷ []) in
    let room : length qs + length c.loop-at.woken.items ≤ vec_capacity c.loop-at.woken = c.loop-at.invariant.1.1.0 in
    let same : vec_capacity c.push_reserved.new.self ≡ vec_capacity c.loop-at.woken = c.push_reserved.ensures.capacity in (
      ap (λ (p : Holders). from_here p c.take-waiter.new.self c.push_reserved.new.self.items at) c.replace.ensures
          ∙ ap (λ (ws : List Waiter). from_here granted ws c.push_reserved.new.self.items at) c.take-waiter.ensures.others
          ∙ ap (λ (vs : List TransId). from_here granted (remove qs at) vs at) c.push_reserved.ensures.items
          ∙ sym (walk-free holders qs c.loop-at.woken.items at w within (get_or_from_slice_get qs at w w c.take-waiter.ensures.taken) free)
          ∙ c.loop-at.invariant.0,
      (
        ap (λ (p : Holders). are_known p c.take-waiter.new.self) c.replace.ensures
            ∙ ap (are_known granted) c.take-waiter.ensures.others
            ∙ known-insert holders w.trans w.after (remove qs at) (all-removed (λ (x : Waiter). is_some (map.get holders x.trans)) qs at c.loop-at.invariant.1.0),
        (omega arith, omega arith),
      ),
    )
