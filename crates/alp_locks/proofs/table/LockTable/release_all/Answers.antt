use Rattle.std.proofs.Common.{◌≡◌, ◌≤◌, ◌+◌, List, [], length, vec_capacity, ap, sym, subst, ◌∙◌, arith}
use Rattle.std.specs.FinMap as map
use Rattle.alp_base.specs.declared.ids.TransId.{TransId}
use Rattle.alp_queue.specs.declared.waiter.Waiter.{Waiter}
use Rattle.alp_queue.specs.Order.{without}
use Rattle.alp_locks.specs.Tables.{Holders, Table, are_known}
use Rattle.alp_locks.specs.Releases.{walked, released}
use Rattle.alp_locks.specs.Sound.{IsSound}
use Rattle.alp_locks.proofs.HeldLemmas.{known-removed, length-without}
use Rattle.alp_locks.proofs.SoundLemmas.{release-sound}
use Rattle.alp_locks.proofs.WalkLemmas.{released-length}
use Rattle.alp_locks.proofs.table.LockTable.release_all.Goals as goal

pub walk-requires-clause-known : goal.walk-requires-clause-known
walk-requires-clause-known c =
    ap (λ (p : Holders). are_known p c.withdraw.new.self) c.remove.ensures
    ∙ ap (are_known (map.remove c.self.inside.holders c.args.trans)) c.withdraw.ensures
    ∙ known-removed c.self.inside.holders c.args.trans c.self.inside.queue c.self.invariant.0

pub walk-requires-clause-room : goal.walk-requires-clause-room
walk-requires-clause-room c =
    let fewer : length c.withdraw.new.self ≡ length (without c.self.inside.queue c.args.trans) = ap length c.withdraw.ensures in
    let bound : length (without c.self.inside.queue c.args.trans) ≤ length c.self.inside.queue = length-without c.self.inside.queue c.args.trans in
    let room : length c.self.inside.queue + length c.self.inside.woken.items ≤ vec_capacity c.self.inside.woken = c.self.invariant.1 in
    omega arith

pub returns-clause-sound : goal.returns-clause-sound
returns-clause-sound c s =
    let before : Table = record { held = c.self.inside.holders; waiting = c.self.inside.queue; woken = c.self.inside.woken.items } in
    release-sound before c.args.trans c.remove.new.self c.withdraw.new.self
    (record { held = c.walk.new.holders; waiting = c.walk.new.queue; woken = c.walk.new.woken.items })
    c.remove.ensures c.withdraw.ensures c.walk.ensures.tried (subst IsSound (sym c.self.view_is) s)

pub returns-clause-few : goal.returns-clause-few
returns-clause-few c =
    let before : Table = record { held = c.self.inside.holders; waiting = c.self.inside.queue; woken = c.self.inside.woken.items } in
    let after : Table = record { held = c.walk.new.holders; waiting = c.walk.new.queue; woken = c.walk.new.woken.items } in
    let is : after ≡ released before c.args.trans =
    c.walk.ensures.tried
    ∙ ap (λ (p : Holders). walked (record { held = p; waiting = []; woken = before.woken }) c.withdraw.new.self) c.remove.ensures
    ∙ ap (λ (ws : List Waiter). walked (record { held = map.remove before.held c.args.trans; waiting = []; woken = before.woken }) ws) c.withdraw.ensures in
    let few : length after.waiting + length after.woken ≤ length before.waiting + length before.woken =
    subst (λ (x : Table). length x.waiting + length x.woken ≤ length before.waiting + length before.woken) (sym is) (released-length before c.args.trans) in
    subst (λ (x : Table). length after.waiting + length after.woken ≤ length x.waiting + length x.woken) c.self.view_is few
