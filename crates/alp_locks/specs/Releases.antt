-- what a release leaves, and whom it wakes
use Rattle.std.specs.Prelude.{Bool, cond, List, [], ◌∷◌, ◌++◌, is_none}
use Rattle.std.specs.FinMap as map
use Rattle.alp_base.specs.declared.ids.TransId.{TransId}
use Rattle.alp_queue.specs.declared.waiter.Waiter.{Waiter}
use Rattle.alp_queue.specs.Order.{without}
use Rattle.alp_locks.specs.Tables.{Holders, Table}
use Rattle.alp_locks.specs.Asks.{blocker}

-- nobody stands in the way of a waiter
abbrev pub is_free : Holders → Waiter → Bool
is_free holders w = is_none (blocker holders w.trans w.rises)

-- the waiter has its locks and is woken
abbrev pub with_woken : Table → Waiter → Table
with_woken t w = record { held = map.insert t.held w.trans w.after; waiting = t.waiting; woken = t.woken ++ w.trans ∷ [] }

-- the waiter goes on waiting
abbrev pub with_kept : Table → Waiter → Table
with_kept t w = record t { waiting = t.waiting ++ w ∷ [] }

-- each waiter is tried in turn, by what is held at that moment, and granted if it is free
abbrev pub walked : Table → List Waiter → Table
walked t [] = t
walked t (w ∷ ws) = walked (cond (is_free t.held w) (with_woken t w) (with_kept t w)) ws

-- the transaction's locks and its request go, and then each waiter is tried
abbrev pub released : Table → TransId → Table
released t u = walked (record { held = map.remove t.held u; waiting = []; woken = t.woken }) (without t.waiting u)
