-- conversions stand first among those who wait
use Rattle.std.specs.Prelude.{◌≡◌, ℕ, false, List, [], ◌∷◌}
use Rattle.std.specs.List.{AllByRecursion, remove}
use Rattle.alp_base.specs.declared.ids.TransId.{TransId}
use Rattle.alp_queue.specs.declared.waiter.Waiter.{Waiter}
use Rattle.alp_queue.specs.Order.{placed, without}

-- behind a waiter that does not convert there is none that does
abbrev pub AreConversionsFirst : List Waiter → Type 0
AreConversionsFirst [] = Unit {0}
AreConversionsFirst (w ∷ ws) = (w.converts ≡ false → AllByRecursion (λ v. v.converts ≡ false) ws) × AreConversionsFirst ws

-- that holds where nobody waits, and stays where one enters, where one is taken from any place, and where a
-- transaction withdraws
pub record StaysFirst : Type 0 where
  pub none : AreConversionsFirst []
  pub entered : (ws : List Waiter) (w : Waiter) → AreConversionsFirst ws → AreConversionsFirst (placed ws w)
  pub taken : (ws : List Waiter) (at : ℕ) → AreConversionsFirst ws → AreConversionsFirst (remove ws at)
  pub withdrawn : (ws : List Waiter) (t : TransId) → AreConversionsFirst ws → AreConversionsFirst (without ws t)
