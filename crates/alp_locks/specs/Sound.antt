-- what holds of each table that the calls make
use Rattle.std.specs.Prelude.{◌≡◌, false, List, [], ◌∷◌}
use Rattle.std.specs.List.{AllByRecursion}
use Rattle.alp_queue.specs.declared.waiter.Waiter.{Waiter}
use Rattle.alp_queue.specs.Order.{is_of}
use Rattle.alp_queue.specs.Conversions.{AreConversionsFirst}
use Rattle.alp_locks.specs.Tables.{Holders, Table, held_of, IsAgreeing}
use Rattle.alp_locks.specs.Asks.{waiter_of}

-- a waiter is tried by what its transaction holds and asked for
abbrev pub IsPrepared : Holders → Waiter → Type 0
IsPrepared holders w = w ≡ waiter_of (held_of holders w.trans) w.trans w.needs

-- no two waiters are of one transaction
abbrev pub AreApart : List Waiter → Type 0
AreApart [] = Unit {0}
AreApart (w ∷ ws) = AllByRecursion (λ v. is_of w.trans v ≡ false) ws × AreApart ws

-- Locks agree, and those who wait are ready to be tried, each transaction once, conversions first and the others
-- behind them.
pub record IsSound (t : Table) : Type 0 where
  pub agreeing : IsAgreeing t.held
  pub prepared : AllByRecursion (IsPrepared t.held) t.waiting
  pub apart : AreApart t.waiting
  pub conversions : AreConversionsFirst t.waiting
