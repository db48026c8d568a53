-- a lock table as a value
use Rattle.std.specs.Prelude.{◌≡◌, Bool, false, List, is_some, refl}
use Rattle.std.specs.Option.{unwrap_or}
use Rattle.std.specs.List.{list_all}
use Rattle.std.specs.Ordering.{eq_by_cmp}
use Rattle.std.specs.FinMap as map
use Rattle.std.specs.Coded.{Coded, code_by, coded×, coded_list}
use Rattle.alp_base.specs.declared.ids.TransId.{TransId}
use Rattle.alp_base.specs.contracts.ids.TransId as trans_type
use Rattle.alp_base.specs.Orders.{trans_cmp}
use Rattle.alp_files.specs.Holdings.{Holding, DoAgree}
use Rattle.alp_queue.specs.Rises.{Held}
use Rattle.alp_queue.specs.declared.waiter.Waiter.{Waiter}
use Rattle.alp_queue.specs.contracts.locks.Locks as locks_type
use Rattle.alp_queue.specs.contracts.waiter.Waiter as waiter_type

-- what each transaction holds that holds locks or waits
abbrev pub Holders : Type 0
Holders = map.FinMap trans_cmp Held

pub record Table : Type 0 where
  pub held : Holders
  -- the requests that wait, in the order in which they are tried
  pub waiting : List Waiter
  -- who was granted from the waiting list and not taken yet, in order
  pub woken : List TransId

abbrev pub holders_code : Coded Holders
holders_code = map.code trans_type.the_row.coded locks_type.the_row.coded

-- a table is stored as the three of it
abbrev pub table_code : Coded Table
table_code =
    code_by (Holders × (List Waiter × List TransId)) (coded× holders_code (coded× (coded_list waiter_type.the_row.coded) (coded_list trans_type.the_row.coded)))
    (λ t. (t.held, (t.waiting, t.woken))) (λ p. record { held = p.0; waiting = p.1.0; woken = p.1.1 }) (λ _. refl)

-- what a transaction holds, which is nothing where the table does not know it
abbrev pub held_of : Holders → TransId → Held
held_of holders t = unwrap_or (map.get holders t) map.empty

-- its mode on each resource
abbrev pub holding : Holders → TransId → Holding
holding holders t = map.get (held_of holders t)

-- the table knows whoever waits
abbrev pub are_known : Holders → List Waiter → Bool
are_known holders ws = list_all (λ w. is_some (map.get holders w.trans)) ws

-- any two transactions' locks agree on each resource
abbrev pub IsAgreeing : Holders → Type 0
IsAgreeing holders = (t u : TransId) → eq_by_cmp trans_cmp t u ≡ false → DoAgree (holding holders t) (holding holders u)
