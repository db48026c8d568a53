-- the order in which waiters are tried
use Rattle.std.specs.Prelude.{◌≡◌, ℕ, Bool, ◌&&◌, not, cond, List, [], ◌∷◌, ◌++◌}
use Rattle.std.specs.List.{list_any, filter, position_or_len}
use Rattle.std.specs.Ordering.{eq_by_cmp}
use Rattle.alp_base.specs.declared.ids.TransId.{TransId}
use Rattle.alp_base.specs.Orders.{trans_cmp}
use Rattle.alp_queue.specs.declared.waiter.Waiter.{Waiter}

-- a new waiter comes behind those of its kind: a conversion goes before the first that is none
abbrev pub placed : List Waiter → Waiter → List Waiter
placed [] w = w ∷ []
placed (x ∷ xs) w = cond (w.converts && not x.converts) (w ∷ x ∷ xs) (x ∷ placed xs w)

-- the place among the waiters of one that converts, or of one that does not
abbrev pub place_in : List Waiter → Bool → ℕ
place_in ws b = position_or_len (λ w. b && not w.converts) ws

abbrev pub is_of : TransId → Waiter → Bool
is_of t w = eq_by_cmp trans_cmp t w.trans

-- a request of that transaction waits
abbrev pub waits : List Waiter → TransId → Bool
waits ws t = list_any (is_of t) ws

-- the waiters that are not that transaction's
abbrev pub without : List Waiter → TransId → List Waiter
without ws t = filter (λ w. not (is_of t w)) ws

-- the waiters, with more who came in that order
abbrev pub in_line : List Waiter → List Waiter → List Waiter
in_line ws [] = ws
in_line ws (x ∷ xs) = in_line (placed ws x) xs

-- who came are tried conversions first, and those of each kind as they came
abbrev pub IsByArrival : Type 0
IsByArrival = (arrived : List Waiter) → in_line [] arrived ≡ filter (λ w. w.converts) arrived ++ filter (λ w. not w.converts) arrived
