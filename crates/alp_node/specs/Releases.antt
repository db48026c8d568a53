-- What a server keeps where a transaction lets its locks go, and others get theirs.
use Rattle.std.specs.Prelude.{ℕ, List, [], ◌∷◌, Option, None, Some, map as list_map}
use Rattle.std.specs.FinMap as map
use Rattle.alp_base.specs.declared.ids.TransId.{TransId}
use Rattle.alp_journal.specs.declared.act.Act.{Act}
use Rattle.alp_journal.specs.declared.act.Act.TheVariants as act
use Rattle.alp_locks.specs.Asks.{entered}
use Rattle.alp_locks.specs.Releases.{released}
use Rattle.alp_node.specs.Totals.{LiveMap}
use Rattle.alp_node.specs.Dead.{without_client}
use Rattle.alp_node.specs.Waits.{locks_of, grant_of, without_dead, live_calls}
use Rattle.alp_node.specs.declared.lives.Live.{Live}
use Rattle.alp_node.specs.declared.server_state.ServerState.{ServerState}

-- the transaction has so many resources locked, if it is live
abbrev pub lock_if : LiveMap → TransId → ℕ → Option Live → LiveMap
lock_if m t n None = m
lock_if m t n (Some l) = map.insert m t (record l { locks = n })

abbrev pub with_locks : LiveMap → TransId → ℕ → LiveMap
with_locks m t n = lock_if m t n (map.get m t)

-- the waiting call of the transaction has its locks
abbrev pub granted_if : {V : Type 0} → ServerState V → TransId → Option ℕ → ServerState V
granted_if k t None = k
granted_if k t (Some n) = record k { waits = grant_of t k.waits; lives = with_locks k.lives t n }

abbrev pub granted_one : {V : Type 0} → ServerState V → TransId → ServerState V
granted_one k t = granted_if k t (locks_of t k.waits)

-- and so those of all these
abbrev pub granted_all : {V : Type 0} → ServerState V → List TransId → ServerState V
granted_all k [] = k
granted_all k (t ∷ ts) = granted_all (granted_one k t) ts

-- those that were woken have their locks
abbrev pub woken_taken : {V : Type 0} → ServerState V → ServerState V
woken_taken k = granted_all (record k { locks = record (k.locks) { woken = [] } }) k.locks.woken

-- the transaction is live, and holds no lock
abbrev pub with_trans : {V : Type 0} → ServerState V → TransId → Live → ServerState V
with_trans k t l = record k { lives = map.insert k.lives t l; locks = entered k.locks t }

-- the transaction is live no more, and its locks are gone
abbrev pub without_trans : {V : Type 0} → ServerState V → TransId → ServerState V
without_trans k t = record k { lives = map.remove k.lives t; locks = released k.locks t }

-- and those who are free then have theirs
abbrev pub let_go : {V : Type 0} → ServerState V → TransId → ServerState V
let_go k t = woken_taken (without_trans k t)

-- who is granted then, in turn
abbrev pub granted_behind : {V : Type 0} → ServerState V → TransId → List TransId
granted_behind k t = (released k.locks t).woken

-- nothing of the client's dead parts is known any more, and no call of one
abbrev pub buried : {V : Type 0} → ServerState V → ℕ → ServerState V
buried k client = record k { waits = without_dead client k.dead k.waits; dead = without_client client k.dead }

-- nor any other call of the client that is of no live part
abbrev pub cleared : {V : Type 0} → ServerState V → ℕ → ServerState V
cleared k client = record k { waits = live_calls client k.coordinator k.joins (without_dead client k.dead k.waits); dead = without_client client k.dead }

-- the acts of these grants
abbrev pub grant_acts : List TransId → List Act
grant_acts ts = list_map (λ (t : TransId). act.Granted t) ts
