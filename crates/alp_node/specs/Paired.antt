-- How live parts, the transactions of this server and the joins of others' go together, whatever the vault tells.
use Rattle.std.specs.Prelude.{◌≡◌, ℕ, Bool, true, false, List, Option, None, Some, is_some}
use Rattle.std.specs.FinMap as map
use Rattle.alp_base.specs.declared.ids.JoinNo.{JoinNo}
use Rattle.alp_base.specs.declared.ids.TransId.{TransId}
use Rattle.alp_journal.specs.Coordinator.{Fate, client_of}
use Rattle.alp_coord.specs.declared.coordinator.Coordinator.{Coordinator}
use Rattle.alp_coord.specs.Coordinators.{fate_in}
use Rattle.alp_worker.specs.declared.joins.Joins.{Joins}
use Rattle.alp_worker.specs.declared.live.LiveJoin.{LiveJoin}
use Rattle.alp_worker.specs.declared.live.Stage.{Stage}
use Rattle.alp_worker.specs.declared.live.Stage.TheVariants as stage
use Rattle.alp_worker.specs.Again.{is_other}
use Rattle.alp_worker.specs.Lives.{join_at}
use Rattle.alp_node.specs.declared.lives.Live.{Live}
use Rattle.alp_node.specs.Totals.{LiveMap}

-- a join that was let in has a live part
abbrev pub is_in : Stage → Bool
is_in (stage.Joining who) = false
is_in (stage.Active who) = true
is_in (stage.Ready ts) = true

-- the part acts for the principal of its join, of which nothing is kept behind the vote
abbrev pub ActsFor : Stage → Option (List ℕ) → Type 0
ActsFor (stage.Active who) w = w ≡ Some who
ActsFor s w = Unit {0}

-- the live join of that number is of this part
abbrev pub IsItsJoin : TransId → Live → Option LiveJoin → Type 0
IsItsJoin t l None = ⊥
IsItsJoin t l (Some j) = (j.trans ≡ t) × (j.client ≡ l.client) × (is_in j.stage ≡ true) × ActsFor j.stage l.who

-- A part without a join is its client's, whose transaction is running or finishing here. One with a join is of a transaction that does neither.
abbrev pub IsPartOf : Joins → TransId → Live → Fate → Option JoinNo → Type 0
IsPartOf k t l f None = (client_of f ≡ Some l.client) × (is_some l.who ≡ true)
IsPartOf k t l f (Some j) = (client_of f ≡ None) × IsItsJoin t l (join_at k.lives j)

-- no part is live of a transaction that neither runs nor has a join here that was let in
abbrev pub IsPairedWith : Joins → TransId → Fate → Option Live → Type 0
IsPairedWith k t f None = client_of f ≡ None
IsPairedWith k t f (Some l) = IsPartOf k t l f l.join

-- its part is live
abbrev pub HasPart : LiveMap → JoinNo → LiveJoin → Type 0
HasPart lives j x = is_in x.stage ≡ true → (l : Live) × (map.get lives x.trans ≡ Some l) × (l.join ≡ Some j)

-- each transaction that is running or finishing began here, each part and each join that was let in go together, and each join is of another
-- server's transaction
pub record ArePaired (servers here : ℕ) (c : Coordinator) (k : Joins) (lives : LiveMap) : Type 0 where
  pub parts : (t : TransId) → IsPairedWith k t (fate_in c t) (map.get lives t)
  pub joins : (j : JoinNo) (x : LiveJoin) → join_at k.lives j ≡ Some x → HasPart lives j x
  pub others : (j : JoinNo) (x : LiveJoin) → join_at k.lives j ≡ Some x → is_other servers here x.trans.server ≡ true
  pub own : (t : TransId) (client : ℕ) → client_of (fate_in c t) ≡ Some client → t.server ≡ here
