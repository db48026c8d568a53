-- what grants and releases mean for what is held and who waits
use Rattle.std.specs.Prelude.{◌≡◌, Bool, true, false, ◌&&◌, cond, ◌⊎◌, List, [], ◌∷◌, ◌++◌, map as list_map, Option, Some, None}
use Rattle.std.specs.List.{AllByRecursion}
use Rattle.std.specs.FinMap as map
use Rattle.std.specs.declared.cmp.Ordering.TheVariants.{Less}
use Rattle.std.specs.Ordering.{eq_by_cmp}
use Rattle.alp_base.specs.declared.ids.TransId.{TransId}
use Rattle.alp_base.specs.declared.key.Resource.{Resource}
use Rattle.alp_modes.specs.declared.Mode.{Mode}
use Rattle.alp_base.specs.Orders.{trans_cmp}
use Rattle.alp_files.specs.Holdings.{DoAgree, join_held, agree_held, held_by}
use Rattle.alp_queue.specs.declared.waiter.Waiter.{Waiter}
use Rattle.alp_locks.specs.declared.request.Request.{Request}
use Rattle.alp_locks.specs.declared.request.Grant.{Grant}
use Rattle.alp_locks.specs.declared.request.Grant.TheVariants.{Granted, Conflict, Queued}
use Rattle.alp_locks.specs.Tables.{Holders, Table, held_of, holding}
use Rattle.alp_locks.specs.Asks.{blocker, grant_of, entered, with_granted, asked}
use Rattle.alp_queue.specs.Order.{without}
use Rattle.alp_locks.specs.Releases.{is_free, with_woken, released}
use Rattle.alp_locks.specs.Sound.{IsPrepared, IsSound}

abbrev pub gives_all : Grant → Bool
gives_all Granted = true
gives_all (Conflict u) = false
gives_all Queued = false

-- on each resource, the asker holds what it held joined with all that it asked, where that is granted, and else what it
-- held; and the others what they held
abbrev pub IsAllOrNone : Type 0
IsAllOrNone = (t : Table) (q : Request) (u : TransId) (r : Resource)
    → holding (asked t q).held u r ≡ cond (eq_by_cmp trans_cmp u q.trans && gives_all (grant_of t q)) (join_held (holding t.held u r) (held_by q.needs r)) (holding t.held u r)

-- the same where a waiter is granted
abbrev pub IsAllOfWaiter : Type 0
IsAllOfWaiter = (t : Table) (w : Waiter) (u : TransId) (r : Resource) → IsPrepared t.held w
    → holding (with_woken t w).held u r ≡ cond (eq_by_cmp trans_cmp u w.trans) (join_held (holding t.held u r) (held_by w.needs r)) (holding t.held u r)

-- the same where a plan is taken
abbrev pub IsAllOfPlan : Type 0
IsAllOfPlan = (t : Table) (w : Waiter) (u : TransId) (r : Resource) → IsPrepared t.held w
    → holding (with_granted t w.trans w.rises w.after).held u r ≡ cond (eq_by_cmp trans_cmp u w.trans) (join_held (holding t.held u r) (held_by w.needs r)) (holding t.held u r)

-- where a transaction enters, each holds what it held
abbrev pub EnteringKeepsHeld : Type 0
EnteringKeepsHeld = (t : Table) (u v : TransId) → held_of (entered t u).held v ≡ held_of t.held v

-- another transaction, whose mode on a resource does not agree with that one
abbrev pub IsInWay : Holders → TransId → Resource × Mode → TransId → Type 0
IsInWay holders t n u = (eq_by_cmp trans_cmp t u ≡ false) × (agree_held (holding holders u n.0) (Some n.1) ≡ false)

abbrev pub IsClear : Holders → TransId → Resource × Mode → Type 0
IsClear holders t n = (v : TransId) → IsInWay holders t n v → ⊥

-- the holder is in the way on one resource, none is on an earlier one, and none that is on it is less
pub record IsFirstInWay (holders : Holders) (t : TransId) (ns : List (Resource × Mode)) (u : TransId) : Type 0 where
  pub before : List (Resource × Mode)
  pub need : Resource × Mode
  pub after : List (Resource × Mode)
  pub whole : ns ≡ before ++ need ∷ after
  pub clear : AllByRecursion (IsClear holders t) before
  pub inway : IsInWay holders t need u
  pub least : (v : TransId) → IsInWay holders t need v → trans_cmp v u ≡ Less → ⊥

-- who is named is the first and least in the way, and where nobody is named nobody is in the way
abbrev pub NamesFirst : Type 0
NamesFirst = (holders : Holders) (t : TransId) (ns : List (Resource × Mode)) (u : TransId) → blocker holders t ns ≡ Some u → IsFirstInWay holders t ns u

abbrev pub NamesAny : Type 0
NamesAny = (holders : Holders) (t : TransId) (ns : List (Resource × Mode)) → blocker holders t ns ≡ None → AllByRecursion (IsClear holders t) ns

-- ---- after a restart

-- Who stands in the way of a list of locks is another transaction, whose locks do not agree with it. Where nobody does, it agrees
-- with what each other one holds.
abbrev pub AgreesUnless : Holders → TransId → List (Resource × Mode) → Option TransId → Type 0
AgreesUnless holders t ns None = (u : TransId) → eq_by_cmp trans_cmp t u ≡ false → DoAgree (held_by ns) (holding holders u)
AgreesUnless holders t ns (Some u) = (eq_by_cmp trans_cmp t u ≡ false) × (DoAgree (held_by ns) (holding holders u) → ⊥)

-- ---- releases

-- waiters in two lists, each in its order
abbrev pub AreParted : List Waiter → List Waiter → List Waiter → Type 0
AreParted [] some others = (some ≡ []) × (others ≡ [])
AreParted (w ∷ ws) some others = ((more : List Waiter) × (some ≡ w ∷ more) × AreParted ws more others) ⊎ ((more : List Waiter) × (others ≡ w ∷ more) × AreParted ws some more)

-- The released transaction's request is gone. Of the other waiters some are granted and woken, in their order, and the
-- others go on waiting in theirs. Whoever is not granted holds what it held, and the released transaction nothing.
pub record IsRelease (t : Table) (u : TransId) (after : Table) : Type 0 where
  pub granted : List Waiter
  pub parted : AreParted (without t.waiting u) granted after.waiting
  pub woken : after.woken ≡ t.woken ++ list_map (λ w. w.trans) granted
  pub others : (v : TransId) (r : Resource) → AllByRecursion (λ w. eq_by_cmp trans_cmp v w.trans ≡ false) granted
      → holding after.held v r ≡ cond (eq_by_cmp trans_cmp v u) None (holding t.held v r)

abbrev pub ReleasesInOrder : Type 0
ReleasesInOrder = (t : Table) (u : TransId) → IsRelease t u (released t u)

-- nobody is left waiting who is free
abbrev pub LeavesNoneFree : Type 0
LeavesNoneFree = (t : Table) (u : TransId) → IsSound t → AllByRecursion (λ w. is_free (released t u).held w ≡ false) (released t u).waiting

-- where nobody waits the transaction's locks go, and nothing else
abbrev pub ReleasesAlone : Type 0
ReleasesAlone = (t : Table) (u : TransId) → t.waiting ≡ [] → released t u ≡ record t { held = map.remove t.held u }
