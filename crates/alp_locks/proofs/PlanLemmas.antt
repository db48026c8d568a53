-- what a caller knows who enters a transaction, takes its plans and releases it
use Rattle.std.proofs.Common.{◌≡◌, true, false, cond, List, [], ◌∷◌, None, is_some, refl, sym, ap, ◌∙◌}
use Rattle.std.specs.Prelude.{nat_eq, length}
use Rattle.std.specs.Ordering.{eq_by_cmp}
use Rattle.std.specs.FinMap as map
use Rattle.alp_base.specs.declared.ids.TransId.{TransId}
use Rattle.alp_base.specs.declared.key.Resource.{Resource}
use Rattle.alp_modes.specs.declared.Mode.{Mode}
use Rattle.alp_base.specs.Orders.{trans_cmp}
use Rattle.alp_queue.specs.Rises.{Held}
use Rattle.alp_locks.specs.Tables.{Table, held_of, holding}
use Rattle.alp_locks.specs.Asks.{entered, with_granted}
use Rattle.alp_locks.specs.Releases.{released}
use Rattle.alp_locks.proofs.HeldLemmas.{insert-held, insert-keeps, insert-twice, remove-keeps}
use Rattle.alp_locks.proofs.ReleaseLemmas.{releases-alone, removed-holds}

-- a transaction that the table knows enters without a trace
pub entered-known : (t : Table) (u : TransId) → is_some (map.get t.held u) ≡ true → entered t u ≡ t
entered-known t u k = λ i. record t { held = insert-held t.held u k i }

-- where something rises it is all of what stands ready
pub granted-some : (t : Table) (u : TransId) (rises : List (Resource × Mode)) (after : Held) → nat_eq (length rises) 0 ≡ false
    → with_granted t u rises after ≡ record t { held = map.insert t.held u after }
granted-some t u [] after e = let wrong : true ≡ false = e in cc
granted-some t u (n ∷ ns) after e = refl

-- a grant leaves who waits and who was woken
pub granted-waiting : (t : Table) (u : TransId) (rises : List (Resource × Mode)) (after : Held) → (with_granted t u rises after).waiting ≡ t.waiting
granted-waiting t u [] after = refl
granted-waiting t u (n ∷ ns) after = refl

pub granted-woken : (t : Table) (u : TransId) (rises : List (Resource × Mode)) (after : Held) → (with_granted t u rises after).woken ≡ t.woken
granted-woken t u [] after = refl
granted-woken t u (n ∷ ns) after = refl

-- and the table knows whom it knew
pub granted-knows : (t : Table) (u : TransId) (rises : List (Resource × Mode)) (after : Held) (q : TransId) → is_some (map.get t.held q) ≡ true
    → is_some (map.get (with_granted t u rises after).held q) ≡ true
granted-knows t u [] after q k = k
granted-knows t u (n ∷ ns) after q k = insert-keeps t.held u after q k

-- to enter and then to be granted is to be granted, where something rises
pub entered-granted : (t : Table) (u : TransId) (rises : List (Resource × Mode)) (after : Held) → nat_eq (length rises) 0 ≡ false
    → with_granted (entered t u) u rises after ≡ with_granted t u rises after
entered-granted t u rises after e =
    granted-some (entered t u) u rises after e ∙ (λ i. record t { held = insert-twice t.held u (held_of t.held u) after i }) ∙ sym (granted-some t u rises after e)

-- ---- a release where nobody waits

pub release-holds : (t : Table) (u v : TransId) (r : Resource) → t.waiting ≡ [] → holding (released t u).held v r ≡ cond (eq_by_cmp trans_cmp v u) None (holding t.held v r)
release-holds t u v r none = ap (λ (x : Table). holding x.held v r) (releases-alone t u none) ∙ removed-holds t.held u v r

pub release-waiting : (t : Table) (u : TransId) → t.waiting ≡ [] → (released t u).waiting ≡ []
release-waiting t u none = ap (λ (x : Table). x.waiting) (releases-alone t u none) ∙ none

pub release-woken : (t : Table) (u : TransId) → t.waiting ≡ [] → (released t u).woken ≡ t.woken
release-woken t u none = ap (λ (x : Table). x.woken) (releases-alone t u none)

pub release-knows : (t : Table) (u q : TransId) → t.waiting ≡ [] → eq_by_cmp trans_cmp u q ≡ false → is_some (map.get t.held q) ≡ true
    → is_some (map.get (released t u).held q) ≡ true
release-knows t u q none apart k = ap (λ (x : Table). is_some (map.get x.held q)) (releases-alone t u none) ∙ remove-keeps t.held u q apart k
