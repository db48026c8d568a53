-- who is named is the first in the way, and the least there
use Rattle.std.proofs.Math.Dec.{T}
use Rattle.std.proofs.Common.{◌≡◌, Bool, true, false, ◌&&◌, not, cond, List, [], ◌∷◌, Option, Some, None, option_map, refl, sym, ap, subst, ◌∙◌}
use Rattle.std.specs.List.{find}
use Rattle.std.specs.Option.{unwrap_or, option_or}
use Rattle.std.specs.declared.cmp.Ordering.{Ordering}
use Rattle.std.specs.declared.cmp.Ordering.TheVariants.{Less, Equal, Greater}
use Rattle.std.specs.Ordering.{eq_by_cmp, is_eq, is_lt}
use Rattle.std.specs.Cmp.{tied_itself}
use Rattle.std.specs.FinMap as map
use Rattle.std.specs.FinMap.{get-entries, entries_sorted, find as found}
use Rattle.std.specs.FinMap.Entries.{below_all}
use Rattle.alp_base.specs.declared.ids.TransId.{TransId}
use Rattle.alp_base.specs.declared.key.Resource.{Resource}
use Rattle.alp_modes.specs.declared.Mode.{Mode}
use Rattle.alp_base.specs.Orders.{trans_cmp, transactions_total, exact_transactions}
use Rattle.alp_files.specs.Holdings.{agree_held}
use Rattle.alp_queue.specs.Rises.{Held}
use Rattle.alp_locks.specs.Tables.{Holders}
use Rattle.alp_locks.specs.Asks.{disagrees, holder_on, blocker}
use Rattle.alp_locks.specs.Laws.{IsInWay, IsClear, IsFirstInWay, NamesFirst, NamesAny}
use Rattle.alp_locks.proofs.HeldLemmas.{tied}
use Rattle.alp_locks.proofs.FreeLemmas.{some-none, or-none, some-same, nothing-agrees, agrees-on}

first-true : (a b : Bool) → T (a && b) → T a
first-true true b h = tt
first-true false b h = absurd h

second-true : (a b : Bool) → T (a && b) → T b
second-true true b h = h
second-true false b h = absurd h

less : (o : Ordering) → T (is_lt o) → o ≡ Less
less Less h = refl
less Equal h = absurd h
less Greater h = absurd h

-- a key below each of a list is not in it
below-none : (v : TransId) (es : List (TransId × Held)) → T (below_all trans_cmp v es) → found trans_cmp v es ≡ None
below-none v [] h = refl
below-none v (e ∷ es) h =
    ap (λ (o : Ordering). cond (is_eq o) (Some e.1) (found trans_cmp v es)) (less (trans_cmp v e.0) (first-true (is_lt (trans_cmp v e.0)) (below_all trans_cmp v es) h))
    ∙ below-none v es (second-true (is_lt (trans_cmp v e.0)) (below_all trans_cmp v es) h)

below-less : (v u : TransId) (es : List (TransId × Held)) → trans_cmp v u ≡ Less → T (below_all trans_cmp u es) → T (below_all trans_cmp v es)
below-less v u [] p h = tt
below-less v u (e ∷ es) p h =
    go (trans_cmp v e.0) (transactions_total.trans v u e.0 p (less (trans_cmp u e.0) (first-true (is_lt (trans_cmp u e.0)) (below_all trans_cmp u es) h)))
    (below-less v u es p (second-true (is_lt (trans_cmp u e.0)) (below_all trans_cmp u es) h))
  where
    go : (o : Ordering) → o ≡ Less → T (below_all trans_cmp v es) → T (is_lt o && below_all trans_cmp v es)
    go Less e t = t
    go Equal e t = cc
    go Greater e t = cc

-- what is found first in a list that rises is there, passes, and is the least that does
record IsLeastFound (p : TransId × Held → Bool) (es : List (TransId × Held)) (u : TransId) : Type 0 where
  locks : Held
  here : found trans_cmp u es ≡ Some locks
  passes : p (u, locks) ≡ true
  least : (v : TransId) (k : Held) → found trans_cmp v es ≡ Some k → p (v, k) ≡ true → trans_cmp v u ≡ Less → ⊥

least-found : (p : TransId × Held → Bool) (es : List (TransId × Held)) → T (map.is_sorted trans_cmp es) → (u : TransId)
    → option_map (λ (e : TransId × Held). e.0) (find p es) ≡ Some u → IsLeastFound p es u
least-found p [] sorted u h = absurd (some-none u (sym h))
least-found p (e ∷ es) sorted u h = go (p e) refl h (least-found p es (second-true (below_all trans_cmp e.0 es) (map.is_sorted trans_cmp es) sorted) u)
  where
    low : T (below_all trans_cmp e.0 es)
    low = first-true (below_all trans_cmp e.0 es) (map.is_sorted trans_cmp es) sorted

    first : p e ≡ true → IsLeastFound p (e ∷ es) e.0
    first passed = record {
      locks = e.1;
      here = ap (λ (o : Ordering). cond (is_eq o) (Some e.1) (found trans_cmp e.0 es)) (tied_itself transactions_total e.0);
      passes = passed;
      least = λ v k at pass before.
          let gone : found trans_cmp v (e ∷ es) ≡ None =
          ap (λ (o : Ordering). cond (is_eq o) (Some e.1) (found trans_cmp v es)) before ∙ below-none v es (below-less v e.0 es before low) in
          some-none k (sym at ∙ gone);
    }

    later : p e ≡ false → IsLeastFound p es u → IsLeastFound p (e ∷ es) u
    later not_yet rest = record {
      locks = rest.locks;
      here = other (eq_by_cmp trans_cmp u e.0) refl;
      passes = rest.passes;
      least = λ v k at pass before. behind v k (eq_by_cmp trans_cmp v e.0) refl at pass before;
    }
      where
        other : (b : Bool) → eq_by_cmp trans_cmp u e.0 ≡ b → cond b (Some e.1) (found trans_cmp u es) ≡ Some rest.locks
        other true at =
            let same : u ≡ e.0 = exact_transactions u e.0 (tied (trans_cmp u e.0) at) in
            absurd (some-none rest.locks (sym rest.here ∙ ap (λ x. found trans_cmp x es) same ∙ below-none e.0 es low))
        other false at = rest.here

        behind : (v : TransId) (k : Held) (b : Bool) → eq_by_cmp trans_cmp v e.0 ≡ b → cond b (Some e.1) (found trans_cmp v es) ≡ Some k → p (v, k) ≡ true → trans_cmp v u ≡ Less → ⊥
        behind v k true same at pass before =
            let it : e ≡ (v, k) = λ i. (sym (exact_transactions v e.0 (tied (trans_cmp v e.0) same)) i, some-same e.1 k at i) in
            let wrong : true ≡ false = sym pass ∙ sym (ap p it) ∙ not_yet in cc
        behind v k false same at pass before = rest.least v k at pass before

    go : (b : Bool) → p e ≡ b → option_map (λ (x : TransId × Held). x.0) (cond b (Some e) (find p es)) ≡ Some u
        → (option_map (λ (x : TransId × Held). x.0) (find p es) ≡ Some u → IsLeastFound p es u) → IsLeastFound p (e ∷ es) u
    go true passed at rest = subst (IsLeastFound p (e ∷ es)) (some-same e.0 u at) (first passed)
    go false passed at rest = later passed (rest at)

-- ---- from entries to what is held

test-holders : (a b : Bool) → (not a && not b) ≡ true → (a ≡ false) × (b ≡ false)
test-holders true b h = cc
test-holders false true h = cc
test-holders false false h = (refl, refl)

test-whole : (a b : Bool) → a ≡ false → b ≡ false → (not a && not b) ≡ true
test-whole true b h k = cc
test-whole false true h k = cc
test-whole false false h k = refl

-- who is in the way holds locks
has-locks : (holders : Holders) (t : TransId) (n : Resource × Mode) (v : TransId) → IsInWay holders t n v
    → (k : Held) × (found trans_cmp v (map.entries holders) ≡ Some k) × (disagrees t n (v, k) ≡ true)
has-locks holders t n v h = go (found trans_cmp v (map.entries holders)) refl
    (sym (ap (λ (o : Option Held). agree_held (map.get (unwrap_or o map.empty) n.0) (Some n.1)) (get-entries holders v)) ∙ h.1)
  where
    go : (o : Option Held) → found trans_cmp v (map.entries holders) ≡ o → agree_held (map.get (unwrap_or o map.empty) n.0) (Some n.1) ≡ false
        → (k : Held) × (found trans_cmp v (map.entries holders) ≡ Some k) × (disagrees t n (v, k) ≡ true)
    go None at wrong = let clash : true ≡ false = sym (nothing-agrees n.0 n.1) ∙ wrong in cc
    go (Some k) at away = (k, at, test-whole (eq_by_cmp trans_cmp t v) (agree_held (map.get k n.0) (Some n.1)) h.0 away)

least-on : (holders : Holders) (t : TransId) (n : Resource × Mode) (u : TransId) → holder_on holders t n ≡ Some u
    → IsInWay holders t n u × ((v : TransId) → IsInWay holders t n v → trans_cmp v u ≡ Less → ⊥)
least-on holders t n u h =
    let it = least-found (disagrees t n) (map.entries holders) (entries_sorted holders) u h in
    let both = test-holders (eq_by_cmp trans_cmp t u) (agree_held (map.get it.locks n.0) (Some n.1)) it.passes in (
      (both.0, ap (λ (o : Option Held). agree_held (map.get (unwrap_or o map.empty) n.0) (Some n.1)) (get-entries holders u ∙ it.here) ∙ both.1),
      λ v way before. let its = has-locks holders t n v way in it.least v its.0 its.1 its.2 before,
    )

clear-on : (holders : Holders) (t : TransId) (n : Resource × Mode) → holder_on holders t n ≡ None → IsClear holders t n
clear-on holders t n h v way = let wrong : true ≡ false = sym (agrees-on holders t n h v way.0) ∙ way.1 in cc

pub names-any : NamesAny
names-any holders t [] h = tt
names-any holders t (n ∷ ns) h = let both = or-none (holder_on holders t n) (blocker holders t ns) h in (clear-on holders t n both.0, names-any holders t ns both.1)

pub names-first : NamesFirst
names-first holders t [] u h = absurd (some-none u (sym h))
names-first holders t (n ∷ ns) u h = go (holder_on holders t n) refl h (names-first holders t ns u)
  where
    here : holder_on holders t n ≡ Some u → IsFirstInWay holders t (n ∷ ns) u
    here at = let it = least-on holders t n u at in record { before = []; need = n; after = ns; whole = refl; clear = tt; inway = it.0; least = it.1 }

    later : holder_on holders t n ≡ None → IsFirstInWay holders t ns u → IsFirstInWay holders t (n ∷ ns) u
    later none rest = record {
      before = n ∷ rest.before;
      need = rest.need;
      after = rest.after;
      whole = ap (λ ms. n ∷ ms) rest.whole;
      clear = (clear-on holders t n none, rest.clear);
      inway = rest.inway;
      least = rest.least;
    }

    go : (o : Option TransId) → holder_on holders t n ≡ o → option_or o (blocker holders t ns) ≡ Some u
        → (blocker holders t ns ≡ Some u → IsFirstInWay holders t ns u) → IsFirstInWay holders t (n ∷ ns) u
    go None at h rest = later at (rest h)
    go (Some v) at h rest = here (at ∙ h)
