-- one step of the walk
use Rattle.std.proofs.Common.{◌≡◌, ℕ, zero, suc, ◌+◌, ◌<◌, ◌≤◌, Bool, true, false, cond, List, [], ◌∷◌, ◌++◌, length, take, drop, remove, get_or, refl, sym, ap, ◌∙◌, arith}
use Rattle.std.specs.FinMap as map
use Rattle.std.proofs.lemmas.List.{drop_more, take_more, length-append}
use Rattle.alp_base.specs.declared.ids.TransId.{TransId}
use Rattle.alp_queue.specs.declared.waiter.Waiter.{Waiter}
use Rattle.alp_locks.specs.Tables.{Holders, Table}
use Rattle.alp_queue.specs.Order.{without}
use Rattle.alp_locks.specs.Releases.{is_free, with_woken, with_kept, walked, released}
use Rattle.alp_locks.proofs.HeldLemmas.{length-without}

pub take-removed : {X : Type 0} (xs : List X) (i : ℕ) → take i (remove xs i) ≡ take i xs
take-removed [] zero = refl
take-removed [] (suc i) = refl
take-removed (x ∷ xs) zero = refl
take-removed (x ∷ xs) (suc i) = ap (λ ys. x ∷ ys) (take-removed xs i)

drop-removed-suc : {X : Type 0} (xs : List X) (i : ℕ) → drop i (remove xs i) ≡ drop (suc i) xs
drop-removed-suc [] zero = refl
drop-removed-suc [] (suc i) = refl
drop-removed-suc (x ∷ xs) zero = refl
drop-removed-suc (x ∷ xs) (suc i) = drop-removed-suc xs i

pub drop-removed : {X : Type 0} (xs : List X) (i : ℕ) → drop i (remove xs i) ≡ drop (i + 1) xs
drop-removed xs i = let e : suc i ≡ i + 1 = omega arith in drop-removed-suc xs i ∙ ap (λ n. drop n xs) e

-- where the walk stands
abbrev pub from_here : Holders → List Waiter → List TransId → ℕ → Table
from_here holders qs vs i = walked (record { held = holders; waiting = take i qs; woken = vs }) (drop i qs)

at-here : (holders : Holders) (qs : List Waiter) (vs : List TransId) (i : ℕ) (w : Waiter) → i < length qs → get_or qs i w ≡ w
    → from_here holders qs vs i ≡ walked (record { held = holders; waiting = take i qs; woken = vs }) (w ∷ drop (i + 1) qs)
at-here holders qs vs i w within is =
    ap (walked (record { held = holders; waiting = take i qs; woken = vs })) (drop_more qs i w within ∙ ap (λ x. x ∷ drop (i + 1) qs) is)

pub walk-free : (holders : Holders) (qs : List Waiter) (vs : List TransId) (i : ℕ) (w : Waiter) → i < length qs → get_or qs i w ≡ w → is_free holders w ≡ true
    → from_here holders qs vs i ≡ from_here (map.insert holders w.trans w.after) (remove qs i) (vs ++ w.trans ∷ []) i
walk-free holders qs vs i w within is free =
    let before : Table = record { held = holders; waiting = take i qs; woken = vs } in
    let after : Table = record { held = map.insert holders w.trans w.after; waiting = take i qs; woken = vs ++ w.trans ∷ [] } in
    at-here holders qs vs i w within is
    ∙ ap (λ b. walked (cond b (with_woken before w) (with_kept before w)) (drop (i + 1) qs)) free
    ∙ ap (walked after) (sym (drop-removed qs i))
    ∙ ap (λ (ws : List Waiter). walked (record { held = map.insert holders w.trans w.after; waiting = ws; woken = vs ++ w.trans ∷ [] }) (drop i (remove qs i))) (sym (take-removed qs i))

pub walk-kept : (holders : Holders) (qs : List Waiter) (vs : List TransId) (i : ℕ) (w : Waiter) → i < length qs → get_or qs i w ≡ w → is_free holders w ≡ false
    → from_here holders qs vs i ≡ from_here holders qs vs (i + 1)
walk-kept holders qs vs i w within is free =
    let before : Table = record { held = holders; waiting = take i qs; woken = vs } in
    at-here holders qs vs i w within is
    ∙ ap (λ b. walked (cond b (with_woken before w) (with_kept before w)) (drop (i + 1) qs)) free
    ∙ ap (λ (ws : List Waiter). walked (record { held = holders; waiting = ws; woken = vs }) (drop (i + 1) qs))
    (ap (λ x. take i qs ++ x ∷ []) (sym is) ∙ sym (take_more qs i w within))

-- ---- how many wait and are woken

pub walked-length : (ws : List Waiter) (t : Table) → length (walked t ws).waiting + length (walked t ws).woken ≡ length t.waiting + length t.woken + length ws
walked-length [] t = omega arith
walked-length (w ∷ ws) t = go (is_free t.held w) (walked-length ws (with_woken t w)) (walked-length ws (with_kept t w))
  where
    go : (b : Bool) → length (walked (with_woken t w) ws).waiting + length (walked (with_woken t w) ws).woken ≡ length t.waiting + length (t.woken ++ w.trans ∷ []) + length ws
        → length (walked (with_kept t w) ws).waiting + length (walked (with_kept t w) ws).woken ≡ length (t.waiting ++ w ∷ []) + length t.woken + length ws
        → length (walked (cond b (with_woken t w) (with_kept t w)) ws).waiting + length (walked (cond b (with_woken t w) (with_kept t w)) ws).woken ≡ length t.waiting + length t.woken + suc (length ws)
    go true woken kept = let one : length (t.woken ++ w.trans ∷ []) ≡ length t.woken + 1 = length-append t.woken (w.trans ∷ []) in omega (arith, woken, one)
    go false woken kept = let one : length (t.waiting ++ w ∷ []) ≡ length t.waiting + 1 = length-append t.waiting (w ∷ []) in omega (arith, kept, one)

-- they are no more than waited and were woken before
pub released-length : (t : Table) (u : TransId) → length (released t u).waiting + length (released t u).woken ≤ length t.waiting + length t.woken
released-length t u =
    let walked_all = walked-length (without t.waiting u) (record { held = map.remove t.held u; waiting = []; woken = t.woken }) in
    let fewer : length (without t.waiting u) ≤ length t.waiting = length-without t.waiting u in
    omega (arith, walked_all, fewer)
