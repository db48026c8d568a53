-- what a release leaves to those who wait, and what it gives to those whom it wakes
use Rattle.std.proofs.Common.{◌≡◌, Bool, true, false, not, cond, List, [], ◌∷◌, ◌++◌, None, is_some, filter, refl, sym, ap, subst, ◌∙◌}
use Rattle.std.specs.List.{AllByRecursion}
use Rattle.std.specs.Ordering.{eq_by_cmp}
use Rattle.std.specs.FinMap as map
use Rattle.std.specs.FinMap.{get-empty}
use Rattle.std.proofs.lemmas.List.{append_assoc}
use Rattle.alp_base.specs.declared.ids.TransId.{TransId}
use Rattle.alp_base.specs.declared.key.Resource.{Resource}
use Rattle.alp_modes.specs.declared.Mode.{Mode}
use Rattle.alp_base.specs.Orders.{trans_cmp, resource_cmp}
use Rattle.alp_queue.specs.Order.{without, is_of}
use Rattle.alp_queue.specs.Rises.{Held}
use Rattle.alp_queue.specs.declared.waiter.Waiter.{Waiter}
use Rattle.alp_locks.specs.Tables.{Table, Holders, held_of, holding}
use Rattle.alp_locks.specs.Releases.{is_free, with_woken, with_kept, walked, released}
use Rattle.alp_locks.specs.Sound.{IsSound, AreApart}
use Rattle.alp_locks.proofs.HeldLemmas.{insert-keeps, remove-keeps}
use Rattle.alp_locks.proofs.FreeLemmas.{held-same, held-other}
use Rattle.alp_locks.proofs.SoundLemmas.{apart-filter, apart-middle, each-filter, passing, held-gone, held-removed}

-- with no one woken the table is as sound
pub taken-sound : (t : Table) → IsSound t → IsSound (record t { woken = [] })
taken-sound t s = record { agreeing = s.agreeing; prepared = s.prepared; apart = s.apart; conversions = s.conversions }

-- ---- whoever goes on waiting was waiting

each-more-one : {X : Type 0} (P : X → Type 0) (xs : List X) (x : X) → AllByRecursion P xs → P x → AllByRecursion P (xs ++ x ∷ [])
each-more-one P [] x h k = (k, tt)
each-more-one P (y ∷ ys) x h k = (h.0, each-more-one P ys x h.1 k)

pub walked-each : (P : Waiter → Type 0) (ws : List Waiter) (t : Table) → AllByRecursion P t.waiting → AllByRecursion P ws → AllByRecursion P (walked t ws).waiting
walked-each P [] t h all = h
walked-each P (w ∷ ws) t h all = go (is_free t.held w) (walked-each P ws (with_woken t w) h all.1) (walked-each P ws (with_kept t w) (each-more-one P t.waiting w h all.0) all.1)
  where
    go : (b : Bool) → AllByRecursion P (walked (with_woken t w) ws).waiting → AllByRecursion P (walked (with_kept t w) ws).waiting → AllByRecursion P (walked (cond b (with_woken t w) (with_kept t w)) ws).waiting
    go true a b = a
    go false a b = b

both-of : {X : Type 0} (P Q : X → Type 0) (xs : List X) → AllByRecursion P xs → AllByRecursion Q xs → AllByRecursion (λ x. P x × Q x) xs
both-of P Q [] h k = tt
both-of P Q (x ∷ xs) h k = ((h.0, k.0), both-of P Q xs h.1 k.1)

-- and is not of the transaction that was released
pub released-each : (P : Waiter → Type 0) (t : Table) (u : TransId) → AllByRecursion P t.waiting → AllByRecursion (λ w. P w × (not (is_of u w) ≡ true)) (released t u).waiting
released-each P t u h =
    walked-each (λ w. P w × (not (is_of u w) ≡ true)) (without t.waiting u) (record { held = map.remove t.held u; waiting = []; woken = t.woken }) tt
    (both-of P (λ w. not (is_of u w) ≡ true) (without t.waiting u) (each-filter P (λ w. not (is_of u w)) t.waiting h) (passing (λ w. not (is_of u w)) t.waiting))

-- ---- who is known stays so

pub walked-knows : (ws : List Waiter) (t : Table) (q : TransId) → is_some (map.get t.held q) ≡ true → is_some (map.get (walked t ws).held q) ≡ true
walked-knows [] t q k = k
walked-knows (w ∷ ws) t q k = go (is_free t.held w) (walked-knows ws (with_woken t w) q (insert-keeps t.held w.trans w.after q k)) (walked-knows ws (with_kept t w) q k)
  where
    go : (b : Bool) → is_some (map.get (walked (with_woken t w) ws).held q) ≡ true → is_some (map.get (walked (with_kept t w) ws).held q) ≡ true
        → is_some (map.get (walked (cond b (with_woken t w) (with_kept t w)) ws).held q) ≡ true
    go true a b = a
    go false a b = b

pub released-knows : (t : Table) (u q : TransId) → eq_by_cmp trans_cmp u q ≡ false → is_some (map.get t.held q) ≡ true → is_some (map.get (released t u).held q) ≡ true
released-knows t u q apart k = walked-knows (without t.waiting u) (record { held = map.remove t.held u; waiting = []; woken = t.woken }) q (remove-keeps t.held u q apart k)

-- ---- what nobody holds or waits for nobody holds then

abbrev pub LocksNone : Resource → Waiter → Type 0
LocksNone r w = map.get w.after r ≡ None

insert-none : (holders : Holders) (t : TransId) (h : Held) (r : Resource) → ((u : TransId) → holding holders u r ≡ None) → map.get h r ≡ None → (u : TransId) → holding (map.insert holders t h) u r ≡ None
insert-none holders t h r none new u = go (eq_by_cmp trans_cmp u t) refl
  where
    go : (b : Bool) → eq_by_cmp trans_cmp u t ≡ b → holding (map.insert holders t h) u r ≡ None
    go true e = ap (λ (x : Held). map.get x r) (held-same holders t h u e) ∙ new
    go false e = ap (λ (x : Held). map.get x r) (held-other holders t h u e) ∙ none u

pub walked-none : (r : Resource) (ws : List Waiter) (t : Table) → ((u : TransId) → holding t.held u r ≡ None) → AllByRecursion (LocksNone r) ws → (u : TransId) → holding (walked t ws).held u r ≡ None
walked-none r [] t none all = none
walked-none r (w ∷ ws) t none all = go (is_free t.held w) (walked-none r ws (with_woken t w) (insert-none t.held w.trans w.after r none all.0) all.1) (walked-none r ws (with_kept t w) none all.1)
  where
    go : (b : Bool) → ((u : TransId) → holding (walked (with_woken t w) ws).held u r ≡ None) → ((u : TransId) → holding (walked (with_kept t w) ws).held u r ≡ None)
        → (u : TransId) → holding (walked (cond b (with_woken t w) (with_kept t w)) ws).held u r ≡ None
    go true a b = a
    go false a b = b

remove-none : (holders : Holders) (t : TransId) (r : Resource) → ((u : TransId) → holding holders u r ≡ None) → (u : TransId) → holding (map.remove holders t) u r ≡ None
remove-none holders t r none u = go (eq_by_cmp trans_cmp u t) refl
  where
    go : (b : Bool) → eq_by_cmp trans_cmp u t ≡ b → holding (map.remove holders t) u r ≡ None
    go true e = ap (λ (x : Held). map.get x r) (held-gone holders t u e) ∙ get-empty resource_cmp r
    go false e = ap (λ (x : Held). map.get x r) (held-removed holders t u e) ∙ none u

pub released-none : (r : Resource) (t : Table) (u : TransId) → ((v : TransId) → holding t.held v r ≡ None) → AllByRecursion (LocksNone r) t.waiting → (v : TransId) → holding (released t u).held v r ≡ None
released-none r t u none all =
    walked-none r (without t.waiting u) (record { held = map.remove t.held u; waiting = []; woken = t.woken }) (remove-none t.held u r none) (each-filter (LocksNone r) (λ w. not (is_of u w)) t.waiting all)

-- ---- whoever goes on waiting was not woken

abbrev pub IsNoneOf : List TransId → Waiter → Type 0
IsNoneOf ts w = AllByRecursion (λ (t : TransId). is_of t w ≡ false) ts

none-more : (ts : List TransId) (t : TransId) (ws : List Waiter) → AllByRecursion (IsNoneOf ts) ws → AllByRecursion (λ w. is_of t w ≡ false) ws → AllByRecursion (IsNoneOf (ts ++ t ∷ [])) ws
none-more ts t [] h k = tt
none-more ts t (w ∷ ws) h k = (each-more-one (λ (u : TransId). is_of u w ≡ false) ts t h.0 k.0, none-more ts t ws h.1 k.1)

each-part : {X : Type 0} (P : X → Type 0) (xs ys : List X) → AllByRecursion P (xs ++ ys) → AllByRecursion P xs × AllByRecursion P ys
each-part P [] ys h = (tt, h)
each-part P (x ∷ xs) ys h = let rest = each-part P xs ys h.1 in ((h.0, rest.0), rest.1)

each-joined : {X : Type 0} (P : X → Type 0) (xs ys : List X) → AllByRecursion P xs → AllByRecursion P ys → AllByRecursion P (xs ++ ys)
each-joined P [] ys h k = k
each-joined P (x ∷ xs) ys h k = (h.0, each-joined P xs ys h.1 k)

pub walked-others : (ws : List Waiter) (t : Table) → AreApart (t.waiting ++ ws) → AllByRecursion (IsNoneOf t.woken) (t.waiting ++ ws) → AllByRecursion (IsNoneOf (walked t ws).woken) (walked t ws).waiting
walked-others [] t apart none = (each-part (IsNoneOf t.woken) t.waiting [] none).0
walked-others (w ∷ ws) t apart none =
    let parts = each-part (IsNoneOf t.woken) t.waiting (w ∷ ws) none in
    let others = apart-middle t.waiting w ws apart in
    let kept : t.waiting ++ w ∷ ws ≡ (t.waiting ++ w ∷ []) ++ ws = sym (append_assoc t.waiting (w ∷ []) ws) in
    go (is_free t.held w)
    (walked-others ws (with_woken t w) others.1 (none-more t.woken w.trans (t.waiting ++ ws) (each-joined (IsNoneOf t.woken) t.waiting ws parts.0 parts.1.1) others.0))
    (walked-others ws (with_kept t w) (subst AreApart kept apart) (subst (AllByRecursion (IsNoneOf t.woken)) kept none))
  where
    go : (b : Bool) → AllByRecursion (IsNoneOf (walked (with_woken t w) ws).woken) (walked (with_woken t w) ws).waiting → AllByRecursion (IsNoneOf (walked (with_kept t w) ws).woken) (walked (with_kept t w) ws).waiting
        → AllByRecursion (IsNoneOf (walked (cond b (with_woken t w) (with_kept t w)) ws).woken) (walked (cond b (with_woken t w) (with_kept t w)) ws).waiting
    go true a b = a
    go false a b = b

none-of-none : (ws : List Waiter) → AllByRecursion (IsNoneOf []) ws
none-of-none [] = tt
none-of-none (w ∷ ws) = (tt, none-of-none ws)

pub released-others : (t : Table) (u : TransId) → t.woken ≡ [] → AreApart t.waiting → AllByRecursion (IsNoneOf (released t u).woken) (released t u).waiting
released-others t u none apart =
    walked-others (without t.waiting u) (record { held = map.remove t.held u; waiting = []; woken = t.woken }) (apart-filter (λ w. not (is_of u w)) t.waiting apart)
    (subst (λ (ts : List TransId). AllByRecursion (IsNoneOf ts) (without t.waiting u)) (sym none) (none-of-none (without t.waiting u)))
