-- what the table knows of those who wait, and what a part holds
use Rattle.std.proofs.Common.{◌≡◌, ℕ, zero, suc, ◌<◌, ◌≤◌, Bool, true, false, ◌&&◌, not, cond, List, [], ◌∷◌, Option, Some, None, is_some, option_copied, length, remove, slice_get, refl, sym, ap, ◌∙◌, arith}
use Rattle.std.specs.Borrow.{Bor}
use Rattle.std.specs.List.{list_all}
use Rattle.std.specs.Option.{unwrap_or}
use Rattle.std.specs.declared.cmp.Ordering.{Ordering}
use Rattle.std.specs.declared.cmp.Ordering.TheVariants.{Less, Equal, Greater}
use Rattle.std.specs.Ordering.{eq_by_cmp, is_eq}
use Rattle.std.specs.Cmp.{tied_itself, eq_by_cmp_equiv}
use Rattle.std.specs.FinMap as map
use Rattle.std.specs.FinMap.{get-insert, get-remove, get_tied, same_map}
use Rattle.alp_base.specs.declared.ids.TransId.{TransId}
use Rattle.alp_base.specs.Orders.{trans_cmp, transactions_total, exact_transactions}
use Rattle.alp_modes.proofs.ModeLemmas.{left-true, right-true, and-true}
use Rattle.alp_queue.specs.Rises.{Held}
use Rattle.alp_queue.specs.Order.{placed, without, is_of}
use Rattle.alp_queue.specs.declared.waiter.Waiter.{Waiter}
use Rattle.alp_locks.specs.Tables.{Holders, held_of, are_known}

-- ---- tests of all

pub all-more : {X : Type 0} (p q : X → Bool) → ((x : X) → p x ≡ true → q x ≡ true) → (xs : List X) → list_all p xs ≡ true → list_all q xs ≡ true
all-more p q more [] h = refl
all-more p q more (x ∷ xs) h = and-true (q x) (list_all q xs) (more x (left-true (p x) (list_all p xs) h)) (all-more p q more xs (right-true (p x) (list_all p xs) h))

pub all-removed : {X : Type 0} (p : X → Bool) (xs : List X) (i : ℕ) → list_all p xs ≡ true → list_all p (remove xs i) ≡ true
all-removed p [] zero h = refl
all-removed p [] (suc i) h = refl
all-removed p (x ∷ xs) zero h = right-true (p x) (list_all p xs) h
all-removed p (x ∷ xs) (suc i) h = and-true (p x) (list_all p (remove xs i)) (left-true (p x) (list_all p xs) h) (all-removed p xs i (right-true (p x) (list_all p xs) h))

pub all-at : {X : Type 0} (p : X → Bool) (xs : List X) (i : ℕ) (x : X) → slice_get xs i ≡ Some x → list_all p xs ≡ true → p x ≡ true
all-at p [] zero x e h = cc
all-at p [] (suc i) x e h = cc
all-at p (y ∷ ys) zero x e h = ap p (sym (ap (λ (o : Option _). unwrap_or o x) e)) ∙ left-true (p y) (list_all p ys) h
all-at p (y ∷ ys) (suc i) x e h = all-at p ys i x e (right-true (p y) (list_all p ys) h)

pub length-removed : {X : Type 0} (xs : List X) (i : ℕ) → i < length xs → suc (length (remove xs i)) ≡ length xs
length-removed [] i h = absurd (omega arith)
length-removed (x ∷ xs) zero h = refl
length-removed (x ∷ xs) (suc i) h = ap suc (length-removed xs i (omega arith))

pub all-placed : (p : Waiter → Bool) (ws : List Waiter) (w : Waiter) → list_all p ws ≡ true → p w ≡ true → list_all p (placed ws w) ≡ true
all-placed p [] w h k = and-true (p w) true k refl
all-placed p (x ∷ xs) w h k = go (w.converts && not x.converts) (all-placed p xs w (right-true (p x) (list_all p xs) h) k)
  where
    go : (b : Bool) → list_all p (placed xs w) ≡ true → list_all p (cond b (w ∷ x ∷ xs) (x ∷ placed xs w)) ≡ true
    go true t = and-true (p w) (p x && list_all p xs) k h
    go false t = and-true (p x) (list_all p (placed xs w)) (left-true (p x) (list_all p xs) h) t

pub length-placed : (ws : List Waiter) (w : Waiter) → length (placed ws w) ≡ suc (length ws)
length-placed [] w = refl
length-placed (x ∷ xs) w = go (w.converts && not x.converts) (length-placed xs w)
  where
    go : (b : Bool) → length (placed xs w) ≡ suc (length xs) → length (cond b (w ∷ x ∷ xs) (x ∷ placed xs w)) ≡ suc (suc (length xs))
    go true h = refl
    go false h = ap suc h

-- ---- who is known

some-or : {X : Type 0} (b : Bool) (h : X) (o : Option X) → is_some o ≡ true → is_some (cond b (Some h) o) ≡ true
some-or true h o k = refl
some-or false h o k = k

pub insert-keeps : (holders : Holders) (t : TransId) (h : Held) (q : TransId) → is_some (map.get holders q) ≡ true → is_some (map.get (map.insert holders t h) q) ≡ true
insert-keeps holders t h q k = ap is_some (get-insert transactions_total holders t h q) ∙ some-or (eq_by_cmp trans_cmp q t) h (map.get holders q) k

pub insert-knows : (holders : Holders) (t : TransId) (h : Held) → is_some (map.get (map.insert holders t h) t) ≡ true
insert-knows holders t h =
    ap is_some (get-insert transactions_total holders t h t) ∙ ap (λ (o : Ordering). is_some (cond (is_eq o) (Some h) (map.get holders t))) (tied_itself transactions_total t)

pub known-insert : (holders : Holders) (t : TransId) (h : Held) (ws : List Waiter) → are_known holders ws ≡ true → are_known (map.insert holders t h) ws ≡ true
known-insert holders t h ws k = all-more (λ (w : Waiter). is_some (map.get holders w.trans)) (λ (w : Waiter). is_some (map.get (map.insert holders t h) w.trans)) (λ w s. insert-keeps holders t h w.trans s) ws k

some-left : {X : Type 0} (b : Bool) (o : Option X) → b ≡ false → is_some o ≡ true → is_some (cond b None o) ≡ true
some-left true o e k = cc
some-left false o e k = k

pub remove-keeps : (holders : Holders) (t q : TransId) → eq_by_cmp trans_cmp t q ≡ false → is_some (map.get holders q) ≡ true → is_some (map.get (map.remove holders t) q) ≡ true
remove-keeps holders t q apart k =
    ap is_some (get-remove transactions_total holders t q) ∙ some-left (eq_by_cmp trans_cmp q t) (map.get holders q) ((eq_by_cmp_equiv transactions_total).symm q t ∙ apart) k

pub known-removed : (holders : Holders) (t : TransId) (ws : List Waiter) → are_known holders ws ≡ true → are_known (map.remove holders t) (without ws t) ≡ true
known-removed holders t [] k = refl
known-removed holders t (w ∷ ws) k = go (is_of t w) refl (known-removed holders t ws (right-true (is_some (map.get holders w.trans)) (are_known holders ws) k))
  where
    go : (b : Bool) → is_of t w ≡ b → are_known (map.remove holders t) (without ws t) ≡ true → are_known (map.remove holders t) (cond (not b) (w ∷ without ws t) (without ws t)) ≡ true
    go true e h = h
    go false e h =
        and-true (is_some (map.get (map.remove holders t) w.trans)) (are_known (map.remove holders t) (without ws t))
        (remove-keeps holders t w.trans e (left-true (is_some (map.get holders w.trans)) (are_known holders ws) k)) h

-- ---- what a part holds

pub tied : (o : Ordering) → is_eq o ≡ true → o ≡ Equal
tied Less e = cc
tied Equal e = refl
tied Greater e = cc

some-again : {X : Type 0} (o : Option X) (d : X) → is_some o ≡ true → Some (unwrap_or o d) ≡ o
some-again None d k = cc
some-again (Some x) d k = refl

none-then : {X : Type 0} (o : Option X) → is_some o ≡ false → o ≡ None
none-then None k = refl
none-then (Some x) k = cc

pub held-none : (holders : Holders) (t : TransId) → is_some (map.get holders t) ≡ false → held_of holders t ≡ map.empty
held-none holders t k = ap (λ (o : Option Held). unwrap_or o map.empty) (none-then (map.get holders t) k)

-- what a part holds stands there already
pub insert-held : (holders : Holders) (t : TransId) → is_some (map.get holders t) ≡ true → map.insert holders t (held_of holders t) ≡ holders
insert-held holders t k =
    same_map transactions_total exact_transactions (map.insert holders t (held_of holders t)) holders (λ q. get-insert transactions_total holders t (held_of holders t) q ∙ go q (eq_by_cmp trans_cmp q t) refl)
  where
    go : (q : TransId) (b : Bool) → eq_by_cmp trans_cmp q t ≡ b → cond b (Some (held_of holders t)) (map.get holders q) ≡ map.get holders q
    go q true e = some-again (map.get holders t) map.empty k ∙ get_tied transactions_total holders q t (tied (trans_cmp q t) e)
    go q false e = refl

cond-twice : {X : Type 0} (b : Bool) (x y o : X) → cond b x (cond b y o) ≡ cond b x o
cond-twice true x y o = refl
cond-twice false x y o = refl

-- a part that is put twice is as it was put last
pub insert-twice : (holders : Holders) (t : TransId) (h k : Held) → map.insert (map.insert holders t h) t k ≡ map.insert holders t k
insert-twice holders t h k =
    same_map transactions_total exact_transactions (map.insert (map.insert holders t h) t k) (map.insert holders t k)
    (λ q. get-insert transactions_total (map.insert holders t h) t k q
    ∙ ap (cond (eq_by_cmp trans_cmp q t) (Some k)) (get-insert transactions_total holders t h q)
    ∙ cond-twice (eq_by_cmp trans_cmp q t) (Some k) (Some h) (map.get holders q)
    ∙ sym (get-insert transactions_total holders t k q))

-- a part that was new goes without a trace
pub remove-insert : (holders : Holders) (t : TransId) (h : Held) → is_some (map.get holders t) ≡ false → map.remove (map.insert holders t h) t ≡ holders
remove-insert holders t h k =
    same_map transactions_total exact_transactions (map.remove (map.insert holders t h) t) holders
    (λ q. get-remove transactions_total (map.insert holders t h) t q ∙ ap (cond (eq_by_cmp trans_cmp q t) None) (get-insert transactions_total holders t h q) ∙ go q (eq_by_cmp trans_cmp q t) refl)
  where
    go : (q : TransId) (b : Bool) → eq_by_cmp trans_cmp q t ≡ b → cond b None (cond b (Some h) (map.get holders q)) ≡ map.get holders q
    go q true e = sym (none-then (map.get holders t) k) ∙ get_tied transactions_total holders q t (tied (trans_cmp q t) e)
    go q false e = refl

pub some-copied : {X : Type 0} (o : Option (Bor X)) → is_some (option_copied o) ≡ is_some o
some-copied None = refl
some-copied (Some x) = refl

pub length-without : (ws : List Waiter) (t : TransId) → length (without ws t) ≤ length ws
length-without [] t = omega arith
length-without (w ∷ ws) t = go (is_of t w) (length-without ws t)
  where
    go : (b : Bool) → length (without ws t) ≤ length ws → length (cond (not b) (w ∷ without ws t) (without ws t)) ≤ suc (length ws)
    go true h = omega arith
    go false h = omega arith
