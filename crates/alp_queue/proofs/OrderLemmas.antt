-- where a waiter comes
use Rattle.std.proofs.Common.{◌≡◌, ◌≤◌, ℕ, suc, ◌+◌, Bool, true, false, ◌&&◌, not, cond, ltb, List, [], ◌∷◌, length, Some, None, position, insert, refl, sym, ap, ◌∙◌, arith}
use Rattle.std.specs.Option.{unwrap_or}
use Rattle.std.specs.List.{position_or_len}
use Rattle.std.proofs.lemmas.Bool.{ltb-false}
use Rattle.std.proofs.lemmas.List.Sums.{prefix_len-le-length}
use Rattle.alp_queue.specs.declared.waiter.Waiter.{Waiter}
use Rattle.alp_queue.specs.Order.{placed, place_in}

pub at-or-end : {X : Type 0} (p : X → Bool) (xs : List X) → unwrap_or (position p xs) (length xs) ≡ position_or_len p xs
at-or-end p xs = go (ltb (position_or_len p xs) (length xs)) refl
  where
    go : (b : Bool) → ltb (position_or_len p xs) (length xs) ≡ b → unwrap_or (cond b (Some (position_or_len p xs)) None) (length xs) ≡ position_or_len p xs
    go true e = refl
    go false e = let far = ltb-false (position_or_len p xs) (length xs) e in let near = prefix_len-le-length (λ x. not (p x)) xs in omega arith

pub place-within : (ws : List Waiter) (b : Bool) → place_in ws b ≤ length ws
place-within ws b = prefix_len-le-length (λ w. not (b && not w.converts)) ws

insert-behind : {X : Type 0} (x : X) (xs : List X) (i : ℕ) (y : X) → insert (x ∷ xs) (1 + i) y ≡ x ∷ insert xs i y
insert-behind x xs i y = let e : 1 + i ≡ suc i = omega arith in ap (λ n. insert (x ∷ xs) n y) e

-- to place a waiter is to insert it at its place
pub placed-insert : (ws : List Waiter) (w : Waiter) → placed ws w ≡ insert ws (place_in ws w.converts) w
placed-insert [] w = refl
placed-insert (x ∷ xs) w = go (w.converts && not x.converts) (placed-insert xs w)
  where
    go : (b : Bool) → placed xs w ≡ insert xs (place_in xs w.converts) w → cond b (w ∷ x ∷ xs) (x ∷ placed xs w) ≡ insert (x ∷ xs) (cond (not b) (1 + place_in xs w.converts) 0) w
    go true h = refl
    go false h = ap (λ ys. x ∷ ys) h ∙ sym (insert-behind x xs (place_in xs w.converts) w)
