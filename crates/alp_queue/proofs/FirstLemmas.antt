-- conversions stay first, whoever enters and whoever leaves
use Rattle.std.proofs.Common.{◌≡◌, ℕ, zero, suc, Bool, true, false, ◌&&◌, not, cond, List, [], ◌∷◌, ◌++◌, filter, remove, refl, sym, ◌∙◌}
use Rattle.std.specs.List.{AllByRecursion}
use Rattle.alp_queue.specs.declared.waiter.Waiter.{Waiter}
use Rattle.alp_queue.specs.Order.{placed, is_of}
use Rattle.alp_queue.specs.Conversions.{AreConversionsFirst, StaysFirst}

abbrev AreArrivals : List Waiter → Type 0
AreArrivals ws = AllByRecursion (λ v. v.converts ≡ false) ws

arrivals-filter : (p : Waiter → Bool) (ws : List Waiter) → AreArrivals ws → AreArrivals (filter p ws)
arrivals-filter p [] h = tt
arrivals-filter p (w ∷ ws) h = go (p w) (arrivals-filter p ws h.1)
  where
    go : (b : Bool) → AreArrivals (filter p ws) → AreArrivals (cond b (w ∷ filter p ws) (filter p ws))
    go true t = (h.0, t)
    go false t = t

pub first-filter : (p : Waiter → Bool) (ws : List Waiter) → AreConversionsFirst ws → AreConversionsFirst (filter p ws)
first-filter p [] h = tt
first-filter p (w ∷ ws) h = go (p w) (first-filter p ws h.1)
  where
    go : (b : Bool) → AreConversionsFirst (filter p ws) → AreConversionsFirst (cond b (w ∷ filter p ws) (filter p ws))
    go true t = (λ e. arrivals-filter p ws (h.0 e), t)
    go false t = t

arrivals-placed : (ws : List Waiter) (w : Waiter) → AreArrivals ws → w.converts ≡ false → AreArrivals (placed ws w)
arrivals-placed [] w h e = (e, tt)
arrivals-placed (x ∷ xs) w h e = go (w.converts && not x.converts) (arrivals-placed xs w h.1 e)
  where
    go : (b : Bool) → AreArrivals (placed xs w) → AreArrivals (cond b (w ∷ x ∷ xs) (x ∷ placed xs w))
    go true t = (e, h)
    go false t = (h.0, t)

pub first-placed : (ws : List Waiter) (w : Waiter) → AreConversionsFirst ws → AreConversionsFirst (placed ws w)
first-placed [] w h = (λ e. tt, tt)
first-placed (x ∷ xs) w h = go w.converts refl x.converts refl (first-placed xs w h.1)
  where
    go : (a : Bool) → w.converts ≡ a → (b : Bool) → x.converts ≡ b → AreConversionsFirst (placed xs w) → AreConversionsFirst (cond (a && not b) (w ∷ x ∷ xs) (x ∷ placed xs w))
    go true a true b t = (λ e. let wrong : true ≡ false = sym b ∙ e in cc, t)
    go true a false b t = (λ e. let wrong : true ≡ false = sym a ∙ e in cc, h)
    go false a true b t = (λ e. let wrong : true ≡ false = sym b ∙ e in cc, t)
    go false a false b t = (λ e. arrivals-placed xs w (h.0 e) a, t)

arrivals-remove : (ws : List Waiter) (at : ℕ) → AreArrivals ws → AreArrivals (remove ws at)
arrivals-remove [] zero h = tt
arrivals-remove [] (suc n) h = tt
arrivals-remove (w ∷ ws) zero h = h.1
arrivals-remove (w ∷ ws) (suc n) h = (h.0, arrivals-remove ws n h.1)

first-remove : (ws : List Waiter) (at : ℕ) → AreConversionsFirst ws → AreConversionsFirst (remove ws at)
first-remove [] zero h = tt
first-remove [] (suc n) h = tt
first-remove (w ∷ ws) zero h = h.1
first-remove (w ∷ ws) (suc n) h = (λ e. arrivals-remove ws n (h.0 e), first-remove ws n h.1)

arrivals-middle : (ks : List Waiter) (w : Waiter) (ws : List Waiter) → AreArrivals (ks ++ w ∷ ws) → AreArrivals (ks ++ ws)
arrivals-middle [] w ws h = h.1
arrivals-middle (k ∷ ks) w ws h = (h.0, arrivals-middle ks w ws h.1)

-- one that leaves from the middle
pub first-middle : (ks : List Waiter) (w : Waiter) (ws : List Waiter) → AreConversionsFirst (ks ++ w ∷ ws) → AreConversionsFirst (ks ++ ws)
first-middle [] w ws h = h.1
first-middle (k ∷ ks) w ws h = (λ e. arrivals-middle ks w ws (h.0 e), first-middle ks w ws h.1)

pub stays-first : StaysFirst
stays-first = record { none = tt; entered = first-placed; taken = first-remove; withdrawn = λ ws t h. first-filter (λ w. not (is_of t w)) ws h }
