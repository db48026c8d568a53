-- the order in which waiters are tried is conversions first, and then by arrival
use Rattle.std.proofs.Common.{◌≡◌, Bool, true, false, ◌&&◌, not, cond, List, [], ◌∷◌, ◌++◌, filter, refl, sym, ap, ◌∙◌}
use Rattle.std.specs.List.{AllByRecursion}
use Rattle.std.proofs.lemmas.List.{append-nil, append_assoc}
use Rattle.std.proofs.lemmas.List.Elements.{filter-append}
use Rattle.alp_queue.specs.declared.waiter.Waiter.{Waiter}
use Rattle.alp_queue.specs.Order.{placed, in_line, IsByArrival}

abbrev conversions : List Waiter → List Waiter
conversions ws = filter (λ w. w.converts) ws

abbrev arrivals : List Waiter → List Waiter
arrivals ws = filter (λ w. not w.converts) ws

-- where a waiter comes among conversions and others
placed-among : (w : Waiter) (b : Bool) → w.converts ≡ b → (cs vs : List Waiter) → AllByRecursion (λ c. c.converts ≡ true) cs → AllByRecursion (λ v. v.converts ≡ false) vs
    → placed (cs ++ vs) w ≡ cond b (cs ++ w ∷ vs) (cs ++ (vs ++ w ∷ []))
placed-among w true e [] [] h k = refl
placed-among w false e [] [] h k = refl
placed-among w true e [] (v ∷ vs) h k =
    ap (λ b. cond (b && not v.converts) (w ∷ v ∷ vs) (v ∷ placed vs w)) e ∙ ap (λ b. cond (not b) (w ∷ v ∷ vs) (v ∷ placed vs w)) k.0
placed-among w false e [] (v ∷ vs) h k =
    ap (λ b. cond (b && not v.converts) (w ∷ v ∷ vs) (v ∷ placed vs w)) e ∙ ap (λ ws. v ∷ ws) (placed-among w false e [] vs tt k.1)
placed-among w true e (c ∷ cs) vs h k =
    ap (λ b. cond (b && not c.converts) (w ∷ c ∷ (cs ++ vs)) (c ∷ placed (cs ++ vs) w)) e ∙ ap (λ b. cond (not b) (w ∷ c ∷ (cs ++ vs)) (c ∷ placed (cs ++ vs) w)) h.0
    ∙ ap (λ ws. c ∷ ws) (placed-among w true e cs vs h.1 k)
placed-among w false e (c ∷ cs) vs h k =
    ap (λ b. cond (b && not c.converts) (w ∷ c ∷ (cs ++ vs)) (c ∷ placed (cs ++ vs) w)) e ∙ ap (λ ws. c ∷ ws) (placed-among w false e cs vs h.1 k)

converting : (ws : List Waiter) → AllByRecursion (λ c. c.converts ≡ true) (conversions ws)
converting [] = tt
converting (w ∷ ws) = go w.converts refl (converting ws)
  where
    go : (b : Bool) → w.converts ≡ b → AllByRecursion (λ c. c.converts ≡ true) (conversions ws) → AllByRecursion (λ c. c.converts ≡ true) (cond b (w ∷ conversions ws) (conversions ws))
    go true e t = (e, t)
    go false e t = t

arriving : (ws : List Waiter) → AllByRecursion (λ v. v.converts ≡ false) (arrivals ws)
arriving [] = tt
arriving (w ∷ ws) = go w.converts refl (arriving ws)
  where
    go : (b : Bool) → w.converts ≡ b → AllByRecursion (λ v. v.converts ≡ false) (arrivals ws) → AllByRecursion (λ v. v.converts ≡ false) (cond (not b) (w ∷ arrivals ws) (arrivals ws))
    go true e t = t
    go false e t = (e, t)

filter-last : (p : Waiter → Bool) (ws : List Waiter) (w : Waiter) → filter p (ws ++ w ∷ []) ≡ filter p ws ++ cond (p w) (w ∷ []) []
filter-last p ws w = filter-append p ws (w ∷ [])

placed-last : (ws : List Waiter) (w : Waiter) → placed (conversions ws ++ arrivals ws) w ≡ conversions (ws ++ w ∷ []) ++ arrivals (ws ++ w ∷ [])
placed-last ws w =
    go w.converts refl
    ∙ sym (ap (λ cs. cs ++ arrivals (ws ++ w ∷ [])) (filter-last (λ x. x.converts) ws w)
    ∙ ap (λ vs. (conversions ws ++ cond w.converts (w ∷ []) []) ++ vs) (filter-last (λ x. not x.converts) ws w))
  where
    joined : (b : Bool) → cond b (conversions ws ++ w ∷ arrivals ws) (conversions ws ++ (arrivals ws ++ w ∷ []))
        ≡ (conversions ws ++ cond b (w ∷ []) []) ++ (arrivals ws ++ cond (not b) (w ∷ []) [])
    joined true = sym (append_assoc (conversions ws) (w ∷ []) (arrivals ws)) ∙ ap (λ vs. (conversions ws ++ w ∷ []) ++ vs) (sym (append-nil (arrivals ws)))
    joined false = ap (λ cs. cs ++ (arrivals ws ++ w ∷ [])) (sym (append-nil (conversions ws)))

    go : (b : Bool) → w.converts ≡ b → placed (conversions ws ++ arrivals ws) w ≡ (conversions ws ++ cond w.converts (w ∷ []) []) ++ (arrivals ws ++ cond (not w.converts) (w ∷ []) [])
    go b e =
        placed-among w b e (conversions ws) (arrivals ws) (converting ws) (arriving ws) ∙ joined b
        ∙ ap (λ c. (conversions ws ++ cond c (w ∷ []) []) ++ (arrivals ws ++ cond (not c) (w ∷ []) [])) (sym e)

lined : (ws xs : List Waiter) → in_line (conversions ws ++ arrivals ws) xs ≡ conversions (ws ++ xs) ++ arrivals (ws ++ xs)
lined ws [] = ap (λ ys. conversions ys ++ arrivals ys) (sym (append-nil ws))
lined ws (x ∷ xs) =
    ap (λ ys. in_line ys xs) (placed-last ws x) ∙ lined (ws ++ x ∷ []) xs ∙ ap (λ ys. conversions ys ++ arrivals ys) (append_assoc ws (x ∷ []) xs)

pub by-arrival : IsByArrival
by-arrival arrived = lined [] arrived
