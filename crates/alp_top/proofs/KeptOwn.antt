-- What a client sent to a server, among all that occurred and in its own list.
use Rattle.std.specs.Prelude.{◌==◌, true, false, Bool, cond, filter, Option, None, Some, map as list_map, if◌then◌else◌}
use Rattle.std.proofs.Common.{inl, inr, ◌⊎◌, ◌≡◌, ℕ, ◌+◌, ◌≤◌, List, [], ◌∷◌, ◌++◌, refl, sym, ◌∙◌, ap, subst, arith, eq-eqb}
use Rattle.std.proofs.lemmas.Bool.Decides.{eqb_tells}
use Rattle.alp_journal.specs.declared.log.Item.{Item}
use Rattle.alp_history.specs.Items as items
use Rattle.alp_history.specs.Log.{IsIn}
use Rattle.alp_history.specs.RunLogs.{item_of}
use Rattle.alp_course.specs.Courses.{Occurrence}
use Rattle.alp_course.specs.Plays.{sent_of}
use Rattle.alp_course.specs.Turns.{Turn, own_in, sent_in}
use Rattle.alp_cluster.specs.Clients.{at_server}
use Rattle.alp_top.proofs.KeptCourse.{place_here, IsFrom, behind, AreSentRising}

-- those of a list that went to this server
abbrev pub items_at : ℕ → List Item → List Item
items_at n xs = filter (λ (x : Item). x.server == n) xs

-- those of this client that went to this server
abbrev pub own_at : (client server : ℕ) → List (ℕ × Item) → List Item
own_at k n [] = []
own_at k n (y ∷ ys) = if y.0 == k then (if y.1.server == n then y.1 ∷ own_at k n ys else own_at k n ys) else own_at k n ys

-- Server by server, what occurred has the items of each client in the order of its list.
abbrev pub DoesAgree : List Occurrence → (ℕ → List Item) → Type 0
DoesAgree hs list = (k n : ℕ) → own_at k n (sent_of hs) ≡ items_at n (list k)

-- ---- what is among them

in_items : (n : ℕ) (x : Item) (xs : List Item) → IsIn x xs → x.server ≡ n → IsIn x (items_at n xs)
in_items n x [] i is = absurd i
in_items n x (y ∷ xs) (inl same) is = subst (λ (b : Bool). IsIn x (if b then y ∷ items_at n xs else items_at n xs)) (sym (eq-eqb y.server n (ap (λ (z : Item). z.server) (sym same) ∙ is))) (inl same)
in_items n x (y ∷ xs) (inr i) is = go (y.server == n) (in_items n x xs i is)
  where
    go : (b : Bool) → IsIn x (items_at n xs) → IsIn x (if b then y ∷ items_at n xs else items_at n xs)
    go true more = inr more
    go false more = more

items_in : (n : ℕ) (x : Item) (xs : List Item) → IsIn x (items_at n xs) → IsIn x xs
items_in n x [] i = absurd i
items_in n x (y ∷ xs) i = go (y.server == n) (items_in n x xs) i
  where
    go : (b : Bool) → (IsIn x (items_at n xs) → IsIn x xs) → IsIn x (if b then y ∷ items_at n xs else items_at n xs) → IsIn x (y ∷ xs)
    go true more (inl same) = inl same
    go true more (inr rest) = inr (more rest)
    go false more rest = inr (more rest)

in_own : (k n : ℕ) (x : Item) (ys : List (ℕ × Item)) → IsIn {A = ℕ × Item} (k, x) ys → x.server ≡ n → IsIn x (own_at k n ys)
in_own k n x [] i is = absurd i
in_own k n x (y ∷ ys) (inl same) is =
    subst (λ (b : Bool). IsIn x (if b then (if y.1.server == n then y.1 ∷ own_at k n ys else own_at k n ys) else own_at k n ys)) (sym (eq-eqb y.0 k (ap (λ (z : ℕ × Item). z.0) (sym same))))
    (subst (λ (b : Bool). IsIn x (if b then y.1 ∷ own_at k n ys else own_at k n ys)) (sym (eq-eqb y.1.server n (ap (λ (z : ℕ × Item). z.1.server) (sym same) ∙ is))) (inl (ap (λ (z : ℕ × Item). z.1) same)))
in_own k n x (y ∷ ys) (inr i) is = go (y.0 == k) (y.1.server == n) (in_own k n x ys i is)
  where
    go : (b c : Bool) → IsIn x (own_at k n ys) → IsIn x (if b then (if c then y.1 ∷ own_at k n ys else own_at k n ys) else own_at k n ys)
    go true true more = inr more
    go true false more = more
    go false c more = more

own_in_all : (k n : ℕ) (x : Item) (ys : List (ℕ × Item)) → IsIn x (own_at k n ys) → IsIn {A = ℕ × Item} (k, x) ys
own_in_all k n x [] i = absurd i
own_in_all k n x (y ∷ ys) i = go (eqb_tells y.0 k) (y.1.server == n) (own_in_all k n x ys) i
  where
    both : (y : ℕ × Item) → y.0 ≡ k → x ≡ y.1 → ◌≡◌ {A = ℕ × Item} (k, x) y
    both y one two = λ i. (sym one i, two i)

    go : (((y.0 == k) ≡ true) × (y.0 ≡ k)) ⊎ (((y.0 == k) ≡ false) × (y.0 ≡ k → ⊥)) → (c : Bool) → (IsIn x (own_at k n ys) → IsIn {A = ℕ × Item} (k, x) ys)
        → IsIn x (if y.0 == k then (if c then y.1 ∷ own_at k n ys else own_at k n ys) else own_at k n ys) → IsIn {A = ℕ × Item} (k, x) (y ∷ ys)
    go (inl is) c more j = mine c (subst (λ (b : Bool). IsIn x (if b then (if c then y.1 ∷ own_at k n ys else own_at k n ys) else own_at k n ys)) is.0 j)
      where
        mine : (c : Bool) → IsIn x (if c then y.1 ∷ own_at k n ys else own_at k n ys) → IsIn {A = ℕ × Item} (k, x) (y ∷ ys)
        mine true (inl same) = inl (both y is.1 same)
        mine true (inr rest) = inr (more rest)
        mine false rest = inr (more rest)
    go (inr away) c more j = inr (more (subst (λ (b : Bool). IsIn x (if b then (if c then y.1 ∷ own_at k n ys else own_at k n ys) else own_at k n ys)) away.0 j))

module _ (hs : List Occurrence) (list : ℕ → List Item) (agrees : DoesAgree hs list) where
  -- an item of a client's list occurred
  pub list_sent : (k : ℕ) (x : Item) → IsIn x (list k) → IsIn {A = ℕ × Item} (k, x) (sent_of hs)
  list_sent k x i = own_in_all k x.server x (sent_of hs) (subst (IsIn x) (sym (agrees k x.server)) (in_items x.server x (list k) i refl))

  -- and what occurred is in its list
  pub sent_list : (k : ℕ) (x : Item) → IsIn {A = ℕ × Item} (k, x) (sent_of hs) → IsIn x (list k)
  sent_list k x i = items_in x.server x (list k) (subst (IsIn x) (agrees k x.server) (in_own k x.server x (sent_of hs) i refl))

-- ---- places

pub behind_up : (from : ℕ) (o : Option ℕ) → IsFrom from o → from ≤ behind from o
behind_up from None h = omega arith
behind_up from (Some p) h = omega (arith, h)

-- places that rise from this one on
abbrev pub AreRising : ℕ → List items.Item → Type 0
AreRising from [] = Unit {0}
AreRising from (x ∷ xs) = IsFrom from x.place × AreRising (behind from x.place) xs

lower : (a b : ℕ) (xs : List items.Item) → a ≤ b → AreRising b xs → AreRising a xs
lower a b [] le h = tt
lower a b (x ∷ xs) le h = go (lower a b xs le) x.place h.0 h.1
  where
    go : (AreRising b xs → AreRising a xs) → (o : Option ℕ) → IsFrom b o → AreRising (behind b o) xs → IsFrom a o × AreRising (behind a o) xs
    go more None from rest = (tt, more rest)
    go more (Some p) from rest = (omega (arith, le, from), rest)

own_rises : (n k : ℕ) (ys : List (ℕ × Item)) (from to : ℕ) → AreSentRising n from to ys → AreRising from (list_map item_of (own_at k n ys))
own_rises n k [] from to h = tt
own_rises n k (y ∷ ys) from to h = go (y.0 == k) (y.1.server == n) h.0 (own_rises n k ys (behind from (place_here n y.1)) to h.1)
  where
    go : (b c : Bool) → IsFrom from (cond c y.1.place None) → AreRising (behind from (cond c y.1.place None)) (list_map item_of (own_at k n ys))
        → AreRising from (list_map item_of (if b then (if c then y.1 ∷ own_at k n ys else own_at k n ys) else own_at k n ys))
    go true true there rest = (there, rest)
    go true false there rest = rest
    go false true there rest = lower from (behind from y.1.place) (list_map item_of (own_at k n ys)) (behind_up from y.1.place there) rest
    go false false there rest = rest

-- which items went to a server is said alike of both
at_items : (n : ℕ) (xs : List Item) → at_server n (list_map item_of xs) ≡ list_map item_of (items_at n xs)
at_items n [] = refl
at_items n (x ∷ xs) = go (x.server == n) (at_items n xs)
  where
    go : (b : Bool) → at_server n (list_map item_of xs) ≡ list_map item_of (items_at n xs) → cond b (item_of x ∷ at_server n (list_map item_of xs)) (at_server n (list_map item_of xs)) ≡ list_map item_of (if b then x ∷ items_at n xs else items_at n xs)
    go true more = ap (λ (l : List items.Item). item_of x ∷ l) more
    go false more = more

-- the items of a client at a server are recorded there in its order
pub rises : (hs : List Occurrence) (list : ℕ → List Item) → DoesAgree hs list → (n k to : ℕ) → AreSentRising n 0 to (sent_of hs) → AreRising 0 (at_server n (list_map item_of (list k)))
rises hs list agrees n k to h =
    subst (AreRising 0) (ap (list_map item_of) (agrees k n) ∙ sym (at_items n (list k))) (own_rises n k (sent_of hs) 0 to h)

-- ---- turns in one order

own_of_turn : (k n c : ℕ) (xs : List Item) (ys : List (ℕ × Item)) → own_at k n (list_map (λ (x : Item). (c, x)) xs ++ ys) ≡ items_at n (cond (c == k) xs []) ++ own_at k n ys
own_of_turn k n c [] ys = none (c == k)
  where
    none : (b : Bool) → own_at k n ys ≡ items_at n (cond b [] []) ++ own_at k n ys
    none true = refl
    none false = refl
own_of_turn k n c (x ∷ xs) ys = go (c == k) (own_of_turn k n c xs ys)
  where
    rest : List Item
    rest = own_at k n (list_map (λ (z : Item). (c, z)) xs ++ ys)

    here : (d : Bool) → rest ≡ items_at n xs ++ own_at k n ys → (if d then x ∷ rest else rest) ≡ (if d then x ∷ items_at n xs else items_at n xs) ++ own_at k n ys
    here true more = ap (λ (l : List Item). x ∷ l) more
    here false more = more

    go : (b : Bool) → rest ≡ items_at n (cond b xs []) ++ own_at k n ys → (if b then (if x.server == n then x ∷ rest else rest) else rest) ≡ items_at n (cond b (x ∷ xs) []) ++ own_at k n ys
    go true more = here (x.server == n) more
    go false more = more

items_both : (n : ℕ) (xs ys : List Item) → items_at n (xs ++ ys) ≡ items_at n xs ++ items_at n ys
items_both n [] ys = refl
items_both n (x ∷ xs) ys = go (x.server == n) (items_both n xs ys)
  where
    go : (b : Bool) → items_at n (xs ++ ys) ≡ items_at n xs ++ items_at n ys → (if b then x ∷ items_at n (xs ++ ys) else items_at n (xs ++ ys)) ≡ (if b then x ∷ items_at n xs else items_at n xs) ++ items_at n ys
    go true more = ap (λ (l : List Item). x ∷ l) more
    go false more = more

turns_agree : (k n : ℕ) (ts : List Turn) → own_at k n (sent_in ts) ≡ items_at n (own_in k ts)
turns_agree k n [] = refl
turns_agree k n (t ∷ ts) = own_of_turn k n t.client t.items (sent_in ts) ∙ (ap (λ (l : List Item). items_at n (cond (t.client == k) t.items []) ++ l) (turns_agree k n ts) ∙ sym (items_both n (cond (t.client == k) t.items []) (own_in k ts)))

-- what the turns of lines sent, one after the other, agrees with the lists that they make
pub agree_in_turn : (hs : List Occurrence) (turns : List Turn) → sent_of hs ≡ sent_in turns → DoesAgree hs (λ (k : ℕ). own_in k turns)
agree_in_turn hs turns is k n = ap (own_at k n) is ∙ turns_agree k n turns
