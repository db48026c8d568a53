-- The turns of all servers in one order: ranks do not fall, and each server has its own.
use Rattle.std.specs.Prelude.{◌==◌, nat_le, if◌then◌else◌}
use Rattle.std.specs.List.{AllByRecursion}
use Rattle.std.proofs.Common.{◌≡◌, ◌≢◌, ◌⊎◌, ℕ, zero, suc, ◌<◌, ◌≤◌, Bool, true, false, List, [], ◌∷◌, inl, inr, refl, sym, ap, ◌∙◌, subst, arith, eq-eqb, ne_eqb}
use Rattle.std.proofs.lemmas.Bool.{cases_eq}
use Rattle.std.proofs.lemmas.Bool.Decides.{leb_tells}
use Rattle.alp_merge.specs.Turns.{Turn, server_of, turns_at, AreInOrder}

-- ---- the turns of one server

pub own_first : (n : ℕ) (x : Turn) (xs : List Turn) → server_of x.occurrence ≡ n → turns_at n (x ∷ xs) ≡ x ∷ turns_at n xs
own_first n x xs same = ap (λ (b : Bool). if b then x ∷ turns_at n xs else turns_at n xs) (eq-eqb (server_of x.occurrence) n same)

pub other_first : (n : ℕ) (x : Turn) (xs : List Turn) → server_of x.occurrence ≢ n → turns_at n (x ∷ xs) ≡ turns_at n xs
other_first n x xs away = ap (λ (b : Bool). if b then x ∷ turns_at n xs else turns_at n xs) (ne_eqb (server_of x.occurrence) n away)

-- ---- ranks

-- each is above the one before
abbrev pub AreAbove : ℕ → List Turn → Type 0
AreAbove low [] = Unit {0}
AreAbove low (x ∷ xs) = (low < x.rank) × AreAbove x.rank xs

lower : (a b : ℕ) (xs : List Turn) → a ≤ b → AreInOrder b xs → AreInOrder a xs
lower a b [] down h = tt
lower a b (x ∷ xs) down h = ((let up : b ≤ x.rank = h.0 in omega (arith, down, up)), h.1)

-- those of a server are none below the first of all
pub none_below : (n low : ℕ) (xs : List Turn) → AreInOrder low xs → AllByRecursion (λ (x : Turn). low ≤ x.rank) (turns_at n xs)
none_below n low [] h = tt
none_below n low (x ∷ xs) h = go (server_of x.occurrence == n) (none_below n low xs (lower low x.rank xs h.0 h.1))
  where
    go : (b : Bool) → AllByRecursion (λ (y : Turn). low ≤ y.rank) (turns_at n xs) → AllByRecursion (λ (y : Turn). low ≤ y.rank) (if b then x ∷ turns_at n xs else turns_at n xs)
    go true more = (h.0, more)
    go false more = more

-- ---- one turn more

-- before the first whose rank is not below its own
abbrev insert : Turn → List Turn → List Turn
insert x [] = x ∷ []
insert x (y ∷ ys) = if nat_le x.rank y.rank then x ∷ y ∷ ys else y ∷ insert x ys

insert_ordered : (low : ℕ) (x : Turn) (ys : List Turn) → low ≤ x.rank → AreInOrder low ys → AreInOrder low (insert x ys)
insert_ordered low x [] up h = (up, tt)
insert_ordered low x (y ∷ ys) up h = elim (leb_tells x.rank y.rank) [
  | inl before ↦ subst (λ (b : Bool). AreInOrder low (if b then x ∷ y ∷ ys else y ∷ insert x ys)) (sym before.0) (up, (before.1, h.1))
  | inr behind ↦ subst (λ (b : Bool). AreInOrder low (if b then x ∷ y ∷ ys else y ∷ insert x ys)) (sym behind.0) (h.0, insert_ordered y.rank x ys (let less : y.rank < x.rank = behind.1 in omega (arith, less)) h.1)
]

insert_all_of : (P : Turn → Type 0) (x : Turn) (ys : List Turn) → P x → AllByRecursion P ys → AllByRecursion P (insert x ys)
insert_all_of P x [] p all = (p, tt)
insert_all_of P x (y ∷ ys) p all = go (nat_le x.rank y.rank) (insert_all_of P x ys p all.1)
  where
    go : (b : Bool) → AllByRecursion P (insert x ys) → AllByRecursion P (if b then x ∷ y ∷ ys else y ∷ insert x ys)
    go true more = (p, all)
    go false more = (all.0, more)

insert_other : (n : ℕ) (x : Turn) (ys : List Turn) → server_of x.occurrence ≢ n → turns_at n (insert x ys) ≡ turns_at n ys
insert_other n x [] away = other_first n x [] away
insert_other n x (y ∷ ys) away = go (nat_le x.rank y.rank) (insert_other n x ys away)
  where
    go : (b : Bool) → turns_at n (insert x ys) ≡ turns_at n ys → turns_at n (if b then x ∷ y ∷ ys else y ∷ insert x ys) ≡ turns_at n (y ∷ ys)
    go true more = other_first n x (y ∷ ys) away
    go false more = ap (λ (l : List Turn). if server_of y.occurrence == n then y ∷ l else l) more

-- it comes before those of its server, if these are above it
insert_own : (n : ℕ) (x : Turn) (ys : List Turn) → server_of x.occurrence ≡ n → AreAbove x.rank (turns_at n ys) → turns_at n (insert x ys) ≡ x ∷ turns_at n ys
insert_own n x [] same above = own_first n x [] same
insert_own n x (y ∷ ys) same above = elim (leb_tells x.rank y.rank) [
  | inl before ↦ ap (λ (b : Bool). turns_at n (if b then x ∷ y ∷ ys else y ∷ insert x ys)) before.0 ∙ own_first n x (y ∷ ys) same
  | inr behind ↦ ap (λ (b : Bool). turns_at n (if b then x ∷ y ∷ ys else y ∷ insert x ys)) behind.0 ∙ later behind.1 (insert_own n x ys same) (cases_eq (server_of y.occurrence) n)
]
  where
    later : y.rank < x.rank → (AreAbove x.rank (turns_at n ys) → turns_at n (insert x ys) ≡ x ∷ turns_at n ys) → (server_of y.occurrence ≡ n) ⊎ (server_of y.occurrence ≡ n → ⊥) → turns_at n (y ∷ insert x ys) ≡ x ∷ turns_at n (y ∷ ys)
    later less more (inl own) = absurd (let up : x.rank < y.rank = (subst (AreAbove x.rank) (own_first n y ys own) above).0 in omega (arith, up, less))
    later less more (inr away) = other_first n y (insert x ys) away ∙ (more (subst (AreAbove x.rank) (other_first n y ys away) above) ∙ ap (λ (l : List Turn). x ∷ l) (sym (other_first n y ys away)))

-- ---- those of one server

abbrev insert_each : List Turn → List Turn → List Turn
insert_each [] ys = ys
insert_each (x ∷ xs) ys = insert x (insert_each xs ys)

each_ordered : (xs ys : List Turn) → AreInOrder 0 ys → AreInOrder 0 (insert_each xs ys)
each_ordered [] ys h = h
each_ordered (x ∷ xs) ys h = insert_ordered 0 x (insert_each xs ys) (omega arith) (each_ordered xs ys h)

each_all_of : (P : Turn → Type 0) (xs ys : List Turn) → AllByRecursion P xs → AllByRecursion P ys → AllByRecursion P (insert_each xs ys)
each_all_of P [] ys all others = others
each_all_of P (x ∷ xs) ys all others = insert_all_of P x (insert_each xs ys) all.0 (each_all_of P xs ys all.1 others)

-- they are turns of that server
abbrev pub AreOf : ℕ → List Turn → Type 0
AreOf n xs = AllByRecursion (λ (x : Turn). server_of x.occurrence ≡ n) xs

each_other : (n m : ℕ) (xs ys : List Turn) → AreOf m xs → m ≢ n → turns_at n (insert_each xs ys) ≡ turns_at n ys
each_other n m [] ys own away = refl
each_other n m (x ∷ xs) ys own away = insert_other n x (insert_each xs ys) (λ same. away (sym own.0 ∙ same)) ∙ each_other n m xs ys own.1 away

each_own : (n low : ℕ) (xs ys : List Turn) → AreOf n xs → AreAbove low xs → turns_at n ys ≡ [] → turns_at n (insert_each xs ys) ≡ xs
each_own n low [] ys own above none = none
each_own n low (x ∷ xs) ys own above none =
    let rest : turns_at n (insert_each xs ys) ≡ xs = each_own n x.rank xs ys own.1 above.1 none in
    insert_own n x (insert_each xs ys) own.0 (subst (AreAbove x.rank) (sym rest) above.1) ∙ ap (λ (l : List Turn). x ∷ l) rest

-- ---- those of all servers up to this one

abbrev pub merged : (ℕ → List Turn) → ℕ → List Turn
merged own zero = []
merged own (suc n) = insert_each (own (suc n)) (merged own n)

pub merged_ordered : (own : ℕ → List Turn) (n : ℕ) → AreInOrder 0 (merged own n)
merged_ordered own zero = tt
merged_ordered own (suc n) = each_ordered (own (suc n)) (merged own n) (merged_ordered own n)

-- what holds of the turns of each holds of all
pub merged_all_of : (P : Turn → Type 0) (own : ℕ → List Turn) (n : ℕ) → ((k : ℕ) → 1 ≤ k → k ≤ n → AllByRecursion P (own k)) → AllByRecursion P (merged own n)
merged_all_of P own zero all = tt
merged_all_of P own (suc n) all = each_all_of P (own (suc n)) (merged own n) (all (suc n) (omega arith) (omega arith)) (merged_all_of P own n (λ k some low. all k some (omega (arith, low))))

-- one behind them has none there
merged_none : (own : ℕ → List Turn) (n k : ℕ) → n < k → ((i : ℕ) → 1 ≤ i → i ≤ n → AreOf i (own i)) → turns_at k (merged own n) ≡ []
merged_none own zero k far own_are = refl
merged_none own (suc n) k far own_are =
    each_other k (suc n) (own (suc n)) (merged own n) (own_are (suc n) (omega arith) (omega arith)) (λ same. omega (arith, same, far)) ∙ merged_none own n k (omega (arith, far)) (λ i some low. own_are i some (omega (arith, low)))

-- and each of them has its own
pub merged_own : (own : ℕ → List Turn) (n k : ℕ) → 1 ≤ k → k ≤ n → ((i : ℕ) → 1 ≤ i → i ≤ n → AreOf i (own i)) → ((i : ℕ) → 1 ≤ i → i ≤ n → AreAbove 0 (own i)) → turns_at k (merged own n) ≡ own k
merged_own own zero k some low own_are above = absurd (omega (arith, some, low))
merged_own own (suc n) k some low own_are above = elim (cases_eq (suc n) k) [
  | inl same ↦ subst (λ (i : ℕ). turns_at i (merged own (suc n)) ≡ own i) same
      (each_own (suc n) 0 (own (suc n)) (merged own n) (own_are (suc n) (omega arith) (omega arith)) (above (suc n) (omega arith) (omega arith)) (merged_none own n (suc n) (omega arith) (λ i first last. own_are i first (omega (arith, last)))))
  | inr away ↦ each_other k (suc n) (own (suc n)) (merged own n) (own_are (suc n) (omega arith) (omega arith)) away
      ∙ merged_own own n k some (omega (arith, low, away)) (λ i first last. own_are i first (omega (arith, last))) (λ i first last. above i first (omega (arith, last)))
]
