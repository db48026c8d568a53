-- ids that compare alike are one; lists of joins
use Rattle.std.specs.Prelude.{Bool, true, false, cond, ◌&&◌, ◌||◌, ◌==◌, filter}
use Rattle.std.specs.List.{list_all, AllByRecursion}
use Rattle.std.proofs.Common.{◌≡◌, List, [], ◌∷◌, ◌++◌, refl, ap, subst, ◌∙◌, inl, inr, ◌⊎◌, eq-eqb}
use Rattle.std.proofs.lemmas.Bool.{eqb-true, and_parts}
use Rattle.alp_base.specs.declared.ids.JoinNo.{JoinNo}
use Rattle.alp_base.specs.declared.ids.TransId.{TransId}
use Rattle.alp_journal.specs.Ids.{same_trans, same_join, has_join}

pub same_trans-true : (u t : TransId) → same_trans u t ≡ true → u ≡ t
same_trans-true u t e =
    let both = and_parts (u.server == t.server && u.epoch == t.epoch) (u.counter == t.counter) e in
    let first = and_parts (u.server == t.server) (u.epoch == t.epoch) both.0 in
    let server : u.server ≡ t.server = eqb-true u.server t.server first.0 in
    let epoch : u.epoch ≡ t.epoch = eqb-true u.epoch t.epoch first.1 in
    let counter : u.counter ≡ t.counter = eqb-true u.counter t.counter both.1 in
    λ i. record { server = server i; epoch = epoch i; counter = counter i }

pub same_join-true : (u t : JoinNo) → same_join u t ≡ true → u ≡ t
same_join-true u t e =
    let both = and_parts (u.server == t.server && u.epoch == t.epoch) (u.counter == t.counter) e in
    let first = and_parts (u.server == t.server) (u.epoch == t.epoch) both.0 in
    let server : u.server ≡ t.server = eqb-true u.server t.server first.0 in
    let epoch : u.epoch ≡ t.epoch = eqb-true u.epoch t.epoch first.1 in
    let counter : u.counter ≡ t.counter = eqb-true u.counter t.counter both.1 in
    λ i. record { server = server i; epoch = epoch i; counter = counter i }

pub same_trans-itself : (t : TransId) → same_trans t t ≡ true
same_trans-itself t =
    ap (λ (b : Bool). b && t.epoch == t.epoch && t.counter == t.counter) (eq-eqb t.server t.server refl)
    ∙ ap (λ (b : Bool). b && t.counter == t.counter) (eq-eqb t.epoch t.epoch refl) ∙ eq-eqb t.counter t.counter refl

pub or-true : (a b : Bool) → (a || b) ≡ true → (a ≡ true) ⊎ (b ≡ true)
or-true true b h = inl refl
or-true false b h = inr h

-- one of these, where each passes
pub all-each : (p : JoinNo → Bool) (js : List JoinNo) (j : JoinNo) → list_all p js ≡ true → has_join j js ≡ true → p j ≡ true
all-each p [] j h i = cc
all-each p (k ∷ js) j h i =
    let parts = and_parts (p k) (list_all p js) h in
    elim (or-true (same_join k j) (has_join j js) i) [
      | inl same ↦ subst (λ x. p x ≡ true) (same_join-true k j same) parts.0
      | inr more ↦ all-each p js j parts.1 more
    ]

pub all-append : {A : Type 0} (P : A → Type 0) (xs ys : List A) → AllByRecursion P xs → AllByRecursion P ys → AllByRecursion P (xs ++ ys)
all-append P [] ys h k = k
all-append P (x ∷ xs) ys h k = (h.0, all-append P xs ys h.1 k)

pub all-filter : {A : Type 0} (P : A → Type 0) (p : A → Bool) (xs : List A) → AllByRecursion P xs → AllByRecursion P (filter p xs)
all-filter P p [] h = tt
all-filter P p (x ∷ xs) h = go (p x) (all-filter P p xs h.1)
  where
    go : (b : Bool) → AllByRecursion P (filter p xs) → AllByRecursion P (cond b (x ∷ filter p xs) (filter p xs))
    go true k = (h.0, k)
    go false k = k
