-- how far calls have come
use Rattle.std.specs.Prelude.{true, false, Bool, cond, ◌==◌, ◌&&◌, ◌||◌, nat_le}
use Rattle.std.proofs.Common.{inl, inr, ◌⊎◌, ◌≡◌, ◌≢◌, ℕ, suc, ◌+◌, ◌<◌, ◌≤◌, ◌^◌, refl, sym, ◌∙◌, ap, subst, arith}
use Rattle.std.proofs.Math.Dec.{leb}
use Rattle.std.proofs.lemmas.Bool.Decides.{eqb_tells, leb_tells}
use Rattle.alp_files.specs.declared.call.Call.{Call}
use Rattle.alp_files.specs.declared.call.Call.TheVariants as call
use Rattle.alp_session.specs.declared.greeted.Greeted.{Greeted}
use Rattle.alp_session.specs.Frames.{number_after}
use Rattle.alp_session.proofs.FrameLemmas.{number_next}
use Rattle.alp_node.specs.Turns.{is_greeting}
use Rattle.alp_cluster.specs.Come.{Come, IsUpTo, IsBelow, is_up_to, further}
use Rattle.alp_cluster.specs.Clients.{come_in, come_by, IsOwnTurn, IsAgainTurn}

-- what holds of both holds of the later one
pub further_has : (P : Come → Type 0) (a b : Come) → P a → P b → P (further a b)
further_has P a b first second = go (is_up_to a b)
  where
    go : (x : Bool) → P (cond x b a)
    go true = second
    go false = first

pub come_by_has : (P : Come → Type 0) (a b : Come) (c : Call) → P a → (is_greeting c ≡ false → P b) → P (come_by a c b)
come_by_has P a b (call.Hello name) first second = first
come_by_has P a b c first second = further_has P a b first (second refl)

pub own_turn : (a b : Come) (c : Call) → is_greeting c ≡ false → 0 < b.epoch → IsBelow a b → IsOwnTurn a b c
own_turn a b (call.Hello name) other some below = cc
own_turn a b c other some below = (some, below)

pub again_turn : (b : Come) (c : Call) → (is_greeting c ≡ false → 0 < b.epoch) → IsAgainTurn b c
again_turn b (call.Hello name) some = tt
again_turn b c some = some refl

-- ---- the number behind the last one

pub after_small : (n : ℕ) → number_after n < 2 ^ 32
after_small n = omega arith

pub after_most : (n : ℕ) → number_after n ≤ n + 1
after_most n = omega arith

pub after_least : (n : ℕ) → n < 2 ^ 32 → n ≤ number_after n
after_least n small = omega (arith, small)

-- what is within a session is within it with one call more
pub within_more : (g : Greeted) (a : Come) → g.last < 2 ^ 32 → IsUpTo a (come_in g) → IsUpTo a (record { epoch = g.epoch; number = number_after g.last })
within_more g a small (inl lower) = inl lower
within_more g a small (inr (same, low)) = inr (same, (let up : g.last ≤ number_after g.last = after_least g.last small in omega (arith, low, up)))

-- and below the next call, where that has its number
pub below_more : (g : Greeted) (a : Come) → g.last + 1 < 2 ^ 32 → IsUpTo a (come_in g) → IsBelow a (record { epoch = g.epoch; number = number_after g.last })
below_more g a small (inl lower) = inl lower
below_more g a small (inr (same, low)) = inr (same, (let next : number_after g.last ≡ g.last + 1 = number_next g.last small in omega (arith, low, next)))

pub up_to_self : (a : Come) → IsUpTo a a
up_to_self a = inr (refl, omega arith)

-- ---- which of two is the later one

up_to_tells : (a b : Come) → ((is_up_to a b ≡ true) × IsUpTo a b) ⊎ ((is_up_to a b ≡ false) × IsUpTo b a)
up_to_tells a b = go (leb_tells (suc a.epoch) b.epoch) (eqb_tells a.epoch b.epoch) (leb_tells a.number b.number)
  where
    past : b.epoch < suc a.epoch → a.epoch ≢ b.epoch → b.epoch < a.epoch
    past low other = elim (leb_tells a.epoch b.epoch) [
      | inl up ↦ (let most : a.epoch ≤ b.epoch = up.1 in absurd (other (omega (arith, low, most))))
      | inr down ↦ down.1
    ]

    go : ((leb (suc a.epoch) b.epoch ≡ true) × (suc a.epoch ≤ b.epoch)) ⊎ ((leb (suc a.epoch) b.epoch ≡ false) × (b.epoch < suc a.epoch)) → (((a.epoch == b.epoch) ≡ true) × (a.epoch ≡ b.epoch)) ⊎ (((a.epoch == b.epoch) ≡ false) × (a.epoch ≢ b.epoch))
        → ((leb a.number b.number ≡ true) × (a.number ≤ b.number)) ⊎ ((leb a.number b.number ≡ false) × (b.number < a.number)) → ((is_up_to a b ≡ true) × IsUpTo a b) ⊎ ((is_up_to a b ≡ false) × IsUpTo b a)
    go (inl lower) same less = inl (ap (λ (x : Bool). x || (a.epoch == b.epoch) && nat_le a.number b.number) lower.0, inl (let low : suc a.epoch ≤ b.epoch = lower.1 in omega (arith, low)))
    go (inr not_lower) (inl same) (inl less) = inl ((λ i. not_lower.0 i || same.0 i && less.0 i), inr (same.1, less.1))
    go (inr not_lower) (inl same) (inr more) = inr ((λ i. not_lower.0 i || same.0 i && more.0 i), inr (sym same.1, (let low : b.number < a.number = more.1 in omega (arith, low))))
    go (inr not_lower) (inr other) less = inr ((λ i. not_lower.0 i || other.0 i && nat_le a.number b.number), inl (past not_lower.1 other.1))

pub up_to_left : (a b : Come) → IsUpTo a (further a b)
up_to_left a b = elim (up_to_tells a b) [
  | inl h ↦ subst (λ (x : Bool). IsUpTo a (cond x b a)) (sym h.0) h.1
  | inr h ↦ subst (λ (x : Bool). IsUpTo a (cond x b a)) (sym h.0) (up_to_self a)
]

pub up_to_right : (a b : Come) → IsUpTo b (further a b)
up_to_right a b = elim (up_to_tells a b) [
  | inl h ↦ subst (λ (x : Bool). IsUpTo b (cond x b a)) (sym h.0) (up_to_self b)
  | inr h ↦ subst (λ (x : Bool). IsUpTo b (cond x b a)) (sym h.0) h.1
]

pub below_after : (a b c : Come) → IsUpTo a b → IsBelow b c → IsBelow a c
below_after a b c (inl low) (inl up) = inl (omega (arith, low, up))
below_after a b c (inl low) (inr up) = (let same : b.epoch ≡ c.epoch = up.0 in inl (omega (arith, low, same)))
below_after a b c (inr low) (inl up) = (let same : a.epoch ≡ b.epoch = low.0 in inl (omega (arith, same, up)))
below_after a b c (inr low) (inr up) = (let one : a.number ≤ b.number = low.1 in let two : b.number < c.number = up.1 in inr (low.0 ∙ up.0, omega (arith, one, two)))
