-- the pages of a run, one after the other
use Rattle.std.specs.Prelude.{cond, Bool, true, false, nat_lt, zero, suc}
use Rattle.std.proofs.lemmas.Bool.{lt-ltb, ltb-true}
use Rattle.std.proofs.Common.{◌≡◌, ℕ, ◌+◌, ◌-◌, ◌<◌, ◌≤◌, List, [], ◌∷◌, ◌++◌, append_assoc, refl, sym, ◌∙◌, ap, arith}
use Rattle.alp_base.specs.declared.ids.FileId.{FileId}
use Rattle.alp_base.specs.declared.key.Key.TheVariants.{PageOf}
use Rattle.alp_base.specs.declared.key.Resource.TheVariants.{Leaf}
use Rattle.alp_modes.specs.declared.Mode.{Mode}
use Rattle.alp_files.specs.Locks.{Need, page_needs, page_limit}

below_limit : (n : ℕ) → n < 4294967296 → nat_lt n page_limit ≡ true
unfolding page_limit
below_limit n low = lt-ltb n 4294967296 low

past_limit : (n : ℕ) → 4294967296 ≤ n → nat_lt n page_limit ≡ false
unfolding page_limit
past_limit n high = go (nat_lt n 4294967296) refl
  where
    go : (b : Bool) → nat_lt n 4294967296 ≡ b → b ≡ false
    go false e = refl
    go true e = (let low : n < 4294967296 = ltb-true n 4294967296 e in absurd (omega (arith, high, low)))

-- one page more
pub pages_step : (ns : List Need) (f : FileId) (first count i : ℕ) (m : Mode) → i < count → first + i < 4294967296
    → (ns ++ (Leaf (PageOf f (first + i)), m) ∷ []) ++ page_needs f (first + (i + 1)) (count - (i + 1)) m ≡ ns ++ page_needs f (first + i) (count - i) m
pages_step ns f first count i m less low =
    let left : count - i ≡ suc (count - (i + 1)) = omega (arith, less) in
    let next : first + (i + 1) ≡ first + i + 1 = omega arith in
    append_assoc ns ((Leaf (PageOf f (first + i)), m) ∷ []) (page_needs f (first + (i + 1)) (count - (i + 1)) m)
    ∙ ap (λ (n : ℕ). ns ++ (Leaf (PageOf f (first + i)), m) ∷ page_needs f n (count - (i + 1)) m) next
    ∙ ap (λ (b : Bool). ns ++ cond {A = List Need} b ((Leaf (PageOf f (first + i)), m) ∷ page_needs f (first + i + 1) (count - (i + 1)) m) []) (sym (below_limit (first + i) low))
    ∙ ap (λ (n : ℕ). ns ++ page_needs f (first + i) n m) (sym left)

-- and none past the last number
pub pages_past : (f : FileId) (first count : ℕ) (m : Mode) → 4294967296 ≤ first → page_needs f first count m ≡ []
pages_past f first zero m high = refl
pages_past f first (suc n) m high = ap (λ (b : Bool). cond {A = List Need} b ((Leaf (PageOf f first), m) ∷ page_needs f (first + 1) n m) []) (past_limit first high)
