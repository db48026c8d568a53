-- numbers stand in the order of their bytes
use Rattle.std.specs.Prelude.{cond, Bool, true, false, ◌==◌, nat_lt}
use Rattle.std.specs.Int.{w32, byte_at, to_be_bytes, from_be_bytes}
use Rattle.std.specs.declared.cmp.Ordering.{Ordering}
use Rattle.std.specs.declared.cmp.Ordering.TheVariants.{Less, Equal, Greater}
use Rattle.std.specs.Ordering.{nat_cmp, ordering_then}
use Rattle.std.specs.Cmp.Lexicographic.{slice_cmp}
use Rattle.std.proofs.Common.{◌≡◌, ℕ, suc, zero, ◌+◌, ◌*◌, ◌/◌, ◌<◌, ◌≤◌, ◌^◌, List, ◌++◌, refl, sym, ◌∙◌, ap, arith}
use Rattle.std.proofs.lemmas.Bool.{ltb-true, lt-ltb, ltb-false, eqb-true, eq-eqb}
use Rattle.std.proofs.lemmas.Nat.{mod_below, from_be_bytes-to_be_bytes_4}
use Rattle.alp_fields.specs.Forms.{u32}

pub then_assoc : (a b c : Ordering) → ordering_then (ordering_then a b) c ≡ ordering_then a (ordering_then b c)
then_assoc Less b c = refl
then_assoc Equal b c = refl
then_assoc Greater b c = refl

-- ---- what the order of two numbers says

cmp_at : (m n : ℕ) (a b : Bool) → nat_lt m n ≡ a → (m == n) ≡ b → nat_cmp m n ≡ cond a Less (cond b Equal Greater)
cmp_at m n a b e h = λ i. cond (e i) Less (cond (h i) Equal Greater)

not_less : (m n : ℕ) → (m < n → ⊥) → nat_lt m n ≡ false
not_less m n none = go (nat_lt m n) refl
  where
    go : (b : Bool) → nat_lt m n ≡ b → b ≡ false
    go true e = absurd (none (ltb-true m n e))
    go false e = refl

not_same : (m n : ℕ) → (m ≡ n → ⊥) → (m == n) ≡ false
not_same m n none = go (m == n) refl
  where
    go : (b : Bool) → (m == n) ≡ b → b ≡ false
    go true e = absurd (none (eqb-true m n e))
    go false e = refl

pub cmp_less : (m n : ℕ) → m < n → nat_cmp m n ≡ Less
cmp_less m n h = ap (λ (b : Bool). cond b Less (cond (m == n) Equal Greater)) (lt-ltb m n h)

pub cmp_equal : (m n : ℕ) → m ≡ n → nat_cmp m n ≡ Equal
cmp_equal m n h = cmp_at m n false true (not_less m n (λ less. absurd (omega (arith, less, h)))) (eq-eqb m n h)

pub cmp_greater : (m n : ℕ) → n < m → nat_cmp m n ≡ Greater
cmp_greater m n h = cmp_at m n false false (not_less m n (λ less. absurd (omega (arith, less, h)))) (not_same m n (λ same. absurd (omega (arith, same, h))))

-- the order, and what it says
pub data Is (m n : ℕ) : Ordering → Type 0 where
  less : m < n → Is m n Less
  equal : m ≡ n → Is m n Equal
  greater : n < m → Is m n Greater

pub cmp_is : (m n : ℕ) → Is m n (nat_cmp m n)
cmp_is m n = go (nat_lt m n) refl (m == n) refl
  where
    go : (a : Bool) → nat_lt m n ≡ a → (b : Bool) → (m == n) ≡ b → Is m n (cond a Less (cond b Equal Greater))
    go true e b h = less (ltb-true m n e)
    go false e true h = equal (eqb-true m n h)
    go false e false h = greater (above (ltb-false m n e) h)
      where
        above : n ≤ m → (m == n) ≡ false → n < m
        above low apart = more (nat_lt n m) refl
          where
            more : (c : Bool) → nat_lt n m ≡ c → n < m
            more true f = ltb-true n m f
            more false f = (let same : (m == n) ≡ true = eq-eqb m n (omega (arith, low, ltb-false n m f)) in let wrong : true ≡ false = sym same ∙ apart in cc)

-- ---- four digits

-- one digit decides where it differs
decide : (p q m n : ℕ) (rest z : Ordering) → (p < q → m < n) → (q < p → n < m) → (p ≡ q → rest ≡ ordering_then (nat_cmp m n) z) → ordering_then (nat_cmp p q) rest ≡ ordering_then (nat_cmp m n) z
decide p q m n rest z low high same = go (nat_cmp p q) (cmp_is p q)
  where
    go : (o : Ordering) → Is p q o → ordering_then o rest ≡ ordering_then (nat_cmp m n) z
    go Less (less h) = sym (ap (λ (o : Ordering). ordering_then o z) (cmp_less m n (low h)))
    go Equal (equal h) = same h
    go Greater (greater h) = sym (ap (λ (o : Ordering). ordering_then o z) (cmp_greater m n (high h)))

-- a number of four digits
record Digits (m d c b a : ℕ) : Type 0 where
  sum : d * 16777216 + c * 65536 + b * 256 + a ≡ m
  third : c < 256
  second : b < 256
  first : a < 256

digits_decide : (m d c b a n h g f e : ℕ) (z : Ordering) → Digits m d c b a → Digits n h g f e
    → ordering_then (nat_cmp d h) (ordering_then (nat_cmp c g) (ordering_then (nat_cmp b f) (ordering_then (nat_cmp a e) z))) ≡ ordering_then (nat_cmp m n) z
digits_decide m d c b a n h g f e z x y =
    decide d h m n (ordering_then (nat_cmp c g) (ordering_then (nat_cmp b f) (ordering_then (nat_cmp a e) z))) z
    (λ i. omega (arith, i, x.sum, x.third, x.second, x.first, y.sum, y.third, y.second, y.first))
    (λ i. omega (arith, i, x.sum, x.third, x.second, x.first, y.sum, y.third, y.second, y.first))
    (λ s3. decide c g m n (ordering_then (nat_cmp b f) (ordering_then (nat_cmp a e) z)) z
    (λ i. omega (arith, s3, i, x.sum, x.third, x.second, x.first, y.sum, y.third, y.second, y.first))
    (λ i. omega (arith, s3, i, x.sum, x.third, x.second, x.first, y.sum, y.third, y.second, y.first))
    (λ s2. decide b f m n (ordering_then (nat_cmp a e) z) z
    (λ i. omega (arith, s3, s2, i, x.sum, x.third, x.second, x.first, y.sum, y.third, y.second, y.first))
    (λ i. omega (arith, s3, s2, i, x.sum, x.third, x.second, x.first, y.sum, y.third, y.second, y.first))
    (λ s1. decide a e m n z z
    (λ i. omega (arith, s3, s2, s1, i, x.sum, y.sum))
    (λ i. omega (arith, s3, s2, s1, i, x.sum, y.sum))
    (λ s0. sym (ap (λ (o : Ordering). ordering_then o z) (cmp_equal m n (omega (arith, s3, s2, s1, s0, x.sum, y.sum))))))))

byte_below : (i n : ℕ) → byte_at i n < 256
byte_below zero n = mod_below n 256 (omega arith)
byte_below (suc i) n = mod_below (n / 256 ^ suc i) 256 (omega arith)

digits : (m : ℕ) → m < 2 ^ 32 → Digits m (byte_at 3 m) (byte_at 2 m) (byte_at 1 m) (byte_at 0 m)
digits m few = record {
  sum = (let back : from_be_bytes w32 (to_be_bytes w32 m) ≡ m = from_be_bytes-to_be_bytes_4 m few in omega (arith, back));
  third = byte_below 2 m;
  second = byte_below 1 m;
  first = byte_below 0 m;
}

-- a number of 32 bits, and what stands behind it
pub u32_order : (m n : ℕ) (x y : List ℕ) → m < 2 ^ 32 → n < 2 ^ 32 → slice_cmp nat_cmp (u32.spell m ++ x) (u32.spell n ++ y) ≡ ordering_then (nat_cmp m n) (slice_cmp nat_cmp x y)
unfolding u32
u32_order m n x y a b =
    digits_decide m (byte_at 3 m) (byte_at 2 m) (byte_at 1 m) (byte_at 0 m) n (byte_at 3 n) (byte_at 2 n) (byte_at 1 n) (byte_at 0 n) (slice_cmp nat_cmp x y) (digits m a) (digits n b)
