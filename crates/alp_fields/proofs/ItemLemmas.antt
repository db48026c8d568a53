-- Items that are read one behind the other, and whether their spellings rise.
use Rattle.std.proofs.Common.{◌≡◌, ℕ, zero, suc, ◌+◌, ◌-◌, ◌<◌, ◌≤◌, Bool, true, false, ◌&&◌, List, [], ◌∷◌, ◌++◌, length, get_or, take, Option, Some, None, refl, sym, ap, ◌∙◌, arith, length-append}
use Rattle.std.specs.Prelude.{map as list_map}
use Rattle.std.specs.List.{AllByRecursion}
use Rattle.std.proofs.lemmas.List.{map-append, take_at}
use Rattle.alp_fields.specs.Forms.{Form, IsForm, sized, repeated, u16}
use Rattle.alp_fields.specs.Rising.{rises_from, text_below, rise, rising}
use Rattle.alp_fields.proofs.FormLaws.{checked_law, sized_law, repeated_law, repeated_size}
use Rattle.alp_fields.proofs.FieldLaws.{u16_law}
use Rattle.alp_fields.proofs.RepeatLemmas.{RepeatsSoFar, begins, goes_on}

pub rising_law : {A : Type 0} (item : Form A) → IsForm item → IsForm (rising item)
rising_law item law = checked_law (rise item) (sized u16 (repeated item) length) (sized_law u16 (repeated item) length u16_law (λ n. repeated_law item n law) (repeated_size item))

-- ---- one more

-- the last of some texts, or what stands before them
abbrev pub last_from : List ℕ → List (List ℕ) → List ℕ
last_from x [] = x
last_from x (y ∷ ys) = last_from y ys

and_grouped : (a b c : Bool) → (a && (b && c)) ≡ ((a && b) && c)
and_grouped true b c = refl
and_grouped false b c = refl

and_one : (a : Bool) → (a && true) ≡ (true && a)
and_one true = refl
and_one false = refl

rises_more : (x : List ℕ) (ys : List (List ℕ)) (y : List ℕ) → rises_from text_below x (ys ++ y ∷ []) ≡ (rises_from text_below x ys && text_below (last_from x ys) y)
rises_more x [] y = and_one (text_below x y)
rises_more x (z ∷ zs) y =
    ap (λ (b : Bool). text_below x z && b) (rises_more z zs y) ∙ and_grouped (text_below x z) (rises_from text_below z zs) (text_below (last_from z zs) y)

last_more : (x : List ℕ) (ys : List (List ℕ)) (y : List ℕ) → last_from x (ys ++ y ∷ []) ≡ y
last_more x [] y = refl
last_more x (z ∷ zs) y = last_more z zs y

-- ---- the loop that reads items

-- i of the count are read and stand in front, they rise or not, and these are the bytes of the last one
pub record ReadSoFar {A : Type 0} (a : Form A) (count i : ℕ) (front : List A) (bytes start : List ℕ) (rises : Bool) (last : List ℕ) : Type 0 where
  pub repeats : RepeatsSoFar a count i front bytes start
  pub rises_as : rises ≡ rise a front
  pub last_as : last ≡ last_from [] (list_map a.spell front)

pub read_begins : {A : Type 0} (a : Form A) (count : ℕ) (start : List ℕ) → ReadSoFar a count 0 [] start start true []
read_begins a count start = record { repeats = begins a count start; rises_as = refl; last_as = refl }

-- what is read is not longer than what there was
pub rest_shorter : {A : Type 0} (a : Form A) → IsForm a → (before after : List ℕ) (v : A) → a.read before ≡ Some (v, after) → length after ≤ length before
rest_shorter a law before after v e =
    let is : length before ≡ length (a.spell v ++ after) = ap (λ (bs : List ℕ). length bs) (law.spelled before v after e).0 in
    omega (arith, is, length-append (a.spell v) after)

-- the bytes in front of the rest are the spelling
pub front_spelled : {A : Type 0} (a : Form A) → IsForm a → (before after : List ℕ) (v : A) → a.read before ≡ Some (v, after) → take (length before - length after) before ≡ a.spell v
front_spelled a law before after v e =
    let is : before ≡ a.spell v ++ after = (law.spelled before v after e).0 in
    let len : length before - length after ≡ length (a.spell v) = omega (arith, ap (λ (bs : List ℕ). length bs) is, length-append (a.spell v) after) in
    ap (λ (k : ℕ). take k before) len ∙ ap (take (length (a.spell v))) is ∙ take_at (a.spell v) after (length (a.spell v)) refl

pub read_goes_on : {A : Type 0} (a : Form A) → IsForm a → (count i : ℕ) (front : List A) (before start after : List ℕ) (rises : Bool) (last bytes : List ℕ) (v : A) → i < count → a.read before ≡ Some (v, after)
    → bytes ≡ take (length before - length after) before → ReadSoFar a count i front before start rises last
    → ReadSoFar a count (i + 1) (front ++ v ∷ []) after start (rises && text_below last bytes) bytes
read_goes_on a law count i front before start after rises last bytes v lt e taken so_far =
    let texts : List (List ℕ) = list_map a.spell front in
    let more : list_map a.spell (front ++ v ∷ []) ≡ texts ++ a.spell v ∷ [] = map-append a.spell front (v ∷ []) in
    let one : bytes ≡ a.spell v = taken ∙ front_spelled a law before after v e in
    record {
      repeats = goes_on a count i front before start after v lt e so_far.repeats;
      rises_as = ap (λ (b : Bool). b && text_below last bytes) so_far.rises_as
          ∙ ap (λ (x : List ℕ). rise a front && text_below x bytes) so_far.last_as
          ∙ ap (λ (x : List ℕ). rise a front && text_below (last_from [] texts) x) one
          ∙ sym (rises_more [] texts (a.spell v)) ∙ ap (rises_from text_below []) (sym more);
      last_as = one ∙ sym (last_more [] texts (a.spell v)) ∙ ap (last_from []) (sym more);
    }

-- ---- items that are written

pub each_at : {A : Type 0} (P : A → Type 0) (xs : List A) (i : ℕ) (d : A) → AllByRecursion P xs → i < length xs → P (get_or xs i d)
each_at P [] i d all low = absurd (omega (arith, low))
each_at P (x ∷ xs) zero d all low = all.0
each_at P (x ∷ xs) (suc i) d all low = each_at P xs i d all.1 (omega (arith, low))

-- of which nothing is asked
pub each_free : {A : Type 0} (xs : List A) → AllByRecursion (λ (x : A). Unit {0}) xs
each_free [] = tt
each_free (x ∷ xs) = (tt, each_free xs)
