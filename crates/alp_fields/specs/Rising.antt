-- Lists in which each item lies below the next one.
use Rattle.std.specs.Prelude.{ℕ, Bool, true, ◌&&◌, List, [], ◌∷◌, length, map as list_map}
use Rattle.std.specs.Ordering.{nat_cmp, is_lt}
use Rattle.std.specs.Cmp.Lexicographic.{slice_cmp}
use Rattle.alp_fields.specs.Forms.{Form, checked, sized, repeated, u16}

-- the first lies above x, and each of the others above the one before it
abbrev pub rises_from : {A : Type 0} → (A → A → Bool) → A → List A → Bool
rises_from below x [] = true
rises_from below x (y ∷ ys) = below x y && rises_from below y ys

abbrev pub is_rising : {A : Type 0} → (A → A → Bool) → List A → Bool
is_rising below [] = true
is_rising below (x ∷ xs) = rises_from below x xs

-- the order of texts: by the first byte that differs, and a text that begins another stands before it
abbrev pub text_below : List ℕ → List ℕ → Bool
text_below a b = is_lt (slice_cmp nat_cmp a b)

-- ---- lists that are spelled in rising order

-- the spellings rise, and the first lies above no bytes at all
abbrev pub rise : {A : Type 0} → Form A → List A → Bool
rise item xs = rises_from text_below [] (list_map item.spell xs)

-- how many, and the items
abbrev pub rising : {A : Type 0} → Form A → Form (List A)
rising item = checked (rise item) (sized u16 (repeated item) length)
