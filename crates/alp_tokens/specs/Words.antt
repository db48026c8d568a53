-- lines of text, and their words
use Rattle.std.specs.Prelude.{ℕ, ◌&&◌, ◌||◌, not, ◌==◌, nat_eq, nat_le, nat_lt, Bool, List, [], ◌∷◌, length, map, filter, Option, None, Some, if◌then◌else◌}
use Rattle.std.specs.Borrow.{Bor}
use Rattle.std.specs.List.{slice_split, list_all, starts_with, ends_with}
use Rattle.std.specs.Cmp.Lexicographic.{pointwise}
use Rattle.alp_tokens.specs.declared.words.TheConstants.{LINE_BYTES}

infixl 10 ◌>>=◌
abbrev pub ◌>>=◌ : {A B : Type 0} → Option A → (A → Option B) → Option B
None >>= f = None
(Some x) >>= f = f x

-- the value, where the test holds
abbrev pub when : {A : Type 0} → Bool → A → Option A
when b x = if b then Some x else None

-- what borrowed parts are
abbrev pub shown : List (Bor (List ℕ)) → List (List ℕ)
shown ws = map (λ (w : Bor (List ℕ)). w.now) ws

abbrev pub is_ascii : ℕ → Bool
is_ascii b = nat_lt b 128

-- a line of a script is ASCII and not too long
abbrev pub is_line : List ℕ → Bool
is_line text = nat_le (length text) LINE_BYTES && list_all is_ascii text

-- the parts of the bytes between separators
abbrev pub parts_at : ℕ → List ℕ → List (List ℕ)
parts_at separator bytes = slice_split (λ b. b == separator) bytes

abbrev pub is_word : List ℕ → Bool
is_word w = not (length w == 0)

-- a space leads or trails
abbrev pub is_ragged : List ℕ → Bool
is_ragged text = starts_with nat_eq text (32 ∷ []) || ends_with nat_eq text (32 ∷ [])

-- the words between spaces, where no space leads or trails
unfoldable pub words_of : List ℕ → Option (List (List ℕ))
words_of text = if is_ragged text then None else Some (filter is_word (parts_at 32 text))

abbrev pub says : List ℕ → List ℕ → Bool
says w text = pointwise nat_eq w text
