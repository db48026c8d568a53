-- which words are bound where the files are created
use Rattle.std.specs.Prelude.{Bool}
use Rattle.std.specs.List.{list_any, range_with_len}
use Rattle.std.specs.Ordering.{nat_cmp, is_eq, match_ordering}
use Rattle.std.specs.declared.cmp.Ordering.{Ordering}
use Rattle.std.specs.declared.cmp.Ordering.TheVariants.{Less, Equal, Greater}
use Rattle.std.specs.BTreeMap.{is_at}
use Rattle.std.specs.BTreeSet.{insert_key}
use Rattle.std.proofs.Common.{◌≡◌, ◌⊎◌, ℕ, zero, suc, ◌+◌, ◌*◌, ◌<◌, ◌≤◌, List, [], ◌∷◌, true, refl, sym, ◌∙◌, ap, subst, arith, inl, inr}
use Rattle.std.proofs.lemmas.Bool.{or_left, or_right, or_cases, cases_eq, cases_lt}
use Rattle.std.proofs.lemmas.Cmp.{tied_itself, nat_list_cmp_total}
use Rattle.alp_script.specs.Order.{word_cmp}
use Rattle.alp_drill.specs.declared.shape.Shape.{Shape}
use Rattle.alp_drill.specs.Shapes.{files_of}
use Rattle.alp_drill.specs.Files.{file_name}

-- the words behind create lines of these files
abbrev pub bind : List (List ℕ) → List ℕ → List (List ℕ)
bind words [] = words
bind words (i ∷ is) = bind (insert_key word_cmp words (file_name i)) is

-- and behind those of these groups
abbrev pub bind_groups : List (List ℕ) → List ℕ → List (List ℕ)
bind_groups words [] = words
bind_groups words (g ∷ gs) = bind_groups (bind words (range_with_len (10 * g) 10)) gs

-- the word of a file is among them
abbrev pub IsBound : List (List ℕ) → ℕ → Type 0
IsBound words i = list_any (is_at (word_cmp (file_name i))) words ≡ true

kept_by : (p : List ℕ → Bool) (k x : List ℕ) (xs more : List (List ℕ)) (o : Ordering) → (list_any p xs ≡ true → list_any p more ≡ true)
    → list_any p (x ∷ xs) ≡ true → list_any p (match_ordering o (k ∷ x ∷ xs) (x ∷ xs) (x ∷ more)) ≡ true
kept_by p k x xs more Less there h = or_right (p k) _ h
kept_by p k x xs more Equal there h = h
kept_by p k x xs more Greater there h = elim (or_cases (p x) (list_any p xs) h) [
  | inl here ↦ or_left (p x) (list_any p more) here
  | inr later ↦ or_right (p x) (list_any p more) (there later)
]

-- what is among the words stays so
kept : (p : List ℕ → Bool) (k : List ℕ) (xs : List (List ℕ)) → list_any p xs ≡ true → list_any p (insert_key word_cmp xs k) ≡ true
kept p k [] h = cc
kept p k (x ∷ xs) h = kept_by p k x xs (insert_key word_cmp xs k) (word_cmp k x) (kept p k xs) h

inserted_by : (k x : List ℕ) (xs more : List (List ℕ)) (o : Ordering) → word_cmp k x ≡ o → list_any (is_at (word_cmp k)) more ≡ true
    → list_any (is_at (word_cmp k)) (match_ordering o (k ∷ x ∷ xs) (x ∷ xs) (x ∷ more)) ≡ true
inserted_by k x xs more Less e there = or_left (is_at (word_cmp k) k) _ (ap is_eq (tied_itself nat_list_cmp_total k))
inserted_by k x xs more Equal e there = or_left (is_at (word_cmp k) x) _ (ap is_eq e)
inserted_by k x xs more Greater e there = or_right (is_at (word_cmp k) x) _ there

-- and the new word is among them
inserted : (k : List ℕ) (xs : List (List ℕ)) → list_any (is_at (word_cmp k)) (insert_key word_cmp xs k) ≡ true
inserted k [] = or_left (is_at (word_cmp k) k) _ (ap is_eq (tied_itself nat_list_cmp_total k))
inserted k (x ∷ xs) = inserted_by k x xs (insert_key word_cmp xs k) (word_cmp k x) refl (inserted k xs)

bind_keeps : (j : ℕ) (words : List (List ℕ)) (is : List ℕ) → IsBound words j → IsBound (bind words is) j
bind_keeps j words [] h = h
bind_keeps j words (i ∷ is) h = bind_keeps j (insert_key word_cmp words (file_name i)) is (kept (is_at (word_cmp (file_name j))) (file_name i) words h)

bind_has : (j : ℕ) (words : List (List ℕ)) (a n : ℕ) → a ≤ j → j < a + n → IsBound (bind words (range_with_len a n)) j
bind_has j words a zero least most = absurd (omega (arith, least, most))
bind_has j words a (suc n) least most = elim (cases_eq j a) [
  | inl same ↦ bind_keeps j (insert_key word_cmp words (file_name a)) (range_with_len (a + 1) n)
      (subst (λ (i : ℕ). list_any (is_at (word_cmp (file_name j))) (insert_key word_cmp words (file_name i)) ≡ true) same (inserted (file_name j) words))
  | inr other ↦ bind_has j (insert_key word_cmp words (file_name a)) (a + 1) n (omega (arith, least, other)) (omega (arith, most))
]

bind_groups_keeps : (j : ℕ) (words : List (List ℕ)) (gs : List ℕ) → IsBound words j → IsBound (bind_groups words gs) j
bind_groups_keeps j words [] h = h
bind_groups_keeps j words (g ∷ gs) h = bind_groups_keeps j (bind words (range_with_len (10 * g) 10)) gs (bind_keeps j words (range_with_len (10 * g) 10) h)

bind_groups_has : (j : ℕ) (words : List (List ℕ)) (a n : ℕ) → 10 * a ≤ j → j < 10 * (a + n) → IsBound (bind_groups words (range_with_len a n)) j
bind_groups_has j words a zero least most = absurd (omega (arith, least, most))
bind_groups_has j words a (suc n) least most = elim (cases_lt j (10 * a + 10)) [
  | inl here ↦ bind_groups_keeps j (bind words (range_with_len (10 * a) 10)) (range_with_len (a + 1) n) (bind_has j words (10 * a) 10 least here)
  | inr later ↦ bind_groups_has j (bind words (range_with_len (10 * a) 10)) (a + 1) n (omega (arith, later)) (omega (arith, most))
]

-- the words of all files
unfoldable pub all_words : Shape → List (List ℕ)
all_words shape = bind_groups [] (range_with_len 0 shape.groups)

pub all_bound : (shape : Shape) (j : ℕ) → j < files_of shape → IsBound (all_words shape) j
unfolding all_words
all_bound shape j low = bind_groups_has j [] 0 shape.groups (omega arith) (omega (arith, low))
