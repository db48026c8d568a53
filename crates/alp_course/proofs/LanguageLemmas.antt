-- What may occur, put together and cut off.
use Rattle.std.specs.Prelude.{Bool, true, false}
use Rattle.std.proofs.Common.{◌≡◌, ℕ, zero, suc, ◌+◌, ◌≤◌, ◌-◌, List, [], ◌∷◌, ◌++◌, refl, sym, ◌∙◌, ap, subst, arith}
use Rattle.std.proofs.lemmas.List.{append-nil, append_assoc}
use Rattle.alp_course.specs.Courses.{Course, Occurrence, AreCourse}
use Rattle.alp_course.specs.Languages.{Language, Nothing, Just, Then, Each}
use Rattle.alp_course.specs.Plays.{Due, to_come, IsCut}

-- ---- courses

pub course_append : (r mid after : Course) (xs ys : List Occurrence) → AreCourse r xs mid → AreCourse mid ys after → AreCourse r (xs ++ ys) after
course_append r mid after [] ys h k = subst (λ (c : Course). AreCourse c ys after) h k
course_append r mid after (x ∷ xs) ys h k = (h.0, h.1, course_append h.0 mid after xs ys h.2 k)

-- a course that is put together goes over a state in between
pub record IsVia (r : Course) (xs ys : List Occurrence) (after : Course) : Type 0 where
  pub mid : Course
  pub first : AreCourse r xs mid
  pub second : AreCourse mid ys after

pub course_split : (r after : Course) (xs ys : List Occurrence) → AreCourse r (xs ++ ys) after → IsVia r xs ys after
course_split r after [] ys h = record { mid = r; first = refl; second = h }
course_split r after (x ∷ xs) ys h = (let v : IsVia h.0 xs ys after = course_split h.0 after xs ys h.2 in record { mid = v.mid; first = (h.0, h.1, v.first); second = v.second })

-- ---- words

pub then_word : (A B : Language) (xs ys : List Occurrence) → A xs → B ys → Then A B (xs ++ ys)
then_word A B xs ys h k = record { front = xs; back = ys; are = refl; first = h; second = k }

-- there is a word of it
abbrev pub Has : Language → Type 0
Has A = (xs : List Occurrence) × A xs

pub then_has : (A B : Language) → Has A → Has B → Has (Then A B)
then_has A B h k = (h.0 ++ k.0, then_word A B h.0 k.0 h.1 k.1)

pub each_has : (A : ℕ → Language) → ((n : ℕ) → Has (A n)) → (n : ℕ) → Has (Each A n)
each_has A has zero = ([], refl)
each_has A has (suc n) = then_has (Each A n) (A (suc n)) (each_has A has n) (has (suc n))

pub just_has : (xs : List Occurrence) → Has (Just xs)
just_has xs = (xs, refl)

-- ---- cut off

pub cut_first : (A B : Language) (hs : List Occurrence) (due : Due) → IsCut A hs due → Has B → IsCut (Then A B) hs due
cut_first A B hs due h (ys, word) = record {
  coming = h.coming;
  rest = h.rest ++ ys;
  is = h.is;
  all = record { front = hs ++ h.coming ∷ h.rest; back = ys; are = sym (append_assoc hs (h.coming ∷ h.rest) ys); first = h.all; second = word };
}

pub cut_second : (A B : Language) (xs hs : List Occurrence) (due : Due) → A xs → IsCut B hs due → IsCut (Then A B) (xs ++ hs) due
cut_second A B xs hs due first h = record {
  coming = h.coming;
  rest = h.rest;
  is = h.is;
  all = record { front = xs; back = hs ++ h.coming ∷ h.rest; are = append_assoc xs hs (h.coming ∷ h.rest); first = first; second = h.all };
}

pub cut_map : (A B : Language) (hs : List Occurrence) (due : Due) → ((xs : List Occurrence) → A xs → B xs) → IsCut A hs due → IsCut B hs due
cut_map A B hs due make h = record { coming = h.coming; rest = h.rest; is = h.is; all = make (hs ++ h.coming ∷ h.rest) h.all }

-- just this was to come
pub cut_just : (x : Occurrence) → IsCut (Just (x ∷ [])) [] (to_come x)
cut_just x = record { coming = x; rest = []; is = refl; all = refl }

-- before the first of the numbers
pub each_more : (A : ℕ → Language) → ((n : ℕ) → Has (A n)) → (hs : List Occurrence) (due : Due) (i d : ℕ) → IsCut (Each A i) hs due → IsCut (Each A (d + i)) hs due
each_more A has hs due i zero h = (let same : i ≡ 0 + i = omega arith in subst (λ (n : ℕ). IsCut (Each A n) hs due) same h)
each_more A has hs due i (suc d) h =
    let same : suc (d + i) ≡ suc d + i = omega arith in
    subst (λ (n : ℕ). IsCut (Each A n) hs due) same (cut_first (Each A (d + i)) (A (suc (d + i))) hs due (each_more A has hs due i d h) (has (suc (d + i))))

pub each_cut : (A : ℕ → Language) → ((n : ℕ) → Has (A n)) → (hs : List Occurrence) (due : Due) (i n : ℕ) → i ≤ n → IsCut (Each A i) hs due → IsCut (Each A n) hs due
each_cut A has hs due i n low h = (let same : n - i + i ≡ n = omega (arith, low) in subst (λ (m : ℕ). IsCut (Each A m) hs due) same (each_more A has hs due i (n - i) h))

-- the next number, as a loop counts
pub each_next : (A : ℕ → Language) (i : ℕ) (xs : List Occurrence) → Then (Each A i) (A (i + 1)) xs → Each A (i + 1) xs
each_next A i xs h = (let same : suc i ≡ i + 1 = omega arith in subst (λ (n : ℕ). Each A n xs) same (subst (λ (n : ℕ). Then (Each A i) (A n) xs) (sym same) h))
