-- The table of all pairs.
use Rattle.std.specs.Prelude.{◌⊎◌, ◌≢◌}
use Rattle.std.proofs.Common.{◌≡◌, ℕ, ◌+◌, ◌*◌, ◌%◌, ◌<◌, List, [], ◌∷◌, ◌++◌, length, get_or, inl, inr, refl, sym, subst, ap, ◌∙◌, arith, add-zero, append_assoc}
use Rattle.std.proofs.lemmas.Bool.{cases_eq}
use Rattle.std.proofs.lemmas.List.{append-nil, length-append, length-set, get_or-set_same, get_or-set_other, get_or_append_left, get_or-append-add}
use Rattle.alp_journal.specs.declared.entry.Entry.{Entry}
use Rattle.alp_posts.specs.Messages.{HasGrown}
use Rattle.alp_posts.specs.Post.{Post, nothing_taken}
use Rattle.alp_posts.specs.Posts.{AreServers, Fits, IsTable, IsUntaken, place_of, post_at, with_post}

-- ---- places

pub place_below : (from to : ℕ) → AreServers from to → place_of from to < 64
place_below from to s = omega (arith, s.0.0, s.0.1, s.1.0, s.1.1)

places_apart : (from to f t : ℕ) → AreServers from to → AreServers f t → (f ≡ from → t ≡ to → ⊥) → place_of f t ≢ place_of from to
places_apart from to f t s r apart same =
    let sum : 8 * f + t ≡ 8 * from + to = omega (arith, same, s.0.0, s.1.0, r.0.0, r.1.0) in
    let first : f ≡ from = omega (arith, sum, s.1.0, s.1.1, r.1.0, r.1.1) in
    apart first (omega (arith, sum, first))

-- ---- one post among them

pub same_post : (p : List Post) (from to : ℕ) (x : Post) → IsTable p → AreServers from to → post_at (with_post p from to x) from to ≡ x
same_post p from to x h s = get_or-set_same p (place_of from to) x (nothing_taken to) (omega (arith, h.full, place_below from to s))

pub other_post : (p : List Post) (from to f t : ℕ) (x : Post) → AreServers from to → AreServers f t → (f ≡ from → t ≡ to → ⊥) → post_at (with_post p from to x) f t ≡ post_at p f t
other_post p from to f t x s r apart = get_or-set_other p (place_of from to) (place_of f t) x (nothing_taken t) (places_apart from to f t s r apart)

-- what holds of the post and of all others as they were holds of all
each_post : (P : (from to : ℕ) → Post → Type 0) (p : List Post) (from to : ℕ) (x : Post) → IsTable p → AreServers from to → P from to x → ((f t : ℕ) → AreServers f t → P f t (post_at p f t))
    → (f t : ℕ) → AreServers f t → P f t (post_at (with_post p from to x) f t)
each_post P p from to x h s here others f t r = elim (cases_eq f from) [
  | inl e ↦ elim (cases_eq t to) [
    | inl d ↦ subst (λ (k : ℕ). P k t (post_at (with_post p from to x) k t)) (sym e) (subst (λ (k : ℕ). P from k (post_at (with_post p from to x) from k)) (sym d) (subst (λ (y : Post). P from to y) (sym (same_post p from to x h s)) here))
    | inr d ↦ subst (λ (y : Post). P f t y) (sym (other_post p from to f t x s r (λ (a : f ≡ from) (b : t ≡ to). d b))) (others f t r)
  ]
  | inr e ↦ subst (λ (y : Post). P f t y) (sym (other_post p from to f t x s r (λ (a : f ≡ from) (b : t ≡ to). e a))) (others f t r)
]

pub still_table : (p : List Post) (from to : ℕ) (x : Post) → IsTable p → AreServers from to → x.to ≡ to → IsTable (with_post p from to x)
still_table p from to x h s is = record {
  full = length-set p (place_of from to) x ∙ h.full;
  there = each_post (λ f t (y : Post). y.to ≡ t) p from to x h s is h.there;
}

-- ---- journals

pub still_grown : (es : List Entry) → HasGrown es es
still_grown es = record { more = []; is = sym (append-nil es) }

pub still_fits : (journals : ℕ → List Entry) (p : List Post) (from to : ℕ) (x : Post) → AreServers from to → x.to ≡ to → x.shown ≡ journals from → Fits journals p → Fits journals (with_post p from to x)
still_fits journals p from to x s there is fits = record {
  table = still_table p from to x fits.table s there;
  shown = each_post (λ f t (y : Post). HasGrown y.shown (journals f)) p from to x fits.table s (subst (λ (es : List Entry). HasGrown es (journals from)) (sym is) (still_grown (journals from))) fits.shown;
}

pub longer_fits : (journals longer : ℕ → List Entry) (p : List Post) → ((n : ℕ) → HasGrown (journals n) (longer n)) → Fits journals p → Fits longer p
longer_fits journals longer p grow fits = record { table = fits.table; shown = λ from to s. further (fits.shown from to s) (grow from) }
  where
    further : {xs ys zs : List Entry} → HasGrown xs ys → HasGrown ys zs → HasGrown xs zs
    further {xs} {ys} {zs} g h = record { more = g.more ++ h.more; is = h.is ∙ ap (λ (es : List Entry). es ++ h.more) g.is ∙ append_assoc xs g.more h.more }

-- ---- a new table

-- the posts of these first places
pub record IsNew (n : ℕ) (p : List Post) : Type 0 where
  pub full : length p ≡ n
  pub each : (k : ℕ) (d : Post) → k < n → get_or p k d ≡ nothing_taken (k % 8 + 1)

pub none_new : IsNew 0 []
none_new = record { full = refl; each = λ k d h. absurd (omega (arith, h)) }

pub one_new : (n : ℕ) (p : List Post) → IsNew n p → IsNew (n + 1) (p ++ nothing_taken (n % 8 + 1) ∷ [])
one_new n p h = record {
  full = length-append p (nothing_taken (n % 8 + 1) ∷ []) ∙ ap (λ (k : ℕ). k + 1) h.full;
  each = λ k d less. at k d less (cases_eq k n);
}
  where
    at : (k : ℕ) (d : Post) → k < n + 1 → (k ≡ n) ⊎ (k ≡ n → ⊥) → get_or (p ++ nothing_taken (n % 8 + 1) ∷ []) k d ≡ nothing_taken (k % 8 + 1)
    at k d less (inl e) =
        ap (λ (i : ℕ). get_or (p ++ nothing_taken (n % 8 + 1) ∷ []) i d) (e ∙ sym h.full ∙ sym (add-zero (length p)))
        ∙ get_or-append-add p (nothing_taken (n % 8 + 1) ∷ []) 0 d
        ∙ ap (λ (i : ℕ). nothing_taken (i % 8 + 1)) (sym e)
    at k d less (inr e) =
        get_or_append_left p (nothing_taken (n % 8 + 1) ∷ []) d k (omega (arith, less, e, h.full))
        ∙ h.each k d (omega (arith, less, e))

pub all_new : (p : List Post) → IsNew 64 p → IsUntaken p
all_new p h from to s =
    h.each (place_of from to) (nothing_taken to) (place_below from to s)
    ∙ ap nothing_taken (remainder from to s)
  where
    remainder : (from to : ℕ) → AreServers from to → place_of from to % 8 + 1 ≡ to
    remainder from to s = omega (arith, s.0.0, s.0.1, s.1.0, s.1.1)

pub new_table : (p : List Post) → IsNew 64 p → IsTable p
new_table p h = record { full = h.full; there = λ from to s. ap (λ (y : Post). y.to) (all_new p h from to s) }

pub new_fits : (journals : ℕ → List Entry) (p : List Post) → IsNew 64 p → Fits journals p
new_fits journals p h = record {
  table = new_table p h;
  shown = λ from to s. subst (λ (y : Post). HasGrown y.shown (journals from)) (sym (all_new p h from to s)) (record { more = journals from; is = refl });
}
