-- lists whose nodes name their neighbours
use Rattle.std.proofs.Common.{◌≡◌, ℕ, zero, suc, ◌+◌, ◌≤◌, Bool, true, false, cond, eqb, List, [], ◌∷◌, ◌++◌, Option, None, Some, length, refl, sym, ◌∙◌, ap, subst, eq-eqb, ne_eqb, arith}
use Rattle.alp_chain.specs.declared.links.Links.{Links}
use Rattle.alp_chain.specs.Linked.{times, first_or, last_or, between, AreLinked, walk, with_next, with_before, pushed, bridged}
use Rattle.alp_chain.proofs.TimesLemmas.{here, later, not_here, times-append}

-- ---- the first and the last

pub first_or-append : (xs ys : List ℕ) (a : Option ℕ) → first_or (xs ++ ys) a ≡ first_or xs (first_or ys a)
first_or-append [] ys a = refl
first_or-append (x ∷ xs) ys a = refl

pub last_or-append : (b : Option ℕ) (xs ys : List ℕ) → last_or b (xs ++ ys) ≡ last_or (last_or b xs) ys
last_or-append b [] ys = refl
last_or-append b (x ∷ xs) ys = last_or-append (Some x) xs ys

pub first_or-in : (n : ℕ) (xs : List ℕ) → first_or xs None ≡ Some n → 1 ≤ times n xs
first_or-in n [] e = absurd (cc)
first_or-in n (x ∷ xs) e = let same : x ≡ n = cc in rw same (here n xs)

pub last_or-in : (n x : ℕ) (xs : List ℕ) → last_or (Some x) xs ≡ Some n → 1 ≤ times n (x ∷ xs)
last_or-in n x [] e = let same : x ≡ n = cc in rw same (here n [])
last_or-in n x (y ∷ ys) e = later n x (y ∷ ys) (last_or-in n y ys e)

pub last_in : (n : ℕ) (xs : List ℕ) → last_or None xs ≡ Some n → 1 ≤ times n xs
last_in n [] e = absurd (cc)
last_in n (x ∷ xs) e = last_or-in n x xs e

-- ---- links after a change

skipped : (t : Bool) (x y : Links) → t ≡ false → cond t x y ≡ y
skipped true x y e = absurd (cc)
skipped false x y e = refl

taken : (t : Bool) (x y : Links) → t ≡ true → cond t x y ≡ x
taken true x y e = refl
taken false x y e = absurd (cc)

pub with_next-other : (f : ℕ → Links) (o a : Option ℕ) (n : ℕ) → (o ≡ Some n → ⊥) → with_next f o a n ≡ f n
with_next-other f None a n h = refl
with_next-other f (Some m) a n h = skipped (eqb n m) _ _ (ne_eqb n m (λ e. h (ap Some (sym e))))

pub with_before-other : (f : ℕ → Links) (o b : Option ℕ) (n : ℕ) → (o ≡ Some n → ⊥) → with_before f o b n ≡ f n
with_before-other f None b n h = refl
with_before-other f (Some m) b n h = skipped (eqb n m) _ _ (ne_eqb n m (λ e. h (ap Some (sym e))))

next-same : (f : ℕ → Links) (n : ℕ) (a : Option ℕ) → with_next f (Some n) a n ≡ between (f n).before a
next-same f n a = taken (eqb n n) _ _ (eq-eqb n n refl)

before-same : (f : ℕ → Links) (n : ℕ) (b : Option ℕ) → with_before f (Some n) b n ≡ between b (f n).next
before-same f n b = taken (eqb n n) _ _ (eq-eqb n n refl)

-- ---- linked lists

pub linked-frame : (f g : ℕ → Links) (xs : List ℕ) (b a : Option ℕ) → ((x : ℕ) → 1 ≤ times x xs → g x ≡ f x) → AreLinked f b xs a → AreLinked g b xs a
linked-frame f g [] b a same r = tt
linked-frame f g (x ∷ xs) b a same r = (same x (here x xs) ∙ r.0, linked-frame f g xs (Some x) a (λ y h. same y (later y x xs h)) r.1)

pub linked-join : (f : ℕ → Links) (xs ys : List ℕ) (b a : Option ℕ) → AreLinked f b xs (first_or ys a) → AreLinked f (last_or b xs) ys a → AreLinked f b (xs ++ ys) a
linked-join f [] ys b a r s = s
linked-join f (x ∷ xs) ys b a r s = (r.0 ∙ ap (between b) (sym (first_or-append xs ys a)), linked-join f xs ys (Some x) a r.1 s)

pub linked-left : (f : ℕ → Links) (xs ys : List ℕ) (b a : Option ℕ) → AreLinked f b (xs ++ ys) a → AreLinked f b xs (first_or ys a)
linked-left f [] ys b a r = tt
linked-left f (x ∷ xs) ys b a r = (r.0 ∙ ap (between b) (first_or-append xs ys a), linked-left f xs ys (Some x) a r.1)

pub linked-right : (f : ℕ → Links) (xs ys : List ℕ) (b a : Option ℕ) → AreLinked f b (xs ++ ys) a → AreLinked f (last_or b xs) ys a
linked-right f [] ys b a r = r
linked-right f (x ∷ xs) ys b a r = linked-right f xs ys (Some x) a r.1

-- the way along a list gives the list
pub walked : (n : ℕ) (f : ℕ → Links) (xs : List ℕ) (b : Option ℕ) → AreLinked f b xs None → length xs ≤ n → walk n f (first_or xs None) ≡ xs
walked zero f [] b r h = refl
walked zero f (x ∷ xs) b r h = absurd (omega arith)
walked (suc n) f [] b r h = refl
walked (suc n) f (x ∷ xs) b r h =
    ap (λ (o : Option ℕ). x ∷ walk n f o) (ap (λ (l : Links). l.next) r.0) ∙ ap (λ (ys : List ℕ). x ∷ ys) (walked n f xs (Some x) r.1 (omega arith))

-- another node follows the last
pub linked-next : (f : ℕ → Links) (xs : List ℕ) (b a c : Option ℕ) → AreLinked f b xs a → ((x : ℕ) → times x xs ≤ 1) → AreLinked (with_next f (last_or None xs) c) b xs c
linked-next f [] b a c r once = tt
linked-next f (x ∷ []) b a c r once =
    (next-same f x c ∙ ap (λ (l : Links). between l.before c) r.0, tt)
linked-next f (x ∷ y ∷ ys) b a c r once =
    let other : last_or (Some y) ys ≡ Some x → ⊥ =
    λ e. let more : 1 ≤ times x (y ∷ ys) = last_or-in x y ys e in
    let apart : eqb x x ≡ false = not_here x x (y ∷ ys) (once x) more in
    let self : eqb x x ≡ true = eq-eqb x x refl in cc in
    let fewer : (z : ℕ) → times z (y ∷ ys) ≤ 1 = λ z. let most : times z (x ∷ y ∷ ys) ≤ 1 = once z in omega arith in
    let head : with_next f (last_or (Some y) ys) c x ≡ between b (Some y) = with_next-other f (last_or (Some y) ys) c x other ∙ r.0 in
    (head, linked-next f (y ∷ ys) (Some x) a c r.1 fewer)

-- another node comes before the first
pub linked-before : (f : ℕ → Links) (xs : List ℕ) (b a c : Option ℕ) → AreLinked f b xs a → ((x : ℕ) → times x xs ≤ 1) → AreLinked (with_before f (first_or xs None) c) c xs a
linked-before f [] b a c r once = tt
linked-before f (x ∷ xs) b a c r once =
    let head : with_before f (Some x) c x ≡ between c (first_or xs a) =
    before-same f x c ∙ ap (λ (l : Links). between c l.next) r.0 in
    let other : (y : ℕ) → 1 ≤ times y xs → Some x ≡ Some y → ⊥ =
    λ y m e. let same : x ≡ y = cc in let apart : eqb y x ≡ false = not_here y x xs (once y) m in let self : eqb y x ≡ true = eq-eqb y x (sym same) in cc in
    (head, linked-frame f (with_before f (Some x) c) xs (Some x) a (λ y m. with_before-other f (Some x) c y (other y m)) r.1)

-- ---- a node after the last

pub pushed-other : (f : ℕ → Links) (o : Option ℕ) (n m : ℕ) → (m ≡ n → ⊥) → (o ≡ Some m → ⊥) → pushed f o n m ≡ f m
pushed-other f o n m h k = skipped (eqb m n) _ _ (ne_eqb m n h) ∙ with_next-other f o (Some n) m k

pub linked-pushed : (f : ℕ → Links) (xs : List ℕ) (n : ℕ) → AreLinked f None xs None → ((x : ℕ) → times x xs ≤ 1) → times n xs ≡ 0 → AreLinked (pushed f (last_or None xs) n) None (xs ++ n ∷ []) None
linked-pushed f xs n r once new =
    let g : ℕ → Links = with_next f (last_or None xs) (Some n) in
    let k : ℕ → Links = pushed f (last_or None xs) n in
    let other : (x : ℕ) → 1 ≤ times x xs → x ≡ n → ⊥ = λ x m e. let some : 1 ≤ times n xs = subst (λ (z : ℕ). 1 ≤ times z xs) e m in omega arith in
    let first : AreLinked g None xs (Some n) = linked-next f xs None None (Some n) r once in
    let kept : AreLinked k None xs (Some n) = linked-frame g k xs None (Some n) (λ x m. skipped (eqb x n) _ _ (ne_eqb x n (other x m))) first in
    linked-join k xs (n ∷ []) None None kept (taken (eqb n n) _ _ (eq-eqb n n refl), tt)

-- ---- a node taken off

pub bridged-other : (f : ℕ → Links) (l : Links) (m : ℕ) → (l.before ≡ Some m → ⊥) → (l.next ≡ Some m → ⊥) → bridged f l m ≡ f m
bridged-other f l m h k = with_before-other (with_next f l.before l.next) l.next l.before m k ∙ with_next-other f l.before l.next m h

-- what a node names that stands between two parts of a list
pub link-split : (f : ℕ → Links) (ys zs : List ℕ) (n : ℕ) → AreLinked f None (ys ++ n ∷ zs) None → f n ≡ between (last_or None ys) (first_or zs None)
link-split f ys zs n r = (linked-right f ys (n ∷ zs) None None r).0

pub linked-bridged : (f : ℕ → Links) (ys zs : List ℕ) (n : ℕ) → AreLinked f None (ys ++ n ∷ zs) None → ((x : ℕ) → times x (ys ++ n ∷ zs) ≤ 1) → AreLinked (bridged f (between (last_or None ys) (first_or zs None))) None (ys ++ zs) None
linked-bridged f ys zs n r once =
    let o : Option ℕ = last_or None ys in
    let p : Option ℕ = first_or zs None in
    let g : ℕ → Links = with_next f o p in
    let k : ℕ → Links = with_before g p o in
    let count : (x : ℕ) → times x (ys ++ n ∷ zs) ≡ times x ys + times x (n ∷ zs) = λ x. times-append x ys (n ∷ zs) in
    let lone : (x : ℕ) → times x ys ≤ 1 = λ x. omega (arith, once x, count x) in
    let lane : (x : ℕ) → times x zs ≤ 1 = λ x. omega (arith, once x, count x) in
    let before : AreLinked f None ys (Some n) = linked-left f ys (n ∷ zs) None None r in
    let after : AreLinked f (Some n) zs None = (linked-right f ys (n ∷ zs) None None r).1 in
    let not_last : (x : ℕ) → 1 ≤ times x zs → o ≡ Some x → ⊥ = λ x h e. let m : 1 ≤ times x ys = last_in x ys e in omega (arith, once x, count x) in
    let not_first : (x : ℕ) → 1 ≤ times x ys → p ≡ Some x → ⊥ = λ x h e. let m : 1 ≤ times x zs = first_or-in x zs e in omega (arith, once x, count x) in
    let left : AreLinked g None ys p = linked-next f ys None (Some n) p before lone in
    let right : AreLinked g (Some n) zs None = linked-frame f g zs (Some n) None (λ x h. with_next-other f o p x (not_last x h)) after in
    let left_kept : AreLinked k None ys p = linked-frame g k ys None p (λ x h. with_before-other g p o x (not_first x h)) left in
    let right_kept : AreLinked k o zs None = linked-before g zs (Some n) None o right lane in
    linked-join k ys zs None None left_kept right_kept
