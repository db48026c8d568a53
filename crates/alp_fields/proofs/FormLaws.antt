-- The laws of forms that are made of others: each from those of its parts.
use Rattle.std.proofs.Common.{◌≡◌, ℕ, zero, suc, ◌≤◌, Bool, true, false, cond, ◌&&◌, List, [], ◌∷◌, ◌++◌, length, take, drop, replicate, Option, Some, None, refl, sym, ap, subst, ◌∙◌, append_assoc, arith, length-append, length-take}
use Rattle.std.specs.Prelude.{IfOk, IfSome, Result, Ok, Err, nat_le, ◌==◌}
use Rattle.std.specs.List.{flat_map, list_all, AllByRecursion}
use Rattle.std.proofs.lemmas.List.{length-replicate, append-nil, take_at, drop_at, take-append-drop, nil_from_length}
use Rattle.std.proofs.lemmas.Bool.{eqb-true, leb-true, le-leb}
use Rattle.alp_fields.specs.Forms.{Form, IsForm, SpellsOnce, ◌>>=◌, pair, mapped, checked, sized, read_repeated, repeated, zeros_of, zeros_behind, bytes_of, ended, whole}

-- ---- what a step that read something says

pub step_some : {A B : Type 0} (r : Option (A × List ℕ)) (next : A × List ℕ → Option (B × List ℕ)) (y : B × List ℕ) → (r >>= next) ≡ Some y → (x : A × List ℕ) × (r ≡ Some x) × (next x ≡ Some y)
step_some None next y e = absurd cc
step_some (Some x) next y e = (x, refl, e)

pub guard_some : {X : Type 0} (b : Bool) (x y : X) → cond b (Some x) None ≡ Some y → (b ≡ true) × (x ≡ y)
guard_some true x y e = (refl, cc)
guard_some false x y e = absurd cc

pub some_is : {X : Type 0} (x y : X) → ◌≡◌ {A = Option X} (Some x) (Some y) → x ≡ y
some_is x y e = cc

-- what was read: the bytes are the spelling and what follows, and the value is one of the form
abbrev pub Spells : {T : Type 0} → Form T → List ℕ → T × List ℕ → Type 0
Spells form bytes x = (bytes ≡ form.spell x.0 ++ x.1) × form.Fits x.0

-- ---- the parts

pub pair_law : {A B : Type 0} (a : Form A) (b : Form B) → IsForm a → IsForm b → IsForm (pair a b)
pair_law {A} {B} a b la lb = record {
  back = λ v rest fits.
      let one : a.read ((a.spell v.0 ++ b.spell v.1) ++ rest) ≡ Some (v.0, b.spell v.1 ++ rest) = ap a.read (append_assoc (a.spell v.0) (b.spell v.1) rest) ∙ la.back v.0 (b.spell v.1 ++ rest) fits.0 in
      rw (one, lb.back v.1 rest fits.1) refl;
  spelled = λ bytes v rest e.
      let p = step_some (a.read bytes) (λ x. b.read x.1 >>= λ y. Some ((x.0, y.0), y.1)) (v, rest) e in
      let q = step_some (b.read p.0.1) (λ y. Some ((p.0.0, y.0), y.1)) (v, rest) p.2 in
      let front = la.spelled bytes p.0.0 p.0.1 p.1 in
      let behind = lb.spelled p.0.1 q.0.0 q.0.1 q.1 in
      let made : (A × B) × List ℕ = ((p.0.0, q.0.0), q.0.1) in
      subst (Spells (pair a b) bytes) (some_is made (v, rest) q.2)
      (front.0 ∙ ap (λ (bs : List ℕ). a.spell p.0.0 ++ bs) behind.0 ∙ sym (append_assoc (a.spell p.0.0) (b.spell q.0.0) q.0.1), (front.1, behind.1));
}

-- the two functions undo each other
pub mapped_law : {A T : Type 0} (into : A → T) (out : T → A) (a : Form A) → ((v : T) → into (out v) ≡ v) → ((x : A) → out (into x) ≡ x) → IsForm a → IsForm (mapped into out a)
mapped_law {A} {T} into out a there here la = record {
  back = λ v rest fits. rw (la.back (out v) rest fits) (ap (λ (w : T). Some (w, rest)) (there v));
  spelled = λ bytes v rest e.
      let p = step_some (a.read bytes) (λ x. Some (into x.0, x.1)) (v, rest) e in
      let front = la.spelled bytes p.0.0 p.0.1 p.1 in
      let made : T × List ℕ = (into p.0.0, p.0.1) in
      subst (Spells (mapped into out a) bytes) (some_is made (v, rest) p.2)
      (front.0 ∙ ap (λ (x : A). a.spell x ++ p.0.1) (sym (here p.0.0)), subst a.Fits (sym (here p.0.0)) front.1);
}

pub checked_law : {A : Type 0} (test : A → Bool) (a : Form A) → IsForm a → IsForm (checked test a)
checked_law {A} test a la = record {
  back = λ v rest fits. rw (la.back v rest fits.0, fits.1) refl;
  spelled = λ bytes v rest e.
      let p = step_some (a.read bytes) (λ x. cond (test x.0) (Some x) None) (v, rest) e in
      let q = guard_some (test p.0.0) p.0 (v, rest) p.2 in
      let front = la.spelled bytes p.0.0 p.0.1 p.1 in
      subst (Spells (checked test a) bytes) q.1 (front.0, (front.1, q.0));
}

-- each body has the size that the number says
pub sized_law : {A : Type 0} (number : Form ℕ) (body : ℕ → Form A) (size : A → ℕ) → IsForm number → ((n : ℕ) → IsForm (body n)) → ((n : ℕ) (v : A) → (body n).Fits v → size v ≡ n) → IsForm (sized number body size)
sized_law {A} number body size ln lb is = record {
  back = λ v rest fits.
      let one : number.read ((number.spell (size v) ++ (body (size v)).spell v) ++ rest) ≡ Some (size v, (body (size v)).spell v ++ rest) =
      ap number.read (append_assoc (number.spell (size v)) ((body (size v)).spell v) rest) ∙ ln.back (size v) ((body (size v)).spell v ++ rest) fits.0 in
      rw (one, (lb (size v)).back v rest fits.1) refl;
  spelled = λ bytes v rest e.
      let p = step_some (number.read bytes) (λ n. (body n.0).read n.1) (v, rest) e in
      let front = ln.spelled bytes p.0.0 p.0.1 p.1 in
      let behind = (lb p.0.0).spelled p.0.1 v rest p.2 in
      let n : size v ≡ p.0.0 = is p.0.0 v behind.1 in
      let whole : bytes ≡ (number.spell p.0.0 ++ (body p.0.0).spell v) ++ rest = front.0 ∙ ap (λ (bs : List ℕ). number.spell p.0.0 ++ bs) behind.0 ∙ sym (append_assoc (number.spell p.0.0) ((body p.0.0).spell v) rest) in
      let P : ℕ → Type 0 = λ k. (bytes ≡ (number.spell k ++ (body k).spell v) ++ rest) × (number.Fits k × (body k).Fits v) in
      subst P (sym n) (whole, (front.1, behind.1));
}

-- ---- several in a row

repeated_spelled : {A : Type 0} (a : Form A) → IsForm a → (n : ℕ) (bytes : List ℕ) (x : List A × List ℕ) → read_repeated a n bytes ≡ Some x → Spells (repeated a n) bytes x
repeated_spelled {A} a la zero bytes x e =
    let made : List A × List ℕ = ([], bytes) in
    subst (Spells (repeated a 0) bytes) (some_is made x e) (refl, (refl, tt))
repeated_spelled {A} a la (suc n) bytes x e =
    let p = step_some (a.read bytes) (λ v. read_repeated a n v.1 >>= λ vs. Some (v.0 ∷ vs.0, vs.1)) x e in
    let q = step_some (read_repeated a n p.0.1) (λ vs. Some (p.0.0 ∷ vs.0, vs.1)) x p.2 in
    let front = la.spelled bytes p.0.0 p.0.1 p.1 in
    let behind = repeated_spelled a la n p.0.1 q.0 q.1 in
    let made : List A × List ℕ = (p.0.0 ∷ q.0.0, q.0.1) in
    subst (Spells (repeated a (suc n)) bytes) (some_is made x q.2) (
      front.0 ∙ ap (λ (bs : List ℕ). a.spell p.0.0 ++ bs) behind.0 ∙ sym (append_assoc (a.spell p.0.0) (flat_map a.spell q.0.0) q.0.1),
      (ap suc behind.1.0, (front.1, behind.1.1)),
    )

repeated_back : {A : Type 0} (a : Form A) → IsForm a → (vs : List A) (rest : List ℕ) → AllByRecursion a.Fits vs → read_repeated a (length vs) (flat_map a.spell vs ++ rest) ≡ Some (vs, rest)
repeated_back a la [] rest fits = refl
repeated_back a la (v ∷ vs) rest fits =
    let one : a.read ((a.spell v ++ flat_map a.spell vs) ++ rest) ≡ Some (v, flat_map a.spell vs ++ rest) = ap a.read (append_assoc (a.spell v) (flat_map a.spell vs) rest) ∙ la.back v (flat_map a.spell vs ++ rest) fits.0 in
    rw (one, repeated_back a la vs rest fits.1) refl

pub repeated_law : {A : Type 0} (a : Form A) (n : ℕ) → IsForm a → IsForm (repeated a n)
repeated_law {A} a n la = record {
  back = λ vs rest fits. rw (← fits.0) (repeated_back a la vs rest fits.1);
  spelled = λ bytes vs rest e. repeated_spelled a la n bytes (vs, rest) e;
}

pub repeated_size : {A : Type 0} (a : Form A) (n : ℕ) (vs : List A) → (repeated a n).Fits vs → length vs ≡ n
repeated_size a n vs fits = fits.0

-- ---- zeros behind

pub and_parts : (a b : Bool) → (a && b) ≡ true → (a ≡ true) × (b ≡ true)
and_parts true b e = (refl, e)
and_parts false b e = absurd cc

are_zeros : (bs : List ℕ) → list_all (λ b. b == 0) bs ≡ true → bs ≡ replicate (length bs) 0
are_zeros [] e = refl
are_zeros (b ∷ bs) e =
    let p = and_parts (b == 0) (list_all (λ c. c == 0) bs) e in
    let zero_here : b ≡ 0 = eqb-true b 0 p.0 in
    let others : bs ≡ replicate (length bs) 0 = are_zeros bs p.1 in
    ap (λ (c : ℕ). c ∷ bs) zero_here ∙ ap (λ (cs : List ℕ). 0 ∷ cs) others

zeros_are : (n : ℕ) → list_all (λ b. b == 0) (replicate n 0) ≡ true
zeros_are zero = refl
zeros_are (suc n) = zeros_are n

pub zeros_law : (n : ℕ) → IsForm (zeros_of n)
zeros_law n = record {
  back = λ v rest fits.
      let front : take n (replicate n 0 ++ rest) ≡ replicate n 0 = take_at (replicate n 0) rest n (length-replicate {A = ℕ} n 0) in
      let behind : drop n (replicate n 0 ++ rest) ≡ rest = drop_at (replicate n 0) rest n (length-replicate {A = ℕ} n 0) in
      let long : nat_le n (length (replicate n 0 ++ rest)) ≡ true = le-leb n _ (omega (arith, length-append (replicate n 0) rest, length-replicate {A = ℕ} n 0)) in
      rw (long, front, behind, zeros_are n) refl;
  spelled = λ bytes v rest e.
      let q = guard_some (nat_le n (length bytes) && list_all (λ b. b == 0) (take n bytes)) (tt, drop n bytes) (v, rest) e in
      let tests = and_parts (nat_le n (length bytes)) (list_all (λ b. b == 0) (take n bytes)) q.0 in
      let long : length (take n bytes) ≡ n = omega (arith, length-take n bytes, leb-true n (length bytes) tests.0) in
      let zeros : take n bytes ≡ replicate n 0 = are_zeros (take n bytes) tests.1 ∙ ap (λ (k : ℕ). replicate k 0) long in
      subst (Spells (zeros_of n) bytes) q.1 (sym (take-append-drop n bytes) ∙ ap (λ (bs : List ℕ). bs ++ drop n bytes) zeros, tt);
}

pub zeros_behind_law : {A : Type 0} (n : ℕ) (a : Form A) → IsForm a → IsForm (zeros_behind n a)
zeros_behind_law n a la = mapped_law _ _ (pair a (zeros_of n)) (λ v. refl) (λ x. refl) (pair_law a (zeros_of n) la (zeros_law n))

-- ---- bytes

pub bytes_law : (n : ℕ) → IsForm (bytes_of n)
bytes_law n = record {
  back = λ v rest fits.
      let long : nat_le n (length (v ++ rest)) ≡ true = le-leb n (length (v ++ rest)) (omega (arith, length-append v rest, fits)) in
      rw (long, take_at v rest n fits, drop_at v rest n fits) refl;
  spelled = λ bytes v rest e.
      let q = guard_some (nat_le n (length bytes)) (take n bytes, drop n bytes) (v, rest) e in
      let long : n ≤ length bytes = leb-true n (length bytes) q.0 in
      subst (Spells (bytes_of n) bytes) q.1 (sym (take-append-drop n bytes), omega (arith, length-take n bytes));
}

pub bytes_size : (n : ℕ) (v : List ℕ) → (bytes_of n).Fits v → length v ≡ n
bytes_size n v fits = fits

-- ---- what follows from the laws of a form

pub spelling_is_one : {T : Type 0} (form : Form T) → IsForm form → SpellsOnce form
spelling_is_one {T} form laws v w rest others fits fits' same =
    let both : ◌≡◌ {A = Option (T × List ℕ)} (Some (v, rest)) (Some (w, others)) = sym (laws.back v rest fits) ∙ ap form.read same ∙ laws.back w others fits' in
    let parts : (v, rest) ≡ (w, others) = some_is (v, rest) (w, others) both in
    (ap (λ (x : T × List ℕ). x.0) parts, ap (λ (x : T × List ℕ). x.1) parts)

-- Nothing is read only where no spelling stands in front.
pub nothing_spelled : {T : Type 0} (form : Form T) → IsForm form → (bytes : List ℕ) (v : T) (rest : List ℕ) → form.read bytes ≡ None → form.Fits v → bytes ≡ form.spell v ++ rest → ⊥
nothing_spelled {T} form laws bytes v rest none fits is =
    let both : ◌≡◌ {A = Option (T × List ℕ)} None (Some (v, rest)) = sym none ∙ ap form.read is ∙ laws.back v rest fits in
    cc

-- what all of the bytes spell is what they are the spelling of
pub whole_back : {T : Type 0} (form : Form T) → IsForm form → (v : T) → form.Fits v → whole form (form.spell v) ≡ Some v
whole_back form laws v fits =
    let one : form.read (form.spell v) ≡ Some (v, []) = ap form.read (sym (append-nil (form.spell v))) ∙ laws.back v [] fits in
    rw one refl

ended_some : {T : Type 0} (r : Option (T × List ℕ)) (v : T) → ended r ≡ Some v → r ≡ Some (v, [])
ended_some None v e = absurd cc
ended_some (Some x) v e =
    let q = guard_some (length x.1 == 0) x.0 v e in
    let nothing : x.1 ≡ [] = nil_from_length x.1 (eqb-true (length x.1) 0 q.0) in
    ap (λ (w : _). Some (w, x.1)) q.1 ∙ ap (λ (bs : List ℕ). Some (v, bs)) nothing

pub whole_spelled : {T : Type 0} (form : Form T) → IsForm form → (bytes : List ℕ) (v : T) → whole form bytes ≡ Some v → (bytes ≡ form.spell v) × form.Fits v
whole_spelled form laws bytes v e =
    let p = laws.spelled bytes v [] (ended_some (form.read bytes) v e) in
    (p.0 ∙ append-nil (form.spell v), p.1)

-- the same of a function's answer, for a clause on it
pub whole_found : {T : Type 0} (form : Form T) → IsForm form → (bytes : List ℕ) (answer : Option T) → answer ≡ whole form bytes → IfSome answer (λ v. (bytes ≡ form.spell v) × form.Fits v)
whole_found form laws bytes None e = tt
whole_found form laws bytes (Some v) e = whole_spelled form laws bytes v (sym e)

-- the same of an answer that want of memory may keep away
pub found_unless : {T E : Type 0} (form : Form T) → IsForm form → (bytes : List ℕ) (answer : Result (Option T) E) → IfOk answer (λ found. found ≡ whole form bytes) → IfOk answer (λ found. IfSome found (λ v. (bytes ≡ form.spell v) × form.Fits v))
found_unless form laws bytes (Ok found) is = whole_found form laws bytes found is
found_unless form laws bytes (Err e) is = tt

pub only_unless : {T E : Type 0} (form : Form T) → IsForm form → (bytes : List ℕ) (answer : Result (Option T) E) → IfOk answer (λ found. found ≡ whole form bytes) → (v : T) → form.Fits v → bytes ≡ form.spell v → IfOk answer (λ found. found ≡ Some v)
only_unless form laws bytes (Ok found) is v fits same = is ∙ ap (whole form) same ∙ whole_back form laws v fits
only_unless form laws bytes (Err e) is v fits same = tt
