-- lists of calls that wait: which one is found, which stay, and which are granted
use Rattle.std.specs.Prelude.{cond, Bool, true, false, not, ◌&&◌, ◌==◌, filter, find, Option, None, Some, IsSome, map as list_map}
use Rattle.std.specs.List.{AllByRecursion}
use Rattle.std.proofs.lemmas.Bool.{eqb-true, and_right}
use Rattle.std.proofs.Common.{◌≡◌, ℕ, List, [], ◌∷◌, ◌++◌, refl, sym, ◌∙◌, ap, subst, eq-eqb}
use Rattle.alp_base.specs.declared.ids.TransId.{TransId}
use Rattle.alp_files.proofs.FilesLemmas.{same-some}
use Rattle.alp_files.specs.declared.call.Call.{Call}
use Rattle.alp_files.specs.declared.call.Call.TheVariants as call
use Rattle.alp_journal.specs.Ids.{same_trans}
use Rattle.alp_journal.specs.Desk.{Waiting, file_trans, part_trans, is_of, is_of_part, without, grant_in}
use Rattle.alp_journal.specs.Account.{is_on_trans, AreTwo, AreApart, waits_granted}
use Rattle.alp_journal.proofs.IdLemmas.{same_trans-true, same_trans-itself, all-append, all-filter}

-- ---- each of a list

pub all-both : {A : Type 0} (P Q R : A → Type 0) → ((x : A) → P x → Q x → R x) → (xs : List A) → AllByRecursion P xs → AllByRecursion Q xs → AllByRecursion R xs
all-both P Q R f [] h k = tt
all-both P Q R f (x ∷ xs) h k = (f x h.0 k.0, all-both P Q R f xs h.1 k.1)

pub all-mapped : {A : Type 0} (P Q : A → Type 0) (f : A → A) → ((x : A) → P x → Q (f x)) → (xs : List A) → AllByRecursion P xs → AllByRecursion Q (list_map f xs)
all-mapped P Q f g [] h = tt
all-mapped P Q f g (x ∷ xs) h = (g x h.0, all-mapped P Q f g xs h.1)

-- those that pass and those that do not are all
pub all-two : {A : Type 0} (P : A → Type 0) (p : A → Bool) (xs : List A) → AllByRecursion P (filter p xs) → AllByRecursion P (filter (λ x. not (p x)) xs) → AllByRecursion P xs
all-two P p [] h k = tt
all-two P p (x ∷ xs) h k = go (p x) h k (all-two P p xs)
  where
    go : (b : Bool) → AllByRecursion P (cond b (x ∷ filter p xs) (filter p xs)) → AllByRecursion P (cond (not b) (x ∷ filter (λ y. not (p y)) xs) (filter (λ y. not (p y)) xs))
        → (AllByRecursion P (filter p xs) → AllByRecursion P (filter (λ y. not (p y)) xs) → AllByRecursion P xs) → P x × AllByRecursion P xs
    go true h k rest = (h.0, rest h.1 k)
    go false h k rest = (k.0, rest h k.1)

pub all-front : {A : Type 0} (P : A → Type 0) (xs ys : List A) → AllByRecursion P (xs ++ ys) → AllByRecursion P xs × AllByRecursion P ys
all-front P [] ys h = (tt, h)
all-front P (x ∷ xs) ys h = let both = all-front P xs ys h.1 in ((h.0, both.0), both.1)

pub all-turned : {A : Type 0} (P : A → Type 0) (p : A → Bool) (xs : List A) → AllByRecursion P xs → AllByRecursion P (filter p xs ++ filter (λ x. not (p x)) xs)
all-turned P p xs h = all-append P (filter p xs) (filter (λ x. not (p x)) xs) (all-filter P p xs h) (all-filter P (λ x. not (p x)) xs h)

pub all-turned-back : {A : Type 0} (P : A → Type 0) (p : A → Bool) (xs : List A) → AllByRecursion P (filter p xs ++ filter (λ x. not (p x)) xs) → AllByRecursion P xs
all-turned-back P p xs h = let both = all-front P (filter p xs) (filter (λ x. not (p x)) xs) h in all-two P p xs both.0 both.1

pub passing : {A : Type 0} (p : A → Bool) (xs : List A) → AllByRecursion (λ x. p x ≡ true) (filter p xs)
passing p [] = tt
passing p (x ∷ xs) = go (p x) refl (passing p xs)
  where
    go : (b : Bool) → p x ≡ b → AllByRecursion (λ y. p y ≡ true) (filter p xs) → AllByRecursion (λ y. p y ≡ true) (cond b (x ∷ filter p xs) (filter p xs))
    go true e h = (e, h)
    go false e h = h

-- ---- the one that is found

pub found-is : {A : Type 0} (P : A → Type 0) (p : A → Bool) (xs : List A) (x : A) → find p xs ≡ Some x → AllByRecursion P xs → (p x ≡ true) × P x
found-is P p [] x is h = let wrong : None ≡ Some x = is in cc
found-is P p (y ∷ ys) x is h = go (p y) refl is (found-is P p ys x)
  where
    go : (b : Bool) → p y ≡ b → cond b (Some y) (find p ys) ≡ Some x → (find p ys ≡ Some x → AllByRecursion P ys → (p x ≡ true) × P x) → (p x ≡ true) × P x
    go true e f rest = subst (λ z. (p z ≡ true) × P z) (same-some y x f) (e, h.0)
    go false e f rest = rest f h.1

pub found-passes : {A : Type 0} (p : A → Bool) (xs : List A) (x : A) → find p xs ≡ Some x → p x ≡ true
found-passes p [] x is = let wrong : None ≡ Some x = is in cc
found-passes p (y ∷ ys) x is = go (p y) refl is (found-passes p ys x)
  where
    go : (b : Bool) → p y ≡ b → cond b (Some y) (find p ys) ≡ Some x → (find p ys ≡ Some x → p x ≡ true) → p x ≡ true
    go true e f rest = ap p (sym (same-some y x f)) ∙ e
    go false e f rest = rest f

pub none-found : {A : Type 0} (p : A → Bool) (xs : List A) → find p xs ≡ None → AllByRecursion (λ x. p x ≡ false) xs
none-found p [] none = tt
none-found p (x ∷ xs) none = go (p x) refl none (none-found p xs)
  where
    go : (b : Bool) → p x ≡ b → cond b (Some x) (find p xs) ≡ None → (find p xs ≡ None → AllByRecursion (λ y. p y ≡ false) xs) → (p x ≡ false) × AllByRecursion (λ y. p y ≡ false) xs
    go true e f rest = let wrong : Some x ≡ None = f in cc
    go false e f rest = (e, rest f)

-- where none of them passes none is found
pub found-none : {A : Type 0} (p : A → Bool) (xs : List A) → AllByRecursion (λ x. p x ≡ false) xs → find p xs ≡ None
found-none p [] h = refl
found-none p (x ∷ xs) h = ap (λ (b : Bool). cond b (Some x) (find p xs)) h.0 ∙ found-none p xs h.1

-- where none that is looked for goes, the same one is found
pub find-kept : {A : Type 0} (p q : A → Bool) (xs : List A) → AllByRecursion (λ x. p x ≡ true → q x ≡ true) xs → find p (filter q xs) ≡ find p xs
find-kept p q [] stay = refl
find-kept p q (x ∷ xs) stay = go (p x) (q x) refl refl (find-kept p q xs stay.1)
  where
    go : (b d : Bool) → p x ≡ b → q x ≡ d → find p (filter q xs) ≡ find p xs → find p (cond d (x ∷ filter q xs) (filter q xs)) ≡ cond b (Some x) (find p xs)
    go true true e f rest = ap (λ c. cond c (Some x) (find p (filter q xs))) e
    go true false e f rest = let wrong : false ≡ true = sym f ∙ stay.0 e in cc
    go false true e f rest = ap (λ c. cond c (Some x) (find p (filter q xs))) e ∙ rest
    go false false e f rest = rest

pub all-of : {A : Type 0} (P : A → Type 0) → ((x : A) → P x) → (xs : List A) → AllByRecursion P xs
all-of P f [] = tt
all-of P f (x ∷ xs) = (f x, all-of P f xs)

-- one is found among more
pub found-more : {A : Type 0} (p : A → Bool) (xs ys : List A) → IsSome (find p xs) → IsSome (find p (xs ++ ys))
found-more p [] ys h = let wrong : false ≡ true = h in cc
found-more p (x ∷ xs) ys h = go (p x) h (found-more p xs ys)
  where
    go : (b : Bool) → IsSome (cond b (Some x) (find p xs)) → (IsSome (find p xs) → IsSome (find p (xs ++ ys))) → IsSome (cond b (Some x) (find p (xs ++ ys)))
    go true h rest = refl
    go false h rest = rest h

-- by tests that are the same the same ones stay
pub filter-same : {A : Type 0} (p q : A → Bool) (xs : List A) → AllByRecursion (λ x. p x ≡ q x) xs → filter p xs ≡ filter q xs
filter-same p q [] h = refl
filter-same p q (x ∷ xs) h = (λ i. cond (h.0 i) (x ∷ filter-same p q xs h.1 i) (filter-same p q xs h.1 i))

-- where none is to go all stay
pub all-stay : {A : Type 0} (p : A → Bool) (xs : List A) → AllByRecursion (λ x. p x ≡ false) xs → filter (λ x. not (p x)) xs ≡ xs
all-stay p [] h = refl
all-stay p (x ∷ xs) h = ap (λ (b : Bool). cond (not b) (x ∷ filter (λ y. not (p y)) xs) (filter (λ y. not (p y)) xs)) h.0 ∙ ap (λ ys. x ∷ ys) (all-stay p xs h.1)

-- ---- file calls

pub file_part : (c : Call) (t : TransId) → file_trans c ≡ Some t → part_trans c ≡ Some t
file_part (call.Join u) t of = let wrong : None ≡ Some t = of in cc
file_part (call.Finish u commit) t of = let wrong : None ≡ Some t = of in cc
file_part c t of = of

pub turned : (t u : TransId) → same_trans t u ≡ same_trans u t
turned t u = go (same_trans t u) (same_trans u t) refl refl
  where
    go : (b d : Bool) → same_trans t u ≡ b → same_trans u t ≡ d → b ≡ d
    go true true e f = refl
    go false false e f = refl
    go true false e f = let wrong : true ≡ false = sym (ap (same_trans u) (same_trans-true t u e) ∙ same_trans-itself u) ∙ f in cc
    go false true e f = let wrong : false ≡ true = sym e ∙ ap (same_trans t) (same_trans-true u t f) ∙ same_trans-itself t in cc

pub on_own : (t : TransId) (w : Waiting) → file_trans w.call ≡ Some t → is_on_trans t w ≡ true
on_own t w of = ap (is_of t) of ∙ same_trans-itself t

pub on-is : (t : TransId) (w : Waiting) → is_on_trans t w ≡ true → file_trans w.call ≡ Some t
on-is t w on = go (file_trans w.call) on
  where
    go : (x : Option TransId) → is_of t x ≡ true → x ≡ Some t
    go None e = let wrong : false ≡ true = e in cc
    go (Some u) e = ap Some (same_trans-true u t e)

-- a waiting call of the part is one of its transaction
pub of_part_on : (client : ℕ) (t u : TransId) (w : Waiting) → file_trans w.call ≡ Some u → is_of_part client t w ≡ (w.client == client && same_trans u t)
of_part_on client t u w of = ap (λ (x : Option TransId). w.client == client && is_of t x) (file_part w.call u of)

pub of_own_part : (t : TransId) (w : Waiting) → file_trans w.call ≡ Some t → is_of_part w.client t w ≡ true
of_own_part t w of = of_part_on w.client t t w of ∙ ap (λ (b : Bool). b && same_trans t t) (eq-eqb w.client w.client refl) ∙ same_trans-itself t

-- ---- calls apart

eqb-turned : (m n : ℕ) → (m == n) ≡ (n == m)
eqb-turned m n = go (m == n) (n == m) refl refl
  where
    go : (b d : Bool) → (m == n) ≡ b → (n == m) ≡ d → b ≡ d
    go true true e f = refl
    go false false e f = refl
    go true false e f = let wrong : true ≡ false = sym (eq-eqb n m (sym (eqb-true m n e))) ∙ f in cc
    go false true e f = let wrong : false ≡ true = sym e ∙ eq-eqb m n (sym (eqb-true n m f)) in cc

pub two-turned : (w v : Waiting) → AreTwo w v → AreTwo v w
two-turned w v h = (λ t of. go t of (file_trans w.call) refl, (λ i. eqb-turned w.client v.client i && eqb-turned w.number v.number i) ∙ h.1, λ t of. part t of (part_trans w.call) refl)
  where
    part : (t : TransId) → part_trans v.call ≡ Some t → (x : Option TransId) → part_trans w.call ≡ x → (w.client == v.client && is_of t x) ≡ false
    part t of None e = and_right (w.client == v.client) false refl
    part t of (Some u) e = (λ i. eqb-turned w.client v.client i && turned u t i) ∙ ap (λ (x : Option TransId). v.client == w.client && is_of u x) (sym of) ∙ h.2 u e

    go : (t : TransId) → file_trans v.call ≡ Some t → (x : Option TransId) → file_trans w.call ≡ x → is_of t x ≡ false
    go t of None e = refl
    go t of (Some u) e = turned u t ∙ sym (ap (is_of u) of) ∙ h.0 u e

-- what a grant leaves as it is
pub granted_as : (t : TransId) (w : Waiting) → (b : Bool) × (record w { is_granted = b } ≡ grant_in t w)
granted_as t w = go (is_of t (file_trans w.call))
  where
    go : (b : Bool) → (x : Bool) × (record w { is_granted = x } ≡ cond b (record w { is_granted = true }) w)
    go true = (true, refl)
    go false = (w.is_granted, refl)

-- what holds of a call whether it is granted or not stays
pub all-granted : (P : Waiting → Type 0) → ((w : Waiting) (b : Bool) → P w → P (record w { is_granted = b })) → (t : TransId) (ws : List Waiting) → AllByRecursion P ws → AllByRecursion P (list_map (grant_in t) ws)
all-granted P keeps t ws h = all-mapped P P (grant_in t) (λ w p. (let like = granted_as t w in subst P like.1 (keeps w like.0 p))) ws h

-- where none is of the transaction nothing is granted
pub none-granted : (t : TransId) (ws : List Waiting) → AllByRecursion (λ w. is_on_trans t w ≡ false) ws → list_map (grant_in t) ws ≡ ws
none-granted t [] off = refl
none-granted t (w ∷ ws) off = ap (λ (b : Bool). cond {A = Waiting} b (record w { is_granted = true }) w ∷ list_map (grant_in t) ws) off.0 ∙ ap (λ (vs : List Waiting). w ∷ vs) (none-granted t ws off.1)

two-granted : (t : TransId) (w v : Waiting) → AreTwo w v → AreTwo (grant_in t w) v
two-granted t w v h = let like = granted_as t w in subst (λ (x : Waiting). AreTwo x v) like.1 h

pub apart-granted : (t : TransId) (ws : List Waiting) → AreApart ws → AreApart (list_map (grant_in t) ws)
apart-granted t [] h = tt
apart-granted t (w ∷ ws) h = (all-granted (AreTwo (grant_in t w)) (λ v b k. k) t ws (all-both (AreTwo w) (AreTwo w) (AreTwo (grant_in t w)) (λ v k j. two-granted t w v k) ws h.0 h.0), apart-granted t ws h.1)

pub apart-filter : (p : Waiting → Bool) (ws : List Waiting) → AreApart ws → AreApart (filter p ws)
apart-filter p [] h = tt
apart-filter p (w ∷ ws) h = go (p w) (apart-filter p ws h.1)
  where
    go : (b : Bool) → AreApart (filter p ws) → AreApart (cond b (w ∷ filter p ws) (filter p ws))
    go true k = (all-filter (AreTwo w) p ws h.0, k)
    go false k = k

pub apart-last : (ws : List Waiting) (w : Waiting) → AreApart ws → AllByRecursion (λ v. AreTwo v w) ws → AreApart (ws ++ w ∷ [])
apart-last [] w h k = (tt, tt)
apart-last (v ∷ ws) w h k = (all-append (AreTwo v) ws (w ∷ []) h.0 (k.0, tt), apart-last ws w h.1 k.1)

-- ---- each is the only one

-- it is found by its transaction, by its part and by its number
pub record IsOnly (ws : List Waiting) (w : Waiting) : Type 0 where
  pub by_trans : (t : TransId) → file_trans w.call ≡ Some t → find (is_on_trans t) ws ≡ Some w
  pub by_own : (t : TransId) → part_trans w.call ≡ Some t → find (is_of_part w.client t) ws ≡ Some w
  pub by_number : find (λ (v : Waiting). v.client == w.client && v.number == w.number) ws ≡ Some w

pub by_part : (ws : List Waiting) (w : Waiting) → IsOnly ws w → (t : TransId) → file_trans w.call ≡ Some t → find (is_of_part w.client t) ws ≡ Some w
by_part ws w only t of = only.by_own t (file_part w.call t of)

at-first : {A : Type 0} (p : A → Bool) (x : A) (xs : List A) → p x ≡ true → find p (x ∷ xs) ≡ Some x
at-first p x xs e = ap (λ (b : Bool). cond b (Some x) (find p xs)) e

at-later : {A : Type 0} (p : A → Bool) (x y : A) (xs : List A) → p x ≡ false → find p xs ≡ Some y → find p (x ∷ xs) ≡ Some y
at-later p x y xs e is = ap (λ (b : Bool). cond b (Some x) (find p xs)) e ∙ is

-- a call is one of its own part
pub of_own : (t : TransId) (w : Waiting) → part_trans w.call ≡ Some t → is_of_part w.client t w ≡ true
of_own t w of = ap (λ (x : Option TransId). w.client == w.client && is_of t x) of ∙ ap (λ (b : Bool). b && same_trans t t) (eq-eqb w.client w.client refl) ∙ same_trans-itself t

pub each-only : (ws : List Waiting) → AreApart ws → AllByRecursion (IsOnly ws) ws
each-only [] h = tt
each-only (v ∷ vs) h = (
  record {
    by_trans = λ t of. at-first (is_on_trans t) v vs (on_own t v of);
    by_own = λ t of. at-first (is_of_part v.client t) v vs (of_own t v of);
    by_number = at-first (λ (u : Waiting). u.client == v.client && u.number == v.number) v vs ((λ i. eq-eqb v.client v.client refl i && v.number == v.number) ∙ eq-eqb v.number v.number refl);
  },
  all-both (AreTwo v) (IsOnly vs) (IsOnly (v ∷ vs)) later vs h.0 (each-only vs h.1),
)
  where
    later : (w : Waiting) → AreTwo v w → IsOnly vs w → IsOnly (v ∷ vs) w
    later w two only =
        let back : AreTwo w v = two-turned v w two in
        record {
          by_trans = λ t of. at-later (is_on_trans t) v w vs (back.0 t of) (only.by_trans t of);
          by_own = λ t of. at-later (is_of_part w.client t) v w vs (back.2 t of) (only.by_own t of);
          by_number = at-later (λ (u : Waiting). u.client == w.client && u.number == w.number) v w vs back.1 only.by_number;
        }

-- ---- grants, one after the other

pub all-given : (P : Waiting → Type 0) → ((w : Waiting) (b : Bool) → P w → P (record w { is_granted = b })) → (xs : List (TransId × Call)) (ws : List Waiting) → AllByRecursion P ws → AllByRecursion P (waits_granted ws xs)
all-given P keeps [] ws h = h
all-given P keeps (x ∷ xs) ws h = all-given P keeps xs (list_map (grant_in x.0) ws) (all-granted P keeps x.0 ws h)

pub apart-given : (xs : List (TransId × Call)) (ws : List Waiting) → AreApart ws → AreApart (waits_granted ws xs)
apart-given [] ws h = h
apart-given (x ∷ xs) ws h = apart-given xs (list_map (grant_in x.0) ws) (apart-granted x.0 ws h)

-- who goes does not hang on what is granted
without-granted : (p : Waiting → Bool) → ((w : Waiting) (b : Bool) → p (record w { is_granted = b }) ≡ p w) → (t : TransId) (ws : List Waiting) → without p (list_map (grant_in t) ws) ≡ list_map (grant_in t) (without p ws)
without-granted p keeps t [] = refl
without-granted p keeps t (w ∷ ws) = go (p w) (p (grant_in t w)) refl (let like = granted_as t w in ap p (sym like.1) ∙ keeps w like.0) (without-granted p keeps t ws)
  where
    go : (b d : Bool) → p w ≡ b → d ≡ p w → without p (list_map (grant_in t) ws) ≡ list_map (grant_in t) (without p ws)
        → cond (not d) (grant_in t w ∷ without p (list_map (grant_in t) ws)) (without p (list_map (grant_in t) ws)) ≡ list_map (grant_in t) (cond (not b) (w ∷ without p ws) (without p ws))
    go true true e f rest = rest
    go false false e f rest = ap (λ (vs : List Waiting). grant_in t w ∷ vs) rest
    go true false e f rest = let wrong : false ≡ true = f ∙ e in cc
    go false true e f rest = let wrong : true ≡ false = f ∙ e in cc

pub without-given : (p : Waiting → Bool) → ((w : Waiting) (b : Bool) → p (record w { is_granted = b }) ≡ p w) → (xs : List (TransId × Call)) (ws : List Waiting)
    → without p (waits_granted ws xs) ≡ waits_granted (without p ws) xs
without-given p keeps [] ws = refl
without-given p keeps (x ∷ xs) ws = without-given p keeps xs (list_map (grant_in x.0) ws) ∙ ap (λ (vs : List Waiting). waits_granted vs xs) (without-granted p keeps x.0 ws)
