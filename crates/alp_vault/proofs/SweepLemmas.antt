-- keys that are cleared one after the other, and what a change's drops and cuts clear
use Rattle.std.specs.Prelude.{◌⊎◌, Option, None, Some, cond, Bool, true, false, ◌&&◌, ◌||◌, nat_le, nat_lt, is_some, map as list_map}
use Rattle.std.specs.List.{list_any}
use Rattle.std.specs.Option.{option_or}
use Rattle.std.specs.Ordering.{eq_by_cmp}
use Rattle.std.specs.Cmp.{both_ways}
use Rattle.std.specs.FinMap as map
use Rattle.std.specs.FinMap.{get-remove, get-empty, same_map}
use Rattle.std.proofs.Common.{◌≡◌, ℕ, ◌+◌, ◌<◌, ◌≤◌, List, [], ◌∷◌, ◌++◌, length, inl, inr, refl, sym, ◌∙◌, ap, arith}
use Rattle.std.proofs.lemmas.Bool.{and_from}
use Rattle.alp_base.proofs.NameLemmas.{and_left, and_right}
use Rattle.alp_base.specs.declared.ids.FileId.{FileId}
use Rattle.alp_base.specs.declared.key.Key.{Key}
use Rattle.alp_base.specs.declared.key.Key.TheVariants.{Leader, PageOf, OwnerOf}
use Rattle.alp_base.specs.Keys.{key_cmp}
use Rattle.alp_base.specs.KeyLaws.{keys_total, exact_keys}
use Rattle.alp_base.specs.declared.cell.Cell.{Cell}
use Rattle.alp_files.specs.Cells.{Cells, same_file, props_in}
use Rattle.alp_files.specs.Files.{AreFiles}
use Rattle.alp_files.specs.Edits.{Drop, Cut, is_in_file, is_past, edits_at, edits_map}
use Rattle.alp_files.specs.Undo.{puts_of}
use Rattle.alp_files.proofs.EditLemmas.{edits_at-append}
use Rattle.alp_files.proofs.HistoryLemmas.{get-edits_map}
use Rattle.alp_files.proofs.SameLemmas.{same_key-true, same_key-itself, same_page_key, same_file-true, same_file-itself}
use Rattle.alp_base.specs.declared.change.Change.{Change}
use Rattle.alp_vault.specs.declared.sweep.Sweep.{Sweep}
use Rattle.alp_files.specs.Changes.{edits_of}
use Rattle.alp_vault.specs.Sweeps.{is_page_between, is_swept, is_swept_by, left_of, size_at, size_or_none, drop_sweep, cut_sweep, sweeps_of}

pub left-twice : (a b k : Bool) (o : Option Cell) → left_of b k (left_of a k o) ≡ left_of (a || b) k o
left-twice true true true o = refl
left-twice true true false o = refl
left-twice true false true o = refl
left-twice true false false o = refl
left-twice false true true o = refl
left-twice false true false o = refl
left-twice false false true o = refl
left-twice false false false o = refl

-- one key, unless it is kept
pub one_cleared : (m kept : Cells) (k q : Key) → map.contains_key kept k ≡ false → map.get (map.remove m k) q ≡ left_of (eq_by_cmp key_cmp q k) (map.contains_key kept q) (map.get m q)
one_cleared m kept k q none = get-remove keys_total m k q ∙ go (eq_by_cmp key_cmp q k) refl
  where
    go : (t : Bool) → eq_by_cmp key_cmp q k ≡ t → cond t None (map.get m q) ≡ left_of t (map.contains_key kept q) (map.get m q)
    go true e = sym (ap (λ (s : Bool). left_of true s (map.get m q)) (ap (λ (x : Key). map.contains_key kept x) (same_key-true q k e) ∙ none))
    go false e = refl

pub one_kept : (m kept : Cells) (k q : Key) → map.contains_key kept k ≡ true → map.get m q ≡ left_of (eq_by_cmp key_cmp q k) (map.contains_key kept q) (map.get m q)
one_kept m kept k q there = go (eq_by_cmp key_cmp q k) refl
  where
    go : (t : Bool) → eq_by_cmp key_cmp q k ≡ t → map.get m q ≡ left_of t (map.contains_key kept q) (map.get m q)
    go true e = sym (ap (λ (s : Bool). left_of true s (map.get m q)) (ap (λ (x : Key). map.contains_key kept x) (same_key-true q k e) ∙ there))
    go false e = refl

-- ---- pages in a row

or_false : (b : Bool) → (b || false) ≡ b
or_false true = refl
or_false false = refl

or_cases : (a b : Bool) → {P : Type 0} → (a ≡ true → P) → (b ≡ true → P) → (a || b) ≡ true → P
or_cases true b f g h = f refl
or_cases false b f g h = g h

or_left : (a b : Bool) → a ≡ true → (a || b) ≡ true
or_left true b h = refl
or_left false b h = cc

or_right : (a b : Bool) → b ≡ true → (a || b) ≡ true
or_right true b h = refl
or_right false b h = h

le_true : (a b : ℕ) → a ≤ b → nat_le a b ≡ true
le_true a b h = grind arith

le_is : (a b : ℕ) → nat_le a b ≡ true → a ≤ b
le_is a b h = grind arith

lt_true : (a b : ℕ) → a < b → nat_lt a b ≡ true
lt_true a b h = grind arith

lt_is : (a b : ℕ) → nat_lt a b ≡ true → a < b
lt_is a b h = grind arith

lt_not : (a b : ℕ) → nat_lt a b ≡ false → b ≤ a
lt_not a b h = grind arith

page_step : (f g : FileId) (a i n : ℕ) → a ≤ i
    → (is_page_between f a i (PageOf g n) || eq_by_cmp key_cmp (PageOf g n) (PageOf f i)) ≡ is_page_between f a (i + 1) (PageOf g n)
page_step f g a i n low = both_ways _ _
    (or_cases (is_page_between f a i (PageOf g n)) (eq_by_cmp key_cmp (PageOf g n) (PageOf f i))
    (λ h. let inside : (nat_le a n && nat_lt n i) ≡ true = and_right _ _ h in
    and_from _ _ (and_left _ _ h) (and_from _ _ (and_left _ _ inside) (lt_true n (i + 1) (later (lt_is n i (and_right (nat_le a n) (nat_lt n i) inside))))))
    (λ h. let same = same_page_key g f n i h in
    and_from _ _ (ap (same_file f) same.0 ∙ same_file-itself f) (and_from _ _ (le_true a n (omega (arith, same.1, low))) (lt_true n (i + 1) (omega (arith, same.1))))))
    (λ h. let inside : (nat_le a n && nat_lt n (i + 1)) ≡ true = and_right _ _ h in go h inside (nat_lt n i) refl)
  where
    later : n < i → n < i + 1
    later h = omega (arith, h)

    go : is_page_between f a (i + 1) (PageOf g n) ≡ true → (nat_le a n && nat_lt n (i + 1)) ≡ true → (t : Bool) → nat_lt n i ≡ t → (is_page_between f a i (PageOf g n) || eq_by_cmp key_cmp (PageOf g n) (PageOf f i)) ≡ true
    go h inside true e =
        or_left (is_page_between f a i (PageOf g n)) (eq_by_cmp key_cmp (PageOf g n) (PageOf f i))
        (and_from (same_file f g) (nat_le a n && nat_lt n i) (and_left (same_file f g) (nat_le a n && nat_lt n (i + 1)) h) (and_from (nat_le a n) (nat_lt n i) (and_left (nat_le a n) (nat_lt n (i + 1)) inside) e))
    go h inside false e =
        let below : n < i + 1 = lt_is n (i + 1) (and_right (nat_le a n) (nat_lt n (i + 1)) inside) in
        let number : n ≡ i = omega (arith, lt_not n i e, below) in
        let file : f ≡ g = same_file-true f g (and_left (same_file f g) (nat_le a n && nat_lt n (i + 1)) h) in
        or_right (is_page_between f a i (PageOf g n)) (eq_by_cmp key_cmp (PageOf g n) (PageOf f i)) (ap (λ (x : FileId). eq_by_cmp key_cmp (PageOf g n) (PageOf x i)) file ∙ ap (λ (x : ℕ). eq_by_cmp key_cmp (PageOf g n) (PageOf g x)) (sym number) ∙ same_key-itself (PageOf g n))

pub between-step : (f : FileId) (a i : ℕ) (q : Key) → a ≤ i → (is_page_between f a i q || eq_by_cmp key_cmp q (PageOf f i)) ≡ is_page_between f a (i + 1) q
between-step f a i (Leader g) low = refl
between-step f a i (OwnerOf name) low = refl
between-step f a i (PageOf g n) low = page_step f g a i n low

and_false : (b : Bool) → (b && false) ≡ false
and_false true = refl
and_false false = refl

-- no number lies in an empty range
pub between-none : (f : FileId) (a b : ℕ) (q : Key) → b ≤ a → is_page_between f a b q ≡ false
between-none f a b (Leader g) h = refl
between-none f a b (OwnerOf name) h = refl
between-none f a b (PageOf g n) h = ap (λ (t : Bool). same_file f g && t) (go (nat_le a n) refl) ∙ and_false (same_file f g)
  where
    go : (t : Bool) → nat_le a n ≡ t → (t && nat_lt n b) ≡ false
    go false e = refl
    go true e = let low : a ≤ n = le_is a n e in grind arith

-- the pages up to where a loop stopped
pub between-end : (f : FileId) (a b i : ℕ) (q : Key) → (i ≤ b) ⊎ (i ≡ a) → b ≤ i → is_page_between f a i q ≡ is_page_between f a b q
between-end f a b i q (inl h) past = let same : i ≡ b = omega (arith, h, past) in ap (λ (n : ℕ). is_page_between f a n q) same
between-end f a b i q (inr h) past = between-none f a i q (omega (arith, h)) ∙ sym (between-none f a b q (omega (arith, h, past)))

-- ---- what the drops and cuts of a change clear

any-append : {X : Type 0} (p : X → Bool) (xs ys : List X) → list_any p (xs ++ ys) ≡ (list_any p xs || list_any p ys)
any-append p [] ys = refl
any-append p (x ∷ xs) ys = go (p x) (any-append p xs ys)
  where
    go : (t : Bool) → list_any p (xs ++ ys) ≡ (list_any p xs || list_any p ys) → (t || list_any p (xs ++ ys)) ≡ ((t || list_any p xs) || list_any p ys)
    go true h = refl
    go false h = h

gone-twice : (a b : Bool) (o : Option Cell) → cond b None (cond a None o) ≡ cond (a || b) None o
gone-twice true true o = refl
gone-twice true false o = refl
gone-twice false b o = refl

edits-drops : (fs : List FileId) (q : Key) (o : Option Cell) → edits_at (list_map Drop fs) q o ≡ cond (list_any (λ f. is_in_file f q) fs) None o
edits-drops [] q o = refl
edits-drops (f ∷ fs) q o = edits-drops fs q (cond (is_in_file f q) None o) ∙ gone-twice (is_in_file f q) (list_any (λ f. is_in_file f q) fs) o

edits-cuts : (cs : List (FileId × ℕ)) (q : Key) (o : Option Cell) → edits_at (list_map (λ p. Cut p.0 p.1) cs) q o ≡ cond (list_any (λ p. is_past p.0 p.1 q) cs) None o
edits-cuts [] q o = refl
edits-cuts (c ∷ cs) q o = edits-cuts cs q (cond (is_past c.0 c.1 q) None o) ∙ gone-twice (is_past c.0 c.1 q) (list_any (λ p. is_past p.0 p.1 q) cs) o

-- a page that stands lies below the size of its file
below_size : (m : Cells) → AreFiles (map.get m) → (f g : FileId) (n : ℕ) (c : Cell) → map.get m (PageOf g n) ≡ Some c → same_file f g ≡ true → nat_lt n (size_at m f) ≡ true
below_size m files f g n c is same =
    let page = files.paged g n c is in
    let size : size_at m f ≡ page.0.size = ap (λ (x : FileId). size_at m x) (same_file-true f g same) ∙ ap (λ (o : Option Cell). size_or_none (props_in o)) page.1 in
    lt_true n (size_at m f) (omega (arith, size, page.2))

drop-swept : (m : Cells) → AreFiles (map.get m) → (f : FileId) (q : Key) (c : Cell) → map.get m q ≡ Some c → is_swept (drop_sweep m f) q ≡ is_in_file f q
drop-swept m files f (Leader g) c is = or_false (same_file f g)
drop-swept m files f (OwnerOf name) c is = refl
drop-swept m files f (PageOf g n) c is = go (same_file f g) refl
  where
    go : (t : Bool) → same_file f g ≡ t → (t && (nat_le 0 n && nat_lt n (size_at m f))) ≡ t
    go false e = refl
    go true e = and_from _ _ (le_true 0 n (omega arith)) (below_size m files f g n c is e)

cut-swept : (m : Cells) → AreFiles (map.get m) → (p : FileId × ℕ) (q : Key) (c : Cell) → map.get m q ≡ Some c → is_swept (cut_sweep m p) q ≡ is_past p.0 p.1 q
cut-swept m files p (Leader g) c is = refl
cut-swept m files p (OwnerOf name) c is = refl
cut-swept m files p (PageOf g n) c is = go (same_file p.0 g) (nat_le p.1 n) refl
  where
    go : (t s : Bool) → same_file p.0 g ≡ t → (t && (s && nat_lt n (size_at m p.0))) ≡ (t && s)
    go false s e = refl
    go true false e = refl
    go true true e = below_size m files p.0 g n c is e

drops-swept : (m : Cells) → AreFiles (map.get m) → (fs : List FileId) (q : Key) (c : Cell) → map.get m q ≡ Some c → list_any (λ s. is_swept s q) (list_map (drop_sweep m) fs) ≡ list_any (λ f. is_in_file f q) fs
drops-swept m files [] q c is = refl
drops-swept m files (f ∷ fs) q c is = ap (λ (t : Bool). t || list_any (λ s. is_swept s q) (list_map (drop_sweep m) fs)) (drop-swept m files f q c is) ∙ ap (λ (t : Bool). is_in_file f q || t) (drops-swept m files fs q c is)

cuts-swept : (m : Cells) → AreFiles (map.get m) → (cs : List (FileId × ℕ)) (q : Key) (c : Cell) → map.get m q ≡ Some c → list_any (λ s. is_swept s q) (list_map (cut_sweep m) cs) ≡ list_any (λ p. is_past p.0 p.1 q) cs
cuts-swept m files [] q c is = refl
cuts-swept m files (p ∷ cs) q c is = ap (λ (t : Bool). t || list_any (λ s. is_swept s q) (list_map (cut_sweep m) cs)) (cut-swept m files p q c is) ∙ ap (λ (t : Bool). is_past p.0 p.1 q || t) (cuts-swept m files cs q c is)

-- the drops and cuts leave at a key what the sweeps leave there
drops_and_cuts : (m : Cells) → AreFiles (map.get m) → (change : Change) (q : Key)
    → edits_at (list_map (λ p. Cut p.0 p.1) change.cuts) q (edits_at (list_map Drop change.drops) q (map.get m q)) ≡ cond (is_swept_by (sweeps_of m change) q) None (map.get m q)
drops_and_cuts m files change q =
    edits-cuts change.cuts q (edits_at (list_map Drop change.drops) q (map.get m q))
    ∙ ap (cond (list_any (λ p. is_past p.0 p.1 q) change.cuts) None) (edits-drops change.drops q (map.get m q))
    ∙ gone-twice (list_any (λ f. is_in_file f q) change.drops) (list_any (λ p. is_past p.0 p.1 q) change.cuts) (map.get m q)
    ∙ go (map.get m q) refl
  where
    nothing : (a b : Bool) → cond {A = Option Cell} a None None ≡ cond b None None
    nothing true true = refl
    nothing true false = refl
    nothing false true = refl
    nothing false false = refl

    go : (o : Option Cell) → map.get m q ≡ o → cond (list_any (λ f. is_in_file f q) change.drops || list_any (λ p. is_past p.0 p.1 q) change.cuts) None o ≡ cond (is_swept_by (sweeps_of m change) q) None o
    go None e = nothing _ _
    go (Some c) e = ap (λ (t : Bool). cond t None (Some c))
        (ap (λ (t : Bool). t || list_any (λ p. is_past p.0 p.1 q) change.cuts) (sym (drops-swept m files change.drops q c e))
        ∙ ap (λ (t : Bool). list_any (λ s. is_swept s q) (list_map (drop_sweep m) change.drops) || t) (sym (cuts-swept m files change.cuts q c e))
        ∙ sym (any-append (λ s. is_swept s q) (list_map (drop_sweep m) change.drops) (list_map (cut_sweep m) change.cuts)))

-- ---- puts lie over what is there

or_cond : (t : Bool) (c : Cell) (e o : Option Cell) → option_or e (cond t (Some c) o) ≡ option_or (option_or e (cond t (Some c) None)) o
or_cond true c None o = refl
or_cond true c (Some x) o = refl
or_cond false c None o = refl
or_cond false c (Some x) o = refl

puts_over : (xs : List (Key × Cell)) (q : Key) (o : Option Cell) → edits_at (puts_of xs) q o ≡ option_or (edits_at (puts_of xs) q None) o
puts_over [] q o = refl
puts_over (x ∷ xs) q o =
    puts_over xs q (cond (eq_by_cmp key_cmp q x.0) (Some x.1) o)
    ∙ or_cond (eq_by_cmp key_cmp q x.0) x.1 (edits_at (puts_of xs) q None) o
    ∙ ap (λ (e : Option Cell). option_or e o) (sym (puts_over xs q (cond (eq_by_cmp key_cmp q x.0) (Some x.1) None)))

some_swept : (sweeps : List Sweep) (q : Key) → is_swept_by sweeps q ≡ true → 0 < length sweeps
some_swept [] q h = cc
some_swept (s ∷ ss) q h = omega arith

-- puts first, and then the sweep of what they did not put, make the change
pub all_made : (m put new kept : Cells) (sweeps : List Sweep) (change : Change) → AreFiles (map.get m)
    → put ≡ edits_map (puts_of change.puts) m → sweeps ≡ sweeps_of m change → (0 < length sweeps → kept ≡ edits_map (puts_of change.puts) map.empty)
    → ((q : Key) → map.get new q ≡ left_of (is_swept_by sweeps q) (map.contains_key kept q) (map.get put q)) → new ≡ edits_map (edits_of change) m
all_made m put new kept sweeps change files is_put is_swept_list is_kept left = same_map keys_total exact_keys _ _ (λ q.
    left q
    ∙ ap (left_of (is_swept_by sweeps q) (map.contains_key kept q)) (ap (λ (x : Cells). map.get x q) is_put ∙ ap (λ v. v q) (get-edits_map (puts_of change.puts) m) ∙ puts_over change.puts q (map.get m q))
    ∙ go q (is_swept_by sweeps q) refl (edits_at (puts_of change.puts) q None) refl
    ∙ ap (λ (t : Bool). option_or (edits_at (puts_of change.puts) q None) (cond t None (map.get m q))) (ap (λ (ss : List Sweep). is_swept_by ss q) is_swept_list)
    ∙ ap (option_or (edits_at (puts_of change.puts) q None)) (sym (drops_and_cuts m files change q))
    ∙ sym (puts_over change.puts q _)
    ∙ sym (edits_at-append (list_map (λ p. Cut p.0 p.1) change.cuts) (puts_of change.puts) q _)
    ∙ sym (edits_at-append (list_map Drop change.drops) (list_map (λ p. Cut p.0 p.1) change.cuts ++ puts_of change.puts) q (map.get m q))
    ∙ sym (ap (λ v. v q) (get-edits_map (edits_of change) m)))
  where
    held : (q : Key) → is_swept_by sweeps q ≡ true → map.get kept q ≡ edits_at (puts_of change.puts) q None
    held q s =
        ap (λ (x : Cells). map.get x q) (is_kept (some_swept sweeps q s)) ∙ ap (λ v. v q) (get-edits_map (puts_of change.puts) map.empty)
        ∙ ap (edits_at (puts_of change.puts) q) (get-empty key_cmp q)

    go : (q : Key) (t : Bool) → is_swept_by sweeps q ≡ t → (e : Option Cell) → edits_at (puts_of change.puts) q None ≡ e
        → left_of t (map.contains_key kept q) (option_or e (map.get m q)) ≡ option_or e (cond t None (map.get m q))
    go q false s None p = refl
    go q false s (Some x) p = refl
    go q true s None p = ap (λ (k : Bool). left_of true k (map.get m q)) (ap is_some (held q s ∙ p))
    go q true s (Some x) p = ap (λ (k : Bool). left_of true k (Some x)) (ap is_some (held q s ∙ p))
