-- the change that intents come to makes what is seen through them
use Rattle.std.specs.Prelude.{cond, Bool, true, false, ◌&&◌, ◌||◌, nat_le, is_some, Option, None, Some, map as list_map}
use Rattle.std.specs.List.{list_any}
use Rattle.std.specs.Option.{option_or}
use Rattle.std.specs.declared.cmp.Ordering.{Ordering}
use Rattle.std.specs.declared.cmp.Ordering.TheVariants.{Less, Equal, Greater}
use Rattle.std.specs.Cmp.{IsTotalOrder}
use Rattle.std.specs.Ordering.{eq_by_cmp, is_eq, is_lt}
use Rattle.std.specs.FinMap as map
use Rattle.std.specs.FinMap.{FinMap, find, is_sorted, contains_key-keys, get-entries, entries_sorted}
use Rattle.std.specs.FinMap.Entries.{below_all}
use Rattle.std.proofs.Math.Dec.{T}
use Rattle.std.proofs.Common.{◌≡◌, ℕ, List, [], ◌∷◌, ◌++◌, refl, sym, ◌∙◌, ap, subst}
use Rattle.alp_base.specs.declared.ids.FileId.{FileId}
use Rattle.alp_base.specs.declared.key.Key.{Key}
use Rattle.alp_base.specs.declared.key.Key.TheVariants.{Leader, PageOf, OwnerOf}
use Rattle.alp_base.specs.Keys.{key_cmp}
use Rattle.alp_base.specs.KeyLaws.{file_cmp, keys_total}
use Rattle.alp_base.specs.declared.cell.Cell.{Cell}
use Rattle.alp_files.specs.Cells.{Cells, View, same_file}
use Rattle.alp_files.specs.Changes.{edits_of}
use Rattle.alp_files.specs.Edits.{Edit, Drop, Cut, is_in_file, is_past, edits_at, after, edits_map}
use Rattle.alp_files.specs.Needs.{Intents, intents_of, is_cut, is_gone, through}
use Rattle.alp_files.specs.Undo.{puts_of}
use Rattle.alp_files.proofs.EditLemmas.{edits_at-append}
use Rattle.alp_files.proofs.HistoryLemmas.{get-edits_map, same_cells}
use Rattle.alp_files.proofs.IntentLemmas.{files_total, same_id, through_of}
use Rattle.alp_trans.specs.Parts.{change_of}

-- ---- sorted entries have a key once

first_of : (a b : Bool) → T (a && b) → T a
first_of true b p = tt
first_of false b p = p

second_of : (a b : Bool) → T (a && b) → T b
second_of true b p = p
second_of false b p = absurd p

module _ {K X : Type 0} {R : K → K → Ordering} (total : IsTotalOrder R) where
  -- none of the later entries has the key of the first
  none_later : (x q : K) (es : List (K × X)) → T (below_all R x es) → R q x ≡ Equal → find R q es ≡ None
  none_later x q [] below e = refl
  none_later x q (y ∷ es) below e =
      ap (λ (r : Ordering). cond (is_eq r) (Some y.1) (find R q es)) (total.congr q x y.0 e) ∙ go (R x y.0) (first_of _ _ below)
      ∙ none_later x q es (second_of (is_lt (R x y.0)) (below_all R x es) below) e
    where
      go : (r : Ordering) → T (is_lt r) → cond (is_eq r) (Some y.1) (find R q es) ≡ find R q es
      go Less h = refl
      go Equal h = absurd h
      go Greater h = absurd h

  -- so one of them passes a test at a key where the one that is found does
  abbrev pub passes : (X → Bool) → Option X → Bool
  passes t None = false
  passes t (Some x) = t x

  any_found : (t : X → Bool) (q : K) (es : List (K × X)) → T (is_sorted R es) → list_any (λ (e : K × X). eq_by_cmp R q e.0 && t e.1) es ≡ passes t (find R q es)
  any_found t q [] h = refl
  any_found t q (e ∷ es) h = go (R q e.0) refl (any_found t q es (second_of (below_all R e.0 es) (is_sorted R es) h))
    where
      last : (b : Bool) → (b || false) ≡ b
      last true = refl
      last false = refl

      go : (r : Ordering) → R q e.0 ≡ r → list_any (λ (x : K × X). eq_by_cmp R q x.0 && t x.1) es ≡ passes t (find R q es)
          → ((is_eq r && t e.1) || list_any (λ (x : K × X). eq_by_cmp R q x.0 && t x.1) es) ≡ passes t (cond (is_eq r) (Some e.1) (find R q es))
      go Equal is rest = ap (λ (b : Bool). t e.1 || b) (rest ∙ ap (passes t) (none_later e.0 q es (first_of _ (is_sorted R es) h) is)) ∙ last (t e.1)
      go Less is rest = rest
      go Greater is rest = rest

  -- the entries, put one after the other
  abbrev pub shown : (q : K) (es : List (K × X)) (o : Option X) → Option X
  shown q [] o = o
  shown q (e ∷ es) o = shown q es (cond (eq_by_cmp R q e.0) (Some e.1) o)

  pub shown_over : (q : K) (es : List (K × X)) (o : Option X) → T (is_sorted R es) → shown q es o ≡ option_or (find R q es) o
  shown_over q [] o h = refl
  shown_over q (e ∷ es) o h = shown_over q es (cond (eq_by_cmp R q e.0) (Some e.1) o) (second_of (below_all R e.0 es) (is_sorted R es) h) ∙ go (R q e.0) refl
    where
      go : (r : Ordering) → R q e.0 ≡ r → option_or (find R q es) (cond (is_eq r) (Some e.1) o) ≡ option_or (cond (is_eq r) (Some e.1) (find R q es)) o
      go Equal is = ap (λ (x : Option X). option_or x (Some e.1)) (none_later e.0 q es (first_of _ (is_sorted R es) h) is)
      go Less is = refl
      go Greater is = refl

-- ---- drops, cuts and puts

cond_or : (a b : Bool) (o : Option Cell) → cond b None (cond a None o) ≡ cond (a || b) None o
cond_or true true o = refl
cond_or true false o = refl
cond_or false b o = refl

drops_at : (fs : List FileId) (q : Key) (o : Option Cell) → edits_at (list_map Drop fs) q o ≡ cond (list_any (λ (f : FileId). is_in_file f q) fs) None o
drops_at [] q o = refl
drops_at (f ∷ fs) q o = drops_at fs q (cond (is_in_file f q) None o) ∙ cond_or (is_in_file f q) (list_any (λ (g : FileId). is_in_file g q) fs) o

cuts_at : (ps : List (FileId × ℕ)) (q : Key) (o : Option Cell) → edits_at (list_map (λ p. Cut p.0 p.1) ps) q o ≡ cond (list_any (λ (p : FileId × ℕ). is_past p.0 p.1 q) ps) None o
cuts_at [] q o = refl
cuts_at (p ∷ ps) q o = cuts_at ps q (cond (is_past p.0 p.1 q) None o) ∙ cond_or (is_past p.0 p.1 q) (list_any (λ (x : FileId × ℕ). is_past x.0 x.1 q) ps) o

puts_at : (ps : List (Key × Cell)) (q : Key) (o : Option Cell) → edits_at (puts_of ps) q o ≡ shown keys_total q ps o
puts_at [] q o = refl
puts_at (p ∷ ps) q o = puts_at ps q (cond (eq_by_cmp key_cmp q p.0) (Some p.1) o)

-- all entries of a map, put over another one
pub get-laid : (x m : Cells) (q : Key) → map.get (edits_map (puts_of (map.entries x)) m) q ≡ option_or (map.get x q) (map.get m q)
get-laid x m q =
    ap (λ (v : View). v q) (get-edits_map (puts_of (map.entries x)) m)
    ∙ puts_at (map.entries x) q (map.get m q)
    ∙ shown_over keys_total q (map.entries x) (map.get m q) (entries_sorted x)
    ∙ ap (λ (o : Option Cell). option_or o (map.get m q)) (sym (get-entries x q))

any_same : {A : Type 0} (t u : A → Bool) → ((x : A) → t x ≡ u x) → (xs : List A) → list_any t xs ≡ list_any u xs
any_same t u same [] = refl
any_same t u same (x ∷ xs) = λ i. same x i || any_same t u same xs i

none_any : {A : Type 0} (xs : List A) → list_any (λ x. false) xs ≡ false
none_any [] = refl
none_any (x ∷ xs) = none_any xs

module _ (i : Intents) where
  is_dropped : (g : FileId) → list_any (λ (f : FileId). same_file f g) (map.keys i.drops) ≡ map.contains_key i.drops g
  is_dropped g = any_same (λ f. same_file f g) (eq_by_cmp file_cmp g) (λ f. sym (same_id f g)) (map.keys i.drops) ∙ sym (contains_key-keys i.drops g)

  is_cut_so : (o : Option ℕ) (n : ℕ) → passes files_total (λ m. nat_le m n) o ≡ is_cut o n
  is_cut_so None n = refl
  is_cut_so (Some m) n = refl

  is_cut_there : (g : FileId) (n : ℕ) → list_any (λ (p : FileId × ℕ). same_file p.0 g && nat_le p.1 n) (map.entries i.cuts) ≡ is_cut (map.get i.cuts g) n
  is_cut_there g n =
      any_same (λ (p : FileId × ℕ). same_file p.0 g && nat_le p.1 n) (λ (p : FileId × ℕ). eq_by_cmp file_cmp g p.0 && nat_le p.1 n) (λ p. ap (λ (b : Bool). b && nat_le p.1 n) (sym (same_id p.0 g))) (map.entries i.cuts)
      ∙ any_found files_total (λ m. nat_le m n) g (map.entries i.cuts) (entries_sorted i.cuts)
      ∙ ap (passes files_total (λ m. nat_le m n)) (sym (get-entries i.cuts g))
      ∙ is_cut_so (map.get i.cuts g) n

  -- whether one of the drops or of the cuts takes a cell
  goes : (q : Key) → (list_any (λ (f : FileId). is_in_file f q) (map.keys i.drops) || list_any (λ (p : FileId × ℕ). is_past p.0 p.1 q) (map.entries i.cuts)) ≡ is_gone i q
  goes (Leader g) = (λ j. is_dropped g j || none_any (map.entries i.cuts) j) ∙ last (map.contains_key i.drops g)
    where
      last : (b : Bool) → (b || false) ≡ b
      last true = refl
      last false = refl
  goes (PageOf g n) = λ j. is_dropped g j || is_cut_there g n j
  goes (OwnerOf name) = λ j. none_any (map.keys i.drops) j || none_any (map.entries i.cuts) j

  -- the drops and the cuts of a change
  abbrev pub goings : List Edit
  goings = list_map Drop (map.keys i.drops) ++ list_map (λ (p : FileId × ℕ). Cut p.0 p.1) (map.entries i.cuts)

  pub goings_at : (q : Key) (o : Option Cell) → edits_at goings q o ≡ cond (is_gone i q) None o
  goings_at q o =
      edits_at-append (list_map Drop (map.keys i.drops)) (list_map (λ (p : FileId × ℕ). Cut p.0 p.1) (map.entries i.cuts)) q o
      ∙ cuts_at (map.entries i.cuts) q (edits_at (list_map Drop (map.keys i.drops)) q o)
      ∙ ap (cond (list_any (λ (p : FileId × ℕ). is_past p.0 p.1 q) (map.entries i.cuts)) None) (drops_at (map.keys i.drops) q o)
      ∙ cond_or (list_any (λ (f : FileId). is_in_file f q) (map.keys i.drops)) (list_any (λ (p : FileId × ℕ). is_past p.0 p.1 q) (map.entries i.cuts)) o
      ∙ ap (λ (b : Bool). cond b None o) (goes q)

  pub change_at : (m : View) (q : Key) → edits_at (edits_of (change_of i)) q (m q) ≡ through i m q
  change_at m q =
      edits_at-append (list_map Drop (map.keys i.drops)) (list_map (λ (p : FileId × ℕ). Cut p.0 p.1) (map.entries i.cuts) ++ puts_of (map.entries i.puts)) q (m q)
      ∙ edits_at-append (list_map (λ (p : FileId × ℕ). Cut p.0 p.1) (map.entries i.cuts)) (puts_of (map.entries i.puts)) q (edits_at (list_map Drop (map.keys i.drops)) q (m q))
      ∙ ap (edits_at (puts_of (map.entries i.puts)) q) (sym (edits_at-append (list_map Drop (map.keys i.drops)) (list_map (λ (p : FileId × ℕ). Cut p.0 p.1) (map.entries i.cuts)) q (m q)) ∙ goings_at q (m q))
      ∙ puts_at (map.entries i.puts) q (cond (is_gone i q) None (m q))
      ∙ shown_over keys_total q (map.entries i.puts) (cond (is_gone i q) None (m q)) (entries_sorted i.puts)
      ∙ ap (λ (o : Option Cell). option_or o (cond (is_gone i q) None (m q))) (sym (get-entries i.puts q))

  pub get-change : (m : Cells) → map.get (edits_map (edits_of (change_of i)) m) ≡ through i (map.get m)
  get-change m = get-edits_map (edits_of (change_of i)) m ∙ (λ j q. change_at (map.get m) q j)

-- the change that edits come to makes the cells that they make
pub same_change : (es : List Edit) (m : Cells) → edits_map (edits_of (change_of (intents_of es))) m ≡ edits_map es m
same_change es m = same_cells (edits_map (edits_of (change_of (intents_of es))) m) (edits_map es m) (get-change (intents_of es) m ∙ through_of es (map.get m) ∙ sym (get-edits_map es m))
