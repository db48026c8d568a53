-- what edits come to, as intents
use Rattle.std.specs.Prelude.{cond, Bool, true, false, not, ◌&&◌, ◌||◌, nat_le, min, is_some, Option, None, Some, unwrap_or}
use Rattle.std.specs.List.{list_all}
use Rattle.std.specs.Option.{option_or}
use Rattle.std.specs.Cmp.{IsTotalOrder, eq_by_cmp_equiv}
use Rattle.std.specs.Ordering.{eq_by_cmp}
use Rattle.std.specs.FinMap as map
use Rattle.std.specs.FinMap.{get-insert, get-remove, get-empty, get-retain_keys, same_map}
use Rattle.std.proofs.Common.{◌≡◌, ℕ, ◌<◌, ◌≤◌, List, [], ◌∷◌, ◌++◌, refl, sym, ◌∙◌, ap, arith}
use Rattle.std.proofs.lemmas.Bool.{leb-true, leb-false, le-leb, lt-leb}
use Rattle.std.proofs.lemmas.Map.Views.{tells_apart}
use Rattle.alp_base.specs.declared.ids.FileId.{FileId}
use Rattle.alp_base.specs.declared.key.Key.TheVariants.{Leader, PageOf, OwnerOf}
use Rattle.alp_base.specs.contracts.ids.FileIdOrd.TheImpl.Laws as id_laws
use Rattle.alp_base.specs.declared.key.Key.{Key}
use Rattle.alp_base.specs.Keys.{key_cmp}
use Rattle.alp_base.specs.KeyLaws.{file_cmp, keys_total, exact_keys, exact_files}
use Rattle.alp_base.proofs.NameLemmas.{and_left, and_right}
use Rattle.alp_base.specs.declared.cell.Cell.{Cell}
use Rattle.alp_files.specs.Cells.{Cells, View, same_file}
use Rattle.alp_files.specs.Edits.{Edit, Drop, Cut, Put, is_in_file, is_past, edit_at, edits_at, after, edits_map}
use Rattle.alp_files.specs.Needs.{Intents, CutFiles, no_intents, intend, intents_from, intents_of, cut_from, is_put, is_cut, is_gone, through, with_puts}
use Rattle.alp_files.specs.Undo.{puts_of}
use Rattle.alp_files.proofs.SameLemmas.{same_key-true, same_file-true, same_file-itself}

pub files_total : IsTotalOrder file_cmp
files_total = id_laws.total-law

-- ---- one after the other

pub intents_from-append : (i : Intents) (es fs : List Edit) → intents_from i (es ++ fs) ≡ intents_from (intents_from i es) fs
intents_from-append i [] fs = refl
intents_from-append i (e ∷ es) fs = intents_from-append (intend e i) es fs

-- the puts are what the edits make of puts
pub puts_from : (i : Intents) (es : List Edit) → (intents_from i es).puts ≡ edits_map es i.puts
puts_from i [] = refl
puts_from i (Drop f ∷ es) = puts_from (intend (Drop f) i) es
puts_from i (Cut f n ∷ es) = puts_from (intend (Cut f n) i) es
puts_from i (Put k c ∷ es) = puts_from (intend (Put k c) i) es

-- edits that only put leave what goes
pub only_puts : (i : Intents) (es : List Edit) → list_all is_put es ≡ true → intents_from i es ≡ with_puts i (edits_map es i.puts)
only_puts i [] alone = refl
only_puts i (Put k c ∷ es) alone = only_puts (intend (Put k c) i) es alone
only_puts i (Drop f ∷ es) alone = cc
only_puts i (Cut f n ∷ es) alone = cc

pub puts_alone : (puts : List (Key × Cell)) → list_all is_put (puts_of puts) ≡ true
puts_alone [] = refl
puts_alone (p ∷ puts) = puts_alone puts

-- ---- puts beside what goes

module _ (p : Key → Bool) where
  pub kept : (m : Cells) (q : Key) → map.get (map.retain_keys m p) q ≡ cond (p q) (map.get m q) None
  kept m q = get-retain_keys m p q (λ x e. ap p (sym (exact_keys q x e)))

  put_kept : (m : Cells) (k : Key) (c : Cell) → p k ≡ true → map.insert (map.retain_keys m p) k c ≡ map.retain_keys (map.insert m k c) p
  put_kept m k c stays = same_map keys_total exact_keys _ _ (λ q.
      get-insert keys_total (map.retain_keys m p) k c q ∙ ap (cond (eq_by_cmp key_cmp q k) (Some c)) (kept m q)
      ∙ go q (eq_by_cmp key_cmp q k) refl
      ∙ sym (kept (map.insert m k c) q ∙ ap (λ (o : Option Cell). cond (p q) o None) (get-insert keys_total m k c q)))
    where
      go : (q : Key) (b : Bool) → eq_by_cmp key_cmp q k ≡ b → cond b (Some c) (cond (p q) (map.get m q) None) ≡ cond (p q) (cond b (Some c) (map.get m q)) None
      go q true e = sym (ap (λ (t : Bool). cond t (Some c) None) (ap p (same_key-true q k e) ∙ stays))
      go q false e = refl

  -- puts of keys that stay, before what goes or after it
  pub puts_kept : (puts : List (Key × Cell)) (m : Cells) → list_all (λ (x : Key × Cell). p x.0) puts ≡ true
      → edits_map (puts_of puts) (map.retain_keys m p) ≡ map.retain_keys (edits_map (puts_of puts) m) p
  puts_kept [] m all = refl
  puts_kept (x ∷ puts) m all =
      ap (edits_map (puts_of puts)) (put_kept m x.0 x.1 (and_left _ _ all)) ∙ puts_kept puts (map.insert m x.0 x.1) (and_right _ _ all)

-- ---- what goes

-- the two tests of files tell the same
pub same_id : (f g : FileId) → eq_by_cmp file_cmp g f ≡ same_file f g
same_id f g = go (eq_by_cmp file_cmp g f) (same_file f g) refl refl
  where
    go : (a b : Bool) → eq_by_cmp file_cmp g f ≡ a → same_file f g ≡ b → a ≡ b
    go true true e h = refl
    go false false e h = refl
    go true false e h = sym (sym h ∙ ap (same_file f) (tells_apart exact_files g f e) ∙ same_file-itself f)
    go false true e h = sym e ∙ ap (λ (x : FileId). eq_by_cmp file_cmp x f) (sym (same_file-true f g h)) ∙ (eq_by_cmp_equiv files_total).refl f

-- the cells that an edit takes away
abbrev pub takes_away : Edit → Key → Bool
takes_away (Drop f) q = is_in_file f q
takes_away (Cut f n) q = is_past f n q
takes_away (Put k c) q = false

some_so : (b : Bool) (o : Option (Unit {0})) → is_some (cond b (Some tt) o) ≡ (b || is_some o)
some_so true o = refl
some_so false o = refl

pub dropped_too : (i : Intents) (f g : FileId) → map.contains_key (map.insert i.drops f tt) g ≡ (same_file f g || map.contains_key i.drops g)
dropped_too i f g =
    ap is_some (get-insert files_total i.drops f tt g) ∙ some_so (eq_by_cmp file_cmp g f) (map.get i.drops g) ∙ ap (λ (b : Bool). b || map.contains_key i.drops g) (same_id f g)

less_or : (n m k : ℕ) → nat_le (min n m) k ≡ (nat_le n k || nat_le m k)
less_or n m k = go (nat_le n k) (nat_le m k) refl refl
  where
    go : (a b : Bool) → nat_le n k ≡ a → nat_le m k ≡ b → nat_le (min n m) k ≡ (a || b)
    go true b e h = le-leb (min n m) k (omega (arith, leb-true n k e))
    go false true e h = le-leb (min n m) k (omega (arith, leb-true m k h))
    go false false e h = lt-leb (min n m) k (omega (arith, leb-false n k e, leb-false m k h))

or_less : (n : ℕ) (o : Option ℕ) (k : ℕ) → is_cut (Some (min n (unwrap_or o n))) k ≡ (nat_le n k || is_cut o k)
or_less n None k = less_or n n k ∙ go (nat_le n k)
  where
    go : (b : Bool) → (b || b) ≡ (b || false)
    go true = refl
    go false = refl
or_less n (Some m) k = less_or n m k

pub cut_too : (i : Intents) (f g : FileId) (n k : ℕ) → is_cut (map.get (map.insert i.cuts f (cut_from i.cuts f n)) g) k ≡ ((same_file f g && nat_le n k) || is_cut (map.get i.cuts g) k)
cut_too i f g n k =
    ap (λ (o : Option ℕ). is_cut o k) (get-insert files_total i.cuts f (cut_from i.cuts f n) g ∙ ap (λ (b : Bool). cond b (Some (cut_from i.cuts f n)) (map.get i.cuts g)) (same_id f g))
    ∙ go (same_file f g) refl
  where
    go : (b : Bool) → same_file f g ≡ b → is_cut (cond b (Some (cut_from i.cuts f n)) (map.get i.cuts g)) k ≡ ((b && nat_le n k) || is_cut (map.get i.cuts g) k)
    go true e = or_less n (map.get i.cuts f) k ∙ ap (λ (h : FileId). nat_le n k || is_cut (map.get i.cuts h) k) (same_file-true f g e)
    go false e = refl

-- one edit more
pub gone_after : (e : Edit) (i : Intents) (q : Key) → is_gone (intend e i) q ≡ (takes_away e q || is_gone i q)
gone_after (Put k c) i (Leader g) = refl
gone_after (Put k c) i (PageOf g n) = refl
gone_after (Put k c) i (OwnerOf name) = refl
gone_after (Drop f) i (Leader g) = dropped_too i f g
gone_after (Drop f) i (OwnerOf name) = refl
gone_after (Drop f) i (PageOf g n) =
    (λ j. dropped_too i f g j || is_cut ((get-remove files_total i.cuts f g ∙ ap (λ (b : Bool). cond b None (map.get i.cuts g)) (same_id f g)) j) n)
    ∙ go (same_file f g)
  where
    go : (b : Bool) → ((b || map.contains_key i.drops g) || is_cut (cond b None (map.get i.cuts g)) n) ≡ (b || (map.contains_key i.drops g || is_cut (map.get i.cuts g) n))
    go true = refl
    go false = refl
gone_after (Cut f m) i (Leader g) = refl
gone_after (Cut f m) i (OwnerOf name) = refl
gone_after (Cut f m) i (PageOf g n) = ap (λ (b : Bool). map.contains_key i.drops g || b) (cut_too i f g m n) ∙ go (map.contains_key i.drops g) (same_file f g && nat_le m n)
  where
    go : (a b : Bool) → (a || (b || is_cut (map.get i.cuts g) n)) ≡ (b || (a || is_cut (map.get i.cuts g) n))
    go true true = refl
    go true false = refl
    go false b = refl

-- ---- what is seen

without : (a b : Bool) (o p : Option Cell) → option_or (cond (not a) o None) (cond (a || b) None p) ≡ cond a None (option_or o (cond b None p))
without true b o p = refl
without false b o p = refl

laid : (b : Bool) (c : Cell) (o p : Option Cell) → option_or (cond b (Some c) o) p ≡ cond b (Some c) (option_or o p)
laid true c o p = refl
laid false c o p = refl

pub through_one : (e : Edit) (i : Intents) (m : View) (q : Key) → through (intend e i) m q ≡ edit_at e q (through i m q)
through_one (Drop f) i m q =
    (λ j. option_or (kept (λ k. not (is_in_file f k)) i.puts q j) (cond (gone_after (Drop f) i q j) None (m q))) ∙ without (is_in_file f q) (is_gone i q) (map.get i.puts q) (m q)
through_one (Cut f n) i m q =
    (λ j. option_or (kept (λ k. not (is_past f n k)) i.puts q j) (cond (gone_after (Cut f n) i q j) None (m q))) ∙ without (is_past f n q) (is_gone i q) (map.get i.puts q) (m q)
through_one (Put k c) i m q =
    (λ j. option_or (get-insert keys_total i.puts k c q j) (cond (gone_after (Put k c) i q j) None (m q)))
    ∙ laid (eq_by_cmp key_cmp q k) c (map.get i.puts q) (cond (is_gone i q) None (m q))

pub through_from : (i : Intents) (es : List Edit) (m : View) (q : Key) → through (intents_from i es) m q ≡ edits_at es q (through i m q)
through_from i [] m q = refl
through_from i (e ∷ es) m q = through_from (intend e i) es m q ∙ ap (edits_at es q) (through_one e i m q)

pub none_gone : (q : Key) → is_gone no_intents q ≡ false
none_gone (Leader g) = ap is_some (get-empty file_cmp g)
none_gone (PageOf g n) = λ j. is_some (get-empty {X = Unit {0}} file_cmp g j) || is_cut (get-empty {X = ℕ} file_cmp g j) n
none_gone (OwnerOf name) = refl

-- what is seen through what edits come to is what they make of what is seen
pub through_of : (es : List Edit) (m : View) → through (intents_of es) m ≡ after es m
through_of es m = λ i q.
    (through_from no_intents es m q ∙ ap (edits_at es q) (λ j. option_or (get-empty {X = Cell} key_cmp q j) (cond (none_gone q j) None (m q)))) i
