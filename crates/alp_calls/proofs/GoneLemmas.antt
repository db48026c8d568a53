-- what a part comes to where a file goes or is cut: of the file, what it comes to then in place of what it came to
use Rattle.std.specs.Prelude.{cond, Bool, true, false, not, ◌&&◌, ◌||◌, nat_le, min, filter, IsTrue, is_some, Option, None, Some}
use Rattle.std.specs.List.{list_all}
use Rattle.std.specs.Option.{option_or}
use Rattle.std.specs.FinMap as map
use Rattle.std.specs.FinMap.{FinMap, len-insert, len-remove, len-entries, empty_of_len, get-empty, len-empty}
use Rattle.std.proofs.Common.{◌≡◌, ℕ, zero, suc, ◌+◌, ◌-◌, ◌*◌, ◌≤◌, List, [], ◌∷◌, length, refl, sym, ◌∙◌, ap, subst, arith}
use Rattle.alp_base.specs.declared.ids.FileId.{FileId}
use Rattle.alp_base.specs.declared.key.Key.{Key}
use Rattle.alp_base.specs.declared.key.Key.TheVariants.{Leader, PageOf, OwnerOf}
use Rattle.alp_base.specs.Keys.{key_cmp}
use Rattle.alp_base.specs.KeyLaws.{file_cmp, keys_total, exact_keys}
use Rattle.alp_base.proofs.NameLemmas.{and_left, and_right}
use Rattle.alp_base.specs.declared.cell.Cell.{Cell}
use Rattle.alp_files.specs.Cells.{Cells, same_file}
use Rattle.alp_files.specs.Counts.{used_of}
use Rattle.alp_files.specs.Edits.{Edit, Drop, Cut, is_in_file, is_past, edits_map}
use Rattle.alp_files.specs.Needs.{Intents, intend, intents_from, is_gone, with_puts, changed_by, marks_of, cut_from, missing_in, is_leader, is_owner}
use Rattle.alp_files.specs.Undo.{puts_of}
use Rattle.alp_files.proofs.HistoryLemmas.{same_cells}
use Rattle.alp_files.proofs.IntentLemmas.{files_total, gone_after, takes_away, kept, only_puts, puts_alone}
use Rattle.alp_files.proofs.SameLemmas.{same_file-true}
use Rattle.alp_files.proofs.SumLemmas.{entries-retain_keys}
use Rattle.alp_trans.specs.Counting.{AreFew, no_counts, left_by, with_intents, counts_by, exchanged}
use Rattle.alp_trans.specs.Frames.{is_near, touches, DoAgreeNear}
use Rattle.alp_trans.specs.Parts.{gone_edit, file_gone, takes, ahead_of}
use Rattle.alp_trans.specs.declared.counts.Counts.{Counts}
use Rattle.alp_trans.specs.declared.gone.Gone.{Gone}
use Rattle.alp_trans.specs.declared.gone.Gone.TheVariants as gone
use Rattle.alp_trans.proofs.AheadLemmas.{marks_dropped, marks_cut, taken_puts}
use Rattle.alp_calls.specs.Sights.{IsRaised, IsTurned}
use Rattle.alp_calls.proofs.CountingLemmas.{laid_alone}
use Rattle.alp_calls.proofs.FrameLemmas.{used_along, made_along}
use Rattle.alp_calls.proofs.IntentCounts.{get-left, get-with, left_less, none_left, few_by, same_counts}
use Rattle.alp_calls.proofs.NeedLemmas.{made_in, made_sum}
use Rattle.alp_trans.proofs.ChangeLemmas.{get-laid}

-- ---- the puts of a file, and the others

abbrev others : FileId → Key → Bool
others f k = not (is_in_file f k)

abbrev pub inside : FileId → Intents → Intents
inside f i = with_puts i (map.retain_keys i.puts (is_in_file f))

abbrev pub outside : FileId → Intents → Intents
outside f i = with_puts i (map.retain_keys i.puts (others f))

abbrev other_puts : FileId → Intents → List Edit
other_puts f i = puts_of (map.entries (outside f i).puts)

all_pass : (p : Key → Bool) (es : List (Key × Cell)) → list_all (λ (e : Key × Cell). p e.0) (filter (λ (e : Key × Cell). p e.0) es) ≡ true
all_pass p [] = refl
all_pass p (e ∷ es) = go (p e.0) refl (all_pass p es)
  where
    go : (b : Bool) → p e.0 ≡ b → list_all (λ (x : Key × Cell). p x.0) (filter (λ (x : Key × Cell). p x.0) es) ≡ true
        → list_all (λ (x : Key × Cell). p x.0) (cond {A = List (Key × Cell)} b (e ∷ filter (λ (x : Key × Cell). p x.0) es) (filter (λ (x : Key × Cell). p x.0) es)) ≡ true
    go true h rest = ap (λ (b : Bool). b && list_all (λ (x : Key × Cell). p x.0) (filter (λ (x : Key × Cell). p x.0) es)) h ∙ rest
    go false h rest = rest

-- what is near a key of another file or of an owner is not in the file
near_outside : (f : FileId) (k q : Key) → is_in_file f k ≡ false → is_near k q ≡ true → is_in_file f q ≡ false
near_outside f (Leader g) (Leader h) out near = ap (same_file f) (sym (same_file-true g h near)) ∙ out
near_outside f (Leader g) (PageOf h n) out near = ap (same_file f) (sym (same_file-true g h near)) ∙ out
near_outside f (Leader g) (OwnerOf name) out near = refl
near_outside f (PageOf g n) (Leader h) out near = ap (same_file f) (sym (same_file-true g h near)) ∙ out
near_outside f (PageOf g n) (PageOf h m) out near = ap (same_file f) (sym (same_file-true g h near)) ∙ out
near_outside f (PageOf g n) (OwnerOf name) out near = refl
near_outside f (OwnerOf name) (Leader h) out near = cc
near_outside f (OwnerOf name) (PageOf h m) out near = cc
near_outside f (OwnerOf name) (OwnerOf other) out near = refl

all_outside : (f : FileId) (puts : List (Key × Cell)) (q : Key) → list_all (λ (e : Key × Cell). others f e.0) puts ≡ true → touches (puts_of puts) q ≡ true → is_in_file f q ≡ false
all_outside f [] q all near = cc
all_outside f (e ∷ puts) q all near = go (is_near e.0 q) refl near (λ any. all_outside f puts q (and_right (others f e.0) (list_all (λ (x : Key × Cell). others f x.0) puts) all) any)
  where
    out : (b : Bool) → not b ≡ true → b ≡ false
    out true h = cc
    out false h = refl

    go : (b : Bool) → is_near e.0 q ≡ b → (b || touches (puts_of puts) q) ≡ true → (touches (puts_of puts) q ≡ true → is_in_file f q ≡ false) → is_in_file f q ≡ false
    go true h any rest = near_outside f e.0 q (out (is_in_file f e.0) (and_left (others f e.0) (list_all (λ (x : Key × Cell). others f x.0) puts) all)) h
    go false h any rest = rest any

near_others : (f : FileId) (i : Intents) (q : Key) → touches (other_puts f i) q ≡ true → is_in_file f q ≡ false
near_others f i q near =
    all_outside f (map.entries (outside f i).puts) q
    (ap (list_all (λ (e : Key × Cell). others f e.0)) (entries-retain_keys keys_total exact_keys i.puts (others f)) ∙ all_pass (others f) (map.entries i.puts)) near

-- ---- the counts are those of the file and those of the others

module _ (f : FileId) (i : Intents) (m : Cells) where
  get-inside : (q : Key) → is_in_file f q ≡ false → map.get (with_intents (inside f i) m) q ≡ map.get (left_by i m) q
  get-inside q out = get-with (inside f i) m q ∙ ap (λ (o : Option Cell). option_or o (map.get (left_by i m) q)) (kept (is_in_file f) i.puts q ∙ ap (λ (b : Bool). cond b (map.get i.puts q) None) out)

  apart : DoAgreeNear (other_puts f i) (with_intents (inside f i) m) (left_by i m)
  apart q near = get-inside q (near_others f i q near)

  both_puts : with_intents i m ≡ edits_map (other_puts f i) (with_intents (inside f i) m)
  both_puts = same_cells (with_intents i m) (edits_map (other_puts f i) (with_intents (inside f i) m)) (λ j q. (
      get-with i m q
      ∙ go (is_in_file f q) (map.get i.puts q) (map.get (left_by i m) q)
      ∙ (λ k. option_or (sym (kept (others f) i.puts q) k) (option_or (sym (kept (is_in_file f) i.puts q) k) (map.get (left_by i m) q)))
      ∙ ap (option_or (map.get (outside f i).puts q)) (sym (get-with (inside f i) m q))
      ∙ sym (get-laid (outside f i).puts (with_intents (inside f i) m) q)) j)
    where
      go : (b : Bool) (o p : Option Cell) → option_or o p ≡ option_or (cond (not b) o None) (option_or (cond b o None) p)
      go true o p = refl
      go false o p = refl

  used_parts : used_of (with_intents i m) + used_of (left_by i m) ≡ used_of (with_intents (outside f i) m) + used_of (with_intents (inside f i) m)
  used_parts = ap (λ (x : Cells). used_of x + used_of (left_by i m)) both_puts
      ∙ used_along (other_puts f i) (with_intents (inside f i) m) (left_by i m) (puts_alone (map.entries (outside f i).puts)) apart

  made_parts : (p : Key → Bool) → made_in p m (with_intents i m) + made_in p m (left_by i m) ≡ made_in p m (with_intents (outside f i) m) + made_in p m (with_intents (inside f i) m)
  made_parts p = ap (λ (x : Cells). made_in p m x + made_in p m (left_by i m)) both_puts
      ∙ made_along p m m (other_puts f i) (with_intents (inside f i) m) (left_by i m) (puts_alone (map.entries (outside f i).puts)) apart (λ q near. refl)

  -- the file's part is one of the whole
  pub places_part : (counts_by m (inside f i)).places ≤ (counts_by m i).places
  places_part =
      let inner : used_of (left_by (inside f i) m) ≡ used_of (left_by i m) = refl in
      let outer : used_of (left_by (outside f i) m) ≡ used_of (left_by i m) = refl in
      omega (arith, used_parts, inner, outer, left_less i m, left_less (inside f i) m, left_less (outside f i) m)

  pub made_part : (p : Key → Bool) → missing_in p m (with_intents (inside f i) m) ≤ missing_in p m (with_intents i m)
  made_part p = omega (arith, made_parts p, none_left i m p, made_sum p m (with_intents i m), made_sum p m (with_intents (inside f i) m))

length_parts : (p : Key → Bool) (es : List (Key × Cell)) → length (filter (λ (e : Key × Cell). p e.0) es) + length (filter (λ (e : Key × Cell). not (p e.0)) es) ≡ length es
length_parts p [] = refl
length_parts p (e ∷ es) = go (p e.0) (length_parts p es)
  where
    go : (b : Bool) → length (filter (λ (x : Key × Cell). p x.0) es) + length (filter (λ (x : Key × Cell). not (p x.0)) es) ≡ length es
        → length (cond {A = List (Key × Cell)} b (e ∷ filter (λ (x : Key × Cell). p x.0) es) (filter (λ (x : Key × Cell). p x.0) es))
        + length (cond {A = List (Key × Cell)} (not b) (e ∷ filter (λ (x : Key × Cell). not (p x.0)) es) (filter (λ (x : Key × Cell). not (p x.0)) es)) ≡ length (e ∷ es)
    go true h = omega (arith, h)
    go false h = omega (arith, h)

len_parts : (x : Cells) (p : Key → Bool) → map.len (map.retain_keys x p) + map.len (map.retain_keys x (λ k. not (p k))) ≡ map.len x
len_parts x p =
    let one : map.len (map.retain_keys x p) ≡ length (filter (λ (e : Key × Cell). p e.0) (map.entries x)) =
    len-entries (map.retain_keys x p) ∙ ap (λ (es : List (Key × Cell)). length es) (entries-retain_keys keys_total exact_keys x p) in
    let two : map.len (map.retain_keys x (λ k. not (p k))) ≡ length (filter (λ (e : Key × Cell). not (p e.0)) (map.entries x)) =
    len-entries (map.retain_keys x (λ k. not (p k))) ∙ ap (λ (es : List (Key × Cell)). length es) (entries-retain_keys keys_total exact_keys x (λ k. not (p k))) in
    omega (arith, one, two, length_parts p (map.entries x), len-entries x)

-- ---- an edit of one file

-- an edit that takes only what is in the file
pub record IsOf (f : FileId) (e : Edit) : Type 0 where
  pub goes : (i : Intents) → (intend e i).puts ≡ map.retain_keys i.puts (λ k. not (takes_away e k))
  pub only : (q : Key) → is_in_file f q ≡ false → takes_away e q ≡ false
  pub marks : (i : Intents) → map.len (intend e i).drops + map.len (intend e i).cuts + marks_of i f ≡ map.len i.drops + map.len i.cuts + marks_of (intend e i) f

module _ (f : FileId) (e : Edit) (alone : IsOf f e) (i : Intents) (m : Cells) where
  abbrev then_intends : Intents
  then_intends = intend e i

  same_outside : (outside f then_intends).puts ≡ (outside f i).puts
  same_outside = same_cells (outside f then_intends).puts (outside f i).puts (λ j q. (
      kept (others f) then_intends.puts q ∙ ap (λ (x : Cells). cond (others f q) (map.get x q) None) (alone.goes i)
      ∙ ap (λ (o : Option Cell). cond (others f q) o None) (kept (λ k. not (takes_away e k)) i.puts q)
      ∙ go q (is_in_file f q) refl
      ∙ sym (kept (others f) i.puts q)) j)
    where
      go : (q : Key) (b : Bool) → is_in_file f q ≡ b → cond (not b) (cond (not (takes_away e q)) (map.get i.puts q) None) None ≡ cond (not b) (map.get i.puts q) None
      go q true h = refl
      go q false h = ap (λ (t : Bool). cond (not t) (map.get i.puts q) None) (alone.only q h)

  -- below the others nothing changes
  apart_below : DoAgreeNear (other_puts f i) (left_by i m) (left_by then_intends m)
  apart_below q near =
      get-left i m q ∙ ap (λ (b : Bool). cond b None (map.get m q)) (sym (gone_after e i q ∙ ap (λ (b : Bool). b || is_gone i q) (alone.only q (near_others f i q near)))) ∙ sym (get-left then_intends m q)

  laid_below : edits_map (other_puts f i) (left_by then_intends m) ≡ with_intents (outside f then_intends) m
  laid_below = ap (λ (x : Cells). edits_map (puts_of (map.entries x)) (left_by then_intends m)) (sym same_outside)

  used_others : used_of (with_intents (outside f i) m) + used_of (left_by then_intends m) ≡ used_of (with_intents (outside f then_intends) m) + used_of (left_by i m)
  used_others =
      used_along (other_puts f i) (left_by i m) (left_by then_intends m) (puts_alone (map.entries (outside f i).puts)) apart_below
      ∙ ap (λ (x : Cells). used_of x + used_of (left_by i m)) laid_below

  made_others : (p : Key → Bool) → made_in p m (with_intents (outside f i) m) + made_in p m (left_by then_intends m) ≡ made_in p m (with_intents (outside f then_intends) m) + made_in p m (left_by i m)
  made_others p =
      made_along p m m (other_puts f i) (left_by i m) (left_by then_intends m) (puts_alone (map.entries (outside f i).puts)) apart_below (λ q near. refl)
      ∙ ap (λ (x : Cells). made_in p m x + made_in p m (left_by i m)) laid_below

  pub places_turn : (counts_by m then_intends).places + (counts_by m (inside f i)).places ≡ (counts_by m i).places + (counts_by m (inside f then_intends)).places
  places_turn =
      omega (
        arith,
        used_parts f i m,
        used_parts f then_intends m,
        used_others,
        left_less i m,
        left_less then_intends m,
        left_less (inside f i) m,
        left_less (inside f then_intends) m,
        below i,
        below then_intends,
      )
    where
      below : (x : Intents) → used_of (left_by (inside f x) m) ≡ used_of (left_by x m)
      below x = refl

  pub made_turn : (p : Key → Bool) → missing_in p m (with_intents then_intends m) + missing_in p m (with_intents (inside f i) m) ≡ missing_in p m (with_intents i m) + missing_in p m (with_intents (inside f then_intends) m)
  made_turn p =
      omega (
        arith,
        made_parts f i m p,
        made_parts f then_intends m p,
        made_others p,
        none_left i m p,
        none_left then_intends m p,
        made_sum p m (with_intents i m),
        made_sum p m (with_intents then_intends m),
        made_sum p m (with_intents (inside f i) m),
        made_sum p m (with_intents (inside f then_intends) m),
      )

  pub cells_turn : changed_by then_intends + (marks_of i f + map.len (inside f i).puts) ≡ changed_by i + (marks_of then_intends f + map.len (inside f then_intends).puts)
  cells_turn =
      let same : map.len (outside f then_intends).puts ≡ map.len (outside f i).puts = ap map.len same_outside in
      omega (arith, alone.marks i, len_parts i.puts (is_in_file f), len_parts then_intends.puts (is_in_file f), same)

-- ---- what goes is of one file

-- an entry that goes, of a map by files
len_without : {X : Type 0} (x : FinMap file_cmp X) (f : FileId) → cond {A = ℕ} (map.contains_key x f) 1 0 + map.len (map.remove x f) ≡ map.len x
len_without x f = go (map.contains_key x f) refl (len-remove files_total x f)
  where
    some : (n : ℕ) → map.len x ≡ n → map.contains_key x f ≡ true → 1 ≤ map.len x
    some zero e h =
        let none : map.contains_key x f ≡ false = ap (λ m. map.contains_key m f) (empty_of_len x e) ∙ ap is_some (get-empty file_cmp f) in
        let wrong : true ≡ false = sym h ∙ none in cc
    some (suc n) e h = omega (arith, e)

    go : (b : Bool) → map.contains_key x f ≡ b → map.len (map.remove x f) ≡ cond {A = ℕ} (map.contains_key x f) (map.len x - 1) (map.len x) → cond {A = ℕ} (map.contains_key x f) 1 0 + map.len (map.remove x f) ≡ map.len x
    go true h e =
        let here : cond {A = ℕ} (map.contains_key x f) 1 0 ≡ 1 = ap (λ (b : Bool). cond {A = ℕ} b 1 0) h in
        let less : cond {A = ℕ} (map.contains_key x f) (map.len x - 1) (map.len x) ≡ map.len x - 1 = ap (λ (b : Bool). cond {A = ℕ} b (map.len x - 1) (map.len x)) h in
        omega (arith, here, e, less, some (map.len x) refl h)
    go false h e =
        let here : cond {A = ℕ} (map.contains_key x f) 1 0 ≡ 0 = ap (λ (b : Bool). cond {A = ℕ} b 1 0) h in
        let less : cond {A = ℕ} (map.contains_key x f) (map.len x - 1) (map.len x) ≡ map.len x = ap (λ (b : Bool). cond {A = ℕ} b (map.len x - 1) (map.len x)) h in
        omega (arith, here, e, less)

has_drop : (i : Intents) (f : FileId) → map.len (map.insert i.drops f tt) + cond {A = ℕ} (map.contains_key i.drops f) 1 0 ≡ map.len i.drops + 1
has_drop i f = ap (λ (n : ℕ). n + cond {A = ℕ} (map.contains_key i.drops f) 1 0) (len-insert files_total i.drops f tt) ∙ go (map.contains_key i.drops f)
  where
    go : (b : Bool) → cond {A = ℕ} b (map.len i.drops) (map.len i.drops + 1) + cond {A = ℕ} b 1 0 ≡ map.len i.drops + 1
    go true = refl
    go false = omega arith

has_cut : (i : Intents) (f : FileId) (n : ℕ) → map.len (map.insert i.cuts f n) + cond {A = ℕ} (map.contains_key i.cuts f) 1 0 ≡ map.len i.cuts + 1
has_cut i f n = ap (λ (x : ℕ). x + cond {A = ℕ} (map.contains_key i.cuts f) 1 0) (len-insert files_total i.cuts f n) ∙ go (map.contains_key i.cuts f)
  where
    go : (b : Bool) → cond {A = ℕ} b (map.len i.cuts) (map.len i.cuts + 1) + cond {A = ℕ} b 1 0 ≡ map.len i.cuts + 1
    go true = refl
    go false = omega arith

past_in : (f : FileId) (n : ℕ) (q : Key) → is_in_file f q ≡ false → is_past f n q ≡ false
past_in f n (Leader g) out = refl
past_in f n (PageOf g k) out = ap (λ (b : Bool). b && nat_le n k) out
past_in f n (OwnerOf name) out = refl

drop_is_of : (f : FileId) → IsOf f (Drop f)
drop_is_of f = record {
  goes = λ i. refl;
  only = λ q out. out;
  marks = λ i. omega (arith, has_drop i f, len_without i.cuts f, marks_dropped i f);
}

cut_is_of : (f : FileId) (n : ℕ) → IsOf f (Cut f n)
cut_is_of f n = record {
  goes = λ i. refl;
  only = past_in f n;
  marks = λ i. omega (arith, has_cut i f (cut_from i.cuts f n), marks_cut i f n);
}

pub gone_is_of : (g : Gone) → IsOf (file_gone g) (gone_edit g)
gone_is_of (gone.File f) = drop_is_of f
gone_is_of (gone.Pages f n) = cut_is_of f n

-- ---- what is counted of the file

-- intents that put nothing
pub bare : (i : Intents) (m : Cells) → i.puts ≡ map.empty → counts_by m i ≡ record no_counts { cells = map.len i.drops + map.len i.cuts }
bare i m none =
    same_counts (counts_by m i) (record no_counts { cells = map.len i.drops + map.len i.cuts })
    (omega (arith, ap map.len none, len-empty key_cmp Cell))
    (let places : used_of (with_intents i m) ≡ used_of (left_by i m) = ap used_of same in omega (arith, places))
    (made_sum is_leader m (with_intents i m) ∙ ap (made_in is_leader m) same ∙ none_left i m is_leader)
    (made_sum is_owner m (with_intents i m) ∙ ap (made_in is_owner m) same ∙ none_left i m is_owner)
  where
    same : with_intents i m ≡ left_by i m
    same = same_cells (with_intents i m) (left_by i m) (λ j q. (
        get-with i m q ∙ ap (λ (o : Option Cell). option_or o (map.get (left_by i m) q)) (ap (λ (x : Cells). map.get x q) none ∙ get-empty key_cmp q)) j)

-- the puts of the file, over what goes
pub fold_before : (i : Intents) (f : FileId) → intents_from (with_puts i map.empty) (puts_of (filter (λ (e : Key × Cell). is_in_file f e.0) (map.entries i.puts))) ≡ inside f i
fold_before i f =
    only_puts (with_puts i map.empty) (puts_of (filter (λ (e : Key × Cell). is_in_file f e.0) (map.entries i.puts))) (puts_alone (filter (λ (e : Key × Cell). is_in_file f e.0) (map.entries i.puts)))
    ∙ ap (with_puts i) (ap (λ (es : List (Key × Cell)). edits_map (puts_of es) map.empty) (sym (entries-retain_keys keys_total exact_keys i.puts (is_in_file f))) ∙ laid_alone (map.retain_keys i.puts (is_in_file f)))

none_put : (i : Intents) (g : Option Gone) → (ahead_of i g map.empty).puts ≡ map.empty
none_put i g = same_cells (ahead_of i g map.empty).puts map.empty (λ j q. (
    taken_puts i map.empty g q ∙ ap (cond (takes g q) None) (get-empty key_cmp q) ∙ go (takes g q) ∙ sym (get-empty {X = Cell} key_cmp q)) j)
  where
    go : (b : Bool) → cond {A = Option Cell} b None None ≡ None
    go true = refl
    go false = refl

both_kept : (x : Cells) (p t : Key → Bool) → map.retain_keys (map.retain_keys x p) t ≡ map.retain_keys (map.retain_keys x t) p
both_kept x p t = same_cells (map.retain_keys (map.retain_keys x p) t) (map.retain_keys (map.retain_keys x t) p) (λ j q. (
    kept t (map.retain_keys x p) q ∙ ap (λ (o : Option Cell). cond (t q) o None) (kept p x q) ∙ go (t q) (p q) (map.get x q)
    ∙ sym (kept p (map.retain_keys x t) q ∙ ap (λ (o : Option Cell). cond (p q) o None) (kept t x q))) j)
  where
    go : (a b : Bool) (o : Option Cell) → cond a (cond b o None) None ≡ cond b (cond a o None) None
    go true true o = refl
    go true false o = refl
    go false true o = refl
    go false false o = refl

-- those of the puts of the file that stay
abbrev pub staying : Intents → Gone → List (Key × Cell)
staying i g = filter (λ (e : Key × Cell). not (takes (Some g) e.0)) (filter (λ (e : Key × Cell). is_in_file (file_gone g) e.0) (map.entries i.puts))

staying_alone : (i : Intents) (g : Gone) → edits_map (puts_of (staying i g)) map.empty ≡ map.retain_keys (map.retain_keys i.puts (λ k. not (takes (Some g) k))) (is_in_file (file_gone g))
staying_alone i g =
    ap (λ (es : List (Key × Cell)). edits_map (puts_of es) map.empty)
    (ap (filter (λ (e : Key × Cell). not (takes (Some g) e.0))) (sym (entries-retain_keys keys_total exact_keys i.puts (is_in_file (file_gone g))))
    ∙ sym (entries-retain_keys keys_total exact_keys (map.retain_keys i.puts (is_in_file (file_gone g))) (λ k. not (takes (Some g) k))))
    ∙ laid_alone (map.retain_keys (map.retain_keys i.puts (is_in_file (file_gone g))) (λ k. not (takes (Some g) k)))
    ∙ both_kept i.puts (is_in_file (file_gone g)) (λ k. not (takes (Some g) k))

laid_after : (i : Intents) (g : Gone) → intents_from (ahead_of i (Some g) map.empty) (puts_of (staying i g))
    ≡ with_puts (ahead_of i (Some g) map.empty) (map.retain_keys (map.retain_keys i.puts (λ k. not (takes (Some g) k))) (is_in_file (file_gone g)))
laid_after i g =
    only_puts (ahead_of i (Some g) map.empty) (puts_of (staying i g)) (puts_alone (staying i g))
    ∙ ap (with_puts (ahead_of i (Some g) map.empty)) (ap (edits_map (puts_of (staying i g))) (none_put i (Some g)) ∙ staying_alone i g)

pub fold_after : (i : Intents) (g : Gone) → intents_from (ahead_of i (Some g) map.empty) (puts_of (staying i g)) ≡ inside (file_gone g) (intend (gone_edit g) i)
fold_after i (gone.File f) = laid_after i (gone.File f)
fold_after i (gone.Pages f n) = laid_after i (gone.Pages f n)

-- ---- what the part comes to

-- the counts of the file's own puts, with what it counts besides
record IsOfFile (tells : Bool) (m : Cells) (f : FileId) (i : Intents) (n : Counts) : Type 0 where
  cells : n.cells ≡ marks_of i f + map.len (inside f i).puts
  few : AreFew n
  places : IsTrue tells → n.places ≡ (counts_by m (inside f i)).places
  files : IsTrue tells → n.files ≡ (counts_by m (inside f i)).files
  owners : IsTrue tells → n.owners ≡ (counts_by m (inside f i)).owners

of_file : (tells : Bool) (m : Cells) (f : FileId) (i start : Intents) (n : Counts) → start.puts ≡ map.empty
    → map.len start.drops + map.len start.cuts ≡ map.len i.drops + map.len i.cuts
    → IsRaised tells m start (inside f i) (record no_counts { cells = marks_of i f }) n → IsOfFile tells m f i n
of_file tells m f i start n none marks h =
    let same : counts_by m start ≡ record no_counts { cells = map.len start.drops + map.len start.cuts } = bare start m none in
    let cells : changed_by start ≡ map.len start.drops + map.len start.cuts = ap (λ (x : Counts). x.cells) same in
    let places : (counts_by m start).places ≡ 0 = ap (λ (x : Counts). x.places) same in
    let files : (counts_by m start).files ≡ 0 = ap (λ (x : Counts). x.files) same in
    let owners : (counts_by m start).owners ≡ 0 = ap (λ (x : Counts). x.owners) same in
    record {
      cells = omega (arith, h.cells, cells, marks);
      few = h.few;
      places = λ told. omega (arith, h.places told, places);
      files = λ told. omega (arith, h.files told, files);
      owners = λ told. omega (arith, h.owners told, owners);
    }

same_marks : (i : Intents) (g : Gone) → map.len (ahead_of i (Some g) map.empty).drops + map.len (ahead_of i (Some g) map.empty).cuts ≡ map.len (intend (gone_edit g) i).drops + map.len (intend (gone_edit g) i).cuts
same_marks i (gone.File f) = refl
same_marks i (gone.Pages f n) = refl

of_file_before : (tells : Bool) (m : Cells) (i : Intents) (g : Gone) (before : Counts)
    → IsRaised tells m (ahead_of i None map.empty) (intents_from (ahead_of i None map.empty) (puts_of (filter (λ (e : Key × Cell). is_in_file (file_gone g) e.0) (map.entries i.puts)))) (record no_counts { cells = marks_of i (file_gone g) }) before
    → IsOfFile tells m (file_gone g) i before
of_file_before tells m i g before h =
    of_file tells m (file_gone g) i (with_puts i map.empty) before refl refl
    (subst (λ (x : Intents). IsRaised tells m (with_puts i map.empty) x (record no_counts { cells = marks_of i (file_gone g) }) before) (fold_before i (file_gone g)) h)

of_file_after : (tells : Bool) (m : Cells) (i : Intents) (g : Gone) (now : Counts)
    → IsRaised tells m (ahead_of i (Some g) map.empty) (intents_from (ahead_of i (Some g) map.empty) (puts_of (staying i g))) (record no_counts { cells = marks_of (intend (gone_edit g) i) (file_gone g) }) now
    → IsOfFile tells m (file_gone g) (intend (gone_edit g) i) now
of_file_after tells m i g now h =
    of_file tells m (file_gone g) (intend (gone_edit g) i) (ahead_of i (Some g) map.empty) now (none_put i (Some g)) (same_marks i g)
    (subst (λ (x : Intents). IsRaised tells m (ahead_of i (Some g) map.empty) x (record no_counts { cells = marks_of (intend (gone_edit g) i) (file_gone g) }) now) (fold_after i g) h)

marks_less : (i : Intents) (f : FileId) → marks_of i f ≤ map.len i.drops + map.len i.cuts
marks_less i f = omega (arith, one_of (map.len i.drops) (map.contains_key i.drops f) (map.len (map.remove i.drops f)) (len_without i.drops f), one_of (map.len i.cuts) (map.contains_key i.cuts f) (map.len (map.remove i.cuts f)) (len_without i.cuts f))
  where
    one_of : (n : ℕ) (b : Bool) (rest : ℕ) → cond {A = ℕ} b 1 0 + rest ≡ n → cond {A = ℕ} b 1 0 ≤ n
    one_of n b rest h = omega (arith, h)

-- no more cells are counted of the file than of all
pub part_of_all : (tells : Bool) (m : Cells) (i : Intents) (g : Gone) (before : Counts)
    → IsRaised tells m (ahead_of i None map.empty) (intents_from (ahead_of i None map.empty) (puts_of (filter (λ (e : Key × Cell). is_in_file (file_gone g) e.0) (map.entries i.puts)))) (record no_counts { cells = marks_of i (file_gone g) }) before
    → before.cells ≤ changed_by i
part_of_all tells m i g before h =
    let one : IsOfFile tells m (file_gone g) i before = of_file_before tells m i g before h in
    let parts = len_parts i.puts (is_in_file (file_gone g)) in
    let less : marks_of i (file_gone g) ≤ map.len i.drops + map.len i.cuts = marks_less i (file_gone g) in
    omega (arith, one.cells, parts, less)

exchange_is : (n b a p x y q most : ℕ) → n ≡ p → b ≡ x → a ≡ y → q + x ≡ p + y → x ≤ p → q ≤ most → min (n - b + a) most ≡ q
exchange_is n b a p x y q most e f h turn part less = omega (arith, e, f, h, turn, part, less)

turned : (tells : Bool) (m : Cells) (i : Intents) (g : Gone) (n before now : Counts) → n.cells ≡ changed_by i
    → IsRaised tells m (ahead_of i None map.empty) (intents_from (ahead_of i None map.empty) (puts_of (filter (λ (e : Key × Cell). is_in_file (file_gone g) e.0) (map.entries i.puts)))) (record no_counts { cells = marks_of i (file_gone g) }) before
    → IsRaised tells m (ahead_of i (Some g) map.empty) (intents_from (ahead_of i (Some g) map.empty) (puts_of (staying i g))) (record no_counts { cells = marks_of (intend (gone_edit g) i) (file_gone g) }) now
    → IsTurned tells m i (intend (gone_edit g) i) n (exchanged n before now)
turned tells m i g n before now all h k =
    let f : FileId = file_gone g in
    let next : Intents = intend (gone_edit g) i in
    let one : IsOfFile tells m f i before = of_file_before tells m i g before h in
    let two : IsOfFile tells m f next now = of_file_after tells m i g now k in
    let cells : n.cells - before.cells + now.cells ≡ changed_by next =
    omega (arith, all, one.cells, two.cells, cells_turn f (gone_edit g) (gone_is_of g) i m, part_of_all tells m i g before h) in
    record {
      cells = cells;
      few = record { places = omega arith; files = omega arith; owners = omega arith };
      counts = λ told counted.
          let few : AreFew (counts_by m next) = few_by next m in
          same_counts (exchanged n before now) (counts_by m next) cells
          (exchange_is n.places before.places now.places (counts_by m i).places (counts_by m (inside f i)).places (counts_by m (inside f next)).places (counts_by m next).places (2 * (n.cells - before.cells + now.cells))
          (ap (λ (x : Counts). x.places) counted) (one.places told) (two.places told) (places_turn f (gone_edit g) (gone_is_of g) i m) (places_part f i m)
          (subst (λ (c : ℕ). (counts_by m next).places ≤ 2 * c) (sym cells) few.places))
          (exchange_is n.files before.files now.files (counts_by m i).files (counts_by m (inside f i)).files (counts_by m (inside f next)).files (counts_by m next).files (n.cells - before.cells + now.cells)
          (ap (λ (x : Counts). x.files) counted) (one.files told) (two.files told) (made_turn f (gone_edit g) (gone_is_of g) i m is_leader) (made_part f i m is_leader)
          (subst (λ (c : ℕ). (counts_by m next).files ≤ c) (sym cells) few.files))
          (exchange_is n.owners before.owners now.owners (counts_by m i).owners (counts_by m (inside f i)).owners (counts_by m (inside f next)).owners (counts_by m next).owners (n.cells - before.cells + now.cells)
          (ap (λ (x : Counts). x.owners) counted) (one.owners told) (two.owners told) (made_turn f (gone_edit g) (gone_is_of g) i m is_owner) (made_part f i m is_owner)
          (subst (λ (c : ℕ). (counts_by m next).owners ≤ c) (sym cells) few.owners));
    }

-- the same puts and as many cells are raised alike
pub raised_as : (tells : Bool) (m : Cells) (start : Intents) (ps qs : List (Key × Cell)) (a b : ℕ) (n : Counts) → ps ≡ qs → a ≡ b
    → IsRaised tells m start (intents_from start (puts_of ps)) (record no_counts { cells = a }) n → IsRaised tells m start (intents_from start (puts_of qs)) (record no_counts { cells = b }) n
raised_as tells m start ps qs a b n same much h =
    subst (λ (xs : List (Key × Cell)). IsRaised tells m start (intents_from start (puts_of xs)) (record no_counts { cells = b }) n) same
    (subst (λ (x : ℕ). IsRaised tells m start (intents_from start (puts_of ps)) (record no_counts { cells = x }) n) much h)

pub turned_so : (tells : Bool) (m : Cells) (i : Intents) (g : Gone) (n before now result : Counts) (ps qs : List (Key × Cell)) (a b : ℕ) → n.cells ≡ changed_by i
    → ps ≡ filter (λ (e : Key × Cell). is_in_file (file_gone g) e.0) (map.entries i.puts) → a ≡ marks_of i (file_gone g)
    → qs ≡ staying i g → b ≡ marks_of (intend (gone_edit g) i) (file_gone g) → result ≡ exchanged n before now
    → IsRaised tells m (ahead_of i None map.empty) (intents_from (ahead_of i None map.empty) (puts_of ps)) (record no_counts { cells = a }) before
    → IsRaised tells m (ahead_of i (Some g) map.empty) (intents_from (ahead_of i (Some g) map.empty) (puts_of qs)) (record no_counts { cells = b }) now
    → IsTurned tells m i (intend (gone_edit g) i) n result
turned_so tells m i g n before now result ps qs a b all first marks second later is h k =
    subst (λ (x : Counts). IsTurned tells m i (intend (gone_edit g) i) n x) (sym is)
    (turned tells m i g n before now all
    (raised_as tells m (ahead_of i None map.empty) ps (filter (λ (e : Key × Cell). is_in_file (file_gone g) e.0) (map.entries i.puts)) a (marks_of i (file_gone g)) before first marks h)
    (raised_as tells m (ahead_of i (Some g) map.empty) qs (staying i g) b (marks_of (intend (gone_edit g) i) (file_gone g)) now second later k))

-- ---- no more than a cell more, and no more puts of the file than of all

some_less : (p : Key → Bool) (es : List (Key × Cell)) → length (filter (λ (e : Key × Cell). p e.0) es) ≤ length es
some_less p es = omega (arith, length_parts p es)

pub of_file_less : (i : Intents) (f : FileId) → length (filter (λ (e : Key × Cell). is_in_file f e.0) (map.entries i.puts)) ≤ changed_by i
of_file_less i f = omega (arith, some_less (is_in_file f) (map.entries i.puts), len-entries i.puts)

pub staying_less : (i : Intents) (g : Gone) → length (staying i g) ≤ changed_by i
staying_less i g = omega (arith, some_less (λ k. not (takes (Some g) k)) (filter (λ (e : Key × Cell). is_in_file (file_gone g) e.0) (map.entries i.puts)), of_file_less i (file_gone g))

kept_less : (x : Cells) (p : Key → Bool) → map.len (map.retain_keys x p) ≤ map.len x
kept_less x p = omega (arith, len_parts x p)

pub one_more : (i : Intents) (g : Gone) → changed_by (intend (gone_edit g) i) ≤ changed_by i + 1
one_more i (gone.File f) = omega (arith, has_drop i f, len_without i.cuts f, kept_less i.puts (λ k. not (is_in_file f k)))
one_more i (gone.Pages f n) = omega (arith, has_cut i f (cut_from i.cuts f n), kept_less i.puts (λ k. not (is_past f n k)))

pub marks_most : (i : Intents) (f : FileId) → marks_of i f ≤ 2
marks_most i f = go (map.contains_key i.drops f) (map.contains_key i.cuts f)
  where
    go : (a b : Bool) → cond {A = ℕ} a 1 0 + cond {A = ℕ} b 1 0 ≤ 2
    go true true = omega arith
    go true false = omega arith
    go false true = omega arith
    go false false = omega arith
