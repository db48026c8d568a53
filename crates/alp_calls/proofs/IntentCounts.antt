-- the counts of a part by what it intends
use Rattle.std.specs.Prelude.{cond, Bool, true, false, not, ◌&&◌, ◌||◌, filter, is_some, is_none, Option, None, Some}
use Rattle.std.specs.Option.{option_or}
use Rattle.std.specs.FinMap as map
use Rattle.std.specs.FinMap.{get-retain_keys, get-empty, len-insert, len-entries}
use Rattle.std.proofs.Common.{◌≡◌, ℕ, ◌+◌, ◌-◌, ◌≤◌, List, [], ◌∷◌, length, refl, sym, ◌∙◌, ap, arith}
use Rattle.alp_base.specs.declared.key.Key.{Key}
use Rattle.alp_base.specs.declared.key.Key.TheVariants.{Leader, PageOf, OwnerOf}
use Rattle.alp_base.specs.Keys.{key_cmp}
use Rattle.alp_base.specs.KeyLaws.{keys_total, exact_keys}
use Rattle.alp_base.specs.declared.cell.Cell.{Cell}
use Rattle.alp_files.specs.Cells.{Cells, View}
use Rattle.alp_files.specs.Counts.{used_of, files_at, places_at, block_of}
use Rattle.alp_files.specs.Edits.{Edit, Drop, Cut, Put, is_in_file, is_past, edits_at, edits_map}
use Rattle.alp_files.specs.Needs.{Intents, no_intents, intend, intents_from, intents_of, is_gone, through, is_put, left_of, missing_in, is_leader, is_owner, changed_by}
use Rattle.alp_files.specs.Undo.{puts_of}
use Rattle.alp_files.proofs.HistoryLemmas.{get-edits_map, same_cells}
use Rattle.alp_files.proofs.IntentLemmas.{gone_after, none_gone, through_from, puts_alone}
use Rattle.alp_vault.specs.Counted.{places_with}
use Rattle.alp_trans.specs.Counting.{AreCountsOf, AreFew, left_by, with_intents, counts_by, counts_with, has_block, is_first, owners_at, sight_by}
use Rattle.alp_trans.specs.declared.counts.Counts.{Counts}
use Rattle.alp_trans.specs.declared.counts.Sight.{Sight}
use Rattle.alp_trans.specs.declared.counts.Sight.TheVariants as sights
use Rattle.alp_trans.proofs.ChangeLemmas.{get-laid}
use Rattle.alp_calls.proofs.NeedLemmas.{used_put, used_more, few_used, weight, made_in, made_sum, none_made, sum_put, few_made}
use Rattle.alp_calls.proofs.PutLemmas.{some_or}

-- ---- what is there

kept_so : (b : Bool) (o : Option Cell) → cond (not b) o None ≡ cond b None o
kept_so true o = refl
kept_so false o = refl

module _ (i : Intents) (m : Cells) where
  pub get-left : (q : Key) → map.get (left_by i m) q ≡ cond (is_gone i q) None (map.get m q)
  get-left q = get-retain_keys m (λ k. not (is_gone i k)) q (λ x e. ap (λ (k : Key). not (is_gone i k)) (sym (exact_keys q x e))) ∙ kept_so (is_gone i q) (map.get m q)

  pub get-with : (q : Key) → map.get (with_intents i m) q ≡ option_or (map.get i.puts q) (map.get (left_by i m) q)
  get-with q = get-laid i.puts (left_by i m) q

  with_through : map.get (with_intents i m) ≡ through i (map.get m)
  with_through = λ j q. (get-with q ∙ ap (option_or (map.get i.puts q)) (get-left q)) j

  pub there_with : (q : Key) → map.contains_key (with_intents i m) q ≡ (map.contains_key i.puts q || map.contains_key (left_by i m) q)
  there_with q = ap is_some (get-with q) ∙ some_or (map.get i.puts q) (map.get (left_by i m) q)

-- edits make of what is there what they make of what is intended
pub with_more : (i : Intents) (es : List Edit) (m : Cells) → with_intents (intents_from i es) m ≡ edits_map es (with_intents i m)
with_more i es m = same_cells (with_intents (intents_from i es) m) (edits_map es (with_intents i m))
    (with_through (intents_from i es) m ∙ (λ j q. (through_from i es (map.get m) q ∙ ap (λ (v : View). edits_at es q (v q)) (sym (with_through i m))) j) ∙ sym (get-edits_map es (with_intents i m)))

none_there : (m : Cells) → with_intents no_intents m ≡ m
none_there m = same_cells (with_intents no_intents m) m (λ j q.
    (get-with no_intents m q ∙ ap (option_or (map.get no_intents.puts q)) (get-left no_intents m q) ∙ (λ k. option_or (get-empty {X = Cell} key_cmp q k) (cond (none_gone q k) None (map.get m q)))) j)

pub with_all : (es : List Edit) (m : Cells) → with_intents (intents_of es) m ≡ edits_map es m
with_all es m = with_more no_intents es m ∙ ap (edits_map es) (none_there m)

gone_or : (a b : Bool) (o : Option Cell) → cond a None (cond b None o) ≡ cond (a || b) None o
gone_or true b o = refl
gone_or false b o = refl

-- what the drops and the cuts take is what goes
left_at : (i : Intents) (es : List Edit) (q : Key) (o : Option Cell) → edits_at (filter (λ e. not (is_put e)) es) q (cond (is_gone i q) None o) ≡ cond (is_gone (intents_from i es) q) None o
left_at i [] q o = refl
left_at i (Drop f ∷ es) q o =
    ap (edits_at (filter (λ e. not (is_put e)) es) q) (gone_or (is_in_file f q) (is_gone i q) o ∙ ap (λ (b : Bool). cond b None o) (sym (gone_after (Drop f) i q))) ∙ left_at (intend (Drop f) i) es q o
left_at i (Cut f n ∷ es) q o =
    ap (edits_at (filter (λ e. not (is_put e)) es) q) (gone_or (is_past f n q) (is_gone i q) o ∙ ap (λ (b : Bool). cond b None o) (sym (gone_after (Cut f n) i q))) ∙ left_at (intend (Cut f n) i) es q o
left_at i (Put k c ∷ es) q o =
    ap (edits_at (filter (λ e. not (is_put e)) es) q) (ap (λ (b : Bool). cond b None o) (sym (gone_after (Put k c) i q))) ∙ left_at (intend (Put k c) i) es q o

pub left_all : (es : List Edit) (m : Cells) → left_by (intents_of es) m ≡ left_of m es
left_all es m = same_cells (left_by (intents_of es) m) (left_of m es) (λ j q.
    (get-left (intents_of es) m q ∙ sym (left_at no_intents es q (map.get m q)) ∙ ap (λ (b : Bool). edits_at (filter (λ e. not (is_put e)) es) q (cond b None (map.get m q))) (none_gone q)
    ∙ ap (λ (v : View). v q) (sym (get-edits_map (filter (λ e. not (is_put e)) es) m))) j)

-- ---- the counts

pub same_counts : (a b : Counts) → a.cells ≡ b.cells → a.places ≡ b.places → a.files ≡ b.files → a.owners ≡ b.owners → a ≡ b
same_counts a b cells places files owners = λ j. record { cells = cells j; places = places j; files = files j; owners = owners j }

pub counted_by : (m : Cells) (es : List Edit) (n : Counts) → AreCountsOf m es n → n ≡ counts_by m (intents_of es)
counted_by m es n h =
    same_counts n (counts_by m (intents_of es)) h.cells
    (h.places ∙ (λ j. used_of (sym (with_all es m) j) - used_of (sym (left_all es m) j)))
    (h.files ∙ ap (missing_in is_leader m) (sym (with_all es m)))
    (h.owners ∙ ap (missing_in is_owner m) (sym (with_all es m)))

pub are_counts : (m : Cells) (es : List Edit) (n : Counts) → n ≡ counts_by m (intents_of es) → AreCountsOf m es n
are_counts m es n h = record {
  cells = ap (λ (x : Counts). x.cells) h;
  places = ap (λ (x : Counts). x.places) h ∙ (λ j. used_of (with_all es m j) - used_of (left_all es m j));
  files = ap (λ (x : Counts). x.files) h ∙ ap (missing_in is_leader m) (with_all es m);
  owners = ap (λ (x : Counts). x.owners) h ∙ ap (missing_in is_owner m) (with_all es m);
}

-- what is left is there too, and is held
module _ (i : Intents) (m : Cells) where
  pub left_less : used_of (left_by i m) ≤ used_of (with_intents i m)
  left_less = used_more (puts_of (map.entries i.puts)) (left_by i m) (puts_alone (map.entries i.puts))

  left_held : (q : Key) (c : Cell) → map.get (left_by i m) q ≡ Some c → is_none (map.get m q) ≡ false
  left_held q c is = go (is_gone i q) (map.get m q) (sym (get-left i m q) ∙ is)
    where
      go : (b : Bool) (o : Option Cell) → cond b None o ≡ Some c → is_none o ≡ false
      go true o e = cc
      go false None e = cc
      go false (Some d) e = refl

  pub none_left : (p : Key → Bool) → made_in p m (left_by i m) ≡ 0
  none_left p = none_made p m (left_by i m) (λ q c kind is. left_held q c is)

  -- no cell takes more than two places, or is more than one file or owner
  pub few_by : AreFew (counts_by m i)
  few_by =
      let many : length (map.entries i.puts) ≡ map.len i.puts = sym (len-entries i.puts) in
      record {
        places = omega (arith, few_used (map.entries i.puts) (left_by i m), many);
        files = omega (arith, few_made is_leader m (map.entries i.puts) (left_by i m), none_left is_leader, made_sum is_leader m (with_intents i m), many);
        owners = omega (arith, few_made is_owner m (map.entries i.puts) (left_by i m), none_left is_owner, made_sum is_owner m (with_intents i m), many);
      }

-- ---- one put more

-- a leader is a file, and an owner's key an owner
pub files_of : (q : Key) → files_at q ≡ cond {A = ℕ} (is_leader q) 1 0
files_of (Leader f) = refl
files_of (PageOf f n) = refl
files_of (OwnerOf name) = refl

pub owners_of : (q : Key) → owners_at q ≡ cond {A = ℕ} (is_owner q) 1 0
owners_of (Leader f) = refl
owners_of (PageOf f n) = refl
owners_of (OwnerOf name) = refl

places_of : (x : Cells) (q : Key) (b : Bool) → is_first x q ≡ b → places_with x q ≡ places_at q + cond {A = ℕ} b 1 0
places_of x (Leader f) false e = omega arith
places_of x (Leader f) true e = cc
places_of x (OwnerOf name) false e = omega arith
places_of x (OwnerOf name) true e = cc
places_of x (PageOf f n) b e = go (has_block x (block_of f n)) b e
  where
    go : (h b : Bool) → not h ≡ b → cond {A = ℕ} h 1 2 ≡ 1 + cond {A = ℕ} b 1 0
    go true true e = cc
    go true false e = omega arith
    go false true e = omega arith
    go false false e = cc

-- only a page may be the first one of a block
first_is_page : (x : Cells) (q : Key) → is_first x q ≡ true → (is_leader q ≡ false) × (is_owner q ≡ false)
first_is_page x (Leader f) e = cc
first_is_page x (PageOf f n) e = (refl, refl)
first_is_page x (OwnerOf name) e = cc

module _ (i : Intents) (m : Cells) (k : Key) (c : Cell) where
  abbrev now : Cells
  now = with_intents i m

  with_put : with_intents (intend (Put k c) i) m ≡ map.insert now k c
  with_put = with_more i (Put k c ∷ []) m

  pub cells_put : changed_by (intend (Put k c) i) ≡ cond {A = ℕ} (map.contains_key i.puts k) (changed_by i) (changed_by i + 1)
  cells_put = ap (λ (n : ℕ). map.len i.drops + map.len i.cuts + n) (len-insert keys_total i.puts k c) ∙ go (map.contains_key i.puts k)
    where
      go : (b : Bool) → map.len i.drops + map.len i.cuts + cond {A = ℕ} b (map.len i.puts) (map.len i.puts + 1) ≡ cond {A = ℕ} b (changed_by i) (changed_by i + 1)
      go true = refl
      go false = omega arith

  places_put : (counts_by m (intend (Put k c) i)).places ≡ (counts_by m i).places + cond {A = ℕ} (map.contains_key now k) 0 (places_with now k)
  places_put =
      let both : used_of (with_intents (intend (Put k c) i) m) ≡ used_of (map.insert now k c) = ap used_of with_put in
      let below : used_of (left_by (intend (Put k c) i) m) ≡ used_of (left_by i m) = refl in
      omega (arith, both, below, used_put now k c, left_less i m)

  made_put : (p : Key → Bool) → missing_in p m (with_intents (intend (Put k c) i) m) ≡ missing_in p m now + cond {A = ℕ} (map.contains_key now k) 0 (weight p m k)
  made_put p =
      let both : missing_in p m (with_intents (intend (Put k c) i) m) ≡ missing_in p m (map.insert now k c) = ap (missing_in p m) with_put in
      omega (arith, both, made_sum p m now, made_sum p m (map.insert now k c), sum_put (weight p m) now k c)

  -- what is put is there
  own_there : map.contains_key i.puts k ≡ true → map.contains_key now k ≡ true
  own_there h = there_with i m k ∙ ap (λ (b : Bool). b || map.contains_key (left_by i m) k) h

  weigh : (p : Key → Bool) (h : Bool) → map.contains_key m k ≡ h → weight p m k ≡ cond {A = ℕ} (p k && not h) 1 0
  weigh p h e = go (map.get m k) h e
    where
      go : (o : Option Cell) (h : Bool) → is_some o ≡ h → cond {A = ℕ} (p k && is_none o) 1 0 ≡ cond {A = ℕ} (p k && not h) 1 0
      go None true e = cc
      go None false e = refl
      go (Some d) true e = refl
      go (Some d) false e = cc

  abbrev by_sight : (a b d h : Bool) → Sight
  by_sight a b d h = cond a sights.Put (cond b sights.Stands (cond d sights.First (cond h sights.Again sights.Beside)))

  with_sight : (a b d h : Bool) → map.contains_key i.puts k ≡ a → map.contains_key now k ≡ b → is_first now k ≡ d → map.contains_key m k ≡ h
      → counts_by m (intend (Put k c) i) ≡ counts_with (counts_by m i) k (by_sight a b d h)
  with_sight a b d h own there first held =
      go a b d h
      (cells_put ∙ ap (λ (t : Bool). cond {A = ℕ} t (changed_by i) (changed_by i + 1)) own)
      (places_put ∙ ap (λ (t : Bool). (counts_by m i).places + cond {A = ℕ} t 0 (places_with now k)) there)
      (made_put is_leader ∙ ap (λ (t : Bool). missing_in is_leader m now + cond {A = ℕ} t 0 (weight is_leader m k)) there)
      (made_put is_owner ∙ ap (λ (t : Bool). missing_in is_owner m now + cond {A = ℕ} t 0 (weight is_owner m k)) there)
      (places_of now k d first)
      (weigh is_leader h held)
      (weigh is_owner h held)
      (λ e. sym there ∙ own_there (own ∙ e))
      (λ e. first_is_page now k (first ∙ e))
    where
      last : (b : Bool) → (b && true) ≡ b
      last true = refl
      last false = refl

      none : (b : Bool) → (b && false) ≡ false
      none true = refl
      none false = refl

      go : (a b d h : Bool)
          → changed_by (intend (Put k c) i) ≡ cond {A = ℕ} a (changed_by i) (changed_by i + 1)
          → (counts_by m (intend (Put k c) i)).places ≡ (counts_by m i).places + cond {A = ℕ} b 0 (places_with now k)
          → missing_in is_leader m (with_intents (intend (Put k c) i) m) ≡ missing_in is_leader m now + cond {A = ℕ} b 0 (weight is_leader m k)
          → missing_in is_owner m (with_intents (intend (Put k c) i) m) ≡ missing_in is_owner m now + cond {A = ℕ} b 0 (weight is_owner m k)
          → places_with now k ≡ places_at k + cond {A = ℕ} d 1 0
          → weight is_leader m k ≡ cond {A = ℕ} (is_leader k && not h) 1 0
          → weight is_owner m k ≡ cond {A = ℕ} (is_owner k && not h) 1 0
          → (a ≡ true → b ≡ true)
          → (d ≡ true → (is_leader k ≡ false) × (is_owner k ≡ false))
          → counts_by m (intend (Put k c) i) ≡ counts_with (counts_by m i) k (by_sight a b d h)
      go true true d h cells places files owners place leader owner there page = same_counts _ _ cells (omega (arith, places)) (omega (arith, files)) (omega (arith, owners))
      go true false d h cells places files owners place leader owner there page = let wrong : false ≡ true = there refl in cc
      go false true d h cells places files owners place leader owner there page = same_counts _ _ cells (omega (arith, places)) (omega (arith, files)) (omega (arith, owners))
      go false false true h cells places files owners place leader owner there page =
          let file : weight is_leader m k ≡ 0 = leader ∙ ap (λ (b : Bool). cond {A = ℕ} (b && not h) 1 0) (page refl).0 in
          let one : weight is_owner m k ≡ 0 = owner ∙ ap (λ (b : Bool). cond {A = ℕ} (b && not h) 1 0) (page refl).1 in
          let no_file : files_at k ≡ 0 = files_of k ∙ ap (λ (b : Bool). cond {A = ℕ} b 1 0) (page refl).0 in
          let no_owner : owners_at k ≡ 0 = owners_of k ∙ ap (λ (b : Bool). cond {A = ℕ} b 1 0) (page refl).1 in
          same_counts _ _ cells (omega (arith, places, place)) (omega (arith, files, file, no_file)) (omega (arith, owners, one, no_owner))
      go false false false true cells places files owners place leader owner there page =
          let file : weight is_leader m k ≡ 0 = leader ∙ ap (λ (b : Bool). cond {A = ℕ} b 1 0) (none (is_leader k)) in
          let one : weight is_owner m k ≡ 0 = owner ∙ ap (λ (b : Bool). cond {A = ℕ} b 1 0) (none (is_owner k)) in
          same_counts _ _ cells (omega (arith, places, place)) (omega (arith, files, file)) (omega (arith, owners, one))
      go false false false false cells places files owners place leader owner there page =
          let file : weight is_leader m k ≡ files_at k = leader ∙ ap (λ (b : Bool). cond {A = ℕ} b 1 0) (last (is_leader k)) ∙ sym (files_of k) in
          let one : weight is_owner m k ≡ owners_at k = owner ∙ ap (λ (b : Bool). cond {A = ℕ} b 1 0) (last (is_owner k)) ∙ sym (owners_of k) in
          same_counts _ _ cells (omega (arith, places, place)) (omega (arith, files, file)) (omega (arith, owners, one))

  pub counts_put : counts_by m (intend (Put k c) i) ≡ counts_with (counts_by m i) k (sight_by i m k)
  counts_put = with_sight (map.contains_key i.puts k) (map.contains_key now k) (is_first now k) (map.contains_key m k) refl refl refl refl
