-- what holds of the counts of a part: as it begins, as others are committed, and as it is committed itself
use Rattle.std.specs.Prelude.{cond, Bool, true, false, not, ◌||◌, IsTrue, is_some, is_none, sum_by, Option, None, Some, map as list_map}
use Rattle.std.specs.List.{list_any, filter_map}
use Rattle.std.specs.FinMap as map
use Rattle.std.specs.FinMap.{contains_key-keys, get-empty, get-insert, len-empty}
use Rattle.std.specs.Ordering.{eq_by_cmp}
use Rattle.std.proofs.Common.{◌≡◌, ℕ, ◌+◌, List, [], ◌∷◌, ◌++◌, length, refl, sym, ◌∙◌, ap, subst, arith}
use Rattle.std.proofs.lemmas.List.Sums.{sum_by-cons}
use Rattle.alp_base.specs.declared.key.Key.{Key}
use Rattle.alp_base.specs.declared.key.Key.TheVariants.{Leader, PageOf, OwnerOf}
use Rattle.alp_base.specs.Keys.{key_cmp}
use Rattle.alp_base.specs.KeyLaws.{file_cmp, keys_total}
use Rattle.alp_base.specs.declared.cell.Cell.{Cell}
use Rattle.alp_files.specs.Cells.{Cells}
use Rattle.alp_files.specs.Counts.{used_of, files_at, name_at, file_count_of, owner_count_of}
use Rattle.alp_files.specs.Edits.{Edit, Drop, Cut, Put, is_in_file, is_past, edit_at, edit_map, edits_map}
use Rattle.alp_files.specs.Needs.{Intents, no_intents, intents_from, intents_of, is_gone, changed, changed_by, left_of, need_of, freed_of, made_of, lost_of, missing_in, is_leader, is_owner}
use Rattle.alp_files.specs.Undo.{puts_of}
use Rattle.alp_files.proofs.HistoryLemmas.{get-edit_map}
use Rattle.alp_files.proofs.IntentLemmas.{intents_from-append, puts_from, puts_alone}
use Rattle.alp_files.proofs.SameLemmas.{same_key-true, same_key-itself}
use Rattle.alp_trans.specs.Counting.{AreCountsOf, no_counts, counts_by, left_by, with_intents}
use Rattle.alp_trans.specs.Frames.{is_near, touches, DoAgreeNear}
use Rattle.alp_trans.specs.declared.counts.Counts.{Counts}
use Rattle.alp_calls.specs.Sights.{IsRaised, IsTurned}
use Rattle.alp_calls.proofs.FrameLemmas.{used_along, made_along}
use Rattle.alp_calls.proofs.GoneLemmas.{bare}
use Rattle.alp_calls.proofs.IntentCounts.{get-left, left_less, none_left, same_counts, counted_by, are_counts, files_of, with_all, left_all}
use Rattle.alp_calls.proofs.MissingLemmas.{count_in, differ}
use Rattle.alp_calls.proofs.NeedLemmas.{made_sum, none_made, used_kept}

-- ---- a part that did nothing

pub counts_begin : (m : Cells) → AreCountsOf m [] no_counts
counts_begin m = are_counts m [] no_counts (sym (bare no_intents m refl ∙ same_counts _ no_counts (omega (arith, len-empty file_cmp (Unit {0}), len-empty file_cmp ℕ)) refl refl refl))

-- ---- a call goes on

-- what goes is counted, and then what is put
pub counted_after : (tells : Bool) (held : Cells) (i : Intents) (gone puts : List Edit) (start mid n : Counts) → IsTurned tells held i (intents_from i gone) start mid
    → IsRaised tells held (intents_from i gone) (intents_from (intents_from i gone) puts) mid n → IsTurned tells held i (intents_from i (gone ++ puts)) start n
counted_after tells held i gone puts start mid n turned raised = subst (λ (x : Intents). IsTurned tells held i x start n) (sym (intents_from-append i gone puts)) (record {
  cells = cells;
  few = raised.few;
  counts = λ told is.
      let same : mid ≡ counts_by held (intents_from i gone) = turned.counts told is in
      let places : mid.places ≡ (counts_by held (intents_from i gone)).places = ap (λ (x : Counts). x.places) same in
      let files : mid.files ≡ (counts_by held (intents_from i gone)).files = ap (λ (x : Counts). x.files) same in
      let owners : mid.owners ≡ (counts_by held (intents_from i gone)).owners = ap (λ (x : Counts). x.owners) same in
      same_counts n (counts_by held (intents_from (intents_from i gone) puts)) cells
      (omega (arith, raised.places told, places)) (omega (arith, raised.files told, files)) (omega (arith, raised.owners told, owners));
})
  where
    cells : n.cells ≡ changed_by (intents_from (intents_from i gone) puts)
    cells = omega (arith, turned.cells, raised.cells)

-- counts that were those of a part are those of it with the edits of the call
pub counts_from : (tells : Bool) (held : Cells) (i : Intents) (es fs : List Edit) (start n : Counts) → IsTurned tells held i (intents_from i fs) start n
    → IsTrue tells → i ≡ intents_of es → AreCountsOf held es start → AreCountsOf held (es ++ fs) n
counts_from tells held i es fs start n h told is are =
    are_counts held (es ++ fs) n
    (h.counts told (counted_by held es start are ∙ ap (counts_by held) (sym is))
    ∙ ap (λ (x : Intents). counts_by held (intents_from x fs)) is ∙ ap (counts_by held) (sym (intents_from-append no_intents es fs)))

-- ---- others are committed

or_left : (a b : Bool) → a ≡ true → (a || b) ≡ true
or_left true b h = refl
or_left false b h = cc

or_right : (a b : Bool) → b ≡ true → (a || b) ≡ true
or_right true b h = refl
or_right false b h = h

-- a key that is put near this one
record NearPut (ks : List Key) (q : Key) : Type 0 where
  key : Key
  there : list_any (eq_by_cmp key_cmp key) ks ≡ true
  near : is_near key q ≡ true

near_put : (puts : List (Key × Cell)) (q : Key) → touches (puts_of puts) q ≡ true → NearPut (list_map (λ (e : Key × Cell). e.0) puts) q
near_put [] q h = cc
near_put (e ∷ puts) q h = go (is_near e.0 q) refl h (near_put puts q)
  where
    go : (b : Bool) → is_near e.0 q ≡ b → (b || touches (puts_of puts) q) ≡ true → (touches (puts_of puts) q ≡ true → NearPut (list_map (λ (x : Key × Cell). x.0) puts) q)
        → NearPut (e.0 ∷ list_map (λ (x : Key × Cell). x.0) puts) q
    go true near any rest = record { key = e.0; there = or_left (eq_by_cmp key_cmp e.0 e.0) _ (same_key-itself e.0); near = near }
    go false near any rest = let r = rest any in record { key = r.key; there = or_right (eq_by_cmp key_cmp r.key e.0) _ r.there; near = r.near }

-- what edits put and was not there is near them
put_near : (es : List Edit) (x : Cells) (k q : Key) → map.contains_key (edits_map es x) k ≡ true → map.contains_key x k ≡ false → is_near k q ≡ true → touches es q ≡ true
put_near [] x k q there none near = let wrong : true ≡ false = sym there ∙ none in cc
put_near (Put j c ∷ es) x k q there none near = go (eq_by_cmp key_cmp k j) refl (put_near es (map.insert x j c) k q there)
  where
    go : (b : Bool) → eq_by_cmp key_cmp k j ≡ b → (map.contains_key (map.insert x j c) k ≡ false → is_near k q ≡ true → touches es q ≡ true) → (is_near j q || touches es q) ≡ true
    go true h rest = or_left (is_near j q) (touches es q) (ap (λ (y : Key). is_near y q) (sym (same_key-true k j h)) ∙ near)
    go false h rest = or_right (is_near j q) (touches es q) (rest (ap is_some (get-insert keys_total x j c k ∙ ap (λ (b : Bool). cond b (Some c) (map.get x k)) h) ∙ none) near)
put_near (Drop f ∷ es) x k q there none near =
    or_right (is_in_file f q) (touches es q) (put_near es (edit_map (Drop f) x) k q there (ap is_some (get-edit_map (Drop f) x k) ∙ go (is_in_file f k) (map.get x k) none) near)
  where
    go : (b : Bool) (o : Option Cell) → is_some o ≡ false → is_some (cond b None o) ≡ false
    go true o h = refl
    go false o h = h
put_near (Cut f n ∷ es) x k q there none near =
    or_right (is_in_file f q) (touches es q) (put_near es (edit_map (Cut f n) x) k q there (ap is_some (get-edit_map (Cut f n) x k) ∙ go (is_past f n k) (map.get x k) none) near)
  where
    go : (b : Bool) (o : Option Cell) → is_some o ≡ false → is_some (cond b None o) ≡ false
    go true o h = refl
    go false o h = h

-- what a part's puts are near its edits are near
puts_touch : (es : List Edit) (q : Key) → touches (puts_of (map.entries (intents_of es).puts)) q ≡ true → touches es q ≡ true
puts_touch es q h =
    let n : NearPut (map.keys (intents_of es).puts) q = near_put (map.entries (intents_of es).puts) q h in
    put_near es map.empty n.key q
    (ap (λ (x : Cells). map.contains_key x n.key) (sym (puts_from no_intents es)) ∙ contains_key-keys (intents_of es).puts n.key ∙ n.there)
    (ap is_some (get-empty {X = Cell} key_cmp n.key)) n.near

module _ (m n : Cells) (es : List Edit) (agree : DoAgreeNear es m n) where
  abbrev mine : Intents
  mine = intents_of es

  abbrev put : List Edit
  put = puts_of (map.entries mine.puts)

  agree_left : DoAgreeNear put (left_by mine m) (left_by mine n)
  agree_left q near = get-left mine m q ∙ ap (λ (o : Option Cell). cond (is_gone mine q) None o) (agree q (puts_touch es q near)) ∙ sym (get-left mine n q)

  agree_put : DoAgreeNear put m n
  agree_put q near = agree q (puts_touch es q near)

  used_same : used_of (with_intents mine m) + used_of (left_by mine n) ≡ used_of (with_intents mine n) + used_of (left_by mine m)
  used_same = used_along put (left_by mine m) (left_by mine n) (puts_alone (map.entries mine.puts)) agree_left

  made_same : (p : Key → Bool) → missing_in p m (with_intents mine m) ≡ missing_in p n (with_intents mine n)
  made_same p = omega (
    arith,
    made_along p m n put (left_by mine m) (left_by mine n) (puts_alone (map.entries mine.puts)) agree_left agree_put,
    none_left mine m p,
    none_left mine n p,
    made_sum p m (with_intents mine m),
    made_sum p n (with_intents mine n),
  )

  counts_same : counts_by m mine ≡ counts_by n mine
  counts_same = same_counts (counts_by m mine) (counts_by n mine) refl (omega (arith, used_same, left_less mine m, left_less mine n)) (made_same is_leader) (made_same is_owner)

pub counts_stay : (m n : Cells) (es : List Edit) (c : Counts) → DoAgreeNear es m n → AreCountsOf m es c → AreCountsOf n es c
counts_stay m n es c agree h = are_counts n es c (counted_by m es c h ∙ counts_same m n es agree)

-- ---- the part is committed

pub changed_after : (es : List Edit) → changed es ≡ map.len (intents_of es).drops + map.len (intents_of es).cuts + map.len (edits_map es map.empty)
changed_after es = ap (λ (x : Cells). map.len (intents_of es).drops + map.len (intents_of es).cuts + map.len x) (puts_from no_intents es)

pub used_after : (m : Cells) (es : List Edit) → used_of (edits_map es m) + freed_of m es ≡ used_of m + need_of m es
used_after m es =
    let all : used_of (with_intents (intents_of es) m) ≡ used_of (edits_map es m) = ap used_of (with_all es m) in
    let left : used_of (left_by (intents_of es) m) ≡ used_of (left_of m es) = ap used_of (left_all es m) in
    omega (arith, all, left, left_less (intents_of es) m, used_kept m (λ k. not (is_gone (intents_of es) k)))

files_count : (x : Cells) → file_count_of x ≡ count_in is_leader x
files_count x = go (map.entries x)
  where
    go : (es : List (Key × Cell)) → sum_by (λ (e : Key × Cell). files_at e.0) es ≡ sum_by (λ (e : Key × Cell). cond {A = ℕ} (is_leader e.0) 1 0) es
    go [] = refl
    go (e ∷ es) = omega (arith, go es, files_of e.0, sum_by-cons (λ (x : Key × Cell). files_at x.0) e es, sum_by-cons (λ (x : Key × Cell). cond {A = ℕ} (is_leader x.0) 1 0) e es)

pub files_after : (m : Cells) (es : List Edit) → file_count_of (edits_map es m) + lost_of is_leader m es ≡ file_count_of m + made_of is_leader m es
files_after m es = omega (arith, differ is_leader m (edits_map es m), files_count m, files_count (edits_map es m))

-- owners, as a sum
names_sum : (es : List (Key × Cell)) → length (filter_map name_at (list_map (λ e. e.0) es)) ≡ sum_by (λ (e : Key × Cell). cond {A = ℕ} (is_owner e.0) 1 0) es
names_sum [] = refl
names_sum ((Leader f, c) ∷ es) = omega (arith, names_sum es)
names_sum ((PageOf f n, c) ∷ es) = omega (arith, names_sum es)
names_sum ((OwnerOf o, c) ∷ es) = omega (arith, names_sum es, sum_by-cons (λ (e : Key × Cell). cond {A = ℕ} (is_owner e.0) 1 0) (OwnerOf o, c) es)

-- no owner goes
owner_stays : (es : List Edit) (m : Cells) (q : Key) → is_owner q ≡ true → map.contains_key m q ≡ true → map.contains_key (edits_map es m) q ≡ true
owner_stays es m (Leader f) is there = cc
owner_stays es m (PageOf f n) is there = cc
owner_stays [] m (OwnerOf name) is there = there
owner_stays (e ∷ es) m (OwnerOf name) is there = owner_stays es (edit_map e m) (OwnerOf name) is (ap is_some (get-edit_map e m (OwnerOf name)) ∙ go e)
  where
    put : (b : Bool) (c : Cell) (o : Option Cell) → is_some o ≡ true → is_some (cond b (Some c) o) ≡ true
    put true c o h = refl
    put false c o h = h

    go : (e : Edit) → is_some (edit_at e (OwnerOf name) (map.get m (OwnerOf name))) ≡ true
    go (Drop f) = there
    go (Cut f n) = there
    go (Put k c) = put (eq_by_cmp key_cmp (OwnerOf name) k) c (map.get m (OwnerOf name)) there

none_lost : (m : Cells) (es : List Edit) → lost_of is_owner m es ≡ 0
none_lost m es = made_sum is_owner (edits_map es m) m ∙ none_made is_owner (edits_map es m) m (λ q c kind is. go (map.get (edits_map es m) q) (owner_stays es m q kind (ap is_some is)))
  where
    go : (o : Option Cell) → is_some o ≡ true → is_none o ≡ false
    go None h = cc
    go (Some c) h = refl

pub owners_after : (m : Cells) (es : List Edit) → owner_count_of (edits_map es m) ≡ owner_count_of m + made_of is_owner m es
owners_after m es = omega (arith, differ is_owner m (edits_map es m), names_sum (map.entries m), names_sum (map.entries (edits_map es m)), none_lost m es)
