-- what is looked at for each cell that is put tells whether all of them are good
use Rattle.std.proofs.Math.Dec.{T}
use Rattle.std.specs.Prelude.{cond, Bool, true, false, ◌&&◌, ◌||◌, All, Option, None, Some}
use Rattle.std.specs.List.{AllByRecursion}
use Rattle.std.specs.Option.{option_or}
use Rattle.std.specs.Cmp.{eq_by_cmp_equiv}
use Rattle.std.specs.Ordering.{eq_by_cmp, is_eq, is_lt}
use Rattle.std.specs.declared.cmp.Ordering.{Ordering}
use Rattle.std.specs.declared.cmp.Ordering.TheVariants.{Less, Equal, Greater}
use Rattle.std.specs.FinMap as map
use Rattle.std.specs.FinMap.{find, is_sorted, get-entries, entries_sorted}
use Rattle.std.specs.FinMap.Entries.{below_all}
use Rattle.std.proofs.Common.{◌≡◌, ℕ, ◌<◌, List, [], ◌∷◌, refl, sym, ◌∙◌, ap, subst, arith}
use Rattle.std.proofs.lemmas.Bool.{leb-false, ltb-true}
use Rattle.std.proofs.lemmas.List.Elements.{All-from_recursion, recursion_from_All}
use Rattle.alp_base.specs.Keys.{key_cmp}
use Rattle.alp_base.specs.KeyLaws.{keys_total}
use Rattle.alp_base.specs.declared.cell.Cell.{Cell}
use Rattle.alp_base.specs.declared.cell.Cell.TheVariants as cell
use Rattle.alp_base.specs.declared.cell.OwnerRecord.{OwnerRecord}
use Rattle.alp_base.specs.declared.cell.Props.{Props}
use Rattle.alp_base.specs.declared.ids.FileId.{FileId}
use Rattle.alp_base.specs.declared.key.Key.{Key}
use Rattle.alp_base.specs.declared.key.Key.TheVariants.{Leader, PageOf, OwnerOf}
use Rattle.alp_files.specs.Cells.{Cells, View}
use Rattle.alp_files.specs.Files.{AreFiles}
use Rattle.alp_files.specs.Needs.{Intents, through, is_gone, is_cut, first_gone}
use Rattle.alp_files.proofs.SameLemmas.{same_key-true}
use Rattle.alp_calls.specs.Parts.{AllFit}
use Rattle.alp_regain.specs.Seen.{Passes, NoneBetween, size_at, is_owner, is_below, limit_by, limit_of}
use Rattle.alp_regain.specs.Touched.{EndsAt, IsGoodPut, AreGoodPuts}
use Rattle.alp_regain.proofs.TouchedLemmas.{kind_of_fit}

-- ---- what is so of all entries is so of what stands at each key

at_found : (P : Key → Cell → Type 0) (k : Key) (c : Cell) (es : List (Key × Cell)) → AllByRecursion (λ (e : Key × Cell). P e.0 e.1) es → find key_cmp k es ≡ Some c → P k c
at_found P k c [] all here = cc
at_found P k c (e ∷ es) all here = go (eq_by_cmp key_cmp k e.0) refl (at_found P k c es all.1) here
  where
    same : Some e.1 ≡ Some c → e.1 ≡ c
    same h = cc

    go : (b : Bool) → eq_by_cmp key_cmp k e.0 ≡ b → (find key_cmp k es ≡ Some c → P k c) → cond b (Some e.1) (find key_cmp k es) ≡ Some c → P k c
    go true t rest h = subst (λ (q : Key). P q c) (sym (same_key-true k e.0 t)) (subst (λ (d : Cell). P e.0 d) (same h) all.0)
    go false t rest h = rest h

at_key : (P : Key → Cell → Type 0) (m : Cells) → AllByRecursion (λ (e : Key × Cell). P e.0 e.1) (map.entries m) → (k : Key) (c : Cell) → map.get m k ≡ Some c → P k c
at_key P m all k c here = at_found P k c (map.entries m) all (sym (get-entries m k) ∙ here)

first_of : (a b : Bool) → T (a && b) → T a
first_of true b h = tt
first_of false b h = absurd h

second_of : (a b : Bool) → T (a && b) → T b
second_of true b h = h
second_of false b h = absurd h

none_below : (q : Key) (es : List (Key × Cell)) → T (below_all key_cmp q es) → find key_cmp q es ≡ None
none_below q [] h = refl
none_below q (e ∷ es) h = go (key_cmp q e.0) (first_of (is_lt (key_cmp q e.0)) (below_all key_cmp q es) h) ∙ none_below q es (second_of (is_lt (key_cmp q e.0)) (below_all key_cmp q es) h)
  where
    go : (r : Ordering) → T (is_lt r) → cond (is_eq r) (Some e.1) (find key_cmp q es) ≡ find key_cmp q es
    go Less t = refl
    go Equal t = absurd t
    go Greater t = absurd t

each_listed : (P : Key → Cell → Type 0) (es : List (Key × Cell)) → T (is_sorted key_cmp es) → ((k : Key) (c : Cell) → find key_cmp k es ≡ Some c → P k c) → AllByRecursion (λ (e : Key × Cell). P e.0 e.1) es
each_listed P [] sorted each = tt
each_listed P (e ∷ es) sorted each = (
  each e.0 e.1 (ap (λ (b : Bool). cond b (Some e.1) (find key_cmp e.0 es)) ((eq_by_cmp_equiv keys_total).refl e.0)),
  each_listed P es (second_of (below_all key_cmp e.0 es) (is_sorted key_cmp es) sorted) (λ k c here. each k c (behind k c here (eq_by_cmp key_cmp k e.0) refl)),
)
  where
    behind : (k : Key) (c : Cell) → find key_cmp k es ≡ Some c → (b : Bool) → eq_by_cmp key_cmp k e.0 ≡ b → find key_cmp k (e ∷ es) ≡ Some c
    behind k c here true t =
        let none : find key_cmp k es ≡ None = ap (λ (q : Key). find key_cmp q es) (same_key-true k e.0 t) ∙ none_below e.0 es (first_of (below_all key_cmp e.0 es) (is_sorted key_cmp es) sorted) in
        let wrong : Some c ≡ None = sym here ∙ none in cc
    behind k c here false t = ap (λ (b : Bool). cond b (Some e.1) (find key_cmp k es)) t ∙ here

each_entry : (P : Key → Cell → Type 0) (m : Cells) → ((k : Key) (c : Cell) → map.get m k ≡ Some c → P k c) → AllByRecursion (λ (e : Key × Cell). P e.0 e.1) (map.entries m)
each_entry P m each = each_listed P (map.entries m) (entries_sorted m) (λ k c here. each k c (get-entries m k ∙ here))

-- ---- what passes is good

record_there : (o : Option Cell) → is_owner o ≡ true → (r : OwnerRecord) × (o ≡ Some (cell.Owner r))
record_there (Some (cell.Leader p)) h = cc
record_there (Some (cell.Page bytes)) h = cc
record_there (Some (cell.Owner r)) h = (r, refl)
record_there None h = cc

size_there : (n : ℕ) (o : Option Cell) → is_below n (size_at o) ≡ true → (p : Props) × (o ≡ Some (cell.Leader p)) × (n < p.size)
size_there n (Some (cell.Leader p)) h = (p, refl, ltb-true n p.size h)
size_there n (Some (cell.Page bytes)) h = cc
size_there n (Some (cell.Owner r)) h = cc
size_there n None h = cc

-- a page that stays lies below what goes
stays_below : (o : Option ℕ) (n size : ℕ) → n < size → is_cut o n ≡ false → n < limit_by (Some size) o
stays_below None n size less stays = less
stays_below (Some first) n size less stays = omega (arith, less, leb-false first n stays)

module _ (i : Intents) (m : Cells) (files : AreFiles (map.get m)) (fit : AllFit i.puts) (each : (k : Key) (c : Cell) → map.get i.puts k ≡ Some c → Passes i m k c) where
  abbrev v : View
  v = through i (map.get m)

  put_seen : (k : Key) (c : Cell) → map.get i.puts k ≡ Some c → v k ≡ Some c
  put_seen k c e = ap (λ (o : Option Cell). option_or o (cond (is_gone i k) None (map.get m k))) e

  -- a page that is put lies below the size that is seen
  page_good : (f : FileId) (n : ℕ) (c : Cell) → map.get i.puts (PageOf f n) ≡ Some c → (p : Props) × (v (Leader f) ≡ Some (cell.Leader p)) × (n < p.size)
  page_good f n (cell.Page bytes) e = size_there n (v (Leader f)) (each (PageOf f n) (cell.Page bytes) e)
  page_good f n (cell.Leader p) e = absurd (kind_of_fit (PageOf f n) (cell.Leader p) (fit (PageOf f n) (cell.Leader p) e))
  page_good f n (cell.Owner r) e = absurd (kind_of_fit (PageOf f n) (cell.Owner r) (fit (PageOf f n) (cell.Owner r) e))

  size_of : Option Cell → ℕ
  size_of (Some (cell.Leader p)) = p.size
  size_of (Some (cell.Page bytes)) = 0
  size_of (Some (cell.Owner r)) = 0
  size_of None = 0

  same_size : (p q : Props) (o : Option Cell) → o ≡ Some (cell.Leader p) → o ≡ Some (cell.Leader q) → p.size ≡ q.size
  unfolding size_of
  same_size p q o e f = ap size_of (sym e ∙ f)

  -- a page that lies below and stays is below the limit
  limit_said : (f : FileId) (n : ℕ) (c : Cell) → map.get m (PageOf f n) ≡ Some c → is_gone i (PageOf f n) ≡ false → n < limit_of i m f
  limit_said f n c here stays =
      let old = files.paged f n c here in
      subst (λ (o : Option Cell). n < limit_by (size_at o) (first_gone i f)) (sym old.1) (go old.0.size old.2 (map.contains_key i.drops f) refl stays)
    where
      go : (size : ℕ) → n < size → (b : Bool) → map.contains_key i.drops f ≡ b → (b || is_cut (map.get i.cuts f) n) ≡ false → n < limit_by (Some size) (first_gone i f)
      go size less true e none = cc
      go size less false e none =
          subst (λ (b : Bool). n < limit_by (Some size) (cond b (Some 0) (map.get i.cuts f))) (sym e) (stays_below (map.get i.cuts f) n size less none)

  ends : (f : FileId) (p : Props) → map.get i.puts (Leader f) ≡ Some (cell.Leader p) → NoneBetween v f p.size (limit_of i m f) → EndsAt v f p.size
  ends f p put none n past = go (v (PageOf f n)) refl (map.get i.puts (PageOf f n)) refl
    where
      below : (b : Bool) → is_gone i (PageOf f n) ≡ b → map.get i.puts (PageOf f n) ≡ None → (o : Option Cell) → map.get m (PageOf f n) ≡ o → v (PageOf f n) ≡ None
      below true gone e o here = λ j. option_or (e j) (cond (gone j) None (map.get m (PageOf f n)))
      below false gone e None here = (λ j. option_or (e j) (cond (gone j) None (map.get m (PageOf f n)))) ∙ here
      below false gone e (Some c) here = none n past (limit_said f n c here gone)

      go : (o : Option Cell) → v (PageOf f n) ≡ o → (x : Option Cell) → map.get i.puts (PageOf f n) ≡ x → v (PageOf f n) ≡ None
      go o is (Some c) e =
          let page = page_good f n c e in
          absurd (omega (arith, page.2, past, same_size p page.0 (v (Leader f)) (put_seen (Leader f) (cell.Leader p) put) page.1))
      go o is None e = below (is_gone i (PageOf f n)) refl e (map.get m (PageOf f n)) refl

  pub good_puts : AreGoodPuts i m
  good_puts (Leader f) (cell.Leader p) e =
      (record_there (v (OwnerOf p.owner)) (each (Leader f) (cell.Leader p) e).0, ends f p e (each (Leader f) (cell.Leader p) e).1)
  good_puts (Leader f) (cell.Page bytes) e = tt
  good_puts (Leader f) (cell.Owner r) e = tt
  good_puts (PageOf f n) (cell.Leader p) e = tt
  good_puts (PageOf f n) (cell.Page bytes) e = page_good f n (cell.Page bytes) e
  good_puts (PageOf f n) (cell.Owner r) e = tt
  good_puts (OwnerOf name) (cell.Leader p) e = tt
  good_puts (OwnerOf name) (cell.Page bytes) e = tt
  good_puts (OwnerOf name) (cell.Owner r) e = tt

pub passing_good : (i : Intents) (m : Cells) → AreFiles (map.get m) → AllFit i.puts → All (λ (e : Key × Cell). Passes i m e.0 e.1) (map.entries i.puts) → AreGoodPuts i m
passing_good i m files fit all =
    good_puts i m files fit (at_key (λ k c. Passes i m k c) i.puts (recursion_from_All (λ (e : Key × Cell). Passes i m e.0 e.1) (map.entries i.puts) all))

pub good_listed : (i : Intents) (m : Cells) → AreGoodPuts i m → All (λ (e : Key × Cell). IsGoodPut (through i (map.get m)) e.0 e.1) (map.entries i.puts)
good_listed i m good =
    All-from_recursion (λ (e : Key × Cell). IsGoodPut (through i (map.get m)) e.0 e.1) (map.entries i.puts) (each_entry (λ k c. IsGoodPut (through i (map.get m)) k c) i.puts good)
