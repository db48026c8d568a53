-- the messages of entries, by their places and counts
use Rattle.std.specs.Prelude.{slice_get, slice_index_or, min, flat_map, map, Some, None}
use Rattle.std.specs.List.{AllByRecursion}
use Rattle.std.proofs.Common.{◌≡◌, ℕ, zero, suc, ◌+◌, ◌<◌, ◌≤◌, List, [], ◌∷◌, ◌++◌, length, take, refl, sym, ap, ◌∙◌, subst, arith, length-append}
use mathlib.Core.List.{append_assoc, append-nil}
use lib.ListN.{length-map}
use Rattle.alp_journal.specs.declared.act.Act.{Act}
use Rattle.alp_journal.specs.declared.act.Act.TheVariants as act
use Rattle.alp_journal.specs.declared.entry.Entry.{Entry}
use Rattle.alp_journal.specs.declared.message.Envelope.{Envelope}
use Rattle.alp_node.specs.Nodes as node
use Rattle.alp_berth.specs.Sends.{sent_by, capped, counts_from, count_in}
use Rattle.alp_berth.specs.Berths.{ranked, sent_as, sent_ranked, last_in, AreRising}
use Rattle.alp_berth.specs.declared.made.Ranked.{Ranked}

module _ {A : Type 0} where
  get_none : (xs : List A) (i : ℕ) (x : A) → xs ≡ [] → slice_get xs i ≡ Some x → ⊥
  get_none [] i x is e = let f : None ≡ Some x = e in cc
  get_none (y ∷ ys) i x is e = let f : y ∷ ys ≡ [] = is in cc

  pub get_first : (xs ys : List A) (i : ℕ) (x : A) → slice_get xs i ≡ Some x → slice_get (xs ++ ys) i ≡ Some x
  get_first [] ys i x e = absurd (let f : None ≡ Some x = e in cc)
  get_first (z ∷ zs) ys zero x e = e
  get_first (z ∷ zs) ys (suc i) x e = get_first zs ys i x e

  pub get_second : (xs ys : List A) (i : ℕ) → slice_get (xs ++ ys) (length xs + i) ≡ slice_get ys i
  get_second [] ys i = (let e : 0 + i ≡ i = omega arith in ap (λ n. slice_get ys n) e)
  get_second (x ∷ xs) ys i = (let e : suc (length xs) + i ≡ suc (length xs + i) = omega arith in ap (λ n. slice_get (x ∷ (xs ++ ys)) n) e) ∙ get_second xs ys i

  pub same_some : (x y : A) → Some x ≡ Some y → x ≡ y
  same_some x y e = cc

module _ {A B : Type 0} (f : A → B) where
  pub get_map : (xs : List A) (i : ℕ) (x : A) → slice_get xs i ≡ Some x → slice_get (map f xs) i ≡ Some (f x)
  get_map [] i x e = absurd (let g : None ≡ Some x = e in cc)
  get_map (y ∷ ys) zero x e = ap (λ z. Some (f z)) (same_some y x e)
  get_map (y ∷ ys) (suc i) x e = get_map ys i x e

-- ---- counts

count_both : (xs ys : List Entry) → count_in (xs ++ ys) ≡ count_in xs + count_in ys
count_both [] ys = omega arith
count_both (x ∷ xs) ys = let r = count_both xs ys in omega (arith, r)

pub count_more : (js : List Entry) (e : Entry) → count_in (js ++ e ∷ []) ≡ count_in js + length (sent_by e.acts)
count_more js e = let r = count_both js (e ∷ []) in omega (arith, r)

pub counts_more : (n : ℕ) (js : List Entry) (e : Entry) → counts_from n (js ++ e ∷ []) ≡ counts_from n js ++ capped (n + count_in js) ∷ []
counts_more n [] e = (let m : n ≡ n + 0 = omega arith in ap (λ k. capped k ∷ []) m)
counts_more n (x ∷ xs) e =
    ap (λ l. capped n ∷ l) (counts_more (n + length (sent_by x.acts)) xs e
    ∙ (let m : (n + length (sent_by x.acts)) + count_in xs ≡ n + (length (sent_by x.acts) + count_in xs) = omega arith in ap (λ k. counts_from (n + length (sent_by x.acts)) xs ++ capped k ∷ []) m))

-- from none on
pub counts_next : (js : List Entry) (e : Entry) → counts_from 0 (js ++ e ∷ []) ≡ counts_from 0 js ++ capped (count_in js) ∷ []
counts_next js e = counts_more 0 js e ∙ (let m : 0 + count_in js ≡ count_in js = omega arith in ap (λ k. counts_from 0 js ++ capped k ∷ []) m)

pub counts_long : (n : ℕ) (js : List Entry) → length (counts_from n js) ≡ length js
counts_long n [] = refl
counts_long n (x ∷ xs) = ap suc (counts_long (n + length (sent_by x.acts)) xs)

-- the count before the entry at a place
pub count_at : (n : ℕ) (js : List Entry) (i c : ℕ) → slice_get (counts_from n js) i ≡ Some c → c ≡ capped (n + count_in (take i js))
count_at n [] i c e = absurd (let f : None ≡ Some c = e in cc)
count_at n (x ∷ xs) zero c e = (let m : n ≡ n + 0 = omega arith in sym (same_some (capped n) c e) ∙ ap capped m)
count_at n (x ∷ xs) (suc i) c e = count_at (n + length (sent_by x.acts)) xs i c e ∙ (let m : (n + length (sent_by x.acts)) + count_in (take i xs) ≡ n + (length (sent_by x.acts) + count_in (take i xs)) = omega arith in ap capped m)

-- up to it, and with it
pub count_upto : (js : List Entry) (i : ℕ) (e : Entry) → slice_get js i ≡ Some e → count_in (take (i + 1) js) ≡ count_in (take i js) + length (sent_by e.acts)
count_upto [] i e at = absurd (let f : None ≡ Some e = at in cc)
count_upto (x ∷ xs) zero e at = (let s : length (sent_by x.acts) ≡ length (sent_by e.acts) = ap (λ (y : Entry). length (sent_by y.acts)) (same_some x e at) in omega (arith, s))
count_upto (x ∷ xs) (suc i) e at = (let r = count_upto xs i e at in let m : suc i + 1 ≡ suc (i + 1) = omega arith in ap (λ k. count_in (take k (x ∷ xs))) m ∙ omega (arith, r))

-- ---- messages with their ranks

pub sent_long : (js : List Entry) (rs : List ℕ) → length rs ≡ length js → length (sent_ranked (ranked js rs)) ≡ count_in js
sent_long [] rs same = refl
sent_long (x ∷ xs) [] same = omega (arith, same)
sent_long (x ∷ xs) (r ∷ rs) same =
    let n = length-append (map (sent_as r) (sent_by x.acts)) (sent_ranked (ranked xs rs)) in
    let m = length-map (sent_by x.acts) (sent_as r) in
    let rest = sent_long xs rs (omega (arith, same)) in
    omega (arith, n, m, rest)

-- the message at a place of one entry, among those of all
pub sent_there : (js : List Entry) (rs : List ℕ) (i : ℕ) (e : Entry) (r k : ℕ) (x : Envelope) → slice_get js i ≡ Some e → slice_get rs i ≡ Some r → slice_get (sent_by e.acts) k ≡ Some x → slice_get (sent_ranked (ranked js rs)) (count_in (take i js) + k) ≡ Some (r, x)
sent_there [] rs i e r k x at rat is = absurd (let f : None ≡ Some e = at in cc)
sent_there (y ∷ ys) [] i e r k x at rat is = absurd (let f : None ≡ Some r = rat in cc)
sent_there (y ∷ ys) (s ∷ ss) zero e r k x at rat is =
    let here : slice_get (sent_by y.acts) k ≡ Some x = ap (λ (z : Entry). slice_get (sent_by z.acts) k) (same_some y e at) ∙ is in
    let m : 0 + k ≡ k = omega arith in
    ap (λ n. slice_get (map (sent_as s) (sent_by y.acts) ++ sent_ranked (ranked ys ss)) n) m
    ∙ (get_first (map (sent_as s) (sent_by y.acts)) (sent_ranked (ranked ys ss)) k (s, x) (get_map (sent_as s) (sent_by y.acts) k x here) ∙ ap (λ n. Some (n, x)) (same_some s r rat))
sent_there (y ∷ ys) (s ∷ ss) (suc i) e r k x at rat is =
    let l : length (map (sent_as s) (sent_by y.acts)) ≡ length (sent_by y.acts) = length-map (sent_by y.acts) (sent_as s) in
    let m : (length (sent_by y.acts) + count_in (take i ys)) + k ≡ length (map (sent_as s) (sent_by y.acts)) + (count_in (take i ys) + k) = omega (arith, l) in
    ap (λ n. slice_get (map (sent_as s) (sent_by y.acts) ++ sent_ranked (ranked ys ss)) n) m
    ∙ (get_second (map (sent_as s) (sent_by y.acts)) (sent_ranked (ranked ys ss)) (count_in (take i ys) + k) ∙ sent_there ys ss i e r k x at rat is)

-- entries with their ranks, of two lists
pub ranked_both : (js es : List Entry) (rs ss : List ℕ) → length rs ≡ length js → ranked (js ++ es) (rs ++ ss) ≡ ranked js rs ++ ranked es ss
ranked_both [] es [] ss same = refl
ranked_both [] es (r ∷ rs) ss same = absurd (omega (arith, same))
ranked_both (j ∷ js) es [] ss same = absurd (omega (arith, same))
ranked_both (j ∷ js) es (r ∷ rs) ss same = ap (λ l. record { entry = j; rank = r } ∷ l) (ranked_both js es rs ss (omega (arith, same)))

pub ranked_long : (js : List Entry) (rs : List ℕ) → length rs ≡ length js → length (ranked js rs) ≡ length js
ranked_long [] rs same = refl
ranked_long (j ∷ js) [] same = omega (arith, same)
ranked_long (j ∷ js) (r ∷ rs) same = ap suc (ranked_long js rs (omega (arith, same)))

-- ---- ranks

pub last_more : (rs : List ℕ) (r : ℕ) → last_in (rs ++ r ∷ []) ≡ r
last_more [] r = refl
last_more (q ∷ []) r = refl
last_more (q ∷ s ∷ rs) r = last_more (s ∷ rs) r

-- the last is above what they rise from
last_over : (q x : ℕ) (xs : List ℕ) → AreRising q (x ∷ xs) → q < last_in (x ∷ xs)
last_over q x [] rise = rise.0
last_over q x (y ∷ ys) rise = (let a : q < x = rise.0 in let r : x < last_in (y ∷ ys) = last_over x y ys rise.1 in omega (arith, a, r))

-- one more above the last
pub rising_more : (low : ℕ) (rs : List ℕ) (r : ℕ) → AreRising low rs → low < r → last_in rs < r → AreRising low (rs ++ r ∷ [])
rising_more low [] r rise above last = (above, tt)
rising_more low (q ∷ []) r rise above last = (rise.0, (last, tt))
rising_more low (q ∷ s ∷ rs) r rise above last = (rise.0, rising_more q (s ∷ rs) r rise.1 (let o = last_over q s rs rise.1 in omega (arith, o, last)) last)

-- each is at most the last, and the last is at least their number
pub rank_below : (low : ℕ) (rs : List ℕ) (i r : ℕ) → AreRising low rs → slice_get rs i ≡ Some r → r ≤ last_in rs
rank_below low [] i r rise e = absurd (let f : None ≡ Some r = e in cc)
rank_below low (q ∷ []) zero r rise e = (let s = same_some q r e in omega (arith, s))
rank_below low (q ∷ []) (suc i) r rise e = absurd (let f : None ≡ Some r = e in cc)
rank_below low (q ∷ s ∷ rs) zero r rise e = (let is = same_some q r e in let l : s ≤ last_in (s ∷ rs) = rank_below q (s ∷ rs) 0 s rise.1 refl in let a : q < s = rise.1.0 in omega (arith, is, l, a))
rank_below low (q ∷ s ∷ rs) (suc i) r rise e = rank_below q (s ∷ rs) i r rise.1 e

pub last_counts : (low : ℕ) (rs : List ℕ) → AreRising low rs → 0 < length rs → low + length rs ≤ last_in rs
last_counts low [] rise some = absurd (omega (arith, some))
last_counts low (q ∷ []) rise some = (let a : low < q = rise.0 in omega (arith, a))
last_counts low (q ∷ s ∷ rs) rise some = (let a : low < q = rise.0 in let r : q + length (s ∷ rs) ≤ last_in (s ∷ rs) = last_counts q (s ∷ rs) rise.1 (omega arith) in omega (arith, a, r))

pub last_many : (rs : List ℕ) → AreRising 0 rs → length rs ≤ last_in rs
last_many [] rise = omega arith
last_many (q ∷ rs) rise = (let r = last_counts 0 (q ∷ rs) rise (omega arith) in omega (arith, r))

-- ---- one entry more that is counted

take_entry : (xs : List Entry) (i : ℕ) (d : Entry) → i < length xs → take (i + 1) xs ≡ take i xs ++ slice_index_or xs i d ∷ []
take_entry [] i d low = absurd (omega (arith, low))
take_entry (x ∷ xs) zero d low = refl
take_entry (x ∷ xs) (suc i) d low = (let m : suc i + 1 ≡ suc (i + 1) = omega arith in ap (λ n. take n (x ∷ xs)) m) ∙ ap (λ l. x ∷ l) (take_entry xs i d (omega (arith, low)))

module _ (xs : List Entry) (i : ℕ) (e : Entry) (low : i < length xs) (is : slice_index_or xs i e ≡ e) where
  upto : take (i + 1) xs ≡ take i xs ++ e ∷ []
  upto = take_entry xs i e low ∙ ap (λ (x : Entry). take i xs ++ x ∷ []) is

  pub counted_more : (cs : List ℕ) (all : ℕ) → cs ≡ counts_from 0 (take i xs) → all ≡ capped (count_in (take i xs)) → cs ++ all ∷ [] ≡ counts_from 0 (take (i + 1) xs)
  counted_more cs all counts_are all_is = (λ j. counts_are j ++ all_is j ∷ []) ∙ (sym (counts_next (take i xs) e) ∙ ap (counts_from 0) (sym upto))

  pub all_more : (all sent : ℕ) → all ≡ capped (count_in (take i xs)) → sent ≡ length (sent_by e.acts) → min (all + sent) 18446744073709551615 ≡ capped (count_in (take (i + 1) xs))
  all_more all sent all_is sent_is = (let more : count_in (take (i + 1) xs) ≡ count_in (take i xs) + length (sent_by e.acts) = ap count_in upto ∙ count_more (take i xs) e in omega (arith, all_is, sent_is, more))
