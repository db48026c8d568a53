-- what the states are, once all passes came back
use Rattle.std.proofs.Common.{inl, inr, ◌⊎◌, ◌≡◌, ◌≢◌, ℕ, zero, suc, ◌+◌, ◌<◌, ◌≤◌, List, [], ◌∷◌, ◌++◌, length, set, Some, sym, ap, ◌∙◌, subst, arith, length-append, refl}
use Rattle.std.proofs.lemmas.List.{get_or-set_same, get_or-set_other}
use Rattle.std.specs.Prelude.{slice_get, slice_index_or, Vec}
use Rattle.std.specs.Vec.{vec_len, vec_capacity}
use Rattle.std.specs.Global.{Global}
use mathlib.Core.List.{IsPrefix}
use Rattle.alp_monitor.specs.History.{turns_of}
use Rattle.alp_monitor.specs.Passes.{number, front, turns, first_base, pass_count, AreOutside, AreAll, IsMadeBy, IsPassOf, IsOutside, IsHeld}
use Rattle.alp_monitor.specs.declared.monitor.Monitor.{Monitor}
use Rattle.alp_monitor.specs.declared.monitor.Pass.{Pass}
use Rattle.alp_storm.specs.declared.errand.Errand.{Errand}
use Rattle.alp_storm.specs.Rings.{IsRing}
use Rattle.alp_storm.specs.Storms.{AreRings, AreRooms, AllCount, Gathers, HaveLast, HaveTasks, IsClosed, AreClosed}
use Rattle.alp_storm.proofs.RingLemmas.{eq_or}
use Rattle.alp_storm.proofs.Lists.{all_pushed, get_longer, get_within, get_at, get_shorter, get_last, same_some, or_same}

module _ {S B E : Type 0} where
  -- what the errand k gave
  pub record Gave (before now : List (Errand S B E)) (room : List (Pass S B E)) (k : ℕ) : Type 0 where
    pub was : Errand S B E
    pub is : Errand S B E
    pub pass : Pass S B E
    pub was_at : slice_get before k ≡ Some was
    pub is_at : slice_get now k ≡ Some is
    pub pass_at : slice_get room k ≡ Some pass
    pub parts : was.ring.items ≡ is.ring.items ++ pass ∷ []
    pub task_is : is.task ≡ was.task

  pub gave : (before now : List (Errand S B E)) (room : List (Pass S B E)) (k : ℕ) → Gathers before now room → length now ≡ length before → length room ≡ length before → k < length before → Gave before now room k
  gave before now room k all n r low =
      let b = get_at before k low in
      let i = get_at now k (omega (arith, low, n)) in
      let p = get_at room k (omega (arith, low, r)) in
      let bs : slice_index_or before k b.0 ≡ b.0 = or_same before k b.0 b.0 b.1 in
      let is : slice_index_or now k b.0 ≡ i.0 = or_same now k i.0 b.0 i.1 in
      let ps : slice_index_or room k p.0 ≡ p.0 = or_same room k p.0 p.0 p.1 in
      let one = all k b.0 p.0 low in
      record {
        was = b.0;
        is = i.0;
        pass = p.0;
        was_at = b.1;
        is_at = i.1;
        pass_at = p.1;
        parts = ap (λ (d : Errand S B E). d.ring.items) (sym bs) ∙ (one.0 ∙ ap (λ (x : Errand S B E × Pass S B E). x.0.ring.items ++ x.1 ∷ []) (λ j. (is j, ps j)));
        task_is = ap (λ (d : Errand S B E). d.task) (sym is) ∙ (one.1 ∙ ap (λ (d : Errand S B E). d.task) bs);
      }

  pub tasks_gathered : (before now : List (Errand S B E)) (room : List (Pass S B E)) → Gathers before now room → length now ≡ length before → length room ≡ length before → HaveTasks before now
  tasks_gathered before now room all n r k d e at eat =
      let g = gave before now room k all n r (get_within before k d at) in
      ap (λ (x : Errand S B E). x.task) (sym (same_some g.is e (sym g.is_at ∙ eat))) ∙ (g.task_is ∙ ap (λ (x : Errand S B E). x.task) (same_some g.was d (sym g.was_at ∙ at)))

module _ {S B E : Type 0} (base_of : S → B) (entries_of : S → List E) (ms ns : List (Monitor S B E)) (m : Monitor S B E) (before now : List (Errand S B E)) (room : List (Pass S B E))
    (last : ms ≡ ns ++ m ∷ []) (rings : AreRings base_of ms before) (all : Gathers before now room) (same : length now ≡ length before) (full : length room ≡ length before) where
  long : length ms ≡ length ns + 1
  long = ap length last ∙ length-append ns (m ∷ [])

  one : (k : ℕ) → k < length before → Gave before now room k
  one k low = gave before now room k all same full low

  -- the ring of an errand that is left
  left_long : (k : ℕ) (g : Gave before now room k) → length g.is.ring.items ≡ length ns
  left_long k g = let r = (rings k g.was g.was_at).long in omega (arith, ap length g.parts, length-append g.is.ring.items (g.pass ∷ []), r, long)

  held : (k : ℕ) (g : Gave before now room k) → IsHeld base_of m k g.pass
  held k g = (rings k g.was g.was_at).held (length ns) m g.pass (ap (λ l. slice_get l (length ns)) last ∙ get_last ns m (length ns) refl) (ap (λ l. slice_get l (length ns)) g.parts ∙ get_last g.is.ring.items g.pass (length ns) (sym (left_long k g)))

  pub own : AreOutside m room
  own i p e =
      let g = one i (let w = get_within room i p e in omega (arith, w, full)) in
      let h = held i g in
      subst (λ (x : Pass S B E). IsPassOf m x × IsOutside x) (same_some g.pass p (sym g.pass_at ∙ e)) (h.ready.own, h.ready.outside)

  pub every : pass_count m ≡ length before → AreAll m room
  every count k low = let g = one k (omega (arith, count, low)) in (k, g.pass, g.pass_at, (held k g).ready.number_is)

  pub left : AreRings base_of ns now
  left k d e =
      let g = one k (let w = get_within now k d e in omega (arith, w, same)) in
      let is = same_some g.is d (sym g.is_at ∙ e) in
      subst (λ (x : Errand S B E). IsRing base_of ns k x.ring.items) is (record {
        long = left_long k g;
        held = λ i n p at pat. (rings k g.was g.was_at).held i n p (ap (λ l. slice_get l i) last ∙ get_longer ns (m ∷ []) i n at) (ap (λ l. slice_get l i) g.parts ∙ get_longer g.is.ring.items (g.pass ∷ []) i p pat);
      })

  -- the pass that an errand gave
  given : (k : ℕ) (d : Errand S B E) (p : Pass S B E) (g : Gave before now room k) → slice_get before k ≡ Some d → slice_get d.ring.items (length ns) ≡ Some p → g.pass ≡ p
  given k d p g e at =
      let is : g.was ≡ d = same_some g.was d (sym g.was_at ∙ e) in
      same_some g.pass p (sym (ap (λ (x : Errand S B E). slice_get x.ring.items (length ns)) (sym is) ∙ (ap (λ l. slice_get l (length ns)) g.parts ∙ get_last g.is.ring.items g.pass (length ns) (sym (left_long k g)))) ∙ at)

  pub closed : (y : S) → base_of y ≡ first_base base_of m → IsMadeBy room (entries_of y) → IsClosed base_of entries_of m (length ns) before y
  closed y base by = record {
    base_is = base;
    history = by.history;
    told_is = by.told_is;
    fronts = λ k d p e at.
        let g = one k (get_within before k d e) in
        subst (λ (x : Pass S B E). IsPrefix (front x) by.history) (given k d p g e at) (by.fronts k g.pass g.pass_at);
    turns_are = λ k d p e at.
        let g = one k (get_within before k d e) in
        ap (λ n. turns_of n by.history) (sym (held k g).ready.number_is) ∙ (by.turns_are k g.pass g.pass_at ∙ ap turns (given k d p g e at));
    makers = λ n x at.
        let who = by.makers n x at in
        let w = get_within room who.0 who.1 who.2 in
        let g = one who.0 (omega (arith, w, full)) in
        let is : x.0 ≡ who.0 = sym who.3 ∙ (ap number (same_some who.1 g.pass (sym who.2 ∙ g.pass_at)) ∙ (held who.0 g).ready.number_is) in
        omega (arith, is, w, full);
  }

  pub closed_before : (i : ℕ) (n : Monitor S B E) (y : S) → slice_get ns i ≡ Some n → IsClosed base_of entries_of n i now y → IsClosed base_of entries_of n i before y
  closed_before i n y at c = record {
    base_is = c.base_is;
    history = c.history;
    told_is = c.told_is;
    fronts = λ k d p e pat. (let g = one k (get_within before k d e) in c.fronts k g.is p g.is_at (stood k d p g e pat));
    turns_are = λ k d p e pat. (let g = one k (get_within before k d e) in c.turns_are k g.is p g.is_at (stood k d p g e pat));
    makers = λ k x xat. (let w = c.makers k x xat in omega (arith, w, same));
  }
    where
      stood : (k : ℕ) (d : Errand S B E) (p : Pass S B E) (g : Gave before now room k) → slice_get before k ≡ Some d → slice_get d.ring.items i ≡ Some p → slice_get g.is.ring.items i ≡ Some p
      stood k d p g e pat =
          let is : d ≡ g.was = same_some d g.was (sym e ∙ g.was_at) in
          let low : i < length g.is.ring.items = (let w = get_within ns i n at in omega (arith, w, left_long k g)) in
          get_shorter g.is.ring.items (g.pass ∷ []) i p low (ap (λ l. slice_get l i) (sym g.parts) ∙ (ap (λ (x : Errand S B E). slice_get x.ring.items i) (sym is) ∙ pat))

  pub counts_left : (n : ℕ) → AllCount ms n → AllCount ns n
  counts_left n c i x at = c i x (ap (λ l. slice_get l i) last ∙ get_longer ns (m ∷ []) i x at)

module _ {S B E : Type 0} (rooms rest : List (Vec (Pass S B E) Global)) (v : Vec (Pass S B E) Global) (n : ℕ) (last : rooms ≡ rest ++ v ∷ []) (all : AreRooms rooms n) where
  pub room_last : (v.items ≡ []) × (vec_len v ≡ 0) × (n ≤ vec_capacity v)
  room_last = all (length rest) v (ap (λ l. slice_get l (length rest)) last ∙ get_last rest v (length rest) refl)

  pub rooms_left : AreRooms rest n
  rooms_left i x at = all i x (ap (λ l. slice_get l i) last ∙ get_longer rest (v ∷ []) i x at)

module _ {S B E : Type 0} (base_of : S → B) (ms : List (Monitor S B E)) (before : List (Errand S B E)) (rings : AreRings base_of ms before) (some : 0 < length ms) where
  -- each ring has a pass where there is a monitor
  pub have_last : HaveLast before
  have_last k d low =
      let b = get_at before k low in
      let l = (rings k b.0 b.1).long in
      subst (λ (x : Errand S B E). 0 < length x.ring.items) (sym (or_same before k b.0 d b.1)) (omega (arith, l, some))

module _ {S B E : Type 0} (base_of : S → B) (entries_of : S → List E) where
  pub closed_more : (ms ns : List (Monitor S B E)) (m : Monitor S B E) (before now : List (Errand S B E)) (ys zs : List S) (y : S) → ms ≡ ns ++ m ∷ [] → IsClosed base_of entries_of m (length ns) before y
      → ((i : ℕ) (n : Monitor S B E) (z : S) → slice_get ns i ≡ Some n → IsClosed base_of entries_of n i now z → IsClosed base_of entries_of n i before z) → AreClosed base_of entries_of ns now ys → length ys ≡ length ns → zs ≡ ys ++ y ∷ [] → AreClosed base_of entries_of ms before zs
  closed_more ms ns m before now ys zs y last one back others same longer i n z at zat =
      all_pushed ys y (λ k x. (o : Monitor S B E) → slice_get ms k ≡ Some o → IsClosed base_of entries_of o k before x)
      (λ k x e o oat.
      let low : k < length ns = (let w = get_within ys k x e in omega (arith, w, same)) in
      let old : slice_get ns k ≡ Some o = get_shorter ns (m ∷ []) k o low (ap (λ l. slice_get l k) (sym last) ∙ oat) in
      back k o x old (others k o x old e))
      (λ o oat.
      let is : m ≡ o = same_some m o (sym (ap (λ l. slice_get l (length ys)) last ∙ get_last ns m (length ys) same) ∙ oat) in
      subst (λ k. IsClosed base_of entries_of o k before y) (sym same) (subst (λ x. IsClosed base_of entries_of x (length ns) before y) is one))
      i z (ap (λ l. slice_get l i) (sym longer) ∙ zat) n at

-- ---- one pass after another is given

module _ {A : Type 0} where
  pub or_longer : (xs ys : List A) (k : ℕ) (d : A) → k < length xs → slice_index_or (xs ++ ys) k d ≡ slice_index_or xs k d
  or_longer [] ys k d l = absurd (omega arith)
  or_longer (x ∷ xs) ys zero d l = refl
  or_longer (x ∷ xs) ys (suc k) d l = or_longer xs ys k d (omega arith)

  pub or_last : (xs : List A) (y : A) (k : ℕ) (d : A) → k ≡ length xs → slice_index_or (xs ++ y ∷ []) k d ≡ y
  or_last xs y k d is = subst (λ n. slice_index_or (xs ++ y ∷ []) n d ≡ y) (sym is) (go xs)
    where
      go : (l : List A) → slice_index_or (l ++ y ∷ []) (length l) d ≡ y
      go [] = refl
      go (z ∷ l) = go l

module _ {S B E : Type 0} where
  -- an errand gave this pass
  abbrev pub Gives : Errand S B E → Errand S B E → Pass S B E → Type 0
  Gives before now p = (before.ring.items ≡ now.ring.items ++ p ∷ []) × (now.task ≡ before.task)

  pub gives_more : (before now : List (Errand S B E)) (room room' : List (Pass S B E)) (n : ℕ) (j : Errand S B E) (p : Pass S B E) → n < length now → length room ≡ n → room' ≡ room ++ p ∷ [] → ((d : Errand S B E) → Gives (slice_index_or before n d) j p)
      → ((k : ℕ) (d : Errand S B E) (q : Pass S B E) → k < n → Gives (slice_index_or before k d) (slice_index_or now k d) (slice_index_or room k q))
      → (k : ℕ) (d : Errand S B E) (q : Pass S B E) → k < n + 1 → Gives (slice_index_or before k d) (slice_index_or (set now n j) k d) (slice_index_or room' k q)
  gives_more before now room room' n j p low long longer one all k d q within = go (eq_or k n)
    where
      go : (k ≡ n) ⊎ (k ≢ n) → Gives (slice_index_or before k d) (slice_index_or (set now n j) k d) (slice_index_or room' k q)
      go (inl is) =
          let last : slice_index_or room' k q ≡ p = ap (λ l. slice_index_or l k q) longer ∙ or_last room p k q (is ∙ sym long) in
          let here : slice_index_or (set now n j) k d ≡ j = ap (λ i. slice_index_or (set now n j) i d) is ∙ get_or-set_same now n j d low in
          subst (λ (x : Errand S B E × Pass S B E). Gives (slice_index_or before k d) x.0 x.1) (λ i. (sym here i, sym last i)) (subst (λ i. Gives (slice_index_or before i d) j p) (sym is) (one d))
      go (inr ne) =
          let below : k < n = omega (arith, within, ne) in
          let same : slice_index_or room' k q ≡ slice_index_or room k q = ap (λ l. slice_index_or l k q) longer ∙ or_longer room (p ∷ []) k q (omega (arith, below, long)) in
          let there : slice_index_or (set now n j) k d ≡ slice_index_or now k d = get_or-set_other now n k j d ne in
          subst (λ (x : Errand S B E × Pass S B E). Gives (slice_index_or before k d) x.0 x.1) (λ i. (sym there i, sym same i)) (all k d q below)

-- tasks stay through two steps
module _ {S B E : Type 0} where
  pub tasks_through : (a b c : List (Errand S B E)) → length b ≡ length a → HaveTasks a b → HaveTasks b c → HaveTasks a c
  tasks_through a b c n one two k d f at fat =
      let x = get_at b k (let w = get_within a k d at in omega (arith, w, n)) in
      two k x.0 f x.1 fat ∙ one k d x.0 at x.1

  pub tasks_same : (a b : List (Errand S B E)) → a ≡ b → HaveTasks a b
  tasks_same a b same k d e at eat = ap (λ (x : Errand S B E). x.task) (same_some e d (sym eat ∙ (ap (λ (l : List (Errand S B E)). slice_get l k) (sym same) ∙ at)))
