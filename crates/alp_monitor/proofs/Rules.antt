-- Each step of a turn keeps the rule.
use Rattle.std.proofs.Common.{◌≡◌, ◌≢◌, ℕ, zero, suc, ◌+◌, ◌-◌, ◌*◌, ◌/◌, ◌%◌, ◌^◌, bit_and, lit≤, ◌<◌, ◌≤◌, eqb, List, [], ◌∷◌, ◌++◌, length, get_or, set, Option, Some, Bool, true, false, true≢false, refl, sym, ap, ◌∙◌, subst, ⊎_elim, inl, inr, arith, length-append, eq-eqb, ne_eqb}
use Rattle.std.proofs.lemmas.Nat.Bits.{and_high_mask}
use mathlib.Core.Option.{some, none, some-ne-none, some-injective}
use mathlib.Core.Option as maybe
use mathlib.Core.List.{append-nil}
use lib.ListN.{get_elem?, length-map}
use prog.Atomic.{either}
use mathlib.Core.Logic.{dite}
use native.Mathlib.Decide.{ℕ_discrete}
use Rattle.atomic_table.specs.Table.{State, Me, step, Act, keeps, takes, gives, Valid, homes_after, carried_after, Allows}
use Rattle.atomic_table.proofs.Lists.{at_set, at_snoc, set_again, set_else}
use Rattle.alp_monitor.specs.History.{entries_in, entry_of, part, AddsAtMostOne}
use Rattle.alp_monitor.specs.Rule.{IsPartOf, ArePartsOf, Knows, IsHome, IsInTurns, word_of, waits_in, waiters}
use Rattle.alp_monitor.specs.Steps.{Claims, Settles, BeginsWait, EndsWait, grown}
use Rattle.alp_monitor.specs.declared.board.Part.{Part}
use Rattle.alp_monitor.specs.declared.board.View.{View}
use Rattle.alp_monitor.specs.declared.board.View.TheVariants.{Spent, Founder, Outside, Waiting, Inside}
use Rattle.alp_monitor.proofs.Histories.{turns_of-else, grown-none, grown-one, entries_in-grown, prefix_more}

module _ {A : Type 0} where
  pub set_at : (l : List A) (i : ℕ) (a b : A) → get_elem? l i ≡ some a → get_elem? (set l i b) i ≡ some b
  set_at [] i a b e = absurd (some-ne-none a (sym e))
  set_at (x ∷ xs) zero a b e = refl
  set_at (x ∷ xs) (suc i) a b e = set_at xs i a b e

  -- where one element is written, what holds of it and of the others
  pub each_after : (K : ℕ → A → Type 0) (l : List A) (i : ℕ) (a : A) → K i a → ((j : ℕ) (b : A) → j ≢ i → get_elem? l j ≡ some b → K j b) → (j : ℕ) (b : A) → get_elem? (set l i a) j ≡ some b → K j b
  each_after K l i a mine others j b e = ⊎_elim (λ (t : (j ≡ i) × (a ≡ b)). subst (λ (x : ℕ × A). K x.0 x.1) (λ k. (sym t.0 k, t.1 k)) mine) (λ (t : (j ≢ i) × (get_elem? l j ≡ some b)). others j b t.0 t.1) (at_set l i j a b e)

module _ {E : Type 0} where
  -- the history gets an entry of another pass
  IsPartOf-grown : (h : List (ℕ × E)) (made : ℕ) (owner : ℕ → ℕ) (j i : ℕ) (x : E) (p : Part E) → IsPartOf h made owner j p → owner i ≢ j → IsPartOf (h ++ (i, x) ∷ []) made owner j p
  IsPartOf-grown h made owner j i x p ok other = record {
    begins = prefix_more p.front h ((i, x) ∷ []) ok.begins;
    complete = turns_of-else p.number i h x (λ e. other (ap owner e ∙ ok.owned)) ∙ ok.complete;
    numbered = ok.numbered;
    owned = ok.owned;
  }

  -- a pass that sees the whole history
  IsPartOf-whole : (h : List (ℕ × E)) (made : ℕ) (owner : ℕ → ℕ) (j k : ℕ) → k < made → owner k ≡ j → IsPartOf h made owner j (part k h)
  IsPartOf-whole h made owner j k small own = record { begins = ([], append-nil h); complete = refl; numbered = small; owned = own }

  -- one part alone
  pub ArePartsOf-one : (h : List (ℕ × E)) (made : ℕ) (owner : ℕ → ℕ) (j : ℕ) (p : Part E) → IsPartOf h made owner j p → ArePartsOf h made owner j (p ∷ [])
  ArePartsOf-one h made owner j p ok = record { each = each; apart = apart }
    where
      each : (i : ℕ) (q : Part E) → get_elem? (p ∷ []) i ≡ some q → IsPartOf h made owner j q
      each zero q e = subst (IsPartOf h made owner j) (some-injective p q e) ok
      each (suc i) q e = absurd (some-ne-none q (sym e))

      apart : (i k : ℕ) (q r : Part E) → get_elem? (p ∷ []) i ≡ some q → get_elem? (p ∷ []) k ≡ some r → q.number ≡ r.number → i ≡ k
      apart zero zero q r e f same = refl
      apart zero (suc k) q r e f same = absurd (some-ne-none r (sym f))
      apart (suc i) k q r e f same = absurd (some-ne-none q (sym e))

module _ {B E : Type 0} where
  -- of a seat that does not move, as another goes inside
  locks : (h : List (ℕ × E)) (base : B) (made : ℕ) (owner : ℕ → ℕ) (holder id j : ℕ) (v : View B E) → Knows h base made owner false holder j v → Knows h base made owner true id j v
  locks h base made owner holder id j Spent k = k
  locks h base made owner holder id j (Founder b n) k = k
  locks h base made owner holder id j (Outside b ps) k = k
  locks h base made owner holder id j (Waiting b p) k = k
  locks h base made owner holder id j (Inside b p) k = absurd (true≢false (sym k.2))

  -- as another leaves
  unlocks : (h : List (ℕ × E)) (base : B) (made : ℕ) (owner : ℕ → ℕ) (holder j : ℕ) (v : View B E) → j ≢ holder → Knows h base made owner true holder j v → Knows h base made owner false holder j v
  unlocks h base made owner holder j Spent ne k = k
  unlocks h base made owner holder j (Founder b n) ne k = k
  unlocks h base made owner holder j (Outside b ps) ne k = k
  unlocks h base made owner holder j (Waiting b p) ne k = k
  unlocks h base made owner holder j (Inside b p) ne k = absurd (ne k.3)

  -- as another leaves with an entry
  grows : (h : List (ℕ × E)) (base : B) (made : ℕ) (owner : ℕ → ℕ) (holder j i : ℕ) (x : E) (v : View B E) → j ≢ holder → owner i ≡ holder → Knows h base made owner true holder j v → Knows (h ++ (i, x) ∷ []) base made owner false holder j v
  grows h base made owner holder j i x Spent ne own k = k
  grows h base made owner holder j i x (Founder b n) ne own k = k
  grows h base made owner holder j i x (Outside b ps) ne own k = (k.0, record { each = λ m p at. IsPartOf-grown h made owner j i x p (k.1.each m p at) (λ e. ne (sym e ∙ own)); apart = k.1.apart })
  grows h base made owner holder j i x (Waiting b p) ne own k = (k.0, IsPartOf-grown h made owner j i x p k.1 (λ e. ne (sym e ∙ own)))
  grows h base made owner holder j i x (Inside b p) ne own k = absurd (ne k.3)

  -- ---- how many passes wait
  pub waiters-set : (vs : List (View B E)) (i : ℕ) (v w : View B E) → get_elem? vs i ≡ some v → waiters (set vs i w) + waits_in v ≡ waiters vs + waits_in w
  waiters-set [] i v w e = absurd (some-ne-none v (sym e))
  waiters-set (x ∷ xs) zero v w e =
      let here : waits_in x ≡ waits_in v = ap waits_in (some-injective x v e) in
      let sum : waits_in w + waiters xs + waits_in v ≡ waits_in x + waiters xs + waits_in w = omega (arith, here) in sum
  waiters-set (x ∷ xs) (suc i) v w e =
      let rest = waiters-set xs i v w e in
      let sum : waits_in x + waiters (set xs i w) + waits_in v ≡ waits_in x + waiters xs + waits_in w = omega (arith, rest) in sum

  pub waiters-snoc : (vs : List (View B E)) (w : View B E) → waiters (vs ++ w ∷ []) ≡ waiters vs + waits_in w
  waiters-snoc [] w = let sum : waits_in w + 0 ≡ 0 + waits_in w = omega arith in sum
  waiters-snoc (x ∷ xs) w =
      let rest = waiters-snoc xs w in
      let sum : waits_in x + waiters (xs ++ w ∷ []) ≡ waits_in x + waiters xs + waits_in w = omega (arith, rest) in sum

  -- a view becomes another, and as many wait
  pub as_many : (vs : List (View B E)) (i : ℕ) (v w : View B E) (waiting awake : ℕ) → get_elem? vs i ≡ some v → waits_in v ≡ waits_in w → waiting ≡ (2 * waiters vs + awake) % 2 ^ 64 → waiting ≡ (2 * waiters (set vs i w) + awake) % 2 ^ 64
  as_many vs i v w waiting awake at same is = let e : waiters vs ≡ waiters (set vs i w) = omega (arith, waiters-set vs i v w at, same) in is ∙ ap (λ (n : ℕ). (2 * n + awake) % 2 ^ 64) e

  abbrev pub is_inside : View B E → Bool
  is_inside (Inside b p) = true
  is_inside v = false

  -- a seat that is not inside is not the one that is
  pub outsider : (id holder : ℕ) (vs : List (View B E)) (v : View B E) (c : B) (q : Part E) → is_inside v ≡ false → get_elem? vs id ≡ some v → get_elem? vs holder ≡ some (Inside c q) → holder ≢ id
  outsider id holder vs v c q out e f z = true≢false (sym (ap is_inside (some-injective v (Inside c q) (sym e ∙ (ap (get_elem? vs) (sym z) ∙ f)))) ∙ out)

-- the word of those that wait, after its low bit was cleared
pub cleared : (n a : ℕ) → a ≤ 1 → (b : ℕ) × (b ≤ 1) × (bit_and ((2 * n + a) % 2 ^ 64) 18446744073709551614 ≡ (2 * n + b) % 2 ^ 64)
cleared n a small = (0, omega arith, and_high_mask 64 1 (lit≤ tt) ((2 * n + a) % 2 ^ 64) (omega arith) ∙ halved)
  where
    halved : (2 * n + a) % 2 ^ 64 / 2 * 2 ≡ (2 * n + 0) % 2 ^ 64
    halved = omega (arith, small)

-- and after it was set where it was clear
pub marked : (w : ℕ) → w % 2 ≡ 0 → (n a : ℕ) → a ≤ 1 → (b : ℕ) × (b ≤ 1) × (either (eqb ((2 * n + a) % 2 ^ 64) w) (w + 1) ((2 * n + a) % 2 ^ 64) ≡ (2 * n + b) % 2 ^ 64)
marked w even n a small = let found : ℕ = (2 * n + a) % 2 ^ 64 in dite (ℕ_discrete found w)
    (λ same. (1, omega arith, ap (λ (t : Bool). either t (w + 1) found) (eq-eqb found w same) ∙ one_more same))
    (λ ne. (a, small, ap (λ (t : Bool). either t (w + 1) found) (ne_eqb found w ne)))
  where
    one_more : (2 * n + a) % 2 ^ 64 ≡ w → w + 1 ≡ (2 * n + 1) % 2 ^ 64
    one_more same = omega (arith, small, even, same)

module _ {S B E : Type 0} (base_of : S → B) (entries_of : S → List E) (base : B) (passes : ℕ) where
  abbrev V : Type 0
  V = View B E

  abbrev Rule : State (Option S) V → Type 0
  Rule = IsInTurns base_of entries_of base passes

  -- what a step on the word i owes, at these words
  abbrev Goes : ℕ → ℕ → Me (Option S) V → (ℕ → ℕ) → (ℕ → Me (Option S) V → Type 0) → List V → List (maybe.Option (Option S)) → List ℕ → Type 0
  Goes id i me f tells vs hs ws = (w : V) × (a : Act (Option S)) × Valid hs me.1 a × Rule record { words = set ws i (f (get_or ws i 0)); homes = homes_after hs me.1 a; views = set vs id w } × tells (get_or ws i 0) (w, carried_after me.1 a)

  -- a step on the word of those that wait which leaves their number
  pub marks : (slots id : ℕ) (me : Me (Option S) V) (f : ℕ → ℕ) → ((n a : ℕ) → a ≤ 1 → (b : ℕ) × (b ≤ 1) × (f ((2 * n + a) % 2 ^ 64) ≡ (2 * n + b) % 2 ^ 64)) → Allows Rule slots id me 1 f (λ found now. now ≡ me)
  marks slots id me f keeps_them s r deep at small =
      let m = keeps_them (waiters s.views) r.awake r.one_awake in
      subst (Goes id 1 me f (λ found now. now ≡ me) s.views s.homes) (sym r.words) (
        me.0,
        keeps,
        tt,
        record {
          history = r.history;
          made = r.made;
          owner = r.owner;
          busy = r.busy;
          holder = r.holder;
          waiting = f r.waiting;
          awake = m.0;
          words = refl;
          waiting_is = as_many s.views id me.0 me.0 (f r.waiting) m.0 at refl (ap f r.waiting_is ∙ m.2);
          one_awake = m.1;
          room = r.room;
          few = r.few;
          named = r.named;
          home = r.home;
          held = λ z. let t = r.held z in (t.0, t.1, ap (λ (l : List V). get_elem? l r.holder) (set_again s.views id me.0 at) ∙ t.2);
          each_seat = λ j v e. r.each_seat j v (ap (λ (l : List V). get_elem? l j) (sym (set_again s.views id me.0 at)) ∙ e);
        },
        refl,
      )

  -- a pass outside is counted, or one that was counted is outside again: as many more or fewer wait
  counts : (id : ℕ) (before now : V) (f : ℕ → ℕ) (tells : ℕ → Me (Option S) V → Type 0) (s : State (Option S) V) (r : Rule s) → get_elem? s.views id ≡ some before → is_inside before ≡ false → ((n : ℕ) → tells n (now, []))
      → Knows r.history base r.made r.owner r.busy r.holder id now → f r.waiting ≡ (2 * waiters (set s.views id now) + r.awake) % 2 ^ 64 → Goes id 1 (before, []) f tells s.views s.homes s.words
  counts id before now f tells s r at out tells_it known counted =
      subst (Goes id 1 (before, []) f tells s.views s.homes) (sym r.words) (
        now,
        keeps,
        tt,
        record {
          history = r.history;
          made = r.made;
          owner = r.owner;
          busy = r.busy;
          holder = r.holder;
          waiting = f r.waiting;
          awake = r.awake;
          words = refl;
          waiting_is = counted;
          one_awake = r.one_awake;
          room = r.room;
          few = r.few;
          named = r.named;
          home = r.home;
          held = λ z. let t = r.held z in (t.0, t.1, set_else s.views id r.holder now (outsider id r.holder s.views before t.0 t.1 out at t.2) ∙ t.2);
          each_seat = each_after (Knows r.history base r.made r.owner r.busy r.holder) s.views id now known (λ j v _ e. r.each_seat j v e);
        },
        tells_it r.waiting,
      )

  pub begins_wait : (slots id : ℕ) (me : Me (Option S) V) (b : B) (p : Part E) → me ≡ (Outside b (p ∷ []), []) → Allows Rule slots id me 1 (λ n. (n + 2) % 2 ^ 64) (BeginsWait (step slots 1 2 0 none) me)
  begins_wait slots id me b p is = subst (λ (m : Me (Option S) V). Allows Rule slots id m 1 (λ n. (n + 2) % 2 ^ 64) (BeginsWait (step slots 1 2 0 none) m)) (sym is)
      (λ s r deep at small. let known = r.each_seat id (Outside b (p ∷ [])) at in
      let more : waiters (set s.views id (Waiting b p)) + 0 ≡ waiters s.views + 1 = waiters-set s.views id (Outside b (p ∷ [])) (Waiting b p) at in
      let counted : (r.waiting + 2) % 2 ^ 64 ≡ (2 * waiters (set s.views id (Waiting b p)) + r.awake) % 2 ^ 64 = omega (arith, more, r.waiting_is) in
      counts id (Outside b (p ∷ [])) (Waiting b p) (λ n. (n + 2) % 2 ^ 64) (BeginsWait (step slots 1 2 0 none) (Outside b (p ∷ []), [])) s r at refl (λ n. refl) (known.0, known.1.each 0 p refl) counted)

  pub ends_wait : (slots id : ℕ) (me : Me (Option S) V) (b : B) (p : Part E) → me ≡ (Waiting b p, []) → Allows Rule slots id me 1 (λ n. (n + (2 ^ 64 - 2)) % 2 ^ 64) (EndsWait (step slots 1 2 0 none) me)
  ends_wait slots id me b p is = subst (λ (m : Me (Option S) V). Allows Rule slots id m 1 (λ n. (n + (2 ^ 64 - 2)) % 2 ^ 64) (EndsWait (step slots 1 2 0 none) m)) (sym is)
      (λ s r deep at small. let known = r.each_seat id (Waiting b p) at in
      let fewer : waiters (set s.views id (Outside b (p ∷ []))) + 1 ≡ waiters s.views + 0 = waiters-set s.views id (Waiting b p) (Outside b (p ∷ [])) at in
      let counted : (r.waiting + (2 ^ 64 - 2)) % 2 ^ 64 ≡ (2 * waiters (set s.views id (Outside b (p ∷ []))) + r.awake) % 2 ^ 64 = omega (arith, fewer, r.waiting_is) in
      counts id (Waiting b p) (Outside b (p ∷ [])) (λ n. (n + (2 ^ 64 - 2)) % 2 ^ 64) (EndsWait (step slots 1 2 0 none) (Waiting b p, [])) s r at refl (λ n. refl) (known.0, ArePartsOf-one r.history r.made r.owner id p known.1) counted)

  abbrev ClaimStep : ℕ → ℕ → ℕ → B → Part E → List V → List (maybe.Option (Option S)) → List ℕ → Type 0
  ClaimStep slots id asked b p = Goes id 0 (Outside b (p ∷ []), []) (λ n. either (eqb n asked) (asked + 1) n) (Claims base_of entries_of (step slots 0 asked (asked + 1) none) (Outside b (p ∷ []), []))

  -- the step fails: the rule stays, at the word that was found
  missed : (slots id asked : ℕ) (b : B) (p : Part E) (s : State (Option S) V) (r : Rule s) → get_elem? s.views id ≡ some (Outside b (p ∷ [])) → word_of r.busy (length r.history) ≢ asked
      → either (eqb (word_of r.busy (length r.history)) asked) (asked + 1) (word_of r.busy (length r.history)) ≡ word_of r.busy (length r.history) → ClaimStep slots id asked b p s.views s.homes (word_of r.busy (length r.history) ∷ r.waiting ∷ [])
  missed slots id asked b p s r at ne stays = (
    Outside b (p ∷ []),
    keeps,
    tt,
    record {
      history = r.history;
      made = r.made;
      owner = r.owner;
      busy = r.busy;
      holder = r.holder;
      waiting = r.waiting;
      awake = r.awake;
      words = ap (λ n. n ∷ r.waiting ∷ []) stays;
      waiting_is = as_many s.views id (Outside b (p ∷ [])) (Outside b (p ∷ [])) r.waiting r.awake at refl r.waiting_is;
      one_awake = r.one_awake;
      room = r.room;
      few = r.few;
      named = r.named;
      home = r.home;
      held = λ z. let t = r.held z in (t.0, t.1, ap (λ (l : List V). get_elem? l r.holder) (set_again s.views id (Outside b (p ∷ [])) at) ∙ t.2);
      each_seat = λ j v e. r.each_seat j v (ap (λ (l : List V). get_elem? l j) (sym (set_again s.views id (Outside b (p ∷ [])) at)) ∙ e);
    },
    ((λ same. absurd (ne same)), λ _. refl),
  )

  -- the step succeeds: the pass goes inside with the state
  hit : (slots id asked : ℕ) (b : B) (p : Part E) (s : State (Option S) V) (history : List (ℕ × E)) (made : ℕ) (owner : ℕ → ℕ) (busy : Bool) (holder waiting awake : ℕ) → waiting ≡ (2 * waiters s.views + awake) % 2 ^ 64 → awake ≤ 1
      → s.words ≡ word_of busy (length history) ∷ waiting ∷ [] → length history ≤ 2 ^ 62 → made ≤ passes → ((k : ℕ) (x : ℕ × E) → get_elem? history k ≡ some x → x.0 < made) → IsHome base_of entries_of history base busy s.homes
      → ((j : ℕ) (v : V) → get_elem? s.views j ≡ some v → Knows history base made owner busy holder j v) → get_elem? s.views id ≡ some (Outside b (p ∷ [])) → asked % 2 ≡ 0 → word_of busy (length history) ≡ asked
      → either (eqb (word_of busy (length history)) asked) (asked + 1) (word_of busy (length history)) ≡ asked + 1 → ClaimStep slots id asked b p s.views s.homes (word_of busy (length history) ∷ waiting ∷ [])
  hit slots id asked b p s history made owner true holder waiting awake waiting_is one_awake words room few named home each at even same goes = absurd (omega (arith, same))
  hit slots id asked b p s history made owner false holder waiting awake waiting_is one_awake words room few named home each at even same goes =
      let known = each id (Outside b (p ∷ [])) at in let own = known.1.each 0 p refl in let y : S = home.0 in let q : Part E = part p.number history in
      subst (λ hs. ClaimStep slots id asked b p s.views hs ((2 * length history) ∷ waiting ∷ [])) (sym home.1) (
        Inside b q,
        takes 0 (Some y),
        refl,
        record {
          history = history;
          made = made;
          owner = owner;
          busy = true;
          holder = id;
          waiting = waiting;
          awake = awake;
          waiting_is = as_many s.views id (Outside b (p ∷ [])) (Inside b q) waiting awake at refl waiting_is;
          one_awake = one_awake;
          words = ap (λ n. n ∷ waiting ∷ []) (goes ∙ ap (λ n. n + 1) (sym same));
          room = room;
          few = few;
          named = named;
          home = refl;
          held = λ _. (b, q, set_at s.views id (Outside b (p ∷ [])) (Inside b q) at);
          each_seat = each_after (Knows history base made owner true id) s.views id (Inside b q) (known.0, IsPartOf-whole history made owner id p.number own.numbered own.owned, refl, refl, refl) (λ j v _ e. locks history base made owner holder id j v (each j v e));
        },
        (
          (λ _. (y, q, refl, record { base = home.2 ∙ sym known.0; entries = home.3; number = refl; begins = own.begins; turns = own.complete; room = room })),
          λ ne. absurd (ne same),
        ),
      )

  pub claims : (slots id asked : ℕ) (me : Me (Option S) V) (b : B) (p : Part E) → me ≡ (Outside b (p ∷ []), []) → asked % 2 ≡ 0 → Allows Rule slots id me 0 (λ n. either (eqb n asked) (asked + 1) n) (Claims base_of entries_of (step slots 0 asked (asked + 1) none) me)
  claims slots id asked me b p is even =
      subst (λ (m : Me (Option S) V). Allows Rule slots id m 0 (λ n. either (eqb n asked) (asked + 1) n) (Claims base_of entries_of (step slots 0 asked (asked + 1) none) m)) (sym is)
      (λ s r deep at small. let n : ℕ = word_of r.busy (length r.history) in subst (ClaimStep slots id asked b p s.views s.homes) (sym r.words) (dite (ℕ_discrete n asked)
      (λ same. hit slots id asked b p s r.history r.made r.owner r.busy r.holder r.waiting r.awake r.waiting_is r.one_awake r.words r.room r.few r.named r.home r.each_seat at even same (ap (λ (t : Bool). either t (asked + 1) n) (eq-eqb n asked same)))
      (λ ne. missed slots id asked b p s r at ne (ap (λ (t : Bool). either t (asked + 1) n) (ne_eqb n asked ne)))))

  abbrev SettleStep : ℕ → ℕ → ℕ → B → Part E → S → List V → List (maybe.Option (Option S)) → List ℕ → Type 0
  SettleStep slots id word b p y = Goes id 0 (Inside b p, (0, Some y) ∷ []) (λ _. word) (λ _. Settles entries_of (step slots 0 word 0 none) (Inside b p, (0, Some y) ∷ []) word)

  settled : (slots id word : ℕ) (b : B) (p : Part E) (y : S) (s : State (Option S) V) (history : List (ℕ × E)) (made : ℕ) (owner : ℕ → ℕ) (busy : Bool) (holder waiting awake : ℕ) → waiting ≡ (2 * waiters s.views + awake) % 2 ^ 64 → awake ≤ 1
      → length history ≤ 2 ^ 62 → made ≤ passes → ((k : ℕ) (x : ℕ × E) → get_elem? history k ≡ some x → x.0 < made) → IsHome base_of entries_of history base busy s.homes → ((j : ℕ) (v : V) → get_elem? s.views j ≡ some v → Knows history base made owner busy holder j v)
      → get_elem? s.views id ≡ some (Inside b p) → base_of y ≡ b → AddsAtMostOne (entries_in p.front) (entries_of y) → word ≡ 2 * length (entries_of y) → SettleStep slots id word b p y s.views s.homes (word_of busy (length history) ∷ waiting ∷ [])
  settled slots id word b p y s history made owner false holder waiting awake waiting_is one_awake room few named home each at same adds is = absurd (true≢false (sym (each id (Inside b p) at).2))
  settled slots id word b p y s history made owner true holder waiting awake waiting_is one_awake room few named home each at same (inl none_more) is =
      let known = each id (Inside b p) at in let whole : p.front ≡ history = known.4 in
      let now : grown p.number p.front (entries_of y) ≡ history = grown-none p.number p.front (entries_of y) none_more ∙ whole in
      let es : entries_of y ≡ entries_in history = none_more ∙ ap entries_in whole in
      let w : V = Outside b (part p.number (grown p.number p.front (entries_of y)) ∷ []) in
      subst (λ hs. SettleStep slots id word b p y s.views hs ((2 * length history + 1) ∷ waiting ∷ [])) (sym home) (
        w,
        gives,
        tt,
        record {
          history = history;
          made = made;
          owner = owner;
          busy = false;
          holder = id;
          waiting = waiting;
          awake = awake;
          waiting_is = as_many s.views id (Inside b p) w waiting awake at refl waiting_is;
          one_awake = one_awake;
          words = ap (λ n. n ∷ waiting ∷ []) (is ∙ ap (λ n. 2 * n) (ap length es ∙ length-map history entry_of));
          room = room;
          few = few;
          named = named;
          home = (y, refl, same ∙ known.0, es);
          held = λ z. absurd (true≢false (sym z));
          each_seat = each_after (Knows history base made owner false id) s.views id w
              (known.0, ArePartsOf-one history made owner id (part p.number (grown p.number p.front (entries_of y))) (subst (λ (l : List (ℕ × E)). IsPartOf history made owner id (part p.number l)) (sym now) (IsPartOf-whole history made owner id p.number known.1.numbered known.1.owned)))
              (λ j v ne e. unlocks history base made owner id j v ne (subst (λ (z : ℕ). Knows history base made owner true z j v) (sym known.3) (each j v e)));
        },
        refl,
      )
  settled slots id word b p y s history made owner true holder waiting awake waiting_is one_awake room few named home each at same (inr (small, (x, one_more))) is =
      let known = each id (Inside b p) at in let whole : p.front ≡ history = known.4 in let k : ℕ = p.number in
      let longer : List (ℕ × E) = history ++ (k, x) ∷ [] in
      let now : grown k p.front (entries_of y) ≡ longer = grown-one k p.front (entries_of y) x one_more ∙ ap (λ l. l ++ (k, x) ∷ []) whole in
      let es : entries_of y ≡ entries_in longer = sym (entries_in-grown k p.front (entries_of y) (inr (small, (x, one_more)))) ∙ ap entries_in now in
      let fits : length history < 2 ^ 62 = omega (arith, small, length-map p.front entry_of, ap length whole) in
      let w : V = Outside b (part k (grown k p.front (entries_of y)) ∷ []) in
      subst (λ hs. SettleStep slots id word b p y s.views hs ((2 * length history + 1) ∷ waiting ∷ [])) (sym home) (
        w,
        gives,
        tt,
        record {
          history = longer;
          made = made;
          owner = owner;
          busy = false;
          holder = id;
          waiting = waiting;
          awake = awake;
          waiting_is = as_many s.views id (Inside b p) w waiting awake at refl waiting_is;
          one_awake = one_awake;
          words = ap (λ n. n ∷ waiting ∷ []) (is ∙ ap (λ n. 2 * n) (ap length es ∙ length-map longer entry_of));
          room = omega (arith, fits, length-append history ((k, x) ∷ []));
          few = few;
          named = λ m z e. ⊎_elim (λ was. named m z was) (λ new. subst (λ (u : ℕ × E). u.0 < made) new known.1.numbered) (at_snoc history (k, x) z m e);
          home = (y, refl, same ∙ known.0, es);
          held = λ z. absurd (true≢false (sym z));
          each_seat = each_after (Knows longer base made owner false id) s.views id w
              (known.0, ArePartsOf-one longer made owner id (part k (grown k p.front (entries_of y))) (subst (λ (l : List (ℕ × E)). IsPartOf longer made owner id (part k l)) (sym now) (IsPartOf-whole longer made owner id k known.1.numbered known.1.owned)))
              (λ j v ne e. grows history base made owner id j k x v ne known.1.owned (subst (λ (z : ℕ). Knows history base made owner true z j v) (sym known.3) (each j v e)));
        },
        refl,
      )

  pub settles : (slots id word : ℕ) (me : Me (Option S) V) (b : B) (p : Part E) (y : S) → me ≡ (Inside b p, (0, Some y) ∷ []) → base_of y ≡ b → AddsAtMostOne (entries_in p.front) (entries_of y) → word ≡ 2 * length (entries_of y)
      → Allows Rule slots id me 0 (λ _. word) (λ _. Settles entries_of (step slots 0 word 0 none) me word)
  settles slots id word me b p y is same adds counted =
      subst (λ (m : Me (Option S) V). Allows Rule slots id m 0 (λ _. word) (λ _. Settles entries_of (step slots 0 word 0 none) m word)) (sym is)
      (λ s r deep at small. subst (SettleStep slots id word b p y s.views s.homes) (sym r.words) (settled slots id word b p y s r.history r.made r.owner r.busy r.holder r.waiting r.awake r.waiting_is r.one_awake r.room r.few r.named r.home r.each_seat at same adds counted))
