-- Lists of passes: as they are dealt, and as they come back.
use Rattle.std.proofs.Common.{◌≡◌, ℕ, zero, suc, ◌+◌, ◌<◌, List, [], ◌∷◌, ◌++◌, length, map, Option, Some, None, refl, sym, ap, ◌∙◌, subst, ⊎_elim, arith, length-append}
use Rattle.std.specs.Prelude.{slice_get}
use mathlib.Core.Option.{some, some-ne-none, some-injective}
use mathlib.Core.List.{append_assoc}
use lib.ListN.{get_elem?}
use Rattle.atomic_table.specs.Table.{Me, Final, Seen}
use Rattle.atomic_table.specs.declared.shared.Seat.{Seat}
use Rattle.atomic_table.proofs.Lists.{at_last, at_longer, at_map}
use Rattle.alp_monitor.specs.History.{turns_of, part}
use Rattle.alp_monitor.specs.Rule.{IsInTurns}
use Rattle.alp_monitor.specs.Steps.{with_one_more, newcomer, both_of}
use Rattle.alp_monitor.specs.Passes.{first_part, base_in, first_base, IsPassOf, IsOutside, AreOutside, IsFresh, IsCounting, AreFresh, HasNumber, IsMadeBy}
use Rattle.alp_monitor.specs.declared.board.Part.{Part}
use Rattle.alp_monitor.specs.declared.board.View.{View}
use Rattle.alp_monitor.specs.declared.board.View.TheVariants.{Outside}
use Rattle.alp_monitor.specs.declared.monitor.Monitor.{Monitor}
use Rattle.alp_monitor.specs.declared.monitor.Pass.{Pass}
use Rattle.alp_monitor.proofs.Ends.{Ends, HasAll, at_end, ends}

module _ {A : Type 0} where
  -- the two ways to look an element up
  pub elem_from_get : (l : List A) (i : ℕ) (a : A) → slice_get l i ≡ Some a → get_elem? l i ≡ some a
  elem_from_get [] i a e = absurd (let f : None ≡ Some a = e in cc)
  elem_from_get (x ∷ xs) zero a e = ap some (let f : Some x ≡ Some a = e in cc)
  elem_from_get (x ∷ xs) (suc i) a e = elem_from_get xs i a e

  pub get_from_elem : (l : List A) (i : ℕ) (a : A) → get_elem? l i ≡ some a → slice_get l i ≡ Some a
  get_from_elem [] i a e = absurd (some-ne-none a (sym e))
  get_from_elem (x ∷ xs) zero a e = ap Some (some-injective x a e)
  get_from_elem (x ∷ xs) (suc i) a e = get_from_elem xs i a e

  pub from_map : {B : Type 0} (f : A → B) (l : List A) (i : ℕ) (b : B) → get_elem? (map f l) i ≡ some b → (a : A) × (slice_get l i ≡ Some a) × (f a ≡ b)
  from_map f [] i b e = absurd (some-ne-none b (sym e))
  from_map f (x ∷ xs) zero b e = (x, refl, some-injective (f x) b e)
  from_map f (x ∷ xs) (suc i) b e = from_map f xs i b e

module _ {S B E : Type 0} (base_of : S → B) where
  -- after n passes were made
  pub record Dealt (m : Monitor S B E) (founder : Seat (Option S) (View B E)) (n : ℕ) (made : List (Pass S B E)) : Type 0 where
    pub counts : IsCounting base_of m n founder
    pub len : length made ≡ n
    pub fresh : AreFresh base_of m made

  pub dealt_none : (m : Monitor S B E) (founder : Seat (Option S) (View B E)) (made : List (Pass S B E)) → IsCounting base_of m 0 founder → made ≡ [] → Dealt m founder 0 made
  dealt_none m founder made counts none = record { counts = counts; len = ap length none; fresh = λ k p e. absurd (some-ne-none p (sym (ap (λ l. get_elem? l k) (sym none) ∙ elem_from_get made k p e))) }

  fresh_pass : (m : Monitor S B E) (k : ℕ) (p : Pass S B E) → IsPassOf m p → p.seat.me ≡ (Outside (first_base base_of m) (part k [] ∷ []), []) → IsFresh base_of m k p
  fresh_pass m k p own is = record {
    own = own;
    outside = (first_base base_of m, part k [], is);
    base = ap (λ (z : Me (Option S) (View B E)). base_in z.0) is;
    number = ap (λ (z : Me (Option S) (View B E)). (first_part z.0).number) is;
    turns = ap (λ (z : Me (Option S) (View B E)). turns_of (first_part z.0).number (first_part z.0).front) is;
    front = ap (λ (z : Me (Option S) (View B E)). (first_part z.0).front) is;
  }

  pub dealt_more : (m : Monitor S B E) (founder founder' : Seat (Option S) (View B E)) (n : ℕ) (made made' : List (Pass S B E)) (pass : Pass S B E) → Dealt m founder n made → founder'.table_id ≡ founder.table_id → founder'.me ≡ (with_one_more founder.me.0, founder.me.1)
      → pass.seat.table_id ≡ founder.table_id → pass.seat.me ≡ (newcomer founder.me.0, []) → made' ≡ made ++ pass ∷ [] → Dealt m founder' (n + 1) made'
  dealt_more m founder founder' n made made' pass before own' counts' own is longer =
      let new : IsFresh base_of m n pass = fresh_pass m n pass (own ∙ before.counts.0) (is ∙ ap (λ (x : Me (Option S) (View B E)). (newcomer x.0, [])) before.counts.1) in record {
        counts = (own' ∙ before.counts.0, counts' ∙ ap (λ (x : Me (Option S) (View B E)). (with_one_more x.0, x.1)) before.counts.1);
        len = ap length longer ∙ (length-append made (pass ∷ []) ∙ ap (λ k. k + 1) before.len);
        fresh = λ k p e. ⊎_elim (λ was. before.fresh k p (get_from_elem made k p was)) (λ (t : (k ≡ length made) × (pass ≡ p)). subst (λ (x : ℕ × Pass S B E). IsFresh base_of m x.0 x.1) (λ i. ((sym before.len ∙ sym t.0) i, t.1 i)) new)
            (at_end made pass p k (ap (λ l. get_elem? l k) (sym longer) ∙ elem_from_get made' k p e));
      }

module _ {S B E : Type 0} where
  abbrev pub own_part : Pass S B E → Part E
  own_part p = first_part p.seat.me.0

  -- the seat that took in these passes
  abbrev pub IsKeeper : Me (Option S) (View B E) → B → List (Pass S B E) → Type 0
  IsKeeper me b taken = me ≡ (Outside b (map own_part taken), [])

  -- Of all passes the last ones, `taken`, were taken in, and the seat has them
  pub record Gathered (m : Monitor S B E) (keeper : Seat (Option S) (View B E)) (all left : List (Pass S B E)) : Type 0 where
    pub taken : List (Pass S B E)
    pub base : B
    pub table : keeper.table_id ≡ m.table.shared.table_id
    pub split : all ≡ left ++ taken
    pub keeper_is : IsKeeper keeper.me base taken

  at_seam : (all left taken : List (Pass S B E)) (p : Pass S B E) → all ≡ left ++ p ∷ taken → slice_get all (length left) ≡ Some p
  at_seam all left taken p e = get_from_elem all (length left) p (ap (λ l. get_elem? l (length left)) (e ∙ sym (append_assoc left (p ∷ []) taken)) ∙ at_longer (left ++ p ∷ []) taken (length left) p (at_last left p (length left) refl))

  pub gathered_one : (m : Monitor S B E) (all left : List (Pass S B E)) (p : Pass S B E) (keeper : Seat (Option S) (View B E)) → AreOutside m all → all ≡ left ++ p ∷ [] → keeper ≡ p.seat → Gathered m keeper all left
  gathered_one m all left p keeper own e is =
      let at = own (length left) p (at_seam all left [] p e) in let out = at.1 in record {
        taken = p ∷ [];
        base = out.0;
        table = ap (λ (z : Seat (Option S) (View B E)). z.table_id) is ∙ at.0;
        split = e;
        keeper_is = ap (λ (z : Seat (Option S) (View B E)). z.me) is ∙ (out.2 ∙ ap (λ (q : Part E). (Outside out.0 (q ∷ []), [])) (sym (ap (λ (z : Me (Option S) (View B E)). first_part z.0) out.2)));
      }

  -- the next pass that is taken in
  pub next_of : (m : Monitor S B E) (all left left' : List (Pass S B E)) (p : Pass S B E) (keeper : Seat (Option S) (View B E)) → AreOutside m all → Gathered m keeper all left → left ≡ left' ++ p ∷ [] → IsPassOf m p × IsOutside p
  next_of m all left left' p keeper own g e = own (length left') p (at_seam all left' g.taken p (g.split ∙ (ap (λ l. l ++ g.taken) e ∙ append_assoc left' (p ∷ []) g.taken)))

  pub gathered_more : (m : Monitor S B E) (all left left' : List (Pass S B E)) (p : Pass S B E) (keeper keeper' : Seat (Option S) (View B E)) → AreOutside m all → Gathered m keeper all left → left ≡ left' ++ p ∷ []
      → keeper'.table_id ≡ keeper.table_id → keeper'.me ≡ (both_of keeper.me.0 p.seat.me.0, keeper.me.1) → Gathered m keeper' all left'
  gathered_more m all left left' p keeper keeper' own g e own' is =
      let out = (next_of m all left left' p keeper own g e).1 in record {
        taken = p ∷ g.taken;
        base = g.base;
        table = own' ∙ g.table;
        split = g.split ∙ (ap (λ l. l ++ g.taken) e ∙ append_assoc left' (p ∷ []) g.taken);
        keeper_is = is ∙ ((λ i. (both_of (g.keeper_is i).0 (out.2 i).0, (g.keeper_is i).1)) ∙ ap (λ (q : Part E). (Outside g.base (q ∷ map own_part g.taken), [])) (sym (ap (λ (z : Me (Option S) (View B E)). first_part z.0) out.2)));
      }

  pub some_pass : (ps : List (Pass S B E)) (passes : ℕ) → 0 < passes → ((k : ℕ) → k < passes → HasNumber ps k) → 0 < length ps
  some_pass [] passes l all = let t = all 0 l in absurd (some-ne-none t.1 (sym (elem_from_get [] t.0 t.1 t.2)))
  some_pass (p ∷ ps) passes l all = omega arith

module _ {S B E : Type 0} (base_of : S → B) (entries_of : S → List E) (base : B) (passes : ℕ) where
  made_by : (ps : List (Pass S B E)) (y : S) → Ends base_of entries_of base passes (map own_part ps) y → IsMadeBy ps (entries_of y)
  made_by ps y end = record {
    history = end.history;
    told_is = end.told_is;
    fronts = λ i p e. end.begins i (own_part p) (at_map own_part ps i p (elem_from_get ps i p e));
    turns_are = λ i p e. end.complete i (own_part p) (at_map own_part ps i p (elem_from_get ps i p e));
    makers = λ k x e. let t = end.makers k x (elem_from_get end.history k x e) in let f = from_map own_part ps t.0 t.1 t.2 in (t.0, f.0, f.1, ap (λ (q : Part E). q.number) f.2 ∙ t.3);
    apart = λ i j p q e f same. end.apart i j (own_part p) (own_part q) (at_map own_part ps i p (elem_from_get ps i p e)) (at_map own_part ps j q (elem_from_get ps j q f)) same;
  }

  pub closes : (m : Monitor S B E) (keeper : Seat (Option S) (View B E)) (all left : List (Pass S B E)) (ws : List ℕ) (xs : List (Option S)) (x : Option S) → Gathered m keeper all left → left ≡ [] → ((k : ℕ) → k < passes → HasNumber all k)
      → Final (Seen (IsInTurns base_of entries_of base passes) keeper.id keeper.me.0) ws xs → get_elem? xs 0 ≡ some x → (y : S) × (x ≡ Some y) × (base_of y ≡ base) × IsMadeBy all (entries_of y)
  closes m keeper all left ws xs x g none has final at =
      let whole : all ≡ g.taken = g.split ∙ ap (λ l. l ++ g.taken) none in
      let is : keeper.me.0 ≡ Outside g.base (map own_part all) = ap (λ (z : Me (Option S) (View B E)). z.0) g.keeper_is ∙ ap (λ l. Outside g.base (map own_part l)) (sym whole) in
      let have : HasAll base_of entries_of base passes (map own_part all) = λ k l. let t = has k l in (t.0, own_part t.1, at_map own_part all t.0 t.1 (elem_from_get all t.0 t.1 t.2), t.3) in
      let t = ends base_of entries_of base passes keeper.id keeper.me.0 ws xs g.base (map own_part all) is final have in
      (t.0, some-injective x (Some t.0) (sym at ∙ t.1), t.2.base_is, made_by all t.0 t.2)

  pub same_state : (x : Option S) (ps : List (Pass S B E)) (state : S) → ((y : S) × (x ≡ Some y) × (base_of y ≡ base) × IsMadeBy ps (entries_of y)) → x ≡ Some state → (base_of state ≡ base) × IsMadeBy ps (entries_of state)
  same_state x ps state t e = let f : Some t.0 ≡ Some state = sym t.1 ∙ e in let same : t.0 ≡ state = cc in subst (λ (s : S). (base_of s ≡ base) × IsMadeBy ps (entries_of s)) same (t.2, t.3)
