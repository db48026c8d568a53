-- What a step tells of a pass, in the words of the clauses.
use Rattle.std.proofs.Common.{◌≡◌, ◌≢◌, ℕ, List, [], ◌∷◌, ◌++◌, length, map, drop, Option, Some, None, refl, sym, ap, ◌∙◌, subst}
use mathlib.Core.List.{IsPrefix}
use Rattle.atomic_table.specs.Table.{Me, rest}
use Rattle.alp_monitor.specs.History.{entries_in, turns_of, part, AddsAtMostOne}
use Rattle.alp_monitor.specs.Steps.{ClaimsFrom, SettlesFrom, WaitsFrom, ComesFrom, GoesIn, made_by, grown}
use Rattle.alp_monitor.specs.Passes.{first_part, base_in, base_of_pass, number, front, turns, IsOutside, IsSamePass, Enters}
use Rattle.alp_monitor.specs.declared.board.Part.{Part}
use Rattle.alp_monitor.specs.declared.board.View.{View}
use Rattle.alp_monitor.specs.declared.board.View.TheVariants.{Outside, Waiting, Inside}
use Rattle.alp_monitor.specs.declared.monitor.Pass.{Pass}
use Rattle.alp_monitor.proofs.Histories.{turns_of-own, grown-none, grown-one, entries_in-grown}

module _ {S B E : Type 0} (base_of : S → B) (entries_of : S → List E) where
  abbrev M : Type 0
  M = Me (Option S) (View B E)

  -- the pass is counted as waiting
  pub waits : (m now : M) (b : B) (p : Part E) → m ≡ (Outside b (p ∷ []), []) → WaitsFrom m.0 now → now ≡ (Waiting b p, [])
  waits m now b p is tells = subst (λ (n : M). WaitsFrom n.0 now) is tells

  -- and outside again
  pub comes_back : (m now : M) (b : B) (p : Part E) → m ≡ (Waiting b p, []) → ComesFrom m.0 now → now ≡ (Outside b (p ∷ []), [])
  comes_back m now b p is tells = subst (λ (n : M). ComesFrom n.0 now) is tells

  abbrev Won : B → Part E → M → Type 0
  Won b p now = (y : S) × (q : Part E) × (now ≡ (Inside b q, (0, Some y) ∷ [])) × GoesIn base_of entries_of b p y q

  -- the step succeeded: the pass is inside, with the state
  pub won : (m now : M) (asked found : ℕ) (b : B) (p : Part E) → m ≡ (Outside b (p ∷ []), []) → ClaimsFrom base_of entries_of asked m.0 found now → found ≡ asked → Won b p now
  won m now asked found b p is tells same = (subst (λ (n : M). ClaimsFrom base_of entries_of asked n.0 found now) is tells).0 same

  -- it failed: nothing happened to the pass
  pub lost : (m now : M) (asked found : ℕ) (b : B) (p : Part E) → m ≡ (Outside b (p ∷ []), []) → ClaimsFrom base_of entries_of asked m.0 found now → found ≢ asked → now ≡ m
  lost m now asked found b p is tells ne = (subst (λ (n : M). ClaimsFrom base_of entries_of asked n.0 found now) is tells).1 ne ∙ sym is

  abbrev first_or : Option S → List (ℕ × Option S) → Option S
  first_or d [] = d
  first_or d (x ∷ xs) = x.1

  -- the slot that such a pass holds
  pub holds : (now : M) (b : B) (p : Part E) → Won b p now → (x : Option S) × (now.1 ≡ (0, x) ∷ rest now.1)
  holds now b p w = let e : now.1 ≡ (0, Some w.0) ∷ [] = ap (λ (n : M). n.1) w.2 in (Some w.0, e ∙ ap (λ cs. (0, Some w.0) ∷ rest cs) (sym e))

  pub taken : (now : M) (b : B) (p : Part E) (x : Option S) (w : Won b p now) → now.1 ≡ (0, x) ∷ rest now.1 → x ≡ Some w.0
  taken now b p x w is = sym (ap (first_or x) is) ∙ ap (λ (n : M). first_or x n.1) w.2

  pub enters : (before now : Pass S B E) (m : M) (b : B) (p : Part E) (x : Option S) (state : S) → before.seat.me ≡ (Outside b (p ∷ []), []) → Won b p m → m.1 ≡ (0, x) ∷ rest m.1 → now.seat.me ≡ (m.0, (0, None) ∷ rest m.1) → x ≡ Some state
      → now.seat.table_id ≡ before.seat.table_id → Enters base_of entries_of before now state
  enters before now m b p x state was w slot is got own =
      let y : S = w.0 in let q : Part E = w.1 in let goes : GoesIn base_of entries_of b p y q = w.3 in
      let now_is : now.seat.me ≡ (Inside b q, (0, None) ∷ []) = is ∙ ap (λ (n : M). (n.0, (0, None) ∷ rest n.1)) w.2 in
      let t : x ≡ Some y = taken m b p x w slot in
      let same : y ≡ state = cc in
      let front_was : front before ≡ p.front = ap (λ (n : M). (first_part n.0).front) was in
      let front_is : front now ≡ q.front = ap (λ (n : M). (first_part n.0).front) now_is in
      let number_was : number before ≡ p.number = ap (λ (n : M). (first_part n.0).number) was in
      let number_is : number now ≡ p.number = ap (λ (n : M). (first_part n.0).number) now_is ∙ goes.number in
      let base_was : base_of_pass before ≡ Some b = ap (λ (n : M). base_in n.0) was in
      let base_is : base_of_pass now ≡ Some b = ap (λ (n : M). base_in n.0) now_is in
      record {
        same = record { table = own; number = number_is ∙ sym number_was; base = base_is ∙ sym base_was };
        inside = (b, q, now_is, goes.room);
        base = base_was ∙ ap Some (sym goes.base ∙ ap base_of same);
        entries = ap entries_of (sym same) ∙ (goes.entries ∙ ap entries_in (sym front_is));
        begins = subst (λ (l : List (ℕ × E) × List (ℕ × E)). IsPrefix l.0 l.1) (λ i. (sym front_was i, sym front_is i)) goes.begins;
        turns = (λ i. turns_of (number_is i) (front_is i)) ∙ (goes.turns ∙ (λ i. turns_of (sym number_was i) (sym front_was i)));
      }

  -- what a pass that leaves with the state knows
  pub record Leaves (before now : Pass S B E) (state : S) : Type 0 where
    pub same : IsSamePass before now
    pub outside : IsOutside now
    pub entries : entries_in (front now) ≡ entries_of state
    pub begins : IsPrefix (front before) (front now)
    pub none : entries_of state ≡ entries_in (front before) → front now ≡ front before
    pub entry : (e : E) → entries_of state ≡ entries_in (front before) ++ e ∷ [] → front now ≡ front before ++ (number before, e) ∷ []
    pub turn : (e : E) → entries_of state ≡ entries_in (front before) ++ e ∷ [] → turns now ≡ turns before ++ (length (front before), e) ∷ []

  -- what the clauses of `leave` say, at the part of the pass
  pub base_at : (pass : Pass S B E) (b : B) (p : Part E) (state : S) → pass.seat.me ≡ (Inside b p, (0, None) ∷ []) → base_of_pass pass ≡ Some (base_of state) → base_of state ≡ b
  base_at pass b p state is has = let e : Some b ≡ Some (base_of state) = sym (ap (λ (n : M). base_in n.0) is) ∙ has in cc

  pub adds_at : (pass : Pass S B E) (b : B) (p : Part E) (es : List E) → pass.seat.me ≡ (Inside b p, (0, None) ∷ []) → AddsAtMostOne (entries_in (front pass)) es → AddsAtMostOne (entries_in p.front) es
  adds_at pass b p es is adds = subst (λ (n : M). AddsAtMostOne (entries_in (first_part n.0).front) es) is adds

  pub brought : (before m : M) (b : B) (p : Part E) (state : S) → before ≡ (Inside b p, (0, None) ∷ []) → m ≡ (before.0, (0, Some state) ∷ rest before.1) → m ≡ (Inside b p, (0, Some state) ∷ [])
  brought before m b p state is put = put ∙ ap (λ (n : M). (n.0, (0, Some state) ∷ rest n.1)) is

  pub leaves : (before now : Pass S B E) (m home : M) (b : B) (p : Part E) (state : S) → before.seat.me ≡ (Inside b p, (0, None) ∷ []) → m ≡ (Inside b p, (0, Some state) ∷ []) → SettlesFrom entries_of m.0 m.1 home
      → AddsAtMostOne (entries_in p.front) (entries_of state) → now.seat.me ≡ home → now.seat.table_id ≡ before.seat.table_id → Leaves before now state
  leaves before now m home b p state was put tells adds same own =
      let longer : List (ℕ × E) = grown p.number p.front (entries_of state) in
      let now_is : now.seat.me ≡ (Outside b (part p.number longer ∷ []), []) = same ∙ subst (λ (n : M). SettlesFrom entries_of n.0 n.1 home) put tells in
      let front_was : front before ≡ p.front = ap (λ (n : M). (first_part n.0).front) was in
      let front_is : front now ≡ longer = ap (λ (n : M). (first_part n.0).front) now_is in
      let number_was : number before ≡ p.number = ap (λ (n : M). (first_part n.0).number) was in
      let number_is : number now ≡ p.number = ap (λ (n : M). (first_part n.0).number) now_is in
      let base_is : base_of_pass now ≡ base_of_pass before = ap (λ (n : M). base_in n.0) now_is ∙ sym (ap (λ (n : M). base_in n.0) was) in
      let one_more : (x : E) → entries_of state ≡ entries_in (front before) ++ x ∷ [] → longer ≡ p.front ++ (p.number, x) ∷ [] = λ x e. grown-one p.number p.front (entries_of state) x (e ∙ ap (λ l. entries_in l ++ x ∷ []) front_was) in
      record {
        same = record { table = own; number = number_is ∙ sym number_was; base = base_is };
        outside = (b, part p.number longer, now_is);
        entries = ap entries_in front_is ∙ entries_in-grown p.number p.front (entries_of state) adds;
        begins = subst (λ (l : List (ℕ × E) × List (ℕ × E)). IsPrefix l.0 l.1) (λ i. (sym front_was i, sym front_is i)) (map (made_by p.number) (drop (length p.front) (entries_of state)), refl);
        none = λ e. front_is ∙ (grown-none p.number p.front (entries_of state) (e ∙ ap entries_in front_was) ∙ sym front_was);
        entry = λ x e. front_is ∙ (one_more x e ∙ (λ i. sym front_was i ++ (sym number_was i, x) ∷ []));
        turn = λ x e. (λ i. turns_of (number_is i) (front_is i)) ∙ (ap (turns_of p.number) (one_more x e) ∙ (turns_of-own p.number p.front x ∙ (λ i. turns_of (sym number_was i) (sym front_was i) ++ (length (sym front_was i), x) ∷ [])));
      }
