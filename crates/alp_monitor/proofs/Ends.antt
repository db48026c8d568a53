-- How a monitor begins and ends: passes are made, and taken in, and the rule stays.
use Rattle.std.proofs.Common.{◌≡◌, ◌≢◌, ◌⊎◌, ℕ, zero, suc, ◌+◌, ◌*◌, ◌%◌, ◌^◌, ◌<◌, ◌≤◌, eqb, List, [], ◌∷◌, ◌++◌, length, set, Option, Some, Bool, true, false, true≢false, refl, sym, ap, ◌∙◌, subst, ⊎_elim, inl, inr, arith, length-set, eq-eqb, ne_eqb}
use Rattle.std.specs.Prelude.{if◌then◌else◌}
use mathlib.Core.Option.{some, some-ne-none, some-injective}
use mathlib.Core.List.{IsPrefix}
use lib.ListN.{get_elem?}
use Rattle.atomic_table.specs.Table.{State, opening, Splits, Joins, Final, Seen}
use Rattle.atomic_table.proofs.Lists.{at_longer, set_else}
use Rattle.alp_monitor.specs.History.{entries_in, turns_of, part}
use Rattle.alp_monitor.specs.Rule.{IsPartOf, ArePartsOf, Knows, IsHome, IsInTurns, founding, waiters}
use Rattle.alp_monitor.specs.Steps.{with_one_more, newcomer, both_of}
use Rattle.alp_monitor.specs.declared.board.Part.{Part}
use Rattle.alp_monitor.specs.declared.board.View.{View}
use Rattle.alp_monitor.specs.declared.board.View.TheVariants.{Spent, Founder, Outside, Waiting, Inside}
use Rattle.alp_monitor.proofs.Histories.{turns_from-unnamed}
use Rattle.alp_monitor.proofs.Rules.{each_after, ArePartsOf-one, as_many, waiters-snoc, outsider}

module _ {A : Type 0} where
  -- the place of an element of two lists in a row
  pub at_either : (xs ys : List A) (i : ℕ) (a : A) → get_elem? (xs ++ ys) i ≡ some a → (get_elem? xs i ≡ some a) ⊎ ((k : ℕ) × (i ≡ length xs + k) × (get_elem? ys k ≡ some a))
  at_either [] ys i a e = inr (i, omega arith, e)
  at_either (x ∷ xs) ys zero a e = inl e
  at_either (x ∷ xs) ys (suc i) a e = ⊎_elim inl (λ (t : (k : ℕ) × (i ≡ length xs + k) × (get_elem? ys k ≡ some a)). inr (t.0, ap suc t.1 ∙ omega arith, t.2)) (at_either xs ys i a e)

  pub at_end : (xs : List A) (a b : A) (i : ℕ) → get_elem? (xs ++ a ∷ []) i ≡ some b → (get_elem? xs i ≡ some b) ⊎ ((i ≡ length xs) × (a ≡ b))
  at_end [] a b zero e = inr (refl, some-injective a b e)
  at_end [] a b (suc i) e = absurd (some-ne-none b (sym e))
  at_end (x ∷ xs) a b zero e = inl e
  at_end (x ∷ xs) a b (suc i) e = ⊎_elim inl (λ (t : (i ≡ length xs) × (a ≡ b)). inr (ap suc t.0, t.1)) (at_end xs a b i e)

-- the seat `id` takes over what the seat `other` has
abbrev pub handed : (ℕ → ℕ) → ℕ → ℕ → ℕ → ℕ
handed owner other id k = if eqb (owner k) other then id else owner k

handed-taken : (owner : ℕ → ℕ) (other id k : ℕ) → owner k ≡ other → handed owner other id k ≡ id
handed-taken owner other id k e = ap (λ (b : Bool). if b then id else owner k) (eq-eqb (owner k) other e)

handed-left : (owner : ℕ → ℕ) (other id k : ℕ) → owner k ≢ other → handed owner other id k ≡ owner k
handed-left owner other id k ne = ap (λ (b : Bool). if b then id else owner k) (ne_eqb (owner k) other ne)

-- the seat j has the number n, which is new
abbrev pub given : (ℕ → ℕ) → ℕ → ℕ → ℕ → ℕ
given owner n j k = if eqb k n then j else owner k

given-new : (owner : ℕ → ℕ) (n j : ℕ) → given owner n j n ≡ j
given-new owner n j = ap (λ (b : Bool). if b then j else owner n) (eq-eqb n n refl)

given-old : (owner : ℕ → ℕ) (n j k : ℕ) → k ≢ n → given owner n j k ≡ owner k
given-old owner n j k ne = ap (λ (b : Bool). if b then j else owner k) (ne_eqb k n ne)

module _ {E : Type 0} (h : List (ℕ × E)) where
  -- a part stays one where the numbers have other seats, if its own stays
  regards : (made made' : ℕ) (owner owner' : ℕ → ℕ) (j j' : ℕ) (p : Part E) → made ≤ made' → (owner p.number ≡ j → owner' p.number ≡ j') → IsPartOf h made owner j p → IsPartOf h made' owner' j' p
  regards made made' owner owner' j j' p le moves ok = let small : p.number < made = ok.numbered in record { begins = ok.begins; complete = ok.complete; numbered = omega arith; owned = moves ok.owned }

  -- the parts of two seats together
  together : (made : ℕ) (owner : ℕ → ℕ) (id other : ℕ) (ps qs : List (Part E)) → other ≢ id → ArePartsOf h made owner id ps → ArePartsOf h made owner other qs → ArePartsOf h made (handed owner other id) id (qs ++ ps)
  together made owner id other ps qs ne ours theirs = record {
    each = λ i p e. ⊎_elim
        (λ first. regards made made owner (handed owner other id) other id p (omega arith) (handed-taken owner other id p.number) (theirs.each i p first))
        (λ (t : (k : ℕ) × (i ≡ length qs + k) × (get_elem? ps k ≡ some p)). regards made made owner (handed owner other id) id id p (omega arith) (λ o. handed-left owner other id p.number (λ z. ne (sym z ∙ o)) ∙ o) (ours.each t.0 p t.2))
        (at_either qs ps i p e);
    apart = λ i k p q e f same. ⊎_elim
        (λ first. ⊎_elim (λ second. theirs.apart i k p q first second same)
        (λ (u : (m : ℕ) × (k ≡ length qs + m) × (get_elem? ps m ≡ some q)). absurd (ne (sym (theirs.each i p first).owned ∙ (ap owner same ∙ (ours.each u.0 q u.2).owned)))) (at_either qs ps k q f))
        (λ (t : (m : ℕ) × (i ≡ length qs + m) × (get_elem? ps m ≡ some p)). ⊎_elim (λ second. absurd (ne (sym (theirs.each k q second).owned ∙ (ap owner (sym same) ∙ (ours.each t.0 p t.2).owned))))
        (λ (u : (m : ℕ) × (k ≡ length qs + m) × (get_elem? ps m ≡ some q)). t.1 ∙ (ap (λ n. length qs + n) (ours.apart t.0 u.0 p q t.2 u.2 same) ∙ sym u.1)) (at_either qs ps k q f))
        (at_either qs ps i p e);
  }

module _ {B E : Type 0} where
  -- what a seat knows stays, where the numbers of its parts stay with it
  still : (h : List (ℕ × E)) (base : B) (made made' : ℕ) (owner owner' : ℕ → ℕ) (busy : Bool) (holder j : ℕ) (v : View B E) → made ≤ made' → (j ≡ 0 → made ≡ made') → ((k : ℕ) → k < made → owner k ≡ j → owner' k ≡ j)
      → Knows h base made owner busy holder j v → Knows h base made' owner' busy holder j v
  still h base made made' owner owner' busy holder j Spent le founder moves known = known
  still h base made made' owner owner' busy holder j (Founder b n) le founder moves known = (known.0, known.1 ∙ founder known.2, known.2)
  still h base made made' owner owner' busy holder j (Outside b ps) le founder moves known = (known.0, record { each = λ i p e. let ok = known.1.each i p e in regards h made made' owner owner' j j p le (moves p.number ok.numbered) ok; apart = known.1.apart })
  still h base made made' owner owner' busy holder j (Waiting b p) le founder moves known = (known.0, regards h made made' owner owner' j j p le (moves p.number known.1.numbered) known.1)
  still h base made made' owner owner' busy holder j (Inside b p) le founder moves known = (known.0, regards h made made' owner owner' j j p le (moves p.number known.1.numbered) known.1, known.2, known.3, known.4)

module _ {S B E : Type 0} (base_of : S → B) (entries_of : S → List E) (base : B) (passes : ℕ) where
  abbrev Rule : State (Option S) (View B E) → Type 0
  Rule = IsInTurns base_of entries_of base passes

  pub founds : (ws : List ℕ) (xs : List (Option S)) (v : View B E) (y : S) → ws ≡ 0 ∷ 0 ∷ [] → xs ≡ Some y ∷ [] → v ≡ founding base → base_of y ≡ base → entries_of y ≡ [] → Rule (opening ws xs v)
  founds ws xs v y w x v_is b e = subst (λ (z : List ℕ × (List (Option S) × View B E)). Rule (opening z.0 z.1.0 z.1.1)) (λ i. (sym w i, (sym x i, sym v_is i))) record {
    history = [];
    made = 0;
    owner = λ k. 0;
    busy = false;
    holder = 0;
    waiting = 0;
    awake = 0;
    words = refl;
    waiting_is = refl;
    one_awake = omega arith;
    room = omega arith;
    few = omega arith;
    named = λ k z at. absurd (some-ne-none z (sym at));
    home = (y, refl, b, e);
    held = λ z. absurd (true≢false (sym z));
    each_seat = first;
  }
    where
      first : (j : ℕ) (u : View B E) → get_elem? (founding base ∷ []) j ≡ some u → Knows [] base 0 (λ k. 0) false 0 j u
      first zero u at = subst (Knows [] base 0 (λ k. 0) false 0 0) (some-injective _ _ at) (refl, refl, refl)
      first (suc j) u at = absurd (some-ne-none u (sym at))

  pub splits : (id : ℕ) (v : View B E) (b : B) (n : ℕ) → v ≡ Founder b n → n < passes → Splits Rule id v (with_one_more v) (newcomer v)
  splits id v b n is room = subst (λ (u : View B E). Splits Rule id u (with_one_more u) (newcomer u)) (sym is) (λ s r at.
      let known = r.each_seat id (Founder b n) at in let n_is : n ≡ r.made = known.1 in let made' : ℕ = r.made + 1 in let new : ℕ = length s.views in let owner' : ℕ → ℕ = given r.owner r.made new in
      let fresh : View B E = Outside b (part n [] ∷ []) in
      let vs' = set s.views id (Founder b (n + 1)) in let size : length vs' ≡ new = length-set s.views id (Founder b (n + 1)) in
      let K : ℕ → View B E → Type 0 = Knows r.history base made' owner' r.busy r.holder in
      record {
        history = r.history;
        made = made';
        owner = owner';
        busy = r.busy;
        holder = r.holder;
        waiting = r.waiting;
        awake = r.awake;
        words = r.words;
        waiting_is = as_many s.views id (Founder b n) (Founder b (n + 1)) r.waiting r.awake at refl r.waiting_is
            ∙ ap (λ (k : ℕ). (2 * k + r.awake) % 2 ^ 64) (let longer : waiters (vs' ++ fresh ∷ []) ≡ waiters vs' + 0 = waiters-snoc vs' fresh in let e : waiters vs' ≡ waiters (vs' ++ fresh ∷ []) = omega (arith, longer) in e);
        one_awake = r.one_awake;
        room = r.room;
        few = omega (arith, n_is);
        named = λ k x e. let l : x.0 < r.made = r.named k x e in omega arith;
        home = r.home;
        held = λ z. let t = r.held z in (t.0, t.1, at_longer vs' (fresh ∷ []) r.holder (Inside t.0 t.1) (set_else s.views id r.holder (Founder b (n + 1)) (outsider id r.holder s.views (Founder b n) t.0 t.1 refl at t.2) ∙ t.2));
        each_seat = λ j u e. ⊎_elim
            (λ was. each_after K s.views id (Founder b (n + 1)) (known.0, ap (λ (z : ℕ). z + 1) n_is, known.2)
            (λ i w ne q. still r.history base r.made made' r.owner owner' r.busy r.holder i w (omega arith) (λ z. absurd (ne (z ∙ sym known.2))) (λ k small o. given-old r.owner r.made new k (λ z. omega arith) ∙ o) (r.each_seat i w q)) j u was)
            (λ (t : (j ≡ length vs') × (fresh ≡ u)). subst (λ (z : ℕ × View B E). K z.0 z.1) (λ i. ((sym size ∙ sym t.0) i, t.1 i)) (
              known.0,
              ArePartsOf-one r.history made' owner' new (part n []) record {
                begins = (r.history, refl);
                complete = ap (λ k. turns_of k r.history) n_is ∙ turns_from-unnamed r.history 0 r.made r.named;
                numbered = omega (arith, n_is);
                owned = ap owner' n_is ∙ given-new r.owner r.made new;
              },
            ))
            (at_end vs' fresh u j e);
      })

  pub joins : (id other : ℕ) (v w : View B E) (b c : B) (ps qs : List (Part E)) → v ≡ Outside b ps → w ≡ Outside c qs → Joins Rule id v other w (both_of v w) Spent
  joins id other v w b c ps qs v_is w_is = subst (λ (u : View B E × View B E). Joins Rule id u.0 other u.1 (both_of u.0 u.1) Spent) (λ i. (sym v_is i, sym w_is i)) (λ s r at ne there.
      let both : View B E = Outside b (qs ++ ps) in let ours = r.each_seat id (Outside b ps) at in
      let there' : get_elem? s.views other ≡ some (Outside c qs) = sym (set_else s.views id other both ne) ∙ there in
      let theirs = r.each_seat other (Outside c qs) there' in
      let owner' : ℕ → ℕ = handed r.owner other id in let K : ℕ → View B E → Type 0 = Knows r.history base r.made owner' r.busy r.holder in
      record {
        history = r.history;
        made = r.made;
        owner = owner';
        busy = r.busy;
        holder = r.holder;
        waiting = r.waiting;
        awake = r.awake;
        words = r.words;
        waiting_is = as_many (set s.views id both) other (Outside c qs) Spent r.waiting r.awake there refl (as_many s.views id (Outside b ps) both r.waiting r.awake at refl r.waiting_is);
        one_awake = r.one_awake;
        room = r.room;
        few = r.few;
        named = r.named;
        home = r.home;
        held = λ z. let t = r.held z in (
          t.0,
          t.1,
          set_else (set s.views id both) other r.holder Spent (outsider other r.holder s.views (Outside c qs) t.0 t.1 refl there' t.2) ∙ (set_else s.views id r.holder both (outsider id r.holder s.views (Outside b ps) t.0 t.1 refl at t.2) ∙ t.2),
        );
        each_seat = each_after K (set s.views id both) other Spent tt (λ j u far e. each_after (λ i x. i ≢ other → K i x) s.views id both
            (λ _. (ours.0, together r.history r.made r.owner id other ps qs ne ours.1 theirs.1))
            (λ i x not_id q not_other. still r.history base r.made r.made r.owner owner' r.busy r.holder i x (omega arith) (λ _. refl) (λ k small o. handed-left r.owner other id k (λ z. not_other (sym o ∙ z)) ∙ o) (r.each_seat i x q)) j u e far);
      })

  -- the state at the end, where one seat has these parts
  pub record Ends (ps : List (Part E)) (y : S) : Type 0 where
    pub history : List (ℕ × E)
    pub base_is : base_of y ≡ base
    pub told_is : entries_in history ≡ entries_of y
    pub begins : (i : ℕ) (p : Part E) → get_elem? ps i ≡ some p → IsPrefix p.front history
    pub complete : (i : ℕ) (p : Part E) → get_elem? ps i ≡ some p → turns_of p.number history ≡ turns_of p.number p.front
    pub makers : (k : ℕ) (x : ℕ × E) → get_elem? history k ≡ some x → (i : ℕ) × (p : Part E) × (get_elem? ps i ≡ some p) × (p.number ≡ x.0)
    pub apart : (i k : ℕ) (p q : Part E) → get_elem? ps i ≡ some p → get_elem? ps k ≡ some q → p.number ≡ q.number → i ≡ k

  -- some part has each number
  abbrev pub HasAll : List (Part E) → Type 0
  HasAll ps = (k : ℕ) → k < passes → (i : ℕ) × (p : Part E) × (get_elem? ps i ≡ some p) × (p.number ≡ k)

  at_home : (id : ℕ) (b : B) (ps : List (Part E)) (s : State (Option S) (View B E)) (xs : List (Option S)) (history : List (ℕ × E)) (made : ℕ) (owner : ℕ → ℕ) (busy : Bool) (holder : ℕ) → made ≤ passes
      → IsHome base_of entries_of history base busy s.homes → ((k : ℕ) (x : ℕ × E) → get_elem? history k ≡ some x → x.0 < made) → ((j : ℕ) (v : View B E) → get_elem? s.views j ≡ some v → Knows history base made owner busy holder j v)
      → (busy ≡ true → (c : B) × (q : Part E) × (get_elem? s.views holder ≡ some (Inside c q))) → get_elem? s.views id ≡ some (Outside b ps) → HasAll ps → ((k : ℕ) (y : Option S) → get_elem? s.homes k ≡ some (some y) → get_elem? xs k ≡ some y)
      → (y : S) × (get_elem? xs 0 ≡ some (Some y)) × Ends ps y
  at_home id b ps s xs history made owner true holder few home named each held at all kept =
      let t = held refl in let theirs = each holder (Inside t.0 t.1) t.2 in
      let l : t.1.number < made = theirs.1.numbered in let one = all t.1.number (omega arith) in
      let o : owner one.1.number ≡ id = ((each id (Outside b ps) at).1.each one.0 one.1 one.2).owned in
      absurd (outsider id holder s.views (Outside b ps) t.0 t.1 refl at t.2 (sym theirs.1.owned ∙ (ap owner (sym one.3) ∙ o)))
  at_home id b ps s xs history made owner false holder few home named each held at all kept =
      let known = (each id (Outside b ps) at).1 in (
        home.0,
        kept 0 (Some home.0) (ap (λ l. get_elem? l 0) home.1),
        record {
          history = history;
          base_is = home.2;
          told_is = sym home.3;
          begins = λ i p e. (known.each i p e).begins;
          complete = λ i p e. (known.each i p e).complete;
          makers = λ k x e. all x.0 (let l : x.0 < made = named k x e in omega arith);
          apart = known.apart;
        },
      )

  pub ends : (id : ℕ) (v : View B E) (ws : List ℕ) (xs : List (Option S)) (b : B) (ps : List (Part E)) → v ≡ Outside b ps → Final (Seen Rule id v) ws xs → HasAll ps → (y : S) × (get_elem? xs 0 ≡ some (Some y)) × Ends ps y
  ends id v ws xs b ps is final all =
      let s = final.0 in let r = final.1.0 in
      at_home id b ps s xs r.history r.made r.owner r.busy r.holder r.few r.home r.named r.each_seat r.held (final.1.1 ∙ ap some is) all final.4
