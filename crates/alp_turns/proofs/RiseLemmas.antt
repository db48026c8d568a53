-- where the mode of what is held rises
use Rattle.std.specs.Prelude.{cond, Bool, true, false, not, ◌==◌, ◌&&◌, ◌||◌, Option, None, Some, is_some}
use Rattle.std.specs.Option.{option_eq}
use Rattle.std.specs.List.{AllByRecursion, list_any}
use Rattle.std.specs.Ordering.{eq_by_cmp}
use Rattle.std.specs.FinMap as map
use Rattle.std.specs.FinMap.{get-entries, entries_sorted, find as found}
use Rattle.std.proofs.Common.{◌≡◌, List, [], ◌∷◌, length, refl, sym, ◌∙◌, ap, subst, arith}
use Rattle.std.proofs.lemmas.Bool.{ne_eqb}
use Rattle.alp_base.specs.declared.key.Resource.{Resource}
use Rattle.alp_modes.specs.declared.Mode.{Mode}
use Rattle.alp_modes.specs.declared.Mode.TheVariants.{IntendRead, IntendWrite, Read, Update, ReadIntendWrite, Write}
use Rattle.alp_modes.specs.Modes.{covers_of}
use Rattle.alp_modes.specs.contracts.ModePartialEq.TheImpl as mode_eq
use Rattle.alp_modes.proofs.ModeLemmas.{join_by_cases}
use Rattle.alp_base.specs.Orders.{resource_cmp, resources_total, exact_resources}
use Rattle.alp_files.specs.Holdings.{join_held, covers_held, held_by}
use Rattle.alp_files.proofs.CoverLemmas.{left-above, right-above}
use Rattle.alp_files.proofs.HoldingLemmas.{join_held-assoc, none-right}
use Rattle.alp_files.specs.Locks.{Need}
use Rattle.alp_queue.specs.Rises.{Held, is_raised}
use Rattle.alp_locks.specs.Asks.{joined, risen}
use Rattle.alp_locks.proofs.HeldLemmas.{tied}
use Rattle.alp_locks.proofs.FreeLemmas.{at-risen, option-same}
use Rattle.alp_locks.proofs.LawLemmas.{joined-holds, join-none, no-rise}
use Rattle.alp_locks.proofs.SoundLemmas.{each-both, each-filter, each-more, passing}
use Rattle.std.specs.Cmp.{eq_by_cmp_equiv}
use Rattle.alp_turns.proofs.WayLemmas.{all_found}

-- each mode that would be left stands there then
all_joined : (h : Held) (ns : List Need) → AllByRecursion (λ (x : Need). map.get (joined h ns) x.0 ≡ Some x.1) (risen h ns)
all_joined h ns =
    each-filter (λ (x : Need). map.get (joined h ns) x.0 ≡ Some x.1) (is_raised h) (map.entries (joined h ns))
    (each-more (λ (x : Need). found resource_cmp x.0 (map.entries (joined h ns)) ≡ Some x.1) (λ (x : Need). map.get (joined h ns) x.0 ≡ Some x.1) (λ x at. get-entries (joined h ns) x.0 ∙ at) (map.entries (joined h ns))
    (all_found (map.entries (joined h ns)) (entries_sorted (joined h ns))))

raised_not : (h : Held) (n : Need) → map.get h n.0 ≡ Some n.1 → is_raised h n ≡ false
raised_not h n at = ap (λ (x : Option Mode). not (option_eq (mode_eq.ghosts).eq x (Some n.1))) at ∙ ap not (itself_mode n.1)
  where
    itself_mode : (m : Mode) → (mode_eq.ghosts).eq m m ≡ true
    itself_mode IntendRead = refl
    itself_mode IntendWrite = refl
    itself_mode Read = refl
    itself_mode Update = refl
    itself_mode ReadIntendWrite = refl
    itself_mode Write = refl

covers_own : (m : Mode) → covers_of m m ≡ true
unfolding covers_of
covers_own IntendRead = refl
covers_own IntendWrite = refl
covers_own Read = refl
covers_own Update = refl
covers_own ReadIntendWrite = refl
covers_own Write = refl

join_covered : (x : Option Mode) (m : Mode) → covers_held x m ≡ true → join_held x (Some m) ≡ x
join_covered None m h = cc
join_covered (Some b) m h = ap Some (join_by_cases b m ∙ ap (λ (e : Bool). cond {A = Mode} e b (cond {A = Mode} (covers_of m b) m ReadIntendWrite)) h)

pub not_empty : (n : Need) (ns : List Need) → (length (n ∷ ns) == 0) ≡ false
not_empty n ns = ne_eqb (length (n ∷ ns)) 0 (λ e. absurd (omega (arith, e)))

-- what is held covers each need
abbrev IsCoveredBy : Held → List Need → Type 0
IsCoveredBy h ns = AllByRecursion (λ (n : Need). covers_held (map.get h n.0) n.1 ≡ true) ns

abbrev rises : Held → Need → Bool
rises h n = not (covers_held (map.get h n.0) n.1)

module _ (h : Held) where
  any_covered : (ns : List Need) → list_any (rises h) ns ≡ false → IsCoveredBy h ns
  any_covered [] e = tt
  any_covered (n ∷ ns) e = go (covers_held (map.get h n.0) n.1) refl (any_covered ns) e
    where
      go : (b : Bool) → covers_held (map.get h n.0) n.1 ≡ b → (list_any (rises h) ns ≡ false → IsCoveredBy h ns) → (not b || list_any (rises h) ns) ≡ false → (covers_held (map.get h n.0) n.1 ≡ true) × IsCoveredBy h ns
      go true is rest e = (is, rest e)
      go false is rest e = cc

  covered_any : (ns : List Need) → IsCoveredBy h ns → list_any (rises h) ns ≡ false
  covered_any [] all = refl
  covered_any (n ∷ ns) all = ap (λ (b : Bool). not b || list_any (rises h) ns) all.0 ∙ covered_any ns all.1

  -- what is covered leaves what is held as it is
  covered_same : (ns : List Need) → IsCoveredBy h ns → (r : Resource) → join_held (map.get h r) (held_by ns r) ≡ map.get h r
  covered_same [] all r = none-right (map.get h r)
  covered_same (n ∷ ns) all r = go (eq_by_cmp resource_cmp r n.0) refl (covered_same ns all.1 r)
    where
      go : (b : Bool) → eq_by_cmp resource_cmp r n.0 ≡ b → join_held (map.get h r) (held_by ns r) ≡ map.get h r → join_held (map.get h r) (cond {A = Option Mode} b (join_held (Some n.1) (held_by ns r)) (held_by ns r)) ≡ map.get h r
      go true e rest =
          let there : covers_held (map.get h r) n.1 ≡ true = ap (λ (x : Resource). covers_held (map.get h x) n.1) (exact_resources r n.0 (tied (resource_cmp r n.0) e)) ∙ all.0 in
          sym (join_held-assoc (map.get h r) (Some n.1) (held_by ns r)) ∙ ap (λ (x : Option Mode). join_held x (held_by ns r)) (join_covered (map.get h r) n.1 there) ∙ rest
      go false e rest = rest

  pub none_risen : (ns : List Need) → IsCoveredBy h ns → (xs : List Need) → risen h ns ≡ xs → xs ≡ []
  none_risen ns all [] is = refl
  none_risen ns all (x ∷ xs) is =
      let at : map.get (joined h ns) x.0 ≡ Some x.1 = (subst (AllByRecursion (λ (y : Need). map.get (joined h ns) y.0 ≡ Some y.1)) is (all_joined h ns)).0 in
      let up : is_raised h x ≡ true = (subst (AllByRecursion (λ (y : Need). is_raised h y ≡ true)) is (passing (is_raised h) (map.entries (joined h ns)))).0 in
      let wrong : true ≡ false = sym up ∙ raised_not h x (sym (joined-holds ns h x.0 ∙ covered_same ns all x.0) ∙ at) in
      cc

  -- and what does not rise is covered
  covered_under : (ns : List Need) → ((r : Resource) (m : Mode) → covers_held (held_by ns r) m ≡ true → covers_held (map.get h r) m ≡ true) → IsCoveredBy h ns
  covered_under [] under = tt
  covered_under (n ∷ ns) under = (under n.0 n.1 own, covered_under ns (λ r m is. under r m (more r m (eq_by_cmp resource_cmp r n.0) is)))
    where
      own : covers_held (held_by (n ∷ ns) n.0) n.1 ≡ true
      own = ap (λ (b : Bool). covers_held (cond {A = Option Mode} b (join_held (Some n.1) (held_by ns n.0)) (held_by ns n.0)) n.1) ((eq_by_cmp_equiv resources_total).refl n.0) ∙ left-above (Some n.1) (held_by ns n.0) n.1 (covers_own n.1)

      more : (r : Resource) (m : Mode) (b : Bool) → covers_held (held_by ns r) m ≡ true → covers_held (cond {A = Option Mode} b (join_held (Some n.1) (held_by ns r)) (held_by ns r)) m ≡ true
      more r m true is = right-above (Some n.1) (held_by ns r) m is
      more r m false is = is

  covered_so : (ns : List Need) → risen h ns ≡ [] → IsCoveredBy h ns
  covered_so ns none = covered_under ns (λ r m is. subst (λ (x : Option Mode). covers_held x m ≡ true) (sym (joined-holds ns h r) ∙ no-rise h ns none r) (right-above (map.get h r) (held_by ns r) m is))

  -- a need rises just where what is held does not cover it
  pub rises_as : (ns : List Need) → list_any (rises h) ns ≡ not (length (risen h ns) == 0)
  rises_as ns = go (list_any (rises h) ns) refl (risen h ns) refl
    where
      go : (b : Bool) → list_any (rises h) ns ≡ b → (xs : List Need) → risen h ns ≡ xs → b ≡ not (length xs == 0)
      go false e [] is = refl
      go false e (x ∷ xs) is = (let wrong : x ∷ xs ≡ [] = none_risen ns (any_covered ns e) (x ∷ xs) is in cc)
      go true e [] is = (let wrong : true ≡ false = sym e ∙ covered_any ns (covered_so ns is) in cc)
      go true e (x ∷ xs) is = sym (ap not (not_empty x xs))

-- ---- whether a request converts

any_some : {X : Type 0} (p : X → Bool) (xs : List X) → list_any p xs ≡ false → AllByRecursion (λ (x : X). p x ≡ false) xs
any_some p [] e = tt
any_some {X} p (x ∷ xs) e = go (p x) refl e (any_some p xs)
  where
    go : (b : Bool) → p x ≡ b → (b || list_any p xs) ≡ false → (list_any p xs ≡ false → AllByRecursion (λ (y : X). p y ≡ false) xs) → (p x ≡ false) × AllByRecursion (λ (y : X). p y ≡ false) xs
    go true a f rest = cc
    go false a f rest = (a, rest f)

module _ (h : Held) where
  abbrev is_held : Need → Bool
  is_held n = is_some (map.get h n.0)

  -- a lock is held on a resource where it rises
  abbrev pub converts : Need → Bool
  converts n = rises h n && is_held n

  none_converts : (ns : List Need) → list_any is_held (risen h ns) ≡ false → AllByRecursion (λ (n : Need). converts n ≡ false) ns
  none_converts ns none = under ns (λ r m is. is)
    where
      -- on a resource where a lock is held nothing rises
      stays : (r : Resource) (a : Mode) → map.get h r ≡ Some a → map.get (joined h ns) r ≡ Some a
      stays r a at = go (map.get (joined h ns) r) refl
        where
          go : (x : Option Mode) → map.get (joined h ns) r ≡ x → x ≡ Some a
          go None e = let wrong : Some a ≡ None = sym at ∙ join-none (map.get h r) (held_by ns r) (sym (joined-holds ns h r) ∙ e) in cc
          go (Some m) e = split (is_raised h (r, m)) refl
            where
              split : (b : Bool) → is_raised h (r, m) ≡ b → Some m ≡ Some a
              split false f = sym (option-same (map.get h r) m f) ∙ at
              split true f =
                  let gone : is_some (map.get h r) ≡ false =
                  at-risen (λ (n : Need). is_held n ≡ false) (is_raised h) (map.entries (joined h ns)) (any_some is_held (risen h ns) none) r m (sym (get-entries (joined h ns) r) ∙ e) f in
                  let wrong : true ≡ false = sym (ap is_some at) ∙ gone in cc

      under : (ms : List Need) → ((r : Resource) (m : Mode) → covers_held (held_by ms r) m ≡ true → covers_held (held_by ns r) m ≡ true) → AllByRecursion (λ (n : Need). converts n ≡ false) ms
      under [] more = tt
      under (n ∷ ms) more = (here (map.get h n.0) refl, under ms (λ r m is. more r m (later r m (eq_by_cmp resource_cmp r n.0) is)))
        where
          asked : covers_held (held_by ns n.0) n.1 ≡ true
          asked = more n.0 n.1 (ap (λ (b : Bool). covers_held (cond {A = Option Mode} b (join_held (Some n.1) (held_by ms n.0)) (held_by ms n.0)) n.1) ((eq_by_cmp_equiv resources_total).refl n.0) ∙ left-above (Some n.1) (held_by ms n.0) n.1 (covers_own n.1))

          later : (r : Resource) (m : Mode) (b : Bool) → covers_held (held_by ms r) m ≡ true → covers_held (cond {A = Option Mode} b (join_held (Some n.1) (held_by ms r)) (held_by ms r)) m ≡ true
          later r m true is = right-above (Some n.1) (held_by ms r) m is
          later r m false is = is

          none_is : (b : Bool) → (b && false) ≡ false
          none_is true = refl
          none_is false = refl

          here : (x : Option Mode) → map.get h n.0 ≡ x → (not (covers_held (map.get h n.0) n.1) && is_some (map.get h n.0)) ≡ false
          here None at = ap (λ (x : Option Mode). not (covers_held (map.get h n.0) n.1) && is_some x) at ∙ none_is (not (covers_held (map.get h n.0) n.1))
          here (Some a) at =
              let over : covers_held (map.get h n.0) n.1 ≡ true =
              ap (λ (x : Option Mode). covers_held x n.1) (at ∙ sym (stays n.0 a at) ∙ joined-holds ns h n.0) ∙ right-above (map.get h n.0) (held_by ns n.0) n.1 asked in
              ap (λ (b : Bool). not b && is_some (map.get h n.0)) over

  -- where none converts, what rises is on resources where nothing was held
  none_held : (ns : List Need) → AllByRecursion (λ (n : Need). converts n ≡ false) ns → AllByRecursion (λ (n : Need). is_held n ≡ false) (risen h ns)
  none_held ns none = each-both (λ (x : Need). map.get (joined h ns) x.0 ≡ Some x.1) (λ (x : Need). is_raised h x ≡ true) (λ (x : Need). is_held x ≡ false) fresh (risen h ns) (all_joined h ns) (passing (is_raised h) (map.entries (joined h ns)))
    where
      adds_none : (r : Resource) (a : Mode) → map.get h r ≡ Some a → (ms : List Need) → AllByRecursion (λ (n : Need). converts n ≡ false) ms → join_held (map.get h r) (held_by ms r) ≡ map.get h r
      adds_none r a at [] all = none-right (map.get h r)
      adds_none r a at (n ∷ ms) all = go (eq_by_cmp resource_cmp r n.0) refl (adds_none r a at ms all.1)
        where
          unturned : (b : Bool) → (not b && true) ≡ false → b ≡ true
          unturned true e = refl
          unturned false e = cc

          go : (b : Bool) → eq_by_cmp resource_cmp r n.0 ≡ b → join_held (map.get h r) (held_by ms r) ≡ map.get h r
              → join_held (map.get h r) (cond {A = Option Mode} b (join_held (Some n.1) (held_by ms r)) (held_by ms r)) ≡ map.get h r
          go true e rest =
              let same : r ≡ n.0 = exact_resources r n.0 (tied (resource_cmp r n.0) e) in
              let here : map.get h n.0 ≡ Some a = ap (map.get h) (sym same) ∙ at in
              let over : covers_held (map.get h r) n.1 ≡ true =
              ap (λ (q : Resource). covers_held (map.get h q) n.1) same ∙ unturned (covers_held (map.get h n.0) n.1) (ap (λ (x : Option Mode). not (covers_held (map.get h n.0) n.1) && is_some x) (sym here) ∙ all.0) in
              sym (join_held-assoc (map.get h r) (Some n.1) (held_by ms r)) ∙ ap (λ (x : Option Mode). join_held x (held_by ms r)) (join_covered (map.get h r) n.1 over) ∙ rest
          go false e rest = rest

      fresh : (x : Need) → map.get (joined h ns) x.0 ≡ Some x.1 → is_raised h x ≡ true → is_held x ≡ false
      fresh x at up = go (map.get h x.0) refl
        where
          go : (y : Option Mode) → map.get h x.0 ≡ y → is_some y ≡ false
          go None e = refl
          go (Some a) e =
              let wrong : true ≡ false = sym up ∙ raised_not h x (sym (adds_none x.0 a e ns none) ∙ sym (joined-holds ns h x.0) ∙ at) in cc

  -- the table's request is a conversion just where a need is one
  pub converts_as : (ns : List Need) → list_any is_held (risen h ns) ≡ list_any converts ns
  converts_as ns = go (list_any is_held (risen h ns)) refl (list_any converts ns) refl
    where
      any_none : {X : Type 0} (p : X → Bool) (xs : List X) → AllByRecursion (λ (x : X). p x ≡ false) xs → list_any p xs ≡ false
      any_none p [] all = refl
      any_none p (x ∷ xs) all = ap (λ (b : Bool). b || list_any p xs) all.0 ∙ any_none p xs all.1

      go : (a : Bool) → list_any is_held (risen h ns) ≡ a → (b : Bool) → list_any converts ns ≡ b → a ≡ b
      go true e true f = refl
      go false e false f = refl
      go false e true f = let wrong : true ≡ false = sym f ∙ any_none converts ns (none_converts ns e) in cc
      go true e false f = let wrong : true ≡ false = sym e ∙ any_none is_held (risen h ns) (none_held ns (any_some converts ns f)) in cc
