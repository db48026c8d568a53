-- who stands in the way of what is asked
use Rattle.std.proofs.Math.Dec.{T}
use Rattle.std.specs.Prelude.{cond, Bool, true, false, ◌&&◌, Option, None, Some, filter}
use Rattle.std.specs.List.{AllByRecursion}
use Rattle.std.specs.declared.cmp.Ordering.{Ordering}
use Rattle.std.specs.declared.cmp.Ordering.TheVariants.{Less, Equal, Greater}
use Rattle.std.specs.Ordering.{eq_by_cmp, ordering_reverse, is_eq, is_lt, is_gt}
use Rattle.std.specs.BTreeMap.Range.{IsLeBy}
use Rattle.std.specs.Cmp.{tied_itself}
use Rattle.std.specs.FinMap as map
use Rattle.std.specs.FinMap.{get-entries, entries_sorted, find as found}
use Rattle.std.specs.FinMap.Entries.{below_all}
use Rattle.std.proofs.Common.{◌≡◌, List, [], ◌∷◌, ◌++◌, refl, sym, ◌∙◌, ap, subst}
use Rattle.alp_base.specs.declared.ids.TransId.{TransId}
use Rattle.alp_base.specs.declared.key.Resource.{Resource}
use Rattle.alp_modes.specs.declared.Mode.{Mode}
use Rattle.alp_base.specs.Orders.{trans_cmp, resource_cmp, transactions_total, resources_total, exact_resources}
use Rattle.alp_files.specs.Holdings.{agree_held, DoAgree}
use Rattle.alp_files.proofs.HoldingLemmas.{agree-turned}
use Rattle.alp_files.specs.Locks.{Need}
use Rattle.alp_queue.specs.Rises.{Held, is_raised}
use Rattle.alp_locks.specs.Tables.{Holders, held_of, holding, IsAgreeing}
use Rattle.alp_locks.specs.Asks.{blocker, joined, risen}
use Rattle.alp_locks.specs.Laws.{IsClear, IsFirstInWay}
use Rattle.alp_locks.proofs.HeldLemmas.{tied}
use Rattle.alp_locks.proofs.FreeLemmas.{option-same, some-none, some-same}
use Rattle.alp_locks.proofs.HolderLemmas.{names-first}
use Rattle.alp_locks.proofs.SoundLemmas.{each-middle, each-filter}

-- ---- lists whose keys rise

left_of : (a b : Bool) → T (a && b) → T a
left_of true b h = tt
left_of false b h = absurd h

right_of : (a b : Bool) → T (a && b) → T b
right_of true b h = h
right_of false b h = absurd h

less : (o : Ordering) → T (is_lt o) → o ≡ Less
less Less h = refl
less Equal h = absurd h
less Greater h = absurd h

lt_less : (o : Ordering) → is_lt o ≡ true → o ≡ Less
lt_less Less h = refl
lt_less Equal h = cc
lt_less Greater h = cc

abbrev Sorted : List Need → Type 0
Sorted es = T (map.is_sorted resource_cmp es)

abbrev Below : Resource → List Need → Type 0
Below r es = T (below_all resource_cmp r es)

-- nothing is found below all keys
below_none : (r : Resource) (es : List Need) → Below r es → found resource_cmp r es ≡ None
below_none r [] h = refl
below_none r (e ∷ es) h =
    ap (λ (o : Ordering). cond (is_eq o) (Some e.1) (found resource_cmp r es)) (less (resource_cmp r e.0) (left_of (is_lt (resource_cmp r e.0)) (below_all resource_cmp r es) h))
    ∙ below_none r es (right_of (is_lt (resource_cmp r e.0)) (below_all resource_cmp r es) h)

below_less : (q r : Resource) (es : List Need) → resource_cmp q r ≡ Less → Below r es → Below q es
below_less q r [] p h = tt
below_less q r (e ∷ es) p h =
    go (resource_cmp q e.0) (resources_total.trans q r e.0 p (less (resource_cmp r e.0) (left_of (is_lt (resource_cmp r e.0)) (below_all resource_cmp r es) h)))
    (below_less q r es p (right_of (is_lt (resource_cmp r e.0)) (below_all resource_cmp r es) h))
  where
    go : (o : Ordering) → o ≡ Less → Below q es → T (is_lt o && below_all resource_cmp q es)
    go Less e t = t
    go Equal e t = cc
    go Greater e t = cc

-- each is found at its key
pub all_found : (es : List Need) → Sorted es → AllByRecursion (λ n. found resource_cmp n.0 es ≡ Some n.1) es
all_found [] h = tt
all_found (e ∷ es) h = (
  ap (λ (o : Ordering). cond (is_eq o) (Some e.1) (found resource_cmp e.0 es)) (tied_itself resources_total e.0),
  behind es (all_found es (right_of (below_all resource_cmp e.0 es) (map.is_sorted resource_cmp es) h)),
)
  where
    other : (n : Need) → found resource_cmp n.0 es ≡ Some n.1 → (b : Bool) → eq_by_cmp resource_cmp n.0 e.0 ≡ b → cond b (Some e.1) (found resource_cmp n.0 es) ≡ Some n.1
    other n at false same = at
    other n at true same =
        let it : n.0 ≡ e.0 = exact_resources n.0 e.0 (tied (resource_cmp n.0 e.0) same) in
        absurd (some-none n.1 (sym at ∙ ap (λ (r : Resource). found resource_cmp r es) it ∙ below_none e.0 es (left_of (below_all resource_cmp e.0 es) (map.is_sorted resource_cmp es) h)))

    behind : (ns : List Need) → AllByRecursion (λ n. found resource_cmp n.0 es ≡ Some n.1) ns → AllByRecursion (λ n. found resource_cmp n.0 (e ∷ es) ≡ Some n.1) ns
    behind [] t = tt
    behind (n ∷ ns) t = (other n t.0 (eq_by_cmp resource_cmp n.0 e.0) refl, behind ns t.1)

first_same : (x y : Need) (xs ys : List Need) → x ∷ xs ≡ y ∷ ys → x ≡ y
first_same x y xs ys e = cc

rest_same : (x y : Need) (xs ys : List Need) → x ∷ xs ≡ y ∷ ys → xs ≡ ys
rest_same x y xs ys e = cc

-- what passes at a lesser key than one that passes stands before it
stands_before : (P : Need → Type 0) (p : Need → Bool) (es : List Need) → Sorted es → (before : List Need) (n : Need) (after : List Need) → filter p es ≡ before ++ n ∷ after → AllByRecursion P before
    → (r : Resource) (m : Mode) → resource_cmp r n.0 ≡ Less → found resource_cmp r es ≡ Some m → p (r, m) ≡ true → P (r, m)
stands_before P p [] sorted before n after whole all r m less_is at passes = absurd (some-none m (sym at))
stands_before P p (e ∷ es) sorted before n after whole all r m less_is at passes =
    go (p e) refl (eq_by_cmp resource_cmp r e.0) refl before whole all at (λ b w k f. stands_before P p es (right_of (below_all resource_cmp e.0 es) (map.is_sorted resource_cmp es) sorted) b n after w k r m less_is f passes)
  where
    -- it is the first one
    same : eq_by_cmp resource_cmp r e.0 ≡ true → Some e.1 ≡ Some m → e ≡ (r, m)
    same is value = λ i. (sym (exact_resources r e.0 (tied (resource_cmp r e.0) is)) i, some-same e.1 m value i)

    go : (b : Bool) → p e ≡ b → (c : Bool) → eq_by_cmp resource_cmp r e.0 ≡ c → (bs : List Need) → cond b (e ∷ filter p es) (filter p es) ≡ bs ++ n ∷ after → AllByRecursion P bs
        → cond c (Some e.1) (found resource_cmp r es) ≡ Some m
        → ((xs : List Need) → filter p es ≡ xs ++ n ∷ after → AllByRecursion P xs → found resource_cmp r es ≡ Some m → P (r, m)) → P (r, m)
    go false not_yet true is bs w k f later = let wrong : true ≡ false = sym passes ∙ sym (ap p (same is f)) ∙ not_yet in cc
    go false not_yet false is bs w k f later = later bs w k f
    go true passed c is [] w k f later =
        let first : e ≡ n = first_same e n (filter p es) after w in
        let low : resource_cmp r e.0 ≡ Less = ap (λ (x : Need). resource_cmp r x.0) first ∙ less_is in
        let gone : found resource_cmp r (e ∷ es) ≡ None =
        ap (λ (o : Ordering). cond (is_eq o) (Some e.1) (found resource_cmp r es)) low ∙ below_none r es (below_less r e.0 es low (left_of (below_all resource_cmp e.0 es) (map.is_sorted resource_cmp es) sorted)) in
        absurd (some-none m (sym at ∙ gone))
    go true passed true is (x ∷ xs) w k f later =
        subst P (sym (first_same e x (filter p es) (xs ++ n ∷ after) w) ∙ same is f) k.0
    go true passed false is (x ∷ xs) w k f later =
        later xs (rest_same e x (filter p es) (xs ++ n ∷ after) w) k.1 f

-- ---- the first and least in the way of what is asked

-- the order of transactions, turned
no_greater : (a b : TransId) → (trans_cmp b a ≡ Less → ⊥) → IsLeBy trans_cmp a b
no_greater a b not_less = ap is_gt (transactions_total.antisymm a b) ∙ go (trans_cmp b a) not_less
  where
    go : (o : Ordering) → (o ≡ Less → ⊥) → is_gt (ordering_reverse o) ≡ false
    go Less no_less = absurd (no_less refl)
    go Equal no_less = refl
    go Greater no_less = refl

module _ (parts : Holders) (t : TransId) (asks : List Need) where
  -- what the asker would hold
  abbrev pub then_held : Held
  then_held = joined (held_of parts t) asks

  abbrev rising : List Need
  rising = risen (held_of parts t) asks

  -- another's lock does not agree with that
  abbrev pub Disagrees : Resource → TransId → Type 0
  Disagrees r u = (eq_by_cmp trans_cmp t u ≡ false) × (agree_held (holding parts u r) (map.get then_held r) ≡ false)

  pub record IsFirstOf (u : TransId) : Type 0 where
    pub on : Resource
    pub stands : Disagrees on u
    pub least : (v : TransId) → Disagrees on v → IsLeBy trans_cmp u v
    pub first : (r : Resource) (v : TransId) → is_lt (resource_cmp r on) ≡ true → Disagrees r v → ⊥

  -- what rises stands there then
  at_rising : (before : List Need) (n : Need) (after : List Need) → rising ≡ before ++ n ∷ after → map.get then_held n.0 ≡ Some n.1
  at_rising before n after whole =
      let es : List Need = map.entries then_held in
      let all : AllByRecursion (λ (x : Need). found resource_cmp x.0 es ≡ Some x.1) rising =
      each-filter (λ (x : Need). found resource_cmp x.0 es ≡ Some x.1) (is_raised (held_of parts t)) es (all_found es (entries_sorted then_held)) in
      get-entries then_held n.0 ∙ (each-middle (λ (x : Need). found resource_cmp x.0 es ≡ Some x.1) before n after (subst (AllByRecursion (λ (x : Need). found resource_cmp x.0 es ≡ Some x.1)) whole all)).0

  -- nobody is in the way on an earlier resource
  none_earlier : IsAgreeing parts → (u : TransId) (way : IsFirstInWay parts t rising u) (r : Resource) (v : TransId) → is_lt (resource_cmp r way.need.0) ≡ true → Disagrees r v → (x : Option Mode) → map.get then_held r ≡ x → ⊥
  none_earlier agreeing u way r v low d None at =
      let wrong : true ≡ false = sym (agree-turned (holding parts v r) None) ∙ ap (agree_held (holding parts v r)) (sym at) ∙ d.1 in cc
  none_earlier agreeing u way r v low d (Some m) at = go (is_raised (held_of parts t) (r, m)) refl
    where
      away : agree_held (holding parts v r) (Some m) ≡ false
      away = ap (agree_held (holding parts v r)) (sym at) ∙ d.1

      go : (b : Bool) → is_raised (held_of parts t) (r, m) ≡ b → ⊥
      go true e =
          stands_before (IsClear parts t) (is_raised (held_of parts t)) (map.entries then_held) (entries_sorted then_held) way.before way.need way.after way.whole way.clear r m
          (lt_less (resource_cmp r way.need.0) low) (sym (get-entries then_held r) ∙ at) e v (d.0, away)
      go false e =
          let own : holding parts t r ≡ Some m = option-same (holding parts t r) m e in
          let wrong : true ≡ false = sym (agreeing t v d.0 r) ∙ agree-turned (holding parts t r) (holding parts v r) ∙ ap (agree_held (holding parts v r)) own ∙ away in cc

  pub first_of : IsAgreeing parts → (u : TransId) → blocker parts t rising ≡ Some u → IsFirstOf u
  first_of agreeing u named =
      let way : IsFirstInWay parts t rising u = names-first parts t rising u named in
      let there : map.get then_held way.need.0 ≡ Some way.need.1 = at_rising way.before way.need way.after way.whole in
      record {
        on = way.need.0;
        stands = (way.inway.0, ap (agree_held (holding parts u way.need.0)) there ∙ way.inway.1);
        least = λ v d. no_greater u v (way.least v (d.0, sym (ap (agree_held (holding parts v way.need.0)) there) ∙ d.1));
        first = λ r v low d. none_earlier agreeing u way r v low d (map.get then_held r) refl;
      }

  -- where what the asker would hold agrees with all, nobody is in the way
  pub none_in_way : ((u : TransId) → eq_by_cmp trans_cmp t u ≡ false → DoAgree (map.get then_held) (holding parts u)) → blocker parts t rising ≡ None
  none_in_way agree = go (blocker parts t rising) refl
    where
      go : (x : Option TransId) → blocker parts t rising ≡ x → x ≡ None
      go None e = refl
      go (Some u) e =
          let way : IsFirstInWay parts t rising u = names-first parts t rising u e in
          let there : map.get then_held way.need.0 ≡ Some way.need.1 = at_rising way.before way.need way.after way.whole in
          let mine : Option Mode = map.get then_held way.need.0 in
          let theirs : Option Mode = holding parts u way.need.0 in
          let wrong : true ≡ false = sym (agree u way.inway.0 way.need.0) ∙ agree-turned mine theirs ∙ ap (agree_held theirs) there ∙ way.inway.1 in
          cc
