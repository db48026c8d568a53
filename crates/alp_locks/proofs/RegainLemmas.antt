-- a transaction is given all locks of a list, as it held them before a restart
use Rattle.std.proofs.Math.Dec.{T}
use Rattle.std.proofs.Common.{◌≡◌, Bool, true, false, ◌&&◌, not, cond, List, [], ◌∷◌, Option, Some, None, is_some, is_none, refl, sym, ap, subst, ◌∙◌}
use Rattle.std.specs.List.{AllByRecursion}
use Rattle.std.specs.Option.{option_eq}
use Rattle.std.specs.declared.cmp.Ordering.{Ordering}
use Rattle.std.specs.declared.cmp.Ordering.TheVariants.{Less, Equal, Greater}
use Rattle.std.specs.Ordering.{eq_by_cmp, is_eq, is_lt}
use Rattle.std.specs.Cmp.{tied_itself}
use Rattle.std.specs.FinMap as map
use Rattle.std.specs.FinMap.{get-empty, get-entries, entries_sorted, same_map, find as found}
use Rattle.std.specs.FinMap.Entries.{below_all}
use Rattle.alp_base.specs.declared.ids.TransId.{TransId}
use Rattle.alp_base.specs.declared.key.Resource.{Resource}
use Rattle.alp_modes.specs.declared.Mode.{Mode}
use Rattle.alp_modes.specs.contracts.ModePartialEq.TheImpl as mode_eq
use Rattle.alp_base.specs.Orders.{trans_cmp, resource_cmp, resources_total, exact_resources}
use Rattle.alp_files.specs.Holdings.{DoAgree, agree_held, join_held, held_by}
use Rattle.alp_files.proofs.HoldingLemmas.{agree-turned}
use Rattle.alp_queue.specs.declared.waiter.Waiter.{Waiter}
use Rattle.alp_queue.specs.Order.{waits}
use Rattle.alp_queue.specs.Rises.{Held, is_raised}
use Rattle.alp_locks.specs.Tables.{Table, held_of, holding}
use Rattle.alp_locks.specs.Asks.{holder_on, entered, joined, risen, waiter_of, in_way_of, with_granted, with_regained}
use Rattle.alp_locks.specs.Laws.{AgreesUnless}
use Rattle.alp_locks.specs.Sound.{IsSound}
use Rattle.alp_locks.proofs.HeldLemmas.{held-none, insert-twice, tied}
use Rattle.alp_locks.proofs.FreeLemmas.{agrees-on, at-risen, clear-each, some-none}
use Rattle.alp_locks.proofs.SoundLemmas.{each-more, each-middle, each-filter, entered-sound, grant-sound}
use Rattle.alp_locks.proofs.LawLemmas.{insert-spread, joined-holds, no-rise}
use Rattle.alp_locks.proofs.HolderLemmas.{names-first}

-- ---- the entries of what is held

first-true : (a b : Bool) → T (a && b) → T a
first-true true b h = tt
first-true false b h = absurd h

second-true : (a b : Bool) → T (a && b) → T b
second-true true b h = h
second-true false b h = absurd h

less : (o : Ordering) → T (is_lt o) → o ≡ Less
less Less h = refl
less Equal h = absurd h
less Greater h = absurd h

below-none : (r : Resource) (es : List (Resource × Mode)) → T (below_all resource_cmp r es) → found resource_cmp r es ≡ None
below-none r [] h = refl
below-none r (e ∷ es) h =
    ap (λ (o : Ordering). cond (is_eq o) (Some e.1) (found resource_cmp r es)) (less (resource_cmp r e.0) (first-true (is_lt (resource_cmp r e.0)) (below_all resource_cmp r es) h))
    ∙ below-none r es (second-true (is_lt (resource_cmp r e.0)) (below_all resource_cmp r es) h)

each-found : (es : List (Resource × Mode)) → T (map.is_sorted resource_cmp es) → AllByRecursion (λ (n : Resource × Mode). found resource_cmp n.0 es ≡ Some n.1) es
each-found [] sorted = tt
each-found (e ∷ es) sorted = (
  ap (λ (o : Ordering). cond (is_eq o) (Some e.1) (found resource_cmp e.0 es)) (tied_itself resources_total e.0),
  each-more (λ (n : Resource × Mode). found resource_cmp n.0 es ≡ Some n.1) (λ (n : Resource × Mode). found resource_cmp n.0 (e ∷ es) ≡ Some n.1)
      (λ n here. behind n (eq_by_cmp resource_cmp n.0 e.0) refl here) es
      (each-found es (second-true (below_all resource_cmp e.0 es) (map.is_sorted resource_cmp es) sorted)),
)
  where
    behind : (n : Resource × Mode) (b : Bool) → eq_by_cmp resource_cmp n.0 e.0 ≡ b → found resource_cmp n.0 es ≡ Some n.1 → cond b (Some e.1) (found resource_cmp n.0 es) ≡ Some n.1
    behind n true same here =
        let is : n.0 ≡ e.0 = exact_resources n.0 e.0 (tied (resource_cmp n.0 e.0) same) in
        let gone : found resource_cmp n.0 es ≡ None =
        ap (λ (r : Resource). found resource_cmp r es) is ∙ below-none e.0 es (first-true (below_all resource_cmp e.0 es) (map.is_sorted resource_cmp es) sorted) in
        absurd (some-none n.1 (sym here ∙ gone))
    behind n false other here = here

each-entry : (h : Held) → AllByRecursion (λ (n : Resource × Mode). map.get h n.0 ≡ Some n.1) (map.entries h)
each-entry h =
    each-more (λ (n : Resource × Mode). found resource_cmp n.0 (map.entries h) ≡ Some n.1) (λ (n : Resource × Mode). map.get h n.0 ≡ Some n.1)
    (λ n here. get-entries h n.0 ∙ here) (map.entries h) (each-found (map.entries h) (entries_sorted h))

-- ---- what is left

module _ (t : Table) (u : TransId) (ns : List (Resource × Mode)) where
  granted-all : (rises : List (Resource × Mode)) → risen (held_of t.held u) ns ≡ rises → with_granted (entered t u) u rises (joined (held_of t.held u) ns) ≡ with_regained t u ns None
  granted-all [] none =
      let same : held_of t.held u ≡ joined (held_of t.held u) ns =
      same_map resources_total exact_resources (held_of t.held u) (joined (held_of t.held u) ns) (λ r. sym (no-rise (held_of t.held u) ns none r)) in
      λ i. record t { held = map.insert t.held u (same i) }
  granted-all (n ∷ rest) some = λ i. record t { held = insert-twice t.held u (held_of t.held u) (joined (held_of t.held u) ns) i }

  -- what is taken of a plan that was made before the transaction entered
  pub regained : (w : Waiter) → w ≡ waiter_of (held_of t.held u) u ns → with_granted (entered t u) w.trans w.rises w.after ≡ with_regained t u ns None
  regained w is =
      ap (λ (x : Waiter). with_granted (entered t u) x.trans x.rises x.after) is ∙ granted-all (risen (held_of t.held u) ns) refl

  -- what each holds then
  pub regained-holds : (holder : Option TransId) (v : TransId) (r : Resource)
      → holding (with_regained t u ns holder).held v r ≡ cond (eq_by_cmp trans_cmp v u && is_none holder) (join_held (holding t.held v r) (held_by ns r)) (holding t.held v r)
  regained-holds None v r = insert-spread t.held u v ns r ∙ go (eq_by_cmp trans_cmp v u)
    where
      go : (b : Bool) → cond b (join_held (holding t.held v r) (held_by ns r)) (holding t.held v r) ≡ cond (b && true) (join_held (holding t.held v r) (held_by ns r)) (holding t.held v r)
      go true = refl
      go false = refl
  regained-holds (Some w) v r = go (eq_by_cmp trans_cmp v u)
    where
      go : (b : Bool) → holding t.held v r ≡ cond (b && false) (join_held (holding t.held v r) (held_by ns r)) (holding t.held v r)
      go true = refl
      go false = refl

  -- where nobody stands in the way all agree
  pub regained-sound : waits t.waiting u ≡ false → in_way_of t.held u ns ≡ None → IsSound t → IsSound (with_regained t u ns None)
  regained-sound idle free sound = go (risen (held_of t.held u) ns) refl
    where
      all : IsSound (with_granted t u (risen (held_of t.held u) ns) (joined (held_of t.held u) ns))
      all = grant-sound t (waiter_of (held_of t.held u) u ns) refl sound free idle

      go : (rises : List (Resource × Mode)) → risen (held_of t.held u) ns ≡ rises → IsSound (with_regained t u ns None)
      go [] none = subst IsSound (granted-all [] none) (entered-sound t u sound)
      go (n ∷ rest) some = subst (λ (rises : List (Resource × Mode)). IsSound (with_granted t u rises (joined (held_of t.held u) ns))) some all

  -- ---- who is in the way of a transaction that is new

  module _ (unknown : is_some (map.get t.held u) ≡ false) where
    nothing : (r : Resource) → map.get (held_of t.held u) r ≡ None
    nothing r = ap (λ (h : Held). map.get h r) (held-none t.held u unknown) ∙ get-empty resource_cmp r

    all-asked : (r : Resource) → map.get (joined (held_of t.held u) ns) r ≡ held_by ns r
    all-asked r = joined-holds ns (held_of t.held u) r ∙ ap (λ (o : Option Mode). join_held o (held_by ns r)) (nothing r)

    agrees : in_way_of t.held u ns ≡ None → (v : TransId) → eq_by_cmp trans_cmp u v ≡ false → DoAgree (held_by ns) (holding t.held v)
    agrees free v other r = go (held_by ns r) refl
      where
        rises : (m : Mode) → is_raised (held_of t.held u) (r, m) ≡ true
        rises m = ap (λ (o : Option Mode). not (option_eq (mode_eq.ghosts).eq o (Some m))) (nothing r)

        go : (o : Option Mode) → held_by ns r ≡ o → agree_held o (holding t.held v r) ≡ true
        go None is = refl
        go (Some m) is =
            agree-turned (Some m) (holding t.held v r)
            ∙ agrees-on t.held u (r, m)
            (at-risen (λ (n : Resource × Mode). holder_on t.held u n ≡ None) (is_raised (held_of t.held u)) (map.entries (joined (held_of t.held u) ns))
            (clear-each t.held u (risen (held_of t.held u) ns) free) r m (sym (get-entries (joined (held_of t.held u) ns) r) ∙ all-asked r ∙ is) (rises m)) v other

    differs : (v : TransId) → in_way_of t.held u ns ≡ Some v → (eq_by_cmp trans_cmp u v ≡ false) × (DoAgree (held_by ns) (holding t.held v) → ⊥)
    differs v way =
        let it = names-first t.held u (risen (held_of t.held u) ns) v way in
        let here : map.get (joined (held_of t.held u) ns) it.need.0 ≡ Some it.need.1 =
        (each-middle (λ (n : Resource × Mode). map.get (joined (held_of t.held u) ns) n.0 ≡ Some n.1) it.before it.need it.after
        (subst (AllByRecursion (λ (n : Resource × Mode). map.get (joined (held_of t.held u) ns) n.0 ≡ Some n.1)) it.whole
        (each-filter (λ (n : Resource × Mode). map.get (joined (held_of t.held u) ns) n.0 ≡ Some n.1) (is_raised (held_of t.held u)) (map.entries (joined (held_of t.held u) ns))
        (each-entry (joined (held_of t.held u) ns))))).0 in (
          it.inway.0,
          λ agree.
              (let wrong : true ≡ false =
              sym (agree it.need.0)
              ∙ ap (λ (o : Option Mode). agree_held o (holding t.held v it.need.0)) (sym (all-asked it.need.0) ∙ here)
              ∙ agree-turned (Some it.need.1) (holding t.held v it.need.0) ∙ it.inway.1 in cc),
        )

    pub agrees-unless : (holder : Option TransId) → holder ≡ in_way_of t.held u ns → AgreesUnless t.held u ns holder
    agrees-unless None is = agrees (sym is)
    agrees-unless (Some v) is = differs v (sym is)
