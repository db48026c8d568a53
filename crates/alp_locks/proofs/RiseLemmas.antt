-- a plan looks at what is asked alone, and comes to what all that would be held comes to
use Rattle.std.proofs.Math.Dec.{T}
use Rattle.std.proofs.Common.{◌≡◌, Bool, true, false, ◌&&◌, ◌||◌, not, cond, List, [], ◌∷◌, Option, Some, None, filter, option_map, is_some, refl, sym, ap, ◌∙◌}
use Rattle.std.proofs.Common.{map as list_map}
use Rattle.std.specs.Option.{option_or, option_eq}
use Rattle.std.specs.declared.cmp.Ordering.{Ordering}
use Rattle.std.specs.declared.cmp.Ordering.TheVariants.{Less, Equal, Greater}
use Rattle.std.specs.Ordering.{eq_by_cmp, is_eq, is_lt}
use Rattle.std.specs.FinMap as map
use Rattle.std.specs.FinMap.{get-empty, get-entries, get_tied, entries_sorted, same_map, find}
use Rattle.std.specs.FinMap.Entries.{below_all, same_entries}
use Rattle.alp_base.specs.declared.ids.TransId.{TransId}
use Rattle.alp_base.specs.declared.key.Resource.{Resource}
use Rattle.alp_modes.specs.declared.Mode.{Mode}
use Rattle.alp_modes.specs.declared.Mode.TheVariants.{IntendRead, IntendWrite, Read, Update, ReadIntendWrite, Write}
use Rattle.alp_modes.specs.contracts.ModePartialEq.TheImpl as mode_eq
use Rattle.alp_base.specs.Orders.{resource_cmp, resources_total, exact_resources}
use Rattle.alp_files.specs.Holdings.{join_held, held_by}
use Rattle.alp_queue.specs.Rises.{Held, is_raised, wanted_of}
use Rattle.alp_queue.specs.declared.wanted.Wanted.{Wanted}
use Rattle.alp_queue.specs.declared.waiter.Waiter.{Waiter}
use Rattle.alp_locks.specs.Asks.{raised, joined, risen, is_conversion, waiter_of}
use Rattle.alp_locks.specs.Wanted.{is_rising, rising_in, wanted_in, is_converting}
use Rattle.alp_locks.proofs.HeldLemmas.{tied}
use Rattle.alp_locks.proofs.LawLemmas.{raised-joined, joined-holds, join-none}
use Rattle.alp_locks.proofs.FreeLemmas.{option-same}

-- ---- what passes in a list whose keys rise

first : (a b : Bool) → T (a && b) → T a
first true b h = tt
first false b h = absurd h

second : (a b : Bool) → T (a && b) → T b
second true b h = h
second false b h = absurd h

both : (a b : Bool) → T a → T b → T (a && b)
both true b p q = q
both false b p q = p

less : (o : Ordering) → T (is_lt o) → o ≡ Less
less Less h = refl
less Equal h = absurd h
less Greater h = absurd h

below-filter : (p : Resource × Mode → Bool) (k : Resource) (es : List (Resource × Mode)) → T (below_all resource_cmp k es) → T (below_all resource_cmp k (filter p es))
below-filter p k [] h = tt
below-filter p k (e ∷ es) h = go (p e) (below-filter p k es (second (is_lt (resource_cmp k e.0)) (below_all resource_cmp k es) h))
  where
    go : (b : Bool) → T (below_all resource_cmp k (filter p es)) → T (below_all resource_cmp k (cond b (e ∷ filter p es) (filter p es)))
    go true t = both (is_lt (resource_cmp k e.0)) (below_all resource_cmp k (filter p es)) (first (is_lt (resource_cmp k e.0)) (below_all resource_cmp k es) h) t
    go false t = t

filter-sorted : (p : Resource × Mode → Bool) (es : List (Resource × Mode)) → T (map.is_sorted resource_cmp es) → T (map.is_sorted resource_cmp (filter p es))
filter-sorted p [] h = tt
filter-sorted p (e ∷ es) h = go (p e) (filter-sorted p es (second (below_all resource_cmp e.0 es) (map.is_sorted resource_cmp es) h))
  where
    go : (b : Bool) → T (map.is_sorted resource_cmp (filter p es)) → T (map.is_sorted resource_cmp (cond b (e ∷ filter p es) (filter p es)))
    go true t = both (below_all resource_cmp e.0 (filter p es)) (map.is_sorted resource_cmp (filter p es)) (below-filter p e.0 es (first (below_all resource_cmp e.0 es) (map.is_sorted resource_cmp es) h)) t
    go false t = t

not-behind : (k : Resource) (es : List (Resource × Mode)) → T (below_all resource_cmp k es) → find resource_cmp k es ≡ None
not-behind k [] h = refl
not-behind k (e ∷ es) h =
    ap (λ (o : Ordering). cond (is_eq o) (Some e.1) (find resource_cmp k es)) (less (resource_cmp k e.0) (first (is_lt (resource_cmp k e.0)) (below_all resource_cmp k es) h))
    ∙ not-behind k es (second (is_lt (resource_cmp k e.0)) (below_all resource_cmp k es) h)

-- what stands at a key, where it passes
abbrev kept : (Resource × Mode → Bool) → Resource → Option Mode → Option Mode
kept p q None = None
kept p q (Some m) = cond (p (q, m)) (Some m) None

find-filter : (p : Resource × Mode → Bool) (q : Resource) (es : List (Resource × Mode)) → T (map.is_sorted resource_cmp es) → find resource_cmp q (filter p es) ≡ kept p q (find resource_cmp q es)
find-filter p q [] h = refl
find-filter p q (e ∷ es) h = go (eq_by_cmp resource_cmp q e.0) refl (p e) refl (find-filter p q es (second (below_all resource_cmp e.0 es) (map.is_sorted resource_cmp es) h))
  where
    same : eq_by_cmp resource_cmp q e.0 ≡ true → q ≡ e.0
    same a = exact_resources q e.0 (tied (resource_cmp q e.0) a)

    go : (a : Bool) → eq_by_cmp resource_cmp q e.0 ≡ a → (b : Bool) → p e ≡ b → find resource_cmp q (filter p es) ≡ kept p q (find resource_cmp q es)
        → find resource_cmp q (cond b (e ∷ filter p es) (filter p es)) ≡ kept p q (cond a (Some e.1) (find resource_cmp q es))
    go true a true b rest =
        ap (λ c. cond c (Some e.1) (find resource_cmp q (filter p es))) a
        ∙ sym (ap (λ c. cond c (Some e.1) None) (ap (λ k. p (k, e.1)) (same a) ∙ b))
    go true a false b rest =
        rest ∙ ap (kept p q) (ap (λ k. find resource_cmp k es) (same a) ∙ not-behind e.0 es (first (below_all resource_cmp e.0 es) (map.is_sorted resource_cmp es) h))
        ∙ sym (ap (λ c. cond c (Some e.1) None) (ap (λ k. p (k, e.1)) (same a) ∙ b))
    go false a true b rest = ap (λ c. cond c (Some e.1) (find resource_cmp q (filter p es))) a ∙ rest
    go false a false b rest = rest

-- ---- what is asked, each with the mode that a grant would leave

-- the modes that are asked, raised by what is held
abbrev over_held : Held → List (Resource × Mode) → List (Resource × Mode)
over_held held es = list_map (λ e. (e.0, raised (map.get held e.0) e.1)) es

below-over : (held : Held) (k : Resource) (es : List (Resource × Mode)) → T (below_all resource_cmp k es) → T (below_all resource_cmp k (over_held held es))
below-over held k [] h = tt
below-over held k (e ∷ es) h =
    both (is_lt (resource_cmp k e.0)) (below_all resource_cmp k (over_held held es)) (first (is_lt (resource_cmp k e.0)) (below_all resource_cmp k es) h)
    (below-over held k es (second (is_lt (resource_cmp k e.0)) (below_all resource_cmp k es) h))

over-sorted : (held : Held) (es : List (Resource × Mode)) → T (map.is_sorted resource_cmp es) → T (map.is_sorted resource_cmp (over_held held es))
over-sorted held [] h = tt
over-sorted held (e ∷ es) h =
    both (below_all resource_cmp e.0 (over_held held es)) (map.is_sorted resource_cmp (over_held held es))
    (below-over held e.0 es (first (below_all resource_cmp e.0 es) (map.is_sorted resource_cmp es) h)) (over-sorted held es (second (below_all resource_cmp e.0 es) (map.is_sorted resource_cmp es) h))

over-found : (held : Held) (q : Resource) (es : List (Resource × Mode)) → find resource_cmp q (over_held held es) ≡ option_map (raised (map.get held q)) (find resource_cmp q es)
over-found held q [] = refl
over-found held q (e ∷ es) = go (eq_by_cmp resource_cmp q e.0) refl (over-found held q es)
  where
    go : (b : Bool) → eq_by_cmp resource_cmp q e.0 ≡ b → find resource_cmp q (over_held held es) ≡ option_map (raised (map.get held q)) (find resource_cmp q es)
        → cond b (Some (raised (map.get held e.0) e.1)) (find resource_cmp q (over_held held es)) ≡ option_map (raised (map.get held q)) (cond b (Some e.1) (find resource_cmp q es))
    go true is h = ap (λ o. Some (raised o e.1)) (get_tied resources_total held q e.0 (tied (resource_cmp q e.0) is))
    go false is h = h

-- what rises of it is what rises of the modes
rising-over : (held : Held) (es : List (Resource × Mode)) → rising_in (list_map (wanted_of (map.get held)) es) ≡ filter (is_raised held) (over_held held es)
rising-over held [] = refl
rising-over held (e ∷ es) =
    ap (λ xs. cond (is_raised held (e.0, raised (map.get held e.0) e.1)) ((e.0, raised (map.get held e.0) e.1) ∷ xs) xs) (rising-over held es)

same-mode : (m : Mode) → (mode_eq.ghosts).eq m m ≡ true
same-mode IntendRead = refl
same-mode IntendWrite = refl
same-mode Read = refl
same-mode Update = refl
same-mode ReadIntendWrite = refl
same-mode Write = refl

-- what rises of what is asked is all that rises
pub rising-all : (held : Held) (ns : List (Resource × Mode)) → rising_in (wanted_in held ns) ≡ risen held ns
rising-all held ns =
    let asked : Held = joined map.empty ns in
    let es : List (Resource × Mode) = over_held held (map.entries asked) in
    let sorted : T (map.is_sorted resource_cmp es) = over-sorted held (map.entries asked) (entries_sorted asked) in
    rising-over held (map.entries asked)
    ∙ same_entries resource_cmp resources_total exact_resources (filter (is_raised held) es) (filter (is_raised held) (map.entries (joined held ns)))
    (filter-sorted (is_raised held) es sorted) (filter-sorted (is_raised held) (map.entries (joined held ns)) (entries_sorted (joined held ns)))
    (λ q. find-filter (is_raised held) q es sorted
    ∙ ap (kept (is_raised held) q) (over-found held q (map.entries asked) ∙ ap (option_map (raised (map.get held q))) (sym (get-entries asked q) ∙ joined-holds ns map.empty q ∙ ap (λ o. join_held o (held_by ns q)) (get-empty resource_cmp q)))
    ∙ alike q (held_by ns q) (map.get held q) refl
    ∙ sym (find-filter (is_raised held) q (map.entries (joined held ns)) (entries_sorted (joined held ns)) ∙ ap (kept (is_raised held) q) (sym (get-entries (joined held ns) q) ∙ joined-holds ns held q)))
  where
    alike : (q : Resource) (b h : Option Mode) → map.get held q ≡ h → kept (is_raised held) q (option_map (raised h) b) ≡ kept (is_raised held) q (join_held h b)
    alike q (Some x) h e = ap (kept (is_raised held) q) (raised-joined h x)
    alike q None None e = refl
    alike q None (Some v) e =
        sym (ap (λ o. cond (not (option_eq (mode_eq.ghosts).eq o (Some v))) (Some v) None) e ∙ ap (λ b. cond (not b) (Some v) None) (same-mode v))

pub risen-sorted : (held : Held) (ns : List (Resource × Mode)) → T (map.is_sorted resource_cmp (risen held ns))
risen-sorted held ns = filter-sorted (is_raised held) (map.entries (joined held ns)) (entries_sorted (joined held ns))

-- ---- what rises, in place of what is held, is all that a grant leaves

kept-over : (held : Held) (q : Resource) (x h : Option Mode) → map.get held q ≡ h → (x ≡ None → h ≡ None) → option_or (kept (is_raised held) q x) h ≡ x
kept-over held q None h is none = none refl
kept-over held q (Some v) h is none = go (is_raised held (q, v)) refl
  where
    go : (b : Bool) → is_raised held (q, v) ≡ b → option_or (cond b (Some v) None) h ≡ Some v
    go true e = refl
    go false e = sym is ∙ option-same (map.get held q) v e

pub all-after : (held after : Held) (ns : List (Resource × Mode)) → ((r : Resource) → map.get after r ≡ option_or (find resource_cmp r (risen held ns)) (map.get held r)) → after ≡ joined held ns
all-after held after ns over =
    same_map resources_total exact_resources after (joined held ns)
    (λ r. over r
    ∙ ap (λ o. option_or o (map.get held r))
    (find-filter (is_raised held) r (map.entries (joined held ns)) (entries_sorted (joined held ns)) ∙ ap (kept (is_raised held) r) (sym (get-entries (joined held ns) r)))
    ∙ kept-over held r (map.get (joined held ns) r) (map.get held r) refl (λ none. join-none (map.get held r) (held_by ns r) (sym (joined-holds ns held r) ∙ none)))

-- ---- a lock is held on one that rises just where that is said of what is asked

converts-as : (held : Held) (es : List (Resource × Mode)) → is_converting (list_map (wanted_of (map.get held)) es) ≡ is_conversion held (rising_in (list_map (wanted_of (map.get held)) es))
converts-as held [] = refl
converts-as held (e ∷ es) = go (is_rising (wanted_of (map.get held) e)) (converts-as held es)
  where
    ws : List Wanted
    ws = list_map (wanted_of (map.get held)) es

    go : (b : Bool) → is_converting ws ≡ is_conversion held (rising_in ws)
        → ((b && is_some (map.get held e.0)) || is_converting ws) ≡ is_conversion held (cond b ((e.0, raised (map.get held e.0) e.1) ∷ rising_in ws) (rising_in ws))
    go true h = ap (λ x. is_some (map.get held e.0) || x) h
    go false h = h

-- ---- what is made ready of the needs is the request as it would wait

pub planned : (held had : Held) (t : TransId) (ns : List (Resource × Mode)) (ws : List Wanted) (rises : List (Resource × Mode)) (after : Held) (turns : Bool)
    → held ≡ had → ws ≡ wanted_in held ns → rises ≡ rising_in ws
    → ((r : Resource) → map.get after r ≡ option_or (find resource_cmp r rises) (map.get held r)) → turns ≡ is_converting ws
    → ◌≡◌ {A = Waiter} (record { trans = t; needs = ns; rises = rises; after = after; converts = turns }) (waiter_of had t ns)
planned held had t ns ws rises after turns same is rise over turn =
    let all : rises ≡ risen held ns = rise ∙ ap rising_in is ∙ rising-all held ns in
    let turned : turns ≡ is_conversion held (risen held ns) =
    turn ∙ ap is_converting is ∙ converts-as held (map.entries (joined map.empty ns)) ∙ ap (is_conversion held) (rising-all held ns) in
    (λ i. record {
      trans = t;
      needs = ns;
      rises = all i;
      after = all-after held after ns (λ r. over r ∙ ap (λ xs. option_or (find resource_cmp r xs) (map.get held r)) all) i;
      converts = turned i;
    })
    ∙ ap (λ (h : Held). waiter_of h t ns) same
