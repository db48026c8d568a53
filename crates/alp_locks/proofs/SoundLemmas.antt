-- the calls keep a table sound
use Rattle.std.proofs.Common.{◌≡◌, Bool, true, false, ◌&&◌, ◌||◌, not, cond, List, [], ◌∷◌, ◌++◌, Option, Some, None, is_none, filter, refl, sym, ap, subst, ◌∙◌}
use Rattle.std.specs.List.{AllByRecursion}
use Rattle.std.specs.Option.{unwrap_or}
use Rattle.std.specs.Ordering.{eq_by_cmp}
use Rattle.std.specs.FinMap as map
use Rattle.std.specs.FinMap.{get-empty, get-remove, get_tied}
use Rattle.std.proofs.lemmas.List.{append-nil, append_assoc}
use Rattle.alp_base.specs.declared.ids.TransId.{TransId}
use Rattle.alp_base.specs.declared.key.Resource.{Resource}
use Rattle.alp_base.specs.declared.choices.Choice.{Choice}
use Rattle.alp_base.specs.declared.choices.Choice.TheVariants.{Fail, Wait}
use Rattle.alp_modes.specs.declared.Mode.{Mode}
use Rattle.alp_base.specs.Orders.{trans_cmp, resource_cmp, transactions_total}
use Rattle.alp_files.specs.Holdings.{agree_held}
use Rattle.alp_files.proofs.HoldingLemmas.{agree-turned}
use Rattle.alp_queue.specs.Rises.{Held, is_raised}
use Rattle.alp_queue.specs.Order.{placed, waits, without, is_of}
use Rattle.alp_queue.specs.Conversions.{AreConversionsFirst}
use Rattle.alp_queue.proofs.FirstLemmas.{first-filter, first-placed, first-middle}
use Rattle.alp_queue.specs.declared.waiter.Waiter.{Waiter}
use Rattle.alp_locks.specs.declared.request.Request.{Request}
use Rattle.alp_locks.specs.Tables.{Holders, Table, held_of, holding, IsAgreeing}
use Rattle.alp_locks.specs.Asks.{blocker, risen, joined, waiter_of, in_way_of, with_granted, entered, with_waiter, refused, answered, asked}
use Rattle.alp_locks.specs.Releases.{is_free, with_woken, with_kept, walked, released}
use Rattle.alp_locks.specs.Sound.{IsPrepared, AreApart, IsSound}
use Rattle.alp_locks.proofs.FreeLemmas.{granted-agrees, insert-agreeing, held-other, held-same, turned}
use Rattle.alp_locks.proofs.HeldLemmas.{tied}

-- ---- facts of each of a list

pub each-more : {X : Type 0} (P Q : X → Type 0) → ((x : X) → P x → Q x) → (xs : List X) → AllByRecursion P xs → AllByRecursion Q xs
each-more P Q more [] h = tt
each-more P Q more (x ∷ xs) h = (more x h.0, each-more P Q more xs h.1)

pub each-both : {X : Type 0} (P Q S : X → Type 0) → ((x : X) → P x → Q x → S x) → (xs : List X) → AllByRecursion P xs → AllByRecursion Q xs → AllByRecursion S xs
each-both P Q S more [] h k = tt
each-both P Q S more (x ∷ xs) h k = (more x h.0 k.0, each-both P Q S more xs h.1 k.1)

-- of a list with one in the middle: that one, and the others
pub each-middle : {X : Type 0} (P : X → Type 0) (xs : List X) (y : X) (zs : List X) → AllByRecursion P (xs ++ y ∷ zs) → P y × AllByRecursion P (xs ++ zs)
each-middle P [] y zs h = h
each-middle P (x ∷ xs) y zs h = let rest = each-middle P xs y zs h.1 in (rest.0, (h.0, rest.1))

pub each-placed : (P : Waiter → Type 0) (ws : List Waiter) (w : Waiter) → AllByRecursion P ws → P w → AllByRecursion P (placed ws w)
each-placed P [] w h k = (k, tt)
each-placed P (x ∷ xs) w h k = go (w.converts && not x.converts) (each-placed P xs w h.1 k)
  where
    go : (b : Bool) → AllByRecursion P (placed xs w) → AllByRecursion P (cond b (w ∷ x ∷ xs) (x ∷ placed xs w))
    go true t = (k, h)
    go false t = (h.0, t)

pub each-filter : {X : Type 0} (P : X → Type 0) (p : X → Bool) (xs : List X) → AllByRecursion P xs → AllByRecursion P (filter p xs)
each-filter P p [] h = tt
each-filter P p (x ∷ xs) h = go (p x) (each-filter P p xs h.1)
  where
    go : (b : Bool) → AllByRecursion P (filter p xs) → AllByRecursion P (cond b (x ∷ filter p xs) (filter p xs))
    go true t = (h.0, t)
    go false t = t

pub passing : {X : Type 0} (p : X → Bool) (xs : List X) → AllByRecursion (λ x. p x ≡ true) (filter p xs)
passing p [] = tt
passing p (x ∷ xs) = go (p x) refl (passing p xs)
  where
    go : (b : Bool) → p x ≡ b → AllByRecursion (λ y. p y ≡ true) (filter p xs) → AllByRecursion (λ y. p y ≡ true) (cond b (x ∷ filter p xs) (filter p xs))
    go true e t = (e, t)
    go false e t = t

-- ---- waiters of several transactions

abbrev pub IsOther : TransId → Waiter → Type 0
IsOther t w = is_of t w ≡ false

left-false : (a b : Bool) → (a || b) ≡ false → a ≡ false
left-false true b e = cc
left-false false b e = refl

right-false : (a b : Bool) → (a || b) ≡ false → b ≡ false
right-false true b e = cc
right-false false b e = e

others-wait : (t : TransId) (ws : List Waiter) → waits ws t ≡ false → AllByRecursion (IsOther t) ws
others-wait t [] h = tt
others-wait t (w ∷ ws) h = (left-false (is_of t w) (waits ws t) h, others-wait t ws (right-false (is_of t w) (waits ws t) h))

pub apart-middle : (ks : List Waiter) (w : Waiter) (ws : List Waiter) → AreApart (ks ++ w ∷ ws) → AllByRecursion (IsOther w.trans) (ks ++ ws) × AreApart (ks ++ ws)
apart-middle [] w ws h = h
apart-middle (k ∷ ks) w ws h =
    let here = each-middle (IsOther k.trans) ks w ws h.0 in
    let rest = apart-middle ks w ws h.1 in
    ((turned k.trans w.trans false here.0, rest.0), (here.1, rest.1))

apart-placed : (ws : List Waiter) (w : Waiter) → AreApart ws → AllByRecursion (IsOther w.trans) ws → AreApart (placed ws w)
apart-placed [] w h k = (tt, tt)
apart-placed (x ∷ xs) w h k = go (w.converts && not x.converts) (apart-placed xs w h.1 k.1)
  where
    go : (b : Bool) → AreApart (placed xs w) → AreApart (cond b (w ∷ x ∷ xs) (x ∷ placed xs w))
    go true t = (k, h)
    go false t = (each-placed (IsOther x.trans) xs w h.0 (turned w.trans x.trans false k.0), t)

pub apart-filter : (p : Waiter → Bool) (ws : List Waiter) → AreApart ws → AreApart (filter p ws)
apart-filter p [] h = tt
apart-filter p (w ∷ ws) h = go (p w) (apart-filter p ws h.1)
  where
    go : (b : Bool) → AreApart (filter p ws) → AreApart (cond b (w ∷ filter p ws) (filter p ws))
    go true t = (each-filter (IsOther w.trans) p ws h.0, t)
    go false t = t

-- ---- who waits stays prepared where another's part changes

pub prepared-as : (holders after : Holders) (w : Waiter) → held_of after w.trans ≡ held_of holders w.trans → IsPrepared holders w → IsPrepared after w
prepared-as holders after w same h = h ∙ ap (λ (x : Held). waiter_of x w.trans w.needs) (sym same)

pub prepared-insert : (holders : Holders) (t : TransId) (after : Held) (ws : List Waiter) → AllByRecursion (IsPrepared holders) ws → AllByRecursion (IsOther t) ws → AllByRecursion (IsPrepared (map.insert holders t after)) ws
prepared-insert holders t after ws h k =
    each-both (IsPrepared holders) (IsOther t) (IsPrepared (map.insert holders t after))
    (λ w a b. prepared-as holders (map.insert holders t after) w (held-other holders t after w.trans (turned t w.trans false b)) a) ws h k

-- ---- the walk

none-is : {X : Type 0} (o : Option X) → is_none o ≡ true → o ≡ None
none-is None e = refl
none-is (Some x) e = cc

free-agreeing : (holders : Holders) (w : Waiter) → IsAgreeing holders → IsPrepared holders w → is_free holders w ≡ true → IsAgreeing (map.insert holders w.trans w.after)
free-agreeing holders w agreeing prepared free =
    insert-agreeing holders w.trans w.after agreeing (granted-agrees holders w.trans w.after agreeing
    (ap (blocker holders w.trans) (sym rises) ∙ none-is (blocker holders w.trans w.rises) free))
  where
    rises : w.rises ≡ filter (is_raised (held_of holders w.trans)) (map.entries w.after)
    rises = ap (λ (x : Waiter). x.rises) prepared ∙ ap (λ (x : Held). filter (is_raised (held_of holders w.trans)) (map.entries x)) (sym (ap (λ (x : Waiter). x.after) prepared))

walked-sound : (ws : List Waiter) (t : Table) → IsAgreeing t.held → AllByRecursion (IsPrepared t.held) (t.waiting ++ ws) → AreApart (t.waiting ++ ws) → AreConversionsFirst (t.waiting ++ ws) → IsSound (walked t ws)
walked-sound [] t agreeing prepared apart ordered = record {
  agreeing = agreeing;
  prepared = subst (AllByRecursion (IsPrepared t.held)) (append-nil t.waiting) prepared;
  apart = subst AreApart (append-nil t.waiting) apart;
  conversions = subst AreConversionsFirst (append-nil t.waiting) ordered;
}
walked-sound (w ∷ ws) t agreeing prepared apart ordered =
    go (is_free t.held w) refl (walked-sound ws (with_woken t w)) (walked-sound ws (with_kept t w))
  where
    mine : IsPrepared t.held w × AllByRecursion (IsPrepared t.held) (t.waiting ++ ws)
    mine = each-middle (IsPrepared t.held) t.waiting w ws prepared

    others : AllByRecursion (IsOther w.trans) (t.waiting ++ ws) × AreApart (t.waiting ++ ws)
    others = apart-middle t.waiting w ws apart

    kept : t.waiting ++ w ∷ ws ≡ (t.waiting ++ w ∷ []) ++ ws
    kept = sym (append_assoc t.waiting (w ∷ []) ws)

    go : (b : Bool) → is_free t.held w ≡ b
        → (IsAgreeing (map.insert t.held w.trans w.after) → AllByRecursion (IsPrepared (map.insert t.held w.trans w.after)) (t.waiting ++ ws) → AreApart (t.waiting ++ ws) → AreConversionsFirst (t.waiting ++ ws) → IsSound (walked (with_woken t w) ws))
        → (IsAgreeing t.held → AllByRecursion (IsPrepared t.held) ((t.waiting ++ w ∷ []) ++ ws) → AreApart ((t.waiting ++ w ∷ []) ++ ws) → AreConversionsFirst ((t.waiting ++ w ∷ []) ++ ws) → IsSound (walked (with_kept t w) ws))
        → IsSound (walked (cond b (with_woken t w) (with_kept t w)) ws)
    go true e woken kept_on = woken (free-agreeing t.held w agreeing mine.0 e) (prepared-insert t.held w.trans w.after (t.waiting ++ ws) mine.1 others.0) others.1 (first-middle t.waiting w ws ordered)
    go false e woken kept_on = kept_on agreeing (subst (AllByRecursion (IsPrepared t.held)) kept prepared) (subst AreApart kept apart) (subst AreConversionsFirst kept ordered)

-- ---- a release

pub held-removed : (holders : Holders) (t u : TransId) → eq_by_cmp trans_cmp u t ≡ false → held_of (map.remove holders t) u ≡ held_of holders u
held-removed holders t u apart = ap (λ (o : Option Held). unwrap_or o map.empty) (get-remove transactions_total holders t u ∙ ap (λ (b : Bool). cond b None (map.get holders u)) apart)

pub held-gone : (holders : Holders) (t u : TransId) → eq_by_cmp trans_cmp u t ≡ true → held_of (map.remove holders t) u ≡ map.empty
held-gone holders t u is = ap (λ (o : Option Held). unwrap_or o map.empty) (get-remove transactions_total holders t u ∙ ap (λ (b : Bool). cond b None (map.get holders u)) is)

none-agrees : (o : Option Mode) (r : Resource) → agree_held (map.get (map.empty {X = Mode} {R = resource_cmp}) r) o ≡ true
none-agrees o r = ap (λ x. agree_held x o) (get-empty resource_cmp r)

remove-agreeing : (holders : Holders) (t : TransId) → IsAgreeing holders → IsAgreeing (map.remove holders t)
remove-agreeing holders t agreeing x y apart r = go (eq_by_cmp trans_cmp x t) refl (eq_by_cmp trans_cmp y t) refl
  where
    go : (b : Bool) → eq_by_cmp trans_cmp x t ≡ b → (c : Bool) → eq_by_cmp trans_cmp y t ≡ c
        → agree_held (holding (map.remove holders t) x r) (holding (map.remove holders t) y r) ≡ true
    go true a c e =
        ap (λ h. agree_held (map.get h r) (holding (map.remove holders t) y r)) (held-gone holders t x a) ∙ none-agrees (holding (map.remove holders t) y r) r
    go false a true e =
        ap (λ h. agree_held (holding (map.remove holders t) x r) (map.get h r)) (held-gone holders t y e)
        ∙ agree-turned (holding (map.remove holders t) x r) (map.get map.empty r) ∙ none-agrees (holding (map.remove holders t) x r) r
    go false a false e =
        ap (λ h. agree_held (map.get h r) (holding (map.remove holders t) y r)) (held-removed holders t x a)
        ∙ ap (λ h. agree_held (holding holders x r) (map.get h r)) (held-removed holders t y e)
        ∙ agreeing x y apart r

pub not-true : (b : Bool) → not b ≡ true → b ≡ false
not-true true e = cc
not-true false e = refl

pub released-sound : (t : Table) (u : TransId) → IsSound t → IsSound (released t u)
released-sound t u s =
    walked-sound (without t.waiting u) (record { held = map.remove t.held u; waiting = []; woken = t.woken })
    (remove-agreeing t.held u s.agreeing)
    (each-both (IsPrepared t.held) (λ w. not (is_of u w) ≡ true) (IsPrepared (map.remove t.held u))
    (λ w a b. prepared-as t.held (map.remove t.held u) w (held-removed t.held u w.trans (turned u w.trans false (not-true (is_of u w) b))) a)
    (without t.waiting u) (each-filter (IsPrepared t.held) (λ w. not (is_of u w)) t.waiting s.prepared) (passing (λ w. not (is_of u w)) t.waiting))
    (apart-filter (λ w. not (is_of u w)) t.waiting s.apart) (first-filter (λ w. not (is_of u w)) t.waiting s.conversions)

-- ---- an ask

granted-sound : (t : Table) (u : TransId) (ns : List (Resource × Mode)) → IsSound t → waits t.waiting u ≡ false → in_way_of t.held u ns ≡ None
    → IsSound (with_granted t u (risen (held_of t.held u) ns) (joined (held_of t.held u) ns))
granted-sound t u ns s idle free = go (risen (held_of t.held u) ns)
  where
    go : (rises : List (Resource × Mode)) → IsSound (with_granted t u rises (joined (held_of t.held u) ns))
    go [] = s
    go (n ∷ rest) = record {
      agreeing = insert-agreeing t.held u (joined (held_of t.held u) ns) s.agreeing (granted-agrees t.held u (joined (held_of t.held u) ns) s.agreeing free);
      prepared = prepared-insert t.held u (joined (held_of t.held u) ns) t.waiting s.prepared (others-wait u t.waiting idle);
      apart = s.apart;
      conversions = s.conversions;
    }

-- a part that is named again holds what it held
pub again : (holders : Holders) (u v : TransId) → held_of (map.insert holders u (held_of holders u)) v ≡ held_of holders v
again holders u v = go (eq_by_cmp trans_cmp v u) refl
  where
    go : (b : Bool) → eq_by_cmp trans_cmp v u ≡ b → held_of (map.insert holders u (held_of holders u)) v ≡ held_of holders v
    go true a = held-same holders u (held_of holders u) v a ∙ ap (λ (o : Option Held). unwrap_or o map.empty) (get_tied transactions_total holders v u (tied (trans_cmp v u) a))
    go false a = held-other holders u (held_of holders u) v a

pub entered-sound : (t : Table) (u : TransId) → IsSound t → IsSound (entered t u)
entered-sound t u s = record {
  agreeing = λ x y apart r.
      ap (λ (h : Held). agree_held (map.get h r) (holding (entered t u).held y r)) (again t.held u x)
      ∙ ap (λ (h : Held). agree_held (holding t.held x r) (map.get h r)) (again t.held u y)
      ∙ s.agreeing x y apart r;
  prepared = each-more (IsPrepared t.held) (IsPrepared (entered t u).held) (λ w a. prepared-as t.held (entered t u).held w (again t.held u w.trans) a) t.waiting s.prepared;
  apart = s.apart;
  conversions = s.conversions;
}

queued-sound : (t : Table) (u : TransId) (ns : List (Resource × Mode)) → IsSound t → waits t.waiting u ≡ false → IsSound (with_waiter t (waiter_of (held_of t.held u) u ns))
queued-sound t u ns s idle =
    let here : IsSound (entered t u) = entered-sound t u s in
    record {
      agreeing = here.agreeing;
      prepared = each-placed (IsPrepared (entered t u).held) t.waiting (waiter_of (held_of t.held u) u ns) here.prepared (ap (λ (h : Held). waiter_of h u ns) (sym (again t.held u u)));
      apart = apart-placed t.waiting (waiter_of (held_of t.held u) u ns) s.apart (others-wait u t.waiting idle);
      conversions = first-placed t.waiting (waiter_of (held_of t.held u) u ns) s.conversions;
    }

refused-sound : (t : Table) (u : TransId) (ns : List (Resource × Mode)) (choice : Choice) → IsSound t → waits t.waiting u ≡ false → IsSound (refused t (waiter_of (held_of t.held u) u ns) choice)
refused-sound t u ns Fail s idle = s
refused-sound t u ns Wait s idle = queued-sound t u ns s idle

pub asked-sound : (t : Table) (q : Request) → waits t.waiting q.trans ≡ false → IsSound t → IsSound (asked t q)
asked-sound t q idle s = go (in_way_of t.held q.trans q.needs) refl
  where
    go : (o : Option TransId) → in_way_of t.held q.trans q.needs ≡ o → IsSound (answered t (waiter_of (held_of t.held q.trans) q.trans q.needs) o q.choice)
    go None free = granted-sound t q.trans q.needs s idle free
    go (Some u) inway = refused-sound t q.trans q.needs q.choice s idle

pub new-sound : IsSound (record { held = map.empty; waiting = []; woken = [] })
new-sound = record {
  agreeing = λ x y apart r.
      ap (λ (o : Option Held). agree_held (map.get (unwrap_or o map.empty) r) (holding map.empty y r)) (get-empty trans_cmp x) ∙ none-agrees (holding map.empty y r) r;
  prepared = tt;
  apart = tt;
  conversions = tt;
}

-- ---- the same, said of what a body has in hand

-- what is made ready by what the transaction holds is prepared
pub made-prepared : (holders : Holders) (u : TransId) (ns : List (Resource × Mode)) (w : Waiter) → w ≡ waiter_of (held_of holders u) u ns → IsPrepared holders w
made-prepared holders u ns w is = subst (IsPrepared holders) (sym is) refl

-- and it stays so where a transaction enters
pub entered-prepared : (t : Table) (u : TransId) (w : Waiter) → IsPrepared t.held w → IsPrepared (entered t u).held w
entered-prepared t u w h = prepared-as t.held (entered t u).held w (again t.held u w.trans) h

-- who stands in its way stands in the way of the needs
pub prepared-way : (holders : Holders) (w : Waiter) → IsPrepared holders w → blocker holders w.trans w.rises ≡ in_way_of holders w.trans w.needs
prepared-way holders w h = ap (λ (x : Waiter). blocker holders w.trans x.rises) h

pub grant-sound : (t : Table) (w : Waiter) → IsPrepared t.held w → IsSound t → blocker t.held w.trans w.rises ≡ None → waits t.waiting w.trans ≡ false
    → IsSound (with_granted t w.trans w.rises w.after)
grant-sound t w prepared s free idle =
    let P : Waiter → Type 0 = λ x. blocker t.held w.trans x.rises ≡ None → IsSound (with_granted t w.trans x.rises x.after) in
    subst P (sym prepared) (granted-sound t w.trans w.needs s idle) free

pub refuse-sound : (t : Table) (w : Waiter) (choice : Choice) → IsPrepared t.held w → IsSound t → waits t.waiting w.trans ≡ false → IsSound (refused t w choice)
refuse-sound t w choice prepared s idle = subst (λ (x : Waiter). IsSound (refused t x choice)) (sym prepared) (refused-sound t w.trans w.needs choice s idle)

pub release-sound : (t : Table) (u : TransId) (holders : Holders) (ws : List Waiter) (after : Table) → holders ≡ map.remove t.held u → ws ≡ without t.waiting u
    → after ≡ walked (record { held = holders; waiting = []; woken = t.woken }) ws → IsSound t → IsSound after
release-sound t u holders ws after gone left is s =
    let P : Holders → Type 0 = λ p. IsSound (walked (record { held = p; waiting = []; woken = t.woken }) ws) in
    let Q : List Waiter → Type 0 = λ x. IsSound (walked (record { held = map.remove t.held u; waiting = []; woken = t.woken }) x) in
    subst IsSound (sym is) (subst P (sym gone) (subst Q (sym left) (released-sound t u s)))
