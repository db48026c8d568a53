-- what a release means for who holds and who waits
use Rattle.std.proofs.Common.{◌≡◌, Bool, true, false, ◌&&◌, not, cond, List, [], ◌∷◌, ◌++◌, Option, Some, None, inl, inr, refl, sym, ap, subst, ◌∙◌}
use Rattle.std.specs.Prelude.{is_none, map as list_map}
use Rattle.std.specs.List.{AllByRecursion}
use Rattle.std.specs.Ordering.{eq_by_cmp}
use Rattle.std.specs.FinMap as map
use Rattle.std.specs.FinMap.{get-empty}
use Rattle.std.proofs.lemmas.List.{append-nil, append_assoc}
use Rattle.alp_base.specs.declared.ids.TransId.{TransId}
use Rattle.alp_base.specs.declared.key.Resource.{Resource}
use Rattle.alp_modes.specs.declared.Mode.{Mode}
use Rattle.alp_modes.specs.Modes.{agree, join_of}
use Rattle.alp_base.specs.Orders.{trans_cmp, resource_cmp}
use Rattle.alp_files.specs.Holdings.{agree_held, join_held, held_by}
use Rattle.alp_modes.proofs.ModeLemmas.{agreement-symmetric, agreement-joint}
use Rattle.alp_queue.specs.Rises.{Held}
use Rattle.alp_queue.specs.Order.{without, is_of}
use Rattle.alp_queue.specs.declared.waiter.Waiter.{Waiter}
use Rattle.alp_locks.specs.Tables.{Holders, Table, holding}
use Rattle.alp_locks.specs.Asks.{blocker}
use Rattle.alp_locks.specs.Releases.{is_free, with_woken, with_kept, walked, released}
use Rattle.alp_locks.specs.Sound.{IsPrepared, AreApart}
use Rattle.alp_locks.specs.Laws.{AreParted, ReleasesInOrder, LeavesNoneFree, ReleasesAlone, IsClear}
use Rattle.alp_locks.proofs.FreeLemmas.{held-other, turned}
use Rattle.alp_locks.proofs.LawLemmas.{all-of-waiter}
use Rattle.alp_locks.proofs.HolderLemmas.{names-first, names-any}
use Rattle.alp_locks.proofs.SoundLemmas.{each-more, each-both, each-middle, each-filter, passing, IsOther, apart-middle, apart-filter, prepared-as, prepared-insert, held-removed, held-gone, not-true}

-- ---- the walk grants some and keeps the others

record IsWalk (t : Table) (ws : List Waiter) (after : Table) : Type 0 where
  granted : List Waiter
  left : List Waiter
  parted : AreParted ws granted left
  waiting : after.waiting ≡ t.waiting ++ left
  woken : after.woken ≡ t.woken ++ list_map (λ w. w.trans) granted
  others : (v : TransId) (r : Resource) → AllByRecursion (λ w. eq_by_cmp trans_cmp v w.trans ≡ false) granted → holding after.held v r ≡ holding t.held v r

walk-on : (ws : List Waiter) (t : Table) → IsWalk t ws (walked t ws)
walk-on [] t = record { granted = []; left = []; parted = (refl, refl); waiting = sym (append-nil t.waiting); woken = sym (append-nil t.woken); others = λ v r all. refl }
walk-on (w ∷ ws) t = go (is_free t.held w) (walk-on ws (with_woken t w)) (walk-on ws (with_kept t w))
  where
    go : (b : Bool) → IsWalk (with_woken t w) ws (walked (with_woken t w) ws) → IsWalk (with_kept t w) ws (walked (with_kept t w) ws)
        → IsWalk t (w ∷ ws) (walked (cond b (with_woken t w) (with_kept t w)) ws)
    go true h k = record {
      granted = w ∷ h.granted;
      left = h.left;
      parted = inl (h.granted, refl, h.parted);
      waiting = h.waiting;
      woken = h.woken ∙ append_assoc t.woken (w.trans ∷ []) (list_map (λ x. x.trans) h.granted);
      others = λ v r all. h.others v r all.1 ∙ ap (λ (x : Held). map.get x r) (held-other t.held w.trans w.after v all.0);
    }
    go false h k = record {
      granted = k.granted;
      left = w ∷ k.left;
      parted = inr (k.left, refl, k.parted);
      waiting = k.waiting ∙ append_assoc t.waiting (w ∷ []) k.left;
      woken = k.woken;
      others = k.others;
    }

-- a part that goes leaves nothing, and the others as they were
pub removed-holds : (holders : Holders) (u v : TransId) (r : Resource) → holding (map.remove holders u) v r ≡ cond (eq_by_cmp trans_cmp v u) None (holding holders v r)
removed-holds holders u v r = go (eq_by_cmp trans_cmp v u) refl
  where
    go : (b : Bool) → eq_by_cmp trans_cmp v u ≡ b → holding (map.remove holders u) v r ≡ cond {A = Option Mode} b None (holding holders v r)
    go true is = ap (λ (x : Held). map.get x r) (held-gone holders u v is) ∙ get-empty resource_cmp r
    go false is = ap (λ (x : Held). map.get x r) (held-removed holders u v is)

pub releases-in-order : ReleasesInOrder
releases-in-order t u =
    let w : IsWalk (record { held = map.remove t.held u; waiting = []; woken = t.woken }) (without t.waiting u) (released t u) =
    walk-on (without t.waiting u) (record { held = map.remove t.held u; waiting = []; woken = t.woken }) in
    record {
      granted = w.granted;
      parted = subst (λ (left : List Waiter). AreParted (without t.waiting u) w.granted left) (sym w.waiting) w.parted;
      woken = w.woken;
      others = λ v r all. w.others v r all ∙ removed-holds t.held u v r;
    }

-- where nobody waits nobody is walked past
pub releases-alone : ReleasesAlone
releases-alone t u none =
    let gone : List Waiter → Table = λ ws. record { held = map.remove t.held u; waiting = ws; woken = t.woken } in
    ap (λ (ws : List Waiter). walked (gone []) (without ws u)) none ∙ ap gone (sym none)

-- ---- who is in the way stays there

still-away : (a c : Option Mode) (m : Mode) → agree_held a (Some m) ≡ false → agree_held (join_held a c) (Some m) ≡ false
still-away None c m h = let wrong : true ≡ false = h in cc
still-away (Some a) None m h = h
still-away (Some a) (Some c) m h =
    agreement-symmetric (join_of a c) m ∙ agreement-joint m a c ∙ ap (λ (b : Bool). b && agree m c) (agreement-symmetric m a ∙ h)

some-is : (o : Option TransId) → is_none o ≡ false → (x : TransId) × (o ≡ Some x)
some-is None e = cc
some-is (Some x) e = (x, refl)

none-is : (o : Option TransId) → is_none o ≡ true → o ≡ None
none-is None e = refl
none-is (Some x) e = cc

abbrev Blocked : Holders → Waiter → Type 0
Blocked holders w = is_free holders w ≡ false

still-blocked : (t : Table) (w v : Waiter) → IsPrepared t.held w → Blocked t.held v → Blocked (map.insert t.held w.trans w.after) v
still-blocked t w v prepared h = go (is_free (map.insert t.held w.trans w.after) v) refl
  where
    raised : (x : TransId) (r : Resource) (m : Mode) (b : Bool) → agree_held (holding t.held x r) (Some m) ≡ false
        → agree_held (cond b (join_held (holding t.held x r) (held_by w.needs r)) (holding t.held x r)) (Some m) ≡ false
    raised x r m true away = still-away (holding t.held x r) (held_by w.needs r) m away
    raised x r m false away = away

    go : (b : Bool) → is_free (map.insert t.held w.trans w.after) v ≡ b → b ≡ false
    go false e = refl
    go true e =
        let (x, is) = some-is (blocker t.held v.trans v.rises) h in
        let first = names-first t.held v.trans v.rises x is in
        let clear = names-any (map.insert t.held w.trans w.after) v.trans v.rises (none-is (blocker (map.insert t.held w.trans w.after) v.trans v.rises) e) in
        let here = (each-middle (IsClear (map.insert t.held w.trans w.after) v.trans) first.before first.need first.after
        (subst (AllByRecursion (IsClear (map.insert t.held w.trans w.after) v.trans)) first.whole clear)).0 in
        absurd (here x (
          first.inway.0,
          ap (λ (o : Option Mode). agree_held o (Some first.need.1)) (all-of-waiter t w x first.need.0 prepared)
              ∙ raised x first.need.0 first.need.1 (eq_by_cmp trans_cmp x w.trans) first.inway.1,
        ))

each-last : (P : Waiter → Type 0) (ws : List Waiter) (w : Waiter) → AllByRecursion P ws → P w → AllByRecursion P (ws ++ w ∷ [])
each-last P [] w h k = (k, tt)
each-last P (x ∷ ws) w h k = (h.0, each-last P ws w h.1 k)

walked-blocked : (ws : List Waiter) (t : Table) → AllByRecursion (IsPrepared t.held) (t.waiting ++ ws) → AreApart (t.waiting ++ ws) → AllByRecursion (Blocked t.held) t.waiting
    → AllByRecursion (Blocked (walked t ws).held) (walked t ws).waiting
walked-blocked [] t prepared apart blocked = blocked
walked-blocked (w ∷ ws) t prepared apart blocked =
    go (is_free t.held w) refl (walked-blocked ws (with_woken t w)) (walked-blocked ws (with_kept t w))
  where
    mine : IsPrepared t.held w × AllByRecursion (IsPrepared t.held) (t.waiting ++ ws)
    mine = each-middle (IsPrepared t.held) t.waiting w ws prepared

    others : AllByRecursion (IsOther w.trans) (t.waiting ++ ws) × AreApart (t.waiting ++ ws)
    others = apart-middle t.waiting w ws apart

    kept : t.waiting ++ w ∷ ws ≡ (t.waiting ++ w ∷ []) ++ ws
    kept = sym (append_assoc t.waiting (w ∷ []) ws)

    go : (b : Bool) → is_free t.held w ≡ b
        → (AllByRecursion (IsPrepared (map.insert t.held w.trans w.after)) (t.waiting ++ ws) → AreApart (t.waiting ++ ws) → AllByRecursion (Blocked (map.insert t.held w.trans w.after)) t.waiting
        → AllByRecursion (Blocked (walked (with_woken t w) ws).held) (walked (with_woken t w) ws).waiting)
        → (AllByRecursion (IsPrepared t.held) ((t.waiting ++ w ∷ []) ++ ws) → AreApart ((t.waiting ++ w ∷ []) ++ ws) → AllByRecursion (Blocked t.held) (t.waiting ++ w ∷ [])
        → AllByRecursion (Blocked (walked (with_kept t w) ws).held) (walked (with_kept t w) ws).waiting)
        → AllByRecursion (Blocked (walked (cond b (with_woken t w) (with_kept t w)) ws).held) (walked (cond b (with_woken t w) (with_kept t w)) ws).waiting
    go true e woken kept_on =
        woken (prepared-insert t.held w.trans w.after (t.waiting ++ ws) mine.1 others.0) others.1
        (each-more (Blocked t.held) (Blocked (map.insert t.held w.trans w.after)) (λ v b. still-blocked t w v mine.0 b) t.waiting blocked)
    go false e woken kept_on =
        kept_on (subst (AllByRecursion (IsPrepared t.held)) kept prepared) (subst AreApart kept apart) (each-last (Blocked t.held) t.waiting w blocked e)

pub leaves-none-free : LeavesNoneFree
leaves-none-free t u s =
    walked-blocked (without t.waiting u) (record { held = map.remove t.held u; waiting = []; woken = t.woken })
    (each-both (IsPrepared t.held) (λ w. not (is_of u w) ≡ true) (IsPrepared (map.remove t.held u))
    (λ w a b. prepared-as t.held (map.remove t.held u) w (held-removed t.held u w.trans (turned u w.trans false (not-true (is_of u w) b))) a)
    (without t.waiting u) (each-filter (IsPrepared t.held) (λ w. not (is_of u w)) t.waiting s.prepared) (passing (λ w. not (is_of u w)) t.waiting))
    (apart-filter (λ w. not (is_of u w)) t.waiting s.apart) tt
