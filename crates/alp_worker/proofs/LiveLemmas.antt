-- live joins in a list: one among them, and what becomes of one
use Rattle.std.specs.Prelude.{cond, Bool, true, false, not, ◌&&◌, ◌==◌, find, filter, flat_map, Option, None, Some}
use Rattle.std.specs.List.Sorted.{IsPermutation}
use Rattle.std.specs.Option.{option_or, option_map}
use Rattle.std.proofs.Common.{◌≡◌, ℕ, ◌+◌, ◌≤◌, List, [], ◌∷◌, ◌++◌, length, refl, sym, ◌∙◌, ap, subst, arith, eq-eqb}
use Rattle.std.proofs.lemmas.Bool.{eqb-true, and_parts}
use Rattle.std.proofs.lemmas.List.{append-nil, length-map}
use Rattle.std.proofs.lemmas.List.Concat.{flat_map-append}
use Rattle.std.proofs.lemmas.List.Folds.{find-append}
use Rattle.std.proofs.lemmas.List.Sorted.{IsPermutation-refl, IsPermutation-trans, IsPermutation-append_right}
use Rattle.alp_base.specs.declared.ids.JoinNo.{JoinNo}
use Rattle.alp_base.specs.declared.ids.TransId.{TransId}
use Rattle.alp_journal.specs.Ids.{same_join, same_trans}
use Rattle.alp_journal.proofs.IdLemmas.{same_join-true, same_trans-true}
use Rattle.alp_worker.specs.Lives.{is_at, join_at, is_part, part_of, AreOnce, AreSingle, staged_one, staged, without}
use Rattle.alp_worker.specs.declared.live.LiveJoin.{LiveJoin}
use Rattle.alp_worker.specs.declared.live.Stage.{Stage}
use Rattle.alp_worker.proofs.ListLemmas.{some-apart, find_map, none-filter, IsFirst, first_found, none_stays, shorter, filter_map_same, filter_pushed, one-to_front}

-- ---- numbers

pub same_join-itself : (j : JoinNo) → same_join j j ≡ true
same_join-itself j =
    ap (λ (b : Bool). b && j.epoch == j.epoch && j.counter == j.counter) (eq-eqb j.server j.server refl)
    ∙ ap (λ (b : Bool). b && j.counter == j.counter) (eq-eqb j.epoch j.epoch refl) ∙ eq-eqb j.counter j.counter refl

pub same_join-from : (j k : JoinNo) → j ≡ k → same_join j k ≡ true
same_join-from j k e = ap (λ (x : JoinNo). same_join x k) e ∙ same_join-itself k

pub same_join-turned : (j k : JoinNo) → same_join j k ≡ same_join k j
same_join-turned j k = go (same_join j k) (same_join k j) refl refl
  where
    go : (a b : Bool) → same_join j k ≡ a → same_join k j ≡ b → a ≡ b
    go true true p q = refl
    go false false p q = refl
    go true false p q = sym (same_join-from k j (sym (same_join-true j k p))) ∙ q
    go false true p q = sym p ∙ same_join-from j k (sym (same_join-true k j q))

-- ---- one among them

pub at_head : (l : LiveJoin) (ls : List LiveJoin) → join_at (l ∷ ls) l.join ≡ Some l
at_head l ls = ap (λ (b : Bool). cond {A = Option LiveJoin} b (Some l) (join_at ls l.join)) (same_join-itself l.join)

pub at_tail : (l : LiveJoin) (ls : List LiveJoin) (j : JoinNo) → same_join j l.join ≡ false → join_at (l ∷ ls) j ≡ join_at ls j
at_tail l ls j e = ap (λ (b : Bool). cond {A = Option LiveJoin} b (Some l) (join_at ls j)) e

-- none of a number is there: the first is none
pub head_apart : (l : LiveJoin) (ls : List LiveJoin) (j : JoinNo) → join_at (l ∷ ls) j ≡ None → (same_join j l.join ≡ false) × (join_at ls j ≡ None)
head_apart l ls j h = go (same_join j l.join) h
  where
    go : (b : Bool) → cond {A = Option LiveJoin} b (Some l) (join_at ls j) ≡ None → (b ≡ false) × (join_at ls j ≡ None)
    go true f = some-apart _ l f
    go false f = (refl, f)

pub at_pushed : (ls : List LiveJoin) (l : LiveJoin) (j : JoinNo) → join_at (ls ++ l ∷ []) j ≡ option_or (join_at ls j) (cond (same_join j l.join) (Some l) None)
at_pushed ls l j = find-append (is_at j) ls (l ∷ [])

-- one that is found by another test is the one of its number
pub found_once : (p : LiveJoin → Bool) (ls : List LiveJoin) (l : LiveJoin) → AreOnce ls → find p ls ≡ Some l → join_at ls l.join ≡ Some l
found_once p [] l once h = some-apart _ l (sym h)
found_once p (x ∷ xs) l once h = go (p x) h (λ f. found_once p xs l once.1 f)
  where
    same_one : {A : Type 0} (a b : A) → Some a ≡ Some b → a ≡ b
    same_one a b e = cc

    away : join_at xs l.join ≡ Some l → (b : Bool) → same_join l.join x.join ≡ b → b ≡ false
    away is true e = some-apart _ l (sym is ∙ ap (join_at xs) (same_join-true l.join x.join e) ∙ once.0)
    away is false e = refl

    go : (b : Bool) → cond {A = Option LiveJoin} b (Some x) (find p xs) ≡ Some l → (find p xs ≡ Some l → join_at xs l.join ≡ Some l) → join_at (x ∷ xs) l.join ≡ Some l
    go true f rest = subst (λ (z : LiveJoin). join_at (x ∷ xs) z.join ≡ Some z) (same_one x l f) (at_head x xs)
    go false f rest = at_tail x xs l.join (away (rest f) (same_join l.join x.join) refl) ∙ rest f

-- ---- each once

pub once_filter : (p : LiveJoin → Bool) (ls : List LiveJoin) → AreOnce ls → AreOnce (filter p ls)
once_filter p [] h = tt
once_filter p (l ∷ ls) h = go (p l) (once_filter p ls h.1)
  where
    go : (b : Bool) → AreOnce (filter p ls) → AreOnce (cond b (l ∷ filter p ls) (filter p ls))
    go true rest = (none-filter (is_at l.join) p ls h.0, rest)
    go false rest = rest

pub once_pushed : (ls : List LiveJoin) (l : LiveJoin) → AreOnce ls → join_at ls l.join ≡ None → AreOnce (ls ++ l ∷ [])
once_pushed [] l h none = (refl, tt)
once_pushed (x ∷ xs) l h none =
    let apart = head_apart x xs l.join none in (
      at_pushed xs l x.join
          ∙ ap (λ (o : Option LiveJoin). option_or o (cond (same_join x.join l.join) (Some l) None)) h.0
          ∙ ap (λ (b : Bool). cond {A = Option LiveJoin} b (Some l) None) (same_join-turned x.join l.join ∙ apart.0),
      once_pushed xs l h.1 apart.1,
    )

once_end : (front back : List LiveJoin) → AreOnce (front ++ back) → AreOnce back
once_end [] back h = h
once_end (x ∷ front) back h = once_end front back h.1

none_dropped : (p : LiveJoin → Bool) (front : List LiveJoin) (x : LiveJoin) (back : List LiveJoin) → find p (front ++ x ∷ back) ≡ None → find p (front ++ back) ≡ None
none_dropped p [] x back h = go (p x) h
  where
    go : (b : Bool) → cond {A = Option LiveJoin} b (Some x) (find p back) ≡ None → find p back ≡ None
    go true f = some-apart _ x f
    go false f = f
none_dropped p (y ∷ front) x back h = go (p y) h (none_dropped p front x back)
  where
    go : (b : Bool) → cond {A = Option LiveJoin} b (Some y) (find p (front ++ x ∷ back)) ≡ None → (find p (front ++ x ∷ back) ≡ None → find p (front ++ back) ≡ None) → cond {A = Option LiveJoin} b (Some y) (find p (front ++ back)) ≡ None
    go true f rest = some-apart _ y f
    go false f rest = rest f

once_dropped : (front : List LiveJoin) (x : LiveJoin) (back : List LiveJoin) → AreOnce (front ++ x ∷ back) → AreOnce (front ++ back)
once_dropped [] x back h = h.1
once_dropped (y ∷ front) x back h = (none_dropped (is_at y.join) front x back h.0, once_dropped front x back h.1)

-- ---- lists of the same joins

-- a walk over one comes to what a walk over the other comes to, in another order
pub same_walk : {A : Type 0} (f : LiveJoin → List A) (xs ys : List LiveJoin) → AreOnce xs → AreOnce ys → ((j : JoinNo) → join_at xs j ≡ join_at ys j) → IsPermutation (flat_map f xs) (flat_map f ys)
same_walk f [] [] h k same = IsPermutation-refl []
same_walk f [] (y ∷ ys) h k same = some-apart _ y (sym (at_head y ys) ∙ sym (same y.join))
same_walk {A} f (x ∷ xs) ys h k same =
    subst (λ us. IsPermutation (f x ++ flat_map f xs) (flat_map f us)) (sym first.all)
    (subst (λ us. IsPermutation (f x ++ flat_map f xs) us) (sym (flat_map-append f first.front (x ∷ first.back)))
    (IsPermutation-trans (f x ++ flat_map f xs) (f x ++ (flat_map f first.front ++ flat_map f first.back)) (flat_map f first.front ++ (f x ++ flat_map f first.back))
    (IsPermutation-append_right (f x) (flat_map f xs) (flat_map f first.front ++ flat_map f first.back)
    (subst (λ us. IsPermutation (flat_map f xs) us) (flat_map-append f first.front first.back)
    (same_walk f xs (first.front ++ first.back) h.1 (once_dropped first.front x first.back whole) (λ j. left j (same_join j x.join) refl))))
    (one-to_front (f x) (flat_map f first.front) (flat_map f first.back))))
  where
    first : IsFirst (is_at x.join) ys x
    first = first_found (is_at x.join) ys x (sym (same x.join) ∙ at_head x xs)

    whole : AreOnce (first.front ++ x ∷ first.back)
    whole = subst AreOnce first.all k

    gone : join_at (first.front ++ first.back) x.join ≡ None
    gone =
        find-append (is_at x.join) first.front first.back
        ∙ ap (λ (o : Option LiveJoin). option_or o (join_at first.back x.join)) first.none ∙ (once_end first.front (x ∷ first.back) whole).0

    skipped : (j : JoinNo) → same_join j x.join ≡ false → join_at (first.front ++ x ∷ first.back) j ≡ join_at (first.front ++ first.back) j
    skipped j e =
        find-append (is_at j) first.front (x ∷ first.back)
        ∙ ap (λ (b : Bool). option_or (join_at first.front j) (cond {A = Option LiveJoin} b (Some x) (join_at first.back j))) e ∙ sym (find-append (is_at j) first.front first.back)

    left : (j : JoinNo) (b : Bool) → same_join j x.join ≡ b → join_at xs j ≡ join_at (first.front ++ first.back) j
    left j true e = ap (join_at xs) (same_join-true j x.join e) ∙ h.0 ∙ sym gone ∙ sym (ap (join_at (first.front ++ first.back)) (same_join-true j x.join e))
    left j false e = sym (at_tail x xs j e) ∙ same j ∙ ap (λ us. join_at us j) first.all ∙ skipped j e

-- ---- one goes on

staged_join : (j : JoinNo) (f : Stage → Stage) (l : LiveJoin) → (staged_one j f l).join ≡ l.join
staged_join j f l = go (is_at j l)
  where
    go : (b : Bool) → (cond b (record l { stage = f l.stage }) l).join ≡ l.join
    go true = refl
    go false = refl

staged_part : (client : ℕ) (t : TransId) (j : JoinNo) (f : Stage → Stage) (l : LiveJoin) → is_part client t (staged_one j f l) ≡ is_part client t l
staged_part client t j f l = go (is_at j l)
  where
    go : (b : Bool) → is_part client t (cond b (record l { stage = f l.stage }) l) ≡ is_part client t l
    go true = refl
    go false = refl

pub staged_at : (j i : JoinNo) (f : Stage → Stage) (ls : List LiveJoin) → join_at (staged j f ls) i ≡ option_map (staged_one j f) (join_at ls i)
staged_at j i f ls = find_map (is_at i) (staged_one j f) (λ l. ap (same_join i) (staged_join j f l)) ls

pub once_staged : (j : JoinNo) (f : Stage → Stage) (ls : List LiveJoin) → AreOnce ls → AreOnce (staged j f ls)
once_staged j f [] h = tt
once_staged j f (l ∷ ls) h =
    (ap (join_at (staged j f ls)) (staged_join j f l) ∙ staged_at j l.join f ls ∙ ap (option_map (staged_one j f)) h.0, once_staged j f ls h.1)

pub single_staged : (j : JoinNo) (f : Stage → Stage) (ls : List LiveJoin) → AreSingle ls → AreSingle (staged j f ls)
single_staged j f ls h client t =
    subst (λ (n : ℕ). n ≤ 1) (sym (ap length (filter_map_same (is_part client t) (staged_one j f) (staged_part client t j f) ls) ∙ length-map (filter (is_part client t) ls) (staged_one j f))) (h client t)

-- ---- one ends

abbrev pub stays_if : (LiveJoin → Bool) → JoinNo → Option LiveJoin → Option LiveJoin
stays_if p j None = None
stays_if p j (Some l) = cond (is_at j l && p l) None (Some l)

pub without_at : (j i : JoinNo) (p : LiveJoin → Bool) (ls : List LiveJoin) → AreOnce ls → join_at (without j p ls) i ≡ stays_if p j (join_at ls i)
without_at j i p [] h = refl
without_at j i p (l ∷ ls) h = go (is_at j l && p l) refl (same_join i l.join) refl (without_at j i p ls h.1)
  where
    left : List LiveJoin
    left = without j p ls

    go : (c : Bool) → (is_at j l && p l) ≡ c → (b : Bool) → same_join i l.join ≡ b → join_at (without j p ls) i ≡ stays_if p j (join_at ls i)
        → join_at (cond (not c) (l ∷ without j p ls) (without j p ls)) i ≡ stays_if p j (cond {A = Option LiveJoin} b (Some l) (join_at ls i))
    go true e true f rest =
        rest ∙ ap (stays_if p j) (ap (join_at ls) (same_join-true i l.join f) ∙ h.0) ∙ sym (ap (λ (x : Bool). cond {A = Option LiveJoin} x None (Some l)) e)
    go true e false f rest = rest
    go false e true f rest = ap (λ (x : Bool). cond {A = Option LiveJoin} x (Some l) (join_at (without j p ls) i)) f ∙ sym (ap (λ (x : Bool). cond {A = Option LiveJoin} x None (Some l)) e)
    go false e false f rest = ap (λ (x : Bool). cond {A = Option LiveJoin} x (Some l) (join_at (without j p ls) i)) f ∙ rest

pub single_filter : (p : LiveJoin → Bool) (ls : List LiveJoin) → AreSingle ls → AreSingle (filter p ls)
single_filter p ls h client t = let few = shorter (is_part client t) p ls in let one = h client t in omega (arith, few, one)

-- ---- one comes

pub is_part-its : (client : ℕ) (t : TransId) (l : LiveJoin) → is_part client t l ≡ true → (l.trans ≡ t) × (l.client ≡ client)
is_part-its client t l e =
    let both = and_parts (same_trans l.trans t) (l.client == client) e in
    (same_trans-true l.trans t both.0, eqb-true l.client client both.1)

pub single_pushed : (ls : List LiveJoin) (l : LiveJoin) → AreSingle ls → part_of l.client l.trans ls ≡ None → AreSingle (ls ++ l ∷ [])
single_pushed ls l h none client t = subst (λ us. length us ≤ 1) (sym (filter_pushed (is_part client t) ls l)) (go (is_part client t l) refl)
  where
    go : (b : Bool) → is_part client t l ≡ b → length (filter (is_part client t) ls ++ cond b (l ∷ []) []) ≤ 1
    go true e =
        let its = is_part-its client t l e in
        let gone : filter (is_part client t) ls ≡ [] = ap (λ (u : TransId). filter (is_part client u) ls) (sym its.0) ∙ ap (λ (n : ℕ). filter (is_part n l.trans) ls) (sym its.1) ∙ none_stays (is_part l.client l.trans) ls none in
        subst (λ us. length (us ++ l ∷ []) ≤ 1) (sym gone) (omega arith)
    go false e = subst (λ us. length us ≤ 1) (sym (append-nil (filter (is_part client t) ls))) (h client t)
