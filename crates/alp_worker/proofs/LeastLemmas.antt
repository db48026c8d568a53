-- the least transaction of the joins that have not voted
use Rattle.std.specs.Prelude.{cond, Bool, true, false, ◌&&◌, ◌||◌, find, Option, None, Some}
use Rattle.std.specs.List.{list_any}
use Rattle.std.specs.declared.cmp.Ordering.{Ordering}
use Rattle.std.specs.declared.cmp.Ordering.TheVariants.{Less, Equal, Greater}
use Rattle.std.specs.Ordering.{is_eq, is_lt}
use Rattle.std.specs.Cmp.{eq_by_cmp_equiv}
use Rattle.std.proofs.Common.{◌≡◌, ℕ, List, [], ◌∷◌, refl, sym, ◌∙◌, ap, subst}
use Rattle.std.proofs.lemmas.Bool.{and_parts}
use Rattle.alp_base.specs.declared.ids.JoinNo.{JoinNo}
use Rattle.alp_base.specs.declared.ids.TransId.{TransId}
use Rattle.alp_base.specs.Orders.{trans_cmp, transactions_total}
use Rattle.alp_journal.specs.Ids.{same_trans}
use Rattle.alp_journal.specs.Participant.{Phase, Unseen, Joining, Active, Ready, Applied, Over, open_in}
use Rattle.alp_journal.specs.State.{State}
use Rattle.alp_journal.proofs.IdLemmas.{same_trans-itself, same_trans-true}
use Rattle.alp_worker.specs.Joins.{AreJoinsOf}
use Rattle.alp_worker.specs.Lives.{live_at, is_at, join_at, is_open}
use Rattle.alp_worker.specs.Walks.{is_open_of, lesser_of, least_from, IsLeastOf, has_open, HasOpen, IsLeastOpen}
use Rattle.alp_worker.specs.declared.joins.Joins.{Joins}
use Rattle.alp_worker.specs.declared.live.LiveJoin.{LiveJoin}
use Rattle.alp_worker.specs.declared.live.Stage.{Stage}
use Rattle.alp_worker.specs.declared.live.Stage.TheVariants as stage
use Rattle.alp_worker.proofs.ListLemmas.{some-apart, IsFirst, first_found}
use Rattle.alp_worker.proofs.LiveLemmas.{found_once}

-- ---- orders

less : (o : Ordering) → is_lt o ≡ true → o ≡ Less
less Less h = refl
less Equal h = cc
less Greater h = cc

tied-level : (o : Ordering) → is_eq o ≡ true → is_lt o ≡ false
tied-level Less h = cc
tied-level Equal h = refl
tied-level Greater h = cc

-- one is not less than itself
level : (t : TransId) → is_lt (trans_cmp t t) ≡ false
level t = tied-level (trans_cmp t t) ((eq_by_cmp_equiv transactions_total).refl t)

level_same : (t u : TransId) → same_trans t u ≡ true → is_lt (trans_cmp u t) ≡ false
level_same t u e = subst (λ (v : TransId). is_lt (trans_cmp v t) ≡ false) (same_trans-true t u e) (level t)

-- what is not less than one is not less than a lesser one
lower : (u v t : TransId) → is_lt (trans_cmp v t) ≡ true → is_lt (trans_cmp u t) ≡ false → is_lt (trans_cmp u v) ≡ false
lower u v t below not_below = go (is_lt (trans_cmp u v)) refl
  where
    go : (b : Bool) → is_lt (trans_cmp u v) ≡ b → b ≡ false
    go false e = refl
    go true e =
        let through : trans_cmp u t ≡ Less = transactions_total.trans u v t (less (trans_cmp u v) e) (less (trans_cmp v t) below) in
        sym (ap is_lt through) ∙ not_below

-- ---- of a list

same_least : (p q : TransId → Bool) → ((t : TransId) → p t ≡ q t) → (x : Option TransId) → IsLeastOf p x → IsLeastOf q x
same_least p q same None h = λ t. sym (same t) ∙ h t
same_least p q same (Some t) h = (sym (same t) ∙ h.0, λ u e. h.1 u (same u ∙ e))

or-assoc : (a b c : Bool) → ((a || b) || c) ≡ (a || (b || c))
or-assoc true b c = refl
or-assoc false b c = refl

or-none : (a : Bool) → a ≡ (a || false)
or-none true = refl
or-none false = refl

or-later : (a b : Bool) → b ≡ true → (a || b) ≡ true
or-later true b h = refl
or-later false b h = h

-- one transaction more
one_more : (p : TransId → Bool) (x : Option TransId) (v : TransId) → IsLeastOf p x → IsLeastOf (λ t. p t || same_trans v t) (Some (lesser_of x v))
one_more p None v h = (or-later (p v) (same_trans v v) (same_trans-itself v), λ u e. go u (p u) (h u) e)
  where
    go : (u : TransId) (b : Bool) → b ≡ false → (b || same_trans v u) ≡ true → is_lt (trans_cmp u v) ≡ false
    go u true none e = cc
    go u false none e = level_same v u e
one_more p (Some t) v h = go (is_lt (trans_cmp v t)) refl
  where
    over : is_lt (trans_cmp v t) ≡ true → (u : TransId) (b : Bool) → p u ≡ b → (b || same_trans v u) ≡ true → is_lt (trans_cmp u v) ≡ false
    over below u true e i = lower u v t below (h.1 u e)
    over below u false e i = level_same v u i

    under : is_lt (trans_cmp v t) ≡ false → (u : TransId) (b : Bool) → p u ≡ b → (b || same_trans v u) ≡ true → is_lt (trans_cmp u t) ≡ false
    under above u true e i = h.1 u e
    under above u false e i = ap (λ (w : TransId). is_lt (trans_cmp w t)) (sym (same_trans-true v u i)) ∙ above

    go : (b : Bool) → is_lt (trans_cmp v t) ≡ b → IsLeastOf (λ t. p t || same_trans v t) (Some (cond {A = TransId} b v t))
    go true e = (or-later (p v) (same_trans v v) (same_trans-itself v), λ u i. over e u (p u) refl i)
    go false e = (ap (λ (b : Bool). b || same_trans v t) h.0, λ u i. under e u (p u) refl i)

least_all : (p : TransId → Bool) (x : Option TransId) (ls : List LiveJoin) → IsLeastOf p x → IsLeastOf (λ t. p t || has_open ls t) (least_from x ls)
least_all p x [] h = same_least p (λ t. p t || false) (λ t. or-none (p t)) x h
least_all p x (l ∷ ls) h = go (is_open l.stage) (least_all (λ t. p t || same_trans l.trans t) (Some (lesser_of x l.trans)) ls) (least_all p x ls)
  where
    go : (b : Bool) → (IsLeastOf (λ t. p t || same_trans l.trans t) (Some (lesser_of x l.trans)) → IsLeastOf (λ t. (p t || same_trans l.trans t) || has_open ls t) (least_from (Some (lesser_of x l.trans)) ls))
        → (IsLeastOf p x → IsLeastOf (λ t. p t || has_open ls t) (least_from x ls))
        → IsLeastOf (λ t. p t || ((b && same_trans l.trans t) || has_open ls t)) (least_from (cond {A = Option TransId} b (Some (lesser_of x l.trans)) x) ls)
    go true more same =
        same_least (λ t. (p t || same_trans l.trans t) || has_open ls t) (λ t. p t || (same_trans l.trans t || has_open ls t)) (λ t. or-assoc (p t) (same_trans l.trans t) (has_open ls t))
        (least_from (Some (lesser_of x l.trans)) ls) (more (one_more p x l.trans h))
    go false more same = same h

pub least_open_in : (ls : List LiveJoin) → IsLeastOf (has_open ls) (least_from None ls)
least_open_in ls = least_all (λ t. false) None ls (λ t. refl)

-- ---- in a journal's words

-- one that was found passes
any_found : {X : Type 0} (p q : X → Bool) (xs : List X) (x : X) → find p xs ≡ Some x → q x ≡ true → list_any q xs ≡ true
any_found p q [] x h passes = some-apart _ x (sym h)
any_found {X} p q (y ∷ ys) x h passes = go (p y) h (λ i. any_found p q ys x i passes)
  where
    go : (b : Bool) → cond {A = Option X} b (Some y) (find p ys) ≡ Some x → (find p ys ≡ Some x → list_any q ys ≡ true) → (q y || list_any q ys) ≡ true
    go true i k =
        let same : y ≡ x = cc in
        ap (λ (z : X). q z || list_any q ys) same ∙ ap (λ (b : Bool). b || list_any q ys) passes
    go false i k = or-later (q y) (list_any q ys) (k i)

-- and where one passes one is found
record IsFound {X : Type 0} (p : X → Bool) (xs : List X) : Type 0 where
  one : X
  is : find p xs ≡ Some one
  passes : p one ≡ true

found_any : {X : Type 0} (p : X → Bool) (xs : List X) → list_any p xs ≡ true → IsFound p xs
found_any p [] h = cc
found_any {X} p (x ∷ xs) h = go (p x) refl h (found_any p xs)
  where
    go : (b : Bool) → p x ≡ b → (b || list_any p xs) ≡ true → (list_any p xs ≡ true → IsFound p xs) → IsFound p (x ∷ xs)
    go true e i k = record { one = x; is = ap (λ (b : Bool). cond {A = Option X} b (Some x) (find p xs)) e; passes = e }
    go false e i k = (let rest : IsFound p xs = k i in record { one = rest.one; is = ap (λ (b : Bool). cond {A = Option X} b (Some x) (find p xs)) e ∙ rest.is; passes = rest.passes })

-- a phase in which a join has not voted, as it is kept
record IsKept (j : JoinNo) (p : Phase) (t : TransId) : Type 0 where
  one : LiveJoin
  is : live_at j p ≡ Some one
  passes : is_open_of t one ≡ true

kept_open : (j : JoinNo) (p : Phase) (t : TransId) (client : ℕ) → open_in p ≡ Some (t, client) → IsKept j p t
kept_open j (Joining u c who) t client h =
    record { one = record { join = j; trans = u; client = c; stage = stage.Joining who }; is = refl; passes = ap (λ (x : Option (TransId × ℕ)). go x) h ∙ same_trans-itself t }
  where
    go : Option (TransId × ℕ) → Bool
    go None = true
    go (Some y) = same_trans y.0 t
kept_open j (Active u c who) t client h =
    record { one = record { join = j; trans = u; client = c; stage = stage.Active who }; is = refl; passes = ap (λ (x : Option (TransId × ℕ)). go x) h ∙ same_trans-itself t }
  where
    go : Option (TransId × ℕ) → Bool
    go None = true
    go (Some y) = same_trans y.0 t
kept_open j (Ready u c ts) t client h = some-apart _ (t, client) (sym h)
kept_open j Unseen t client h = some-apart _ (t, client) (sym h)
kept_open j (Applied u stamp) t client h = some-apart _ (t, client) (sym h)
kept_open j Over t client h = some-apart _ (t, client) (sym h)

open_kept : (j : JoinNo) (p : Phase) (l : LiveJoin) → live_at j p ≡ Some l → is_open l.stage ≡ true → open_in p ≡ Some (l.trans, l.client)
open_kept j (Joining t client who) l h opens = ap (λ (x : Option LiveJoin). go x) h
  where
    go : Option LiveJoin → Option (TransId × ℕ)
    go None = None
    go (Some y) = Some (y.trans, y.client)
open_kept j (Active t client who) l h opens = ap (λ (x : Option LiveJoin). go x) h
  where
    go : Option LiveJoin → Option (TransId × ℕ)
    go None = None
    go (Some y) = Some (y.trans, y.client)
open_kept j (Ready t client ts) l h opens = let wrong : Some false ≡ Some true = ap (λ (x : Option LiveJoin). go x) h ∙ ap Some opens in cc
  where
    go : Option LiveJoin → Option Bool
    go None = None
    go (Some y) = Some (is_open y.stage)
open_kept j Unseen l h opens = some-apart _ l (sym h)
open_kept j (Applied t stamp) l h opens = some-apart _ l (sym h)
open_kept j Over l h opens = some-apart _ l (sym h)

module _ (s : State) (k : Joins) (h : AreJoinsOf s k) where
  pub there : (t : TransId) → HasOpen s t → has_open k.lives t ≡ true
  there t it =
      let kept : IsKept it.0 (s.phases it.0) t = kept_open it.0 (s.phases it.0) t it.1 it.2 in
      any_found (is_at it.0) (is_open_of t) k.lives kept.one (h.live it.0 ∙ kept.is) kept.passes

  pub here : (t : TransId) → has_open k.lives t ≡ true → HasOpen s t
  here t e =
      let found : IsFound (is_open_of t) k.lives = found_any (is_open_of t) k.lives e in
      let l : LiveJoin = found.one in
      let both : (is_open l.stage ≡ true) × (same_trans l.trans t ≡ true) = and_parts (is_open l.stage) (same_trans l.trans t) found.passes in
      let at : live_at l.join (s.phases l.join) ≡ Some l = sym (h.live l.join) ∙ found_once (is_open_of t) k.lives l h.once found.is in
      (l.join, l.client, open_kept l.join (s.phases l.join) l at both.0 ∙ ap (λ (u : TransId). Some (u, l.client)) (same_trans-true l.trans t both.1))

  never : (b : Bool) → b ≡ false → b ≡ true → ⊥
  never true e i = cc
  never false e i = cc

  pub least_joined : (x : Option TransId) → IsLeastOf (has_open k.lives) x → IsLeastOpen s x
  least_joined None least = λ t it. never (has_open k.lives t) (least t) (there t it)
  least_joined (Some t) least = (here t least.0, λ u it. least.1 u (there u it))
