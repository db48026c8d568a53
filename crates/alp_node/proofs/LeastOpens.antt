-- the least transaction that has an open part, by what a server keeps
use Rattle.std.specs.Prelude.{cond, Bool, true, false, ◌&&◌, ◌||◌, slice_get, IsTrue, Option, None, Some, is_some, map as list_map}
use Rattle.std.specs.List.{AllByRecursion, Contains}
use Rattle.std.specs.List.Sorted.{IsStrictlySortedBy}
use Rattle.std.specs.Cmp.{eq_by_cmp_equiv}
use Rattle.std.specs.FinMap as map
use Rattle.std.specs.FinMap.{contains_key-keys, get-empty}
use Rattle.std.specs.Ordering.{is_lt, ordering_reverse}
use Rattle.std.specs.declared.cmp.Ordering.{Ordering}
use Rattle.std.specs.declared.cmp.Ordering.TheVariants.{Less, Equal, Greater}
use Rattle.std.proofs.lemmas.Map.Views.{Contains-from_any, list_any-from_Contains}
use Rattle.std.proofs.Common.{◌≡◌, ℕ, List, [], ◌∷◌, ◌++◌, refl, sym, ◌∙◌, ap, subst, inl, inr}
use Rattle.alp_base.specs.Orders.{trans_cmp, transactions_total, exact_transactions}
use Rattle.alp_base.specs.declared.ids.TransId.{TransId}
use Rattle.alp_locks.proofs.HeldLemmas.{tied}
use Rattle.alp_vault.specs.Contents.{Contents}
use Rattle.alp_vault.specs.declared.vault.Vault.{Ghosts}
use Rattle.alp_journal.specs.Account.{Account, state_of}
use Rattle.alp_journal.specs.Coordinator.{Fate, Undrawn, Running, Finishing, Committed, Forgotten, Ended}
use Rattle.alp_journal.specs.Answers.{is_counted}
use Rattle.alp_journal.specs.Ids.{same_trans}
use Rattle.alp_journal.proofs.IdLemmas.{same_trans-itself, same_trans-true}
use Rattle.alp_coord.specs.Coordinators.{IsLeastRunning, fate_in, is_running_fate, open_ids}
use Rattle.alp_coord.specs.Ticks.{has_trans}
use Rattle.alp_worker.specs.Walks.{HasOpen, IsLeastOf, has_open}
use Rattle.alp_worker.specs.Lives.{is_open}
use Rattle.alp_worker.specs.declared.live.LiveJoin.{LiveJoin}
use Rattle.alp_worker.proofs.LeastLemmas.{here, there}
use Rattle.alp_node.specs.NodeStates.{NodeState}
use Rattle.alp_node.specs.Nodes.{IsConsistent, IsRight, start_in, state_of as journal_state}
use Rattle.alp_node.specs.Opens.{HasOpenPart, IsLeastOpen, IsUnvoted, lesser_if}
use Rattle.alp_node.specs.ServerState.{IsAs}
use Rattle.alp_node.specs.declared.server_state.ServerState.{ServerState}
use Rattle.alp_node.proofs.FatedLemmas.{closed_uncounted}
use Rattle.alp_node.proofs.MapLemmas.{get_put}
use Rattle.alp_node.proofs.RestLemmas.{unasked_told}
use Rattle.alp_node.proofs.TransactionLemmas.{key_there, keys_rise}

-- ---- the lesser of two

less : (o : Ordering) → is_lt o ≡ true → o ≡ Less
less Less h = refl
less Equal h = cc
less Greater h = cc

no_both : (b : Bool) → b ≡ true → b ≡ false → ⊥
no_both true e f = cc
no_both false e f = cc

-- what is not less than one is not less than a lesser one
lower : (u v t : TransId) → is_lt (trans_cmp v t) ≡ true → is_lt (trans_cmp u t) ≡ false → is_lt (trans_cmp u v) ≡ false
lower u v t below not_below = go (is_lt (trans_cmp u v)) refl
  where
    go : (b : Bool) → is_lt (trans_cmp u v) ≡ b → b ≡ false
    go false e = refl
    go true e = sym (ap is_lt (transactions_total.trans u v t (less (trans_cmp u v) e) (less (trans_cmp v t) below))) ∙ not_below

-- and what is not less than one that is no lesser is not less
upper : (u v t : TransId) → is_lt (trans_cmp v t) ≡ false → is_lt (trans_cmp u v) ≡ false → is_lt (trans_cmp u t) ≡ false
upper u v t above not_below = go (is_lt (trans_cmp u t)) refl
  where
    by : (o : Ordering) → trans_cmp v u ≡ o → is_lt (trans_cmp u t) ≡ true → ⊥
    by Less e below = no_both (is_lt (trans_cmp v t)) (ap is_lt (transactions_total.trans v u t e (less (trans_cmp u t) below))) above
    by Equal e below = no_both (is_lt (trans_cmp v t)) (ap (λ (w : TransId). is_lt (trans_cmp w t)) (exact_transactions v u e) ∙ below) above
    by Greater e below = no_both (is_lt (trans_cmp u v)) (ap is_lt (transactions_total.antisymm u v ∙ ap ordering_reverse e)) not_below

    go : (b : Bool) → is_lt (trans_cmp u t) ≡ b → b ≡ false
    go false e = refl
    go true e = absurd (by (trans_cmp v u) refl e)

or-later : (a b : Bool) → b ≡ true → (a || b) ≡ true
or-later true b h = refl
or-later false b h = h

pub lesser_least : (p q : TransId → Bool) (x y : Option TransId) → IsLeastOf p x → IsLeastOf q y → IsLeastOf (λ t. p t || q t) (lesser_if x y)
lesser_least p q None None h k = λ t. ap (λ (b : Bool). b || q t) (h t) ∙ k t
lesser_least p q None (Some b) h k = (or-later (p b) (q b) k.0, λ u e. k.1 u (sym (ap (λ (c : Bool). c || q u) (h u)) ∙ e))
lesser_least p q (Some a) None h k = (ap (λ (c : Bool). c || q a) h.0, λ u e. go u (p u) refl e)
  where
    go : (u : TransId) (c : Bool) → p u ≡ c → (c || q u) ≡ true → is_lt (trans_cmp u a) ≡ false
    go u true f e = h.1 u f
    go u false f e = absurd (no_both (q u) e (k u))
lesser_least p q (Some a) (Some b) h k = go (is_lt (trans_cmp b a)) refl
  where
    over : is_lt (trans_cmp b a) ≡ true → (u : TransId) (c : Bool) → p u ≡ c → (c || q u) ≡ true → is_lt (trans_cmp u b) ≡ false
    over below u true f e = lower u b a below (h.1 u f)
    over below u false f e = k.1 u e

    under : is_lt (trans_cmp b a) ≡ false → (u : TransId) (c : Bool) → p u ≡ c → (c || q u) ≡ true → is_lt (trans_cmp u a) ≡ false
    under above u true f e = h.1 u f
    under above u false f e = upper u b a above (k.1 u e)

    go : (c : Bool) → is_lt (trans_cmp b a) ≡ c → IsLeastOf (λ t. p t || q t) (Some (cond {A = TransId} c b a))
    go true e = (or-later (p b) (q b) k.0, λ u i. over e u (p u) refl i)
    go false e = (ap (λ (c : Bool). c || q a) h.0, λ u i. under e u (p u) refl i)

-- ---- those that pass, least id first

module _ (p : TransId → Bool) where
  abbrev passing : List TransId → map.FinMap trans_cmp ℕ
  passing [] = map.empty
  passing (t ∷ ts) = cond {A = map.FinMap trans_cmp ℕ} (p t) (map.insert (passing ts) t 0) (passing ts)

  passes_there : (ts : List TransId) (t : TransId) → p t ≡ true → has_trans t ts ≡ true → is_some (map.get (passing ts) t) ≡ true
  passes_there [] t so_it_is at = let wrong : false ≡ true = at in cc
  passes_there (u ∷ us) t so_it_is at = go (p u) refl (same_trans u t) refl at (passes_there us t so_it_is)
    where
      either : (c : Bool) (x : Option ℕ) → is_some x ≡ true → is_some (cond {A = Option ℕ} c (Some 0) x) ≡ true
      either true x e = refl
      either false x e = e

      go : (b : Bool) → p u ≡ b → (d : Bool) → same_trans u t ≡ d → (d || has_trans t us) ≡ true → (has_trans t us ≡ true → is_some (map.get (passing us) t) ≡ true)
          → is_some (map.get (cond {A = map.FinMap trans_cmp ℕ} b (map.insert (passing us) u 0) (passing us)) t) ≡ true
      go true f true e g more =
          ap (λ (x : Option ℕ). is_some x) (get_put (passing us) u 0 t)
          ∙ ap (λ (c : Bool). is_some (cond {A = Option ℕ} c (Some 0) (map.get (passing us) t))) (ap (same_trans t) (same_trans-true u t e) ∙ same_trans-itself t)
      go true f false e g more = ap (λ (x : Option ℕ). is_some x) (get_put (passing us) u 0 t) ∙ either (same_trans t u) (map.get (passing us) t) (more g)
      go false f true e g more = let wrong : true ≡ false = sym (ap p (same_trans-true u t e) ∙ so_it_is) ∙ f in cc
      go false f false e g more = more g

  there_passes : (ts : List TransId) (t : TransId) → is_some (map.get (passing ts) t) ≡ true → p t ≡ true
  there_passes [] t at = let wrong : false ≡ true = sym (ap (λ (x : Option ℕ). is_some x) (get-empty trans_cmp t)) ∙ at in cc
  there_passes (u ∷ us) t at = go (p u) refl at (there_passes us t)
    where
      by : p u ≡ true → (d : Bool) → same_trans t u ≡ d → is_some (cond {A = Option ℕ} d (Some 0) (map.get (passing us) t)) ≡ true → (is_some (map.get (passing us) t) ≡ true → p t ≡ true) → p t ≡ true
      by f true e g more = ap p (same_trans-true t u e) ∙ f
      by f false e g more = more g

      go : (b : Bool) → p u ≡ b → is_some (map.get (cond {A = map.FinMap trans_cmp ℕ} b (map.insert (passing us) u 0) (passing us)) t) ≡ true → (is_some (map.get (passing us) t) ≡ true → p t ≡ true) → p t ≡ true
      go true f g more = by f (same_trans t u) refl (sym (ap (λ (x : Option ℕ). is_some x) (get_put (passing us) u 0 t)) ∙ g) more
      go false f g more = more g

  -- the least is the first of them
  first_least : (ts : List TransId) → IsStrictlySortedBy trans_cmp ts → ((t : TransId) → has_trans t ts ≡ true → p t ≡ true) → ((t : TransId) → p t ≡ true → has_trans t ts ≡ true) → (x : Option TransId) → IsLeastOf p x → x ≡ slice_get ts 0
  unfolding IsStrictlySortedBy
  first_least [] rise pass all None h = refl
  first_least [] rise pass all (Some t) h = let wrong : false ≡ true = all t h.0 in cc
  first_least (u ∷ us) rise pass all None h = absurd (no_both (p u) (pass u (ap (λ (b : Bool). b || has_trans u us) (same_trans-itself u))) (h u))
  first_least (u ∷ us) rise pass all (Some t) h = go (same_trans u t) refl (all t h.0)
    where
      below : (vs : List TransId) → AllByRecursion (λ (v : TransId). trans_cmp u v ≡ Less) vs → has_trans t vs ≡ true → trans_cmp u t ≡ Less
      below [] less_all at = let wrong : false ≡ true = at in cc
      below (v ∷ vs) less_all at = one (same_trans v t) refl at (below vs less_all.1)
        where
          one : (d : Bool) → same_trans v t ≡ d → (d || has_trans t vs) ≡ true → (has_trans t vs ≡ true → trans_cmp u t ≡ Less) → trans_cmp u t ≡ Less
          one true e g more = ap (trans_cmp u) (sym (same_trans-true v t e)) ∙ less_all.0
          one false e g more = more g

      go : (d : Bool) → same_trans u t ≡ d → (d || has_trans t us) ≡ true → Some t ≡ Some u
      go true e g = ap (λ (v : TransId). Some v) (sym (same_trans-true u t e))
      go false e g = absurd (no_both (is_lt (trans_cmp u t)) (ap is_lt (below us rise.0 g)) (h.1 u (pass u (ap (λ (b : Bool). b || has_trans u us) (same_trans-itself u)))))

key_contains : {X : Type 0} (m : map.FinMap trans_cmp X) (t : TransId) → (Contains (map.keys m) t → is_some (map.get m t) ≡ true) × (is_some (map.get m t) ≡ true → Contains (map.keys m) t)
key_contains m t = (
  (λ at. contains_key-keys m t ∙ list_any-from_Contains (eq_by_cmp_equiv transactions_total) t (map.keys m) at),
  (λ some. Contains-from_any (λ x y e. exact_transactions x y (tied (trans_cmp x y) e)) t (map.keys m) (sym (contains_key-keys m t) ∙ some)),
)

-- ---- at a server

module _ {V : Type 0} (a : Account) (held : Contents) (k : ServerState V) (h : IsAs a held k) where
  abbrev is_open_at : TransId → Bool
  is_open_at t = is_running_fate (fate_in k.coordinator t) || has_open k.joins.lives t

  -- it is among these
  abbrev candidates : List TransId
  candidates = open_ids k.coordinator ++ list_map (λ (l : LiveJoin). l.trans) k.joins.lives

  among_first : (t : TransId) (ts us : List TransId) → has_trans t ts ≡ true → has_trans t (ts ++ us) ≡ true
  among_first t [] us e = let wrong : false ≡ true = e in cc
  among_first t (v ∷ vs) us e = go (same_trans v t) e (among_first t vs us)
    where
      go : (d : Bool) → (d || has_trans t vs) ≡ true → (has_trans t vs ≡ true → has_trans t (vs ++ us) ≡ true) → (d || has_trans t (vs ++ us)) ≡ true
      go true e more = refl
      go false e more = more e

  among_last : (t : TransId) (ts us : List TransId) → has_trans t us ≡ true → has_trans t (ts ++ us) ≡ true
  among_last t [] us e = e
  among_last t (v ∷ vs) us e = or-later (same_trans v t) (has_trans t (vs ++ us)) (among_last t vs us e)

  running_among : (t : TransId) → is_running_fate (fate_in k.coordinator t) ≡ true → has_trans t (open_ids k.coordinator) ≡ true
  running_among t runs = go (has_trans t (open_ids k.coordinator)) refl
    where
      counts : (f : Fate) → is_running_fate f ≡ true → is_counted f ≡ true
      counts (Running c js) e = refl
      counts Undrawn e = let wrong : false ≡ true = e in cc
      counts (Finishing c js vs) e = let wrong : false ≡ true = e in cc
      counts (Committed s js ds) e = let wrong : false ≡ true = e in cc
      counts (Forgotten s js) e = let wrong : false ≡ true = e in cc
      counts (Ended c) e = let wrong : false ≡ true = e in cc

      go : (b : Bool) → has_trans t (open_ids k.coordinator) ≡ b → b ≡ true
      go true e = refl
      go false e = absurd (no_both (is_counted (fate_in k.coordinator t)) (counts (fate_in k.coordinator t) runs) (closed_uncounted k.coordinator t e))

  joined_among : (t : TransId) (ls : List LiveJoin) → has_open ls t ≡ true → has_trans t (list_map (λ (l : LiveJoin). l.trans) ls) ≡ true
  joined_among t [] e = let wrong : false ≡ true = e in cc
  joined_among t (l ∷ ls) e = go (is_open l.stage) (same_trans l.trans t) e (joined_among t ls)
    where
      go : (b d : Bool) → ((b && d) || has_open ls t) ≡ true → (has_open ls t ≡ true → has_trans t (list_map (λ (x : LiveJoin). x.trans) ls) ≡ true) → (d || has_trans t (list_map (λ (x : LiveJoin). x.trans) ls)) ≡ true
      go b true e more = refl
      go true false e more = more e
      go false false e more = more e

  among : (t : TransId) → is_open_at t ≡ true → has_trans t candidates ≡ true
  among t e = go (is_running_fate (fate_in k.coordinator t)) refl e
    where
      go : (b : Bool) → is_running_fate (fate_in k.coordinator t) ≡ b → (b || has_open k.joins.lives t) ≡ true → has_trans t candidates ≡ true
      go true runs e = among_first t (open_ids k.coordinator) (list_map (λ (l : LiveJoin). l.trans) k.joins.lives) (running_among t runs)
      go false runs e = among_last t (open_ids k.coordinator) (list_map (λ (l : LiveJoin). l.trans) k.joins.lives) (joined_among t k.joins.lives e)

  -- it has an open part just where that is kept
  open_told : (t : TransId) → is_open_at t ≡ true → HasOpenPart (state_of a) t
  open_told t e = go (is_running_fate (fate_in k.coordinator t)) refl e
    where
      go : (b : Bool) → is_running_fate (fate_in k.coordinator t) ≡ b → (b || has_open k.joins.lives t) ≡ true → HasOpenPart (state_of a) t
      go true runs e = inl (unasked_told a.ids.epoch t (fate_in k.coordinator t) (a.fates t) (h.coordinator.fates t) ∙ runs)
      go false runs e = (let it : HasOpen (state_of a) t = here (state_of a) k.joins h.joins t e in inr (it.0, record { client = it.1; part = it.2 }))

  open_kept : (t : TransId) → HasOpenPart (state_of a) t → is_open_at t ≡ true
  open_kept t o = elim o [
    | inl runs ↦ ap (λ (b : Bool). b || has_open k.joins.lives t) (sym (unasked_told a.ids.epoch t (fate_in k.coordinator t) (a.fates t) (h.coordinator.fates t)) ∙ runs)
    | inr u ↦ or-later (is_running_fate (fate_in k.coordinator t)) (has_open k.joins.lives t) (there (state_of a) k.joins h.joins t (u.0, IsUnvoted.client u.1, IsUnvoted.part u.1))
  ]

  abbrev all_open : List TransId
  all_open = map.keys (passing is_open_at candidates)

  pub least_open : (x y : Option TransId) → IsLeastRunning k.coordinator x → IsLeastOf (has_open k.joins.lives) y → IsLeastOpen (state_of a) (lesser_if x y)
  least_open x y own joined = record {
    all = all_open;
    are = record {
      rise = keys_rise (passing is_open_at candidates);
      parts = λ t. (
          let keys = key_contains (passing is_open_at candidates) t in
          ((λ at. open_told t (there_passes is_open_at candidates t (keys.0 at))), (λ o. keys.1 (passes_there is_open_at candidates t (open_kept t o) (among t (open_kept t o)))))
          );
    };
    first = first_least is_open_at all_open (keys_rise (passing is_open_at candidates)) (λ t at. there_passes is_open_at candidates t (sym (key_there (passing is_open_at candidates) t) ∙ at))
        (λ t so_it_is. key_there (passing is_open_at candidates) t ∙ passes_there is_open_at candidates t so_it_is (among t so_it_is)) (lesser_if x y)
        (lesser_least (λ t. is_running_fate (fate_in k.coordinator t)) (has_open k.joins.lives) x y (running x own) joined);
  }
    where
      running : (z : Option TransId) → IsLeastRunning k.coordinator z → IsLeastOf (λ t. is_running_fate (fate_in k.coordinator t)) z
      running None q = q
      running (Some t) q = q

-- a node tells it
pub open_said : {V : Type 0} (G : Ghosts V) (n : NodeState V) (x y : Option TransId) → IsConsistent G n → IsLeastRunning n.kept.coordinator x → IsLeastOf (has_open n.kept.joins.lives) y → IsTrue (G.tells n.kept.vault) → IsLeastOpen (journal_state (start_in G n) n.journal) (lesser_if x y)
open_said G n x y h own joined told =
    let r : IsRight (start_in G n) (G.held n.kept.vault) n = h.right told in
    subst (λ s. IsLeastOpen s (lesser_if x y)) (sym r.says) (least_open r.state (G.held n.kept.vault) n.kept r.kept x y own joined)
