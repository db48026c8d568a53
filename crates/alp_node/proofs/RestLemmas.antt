-- whether all is at rest at a server, by what it keeps
use Rattle.std.specs.Prelude.{cond, Bool, true, false, ◌&&◌, ◌||◌, ◌==◌, filter, slice_get, IsTrue, Option, None, Some, is_none, is_some}
use Rattle.std.specs.FinMap as map
use Rattle.std.proofs.Common.{◌⊎◌, ◌≡◌, ℕ, List, [], ◌∷◌, length, refl, sym, ◌∙◌, ap, subst, arith, eq-eqb, inl, inr}
use Rattle.std.proofs.lemmas.Bool.{and_parts, eqb-true}
use Rattle.alp_base.specs.declared.ids.JoinNo.{JoinNo}
use Rattle.alp_base.specs.declared.ids.Stamp.{Stamp}
use Rattle.alp_base.specs.declared.ids.TransId.{TransId}
use Rattle.alp_base.specs.declared.key.Resource.{Resource}
use Rattle.alp_vault.specs.Contents.{Contents}
use Rattle.alp_vault.specs.declared.vault.Vault.{Ghosts}
use Rattle.alp_journal.specs.Account.{Account, state_of, HasLife, IsPaired, IsFateOf as IsToldFate}
use Rattle.alp_journal.specs.Along.{Where}
use Rattle.alp_journal.specs.Answers.{is_counted}
use Rattle.alp_journal.specs.Coordinator.{Fate, Undrawn, Running, Finishing, Committed, Forgotten, Ended, is_running}
use Rattle.alp_journal.specs.Holder.{Life}
use Rattle.alp_journal.specs.Ids.{same_stamp, same_trans}
use Rattle.alp_journal.specs.Laws.{is_standing}
use Rattle.alp_journal.specs.Participant.{Phase, Unseen, Joining, Active, Ready, Applied, Over, is_ready}
use Rattle.alp_journal.proofs.IdLemmas.{same_trans-itself}
use Rattle.alp_coord.specs.declared.coordinator.Coordinator.{Coordinator}
use Rattle.alp_coord.specs.Coordinators.{counted_of, fate_in, is_running_fate, open_ids}
use Rattle.alp_coord.specs.Likeness.{IsLike, same, finishing, committed, is_over, IsLikeOld, standing, nothing, IsFateOf}
use Rattle.alp_coord.specs.Ticks.{has_trans}
use Rattle.alp_node.specs.NodeStates.{NodeState}
use Rattle.alp_node.specs.Nodes.{IsConsistent, IsRight, start_in, state_of as journal_state}
use Rattle.alp_node.specs.Opens.{IsAtRest, IsRestOf, is_unasked}
use Rattle.alp_node.specs.ServerState.{IsAs, IsAlike}
use Rattle.alp_node.specs.Totals.{LiveMap}
use Rattle.alp_node.specs.declared.lives.Live.{Live}
use Rattle.alp_node.specs.declared.server_state.ServerState.{ServerState}
use Rattle.alp_node.proofs.KeptLemmas.{none_live}
use Rattle.alp_node.proofs.PairedLemmas.{counted_list, counted_there}
use Rattle.alp_node.proofs.TransactionLemmas.{key_there}

-- ---- what is known of a transaction, and what is told

same_unasked : (f : Fate) → is_unasked f ≡ is_running_fate f
same_unasked Undrawn = refl
same_unasked (Running c js) = refl
same_unasked (Finishing c js vs) = refl
same_unasked (Committed s js ds) = refl
same_unasked (Forgotten s js) = refl
same_unasked (Ended c) = refl

over_asked : (f : Fate) → is_over f ≡ true → is_unasked f ≡ false
over_asked Undrawn e = refl
over_asked (Running c js) e = let wrong : false ≡ true = e in cc
over_asked (Finishing c js vs) e = refl
over_asked (Committed s js ds) e = refl
over_asked (Forgotten s js) e = refl
over_asked (Ended c) e = refl

-- it runs and nobody asked for its end just where that is known
pub unasked_told : (epoch : ℕ) (t : TransId) (known told : Fate) → IsFateOf epoch t known told → is_unasked told ≡ is_running_fate known
unasked_told epoch t known told h = go (t.epoch == epoch) h
  where
    like : (f g : Fate) → IsLike f g → is_unasked g ≡ is_running_fate f
    like _ _ (same f) = same_unasked f
    like _ _ (finishing c ks vs ws k) = refl
    like _ _ (committed s ks ds es k) = refl

    old : (f g : Fate) → IsLikeOld f g → is_unasked g ≡ is_running_fate f
    old _ _ (standing s j ks ds es k) = refl
    old _ _ (nothing f e) = over_asked f e

    go : (b : Bool) → Where b (IsLike known told) (IsLikeOld known told) → is_unasked told ≡ is_running_fate known
    go true k = like known told k
    go false k = old known told k

-- a decision that stands counts
pub standing_counts : (epoch : ℕ) (t : TransId) (known told : Fate) (x : Stamp) → IsFateOf epoch t known told → is_standing x told ≡ true → is_counted known ≡ true
standing_counts epoch t known told x h is = go (t.epoch == epoch) h is
  where
    itself : (f : Fate) → is_standing x f ≡ true → is_counted f ≡ true
    itself (Committed s (j ∷ js) ds) e = refl
    itself (Committed s [] ds) e = let wrong : false ≡ true = e in cc
    itself Undrawn e = let wrong : false ≡ true = e in cc
    itself (Running c js) e = let wrong : false ≡ true = e in cc
    itself (Finishing c js vs) e = let wrong : false ≡ true = e in cc
    itself (Forgotten s js) e = let wrong : false ≡ true = e in cc
    itself (Ended c) e = let wrong : false ≡ true = e in cc

    over_stands : (f : Fate) → is_over f ≡ true → is_standing x f ≡ true → ⊥
    over_stands (Committed s (j ∷ js) ds) o e = let wrong : false ≡ true = o in cc
    over_stands (Committed s [] ds) o e = let wrong : false ≡ true = e in cc
    over_stands Undrawn o e = let wrong : false ≡ true = e in cc
    over_stands (Running c js) o e = let wrong : false ≡ true = e in cc
    over_stands (Finishing c js vs) o e = let wrong : false ≡ true = e in cc
    over_stands (Forgotten s js) o e = let wrong : false ≡ true = e in cc
    over_stands (Ended c) o e = let wrong : false ≡ true = e in cc

    like : (f g : Fate) → IsLike f g → is_standing x g ≡ true → is_counted f ≡ true
    like _ _ (same f) e = itself f e
    like _ _ (finishing c ks vs ws k) e = let wrong : false ≡ true = e in cc
    like _ _ (committed s [] ds es k) e = let wrong : false ≡ true = e in cc
    like _ _ (committed s (j ∷ ks) ds es k) e = refl

    old : (f g : Fate) → IsLikeOld f g → is_standing x g ≡ true → is_counted f ≡ true
    old _ _ (standing s j ks ds es k) e = refl
    old _ _ (nothing f o) e = absurd (over_stands f o e)

    go : (b : Bool) → Where b (IsLike known told) (IsLikeOld known told) → is_standing x told ≡ true → is_counted known ≡ true
    go true k e = like known told k e
    go false k e = old known told k e

-- what counts runs, or is a decision that stands
abbrev pub CountsFor : Fate → Type 0
CountsFor f = (is_running f ≡ true) ⊎ ((s : Stamp) × (j : JoinNo) × (js : List JoinNo) × (ds : List JoinNo) × (f ≡ Committed s (j ∷ js) ds))

pub counts_for : (epoch : ℕ) (t : TransId) (known told : Fate) → IsFateOf epoch t known told → is_counted known ≡ true → CountsFor told
counts_for epoch t known told h is = go (t.epoch == epoch) h is
  where
    itself : (f : Fate) → is_counted f ≡ true → CountsFor f
    itself (Running c js) e = inl refl
    itself (Finishing c js vs) e = inl refl
    itself (Committed s (j ∷ js) ds) e = inr (s, j, js, ds, refl)
    itself (Committed s [] ds) e = let wrong : false ≡ true = e in cc
    itself Undrawn e = let wrong : false ≡ true = e in cc
    itself (Forgotten s js) e = let wrong : false ≡ true = e in cc
    itself (Ended c) e = let wrong : false ≡ true = e in cc

    like : (f g : Fate) → IsLike f g → is_counted f ≡ true → CountsFor g
    like _ _ (same f) e = itself f e
    like _ _ (finishing c ks vs ws k) e = inl refl
    like _ _ (committed s (j ∷ js) ds es k) e = inr (s, j, js, es, refl)
    like _ _ (committed s [] ds es k) e = let wrong : false ≡ true = e in cc

    old : (f g : Fate) → IsLikeOld f g → is_counted f ≡ true → CountsFor g
    old _ _ (standing s j js ds es k) e = inr (s, j, js, es, refl)
    old _ _ (nothing f o) e = let wrong : false ≡ true = e in cc

    go : (b : Bool) → Where b (IsLike known told) (IsLikeOld known told) → is_counted known ≡ true → CountsFor told
    go true k e = like known told k e
    go false k e = old known told k e

-- ---- none counts, and none is kept

pub none_counts : (c : Coordinator) → counted_of c ≡ 0 → (t : TransId) → is_counted (fate_in c t) ≡ false
none_counts c none t = go (is_counted (fate_in c t)) refl
  where
    empty : (ts : List TransId) → length ts ≡ 0 → has_trans t ts ≡ true → ⊥
    empty [] e h = let wrong : false ≡ true = h in cc
    empty (u ∷ us) e h = absurd (omega (arith, e))

    go : (b : Bool) → is_counted (fate_in c t) ≡ b → b ≡ false
    go false e = refl
    go true e = absurd (empty (counted_list c) none (counted_there c t e))

pub counts_none_left : (c : Coordinator) → ((t : TransId) → is_counted (fate_in c t) ≡ false) → counted_of c ≡ 0
counts_none_left c none = go (open_ids c)
  where
    go : (ts : List TransId) → length (filter (λ t. is_counted (fate_in c t)) ts) ≡ 0
    go [] = refl
    go (t ∷ ts) = ap (λ (b : Bool). length (cond {A = List TransId} b (t ∷ filter (λ u. is_counted (fate_in c u)) ts) (filter (λ u. is_counted (fate_in c u)) ts))) (none t) ∙ go ts

pub none_kept_at : (m : LiveMap) → slice_get (map.keys m) 0 ≡ None → (t : TransId) → map.get m t ≡ None
none_kept_at m none t = go (map.get m t) (empty (map.keys m) none (key_there m t))
  where
    empty : (ts : List TransId) → slice_get ts 0 ≡ None → has_trans t ts ≡ is_some (map.get m t) → is_some (map.get m t) ≡ false
    empty [] e h = sym h
    empty (u ∷ us) e h = let wrong : Some u ≡ None = e in cc

    go : (x : Option Live) → is_some x ≡ false → x ≡ None
    go None e = refl
    go (Some l) e = let wrong : true ≡ false = e in cc

pub none_kept_first : (m : LiveMap) → ((t : TransId) → map.get m t ≡ None) → slice_get (map.keys m) 0 ≡ None
none_kept_first m none = go (map.keys m) (key_there m)
  where
    go : (ts : List TransId) → ((t : TransId) → has_trans t ts ≡ is_some (map.get m t)) → slice_get ts 0 ≡ None
    go [] h = refl
    go (u ∷ us) h =
        let wrong : true ≡ false = sym (ap (λ (b : Bool). b || has_trans u us) (same_trans-itself u)) ∙ h u ∙ ap (λ (x : Option Live). is_some x) (none u) in
        cc

-- ---- at rest

module _ {V : Type 0} (a : Account) (held : Contents) (k : ServerState V) (h : IsAs a held k) where
  -- nothing counts and no part is kept
  pub rests_told : counted_of k.coordinator ≡ 0 → slice_get (map.keys k.lives) 0 ≡ None → IsAtRest (state_of a)
  rests_told none first = record {
    parts = gone;
    ready = λ j. unready j (a.phases j) (h.quiet.settled.stands.held j);
    decisions = λ x. over x (is_standing x (a.fates x.trans)) refl;
  }
    where
      gone : (t : TransId) → a.holder.lives t ≡ None
      gone t = none_live a.holder.cells k.locks.held (a.locked t) t (map.get k.lives t) (a.holder.lives t) (none_kept_at k.lives first t) (h.lives t)

      unready : (j : JoinNo) (p : Phase) → HasLife a.holder.lives j p → is_ready p ≡ false
      unready j (Ready t client ts) q = let wrong : None ≡ Some q.0 = sym (gone t) ∙ q.1 in cc
      unready j Unseen q = refl
      unready j (Joining t client who) q = refl
      unready j (Active t client who) q = refl
      unready j (Applied t stamp) q = refl
      unready j Over q = refl

      over : (x : Stamp) (b : Bool) → is_standing x (a.fates x.trans) ≡ b → b ≡ false
      over x false e = refl
      over x true e =
          let wrong : true ≡ false = sym (standing_counts a.ids.epoch x.trans (fate_in k.coordinator x.trans) (a.fates x.trans) x (h.coordinator.fates x.trans) e) ∙ none_counts k.coordinator none x.trans in
          cc

  -- and the other way
  pub rests_kept : IsAtRest (state_of a) → (counted_of k.coordinator ≡ 0) × (slice_get (map.keys k.lives) 0 ≡ None)
  rests_kept rest = (counts_none_left k.coordinator (λ t. uncounted t (is_counted (fate_in k.coordinator t)) refl), none_kept_first k.lives (λ t. unkept (a.locked t) t (map.get k.lives t) (a.holder.lives t) (rest.parts t) (h.lives t)))
    where
      unkept : (rs : List Resource) (t : TransId) (x : Option Live) (y : Option Life) → y ≡ None → IsAlike a.holder.cells k.locks.held rs t x y → x ≡ None
      unkept rs t None y e alike = refl
      unkept rs t (Some l) None e alike = absurd alike
      unkept rs t (Some l) (Some life) e alike = let wrong : Some life ≡ None = e in cc

      runs_not : (t : TransId) (x : Option Life) → x ≡ None → IsPaired t a.phases x (a.fates t) → is_running (a.fates t) ≡ true → ⊥
      runs_not t None e p runs = let wrong : true ≡ false = sym runs ∙ p in cc
      runs_not t (Some l) e p runs = let wrong : Some l ≡ None = e in cc

      stamp_itself : (s : Stamp) → same_stamp s s ≡ true
      stamp_itself s = ap (λ (b : Bool). b && same_trans s.trans s.trans) (eq-eqb s.ts s.ts refl) ∙ same_trans-itself s.trans

      its : (t : TransId) (f : Fate) (s : Stamp) (j : JoinNo) (js ds : List JoinNo) → f ≡ Committed s (j ∷ js) ds → IsToldFate a.servers a.holder.server a.ids.epoch a.ids.transactions a.begun t f → s.trans ≡ t
      its t f s j js ds e k = (subst (IsToldFate a.servers a.holder.server a.ids.epoch a.ids.transactions a.begun t) e k).1

      for_none : (t : TransId) → CountsFor (a.fates t) → ⊥
      for_none t c = elim c [
        | inl runs ↦ runs_not t (a.holder.lives t) (rest.parts t) (h.quiet.settled.stands.paired t) runs
        | inr d ↦ (
            let s : Stamp = d.0 in
            let at : s.trans ≡ t = its t (a.fates t) s d.1 d.2 d.3 d.4 (h.quiet.settled.stands.fates t) in
            let stands : is_standing s (a.fates s.trans) ≡ true = ap (λ (u : TransId). is_standing s (a.fates u)) at ∙ ap (is_standing s) d.4 ∙ stamp_itself s in
            let wrong : true ≡ false = sym stands ∙ rest.decisions s in
            absurd (true_false wrong))
      ]
        where
          true_false : true ≡ false → ⊥
          true_false e = cc

      uncounted : (t : TransId) (b : Bool) → is_counted (fate_in k.coordinator t) ≡ b → b ≡ false
      uncounted t false e = refl
      uncounted t true e = absurd (for_none t (counts_for a.ids.epoch t (fate_in k.coordinator t) (a.fates t) (h.coordinator.fates t) e))

-- a node tells it
pub rest_said : {V : Type 0} (G : Ghosts V) (n : NodeState V) (counted : ℕ) (first : Option TransId) → IsConsistent G n → counted ≡ counted_of n.kept.coordinator → first ≡ slice_get (map.keys n.kept.lives) 0 → IsTrue (G.tells n.kept.vault)
    → IsRestOf ((counted == 0) && is_none first) (journal_state (start_in G n) n.journal)
rest_said G n counted first h kept least told =
    let r : IsRight (start_in G n) (G.held n.kept.vault) n = h.right told in
    subst (IsRestOf ((counted == 0) && is_none first)) (sym r.says) (
      (λ e. (
          let both = and_parts (counted == 0) (is_none first) e in
          rests_told r.state (G.held n.kept.vault) n.kept r.kept (sym kept ∙ eqb-true counted 0 both.0) (sym least ∙ none_is first both.1)
          )),
      (λ rest. (
          let q = rests_kept r.state (G.held n.kept.vault) n.kept r.kept rest in
          ap (λ (b : Bool). b && is_none first) (eq-eqb counted 0 (kept ∙ q.0)) ∙ ap (λ (x : Option TransId). is_none x) (least ∙ q.1)
          )),
    )
  where
    none_is : (x : Option TransId) → is_none x ≡ true → x ≡ None
    none_is None e = refl
    none_is (Some t) e = let wrong : false ≡ true = e in cc
