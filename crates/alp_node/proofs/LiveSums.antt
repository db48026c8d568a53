-- what the journal counts of all live parts is what the server keeps
use Rattle.std.specs.Prelude.{Bool, true, false, not, ◌&&◌, ◌||◌, nat_le, filter, flat_map, Option, None, Some}
use Rattle.std.specs.FinMap as map
use Rattle.std.proofs.Common.{inl, inr, ◌≡◌, ℕ, ◌+◌, ◌<◌, ◌≤◌, List, [], ◌∷◌, ◌++◌, refl, sym, ◌∙◌, ap, subst, arith}
use Rattle.std.proofs.lemmas.Bool.{leb-true, and_parts}
use Rattle.alp_base.specs.declared.ids.JoinNo.{JoinNo}
use Rattle.alp_base.specs.declared.ids.TransId.{TransId}
use Rattle.alp_base.specs.declared.key.Key.{Key}
use Rattle.alp_coord.specs.Ticks.{AreOnce as AreIdsOnce}
use Rattle.alp_files.specs.Needs.{is_leader, is_owner}
use Rattle.alp_vault.specs.Contents.{Contents}
use Rattle.alp_journal.specs.Coordinator.{Fate, Undrawn, Running, Finishing, Committed, Forgotten, Ended, client_of, is_running}
use Rattle.alp_journal.specs.Holder.{Life}
use Rattle.alp_journal.specs.Ids.{same_trans, same_join, has_join}
use Rattle.alp_journal.specs.Laws.{IsHolding, are_joins_apart}
use Rattle.alp_journal.specs.Participant.{Phase, Unseen, Joining, Active, Ready, Applied, Over}
use Rattle.alp_journal.specs.State.{State}
use Rattle.alp_journal.specs.Answers.{need_at, needs_of_all, trans_live, all_live, made_at, made_by_all}
use Rattle.alp_journal.specs.Account.{Account, state_of, has_trans, are_trans_apart, Stands, IsPartAs, IsJoined, IsPhaseOf, IsFateOf as IsToldFate}
use Rattle.alp_journal.proofs.IdLemmas.{same_trans-true, same_trans-itself, same_join-true}
use Rattle.alp_journal.proofs.StandLemmas.{same_join-itself, life_of, pair_of, join_part_is, held_once}
use Rattle.alp_node.specs.ServerState.{IsAs, IsAlike}
use Rattle.alp_node.specs.Totals.{totals_of}
use Rattle.alp_node.specs.declared.lives.Live.{Live}
use Rattle.alp_node.specs.declared.server_state.ServerState.{ServerState}
use Rattle.alp_node.proofs.CountLemmas.{weigh, all_in, sum_list, sum_there}
use Rattle.alp_node.proofs.KeptLemmas.{IsLive, live_there}
use Rattle.alp_node.proofs.PairedLemmas.{or_none, once_passing, passing_there, there_passes, has_left, has_right}

pub not_reached : (m n : ℕ) → n < m → nat_le m n ≡ false
not_reached m n less = go (nat_le m n) refl
  where
    go : (b : Bool) → nat_le m n ≡ b → b ≡ false
    go false e = refl
    go true e = (let wrong : m ≤ n = leb-true m n e in absurd (omega (arith, wrong, less)))

needs_list : (s : State) (ts : List TransId) → needs_of_all s ts ≡ sum_list (λ t. need_at s (s.holder.lives t)) ts
needs_list s [] = refl
needs_list s (t ∷ ts) = ap (λ (n : ℕ). need_at s (s.holder.lives t) + n) (needs_list s ts)

made_list : (p : Key → Bool) (s : State) (ts : List TransId) → made_by_all p s ts ≡ sum_list (λ t. made_at p s (s.holder.lives t)) ts
made_list p s [] = refl
made_list p s (t ∷ ts) = ap (λ (n : ℕ). made_at p s (s.holder.lives t) + n) (made_list p s ts)

-- ---- the live parts of the journal are named once

once_apart : (ts : List TransId) → AreIdsOnce ts → are_trans_apart ts ≡ true
once_apart [] once = refl
once_apart (t ∷ ts) once = ap (λ (b : Bool). not b && are_trans_apart ts) once.0 ∙ once_apart ts once.1

pub apart_once : (ts : List TransId) → are_trans_apart ts ≡ true → AreIdsOnce ts
apart_once [] e = tt
apart_once (t ∷ ts) e = (let both = and_parts (not (has_trans t ts)) (are_trans_apart ts) e in (off (has_trans t ts) both.0, apart_once ts both.1))
  where
    off : (b : Bool) → not b ≡ true → b ≡ false
    off false e = refl
    off true e = let wrong : false ≡ true = e in cc

none_both : (t : TransId) (us vs : List TransId) → has_trans t us ≡ false → has_trans t vs ≡ false → has_trans t (us ++ vs) ≡ false
none_both t [] vs e f = f
none_both t (u ∷ us) vs e f = (let parts = or_none (same_trans u t) (has_trans t us) e in ap (λ (b : Bool). b || has_trans t (us ++ vs)) parts.0 ∙ none_both t us vs parts.1 f)

either : (b d : Bool) → d ≡ true → (b || d) ≡ true
either true d e = refl
either false d e = e

once_both : (us vs : List TransId) → AreIdsOnce us → AreIdsOnce vs → ((t : TransId) → has_trans t us ≡ true → has_trans t vs ≡ false) → AreIdsOnce (us ++ vs)
once_both [] vs a b off = b
once_both (u ∷ us) vs a b off = (
  none_both u us vs a.0 (off u (ap (λ (x : Bool). x || has_trans u us) (same_trans-itself u))),
  once_both us vs a.1 b (λ t here. off t (either (same_trans u t) (has_trans t us) here)),
)

client_runs : (f : Fate) (n : ℕ) → client_of f ≡ Some n → is_running f ≡ true
client_runs (Running c js) n e = refl
client_runs (Finishing c js vs) n e = refl
client_runs Undrawn n e = let wrong : None ≡ Some n = e in cc
client_runs (Committed s js ds) n e = let wrong : None ≡ Some n = e in cc
client_runs (Forgotten s js) n e = let wrong : None ≡ Some n = e in cc
client_runs (Ended c) n e = let wrong : None ≡ Some n = e in cc

module _ (a : Account) (q : Stands a) where
  abbrev joined_ids : List JoinNo → List TransId
  joined_ids js = flat_map (λ (j : JoinNo). trans_live (a.phases j)) js

  abbrev running_ids : List TransId
  running_ids = filter (λ t. is_running (a.fates t)) a.begun

  -- one of the joins has the part
  record IsHeldIn (t : TransId) (js : List JoinNo) : Type 0 where
    j : JoinNo
    there : has_join j js ≡ true
    holds : IsHolding t (a.phases j)

  held_there : (t : TransId) (js : List JoinNo) → has_trans t (joined_ids js) ≡ true → IsHeldIn t js
  held_there t [] e = let wrong : false ≡ true = e in cc
  held_there t (j ∷ js) e = go (a.phases j) refl e (held_there t js)
    where
      more : IsHeldIn t js → IsHeldIn t (j ∷ js)
      more x = record { j = x.j; there = either (same_join j x.j) (has_join x.j js) x.there; holds = x.holds }

      this : IsHolding t (a.phases j) → IsHeldIn t (j ∷ js)
      this x = record { j = j; there = ap (λ (b : Bool). b || has_join j js) (same_join-itself j); holds = x }

      by : (u : TransId) → (IsHolding u (a.phases j)) → (b : Bool) → same_trans u t ≡ b → (b || has_trans t (joined_ids js)) ≡ true → (has_trans t (joined_ids js) ≡ true → IsHeldIn t js) → IsHeldIn t (j ∷ js)
      by u x true s e rest = this (subst (λ (v : TransId). IsHolding v (a.phases j)) (same_trans-true u t s) x)
      by u x false s e rest = more (rest e)

      go : (p : Phase) → a.phases j ≡ p → has_trans t (trans_live p ++ joined_ids js) ≡ true → (has_trans t (joined_ids js) ≡ true → IsHeldIn t js) → IsHeldIn t (j ∷ js)
      go Unseen is e rest = more (rest e)
      go (Joining u c who) is e rest = more (rest e)
      go (Active u c who) is e rest = by u (subst (IsHolding u) (sym is) refl) (same_trans u t) refl e rest
      go (Ready u c ts) is e rest = by u (subst (IsHolding u) (sym is) refl) (same_trans u t) refl e rest
      go (Applied u x) is e rest = more (rest e)
      go Over is e rest = more (rest e)

  once_joined : (js : List JoinNo) → are_joins_apart js ≡ true → AreIdsOnce (joined_ids js)
  once_joined [] e = tt
  once_joined (j ∷ js) e = (let both = and_parts (not (has_join j js)) (are_joins_apart js) e in go both.0 (a.phases j) refl (once_joined js both.1))
    where
      off : not (has_join j js) ≡ true → (t : TransId) → IsHolding t (a.phases j) → has_trans t (joined_ids js) ≡ false
      off away t holds = by (has_trans t (joined_ids js)) refl
        where
          by : (b : Bool) → has_trans t (joined_ids js) ≡ b → b ≡ false
          by false e = refl
          by true e =
              let x : IsHeldIn t js = held_there t js e in
              let same : x.j ≡ j = held_once a q t x.j j x.holds holds in
              let wrong : false ≡ true = ap not (sym (ap (λ (i : JoinNo). has_join i js) (sym same) ∙ x.there)) ∙ away in
              cc

      go : not (has_join j js) ≡ true → (p : Phase) → a.phases j ≡ p → AreIdsOnce (joined_ids js) → AreIdsOnce (trans_live p ++ joined_ids js)
      go away Unseen is rest = rest
      go away (Joining u c who) is rest = rest
      go away (Active u c who) is rest = (off away u (subst (IsHolding u) (sym is) refl), rest)
      go away (Ready u c ts) is rest = (off away u (subst (IsHolding u) (sym is) refl), rest)
      go away (Applied u x) is rest = rest
      go away Over is rest = rest

  -- the transaction of a join does not run here
  joined_rests : (t : TransId) (j : JoinNo) → IsHolding t (a.phases j) → is_running (a.fates t) ≡ false
  joined_rests t j holds = (let (l, live, of) = life_of a q t j holds in (join_part_is t a.phases l (a.fates t) j of (pair_of a q t l live)).1)

  all_once : are_trans_apart (all_live (state_of a)) ≡ true
  all_once =
      once_apart (running_ids ++ joined_ids a.joined)
      (once_both running_ids (joined_ids a.joined) (once_passing (λ t. is_running (a.fates t)) a.begun (apart_once a.begun q.begun)) (once_joined a.joined q.joined) (λ t here. off t here (has_trans t (joined_ids a.joined)) refl))
    where
      off : (t : TransId) → has_trans t running_ids ≡ true → (b : Bool) → has_trans t (joined_ids a.joined) ≡ b → b ≡ false
      off t here false e = refl
      off t here true e =
          let x : IsHeldIn t a.joined = held_there t a.joined e in
          let wrong : true ≡ false = sym (there_passes (λ u. is_running (a.fates u)) t a.begun here) ∙ joined_rests t x.j x.holds in
          cc

  -- each live part is one of them
  begun_of : (t : TransId) (f : Fate) → is_running f ≡ true → IsToldFate a.servers a.holder.server a.ids.epoch a.ids.transactions a.begun t f → has_trans t a.begun ≡ true
  begun_of t (Running c js) e h = h.0.1
  begun_of t (Finishing c js vs) e h = h.0.1
  begun_of t Undrawn e h = let wrong : false ≡ true = e in cc
  begun_of t (Committed s js ds) e h = let wrong : false ≡ true = e in cc
  begun_of t (Forgotten s js) e h = let wrong : false ≡ true = e in cc
  begun_of t (Ended c) e h = let wrong : false ≡ true = e in cc

  joined_has : (t : TransId) (j : JoinNo) → has_trans t (trans_live (a.phases j)) ≡ true → (js : List JoinNo) → has_join j js ≡ true → has_trans t (joined_ids js) ≡ true
  joined_has t j has [] e = let wrong : false ≡ true = e in cc
  joined_has t j has (i ∷ js) e = go (same_join i j) refl e (joined_has t j has js)
    where
      go : (b : Bool) → same_join i j ≡ b → (b || has_join j js) ≡ true → (has_join j js ≡ true → has_trans t (joined_ids js) ≡ true) → has_trans t (trans_live (a.phases i) ++ joined_ids js) ≡ true
      go true s e rest = has_left t (trans_live (a.phases i)) (joined_ids js) (ap (λ (k : JoinNo). has_trans t (trans_live (a.phases k))) (same_join-true i j s) ∙ has)
      go false s e rest = has_right t (trans_live (a.phases i)) (joined_ids js) (rest e)

  life_named : (t : TransId) (l : Life) → a.holder.lives t ≡ Some l → has_trans t (all_live (state_of a)) ≡ true
  life_named t l live = go l.join refl
    where
      itself : has_trans t (t ∷ []) ≡ true
      itself = ap (λ (b : Bool). b || false) (same_trans-itself t)

      by : (j : JoinNo) (p : Phase) → a.phases j ≡ p → has_trans t (trans_live p) ≡ true → IsPhaseOf a.servers a.holder.server a.ids.epoch a.ids.joins a.joined j p → has_trans t (all_live (state_of a)) ≡ true
      by j (Active u c who) is has h = has_right t running_ids (joined_ids a.joined) (joined_has t j (ap (λ (p : Phase). has_trans t (trans_live p)) is ∙ has) a.joined h.0.1)
      by j (Ready u c ts) is has h = has_right t running_ids (joined_ids a.joined) (joined_has t j (ap (λ (p : Phase). has_trans t (trans_live p)) is ∙ has) a.joined h.0.1)
      by j Unseen is has h = let wrong : false ≡ true = has in cc
      by j (Joining u c who) is has h = let wrong : false ≡ true = has in cc
      by j (Applied u x) is has h = let wrong : false ≡ true = has in cc
      by j Over is has h = let wrong : false ≡ true = has in cc

      joined : (j : JoinNo) → IsJoined t l (a.phases j) → has_trans t (all_live (state_of a)) ≡ true
      joined j h = elim h [
        | inl x ↦ by j (Active t l.client l.who) x.0 itself (subst (IsPhaseOf a.servers a.holder.server a.ids.epoch a.ids.joins a.joined j) x.0 (q.phases j))
        | inr x ↦ by j (Ready t l.client x.0) x.1 itself (subst (IsPhaseOf a.servers a.holder.server a.ids.epoch a.ids.joins a.joined j) x.1 (q.phases j))
      ]

      go : (o : Option JoinNo) → l.join ≡ o → has_trans t (all_live (state_of a)) ≡ true
      go None is =
          let runs : is_running (a.fates t) ≡ true = client_runs (a.fates t) l.client (subst (IsPartAs t a.phases l (a.fates t)) is (pair_of a q t l live)).0 in
          has_left t running_ids (joined_ids a.joined) (passing_there (λ u. is_running (a.fates u)) t a.begun runs (begun_of t (a.fates t) runs (q.fates t)))
      go (Some j) is = joined j (join_part_is t a.phases l (a.fates t) j is (pair_of a q t l live)).0

-- ---- what they come to

module _ {V : Type 0} (a : Account) (held : Contents) (k : ServerState V) (h : IsAs a held k) where
  named_live : (t : TransId) (l : Live) → map.get k.lives t ≡ Some l → has_trans t (all_live (state_of a)) ≡ true
  named_live t l there =
      let y : IsLive a.holder.cells k.locks.held (a.locked t) t l (a.holder.lives t) = live_there a.holder.cells k.locks.held (a.locked t) t (map.get k.lives t) (a.holder.lives t) l there (h.lives t) in
      life_named a h.quiet.settled.stands t y.life y.is

  -- what the live parts of the journal come to
  all_sum : (g : Live → ℕ) (f : Option Life → ℕ) → ((t : TransId) (o : Option Live) (x : Option Life) → IsAlike a.holder.cells k.locks.held (a.locked t) t o x → f x ≡ weigh g o)
      → sum_list (λ t. f (a.holder.lives t)) (all_live (state_of a)) ≡ all_in g k.lives
  all_sum g f same =
      sum_there g (λ t. f (a.holder.lives t)) (all_live (state_of a)) k.lives (all_once a h.quiet.settled.stands) named_live (λ t. same t (map.get k.lives t) (a.holder.lives t) (h.lives t))

  need_same : (t : TransId) (o : Option Live) (x : Option Life) → IsAlike a.holder.cells k.locks.held (a.locked t) t o x → need_at (state_of a) x ≡ weigh (λ (l : Live). l.part.counts.places) o
  need_same t None None x = refl
  need_same t (Some l) (Some life) x = sym x.counts.places
  need_same t None (Some life) x = absurd x
  need_same t (Some l) None x = absurd x

  files_same : (t : TransId) (o : Option Live) (x : Option Life) → IsAlike a.holder.cells k.locks.held (a.locked t) t o x → made_at is_leader (state_of a) x ≡ weigh (λ (l : Live). l.part.counts.files) o
  files_same t None None x = refl
  files_same t (Some l) (Some life) x = sym x.counts.files
  files_same t None (Some life) x = absurd x
  files_same t (Some l) None x = absurd x

  owners_same : (t : TransId) (o : Option Live) (x : Option Life) → IsAlike a.holder.cells k.locks.held (a.locked t) t o x → made_at is_owner (state_of a) x ≡ weigh (λ (l : Live). l.part.counts.owners) o
  owners_same t None None x = refl
  owners_same t (Some l) (Some life) x = sym x.counts.owners
  owners_same t None (Some life) x = absurd x
  owners_same t (Some l) None x = absurd x

  pub all_needs : needs_of_all (state_of a) (all_live (state_of a)) ≡ (totals_of k.lives).places
  all_needs = needs_list (state_of a) (all_live (state_of a)) ∙ all_sum (λ (l : Live). l.part.counts.places) (need_at (state_of a)) need_same

  pub all_files : made_by_all is_leader (state_of a) (all_live (state_of a)) ≡ (totals_of k.lives).files
  all_files = made_list is_leader (state_of a) (all_live (state_of a)) ∙ all_sum (λ (l : Live). l.part.counts.files) (made_at is_leader (state_of a)) files_same

  pub all_owners : made_by_all is_owner (state_of a) (all_live (state_of a)) ≡ (totals_of k.lives).owners
  all_owners = made_list is_owner (state_of a) (all_live (state_of a)) ∙ all_sum (λ (l : Live). l.part.counts.owners) (made_at is_owner (state_of a)) owners_same
