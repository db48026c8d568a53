-- what stands goes on as a fate moves, as a part is over, and as a join is drawn, let in, votes, and is over
use Rattle.std.specs.Prelude.{cond, Bool, true, false, ◌&&◌, ◌||◌, ◌==◌, Option, None, Some}
use Rattle.std.proofs.lemmas.Bool.{or_right}
use Rattle.std.proofs.Common.{inl, inr, ◌≡◌, ℕ, ◌+◌, ◌<◌, ◌≤◌, List, [], ◌∷◌, ◌++◌, refl, sym, ◌∙◌, ap, subst, arith}
use Rattle.alp_base.specs.declared.ids.JoinNo.{JoinNo}
use Rattle.alp_base.specs.declared.ids.Stamp.{Stamp}
use Rattle.alp_base.specs.declared.ids.TransId.{TransId}
use Rattle.alp_files.specs.Cells.{Cells}
use Rattle.alp_files.specs.Edits.{Edit}
use Rattle.alp_files.specs.History.{Decided}
use Rattle.alp_files.specs.Holdings.{DoAgree}
use Rattle.alp_files.proofs.FilesLemmas.{same-some}
use Rattle.alp_journal.specs.Ids.{same_trans, same_join, has_join}
use Rattle.alp_journal.specs.Coordinator.{Fate, client_of, is_running, has_votes}
use Rattle.alp_journal.specs.Participant.{Phase, Unseen, Joining, Active, Ready, Applied, Over, live_in, open_in}
use Rattle.alp_journal.specs.Participant as phase
use Rattle.alp_journal.specs.Holder.{Holder, Life, new_life, with_life}
use Rattle.alp_journal.specs.State.{is_whose}
use Rattle.alp_journal.specs.Moves.{next_join}
use Rattle.alp_journal.specs.Laws.{IsHolding}
use Rattle.alp_journal.specs.Answered.{is_all_done}
use Rattle.alp_journal.specs.Account.{Account, state_of, IsJoined, IsPartAs, IsPaired, HasLife, is_other, IsFateOf, IsPhaseOf, HasNoJoin, Stands}
use Rattle.alp_journal.proofs.IdLemmas.{same_trans-itself, same_join-true}
use Rattle.alp_journal.proofs.WaitLemmas.{turned}
use Rattle.alp_journal.proofs.StandLemmas.{same_join-itself, any-last, joins-last, drawn_next, moved_all, moved_each, moved_phase, phase_more, not_both_servers, one_held, join_part_is, paired_set, paired_moved, paired_free, pair-fate, held_kept, held_set, own_unheld, running_here, pair_of, life_of, held_once, whose_own}
use Rattle.alp_journal.proofs.QuietLemmas.{agree_set, agree_without}

-- ---- fates alone

-- one moves that runs as it did, for the same client
pub stands_fated : (a : Account) → Stands a → (t : TransId) (move : Fate → Fate) → client_of (move (a.fates t)) ≡ client_of (a.fates t) → is_running (move (a.fates t)) ≡ is_running (a.fates t)
    → has_votes (move (a.fates t)) ≡ false → is_all_done (move (a.fates t)) ≡ false → IsFateOf a.servers a.holder.server a.ids.epoch a.ids.transactions a.begun t (move (a.fates t))
    → Stands (record a { fates = λ u. cond {A = Fate} (same_trans t u) (move (a.fates u)) (a.fates u) })
stands_fated a q t move client runs votes done of = record {
  agree = q.agree;
  paired = moved_all (λ u f. IsPaired u a.phases (a.holder.lives u) f) a.fates t move (λ u away. q.paired u) (pair-fate t a.phases (a.holder.lives t) (a.fates t) (move (a.fates t)) client runs (q.paired t));
  held = q.held;
  votes = moved_all (λ u f. has_votes f ≡ false) a.fates t move (λ u away. q.votes u) votes;
  forgets = moved_all (λ u f. is_all_done f ≡ false) a.fates t move (λ u away. q.forgets u) done;
  fates = moved_all (IsFateOf a.servers a.holder.server a.ids.epoch a.ids.transactions a.begun) a.fates t move (λ u away. q.fates u) of;
  begun = q.begun;
  known = q.known;
  phases = q.phases;
  joined = q.joined;
  single = q.single;
  order = q.order;
}

-- ---- phases

-- it is over: no part of it is live
pub record IsSpent (p : Phase) : Type 0 where
  pub live : live_in p ≡ None
  pub holds : (u : TransId) → IsHolding u p → ⊥
  pub life : (lives : TransId → Option Life) (j : JoinNo) → HasLife lives j p

pub spent_over : IsSpent Over
spent_over = record { live = refl; holds = λ u h. h; life = λ lives j. tt }

pub spent_applied : (t : TransId) (stamp : Stamp) → IsSpent (Applied t stamp)
spent_applied t stamp = record { live = refl; holds = λ u h. h; life = λ lives j. tt }

-- what is live then was so before
pub live_before : (phases : JoinNo → Phase) (j : JoinNo) (move : Phase → Phase) → live_in (move (phases j)) ≡ None → (k : JoinNo) (x : TransId × ℕ) → live_in (cond {A = Phase} (same_join j k) (move (phases k)) (phases k)) ≡ Some x → live_in (phases k) ≡ Some x
live_before phases j move over k x = go (same_join j k) refl
  where
    go : (b : Bool) → same_join j k ≡ b → live_in (cond {A = Phase} b (move (phases k)) (phases k)) ≡ Some x → live_in (phases k) ≡ Some x
    go true e is =
        let wrong : None ≡ Some x = sym over ∙ ap (λ (i : JoinNo). live_in (move (phases i))) (same_join-true j k e) ∙ is in
        cc
    go false e is = is

-- what was live is so still
pub live_still : (phases : JoinNo → Phase) (j : JoinNo) (move : Phase → Phase) → live_in (move (phases j)) ≡ live_in (phases j) → (k : JoinNo) → live_in (cond {A = Phase} (same_join j k) (move (phases k)) (phases k)) ≡ live_in (phases k)
live_still phases j move same k = go (same_join j k) refl
  where
    go : (b : Bool) → same_join j k ≡ b → live_in (cond {A = Phase} b (move (phases k)) (phases k)) ≡ live_in (phases k)
    go true e = ap (λ (i : JoinNo). live_in (move (phases i))) (sym (same_join-true j k e)) ∙ same ∙ ap (λ (i : JoinNo). live_in (phases i)) (same_join-true j k e)
    go false e = refl

pub open_still : (phases : JoinNo → Phase) (j : JoinNo) (move : Phase → Phase) → open_in (move (phases j)) ≡ open_in (phases j) → (k : JoinNo) → open_in (cond {A = Phase} (same_join j k) (move (phases k)) (phases k)) ≡ open_in (phases k)
open_still phases j move same k = go (same_join j k) refl
  where
    go : (b : Bool) → same_join j k ≡ b → open_in (cond {A = Phase} b (move (phases k)) (phases k)) ≡ open_in (phases k)
    go true e = ap (λ (i : JoinNo). open_in (move (phases i))) (sym (same_join-true j k e)) ∙ same ∙ ap (λ (i : JoinNo). open_in (phases i)) (same_join-true j k e)
    go false e = refl

-- a join of one transaction holds no part of another
pub none_alien : (t : TransId) (p : Phase) → IsHolding t p → (u : TransId) → same_trans u t ≡ false → IsHolding u p → ⊥
none_alien t p h u away k =
    let one : t ≡ u = one_held t u p h k in
    let wrong : true ≡ false = sym (same_trans-itself u) ∙ ap (same_trans u) (sym one) ∙ away in
    cc

-- ---- a part goes

module _ (a : Account) (q : Stands a) (t : TransId) (cells : Cells) (clock kept : ℕ) (applied : List (Stamp × Decided)) (left : List (Stamp × List Edit)) (order : kept ≤ clock) where
  -- what is held without it
  abbrev pub gone : Holder
  gone = with_life (record a.holder { cells = cells; clock = clock; kept = kept; applied = applied; left = left }) t None

  -- of a transaction of this server that is over
  pub stands_over : t.server ≡ a.holder.server → (move : Fate → Fate) → is_running (move (a.fates t)) ≡ false → has_votes (move (a.fates t)) ≡ false → is_all_done (move (a.fates t)) ≡ false
      → IsFateOf a.servers a.holder.server a.ids.epoch a.ids.transactions a.begun t (move (a.fates t)) → Stands (record a { holder = gone; fates = λ u. cond {A = Fate} (same_trans t u) (move (a.fates u)) (a.fates u) })
  stands_over here move over votes done of = record {
    agree = agree_without a.holder.lives t q.agree;
    paired = paired_set a.phases a.holder.lives a.fates t None move q.paired over;
    held = λ j. held_set a.holder.lives t None j (a.phases j) (own_unheld a q t here j) (q.held j);
    votes = moved_all (λ u f. has_votes f ≡ false) a.fates t move (λ u away. q.votes u) votes;
    forgets = moved_all (λ u f. is_all_done f ≡ false) a.fates t move (λ u away. q.forgets u) done;
    fates = moved_all (IsFateOf a.servers a.holder.server a.ids.epoch a.ids.transactions a.begun) a.fates t move (λ u away. q.fates u) of;
    begun = q.begun;
    known = q.known;
    phases = q.phases;
    joined = q.joined;
    single = q.single;
    order = order;
  }

  -- of a join that is over
  pub stands_gone : (j : JoinNo) → IsHolding t (a.phases j) → (move : Phase → Phase) → IsSpent (move (a.phases j)) → IsPhaseOf a.servers a.holder.server a.ids.epoch a.ids.joins a.joined j (move (a.phases j))
      → Stands (record a { holder = gone; phases = λ k. cond {A = Phase} (same_join j k) (move (a.phases k)) (a.phases k) })
  stands_gone j h move spent of =
      let (l, live, its) = life_of a q t j h in
      record {
        agree = agree_without a.holder.lives t q.agree;
        paired = paired_moved a.phases a.holder.lives a.fates t None j move q.paired (none_alien t (a.phases j) h) ((join_part_is t a.phases l (a.fates t) j its (pair_of a q t l live)).1);
        held = moved_each (HasLife gone.lives) a.phases j move (λ k away. held_set a.holder.lives t None k (a.phases k) (λ i. other k away i) (q.held k)) (spent.life gone.lives j);
        votes = q.votes;
        forgets = q.forgets;
        fates = q.fates;
        begun = q.begun;
        known = q.known;
        phases = moved_each (IsPhaseOf a.servers a.holder.server a.ids.epoch a.ids.joins a.joined) a.phases j move (λ k away. q.phases k) of;
        joined = q.joined;
        single = λ i k x first second. q.single i k x (live_before a.phases j move spent.live i x first) (live_before a.phases j move spent.live k x second);
        order = order;
      }
    where
      other : (k : JoinNo) → same_join j k ≡ false → IsHolding t (a.phases k) → ⊥
      other k away i =
          let one : j ≡ k = held_once a q t j k h i in
          let wrong : true ≡ false = sym (same_join-itself k) ∙ ap (λ (x : JoinNo). same_join x k) (sym one) ∙ away in
          cc

-- ---- a join that has no part

module _ (a : Account) (q : Stands a) (j : JoinNo) (t : TransId) (client : ℕ) (who : List ℕ) where
  -- one that asked to be let in is over
  pub stands_quit : a.phases j ≡ Joining t client who → (move : Phase → Phase) → IsSpent (move (a.phases j)) → IsPhaseOf a.servers a.holder.server a.ids.epoch a.ids.joins a.joined j (move (a.phases j))
      → Stands (record a { phases = λ k. cond {A = Phase} (same_join j k) (move (a.phases k)) (a.phases k) })
  stands_quit asks move spent of = record {
    agree = q.agree;
    paired = paired_free a.phases a.holder.lives a.fates j move q.paired (λ u h. subst (IsHolding u) asks h);
    held = moved_each (HasLife a.holder.lives) a.phases j move (λ k away. q.held k) (spent.life a.holder.lives j);
    votes = q.votes;
    forgets = q.forgets;
    fates = q.fates;
    begun = q.begun;
    known = q.known;
    phases = moved_each (IsPhaseOf a.servers a.holder.server a.ids.epoch a.ids.joins a.joined) a.phases j move (λ k away. q.phases k) of;
    joined = q.joined;
    single = λ i k x first second. q.single i k x (live_before a.phases j move spent.live i x first) (live_before a.phases j move spent.live k x second);
    order = q.order;
  }

  live_entered : (p : Phase) → live_in (phase.entered p) ≡ live_in p
  live_entered Unseen = refl
  live_entered (Joining u c who) = refl
  live_entered (Active u c who) = refl
  live_entered (Ready u c ts) = refl
  live_entered (Applied u stamp) = refl
  live_entered Over = refl

  pub open_entered : (p : Phase) → open_in (phase.entered p) ≡ open_in p
  open_entered Unseen = refl
  open_entered (Joining u c who) = refl
  open_entered (Active u c who) = refl
  open_entered (Ready u c ts) = refl
  open_entered (Applied u stamp) = refl
  open_entered Over = refl

  abbrev fresh : Life
  fresh = new_life (Some j) client who

  -- a transaction of another server does not run here
  pub far_idle : is_other a.servers a.holder.server t.server ≡ true → is_running (a.fates t) ≡ false
  far_idle far = go (is_running (a.fates t)) refl
    where
      go : (b : Bool) → is_running (a.fates t) ≡ b → b ≡ false
      go false e = refl
      go true e = absurd (not_both_servers a.servers a.holder.server t.server far (running_here a q t e))

  pub far_asked : a.phases j ≡ Joining t client who → is_other a.servers a.holder.server t.server ≡ true
  far_asked asks = (subst (IsPhaseOf a.servers a.holder.server a.ids.epoch a.ids.joins a.joined j) asks (q.phases j)).1

  -- one is let in, where no part of its transaction is live
  pub stands_entered : a.phases j ≡ Joining t client who → a.holder.lives t ≡ None → Stands (record a { holder = with_life a.holder t (Some (new_life (Some j) client who)); phases = λ k. cond {A = Phase} (same_join j k) (phase.entered (a.phases k)) (a.phases k) })
  stands_entered asks none =
      let now : cond {A = Phase} (same_join j j) (phase.entered (a.phases j)) (a.phases j) ≡ Active t client who = moved_phase a.phases j phase.entered ∙ ap phase.entered asks in
      record {
        agree = agree_set a.holder.lives t (Some fresh) q.agree (λ l born u k away is. subst (λ (x : Life). DoAgree x.held k.held) (same-some fresh l born) (λ r. refl));
        paired = paired_moved a.phases a.holder.lives a.fates t (Some fresh) j phase.entered q.paired (λ u away h. subst (IsHolding u) asks h) (inl (now, refl, refl), far_idle (far_asked asks));
        held = moved_each (HasLife (with_life a.holder t (Some fresh)).lives) a.phases j phase.entered (λ k away. held_set a.holder.lives t (Some fresh) k (a.phases k) (λ h. unheld k h) (q.held k))
            (subst (HasLife (with_life a.holder t (Some fresh)).lives j) (sym (ap phase.entered asks)) (fresh, ap (λ (b : Bool). cond {A = Option Life} b (Some fresh) (a.holder.lives t)) (same_trans-itself t), refl));
        votes = q.votes;
        forgets = q.forgets;
        fates = q.fates;
        begun = q.begun;
        known = q.known;
        phases = moved_each (IsPhaseOf a.servers a.holder.server a.ids.epoch a.ids.joins a.joined) a.phases j phase.entered (λ k away. q.phases k)
            (subst (IsPhaseOf a.servers a.holder.server a.ids.epoch a.ids.joins a.joined j) (sym (ap phase.entered asks)) (subst (IsPhaseOf a.servers a.holder.server a.ids.epoch a.ids.joins a.joined j) asks (q.phases j)));
        joined = q.joined;
        single = λ i k x first second. q.single i k x (sym (live_still a.phases j phase.entered (live_entered (a.phases j)) i) ∙ first) (sym (live_still a.phases j phase.entered (live_entered (a.phases j)) k) ∙ second);
        order = q.order;
      }
    where
      unheld : (k : JoinNo) → IsHolding t (a.phases k) → ⊥
      unheld k h = (let (l, live, its) = life_of a q t k h in let wrong : None ≡ Some l = sym none ∙ live in cc)

-- ---- a join votes

module _ (a : Account) (q : Stands a) (j : JoinNo) (t : TransId) (client : ℕ) (who : List ℕ) (ts : ℕ) (l : Life) where
  live_readied : (p : Phase) → live_in (phase.readied ts p) ≡ live_in p
  live_readied Unseen = refl
  live_readied (Joining u c who) = refl
  live_readied (Active u c who) = refl
  live_readied (Ready u c ts) = refl
  live_readied (Applied u stamp) = refl
  live_readied Over = refl

  abbrev voter : Life
  voter = record l { vote = Some ts }

  pub stands_voted : a.phases j ≡ Active t client who → a.holder.lives t ≡ Some l → Stands (record a { holder = with_life a.holder t (Some (record l { vote = Some ts })); phases = λ k. cond {A = Phase} (same_join j k) (phase.readied ts (a.phases k)) (a.phases k) })
  stands_voted active live =
      let (m, there, of) = life_of a q t j (holds active) in
      let mine : l.join ≡ Some j = ap (λ (x : Life). x.join) (same-some l m (sym live ∙ there)) ∙ of in
      let pair = join_part_is t a.phases l (a.fates t) j mine (pair_of a q t l live) in
      let as_client : a.phases j ≡ Active t l.client l.who = joined_active active pair.0 in
      let now : cond {A = Phase} (same_join j j) (phase.readied ts (a.phases j)) (a.phases j) ≡ Ready t l.client ts = moved_phase a.phases j (phase.readied ts) ∙ ap (phase.readied ts) as_client in
      record {
        agree = agree_set a.holder.lives t (Some voter) q.agree (λ x is u k away at. subst (λ (y : Life). DoAgree y.held k.held) (same-some voter x is) (q.agree t u l k live at (turned t u ∙ away)));
        paired = paired_moved a.phases a.holder.lives a.fates t (Some voter) j (phase.readied ts) q.paired (none_alien t (a.phases j) (holds active))
            (subst (IsPartAs t (λ k. cond {A = Phase} (same_join j k) (phase.readied ts (a.phases k)) (a.phases k)) voter (a.fates t)) (sym mine) (inr (ts, now, refl), pair.1));
        held = moved_each (HasLife (with_life a.holder t (Some voter)).lives) a.phases j (phase.readied ts) (λ k away. held_kept a.holder.lives t l voter live refl k (a.phases k) (q.held k))
            (subst (HasLife (with_life a.holder t (Some voter)).lives j) (sym (ap (phase.readied ts) as_client)) (voter, ap (λ (b : Bool). cond {A = Option Life} b (Some voter) (a.holder.lives t)) (same_trans-itself t), mine));
        votes = q.votes;
        forgets = q.forgets;
        fates = q.fates;
        begun = q.begun;
        known = q.known;
        phases = moved_each (IsPhaseOf a.servers a.holder.server a.ids.epoch a.ids.joins a.joined) a.phases j (phase.readied ts) (λ k away. q.phases k)
            (subst (IsPhaseOf a.servers a.holder.server a.ids.epoch a.ids.joins a.joined j) (sym (ap (phase.readied ts) active)) (subst (IsPhaseOf a.servers a.holder.server a.ids.epoch a.ids.joins a.joined j) active (q.phases j)));
        joined = q.joined;
        single = λ i k x first second. q.single i k x (sym (live_still a.phases j (phase.readied ts) (live_readied (a.phases j)) i) ∙ first) (sym (live_still a.phases j (phase.readied ts) (live_readied (a.phases j)) k) ∙ second);
        order = q.order;
      }
    where
      holds : a.phases j ≡ Active t client who → IsHolding t (a.phases j)
      holds active = subst (IsHolding t) (sym active) refl

      joined_active : a.phases j ≡ Active t client who → IsJoined t l (a.phases j) → a.phases j ≡ Active t l.client l.who
      joined_active active h = elim h [
        | inl x ↦ x.0
        | inr x ↦ absurd (let wrong : Active t client who ≡ Ready t l.client x.0 = sym active ∙ x.1 in cc)
      ]

-- ---- a join is drawn

-- the next one, of a transaction of another server of which the client has no live join
pub stands_drawn : (a : Account) → Stands a → 0 < a.ids.epoch → (t : TransId) (client : ℕ) (who : List ℕ) → is_other a.servers a.holder.server t.server ≡ true → HasNoJoin a.phases client t → a.phases (next_join (state_of a)) ≡ Unseen
    → Stands (record a {
      ids = record a.ids { joins = a.ids.joins + 1 };
      phases = λ k. cond {A = Phase} (same_join (next_join (state_of a)) k) (phase.drawn t client who (a.phases k)) (a.phases k);
      joined = a.joined ++ next_join (state_of a) ∷ [];
    })
stands_drawn a q raised t client who far none new =
    let j : JoinNo = next_join (state_of a) in
    let unnamed : has_join j a.joined ≡ false = subst (IsPhaseOf a.servers a.holder.server a.ids.epoch a.ids.joins a.joined j) new (q.phases j) in
    let named : has_join j (a.joined ++ j ∷ []) ≡ true = any-last (λ k. same_join k j) a.joined j ∙ or_right (has_join j a.joined) (same_join j j) (same_join-itself j) in
    record {
      agree = q.agree;
      paired = paired_free a.phases a.holder.lives a.fates j (phase.drawn t client who) q.paired (λ u h. subst (IsHolding u) new h);
      held = moved_each (HasLife a.holder.lives) a.phases j (phase.drawn t client who) (λ k away. q.held k) (subst (λ (p : Phase). HasLife a.holder.lives j (phase.drawn t client who p)) (sym new) tt);
      votes = q.votes;
      forgets = q.forgets;
      fates = q.fates;
      begun = q.begun;
      known = q.known;
      phases = moved_each (IsPhaseOf a.servers a.holder.server a.ids.epoch (a.ids.joins + 1) (a.joined ++ j ∷ [])) a.phases j (phase.drawn t client who)
          (λ k away. phase_more a.servers a.holder.server a.ids.epoch a.ids.joins (a.ids.joins + 1) a.joined (a.joined ++ j ∷ []) k (a.phases k) (omega arith) (sym (any-last (λ i. same_join i k) a.joined j ∙ (λ i. has_join k a.joined || away i) ∙ or_none (has_join k a.joined))) (q.phases k))
          (subst (λ (p : Phase). IsPhaseOf a.servers a.holder.server a.ids.epoch (a.ids.joins + 1) (a.joined ++ j ∷ []) j (phase.drawn t client who p)) (sym new) ((drawn_next a.holder.server a.ids.epoch a.ids.joins raised, named), far));
      joined = joins-last a.joined j q.joined unnamed;
      single = λ i k x first second. one i k x (same_join j i) (same_join j k) refl refl first second;
      order = q.order;
    }
  where
    or_none : (b : Bool) → (b || false) ≡ b
    or_none true = refl
    or_none false = refl

    -- the new one is the client's only one
    no_other : (k : JoinNo) (x : TransId × ℕ) → live_in (phase.drawn t client who (a.phases (next_join (state_of a)))) ≡ Some x → live_in (a.phases k) ≡ Some x → ⊥
    no_other k x first second =
        let its : Some (t, client) ≡ Some x = ap (λ (p : Phase). live_in (phase.drawn t client who p)) (sym new) ∙ first in
        let wrong : false ≡ true = sym (none k) ∙ ap (is_whose client t) (second ∙ sym its) ∙ whose_own client t in
        cc

    one : (i k : JoinNo) (x : TransId × ℕ) (b d : Bool) → same_join (next_join (state_of a)) i ≡ b → same_join (next_join (state_of a)) k ≡ d
        → live_in (cond {A = Phase} b (phase.drawn t client who (a.phases i)) (a.phases i)) ≡ Some x → live_in (cond {A = Phase} d (phase.drawn t client who (a.phases k)) (a.phases k)) ≡ Some x → i ≡ k
    one i k x true true e f first second = sym (same_join-true (next_join (state_of a)) i e) ∙ same_join-true (next_join (state_of a)) k f
    one i k x true false e f first second = absurd (no_other k x (ap (λ (y : JoinNo). live_in (phase.drawn t client who (a.phases y))) (same_join-true (next_join (state_of a)) i e) ∙ first) second)
    one i k x false true e f first second = absurd (no_other i x (ap (λ (y : JoinNo). live_in (phase.drawn t client who (a.phases y))) (same_join-true (next_join (state_of a)) k f) ∙ second) first)
    one i k x false false e f first second = q.single i k x first second
