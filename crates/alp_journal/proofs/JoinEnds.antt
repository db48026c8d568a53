-- the part of a join ends: as its coordinator says, by this server's own vote, and as time runs out
use Rattle.std.specs.Prelude.{cond, Bool, true, false, ◌&&◌, ◌==◌, is_some, Option, None, Some, IsSome, if◌then◌else◌}
use Rattle.std.proofs.lemmas.List.{append-nil}
use Rattle.std.proofs.Common.{inl, inr, ◌≡◌, ℕ, ◌≤◌, List, [], ◌∷◌, ◌++◌, refl, sym, ◌∙◌, ap, subst, eq-eqb}
use Rattle.alp_base.specs.declared.ids.JoinNo.{JoinNo}
use Rattle.alp_base.specs.declared.ids.TransId.{TransId}
use Rattle.alp_files.proofs.FilesLemmas.{same-some}
use Rattle.alp_files.specs.declared.refusal.Cause.{Cause}
use Rattle.alp_journal.specs.declared.act.Act.TheVariants as act
use Rattle.alp_journal.specs.declared.event.Event.{Event}
use Rattle.alp_journal.specs.Ids.{same_trans, same_join}
use Rattle.alp_journal.specs.Deeds.{Deed, Releases}
use Rattle.alp_journal.specs.Coordinator.{is_running}
use Rattle.alp_journal.specs.Participant.{Phase, Unseen, Joining, Active, Ready, Applied, Over, live_in, open_in}
use Rattle.alp_journal.specs.Holder.{Holder, Life, with_life}
use Rattle.alp_journal.specs.Desk.{Waiting, with_dead}
use Rattle.alp_journal.specs.Counts.{lock_set}
use Rattle.alp_journal.specs.State.{State, state_deed, is_whose}
use Rattle.alp_journal.specs.Moves.{call_now}
use Rattle.alp_journal.specs.Laws.{IsLawfulDeed, IsHolding, ended_by, ended_join, grants_of}
use Rattle.alp_journal.specs.Answered.{IsWalk, in_turn}
use Rattle.alp_journal.specs.Account.{Account, state_of, IsPhaseOf, Stands, IsSettled, IsJoinOf, HasWaits, HasNoJoin}
use Rattle.alp_journal.proofs.IdLemmas.{same_trans-itself, same_join-true}
use Rattle.alp_journal.proofs.StandLemmas.{moved_each, moved_phase, same_join-itself, whose, live_of_open, held_once, not_both_servers, running_here}
use Rattle.alp_journal.proofs.MoveLemmas.{IsSpent, live_before, stands_gone}
use Rattle.alp_journal.proofs.DeskLemmas.{fewer}
use Rattle.alp_journal.proofs.QuietLemmas.{AreEnded, AreOthers, AreOfParts, ended_told, ended_joins, others-on, parts-told, has_ended}
use Rattle.alp_journal.proofs.LetGoLemmas.{GoesOn}
use Rattle.alp_journal.proofs.OwnEnds.{told-more, finish-more, lived_on}

-- one that holds a part ends with it
pub ended_holding : (t u : TransId) (p : Phase) → IsHolding t p → ended_join u p ≡ u ∷ []
ended_holding t u Unseen h = absurd h
ended_holding t u (Joining v c who) h = absurd h
ended_holding t u (Active v c who) h = refl
ended_holding t u (Ready v c ts) h = refl
ended_holding t u (Applied v stamp) h = absurd h
ended_holding t u Over h = absurd h

module _ (a : Account) (j : JoinNo) (t : TransId) (client : ℕ) (move : Phase → Phase) where
  abbrev then_phases : JoinNo → Phase
  then_phases = λ k. cond {A = Phase} (same_join j k) (move (a.phases k)) (a.phases k)

  -- it is a live join of the client, and over then
  pub record IsEnding : Type 0 where
    pub settled : IsSettled a
    pub its : live_in (a.phases j) ≡ Some (t, client)
    pub spent : IsSpent (move (a.phases j))
    pub of : IsPhaseOf a.servers a.holder.server a.ids.epoch a.ids.joins a.joined j (move (a.phases j))
    pub waits : (ws : List Waiting) → HasWaits ws (move (a.phases j))

  far : IsEnding → t.server ≡ a.holder.server → ⊥
  far o here = go (a.phases j) o.its (o.settled.stands.phases j)
    where
      at : (v : TransId) (c : ℕ) → ◌≡◌ {A = Option (TransId × ℕ)} (Some (v, c)) (Some (t, client)) → v ≡ t
      at v c e = let both : ◌≡◌ {A = TransId × ℕ} (v, c) (t, client) = same-some (v, c) (t, client) e in ap (λ (x : TransId × ℕ). x.0) both

      go : (p : Phase) → live_in p ≡ Some (t, client) → IsPhaseOf a.servers a.holder.server a.ids.epoch a.ids.joins a.joined j p → ⊥
      go Unseen e k = let wrong : ◌≡◌ {A = Option (TransId × ℕ)} None (Some (t, client)) = e in cc
      go (Joining v c who) e k = not_both_servers a.servers a.holder.server v.server k.1 (ap (λ (x : TransId). x.server) (at v c e) ∙ here)
      go (Active v c who) e k = not_both_servers a.servers a.holder.server v.server k.1 (ap (λ (x : TransId). x.server) (at v c e) ∙ here)
      go (Ready v c ts) e k = not_both_servers a.servers a.holder.server v.server k.1 (ap (λ (x : TransId). x.server) (at v c e) ∙ here)
      go (Applied v stamp) e k = let wrong : ◌≡◌ {A = Option (TransId × ℕ)} None (Some (t, client)) = e in cc
      go Over e k = let wrong : ◌≡◌ {A = Option (TransId × ℕ)} None (Some (t, client)) = e in cc

  -- the client has no live join of it then
  unjoined_then : IsEnding → HasNoJoin then_phases client t
  unjoined_then o k = go (is_whose client t (live_in (then_phases k))) refl
    where
      go : (b : Bool) → is_whose client t (live_in (then_phases k)) ≡ b → b ≡ false
      go false e = refl
      go true e =
          let lives : live_in (then_phases k) ≡ Some (t, client) = whose client t (live_in (then_phases k)) e in
          let one : k ≡ j = o.settled.stands.single k j (t, client) (live_before a.phases j move o.spent.live k (t, client) lives) o.its in
          let wrong : ◌≡◌ {A = Option (TransId × ℕ)} None (Some (t, client)) = sym (ap live_in (moved_phase a.phases j move) ∙ o.spent.live) ∙ ap (λ (i : JoinNo). live_in (then_phases i)) (sym one) ∙ lives in
          cc

  pub fewer_ended : IsEnding → AreEnded a.holder.server a.dead a.fates then_phases
  fewer_ended o = ended_joins a.holder.server a.dead a.fates a.phases then_phases (λ k n u none. fewer a o.settled.tells j move o.spent.live k n u none) o.settled.tells.ended

  pub waits_then : IsEnding → (k : JoinNo) → HasWaits a.waits (then_phases k)
  waits_then o = moved_each (λ k p. HasWaits a.waits p) a.phases j move (λ k away. o.settled.tells.joining k) (o.waits a.waits)

  -- where the client is to be told why
  module _ (c : Cause) where
    abbrev told_dead : ℕ → TransId → Option Cause
    told_dead = λ d u. cond {A = Option Cause} (d == client && same_trans u t) (Some c) (a.dead d u)

    pub told_ended : IsEnding → AreEnded a.holder.server told_dead a.fates then_phases
    told_ended o = ended_told a.holder.server a.dead a.fates then_phases client t c (fewer_ended o) (λ here. absurd (far o here)) (unjoined_then o)

    pub told_others : IsEnding → AreOthers a.fates then_phases told_dead a.waits
    told_others o = others-on a.fates a.fates a.phases then_phases a.dead told_dead (λ n u h. elim h [ inl x ↦ still n u x.0 x.1 (same_join j x.0) refl | inr d ↦ inr (told-more (n == client && same_trans u t) c (a.dead n u) d) ])
        (λ n u h. finish-more n (a.fates u) (a.dead n u) (told_dead n u) (told-more (n == client && same_trans u t) c (a.dead n u)) h) a.waits o.settled.tells.others
      where
        still : (n : ℕ) (u : TransId) (k : JoinNo) → is_whose n u (open_in (a.phases k)) ≡ true → (b : Bool) → same_join j k ≡ b → IsJoinOf then_phases n u (told_dead n u)
        still n u k h false e = inl (k, ap (λ (b : Bool). is_whose n u (open_in (cond {A = Phase} b (move (a.phases k)) (a.phases k)))) e ∙ h)
        still n u k h true e =
            let lives : live_in (a.phases j) ≡ Some (u, n) = ap (λ (i : JoinNo). live_in (a.phases i)) (same_join-true j k e) ∙ whose n u (live_in (a.phases k)) (live_of_open n u (a.phases k) h) in
            let one : (t, client) ≡ (u, n) = same-some (t, client) (u, n) (sym o.its ∙ lives) in
            inr (subst (λ (x : TransId × ℕ). IsSome (cond {A = Option Cause} (x.1 == client && same_trans x.0 t) (Some c) (a.dead x.1 x.0))) one
            (ap (λ (b : Bool). is_some (cond {A = Option Cause} (b && same_trans t t) (Some c) (a.dead client t))) (eq-eqb client client refl) ∙ ap (λ (b : Bool). is_some (cond {A = Option Cause} b (Some c) (a.dead client t))) (same_trans-itself t)))

    -- ---- and its part is let go

    module _ (l : Life) (d : Deed) (H : Holder) where
      -- its locks are let go, and its client is to be told
      abbrev pub join_ended : Account
      join_ended = record a {
        holder = with_life a.holder t None;
        phases = λ k. if same_join j k then move (a.phases k) else a.phases k;
        dead = λ e u. if e == client && same_trans u t then Some c else a.dead e u;
        locked = lock_set a.locked t [];
      }

      -- the deed moves the join, and leaves the part until its locks are released
      pub record IsEndedBy (ev : Event) : Type 0 where
        pub first : state_deed (state_of a) d ≡ record (state_of a) { holder = H; phases = then_phases; desk = with_dead (state_of a).desk client t (Some c); begun = a.begun ++ []; joined = a.joined ++ [] }
        pub gone : with_life H t None ≡ with_life a.holder t None
        pub there : IsSome (H.lives t)
        pub lawful : IsLawfulDeed ev (state_of a) d
        pub ends : ended_by (state_of a) d ≡ ended_join t (a.phases j)
        pub grants_none : grants_of d ≡ []

      stands_ended : IsEnding → IsHolding t (a.phases j) → Stands join_ended
      stands_ended o h =
          let q : Stands (record a { holder = with_life a.holder t None; phases = then_phases }) =
          stands_gone a o.settled.stands t a.holder.cells a.holder.clock a.holder.kept a.holder.applied a.holder.left o.settled.stands.order j h move o.spent o.of in
          record { agree = q.agree; paired = q.paired; held = q.held; votes = q.votes; forgets = q.forgets; fates = q.fates; begun = q.begun; known = q.known; phases = q.phases; joined = q.joined; single = q.single; order = q.order }

      pub settled_join_ended : IsEnding → IsHolding t (a.phases j) → a.holder.lives t ≡ Some l → l.client ≡ client → IsSettled join_ended
      settled_join_ended o h live own = record {
        stands = stands_ended o h;
        tells = record {
          ended = told_ended o;
          parts = subst (λ (n : ℕ). AreOfParts join_ended.holder.lives (λ e u. cond {A = Option Cause} (e == n && same_trans u t) (Some c) (a.dead e u)) a.waits) own (parts-told a.holder.lives a.dead t l c live a.waits o.settled.tells.parts);
          others = told_others o;
          came = o.settled.tells.came;
          apart = o.settled.tells.apart;
          joining = waits_then o;
          finishing = o.settled.tells.finishing;
        };
      }

      over_then : IsEnding → is_running (a.fates t) ≡ false
      over_then o = go (is_running (a.fates t)) refl
        where
          go : (b : Bool) → is_running (a.fates t) ≡ b → b ≡ false
          go false e = refl
          go true e = absurd (far o (running_here a o.settled.stands t e))

      pub unheld_then : IsEnding → IsHolding t (a.phases j) → (k : JoinNo) → IsHolding t (then_phases k) → ⊥
      unheld_then o h k = moved_each (λ k p. IsHolding t p → ⊥) a.phases j move (λ i away held. other i away held) (o.spent.holds t) k
        where
          other : (i : JoinNo) → same_join j i ≡ false → IsHolding t (a.phases i) → ⊥
          other i away held =
              let one : j ≡ i = held_once a o.settled.stands t j i h held in
              let wrong : true ≡ false = sym (same_join-itself i) ∙ ap (λ (x : JoinNo). same_join x i) (sym one) ∙ away in
              cc

      begun_two : a.begun ++ [] ++ [] ≡ a.begun
      begun_two = append-nil (a.begun ++ []) ∙ append-nil a.begun

      joined_two : a.joined ++ [] ++ [] ≡ a.joined
      joined_two = append-nil (a.joined ++ []) ∙ append-nil a.joined

      pub join_ended_goes : (ev : Event) → ((u : TransId) (n : ℕ) → call_now ev u n ≡ None) → IsEnding → IsEndedBy ev → IsHolding t (a.phases j) → a.holder.lives t ≡ Some l → l.client ≡ client → a.pending ≡ []
          → (ts : List TransId) → IsWalk join_ended.holder (in_turn join_ended.holder a.waits) ts → GoesOn a join_ended ev (act.Released t ∷ []) (d ∷ Releases t ∷ []) ts
      join_ended_goes ev no_call o by h live own none ts walk =
          let mid : State = record (state_of a) { holder = H; phases = then_phases; desk = with_dead (state_of a).desk client t (Some c); begun = a.begun ++ []; joined = a.joined ++ [] } in
          record {
            before = o.settled;
            none_tried = none;
            settled = settled_join_ended o h live own;
            was = lived_on a.holder t;
            waits = refl;
            walk = walk;
            no_call = no_call;
            reached = ap (λ (s : State). state_deed s (Releases t)) by.first ∙ (λ i. state_of (record join_ended { holder = by.gone i; begun = begun_two i; joined = joined_two i }));
            deeds = (
              by.lawful,
              (
                subst (λ (s : State). IsLawfulDeed ev s (Releases t)) (sym by.first) (record {
                  counts = tt;
                  view = tt;
                  locks = (by.there, has_ended t mid (a.fates t) refl (over_then o) (unheld_then o h));
                  running = tt;
                  registration = tt;
                  vote = tt;
                  decision = tt;
                  application = tt;
                  forgetting = tt;
                }),
                tt,
              ),
            );
            stops = refl;
            release = λ rest. refl;
            first = λ rest. refl;
            released = ap (λ (us : List TransId). us ++ []) (sym (by.ends ∙ ended_holding t t (a.phases j) h));
            none_granted = (refl, ap (λ (us : List TransId). us ++ []) by.grants_none);
            said = λ x. (tt, tt);
            regained = refl;
            sent = refl;
          }
