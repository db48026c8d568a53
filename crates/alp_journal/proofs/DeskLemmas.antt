-- what is told goes on as one more call waits, as a fate moves, and as a join moves
use Rattle.std.specs.Prelude.{cond, Bool, true, false, ◌&&◌, ◌==◌, find, Option, None, Some, IsSome}
use Rattle.std.specs.List.{AllByRecursion}
use Rattle.std.proofs.lemmas.Bool.{eqb-true, ne_eqb}
use Rattle.std.proofs.Common.{inl, inr, ◌≡◌, ℕ, ◌+◌, ◌≤◌, List, [], ◌∷◌, ◌++◌, refl, sym, ◌∙◌, ap, subst, eq-eqb, arith}
use Rattle.alp_base.specs.declared.ids.JoinNo.{JoinNo}
use Rattle.alp_base.specs.declared.ids.TransId.{TransId}
use Rattle.alp_files.specs.declared.refusal.Cause.{Cause}
use Rattle.alp_journal.specs.Ids.{same_trans, same_join}
use Rattle.alp_journal.specs.Coordinator.{Fate, Ended}
use Rattle.alp_journal.specs.Participant.{Phase, Ready, live_in, open_in}
use Rattle.alp_journal.specs.Desk.{Session, Waiting, file_trans, part_trans, is_of, is_of_part}
use Rattle.alp_journal.specs.State.{is_whose}
use Rattle.alp_journal.specs.Account.{Account, Tells, IsOfPart, IsFinishOf, IsOther, HasCome, AreTwo, HasWaits, HasNoCall}
use Rattle.alp_journal.proofs.IdLemmas.{same_join-true, all-append}
use Rattle.alp_journal.proofs.MadeIds.{all-map}
use Rattle.alp_journal.proofs.WaitLemmas.{turned, all-both, apart-last}
use Rattle.alp_journal.proofs.StandLemmas.{moved_all, moved_each}
use Rattle.alp_journal.proofs.MoveLemmas.{open_still, live_still}
use Rattle.alp_journal.proofs.QuietLemmas.{ended_moved, ended_joins, other-on, others-on, finish-moved, waits-last, calls-last}

-- ---- one more call waits

pub found-last : {A : Type 0} (p : A → Bool) (xs : List A) (x : A) → p x ≡ true → IsSome (find p (xs ++ x ∷ []))
found-last p [] x e = subst (λ (b : Bool). IsSome (cond b (Some x) None)) (sym e) refl
found-last p (y ∷ xs) x e = go (p y) (found-last p xs x e)
  where
    go : (b : Bool) → IsSome (find p (xs ++ x ∷ [])) → IsSome (cond b (Some y) (find p (xs ++ x ∷ [])))
    go true h = refl
    go false h = h

-- a Join or a Finish, of a part of which no call waits, that comes after all that wait
pub record IsNext (b : Account) (x : Waiting) : Type 0 where
  pub trans : TransId
  pub named : part_trans x.call ≡ Some trans
  pub files : file_trans x.call ≡ None
  pub off : AllByRecursion (λ v. is_of_part x.client trans v ≡ false) b.waits
  pub later : AllByRecursion (λ (v : Waiting). (x.client == v.client && x.number == v.number) ≡ false) b.waits
  pub came : HasCome x.number (b.sessions x.client)
  pub other : IsOther b.fates b.phases b.dead x.client x.call
  pub unready : (j : JoinNo) (u : TransId) (d ts : ℕ) → b.phases j ≡ Ready u d ts → is_of_part d u x ≡ false

pub tells_waiting : (b : Account) (x : Waiting) → Tells b → IsNext b x → Tells (record b { waits = b.waits ++ x ∷ [] })
tells_waiting b x q n = record {
  ended = q.ended;
  parts = all-append (λ (v : Waiting). IsOfPart b.holder.lives b.dead v (file_trans v.call)) b.waits (x ∷ []) q.parts (subst (IsOfPart b.holder.lives b.dead x) (sym n.files) tt, tt);
  others = all-append (λ (v : Waiting). IsOther b.fates b.phases b.dead v.client v.call) b.waits (x ∷ []) q.others (n.other, tt);
  came = all-append (λ (v : Waiting). HasCome v.number (b.sessions v.client)) b.waits (x ∷ []) q.came (n.came, tt);
  apart = apart-last b.waits x q.apart (all-both (λ v. is_of_part x.client n.trans v ≡ false) (λ (v : Waiting). (x.client == v.client && x.number == v.number) ≡ false) (λ v. AreTwo v x) (λ v o l. (
    λ t of. ap (is_of t) n.files,
    l,
    λ t of. part v o t of (x.client == v.client) refl,
  )) b.waits n.off n.later);
  joining = λ j. waits-last b.waits x (b.phases j) (λ t d ts is. n.unready j t d ts is) (q.joining j);
  finishing = λ t. calls-last b.waits x t (b.fates t) (λ d js vs is. ap (is_of t) n.files) (q.finishing t);
}
  where
    part : (v : Waiting) → is_of_part x.client n.trans v ≡ false → (t : TransId) → part_trans v.call ≡ Some t → (d : Bool) → (x.client == v.client) ≡ d → (d && is_of t (part_trans x.call)) ≡ false
    part v o t of false e = refl
    part v o t of true e =
        ap (is_of t) n.named ∙ turned n.trans t ∙ sym (ap (is_of n.trans) of)
        ∙ ap (λ (d : Bool). d && is_of n.trans (part_trans v.call)) (sym (eq-eqb v.client x.client (sym (eqb-true x.client v.client e)))) ∙ o

-- what came before has another number
pub came-before : (sessions : ℕ → Option Session) (client number : ℕ) (w : Session) (ws : List Waiting) → sessions client ≡ Some w → number ≡ w.last + 1 → AllByRecursion (λ (v : Waiting). HasCome v.number (sessions v.client)) ws
    → AllByRecursion (λ (v : Waiting). (client == v.client && number == v.number) ≡ false) ws
came-before sessions client number w ws there turn came = all-map (λ (v : Waiting). HasCome v.number (sessions v.client)) (λ (v : Waiting). (client == v.client && number == v.number) ≡ false) (λ v h. later v h (client == v.client) refl) ws came
  where
    later : (v : Waiting) → HasCome v.number (sessions v.client) → (b : Bool) → (client == v.client) ≡ b → (b && number == v.number) ≡ false
    later v h false e = refl
    later v h true e =
        let before : v.number ≤ w.last = subst (HasCome v.number) (ap sessions (sym (eqb-true client v.client e)) ∙ there) h in
        ne_eqb number v.number (λ same. omega (arith, before, turn, same))

-- ---- a fate moves

pub tells_fated : (b : Account) → Tells b → (t : TransId) (move : Fate → Fate) → ((c : Cause) → move (Ended c) ≡ Ended c) → ((n : ℕ) → IsFinishOf n (b.fates t) (b.dead n t) → IsFinishOf n (move (b.fates t)) (b.dead n t)) → HasNoCall b.waits t (move (b.fates t))
    → Tells (record b { fates = λ u. cond {A = Fate} (same_trans t u) (move (b.fates u)) (b.fates u) })
tells_fated b q t move keeps waits none = record {
  ended = ended_moved b.holder.server b.dead b.fates b.phases t move q.ended keeps;
  parts = q.parts;
  others = others-on b.fates (λ u. cond {A = Fate} (same_trans t u) (move (b.fates u)) (b.fates u)) b.phases b.phases b.dead b.dead (λ n u h. h) (finish-moved b.dead b.fates t move waits) b.waits q.others;
  came = q.came;
  apart = q.apart;
  joining = q.joining;
  finishing = moved_all (HasNoCall b.waits) b.fates t move (λ u away. q.finishing u) none;
}

-- ---- a join moves

module _ (b : Account) (q : Tells b) (j : JoinNo) (move : Phase → Phase) where
  abbrev moved_phases : JoinNo → Phase
  moved_phases = λ k. cond {A = Phase} (same_join j k) (move (b.phases k)) (b.phases k)

  -- who is over has no live join more
  pub fewer : live_in (move (b.phases j)) ≡ None → (k : JoinNo) (client : ℕ) (t : TransId) → is_whose client t (live_in (b.phases k)) ≡ false → is_whose client t (live_in (moved_phases k)) ≡ false
  fewer over k client t none = go (same_join j k) refl
    where
      go : (d : Bool) → same_join j k ≡ d → is_whose client t (live_in (cond {A = Phase} d (move (b.phases k)) (b.phases k))) ≡ false
      go true e = ap (λ (i : JoinNo). is_whose client t (live_in (move (b.phases i)))) (sym (same_join-true j k e)) ∙ ap (is_whose client t) over
      go false e = none

  -- it goes on, live or not, and open or not, as before
  pub tells_moved : live_in (move (b.phases j)) ≡ live_in (b.phases j) → open_in (move (b.phases j)) ≡ open_in (b.phases j) → HasWaits b.waits (move (b.phases j)) → Tells (record b { phases = λ k. cond {A = Phase} (same_join j k) (move (b.phases k)) (b.phases k) })
  tells_moved live opens waits = record {
    ended = ended_joins b.holder.server b.dead b.fates b.phases moved_phases (λ k client t none. ap (is_whose client t) (live_still b.phases j move live k) ∙ none) q.ended;
    parts = q.parts;
    others = others-on b.fates b.fates b.phases moved_phases b.dead b.dead (λ n u h. elim h [ inl x ↦ inl (x.0, ap (is_whose n u) (open_still b.phases j move opens x.0) ∙ x.1) | inr d ↦ inr d ]) (λ n u h. h) b.waits q.others;
    came = q.came;
    apart = q.apart;
    joining = moved_each (λ k p. HasWaits b.waits p) b.phases j move (λ k away. q.joining k) waits;
    finishing = q.finishing;
  }

  -- it has voted, and no call of it waits
  module _ (t : TransId) (client : ℕ) where
    none_of_it : AllByRecursion (λ w. is_of_part client t w ≡ false) b.waits → (w : Waiting) (u : TransId) → part_trans w.call ≡ Some u → is_of_part client t w ≡ false → (p : Phase) → open_in p ≡ Some (t, client) → is_whose w.client u (open_in p) ≡ false
    none_of_it off w u of o p is = ap (is_whose w.client u) is ∙ go (same_trans t u) (client == w.client) refl refl
      where
        go : (c d : Bool) → same_trans t u ≡ c → (client == w.client) ≡ d → (c && d) ≡ false
        go false d e f = refl
        go true false e f = refl
        go true true e f =
            let mine : is_of_part client t w ≡ true = (λ i. eq-eqb w.client client (sym (eqb-true client w.client f)) i && is_of t (of i)) ∙ turned u t ∙ e in
            let wrong : true ≡ false = sym mine ∙ o in
            cc

    -- a join of which no call waits votes
    pub tells_voted : live_in (move (b.phases j)) ≡ live_in (b.phases j) → open_in (b.phases j) ≡ Some (t, client) → AllByRecursion (λ w. is_of_part client t w ≡ false) b.waits → HasWaits b.waits (move (b.phases j))
        → Tells (record b { phases = λ k. cond {A = Phase} (same_join j k) (move (b.phases k)) (b.phases k) })
    tells_voted live opened off waits = record {
      ended = ended_joins b.holder.server b.dead b.fates b.phases moved_phases (λ k client t none. ap (is_whose client t) (live_still b.phases j move live k) ∙ none) q.ended;
      parts = q.parts;
      others = all-both (λ w. is_of_part client t w ≡ false) (λ (w : Waiting). IsOther b.fates b.phases b.dead w.client w.call) (λ (w : Waiting). IsOther b.fates moved_phases b.dead w.client w.call)
          (λ w o h. other-on b.fates b.fates b.phases moved_phases b.dead b.dead w.client w.call (λ u of k. elim k [ inl x ↦ inl (x.0, still w u of o x.0 x.1) | inr d ↦ inr d ]) (λ u of k. k) h) b.waits off q.others;
      came = q.came;
      apart = q.apart;
      joining = moved_each (λ k p. HasWaits b.waits p) b.phases j move (λ k away. q.joining k) waits;
      finishing = q.finishing;
    }
      where
        still : (w : Waiting) (u : TransId) → part_trans w.call ≡ Some u → is_of_part client t w ≡ false → (k : JoinNo) → is_whose w.client u (open_in (b.phases k)) ≡ true → is_whose w.client u (open_in (moved_phases k)) ≡ true
        still w u of o k h = go (same_join j k) refl
          where
            go : (d : Bool) → same_join j k ≡ d → is_whose w.client u (open_in (cond {A = Phase} d (move (b.phases k)) (b.phases k))) ≡ true
            go true e =
                let one : j ≡ k = same_join-true j k e in
                let wrong : false ≡ true = sym (none_of_it off w u of o (b.phases j) opened) ∙ ap (λ (i : JoinNo). is_whose w.client u (open_in (b.phases i))) one ∙ h in
                cc
            go false e = h
