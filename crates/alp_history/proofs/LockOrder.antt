-- of two decided transactions whose modes on a leaf disagree, the one whose mode ends first has the smaller stamp
use Rattle.std.specs.Prelude.{Bool, true, false, cond, is_some, Option, None, Some}
use Rattle.std.proofs.Common.{◌≡◌, ℕ, ◌≤◌, List, [], ◌∷◌, ◌++◌, refl, sym, ap, subst, ◌∙◌, arith, inl, inr, ◌⊎◌}
use Rattle.alp_base.specs.declared.ids.JoinNo.{JoinNo}
use Rattle.alp_base.specs.declared.ids.TransId.{TransId}
use Rattle.alp_base.specs.declared.ids.Stamp.{Stamp}
use Rattle.alp_journal.specs.Ids.{same_trans, same_join, has_server}
use Rattle.alp_journal.specs.Opening.{ReadyNote}
use Rattle.alp_journal.specs.Deeds.{Deed, Aborts, Begins, Joins, Enters, Grants, Performs, Readies, Applies, Decides, Restarts}
use Rattle.alp_journal.specs.Coordinator.{Fate, Undrawn, Running, Finishing, Committed, Forgotten, Ended, begun, has_all, fate_after}
use Rattle.alp_journal.specs.Participant.{Phase, Unseen, Joining, Active, Ready, Applied, Over, phase_after}
use Rattle.alp_journal.specs.Holder.{Holder, Life, holder_after}
use Rattle.alp_journal.specs.State.{State, state_deed}
use Rattle.alp_journal.specs.Moves.{next_trans}
use Rattle.alp_journal.specs.Holding.{MayDo}
use Rattle.alp_history.specs.Log.{Log, opening_of, IsIn}
use Rattle.alp_history.specs.Theorems.{IsProper}
use Rattle.alp_history.proofs.Places.{some-same}
use Rattle.alp_journal.proofs.IdLemmas.{same_trans-itself}
use Rattle.alp_history.proofs.Fates.{fate-cases}
use Rattle.alp_history.proofs.Linked.{IsLinkedUp, HasPart}
use Rattle.alp_history.proofs.Turned.{is_left, Began}
use Rattle.alp_journal.proofs.OneServer.{IsHeld}
use Rattle.alp_history.proofs.BegunOrder.{IsBeyond, IsFresh, fresh-step, beyond-next}
use Rattle.alp_history.proofs.HeldAlong.{same_join-itself, JoinedCame, Knows, IsSameCore}
use Rattle.alp_history.proofs.LifeMoves.{IsCommit, life-cases, ready-was, kept-grows, kept-commit, phase-moves, applied-keeps, over-keeps}

abbrev new_trans : TransId → Deed → TransId
new_trans u (Joins j t c w) = t
new_trans u (Enters j t c w) = t
new_trans u (Readies j t ts) = t
new_trans u d = u

module _ (log : Log) (proper : IsProper log) where
  -- a join was let in for this transaction, here or in an earlier run
  abbrev pub LetIn : ℕ → TransId → JoinNo → Type 0
  LetIn n t j = JoinedCame log proper n t j ⊎ ((r : ReadyNote) × IsIn r (opening_of log n).ready × (r.trans ≡ t) × (r.join ≡ j))

  -- a join that asks is of another server's transaction, and one that holds was let in for its transaction
  abbrev pub IsRight : ℕ → JoinNo → Phase → Type 0
  IsRight n j Unseen = Unit {0}
  IsRight n j (Joining t c w) = t.server ≡ n → ⊥
  IsRight n j (Active t c w) = LetIn n t j
  IsRight n j (Ready t c ts) = LetIn n t j
  IsRight n j (Applied t x) = Unit {0}
  IsRight n j Over = Unit {0}

  module _ (n : ℕ) (m : State) (d : Deed) (knows : Knows log proper n m d) where
    right-step : (j : JoinNo) (p : Phase) → m.phases j ≡ p → IsRight n j p → IsRight n j (phase_after d j p)
    right-step j Unseen is h =
        phase-moves (IsRight n j) d j Unseen tt (λ t c w e. (let k : t.server ≡ n → ⊥ = subst (Knows log proper n m) e knows in k)) (λ t c w e. tt) (λ t ts e. tt) (λ x e. tt) tt (λ t. tt) (λ a b e. tt)
    right-step j (Joining u k v) is h =
        phase-moves (IsRight n j) d j (Joining u k v) h (λ t c w e. h)
        (λ t c w e. (let q = subst (Knows log proper n m) e knows in
        let same : Joining u k v ≡ Joining t c w = sym is ∙ q.1 in
        let its : t ≡ u = cc in inl (subst (λ z. JoinedCame log proper n z j) its q.0)))
        (λ t ts e. h) (λ x e. h) tt (λ t. stop (same_trans t u)) (λ a b e. tt)
      where
        stop : (b : Bool) → IsRight n j (cond b Over (Joining u k v))
        stop true = tt
        stop false = h
    right-step j (Active u k v) is h = phase-moves (IsRight n j) d j (Active u k v) h (λ t c w e. h) (λ t c w e. h) (λ t ts e. h) (λ x e. h) tt (λ t. stop (same_trans t u)) (λ a b e. tt)
      where
        stop : (b : Bool) → IsRight n j (cond b Over (Active u k v))
        stop true = tt
        stop false = h
    right-step j (Ready u k ts) is h = phase-moves (IsRight n j) d j (Ready u k ts) h (λ t c w e. h) (λ t c w e. h) (λ t ts e. h) (λ x e. go x (same_trans x.trans u)) h (λ t. stop (same_trans t u)) (λ a b e. h)
      where
        go : (x : Stamp) (b : Bool) → IsRight n j (cond b (Applied u x) (Ready u k ts))
        go x true = tt
        go x false = h

        stop : (b : Bool) → IsRight n j (cond b Over (Ready u k ts))
        stop true = tt
        stop false = h
    right-step j (Applied u y) is h = subst (IsRight n j) (sym (applied-keeps u y d j (Applied u y) refl)) tt
    right-step j Over is h = subst (IsRight n j) (sym (over-keeps d j Over refl)) tt

  -- ---- what a part that lives stands for

  -- of the server's own transaction: what is decided is kept
  abbrev pub OwnLink : ℕ → Fate → Type 0
  OwnLink kept Undrawn = ⊥
  OwnLink kept (Running c js) = Unit {0}
  OwnLink kept (Finishing c js vs) = Unit {0}
  OwnLink kept (Committed x js ds) = x.ts ≤ kept
  OwnLink kept (Forgotten x js) = x.ts ≤ kept
  OwnLink kept (Ended c) = Unit {0}

  -- of a join: what is ready lives voted, and what is applied is kept
  abbrev pub JoinLink : TransId → ℕ → Option ℕ → Phase → Type 0
  JoinLink a kept v Unseen = ⊥
  JoinLink a kept v (Joining t c w) = ⊥
  JoinLink a kept v (Active t c w) = t ≡ a
  JoinLink a kept v (Ready t c ts) = (t ≡ a) × (is_some v ≡ true)
  JoinLink a kept v (Applied t x) = (t ≡ a) × (x.ts ≤ kept)
  JoinLink a kept v Over = Unit {0}

  module _ (a : TransId) where
    abbrev pub HasJoin : ℕ → State → Life → Type 0
    HasJoin n s l = (j : JoinNo) × LetIn n a j × JoinLink a s.holder.kept l.vote (s.phases j)

    pub record Linked (n : ℕ) (s : State) : Type 0 where
      pub fresh : IsFresh s
      pub right : (j : JoinNo) → IsRight n j (s.phases j)
      pub own : a.server ≡ n → (l : Life) → s.holder.lives a ≡ Some l → OwnLink s.holder.kept (s.fates a)
      pub other : (a.server ≡ n → ⊥) → (l : Life) → s.holder.lives a ≡ Some l → HasJoin n s l

    module _ (n : ℕ) (m : State) (d : Deed) (held : IsHeld (Began log proper n (is_left log proper m.phases)) m.holder) (here : m.holder.server ≡ n) (may : MayDo m.holder d) (knows : Knows log proper n m d) (after : IsLinkedUp log proper n (state_deed m d)) (linked : Linked n m) where
      grows : m.holder.kept ≤ (holder_after m.holder d).kept
      grows = kept-grows m.holder d (held.order) may

      fresh-next : IsFresh (state_deed m d)
      fresh-next = fresh-step m d (λ t w. subst (Knows log proper n m) w.3 knows) (λ p q e. subst (Knows log proper n m) e knows) (linked.fresh)

      -- a transaction that begins was not drawn
      begins-new : (c k : ℕ) (w : List ℕ) → d ≡ Begins a c w k → m.fates a ≡ Undrawn
      begins-new c k w e = (linked.fresh) a (beyond-next a m (subst (Knows log proper n m) e knows))

      begins-here : (c k : ℕ) (w : List ℕ) → d ≡ Begins a c w k → a.server ≡ n
      begins-here c k w e = (let is : a ≡ next_trans m = subst (Knows log proper n m) e knows in ap (λ x. x.server) is ∙ here)

      enters-away : (j : JoinNo) (c : ℕ) (w : List ℕ) → d ≡ Enters j a c w → a.server ≡ n → ⊥
      enters-away j c w e = (let q = subst (Knows log proper n m) e knows in subst (IsRight n j) q.1 ((linked.right) j))

      -- the stamp of a decision that moves a fate is kept
      decides-kept : (x : Stamp) (js : List JoinNo) → d ≡ Decides x js → x.ts ≤ (holder_after m.holder d).kept
      decides-kept x js e = (let q = subst (Knows log proper n m) e knows in kept-commit m.holder d x q.1.0 (inl (js, e)) q.1.1)

      own-fate : (f : Fate) → OwnLink m.holder.kept f → OwnLink (holder_after m.holder d).kept (fate_after d a f)
      own-fate Undrawn h = absurd h
      own-fate (Running c js) h =
          fate-cases (OwnLink (holder_after m.holder d).kept) d a (Running c js) tt (λ k. tt) (λ j. both j (has_server j.server js)) tt (λ j ts. tt) (λ x ks i e. tt) (λ k. tt) (λ j. tt) tt (λ k. tt)
        where
          both : (j : JoinNo) (b : Bool) → OwnLink (holder_after m.holder d).kept (cond b (Running c js) (Running c (js ++ j ∷ [])))
          both j true = tt
          both j false = tt
      own-fate (Finishing c js vs) h =
          fate-cases (OwnLink (holder_after m.holder d).kept) d a (Finishing c js vs) tt (λ k. tt) (λ j. tt) tt (λ j ts. tt) (λ x ks i e. decides-kept x ks e) (λ k. tt) (λ j. tt) tt (λ k. tt)
      own-fate (Committed x js ds) h =
          fate-cases (OwnLink (holder_after m.holder d).kept) d a (Committed x js ds) low (λ k. low) (λ j. low) low (λ j ts. low) (λ y ks i e. low) (λ k. low) (λ j. low) (both (has_all ds js)) (λ k. low)
        where
          low : x.ts ≤ (holder_after m.holder d).kept
          low = let g : m.holder.kept ≤ (holder_after m.holder d).kept = grows in omega (arith, g, h)

          both : (b : Bool) → OwnLink (holder_after m.holder d).kept (cond b (Forgotten x js) (Committed x js ds))
          both true = low
          both false = low
      own-fate (Forgotten x js) h =
          fate-cases (OwnLink (holder_after m.holder d).kept) d a (Forgotten x js) low (λ k. low) (λ j. low) low (λ j ts. low) (λ y ks i e. low) (λ k. low) (λ j. low) low (λ k. low)
        where
          low : x.ts ≤ (holder_after m.holder d).kept
          low = let g : m.holder.kept ≤ (holder_after m.holder d).kept = grows in omega (arith, g, h)
      own-fate (Ended c) h =
          fate-cases (OwnLink (holder_after m.holder d).kept) d a (Ended c) tt (λ k. tt) (λ j. tt) tt (λ j ts. tt) (λ y ks i e. tt) (λ k. tt) (λ j. tt) tt (λ k. tt)

      own-next : a.server ≡ n → (l : Life) → (holder_after m.holder d).lives a ≡ Some l → OwnLink (holder_after m.holder d).kept (fate_after d a (m.fates a))
      own-next is =
          life-cases (λ o. (l : Life) → o ≡ Some l → OwnLink (holder_after m.holder d).kept (fate_after d a (m.fates a))) m.holder d a
          (λ q l e. keep l e)
          (λ c k w e l i. first c k w e)
          (λ j c w e l i. absurd (enters-away j c w e is))
          (λ c l e q k i. keep l q)
          (λ x l e q k i. keep l q)
          (λ e l i. (let wrong : None ≡ Some l = i in cc))
          (λ j ts l e q k i. keep l q)
          (λ x l t c q k i. keep l q)
          (λ p q e l i. keep l (ready-was (m.holder.lives a) l i).0)
          (λ j c w l e q p k i. keep l q)
        where
          keep : (l : Life) → m.holder.lives a ≡ Some l → OwnLink (holder_after m.holder d).kept (fate_after d a (m.fates a))
          keep l e = own-fate (m.fates a) ((linked.own) is l e)

          first : (c k : ℕ) (w : List ℕ) → d ≡ Begins a c w k → OwnLink (holder_after m.holder d).kept (fate_after d a (m.fates a))
          first c k w e =
              subst (λ z. OwnLink (holder_after m.holder d).kept (fate_after z a (m.fates a))) (sym e)
              (subst (λ f. OwnLink (holder_after m.holder d).kept (fate_after (Begins a c w k) a f)) (sym (begins-new c k w e)) (begins (same_trans a a) (same_trans-itself a)))
            where
              begins : (b : Bool) → b ≡ true → OwnLink (holder_after m.holder d).kept (cond b (begun c Undrawn) Undrawn)
              begins true i = tt
              begins false i = cc

      -- ---- of a join

      stays-ready : (v w : Option ℕ) → Type 0
      stays-ready v w = is_some v ≡ true → is_some w ≡ true

      join-next : (j : JoinNo) (v w : Option ℕ) (p : Phase) → m.phases j ≡ p → (is_some v ≡ true → is_some w ≡ true) → ((ts : ℕ) → d ≡ Readies j a ts → is_some w ≡ true)
          → JoinLink a m.holder.kept v p → JoinLink a (holder_after m.holder d).kept w (phase_after d j p)
      join-next j v w Unseen is vw rd h = absurd h
      join-next j v w (Joining u k q) is vw rd h = absurd h
      join-next j v w (Active u k q) is vw rd h =
          phase-moves (JoinLink a (holder_after m.holder d).kept w) d j (Active u k q) h (λ t c w e. h) (λ t c w e. h)
          (λ t ts e. (h, rd ts (e ∙ ap (λ z. Readies j z ts) (its t ts e)))) (λ x e. h) tt (λ t. stop (same_trans t u)) (λ a b e. tt)
        where
          its : (t : TransId) (ts : ℕ) → d ≡ Readies j t ts → t ≡ a
          its t ts e =
              let k2 = subst (Knows log proper n m) e knows in
              let same : Active u k q ≡ Active t k2.0 k2.1 = sym is ∙ k2.2 in
              let i : t ≡ u = cc in i ∙ h

          stop : (b : Bool) → JoinLink a (holder_after m.holder d).kept w (cond b Over (Active u k q))
          stop true = tt
          stop false = h
      join-next j v w (Ready u k ts) is vw rd h =
          phase-moves (JoinLink a (holder_after m.holder d).kept w) d j (Ready u k ts) (h.0, vw h.1) (λ t c w e. (h.0, vw h.1)) (λ t c w e. (h.0, vw h.1)) (λ t ts e. (h.0, vw h.1))
          (λ x e. go x e (same_trans x.trans u)) (h.0, vw h.1) (λ t. stop (same_trans t u)) (λ a b e. (h.0, vw h.1))
        where
          go : (x : Stamp) → d ≡ Applies j x → (b : Bool) → JoinLink a (holder_after m.holder d).kept w (cond b (Applied u x) (Ready u k ts))
          go x e true = (let q = subst (Knows log proper n m) e knows in (h.0, kept-commit m.holder d x q.3.0 (inr (j, e)) q.3.1))
          go x e false = (h.0, vw h.1)

          stop : (b : Bool) → JoinLink a (holder_after m.holder d).kept w (cond b Over (Ready u k ts))
          stop true = tt
          stop false = (h.0, vw h.1)
      join-next j v w (Applied u x) is vw rd h =
          subst (JoinLink a (holder_after m.holder d).kept w) (sym (applied-keeps u x d j (Applied u x) refl))
          (h.0, (let g : m.holder.kept ≤ (holder_after m.holder d).kept = grows in let low : x.ts ≤ m.holder.kept = h.1 in omega (arith, g, low)))
      join-next j v w Over is vw rd h = subst (JoinLink a (holder_after m.holder d).kept w) (sym (over-keeps d j Over refl)) tt

      other-next : (a.server ≡ n → ⊥) → (l : Life) → (holder_after m.holder d).lives a ≡ Some l → HasJoin n (state_deed m d) l
      other-next away l0 e0 =
          life-cases (λ o. (l : Life) → o ≡ Some l → (holder_after m.holder d).lives a ≡ Some l → HasJoin n (state_deed m d) l) m.holder d a
          (λ q l e f. keep l l e (λ k. k) (λ j ts i. (let wrong : None ≡ Some l = sym (q j ts i) ∙ e in cc)))
          (λ c k w e l i f. absurd (away (begins-here c k w e)))
          (λ j c w e l i f. entering j c w e l)
          (λ c l e q k i f. keep l k q (λ v. subst (λ (z : Option Life). is_vote z ≡ true) i v) (λ j ts g. (let wrong : Grants a c ≡ Readies j a ts = sym e ∙ g in cc)))
          (λ x l e q k i f. keep l k q (λ v. subst (λ (z : Option Life). is_vote z ≡ true) i v) (λ j ts g. (let wrong : Performs a x ≡ Readies j a ts = sym e ∙ g in cc)))
          (λ e l i f. (let wrong : None ≡ Some l = i in cc))
          (λ j ts l e q k i f. keep l k q (λ v. ap is_vote (sym i)) (λ j2 ts2 g. ap is_vote (sym i)))
          (λ x l t c q k i f. commits-to x l t c q k)
          (λ p q e l i f. (let r = ready-was (m.holder.lives a) l i in keep l l r.0 (λ k. k) (λ j ts g. (let wrong : Restarts p q ≡ Readies j a ts = sym e ∙ g in cc))))
          (λ j c w l e q p k i f. aborting j c w l k e q f)
          l0 e0 e0
        where
          is_vote : Option Life → Bool
          is_vote None = false
          is_vote (Some z) = is_some z.vote

          keep : (l k : Life) → m.holder.lives a ≡ Some l → (is_some l.vote ≡ true → is_some k.vote ≡ true) → ((j : JoinNo) (ts : ℕ) → d ≡ Readies j a ts → is_some k.vote ≡ true) → HasJoin n (state_deed m d) k
          keep l k e vw rd = (let x = (linked.other) away l e in (x.0, x.1, join-next x.0 l.vote k.vote (m.phases x.0) refl vw (rd x.0) x.2))

          -- a part that votes still has its vote
          revote : (k : Life) (v : Option ℕ) (j : JoinNo) (p : Phase) → HasPart log proper n (holder_after m.holder d).lives j p → (holder_after m.holder d).lives a ≡ Some k
              → JoinLink a (holder_after m.holder d).kept v p → JoinLink a (holder_after m.holder d).kept k.vote p
          revote k v j Unseen part f h = h
          revote k v j (Joining t c w) part f h = h
          revote k v j (Active t c w) part f h = h
          revote k v j (Ready t c ts) part f h =
              (h.0, subst (λ (z : Life). is_some z.vote ≡ true) (some-same part.0 k (sym part.1 ∙ ap (holder_after m.holder d).lives h.0 ∙ f)) (ap is_some part.2))
          revote k v j (Applied t x) part f h = h
          revote k v j Over part f h = h

          aborting : (j : JoinNo) (c : ℕ) (w : _) (l k : Life) → d ≡ Aborts j a c w → m.holder.lives a ≡ Some l → (holder_after m.holder d).lives a ≡ Some k → HasJoin n (state_deed m d) k
          aborting j c w l k e q f =
              let x = (linked.other) away l q in (
                x.0,
                x.1,
                revote k l.vote x.0 (phase_after d x.0 (m.phases x.0)) ((after.parts) x.0) f
                    (join-next x.0 l.vote l.vote (m.phases x.0) refl (λ v. v) (λ ts g. (let wrong : Aborts j a c w ≡ Readies x.0 a ts = sym e ∙ g in cc)) x.2),
              )

          entering : (j : JoinNo) (c : ℕ) (w : List ℕ) → d ≡ Enters j a c w → (l : Life) → HasJoin n (state_deed m d) l
          entering j c w e l =
              let q = subst (Knows log proper n m) e knows in (
                j,
                inl q.0,
                subst (λ z. JoinLink a (holder_after m.holder d).kept l.vote (phase_after z j (m.phases j))) (sym e)
                    (subst (λ p. JoinLink a (holder_after m.holder d).kept l.vote (phase_after (Enters j a c w) j p)) (sym q.1) (lets (same_join j j) (same_join-itself j))),
              )
            where
              lets : (b : Bool) → b ≡ true → JoinLink a (holder_after m.holder d).kept l.vote (cond b (Active a c w) (Joining a c w))
              lets true i = refl
              lets false i = cc

          commits-to : (x : Stamp) (l : Life) → x.trans ≡ a → IsCommit x d → m.holder.lives a ≡ Some l → (k : Life) → HasJoin n (state_deed m d) k
          commits-to x l t c e k = elim c [
            | inl q ↦ (let z = subst (Knows log proper n m) q.1 knows in absurd (away (ap (λ u. u.server) (sym t) ∙ z.0)))
            | inr q ↦
                let z = subst (Knows log proper n m) q.1 knows in
                let mine : LetIn n a q.0 = subst (λ u. LetIn n u q.0) t (subst (IsRight n q.0) z.2 ((linked.right) q.0)) in
                let low : x.ts ≤ (holder_after m.holder d).kept = kept-commit m.holder d x z.3.0 (inr q) z.3.1 in (
                  q.0,
                  mine,
                  subst (λ y. JoinLink a (holder_after m.holder d).kept k.vote (phase_after y q.0 (m.phases q.0))) (sym q.1)
                      (subst (λ p. JoinLink a (holder_after m.holder d).kept k.vote (phase_after (Applies q.0 x) q.0 p)) (sym z.2)
                      (go q.0 z.0 z.1 low (same_join q.0 q.0) (same_join-itself q.0) (same_trans x.trans x.trans) (same_trans-itself x.trans))),
                )
          ]
            where
              go : (j : JoinNo) (c ts : ℕ) → x.ts ≤ (holder_after m.holder d).kept → (b : Bool) → b ≡ true → (b2 : Bool) → b2 ≡ true
                  → JoinLink a (holder_after m.holder d).kept k.vote (cond b (cond b2 (Applied x.trans x) (Ready x.trans c ts)) (Ready x.trans c ts))
              go j c ts low true i true i2 = (t, low)
              go j c ts low true i false i2 = cc
              go j c ts low false i b2 i2 = cc

      pub linked-next : Linked n (state_deed m d)
      linked-next = record { fresh = fresh-next; right = λ j. right-step n m d knows j (m.phases j) refl ((linked.right) j); own = own-next; other = other-next }

    pub linked-core : (n : ℕ) (s m : State) → IsSameCore s m → Linked n s → Linked n m
    linked-core n s m c l = record {
      fresh = λ t be. ap {B = Fate} (λ (f : TransId → Fate). f t) (sym c.3) ∙ (l.fresh) t (subst (IsBeyond t) (sym c.0) be);
      right = λ j. subst (λ (p : JoinNo → Phase). IsRight n j (p j)) c.2 ((l.right) j);
      own = λ is k e. subst (λ (h : Holder). OwnLink h.kept (m.fates a)) c.1 (subst (λ (f : TransId → Fate). OwnLink s.holder.kept (f a)) c.3 ((l.own) is k (was k e)));
      other = λ away k e.
          (let x = (l.other) away k (was k e) in
          (x.0, x.1, subst (λ (h : Holder). JoinLink a h.kept k.vote (m.phases x.0)) c.1 (subst (λ (p : JoinNo → Phase). JoinLink a s.holder.kept k.vote (p x.0)) c.2 x.2)));
    }
      where
        was : (k : Life) → m.holder.lives a ≡ Some k → s.holder.lives a ≡ Some k
        was k e = ap {B = Option Life} (λ (h : Holder). h.lives a) c.1 ∙ e
