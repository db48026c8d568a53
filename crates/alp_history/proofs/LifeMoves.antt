-- how a deed moves a part that lives, a join's phase and the kept clock
use Rattle.std.specs.Prelude.{Bool, true, false, cond, ◌&&◌, is_some, Option, None, Some, IsTrue}
use Rattle.std.proofs.Common.{◌≡◌, ℕ, ◌≤◌, List, [], refl, sym, ap, subst, ◌∙◌, arith, inl, inr, ◌⊎◌}
use Rattle.alp_base.specs.declared.ids.JoinNo.{JoinNo}
use Rattle.alp_base.specs.declared.ids.TransId.{TransId}
use Rattle.alp_base.specs.declared.ids.Stamp.{Stamp}
use Rattle.alp_modes.specs.declared.Mode.{Mode}
use Rattle.alp_modes.specs.Modes.{agree}
use Rattle.alp_files.specs.Holdings.{Holding, join_held, agree_held, held_by, DoAgree}
use Rattle.alp_files.proofs.HoldingLemmas.{agree-turned}
use Rattle.alp_modes.proofs.ModeLemmas.{agreement-joint, left-true}
use Rattle.alp_files.specs.declared.call.Call.{Call}
use Rattle.alp_files.specs.Act.{no_opens}
use Rattle.alp_files.specs.History.{PerformedCall}
use Rattle.alp_files.specs.Locks.{Need, joined}
use Rattle.alp_journal.specs.Ids.{same_trans, same_join}
use Rattle.alp_journal.specs.Deeds.{Deed, Begins, Joins, Enters, Quits, Aborts, Grants, Performs, Releases, Readies, Applies, Registers, Finishes, Hears, Decides, Ends, Acknowledges, Forgets, Restarts}
use Rattle.alp_journal.specs.Participant.{Phase, Applied, Over, drawn, entered, readied, applied, quit, aborted, restarted, phase_after}
use Rattle.alp_journal.specs.Holder.{is_part, lapsed, Holder, Life, no_locks, new_life, answer_in, held_for, grants, performs, readies, after_done, commits, if_ready, holder_after}
use Rattle.alp_journal.specs.Holding.{MayDo}
use Rattle.alp_journal.proofs.IdLemmas.{same_trans-true, same_join-true, same_trans-itself}

-- ---- locks that grow

agrees-first : (a b c : Option Mode) → IsTrue (agree_held (join_held a b) c) → IsTrue (agree_held a c)
agrees-first None b c h = refl
agrees-first (Some a) None c h = h
agrees-first (Some a) (Some b) None h = refl
agrees-first (Some a) (Some b) (Some c) h =
    let turned : IsTrue (agree_held (Some c) (join_held (Some a) (Some b))) = agree-turned (Some c) (join_held (Some a) (Some b)) ∙ h in
    let both : IsTrue (agree c a && agree c b) = sym (agreement-joint c a b) ∙ turned in
    agree-turned (Some a) (Some c) ∙ left-true (agree c a) (agree c b) both

-- whoever agrees with the one agrees with the other
abbrev pub Covers : Holding → Holding → Type 0
Covers a b = (c : Holding) → DoAgree a c → DoAgree b c

pub covers-joined : (a b : Holding) (ns : List Need) → Covers a b → Covers (joined a ns) b
covers-joined a b ns h c k = h c (λ r. agrees-first (a r) (held_by ns r) (c r) (k r))

pub agrees-none : (a : Holding) → DoAgree a no_locks
agrees-none a r = one (a r)
  where
    one : (x : Option Mode) → IsTrue (agree_held x None)
    one None = refl
    one (Some x) = refl

-- ---- lives

-- a commit of this stamp
abbrev pub IsCommit : Stamp → Deed → Type 0
IsCommit x d = ((js : List JoinNo) × (d ≡ Decides x js)) ⊎ ((j : JoinNo) × (d ≡ Applies j x))

-- what a commit leaves of a part
abbrev pub left_of : Life → Life
left_of l = record l { calls = []; edits = []; own = no_opens; vote = None; is_early = false }

abbrev is_readies : Deed → Bool
is_readies (Readies j t ts) = true
is_readies d = false

-- each deed leaves a life or moves it once
pub life-cases : (P : Option Life → Type 0) (h : Holder) (d : Deed) (t : TransId)
    → (((j : JoinNo) (ts : ℕ) → d ≡ Readies j t ts → h.lives t ≡ None) → P (h.lives t))
    → ((client seen : ℕ) (who : List ℕ) → d ≡ Begins t client who seen → P (Some (new_life None client who)))
    → ((j : JoinNo) (client : ℕ) (who : List ℕ) → d ≡ Enters j t client who → P (Some (new_life (Some j) client who)))
    → ((c : Call) (l : Life) → d ≡ Grants t c → h.lives t ≡ Some l → P (Some (record l { held = held_for h l c })))
    → ((x : PerformedCall) (l : Life) → d ≡ Performs t x → h.lives t ≡ Some l → P (Some (after_done l x (answer_in h l x))))
    → (d ≡ Releases t → P None)
    → ((j : JoinNo) (ts : ℕ) (l : Life) → d ≡ Readies j t ts → h.lives t ≡ Some l → P (Some (record l { vote = Some ts })))
    → ((x : Stamp) (l : Life) → x.trans ≡ t → IsCommit x d → h.lives t ≡ Some l → P (Some (left_of l)))
    → ((a b : ℕ) → d ≡ Restarts a b → P (if_ready (h.lives t)))
    → ((j : JoinNo) (client : ℕ) (c : _) (l : Life) → d ≡ Aborts j t client c → h.lives t ≡ Some l → is_part j l.join ≡ true → P (Some (left_of l)))
    → P ((holder_after h d).lives t)
life-cases P h d t same be en gr pe re rd co rs ab = go d refl
  where
    other : is_readies d ≡ false → P (h.lives t)
    other n = same (λ j ts e. (let wrong : false ≡ true = sym n ∙ ap is_readies e in cc))

    away : (u : TransId) → same_trans t u ≡ false → t ≡ u → ⊥
    away u n i = let wrong : false ≡ true = sym n ∙ ap (same_trans t) (sym i) ∙ same_trans-itself t in cc

    one : (u : TransId) (x : Option Life) → is_readies d ≡ false → (t ≡ u → P x) → (b : Bool) → same_trans t u ≡ b → P (cond b x (h.lives t))
    one u x n k true e = k (same_trans-true t u e)
    one u x n k false e = other n

    grant : (u : TransId) (c : Call) → d ≡ Grants u c → (o : Option Life) → h.lives u ≡ o → P ((grants h u c o).lives t)
    grant u c e None q = other (ap is_readies e)
    grant u c e (Some l) q = one u (Some (record l { held = held_for h l c })) (ap is_readies e) (λ i. gr c l (e ∙ ap (λ v. Grants v c) (sym i)) (ap h.lives i ∙ q)) (same_trans t u) refl

    perform : (u : TransId) (x : PerformedCall) → d ≡ Performs u x → (o : Option Life) → h.lives u ≡ o → P ((performs h u x o).lives t)
    perform u x e None q = other (ap is_readies e)
    perform u x e (Some l) q = one u (Some (after_done l x (answer_in h l x))) (ap is_readies e) (λ i. pe x l (e ∙ ap (λ v. Performs v x) (sym i)) (ap h.lives i ∙ q)) (same_trans t u) refl

    commit : (x : Stamp) → IsCommit x d → is_readies d ≡ false → (o : Option Life) → h.lives x.trans ≡ o → P ((commits h x o).lives t)
    commit x c n None q = other n
    commit x c n (Some l) q = one x.trans (Some (left_of l)) n (λ i. co x l (sym i) c (ap h.lives i ∙ q)) (same_trans t x.trans) refl

    trans_of : TransId → Deed → TransId
    trans_of v (Readies j u ts) = u
    trans_of v _ = v

    ready : (k : JoinNo) (u : TransId) (n : ℕ) → d ≡ Readies k u n → (o : Option Life) → h.lives u ≡ o → P ((readies h u n o).lives t)
    ready k u n e None q = same (λ j ts f. ap h.lives (ap (trans_of t) (sym f ∙ e)) ∙ q)
    ready k u n e (Some l) q = test (same_trans t u) refl
      where
        test : (b : Bool) → same_trans t u ≡ b → P (cond b (Some (record l { vote = Some n })) (h.lives t))
        test true f = (let i = same_trans-true t u f in rd k n l (e ∙ ap (λ v. Readies k v n) (sym i)) (ap h.lives i ∙ q))
        test false f = same (λ j ts g. absurd (away u f (ap (trans_of t) (sym g ∙ e))))

    go : (c : Deed) → d ≡ c → P ((holder_after h c).lives t)
    go (Begins u c w s) e = one u (Some (new_life None c w)) (ap is_readies e) (λ i. be c s w (e ∙ ap (λ v. Begins v c w s) (sym i))) (same_trans t u) refl
    go (Enters j u c w) e = one u (Some (new_life (Some j) c w)) (ap is_readies e) (λ i. en j c w (e ∙ ap (λ v. Enters j v c w) (sym i))) (same_trans t u) refl
    go (Grants u c) e = grant u c e (h.lives u) refl
    go (Performs u x) e = perform u x e (h.lives u) refl
    go (Releases u) e = one u None (ap is_readies e) (λ i. re (e ∙ ap Releases (sym i))) (same_trans t u) refl
    go (Readies j u ts) e = ready j u ts e (h.lives u) refl
    go (Decides x js) e = commit x (inl (js, e)) (ap is_readies e) (h.lives x.trans) refl
    go (Applies j x) e = commit x (inr (j, e)) (ap is_readies e) (h.lives x.trans) refl
    go (Restarts a b) e = rs a b e
    go (Joins j u c w) e = other (ap is_readies e)
    go (Quits j u c k) e = other (ap is_readies e)
    go (Aborts j u c k) e = there (same_trans t u) refl
      where
        part : (l : Life) → h.lives t ≡ Some l → t ≡ u → (b : Bool) → is_part j l.join ≡ b → P (Some (cond b (left_of l) l))
        part l q i true p = ab j c k l (e ∙ ap (λ v. Aborts j v c k) (sym i)) q p
        part l q i false p = subst P q (other (ap is_readies e))

        here : (o : Option Life) → h.lives t ≡ o → t ≡ u → P (lapsed j o)
        here None q i = subst P q (other (ap is_readies e))
        here (Some l) q i = part l q i (is_part j l.join) refl

        there : (b : Bool) → same_trans t u ≡ b → P (cond b (lapsed j (h.lives t)) (h.lives t))
        there true f = here (h.lives t) refl (same_trans-true t u f)
        there false f = other (ap is_readies e)
    go (Registers u j) e = other (ap is_readies e)
    go (Finishes u) e = other (ap is_readies e)
    go (Hears u j ts) e = other (ap is_readies e)
    go (Ends u c k) e = other (ap is_readies e)
    go (Acknowledges u j) e = other (ap is_readies e)
    go (Forgets u) e = other (ap is_readies e)

-- what a restart leaves of a part was there
pub ready-was : (o : Option Life) (l : Life) → if_ready o ≡ Some l → (o ≡ Some l) × (is_some l.vote ≡ true)
ready-was None l h = cc
ready-was (Some k) l h = go (is_some k.vote) refl h
  where
    go : (b : Bool) → is_some k.vote ≡ b → cond {A = Option Life} b (Some k) None ≡ Some l → (Some k ≡ Some l) × (is_some l.vote ≡ true)
    go true e i = (i, subst (λ (o : Option Life). is_vote o ≡ true) i e)
      where
        is_vote : Option Life → Bool
        is_vote None = false
        is_vote (Some z) = is_some z.vote
    go false e i = cc

-- ---- the kept clock

pub kept-grows : (h : Holder) (d : Deed) → h.kept ≤ h.clock → MayDo h d → h.kept ≤ (holder_after h d).kept
kept-grows h d le may = go d may
  where
    commit : (x : Stamp) (o : Option Life) → h.kept ≤ (commits h x o).kept
    commit x None = omega arith
    commit x (Some l) = omega (arith, le)

    grant : (t : TransId) (c : Call) (o : Option Life) → h.kept ≤ (grants h t c o).kept
    grant t c None = omega arith
    grant t c (Some l) = omega arith

    perform : (t : TransId) (x : PerformedCall) (o : Option Life) → h.kept ≤ (performs h t x o).kept
    perform t x None = omega arith
    perform t x (Some l) = omega arith

    ready : (t : TransId) (ts : ℕ) (o : Option Life) → h.kept ≤ (readies h t ts o).kept
    ready t ts None = omega arith
    ready t ts (Some l) = omega arith

    go : (c : Deed) → MayDo h c → h.kept ≤ (holder_after h c).kept
    go (Grants t c) m = grant t c (h.lives t)
    go (Performs t x) m = perform t x (h.lives t)
    go (Readies j t ts) m = ready t ts (h.lives t)
    go (Decides x js) m = commit x (h.lives x.trans)
    go (Applies j x) m = commit x (h.lives x.trans)
    go (Restarts a b) m = m
    go (Begins u c w s) m = omega arith
    go (Enters j u c w) m = omega arith
    go (Releases u) m = omega arith
    go (Joins j u c w) m = omega arith
    go (Quits j u c k) m = omega arith
    go (Aborts j u c k) m = omega arith
    go (Registers u j) m = omega arith
    go (Finishes u) m = omega arith
    go (Hears u j ts) m = omega arith
    go (Ends u c k) m = omega arith
    go (Acknowledges u j) m = omega arith
    go (Forgets u) m = omega arith

-- a commit of a part that lives raises it to the stamp
pub kept-commit : (h : Holder) (d : Deed) (x : Stamp) (l : Life) → IsCommit x d → h.lives x.trans ≡ Some l → x.ts ≤ (holder_after h d).kept
kept-commit h d x l c is = elim c [ inl k ↦ subst (λ z. x.ts ≤ (holder_after h z).kept) (sym k.1) low | inr k ↦ subst (λ z. x.ts ≤ (holder_after h z).kept) (sym k.1) low ]
  where
    low : x.ts ≤ (commits h x (h.lives x.trans)).kept
    low = subst (λ (o : Option Life). x.ts ≤ (commits h x o).kept) (sym is) (omega arith)

-- ---- phases

-- each deed leaves a phase or moves it once, with the deed at each move
pub phase-moves : (P : Phase → Type 0) (d : Deed) (j : JoinNo) (p : Phase) → P p
    → ((t : TransId) (client : ℕ) (who : List ℕ) → d ≡ Joins j t client who → P (drawn t client who p))
    → ((t : TransId) (client : ℕ) (who : List ℕ) → d ≡ Enters j t client who → P (entered p))
    → ((t : TransId) (ts : ℕ) → d ≡ Readies j t ts → P (readied ts p))
    → ((x : Stamp) → d ≡ Applies j x → P (applied x p)) → P (quit p) → ((t : TransId) → P (aborted t p)) → ((a b : ℕ) → d ≡ Restarts a b → P (restarted p))
    → P (phase_after d j p)
phase-moves P d j p same dr en re ap_ qu ab rs = go d refl
  where
    one : (k : JoinNo) (g : Phase) (b : Bool) → same_join k j ≡ b → (k ≡ j → P g) → P (cond b g p)
    one k g true e h = h (same_join-true k j e)
    one k g false e h = same

    go : (c : Deed) → d ≡ c → P (phase_after c j p)
    go (Joins k t client who) e = one k (drawn t client who p) (same_join k j) refl (λ i. dr t client who (e ∙ ap (λ x. Joins x t client who) i))
    go (Enters k t client who) e = one k (entered p) (same_join k j) refl (λ i. en t client who (e ∙ ap (λ x. Enters x t client who) i))
    go (Readies k t ts) e = one k (readied ts p) (same_join k j) refl (λ i. re t ts (e ∙ ap (λ x. Readies x t ts) i))
    go (Applies k x) e = one k (applied x p) (same_join k j) refl (λ i. ap_ x (e ∙ ap (λ y. Applies y x) i))
    go (Quits k t client c) e = one k (quit p) (same_join k j) refl (λ i. qu)
    go (Aborts k t client c) e = one k (aborted t p) (same_join k j) refl (λ i. ab t)
    go (Restarts a b) e = rs a b e
    go (Begins u client who seen) e = same
    go (Registers u k) e = same
    go (Finishes u) e = same
    go (Hears u k ts) e = same
    go (Decides x js) e = same
    go (Ends u client c) e = same
    go (Acknowledges u k) e = same
    go (Forgets u) e = same
    go (Grants u c) e = same
    go (Performs u x) e = same
    go (Releases u) e = same

-- an applied join stays so, and one that is over does
pub applied-keeps : (t : TransId) (x : Stamp) (d : Deed) (j : JoinNo) (p : Phase) → p ≡ Applied t x → phase_after d j p ≡ Applied t x
applied-keeps t x d j p h =
    subst (λ q. phase_after d j q ≡ Applied t x) (sym h)
    (phase-moves (λ q. q ≡ Applied t x) d j (Applied t x) refl (λ u c w e. refl) (λ u c w e. refl) (λ u ts e. refl) (λ y e. refl) refl (λ u. refl) (λ a b e. refl))

pub over-keeps : (d : Deed) (j : JoinNo) (p : Phase) → p ≡ Over → phase_after d j p ≡ Over
over-keeps d j p h =
    subst (λ q. phase_after d j q ≡ Over) (sym h)
    (phase-moves (λ q. q ≡ Over) d j Over refl (λ u c w e. refl) (λ u c w e. refl) (λ u ts e. refl) (λ y e. refl) refl (λ u. refl) (λ a b e. refl))
