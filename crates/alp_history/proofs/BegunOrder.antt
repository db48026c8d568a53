-- a transaction's stamp is above what its client had seen as it began
use Rattle.std.specs.Prelude.{Bool, true, false, cond, max, Option, Some, flat_map, filter}
use Rattle.std.proofs.Common.{◌≡◌, ℕ, suc, ◌+◌, ◌<◌, ◌≤◌, List, [], ◌∷◌, ◌++◌, slice_get, refl, sym, ap, subst, ◌∙◌, arith, inl, inr, ◌⊎◌}
use Rattle.alp_base.specs.declared.ids.JoinNo.{JoinNo}
use Rattle.alp_base.specs.declared.ids.TransId.{TransId}
use Rattle.alp_base.specs.declared.ids.Stamp.{Stamp}
use Rattle.alp_files.specs.declared.call.Call.TheVariants as call
use Rattle.alp_files.specs.declared.reply.Reply.{Reply}
use Rattle.alp_files.specs.declared.reply.Reply.TheVariants as reply
use Rattle.alp_journal.specs.declared.act.Act.{Act}
use Rattle.alp_journal.specs.declared.act.Act.TheVariants as act
use Rattle.alp_journal.specs.declared.event.Event.{Event}
use Rattle.alp_journal.specs.declared.event.Event.TheVariants as event
use Rattle.alp_journal.specs.declared.entry.Entry.{Entry}
use Rattle.alp_journal.specs.Along.{Along, Where, state_after}
use Rattle.alp_journal.specs.Ids.{same_trans}
use Rattle.alp_journal.specs.Opening.{DecisionNote}
use Rattle.alp_journal.specs.Deeds.{Deed, Begins, Joins, Enters, Quits, Aborts, Grants, Performs, Releases, Readies, Applies, Registers, Finishes, Hears, Decides, Ends, Acknowledges, Forgets, Restarts}
use Rattle.alp_journal.specs.Coordinator.{Fate, Undrawn, Running, Finishing, Committed, Forgotten, Ended, fate_after, fate_noted, begun, decision_in}
use Rattle.alp_journal.specs.State.{Ids, State, ids_after, state_deed, opened}
use Rattle.alp_journal.specs.Moves.{is_new, next_trans, event_deeds, act_deeds, done_deeds, is_stop, stops, tried, did, told, halted, next, resolved, is_effective, principal}
use Rattle.alp_journal.specs.Laws.{CountsOn, Regains, drawn_by, is_written, IsStopped, TellsStop}
use Rattle.alp_history.specs.Log.{Log, journal_of, opening_of, state_at, final, IsIn}
use Rattle.alp_history.specs.Theorems.{IsProper, GoesByBegins}
use Rattle.alp_history.proofs.Places.{state-append, keeps-from, in-list, some-same}
use Rattle.alp_journal.proofs.IdLemmas.{same_trans-true, same_trans-itself}
use Rattle.alp_history.proofs.Entries.{is_open, effective-open}
use Rattle.alp_history.proofs.Logs.{lawful-at, state-suc}
use Rattle.alp_history.proofs.Agreed.{size, at-end, all-of, backed-at, Promise, Acked}
use Rattle.alp_history.proofs.Fates.{IsBacked}
use Rattle.alp_history.proofs.Begun.{IsAfter, IsAfterIn, after-keep, after-right, after-from}
use Rattle.alp_history.proofs.Rights.{IsRightDeed, IsRightEntry}

-- ids that were not given yet
abbrev pub IsBeyond : TransId → Ids → Type 0
IsBeyond t s = (s.epoch < t.epoch) ⊎ ((s.epoch ≡ t.epoch) × (s.transactions < t.counter))

-- what is beyond after a deed was beyond before it
beyond-before : (d : Deed) (s : Ids) (t : TransId) → ((a b : ℕ) → d ≡ Restarts a b → s.epoch < a) → IsBeyond t (ids_after s d) → IsBeyond t s
beyond-before (Begins u c w n) s t up h = elim h [ inl a ↦ inl a | inr a ↦ inr (a.0, (let b : s.transactions + 1 < t.counter = a.1 in omega (arith, b))) ]
beyond-before (Joins j u c w) s t up h = h
beyond-before (Performs u x) s t up h = h
beyond-before (Restarts a b) s t up h =
    let low : s.epoch < a = up a b refl in
    elim h [ inl x ↦ inl (omega (arith, x, low)) | inr x ↦ (let e : a ≡ t.epoch = x.0 in inl (omega (arith, e, low))) ]
beyond-before d s t up h = h

abbrev restart-epoch : ℕ → Deed → ℕ
restart-epoch k (Restarts a b) = a
restart-epoch k d = k

abbrev first_or : TransId → List TransId → TransId
first_or u [] = u
first_or u (t ∷ ts) = t

abbrev pub IsBegun_ : TransId → Deed → Type 0
IsBegun_ t d = (client : ℕ) × (who : List ℕ) × (seen : ℕ) × (d ≡ Begins t client who seen)

undrawn : (d : Deed) (t : TransId) (f : Fate) → (IsBegun_ t d → ⊥) → f ≡ Undrawn → fate_after d t f ≡ Undrawn
undrawn d t f n h = subst (λ g. fate_after d t g ≡ Undrawn) (sym h) (go d n)
  where
    same : (b : Bool) → cond b Undrawn Undrawn ≡ Undrawn
    same true = refl
    same false = refl

    new : (u : TransId) (c k : ℕ) (w : List ℕ) → (IsBegun_ t (Begins u c w k) → ⊥) → (b : Bool) → same_trans u t ≡ b → cond b (begun c Undrawn) Undrawn ≡ Undrawn
    new u c k w n true e = absurd (n (c, w, k, ap (λ x. Begins x c w k) (same_trans-true u t e)))
    new u c k w n false e = refl

    go : (d : Deed) → (IsBegun_ t d → ⊥) → fate_after d t Undrawn ≡ Undrawn
    go (Begins u c w k) n = new u c k w n (same_trans u t) refl
    go (Registers u j) n = same (same_trans u t)
    go (Finishes u) n = same (same_trans u t)
    go (Hears u j ts) n = same (same_trans u t)
    go (Decides x js) n = same (same_trans x.trans t)
    go (Ends u c k) n = same (same_trans u t)
    go (Acknowledges u j) n = same (same_trans u t)
    go (Forgets u) n = same (same_trans u t)
    go (Restarts a b) n = refl
    go (Joins j u c w) n = refl
    go (Enters j u c w) n = refl
    go (Quits j u c k) n = refl
    go (Aborts j u c k) n = refl
    go (Grants u c) n = refl
    go (Performs u x) n = refl
    go (Releases u) n = refl
    go (Readies j u ts) n = refl
    go (Applies j x) n = refl

same-epoch : (d : Deed) (s : State) → is_open d ≡ true → (state_deed s d).ids.epoch ≡ s.ids.epoch
same-epoch (Restarts a b) s o = cc
same-epoch (Begins t c w n) s o = refl
same-epoch (Joins j t c w) s o = refl
same-epoch (Performs t x) s o = refl
same-epoch d s o = refl

abbrev pub IsFresh : State → Type 0
IsFresh s = (t : TransId) → IsBeyond t s.ids → s.fates t ≡ Undrawn

pub beyond-next : (t : TransId) (m : State) → t ≡ next_trans m → IsBeyond t m.ids
beyond-next t m is = let c : t.counter ≡ m.ids.transactions + 1 = ap (λ x. x.counter) is in inr (sym (ap (λ x. x.epoch) is), omega (arith, c))

pub fresh-step : (m : State) (d : Deed) → ((t : TransId) → IsBegun_ t d → t ≡ next_trans m) → ((a b : ℕ) → d ≡ Restarts a b → m.ids.epoch < a) → IsFresh m → IsFresh (state_deed m d)
fresh-step m d next up h t beyond = undrawn d t (m.fates t) (λ w. not-now w) (h t (beyond-before d m.ids t up beyond))
  where
    not-now : IsBegun_ t d → ⊥
    not-now w =
        let is : t ≡ next_trans m = next t w in
        let c : t.counter ≡ m.ids.transactions + 1 = ap (λ x. x.counter) is in
        let e : t.epoch ≡ m.ids.epoch = ap (λ x. x.epoch) is in
        let b : IsBeyond t (ids_after m.ids (Begins t w.0 w.1 w.2)) = subst (λ x. IsBeyond t (ids_after m.ids x)) w.3 beyond in
        elim b [ inl x ↦ omega (arith, x, e) | inr x ↦ (let k : m.ids.transactions + 1 < t.counter = x.1 in omega (arith, k, c)) ]

lawful-fresh : (e : Event) (m : State) (d : Deed) → IsRightDeed e m d → IsFresh m → IsFresh (state_deed m d)
lawful-fresh e m d law h =
    fresh-step m d (λ t w. subst (CountsOn m) w.3 law.counts) (λ a b is. (let c : a ≡ m.ids.epoch + 1 = subst (CountsOn m) is law.counts in omega (arith, c))) h

-- ---- the entry that begins a transaction

module _ (seen client : ℕ) (who : List ℕ) (t : TransId) where
  -- after its Begins it runs, and the clock is what its client saw at least
  begins-after : (e : Event) (m : State) → IsRightDeed e m (Begins t client who seen) → IsFresh m → IsAfterIn seen t (state_deed m (Begins t client who seen))
  begins-after e m law h =
      go (m.fates t) (h t (beyond-next t m law.counts)) (same_trans t t) (same_trans-itself t)
    where
      go : (f : Fate) → f ≡ Undrawn → (b : Bool) → b ≡ true → IsAfter seen (max m.holder.clock seen) (cond b (begun client f) f)
      go f is true yes_ = subst (λ g. IsAfter seen (max m.holder.clock seen) (begun client g)) (sym is) (omega arith)
      go f is false no_ = cc

  after-rest : (e : Event) (ds : List Deed) (m : State) → Along state_deed (IsRightDeed e) m ds → IsAfterIn seen t m → IsAfterIn seen t (state_after state_deed m ds)
  after-rest e [] m law h = h
  after-rest e (d ∷ ds) m law h = after-rest e ds (state_deed m d) law.1 (after-keep seen t m d (after-right seen t e m d h law.0) h)

  begun-in : (e : Event) (ds : List Deed) (m : State) → Along state_deed (IsRightDeed e) m ds → IsFresh m → IsIn (Begins t client who seen) ds → IsAfterIn seen t (state_after state_deed m ds)
  begun-in e [] m law h i = absurd i
  begun-in e (d ∷ ds) m law h i = elim i [
    | inl is ↦ after-rest e ds (state_deed m d) law.1 (subst (λ x. IsAfterIn seen t (state_deed m x)) is (begins-after e m (subst (IsRightDeed e m) (sym is) law.0) h))
    | inr more ↦ begun-in e ds (state_deed m d) law.1 (lawful-fresh e m d law.0 h) more
  ]

fresh-fold : (e : Event) (ds : List Deed) (m : State) → Along state_deed (IsRightDeed e) m ds → IsFresh m → IsFresh (state_after state_deed m ds)
fresh-fold e [] m law h = h
fresh-fold e (d ∷ ds) m law h = fresh-fold e ds (state_deed m d) law.1 (lawful-fresh e m d law.0 h)

-- ---- what is resolved begins nothing

open-fold : (p : Deed → Bool) → ((d : Deed) → p d ≡ true → is_open d ≡ true) → (ds : List Deed) (s : State) → IsFresh s → IsFresh (state_after state_deed s (filter p ds)) × ((state_after state_deed s (filter p ds)).ids.epoch ≡ s.ids.epoch)
open-fold p o [] s h = (h, refl)
open-fold p o (d ∷ ds) s h = go (p d) refl (open-fold p o ds s h) (λ k. open-fold p o ds (state_deed s d) (open-fresh k))
  where
    open-fresh : p d ≡ true → IsFresh (state_deed s d)
    open-fresh k = fresh-step s d (λ t w. absurd (no-begin t w (o d k))) (λ a b is. absurd (no-restart a b is (o d k))) h
      where
        no-begin : (t : TransId) → IsBegun_ t d → is_open d ≡ true → ⊥
        no-begin t w q = let x : is_open (Begins t w.0 w.1 w.2) ≡ true = subst (λ y. is_open y ≡ true) w.3 q in let no : false ≡ true = x in cc

        no-restart : (a b : ℕ) → d ≡ Restarts a b → is_open d ≡ true → ⊥
        no-restart a b is q = let x : is_open (Restarts a b) ≡ true = subst (λ y. is_open y ≡ true) is q in let no : false ≡ true = x in cc

    go : (b : Bool) → p d ≡ b → IsFresh (state_after state_deed s (filter p ds)) × ((state_after state_deed s (filter p ds)).ids.epoch ≡ s.ids.epoch)
        → (p d ≡ true → IsFresh (state_after state_deed (state_deed s d) (filter p ds)) × ((state_after state_deed (state_deed s d) (filter p ds)).ids.epoch ≡ (state_deed s d).ids.epoch))
        → IsFresh (state_after state_deed s (cond b (d ∷ filter p ds) (filter p ds))) × ((state_after state_deed s (cond b (d ∷ filter p ds) (filter p ds))).ids.epoch ≡ s.ids.epoch)
    go true is a b = (let x = b is in (x.0, x.1 ∙ same-epoch d s (o d is)))
    go false is a b = a

-- ---- along a journal

fresh-entry : (s : State) (e : Entry) → IsRightEntry s e → IsFresh s → IsFresh (next s e)
fresh-entry s e law h = go e.event e.reply e.acts law
  where
    plain : (x : Event) (r : Option Reply) (acts : List Act) → Along state_deed (IsRightDeed x) s (tried s (record { event = x; reply = r; acts = acts })) → IsFresh (next s (record { event = x; reply = r; acts = acts }))
    plain x r acts law = both (stops (record { event = x; reply = r; acts = acts }))
      where
        both : (b : Bool) → IsFresh (cond b (halted s (record { event = x; reply = r; acts = acts })) (told s (record { event = x; reply = r; acts = acts })))
        both true = h
        both false = fresh-fold x (tried s (record { event = x; reply = r; acts = acts })) s law h

    again : (r : Option Reply) (acts : List Act) → Regains s acts → IsFresh (next s (record { event = event.Restart; reply = r; acts = acts }))
    again r (act.Regained epoch clock ready stamps ∷ []) law =
        let e : Entry = record { event = event.Restart; reply = r; acts = act.Regained epoch clock ready stamps ∷ [] } in
        let found : State = state_after state_deed s (resolved s ready clock stamps) in
        let f = open-fold (is_effective ready clock stamps) (effective-open ready clock stamps) s.pending s h in
        let last : IsFresh (state_deed found (Restarts epoch clock)) =
        fresh-step found (Restarts epoch clock) (λ t w. (let wrong : Restarts epoch clock ≡ Begins t w.0 w.1 w.2 = w.3 in cc))
        (λ a b is. (let k : epoch ≡ s.ids.epoch + 1 = law.0 in let m : found.ids.epoch ≡ s.ids.epoch = f.1 in let q : epoch ≡ a = ap (restart-epoch epoch) is in omega (arith, k, m, q))) f.0 in
        let list : state_after state_deed s (tried s e) ≡ state_deed found (Restarts epoch clock) =
        state-append state_deed s ((resolved s ready clock stamps ++ Restarts epoch clock ∷ []) ++ []) []
        ∙ state-append state_deed s (resolved s ready clock stamps ++ Restarts epoch clock ∷ []) []
        ∙ state-append state_deed s (resolved s ready clock stamps) (Restarts epoch clock ∷ []) in
        subst IsFresh (sym list) last
    again r [] law = absurd law
    again r (act.Regained epoch clock ready stamps ∷ a ∷ acts) law = absurd law
    again r (act.Sent to m ∷ acts) law = absurd law
    again r (act.Granted t ∷ acts) law = absurd law
    again r (act.Drawn t ∷ acts) law = absurd law
    again r (act.Registered t j ∷ acts) law = absurd law
    again r (act.Readied t j ts ∷ acts) law = absurd law
    again r (act.Decided x js ∷ acts) law = absurd law
    again r (act.Applied j x ∷ acts) law = absurd law
    again r (act.Released t ∷ acts) law = absurd law
    again r (act.Forgot t ∷ acts) law = absurd law
    again r (act.Stopped ∷ acts) law = absurd law
    again r (act.Failed ∷ acts) law = absurd law

    go : (x : Event) (r : Option Reply) (acts : List Act) → IsRightEntry s (record { event = x; reply = r; acts = acts }) → IsFresh (next s (record { event = x; reply = r; acts = acts }))
    go event.Restart r acts law = again r acts law.restart.0
    go (event.Call client epoch number c) r acts law = plain (event.Call client epoch number c) r acts law.deeds
    go (event.Arrive from m) r acts law = plain (event.Arrive from m) r acts law.deeds
    go (event.Timeout t) r acts law = plain (event.Timeout t) r acts law.deeds
    go event.Tick r acts law = plain event.Tick r acts law.deeds
    go event.Force r acts law = plain event.Force r acts law.deeds

-- ---- what is drawn stands in the acts

drawn-in : (acts : List Act) (t : TransId) → flat_map drawn_by acts ≡ t ∷ [] → IsIn (act.Drawn t) acts
drawn-in [] t h = cc
drawn-in (act.Drawn u ∷ acts) t h = inl (ap act.Drawn (sym (ap (first_or u) h)))
drawn-in (act.Sent to m ∷ acts) t h = inr (drawn-in acts t h)
drawn-in (act.Granted u ∷ acts) t h = inr (drawn-in acts t h)
drawn-in (act.Registered u j ∷ acts) t h = inr (drawn-in acts t h)
drawn-in (act.Readied u j ts ∷ acts) t h = inr (drawn-in acts t h)
drawn-in (act.Decided x js ∷ acts) t h = inr (drawn-in acts t h)
drawn-in (act.Applied j x ∷ acts) t h = inr (drawn-in acts t h)
drawn-in (act.Released u ∷ acts) t h = inr (drawn-in acts t h)
drawn-in (act.Forgot u ∷ acts) t h = inr (drawn-in acts t h)
drawn-in (act.Regained a b c d ∷ acts) t h = inr (drawn-in acts t h)
drawn-in (act.Stopped ∷ acts) t h = inr (drawn-in acts t h)
drawn-in (act.Failed ∷ acts) t h = inr (drawn-in acts t h)

pub in-left : {A : Type 0} (x : A) (xs ys : List A) → IsIn x xs → IsIn x (xs ++ ys)
in-left x [] ys i = absurd i
in-left x (y ∷ xs) ys i = elim i [ inl e ↦ inl e | inr m ↦ inr (in-left x xs ys m) ]

pub in-right : {A : Type 0} (x : A) (xs ys : List A) → IsIn x ys → IsIn x (xs ++ ys)
in-right x [] ys i = i
in-right x (y ∷ xs) ys i = inr (in-right x xs ys i)

in-flat : {A B : Type 0} (f : A → List B) (xs : List A) (x : A) (y : B) → IsIn x xs → IsIn y (f x) → IsIn y (flat_map f xs)
in-flat f [] x y i k = absurd i
in-flat f (z ∷ xs) x y i k = elim i [ inl e ↦ in-left y (f z) (flat_map f xs) (subst (λ w. IsIn y (f w)) e k) | inr m ↦ in-right y (f z) (flat_map f xs) (in-flat f xs x y m k) ]

-- a stopped entry draws nothing
stopped-draws : (acts : List Act) (t : TransId) → IsStopped acts → IsIn (act.Drawn t) acts → ⊥
stopped-draws [] t h i = absurd h
stopped-draws (a ∷ []) t h i = elim i [ inl e ↦ (let x : is_stop (act.Drawn t) ≡ true = ap is_stop e ∙ h in let no : false ≡ true = x in cc) | inr m ↦ absurd m ]
stopped-draws (a ∷ b ∷ []) t h i = elim i [
  | inl e ↦ (let x : is_written (act.Drawn t) ≡ true = ap is_written e ∙ h.0 in let no : false ≡ true = x in cc)
  | inr m ↦ elim m [ inl e ↦ (let x : is_stop (act.Drawn t) ≡ true = ap is_stop e ∙ h.1 in let no : false ≡ true = x in cc) | inr k ↦ absurd k ]
]
stopped-draws (a ∷ b ∷ c ∷ acts) t h i = absurd h

module _ (log : Log) (proper : IsProper log) where
  noted-fresh : (n : ℕ) (ds : List DecisionNote) → ((d : DecisionNote) → IsIn d ds → d.stamp.trans.epoch < (opening_of log n).epoch) → (t : TransId) → (opening_of log n).epoch ≤ t.epoch → fate_noted ds t ≡ Undrawn
  noted-fresh n [] f t le = refl
  noted-fresh n (d ∷ ds) f t le = go (same_trans d.stamp.trans t) refl (noted-fresh n ds (λ x i. f x (inr i)) t le)
    where
      go : (b : Bool) → same_trans d.stamp.trans t ≡ b → fate_noted ds t ≡ Undrawn → cond b (Committed d.stamp d.joins []) (fate_noted ds t) ≡ Undrawn
      go true e rest = absurd (let is : d.stamp.trans.epoch ≡ t.epoch = ap (λ x. x.epoch) (same_trans-true d.stamp.trans t e) in let l : d.stamp.trans.epoch < (opening_of log n).epoch = f d (inl refl) in omega (arith, is, l, le))
      go false e rest = rest

  pub fresh-at : (n i : ℕ) → i ≤ size log proper n → IsFresh (state_at log n i)
  fresh-at n i le =
      keeps-from next IsFresh (opened (opening_of log n)) (journal_of log n) 0 i (λ k e a b at h. fresh-entry (state_at log n k) e (lawful-at log proper.lawful proper.linked n k e at) h)
      (λ t beyond. noted-fresh n (opening_of log n).decisions (λ d x. ((proper.sound n).decisions d x).older) t (elim beyond [ inl a ↦ omega (arith, a) | inr a ↦ (let b : (opening_of log n).epoch ≡ t.epoch = a.0 in omega (arith, b)) ]))
      i (omega arith) (omega arith) le

  end-above : (seen clock : ℕ) (f : Fate) (x : Stamp) (js : List JoinNo) → IsAfter seen clock f → decision_in f ≡ Some (x, js) → seen < x.ts
  end-above seen clock (Committed y ks ds) x js h e = let same : y ≡ x = ap (λ (d : Stamp × List JoinNo). d.0) (some-same (y, ks) (x, js) e) in subst (λ (z : Stamp). seen < z.ts) same h
  end-above seen clock (Forgotten y ks) x js h e = let same : y ≡ x = ap (λ (d : Stamp × List JoinNo). d.0) (some-same (y, ks) (x, js) e) in subst (λ (z : Stamp). seen < z.ts) same h
  end-above seen clock Undrawn x js h e = cc
  end-above seen clock (Running c ks) x js h e = cc
  end-above seen clock (Finishing c ks vs) x js h e = cc
  end-above seen clock (Ended c) x js h e = cc

  module _ (n i client epoch number : ℕ) (seen stamp : Stamp) (acts : List Act) where
    abbrev begin : Entry
    begin = record { event = event.Call client epoch number (call.Begin seen); reply = Some (reply.Begun stamp.trans); acts = acts }

    begin-after : (at : slice_get (journal_of log n) i ≡ Some begin) → is_new (state_at log n i) client epoch number ≡ true
        → IsAfterIn seen.ts stamp.trans (next (state_at log n i) begin) × ((next (state_at log n i) begin).pending ≡ [])
    begin-after at new = go (stops begin) refl
      where
        s : State
        s = state_at log n i

        law : IsRightEntry (state_at log n i) begin
        law = lawful-at log proper.lawful proper.linked n i begin at

        stands : IsIn (act.Drawn stamp.trans) acts
        stands = drawn-in acts stamp.trans (law.drawn ∙ ap (λ (b : Bool). cond b (stamp.trans ∷ []) []) new)

        deed : IsIn (Begins stamp.trans client (principal (state_at log n i) client) seen.ts) (tried (state_at log n i) begin)
        deed =
            let d : Deed = Begins stamp.trans client (principal (state_at log n i) client) seen.ts in
            let evs : List Deed = event_deeds (state_at log n i) begin.event begin.reply acts in
            let mid : List Deed = flat_map (act_deeds (state_at log n i) begin.event) acts in
            in-left d (evs ++ mid) (done_deeds (state_at log n i) begin.event begin.reply) (in-right d evs mid (in-flat (act_deeds (state_at log n i) begin.event) acts (act.Drawn stamp.trans) d stands (inl refl)))

        after : IsAfterIn seen.ts stamp.trans (did (state_at log n i) begin)
        after =
            begun-in seen.ts client (principal (state_at log n i) client) stamp.trans begin.event (tried (state_at log n i) begin) (state_at log n i) law.deeds
            (fresh-at n i (let l : i < size log proper n = in-list (journal_of log n) i begin at in omega (arith, l))) deed

        go : (b : Bool) → stops begin ≡ b → IsAfterIn seen.ts stamp.trans (cond b (halted (state_at log n i) begin) (told (state_at log n i) begin)) × ((cond b (halted (state_at log n i) begin) (told (state_at log n i) begin)).pending ≡ [])
        go true e = absurd (stopped-draws acts stamp.trans (subst (λ b. Where b (IsStopped acts × TellsStop begin.event begin.reply) (Unit {0})) e law.stopped).0 stands)
        go false e = (after, refl)

  -- what is known of a transaction is known at its own server
  home-of : (n to : ℕ) (t : TransId) (seen clock : ℕ) (f : Fate) → IsAfter seen clock f → IsBacked n (Promise log proper n) (Acked log proper n to) t f → t.server ≡ n
  home-of n to t seen clock Undrawn h b = absurd h
  home-of n to t seen clock (Running c ks) h b = b
  home-of n to t seen clock (Finishing c ks vs) h b = b.0
  home-of n to t seen clock (Committed y ks ds) h b = b.0
  home-of n to t seen clock (Forgotten y ks) h b = b.0
  home-of n to t seen clock (Ended c) h b = b

  pub begins_order : GoesByBegins log
  begins_order n i client epoch number e seen stamp at came told_so new decided =
      let same : e ≡ begin n i client epoch number seen stamp e.acts = λ k. record { event = came k; reply = told_so k; acts = e.acts } in
      let at_begin : slice_get (journal_of log n) i ≡ Some (begin n i client epoch number seen stamp e.acts) = at ∙ ap (λ (x : Entry). Some x) same in
      let s : State = state_at log n (suc i) in
      let le : suc i ≤ size log proper n = in-list (journal_of log n) i e at in
      let first = begin-after n i client epoch number seen stamp e.acts at_begin new in
      let next_is = state-suc log proper.lawful proper.linked n i (begin n i client epoch number seen stamp e.acts) at_begin in
      let start : IsAfterIn seen.ts stamp.trans s = subst (IsAfterIn seen.ts stamp.trans) (sym next_is) first.0 in
      let none : s.pending ≡ [] = ap (λ (x : State). x.pending) next_is ∙ first.1 in
      let end : IsAfterIn seen.ts stamp.trans (state_at log n (size log proper n)) = after-from log proper seen.ts stamp.trans n (suc i) (size log proper n) le (all-of log proper n) none start in
      let final_after : IsAfterIn seen.ts stamp.trans (final log n) = at-end log proper n (IsAfterIn seen.ts stamp.trans) end in
      let backed = (backed-at log proper n (size log proper n) (size log proper n) (all-of log proper n) (all-of log proper n)).1 stamp.trans in
      let home : stamp.trans.server ≡ n = home-of n (size log proper n) stamp.trans seen.ts (state_at log n (size log proper n)).holder.clock ((state_at log n (size log proper n)).fates stamp.trans) end backed in
      end-above seen.ts (final log n).holder.clock ((final log n).fates stamp.trans) stamp decided.0 final_after (subst (λ m. decision_in ((final log m).fates stamp.trans) ≡ Some (stamp, decided.0)) home decided.1)
