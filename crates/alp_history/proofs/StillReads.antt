-- while a part may read a place, no change of another part that takes effect touches the cell there
use Rattle.std.specs.Prelude.{Bool, true, false, cond, Option, None, Some, is_some}
use Rattle.std.specs.List.{list_any, AllByRecursion}
use Rattle.std.specs.FinMap as map
use Rattle.std.proofs.Common.{◌≡◌, ℕ, suc, ◌≤◌, List, [], ◌∷◌, ◌++◌, flat_map, slice_get, length, refl, sym, ap, subst, ◌∙◌, ◌⊎◌, inl, inr, arith}
use Rattle.alp_base.specs.declared.ids.TransId.{TransId}
use Rattle.alp_base.specs.declared.ids.Stamp.{Stamp}
use Rattle.alp_base.specs.declared.key.Key.{Key}
use Rattle.alp_files.specs.Cells.{Cells, View}
use Rattle.alp_files.specs.Edits.{Edit, edits_map}
use Rattle.alp_files.specs.declared.call.Call.{Call}
use Rattle.alp_files.specs.History.{PerformedCall}
use Rattle.alp_files.specs.Locks.{Reads}
use Rattle.alp_files.proofs.HistoryLemmas.{get-edits_map}
use Rattle.alp_journal.specs.declared.act.Act.{Act}
use Rattle.alp_journal.specs.declared.act.Act.TheVariants as act
use Rattle.alp_journal.specs.declared.event.Event.{Event}
use Rattle.alp_journal.specs.declared.event.Event.TheVariants as event
use Rattle.alp_journal.specs.declared.entry.Entry.{Entry}
use Rattle.alp_journal.specs.Along.{state_after}
use Rattle.alp_journal.specs.Ids.{same_trans}
use Rattle.alp_journal.specs.Deeds.{Deed, Begins, Joins, Enters, Quits, Aborts, Grants, Performs, Releases, Readies, Applies, Registers, Finishes, Hears, Decides, Ends, Acknowledges, Forgets, Restarts}
use Rattle.alp_journal.specs.Holder.{Holder, Life, new_life, grants, performs, readies, commits, if_ready, holder_after}
use Rattle.alp_journal.specs.State.{State, state_deed}
use Rattle.alp_journal.specs.Moves.{is_effective, resolved, act_deeds, done_deeds, event_deeds, is_stop, stops, tried, told, halted}
use Rattle.alp_journal.specs.Laws.{StartsRight, released_by, ended_by, regained_by}
use Rattle.alp_history.specs.Log.{Log, journal_of, state_at, IsIn, left_at}
use Rattle.alp_history.specs.Theorems.{IsProper, StandsStill}
use Rattle.alp_journal.proofs.IdLemmas.{same_trans-true, same_trans-itself}
use Rattle.alp_history.proofs.Places.{past-end, some-same, state-append, all-in}
use Rattle.alp_history.proofs.BegunOrder.{in-left}
use Rattle.alp_history.proofs.Turned.{in-flat, flat-in}
use Rattle.alp_history.proofs.Logs.{lawful-at, state-suc}
use Rattle.alp_history.proofs.Rights.{IsRightDeed, IsRightEntry}
use Rattle.alp_journal.proofs.Origins.{IsEventFrom, event-from}
use Rattle.alp_history.proofs.Entries.{effective-open}
use Rattle.alp_history.proofs.Latest.{left-edits}
use Rattle.alp_history.proofs.LifeMoves.{IsCommit, left_of, life-cases, ready-was}
use Rattle.alp_history.proofs.EachServer.{reads-stay}
use Rattle.alp_history.proofs.Agreed.{size}
use Rattle.alp_history.proofs.CommitEntries.{all-from, along-in, filter-in, append-in, IsPerforming, NotPerforming, NotReviving, NotVoting, event-performs-not, open-performs-not, done-performs, acts-perform-not, BeginsNone, IsOfAct, of-acts, act-revives-not, performs-revives-not, commit-begins-none, commit-votes-not, IsRegained, regained, plain-deeds, plain-calm, plain-released, restart-or, pending-of}

-- ---- what a deed makes of the cells

-- they change by a commit of a part that lives
pub cells-cases : (P : Cells → Type 0) (h : Holder) (d : Deed) → P h.cells → ((x : Stamp) (l : Life) → IsCommit x d → h.lives x.trans ≡ Some l → P (edits_map l.edits h.cells)) → P (holder_after h d).cells
cells-cases P h d same commit = go d refl
  where
    grant : (t : TransId) (c : Call) (o : Option Life) → P (grants h t c o).cells
    grant t c None = same
    grant t c (Some l) = same

    perform : (t : TransId) (c : PerformedCall) (o : Option Life) → P (performs h t c o).cells
    perform t c None = same
    perform t c (Some l) = same

    ready : (t : TransId) (ts : ℕ) (o : Option Life) → P (readies h t ts o).cells
    ready t ts None = same
    ready t ts (Some l) = same

    applied : (x : Stamp) → IsCommit x d → (o : Option Life) → h.lives x.trans ≡ o → P (commits h x o).cells
    applied x c None e = same
    applied x c (Some l) e = commit x l c e

    go : (c : Deed) → d ≡ c → P (holder_after h c).cells
    go (Decides x js) e = applied x (inl (js, e)) (h.lives x.trans) refl
    go (Applies j x) e = applied x (inr (j, e)) (h.lives x.trans) refl
    go (Grants t c) e = grant t c (h.lives t)
    go (Performs t c) e = perform t c (h.lives t)
    go (Readies j t ts) e = ready t ts (h.lives t)
    go (Begins t c w k) e = same
    go (Joins j t c w) e = same
    go (Enters j t c w) e = same
    go (Quits j t c w) e = same
    go (Aborts j t c w) e = same
    go (Releases t) e = same
    go (Registers t j) e = same
    go (Finishes t) e = same
    go (Hears t j ts) e = same
    go (Ends t c w) e = same
    go (Acknowledges t j) e = same
    go (Forgets t) e = same
    go (Restarts a b) e = same

-- the cell at a place after changes goes by the cell that was there
pub cell-after : (k : Key) (es : List Edit) (m : Cells) → map.get (edits_map es m) k ≡ left_at k (map.get m k) es
cell-after k es m = ap (λ (w : View). w k) (get-edits_map es m) ∙ sym (left-edits k es (map.get m k))

-- ---- deeds that leave a cell

module _ (k : Key) (h : Holder) (t : TransId) (spares : (x : Stamp) (v : Life) → h.lives x.trans ≡ Some v → same_trans t x.trans ≡ false → map.get h.cells k ≡ map.get (edits_map v.edits h.cells) k) where
  -- what a part changed since stood in its life before
  abbrev WasOf : TransId → Option Life → Type 0
  WasOf u o = (w : Life) → o ≡ Some w → (w.edits ≡ []) ⊎ ((v : Life) × (h.lives u ≡ Some v) × (w.edits ≡ v.edits))

  abbrev Same : Holder → Type 0
  Same m = (map.get m.cells k ≡ map.get h.cells k) × ((u : TransId) → WasOf u (m.lives u))

  -- it performs no call, and commits no part of this transaction
  abbrev IsAside : Deed → Type 0
  IsAside d = NotPerforming d × ((x : Stamp) → IsCommit x d → same_trans t x.trans ≡ false)

  empty : (u : TransId) (l : Life) → l.edits ≡ [] → WasOf u (Some l)
  empty u l e w is = inl (ap (λ (z : Life). z.edits) (sym (some-same l w is)) ∙ e)

  alike : (u : TransId) (m : Holder) (l q : Life) → q.edits ≡ l.edits → m.lives u ≡ Some l → WasOf u (m.lives u) → WasOf u (Some q)
  alike u m l q e is old w there =
      let mine : w.edits ≡ l.edits = ap (λ (z : Life). z.edits) (sym (some-same q w there)) ∙ e in
      elim (old l is) [ inl none ↦ inl (mine ∙ none) | inr x ↦ inr (x.0, x.1, mine ∙ x.2) ]

  lives-next : (m : Holder) (d : Deed) → NotPerforming d → ((u : TransId) → WasOf u (m.lives u)) → (u : TransId) → WasOf u ((holder_after m d).lives u)
  lives-next m d aside old u =
      life-cases (WasOf u) m d u
      (λ q. old u)
      (λ c s w e. empty u (new_life None c w) refl)
      (λ j c w e. empty u (new_life (Some j) c w) refl)
      (λ c l e is. alike u m l _ refl is (old u))
      (λ x l e is. absurd (subst NotPerforming e aside))
      (λ e w is. (let wrong : None ≡ Some w = is in cc))
      (λ j ts l e is. alike u m l _ refl is (old u))
      (λ x l e c is. empty u (left_of l) refl)
      (λ a b e w is. old u w (ready-was (m.lives u) w is).0)
      (λ j c a l e is p. empty u (left_of l) refl)

  cell-next : (m : Holder) (d : Deed) → IsAside d → Same m → map.get (holder_after m d).cells k ≡ map.get h.cells k
  cell-next m d aside old = cells-cases (λ (c : Cells). map.get c k ≡ map.get h.cells k) m d old.0 (λ x l c is. elim (old.1 x.trans l is) [
    | inl none ↦ ap (λ es. map.get (edits_map es m.cells) k) none ∙ old.0
    | inr v ↦
        cell-after k l.edits m.cells
        ∙ (λ i. left_at k (old.0 i) (v.2 i))
        ∙ sym (cell-after k (v.0).edits h.cells)
        ∙ sym (spares x v.0 v.1 (aside.1 x c))
  ])

  same-fold : (ds : List Deed) (s : State) → AllByRecursion IsAside ds → Same s.holder → Same (state_after state_deed s ds).holder
  same-fold [] s asides q = q
  same-fold (d ∷ ds) s asides q = same-fold ds (state_deed s d) asides.1 (one q)
    where
      one : Same s.holder → Same (holder_after s.holder d)
      one q = (cell-next s.holder d asides.0 q, lives-next s.holder d (asides.0).0 q.1)

  begins-same : Same h
  begins-same = (refl, λ u w is. inr (w, is, refl))

  -- a call that is performed changes no cell
  cells-performed : (ds : List Deed) (s : State) → AllByRecursion IsPerforming ds → (state_after state_deed s ds).holder.cells ≡ s.holder.cells
  cells-performed [] s h = refl
  cells-performed (d ∷ ds) s h = cells-performed ds (state_deed s d) h.1 ∙ cells-cases (λ c. c ≡ s.holder.cells) s.holder d refl (λ x l c is. absurd (no d h.0 c))
    where
      no : (d : Deed) {x : Stamp} → IsPerforming d → IsCommit x d → ⊥
      no (Performs u c) p e = elim e [ inl a ↦ (let wrong : Performs u c ≡ Decides _ a.0 = a.1 in cc) | inr a ↦ (let wrong : Performs u c ≡ Applies a.0 _ = a.1 in cc) ]
      no d p e = absurd p

  pub cell-fold : (ds dones : List Deed) (s : State) → s.holder ≡ h → AllByRecursion IsAside ds → AllByRecursion IsPerforming dones → map.get (state_after state_deed s (ds ++ dones)).holder.cells k ≡ map.get h.cells k
  cell-fold ds dones s is asides performs =
      ap (λ (z : State). map.get z.holder.cells k) (state-append state_deed s ds dones)
      ∙ ap (λ (c : Cells). map.get c k) (cells-performed dones (state_after state_deed s ds) performs)
      ∙ (same-fold ds s asides (subst Same (sym is) begins-same)).0

-- ---- a part that is released lives no more

none-next : (t : TransId) (m : Holder) (d : Deed) → NotReviving d → m.lives t ≡ None → (holder_after m d).lives t ≡ None
none-next t m d calm none =
    life-cases (λ o. o ≡ None) m d t
    (λ q. none)
    (λ c s w e. absurd (subst NotReviving e calm))
    (λ j c w e. absurd (subst NotReviving e calm))
    (λ c l e is. (let wrong : None ≡ Some l = sym none ∙ is in cc))
    (λ x l e is. (let wrong : None ≡ Some l = sym none ∙ is in cc))
    (λ e. refl)
    (λ j ts l e is. (let wrong : None ≡ Some l = sym none ∙ is in cc))
    (λ x l e c is. (let wrong : None ≡ Some l = sym none ∙ is in cc))
    (λ a b e. ap if_ready none)
    (λ j c a l e is p. (let wrong : None ≡ Some l = sym none ∙ is in cc))

pub none-fold : (t : TransId) (ds : List Deed) (s : State) → AllByRecursion NotReviving ds → s.holder.lives t ≡ None → (state_after state_deed s ds).holder.lives t ≡ None
none-fold t [] s calm none = none
none-fold t (d ∷ ds) s calm none = none-fold t ds (state_deed s d) calm.1 (none-next t s.holder d calm.0 none)

pub released-fold : (t : TransId) (ds : List Deed) (s : State) → AllByRecursion NotReviving ds → IsIn (Releases t) ds → (state_after state_deed s ds).holder.lives t ≡ None
released-fold t [] s calm i = absurd i
released-fold t (d ∷ ds) s calm (inl same) =
    none-fold t ds (state_deed s d) calm.1 (subst (λ (x : Deed). (holder_after s.holder x).lives t ≡ None) same (ap (λ (b : Bool). cond {A = Option Life} b None (s.holder.lives t)) (same_trans-itself t)))
released-fold t (d ∷ ds) s calm (inr more) = released-fold t ds (state_deed s d) calm.1 more

-- ---- a part that a restart finds committed is not ready

abbrev HasNoVote : Option Life → Type 0
HasNoVote o = (w : Life) → o ≡ Some w → w.vote ≡ None

no-vote-of : (l : Life) → l.vote ≡ None → HasNoVote (Some l)
no-vote-of l e w is = ap (λ (z : Life). z.vote) (sym (some-same l w is)) ∙ e

no-vote-next : (t : TransId) (m : Holder) (d : Deed) → NotVoting d → HasNoVote (m.lives t) → HasNoVote ((holder_after m d).lives t)
no-vote-next t m d calm old =
    life-cases HasNoVote m d t
    (λ q. old)
    (λ c s w e. no-vote-of (new_life None c w) refl)
    (λ j c w e. no-vote-of (new_life (Some j) c w) refl)
    (λ c l e is. no-vote-of _ (old l is))
    (λ x l e is. no-vote-of _ (old l is))
    (λ e w is. (let wrong : None ≡ Some w = is in cc))
    (λ j ts l e is. absurd (subst NotVoting e calm))
    (λ x l e c is. no-vote-of (left_of l) refl)
    (λ a b e w is. old w (ready-was (m.lives t) w is).0)
    (λ j c a l e is p. no-vote-of (left_of l) refl)

no-vote-fold : (t : TransId) (ds : List Deed) (s : State) → AllByRecursion NotVoting ds → HasNoVote (s.holder.lives t) → HasNoVote ((state_after state_deed s ds).holder.lives t)
no-vote-fold t [] s calm h = h
no-vote-fold t (d ∷ ds) s calm h = no-vote-fold t ds (state_deed s d) calm.1 (no-vote-next t s.holder d calm.0 h)

commit-leaves : (m : Holder) (x : Stamp) (d : Deed) → IsCommit x d → HasNoVote ((holder_after m d).lives x.trans)
commit-leaves m x d c = elim c [ inl k ↦ subst (λ (y : Deed). HasNoVote ((holder_after m y).lives x.trans)) (sym k.1) (left (m.lives x.trans) refl) | inr k ↦ subst (λ (y : Deed). HasNoVote ((holder_after m y).lives x.trans)) (sym k.1) (left (m.lives x.trans) refl) ]
  where
    left : (o : Option Life) → m.lives x.trans ≡ o → HasNoVote ((commits m x o).lives x.trans)
    left None e = λ w is. (let wrong : None ≡ Some w = sym e ∙ is in cc)
    left (Some l) e = subst (λ (b : Bool). HasNoVote (cond b (Some (left_of l)) (m.lives x.trans))) (sym (same_trans-itself x.trans)) (no-vote-of (left_of l) refl)

committed-fold : (x : Stamp) (ds : List Deed) (s : State) (d : Deed) → IsCommit x d → AllByRecursion NotVoting ds → IsIn d ds → HasNoVote ((state_after state_deed s ds).holder.lives x.trans)
committed-fold x [] s d c calm i = absurd i
committed-fold x (f ∷ ds) s d c calm (inl same) = no-vote-fold x.trans ds (state_deed s f) calm.1 (commit-leaves s.holder x f (subst (IsCommit x) same c))
committed-fold x (f ∷ ds) s d c calm (inr more) = committed-fold x ds (state_deed s f) d c calm.1 more

-- ---- at one entry

released-act : (s : State) (e : Event) (a : Act) (t : TransId) → IsIn t (released_by a) → IsIn (Releases t) (act_deeds s e a)
released-act s e (act.Released u) t i = elim i [ inl same ↦ inl (ap Releases same) | inr more ↦ absurd more ]
released-act s e a t i = absurd i

commit-ends : (s : State) (x : Stamp) (d : Deed) → IsCommit x d → IsIn x.trans (ended_by s d)
commit-ends s x d (inl k) = subst (λ y. IsIn x.trans (ended_by s y)) (sym k.1) (inl refl)
commit-ends s x d (inr k) = subst (λ y. IsIn x.trans (ended_by s y)) (sym k.1) (inl refl)

module _ (log : Log) (proper : IsProper log) (n i : ℕ) (inside : suc i ≤ size log proper n) (t : TransId) (l m : Life) (k : Key)
    (lives : (state_at log n i).holder.lives t ≡ Some l) (stays : (state_at log n (suc i)).holder.lives t ≡ Some m) (reads : Reads l.held k) where
  abbrev s : State
  s = state_at log n i

  spares : (x : Stamp) (v : Life) → s.holder.lives x.trans ≡ Some v → same_trans t x.trans ≡ false → map.get s.holder.cells k ≡ map.get (edits_map v.edits s.holder.cells) k
  spares x v is away = reads-stay log proper n i (omega (arith, inside)) x v l t is lives away k reads

  -- no deed is a commit of the part itself, where that leads to its end
  others : (d : Deed) → ((x : Stamp) → IsCommit x d → t ≡ x.trans → ⊥) → (x : Stamp) → IsCommit x d → same_trans t x.trans ≡ false
  others d never x c = go (same_trans t x.trans) refl
    where
      go : (b : Bool) → same_trans t x.trans ≡ b → b ≡ false
      go true e = absurd (never x c (same_trans-true t x.trans e))
      go false e = refl

  module _ (e : Entry) (at : slice_get (journal_of log n) i ≡ Some e) where
    abbrev evs : List Deed
    evs = event_deeds s e.event e.reply e.acts

    abbrev mids : List Deed
    mids = flat_map (act_deeds s e.event) e.acts

    abbrev dones : List Deed
    dones = done_deeds s e.event e.reply

    law : IsRightEntry s e
    law = lawful-at log proper.lawful proper.linked n i e at

    goes-on : stops e ≡ false → state_at log n (suc i) ≡ told s e
    goes-on goes = state-suc log proper.lawful proper.linked n i e at ∙ ap (λ b. cond b (halted s e) (told s e)) goes

    -- ---- an entry that is no restart

    module _ (plain : e.event ≡ event.Restart → ⊥) (goes : stops e ≡ false) where
      calm : list_any regained_by e.acts ≡ false
      calm = plain-calm s e law plain

      ended : (x : Stamp) (d : Deed) → IsCommit x d → IsIn d (evs ++ mids) → t ≡ x.trans → ⊥
      ended x d c among is =
          let deed : IsIn d (tried s e) = in-left d (evs ++ mids) dones among in
          let right = along-in (IsRightDeed e.event) (tried s e) s d (plain-deeds s e law plain) deed in
          let none : BeginsNone e.event = commit-begins-none e.event right.0 x d c right.1 in
          let ends : IsIn t (flat_map (ended_by s) (tried s e)) = in-flat (ended_by s) d t (tried s e) deed (subst (λ u. IsIn u (ended_by s d)) (sym is) (commit-ends s x d c)) in
          let told_so = flat-in released_by t e.acts (subst (IsIn t) (sym (plain-released s e law plain goes).0) ends) in
          let lets_go : IsIn (Releases t) mids = in-flat (act_deeds s e.event) told_so.0 (Releases t) e.acts told_so.1 (released-act s e.event told_so.0 t told_so.2) in
          let s1 : State = state_after state_deed s evs in
          let gone : (state_after state_deed s1 mids).holder.lives t ≡ None = released-fold t mids s1 (all-from NotReviving mids (λ f a. act-revives-not f (all-in IsOfAct mids f (of-acts s e.event none e.acts calm) a))) lets_go in
          let still : (state_after state_deed (state_after state_deed s1 mids) dones).holder.lives t ≡ None =
          none-fold t dones (state_after state_deed s1 mids) (all-from NotReviving dones (λ f among. performs-revives-not f (all-in IsPerforming dones f (done-performs s e.event e.reply) among))) gone in
          let whole : (state_after state_deed s (tried s e)).holder.lives t ≡ None =
          ap (λ (z : State). z.holder.lives t) (state-append state_deed s (evs ++ mids) dones ∙ ap (λ (z : State). state_after state_deed z dones) (state-append state_deed s evs mids)) ∙ still in
          let wrong : None ≡ Some m = sym whole ∙ ap (λ (z : State). z.holder.lives t) (sym (goes-on goes)) ∙ stays in
          cc

      plain-still : map.get (state_at log n (suc i)).holder.cells k ≡ map.get s.holder.cells k
      plain-still =
          ap (λ (z : State). map.get z.holder.cells k) (goes-on goes)
          ∙ cell-fold k s.holder t spares (evs ++ mids) dones s refl
          (all-from (IsAside k s.holder t spares) (evs ++ mids) (λ d among. (
            elim (append-in evs mids d among) [
              | inl a ↦ event-performs-not s e.event d (all-in (IsEventFrom s e.event) evs d (event-from s e.event e.reply e.acts) a)
              | inr a ↦ all-in NotPerforming mids d (acts-perform-not s e.event e.acts) a
            ],
            others d (λ x c is. ended x d c among is),
          )))
          (done-performs s e.event e.reply)

    -- ---- a restart

    module _ (is : e.event ≡ event.Restart) where
      found : IsRegained e.acts
      found = regained s e.acts (subst (StartsRight s e) is law.restart).0

      abbrev made : List Deed
      made = resolved s found.ready found.clock found.stamps

      after : state_at log n (suc i) ≡ told s (record { event = event.Restart; reply = e.reply; acts = act.Regained found.epoch found.clock found.ready found.stamps ∷ [] })
      after =
          goes-on (ap (list_any is_stop) found.is)
          ∙ (λ j. told s (record { event = is j; reply = e.reply; acts = found.is j }))

      holder-after : (state_at log n (suc i)).holder ≡ holder_after (state_after state_deed s made).holder (Restarts found.epoch found.clock)
      holder-after =
          ap (λ (z : State). z.holder) after
          ∙ ap (λ (z : State). z.holder) (state-append state_deed s ((made ++ Restarts found.epoch found.clock ∷ []) ++ []) [] ∙ state-append state_deed s (made ++ Restarts found.epoch found.clock ∷ []) [] ∙ state-append state_deed s made (Restarts found.epoch found.clock ∷ []))

      pended : (d : Deed) → IsIn d made → IsIn d s.pending × (is_effective found.ready found.clock found.stamps d ≡ true)
      pended d among = filter-in (is_effective found.ready found.clock found.stamps) s.pending d among

      -- with a commit nothing votes
      votes-not : (x : Stamp) (d : Deed) → IsCommit x d → IsIn d s.pending → (f : Deed) → IsIn f s.pending → NotVoting f
      votes-not x d c a f b = elim (pending-of log proper n i (omega (arith, inside))) [
        | inl none ↦ absurd (subst (IsIn d) none a)
        | inr p ↦
            let same : s.pending ≡ tried (state_at log n p.place) p.entry = ap (λ (z : State). z.pending) p.leaves in
            let one = along-in (IsRightDeed (p.entry).event) (tried (state_at log n p.place) p.entry) (state_at log n p.place) d p.law (subst (IsIn d) same a) in
            let other = along-in (IsRightDeed (p.entry).event) (tried (state_at log n p.place) p.entry) (state_at log n p.place) f p.law (subst (IsIn f) same b) in
            commit-votes-not (p.entry).event one.0 other.0 x d f c one.1 other.1
      ]

      lost : (x : Stamp) (d : Deed) → IsCommit x d → IsIn d made → t ≡ x.trans → ⊥
      lost x d c among same =
          let none = committed-fold x made s d c (all-from NotVoting made (λ f b. votes-not x d c (pended d among).0 f (pended f b).0)) among in
          let w = ready-was ((state_after state_deed s made).holder.lives t) m (ap (λ (h : Holder). h.lives t) (sym holder-after) ∙ stays) in
          let no : m.vote ≡ None = no-vote-here x made none same w.0 in
          let wrong : false ≡ true = sym (ap is_some no) ∙ w.1 in
          cc
        where
          no-vote-here : (x : Stamp) (ds : List Deed) → HasNoVote ((state_after state_deed s ds).holder.lives x.trans) → t ≡ x.trans → (state_after state_deed s ds).holder.lives t ≡ Some m → m.vote ≡ None
          no-vote-here x ds h same is = h m (ap (state_after state_deed s ds).holder.lives (sym same) ∙ is)

      restart-still : map.get (state_at log n (suc i)).holder.cells k ≡ map.get s.holder.cells k
      restart-still =
          ap (λ (h : Holder). map.get h.cells k) holder-after
          ∙ ap (λ (z : State). map.get z.holder.cells k) (sym (state-append state_deed s made []))
          ∙ cell-fold k s.holder t spares made [] s refl
          (all-from (IsAside k s.holder t spares) made (λ d among. (open-performs-not d (effective-open found.ready found.clock found.stamps d (pended d among).1), others d (λ x c same. lost x d c among same)))) tt

    still-at : map.get (state_at log n (suc i)).holder.cells k ≡ map.get s.holder.cells k
    still-at = elim (restart-or e.event) [
      | inl is ↦ restart-still is
      | inr plain ↦ go (stops e) refl plain
    ]
      where
        go : (b : Bool) → stops e ≡ b → (e.event ≡ event.Restart → ⊥) → map.get (state_at log n (suc i)).holder.cells k ≡ map.get s.holder.cells k
        go true stopped plain = ap (λ (z : State). map.get z.holder.cells k) (state-suc log proper.lawful proper.linked n i e at ∙ ap (λ b. cond b (halted s e) (told s e)) stopped)
        go false goes plain = plain-still plain goes

pub still-reads : (log : Log) → IsProper log → StandsStill log
still-reads log proper n i t l m k inside lives stays reads = found (slice_get (journal_of log n) i) refl
  where
    found : (o : Option Entry) → slice_get (journal_of log n) i ≡ o → map.get (state_at log n (suc i)).holder.cells k ≡ map.get (state_at log n i).holder.cells k
    found None at = absurd (let le : length (journal_of log n) ≤ i = past-end (journal_of log n) i at in omega (arith, le, inside))
    found (Some e) at = still-at log proper n i inside t l m k lives stays reads e at
