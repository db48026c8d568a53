-- what a stopped entry names as decided is one of the decided transactions, where the restart finds its time
use Rattle.std.specs.Prelude.{Bool, true, false, cond, filter, nat_le, Option, None, Some}
use Rattle.std.specs.List.{AllByRecursion}
use Rattle.std.proofs.Common.{◌≡◌, ℕ, suc, ◌≤◌, List, [], ◌∷◌, ◌++◌, slice_get, refl, sym, ap, subst, ◌∙◌, ◌⊎◌, inl, inr, arith}
use Rattle.alp_base.specs.declared.ids.JoinNo.{JoinNo}
use Rattle.alp_base.specs.declared.ids.TransId.{TransId}
use Rattle.alp_base.specs.declared.ids.Stamp.{Stamp}
use Rattle.alp_files.specs.declared.reply.Reply.{Reply}
use Rattle.alp_journal.specs.declared.act.Act.{Act}
use Rattle.alp_journal.specs.declared.act.Act.TheVariants as act
use Rattle.alp_journal.specs.declared.event.Event.{Event}
use Rattle.alp_journal.specs.declared.event.Event.TheVariants as event
use Rattle.alp_journal.specs.declared.entry.Entry.{Entry}
use Rattle.alp_history.specs.Log.{Log, journal_of, state_at, decided, IsIn}
use Rattle.alp_history.specs.Theorems.{IsProper}
use Rattle.alp_journal.specs.Along.{Along, Where, state_after}
use Rattle.alp_journal.specs.Ids.{same_trans}
use Rattle.alp_journal.specs.Deeds.{Deed, Begins, Joins, Enters, Quits, Aborts, Grants, Performs, Releases, Readies, Applies, Registers, Finishes, Hears, Decides, Ends, Acknowledges, Forgets, Restarts}
use Rattle.alp_journal.specs.Coordinator.{Fate, Vote, decided as decided_fate, Undrawn, Running, Finishing, Committed, Forgotten, Ended, ended, fate_after, decision_in}
use Rattle.alp_journal.specs.State.{State, state_deed}
use Rattle.alp_journal.specs.Moves.{is_effective, is_stop, stops, event_deeds, act_deeds, done_deeds, tried, halted, told, next}
use Rattle.alp_history.proofs.Fates.{decision-stays, IsOver, over-stays}
use Rattle.alp_journal.specs.Laws.{MayDecide, IsStopped, TellsStop}
use Rattle.alp_journal.proofs.Origins.{IsEventFrom, event-from}
use Rattle.alp_journal.proofs.IdLemmas.{same_trans-itself}
use Rattle.alp_history.proofs.Places.{in-list, state-append}
use Rattle.alp_history.proofs.Rights.{IsRightDeed}
use Rattle.alp_history.proofs.ListedActs.{stays, deeds-of, listed-by}
use Rattle.alp_history.proofs.Logs.{lawful-at, state-suc}
use Rattle.alp_history.proofs.BegunOrder.{in-left, in-right}
use Rattle.std.proofs.lemmas.Bool.Decides.{nat_tests}

-- a fate that comes to no decision any more
abbrev pub IsDead : Fate → Type 0
IsDead f = IsOver f ⊎ ((y : Stamp × List JoinNo) × (decision_in f ≡ Some y))

-- the same fate, or a dead one
abbrev pub AreLike : Fate → Fate → Type 0
AreLike f g = (f ≡ g) ⊎ IsDead f

dead-stays : (d : Deed) (t : TransId) (f : Fate) → IsDead f → IsDead (fate_after d t f)
dead-stays d t f (inl o) = inl (over-stays d t f o)
dead-stays d t f (inr y) = inr (y.0, decision-stays y.0 d t f y.1)

ended-like : (b : Bool) (c : _) (f : Fate) → AreLike (cond b (ended c f) f) f
ended-like false c f = inl refl
ended-like true c Undrawn = inl refl
ended-like true c (Running a js) = inr (inl tt)
ended-like true c (Finishing a js vs) = inr (inl tt)
ended-like true c (Committed y js ds) = inl refl
ended-like true c (Forgotten y js) = inl refl
ended-like true c (Ended a) = inl refl

forgotten-like : (u t : TransId) (f : Fate) → AreLike (fate_after (Forgets u) t f) f
forgotten-like u t Undrawn = inl (same (same_trans u t))
  where
    same : (b : Bool) → cond b Undrawn Undrawn ≡ Undrawn
    same true = refl
    same false = refl
forgotten-like u t (Running a js) = inl (same (same_trans u t))
  where
    same : (b : Bool) → cond b (Running a js) (Running a js) ≡ Running a js
    same true = refl
    same false = refl
forgotten-like u t (Finishing a js vs) = inl (same (same_trans u t))
  where
    same : (b : Bool) → cond b (Finishing a js vs) (Finishing a js vs) ≡ Finishing a js vs
    same true = refl
    same false = refl
forgotten-like u t (Committed y js ds) = inr (inr ((y, js), decision-stays (y, js) (Forgets u) t (Committed y js ds) refl))
forgotten-like u t (Forgotten y js) = inr (inr ((y, js), decision-stays (y, js) (Forgets u) t (Forgotten y js) refl))
forgotten-like u t (Ended a) = inr (inl (over-stays (Forgets u) t (Ended a) tt))

module _ (ready : List JoinNo) (clock : ℕ) (stamps : List Stamp) where
  -- what the restart does not take as done leaves a fate as it was, or dead
  passed : (s : State) (e : Event) (d : Deed) (t : TransId) (f : Fate) → IsEventFrom s e d → is_effective ready clock stamps d ≡ false → AreLike (fate_after d t f) f
  passed s e (Begins u c w n) t f from no' = absurd from
  passed s e (Registers u j) t f from no' = absurd from
  passed s e (Restarts n m) t f from no' = absurd from
  passed s e (Decides y js) t f from no' = absurd from
  passed s e (Finishes u) t f from no' = cc
  passed s e (Hears u j n) t f from no' = cc
  passed s e (Acknowledges u j) t f from no' = cc
  passed s e (Ends u a c) t f from no' = ended-like (same_trans u t) c f
  passed s e (Forgets u) t f from no' = forgotten-like u t f
  passed s e (Joins j u c w) t f from no' = inl refl
  passed s e (Enters j u c w) t f from no' = inl refl
  passed s e (Quits j u c w) t f from no' = inl refl
  passed s e (Aborts j u c w) t f from no' = inl refl
  passed s e (Grants u c) t f from no' = inl refl
  passed s e (Performs u x) t f from no' = inl refl
  passed s e (Releases u) t f from no' = inl refl
  passed s e (Readies j u n) t f from no' = inl refl
  passed s e (Applies j x) t f from no' = inl refl

  like-over : (f g h : Fate) → AreLike f g → AreLike g h → (IsDead g → IsDead f) → AreLike f h
  like-over f g h (inr dead) k m = inr dead
  like-over f g h (inl same) (inl more) m = inl (same ∙ more)
  like-over f g h (inl same) (inr dead) m = inr (m dead)

  -- so after the event's deeds the fate is as it would be without the others, or dead
  pub like-after : (from : State) (e : Event) (t : TransId) (ds : List Deed) (s r : State) → AllByRecursion (IsEventFrom from e) ds → AreLike (s.fates t) (r.fates t)
      → AreLike ((state_after state_deed s ds).fates t) ((state_after state_deed r (filter (is_effective ready clock stamps) ds)).fates t)
  like-after from e t [] s r h like = like
  like-after from e t (d ∷ ds) s r h like = go (is_effective ready clock stamps d) refl (λ r like. like-after from e t ds (state_deed s d) r h.1 like)
    where
      Rest : List Deed
      Rest = filter (is_effective ready clock stamps) ds

      go : (b : Bool) → is_effective ready clock stamps d ≡ b
          → ((r : State) → AreLike (fate_after d t (s.fates t)) (r.fates t) → AreLike ((state_after state_deed (state_deed s d) ds).fates t) ((state_after state_deed r Rest).fates t))
          → AreLike ((state_after state_deed (state_deed s d) ds).fates t) ((state_after state_deed r (cond b (d ∷ Rest) Rest)).fates t)
      go true k next = next (state_deed r d) (elim like [ inl same ↦ inl (ap (fate_after d t) same) | inr dead ↦ inr (dead-stays d t (s.fates t) dead) ])
      go false k next = next r (elim like [
        | inl same ↦ like-over (fate_after d t (s.fates t)) (s.fates t) (r.fates t) (passed from e d t (s.fates t) h.0 k) (inl same) (dead-stays d t (s.fates t))
        | inr dead ↦ inr (dead-stays d t (s.fates t) dead)
      ])

-- ---- lists of deeds

along-left : (law : State → Deed → Type 0) (xs ys : List Deed) (s : State) → Along state_deed law s (xs ++ ys) → Along state_deed law s xs
along-left law [] ys s h = tt
along-left law (x ∷ xs) ys s h = (h.0, along-left law xs ys (state_deed s x) h.1)

pub along-mid : (law : State → Deed → Type 0) (xs : List Deed) (d : Deed) (ys : List Deed) (s : State) → Along state_deed law s (xs ++ d ∷ ys) → law (state_after state_deed s xs) d
along-mid law [] d ys s h = h.0
along-mid law (x ∷ xs) d ys s h = along-mid law xs d ys (state_deed s x) h.1

keep-append : (p : Deed → Bool) (xs ys : List Deed) → filter p (xs ++ ys) ≡ filter p xs ++ filter p ys
keep-append p [] ys = refl
keep-append p (x ∷ xs) ys = go (p x) (keep-append p xs ys)
  where
    go : (b : Bool) → filter p (xs ++ ys) ≡ filter p xs ++ filter p ys → cond b (x ∷ filter p (xs ++ ys)) (filter p (xs ++ ys)) ≡ cond b (x ∷ filter p xs) (filter p xs) ++ filter p ys
    go true h = ap (λ zs. x ∷ zs) h
    go false h = h

alive : (f : Fate) (c : ℕ) (js : List JoinNo) (vs : List Vote) → f ≡ Finishing c js vs → IsDead f → ⊥
alive f c js vs h (inl o) = subst IsOver h o
alive f c js vs h (inr y) = let wrong : None ≡ Some y.0 = sym (ap decision_in h) ∙ y.1 in cc

decide-now : (s : State) (x : Stamp) (js : List JoinNo) (c : ℕ) (ks : List JoinNo) (vs : List Vote) → s.fates x.trans ≡ Finishing c ks vs → decision_in ((state_deed s (Decides x js)).fates x.trans) ≡ Some (x, js)
decide-now s x js c ks vs h =
    ap (λ b. decision_in (cond b (decided_fate x js (s.fates x.trans)) (s.fates x.trans))) (same_trans-itself x.trans)
    ∙ ap (λ (f : Fate). decision_in (decided_fate x js f)) h

-- the deed stands behind those of the event, and the restart takes it as done
pub found-deed : (ready : List JoinNo) (clock : ℕ) (stamps : List Stamp) (from : State) (e : Event) (s r : State) (evs tail dones : List Deed) (x : Stamp) (js : List JoinNo)
    → AllByRecursion (IsEventFrom from e) evs → Along state_deed (IsRightDeed e) s ((evs ++ (Decides x js ∷ tail)) ++ dones) → nat_le x.ts clock ≡ true → s.fates x.trans ≡ r.fates x.trans
    → decision_in ((state_after state_deed r (filter (is_effective ready clock stamps) ((evs ++ (Decides x js ∷ tail)) ++ dones))).fates x.trans) ≡ Some (x, js)
found-deed ready clock stamps from e s r evs tail dones x js froms law timely same =
    ap (λ ds. decision_in ((state_after state_deed r ds).fates x.trans)) kept
    ∙ ap (λ (z : State). decision_in (z.fates x.trans)) (state-append state_deed r (A ++ (Decides x js ∷ B)) C ∙ ap (λ (z : State). state_after state_deed z C) (state-append state_deed r A (Decides x js ∷ B)))
    ∙ stays C (state_after state_deed (state_deed there (Decides x js)) B) x.trans (x, js) (stays B (state_deed there (Decides x js)) x.trans (x, js) now)
  where
    A : List Deed
    A = filter (is_effective ready clock stamps) evs

    B : List Deed
    B = filter (is_effective ready clock stamps) tail

    C : List Deed
    C = filter (is_effective ready clock stamps) dones

    there : State
    there = state_after state_deed r (filter (is_effective ready clock stamps) evs)

    may : MayDecide e (state_after state_deed s evs) x js
    may = (along-mid (IsRightDeed e) evs (Decides x js) tail s (along-left (IsRightDeed e) (evs ++ (Decides x js ∷ tail)) dones s law)).decision

    now : decision_in ((state_deed (state_after state_deed r (filter (is_effective ready clock stamps) evs)) (Decides x js)).fates x.trans) ≡ Some (x, js)
    now = elim (like-after ready clock stamps from e x.trans evs s r froms (inl same)) [
      | inl like ↦ decide-now (state_after state_deed r (filter (is_effective ready clock stamps) evs)) x js may.client js may.votes (sym like ∙ may.finishing)
      | inr dead ↦ absurd (alive ((state_after state_deed s evs).fates x.trans) may.client js may.votes may.finishing dead)
    ]

    kept : filter (is_effective ready clock stamps) ((evs ++ (Decides x js ∷ tail)) ++ dones)
        ≡ (filter (is_effective ready clock stamps) evs ++ (Decides x js ∷ filter (is_effective ready clock stamps) tail)) ++ filter (is_effective ready clock stamps) dones
    kept =
        keep-append (is_effective ready clock stamps) (evs ++ (Decides x js ∷ tail)) dones
        ∙ ap (λ zs. zs ++ filter (is_effective ready clock stamps) dones)
        (keep-append (is_effective ready clock stamps) evs (Decides x js ∷ tail)
        ∙ ap (λ b. filter (is_effective ready clock stamps) evs ++ cond b (Decides x js ∷ filter (is_effective ready clock stamps) tail) (filter (is_effective ready clock stamps) tail)) timely)

-- ---- a stopped entry and the restart behind it

-- the one write, and behind it the stop
pub stop-acts : (acts : List Act) (w : Act) → is_stop w ≡ false → IsStopped acts → IsIn w acts → (b : Act) × (acts ≡ w ∷ b ∷ [])
stop-acts [] w n h i = absurd h
stop-acts (a ∷ []) w n h i = elim i [
  | inl e ↦ (let wrong : false ≡ true = sym n ∙ ap is_stop e ∙ h in cc)
  | inr none ↦ absurd none
]
stop-acts (a ∷ b ∷ []) w n h i = elim i [
  | inl e ↦ (b, ap (λ z. z ∷ b ∷ []) (sym e))
  | inr more ↦ elim more [
    | inl e ↦ (let wrong : false ≡ true = sym n ∙ ap is_stop e ∙ h.1 in cc)
    | inr none ↦ absurd none
  ]
]
stop-acts (a ∷ b ∷ c ∷ acts) w n h i = absurd h

prefix-stays : (xs ys : List Deed) (s : State) (t : TransId) (y : Stamp × List JoinNo) → decision_in ((state_after state_deed s xs).fates t) ≡ Some y → decision_in ((state_after state_deed s (xs ++ ys)).fates t) ≡ Some y
prefix-stays xs ys s t y h = ap (λ (z : State). decision_in (z.fates t)) (state-append state_deed s xs ys) ∙ stays ys (state_after state_deed s xs) t y h

timely : (a b : ℕ) → a ≤ b → nat_le a b ≡ true
timely a b h = grind (arith, nat_tests, h)

module _ (log : Log) (proper : IsProper log) where
  found-at : (n i epoch clock : ℕ) (ready : List JoinNo) (stamps : List Stamp) (x : Stamp) (js : List JoinNo) (ev : Event) (r q : Option Reply) (b : Act)
      → slice_get (journal_of log n) i ≡ Some (record { event = ev; reply = r; acts = act.Decided x js ∷ b ∷ [] })
      → slice_get (journal_of log n) (suc i) ≡ Some (record { event = event.Restart; reply = q; acts = act.Regained epoch clock ready stamps ∷ [] })
      → stops (record { event = ev; reply = r; acts = act.Decided x js ∷ b ∷ [] }) ≡ true → x.ts ≤ clock → IsIn (x, js) (decided log)
  found-at n i epoch clock ready stamps x js ev r q b at behind stopped late =
      listed-by log proper n i (suc (suc i)) ev (tried s e) x js law deed (in-list (journal_of log n) i e at) (in-list (journal_of log n) (suc i) f behind)
      (subst (λ (z : State). decision_in (z.fates x.trans) ≡ Some (x, js)) (sym second) after)
    where
      e : Entry
      e = record { event = ev; reply = r; acts = act.Decided x js ∷ b ∷ [] }

      f : Entry
      f = record { event = event.Restart; reply = q; acts = act.Regained epoch clock ready stamps ∷ [] }

      s : State
      s = state_at log n i

      law : Along state_deed (IsRightDeed ev) (state_at log n i) (tried (state_at log n i) (record { event = ev; reply = r; acts = act.Decided x js ∷ b ∷ [] }))
      law = deeds-of log proper n i x js ev r (act.Decided x js ∷ b ∷ []) (lawful-at log proper.lawful proper.linked n i (record { event = ev; reply = r; acts = act.Decided x js ∷ b ∷ [] }) at) (inl refl)

      deed : IsIn (Decides x js) (tried (state_at log n i) (record { event = ev; reply = r; acts = act.Decided x js ∷ b ∷ [] }))
      deed =
          let evs : List Deed = event_deeds (state_at log n i) ev r (act.Decided x js ∷ b ∷ []) in
          let rest : List Deed = act_deeds (state_at log n i) ev b ++ [] in
          in-left (Decides x js) (evs ++ (Decides x js ∷ rest)) (done_deeds (state_at log n i) ev r) (in-right (Decides x js) evs (Decides x js ∷ rest) (inl refl))

      down : State
      down = halted (state_at log n i) (record { event = ev; reply = r; acts = act.Decided x js ∷ b ∷ [] })

      first : state_at log n (suc i) ≡ halted (state_at log n i) (record { event = ev; reply = r; acts = act.Decided x js ∷ b ∷ [] })
      first =
          state-suc log proper.lawful proper.linked n i (record { event = ev; reply = r; acts = act.Decided x js ∷ b ∷ [] }) at
          ∙ ap (λ c. cond c (halted (state_at log n i) (record { event = ev; reply = r; acts = act.Decided x js ∷ b ∷ [] })) (told (state_at log n i) (record { event = ev; reply = r; acts = act.Decided x js ∷ b ∷ [] }))) stopped

      second : state_at log n (suc (suc i)) ≡ next (halted (state_at log n i) (record { event = ev; reply = r; acts = act.Decided x js ∷ b ∷ [] })) (record { event = event.Restart; reply = q; acts = act.Regained epoch clock ready stamps ∷ [] })
      second = state-suc log proper.lawful proper.linked n (suc i) (record { event = event.Restart; reply = q; acts = act.Regained epoch clock ready stamps ∷ [] }) behind
          ∙ ap (λ (z : State). next z (record { event = event.Restart; reply = q; acts = act.Regained epoch clock ready stamps ∷ [] })) first

      kept : List Deed
      kept = filter (is_effective ready clock stamps) (tried (state_at log n i) (record { event = ev; reply = r; acts = act.Decided x js ∷ b ∷ [] }))

      found : decision_in ((state_after state_deed (halted (state_at log n i) (record { event = ev; reply = r; acts = act.Decided x js ∷ b ∷ [] }))
          (filter (is_effective ready clock stamps) (tried (state_at log n i) (record { event = ev; reply = r; acts = act.Decided x js ∷ b ∷ [] })))).fates x.trans) ≡ Some (x, js)
      found = found-deed ready clock stamps (state_at log n i) ev (state_at log n i) (halted (state_at log n i) (record { event = ev; reply = r; acts = act.Decided x js ∷ b ∷ [] }))
          (event_deeds (state_at log n i) ev r (act.Decided x js ∷ b ∷ [])) (act_deeds (state_at log n i) ev b ++ []) (done_deeds (state_at log n i) ev r) x js
          (event-from (state_at log n i) ev r (act.Decided x js ∷ b ∷ [])) law (timely x.ts clock late) refl

      after : decision_in ((next (halted (state_at log n i) (record { event = ev; reply = r; acts = act.Decided x js ∷ b ∷ [] })) (record { event = event.Restart; reply = q; acts = act.Regained epoch clock ready stamps ∷ [] })).fates x.trans) ≡ Some (x, js)
      after = prefix-stays ((kept ++ Restarts epoch clock ∷ []) ++ []) [] down x.trans (x, js) (prefix-stays (kept ++ Restarts epoch clock ∷ []) [] down x.trans (x, js) (prefix-stays kept (Restarts epoch clock ∷ []) down x.trans (x, js) found))

  pub finds : (n i epoch clock : ℕ) (e f : Entry) (ready : List JoinNo) (stamps : List Stamp) (x : Stamp) (js : List JoinNo)
      → slice_get (journal_of log n) i ≡ Some e → slice_get (journal_of log n) (suc i) ≡ Some f → stops e ≡ true → IsIn (act.Decided x js) e.acts
      → f.event ≡ event.Restart → f.acts ≡ act.Regained epoch clock ready stamps ∷ [] → x.ts ≤ clock → IsIn (x, js) (decided log)
  finds n i epoch clock e f ready stamps x js at behind stopped stands restarts regained late =
      let law = lawful-at log proper.lawful proper.linked n i e at in
      let shape = stop-acts e.acts (act.Decided x js) refl (subst (λ b. Where b (IsStopped e.acts × TellsStop e.event e.reply) (Unit {0})) stopped law.stopped).0 stands in
      let same : e ≡ record { event = e.event; reply = e.reply; acts = act.Decided x js ∷ shape.0 ∷ [] } = λ k. record { event = e.event; reply = e.reply; acts = shape.1 k } in
      let again : f ≡ record { event = event.Restart; reply = f.reply; acts = act.Regained epoch clock ready stamps ∷ [] } = λ k. record { event = restarts k; reply = f.reply; acts = regained k } in
      found-at n i epoch clock ready stamps x js e.event e.reply f.reply shape.0 (at ∙ ap (λ (z : Entry). Some z) same) (behind ∙ ap (λ (z : Entry). Some z) again)
      (sym (ap (λ (z : Entry). stops z) same) ∙ stopped) late
