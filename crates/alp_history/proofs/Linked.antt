-- what a server's fates, phases, lives and applied transactions say of each other, at each place
use Rattle.std.specs.Prelude.{Bool, true, false, cond, ◌&&◌, ◌||◌, ◌==◌, Option, None, Some, is_some, T, map as list_map}
use Rattle.std.specs.List.{AllByRecursion}
use Rattle.std.specs.FinMap.Entries.{put, find-put, is_sorted, is_sorted-put}
use Rattle.std.specs.FinMap.Entries as entries
use Rattle.std.specs.Ordering.{eq_by_cmp, is_eq}
use Rattle.std.specs.declared.cmp.Ordering.{Ordering}
use Rattle.std.specs.declared.cmp.Ordering.TheVariants.{Less, Equal, Greater}
use Rattle.std.proofs.Common.{◌≡◌, ℕ, ◌+◌, ◌<◌, ◌≤◌, List, [], ◌∷◌, ◌++◌, refl, sym, ap, subst, ◌∙◌, arith, inl, inr, ◌⊎◌, eq-eqb}
use Rattle.std.proofs.lemmas.List.Folds.{list_any-append}
use Rattle.alp_base.specs.declared.ids.JoinNo.{JoinNo}
use Rattle.alp_base.specs.declared.ids.TransId.{TransId}
use Rattle.alp_base.specs.declared.ids.Stamp.{Stamp}
use Rattle.alp_files.specs.Act.{no_opens}
use Rattle.alp_files.specs.History.{Decided}
use Rattle.alp_journal.specs.Ids.{same_trans, same_join, has_join, has_server, stamp_cmp}
use Rattle.alp_journal.proofs.StampLemmas.{stamps_total, itself}
use Rattle.alp_journal.specs.Opening.{Start, ReadyNote, DecisionNote}
use Rattle.alp_journal.specs.Deeds.{Deed, Begins, Joins, Enters, Quits, Aborts, Grants, Performs, Releases, Readies, Applies, Registers, Finishes, Hears, Decides, Ends, Acknowledges, Forgets, Restarts}
use Rattle.alp_journal.specs.Coordinator.{Fate, Vote, Undrawn, Running, Finishing, Committed, Forgotten, Ended, begun, registered, finishing, heard, decided, ended, acknowledged, has_all, forgotten, restarted, fate_after, fate_noted, decision_in}
use Rattle.alp_journal.specs.Participant.{Phase, Unseen, Joining, Active, Ready, Applied, Over, phase_after, phase_noted}
use Rattle.alp_journal.specs.Participant as part
use Rattle.alp_journal.specs.Holder.{Life, emptied, is_part, lapsed, new_life, held_for, answer_in, after_done, with_life, grants, performs, readies, commits, if_ready, holder_after, early_life, lives_noted}
use Rattle.alp_journal.specs.State.{State, ids_after, state_deed, opened, joined_by}
use Rattle.alp_journal.specs.Moves.{next_join}
use Rattle.alp_journal.specs.Laws.{IsHolding}
use Rattle.alp_journal.specs.Holding.{HasNotVoted}
use Rattle.alp_history.specs.Log.{Log, opening_of, IsIn, AreDistinct}
use Rattle.alp_history.specs.Theorems.{IsProper}
use Rattle.alp_history.proofs.Places.{some-same, all-in}
use Rattle.alp_journal.proofs.IdLemmas.{same_trans-true, same_join-true, same_trans-itself, or-true}
use Rattle.alp_history.proofs.Fates.{decision-stays}
use Rattle.alp_history.proofs.Phases.{IsSeen, phase-cases}
use Rattle.alp_history.proofs.Agreed.{WasDrawn, drawn-epoch, drawn-after, not-next, IsLater}

-- ---- stamps

-- the list has a transaction at the stamp
abbrev pub HasKey : Stamp → List (Stamp × Decided) → Type 0
HasKey x xs = (v : Decided) × (entries.find stamp_cmp x xs ≡ Some v)

pub put-has : (x : Stamp) (v : Decided) (xs : List (Stamp × Decided)) → HasKey x (put stamp_cmp x v xs)
put-has x v xs = (v, find-put stamp_cmp stamps_total x x v xs ∙ ap (λ (o : Ordering). cond (is_eq o) (Some v) (entries.find stamp_cmp x xs)) (itself x))

pub put-keeps : (y x : Stamp) (v : Decided) (xs : List (Stamp × Decided)) → HasKey y xs → HasKey y (put stamp_cmp x v xs)
put-keeps y x v xs h = go (eq_by_cmp stamp_cmp y x) refl
  where
    go : (b : Bool) → eq_by_cmp stamp_cmp y x ≡ b → HasKey y (put stamp_cmp x v xs)
    go true e = (v, find-put stamp_cmp stamps_total y x v xs ∙ ap (λ (b : Bool). cond b (Some v) (entries.find stamp_cmp y xs)) e)
    go false e = (h.0, find-put stamp_cmp stamps_total y x v xs ∙ ap (λ (b : Bool). cond b (Some v) (entries.find stamp_cmp y xs)) e ∙ h.1)

-- ---- joins

pub same_join-self : (j : JoinNo) → same_join j j ≡ true
same_join-self t =
    ap (λ (b : Bool). b && t.epoch == t.epoch && t.counter == t.counter) (eq-eqb t.server t.server refl)
    ∙ ap (λ (b : Bool). b && t.counter == t.counter) (eq-eqb t.epoch t.epoch refl) ∙ eq-eqb t.counter t.counter refl

pub at-join : (P : Phase → Type 0) (k j : JoinNo) (q p : Phase) → (k ≡ j → P q) → ((k ≡ j → ⊥) → P p) → P (cond (same_join k j) q p)
at-join P k j q p with_it none_is = go (same_join k j) refl
  where
    go : (b : Bool) → same_join k j ≡ b → P (cond b q p)
    go true e = with_it (same_join-true k j e)
    go false e = none_is (λ is. (let wrong : true ≡ false = sym (same_join-self k) ∙ ap (same_join k) is ∙ e in cc))

-- no join stands twice
abbrev pub AreApart : List JoinNo → Type 0
AreApart [] = Unit {0}
AreApart (j ∷ js) = AllByRecursion (λ k. j ≡ k → ⊥) js × AreApart js

apart-one : (j : JoinNo) (js : List JoinNo) → AllByRecursion (λ k. k ≡ j → ⊥) js → AreApart js → AreApart (js ++ j ∷ [])
apart-one j [] h a = (tt, tt)
apart-one j (k ∷ ks) h a = (also ks a.0, apart-one j ks h.1 a.1)
  where
    also : (xs : List JoinNo) → AllByRecursion (λ x. k ≡ x → ⊥) xs → AllByRecursion (λ x. k ≡ x → ⊥) (xs ++ j ∷ [])
    also [] g = (h.0, tt)
    also (x ∷ xs) g = (g.0, also xs g.1)

all-joins : (P Q : JoinNo → Type 0) → ((j : JoinNo) → P j → Q j) → (js : List JoinNo) → AllByRecursion P js → AllByRecursion Q js
all-joins P Q f [] h = tt
all-joins P Q f (j ∷ js) h = (f j h.0, all-joins P Q f js h.1)

all-one : (P : JoinNo → Type 0) (j : JoinNo) (js : List JoinNo) → AllByRecursion P js → P j → AllByRecursion P (js ++ j ∷ [])
all-one P j [] h p = (p, tt)
all-one P j (k ∷ ks) h p = (h.0, all-one P j ks h.1 p)

pub in-left : {A : Type 0} (x : A) (xs ys : List A) → IsIn x xs → IsIn x (xs ++ ys)
in-left x [] ys i = absurd i
in-left x (y ∷ xs) ys i = elim i [ inl e ↦ inl e | inr k ↦ inr (in-left x xs ys k) ]

pub in-right : {A : Type 0} (x : A) (xs ys : List A) → IsIn x ys → IsIn x (xs ++ ys)
in-right x [] ys i = i
in-right x (y ∷ xs) ys i = inr (in-right x xs ys i)

module _ (log : Log) (proper : IsProper log) (n : ℕ) where
  abbrev pub o : Start
  o = opening_of log n

  -- of this run of the server
  abbrev pub IsYoung : JoinNo → Type 0
  IsYoung j = (o.epoch) ≤ j.epoch

  -- a note of the opening, with this life
  abbrev pub IsNoted : JoinNo → TransId → Life → Type 0
  IsNoted j t l = (r : ReadyNote) × IsIn r (o.ready) × (r.join ≡ j) × (r.trans ≡ t) × (l ≡ early_life r)

  -- a join that was let in has a life that has not voted; a ready one has a life with its vote, of a note or of this run
  abbrev pub HasPart : (TransId → Option Life) → JoinNo → Phase → Type 0
  HasPart lives j (Joining t c w) = IsYoung j
  HasPart lives j (Active t c w) = (l : Life) × (lives t ≡ Some l) × (l.vote ≡ None) × (l.is_early ≡ false) × IsYoung j × (l.join ≡ Some j)
  HasPart lives j (Ready t c ts) = (l : Life) × (lives t ≡ Some l) × (l.vote ≡ Some ts) × (IsNoted j t l ⊎ ((l.is_early ≡ false) × IsYoung j)) × (l.join ≡ Some j)
  HasPart lives j Unseen = Unit {0}
  HasPart lives j (Applied t x) = Unit {0}
  HasPart lives j Over = Unit {0}

  -- a live join is of another server's transaction
  abbrev pub IsAway : Phase → Type 0
  IsAway (Joining t c w) = t.server ≡ n → ⊥
  IsAway (Active t c w) = t.server ≡ n → ⊥
  IsAway (Ready t c ts) = t.server ≡ n → ⊥
  IsAway Unseen = Unit {0}
  IsAway (Applied t x) = Unit {0}
  IsAway Over = Unit {0}

  -- what is applied stands at its stamp, unless an earlier run made it ready
  abbrev pub IsKeptAt : List (Stamp × Decided) → JoinNo → Phase → Type 0
  IsKeptAt xs j (Applied t x) = ((r : ReadyNote) × IsIn r (o.ready) × (r.join ≡ j) × (r.trans ≡ t)) ⊎ HasKey x xs
  IsKeptAt xs j (Joining t c w) = Unit {0}
  IsKeptAt xs j (Active t c w) = Unit {0}
  IsKeptAt xs j (Ready t c ts) = Unit {0}
  IsKeptAt xs j Unseen = Unit {0}
  IsKeptAt xs j Over = Unit {0}

  -- a join of another server of the run
  abbrev pub IsPart : JoinNo → Type 0
  IsPart j = (0 < j.server) × (j.server ≤ 8) × (j.server ≡ n → ⊥)

  abbrev pub AreParts : List JoinNo → Type 0
  AreParts js = (j : JoinNo) → has_join j js ≡ true → IsPart j

  abbrev pub IsDecidedHere : List (Stamp × Decided) → TransId → Stamp → List JoinNo → Type 0
  IsDecidedHere xs t x js = HasKey x xs × ((o.epoch) ≤ t.epoch) × AreParts js

  abbrev pub IsDecidedBefore : Stamp → List JoinNo → Type 0
  IsDecidedBefore x js = (d : DecisionNote) × IsIn d (o.decisions) × (d.stamp ≡ x) × (d.joins ≡ js)

  -- what is decided stands at its stamp, unless an earlier run decided it
  abbrev pub IsRested : List (Stamp × Decided) → TransId → Fate → Type 0
  IsRested xs t Undrawn = Unit {0}
  IsRested xs t (Running c js) = AreParts js
  IsRested xs t (Finishing c js vs) = AreParts js
  IsRested xs t (Committed x js ds) = (x.trans ≡ t) × (IsDecidedBefore x js ⊎ IsDecidedHere xs t x js)
  IsRested xs t (Forgotten x js) = (x.trans ≡ t) × (IsDecidedBefore x js ⊎ IsDecidedHere xs t x js)
  IsRested xs t (Ended c) = Unit {0}

  -- what stands at a stamp was decided here in this run, or applied for a join of this run
  abbrev pub IsTied : (TransId → Fate) → (JoinNo → Phase) → Stamp → Type 0
  IsTied fates phases x =
      ((x.trans.server ≡ n) × ((o.epoch) ≤ x.trans.epoch) × ((js : List JoinNo) × (decision_in (fates x.trans) ≡ Some (x, js)))) ⊎ ((j : JoinNo) × (phases j ≡ Applied x.trans x) × IsYoung j)

  pub record IsLinkedUp (s : State) : Type 0 where
    pub few : s.servers ≤ 8
    pub now : (o.epoch) ≤ s.ids.epoch
    pub away : (j : JoinNo) → IsAway (s.phases j)
    pub parts : (j : JoinNo) → HasPart s.holder.lives j (s.phases j)
    pub one : (j k : JoinNo) (t : TransId) → IsHolding t (s.phases j) → IsHolding t (s.phases k) → j ≡ k
    pub listed : (j : JoinNo) → IsSeen (s.phases j) ≡ true → IsIn j s.joined
    pub apart : AreApart s.joined
    pub drawn : AllByRecursion (λ j. WasDrawn log proper j s.ids) s.joined
    pub fates : (t : TransId) → IsRested s.holder.applied t (s.fates t)
    pub tied : AllByRecursion (λ (y : Stamp × Decided). IsTied s.fates s.phases y.0) s.holder.applied
    pub kept : (j : JoinNo) → IsKeptAt s.holder.applied j (s.phases j)
    pub sorted : T (is_sorted stamp_cmp s.holder.applied)

  -- what a deed needs
  abbrev pub Does : State → Deed → Type 0
  Does s (Begins t c w k) = t.server ≡ n
  Does s (Joins j t c w) = (t.server ≡ n → ⊥) × (j ≡ next_join s)
  Does s (Enters j t c w) = (s.holder.lives t ≡ None) × (s.phases j ≡ Joining t c w)
  Does s (Grants t c) = HasNotVoted s.holder t
  Does s (Performs t x) = HasNotVoted s.holder t
  Does s (Releases t) = (j : JoinNo) → IsHolding t (s.phases j) → ⊥
  Does s (Readies j t ts) = (c : ℕ) × (w : List ℕ) × (s.phases j ≡ Active t c w)
  Does s (Decides x js) =
      (x.trans.server ≡ n) × ((o.epoch) ≤ x.trans.epoch) × ((c : ℕ) × (vs : List Vote) × (s.fates x.trans ≡ Finishing c js vs)) × ((l : Life) × (s.holder.lives x.trans ≡ Some l) × (l.is_early ≡ false))
  Does s (Applies j x) = (c : ℕ) × (ts : ℕ) × (s.phases j ≡ Ready x.trans c ts)
  Does s (Registers t j) = IsPart j
  Does s (Restarts epoch clock) = s.ids.epoch < epoch
  Does s d = Unit {0}

  -- ---- lives and phases

  not-held : (t : TransId) (p : Phase) → IsAway p → t.server ≡ n → IsHolding t p → ⊥
  not-held t (Active u c w) a e h = a (ap (λ (x : TransId). x.server) h ∙ e)
  not-held t (Ready u c ts) a e h = a (ap (λ (x : TransId). x.server) h ∙ e)
  not-held t (Joining u c w) a e h = absurd h
  not-held t Unseen a e h = absurd h
  not-held t (Applied u x) a e h = absurd h
  not-held t Over a e h = absurd h

  -- who holds has a life
  held-life : (lives : TransId → Option Life) (j : JoinNo) (t : TransId) (p : Phase) → HasPart lives j p → IsHolding t p → (l : Life) × (lives t ≡ Some l)
  held-life lives j t (Active u c w) h is = (h.0, ap lives (sym is) ∙ h.1)
  held-life lives j t (Ready u c ts) h is = (h.0, ap lives (sym is) ∙ h.1)
  held-life lives j t (Joining u c w) h is = absurd is
  held-life lives j t Unseen h is = absurd is
  held-life lives j t (Applied u x) h is = absurd is
  held-life lives j t Over h is = absurd is

  pub other-point : (lives : TransId → Option Life) (u t : TransId) (x : Option Life) → (t ≡ u → ⊥) → cond {A = Option Life} (same_trans t u) x (lives t) ≡ lives t
  other-point lives u t x none_is = go (same_trans t u) refl
    where
      go : (b : Bool) → same_trans t u ≡ b → cond {A = Option Life} b x (lives t) ≡ lives t
      go true e = absurd (none_is (same_trans-true t u e))
      go false e = refl

  pub same-point : (lives : TransId → Option Life) (u : TransId) (x : Option Life) → cond {A = Option Life} (same_trans u u) x (lives u) ≡ x
  same-point lives u x = ap (λ (b : Bool). cond {A = Option Life} b x (lives u)) (same_trans-itself u)

  -- another life changes
  point : (lives : TransId → Option Life) (u : TransId) (x : Option Life) (j : JoinNo) (p : Phase) → (IsHolding u p → ⊥) → HasPart lives j p → HasPart (λ t. cond {A = Option Life} (same_trans t u) x (lives t)) j p
  point lives u x j (Active t c w) none_is h = (h.0, other-point lives u t x none_is ∙ h.1, h.2, h.3, h.4, h.5)
  point lives u x j (Ready t c ts) none_is h = (h.0, other-point lives u t x none_is ∙ h.1, h.2, h.3, h.4)
  point lives u x j (Joining t c w) none_is h = h
  point lives u x j Unseen none_is h = tt
  point lives u x j (Applied t y) none_is h = tt
  point lives u x j Over none_is h = tt

  -- one that has not voted changes and does not vote
  open-point : (lives : TransId → Option Life) (u : TransId) (l k : Life) (j : JoinNo) (p : Phase) → lives u ≡ Some l → l.vote ≡ None → k.vote ≡ None → k.is_early ≡ l.is_early → k.join ≡ l.join → HasPart lives j p
      → HasPart (λ t. cond {A = Option Life} (same_trans t u) (Some k) (lives t)) j p
  open-point lives u l k j (Active t c w) is v kv same as_join h = go (same_trans t u) refl
    where
      go : (b : Bool) → same_trans t u ≡ b → (m : Life) × (cond {A = Option Life} b (Some k) (lives t) ≡ Some m) × (m.vote ≡ None) × (m.is_early ≡ false) × IsYoung j × (m.join ≡ Some j)
      go true e =
          let mine : h.0 ≡ l = some-same h.0 l (sym h.1 ∙ ap lives (same_trans-true t u e) ∙ is) in
          (k, refl, kv, same ∙ ap (λ (m : Life). m.is_early) (sym mine) ∙ h.3, h.4, as_join ∙ ap (λ (m : Life). m.join) (sym mine) ∙ h.5)
      go false e = (h.0, h.1, h.2, h.3, h.4, h.5)
  open-point lives u l k j (Ready t c ts) is v kv same as_join h = (
    h.0,
    other-point lives u t (Some k) (λ e.
        (let mine : h.0 ≡ l = some-same h.0 l (sym h.1 ∙ ap lives e ∙ is) in
        let wrong : Some ts ≡ None = sym h.2 ∙ ap (λ (m : Life). m.vote) mine ∙ v in cc)) ∙ h.1,
    h.2,
    h.3,
    h.4,
  )
  open-point lives u l k j (Joining t c w) is v kv same as_join h = h
  open-point lives u l k j Unseen is v kv same as_join h = tt
  open-point lives u l k j (Applied t y) is v kv same as_join h = tt
  open-point lives u l k j Over is v kv same as_join h = tt

  -- what a phase may become with the same lives
  ends-part : (lives : TransId → Option Life) (j : JoinNo) (p : Phase) → HasPart lives j p → HasPart lives j (part.quit p) × ((t : TransId) → HasPart lives j (part.aborted t p))
  ends-part lives j (Joining t c w) h = (tt, λ u. go u (same_trans u t))
    where
      go : (u : TransId) (b : Bool) → HasPart lives j (cond b Over (Joining t c w))
      go u true = tt
      go u false = h
  ends-part lives j (Active t c w) h = (tt, λ u. go u (same_trans u t))
    where
      go : (u : TransId) (b : Bool) → HasPart lives j (cond b Over (Active t c w))
      go u true = tt
      go u false = h
  ends-part lives j (Ready t c ts) h = (h, λ u. go u (same_trans u t))
    where
      go : (u : TransId) (b : Bool) → HasPart lives j (cond b Over (Ready t c ts))
      go u true = tt
      go u false = h
  ends-part lives j Unseen h = (tt, λ u. tt)
  ends-part lives j (Applied t x) h = (tt, λ u. tt)
  ends-part lives j Over h = (tt, λ u. tt)

  -- the life of another join stays
  lapse-other : (lives : TransId → Option Life) (k : JoinNo) (t : TransId) (j : JoinNo) (p : Phase) → (k ≡ j → ⊥) → HasPart lives j p → HasPart (λ u. cond {A = Option Life} (same_trans u t) (lapsed k (lives u)) (lives u)) j p
  lapse-other lives k t j p away h = go p h
    where
      unlike : same_join j k ≡ false
      unlike = by (same_join j k) refl
        where
          by : (b : Bool) → same_join j k ≡ b → b ≡ false
          by true e = absurd (away (sym (same_join-true j k e)))
          by false e = refl

      stays : (u : TransId) (l : Life) → lives u ≡ Some l → l.join ≡ Some j → cond {A = Option Life} (same_trans u t) (lapsed k (lives u)) (lives u) ≡ Some l
      stays u l is its = by (same_trans u t)
        where
          by : (b : Bool) → cond {A = Option Life} b (lapsed k (lives u)) (lives u) ≡ Some l
          by true = ap (lapsed k) is ∙ ap (λ (o : Option JoinNo). Some (cond {A = Life} (is_part k o) (emptied l) l)) its ∙ ap (λ (b : Bool). Some (cond {A = Life} b (emptied l) l)) unlike
          by false = is

      go : (p : Phase) → HasPart lives j p → HasPart (λ u. cond {A = Option Life} (same_trans u t) (lapsed k (lives u)) (lives u)) j p
      go (Active u c w) h = (h.0, stays u h.0 h.1 h.5, h.2, h.3, h.4, h.5)
      go (Ready u c ts) h = (h.0, stays u h.0 h.1 h.4, h.2, h.3, h.4)
      go (Joining u c w) h = h
      go Unseen h = tt
      go (Applied u x) h = tt
      go Over h = tt

  -- what is aborted is over, and a join of another transaction stays
  aborted-part : (lives : TransId → Option Life) (k : JoinNo) (t : TransId) (j : JoinNo) (p : Phase) → HasPart lives j p → HasPart (λ u. cond {A = Option Life} (same_trans u t) (lapsed k (lives u)) (lives u)) j (part.aborted t p)
  aborted-part lives k t j p h = go p h
    where
      other : (u : TransId) → same_trans t u ≡ false → cond {A = Option Life} (same_trans u t) (lapsed k (lives u)) (lives u) ≡ lives u
      other u e = by (same_trans u t) refl
        where
          by : (b : Bool) → same_trans u t ≡ b → cond {A = Option Life} b (lapsed k (lives u)) (lives u) ≡ lives u
          by true f = (let wrong : true ≡ false = sym (same_trans-itself t) ∙ ap (same_trans t) (sym (same_trans-true u t f)) ∙ e in cc)
          by false f = refl

      new : TransId → Option Life
      new u = cond {A = Option Life} (same_trans u t) (lapsed k (lives u)) (lives u)

      go : (p : Phase) → HasPart lives j p → HasPart (λ u. cond {A = Option Life} (same_trans u t) (lapsed k (lives u)) (lives u)) j (part.aborted t p)
      go (Joining u c w) h = by (same_trans t u)
        where
          by : (b : Bool) → HasPart (λ u. cond {A = Option Life} (same_trans u t) (lapsed k (lives u)) (lives u)) j (cond b Over (Joining u c w))
          by true = tt
          by false = h
      go (Active u c w) h = by (same_trans t u) refl
        where
          by : (b : Bool) → same_trans t u ≡ b → HasPart (λ u. cond {A = Option Life} (same_trans u t) (lapsed k (lives u)) (lives u)) j (cond b Over (Active u c w))
          by true e = tt
          by false e = (h.0, other u e ∙ h.1, h.2, h.3, h.4, h.5)
      go (Ready u c ts) h = by (same_trans t u) refl
        where
          by : (b : Bool) → same_trans t u ≡ b → HasPart (λ u. cond {A = Option Life} (same_trans u t) (lapsed k (lives u)) (lives u)) j (cond b Over (Ready u c ts))
          by true e = tt
          by false e = (h.0, other u e ∙ h.1, h.2, h.3, h.4)
      go Unseen h = tt
      go (Applied u x) h = tt
      go Over h = tt

  again-part : (lives : TransId → Option Life) (j : JoinNo) (p : Phase) → HasPart lives j p → HasPart (λ t. if_ready (lives t)) j (part.restarted p)
  again-part lives j (Joining t c w) h = tt
  again-part lives j (Active t c w) h = tt
  again-part lives j (Ready t c ts) h = (h.0, ap if_ready h.1 ∙ ap (λ (v : Option ℕ). cond {A = Option Life} (is_some v) (Some h.0) None) h.2, h.2, h.3, h.4)
  again-part lives j Unseen h = tt
  again-part lives j (Applied t x) h = tt
  again-part lives j Over h = tt

  drawn-part : (lives : TransId → Option Life) (j : JoinNo) (t : TransId) (c : ℕ) (w : List ℕ) (p : Phase) → IsYoung j → HasPart lives j p → HasPart lives j (part.drawn t c w p)
  drawn-part lives j t c w Unseen y h = y
  drawn-part lives j t c w (Joining u k v) y h = h
  drawn-part lives j t c w (Active u k v) y h = h
  drawn-part lives j t c w (Ready u k ts) y h = h
  drawn-part lives j t c w (Applied u x) y h = tt
  drawn-part lives j t c w Over y h = tt

  module _ (s : State) (h : IsLinkedUp s) where
    -- a part's own change of its own life
    commits-part : (x : Stamp) (j : JoinNo) → (IsHolding x.trans (s.phases j) → ⊥) → HasPart (commits s.holder x (s.holder.lives x.trans)).lives j (s.phases j)
    commits-part x j none_is = go (s.holder.lives x.trans)
      where
        go : (l : Option Life) → HasPart (commits s.holder x l).lives j (s.phases j)
        go None = h.parts j
        go (Some l) = point s.holder.lives x.trans (Some (record l { calls = []; edits = []; own = no_opens; vote = None; is_early = false })) j (s.phases j) none_is (h.parts j)

    parts-after : (d : Deed) → Does s d → (j : JoinNo) → HasPart (holder_after s.holder d).lives j (phase_after d j (s.phases j))
    parts-after (Begins t c w k) d j = point s.holder.lives t (Some (new_life None c w)) j (s.phases j) (not-held t (s.phases j) (h.away j) d) (h.parts j)
    parts-after (Joins k t c w) d j =
        at-join (HasPart s.holder.lives j) k j (part.drawn t c w (s.phases j)) (s.phases j)
        (λ e. drawn-part s.holder.lives j t c w (s.phases j) (let y : j.epoch ≡ s.ids.epoch = ap (λ (x : JoinNo). x.epoch) (sym e ∙ d.1) in let z : (o.epoch) ≤ s.ids.epoch = h.now in omega (arith, y, z)) (h.parts j)) (λ e. h.parts j)
    parts-after (Enters k t c w) d j =
        at-join (HasPart (with_life s.holder t (Some (new_life (Some k) c w))).lives j) k j (part.entered (s.phases j)) (s.phases j)
        (λ e. (let joining : s.phases j ≡ Joining t c w = ap s.phases (sym e) ∙ d.1 in
        let young : IsYoung j = subst (HasPart s.holder.lives j) joining (h.parts j) in
        subst (λ p. HasPart (with_life s.holder t (Some (new_life (Some k) c w))).lives j (part.entered p)) (sym joining) (new_life (Some k) c w, same-point s.holder.lives t (Some (new_life (Some k) c w)), refl, refl, young, ap Some e)))
        (λ e. point s.holder.lives t (Some (new_life (Some k) c w)) j (s.phases j) (λ is. (let l = held-life s.holder.lives j t (s.phases j) (h.parts j) is in let wrong : None ≡ Some l.0 = sym d.0 ∙ l.1 in cc)) (h.parts j))
    parts-after (Quits k t c w) d j = at-join (HasPart s.holder.lives j) k j (part.quit (s.phases j)) (s.phases j) (λ e. (ends-part s.holder.lives j (s.phases j) (h.parts j)).0) (λ e. h.parts j)
    parts-after (Aborts k t c w) d j =
        at-join (HasPart (holder_after s.holder (Aborts k t c w)).lives j) k j (part.aborted t (s.phases j)) (s.phases j) (λ e. aborted-part s.holder.lives k t j (s.phases j) (h.parts j)) (λ e. lapse-other s.holder.lives k t j (s.phases j) e (h.parts j))
    parts-after (Grants t c) d j = go (s.holder.lives t) refl
      where
        go : (l : Option Life) → s.holder.lives t ≡ l → HasPart (grants s.holder t c l).lives j (s.phases j)
        go None e = h.parts j
        go (Some l) e = open-point s.holder.lives t l (record l { held = held_for s.holder l c }) j (s.phases j) e (d l e) (d l e) refl refl (h.parts j)
    parts-after (Performs t x) d j = go (s.holder.lives t) refl
      where
        go : (l : Option Life) → s.holder.lives t ≡ l → HasPart (performs s.holder t x l).lives j (s.phases j)
        go None e = h.parts j
        go (Some l) e = open-point s.holder.lives t l (after_done l x (answer_in s.holder l x)) j (s.phases j) e (d l e) (d l e) refl refl (h.parts j)
    parts-after (Releases t) d j = point s.holder.lives t None j (s.phases j) (d j) (h.parts j)
    parts-after (Readies k t ts) d j =
        let here = subst (HasPart s.holder.lives k) d.2 (h.parts k) in
        let new : Life = record here.0 { vote = Some ts } in
        let lives : (TransId → Option Life) = (with_life s.holder t (Some new)).lives in
        subst (λ (x : Option Life). HasPart (readies s.holder t ts x).lives j (cond (same_join k j) (part.readied ts (s.phases j)) (s.phases j))) (sym here.1)
        (at-join (HasPart lives j) k j (part.readied ts (s.phases j)) (s.phases j)
        (λ e. (let active : s.phases j ≡ Active t d.0 d.1 = ap s.phases (sym e) ∙ d.2 in
        let young : IsYoung j = subst IsYoung e here.4 in
        subst (λ p. HasPart lives j (part.readied ts p)) (sym active) (new, same-point s.holder.lives t (Some new), refl, inr (here.3, young), here.5 ∙ ap Some e)))
        (λ e. point s.holder.lives t (Some new) j (s.phases j) (λ is. e (h.one k j t (subst (IsHolding t) (sym d.2) refl) is)) (h.parts j)))
    parts-after (Decides x js) d j = commits-part x j (not-held x.trans (s.phases j) (h.away j) d.0)
    parts-after (Applies k x) d j =
        at-join (HasPart (commits s.holder x (s.holder.lives x.trans)).lives j) k j (part.applied x (s.phases j)) (s.phases j)
        (λ e. (let ready : s.phases j ≡ Ready x.trans d.0 d.1 = ap s.phases (sym e) ∙ d.2 in
        subst (λ p. HasPart (commits s.holder x (s.holder.lives x.trans)).lives j (part.applied x p)) (sym ready)
        (subst (λ (b : Bool). HasPart (commits s.holder x (s.holder.lives x.trans)).lives j (cond b (Applied x.trans x) (Ready x.trans d.0 d.1))) (sym (same_trans-itself x.trans)) tt)))
        (λ e. commits-part x j (λ is. e (h.one k j x.trans (subst (IsHolding x.trans) (sym d.2) refl) is)))
    parts-after (Restarts epoch clock) d j = again-part s.holder.lives j (s.phases j) (h.parts j)
    parts-after (Registers t k) d j = h.parts j
    parts-after (Finishes t) d j = h.parts j
    parts-after (Hears t k ts) d j = h.parts j
    parts-after (Ends t c w) d j = h.parts j
    parts-after (Acknowledges t k) d j = h.parts j
    parts-after (Forgets t) d j = h.parts j

    away-after : (d : Deed) → Does s d → (j : JoinNo) → IsAway (phase_after d j (s.phases j))
    away-after d does j = go (s.phases j) (h.away j)
      where
        new : (t : TransId) (c : ℕ) (w : List ℕ) → d ≡ Joins j t c w → IsAway (Joining t c w)
        new t c w e = (subst (Does s) e does).0

        stopped : (b : Bool) (p : Phase) → IsAway p → IsAway (cond b Over p)
        stopped true p a = tt
        stopped false p a = a

        applies : (b : Bool) (t : TransId) (x : Stamp) (p : Phase) → IsAway p → IsAway (cond b (Applied t x) p)
        applies true t x p a = tt
        applies false t x p a = a

        go : (p : Phase) → IsAway p → IsAway (phase_after d j p)
        go Unseen a = phase-cases IsAway d j Unseen a new a (λ ts. a) (λ x e. a) a (λ u k c e. a) a
        go (Joining t c w) a = phase-cases IsAway d j (Joining t c w) a (λ u k v e. a) a (λ ts. a) (λ x e. a) tt (λ u k v e. stopped (same_trans u t) (Joining t c w) a) tt
        go (Active t c w) a = phase-cases IsAway d j (Active t c w) a (λ u k v e. a) a (λ ts. a) (λ x e. a) tt (λ u k v e. stopped (same_trans u t) (Active t c w) a) tt
        go (Ready t c ts) a = phase-cases IsAway d j (Ready t c ts) a (λ u k v e. a) a (λ ts. a) (λ x e. applies (same_trans x.trans t) t x (Ready t c ts) a) a (λ u k v e. stopped (same_trans u t) (Ready t c ts) a) a
        go (Applied t x) a = phase-cases IsAway d j (Applied t x) a (λ u k v e. a) a (λ ts. a) (λ x e. a) a (λ u k v e. a) a
        go Over a = phase-cases IsAway d j Over a (λ u k v e. a) a (λ ts. a) (λ x e. a) a (λ u k v e. a) a

    -- who holds then held before, unless it is let in
    abbrev Came : TransId → Deed → JoinNo → Phase → Type 0
    Came t d j p = (c : ℕ) × (w : List ℕ) × (u : TransId) × (k : ℕ) × (v : List ℕ) × (p ≡ Joining t c w) × (d ≡ Enters j u k v)

    hold-back : (t : TransId) (d : Deed) (j : JoinNo) (p : Phase) → IsHolding t (phase_after d j p) → IsHolding t p ⊎ Came t d j p
    hold-back t d j p hold = go d refl hold
      where
        drawn_ : (u : TransId) (c : ℕ) (w : List ℕ) (q : Phase) → IsHolding t (part.drawn u c w q) → IsHolding t q
        drawn_ u c w Unseen a = absurd a
        drawn_ u c w (Joining v k z) a = a
        drawn_ u c w (Active v k z) a = a
        drawn_ u c w (Ready v k z) a = a
        drawn_ u c w (Applied v k) a = a
        drawn_ u c w Over a = a

        readied_ : (ts : ℕ) (q : Phase) → IsHolding t (part.readied ts q) → IsHolding t q
        readied_ ts Unseen a = a
        readied_ ts (Joining v k z) a = a
        readied_ ts (Active v k z) a = a
        readied_ ts (Ready v k z) a = a
        readied_ ts (Applied v k) a = a
        readied_ ts Over a = a

        stopped : (b : Bool) (q : Phase) → IsHolding t (cond b Over q) → IsHolding t q
        stopped true q a = absurd a
        stopped false q a = a

        applied_ : (x : Stamp) (q : Phase) → IsHolding t (part.applied x q) → IsHolding t q
        applied_ x Unseen a = a
        applied_ x (Joining v k z) a = a
        applied_ x (Active v k z) a = a
        applied_ x (Ready v k z) a = one_of (same_trans x.trans v) a
          where
            one_of : (b : Bool) → IsHolding t (cond b (Applied v x) (Ready v k z)) → IsHolding t (Ready v k z)
            one_of true a = absurd a
            one_of false a = a
        applied_ x (Applied v k) a = a
        applied_ x Over a = a

        quit_ : (q : Phase) → IsHolding t (part.quit q) → IsHolding t q
        quit_ Unseen a = a
        quit_ (Joining v k z) a = absurd a
        quit_ (Active v k z) a = absurd a
        quit_ (Ready v k z) a = a
        quit_ (Applied v k) a = a
        quit_ Over a = a

        aborted_ : (u : TransId) (q : Phase) → IsHolding t (part.aborted u q) → IsHolding t q
        aborted_ u Unseen a = a
        aborted_ u (Joining v k z) a = stopped (same_trans u v) (Joining v k z) a
        aborted_ u (Active v k z) a = stopped (same_trans u v) (Active v k z) a
        aborted_ u (Ready v k z) a = stopped (same_trans u v) (Ready v k z) a
        aborted_ u (Applied v k) a = a
        aborted_ u Over a = a

        again_ : (q : Phase) → IsHolding t (part.restarted q) → IsHolding t q
        again_ Unseen a = a
        again_ (Joining v k z) a = absurd a
        again_ (Active v k z) a = absurd a
        again_ (Ready v k z) a = a
        again_ (Applied v k) a = a
        again_ Over a = a

        entered_ : (u : TransId) (k : ℕ) (v : List ℕ) → d ≡ Enters j u k v → (q : Phase) → p ≡ q → IsHolding t (part.entered q) → IsHolding t p ⊎ Came t d j p
        entered_ u k v e Unseen is a = absurd a
        entered_ u k v e (Joining z c w) is a = inr (c, w, u, k, v, is ∙ ap (λ (y : TransId). Joining y c w) a, e)
        entered_ u k v e (Active z c w) is a = inl (subst (IsHolding t) (sym is) a)
        entered_ u k v e (Ready z c w) is a = inl (subst (IsHolding t) (sym is) a)
        entered_ u k v e (Applied z c) is a = absurd a
        entered_ u k v e Over is a = absurd a

        go : (e : Deed) → d ≡ e → IsHolding t (phase_after e j p) → IsHolding t p ⊎ Came t d j p
        go (Joins k u c w) e = at-join (λ q. IsHolding t q → IsHolding t p ⊎ Came t d j p) k j (part.drawn u c w p) p (λ i a. inl (drawn_ u c w p a)) (λ i a. inl a)
        go (Enters k u c w) e = at-join (λ q. IsHolding t q → IsHolding t p ⊎ Came t d j p) k j (part.entered p) p (λ i a. entered_ u c w (e ∙ ap (λ (x : JoinNo). Enters x u c w) i) p refl a) (λ i a. inl a)
        go (Readies k u ts) e = at-join (λ q. IsHolding t q → IsHolding t p ⊎ Came t d j p) k j (part.readied ts p) p (λ i a. inl (readied_ ts p a)) (λ i a. inl a)
        go (Applies k x) e = at-join (λ q. IsHolding t q → IsHolding t p ⊎ Came t d j p) k j (part.applied x p) p (λ i a. inl (applied_ x p a)) (λ i a. inl a)
        go (Quits k u c w) e = at-join (λ q. IsHolding t q → IsHolding t p ⊎ Came t d j p) k j (part.quit p) p (λ i a. inl (quit_ p a)) (λ i a. inl a)
        go (Aborts k u c w) e = at-join (λ q. IsHolding t q → IsHolding t p ⊎ Came t d j p) k j (part.aborted u p) p (λ i a. inl (aborted_ u p a)) (λ i a. inl a)
        go (Restarts epoch clock) e = λ a. inl (again_ p a)
        go (Begins u c w k) e = λ a. inl a
        go (Registers u k) e = λ a. inl a
        go (Finishes u) e = λ a. inl a
        go (Hears u k ts) e = λ a. inl a
        go (Decides x js) e = λ a. inl a
        go (Ends u c k) e = λ a. inl a
        go (Acknowledges u k) e = λ a. inl a
        go (Forgets u) e = λ a. inl a
        go (Grants u c) e = λ a. inl a
        go (Performs u x) e = λ a. inl a
        go (Releases u) e = λ a. inl a

    one-after : (d : Deed) → Does s d → (j k : JoinNo) (t : TransId) → IsHolding t (phase_after d j (s.phases j)) → IsHolding t (phase_after d k (s.phases k)) → j ≡ k
    one-after d does j k t a b = elim (hold-back t d j (s.phases j) a) [
      | inl x ↦ elim (hold-back t d k (s.phases k) b) [
        | inl y ↦ h.one j k t x y
        | inr y ↦ absurd (lone k j y x)
      ]
      | inr x ↦ elim (hold-back t d k (s.phases k) b) [
        | inl y ↦ absurd (lone j k x y)
        | inr y ↦ same x.2 y.2 x.3 y.3 x.4 y.4 (sym x.6 ∙ y.6)
      ]
    ]
      where
        same : (u v : TransId) (c e : ℕ) (w z : List ℕ) → Enters j u c w ≡ Enters k v e z → j ≡ k
        same u v c e w z i = cc

        -- one that is let in is alone
        lone : (j k : JoinNo) → ((c : ℕ) × (w : List ℕ) × (u : TransId) × (e : ℕ) × (v : List ℕ) × (s.phases j ≡ Joining t c w) × (d ≡ Enters j u e v)) → IsHolding t (s.phases k) → ⊥
        lone j k x y =
            let free = subst (Does s) x.6 does in
            let t_is : x.2 ≡ t = joined (x.2) t x.3 x.0 x.4 x.1 (sym free.1 ∙ x.5) in
            let l = held-life s.holder.lives k t (s.phases k) (h.parts k) y in
            let wrong : None ≡ Some l.0 = sym free.0 ∙ ap s.holder.lives t_is ∙ l.1 in cc
          where
            joined : (u v : TransId) (c e : ℕ) (w z : List ℕ) → Joining u c w ≡ Joining v e z → u ≡ v
            joined u v c e w z i = cc

    -- ---- the list of joins

    listed-after : (d : Deed) (j : JoinNo) → IsSeen (phase_after d j (s.phases j)) ≡ true → IsIn j (s.joined ++ joined_by d)
    listed-after d j = go (s.phases j) (h.listed j)
      where
        unseen : false ≡ true → IsIn j (s.joined ++ joined_by d)
        unseen e = cc

        new : (t : TransId) (c : ℕ) (w : List ℕ) → d ≡ Joins j t c w → true ≡ true → IsIn j (s.joined ++ joined_by d)
        new t c w e k = subst (λ x. IsIn j (s.joined ++ joined_by x)) (sym e) (in-right j s.joined (j ∷ []) (inl refl))

        go : (p : Phase) → (IsSeen p ≡ true → IsIn j s.joined) → IsSeen (phase_after d j p) ≡ true → IsIn j (s.joined ++ joined_by d)
        go Unseen f = phase-cases (λ p. IsSeen p ≡ true → IsIn j (s.joined ++ joined_by d)) d j Unseen unseen new unseen (λ ts. unseen) (λ x e. unseen) unseen (λ u k c e. unseen) unseen
        go (Joining t c w) f = λ e. in-left j s.joined (joined_by d) (f refl)
        go (Active t c w) f = λ e. in-left j s.joined (joined_by d) (f refl)
        go (Ready t c ts) f = λ e. in-left j s.joined (joined_by d) (f refl)
        go (Applied t x) f = λ e. in-left j s.joined (joined_by d) (f refl)
        go Over f = λ e. in-left j s.joined (joined_by d) (f refl)

    none-more : (P : List JoinNo → Type 0) → P s.joined → P (s.joined ++ [])
    none-more P p = subst P (sym (append-none s.joined)) p
      where
        append-none : (js : List JoinNo) → js ++ [] ≡ js
        append-none [] = refl
        append-none (j ∷ js) = ap (λ ks. j ∷ ks) (append-none js)

    new-join : (j : JoinNo) → j ≡ next_join s → AllByRecursion (λ k. k ≡ j → ⊥) s.joined
    new-join j is = all-joins (λ k. WasDrawn log proper k s.ids) (λ k. k ≡ j → ⊥) (λ k w e. not-next log proper k s w (e ∙ is)) s.joined h.drawn

    drawn-kept : (d : Deed) → Does s d → AllByRecursion (λ j. WasDrawn log proper j (ids_after s.ids d)) s.joined
    drawn-kept d does = all-joins (λ k. WasDrawn log proper k s.ids) (λ k. WasDrawn log proper k (ids_after s.ids d)) (λ k w. drawn-after log proper k d s.ids (later k w d does) w) s.joined h.drawn
      where
        later : (k : JoinNo) → WasDrawn log proper k s.ids → (d : Deed) → Does s d → IsLater log proper k.epoch d
        later k w (Restarts epoch clock) up = let low : k.epoch ≤ s.ids.epoch = drawn-epoch log proper k s.ids w in omega (arith, low, up)
        later k w d does = tt

    joined-after : (d : Deed) → Does s d → AreApart (s.joined ++ joined_by d) × AllByRecursion (λ j. WasDrawn log proper j (ids_after s.ids d)) (s.joined ++ joined_by d)
    joined-after (Joins j t c w) d = (
      apart-one j s.joined (new-join j d.1) h.apart,
      all-one (λ k. WasDrawn log proper k (ids_after s.ids (Joins j t c w))) j s.joined (drawn-kept (Joins j t c w) d)
          (let e : j.epoch ≡ s.ids.epoch = ap (λ (x : JoinNo). x.epoch) d.1 in let c : j.counter ≡ s.ids.joins + 1 = ap (λ (x : JoinNo). x.counter) d.1 in inr (e, omega (arith, c))),
    )
    joined-after d does = none-more (λ js. AreApart js × AllByRecursion (λ j. WasDrawn log proper j (ids_after s.ids d)) js) (h.apart, drawn-kept d does)

    now-after : (d : Deed) → Does s d → (o.epoch) ≤ (ids_after s.ids d).epoch
    now-after (Restarts epoch clock) d = let low : (o.epoch) ≤ s.ids.epoch = h.now in omega (arith, low, d)
    now-after (Begins t c w k) d = h.now
    now-after (Joins j t c w) d = h.now
    now-after (Performs t x) d = h.now
    now-after d does = h.now

    -- ---- what was applied

    commits-has : (x y : Stamp) (l : Option Life) → HasKey y s.holder.applied → HasKey y (commits s.holder x l).applied
    commits-has x y None k = k
    commits-has x y (Some l) k = go (l.is_early)
      where
        go : (b : Bool) → HasKey y (cond {A = List (Stamp × Decided)} b s.holder.applied (put stamp_cmp x (record { stamp = x; who = l.who; calls = l.calls }) s.holder.applied))
        go true = k
        go false = put-keeps y x (record { stamp = x; who = l.who; calls = l.calls }) s.holder.applied k

    commits-new : (x : Stamp) (l : Life) → s.holder.lives x.trans ≡ Some l → l.is_early ≡ false → HasKey x (commits s.holder x (s.holder.lives x.trans)).applied
    commits-new x l is e =
        subst (λ (y : Option Life). HasKey x (commits s.holder x y).applied) (sym is)
        (subst (λ (b : Bool). HasKey x (cond {A = List (Stamp × Decided)} b s.holder.applied (put stamp_cmp x (record { stamp = x; who = l.who; calls = l.calls }) s.holder.applied))) (sym e)
        (put-has x (record { stamp = x; who = l.who; calls = l.calls }) s.holder.applied))

    has-after : (d : Deed) (y : Stamp) → HasKey y s.holder.applied → HasKey y (holder_after s.holder d).applied
    has-after (Grants t c) y k = go (s.holder.lives t)
      where
        go : (l : Option Life) → HasKey y (grants s.holder t c l).applied
        go None = k
        go (Some l) = k
    has-after (Performs t x) y k = go (s.holder.lives t)
      where
        go : (l : Option Life) → HasKey y (performs s.holder t x l).applied
        go None = k
        go (Some l) = k
    has-after (Readies j t ts) y k = go (s.holder.lives t)
      where
        go : (l : Option Life) → HasKey y (readies s.holder t ts l).applied
        go None = k
        go (Some l) = k
    has-after (Decides x js) y k = commits-has x y (s.holder.lives x.trans) k
    has-after (Applies j x) y k = commits-has x y (s.holder.lives x.trans) k
    has-after (Begins t c w n) y k = k
    has-after (Joins j t c w) y k = k
    has-after (Enters j t c w) y k = k
    has-after (Quits j t c w) y k = k
    has-after (Aborts j t c w) y k = k
    has-after (Releases t) y k = k
    has-after (Registers t j) y k = k
    has-after (Finishes t) y k = k
    has-after (Hears t j ts) y k = k
    has-after (Ends t c w) y k = k
    has-after (Acknowledges t j) y k = k
    has-after (Forgets t) y k = k
    has-after (Restarts e c) y k = k

    kept-after : (d : Deed) → Does s d → (j : JoinNo) → IsKeptAt (holder_after s.holder d).applied j (phase_after d j (s.phases j))
    kept-after d does j = go (s.phases j) refl (h.kept j)
      where
        new : List (Stamp × Decided)
        new = (holder_after s.holder d).applied

        stopped : (b : Bool) (p : Phase) → IsKeptAt new j p → IsKeptAt new j (cond b Over p)
        stopped true p a = tt
        stopped false p a = a

        applies : (t : TransId) (c ts : ℕ) (x : Stamp) → s.phases j ≡ Ready t c ts → d ≡ Applies j x → IsKeptAt new j (cond (same_trans x.trans t) (Applied t x) (Ready t c ts))
        applies t c ts x is e = one_of (same_trans x.trans t) refl
          where
            one_of : (b : Bool) → same_trans x.trans t ≡ b → IsKeptAt new j (cond b (Applied t x) (Ready t c ts))
            one_of true same =
                let mine = subst (HasPart s.holder.lives j) is (h.parts j) in
                let t_is : x.trans ≡ t = same_trans-true x.trans t same in
                elim (mine.3) [
                  | inl r ↦ inl (r.0, r.1, r.2, r.3)
                  | inr y ↦ inr (subst (λ (z : Deed). HasKey x (holder_after s.holder z).applied) (sym e) (commits-new x mine.0 (ap s.holder.lives t_is ∙ mine.1) y.0))
                ]
            one_of false same = tt

        go : (p : Phase) → s.phases j ≡ p → IsKeptAt s.holder.applied j p → IsKeptAt new j (phase_after d j p)
        go Unseen is a = phase-cases (IsKeptAt new j) d j Unseen tt (λ u k v e. tt) tt (λ ts. tt) (λ x e. tt) tt (λ u k v e. tt) tt
        go (Joining t c w) is a = phase-cases (IsKeptAt new j) d j (Joining t c w) tt (λ u k v e. tt) tt (λ ts. tt) (λ x e. tt) tt (λ u k v e. stopped (same_trans u t) (Joining t c w) tt) tt
        go (Active t c w) is a = phase-cases (IsKeptAt new j) d j (Active t c w) tt (λ u k v e. tt) tt (λ ts. tt) (λ x e. tt) tt (λ u k v e. stopped (same_trans u t) (Active t c w) tt) tt
        go (Ready t c ts) is a = phase-cases (IsKeptAt new j) d j (Ready t c ts) tt (λ u k v e. tt) tt (λ ts. tt) (λ x e. applies t c ts x is e) tt (λ u k v e. stopped (same_trans u t) (Ready t c ts) tt) tt
        go (Applied t x) is a =
            let b : IsKeptAt new j (Applied t x) = elim a [ inl r ↦ inl r | inr k ↦ inr (has-after d x k) ] in
            phase-cases (IsKeptAt new j) d j (Applied t x) b (λ u k v e. b) b (λ ts. b) (λ x e. b) b (λ u k v e. b) b
        go Over is a = phase-cases (IsKeptAt new j) d j Over tt (λ u k v e. tt) tt (λ ts. tt) (λ x e. tt) tt (λ u k v e. tt) tt

    -- ---- fates

    rested-mono : (xs ys : List (Stamp × Decided)) → ((y : Stamp) → HasKey y xs → HasKey y ys) → (t : TransId) (f : Fate) → IsRested xs t f → IsRested ys t f
    rested-mono xs ys g t Undrawn r = r
    rested-mono xs ys g t (Running c js) r = r
    rested-mono xs ys g t (Finishing c js vs) r = r
    rested-mono xs ys g t (Committed x js ds) r = (r.0, elim r.1 [ inl b ↦ inl b | inr k ↦ inr (g x k.0, k.1, k.2) ])
    rested-mono xs ys g t (Forgotten x js) r = (r.0, elim r.1 [ inl b ↦ inl b | inr k ↦ inr (g x k.0, k.1, k.2) ])
    rested-mono xs ys g t (Ended c) r = r

    module _ (xs : List (Stamp × Decided)) (t : TransId) where
      begun-rests : (c : ℕ) (f : Fate) → IsRested xs t f → IsRested xs t (begun c f)
      begun-rests c Undrawn r = λ j e. (let wrong : false ≡ true = e in cc)
      begun-rests c (Running k js) r = r
      begun-rests c (Finishing k js vs) r = r
      begun-rests c (Committed x js ds) r = r
      begun-rests c (Forgotten x js) r = r
      begun-rests c (Ended k) r = r

      part-more : (j : JoinNo) (js : List JoinNo) → IsPart j → AreParts js → AreParts (js ++ j ∷ [])
      part-more j js p r k e = elim (or-true (has_join k js) (same_join j k || false) (sym (list_any-append (λ x. same_join x k) js (j ∷ [])) ∙ e)) [
        | inl old ↦ r k old
        | inr new ↦ elim (or-true (same_join j k) false new) [ inl same ↦ subst IsPart (same_join-true j k same) p | inr wrong ↦ (let w : false ≡ true = wrong in cc) ]
      ]

      registered-rests : (j : JoinNo) (f : Fate) → IsPart j → IsRested xs t f → IsRested xs t (registered j f)
      registered-rests j Undrawn p r = r
      registered-rests j (Running c js) p r = go (has_server j.server js)
        where
          go : (b : Bool) → IsRested xs t (cond b (Running c js) (Running c (js ++ j ∷ [])))
          go true = r
          go false = part-more j js p r
      registered-rests j (Finishing c js vs) p r = r
      registered-rests j (Committed x js ds) p r = r
      registered-rests j (Forgotten x js) p r = r
      registered-rests j (Ended c) p r = r

      finishing-rests : (f : Fate) → IsRested xs t f → IsRested xs t (finishing f)
      finishing-rests Undrawn r = r
      finishing-rests (Running c js) r = r
      finishing-rests (Finishing c js vs) r = r
      finishing-rests (Committed x js ds) r = r
      finishing-rests (Forgotten x js) r = r
      finishing-rests (Ended c) r = r

      heard-rests : (j : JoinNo) (ts : ℕ) (f : Fate) → IsRested xs t f → IsRested xs t (heard j ts f)
      heard-rests j ts Undrawn r = r
      heard-rests j ts (Running c js) r = r
      heard-rests j ts (Finishing c js vs) r = r
      heard-rests j ts (Committed x js ds) r = r
      heard-rests j ts (Forgotten x js) r = r
      heard-rests j ts (Ended c) r = r

      ended-rests : (c : _) (f : Fate) → IsRested xs t f → IsRested xs t (ended c f)
      ended-rests c Undrawn r = r
      ended-rests c (Running k js) r = tt
      ended-rests c (Finishing k js vs) r = tt
      ended-rests c (Committed x js ds) r = r
      ended-rests c (Forgotten x js) r = r
      ended-rests c (Ended k) r = tt

      acked-rests : (j : JoinNo) (f : Fate) → IsRested xs t f → IsRested xs t (acknowledged j f)
      acked-rests j Undrawn r = r
      acked-rests j (Running k js) r = r
      acked-rests j (Finishing k js vs) r = r
      acked-rests j (Committed x js ds) r = r
      acked-rests j (Forgotten x js) r = r
      acked-rests j (Ended k) r = r

      forgot-rests : (f : Fate) → IsRested xs t f → IsRested xs t (forgotten f)
      forgot-rests Undrawn r = r
      forgot-rests (Running k js) r = r
      forgot-rests (Finishing k js vs) r = r
      forgot-rests (Committed x js ds) r = go (has_all ds js)
        where
          go : (b : Bool) → IsRested xs t (cond b (Forgotten x js) (Committed x js ds))
          go true = r
          go false = r
      forgot-rests (Forgotten x js) r = r
      forgot-rests (Ended k) r = r

      again-rests : (n : ℕ) (f : Fate) → IsRested xs t f → IsRested xs t (restarted n f)
      again-rests n Undrawn r = r
      again-rests n (Running k js) r = tt
      again-rests n (Finishing k js vs) r = tt
      again-rests n (Committed x js ds) r = r
      again-rests n (Forgotten x js) r = r
      again-rests n (Ended k) r = r

      decided-rests : (x : Stamp) (ks : List JoinNo) (f : Fate) → x.trans ≡ t → HasKey x xs → (o.epoch) ≤ t.epoch → ((c : ℕ) × (vs : List Vote) × (f ≡ Finishing c ks vs)) → IsRested xs t f → IsRested xs t (decided x ks f)
      decided-rests x ks f is k young fin r =
          subst (λ g. IsRested xs t (decided x ks g)) (sym fin.2) (is, inr (k, young, subst (IsRested xs t) fin.2 r))

    fates-after : (d : Deed) → Does s d → (t : TransId) → IsRested (holder_after s.holder d).applied t (fate_after d t (s.fates t))
    fates-after d does t = go d does (rested-mono s.holder.applied (holder_after s.holder d).applied (has-after d) t (s.fates t) (h.fates t))
      where
        one_of : (xs : List (Stamp × Decided)) (u : TransId) (f g : Fate) (b : Bool) → same_trans u t ≡ b → IsRested xs t f → (u ≡ t → IsRested xs t g) → IsRested xs t (cond b g f)
        one_of xs u f g true e r k = k (same_trans-true u t e)
        one_of xs u f g false e r k = r

        go : (d : Deed) → Does s d → IsRested (holder_after s.holder d).applied t (s.fates t) → IsRested (holder_after s.holder d).applied t (fate_after d t (s.fates t))
        go (Begins u c w k) d r = one_of s.holder.applied u (s.fates t) (begun c (s.fates t)) (same_trans u t) refl r (λ e. begun-rests s.holder.applied t c (s.fates t) r)
        go (Registers u j) d r = one_of s.holder.applied u (s.fates t) (registered j (s.fates t)) (same_trans u t) refl r (λ e. registered-rests s.holder.applied t j (s.fates t) d r)
        go (Finishes u) d r = one_of s.holder.applied u (s.fates t) (finishing (s.fates t)) (same_trans u t) refl r (λ e. finishing-rests s.holder.applied t (s.fates t) r)
        go (Hears u j ts) d r = one_of s.holder.applied u (s.fates t) (heard j ts (s.fates t)) (same_trans u t) refl r (λ e. heard-rests s.holder.applied t j ts (s.fates t) r)
        go (Decides x js) d r =
            one_of (commits s.holder x (s.holder.lives x.trans)).applied x.trans (s.fates t) (decided x js (s.fates t)) (same_trans x.trans t) refl r
            (λ e. decided-rests (commits s.holder x (s.holder.lives x.trans)).applied t x js (s.fates t) e (commits-new x d.3.0 d.3.1 d.3.2) (subst (λ (u : TransId). (o.epoch) ≤ u.epoch) e d.1) (d.2.0, d.2.1, ap s.fates (sym e) ∙ d.2.2) r)
        go (Ends u k c) d r = one_of s.holder.applied u (s.fates t) (ended c (s.fates t)) (same_trans u t) refl r (λ e. ended-rests s.holder.applied t c (s.fates t) r)
        go (Acknowledges u j) d r = one_of s.holder.applied u (s.fates t) (acknowledged j (s.fates t)) (same_trans u t) refl r (λ e. acked-rests s.holder.applied t j (s.fates t) r)
        go (Forgets u) d r = one_of s.holder.applied u (s.fates t) (forgotten (s.fates t)) (same_trans u t) refl r (λ e. forgot-rests s.holder.applied t (s.fates t) r)
        go (Restarts epoch clock) d r = again-rests s.holder.applied t epoch (s.fates t) r
        go (Joins j u c w) d r = r
        go (Enters j u c w) d r = r
        go (Quits j u c w) d r = r
        go (Aborts j u c w) d r = r
        go (Grants u c) d r = r
        go (Performs u x) d r = r
        go (Releases u) d r = r
        go (Readies j u ts) d r = r
        go (Applies j x) d r = r

    -- ---- what the applied transactions rest on

    applied-stays : (d : Deed) (j : JoinNo) (x : Stamp) (p : Phase) → p ≡ Applied x.trans x → phase_after d j p ≡ Applied x.trans x
    applied-stays d j x p is =
        subst (λ q. phase_after d j q ≡ Applied x.trans x) (sym is)
        (phase-cases (λ q. q ≡ Applied x.trans x) d j (Applied x.trans x) refl (λ u k v e. refl) refl (λ ts. refl) (λ y e. refl) refl (λ u k v e. refl) refl)

    abbrev AreTied : State → Type 0
    AreTied m = AllByRecursion (λ (y : Stamp × Decided). IsTied m.fates m.phases y.0) m.holder.applied

    tied-mono : (d : Deed) (y : Stamp) → IsTied s.fates s.phases y → IsTied (state_deed s d).fates (state_deed s d).phases y
    tied-mono d y k = elim k [
      | inl a ↦ inl (a.0, a.1, (a.2.0, decision-stays (y, a.2.0) d y.trans (s.fates y.trans) a.2.1))
      | inr a ↦ inr (a.0, applied-stays d a.0 y (s.phases a.0) a.1, a.2)
    ]

    tied-old : (d : Deed) → AllByRecursion (λ (y : Stamp × Decided). IsTied (state_deed s d).fates (state_deed s d).phases y.0) s.holder.applied
    tied-old d = go s.holder.applied h.tied
      where
        go : (xs : List (Stamp × Decided)) → AllByRecursion (λ (y : Stamp × Decided). IsTied s.fates s.phases y.0) xs → AllByRecursion (λ (y : Stamp × Decided). IsTied (state_deed s d).fates (state_deed s d).phases y.0) xs
        go [] a = tt
        go (x ∷ xs) a = (tied-mono d x.0 a.0, go xs a.1)

    put-tied : (P : Stamp → Type 0) (k : Stamp) (v : Decided) (xs : List (Stamp × Decided)) → P k → AllByRecursion (λ (x : Stamp × Decided). P x.0) xs → AllByRecursion (λ (x : Stamp × Decided). P x.0) (put stamp_cmp k v xs)
    put-tied P k v [] a g = (a, tt)
    put-tied P k v (x ∷ xs) a g = go (stamp_cmp k x.0) (put-tied P k v xs a g.1)
      where
        go : (r : Ordering) → AllByRecursion (λ x. P x.0) (put stamp_cmp k v xs) → AllByRecursion (λ x. P x.0) (entries.by_order r ((k, v) ∷ x ∷ xs) ((x.0, v) ∷ xs) (x ∷ put stamp_cmp k v xs))
        go Less rest = (a, g)
        go Equal rest = (g.0, g.1)
        go Greater rest = (g.0, rest)

    commits-tied : (P : Stamp → Type 0) (x : Stamp) (l : Option Life) → ((k : Life) → l ≡ Some k → k.is_early ≡ false → P x) → AllByRecursion (λ (y : Stamp × Decided). P y.0) s.holder.applied
        → AllByRecursion (λ (y : Stamp × Decided). P y.0) (commits s.holder x l).applied
    commits-tied P x None p g = g
    commits-tied P x (Some l) p g = go (l.is_early) refl
      where
        go : (b : Bool) → l.is_early ≡ b → AllByRecursion (λ (y : Stamp × Decided). P y.0) (cond {A = List (Stamp × Decided)} b s.holder.applied (put stamp_cmp x (record { stamp = x; who = l.who; calls = l.calls }) s.holder.applied))
        go true e = g
        go false e = put-tied P x (record { stamp = x; who = l.who; calls = l.calls }) s.holder.applied (p l refl e) g

    tied-after : (d : Deed) → Does s d → AreTied (state_deed s d)
    tied-after (Decides x js) d =
        commits-tied (IsTied (state_deed s (Decides x js)).fates (state_deed s (Decides x js)).phases) x (s.holder.lives x.trans)
        (λ k is e. inl (
          d.0,
          d.1,
          (
            js,
            subst (λ f. decision_in (cond (same_trans x.trans x.trans) (decided x js f) f) ≡ Some (x, js)) (sym d.2.2)
                (ap (λ (b : Bool). decision_in (cond b (Committed x js []) (Finishing d.2.0 js d.2.1))) (same_trans-itself x.trans)),
          ),
        ))
        (tied-old (Decides x js))
    tied-after (Applies j x) d =
        commits-tied (IsTied (state_deed s (Applies j x)).fates (state_deed s (Applies j x)).phases) x (s.holder.lives x.trans)
        (λ k is e. inr (
          j,
          (
              subst (λ p. cond (same_join j j) (part.applied x p) p ≡ Applied x.trans x) (sym d.2)
              (ap (λ (b : Bool). cond b (cond (same_trans x.trans x.trans) (Applied x.trans x) (Ready x.trans d.0 d.1)) (Ready x.trans d.0 d.1)) (same_join-self j)
              ∙ ap (λ (b : Bool). cond b (Applied x.trans x) (Ready x.trans d.0 d.1)) (same_trans-itself x.trans))),
          (let mine = subst (HasPart s.holder.lives j) d.2 (h.parts j) in
              let same : mine.0 ≡ k = some-same mine.0 k (sym mine.1 ∙ is) in
              elim mine.3 [ inl r ↦ absurd (let wrong : false ≡ true = sym e ∙ ap (λ (l : Life). l.is_early) (sym same ∙ r.4) in cc) | inr y ↦ y.1 ]),
        ))
        (tied-old (Applies j x))
    tied-after (Grants t c) d = go (s.holder.lives t)
      where
        go : (l : Option Life) → AllByRecursion (λ (y : Stamp × Decided). IsTied s.fates s.phases y.0) (grants s.holder t c l).applied
        go None = h.tied
        go (Some l) = h.tied
    tied-after (Performs t x) d = go (s.holder.lives t)
      where
        go : (l : Option Life) → AllByRecursion (λ (y : Stamp × Decided). IsTied s.fates s.phases y.0) (performs s.holder t x l).applied
        go None = h.tied
        go (Some l) = h.tied
    tied-after (Readies j t ts) d = go (s.holder.lives t)
      where
        go : (l : Option Life) → AllByRecursion (λ (y : Stamp × Decided). IsTied (state_deed s (Readies j t ts)).fates (state_deed s (Readies j t ts)).phases y.0) (readies s.holder t ts l).applied
        go None = tied-old (Readies j t ts)
        go (Some l) = tied-old (Readies j t ts)
    tied-after (Begins t c w n) d = tied-old (Begins t c w n)
    tied-after (Joins j t c w) d = tied-old (Joins j t c w)
    tied-after (Enters j t c w) d = tied-old (Enters j t c w)
    tied-after (Quits j t c w) d = tied-old (Quits j t c w)
    tied-after (Aborts j t c w) d = tied-old (Aborts j t c w)
    tied-after (Releases t) d = tied-old (Releases t)
    tied-after (Registers t j) d = tied-old (Registers t j)
    tied-after (Finishes t) d = tied-old (Finishes t)
    tied-after (Hears t j ts) d = tied-old (Hears t j ts)
    tied-after (Ends t c w) d = tied-old (Ends t c w)
    tied-after (Acknowledges t j) d = tied-old (Acknowledges t j)
    tied-after (Forgets t) d = tied-old (Forgets t)
    tied-after (Restarts e c) d = tied-old (Restarts e c)

    commits-sorted : (x : Stamp) (l : Option Life) → T (is_sorted stamp_cmp (commits s.holder x l).applied)
    commits-sorted x None = h.sorted
    commits-sorted x (Some l) = go (l.is_early)
      where
        go : (b : Bool) → T (is_sorted stamp_cmp (cond {A = List (Stamp × Decided)} b s.holder.applied (put stamp_cmp x (record { stamp = x; who = l.who; calls = l.calls }) s.holder.applied)))
        go true = h.sorted
        go false = is_sorted-put stamp_cmp stamps_total x (record { stamp = x; who = l.who; calls = l.calls }) s.holder.applied h.sorted

    sorted-after : (d : Deed) → T (is_sorted stamp_cmp (holder_after s.holder d).applied)
    sorted-after (Decides x js) = commits-sorted x (s.holder.lives x.trans)
    sorted-after (Applies j x) = commits-sorted x (s.holder.lives x.trans)
    sorted-after (Grants t c) = go (s.holder.lives t)
      where
        go : (l : Option Life) → T (is_sorted stamp_cmp (grants s.holder t c l).applied)
        go None = h.sorted
        go (Some l) = h.sorted
    sorted-after (Performs t x) = go (s.holder.lives t)
      where
        go : (l : Option Life) → T (is_sorted stamp_cmp (performs s.holder t x l).applied)
        go None = h.sorted
        go (Some l) = h.sorted
    sorted-after (Readies j t ts) = go (s.holder.lives t)
      where
        go : (l : Option Life) → T (is_sorted stamp_cmp (readies s.holder t ts l).applied)
        go None = h.sorted
        go (Some l) = h.sorted
    sorted-after (Begins t c w n) = h.sorted
    sorted-after (Joins j t c w) = h.sorted
    sorted-after (Enters j t c w) = h.sorted
    sorted-after (Quits j t c w) = h.sorted
    sorted-after (Aborts j t c w) = h.sorted
    sorted-after (Releases t) = h.sorted
    sorted-after (Registers t j) = h.sorted
    sorted-after (Finishes t) = h.sorted
    sorted-after (Hears t j ts) = h.sorted
    sorted-after (Ends t c w) = h.sorted
    sorted-after (Acknowledges t j) = h.sorted
    sorted-after (Forgets t) = h.sorted
    sorted-after (Restarts e c) = h.sorted

    -- each deed that does what it needs keeps all of it
    pub linked-after : (d : Deed) → Does s d → IsLinkedUp (state_deed s d)
    linked-after d does = record {
      few = h.few;
      now = now-after d does;
      away = away-after d does;
      parts = parts-after d does;
      one = one-after d does;
      listed = listed-after d;
      apart = (joined-after d does).0;
      drawn = (joined-after d does).1;
      fates = fates-after d does;
      tied = tied-after d does;
      kept = kept-after d does;
      sorted = sorted-after d;
    }

  -- ---- at the opening

  noted-away : (rs : List ReadyNote) → ((r : ReadyNote) → IsIn r rs → r.trans.server ≡ n → ⊥) → (j : JoinNo) → IsAway (phase_noted rs j)
  noted-away [] f j = tt
  noted-away (r ∷ rs) f j = go (same_join r.join j) (noted-away rs (λ q i. f q (inr i)) j)
    where
      go : (b : Bool) → IsAway (phase_noted rs j) → IsAway (cond b (Ready r.trans r.client r.ts) (phase_noted rs j))
      go true rest = f r (inl refl)
      go false rest = rest

  -- the note of a join that is ready at the opening
  pub ready-note : (rs : List ReadyNote) (j : JoinNo) → (IsSeen (phase_noted rs j) ≡ true) → (r : ReadyNote) × IsIn r rs × (r.join ≡ j) × (phase_noted rs j ≡ Ready r.trans r.client r.ts)
  ready-note [] j e = (let wrong : false ≡ true = e in cc)
  ready-note (r ∷ rs) j e = go (same_join r.join j) refl e (λ k. ready-note rs j k)
    where
      go : (b : Bool) → same_join r.join j ≡ b → IsSeen (cond b (Ready r.trans r.client r.ts) (phase_noted rs j)) ≡ true
          → (IsSeen (phase_noted rs j) ≡ true → (q : ReadyNote) × IsIn q rs × (q.join ≡ j) × (phase_noted rs j ≡ Ready q.trans q.client q.ts))
          → (q : ReadyNote) × IsIn q (r ∷ rs) × (q.join ≡ j) × (cond b (Ready r.trans r.client r.ts) (phase_noted rs j) ≡ Ready q.trans q.client q.ts)
      go true is e rest = (r, inl refl, same_join-true r.join j is, refl)
      go false is e rest = (let x = rest e in (x.0, inr x.1, x.2, x.3))

  -- and its life
  noted-life : (rs : List ReadyNote) → AreDistinct rs → (r : ReadyNote) → IsIn r rs → lives_noted rs r.trans ≡ Some (early_life r)
  noted-life [] d r i = absurd i
  noted-life (x ∷ rs) d r (inl e) = ap (λ (b : Bool). cond {A = Option Life} b (Some (early_life x)) (lives_noted rs r.trans)) (ap (λ (y : ReadyNote). same_trans x.trans y.trans) e ∙ same_trans-itself x.trans) ∙ ap (λ (y : ReadyNote). Some (early_life y)) (sym e)
  noted-life (x ∷ rs) d r (inr i) =
      ap (λ (b : Bool). cond {A = Option Life} b (Some (early_life x)) (lives_noted rs r.trans)) (all-in (λ (q : ReadyNote). (same_trans x.trans q.trans ≡ false) × (same_join x.join q.join ≡ false)) rs r d.0 i).0 ∙ noted-life rs d.1 r i

  noted-in : (rs : List ReadyNote) (r : ReadyNote) → IsIn r rs → IsIn r.join (list_map (λ (r : ReadyNote). r.join) rs)
  noted-in [] r i = absurd i
  noted-in (x ∷ rs) r i = elim i [ inl e ↦ inl (ap (λ (y : ReadyNote). y.join) e) | inr k ↦ inr (noted-in rs r k) ]

  noted-apart : (rs : List ReadyNote) → AreDistinct rs → AreApart (list_map (λ (r : ReadyNote). r.join) rs)
  noted-apart [] d = tt
  noted-apart (r ∷ rs) d = (go rs d.0, noted-apart rs d.1)
    where
      go : (qs : List ReadyNote) → AllByRecursion (λ (q : ReadyNote). (same_trans r.trans q.trans ≡ false) × (same_join r.join q.join ≡ false)) qs → AllByRecursion (λ k. r.join ≡ k → ⊥) (list_map (λ (r : ReadyNote). r.join) qs)
      go [] a = tt
      go (q ∷ qs) a = ((λ e. (let wrong : true ≡ false = sym (same_join-self r.join) ∙ ap (same_join r.join) e ∙ a.0.1 in cc)), go qs a.1)

  noted-drawn : (rs : List ReadyNote) → ((r : ReadyNote) → IsIn r rs → r.join.epoch < (o.epoch)) → AllByRecursion (λ j. WasDrawn log proper j (opened o).ids) (list_map (λ (r : ReadyNote). r.join) rs)
  noted-drawn [] f = tt
  noted-drawn (r ∷ rs) f = (inl (f r (inl refl)), noted-drawn rs (λ q i. f q (inr i)))

  noted-rests : (ds : List DecisionNote) → ((d : DecisionNote) → IsIn d ds → IsIn d (o.decisions)) → (t : TransId) → IsRested [] t (fate_noted ds t)
  noted-rests [] f t = tt
  noted-rests (d ∷ ds) f t = go (same_trans d.stamp.trans t) refl (noted-rests ds (λ x i. f x (inr i)) t)
    where
      go : (b : Bool) → same_trans d.stamp.trans t ≡ b → IsRested [] t (fate_noted ds t) → IsRested [] t (cond b (Committed d.stamp d.joins []) (fate_noted ds t))
      go true e rest = (same_trans-true d.stamp.trans t e, inl (d, f d (inl refl), refl, refl))
      go false e rest = rest

  pub linked-opened : IsLinkedUp (opened o)
  linked-opened = record {
    few = (proper.sound n).few;
    now = omega arith;
    away = noted-away (o.ready) (λ r i. ((proper.sound n).ready r i).elsewhere);
    parts = λ j. parts j (phase_noted (o.ready) j) refl;
    one = λ j k t a b. one j k t a b;
    listed = λ j e. (let x = ready-note (o.ready) j e in subst (λ k. IsIn k (list_map (λ (r : ReadyNote). r.join) (o.ready))) x.2 (noted-in (o.ready) x.0 x.1));
    apart = noted-apart (o.ready) (proper.sound n).distinct;
    drawn = noted-drawn (o.ready) (λ r i. ((proper.sound n).ready r i).older);
    fates = noted-rests (o.decisions) (λ d i. i);
    tied = tt;
    kept = λ j. kept j (phase_noted (o.ready) j) refl;
    sorted = tt;
  }
    where
      parts : (j : JoinNo) (p : Phase) → phase_noted (o.ready) j ≡ p → HasPart (lives_noted (o.ready)) j p
      parts j Unseen e = tt
      parts j (Ready t c ts) e =
          let x = ready-note (o.ready) j (ap IsSeen e) in
          let same : Ready (x.0).trans (x.0).client (x.0).ts ≡ Ready t c ts = sym x.3 ∙ e in
          let trans : (x.0).trans ≡ t = cc in
          let time : (x.0).ts ≡ ts = cc in
          (early_life x.0, subst (λ u. lives_noted (o.ready) u ≡ Some (early_life x.0)) trans (noted-life (o.ready) (proper.sound n).distinct x.0 x.1), ap Some time, inl (x.0, x.1, x.2, trans, refl), ap Some x.2)
      parts j (Joining t c w) e = (let x = ready-note (o.ready) j (ap IsSeen e) in let wrong : Ready (x.0).trans (x.0).client (x.0).ts ≡ Joining t c w = sym x.3 ∙ e in cc)
      parts j (Active t c w) e = (let x = ready-note (o.ready) j (ap IsSeen e) in let wrong : Ready (x.0).trans (x.0).client (x.0).ts ≡ Active t c w = sym x.3 ∙ e in cc)
      parts j (Applied t x) e = tt
      parts j Over e = tt

      kept : (j : JoinNo) (p : Phase) → phase_noted (o.ready) j ≡ p → IsKeptAt [] j p
      kept j Unseen e = tt
      kept j (Ready t c ts) e = tt
      kept j (Joining t c w) e = tt
      kept j (Active t c w) e = tt
      kept j (Applied t y) e = (let x = ready-note (o.ready) j (ap IsSeen e) in let wrong : Ready (x.0).trans (x.0).client (x.0).ts ≡ Applied t y = sym x.3 ∙ e in cc)
      kept j Over e = tt

      holding-seen : (t : TransId) (p : Phase) → IsHolding t p → IsSeen p ≡ true
      holding-seen t (Active u c w) a = refl
      holding-seen t (Ready u c w) a = refl
      holding-seen t (Joining u c w) a = absurd a
      holding-seen t Unseen a = absurd a
      holding-seen t (Applied u x) a = absurd a
      holding-seen t Over a = absurd a

      note-join : (r q : ReadyNote) → Some (early_life r) ≡ Some (early_life q) → IsIn r (o.ready) → IsIn q (o.ready) → r.trans ≡ q.trans → r.join ≡ q.join
      note-join r q e i k t = alone (o.ready) (proper.sound n).distinct i k
        where
          alone : (rs : List ReadyNote) → AreDistinct rs → IsIn r rs → IsIn q rs → r.join ≡ q.join
          alone [] d a b = absurd a
          alone (x ∷ rs) d a b = elim a [
            | inl p ↦ elim b [
              | inl w ↦ ap (λ (y : ReadyNote). y.join) (p ∙ sym w)
              | inr w ↦ absurd (let f = (all-in (λ (y : ReadyNote). (same_trans x.trans y.trans ≡ false) × (same_join x.join y.join ≡ false)) rs q d.0 w).0 in
                  let wrong : true ≡ false = sym (same_trans-itself x.trans) ∙ ap (same_trans x.trans) (ap (λ (y : ReadyNote). y.trans) (sym p) ∙ t) ∙ f in cc)
            ]
            | inr p ↦ elim b [
              | inl w ↦ absurd (let f = (all-in (λ (y : ReadyNote). (same_trans x.trans y.trans ≡ false) × (same_join x.join y.join ≡ false)) rs r d.0 p).0 in
                  let wrong : true ≡ false = sym (same_trans-itself x.trans) ∙ ap (same_trans x.trans) (ap (λ (y : ReadyNote). y.trans) (sym w) ∙ sym t) ∙ f in cc)
              | inr w ↦ alone rs d.1 p w
            ]
          ]

      one : (j k : JoinNo) (t : TransId) → IsHolding t (phase_noted (o.ready) j) → IsHolding t (phase_noted (o.ready) k) → j ≡ k
      one j k t a b =
          let x = ready-note (o.ready) j (holding-seen t (phase_noted (o.ready) j) a) in
          let y = ready-note (o.ready) k (holding-seen t (phase_noted (o.ready) k) b) in
          let mine : (x.0).trans ≡ t = subst (IsHolding t) x.3 a in
          let other : (y.0).trans ≡ t = subst (IsHolding t) y.3 b in
          let trans : (x.0).trans ≡ (y.0).trans = mine ∙ sym other in
          let same : Some (early_life x.0) ≡ Some (early_life y.0) =
          sym (noted-life (o.ready) (proper.sound n).distinct x.0 x.1) ∙ ap (lives_noted (o.ready)) trans ∙ noted-life (o.ready) (proper.sound n).distinct y.0 y.1 in
          sym x.2 ∙ note-join x.0 y.0 same x.1 y.1 trans ∙ y.2
