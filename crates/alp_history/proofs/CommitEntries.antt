-- what else stands in an entry that commits a part, and what performs a call
use Rattle.std.specs.Prelude.{Bool, true, false, cond, ◌||◌, filter, Option, None, Some}
use Rattle.std.specs.List.{list_any, AllByRecursion}
use Rattle.std.proofs.Common.{◌≡◌, ℕ, zero, suc, ◌≤◌, length, slice_get, arith, List, [], ◌∷◌, ◌++◌, flat_map, refl, sym, ap, subst, ◌∙◌, ◌⊎◌, inl, inr}
use Rattle.std.proofs.lemmas.Bool.{or_parts}
use Rattle.alp_base.specs.declared.ids.JoinNo.{JoinNo}
use Rattle.alp_base.specs.declared.ids.TransId.{TransId}
use Rattle.alp_base.specs.declared.ids.Stamp.{Stamp}
use Rattle.alp_files.specs.declared.call.Call.{Call}
use Rattle.alp_files.specs.declared.call.Call.TheVariants as call
use Rattle.alp_files.specs.declared.reply.Reply.{Reply}
use Rattle.alp_files.specs.Passing.{is_passing}
use Rattle.alp_journal.specs.declared.act.Act.{Act}
use Rattle.alp_journal.specs.declared.act.Act.TheVariants as act
use Rattle.alp_journal.specs.declared.event.Event.{Event}
use Rattle.alp_journal.specs.declared.event.Event.TheVariants as event
use Rattle.alp_journal.specs.declared.message.Message.TheVariants as msg
use Rattle.alp_journal.specs.declared.entry.Entry.{Entry}
use Rattle.alp_journal.specs.Along.{Along, Where}
use Rattle.alp_journal.specs.Deeds.{Deed, Begins, Enters, Grants, Performs, Releases, Readies, Applies, Registers, Decides, Forgets, Restarts}
use Rattle.alp_journal.specs.Desk.{file_trans}
use Rattle.alp_journal.specs.State.{State, state_deed}
use Rattle.alp_journal.specs.Moves.{is_effective, resolved, is_stop, stops, tried, told, halted, next, is_new, asks_for, grants_to, begins_at, act_deeds, answered, is_of_no_file, done_by, done_of, done_deeds}
use Rattle.alp_journal.specs.Laws.{DecidesAt, Regains, StartsRight, LetsGo, ReleasesEnded, WaitsInTurn, regained_by}
use Rattle.alp_history.specs.Log.{Log, journal_of, state_at, IsIn}
use Rattle.alp_history.specs.Theorems.{IsProper}
use Rattle.alp_history.proofs.Places.{past-end}
use Rattle.alp_history.proofs.Logs.{lawful-at, state-suc}
use Rattle.alp_history.proofs.Agreed.{size}
use Rattle.alp_journal.proofs.IdLemmas.{all-append}
use Rattle.alp_history.proofs.Rights.{IsRightDeed, IsRightEntry, DeedsAreRight}
use Rattle.alp_journal.proofs.Origins.{IsEventFrom, all-cond, all-flat}
use Rattle.alp_history.proofs.Entries.{is_open, effective-open}
use Rattle.alp_history.proofs.LifeMoves.{IsCommit}

-- ---- lists of deeds

pub all-from : {A : Type 0} (P : A → Type 0) (xs : List A) → ((x : A) → IsIn x xs → P x) → AllByRecursion P xs
all-from P [] f = tt
all-from P (x ∷ xs) f = (f x (inl refl), all-from P xs (λ y i. f y (inr i)))

pub along-in : (law : State → Deed → Type 0) (ds : List Deed) (s : State) (d : Deed) → Along state_deed law s ds → IsIn d ds → (m : State) × law m d
along-in law [] s d h i = absurd i
along-in law (x ∷ ds) s d h (inl same) = (s, subst (law s) (sym same) h.0)
along-in law (x ∷ ds) s d h (inr more) = along-in law ds (state_deed s x) d h.1 more

pub filter-in : (p : Deed → Bool) (ds : List Deed) (d : Deed) → IsIn d (filter p ds) → IsIn d ds × (p d ≡ true)
filter-in p [] d i = absurd i
filter-in p (x ∷ ds) d i = go (p x) refl i (filter-in p ds d)
  where
    go : (b : Bool) → p x ≡ b → IsIn d (cond b (x ∷ filter p ds) (filter p ds)) → (IsIn d (filter p ds) → IsIn d ds × (p d ≡ true)) → IsIn d (x ∷ ds) × (p d ≡ true)
    go true e k rest = elim k [ inl same ↦ (inl same, ap p same ∙ e) | inr more ↦ (let r = rest more in (inr r.0, r.1)) ]
    go false e k rest = let r = rest k in (inr r.0, r.1)

pub append-in : {A : Type 0} (xs ys : List A) (x : A) → IsIn x (xs ++ ys) → IsIn x xs ⊎ IsIn x ys
append-in [] ys x i = inr i
append-in (y ∷ xs) ys x i = elim i [ inl e ↦ inl (inl e) | inr m ↦ elim (append-in xs ys x m) [ inl a ↦ inl (inr a) | inr b ↦ inr b ] ]

-- ---- what performs, begins or lets in

abbrev pub IsPerforming : Deed → Type 0
IsPerforming (Performs t x) = Unit {0}
IsPerforming d = ⊥

abbrev pub NotPerforming : Deed → Type 0
NotPerforming (Performs t x) = ⊥
NotPerforming d = Unit {0}

-- no part comes to live by it
abbrev pub NotReviving : Deed → Type 0
NotReviving (Begins t c w n) = ⊥
NotReviving (Enters j t c w) = ⊥
NotReviving d = Unit {0}

abbrev pub NotVoting : Deed → Type 0
NotVoting (Readies j t ts) = ⊥
NotVoting d = Unit {0}

pub event-performs-not : (s : State) (e : Event) (d : Deed) → IsEventFrom s e d → NotPerforming d
event-performs-not s e (Performs t x) h = h
event-performs-not s e d h = tt

pub open-performs-not : (d : Deed) → is_open d ≡ true → NotPerforming d
open-performs-not (Performs t x) h = cc
open-performs-not d h = tt

module _ (s : State) where
  done-by-performs : (c : Call) (r : Reply) (t : Option TransId) → AllByRecursion IsPerforming (done_by s c r t)
  done-by-performs c r None = tt
  done-by-performs c r (Some t) = all-cond IsPerforming (is_passing r || is_of_no_file s c r) [] (Performs t (record { call = c; reply = r }) ∷ []) tt (tt, tt)

  done-of-performs : (r : Reply) (c : Option Call) → AllByRecursion IsPerforming (done_of s r c)
  done-of-performs r None = tt
  done-of-performs r (Some c) = done-by-performs c r (file_trans c)

  pub done-performs : (e : Event) (r : Option Reply) → AllByRecursion IsPerforming (done_deeds s e r)
  done-performs (event.Call client epoch number c) (Some r) = all-cond IsPerforming (is_new s client epoch number) (done_of s r (answered s client c)) [] (done-of-performs r (answered s client c)) tt
  done-performs (event.Call client epoch number c) None = tt
  done-performs (event.Arrive from m) r = tt
  done-performs (event.Timeout t) r = tt
  done-performs event.Tick r = tt
  done-performs event.Force r = tt
  done-performs event.Restart r = tt

  -- what an act brings about, but a restart's
  pub grants-all : (P : Deed → Type 0) → ((t : TransId) (c : Call) → P (Grants t c)) → (t : TransId) (c : Option Call) → AllByRecursion P (grants_to t c)
  grants-all P g t None = tt
  grants-all P g t (Some c) = (g t c, tt)

  begins-performs-not : (e : Event) (t : TransId) → AllByRecursion NotPerforming (begins_at s e t)
  begins-performs-not (event.Call client epoch number (call.Begin seen)) t = (tt, tt)
  begins-performs-not (event.Call client epoch number c) t = tt
  begins-performs-not e t = tt

  restart-performs-not : (ready : List JoinNo) (clock : ℕ) (stamps : List Stamp) → AllByRecursion NotPerforming (resolved s ready clock stamps)
  restart-performs-not ready clock stamps =
      all-from NotPerforming (resolved s ready clock stamps) (λ d i. open-performs-not d (effective-open ready clock stamps d (filter-in (is_effective ready clock stamps) s.pending d i).1))

  act-performs-not : (e : Event) (a : Act) → AllByRecursion NotPerforming (act_deeds s e a)
  act-performs-not e (act.Granted t) = grants-all NotPerforming (λ u c. tt) t (asks_for s e t (s.holder.lives t))
  act-performs-not e (act.Drawn t) = begins-performs-not e t
  act-performs-not e (act.Registered t j) = (tt, tt)
  act-performs-not e (act.Readied t j ts) = (tt, tt)
  act-performs-not e (act.Decided x js) = (tt, tt)
  act-performs-not e (act.Applied j x) = (tt, tt)
  act-performs-not e (act.Released t) = (tt, tt)
  act-performs-not e (act.Forgot t) = (tt, tt)
  act-performs-not e (act.Regained epoch clock ready stamps) = all-append NotPerforming (resolved s ready clock stamps) (Restarts epoch clock ∷ []) (restart-performs-not ready clock stamps) (tt, tt)
  act-performs-not e (act.Sent to m) = tt
  act-performs-not e act.Stopped = tt
  act-performs-not e act.Failed = tt

  -- a call is performed behind all acts
  pub acts-perform-not : (e : Event) (acts : List Act) → AllByRecursion NotPerforming (flat_map (act_deeds s e) acts)
  acts-perform-not e acts = all-flat NotPerforming (act_deeds s e) acts (act-performs-not e)

-- no part begins by an act
abbrev pub BeginsNone : Event → Type 0
BeginsNone e = (s : State) (t : TransId) → begins_at s e t ≡ []

-- what an act brings about there, if it is no restart's
abbrev pub IsOfAct : Deed → Type 0
IsOfAct (Grants t c) = Unit {0}
IsOfAct (Registers t j) = Unit {0}
IsOfAct (Readies j t ts) = Unit {0}
IsOfAct (Decides x js) = Unit {0}
IsOfAct (Applies j x) = Unit {0}
IsOfAct (Releases t) = Unit {0}
IsOfAct (Forgets t) = Unit {0}
IsOfAct d = ⊥

pub act-revives-not : (d : Deed) → IsOfAct d → NotReviving d
act-revives-not (Begins t c w n) h = h
act-revives-not (Enters j t c w) h = h
act-revives-not d h = tt

module _ (s : State) (e : Event) (none : BeginsNone e) where
  of-act : (a : Act) → regained_by a ≡ false → AllByRecursion IsOfAct (act_deeds s e a)
  of-act (act.Granted t) h = grants-all s IsOfAct (λ u c. tt) t (asks_for s e t (s.holder.lives t))
  of-act (act.Drawn t) h = subst (AllByRecursion IsOfAct) (sym (none s t)) tt
  of-act (act.Registered t j) h = (tt, tt)
  of-act (act.Readied t j ts) h = (tt, tt)
  of-act (act.Decided x js) h = (tt, tt)
  of-act (act.Applied j x) h = (tt, tt)
  of-act (act.Released t) h = (tt, tt)
  of-act (act.Forgot t) h = (tt, tt)
  of-act (act.Regained epoch clock ready xs) h = cc
  of-act (act.Sent to m) h = tt
  of-act act.Stopped h = tt
  of-act act.Failed h = tt

  pub of-acts : (acts : List Act) → list_any regained_by acts ≡ false → AllByRecursion IsOfAct (flat_map (act_deeds s e) acts)
  of-acts [] h = tt
  of-acts (a ∷ acts) h =
      let parts = or_parts (regained_by a) (list_any regained_by acts) h in
      all-append IsOfAct (act_deeds s e a) (flat_map (act_deeds s e) acts) (of-act a parts.0) (of-acts acts parts.1)

pub performs-revives-not : (d : Deed) → IsPerforming d → NotReviving d
performs-revives-not (Performs t x) h = tt
performs-revives-not d h = absurd h

-- ---- a commit comes by a Finish, a vote or the word of the coordinator

decides-begins-none : (t : TransId) (e : Event) → DecidesAt t e → BeginsNone e
decides-begins-none t (event.Call client epoch number (call.Finish u b)) h s v = refl
decides-begins-none t (event.Arrive from m) h s v = refl
decides-begins-none t (event.Timeout u) h s v = refl
decides-begins-none t event.Tick h s v = refl
decides-begins-none t event.Force h s v = refl
decides-begins-none t event.Restart h s v = refl
decides-begins-none t (event.Call client epoch number c) h s v = absurd h

pub commit-begins-none : (e : Event) (m : State) (x : Stamp) (d : Deed) → IsCommit x d → IsRightDeed e m d → BeginsNone e
commit-begins-none e m x d (inl k) law = decides-begins-none x.trans e (subst (IsRightDeed e m) k.1 law).decision.asked
commit-begins-none e m x d (inr k) law = let a = (subst (IsRightDeed e m) k.1 law).application in subst BeginsNone (sym a.told) (λ s t. refl)

-- nothing votes in an entry that commits
asks-decides : (from : ℕ) (t u : TransId) (j : JoinNo) (e : Event) → e ≡ event.Arrive from (msg.Ask u j) → DecidesAt t e → ⊥
asks-decides from t u j e same h = subst (DecidesAt t) same h

pub commit-votes-not : (e : Event) (m n : State) (x : Stamp) (d f : Deed) → IsCommit x d → IsRightDeed e m d → IsRightDeed e n f → NotVoting f
commit-votes-not e m n x d (Readies j t ts) c law vote = elim c [
  | inl k ↦ asks-decides vote.vote.from x.trans t j e vote.vote.asked (subst (IsRightDeed e m) k.1 law).decision.asked
  | inr k ↦ (
      let a = (subst (IsRightDeed e m) k.1 law).application in
      let same : event.Arrive vote.vote.from (msg.Ask t j) ≡ event.Arrive a.from (msg.Commit x.trans k.0 x) = sym vote.vote.asked ∙ a.told in
      cc
      )
]
commit-votes-not e m n x d f c law vote = tt

-- ---- a restart

-- its one act is what it finds
pub record IsRegained (acts : List Act) : Type 0 where
  pub epoch : ℕ
  pub clock : ℕ
  pub ready : List JoinNo
  pub stamps : List Stamp
  pub is : acts ≡ act.Regained epoch clock ready stamps ∷ []

pub regained : (s : State) (acts : List Act) → Regains s acts → IsRegained acts
regained s (act.Regained epoch clock ready stamps ∷ []) h = record { epoch = epoch; clock = clock; ready = ready; stamps = stamps; is = refl }
regained s acts h = absurd h

-- so it does not stop
regained-goes : (acts : List Act) → IsRegained acts → list_any is_stop acts ≡ false
regained-goes acts h = ap (list_any is_stop) h.is

-- the laws on the deeds of an entry that is no restart
pub plain-deeds : (s : State) (e : Entry) → IsRightEntry s e → (e.event ≡ event.Restart → ⊥) → Along state_deed (IsRightDeed e.event) s (tried s e)
plain-deeds s e law plain = go e.event refl law.deeds
  where
    go : (x : Event) → e.event ≡ x → DeedsAreRight s e x → Along state_deed (IsRightDeed x) s (tried s e)
    go event.Restart is h = absurd (plain is)
    go (event.Call client epoch number c) is h = h
    go (event.Arrive from m) is h = h
    go (event.Timeout t) is h = h
    go event.Tick is h = h
    go event.Force is h = h

-- what starts right and stops is no restart
pub stops-plain : (s : State) (e : Entry) → IsRightEntry s e → stops e ≡ true → e.event ≡ event.Restart → ⊥
stops-plain s e law stopped is =
    let starts : StartsRight s e event.Restart = subst (StartsRight s e) is law.restart in
    let wrong : true ≡ false = sym stopped ∙ regained-goes e.acts (regained s e.acts starts.0) in
    cc

-- what does not regain anything is no restart, and the other way round
pub plain-calm : (s : State) (e : Entry) → IsRightEntry s e → (e.event ≡ event.Restart → ⊥) → list_any regained_by e.acts ≡ false
plain-calm s e law plain = go e.event refl law.restart
  where
    go : (x : Event) → e.event ≡ x → StartsRight s e x → list_any regained_by e.acts ≡ false
    go event.Restart is h = absurd (plain is)
    go (event.Call client epoch number c) is h = h.0
    go (event.Arrive from m) is h = h.0
    go (event.Timeout t) is h = h.0
    go event.Tick is h = h.0
    go event.Force is h = h.0

pub plain-released : (s : State) (e : Entry) → IsRightEntry s e → (e.event ≡ event.Restart → ⊥) → stops e ≡ false → ReleasesEnded s e
plain-released s e law plain goes = go e.event refl law.released
  where
    by : Where (stops e) (Unit {0}) (ReleasesEnded s e × WaitsInTurn (next s e)) → ReleasesEnded s e
    by h = (subst (λ b. Where b (Unit {0}) (ReleasesEnded s e × WaitsInTurn (next s e))) goes h).0

    go : (x : Event) → e.event ≡ x → LetsGo s e x → ReleasesEnded s e
    go event.Restart is h = absurd (plain is)
    go (event.Call client epoch number c) is h = by h
    go (event.Arrive from m) is h = by h
    go (event.Timeout t) is h = by h
    go event.Tick is h = by h
    go event.Force is h = by h

pub restart-or : (e : Event) → (e ≡ event.Restart) ⊎ (e ≡ event.Restart → ⊥)
restart-or event.Restart = inl refl
restart-or (event.Call client epoch number c) = inr (λ h. cc)
restart-or (event.Arrive from m) = inr (λ h. cc)
restart-or (event.Timeout t) = inr (λ h. cc)
restart-or event.Tick = inr (λ h. cc)
restart-or event.Force = inr (λ h. cc)

module _ (log : Log) (proper : IsProper log) where
  -- where what is pending comes from
  pub record IsPendingOf (n i : ℕ) : Type 0 where
    pub place : ℕ
    pub entry : Entry
    pub next_one : i ≡ suc place
    pub stands : slice_get (journal_of log n) place ≡ Some entry
    pub stopped : stops entry ≡ true
    pub leaves : state_at log n i ≡ halted (state_at log n place) entry
    pub plain : entry.event ≡ event.Restart → ⊥
    pub law : Along state_deed (IsRightDeed entry.event) (state_at log n place) (tried (state_at log n place) entry)

  pub pending-of : (n i : ℕ) → i ≤ size log proper n → ((state_at log n i).pending ≡ []) ⊎ IsPendingOf n i
  pending-of n zero le = inl refl
  pending-of n (suc p) le = found (slice_get (journal_of log n) p) refl
    where
      found : (o : Option Entry) → slice_get (journal_of log n) p ≡ o → ((state_at log n (suc p)).pending ≡ []) ⊎ IsPendingOf n (suc p)
      found None at = absurd (let l : length (journal_of log n) ≤ p = past-end (journal_of log n) p at in let m : suc p ≤ size log proper n = le in omega (arith, l, m))
      found (Some e) at = go (stops e) refl
        where
          is : state_at log n (suc p) ≡ next (state_at log n p) e
          is = state-suc log proper.lawful proper.linked n p e at

          law : IsRightEntry (state_at log n p) e
          law = lawful-at log proper.lawful proper.linked n p e at

          go : (b : Bool) → stops e ≡ b → ((state_at log n (suc p)).pending ≡ []) ⊎ IsPendingOf n (suc p)
          go false k = inl (ap (λ (z : State). z.pending) (is ∙ ap (λ b. cond b (halted (state_at log n p) e) (told (state_at log n p) e)) k))
          go true k = inr (record {
            place = p;
            entry = e;
            next_one = refl;
            stands = at;
            stopped = k;
            leaves = is ∙ ap (λ b. cond b (halted (state_at log n p) e) (told (state_at log n p) e)) k;
            plain = stops-plain (state_at log n p) e law k;
            law = plain-deeds (state_at log n p) e law (stops-plain (state_at log n p) e law k);
          })
