-- What a deed of a tick or a message leaves of a transaction and of a join.
use Rattle.std.specs.Prelude.{Bool, true, false, cond, ◌||◌, flat_map, Option, None, Some}
use Rattle.std.specs.List.{list_any, AllByRecursion}
use Rattle.std.proofs.Common.{◌≡◌, ℕ, List, [], ◌∷◌, ◌++◌, refl, sym, ◌∙◌, ap, subst, inl, inr}
use Rattle.std.proofs.lemmas.List.Folds.{list_any-append}
use Rattle.alp_base.specs.declared.ids.JoinNo.{JoinNo}
use Rattle.alp_base.specs.declared.ids.Stamp.{Stamp}
use Rattle.alp_base.specs.declared.ids.TransId.{TransId}
use Rattle.alp_files.specs.declared.refusal.Cause.{Cause}
use Rattle.alp_journal.specs.Coordinator.{Fate, Vote, Undrawn, Running, Finishing, Committed, Forgotten, Ended, registered, heard, decided, ended, acknowledged, has_all, forgotten, fate_after, is_running, voted, with_vote}
use Rattle.alp_journal.specs.Deeds.{Deed, Begins, Joins, Enters, Quits, Aborts, Grants, Performs, Releases, Readies, Applies, Registers, Finishes, Hears, Decides, Ends, Acknowledges, Forgets, Restarts}
use Rattle.alp_journal.specs.Ids.{same_trans, same_join, has_join}
use Rattle.alp_journal.specs.Participant.{Phase, Unseen, Joining, Active, Ready, Applied, Over, entered, readied, applied, quit, aborted, phase_after, live_in, open_in}
use Rattle.alp_course.specs.Opens.{is_unasked}

-- no deed of a tick or a message: nothing begins, joins or is asked to finish, and nothing starts again
abbrev pub IsStill : Deed → Type 0
IsStill (Begins t client who seen) = ⊥
IsStill (Joins j t client who) = ⊥
IsStill (Finishes t) = ⊥
IsStill (Restarts epoch clock) = ⊥
IsStill d = Unit {0}

either : {X : Type 0} (P : X → Type 0) (b : Bool) (x y : X) → P x → P y → P (cond b x y)
either P true x y h k = h
either P false x y h k = k

never : {P : Type 0} → true ≡ false → P
never wrong = absurd (let no : true ≡ false = wrong in cc)

-- ---- a transaction

module _ (P : Fate → Type 0) (t : TransId) (f : Fate) (same : P f) (registers : (j : JoinNo) → P (registered j f)) (hears : (j : JoinNo) (ts : ℕ) → P (heard j ts f))
    (decides : (x : Stamp) (js : List JoinNo) → P (decided x js f)) (ends : (c : Cause) → P (ended c f)) (does : (j : JoinNo) → P (acknowledged j f)) (forgets : P (forgotten f)) where
  fate_still : (d : Deed) → IsStill d → P (fate_after d t f)
  fate_still (Begins u client who seen) still = absurd still
  fate_still (Joins j u client who) still = absurd still
  fate_still (Finishes u) still = absurd still
  fate_still (Restarts epoch clock) still = absurd still
  fate_still (Registers u j) still = either P (same_trans u t) (registered j f) f (registers j) same
  fate_still (Hears u j ts) still = either P (same_trans u t) (heard j ts f) f (hears j ts) same
  fate_still (Decides x js) still = either P (same_trans x.trans t) (decided x js f) f (decides x js) same
  fate_still (Ends u client c) still = either P (same_trans u t) (ended c f) f (ends c) same
  fate_still (Acknowledges u j) still = either P (same_trans u t) (acknowledged j f) f (does j) same
  fate_still (Forgets u) still = either P (same_trans u t) (forgotten f) f forgets same
  fate_still (Enters j u client who) still = same
  fate_still (Quits j u client c) still = same
  fate_still (Aborts j u client c) still = same
  fate_still (Grants u c) still = same
  fate_still (Performs u x) still = same
  fate_still (Releases u) still = same
  fate_still (Readies j u ts) still = same
  fate_still (Applies j x) still = same

-- of one that does not run
module _ (P : Fate → Type 0) (t : TransId) where
  -- where it is finishing
  finishing_still : (client : ℕ) (js : List JoinNo) (vs : List Vote) → P (Finishing client js vs) → ((j : JoinNo) (ts : ℕ) → P (Finishing client js (with_vote j ts vs))) → ((x : Stamp) (ks : List JoinNo) → P (Committed x ks []))
      → ((c : Cause) → P (Ended c)) → (d : Deed) → IsStill d → P (fate_after d t (Finishing client js vs))
  finishing_still client js vs same hears decides ends = fate_still P t (Finishing client js vs) same (λ j. same) hears decides ends (λ j. same) same

  -- where it was committed
  committed_still : (x : Stamp) (js ds : List JoinNo) → P (Committed x js ds) → ((j : JoinNo) → P (Committed x js (j ∷ ds))) → P (Forgotten x js) → (d : Deed) → IsStill d → P (fate_after d t (Committed x js ds))
  committed_still x js ds same does forgets = fate_still P t (Committed x js ds) same (λ j. same) (λ j ts. same) (λ y ks. same) (λ c. same) does (either P (has_all ds js) (Forgotten x js) (Committed x js ds) forgets same)

  undrawn_still : P Undrawn → (d : Deed) → IsStill d → P (fate_after d t Undrawn)
  undrawn_still same = fate_still P t Undrawn same (λ j. same) (λ j ts. same) (λ y ks. same) (λ c. same) (λ j. same) same

  forgotten_still : (x : Stamp) (js : List JoinNo) → P (Forgotten x js) → (d : Deed) → IsStill d → P (fate_after d t (Forgotten x js))
  forgotten_still x js same = fate_still P t (Forgotten x js) same (λ j. same) (λ j ts. same) (λ y ks. same) (λ c. same) (λ j. same) same

  ended_still : (c : Cause) → P (Ended c) → (d : Deed) → IsStill d → P (fate_after d t (Ended c))
  ended_still c same = fate_still P t (Ended c) same (λ j. same) (λ j ts. same) (λ y ks. same) (λ c. same) (λ j. same) same

-- that somebody asked to finish stays so
pub unasked_still : (d : Deed) (t : TransId) (f : Fate) → IsStill d → is_unasked f ≡ false → is_unasked (fate_after d t f) ≡ false
unasked_still d t Undrawn still h = undrawn_still (λ g. is_unasked g ≡ false) t refl d still
unasked_still d t (Running client js) still h = never h
unasked_still d t (Finishing client js vs) still h = finishing_still (λ g. is_unasked g ≡ false) t client js vs refl (λ j ts. refl) (λ x ks. refl) (λ c. refl) d still
unasked_still d t (Committed x js ds) still h = committed_still (λ g. is_unasked g ≡ false) t x js ds refl (λ j. refl) refl d still
unasked_still d t (Forgotten x js) still h = forgotten_still (λ g. is_unasked g ≡ false) t x js refl d still
unasked_still d t (Ended c) still h = ended_still (λ g. is_unasked g ≡ false) t c refl d still

-- and that does not run
pub over_still : (d : Deed) (t : TransId) (f : Fate) → IsStill d → is_running f ≡ false → is_running (fate_after d t f) ≡ false
over_still d t Undrawn still h = undrawn_still (λ g. is_running g ≡ false) t refl d still
over_still d t (Running client js) still h = never h
over_still d t (Finishing client js vs) still h = never h
over_still d t (Committed x js ds) still h = committed_still (λ g. is_running g ≡ false) t x js ds refl (λ j. refl) refl d still
over_still d t (Forgotten x js) still h = forgotten_still (λ g. is_running g ≡ false) t x js refl d still
over_still d t (Ended c) still h = ended_still (λ g. is_running g ≡ false) t c refl d still

-- as long as it is finishing it has these joins
abbrev pub HasThese : List JoinNo → Fate → Type 0
HasThese ks (Running client js) = ⊥
HasThese ks (Finishing client js vs) = js ≡ ks
HasThese ks f = Unit {0}

pub these_still : (ks : List JoinNo) (d : Deed) (t : TransId) (f : Fate) → IsStill d → HasThese ks f → HasThese ks (fate_after d t f)
these_still ks d t Undrawn still h = undrawn_still (HasThese ks) t tt d still
these_still ks d t (Running client js) still h = absurd h
these_still ks d t (Finishing client js vs) still h = finishing_still (HasThese ks) t client js vs h (λ j ts. h) (λ x ls. tt) (λ c. tt) d still
these_still ks d t (Committed x js ds) still h = committed_still (HasThese ks) t x js ds tt (λ j. tt) tt d still
these_still ks d t (Forgotten x js) still h = forgotten_still (HasThese ks) t x js tt d still
these_still ks d t (Ended c) still h = ended_still (HasThese ks) t c tt d still

-- and the vote of this join
abbrev pub IsHeardBy : JoinNo → Fate → Type 0
IsHeardBy k (Running client js) = ⊥
IsHeardBy k (Finishing client js vs) = voted k vs ≡ true
IsHeardBy k f = Unit {0}

pub more_voted : (k j : JoinNo) (ts : ℕ) (vs : List Vote) → voted k vs ≡ true → voted k (with_vote j ts vs) ≡ true
more_voted k j ts vs h = either (λ (ws : List Vote). voted k ws ≡ true) (voted j vs) vs (vs ++ (j, ts) ∷ []) h (list_any-append (λ (v : Vote). same_join v.0 k) vs ((j, ts) ∷ []) ∙ ap (λ (b : Bool). b || voted k ((j, ts) ∷ [])) h)

pub heard_still : (k : JoinNo) (d : Deed) (t : TransId) (f : Fate) → IsStill d → IsHeardBy k f → IsHeardBy k (fate_after d t f)
heard_still k d t Undrawn still h = undrawn_still (IsHeardBy k) t tt d still
heard_still k d t (Running client js) still h = absurd h
heard_still k d t (Finishing client js vs) still h = finishing_still (IsHeardBy k) t client js vs h (λ j ts. more_voted k j ts vs h) (λ x ls. tt) (λ c. tt) d still
heard_still k d t (Committed x js ds) still h = committed_still (IsHeardBy k) t x js ds tt (λ j. tt) tt d still
heard_still k d t (Forgotten x js) still h = forgotten_still (IsHeardBy k) t x js tt d still
heard_still k d t (Ended c) still h = ended_still (IsHeardBy k) t c tt d still

-- as long as its decision stands this join has done it
abbrev pub IsDoneBy : JoinNo → Fate → Type 0
IsDoneBy k (Running client js) = ⊥
IsDoneBy k (Finishing client js vs) = ⊥
IsDoneBy k (Committed x js ds) = has_join k ds ≡ true
IsDoneBy k f = Unit {0}

or_true : (a b : Bool) → b ≡ true → (a || b) ≡ true
or_true true b h = refl
or_true false b h = h

pub done_still : (k : JoinNo) (d : Deed) (t : TransId) (f : Fate) → IsStill d → IsDoneBy k f → IsDoneBy k (fate_after d t f)
done_still k d t Undrawn still h = undrawn_still (IsDoneBy k) t tt d still
done_still k d t (Running client js) still h = absurd h
done_still k d t (Finishing client js vs) still h = absurd h
done_still k d t (Committed x js ds) still h = committed_still (IsDoneBy k) t x js ds h (λ j. or_true (same_join j k) (has_join k ds) h) tt d still
done_still k d t (Forgotten x js) still h = forgotten_still (IsDoneBy k) t x js tt d still
done_still k d t (Ended c) still h = ended_still (IsDoneBy k) t c tt d still

-- it stands as long as it is not forgotten
abbrev pub WasDecided : Stamp → List JoinNo → Fate → Type 0
WasDecided y ks (Committed x js ds) = (x ≡ y) × (js ≡ ks)
WasDecided y ks (Forgotten x js) = (x ≡ y) × (js ≡ ks)
WasDecided y ks f = ⊥

pub decided_still : (y : Stamp) (ks : List JoinNo) (d : Deed) (t : TransId) (f : Fate) → IsStill d → WasDecided y ks f → WasDecided y ks (fate_after d t f)
decided_still y ks d t Undrawn still h = absurd h
decided_still y ks d t (Running client js) still h = absurd h
decided_still y ks d t (Finishing client js vs) still h = absurd h
decided_still y ks d t (Committed x js ds) still h = committed_still (WasDecided y ks) t x js ds h (λ j. h) h d still
decided_still y ks d t (Forgotten x js) still h = forgotten_still (WasDecided y ks) t x js h d still
decided_still y ks d t (Ended c) still h = absurd h

-- what was not committed and does not run is never committed
abbrev pub IsUncommitted : Fate → Type 0
IsUncommitted (Running client js) = ⊥
IsUncommitted (Finishing client js vs) = ⊥
IsUncommitted (Committed x js ds) = ⊥
IsUncommitted f = Unit {0}

pub uncommitted_still : (d : Deed) (t : TransId) (f : Fate) → IsStill d → IsUncommitted f → IsUncommitted (fate_after d t f)
uncommitted_still d t Undrawn still h = undrawn_still IsUncommitted t tt d still
uncommitted_still d t (Running client js) still h = absurd h
uncommitted_still d t (Finishing client js vs) still h = absurd h
uncommitted_still d t (Committed x js ds) still h = absurd h
uncommitted_still d t (Forgotten x js) still h = forgotten_still IsUncommitted t x js tt d still
uncommitted_still d t (Ended c) still h = ended_still IsUncommitted t c tt d still

-- ---- a join

module _ (P : Phase → Type 0) (j : JoinNo) (p : Phase) (same : P p) (enters : P (entered p)) (readies : (ts : ℕ) → P (readied ts p)) (applies : (x : Stamp) → P (applied x p)) (quits : P (quit p)) (aborts : (t : TransId) → P (aborted t p)) where
  phase_still : (d : Deed) → IsStill d → P (phase_after d j p)
  phase_still (Begins u client who seen) still = absurd still
  phase_still (Joins k u client who) still = absurd still
  phase_still (Finishes u) still = absurd still
  phase_still (Restarts epoch clock) still = absurd still
  phase_still (Enters k u client who) still = either P (same_join k j) (entered p) p enters same
  phase_still (Readies k u ts) still = either P (same_join k j) (readied ts p) p (readies ts) same
  phase_still (Applies k x) still = either P (same_join k j) (applied x p) p (applies x) same
  phase_still (Quits k u client c) still = either P (same_join k j) (quit p) p quits same
  phase_still (Aborts k u client c) still = either P (same_join k j) (aborted u p) p (aborts u) same
  phase_still (Registers u k) still = same
  phase_still (Hears u k ts) still = same
  phase_still (Decides x js) still = same
  phase_still (Ends u client c) still = same
  phase_still (Acknowledges u k) still = same
  phase_still (Forgets u) still = same
  phase_still (Grants u c) still = same
  phase_still (Performs u x) still = same
  phase_still (Releases u) still = same

-- a ready join stays so or is over
module _ (P : Phase → Type 0) (j : JoinNo) (t : TransId) (client ts : ℕ) (same : P (Ready t client ts)) (applies : (x : Stamp) → P (Applied t x)) (over : P Over) where
  ready_still : (d : Deed) → IsStill d → P (phase_after d j (Ready t client ts))
  ready_still =
      phase_still P j (Ready t client ts) same same (λ n. same) (λ x. either P (same_trans x.trans t) (Applied t x) (Ready t client ts) (applies x) same) same
      (λ u. either P (same_trans u t) Over (Ready t client ts) over same)

none_is : {A P : Type 0} (x : A) → Some x ≡ None → P
none_is x wrong = absurd (let no : Some x ≡ None = wrong in cc)

pub open_still : (d : Deed) (j : JoinNo) (p : Phase) → IsStill d → open_in p ≡ None → open_in (phase_after d j p) ≡ None
open_still d j Unseen still h = phase_still (λ q. open_in q ≡ None) j Unseen refl refl (λ n. refl) (λ x. refl) refl (λ u. refl) d still
open_still d j (Joining t client who) still h = none_is (t, client) h
open_still d j (Active t client who) still h = none_is (t, client) h
open_still d j (Ready t client ts) still h = ready_still (λ q. open_in q ≡ None) j t client ts refl (λ x. refl) refl d still
open_still d j (Applied t y) still h = phase_still (λ q. open_in q ≡ None) j (Applied t y) refl refl (λ n. refl) (λ x. refl) refl (λ u. refl) d still
open_still d j Over still h = phase_still (λ q. open_in q ≡ None) j Over refl refl (λ n. refl) (λ x. refl) refl (λ u. refl) d still

pub live_still : (d : Deed) (j : JoinNo) (p : Phase) → IsStill d → live_in p ≡ None → live_in (phase_after d j p) ≡ None
live_still d j Unseen still h = phase_still (λ q. live_in q ≡ None) j Unseen refl refl (λ n. refl) (λ x. refl) refl (λ u. refl) d still
live_still d j (Joining t client who) still h = none_is (t, client) h
live_still d j (Active t client who) still h = none_is (t, client) h
live_still d j (Ready t client ts) still h = none_is (t, client) h
live_still d j (Applied t y) still h = phase_still (λ q. live_in q ≡ None) j (Applied t y) refl refl (λ n. refl) (λ x. refl) refl (λ u. refl) d still
live_still d j Over still h = phase_still (λ q. live_in q ≡ None) j Over refl refl (λ n. refl) (λ x. refl) refl (λ u. refl) d still

-- as long as the join is live it is ready for this transaction
abbrev pub IsReadyFor : TransId → Phase → Type 0
IsReadyFor u (Joining t client who) = ⊥
IsReadyFor u (Active t client who) = ⊥
IsReadyFor u (Ready t client ts) = t ≡ u
IsReadyFor u p = Unit {0}

pub for_still : (u : TransId) (d : Deed) (j : JoinNo) (p : Phase) → IsStill d → IsReadyFor u p → IsReadyFor u (phase_after d j p)
for_still u d j Unseen still h = phase_still (IsReadyFor u) j Unseen tt tt (λ n. tt) (λ x. tt) tt (λ v. tt) d still
for_still u d j (Joining t client who) still h = absurd h
for_still u d j (Active t client who) still h = absurd h
for_still u d j (Ready t client ts) still h = ready_still (IsReadyFor u) j t client ts h (λ x. tt) tt d still
for_still u d j (Applied t y) still h = phase_still (IsReadyFor u) j (Applied t y) tt tt (λ n. tt) (λ x. tt) tt (λ v. tt) d still
for_still u d j Over still h = phase_still (IsReadyFor u) j Over tt tt (λ n. tt) (λ x. tt) tt (λ v. tt) d still
