-- a server is quiet as it is opened on notes that agree
use Rattle.std.specs.Prelude.{cond, Bool, true, false, not, ◌&&◌, ◌||◌, ◌==◌, Option, None, Some, map as list_map}
use Rattle.std.specs.List.{AllByRecursion}
use Rattle.std.proofs.lemmas.Bool.{not-true, and_parts, or_left, or_parts}
use Rattle.std.proofs.Common.{inr, ◌≡◌, ℕ, List, [], ◌∷◌, refl, sym, ◌∙◌, ap, subst, le_refl}
use Rattle.alp_base.specs.declared.ids.JoinNo.{JoinNo}
use Rattle.alp_base.specs.declared.ids.TransId.{TransId}
use Rattle.alp_files.proofs.FilesLemmas.{same-some}
use Rattle.alp_journal.specs.Ids.{same_trans, same_join, has_join, is_drawn}
use Rattle.alp_journal.specs.Opening.{ReadyNote, DecisionNote, Start}
use Rattle.alp_journal.specs.Coordinator.{Fate, Undrawn, Committed, is_running, has_votes, fate_noted}
use Rattle.alp_journal.specs.Participant.{Phase, Unseen, Ready, live_in, phase_noted}
use Rattle.alp_journal.specs.Holder.{Life, early_life, lives_noted, holder_opened}
use Rattle.alp_journal.specs.Counts.{locked_noted}
use Rattle.alp_journal.specs.State.{opened}
use Rattle.alp_journal.specs.Laws.{DoLivesAgree, are_joins_apart}
use Rattle.alp_journal.specs.Answered.{is_all_done}
use Rattle.alp_journal.specs.Account.{Account, state_of, IsPaired, HasLife, has_trans, are_trans_apart, is_other, IsFateOf, IsPhaseOf, HasWaits, HasNoCall, Stands, IsQuiet, HasTried}
use Rattle.alp_journal.proofs.IdLemmas.{same_trans-true, same_trans-itself, same_join-true}
use Rattle.alp_journal.proofs.WaitLemmas.{turned, all-both}
use Rattle.alp_journal.proofs.StandLemmas.{same_join-itself, join_turned, none_known, fate_more, phase_more}

-- ---- what notes say

abbrev pub ready_joins : List ReadyNote → List JoinNo
ready_joins ns = list_map (λ (n : ReadyNote). n.join) ns

abbrev pub ready_trans : List ReadyNote → List TransId
ready_trans ns = list_map (λ (n : ReadyNote). n.trans) ns

abbrev pub decided_trans : List DecisionNote → List TransId
decided_trans ns = list_map (λ (n : DecisionNote). n.stamp.trans) ns

-- the join was drawn here in an earlier epoch, for a transaction of another server of the run
abbrev pub IsReadyNote : Start → ReadyNote → Type 0
IsReadyNote o n = (is_drawn o.server o.epoch 0 n.join.server n.join.epoch n.join.counter ≡ true) × (is_other o.servers o.server n.trans.server ≡ true)

-- the transaction was drawn here in an earlier epoch
abbrev pub IsDecisionNote : Start → DecisionNote → Type 0
IsDecisionNote o n = is_drawn o.server o.epoch 0 n.stamp.trans.server n.stamp.trans.epoch n.stamp.trans.counter ≡ true

-- each of its own join and transaction; the locks of the ready parts agree
pub record DoNotesAgree (o : Start) : Type 0 where
  pub agree : DoLivesAgree (lives_noted o.ready)
  pub ready : AllByRecursion (IsReadyNote o) o.ready
  pub joins : are_joins_apart (ready_joins o.ready) ≡ true
  pub trans : are_trans_apart (ready_trans o.ready) ≡ true
  pub decisions : AllByRecursion (IsDecisionNote o) o.decisions
  pub decided : are_trans_apart (decided_trans o.decisions) ≡ true

-- what is known at the opening
abbrev pub opened_on : Start → Account
opened_on o = record {
  servers = o.servers;
  sizes = o.sizes;
  ids = record { epoch = o.epoch; transactions = 0; joins = 0; files = 0 };
  holder = holder_opened o;
  fates = fate_noted o.decisions;
  phases = phase_noted o.ready;
  sessions = λ c. None;
  waits = [];
  dead = λ c t. None;
  locked = locked_noted o.ready;
  begun = list_map (λ (n : DecisionNote). n.stamp.trans) o.decisions;
  joined = list_map (λ (n : ReadyNote). n.join) o.ready;
  is_down = false;
  pending = [];
}

pub opened_is : (o : Start) → state_of (opened_on o) ≡ opened o
opened_is o = refl

-- ---- fates and phases that notes say

fate-as : (P : Fate → Type 0) → P Undrawn → ((n : DecisionNote) → P (Committed n.stamp n.joins [])) → (ns : List DecisionNote) (t : TransId) → P (fate_noted ns t)
fate-as P new decided [] t = new
fate-as P new decided (n ∷ ns) t = go (same_trans n.stamp.trans t) (fate-as P new decided ns t)
  where
    go : (b : Bool) → P (fate_noted ns t) → P (cond {A = Fate} b (Committed n.stamp n.joins []) (fate_noted ns t))
    go true rest = decided n
    go false rest = rest

phase-as : (P : Phase → Type 0) → P Unseen → ((n : ReadyNote) → P (Ready n.trans n.client n.ts)) → (ns : List ReadyNote) (j : JoinNo) → P (phase_noted ns j)
phase-as P new ready [] j = new
phase-as P new ready (n ∷ ns) j = go (same_join n.join j) (phase-as P new ready ns j)
  where
    go : (b : Bool) → P (phase_noted ns j) → P (cond {A = Phase} b (Ready n.trans n.client n.ts) (phase_noted ns j))
    go true rest = ready n
    go false rest = rest

never_done : (n : DecisionNote) → is_all_done (Committed n.stamp n.joins []) ≡ false
never_done n = go n.joins
  where
    go : (js : List JoinNo) → is_all_done (Committed n.stamp js []) ≡ false
    go [] = refl
    go (j ∷ js) = refl

-- ---- each note is found by its join and its transaction

away_joins : (j : JoinNo) (ns : List ReadyNote) → has_join j (ready_joins ns) ≡ false → AllByRecursion (λ (m : ReadyNote). same_join j m.join ≡ false) ns
away_joins j [] e = tt
away_joins j (n ∷ ns) e = (let both = or_parts (same_join n.join j) (has_join j (ready_joins ns)) e in (join_turned j n.join ∙ both.0, away_joins j ns both.1))

away_trans : (t : TransId) (ns : List ReadyNote) → has_trans t (ready_trans ns) ≡ false → AllByRecursion (λ (m : ReadyNote). same_trans t m.trans ≡ false) ns
away_trans t [] e = tt
away_trans t (n ∷ ns) e = (let both = or_parts (same_trans n.trans t) (has_trans t (ready_trans ns)) e in (turned t n.trans ∙ both.0, away_trans t ns both.1))

each_phase : (ns : List ReadyNote) → are_joins_apart (ready_joins ns) ≡ true → AllByRecursion (λ (n : ReadyNote). phase_noted ns n.join ≡ Ready n.trans n.client n.ts) ns
each_phase [] h = tt
each_phase (n ∷ ns) h = (
  ap (λ (b : Bool). cond {A = Phase} b (Ready n.trans n.client n.ts) (phase_noted ns n.join)) (same_join-itself n.join),
  all-both (λ (m : ReadyNote). same_join n.join m.join ≡ false) (λ (m : ReadyNote). phase_noted ns m.join ≡ Ready m.trans m.client m.ts) (λ (m : ReadyNote). phase_noted (n ∷ ns) m.join ≡ Ready m.trans m.client m.ts)
      (λ m away is. ap (λ (b : Bool). cond {A = Phase} b (Ready n.trans n.client n.ts) (phase_noted ns m.join)) away ∙ is) ns
      (away_joins n.join ns (not-true (has_join n.join (ready_joins ns)) (and_parts (not (has_join n.join (ready_joins ns))) (are_joins_apart (ready_joins ns)) h).0))
      (each_phase ns (and_parts (not (has_join n.join (ready_joins ns))) (are_joins_apart (ready_joins ns)) h).1),
)

each_life : (ns : List ReadyNote) → are_trans_apart (ready_trans ns) ≡ true → AllByRecursion (λ (n : ReadyNote). lives_noted ns n.trans ≡ Some (early_life n)) ns
each_life [] h = tt
each_life (n ∷ ns) h = (
  ap (λ (b : Bool). cond {A = Option Life} b (Some (early_life n)) (lives_noted ns n.trans)) (same_trans-itself n.trans),
  all-both (λ (m : ReadyNote). same_trans n.trans m.trans ≡ false) (λ (m : ReadyNote). lives_noted ns m.trans ≡ Some (early_life m)) (λ (m : ReadyNote). lives_noted (n ∷ ns) m.trans ≡ Some (early_life m))
      (λ m away is. ap (λ (b : Bool). cond {A = Option Life} b (Some (early_life n)) (lives_noted ns m.trans)) away ∙ is) ns
      (away_trans n.trans ns (not-true (has_trans n.trans (ready_trans ns)) (and_parts (not (has_trans n.trans (ready_trans ns))) (are_trans_apart (ready_trans ns)) h).0))
      (each_life ns (and_parts (not (has_trans n.trans (ready_trans ns))) (are_trans_apart (ready_trans ns)) h).1),
)

-- ---- the whole

module _ (o : Start) (q : DoNotesAgree o) where
  phases_of : AllByRecursion (λ (n : ReadyNote). phase_noted o.ready n.join ≡ Ready n.trans n.client n.ts) o.ready
  phases_of = each_phase o.ready q.joins

  lives_of : AllByRecursion (λ (n : ReadyNote). lives_noted o.ready n.trans ≡ Some (early_life n)) o.ready
  lives_of = each_life o.ready q.trans

  paired_so : (ns : List ReadyNote) → AllByRecursion (λ (n : ReadyNote). phase_noted o.ready n.join ≡ Ready n.trans n.client n.ts) ns → (t : TransId) (f : Fate) → is_running f ≡ false → IsPaired t (phase_noted o.ready) (lives_noted ns t) f
  paired_so [] h t f over = over
  paired_so (n ∷ ns) h t f over = go (same_trans n.trans t) refl (paired_so ns h.1 t f over)
    where
      go : (b : Bool) → same_trans n.trans t ≡ b → IsPaired t (phase_noted o.ready) (lives_noted ns t) f → IsPaired t (phase_noted o.ready) (cond {A = Option Life} b (Some (early_life n)) (lives_noted ns t)) f
      go true e rest = (inr (n.ts, h.0 ∙ ap (λ (u : TransId). Ready u n.client n.ts) (same_trans-true n.trans t e), refl), over)
      go false e rest = rest

  held_so : (ns : List ReadyNote) → AllByRecursion (λ (n : ReadyNote). lives_noted o.ready n.trans ≡ Some (early_life n)) ns → (j : JoinNo) → HasLife (lives_noted o.ready) j (phase_noted ns j)
  held_so [] h j = tt
  held_so (n ∷ ns) h j = go (same_join n.join j) refl (held_so ns h.1 j)
    where
      go : (b : Bool) → same_join n.join j ≡ b → HasLife (lives_noted o.ready) j (phase_noted ns j) → HasLife (lives_noted o.ready) j (cond {A = Phase} b (Ready n.trans n.client n.ts) (phase_noted ns j))
      go true e rest = (early_life n, h.0, ap (λ (k : JoinNo). Some k) (same_join-true n.join j e))
      go false e rest = rest

  fates_so : (ns : List DecisionNote) → AllByRecursion (IsDecisionNote o) ns → (t : TransId) → IsFateOf o.servers o.server o.epoch 0 (decided_trans ns) t (fate_noted ns t)
  fates_so [] h t = refl
  fates_so (n ∷ ns) h t = go (same_trans n.stamp.trans t) refl (fates_so ns h.1 t)
    where
      go : (b : Bool) → same_trans n.stamp.trans t ≡ b → IsFateOf o.servers o.server o.epoch 0 (decided_trans ns) t (fate_noted ns t) → IsFateOf o.servers o.server o.epoch 0 (decided_trans (n ∷ ns)) t (cond {A = Fate} b (Committed n.stamp n.joins []) (fate_noted ns t))
      go true e rest =
          let one : n.stamp.trans ≡ t = same_trans-true n.stamp.trans t e in
          ((subst (λ (u : TransId). is_drawn o.server o.epoch 0 u.server u.epoch u.counter ≡ true) one h.0, or_left (same_trans n.stamp.trans t) (has_trans t (decided_trans ns)) e), one)
      go false e rest = fate_more o.servers o.server o.epoch 0 0 (decided_trans ns) (decided_trans (n ∷ ns)) t (fate_noted ns t) (le_refl 0) (sym (ap (λ (b : Bool). b || has_trans t (decided_trans ns)) e)) rest

  phases_so : (ns : List ReadyNote) → AllByRecursion (IsReadyNote o) ns → (j : JoinNo) → IsPhaseOf o.servers o.server o.epoch 0 (ready_joins ns) j (phase_noted ns j)
  phases_so [] h j = refl
  phases_so (n ∷ ns) h j = go (same_join n.join j) refl (phases_so ns h.1 j)
    where
      go : (b : Bool) → same_join n.join j ≡ b → IsPhaseOf o.servers o.server o.epoch 0 (ready_joins ns) j (phase_noted ns j) → IsPhaseOf o.servers o.server o.epoch 0 (ready_joins (n ∷ ns)) j (cond {A = Phase} b (Ready n.trans n.client n.ts) (phase_noted ns j))
      go true e rest =
          let one : n.join ≡ j = same_join-true n.join j e in
          ((subst (λ (k : JoinNo). is_drawn o.server o.epoch 0 k.server k.epoch k.counter ≡ true) one h.0.0, or_left (same_join n.join j) (has_join j (ready_joins ns)) e), h.0.1)
      go false e rest = phase_more o.servers o.server o.epoch 0 0 (ready_joins ns) (ready_joins (n ∷ ns)) j (phase_noted ns j) (le_refl 0) (sym (ap (λ (b : Bool). b || has_join j (ready_joins ns)) e)) rest

  -- a live join has the part of its transaction
  life_so : (ns : List ReadyNote) → AllByRecursion (λ (n : ReadyNote). lives_noted o.ready n.trans ≡ Some (early_life n)) ns → (j : JoinNo) (x : TransId × ℕ) → live_in (phase_noted ns j) ≡ Some x → (l : Life) × (lives_noted o.ready x.0 ≡ Some l) × (l.join ≡ Some j)
  life_so [] h j x live = let wrong : None ≡ Some x = live in cc
  life_so (n ∷ ns) h j x live = go (same_join n.join j) refl live (life_so ns h.1 j x)
    where
      go : (b : Bool) → same_join n.join j ≡ b → live_in (cond {A = Phase} b (Ready n.trans n.client n.ts) (phase_noted ns j)) ≡ Some x → (live_in (phase_noted ns j) ≡ Some x → (l : Life) × (lives_noted o.ready x.0 ≡ Some l) × (l.join ≡ Some j))
          → (l : Life) × (lives_noted o.ready x.0 ≡ Some l) × (l.join ≡ Some j)
      go true e is rest =
          let both : ◌≡◌ {A = TransId × ℕ} (n.trans, n.client) x = same-some (n.trans, n.client) x is in
          (early_life n, ap (λ (y : TransId × ℕ). lives_noted o.ready y.0) (sym both) ∙ h.0, ap (λ (k : JoinNo). Some k) (same_join-true n.join j e))
      go false e is rest = rest is

  one_so : (j k : JoinNo) (x : TransId × ℕ) → live_in (phase_noted o.ready j) ≡ Some x → live_in (phase_noted o.ready k) ≡ Some x → j ≡ k
  one_so j k x first second =
      let (l, at, its) = life_so o.ready lives_of j x first in
      let (m, there, mine) = life_so o.ready lives_of k x second in
      same-some j k (sym its ∙ ap (λ (y : Life). y.join) (same-some l m (sym at ∙ there)) ∙ mine)

  pub opened_stands : Stands (opened_on o)
  opened_stands = record {
    agree = q.agree;
    paired = λ t. paired_so o.ready phases_of t (fate_noted o.decisions t) (fate-as (λ f. is_running f ≡ false) refl (λ n. refl) o.decisions t);
    held = λ j. held_so o.ready lives_of j;
    votes = λ t. fate-as (λ f. has_votes f ≡ false) refl (λ n. refl) o.decisions t;
    forgets = λ t. fate-as (λ f. is_all_done f ≡ false) refl never_done o.decisions t;
    fates = λ t. fates_so o.decisions q.decisions t;
    begun = q.decided;
    known = none_known o.server o.epoch (decided_trans o.decisions);
    phases = λ j. phases_so o.ready q.ready j;
    joined = q.joins;
    single = one_so;
    order = le_refl o.clock;
  }

  pub opened_quiet : IsQuiet (opened_on o)
  opened_quiet = record {
    settled = record {
      stands = opened_stands;
      tells = record {
        ended = λ client t c is. (let wrong : None ≡ Some c = is in cc);
        parts = tt;
        others = tt;
        came = tt;
        apart = tt;
        joining = λ j. phase-as (HasWaits []) tt (λ n. tt) o.ready j;
        finishing = λ t. fate-as (HasNoCall [] t) tt (λ n. tt) o.decisions t;
      };
    };
    turns = tt;
    tried = HasTried.nothing refl;
  }
