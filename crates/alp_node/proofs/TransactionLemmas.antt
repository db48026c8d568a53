-- what a server keeps of the transactions that began there, as they begin, end and are decided, and how many count
use Rattle.std.specs.Prelude.{cond, Bool, true, false, not, ◌==◌, ◌&&◌, ◌||◌, filter, Option, None, Some, is_some, map as list_map}
use Rattle.std.specs.List.{list_any, AllByRecursion}
use Rattle.std.specs.List.Sorted.{IsStrictlySortedBy}
use Rattle.std.specs.declared.cmp.Ordering.{Ordering}
use Rattle.std.specs.declared.cmp.Ordering.TheVariants.{Less, Equal, Greater}
use Rattle.std.specs.Ordering.{is_lt, eq_by_cmp}
use Rattle.std.specs.FinMap as map
use Rattle.std.specs.FinMap.{contains_key-keys, entries_sorted, len-entries}
use Rattle.std.specs.FinMap.Entries.{below_all}
use Rattle.std.proofs.Math.Dec.{T}
use Rattle.std.proofs.Common.{◌≡◌, ℕ, suc, ◌+◌, ◌-◌, ◌≤◌, List, [], ◌∷◌, ◌++◌, length, refl, sym, ◌∙◌, ap, subst, arith, eq-eqb}
use Rattle.std.proofs.lemmas.Bool.{and_parts}
use Rattle.alp_base.specs.declared.ids.JoinNo.{JoinNo}
use Rattle.alp_base.specs.declared.ids.Stamp.{Stamp}
use Rattle.alp_base.specs.declared.ids.TransId.{TransId}
use Rattle.alp_base.specs.Orders.{trans_cmp}
use Rattle.alp_files.specs.declared.refusal.Cause.{Cause}
use Rattle.alp_journal.specs.Along.{Where}
use Rattle.alp_journal.specs.Ids.{same_trans, is_drawn}
use Rattle.alp_journal.specs.Deeds.{Deed, Begins, Finishes, Decides, Ends}
use Rattle.alp_journal.specs.Coordinator.{Fate, Undrawn, Running, Finishing, Committed, Forgotten, Ended, client_of, decision_in, joins_of, fate_after}
use Rattle.alp_journal.specs.Coordinator as fate
use Rattle.alp_journal.specs.Answers.{is_counted}
use Rattle.alp_journal.specs.Account.{Account, Stands, IsFateOf as IsToldFate, are_trans_apart}
use Rattle.alp_journal.proofs.IdLemmas.{same_trans-itself, same_trans-true}
use Rattle.alp_journal.proofs.StandLemmas.{own_server}
use Rattle.alp_coord.specs.declared.begun.Settled.{Settled}
use Rattle.alp_coord.specs.declared.begun.Settled.TheVariants as settled
use Rattle.alp_coord.specs.declared.coordinator.Coordinator.{Coordinator}
use Rattle.alp_coord.specs.declared.course.Course.{Course}
use Rattle.alp_coord.specs.declared.course.Stage.{Stage}
use Rattle.alp_coord.specs.declared.course.Stage.TheVariants as stage
use Rattle.alp_coord.specs.Begun.{fate_settled}
use Rattle.alp_coord.specs.Courses.{fate_at, is_standing}
use Rattle.alp_coord.specs.Coordinators.{IsOf, IsAlong, Comes, Keeps, server_of, epoch_of, count_of, last_id, next_id, settled_in, course_in, fate_known, fate_in, open_ids, counted_of}
use Rattle.alp_coord.specs.Likeness.{IsLike, same, finishing, committed, is_over, IsLikeOld, standing, nothing, IsFateOf}
use Rattle.alp_coord.specs.Ticks.{has_trans, AreAll, AreOnce}
use Rattle.alp_coord.proofs.FateLemmas.{IsPlaced, settled_placed, early_open, fate_by, none_by, next_fate}
use Rattle.alp_coord.proofs.LikeLemmas.{like-after, like-joins}
use Rattle.alp_coord.proofs.MapLemmas.{tied_same}
use Rattle.alp_coord.proofs.TickLemmas.{says_all}
use Rattle.alp_coord.proofs.TieLemmas.{is_plain, known-after, known-counted}
use Rattle.alp_node.specs.Transactions.{IsCoordinatorBy, IsCoordinatorOf, AreDecidedBy}

-- ---- of each transaction what the journal says

-- a deed by which none begins or is forgotten
pub known_moved : (epoch : ℕ) (d : Deed) (before after : Coordinator) (fates : TransId → Fate) → is_plain d ≡ true → Comes d before after → ((t : TransId) → IsFateOf epoch t (fate_in before t) (fates t))
    → (t : TransId) → IsFateOf epoch t (fate_in after t) (fate_after d t (fates t))
known_moved epoch d before after fates plain comes h t =
    known-after epoch d t (fate_in before t) (fate_in after t) (fates t) plain (h t)
    (subst (λ (f : Fate). IsLike f (fate_after d t (fate_in before t))) (sym (comes t)) (same (fate_after d t (fate_in before t))))

-- one of this epoch begins
pub known_begun : (epoch : ℕ) (u : TransId) (client seen : ℕ) (who : List ℕ) (before after : Coordinator) (fates : TransId → Fate) → u.epoch ≡ epoch → Comes (Begins u client who seen) before after
    → ((t : TransId) → IsFateOf epoch t (fate_in before t) (fates t)) → (t : TransId) → IsFateOf epoch t (fate_in after t) (cond {A = Fate} (same_trans u t) (fate.begun client (fates t)) (fates t))
known_begun epoch u client seen who before after fates now comes h t =
    subst (λ (f : Fate). IsFateOf epoch t f (cond {A = Fate} (same_trans u t) (fate.begun client (fates t)) (fates t))) (sym (comes t)) (go (same_trans u t) refl)
  where
    go : (b : Bool) → same_trans u t ≡ b → IsFateOf epoch t (cond {A = Fate} b (fate.begun client (fate_in before t)) (fate_in before t)) (cond {A = Fate} b (fate.begun client (fates t)) (fates t))
    go false e = h t
    go true e =
        let this : (t.epoch == epoch) ≡ true = eq-eqb t.epoch epoch (ap (λ (v : TransId). v.epoch) (sym (same_trans-true u t e)) ∙ now) in
        let like : IsLike (fate_in before t) (fates t) = subst (λ (b : Bool). Where b (IsLike (fate_in before t) (fates t)) (IsLikeOld (fate_in before t) (fates t))) this (h t) in
        let later : IsLike (fate.begun client (fate_in before t)) (fate.begun client (fates t)) =
        subst (λ (b : Bool). IsLike (cond {A = Fate} b (fate.begun client (fate_in before t)) (fate_in before t)) (cond {A = Fate} b (fate.begun client (fates t)) (fates t))) e
        (like-after (Begins u client who seen) t (fate_in before t) (fates t) like) in
        subst (λ (b : Bool). Where b (IsLike (fate.begun client (fate_in before t)) (fate.begun client (fates t))) (IsLikeOld (fate.begun client (fate_in before t)) (fate.begun client (fates t)))) (sym this) later

-- where nothing came about
pub known_kept : (epoch : ℕ) (before after : Coordinator) (fates : TransId → Fate) → Keeps before after → ((t : TransId) → IsFateOf epoch t (fate_in before t) (fates t)) → (t : TransId) → IsFateOf epoch t (fate_in after t) (fates t)
known_kept epoch before after fates keeps h t = subst (λ (f : Fate). IsFateOf epoch t f (fates t)) (sym (keeps t)) (h t)

-- the joins of one that is not over
known_joins : (epoch : ℕ) (t : TransId) (known told : Fate) → is_over told ≡ false → IsFateOf epoch t known told → joins_of known ≡ joins_of told
known_joins epoch t known told on h = go (t.epoch == epoch) h
  where
    old : (f g : Fate) → is_over g ≡ false → IsLikeOld f g → joins_of f ≡ joins_of g
    old _ _ on (standing stamp j js ds es h) = refl
    old _ _ on (nothing f over) = let wrong : true ≡ false = sym over ∙ on in cc

    go : (b : Bool) → Where b (IsLike known told) (IsLikeOld known told) → joins_of known ≡ joins_of told
    go true k = like-joins known told k
    go false k = old known told on k

known_undrawn : (epoch : ℕ) (t : TransId) (known told : Fate) → told ≡ Undrawn → IsFateOf epoch t known told → known ≡ Undrawn
known_undrawn epoch t known told is h = go (t.epoch == epoch) h
  where
    now : (f g : Fate) → g ≡ Undrawn → IsLike f g → f ≡ Undrawn
    now f g is (same x) = is
    now _ _ is (finishing client js vs ws k) = let wrong : Finishing client js ws ≡ Undrawn = is in cc
    now _ _ is (committed stamp js ds es k) = let wrong : Committed stamp js es ≡ Undrawn = is in cc

    old : (f g : Fate) → g ≡ Undrawn → IsLikeOld f g → f ≡ Undrawn
    old _ _ is (standing stamp j js ds es k) = let wrong : Committed stamp (j ∷ js) es ≡ Undrawn = is in cc
    old _ _ is (nothing f over) = refl

    go : (b : Bool) → Where b (IsLike known told) (IsLikeOld known told) → known ≡ Undrawn
    go true k = now known told is k
    go false k = old known told is k

-- one that runs without joins is decided at once
module _ (epoch : ℕ) (t : TransId) (client time : ℕ) (before mid after : Coordinator) (fates : TransId → Fate) (runs : fates t ≡ Running client []) (h : (u : TransId) → IsFateOf epoch u (fate_in before u) (fates u))
    (first : Comes (Finishes t) before mid) where
  abbrev finished : TransId → Fate
  finished u = fate_after (Finishes t) u (fates u)

  known_finished : (u : TransId) → IsFateOf epoch u (fate_in mid u) (finished u)
  known_finished = known_moved epoch (Finishes t) before mid fates refl first h

  finishing_now : finished t ≡ Finishing client [] []
  finishing_now = ap (λ (b : Bool). cond {A = Fate} b (fate.finishing (fates t)) (fates t)) (same_trans-itself t) ∙ ap fate.finishing runs

  alone : joins_of (fate_in mid t) ≡ []
  alone = known_joins epoch t (fate_in mid t) (finished t) (ap is_over finishing_now) (known_finished t) ∙ ap joins_of finishing_now

  pub known_decided : Comes (Decides (record { ts = time; trans = t }) (joins_of (fate_in mid t))) mid after
      → (u : TransId) → IsFateOf epoch u (fate_in after u) (cond {A = Fate} (same_trans t u) (fate.decided (record { ts = time; trans = t }) [] (fate.finishing (fates u))) (fates u))
  known_decided second u =
      subst (λ (f : Fate). IsFateOf epoch u (fate_in after u) f) (twice (same_trans t u))
      (known_moved epoch (Decides (record { ts = time; trans = t }) []) mid after finished refl (subst (λ (js : List JoinNo). Comes (Decides (record { ts = time; trans = t }) js) mid after) alone second) known_finished u)
    where
      twice : (b : Bool) → cond {A = Fate} b (fate.decided (record { ts = time; trans = t }) [] (cond {A = Fate} b (fate.finishing (fates u)) (fates u))) (cond {A = Fate} b (fate.finishing (fates u)) (fates u))
          ≡ cond {A = Fate} b (fate.decided (record { ts = time; trans = t }) [] (fate.finishing (fates u))) (fates u)
      twice true = refl
      twice false = refl

-- ---- the coordinator of a journal

pub run_along : (server epoch count : ℕ) (before after : Coordinator) → IsOf server epoch count before → IsAlong before after → IsOf server epoch count after
run_along server epoch count before after run along = record {
  server_same = along.server_same ∙ run.server_same;
  epoch_same = along.epoch_same ∙ run.epoch_same;
  count_same = along.count_same ∙ run.count_same;
}

-- one that ends
pub ended_by : (server epoch count : ℕ) (fates : TransId → Fate) (t : TransId) (cause : Cause) (before after : Coordinator) → IsAlong before after → ((client : ℕ) → Comes (Ends t client cause) before after) → IsCoordinatorBy server epoch count fates before
    → IsCoordinatorBy server epoch count (λ (u : TransId). cond {A = Fate} (same_trans t u) (fate.ended cause (fates u)) (fates u)) after
ended_by server epoch count fates t cause before after along ends h = record {
  run = run_along server epoch count before after h.run along;
  fates = known_moved epoch (Ends t 0 cause) before after fates refl (ends 0) h.fates;
}

-- where it was taken back all is as before
pub kept_by : (server epoch count : ℕ) (fates : TransId → Fate) (before after : Coordinator) → IsAlong before after → Keeps before after → IsCoordinatorBy server epoch count fates before → IsCoordinatorBy server epoch count fates after
kept_by server epoch count fates before after along keeps h = record {
  run = run_along server epoch count before after h.run along;
  fates = known_kept epoch before after fates keeps h.fates;
}

-- the next id is the journal's
pub next_told : (server epoch count : ℕ) (fates : TransId → Fate) (c : Coordinator) → IsCoordinatorBy server epoch count fates c → record { server = server; epoch = epoch; counter = count + 1 } ≡ next_id c
next_told server epoch count fates c h = λ i. record { server = sym h.run.server_same i; epoch = sym h.run.epoch_same i; counter = sym h.run.count_same i + 1 }

-- ---- whose they are

-- what is settled is nobody's
settled_client : (t : TransId) (x : Option Settled) → client_of (fate_settled t x) ≡ None
settled_client t None = refl
settled_client t (Some settled.Open) = refl
settled_client t (Some (settled.Committed ts)) = refl
settled_client t (Some (settled.Forgotten ts ms)) = refl
settled_client t (Some (settled.Ended c)) = refl

-- one that runs, or is finishing, began in this epoch
pub runs_placed : (c : Coordinator) (t : TransId) (n : ℕ) → client_of (fate_in c t) ≡ Some n → IsPlaced c t
runs_placed c t n is = go (course_in c t) refl is
  where
    go : (x : Option Course) → course_in c t ≡ x → client_of (fate_known t x (settled_in c t)) ≡ Some n → IsPlaced c t
    go None e i = let wrong : None ≡ Some n = sym (settled_client t (settled_in c t)) ∙ i in cc
    go (Some course) e i = at course.stage refl i
      where
        at : (x : Stage) → course.stage ≡ x → client_of (fate_at t x course.client course.members) ≡ Some n → IsPlaced c t
        at stage.Running s j = settled_placed c t settled.Open (early_open c t course e (ap (λ (y : Stage). is_standing y course.members) s))
        at stage.Finishing s j = settled_placed c t settled.Open (early_open c t course e (ap (λ (y : Stage). is_standing y course.members) s))
        at (stage.Decided ts) s j = let wrong : None ≡ Some n = j in cc

-- none is decided as one begins
pub times_begun : (clock later client seen : ℕ) (who : List ℕ) (u : TransId) (before after : Coordinator) → clock ≤ later → Comes (Begins u client who seen) before after → AreDecidedBy clock before → AreDecidedBy later after
times_begun clock later client seen who u before after le comes times t stamp js is = go (same_trans u t) (ap decision_in (sym (comes t)) ∙ is)
  where
    begins : (f : Fate) → decision_in (fate.begun client f) ≡ Some (stamp, js) → decision_in f ≡ Some (stamp, js)
    begins Undrawn e = let wrong : None ≡ Some (stamp, js) = e in cc
    begins (Running c ks) e = e
    begins (Finishing c ks vs) e = e
    begins (Committed s ks ds) e = e
    begins (Forgotten s ks) e = e
    begins (Ended c) e = e

    go : (b : Bool) → decision_in (cond {A = Fate} b (fate.begun client (fate_in before t)) (fate_in before t)) ≡ Some (stamp, js) → stamp.ts ≤ later
    go true e = (let low : stamp.ts ≤ clock = times t stamp js (begins (fate_in before t) e) in omega (arith, low, le))
    go false e = (let low : stamp.ts ≤ clock = times t stamp js e in omega (arith, low, le))

-- it was taken back at once
pub taken_back : (client : ℕ) (before begun after : Coordinator) → IsOf (server_of before) (epoch_of before) (count_of before + 1) begun → ((who : List ℕ) (seen : ℕ) → Comes (Begins (next_id before) client who seen) before begun)
    → IsOf (server_of begun) (epoch_of begun) (count_of begun - 1) after → ((t : TransId) → fate_in after t ≡ cond {A = Fate} (same_trans (last_id begun) t) Undrawn (fate_in begun t)) → IsAlong before after × Keeps before after
taken_back client before begun after one comes run taken = (
  record { server_same = run.server_same ∙ one.server_same; epoch_same = run.epoch_same ∙ one.epoch_same; count_same = omega (arith, run.count_same, one.count_same) },
  λ t. taken t ∙ ap (λ (v : TransId). cond {A = Fate} (same_trans v t) Undrawn (fate_in begun t)) last_is ∙ ap (cond {A = Fate} (same_trans (next_id before) t) Undrawn) (comes [] 0 t) ∙ go t (same_trans (next_id before) t) refl,
)
  where
    last_is : last_id begun ≡ next_id before
    last_is = λ i. record { server = one.server_same i; epoch = one.epoch_same i; counter = one.count_same i }

    go : (t : TransId) (b : Bool) → same_trans (next_id before) t ≡ b → cond {A = Fate} b Undrawn (cond {A = Fate} b (fate.begun client (fate_in before t)) (fate_in before t)) ≡ fate_in before t
    go t true e = sym (ap (fate_in before) (sym (same_trans-true (next_id before) t e)) ∙ next_fate before)
    go t false e = refl

-- ---- one that is over

-- the coordinator goes on, the transaction runs no more, the others stand, none counts that did not, and none was decided later than
-- the clock is then
pub record LetsGo (before after : Coordinator) (t : TransId) (clock : ℕ) : Type 0 where
  pub along : IsAlong before after
  pub gone : client_of (fate_in after t) ≡ None
  pub others : (u : TransId) → same_trans t u ≡ false → fate_in after u ≡ fate_in before u
  pub counts : (u : TransId) → is_counted (fate_in after u) ≡ true → is_counted (fate_in before u) ≡ true
  pub times : AreDecidedBy clock after

-- it ended
pub lets_end : (before after : Coordinator) (t : TransId) (cause : Cause) (clock : ℕ) → IsAlong before after → ((client : ℕ) → Comes (Ends t client cause) before after) → AreDecidedBy clock before → LetsGo before after t clock
lets_end before after t cause clock along ends times = record {
  along = along;
  gone = ap client_of (ends 0 t) ∙ ap (λ (b : Bool). client_of (cond {A = Fate} b (fate.ended cause (fate_in before t)) (fate_in before t))) (same_trans-itself t) ∙ nobody (fate_in before t);
  others = λ u away. ends 0 u ∙ ap (λ (b : Bool). cond {A = Fate} b (fate.ended cause (fate_in before u)) (fate_in before u)) away;
  counts = λ u here. did_count (same_trans t u) (fate_in before u) (sym (ap is_counted (ends 0 u)) ∙ here);
  times = λ u stamp js is. times u stamp js (undecided u stamp js (same_trans t u) (ap decision_in (sym (ends 0 u)) ∙ is));
}
  where
    nobody : (f : Fate) → client_of (fate.ended cause f) ≡ None
    nobody Undrawn = refl
    nobody (Running c ks) = refl
    nobody (Finishing c ks vs) = refl
    nobody (Committed s ks ds) = refl
    nobody (Forgotten s ks) = refl
    nobody (Ended c) = refl

    end_counts : (f : Fate) → is_counted (fate.ended cause f) ≡ true → is_counted f ≡ true
    end_counts Undrawn e = e
    end_counts (Running c ks) e = refl
    end_counts (Finishing c ks vs) e = refl
    end_counts (Committed s ks ds) e = e
    end_counts (Forgotten s ks) e = e
    end_counts (Ended c) e = e

    did_count : (b : Bool) (f : Fate) → is_counted (cond {A = Fate} b (fate.ended cause f) f) ≡ true → is_counted f ≡ true
    did_count true f e = end_counts f e
    did_count false f e = e

    none : (stamp : Stamp) (js : List JoinNo) (f : Fate) → decision_in (fate.ended cause f) ≡ Some (stamp, js) → decision_in f ≡ Some (stamp, js)
    none stamp js Undrawn e = e
    none stamp js (Running c ks) e = let wrong : None ≡ Some (stamp, js) = e in cc
    none stamp js (Finishing c ks vs) e = let wrong : None ≡ Some (stamp, js) = e in cc
    none stamp js (Committed s ks ds) e = e
    none stamp js (Forgotten s ks) e = e
    none stamp js (Ended c) e = e

    undecided : (u : TransId) (stamp : Stamp) (js : List JoinNo) (b : Bool) → decision_in (cond {A = Fate} b (fate.ended cause (fate_in before u)) (fate_in before u)) ≡ Some (stamp, js) → decision_in (fate_in before u) ≡ Some (stamp, js)
    undecided u stamp js true e = none stamp js (fate_in before u) e
    undecided u stamp js false e = e

-- it was decided at that time
pub lets_decide : (before mid after : Coordinator) (t : TransId) (ks : List JoinNo) (clock time : ℕ) → IsAlong before mid → Comes (Finishes t) before mid → IsAlong mid after → Comes (Decides (record { ts = time; trans = t }) ks) mid after → clock ≤ time
    → AreDecidedBy clock before → LetsGo before after t time
lets_decide before mid after t ks clock time first finishes second decides le times = record {
  along = run_along (server_of before) (epoch_of before) (count_of before) mid after first second;
  gone = ap client_of (both t) ∙ ap (λ (b : Bool). client_of (cond {A = Fate} b (fate.decided s ks (fate.finishing (fate_in before t))) (fate_in before t))) (same_trans-itself t) ∙ nobody (fate_in before t);
  others = λ u away. both u ∙ ap (λ (b : Bool). cond {A = Fate} b (fate.decided s ks (fate.finishing (fate_in before u))) (fate_in before u)) away;
  counts = λ u here. did_count (same_trans t u) (fate_in before u) (sym (ap is_counted (both u)) ∙ here);
  times = λ u stamp js is. low u stamp js (same_trans t u) (ap decision_in (sym (both u)) ∙ is);
}
  where
    s : Stamp
    s = record { ts = time; trans = t }

    twice : (b : Bool) (f : Fate) → cond {A = Fate} b (fate.decided s ks (cond {A = Fate} b (fate.finishing f) f)) (cond {A = Fate} b (fate.finishing f) f) ≡ cond {A = Fate} b (fate.decided s ks (fate.finishing f)) f
    twice true f = refl
    twice false f = refl

    both : (u : TransId) → fate_in after u ≡ cond {A = Fate} (same_trans t u) (fate.decided s ks (fate.finishing (fate_in before u))) (fate_in before u)
    both u = decides u ∙ ap (λ (f : Fate). cond {A = Fate} (same_trans t u) (fate.decided s ks f) f) (finishes u) ∙ twice (same_trans t u) (fate_in before u)

    nobody : (f : Fate) → client_of (fate.decided s ks (fate.finishing f)) ≡ None
    nobody Undrawn = refl
    nobody (Running c js) = refl
    nobody (Finishing c js vs) = refl
    nobody (Committed x js ds) = refl
    nobody (Forgotten x js) = refl
    nobody (Ended c) = refl

    decided_counts : (f : Fate) → is_counted (fate.decided s ks (fate.finishing f)) ≡ true → is_counted f ≡ true
    decided_counts Undrawn e = e
    decided_counts (Running c js) e = refl
    decided_counts (Finishing c js vs) e = refl
    decided_counts (Committed x js ds) e = e
    decided_counts (Forgotten x js) e = e
    decided_counts (Ended c) e = e

    did_count : (b : Bool) (f : Fate) → is_counted (cond {A = Fate} b (fate.decided s ks (fate.finishing f)) f) ≡ true → is_counted f ≡ true
    did_count true f e = decided_counts f e
    did_count false f e = e

    time_in : Option (Stamp × List JoinNo) → ℕ
    time_in None = 0
    time_in (Some x) = x.0.ts

    at : (stamp : Stamp) (js : List JoinNo) (f : Fate) → (decision_in f ≡ Some (stamp, js) → stamp.ts ≤ clock) → decision_in (fate.decided s ks (fate.finishing f)) ≡ Some (stamp, js) → stamp.ts ≤ time
    at stamp js Undrawn old e = let wrong : None ≡ Some (stamp, js) = e in cc
    at stamp js (Running c ls) old e = (let same_time : time ≡ stamp.ts = ap time_in e in omega (arith, same_time))
    at stamp js (Finishing c ls vs) old e = (let same_time : time ≡ stamp.ts = ap time_in e in omega (arith, same_time))
    at stamp js (Committed x ls ds) old e = (let before_that : stamp.ts ≤ clock = old e in omega (arith, before_that, le))
    at stamp js (Forgotten x ls) old e = (let before_that : stamp.ts ≤ clock = old e in omega (arith, before_that, le))
    at stamp js (Ended c) old e = let wrong : None ≡ Some (stamp, js) = e in cc

    low : (u : TransId) (stamp : Stamp) (js : List JoinNo) (b : Bool) → decision_in (cond {A = Fate} b (fate.decided s ks (fate.finishing (fate_in before u))) (fate_in before u)) ≡ Some (stamp, js) → stamp.ts ≤ time
    low u stamp js true e = at stamp js (fate_in before u) (times u stamp js) e
    low u stamp js false e = (let before_that : stamp.ts ≤ clock = times u stamp js e in omega (arith, before_that, le))

-- ---- ids that are named once

first : (a b : Bool) → T (a && b) → T a
first true b p = tt
first false b p = p

second : (a b : Bool) → T (a && b) → T b
second true b p = p
second false b p = absurd p

less : (o : Ordering) → T (is_lt o) → o ≡ Less
less Less p = refl
less Equal p = absurd p
less Greater p = absurd p

module _ {X : Type 0} where
  less_all : (k : TransId) (es : List (TransId × X)) → T (below_all trans_cmp k es) → AllByRecursion (λ (y : TransId). trans_cmp k y ≡ Less) (list_map (λ (e : TransId × X). e.0) es)
  less_all k [] h = tt
  less_all k (e ∷ es) h = (less (trans_cmp k e.0) (first (is_lt (trans_cmp k e.0)) (below_all trans_cmp k es) h), less_all k es (second (is_lt (trans_cmp k e.0)) (below_all trans_cmp k es) h))

  rise : (es : List (TransId × X)) → T (map.is_sorted trans_cmp es) → IsStrictlySortedBy trans_cmp (list_map (λ (e : TransId × X). e.0) es)
  unfolding IsStrictlySortedBy
  rise [] h = tt
  rise (e ∷ es) h = (less_all e.0 es (first (below_all trans_cmp e.0 es) (map.is_sorted trans_cmp es) h), rise es (second (below_all trans_cmp e.0 es) (map.is_sorted trans_cmp es) h))

  -- the keys of a map rise
  pub keys_rise : (m : map.FinMap trans_cmp X) → IsStrictlySortedBy trans_cmp (map.keys m)
  keys_rise m = rise (map.entries m) (entries_sorted m)

  -- and are just what is there
  pub key_there : (m : map.FinMap trans_cmp X) (t : TransId) → has_trans t (map.keys m) ≡ is_some (map.get m t)
  key_there m t = sym (same_any (map.keys m)) ∙ sym (contains_key-keys m t)
    where
      same_any : (ts : List TransId) → list_any (eq_by_cmp trans_cmp t) ts ≡ has_trans t ts
      same_any [] = refl
      same_any (u ∷ us) = λ i. tied_same u t i || same_any us i

  length_keys : (es : List (TransId × X)) → length (list_map (λ (e : TransId × X). e.0) es) ≡ length es
  length_keys [] = refl
  length_keys (e ∷ es) = ap suc (length_keys es)

  pub key_count : (m : map.FinMap trans_cmp X) → length (map.keys m) ≡ map.len m
  key_count m = length_keys (map.entries m) ∙ sym (len-entries m)

once_of : (ts : List TransId) → are_trans_apart ts ≡ true → AreOnce ts
once_of [] h = tt
once_of (t ∷ ts) h =
    let both = and_parts (not (has_trans t ts)) (are_trans_apart ts) h in
    (unnot (has_trans t ts) both.0, once_of ts both.1)
  where
    unnot : (b : Bool) → not b ≡ true → b ≡ false
    unnot false e = refl
    unnot true e = let wrong : false ≡ true = e in cc

-- ---- by what a journal says

module _ (a : Account) (q : Stands a) where
  -- what is not named was not drawn
  unnamed : (t : TransId) (f : Fate) → IsToldFate a.servers a.holder.server a.ids.epoch a.ids.transactions a.begun t f → has_trans t a.begun ≡ false → f ≡ Undrawn
  unnamed t Undrawn h none = refl
  unnamed t (Running c js) h none = let wrong : true ≡ false = sym h.0.1 ∙ none in cc
  unnamed t (Finishing c js vs) h none = let wrong : true ≡ false = sym h.0.1 ∙ none in cc
  unnamed t (Committed s js ds) h none = let wrong : true ≡ false = sym h.0.1 ∙ none in cc
  unnamed t (Forgotten s js) h none = let wrong : true ≡ false = sym h.0.1 ∙ none in cc
  unnamed t (Ended c) h none = let wrong : true ≡ false = sym h.1 ∙ none in cc

  -- what was drawn is of this server
  strange : (t : TransId) → is_drawn a.holder.server a.ids.epoch a.ids.transactions t.server t.epoch t.counter ≡ true → (t.server == a.holder.server) ≡ false → ⊥
  strange t drawn away = let wrong : true ≡ false = sym (eq-eqb t.server a.holder.server (own_server a.holder.server a.ids.epoch a.ids.transactions t drawn)) ∙ away in cc

  -- nor was what is of another one
  elsewhere : (t : TransId) (f : Fate) → IsToldFate a.servers a.holder.server a.ids.epoch a.ids.transactions a.begun t f → (t.server == a.holder.server) ≡ false → f ≡ Undrawn
  elsewhere t Undrawn h away = refl
  elsewhere t (Running c js) h away = absurd (strange t h.0.0 away)
  elsewhere t (Finishing c js vs) h away = absurd (strange t h.0.0 away)
  elsewhere t (Committed s js ds) h away = absurd (strange t h.0.0 away)
  elsewhere t (Forgotten s js) h away = absurd (strange t h.0.0 away)
  elsewhere t (Ended c) h away = absurd (strange t h.0 away)

  pub undrawn_of_other : (t : TransId) → (t.server == a.holder.server) ≡ false → a.fates t ≡ Undrawn
  undrawn_of_other t = elsewhere t (a.fates t) (q.fates t)

  -- a coordinator knows of no other than those that were named
  pub all_begun : (c : Coordinator) → IsCoordinatorOf a c → AreAll c a.begun
  all_begun c h = record { once = once_of a.begun q.begun; all = λ t none. known_undrawn a.ids.epoch t (fate_in c t) (a.fates t) (unnamed t (a.fates t) (q.fates t) none) (h.fates t) }

  -- so many count as the coordinator counts
  pub count_told : (c : Coordinator) → IsCoordinatorOf a c → length (filter (λ t. is_counted (a.fates t)) a.begun) ≡ counted_of c
  count_told c h =
      ap (λ (ts : List TransId). length ts) (alike a.begun)
      ∙ (says_all c a.begun (keys_rise c.courses) (all_begun c h)).counted
    where
      alike : (ts : List TransId) → filter (λ t. is_counted (a.fates t)) ts ≡ filter (λ t. is_counted (fate_in c t)) ts
      alike [] = refl
      alike (t ∷ ts) = λ i. cond {A = List TransId} (sym (known-counted a.ids.epoch t (fate_in c t) (a.fates t) (h.fates t)) i) (t ∷ alike ts i) (alike ts i)
