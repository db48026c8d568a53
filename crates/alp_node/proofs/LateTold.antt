-- what a journal says of the joins of a transaction that did not vote, as it times out, and of their clients
use Rattle.std.specs.Prelude.{cond, Bool, true, false, not, ◌==◌, ◌&&◌, ◌||◌, filter, flat_map, Option, None, Some, is_some, map as list_map}
use Rattle.std.specs.List.{list_any, AllByRecursion}
use Rattle.std.specs.List.Sorted.{IsPermutation}
use Rattle.std.proofs.lemmas.Bool.{and_parts, or_parts, not-true}
use Rattle.std.proofs.lemmas.List.Elements.{All-from_recursion, recursion_from_All}
use Rattle.std.proofs.lemmas.List.Sorted.{All-permutation, IsPermutation-sym}
use Rattle.std.proofs.Common.{◌≡◌, ℕ, List, [], ◌∷◌, ◌++◌, append-nil, append_assoc, refl, sym, ◌∙◌, ap, subst}
use Rattle.alp_base.specs.declared.ids.JoinNo.{JoinNo}
use Rattle.alp_base.specs.declared.ids.TransId.{TransId}
use Rattle.alp_files.specs.declared.refusal.Cause.{Cause}
use Rattle.alp_files.specs.declared.refusal.Cause.TheVariants as cause
use Rattle.alp_journal.specs.Account.{Account, state_of, Stands}
use Rattle.alp_journal.specs.Along.{Where}
use Rattle.alp_journal.specs.Coordinator.{Fate, Undrawn, Running, Finishing, Committed, Forgotten, Ended, client_of, is_running}
use Rattle.alp_journal.specs.Deeds.{Deed, Quits}
use Rattle.alp_journal.specs.Ids.{same_trans, same_join, has_join}
use Rattle.alp_journal.specs.Laws.{are_joins_apart}
use Rattle.alp_journal.specs.Moves.{if_its, times_out_join}
use Rattle.alp_journal.specs.Participant.{Phase, Unseen, Joining, Active, Ready, Applied, Over, live_in, open_in, quit}
use Rattle.alp_journal.specs.State.{State}
use Rattle.alp_journal.proofs.IdLemmas.{same_join-true}
use Rattle.alp_journal.proofs.LateJoins.{phase_out, dead_out, phases_out, deads_out, outs}
use Rattle.alp_journal.proofs.StandLemmas.{same_join-itself, known_join}
use Rattle.alp_coord.specs.Likeness.{IsFateOf, IsLike, IsLikeOld, is_over, standing, nothing}
use Rattle.alp_coord.specs.Likeness as like
use Rattle.alp_worker.specs.declared.joins.Joins.{Joins}
use Rattle.alp_worker.specs.declared.live.LiveJoin.{LiveJoin}
use Rattle.alp_worker.specs.Joins.{AreJoins, AreJoinsOf}
use Rattle.alp_worker.specs.Lives.{live_at, join_at}
use Rattle.alp_worker.specs.Walks.{is_open_of, timed_out}
use Rattle.alp_worker.proofs.LiveLemmas.{once_filter, single_filter}
use Rattle.alp_node.specs.Dead.{cause_in}
use Rattle.alp_node.specs.Timeouts.{deads_of}
use Rattle.alp_node.specs.declared.dead.DeadPart.{DeadPart}
use Rattle.alp_node.proofs.DeadLemmas.{dead_then}
use Rattle.alp_node.proofs.OpenJoins.{kept_if, filter_at}

-- ---- a transaction that has no client here does not run

pub not_running_told : (epoch : ℕ) (t : TransId) (known told : Fate) → IsFateOf epoch t known told → client_of known ≡ None → is_running told ≡ false
not_running_told epoch t known told h none = go (t.epoch == epoch) h none
  where
    idle : (f : Fate) → client_of f ≡ None → is_running f ≡ false
    idle Undrawn e = refl
    idle (Running c js) e = absurd (let wrong : ◌≡◌ {A = Option ℕ} (Some c) None = e in cc)
    idle (Finishing c js vs) e = absurd (let wrong : ◌≡◌ {A = Option ℕ} (Some c) None = e in cc)
    idle (Committed s js ds) e = refl
    idle (Forgotten s js) e = refl
    idle (Ended c) e = refl

    over : (f : Fate) → is_over f ≡ true → is_running f ≡ false
    over Undrawn e = refl
    over (Running c js) e = absurd (let wrong : false ≡ true = e in cc)
    over (Finishing c js vs) e = absurd (let wrong : false ≡ true = e in cc)
    over (Committed s js ds) e = refl
    over (Forgotten s js) e = refl
    over (Ended c) e = refl

    alike : (f g : Fate) → IsLike f g → client_of f ≡ None → is_running g ≡ false
    alike _ _ (like.same f) e = idle f e
    alike _ _ (like.finishing c js vs ws k) e = absurd (let wrong : ◌≡◌ {A = Option ℕ} (Some c) None = e in cc)
    alike _ _ (like.committed s js ds es k) e = refl

    old : (f g : Fate) → IsLikeOld f g → is_running g ≡ false
    old _ _ (standing s j js ds es k) = refl
    old _ _ (nothing f o) = over f o

    go : (b : Bool) → Where b (IsLike known told) (IsLikeOld known told) → client_of known ≡ None → is_running told ≡ false
    go true k e = alike known told k e
    go false k e = old known told k

-- ---- the joins

abbrev pub is_late : TransId → Option (TransId × ℕ) → Bool
is_late t None = false
is_late t (Some x) = same_trans x.0 t

-- what becomes of a phase
abbrev pub late_phase : TransId → Phase → Phase
late_phase t p = cond {A = Phase} (is_late t (open_in p)) (quit p) p

module _ (a : Account) (t : TransId) where
  kept_phase : (j k : JoinNo) (x : Option (TransId × ℕ)) (p : JoinNo → Phase) → same_join j k ≡ false → phase_out a t j x p k ≡ p k
  kept_phase j k None p away = refl
  kept_phase j k (Some x) p away = go (same_trans x.0 t)
    where
      go : (b : Bool) → cond {A = JoinNo → Phase} b (λ i. cond {A = Phase} (same_join j i) (quit (p i)) (p i)) p k ≡ p k
      go true = ap (λ (b : Bool). cond {A = Phase} b (quit (p k)) (p k)) away
      go false = refl

  its_phase : (k : JoinNo) (x : Option (TransId × ℕ)) (p : JoinNo → Phase) → phase_out a t k x p k ≡ cond {A = Phase} (is_late t x) (quit (p k)) (p k)
  its_phase k None p = refl
  its_phase k (Some x) p = go (same_trans x.0 t)
    where
      go : (b : Bool) → cond {A = JoinNo → Phase} b (λ i. cond {A = Phase} (same_join k i) (quit (p i)) (p i)) p k ≡ cond {A = Phase} b (quit (p k)) (p k)
      go true = ap (λ (b : Bool). cond {A = Phase} b (quit (p k)) (p k)) (same_join-itself k)
      go false = refl

  out_none : (js : List JoinNo) (p : JoinNo → Phase) (k : JoinNo) → has_join k js ≡ false → phases_out a t js p k ≡ p k
  out_none [] p k e = refl
  out_none (j ∷ js) p k e =
      let both = or_parts (same_join j k) (has_join k js) e in
      out_none js (phase_out a t j (open_in (a.phases j)) p) k both.1 ∙ kept_phase j k (open_in (a.phases j)) p both.0

  out_some : (js : List JoinNo) → are_joins_apart js ≡ true → (p : JoinNo → Phase) (k : JoinNo) → has_join k js ≡ true → phases_out a t js p k ≡ cond {A = Phase} (is_late t (open_in (a.phases k))) (quit (p k)) (p k)
  out_some [] apart p k e = absurd (let wrong : false ≡ true = e in cc)
  out_some (j ∷ js) apart p k e = go (same_join j k) refl e (out_some js (and_parts (not (has_join j js)) (are_joins_apart js) apart).1)
    where
      go : (b : Bool) → same_join j k ≡ b → (b || has_join k js) ≡ true → ((q : JoinNo → Phase) (i : JoinNo) → has_join i js ≡ true → phases_out a t js q i ≡ cond {A = Phase} (is_late t (open_in (a.phases i))) (quit (q i)) (q i))
          → phases_out a t js (phase_out a t j (open_in (a.phases j)) p) k ≡ cond {A = Phase} (is_late t (open_in (a.phases k))) (quit (p k)) (p k)
      go true f g rest =
          let one : j ≡ k = same_join-true j k f in
          let none : has_join k js ≡ false = ap (λ (i : JoinNo). has_join i js) (sym one) ∙ not-true (has_join j js) (and_parts (not (has_join j js)) (are_joins_apart js) apart).0 in
          out_none js (phase_out a t j (open_in (a.phases j)) p) k none ∙ ap (λ (i : JoinNo). phase_out a t i (open_in (a.phases i)) p k) one ∙ its_phase k (open_in (a.phases k)) p
      go false f g rest =
          rest (phase_out a t j (open_in (a.phases j)) p) k g ∙ ap (λ (q : Phase). cond {A = Phase} (is_late t (open_in (a.phases k))) (quit q) q) (kept_phase j k (open_in (a.phases j)) p f)

  pub phases_late : Stands a → (k : JoinNo) → phases_out a t a.joined a.phases k ≡ late_phase t (a.phases k)
  phases_late q k = go (has_join k a.joined) refl
    where
      unknown : has_join k a.joined ≡ false → (p : Phase) → a.phases k ≡ p → is_late t (open_in p) ≡ false
      unknown e Unseen is = refl
      unknown e (Joining u c who) is = absurd (let wrong : true ≡ false = sym (known_join a q k (u, c) (ap live_in is)) ∙ e in cc)
      unknown e (Active u c who) is = absurd (let wrong : true ≡ false = sym (known_join a q k (u, c) (ap live_in is)) ∙ e in cc)
      unknown e (Ready u c ts) is = refl
      unknown e (Applied u stamp) is = refl
      unknown e Over is = refl

      go : (b : Bool) → has_join k a.joined ≡ b → phases_out a t a.joined a.phases k ≡ late_phase t (a.phases k)
      go true e = out_some a.joined q.joined a.phases k e
      go false e = out_none a.joined a.phases k e ∙ ap (λ (b : Bool). cond {A = Phase} b (quit (a.phases k)) (a.phases k)) (sym (unknown e (a.phases k) refl))

-- what is kept of them
late_kept : (t : TransId) (j : JoinNo) (p : Phase) → kept_if (λ (l : LiveJoin). not (is_open_of t l)) (live_at j p) ≡ live_at j (late_phase t p)
late_kept t j Unseen = refl
late_kept t j (Joining u c who) = go (same_trans u t)
  where
    go : (b : Bool) → cond {A = Option LiveJoin} (not b) (live_at j (Joining u c who)) None ≡ live_at j (cond {A = Phase} b Over (Joining u c who))
    go true = refl
    go false = refl
late_kept t j (Active u c who) = go (same_trans u t)
  where
    go : (b : Bool) → cond {A = Option LiveJoin} (not b) (live_at j (Active u c who)) None ≡ live_at j (cond {A = Phase} b Over (Active u c who))
    go true = refl
    go false = refl
late_kept t j (Ready u c ts) = refl
late_kept t j (Applied u stamp) = refl
late_kept t j Over = refl

was_live : (t : TransId) (p : Phase) → is_some (live_in (late_phase t p)) ≡ true → is_some (live_in p) ≡ true
was_live t Unseen h = h
was_live t (Joining u c who) h = refl
was_live t (Active u c who) h = refl
was_live t (Ready u c ts) h = refl
was_live t (Applied u stamp) h = h
was_live t Over h = h

pub joins_late : (a : Account) (t : TransId) (k : Joins) → Stands a → AreJoinsOf (state_of a) k
    → AreJoins a.holder.server a.ids.epoch a.ids.joins (phases_out a t a.joined a.phases) a.joined (record k { lives = filter (λ (l : LiveJoin). not (is_open_of t l)) k.lives })
joins_late a t k q h = record {
  server = h.server;
  current = h.current;
  count = h.count;
  raised = h.raised;
  live = λ j. filter_at (λ (l : LiveJoin). not (is_open_of t l)) k.lives h.once j ∙ ap (kept_if (λ (l : LiveJoin). not (is_open_of t l))) (h.live j) ∙ late_kept t j (a.phases j) ∙ ap (live_at j) (sym (phases_late a t q j));
  once = once_filter (λ (l : LiveJoin). not (is_open_of t l)) k.lives h.once;
  single = single_filter (λ (l : LiveJoin). not (is_open_of t l)) k.lives h.single;
  known = λ j some. h.known j (was_live t (a.phases j) (ap (λ (p : Phase). is_some (live_in p)) (sym (phases_late a t q j)) ∙ some));
  apart = h.apart;
  numbered = h.numbered;
  unseen = λ j undrawn. phases_late a t q j ∙ ap (late_phase t) (h.unseen j undrawn);
}

-- ---- their clients

-- a join of this client quits
abbrev is_quit_of : ℕ → Deed → Bool
is_quit_of n (Quits j t client c) = n == client
is_quit_of n d = false

merged : (l e b : Bool) (s d : Option Cause) → cond {A = Option Cause} (l && b) s (cond {A = Option Cause} (e && b) s d) ≡ cond {A = Option Cause} ((e || l) && b) s d
merged true true true s d = refl
merged true true false s d = refl
merged true false true s d = refl
merged true false false s d = refl
merged false true true s d = refl
merged false true false s d = refl
merged false false true s d = refl
merged false false false s d = refl

module _ (a : Account) (t : TransId) where
  dead_at : (js : List JoinNo) (d : ℕ → TransId → Option Cause) (n : ℕ) (u : TransId) → deads_out a t js d n u ≡ cond {A = Option Cause} (list_any (is_quit_of n) (outs a t js) && same_trans u t) (Some cause.TimedOut) (d n u)
  dead_at [] d n u = refl
  dead_at (j ∷ js) d n u = dead_at js (dead_out a t j (open_in (a.phases j)) d) n u ∙ one (open_in (a.phases j))
    where
      one : (x : Option (TransId × ℕ)) → cond {A = Option Cause} (list_any (is_quit_of n) (outs a t js) && same_trans u t) (Some cause.TimedOut) (dead_out a t j x d n u)
          ≡ cond {A = Option Cause} (list_any (is_quit_of n) (if_its t x (λ client. Quits j t client (Some cause.TimedOut) ∷ []) ++ outs a t js) && same_trans u t) (Some cause.TimedOut) (d n u)
      one None = refl
      one (Some x) = go (same_trans x.0 t)
        where
          go : (b : Bool) → cond {A = Option Cause} (list_any (is_quit_of n) (outs a t js) && same_trans u t) (Some cause.TimedOut) (cond {A = ℕ → TransId → Option Cause} b (λ c v. cond {A = Option Cause} (c == x.1 && same_trans v t) (Some cause.TimedOut) (d c v)) d n u)
              ≡ cond {A = Option Cause} (list_any (is_quit_of n) (cond {A = List Deed} b (Quits j t x.1 (Some cause.TimedOut) ∷ []) [] ++ outs a t js) && same_trans u t) (Some cause.TimedOut) (d n u)
          go true = merged (list_any (is_quit_of n) (outs a t js)) (n == x.1) (same_trans u t) (Some cause.TimedOut) (d n u)
          go false = refl

-- whoever passes does so in any order
all_false : {X : Type 0} (p : X → Bool) (xs : List X) → list_any p xs ≡ false → AllByRecursion (λ x. p x ≡ false) xs
all_false p [] h = tt
all_false p (x ∷ xs) h = (let both = or_parts (p x) (list_any p xs) h in (both.0, all_false p xs both.1))

none_any : {X : Type 0} (p : X → Bool) (xs : List X) → AllByRecursion (λ x. p x ≡ false) xs → list_any p xs ≡ false
none_any p [] h = refl
none_any p (x ∷ xs) h = ap (λ (b : Bool). b || list_any p xs) h.0 ∙ none_any p xs h.1

any_moved : {X : Type 0} (p : X → Bool) (xs ys : List X) → IsPermutation xs ys → list_any p xs ≡ list_any p ys
any_moved {X} p xs ys moved = go (list_any p xs) (list_any p ys) refl refl
  where
    none : (us vs : List X) → IsPermutation us vs → list_any p us ≡ false → list_any p vs ≡ false
    none us vs m e = none_any p vs (recursion_from_All (λ x. p x ≡ false) vs (All-permutation (λ x. p x ≡ false) us vs m (All-from_recursion (λ x. p x ≡ false) us (all_false p us e))))

    go : (b c : Bool) → list_any p xs ≡ b → list_any p ys ≡ c → b ≡ c
    go true true e f = refl
    go false false e f = refl
    go true false e f = sym e ∙ none ys xs (IsPermutation-sym xs ys moved) f
    go false true e f = sym (none xs ys moved e) ∙ f

any_timed : (n : ℕ) (xs : List LiveJoin) → list_any (is_quit_of n) (list_map timed_out xs) ≡ list_any (λ (x : LiveJoin). n == x.client) xs
any_timed n [] = refl
any_timed n (x ∷ xs) = ap (λ (b : Bool). n == x.client || b) (any_timed n xs)

-- what is kept of them
pub deads_then : (ds : List DeadPart) (t : TransId) (c : Cause) (xs : List LiveJoin) (n : ℕ) (u : TransId) → cause_in (ds ++ deads_of t c xs) n u ≡ cond {A = Option Cause} (list_any (λ (x : LiveJoin). n == x.client) xs && same_trans u t) (Some c) (cause_in ds n u)
deads_then ds t c [] n u = ap (λ (es : List DeadPart). cause_in es n u) (append-nil ds)
deads_then ds t c (x ∷ xs) n u =
    let d : DeadPart = record { client = x.client; trans = t; cause = c } in
    ap (λ (es : List DeadPart). cause_in es n u) (sym (append_assoc ds (d ∷ []) (deads_of t c xs))) ∙ deads_then (ds ++ d ∷ []) t c xs n u
    ∙ ap (λ (o : Option Cause). cond {A = Option Cause} (list_any (λ (x : LiveJoin). n == x.client) xs && same_trans u t) (Some c) o) (sym (dead_then ds x.client t c n u))
    ∙ merged (list_any (λ (x : LiveJoin). n == x.client) xs) (n == x.client) (same_trans u t) (Some c) (cause_in ds n u)

pub deads_late : (a : Account) (t : TransId) (xs : List LiveJoin) (ds : List DeadPart) → IsPermutation (flat_map (times_out_join (state_of a) t) a.joined) (list_map timed_out xs) → ((n : ℕ) (u : TransId) → a.dead n u ≡ cause_in ds n u)
    → (n : ℕ) (u : TransId) → deads_out a t a.joined a.dead n u ≡ cause_in (ds ++ deads_of t cause.TimedOut xs) n u
deads_late a t xs ds moved same n u =
    dead_at a t a.joined a.dead n u
    ∙ (λ i. cond {A = Option Cause} ((any_moved (is_quit_of n) (outs a t a.joined) (list_map timed_out xs) moved ∙ any_timed n xs) i && same_trans u t) (Some cause.TimedOut) (same n u i))
    ∙ sym (deads_then ds t cause.TimedOut xs n u)
