-- the decided transactions of a run are as many as its servers committed of their own
use Rattle.std.specs.Prelude.{Bool, true, false, cond, ◌&&◌, ◌==◌, Option, None, Some, T, filter, map as list_map}
use Rattle.std.specs.FinMap.Entries.{put, by_order, below_all, is_sorted, is_sorted-where_key}
use Rattle.std.specs.Ordering.{is_eq, is_lt}
use Rattle.std.specs.declared.cmp.Ordering.{Ordering}
use Rattle.std.specs.declared.cmp.Ordering.TheVariants.{Less, Equal, Greater}
use Rattle.std.proofs.Common.{◌≡◌, ℕ, ◌+◌, ◌-◌, ◌≤◌, List, [], ◌∷◌, length, refl, sym, ap, subst, ◌∙◌, arith, inl, inr}
use Rattle.std.proofs.lemmas.Bool.{eqb-true}
use Rattle.std.proofs.lemmas.List.{length-map}
use Rattle.alp_base.specs.declared.ids.JoinNo.{JoinNo}
use Rattle.alp_base.specs.declared.ids.Stamp.{Stamp}
use Rattle.alp_files.specs.History.{Decided}
use Rattle.alp_journal.specs.Along.{state_after}
use Rattle.alp_journal.specs.Answered.{FitsJournal}
use Rattle.alp_journal.specs.Coordinator.{joins_of}
use Rattle.alp_journal.specs.Ids.{stamp_cmp}
use Rattle.alp_journal.specs.Laws.{IsLawful}
use Rattle.alp_journal.specs.Moves.{next}
use Rattle.alp_journal.specs.Opening.{ReadyNote}
use Rattle.alp_journal.specs.State.{State, opened}
use Rattle.alp_journal.proofs.StampLemmas.{itself}
use Rattle.alp_history.specs.Log.{ServerLog, Log, of, final, IsIn, Decision, all_put, own_of, decisions_of, decided_by, decided}
use Rattle.alp_history.specs.Theorems.{IsProper}
use Rattle.alp_history.proofs.Decisions.{at_key, find-in, map-in, all_put-in, linked-end, here-end}
use Rattle.alp_history.proofs.Merged.{head-low, rest-sorted}
use Rattle.alp_top.specs.Tallies.{tally_in}
use Rattle.alp_top.proofs.TallyLemmas.{own_count, own_length, IsCounted, tally_is}

-- ---- a list by stamps, with another one put into it

module _ {X : Type 0} where
  put_length : (k : Stamp) (v : X) (xs : List (Stamp × X)) → at_key k xs ≡ None → length (put stamp_cmp k v xs) ≡ length xs + 1
  put_length k v [] none = omega arith
  put_length k v (x ∷ xs) none = go (stamp_cmp k x.0) none (put_length k v xs)
    where
      go : (o : Ordering) → cond (is_eq o) (Some x.1) (at_key k xs) ≡ None → (at_key k xs ≡ None → length (put stamp_cmp k v xs) ≡ length xs + 1)
          → length (by_order o ((k, v) ∷ x ∷ xs) ((x.0, v) ∷ xs) (x ∷ put stamp_cmp k v xs)) ≡ length (x ∷ xs) + 1
      go Less none more = omega arith
      go Equal none more = (let wrong : Some x.1 ≡ None = none in cc)
      go Greater none more = (let rest : length (put stamp_cmp k v xs) ≡ length xs + 1 = more none in omega (arith, rest))

  -- where each stamp is new
  all_put_length : (xs ys : List (Stamp × X)) → T (is_sorted stamp_cmp xs) → ((x : Stamp) (v w : X) → IsIn (x, v) xs → IsIn (x, w) ys → ⊥) → length (all_put xs ys) ≡ length xs + length ys
  all_put_length [] ys sorted apart = omega arith
  all_put_length ((k, v) ∷ xs) ys sorted apart =
      let rest : length (all_put xs ys) ≡ length xs + length ys = all_put_length xs ys (rest-sorted (k, v) xs sorted) (λ x u w i j. apart x u w (inr i) j) in
      let one : length (put stamp_cmp k v (all_put xs ys)) ≡ length (all_put xs ys) + 1 = put_length k v (all_put xs ys) (new (at_key k (all_put xs ys)) refl) in
      omega (arith, rest, one)
    where
      new : (o : Option X) → at_key k (all_put xs ys) ≡ o → at_key k (all_put xs ys) ≡ None
      new None is = is
      new (Some w) is = elim (all_put-in (k, w) xs ys (find-in k w (all_put xs ys) is)) [
        | inl i ↦ (let wrong : Less ≡ Equal = sym (head-low (k, v) xs sorted k w i) ∙ itself k in cc)
        | inr j ↦ absurd (apart k v w (inl refl) j)
      ]

-- ---- what a server committed of its own

module _ (s : State) where
  below_of : (k : Stamp) (xs : List (Stamp × Decided)) → below_all stamp_cmp k (list_map (λ (x : Stamp × Decided). (x.0, joins_of (s.fates x.0.trans))) xs) ≡ below_all stamp_cmp k xs
  below_of k [] = refl
  below_of k (x ∷ xs) = ap (λ (b : Bool). is_lt (stamp_cmp k x.0) && b) (below_of k xs)

  sorted_of : (xs : List (Stamp × Decided)) → is_sorted stamp_cmp (list_map (λ (x : Stamp × Decided). (x.0, joins_of (s.fates x.0.trans))) xs) ≡ is_sorted stamp_cmp xs
  sorted_of [] = refl
  sorted_of (x ∷ xs) = (λ i. below_of x.0 xs i && sorted_of xs i)

  decisions_sorted : T (is_sorted stamp_cmp s.holder.applied) → T (is_sorted stamp_cmp (decisions_of s))
  decisions_sorted sorted = subst T (sym (sorted_of (own_of s))) (is_sorted-where_key stamp_cmp (λ (x : Stamp). x.trans.server == s.holder.server) s.holder.applied sorted)

  decisions_length : length (decisions_of s) ≡ own_count s.holder.server s.holder.applied
  decisions_length = length-map (own_of s) (λ (x : Stamp × Decided). (x.0, joins_of (s.fates x.0.trans))) ∙ own_length s.holder.server s.holder.applied

  passes : (p : Stamp × Decided → Bool) (x : Stamp × Decided) (xs : List (Stamp × Decided)) → IsIn x (filter p xs) → p x ≡ true
  passes p x [] i = absurd i
  passes p x (y ∷ ys) i = go (p y) refl i (λ k. passes p x ys k)
    where
      go : (b : Bool) → p y ≡ b → IsIn x (cond b (y ∷ filter p ys) (filter p ys)) → (IsIn x (filter p ys) → p x ≡ true) → p x ≡ true
      go true is i more = elim i [ inl same ↦ ap p same ∙ is | inr k ↦ more k ]
      go false is i more = more i

  -- each is of this server
  decisions_own : (x : Stamp) (js : List JoinNo) → IsIn (x, js) (decisions_of s) → x.trans.server ≡ s.holder.server
  decisions_own x js i =
      let (d, there, is) = map-in (λ (d : Stamp × Decided). (d.0, joins_of (s.fates d.0.trans))) (x, js) (own_of s) i in
      let own : d.0.trans.server ≡ s.holder.server = eqb-true d.0.trans.server s.holder.server (passes (λ (x : Stamp × Decided). x.0.trans.server == s.holder.server) d s.holder.applied there) in
      ap (λ (e : Decision). e.0.trans.server) (sym is) ∙ own

-- ---- all servers, by their numbers

abbrev pub AreOfNumbers : ℕ → List ServerLog → Type 0
AreOfNumbers k [] = Unit {0}
AreOfNumbers k (x ∷ xs) = (x.opening.server ≡ k) × AreOfNumbers (k + 1) xs

abbrev pub own_sum : Log → List ServerLog → ℕ
own_sum log [] = 0
own_sum log (x ∷ xs) = length (decisions_of (final log x.opening.server)) + own_sum log xs

module _ (log : Log) (proper : IsProper log) where
  -- what servers from a number on decided is of no server below
  from_number : (k : ℕ) (xs : List ServerLog) → AreOfNumbers k xs → (x : Stamp) (js : List JoinNo) → IsIn (x, js) (decided_by log xs) → k ≤ x.trans.server
  from_number k [] h x js i = absurd i
  from_number k (y ∷ ys) h x js i = elim (all_put-in (x, js) (decisions_of (final log y.opening.server)) (decided_by log ys) i) [
    | inl a ↦ (let same : x.trans.server ≡ k = decisions_own (final log y.opening.server) x js a ∙ here-end log proper y.opening.server ∙ h.0 in omega (arith, same))
    | inr b ↦ (let more : k + 1 ≤ x.trans.server = from_number (k + 1) ys h.1 x js b in omega (arith, more))
  ]

  decided_length : (k : ℕ) (xs : List ServerLog) → AreOfNumbers k xs → length (decided_by log xs) ≡ own_sum log xs
  decided_length k [] h = refl
  decided_length k (y ∷ ys) h =
      all_put_length (decisions_of (final log y.opening.server)) (decided_by log ys) (decisions_sorted (final log y.opening.server) (linked-end log proper y.opening.server).sorted)
      (λ x v w i j.
      let same : x.trans.server ≡ k = decisions_own (final log y.opening.server) x v i ∙ here-end log proper y.opening.server ∙ h.0 in
      let more : k + 1 ≤ x.trans.server = from_number (k + 1) ys h.1 x w j in
      omega (arith, same, more))
      ∙ ap (λ (m : ℕ). length (decisions_of (final log y.opening.server)) + m) (decided_length (k + 1) ys h.1)

  pub decided_many : (k : ℕ) → AreOfNumbers k log.servers → length (decided log) ≡ own_sum log log.servers
  decided_many k h = decided_length k log.servers h

  -- ---- what the entries of one of them count

  -- how many of its own it committed, and how many it began that no earlier run did
  pub record IsCountedAt (y : ServerLog) : Type 0 where
    pub committed : (tally_in y.journal).committed ≡ length (decisions_of (final log y.opening.server))
    pub begun : (tally_in y.journal).begun ≡ length (state_after next (opened y.opening) y.journal).begun - length y.opening.decisions
    pub few : (tally_in y.journal).begun ≤ 65536
    pub little : (tally_in y.journal).committed ≤ 65536

  pub counted_at : (y : ServerLog) → IsIn y log.servers → FitsJournal y.journal → IsCountedAt y
  counted_at y there fits =
      let same : of log y.opening.server ≡ y = proper.different y there in
      let away : (r : ReadyNote) → IsIn r y.opening.ready → r.trans.server ≡ y.opening.server → ⊥ =
      subst (λ (z : ServerLog). (r : ReadyNote) → IsIn r z.opening.ready → r.trans.server ≡ y.opening.server → ⊥) same (λ r i. ((proper.sound y.opening.server).ready r i).elsewhere) in
      let lawful : IsLawful y.opening y.journal = subst (λ (z : ServerLog). IsLawful z.opening z.journal) same (proper.lawful y.opening.server) in
      let ends : state_after next (opened y.opening) y.journal ≡ final log y.opening.server = ap (λ (z : ServerLog). state_after next (opened z.opening) z.journal) (sym same) in
      let counted : IsCounted y.opening (state_after next (opened y.opening) y.journal) (tally_in y.journal) = tally_is y.opening y.journal away lawful fits in
      let begun : (tally_in y.journal).begun + length y.opening.decisions ≡ length (state_after next (opened y.opening) y.journal).begun = counted.begun in
      record {
        committed = counted.committed ∙ ap (λ (s : State). own_count y.opening.server s.holder.applied) ends
            ∙ ap (λ (m : ℕ). own_count m (final log y.opening.server).holder.applied) (sym (here-end log proper y.opening.server)) ∙ sym (decisions_length (final log y.opening.server));
        begun = omega (arith, begun);
        few = counted.few;
        little = counted.little;
      }
