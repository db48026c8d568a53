-- the decided transactions of all servers, in the order of their stamps, are one thread's history
use Rattle.std.specs.Prelude.{Bool, true, false, cond, ◌&&◌, ◌||◌, ◌==◌, Option, None, Some, T, filter, flat_map, map as list_map}
use Rattle.std.specs.List.{AllByRecursion}
use Rattle.std.specs.FinMap.Entries.{put, is_sorted, same_entries}
use Rattle.std.specs.FinMap.Entries as entries
use Rattle.std.specs.Ordering.{is_lt, is_eq}
use Rattle.std.specs.declared.cmp.Ordering.{Ordering}
use Rattle.std.specs.declared.cmp.Ordering.TheVariants.{Less, Equal, Greater}
use Rattle.std.proofs.Common.{◌≡◌, ℕ, zero, suc, ◌<◌, ◌≤◌, List, [], ◌∷◌, ◌++◌, refl, sym, ap, subst, ◌∙◌, arith, inl, inr, ◌⊎◌, eq-eqb}
use Rattle.std.proofs.lemmas.Bool.{eqb-true}
use Rattle.alp_base.specs.declared.ids.JoinNo.{JoinNo}
use Rattle.alp_base.specs.declared.ids.TransId.{TransId}
use Rattle.alp_base.specs.declared.ids.Stamp.{Stamp}
use Rattle.alp_files.specs.Cells.{Cells}
use Rattle.alp_files.specs.Edits.{Edit}
use Rattle.alp_files.specs.Sound.{AreSound, HaveTheirPages, HasItsPages}
use Rattle.alp_files.specs.Locks.{IsFormed}
use Rattle.alp_files.specs.Apart.{after_part}
use Rattle.alp_files.specs.History.{PerformedCall, Decided, Standing, steps, begun, starting}
use Rattle.alp_files.specs.History as one
use Rattle.alp_files.proofs.SoundLemmas.{end_sound}
use Rattle.alp_journal.specs.Ids.{same_join, has_join, has_server, stamp_cmp}
use Rattle.alp_journal.specs.Opening.{DecisionNote}
use Rattle.alp_journal.specs.Coordinator.{decision_in}
use Rattle.alp_journal.specs.Participant.{Phase, Unseen, Joining, Active, Ready, Applied, Over, is_ready}
use Rattle.alp_journal.specs.Holder.{Holder, Life}
use Rattle.alp_journal.specs.State.{State}
use Rattle.alp_journal.specs.Laws.{IsHolding}
use Rattle.alp_history.specs.Log.{Log, opening_of, final, IsIn, noted, is_noted, Decision, decided, start_of, finish_of, Share, share_at, of_life, shares_on, servers_in, shares_of, Standings, after_shares, IsChargedAfterEach, starting_all, edits_in, takes_part, left_in, left_there}
use Rattle.alp_history.specs.Theorems.{IsProper, HasCommitted, IsKept, IsOneThread, History}
use Rattle.alp_history.proofs.Places.{some-same, all-in}
use Rattle.alp_journal.proofs.IdLemmas.{or-true}
use Rattle.alp_history.proofs.Phases.{IsSeen}
use Rattle.alp_history.proofs.Agreed.{committed-parts, applied-committed, kept}
use Rattle.alp_journal.proofs.LeftBehind.{left_along}
use Rattle.alp_journal.proofs.HistoryOrder.{Item, AreGood, history_of}
use Rattle.alp_journal.proofs.OneServer.{in_order, one_thread, rebase}
use Rattle.alp_history.proofs.Votes.{joined-server}
use Rattle.alp_journal.specs.Holding.{IsNewStamp}
use Rattle.alp_history.proofs.Starts.{held-none}
use Rattle.alp_journal.proofs.StampLemmas.{stamps_total, itself}
use Rattle.alp_history.proofs.Linked.{in-left, IsAway, same_join-self, IsYoung, HasPart, IsKeptAt, IsTied}
use Rattle.alp_history.proofs.Turned.{is_left, Began, began-same, in-flat, flat-in, any-in}
use Rattle.alp_history.proofs.HeldAlong.{exact_stamps}
use Rattle.alp_history.proofs.EachServer.{along-end}
use Rattle.alp_history.proofs.Severally.{on, all_on, severally, severally-end, shares-end}
use Rattle.alp_history.proofs.Wholes.{was-seen}
use Rattle.alp_history.proofs.Decisions.{at_key, Has, find-in, map-in, left-has, has-left, left-sorted, IsDecision, here-decision, young-join, tied-end, own-decided, decided-in, in-decided, same-joins, decided-sorted, linked-end, here-end}
use Rattle.alp_history.proofs.Settled.{stamp_of, in-stamp, record_of, spread-end, all_decisions, settled-by, ready-trans, note-old, settle, is_still, Before, Behind, IsLate, settled-all}

-- ---- sorted lists

first : (a b : Bool) → T (a && b) → T a
first true b p = tt
first false b p = p

second : (a b : Bool) → T (a && b) → T b
second true b p = p
second false b p = absurd p

module _ {X : Type 0} where
  below-in : (x : Stamp) (y : Stamp) (v : X) (xs : List (Stamp × X)) → T (entries.below_all stamp_cmp x xs) → IsIn (y, v) xs → stamp_cmp x y ≡ Less
  below-in x y v [] b i = absurd i
  below-in x y v (e ∷ es) b i = elim i [
    | inl s ↦ less (stamp_cmp x y) (subst (λ (z : Stamp). T (is_lt (stamp_cmp x z))) (ap (λ (z : Stamp × X). z.0) (sym s)) (first (is_lt (stamp_cmp x e.0)) (entries.below_all stamp_cmp x es) b))
    | inr k ↦ below-in x y v es (second (is_lt (stamp_cmp x e.0)) (entries.below_all stamp_cmp x es) b) k
  ]
    where
      less : (o : Ordering) → T (is_lt o) → o ≡ Less
      less Less p = refl
      less Equal p = absurd p
      less Greater p = absurd p

  -- the head is below all the rest, which is sorted too
  pub head-low : (e : Stamp × X) (es : List (Stamp × X)) → T (is_sorted stamp_cmp (e ∷ es)) → (y : Stamp) (v : X) → IsIn (y, v) es → stamp_cmp e.0 y ≡ Less
  head-low e es sorted y v i = below-in e.0 y v es (first (entries.below_all stamp_cmp e.0 es) (is_sorted stamp_cmp es) sorted) i

  pub rest-sorted : (e : Stamp × X) (es : List (Stamp × X)) → T (is_sorted stamp_cmp (e ∷ es)) → T (is_sorted stamp_cmp es)
  rest-sorted e es sorted = second (entries.below_all stamp_cmp e.0 es) (is_sorted stamp_cmp es) sorted

  -- what stands in a sorted list is found
  pub sorted-find : (x : Stamp) (v : X) (xs : List (Stamp × X)) → T (is_sorted stamp_cmp xs) → IsIn (x, v) xs → at_key x xs ≡ Some v
  sorted-find x v [] s i = absurd i
  sorted-find x v (e ∷ es) s (inl is) = ap (λ (o : Ordering). cond (is_eq o) (Some e.1) (at_key x es)) (ap (λ (z : Stamp × X). stamp_cmp x z.0) (sym is) ∙ itself x) ∙ ap (λ (z : Stamp × X). Some z.1) (sym is)
  sorted-find x v (e ∷ es) s (inr k) =
      let low : stamp_cmp e.0 x ≡ Less = below-in e.0 x v es (first (entries.below_all stamp_cmp e.0 es) (is_sorted stamp_cmp es) s) k in
      go (stamp_cmp x e.0) refl low (sorted-find x v es (second (entries.below_all stamp_cmp e.0 es) (is_sorted stamp_cmp es) s) k)
    where
      go : (o : Ordering) → stamp_cmp x e.0 ≡ o → stamp_cmp e.0 x ≡ Less → at_key x es ≡ Some v → cond (is_eq o) (Some e.1) (at_key x es) ≡ Some v
      go Equal q low f = let wrong : Equal ≡ Less = sym (itself x) ∙ ap (λ z. stamp_cmp z x) (exact_stamps x e.0 q) ∙ low in cc
      go Less q low f = f
      go Greater q low f = f

  -- two sorted lists that have the same are one
  same-lists : (xs ys : List (Stamp × X)) → T (is_sorted stamp_cmp xs) → T (is_sorted stamp_cmp ys) → ((x : Stamp) (v : X) → at_key x xs ≡ Some v → at_key x ys ≡ Some v) → ((x : Stamp) (v : X) → at_key x ys ≡ Some v → at_key x xs ≡ Some v) → xs ≡ ys
  same-lists xs ys s t f g = same_entries stamp_cmp stamps_total exact_stamps xs ys s t (λ q. go q (at_key q xs) refl (at_key q ys) refl)
    where
      go : (q : Stamp) (a : Option X) → at_key q xs ≡ a → (b : Option X) → at_key q ys ≡ b → at_key q xs ≡ at_key q ys
      go q (Some v) e b k = e ∙ sym (f q v e)
      go q None e (Some w) k = (let wrong : None ≡ Some w = sym e ∙ g q w k in cc)
      go q None e None k = e ∙ sym k

-- ---- what the shares of a decision are at a server

on-append : (n : ℕ) (xs ys : List Share) → on n (xs ++ ys) ≡ on n xs ++ on n ys
on-append n [] ys = refl
on-append n (x ∷ xs) ys = go (x.0 == n) (on-append n xs ys)
  where
    go : (b : Bool) → on n (xs ++ ys) ≡ on n xs ++ on n ys → cond b (x.1 ∷ on n (xs ++ ys)) (on n (xs ++ ys)) ≡ cond b (x.1 ∷ on n xs) (on n xs) ++ on n ys
    go true e = ap (λ zs. x.1 ∷ zs) e
    go false e = e

on-there : (n m : ℕ) (ds : List Decided) → (m == n) ≡ true → on n (list_map (λ (d : Decided). (m, d)) ds) ≡ ds
on-there n m [] e = refl
on-there n m (d ∷ ds) e = ap (λ (b : Bool). cond b (d ∷ on n (list_map (λ (d : Decided). (m, d)) ds)) (on n (list_map (λ (d : Decided). (m, d)) ds))) e ∙ ap (λ zs. d ∷ zs) (on-there n m ds e)

on-else : (n m : ℕ) (ds : List Decided) → (m == n) ≡ false → on n (list_map (λ (d : Decided). (m, d)) ds) ≡ []
on-else n m [] e = refl
on-else n m (d ∷ ds) e = ap (λ (b : Bool). cond b (d ∷ on n (list_map (λ (d : Decided). (m, d)) ds)) (on n (list_map (λ (d : Decided). (m, d)) ds))) e ∙ on-else n m ds e

append-nil : {A : Type 0} (xs : List A) → xs ++ [] ≡ xs
append-nil [] = refl
append-nil (x ∷ xs) = ap (λ ys. x ∷ ys) (append-nil xs)

not-eqb : (a b : ℕ) → (a ≡ b → ⊥) → (a == b) ≡ false
not-eqb a b n = go (a == b) refl
  where
    go : (c : Bool) → (a == b) ≡ c → c ≡ false
    go true e = absurd (n (eqb-true a b e))
    go false e = refl

eqb-turn : (a b : ℕ) → (a == b) ≡ false → (b == a) ≡ false
eqb-turn a b e = not-eqb b a (λ i. (let wrong : true ≡ false = sym (eq-eqb a b (sym i)) ∙ e in cc))

-- of different servers
abbrev AreUnlike : List ℕ → Type 0
AreUnlike [] = Unit {0}
AreUnlike (m ∷ ms) = AllByRecursion (λ k. (m == k) ≡ false) ms × AreUnlike ms

module _ (log : Log) (x : Stamp) (n : ℕ) where
  abbrev share_here : List Decided
  share_here = share_at (final log n) x (at_key x (final log n).holder.applied)

  on-own : (m : ℕ) → (m == n) ≡ true → on n (shares_on log x m) ≡ share_here
  on-own m e = on-there n m (share_at (final log m) x (at_key x (final log m).holder.applied)) e ∙ ap (λ k. share_at (final log k) x (at_key x (final log k).holder.applied)) (eqb-true m n e)

  on-other : (m : ℕ) → (m == n) ≡ false → on n (shares_on log x m) ≡ []
  on-other m e = on-else n m (share_at (final log m) x (at_key x (final log m).holder.applied)) e

  none-of : (p : ℕ → Bool) (ms : List ℕ) → AllByRecursion (λ k. (n == k) ≡ false) ms → on n (flat_map (shares_on log x) (filter p ms)) ≡ []
  none-of p [] a = refl
  none-of p (m ∷ ms) a = go (p m) (none-of p ms a.1)
    where
      go : (b : Bool) → on n (flat_map (shares_on log x) (filter p ms)) ≡ [] → on n (flat_map (shares_on log x) (cond b (m ∷ filter p ms) (filter p ms))) ≡ []
      go true e = on-append n (shares_on log x m) (flat_map (shares_on log x) (filter p ms)) ∙ ap (λ zs. zs ++ on n (flat_map (shares_on log x) (filter p ms))) (on-other m (eqb-turn n m a.0)) ∙ e
      go false e = e

  one-of : (p : ℕ → Bool) (ms : List ℕ) → AreUnlike ms → IsIn n ms → on n (flat_map (shares_on log x) (filter p ms)) ≡ cond (p n) share_here []
  one-of p [] u i = absurd i
  one-of p (m ∷ ms) u (inl e) =
      let rest : on n (flat_map (shares_on log x) (filter p ms)) ≡ [] = none-of p ms (subst (λ k. AllByRecursion (λ z. (k == z) ≡ false) ms) (sym e) u.0) in
      go (p m) rest ∙ ap (λ k. cond (p k) share_here []) (sym e)
    where
      go : (b : Bool) → on n (flat_map (shares_on log x) (filter p ms)) ≡ [] → on n (flat_map (shares_on log x) (cond b (m ∷ filter p ms) (filter p ms))) ≡ cond b share_here []
      go true r =
          on-append n (shares_on log x m) (flat_map (shares_on log x) (filter p ms)) ∙ ap (λ zs. zs ++ on n (flat_map (shares_on log x) (filter p ms))) (on-own m (eq-eqb m n (sym e)))
          ∙ ap (λ zs. share_here ++ zs) r ∙ append-nil share_here
      go false r = r
  one-of p (m ∷ ms) u (inr i) = go (p m) (one-of p ms u.1 i)
    where
      other : (m == n) ≡ false
      other = all-in (λ k. (m == k) ≡ false) ms n u.0 i

      go : (b : Bool) → on n (flat_map (shares_on log x) (filter p ms)) ≡ cond (p n) share_here [] → on n (flat_map (shares_on log x) (cond b (m ∷ filter p ms) (filter p ms))) ≡ cond (p n) share_here []
      go true e = on-append n (shares_on log x m) (flat_map (shares_on log x) (filter p ms)) ∙ ap (λ zs. zs ++ on n (flat_map (shares_on log x) (filter p ms))) (on-other m other) ∙ e
      go false e = e

  abbrev eight : List ℕ
  eight = 1 ∷ 2 ∷ 3 ∷ 4 ∷ 5 ∷ 6 ∷ 7 ∷ 8 ∷ []

  eight-unlike : AreUnlike eight
  eight-unlike = ((refl, (refl, (refl, (refl, (refl, (refl, (refl, tt))))))), ((refl, (refl, (refl, (refl, (refl, (refl, tt)))))), ((refl, (refl, (refl, (refl, (refl, tt))))), ((refl, (refl, (refl, (refl, tt)))), ((refl, (refl, (refl, tt))), ((refl, (refl, tt)), ((refl, tt), (tt, tt))))))))

pub in-eight : (n : ℕ) → 0 < n → n ≤ 8 → IsIn n (1 ∷ 2 ∷ 3 ∷ 4 ∷ 5 ∷ 6 ∷ 7 ∷ 8 ∷ [])
in-eight zero low high = absurd (omega (arith, low))
in-eight (suc zero) low high = inl refl
in-eight (suc (suc zero)) low high = inr (inl refl)
in-eight (suc (suc (suc zero))) low high = inr (inr (inl refl))
in-eight (suc (suc (suc (suc zero)))) low high = inr (inr (inr (inl refl)))
in-eight (suc (suc (suc (suc (suc zero))))) low high = inr (inr (inr (inr (inl refl))))
in-eight (suc (suc (suc (suc (suc (suc zero)))))) low high = inr (inr (inr (inr (inr (inl refl)))))
in-eight (suc (suc (suc (suc (suc (suc (suc zero))))))) low high = inr (inr (inr (inr (inr (inr (inl refl))))))
in-eight (suc (suc (suc (suc (suc (suc (suc (suc zero)))))))) low high = inr (inr (inr (inr (inr (inr (inr (inl refl)))))))
in-eight (suc (suc (suc (suc (suc (suc (suc (suc (suc k))))))))) low high = absurd (omega (arith, high))

has-one : (n : ℕ) (js : List JoinNo) → has_server n js ≡ true → (j : JoinNo) × (has_join j js ≡ true) × (j.server ≡ n)
has-one n [] e = (let wrong : false ≡ true = e in cc)
has-one n (j ∷ js) e = elim (or-true (j.server == n) (has_server n js) e) [
  | inl s ↦ (j, ap (λ b. b || has_join j js) (same_join-self j), eqb-true j.server n s)
  | inr m ↦ (let r = has-one n js m in (r.0, ap (λ b. same_join j r.0 || b) r.1 ∙ or-right (same_join j r.0), r.2))
]
  where
    or-right : (b : Bool) → (b || true) ≡ true
    or-right true = refl
    or-right false = refl

in-joins : (j : JoinNo) (js : List JoinNo) → IsIn j js → has_join j js ≡ true
in-joins j js i = any-in (λ k. same_join k j) j js i (same_join-self j)

all-from : {A : Type 0} (P : A → Type 0) (xs : List A) → ((x : A) → IsIn x xs → P x) → AllByRecursion P xs
all-from P [] f = tt
all-from P (x ∷ xs) f = (f x (inl refl), all-from P xs (λ y i. f y (inr i)))

module _ (log : Log) (x : Stamp) (n : ℕ) where
  out-of : (p : ℕ → Bool) → p n ≡ false → (ms : List ℕ) → on n (flat_map (shares_on log x) (filter p ms)) ≡ []
  out-of p none_is [] = refl
  out-of p none_is (m ∷ ms) = go (p m) refl (out-of p none_is ms)
    where
      go : (b : Bool) → p m ≡ b → on n (flat_map (shares_on log x) (filter p ms)) ≡ [] → on n (flat_map (shares_on log x) (cond b (m ∷ filter p ms) (filter p ms))) ≡ []
      go true is e =
          on-append n (shares_on log x m) (flat_map (shares_on log x) (filter p ms))
          ∙ ap (λ zs. zs ++ on n (flat_map (shares_on log x) (filter p ms))) (on-other log x n m (not-eqb m n (λ i. (let wrong : true ≡ false = sym is ∙ ap p i ∙ none_is in cc)))) ∙ e
      go false is e = e

-- one at most
abbrev IsShort : List Decided → Type 0
IsShort xs = (xs ≡ []) ⊎ ((v : Decided) × (xs ≡ v ∷ []))

short-share : (s : State) (x : Stamp) (o : Option Decided) → IsShort (share_at s x o)
short-share s x (Some v) = inr (v, refl)
short-share s x None = go (s.holder.lives x.trans)
  where
    go : (l : Option Life) → IsShort (of_life x l)
    go None = inl refl
    go (Some l) = inr (record_of x l, refl)

module _ (log : Log) (proper : IsProper log) where
  module _ (n : ℕ) (x : Stamp) (js : List JoinNo) (d : IsDecision log proper x js) where
    abbrev mine : List Decided
    mine = on n (shares_of log (x, js))

    split : mine ≡ on n (shares_on log x x.trans.server) ++ on n (flat_map (shares_on log x) (servers_in js))
    split = on-append n (shares_on log x x.trans.server) (flat_map (shares_on log x) (servers_in js))

    share-own : x.trans.server ≡ n → mine ≡ share_here log x n
    share-own own =
        let outside : has_server n js ≡ false = go (has_server n js) refl in
        split ∙ ap (λ zs. on n (shares_on log x x.trans.server) ++ zs) (out-of log x n (λ m. has_server m js) outside (1 ∷ 2 ∷ 3 ∷ 4 ∷ 5 ∷ 6 ∷ 7 ∷ 8 ∷ [])) ∙ append-nil (on n (shares_on log x x.trans.server))
        ∙ on-own log x n x.trans.server (eq-eqb x.trans.server n own)
      where
        go : (b : Bool) → has_server n js ≡ b → has_server n js ≡ false
        go true e = absurd (let j = has-one n js e in (d.parts j.0 j.1).2 (j.2 ∙ sym own))
        go false e = e

    share-part : (j : JoinNo) → has_join j js ≡ true → j.server ≡ n → mine ≡ share_here log x n
    share-part j has here =
        let p = d.parts j has in
        let other : (x.trans.server == n) ≡ false = not-eqb x.trans.server n (λ i. p.2 (here ∙ sym i)) in
        let inside : has_server n js ≡ true = ap (λ m. has_server m js) (sym here) ∙ joined-server j js has in
        let among : IsIn n (1 ∷ 2 ∷ 3 ∷ 4 ∷ 5 ∷ 6 ∷ 7 ∷ 8 ∷ []) = in-eight n (subst (λ m. 0 < m) here p.0) (subst (λ m. m ≤ 8) here p.1) in
        split ∙ ap (λ zs. zs ++ on n (flat_map (shares_on log x) (servers_in js))) (on-other log x n x.trans.server other)
        ∙ one-of log x n (λ m. has_server m js) (1 ∷ 2 ∷ 3 ∷ 4 ∷ 5 ∷ 6 ∷ 7 ∷ 8 ∷ []) (eight-unlike log x n) among ∙ ap (λ b. cond b (share_here log x n) []) inside

    share-none : (x.trans.server == n) ≡ false → has_server n js ≡ false → mine ≡ []
    share-none other outside =
        split ∙ ap (λ zs. zs ++ on n (flat_map (shares_on log x) (servers_in js))) (on-other log x n x.trans.server other) ∙ out-of log x n (λ m. has_server m js) outside (1 ∷ 2 ∷ 3 ∷ 4 ∷ 5 ∷ 6 ∷ 7 ∷ 8 ∷ [])

    -- its own, a part's, or none
    abbrev IsShared : Type 0
    IsShared = (x.trans.server ≡ n) ⊎ ((j : JoinNo) × (has_join j js ≡ true) × (j.server ≡ n))

    shared : ((mine ≡ []) × (takes_part n (x, js) ≡ false)) ⊎ (IsShared × (mine ≡ share_here log x n) × (takes_part n (x, js) ≡ true))
    shared = go (x.trans.server == n) refl (has_server n js) refl
      where
        go : (a : Bool) → (x.trans.server == n) ≡ a → (b : Bool) → has_server n js ≡ b → ((mine ≡ []) × (takes_part n (x, js) ≡ false)) ⊎ (IsShared × (mine ≡ share_here log x n) × (takes_part n (x, js) ≡ true))
        go true e b f = (let own = eqb-true x.trans.server n e in inr (inl own, share-own own, ap (λ c. c || has_server n js) e))
        go false e true f = (let j = has-one n js f in inr (inr j, share-part j.0 j.1 j.2, λ i. e i || f i))
        go false e false f = inl (share-none e f, λ i. e i || f i)

    pub short-mine : IsShort mine
    short-mine = elim shared [ inl e ↦ inl e.0 | inr s ↦ subst IsShort (sym s.1) (short-share (final log n) x (at_key x (final log n).holder.applied)) ]

  -- ---- all decisions at a server, with their stamps

  module _ (n : ℕ) where
    abbrev pub keyed : Decision → List (Stamp × Decided)
    keyed d = list_map (λ v. (d.0, v)) (on n (shares_of log d))

    abbrev pub all_keyed : List Decision → List (Stamp × Decided)
    all_keyed ds = flat_map keyed ds

    keyed-values : (ds : List Decision) → list_map (λ (e : Stamp × Decided). e.1) (all_keyed ds) ≡ all_on log n ds
    keyed-values [] = refl
    keyed-values (d ∷ ds) = map-append (keyed d) (all_keyed ds) ∙ ap (λ zs. zs ++ list_map (λ (e : Stamp × Decided). e.1) (all_keyed ds)) (values (on n (shares_of log d))) ∙ ap (λ zs. on n (shares_of log d) ++ zs) (keyed-values ds)
      where
        map-append : (xs ys : List (Stamp × Decided)) → list_map (λ (e : Stamp × Decided). e.1) (xs ++ ys) ≡ list_map (λ (e : Stamp × Decided). e.1) xs ++ list_map (λ (e : Stamp × Decided). e.1) ys
        map-append [] ys = refl
        map-append (x ∷ xs) ys = ap (λ zs. x.1 ∷ zs) (map-append xs ys)

        values : (vs : List Decided) → list_map (λ (e : Stamp × Decided). e.1) (list_map (λ v. (d.0, v)) vs) ≡ vs
        values [] = refl
        values (v ∷ vs) = ap (λ zs. v ∷ zs) (values vs)

    abbrev AreShort : List Decision → Type 0
    AreShort ds = AllByRecursion (λ (d : Decision). IsShort (on n (shares_of log d))) ds

    both : (a b : Bool) → T a → T b → T (a && b)
    both true b p q = q
    both false b p q = p

    keyed-below : (x : Stamp) (ds : List Decision) → AreShort ds → T (entries.below_all stamp_cmp x ds) → T (entries.below_all stamp_cmp x (all_keyed ds))
    keyed-below x [] a b = tt
    keyed-below x (d ∷ ds) a b =
        let rest = keyed-below x ds a.1 (second (is_lt (stamp_cmp x d.0)) (entries.below_all stamp_cmp x ds) b) in
        elim a.0 [
          | inl e ↦ subst (λ vs. T (entries.below_all stamp_cmp x (list_map (λ v. (d.0, v)) vs ++ all_keyed ds))) (sym e) rest
          | inr v ↦ subst (λ vs. T (entries.below_all stamp_cmp x (list_map (λ v. (d.0, v)) vs ++ all_keyed ds))) (sym v.1)
              (both (is_lt (stamp_cmp x d.0)) (entries.below_all stamp_cmp x (all_keyed ds)) (first (is_lt (stamp_cmp x d.0)) (entries.below_all stamp_cmp x ds) b) rest)
        ]

    keyed-sorted : (ds : List Decision) → AreShort ds → T (is_sorted stamp_cmp ds) → T (is_sorted stamp_cmp (all_keyed ds))
    keyed-sorted [] a s = tt
    keyed-sorted (d ∷ ds) a s =
        let rest = keyed-sorted ds a.1 (second (entries.below_all stamp_cmp d.0 ds) (is_sorted stamp_cmp ds) s) in
        elim a.0 [
          | inl e ↦ subst (λ vs. T (is_sorted stamp_cmp (list_map (λ v. (d.0, v)) vs ++ all_keyed ds))) (sym e) rest
          | inr v ↦ subst (λ vs. T (is_sorted stamp_cmp (list_map (λ v. (d.0, v)) vs ++ all_keyed ds))) (sym v.1)
              (both (entries.below_all stamp_cmp d.0 (all_keyed ds)) (is_sorted stamp_cmp (all_keyed ds)) (keyed-below d.0 ds a.1 (first (entries.below_all stamp_cmp d.0 ds) (is_sorted stamp_cmp ds) s)) rest)
        ]

    -- ---- the parts that are still ready, as if applied

    abbrev here : State
    here = final log n

    abbrev last : Holder
    last = settle log proper n here.joined here.holder

    holding-away : (t : TransId) (p : Phase) → IsAway log proper n p → IsHolding t p → t.server ≡ n → ⊥
    holding-away t (Active u c w) a h e = a (ap (λ (x : TransId). x.server) h ∙ e)
    holding-away t (Ready u c ts) a h e = a (ap (λ (x : TransId). x.server) h ∙ e)
    holding-away t (Joining u c w) a h e = absurd h
    holding-away t Unseen a h e = absurd h
    holding-away t (Applied u x) a h e = absurd h
    holding-away t Over a h e = absurd h

    holding-seen : (t : TransId) (p : Phase) → IsHolding t p → IsSeen p ≡ true
    holding-seen t (Active u c w) h = refl
    holding-seen t (Ready u c ts) h = refl
    holding-seen t (Joining u c w) h = absurd h
    holding-seen t Unseen h = absurd h
    holding-seen t (Applied u x) h = absurd h
    holding-seen t Over h = absurd h

    -- nothing stands yet at the stamp of a part that is ready
    new-stamps : (j : JoinNo) (x : Stamp) → stamp_of j (all_decisions log proper) ≡ Some x → IsHolding x.trans (here.phases j) → IsNewStamp x here.holder.applied
    new-stamps j x settled hold = all-from (λ (y : Stamp × Decided). stamp_cmp x y.0 ≡ Equal → ⊥) here.holder.applied (λ y i e. no_one y.0 y.1 i (exact_stamps x y.0 e))
      where
        at : j.server ≡ n
        at = (along-end log proper n).seen j (holding-seen x.trans (here.phases j) hold)

        same_part : (k : JoinNo) → here.phases k ≡ Applied x.trans x → ⊥
        same_part k is =
            let s = settled-by log proper j x settled in
            let c = (applied-committed log proper n k x.trans x is).1 in
            let own : x.trans.server ≡ c.0 = (committed-parts log proper c.0 x.trans (x, c.1) c.2).0 in
            let js : s.joins ≡ c.1 = same-joins log proper x s.joins c.1 s.committed (subst (λ m. HasCommitted log m x c.1) (sym own) c.2) in
            let there : k.server ≡ n = (along-end log proper n).seen k (ap IsSeen is) in
            let one_ : j ≡ k = spread-end log proper n x s.joins s.committed j k s.has (ap (has_join k) js ∙ c.3) (at ∙ sym there) in
            subst (IsHolding x.trans) (ap here.phases one_ ∙ is) hold

        no_one : (y : Stamp) (v : Decided) → IsIn (y, v) here.holder.applied → x ≡ y → ⊥
        no_one y v i e = elim (subst (IsTied log proper n here.fates here.phases) (sym e) (tied-end log proper n y v i)) [
          | inl own ↦ holding-away x.trans (here.phases j) ((linked-end log proper n).away j) hold own.0
          | inr k ↦ same_part k.0 k.1
        ]

    before : Before log proper n here.joined here.holder
    before = record {
      held_so = rebase (Began log proper n (is_left log proper here.phases)) (Began log proper n (is_still log proper n here.joined)) here.holder (began-same log proper n (is_left log proper here.phases) (is_still log proper n here.joined) (λ r i. left r.join (is_left log proper here.phases r.join) refl)) ((along-end log proper n).held);
      apart = (linked-end log proper n).apart;
      lives = λ j i t h. refl;
      news = λ j i x e h y. new-stamps j x e h;
    }
      where
        ready-seen : (p : Phase) → is_ready p ≡ true → IsSeen p ≡ true
        ready-seen (Ready t c ts) e = refl
        ready-seen Unseen e = e
        ready-seen (Joining t c w) e = refl
        ready-seen (Active t c w) e = refl
        ready-seen (Applied t x) e = refl
        ready-seen Over e = refl

        second_true : (a b : Bool) → (a && b) ≡ true → b ≡ true
        second_true true b e = e
        second_true false b e = (let wrong : false ≡ true = e in cc)

        left : (j : JoinNo) (b : Bool) → is_left log proper here.phases j ≡ b → b ≡ (b && has_join j here.joined)
        left j true e = sym (in-joins j here.joined ((linked-end log proper n).listed j (ready-seen (here.phases j) (second_true (is_noted log j) (is_ready (here.phases j)) e))))
        left j false e = refl

    done : Behind log proper n here.joined here.holder last
    done = settled-all log proper n here.joined here.holder before

    -- from the files of the start to those of the end
    cells-there : last.cells ≡ finish_of log n
    cells-there = done.cells

    base-there : (done.held_so).base ≡ start_of log n
    base-there = sym (held-none (is_still log proper n []) (opening_of log n).ready (λ r i. and-false (is_left log proper here.phases r.join)) (done.held_so).base) ∙ ((done.held_so).from).1
      where
        and-false : (c : Bool) → (c && false) ≡ false
        and-false true = refl
        and-false false = refl

    last-server : last.server ≡ n
    last-server = done.server ∙ here-end log proper n

    -- ---- and they are the decided ones

    short-all : AreShort (decided log)
    short-all = all-from (λ (d : Decision). IsShort (on n (shares_of log d))) (decided log) (λ d i. short-mine n d.0 d.1 (decided-in log proper d.0 d.1 i))

    merged-sorted : T (is_sorted stamp_cmp (all_keyed (decided log)))
    merged-sorted = keyed-sorted (decided log) short-all (decided-sorted log proper)

    -- a share that the server holds stands among them
    stands : (y : Stamp) (v : Decided) (js : List JoinNo) (d : IsDecision log proper y js) → on n (shares_of log (y, js)) ≡ v ∷ [] → at_key y (all_keyed (decided log)) ≡ Some v
    stands y v js d e =
        sorted-find y v (all_keyed (decided log)) merged-sorted
        (in-flat keyed (y, js) (y, v) (decided log) (in-decided log proper y js d) (subst (λ vs. IsIn {A = Stamp × Decided} (y, v) (list_map (λ w. (y, w)) vs)) (sym e) (inl refl)))

    share-there : (y : Stamp) (v : Decided) → at_key y here.holder.applied ≡ Some v → share_here log y n ≡ v ∷ []
    share-there y v e = ap (share_at here y) e

    from-last : (y : Stamp) (v : Decided) → at_key y last.applied ≡ Some v → at_key y (all_keyed (decided log)) ≡ Some v
    from-last y v e = elim (done.only y v e) [
      | inl a ↦
          let i : IsIn (y, v) here.holder.applied = find-in y v here.holder.applied a in
          elim (tied-end log proper n y v i) [
            | inl own ↦ (let d = own-decided log proper n y v i own.0 in stands y v _ d (share-own n y _ d own.0 ∙ share-there y v a))
            | inr k ↦
                let c = (applied-committed log proper n k.0 y.trans y k.1).1 in
                let at : (k.0).server ≡ n = (along-end log proper n).seen k.0 (ap IsSeen k.1) in
                let d : IsDecision log proper y c.1 = here-decision log proper c.0 y c.1 c.2 (young-join log proper n c.0 y c.1 k.0 c.3 at k.2) in
                stands y v c.1 d (share-part n y c.1 d k.0 c.3 at ∙ share-there y v a)
          ]
      | inr l ↦ late l
    ]
      where
        late : IsLate log proper n y v here.joined → at_key y (all_keyed (decided log)) ≡ Some v
        late l =
            let j : JoinNo = l.0 in
            let at : j.server ≡ n = (along-end log proper n).seen j (ap IsSeen l.5) in
            let s = settled-by log proper j y l.2 in
            let mine = subst (HasPart log proper n here.holder.lives j) l.5 ((linked-end log proper n).parts j) in
            let life : mine.0 ≡ l.6 = some-same mine.0 l.6 (sym mine.1 ∙ l.7) in
            let young : IsYoung log proper n j = elim mine.3 [
              | inl r ↦ absurd (let wrong : true ≡ false = ap (λ (z : Life). z.is_early) (sym r.4 ∙ life) ∙ l.8 in cc)
              | inr y ↦ y.1
            ] in
            elim s.origin [
              | inl d ↦ stands y v s.joins d (share-part n y s.joins d j s.has at ∙ share (at_key y here.holder.applied) refl)
              | inr w ↦ absurd (old-one j at young w.0 w.1 w.2 w.4)
            ]
          where
            share : (o : Option Decided) → at_key y here.holder.applied ≡ o → share_at here y o ≡ v ∷ []
            share None k = ap (of_life y) l.7 ∙ ap (λ (w : Decided). w ∷ []) (sym l.9)
            share (Some w) k = ap (λ (z : Decided). z ∷ []) (some-same w v (sym (done.old y w k) ∙ e))

            old-one : (j : JoinNo) → j.server ≡ n → IsYoung log proper n j → (w : ℕ) (d : DecisionNote) → IsIn d (opening_of log w).decisions → has_join j d.joins ≡ true → ⊥
            old-one j at young w d i has =
                let old : j.epoch < (opening_of log j.server).epoch = ((proper.sound w).decisions d i).known j has in
                let there : j.epoch < (opening_of log n).epoch = subst (λ m. j.epoch < (opening_of log m).epoch) at old in
                omega (arith, there, young)

    -- a part of a decided transaction that was not applied here is still ready
    record IsReadyHere (y : Stamp) : Type 0 where
      join : JoinNo
      life : Life
      client : ℕ
      ts : ℕ
      listed : IsIn join here.joined
      settled : stamp_of join (all_decisions log proper) ≡ Some y
      ready : here.phases join ≡ Ready y.trans client ts
      lives : here.holder.lives y.trans ≡ Some life
      young : life.is_early ≡ false

    late-part : (y : Stamp) (js : List JoinNo) (d : IsDecision log proper y js) → IsIn (y, js) (decided log) → IsShared n y js d → at_key y here.holder.applied ≡ None → IsReadyHere y
    late-part y js d i (inl own) k = absurd (let has = subst (λ m. Has y (final log m).holder.applied) own d.key in let wrong : None ≡ Some has.0 = sym k ∙ has.1 in cc)
    late-part y js d i (inr j) k = late (here.phases j.0) refl (subst (λ m. IsKept y ((final log m).phases j.0)) j.2 (kept log proper y.trans.server y js j.0 d.committed j.1)) ((linked-end log proper n).parts j.0) ((linked-end log proper n).kept j.0)
      where
        -- the decision that the join stands in is this one
        its-stamp : (c ts : ℕ) → here.phases j.0 ≡ Ready y.trans c ts → stamp_of j.0 (all_decisions log proper) ≡ Some y
        its-stamp c ts is =
            let z = in-stamp j.0 (all_decisions log proper) (y, js) (in-left (y, js) (decided log) (list_map (λ (n : DecisionNote). (n.stamp, n.joins)) (noted log)) i) j.1 in
            let q = settled-by log proper j.0 z.0 z.1 in
            let trans : y.trans ≡ (z.0).trans = ready-trans log proper n j.0 y.trans c ts z.0 is q in
            let two : decision_in ((final log y.trans.server).fates y.trans) ≡ Some (z.0, q.joins) = subst (λ (u : TransId). decision_in ((final log u.server).fates u) ≡ Some (z.0, q.joins)) (sym trans) q.committed in
            z.1 ∙ ap Some (ap (λ (e : Decision). e.0) (some-same (z.0, q.joins) (y, js) (sym two ∙ d.committed)))

        late : (p : Phase) → here.phases j.0 ≡ p → IsKept y p → HasPart log proper n here.holder.lives j.0 p → IsKeptAt log proper n here.holder.applied j.0 p → IsReadyHere y
        late Unseen is q h b = absurd (was-seen log proper y js d j.0 j.1 (ap (λ m. (final log m).phases j.0) j.2 ∙ is))
        late (Joining t c w) is q h b = absurd q
        late (Active t c w) is q h b = absurd q
        late Over is q h b = absurd q
        late (Applied t z) is q h b = elim b [
          | inl r ↦ absurd (note-old log proper n j.0 y r.0 r.1 (r.3 ∙ q.0) d.young)
          | inr w ↦ absurd (let wrong : None ≡ Some w.0 = sym k ∙ ap (λ m. at_key m here.holder.applied) (sym q.1) ∙ w.1 in cc)
        ]
        late (Ready t c ts) is q h b = elim h.3 [
          | inl r ↦ absurd (note-old log proper n j.0 y r.0 r.1 (r.3 ∙ q) d.young)
          | inr young ↦
              let ready : here.phases j.0 ≡ Ready y.trans c ts = is ∙ ap (λ (u : TransId). Ready u c ts) q in
              record {
                join = j.0;
                life = h.0;
                client = c;
                ts = ts;
                listed = (linked-end log proper n).listed j.0 (ap IsSeen is);
                settled = its-stamp c ts ready;
                ready = ready;
                lives = ap here.holder.lives (sym q) ∙ h.1;
                young = young.0;
              }
        ]

    to-last : (y : Stamp) (v : Decided) → at_key y (all_keyed (decided log)) ≡ Some v → at_key y last.applied ≡ Some v
    to-last y v e =
        let f = flat-in keyed (y, v) (decided log) (find-in y v (all_keyed (decided log)) e) in
        let m = map-in (λ (w : Decided). ((f.0).0, w)) (y, v) (on n (shares_of log f.0)) f.2 in
        let key : (f.0).0 ≡ y = ap (λ (z : Stamp × Decided). z.0) m.2 in
        let value : m.0 ≡ v = ap (λ (z : Stamp × Decided). z.1) m.2 in
        let i : IsIn (y, (f.0).1) (decided log) = subst (λ (z : Stamp). IsIn {A = Decision} (z, (f.0).1) (decided log)) key f.1 in
        let d : IsDecision log proper y (f.0).1 = decided-in log proper y (f.0).1 i in
        let among : IsIn v (on n (shares_of log (y, (f.0).1))) = subst (λ (z : Stamp). IsIn v (on n (shares_of log (z, (f.0).1)))) key (subst (λ (w : Decided). IsIn w (on n (shares_of log f.0))) value m.1) in
        elim (shared n y (f.0).1 d) [
          | inl none ↦ absurd (subst (IsIn v) none.0 among)
          | inr s ↦ there (f.0).1 d i s.0 (at_key y here.holder.applied) refl (subst (IsIn v) s.1 among)
        ]
      where
        only-one : (w : Decided) → IsIn v (w ∷ []) → v ≡ w
        only-one w i = elim i [ inl e ↦ e | inr k ↦ absurd k ]

        there : (js : List JoinNo) (d : IsDecision log proper y js) → IsIn (y, js) (decided log) → IsShared n y js d → (o : Option Decided) → at_key y here.holder.applied ≡ o → IsIn v (share_at here y o) → at_key y last.applied ≡ Some v
        there js d i s (Some w) k a = done.old y w k ∙ ap Some (sym (only-one w a))
        there js d i s None k a =
            let r = late-part y js d i s k in
            let v_is : v ≡ record_of y r.life = only-one (record_of y r.life) (subst (λ (l : Option Life). IsIn v (of_life y l)) r.lives a) in
            done.new r.join r.listed y r.life r.client r.ts r.settled r.ready r.lives r.young ∙ ap Some (sym v_is)

    same-list : last.applied ≡ all_keyed (decided log)
    same-list = same-lists last.applied (all_keyed (decided log)) (done.sorted (linked-end log proper n).sorted) merged-sorted from-last to-last

    -- ---- and what each of them changed here is what is kept of it

    -- what is kept here of an applied one
    here-left : (y : Stamp) (o : Option (List Edit)) → at_key y here.holder.left ≡ o → at_key y here.holder.applied ≡ None → o ≡ None
    here-left y None e k = refl
    here-left y (Some es) e k =
        let h = (along-end log proper n).held in
        let has = left-has here.holder.server (starting h.base) here.holder.applied y es (ap (at_key y) h.left_so ∙ e) in
        (let wrong : None ≡ Some has.0 = sym k ∙ has.1 in cc)

    there-left : (y : Stamp) (js : List JoinNo) → takes_part n (y, js) ≡ true → left_there log n (y, js) ≡ left_in here y (at_key y here.holder.left)
    there-left y js e = ap (λ (b : Bool). cond {A = List Edit} b (left_in here y (at_key y here.holder.left)) []) e

    left-some : (y : Stamp) (js : List JoinNo) (d : IsDecision log proper y js) → IsIn (y, js) (decided log) → (v : Decided) → on n (shares_of log (y, js)) ≡ v ∷ [] → at_key y last.left ≡ Some (left_there log n (y, js))
    left-some y js d i v e = elim (shared n y js d) [
      | inl none ↦ (let wrong : [] ≡ v ∷ [] = sym none.0 ∙ e in cc)
      | inr s ↦ go s.0 (at_key y here.holder.applied) refl ∙ ap Some (sym (there-left y js s.2))
    ]
      where
        go : IsShared n y js d → (o : Option Decided) → at_key y here.holder.applied ≡ o → at_key y last.left ≡ Some (left_in here y (at_key y here.holder.left))
        go s (Some w) k =
            let h = (along-end log proper n).held in
            let has = has-left here.holder.server (starting h.base) here.holder.applied y w k in
            let mine : at_key y here.holder.left ≡ Some has.0 = ap (at_key y) (sym h.left_so) ∙ has.1 in
            done.old_left y has.0 mine ∙ ap (λ o. Some (left_in here y o)) (sym mine)
        go s None k =
            let r = late-part y js d i s k in
            done.new_left r.join r.listed y r.life r.client r.ts r.settled r.ready r.lives r.young ∙ ap (λ o. Some (edits_in o)) (sym r.lives)
            ∙ ap (λ o. Some (left_in here y o)) (sym (here-left y (at_key y here.holder.left) refl k))

    left-none : (y : Stamp) (js : List JoinNo) (d : IsDecision log proper y js) → on n (shares_of log (y, js)) ≡ [] → left_there log n (y, js) ≡ []
    left-none y js d e = elim (shared n y js d) [
      | inl none ↦ ap (λ (b : Bool). cond {A = List Edit} b (left_in here y (at_key y here.holder.left)) []) none.1
      | inr s ↦ there-left y js s.2 ∙ go (at_key y here.holder.applied) refl (here.holder.lives y.trans) refl (sym s.1 ∙ e)
    ]
      where
        go : (o : Option Decided) → at_key y here.holder.applied ≡ o → (l : Option Life) → here.holder.lives y.trans ≡ l → share_at here y (at_key y here.holder.applied) ≡ [] → left_in here y (at_key y here.holder.left) ≡ []
        go (Some w) k l m none = (let wrong : w ∷ [] ≡ [] = ap (share_at here y) (sym k) ∙ none in cc)
        go None k (Some l) m none = (let wrong : record_of y l ∷ [] ≡ [] = ap (of_life y) (sym m) ∙ ap (share_at here y) (sym k) ∙ none in cc)
        go None k None m none = ap (left_in here y) (here-left y (at_key y here.holder.left) refl k) ∙ ap edits_in m

    -- what is kept of a transaction: nothing, what it changed as it was applied, or the intents of its ready part
    pub left-kinds : (y : Stamp) (js : List JoinNo) → IsIn (y, js) (decided log)
        → (left_there log n (y, js) ≡ []) ⊎ (at_key y here.holder.left ≡ Some (left_there log n (y, js))) ⊎ ((l : Life) × (here.holder.lives y.trans ≡ Some l) × (l.is_early ≡ false) × (left_there log n (y, js) ≡ l.edits))
    left-kinds y js i = elim (shared n y js d) [
      | inl none ↦ inl (ap (λ (b : Bool). cond {A = List Edit} b (left_in here y (at_key y here.holder.left)) []) none.1)
      | inr s ↦ inr (go s.0 s.2 (at_key y here.holder.applied) refl)
    ]
      where
        d : IsDecision log proper y js
        d = decided-in log proper y js i

        go : IsShared n y js d → takes_part n (y, js) ≡ true → (o : Option Decided) → at_key y here.holder.applied ≡ o
            → (at_key y here.holder.left ≡ Some (left_there log n (y, js))) ⊎ ((l : Life) × (here.holder.lives y.trans ≡ Some l) × (l.is_early ≡ false) × (left_there log n (y, js) ≡ l.edits))
        go s t (Some w) k =
            let h = (along-end log proper n).held in
            let has = has-left here.holder.server (starting h.base) here.holder.applied y w k in
            let mine : at_key y here.holder.left ≡ Some has.0 = ap (at_key y) (sym h.left_so) ∙ has.1 in
            inl (mine ∙ sym (ap Some (there-left y js t ∙ ap (left_in here y) mine)))
        go s t None k =
            let r = late-part y js d i s k in
            inr (r.life, r.lives, r.young, there-left y js t ∙ ap (left_in here y) (here-left y (at_key y here.holder.left) refl k) ∙ ap edits_in r.lives)

    -- what is kept here as applied is of a decided transaction, and is what is kept of it
    pub kept-decided : (y : Stamp) (es : List Edit) → at_key y here.holder.left ≡ Some es → (js : List JoinNo) × IsIn (y, js) (decided log) × (left_there log n (y, js) ≡ es)
    kept-decided y es e =
        let h = (along-end log proper n).held in
        let has = left-has here.holder.server (starting h.base) here.holder.applied y es (ap (at_key y) h.left_so ∙ e) in
        let f = flat-in keyed (y, has.0) (decided log) (find-in y has.0 (all_keyed (decided log)) (from-last y has.0 (done.old y has.0 has.1))) in
        let m = map-in (λ (w : Decided). ((f.0).0, w)) (y, has.0) (on n (shares_of log f.0)) f.2 in
        let key : (f.0).0 ≡ y = ap (λ (z : Stamp × Decided). z.0) m.2 in
        let i : IsIn (y, (f.0).1) (decided log) = subst (λ (z : Stamp). IsIn {A = Decision} (z, (f.0).1) (decided log)) key f.1 in
        let among : IsIn m.0 (on n (shares_of log (y, (f.0).1))) = subst (λ (z : Stamp). IsIn m.0 (on n (shares_of log (z, (f.0).1)))) key m.1 in (
          (f.0).1,
          i,
          elim (shared n y (f.0).1 (decided-in log proper y (f.0).1 i)) [
            | inl none ↦ absurd (subst (IsIn m.0) none.0 among)
            | inr s ↦ there-left y (f.0).1 s.2 ∙ ap (left_in here y) e
          ],
        )

    along-here : left_along n (starting (start_of log n)) (all_keyed (decided log)) ≡ last.left
    along-here =
        let h = done.held_so in
        ap (λ m. left_along m (starting (start_of log n)) (all_keyed (decided log))) (sym last-server) ∙ ap (λ b. left_along last.server (starting b) (all_keyed (decided log))) (sym base-there)
        ∙ ap (left_along last.server (starting h.base)) (sym same-list) ∙ h.left_so

    -- at its place among all a transaction changes what is kept of it
    pub its-left : (y : Stamp) (js : List JoinNo) → IsIn (y, js) (decided log) → (v : Decided) → on n (shares_of log (y, js)) ≡ v ∷ [] → (es : List Edit) → IsIn (y, es) (left_along n (starting (start_of log n)) (all_keyed (decided log)))
        → es ≡ left_there log n (y, js)
    its-left y js i v e es stands_so =
        let d = decided-in log proper y js i in
        let sorted : T (is_sorted stamp_cmp (left_along n (starting (start_of log n)) (all_keyed (decided log)))) =
        subst T (sym (left-sorted n (starting (start_of log n)) (all_keyed (decided log)))) merged-sorted in
        let found = sorted-find y es (left_along n (starting (start_of log n)) (all_keyed (decided log))) sorted stands_so in
        some-same es (left_there log n (y, js)) (sym found ∙ ap (at_key y) along-here ∙ left-some y js d i v e)

    pub none-left : (y : Stamp) (js : List JoinNo) → IsIn (y, js) (decided log) → on n (shares_of log (y, js)) ≡ [] → left_there log n (y, js) ≡ []
    none-left y js i e = left-none y js (decided-in log proper y js i) e

    -- the decided transactions, as they are here, are the applied ones
    listed : in_order last ≡ all_on log n (decided log)
    listed = ap (λ (es : List (Stamp × Decided)). list_map (λ (e : Stamp × Decided). e.1) es) same-list ∙ keyed-values (decided log)

    abbrev thread : List Decided → Type 0
    thread ds = one.IsSerial n (starting (start_of log n)) ds × ((one.serial_end n (starting (start_of log n)) ds).files ≡ finish_of log n)

    pub thread-here : thread (all_on log n (decided log))
    thread-here =
        let h = done.held_so in
        let t = one_thread (Began log proper n (is_still log proper n [])) last h in
        let at : ℕ → Cells → Cells → List Decided → Type 0 = λ m s f ds. one.IsSerial m (starting s) ds × ((one.serial_end m (starting s) ds).files ≡ f) in
        subst (at n (start_of log n) (finish_of log n)) listed
        (subst (λ (f : Cells). at n (start_of log n) f (in_order last)) cells-there (subst (λ (s : Cells). at n s last.cells (in_order last)) base-there (subst (λ m. at m (h.base) last.cells (in_order last)) last-server t)))

    -- ---- their writes bring their pages

    good-pages : (m : ℕ) (xs : List Item) (s : Standing) → AreGood m s xs → HaveTheirPages (history_of xs)
    good-pages m [] s g = tt
    good-pages m (x ∷ xs) s g = (calls x.1.calls g.0.formed, good-pages m xs (after_part m s x.1) g.1)
      where
        calls : (ds : List PerformedCall) → AllByRecursion (λ (d : PerformedCall). IsFormed d.call) ds → AllByRecursion (λ (c : PerformedCall). HasItsPages c.call) ds
        calls [] h = tt
        calls (d ∷ ds) h = (h.0.0, calls ds h.1)

    pub pages-here : HaveTheirPages (all_on log n (decided log))
    pages-here =
        let h = done.held_so in
        subst HaveTheirPages (ap (λ (ds : List (Stamp × Decided)). list_map (λ (x : Stamp × Decided). x.1) ds) h.list ∙ listed) (good-pages last.server h.parts (starting h.base) h.good)

  -- ---- charges

  pages-split : (xs ys : List Decided) → HaveTheirPages (xs ++ ys) → HaveTheirPages xs × HaveTheirPages ys
  pages-split [] ys h = (tt, h)
  pages-split (x ∷ xs) ys h = (let r = pages-split xs ys h.1 in ((h.0, r.0), r.1))

  charged : (at : Standings) (ds : List Decision) → ((n : ℕ) → AreSound (at n).files) → ((n : ℕ) → HaveTheirPages (all_on log n ds)) → IsChargedAfterEach log at ds
  charged at [] s h = tt
  charged at (d ∷ ds) s h =
      let next : (n : ℕ) → AreSound (after_shares at (shares_of log d) n).files =
      λ n. subst (λ (t : Standing). AreSound t.files) (sym (shares-end at (shares_of log d) n)) (end_sound n (at n) (on n (shares_of log d)) (pages-split (on n (shares_of log d)) (all_on log n ds) (h n)).0 (s n)) in
      (next, charged (after_shares at (shares_of log d)) ds next (λ n. (pages-split (on n (shares_of log d)) (all_on log n ds) (h n)).1))

  start-sound : (n : ℕ) → AreSound (start_of log n)
  start-sound n = (proper.sound n).files_begun

  pub history-of-all : IsOneThread log
  history-of-all = record {
    replies = severally log (starting_all log) (decided log) (λ n. (thread-here n).0);
    files = λ n. ap (λ (t : Standing). t.files) (severally-end log (starting_all log) (decided log) n) ∙ (thread-here n).1;
    charged = charged (starting_all log) (decided log) start-sound pages-here;
    charged_last = λ n. subst AreSound (thread-here n).1 (end_sound n (starting (start_of log n)) (all_on log n (decided log)) (pages-here n) (start-sound n));
  }

pub history : History
history = history-of-all
