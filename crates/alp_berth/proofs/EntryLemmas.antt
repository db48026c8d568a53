-- the further entries of a berth, with their ranks
use Rattle.std.specs.Prelude.{slice_get, slice_index_or, ◌||◌, Bool, true, false, Some, None, map, drop, take, IfSome}
use Rattle.std.specs.List.{list_any, AllByRecursion}
use Rattle.std.proofs.Common.{inl, inr, ◌⊎◌, ◌≡◌, ℕ, zero, suc, ◌+◌, ◌-◌, ◌<◌, ◌≤◌, ◌^◌, List, [], ◌∷◌, ◌++◌, length, refl, sym, ap, ◌∙◌, subst, arith, length-append}
use mathlib.Core.List.{IsPrefix, append_assoc, append-nil}
use Rattle.alp_journal.specs.Answered.{entries_limit}
use Rattle.alp_journal.specs.Moves.{stops}
use Rattle.alp_journal.specs.declared.entry.Entry.{Entry}
use Rattle.alp_vault.specs.declared.vault.Vault.{Ghosts}
use Rattle.alp_node.specs.NodeStates.{NodeState}
use Rattle.alp_berth.specs.Berths.{ranked, entry_of, rank_of, last_in, stood, since_of, last_of, IsShut, further_of, entries_of, IsBerth}
use Rattle.alp_berth.specs.BerthStates.{BerthState}
use Rattle.alp_berth.specs.declared.made.Made.{Made}
use Rattle.alp_berth.specs.declared.made.Ranked.{Ranked}
use Rattle.alp_berth.proofs.SendLemmas.{ranked_both, ranked_long}
use Rattle.alp_berth.proofs.BerthLemmas.{beyond_more}

pub last_index : (xs : List ℕ) → slice_index_or xs (length xs - 1) 0 ≡ last_in xs
last_index [] = refl
last_index (x ∷ []) = refl
last_index (x ∷ y ∷ xs) =
    let on : slice_index_or (y ∷ xs) (length (y ∷ xs) - 1) 0 ≡ last_in (y ∷ xs) = last_index (y ∷ xs) in
    let here : length (x ∷ y ∷ xs) - 1 ≡ suc (length xs) = omega arith in
    let there : length xs ≡ length (y ∷ xs) - 1 = omega arith in
    ap (λ (n : ℕ). slice_index_or (x ∷ y ∷ xs) n 0) here ∙ ap (λ (n : ℕ). slice_index_or (y ∷ xs) n 0) there ∙ on

module _ {A : Type 0} where
  -- what stands last
  pub last_is : (before xs : List A) (y d : A) → xs ≡ before ++ y ∷ [] → slice_index_or xs (length xs - 1) d ≡ y
  last_is before xs y d is =
      let n : length xs - 1 ≡ length before = (let m = ap length is ∙ length-append before (y ∷ []) in omega (arith, m)) in
      (λ i. slice_index_or (is i) (n i) d) ∙ go before
    where
      go : (l : List A) → slice_index_or (l ++ y ∷ []) (length l) d ≡ y
      go [] = refl
      go (z ∷ l) = go l

  pub not_empty : (before xs : List A) (y : A) → xs ≡ before ++ y ∷ [] → xs ≡ [] → ⊥
  not_empty before xs y is none = (let n : length (before ++ y ∷ []) ≡ 0 = ap length (sym is ∙ none) in let m = length-append before (y ∷ []) in omega (arith, n, m))

  long_after : (xs ys : List A) → IsPrefix xs ys → length xs + length (drop (length xs) ys) ≡ length ys
  long_after xs ys p = (ap (λ l. length xs + length (drop (length xs) l)) (sym p.1) ∙ (ap (λ l. length xs + length l) (drop_here xs p.0) ∙ sym (length-append xs p.0))) ∙ ap length p.1
    where
      drop_here : (us zs : List A) → drop (length us) (us ++ zs) ≡ zs
      drop_here [] zs = refl
      drop_here (u ∷ us) zs = drop_here us zs

  both_parts : (xs ys : List A) → IsPrefix xs ys → xs ++ drop (length xs) ys ≡ ys
  both_parts xs ys p = ap (λ l. xs ++ drop (length xs) l) (sym p.1) ∙ (ap (λ l. xs ++ l) (drop_here xs p.0) ∙ p.1)
    where
      drop_here : (us zs : List A) → drop (length us) (us ++ zs) ≡ zs
      drop_here [] zs = refl
      drop_here (u ∷ us) zs = drop_here us zs

any_ranked : (f : Entry → Bool) (es : List Entry) (rs : List ℕ) → length rs ≡ length es → list_any (λ (x : Ranked). f x.entry) (ranked es rs) ≡ list_any f es
any_ranked f [] rs same = refl
any_ranked f (e ∷ es) [] same = absurd (omega (arith, same))
any_ranked f (e ∷ es) (r ∷ rs) same = go (f e) (any_ranked f es rs (omega (arith, same)))
  where
    go : (b : Bool) {x y : Bool} → x ≡ y → (b || x) ≡ (b || y)
    go b same = ap (λ z. b || z) same

ranks_of : (es : List Entry) (rs : List ℕ) → length rs ≡ length es → map rank_of (ranked es rs) ≡ rs
ranks_of [] [] same = refl
ranks_of [] (r ∷ rs) same = absurd (omega (arith, same))
ranks_of (e ∷ es) [] same = absurd (omega (arith, same))
ranks_of (e ∷ es) (r ∷ rs) same = ap (λ l. r ∷ l) (ranks_of es rs (omega (arith, same)))

module _ {V : Type 0} (G : Ghosts V) (made : Made V) (n : NodeState V) (ranks : List ℕ) (h : IsBerth G made n ranks) where
  abbrev since : ℕ
  since = length made.node.value.journal

  rest_ranks : drop since ranks ≡ drop (length made.ranks.value.items) ranks
  rest_ranks = ap (λ k. drop k ranks) (sym h.stood_long)

  pub rest_long : length (drop since ranks) ≡ length (further_of made n)
  rest_long =
      let a = long_after made.node.value.journal n.journal h.journal in
      let b = long_after made.ranks.value.items ranks h.ranks_are in
      let c = ap length rest_ranks in
      let s = h.stood_long in
      let l = h.long in
      omega (arith, a, b, c, s, l)

  abbrev pub es : List Ranked
  es = ranked (further_of made n) (drop since ranks)

  pub entries_long : length es + since ≡ length n.journal
  entries_long = (let a = long_after made.node.value.journal n.journal h.journal in let r = ranked_long (further_of made n) (drop since ranks) rest_long in omega (arith, a, r))

  pub all_ranked : stood made ++ es ≡ ranked n.journal ranks
  all_ranked =
      sym (ranked_both made.node.value.journal (further_of made n) made.ranks.value.items (drop since ranks) h.stood_long)
      ∙ (λ i. ranked (both_parts made.node.value.journal n.journal h.journal i) ((ap (λ l. made.ranks.value.items ++ l) rest_ranks ∙ both_parts made.ranks.value.items ranks h.ranks_are) i))

  pub last_all : last_of made es ≡ last_in ranks
  last_all = ap last_in (ap (λ l. made.ranks.value.items ++ l) (ranks_of (further_of made n) (drop since ranks) rest_long ∙ rest_ranks) ∙ both_parts made.ranks.value.items ranks h.ranks_are)

  pub any_all : (f : Entry → Bool) → list_any (λ (x : Ranked). f x.entry) es ≡ list_any f (further_of made n)
  any_all f = any_ranked f (further_of made n) (drop since ranks) rest_long

  -- one more
  pub one_further : (e : Entry) (r : ℕ) (js : List Entry) (rs : List ℕ) → js ≡ n.journal ++ e ∷ [] → rs ≡ ranks ++ r ∷ [] → ranked (drop since js) (drop since rs) ≡ es ++ record { entry = e; rank = r } ∷ []
  one_further e r js rs is rank_is =
      (λ i. ranked (beyond_more made.node.value.journal n.journal js e h.journal is i) (beyond i))
      ∙ ranked_both (further_of made n) (e ∷ []) (drop since ranks) (r ∷ []) rest_long
    where
      beyond : drop since rs ≡ drop since ranks ++ r ∷ []
      beyond =
          ap (λ k. drop k rs) (sym h.stood_long)
          ∙ (beyond_more made.ranks.value.items ranks rs r h.ranks_are rank_is ∙ ap (λ l. l ++ r ∷ []) (sym rest_ranks))

  -- it takes no step more
  pub shut_down : n.kept.is_down ≡ true → IsShut made es
  shut_down down = inl (any_all stops ∙ (sym h.down ∙ down))

  pub shut_full : entries_limit ≤ length n.journal → IsShut made es
  shut_full full = inr (let l = entries_long in omega (arith, full, l))
