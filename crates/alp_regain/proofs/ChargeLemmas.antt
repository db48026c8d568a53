-- what owners are charged with what intents put and what they take away
use Rattle.std.specs.Prelude.{cond, Bool, true, false, not, ◌||◌, Option, None, Some, is_some}
use Rattle.std.specs.Option.{option_or}
use Rattle.std.specs.FinMap as map
use Rattle.std.specs.FinMap.{same_map}
use Rattle.std.proofs.Common.{◌≡◌, ℕ, ◌+◌, List, refl, sym, ◌∙◌, ap, arith}
use Rattle.alp_base.specs.KeyLaws.{keys_total, exact_keys}
use Rattle.alp_base.specs.declared.cell.Cell.{Cell}
use Rattle.alp_base.specs.declared.cell.Cell.TheVariants as cell
use Rattle.alp_base.specs.declared.ids.FileId.{FileId}
use Rattle.alp_base.specs.declared.key.Key.{Key}
use Rattle.alp_base.specs.declared.key.Key.TheVariants.{Leader, PageOf, OwnerOf}
use Rattle.alp_files.specs.Cells.{Cells}
use Rattle.alp_files.specs.Files.{IsOfKind, cost, charge_of}
use Rattle.alp_files.specs.Needs.{Intents, is_gone, is_leader}
use Rattle.alp_files.proofs.ChargeLemmas.{AreKinds}
use Rattle.alp_files.proofs.IntentLemmas.{kept}
use Rattle.alp_files.proofs.SumLemmas.{sum_of, sum-retain_keys, sum_of-nothing}
use Rattle.alp_trans.specs.Counting.{with_intents}
use Rattle.alp_calls.specs.Parts.{AllFit}
use Rattle.alp_calls.proofs.IntentCounts.{get-left, get-with}
use Rattle.alp_regain.specs.Touched.{is_touched, DoChargesFollow}
use Rattle.alp_regain.proofs.TouchedLemmas.{kind_of_fit}

not_not : (b : Bool) → not (not b) ≡ b
not_not true = refl
not_not false = refl

some_kept : (b : Bool) (o : Option Cell) (c : Cell) → cond b o None ≡ Some c → (b ≡ true) × (o ≡ Some c)
some_kept true o c h = (refl, h)
some_kept false o c h = cc

-- what is kept of cells of their kinds is of its kind
kept_kinds : (p : Key → Bool) (m : Cells) → AreKinds (map.get m) → AreKinds (map.get (map.retain_keys m p))
kept_kinds p m kinds k c h = kinds k c (some_kept (p k) (map.get m k) c (sym (kept p m k) ∙ h)).1

-- ---- parts of a map

module _ (owner : List ℕ) where
  weigh : Key × Cell → ℕ
  weigh e = cost owner e.1

  -- those that pass, weighed
  passing : (p : Key → Bool) (m : Cells) → sum_of (λ (e : Key × Cell). cond (p e.0) (cost owner e.1) 0) m ≡ charge_of (map.retain_keys m p) owner
  passing p m =
      let u : Key × Cell → ℕ = λ e. cond (p e.0) (cost owner e.1) 0 in
      let n : Cells = map.retain_keys m (λ k. not (not (p k))) in
      let same : n ≡ map.retain_keys m p = ap (λ (q : Key → Bool). map.retain_keys m q) (λ i k. not_not (p k) i) in
      let outside : sum_of (λ (e : Key × Cell). cond (not (p e.0)) (u e) 0) m ≡ 0 = sum_of-nothing keys_total exact_keys (λ (e : Key × Cell). cond (not (p e.0)) (u e) 0) m (λ k c is. none (p k) (cost owner c)) in
      let inside : sum_of (λ (e : Key × Cell). cost owner e.1) (map.retain_keys n (λ k. not (p k))) ≡ 0 =
      sum_of-nothing keys_total exact_keys (λ (e : Key × Cell). cost owner e.1) (map.retain_keys n (λ k. not (p k))) (λ k c is. absurd (both_ways (p k) k c is)) in
      omega (
        arith,
        sum-retain_keys keys_total exact_keys u m (λ k. not (p k)),
        outside,
        sum-retain_keys keys_total exact_keys (λ (e : Key × Cell). cost owner e.1) n p,
        inside,
        ap (λ (x : Cells). charge_of x owner) same,
      )
    where
      none : (b : Bool) (x : ℕ) → cond (not b) (cond b x 0) 0 ≡ 0
      none true x = refl
      none false x = refl

      apart : (b : Bool) → not (not b) ≡ true → not b ≡ true → ⊥
      apart true h k = cc
      apart false h k = cc

      both_ways : (b : Bool) (k : Key) (c : Cell) → map.get (map.retain_keys (map.retain_keys m (λ q. not (not (p q)))) (λ q. not (p q))) k ≡ Some c → ⊥
      both_ways b k c is =
          let outer = some_kept (not (p k)) (map.get (map.retain_keys m (λ q. not (not (p q)))) k) c (sym (kept (λ q. not (p q)) (map.retain_keys m (λ q. not (not (p q)))) k) ∙ is) in
          let inner = some_kept (not (not (p k))) (map.get m k) c (sym (kept (λ q. not (not (p q))) m k) ∙ outer.1) in
          apart (p k) inner.0 outer.0

  split : (p : Key → Bool) (m : Cells) → charge_of (map.retain_keys m (λ k. not (p k))) owner + charge_of (map.retain_keys m p) owner ≡ charge_of m owner
  split p m = omega (arith, sum-retain_keys keys_total exact_keys (λ (e : Key × Cell). cost owner e.1) m p, passing p m)

  -- of cells of their kinds leaders alone cost
  others_free : (m : Cells) → AreKinds (map.get m) → charge_of (map.retain_keys m (λ k. not (is_leader k))) owner ≡ 0
  others_free m kinds = sum_of-nothing keys_total exact_keys (λ (e : Key × Cell). cost owner e.1) (map.retain_keys m (λ k. not (is_leader k)))
      (λ k c is. (let h = some_kept (not (is_leader k)) (map.get m k) c (sym (kept (λ q. not (is_leader q)) m k) ∙ is) in free k c (kinds k c h.1) h.0))
    where
      free : (k : Key) (c : Cell) → IsOfKind k c → not (is_leader k) ≡ true → cost owner c ≡ 0
      free (Leader f) c kind h = cc
      free (PageOf f n) (cell.Leader p) kind h = absurd kind
      free (PageOf f n) (cell.Page bytes) kind h = refl
      free (PageOf f n) (cell.Owner o) kind h = refl
      free (OwnerOf name) (cell.Leader p) kind h = absurd kind
      free (OwnerOf name) (cell.Page bytes) kind h = refl
      free (OwnerOf name) (cell.Owner o) kind h = refl

  -- so the same leaders are charged the same
  same_charge : (a b : Cells) → AreKinds (map.get a) → AreKinds (map.get b) → ((f : FileId) → map.get a (Leader f) ≡ map.get b (Leader f)) → charge_of a owner ≡ charge_of b owner
  same_charge a b akinds bkinds same =
      omega (arith, split is_leader a, others_free a akinds, split is_leader b, others_free b bkinds, ap (λ (x : Cells). charge_of x owner) alike)
    where
      at : (k : Key) → cond (is_leader k) (map.get a k) None ≡ cond (is_leader k) (map.get b k) None
      at (Leader f) = same f
      at (PageOf f n) = refl
      at (OwnerOf name) = refl

      alike : map.retain_keys a is_leader ≡ map.retain_keys b is_leader
      alike = same_map keys_total exact_keys (map.retain_keys a is_leader) (map.retain_keys b is_leader) (λ k. kept is_leader a k ∙ at k ∙ sym (kept is_leader b k))

-- ---- with intents

module _ (i : Intents) (m : Cells) (kinds : AreKinds (map.get m)) (fit : AllFit i.puts) where
  put_kinds : AreKinds (map.get i.puts)
  put_kinds k c e = kind_of_fit k c (fit k c e)

  get_at : (k : Key) → map.get (with_intents i m) k ≡ option_or (map.get i.puts k) (cond (is_gone i k) None (map.get m k))
  get_at k = get-with i m k ∙ ap (option_or (map.get i.puts k)) (get-left i m k)

  with_kinds : AreKinds (map.get (with_intents i m))
  with_kinds k c h = go (map.get i.puts k) refl (sym (get_at k) ∙ h)
    where
      below : (b : Bool) → cond {A = Option Cell} b None (map.get m k) ≡ Some c → IsOfKind k c
      below true e = cc
      below false e = kinds k c e

      go : (o : Option Cell) → map.get i.puts k ≡ o → option_or o (cond (is_gone i k) None (map.get m k)) ≡ Some c → IsOfKind k c
      go (Some x) e f = put_kinds k c (e ∙ f)
      go None e f = below (is_gone i k) f

  -- a leader that is not touched is seen as it lies below
  untouched : (f : FileId) → cond {A = Option Cell} (not (is_touched i (Leader f))) (map.get (with_intents i m) (Leader f)) None ≡ cond {A = Option Cell} (not (is_touched i (Leader f))) (map.get m (Leader f)) None
  untouched f = ap (λ (o : Option Cell). cond {A = Option Cell} (not (is_touched i (Leader f))) o None) (get_at (Leader f)) ∙ go (map.get i.puts (Leader f)) (map.contains_key i.drops f)
    where
      go : (o : Option Cell) (b : Bool) → cond {A = Option Cell} (not (is_some o || b)) (option_or o (cond b None (map.get m (Leader f)))) None ≡ cond {A = Option Cell} (not (is_some o || b)) (map.get m (Leader f)) None
      go (Some x) b = refl
      go None true = refl
      go None false = refl

  -- one that is touched is seen as it was put
  touched : (f : FileId) → cond {A = Option Cell} (is_touched i (Leader f)) (map.get (with_intents i m) (Leader f)) None ≡ map.get i.puts (Leader f)
  touched f = ap (λ (o : Option Cell). cond {A = Option Cell} (is_touched i (Leader f)) o None) (get_at (Leader f)) ∙ go (map.get i.puts (Leader f)) (map.contains_key i.drops f)
    where
      go : (o : Option Cell) (b : Bool) → cond {A = Option Cell} (is_some o || b) (option_or o (cond b None (map.get m (Leader f)))) None ≡ o
      go (Some x) b = refl
      go None true = refl
      go None false = refl

  pub charges_follow : DoChargesFollow i m
  charges_follow owner =
      let w : Cells = with_intents i m in
      let p : Key → Bool = is_touched i in
      let left : charge_of (map.retain_keys w (λ k. not (p k))) owner ≡ charge_of (map.retain_keys m (λ k. not (p k))) owner =
      same_charge owner (map.retain_keys w (λ k. not (p k))) (map.retain_keys m (λ k. not (p k))) (kept_kinds (λ k. not (p k)) w with_kinds) (kept_kinds (λ k. not (p k)) m kinds)
      (λ f. kept (λ k. not (p k)) w (Leader f) ∙ untouched f ∙ sym (kept (λ k. not (p k)) m (Leader f))) in
      let new : charge_of (map.retain_keys w p) owner ≡ charge_of i.puts owner =
      same_charge owner (map.retain_keys w p) i.puts (kept_kinds p w with_kinds) put_kinds (λ f. kept p w (Leader f) ∙ touched f) in
      omega (arith, split owner p w, split owner p m, left, new)
