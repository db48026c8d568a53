-- a client's join is its only one of the transaction, and its part the only one
use Rattle.std.specs.Prelude.{cond, Bool, true, false, ◌==◌, ◌&&◌, filter, Option, None, Some}
use Rattle.std.specs.FinMap as map
use Rattle.std.proofs.Common.{◌≡◌, ℕ, ◌+◌, ◌≤◌, List, [], ◌∷◌, length, refl, sym, ◌∙◌, ap, subst, arith}
use Rattle.std.proofs.lemmas.Bool.{eq-eqb}
use Rattle.alp_base.specs.declared.ids.JoinNo.{JoinNo}
use Rattle.alp_base.specs.declared.ids.TransId.{TransId}
use Rattle.alp_journal.specs.Coordinator.{client_of}
use Rattle.alp_journal.specs.Ids.{same_join, same_trans}
use Rattle.alp_journal.proofs.IdLemmas.{same_join-true, same_trans-true, same_trans-itself}
use Rattle.alp_journal.proofs.StandLemmas.{not_both_servers}
use Rattle.alp_coord.specs.Coordinators.{fate_in}
use Rattle.alp_coord.specs.declared.coordinator.Coordinator.{Coordinator}
use Rattle.alp_worker.specs.declared.joins.Joins.{Joins}
use Rattle.alp_worker.specs.declared.live.LiveJoin.{LiveJoin}
use Rattle.alp_worker.specs.Lives.{is_at, is_part, join_at, AreSingle}
use Rattle.alp_node.specs.Paired.{is_in, IsPartOf, IsPairedWith, ArePaired}
use Rattle.alp_node.specs.Totals.{LiveMap}
use Rattle.alp_node.specs.declared.lives.Live.{Live}
use Rattle.alp_node.proofs.JoinMoves.{same_some, joined_by}

-- ---- counting

module _ (q : LiveJoin → Bool) where
  -- as many pass behind one more, and one more where that passes
  behind : (n : ℕ) (l : LiveJoin) (ls : List LiveJoin) → n ≤ length (filter q ls) → n ≤ length (filter q (l ∷ ls))
  behind n l ls h = go (q l)
    where
      go : (b : Bool) → n ≤ length (cond {A = List LiveJoin} b (l ∷ filter q ls) (filter q ls))
      go true = omega (arith, h)
      go false = h

  before : (n : ℕ) (l : LiveJoin) (ls : List LiveJoin) → q l ≡ true → n ≤ length (filter q ls) → n + 1 ≤ length (filter q (l ∷ ls))
  before n l ls so h = subst (λ (b : Bool). n + 1 ≤ length (cond {A = List LiveJoin} b (l ∷ filter q ls) (filter q ls))) (sym so) (omega (arith, h))

  -- one passes that is there
  one_passes : (ls : List LiveJoin) (j : JoinNo) (y : LiveJoin) → join_at ls j ≡ Some y → q y ≡ true → 1 ≤ length (filter q ls)
  one_passes [] j y e so = (let wrong : ◌≡◌ {A = Option LiveJoin} None (Some y) = e in cc)
  one_passes (l ∷ ls) j y e so = go (one_passes ls j y) (is_at j l) e
    where
      go : (join_at ls j ≡ Some y → q y ≡ true → 1 ≤ length (filter q ls)) → (b : Bool) → cond {A = Option LiveJoin} b (Some l) (join_at ls j) ≡ Some y → 1 ≤ length (filter q (l ∷ ls))
      go rest true e = before 0 l ls (ap q (same_some l y e) ∙ so) (omega arith)
      go rest false e = behind 1 l ls (rest e so)

  -- and two of two numbers
  two_pass : (ls : List LiveJoin) (j i : JoinNo) (y x : LiveJoin) → join_at ls j ≡ Some y → join_at ls i ≡ Some x → same_join i j ≡ false → q y ≡ true → q x ≡ true → 2 ≤ length (filter q ls)
  two_pass [] j i y x e d apart so its = (let wrong : ◌≡◌ {A = Option LiveJoin} None (Some y) = e in cc)
  two_pass (l ∷ ls) j i y x e d apart so its = go (two_pass ls j i y x) (is_at j l) refl (is_at i l) refl e d
    where
      go : (join_at ls j ≡ Some y → join_at ls i ≡ Some x → same_join i j ≡ false → q y ≡ true → q x ≡ true → 2 ≤ length (filter q ls)) → (b : Bool) → is_at j l ≡ b → (c : Bool) → is_at i l ≡ c
          → cond {A = Option LiveJoin} b (Some l) (join_at ls j) ≡ Some y → cond {A = Option LiveJoin} c (Some l) (join_at ls i) ≡ Some x → 2 ≤ length (filter q (l ∷ ls))
      go rest true f true g e d =
          let wrong : true ≡ false = sym g ∙ ap (same_join i) (sym (same_join-true j l.join f)) ∙ apart in
          cc
      go rest true f false g e d = before 1 l ls (ap q (same_some l y e) ∙ so) (one_passes ls i x d its)
      go rest false f true g e d = before 1 l ls (ap q (same_some l x d) ∙ its) (one_passes ls j y e so)
      go rest false f false g e d = behind 2 l ls (rest e d apart so its)

-- ---- the only join

pub same_number : (ls : List LiveJoin) (client : ℕ) (t : TransId) (j i : JoinNo) (y x : LiveJoin) → AreSingle ls → join_at ls j ≡ Some y → join_at ls i ≡ Some x → is_part client t y ≡ true → is_part client t x ≡ true → same_join i j ≡ true
same_number ls client t j i y x single there here so its = go (same_join i j) refl
  where
    go : (b : Bool) → same_join i j ≡ b → b ≡ true
    go true e = refl
    go false e = absurd (let two : 2 ≤ length (filter (is_part client t) ls) = two_pass (is_part client t) ls j i y x there here e so its in let one : length (filter (is_part client t) ls) ≤ 1 = single client t in omega (arith, two, one))

pub is_its : (client : ℕ) (t : TransId) (y : LiveJoin) → y.trans ≡ t → y.client ≡ client → is_part client t y ≡ true
is_its client t y of own = λ i. (ap (λ (v : TransId). same_trans v t) of ∙ same_trans-itself t) i && eq-eqb y.client client own i

-- ---- the only part

module _ (servers here : ℕ) (c : Coordinator) (k : Joins) (lives : LiveMap) (h : ArePaired servers here c k lives) (single : AreSingle k.lives) (j : JoinNo) (y : LiveJoin) (there : join_at k.lives j ≡ Some y) where
  -- a live part of the same client and transaction is that join's
  pub its_part : (l : Live) → map.get lives y.trans ≡ Some l → l.client ≡ y.client → is_in y.stage ≡ true
  its_part l live own = go l.join refl (subst (IsPairedWith k y.trans (fate_in c y.trans)) live (h.parts y.trans))
    where
      go : (o : Option JoinNo) → l.join ≡ o → IsPartOf k y.trans l (fate_in c y.trans) o → is_in y.stage ≡ true
      go None of p = absurd (not_both_servers servers here y.trans.server (h.others j y there) (h.own y.trans l.client p.0))
      go (Some i) of p =
          let x = joined_by servers here c k lives y.trans l i h live of in
          let same : same_join i j ≡ true = same_number k.lives y.client y.trans j i y x.0 single there x.1 (is_its y.client y.trans y refl refl) (is_its y.client y.trans x.0 x.2 (x.3 ∙ own)) in
          ap (λ (z : LiveJoin). is_in z.stage) (same_some y x.0 (sym there ∙ ap (join_at k.lives) (sym (same_join-true i j same)) ∙ x.1)) ∙ x.4
