-- changes that earlier runs had made ready may come before all others, in any order
use Rattle.std.specs.Prelude.{Bool, true, false, cond}
use Rattle.std.proofs.Common.{◌≡◌, List, [], ◌∷◌, refl, sym, ap, ◌∙◌, inl, inr}
use Rattle.alp_base.specs.declared.ids.JoinNo.{JoinNo}
use Rattle.alp_files.specs.Holdings.{held_by, DoAgree, DoAgreeOnLeaves, IsIntended}
use Rattle.alp_files.proofs.HoldingLemmas.{agreement-of-leaves}
use Rattle.alp_files.specs.Cells.{Cells}
use Rattle.alp_files.specs.Edits.{edits_map}
use Rattle.alp_files.specs.Locks.{Writes}
use Rattle.alp_files.specs.Apart.{IsWithin}
use Rattle.alp_files.proofs.HeldLemmas.{apart, writes-is-reads}
use Rattle.alp_files.proofs.FrameLemmas.{edits-commute}
use Rattle.alp_journal.specs.Ids.{same_trans, same_join}
use Rattle.alp_journal.specs.Opening.{ReadyNote}
use Rattle.alp_history.specs.Log.{IsIn, AreDistinct, held}
use Rattle.alp_history.proofs.Places.{all-in}
use Rattle.alp_journal.proofs.IdLemmas.{same_trans-true, same_trans-itself}

-- the test is asked of the notes' joins alone
pub held-same : (p q : JoinNo → Bool) (rs : List ReadyNote) → ((r : ReadyNote) → IsIn r rs → p r.join ≡ q r.join) → (m : Cells) → held p rs m ≡ held q rs m
held-same p q [] f m = refl
held-same p q (r ∷ rs) f m =
    held-same p q rs (λ x i. f x (inr i)) (cond (p r.join) (edits_map r.edits m) m) ∙ ap (λ (b : Bool). held q rs (cond b (edits_map r.edits m) m)) (f r (inl refl))

pub held-none : (p : JoinNo → Bool) (rs : List ReadyNote) → ((r : ReadyNote) → IsIn r rs → p r.join ≡ false) → (m : Cells) → held p rs m ≡ m
held-none p [] f m = refl
held-none p (r ∷ rs) f m = held-none p rs (λ x i. f x (inr i)) (cond (p r.join) (edits_map r.edits m) m) ∙ ap (λ (b : Bool). cond b (edits_map r.edits m) m) (f r (inl refl))

-- what is known of a note, and of two of one server
pub record IsFit (r : ReadyNote) : Type 0 where
  pub intended : IsIntended (held_by r.locks)
  pub covered : IsWithin (Writes (held_by r.locks)) r.edits

notes-commute : (r q : ReadyNote) → IsFit r → IsFit q → DoAgree (held_by r.locks) (held_by q.locks) → (m : Cells) → edits_map q.edits (edits_map r.edits m) ≡ edits_map r.edits (edits_map q.edits m)
notes-commute r q f g agree m =
    let leaves : DoAgreeOnLeaves (held_by r.locks) (held_by q.locks) = agreement-of-leaves (held_by r.locks) (held_by q.locks) agree f.intended g.intended in
    edits-commute (Writes (held_by r.locks)) (Writes (held_by q.locks)) (λ k w x. apart (held_by r.locks) (held_by q.locks) leaves k w (writes-is-reads (held_by q.locks) k x)) r.edits q.edits f.covered g.covered m

-- one of the notes may come first
module _ (r : ReadyNote) (fit : IsFit r) (p q : JoinNo → Bool) (now : p r.join ≡ true) (then_ : q r.join ≡ false) where
  pub held-first : (rs : List ReadyNote) → AreDistinct rs → ((x : ReadyNote) → IsIn x rs → (IsFit x) × (same_trans r.trans x.trans ≡ false → DoAgree (held_by r.locks) (held_by x.locks)))
      → ((x : ReadyNote) → IsIn x rs → same_join r.join x.join ≡ false → p x.join ≡ q x.join) → ((x : ReadyNote) → IsIn x rs → same_join x.join r.join ≡ false → same_join r.join x.join ≡ false)
      → ((x : ReadyNote) → IsIn x rs → same_trans x.trans r.trans ≡ false → same_trans r.trans x.trans ≡ false) → IsIn r rs → (m : Cells) → held p rs m ≡ held q rs (edits_map r.edits m)
  held-first [] d fits rest tj tt_ i m = absurd i
  held-first (x ∷ rs) d fits rest tj tt_ (inl e) m =
      let other : (y : ReadyNote) → IsIn y rs → same_join r.join y.join ≡ false =
      λ y i. ap (λ (z : ReadyNote). same_join z.join y.join) e ∙ (all-in (λ (y : ReadyNote). (same_trans x.trans y.trans ≡ false) × (same_join x.join y.join ≡ false)) rs y d.0 i).1 in
      ap (λ (z : ReadyNote). held p rs (cond (p z.join) (edits_map z.edits m) m)) (sym e) ∙ ap (λ (b : Bool). held p rs (cond b (edits_map r.edits m) m)) now
      ∙ held-same p q rs (λ y i. rest y (inr i) (other y i)) (edits_map r.edits m)
      ∙ sym (ap (λ (z : ReadyNote). held q rs (cond (q z.join) (edits_map z.edits (edits_map r.edits m)) (edits_map r.edits m))) (sym e) ∙ ap (λ (b : Bool). held q rs (cond b (edits_map r.edits (edits_map r.edits m)) (edits_map r.edits m))) then_)
  held-first (x ∷ rs) d fits rest tj tt_ (inr i) m =
      let both = all-in (λ (y : ReadyNote). (same_trans x.trans y.trans ≡ false) × (same_join x.join y.join ≡ false)) rs r d.0 i in
      let join : same_join r.join x.join ≡ false = tj x (inl refl) both.1 in
      let trans : same_trans r.trans x.trans ≡ false = tt_ x (inl refl) both.0 in
      let f = fits x (inl refl) in
      held-first rs d.1 (λ y k. fits y (inr k)) (λ y k. rest y (inr k)) (λ y k. tj y (inr k)) (λ y k. tt_ y (inr k)) i (cond (p x.join) (edits_map x.edits m) m)
      ∙ ap (held q rs) (turned (p x.join) f.0 (f.1 trans) m ∙ ap (λ (b : Bool). cond b (edits_map x.edits (edits_map r.edits m)) (edits_map r.edits m)) (rest x (inl refl) join))
    where
      turned : (b : Bool) → IsFit x → DoAgree (held_by r.locks) (held_by x.locks) → (m : Cells) → edits_map r.edits (cond b (edits_map x.edits m) m) ≡ cond b (edits_map x.edits (edits_map r.edits m)) (edits_map r.edits m)
      turned true g agree m = sym (notes-commute r x fit g agree m)
      turned false g agree m = refl

-- the notes of one server are of different transactions
pub one-of-trans : (rs : List ReadyNote) → AreDistinct rs → (r q : ReadyNote) → IsIn r rs → IsIn q rs → same_trans r.trans q.trans ≡ true → r ≡ q
one-of-trans [] d r q i j e = absurd i
one-of-trans (y ∷ rs) d r q (inl a) (inl b) e = a ∙ sym b
one-of-trans (y ∷ rs) d r q (inr i) (inr j) e = one-of-trans rs d.1 r q i j e
one-of-trans (y ∷ rs) d r q (inl a) (inr j) e =
    let other = (all-in (λ (z : ReadyNote). (same_trans y.trans z.trans ≡ false) × (same_join y.join z.join ≡ false)) rs q d.0 j).0 in
    let wrong : true ≡ false = sym e ∙ ap (λ (z : ReadyNote). same_trans z.trans q.trans) a ∙ other in cc
one-of-trans (y ∷ rs) d r q (inr i) (inl b) e =
    let other = (all-in (λ (z : ReadyNote). (same_trans y.trans z.trans ≡ false) × (same_join y.join z.join ≡ false)) rs r d.0 i).0 in
    let same : q.trans ≡ r.trans = sym (same_trans-true r.trans q.trans e) in
    let wrong : true ≡ false = sym (same_trans-itself r.trans) ∙ ap (λ t. same_trans t r.trans) (sym same) ∙ ap (λ (z : ReadyNote). same_trans z.trans r.trans) b ∙ other in cc

-- and one of them behind those that agree with it
pub held-behind : (r : ReadyNote) → IsFit r → (q : JoinNo → Bool) (rs : List ReadyNote) → ((x : ReadyNote) → IsIn x rs → q x.join ≡ true → IsFit x × DoAgree (held_by r.locks) (held_by x.locks)) → (m : Cells)
    → held q rs (edits_map r.edits m) ≡ edits_map r.edits (held q rs m)
held-behind r fit q [] apart m = refl
held-behind r fit q (x ∷ rs) apart m = ap (held q rs) (turned (q x.join) refl) ∙ held-behind r fit q rs (λ y i. apart y (inr i)) (cond (q x.join) (edits_map x.edits m) m)
  where
    turned : (b : Bool) → q x.join ≡ b → cond b (edits_map x.edits (edits_map r.edits m)) (edits_map r.edits m) ≡ edits_map r.edits (cond b (edits_map x.edits m) m)
    turned true e = let a = apart x (inl refl) e in notes-commute r x fit a.0 a.1 m
    turned false e = refl
