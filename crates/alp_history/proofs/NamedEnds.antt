-- what follows for all joins and all stamps from the few that a journal names
use Rattle.std.specs.Prelude.{Bool, true, false, ◌&&◌, ◌||◌, ◌==◌, Option, None, Some}
use Rattle.std.specs.List.{list_all, AllByRecursion}
use Rattle.std.proofs.Common.{◌≡◌, ℕ, List, [], ◌∷◌, refl, sym, ap, subst, ◌∙◌, inl, inr}
use Rattle.std.proofs.lemmas.Bool.{and_parts}
use Rattle.alp_base.specs.declared.ids.JoinNo.{JoinNo}
use Rattle.alp_base.specs.declared.ids.TransId.{TransId}
use Rattle.alp_base.specs.declared.ids.Stamp.{Stamp}
use Rattle.alp_journal.specs.Ids.{same_trans, same_join, same_stamp, has_join, has_stamp}
use Rattle.alp_journal.specs.Participant.{is_ready}
use Rattle.alp_journal.specs.Holder.{Life}
use Rattle.alp_journal.specs.Desk.{Waiting, file_trans}
use Rattle.alp_journal.specs.State.{State}
use Rattle.alp_journal.specs.Laws.{IsHolding, is_standing}
use Rattle.alp_journal.proofs.IdLemmas.{same_trans-true, same_join-true, or-true, all-each}
use Rattle.alp_history.proofs.Named.{Only, has_trans}

-- a part that did not vote
abbrev pub vote_in : Option Life → Option ℕ
vote_in None = None
vote_in (Some l) = l.vote

pub no_vote : (o : Option Life) → vote_in o ≡ None → (l : Life) → o ≡ Some l → l.vote ≡ None
no_vote o none l h = sym (ap vote_in h) ∙ none

-- no file call waits
abbrev pub file_in : Option Waiting → Option TransId
file_in None = None
file_in (Some w) = file_trans w.call

pub no_file_call : (o : Option Waiting) → file_in o ≡ None → (w : Waiting) → o ≡ Some w → file_trans w.call ≡ None
no_file_call o none w h = sym (ap file_in h) ∙ none

-- what holds of each named join
pub each_join : (P : JoinNo → Type 0) (js : List JoinNo) → AllByRecursion P js → (j : JoinNo) → has_join j js ≡ true → P j
each_join P [] h j k = cc
each_join P (i ∷ is) h j k = elim (or-true (same_join i j) (has_join j is) k) [
  | inl this ↦ subst P (same_join-true i j this) h.0
  | inr more ↦ each_join P is h.1 j more
]

pub each_trans : (P : TransId → Type 0) (ts : List TransId) → AllByRecursion P ts → (t : TransId) → has_trans t ts ≡ true → P t
each_trans P [] h t k = cc
each_trans P (u ∷ us) h t k = elim (or-true (same_trans u t) (has_trans t us) k) [
  | inl this ↦ subst P (same_trans-true u t this) h.0
  | inr more ↦ each_trans P us h.1 t more
]

any_stamp : (p : Stamp → Bool) (xs : List Stamp) (x : Stamp) → list_all p xs ≡ true → has_stamp x xs ≡ true → (y : Stamp) × (p y ≡ true) × (same_stamp y x ≡ true)
any_stamp p [] x h k = cc
any_stamp p (y ∷ ys) x h k = elim (or-true (same_stamp y x) (has_stamp x ys) k) [
  | inl this ↦ (y, (and_parts (p y) (list_all p ys) h).0, this)
  | inr more ↦ any_stamp p ys x (and_parts (p y) (list_all p ys) h).1 more
]

module _ (ts : List TransId) (js : List JoinNo) (s : State) (h : Only ts js s) where
  -- no join holds on to the transaction
  pub holds_none : (t : TransId) → AllByRecursion (λ j. IsHolding t (s.phases j) → ⊥) js → (j : JoinNo) → IsHolding t (s.phases j) → ⊥
  holds_none t all j = go (has_join j js) refl
    where
      go : (b : Bool) → has_join j js ≡ b → IsHolding t (s.phases j) → ⊥
      go true e k = each_join (λ i. IsHolding t (s.phases i) → ⊥) js all j e k
      go false e k = subst (IsHolding t) (h.phases j e) k

  -- just these are ready
  pub ready_found : (joins : List JoinNo) → list_all (λ j. has_join j js) joins ≡ true → AllByRecursion (λ j. has_join j joins ≡ is_ready (s.phases j)) js
      → (j : JoinNo) → has_join j joins ≡ is_ready (s.phases j)
  ready_found joins among all j = go (has_join j js) refl
    where
      none : has_join j js ≡ false → (b : Bool) → has_join j joins ≡ b → b ≡ false
      none e false k = refl
      none e true k = let wrong : true ≡ false = sym (all-each (λ i. has_join i js) joins j among k) ∙ e in cc

      go : (b : Bool) → has_join j js ≡ b → has_join j joins ≡ is_ready (s.phases j)
      go true e = each_join (λ i. has_join i joins ≡ is_ready (s.phases i)) js all j e
      go false e = none e (has_join j joins) refl ∙ ap is_ready (sym (h.phases j e))

  -- just these decisions stand
  abbrev pub IsStandingOf : List Stamp → TransId → Type 0
  IsStandingOf stamps t = (n : ℕ) → has_stamp (record { ts = n; trans = t }) stamps ≡ is_standing (record { ts = n; trans = t }) (s.fates t)

  pub stamps_found : (stamps : List Stamp) → list_all (λ (x : Stamp). has_trans x.trans ts) stamps ≡ true → AllByRecursion (IsStandingOf stamps) ts
      → (x : Stamp) → has_stamp x stamps ≡ is_standing x (s.fates x.trans)
  stamps_found stamps among all x = go (has_trans x.trans ts) refl
    where
      none : has_trans x.trans ts ≡ false → (b : Bool) → has_stamp x stamps ≡ b → b ≡ false
      none e false k = refl
      none e true k =
          let y = any_stamp (λ (z : Stamp). has_trans z.trans ts) stamps x among k in
          let same : (y.0).trans ≡ x.trans = same_trans-true (y.0).trans x.trans (and_parts ((y.0).ts == x.ts) (same_trans (y.0).trans x.trans) y.2).1 in
          let wrong : true ≡ false = sym y.1 ∙ ap (λ t. has_trans t ts) same ∙ e in
          cc

      go : (b : Bool) → has_trans x.trans ts ≡ b → has_stamp x stamps ≡ is_standing x (s.fates x.trans)
      go true e = each_trans (IsStandingOf stamps) ts all x.trans e x.ts
      go false e = none e (has_stamp x stamps) refl ∙ ap (is_standing x) (sym (h.fates x.trans e))

pub or_false : (b : Bool) → (b || false) ≡ b
or_false true = refl
or_false false = refl

pub and_false : (b : Bool) → (b && false) ≡ false
and_false true = refl
and_false false = refl
