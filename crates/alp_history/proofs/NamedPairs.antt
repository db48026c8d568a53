-- parts of which each is known by its name: whose locks agree two by two, whose way is free, and who is given first what is let go
use Rattle.std.specs.Prelude.{Bool, true, false, flat_map, ◌++◌, Option, Some}
use Rattle.std.specs.List.{list_any, AllByRecursion}
use Rattle.std.proofs.Common.{◌≡◌, ◌⊎◌, inl, inr, List, [], ◌∷◌, sym, subst, ◌∙◌}
use Rattle.alp_base.specs.declared.ids.JoinNo.{JoinNo}
use Rattle.alp_base.specs.declared.ids.TransId.{TransId}
use Rattle.alp_base.specs.declared.key.Resource.{Resource}
use Rattle.alp_files.specs.Holdings.{Holding, DoAgree, agree_held}
use Rattle.alp_files.specs.declared.call.Call.{Call}
use Rattle.alp_files.proofs.HoldingLemmas.{agree-turned}
use Rattle.alp_journal.specs.declared.entry.Entry.{Entry}
use Rattle.alp_journal.specs.Along.{Where, state_after}
use Rattle.alp_journal.specs.Ids.{same_trans}
use Rattle.alp_journal.specs.Deeds.{Deed}
use Rattle.alp_journal.specs.Holder.{Holder, Life, held_for}
use Rattle.alp_journal.specs.Desk.{Waiting}
use Rattle.alp_journal.specs.State.{State, state_deed}
use Rattle.alp_journal.specs.Moves.{event_deeds, act_deeds}
use Rattle.alp_journal.specs.Laws.{DoLivesAgree, IsFree, granted_by}
use Rattle.alp_journal.specs.Answered.{GivesOn, IsWalk, IsWaitingFor, in_turn, is_release, to_release}
use Rattle.alp_journal.proofs.IdLemmas.{same_trans-true, same_trans-itself, or-true}
use Rattle.alp_history.proofs.Places.{some-same}
use Rattle.alp_history.proofs.Named.{Only, has_trans, lives_named}
use Rattle.alp_history.proofs.NamedEnds.{each_trans}
use Rattle.alp_history.proofs.LawfulEntries.{held_in}

-- ---- locks

agree_back : (a b : Holding) → DoAgree a b → DoAgree b a
agree_back a b h r = agree-turned (b r) (a r) ∙ h r

-- the locks of two of these agree
abbrev pub DoTwoAgree : State → TransId → TransId → Type 0
DoTwoAgree s u v = DoAgree (held_in (s.holder.lives u)) (held_in (s.holder.lives v))

-- and so do those of any two
abbrev pub AreAgreed : State → List TransId → Type 0
AreAgreed s [] = Unit {0}
AreAgreed s (u ∷ us) = AllByRecursion (DoTwoAgree s u) us × AreAgreed s us

agreed_pair : (s : State) (us : List TransId) → AreAgreed s us → (v w : TransId) → has_trans v us ≡ true → has_trans w us ≡ true → same_trans v w ≡ false → DoTwoAgree s v w
agreed_pair s [] h v w a b other = let wrong : false ≡ true = a in absurd (let no : ⊥ = cc in no)
agreed_pair s (u ∷ us) h v w a b other = go (agreed_pair s us h.1 v w) (or-true (same_trans u v) (has_trans v us) a) (or-true (same_trans u w) (has_trans w us) b)
  where
    go : (has_trans v us ≡ true → has_trans w us ≡ true → same_trans v w ≡ false → DoTwoAgree s v w) → (same_trans u v ≡ true) ⊎ (has_trans v us ≡ true) → (same_trans u w ≡ true) ⊎ (has_trans w us ≡ true) → DoTwoAgree s v w
    go on (inl x) (inl y) =
        let wrong : true ≡ false = sym (same_trans-itself u) ∙ (λ i. same_trans (same_trans-true u v x i) (same_trans-true u w y i)) ∙ other in
        absurd (let no : ⊥ = cc in no)
    go on (inl x) (inr y) = subst (λ (z : TransId). DoTwoAgree s z w) (same_trans-true u v x) (each_trans (DoTwoAgree s u) us h.0 w y)
    go on (inr x) (inl y) = agree_back (held_in (s.holder.lives w)) (held_in (s.holder.lives v)) (subst (λ (z : TransId). DoTwoAgree s z v) (same_trans-true u w y) (each_trans (DoTwoAgree s u) us h.0 v x))
    go on (inr x) (inr y) = on x y other

module _ (ts : List TransId) (js : List JoinNo) (s : State) (known : Only ts js s) where
  pub pairs_agree : AreAgreed s ts → DoLivesAgree s.holder.lives
  pairs_agree h v w k l kv lw other =
      subst (λ (x : Option Life). DoAgree k.held (held_in x)) lw
      (subst (λ (x : Option Life). DoAgree (held_in x) (held_in (s.holder.lives w))) kv
      (agreed_pair s ts h v w (lives_named ts js s known v k kv) (lives_named ts js s known w l lw) other))

  -- what no other named part holds in another way is free
  pub free_of : (t : TransId) (l : Life) (c : Call) → AllByRecursion (λ (u : TransId). same_trans u t ≡ false → DoAgree (held_in (s.holder.lives u)) (held_for s.holder l c)) ts → IsFree s.holder t l c
  free_of t l c all u k ku other =
      subst (λ (x : Option Life). DoAgree (held_in x) (held_for s.holder l c)) ku
      (each_trans (λ (z : TransId). same_trans z t ≡ false → DoAgree (held_in (s.holder.lives z)) (held_for s.holder l c)) ts all u (lives_named ts js s known u k ku) other)

-- ---- whose way is not free

-- another part's lock is in the way
pub blocked_by : (h : Holder) (u t : TransId) (k l : Life) (c : Call) (on : Resource) → h.lives u ≡ Some k → h.lives t ≡ Some l → same_trans u t ≡ false → agree_held (k.held on) (held_for h l c on) ≡ false
    → (x : Life) → h.lives t ≡ Some x → IsFree h t x c → ⊥
blocked_by h u t k l c on at live other apart x is free =
    let wrong : true ≡ false = sym (subst (λ (y : Life). IsFree h t y c) (some-same x l (sym is ∙ live)) free u k at other on) ∙ apart in
    cc

-- ---- who is first

-- where the first one's way is free, no other one is given first
pub first_is_given : (h : Holder) (w : Waiting) (ws : List Waiting) (t u : TransId) (us : List TransId) (l : Life) → IsWaitingFor h w t l → IsFree h t l w.call → (t ≡ u → ⊥) → IsWalk h (w ∷ ws) (u ∷ us) → ⊥
first_is_given h w ws t u us l waits free away (IsWalk.passes _ _ _ _ kept rest) = kept t l waits free
first_is_given h w ws t u us l waits free away (IsWalk.takes _ _ _ _ _ k its own rest) = away (some-same t u (sym waits.call ∙ its.call))

-- ---- what is given on, step by step

-- what comes about up to the release, who waits then, and in which order
pub record IsReleased (s : State) (e : Entry) (ds : List Deed) (ws vs : List Waiting) (ts : List TransId) : Type 0 where
  pub releases : list_any is_release e.acts ≡ true
  pub deeds : event_deeds s e.event e.reply e.acts ++ flat_map (act_deeds s e.event) (to_release e.acts) ≡ ds
  pub waits : s.desk.waits ≡ ws
  pub order : in_turn (state_after state_deed s ds).holder ws ≡ vs
  pub grants : flat_map granted_by e.acts ≡ ts

module _ (s : State) (e : Entry) (ds : List Deed) (ws vs : List Waiting) (ts : List TransId) (h : IsReleased s e ds ws vs ts) where
  abbrev Walk : List Deed → List Waiting → List TransId → Type 0
  Walk ds ws ts = IsWalk (state_after state_deed s ds).holder (in_turn (state_after state_deed s ds).holder ws) ts

  abbrev first_deeds : List Deed
  first_deeds = event_deeds s e.event e.reply e.acts ++ flat_map (act_deeds s e.event) (to_release e.acts)

  pub gives_on : IsWalk (state_after state_deed s ds).holder vs ts → GivesOn s e
  gives_on walk =
      subst (λ (b : Bool). Where b (Walk first_deeds s.desk.waits (flat_map granted_by e.acts)) (Unit {0})) (sym h.releases)
      (subst (Walk first_deeds s.desk.waits) (sym h.grants)
      (subst (λ (xs : List Waiting). Walk first_deeds xs ts) (sym h.waits)
      (subst (λ (xs : List Deed). Walk xs ws ts) (sym h.deeds)
      (subst (λ (xs : List Waiting). IsWalk (state_after state_deed s ds).holder xs ts) (sym h.order) walk))))

  pub gives_back : GivesOn s e → IsWalk (state_after state_deed s ds).holder vs ts
  gives_back gives =
      subst (λ (xs : List Waiting). IsWalk (state_after state_deed s ds).holder xs ts) h.order
      (subst (λ (xs : List Deed). Walk xs ws ts) h.deeds
      (subst (λ (xs : List Waiting). Walk first_deeds xs ts) h.waits
      (subst (Walk first_deeds s.desk.waits) h.grants
      (subst (λ (b : Bool). Where b (Walk first_deeds s.desk.waits (flat_map granted_by e.acts)) (Unit {0})) h.releases gives))))
