-- who is remembered as dead, and why
use Rattle.std.specs.List.{AllByRecursion}
use Rattle.std.specs.Prelude.{cond, Bool, true, false, ◌==◌, ◌&&◌, not, filter, Option, None, Some}
use Rattle.std.proofs.Common.{◌≡◌, ℕ, List, [], ◌∷◌, ◌++◌, refl, sym, ◌∙◌, ap, subst, eq-eqb}
use Rattle.std.proofs.lemmas.Bool.{eqb-true}
use Rattle.alp_base.specs.declared.ids.TransId.{TransId}
use Rattle.alp_files.specs.declared.refusal.Cause.{Cause}
use Rattle.alp_journal.specs.Ids.{same_trans}
use Rattle.alp_journal.proofs.IdLemmas.{same_trans-true}
use Rattle.alp_journal.proofs.WaitLemmas.{turned}
use Rattle.alp_node.specs.Dead.{is_part, cause_from, cause_in, without_client, without_part}
use Rattle.alp_node.specs.declared.dead.DeadPart.{DeadPart}

-- ---- what is left where some go

module _ (gone : DeadPart → Bool) (d : ℕ) (u : TransId) where
  abbrev then_cause : DeadPart → Option Cause → Option Cause
  then_cause x c = cond {A = Option Cause} (is_part d u x) (Some x.cause) c

  -- of those that all go none is left
  pub all_gone : ((x : DeadPart) → is_part d u x ≡ true → gone x ≡ true) → (ds : List DeadPart) (c : Option Cause) → cause_from c (filter (λ x. not (gone x)) ds) d u ≡ c
  all_gone each [] c = refl
  all_gone each (x ∷ xs) c = go (gone x) refl (λ y. all_gone each xs y)
    where
      here : gone x ≡ false → (b : Bool) → is_part d u x ≡ b → cond {A = Option Cause} b (Some x.cause) c ≡ c
      here e false f = refl
      here e true f = let wrong : false ≡ true = sym e ∙ each x f in cc

      go : (b : Bool) → gone x ≡ b → ((y : Option Cause) → cause_from y (filter (λ z. not (gone z)) xs) d u ≡ y)
          → cause_from c (cond {A = List DeadPart} (not b) (x ∷ filter (λ y. not (gone y)) xs) (filter (λ y. not (gone y)) xs)) d u ≡ c
      go true e rest = rest c
      go false e rest = rest (then_cause x c) ∙ here e (is_part d u x) refl

  -- of those of which none goes all are left
  pub none_gone : ((x : DeadPart) → is_part d u x ≡ true → gone x ≡ false) → (ds : List DeadPart) (c : Option Cause) → cause_from c (filter (λ x. not (gone x)) ds) d u ≡ cause_from c ds d u
  none_gone each [] c = refl
  none_gone each (x ∷ xs) c = go (gone x) refl (λ y. none_gone each xs y)
    where
      here : gone x ≡ true → (b : Bool) → is_part d u x ≡ b → c ≡ cond {A = Option Cause} b (Some x.cause) c
      here e false f = refl
      here e true f = let wrong : true ≡ false = sym e ∙ each x f in cc

      go : (b : Bool) → gone x ≡ b → ((y : Option Cause) → cause_from y (filter (λ z. not (gone z)) xs) d u ≡ cause_from y xs d u)
          → cause_from c (cond {A = List DeadPart} (not b) (x ∷ filter (λ y. not (gone y)) xs) (filter (λ y. not (gone y)) xs)) d u ≡ cause_from (then_cause x c) xs d u
      go false e rest = rest (then_cause x c)
      go true e rest = rest c ∙ ap (λ (y : Option Cause). cause_from y xs d u) (here e (is_part d u x) refl)

both : (x y : Bool) → x && y ≡ true → (x ≡ true) × (y ≡ true)
both true y h = (refl, h)
both false y h = cc

-- ---- the client's

pub none_left : (ds : List DeadPart) (d client : ℕ) (u : TransId) → d ≡ client → cause_in (without_client client ds) d u ≡ None
none_left ds d client u same =
    all_gone (λ x. x.client == client) d u (λ x h. eq-eqb x.client client (eqb-true x.client d (both (x.client == d) (same_trans x.trans u) h).0 ∙ same)) ds None

pub others_left : (ds : List DeadPart) (d client : ℕ) (u : TransId) → (d == client) ≡ false → cause_in (without_client client ds) d u ≡ cause_in ds d u
others_left ds d client u away =
    none_gone (λ x. x.client == client) d u (λ x h. ap (λ (n : ℕ). n == client) (eqb-true x.client d (both (x.client == d) (same_trans x.trans u) h).0) ∙ away) ds None

-- nobody's dead part of the client is left
pub dead_buried : (client : ℕ) (ds : List DeadPart) (d : ℕ) (u : TransId) → cond {A = Option Cause} (d == client) None (cause_in ds d u) ≡ cause_in (without_client client ds) d u
dead_buried client ds d u = go (d == client) refl
  where
    go : (b : Bool) → (d == client) ≡ b → cond {A = Option Cause} b None (cause_in ds d u) ≡ cause_in (without_client client ds) d u
    go true e = sym (none_left ds d client u (eqb-true d client e))
    go false e = sym (others_left ds d client u e)

-- ---- one of them

pub part_left : (ds : List DeadPart) (client : ℕ) (t : TransId) (d : ℕ) (u : TransId) → cond {A = Option Cause} (d == client && same_trans u t) None (cause_in ds d u) ≡ cause_in (without_part client t ds) d u
part_left ds client t d u = go (d == client && same_trans u t) refl
  where
    go : (b : Bool) → (d == client && same_trans u t) ≡ b → cond {A = Option Cause} b None (cause_in ds d u) ≡ cause_in (without_part client t ds) d u
    go true e =
        let parts = both (d == client) (same_trans u t) e in
        sym (all_gone (is_part client t) d u
        (λ x h. (λ i. x.client == sym (eqb-true d client parts.0) i && same_trans x.trans (sym (same_trans-true u t parts.1) i)) ∙ h) ds None)
    go false e = sym (none_gone (is_part client t) d u
        (λ x h. (let parts = both (x.client == d) (same_trans x.trans u) h in (λ i. eqb-true x.client d parts.0 i == client && same_trans (same_trans-true x.trans u parts.1 i) t) ∙ e)) ds None)

-- where some go, who was not dead is not dead
pub alive_still : (b : Bool) (x y : Option Cause) → cond {A = Option Cause} b None x ≡ y → x ≡ None → y ≡ None
alive_still true x y same none = sym same
alive_still false x y same none = sym same ∙ none

-- one more

pub turned_eq : (m n : ℕ) → (m == n) ≡ (n == m)
turned_eq m n = go (m == n) (n == m) refl refl
  where
    go : (x y : Bool) → (m == n) ≡ x → (n == m) ≡ y → x ≡ y
    go true true e f = refl
    go false false e f = refl
    go true false e f = let wrong : true ≡ false = sym (eq-eqb n m (sym (eqb-true m n e))) ∙ f in cc
    go false true e f = let wrong : false ≡ true = sym e ∙ eq-eqb m n (sym (eqb-true n m f)) in cc

more_dead : (ds : List DeadPart) (c : Option Cause) (x : DeadPart) (d : ℕ) (u : TransId) → cause_from c (ds ++ x ∷ []) d u ≡ cond {A = Option Cause} (is_part d u x) (Some x.cause) (cause_from c ds d u)
more_dead [] c x d u = refl
more_dead (y ∷ ys) c x d u = more_dead ys (cond {A = Option Cause} (is_part d u y) (Some y.cause) c) x d u

pub dead_then : (ds : List DeadPart) (client : ℕ) (t : TransId) (c : Cause) (d : ℕ) (u : TransId)
    → cond {A = Option Cause} (d == client && same_trans u t) (Some c) (cause_in ds d u) ≡ cause_in (ds ++ (record { client = client; trans = t; cause = c }) ∷ []) d u
dead_then ds client t c d u =
    (λ i. cond {A = Option Cause} (turned_eq d client i && turned u t i) (Some c) (cause_in ds d u))
    ∙ sym (more_dead ds None (record { client = client; trans = t; cause = c }) d u)

-- ---- what holds of each

same_cause : (a b : Cause) → Some a ≡ Some b → a ≡ b
same_cause a b e = cc

pub each_cause : (P : Cause → Type 0) (ds : List DeadPart) (c : Option Cause) (client : ℕ) (t : TransId) (x : Cause) → AllByRecursion (λ (d : DeadPart). P d.cause) ds → ((y : Cause) → c ≡ Some y → P y)
    → cause_from c ds client t ≡ Some x → P x
each_cause P [] c client t x all first is = first x is
each_cause P (d ∷ ds) c client t x all first is = each_cause P ds (cond {A = Option Cause} (is_part client t d) (Some d.cause) c) client t x all.1 (go (is_part client t d)) is
  where
    go : (b : Bool) (y : Cause) → cond {A = Option Cause} b (Some d.cause) c ≡ Some y → P y
    go true y e = subst P (same_cause d.cause y e) all.0
    go false y e = first y e
