-- where nobody stands in the way, what is left agrees with what the others hold
use Rattle.std.proofs.Common.{◌≡◌, Bool, true, false, ◌&&◌, not, cond, List, [], ◌∷◌, Option, Some, None, is_some, filter, option_map, refl, sym, ap, subst, ◌∙◌}
use Rattle.std.specs.List.{find, AllByRecursion}
use Rattle.std.specs.Option.{unwrap_or, option_or, option_eq}
use Rattle.std.specs.Ordering.{eq_by_cmp, is_eq}
use Rattle.std.specs.Cmp.{alike_right, eq_by_cmp_equiv}
use Rattle.std.specs.FinMap as map
use Rattle.std.specs.FinMap.{get-empty, get-entries, get-insert, find as found}
use Rattle.alp_base.specs.declared.ids.TransId.{TransId}
use Rattle.alp_base.specs.declared.key.Resource.{Resource}
use Rattle.alp_modes.specs.declared.Mode.{Mode}
use Rattle.alp_modes.specs.contracts.ModePartialEq.TheImpl as mode_eq
use Rattle.alp_base.specs.Orders.{trans_cmp, resource_cmp, transactions_total, exact_resources}
use Rattle.alp_files.specs.Holdings.{agree_held, DoAgree}
use Rattle.alp_modes.proofs.ModeLemmas.{exact-modes}
use Rattle.alp_files.proofs.HoldingLemmas.{agree-turned}
use Rattle.alp_queue.specs.Rises.{Held, is_raised}
use Rattle.alp_locks.specs.Tables.{Holders, held_of, holding, IsAgreeing}
use Rattle.alp_locks.specs.Asks.{disagrees, holder_on, blocker}
use Rattle.alp_locks.proofs.HeldLemmas.{tied}

pub some-none : {X : Type 0} (x : X) → Some x ≡ None → ⊥
some-none x e = let wrong : true ≡ false = ap is_some e in cc

-- ---- nobody on one resource

agreed : (b c : Bool) → b ≡ false → (not b && not c) ≡ false → c ≡ true
agreed true c e h = cc
agreed false true e h = refl
agreed false false e h = cc

none-found : {X : Type 0} (b : Bool) (x : X) (o : Option X) → option_map (λ (y : X). y) (cond b (Some x) o) ≡ None → (b ≡ false) × (o ≡ None)
none-found true x o h = absurd (some-none x h)
none-found false x None h = (refl, refl)
none-found false x (Some y) h = absurd (some-none y h)

none-mapped : {X Y : Type 0} (f : X → Y) (o : Option X) → option_map f o ≡ None → option_map (λ (y : X). y) o ≡ None
none-mapped f None h = refl
none-mapped f (Some x) h = absurd (some-none (f x) h)

pub nothing-agrees : (r : Resource) (m : Mode) → agree_held (map.get (map.empty {X = Mode} {R = resource_cmp}) r) (Some m) ≡ true
nothing-agrees r m = ap (λ o. agree_held o (Some m)) (get-empty resource_cmp r)

agrees-in : (t : TransId) (n : Resource × Mode) (es : List (TransId × Held)) → option_map (λ (e : TransId × Held). e) (find (disagrees t n) es) ≡ None
    → (u : TransId) → eq_by_cmp trans_cmp t u ≡ false → agree_held (map.get (unwrap_or (found trans_cmp u es) map.empty) n.0) (Some n.1) ≡ true
agrees-in t n [] h u apart = nothing-agrees n.0 n.1
agrees-in t n (e ∷ es) h u apart =
    let holders = none-found (disagrees t n e) e (find (disagrees t n) es) h in
    let rest : option_map (λ (x : TransId × Held). x) (find (disagrees t n) es) ≡ None = ap (option_map (λ (x : TransId × Held). x)) holders.1 in
    go (eq_by_cmp trans_cmp u e.0) refl holders.0 (agrees-in t n es rest u apart)
  where
    go : (b : Bool) → eq_by_cmp trans_cmp u e.0 ≡ b → disagrees t n e ≡ false
        → agree_held (map.get (unwrap_or (found trans_cmp u es) map.empty) n.0) (Some n.1) ≡ true
        → agree_held (map.get (unwrap_or (cond b (Some e.1) (found trans_cmp u es)) map.empty) n.0) (Some n.1) ≡ true
    go true is clear later =
        agreed (eq_by_cmp trans_cmp t e.0) (agree_held (map.get e.1 n.0) (Some n.1))
        (sym (ap is_eq (alike_right transactions_total u e.0 t (tied (trans_cmp u e.0) is))) ∙ apart) clear
    go false is clear later = later

pub agrees-on : (holders : Holders) (t : TransId) (n : Resource × Mode) → holder_on holders t n ≡ None
    → (u : TransId) → eq_by_cmp trans_cmp t u ≡ false → agree_held (holding holders u n.0) (Some n.1) ≡ true
agrees-on holders t n h u apart =
    ap (λ (o : Option Held). agree_held (map.get (unwrap_or o map.empty) n.0) (Some n.1)) (get-entries holders u)
    ∙ agrees-in t n (map.entries holders) (none-mapped (λ (e : TransId × Held). e.0) (find (disagrees t n) (map.entries holders)) h) u apart

-- ---- nobody on any of the resources

pub or-none : {X : Type 0} (a b : Option X) → option_or a b ≡ None → (a ≡ None) × (b ≡ None)
or-none None b h = (refl, h)
or-none (Some x) b h = absurd (some-none x h)

pub clear-each : (holders : Holders) (t : TransId) (ns : List (Resource × Mode)) → blocker holders t ns ≡ None → AllByRecursion (λ n. holder_on holders t n ≡ None) ns
clear-each holders t [] h = tt
clear-each holders t (n ∷ ns) h = let both = or-none (holder_on holders t n) (blocker holders t ns) h in (both.0, clear-each holders t ns both.1)

-- ---- what stands at a resource is among those that rise, or was there before

pub some-same : {X : Type 0} (x y : X) → Some x ≡ Some y → x ≡ y
some-same x y e = ap (λ (o : Option _). unwrap_or o x) e

pub at-risen : (P : Resource × Mode → Type 0) (p : Resource × Mode → Bool) (es : List (Resource × Mode)) → AllByRecursion P (filter p es)
    → (r : Resource) (m : Mode) → found resource_cmp r es ≡ Some m → p (r, m) ≡ true → P (r, m)
at-risen P p [] h r m is passes = absurd (some-none m (sym is))
at-risen P p (e ∷ es) h r m is passes = go (eq_by_cmp resource_cmp r e.0) refl is (p e) refl h
    (λ k. at-risen P p es k r m)
  where
    first : AllByRecursion P (e ∷ filter p es) → r ≡ e.0 → e.1 ≡ m → P (r, m)
    first k a b = subst P (λ i. (sym a i, b i)) k.0

    go : (b : Bool) → eq_by_cmp resource_cmp r e.0 ≡ b → cond b (Some e.1) (found resource_cmp r es) ≡ Some m
        → (c : Bool) → p e ≡ c → AllByRecursion P (cond c (e ∷ filter p es) (filter p es))
        → (AllByRecursion P (filter p es) → found resource_cmp r es ≡ Some m → p (r, m) ≡ true → P (r, m)) → P (r, m)
    go true a b true c k later = first k (exact_resources r e.0 (tied (resource_cmp r e.0) a)) (some-same e.1 m b)
    go true a b false c k later =
        let same : e ≡ (r, m) = λ i. (sym (exact_resources r e.0 (tied (resource_cmp r e.0) a)) i, some-same e.1 m b i) in
        let wrong : true ≡ false = sym passes ∙ sym (ap p same) ∙ c in cc
    go false a b true c k later = later k.1 b passes
    go false a b false c k later = later k b passes

pub option-same : (o : Option Mode) (m : Mode) → not (option_eq (mode_eq.ghosts).eq o (Some m)) ≡ false → o ≡ Some m
option-same None m h = cc
option-same (Some a) m h = ap Some (exact-modes a m (unturned ((mode_eq.ghosts).eq a m) h))
  where
    unturned : (b : Bool) → not b ≡ false → b ≡ true
    unturned true e = refl
    unturned false e = cc

-- a part that is granted agrees with each other one
pub granted-agrees : (holders : Holders) (t : TransId) (after : Held) → IsAgreeing holders → blocker holders t (filter (is_raised (held_of holders t)) (map.entries after)) ≡ None
    → (u : TransId) → eq_by_cmp trans_cmp t u ≡ false → DoAgree (map.get after) (holding holders u)
granted-agrees holders t after agreeing free u apart r = go (map.get after r) refl
  where
    clear : AllByRecursion (λ n. holder_on holders t n ≡ None) (filter (is_raised (held_of holders t)) (map.entries after))
    clear = clear-each holders t (filter (is_raised (held_of holders t)) (map.entries after)) free

    split : (m : Mode) → map.get after r ≡ Some m → (b : Bool) → is_raised (held_of holders t) (r, m) ≡ b → agree_held (Some m) (holding holders u r) ≡ true
    split m is true h =
        agree-turned (Some m) (holding holders u r)
        ∙ agrees-on holders t (r, m) (at-risen (λ n. holder_on holders t n ≡ None) (is_raised (held_of holders t)) (map.entries after) clear r m (sym (get-entries after r) ∙ is) h) u apart
    split m is false h =
        sym (ap (λ o. agree_held o (holding holders u r)) (option-same (map.get (held_of holders t) r) m h)) ∙ agreeing t u apart r

    go : (o : Option Mode) → map.get after r ≡ o → agree_held o (holding holders u r) ≡ true
    go None is = refl
    go (Some m) is = split m is (is_raised (held_of holders t) (r, m)) refl

-- ---- a part that changes leaves the others

if-tied : {X : Type 0} (b : Bool) (x : X) (o : Option X) (d : X) → b ≡ false → unwrap_or (cond b (Some x) o) d ≡ unwrap_or o d
if-tied true x o d e = cc
if-tied false x o d e = refl

pub held-other : (holders : Holders) (t : TransId) (h : Held) (u : TransId) → eq_by_cmp trans_cmp u t ≡ false → held_of (map.insert holders t h) u ≡ held_of holders u
held-other holders t h u apart = ap (λ (o : Option Held). unwrap_or o map.empty) (get-insert transactions_total holders t h u) ∙ if-tied (eq_by_cmp trans_cmp u t) h (map.get holders u) map.empty apart

pub held-same : (holders : Holders) (t : TransId) (h : Held) (u : TransId) → eq_by_cmp trans_cmp u t ≡ true → held_of (map.insert holders t h) u ≡ h
held-same holders t h u is =
    ap (λ (o : Option Held). unwrap_or o map.empty) (get-insert transactions_total holders t h u) ∙ ap (λ b. unwrap_or (cond b (Some h) (map.get holders u)) map.empty) is

pub turned : (t u : TransId) (b : Bool) → eq_by_cmp trans_cmp t u ≡ b → eq_by_cmp trans_cmp u t ≡ b
turned t u b e = (eq_by_cmp_equiv transactions_total).symm u t ∙ e

-- with a part granted the table stays agreeing
pub insert-agreeing : (holders : Holders) (t : TransId) (after : Held) → IsAgreeing holders
    → ((u : TransId) → eq_by_cmp trans_cmp t u ≡ false → DoAgree (map.get after) (holding holders u)) → IsAgreeing (map.insert holders t after)
insert-agreeing holders t after agreeing new x y apart r = go (eq_by_cmp trans_cmp x t) refl (eq_by_cmp trans_cmp y t) refl
  where
    go : (b : Bool) → eq_by_cmp trans_cmp x t ≡ b → (c : Bool) → eq_by_cmp trans_cmp y t ≡ c
        → agree_held (holding (map.insert holders t after) x r) (holding (map.insert holders t after) y r) ≡ true
    go true a true c =
        let wrong : true ≡ false = sym c ∙ ap is_eq (alike_right transactions_total t x y (tied (trans_cmp t x) (turned x t true a))) ∙ turned x y false apart in cc
    go true a false c =
        ap (λ h. agree_held (map.get h r) (holding (map.insert holders t after) y r)) (held-same holders t after x a)
        ∙ ap (λ h. agree_held (map.get after r) (map.get h r)) (held-other holders t after y c)
        ∙ new y (turned y t false c) r
    go false a true c =
        ap (λ h. agree_held (map.get h r) (holding (map.insert holders t after) y r)) (held-other holders t after x a)
        ∙ ap (λ h. agree_held (holding holders x r) (map.get h r)) (held-same holders t after y c)
        ∙ agree-turned (holding holders x r) (map.get after r) ∙ new x (turned x t false a) r
    go false a false c =
        ap (λ h. agree_held (map.get h r) (holding (map.insert holders t after) y r)) (held-other holders t after x a)
        ∙ ap (λ h. agree_held (holding holders x r) (map.get h r)) (held-other holders t after y c)
        ∙ agreeing x y apart r
