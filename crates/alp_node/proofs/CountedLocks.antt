-- a part has as many locks in the table as it counts
use Rattle.std.specs.Prelude.{cond, Bool, true, false, ◌||◌, sum_by, Option, None, Some, is_some}
use Rattle.std.specs.FinMap as map
use Rattle.std.specs.FinMap.{get-insert, get-remove, same_map}
use Rattle.std.specs.Cmp.{eq_by_cmp_equiv}
use Rattle.std.specs.Ordering.{eq_by_cmp}
use Rattle.std.proofs.lemmas.Map.Views.{tells_apart}
use Rattle.std.proofs.lemmas.List.Sums.{sum_by-cons}
use Rattle.std.proofs.Common.{◌≡◌, ℕ, suc, ◌+◌, List, [], ◌∷◌, length, refl, sym, ◌∙◌, ap, arith}
use Rattle.alp_base.specs.Orders.{resource_cmp, resources_total, exact_resources}
use Rattle.alp_base.specs.declared.ids.TransId.{TransId}
use Rattle.alp_base.specs.declared.key.Resource.{Resource}
use Rattle.alp_files.proofs.SumLemmas.{sum_of, weight_at, sum-insert, sum_of-nothing}
use Rattle.alp_locks.specs.Tables.{held_of, holding}
use Rattle.alp_modes.specs.declared.Mode.{Mode}
use Rattle.alp_journal.specs.Account.{Account}
use Rattle.alp_journal.specs.Counts.{has_resource}
use Rattle.alp_vault.specs.Contents.{Contents}
use Rattle.alp_node.specs.Covers.{AreNamedOnce}
use Rattle.alp_node.specs.ServerState.{IsAs}
use Rattle.alp_node.specs.declared.lives.Live.{Live}
use Rattle.alp_node.specs.declared.server_state.ServerState.{ServerState}
use Rattle.alp_node.proofs.KeptLemmas.{IsLive, live_there}

abbrev Locks : Type 0
Locks = map.FinMap resource_cmp Mode

pub one_each : (es : List (Resource × Mode)) → sum_by (λ (e : Resource × Mode). 1) es ≡ length es
one_each [] = refl
one_each (e ∷ es) =
    let rest : sum_by (λ (x : Resource × Mode). 1) es ≡ length es = one_each es in
    let first : sum_by (λ (x : Resource × Mode). 1) (e ∷ es) ≡ 1 + sum_by (λ (x : Resource × Mode). 1) es = sum_by-cons (λ (x : Resource × Mode). 1) e es in
    omega (arith, rest, first)

its_own : (r : Resource) → eq_by_cmp resource_cmp r r ≡ true
its_own r = (eq_by_cmp_equiv resources_total).refl r

-- without it, and with it again
gone_now : (m : Locks) (r : Resource) → map.get (map.remove m r) r ≡ None
gone_now m r = get-remove resources_total m r r ∙ ap (λ (b : Bool). cond {A = Option Mode} b None (map.get m r)) (its_own r)

back_again : (m : Locks) (r : Resource) (v : Mode) → map.get m r ≡ Some v → map.insert (map.remove m r) r v ≡ m
back_again m r v is = same_map resources_total exact_resources _ _ (λ q.
    get-insert resources_total (map.remove m r) r v q ∙ ap (cond {A = Option Mode} (eq_by_cmp resource_cmp q r) (Some v)) (get-remove resources_total m r q) ∙ go q (eq_by_cmp resource_cmp q r) refl)
  where
    go : (q : Resource) (b : Bool) → eq_by_cmp resource_cmp q r ≡ b → cond {A = Option Mode} b (Some v) (cond {A = Option Mode} b None (map.get m q)) ≡ map.get m q
    go q true e = sym is ∙ ap (map.get m) (sym (tells_apart exact_resources q r e))
    go q false e = refl

one_less : (m : Locks) (r : Resource) (v : Mode) → map.get m r ≡ Some v → sum_of (λ (e : Resource × Mode). 1) m ≡ sum_of (λ (e : Resource × Mode). 1) (map.remove m r) + 1
one_less m r v is =
    let all : sum_of (λ (e : Resource × Mode). 1) (map.insert (map.remove m r) r v) + weight_at (λ (e : Resource × Mode). 1) r (map.get (map.remove m r) r) ≡ sum_of (λ (e : Resource × Mode). 1) (map.remove m r) + 1 =
    sum-insert resources_total exact_resources (λ (e : Resource × Mode). 1) (map.remove m r) r v in
    let none : weight_at (λ (e : Resource × Mode). 1) r (map.get (map.remove m r) r) ≡ 0 = ap (weight_at (λ (e : Resource × Mode). 1) r) (gone_now m r) in
    let same : sum_of (λ (e : Resource × Mode). 1) (map.insert (map.remove m r) r v) ≡ sum_of (λ (e : Resource × Mode). 1) m = ap (sum_of (λ (e : Resource × Mode). 1)) (back_again m r v is) in
    omega (arith, all, none, same)

-- but for one of them
rest_held : (r : Resource) (rs : List Resource) (m : Locks) → ((q : Resource) → has_resource q (r ∷ rs) ≡ is_some (map.get m q)) → has_resource r rs ≡ false → (q : Resource) → has_resource q rs ≡ is_some (map.get (map.remove m r) q)
rest_held r rs m all once q = go (eq_by_cmp resource_cmp q r) refl ∙ ap is_some (sym (get-remove resources_total m r q))
  where
    go : (b : Bool) → eq_by_cmp resource_cmp q r ≡ b → has_resource q rs ≡ is_some (cond {A = Option Mode} (eq_by_cmp resource_cmp q r) None (map.get m q))
    go true e = ap (λ (x : Resource). has_resource x rs) (tells_apart exact_resources q r e) ∙ once ∙ sym (ap (λ (b : Bool). is_some (cond {A = Option Mode} b None (map.get m q))) e)
    go false e = ap (λ (b : Bool). b || has_resource q rs) (sym e) ∙ all q ∙ sym (ap (λ (b : Bool). is_some (cond {A = Option Mode} b None (map.get m q))) e)

-- as many are held as are named once
pub as_many : (rs : List Resource) (m : Locks) → ((r : Resource) → has_resource r rs ≡ is_some (map.get m r)) → AreNamedOnce rs → sum_of (λ (e : Resource × Mode). 1) m ≡ length rs
as_many [] m all once = sum_of-nothing resources_total exact_resources (λ (e : Resource × Mode). 1) m (λ r v is. absurd (let wrong : false ≡ true = all r ∙ ap is_some is in cc))
as_many (r ∷ rs) m all once = there (map.get m r) refl (sym (all r) ∙ ap (λ (b : Bool). b || has_resource r rs) (its_own r)) (as_many rs (map.remove m r) (rest_held r rs m all once.0) once.1)
  where
    there : (o : Option Mode) → map.get m r ≡ o → is_some (map.get m r) ≡ true → sum_of (λ (e : Resource × Mode). 1) (map.remove m r) ≡ length rs → sum_of (λ (e : Resource × Mode). 1) m ≡ suc (length rs)
    there None e some behind = let wrong : false ≡ true = sym (ap is_some e) ∙ some in cc
    there (Some v) e some behind = (let less : sum_of (λ (x : Resource × Mode). 1) m ≡ sum_of (λ (x : Resource × Mode). 1) (map.remove m r) + 1 = one_less m r v e in omega (arith, less, behind))

pub locks_counted : {V : Type 0} (a : Account) (held : Contents) (k : ServerState V) (t : TransId) (l : Live) → IsAs a held k → map.get k.lives t ≡ Some l → length (map.entries (held_of k.locks.held t)) ≡ l.locks
locks_counted a held k t l h there =
    let y : IsLive a.holder.cells k.locks.held (a.locked t) t l (a.holder.lives t) = live_there a.holder.cells k.locks.held (a.locked t) t (map.get k.lives t) (a.holder.lives t) l there (h.lives t) in
    sym (one_each (map.entries (held_of k.locks.held t))) ∙ as_many (a.locked t) (held_of k.locks.held t) (λ r. y.alike.known.0 r ∙ ap is_some (y.alike.held r)) y.alike.known.1 ∙ sym y.alike.count
