-- a grant is of all that was asked
use Rattle.std.proofs.Common.{◌≡◌, Bool, true, false, ◌&&◌, cond, List, [], ◌∷◌, Option, Some, None, is_some, refl, sym, ap, subst, ◌∙◌}
use Rattle.std.specs.List.{AllByRecursion}
use Rattle.std.specs.Option.{unwrap_or}
use Rattle.std.specs.Ordering.{eq_by_cmp}
use Rattle.std.specs.FinMap as map
use Rattle.std.specs.FinMap.{get-insert, get-entries, get_tied}
use Rattle.alp_base.specs.declared.ids.TransId.{TransId}
use Rattle.alp_base.specs.declared.choices.Choice.{Choice}
use Rattle.alp_base.specs.declared.choices.Choice.TheVariants.{Fail, Wait}
use Rattle.alp_base.specs.declared.key.Resource.{Resource}
use Rattle.alp_modes.specs.declared.Mode.{Mode}
use Rattle.alp_base.specs.Orders.{trans_cmp, resource_cmp, transactions_total, resources_total}
use Rattle.alp_files.specs.Holdings.{join_held, held_by}
use Rattle.alp_files.proofs.HoldingLemmas.{join_held-assoc, none-right}
use Rattle.alp_queue.specs.Rises.{Held, is_raised}
use Rattle.alp_queue.specs.declared.waiter.Waiter.{Waiter}
use Rattle.alp_locks.specs.Tables.{Holders, Table, held_of, holding}
use Rattle.alp_locks.specs.Asks.{raised, joined, risen, waiter_of, in_way_of, answer, answered, with_granted}
use Rattle.alp_locks.specs.Laws.{gives_all, IsAllOrNone, IsAllOfWaiter, IsAllOfPlan, EnteringKeepsHeld}
use Rattle.alp_locks.proofs.HeldLemmas.{tied}
use Rattle.alp_locks.proofs.FreeLemmas.{at-risen, option-same, held-same, held-other}
use Rattle.alp_locks.proofs.SoundLemmas.{again}

pub raised-joined : (o : Option Mode) (m : Mode) → Some (raised o m) ≡ join_held o (Some m)
raised-joined None m = refl
raised-joined (Some a) m = refl

-- what is left on a resource is what was there joined with all that was asked on it
pub joined-holds : (ns : List (Resource × Mode)) (h : Held) (r : Resource) → map.get (joined h ns) r ≡ join_held (map.get h r) (held_by ns r)
joined-holds [] h r = sym (none-right (map.get h r))
joined-holds (n ∷ ns) h r =
    joined-holds ns (map.insert h n.0 (raised (map.get h n.0) n.1)) r
    ∙ ap (λ o. join_held o (held_by ns r)) (get-insert resources_total h n.0 (raised (map.get h n.0) n.1) r)
    ∙ go (eq_by_cmp resource_cmp r n.0) refl
  where
    go : (b : Bool) → eq_by_cmp resource_cmp r n.0 ≡ b
        → join_held (cond b (Some (raised (map.get h n.0) n.1)) (map.get h r)) (held_by ns r) ≡ join_held (map.get h r) (cond b (join_held (Some n.1) (held_by ns r)) (held_by ns r))
    go true e =
        ap (λ o. join_held o (held_by ns r)) (raised-joined (map.get h n.0) n.1 ∙ ap (λ o. join_held o (Some n.1)) (get_tied resources_total h r n.0 (tied (resource_cmp r n.0) e)))
        ∙ join_held-assoc (map.get h r) (Some n.1) (held_by ns r)
    go false e = refl

pub join-none : (a b : Option Mode) → join_held a b ≡ None → a ≡ None
join-none None b e = refl
join-none (Some a) None e = let wrong : true ≡ false = ap is_some e in cc
join-none (Some a) (Some b) e = let wrong : true ≡ false = ap is_some e in cc

-- where nothing rises nothing changes
pub no-rise : (h : Held) (ns : List (Resource × Mode)) → risen h ns ≡ [] → (r : Resource) → map.get (joined h ns) r ≡ map.get h r
no-rise h ns none r = go (map.get (joined h ns) r) refl
  where
    split : (m : Mode) → map.get (joined h ns) r ≡ Some m → (b : Bool) → is_raised h (r, m) ≡ b → Some m ≡ map.get h r
    split m at true e =
        absurd (at-risen (λ n. ⊥) (is_raised h) (map.entries (joined h ns)) (subst (AllByRecursion (λ n. ⊥)) (sym none) tt) r m (sym (get-entries (joined h ns) r) ∙ at) e)
    split m at false e = sym (option-same (map.get h r) m e)

    go : (o : Option Mode) → map.get (joined h ns) r ≡ o → o ≡ map.get h r
    go None at = sym (join-none (map.get h r) (held_by ns r) (sym (joined-holds ns h r) ∙ at))
    go (Some m) at = split m at (is_raised h (r, m)) refl

-- a part that comes to hold all that was asked, beside others that stay
spread : (holders after : Holders) (t u : TransId) (ns : List (Resource × Mode)) (r : Resource)
    → (eq_by_cmp trans_cmp u t ≡ true → holding after u r ≡ map.get (joined (held_of holders t) ns) r)
    → (eq_by_cmp trans_cmp u t ≡ false → holding after u r ≡ holding holders u r)
    → holding after u r ≡ cond (eq_by_cmp trans_cmp u t) (join_held (holding holders u r) (held_by ns r)) (holding holders u r)
spread holders after t u ns r own other = go (eq_by_cmp trans_cmp u t) refl
  where
    same : eq_by_cmp trans_cmp u t ≡ true → held_of holders t ≡ held_of holders u
    same e = ap (λ (o : Option Held). unwrap_or o map.empty) (get_tied transactions_total holders u t (tied (trans_cmp u t) e))

    go : (b : Bool) → eq_by_cmp trans_cmp u t ≡ b → holding after u r ≡ cond b (join_held (holding holders u r) (held_by ns r)) (holding holders u r)
    go true e = own e ∙ joined-holds ns (held_of holders t) r ∙ ap (λ (h : Held). join_held (map.get h r) (held_by ns r)) (same e)
    go false e = other e

pub insert-spread : (holders : Holders) (t u : TransId) (ns : List (Resource × Mode)) (r : Resource)
    → holding (map.insert holders t (joined (held_of holders t) ns)) u r ≡ cond (eq_by_cmp trans_cmp u t) (join_held (holding holders u r) (held_by ns r)) (holding holders u r)
insert-spread holders t u ns r =
    spread holders (map.insert holders t (joined (held_of holders t) ns)) t u ns r
    (λ e. ap (λ (h : Held). map.get h r) (held-same holders t (joined (held_of holders t) ns) u e))
    (λ e. ap (λ (h : Held). map.get h r) (held-other holders t (joined (held_of holders t) ns) u e))

if-both : (b : Bool) (x y : Option Mode) → cond b x y ≡ cond (b && true) x y
if-both true x y = refl
if-both false x y = refl

if-neither : (b : Bool) (x y : Option Mode) → y ≡ cond (b && false) x y
if-neither true x y = refl
if-neither false x y = refl

-- a grant of what was made ready of the needs, which changes nothing where nothing rises
granted-spread : (t : Table) (v u : TransId) (ns : List (Resource × Mode)) (r : Resource) (rises : List (Resource × Mode)) → risen (held_of t.held v) ns ≡ rises
    → holding (with_granted t v rises (joined (held_of t.held v) ns)).held u r ≡ cond (eq_by_cmp trans_cmp u v) (join_held (holding t.held u r) (held_by ns r)) (holding t.held u r)
granted-spread t v u ns r [] none =
    spread t.held t.held v u ns r
    (λ e. ap (λ (o : Option Held). map.get (unwrap_or o map.empty) r) (sym (get_tied transactions_total t.held u v (tied (trans_cmp u v) e)))
    ∙ sym (no-rise (held_of t.held v) ns none r))
    (λ e. refl)
granted-spread t v u ns r (n ∷ rest) some = insert-spread t.held v u ns r

pub all-or-none : IsAllOrNone
all-or-none t q u r = go (in_way_of t.held q.trans q.needs) q.choice
  where
    go : (o : Option TransId) (choice : Choice)
        → holding (answered t (waiter_of (held_of t.held q.trans) q.trans q.needs) o choice).held u r
        ≡ cond (eq_by_cmp trans_cmp u q.trans && gives_all (answer o choice)) (join_held (holding t.held u r) (held_by q.needs r)) (holding t.held u r)
    go None choice =
        granted-spread t q.trans u q.needs r (risen (held_of t.held q.trans) q.needs) refl
        ∙ if-both (eq_by_cmp trans_cmp u q.trans) (join_held (holding t.held u r) (held_by q.needs r)) (holding t.held u r)
    go (Some v) Fail = if-neither (eq_by_cmp trans_cmp u q.trans) (join_held (holding t.held u r) (held_by q.needs r)) (holding t.held u r)
    go (Some v) Wait =
        ap (λ (h : Held). map.get h r) (again t.held q.trans u)
        ∙ if-neither (eq_by_cmp trans_cmp u q.trans) (join_held (holding t.held u r) (held_by q.needs r)) (holding t.held u r)

pub all-of-waiter : IsAllOfWaiter
all-of-waiter t w u r prepared =
    ap (λ (h : Held). holding (map.insert t.held w.trans h) u r) (ap (λ (x : Waiter). x.after) prepared) ∙ insert-spread t.held w.trans u w.needs r

pub all-of-plan : IsAllOfPlan
all-of-plan t w u r prepared =
    ap (λ (x : Waiter). holding (with_granted t w.trans x.rises x.after).held u r) prepared
    ∙ granted-spread t w.trans u w.needs r (risen (held_of t.held w.trans) w.needs) refl

pub entering-keeps-held : EnteringKeepsHeld
entering-keeps-held t u v = again t.held u v
