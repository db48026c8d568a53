-- live parts, the transactions of this server and the joins of others' go together still, as parts come, change and go
use Rattle.std.specs.Prelude.{cond, Bool, true, false, not, ◌==◌, ◌&&◌, ◌||◌, filter, find, Option, None, Some, is_some, map as list_map}
use Rattle.std.specs.List.{list_any, AllByRecursion}
use Rattle.std.specs.FinMap as map
use Rattle.std.proofs.Common.{◌≡◌, ℕ, suc, ◌+◌, ◌<◌, ◌≤◌, List, [], ◌∷◌, ◌++◌, length, refl, sym, ◌∙◌, ap, subst, arith, eq-eqb}
use Rattle.alp_base.specs.declared.ids.JoinNo.{JoinNo}
use Rattle.alp_base.specs.declared.ids.TransId.{TransId}
use Rattle.alp_journal.specs.Answers.{is_counted}
use Rattle.alp_journal.specs.Coordinator.{Fate, Undrawn, Running, Finishing, Committed, Forgotten, Ended, client_of, fate_after}
use Rattle.alp_journal.specs.Coordinator as fate
use Rattle.alp_journal.specs.Deeds.{Begins}
use Rattle.alp_journal.specs.Ids.{same_trans}
use Rattle.alp_journal.proofs.IdLemmas.{same_trans-itself, same_trans-true}
use Rattle.alp_journal.specs.State.{is_this}
use Rattle.alp_journal.proofs.StandLemmas.{not_both_servers}
use Rattle.alp_coord.specs.declared.begun.Settled.{Settled}
use Rattle.alp_coord.specs.declared.begun.Settled.TheVariants as settled
use Rattle.alp_coord.specs.declared.coordinator.Coordinator.{Coordinator}
use Rattle.alp_coord.specs.Begun.{fate_settled}
use Rattle.alp_coord.specs.Coordinators.{Comes, server_of, count_of, next_id, settled_in, fate_in, open_ids, counted_of}
use Rattle.alp_coord.specs.Ticks.{has_trans, AreOnce as AreIdsOnce}
use Rattle.alp_coord.proofs.FateLemmas.{next_fate}
use Rattle.alp_coord.proofs.TickLemmas.{rising_once, closed_fate}
use Rattle.alp_worker.specs.declared.joins.Joins.{Joins}
use Rattle.alp_worker.specs.declared.live.LiveJoin.{LiveJoin}
use Rattle.alp_worker.specs.Lives.{is_at, join_at, is_part, part_of}
use Rattle.alp_node.specs.Paired.{ActsFor, IsItsJoin, IsPartOf, IsPairedWith, ArePaired}
use Rattle.alp_node.specs.ServerState.{IsAlive, AreAlive, IsReady}
use Rattle.alp_node.specs.Totals.{LiveMap}
use Rattle.alp_node.specs.Waits.{has_part}
use Rattle.alp_node.specs.declared.dead.DeadPart.{DeadPart}
use Rattle.alp_node.specs.declared.lives.Live.{Live}
use Rattle.alp_node.specs.declared.server_state.ServerState.{ServerState}
use Rattle.alp_node.proofs.MapLemmas.{get_put, get_gone}
use Rattle.alp_node.proofs.TransactionLemmas.{LetsGo, runs_placed, keys_rise, key_there, key_count}

-- ---- parts that are as they were

-- whose a part is, for whom it acts, and its join
pub record Whose : Type 0 where
  pub client : ℕ
  pub who : Option (List ℕ)
  pub join : Option JoinNo

abbrev pub whose : Live → Whose
whose l = record { client = l.client; who = l.who; join = l.join }

abbrev pub whose_of : Option Live → Option Whose
whose_of None = None
whose_of (Some l) = Some (whose l)

-- each part is whose it was
abbrev pub AreTheirs : LiveMap → LiveMap → Type 0
AreTheirs m now = (t : TransId) → whose_of (map.get now t) ≡ whose_of (map.get m t)

pub record WasThere (x : Option Live) (l : Live) : Type 0 where
  pub live : Live
  pub is : x ≡ Some live
  pub client : live.client ≡ l.client
  pub who : live.who ≡ l.who
  pub join : live.join ≡ l.join

same_whose : (a b : Whose) → Some a ≡ Some b → a ≡ b
same_whose a b e = cc

pub was_there : (x y : Option Live) (l : Live) → whose_of y ≡ whose_of x → y ≡ Some l → WasThere x l
was_there None y l same is = let wrong : Some (whose l) ≡ None = sym (ap whose_of is) ∙ same in cc
was_there (Some k) y l same is =
    let one : whose k ≡ whose l = same_whose (whose k) (whose l) (sym same ∙ ap whose_of is) in
    record { live = k; is = refl; client = ap (λ (w : Whose). w.client) one; who = ap (λ (w : Whose). w.who) one; join = ap (λ (w : Whose). w.join) one }

module _ (servers here : ℕ) (c : Coordinator) (k : Joins) (m now : LiveMap) (same : AreTheirs m now) where
  its_on : (t : TransId) (l p : Live) (f : Fate) → p.client ≡ l.client → p.who ≡ l.who → (x : Option JoinNo) → IsPartOf k t p f x → IsPartOf k t l f x
  its_on t l p f client who None h = (h.0 ∙ ap Some client, ap is_some (sym who) ∙ h.1)
  its_on t l p f client who (Some j) h = (h.0, go (join_at k.lives j) h.1)
    where
      go : (y : Option LiveJoin) → IsItsJoin t p y → IsItsJoin t l y
      go None q = absurd q
      go (Some y) q = (q.0, q.1 ∙ client, q.2, subst (ActsFor y.stage) who q.3)

  on_part : (t : TransId) (x y : Option Live) → whose_of y ≡ whose_of x → (f : Fate) → IsPairedWith k t f x → IsPairedWith k t f y
  on_part t None None e f h = h
  on_part t (Some p) None e f h = let wrong : None ≡ Some (whose p) = e in cc
  on_part t x (Some l) e f h =
      let w = was_there x (Some l) l e refl in
      its_on t l w.live f w.client w.who l.join (subst (IsPartOf k t w.live f) w.join (subst (IsPairedWith k t f) w.is h))

  pub paired_on : ArePaired servers here c k m → ArePaired servers here c k now
  paired_on h = record {
    parts = λ t. on_part t (map.get m t) (map.get now t) (same t) (fate_in c t) (h.parts t);
    joins = λ j x is inside. there x j (h.joins j x is inside);
    others = h.others;
    own = h.own;
  }
    where
      there : (x : LiveJoin) (j : JoinNo) → (l : Live) × (map.get m x.trans ≡ Some l) × (l.join ≡ Some j) → (l : Live) × (map.get now x.trans ≡ Some l) × (l.join ≡ Some j)
      there x j p = (let w = was_there (map.get now x.trans) (map.get m x.trans) p.0 (sym (same x.trans)) p.1 in (w.live, w.is, w.join ∙ p.2))

  -- who was not among the dead is not
  pub alive_on : (dead : List DeadPart) → AreAlive dead m k.lives → AreAlive dead now k.lives
  alive_on dead h = record {
    parts = λ t l is. (let w = was_there (map.get m t) (map.get now t) l (same t) is in subst (λ (n : ℕ). IsAlive dead n t) w.client (h.parts t w.live w.is));
    joins = h.joins;
  }

-- one part is changed, and is whose it was
pub theirs_put : (m : LiveMap) (t : TransId) (l now : Live) → map.get m t ≡ Some l → whose now ≡ whose l → AreTheirs m (map.insert m t now)
theirs_put m t l now there same u = ap whose_of (get_put m t now u) ∙ go (same_trans u t) refl
  where
    go : (b : Bool) → same_trans u t ≡ b → whose_of (cond {A = Option Live} b (Some now) (map.get m u)) ≡ whose_of (map.get m u)
    go true e = ap Some same ∙ sym (ap whose_of (ap (map.get m) (same_trans-true u t e) ∙ there))
    go false e = refl

pub theirs_then : (a b c : LiveMap) → AreTheirs a b → AreTheirs b c → AreTheirs a c
theirs_then a b c first second t = second t ∙ first t

-- of a join that passes one is found that does
pub some_found : (p : LiveJoin → Bool) (j : JoinNo) (y : LiveJoin) (ls : List LiveJoin) → join_at ls j ≡ Some y → p y ≡ true → is_some (find p ls) ≡ true
some_found p j y [] is pass = let wrong : None ≡ Some y = is in cc
some_found p j y (x ∷ xs) is pass = go (is_at j x) is (λ e. some_found p j y xs e pass)
  where
    same : (a b : LiveJoin) → Some a ≡ Some b → a ≡ b
    same a b e = cc

    either : (b : Bool) → is_some (find p xs) ≡ true → is_some (cond {A = Option LiveJoin} b (Some x) (find p xs)) ≡ true
    either true e = refl
    either false e = e

    go : (b : Bool) → cond {A = Option LiveJoin} b (Some x) (join_at xs j) ≡ Some y → (join_at xs j ≡ Some y → is_some (find p xs) ≡ true) → is_some (cond {A = Option LiveJoin} (p x) (Some x) (find p xs)) ≡ true
    go true e more = ap (λ (b : Bool). is_some (cond {A = Option LiveJoin} b (Some x) (find p xs))) (ap p (same x y e) ∙ pass)
    go false e more = either (p x) (more e)

-- ---- of this server's own

-- no join is of that transaction
abbrev pub HasNoJoinOf : List LiveJoin → TransId → Type 0
HasNoJoinOf ls t = (j : JoinNo) (x : LiveJoin) → join_at ls j ≡ Some x → same_trans x.trans t ≡ false

module _ (servers here : ℕ) (c : Coordinator) (k : Joins) (m : LiveMap) (h : ArePaired servers here c k m) where
  -- a join is of another server's
  pub joined_far : (j : JoinNo) (x : LiveJoin) → join_at k.lives j ≡ Some x → x.trans.server ≡ here → ⊥
  joined_far j x is own = not_both_servers servers here x.trans.server (h.others j x is) own

  pub own_unjoined : (t : TransId) → t.server ≡ here → HasNoJoinOf k.lives t
  own_unjoined t own j x is = go (same_trans x.trans t) refl
    where
      go : (b : Bool) → same_trans x.trans t ≡ b → b ≡ false
      go false e = refl
      go true e = absurd (joined_far j x is (ap (λ (u : TransId). u.server) (same_trans-true x.trans t e) ∙ own))

  -- a part of a join is of another server's
  part_far : (t : TransId) (l : Live) (y : Option LiveJoin) (j : JoinNo) → join_at k.lives j ≡ y → IsItsJoin t l y → t.server ≡ here → ⊥
  part_far t l None j e q own = q
  part_far t l (Some y) j e q own = joined_far j y e (ap (λ (u : TransId). u.server) q.0 ∙ own)

  -- that of a transaction of this server is its client's, which runs
  pub own_client : (t : TransId) (l : Live) → map.get m t ≡ Some l → t.server ≡ here → (client_of (fate_in c t) ≡ Some l.client) × (l.join ≡ None) × (is_some l.who ≡ true)
  own_client t l there own = go l.join refl (subst (IsPairedWith k t (fate_in c t)) there (h.parts t))
    where
      go : (x : Option JoinNo) → l.join ≡ x → IsPartOf k t l (fate_in c t) x → (client_of (fate_in c t) ≡ Some l.client) × (l.join ≡ None) × (is_some l.who ≡ true)
      go None e p = (p.0, e, p.1)
      go (Some j) e p = absurd (part_far t l (join_at k.lives j) j refl p.1 own)

  -- one that runs has a part
  pub running_part : (t : TransId) (n : ℕ) → client_of (fate_in c t) ≡ Some n → (l : Live) × (map.get m t ≡ Some l) × (l.client ≡ n) × (l.join ≡ None) × (is_some l.who ≡ true)
  running_part t n runs = go (map.get m t) refl (h.parts t)
    where
      same : (a b : ℕ) → Some a ≡ Some b → a ≡ b
      same a b e = cc

      by : (l : Live) → map.get m t ≡ Some l → (x : Option JoinNo) → l.join ≡ x → IsPartOf k t l (fate_in c t) x → (l : Live) × (map.get m t ≡ Some l) × (l.client ≡ n) × (l.join ≡ None) × (is_some l.who ≡ true)
      by l there None e p = (l, there, same l.client n (sym p.0 ∙ runs), e, p.1)
      by l there (Some j) e p = let wrong : None ≡ Some n = sym p.0 ∙ runs in cc

      go : (x : Option Live) → map.get m t ≡ x → IsPairedWith k t (fate_in c t) x → (l : Live) × (map.get m t ≡ Some l) × (l.client ≡ n) × (l.join ≡ None) × (is_some l.who ≡ true)
      go None e p = let wrong : None ≡ Some n = sym p ∙ runs in cc
      go (Some l) e p = by l e l.join refl p

  -- a live part of this server's was begun
  pub part_begun : (t : TransId) (l : Live) → map.get m t ≡ Some l → t.server ≡ here → t.counter ≤ count_of c
  part_begun t l there own = (runs_placed c t l.client (own_client t l there own).0).within

  -- whose part is live has one
  pub part_has : (t : TransId) (l : Live) → map.get m t ≡ Some l → has_part l.client c k t ≡ true
  part_has t l there = go l.join (subst (IsPairedWith k t (fate_in c t)) there (h.parts t))
    where
      or_right : (a b : Bool) → b ≡ true → (a || b) ≡ true
      or_right true b e = refl
      or_right false b e = e

      of_join : (j : JoinNo) (y : Option LiveJoin) → join_at k.lives j ≡ y → IsItsJoin t l y → is_some (part_of l.client t k.lives) ≡ true
      of_join j None e q = absurd q
      of_join j (Some y) e q = some_found (is_part l.client t) j y k.lives e (λ i. is_it y q.0 i && eq-eqb y.client l.client q.1 i)
        where
          is_it : (y : LiveJoin) → y.trans ≡ t → same_trans y.trans t ≡ true
          is_it y at = ap (λ (u : TransId). same_trans u t) at ∙ same_trans-itself t

      go : (x : Option JoinNo) → IsPartOf k t l (fate_in c t) x → has_part l.client c k t ≡ true
      go None p = ap (λ (x : Option ℕ). is_this l.client x || is_some (part_of l.client t k.lives)) p.0 ∙ ap (λ (b : Bool). b || is_some (part_of l.client t k.lives)) (eq-eqb l.client l.client refl)
      go (Some j) p = or_right (is_this l.client (client_of (fate_in c t))) (is_some (part_of l.client t k.lives)) (of_join j (join_at k.lives j) refl p.1)

  -- the next id is that of no live part
  pub next_new : server_of c ≡ here → map.get m (next_id c) ≡ None
  next_new seat = go (map.get m (next_id c)) refl
    where
      go : (x : Option Live) → map.get m (next_id c) ≡ x → x ≡ None
      go None e = refl
      go (Some l) e = let wrong : None ≡ Some l.client = ap client_of (sym (next_fate c)) ∙ (own_client (next_id c) l e seat).0 in cc

  -- ---- what comes and goes

  -- one that begins is its client's
  pub paired_begun : (client seen : ℕ) (who : List ℕ) (after : Coordinator) (l : Live) → server_of c ≡ here → l.client ≡ client → l.join ≡ None → is_some l.who ≡ true → Comes (Begins (next_id c) client who seen) c after
      → ArePaired servers here after k (map.insert m (next_id c) l)
  paired_begun client seen who after l seat its own caller comes = record {
    parts = λ u. subst (λ (f : Fate). IsPairedWith k u f (map.get (map.insert m t l) u)) (sym (comes u)) (subst (IsPairedWith k u (fate_after (Begins t client who seen) u (fate_in c u))) (sym (get_put m t l u)) (go u (same_trans t u) (same_trans u t) refl refl));
    joins = λ j x is inside. (let p = h.joins j x is inside in (p.0, get_put m t l x.trans ∙ stays x p.0 p.1 (same_trans x.trans t) refl, p.2));
    others = h.others;
    own = λ u n runs. began u n (same_trans t u) refl (sym (ap client_of (comes u)) ∙ runs);
  }
    where
      t : TransId
      t = next_id c

      stays : (x : LiveJoin) (p : Live) → map.get m x.trans ≡ Some p → (b : Bool) → same_trans x.trans t ≡ b → cond {A = Option Live} b (Some l) (map.get m x.trans) ≡ Some p
      stays x p there false e = there
      stays x p there true e = let wrong : None ≡ Some p = sym (next_new seat) ∙ sym (ap (map.get m) (same_trans-true x.trans t e)) ∙ there in cc

      began : (u : TransId) (n : ℕ) (b : Bool) → same_trans t u ≡ b → client_of (cond {A = Fate} b (fate.begun client (fate_in c u)) (fate_in c u)) ≡ Some n → u.server ≡ here
      began u n false e runs = h.own u n runs
      began u n true e runs = ap (λ (v : TransId). v.server) (sym (same_trans-true t u e)) ∙ seat

      this : (f : Fate) → f ≡ Undrawn → (x : Option JoinNo) → x ≡ None → (u : TransId) → IsPartOf k u l (fate.begun client f) x
      this f new None none u = (ap (λ (y : Fate). client_of (fate.begun client y)) new ∙ ap Some (sym its), caller)
      this f new (Some j) none u = let wrong : Some j ≡ None = none in cc

      go : (u : TransId) (b d : Bool) → same_trans t u ≡ b → same_trans u t ≡ d → IsPairedWith k u (cond {A = Fate} b (fate.begun client (fate_in c u)) (fate_in c u)) (cond {A = Option Live} d (Some l) (map.get m u))
      go u true true e f = this (fate_in c u) (ap (fate_in c) (same_trans-true u t f) ∙ next_fate c) l.join own u
      go u false false e f = h.parts u
      go u true false e f = let wrong : true ≡ false = sym (ap (same_trans u) (same_trans-true t u e) ∙ same_trans-itself u) ∙ f in cc
      go u false true e f = let wrong : true ≡ false = sym (ap (same_trans t) (same_trans-true u t f) ∙ same_trans-itself t) ∙ e in cc

  -- its part goes that runs no more, and of which no join is
  pub paired_gone : (after : Coordinator) (t : TransId) (clock : ℕ) → LetsGo c after t clock → HasNoJoinOf k.lives t → ArePaired servers here after k (map.remove m t)
  paired_gone after t clock lets none = record {
    parts = λ u. subst (IsPairedWith k u (fate_in after u)) (sym (get_gone m t u)) (go u (same_trans t u) (same_trans u t) refl refl);
    joins = λ j x is inside. (let p = h.joins j x is inside in (p.0, get_gone m t x.trans ∙ ap (λ (b : Bool). cond {A = Option Live} b None (map.get m x.trans)) (none j x is) ∙ p.1, p.2));
    others = h.others;
    own = λ u n runs. ran u n (same_trans t u) refl runs;
  }
    where
      ran : (u : TransId) (n : ℕ) (b : Bool) → same_trans t u ≡ b → client_of (fate_in after u) ≡ Some n → u.server ≡ here
      ran u n false e runs = h.own u n (ap client_of (sym (lets.others u e)) ∙ runs)
      ran u n true e runs = let wrong : None ≡ Some n = sym lets.gone ∙ ap (λ (v : TransId). client_of (fate_in after v)) (same_trans-true t u e) ∙ runs in cc

      go : (u : TransId) (b d : Bool) → same_trans t u ≡ b → same_trans u t ≡ d → IsPairedWith k u (fate_in after u) (cond {A = Option Live} d None (map.get m u))
      go u true true e f = ap (λ (v : TransId). client_of (fate_in after v)) (sym (same_trans-true t u e)) ∙ lets.gone
      go u false false e f = subst (λ (x : Fate). IsPairedWith k u x (map.get m u)) (sym (lets.others u e)) (h.parts u)
      go u true false e f = let wrong : true ≡ false = sym (ap (same_trans u) (same_trans-true t u e) ∙ same_trans-itself u) ∙ f in cc
      go u false true e f = let wrong : true ≡ false = sym (ap (same_trans t) (same_trans-true u t f) ∙ same_trans-itself t) ∙ e in cc

  -- another coordinator that says the same
  pub paired_kept : (after : Coordinator) → ((t : TransId) → fate_in after t ≡ fate_in c t) → ArePaired servers here after k m
  paired_kept after keeps = record {
    parts = λ t. subst (λ (f : Fate). IsPairedWith k t f (map.get m t)) (sym (keeps t)) (h.parts t);
    joins = h.joins;
    others = h.others;
    own = λ u n runs. h.own u n (sym (ap client_of (keeps u)) ∙ runs);
  }

-- ---- how many are live

-- of ids that are named once no more are there than of those among which each is
pub within : (ts us : List TransId) → AreIdsOnce ts → ((t : TransId) → has_trans t ts ≡ true → has_trans t us ≡ true) → length ts ≤ length us
within [] us once all = omega arith
within (t ∷ ts) us once all =
    let rest : length ts ≤ length (filter other us) = within ts (filter other us) once.1 (λ u here. left u us (apart u here (same_trans t u) refl) (all u (or_right (same_trans t u) here))) in
    let fewer : length (filter other us) + 1 ≤ length us = gone us (all t (or_left (has_trans t ts) (same_trans-itself t))) in
    omega (arith, rest, fewer)
  where
    other : TransId → Bool
    other u = not (same_trans u t)

    or_right : (a : Bool) {b : Bool} → b ≡ true → (a || b) ≡ true
    or_right true e = refl
    or_right false e = e

    or_left : {a : Bool} (b : Bool) → a ≡ true → (a || b) ≡ true
    or_left b e = ap (λ (x : Bool). x || b) e

    apart : (u : TransId) → has_trans u ts ≡ true → (b : Bool) → same_trans t u ≡ b → b ≡ false
    apart u here false e = refl
    apart u here true e = let wrong : false ≡ true = sym once.0 ∙ ap (λ (v : TransId). has_trans v ts) (same_trans-true t u e) ∙ here in cc

    left : (u : TransId) (vs : List TransId) → same_trans t u ≡ false → has_trans u vs ≡ true → has_trans u (filter other vs) ≡ true
    left u [] away h = h
    left u (v ∷ vs) away h = by (same_trans v t) refl (same_trans v u) refl h (left u vs away)
      where
        by : (b : Bool) → same_trans v t ≡ b → (d : Bool) → same_trans v u ≡ d → (d || has_trans u vs) ≡ true → (has_trans u vs ≡ true → has_trans u (filter other vs) ≡ true)
            → has_trans u (cond {A = List TransId} (not b) (v ∷ filter other vs) (filter other vs)) ≡ true
        by true e true f g more = let wrong : true ≡ false = sym (ap (λ (x : TransId). same_trans x u) (sym (same_trans-true v t e)) ∙ f) ∙ away in cc
        by true e false f g more = more g
        by false e d f g more = ap (λ (x : Bool). x || has_trans u (filter other vs)) f ∙ or_of d g more
          where
            or_of : (x : Bool) → (x || has_trans u vs) ≡ true → (has_trans u vs ≡ true → has_trans u (filter other vs) ≡ true) → (x || has_trans u (filter other vs)) ≡ true
            or_of true g more = refl
            or_of false g more = more g

    most : (vs : List TransId) → length (filter other vs) ≤ length vs
    most [] = omega arith
    most (v ∷ vs) = by (other v) (most vs)
      where
        by : (b : Bool) → length (filter other vs) ≤ length vs → length (cond {A = List TransId} b (v ∷ filter other vs) (filter other vs)) ≤ length (v ∷ vs)
        by true h = omega (arith, h)
        by false h = omega (arith, h)

    gone : (vs : List TransId) → has_trans t vs ≡ true → length (filter other vs) + 1 ≤ length vs
    gone [] h = let wrong : false ≡ true = h in cc
    gone (v ∷ vs) h = by (same_trans v t) refl h (gone vs) (most vs)
      where
        by : (b : Bool) → same_trans v t ≡ b → (b || has_trans t vs) ≡ true → (has_trans t vs ≡ true → length (filter other vs) + 1 ≤ length vs) → length (filter other vs) ≤ length vs
            → length (cond {A = List TransId} (not b) (v ∷ filter other vs) (filter other vs)) + 1 ≤ length (v ∷ vs)
        by true e g more all = omega (arith, all)
        by false e g more all = let fewer : length (filter other vs) + 1 ≤ length vs = more g in omega (arith, fewer)

pub or_none : (a b : Bool) → (a || b) ≡ false → (a ≡ false) × (b ≡ false)
or_none false b e = (refl, e)
or_none true b e = let wrong : true ≡ false = e in cc

module _ (p : TransId → Bool) where
  none_passing : (t : TransId) (ts : List TransId) → has_trans t ts ≡ false → has_trans t (filter p ts) ≡ false
  none_passing t [] h = refl
  none_passing t (u ∷ us) h = let parts = or_none (same_trans u t) (has_trans t us) h in go (p u) parts.0 (none_passing t us parts.1)
    where
      go : (b : Bool) → same_trans u t ≡ false → has_trans t (filter p us) ≡ false → has_trans t (cond {A = List TransId} b (u ∷ filter p us) (filter p us)) ≡ false
      go true e rest = ap (λ (x : Bool). x || has_trans t (filter p us)) e ∙ rest
      go false e rest = rest

  -- what passes among ids that are named once is named once
  pub once_passing : (ts : List TransId) → AreIdsOnce ts → AreIdsOnce (filter p ts)
  once_passing [] once = tt
  once_passing (t ∷ ts) once = go (p t) (once_passing ts once.1)
    where
      go : (b : Bool) → AreIdsOnce (filter p ts) → AreIdsOnce (cond {A = List TransId} b (t ∷ filter p ts) (filter p ts))
      go true rest = (none_passing t ts once.0, rest)
      go false rest = rest

  pub passing_there : (t : TransId) (ts : List TransId) → p t ≡ true → has_trans t ts ≡ true → has_trans t (filter p ts) ≡ true
  passing_there t [] pass h = h
  passing_there t (u ∷ us) pass h = go (p u) refl (same_trans u t) refl h (passing_there t us pass)
    where
      go : (b : Bool) → p u ≡ b → (d : Bool) → same_trans u t ≡ d → (d || has_trans t us) ≡ true → (has_trans t us ≡ true → has_trans t (filter p us) ≡ true)
          → has_trans t (cond {A = List TransId} b (u ∷ filter p us) (filter p us)) ≡ true
      go true f true e g more = ap (λ (x : Bool). x || has_trans t (filter p us)) e
      go true f false e g more = ap (λ (x : Bool). x || has_trans t (filter p us)) e ∙ more g
      go false f true e g more = let wrong : true ≡ false = sym (ap p (same_trans-true u t e) ∙ pass) ∙ f in cc
      go false f false e g more = more g

  pub there_passes : (t : TransId) (ts : List TransId) → has_trans t (filter p ts) ≡ true → p t ≡ true
  there_passes t [] h = let wrong : false ≡ true = h in cc
  there_passes t (u ∷ us) h = go (p u) refl h (there_passes t us)
    where
      by : p u ≡ true → (d : Bool) → same_trans u t ≡ d → (d || has_trans t (filter p us)) ≡ true → (has_trans t (filter p us) ≡ true → p t ≡ true) → p t ≡ true
      by f true e g more = sym (ap p (same_trans-true u t e)) ∙ f
      by f false e g more = more g

      go : (b : Bool) → p u ≡ b → has_trans t (cond {A = List TransId} b (u ∷ filter p us) (filter p us)) ≡ true → (has_trans t (filter p us) ≡ true → p t ≡ true) → p t ≡ true
      go true f g more = by f (same_trans u t) refl g more
      go false f g more = more g

settled_counts : (t : TransId) (x : Option Settled) → is_counted (fate_settled t x) ≡ false
settled_counts t None = refl
settled_counts t (Some settled.Open) = refl
settled_counts t (Some (settled.Committed ts)) = refl
settled_counts t (Some (settled.Forgotten ts ms)) = refl
settled_counts t (Some (settled.Ended c)) = refl

pub runs_counts : (f : Fate) (n : ℕ) → client_of f ≡ Some n → is_counted f ≡ true
runs_counts Undrawn n e = let wrong : None ≡ Some n = e in cc
runs_counts (Running c js) n e = refl
runs_counts (Finishing c js vs) n e = refl
runs_counts (Committed s js ds) n e = let wrong : None ≡ Some n = e in cc
runs_counts (Forgotten s js) n e = let wrong : None ≡ Some n = e in cc
runs_counts (Ended c) n e = let wrong : None ≡ Some n = e in cc

-- those that count
abbrev pub counted_list : Coordinator → List TransId
counted_list c = filter (λ t. is_counted (fate_in c t)) (open_ids c)

counted_once : (c : Coordinator) → AreIdsOnce (counted_list c)
counted_once c = once_passing (λ t. is_counted (fate_in c t)) (open_ids c) (rising_once (open_ids c) (keys_rise c.courses))

pub counted_there : (c : Coordinator) (t : TransId) → is_counted (fate_in c t) ≡ true → has_trans t (counted_list c) ≡ true
counted_there c t counts = passing_there (λ u. is_counted (fate_in c u)) t (open_ids c) counts (go (has_trans t (open_ids c)) refl)
  where
    go : (b : Bool) → has_trans t (open_ids c) ≡ b → b ≡ true
    go true e = refl
    go false e = let wrong : false ≡ true = sym (ap is_counted (closed_fate c t e) ∙ settled_counts t (settled_in c t)) ∙ counts in cc

-- no more count where each that does did so
pub counted_fewer : (before after : Coordinator) → ((t : TransId) → is_counted (fate_in after t) ≡ true → is_counted (fate_in before t) ≡ true) → counted_of after ≤ counted_of before
counted_fewer before after all = within (counted_list after) (counted_list before) (counted_once after) (λ t here. counted_there before t (all t (there_passes (λ u. is_counted (fate_in after u)) t (open_ids after) here)))

pub counted_gone : (before after : Coordinator) (t : TransId) (clock : ℕ) → LetsGo before after t clock → counted_of after ≤ counted_of before
counted_gone before after t clock lets = counted_fewer before after lets.counts

-- one begins
pub counted_begun : (client seen : ℕ) (who : List ℕ) (before after : Coordinator) → Comes (Begins (next_id before) client who seen) before after → counted_of after ≤ counted_of before + 1
counted_begun client seen who before after comes =
    let all : length (counted_list after) ≤ length (next_id before ∷ counted_list before) = within (counted_list after) (next_id before ∷ counted_list before) (counted_once after) (λ t here. go t (same_trans (next_id before) t) refl (sym (ap is_counted (comes t)) ∙ there_passes (λ u. is_counted (fate_in after u)) t (open_ids after) here)) in
    omega (arith, all)
  where
    go : (t : TransId) (b : Bool) → same_trans (next_id before) t ≡ b → is_counted (cond {A = Fate} b (fate.begun client (fate_in before t)) (fate_in before t)) ≡ true → has_trans t (next_id before ∷ counted_list before) ≡ true
    go t true e counts = ap (λ (x : Bool). x || has_trans t (counted_list before)) e
    go t false e counts = ap (λ (x : Bool). x || has_trans t (counted_list before)) e ∙ counted_there before t counts

-- each live part is of a transaction that counts, or of a join
pub has_left : (t : TransId) (us vs : List TransId) → has_trans t us ≡ true → has_trans t (us ++ vs) ≡ true
has_left t [] vs h = let wrong : false ≡ true = h in cc
has_left t (u ∷ us) vs h = go (same_trans u t) h (has_left t us vs)
  where
    go : (b : Bool) → (b || has_trans t us) ≡ true → (has_trans t us ≡ true → has_trans t (us ++ vs) ≡ true) → (b || has_trans t (us ++ vs)) ≡ true
    go true e more = refl
    go false e more = more e

pub has_right : (t : TransId) (us vs : List TransId) → has_trans t vs ≡ true → has_trans t (us ++ vs) ≡ true
has_right t [] vs h = h
has_right t (u ∷ us) vs h = go (same_trans u t) (has_right t us vs h)
  where
    go : (b : Bool) → has_trans t (us ++ vs) ≡ true → (b || has_trans t (us ++ vs)) ≡ true
    go true e = refl
    go false e = e

abbrev pub joined_list : List LiveJoin → List TransId
joined_list ls = list_map (λ (x : LiveJoin). x.trans) ls

pub joined_there : (j : JoinNo) (y : LiveJoin) (ls : List LiveJoin) → join_at ls j ≡ Some y → has_trans y.trans (joined_list ls) ≡ true
joined_there j y [] is = let wrong : None ≡ Some y = is in cc
joined_there j y (x ∷ xs) is = go (is_at j x) is (joined_there j y xs)
  where
    same : (a b : LiveJoin) → Some a ≡ Some b → a ≡ b
    same a b e = cc

    either : (b : Bool) → has_trans y.trans (joined_list xs) ≡ true → (b || has_trans y.trans (joined_list xs)) ≡ true
    either true e = refl
    either false e = e

    go : (b : Bool) → cond {A = Option LiveJoin} b (Some x) (join_at xs j) ≡ Some y → (join_at xs j ≡ Some y → has_trans y.trans (joined_list xs) ≡ true) → (same_trans x.trans y.trans || has_trans y.trans (joined_list xs)) ≡ true
    go true e more = ap (λ (b : Bool). b || has_trans y.trans (joined_list xs)) (ap (λ (z : LiveJoin). same_trans z.trans y.trans) (same x y e) ∙ same_trans-itself y.trans)
    go false e more = either (same_trans x.trans y.trans) (more e)

length_both : (us vs : List TransId) → length (us ++ vs) ≡ length us + length vs
length_both [] vs = omega arith
length_both (u ∷ us) vs = (let rest : length (us ++ vs) ≡ length us + length vs = length_both us vs in omega (arith, rest))

pub length_joined : (ls : List LiveJoin) → length (joined_list ls) ≡ length ls
length_joined [] = refl
length_joined (x ∷ xs) = ap suc (length_joined xs)

pub live_most : (servers here : ℕ) (c : Coordinator) (k : Joins) (m : LiveMap) → ArePaired servers here c k m → map.len m ≤ counted_of c + length k.lives
live_most servers here c k m h =
    let all : length (map.keys m) ≤ length (counted_list c ++ joined_list k.lives) =
    within (map.keys m) (counted_list c ++ joined_list k.lives) (rising_once (map.keys m) (keys_rise m)) (λ t here. there t (map.get m t) refl (sym (key_there m t) ∙ here)) in
    let both : length (counted_list c ++ joined_list k.lives) ≡ counted_of c + length (joined_list k.lives) = length_both (counted_list c) (joined_list k.lives) in
    omega (arith, all, both, length_joined k.lives, key_count m)
  where
    joined : (t : TransId) (l : Live) (j : JoinNo) (y : Option LiveJoin) → join_at k.lives j ≡ y → IsItsJoin t l y → has_trans t (joined_list k.lives) ≡ true
    joined t l j None e q = absurd q
    joined t l j (Some y) e q = subst (λ (u : TransId). has_trans u (joined_list k.lives) ≡ true) q.0 (joined_there j y k.lives e)

    part : (t : TransId) (l : Live) (x : Option JoinNo) → IsPartOf k t l (fate_in c t) x → has_trans t (counted_list c ++ joined_list k.lives) ≡ true
    part t l None p = has_left t (counted_list c) (joined_list k.lives) (counted_there c t (runs_counts (fate_in c t) l.client p.0))
    part t l (Some j) p = has_right t (counted_list c) (joined_list k.lives) (joined t l j (join_at k.lives j) refl p.1)

    there : (t : TransId) (x : Option Live) → map.get m t ≡ x → is_some x ≡ true → has_trans t (counted_list c ++ joined_list k.lives) ≡ true
    there t None e some = let wrong : false ≡ true = some in cc
    there t (Some l) e some = part t l l.join (subst (IsPairedWith k t (fate_in c t)) e (h.parts t))

-- so a server that is ready has no more live parts than it may have transactions
pub few_live : {V : Type 0} (n : ℕ) (serves : Bool) (k : ServerState V) → IsReady n serves k → map.len k.lives ≤ 64
few_live n serves k h = (let most : map.len k.lives ≤ counted_of k.coordinator + length k.joins.lives = live_most k.servers k.server k.coordinator k.joins k.lives h.paired in omega (arith, most, h.most))
