-- parts that count other locks, and grants one after the other
use Rattle.std.specs.Prelude.{cond, Bool, true, false, Option, None, Some, is_some, slice_get}
use Rattle.std.specs.FinMap as map
use Rattle.std.proofs.Common.{◌≡◌, ℕ, ◌+◌, ◌≤◌, suc, List, [], ◌∷◌, ◌++◌, drop, length, refl, sym, ◌∙◌, ap, subst, arith}
use Rattle.std.proofs.lemmas.List.{append_assoc, length-append}
use Rattle.alp_base.specs.declared.ids.TransId.{TransId}
use Rattle.alp_journal.specs.declared.act.Act.{Act}
use Rattle.alp_journal.specs.declared.act.Act.TheVariants as act
use Rattle.alp_journal.specs.Ids.{same_trans}
use Rattle.alp_journal.proofs.IdLemmas.{same_trans-true}
use Rattle.alp_locks.specs.Tables.{Table}
use Rattle.alp_node.specs.Releases.{lock_if, with_locks, granted_if, granted_one, granted_all, woken_taken, grant_acts}
use Rattle.alp_worker.specs.declared.live.LiveJoin.{LiveJoin}
use Rattle.alp_node.specs.Totals.{LiveMap}
use Rattle.alp_node.specs.Waits.{locks_of}
use Rattle.alp_node.specs.declared.lives.Live.{Live}
use Rattle.alp_node.specs.declared.server_state.ServerState.{ServerState}
use Rattle.alp_node.proofs.MapLemmas.{get_put, put_length}
use Rattle.alp_node.proofs.NotedLemmas.{AreVotersAlike, HasNoVoter, voters_same, voters_put}
use Rattle.alp_node.proofs.PairedLemmas.{AreTheirs, theirs_put}

-- ---- a part that counts other locks

same_live : (a b : Live) → Some a ≡ Some b → a ≡ b
same_live a b e = cc

module _ (m : LiveMap) (t : TransId) (n : ℕ) where
  -- what is so of each part, and of this one with those locks, is so of each
  pub locked_each : (P : TransId → Live → Type 0) → ((u : TransId) (l : Live) → map.get m u ≡ Some l → P u l) → ((l : Live) → map.get m t ≡ Some l → P t (record l { locks = n }))
      → (u : TransId) (l : Live) → map.get (with_locks m t n) u ≡ Some l → P u l
  locked_each P all one u l is = go (map.get m t) refl is
    where
      at : (k : Live) → map.get m t ≡ Some k → (b : Bool) → same_trans u t ≡ b → cond {A = Option Live} b (Some (record k { locks = n })) (map.get m u) ≡ Some l → P u l
      at k there true e f = subst (P u) (same_live (record k { locks = n }) l f) (subst (λ (v : TransId). P v (record k { locks = n })) (sym (same_trans-true u t e)) (one k there))
      at k there false e f = all u l f

      go : (x : Option Live) → map.get m t ≡ x → map.get (lock_if m t n x) u ≡ Some l → P u l
      go None there f = all u l f
      go (Some k) there f = at k there (same_trans u t) refl (sym (get_put m t (record k { locks = n }) u) ∙ f)

  pub locked_length : map.len (with_locks m t n) ≡ map.len m
  locked_length = go (map.get m t) refl
    where
      go : (x : Option Live) → map.get m t ≡ x → map.len (lock_if m t n x) ≡ map.len m
      go None there = refl
      go (Some k) there = put_length m t (record k { locks = n }) (ap is_some there)

  -- each is whose it was
  pub locked_theirs : AreTheirs m (with_locks m t n)
  locked_theirs = go (map.get m t) refl
    where
      go : (x : Option Live) → map.get m t ≡ x → AreTheirs m (lock_if m t n x)
      go None there = λ u. refl
      go (Some k) there = theirs_put m t k (record k { locks = n }) there refl

  -- and has its size, but this one
  pub locked_voters : (ls : List LiveJoin) → HasNoVoter ls t → AreVotersAlike m (with_locks m t n) ls
  locked_voters ls none = go (map.get m t)
    where
      go : (x : Option Live) → AreVotersAlike m (lock_if m t n x) ls
      go None = voters_same m m ls (λ u. refl)
      go (Some k) = voters_put m t (record k { locks = n }) ls none

  pub locked_live : (u : TransId) → is_some (map.get m u) ≡ true → is_some (map.get (with_locks m t n) u) ≡ true
  locked_live u live = go (map.get m t)
    where
      either : (b : Bool) (k : Live) → is_some (cond {A = Option Live} b (Some k) (map.get m u)) ≡ true
      either true k = refl
      either false k = live

      go : (x : Option Live) → is_some (map.get (lock_if m t n x) u) ≡ true
      go None = live
      go (Some k) = ap is_some (get_put m t (record k { locks = n }) u) ∙ either (same_trans u t) (record k { locks = n })

  pub locked_none : (u : TransId) → map.get m u ≡ None → map.get (with_locks m t n) u ≡ None
  locked_none u none = go (map.get m t) refl
    where
      either : (k : Live) → map.get m t ≡ Some k → (b : Bool) → same_trans u t ≡ b → cond {A = Option Live} b (Some (record k { locks = n })) (map.get m u) ≡ None
      either k there true e = let wrong : None ≡ Some k = sym none ∙ ap (map.get m) (same_trans-true u t e) ∙ there in cc
      either k there false e = none

      go : (x : Option Live) → map.get m t ≡ x → map.get (lock_if m t n x) u ≡ None
      go None there = none
      go (Some k) there = get_put m t (record k { locks = n }) u ∙ either k there (same_trans u t) refl

-- ---- a grant

-- a grant leaves the table alone
pub granted_locks : {V : Type 0} (k : ServerState V) (t : TransId) → (granted_one k t).locks ≡ k.locks
granted_locks k t = go (locks_of t k.waits)
  where
    go : (x : Option ℕ) → (granted_if k t x).locks ≡ k.locks
    go None = refl
    go (Some m) = refl

module _ {V : Type 0} (k : ServerState V) (t : TransId) where
  pub granted_length : map.len (granted_one k t).lives ≡ map.len k.lives
  granted_length = go (locks_of t k.waits)
    where
      go : (x : Option ℕ) → map.len (granted_if k t x).lives ≡ map.len k.lives
      go None = refl
      go (Some n) = locked_length k.lives t n

  -- what is so of each part whatever its locks is so still
  pub granted_each : (P : Live → Type 0) → ((l : Live) (n : ℕ) → P l → P (record l { locks = n })) → ((u : TransId) (l : Live) → map.get k.lives u ≡ Some l → P l) → (u : TransId) (l : Live) → map.get (granted_one k t).lives u ≡ Some l → P l
  granted_each P keeps all = go (locks_of t k.waits)
    where
      go : (x : Option ℕ) → (u : TransId) (l : Live) → map.get (granted_if k t x).lives u ≡ Some l → P l
      go None = all
      go (Some n) = locked_each k.lives t n (λ u l. P l) all (λ l there. keeps l n (all t l there))

  -- whatever the table is
  pub granted_with : (locks : Table) → granted_one (record k { locks = locks }) t ≡ record (granted_one k t) { locks = locks }
  granted_with locks = go (locks_of t k.waits)
    where
      go : (x : Option ℕ) → granted_if (record k { locks = locks }) t x ≡ record (granted_if k t x) { locks = locks }
      go None = refl
      go (Some n) = refl

  pub woken_step : (ts : List TransId) → k.locks.woken ≡ t ∷ ts → woken_taken (granted_one (record k { locks = record (k.locks) { woken = ts } }) t) ≡ woken_taken k
  woken_step ts is =
      let none : Table = record (k.locks) { woken = [] } in
      ap woken_taken (granted_with (record (k.locks) { woken = ts }))
      ∙ ap (λ (y : ServerState V). granted_all y ts) (sym (granted_with none))
      ∙ ap (granted_all (record k { locks = none })) (sym is)

-- the first of a list
pub first_is : {X : Type 0} (xs : List X) (x : X) → Some x ≡ slice_get xs 0 → xs ≡ x ∷ drop 1 xs
first_is [] x e = let wrong : Some x ≡ None = e in cc
first_is (y ∷ ys) x e = ap (λ (z : _). z ∷ ys) (sym (same_one x y e))
  where
    same_one : {A : Type 0} (a b : A) → Some a ≡ Some b → a ≡ b
    same_one a b f = cc

-- the acts behind one grant
pub acts_step : (acts now : List Act) (t : TransId) (woken ts : List TransId) → woken ≡ t ∷ ts → now ≡ acts ++ act.Granted t ∷ [] → now ++ grant_acts ts ≡ acts ++ grant_acts woken
acts_step acts now t woken ts is so = ap (λ (xs : List Act). xs ++ grant_acts ts) so ∙ append_assoc acts (act.Granted t ∷ []) (grant_acts ts) ∙ ap (λ (us : List TransId). acts ++ grant_acts us) (sym is)

pub room_step : (acts now : List Act) (t : TransId) (woken ts : List TransId) (room : ℕ) → woken ≡ t ∷ ts → now ≡ acts ++ act.Granted t ∷ [] → length acts + length woken ≤ room → length now + length ts ≤ room
room_step acts now t woken ts room is so h =
    let longer : length now ≡ length acts + 1 = ap length so ∙ length-append acts (act.Granted t ∷ []) in
    let one : length woken ≡ suc (length ts) = ap length is in
    omega (arith, longer, one, h)
