-- what a transaction holds stays on files that the server made, and on leaves in modes of leaves
use Rattle.std.specs.Prelude.{cond, Bool, true, false, not, ◌&&◌, ◌||◌, ◌==◌, nat_lt, nat_le, Option, None, Some}
use Rattle.std.specs.List.{list_all, AllByRecursion}
use Rattle.std.specs.FinMap as map
use Rattle.std.specs.FinMap.{get-empty}
use Rattle.std.specs.Ordering.{eq_by_cmp}
use Rattle.std.proofs.Common.{◌≡◌, ℕ, ◌+◌, ◌<◌, ◌≤◌, List, [], ◌∷◌, ◌++◌, refl, sym, ◌∙◌, ap, subst, arith, eq-eqb}
use Rattle.std.proofs.lemmas.Bool.{and_parts, eqb-true, ltb-true, leb-true, le-leb}
use Rattle.std.proofs.lemmas.Map.Views.{tells_apart}
use Rattle.alp_base.specs.Orders.{trans_cmp, resource_cmp, exact_resources}
use Rattle.alp_base.specs.declared.ids.FileId.{FileId}
use Rattle.alp_base.specs.declared.ids.TransId.{TransId}
use Rattle.alp_base.specs.declared.key.Key.{Key}
use Rattle.alp_base.specs.declared.key.Resource.{Resource}
use Rattle.alp_base.specs.declared.key.Resource.TheVariants.{Whole, Leaf}
use Rattle.alp_modes.specs.Modes.{join_of}
use Rattle.alp_modes.specs.declared.Mode.{Mode}
use Rattle.alp_modes.specs.declared.Mode.TheVariants.{IntendRead, IntendWrite, Read, Update, ReadIntendWrite, Write}
use Rattle.alp_files.specs.Holdings.{Holding, join_held, held_by}
use Rattle.alp_files.specs.Locks.{Need}
use Rattle.alp_files.specs.declared.call.Call.{Call}
use Rattle.alp_files.specs.declared.reply.Reply.{Reply}
use Rattle.alp_files.proofs.FilesLemmas.{same-some}
use Rattle.alp_journal.proofs.IdLemmas.{all-append}
use Rattle.alp_queue.specs.Order.{without, is_of}
use Rattle.alp_queue.specs.Rises.{Held}
use Rattle.alp_queue.specs.declared.waiter.Waiter.{Waiter}
use Rattle.alp_locks.specs.Releases.{is_free, with_woken, with_kept, walked, released}
use Rattle.alp_locks.specs.Tables.{Table, Holders, held_of, holding}
use Rattle.alp_locks.proofs.FreeLemmas.{held-same, held-other}
use Rattle.alp_locks.proofs.SoundLemmas.{each-filter, held-gone, held-removed}
use Rattle.alp_regain.specs.Named.{is_leaf_mode, is_own, is_own_resource, is_mode_on}
use Rattle.alp_node.specs.Asks.{is_given, IsGivenOn, AreGiven, IsTidyHeld, IsHeldHere, asks_given, asks_made, is_made, makes_file}

-- ---- modes

join_modes : (a b : Mode) → is_leaf_mode a ≡ true → is_leaf_mode b ≡ true → is_leaf_mode (join_of a b) ≡ true
unfolding join_of
join_modes IntendRead b h k = let wrong : false ≡ true = h in cc
join_modes IntendWrite b h k = let wrong : false ≡ true = h in cc
join_modes ReadIntendWrite b h k = let wrong : false ≡ true = h in cc
join_modes Read IntendRead h k = let wrong : false ≡ true = k in cc
join_modes Read IntendWrite h k = let wrong : false ≡ true = k in cc
join_modes Read ReadIntendWrite h k = let wrong : false ≡ true = k in cc
join_modes Read Read h k = refl
join_modes Read Update h k = refl
join_modes Read Write h k = refl
join_modes Update IntendRead h k = let wrong : false ≡ true = k in cc
join_modes Update IntendWrite h k = let wrong : false ≡ true = k in cc
join_modes Update ReadIntendWrite h k = let wrong : false ≡ true = k in cc
join_modes Update Read h k = refl
join_modes Update Update h k = refl
join_modes Update Write h k = refl
join_modes Write b h k = refl

-- ---- what is held

module _ (server epoch : ℕ) where
  pub tidy_same : (h g : Holding) → ((r : Resource) → g r ≡ h r) → IsTidyHeld server epoch h → IsTidyHeld server epoch g
  tidy_same h g same x = record {
    own = λ f m e. x.own f m (sym (same (Whole f)) ∙ e);
    modes = λ k m e. x.modes k m (sym (same (Leaf k)) ∙ e);
  }

  pub tidy_none : (h : Holding) → ((r : Resource) → h r ≡ None) → IsTidyHeld server epoch h
  tidy_none h none = record {
    own = λ f m e. (let wrong : None ≡ Some m = sym (none (Whole f)) ∙ e in cc);
    modes = λ k m e. (let wrong : None ≡ Some m = sym (none (Leaf k)) ∙ e in cc);
  }

  own_join : (f : FileId) (x y : Option Mode) → ((m : Mode) → x ≡ Some m → is_own server epoch f ≡ true) → ((m : Mode) → y ≡ Some m → is_own server epoch f ≡ true) → (m : Mode) → join_held x y ≡ Some m → is_own server epoch f ≡ true
  own_join f None y a b m e = b m e
  own_join f (Some n) y a b m e = a n refl

  modes_join : (x y : Option Mode) → ((m : Mode) → x ≡ Some m → is_leaf_mode m ≡ true) → ((m : Mode) → y ≡ Some m → is_leaf_mode m ≡ true) → (m : Mode) → join_held x y ≡ Some m → is_leaf_mode m ≡ true
  modes_join None y a b m e = b m e
  modes_join (Some n) None a b m e = a m e
  modes_join (Some n) (Some o) a b m e = subst (λ (x : Mode). is_leaf_mode x ≡ true) (same-some (join_of n o) m e) (join_modes n o (a n refl) (b o refl))

  pub tidy_joined : (h g : Holding) → IsTidyHeld server epoch h → IsTidyHeld server epoch g → IsTidyHeld server epoch (λ r. join_held (h r) (g r))
  tidy_joined h g x y = record {
    own = λ f m e. own_join f (h (Whole f)) (g (Whole f)) (x.own f) (y.own f) m e;
    modes = λ k m e. modes_join (h (Leaf k)) (g (Leaf k)) (x.modes k) (y.modes k) m e;
  }

  pub tidy_if : (b : Bool) (h g : Holding) → IsTidyHeld server epoch h → IsTidyHeld server epoch g → IsTidyHeld server epoch (λ r. cond {A = Option Mode} b (join_held (h r) (g r)) (h r))
  tidy_if true h g x y = tidy_joined h g x y
  tidy_if false h g x y = x

  -- ---- needs

  abbrev pub IsTidyOn : Resource → Mode → Type 0
  IsTidyOn (Whole f) m = is_own server epoch f ≡ true
  IsTidyOn (Leaf k) m = is_leaf_mode m ≡ true

  abbrev pub AreTidyNeeds : List Need → Type 0
  AreTidyNeeds ns = AllByRecursion (λ (n : Need). IsTidyOn n.0 n.1) ns

  own_needs : (ns : List Need) → AreTidyNeeds ns → (f : FileId) (m : Mode) → held_by ns (Whole f) ≡ Some m → is_own server epoch f ≡ true
  own_needs [] all f m e = let wrong : None ≡ Some m = e in cc
  own_needs (n ∷ ns) all f m e = go (eq_by_cmp resource_cmp (Whole f) n.0) refl e (λ g. own_needs ns all.1 f m g)
    where
      go : (b : Bool) → eq_by_cmp resource_cmp (Whole f) n.0 ≡ b → cond {A = Option Mode} b (join_held (Some n.1) (held_by ns (Whole f))) (held_by ns (Whole f)) ≡ Some m → (held_by ns (Whole f) ≡ Some m → is_own server epoch f ≡ true) → is_own server epoch f ≡ true
      go true same g rest = subst (λ (r : Resource). IsTidyOn r n.1) (sym (tells_apart exact_resources (Whole f) n.0 same)) all.0
      go false other g rest = rest g

  modes_needs : (ns : List Need) → AreTidyNeeds ns → (k : Key) (m : Mode) → held_by ns (Leaf k) ≡ Some m → is_leaf_mode m ≡ true
  modes_needs [] all k m e = let wrong : None ≡ Some m = e in cc
  modes_needs (n ∷ ns) all k m e = go (eq_by_cmp resource_cmp (Leaf k) n.0) refl e (λ o g. modes_needs ns all.1 k o g)
    where
      go : (b : Bool) → eq_by_cmp resource_cmp (Leaf k) n.0 ≡ b → cond {A = Option Mode} b (join_held (Some n.1) (held_by ns (Leaf k))) (held_by ns (Leaf k)) ≡ Some m → ((o : Mode) → held_by ns (Leaf k) ≡ Some o → is_leaf_mode o ≡ true) → is_leaf_mode m ≡ true
      go true same g rest =
          let its : is_leaf_mode n.1 ≡ true = subst (λ (r : Resource). IsTidyOn r n.1) (sym (tells_apart exact_resources (Leaf k) n.0 same)) all.0 in
          modes_join (Some n.1) (held_by ns (Leaf k)) (λ o f. subst (λ (x : Mode). is_leaf_mode x ≡ true) (same-some n.1 o f) its) rest m g
      go false other g rest = rest m g

  pub tidy_needs : (ns : List Need) → AreTidyNeeds ns → IsTidyHeld server epoch (held_by ns)
  tidy_needs ns all = record { own = own_needs ns all; modes = modes_needs ns all }

  -- those of a note of this epoch or an older one
  pub tidy_noted : (before : ℕ) → before ≤ epoch → (ns : List Need) → list_all (λ l. is_mode_on l.0 l.1) ns ≡ true → list_all (λ l. is_own_resource server before l.0) ns ≡ true → AreTidyNeeds ns
  tidy_noted before low [] modes own = tt
  tidy_noted before low (n ∷ ns) modes own =
      let one = and_parts (is_mode_on n.0 n.1) (list_all (λ l. is_mode_on l.0 l.1) ns) modes in
      let two = and_parts (is_own_resource server before n.0) (list_all (λ l. is_own_resource server before l.0) ns) own in
      (each n.0 n.1 one.0 two.0, tidy_noted before low ns one.1 two.1)
    where
      each : (r : Resource) (m : Mode) → is_mode_on r m ≡ true → is_own_resource server before r ≡ true → IsTidyOn r m
      each (Leaf k) m mode its = mode
      each (Whole f) m mode its =
          let both = and_parts (f.server == server) (nat_le f.epoch before) its in
          let early : f.epoch ≤ before = leb-true f.epoch before both.1 in
          λ i. both.0 i && le-leb f.epoch epoch (omega (arith, early, low)) i

-- ---- what is asked for

given_own : (server epoch count : ℕ) (f : FileId) → is_given server epoch count f ≡ true → is_own server epoch f ≡ true
given_own server epoch count f h =
    let one = and_parts (f.server == server && nat_lt 0 f.epoch && nat_lt 0 f.counter) (nat_lt f.epoch epoch || (f.epoch == epoch && nat_le f.counter count)) h in
    let two = and_parts (f.server == server && nat_lt 0 f.epoch) (nat_lt 0 f.counter) one.0 in
    let three = and_parts (f.server == server) (nat_lt 0 f.epoch) two.0 in
    λ i. three.0 i && le-leb f.epoch epoch (low (nat_lt f.epoch epoch) refl one.1) i
  where
    low : (b : Bool) → nat_lt f.epoch epoch ≡ b → (b || (f.epoch == epoch && nat_le f.counter count)) ≡ true → f.epoch ≤ epoch
    low true is g = (let less : f.epoch < epoch = ltb-true f.epoch epoch is in omega (arith, less))
    low false is g = (let same : f.epoch ≡ epoch = eqb-true f.epoch epoch (and_parts (f.epoch == epoch) (nat_le f.counter count) g).0 in omega (arith, same))

pub tidy_given : (server epoch count : ℕ) (ns : List Need) → AreGiven server epoch count ns → AreTidyNeeds server epoch ns
tidy_given server epoch count [] all = tt
tidy_given server epoch count (n ∷ ns) all = (each n.0 n.1 all.0, tidy_given server epoch count ns all.1)
  where
    each : (r : Resource) (m : Mode) → IsGivenOn server epoch count r m → IsTidyOn server epoch r m
    each (Whole f) m g = given_own server epoch count f g
    each (Leaf k) m g = g

-- with the file that a call makes
pub tidy_asks : (server epoch count : ℕ) (c : Call) (ns : List Need) (r : Reply) → AreGiven server epoch count ns → IsTidyHeld server epoch (held_by (asks_given (record { server = server; epoch = epoch; counter = count + 1 }) c ns r))
tidy_asks server epoch count c ns r all = go (is_made r && makes_file c)
  where
    next : FileId
    next = record { server = server; epoch = epoch; counter = count + 1 }

    asked : AreTidyNeeds server epoch ns
    asked = tidy_given server epoch count ns all

    its : is_own server epoch next ≡ true
    its = λ i. eq-eqb server server refl i && le-leb epoch epoch (omega arith) i

    go : (b : Bool) → IsTidyHeld server epoch (held_by (cond {A = List Need} b (asks_made next ns) ns))
    go false = tidy_needs server epoch ns asked
    go true = tidy_needs server epoch (asks_made next ns) (all-append (λ (n : Need). IsTidyOn server epoch n.0 n.1) ns ((Whole next, Write) ∷ []) asked (its, tt))

-- ---- the files of this epoch

module _ (server epoch : ℕ) where
  pub same_here : (count : ℕ) (h g : Holding) → ((r : Resource) → g r ≡ h r) → IsHeldHere server epoch count h → IsHeldHere server epoch count g
  same_here count h g same x = record {
    unmade = λ n high. same (Whole (record { server = server; epoch = epoch; counter = n })) ∙ x.unmade n high;
    tidy = tidy_same server epoch h g same x.tidy;
  }

  pub here_later : (m n : ℕ) → m ≤ n → (h : Holding) → IsHeldHere server epoch m h → IsHeldHere server epoch n h
  here_later m n more h x = record { unmade = λ i high. x.unmade i (omega (arith, more, high)); tidy = x.tidy }

  pub none_here : (count : ℕ) (h : Holding) → ((r : Resource) → h r ≡ None) → IsHeldHere server epoch count h
  none_here count h none = record { unmade = λ n high. none (Whole (record { server = server; epoch = epoch; counter = n })); tidy = tidy_none server epoch h none }

-- ---- what a release leaves to each, and gives to those whom it wakes

module _ (Q : Held → Type 0) where
  insert_each : (holders : Holders) (t : TransId) (h : Held) → ((u : TransId) → Q (held_of holders u)) → Q h → (u : TransId) → Q (held_of (map.insert holders t h) u)
  insert_each holders t h all new u = go (eq_by_cmp trans_cmp u t) refl
    where
      go : (b : Bool) → eq_by_cmp trans_cmp u t ≡ b → Q (held_of (map.insert holders t h) u)
      go true e = subst Q (sym (held-same holders t h u e)) new
      go false e = subst Q (sym (held-other holders t h u e)) (all u)

  walked_each : (ws : List Waiter) (t : Table) → ((u : TransId) → Q (held_of t.held u)) → AllByRecursion (λ (w : Waiter). Q w.after) ws → (u : TransId) → Q (held_of (walked t ws).held u)
  walked_each [] t all new = all
  walked_each (w ∷ ws) t all new = go (is_free t.held w) (walked_each ws (with_woken t w) (insert_each t.held w.trans w.after all new.0) new.1) (walked_each ws (with_kept t w) all new.1)
    where
      go : (b : Bool) → ((u : TransId) → Q (held_of (walked (with_woken t w) ws).held u)) → ((u : TransId) → Q (held_of (walked (with_kept t w) ws).held u)) → (u : TransId) → Q (held_of (walked (cond b (with_woken t w) (with_kept t w)) ws).held u)
      go true a b = a
      go false a b = b

  remove_each : (holders : Holders) (t : TransId) → Q map.empty → ((u : TransId) → Q (held_of holders u)) → (u : TransId) → Q (held_of (map.remove holders t) u)
  remove_each holders t nothing all u = go (eq_by_cmp trans_cmp u t) refl
    where
      go : (b : Bool) → eq_by_cmp trans_cmp u t ≡ b → Q (held_of (map.remove holders t) u)
      go true e = subst Q (sym (held-gone holders t u e)) nothing
      go false e = subst Q (sym (held-removed holders t u e)) (all u)

  released_each : (t : Table) (u : TransId) → Q map.empty → ((v : TransId) → Q (held_of t.held v)) → AllByRecursion (λ (w : Waiter). Q w.after) t.waiting → (v : TransId) → Q (held_of (released t u).held v)
  released_each t u nothing all new =
      walked_each (without t.waiting u) (record { held = map.remove t.held u; waiting = []; woken = t.woken }) (remove_each t.held u nothing all) (each-filter (λ (w : Waiter). Q w.after) (λ w. not (is_of u w)) t.waiting new)

pub released_here : (server epoch count : ℕ) (t : Table) (u : TransId) → ((v : TransId) → IsHeldHere server epoch count (holding t.held v)) → AllByRecursion (λ (w : Waiter). IsHeldHere server epoch count (map.get w.after)) t.waiting
    → (v : TransId) → IsHeldHere server epoch count (holding (released t u).held v)
released_here server epoch count t u all new = released_each (λ (h : Held). IsHeldHere server epoch count (map.get h)) t u (none_here server epoch count (map.get (map.empty {X = Mode} {R = resource_cmp})) (λ r. get-empty {X = Mode} resource_cmp r)) all new
