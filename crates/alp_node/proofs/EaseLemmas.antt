-- parts that need no place for some blocks any more stand as they did besides
use Rattle.std.specs.Prelude.{cond, Bool, true, false, ◌||◌, is_some, Option, None, Some}
use Rattle.std.specs.Option.{option_map}
use Rattle.std.specs.List.{list_any, list_all, AllByRecursion}
use Rattle.std.specs.FinMap as map
use Rattle.std.proofs.Common.{◌≡◌, ℕ, ◌≤◌, List, [], ◌∷◌, le_refl, refl, sym, ◌∙◌, ap, subst, arith}
use Rattle.alp_base.specs.declared.faults.Sizes.{Sizes}
use Rattle.alp_base.specs.declared.ids.TransId.{TransId}
use Rattle.alp_base.specs.declared.key.Key.{Key}
use Rattle.alp_calls.specs.Parts.{IsPart}
use Rattle.alp_files.specs.Cells.{Cells}
use Rattle.alp_journal.specs.Ids.{same_trans}
use Rattle.alp_journal.proofs.IdLemmas.{same_trans-true}
use Rattle.alp_coord.specs.Coordinators.{count_of}
use Rattle.alp_node.specs.Eases.{eased_live, eased_if, eased}
use Rattle.alp_node.specs.Asks.{is_given}
use Rattle.alp_node.specs.Rooms.{IsWithin}
use Rattle.alp_node.specs.ServerState.{IsReady}
use Rattle.alp_node.specs.declared.server_state.ServerState.{ServerState}
use Rattle.alp_node.specs.Totals.{LiveMap, totals_of, HaveRoom}
use Rattle.alp_node.specs.Noted.{size_of, size_in, HasReadyRoom}
use Rattle.alp_node.specs.declared.lives.Live.{Live}
use Rattle.alp_node.specs.declared.waits.WaitingCall.{WaitingCall}
use Rattle.alp_node.proofs.WaitLemmas.{IsLikePart, IsLikeThen, like_itself, waiting_parts}
use Rattle.alp_node.proofs.KeysOnce.{AreOnce}
use Rattle.alp_node.proofs.KeptLemmas.{same_live}
use Rattle.alp_node.proofs.MapLemmas.{get_put, put_length}
use Rattle.alp_node.proofs.TotalLemmas.{among, swapped_room}
use Rattle.alp_node.proofs.NotedLemmas.{voters_same, room_on}
use Rattle.alp_node.proofs.PairedLemmas.{AreTheirs, whose_of, paired_on, alive_on}

-- ---- one part

pub eased_part : (blocks : List Key) (l : Live) → IsPart l.part → IsPart (eased_live blocks l).part
eased_part blocks l h = record {
  cells = h.cells;
  most = h.most;
  few = record { places = (let few = h.few.places in omega (arith, few)); files = h.few.files; owners = h.few.owners };
  fit = h.fit;
}

pub eased_within : (s : Sizes) (blocks : List Key) (l : Live) → IsWithin s l → IsWithin s (eased_live blocks l)
eased_within s blocks l h = record {
  part = eased_part blocks l h.part;
  locks = h.locks;
  log = h.log;
}

-- ---- all of them

module _ (blocks : List Key) where
  if_get : (m : LiveMap) (t : TransId) (x : Option Live) (u : TransId) → map.get m t ≡ x → map.get (eased_if blocks m t x) u ≡ cond {A = Option Live} (same_trans u t) (option_map (eased_live blocks) (map.get m u)) (map.get m u)
  if_get m t None u is = go (same_trans u t) refl
    where
      go : (b : Bool) → same_trans u t ≡ b → map.get m u ≡ cond {A = Option Live} b (option_map (eased_live blocks) (map.get m u)) (map.get m u)
      go false e = refl
      go true e =
          let none : map.get m u ≡ None = ap (map.get m) (same_trans-true u t e) ∙ is in
          none ∙ ap (option_map (eased_live blocks)) (sym none)
  if_get m t (Some l) u is = get_put m t (eased_live blocks l) u ∙ go (same_trans u t) refl
    where
      go : (b : Bool) → same_trans u t ≡ b → cond {A = Option Live} b (Some (eased_live blocks l)) (map.get m u) ≡ cond {A = Option Live} b (option_map (eased_live blocks) (map.get m u)) (map.get m u)
      go false e = refl
      go true e = ap (option_map (eased_live blocks)) (sym (ap (map.get m) (same_trans-true u t e) ∙ is))

  -- whoever is live then was so before, and what is so of it is so still
  module _ (P : Live → Type 0) (keeps : (l : Live) → P l → P (eased_live blocks l)) where
    pub each_if : (m : LiveMap) (t u : TransId) → ((l : Live) → map.get m u ≡ Some l → P l) → (l : Live) → map.get (eased_if blocks m t (map.get m t)) u ≡ Some l → P l
    each_if m t u all l is = go (same_trans u t) (map.get m u) refl (sym (if_get m t (map.get m t) u refl) ∙ is)
      where
        go : (b : Bool) (x : Option Live) → map.get m u ≡ x → cond {A = Option Live} b (option_map (eased_live blocks) x) x ≡ Some l → P l
        go false None at e = let wrong : None ≡ Some l = e in cc
        go false (Some k) at e = all l (at ∙ e)
        go true None at e = let wrong : None ≡ Some l = e in cc
        go true (Some k) at e = subst P (same_live (eased_live blocks k) l e) (keeps k (all k at))

    pub each_eased : (m : LiveMap) (ts : List TransId) (u : TransId) → ((l : Live) → map.get m u ≡ Some l → P l) → (l : Live) → map.get (eased blocks m ts) u ≡ Some l → P l
    each_eased m [] u all l is = all l is
    each_eased m (t ∷ ts) u all l is = each_eased (eased_if blocks m t (map.get m t)) ts u (each_if m t u all) l is

  if_live : (m : LiveMap) (t u : TransId) → is_some (map.get m u) ≡ true → is_some (map.get (eased_if blocks m t (map.get m t)) u) ≡ true
  if_live m t u live = ap is_some (if_get m t (map.get m t) u refl) ∙ go (same_trans u t) (map.get m u) live
    where
      go : (b : Bool) (x : Option Live) → is_some x ≡ true → is_some (cond {A = Option Live} b (option_map (eased_live blocks) x) x) ≡ true
      go false x e = e
      go true None e = e
      go true (Some l) e = refl

  -- what does not look at places is as before
  module _ {X : Type 0} (f : Option Live → X) (same : (l : Live) → f (Some (eased_live blocks l)) ≡ f (Some l)) where
    if_same : (m : LiveMap) (t u : TransId) → f (map.get (eased_if blocks m t (map.get m t)) u) ≡ f (map.get m u)
    if_same m t u = ap f (if_get m t (map.get m t) u refl) ∙ go (same_trans u t) (map.get m u)
      where
        go : (b : Bool) (x : Option Live) → f (cond {A = Option Live} b (option_map (eased_live blocks) x) x) ≡ f x
        go false x = refl
        go true None = refl
        go true (Some l) = same l

    pub eased_same : (m : LiveMap) (ts : List TransId) (u : TransId) → f (map.get (eased blocks m ts) u) ≡ f (map.get m u)
    eased_same m [] u = refl
    eased_same m (t ∷ ts) u = eased_same (eased_if blocks m t (map.get m t)) ts u ∙ if_same m t u

  -- each part is whose it was, and has its size
  pub eased_theirs : (m : LiveMap) (ts : List TransId) → AreTheirs m (eased blocks m ts)
  eased_theirs m ts u = eased_same whose_of (λ l. refl) m ts u

  pub eased_sizes : (m : LiveMap) (ts : List TransId) (u : TransId) → size_in (eased blocks m ts) u ≡ size_in m u
  eased_sizes m ts u = eased_same size_of (λ l. refl) m ts u

  -- whoever was live is so still
  pub eased_live_still : (m : LiveMap) (ts : List TransId) (u : TransId) → is_some (map.get m u) ≡ true → is_some (map.get (eased blocks m ts) u) ≡ true
  eased_live_still m [] u live = live
  eased_live_still m (t ∷ ts) u live = eased_live_still (eased_if blocks m t (map.get m t)) ts u (if_live m t u live)

  pub if_length : (m : LiveMap) (t : TransId) (x : Option Live) → map.get m t ≡ x → map.len (eased_if blocks m t x) ≡ map.len m
  if_length m t None is = refl
  if_length m t (Some l) is = put_length m t (eased_live blocks l) (ap is_some is)

  pub eased_length : (m : LiveMap) (ts : List TransId) → map.len (eased blocks m ts) ≡ map.len m
  eased_length m [] = refl
  eased_length m (t ∷ ts) = eased_length (eased_if blocks m t (map.get m t)) ts ∙ if_length m t (map.get m t) refl

  -- there is as much room, or more
  if_room : (s : Sizes) (cells : Cells) (m : LiveMap) (t : TransId) (x : Option Live) → map.get m t ≡ x → HaveRoom s cells (totals_of m) → HaveRoom s cells (totals_of (eased_if blocks m t x))
  if_room s cells m t None is h = h
  if_room s cells m t (Some l) is h =
      swapped_room s cells m t l (eased_live blocks l) is (record {
        places = omega (arith, h.places, among (λ (x : Live). x.part.counts.places) m t l is);
        files = omega (arith, h.files, among (λ (x : Live). x.part.counts.files) m t l is);
        owners = omega (arith, h.owners, among (λ (x : Live). x.part.counts.owners) m t l is);
      })

  pub eased_room : (s : Sizes) (cells : Cells) (m : LiveMap) (ts : List TransId) → HaveRoom s cells (totals_of m) → HaveRoom s cells (totals_of (eased blocks m ts))
  eased_room s cells m [] h = h
  eased_room s cells m (t ∷ ts) h = eased_room s cells (eased_if blocks m t (map.get m t)) ts (if_room s cells m t (map.get m t) refl h)

  -- each that is named, once
  abbrev is_among : TransId → List TransId → Bool
  is_among u ts = list_any (same_trans u) ts

  pub eased_get : (m : LiveMap) (ts : List TransId) (u : TransId) → AreOnce same_trans ts → map.get (eased blocks m ts) u ≡ cond {A = Option Live} (is_among u ts) (option_map (eased_live blocks) (map.get m u)) (map.get m u)
  eased_get m [] u once = refl
  eased_get m (t ∷ ts) u once =
      eased_get (eased_if blocks m t (map.get m t)) ts u once.1 ∙ ap (λ (x : Option Live). cond {A = Option Live} (is_among u ts) (option_map (eased_live blocks) x) x) (if_get m t (map.get m t) u refl) ∙ go (same_trans u t) refl
    where
      go : (b : Bool) → same_trans u t ≡ b
          → cond {A = Option Live} (is_among u ts) (option_map (eased_live blocks) (cond {A = Option Live} b (option_map (eased_live blocks) (map.get m u)) (map.get m u))) (cond {A = Option Live} b (option_map (eased_live blocks) (map.get m u)) (map.get m u))
          ≡ cond {A = Option Live} (b || is_among u ts) (option_map (eased_live blocks) (map.get m u)) (map.get m u)
      go false e = refl
      go true e = ap (λ (b : Bool). cond {A = Option Live} b (option_map (eased_live blocks) (option_map (eased_live blocks) (map.get m u))) (option_map (eased_live blocks) (map.get m u))) (ap (λ (x : TransId). is_among x ts) (same_trans-true u t e) ∙ once.0)

-- ---- a server that is ready stays so

pub eased_ready : {V : Type 0} (n : ℕ) (serves : Bool) (k : ServerState V) (blocks : List Key) (ts : List TransId) → IsReady n serves k → IsReady n serves (record k { lives = eased blocks k.lives ts })
eased_ready n serves k blocks ts h = record {
  serving = h.serving;
  halted = h.halted;
  sound = h.sound;
  taken = h.taken;
  waits = waiting_parts k.server k.epoch k.given k.given (le_refl k.given) (count_of k.coordinator) k.sizes k.lives (eased blocks k.lives ts) k.waits k.locks.waiting
      (eased_like k.waits) (λ t live. eased_live_still blocks k.lives ts t live) h.waits;
  known = λ t l is. each_eased blocks (λ x. is_some (map.get k.locks.held t) ≡ true) (λ x so. so) k.lives ts t (h.known t) l is;
  joins = h.joins;
  paired = paired_on k.servers k.server k.coordinator k.joins k.lives (eased blocks k.lives ts) (eased_theirs blocks k.lives ts) h.paired;
  idle = h.idle;
  opens = λ t l is. each_eased blocks (λ x. x.part.last ≤ n) (λ x so. so) k.lives ts t (h.opens t) l is;
  opened = λ t l is. each_eased blocks (λ x. list_all (λ o. is_given k.server k.epoch k.given o.file) x.part.opens.items ≡ true) (λ x so. so) k.lives ts t (h.opened t) l is;
  alive = alive_on k.servers k.server k.coordinator k.joins k.lives (eased blocks k.lives ts) (eased_theirs blocks k.lives ts) k.dead h.alive;
  places = h.places;
  calls = h.calls;
  replies = h.replies;
  drawn = h.drawn;
  given = h.given;
  most = h.most;
  fits = subst (HasReadyRoom k.sizes) (sym (room_on k.lives (eased blocks k.lives ts) k.joins.lives h.joins.once (voters_same k.lives (eased blocks k.lives ts) k.joins.lives (eased_sizes blocks k.lives ts)))) h.fits;
  within = λ t l is. each_eased blocks (IsWithin k.sizes) (eased_within k.sizes blocks) k.lives ts t (h.within t) l is;
  sized = h.sized;
  clock = h.clock;
  raised = h.raised;
  fated = h.fated;
  last = h.last;
  unheld = h.unheld;
  seat = h.seat;
  times = h.times;
}
  where
    eased_like : (ws : List WaitingCall) → AllByRecursion (IsLikeThen k.lives (eased blocks k.lives ts)) ws
    eased_like [] = tt
    eased_like (w ∷ ws) = (λ z counted l is. each_eased blocks (λ y. (x : Live) × (map.get k.lives w.trans ≡ Some x) × IsLikePart x y) (λ y so. (so.0, so.1, record { client = so.2.client; opens = so.2.opens; cells = so.2.cells })) k.lives ts w.trans (λ y there. (y, there, like_itself y)) l is, eased_like ws)
