-- A server of a run with the ranks of its entries: lemmas of lists.
use Rattle.std.specs.Prelude.{slice_index_or, take, max, cond, Bool, true, false, Option, None, Some, Result, Ok, Err}
use Rattle.std.proofs.Common.{◌≡◌, ℕ, ◌+◌, ◌-◌, ◌≤◌, List, [], ◌∷◌, ◌++◌, length, suc, refl, sym, ◌∙◌, ap, subst, arith}
use Rattle.alp_journal.specs.declared.entry.Entry.{Entry}
use Rattle.alp_journal.specs.declared.event.Event.{Event}
use Rattle.alp_journal.specs.declared.log.Item.{Item}
use Rattle.alp_journal.specs.declared.log.Sent.{Sent}
use Rattle.alp_journal.specs.declared.log.Sent.TheVariants as sent
use Rattle.alp_node.specs.NodeStates.{NodeState}
use Rattle.alp_node.specs.Served.{IsServed}
use Rattle.alp_vault.specs.declared.vault.Vault.{Ghosts}
use Rattle.alp_course.specs.Courses.{last_rank, ranks_from, ranks_with}
use Rattle.alp_course.specs.Happens.{Stand, ComesTo, Takes, Happens, stop_set, restarted, lifts}
use Rattle.alp_course.proofs.RankLemmas.{none_with}
use Rattle.alp_rpc.specs.declared.frame.Request.{Request}
use Rattle.alp_cluster.specs.Exchanges.{EndsHanding, event_of}
use Rattle.alp_cluster.specs.Goes.{GoesBy}
use Rattle.alp_cluster.specs.Servers.{IsFree, HasGone, HasNoRoom, IsUntouched, HasFailedIn, EndsStep, HasComeTo, HasStopSet, IsLifted, StartsAgain, stand_of}
use Rattle.alp_cluster.specs.Station.{standing, HasVault, Keeps, WentBy, LeavesVault, IsStill, IsLeftUntouched, IsLeftFailed, EndsEvent, EndsFrame}
use Rattle.alp_cluster.specs.declared.fault.RunFault.{RunFault}
use Rattle.alp_cluster.specs.declared.fault.RunFault.TheVariants as fault
use Rattle.alp_cluster.specs.declared.server.Server.{Server}
use Rattle.alp_cluster.specs.declared.station.Station.{Station}
use Rattle.alp_cluster.proofs.GoLemmas.{event_goes}
use Rattle.alp_cluster.proofs.GoneLemmas.{one_nothing}
use Rattle.alp_cluster.proofs.RestartLemmas.{again_goes, again_gone, lifted_goes, stop_goes}
use Rattle.alp_cluster.proofs.TakenLemmas.{untouched}

pub last_index : (xs : List ℕ) → slice_index_or xs (length xs - 1) 0 ≡ last_rank xs
last_index [] = refl
last_index (x ∷ []) = refl
last_index (x ∷ y ∷ xs) =
    let on : slice_index_or (y ∷ xs) (length (y ∷ xs) - 1) 0 ≡ last_rank (y ∷ xs) = last_index (y ∷ xs) in
    let here : length (x ∷ y ∷ xs) - 1 ≡ suc (length xs) = omega arith in
    let there : length xs ≡ length (y ∷ xs) - 1 = omega arith in
    ap (λ (n : ℕ). slice_index_or (x ∷ y ∷ xs) n 0) here ∙ ap (λ (n : ℕ). slice_index_or (y ∷ xs) n 0) there ∙ on

-- the ranks behind one that is there in any case
pub take_ranks : (rs : List ℕ) (js es : List Entry) (r : ℕ) → length rs ≡ length js → length es ≤ 1 → take (length (js ++ es)) (rs ++ r ∷ []) ≡ rs ++ ranks_from r es
take_ranks [] [] [] r many few = refl
take_ranks [] [] (e ∷ []) r many few = refl
take_ranks [] [] (e ∷ d ∷ es) r many few = absurd (omega (arith, few))
take_ranks [] (j ∷ js) es r many few = absurd (omega (arith, many))
take_ranks (x ∷ rs) [] es r many few = absurd (omega (arith, many))
take_ranks (x ∷ rs) (j ∷ js) es r many few = ap (λ (xs : List ℕ). x ∷ xs) (take_ranks rs js es r (omega (arith, many)) few)

pub take_none : (rs : List ℕ) (js : List Entry) (r : ℕ) → length rs ≡ length js → take (length js) (rs ++ r ∷ []) ≡ rs
take_none [] [] r many = refl
take_none [] (j ∷ js) r many = absurd (omega (arith, many))
take_none (x ∷ rs) [] r many = absurd (omega (arith, many))
take_none (x ∷ rs) (j ∷ js) r many = ap (λ (xs : List ℕ). x ∷ xs) (take_none rs js r (omega (arith, many)))

-- ---- one entry at most

pub few_come : (w : Stand) (b : Bool) (x : Event) (es : List Entry) (v : Stand) → ComesTo w b x es v → length es ≤ 1
few_come w true x es v h = (let none : length es ≡ 0 = ap (λ (fs : List Entry). length fs) h.0 in omega (arith, none))
few_come w false x es v h = (let one : length es ≡ 1 = ap (λ (fs : List Entry). length fs) h.one in omega (arith, one))

pub few_taken : (w : Stand) (k : ℕ) (x : Item) (b : Bool) (s : Sent) (es : List Entry) (v : Stand) → Takes w k x b s es v → length es ≤ 1
few_taken w k x true (sent.Bytes bytes) es v h = (let none : length es ≡ 0 = ap (λ (fs : List Entry). length fs) h.none.0 in omega (arith, none))
few_taken w k x false (sent.Bytes bytes) es v h = (let none : length es ≡ 0 = ap (λ (fs : List Entry). length fs) h.none.0 in omega (arith, none))
few_taken w k x true (sent.Call client epoch number c) es v h = (let none : length es ≡ 0 = ap (λ (fs : List Entry). length fs) h.none.0 in omega (arith, none))
few_taken w k x false (sent.Call client epoch number c) es v h = (let one : length es ≡ 1 = ap (λ (fs : List Entry). length fs) h.made.one in omega (arith, one))

-- ---- one server stands there

pub one_of : {V : Type 0} (o : Option (Server V)) (n m : NodeState V) → o ≡ standing n → o ≡ standing m → n ≡ m
one_of o n m first second = (let same : standing n ≡ standing m = sym first ∙ second in cc)

-- ---- what is left of its vault

module _ {V : Type 0} (G : Ghosts V) where
  -- nothing was done, for memory was wanting
  pub leaves_wanting : {T : Type 0} (P : Type 0) (x y : Station V) (r : Result T RunFault) → y.server ≡ x.server → r ≡ Err fault.OutOfMemory → LeavesVault G P x y r
  leaves_wanting {T} P x y r same is = λ n stood. (
    n.kept.vault,
    subst (λ (o : Option (Server V)). HasVault o n.kept.vault) (sym (same ∙ stood)) refl,
    subst (λ (q : Result T RunFault). HasGone G P n.kept.vault n.kept.vault q) (sym is) (one_nothing G P n.kept.vault (Err fault.OutOfMemory) tt tt refl),
  )

  -- ranks are no matter of the vault
  pub leaves_on : {T : Type 0} (P : Type 0) (x y z w : Station V) (r : Result T RunFault) → y.server ≡ x.server → w.server ≡ z.server → LeavesVault G P y z r → LeavesVault G P x w r
  leaves_on P x y z w r first last leaves = λ n stood.
      let (v, has, gone) = leaves n (first ∙ stood) in
      (v, subst (λ (o : Option (Server V)). HasVault o v) (sym last) has, gone)

  -- of the one that stands there
  pub leaves_server : {T : Type 0} (P : Type 0) (x : Station V) (o : Option (Server V)) (n : NodeState V) (v : V) (r : Result T RunFault) → x.server ≡ standing n → HasVault o v → HasGone G P n.kept.vault v r
      → (k : NodeState V) → x.server ≡ standing k → (u : V) × HasVault o u × HasGone G P k.kept.vault u r
  leaves_server {T} P x o n v r is has gone = λ k stood. (v, has, subst (λ (z : NodeState V). HasGone G P z.kept.vault v r) (one_of x.server n k is stood) gone)

  -- ---- it went on

  -- by entries of which there is one at most, with the rank that there is in any case
  pub went : (seen : ℕ) (Makes : Stand → List Entry → Stand → Type 0) (x y : Station V) (n m : NodeState V) → Keeps G x n → y.server ≡ standing m → (g : GoesBy G x.is_fused y.is_fused Makes n m) → length g.entries ≤ 1
      → y.ranks.items ≡ take (length m.journal) (x.ranks.items ++ (max (last_rank x.ranks.items) seen + 1) ∷ []) → WentBy G seen Makes x y n
  went seen Makes x y n m keeps stands g few ranks = record {
    after = m;
    stands = stands;
    goes = g;
    ranks =
        ranks ∙ ap (λ (k : ℕ). take k (x.ranks.items ++ (max (last_rank x.ranks.items) seen + 1) ∷ [])) (ap (λ (es : List Entry). length es) g.journal)
        ∙ take_ranks x.ranks.items n.journal g.entries (max (last_rank x.ranks.items) seen + 1) keeps.ranked few;
  }

  -- where lines may stop its disk as before
  pub fused_goes : (f g : Bool) (Makes : Stand → List Entry → Stand → Type 0) (n m : NodeState V) → g ≡ f → GoesBy G f f Makes n m → GoesBy G f g Makes n m
  fused_goes f g Makes n m same h = record {
    later = h.later;
    free = subst (λ (b : Bool). IsFree G b m) (sym same) h.free;
    entries = h.entries;
    journal = h.journal;
    made = subst (λ (b : Bool). Makes (stand_of G f n) h.entries (stand_of G b m)) (sym same) h.made;
  }

  pub came_by : (seen : ℕ) (e : Event) (x y : Station V) (n m : NodeState V) → Keeps G x n → IsServed e → y.server ≡ standing m → HasComeTo G n m e → y.is_fused ≡ x.is_fused
      → y.ranks.items ≡ take (length m.journal) (x.ranks.items ++ (max (last_rank x.ranks.items) seen + 1) ∷ []) → WentBy G seen (λ w es v. ComesTo w w.is_down e es v) x y n
  came_by seen e x y n m keeps served stands came fused ranks =
      let Makes : Stand → List Entry → Stand → Type 0 = λ w es v. ComesTo w w.is_down e es v in
      let g : GoesBy G x.is_fused x.is_fused Makes n m = event_goes G n m e keeps.on served came x.is_fused keeps.free in
      let h : GoesBy G x.is_fused y.is_fused Makes n m = fused_goes x.is_fused y.is_fused Makes n m fused g in
      went seen Makes x y n m keeps stands h (few_come (stand_of G x.is_fused n) n.kept.is_down e h.entries (stand_of G y.is_fused m) h.made) ranks

  -- its journal had no room
  pub still_by : (seen : ℕ) (x y : Station V) (n m : NodeState V) → Keeps G x n → HasNoRoom n m → y.server ≡ standing m → y.is_fused ≡ x.is_fused → y.ranks.items ≡ take (length m.journal) (x.ranks.items ++ (max (last_rank x.ranks.items) seen + 1) ∷ [])
      → HasNoRoom n n × IsStill x y
  still_by seen x y n m keeps room stands fused ranks = (
    record { up = room.up; full = room.full; same = refl },
    record {
      server = stands ∙ ap standing room.same ∙ sym keeps.stands;
      ranks =
          ranks ∙ ap (λ (z : NodeState V). take (length z.journal) (x.ranks.items ++ (max (last_rank x.ranks.items) seen + 1) ∷ [])) room.same
          ∙ take_none x.ranks.items n.journal (max (last_rank x.ranks.items) seen + 1) keeps.ranked;
      fused = fused;
    },
  )

  -- ---- a step that was not taken as it is to be

  -- there was no memory for the rank
  pub push_by : (x y : Station V) (n : NodeState V) → Keeps G x n → y.server ≡ x.server → y.is_fused ≡ x.is_fused → y.ranks.items ≡ x.ranks.items → IsLeftUntouched G x y n
  push_by x y n keeps server fused ranks = record { after = n; stands = server ∙ keeps.stands; untouched = untouched G n; ranks = ranks; fused = fused }

  module _ (seen : ℕ) (x y : Station V) (n m : NodeState V) (keeps : Keeps G x n) (stands : y.server ≡ standing m) (fused : y.is_fused ≡ x.is_fused) (ranks : y.ranks.items ≡ take (length m.journal) (x.ranks.items ++ (max (last_rank x.ranks.items) seen + 1) ∷ [])) where
    untouched_by : IsUntouched G n m → IsLeftUntouched G x y n
    untouched_by h = record {
      after = m;
      stands = stands;
      untouched = h;
      ranks =
          ranks ∙ ap (λ (js : List Entry). take (length js) (x.ranks.items ++ (max (last_rank x.ranks.items) seen + 1) ∷ [])) h.journal
          ∙ take_none x.ranks.items n.journal (max (last_rank x.ranks.items) seen + 1) keeps.ranked;
      fused = fused;
    }

    failed_by : (e : Event) → HasFailedIn G n m e → IsLeftFailed G seen e x y n
    failed_by e h = record {
      after = m;
      stands = stands;
      failed = h;
      ranks =
          ranks ∙ ap (λ (js : List Entry). take (length js) (x.ranks.items ++ (max (last_rank x.ranks.items) seen + 1) ∷ [])) h.journal
          ∙ take_ranks x.ranks.items n.journal (h.entry ∷ []) (max (last_rank x.ranks.items) seen + 1) keeps.ranked (omega arith);
      fused = fused;
    }

    pub event_by : (e : Event) (f : RunFault) → EndsStep G f n m e → EndsEvent G f seen e x y n
    event_by e fault.JournalFull h = still_by seen x y n m keeps h stands fused ranks
    event_by e fault.OutOfMemory h = untouched_by h
    event_by e (fault.DiskFault server) h = (h.0, failed_by e h.1)
    event_by e (fault.Start server f) h = absurd h

  pub frame_by : (x y : Station V) (n m : NodeState V) → Keeps G x n → y.server ≡ standing m → y.is_fused ≡ x.is_fused → y.ranks.items ≡ take (length m.journal) (x.ranks.items ++ (max (last_rank x.ranks.items) 0 + 1) ∷ [])
      → (f : RunFault) (o : Option Request) → EndsHanding G f n m o → EndsFrame G f o x y n
  frame_by x y n m keeps stands fused ranks f None h = (h.0, untouched_by 0 x y n m keeps stands fused ranks h.1)
  frame_by x y n m keeps stands fused ranks f (Some q) h = event_by 0 x y n m keeps stands fused ranks (event_of q) f h

  -- whatever the bytes of a frame spell
  pub frame_wants : (x y : Station V) (n : NodeState V) (o : Option Request) → IsLeftUntouched G x y n → EndsFrame G fault.OutOfMemory o x y n
  frame_wants x y n None h = (refl, h)
  frame_wants x y n (Some q) h = h

  -- ---- its disk

  -- without entries the ranks stay
  pub went_still : (Makes : Stand → List Entry → Stand → Type 0) (x y : Station V) (n m : NodeState V) → y.server ≡ standing m → (g : GoesBy G x.is_fused y.is_fused Makes n m) → g.entries ≡ [] → y.ranks.items ≡ x.ranks.items → WentBy G 0 Makes x y n
  went_still Makes x y n m stands g none ranks = record {
    after = m;
    stands = stands;
    goes = g;
    ranks = ranks ∙ sym (none_with x.ranks.items 0) ∙ ap (ranks_with x.ranks.items 0) (sym none);
  }

  pub stop_went : (calls : ℕ) (tells : Bool) (x y : Station V) (n m : NodeState V) → Keeps G x n → HasStopSet G calls n m → y.server ≡ standing m → y.is_fused ≡ cond n.kept.is_down x.is_fused true → y.ranks.items ≡ x.ranks.items → WentBy G 0 (λ w es v. Happens tells w (stop_set calls) es v) x y n
  stop_went calls tells x y n m keeps set stands fused ranks =
      let Makes : Stand → List Entry → Stand → Type 0 = λ w es v. Happens tells w (stop_set calls) es v in
      let g : GoesBy G x.is_fused (cond n.kept.is_down x.is_fused true) Makes n m = stop_goes G calls n m keeps.on set x.is_fused tells keeps.free in
      let h : GoesBy G x.is_fused y.is_fused Makes n m = record { later = g.later; free = subst (λ (b : Bool). IsFree G b m) (sym fused) g.free; entries = g.entries; journal = g.journal; made = subst (λ (b : Bool). Makes (stand_of G x.is_fused n) g.entries (stand_of G b m)) (sym fused) g.made } in
      went_still Makes x y n m stands h g.made.0 ranks

  pub lift_went : (tells : Bool) (x y : Station V) (n m : NodeState V) → Keeps G x n → IsLifted G n m → y.server ≡ standing m → y.is_fused ≡ false → y.ranks.items ≡ x.ranks.items → WentBy G 0 (λ w es v. Happens tells w (lifts n.kept.is_down) es v) x y n
  lift_went tells x y n m keeps lifted stands fused ranks =
      let Makes : Stand → List Entry → Stand → Type 0 = λ w es v. Happens tells w (lifts n.kept.is_down) es v in
      let g : GoesBy G x.is_fused false Makes n m = lifted_goes G n m keeps.on lifted x.is_fused tells in
      let h : GoesBy G x.is_fused y.is_fused Makes n m = record { later = g.later; free = subst (λ (b : Bool). IsFree G b m) (sym fused) g.free; entries = g.entries; journal = g.journal; made = subst (λ (b : Bool). Makes (stand_of G x.is_fused n) g.entries (stand_of G b m)) (sym fused) g.made } in
      went_still Makes x y n m stands h g.made.1 ranks

  -- ---- it starts again

  pub again_went : (pick : ℕ) (tells : Bool) (x y : Station V) (n m : NodeState V) → Keeps G x n → StartsAgain G pick n m → y.server ≡ standing m → y.is_fused ≡ false → y.ranks.items ≡ x.ranks.items ++ (max (last_rank x.ranks.items) 0 + 1) ∷ []
      → WentBy G 0 (λ w es v. Happens tells w (restarted pick) es v) x y n
  again_went pick tells x y n m keeps again stands fused ranks =
      let Makes : Stand → List Entry → Stand → Type 0 = λ w es v. Happens tells w (restarted pick) es v in
      let g : GoesBy G x.is_fused false Makes n m = again_goes G pick n m again x.is_fused tells in
      let h : GoesBy G x.is_fused y.is_fused Makes n m = record { later = g.later; free = subst (λ (b : Bool). IsFree G b m) (sym fused) g.free; entries = g.entries; journal = g.journal; made = subst (λ (b : Bool). Makes (stand_of G x.is_fused n) g.entries (stand_of G b m)) (sym fused) g.made } in
      record {
        after = m;
        stands = stands;
        goes = h;
        ranks = ranks ∙ ap (ranks_with x.ranks.items 0) (sym g.made.one);
      }

  -- what is left of it, whether it did or not
  pub again_leaves : (pick : ℕ) (x : Station V) (o : Option (Server V)) (n m : NodeState V) → x.server ≡ standing n → StartsAgain G pick n m → o ≡ standing m → (k : NodeState V) → x.server ≡ standing k
      → (u : V) × HasVault o u × HasGone {T = Unit {0}} G (Unit {0}) k.kept.vault u (Ok tt)
  again_leaves pick x o n m stood again stands =
      leaves_server {T = Unit {0}} (Unit {0}) x o n m.kept.vault (Ok tt) stood (subst (λ (q : Option (Server V)). HasVault q m.kept.vault) (sym stands) refl) (again_gone G pick n m again (Unit {0}) tt)
