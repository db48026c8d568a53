-- what is in the way of a commit at this server, by what it keeps, is what its journal says
use Rattle.std.specs.Prelude.{cond, Bool, true, false, ◌==◌, nat_le, Option, None, Some, is_some, map as list_map}
use Rattle.std.specs.List.{AllByRecursion}
use Rattle.std.specs.List.Sorted.{IsPermutation}
use Rattle.std.specs.FinMap as map
use Rattle.std.proofs.Common.{◌≡◌, ℕ, ◌^◌, ◌≤◌, List, [], ◌∷◌, ◌++◌, length, refl, sym, ◌∙◌, ap, subst, arith, eq-eqb}
use Rattle.std.proofs.lemmas.Bool.{leb-true, leb-false, le-leb, ne_eqb}
use Rattle.alp_base.specs.declared.ids.JoinNo.{JoinNo}
use Rattle.alp_base.specs.declared.ids.TransId.{TransId}
use Rattle.alp_files.specs.declared.refusal.Why.{Why}
use Rattle.alp_vault.specs.Contents.{Contents}
use Rattle.alp_journal.specs.Account.{Account, state_of}
use Rattle.alp_journal.specs.Desk.{waiting_of}
use Rattle.alp_journal.specs.Messages.{clock_end, part_cells, trans_ready, first_why, why_not, why_not_own, all_ready}
use Rattle.alp_journal.specs.Participant.{Phase, Unseen, Joining, Active, Ready, Applied, Over, live_in}
use Rattle.alp_journal.specs.State.{State}
use Rattle.alp_worker.specs.declared.live.LiveJoin.{LiveJoin}
use Rattle.alp_worker.specs.declared.live.Stage.{Stage}
use Rattle.alp_worker.specs.declared.live.Stage.TheVariants as stage
use Rattle.alp_worker.specs.declared.room.PartSize.{PartSize}
use Rattle.alp_worker.specs.declared.room.ReadySum.{ReadySum}
use Rattle.alp_worker.specs.Lives.{is_open, join_at, phase_in}
use Rattle.alp_worker.specs.Rooms.{room_for, own_room, sum_of, IsSizeOf, AreSizesOf}
use Rattle.alp_worker.specs.Walks.{ready_in}
use Rattle.alp_node.specs.Noted.{size_in, size_of, ready_room}
use Rattle.alp_node.specs.Paired.{is_in}
use Rattle.alp_node.specs.ServerState.{IsAs, IsReady, IsLife, IsAlike}
use Rattle.alp_node.specs.Votes.{own_why, why_against}
use Rattle.alp_node.specs.Waits.{has_waiting}
use Rattle.alp_node.specs.declared.lives.Live.{Live}
use Rattle.alp_node.specs.declared.server_state.ServerState.{ServerState}
use Rattle.alp_node.proofs.KeptLemmas.{IsLive, live_there}
use Rattle.alp_node.proofs.NotedLemmas.{all_found}
use Rattle.alp_node.proofs.StandingLemmas.{busy_same}
use Rattle.alp_node.proofs.WaitLemmas.{named_all}
use Rattle.alp_coord.specs.Coordinators.{count_of}

-- the clock is at its end where it is no earlier
pub clock_last : (clock : ℕ) → clock ≤ 2 ^ 62 → nat_le clock_end clock ≡ (clock == clock_end)
clock_last clock low = go (nat_le clock_end clock) refl
  where
    go : (b : Bool) → nat_le clock_end clock ≡ b → b ≡ (clock == clock_end)
    go true e = (let high : clock_end ≤ clock = leb-true clock_end clock e in sym (eq-eqb clock clock_end (omega (arith, low, high))))
    go false e = sym (ne_eqb clock clock_end (λ is. let wrong : false ≡ true = sym e ∙ le-leb clock_end clock (omega (arith, is)) in cc))

-- ---- a part that is there

pub record IsThere (x : Option Live) : Type 0 where
  pub live : Live
  pub is : x ≡ Some live

pub is_there : (x : Option Live) → (x ≡ None → ⊥) → IsThere x
is_there None none = absurd (none refl)
is_there (Some l) none = record { live = l; is = refl }

-- a join that is not live did not vote
pub none_silent : (p : Phase) → live_in p ≡ None → trans_ready p ≡ []
none_silent (Ready t client ts) e = let wrong : Some (t, client) ≡ None = e in cc
none_silent Unseen e = refl
none_silent (Joining t client who) e = refl
none_silent (Active t client who) e = refl
none_silent (Applied t stamp) e = refl
none_silent Over e = refl

-- a part is within its limits
pub small_part : {V : Type 0} (n : ℕ) (serves : Bool) (k : ServerState V) (t : TransId) (s : PartSize) → IsReady n serves k → s ≡ size_in k.lives t → (s.cells ≤ 256) × (s.locks ≤ 1024)
small_part n serves k t s h is = subst (λ (x : PartSize). (x.cells ≤ 256) × (x.locks ≤ 1024)) (sym is) (go (map.get k.lives t) refl)
  where
    go : (x : Option Live) → map.get k.lives t ≡ x → ((size_of x).cells ≤ 256) × ((size_of x).locks ≤ 1024)
    go None e = (omega arith, omega arith)
    go (Some l) e = (let w = h.within t l e in (w.part.most, w.locks))

-- no more voted than there are joins
pub ready_few : (ls : List LiveJoin) → length (ready_in ls) ≤ length ls
ready_few [] = omega arith
ready_few (x ∷ xs) = go x.stage (ready_few xs)
  where
    go : (s : Stage) → length (ready_in xs) ≤ length xs → length (trans_ready (phase_in x.trans x.client s) ++ ready_in xs) ≤ length (x ∷ xs)
    go (stage.Joining who) h = omega (arith, h)
    go (stage.Active who) h = omega (arith, h)
    go (stage.Ready ts) h = omega (arith, h)

-- ---- sizes

module _ {V : Type 0} (a : Account) (held : Contents) (k : ServerState V) (h : IsAs a held k) where
  -- a live part has the size that the journal says
  pub size_told : (t : TransId) (l : Live) → map.get k.lives t ≡ Some l → IsSizeOf (state_of a) t (size_in k.lives t)
  size_told t l there =
      let y : IsLive a.holder.cells k.locks.held (a.locked t) t l (a.holder.lives t) = live_there a.holder.cells k.locks.held (a.locked t) t (map.get k.lives t) (a.holder.lives t) l there (h.lives t) in
      subst (λ (x : Option Live). IsSizeOf (state_of a) t (size_of x)) (sym there) (ap part_cells y.is ∙ sym y.alike.counts.cells, sym y.alike.count)

  abbrev IsLiveIf : LiveJoin → Type 0
  IsLiveIf x = is_open x.stage ≡ false → (l : Live) × (map.get k.lives x.trans ≡ Some l)

  sizes_told : (ls : List LiveJoin) → AllByRecursion IsLiveIf ls → AreSizesOf (state_of a) (ready_in ls) (list_map (size_in k.lives) (ready_in ls))
  sizes_told [] all = tt
  sizes_told (x ∷ xs) all = go x.stage all.0 (sizes_told xs all.1)
    where
      go : (s : Stage) → (is_open s ≡ false → (l : Live) × (map.get k.lives x.trans ≡ Some l)) → AreSizesOf (state_of a) (ready_in xs) (list_map (size_in k.lives) (ready_in xs))
          → AreSizesOf (state_of a) (trans_ready (phase_in x.trans x.client s) ++ ready_in xs) (list_map (size_in k.lives) (trans_ready (phase_in x.trans x.client s) ++ ready_in xs))
      go (stage.Joining who) live more = more
      go (stage.Active who) live more = more
      go (stage.Ready ts) live more = (let l = live refl in (size_told x.trans l.0 l.1, more))

  -- so have those that voted
  module _ (n : ℕ) (serves : Bool) (ready : IsReady n serves k) where
    inside : (s : Stage) → is_open s ≡ false → is_in s ≡ true
    inside (stage.Joining who) e = let wrong : true ≡ false = e in cc
    inside (stage.Active who) e = refl
    inside (stage.Ready ts) e = refl

    pub ready_sizes : AreSizesOf (state_of a) (ready_in k.joins.lives) (list_map (size_in k.lives) (ready_in k.joins.lives))
    ready_sizes = sizes_told k.joins.lives (all_found IsLiveIf k.joins.lives ready.joins.once (λ j x at voted. let p = ready.paired.joins j x at (inside x.stage voted) in (p.0, p.1)))

    -- ---- what is in the way

    -- what votes look at is the sum over the parts that voted
    module _ (law : (failed : Bool) (s : State) (t : TransId) (ts : List TransId) (ns : List PartSize) (n : PartSize) → IsPermutation (all_ready s) ts → AreSizesOf s ts ns → IsSizeOf s t n
        → why_not_own failed s t ≡ first_why failed false (s.holder.clock == clock_end) (own_room s.sizes.area (sum_of ns) n))
        (walk : IsPermutation (all_ready (state_of a)) (ready_in k.joins.lives)) where
      pub own_told : (t : TransId) (l : Live) → map.get k.lives t ≡ Some l → why_not_own false (state_of a) t ≡ own_why k t
      own_told t l there =
          law false (state_of a) t (ready_in k.joins.lives) (list_map (size_in k.lives) (ready_in k.joins.lives)) (size_in k.lives t) walk ready_sizes (size_told t l there)
          ∙ (λ i. first_why false false (h.clock i == clock_end) (own_room (h.sizes i).area (ready_room k.lives k.joins.lives) (size_in k.lives t)))
          ∙ ap (λ (b : Bool). first_why false false b (own_room k.sizes.area (ready_room k.lives k.joins.lives) (size_in k.lives t))) (sym (clock_last k.clock ready.clock))

    module _ (law : (failed : Bool) (s : State) (client : ℕ) (t : TransId) (ts : List TransId) (ns : List PartSize) (n : PartSize) → IsPermutation (all_ready s) ts → AreSizesOf s ts ns → IsSizeOf s t n
        → why_not failed s client t ≡ first_why failed (is_some (waiting_of s.desk client t)) (s.holder.clock == clock_end) (room_for s.sizes.area (sum_of ns) n))
        (walk : IsPermutation (all_ready (state_of a)) (ready_in k.joins.lives)) where
      pub against_told : (client : ℕ) (t : TransId) (l : Live) → map.get k.lives t ≡ Some l → why_not false (state_of a) client t ≡ why_against k client t
      against_told client t l there =
          law false (state_of a) client t (ready_in k.joins.lives) (list_map (size_in k.lives) (ready_in k.joins.lives)) (size_in k.lives t) walk ready_sizes (size_told t l there)
          ∙ (λ i. first_why false (sym (busy_same a held k client t h (named_all k.server k.epoch k.given (count_of k.coordinator) k.sizes k.lives k.waits ready.waits.calls)) i) (h.clock i == clock_end) (room_for (h.sizes i).area (ready_room k.lives k.joins.lives) (size_in k.lives t)))
          ∙ ap (λ (b : Bool). first_why false (has_waiting client t k.waits) b (room_for k.sizes.area (ready_room k.lives k.joins.lives) (size_in k.lives t))) (sym (clock_last k.clock ready.clock))
