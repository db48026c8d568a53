-- a part is made behind a write, and lets go: what the server keeps then is what the journal says
use Rattle.std.specs.Prelude.{cond, Bool, true, false, max, Option, None, Some, is_some}
use Rattle.std.specs.List.{AllByRecursion}
use Rattle.std.specs.FinMap.Entries as entries
use Rattle.std.specs.FinMap.Entries.{put, by_order}
use Rattle.std.specs.FinMap as map
use Rattle.std.specs.declared.cmp.Ordering.{Ordering}
use Rattle.std.specs.declared.cmp.Ordering.TheVariants.{Less, Equal, Greater}
use Rattle.std.proofs.Common.{◌≡◌, ℕ, ◌+◌, ◌≤◌, List, [], ◌∷◌, ◌++◌, refl, sym, ◌∙◌, ap, subst, arith}
use Rattle.alp_base.specs.declared.ids.JoinNo.{JoinNo}
use Rattle.alp_base.specs.declared.ids.Stamp.{Stamp}
use Rattle.alp_base.specs.declared.ids.TransId.{TransId}
use Rattle.alp_base.specs.declared.key.Key.{Key}
use Rattle.alp_base.specs.declared.key.Key.TheVariants.{Leader}
use Rattle.alp_files.specs.Cells.{Cells, View}
use Rattle.alp_files.specs.Edits.{Edit, edits_at, edits_map}
use Rattle.alp_files.specs.History.{Decided}
use Rattle.alp_files.proofs.HistoryLemmas.{get-edits_map}
use Rattle.alp_locks.specs.Releases.{released}
use Rattle.alp_vault.specs.Contents.{Contents}
use Rattle.alp_journal.specs.Ids.{stamp_cmp}
use Rattle.alp_journal.specs.Holder.{Holder, Life}
use Rattle.alp_journal.specs.Coordinator.{Fate, decision_in}
use Rattle.alp_journal.specs.Participant.{Phase}
use Rattle.alp_journal.specs.Answered.{IsWalk, in_turn}
use Rattle.alp_journal.specs.Account.{Account, state_of, AreEarlier, IsQuiet, with_granted, granted_calls, holder_granted}
use Rattle.alp_turns.specs.Laws.{trans_in}
use Rattle.alp_turns.specs.Queues.{queue_of}
use Rattle.alp_coord.specs.declared.coordinator.Coordinator.{Coordinator}
use Rattle.alp_worker.specs.declared.joins.Joins.{Joins}
use Rattle.alp_worker.specs.Joins.{AreJoins}
use Rattle.alp_node.specs.Durable.{AreNotesOf}
use Rattle.alp_node.specs.Eases.{eased}
use Rattle.alp_node.specs.Releases.{granted_all, granted_behind, let_go}
use Rattle.alp_node.specs.ServerState.{IsAs, IsReady, IsAlike, IsWaitingAs, PutNoneBeyond}
use Rattle.alp_node.specs.Transactions.{IsCoordinatorBy}
use Rattle.alp_node.specs.declared.lives.Live.{Live}
use Rattle.alp_node.specs.declared.server_state.ServerState.{ServerState}
use Rattle.alp_node.proofs.EaseLemmas.{eased_room}
use Rattle.alp_node.proofs.GiveOnLemmas.{IsAlikeApart}
use Rattle.alp_node.proofs.GoneLemmas.{HasLetGo, has_let_go, state_gone, gone_of, granted_rest, holder_rest, lives_then}
use Rattle.alp_node.proofs.KeptLemmas.{IsLive, live_there, earlier_more}
use Rattle.alp_node.proofs.SpaceLemmas.{blocks_then, StandsBeside, stands_beside, needs_beside, room_beside, eased_alike}
use Rattle.alp_node.proofs.UnderLemmas.{edits_sized}

-- one of no later time comes among those
pub earlier_put : (n : ℕ) (s : Stamp) (d : Decided) (ds : List (Stamp × Decided)) → s.ts ≤ n → AreEarlier n ds → AreEarlier n (put stamp_cmp s d ds)
earlier_put n s d [] low h = (low, tt)
earlier_put n s d (x ∷ xs) low h = go (earlier_put n s d xs low h.1) (stamp_cmp s x.0)
  where
    go : AreEarlier n (put stamp_cmp s d xs) → (o : Ordering) → AreEarlier n (by_order o ((s, d) ∷ x ∷ xs) ((x.0, d) ∷ xs) (x ∷ put stamp_cmp s d xs))
    go rest Less = (low, h)
    go rest Equal = h
    go rest Greater = (h.0, rest)

module _ {V : Type 0} (a : Account) (held then : Contents) (k : ServerState V) (t : TransId) (l : Live) (v : V) (m : ℕ) (on : Bool) (h : IsAs a held k) (ready : IsReady m on k) (up : k.is_down ≡ false) (live : map.get k.lives t ≡ Some l) (time : ℕ) (applied : List (Stamp × Decided)) (left : List (Stamp × List Edit)) where
  abbrev pub made_life : IsLive a.holder.cells k.locks.held (a.locked t) t l (a.holder.lives t)
  made_life = live_there a.holder.cells k.locks.held (a.locked t) t (map.get k.lives t) (a.holder.lives t) l live (h.lives t)

  abbrev y : IsLive a.holder.cells k.locks.held (a.locked t) t l (a.holder.lives t)
  y = live_there a.holder.cells k.locks.held (a.locked t) t (map.get k.lives t) (a.holder.lives t) l live (h.lives t)

  abbrev es : List Edit
  es = y.life.edits

  abbrev pub made_blocks : List Key
  made_blocks = blocks_then a held k h t l live y.life y.is y.alike

  abbrev cells_now : Cells
  cells_now = edits_map es a.holder.cells

  abbrev clock_now : ℕ
  clock_now = max a.holder.clock time

  abbrev pub Made : Type 0
  Made = HasLetGo a held k t cells_now clock_now clock_now applied left (StandsBeside a held k h t l live y.life y.is y.alike) cells_now

  pub made_gone : HasLetGo a held k t cells_now clock_now clock_now applied left (StandsBeside a held k h t l live y.life y.is y.alike) cells_now
  made_gone = has_let_go a held k t cells_now clock_now clock_now applied left (StandsBeside a held k h t l live y.life y.is y.alike) cells_now m on h ready
      (λ u z c lives unvoted away. needs_beside a held k h t l live y.life y.is y.alike u z c lives unvoted away)
      (stands_beside a held k h t l live y.life y.is y.alike) (room_beside a held k h t l live y.life y.is y.alike)

  module _ (g : Made) where
    abbrev pub state_made : Account
    state_made = with_granted (state_gone a held k t cells_now clock_now clock_now applied left) g.given

    abbrev server_made : ServerState V
    server_made = granted_all (gone_of k t) (trans_in g.given)

    let_go_made : let_go k t ≡ record k { lives = server_made.lives; waits = server_made.waits; locks = record (released k.locks t) { woken = [] } }
    let_go_made = ap (granted_all (gone_of k t)) g.woken ∙ granted_rest (trans_in g.given) (gone_of k t)

    abbrev first_holder : Holder
    first_holder = (state_gone a held k t cells_now clock_now clock_now applied left).holder

    rest : holder_granted first_holder g.given ≡ record first_holder { lives = (holder_granted first_holder g.given).lives }
    rest = holder_rest g.given first_holder

    pub woken_calls : granted_calls a.waits (granted_behind k t) ≡ g.given
    woken_calls = ap (granted_calls a.waits) g.woken ∙ g.calls

    each_then : (u : TransId) → IsAlike cells_now (released k.locks t).held (state_made.locked u) u (map.get (eased made_blocks server_made.lives (map.keys k.lives)) u) (state_made.holder.lives u)
    each_then u =
        eased_alike a held k h t l live y.life y.is y.alike (released k.locks t).held (state_made.locked u) u server_made.lives (map.get server_made.lives u) (state_made.holder.lives u) refl (λ x z at lives. g.all.parts u x z at lives)
        (lives_then a held k t cells_now clock_now clock_now applied left (StandsBeside a held k h t l live y.life y.is y.alike) cells_now m on h ready
        (λ u z c lives unvoted away. needs_beside a held k h t l live y.life y.is y.alike u z c lives unvoted away)
        (stands_beside a held k h t l live y.life y.is y.alike) (room_beside a held k h t l live y.life y.is y.alike) g u)

    unborn_then : (u : TransId) (z : Life) (o : Option Live) → map.get server_made.lives u ≡ o → state_made.holder.lives u ≡ Some z → IsAlikeApart a.holder.cells (state_made.locked u) o (state_made.holder.lives u)
        → PutNoneBeyond a.holder.server a.ids.epoch k.given z.edits
    unborn_then u z (Some x) at lives alike = (g.all.parts u x z at lives).0
    unborn_then u z None at lives alike = absurd (subst (IsAlikeApart a.holder.cells (state_made.locked u) None) lives alike)

    module _ (fates : TransId → Fate) (phases : JoinNo → Phase) (z : Coordinator) (js : Joins) where
      abbrev pub state_end : Account
      state_end = record state_made { fates = fates; phases = phases; is_down = false; pending = [] }

      abbrev server_end : List Key → ServerState V
      server_end blocks = record k {
        lives = eased blocks server_made.lives (map.keys k.lives);
        waits = server_made.waits;
        locks = record (released k.locks t) { woken = [] };
        clock = max k.clock time;
        coordinator = z;
        joins = js;
        vault = v;
      }

      -- what stands of it
      pub record StandsSo : Type 0 where
        pub coordinated : IsCoordinatorBy a.holder.server a.ids.epoch a.ids.transactions fates z
        pub joined : AreJoins a.holder.server a.ids.epoch a.ids.joins phases a.joined js
        pub decided : (u : TransId) (s : Stamp) (ks : List JoinNo) → u.epoch ≡ a.ids.epoch → decision_in (fates u) ≡ Some (s, ks) → is_some (entries.find stamp_cmp s applied) ≡ true
        pub earlier : AreEarlier (max a.holder.clock time) applied
        pub cells : then.cells ≡ cells_now
        pub notes : AreNotesOf (state_of (record state_made { fates = fates; phases = phases; is_down = false; pending = [] })) a.ids.epoch then.notes
        pub quiet : IsQuiet (record state_made { fates = fates; phases = phases; is_down = false; pending = [] })

      end_as : StandsSo → IsAs state_end then (server_end made_blocks)
      end_as so = subst (λ (x : Holder). IsAs (record state_end { holder = x }) then (server_end made_blocks)) (sym rest) (record {
        server = h.server;
        servers = h.servers;
        sizes = h.sizes;
        epoch = h.epoch;
        clock = (let same : a.holder.clock ≡ k.clock = h.clock in omega (arith, same));
        cells = λ _. so.cells;
        sized = edits_sized a.holder.cells es h.sized y.alike.sized;
        notes = λ _. subst (λ (x : Holder). AreNotesOf (state_of (record state_end { holder = x })) a.ids.epoch then.notes) rest so.notes;
        places = h.places;
        sessions = h.sessions;
        dead = h.dead;
        waits = g.all.waits;
        queue = subst (λ (x : Holder). (released k.locks t).waiting ≡ queue_of x (released k.locks t).held state_made.waits) rest g.queue;
        asked = subst (λ (x : Holder). AllByRecursion (IsWaitingAs x state_made.locked) server_made.waits) rest g.all.asked;
        lives = each_then;
        room = eased_room made_blocks k.sizes cells_now server_made.lives (map.keys k.lives) g.all.fits;
        unborn = λ u z lives. unborn_then u z (map.get server_made.lives u) refl lives (g.all.lives u);
        coordinator = so.coordinated;
        decided = so.decided;
        joins = so.joined;
        files = h.files;
        made = h.made;
        born = λ f comes. ap (λ (view : View). view (Leader f)) (get-edits_map es a.holder.cells) ∙ ap (edits_at es (Leader f)) (h.born f comes) ∙ h.unborn t y.life y.is f comes;
        earlier = so.earlier;
        quiet = subst (λ (x : Holder). IsQuiet (record state_end { holder = x })) rest so.quiet;
        down = sym up;
      })

      -- with the blocks that the server eased
      pub made_as : (blocks : List Key) → blocks ≡ made_blocks → StandsSo
          → IsAs state_end then (record (let_go k t) { lives = eased blocks (let_go k t).lives (map.keys k.lives); clock = max k.clock time; coordinator = z; joins = js; vault = v })
      made_as blocks same so =
          subst (λ (s : ServerState V). IsAs state_end then s)
          (sym (ap (λ (bs : List Key). record (let_go k t) { lives = eased bs (let_go k t).lives (map.keys k.lives); clock = max k.clock time; coordinator = z; joins = js; vault = v }) same
          ∙ ap (λ (q : ServerState V). record q { lives = eased made_blocks q.lives (map.keys k.lives); clock = max k.clock time; coordinator = z; joins = js; vault = v }) let_go_made)) (end_as so)
