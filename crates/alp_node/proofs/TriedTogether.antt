-- what a server made of what it tried goes together as what it keeps: a vote, a decision, what was decided, and the end of a part or decision
use Rattle.std.specs.Prelude.{cond, max, Bool, true, false, ◌&&◌, flat_map, Option, None, Some, map as list_map}
use Rattle.std.specs.FinMap as map
use Rattle.std.proofs.Common.{◌≡◌, ◌⊎◌, inl, inr, ℕ, ◌+◌, ◌-◌, ◌≤◌, List, [], ◌∷◌, ◌++◌, length, refl, sym, ◌∙◌, ap, subst, arith, eq-eqb}
use Rattle.alp_base.specs.declared.faults.Sizes.{Sizes}
use Rattle.alp_base.specs.declared.ids.JoinNo.{JoinNo}
use Rattle.alp_base.specs.declared.ids.Stamp.{Stamp}
use Rattle.alp_base.specs.declared.ids.TransId.{TransId}
use Rattle.alp_fields.specs.declared.decision_note.Decision.{Decision}
use Rattle.alp_files.specs.Cells.{Cells}
use Rattle.alp_files.specs.Edits.{Edit, edits_map}
use Rattle.alp_files.specs.Needs.{intents_of, need_of, made_of, is_leader, is_owner}
use Rattle.alp_files.proofs.FilesLemmas.{same-some}
use Rattle.alp_vault.specs.Contents.{Contents}
use Rattle.alp_trans.specs.Counting.{AreCountsOf}
use Rattle.alp_trans.specs.declared.counts.Counts.{Counts}
use Rattle.alp_coord.specs.Coordinators.{fate_in}
use Rattle.alp_worker.specs.Lives.{join_at, live_at}
use Rattle.alp_worker.specs.Rooms.{sum_of}
use Rattle.alp_worker.specs.Walks.{ready_in}
use Rattle.alp_worker.specs.declared.live.LiveJoin.{LiveJoin}
use Rattle.alp_worker.specs.declared.live.Stage.TheVariants as stage
use Rattle.alp_worker.specs.declared.room.PartSize.{PartSize}
use Rattle.alp_journal.specs.Account.{Account, state_of, Stands, IsPhaseOf, IsFateOf, HasTried, IsTriedCommit, IsTriedDecision, IsTriedVote, IsTriedApplication}
use Rattle.alp_journal.specs.Along.{state_after}
use Rattle.alp_journal.specs.Coordinator.{Fate, Undrawn, Running, Finishing, Committed, Forgotten, Ended, heard, finishing, decided}
use Rattle.alp_journal.specs.Counts.{ready_sum}
use Rattle.alp_journal.specs.Deeds.{Deed, Acknowledges, Forgets, Aborts, Finishes, Hears, Decides, Readies, Applies}
use Rattle.alp_journal.specs.Holder.{Holder, Life, commits, emptied, readies}
use Rattle.alp_journal.specs.Ids.{same_trans, same_join, has_join, is_drawn}
use Rattle.alp_journal.specs.Laws.{IsHolding, is_standing}
use Rattle.alp_journal.specs.Messages.{all_ready, greatest, part_cells, trans_ready, weight_of, weights, applying}
use Rattle.alp_journal.specs.Participant.{Phase, Active, Ready, Applied, applied, readied}
use Rattle.alp_journal.specs.State.{State, state_deed}
use Rattle.alp_journal.proofs.IdLemmas.{same_trans-true, same_trans-itself, same_join-true, or-true}
use Rattle.alp_journal.proofs.StandLemmas.{same_join-itself, life_of, own_pair, running_of, known_running}
use Rattle.alp_regain.specs.Together.{log_sum}
use Rattle.alp_node.specs.Downs.{state_then}
use Rattle.alp_node.specs.Eases.{new_blocks, shared_in}
use Rattle.alp_node.specs.Noted.{decision_kept, size_in, size_of as live_size}
use Rattle.alp_node.specs.Paired.{IsPartOf, IsPairedWith}
use Rattle.alp_node.specs.ServerState.{IsLife, IsAs, IsReady}
use Rattle.alp_node.specs.SoundLives.{AreSoundLives, HasSoundLives}
use Rattle.alp_node.specs.Totals.{LiveMap, totals_of, HaveRoom}
use Rattle.alp_node.specs.declared.lives.Live.{Live}
use Rattle.alp_node.specs.declared.server_state.ServerState.{ServerState}
use Rattle.alp_node.proofs.FoundNotes.{Has}
use Rattle.alp_node.proofs.MapLemmas.{get_gone}
use Rattle.alp_node.proofs.NoMoreLemmas.{IsNoMore, no_more_itself, end_less, abort_less}
use Rattle.alp_node.proofs.PairedLemmas.{counted_there, runs_counts}
use Rattle.alp_node.proofs.RestLemmas.{standing_counts}
use Rattle.alp_node.proofs.SoundLives.{free_sound}
use Rattle.alp_node.proofs.SpaceLemmas.{StandsBeside, stands_beside, room_beside}
use Rattle.alp_node.proofs.TakeLemmas.{has_behind}
use Rattle.alp_node.proofs.TogetherLemmas.{kept_there, voter_there, NeedsNoMore, needs_counted, IsReadyThere, IsDecidedThere, IsMade}
use Rattle.alp_node.proofs.TriedVotes.{TriesInRoom}

-- ---- bits

-- a decision that stands is known
record IsStanding (server epoch count : ℕ) (t : TransId) (f : Fate) : Type 0 where
  pub stamp : Stamp
  pub stands : is_standing stamp f ≡ true
  pub drawn : is_drawn server epoch count t.server t.epoch t.counter ≡ true

standing_of : (servers server epoch count : ℕ) (begun : List TransId) (t : TransId) (f : Fate) (d : Decision) → decision_kept f ≡ Some d → IsFateOf servers server epoch count begun t f → IsStanding server epoch count t f
standing_of servers server epoch count begun t Undrawn d e h = let wrong : None ≡ Some d = e in cc
standing_of servers server epoch count begun t (Running c js) d e h = let wrong : None ≡ Some d = e in cc
standing_of servers server epoch count begun t (Finishing c js vs) d e h = let wrong : None ≡ Some d = e in cc
standing_of servers server epoch count begun t (Committed s [] ds) d e h = let wrong : None ≡ Some d = e in cc
standing_of servers server epoch count begun t (Committed s (j ∷ js) ds) d e h = record { stamp = s; stands = (λ i. eq-eqb s.ts s.ts refl i && same_trans-itself s.trans i); drawn = h.0.0 }
standing_of servers server epoch count begun t (Forgotten s js) d e h = let wrong : None ≡ Some d = e in cc
standing_of servers server epoch count begun t (Ended c) d e h = let wrong : None ≡ Some d = e in cc

-- with places that are there already it needs less
eased_less : (m : Cells) (es : List Edit) (n : Counts) (places : ℕ) → AreCountsOf m es (record n { places = n.places - places }) → NeedsNoMore m es n
eased_less m es n places h =
    let eased : n.places - places ≡ need_of m es = h.places in
    let files : n.files ≡ made_of is_leader m es = h.files in
    let owners : n.owners ≡ made_of is_owner m es = h.owners in
    record { places = omega (arith, eased); files = omega (arith, files); owners = omega (arith, owners) }

-- the parts of those that voted are among them
voters_named : (phases : JoinNo → Phase) (j : JoinNo) (t : TransId) (client ts : ℕ) → phases j ≡ Ready t client ts → (js : List JoinNo) → has_join j js ≡ true → Has t (flat_map (λ (i : JoinNo). trans_ready (phases i)) js)
voters_named phases j t client ts is [] there = let wrong : false ≡ true = there in cc
voters_named phases j t client ts is (i ∷ js) there = go (or-true (same_join i j) (has_join j js) there) (λ e. voters_named phases j t client ts is js e)
  where
    go : (same_join i j ≡ true) ⊎ (has_join j js ≡ true) → (has_join j js ≡ true → Has t (flat_map (λ (x : JoinNo). trans_ready (phases x)) js)) → Has t (trans_ready (phases i) ++ flat_map (λ (x : JoinNo). trans_ready (phases x)) js)
    go (inl e) more =
        subst (λ (p : Phase). Has t (trans_ready p ++ flat_map (λ (x : JoinNo). trans_ready (phases x)) js)) (sym (ap phases (same_join-true i j e) ∙ is)) (inl refl)
    go (inr e) more = has_behind t (trans_ready (phases i)) (flat_map (λ (x : JoinNo). trans_ready (phases x)) js) (more e)

-- sizes of parts as a journal tells them
abbrev size_told : State → TransId → PartSize
size_told s t = record { cells = part_cells (s.holder.lives t); locks = length (s.locked t) }

weights_told : (s : State) (ts : List TransId) → (sum_of (list_map (size_told s) ts)).weights ≡ weights s ts
weights_told s [] = refl
weights_told s (t ∷ ts) = ap (λ (n : ℕ). weight_of s t + n) (weights_told s ts)

greatest_told : (s : State) (ts : List TransId) → (sum_of (list_map (size_told s) ts)).greatest ≡ greatest s ts
greatest_told s [] = refl
greatest_told s (t ∷ ts) = ap (λ (n : ℕ). max (applying s t) n) (greatest_told s ts)

-- another join
other_join : (j k : JoinNo) → same_join j k ≡ false → Some j ≡ Some k → ⊥
other_join j k away same = let wrong : true ≡ false = sym (same_join-itself j) ∙ ap (same_join j) (same-some j k same) ∙ away in cc

-- what a ready phase says
abbrev trans_of : TransId → Phase → TransId
trans_of none (Ready t client ts) = t
trans_of none p = none

abbrev client_of : Phase → ℕ
client_of (Ready t client ts) = client
client_of p = 0

-- ---- all of it

module _ {V : Type 0} (a : Account) (held : Contents) (k : ServerState V) (steps : ℕ) (serves : Bool) (h : IsAs a held k) (r : IsReady steps serves k) (sound : HasSoundLives a.holder) where
  stands : Stands a
  stands = h.quiet.settled.stands

  -- ---- the part of a join that was let in

  record IsPartHere (j : JoinNo) (t : TransId) (client : ℕ) : Type 0 where
    pub life : Life
    pub there : a.holder.lives t ≡ Some life
    pub its : life.join ≡ Some j
    pub live : Live
    pub at : map.get k.lives t ≡ Some live
    pub alike : IsLife a.holder.cells k.locks.held (a.locked t) t live life
    pub joined : LiveJoin
    pub found : join_at k.joins.lives j ≡ Some joined
    pub trans : joined.trans ≡ t
    pub whose : joined.client ≡ client
    pub drawn : is_drawn a.holder.server a.ids.epoch a.ids.joins j.server j.epoch j.counter ≡ true

  part_here : (j : JoinNo) (x : LiveJoin) → IsHolding x.trans (a.phases j) → join_at k.joins.lives j ≡ Some x → is_drawn a.holder.server a.ids.epoch a.ids.joins j.server j.epoch j.counter ≡ true → IsPartHere j x.trans x.client
  part_here j x holds found drawn =
      let l = life_of a stands x.trans j holds in
      let q = kept_there a.holder.cells k.locks.held (a.locked x.trans) x.trans (map.get k.lives x.trans) (a.holder.lives x.trans) l.0 l.1 (h.lives x.trans) in
      record { life = l.0; there = l.1; its = l.2; live = q.0; at = q.1; alike = q.2; joined = x; found = found; trans = refl; whose = refl; drawn = drawn }

  ready_here : (j : JoinNo) (t : TransId) (client ts : ℕ) → a.phases j ≡ Ready t client ts → IsPartHere j t client
  ready_here j t client ts is =
      part_here j (record { join = j; trans = t; client = client; stage = stage.Ready ts }) (subst (IsHolding t) (sym is) refl) (h.joins.live j ∙ ap (live_at j) is)
      (subst (IsPhaseOf a.servers a.holder.server a.ids.epoch a.ids.joins a.joined j) is (stands.phases j)).0.0

  active_here : (j : JoinNo) (t : TransId) (client : ℕ) (who : List ℕ) → a.phases j ≡ Active t client who → IsPartHere j t client
  active_here j t client who is =
      part_here j (record { join = j; trans = t; client = client; stage = stage.Active who }) (subst (IsHolding t) (sym is) refl) (h.joins.live j ∙ ap (live_at j) is)
      (subst (IsPhaseOf a.servers a.holder.server a.ids.epoch a.ids.joins a.joined j) is (stands.phases j)).0.0

  voter_in : (j : JoinNo) (t : TransId) (client ts : ℕ) → a.phases j ≡ Ready t client ts → Has t (ready_in k.joins.lives)
  voter_in j t client ts is = voter_there k.joins.lives j (record { join = j; trans = t; client = client; stage = stage.Ready ts }) ts (h.joins.live j ∙ ap (live_at j) is) refl

  -- of another join it is another transaction's
  apart_part : (t : TransId) (l : Life) → a.holder.lives t ≡ Some l → (j : JoinNo) (u : TransId) (client : ℕ) → IsPartHere j u client → (l.join ≡ Some j → ⊥) → same_trans u t ≡ false
  apart_part t l live j u client x other = go (same_trans u t) refl
    where
      go : (b : Bool) → same_trans u t ≡ b → b ≡ false
      go false e = refl
      go true e =
          let one : x.life ≡ l = same-some x.life l (sym x.there ∙ ap a.holder.lives (same_trans-true u t e) ∙ live) in
          absurd (other (ap (λ (z : Life). z.join) (sym one) ∙ x.its))

  -- it is ready there as it is
  ready_there : (left : State) (lives : TransId → Option Life) (kept : LiveMap) (voters : List TransId) (sizes : TransId → PartSize) (j : JoinNo) (t : TransId) (client : ℕ) (x : IsPartHere j t client)
      → left.holder.lives t ≡ Some x.life → lives t ≡ Some x.life → map.get kept t ≡ Some x.live → NeedsNoMore left.holder.cells x.life.edits x.live.part.counts → Has t voters → sizes t ≡ size_in k.lives t
      → IsReadyThere a k left lives kept voters sizes j t client
  ready_there left lives kept voters sizes j t client x left_now still stays needs voter size = record {
    life = x.life;
    there = x.there;
    its = x.its;
    now = x.life;
    left_now = left_now;
    still = still;
    held = refl;
    edits = refl;
    live = x.live;
    at = x.at;
    stays = stays;
    alike = x.alike;
    joined = x.joined;
    found = x.found;
    trans = x.trans;
    whose = x.whose;
    drawn = x.drawn;
    needs = needs;
    voter = voter;
    size = size;
  }

  needs_here : (j : JoinNo) (t : TransId) (client : ℕ) (x : IsPartHere j t client) (m : Cells) → m ≡ a.holder.cells → NeedsNoMore m x.life.edits x.live.part.counts
  needs_here j t client x m is = subst (λ (c : Cells). NeedsNoMore c x.life.edits x.live.part.counts) (sym is) (needs_counted a.holder.cells x.life.edits x.live.part.counts x.alike.counts)

  room_here : (m : Cells) → m ≡ a.holder.cells → HaveRoom k.sizes m (totals_of k.lives)
  room_here m is = subst (λ (c : Cells). HaveRoom k.sizes c (totals_of k.lives)) (sym is) h.room

  -- ---- a decision that stands, and a transaction that runs

  standing_there : (t : TransId) (d : Decision) → decision_kept (a.fates t) ≡ Some d → IsDecidedThere a k t
  standing_there t d is =
      let s : IsStanding a.holder.server a.ids.epoch a.ids.transactions t (a.fates t) = standing_of a.servers a.holder.server a.ids.epoch a.ids.transactions a.begun t (a.fates t) d is (stands.fates t) in
      (s.drawn, counted_there k.coordinator t (standing_counts a.ids.epoch t (fate_in k.coordinator t) (a.fates t) s.stamp (h.coordinator.fates t) s.stands))

  runs_there : (t : TransId) (l : Life) → a.holder.lives t ≡ Some l → l.join ≡ None → IsDecidedThere a k t
  runs_there t l live none =
      let q = kept_there a.holder.cells k.locks.held (a.locked t) t (map.get k.lives t) (a.holder.lives t) l live (h.lives t) in
      let alike : IsLife a.holder.cells k.locks.held (a.locked t) t q.0 l = q.2 in
      let pair : IsPartOf k.joins t q.0 (fate_in k.coordinator t) q.0.join = subst (IsPairedWith k.joins t (fate_in k.coordinator t)) q.1 (r.paired.parts t) in
      let own : IsPartOf k.joins t q.0 (fate_in k.coordinator t) None = subst (IsPartOf k.joins t q.0 (fate_in k.coordinator t)) (sym alike.join ∙ none) pair in (
        (known_running a.servers a.holder.server a.ids.epoch a.ids.transactions a.begun t (a.fates t) (running_of (a.fates t) l.client (own_pair a stands t l live none).0) (stands.fates t)).0,
        counted_there k.coordinator t (runs_counts (fate_in k.coordinator t) q.0.client own.0),
      )

  -- ---- nothing more than stands

  pub made_less : (m : State) → IsNoMore (state_of a) m → IsMade a k m
  made_less m less = record {
    server = less.server;
    among = less.among;
    lives = a.holder.lives;
    sound = subst (λ (c : Cells). AreSoundLives c a.holder.lives) (sym less.cells) sound;
    kept = k.lives;
    room = room_here m.holder.cells less.cells;
    voters = ready_in k.joins.lives;
    sizes = size_in k.lives;
    fits = r.fits;
    ready = λ j t client ts is. (
        let was = less.ready j t client ts is in
        let x : IsPartHere j t client = ready_here j t client ts was.0 in
        ready_there m a.holder.lives k.lives (ready_in k.joins.lives) (size_in k.lives) j t client x (was.1 ∙ x.there) x.there x.at (needs_here j t client x m.holder.cells less.cells) (voter_in j t client ts was.0) refl
        );
    decided = λ t d is. standing_there t d (less.decided t d is);
  }

  -- ---- one part whose changes are made

  module _ (t : TransId) (l : Life) (live : a.holder.lives t ≡ Some l) where
    abbrev its_live : (z : Live) × (map.get k.lives t ≡ Some z) × IsLife a.holder.cells k.locks.held (a.locked t) t z l
    its_live = kept_there a.holder.cells k.locks.held (a.locked t) t (map.get k.lives t) (a.holder.lives t) l live (h.lives t)

    needs_beside : (j : JoinNo) (u : TransId) (client : ℕ) (x : IsPartHere j u client) → same_trans u t ≡ false → (m : Cells) → m ≡ edits_map l.edits a.holder.cells → NeedsNoMore m x.life.edits x.live.part.counts
    needs_beside j u client x away m is =
        let b : StandsBeside a held k h t its_live.0 its_live.1 l live its_live.2 u x.live.part x.life.edits = stands_beside a held k h t its_live.0 its_live.1 l live its_live.2 u x.live x.life x.at x.there away in
        subst (λ (c : Cells). NeedsNoMore c x.life.edits x.live.part.counts) (sym is) (eased_less (edits_map l.edits a.holder.cells) x.life.edits x.live.part.counts (shared_in x.live.part.intents.puts (new_blocks a.holder.cells (intents_of l.edits).puts)) b.1)

    pub made_beside : (left : State) → left.holder.server ≡ a.holder.server → left.servers ≡ a.servers → left.holder.cells ≡ edits_map l.edits a.holder.cells → ((u : TransId) → same_trans u t ≡ false → left.holder.lives u ≡ a.holder.lives u)
        → HasSoundLives left.holder → ((j : JoinNo) (u : TransId) (client ts : ℕ) → left.phases j ≡ Ready u client ts → (a.phases j ≡ Ready u client ts) × (l.join ≡ Some j → ⊥)) → ((u : TransId) (d : Decision) → decision_kept (left.fates u) ≡ Some d → IsDecidedThere a k u)
        → IsMade a k left
    made_beside left server among cells others sound_then voted fated = record {
      server = server;
      among = among;
      lives = left.holder.lives;
      sound = sound_then;
      kept = map.remove k.lives t;
      room = subst (λ (c : Cells). HaveRoom k.sizes c (totals_of (map.remove k.lives t))) (sym cells) (room_beside a held k h t its_live.0 its_live.1 l live its_live.2);
      voters = ready_in k.joins.lives;
      sizes = size_in k.lives;
      fits = r.fits;
      ready = λ j u client ts is. (
          let was = voted j u client ts is in
          let x : IsPartHere j u client = ready_here j u client ts was.0 in
          let away : same_trans u t ≡ false = apart_part t l live j u client x was.1 in
          ready_there left left.holder.lives (map.remove k.lives t) (ready_in k.joins.lives) (size_in k.lives) j u client x (others u away ∙ x.there) (others u away ∙ x.there)
          (get_gone k.lives t u ∙ ap (λ (b : Bool). cond {A = Option Live} b None (map.get k.lives u)) away ∙ x.at) (needs_beside j u client x away left.holder.cells cells) (voter_in j u client ts was.0) refl
          );
      decided = fated;
    }

  -- a decision of a part of this server's own
  decision_made : (stamp : Stamp) (l : Life) → a.holder.lives stamp.trans ≡ Some l → l.join ≡ None → (joins : List JoinNo) (left : State) → left.servers ≡ a.servers → left.holder ≡ commits a.holder stamp (a.holder.lives stamp.trans)
      → ((j : JoinNo) → left.phases j ≡ a.phases j) → ((u : TransId) → same_trans stamp.trans u ≡ false → left.fates u ≡ a.fates u) → IsMade a k left
  decision_made stamp l live own joins left among holder phases fates =
      made_beside stamp.trans l live left (ap (λ (x : Holder). x.server) whole) among (ap (λ (x : Holder). x.cells) whole)
      (λ u away. ap (λ (x : Holder). x.lives u) whole ∙ ap (λ (b : Bool). cond {A = Option Life} b (Some (emptied l)) (a.holder.lives u)) away)
      (subst HasSoundLives (sym holder) (free_sound a.holder (Decides stamp joins) tt sound))
      (λ j u client ts is. (sym (phases j) ∙ is, λ of. (let wrong : None ≡ Some j = sym own ∙ of in cc)))
      (λ u e is. go u e (same_trans stamp.trans u) refl is)
    where
      whole : left.holder ≡ commits a.holder stamp (Some l)
      whole = holder ∙ ap (commits a.holder stamp) live

      go : (u : TransId) (e : Decision) (b : Bool) → same_trans stamp.trans u ≡ b → decision_kept (left.fates u) ≡ Some e → IsDecidedThere a k u
      go u e true same is = subst (IsDecidedThere a k) (same_trans-true stamp.trans u same) (runs_there stamp.trans l live own)
      go u e false away is = standing_there u e (ap decision_kept (sym (fates u away)) ∙ is)

  commit_made : (c : IsTriedCommit a) → IsMade a k (state_after state_deed (state_of a) (Finishes c.stamp.trans ∷ Decides c.stamp [] ∷ []))
  commit_made c =
      decision_made c.stamp c.life c.live c.own_part [] (state_after state_deed (state_of a) (Finishes c.stamp.trans ∷ Decides c.stamp [] ∷ [])) refl refl (λ j. refl)
      (λ u away. ap (λ (b : Bool). cond {A = Fate} b (decided c.stamp [] (cond {A = Fate} b (finishing (a.fates u)) (a.fates u))) (cond {A = Fate} b (finishing (a.fates u)) (a.fates u))) away)

  voted_made : (c : IsTriedDecision a) → IsMade a k (state_after state_deed (state_of a) (Hears c.stamp.trans c.join c.ts ∷ Decides c.stamp c.joins ∷ []))
  voted_made c =
      decision_made c.stamp c.life c.live c.own_part c.joins (state_after state_deed (state_of a) (Hears c.stamp.trans c.join c.ts ∷ Decides c.stamp c.joins ∷ [])) refl refl (λ j. refl)
      (λ u away. ap (λ (b : Bool). cond {A = Fate} b (decided c.stamp c.joins (cond {A = Fate} b (heard c.join c.ts (a.fates u)) (a.fates u))) (cond {A = Fate} b (heard c.join c.ts (a.fates u)) (a.fates u))) away)

  -- ---- what was decided is applied

  module _ (c : IsTriedApplication a) where
    abbrev applied_state : State
    applied_state = state_deed (state_of a) (Applies c.join c.stamp)

    life : (l : Life) × (a.holder.lives c.stamp.trans ≡ Some l) × (l.join ≡ Some c.join)
    life = life_of a stands c.stamp.trans c.join (subst (IsHolding c.stamp.trans) (sym c.ready) refl)

    whole_applied : applied_state.holder ≡ commits a.holder c.stamp (Some life.0)
    whole_applied = ap (commits a.holder c.stamp) life.1

    voted_on : (j : JoinNo) (u : TransId) (client ts : ℕ) (b : Bool) → same_join c.join j ≡ b → cond {A = Phase} b (applied c.stamp (a.phases j)) (a.phases j) ≡ Ready u client ts → (a.phases j ≡ Ready u client ts) × (life.0.join ≡ Some j → ⊥)
    voted_on j u client ts true e is =
        let was : a.phases j ≡ Ready c.stamp.trans c.client c.ts = ap a.phases (sym (same_join-true c.join j e)) ∙ c.ready in
        let gone : applied c.stamp (a.phases j) ≡ Applied c.stamp.trans c.stamp =
        ap (applied c.stamp) was ∙ ap (λ (b : Bool). cond {A = Phase} b (Applied c.stamp.trans c.stamp) (Ready c.stamp.trans c.client c.ts)) (same_trans-itself c.stamp.trans) in
        let wrong : Applied c.stamp.trans c.stamp ≡ Ready u client ts = sym gone ∙ is in
        cc
    voted_on j u client ts false e is = (is, λ of. other_join c.join j e (sym life.2 ∙ of))

    application_made : IsMade a k (state_deed (state_of a) (Applies c.join c.stamp))
    application_made =
        made_beside c.stamp.trans life.0 life.1 applied_state (ap (λ (x : Holder). x.server) whole_applied) refl (ap (λ (x : Holder). x.cells) whole_applied)
        (λ u away. ap (λ (x : Holder). x.lives u) whole_applied ∙ ap (λ (b : Bool). cond {A = Option Life} b (Some (emptied life.0)) (a.holder.lives u)) away)
        (free_sound a.holder (Applies c.join c.stamp) tt sound) (λ j u client ts is. voted_on j u client ts (same_join c.join j) refl is) standing_there

  -- ---- a vote

  module _ (c : IsTriedVote a) (room : TriesInRoom (state_of a)) where
    abbrev time : ℕ
    time = a.holder.clock + 1

    abbrev voted_state : State
    voted_state = state_deed (state_of a) (Readies c.join c.trans time)

    abbrev voters : List TransId
    voters = c.trans ∷ all_ready (state_of a)

    x : IsPartHere c.join c.trans c.client
    x = active_here c.join c.trans c.client c.who c.active

    abbrev now : Life
    now = record (x.life) { vote = Some time }

    abbrev IsReadyNow : JoinNo → TransId → ℕ → Type 0
    IsReadyNow j t client = IsReadyThere a k voted_state voted_state.holder.lives k.lives voters (size_told (state_of a)) j t client

    whole_voted : voted_state.holder ≡ readies a.holder c.trans time (Some x.life)
    whole_voted = ap (readies a.holder c.trans time) x.there

    cells_voted : voted_state.holder.cells ≡ a.holder.cells
    cells_voted = ap (λ (z : Holder). z.cells) whole_voted

    here_now : voted_state.holder.lives c.trans ≡ Some now
    here_now = ap (λ (z : Holder). z.lives c.trans) whole_voted ∙ ap (λ (b : Bool). cond {A = Option Life} b (Some now) (a.holder.lives c.trans)) (same_trans-itself c.trans)

    size_same : (j : JoinNo) (t : TransId) (client : ℕ) (y : IsPartHere j t client) → size_told (state_of a) t ≡ size_in k.lives t
    size_same j t client y =
        let cells : part_cells (a.holder.lives t) ≡ y.live.part.counts.cells = ap part_cells y.there ∙ sym y.alike.counts.cells in
        (λ i. record { cells = cells i; locks = sym y.alike.count i }) ∙ ap live_size (sym y.at)

    log_room : log_sum (list_map (size_told (state_of a)) voters) ≤ k.sizes.area
    log_room =
        subst (λ (n : ℕ). ready_sum n (sum_of (list_map (size_told (state_of a)) voters)).greatest ≤ k.sizes.area) (sym (weights_told (state_of a) voters))
        (subst (λ (n : ℕ). ready_sum (weights (state_of a) voters) n ≤ k.sizes.area) (sym (greatest_told (state_of a) voters))
        (subst (λ (n : ℕ). ready_sum (weights (state_of a) voters) (greatest (state_of a) voters) ≤ n) (ap (λ (z : Sizes). z.area) h.sizes) (room c.join c.trans time c.tried)))

    its_vote : IsReadyNow c.join c.trans c.client
    its_vote = record {
      life = x.life;
      there = x.there;
      its = x.its;
      now = now;
      left_now = here_now;
      still = here_now;
      held = refl;
      edits = refl;
      live = x.live;
      at = x.at;
      stays = x.at;
      alike = x.alike;
      joined = x.joined;
      found = x.found;
      trans = x.trans;
      whose = x.whose;
      drawn = x.drawn;
      needs = needs_here c.join c.trans c.client x voted_state.holder.cells cells_voted;
      voter = inl refl;
      size = size_same c.join c.trans c.client x;
    }

    other_vote : (j : JoinNo) (u : TransId) (client ts : ℕ) → same_join c.join j ≡ false → a.phases j ≡ Ready u client ts → IsReadyNow j u client
    other_vote j u client ts e is =
        let y : IsPartHere j u client = ready_here j u client ts is in
        let away : same_trans u c.trans ≡ false = apart_part c.trans x.life x.there j u client y (λ of. other_join c.join j e (sym x.its ∙ of)) in
        let same : voted_state.holder.lives u ≡ a.holder.lives u = ap (λ (z : Holder). z.lives u) whole_voted ∙ ap (λ (b : Bool). cond {A = Option Life} b (Some now) (a.holder.lives u)) away in
        let known = subst (IsPhaseOf a.servers a.holder.server a.ids.epoch a.ids.joins a.joined j) is (stands.phases j) in
        ready_there voted_state voted_state.holder.lives k.lives voters (size_told (state_of a)) j u client y (same ∙ y.there) (same ∙ y.there) y.at (needs_here j u client y voted_state.holder.cells cells_voted)
        (inr (voters_named a.phases j u client ts is a.joined known.0.1)) (size_same j u client y)

    vote_made : IsMade a k (state_deed (state_of a) (Readies c.join c.trans (a.holder.clock + 1)))
    vote_made = record {
      server = ap (λ (z : Holder). z.server) whole_voted;
      among = refl;
      lives = voted_state.holder.lives;
      sound = free_sound a.holder (Readies c.join c.trans time) tt sound;
      kept = k.lives;
      room = room_here voted_state.holder.cells cells_voted;
      voters = voters;
      sizes = size_told (state_of a);
      fits = log_room;
      ready = λ j u client ts is. go j u client ts (same_join c.join j) refl is;
      decided = standing_there;
    }
      where
        go : (j : JoinNo) (u : TransId) (client ts : ℕ) (b : Bool) → same_join c.join j ≡ b → cond {A = Phase} b (readied time (a.phases j)) (a.phases j) ≡ Ready u client ts → IsReadyNow j u client
        go j u client ts false e is = other_vote j u client ts e is
        go j u client ts true e is =
            let was : a.phases j ≡ Active c.trans c.client c.who = ap a.phases (sym (same_join-true c.join j e)) ∙ c.active in
            let one : Ready c.trans c.client time ≡ Ready u client ts = sym (ap (readied time) was) ∙ is in
            subst (λ (i : JoinNo). IsReadyNow i u client) (same_join-true c.join j e)
            (subst (λ (v : TransId). IsReadyNow c.join v client) (ap (trans_of c.trans) one) (subst (λ (n : ℕ). IsReadyNow c.join c.trans n) (ap client_of one) its_vote))

  -- ---- whatever was tried

  pub made_then : TriesInRoom (state_of a) → IsMade a k (state_then (state_of a))
  made_then room = go h.quiet.tried
    where
      by : (ds : List Deed) → a.pending ≡ ds → IsMade a k (state_after state_deed (state_of a) ds) → IsMade a k (state_then (state_of a))
      by ds is = subst (λ (xs : List Deed). IsMade a k (state_after state_deed (state_of a) xs)) (sym is)

      go : HasTried a → IsMade a k (state_then (state_of a))
      go (HasTried.nothing is) = by [] is (made_less (state_of a) (no_more_itself (state_of a)))
      go (HasTried.commit c) = by (Finishes c.stamp.trans ∷ Decides c.stamp [] ∷ []) c.tried (commit_made c)
      go (HasTried.decision c) = by (Hears c.stamp.trans c.join c.ts ∷ Decides c.stamp c.joins ∷ []) c.tried (voted_made c)
      go (HasTried.vote c) = by (Readies c.join c.trans (a.holder.clock + 1) ∷ []) c.tried (vote_made c room)
      go (HasTried.application c) = by (Applies c.join c.stamp ∷ []) c.tried (application_made c)
      go (HasTried.end c) = by (Acknowledges c.trans c.join ∷ Forgets c.trans ∷ []) c.tried (made_less (state_deed (state_deed (state_of a) (Acknowledges c.trans c.join)) (Forgets c.trans)) (end_less (state_of a) c.trans c.join))
      go (HasTried.abort c) =
          by (Aborts c.join c.trans c.client c.cause ∷ []) c.tried
          (made_less (state_deed (state_of a) (Aborts c.join c.trans c.client c.cause)) (abort_less a h.quiet c.join c.trans c.client c.ts c.client c.cause c.ready))
