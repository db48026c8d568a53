-- a join more that asks to be let in: the server stays ready
use Rattle.std.specs.Prelude.{cond, Bool, true, false, ◌&&◌, ◌||◌, ◌==◌, nat_lt, nat_le, Option, None, Some, is_some, map as list_map}
use Rattle.std.specs.Option.{option_or}
use Rattle.std.specs.List.{AllByRecursion}
use Rattle.std.proofs.Common.{◌≡◌, ℕ, ◌+◌, ◌^◌, ◌<◌, ◌≤◌, List, [], ◌∷◌, ◌++◌, length, refl, sym, ◌∙◌, ap, subst, arith, eq-eqb, le_refl}
use Rattle.std.proofs.lemmas.Bool.{and_parts, leb-true, le-leb, lt-leb, lt-ltb, le-ltb}
use Rattle.std.specs.FinMap as map
use Rattle.alp_base.specs.declared.ids.JoinNo.{JoinNo}
use Rattle.alp_base.specs.declared.ids.TransId.{TransId}
use Rattle.alp_base.specs.Notes.{Notes}
use Rattle.alp_files.specs.declared.refusal.Cause.{Cause}
use Rattle.alp_files.specs.declared.refusal.Refusal.TheVariants as refusal
use Rattle.alp_files.specs.declared.reply.Reply.TheVariants as reply
use Rattle.alp_fields.specs.ReadyNote.{ready_name}
use Rattle.alp_fields.specs.declared.ready_note.ReadyPart.{ReadyPart}
use Rattle.alp_journal.specs.Coordinator.{Fate}
use Rattle.alp_journal.specs.Ids.{same_join, is_drawn}
use Rattle.alp_journal.proofs.IdLemmas.{same_join-true}
use Rattle.alp_journal.proofs.StandLemmas.{same_join-itself}
use Rattle.alp_coord.specs.declared.coordinator.Coordinator.{Coordinator}
use Rattle.alp_coord.specs.Coordinators.{counted_of, fate_in}
use Rattle.alp_ready.specs.NoteLooks.{ready_at}
use Rattle.alp_worker.specs.Again.{is_other}
use Rattle.alp_worker.specs.Joins.{next_of, joining, with_drawn, is_drawn_in}
use Rattle.alp_worker.specs.Lives.{is_open, join_at, part_of, phase_in}
use Rattle.alp_worker.specs.Rooms.{sum_of}
use Rattle.alp_journal.specs.Messages.{trans_ready}
use Rattle.alp_worker.specs.Walks.{ready_in}
use Rattle.alp_worker.specs.declared.joins.Joins.{Joins}
use Rattle.alp_worker.specs.declared.live.LiveJoin.{LiveJoin}
use Rattle.alp_worker.specs.declared.live.Stage.{Stage}
use Rattle.alp_worker.specs.declared.live.Stage.TheVariants as stage
use Rattle.alp_worker.proofs.LiveLemmas.{single_pushed}
use Rattle.alp_node.specs.Dead.{cause_in, without_client}
use Rattle.alp_node.specs.Draws.{join_call, with_joining}
use Rattle.alp_node.specs.Noted.{AreNoted, AreNotesFor, IsNotedJoin, HasReadyRoom, ready_room, size_in}
use Rattle.alp_node.specs.Paired.{ArePaired, IsPairedWith, IsPartOf, IsItsJoin, is_in}
use Rattle.alp_node.specs.Releases.{buried}
use Rattle.alp_node.specs.ServerState.{IsReady, AreJoinsHere, AreAlive, IsAlive}
use Rattle.alp_node.specs.Steps.{IsTurn, counted_in}
use Rattle.alp_node.specs.Totals.{LiveMap}
use Rattle.alp_node.specs.Waits.{without_dead, has_file_on}
use Rattle.alp_node.specs.declared.dead.DeadPart.{DeadPart}
use Rattle.alp_node.specs.declared.lives.Live.{Live}
use Rattle.alp_node.specs.declared.server_state.ServerState.{ServerState}
use Rattle.alp_node.specs.declared.sessions.Turn.{Turn}
use Rattle.alp_node.proofs.DeadLemmas.{dead_buried}
use Rattle.alp_node.proofs.NotedLemmas.{at_more, once_more}
use Rattle.alp_node.proofs.ReadyLemmas.{alive_buried, counted_ready, undead_calls_ready, other_waits_ready, buried_ready}
use Rattle.alp_node.specs.Sessions.{IsClient}

-- ---- numbers

either : (a b : Bool) → a ≡ true → b ≡ true → (a && b) ≡ true
either true b e f = f
either false b e f = let wrong : false ≡ true = e in cc

-- what was drawn stays so with one more
drawn_more : (here epoch last : ℕ) (j : JoinNo) → is_drawn here epoch last j.server j.epoch j.counter ≡ true → is_drawn here epoch (last + 1) j.server j.epoch j.counter ≡ true
drawn_more here epoch last j h =
    let parts = and_parts (j.server == here && nat_lt 0 j.epoch && nat_lt 0 j.counter) (nat_lt j.epoch epoch || (j.epoch == epoch && nat_le j.counter last)) h in
    either (j.server == here && nat_lt 0 j.epoch && nat_lt 0 j.counter) (nat_lt j.epoch epoch || (j.epoch == epoch && nat_le j.counter (last + 1))) parts.0 (go (nat_lt j.epoch epoch) parts.1)
  where
    go : (b : Bool) → (b || (j.epoch == epoch && nat_le j.counter last)) ≡ true → (b || (j.epoch == epoch && nat_le j.counter (last + 1))) ≡ true
    go true f = refl
    go false f =
        let both = and_parts (j.epoch == epoch) (nat_le j.counter last) f in
        let few : j.counter ≤ last = leb-true j.counter last both.1 in
        either (j.epoch == epoch) (nat_le j.counter (last + 1)) both.0 (le-leb j.counter (last + 1) (omega (arith, few)))

-- the next one was not drawn, and is then
next_undrawn : (here epoch last : ℕ) → is_drawn here epoch last here epoch (last + 1) ≡ false
next_undrawn here epoch last =
    ap (λ (b : Bool). here == here && nat_lt 0 epoch && nat_lt 0 (last + 1) && (b || (epoch == epoch && nat_le (last + 1) last))) (le-ltb epoch epoch (omega arith))
    ∙ ap (λ (b : Bool). here == here && nat_lt 0 epoch && nat_lt 0 (last + 1) && (epoch == epoch && b)) (lt-leb (last + 1) last (omega arith))
    ∙ none (here == here && nat_lt 0 epoch && nat_lt 0 (last + 1)) (epoch == epoch)
  where
    none : (a b : Bool) → (a && (b && false)) ≡ false
    none true true = refl
    none true false = refl
    none false b = refl

next_drawn : (here epoch last : ℕ) → 0 < epoch → is_drawn here epoch (last + 1) here epoch (last + 1) ≡ true
next_drawn here epoch last raised =
    either (here == here && nat_lt 0 epoch && nat_lt 0 (last + 1)) (nat_lt epoch epoch || (epoch == epoch && nat_le (last + 1) (last + 1)))
    (either (here == here && nat_lt 0 epoch) (nat_lt 0 (last + 1)) (either (here == here) (nat_lt 0 epoch) (eq-eqb here here refl) (lt-ltb 0 epoch raised)) (lt-ltb 0 (last + 1) (omega arith)))
    (or_right (nat_lt epoch epoch) (either (epoch == epoch) (nat_le (last + 1) (last + 1)) (eq-eqb epoch epoch refl) (le-leb (last + 1) (last + 1) (le_refl (last + 1)))))
  where
    or_right : (a : Bool) {b : Bool} → b ≡ true → (a || b) ≡ true
    or_right true e = refl
    or_right false e = e

-- ---- one join more

module _ (k : Joins) (t : TransId) (client : ℕ) (who : List ℕ) where
  abbrev new_join : LiveJoin
  new_join = joining (next_of k) t client who

  abbrev more : List LiveJoin
  more = (with_drawn k t client who).lives

  same_join_of : (x y : LiveJoin) → Some x ≡ Some y → x ≡ y
  same_join_of x y e = cc

  -- one that is found is one of the others, or it
  at_one : (j : JoinNo) (x : LiveJoin) → join_at more j ≡ Some x → (P : Type 0) → (join_at k.lives j ≡ Some x → P) → (j ≡ next_of k → x ≡ new_join → join_at k.lives j ≡ None → P) → P
  at_one j x is P old new = go (join_at k.lives j) refl (same_join j (next_of k)) refl (sym (at_more j k.lives new_join) ∙ is)
    where
      go : (y : Option LiveJoin) → join_at k.lives j ≡ y → (b : Bool) → same_join j (next_of k) ≡ b → option_or y (cond {A = Option LiveJoin} b (Some new_join) None) ≡ Some x → P
      go (Some y) e b s h = old (e ∙ h)
      go None e true s h = new (same_join-true j (next_of k) s) (sym (same_join_of new_join x h)) e
      go None e false s h = let wrong : None ≡ Some x = h in cc

  at_old : (j : JoinNo) (x : LiveJoin) → join_at k.lives j ≡ Some x → join_at more j ≡ Some x
  at_old j x is = at_more j k.lives new_join ∙ ap (λ (y : Option LiveJoin). option_or y (cond {A = Option LiveJoin} (same_join j (next_of k)) (Some new_join) None)) is

  module _ (here epoch steps : ℕ) (h : AreJoinsHere here epoch steps k) (raised : 0 < epoch) (first : part_of client t k.lives ≡ None) (its : IsClient client) where
    none_next : join_at k.lives (next_of k) ≡ None
    none_next = go (join_at k.lives (next_of k)) refl
      where
        go : (x : Option LiveJoin) → join_at k.lives (next_of k) ≡ x → x ≡ None
        go None e = refl
        go (Some x) e = let wrong : false ≡ true = sym (next_undrawn k.server k.epoch k.drawn) ∙ h.numbered (next_of k) x e in cc

    pub joins_more : AreJoinsHere here epoch (steps + 1) (with_drawn k t client who)
    joins_more = record {
      server = h.server;
      epoch = h.epoch;
      drawn = (let few : k.drawn ≤ steps = h.drawn in omega (arith, few));
      numbered = λ j x is. at_one j x is (is_drawn_in (with_drawn k t client who) j ≡ true) (λ old. drawn_more k.server k.epoch k.drawn j (h.numbered j x old))
          (λ at same none. ap (is_drawn_in (with_drawn k t client who)) at ∙ next_drawn k.server k.epoch k.drawn (subst (λ (n : ℕ). 0 < n) (sym h.epoch) raised));
      clients = λ j x is. at_one j x is (IsClient x.client) (λ old. h.clients j x old) (λ at same none. subst (λ (y : LiveJoin). IsClient y.client) (sym same) its);
      once = once_more k.lives new_join h.once none_next;
      single = single_pushed k.lives new_join h.single first;
      times = λ j x ts is stands. at_one j x is (ts ≤ 2 ^ 62) (λ old. h.times j x ts old stands)
          (λ at same none. let wrong : stage.Joining who ≡ stage.Ready ts = sym (ap (λ (y : LiveJoin). y.stage) same) ∙ stands in cc);
    }

  -- ---- what it is paired with

  -- it has no part yet
  not_in : (j : JoinNo) (x : LiveJoin) → x ≡ new_join → is_in x.stage ≡ true → ⊥
  not_in j x same e = let wrong : false ≡ true = sym (ap (λ (y : LiveJoin). is_in y.stage) same) ∙ e in cc

  pub paired_more : (servers here : ℕ) (c : Coordinator) (lives : LiveMap) → is_other servers here t.server ≡ true → ArePaired servers here c k lives → ArePaired servers here c (with_drawn k t client who) lives
  paired_more servers here c lives far h = record {
    parts = λ u. parts u (fate_in c u) (map.get lives u) (h.parts u);
    joins = λ j x is e. at_one j x is ((l : Live) × (map.get lives x.trans ≡ Some l) × (l.join ≡ Some j)) (λ old. h.joins j x old e) (λ at same none. absurd (not_in j x same e));
    others = λ j x is. at_one j x is (is_other servers here x.trans.server ≡ true) (λ old. h.others j x old) (λ at same none. ap (λ (y : LiveJoin). is_other servers here y.trans.server) same ∙ far);
    own = h.own;
  }
    where
      its : (u : TransId) (l : Live) (j : JoinNo) (x : Option LiveJoin) → join_at k.lives j ≡ x → IsItsJoin u l x → IsItsJoin u l (join_at more j)
      its u l j None e q = absurd q
      its u l j (Some x) e q = subst (IsItsJoin u l) (sym (at_old j x e)) q

      part : (u : TransId) (l : Live) (f : Fate) (x : Option JoinNo) → IsPartOf k u l f x → IsPartOf (with_drawn k t client who) u l f x
      part u l f None q = q
      part u l f (Some j) q = (q.0, its u l j (join_at k.lives j) refl q.1)

      parts : (u : TransId) (f : Fate) (x : Option Live) → IsPairedWith k u f x → IsPairedWith (with_drawn k t client who) u f x
      parts u f None q = q
      parts u f (Some l) q = part u l f l.join q

  pub idle_more : (P : TransId → Type 0) → ((j : JoinNo) (x : LiveJoin) → join_at k.lives j ≡ Some x → is_open x.stage ≡ false → P x.trans) → (j : JoinNo) (x : LiveJoin) → join_at more j ≡ Some x → is_open x.stage ≡ false → P x.trans
  idle_more P all j x is voted = at_one j x is (P x.trans) (λ old. all j x old voted) (λ at same none. let wrong : true ≡ false = sym (ap (λ (y : LiveJoin). is_open y.stage) same) ∙ voted in cc)

  -- the others' room and notes stand
  ready_more : (ls : List LiveJoin) → ready_in (ls ++ new_join ∷ []) ≡ ready_in ls
  ready_more [] = refl
  ready_more (x ∷ xs) = go x.stage (ready_more xs)
    where
      go : (s : Stage) → ready_in (xs ++ new_join ∷ []) ≡ ready_in xs → trans_ready (phase_in x.trans x.client s) ++ ready_in (xs ++ new_join ∷ []) ≡ trans_ready (phase_in x.trans x.client s) ++ ready_in xs
      go s e = ap (λ (ts : List TransId). trans_ready (phase_in x.trans x.client s) ++ ts) e

  pub room_more : (lives : LiveMap) → ready_room lives more ≡ ready_room lives k.lives
  room_more lives = ap (λ (ts : List TransId). sum_of (list_map (size_in lives) ts)) (ready_more k.lives)

  pub noted_more : (server servers now : ℕ) (lives : LiveMap) (c : Coordinator) (notes : Notes) → AreNoted server servers now lives k c notes → AreNoted server servers now lives (with_drawn k t client who) c notes
  noted_more server servers now lives c notes h = record {
    epoch = h.epoch;
    ready = λ j fits. subst (λ (x : Option LiveJoin). IsNotedJoin lives x (ready_at notes j)) (sym (at_more j k.lives new_join)) (go (same_join j (next_of k)) (join_at k.lives j) (ready_at notes j) (h.ready j fits));
    decided = h.decided;
    format = h.format;
  }
    where
      go : (b : Bool) (x : Option LiveJoin) (p : Option ReadyPart) → IsNotedJoin lives x p → IsNotedJoin lives (option_or x (cond {A = Option LiveJoin} b (Some new_join) None)) p
      go b (Some x) p q = q
      go true None p q = q
      go false None p q = q

-- ---- the server

module _ {V : Type 0} (n : ℕ) (serves : Bool) (k : ServerState V) (turn : Turn) (t : TransId) where
  abbrev drawn_joins : Joins
  drawn_joins = with_drawn k.joins t turn.client turn.who

  -- with the join, where the client's dead parts are gone
  pub drawn_ready : IsTurn k.sessions turn → is_other k.servers k.server t.server ≡ true → counted_of k.coordinator + length k.joins.lives < 64
      → part_of turn.client t k.joins.lives ≡ None → IsReady n serves k → IsReady (n + 1) serves (record (with_joining k turn t) { sessions = counted_in k.sessions turn (reply.Refused refusal.NotYet) })
  drawn_ready is far few first h =
      let r : IsReady (n + 1) serves (record (buried k turn.client) { waits = without_dead turn.client k.dead k.waits ++ join_call turn t ∷ []; sessions = counted_in k.sessions turn (reply.Refused refusal.NotYet) }) =
      buried_ready (n + 1) serves (record k { waits = without_dead turn.client k.dead k.waits ++ join_call turn t ∷ []; sessions = counted_in k.sessions turn (reply.Refused refusal.NotYet) }) (without_client turn.client k.dead)
      (alive_buried turn.client k.dead k.lives k.joins.lives h.alive)
      (counted_ready n serves (record k { waits = without_dead turn.client k.dead k.waits ++ join_call turn t ∷ [] }) turn (reply.Refused refusal.NotYet) is (record { inside = tt; times = tt })
      (other_waits_ready n serves (record k { waits = without_dead turn.client k.dead k.waits }) (join_call turn t) refl (refl, refl) tt (undead_calls_ready n serves k turn.client h))) in
      record {
        serving = r.serving;
        halted = r.halted;
        sound = r.sound;
        taken = r.taken;
        waits = r.waits;
        known = r.known;
        seat = r.seat;
        joins = joins_more k.joins t turn.client turn.who k.server k.epoch n h.joins h.raised first (is.some, is.client);
        paired = paired_more k.joins t turn.client turn.who k.servers k.server k.coordinator k.lives far r.paired;
        idle = idle_more k.joins t turn.client turn.who (λ u. has_file_on u (without_dead turn.client k.dead k.waits ++ join_call turn t ∷ []) ≡ false) r.idle;
        opens = r.opens;
        opened = r.opened;
        alive = record {
          parts = r.alive.parts;
          joins = λ j x is. at_one k.joins t turn.client turn.who j x is (IsAlive (without_client turn.client k.dead) x.client x.trans) (λ old. r.alive.joins j x old)
              (λ at same none. ap (λ (y : LiveJoin). cause_in (without_client turn.client k.dead) y.client y.trans) same ∙ sym (dead_buried turn.client k.dead turn.client t)
              ∙ ap (λ (b : Bool). cond {A = Option Cause} b None (cause_in k.dead turn.client t)) (eq-eqb turn.client turn.client refl));
        };
        places = r.places;
        calls = r.calls;
        replies = r.replies;
        drawn = r.drawn;
        times = r.times;
        given = r.given;
        most = (let one : length drawn_joins.lives ≡ length k.joins.lives + 1 = length_more k.joins.lives (new_join k.joins t turn.client turn.who) in omega (arith, one, few));
        fits = subst (HasReadyRoom k.sizes) (sym (room_more k.joins t turn.client turn.who k.lives)) r.fits;
        within = r.within;
        sized = r.sized;
        clock = r.clock;
        raised = r.raised;
        fated = r.fated;
        last = r.last;
        unheld = r.unheld;
      }
    where
      length_more : (ls : List LiveJoin) (l : LiveJoin) → length (ls ++ l ∷ []) ≡ length ls + 1
      length_more [] l = omega arith
      length_more (x ∷ xs) l = (let rest : length (xs ++ l ∷ []) ≡ length xs + 1 = length_more xs l in omega (arith, rest))
