-- the joins here of a transaction of another server that did not vote go as it times out: how what is left goes together
use Rattle.std.specs.Prelude.{cond, Bool, true, false, not, ◌==◌, ◌&&◌, filter, Option, None, Some}
use Rattle.std.specs.List.{list_any}
use Rattle.std.specs.FinMap as map
use Rattle.std.proofs.lemmas.Bool.{and_parts, and_from, not-true}
use Rattle.std.proofs.Common.{◌≡◌, ℕ, ◌+◌, ◌≤◌, List, ◌++◌, length, refl, sym, ◌∙◌, ap, subst, arith}
use Rattle.alp_base.specs.Notes.{Notes}
use Rattle.alp_base.specs.declared.ids.JoinNo.{JoinNo}
use Rattle.alp_base.specs.declared.ids.TransId.{TransId}
use Rattle.alp_fields.specs.declared.ready_note.ReadyPart.{ReadyPart}
use Rattle.alp_files.specs.declared.refusal.Cause.{Cause}
use Rattle.alp_files.specs.declared.refusal.Cause.TheVariants as cause
use Rattle.alp_journal.specs.Coordinator.{client_of}
use Rattle.alp_journal.specs.Ids.{same_trans, same_join}
use Rattle.alp_journal.specs.Participant.{Active}
use Rattle.alp_journal.proofs.IdLemmas.{same_trans-true, same_trans-itself, same_join-true}
use Rattle.alp_coord.specs.Coordinators.{fate_in, counted_of}
use Rattle.alp_coord.specs.declared.coordinator.Coordinator.{Coordinator}
use Rattle.alp_ready.specs.NoteLooks.{ready_at}
use Rattle.alp_worker.specs.declared.live.LiveJoin.{LiveJoin}
use Rattle.alp_worker.specs.declared.live.Stage.{Stage}
use Rattle.alp_worker.specs.declared.live.Stage.TheVariants as stage
use Rattle.alp_worker.specs.Lives.{is_open, join_at}
use Rattle.alp_worker.specs.Walks.{is_open_of, open_of}
use Rattle.alp_worker.proofs.LiveLemmas.{once_filter, single_filter}
use Rattle.alp_node.specs.Dead.{cause_in}
use Rattle.alp_node.specs.Noted.{IsNotedAs, IsNotedJoin, AreNoted, AreNotesFor, HasReadyRoom, ready_room, size_in}
use Rattle.alp_node.specs.Paired.{is_in, IsPartOf, IsPairedWith, ArePaired}
use Rattle.alp_node.specs.Releases.{let_go}
use Rattle.alp_node.specs.ServerState.{IsReady, AreJoinsHere, IsAlive}
use Rattle.alp_node.specs.Timeouts.{is_active, has_active, deads_of}
use Rattle.alp_node.specs.Totals.{LiveMap}
use Rattle.alp_node.specs.Waits.{AreVotersIdle}
use Rattle.alp_node.specs.declared.lives.Live.{Live}
use Rattle.alp_node.specs.declared.server_state.ServerState.{ServerState}
use Rattle.alp_node.proofs.HoldingLemmas.{another, open_alone}
use Rattle.alp_node.proofs.JoinEnds.{fewer_pass, room_fewer}
use Rattle.alp_node.proofs.JoinMoves.{same_some, joined_by, part_stands}
use Rattle.alp_node.proofs.LateTold.{deads_then}
use Rattle.alp_node.proofs.MapLemmas.{get_gone}
use Rattle.alp_node.proofs.NotedLemmas.{HasNoVoter, room_on, noted_on, voters_gone}
use Rattle.alp_node.proofs.OpenJoins.{kept_if, filter_at, was_left, still_left, IsLateOf, late_of, IsLateActive, none_active}
use Rattle.alp_node.proofs.ReadyLemmas.{LetsPart, buried_ready}
use Rattle.alp_node.proofs.ReleaseLemmas.{let_go_none, let_go_of, let_go_alike, timed_ready}
use Rattle.alp_node.proofs.SingleLemmas.{same_number, is_its, its_part}

-- ---- stages

outside : (s : Stage) → is_open s ≡ true → is_active s ≡ false → is_in s ≡ false
outside (stage.Joining who) o n = refl
outside (stage.Active who) o n = absurd (let wrong : true ≡ false = n in cc)
outside (stage.Ready ts) o n = absurd (let wrong : false ≡ true = o in cc)

inside : (s : Stage) → is_open s ≡ false → is_in s ≡ true
inside (stage.Joining who) e = absurd (let wrong : true ≡ false = e in cc)
inside (stage.Active who) e = refl
inside (stage.Ready ts) e = refl

active_in : (s : Stage) → is_active s ≡ true → is_in s ≡ true
active_in (stage.Joining who) e = absurd (let wrong : false ≡ true = e in cc)
active_in (stage.Active who) e = refl
active_in (stage.Ready ts) e = refl

pub active_is : (s : Stage) → is_active s ≡ true → (who : List ℕ) × (s ≡ stage.Active who)
active_is (stage.Joining who) e = absurd (let wrong : false ≡ true = e in cc)
active_is (stage.Active who) e = (who, refl)
active_is (stage.Ready ts) e = absurd (let wrong : false ≡ true = e in cc)

-- ---- whatever the vault tells

module _ {V : Type 0} (k : ServerState V) (t : TransId) (xs : List LiveJoin) (are : xs ≡ open_of t k.joins.lives) where
  module _ (n : ℕ) (serves : Bool) (h : IsReady n serves k) where
    was : (i : JoinNo) (x : LiveJoin) → join_at (filter (λ (l : LiveJoin). not (is_open_of t l)) k.joins.lives) i ≡ Some x → (join_at k.joins.lives i ≡ Some x) × (not (is_open_of t x) ≡ true)
    was = was_left (λ (l : LiveJoin). not (is_open_of t l)) k.joins.lives h.joins.once

    joins_here : AreJoinsHere k.server k.epoch n (record k.joins { lives = filter (λ (l : LiveJoin). not (is_open_of t l)) k.joins.lives })
    joins_here = record {
      server = h.joins.server;
      epoch = h.joins.epoch;
      drawn = h.joins.drawn;
      numbered = λ i x at. h.joins.numbered i x (was i x at).0;
      clients = λ i x at. h.joins.clients i x (was i x at).0;
      once = once_filter (λ (l : LiveJoin). not (is_open_of t l)) k.joins.lives h.joins.once;
      single = single_filter (λ (l : LiveJoin). not (is_open_of t l)) k.joins.lives h.joins.single;
      times = λ i x ts at voted. h.joins.times i x ts (was i x at).0 voted;
    }

    idle_here : AreVotersIdle (filter (λ (l : LiveJoin). not (is_open_of t l)) k.joins.lives) k.waits
    idle_here i x at voted = h.idle i x (was i x at).0 voted

    most_here : counted_of k.coordinator + length (filter (λ (l : LiveJoin). not (is_open_of t l)) k.joins.lives) ≤ 64
    most_here =
        let fewer : length (filter (λ (l : LiveJoin). not (is_open_of t l)) k.joins.lives) ≤ length k.joins.lives = fewer_pass (λ (l : LiveJoin). not (is_open_of t l)) k.joins.lives in
        let most : counted_of k.coordinator + length k.joins.lives ≤ 64 = h.most in
        omega (arith, fewer, most)

    room_here : HasReadyRoom k.sizes (ready_room k.lives (filter (λ (l : LiveJoin). not (is_open_of t l)) k.joins.lives))
    room_here = (let less = room_fewer (size_in k.lives) (λ (l : LiveJoin). not (is_open_of t l)) k.joins.lives in let w = less.weights in let g = less.greatest in omega (arith, w, g, h.fits))

    -- none of them is dead
    untold : (client : ℕ) (u : TransId) → (list_any (λ (x : LiveJoin). client == x.client) xs && same_trans u t) ≡ false → IsAlive k.dead client u → IsAlive (k.dead ++ deads_of t cause.TimedOut xs) client u
    untold client u away none = deads_then k.dead t cause.TimedOut xs client u ∙ ap (λ (b : Bool). cond {A = Option Cause} b (Some cause.TimedOut) (cause_in k.dead client u)) away ∙ none

    late_at : (client : ℕ) → list_any (λ (x : LiveJoin). client == x.client) xs ≡ true → IsLateOf t k.joins.lives client
    late_at client e = late_of t k.joins.lives h.joins.once client (ap (list_any (λ (x : LiveJoin). client == x.client)) (sym are) ∙ e)

    opens : (x : LiveJoin) → is_open x.stage ≡ true → x.trans ≡ t → is_open_of t x ≡ true
    opens x early of = and_from (is_open x.stage) (same_trans x.trans t) early (ap (λ (u : TransId). same_trans u t) of ∙ same_trans-itself t)

    joins_alive : (i : JoinNo) (x : LiveJoin) → join_at (filter (λ (l : LiveJoin). not (is_open_of t l)) k.joins.lives) i ≡ Some x → IsAlive (k.dead ++ deads_of t cause.TimedOut xs) x.client x.trans
    joins_alive i x at = untold x.client x.trans (go (list_any (λ (y : LiveJoin). x.client == y.client) xs && same_trans x.trans t) refl) (h.alive.joins i x (was i x at).0)
      where
        go : (b : Bool) → (list_any (λ (y : LiveJoin). x.client == y.client) xs && same_trans x.trans t) ≡ b → b ≡ false
        go false e = refl
        go true e =
            let both = and_parts (list_any (λ (y : LiveJoin). x.client == y.client) xs) (same_trans x.trans t) e in
            let y : IsLateOf t k.joins.lives x.client = late_at x.client both.0 in
            let same : same_join i y.one.join ≡ true = same_number k.joins.lives x.client t y.one.join i y.one x h.joins.single y.there (was i x at).0 (is_its x.client t y.one y.trans y.own) (is_its x.client t x (same_trans-true x.trans t both.1) refl) in
            let one : x ≡ y.one = same_some x y.one (sym (was i x at).0 ∙ ap (join_at k.joins.lives) (same_join-true i y.one.join same) ∙ y.there) in
            let wrong : true ≡ false = sym (ap (is_open_of t) one ∙ opens y.one y.early y.trans) ∙ not-true (is_open_of t x) (was i x at).1 in
            cc

    -- the notes of the others stand
    pub noted_here : (lives : LiveMap) (server servers epoch : ℕ) (c : Coordinator) (notes : Notes) → AreNoted server servers epoch lives k.joins c notes
        → AreNoted server servers epoch lives (record k.joins { lives = filter (λ (l : LiveJoin). not (is_open_of t l)) k.joins.lives }) c notes
    noted_here lives server servers epoch c notes q = record {
      epoch = q.epoch;
      ready = λ i fits. at i (join_at k.joins.lives i) refl (ready_at notes i) (q.ready i fits);
      decided = q.decided;
      format = q.format;
    }
      where
        unvoted : (z : LiveJoin) (s : Stage) → is_open s ≡ true → (x : Option ReadyPart) → IsNotedAs lives z s x → x ≡ None
        unvoted z (stage.Joining who) e x i = i
        unvoted z (stage.Active who) e x i = i
        unvoted z (stage.Ready ts) e x i = absurd (let wrong : false ≡ true = e in cc)

        at : (i : JoinNo) (o : Option LiveJoin) → join_at k.joins.lives i ≡ o → (x : Option ReadyPart) → IsNotedJoin lives o x → IsNotedJoin lives (join_at (filter (λ (l : LiveJoin). not (is_open_of t l)) k.joins.lives) i) x
        at i o is x noted =
            subst (λ (y : Option LiveJoin). IsNotedJoin lives y x) (sym (filter_at (λ (l : LiveJoin). not (is_open_of t l)) k.joins.lives h.joins.once i ∙ ap (kept_if (λ (l : LiveJoin). not (is_open_of t l))) is)) (kept o noted)
          where
            one : (z : LiveJoin) → IsNotedAs lives z z.stage x → (b : Bool) → is_open_of t z ≡ b → IsNotedJoin lives (cond {A = Option LiveJoin} (not b) (Some z) None) x
            one z its true e = unvoted z z.stage (and_parts (is_open z.stage) (same_trans z.trans t) e).0 x its
            one z its false e = its

            kept : (y : Option LiveJoin) → IsNotedJoin lives y x → IsNotedJoin lives (kept_if (λ (l : LiveJoin). not (is_open_of t l)) y) x
            kept None its = its
            kept (Some z) its = one z its (is_open_of t z) refl

    -- ---- none was let in

    module _ (none : has_active xs ≡ false) where
      pub no_active : (j : JoinNo) (y : LiveJoin) → join_at k.joins.lives j ≡ Some y → is_open_of t y ≡ true → is_active y.stage ≡ false
      no_active = none_active t k.joins.lives (ap has_active (sym are) ∙ none)

      paired_here : ArePaired k.servers k.server k.coordinator (record k.joins { lives = filter (λ (l : LiveJoin). not (is_open_of t l)) k.joins.lives }) k.lives
      paired_here = record {
        parts = λ u. part u (map.get k.lives u) refl (h.paired.parts u);
        joins = λ i x at. h.paired.joins i x (was i x at).0;
        others = λ i x at. h.paired.others i x (was i x at).0;
        own = h.paired.own;
      }
        where
          stays : (u : TransId) (m : Live) (i : JoinNo) (z : LiveJoin) → map.get k.lives u ≡ Some m → m.join ≡ Some i → join_at k.joins.lives i ≡ Some z → not (is_open_of t z) ≡ true
          stays u m i z live of at = go (is_open_of t z) refl
            where
              go : (b : Bool) → is_open_of t z ≡ b → not b ≡ true
              go false e = refl
              go true e =
                  let x = joined_by k.servers k.server k.coordinator k.joins k.lives u m i h.paired live of in
                  let same : z ≡ x.0 = same_some z x.0 (sym at ∙ x.1) in
                  let wrong : true ≡ false = sym x.4 ∙ ap (λ (y : LiveJoin). is_in y.stage) (sym same) ∙ outside z.stage (and_parts (is_open z.stage) (same_trans z.trans t) e).0 (no_active i z at e) in
                  cc

          part : (u : TransId) (o : Option Live) → map.get k.lives u ≡ o → IsPairedWith k.joins u (fate_in k.coordinator u) o → IsPairedWith (record k.joins { lives = filter (λ (l : LiveJoin). not (is_open_of t l)) k.joins.lives }) u (fate_in k.coordinator u) o
          part u None live q = q
          part u (Some m) live q =
              part_stands k.joins (record k.joins { lives = filter (λ (l : LiveJoin). not (is_open_of t l)) k.joins.lives }) u m (fate_in k.coordinator u) m.join
              (λ i z of at. still_left (λ (l : LiveJoin). not (is_open_of t l)) k.joins.lives h.joins.once i z at (stays u m i z live of at)) q

      parts_alive : (u : TransId) (l : Live) → map.get k.lives u ≡ Some l → IsAlive (k.dead ++ deads_of t cause.TimedOut xs) l.client u
      parts_alive u l live = untold l.client u (go (list_any (λ (y : LiveJoin). l.client == y.client) xs && same_trans u t) refl) (h.alive.parts u l live)
        where
          go : (b : Bool) → (list_any (λ (y : LiveJoin). l.client == y.client) xs && same_trans u t) ≡ b → b ≡ false
          go false e = refl
          go true e =
              let both = and_parts (list_any (λ (y : LiveJoin). l.client == y.client) xs) (same_trans u t) e in
              let y : IsLateOf t k.joins.lives l.client = late_at l.client both.0 in
              let its : is_in y.one.stage ≡ true =
              its_part k.servers k.server k.coordinator k.joins k.lives h.paired h.joins.single y.one.join y.one y.there l (ap (map.get k.lives) (y.trans ∙ sym (same_trans-true u t both.1)) ∙ live) (sym y.own) in
              let wrong : true ≡ false = sym its ∙ outside y.one.stage y.early (no_active y.one.join y.one y.there (opens y.one y.early y.trans)) in
              cc

      pub asking_ready : IsReady n serves (record k { dead = k.dead ++ deads_of t cause.TimedOut xs; joins = record k.joins { lives = filter (λ (l : LiveJoin). not (is_open_of t l)) k.joins.lives } })
      asking_ready = record {
        serving = h.serving;
        halted = h.halted;
        sound = h.sound;
        taken = h.taken;
        waits = h.waits;
        known = h.known;
        seat = h.seat;
        joins = joins_here;
        paired = paired_here;
        idle = idle_here;
        opens = h.opens;
        opened = h.opened;
        alive = record { parts = parts_alive; joins = joins_alive };
        places = h.places;
        calls = h.calls;
        replies = h.replies;
        drawn = h.drawn;
        times = h.times;
        given = h.given;
        most = most_here;
        fits = room_here;
        within = h.within;
        sized = h.sized;
        clock = h.clock;
        raised = h.raised;
        fated = h.fated;
        last = h.last;
        unheld = h.unheld;
      }

    -- ---- one was let in

    module _ (y : IsLateActive t k.joins.lives) where
      let_in : is_in y.one.stage ≡ true
      let_in = active_in y.one.stage y.in_

      early : (s : Stage) → is_active s ≡ true → is_open s ≡ true
      early (stage.Joining who) e = refl
      early (stage.Active who) e = refl
      early (stage.Ready ts) e = absurd (let wrong : false ≡ true = e in cc)

      -- who is left and was let in is of another transaction
      elsewhere : (i : JoinNo) (x : LiveJoin) → join_at (filter (λ (l : LiveJoin). not (is_open_of t l)) k.joins.lives) i ≡ Some x → is_in x.stage ≡ true → same_trans x.trans t ≡ false
      elsewhere i x at its =
          ap (same_trans x.trans) (sym y.trans)
          ∙ another k.servers k.server k.coordinator k.joins k.lives h.paired h.joins.once y.one.join y.one y.there let_in i x (was i x at).0 its (apart (same_join y.one.join i) refl)
        where
          apart : (b : Bool) → same_join y.one.join i ≡ b → b ≡ false
          apart false e = refl
          apart true e =
              let one : x ≡ y.one = same_some x y.one (sym (was i x at).0 ∙ ap (join_at k.joins.lives) (sym (same_join-true y.one.join i e)) ∙ y.there) in
              let wrong : true ≡ false = sym (ap (is_open_of t) one ∙ opens y.one (early y.one.stage y.in_) y.trans) ∙ not-true (is_open_of t x) (was i x at).1 in
              cc

      its_live : (l : Live) × (map.get k.lives y.one.trans ≡ Some l) × (l.join ≡ Some y.one.join)
      its_live = h.paired.joins y.one.join y.one y.there let_in

      nobody : client_of (fate_in k.coordinator t) ≡ None
      nobody = ap (λ (u : TransId). client_of (fate_in k.coordinator u)) (sym y.trans) ∙ from its_live.0.join its_live.2 (subst (IsPairedWith k.joins y.one.trans (fate_in k.coordinator y.one.trans)) its_live.1 (h.paired.parts y.one.trans))
        where
          from : (o : Option JoinNo) → o ≡ Some y.one.join → IsPartOf k.joins y.one.trans its_live.0 (fate_in k.coordinator y.one.trans) o → client_of (fate_in k.coordinator y.one.trans) ≡ None
          from None e q = absurd (let wrong : ◌≡◌ {A = Option JoinNo} None (Some y.one.join) = e in cc)
          from (Some i) e q = q.0

      paired_gone : ArePaired k.servers k.server k.coordinator (record k.joins { lives = filter (λ (l : LiveJoin). not (is_open_of t l)) k.joins.lives }) (map.remove k.lives t)
      paired_gone = record {
        parts = λ u. subst (IsPairedWith (record k.joins { lives = filter (λ (l : LiveJoin). not (is_open_of t l)) k.joins.lives }) u (fate_in k.coordinator u)) (sym (get_gone k.lives t u)) (part u (same_trans u t) refl);
        joins = λ i x at its. (let p = h.paired.joins i x (was i x at).0 its in (p.0, get_gone k.lives t x.trans ∙ ap (λ (b : Bool). cond {A = Option Live} b None (map.get k.lives x.trans)) (elsewhere i x at its) ∙ p.1, p.2));
        others = λ i x at. h.paired.others i x (was i x at).0;
        own = h.paired.own;
      }
        where
          stays : (u : TransId) (m : Live) (i : JoinNo) (z : LiveJoin) → same_trans u t ≡ false → map.get k.lives u ≡ Some m → m.join ≡ Some i → join_at k.joins.lives i ≡ Some z → not (is_open_of t z) ≡ true
          stays u m i z away live of at = go (is_open_of t z) refl
            where
              go : (b : Bool) → is_open_of t z ≡ b → not b ≡ true
              go false e = refl
              go true e =
                  let x = joined_by k.servers k.server k.coordinator k.joins k.lives u m i h.paired live of in
                  let same : z ≡ x.0 = same_some z x.0 (sym at ∙ x.1) in
                  let wrong : true ≡ false = sym (and_parts (is_open z.stage) (same_trans z.trans t) e).1 ∙ ap (λ (v : TransId). same_trans v t) (ap (λ (w : LiveJoin). w.trans) same ∙ x.2) ∙ away in
                  cc

          other : (u : TransId) → same_trans u t ≡ false → (o : Option Live) → map.get k.lives u ≡ o → IsPairedWith k.joins u (fate_in k.coordinator u) o → IsPairedWith (record k.joins { lives = filter (λ (l : LiveJoin). not (is_open_of t l)) k.joins.lives }) u (fate_in k.coordinator u) o
          other u away None live q = q
          other u away (Some m) live q =
              part_stands k.joins (record k.joins { lives = filter (λ (l : LiveJoin). not (is_open_of t l)) k.joins.lives }) u m (fate_in k.coordinator u) m.join
              (λ i z of at. still_left (λ (l : LiveJoin). not (is_open_of t l)) k.joins.lives h.joins.once i z at (stays u m i z away live of at)) q

          part : (u : TransId) (b : Bool) → same_trans u t ≡ b → IsPairedWith (record k.joins { lives = filter (λ (l : LiveJoin). not (is_open_of t l)) k.joins.lives }) u (fate_in k.coordinator u) (cond {A = Option Live} b None (map.get k.lives u))
          part u true e = ap (λ (v : TransId). client_of (fate_in k.coordinator v)) (same_trans-true u t e) ∙ nobody
          part u false e = other u e (map.get k.lives u) refl (h.paired.parts u)

      none_left : HasNoVoter (filter (λ (l : LiveJoin). not (is_open_of t l)) k.joins.lives) t
      none_left i x at voted = elsewhere i x at (inside x.stage voted)

      lets : LetsPart n serves k t k.coordinator (record k.joins { lives = filter (λ (l : LiveJoin). not (is_open_of t l)) k.joins.lives }) k.clock
      lets = record {
        along = record { server_same = refl; epoch_same = refl; count_same = refl };
        times = h.times;
        fated = h.fated;
        joins = joins_here;
        paired = paired_gone;
        idle = idle_here;
        alive = λ i x at. h.alive.joins i x (was i x at).0;
        most = most_here;
        fits = subst (HasReadyRoom k.sizes)
            (sym (room_on k.lives (map.remove k.lives t) (filter (λ (l : LiveJoin). not (is_open_of t l)) k.joins.lives) (once_filter (λ (l : LiveJoin). not (is_open_of t l)) k.joins.lives h.joins.once)
            (voters_gone k.lives t (filter (λ (l : LiveJoin). not (is_open_of t l)) k.joins.lives) none_left))) room_here;
      }

      pub active_ready : IsReady n serves (record (let_go k t) { dead = k.dead ++ deads_of t cause.TimedOut xs; joins = record k.joins { lives = filter (λ (l : LiveJoin). not (is_open_of t l)) k.joins.lives } })
      active_ready =
          subst (λ (s : ServerState V). IsReady n serves s) (ap (λ (s : ServerState V). record s { dead = k.dead ++ deads_of t cause.TimedOut xs; joins = record k.joins { lives = filter (λ (l : LiveJoin). not (is_open_of t l)) k.joins.lives } }) (sym (let_go_of k t)))
          (subst (λ (s : ServerState V). IsReady n serves s)
          (ap (λ (s : ServerState V). record s { dead = k.dead ++ deads_of t cause.TimedOut xs; coordinator = k.coordinator; joins = record k.joins { lives = filter (λ (l : LiveJoin). not (is_open_of t l)) k.joins.lives } }) (let_go_of k t))
          (buried_ready n serves (record (let_go k t) { coordinator = k.coordinator; joins = record k.joins { lives = filter (λ (l : LiveJoin). not (is_open_of t l)) k.joins.lives } }) (k.dead ++ deads_of t cause.TimedOut xs)
          (record { parts = parts_left; joins = joins_alive }) timed))
        where
          timed : IsReady n serves (record (let_go k t) { coordinator = k.coordinator; joins = record k.joins { lives = filter (λ (l : LiveJoin). not (is_open_of t l)) k.joins.lives } })
          timed = timed_ready n k t k.coordinator (record k.joins { lives = filter (λ (l : LiveJoin). not (is_open_of t l)) k.joins.lives }) serves lets h

          off : (u : TransId) (l : Live) → map.get (let_go k t).lives u ≡ Some l → (b : Bool) → same_trans u t ≡ b → b ≡ false
          off u l there false e = refl
          off u l there true e = absurd (let wrong : ◌≡◌ {A = Option Live} None (Some l) = sym (let_go_none k t) ∙ sym (ap (map.get (let_go k t).lives) (same_trans-true u t e)) ∙ there in cc)

          neither : (b d : Bool) → d ≡ false → (b && d) ≡ false
          neither true d e = e
          neither false d e = refl

          parts_left : (u : TransId) (l : Live) → map.get (let_go k t).lives u ≡ Some l → IsAlive (k.dead ++ deads_of t cause.TimedOut xs) l.client u
          parts_left u l there =
              untold l.client u (neither (list_any (λ (x : LiveJoin). l.client == x.client) xs) (same_trans u t) (off u l there (same_trans u t) refl))
              (sym (ap (λ (s : ServerState V). cause_in s.dead l.client u) (let_go_of k t)) ∙ timed.alive.parts u l there)

      pub active_noted : (notes : Notes) → AreNotesFor k notes → AreNotesFor (record (let_go k t) { dead = k.dead ++ deads_of t cause.TimedOut xs; joins = record k.joins { lives = filter (λ (l : LiveJoin). not (is_open_of t l)) k.joins.lives } }) notes
      active_noted notes q =
          subst (λ (s : ServerState V). AreNoted s.server s.servers s.epoch (let_go k t).lives (record k.joins { lives = filter (λ (l : LiveJoin). not (is_open_of t l)) k.joins.lives }) s.coordinator notes) (sym (let_go_of k t))
          (noted_here (let_go k t).lives k.server k.servers k.epoch k.coordinator notes
          (noted_on k.lives (let_go k t).lives k.server k.servers k.epoch k.joins k.coordinator notes
          (let_go_alike n serves k t h (subst (HasNoVoter k.joins.lives) y.trans (open_alone n serves k h y.one.join y.one y.there let_in (λ (l : LiveJoin). true) refl (early y.one.stage y.in_)))) q))
