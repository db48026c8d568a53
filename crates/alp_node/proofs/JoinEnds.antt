-- a join that ends: what goes with it, and what stays
use Rattle.std.specs.Prelude.{cond, Bool, true, false, not, ◌&&◌, filter, Option, None, Some, map as list_map}
use Rattle.std.specs.FinMap as map
use Rattle.std.proofs.Common.{◌≡◌, ℕ, ◌+◌, ◌^◌, ◌≤◌, max, List, [], ◌∷◌, ◌++◌, length, refl, sym, ◌∙◌, ap, subst, arith, le_refl}
use Rattle.alp_base.specs.declared.ids.JoinNo.{JoinNo}
use Rattle.alp_base.specs.declared.ids.TransId.{TransId}
use Rattle.alp_base.specs.Notes.{Notes}
use Rattle.alp_fields.specs.declared.ready_note.ReadyPart.{ReadyPart}
use Rattle.alp_journal.specs.Ids.{same_join, same_trans}
use Rattle.alp_journal.specs.Messages.{trans_ready}
use Rattle.alp_journal.proofs.IdLemmas.{same_join-true}
use Rattle.alp_coord.specs.Coordinators.{counted_of}
use Rattle.alp_coord.specs.declared.coordinator.Coordinator.{Coordinator}
use Rattle.alp_worker.specs.declared.joins.Joins.{Joins}
use Rattle.alp_worker.specs.declared.live.LiveJoin.{LiveJoin}
use Rattle.alp_worker.specs.declared.live.Stage.{Stage}
use Rattle.alp_worker.specs.declared.live.Stage.TheVariants as stage
use Rattle.alp_worker.specs.declared.room.PartSize.{PartSize}
use Rattle.alp_worker.specs.declared.room.ReadySum.{ReadySum}
use Rattle.alp_worker.specs.Lives.{phase_of, is_at, is_open, join_at, without, AreOnce}
use Rattle.alp_worker.specs.Rooms.{sum_of, sum_with}
use Rattle.alp_worker.specs.Walks.{ready_in}
use Rattle.alp_worker.proofs.LiveLemmas.{same_join-itself, stays_if, without_at, once_filter, single_filter}
use Rattle.alp_ready.specs.NoteLooks.{ready_at}
use Rattle.alp_node.specs.Noted.{AreNoted, IsNotedAs, IsNotedJoin, HasReadyRoom, ready_room, size_in}
use Rattle.alp_node.specs.Paired.{is_in, ArePaired}
use Rattle.alp_node.specs.ServerState.{IsReady, AreAlive, AreJoinsHere, IsAlive}
use Rattle.alp_node.specs.Totals.{LiveMap}
use Rattle.alp_node.specs.Waits.{AreVotersIdle}
use Rattle.alp_node.specs.declared.server_state.ServerState.{ServerState}
use Rattle.alp_node.proofs.JoinMoves.{same_some, found_number, was_there, paired_quit}

-- ---- the room of those that voted

-- it comes to no more
pub record IsNoMore (n m : ReadySum) : Type 0 where
  pub weights : n.weights ≤ m.weights
  pub greatest : n.greatest ≤ m.greatest

module _ (size : TransId → PartSize) where
  abbrev room_of : List TransId → ReadySum
  room_of ts = sum_of (list_map size ts)

  more_behind : (ts us vs : List TransId) → IsNoMore (room_of us) (room_of vs) → IsNoMore (room_of (ts ++ us)) (room_of (ts ++ vs))
  more_behind [] us vs h = h
  more_behind (t ∷ ts) us vs h = (let rest = more_behind ts us vs h in record { weights = (let low = rest.weights in omega (arith, low)); greatest = (let low = rest.greatest in omega (arith, low)) })

  more_before : (ts us vs : List TransId) → IsNoMore (room_of us) (room_of vs) → IsNoMore (room_of us) (room_of (ts ++ vs))
  more_before [] us vs h = h
  more_before (t ∷ ts) us vs h = (let rest = more_before ts us vs h in record { weights = (let low = rest.weights in omega (arith, low)); greatest = (let low = rest.greatest in omega (arith, low)) })

  pub room_fewer : (p : LiveJoin → Bool) (ls : List LiveJoin) → IsNoMore (room_of (ready_in (filter p ls))) (room_of (ready_in ls))
  room_fewer p [] = record { weights = le_refl 0; greatest = le_refl 0 }
  room_fewer p (l ∷ ls) = go (p l) (room_fewer p ls)
    where
      go : (b : Bool) → IsNoMore (room_of (ready_in (filter p ls))) (room_of (ready_in ls)) → IsNoMore (room_of (ready_in (cond {A = List LiveJoin} b (l ∷ filter p ls) (filter p ls)))) (room_of (ready_in (l ∷ ls)))
      go true rest = more_behind (trans_ready (phase_of l)) (ready_in (filter p ls)) (ready_in ls) rest
      go false rest = more_before (trans_ready (phase_of l)) (ready_in (filter p ls)) (ready_in ls) rest

pub fewer_pass : {X : Type 0} (p : X → Bool) (xs : List X) → length (filter p xs) ≤ length xs
fewer_pass p [] = le_refl 0
fewer_pass {X} p (x ∷ xs) = go (p x) (fewer_pass p xs)
  where
    go : (b : Bool) → length (filter p xs) ≤ length xs → length (cond {A = List X} b (x ∷ filter p xs) (filter p xs)) ≤ length (x ∷ xs)
    go true h = omega (arith, h)
    go false h = omega (arith, h)

-- ---- what stays

module _ {V : Type 0} (n : ℕ) (serves : Bool) (k : ServerState V) (j : JoinNo) (p : LiveJoin → Bool) (h : IsReady n serves k) where
  -- the joins without it
  abbrev pub without_join : Joins
  without_join = record k.joins { lives = without j p k.joins.lives }

  still : (i : JoinNo) (x : LiveJoin) → join_at without_join.lives i ≡ Some x → join_at k.joins.lives i ≡ Some x
  still = was_there j p k.joins.lives h.joins.once

  pub joins_left : AreJoinsHere k.server k.epoch n without_join
  joins_left = record {
    server = h.joins.server;
    epoch = h.joins.epoch;
    drawn = h.joins.drawn;
    numbered = λ i x at. h.joins.numbered i x (still i x at);
    clients = λ i x at. h.joins.clients i x (still i x at);
    once = once_filter (λ l. not (is_at j l && p l)) k.joins.lives h.joins.once;
    single = single_filter (λ l. not (is_at j l && p l)) k.joins.lives h.joins.single;
    times = λ i x ts at voted. h.joins.times i x ts (still i x at) voted;
  }

  pub idle_left : AreVotersIdle without_join.lives k.waits
  idle_left i x at voted = h.idle i x (still i x at) voted

  pub alive_left : (i : JoinNo) (x : LiveJoin) → join_at without_join.lives i ≡ Some x → IsAlive k.dead x.client x.trans
  alive_left i x at = h.alive.joins i x (still i x at)

  pub most_left : counted_of k.coordinator + length without_join.lives ≤ 64
  most_left = (let fewer : length without_join.lives ≤ length k.joins.lives = fewer_pass (λ l. not (is_at j l && p l)) k.joins.lives in omega (arith, fewer, h.most))

  pub room_left : HasReadyRoom k.sizes (ready_room k.lives without_join.lives)
  room_left = (let less = room_fewer (size_in k.lives) (λ l. not (is_at j l && p l)) k.joins.lives in let w = less.weights in let g = less.greatest in omega (arith, w, g, h.fits))

-- ---- one that is found

module _ (joins : Joins) (j : JoinNo) (y : LiveJoin) (p : LiveJoin → Bool) (once : AreOnce joins.lives) (there : join_at joins.lives j ≡ Some y) (so : p y ≡ true) where
  -- it is gone
  pub join_gone : join_at (without j p joins.lives) j ≡ None
  join_gone =
      without_at j j p joins.lives once ∙ ap (stays_if p j) there
      ∙ ap (λ (b : Bool). cond {A = Option LiveJoin} b None (Some y)) ((λ i. (ap (same_join j) (sym (found_number joins.lives j y there)) ∙ same_join-itself j) i && so i))

  -- it has no note where it had not voted, and the others have theirs
  pub noted_left : (lives : LiveMap) (server servers epoch : ℕ) (c : Coordinator) (notes : Notes) → is_open y.stage ≡ true → AreNoted server servers epoch lives joins c notes → AreNoted server servers epoch lives (record joins { lives = without j p joins.lives }) c notes
  noted_left lives server servers epoch c notes early h = record {
    epoch = h.epoch;
    ready = λ i fits. at i (same_join j i) refl (ready_at notes i) (h.ready i fits);
    decided = h.decided;
    format = h.format;
  }
    where
      unvoted : (s : Stage) → is_open s ≡ true → (x : Option ReadyPart) → IsNotedAs lives y s x → x ≡ None
      unvoted (stage.Joining who) e x h = h
      unvoted (stage.Active who) e x h = h
      unvoted (stage.Ready ts) e x h = let wrong : false ≡ true = e in cc

      at : (i : JoinNo) (b : Bool) → same_join j i ≡ b → (x : Option ReadyPart) → IsNotedJoin lives (join_at joins.lives i) x → IsNotedJoin lives (join_at (without j p joins.lives) i) x
      at i true e x h =
          subst (λ (o : Option LiveJoin). IsNotedJoin lives o x) (sym (ap (join_at (without j p joins.lives)) (sym (same_join-true j i e)) ∙ join_gone))
          (unvoted y.stage early x (subst (λ (o : Option LiveJoin). IsNotedJoin lives o x) (ap (join_at joins.lives) (sym (same_join-true j i e)) ∙ there) h))
      at i false e x h = subst (λ (o : Option LiveJoin). IsNotedJoin lives o x) (sym (without_at j i p joins.lives once ∙ as_was (join_at joins.lives i) refl)) h
        where
          as_was : (o : Option LiveJoin) → join_at joins.lives i ≡ o → stays_if p j o ≡ o
          as_was None is = refl
          as_was (Some z) is = ap (λ (b : Bool). cond {A = Option LiveJoin} (b && p z) None (Some z)) (ap (same_join j) (sym (found_number joins.lives i z is)) ∙ e)

  -- the word of one that was not let in is of no part here
  pub paired_left : (servers here : ℕ) (c : Coordinator) (lives : LiveMap) → is_in y.stage ≡ false → ArePaired servers here c joins lives → ArePaired servers here c (record joins { lives = without j p joins.lives }) lives
  paired_left servers here c lives out h = paired_quit servers here c joins lives j p once (λ x at. ap (λ (z : LiveJoin). is_in z.stage) (same_some x y (sym at ∙ there)) ∙ out) h
