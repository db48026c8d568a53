-- refusals and ends, as the server keeps them
use Rattle.std.specs.Prelude.{cond, Bool, true, false, ◌==◌, ◌&&◌, not, Option, None, Some, is_some}
use Rattle.std.specs.List.{AllByRecursion}
use Rattle.std.specs.FinMap as map
use Rattle.std.proofs.Common.{◌≡◌, ℕ, List, [], refl, sym, ◌∙◌, ap, subst, inl, inr, eq-eqb, arith}
use Rattle.std.proofs.lemmas.Bool.{ne_eqb}
use Rattle.alp_base.specs.declared.ids.JoinNo.{JoinNo}
use Rattle.alp_base.specs.declared.ids.TransId.{TransId}
use Rattle.alp_files.specs.declared.call.Call.TheVariants as call
use Rattle.alp_files.specs.declared.reply.Reply.{Reply}
use Rattle.alp_files.specs.declared.reply.Reply.TheVariants as reply
use Rattle.alp_files.specs.declared.refusal.Refusal.TheVariants as refusal
use Rattle.alp_files.specs.declared.refusal.Cause.{Cause}
use Rattle.alp_files.specs.declared.refusal.Cause.TheVariants as cause
use Rattle.alp_vault.specs.Contents.{Contents}
use Rattle.alp_journal.specs.declared.event.Event.TheVariants as event
use Rattle.alp_journal.specs.Along.{Where}
use Rattle.alp_journal.specs.Ids.{same_trans}
use Rattle.alp_journal.specs.Coordinator.{Fate, Vote, Undrawn, Finishing}
use Rattle.alp_journal.specs.Desk.{Session, is_of_part, waiting_of, without}
use Rattle.alp_journal.specs.Answers.{Part, NoPart, AtWork, AtFinish, AtReady, AtEnd, part_at, at_part, First, IsFinishAnswer, finish_reply}
use Rattle.alp_journal.specs.Account.{Account, state_of, IsQuiet, Leads}
use Rattle.alp_journal.proofs.RefusedCalls.{counted_as, without_dead, unknown_finish_leads, dead_finish_leads, finishing_finish_leads}
use Rattle.alp_journal.proofs.PartLemmas.{own_part_at}
use Rattle.alp_journal.proofs.StandLemmas.{no_own_join}
use Rattle.alp_journal.proofs.QuietLemmas.{quiet_told, quiet_forgotten}
use Rattle.alp_turns.proofs.MoveLemmas.{GoesIdle, queue_without}
use Rattle.alp_node.specs.Dead.{without_part}
use Rattle.alp_node.specs.ServerState.{IsAs, IsReady, IsWaitingAs}
use Rattle.alp_coord.specs.Coordinators.{count_of}
use Rattle.alp_node.specs.Steps.{Stepped, IsTurn, counted_in, refused_answer}
use Rattle.alp_node.specs.Waits.{is_of, without_calls_of}
use Rattle.alp_node.specs.declared.waits.WaitingCall.{WaitingCall}
use Rattle.alp_node.proofs.GoneLemmas.{named_each, calls_gone, each_left, idle_calls}
use Rattle.alp_node.specs.declared.answer.Answer.{Answer}
use Rattle.alp_node.specs.declared.server_state.ServerState.{ServerState}
use Rattle.alp_node.specs.declared.sessions.Turn.{Turn}
use Rattle.alp_node.proofs.BesideLemmas.{AreNamed}
use Rattle.alp_node.proofs.DeadLemmas.{part_left}
use Rattle.alp_node.proofs.KeptLemmas.{sessions_as, session_of, session_then, stands_timely, none_live, stepped_so}
use Rattle.alp_node.specs.Standings.{standing_of}
use Rattle.alp_node.specs.declared.served.Standing.TheVariants as standing
use Rattle.alp_node.proofs.StandingLemmas.{EndsNone, ends_none, ended_idle, own_finishes, own_not_ready, part_told, ended_gone}
use Rattle.alp_node.proofs.NotedLemmas.{notes_on}
use Rattle.alp_node.proofs.TransactionLemmas.{undrawn_of_other}
use Rattle.alp_node.proofs.MapLemmas.{places_set}

-- ---- what stays

module _ {V : Type 0} (a : Account) (held : Contents) (k : ServerState V) where
  -- the session of a turn is the journal's
  pub turn_session : (turn : Turn) → IsAs a held k → (is : IsTurn k.sessions turn) → a.sessions turn.client ≡ Some (session_of turn is)
  turn_session turn h is = h.sessions turn.client ∙ is.session

  -- that goes on
  pub turn_quiet : (turn : Turn) (r : Reply) (h : IsAs a held k) (is : IsTurn k.sessions turn) → IsQuiet (counted_as a turn.client turn.number (session_of turn is) r)
  turn_quiet turn r h is = quiet_told a turn.client (session_of turn is) (record (session_of turn is) { last = turn.number; reply = r }) (turn_session turn h is) (omega (arith, is.number)) h.quiet

  -- a state in which only the session counts on is that of a server in which it does
  pub counts_as : (turn : Turn) (r : Reply) (h : IsAs a held k) (is : IsTurn k.sessions turn) → k.is_down ≡ false
      → IsAs (counted_as a turn.client turn.number (session_of turn is) r) held (record k { sessions = counted_in k.sessions turn r })
  counts_as turn r h is up = record {
    server = h.server;
    sizes = h.sizes;
    epoch = h.epoch;
    clock = h.clock;
    cells = h.cells;
    sized = h.sized;
    notes = λ on. notes_on (state_of a) (state_of (counted_as a turn.client turn.number (session_of turn is) r)) a.ids.epoch held.notes refl refl refl (λ t. refl) (λ j x q. q) (h.notes on);
    places = places_set k.sessions turn.client (session_then turn r) h.places;
    sessions = sessions_as a.sessions k.sessions turn.client (session_then turn r) h.sessions h.places is.client;
    dead = h.dead;
    waits = h.waits;
    queue = h.queue;
    asked = h.asked;
    lives = h.lives;
    room = h.room;
    unborn = h.unborn;
    coordinator = h.coordinator;
    decided = h.decided;
    servers = h.servers;
    joins = h.joins;
    files = h.files;
    made = h.made;
    born = h.born;
    earlier = h.earlier;
    quiet = turn_quiet turn r h is;
    down = sym up;
  }

-- ---- a Finish that ends nothing

module _ {V : Type 0} (a : Account) (before now : ℕ) (held : Contents) (k : ServerState V) (turn : Turn) (t : TransId) (commit : Bool) where
  -- what is answered where the server has no part of it
  no_part_answer : IsAs a held k → standing_of k turn.client t ≡ standing.Unknown → IsFinishAnswer false (state_of a) turn.client t commit (reply.Refused refusal.UnknownTrans)
  no_part_answer h unknown = go (t.server == a.holder.server)
    where
      part : part_at (state_of a) turn.client t ≡ NoPart
      part = part_told a held k turn.client t h standing.Unknown unknown

      go : (b : Bool) → Where b (First (at_part (commit && is_some (waiting_of (state_of a).desk turn.client t)) (part_at (state_of a) turn.client t)) (reply.Refused refusal.UnknownTrans)
          (reply.Refused refusal.UnknownTrans ≡ cond {A = Reply} commit (finish_reply false (state_of a) t (a.fates t)) (reply.Refused (refusal.Aborted cause.Asked))))
          (reply.Refused refusal.UnknownTrans ≡ reply.Refused refusal.UnknownTrans)
      go true = subst (λ (p : Part). First (at_part (commit && is_some (waiting_of (state_of a).desk turn.client t)) p) (reply.Refused refusal.UnknownTrans)
          (reply.Refused refusal.UnknownTrans ≡ cond {A = Reply} commit (finish_reply false (state_of a) t (a.fates t)) (reply.Refused (refusal.Aborted cause.Asked)))) (sym part) refl
      go false = refl

  -- another server's transaction is none of this one's
  elsewhere_answer : (t.server == a.holder.server) ≡ false → IsFinishAnswer false (state_of a) turn.client t commit (reply.Refused refusal.UnknownTrans)
  elsewhere_answer away = subst (λ (b : Bool). Where b (First (at_part (commit && is_some (waiting_of (state_of a).desk turn.client t)) (part_at (state_of a) turn.client t)) (reply.Refused refusal.UnknownTrans)
      (reply.Refused refusal.UnknownTrans ≡ cond {A = Reply} commit (finish_reply false (state_of a) t (a.fates t)) (reply.Refused (refusal.Aborted cause.Asked))))
      (reply.Refused refusal.UnknownTrans ≡ reply.Refused refusal.UnknownTrans)) (sym away) refl

  unknown_so : (x : Answer) (h : IsAs a held k) (is : IsTurn k.sessions turn) → k.is_down ≡ false → EndsNone turn.client t commit (state_of a).desk (reply.Refused refusal.UnknownTrans) (a.fates t)
      → IsFinishAnswer false (state_of a) turn.client t commit (reply.Refused refusal.UnknownTrans) → x ≡ refused_answer refusal.UnknownTrans []
      → Stepped a before now held (record k { sessions = counted_in k.sessions turn (reply.Refused refusal.UnknownTrans) }) (event.Call turn.client k.epoch turn.number (call.Finish t commit)) x
  unknown_so x h is up none why so =
      let w : Session = session_of turn is in
      stepped_so a before now held held k (record k { sessions = counted_in k.sessions turn (reply.Refused refusal.UnknownTrans) }) turn.client turn.number w (call.Finish t commit) false (reply.Refused refusal.UnknownTrans) []
      (counted_as a turn.client turn.number w (reply.Refused refusal.UnknownTrans)) x so h
      (unknown_finish_leads a turn.client turn.number w t commit h.quiet (h.down ∙ up) (turn_session a held k turn h is) is.number none.deeds (none.mail true) why)
      (counts_as a held k turn (reply.Refused refusal.UnknownTrans) h is up) (λ e. cc) (stands_timely a.holder.clock 0 k.clock h.clock)

  -- nothing ends where the client has no part of it at work
  none_ends : (r : Reply) (p : Part) → IsAs a held k → t.server ≡ k.server → part_at (state_of a) turn.client t ≡ p → (p ≡ AtWork → ⊥) → EndsNone turn.client t commit (state_of a).desk r (a.fates t)
  none_ends r p h here is not_work =
      ends_none turn.client t commit (state_of a).desk r (a.dead turn.client t) (a.fates t) (λ e. not_work (sym is ∙ own_part_at a t turn.client (here ∙ sym h.server) ∙ e))

  pub unknown_stepped : (x : Answer) → IsAs a held k → IsTurn k.sessions turn → k.is_down ≡ false → t.server ≡ k.server → standing_of k turn.client t ≡ standing.Unknown
      → x ≡ refused_answer refusal.UnknownTrans []
      → Stepped a before now held (record k { sessions = counted_in k.sessions turn (reply.Refused refusal.UnknownTrans) }) (event.Call turn.client k.epoch turn.number (call.Finish t commit)) x
  unknown_stepped x h is up here unknown so =
      unknown_so x h is up (none_ends (reply.Refused refusal.UnknownTrans) NoPart h here (part_told a held k turn.client t h standing.Unknown unknown) (λ e. let wrong : NoPart ≡ AtWork = e in cc)) (no_part_answer h unknown) so

  pub elsewhere_stepped : (x : Answer) → IsAs a held k → IsTurn k.sessions turn → k.is_down ≡ false → (t.server ≡ k.server → ⊥)
      → x ≡ refused_answer refusal.UnknownTrans []
      → Stepped a before now held (record k { sessions = counted_in k.sessions turn (reply.Refused refusal.UnknownTrans) }) (event.Call turn.client k.epoch turn.number (call.Finish t commit)) x
  elsewhere_stepped x h is up away so =
      let far : (t.server == a.holder.server) ≡ false = ne_eqb t.server a.holder.server (λ e. away (e ∙ h.server)) in
      unknown_so x h is up (subst (EndsNone turn.client t commit (state_of a).desk (reply.Refused refusal.UnknownTrans)) (sym (undrawn_of_other a h.quiet.settled.stands t far))
      (ends_none turn.client t commit (state_of a).desk (reply.Refused refusal.UnknownTrans) (a.dead turn.client t) Undrawn (ended_idle (a.dead turn.client t))))
      (elsewhere_answer far) so

  -- it is being finished already
  pub finishing_stepped : (x : Answer) → IsAs a held k → IsTurn k.sessions turn → k.is_down ≡ false → t.server ≡ k.server → standing_of k turn.client t ≡ standing.Finishing
      → x ≡ refused_answer refusal.Finishing []
      → Stepped a before now held (record k { sessions = counted_in k.sessions turn (reply.Refused refusal.Finishing) }) (event.Call turn.client k.epoch turn.number (call.Finish t commit)) x
  finishing_stepped x h is up here finishes so =
      let w : Session = session_of turn is in
      let r : Reply = reply.Refused refusal.Finishing in
      let own : t.server ≡ a.holder.server = here ∙ sym h.server in
      let fate : (js : List JoinNo) × (vs : List Vote) × (a.fates t ≡ Finishing turn.client js vs) = elim (part_told a held k turn.client t h standing.Finishing finishes) [
        | inl e ↦ own_finishes turn.client (a.dead turn.client t) (a.fates t) (sym (own_part_at a t turn.client own) ∙ e)
        | inr e ↦ absurd (own_not_ready turn.client (a.dead turn.client t) (a.fates t) (sym (own_part_at a t turn.client own) ∙ e))
      ] in
      stepped_so a before now held held k (record k { sessions = counted_in k.sessions turn r }) turn.client turn.number w (call.Finish t commit) false r [] (counted_as a turn.client turn.number w r) x so h
      (finishing_finish_leads a turn.client turn.number w t commit fate.0 fate.1 h.quiet (h.down ∙ up) (turn_session a held k turn h is) is.number own fate.2)
      (counts_as a held k turn r h is up) (λ e. cc) (stands_timely a.holder.clock 0 k.clock h.clock)

  -- it ended, and its client is told why
  pub dead_stepped : (m : ℕ) (on : Bool) (c : Cause) (x : Answer) → IsAs a held k → IsReady m on k → IsTurn k.sessions turn → k.is_down ≡ false → t.server ≡ k.server → standing_of k turn.client t ≡ standing.Ended c
      → x ≡ refused_answer (refusal.Aborted c) []
      → Stepped a before now held (record k { sessions = counted_in k.sessions turn (reply.Refused (refusal.Aborted c)); dead = without_part turn.client t k.dead; waits = without_calls_of turn.client t k.waits }) (event.Call turn.client k.epoch turn.number (call.Finish t commit)) x
  dead_stepped m on c x h ready is up here dead so =
      let w : Session = session_of turn is in
      let named : AreNamed k.waits = named_each k.server k.epoch k.given (count_of k.coordinator) k.sizes k.lives k.waits ready.waits.calls in
      let gone : a.holder.lives t ≡ None = none_live a.holder.cells k.locks.held (a.locked t) t (map.get k.lives t) (a.holder.lives t) (ended_gone m on k turn.client t c ready here dead) (h.lives t) in
      let r : Reply = reply.Refused (refusal.Aborted c) in
      let part : part_at (state_of a) turn.client t ≡ AtEnd c = part_told a held k turn.client t h (standing.Ended c) dead in
      let none : EndsNone turn.client t commit (state_of a).desk r (a.fates t) = none_ends r (AtEnd c) h here part (λ e. let wrong : AtEnd c ≡ AtWork = e in cc) in
      let why : IsFinishAnswer false (state_of a) turn.client t commit r = subst (λ (b : Bool). Where b (First (at_part (commit && is_some (waiting_of (state_of a).desk turn.client t)) (part_at (state_of a) turn.client t)) r
      (r ≡ cond {A = Reply} commit (finish_reply false (state_of a) t (a.fates t)) (reply.Refused (refusal.Aborted cause.Asked))))
      (r ≡ reply.Refused refusal.UnknownTrans)) (sym (eq-eqb t.server a.holder.server (here ∙ sym h.server)))
      (subst (λ (p : Part). First (at_part (commit && is_some (waiting_of (state_of a).desk turn.client t)) p) r (r ≡ cond {A = Reply} commit (finish_reply false (state_of a) t (a.fates t)) (reply.Refused (refusal.Aborted cause.Asked)))) (sym part) refl) in
      let now_as : IsAs (counted_as a turn.client turn.number w r) held (record k { sessions = counted_in k.sessions turn r }) = counts_as a held k turn r h is up in
      stepped_so a before now held held k (record k { sessions = counted_in k.sessions turn (reply.Refused (refusal.Aborted c)); dead = without_part turn.client t k.dead; waits = without_calls_of turn.client t k.waits }) turn.client turn.number w (call.Finish t commit) false r []
      (without_dead a turn.client turn.number w t (counted_as a turn.client turn.number w r)) x so h
      (dead_finish_leads a turn.client turn.number w t commit c h.quiet (h.down ∙ up) (turn_session a held k turn h is) is.number none.deeds (none.mail true) why)
      (record {
        server = h.server;
        sizes = h.sizes;
        epoch = h.epoch;
        clock = h.clock;
        cells = h.cells;
        sized = h.sized;
        notes = λ on. notes_on (state_of a) (state_of (without_dead a turn.client turn.number w t (counted_as a turn.client turn.number w r))) a.ids.epoch held.notes refl refl refl (λ u. refl) (λ j x q. q) (h.notes on);
        places = now_as.places;
        sessions = now_as.sessions;
        dead = λ d u. ap (cond {A = Option Cause} (d == turn.client && same_trans u t) None) (h.dead d u) ∙ part_left k.dead turn.client t d u;
        waits = ap (without (is_of_part turn.client t)) h.waits ∙ calls_gone turn.client t k.waits named;
        queue = h.queue ∙ sym (queue_without a.holder k.locks.held (is_of_part turn.client t) a.waits (subst (AllByRecursion (GoesIdle a.holder k.locks.held (is_of_part turn.client t))) (sym h.waits) (idle_calls a.holder k.locks.held turn.client t gone k.waits named)));
        asked = each_left (IsWaitingAs a.holder a.locked) (λ (v : WaitingCall). not (is_of turn.client t v)) k.waits h.asked;
        lives = h.lives;
        room = h.room;
        unborn = h.unborn;
        coordinator = h.coordinator;
        decided = h.decided;
        servers = h.servers;
        joins = h.joins;
        files = h.files;
        made = h.made;
        born = h.born;
        earlier = h.earlier;
        quiet = quiet_forgotten turn.client t (counted_as a turn.client turn.number w r) (no_own_join a h.quiet.settled.stands t (here ∙ sym h.server) turn.client) refl now_as.quiet;
        down = sym up;
      })
      (λ e. cc) (stands_timely a.holder.clock 0 k.clock h.clock)
