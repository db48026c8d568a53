-- joins, as the server keeps them
use Rattle.std.specs.Prelude.{cond, Bool, true, false, not, IsTrue, IsSome, ◌==◌, ◌||◌, ◌&&◌, find, nat_le, Option, None, Some, is_some, Ok}
use Rattle.std.specs.List.{AllByRecursion}
use Rattle.std.proofs.Common.{inl, inr, ◌≡◌, ℕ, ◌+◌, ◌<◌, ◌≤◌, List, [], ◌∷◌, ◌++◌, length, le_refl, refl, sym, ◌∙◌, ap, subst, arith, eq-eqb}
use Rattle.std.proofs.lemmas.Bool.{eqb-true}
use Rattle.alp_base.specs.declared.ids.JoinNo.{JoinNo}
use Rattle.alp_base.specs.declared.ids.TransId.{TransId}
use Rattle.alp_files.specs.declared.call.Call.TheVariants as call
use Rattle.alp_files.specs.declared.refusal.Cause.{Cause}
use Rattle.alp_files.specs.declared.refusal.Refusal.{Refusal}
use Rattle.alp_files.specs.declared.refusal.Refusal.TheVariants as refusal
use Rattle.alp_files.specs.declared.refusal.What.TheVariants as what
use Rattle.alp_files.specs.declared.reply.Reply.{Reply}
use Rattle.alp_files.specs.declared.reply.Reply.TheVariants as reply
use Rattle.alp_vault.specs.Contents.{Contents}
use Rattle.alp_vault.specs.declared.vault.Vault.{Ghosts}
use Rattle.alp_journal.specs.declared.event.Event.TheVariants as event
use Rattle.alp_journal.specs.Account.{Account, state_of, Stands, IsJoined, IsPartAs, sent_acts}
use Rattle.alp_journal.specs.Answers.{Part, NoPart, AtJoining, AtWork, AtFinish, AtReady, AtEnd, part_at, is_no_part, join_reply, own_part}
use Rattle.alp_journal.specs.Answered.{is_read_fault}
use Rattle.alp_journal.specs.Coordinator.{Fate, Undrawn, Running, Finishing, Committed, Forgotten, Ended, client_of}
use Rattle.alp_journal.specs.Deeds as deed
use Rattle.alp_journal.specs.Desk.{Session, Waiting, is_not_yet, waiting_of}
use Rattle.alp_journal.specs.Holder.{Life}
use Rattle.alp_journal.specs.Moves.{next_join}
use Rattle.alp_journal.specs.State.{is_other_server, state_deed}
use Rattle.alp_journal.proofs.BeginCalls.{with_buried_as, unburied, buried_quiet}
use Rattle.alp_journal.proofs.JoinSteps.{DrawOwes, register_mail, with_join, join_drawn_leads, join_refused_leads}
use Rattle.alp_journal.proofs.KnownJoins.{HasNoLife, JoinOwes, join_unknown_leads, join_known_leads}
use Rattle.alp_journal.proofs.PartLemmas.{own_part_at}
use Rattle.alp_journal.proofs.RefusedCalls.{counted_as}
use Rattle.alp_journal.proofs.StandLemmas.{pair_of, own_pair, own_here, holding_of, far_of_held, not_both_servers}
use Rattle.alp_worker.specs.declared.live.LiveJoin.{LiveJoin}
use Rattle.alp_worker.specs.declared.live.Stage.{Stage}
use Rattle.alp_worker.specs.declared.live.Stage.TheVariants as stage
use Rattle.alp_worker.specs.Joins.{AreJoinsOf, next_of, with_drawn}
use Rattle.alp_worker.specs.Lives.{part_of}
use Rattle.alp_coord.specs.Coordinators.{fate_in}
use Rattle.alp_journal.proofs.IdLemmas.{all-append}
use Rattle.alp_node.specs.Dead.{cause_in}
use Rattle.alp_node.specs.Draws.{join_call, with_joining}
use Rattle.alp_node.specs.Halts.{says_shut}
use Rattle.alp_node.specs.Says.{is_away}
use Rattle.alp_node.specs.Releases.{buried}
use Rattle.alp_node.specs.ServerState.{IsAs, IsWaitingAs}
use Rattle.alp_node.specs.Standings.{standing_of, is_no_standing, joined_standing, own_standing, stage_standing}
use Rattle.alp_node.specs.Steps.{Stepped, IsStep, IsTurn, counted_in, told_answer, refused_answer}
use Rattle.alp_node.specs.Turns.{IsKeepable, TellsRun}
use Rattle.alp_node.specs.Waits.{without_dead, waiting}
use Rattle.alp_node.specs.declared.answer.Answer.{Answer}
use Rattle.alp_node.specs.declared.lock_counts.LockCounts.{LockCounts}
use Rattle.alp_node.specs.declared.server_state.ServerState.{ServerState}
use Rattle.alp_node.specs.declared.served.Standing.{Standing}
use Rattle.alp_node.specs.declared.served.Standing.TheVariants as standing
use Rattle.alp_node.specs.declared.sessions.Turn.{Turn}
use Rattle.alp_node.specs.declared.waits.WaitingCall.{WaitingCall}
use Rattle.alp_node.proofs.BesideLemmas.{AreNamed}
use Rattle.alp_node.proofs.EndLemmas.{buried_kept, buried_as, many_of, many_told}
use Rattle.alp_node.proofs.FinishLemmas.{turn_session, counts_as}
use Rattle.alp_node.proofs.KeptLemmas.{session_of, stands_timely, stepped_so}
use Rattle.alp_node.proofs.NoteCalls.{call_notes}
use Rattle.alp_node.proofs.OtherLemmas.{told_last, queue_other}
use Rattle.alp_node.proofs.ReadyLemmas.{buried_told_ready}
use Rattle.alp_node.proofs.StandingLemmas.{IsPartFor, standing_told, part_told, joining_waits}
use Rattle.alp_node.proofs.StepLemmas.{plain_step}
use Rattle.alp_node.proofs.TurnLemmas.{counts_on}

-- ---- who has no part

-- where the client has none by what the server keeps it has none by the journal
none_for : (s : Standing) (p : Part) → IsPartFor s p → is_no_standing s ≡ true → is_no_part p ≡ true
none_for standing.Unknown p is none = ap is_no_part is
none_for (standing.Ended c) p is none = ap is_no_part is
none_for standing.Joining p is none = let wrong : false ≡ true = none in cc
none_for standing.Work p is none = let wrong : false ≡ true = none in cc
none_for standing.Finishing p is none = let wrong : false ≡ true = none in cc

-- whose part lives has one
own_parted : (client : ℕ) (d : Option Cause) (f : Fate) → client_of f ≡ Some client → is_no_part (own_part client d f) ≡ false
own_parted client d Undrawn e = let wrong : None ≡ Some client = e in cc
own_parted client d (Running c js) e = ap (λ (b : Bool). is_no_part (cond {A = Part} b AtWork NoPart)) (eq-eqb c client (same c client e))
  where
    same : (m n : ℕ) → Some m ≡ Some n → m ≡ n
    same m n e = cc
own_parted client d (Finishing c js vs) e = ap (λ (b : Bool). is_no_part (cond {A = Part} b AtFinish NoPart)) (eq-eqb c client (same c client e))
  where
    same : (m n : ℕ) → Some m ≡ Some n → m ≡ n
    same m n e = cc
own_parted client d (Committed s js ds) e = let wrong : None ≡ Some client = e in cc
own_parted client d (Forgotten s js) e = let wrong : None ≡ Some client = e in cc
own_parted client d (Ended c) e = let wrong : None ≡ Some client = e in cc

none_lives_here : (a : Account) (client : ℕ) (t : TransId) → Stands a → is_other_server (state_of a) t.server ≡ false → is_no_part (part_at (state_of a) client t) ≡ true → HasNoLife a client t
none_lives_here a client t q near none l live own = go l.join refl (pair_of a q t l live)
  where
    go : (x : Option JoinNo) → l.join ≡ x → IsPartAs t a.phases l (a.fates t) x → ⊥
    go None e h =
        let here : t.server ≡ a.holder.server = own_here a q t l live e in
        let wrong : true ≡ false = sym none ∙ ap is_no_part (own_part_at a t client here) ∙ own_parted client (a.dead client t) (a.fates t) (h.0 ∙ ap Some own) in
        cc
    go (Some j) e h =
        let wrong : false ≡ true = sym near ∙ far_of_held a.servers a.holder.server a.ids.epoch a.ids.joins a.joined j t (a.phases j) (holding_of t l (a.phases j) h.0) (q.phases j) in
        cc

-- nor is a join kept
pub none_kept : {V : Type 0} (k : ServerState V) (client : ℕ) (t : TransId) → (t.server == k.server) ≡ false → is_no_standing (standing_of k client t) ≡ true → part_of client t k.joins.lives ≡ None
none_kept k client t far none = go (part_of client t k.joins.lives) (sym (ap (λ (b : Bool). is_no_standing (cond {A = Standing} b (own_standing client (cause_in k.dead client t) (fate_in k.coordinator t)) (joined_standing (cause_in k.dead client t) (part_of client t k.joins.lives)))) far) ∙ none)
  where
    stands : (s : Stage) → is_no_standing (stage_standing s) ≡ true → ⊥
    stands (stage.Joining who) e = let wrong : false ≡ true = e in cc
    stands (stage.Active who) e = let wrong : false ≡ true = e in cc
    stands (stage.Ready ts) e = let wrong : false ≡ true = e in cc

    go : (x : Option LiveJoin) → is_no_standing (joined_standing (cause_in k.dead client t) x) ≡ true → x ≡ None
    go None e = refl
    go (Some y) e = absurd (stands y.stage e)

-- another server of the run is not this one
pub far_from : {V : Type 0} (k : ServerState V) (n : ℕ) → is_away k n ≡ true → (n == k.server) ≡ false
far_from k n away = go (n == k.server) refl
  where
    go : (b : Bool) → (n == k.server) ≡ b → b ≡ false
    go false e = refl
    go true e = absurd (not_both_servers k.servers k.server n away (eqb-true n k.server e))

-- ---- steps

module _ {V : Type 0} (a : Account) (before now : ℕ) (held : Contents) (k : ServerState V) (turn : Turn) (t : TransId) where
  -- the client has no part of it here, and nobody can be asked for one
  pub join_unknown_stepped : (x : Answer) → IsAs a held k → IsTurn k.sessions turn → k.is_down ≡ false → is_no_standing (standing_of k turn.client t) ≡ true → is_other_server (state_of a) t.server ≡ false → x ≡ refused_answer refusal.UnknownTrans []
      → Stepped a before now held (record k { sessions = counted_in k.sessions turn (reply.Refused refusal.UnknownTrans) }) (event.Call turn.client k.epoch turn.number (call.Join t)) x
  join_unknown_stepped x h is up none near so =
      let w : Session = session_of turn is in
      let r : Reply = reply.Refused refusal.UnknownTrans in
      stepped_so a before now held held k (record k { sessions = counted_in k.sessions turn r }) turn.client turn.number w (call.Join t) false r [] (counted_as a turn.client turn.number w r) x so h
      (join_unknown_leads a turn.client turn.number w t h.quiet (h.down ∙ up) (turn_session a held k turn h is) is.number near
      (none_lives_here a turn.client t h.quiet.settled.stands near (none_for (standing_of k turn.client t) (part_at (state_of a) turn.client t) (standing_told a held k turn.client t h) none)))
      (counts_as a held k turn r h is up) (λ e. cc) (stands_timely a.holder.clock 0 k.clock h.clock)

  -- it has one
  module _ (h : IsAs a held k) (is : IsTurn k.sessions turn) (up : k.is_down ≡ false) (named : AreNamed k.waits) where
    known_stepped : (r : Reply) (x : Answer) (p : Part) → part_at (state_of a) turn.client t ≡ p → is_no_part p ≡ false → r ≡ join_reply (is_some (waiting_of (state_of a).desk turn.client t)) p
        → (is_not_yet r ≡ true → IsSome (waiting_of (state_of a).desk turn.client t)) → x ≡ told_answer (Some r) []
        → Stepped a before now held (buried_kept a held k turn.client turn.number (session_of turn is) r) (event.Call turn.client k.epoch turn.number (call.Join t)) x
    known_stepped r x p part some reply_is waits so =
        let w : Session = session_of turn is in
        let leads = join_known_leads a turn.client turn.number w t (record { quiet = h.quiet; up = h.down ∙ up; there = turn_session a held k turn h is; turn = is.number; part = ap is_no_part part ∙ some }) r
        (reply_is ∙ ap (join_reply (is_some (waiting_of (state_of a).desk turn.client t))) (sym part)) waits in
        stepped_so a before now held held k (buried_kept a held k turn.client turn.number w r) turn.client turn.number w (call.Join t) false r [] (with_buried_as a turn.client turn.number w r) x so h leads
        (buried_as a held k turn.client turn.number w r h is.client up named leads.quiet) (λ e. cc) (stands_timely a.holder.clock 0 k.clock h.clock)

    -- a call of it waits, or is to be collected
    pub join_busy_stepped : (x : Answer) → standing_of k turn.client t ≡ standing.Work → IsSome (waiting_of (state_of a).desk turn.client t) → x ≡ refused_answer refusal.NotYet []
        → Stepped a before now held (buried_kept a held k turn.client turn.number (session_of turn is) (reply.Refused refusal.NotYet)) (event.Call turn.client k.epoch turn.number (call.Join t)) x
    join_busy_stepped x works busy so =
        known_stepped (reply.Refused refusal.NotYet) x AtWork (part_told a held k turn.client t h standing.Work works) refl (sym (ap (λ (b : Bool). join_reply b AtWork) busy)) (λ e. busy) so

    pub join_stepped : (x : Answer) → standing_of k turn.client t ≡ standing.Work → waiting_of (state_of a).desk turn.client t ≡ None → x ≡ told_answer (Some reply.Joined) []
        → Stepped a before now held (buried_kept a held k turn.client turn.number (session_of turn is) reply.Joined) (event.Call turn.client k.epoch turn.number (call.Join t)) x
    join_stepped x works idle so =
        known_stepped reply.Joined x AtWork (part_told a held k turn.client t h standing.Work works) refl (sym (ap (λ (y : Option Waiting). join_reply (is_some y) AtWork) idle)) (λ e. let wrong : false ≡ true = e in cc) so

    -- it is being finished, or voted
    pub join_finishing_stepped : (x : Answer) → standing_of k turn.client t ≡ standing.Finishing → x ≡ refused_answer refusal.Finishing []
        → Stepped a before now held (buried_kept a held k turn.client turn.number (session_of turn is) (reply.Refused refusal.Finishing)) (event.Call turn.client k.epoch turn.number (call.Join t)) x
    join_finishing_stepped x finishes so = elim (part_told a held k turn.client t h standing.Finishing finishes) [
      | inl e ↦ known_stepped (reply.Refused refusal.Finishing) x AtFinish e refl refl (λ e. let wrong : false ≡ true = e in cc) so
      | inr e ↦ known_stepped (reply.Refused refusal.Finishing) x AtReady e refl refl (λ e. let wrong : false ≡ true = e in cc) so
    ]

    -- it asks to be let in
    pub join_joining_stepped : (x : Answer) → standing_of k turn.client t ≡ standing.Joining → x ≡ refused_answer refusal.NotYet []
        → Stepped a before now held (buried_kept a held k turn.client turn.number (session_of turn is) (reply.Refused refusal.NotYet)) (event.Call turn.client k.epoch turn.number (call.Join t)) x
    join_joining_stepped x joins so =
        let part : part_at (state_of a) turn.client t ≡ AtJoining = part_told a held k turn.client t h standing.Joining joins in
        known_stepped (reply.Refused refusal.NotYet) x AtJoining part refl refl (λ e. joining_waits a turn.client t h.quiet.settled part) so

  -- ---- a part is to be made

  module _ (h : IsAs a held k) (is : IsTurn k.sessions turn) (up : k.is_down ≡ false) (named : AreNamed k.waits) (raised : 0 < k.epoch) (none : is_no_standing (standing_of k turn.client t) ≡ true) (far : is_other_server (state_of a) t.server ≡ true) where
    abbrev w : Session
    w = session_of turn is

    draw_owes : DrawOwes a turn.client turn.number w t
    draw_owes = record {
      quiet = h.quiet;
      up = h.down ∙ up;
      there = turn_session a held k turn h is;
      turn = is.number;
      raised = subst (λ (n : ℕ). 0 < n) (sym h.epoch) raised;
      none = none_for (standing_of k turn.client t) (part_at (state_of a) turn.client t) (standing_told a held k turn.client t h) none;
      far = far;
    }

    -- as many transactions count as may be
    pub join_many_stepped : (x : Answer) → many_of k ≡ Some (refusal.TooMany what.Transactions 64) → x ≡ refused_answer (refusal.TooMany what.Transactions 64) []
        → Stepped a before now held (buried_kept a held k turn.client turn.number w (reply.Refused (refusal.TooMany what.Transactions 64))) (event.Call turn.client k.epoch turn.number (call.Join t)) x
    join_many_stepped x many so =
        let f : Refusal = refusal.TooMany what.Transactions 64 in
        let leads = join_refused_leads a turn.client turn.number w t f draw_owes (many_told a held k h ∙ many) in
        stepped_so a before now held held k (buried_kept a held k turn.client turn.number w (reply.Refused f)) turn.client turn.number w (call.Join t) false (reply.Refused f) [] (with_buried_as a turn.client turn.number w (reply.Refused f)) x so h leads
        (buried_as a held k turn.client turn.number w (reply.Refused f) h is.client up named leads.quiet) (λ e. cc) (stands_timely a.holder.clock 0 k.clock h.clock)

    abbrev not_yet : Reply
    not_yet = reply.Refused refusal.NotYet

    -- the join is drawn, and its coordinator is asked
    abbrev pub joining_kept : ServerState V
    joining_kept = record (with_joining k turn t) { sessions = counted_in k.sessions turn not_yet }

    pub join_drawn_stepped : (x : Answer) → many_of k ≡ None → AreJoinsOf (state_deed (state_of a) (deed.Joins (next_join (state_of a)) t turn.client turn.who)) (with_drawn k.joins t turn.client turn.who)
        → x ≡ refused_answer refusal.NotYet (sent_acts (register_mail a turn.client turn.number w t))
        → Stepped a before now held joining_kept (event.Call turn.client k.epoch turn.number (call.Join t)) x
    join_drawn_stepped x few joins so =
        let leads = join_drawn_leads a turn.client turn.number w t draw_owes (many_told a held k h ∙ few) in
        let told : IsAs (with_buried_as a turn.client turn.number w not_yet) held (buried_kept a held k turn.client turn.number w not_yet) =
        buried_as a held k turn.client turn.number w not_yet h is.client up named (buried_quiet a turn.client turn.number w not_yet h.quiet (turn_session a held k turn h is) is.number) in
        stepped_so a before now held held k joining_kept turn.client turn.number w (call.Join t) false not_yet (sent_acts (register_mail a turn.client turn.number w t)) (with_join a turn.client turn.number w t) x so h leads (record {
          server = h.server;
          servers = h.servers;
          sizes = h.sizes;
          epoch = h.epoch;
          clock = h.clock;
          cells = h.cells;
          sized = h.sized;
          notes = λ on. call_notes false a (with_join a turn.client turn.number w t) turn.client turn.number w (call.Join t) not_yet (sent_acts (register_mail a turn.client turn.number w t)) h.quiet leads refl held.notes (h.notes on);
          places = told.places;
          sessions = told.sessions;
          dead = told.dead;
          lives = h.lives;
          room = h.room;
          unborn = h.unborn;
          coordinator = h.coordinator;
          decided = h.decided;
          joins = joins;
          files = h.files;
          made = h.made;
          born = h.born;
          earlier = h.earlier;
          waits = ap (λ (ws : List Waiting). ws ++ waiting (join_call turn t) ∷ []) told.waits ∙ sym (told_last (without_dead turn.client k.dead k.waits) (join_call turn t));
          queue = told.queue ∙ sym (queue_other a.holder k.locks.held (unburied a turn.client) (waiting (join_call turn t)) refl);
          asked = all-append (IsWaitingAs a.holder a.locked) (without_dead turn.client k.dead k.waits) (join_call turn t ∷ []) told.asked ((λ z l counted there. let wrong : None ≡ Some z = counted in cc), tt);
          quiet = leads.quiet;
          down = sym up;
        }) (λ e. cc) (stands_timely a.holder.clock 0 k.clock h.clock)

-- a step by which the client's dead parts go
pub buried_step : {V : Type 0} (G : Ghosts V) (k new : ServerState V) (turn : Turn) (t : TransId) (x : Answer) (r : Reply) → new ≡ record (buried k turn.client) { sessions = counted_in k.sessions turn r } → IsTurn k.sessions turn → k.is_down ≡ false
    → (is_read_fault (Some r) || says_shut (Some r)) ≡ false → IsKeepable k.clock r → TellsRun None r → x ≡ told_answer (Some r) []
    → (IsTrue (G.tells k.vault) → (a : Account) → IsAs a (G.held k.vault) k
    → Stepped a (G.faults k.vault) (G.faults k.vault) (G.held k.vault) (record (buried k turn.client) { sessions = counted_in k.sessions turn r }) (event.Call turn.client k.epoch turn.number (call.Join t)) x)
    → IsStep G k new (event.Call turn.client k.epoch turn.number (call.Join t)) (Ok x)
buried_step G k new turn t x r kept is up calm keeps pages so steps =
    let after : ServerState _ = record (buried k turn.client) { sessions = counted_in k.sessions turn r } in
    subst (λ (y : ServerState _). IsStep G k y (event.Call turn.client k.epoch turn.number (call.Join t)) (Ok x)) (sym kept)
    (plain_step G k after turn (call.Join t) x r [] refl refl refl refl refl up up (λ notes h. h) calm so refl (λ before now allowance. tt) (λ n h. buried_told_ready n (G.serves k.vault) k turn r is keeps h) steps
    (counts_on k after turn is (call.Join t) r keeps.inside (le_refl k.clock) keeps.times pages refl))
