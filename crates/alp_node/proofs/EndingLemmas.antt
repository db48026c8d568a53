-- a live part of this server's own ends without effect, as its client asks or by this server's vote, and others get its locks
use Rattle.std.specs.Prelude.{cond, Bool, true, false, ◌==◌, ◌&&◌, Option, None, Some}
use Rattle.std.specs.FinMap as map
use Rattle.std.proofs.Common.{◌≡◌, ℕ, List, [], ◌∷◌, ◌++◌, append-nil, refl, sym, ◌∙◌, ap, subst}
use Rattle.alp_base.specs.Causes.{Rose}
use Rattle.alp_base.specs.declared.ids.JoinNo.{JoinNo}
use Rattle.alp_base.specs.declared.ids.TransId.{TransId}
use Rattle.alp_files.specs.declared.call.Call.TheVariants as call
use Rattle.alp_files.specs.declared.reply.Reply.{Reply}
use Rattle.alp_files.specs.declared.reply.Reply.TheVariants as reply
use Rattle.alp_files.specs.declared.refusal.Refusal.TheVariants as refusal
use Rattle.alp_files.specs.declared.refusal.Cause.{Cause}
use Rattle.alp_files.specs.declared.refusal.Cause.TheVariants as cause
use Rattle.alp_files.specs.declared.refusal.Why.{Why}
use Rattle.alp_locks.specs.Releases.{released}
use Rattle.alp_vault.specs.Contents.{Contents}
use Rattle.alp_journal.specs.declared.act.Act.{Act}
use Rattle.alp_journal.specs.declared.act.Act.TheVariants as act
use Rattle.alp_journal.specs.declared.event.Event.TheVariants as event
use Rattle.alp_journal.specs.declared.message.Message.{Message}
use Rattle.alp_journal.specs.declared.message.Message.TheVariants as msg
use Rattle.alp_journal.specs.Account.{Account, state_of, IsQuiet, sent_acts, Leads, with_granted, granted_calls, grant_acts}
use Rattle.alp_journal.specs.Answered.{in_turn, IsWalk}
use Rattle.alp_journal.specs.Coordinator.{Fate, Running, joins_of}
use Rattle.alp_journal.specs.Coordinator as fate
use Rattle.alp_journal.specs.Deeds.{Ends}
use Rattle.alp_journal.specs.Desk.{Session, is_of_part, waiting_of}
use Rattle.alp_journal.specs.Holder.{Life}
use Rattle.alp_journal.specs.Ids.{same_trans}
use Rattle.alp_journal.specs.Messages.{Mail, to_each, why_not_own}
use Rattle.alp_journal.proofs.CallLemmas.{call_entry}
use Rattle.alp_journal.proofs.OwnEnds.{with_end, with_end_given, abort_leads, against_leads}
use Rattle.alp_journal.proofs.WaitLemmas.{without-given}
use Rattle.alp_node.specs.Dead.{cause_in, without_part}
use Rattle.alp_coord.specs.declared.coordinator.Coordinator.{Coordinator}
use Rattle.alp_coord.specs.Coordinators.{IsAlong, Comes, fate_in}
use Rattle.alp_node.specs.Durable.{AreNotesOf}
use Rattle.alp_node.specs.Says.{said_each}
use Rattle.alp_node.proofs.ClearLemmas.{running_told}
use Rattle.alp_node.proofs.NoteCalls.{call_notes, grants_write, sent_write}
use Rattle.alp_node.specs.Releases.{granted_if, granted_one, granted_all, granted_behind, let_go}
use Rattle.alp_node.specs.ServerState.{IsAs, IsReady}
use Rattle.alp_node.specs.Steps.{Stepped, IsTimely, IsTurn, entry_of, counted_in, ended, told_answer, refused_answer}
use Rattle.alp_node.specs.Waits.{locks_of, without_calls_of}
use Rattle.alp_node.specs.declared.dead.DeadPart.{DeadPart}
use Rattle.alp_node.specs.declared.answer.Answer.{Answer}
use Rattle.alp_node.specs.declared.lives.Live.{Live}
use Rattle.alp_node.specs.declared.server_state.ServerState.{ServerState}
use Rattle.alp_node.specs.declared.sessions.Turn.{Turn}
use Rattle.alp_node.proofs.DeadLemmas.{part_left}
use Rattle.alp_node.proofs.FinishLemmas.{turn_session}
use Rattle.alp_node.proofs.GoneLemmas.{Gone, gone, state_then, server_then, state_told, server_told, let_go_is, gone_as, waits_left, calls_left, waits_as, asked_left, queue_left}
use Rattle.alp_node.proofs.KeptLemmas.{ended_decision, sessions_as, session_of, session_then, stands_timely, IsLive, live_there, stepped_so}
use Rattle.alp_node.proofs.MapLemmas.{places_set}
use Rattle.alp_node.proofs.TransactionLemmas.{ended_by}

-- messages to joins are said one by one
pub said_is : (f : JoinNo → Message) (js : List JoinNo) → said_each f js ≡ sent_acts (to_each f js)
said_is f [] = refl
said_is f (j ∷ js) = ap (λ (ys : List Act). act.Sent j.server (f j) ∷ ys) (said_is f js)

module _ {V : Type 0} (a : Account) (before now : ℕ) (held : Contents) (k : ServerState V) (turn : Turn) (t : TransId) (l : Live) (m : ℕ) (on : Bool) (h : IsAs a held k) (ready : IsReady m on k) where
  -- who is granted, and the calls that wait on them
  woken_calls : (g : Gone a held k t) → granted_calls a.waits (granted_behind k t) ≡ g.given
  woken_calls g = ap (granted_calls a.waits) g.woken ∙ g.calls

  -- its clock stands
  clock_then : (g : Gone a held k t) → (let_go k t).clock ≡ k.clock
  clock_then g = ap (λ (z : ServerState V). z.clock) (let_go_is a held k t m on h ready g)

  -- ---- in a call of the client

  module _ (is : IsTurn k.sessions turn) (life : Life) (c : Cause) (g : Gone a held k t) (z : Coordinator) (along : IsAlong k.coordinator z) (ends : (client : ℕ) → Comes (Ends t client c) k.coordinator z) where
    abbrev told : Reply
    told = reply.Refused (refusal.Aborted c)

    abbrev w : Session
    w = session_of turn is

    abbrev fates : TransId → Fate
    fates u = cond {A = Fate} (same_trans t u) (fate.ended c (a.fates u)) (a.fates u)

    abbrev told_dead : ℕ → TransId → Option Cause
    told_dead d u = cond {A = Option Cause} (d == turn.client && same_trans u t) None (a.dead d u)

    abbrev told_sessions : ℕ → Option Session
    told_sessions n = cond {A = Option Session} (n == turn.client) (Some (record w { last = turn.number; reply = told })) (a.sessions n)

    -- the journal's state is what is left
    state_is : state_told a held k t m on h ready g fates told_sessions told_dead (waits_left a held k t m on h ready g turn.client) (counted_in k.sessions turn told) (without_part turn.client t k.dead) (calls_left a held k t m on h ready g turn.client) z
        ≡ with_end_given a turn.client turn.number w t life c (granted_behind k t)
    state_is =
        (λ i. record (with_granted (with_end a turn.client turn.number w t life c) g.given) { waits = without-given (is_of_part turn.client t) (λ v b. refl) g.given a.waits i })
        ∙ ap (with_granted (with_end a turn.client turn.number w t life c)) (sym (woken_calls g))

    server_is : record (ended k turn t told) { coordinator = z } ≡ server_told a held k t m on h ready g fates told_sessions told_dead (waits_left a held k t m on h ready g turn.client) (counted_in k.sessions turn told) (without_part turn.client t k.dead) (calls_left a held k t m on h ready g turn.client) z
    server_is = ap (λ (x : ServerState V). record x { waits = without_calls_of turn.client t x.waits; sessions = counted_in k.sessions turn told; dead = without_part turn.client t k.dead; coordinator = z }) (let_go_is a held k t m on h ready g)

    ended_as : k.is_down ≡ false → (AreNotesOf (state_of a) a.ids.epoch held.notes → AreNotesOf (state_of (with_end_given a turn.client turn.number w t life c (granted_behind k t))) a.ids.epoch held.notes)
        → IsQuiet (with_end_given a turn.client turn.number w t life c (granted_behind k t)) → IsAs (with_end_given a turn.client turn.number w t life c (granted_behind k t)) held (record (ended k turn t told) { coordinator = z })
    ended_as up noted quiet =
        subst (λ (x : ServerState V). IsAs (with_end_given a turn.client turn.number w t life c (granted_behind k t)) held x) (sym server_is)
        (subst (λ (x : Account). IsAs x held (server_told a held k t m on h ready g fates told_sessions told_dead (waits_left a held k t m on h ready g turn.client) (counted_in k.sessions turn told) (without_part turn.client t k.dead) (calls_left a held k t m on h ready g turn.client) z)) state_is
        (gone_as a held k t m on h ready g fates told_sessions told_dead (waits_left a held k t m on h ready g turn.client) (counted_in k.sessions turn told) (without_part turn.client t k.dead) (calls_left a held k t m on h ready g turn.client) z up
        (ended_by a.holder.server a.ids.epoch a.ids.transactions a.fates t c k.coordinator z along ends h.coordinator)
        (λ u. ended_decision (same_trans t u) c (a.fates u)) (λ q. subst (λ (x : Account). AreNotesOf (state_of x) a.ids.epoch held.notes) (sym state_is) (noted q))
        (places_set k.sessions turn.client (session_then turn told) h.places)
        (sessions_as a.sessions k.sessions turn.client (session_then turn told) h.sessions h.places is.client)
        (λ d u. ap (cond {A = Option Cause} (d == turn.client && same_trans u t) None) (h.dead d u) ∙ part_left k.dead turn.client t d u)
        (waits_as a held k t m on h ready g turn.client) (asked_left a held k t m on h ready g turn.client) (queue_left a held k t m on h ready g turn.client)
        (subst IsQuiet (sym state_is) quiet)))

  module _ (is : IsTurn k.sessions turn) (up : k.is_down ≡ false) (live : map.get k.lives t ≡ Some l) (js : List JoinNo) (runs : fate_in k.coordinator t ≡ Running turn.client js) where
    y : IsLive a.holder.cells k.locks.held (a.locked t) t l (a.holder.lives t)
    y = live_there a.holder.cells k.locks.held (a.locked t) t (map.get k.lives t) (a.holder.lives t) l live (h.lives t)

    told_runs : a.fates t ≡ Running turn.client js
    told_runs = running_told a.ids.epoch t (fate_in k.coordinator t) (a.fates t) turn.client js (h.coordinator.fates t) runs

    -- what others were granted
    walk_is : (c : Cause) (g : Gone a held k t) → IsWalk (with_end a turn.client turn.number (session_of turn is) t y.life c).holder (in_turn (with_end a turn.client turn.number (session_of turn is) t y.life c).holder a.waits) (granted_behind k t)
    walk_is c g = subst (λ (ts : List TransId). IsWalk (with_end a turn.client turn.number (session_of turn is) t y.life c).holder (in_turn (with_end a turn.client turn.number (session_of turn is) t y.life c).holder a.waits) ts) (sym g.woken) g.walk

    -- the step of its entry
    ends_stepped : (commit : Bool) (c : Cause) (ms : List Mail) (x : Answer) (z : Coordinator) → IsAlong k.coordinator z → ((client : ℕ) → Comes (Ends t client c) k.coordinator z) → (g : Gone a held k t)
        → Leads false a (call_entry a turn.client turn.number (session_of turn is) (call.Finish t commit) (reply.Refused (refusal.Aborted c)) ((act.Released t ∷ grant_acts (granted_behind k t)) ++ sent_acts ms)) (with_end_given a turn.client turn.number (session_of turn is) t y.life c (granted_behind k t))
        → x ≡ refused_answer (refusal.Aborted c) ((act.Released t ∷ grant_acts (granted_behind k t)) ++ sent_acts ms)
        → Stepped a before now held (record (ended k turn t (reply.Refused (refusal.Aborted c))) { coordinator = z }) (event.Call turn.client k.epoch turn.number (call.Finish t commit)) x
    ends_stepped commit c ms x z along ends g leads so =
        let r : Reply = reply.Refused (refusal.Aborted c) in
        let acts : List Act = (act.Released t ∷ grant_acts (granted_behind k t)) ++ sent_acts ms in
        let m : Account = with_end_given a turn.client turn.number (session_of turn is) t y.life c (granted_behind k t) in
        stepped_so a before now held held k (record (ended k turn t r) { coordinator = z }) turn.client turn.number (session_of turn is) (call.Finish t commit) false r acts m x so h leads
        (ended_as is y.life c g z along ends up (call_notes false a m turn.client turn.number (session_of turn is) (call.Finish t commit) r acts h.quiet leads (grants_write (granted_behind k t) (sent_acts ms) (sent_write ms)) held.notes) leads.quiet) (λ e. cc)
        (subst (IsTimely a.fates a.holder.clock (event.Call turn.client k.epoch turn.number (call.Finish t commit))) (sym (clock_then g)) (stands_timely a.holder.clock 0 k.clock h.clock))

    pub abort_stepped : (x : Answer) (z : Coordinator) → IsAlong k.coordinator z → ((client : ℕ) → Comes (Ends t client cause.Asked) k.coordinator z)
        → x ≡ refused_answer (refusal.Aborted cause.Asked) ((act.Released t ∷ grant_acts (granted_behind k t)) ++ said_each (λ j. msg.Abort t j cause.Asked) js)
        → Stepped a before now held (record (ended k turn t (reply.Refused (refusal.Aborted cause.Asked))) { coordinator = z }) (event.Call turn.client k.epoch turn.number (call.Finish t false)) x
    abort_stepped x z along ends so =
        let g : Gone a held k t = gone a held k t m on h ready in
        ends_stepped false cause.Asked (to_each (λ (j : JoinNo). msg.Abort t j cause.Asked) js) x z along ends g
        (abort_leads a turn.client turn.number (session_of turn is) t y.life cause.Asked refl h.quiet (h.down ∙ up) (turn_session a held k turn h is) is.number y.is js told_runs (granted_behind k t) (walk_is cause.Asked g))
        (so ∙ ap (λ (ys : List Act). refused_answer (refusal.Aborted cause.Asked) ((act.Released t ∷ grant_acts (granted_behind k t)) ++ ys)) (said_is (λ j. msg.Abort t j cause.Asked) js))

    pub against_stepped : (why : Why) (x : Answer) (z : Coordinator) → js ≡ [] → IsAlong k.coordinator z → ((client : ℕ) → Comes (Ends t client (cause.Voted k.server why)) k.coordinator z) → waiting_of (state_of a).desk turn.client t ≡ None → why_not_own false (state_of a) t ≡ Some why
        → x ≡ refused_answer (refusal.Aborted (cause.Voted k.server why)) (act.Released t ∷ grant_acts (granted_behind k t))
        → Stepped a before now held (record (ended k turn t (reply.Refused (refusal.Aborted (cause.Voted k.server why)))) { coordinator = z }) (event.Call turn.client k.epoch turn.number (call.Finish t true)) x
    against_stepped why x z none along ends idle not so =
        let c : Cause = cause.Voted k.server why in
        let g : Gone a held k t = gone a held k t m on h ready in
        ends_stepped true c [] x z along ends g
        (against_leads a turn.client turn.number (session_of turn is) t y.life c false why (ap (λ (n : ℕ). cause.Voted n why) (sym h.server)) h.quiet (h.down ∙ up) (turn_session a held k turn h is) is.number y.is
        (told_runs ∙ ap (Running turn.client) none) idle not (granted_behind k t) (walk_is c g))
        (so ∙ ap (refused_answer (refusal.Aborted c)) (sym (append-nil (act.Released t ∷ grant_acts (granted_behind k t)))))

-- ---- what is to be told stands aside

aside_one : {V : Type 0} (k : ServerState V) (ds : List DeadPart) (t : TransId) (x : Option ℕ) → granted_if (record k { dead = ds }) t x ≡ record (granted_if k t x) { dead = ds }
aside_one k ds t None = refl
aside_one k ds t (Some n) = refl

aside : {V : Type 0} (ts : List TransId) (k : ServerState V) (ds : List DeadPart) → granted_all (record k { dead = ds }) ts ≡ record (granted_all k ts) { dead = ds }
aside [] k ds = refl
aside {V} (t ∷ ts) k ds = ap (λ (z : ServerState V). granted_all z ts) (aside_one k ds t (locks_of t k.waits)) ∙ aside ts (granted_one k t) ds

-- a part is let go alike, whoever is to be told of an end
pub let_go_aside : {V : Type 0} (k : ServerState V) (t : TransId) (ds : List DeadPart) → let_go (record k { dead = ds }) t ≡ record (let_go k t) { dead = ds }
let_go_aside k t ds = aside (released k.locks t).woken (record k { lives = map.remove k.lives t; locks = record (released k.locks t) { woken = [] } }) ds
