-- each part of a transaction is asked for its vote, and the Finish waits
use Rattle.std.specs.Prelude.{◌≢◌, cond, Bool, true, false, ◌||◌, Option, None, Some, is_some}
use Rattle.std.specs.List.{list_any, AllByRecursion}
use Rattle.std.proofs.Common.{◌≡◌, ℕ, ◌+◌, List, [], ◌∷◌, ◌++◌, refl, sym, ◌∙◌, ap, subst}
use Rattle.alp_base.specs.declared.allowance.Allowance.{Allowance}
use Rattle.alp_base.specs.declared.ids.JoinNo.{JoinNo}
use Rattle.alp_base.specs.declared.ids.TransId.{TransId}
use Rattle.std.specs.FinMap as map
use Rattle.alp_files.specs.declared.call.Call.TheVariants as call
use Rattle.alp_files.specs.declared.refusal.Refusal.TheVariants as refusal
use Rattle.alp_files.specs.declared.reply.Reply.{Reply}
use Rattle.alp_files.specs.declared.reply.Reply.TheVariants as reply
use Rattle.alp_vault.specs.Contents.{Contents}
use Rattle.alp_journal.specs.declared.act.Act.{Act}
use Rattle.alp_journal.specs.declared.act.Act.TheVariants as act
use Rattle.alp_journal.specs.declared.event.Event.TheVariants as event
use Rattle.alp_journal.specs.declared.message.Message.{Message}
use Rattle.alp_journal.specs.declared.message.Message.TheVariants as msg
use Rattle.alp_journal.specs.Account.{Account, state_of, sent_acts, Leads}
use Rattle.alp_journal.specs.Moves.{is_stop}
use Rattle.alp_journal.specs.Coordinator.{Fate, Running, client_of}
use Rattle.alp_journal.specs.Deeds.{Finishes}
use Rattle.alp_journal.specs.Desk.{Session, Waiting, waiting_of}
use Rattle.alp_journal.specs.Ids.{same_trans}
use Rattle.alp_journal.proofs.CallLemmas.{call_entry}
use Rattle.alp_journal.proofs.FinishSteps.{asks_each, with_finish, finish_asks_leads}
use Rattle.alp_coord.specs.declared.coordinator.Coordinator.{Coordinator}
use Rattle.alp_coord.specs.Coordinators.{IsAlong, Comes, fate_in}
use Rattle.alp_node.specs.Halts.{HaveCauses, MaySay}
use Rattle.alp_node.specs.Says.{said_each}
use Rattle.alp_node.specs.ServerState.{IsAs, IsReady, IsWaitingAs}
use Rattle.alp_node.specs.Steps.{Stepped, IsTurn, counted_in, refused_answer}
use Rattle.alp_node.specs.Waits.{waiting}
use Rattle.alp_node.specs.declared.answer.Answer.{Answer}
use Rattle.alp_node.specs.declared.lives.Live.{Live}
use Rattle.alp_node.specs.declared.server_state.ServerState.{ServerState}
use Rattle.alp_node.specs.declared.sessions.Turn.{Turn}
use Rattle.alp_node.specs.declared.waits.WaitingCall.{WaitingCall}
use Rattle.alp_node.proofs.ClearLemmas.{running_told}
use Rattle.alp_node.proofs.EndingLemmas.{said_is}
use Rattle.alp_node.proofs.EarlyLemmas.{early_finishes}
use Rattle.alp_node.proofs.FatedLemmas.{IsFatedAs, fated_by, fated_ready}
use Rattle.alp_node.proofs.FinishLemmas.{turn_session, counts_as}
use Rattle.alp_node.proofs.KeptLemmas.{applied_fated, finishing_decision, session_of, stands_timely, IsLive, live_there, stepped_so}
use Rattle.alp_node.proofs.NoteCalls.{call_notes, sent_write}
use Rattle.alp_node.proofs.OtherLemmas.{told_last, queue_other}
use Rattle.alp_node.proofs.ReadyLemmas.{counted_ready, other_waits_ready}
use Rattle.alp_node.proofs.TransactionLemmas.{known_moved, run_along, runs_placed}
use Rattle.alp_node.proofs.WaitLemmas.{pushed_each}

-- ---- what is said to each

-- no device stops by it
pub each_goes_on : (f : JoinNo → Message) (js : List JoinNo) → list_any is_stop (said_each f js) ≡ false
each_goes_on f [] = refl
each_goes_on f (j ∷ js) = each_goes_on f js

pub each_caused : (f : JoinNo → Message) → ((j : JoinNo) → MaySay (f j)) → (js : List JoinNo) (before now : ℕ) (allowance : Allowance) → HaveCauses before now allowance (said_each f js)
each_caused f may [] before now allowance = tt
each_caused f may (j ∷ js) before now allowance = (may j, each_caused f may js before now allowance)

-- ---- the call waits

module _ {V : Type 0} (k : ServerState V) (turn : Turn) (t : TransId) (z : Coordinator) where
  abbrev pub finish_call : WaitingCall
  finish_call = record { client = turn.client; number = turn.number; trans = t; call = call.Finish t true; counts = None; is_granted = false }

  abbrev pub asked_kept : ServerState V
  asked_kept = record k { coordinator = z; waits = k.waits ++ finish_call ∷ []; sessions = counted_in k.sessions turn (reply.Refused refusal.NotYet) }

  module _ (along : IsAlong k.coordinator z) (comes : Comes (Finishes t) k.coordinator z) where
    pub asks_fated : IsFatedAs k.coordinator z
    asks_fated = fated_by (Finishes t) k.coordinator z tt along comes

    pub asked_ready : (n : ℕ) (serves : Bool) (client : ℕ) (js : List JoinNo) → IsTurn k.sessions turn → fate_in k.coordinator t ≡ Running client js → js ≢ [] → IsReady n serves k → IsReady (n + 1) serves asked_kept
    asked_ready n serves client js is runs some h =
        counted_ready n serves (record k { coordinator = z; waits = k.waits ++ finish_call ∷ [] }) turn (reply.Refused refusal.NotYet) is (record { inside = tt; times = tt })
        (fated_ready n serves (record k { waits = k.waits ++ finish_call ∷ [] }) z asks_fated (early_finishes k.servers k.server t client js k.coordinator z runs some comes h.fated)
        (other_waits_ready n serves k finish_call refl (refl, refl) ((runs_placed k.coordinator t client (ap client_of runs)).epoch_is ∙ h.seat.1) h))

    -- as the journal tells it
    pub asks_stepped : (a : Account) (before now : ℕ) (held : Contents) (l : Live) (j : JoinNo) (js : List JoinNo) (x : Answer) (h : IsAs a held k) (is : IsTurn k.sessions turn) → k.is_down ≡ false → map.get k.lives t ≡ Some l → fate_in k.coordinator t ≡ Running turn.client (j ∷ js)
        → waiting_of (state_of a).desk turn.client t ≡ None → x ≡ refused_answer refusal.NotYet (said_each (msg.Ask t) (j ∷ js))
        → Stepped a before now held asked_kept (event.Call turn.client k.epoch turn.number (call.Finish t true)) x
    asks_stepped a before now held l j js x h is up there runs idle so =
        let y : IsLive a.holder.cells k.locks.held (a.locked t) t l (a.holder.lives t) = live_there a.holder.cells k.locks.held (a.locked t) t (map.get k.lives t) (a.holder.lives t) l there (h.lives t) in
        let s : Session = session_of turn is in
        let r : Reply = reply.Refused refusal.NotYet in
        let m : Account = with_finish a turn.client turn.number s t y.life j js in
        let acts : List Act = sent_acts (asks_each a turn.client turn.number s t y.life j js) in
        let leads : Leads false a (call_entry a turn.client turn.number s (call.Finish t true) r acts) m = finish_asks_leads a turn.client turn.number s t y.life j js (record {
          quiet = h.quiet;
          up = h.down ∙ up;
          there = turn_session a held k turn h is;
          turn = is.number;
          live = y.is;
          runs = running_told a.ids.epoch t (fate_in k.coordinator t) (a.fates t) turn.client (j ∷ js) (h.coordinator.fates t) runs;
          idle = idle;
        }) in
        let c = counts_as a held k turn r h is up in
        stepped_so a before now held held k asked_kept turn.client turn.number s (call.Finish t true) false r acts m x (so ∙ ap (refused_answer refusal.NotYet) (said_is (msg.Ask t) (j ∷ js))) h leads (record {
          server = h.server;
          servers = h.servers;
          sizes = h.sizes;
          epoch = h.epoch;
          clock = h.clock;
          cells = h.cells;
          sized = h.sized;
          notes = λ on. call_notes false a m turn.client turn.number s (call.Finish t true) r acts h.quiet leads (sent_write (asks_each a turn.client turn.number s t y.life j js)) held.notes (h.notes on);
          places = c.places;
          sessions = c.sessions;
          dead = h.dead;
          waits = ap (λ (ws : List Waiting). ws ++ waiting finish_call ∷ []) h.waits ∙ sym (told_last k.waits finish_call);
          queue = h.queue ∙ sym (queue_other a.holder k.locks.held a.waits (waiting finish_call) refl);
          asked = pushed_each (IsWaitingAs a.holder a.locked) k.waits finish_call h.asked (λ n life counted live. let wrong : None ≡ Some n = counted in cc);
          lives = h.lives;
          room = h.room;
          unborn = h.unborn;
          coordinator = record { run = run_along a.holder.server a.ids.epoch a.ids.transactions k.coordinator z h.coordinator.run along; fates = known_moved a.ids.epoch (Finishes t) k.coordinator z a.fates refl comes h.coordinator.fates };
          decided = applied_fated a m refl refl (λ u. finishing_decision (same_trans t u) (a.fates u)) h.decided;
          joins = h.joins;
          files = h.files;
          made = h.made;
          born = h.born;
          earlier = h.earlier;
          quiet = leads.quiet;
          down = c.down;
        }) (λ e. cc) (stands_timely a.holder.clock 0 k.clock h.clock)
