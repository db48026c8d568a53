-- how a transaction stands, as the server and as its journal say it
use Rattle.std.specs.Prelude.{cond, Bool, true, false, ◌==◌, Option, None, Some, Ok}
use Rattle.std.proofs.Common.{◌≡◌, ℕ, ◌≤◌, le_refl, List, [], ◌∷◌, refl, sym, ◌∙◌, ap}
use Rattle.alp_base.specs.declared.ids.JoinNo.{JoinNo}
use Rattle.alp_base.specs.declared.ids.Stamp.{Stamp}
use Rattle.alp_base.specs.declared.ids.TransId.{TransId}
use Rattle.alp_files.specs.declared.call.Call.TheVariants as call
use Rattle.alp_files.specs.declared.reply.Ended.{Ended as Ending}
use Rattle.alp_files.specs.declared.reply.Ended.TheVariants as ending
use Rattle.alp_files.specs.declared.reply.Reply.{Reply}
use Rattle.alp_files.specs.declared.reply.Reply.TheVariants as reply
use Rattle.alp_files.specs.declared.refusal.Refusal.TheVariants as refusal
use Rattle.alp_vault.specs.Contents.{Contents}
use Rattle.alp_vault.specs.declared.vault.Vault.{Ghosts}
use Rattle.alp_journal.specs.declared.event.Event.TheVariants as event
use Rattle.alp_journal.specs.Coordinator.{Fate, Undrawn, Running, Finishing, Committed, Forgotten, Ended, decision_in}
use Rattle.alp_journal.specs.Desk.{Session}
use Rattle.alp_journal.specs.Ids.{is_drawn}
use Rattle.alp_journal.specs.Laws.{ending_of}
use Rattle.alp_journal.specs.State.{is_trans_drawn}
use Rattle.alp_journal.specs.Account.{Account, state_of}
use Rattle.alp_journal.proofs.RefusedCalls.{counted_as}
use Rattle.alp_journal.proofs.OutcomeCalls.{outcome_unknown_leads, outcome_leads}
use Rattle.alp_coord.specs.Coordinators.{epoch_of, fate_in, is_known, ending_at}
use Rattle.alp_coord.proofs.TieLemmas.{ending-state, known-ending}
use Rattle.alp_node.specs.ServerState.{IsAs, IsReady}
use Rattle.alp_node.specs.Steps.{Stepped, IsStep, IsTurn, counted_in, told_answer, refused_answer}
use Rattle.alp_node.specs.Turns.{TellsUpTo}
use Rattle.alp_node.specs.declared.answer.Answer.{Answer}
use Rattle.alp_node.specs.declared.server_state.ServerState.{ServerState}
use Rattle.alp_node.specs.declared.sessions.Turn.{Turn}
use Rattle.alp_node.proofs.FinishLemmas.{turn_session, counts_as}
use Rattle.alp_node.proofs.KeptLemmas.{session_of, stands_timely, stepped_so}
use Rattle.alp_node.proofs.ReadyLemmas.{counted_ready}
use Rattle.alp_node.proofs.StepLemmas.{plain_step}
use Rattle.alp_node.proofs.TurnLemmas.{counts_on}

-- ---- how it stands

-- how the server tells that it stands
abbrev pub ending_here : {V : Type 0} → ServerState V → TransId → Ending
ending_here k t = ending_at (epoch_of k.coordinator) t (fate_in k.coordinator t)

module _ {V : Type 0} (a : Account) (held : Contents) (k : ServerState V) (t : TransId) (h : IsAs a held k) where
  pub known_is : is_trans_drawn (state_of a) t ≡ is_known k.coordinator t
  known_is = λ i. is_drawn (sym h.coordinator.run.server_same i) (sym h.coordinator.run.epoch_same i) (sym h.coordinator.run.count_same i) t.server t.epoch t.counter

  pub ending_said : ending_of (state_of a) t (a.fates t) ≡ ending_here k t
  ending_said =
      ending-state (state_of a) t (a.fates t) ∙ sym (known-ending a.ids.epoch t (fate_in k.coordinator t) (a.fates t) (h.coordinator.fates t))
      ∙ ap (λ (n : ℕ). ending_at n t (fate_in k.coordinator t)) (sym h.coordinator.run.epoch_same)

-- no later time is told of it than the clock
pub ending_past : {V : Type 0} (n : ℕ) (serves : Bool) (k : ServerState V) (t : TransId) → IsReady n serves k → TellsUpTo k.clock (reply.Ended (ending_here k t))
ending_past n serves k t h = go (fate_in k.coordinator t) (h.times t)
  where
    decided : (b : Bool) (stamp : Stamp) → stamp.ts ≤ k.clock → TellsUpTo k.clock (reply.Ended (cond {A = Ending} b (ending.Committed stamp) ending.Unknown))
    decided true stamp low = low
    decided false stamp low = tt

    over : (b : Bool) → TellsUpTo k.clock (reply.Ended (cond {A = Ending} b ending.Aborted ending.Unknown))
    over true = tt
    over false = tt

    go : (f : Fate) → ((stamp : Stamp) (js : List JoinNo) → decision_in f ≡ Some (stamp, js) → stamp.ts ≤ k.clock) → TellsUpTo k.clock (reply.Ended (ending_at (epoch_of k.coordinator) t f))
    go Undrawn low = tt
    go (Running client js) low = tt
    go (Finishing client js vs) low = tt
    go (Committed stamp [] ds) low = decided (t.epoch == epoch_of k.coordinator) stamp (low stamp [] refl)
    go (Committed stamp (j ∷ js) ds) low = low stamp (j ∷ js) refl
    go (Forgotten stamp js) low = decided (t.epoch == epoch_of k.coordinator) stamp (low stamp js refl)
    go (Ended c) low = over (t.epoch == epoch_of k.coordinator)

-- ---- its answer

module _ {V : Type 0} (a : Account) (before now : ℕ) (held : Contents) (k : ServerState V) (turn : Turn) (t : TransId) where
  pub outcome_unknown_stepped : (x : Answer) → IsAs a held k → IsTurn k.sessions turn → k.is_down ≡ false → is_known k.coordinator t ≡ false → x ≡ refused_answer refusal.UnknownTrans []
      → Stepped a before now held (record k { sessions = counted_in k.sessions turn (reply.Refused refusal.UnknownTrans) }) (event.Call turn.client k.epoch turn.number (call.Outcome t)) x
  outcome_unknown_stepped x h is up strange so =
      let w : Session = session_of turn is in
      let r : Reply = reply.Refused refusal.UnknownTrans in
      stepped_so a before now held held k (record k { sessions = counted_in k.sessions turn r }) turn.client turn.number w (call.Outcome t) false r [] (counted_as a turn.client turn.number w r) x so h
      (outcome_unknown_leads a turn.client turn.number w t h.quiet (h.down ∙ up) (turn_session a held k turn h is) is.number (known_is a held k t h ∙ strange))
      (counts_as a held k turn r h is up) (λ e. cc) (stands_timely a.holder.clock 0 k.clock h.clock)

  pub outcome_stepped : (x : Answer) → IsAs a held k → IsTurn k.sessions turn → k.is_down ≡ false → is_known k.coordinator t ≡ true → x ≡ told_answer (Some (reply.Ended (ending_here k t))) []
      → Stepped a before now held (record k { sessions = counted_in k.sessions turn (reply.Ended (ending_here k t)) }) (event.Call turn.client k.epoch turn.number (call.Outcome t)) x
  outcome_stepped x h is up begun so =
      let w : Session = session_of turn is in
      let r : Reply = reply.Ended (ending_here k t) in
      stepped_so a before now held held k (record k { sessions = counted_in k.sessions turn r }) turn.client turn.number w (call.Outcome t) false r [] (counted_as a turn.client turn.number w r) x so h
      (outcome_leads a turn.client turn.number w t (ending_here k t) h.quiet (h.down ∙ up) (turn_session a held k turn h is) is.number (known_is a held k t h ∙ begun) (ending_said a held k t h))
      (counts_as a held k turn r h is up) (λ e. cc) (stands_timely a.holder.clock 0 k.clock h.clock)

-- ---- what is told

-- what a coordinator answers
abbrev pub outcome_of : {V : Type 0} → ServerState V → TransId → Option Ending
outcome_of k t = cond {A = Option Ending} (is_known k.coordinator t) (Some (ending_here k t)) None

-- it is told of an id that was given here, and of no other
pub record IsTold {V : Type 0} (k : ServerState V) (t : TransId) (x : Ending) : Type 0 where
  pub begun : is_known k.coordinator t ≡ true
  pub is : ending_here k t ≡ x

pub ending_told : {V : Type 0} (k : ServerState V) (t : TransId) (x : Ending) → outcome_of k t ≡ Some x → IsTold k t x
ending_told k t x e = go (is_known k.coordinator t) refl e
  where
    one : (y z : Ending) → Some y ≡ Some z → y ≡ z
    one y z e = cc

    go : (b : Bool) → is_known k.coordinator t ≡ b → cond {A = Option Ending} b (Some (ending_here k t)) None ≡ Some x → IsTold k t x
    go true is e = record { begun = is; is = one (ending_here k t) x e }
    go false is e = (let wrong : None ≡ Some x = e in cc)

pub ending_strange : {V : Type 0} (k : ServerState V) (t : TransId) → outcome_of k t ≡ None → is_known k.coordinator t ≡ false
ending_strange k t e = go (is_known k.coordinator t) e
  where
    go : (b : Bool) → cond {A = Option Ending} b (Some (ending_here k t)) None ≡ None → b ≡ false
    go true e = (let wrong : Some (ending_here k t) ≡ None = e in cc)
    go false e = refl

pub outcome_step : {V : Type 0} (G : Ghosts V) (k : ServerState V) (turn : Turn) (t : TransId) (n : ℕ) (x : Answer) → IsReady n (G.serves k.vault) k → IsTurn k.sessions turn → k.is_down ≡ false → is_known k.coordinator t ≡ true → x ≡ told_answer (Some (reply.Ended (ending_here k t))) []
    → IsStep G k (record k { sessions = counted_in k.sessions turn (reply.Ended (ending_here k t)) }) (event.Call turn.client k.epoch turn.number (call.Outcome t)) (Ok x)
outcome_step G k turn t n x ready is up begun so =
    let r : Reply = reply.Ended (ending_here k t) in
    let after : ServerState _ = record k { sessions = counted_in k.sessions turn r } in
    plain_step G k after turn (call.Outcome t) x r [] refl refl refl refl refl up up (λ ns h. h) refl so refl (λ before now allowance. tt)
    (λ m h. counted_ready m (G.serves k.vault) k turn r is (record { inside = tt; times = ending_past m (G.serves k.vault) k t h }) h)
    (λ told a h. outcome_stepped a (G.faults k.vault) (G.faults k.vault) (G.held k.vault) k turn t x h is up begun so)
    (counts_on k after turn is (call.Outcome t) r tt (le_refl k.clock) (ending_past n (G.serves k.vault) k t ready) tt refl)
