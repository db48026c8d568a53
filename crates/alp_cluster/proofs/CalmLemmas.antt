-- an entry in which the device did not fail
use Rattle.std.specs.Prelude.{Bool, true, false, Option, None, Some, IfSome}
use Rattle.std.specs.List.{list_any}
use Rattle.std.proofs.Common.{◌≡◌, ℕ, List, [], ◌∷◌, refl, sym, ◌∙◌, ap}
use Rattle.alp_base.specs.Causes.{Rose}
use Rattle.alp_base.specs.declared.allowance.Allowance.{Allowance}
use Rattle.alp_base.specs.declared.allowance.Allowance.TheVariants.{Free, Spent}
use Rattle.alp_base.specs.declared.ids.JoinNo.{JoinNo}
use Rattle.alp_base.specs.declared.ids.Stamp.{Stamp}
use Rattle.alp_files.specs.declared.reply.Reply.{Reply}
use Rattle.alp_journal.specs.Answered.{IsAnsweredEntry, is_read_fault}
use Rattle.alp_journal.specs.Desk.{Session}
use Rattle.alp_journal.specs.Moves.{is_stop}
use Rattle.alp_journal.specs.State.{State}
use Rattle.alp_journal.specs.declared.act.Act.{Act}
use Rattle.alp_journal.specs.declared.act.Act.TheVariants as act
use Rattle.alp_journal.specs.declared.entry.Entry.{Entry}
use Rattle.alp_journal.specs.declared.event.Event.{Event}
use Rattle.alp_journal.specs.declared.event.Event.TheVariants as event
use Rattle.alp_node.specs.Downs.{entry_again}
use Rattle.alp_node.specs.Halts.{HaveCauses}
use Rattle.alp_node.specs.Orders.{is_fault_now, idle_reply}
use Rattle.alp_node.specs.Sessions.{session_at}
use Rattle.alp_node.specs.Turns.{HasTurned}
use Rattle.alp_node.specs.declared.server_state.ServerState.{ServerState}
use Rattle.alp_node.specs.declared.sessions.CallOrder.{CallOrder}
use Rattle.alp_node.specs.declared.sessions.CallOrder.TheVariants as order
use Rattle.alp_cluster.specs.Servers.{AreKept, is_failure}

-- a read that failed shows in the reply alone
pub calm : (failed : Bool) (s : State) (e : Entry) → (failed ≡ true → is_read_fault e.reply ≡ true) → is_read_fault e.reply ≡ false → IsAnsweredEntry failed s e → IsAnsweredEntry false s e
calm true s e shows quiet h = (let wrong : true ≡ false = sym (shows refl) ∙ quiet in cc)
calm false s e shows quiet h = h

-- a restart reads no page for an answer
pub calm_restart : (failed : Bool) (s : State) (epoch clock : ℕ) (joins : List JoinNo) (stamps : List Stamp) → IsAnsweredEntry failed s (entry_again (record { epoch = epoch; clock = clock }) joins stamps)
    → IsAnsweredEntry false s (entry_again (record { epoch = epoch; clock = clock }) joins stamps)
calm_restart failed s epoch clock joins stamps h = record {
  answered = h.answered;
  sent = h.sent;
  ticks = h.ticks;
  applied = h.applied;
  votes = h.votes;
  forgets = h.forgets;
  turns = h.turns;
  grants = h.grants;
  halted = h.halted;
}

-- ---- what is told of this step alone

-- where a reply shows no fault, it shows none of this step
pub quiet_now : (o : Option CallOrder) (r : Option Reply) → is_read_fault r ≡ false → is_fault_now o r ≡ false
quiet_now None r quiet = quiet
quiet_now (Some order.First) r quiet = quiet
quiet_now (Some order.Next) r quiet = quiet
quiet_now (Some order.Repeat) r quiet = refl
quiet_now (Some order.Stale) r quiet = quiet
quiet_now (Some order.Astray) r quiet = quiet

module _ {V : Type 0} (old new : ServerState V) (before : AreKept old) where
  -- the reply that is kept shows no fault
  kept_quiet : (client : ℕ) (w : Option Session) → session_at old.sessions client ≡ w → is_read_fault (idle_reply order.Repeat old.epoch w) ≡ false
  kept_quiet client None is = refl
  kept_quiet client (Some w) is = (before client w is).calm

  -- a reply that shows a fault shows one of this step, since no reply that is kept shows any
  pub fault_now : (o : Option CallOrder) (e : Event) (r : Option Reply) → HasTurned o old new e r → is_read_fault r ≡ true → is_fault_now o r ≡ true
  fault_now None e r turned shows = shows
  fault_now (Some order.First) e r turned shows = shows
  fault_now (Some order.Next) e r turned shows = shows
  fault_now (Some order.Stale) e r turned shows = shows
  fault_now (Some order.Astray) e r turned shows = shows
  fault_now (Some order.Repeat) (event.Call client epoch number c) r turned shows =
      let wrong : true ≡ false = sym shows ∙ ap is_read_fault turned.sessions.0 ∙ kept_quiet client (session_at old.sessions client) refl in cc
  fault_now (Some order.Repeat) (event.Arrive from message) r turned shows = absurd turned.sessions
  fault_now (Some order.Repeat) (event.Timeout t) r turned shows = absurd turned.sessions
  fault_now (Some order.Repeat) event.Restart r turned shows = absurd turned.sessions
  fault_now (Some order.Repeat) event.Tick r turned shows = absurd turned.sessions
  fault_now (Some order.Repeat) event.Force r turned shows = absurd turned.sessions

pub calm_reply : (r : Option Reply) → is_read_fault r ≡ false → IfSome r (λ y. is_read_fault (Some y) ≡ false)
calm_reply None quiet = tt
calm_reply (Some y) quiet = quiet

-- ---- a device that failed, and one that was stopped

-- where the acts say that it failed, its count of faults rose
pub failed_rose : (before now : ℕ) (allowance : Allowance) (acts : List Act) → list_any is_failure acts ≡ true → HaveCauses before now allowance acts → Rose before now
failed_rose before now allowance [] failed causes = let wrong : false ≡ true = failed in cc
failed_rose before now allowance (act.Drawn t ∷ more) failed causes = failed_rose before now allowance more failed causes
failed_rose before now allowance (act.Decided stamp parts ∷ more) failed causes = failed_rose before now allowance more failed causes
failed_rose before now allowance (act.Granted t ∷ more) failed causes = failed_rose before now allowance more failed causes
failed_rose before now allowance (act.Released t ∷ more) failed causes = failed_rose before now allowance more failed causes
failed_rose before now allowance (act.Sent to message ∷ more) failed causes = failed_rose before now allowance more failed causes.1
failed_rose before now allowance (act.Registered t join ∷ more) failed causes = failed_rose before now allowance more failed causes
failed_rose before now allowance (act.Readied t join ts ∷ more) failed causes = failed_rose before now allowance more failed causes
failed_rose before now allowance (act.Applied join stamp ∷ more) failed causes = failed_rose before now allowance more failed causes
failed_rose before now allowance (act.Forgot t ∷ more) failed causes = failed_rose before now allowance more failed causes
failed_rose before now allowance (act.Regained epoch clock ready stamps ∷ more) failed causes = failed_rose before now allowance more failed causes
failed_rose before now allowance (act.Stopped ∷ more) failed causes = failed_rose before now allowance more failed causes.1
failed_rose before now allowance (act.Failed ∷ more) failed causes = causes.0

-- one that nobody stops goes down only where it failed
pub free_goes : (before now : ℕ) (acts : List Act) → list_any is_stop acts ≡ true → list_any is_failure acts ≡ false → HaveCauses before now Free acts → ⊥
free_goes before now [] stop failed causes = let wrong : false ≡ true = stop in cc
free_goes before now (act.Drawn t ∷ more) stop failed causes = free_goes before now more stop failed causes
free_goes before now (act.Decided stamp parts ∷ more) stop failed causes = free_goes before now more stop failed causes
free_goes before now (act.Granted t ∷ more) stop failed causes = free_goes before now more stop failed causes
free_goes before now (act.Released t ∷ more) stop failed causes = free_goes before now more stop failed causes
free_goes before now (act.Sent to message ∷ more) stop failed causes = free_goes before now more stop failed causes.1
free_goes before now (act.Registered t join ∷ more) stop failed causes = free_goes before now more stop failed causes
free_goes before now (act.Readied t join ts ∷ more) stop failed causes = free_goes before now more stop failed causes
free_goes before now (act.Applied join stamp ∷ more) stop failed causes = free_goes before now more stop failed causes
free_goes before now (act.Forgot t ∷ more) stop failed causes = free_goes before now more stop failed causes
free_goes before now (act.Regained epoch clock ready stamps ∷ more) stop failed causes = free_goes before now more stop failed causes
free_goes before now (act.Failed ∷ more) stop failed causes = let wrong : true ≡ false = failed in cc
free_goes before now (act.Stopped ∷ more) stop failed causes = let wrong : Free ≡ Spent = causes.0 in cc
