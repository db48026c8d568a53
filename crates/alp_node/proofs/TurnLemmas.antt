-- how sessions and the clock go on in a step
use Rattle.std.specs.Prelude.{Bool, true, false, nat_lt, List, None, Some}
use Rattle.std.proofs.Common.{◌≡◌, ℕ, ◌≤◌, length, refl, arith}
use Rattle.std.proofs.lemmas.Bool.{ltb-false}
use Rattle.alp_base.specs.declared.ids.TransId.{TransId}
use Rattle.alp_files.specs.Passing.{IsFileReply}
use Rattle.alp_files.specs.Reading.{asked_pages, TellsPages}
use Rattle.alp_calls.specs.Parts.{IsPartReply}
use Rattle.alp_files.specs.declared.call.Call.{Call}
use Rattle.alp_files.specs.declared.call.Call.TheVariants as call
use Rattle.alp_files.specs.declared.refusal.Refusal.{Refusal}
use Rattle.alp_files.specs.declared.refusal.Refusal.TheVariants as refusal
use Rattle.alp_files.specs.declared.refusal.What.TheVariants as what
use Rattle.alp_files.specs.declared.reply.Reply.{Reply}
use Rattle.alp_files.specs.declared.reply.Reply.TheVariants as reply
use Rattle.alp_journal.specs.declared.event.Event.TheVariants as event
use Rattle.alp_journal.specs.Answers.{if_over}
use Rattle.alp_journal.specs.Desk.{file_trans}
use Rattle.alp_node.specs.Shapes.{shape_of, ReadsSome}
use Rattle.alp_node.specs.Steps.{IsTurn, counted_in}
use Rattle.alp_node.specs.Turns.{TellsUpTo, IsInSession, TellsRun, asked_in, HasTurned}
use Rattle.alp_node.specs.declared.server_state.ServerState.{ServerState}
use Rattle.alp_node.specs.declared.sessions.CallOrder.TheVariants as order
use Rattle.alp_node.specs.declared.sessions.Turn.{Turn}
use Rattle.alp_node.specs.declared.waits.WaitingCall.{WaitingCall}

-- what a part answers is in its session, and tells no time
pub part_reply_in : (r : Reply) → IsPartReply r → IsInSession r
part_reply_in (reply.Refused (refusal.StaleSession epoch)) h = (let wrong : true ≡ false = h.0 in cc)
part_reply_in (reply.Refused refusal.Down) h = (let wrong : true ≡ false = h.0 in cc)
part_reply_in (reply.Refused refusal.JournalFull) h = (let wrong : true ≡ false = h.1 in cc)
part_reply_in (reply.Refused f) h = tt
part_reply_in r h = tt

pub file_reply_tells : (clock : ℕ) (r : Reply) → IsFileReply r → TellsUpTo clock r
file_reply_tells clock (reply.Committed stamp) h = absurd h
file_reply_tells clock (reply.Ended e) h = absurd h
file_reply_tells clock r h = tt

-- a run that is not empty, and not refused for its shape, has as many pages as a run may have
pub run_told : (server epoch given opens : ℕ) (c : Call) → ReadsSome c → shape_of server epoch given opens c ≡ None → (r : Reply) → TellsPages (asked_pages c) r → TellsRun (asked_pages c) r
run_told server epoch given opens (call.ReadPages t n run mode choice) some e (reply.Pages pages) told = (told, one, go (nat_lt 16 run.count) refl e)
  where
    same : run.count ≡ length pages
    same = let all : Some run.count ≡ Some (length pages) = told in cc

    one : 1 ≤ length pages
    one = let at : run.count ≡ length pages = same in omega (arith, some.0, at)

    few : run.count ≤ 16 → length pages ≤ 16
    few h = let at : run.count ≡ length pages = same in omega (arith, h, at)

    go : (b : Bool) → nat_lt 16 run.count ≡ b → if_over b (refusal.TooMany what.Run 16) ≡ None → length pages ≤ 16
    go false is none = few (ltb-false 16 run.count is)
    go true is none = cc
run_told server epoch given opens c some e (reply.Pages pages) told = let wrong : None ≡ Some (length pages) = told in cc
run_told server epoch given opens c some e r told = tt

-- a call on files asks for its own pages
pub asks_its_own : (waits : List WaitingCall) (client : ℕ) (c : Call) (t : TransId) → file_trans c ≡ Some t → asked_pages c ≡ asked_in waits client c
asks_its_own waits client (call.Collect n) t is = let wrong : None ≡ Some t = is in cc
asks_its_own waits client c t is = refl

module _ {V : Type 0} (k new : ServerState V) (turn : Turn) (is : IsTurn k.sessions turn) where
  -- a call of a session is counted there
  pub counts_on : (c : Call) (r : Reply) → IsInSession r → k.clock ≤ new.clock → TellsUpTo new.clock r → TellsRun (asked_in k.waits turn.client c) r → new.sessions ≡ counted_in k.sessions turn r
      → HasTurned (Some order.Next) k new (event.Call turn.client k.epoch turn.number c) (Some r)
  counts_on c r inside later times pages sessions =
      record { later = later; times = times; sessions = (r, refl, (inside, record { who = turn.who; last = is.last; reply = is.kept }, is.session, sessions)); pages = pages }

  -- one that is refused, too
  pub counts_refused : (c : Call) (f : Refusal) → IsInSession (reply.Refused f) → new.clock ≡ k.clock → new.sessions ≡ counted_in k.sessions turn (reply.Refused f)
      → HasTurned (Some order.Next) k new (event.Call turn.client k.epoch turn.number c) (Some (reply.Refused f))
  counts_refused c f inside clock sessions = counts_on c (reply.Refused f) inside (omega (arith, clock)) tt tt sessions
