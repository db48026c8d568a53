-- Journals of two servers that run one transaction, entry by entry: what the laws are tried on.
use Rattle.std.specs.Prelude.{ℕ, codes, true, List, [], ◌∷◌, None, Some}
use Rattle.std.specs.FinMap as map
use Rattle.alp_base.specs.declared.ids.TransId.{TransId}
use Rattle.alp_base.specs.declared.ids.JoinNo.{JoinNo}
use Rattle.alp_base.specs.declared.ids.Stamp.{Stamp}
use Rattle.alp_base.specs.declared.choices.Choice.TheVariants as choice
use Rattle.alp_files.specs.declared.call.Call.{Call}
use Rattle.alp_files.specs.declared.call.Call.TheVariants as call
use Rattle.alp_files.specs.declared.reply.Reply.{Reply}
use Rattle.alp_files.specs.declared.reply.Reply.TheVariants as reply
use Rattle.alp_files.specs.declared.refusal.Refusal.TheVariants as refusal
use Rattle.alp_journal.specs.declared.act.Act.{Act}
use Rattle.alp_journal.specs.declared.act.Act.TheVariants as act
use Rattle.alp_journal.specs.declared.event.Event.TheVariants as event
use Rattle.alp_journal.specs.declared.message.Message.{Message}
use Rattle.alp_journal.specs.declared.message.Message.TheVariants as msg
use Rattle.alp_journal.specs.declared.entry.Entry.{Entry}
use Rattle.alp_journal.specs.Opening.{Start}

-- ---- who and what

abbrev pub trans : TransId
trans = record { server = 1; epoch = 1; counter = 1 }

abbrev pub join : JoinNo
join = record { server = 2; epoch = 1; counter = 1 }

abbrev pub nothing_seen : Stamp
nothing_seen = record { ts = 0; trans = record { server = 0; epoch = 0; counter = 0 } }

abbrev pub stamp : Stamp
stamp = record { ts = 1; trans = record { server = 1; epoch = 1; counter = 1 } }

abbrev pub new : ℕ → Start
new n = record { server = n; servers = 2; sizes = record { home = 16384; area = 2048 }; epoch = 1; clock = 0; cells = map.empty; ready = []; decisions = [] }

abbrev pub calls : ℕ → ℕ → Call → Reply → List Act → Entry
calls epoch number c r acts = record { event = event.Call 1 epoch number c; reply = Some r; acts = acts }

abbrev pub arrives : ℕ → Message → List Act → Entry
arrives from m acts = record { event = event.Arrive from m; reply = None; acts = acts }

abbrev pub owner : Call
owner = call.MakeOwner trans (codes "ann") 9 (codes "World" ∷ []) choice.Fail

-- ---- the coordinator: a client begins, makes an owner, another server joins, and the client commits

abbrev pub first_up : List Entry
first_up =
    calls 0 1 (call.Hello (codes "Admin")) (reply.Welcome 1) []
    ∷ calls 1 2 (call.Begin nothing_seen) (reply.Begun trans) (act.Drawn trans ∷ [])
    ∷ calls 1 3 owner reply.Plain (act.Granted trans ∷ [])
    ∷ arrives 2 (msg.Register trans join 1) (act.Registered trans join ∷ act.Sent 2 (msg.Joined trans join) ∷ [])
    ∷ calls 1 4 (call.Finish trans true) (reply.Refused refusal.NotYet) (act.Sent 2 (msg.Ask trans join) ∷ [])
    ∷ calls 1 5 (call.ReadOwner trans (codes "ann") choice.Fail) (reply.Refused refusal.Finishing) []
    ∷ []

-- with the last vote it is decided
abbrev pub vote : Entry
vote = arrives 2 (msg.Ready trans join 1) (act.Decided stamp (join ∷ []) ∷ act.Released trans ∷ act.Sent 2 (msg.Commit trans join stamp) ∷ [])

-- the part has applied it
abbrev pub done : Entry
done = arrives 2 (msg.Done trans join) (act.Forgot trans ∷ [])

-- ---- the worker: the client joins, makes an owner there, and the vote is asked

abbrev pub worker_up : List Entry
worker_up =
    calls 0 1 (call.Hello (codes "Admin")) (reply.Welcome 1) []
    ∷ calls 1 2 (call.Join trans) (reply.Refused refusal.NotYet) (act.Sent 1 (msg.Register trans join 1) ∷ [])
    ∷ arrives 1 (msg.Joined trans join) []
    ∷ calls 1 3 (call.Collect 2) reply.Joined []
    ∷ calls 1 4 owner reply.Plain (act.Granted trans ∷ [])
    ∷ []

abbrev pub ask : Entry
ask = arrives 1 (msg.Ask trans join) (act.Readied trans join 1 ∷ act.Sent 1 (msg.Ready trans join 1) ∷ [])

-- ---- what a restart finds

abbrev pub restarts : ℕ → ℕ → List JoinNo → List Stamp → Entry
restarts epoch clock ready stamps = record { event = event.Restart; reply = None; acts = act.Regained epoch clock ready stamps ∷ [] }
