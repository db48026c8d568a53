-- The transactions that committed, read off the journals: by the acts that took effect, and by the numbers that clients gave their calls.
use Rattle.std.specs.Prelude.{◌≡◌, ℕ, ◌+◌, Bool, true, false, not, ◌==◌, ◌&&◌, ◌||◌, nat_le, List, [], ◌∷◌, ◌++◌, filter, flat_map, map as list_map, take, Option, None, Some, is_none, if◌then◌else◌}
use Rattle.std.specs.List.{list_any}
use Rattle.std.specs.Option.{option_to_list}
use Rattle.alp_base.specs.declared.ids.FileId.{FileId}
use Rattle.alp_base.specs.declared.ids.TransId.{TransId}
use Rattle.alp_base.specs.declared.ids.Stamp.{Stamp}
use Rattle.alp_files.specs.declared.call.Call.{Call}
use Rattle.alp_files.specs.declared.call.Call.TheVariants as call
use Rattle.alp_files.specs.declared.reply.Reply.{Reply}
use Rattle.alp_files.specs.declared.reply.Reply.TheVariants as reply
use Rattle.alp_files.specs.declared.refusal.Refusal.TheVariants as refusal
use Rattle.alp_files.specs.Act.{id_in}
use Rattle.alp_files.specs.Cells.{Cells, has_file}
use Rattle.alp_files.specs.History.{PerformedCall, Standing, IsRight, step, begun}
use Rattle.alp_files.specs.Passing.{is_passing}
use Rattle.alp_files.specs.Sound.{AreSound}
use Rattle.alp_journal.specs.declared.act.Act.{Act}
use Rattle.alp_journal.specs.declared.act.Act.TheVariants as act
use Rattle.alp_journal.specs.declared.event.Event.{Event}
use Rattle.alp_journal.specs.declared.event.Event.TheVariants as event
use Rattle.alp_journal.specs.declared.entry.Entry.{Entry}
use Rattle.alp_journal.specs.Desk.{Session, file_trans}
use Rattle.alp_journal.specs.Ids.{same_trans, is_drawn}
use Rattle.alp_journal.specs.Moves.{follows, who_is, stops}
use Rattle.alp_history.specs.Log.{ServerLog, Log, journal_of, opening_of, Decision, all_put, Standings}

-- ---- what is decided with effect

abbrev pub named_in : List Act → List Decision
named_in [] = []
named_in (act.Decided stamp joins ∷ acts) = (stamp, joins) ∷ named_in acts
named_in (a ∷ acts) = named_in acts

-- a restart finds a clock that is not below the time
abbrev pub is_found : ℕ → Event → List Act → Bool
is_found time event.Restart (act.Regained epoch clock ready stamps ∷ []) = nat_le time clock
is_found time e acts = false

-- nothing stopped the entry, or the restart behind it finds that its write was made
abbrev pub takes_effect : Entry → List Entry → Decision → Bool
takes_effect e later d = not (stops e) || list_any (λ (f : Entry). is_found d.0.ts f.event f.acts) (take 1 later)

abbrev pub decided_in : List Entry → List Decision
decided_in [] = []
decided_in (e ∷ es) = filter (takes_effect e es) (named_in e.acts) ++ decided_in es

-- those of all servers, by rising stamp
abbrev pub committed : Log → List Decision
committed log = all_put (flat_map (λ (x : ServerLog). decided_in x.journal) log.servers) []

-- ---- what is performed

-- What the calls so far tell: the epoch, the sessions of clients, their calls by number, and the files that were made.
pub record Told : Type 0 where
  pub epoch : ℕ
  pub sessions : ℕ → Option Session
  pub said : ℕ → ℕ → Option Call
  pub made : List FileId

-- a file call that was performed for a transaction, for the principal of its client's session
pub record Done : Type 0 where
  pub trans : TransId
  pub who : List ℕ
  pub call : PerformedCall

-- an open of a file whose id this server never gave is refused before all locks
abbrev pub is_unseen : ℕ → Told → Call → Reply → Bool
is_unseen n s (call.OpenFile t f access mode choice) (reply.Refused refusal.UnknownFile) = not (is_drawn n s.epoch 0 f.server f.epoch f.counter || has_file f s.made)
is_unseen n s c r = false

-- the call that a reply is for: the one that came, or the one that is collected
abbrev pub asked : Told → ℕ → Call → Option Call
asked s client (call.Collect number) = s.said client number
asked s client c = Some c

abbrev pub done_by : ℕ → Told → List ℕ → Reply → Call → List Done
done_by n s who r c = if is_passing r || is_unseen n s c r then [] else list_map (λ t. record { trans = t; who = who; call = record { call = c; reply = r } }) (option_to_list (file_trans c))

-- a call with the next number of its session performs what it asks for, where its reply rests on files alone
abbrev pub done_at : ℕ → Told → Event → Option Reply → List Done
done_at n s (event.Call client epoch number c) (Some r) = if follows s.epoch epoch number (s.sessions client) then flat_map (done_by n s (who_is (s.sessions client)) r) (option_to_list (asked s client c)) else []
done_at n s e r = []

abbrev pub with_call : Told → (client number : ℕ) → List ℕ → Call → Reply → Told
with_call s client number who c r = record s {
  sessions = λ k. if k == client then Some (record { who = who; last = number; reply = r }) else s.sessions k;
  said = λ k m. if k == client && m == number then Some c else s.said k m;
}

-- A greeting begins a session with number 1 where there is none; a call with the next number is its last one from then on; a restart ends them all.
abbrev pub told_by : Told → Event → Option Reply → Told
told_by s (event.Call client epoch number (call.Hello name)) (Some r) = if is_none (s.sessions client) && (epoch == 0 && number == 1) then with_call s client 1 name (call.Hello name) r else s
told_by s (event.Call client epoch number c) (Some r) = if follows s.epoch epoch number (s.sessions client) then with_call s client number (who_is (s.sessions client)) c r else s
told_by s event.Restart r = record s { epoch = s.epoch + 1; sessions = λ c. None }
told_by s e r = s

-- what the entries of a server's journal do, behind calls that told so much
abbrev pub done_from : ℕ → Told → List Entry → List Done
done_from n s [] = []
done_from n s (e ∷ es) =
    if stops e then done_from n s es
    else done_at n s e.event e.reply ++ done_from n (told_by (record s { made = flat_map (λ (d : Done). option_to_list (id_in d.call.reply)) (done_at n s e.event e.reply) ++ s.made }) e.event e.reply) es

-- what a server did for a transaction, in order
abbrev pub part_at : Log → Stamp → ℕ → List Done
part_at log x n = filter (λ (d : Done). same_trans d.trans x.trans) (done_from n (record { epoch = (opening_of log n).epoch; sessions = λ c. None; said = λ c k. None; made = [] }) (journal_of log n))

-- ---- one thread

-- a thread does these calls at a server, each is answered as recorded, and it stands so then
abbrev pub Does : ℕ → Standing → List Done → Standing → Type 0
Does n s [] t = t ≡ s
Does n s (d ∷ ds) t = IsRight n s d.who d.call × Does n (step n s d.who d.call) ds t

-- One thread does the transactions one after the other, each at all servers, and the files end so.
abbrev pub Serial : Log → Standings → List Decision → (ℕ → Cells → Type 0) → Type 0
Serial log at [] Ends = (n : ℕ) → Ends n (at n).files
Serial log at (d ∷ ds) Ends = (next : Standings) × ((n : ℕ) → Does n (begun (at n)) (part_at log d.0 n) (next n)) × Serial log next ds Ends

-- and behind each of them each owner is charged the sizes of its files
abbrev pub Charged : Log → Standings → List Decision → Type 0
Charged log at [] = Unit {0}
Charged log at (d ∷ ds) = (next : Standings) × ((n : ℕ) → Does n (begun (at n)) (part_at log d.0 n) (next n)) × ((n : ℕ) → AreSound (next n).files) × Charged log next ds
