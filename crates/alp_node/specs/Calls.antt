-- File calls, which a server answers, and what its answers rest on.
use Rattle.std.specs.Prelude.{◌≡◌, ◌+◌, ℕ, List, [], Bool, true, Option, None, Some, IsSome, Result, Ok, Err}
use Rattle.std.specs.FinMap as map
use Rattle.alp_files.specs.declared.call.Call.{Call}
use Rattle.alp_base.specs.declared.ids.FileId.{FileId}
use Rattle.alp_base.specs.declared.ids.TransId.{TransId}
use Rattle.alp_files.specs.declared.reply.Reply.{Reply}
use Rattle.alp_files.specs.Cells.{Cells}
use Rattle.alp_calls.specs.declared.fault.CallFault.{CallFault}
use Rattle.alp_calls.specs.declared.fault.CallFault.TheVariants as fault
use Rattle.alp_calls.specs.declared.limits.Room.{Room}
use Rattle.alp_journal.specs.declared.act.Act.{Act}
use Rattle.alp_journal.specs.Desk.{file_trans}
use Rattle.alp_trans.specs.declared.part.Part.{Part}
use Rattle.alp_calls.specs.Parts.{IsPart, Answered, IsAsBefore, has_contents}
use Rattle.alp_node.specs.declared.answer.Given.{Given}
use Rattle.alp_node.specs.declared.server_state.ServerState.{ServerState}
use Rattle.alp_node.specs.declared.lives.Live.{Live}
use Rattle.alp_node.specs.declared.lock_counts.LockCounts.{LockCounts}
use Rattle.alp_node.specs.Rooms.{IsRoomOf, locks_given}
use Rattle.alp_node.specs.Steps.{told_answer}

-- file calls, which are all served
abbrev pub IsServedCall : Call → Type 0
IsServedCall c = IsSome (file_trans c)

-- the principal that a part acts for, where one is known
abbrev pub name_in : Option (List ℕ) → List ℕ
name_in None = []
name_in (Some name) = name

-- the id that the next file gets
abbrev pub next_file : {V : Type 0} → ServerState V → FileId
next_file k = record { server = k.server; epoch = k.epoch; counter = k.given + 1 }

-- this reply, with the answer that tells it and what came about
abbrev pub given_of : Reply → List Act → Given
given_of r acts = record { reply = r; answer = told_answer (Some r) acts }

-- it has the answer to what was given; memory to hand it out may be wanting where it tells contents of files
abbrev pub IsAnswerTo : Result Reply CallFault → List Act → Result Given CallFault → Type 0
IsAnswerTo (Ok r) acts (Ok x) = x ≡ given_of r acts
IsAnswerTo (Ok r) acts (Err e) = (e ≡ fault.OutOfMemory) × (has_contents r ≡ true)
IsAnswerTo (Err e) acts x = x ≡ Err e

-- a live part gave this for a call
pub record Gave (tells : Bool) (cells : Cells) (id : FileId) (l : Live) (p : Part) (c : Call) (room : Room) (acts : List Act) (x : Given) : Type 0 where
  pub is : x ≡ given_of x.reply acts
  pub given : Answered tells cells l.part p (name_in l.who) id c room x.reply

-- what a live part gave for a call, or that it stands as before
abbrev pub Outcome : Bool → Cells → FileId → Live → Part → Call → Room → List Act → Result Given CallFault → Type 0
Outcome tells cells id l p c room acts (Ok x) = Gave tells cells id l p c room acts x
Outcome tells cells id l p c room acts (Err e) = IsAsBefore l.part p

-- the part performed the call, and nothing else changed
pub record Performed {V : Type 0} (tells : Bool) (cells : Cells) (old new : ServerState V) (t : TransId) (l : Live) (c : Call) (n : LockCounts) (acts : List Act) (r : Result Given CallFault) : Type 0 where
  pub part : Part
  pub sound : IsPart part
  pub room : Room
  pub left : IsRoomOf tells cells old n.made room
  pub kept : new ≡ record old { lives = map.insert old.lives t (record l { part = part; locks = locks_given l.locks n r }); vault = new.vault }
  pub outcome : Outcome tells cells (next_file old) l part c room acts r
