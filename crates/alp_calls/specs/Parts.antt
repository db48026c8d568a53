-- A part as the server keeps it: what it sees, and what a call that it performs does to it.
use Rattle.std.specs.Prelude.{◌≡◌, ◌+◌, ◌≤◌, ◌<◌, ◌^◌, ℕ, Bool, IsTrue, IsSome, List, [], ◌∷◌, ◌++◌, Option, None, Some, true, false, length}
use Rattle.std.specs.FinMap as map
use Rattle.alp_base.specs.declared.ids.FileId.{FileId}
use Rattle.alp_base.specs.declared.key.Key.{Key}
use Rattle.alp_base.specs.declared.lists.TheConstants.{PAGES_PER_FILE}
use Rattle.alp_base.specs.declared.cell.Cell.{Cell}
use Rattle.alp_files.specs.declared.refusal.Refusal.{Refusal}
use Rattle.alp_files.specs.declared.refusal.Refusal.TheVariants as refusal
use Rattle.alp_files.specs.declared.call.Call.{Call}
use Rattle.alp_files.specs.declared.call.Call.TheVariants as call
use Rattle.alp_files.specs.declared.reply.Reply.{Reply}
use Rattle.alp_files.specs.declared.reply.Reply.TheVariants as reply
use Rattle.alp_files.specs.Act.{Own, Answer, Look, run, answer, id_in, program, without_open, without_file}
use Rattle.alp_files.specs.Cells.{Cells, View, has_file}
use Rattle.alp_files.specs.Edits.{Edit}
use Rattle.alp_files.specs.Needs.{intents_from, intents_of, through, changed_by}
use Rattle.alp_files.specs.Passing.{is_passing, IsFileReply}
use Rattle.alp_files.specs.Reading.{asked_pages, TellsPages}
use Rattle.alp_files.specs.Sound.{HasItsPages}
use Rattle.alp_files.specs.Undo.{puts_of}
use Rattle.alp_vault.specs.Volumes.{fits_key, fit_keys}
use Rattle.alp_journal.specs.Answers.{unless_counts}
use Rattle.alp_journal.specs.Desk.{file_trans}
use Rattle.alp_trans.specs.Counting.{AreCountsOf, AreFew}
use Rattle.alp_trans.specs.Parts.{own_of, gone_edits, AreBeside}
use Rattle.alp_trans.specs.declared.counts.Counts.{Counts}
use Rattle.alp_trans.specs.declared.gone.Gone.{Gone}
use Rattle.alp_trans.specs.declared.part.Part.{Part}
use Rattle.alp_calls.specs.Limits.{refused_for}
use Rattle.alp_calls.specs.Opened.{OpensNoOther}
use Rattle.alp_calls.specs.declared.limits.Room.{Room}
use Rattle.alp_calls.specs.declared.said.Effect.{Effect}
use Rattle.alp_calls.specs.declared.said.OpenChange.{OpenChange}
use Rattle.alp_calls.specs.declared.said.OpenChange.TheVariants.{Stay, Opened, Closed, Left}
use Rattle.alp_calls.specs.declared.said.Said.{Said}
use Rattle.alp_calls.specs.declared.said.Said.TheVariants.{Told, Done}

-- what a part sees of the files that are held
abbrev pub seen : Cells → Part → View
seen held p = through p.intents (map.get held)

-- ---- what is true of each part, whatever its vault tells

-- each cell is of its key's kind, and within the limits of a file
abbrev pub AllFit : Cells → Type 0
AllFit m = (k : Key) (c : Cell) → map.get m k ≡ Some c → fits_key k c ≡ true

pub record IsPart (p : Part) : Type 0 where
  pub cells : p.counts.cells ≡ changed_by p.intents
  pub most : p.counts.cells ≤ 256
  pub few : AreFew p.counts
  pub fit : AllFit p.intents.puts

-- a file gets no more pages than a file may have
abbrev pub IsShaped : Call → Type 0
IsShaped (call.CreateFile trans start choice) = start.size ≤ PAGES_PER_FILE
IsShaped (call.SetSize trans open_no size choice) = size ≤ PAGES_PER_FILE
IsShaped _ = Unit {0}

-- it is a file call, and a write brings as many pages as its run has
pub record CanPerform (p : Part) (c : Call) : Type 0 where
  pub part : IsPart p
  pub last : p.last + 1 < 2 ^ 32
  pub file : IsSome (file_trans c)
  pub whole : HasItsPages c
  pub shaped : IsShaped c

-- ---- what a call comes to, before the part changes

abbrev pub reply_of : Said → Reply
reply_of (Told r) = r
reply_of (Done r e) = r

abbrev pub gone_in : Said → Option Gone
gone_in (Told r) = None
gone_in (Done r e) = e.gone

abbrev pub puts_in : Said → List (Key × Cell)
puts_in (Told r) = []
puts_in (Done r e) = e.puts.items

abbrev pub opens_in : Said → OpenChange
opens_in (Told r) = Stay
opens_in (Done r e) = e.opens

abbrev pub is_told : Said → Bool
is_told (Told r) = true
is_told (Done r e) = false

-- what goes, and then what is put
abbrev pub edits_in : Effect → List Edit
edits_in e = gone_edits e.gone ++ puts_of e.puts.items

abbrev pub own_with : Own → OpenChange → Own
own_with own Stay = own
own_with own (Opened o) = record { last = o.number; opens = own.opens ++ o ∷ [] }
own_with own (Closed n) = record own { opens = without_open own.opens n }
own_with own (Left f) = record own { opens = without_file own.opens f }

abbrev pub answer_of : Own → Said → Answer
answer_of own (Told r) = record { reply = Some r; edits = []; own = own }
answer_of own (Done r e) = record { reply = Some r; edits = edits_in e; own = own_with own e.opens }

-- a thread that looks so is told this
abbrev pub Says : Cells → Part → Said → (Own → Look) → Type 0
Says held p s look = run (seen held p) (look (own_of p)) ≡ answer_of (own_of p) s

-- the same where the reply may give the id to a new file, which no earlier file had
abbrev pub SaysNew : Cells → Part → FileId → Said → (List FileId → Own → Option FileId → Look) → Type 0
SaysNew held p id s look = (made : List FileId) → has_file id made ≡ false → Says held p s (λ own. look made own (id_in (reply_of s)))

-- the right answer to the call, where this id is the next one
abbrev pub SaysCall : Cells → Part → List ℕ → FileId → Call → Said → Type 0
SaysCall held p who id c s = SaysNew held p id s (λ made own. program id.server made who own c)

-- the open that is made is the next one
abbrev pub IsNextOpen : ℕ → OpenChange → Type 0
IsNextOpen last (Opened o) = o.number ≡ last + 1
IsNextOpen last _ = Unit {0}

-- the puts fit their keys, and are few
pub record ArePuts (puts : List (Key × Cell)) : Type 0 where
  pub fit : fit_keys puts ≡ true
  pub few : length puts ≤ 256

-- if a new file got an id, it is this one
abbrev pub GivesOnly : FileId → Reply → Type 0
GivesOnly id r = (f : FileId) (n : ℕ) → r ≡ reply.Created f n → f ≡ id

-- no new file got an id
abbrev pub GivesNone : Reply → Type 0
GivesNone r = (f : FileId) (n : ℕ) → r ≡ reply.Created f n → ⊥

-- a reply that tells contents of files or owners
abbrev pub has_contents : Reply → Bool
has_contents (reply.Pages pages) = true
has_contents (reply.Props p) = true
has_contents (reply.Owner o) = true
has_contents _ = false

-- it says that a journal is full
abbrev pub is_full : Reply → Bool
is_full (reply.Refused refusal.JournalFull) = true
is_full _ = false

-- a part gives what one thread gets, and knows nothing of a journal
abbrev pub IsPartReply : Reply → Type 0
IsPartReply r = IsFileReply r × (is_full r ≡ false)

-- nor does a refusal of it
abbrev pub IsPartRefusal : Refusal → Type 0
IsPartRefusal f = IsPartReply (reply.Refused f)

-- what is said is an answer to a file call, contents are told where nothing changes, and what is put stands beside what goes
pub record IsProper (p : Part) (s : Said) : Type 0 where
  pub own : is_passing (reply_of s) ≡ false
  pub kind : IsPartReply (reply_of s)
  pub reads : has_contents (reply_of s) ≡ true → is_told s ≡ true
  pub next : IsNextOpen p.last (opens_in s)
  pub puts : ArePuts (puts_in s)
  pub beside : AreBeside (gone_in s) (puts_in s)

-- ---- what a call did to the part

-- the part gave the reply, and stands as the answer says
pub record Performs (old new : Part) (a : Answer) (r : Reply) : Type 0 where
  pub reply : a.reply ≡ Some r
  pub own : own_of new ≡ a.own
  pub view : new.intents ≡ intents_from old.intents a.edits

-- the part's intents, opens and counts are as they were
abbrev pub IsAsBefore : Part → Part → Type 0
IsAsBefore old new = (new.intents ≡ old.intents) × (own_of new ≡ own_of old) × (new.counts ≡ old.counts)

-- such a reply left the part as it was
abbrev pub ReadsOnly : Part → Part → Reply → Type 0
ReadsOnly old new r = has_contents r ≡ true → IsAsBefore old new

-- with these counts, or as it was where it is refused
abbrev pub StandsAfter : (old new : Part) → Counts → Option Refusal → Type 0
StandsAfter old new after None = new.counts ≡ after
StandsAfter old new after (Some f) = IsAsBefore old new

-- What was said is done, or it is refused for what the part would come to with it.
pub record Settled (tells : Bool) (held : Cells) (old new : Part) (room : Room) (s : Said) (r : Reply) : Type 0 where
  pub after : Counts
  pub said : r ≡ unless_counts (reply_of s) (refused_for room old.counts after)
  pub stands : StandsAfter old new after (refused_for room old.counts after)
  pub reads : ReadsOnly old new r
  pub last : new.last ≤ old.last + 1
  pub counts : IsTrue tells → (es : List Edit) → old.intents ≡ intents_of es → AreCountsOf held es old.counts → AreCountsOf held (es ++ (answer_of (own_of old) s).edits) after
  pub done : refused_for room old.counts after ≡ None → Performs old new (answer_of (own_of old) s) (reply_of s)

-- The part comes to these counts with the answer of one thread, and stands as the answer says where nothing refuses it.
pub record IsRight (held : Cells) (old new : Part) (after : Counts) (refused : Option Refusal) (given : Reply) (a : Answer) : Type 0 where
  pub reply : a.reply ≡ Some given
  pub counts : (es : List Edit) → old.intents ≡ intents_of es → AreCountsOf held es old.counts → AreCountsOf held (es ++ a.edits) after
  pub done : refused ≡ None → Performs old new a given

-- One thread is given this, the part comes to these counts with it, and what it gives is that, or a refusal for them. Pages are
-- told to a call that asks for so many.
pub record Answered (tells : Bool) (held : Cells) (old new : Part) (who : List ℕ) (id : FileId) (c : Call) (room : Room) (r : Reply) : Type 0 where
  pub given : Reply
  pub after : Counts
  pub ids : GivesOnly id given
  pub own : is_passing given ≡ false
  pub kind : IsPartReply given
  pub said : r ≡ unless_counts given (refused_for room old.counts after)
  pub stands : StandsAfter old new after (refused_for room old.counts after)
  pub reads : ReadsOnly old new r
  pub last : new.last ≤ old.last + 1
  pub opens : OpensNoOther old.opens.items new.opens.items c r
  pub pages : TellsPages (asked_pages c) r
  pub right : IsTrue tells → (made : List FileId) → has_file id made ≡ false → IsRight held old new after (refused_for room old.counts after) given (answer id.server made (seen held old) who (own_of old) c given)
