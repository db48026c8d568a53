-- What the notes of a server are to say of one another and of its files.
use Rattle.std.specs.Prelude.{◌≡◌, ◌≤◌, ℕ, ◌+◌, ◌-◌, min, true, false, sum_by, flat_map, List, [], ◌∷◌, length, Some, map as list_map}
use Rattle.std.specs.List.{list_all, AllByRecursion}
use Rattle.std.specs.FinMap as map
use Rattle.std.specs.Ordering.{eq_by_cmp}
use Rattle.alp_base.specs.Notes.{Notes}
use Rattle.alp_base.specs.Orders.{trans_cmp}
use Rattle.alp_base.specs.declared.cell.Cell.{Cell}
use Rattle.alp_base.specs.declared.faults.Sizes.{Sizes}
use Rattle.alp_base.specs.declared.ids.FileId.{FileId}
use Rattle.alp_base.specs.declared.key.Key.TheVariants.{Leader}
use Rattle.alp_fields.specs.ClockNote.{clock_kept}
use Rattle.alp_fields.specs.declared.clock_note.ClockNote.{ClockNote}
use Rattle.alp_files.specs.Cells.{Cells}
use Rattle.alp_files.specs.Counts.{used_of, file_count_of, owner_count_of}
use Rattle.alp_files.specs.Edits.{Edit, edits_map}
use Rattle.alp_files.specs.Holdings.{held_by, DoAgree}
use Rattle.alp_files.specs.Locks.{Need}
use Rattle.alp_files.specs.Needs.{intents_of, changed, need_of, made_of, is_leader, is_owner}
use Rattle.alp_files.specs.Sound.{AreSound}
use Rattle.alp_vault.specs.Volumes.{AreServerNotes}
use Rattle.alp_vault.specs.declared.limits.TheConstants.{FILES_PER_SERVER, OWNERS_PER_SERVER, HEAD_PAGES}
use Rattle.alp_calls.specs.Parts.{AllFit}
use Rattle.alp_journal.specs.Counts.{with_resources, ready_sum}
use Rattle.alp_journal.specs.Opening.{ReadyNote, DecisionNote, ready_kept, decisions_kept}
use Rattle.alp_regain.specs.Named.{is_drawn_by, is_decided_by, is_own, is_own_resource, is_own_edit, is_mode_on, is_beside_intention, is_covered}
use Rattle.alp_worker.specs.Rooms.{sum_of}
use Rattle.alp_worker.specs.declared.room.PartSize.{PartSize}

-- A part's locks are good for what it changes: they have their intentions beside them, cover the changes, and are no more than a part
-- may have.
pub record AreGoodLocks (locks : List Need) (es : List Edit) : Type 0 where
  pub intended : list_all (λ l. is_beside_intention (held_by locks) l.0 l.1) locks ≡ true
  pub covered : list_all (is_covered (held_by locks)) es ≡ true
  pub few : length (with_resources locks []) ≤ 1024

-- It names no resource and no cell twice, so that its bytes come to no more than what is counted of it.
pub record IsNamedOnce (n : ReadyNote) : Type 0 where
  pub locks : length n.locks ≡ length (with_resources n.locks [])
  pub edits : length n.edits ≡ changed n.edits

-- ---- one part that is ready

-- Its locks are of such modes and good for what it changes. It names files that this server made, in epochs up to that one, and was
-- drawn in one of them, for a client of the run. It changes no more than a part may, and each cell that it puts is within the limits
-- of a file. It names nothing twice.
pub record IsPartNote (server epoch : ℕ) (n : ReadyNote) : Type 0 where
  pub modes : list_all (λ l. is_mode_on l.0 l.1) n.locks ≡ true
  pub locks : AreGoodLocks n.locks n.edits
  pub locked : list_all (λ l. is_own_resource server epoch l.0) n.locks ≡ true
  pub edited : list_all (is_own_edit server epoch) n.edits ≡ true
  pub join : is_drawn_by epoch n.join.epoch n.join.counter ≡ true
  pub client : (1 ≤ n.client) × (n.client ≤ 16)
  pub cells : changed n.edits ≤ 256
  pub once : IsNamedOnce n
  pub fit : AllFit (intents_of n.edits).puts

-- ---- two of them

-- they are of different transactions, whose locks agree
pub record AreTwo (n m : ReadyNote) : Type 0 where
  pub apart : eq_by_cmp trans_cmp n.trans m.trans ≡ false
  pub agree : DoAgree (held_by n.locks) (held_by m.locks)

abbrev pub AreApart : List ReadyNote → Type 0
AreApart [] = Unit {0}
AreApart (n ∷ ns) = AllByRecursion (AreTwo n) ns × AreApart ns

-- ---- all notes, by themselves

-- the clock of the notes of a server that begins an epoch: what was drawn was drawn before that one
abbrev pub clock_before : ℕ → Notes → ClockNote
clock_before epoch notes = record { epoch = min (clock_kept notes).epoch (epoch - 1); clock = (clock_kept notes).clock }

-- what is counted of a part in the log
abbrev pub size_of : ReadyNote → PartSize
size_of n = record { cells = changed n.edits; locks = length (with_resources n.locks []) }

-- the pages of the log that are to be there for parts of these sizes
abbrev pub log_sum : List PartSize → ℕ
log_sum ns = ready_sum (sum_of ns).weights (sum_of ns).greatest

-- Each note is in the format, and so is what it says of a part. Transactions that are decided were drawn in epochs up to that of the clock's note,
-- before the epoch that begins, and none was decided later than its clock. The parts keep apart. With the decisions they are no more than a server has live transactions, and the log has room for them.
pub record AreNotesTogether (server servers epoch area : ℕ) (notes : Notes) : Type 0 where
  pub format : AreServerNotes server servers notes
  pub parts : AllByRecursion (IsPartNote server (clock_before epoch notes).epoch) (ready_kept notes)
  pub decided : list_all (λ (d : DecisionNote). is_decided_by (clock_before epoch notes) d.stamp) (decisions_kept notes) ≡ true
  pub apart : AreApart (ready_kept notes)
  pub few : length (ready_kept notes) + length (decisions_kept notes) ≤ 64
  pub log : log_sum (list_map size_of (ready_kept notes)) ≤ area

-- ---- with the files

-- this server made the files, in epochs up to that one
abbrev pub AreOwnFiles : (server epoch : ℕ) → Cells → Type 0
AreOwnFiles server epoch m = (f : FileId) (c : Cell) → map.get m (Leader f) ≡ Some c → is_own server epoch f ≡ true

-- The volume has room for what all parts add besides what is there, and there are no more files and owners then than a server holds.
pub record HaveRoomTogether (s : Sizes) (m : Cells) (ns : List ReadyNote) : Type 0 where
  pub places : used_of m + sum_by (λ (n : ReadyNote). need_of m n.edits) ns + HEAD_PAGES ≤ s.home
  pub files : file_count_of m + sum_by (λ (n : ReadyNote). made_of is_leader m n.edits) ns ≤ FILES_PER_SERVER
  pub owners : owner_count_of m + sum_by (λ (n : ReadyNote). made_of is_owner m n.edits) ns ≤ OWNERS_PER_SERVER

-- With what each part changes the files are well formed and charged, and with what all of them change.
pub record AreSoundTogether (m : Cells) (ns : List ReadyNote) : Type 0 where
  pub each : AllByRecursion (λ (n : ReadyNote). AreSound (edits_map n.edits m)) ns
  pub all : AreSound (edits_map (flat_map (λ (n : ReadyNote). n.edits) ns) m)

-- Each part is as its note is to say, they keep apart, and log and volume have room for them.
pub record FitTogether (s : Sizes) (m : Cells) (server epoch : ℕ) (ns : List ReadyNote) : Type 0 where
  pub parts : AllByRecursion (IsPartNote server epoch) ns
  pub apart : AreApart ns
  pub log : log_sum (list_map size_of ns) ≤ s.area
  pub room : HaveRoomTogether s m ns

-- ---- all of it

-- The notes go together with one another and with the files. That the server made the files is said by itself.
pub record AreTogether (server servers epoch : ℕ) (s : Sizes) (m : Cells) (notes : Notes) : Type 0 where
  pub notes_alone : AreNotesTogether server servers epoch s.area notes
  pub room : HaveRoomTogether s m (ready_kept notes)
  pub sound : AreSoundTogether m (ready_kept notes)
