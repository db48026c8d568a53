-- What a volume has room for, and what a commit asks of its change.
use Rattle.std.specs.Prelude.{◌≡◌, ◌≤◌, ◌<◌, ℕ, ◌+◌, ◌*◌, ◌^◌, ◌/◌, Bool, true, false, not, ◌&&◌, ◌||◌, ◌==◌, nat_le, nat_lt, sum_by, List, length, Option, None, Some}
use Rattle.std.specs.Coded.{le_prop}
use Rattle.std.specs.List.{list_all}
use Rattle.std.specs.FinMap as map
use Rattle.alp_base.specs.Notes.{Notes, notes_after}
use Rattle.alp_base.specs.declared.bytes.NoteChange.{NoteChange}
use Rattle.alp_base.specs.declared.faults.Sizes.{Sizes}
use Rattle.alp_base.specs.declared.ids.FileId.{FileId}
use Rattle.alp_base.specs.declared.key.Key.{Key}
use Rattle.alp_base.specs.declared.key.Key.TheVariants.{Leader, PageOf, OwnerOf}
use Rattle.alp_base.specs.declared.lists.TheConstants.{PAGES_PER_FILE}
use Rattle.alp_base.specs.declared.ids.JoinNo.{JoinNo}
use Rattle.alp_base.specs.declared.ids.TransId.{TransId}
use Rattle.alp_fields.specs.Forms.{whole}
use Rattle.alp_fields.specs.Rising.{is_rising, text_below}
use Rattle.alp_fields.specs.ClockNote.{is_clock_note, AreClockNotes, IsClockAtMost}
use Rattle.alp_fields.specs.ReadyNote.{ready_name, ready_in}
use Rattle.alp_fields.specs.DecisionNote.{decision_name, decision_in}
use Rattle.alp_fields.specs.declared.ready_note.ReadyPart.{ReadyPart}
use Rattle.alp_fields.specs.declared.decision_note.Decision.{Decision}
use Rattle.alp_base.specs.declared.cell.Cell.{Cell}
use Rattle.alp_base.specs.declared.cell.Cell.TheVariants as cell
use Rattle.alp_base.specs.declared.cell.Props.{Props}
use Rattle.alp_base.specs.declared.change.Change.{Change}
use Rattle.alp_files.specs.Cells.{Cells, same_name}
use Rattle.alp_files.specs.Changes.{ArePutOnce}
use Rattle.alp_files.specs.Counts.{used_of, file_count_of, owner_count_of, blocks_of}
use Rattle.alp_base.specs.declared.cell.TheConstants.{BLOCK_PAGES}
use Rattle.alp_files.specs.Sound.{AreSound}
use Rattle.alp_files.specs.SoundLaws.{AreSound-prop}
use Rattle.alp_vault.specs.declared.limits.TheConstants.{FILES_PER_SERVER, OWNERS_PER_SERVER, HEAD_PAGES}

-- ---- cells

-- The places of the cells are there on a volume of these sizes, and files, owners and pages are no more than a server holds.
pub record FitsVolume (s : Sizes) (m : Cells) : Type 0 where
  pub places : used_of m + HEAD_PAGES ≤ s.home
  pub files : file_count_of m ≤ FILES_PER_SERVER
  pub owners : owner_count_of m ≤ OWNERS_PER_SERVER
  pub sizes : (f : FileId) (p : Props) → map.get m (Leader f) ≡ Some (cell.Leader p) → p.size ≤ PAGES_PER_FILE

-- the cells of a volume of these sizes: well-formed files that are charged, and that it has room for
pub record IsVolumeOf (s : Sizes) (m : Cells) : Type 0 where
  pub sound : AreSound m
  pub fits : FitsVolume s m

FitsVolume-prop : (s : Sizes) (m : Cells) → IsProp (FitsVolume s m)
FitsVolume-prop s m a b = λ i. record {
  places = le_prop a.places b.places i;
  files = le_prop a.files b.files i;
  owners = le_prop a.owners b.owners i;
  sizes = λ f p is. le_prop (a.sizes f p is) (b.sizes f p is) i;
}

-- Any two proofs of it are one, so that a struct may carry such a proof.
pub IsVolumeOf-prop : (s : Sizes) (m : Cells) → IsProp (IsVolumeOf s m)
IsVolumeOf-prop s m a b = λ i. record { sound = AreSound-prop m a.sound b.sound i; fits = FitsVolume-prop s m a.fits b.fits i }

-- whether a page of the file stands in this block, whose first page number is so many times the block's length
abbrev pub has_block_in : Cells → FileId → ℕ → Bool
has_block_in m f block = map.contains_key (blocks_of (map.entries m)) (PageOf f (BLOCK_PAGES * block))

-- a cell that is put is of its key's kind, and within the limits of a file
abbrev pub fits_key : Key → Cell → Bool
fits_key (Leader f) (cell.Leader p) = nat_le p.size PAGES_PER_FILE
fits_key (Leader f) (cell.Page bytes) = false
fits_key (Leader f) (cell.Owner o) = false
fits_key (PageOf f n) (cell.Leader p) = false
fits_key (PageOf f n) (cell.Page bytes) = nat_lt n PAGES_PER_FILE
fits_key (PageOf f n) (cell.Owner o) = false
fits_key (OwnerOf name) (cell.Leader p) = false
fits_key (OwnerOf name) (cell.Page bytes) = false
fits_key (OwnerOf name) (cell.Owner o) = same_name o.name name

abbrev pub fit_keys : List (Key × Cell) → Bool
fit_keys puts = list_all (λ p. fits_key p.0 p.1) puts

-- ---- notes

-- whether there is such a server in a run of so many, and it is not this one
abbrev pub is_another : ℕ → ℕ → ℕ → Bool
is_another server servers n = nat_le 1 n && nat_le n servers && not (n == server)

-- a part on the server, of a transaction of another server of the run
abbrev pub is_ready_on : ℕ → ℕ → Option (JoinNo × ReadyPart) → Bool
is_ready_on server servers None = false
is_ready_on server servers (Some x) = x.0.server == server && is_another server servers x.1.trans.server

-- a decision of the server, with parts on other servers of the run
abbrev pub is_decision_of : ℕ → ℕ → Option (TransId × Decision) → Bool
is_decision_of server servers None = false
is_decision_of server servers (Some x) = x.0.server == server && list_all (λ j. is_another server servers j.server) x.1.joins

-- A note of that name with that value is in the format of a server, which is one of so many: it keeps the epoch and the clock, or a
-- part that voted for its commit, or a decision. What such notes say of one another and of the files is not asked yet.
abbrev pub is_server_note : ℕ → ℕ → List ℕ → List ℕ → Bool
is_server_note server servers name value = is_clock_note name value || (is_ready_on server servers (ready_in name value) || is_decision_of server servers (decision_in name value))

-- all notes are
abbrev pub AreServerNotes : ℕ → ℕ → Notes → Type 0
AreServerNotes server servers notes = (name value : List ℕ) → map.get notes name ≡ Some value → is_server_note server servers name value ≡ true

-- a note of that name may end: one of a part on the server, or of a decision of it
abbrev pub is_join_on : ℕ → Option JoinNo → Bool
is_join_on server None = false
is_join_on server (Some j) = j.server == server

abbrev pub is_trans_of : ℕ → Option TransId → Bool
is_trans_of server None = false
is_trans_of server (Some t) = t.server == server

abbrev pub may_end : ℕ → List ℕ → Bool
may_end server name = is_join_on server (whole ready_name name) || is_trans_of server (whole decision_name name)

-- a note gets a value in the format, or ends
abbrev pub is_note_change : ℕ → ℕ → List ℕ → Option (List ℕ) → Bool
is_note_change server servers name None = may_end server name
is_note_change server servers name (Some value) = is_server_note server servers name value

abbrev pub name_below : NoteChange → NoteChange → Bool
name_below a b = text_below a.name b.name

-- The notes are in the format before the changes and after them, and so is each change. The names of the changes rise, and changes
-- and notes are no more than a log counts.
pub record AreNoteChanges (server servers : ℕ) (live : Notes) (changes : List NoteChange) : Type 0 where
  pub before : AreServerNotes server servers live
  pub after : AreServerNotes server servers (notes_after changes live)
  pub each : list_all (λ n. is_note_change server servers n.name n.value) changes ≡ true
  pub rise : is_rising name_below changes ≡ true
  pub few : length changes + map.len live < 2 ^ 16

-- ---- what a server does with notes so far

-- Of whichever server they are, it has no part that is ready and no decision with parts elsewhere, as each that is alone in its run.
abbrev pub AreNotesSoFar : ℕ → ℕ → Notes → Type 0
AreNotesSoFar server servers notes = AreClockNotes notes

-- and at most the note of the clock is changed
pub record AreChangesSoFar (server servers : ℕ) (live : Notes) (changes : List NoteChange) : Type 0 where
  pub before : AreNotesSoFar server servers live
  pub after : AreNotesSoFar server servers (notes_after changes live)
  pub each : IsClockAtMost changes

-- ---- the log

-- the pages of a record of so many bytes, behind its header
abbrev pub record_pages : ℕ → ℕ
record_pages bytes = 1 + (bytes + 511) / 512

-- a note that is put: two marks and two lengths, the name, the value
abbrev pub put_bytes : List ℕ × List ℕ → ℕ
put_bytes e = 6 + length e.0 + length e.1

-- a change of a note: one that ends has no value
abbrev pub noted_bytes : List ℕ → Option (List ℕ) → ℕ
noted_bytes name None = 2 + length name
noted_bytes name (Some value) = put_bytes (name, value)

-- a record of the live notes
abbrev pub live_bytes : Notes → ℕ
live_bytes notes = 4 + sum_by put_bytes (map.entries notes)

-- the cells and files that a change names
abbrev pub changed_cells : Change → ℕ
changed_cells change = length change.puts + length change.cuts + length change.drops

-- the record of a commit: at most four pages with their numbers for each of so many cells, and the changes of notes
abbrev pub commit_bytes : ℕ → List NoteChange → ℕ
commit_bytes cells changes = 4 + 516 * (4 * cells) + sum_by (λ n. noted_bytes n.name n.value) changes

-- an area of so many pages has room for a record of the live notes and behind it one of the commit
abbrev pub FitsLog : ℕ → Notes → Change → List NoteChange → Type 0
FitsLog area live change changes = record_pages (live_bytes live) + record_pages (commit_bytes (changed_cells change) changes) ≤ area

-- ---- all that a commit asks, whatever the vault tells

pub record IsCommit (s : Sizes) (server servers : ℕ) (live : Notes) (change : Change) (changes : List NoteChange) : Type 0 where
  pub once : ArePutOnce change.puts
  pub puts : fit_keys change.puts ≡ true
  pub noted : AreNoteChanges server servers live changes
  pub log : FitsLog s.area live change changes
