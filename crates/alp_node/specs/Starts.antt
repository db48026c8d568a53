-- How a server starts: in the epoch after that of its note.
use Rattle.std.specs.Prelude.{◌≡◌, ◌⊎◌, ℕ, ◌≤◌, ◌+◌, ◌==◌, Bool, IsTrue, List, Option, None, Some, Result, Ok, Err, OnOk, if◌then◌else◌}
use Rattle.std.specs.FinMap as map
use Rattle.alp_base.specs.declared.allowance.Allowance.{Allowance}
use Rattle.alp_base.specs.declared.ids.FileId.{FileId}
use Rattle.alp_base.specs.declared.key.Key.TheVariants.{Leader}
use Rattle.alp_fields.specs.Forms.{whole}
use Rattle.alp_fields.specs.ClockNote.{clock_name, clock_form, clock_kept}
use Rattle.alp_fields.specs.declared.clock_note.ClockNote.{ClockNote}
use Rattle.alp_base.specs.declared.cell.Cell.{Cell}
use Rattle.alp_vault.specs.Contents.{Contents}
use Rattle.alp_base.specs.Faults.{HasFaultCause, IsOfVolume}
use Rattle.alp_base.specs.Allowances.{Spends}
use Rattle.alp_base.specs.declared.faults.Sizes.{Sizes}
use Rattle.alp_regain.specs.Together.{AreNotesTogether, AreTogether}
use Rattle.alp_vault.specs.Vault.{IsSameVault}
use Rattle.alp_vault.specs.declared.vault.Vault.{Ghosts}
use Rattle.alp_node.specs.Durable.{Leaves, Besides}
use Rattle.alp_node.specs.Found.{GoApart}
use Rattle.alp_node.specs.Halts.{Ends}
use Rattle.alp_node.specs.declared.stored.StoreFault.{StoreFault}
use Rattle.alp_node.specs.declared.start.StartFault.{StartFault}
use Rattle.alp_node.specs.declared.start.StartFault.TheVariants as fault

-- ids of files were given by this server, in epochs up to that of the note
abbrev pub GaveFiles : ℕ → Contents → Type 0
GaveFiles server held = (f : FileId) (c : Cell) → map.get held.cells (Leader f) ≡ Some c → (f.server ≡ server) × (f.epoch ≤ (clock_kept held.notes).epoch)

abbrev pub after_clock : Option ClockNote → Result ClockNote StartFault
after_clock None = Err fault.BadNote
after_clock (Some c) = if c.epoch == 4294967295 then Err fault.EpochEnd else Ok (record c { epoch = c.epoch + 1 })

-- a server starts in the epoch after that of its note, or in epoch 1 with clock 0 where there is none
abbrev pub after_note : Option (List ℕ) → Result ClockNote StartFault
after_note None = Ok (record { epoch = 1; clock = 0 })
after_note (Some value) = after_clock (whole clock_form value)

abbrev pub raised : Contents → Result ClockNote StartFault
raised held = after_note (map.get held.notes clock_name)

-- the epoch after that of the note
abbrev pub epoch_after : Contents → ℕ
epoch_after held = (clock_kept held.notes).epoch + 1

-- with that clock in its note
abbrev pub with_clock : Contents → ClockNote → Contents
with_clock c clock = record c { notes = map.insert c.notes clock_name (clock_form.spell clock) }

-- What one write of the clock's note comes to: the cells stay, and so do the other notes. Through the whole write a crash leaves what was held,
-- or that with the note.
pub record PutsClock {V : Type 0} (G : Ghosts V) (old new : V) (clock : ClockNote) (r : Result (Unit {0}) StoreFault) : Type 0 where
  pub same : IsSameVault G.tells G.volume G.server G.servers old new
  pub cells : IsTrue (G.tells old) → OnOk r ((G.held new).cells ≡ (G.held old).cells)
  pub notes : OnOk r ((G.held new).notes ≡ map.insert (G.held old).notes clock_name (clock_form.spell clock))
  pub leaves : IsTrue (G.tells old) → Leaves G old new (Besides G old (λ c. c ≡ with_clock (G.held old) clock))
  pub spends : Spends (G.allowance old) (G.allowance new)
  pub ended : Ends G old new r

-- A server started on what its vault held: notes that go together, and with the files as far as the vault tells, and cells that stay. The
-- epoch and the clock that it raised the note to stand in it.
pub record HasRaised (tells : Bool) (server servers : ℕ) (s : Sizes) (before now : Contents) (clock : ClockNote) : Type 0 where
  pub alone : AreNotesTogether server servers (epoch_after before) s.area before.notes
  pub together : IsTrue tells → AreTogether server servers (epoch_after before) s before.cells before.notes
  pub next : raised before ≡ Ok clock
  pub cells : IsTrue tells → now.cells ≡ before.cells
  pub notes : now.notes ≡ map.insert before.notes clock_name (clock_form.spell clock)

-- it is what was held, or that with the raised note
abbrev pub IsKeptOrRaised : Contents → Contents → Type 0
IsKeptOrRaised held c = (c ≡ held) ⊎ (k : ClockNote) × (raised held ≡ Ok k) × (c ≡ with_clock held k)

-- it is the note by which the server does not start
abbrev pub IsNoteFault : StartFault → Type 0
IsNoteFault fault.BadNote = Unit {0}
IsNoteFault fault.EpochEnd = Unit {0}
IsNoteFault (fault.Vault f) = ⊥

-- Why a server does not start: a fault of the vault, which is a volume in its format, or what its notes say. The count of faults
-- never falls. The notes of this server, one of so many, are to go together.
abbrev pub HasStartCause : Bool → (server servers : ℕ) → Sizes → Contents → (before now : ℕ) → Allowance → StartFault → Type 0
HasStartCause tells server servers s held before now allowance (fault.Vault f) = HasFaultCause before now allowance f × IsOfVolume f × (before ≤ now)
HasStartCause tells server servers s held before now allowance fault.BadNote = GoApart tells server servers (epoch_after held) s held
HasStartCause tells server servers s held before now allowance fault.EpochEnd = raised held ≡ Err fault.EpochEnd
