-- the notes of a server stand as calls are answered that write nothing
use Rattle.std.specs.Prelude.{Bool, false, Some, ◌||◌}
use Rattle.std.specs.List.{list_any}
use Rattle.std.proofs.Common.{◌≡◌, ℕ, List, [], ◌∷◌, ◌++◌, refl}
use Rattle.alp_base.specs.Notes.{Notes}
use Rattle.alp_base.specs.declared.ids.TransId.{TransId}
use Rattle.alp_files.specs.declared.call.Call.{Call}
use Rattle.alp_files.specs.declared.reply.Reply.{Reply}
use Rattle.alp_journal.specs.declared.act.Act.{Act}
use Rattle.alp_journal.specs.declared.act.Act.TheVariants as act
use Rattle.alp_journal.specs.declared.event.Event.TheVariants as event
use Rattle.alp_journal.specs.Account.{Account, state_of, IsQuiet, Leads, sent_acts}
use Rattle.alp_journal.specs.Desk.{Session}
use Rattle.alp_journal.specs.Messages.{Mail}
use Rattle.alp_journal.proofs.CallLemmas.{call_entry}
use Rattle.alp_node.specs.Durable.{AreNotesOf}
use Rattle.alp_node.specs.Releases.{grant_acts}
use Rattle.alp_node.proofs.NoteLaw.{is_write, notes_stay}

pub call_notes : (failed : Bool) (a m : Account) (client number : ℕ) (w : Session) (c : Call) (r : Reply) (acts : List Act) → IsQuiet a → Leads failed a (call_entry a client number w c r acts) m → list_any is_write acts ≡ false
    → (notes : Notes) → AreNotesOf (state_of a) a.ids.epoch notes → AreNotesOf (state_of m) a.ids.epoch notes
call_notes failed a m client number w c r acts quiet leads none notes h =
    notes_stay a m (call_entry a client number w c r acts) quiet leads.lawful leads.leaves (λ e. let wrong : event.Call client a.ids.epoch number c ≡ event.Restart = e in cc) none tt a.ids.epoch notes h

-- no grant writes, and no message does
pub grants_write : (ts : List TransId) (more : List Act) → list_any is_write more ≡ false → list_any is_write (grant_acts ts ++ more) ≡ false
grants_write [] more none = none
grants_write (t ∷ ts) more none = grants_write ts more none

pub sent_write : (ms : List Mail) → list_any is_write (sent_acts ms) ≡ false
sent_write [] = refl
sent_write (m ∷ ms) = sent_write ms
