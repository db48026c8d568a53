-- What a fault of the vault comes to.
use Rattle.std.specs.Prelude.{◌≡◌, ℕ, ◌≤◌, Bool, true, false, IsTrue, List, [], ◌∷◌, Option, Some, Result, Ok, Err}
use Rattle.alp_base.specs.Causes.{Rose}
use Rattle.alp_base.specs.declared.allowance.Allowance.{Allowance}
use Rattle.alp_base.specs.declared.allowance.Allowance.TheVariants.{Spent}
use Rattle.alp_files.specs.declared.reply.Reply.{Reply}
use Rattle.alp_files.specs.declared.reply.Reply.TheVariants as reply
use Rattle.alp_files.specs.declared.refusal.Refusal.TheVariants as refusal
use Rattle.alp_files.specs.declared.refusal.Why.TheVariants as why
use Rattle.alp_vault.specs.declared.vault.Vault.{Ghosts}
use Rattle.alp_journal.specs.declared.act.Act.{Act}
use Rattle.alp_journal.specs.declared.act.Act.TheVariants as act
use Rattle.alp_journal.specs.declared.message.Message.{Message}
use Rattle.alp_journal.specs.declared.message.Message.TheVariants as msg
use Rattle.alp_journal.specs.Timely.{IsTimelyMessage}
use Rattle.alp_node.specs.declared.stored.StoreFault.{StoreFault}
use Rattle.alp_node.specs.declared.stored.StoreFault.TheVariants as fault

-- where memory was wanting, the vault holds, counts and allows what it did
pub record IsUncounted {V : Type 0} (G : Ghosts V) (old new : V) : Type 0 where
  pub held : G.held new ≡ G.held old
  pub faults : G.faults new ≡ G.faults old
  pub allowance : G.allowance new ≡ G.allowance old

-- How a commit ends: the vault serves on unless it failed or was stopped in it, and then not. The count of faults stays but
-- where it failed or was stopped, and never falls, and a fault has its cause.
abbrev pub Ends : {V T : Type 0} → Ghosts V → V → V → Result T StoreFault → Type 0
Ends G old new (Ok x) = IsTrue (G.serves new) × (G.faults new ≡ G.faults old)
Ends G old new (Err fault.OutOfMemory) = IsTrue (G.serves new) × IsUncounted G old new
Ends G old new (Err fault.Failed) = (G.serves new ≡ false) × Rose (G.faults old) (G.faults new) × (G.faults old ≤ G.faults new)
Ends G old new (Err fault.Stopped) = (G.serves new ≡ false) × (G.allowance new ≡ Spent) × (G.faults old ≤ G.faults new)

-- it says that the server takes no event: it is down, or its journal is full
abbrev pub says_shut : Option Reply → Bool
says_shut (Some (reply.Refused refusal.Down)) = true
says_shut (Some (reply.Refused refusal.JournalFull)) = true
says_shut r = false

-- what is said to another server tells no time beyond the last, and no vote says that a read failed
abbrev pub MaySay : Message → Type 0
MaySay (msg.No t j why.ReadFault) = ⊥
MaySay m = IsTimelyMessage m

-- the vault failed or was stopped where the acts say so, and what is said to other servers may be said
abbrev pub HaveCauses : ℕ → ℕ → Allowance → List Act → Type 0
HaveCauses before now allowance [] = Unit {0}
HaveCauses before now allowance (act.Failed ∷ more) = Rose before now × HaveCauses before now allowance more
HaveCauses before now allowance (act.Stopped ∷ more) = (allowance ≡ Spent) × HaveCauses before now allowance more
HaveCauses before now allowance (act.Sent to message ∷ more) = MaySay message × HaveCauses before now allowance more
HaveCauses before now allowance (_ ∷ more) = HaveCauses before now allowance more
