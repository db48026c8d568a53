-- What the live parts of a server intend leaves well-formed files whose owners are charged rightly, whichever of them are applied.
use Rattle.std.specs.Prelude.{◌≡◌, true, List, [], ◌∷◌, ◌++◌, Option, None, Some}
use Rattle.std.specs.FinMap as map
use Rattle.alp_base.specs.declared.ids.TransId.{TransId}
use Rattle.alp_files.specs.Apart.{AreSized, OpensRead, IsWithin as AreWithin}
use Rattle.alp_files.specs.Cells.{Cells}
use Rattle.alp_files.specs.Edits.{Edit, edits_map}
use Rattle.alp_files.specs.Holdings.{IsIntended}
use Rattle.alp_files.specs.Locks.{Reads, Writes}
use Rattle.alp_files.specs.Sound.{AreSound}
use Rattle.alp_journal.specs.Account.{are_trans_apart}
use Rattle.alp_journal.specs.Holder.{Holder, Life}
use Rattle.alp_journal.specs.Laws.{DoLivesAgree}
use Rattle.alp_node.specs.Covers.{AreSizedEdits}

-- what a part intends, and none of one that is not live
abbrev pub edits_in : Option Life → List Edit
edits_in None = []
edits_in (Some l) = l.edits

-- what these intend, one after the other
abbrev pub all_edits : (TransId → Option Life) → List TransId → List Edit
all_edits lives [] = []
all_edits lives (t ∷ ts) = edits_in (lives t) ++ all_edits lives ts

-- with whichever of them the files are sound, each taken once at most
abbrev pub AreSoundInAny : (TransId → Option Life) → Cells → Type 0
AreSoundInAny lives m = (ts : List TransId) → are_trans_apart ts ≡ true → AreSound (edits_map (all_edits lives ts) m)

-- A part may write what it changes, and read the leader of each file that it has open. It puts no leader whose size is no number of
-- pages, and has an intention beside each lock on a leaf.
pub record IsSoundPart (l : Life) : Type 0 where
  pub within : AreWithin (Writes l.held) l.edits
  pub opens : OpensRead (Reads l.held) l.own.opens
  pub puts : AreSizedEdits l.edits
  pub intended : IsIntended l.held

-- All of it: the files are sound with whichever parts, whose locks agree and cover what they do.
pub record AreSoundLives (m : Cells) (lives : TransId → Option Life) : Type 0 where
  pub sound : AreSoundInAny lives m
  pub sized : AreSized (map.get m)
  pub agree : DoLivesAgree lives
  pub parts : (t : TransId) (l : Life) → lives t ≡ Some l → IsSoundPart l

abbrev pub HasSoundLives : Holder → Type 0
HasSoundLives h = AreSoundLives h.cells h.lives
