-- What a server regains from the notes of an earlier run.
use Rattle.std.specs.Prelude.{◌≡◌, ℕ, Bool, true, false, IsTrue, List, [], ◌∷◌, length, None, is_some, map as list_map}
use Rattle.std.specs.List.{list_any, AllByRecursion}
use Rattle.std.specs.FinMap as map
use Rattle.std.specs.Ordering.{eq_by_cmp}
use Rattle.alp_base.specs.Notes.{Notes}
use Rattle.alp_base.specs.Orders.{trans_cmp}
use Rattle.alp_base.specs.declared.ids.TransId.{TransId}
use Rattle.alp_base.specs.declared.key.Resource.{Resource}
use Rattle.alp_coord.specs.Coordinators.{noted}
use Rattle.alp_regain.specs.Together.{clock_before}
use Rattle.alp_files.specs.Act.{no_opens}
use Rattle.alp_files.specs.Apart.{IsSized, IsWithin}
use Rattle.alp_files.specs.Cells.{Cells}
use Rattle.alp_files.specs.Edits.{Edit, Drop, Cut, Put}
use Rattle.alp_files.specs.Holdings.{held_by, IsIntended}
use Rattle.alp_files.specs.Locks.{Writes}
use Rattle.alp_files.specs.Needs.{intents_of}
use Rattle.alp_locks.specs.Sound.{IsSound}
use Rattle.alp_locks.specs.Tables.{Table, holding}
use Rattle.alp_trans.specs.Counting.{AreCountsOf}
use Rattle.alp_trans.specs.Parts.{own_of}
use Rattle.alp_calls.specs.Parts.{IsPart}
use Rattle.alp_journal.specs.Counts.{with_resources}
use Rattle.alp_journal.specs.Opening.{ReadyNote, ready_kept, decisions_kept}
use Rattle.alp_regain.specs.Together.{IsPartNote}
use Rattle.alp_regain.specs.declared.part.RegainedPart.{RegainedPart}
use Rattle.alp_regain.specs.declared.regaining.Regained.{Regained}

-- ---- parts

-- the size in each leader that is put is a number of pages
abbrev pub PutsAreSized : List Edit → Type 0
PutsAreSized [] = Unit {0}
PutsAreSized (Drop f ∷ es) = PutsAreSized es
PutsAreSized (Cut f n ∷ es) = PutsAreSized es
PutsAreSized (Put k c ∷ es) = IsSized c × PutsAreSized es

-- The part of the note is live again: with its join, its client and the time of its vote, with what it intends and nothing open,
-- counted as far as the vault tells. It has as many resources locked as it counts. Under its locks it may write what it changes, and
-- beside each lock on a leaf it has the intention on the file.
pub record IsPartOf (tells : Bool) (m : Cells) (server epoch : ℕ) (p : RegainedPart) (n : ReadyNote) : Type 0 where
  pub join : p.join ≡ n.join
  pub trans : p.trans ≡ n.trans
  pub ts : p.ts ≡ n.ts
  pub client : p.client ≡ n.client
  pub intents : p.part.intents ≡ intents_of n.edits
  pub own : own_of p.part ≡ no_opens
  pub part : IsPart p.part
  pub counts : IsTrue tells → AreCountsOf m n.edits p.part.counts
  pub locks : p.locks ≡ length (with_resources n.locks [])
  pub note : IsPartNote server epoch n
  pub within : IsWithin (Writes (held_by n.locks)) n.edits
  pub intended : IsIntended (held_by n.locks)
  pub sized : PutsAreSized n.edits

-- each part is that of its note, in the order of the notes
abbrev pub ArePartsOf : Bool → Cells → (server epoch : ℕ) → List RegainedPart → List ReadyNote → Type 0
ArePartsOf tells m server epoch [] [] = Unit {0}
ArePartsOf tells m server epoch (p ∷ ps) (n ∷ ns) = IsPartOf tells m server epoch p n × ArePartsOf tells m server epoch ps ns
ArePartsOf tells m server epoch [] (n ∷ ns) = ⊥
ArePartsOf tells m server epoch (p ∷ ps) [] = ⊥

-- ---- locks

abbrev pub has_note_of : TransId → List ReadyNote → Bool
has_note_of t ns = list_any (λ (n : ReadyNote). eq_by_cmp trans_cmp t n.trans) ns

abbrev pub HoldsNoted : Table → ReadyNote → Type 0
HoldsNoted t n = (r : Resource) → holding t.held n.trans r ≡ held_by n.locks r

-- it knows the transaction, whatever that holds
abbrev pub IsKnownTo : Table → ReadyNote → Type 0
IsKnownTo t n = is_some (map.get t.held n.trans) ≡ true

-- The table has just the locks of the notes, which agree, and knows their transactions. Nobody waits.
pub record AreLocksOf (t : Table) (ns : List ReadyNote) : Type 0 where
  pub sound : IsSound t
  pub waiting : t.waiting ≡ []
  pub woken : t.woken ≡ []
  pub held : AllByRecursion (HoldsNoted t) ns
  pub known : AllByRecursion (IsKnownTo t) ns
  pub others : (u : TransId) → has_note_of u ns ≡ false → map.get t.held u ≡ None

-- ---- all of it

-- The parts of all ready notes and all decisions are there, each in the order of the notes' names, with just the parts' locks.
pub record IsRegained (tells : Bool) (m : Cells) (server epoch : ℕ) (r : Regained) (notes : Notes) : Type 0 where
  pub parts : ArePartsOf tells m server (clock_before epoch notes).epoch r.parts.items (ready_kept notes)
  pub decisions : list_map noted r.decisions.items ≡ decisions_kept notes
  pub locks : AreLocksOf r.locks (ready_kept notes)
