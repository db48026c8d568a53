-- a part looks only at places that its locks let it read
use Rattle.std.specs.FinMap as map
use Rattle.std.specs.Option.{option_to_list}
use Rattle.std.proofs.Common.{ℕ, List, [], ◌∷◌, ◌++◌, sym, subst, inl, inr}
use Rattle.alp_base.specs.declared.ids.FileId.{FileId}
use Rattle.alp_base.specs.declared.key.Key.{Key}
use Rattle.alp_files.specs.Holdings.{Holding}
use Rattle.alp_files.specs.Cells.{Cells, View}
use Rattle.alp_files.specs.Edits.{edits_map}
use Rattle.alp_files.specs.Act.{Own, Answer, Look, Ask, Say, answer, id_in}
use Rattle.alp_files.specs.History.{PerformedCall, steps}
use Rattle.alp_files.specs.Locks.{Reads, Writes, AreCovered, needs_done}
use Rattle.alp_files.specs.Apart.{AreSized, AreFormed, OpensRead, standing}
use Rattle.alp_files.proofs.LookLemmas.{Fits}
use Rattle.alp_files.proofs.HeldLemmas.{lets-each}
use Rattle.alp_files.proofs.HistoryLemmas.{get-edits_map}
use Rattle.alp_files.proofs.FrameLemmas.{answer-fits, sized-after}
use Rattle.alp_journal.specs.Holder.{asked_in}
use Rattle.alp_history.specs.Log.{IsIn}

pub asked-read : (R W : Key → Type 0) (m : View) (look : Look) (k : Key) → Fits R W m look → IsIn k (asked_in m look) → R k
asked-read R W m (Ask q next) k h i = elim i [ inl same ↦ subst R (sym same) h.0 | inr more ↦ asked-read R W m (next (m q)) k h.1 more ]
asked-read R W m (Say a) k h i = absurd i

module _ (held : Holding) (server : ℕ) (who : List ℕ) where
  -- its opens are of leaders that it may read, and sizes stay sizes
  pub part-opens : (ds : List PerformedCall) (m : Cells) (made : List FileId) (own : Own) → AreFormed ds → AreSized (map.get m) → OpensRead (Reads held) own.opens
      → AreCovered held server (standing m made own) who ds
      → OpensRead (Reads held) (steps server (standing m made own) who ds).own.opens × AreSized (map.get (steps server (standing m made own) who ds).files)
  part-opens [] m made own formed sized os c = (os, sized)
  part-opens (d ∷ ds) m made own formed sized os c =
      let a : Answer = answer server made (map.get m) who own d.call d.reply in
      let fits = answer-fits (Reads held) (Writes held) (map.get m) sized server made who own os d formed.0 (lets-each held (needs_done (map.get m) own d) c.0) in
      part-opens ds (edits_map a.edits m) (option_to_list (id_in d.reply) ++ made) a.own formed.1 (subst AreSized (sym (get-edits_map a.edits m)) (sized-after a.edits (map.get m) sized fits.2)) fits.1 c.1
