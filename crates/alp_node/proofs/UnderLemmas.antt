-- what a part does stays under its locks
use Rattle.std.proofs.Common.{ℕ, List, [], ◌∷◌, ◌++◌, sym, subst}
use Rattle.std.specs.FinMap as map
use Rattle.alp_base.specs.declared.ids.FileId.{FileId}
use Rattle.alp_base.specs.declared.key.Key.TheVariants.{Leader}
use Rattle.alp_modes.specs.declared.Mode.TheVariants.{Read, Write}
use Rattle.alp_files.specs.Act.{Own, Answer, answer, id_in}
use Rattle.alp_files.specs.Apart.{AreSized, IsWithin, OpensRead}
use Rattle.alp_files.specs.Cells.{Cells, View}
use Rattle.alp_files.specs.Edits.{Edit, Drop, Cut, Put, edits_map}
use Rattle.alp_files.specs.History.{PerformedCall}
use Rattle.alp_files.specs.Holdings.{Holding, IsIntended}
use Rattle.alp_files.specs.Locks.{IsMore, IsFormed, HoldsEach, Reads, Writes, needs_of, needs_made, needs_done, with_made}
use Rattle.alp_files.specs.declared.open.Open.{Open}
use Rattle.alp_files.specs.declared.call.Call.{Call}
use Rattle.alp_files.specs.declared.reply.Reply.{Reply}
use Rattle.alp_files.proofs.CoverLemmas.{more-on-leaf, joined-more, done-holds, with_made-intended}
use Rattle.alp_files.proofs.FrameLemmas.{answer-fits, sized-after}
use Rattle.alp_files.proofs.HeldLemmas.{lets-each}
use Rattle.alp_files.proofs.HistoryLemmas.{get-edits_map}
use Rattle.alp_files.proofs.LookLemmas.{PutsSized, within-append}
use Rattle.alp_node.specs.Covers.{AreSizedEdits}
use Rattle.alp_node.proofs.CallLemmas.{IsUnder}

-- ---- sizes

sized_puts : (es : List Edit) → AreSizedEdits es → PutsSized es
sized_puts [] h = tt
sized_puts (Drop f ∷ es) h = sized_puts es h
sized_puts (Cut f n ∷ es) h = sized_puts es h
sized_puts (Put k c ∷ es) h = (h.0, sized_puts es h.1)

puts_sized : (es : List Edit) → PutsSized es → AreSizedEdits es
puts_sized [] h = tt
puts_sized (Drop f ∷ es) h = puts_sized es h
puts_sized (Cut f n ∷ es) h = puts_sized es h
puts_sized (Put k c ∷ es) h = (h.0, puts_sized es h.1)

sized_both : (es fs : List Edit) → AreSizedEdits es → AreSizedEdits fs → AreSizedEdits (es ++ fs)
sized_both [] fs h k = k
sized_both (Drop f ∷ es) fs h k = sized_both es fs h k
sized_both (Cut f n ∷ es) fs h k = sized_both es fs h k
sized_both (Put q c ∷ es) fs h k = (h.0, sized_both es fs h.1 k)

-- what such edits make of cells whose sizes are numbers of pages
pub edits_sized : (m : Cells) (es : List Edit) → AreSized (map.get m) → AreSizedEdits es → AreSized (map.get (edits_map es m))
edits_sized m es sized h = subst AreSized (sym (get-edits_map es m)) (sized-after es (map.get m) sized (sized_puts es h))

-- ---- more locks

more_reads : (a b : Holding) → IsMore a b → (os : List Open) → OpensRead (Reads a) os → OpensRead (Reads b) os
more_reads a b more [] h = tt
more_reads a b more (o ∷ os) h = (more-on-leaf a b more (Leader o.file) Read h.0, more_reads a b more os h.1)

more_writes : (a b : Holding) → IsMore a b → (es : List Edit) → IsWithin (Writes a) es → IsWithin (Writes b) es
more_writes a b more [] h = tt
more_writes a b more (Drop f ∷ es) h = ((λ k e. more-on-leaf a b more k Write (h.0 k e)), more_writes a b more es h.1)
more_writes a b more (Cut f n ∷ es) h = ((λ k e. more-on-leaf a b more k Write (h.0 k e)), more_writes a b more es h.1)
more_writes a b more (Put k c ∷ es) h = (more-on-leaf a b more k Write h.0, more_writes a b more es h.1)

pub under_more : (a b : Holding) → IsMore a b → IsIntended b → (w : Own) (es : List Edit) → IsUnder a w es → IsUnder b w es
under_more a b more intended w es h = record { opens = more_reads a b more w.opens h.opens; within = more_writes a b more es h.within; intended = intended; sized = h.sized }

-- ---- a call more

-- under the locks of the call, with that of a file that it makes
module _ (server : ℕ) (made : List FileId) (held : Holding) (m : View) (w : Own) (who : List ℕ) (c : Call) (r : Reply) where
  abbrev said : Answer
  said = answer server made m who w c r

  pub under_call : (es : List Edit) → AreSized m → IsFormed c → HoldsEach held (needs_of m w c) → IsUnder held w es → IsUnder (with_made held (id_in r)) said.own (es ++ said.edits)
  under_call es sized formed holds h =
      let later : Holding = with_made held (id_in r) in
      let d : PerformedCall = record { call = c; reply = r } in
      let before : IsUnder later w es = under_more held later (joined-more held (needs_made (id_in r))) (with_made-intended held (id_in r) h.intended) w es h in
      let fits = answer-fits (Reads later) (Writes later) m sized server made who w before.opens d formed (lets-each later (needs_done m w d) (done-holds held m w d holds)) in
      record { opens = fits.1; within = within-append (Writes later) es said.edits before.within fits.0; intended = before.intended; sized = sized_both es said.edits h.sized (puts_sized said.edits fits.2) }
