-- what a waiting call asks stands while another part commits
use Rattle.std.specs.Prelude.{cond, Option, None, Some}
use Rattle.std.specs.FinMap as map
use Rattle.std.proofs.Common.{◌≡◌, List, refl, sym, ◌∙◌, ap}
use Rattle.alp_base.specs.declared.key.Key.{Key}
use Rattle.alp_base.specs.declared.key.Key.TheVariants.{Leader}
use Rattle.alp_files.specs.Act.{Own, open_at, is_changing}
use Rattle.alp_files.specs.Apart.{IsWithin, OpensRead, DoShowSame}
use Rattle.alp_files.specs.Cells.{Cells, View, props_in}
use Rattle.alp_files.specs.Edits.{Edit, edits_at, edits_map}
use Rattle.alp_files.specs.Holdings.{Holding, DoAgree, IsIntended}
use Rattle.alp_files.specs.Locks.{Need, Reads, Writes, needs_of, needs_there, needs_on_open, needs_if_change, page_needs}
use Rattle.alp_files.specs.declared.call.Call.{Call}
use Rattle.alp_files.specs.declared.call.Call.TheVariants as call
use Rattle.alp_base.specs.declared.cell.Props.{Props}
use Rattle.alp_files.specs.declared.open.Open.{Open}
use Rattle.alp_files.proofs.FrameLemmas.{apart-same}
use Rattle.alp_files.proofs.HeldLemmas.{apart}
use Rattle.alp_files.proofs.HistoryLemmas.{get-edits_map}
use Rattle.alp_files.proofs.HoldingLemmas.{agreement-of-leaves}
use Rattle.alp_files.proofs.LookLemmas.{IsReadAt, found}
use Rattle.alp_journal.specs.Holder.{Life}

-- ---- needs in two views that show the same leaders

module _ (R : Key → Type 0) (m n : View) (same : DoShowSame R m n) where
  there_alike : (oo : Option Open) → IsReadAt R oo → (next : Open → Props → List Need) → needs_on_open m oo next ≡ needs_on_open n oo next
  there_alike None r next = refl
  there_alike (Some o) r next = ap (λ c. needs_there (props_in c) (next o)) (same (Leader o.file) r)

  needs_alike : (own : Own) → OpensRead R own.opens → (c : Call) → needs_of m own c ≡ needs_of n own c
  needs_alike own os (call.DeleteFile trans k choice) = there_alike (open_at own.opens k) (found R own.opens k os) _
  needs_alike own os (call.ReadPages trans k r mode choice) = there_alike (open_at own.opens k) (found R own.opens k os) _
  needs_alike own os (call.WritePages trans k r pages choice) = there_alike (open_at own.opens k) (found R own.opens k os) _
  needs_alike own os (call.LockPages trans k r mode choice) =
      let row : Open → Props → List Need = λ o p. page_needs o.file r.first r.count mode in
      λ i. cond (is_changing mode) (there_alike (open_at own.opens k) (found R own.opens k os) (λ o p. needs_if_change o.access (row o p)) i) (there_alike (open_at own.opens k) (found R own.opens k os) row i)
  needs_alike own os (call.SetSize trans k size choice) = there_alike (open_at own.opens k) (found R own.opens k os) _
  needs_alike own os (call.WriteProps trans k change choice) = there_alike (open_at own.opens k) (found R own.opens k os) _
  needs_alike own os c = refl

-- ---- where another part's changes become cells

-- the leaders that the part may read are those of before, and with them what its calls need
pub needs_stand : (cells : Cells) (theirs : Holding) (es : List Edit) (l : Life) (c : Call) → DoAgree theirs l.held → IsIntended theirs → IsIntended l.held → IsWithin (Writes theirs) es → OpensRead (Reads l.held) l.own.opens
    → needs_of (map.get (edits_map l.edits (edits_map es cells))) l.own c ≡ needs_of (map.get (edits_map l.edits cells)) l.own c
needs_stand cells theirs es l c agree first second within opens = sym (needs_alike (Reads l.held) (map.get (edits_map l.edits cells)) (map.get (edits_map l.edits (edits_map es cells))) shown l.own opens c)
  where
    away : (k : Key) → Writes theirs k → Reads l.held k → ⊥
    away k = apart theirs l.held (agreement-of-leaves theirs l.held agree first second) k

    shown : DoShowSame (Reads l.held) (map.get (edits_map l.edits cells)) (map.get (edits_map l.edits (edits_map es cells)))
    shown k r =
        ap (λ (v : View). v k) (get-edits_map l.edits cells)
        ∙ ap (edits_at l.edits k) (apart-same (Reads l.held) (Writes theirs) away es within cells k r)
        ∙ sym (ap (λ (v : View). v k) (get-edits_map l.edits (edits_map es cells)))
