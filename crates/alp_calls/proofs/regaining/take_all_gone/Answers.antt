use Rattle.std.specs.Prelude.{Bool, ℕ, map as list_map}
use Rattle.std.proofs.Common.{List, length, ap, subst, arith}
use Rattle.std.proofs.lemmas.List.{length-map}
use Rattle.alp_base.specs.declared.ids.FileId.{FileId}
use Rattle.alp_files.specs.Cells.{Cells}
use Rattle.alp_files.specs.Edits.{Edit, Drop, Cut}
use Rattle.alp_trans.specs.declared.part.Part.{Part}
use Rattle.alp_calls.specs.Regained.{GoesOn}
use Rattle.std.proofs.lemmas.Result.{on_ok_weaker}
use Rattle.alp_calls.proofs.LookLemmas.{looked_at}
use Rattle.alp_calls.proofs.RegainLemmas.{goes_then}
use Rattle.alp_calls.proofs.regaining.take_all_gone.Goals as goal

pub drop_files-requires-clause-room : goal.drop_files-requires-clause-room
drop_files-requires-clause-room g c = omega (arith, ap (λ (fs : List FileId). length fs) c.as_slice.ensures, c.requires.room)

pub cut_files-requires-clause-room : goal.cut_files-requires-clause-room
cut_files-requires-clause-room g c =
    omega (
      arith,
      ap (λ (fs : List FileId). length fs) c.as_slice.ensures,
      ap (λ (fs : List (FileId × ℕ)). length fs) c.as_slice-2.ensures,
      length-map c.as_slice.result.now Drop,
      c.in_ok-drop_files.ensures.taken.cells,
      c.requires.room,
    )

pub returns-clause-taken : goal.returns-clause-taken
returns-clause-taken g c =
    let tells : Bool = g.V.Vault.tells c.args.vault.now in
    let held : Cells = (g.V.Vault.held c.args.vault.now).cells in
    let cut : FileId × ℕ → Edit = λ p. Cut p.0 p.1 in
    let drops : List Edit = list_map Drop c.args.change.now.drops in
    let cuts : List Edit = list_map cut c.args.change.now.cuts in
    let old : Part = c.args.part.now in
    let mid : Part = c.drop_files.new.part in
    let new : Part = c.cut_files.new.part in
    let first : GoesOn tells held old mid drops =
    subst (λ (fs : List FileId). GoesOn tells held old mid (list_map Drop fs)) c.as_slice.ensures c.in_ok-drop_files.ensures.taken in
    on_ok_weaker c.cut_files.result
    (λ (h : GoesOn (g.V.Vault.tells c.drop_files.new.vault) (g.V.Vault.held c.drop_files.new.vault).cells mid new (list_map cut c.as_slice-2.result.now)).
    goes_then tells held old mid new drops cuts first
    (looked_at g.V.Vault c.args.vault.now c.drop_files.new.vault c.in_ok-drop_files.ensures.looked.0 (λ (b : Bool) (m : Cells). GoesOn b m mid new cuts)
    (subst (λ (ps : List (FileId × ℕ)). GoesOn (g.V.Vault.tells c.drop_files.new.vault) (g.V.Vault.held c.drop_files.new.vault).cells mid new (list_map cut ps)) c.as_slice-2.ensures h)))
    c.cut_files.ensures.taken
