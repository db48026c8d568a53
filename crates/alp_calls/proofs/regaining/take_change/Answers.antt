use Rattle.std.specs.Prelude.{Bool}
use Rattle.std.proofs.Common.{List, length, ap, ◌∙◌, arith}
use Rattle.alp_base.specs.declared.key.Key.{Key}
use Rattle.alp_base.specs.declared.cell.Cell.{Cell}
use Rattle.alp_files.specs.Cells.{Cells}
use Rattle.alp_files.specs.Undo.{puts_of}
use Rattle.alp_vault.specs.Volumes.{fit_keys}
use Rattle.alp_trans.specs.declared.part.Part.{Part}
use Rattle.alp_calls.specs.Regained.{GoesOn}
use Rattle.std.proofs.lemmas.Result.{on_ok_weaker}
use Rattle.alp_calls.proofs.LookLemmas.{looked_at}
use Rattle.alp_calls.proofs.RegainLemmas.{room_left, goes_all}
use Rattle.alp_calls.proofs.regaining.take_change.Goals as goal

pub take_all_gone-requires-clause-room : goal.take_all_gone-requires-clause-room
take_all_gone-requires-clause-room g c = omega (arith, c.requires.room)

pub put_cells-requires-clause-fit : goal.put_cells-requires-clause-fit
put_cells-requires-clause-fit g c = ap fit_keys c.as_slice.ensures ∙ c.requires.fit

pub put_cells-requires-clause-room : goal.put_cells-requires-clause-room
put_cells-requires-clause-room g c =
    omega (
      arith,
      ap (λ (ps : List (Key × Cell)). length ps) c.as_slice.ensures,
      room_left (g.V.Vault.tells c.args.vault.now) (g.V.Vault.held c.args.vault.now).cells c.args.part.now c.take_all_gone.new.part c.args.change.now c.in_ok-take_all_gone.ensures.taken c.requires.room,
    )

pub returns-clause-taken : goal.returns-clause-taken
returns-clause-taken g c =
    let tells : Bool = g.V.Vault.tells c.args.vault.now in
    let held : Cells = (g.V.Vault.held c.args.vault.now).cells in
    let old : Part = c.args.part.now in
    let mid : Part = c.take_all_gone.new.part in
    let new : Part = c.put_cells.new.part in
    let puts : List (Key × Cell) = c.as_slice.result.now in
    on_ok_weaker c.put_cells.result
    (λ (h : GoesOn (g.V.Vault.tells c.take_all_gone.new.vault) (g.V.Vault.held c.take_all_gone.new.vault).cells mid new (puts_of puts)).
    goes_all tells held old mid new c.args.change.now puts c.as_slice.ensures c.in_ok-take_all_gone.ensures.taken
    (looked_at g.V.Vault c.args.vault.now c.take_all_gone.new.vault c.in_ok-take_all_gone.ensures.looked.0 (λ (b : Bool) (m : Cells). GoesOn b m mid new (puts_of puts)) h))
    c.put_cells.ensures.taken
