use Rattle.std.specs.Prelude.{None, Bool, map as list_map}
use Rattle.std.proofs.Common.{◌+◌, List, [], ◌∷◌, drop, get_or, refl, ap, subst, arith}
use Rattle.std.proofs.Math.ListN.{drop_of_length-le}
use Rattle.std.proofs.lemmas.List.{at_drop_more, length-map}
use Rattle.alp_base.specs.declared.ids.FileId.{FileId}
use Rattle.alp_files.specs.Cells.{Cells}
use Rattle.alp_files.specs.Edits.{Drop}
use Rattle.alp_calls.specs.Regained.{GoesOn}
use Rattle.alp_calls.proofs.LookLemmas.{left_same, looks_then, looked_at}
use Rattle.alp_calls.proofs.RegainLemmas.{Taking, taking_begins, taking_room, taking_goes_on, taking_ends}
use Rattle.alp_calls.proofs.regaining.drop_files.Goals as goal

abbrev no_file : FileId
no_file = record { server = 0; epoch = 0; counter = 0 }

pub loop-file-init : goal.loop-file-init
loop-file-init g c = record {
  left = (left_same g.V.Vault c.args.vault.now, c.requires.serving, refl);
  taking = taking_begins (g.V.Vault.tells c.args.vault.now) (g.V.Vault.held c.args.vault.now).cells c.args.part.now (list_map Drop c.args.files.now) c.requires.part;
}

pub take_gone-requires-clause-part : goal.take_gone-requires-clause-part
take_gone-requires-clause-part g c = c.loop-file.invariant.taking.goes.part

pub take_gone-requires-clause-room : goal.take_gone-requires-clause-room
take_gone-requires-clause-room g c =
    let tells : Bool = g.V.Vault.tells c.args.vault.now in
    let held : Cells = (g.V.Vault.held c.args.vault.now).cells in
    let item : FileId = get_or c.args.files.now c.loop-file.file-index no_file in
    let rest : List FileId = drop (c.loop-file.file-index + 1) c.args.files.now in
    let before : Taking tells held c.args.part.now c.loop-file.part (list_map Drop c.args.files.now) (Drop item ∷ list_map Drop rest) =
    subst (λ (xs : List FileId). Taking tells held c.args.part.now c.loop-file.part (list_map Drop c.args.files.now) (list_map Drop xs))
    (at_drop_more (λ (xs : List FileId). xs) c.args.files.now c.loop-file.file-index no_file c.loop-file-test.true) c.loop-file.invariant.taking in
    taking_room tells held c.args.part.now c.loop-file.part (list_map Drop c.args.files.now) (list_map Drop rest) (Drop item) before
    (omega (arith, length-map c.args.files.now Drop, c.requires.room))

pub loop-file-preserved : goal.loop-file-preserved
loop-file-preserved g c =
    let tells : Bool = g.V.Vault.tells c.args.vault.now in
    let held : Cells = (g.V.Vault.held c.args.vault.now).cells in
    let left = c.loop-file.invariant.left in
    let item : FileId = get_or c.args.files.now c.loop-file.file-index no_file in
    let rest : List FileId = drop (c.loop-file.file-index + 1) c.args.files.now in
    let before : Taking tells held c.args.part.now c.loop-file.part (list_map Drop c.args.files.now) (Drop item ∷ list_map Drop rest) =
    subst (λ (xs : List FileId). Taking tells held c.args.part.now c.loop-file.part (list_map Drop c.args.files.now) (list_map Drop xs))
    (at_drop_more (λ (xs : List FileId). xs) c.args.files.now c.loop-file.file-index no_file c.loop-file-test.true) c.loop-file.invariant.taking in
    let step : GoesOn tells held c.loop-file.part c.take_gone.new.part (Drop item ∷ []) =
    looked_at g.V.Vault c.args.vault.now c.loop-file.vault left.0 (λ (b : Bool) (m : Cells). GoesOn b m c.loop-file.part c.take_gone.new.part (Drop item ∷ [])) c.in_ok-take_gone.ensures.taken in
    record {
      left = looks_then g.V.Vault c.args.vault.now c.loop-file.vault c.take_gone.new.vault None left c.in_ok-take_gone.ensures.looked;
      taking = taking_goes_on tells held c.args.part.now c.loop-file.part c.take_gone.new.part (list_map Drop c.args.files.now) (list_map Drop rest) (Drop item) before step;
    }

pub returns-clause-taken : goal.returns-clause-taken
returns-clause-taken g c =
    taking_ends (g.V.Vault.tells c.args.vault.now) (g.V.Vault.held c.args.vault.now).cells c.args.part.now c.loop-file.part (list_map Drop c.args.files.now)
    (list_map Drop (drop c.loop-file.file-index c.args.files.now))
    (ap (λ (xs : List FileId). list_map Drop xs) (drop_of_length-le c.args.files.now c.loop-file-test.false)) c.loop-file.invariant.taking
