use Rattle.std.specs.Prelude.{None, Bool, ℕ, map as list_map}
use Rattle.std.proofs.Common.{◌+◌, List, [], ◌∷◌, drop, get_or, refl, ap, subst, arith}
use Rattle.std.proofs.Math.ListN.{drop_of_length-le}
use Rattle.std.proofs.lemmas.List.{at_drop_more, length-map}
use Rattle.alp_base.specs.declared.ids.FileId.{FileId}
use Rattle.alp_files.specs.Cells.{Cells}
use Rattle.alp_files.specs.Edits.{Cut}
use Rattle.alp_calls.specs.Regained.{GoesOn}
use Rattle.alp_calls.proofs.LookLemmas.{left_same, looks_then, looked_at}
use Rattle.alp_calls.proofs.RegainLemmas.{Taking, taking_begins, taking_room, taking_goes_on, taking_ends}
use Rattle.alp_calls.proofs.regaining.cut_files.Goals as goal

abbrev no_cut : FileId × ℕ
no_cut = (record { server = 0; epoch = 0; counter = 0 }, 0)

pub loop-cut-init : goal.loop-cut-init
loop-cut-init g c = record {
  left = (left_same g.V.Vault c.args.vault.now, c.requires.serving, refl);
  taking = taking_begins (g.V.Vault.tells c.args.vault.now) (g.V.Vault.held c.args.vault.now).cells c.args.part.now (list_map (λ (p : FileId × ℕ). Cut p.0 p.1) c.args.cuts.now) c.requires.part;
}

pub take_gone-requires-clause-part : goal.take_gone-requires-clause-part
take_gone-requires-clause-part g c = c.loop-cut.invariant.taking.goes.part

pub take_gone-requires-clause-room : goal.take_gone-requires-clause-room
take_gone-requires-clause-room g c =
    let tells : Bool = g.V.Vault.tells c.args.vault.now in
    let held : Cells = (g.V.Vault.held c.args.vault.now).cells in
    let item : FileId × ℕ = get_or c.args.cuts.now c.loop-cut.cut-index no_cut in
    let rest : List (FileId × ℕ) = drop (c.loop-cut.cut-index + 1) c.args.cuts.now in
    let before : Taking tells held c.args.part.now c.loop-cut.part (list_map (λ (p : FileId × ℕ). Cut p.0 p.1) c.args.cuts.now) (Cut item.0 item.1 ∷ list_map (λ (p : FileId × ℕ). Cut p.0 p.1) rest) =
    subst (λ (xs : List (FileId × ℕ)). Taking tells held c.args.part.now c.loop-cut.part (list_map (λ (p : FileId × ℕ). Cut p.0 p.1) c.args.cuts.now) (list_map (λ (p : FileId × ℕ). Cut p.0 p.1) xs))
    (at_drop_more (λ (xs : List (FileId × ℕ)). xs) c.args.cuts.now c.loop-cut.cut-index no_cut c.loop-cut-test.true) c.loop-cut.invariant.taking in
    taking_room tells held c.args.part.now c.loop-cut.part (list_map (λ (p : FileId × ℕ). Cut p.0 p.1) c.args.cuts.now) (list_map (λ (p : FileId × ℕ). Cut p.0 p.1) rest) (Cut item.0 item.1) before
    (omega (arith, length-map c.args.cuts.now (λ (p : FileId × ℕ). Cut p.0 p.1), c.requires.room))

pub loop-cut-preserved : goal.loop-cut-preserved
loop-cut-preserved g c =
    let tells : Bool = g.V.Vault.tells c.args.vault.now in
    let held : Cells = (g.V.Vault.held c.args.vault.now).cells in
    let left = c.loop-cut.invariant.left in
    let item : FileId × ℕ = get_or c.args.cuts.now c.loop-cut.cut-index no_cut in
    let rest : List (FileId × ℕ) = drop (c.loop-cut.cut-index + 1) c.args.cuts.now in
    let before : Taking tells held c.args.part.now c.loop-cut.part (list_map (λ (p : FileId × ℕ). Cut p.0 p.1) c.args.cuts.now) (Cut item.0 item.1 ∷ list_map (λ (p : FileId × ℕ). Cut p.0 p.1) rest) =
    subst (λ (xs : List (FileId × ℕ)). Taking tells held c.args.part.now c.loop-cut.part (list_map (λ (p : FileId × ℕ). Cut p.0 p.1) c.args.cuts.now) (list_map (λ (p : FileId × ℕ). Cut p.0 p.1) xs))
    (at_drop_more (λ (xs : List (FileId × ℕ)). xs) c.args.cuts.now c.loop-cut.cut-index no_cut c.loop-cut-test.true) c.loop-cut.invariant.taking in
    let step : GoesOn tells held c.loop-cut.part c.take_gone.new.part (Cut item.0 item.1 ∷ []) =
    looked_at g.V.Vault c.args.vault.now c.loop-cut.vault left.0 (λ (b : Bool) (m : Cells). GoesOn b m c.loop-cut.part c.take_gone.new.part (Cut item.0 item.1 ∷ [])) c.in_ok-take_gone.ensures.taken in
    record {
      left = looks_then g.V.Vault c.args.vault.now c.loop-cut.vault c.take_gone.new.vault None left c.in_ok-take_gone.ensures.looked;
      taking = taking_goes_on tells held c.args.part.now c.loop-cut.part c.take_gone.new.part (list_map (λ (p : FileId × ℕ). Cut p.0 p.1) c.args.cuts.now) (list_map (λ (p : FileId × ℕ). Cut p.0 p.1) rest) (Cut item.0 item.1) before step;
    }

pub returns-clause-taken : goal.returns-clause-taken
returns-clause-taken g c =
    taking_ends (g.V.Vault.tells c.args.vault.now) (g.V.Vault.held c.args.vault.now).cells c.args.part.now c.loop-cut.part (list_map (λ (p : FileId × ℕ). Cut p.0 p.1) c.args.cuts.now)
    (list_map (λ (p : FileId × ℕ). Cut p.0 p.1) (drop c.loop-cut.cut-index c.args.cuts.now))
    (ap (λ (xs : List (FileId × ℕ)). list_map (λ (p : FileId × ℕ). Cut p.0 p.1) xs) (drop_of_length-le c.args.cuts.now c.loop-cut-test.false)) c.loop-cut.invariant.taking
