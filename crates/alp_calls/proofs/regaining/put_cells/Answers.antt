use Rattle.std.specs.Prelude.{OnOk}
use Rattle.std.proofs.Common.{List, length, ap, ◌∙◌, subst, arith}
use Rattle.std.proofs.lemmas.List.{length-map}
use Rattle.alp_base.specs.declared.key.Key.{Key}
use Rattle.alp_base.specs.declared.cell.Cell.{Cell}
use Rattle.alp_files.specs.Edits.{Edit, Put}
use Rattle.alp_files.specs.Undo.{puts_of}
use Rattle.alp_vault.specs.Volumes.{fit_keys}
use Rattle.alp_calls.specs.Regained.{GoesOn}
use Rattle.alp_calls.proofs.RegainLemmas.{none_taken}
use Rattle.alp_calls.proofs.regaining.put_cells.Goals as goal

pub take_in-requires-clause-puts : goal.take_in-requires-clause-puts
take_in-requires-clause-puts g c = record {
  fit = ap fit_keys c.in_ok-copies.ensures ∙ c.requires.fit;
  few = omega (arith, ap (λ (ps : List (Key × Cell)). length ps) c.in_ok-copies.ensures, c.requires.room);
}

pub take_in-requires-clause-beside : goal.take_in-requires-clause-beside
take_in-requires-clause-beside g c = none_taken c.in_ok-copies.copies.items

pub take_in-requires-clause-room : goal.take_in-requires-clause-room
take_in-requires-clause-room g c =
    omega (arith, length-map c.in_ok-copies.copies.items (λ (p : Key × Cell). Put p.0 p.1), ap (λ (ps : List (Key × Cell)). length ps) c.in_ok-copies.ensures, c.requires.room)

pub returns-clause-taken : goal.returns-clause-taken
returns-clause-taken g c =
    subst (λ (es : List Edit). OnOk c.take_in.result (GoesOn (g.V.Vault.tells c.args.vault.now) (g.V.Vault.held c.args.vault.now).cells c.args.part.now c.take_in.new.part es))
    (ap (λ (ps : List (Key × Cell)). puts_of ps) c.in_ok-copies.ensures) c.take_in.ensures.taken
