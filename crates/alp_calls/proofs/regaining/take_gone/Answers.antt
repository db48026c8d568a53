use Rattle.std.specs.Prelude.{not, OnOk, Some}
use Rattle.std.specs.List.{list_all}
use Rattle.std.proofs.Common.{List, ◌∷◌, length, ap, subst, arith}
use Rattle.alp_base.specs.declared.key.Key.{Key}
use Rattle.alp_base.specs.declared.cell.Cell.{Cell}
use Rattle.alp_files.specs.Edits.{Edit}
use Rattle.alp_files.specs.Undo.{puts_of}
use Rattle.alp_vault.specs.Volumes.{fit_keys}
use Rattle.alp_trans.specs.Parts.{gone_edit, takes}
use Rattle.alp_calls.specs.Regained.{GoesOn}
use Rattle.alp_calls.proofs.regaining.take_gone.Goals as goal

pub take_in-requires-clause-puts : goal.take_in-requires-clause-puts
take_in-requires-clause-puts g c = record {
  fit = ap fit_keys c.new.ensures.items;
  few = omega (arith, ap (λ (ps : List (Key × Cell)). length ps) c.new.ensures.items);
}

pub take_in-requires-clause-beside : goal.take_in-requires-clause-beside
take_in-requires-clause-beside g c = ap (list_all (λ (p : Key × Cell). not (takes (Some c.args.gone) p.0))) c.new.ensures.items

pub take_in-requires-clause-room : goal.take_in-requires-clause-room
take_in-requires-clause-room g c = omega (arith, ap (λ (ps : List (Key × Cell)). length (puts_of ps)) c.new.ensures.items, c.requires.room)

pub returns-clause-taken : goal.returns-clause-taken
returns-clause-taken g c =
    subst (λ (es : List Edit). OnOk c.take_in.result (GoesOn (g.V.Vault.tells c.args.vault.now) (g.V.Vault.held c.args.vault.now).cells c.args.part.now c.take_in.new.part es))
    (ap (λ (ps : List (Key × Cell)). gone_edit c.args.gone ∷ puts_of ps) c.new.ensures.items) c.take_in.ensures.taken
