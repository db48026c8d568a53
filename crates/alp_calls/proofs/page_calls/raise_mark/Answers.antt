use Rattle.std.specs.Prelude.{cond, Bool}
use Rattle.std.proofs.Common.{List, [], ◌∷◌, ◌++◌, ap, ◌∙◌, sym}
use Rattle.std.proofs.lemmas.Bool.{lt-ltb, le-leb}
use Rattle.alp_base.specs.declared.key.Key.{Key}
use Rattle.alp_base.specs.declared.key.Key.TheVariants.{Leader}
use Rattle.alp_base.specs.declared.cell.Cell.{Cell}
use Rattle.alp_base.specs.declared.cell.Cell.TheVariants as cell
use Rattle.alp_files.specs.Edits.{Edit, Put}
use Rattle.alp_files.specs.Undo.{puts_of}
use Rattle.alp_files.proofs.UndoLemmas.{puts_of-append}
use Rattle.alp_vault.specs.Volumes.{fit_keys}
use Rattle.alp_calls.proofs.FitLemmas.{fit_push}
use Rattle.alp_calls.proofs.page_calls.raise_mark.Goals as goal

pub returns-then-props-last-clause-puts : goal.returns-then-props-last-clause-puts
returns-then-props-last-clause-puts c =
    let put : List Edit = Put (Leader c.args.file) (cell.Leader (record c.args.props { high_water = c.args.last })) ∷ [] in
    ap (λ (xs : List (Key × Cell)). puts_of xs) c.in_ok-push.ensures.items ∙ puts_of-append c.args.puts.now.items _
    ∙ ap (λ (b : Bool). puts_of c.args.puts.now.items ++ cond b put []) (sym (lt-ltb c.args.props.high_water c.args.last c.if-props-last.true))

pub returns-then-props-last-clause-fit : goal.returns-then-props-last-clause-fit
returns-then-props-last-clause-fit c = λ fit. ap fit_keys c.in_ok-push.ensures.items ∙ fit_push c.args.puts.now.items _ fit (le-leb c.args.props.size 4096 c.requires)
