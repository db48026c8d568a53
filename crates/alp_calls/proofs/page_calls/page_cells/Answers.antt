use Rattle.std.proofs.Common.{◌≡◌, ℕ, ◌+◌, List, ◌∷◌, ◌++◌, ◌<◌, length, length-append, drop, ap, ◌∙◌, sym, append_assoc, append-nil, arith}
use Rattle.std.proofs.Math.ListN.{drop_of_length-le}
use Rattle.alp_base.specs.declared.key.Key.{Key}
use Rattle.alp_base.specs.declared.key.Key.TheVariants.{PageOf}
use Rattle.alp_base.specs.declared.cell.Cell.{Cell}
use Rattle.alp_base.specs.declared.cell.Cell.TheVariants as cell
use Rattle.alp_files.specs.Edits.{Edit, Put}
use Rattle.alp_files.specs.Act.{page_puts}
use Rattle.alp_files.specs.Undo.{puts_of}
use Rattle.alp_files.proofs.EditLemmas.{page_puts-drop}
use Rattle.alp_files.proofs.UndoLemmas.{puts_of-append}
use Rattle.std.proofs.lemmas.Bool.{lt-ltb}
use Rattle.alp_vault.specs.Volumes.{fit_keys}
use Rattle.alp_calls.proofs.FitLemmas.{fit_push}
use Rattle.alp_calls.proofs.page_calls.page_cells.Goals as goal

pub loop-i-init : goal.loop-i-init
loop-i-init c =
    let here : c.args.first + 0 ≡ c.args.first = omega arith in
    record {
      puts = ap (λ (n : ℕ). puts_of c.new-puts.result.items ++ page_puts c.args.file n c.args.pages.now) here
          ∙ ap (λ (xs : List (Key × Cell)). puts_of xs ++ page_puts c.args.file c.args.first c.args.pages.now) c.new-puts.ensures.items;
      fit = ap fit_keys c.new-puts.ensures.items;
      all = ap (λ (xs : List (Key × Cell)). length xs) c.new-puts.ensures.items;
    }

pub loop-i-preserved : goal.loop-i-preserved
loop-i-preserved c =
    let k : Key = PageOf c.args.file (c.args.first + c.loop-i.i) in
    let rest : List Edit = page_puts c.args.file (c.args.first + (c.loop-i.i + 1)) (drop (c.loop-i.i + 1) c.args.pages.now) in
    let small : c.args.first + c.loop-i.i < 4096 = omega (arith, c.requires, c.loop-i-test.true) in
    record {
      puts = ap (λ (xs : List (Key × Cell)). puts_of xs ++ rest) c.in_ok-push.ensures.items
          ∙ ap (λ (es : List Edit). es ++ rest) (puts_of-append c.loop-i.puts.items _)
          ∙ append_assoc (puts_of c.loop-i.puts.items) _ rest
          ∙ ap (λ (p : List ℕ). puts_of c.loop-i.puts.items ++ Put k (cell.Page p) ∷ rest) c.in_ok-share.ensures
          ∙ ap (λ (es : List Edit). puts_of c.loop-i.puts.items ++ es)
          (sym (page_puts-drop c.args.file c.args.first c.loop-i.i c.args.pages.now c.index-pages-i.result c.loop-i-test.true (sym c.index-pages-i.is)))
          ∙ c.loop-i.invariant.puts;
      fit = ap fit_keys c.in_ok-push.ensures.items ∙ fit_push c.loop-i.puts.items _ c.loop-i.invariant.fit (lt-ltb _ 4096 small);
      all = ap (λ (xs : List (Key × Cell)). length xs) c.in_ok-push.ensures.items ∙ length-append c.loop-i.puts.items _ ∙ ap (λ (n : ℕ). n + 1) c.loop-i.invariant.all;
    }

pub returns-clause-puts : goal.returns-clause-puts
returns-clause-puts c =
    sym (append-nil (puts_of c.loop-i.puts.items))
    ∙ ap (λ (ps : List (List ℕ)). puts_of c.loop-i.puts.items ++ page_puts c.args.file (c.args.first + c.loop-i.i) ps) (sym (drop_of_length-le c.args.pages.now c.loop-i-test.false))
    ∙ c.loop-i.invariant.puts
