use Rattle.std.proofs.Common.{◌≡◌, ℕ, ◌+◌, List, ◌∷◌, ◌++◌, drop, sym, ap, ◌∙◌, append-nil}
use Rattle.std.proofs.lemmas.List.{at_drop_more, at_drop_all}
use Rattle.alp_base.specs.declared.cell.Cell.{Cell}
use Rattle.alp_base.specs.declared.ids.FileId.{FileId}
use Rattle.alp_base.specs.declared.key.Key.{Key}
use Rattle.alp_regain.specs.Balance.{leader_file, files_put}
use Rattle.alp_regain.proofs.NoteLemmas.{read_on}
use Rattle.alp_regain.proofs.balance.push_files.Goals as goal

pub loop-put-preserved : goal.loop-put-preserved
loop-put-preserved c =
    let puts : List (Key × Cell) = c.args.puts.now in
    let i : ℕ = c.loop-put.put-index in
    let item : Key × Cell = c.put-item.result in
    let rest : List (Key × Cell) = drop (i + 1) puts in
    let files : List FileId = c.loop-put.files.items in
    let left : drop i puts ≡ item ∷ rest = at_drop_more (λ (xs : List (Key × Cell)). xs) puts i item c.loop-put-test.true ∙ ap (λ (x : Key × Cell). x ∷ rest) (sym c.put-item.is) in
    ap (λ (ys : List FileId). ys ++ files_put rest) c.in_ok-push_file.ensures
    ∙ read_on files (c.args.files.now.items ++ files_put puts) (leader_file item.0) (files_put rest) (ap (λ (xs : List (Key × Cell)). files ++ files_put xs) (sym left) ∙ c.loop-put.invariant)

pub returns : goal.returns
returns c =
    let files : List FileId = c.loop-put.files.items in
    sym (append-nil files) ∙ ap (λ (ys : List FileId). files ++ ys) (sym (at_drop_all files_put c.args.puts.now c.loop-put.put-index c.loop-put-test.false)) ∙ c.loop-put.invariant
