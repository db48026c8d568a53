use Rattle.std.specs.Prelude.{None, IsTrue}
use Rattle.std.specs.FinMap as map
use Rattle.std.proofs.Common.{◌≡◌, ℕ, ◌+◌, List, ◌∷◌, drop, get_or, sym, ap, ◌∙◌}
use Rattle.std.proofs.lemmas.List.{at_drop_more, at_drop_all}
use Rattle.alp_base.specs.declared.ids.FileId.{FileId}
use Rattle.alp_base.specs.declared.key.Key.TheVariants.{Leader}
use Rattle.alp_files.specs.Cells.{Cells}
use Rattle.alp_calls.proofs.LookLemmas.{looks_then, later}
use Rattle.alp_regain.specs.Balance.{leaders_with, with_leader}
use Rattle.alp_regain.proofs.balance.leaders_below.Goals as goal

abbrev no_file : FileId
no_file = record { server = 0; epoch = 0; counter = 0 }

pub loop-file-preserved : goal.loop-file-preserved
loop-file-preserved g c =
    let left = c.loop-file.invariant.left in
    let held : Cells = (g.V.Vault.held c.args.vault.now).cells in
    let files : List FileId = c.args.files.now in
    let i : ℕ = c.loop-file.file-index in
    let file : FileId = get_or files i no_file in
    let rest : List FileId = drop (i + 1) files in
    let below : Cells = c.loop-file.below in
    let here : drop i files ≡ file ∷ rest = at_drop_more (λ (xs : List FileId). xs) files i no_file c.loop-file-test.true in
    let more : IsTrue (g.V.Vault.tells c.args.vault.now) → c.gather_leader.new.below ≡ with_leader file (map.get held (Leader file)) below =
    later g.V.Vault c.args.vault.now c.loop-file.vault left.0 (λ m. c.gather_leader.new.below ≡ with_leader file (map.get m (Leader file)) below) c.in_ok-gather_leader.ensures.gathered in
    record {
      left = looks_then g.V.Vault c.args.vault.now c.loop-file.vault c.gather_leader.new.vault None left c.in_ok-gather_leader.ensures.looked;
      all = λ told. ap (leaders_with held rest) (more told) ∙ ap (λ (fs : List FileId). leaders_with held fs below) (sym here) ∙ c.loop-file.invariant.all told;
    }

pub returns-clause-leaders : goal.returns-clause-leaders
returns-clause-leaders g c = λ told.
    sym (at_drop_all (λ (fs : List FileId). leaders_with (g.V.Vault.held c.args.vault.now).cells fs c.loop-file.below) c.args.files.now c.loop-file.file-index c.loop-file-test.false) ∙ c.loop-file.invariant.all told
