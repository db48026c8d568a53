use Rattle.std.specs.Prelude.{All, IfOk, Ok, Result, true, false, Bool}
use Rattle.std.specs.FinMap as map
use Rattle.std.proofs.Common.{◌≡◌, List, subst, sym, ap, ◌∙◌, rules}
use Rattle.alp_base.specs.declared.cell.Cell.{Cell}
use Rattle.alp_base.specs.declared.change.Change.{Change}
use Rattle.alp_base.specs.declared.key.Key.{Key}
use Rattle.alp_files.specs.Cells.{Cells}
use Rattle.alp_files.specs.Needs.{Intents, through}
use Rattle.alp_calls.specs.declared.fault.CallFault.{CallFault}
use Rattle.alp_calls.proofs.LookLemmas.{later}
use Rattle.alp_regain.specs.Balance.{is_balanced}
use Rattle.alp_regain.specs.Seen.{Passes}
use Rattle.alp_regain.specs.Touched.{IsGoodPut}
use Rattle.alp_regain.proofs.SoundLemmas.{sound_by, sound_passes, sound_balances}
use Rattle.alp_regain.proofs.sound.stay_with.Goals as goal

pub returns-then-not-branch-clause-no : goal.returns-then-not-branch-clause-no
returns-then-not-branch-clause-no g c = λ told sound is good.
    let i : Intents = c.args.intents.now in
    let held : Cells = (g.V.Vault.held c.args.vault.now).cells in
    let entries : c.as_slice.result.now ≡ map.entries i.puts = c.as_slice.ensures ∙ ap (λ (x : Change). x.puts) c.requires.change in
    let no : c.all_pass.result ≡ Ok false = search rules in
    c.all_pass.ensures.no told no
    (subst (λ (es : List (Key × Cell)). All (λ (e : Key × Cell). IsGoodPut (through i (map.get held)) e.0 e.1) es) (sym entries) (sound_passes i held sound c.requires.fit good))

pub returns-clause-yes : goal.returns-clause-yes
returns-clause-yes g c = λ told sound is.
    let i : Intents = c.args.intents.now in
    let held : Cells = (g.V.Vault.held c.args.vault.now).cells in
    let entries : c.as_slice.result.now ≡ map.entries i.puts = c.as_slice.ensures ∙ ap (λ (x : Change). x.puts) c.requires.change in
    let yes : c.all_pass.result ≡ Ok true = search rules in
    let balanced : true ≡ is_balanced i held =
    later g.V.Vault c.args.vault.now c.all_pass.new.vault c.in_ok-all_pass.ensures.looked.0 (λ m. true ≡ is_balanced i m)
    (λ t. subst (λ (r : Result Bool CallFault). IfOk r (λ b. b ≡ is_balanced i (g.V.Vault.held c.all_pass.new.vault).cells)) is (c.are_balanced.ensures.balanced t)) told in
    sound_by i held sound c.requires.fit
    (subst (λ (es : List (Key × Cell)). All (λ (e : Key × Cell). Passes i held e.0 e.1) es) entries (c.all_pass.ensures.yes told yes))
    (sym balanced)

pub returns-clause-no : goal.returns-clause-no
returns-clause-no g c = λ told sound is good.
    let i : Intents = c.args.intents.now in
    let held : Cells = (g.V.Vault.held c.args.vault.now).cells in
    let balanced : false ≡ is_balanced i held =
    later g.V.Vault c.args.vault.now c.all_pass.new.vault c.in_ok-all_pass.ensures.looked.0 (λ m. false ≡ is_balanced i m)
    (λ t. subst (λ (r : Result Bool CallFault). IfOk r (λ b. b ≡ is_balanced i (g.V.Vault.held c.all_pass.new.vault).cells)) is (c.are_balanced.ensures.balanced t)) told in
    let wrong : false ≡ true = balanced ∙ sound_balances i held sound c.requires.fit good in
    cc
