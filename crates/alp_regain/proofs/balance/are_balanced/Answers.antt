use Rattle.std.specs.Prelude.{Bool, ◌&&◌, IfOk}
use Rattle.std.specs.FinMap as map
use Rattle.std.proofs.Common.{◌≡◌, List, subst, ap, sym, ◌∙◌}
use Rattle.alp_base.specs.declared.cell.Cell.{Cell}
use Rattle.alp_base.specs.declared.change.Change.{Change}
use Rattle.alp_base.specs.declared.key.Key.{Key}
use Rattle.alp_files.specs.Cells.{Cells}
use Rattle.alp_files.specs.Needs.{Intents}
use Rattle.alp_trans.specs.Parts.{change_of}
use Rattle.alp_calls.proofs.LookLemmas.{later}
use Rattle.alp_regain.specs.Balance.{are_even, is_balanced, leaders_with, touched_in}
use Rattle.alp_regain.specs.Sums.{Charges, charge_at, AreChargesOf}
use Rattle.alp_regain.proofs.BalanceLemmas.{balanced_from}
use Rattle.alp_regain.proofs.balance.are_balanced.Goals as goal

pub returns-clause-balanced : goal.returns-clause-balanced
returns-clause-balanced g c = λ told.
    let i : Intents = c.args.intents.now in
    let held : Cells = (g.V.Vault.held c.args.vault.now).cells in
    let lost : Charges = c.in_ok-moved.moved.lost in
    let put : Charges = c.in_ok-moved.moved.put in
    let es : List (Key × Cell) = c.as_slice-2.result.now in
    let puts : List (Key × Cell) = c.as_slice-puts.result.now in
    let entries : puts ≡ map.entries i.puts = c.as_slice-puts.ensures ∙ ap (λ (x : Change). x.puts) c.requires.change in
    let leaders : es ≡ map.entries (leaders_with held (touched_in (change_of i)) map.empty) =
    c.as_slice-2.ensures.value ∙ c.in_ok-below.ensures.leaders told ∙ ap (λ (x : Change). map.entries (leaders_with held (touched_in x) map.empty)) c.requires.change in
    let less : AreChargesOf lost es = subst (λ (xs : List (Key × Cell)). AreChargesOf lost xs) (c.as_slice.ensures.value ∙ sym c.as_slice-2.ensures.value) c.in_ok-moved.ensures.lost in
    let more : AreChargesOf put (map.entries i.puts) = subst (λ (xs : List (Key × Cell)). AreChargesOf put xs) entries c.in_ok-moved.ensures.put in
    let same : (are_even i held (charge_at lost) (charge_at put) es && are_even i held (charge_at lost) (charge_at put) puts) ≡ is_balanced i held =
    ap (λ (xs : List (Key × Cell)). are_even i held (charge_at lost) (charge_at put) es && are_even i held (charge_at lost) (charge_at put) xs) entries
    ∙ balanced_from i held lost put es leaders less more in
    subst (λ (x : Bool). IfOk c.are_even_all.result (λ b. b ≡ x)) same
    (later g.V.Vault c.args.vault.now c.touched_below.new.vault c.in_ok-below.ensures.looked.0
    (λ m. IfOk c.are_even_all.result (λ b. b ≡ (are_even i m (charge_at lost) (charge_at put) es && are_even i m (charge_at lost) (charge_at put) puts))) c.are_even_all.ensures.even told)
