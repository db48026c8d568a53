use Rattle.std.specs.Prelude.{Bool, IfOk, Result, Ok, Err}
use Rattle.std.proofs.Common.{◌≡◌, List, ◌++◌, ◌∙◌, ap, subst}
use Rattle.alp_files.specs.Cells.{Cells}
use Rattle.alp_files.specs.Edits.{Edit}
use Rattle.alp_files.specs.Needs.{Intents, intents_from, intents_of}
use Rattle.alp_files.specs.Undo.{puts_of}
use Rattle.alp_trans.specs.Counting.{AreCountsOf}
use Rattle.alp_trans.specs.Parts.{ahead_of, gone_edits}
use Rattle.alp_trans.specs.declared.counts.Counts.{Counts}
use Rattle.alp_calls.specs.Sights.{IsRaised}
use Rattle.alp_calls.specs.declared.fault.CallFault.{CallFault}
use Rattle.alp_calls.proofs.CountLaws.{counted_after, counts_from}
use Rattle.alp_calls.proofs.LookLemmas.{looked_at}
use Rattle.alp_calls.proofs.counting.counts_after.Goals as goal

-- what is so of counts that were found
if_counted : (r : Result Counts CallFault) (P Q : Counts → Type 0) → IfOk r P → ((n : Counts) → P n → Q n) → IfOk r Q
if_counted (Ok n) P Q h so = so n h
if_counted (Err f) P Q h so = tt

pub returns-clause-counts : goal.returns-clause-counts
returns-clause-counts g c = λ told.
    let i : Intents = c.args.part.now.intents in
    let tells : Bool = g.V.Vault.tells c.args.vault.now in
    let held : Cells = (g.V.Vault.held c.args.vault.now).cells in
    let gone : List Edit = gone_edits c.args.gone in
    let puts : List Edit = puts_of c.args.puts.now in
    let start : Counts = c.args.part.now.counts in
    let mid : Counts = c.in_ok-counts.counts in
    let ahead : c.new-ahead.result ≡ intents_from i gone = c.new-ahead.ensures ∙ ap (ahead_of i c.args.gone) c.puts.ensures in
    if_counted c.count_puts.result
    (λ n. IsRaised (g.V.Vault.tells c.counts_without.new.vault) (g.V.Vault.held c.counts_without.new.vault).cells c.new-ahead.result (intents_from c.new-ahead.result puts) mid n)
    (λ n. (es : List Edit) → i ≡ intents_of es → AreCountsOf held es start → AreCountsOf held (es ++ (gone ++ puts)) n)
    c.count_puts.ensures.counted
    (λ n h es is are. counts_from tells held i es (gone ++ puts) start n
    (counted_after tells held i gone puts start mid n c.in_ok-counts.ensures.counted
    (subst (λ (a : Intents). IsRaised tells held a (intents_from a puts) mid n) ahead
    (looked_at g.V.Vault c.args.vault.now c.counts_without.new.vault c.in_ok-counts.ensures.looked.0
    (λ (b : Bool) (m : Cells). IsRaised b m c.new-ahead.result (intents_from c.new-ahead.result puts) mid n) h)))
    told is are)
