use Rattle.std.specs.Prelude.{IfOk, ◌≡◌}
use Rattle.std.specs.FinMap as map
use Rattle.std.proofs.Common.{ap, ◌∙◌, subst}
use Rattle.alp_files.specs.Needs.{Intents, intents_from}
use Rattle.alp_files.specs.Undo.{puts_of}
use Rattle.alp_trans.specs.Counting.{no_counts}
use Rattle.alp_trans.specs.Parts.{ahead_of}
use Rattle.alp_trans.specs.declared.counts.Counts.{Counts}
use Rattle.alp_calls.specs.Sights.{IsRaised}
use Rattle.alp_calls.proofs.counting.count_file.Goals as goal

pub returns-clause-counted : goal.returns-clause-counted
returns-clause-counted g c =
    let ahead : c.new-ahead.result ≡ ahead_of c.args.intents.now c.args.gone map.empty = c.new-ahead.ensures ∙ ap (ahead_of c.args.intents.now c.args.gone) c.new-none.ensures in
    subst (λ (a : Intents). IfOk c.count_puts.result (λ n. IsRaised (g.V.Vault.tells c.args.vault.now) (g.V.Vault.held c.args.vault.now).cells a (intents_from a (puts_of c.args.puts.now)) (record no_counts { cells = c.args.marks }) n)) ahead
    (subst (λ (s : Counts). IfOk c.count_puts.result (λ n. IsRaised (g.V.Vault.tells c.args.vault.now) (g.V.Vault.held c.args.vault.now).cells c.new-ahead.result (intents_from c.new-ahead.result (puts_of c.args.puts.now)) s n)) c.of_cells.ensures c.count_puts.ensures.counted)
