use Rattle.std.proofs.Common.{List, sym, ap, ◌∙◌}
use Rattle.alp_files.specs.Edits.{Edit}
use Rattle.alp_files.specs.Needs.{Intents, intents_from, with_puts}
use Rattle.alp_files.specs.Undo.{puts_of}
use Rattle.alp_files.proofs.IntentLemmas.{only_puts, puts_alone}
use Rattle.alp_files.proofs.UndoLemmas.{on_ok}
use Rattle.alp_trans.proofs.intents.Intents.put_all.Goals as goal

pub returns-clause-ok : goal.returns-clause-ok
returns-clause-ok c =
    let v : Intents = record { drops = c.self.inside.drops; cuts = c.self.inside.cuts; puts = c.self.inside.puts } in
    let es : List Edit = puts_of c.args.puts.items in
    on_ok c.put_all.result _ _ c.put_all.ensures.ok (λ e.
    ap (with_puts v) e ∙ sym (only_puts v es (puts_alone c.args.puts.items)) ∙ ap (λ (x : Intents). intents_from x es) c.self.view_is)
