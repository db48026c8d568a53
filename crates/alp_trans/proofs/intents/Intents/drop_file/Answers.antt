use Rattle.std.specs.Prelude.{not}
use Rattle.std.specs.FinMap as map
use Rattle.std.proofs.Common.{◌≡◌, List, sym, ap, ◌∙◌}
use Rattle.alp_base.specs.declared.key.Key.{Key}
use Rattle.alp_files.specs.Cells.{Cells}
use Rattle.alp_files.specs.Edits.{Edit, Drop, is_in_file, edits_map}
use Rattle.alp_files.specs.Needs.{Intents, intend, intents_from}
use Rattle.alp_files.specs.Undo.{puts_of}
use Rattle.alp_files.proofs.IntentLemmas.{only_puts, puts_alone, puts_kept}
use Rattle.alp_files.proofs.UndoLemmas.{when_ok}
use Rattle.alp_trans.proofs.intents.Intents.drop_file.Goals as goal

pub returns-clause-ok : goal.returns-clause-ok
returns-clause-ok c =
    let v : Intents = record { drops = c.self.inside.drops; cuts = c.self.inside.cuts; puts = c.self.inside.puts } in
    let es : List Edit = puts_of c.args.puts.items in
    let stays = λ (k : Key). not (is_in_file c.args.file k) in
    let put : c.put_all.new.self ≡ edits_map es v.puts = when_ok c.put_all.result _ c.put_all.ensures.ok (sym c.if-is_err.ensures.value) in
    let puts : c.remove_file.new.self ≡ edits_map es (map.retain_keys v.puts stays) =
    c.remove_file.ensures ∙ ap (λ (m : Cells). map.retain_keys m stays) put ∙ sym (puts_kept stays c.args.puts.items v.puts c.requires.beside) in
    (λ i. record { drops = c.in_ok-add.ensures.ok i; cuts = c.remove.ensures i; puts = puts i })
    ∙ sym (only_puts (intend (Drop c.args.file) v) es (puts_alone c.args.puts.items))
    ∙ ap (λ (x : Intents). intents_from (intend (Drop c.args.file) x) es) c.self.view_is
