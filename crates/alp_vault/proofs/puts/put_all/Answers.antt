use Rattle.std.specs.Prelude.{Option}
use Rattle.std.proofs.Common.{◌≡◌, ◌+◌, List, [], ◌∷◌, ◌++◌, length, drop, ◌∙◌, ap, sym, subst, arith, length-append}
use Rattle.std.specs.FinMap as map
use Rattle.std.proofs.lemmas.List.{at_drop_more}
use Rattle.alp_base.specs.declared.key.Key.{Key}
use Rattle.alp_base.specs.declared.cell.Cell.{Cell}
use Rattle.alp_files.specs.Cells.{Cells}
use Rattle.alp_files.specs.Edits.{edits_map}
use Rattle.alp_files.specs.Undo.{puts_of, LedBy}
use Rattle.alp_files.proofs.UndoLemmas.{LedBy-push, when_ok}
use Rattle.alp_vault.proofs.puts.put_all.Goals as goal

pub loop-put-preserved : goal.loop-put-preserved
loop-put-preserved c =
    let key = c.put-item.result.0 in
    let put : c.put_noted.new.cells ≡ map.insert c.loop-put.cells c.put-item.result.0 c.put-item.result.1 = when_ok c.put_noted.result _ c.put_noted.ensures.ok (sym c.if-is_err.ensures.value) in
    let noted : c.put_noted.new.before.items ≡ c.loop-put.before.items ++ (c.put-item.result.0, map.get c.loop-put.cells c.put-item.result.0) ∷ [] = when_ok c.put_noted.result _ c.put_noted.ensures.noted (sym c.if-is_err.ensures.value) in
    record {
      led = subst (λ (xs : List (Key × Option Cell)). LedBy c.args.cells.now xs c.put_noted.new.cells) (sym noted)
          (subst (λ (s : Cells). LedBy c.args.cells.now (c.loop-put.before.items ++ (c.put-item.result.0, map.get c.loop-put.cells c.put-item.result.0) ∷ []) s) (sym put)
          (LedBy-push c.args.cells.now c.loop-put.cells c.loop-put.before.items c.put-item.result.0 c.put-item.result.1 c.loop-put.invariant.led));
      rest =
          ap (λ (m : Cells). edits_map (puts_of (drop (c.loop-put.put-index + 1) c.args.puts.now)) m) put
          ∙ ap (λ (x : Key × Cell). edits_map (puts_of (x ∷ drop (c.loop-put.put-index + 1) c.args.puts.now)) c.loop-put.cells) c.put-item.is
          ∙ sym (at_drop_more (λ (xs : List (Key × Cell)). edits_map (puts_of xs) c.loop-put.cells) c.args.puts.now c.loop-put.put-index c.put-item.result c.loop-put-test.true)
          ∙ c.loop-put.invariant.rest;
      room = omega (
        arith,
        c.loop-put.invariant.room,
        c.put_noted.ensures.room,
        c.loop-put-test.true,
        ap (λ (xs : List (Key × Option Cell)). length xs) noted,
        length-append c.loop-put.before.items ((c.put-item.result.0, map.get c.loop-put.cells c.put-item.result.0) ∷ []),
      );
    }
