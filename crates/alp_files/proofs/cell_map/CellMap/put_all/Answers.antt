use Rattle.std.specs.Prelude.{Option}
use Rattle.std.proofs.Common.{◌≡◌, List, [], ◌∷◌, ◌++◌, length, refl, sym, ◌∙◌, ap, subst, arith, length-append}
use Rattle.std.specs.FinMap as map
use Rattle.std.proofs.lemmas.List.{nil_from_length}
use Rattle.alp_base.specs.declared.key.Key.{Key}
use Rattle.alp_base.specs.declared.cell.Cell.{Cell}
use Rattle.alp_files.specs.Cells.{Cells}
use Rattle.alp_files.specs.Edits.{edits_map}
use Rattle.alp_files.specs.Undo.{puts_of, LedBy}
use Rattle.alp_files.proofs.UndoLemmas.{LedBy-push, when_err, when_ok}
use Rattle.alp_files.proofs.cell_map.CellMap.put_all.Goals as goal

pub loop-key-init : goal.loop-key-init
loop-key-init c = record {
  led = subst (λ (xs : List (Key × Option Cell)). LedBy c.args.self.now xs c.args.self.now) (sym c.in_ok-before.ensures.items) refl;
  rest = ap (λ (xs : List (Key × Cell)). edits_map (puts_of xs) c.args.self.now) c.into_iter-key-iterator.ensures.into_iter_gives.0;
  room = omega (arith, ap (λ (xs : List (Key × Option Cell)). length xs) c.in_ok-before.ensures.items, ap (λ (xs : List (Key × Cell)). length xs) c.into_iter-key-iterator.ensures.into_iter_gives.0, c.in_ok-before.ensures.capacity, c.len.ensures);
}

pub put_noted-requires : goal.put_noted-requires
put_noted-requires c = omega (arith, c.loop-key.invariant.room, ap (λ (xs : List (Key × Cell)). length xs) c.in-Some.ensures.steps.0)

pub returns-then-is_err-clause-err : goal.returns-then-is_err-clause-err
returns-then-is_err-clause-err c =
    let same = when_err c.put_noted.result _ c.put_noted.ensures.err (sym c.if-is_err.ensures.value) in
    c.take_back.ensures c.args.self.now
    (subst (λ (xs : List (Key × Option Cell)). LedBy c.args.self.now xs c.put_noted.new.self) (sym (ap (λ b. b.items) same.1))
    (subst (λ (s : Cells). LedBy c.args.self.now c.loop-key.before.items s) (sym same.0) c.loop-key.invariant.led))

pub loop-key-preserved : goal.loop-key-preserved
loop-key-preserved c =
    let put : c.put_noted.new.self ≡ map.insert c.loop-key.self c.in-Some.key c.in-Some.cell = when_ok c.put_noted.result _ c.put_noted.ensures.ok (sym c.if-is_err.ensures.value) in
    let noted : c.put_noted.new.before.items ≡ c.loop-key.before.items ++ (c.in-Some.key, map.get c.loop-key.self c.in-Some.key) ∷ [] = when_ok c.put_noted.result _ c.put_noted.ensures.noted (sym c.if-is_err.ensures.value) in
    record {
      led = subst (λ (xs : List (Key × Option Cell)). LedBy c.args.self.now xs c.put_noted.new.self) (sym noted)
          (subst (λ (s : Cells). LedBy c.args.self.now (c.loop-key.before.items ++ (c.in-Some.key, map.get c.loop-key.self c.in-Some.key) ∷ []) s) (sym put)
          (LedBy-push c.args.self.now c.loop-key.self c.loop-key.before.items c.in-Some.key c.in-Some.cell c.loop-key.invariant.led));
      rest =
          ap (λ (s : Cells). edits_map (puts_of c.next.new.self.rest.items) s) put
          ∙ ap (λ (xs : List (Key × Cell)). edits_map (puts_of xs) c.loop-key.self) (sym c.in-Some.ensures.steps.0)
          ∙ c.loop-key.invariant.rest;
      room = omega (arith, c.loop-key.invariant.room, c.put_noted.ensures.room, ap (λ (xs : List (Key × Option Cell)). length xs) noted, length-append c.loop-key.before.items ((c.in-Some.key, map.get c.loop-key.self c.in-Some.key) ∷ []), ap (λ (xs : List (Key × Cell)). length xs) c.in-Some.ensures.steps.0);
    }

pub returns-clause-ok : goal.returns-clause-ok
returns-clause-ok c =
    let over : c.loop-key.key-iterator.rest.items ≡ [] = nil_from_length c.loop-key.key-iterator.rest.items (omega (arith, c.loop-key.key-iterator.rest.ok, c.in-None.ensures.steps.0)) in
    ap (λ (xs : List (Key × Cell)). edits_map (puts_of xs) c.loop-key.self) (sym over) ∙ c.loop-key.invariant.rest
