use Rattle.std.specs.Prelude.{vec_len}
use Rattle.std.proofs.Common.{◌≡◌, ◌<◌, length, sym, ◌∙◌, arith}
use Rattle.std.proofs.lemmas.Bool.{eqb-true, eqb-false}
use Rattle.alp_script.proofs.ScriptLemmas.{resume-ended, resume-last}
use Rattle.alp_script.proofs.reader.Reader.finish.Goals as goal

pub returns-then-is_empty : goal.returns-then-is_empty
returns-then-is_empty c =
    let none : vec_len c.self.inside.partial ≡ 0 = eqb-true _ _ (sym c.is_empty.ensures ∙ c.if-is_empty.true) in
    let short : length c.self.inside.partial.items ≡ 0 = omega arith in
    rw (← c.self.view_is, resume-ended (record { said = c.self.inside.said.items; known = c.self.inside.context; lines = c.self.inside.lines; partial = c.self.inside.partial.items }) short) c.ended.ensures

pub returns : goal.returns
returns c =
    let none : (vec_len c.self.inside.partial ≡ 0) → ⊥ = eqb-false _ _ (sym c.is_empty.ensures ∙ c.if-is_empty.false) in
    let some : 0 < length c.self.inside.partial.items = omega (arith, none) in
    rw (← c.self.view_is, resume-last (record { said = c.self.inside.said.items; known = c.self.inside.context; lines = c.self.inside.lines; partial = c.self.inside.partial.items }) c.self.invariant.open_ended some, ← c.as_slice.ensures.value) c.last_line.ensures
