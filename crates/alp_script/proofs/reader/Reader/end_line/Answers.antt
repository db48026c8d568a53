use Rattle.std.proofs.Common.{◌≡◌, ◌+◌, ℕ, List, ap, sym, ◌∙◌}
use Rattle.std.specs.Str.Lines.{strip_carriage_return}
use Rattle.alp_script.specs.Script.{read_at}
use Rattle.alp_script.proofs.ScriptLemmas.{follows-line, outside-line, takes-flaw}
use Rattle.alp_script.proofs.reader.Reader.end_line.Goals as goal

pub returns-in_ok-keep-in-Ok : goal.returns-in_ok-keep-in-Ok
returns-in_ok-keep-in-Ok c =
    let text : strip_carriage_return c.self.inside.partial.items ≡ c.without_return-text.result.now =
    ap strip_carriage_return (sym c.as_slice.ensures.value) ∙ sym c.without_return-text.ensures in
    rw (c.in_ok-keep-in-Ok.ensures.kept, c.clear.ensures.items, ← c.self.view_is)
    (follows-line _ _ _ c.self.invariant c.in-Ok.ensures.few (ap (λ (t : List ℕ). read_at c.self.inside.context (c.self.inside.lines + 1) t) text ∙ c.in-Ok.ensures.said))

pub returns-in-Err-Outside : goal.returns-in-Err-Outside
returns-in-Err-Outside c =
    let text : strip_carriage_return c.self.inside.partial.items ≡ c.without_return-text.result.now =
    ap strip_carriage_return (sym c.as_slice.ensures.value) ∙ sym c.without_return-text.ensures in
    rw c.flaw_at.ensures
    (takes-flaw (Unit {0}) _ c.args.self.now _ _
    (rw (← c.self.view_is)
    (outside-line _ c.self.invariant (ap (λ (t : List ℕ). read_at c.self.inside.context (c.self.inside.lines + 1) t) text ∙ (rw c.in-Err-Outside.field-0-is at c.in-Err-Outside.ensures.said)))))
