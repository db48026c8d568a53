use Rattle.std.specs.Prelude.{Option, Vec}
use Rattle.std.specs.Global.{Global}
use Rattle.std.proofs.Common.{◌+◌, [], ap}
use Rattle.alp_lines.specs.declared.line.Line.{Line}
use Rattle.alp_script.specs.Known.{Known}
use Rattle.alp_script.specs.Script.{with_front, line_then, script_from}
use Rattle.alp_script.specs.declared.numbered.NumberedLine.{NumberedLine}
use Rattle.alp_script.proofs.ScriptLemmas.{gives-flaw}
use Rattle.alp_script.proofs.reader.last_line.Goals as goal

pub returns-in-Err-Outside : goal.returns-in-Err-Outside
returns-in-Err-Outside c =
    rw c.flaw_at.ensures
    (gives-flaw (Vec NumberedLine Global) (λ v. v.items) c.args.number _
    (ap (λ (o : Option (Option Line × Known)). with_front c.args.said.items (line_then c.args.number o (λ t. script_from t (c.args.number + 1) [])))
    (rw c.in-Err-Outside.field-0-is at c.in-Err-Outside.ensures.said)))
