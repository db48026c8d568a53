use Rattle.std.proofs.Common.{◌≡◌, ◌≤◌, ◌∙◌, List, length, sym, ap, subst}
use Rattle.alp_lines.specs.declared.line.Line.{Line}
use Rattle.alp_script.specs.Accepted.{IsAccepted, servers_said}
use Rattle.alp_drill.specs.Script.{counted, drill_lines}
use Rattle.alp_drill.proofs.AcceptLemmas.{few_lines, accepted, three_servers}
use Rattle.alp_drill.proofs.StepLemmas.{is_script}
use Rattle.alp_drill.proofs.script.drill.Goals as goal

pub counted-requires : goal.counted-requires
counted-requires c = subst (λ (ls : List Line). length ls ≤ 200000) (sym c.in_ok-lines.ensures) (few_lines c.args.seed c.args.size c.requires)

pub returns : goal.returns
returns c =
    let same : c.in_ok-script.script.items ≡ counted 1 (drill_lines c.args.seed c.args.size) = c.in_ok-script.ensures ∙ ap (counted 1) c.in_ok-lines.ensures in
    record {
      script = same ∙ is_script c.args.seed c.args.size;
      accepted = subst IsAccepted (sym same) (accepted c.args.seed c.args.size c.requires);
      servers = ap servers_said same ∙ three_servers c.args.seed c.args.size;
    }
