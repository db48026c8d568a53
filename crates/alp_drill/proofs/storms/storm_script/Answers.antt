use Rattle.std.proofs.Common.{◌≡◌, ◌≤◌, ◌∙◌, List, length, sym, ap, subst}
use Rattle.alp_lines.specs.declared.line.Line.{Line}
use Rattle.alp_script.specs.Accepted.{IsAccepted, servers_said}
use Rattle.alp_drill.specs.Script.{counted}
use Rattle.alp_drill.specs.Storms.{storm_script}
use Rattle.alp_drill.proofs.StormLemmas.{few_storm_lines, storm_accepted, storm_servers}
use Rattle.alp_drill.proofs.StepLemmas.{is_storm_script}
use Rattle.alp_drill.proofs.storms.storm_script.Goals as goal

pub counted-requires : goal.counted-requires
counted-requires c = subst (λ (ls : List Line). length ls ≤ 200000) (sym c.in_ok-lines.ensures) (few_storm_lines c.args.storm c.requires)

pub returns : goal.returns
returns c =
    let same : c.in_ok-script.script.items ≡ storm_script c.args.storm = c.in_ok-script.ensures ∙ ap (counted 1) c.in_ok-lines.ensures ∙ is_storm_script c.args.storm in
    record {
      script = same;
      accepted = subst IsAccepted (sym same) (storm_accepted c.args.storm c.requires);
      servers = ap servers_said same ∙ storm_servers c.args.storm;
    }
