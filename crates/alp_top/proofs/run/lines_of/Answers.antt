use Rattle.alp_top.proofs.CommandLemmas.{play_lines, play_none, script_accepted}
use Rattle.alp_top.proofs.run.lines_of.Goals as goal

pub returns-in-Play-clause-lines : goal.returns-in-Play-clause-lines
returns-in-Play-clause-lines g c = play_lines c.args.command.now c.in-Play.folder (g.S.Source.left c.args.script.now) (g.S.Source.left c.read_script.new.source) c.read_script.result c.in-Play.is c.read_script.ensures.script

pub returns-in-Play-clause-accepted : goal.returns-in-Play-clause-accepted
returns-in-Play-clause-accepted g c = script_accepted (g.S.Source.left c.args.script.now) (g.S.Source.left c.read_script.new.source) c.read_script.result c.accepted_lines.ensures c.read_script.ensures.script

pub returns-in-Play-clause-none : goal.returns-in-Play-clause-none
returns-in-Play-clause-none g c = play_none c.args.command.now c.in-Play.folder (g.S.Source.left c.args.script.now) (g.S.Source.left c.read_script.new.source) c.read_script.result c.in-Play.is c.read_script.ensures.script
