use Rattle.std.specs.Prelude.{None}
use Rattle.std.proofs.Common.{ap, ◌∙◌}
use Rattle.alp_node.specs.Steps.{told_answer}
use Rattle.alp_node.proofs.TickSays.{tick_step}
use Rattle.alp_node.proofs.server_state.ServerState.tick.Goals as goal

pub returns : goal.returns
returns g c = tick_step g.V.Vault c.args.self.now c.requires.up c.requires.ready c.in_ok-acts.acts.items c.in_ok-acts.ensures c.silence.result (c.silence.ensures ∙ ap (told_answer None) c.new.ensures)
