use Rattle.std.proofs.Common.{◌≡◌, sym, ap, ◌∙◌}
use Rattle.alp_node.proofs.AgainLemmas.{gone_step}
use Rattle.alp_worker.specs.declared.live.Stage.TheVariants as stage
use Rattle.alp_node.proofs.JoinedLemmas.{found_as}
use Rattle.alp_node.proofs.server_state.ServerState.aborted.Goals as goal

-- it is not here
pub returns-in_default : goal.returns-in_default
returns-in_default g c from = gone_step g.V.Vault c.args.self.now from c.args.trans c.args.join c.requires.up c.silence.result c.args.cause (sym c.join_at.ensures ∙ c.in_default.is) c.silence.ensures

pub abort_joining-requires-clause-asks : goal.abort_joining-requires-clause-asks
abort_joining-requires-clause-asks g c =
    (c.in-Joining.field-0, found_as c.args.trans c.args.join c.args.self.now.joins.lives c.in-Some.live (stage.Joining c.in-Joining.field-0) (sym c.join_at.ensures ∙ c.in-Some.is) c.in-Joining.is)

pub abort_active-requires-clause-active : goal.abort_active-requires-clause-active
abort_active-requires-clause-active g c =
    (c.in-Active.field-0, found_as c.args.trans c.args.join c.args.self.now.joins.lives c.in-Some.live (stage.Active c.in-Active.field-0) (sym c.join_at.ensures ∙ c.in-Some.is) c.in-Active.is)

pub abort_ready-requires-clause-voted : goal.abort_ready-requires-clause-voted
abort_ready-requires-clause-voted g c =
    (c.in-Ready.field-0, found_as c.args.trans c.args.join c.args.self.now.joins.lives c.in-Some.live (stage.Ready c.in-Ready.field-0) (sym c.join_at.ensures ∙ c.in-Some.is) c.in-Ready.is)
