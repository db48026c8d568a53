use Rattle.std.proofs.Common.{◌≡◌, sym, ap, ◌∙◌}
use Rattle.alp_base.specs.declared.ids.JoinNo.{JoinNo}
use Rattle.alp_journal.specs.Coordinator.{Fate, joins_of}
use Rattle.alp_journal.specs.Ids.{has_join}
use Rattle.alp_coord.specs.Coordinators.{fate_in}
use Rattle.alp_node.proofs.HeardLemmas.{done_dropped, done_kept, kept_receipt}
use Rattle.alp_node.proofs.server_state.ServerState.done.Goals as goal

-- it is none of a decision that stands
pub returns-in-Dropped : goal.returns-in-Dropped
returns-in-Dropped g c from = done_dropped g.V.Vault c.args.self.now from c.args.trans c.args.join c.requires.up c.silence.result (sym c.receipt.ensures ∙ c.in-Dropped.is) c.silence.ensures

-- others are to come
pub returns-in-Kept : goal.returns-in-Kept
returns-in-Kept g c from =
    let k = c.args.self.now in
    let kept = sym c.receipt.ensures ∙ c.in-Kept.is in
    let o = kept_receipt g.V.Vault k from c.args.trans c.args.join c.requires.up (fate_in k.coordinator c.args.trans) kept in
    done_kept g.V.Vault k from c.args.trans c.args.join c.requires.up c.silence-in-Kept.result c.acknowledge.new.self kept c.acknowledge.ensures.along
    (c.acknowledge.ensures.kept (ap (λ (f : Fate). has_join c.args.join (joins_of f)) o.is ∙ o.its)) c.silence-in-Kept.ensures
