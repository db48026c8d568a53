use Rattle.std.proofs.Common.{◌≡◌, ◌+◌, sym, ap, ◌∙◌}
use Rattle.alp_journal.specs.Coordinator.{Fate, joins_of}
use Rattle.alp_journal.specs.Ids.{has_join}
use Rattle.alp_coord.specs.Coordinators.{fate_in}
use Rattle.alp_node.proofs.HeardLemmas.{vote_dropped, vote_kept, kept_vote}
use Rattle.alp_node.proofs.server_state.ServerState.ready.Goals as goal

-- it is none of a transaction that is finishing
pub returns-in-Dropped : goal.returns-in-Dropped
returns-in-Dropped g c from =
    vote_dropped g.V.Vault c.args.self.now from c.args.trans c.args.join c.args.ts (c.args.self.now.clock + 1) c.requires.up c.silence.result (sym c.ballot.ensures ∙ c.in-Dropped.is) c.silence.ensures

-- others are to come
pub returns-in-Kept : goal.returns-in-Kept
returns-in-Kept g c from =
    let k = c.args.self.now in
    let t = c.args.trans in
    let j = c.args.join in
    let kept = sym c.ballot.ensures ∙ c.in-Kept.is in
    let o = kept_vote g.V.Vault k from t j c.args.ts (k.clock + 1) c.requires.up (fate_in k.coordinator t) kept in
    vote_kept g.V.Vault k from t j c.args.ts (k.clock + 1) c.requires.up c.requires.time c.silence-in-Kept.result c.hear.new.self kept c.hear.ensures.along
    (c.hear.ensures.heard (ap (λ (f : Fate). has_join j (joins_of f)) o.is ∙ o.its)) c.silence-in-Kept.ensures
