use Rattle.std.specs.Prelude.{None, Some}
use Rattle.std.proofs.Common.{◌≡◌, ◌+◌, sym, ap, ◌∙◌}
use Rattle.alp_journal.specs.Coordinator.{client_of, joins_of}
use Rattle.alp_coord.specs.Coordinators.{fate_in}
use Rattle.alp_node.proofs.AgainstSteps.{against_lapsed}
use Rattle.alp_node.proofs.LastVotes.{IsLast, is_last}
use Rattle.alp_node.proofs.PairedLemmas.{running_part}
use Rattle.alp_node.proofs.server_state.ServerState.last_vote.Goals as goal

-- one that is finishing has a client
pub unreachable-requires : goal.unreachable-requires
unreachable-requires g c =
    let k = c.args.self.now in
    let o : IsLast c.args.join c.args.ts (k.clock + 1) c.args.latest (fate_in k.coordinator c.args.trans) = is_last c.args.join c.args.ts (k.clock + 1) c.args.latest (fate_in k.coordinator c.args.trans) c.requires.last in
    let wrong : None ≡ Some o.client = sym c.in_default.is ∙ c.client.ensures ∙ ap client_of o.is in
    cc

-- and a part here
pub own_vote-requires-clause-live : goal.own_vote-requires-clause-live
own_vote-requires-clause-live g c none =
    let k = c.args.self.now in
    let part = running_part k.servers k.server k.coordinator k.joins k.lives c.requires.ready.2.paired c.args.trans c.in-Some.client (sym c.client.ensures ∙ c.in-Some.is) in
    let wrong : None ≡ Some part.0 = sym none ∙ part.1 in
    cc

pub commit_all-requires-clause-may : goal.commit_all-requires-clause-may
commit_all-requires-clause-may g c = sym c.in_ok-why.ensures.same ∙ c.in-None.is

pub commit_all-requires-clause-journal : goal.commit_all-requires-clause-journal
commit_all-requires-clause-journal g c a held h = c.in_ok-why.ensures.journal a held h

pub returns-in-Some-2 : goal.returns-in-Some-2
returns-in-Some-2 g c from =
    let k = c.args.self.now in
    let t = c.args.trans in
    let w = c.in-Some-2.why in
    let runs : client_of (fate_in k.coordinator t) ≡ Some c.in-Some.client = sym c.client.ensures ∙ c.in-Some.is in
    let items : c.as_slice.result.now ≡ joins_of (fate_in k.coordinator t) = c.as_slice.ensures.value ∙ c.in_ok-joins.ensures in
    against_lapsed g.V.Vault k from t c.args.join c.args.ts c.args.latest c.requires.last c.requires.up c.requires.ready w (λ a held h. c.in_ok-why.ensures.journal a held h ∙ sym c.in_ok-why.ensures.same ∙ c.in-Some-2.is)
    c.lapse.new.self c.lapse.result c.in-Some.client c.as_slice.result.now runs items c.lapse.ensures.kept c.lapse.ensures.along c.lapse.ensures.ends c.lapse.ensures.said c.lapse.ensures.wanting
