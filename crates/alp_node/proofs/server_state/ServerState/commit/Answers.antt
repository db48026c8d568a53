use Rattle.std.specs.Prelude.{None, Some}
use Rattle.std.specs.FinMap as map
use Rattle.std.proofs.Common.{◌≡◌, refl, sym, ap, ◌∙◌}
use Rattle.alp_node.proofs.StandingLemmas.{WorksHere, works_here}
use Rattle.alp_node.proofs.server_state.ServerState.commit.Goals as goal

pub own_vote-requires-clause-live : goal.own_vote-requires-clause-live
own_vote-requires-clause-live g c none =
    let k = c.args.self.now in
    let mine : WorksHere k c.args.turn.now.client c.args.trans = works_here c.requires.ready.0 (g.V.Vault.serves k.vault) k c.requires.ready.2 c.args.turn.now.client c.args.trans c.requires.works in
    let wrong : None ≡ Some mine.live = sym none ∙ mine.there in
    cc
