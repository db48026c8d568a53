use Rattle.std.specs.Prelude.{Some, None}
use Rattle.std.specs.FinMap as map
use Rattle.std.proofs.Common.{◌≡◌, ℕ, ◌≤◌, refl, sym, ap, ◌∙◌}
use Rattle.alp_journal.specs.Account.{Account, state_of}
use Rattle.alp_journal.specs.Participant.{Phase}
use Rattle.alp_journal.specs.Messages.{trans_ready}
use Rattle.alp_vault.specs.Contents.{Contents}
use Rattle.alp_base.specs.declared.ids.JoinNo.{JoinNo}
use Rattle.alp_node.specs.declared.lives.Live.{Live}
use Rattle.alp_node.proofs.VoteLemmas.{IsThere, is_there, none_silent, own_told, small_part}
use Rattle.alp_node.proofs.server_state.ServerState.own_vote.Goals as goal

pub own_room-full-requires-clause-part : goal.own_room-full-requires-clause-part
own_room-full-requires-clause-part g c =
    let k = c.args.self.now in
    small_part c.requires.ready.0 (g.V.Vault.serves k.vault) k c.args.trans.now c.size_of.result c.requires.ready.2 c.size_of.ensures

pub returns-clause-journal : goal.returns-clause-journal
returns-clause-journal g c a held h =
    let k = c.args.self.now in
    let there : IsThere (map.get k.lives c.args.trans.now) = is_there (map.get k.lives c.args.trans.now) c.requires.live in
    own_told a held k h c.requires.ready.0 (g.V.Vault.serves k.vault) c.requires.ready.2 c.votes_look_at_the_sum.ensures.own
    (c.walks_are_alike.ensures (state_of a) k.joins (λ j p. trans_ready p) (λ j p none. none_silent p none) h.joins) c.args.trans.now there.live there.is

pub returns-in_err-sum-clause-journal : goal.returns-in_err-sum-clause-journal
returns-in_err-sum-clause-journal g c a held h =
    let k = c.args.self.now in
    let there : IsThere (map.get k.lives c.args.trans.now) = is_there (map.get k.lives c.args.trans.now) c.requires.live in
    own_told a held k h c.requires.ready.0 (g.V.Vault.serves k.vault) c.requires.ready.2 c.votes_look_at_the_sum.ensures.own
    (c.walks_are_alike.ensures (state_of a) k.joins (λ j p. trans_ready p) (λ j p none. none_silent p none) h.joins) c.args.trans.now there.live there.is
