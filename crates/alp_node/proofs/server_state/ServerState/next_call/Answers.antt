use Rattle.std.specs.Prelude.{Some, None}
use Rattle.std.specs.Option.{option_copied}
use Rattle.std.proofs.Common.{◌≡◌, ◌+◌, sym, ◌∙◌, ap}
use Rattle.alp_journal.specs.Desk.{Session}
use Rattle.alp_node.specs.Sessions.{session_at}
use Rattle.alp_node.proofs.OrderLemmas.{next_is, turn_call}
use Rattle.alp_node.proofs.server_state.ServerState.next_call.Goals as goal

-- its session stands
pub unreachable-requires : goal.unreachable-requires
unreachable-requires g c =
    let k = c.args.self.now in
    let next = next_is k.epoch k.epoch c.args.number c.args.call.now (session_at k.sessions c.args.client) c.requires.next in
    let wrong : None ≡ Some next.session = sym (sym c.get.ensures ∙ ap option_copied c.in_default.is) ∙ next.there in
    cc

pub call_in_turn-requires-clause-turn : goal.call_in_turn-requires-clause-turn
call_in_turn-requires-clause-turn g c =
    let k = c.args.self.now in
    let w = c.session.inside in
    let told : Session = record { who = w.who; last = w.last; reply = w.reply } in
    let next = next_is k.epoch k.epoch c.args.number c.args.call.now (session_at k.sessions c.args.client) c.requires.next in
    let there : session_at k.sessions c.args.client ≡ Some told = sym c.get.ensures ∙ ap option_copied c.in-Some.is ∙ (λ i. Some (sym c.session.view_is i)) in
    let one : Some next.session ≡ Some told = sym next.there ∙ there in
    let same : next.session ≡ told = cc in
    record { client = c.requires.client; some = c.requires.some; last = w.last; kept = w.reply; session = there; number = next.number_is ∙ ap (λ (x : Session). x.last + 1) same }

pub call_in_turn-requires-clause-asked : goal.call_in_turn-requires-clause-asked
call_in_turn-requires-clause-asked g c =
    let k = c.args.self.now in
    let next = next_is k.epoch k.epoch c.args.number c.args.call.now (session_at k.sessions c.args.client) c.requires.next in
    turn_call c.args.call.now next.other c.requires.asked
