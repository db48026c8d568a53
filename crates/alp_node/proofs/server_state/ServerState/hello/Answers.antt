use Rattle.std.specs.Prelude.{Some}
use Rattle.std.proofs.Common.{arith, ◌≡◌, ◌+◌, [], refl, sym, ap, ◌∙◌, subst}
use Rattle.alp_files.specs.declared.call.Call.TheVariants as call
use Rattle.alp_files.specs.declared.reply.Reply.TheVariants as reply
use Rattle.alp_journal.specs.declared.event.Event.TheVariants as event
use Rattle.alp_node.specs.ServerState.{IsReady}
use Rattle.alp_node.specs.Steps.{Stepped, told_answer}
use Rattle.alp_node.specs.declared.sessions.Sessions.{Sessions}
use Rattle.alp_node.specs.Turns.{HasTurned}
use Rattle.alp_node.specs.declared.answer.Answer.{Answer}
use Rattle.alp_node.proofs.EndLemmas.{hello_stepped}
use Rattle.alp_node.proofs.GivenLemmas.{calm_given}
use Rattle.alp_node.proofs.ReadyLemmas.{hello_ready}
use Rattle.alp_calls.proofs.LookLemmas.{left_same}
use Rattle.alp_node.proofs.SeatLemmas.{left_step_as}
use Rattle.alp_node.specs.declared.sessions.CallOrder.TheVariants as order
use Rattle.alp_node.proofs.server_state.ServerState.hello.Goals as goal

pub returns : goal.returns
returns g c =
    let k = c.args.self.now in
    let held = g.V.Vault.held k.vault in
    let faults = g.V.Vault.faults k.vault in
    let serves = g.V.Vault.serves k.vault in
    let none : c.new-2.result ≡ [] = c.new-2.ensures ∙ c.new.ensures.items in
    let is : c.in_ok-answer.answer ≡ told_answer (Some (reply.Welcome k.epoch)) [] = c.in_ok-answer.ensures.ok ∙ ap (told_answer (Some (reply.Welcome k.epoch))) none in
    left_step_as g.V.Vault k (record k { sessions = c.set.new.self }) refl refl refl refl (left_same g.V.Vault k.vault) (Some order.First) (event.Call c.args.client 0 1 (call.Hello c.args.name)) c.in_ok-answer.answer c.requires.up (λ ns h. h)
    (λ told a h.
    subst (λ (x : Sessions). Stepped a faults faults held (record k { sessions = x }) (event.Call c.args.client 0 1 (call.Hello c.args.name)) c.in_ok-answer.answer) (sym c.set.ensures)
    (hello_stepped a faults faults held k c.args.client c.args.name c.in_ok-answer.answer h c.requires.client c.requires.up c.requires.first is))
    (calm_given faults faults (g.V.Vault.allowance k.vault) k.is_down (Some order.First) (Some (reply.Welcome k.epoch)) [] c.in_ok-answer.answer is refl refl refl refl c.requires.up c.requires.up tt)
    (λ n h. subst (λ (x : Sessions). IsReady (n + 1) serves (record k { sessions = x })) (sym c.set.ensures) (hello_ready n serves k c.args.client c.args.name c.requires.client h))
    (λ on. subst (λ (y : Answer). HasTurned (Some order.First) k (record k { sessions = c.set.new.self }) (event.Call c.args.client 0 1 (call.Hello c.args.name)) y.kept) (sym is)
    (record { later = omega arith; times = tt; sessions = (refl, ap (λ (x : Sessions). record k { sessions = x }) c.set.ensures); pages = tt }))
