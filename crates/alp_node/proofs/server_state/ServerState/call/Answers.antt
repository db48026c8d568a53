use Rattle.std.specs.Prelude.{false, true, is_some, None, Some}
use Rattle.std.proofs.Common.{◌≡◌, ℕ, [], sym, ◌∙◌, ap, subst}
use Rattle.alp_journal.specs.declared.event.Event.TheVariants as event
use Rattle.alp_node.specs.Orders.{order_of, idle_reply}
use Rattle.alp_node.specs.Sessions.{session_at}
use Rattle.alp_node.specs.Steps.{IsStepAs, IsStep, told_answer}
use Rattle.alp_node.specs.declared.sessions.CallOrder.{CallOrder}
use Rattle.alp_node.specs.declared.sessions.CallOrder.TheVariants as order
use Rattle.alp_node.proofs.IdleLemmas.{repeat_kept, idle_step, repeat_step}
use Rattle.alp_node.proofs.OrderLemmas.{IsIdle, first_is, next_is}
use Rattle.alp_node.proofs.server_state.ServerState.call.Goals as goal

pub hello-requires-clause-first : goal.hello-requires-clause-first
hello-requires-clause-first g c =
    let k = c.args.self.now in
    let first = first_is k.epoch c.args.epoch c.args.number c.args.call.now (session_at k.sessions c.args.client) (sym c.order.ensures ∙ c.in-First.is) in
    first.none

pub next_call-requires-clause-next : goal.next_call-requires-clause-next
next_call-requires-clause-next g c =
    let k = c.args.self.now in
    let w = session_at k.sessions c.args.client in
    let is : order_of k.epoch c.args.epoch c.args.number c.args.call.now w ≡ order.Next = sym c.order.ensures ∙ c.in-Next.is in
    let next = next_is k.epoch c.args.epoch c.args.number c.args.call.now w is in
    subst (λ (n : ℕ). order_of k.epoch n c.args.number c.args.call.now w ≡ order.Next) next.epoch_is is

pub repeat-requires : goal.repeat-requires
repeat-requires g c none =
    let k = c.args.self.now in
    let w = session_at k.sessions c.args.client in
    let kept : is_some w ≡ true = repeat_kept k.epoch c.args.epoch c.args.number c.args.call.now w (sym c.order.ensures ∙ c.in-Repeat.is) in
    let wrong : false ≡ true = ap (λ x. is_some x) (sym none) ∙ kept in
    cc

pub returns-in-Next : goal.returns-in-Next
returns-in-Next g c =
    let k = c.args.self.now in
    let G = g.V.Vault in
    let w = session_at k.sessions c.args.client in
    let did = c.next_call in
    let is : order_of k.epoch c.args.epoch c.args.number c.args.call.now w ≡ order.Next = sym c.order.ensures ∙ c.in-Next.is in
    let next = next_is k.epoch c.args.epoch c.args.number c.args.call.now w is in
    subst (λ (o : CallOrder). IsStepAs G (Some o) k did.new.self (event.Call c.args.client c.args.epoch c.args.number c.args.call.now) did.result) (sym is)
    (subst (λ (n : ℕ). IsStep G k did.new.self (event.Call c.args.client n c.args.number c.args.call.now) did.result) (sym next.epoch_is) did.ensures)

pub returns-in-Repeat : goal.returns-in-Repeat
returns-in-Repeat g c =
    let k = c.args.self.now in
    repeat_step g.V.Vault k c.args.client c.args.epoch c.args.number c.args.call.now c.requires.ready.0 c.requires.ready.2 c.requires.up c.repeat.result (sym c.order.ensures ∙ c.in-Repeat.is) c.repeat.ensures

pub returns-in-Stale : goal.returns-in-Stale
returns-in-Stale g c =
    let k = c.args.self.now in
    let w = session_at k.sessions c.args.client in
    let is : order_of k.epoch c.args.epoch c.args.number c.args.call.now w ≡ order.Stale = sym c.order.ensures ∙ c.in-Stale.is in
    idle_step g.V.Vault k c.args.client c.args.epoch c.args.number c.args.call.now c.requires.ready.0 c.requires.ready.2 c.requires.up c.stale.result (subst IsIdle (sym is) tt)
    (c.stale.ensures ∙ ap (λ (o : CallOrder). told_answer (idle_reply o k.epoch w) []) (sym is))

pub returns-in-Astray : goal.returns-in-Astray
returns-in-Astray g c =
    let k = c.args.self.now in
    let w = session_at k.sessions c.args.client in
    let is : order_of k.epoch c.args.epoch c.args.number c.args.call.now w ≡ order.Astray = sym c.order.ensures ∙ c.in-Astray.is in
    idle_step g.V.Vault k c.args.client c.args.epoch c.args.number c.args.call.now c.requires.ready.0 c.requires.ready.2 c.requires.up c.silence.result (subst IsIdle (sym is) tt)
    (c.silence.ensures ∙ ap (told_answer None) (c.new-in-Astray.ensures ∙ c.new.ensures.items) ∙ ap (λ (o : CallOrder). told_answer (idle_reply o k.epoch w) []) (sym is))
