use Rattle.std.proofs.Common.{rules, ◌<◌, ◌≤◌, List, [], ◌∷◌, ◌++◌, length, sym, ◌∙◌, ap, subst, append-nil, append_assoc, arith}
use Rattle.std.proofs.lemmas.Result.{on_ok_weaker}
use Rattle.alp_journal.specs.declared.log.Item.{Item}
use Rattle.alp_session.proofs.CallLemmas.{form_askable}
use Rattle.alp_session.specs.Ahead.{ahead, IsOnItsWay}
use Rattle.alp_session.specs.Crowd.{Crowd}
use Rattle.alp_session.specs.Crowds.{client_at, times_out}
use Rattle.alp_cluster.specs.Clients.{InStep}
use Rattle.alp_cluster.specs.Steps.{IsOwnNext, DidLine}
use Rattle.alp_cluster.specs.declared.fault.RunFault.TheVariants as fault
use Rattle.alp_cluster.proofs.DidLemmas.{gone_both, all_memory, all_handed, all_on}
use Rattle.alp_cluster.proofs.GoneLemmas.{end_on, end_map, end_any, handed_on}
use Rattle.alp_cluster.proofs.LineLemmas.{carry_some}
use Rattle.alp_cluster.proofs.SendLemmas.{step_here, ready_here, line_over, line_timed, line_asks, line_not, less_behind, own_then, line_more, line_some}
use Rattle.alp_cluster.proofs.parties.Parties.+send_line.Goals as goal

pub carry_before-requires : goal.carry_before-requires
carry_before-requires g t c = record { on = c.requires.step.on }

pub returns-in_err-carry_before-clause-gone : goal.returns-in_err-carry_before-clause-gone
returns-in_err-carry_before-clause-gone g t c =
    all_handed g.V.Vault (Unit {0}) c.args.self.now.stations c.carry_before.new.self.stations c.in_err-carry_before.field-0.0 c.from_residual.result c.in_err-carry_before.ensures.gone
    (handed_on c.in_err-carry_before.field-0.0 c.from_residual.result c.from_residual.ensures.0 c.from_residual.ensures.1)

pub returns-in_err-carry_before-clause-ended : goal.returns-in_err-carry_before-clause-ended
returns-in_err-carry_before-clause-ended g t c =
    let s = c.args.self.now in
    end_on c.in_err-carry_before.field-0.0 c.from_residual.result _ _ (handed_on c.in_err-carry_before.field-0.0 c.from_residual.result c.from_residual.ensures.0 c.from_residual.ensures.1)
    (λ f d. ([], s.clients, omega arith, sym (append-nil c.args.items.now.items), carry_some g.V.Vault (length s.stations.all.items) s.clients s.stations c.carry_before.new.self.stations c.args.client c.args.line.now c.args.next f d)) c.in_err-carry_before.ensures.ended

pub asks-requires-clause-line : goal.asks-requires-clause-line
asks-requires-clause-line g t c = form_askable c.args.line.now.line c.requires.form

pub asks-requires-clause-ready : goal.asks-requires-clause-ready
asks-requires-clause-ready g t c =
    let s = c.args.self.now in
    ready_here g.V.Vault s.clients c.carry_before.new.self.clients c.in_ok-carry_before.ensures.clients s.stations c.carry_before.new.self.stations c.args.client c.args.line.now c.args.next c.requires.step c.in_ok-carry_before.ensures.did c.requires.client.0 c.requires.client.1

pub returns-in_err-frame-clause-gone : goal.returns-in_err-frame-clause-gone
returns-in_err-frame-clause-gone g t c =
    rw (handed_on fault.OutOfMemory c.from_residual-in_err-frame.result c.from_residual-in_err-frame.ensures.0 c.from_residual-in_err-frame.ensures.1)
    (all_memory g.V.Vault (Unit {0}) c.args.self.now.stations c.carry_before.new.self.stations _ c.in_ok-carry_before.ensures.gone)

pub returns-in_err-frame-clause-ended : goal.returns-in_err-frame-clause-ended
returns-in_err-frame-clause-ended g t c =
    let s = c.args.self.now in
    end_any fault.OutOfMemory c.from_residual-in_err-frame.result _ (handed_on fault.OutOfMemory c.from_residual-in_err-frame.result c.from_residual-in_err-frame.ensures.0 c.from_residual-in_err-frame.ensures.1) (
      [],
      s.clients,
      omega arith,
      sym (append-nil c.args.items.now.items),
      line_asks g.V.Vault s.clients c.carry_before.new.self.clients c.in_ok-carry_before.ensures.clients s.stations c.carry_before.new.self.stations c.args.client c.args.line.now c.args.next c.requires.step c.in_ok-carry_before.ensures.did,
    )

pub time_out-requires : goal.time_out-requires
time_out-requires g t c = record { on = c.in_ok-carry_before.ensures.did.goes.later.on }

pub returns-in_default-clause-gone : goal.returns-in_default-clause-gone
returns-in_default-clause-gone g t c =
    gone_both g.V.Vault (Unit {0}) c.args.self.now.stations c.carry_before.new.self.stations c.time_out.new.self.stations _ c.time_out.result c.in_ok-carry_before.ensures.did.goes.later.on c.in_ok-carry_before.ensures.gone c.time_out.ensures.gone

pub returns-in_default-clause-ended : goal.returns-in_default-clause-ended
returns-in_default-clause-ended g t c =
    let s = c.args.self.now in
    let e = c.carry_before.new.self in
    end_map c.time_out.result _ _
    (λ f d. (
      [],
      s.clients,
      omega arith,
      sym (append-nil c.args.items.now.items),
      line_timed g.V.Vault s.clients e.clients c.in_ok-carry_before.ensures.clients s.stations e.stations c.args.client c.args.line.now c.args.next c.requires.step c.in_ok-carry_before.ensures.did f c.time_out.new.self.stations c.due-due.result c.due-due.ensures d,
    ))
    c.time_out.ensures.ended

pub returns-in_default-clause-did : goal.returns-in_default-clause-did
returns-in_default-clause-did g t c =
    let s = c.args.self.now in
    let e = c.carry_before.new.self in
    on_ok_weaker c.time_out.result
    (λ d. (
      [],
      times_out e.clients c.args.client c.args.next,
      omega arith,
      sym (append-nil c.args.items.now.items),
      subst (λ (x : Crowd). DidLine g.V.Vault (length s.stations.all.items) s.clients x s.stations c.time_out.new.self.stations c.args.client c.args.line.now c.args.next [] (times_out e.clients c.args.client c.args.next))
          (sym (c.time_out.ensures.clients ∙ c.in_ok-carry_before.ensures.clients))
          (line_over g.V.Vault s.clients e.clients c.in_ok-carry_before.ensures.clients s.stations e.stations c.args.client c.args.line.now c.args.next c.requires.step c.in_ok-carry_before.ensures.did c.time_out.new.self.stations c.due-due.result
          (sym c.in_ok-frame.ensures.frame ∙ c.in_default.is) c.due-due.ensures d),
    ))
    c.time_out.ensures.did

pub send-requires-clause-step : goal.send-requires-clause-step
send-requires-clause-step g t c =
    let s = c.args.self.now in
    step_here g.V.Vault s.clients c.carry_before.new.self.clients c.in_ok-carry_before.ensures.clients s.stations c.carry_before.new.self.stations c.args.client c.args.line.now c.args.next c.requires.step c.in_ok-carry_before.ensures.did

pub returns-in_err-behind-clause-gone : goal.returns-in_err-behind-clause-gone
returns-in_err-behind-clause-gone g t c =
    all_on g.V.Vault (Unit {0}) c.args.self.now.stations c.carry_before.new.self.stations c.send.new.self.stations _ c.in_err-behind.field-0.0 c.from_residual-in_err-behind.result c.in_ok-carry_before.ensures.did.goes.later.on c.in_ok-carry_before.ensures.gone
    c.in_err-behind.ensures.gone (handed_on c.in_err-behind.field-0.0 c.from_residual-in_err-behind.result c.from_residual-in_err-behind.ensures.0 c.from_residual-in_err-behind.ensures.1)

pub returns-in_err-behind-clause-ended : goal.returns-in_err-behind-clause-ended
returns-in_err-behind-clause-ended g t c =
    let s = c.args.self.now in
    let e = c.carry_before.new.self in
    end_on c.in_err-behind.field-0.0 c.from_residual-in_err-behind.result _ _
    (handed_on c.in_err-behind.field-0.0 c.from_residual-in_err-behind.result c.from_residual-in_err-behind.ensures.0 c.from_residual-in_err-behind.ensures.1)
    (λ f not.
    let n = line_not g.V.Vault s.clients e.clients c.in_ok-carry_before.ensures.clients s.stations e.stations c.args.client c.args.line.now c.args.next c.requires.step c.in_ok-carry_before.ensures.did f c.send.new.self.stations c.in-Some.frame
    c.args.items.now.items c.send.new.items.items c.requires.client.1 c.requires.way (sym c.in_ok-frame.ensures.frame ∙ c.in-Some.is) not in
    (n.xs, n.known, n.few, n.items, n.did))
    c.in_err-behind.ensures.ended

pub send_line-requires : goal.send_line-requires
send_line-requires g t c =
    let s = c.args.self.now in
    let e = c.carry_before.new.self in
    let d = c.send.new.self in
    let (x, is, done) = c.in_ok-behind.ensures.sent in
    let asked = sym c.in_ok-frame.ensures.frame ∙ c.in-Some.is in
    let fewer = less_behind g.V.Vault s.clients e.clients c.in_ok-carry_before.ensures.clients s.stations e.stations c.args.client c.args.line.now c.args.next c.requires.step c.in_ok-carry_before.ensures.did d.clients d.stations c.in-Some.frame c.in_ok-behind.behind x
    c.requires.client.1 c.requires.way asked done in
    let own : IsOwnNext c.args.line.now.line c.in_ok-behind.behind =
    own_then g.V.Vault s.clients e.clients c.in_ok-carry_before.ensures.clients s.stations e.stations c.args.client c.args.line.now c.args.next c.requires.step c.in_ok-carry_before.ensures.did d.clients d.stations c.in-Some.frame c.in_ok-behind.behind x
    c.requires.client.1 c.requires.way asked done in
    let step : InStep g.V.Vault d.clients d.stations = done.step in
    let way : IsOnItsWay d.clients.words (client_at d.clients c.args.client) c.args.line.now.line c.in_ok-behind.behind = fewer.0 in
    let less : ahead d.clients.words (client_at d.clients c.args.client) c.args.line.now.line c.in_ok-behind.behind < ahead s.clients.words (client_at s.clients c.args.client) c.args.line.now.line c.args.next = fewer.1 in
    search rules

pub returns-clause-gone : goal.returns-clause-gone
returns-clause-gone g t c =
    let s = c.args.self.now.stations in
    let b = c.carry_before.new.self.stations in
    let m = c.send.new.self.stations in
    let (x, is, done) = c.in_ok-behind.ensures.sent in
    gone_both g.V.Vault (Unit {0}) s m c.send_line.new.self.stations c.in_ok-behind.behind c.send_line.result done.goes.later.on
    (gone_both g.V.Vault (Unit {0}) s b m _ _ c.in_ok-carry_before.ensures.did.goes.later.on c.in_ok-carry_before.ensures.gone c.in_ok-behind.ensures.gone) c.send_line.ensures.gone

pub returns-clause-ended : goal.returns-clause-ended
returns-clause-ended g t c =
    let s = c.args.self.now in
    let e = c.carry_before.new.self in
    let d = c.send.new.self in
    let (x, is, done) = c.in_ok-behind.ensures.sent in
    let asked = sym c.in_ok-frame.ensures.frame ∙ c.in-Some.is in
    end_map c.send_line.result _ _
    (λ f rest.
    let (xs, known, few, items, some) = rest in
    let (longer, did) = line_some g.V.Vault s.clients e.clients c.in_ok-carry_before.ensures.clients s.stations e.stations c.args.client c.args.line.now c.args.next c.requires.step c.in_ok-carry_before.ensures.did d.clients d.stations c.in-Some.frame
    c.in_ok-behind.behind x c.requires.client.1 c.requires.way asked done f known c.send_line.new.self.stations xs few some in
    (x ∷ xs, known, longer, items ∙ ap (λ (ys : List Item). ys ++ xs) is ∙ append_assoc c.args.items.now.items (x ∷ []) xs, did))
    c.send_line.ensures.ended

pub returns-clause-did : goal.returns-clause-did
returns-clause-did g t c =
    let s = c.args.self.now in
    let e = c.carry_before.new.self in
    let d = c.send.new.self in
    let (x, is, done) = c.in_ok-behind.ensures.sent in
    let asked = sym c.in_ok-frame.ensures.frame ∙ c.in-Some.is in
    on_ok_weaker c.send_line.result
    (λ rest.
    let (xs, time, few, items, whole) = rest in
    let (longer, did) = line_more g.V.Vault s.clients e.clients c.in_ok-carry_before.ensures.clients s.stations e.stations c.args.client c.args.line.now c.args.next c.requires.step c.in_ok-carry_before.ensures.did d.clients d.stations c.in-Some.frame
    c.in_ok-behind.behind x c.requires.client.1 c.requires.way asked done c.send_line.new.self.clients c.send_line.new.self.stations xs time few whole in (
      x ∷ xs,
      time,
      longer,
      items ∙ ap (λ (ys : List Item). ys ++ xs) is ∙ append_assoc c.args.items.now.items (x ∷ []) xs,
      did,
    ))
    c.send_line.ensures.did
