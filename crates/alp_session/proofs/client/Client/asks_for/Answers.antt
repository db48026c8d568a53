use Rattle.std.specs.FinMap as map
use Rattle.std.specs.Prelude.{Option, Some, IfSome}
use Rattle.std.proofs.Common.{◌≡◌, sym, subst}
use Rattle.alp_files.specs.declared.call.Call.{Call}
use Rattle.alp_rpc.specs.Calls as calls
use Rattle.alp_rpc.specs.Frames as frames
use Rattle.alp_session.specs.Calls.{call_by}
use Rattle.alp_session.proofs.CallLemmas.{call_sendable, request_sendable}
use Rattle.alp_session.proofs.client.Client.asks_for.Goals as goal

pub returns-clause-sendable : goal.returns-clause-sendable
returns-clause-sendable c =
    let called : call_by c.args.words.now c.args.self.now c.args.line.now ≡ Some c.in-Some.call = cc (c.in_ok-call.ensures, c.in-Some.is) in
    let sendable : calls.IsSendable c.in-Some.call =
    subst (λ (o : Option Call). IfSome o calls.IsSendable) called (call_sendable c.args.words.now c.args.self.now c.args.line.now c.requires.ready.told c.requires.line) in
    subst frames.IsSendable (sym c.request.ensures)
    (request_sendable c.args.number c.args.self.now c.args.line.now (map.get c.args.self.now.sessions c.server_for-server.result) c.in-Some.call c.requires.ready.from_one c.requires.ready.to_last sendable)
