use Rattle.std.proofs.Common.{◌≡◌}
use Rattle.alp_fields.proofs.FormLaws.{found_unless, only_unless}
use Rattle.alp_rpc.specs.Frames.{request, IsSendable}
use Rattle.alp_rpc.proofs.FrameLaws.{request_law}
use Rattle.alp_rpc.proofs.SendableLaws.{request_is, found_is}
use Rattle.alp_rpc.proofs.request.decode_request.Goals as goal

pub returns-clause-found : goal.returns-clause-found
returns-clause-found c = found_unless request request_law c.args.bytes.now c.exact.result c.exact.ensures

pub returns-clause-sendable : goal.returns-clause-sendable
returns-clause-sendable c =
    found_is (λ r. (c.args.bytes.now ≡ request.spell r) × request.Fits r) IsSendable (λ r known. request_is r known.1) c.exact.result
    (found_unless request request_law c.args.bytes.now c.exact.result c.exact.ensures)

pub returns-clause-only : goal.returns-clause-only
returns-clause-only c = only_unless request request_law c.args.bytes.now c.exact.result c.exact.ensures
