use Rattle.std.proofs.Common.{◌≡◌}
use Rattle.alp_fields.proofs.FormLaws.{found_unless, only_unless}
use Rattle.alp_rpc.specs.Frames.{reply_frame, IsSendableReply}
use Rattle.alp_rpc.proofs.FrameLaws.{reply_frame_law}
use Rattle.alp_rpc.proofs.SendableLaws.{reply_frame_is, found_is}
use Rattle.alp_rpc.proofs.reply.decode_reply.Goals as goal

pub returns-clause-found : goal.returns-clause-found
returns-clause-found c = found_unless reply_frame reply_frame_law c.args.bytes.now c.exact.result c.exact.ensures

pub returns-clause-sendable : goal.returns-clause-sendable
returns-clause-sendable c =
    found_is (λ r. (c.args.bytes.now ≡ reply_frame.spell r) × reply_frame.Fits r) IsSendableReply (λ r known. reply_frame_is r known.1) c.exact.result
    (found_unless reply_frame reply_frame_law c.args.bytes.now c.exact.result c.exact.ensures)

pub returns-clause-only : goal.returns-clause-only
returns-clause-only c = only_unless reply_frame reply_frame_law c.args.bytes.now c.exact.result c.exact.ensures
