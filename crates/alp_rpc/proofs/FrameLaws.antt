-- The laws of frames.
use Rattle.std.proofs.Common.{◌≡◌, ℕ, List, get_or, ap, refl, arith}
use Rattle.alp_fields.specs.Forms.{IsForm, pair, checked, u8, u32}
use Rattle.alp_fields.proofs.FormLaws.{pair_law, mapped_law, checked_law}
use Rattle.alp_fields.proofs.FieldLaws.{u8_law, u32_law, marked_law}
use Rattle.alp_rpc.specs.Calls.{call}
use Rattle.alp_rpc.specs.Replies.{reply}
use Rattle.alp_rpc.specs.Frames.{request_mark, reply_mark, is_client, is_number, head, request_of, request_parts, request, reply_of, reply_parts, reply_frame, AreToldApart}
use Rattle.alp_rpc.proofs.CallLaw.{call_law}
use Rattle.alp_rpc.proofs.ReplyLaw.{reply_law}

head_law : IsForm head
unfolding head
head_law = pair_law (checked is_client u8) _ (checked_law is_client u8 u8_law) (pair_law u32 _ u32_law (checked_law is_number u32 u32_law))

pub request_law : IsForm request
unfolding request
request_law = marked_law request_mark _ (omega arith) (mapped_law request_of request_parts (pair head call) (λ v. refl) (λ x. refl) (pair_law head call head_law call_law))

pub reply_frame_law : IsForm reply_frame
unfolding reply_frame
reply_frame_law = marked_law reply_mark _ (omega arith) (mapped_law reply_of reply_parts (pair head reply) (λ v. refl) (λ x. refl) (pair_law head reply head_law reply_law))

-- their first bytes are not one
pub frames_apart : AreToldApart
unfolding request reply_frame
frames_apart q r rest others same = let clash : request_mark ≡ reply_mark = ap (λ (bytes : List ℕ). get_or bytes 0 0) same in absurd (omega arith)
