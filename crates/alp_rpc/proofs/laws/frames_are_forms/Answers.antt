use Rattle.alp_fields.proofs.FormLaws.{spelling_is_one}
use Rattle.alp_rpc.specs.Frames.{request, reply_frame}
use Rattle.alp_rpc.proofs.FrameLaws.{request_law, reply_frame_law, frames_apart}
use Rattle.alp_rpc.proofs.laws.frames_are_forms.Goals as goal

pub returns : goal.returns
returns c = record {
  requests = request_law;
  replies = reply_frame_law;
  requests_once = spelling_is_one request request_law;
  replies_once = spelling_is_one reply_frame reply_frame_law;
  apart = frames_apart;
}
