-- Frames: a byte that says what it is, who speaks, the epoch, a number, and the call or the reply.
use Rattle.std.specs.Prelude.{◌≡◌, ℕ, ◌≤◌, Bool, ◌&&◌, nat_le, List, ◌++◌}
use Rattle.alp_fields.specs.Forms.{Form, pair, mapped, checked, marked, u8, u32}
use Rattle.alp_files.specs.declared.call.Call.{Call}
use Rattle.alp_files.specs.declared.reply.Reply.{Reply}
use Rattle.alp_rpc.specs.declared.frame.Request.{Request}
use Rattle.alp_rpc.specs.declared.frame.ReplyFrame.{ReplyFrame}
use Rattle.alp_rpc.specs.Calls.{call}
use Rattle.alp_rpc.specs.Calls as calls
use Rattle.alp_rpc.specs.Replies.{reply}
use Rattle.alp_rpc.specs.Replies as replies

-- the first byte of a request, 0x51, and of a reply, 0x50
abbrev pub request_mark : ℕ
request_mark = 81

abbrev pub reply_mark : ℕ
reply_mark = 80

-- clients are numbered from 1 to 16, and what they ask from 1 on
abbrev pub clients : ℕ
clients = 16

abbrev pub is_client : ℕ → Bool
is_client n = nat_le 1 n && nat_le n clients

abbrev pub is_number : ℕ → Bool
is_number n = nat_le 1 n

-- client, epoch and number
abbrev pub Head : Type 0
Head = ℕ × (ℕ × ℕ)

unfoldable pub head : Form Head
head = pair (checked is_client u8) (pair u32 (checked is_number u32))

-- a request: its mark, the head, and the call
abbrev pub request_of : Head × Call → Request
request_of x = record { client = x.0.0; epoch = x.0.1.0; number = x.0.1.1; call = x.1 }

abbrev pub request_parts : Request → Head × Call
request_parts r = ((r.client, (r.epoch, r.number)), r.call)

unfoldable pub request : Form Request
request = marked request_mark (mapped request_of request_parts (pair head call))

-- a reply: its mark, the head, and what is answered
abbrev pub reply_of : Head × Reply → ReplyFrame
reply_of x = record { client = x.0.0; epoch = x.0.1.0; number = x.0.1.1; reply = x.1 }

abbrev pub reply_parts : ReplyFrame → Head × Reply
reply_parts r = ((r.client, (r.epoch, r.number)), r.reply)

unfoldable pub reply_frame : Form ReplyFrame
reply_frame = marked reply_mark (mapped reply_of reply_parts (pair head reply))

-- No request begins a reply, and no reply a request: their spellings differ, whatever stands behind either.
abbrev pub AreToldApart : Type 0
AreToldApart = (q : Request) (r : ReplyFrame) (rest others : List ℕ) → request.spell q ++ rest ≡ reply_frame.spell r ++ others → ⊥

-- What the types of a frame leave open and its spelling needs: the ranges of client and number, and what its call
-- or its reply needs.
pub record IsHead (client number : ℕ) : Type 0 where
  pub from_one : 1 ≤ client
  pub to_last : client ≤ clients
  pub counted : 1 ≤ number

abbrev pub IsSendable : Request → Type 0
IsSendable r = IsHead r.client r.number × calls.IsSendable r.call

abbrev pub IsSendableReply : ReplyFrame → Type 0
IsSendableReply r = IsHead r.client r.number × replies.IsSendable r.reply
