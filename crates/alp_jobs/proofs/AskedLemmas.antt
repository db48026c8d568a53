-- what a client sends is what it asks
use Rattle.std.specs.Prelude.{Option, None, Some, IfSome}
use Rattle.std.specs.FinMap as map
use Rattle.std.specs.Option.{option_map}
use Rattle.std.proofs.Common.{◌≡◌, ℕ, sym, ◌∙◌, ap, subst}
use Rattle.alp_journal.specs.declared.log.Sent.{Sent}
use Rattle.alp_journal.specs.declared.log.Sent.TheVariants as sent
use Rattle.alp_lines.specs.declared.line.Line.{Line}
use Rattle.alp_lines.specs.declared.line.Line.TheVariants as line
use Rattle.alp_rpc.specs.Frames.{request}
use Rattle.alp_rpc.specs.declared.frame.Request.{Request}
use Rattle.alp_session.specs.Calls.{call_by, server_for}
use Rattle.alp_session.specs.Crowd.{Crowd}
use Rattle.alp_session.specs.Crowds.{asks, client_at, request_next}
use Rattle.alp_session.specs.Frames.{request_in, request_for, request_of, frame_of, addressed, sent_by}
use Rattle.alp_session.specs.Maps.{WordMap}
use Rattle.alp_session.specs.declared.client.Client.{Client}
use Rattle.alp_session.specs.declared.frames.Addressed.{Addressed}
use Rattle.alp_session.specs.declared.waiting.Next.{Next}
use Rattle.alp_session.specs.declared.waiting.Next.TheVariants as next
use Rattle.alp_session.proofs.FrameLemmas.{sent_call}
use Rattle.alp_jobs.specs.Does.{IsAsked}

same_frame : (a b : Addressed) → Some a ≡ Some b → a ≡ b
same_frame a b e = cc

-- the frame of a request
spelled : (server : ℕ) (o : Option Request) (frame : Addressed) (s : Sent) → option_map (addressed server) o ≡ Some frame → IfSome o request.Fits → s ≡ sent_by frame.bytes → IsAsked o s
spelled server None frame s asked fits is = tt
spelled server (Some r) frame s asked fits is =
    let same : addressed server r ≡ frame = same_frame (addressed server r) frame asked in
    is ∙ (ap (λ (f : Addressed). sent_by f.bytes) (sym same) ∙ sent_call r fits)

of_line : (words : WordMap) (k : ℕ) (c : Client) (l : Line) (frame : Addressed) (s : Sent) → frame_of words k c l ≡ Some frame → IfSome (request_of words k c l) request.Fits → s ≡ sent_by frame.bytes → IsAsked (request_of words k c l) s
of_line words k c (line.Repeat client) frame s asked fits is = tt
of_line words k c (line.Old client) frame s asked fits is = tt
of_line words k c (line.Raw client server bytes) frame s asked fits is = tt
of_line words k c l frame s asked fits is = spelled (server_for words c l) (request_for words k c l) frame s asked fits is

-- where its frame has a spelling, what is sent is what was asked
pub asked_is : (c : Crowd) (k : ℕ) (l : Line) (n : Next) (frame : Addressed) (s : Sent) → asks c k l n ≡ Some frame → IfSome (request_next c k l n) request.Fits → s ≡ sent_by frame.bytes → IsAsked (request_next c k l n) s
asked_is c k l next.Call frame s asked fits is = of_line c.words k (client_at c k) l frame s asked fits is
asked_is c k l next.Collect frame s asked fits is = of_line c.words k (client_at c k) (line.Collect k) frame s asked fits is
asked_is c k l n frame s asked fits is = tt
