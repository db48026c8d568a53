-- What a server makes of the bytes that it is handed, and the bytes that it hands back.
use Rattle.std.specs.Prelude.{◌≡◌, ℕ, Bool, true, false, List, length, Option, None, Some, IfOk}
use Rattle.alp_files.specs.declared.refusal.Refusal.TheVariants.{BadFrame}
use Rattle.alp_files.specs.declared.reply.Reply.TheVariants.{Refused}
use Rattle.alp_journal.specs.declared.event.Event.{Event}
use Rattle.alp_journal.specs.declared.event.Event.TheVariants as event
use Rattle.alp_journal.specs.declared.log.Sent.TheVariants as sent
use Rattle.alp_rpc.specs.declared.frame.Request.{Request}
use Rattle.alp_session.specs.Frames.{told_by}
use Rattle.alp_vault.specs.declared.vault.Vault.{Ghosts}
use Rattle.alp_node.specs.NodeStates.{NodeState}
use Rattle.alp_node.specs.Served.{IsServed}
use Rattle.alp_course.specs.Happens.{handed_for}
use Rattle.alp_cluster.specs.Servers.{Steps, IsUntouched, EndsStep}
use Rattle.alp_cluster.specs.declared.exchange.Handed.{Handed}
use Rattle.alp_cluster.specs.declared.fault.RunFault.{RunFault}
use Rattle.alp_cluster.specs.declared.fault.RunFault.TheVariants as fault

-- what a request asks of a server
abbrev pub event_of : Request → Event
event_of r = event.Call r.client r.epoch r.number r.call

-- where the entry of a call stands, which a server that is down does not make
abbrev pub place_for : Bool → ℕ → Option ℕ
place_for true at = None
place_for false at = Some at

-- The bytes spell this request, and the server took one step, or is down: the bytes that it hands back are the frame of its reply, where
-- there was memory for them, and such a frame tells just that.
pub record IsAsked {V : Type 0} (G : Ghosts V) (old new : NodeState V) (asked : Request) (h : Handed) : Type 0 where
  pub sent : h.sent ≡ sent.Call asked.client asked.epoch asked.number asked.call
  pub served : IsServed (event_of asked)
  pub steps : Steps G old.kept.is_down old new (event_of asked) h.reply
  pub bytes : IfOk h.bytes (λ b. b ≡ handed_for old.kept.epoch asked.client asked.number h.reply)
  pub told : told_by (handed_for old.kept.epoch asked.client asked.number h.reply) ≡ h.reply
  pub place : h.place ≡ place_for old.kept.is_down (length old.journal)

-- The bytes spell no request: the server took no step, and says so in a frame of the client's first number.
pub record IsTurnedAway {V : Type 0} (old new : NodeState V) (client : ℕ) (frame : List ℕ) (h : Handed) : Type 0 where
  pub sent : h.sent ≡ sent.Bytes frame
  pub reply : h.reply ≡ Some (Refused BadFrame)
  pub bytes : IfOk h.bytes (λ b. b ≡ handed_for old.kept.epoch client 1 h.reply)
  pub told : told_by (handed_for old.kept.epoch client 1 h.reply) ≡ h.reply
  pub place : h.place ≡ None
  pub still : new ≡ old

-- what comes of the bytes of a frame, by the request that they spell, if they spell one
abbrev pub IsHanded : {V : Type 0} → Ghosts V → (old new : NodeState V) → ℕ → List ℕ → Option Request → Handed → Type 0
IsHanded G old new client frame None h = IsTurnedAway old new client frame h
IsHanded G old new client frame (Some asked) h = IsAsked G old new asked h

-- the bytes that it hands back tell its reply
abbrev pub TellsReply : Handed → Type 0
TellsReply h = IfOk h.bytes (λ b. told_by b ≡ h.reply)

-- a step that was to be taken by the bytes of a frame was not taken as it is to be: bytes that spell no request ask for none
abbrev pub EndsHanding : {V : Type 0} → Ghosts V → RunFault → (old new : NodeState V) → Option Request → Type 0
EndsHanding G f old new None = (f ≡ fault.OutOfMemory) × IsUntouched G old new
EndsHanding G f old new (Some asked) = EndsStep G f old new (event_of asked)
