-- What the live joins say again.
use Rattle.std.specs.Prelude.{ℕ, ◌+◌, ◌==◌, ◌&&◌, not, nat_lt, Bool, List, [], ◌∷◌, flat_map, Option, None, Some, if◌then◌else◌, map as list_map}
use Rattle.alp_base.specs.declared.ids.TransId.{TransId}
use Rattle.alp_journal.specs.Messages.{Mail, trans_in}
use Rattle.alp_journal.specs.declared.message.Envelope.{Envelope}
use Rattle.alp_journal.specs.declared.message.Message.{Message}
use Rattle.alp_journal.specs.declared.message.Message.TheVariants as msg
use Rattle.alp_worker.specs.declared.live.LiveJoin.{LiveJoin}
use Rattle.alp_worker.specs.declared.live.Stage.{Stage}
use Rattle.alp_worker.specs.declared.live.Stage.TheVariants as stage

-- as the journal tells it
abbrev pub mail : Envelope → Mail
mail e = (e.to, e.message)

abbrev pub mails : List Envelope → List Mail
mails es = list_map mail es

abbrev pub trans_at : Envelope → TransId
trans_at e = trans_in e.message

-- of a run of so many servers another one than this
abbrev pub is_other : (servers here n : ℕ) → Bool
is_other servers here n = nat_lt 0 n && nat_lt n (servers + 1) && not (n == here)

abbrev pub addressed : Bool → (to : ℕ) → Option Message → List Envelope
addressed is_other to None = []
addressed is_other to (Some m) = if is_other then (record { to = to; message = m }) ∷ [] else []

abbrev pub register_at : LiveJoin → Stage → Option Message
register_at l (stage.Joining who) = Some (msg.Register l.trans l.join l.client)
register_at l s = None

abbrev pub register_of : LiveJoin → Option Message
register_of l = register_at l l.stage

abbrev pub inquiry_at : LiveJoin → Stage → Option Message
inquiry_at l (stage.Ready ts) = Some (msg.Inquire l.trans l.join)
inquiry_at l s = None

abbrev pub inquiry_of : LiveJoin → Option Message
inquiry_of l = inquiry_at l l.stage

abbrev pub registers_in : (servers here : ℕ) → List LiveJoin → List Envelope
registers_in servers here ls = flat_map (λ (l : LiveJoin). addressed (is_other servers here l.trans.server) l.trans.server (register_of l)) ls

abbrev pub inquiries_in : (servers here : ℕ) → List LiveJoin → List Envelope
inquiries_in servers here ls = flat_map (λ (l : LiveJoin). addressed (is_other servers here l.trans.server) l.trans.server (inquiry_of l)) ls
