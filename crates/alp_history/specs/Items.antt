-- What clients sent at their lines and what they were handed.
use Rattle.std.specs.Prelude.{ℕ, List, [], ◌∷◌, Option, None, Some}
use Rattle.alp_base.specs.declared.ids.Stamp.{Stamp}
use Rattle.alp_files.specs.declared.call.Call.{Call}
use Rattle.alp_files.specs.declared.reply.Reply.{Reply}
use Rattle.alp_files.specs.declared.reply.Reply.TheVariants as reply
use Rattle.alp_files.specs.declared.reply.Ended.{Ended as Ending}
use Rattle.alp_files.specs.declared.reply.Ended.TheVariants as ending

-- a frame of the client's own line, one that a line sent again, and the bytes of a raw line
pub data Mark : Type 0 where
  Own Repeated Raw : Mark

-- a call with the client, the epoch and the number that its frame named
pub record Sent : Type 0 where
  pub client : ℕ
  pub epoch : ℕ
  pub number : ℕ
  pub call : Call

-- One thing that a client sent, in the order of its lines: to which server, the call (nothing where the bytes spell none),
-- the reply that was handed to it (nothing is silence), and where its entry stands in that server's journal, if it made one.
-- A raw line may name another client.
pub record Item : Type 0 where
  pub server : ℕ
  pub mark : Mark
  pub sent : Option Sent
  pub reply : Option Reply
  pub place : Option ℕ

-- what each client sent and was handed
abbrev pub Handed : Type 0
Handed = ℕ → List Item

abbrev pub IsRaw : Mark → Type 0
IsRaw Raw = Unit {0}
IsRaw Own = ⊥
IsRaw Repeated = ⊥

abbrev pub IsOwn : Mark → Type 0
IsOwn Own = Unit {0}
IsOwn Repeated = ⊥
IsOwn Raw = ⊥

-- ---- what is told

abbrev pub stamp_of_end : Ending → List Stamp
stamp_of_end (ending.Committed s) = s ∷ []
stamp_of_end x = []

-- the stamps that a reply tells
abbrev pub stamps_in : Reply → List Stamp
stamps_in (reply.Committed s) = s ∷ []
stamps_in (reply.Ended x) = stamp_of_end x
stamps_in r = []

abbrev pub stamps_of_reply : Option Reply → List Stamp
stamps_of_reply None = []
stamps_of_reply (Some r) = stamps_in r

-- of what raw lines are answered nothing is told
abbrev pub stamps_by : Mark → Option Reply → List Stamp
stamps_by Own r = stamps_of_reply r
stamps_by Repeated r = stamps_of_reply r
stamps_by Raw r = []

abbrev pub stamps_told : Item → List Stamp
stamps_told x = stamps_by x.mark x.reply
