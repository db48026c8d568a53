-- Replies that rest on more than one thread would see. They change nothing of files and opens.
use Rattle.std.specs.Prelude.{◌≡◌, Bool, true, false}
use Rattle.alp_files.specs.declared.reply.Reply.{Reply}
use Rattle.alp_files.specs.declared.reply.Reply.TheVariants as reply
use Rattle.alp_files.specs.declared.refusal.Refusal.{Refusal}
use Rattle.alp_files.specs.declared.refusal.Refusal.TheVariants as refusal

abbrev pub is_passing_refusal : Refusal → Bool
is_passing_refusal (refusal.StaleSession epoch) = true
is_passing_refusal refusal.UnknownTrans = true
is_passing_refusal refusal.Finishing = true
is_passing_refusal (refusal.VolumeFull left asked) = true
is_passing_refusal (refusal.LogFull room asked) = true
is_passing_refusal (refusal.TooMany what limit) = true
is_passing_refusal (refusal.LockConflict holder) = true
is_passing_refusal (refusal.Aborted cause) = true
is_passing_refusal refusal.NotYet = true
is_passing_refusal refusal.ReadFault = true
is_passing_refusal refusal.Down = true
is_passing_refusal _ = false

abbrev pub is_passing : Reply → Bool
is_passing (reply.Refused r) = is_passing_refusal r
is_passing _ = false

-- a reply that one thread gets to a file call
abbrev pub IsFileReply : Reply → Type 0
IsFileReply (reply.Created f n) = Unit {0}
IsFileReply (reply.Opened n) = Unit {0}
IsFileReply reply.Plain = Unit {0}
IsFileReply (reply.Pages pages) = Unit {0}
IsFileReply (reply.Props p) = Unit {0}
IsFileReply (reply.Owner o) = Unit {0}
IsFileReply (reply.Refused r) = is_passing_refusal r ≡ false
IsFileReply (reply.Welcome epoch) = ⊥
IsFileReply (reply.Begun t) = ⊥
IsFileReply reply.Joined = ⊥
IsFileReply (reply.Committed s) = ⊥
IsFileReply (reply.Ended e) = ⊥
