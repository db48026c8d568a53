-- Which files a call may open, whatever its vault tells.
use Rattle.std.specs.Prelude.{◌≡◌, Bool, true, List, Option, Some}
use Rattle.std.specs.List.{list_all}
use Rattle.alp_base.specs.declared.ids.FileId.{FileId}
use Rattle.alp_files.specs.declared.open.Open.{Open}
use Rattle.alp_files.specs.declared.call.Call.{Call}
use Rattle.alp_files.specs.declared.call.Call.TheVariants as call
use Rattle.alp_files.specs.declared.reply.Reply.{Reply}
use Rattle.alp_files.specs.declared.reply.Reply.TheVariants as reply
use Rattle.alp_files.specs.Act.{id_in}
use Rattle.alp_calls.specs.declared.said.OpenChange.{OpenChange}
use Rattle.alp_calls.specs.declared.said.OpenChange.TheVariants.{Opened}

-- this is so of the file that the call names to open it, and of one that its reply says was made
abbrev pub may_open : (FileId → Bool) → Call → Bool
may_open p (call.OpenFile trans file access mode choice) = p file
may_open p c = true

abbrev pub may_make : (FileId → Bool) → Reply → Bool
may_make p (reply.Created f n) = p f
may_make p r = true

-- what is so of all files that are open, of the one that the call names and of a new one, is so of all that are open then
abbrev pub OpensNoOther : List Open → List Open → Call → Reply → Type 0
OpensNoOther old new c r = (p : FileId → Bool) → may_open p c ≡ true → may_make p r ≡ true → list_all (λ o. p o.file) old ≡ true → list_all (λ o. p o.file) new ≡ true

-- the file that the call names to open it, or else the one that its reply says was made
abbrev pub named_by : Call → Reply → Option FileId
named_by (call.OpenFile trans file access mode choice) r = Some file
named_by c r = id_in r

-- no file is opened but this one
abbrev pub OpensOnly : Option FileId → OpenChange → Type 0
OpensOnly file (Opened o) = file ≡ Some o.file
OpensOnly file _ = Unit {0}
