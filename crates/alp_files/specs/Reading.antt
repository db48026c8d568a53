-- How many pages a reply tells.
use Rattle.std.specs.Prelude.{◌≡◌, ℕ, Option, None, Some, length}
use Rattle.alp_files.specs.declared.call.Call.{Call}
use Rattle.alp_files.specs.declared.call.Call.TheVariants as call
use Rattle.alp_files.specs.declared.reply.Reply.{Reply}
use Rattle.alp_files.specs.declared.reply.Reply.TheVariants as reply

-- so many pages the call asks to be told
abbrev pub asked_pages : Call → Option ℕ
asked_pages (call.ReadPages trans open_no run mode choice) = Some run.count
asked_pages c = None

-- where it tells pages, so many were asked
abbrev pub TellsPages : Option ℕ → Reply → Type 0
TellsPages asked (reply.Pages pages) = asked ≡ Some (length pages)
TellsPages asked r = Unit {0}
