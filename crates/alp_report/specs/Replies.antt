-- What a report prints of a reply.
use Rattle.std.specs.Prelude.{ℕ, ◌+◌, ◌/◌, ◌%◌, not, ◌==◌, ◌&&◌, nat_le, nat_lt, List, [], ◌∷◌, ◌++◌, codes, length, flat_map, if◌then◌else◌}
use Rattle.std.specs.List.{join_with_byte}
use Rattle.std.specs.Fmt.{decimal}
use Rattle.alp_base.specs.declared.ids.FileId.{FileId}
use Rattle.alp_base.specs.declared.ids.TransId.{TransId}
use Rattle.alp_base.specs.declared.ids.Stamp.{Stamp}
use Rattle.alp_base.specs.IdText.{id_text}
use Rattle.alp_base.specs.declared.cell.Props.{Props}
use Rattle.alp_base.specs.declared.cell.OwnerRecord.{OwnerRecord}
use Rattle.alp_files.specs.declared.reply.Reply.{Reply}
use Rattle.alp_files.specs.declared.reply.Reply.TheVariants as reply
use Rattle.alp_files.specs.declared.reply.Ended.{Ended}
use Rattle.alp_files.specs.declared.reply.Ended.TheVariants as ended
use Rattle.alp_files.specs.declared.refusal.Refusal.{Refusal}
use Rattle.alp_files.specs.declared.refusal.Refusal.TheVariants as refusal
use Rattle.alp_files.specs.declared.refusal.ListName.{ListName}
use Rattle.alp_files.specs.declared.refusal.ListName.TheVariants as lists
use Rattle.alp_files.specs.declared.refusal.What.{What}
use Rattle.alp_files.specs.declared.refusal.What.TheVariants as what
use Rattle.alp_files.specs.declared.refusal.Why.{Why}
use Rattle.alp_files.specs.declared.refusal.Why.TheVariants as why
use Rattle.alp_files.specs.declared.refusal.Cause.{Cause}
use Rattle.alp_files.specs.declared.refusal.Cause.TheVariants as cause

abbrev pub file_text : FileId → List ℕ
file_text f = id_text f.server f.epoch f.counter

abbrev pub trans_text : TransId → List ℕ
trans_text t = id_text t.server t.epoch t.counter

abbrev pub stamp_text : Stamp → List ℕ
stamp_text s = decimal s.ts ++ codes " " ++ trans_text s.trans

-- names joined by commas, `-` for none
abbrev pub names_text : List (List ℕ) → List ℕ
names_text names = if length names == 0 then codes "-" else join_with_byte 44 names

-- ---- pages

-- the bytes up to the last that is not zero
abbrev pub shown_part : List ℕ → List ℕ
shown_part [] = []
shown_part (b ∷ bs) = if b == 0 && length (shown_part bs) == 0 then [] else b ∷ shown_part bs

abbrev pub hex_digit : ℕ → ℕ
hex_digit n = if nat_lt n 10 then 48 + n else 87 + n

-- a byte that can be seen stands for itself; others, and `%`, are `%` and two digits
abbrev pub byte_text : ℕ → List ℕ
byte_text b = if nat_le 33 b && nat_le b 126 && not (b == 37) then b ∷ [] else 37 ∷ hex_digit (b / 16) ∷ hex_digit (b % 16) ∷ []

-- `-` for a page of zeros, and `%2d` for one that is the one byte `-`
abbrev pub shown_text : List ℕ → List ℕ
shown_text [] = codes "-"
shown_text (b ∷ []) = if b == 45 then codes "%2d" else byte_text b
shown_text (b ∷ c ∷ bs) = flat_map byte_text (b ∷ c ∷ bs)

abbrev pub page_text : List ℕ → List ℕ
page_text bytes = shown_text (shown_part bytes)

abbrev pub pages_text : List (List ℕ) → List ℕ
pages_text pages = flat_map (λ page. 32 ∷ page_text page) pages

-- ---- properties and owners

abbrev pub props_text : Props → List ℕ
props_text p =
    codes "owner " ++ p.owner ++ codes " name " ++ p.name ++ codes " type " ++ decimal p.type_no ++ codes " time " ++ decimal p.create_time
    ++ codes " bytes " ++ decimal p.byte_length ++ codes " size " ++ decimal p.size ++ codes " high " ++ decimal p.high_water
    ++ codes " read " ++ names_text p.read ++ codes " modify " ++ names_text p.modify

abbrev pub owner_text : OwnerRecord → List ℕ
owner_text o = o.name ++ codes " charge " ++ decimal o.charge ++ codes " quota " ++ decimal o.quota ++ codes " create " ++ names_text o.create

-- ---- refusals

abbrev pub list_text : ListName → List ℕ
list_text lists.Read = codes "read"
list_text lists.Modify = codes "modify"
list_text lists.Create = codes "create"
list_text lists.Admin = codes "admin"

abbrev pub what_text : What → List ℕ
what_text what.Run = codes "Run"
what_text what.Pages = codes "Pages"
what_text what.Opens = codes "Opens"
what_text what.Cells = codes "Cells"
what_text what.Locks = codes "Locks"
what_text what.Files = codes "Files"
what_text what.Owners = codes "Owners"
what_text what.Transactions = codes "Transactions"

abbrev pub why_text : Why → List ℕ
why_text why.UnknownJoin = codes "UnknownJoin"
why_text why.Waiting = codes "Waiting"
why_text (why.LogFull room asked) = codes "LogFull " ++ decimal room ++ codes " " ++ decimal asked
why_text why.ReadFault = codes "ReadFault"
why_text why.ClockEnd = codes "ClockEnd"

abbrev pub cause_text : Cause → List ℕ
cause_text cause.Asked = codes "Asked"
cause_text cause.TimedOut = codes "TimedOut"
cause_text (cause.Voted server w) = codes "Voted " ++ decimal server ++ codes " " ++ why_text w
cause_text (cause.Lost epoch) = codes "Lost " ++ decimal epoch

-- the number of a refusal, and its fields
abbrev pub refusal_text : Refusal → List ℕ
refusal_text refusal.BadFrame = codes "1"
refusal_text (refusal.StaleSession epoch) = codes "2 epoch " ++ decimal epoch
refusal_text refusal.UnknownTrans = codes "3"
refusal_text refusal.Finishing = codes "4"
refusal_text refusal.UnknownOpen = codes "5"
refusal_text refusal.UnknownFile = codes "6"
refusal_text refusal.UnknownOwner = codes "7"
refusal_text refusal.OwnerExists = codes "8"
refusal_text refusal.ReadOnlyOpen = codes "9"
refusal_text (refusal.AccessDenied list) = codes "10 " ++ list_text list
refusal_text (refusal.NoSuchPage size) = codes "11 size " ++ decimal size
refusal_text (refusal.QuotaExceeded charge asked quota) = codes "12 charge " ++ decimal charge ++ codes " asked " ++ decimal asked ++ codes " quota " ++ decimal quota
refusal_text (refusal.VolumeFull left asked) = codes "13 left " ++ decimal left ++ codes " asked " ++ decimal asked
refusal_text (refusal.LogFull room asked) = codes "14 room " ++ decimal room ++ codes " asked " ++ decimal asked
refusal_text (refusal.TooMany w limit) = codes "15 " ++ what_text w ++ codes " " ++ decimal limit
refusal_text (refusal.LockConflict holder) = codes "16 holder " ++ trans_text holder
refusal_text (refusal.Aborted c) = codes "17 " ++ cause_text c
refusal_text refusal.NotYet = codes "18"
refusal_text refusal.ReadFault = codes "19"
refusal_text refusal.Down = codes "20"
refusal_text refusal.OutOfMemory = codes "21"
refusal_text refusal.JournalFull = codes "22"

-- ---- replies

abbrev pub ended_text : Ended → List ℕ
ended_text ended.Running = codes "running"
ended_text (ended.Committed s) = codes "committed " ++ stamp_text s
ended_text ended.Aborted = codes "aborted"
ended_text ended.Unknown = codes "unknown"

abbrev pub reply_text : Reply → List ℕ
reply_text (reply.Welcome epoch) = codes "ok"
reply_text (reply.Begun t) = codes "ok trans " ++ trans_text t
reply_text reply.Joined = codes "ok"
reply_text (reply.Created f n) = codes "ok file " ++ file_text f ++ codes " open " ++ decimal n
reply_text (reply.Opened n) = codes "ok open " ++ decimal n
reply_text reply.Plain = codes "ok"
reply_text (reply.Pages pages) = codes "ok" ++ pages_text pages
reply_text (reply.Props p) = codes "ok props " ++ props_text p
reply_text (reply.Owner o) = codes "ok owner " ++ owner_text o
reply_text (reply.Committed s) = codes "ok stamp " ++ stamp_text s
reply_text (reply.Ended e) = codes "ok " ++ ended_text e
reply_text (reply.Refused r) = codes "refused " ++ refusal_text r
