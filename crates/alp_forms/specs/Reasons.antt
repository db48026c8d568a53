-- What refusals tell, on the wire: lists, limits, votes and causes.
use Rattle.std.specs.Prelude.{[], ◌∷◌}
use Rattle.alp_files.specs.declared.refusal.ListName.{ListName}
use Rattle.alp_files.specs.declared.refusal.ListName.TheVariants.{Read, Modify, Create, Admin}
use Rattle.alp_files.specs.declared.refusal.What.{What}
use Rattle.alp_files.specs.declared.refusal.What.TheVariants.{Run, Pages, Opens, Cells, Locks, Files, Owners, Transactions}
use Rattle.alp_files.specs.declared.refusal.Why.{Why}
use Rattle.alp_files.specs.declared.refusal.Why.TheVariants.{UnknownJoin, Waiting, LogFull, ReadFault, ClockEnd}
use Rattle.alp_files.specs.declared.refusal.Cause.{Cause}
use Rattle.alp_files.specs.declared.refusal.Cause.TheVariants.{Asked, TimedOut, Voted, Lost}
use Rattle.alp_fields.specs.Forms.{Form, Readers, pair, u8, u32}
use Rattle.alp_forms.specs.Variants.{Variant, row, bare, Sent, sent, by_tag, enum_of}

-- ---- names of lists

abbrev pub sent_list_name : ListName → Sent
sent_list_name Read = sent (bare 1 Read) tt
sent_list_name Modify = sent (bare 2 Modify) tt
sent_list_name Create = sent (bare 3 Create) tt
sent_list_name Admin = sent (bare 4 Admin) tt

abbrev pub list_name_readers : Readers ListName
list_name_readers = by_tag (bare 1 Read) ∷ by_tag (bare 2 Modify) ∷ by_tag (bare 3 Create) ∷ by_tag (bare 4 Admin) ∷ []

unfoldable pub list_name : Form ListName
list_name = enum_of sent_list_name list_name_readers

-- ---- what there would be too many of

abbrev pub sent_what : What → Sent
sent_what Run = sent (bare 1 Run) tt
sent_what Pages = sent (bare 2 Pages) tt
sent_what Opens = sent (bare 3 Opens) tt
sent_what Cells = sent (bare 4 Cells) tt
sent_what Locks = sent (bare 5 Locks) tt
sent_what Files = sent (bare 6 Files) tt
sent_what Owners = sent (bare 7 Owners) tt
sent_what Transactions = sent (bare 8 Transactions) tt

abbrev pub what_readers : Readers What
what_readers =
    by_tag (bare 1 Run)
    ∷ by_tag (bare 2 Pages)
    ∷ by_tag (bare 3 Opens)
    ∷ by_tag (bare 4 Cells)
    ∷ by_tag (bare 5 Locks)
    ∷ by_tag (bare 6 Files)
    ∷ by_tag (bare 7 Owners)
    ∷ by_tag (bare 8 Transactions)
    ∷ []

unfoldable pub what : Form What
what = enum_of sent_what what_readers

-- ---- why a part voted so

-- the room that there was, and what was asked
abbrev pub room_form : Variant Why
room_form = row 3 (pair u32 u32) (λ x. LogFull x.0 x.1)

abbrev pub sent_why : Why → Sent
sent_why UnknownJoin = sent (bare 1 UnknownJoin) tt
sent_why Waiting = sent (bare 2 Waiting) tt
sent_why (LogFull room asked) = sent room_form (room, asked)
sent_why ReadFault = sent (bare 4 ReadFault) tt
sent_why ClockEnd = sent (bare 5 ClockEnd) tt

abbrev pub why_readers : Readers Why
why_readers = by_tag (bare 1 UnknownJoin) ∷ by_tag (bare 2 Waiting) ∷ by_tag room_form ∷ by_tag (bare 4 ReadFault) ∷ by_tag (bare 5 ClockEnd) ∷ []

unfoldable pub why : Form Why
why = enum_of sent_why why_readers

-- ---- why a transaction was aborted

-- the server that voted so, and why
abbrev pub voted : Variant Cause
voted = row 3 (pair u8 why) (λ x. Voted x.0 x.1)

-- the epoch in which the part was lost
abbrev pub lost : Variant Cause
lost = row 4 u32 Lost

abbrev pub sent_cause : Cause → Sent
sent_cause Asked = sent (bare 1 Asked) tt
sent_cause TimedOut = sent (bare 2 TimedOut) tt
sent_cause (Voted server reason) = sent voted (server, reason)
sent_cause (Lost epoch) = sent lost epoch

abbrev pub cause_readers : Readers Cause
cause_readers = by_tag (bare 1 Asked) ∷ by_tag (bare 2 TimedOut) ∷ by_tag voted ∷ by_tag lost ∷ []

unfoldable pub cause : Form Cause
cause = enum_of sent_cause cause_readers
