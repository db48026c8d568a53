-- Replies on the wire: the tag of each, and its fields in order.
use Rattle.std.specs.Prelude.{ℕ, ◌<◌, ◌≤◌, ◌^◌, List, [], ◌∷◌, length}
use Rattle.alp_base.specs.declared.cell.OwnerRecord.{OwnerRecord}
use Rattle.alp_files.specs.declared.reply.Ended.{Ended as Ending}
use Rattle.alp_files.specs.declared.reply.Ended.TheVariants.{Committed as CommittedAt}
use Rattle.alp_files.specs.declared.reply.Reply.{Reply}
use Rattle.alp_files.specs.declared.reply.Reply.TheVariants.{Welcome, Begun, Joined, Created, Opened, Plain, Pages, Props, Owner, Committed, Ended, Refused}
use Rattle.alp_fields.specs.PropsField.{props}
use Rattle.alp_fields.specs.Forms.{Form, Readers, pair, mapped, u32}
use Rattle.alp_fields.specs.Fields.{file_id, trans_id, stamp, name, list, pages}
use Rattle.alp_forms.specs.Variants.{Variant, row, bare, Sent, sent, by_tag, enum_of}
use Rattle.alp_rpc.specs.Endings.{ended}
use Rattle.alp_forms.specs.Refusals.{refusal}

-- ---- owners

-- the fields of an owner's record, and the record of the fields
abbrev pub OwnerParts : Type 0
OwnerParts = List ℕ × (ℕ × (ℕ × List (List ℕ)))

abbrev pub owner_of : OwnerParts → OwnerRecord
owner_of x = record { name = x.0; quota = x.1.0; charge = x.1.1.0; create = x.1.1.1 }

abbrev pub owner_parts : OwnerRecord → OwnerParts
owner_parts o = (o.name, (o.quota, (o.charge, o.create)))

-- name, quota, charge, and who may create files
unfoldable pub owner_field : Form OwnerRecord
owner_field = mapped owner_of owner_parts (pair name (pair u32 (pair u32 list)))

-- ---- the replies: each with its tag and its fields, in order

abbrev pub welcome : Variant Reply
welcome = row 1 u32 Welcome

abbrev pub begun : Variant Reply
begun = row 2 trans_id Begun

abbrev pub created : Variant Reply
created = row 4 (pair file_id u32) (λ x. Created x.0 x.1)

abbrev pub opened : Variant Reply
opened = row 5 u32 Opened

abbrev pub some_pages : Variant Reply
some_pages = row 7 pages Pages

abbrev pub some_props : Variant Reply
some_props = row 8 props Props

abbrev pub an_owner : Variant Reply
an_owner = row 9 owner_field Owner

abbrev pub committed : Variant Reply
committed = row 10 stamp Committed

abbrev pub has_ended : Variant Reply
has_ended = row 11 ended Ended

abbrev pub refused : Variant Reply
refused = row 12 refusal Refused

-- ---- all of them

abbrev pub sent_reply : Reply → Sent
sent_reply (Welcome epoch) = sent welcome epoch
sent_reply (Begun trans) = sent begun trans
sent_reply Joined = sent (bare 3 Joined) tt
sent_reply (Created file open_no) = sent created (file, open_no)
sent_reply (Opened open_no) = sent opened open_no
sent_reply Plain = sent (bare 6 Plain) tt
sent_reply (Pages found) = sent some_pages found
sent_reply (Props found) = sent some_props found
sent_reply (Owner found) = sent an_owner found
sent_reply (Committed at) = sent committed at
sent_reply (Ended how) = sent has_ended how
sent_reply (Refused reason) = sent refused reason

abbrev pub reply_readers : Readers Reply
reply_readers =
    by_tag welcome
    ∷ by_tag begun
    ∷ by_tag (bare 3 Joined)
    ∷ by_tag created
    ∷ by_tag opened
    ∷ by_tag (bare 6 Plain)
    ∷ by_tag some_pages
    ∷ by_tag some_props
    ∷ by_tag an_owner
    ∷ by_tag committed
    ∷ by_tag has_ended
    ∷ by_tag refused
    ∷ []

-- a reply: its tag, and its fields
unfoldable pub reply : Form Reply
reply = enum_of sent_reply reply_readers

-- What the types of a reply leave open and its spelling needs: from 1 to 255 pages, and times that clocks may show.
abbrev pub IsSendableEnding : Ending → Type 0
IsSendableEnding (CommittedAt at) = at.ts ≤ 2 ^ 62
IsSendableEnding other = Unit {0}

abbrev pub IsSendable : Reply → Type 0
IsSendable (Pages found) = (1 ≤ length found) × (length found < 2 ^ 8)
IsSendable (Committed at) = at.ts ≤ 2 ^ 62
IsSendable (Ended how) = IsSendableEnding how
IsSendable other = Unit {0}
