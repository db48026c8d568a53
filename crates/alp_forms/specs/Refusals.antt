-- Refusals on the wire: the number of each, and its fields in order.
use Rattle.std.specs.Prelude.{[], ◌∷◌}
use Rattle.alp_files.specs.declared.refusal.Refusal.{Refusal}
use Rattle.alp_files.specs.declared.refusal.Refusal.TheVariants.{BadFrame, StaleSession, UnknownTrans, Finishing, UnknownOpen, UnknownFile, UnknownOwner, OwnerExists, ReadOnlyOpen, AccessDenied, NoSuchPage, QuotaExceeded, VolumeFull, LogFull, TooMany, LockConflict, Aborted, NotYet, ReadFault, Down, OutOfMemory, JournalFull}
use Rattle.alp_fields.specs.Forms.{Form, Readers, pair, u32}
use Rattle.alp_fields.specs.Fields.{trans_id}
use Rattle.alp_forms.specs.Variants.{Variant, row, bare, Sent, sent, by_tag, enum_of}
use Rattle.alp_forms.specs.Reasons.{list_name, what, cause}

-- ---- those with fields: each with its number and its fields, in order

abbrev pub stale_session : Variant Refusal
stale_session = row 2 u32 StaleSession

abbrev pub access_denied : Variant Refusal
access_denied = row 10 list_name AccessDenied

abbrev pub no_such_page : Variant Refusal
no_such_page = row 11 u32 NoSuchPage

abbrev pub quota_exceeded : Variant Refusal
quota_exceeded = row 12 (pair u32 (pair u32 u32)) (λ x. QuotaExceeded x.0 x.1.0 x.1.1)

abbrev pub volume_full : Variant Refusal
volume_full = row 13 (pair u32 u32) (λ x. VolumeFull x.0 x.1)

abbrev pub log_full : Variant Refusal
log_full = row 14 (pair u32 u32) (λ x. LogFull x.0 x.1)

abbrev pub too_many : Variant Refusal
too_many = row 15 (pair what u32) (λ x. TooMany x.0 x.1)

abbrev pub lock_conflict : Variant Refusal
lock_conflict = row 16 trans_id LockConflict

abbrev pub aborted : Variant Refusal
aborted = row 17 cause Aborted

-- ---- all of them

abbrev pub sent_refusal : Refusal → Sent
sent_refusal BadFrame = sent (bare 1 BadFrame) tt
sent_refusal (StaleSession epoch) = sent stale_session epoch
sent_refusal UnknownTrans = sent (bare 3 UnknownTrans) tt
sent_refusal Finishing = sent (bare 4 Finishing) tt
sent_refusal UnknownOpen = sent (bare 5 UnknownOpen) tt
sent_refusal UnknownFile = sent (bare 6 UnknownFile) tt
sent_refusal UnknownOwner = sent (bare 7 UnknownOwner) tt
sent_refusal OwnerExists = sent (bare 8 OwnerExists) tt
sent_refusal ReadOnlyOpen = sent (bare 9 ReadOnlyOpen) tt
sent_refusal (AccessDenied denied) = sent access_denied denied
sent_refusal (NoSuchPage size) = sent no_such_page size
sent_refusal (QuotaExceeded charge asked quota) = sent quota_exceeded (charge, (asked, quota))
sent_refusal (VolumeFull left asked) = sent volume_full (left, asked)
sent_refusal (LogFull room asked) = sent log_full (room, asked)
sent_refusal (TooMany of limit) = sent too_many (of, limit)
sent_refusal (LockConflict holder) = sent lock_conflict holder
sent_refusal (Aborted reason) = sent aborted reason
sent_refusal NotYet = sent (bare 18 NotYet) tt
sent_refusal ReadFault = sent (bare 19 ReadFault) tt
sent_refusal Down = sent (bare 20 Down) tt
sent_refusal OutOfMemory = sent (bare 21 OutOfMemory) tt
sent_refusal JournalFull = sent (bare 22 JournalFull) tt

abbrev pub refusal_readers : Readers Refusal
refusal_readers =
    by_tag (bare 1 BadFrame)
    ∷ by_tag stale_session
    ∷ by_tag (bare 3 UnknownTrans)
    ∷ by_tag (bare 4 Finishing)
    ∷ by_tag (bare 5 UnknownOpen)
    ∷ by_tag (bare 6 UnknownFile)
    ∷ by_tag (bare 7 UnknownOwner)
    ∷ by_tag (bare 8 OwnerExists)
    ∷ by_tag (bare 9 ReadOnlyOpen)
    ∷ by_tag access_denied
    ∷ by_tag no_such_page
    ∷ by_tag quota_exceeded
    ∷ by_tag volume_full
    ∷ by_tag log_full
    ∷ by_tag too_many
    ∷ by_tag lock_conflict
    ∷ by_tag aborted
    ∷ by_tag (bare 18 NotYet)
    ∷ by_tag (bare 19 ReadFault)
    ∷ by_tag (bare 20 Down)
    ∷ by_tag (bare 21 OutOfMemory)
    ∷ by_tag (bare 22 JournalFull)
    ∷ []

-- a refusal: its number, and its fields
unfoldable pub refusal : Form Refusal
refusal = enum_of sent_refusal refusal_readers
