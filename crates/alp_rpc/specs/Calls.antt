-- Calls on the wire: the tag of each, and its fields in order.
use Rattle.std.specs.Prelude.{◌≡◌, ℕ, ◌≤◌, ◌^◌, Bool, true, false, ◌==◌, List, [], ◌∷◌, length}
use Rattle.alp_base.specs.declared.ids.TransId.{TransId}
use Rattle.alp_base.specs.declared.ids.Run.{Run}
use Rattle.alp_modes.specs.declared.Mode.{Mode}
use Rattle.alp_modes.specs.declared.Mode.TheVariants.{IntendRead, IntendWrite, Read, Update, ReadIntendWrite, Write}
use Rattle.alp_fields.specs.ModeField.{mode}
use Rattle.alp_files.specs.declared.call.Call.{Call}
use Rattle.alp_files.specs.declared.call.Call.TheVariants.{Hello, Begin, Join, CreateFile, OpenFile, CloseFile, DeleteFile, ReadPages, WritePages, LockPages, SetSize, ReadProps, WriteProps, ReadOwner, MakeOwner, SetQuota, Finish, Outcome, Collect}
use Rattle.alp_fields.specs.PropsField.{props}
use Rattle.alp_fields.specs.Forms.{Form, Readers, pair, checked, u32}
use Rattle.alp_fields.specs.Fields.{file_id, trans_id, stamp, run, choice, access, flag, name, list, pages}
use Rattle.alp_forms.specs.Variants.{Variant, row, Sent, sent, by_tag, enum_of}
use Rattle.alp_rpc.specs.Changes.{prop_change}

-- ---- pages

-- pages are read and locked in a mode that is no intention
abbrev pub is_run_mode : Mode → Bool
is_run_mode IntendRead = false
is_run_mode IntendWrite = false
is_run_mode Read = true
is_run_mode Update = true
is_run_mode ReadIntendWrite = false
is_run_mode Write = true

unfoldable pub run_mode : Form Mode
run_mode = checked is_run_mode mode

-- a run, and as many pages as it has
abbrev pub are_as_many : Run × List (List ℕ) → Bool
are_as_many x = x.0.count == length x.1

unfoldable pub filled_run : Form (Run × List (List ℕ))
filled_run = checked are_as_many (pair run pages)

-- an open of a transaction
abbrev pub open_form : Form (TransId × ℕ)
open_form = pair trans_id u32

-- ---- the calls: each with its tag and its fields, in order

abbrev pub hello : Variant Call
hello = row 1 name Hello

abbrev pub begin : Variant Call
begin = row 2 stamp Begin

abbrev pub join : Variant Call
join = row 3 trans_id Join

abbrev pub create_file : Variant Call
create_file = row 4 (pair trans_id (pair props choice)) (λ x. CreateFile x.0 x.1.0 x.1.1)

abbrev pub open_file : Variant Call
open_file = row 5 (pair trans_id (pair file_id (pair access (pair mode choice)))) (λ x. OpenFile x.0 x.1.0 x.1.1.0 x.1.1.1.0 x.1.1.1.1)

abbrev pub close_file : Variant Call
close_file = row 6 open_form (λ x. CloseFile x.0 x.1)

abbrev pub delete_file : Variant Call
delete_file = row 7 (pair open_form choice) (λ x. DeleteFile x.0.0 x.0.1 x.1)

abbrev pub read_pages : Variant Call
read_pages = row 8 (pair open_form (pair run (pair run_mode choice))) (λ x. ReadPages x.0.0 x.0.1 x.1.0 x.1.1.0 x.1.1.1)

abbrev pub write_pages : Variant Call
write_pages = row 9 (pair open_form (pair filled_run choice)) (λ x. WritePages x.0.0 x.0.1 x.1.0.0 x.1.0.1 x.1.1)

abbrev pub lock_pages : Variant Call
lock_pages = row 10 (pair open_form (pair run (pair run_mode choice))) (λ x. LockPages x.0.0 x.0.1 x.1.0 x.1.1.0 x.1.1.1)

abbrev pub set_size : Variant Call
set_size = row 11 (pair open_form (pair u32 choice)) (λ x. SetSize x.0.0 x.0.1 x.1.0 x.1.1)

abbrev pub read_props : Variant Call
read_props = row 12 open_form (λ x. ReadProps x.0 x.1)

abbrev pub write_props : Variant Call
write_props = row 13 (pair open_form (pair prop_change choice)) (λ x. WriteProps x.0.0 x.0.1 x.1.0 x.1.1)

abbrev pub read_owner : Variant Call
read_owner = row 14 (pair trans_id (pair name choice)) (λ x. ReadOwner x.0 x.1.0 x.1.1)

abbrev pub make_owner : Variant Call
make_owner = row 15 (pair trans_id (pair name (pair u32 (pair list choice)))) (λ x. MakeOwner x.0 x.1.0 x.1.1.0 x.1.1.1.0 x.1.1.1.1)

abbrev pub set_quota : Variant Call
set_quota = row 16 (pair trans_id (pair name (pair u32 choice))) (λ x. SetQuota x.0 x.1.0 x.1.1.0 x.1.1.1)

abbrev pub finish : Variant Call
finish = row 17 (pair trans_id flag) (λ x. Finish x.0 x.1)

abbrev pub outcome : Variant Call
outcome = row 18 trans_id Outcome

abbrev pub collect : Variant Call
collect = row 19 u32 Collect

-- ---- all of them

-- the tag of a call and the spelling of its fields
abbrev pub sent_call : Call → Sent
sent_call (Hello who) = sent hello who
sent_call (Begin seen) = sent begin seen
sent_call (Join trans) = sent join trans
sent_call (CreateFile trans start wish) = sent create_file (trans, (start, wish))
sent_call (OpenFile trans file use_for held wish) = sent open_file (trans, (file, (use_for, (held, wish))))
sent_call (CloseFile trans open_no) = sent close_file (trans, open_no)
sent_call (DeleteFile trans open_no wish) = sent delete_file ((trans, open_no), wish)
sent_call (ReadPages trans open_no span held wish) = sent read_pages ((trans, open_no), (span, (held, wish)))
sent_call (WritePages trans open_no span given wish) = sent write_pages ((trans, open_no), ((span, given), wish))
sent_call (LockPages trans open_no span held wish) = sent lock_pages ((trans, open_no), (span, (held, wish)))
sent_call (SetSize trans open_no size wish) = sent set_size ((trans, open_no), (size, wish))
sent_call (ReadProps trans open_no) = sent read_props (trans, open_no)
sent_call (WriteProps trans open_no change wish) = sent write_props ((trans, open_no), (change, wish))
sent_call (ReadOwner trans owner wish) = sent read_owner (trans, (owner, wish))
sent_call (MakeOwner trans owner quota create wish) = sent make_owner (trans, (owner, (quota, (create, wish))))
sent_call (SetQuota trans owner quota wish) = sent set_quota (trans, (owner, (quota, wish)))
sent_call (Finish trans commit) = sent finish (trans, commit)
sent_call (Outcome trans) = sent outcome trans
sent_call (Collect number) = sent collect number

-- who reads behind which tag
abbrev pub call_readers : Readers Call
call_readers =
    by_tag hello
    ∷ by_tag begin
    ∷ by_tag join
    ∷ by_tag create_file
    ∷ by_tag open_file
    ∷ by_tag close_file
    ∷ by_tag delete_file
    ∷ by_tag read_pages
    ∷ by_tag write_pages
    ∷ by_tag lock_pages
    ∷ by_tag set_size
    ∷ by_tag read_props
    ∷ by_tag write_props
    ∷ by_tag read_owner
    ∷ by_tag make_owner
    ∷ by_tag set_quota
    ∷ by_tag finish
    ∷ by_tag outcome
    ∷ by_tag collect
    ∷ []

-- a call: its tag, and its fields
unfoldable pub call : Form Call
call = enum_of sent_call call_readers

-- What the types of a call leave open and its spelling needs: a time that clocks may show, a run that is not
-- empty, a mode that is no intention, and as many pages as the run has.
abbrev pub IsSendable : Call → Type 0
IsSendable (Begin seen) = seen.ts ≤ 2 ^ 62
IsSendable (ReadPages trans open_no span held wish) = (1 ≤ span.count) × (is_run_mode held ≡ true)
IsSendable (WritePages trans open_no span given wish) = (1 ≤ span.count) × (span.count ≡ length given)
IsSendable (LockPages trans open_no span held wish) = (1 ≤ span.count) × (is_run_mode held ≡ true)
IsSendable other = Unit {0}
