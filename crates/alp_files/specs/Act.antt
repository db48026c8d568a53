-- What one call means to one thread: it asks for cells, one after the other, and then says its reply, its
-- changes and the opens afterwards. Two threads that see other maps are compared by what they were shown.
use Rattle.std.specs.Prelude.{ℕ, zero, suc, ◌+◌, ◌-◌, min, Bool, true, false, not, ◌==◌, ◌&&◌, ◌||◌, nat_lt, List, [], ◌∷◌, ◌++◌, filter, find, Option, None, Some, is_some, unwrap_or, codes, if◌then◌else◌}
use Rattle.alp_base.specs.declared.ids.FileId.{FileId}
use Rattle.alp_base.specs.declared.ids.Run.{Run}
use Rattle.alp_base.specs.declared.key.Key.{Key}
use Rattle.alp_base.specs.declared.key.Key.TheVariants.{Leader, PageOf, OwnerOf}
use Rattle.alp_base.specs.declared.choices.Access.{Access}
use Rattle.alp_base.specs.declared.choices.Access.TheVariants.{ReadOnly, Change}
use Rattle.alp_modes.specs.declared.Mode.{Mode}
use Rattle.alp_modes.specs.declared.Mode.TheVariants as mode
use Rattle.alp_base.specs.declared.cell.Cell.{Cell}
use Rattle.alp_base.specs.declared.cell.Cell.TheVariants as cell
use Rattle.alp_base.specs.declared.cell.Props.{Props}
use Rattle.alp_base.specs.declared.cell.OwnerRecord.{OwnerRecord}
use Rattle.alp_files.specs.declared.call.Call.{Call}
use Rattle.alp_files.specs.declared.call.Call.TheVariants as call
use Rattle.alp_files.specs.declared.call.PropChange.{PropChange}
use Rattle.alp_files.specs.declared.call.PropChange.TheVariants as prop
use Rattle.alp_files.specs.declared.reply.Reply.{Reply}
use Rattle.alp_files.specs.declared.reply.Reply.TheVariants as reply
use Rattle.alp_files.specs.declared.refusal.Refusal.{Refusal}
use Rattle.alp_files.specs.declared.refusal.Refusal.TheVariants as refusal
use Rattle.alp_files.specs.declared.refusal.ListName.TheVariants as lists
use Rattle.alp_files.specs.declared.open.Open.{Open}
use Rattle.alp_files.specs.Cells.{View, same_name, same_file, has_name, has_file, no_props, no_owner, props_in, owner_in, page_in}
use Rattle.alp_files.specs.Edits.{Edit, Drop, Cut, Put}

-- the last open number of a part, and its opens
pub record Own : Type 0 where
  pub last : ℕ
  pub opens : List Open

abbrev pub no_opens : Own
no_opens = record { last = 0; opens = [] }

-- the reply (nothing where no reply is right), the changes, and the opens afterwards
pub record Answer : Type 0 where
  pub reply : Option Reply
  pub edits : List Edit
  pub own : Own

pub data Look : Type 0 where
  Ask : Key → (Option Cell → Look) → Look
  Say : Answer → Look

abbrev pub run : View → Look → Answer
run m (Ask k next) = run m (next (m k))
run m (Say a) = a

-- ---- ways to answer

abbrev pub refused : Own → Refusal → Answer
refused own r = record { reply = Some (reply.Refused r); edits = []; own = own }

abbrev pub replied : Own → Reply → List Edit → Answer
replied own r es = record { reply = Some r; edits = es; own = own }

abbrev pub no_answer : Own → Answer
no_answer own = record { reply = None; edits = []; own = own }

-- the first test that holds refuses
abbrev pub unless : Own → List (Bool × Refusal) → Answer → Answer
unless own [] a = a
unless own (t ∷ ts) a = if t.0 then refused own t.1 else unless own ts a

-- ---- who is admitted, and what a quota allows

-- `World` admits everybody, and `Owner` the owner of the thing
abbrev pub admits : List (List ℕ) → List ℕ → List ℕ → Bool
admits names who owner = has_name (codes "World") names || has_name who names || (same_name who owner && has_name (codes "Owner") names)

abbrev pub is_admin : List ℕ → Bool
is_admin who = same_name who (codes "Admin")

-- the quota does not let the charge grow by so much
abbrev pub is_over : OwnerRecord → ℕ → Bool
is_over o asked = nat_lt 0 asked && nat_lt o.quota (o.charge + asked)

abbrev pub quota_exceeded : OwnerRecord → ℕ → Refusal
quota_exceeded o asked = refusal.QuotaExceeded o.charge asked o.quota

-- the owner's cell with another charge
abbrev pub charge_put : List ℕ → OwnerRecord → ℕ → Edit
charge_put name o charge = Put (OwnerOf name) (cell.Owner (record o { charge = charge }))

-- what stands in a cell that is there
abbrev pub owner_of : Option Cell → OwnerRecord
owner_of c = unwrap_or (owner_in c) no_owner

abbrev pub props_of : Option Cell → Props
props_of c = unwrap_or (props_in c) no_props

-- ---- opens

abbrev pub open_at : List Open → ℕ → Option Open
open_at opens n = find (λ (o : Open). o.number == n) opens

abbrev pub opened : Own → FileId → Access → Own
opened own f a = record { last = own.last + 1; opens = own.opens ++ (record { number = own.last + 1; file = f; access = a }) ∷ [] }

abbrev pub without_open : List Open → ℕ → List Open
without_open os n = filter (λ (o : Open). not (o.number == n)) os

abbrev pub without_file : List Open → FileId → List Open
without_file os f = filter (λ (o : Open). not (same_file f o.file)) os

-- on an open of the part, whose file is there
abbrev pub on_props : Own → Option Props → (Props → Look) → Look
on_props own None next = Say (refused own refusal.UnknownOpen)
on_props own (Some p) next = next p

abbrev pub on_open : Own → Option Open → (Open → Props → Look) → Look
on_open own None next = Say (refused own refusal.UnknownOpen)
on_open own (Some o) next = Ask (Leader o.file) (λ lc. on_props own (props_in lc) (next o))

-- only where the open is one for change
abbrev pub if_change : Own → Access → Look → Look
if_change own ReadOnly next = Say (refused own refusal.ReadOnlyOpen)
if_change own Change next = next

abbrev pub on_change : Own → Option Open → (Open → Props → Look) → Look
on_change own None next = Say (refused own refusal.UnknownOpen)
on_change own (Some o) next = if_change own o.access (Ask (Leader o.file) (λ lc. on_props own (props_in lc) (next o)))

-- ---- CreateFile

abbrev pub created_file : Own → Props → OwnerRecord → FileId → Answer
created_file own start o f = record {
  reply = Some (reply.Created f (own.last + 1));
  edits = Put (Leader f) (cell.Leader (record start { byte_length = 0; high_water = 0 })) ∷ charge_put start.owner o (o.charge + start.size) ∷ [];
  own = opened own f Change;
}

abbrev pub create_tests : List ℕ → Props → Option Cell → List (Bool × Refusal)
create_tests who start oc =
    (not (is_some (owner_in oc)), refusal.UnknownOwner)
    ∷ (not (admits (owner_of oc).create who start.owner), refusal.AccessDenied lists.Create)
    ∷ (is_over (owner_of oc) start.size, quota_exceeded (owner_of oc) start.size) ∷ []

-- a new id is of this server, no leader, and was given to no earlier file
abbrev pub is_new : ℕ → List FileId → FileId → Option Cell → Bool
is_new server made f lc = f.server == server && not (is_some lc) && not (has_file f made)

abbrev pub create_file : ℕ → List FileId → Own → List ℕ → Props → Option FileId → Look
create_file server made own who start None =
    Ask (OwnerOf start.owner) (λ oc. Say (unless own (create_tests who start oc) (no_answer own)))
create_file server made own who start (Some f) =
    Ask (OwnerOf start.owner) (λ oc. Ask (Leader f) (λ lc. Say (unless own (create_tests who start oc)
    (if is_new server made f lc then created_file own start (owner_of oc) f else no_answer own))))

-- ---- OpenFile

abbrev pub access_tests : Access → List ℕ → Props → List (Bool × Refusal)
access_tests ReadOnly who p = (not (admits p.read who p.owner || admits p.modify who p.owner), refusal.AccessDenied lists.Read) ∷ []
access_tests Change who p = (not (admits p.modify who p.owner), refusal.AccessDenied lists.Modify) ∷ []

abbrev pub open_file : Own → List ℕ → FileId → Access → Look
open_file own who f a =
    Ask (Leader f) (λ lc. Say (unless own ((not (is_some (props_in lc)), refusal.UnknownFile) ∷ access_tests a who (props_of lc))
    (record { reply = Some (reply.Opened (own.last + 1)); edits = []; own = opened own f a })))

-- ---- CloseFile and DeleteFile

abbrev pub close_file : Own → ℕ → Option Open → Look
close_file own n None = Say (refused own refusal.UnknownOpen)
close_file own n (Some o) = Say (record { reply = Some reply.Plain; edits = []; own = record own { opens = without_open own.opens n } })

abbrev pub delete_file : Own → Open → Props → Look
delete_file own o p = Ask (OwnerOf p.owner) (λ oc. Say (record {
  reply = Some reply.Plain;
  edits = Drop o.file ∷ charge_put p.owner (owner_of oc) ((owner_of oc).charge - p.size) ∷ [];
  own = record own { opens = without_file own.opens o.file };
}))

-- ---- ReadPages, WritePages, LockPages

abbrev pub page_past : Run → Props → List (Bool × Refusal)
page_past r p = (nat_lt p.size (r.first + r.count), refusal.NoSuchPage p.size) ∷ []

-- the cells of pages in a row
abbrev pub ask_pages : FileId → ℕ → ℕ → (List (List ℕ) → Look) → Look
ask_pages f first zero next = next []
ask_pages f first (suc n) next = Ask (PageOf f first) (λ c. ask_pages f (first + 1) n (λ ps. next (page_in c ∷ ps)))

abbrev pub read_pages : Own → Run → Open → Props → Look
read_pages own r o p =
    if nat_lt p.size (r.first + r.count) then Say (refused own (refusal.NoSuchPage p.size))
    else ask_pages o.file r.first r.count (λ ps. Say (replied own (reply.Pages ps) []))

abbrev pub page_puts : FileId → ℕ → List (List ℕ) → List Edit
page_puts f first [] = []
page_puts f first (p ∷ ps) = Put (PageOf f first) (cell.Page p) ∷ page_puts f (first + 1) ps

-- the leader is put only where the high-water mark rises
abbrev pub mark_put : FileId → Props → ℕ → List Edit
mark_put f p last = if nat_lt p.high_water last then Put (Leader f) (cell.Leader (record p { high_water = last })) ∷ [] else []

abbrev pub write_pages : Own → Run → List (List ℕ) → Open → Props → Look
write_pages own r pages o p =
    Say (unless own (page_past r p) (replied own reply.Plain (page_puts o.file r.first pages ++ mark_put o.file p (r.first + r.count))))

abbrev pub lock_pages : Own → Run → Open → Props → Look
lock_pages own r o p = Say (unless own (page_past r p) (replied own reply.Plain []))

-- the modes of a run that need an open for change
abbrev pub is_changing : Mode → Bool
is_changing mode.IntendRead = false
is_changing mode.IntendWrite = false
is_changing mode.Read = false
is_changing mode.Update = true
is_changing mode.ReadIntendWrite = true
is_changing mode.Write = true

-- ---- SetSize

abbrev pub put_props : Own → Open → Props → Look
put_props own o p = Say (replied own reply.Plain (Put (Leader o.file) (cell.Leader p) ∷ []))

abbrev pub cut_file : Own → ℕ → Open → Props → Look
cut_file own size o p = Ask (OwnerOf p.owner) (λ oc. Say (replied own reply.Plain (
    Cut o.file size ∷ Put (Leader o.file) (cell.Leader (record p { size = size; high_water = min p.high_water size }))
    ∷ charge_put p.owner (owner_of oc) ((owner_of oc).charge - (p.size - size)) ∷ [])))

abbrev pub grow_file : Own → ℕ → Open → Props → Look
grow_file own size o p = Ask (OwnerOf p.owner) (λ oc. Say (unless own ((is_over (owner_of oc) (size - p.size), quota_exceeded (owner_of oc) (size - p.size)) ∷ []) (replied own reply.Plain (
    Put (Leader o.file) (cell.Leader (record p { size = size })) ∷ charge_put p.owner (owner_of oc) ((owner_of oc).charge + (size - p.size)) ∷ []))))

-- the leader is put also where the size stays
abbrev pub set_size : Own → ℕ → Open → Props → Look
set_size own size o p =
    if size == p.size then put_props own o p else if nat_lt size p.size then cut_file own size o p else grow_file own size o p

-- ---- ReadProps and WriteProps

abbrev pub move_tests : List ℕ → List ℕ → ℕ → Option Cell → List (Bool × Refusal)
move_tests who name size nc =
    (not (is_some (owner_in nc)), refusal.UnknownOwner)
    ∷ (not (admits (owner_of nc).create who name), refusal.AccessDenied lists.Create)
    ∷ (is_over (owner_of nc) size, quota_exceeded (owner_of nc) size) ∷ []

-- to another owner the charge moves; to the same one nothing changes
abbrev pub move_file : Own → List ℕ → List ℕ → Open → Props → Look
move_file own who name o p =
    if same_name p.owner name then Say (replied own reply.Plain [])
    else Ask (OwnerOf name) (λ nc. Ask (OwnerOf p.owner) (λ oc. Say (unless own (move_tests who name p.size nc) (replied own reply.Plain (
    Put (Leader o.file) (cell.Leader (record p { owner = name })) ∷ charge_put p.owner (owner_of oc) ((owner_of oc).charge - p.size)
    ∷ charge_put name (owner_of nc) ((owner_of nc).charge + p.size) ∷ [])))))

abbrev pub write_props : Own → List ℕ → PropChange → Open → Props → Look
write_props own who (prop.Owner n) o p = move_file own who n o p
write_props own who (prop.Name n) o p = put_props own o (record p { name = n })
write_props own who (prop.TypeNo n) o p = put_props own o (record p { type_no = n })
write_props own who (prop.ByteLength n) o p = put_props own o (record p { byte_length = n })
write_props own who (prop.Read l) o p = put_props own o (record p { read = l })
write_props own who (prop.Modify l) o p = put_props own o (record p { modify = l })

-- ---- owners

abbrev pub read_owner : Own → List ℕ → Look
read_owner own name = Ask (OwnerOf name) (λ oc. Say (unless own ((not (is_some (owner_in oc)), refusal.UnknownOwner) ∷ []) (replied own (reply.Owner (owner_of oc)) [])))

abbrev pub make_owner : Own → List ℕ → List ℕ → ℕ → List (List ℕ) → Look
make_owner own who name quota create = Ask (OwnerOf name) (λ oc. Say (unless own
    ((is_some (owner_in oc), refusal.OwnerExists) ∷ (not (is_admin who), refusal.AccessDenied lists.Admin) ∷ [])
    (replied own reply.Plain (Put (OwnerOf name) (cell.Owner (record { name = name; quota = quota; charge = 0; create = create })) ∷ []))))

abbrev pub set_quota : Own → List ℕ → List ℕ → ℕ → Look
set_quota own who name quota = Ask (OwnerOf name) (λ oc. Say (unless own
    ((not (is_some (owner_in oc)), refusal.UnknownOwner) ∷ (not (is_admin who), refusal.AccessDenied lists.Admin) ∷ [])
    (replied own reply.Plain (Put (OwnerOf name) (cell.Owner (record (owner_of oc) { quota = quota })) ∷ []))))

-- ---- all calls

-- the id that a reply says was given to a new file
abbrev pub id_in : Reply → Option FileId
id_in (reply.Created f n) = Some f
id_in _ = None

-- What a file call asks and says, at this server, after these ids were given to files. A call that is no file
-- call has no answer here.
abbrev pub program : ℕ → List FileId → List ℕ → Own → Call → Option FileId → Look
program server made who own (call.Hello name) id = Say (no_answer own)
program server made who own (call.Begin seen) id = Say (no_answer own)
program server made who own (call.Join trans) id = Say (no_answer own)
program server made who own (call.CreateFile trans start choice) id = create_file server made own who start id
program server made who own (call.OpenFile trans file access m choice) id = open_file own who file access
program server made who own (call.CloseFile trans n) id = close_file own n (open_at own.opens n)
program server made who own (call.DeleteFile trans n choice) id = on_change own (open_at own.opens n) (delete_file own)
program server made who own (call.ReadPages trans n r m choice) id = on_open own (open_at own.opens n) (read_pages own r)
program server made who own (call.WritePages trans n r pages choice) id = on_change own (open_at own.opens n) (write_pages own r pages)
program server made who own (call.LockPages trans n r m choice) id =
    if is_changing m then on_change own (open_at own.opens n) (lock_pages own r) else on_open own (open_at own.opens n) (lock_pages own r)
program server made who own (call.SetSize trans n size choice) id = on_change own (open_at own.opens n) (set_size own size)
program server made who own (call.ReadProps trans n) id = on_open own (open_at own.opens n) (λ o p. Say (replied own (reply.Props p) []))
program server made who own (call.WriteProps trans n change choice) id = on_change own (open_at own.opens n) (write_props own who change)
program server made who own (call.ReadOwner trans name choice) id = read_owner own name
program server made who own (call.MakeOwner trans name quota create choice) id = make_owner own who name quota create
program server made who own (call.SetQuota trans name quota choice) id = set_quota own who name quota
program server made who own (call.Finish trans commit) id = Say (no_answer own)
program server made who own (call.Outcome trans) id = Say (no_answer own)
program server made who own (call.Collect number) id = Say (no_answer own)

-- what one thread answers on what it sees, where `given` gives the id of a new file and nothing else
abbrev pub answer : ℕ → List FileId → View → List ℕ → Own → Call → Reply → Answer
answer server made m who own c given = run m (program server made who own c (id_in given))
