-- What a call asks of the lock table: what it needs, but for what a file's lock gives.
use Rattle.std.specs.Prelude.{◌≡◌, List, [], ◌∷◌, ◌++◌, Bool, true, false, nat_lt, nat_le, ◌&&◌, ◌||◌, ◌==◌, ◌+◌, ◌<◌, if◌then◌else◌, ℕ, length, IsTrue, Option, None, Some, IfSome, Result, Ok, Err}
use Rattle.std.specs.List.{AllByRecursion}
use Rattle.alp_base.specs.declared.ids.FileId.{FileId}
use Rattle.alp_base.specs.declared.ids.TransId.{TransId}
use Rattle.alp_base.specs.declared.choices.Access.{Access}
use Rattle.alp_base.specs.declared.choices.Access.TheVariants.{ReadOnly, Change}
use Rattle.alp_base.specs.declared.key.Key.{Key}
use Rattle.alp_base.specs.declared.key.Key.TheVariants.{Leader, OwnerOf}
use Rattle.alp_base.specs.declared.key.Resource.{Resource}
use Rattle.alp_base.specs.declared.key.Resource.TheVariants.{Whole, Leaf}
use Rattle.alp_modes.specs.declared.Mode.{Mode}
use Rattle.alp_modes.specs.declared.Mode.TheVariants.{Read, Write}
use Rattle.alp_files.specs.Act.{Own, open_at}
use Rattle.alp_files.specs.Cells.{Cells, View}
use Rattle.alp_files.specs.Holdings.{Holding}
use Rattle.alp_files.specs.Locks.{Need, page_needs, mark_needs, size_needs, change_needs, needs_of, request_of}
use Rattle.alp_files.specs.declared.call.Call.{Call}
use Rattle.alp_files.specs.declared.call.Call.TheVariants as call
use Rattle.alp_base.specs.declared.cell.Props.{Props}
use Rattle.alp_files.specs.declared.open.Open.{Open}
use Rattle.alp_files.specs.declared.refusal.Refusal.{Refusal}
use Rattle.alp_files.specs.declared.reply.Reply.{Reply}
use Rattle.alp_files.specs.declared.reply.Reply.TheVariants as reply
use Rattle.alp_journal.specs.declared.act.Act.{Act}
use Rattle.alp_journal.specs.declared.act.Act.TheVariants as act
use Rattle.alp_queue.specs.declared.waiter.Waiter.{Waiter}
use Rattle.alp_locks.specs.Tables.{Table, held_of}
use Rattle.alp_locks.specs.Asks.{waiter_of, with_granted}
use Rattle.alp_calls.specs.Finds.{found_on, access_for}
use Rattle.alp_calls.specs.Parts.{seen}
use Rattle.alp_calls.specs.declared.finding.OpenedFile.{OpenedFile}
use Rattle.alp_trans.specs.Parts.{own_of}
use Rattle.alp_trans.specs.declared.part.Part.{Part}
use Rattle.alp_regain.specs.Named.{is_leaf_mode, is_own}

-- ---- what is needed

-- the open that a call names whose locks depend on the open and its file, and the access that the call has to have
abbrev pub looks_at : Call → Option (ℕ × Access)
looks_at (call.DeleteFile t n choice) = Some (n, Change)
looks_at (call.ReadPages t n r mode choice) = Some (n, ReadOnly)
looks_at (call.WritePages t n r pages choice) = Some (n, Change)
looks_at (call.LockPages t n r mode choice) = Some (n, access_for mode)
looks_at (call.SetSize t n size choice) = Some (n, Change)
looks_at (call.WriteProps t n change choice) = Some (n, Change)
looks_at _ = None

abbrev pub if_found : Result OpenedFile Refusal → Option OpenedFile
if_found (Ok x) = Some x
if_found (Err f) = None

abbrev pub found_in : View → List Open → Option (ℕ × Access) → Option OpenedFile
found_in m opens None = None
found_in m opens (Some l) = if_found (found_on l.1 m (open_at opens l.0))

-- of a call on such an open, whose file is there
abbrev pub open_needs : Call → Open → Props → List Need
open_needs (call.DeleteFile t n choice) o p = (Whole o.file, Write) ∷ (Leaf (OwnerOf p.owner), Write) ∷ []
open_needs (call.ReadPages t n r mode choice) o p = page_needs o.file r.first r.count mode
open_needs (call.WritePages t n r pages choice) o p = mark_needs o.file p (r.first + r.count) ++ page_needs o.file r.first r.count Write
open_needs (call.LockPages t n r mode choice) o p = page_needs o.file r.first r.count mode
open_needs (call.SetSize t n size choice) o p = size_needs size o p
open_needs (call.WriteProps t n change choice) o p = change_needs change o p
open_needs _ o p = []

abbrev pub on_opened : Option OpenedFile → (Open → Props → List Need) → List Need
on_opened None next = []
on_opened (Some x) next = next x.opened x.props

-- what a call needs where such an open of it is found
abbrev pub needs_on : Option OpenedFile → Call → List Need
needs_on x (call.CreateFile t start choice) = (Leaf (OwnerOf start.owner), Write) ∷ []
needs_on x (call.OpenFile t file access mode choice) = (Whole file, mode) ∷ (Leaf (Leader file), Read) ∷ []
needs_on x (call.ReadOwner t name choice) = (Leaf (OwnerOf name), Read) ∷ []
needs_on x (call.MakeOwner t name quota create choice) = (Leaf (OwnerOf name), Write) ∷ []
needs_on x (call.SetQuota t name quota choice) = (Leaf (OwnerOf name), Write) ∷ []
needs_on x c = on_opened x (open_needs c)

-- ---- what is asked

-- what a part asks that holds this and sees so
abbrev pub asks_of : Holding → View → Own → Call → List Need
asks_of held m own c = request_of held (needs_of m own c)

-- it is an open of these
abbrev pub IsOneOf : List Open → OpenedFile → Type 0
IsOneOf opens x = (n : ℕ) × (open_at opens n ≡ Some x.opened)

-- These are asked for the call of a part that holds this: what it needs, but for the leaves that a file's lock gives. What it
-- needs is what the journal says that it does; and whatever the vault tells, a file among that is one that the call names, or
-- one that the part has open. Whoever performs the call keeps what was asked, whatever the reply.
pub record IsAsked (tells : Bool) (cells : Cells) (held : Holding) (p : Part) (c : Call) (ns : List Need) : Type 0 where
  pub found : Option OpenedFile
  pub stands : IfSome found (IsOneOf p.opens.items)
  pub is : ns ≡ request_of held (needs_on found c)
  pub told : IsTrue tells → needs_on found c ≡ needs_of (seen cells p) (own_of p) c

-- and the lock on a file with this id, where it is made
abbrev pub asks_made : FileId → List Need → List Need
asks_made id ns = ns ++ (Whole id, Write) ∷ []

abbrev pub makes_file : Call → Bool
makes_file (call.CreateFile t start choice) = true
makes_file _ = false

abbrev pub is_made : Reply → Bool
is_made (reply.Created f n) = true
is_made _ = false

-- what is kept after a reply
abbrev pub asks_given : FileId → Call → List Need → Reply → List Need
asks_given id c ns r = if is_made r && makes_file c then asks_made id ns else ns

-- ---- files that were given

-- an id that a file was given here, in an older epoch or up to this count
abbrev pub is_given : ℕ → ℕ → ℕ → FileId → Bool
is_given server epoch count f = f.server == server && nat_lt 0 f.epoch && nat_lt 0 f.counter && (nat_lt f.epoch epoch || (f.epoch == epoch && nat_le f.counter count))

-- a call that opens a file names one that was given
abbrev pub is_of_given : ℕ → ℕ → ℕ → Call → Bool
is_of_given server epoch count (call.OpenFile t file access mode choice) = is_given server epoch count file
is_of_given server epoch count c = true

-- a file that is asked for is one of them, and a leaf is asked for to be read, to be read and perhaps written, or to be written
abbrev pub IsGivenOn : ℕ → ℕ → ℕ → Resource → Mode → Type 0
IsGivenOn server epoch count (Whole f) m = is_given server epoch count f ≡ true
IsGivenOn server epoch count (Leaf k) m = is_leaf_mode m ≡ true

abbrev pub AreGiven : ℕ → ℕ → ℕ → List Need → Type 0
AreGiven server epoch count ns = AllByRecursion (λ n. IsGivenOn server epoch count n.0 n.1) ns

-- ---- what is held

-- whole files that the server made, and leaves to be read, to be read and perhaps written, or to be written
pub record IsTidyHeld (server epoch : ℕ) (held : Holding) : Type 0 where
  pub own : (f : FileId) (m : Mode) → held (Whole f) ≡ Some m → is_own server epoch f ≡ true
  pub modes : (k : Key) (m : Mode) → held (Leaf k) ≡ Some m → is_leaf_mode m ≡ true

-- and of those of this epoch none beyond that count
pub record IsHeldHere (server epoch count : ℕ) (held : Holding) : Type 0 where
  pub unmade : (n : ℕ) → count < n → held (Whole (record { server = server; epoch = epoch; counter = n })) ≡ None
  pub tidy : IsTidyHeld server epoch held

-- ---- what is granted

abbrev pub plan_if : Bool → Waiter → Option Waiter
plan_if b made = if b then Some made else None

-- of two plans the second where there is one and a file was made, and the count with it
abbrev pub plan_for : Bool → Waiter → Option Waiter → Waiter
plan_for true asked (Some made) = made
plan_for has_made asked made = asked

abbrev pub count_made : ℕ → Bool → ℕ
count_made count has_made = if has_made then count + 1 else count

-- a plan of needs, as the table makes it now
abbrev pub plan_of : Table → TransId → List Need → Waiter
plan_of locks t ns = waiter_of (held_of locks.held t) t ns

-- the table where that plan is taken
abbrev pub with_plan : Table → Waiter → Table
with_plan locks w = with_granted locks w.trans w.rises w.after

-- the table where that of a file that was made is taken, if there is one
abbrev pub with_if : Table → Option Waiter → Table
with_if locks None = locks
with_if locks (Some w) = with_plan locks w

abbrev pub with_made : Bool → Table → Option Waiter → Table
with_made has_made locks made = if has_made then with_if locks made else locks

-- a grant stands where a mode rises
abbrev pub acts_of : TransId → List Need → List Act
acts_of t ns = if length ns == 0 then [] else act.Granted t ∷ []
