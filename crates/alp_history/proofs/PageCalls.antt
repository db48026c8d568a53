-- what parts hold that open a file and lock a page of it
use Rattle.std.specs.FinMap as map
use Rattle.std.specs.FinMap.{get-insert}
use Rattle.std.specs.Prelude.{codes, true, false, cond, not, is_some, Bool, Option, None, Some}
use Rattle.std.proofs.Common.{◌≡◌, ℕ, List, [], ◌∷◌, ◌++◌, refl, sym, ap, ◌∙◌}
use Rattle.alp_base.specs.KeyLaws.{keys_total}
use Rattle.alp_base.specs.declared.key.Key.{Key}
use Rattle.alp_base.specs.declared.key.Key.TheVariants.{Leader, PageOf}
use Rattle.alp_base.specs.declared.key.Resource.{Resource}
use Rattle.alp_base.specs.declared.key.Resource.TheVariants.{Leaf, Whole}
use Rattle.alp_base.specs.declared.choices.Access.TheVariants as access
use Rattle.alp_base.specs.declared.choices.Choice.{Choice}
use Rattle.alp_base.specs.declared.choices.Choice.TheVariants as choice
use Rattle.alp_base.specs.declared.ids.Run.{Run}
use Rattle.alp_modes.specs.declared.Mode.{Mode}
use Rattle.alp_modes.specs.declared.Mode.TheVariants.{IntendRead, IntendWrite, Read, Update}
use Rattle.alp_modes.specs.Modes.{agree, covers_of, join_of, leaf_of}
use Rattle.alp_files.specs.Holdings.{Holding, held_by, intention_of}
use Rattle.alp_files.specs.Cells.{props_in}
use Rattle.alp_base.specs.declared.cell.Cell.{Cell}
use Rattle.alp_base.specs.declared.cell.Cell.TheVariants as cell
use Rattle.alp_files.specs.declared.open.Open.{Open}
use Rattle.alp_files.specs.declared.reply.Reply.TheVariants as reply
use Rattle.alp_files.specs.declared.refusal.Refusal.TheVariants as refusal
use Rattle.alp_files.specs.Act.{Own, Answer, Look, run, no_opens, unless, replied, opened, open_at, access_tests, props_of, on_props, on_open, on_change, lock_pages, is_changing}
use Rattle.alp_files.specs.History.{PerformedCall}
use Rattle.alp_files.specs.Locks.{Need, page_limit, page_needs, needs_there, needs_on_open, needs_on_change, needs_of, joined, request_of, granted}
use Rattle.alp_files.proofs.HoldingLemmas.{none-right, held_by-append}
use Rattle.alp_base.specs.declared.ids.TransId.{TransId}
use Rattle.alp_journal.specs.Holder.{Holder, Life, new_life, view_in, answer_in, held_for, after_done}
use Rattle.alp_history.specs.WrongJournals.{first_file, kept_props, with_owner, with_file, of_client, opens_file, locks_page}
use Rattle.alp_history.proofs.HoldLists.{agree_each}

-- ---- the file

abbrev pub leader : Key
leader = Leader first_file

abbrev pub page : Resource
page = Leaf (PageOf first_file 0)

abbrev whole : Resource
whole = Whole first_file

-- it is there
abbrev pub HasFile : Holder → Type 0
HasFile h = map.get h.cells leader ≡ Some (cell.Leader kept_props)

pub file_seen : map.get with_file.cells leader ≡ Some (cell.Leader kept_props)
file_seen = get-insert keys_total with_owner leader (cell.Leader kept_props) leader

-- ---- locks

abbrev pub open_locks : List Need
open_locks = (whole, IntendWrite) ∷ (Leaf leader, Read) ∷ (whole, IntendRead) ∷ []

abbrev pub read_locks : List Need
read_locks = (page, Read) ∷ (whole, IntendRead) ∷ []

abbrev pub update_locks : List Need
update_locks = (page, Update) ∷ (whole, IntendWrite) ∷ []

pub asks_update : request_of (held_by open_locks) ((page, Update) ∷ []) ≡ update_locks
unfolding leaf_of covers_of join_of intention_of
asks_update = refl

pub asks_read : request_of (held_by open_locks) ((page, Read) ∷ []) ≡ read_locks
unfolding leaf_of covers_of join_of intention_of
asks_read = refl

pub asks_more : request_of (held_by (open_locks ++ read_locks)) ((page, Update) ∷ []) ≡ update_locks
unfolding leaf_of covers_of join_of intention_of
asks_more = refl

-- what is held with what was asked
pub granted_by : (ls ns ms : List Need) → request_of (held_by ls) ns ≡ ms → granted (held_by ls) ns ≡ held_by (ls ++ ms)
granted_by ls ns ms is = ap (λ (qs : List Need). joined (held_by ls) qs) is ∙ (λ i r. sym (held_by-append ls ms r) i)

-- ---- parts

abbrev pub with_open : Own
with_open = record { last = 1; opens = (record { number = 1; file = first_file; access = access.Change }) ∷ [] }

abbrev pub open_done : ℕ → PerformedCall
open_done n = record { call = opens_file (of_client n); reply = reply.Opened 1 }

abbrev pub lock_done : ℕ → Mode → PerformedCall
lock_done n m = record { call = locks_page (of_client n) m choice.Fail; reply = reply.Plain }

abbrev pub fresh : ℕ → Life
fresh n = new_life None n (codes "Admin")

abbrev pub part_life : ℕ → List PerformedCall → List Need → Life
part_life n ds ls = record (fresh n) { calls = ds; own = with_open; held = held_by ls }

abbrev pub opened_life : ℕ → Life
opened_life n = part_life n (open_done n ∷ []) open_locks

abbrev pub locked_life : ℕ → Mode → List Need → Life
locked_life n m ls = part_life n (open_done n ∷ lock_done n m ∷ []) (open_locks ++ ls)

-- ---- an open

abbrev pub opening_life : ℕ → Life
opening_life n = record (fresh n) { held = held_by open_locks }

pub open_held : (h : Holder) (n : ℕ) → record (fresh n) { held = held_for h (fresh n) (opens_file (of_client n)) } ≡ opening_life n
unfolding leaf_of covers_of join_of intention_of
open_held h n = refl

abbrev pub opened_answer : Answer
opened_answer = record { reply = Some (reply.Opened 1); edits = []; own = with_open }

abbrev open_with : Option Cell → Answer
open_with oc = unless no_opens
    ((not (is_some (props_in oc)), refusal.UnknownFile) ∷ access_tests access.Change (codes "Admin") (props_of oc))
    (record { reply = Some (reply.Opened 1); edits = []; own = opened no_opens first_file access.Change })

pub open_answer : (h : Holder) (n : ℕ) → HasFile h → answer_in h (opening_life n) (open_done n) ≡ opened_answer
open_answer h n is = ap open_with is

pub open_after : (n : ℕ) → after_done (opening_life n) (open_done n) opened_answer ≡ opened_life n
open_after n i = record (opened_life n) { held = λ r. none-right (held_by open_locks r) i }

-- ---- a lock on the page

abbrev the_open : Open
the_open = record { number = 1; file = first_file; access = access.Change }

abbrev the_run : Run
the_run = record { first = 0; count = 1 }

module _ (h : Holder) (n : ℕ) (ds : List PerformedCall) (ls : List Need) (is : HasFile h) where
  pub lock_needs : (t : TransId) (m : Mode) (c : Choice) → needs_of (view_in h (part_life n ds ls)) with_open (locks_page t m c) ≡ (page, m) ∷ []
  unfolding page_limit
  lock_needs t m c = go (is_changing m)
    where
      go : (b : Bool) → cond {A = List Need} b
          (needs_on_change (view_in h (part_life n ds ls)) (open_at with_open.opens 1) (λ o p. page_needs o.file 0 1 m))
          (needs_on_open (view_in h (part_life n ds ls)) (open_at with_open.opens 1) (λ o p. page_needs o.file 0 1 m)) ≡ (page, m) ∷ []
      go true = ap (λ (oc : Option Cell). needs_there (props_in oc) (λ p. page_needs first_file 0 1 m)) is
      go false = ap (λ (oc : Option Cell). needs_there (props_in oc) (λ p. page_needs first_file 0 1 m)) is

  -- what it holds then
  pub lock_held : (t : TransId) (m : Mode) (c : Choice) (ms : List Need) → request_of (held_by ls) ((page, m) ∷ []) ≡ ms → held_for h (part_life n ds ls) (locks_page t m c) ≡ held_by (ls ++ ms)
  lock_held t m c ms asked = ap (granted (held_by ls)) (lock_needs t m c) ∙ granted_by ls ((page, m) ∷ []) ms asked

  pub lock_life : (t : TransId) (m : Mode) (c : Choice) (ms : List Need) → request_of (held_by ls) ((page, m) ∷ []) ≡ ms
      → record (part_life n ds ls) { held = held_for h (part_life n ds ls) (locks_page t m c) } ≡ part_life n ds (ls ++ ms)
  lock_life t m c ms asked = ap (λ (x : Holding). record (part_life n ds ls) { held = x }) (lock_held t m c ms asked)

  pub lock_answer : (m : Mode) → answer_in h (part_life n ds ls) (lock_done n m) ≡ replied with_open reply.Plain []
  lock_answer m = go (is_changing m)
    where
      go : (b : Bool) → run (view_in h (part_life n ds ls)) (cond {A = Look} b
          (on_change with_open (open_at with_open.opens 1) (lock_pages with_open the_run))
          (on_open with_open (open_at with_open.opens 1) (lock_pages with_open the_run))) ≡ replied with_open reply.Plain []
      go true = ap (λ (oc : Option Cell). run (view_in h (part_life n ds ls)) (on_props with_open (props_in oc) (lock_pages with_open the_run the_open))) is
      go false = ap (λ (oc : Option Cell). run (view_in h (part_life n ds ls)) (on_props with_open (props_in oc) (lock_pages with_open the_run the_open))) is

pub lock_after : (n : ℕ) (m : Mode) (ls : List Need)
    → after_done (part_life n (open_done n ∷ []) (open_locks ++ ls)) (lock_done n m) (replied with_open reply.Plain []) ≡ locked_life n m ls
lock_after n m ls i = record (locked_life n m ls) { held = λ r. none-right (held_by (open_locks ++ ls) r) i }

-- ---- who agrees with whom

pub update_open : agree_each (open_locks ++ update_locks) open_locks ≡ true
unfolding agree
update_open = refl

pub update_read : agree_each (open_locks ++ update_locks) (open_locks ++ read_locks) ≡ true
unfolding agree
update_read = refl

pub read_open : agree_each (open_locks ++ read_locks) open_locks ≡ true
unfolding agree
read_open = refl

pub read_update : agree_each (open_locks ++ read_locks) (open_locks ++ update_locks) ≡ true
unfolding agree
read_update = refl

pub raised_open : agree_each ((open_locks ++ read_locks) ++ update_locks) open_locks ≡ true
unfolding agree
raised_open = refl

pub open_raised : agree_each open_locks ((open_locks ++ read_locks) ++ update_locks) ≡ true
unfolding agree
open_raised = refl
