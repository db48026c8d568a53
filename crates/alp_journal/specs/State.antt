-- The state of a server as the entries of its journal so far show it, of parts that each look at the same deeds.
use Rattle.std.specs.Prelude.{ℕ, ◌+◌, Bool, false, not, ◌==◌, ◌&&◌, ◌||◌, nat_lt, List, [], ◌∷◌, ◌++◌, find, Option, None, Some, is_some, map as list_map, length}
use Rattle.std.specs.Option.{option_to_list}
use Rattle.alp_base.specs.declared.ids.FileId.{FileId}
use Rattle.alp_base.specs.declared.ids.JoinNo.{JoinNo}
use Rattle.alp_base.specs.declared.ids.TransId.{TransId}
use Rattle.alp_base.specs.declared.faults.Sizes.{Sizes}
use Rattle.alp_files.specs.Cells.{has_file}
use Rattle.alp_files.specs.Act.{id_in}
use Rattle.alp_journal.specs.Ids.{same_trans, is_drawn}
use Rattle.alp_journal.specs.Opening.{Start, ReadyNote, DecisionNote}
use Rattle.alp_journal.specs.Deeds.{Deed, Begins, Joins, Performs, Restarts}
use Rattle.alp_journal.specs.Coordinator.{Fate, fate_after, fate_noted, client_of}
use Rattle.alp_journal.specs.Participant.{Phase, phase_after, phase_noted, live_in}
use Rattle.alp_journal.specs.Holder.{Holder, holder_after, holder_opened}
use Rattle.alp_journal.specs.Desk.{Desk, desk_after}
use Rattle.alp_journal.specs.Counts.{Locked, locked_after, locked_noted}

-- which ids were given: the epoch, and how many transactions, joins and files there were in it
pub record Ids : Type 0 where
  pub epoch : ℕ
  pub transactions : ℕ
  pub joins : ℕ
  pub files : ℕ

-- `locked` has the resources that each transaction has locked. `begun` and `joined` name all transactions and joins that the state knows of. `pending` is what a stopped entry may have
-- brought about.
pub record State : Type 0 where
  pub servers : ℕ
  pub sizes : Sizes
  pub ids : Ids
  pub holder : Holder
  pub fates : TransId → Fate
  pub phases : JoinNo → Phase
  pub desk : Desk
  pub locked : Locked
  pub begun : List TransId
  pub joined : List JoinNo
  pub is_down : Bool
  pub pending : List Deed

-- ---- ids

abbrev pub ids_after : Ids → Deed → Ids
ids_after s (Begins t client who seen) = record s { transactions = s.transactions + 1 }
ids_after s (Joins j t client who) = record s { joins = s.joins + 1 }
ids_after s (Performs t d) = record s { files = s.files + length (option_to_list (id_in d.reply)) }
ids_after s (Restarts epoch clock) = record { epoch = epoch; transactions = 0; joins = 0; files = 0 }
ids_after s _ = s

abbrev pub begun_by : Deed → List TransId
begun_by (Begins t client who seen) = t ∷ []
begun_by _ = []

abbrev pub joined_by : Deed → List JoinNo
joined_by (Joins j t client who) = j ∷ []
joined_by _ = []

-- ---- the whole

abbrev pub state_deed : State → Deed → State
state_deed s d = record s {
  ids = ids_after s.ids d;
  holder = holder_after s.holder d;
  fates = λ t. fate_after d t (s.fates t);
  phases = λ j. phase_after d j (s.phases j);
  desk = desk_after s.desk d;
  locked = locked_after s.holder s.locked d;
  begun = s.begun ++ begun_by d;
  joined = s.joined ++ joined_by d;
}

abbrev pub opened : Start → State
opened o = record {
  servers = o.servers;
  sizes = o.sizes;
  ids = record { epoch = o.epoch; transactions = 0; joins = 0; files = 0 };
  holder = holder_opened o;
  fates = fate_noted o.decisions;
  phases = phase_noted o.ready;
  desk = record { sessions = λ c. None; waits = []; dead = λ c t. None };
  locked = locked_noted o.ready;
  begun = list_map (λ (n : DecisionNote). n.stamp.trans) o.decisions;
  joined = list_map (λ (n : ReadyNote). n.join) o.ready;
  is_down = false;
  pending = [];
}

-- ---- what is asked of it

abbrev pub server : State → ℕ
server s = s.holder.server

abbrev pub epoch : State → ℕ
epoch s = s.ids.epoch

abbrev pub is_trans_drawn : State → TransId → Bool
is_trans_drawn s t = is_drawn s.holder.server s.ids.epoch s.ids.transactions t.server t.epoch t.counter

abbrev pub is_join_drawn : State → JoinNo → Bool
is_join_drawn s j = is_drawn s.holder.server s.ids.epoch s.ids.joins j.server j.epoch j.counter

abbrev pub is_file_drawn : State → FileId → Bool
is_file_drawn s f = is_drawn s.holder.server s.ids.epoch 0 f.server f.epoch f.counter || has_file f s.holder.made

-- a server of the run, and another one than this
abbrev pub is_other_server : State → ℕ → Bool
is_other_server s n = nat_lt 0 n && nat_lt n (s.servers + 1) && not (n == s.holder.server)

-- it is of this transaction and this client
abbrev pub is_whose : ℕ → TransId → Option (TransId × ℕ) → Bool
is_whose client t None = false
is_whose client t (Some x) = same_trans x.0 t && x.1 == client

-- the live join of another server's transaction that a client has here
abbrev pub join_for : State → ℕ → TransId → Option JoinNo
join_for s client t = find (λ j. is_whose client t (live_in (s.phases j))) s.joined

abbrev pub is_this : ℕ → Option ℕ → Bool
is_this client None = false
is_this client (Some c) = c == client

-- the client has a live part of the transaction here
abbrev pub has_part : State → ℕ → TransId → Bool
has_part s client t = is_this client (client_of (s.fates t)) || is_some (join_for s client t)
