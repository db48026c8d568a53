-- What is counted of a part: the keys that it changes, the resources that it has locked, and the places that it needs; and
-- whether there is room for it in the log and on the volume.
use Rattle.std.specs.Prelude.{ℕ, ◌+◌, ◌-◌, ◌*◌, ◌/◌, Bool, List, [], ◌∷◌, ◌++◌, Option, None, Some, is_some, if◌then◌else◌}
use Rattle.std.specs.List.{list_any}
use Rattle.std.specs.Ordering.{eq_by_cmp}
use Rattle.alp_base.specs.declared.ids.TransId.{TransId}
use Rattle.alp_base.specs.declared.key.Resource.{Resource}
use Rattle.alp_base.specs.Orders.{resource_cmp}
use Rattle.alp_files.specs.declared.call.Call.{Call}
use Rattle.alp_files.specs.Act.{id_in}
use Rattle.alp_files.specs.Locks.{Need, needs_of, request_of, needs_made}
use Rattle.alp_journal.specs.Ids.{same_trans}
use Rattle.alp_journal.specs.Opening.{ReadyNote}
use Rattle.alp_journal.specs.Deeds.{Deed, Begins, Enters, Grants, Performs, Releases, Restarts}
use Rattle.alp_journal.specs.Holder.{Holder, Life, view_in}

-- ---- what is locked

-- for each transaction the resources on which it holds a lock, each once
abbrev pub Locked : Type 0
Locked = TransId → List Resource

abbrev pub has_resource : Resource → List Resource → Bool
has_resource r rs = list_any (λ q. eq_by_cmp resource_cmp r q) rs

abbrev pub with_resources : List Need → List Resource → List Resource
with_resources [] rs = rs
with_resources (n ∷ ns) rs = with_resources ns (if has_resource n.0 rs then rs else rs ++ n.0 ∷ [])

abbrev pub request_in : Holder → Call → Option Life → List Need
request_in s c None = []
request_in s c (Some l) = request_of l.held (needs_of (view_in s l) l.own c)

abbrev pub lock_set : Locked → TransId → List Resource → Locked
lock_set locked t rs = λ u. if same_trans u t then rs else locked u

abbrev pub kept_locks : Option Life → List Resource → List Resource
kept_locks None rs = []
kept_locks (Some l) rs = if is_some l.vote then rs else []

abbrev pub locked_after : Holder → Locked → Deed → Locked
locked_after s locked (Grants t c) = lock_set locked t (with_resources (request_in s c (s.lives t)) (locked t))
locked_after s locked (Performs t d) = lock_set locked t (with_resources (needs_made (id_in d.reply)) (locked t))
locked_after s locked (Begins t client who seen) = lock_set locked t []
locked_after s locked (Enters j t client who) = lock_set locked t []
locked_after s locked (Releases t) = lock_set locked t []
locked_after s locked (Restarts epoch clock) = λ t. kept_locks (s.lives t) (locked t)
locked_after s locked d = locked

abbrev pub locked_noted : List ReadyNote → Locked
locked_noted [] t = []
locked_noted (n ∷ ns) t = if same_trans n.trans t then with_resources n.locks [] else locked_noted ns t

-- ---- room in the log

abbrev pub up_to_16 : ℕ → ℕ
up_to_16 l = (l + 15) / 16

-- the pages that a part may take in the log while it runs, and while it is ready
abbrev pub log_need : (cells locks : ℕ) → ℕ
log_need c l = 6 * c + up_to_16 l + 30

abbrev pub weight : (cells locks : ℕ) → ℕ
weight c l = 2 * c + 2 + up_to_16 l

-- applying one of the ready parts never lacks room where this sum fits
abbrev pub ready_sum : (weights greatest : ℕ) → ℕ
ready_sum weights greatest = 24 + weights + greatest
