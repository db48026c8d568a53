-- Walks over the live joins.
use Rattle.std.specs.Prelude.{◌≡◌, ◌&&◌, ℕ, Bool, true, false, List, [], ◌∷◌, filter, flat_map, Option, None, Some, if◌then◌else◌}
use Rattle.std.specs.List.{list_any}
use Rattle.std.specs.Ordering.{is_lt}
use Rattle.alp_base.specs.Orders.{trans_cmp}
use Rattle.alp_base.specs.declared.ids.JoinNo.{JoinNo}
use Rattle.alp_base.specs.declared.ids.TransId.{TransId}
use Rattle.alp_files.specs.declared.refusal.Cause.TheVariants as cause
use Rattle.alp_journal.specs.Deeds.{Deed, Quits}
use Rattle.alp_journal.specs.Ids.{same_trans}
use Rattle.alp_journal.specs.Messages.{trans_ready}
use Rattle.alp_journal.specs.Participant.{open_in}
use Rattle.alp_journal.specs.State.{State}
use Rattle.alp_worker.specs.Lives.{is_open, phase_of}
use Rattle.alp_worker.specs.declared.live.LiveJoin.{LiveJoin}

-- those of a transaction that have not voted
abbrev pub is_open_of : TransId → LiveJoin → Bool
is_open_of t l = is_open l.stage && same_trans l.trans t

abbrev pub open_of : TransId → List LiveJoin → List LiveJoin
open_of t ls = filter (is_open_of t) ls

-- what comes about of each as time runs out
abbrev pub timed_out : LiveJoin → Deed
timed_out l = Quits l.join l.trans l.client (Some cause.TimedOut)

-- the transactions of those that have
abbrev pub ready_in : List LiveJoin → List TransId
ready_in ls = flat_map (λ (l : LiveJoin). trans_ready (phase_of l)) ls

-- ---- the least transaction

-- the lesser of two, or the one that there is
abbrev pub lesser_of : Option TransId → TransId → TransId
lesser_of None u = u
lesser_of (Some t) u = if is_lt (trans_cmp u t) then u else t

-- the least of it and of the transactions of joins that have not voted
abbrev pub least_from : Option TransId → List LiveJoin → Option TransId
least_from x [] = x
least_from x (l ∷ ls) = least_from (if is_open l.stage then Some (lesser_of x l.trans) else x) ls

-- it passes and no lesser one does, or none does
abbrev pub IsLeastOf : (TransId → Bool) → Option TransId → Type 0
IsLeastOf p None = (t : TransId) → p t ≡ false
IsLeastOf p (Some t) = (p t ≡ true) × ((u : TransId) → p u ≡ true → is_lt (trans_cmp u t) ≡ false)

-- a join of the transaction has not voted
abbrev pub has_open : List LiveJoin → TransId → Bool
has_open ls t = list_any (is_open_of t) ls

-- the same in a journal's words
abbrev pub HasOpen : State → TransId → Type 0
HasOpen s t = (j : JoinNo) × (client : ℕ) × (open_in (s.phases j) ≡ Some (t, client))

abbrev pub IsLeastOpen : State → Option TransId → Type 0
IsLeastOpen s None = (t : TransId) → HasOpen s t → ⊥
IsLeastOpen s (Some t) = HasOpen s t × ((u : TransId) → HasOpen s u → is_lt (trans_cmp u t) ≡ false)
