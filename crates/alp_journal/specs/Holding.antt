-- What a server may do with what it holds. What it applies for others is stamped no earlier than its vote.
use Rattle.std.specs.Prelude.{◌≡◌, ℕ, ◌<◌, ◌≤◌, true, false, ◌⊎◌, List, None, Some}
use Rattle.std.specs.List.{AllByRecursion}
use Rattle.std.specs.declared.cmp.Ordering.TheVariants.{Equal}
use Rattle.alp_base.specs.declared.ids.FileId.{FileId}
use Rattle.alp_base.specs.declared.ids.TransId.{TransId}
use Rattle.alp_base.specs.declared.ids.Stamp.{Stamp}
use Rattle.alp_files.specs.Cells.{has_file}
use Rattle.alp_files.specs.Act.{id_in}
use Rattle.alp_files.specs.History.{PerformedCall, Decided}
use Rattle.alp_files.specs.Locks.{needs_of, HoldsEach, IsFormed}
use Rattle.alp_journal.specs.Ids.{stamp_cmp}
use Rattle.alp_journal.specs.Deeds.{Deed, Grants, Performs, Readies, Applies, Decides, Restarts}
use Rattle.alp_journal.specs.Holder.{Holder, Life, holder_after, view_in, answer_in}
use Rattle.alp_journal.specs.Laws.{DoLivesAgree}

-- a call of a part that has not voted, answered as one thread is, under its locks
pub record IsCalled (h : Holder) (l : Life) (d : PerformedCall) : Type 0 where
  pub active : l.vote ≡ None
  pub formed : IsFormed d.call
  pub right : (answer_in h l d).reply ≡ Some d.reply
  pub fresh : (f : FileId) → id_in d.reply ≡ Some f → has_file f h.made ≡ false
  pub locked : HoldsEach l.held (needs_of (view_in h l) l.own d.call)

-- no transaction was applied at this stamp
abbrev pub IsNewStamp : Stamp → List (Stamp × Decided) → Type 0
IsNewStamp x xs = AllByRecursion (λ (y : Stamp × Decided). stamp_cmp x y.0 ≡ Equal → ⊥) xs

-- what an earlier run made ready is applied as it is; else the stamp is no earlier than the vote, and new
abbrev pub IsTimely : Holder → Stamp → Life → Type 0
IsTimely h x l = (l.is_early ≡ true) ⊎ ((v : ℕ) × (l.is_early ≡ false) × (l.vote ≡ Some v) × (v ≤ x.ts) × IsNewStamp x h.applied)

abbrev pub HasNotVoted : Holder → TransId → Type 0
HasNotVoted h t = (l : Life) → h.lives t ≡ Some l → l.vote ≡ None

abbrev pub MayDo : Holder → Deed → Type 0
MayDo h (Grants t c) = HasNotVoted h t × DoLivesAgree (holder_after h (Grants t c)).lives
MayDo h (Performs t d) = ((l : Life) × (h.lives t ≡ Some l) × IsCalled h l d) × DoLivesAgree (holder_after h (Performs t d)).lives
MayDo h (Readies j t ts) = (h.clock < ts) × HasNotVoted h t
MayDo h (Decides x js) = (h.clock < x.ts) × HasNotVoted h x.trans
MayDo h (Applies j x) = (l : Life) → h.lives x.trans ≡ Some l → IsTimely h x l
MayDo h (Restarts epoch clock) = h.kept ≤ clock
MayDo h d = Unit {0}
