-- What a tick says of all transactions that a journal knows of.
use Rattle.std.specs.Prelude.{◌≡◌, ℕ, Bool, true, false, List, [], ◌∷◌, filter, flat_map, length}
use Rattle.std.specs.List.{list_any}
use Rattle.std.specs.List.Sorted.{IsPermutation, IsStrictlySortedBy}
use Rattle.alp_base.specs.declared.ids.TransId.{TransId}
use Rattle.alp_base.specs.Orders.{trans_cmp}
use Rattle.alp_journal.specs.Ids.{same_trans}
use Rattle.alp_journal.specs.Coordinator.{Undrawn}
use Rattle.alp_journal.specs.Messages.{ask_again, commit_again}
use Rattle.alp_journal.specs.Answers.{is_counted}
use Rattle.alp_coord.specs.declared.coordinator.Coordinator.{Coordinator}
use Rattle.alp_coord.specs.Coordinators.{fate_in, open_ids, asks_of, commits_of, counted_of}

abbrev pub has_trans : TransId → List TransId → Bool
has_trans t ts = list_any (λ u. same_trans u t) ts

-- each stands once
abbrev pub AreOnce : List TransId → Type 0
AreOnce [] = Unit {0}
AreOnce (t ∷ ts) = (has_trans t ts ≡ false) × AreOnce ts

-- these are all that were drawn or found, each once
pub record AreAll (s : Coordinator) (ts : List TransId) : Type 0 where
  pub once : AreOnce ts
  pub all : (t : TransId) → has_trans t ts ≡ false → fate_in s t ≡ Undrawn

-- what is said of those that are not settled is what is said of all, and so is how many count
pub record SaysAll (s : Coordinator) (ts : List TransId) : Type 0 where
  pub asks : IsPermutation (flat_map (λ t. ask_again t (fate_in s t)) ts) (asks_of s)
  pub commits : IsPermutation (flat_map (λ t. commit_again t (fate_in s t)) ts) (commits_of s)
  pub counted : length (filter (λ t. is_counted (fate_in s t)) ts) ≡ counted_of s
