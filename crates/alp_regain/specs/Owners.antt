-- Of which servers ready parts and decisions are.
use Rattle.std.specs.Prelude.{◌≡◌, ◌≤◌, ℕ, true, List, length, map as list_map}
use Rattle.std.specs.List.{list_all, AllByRecursion}
use Rattle.alp_base.specs.declared.ids.JoinNo.{JoinNo}
use Rattle.alp_vault.specs.Volumes.{is_another}
use Rattle.alp_journal.specs.Opening.{ReadyNote, DecisionNote}

abbrev pub joins_of : List ReadyNote → List JoinNo
joins_of ns = list_map (λ (n : ReadyNote). n.join) ns

-- a part on this server, of a transaction of another server of the run
pub record IsReadyHere (server servers : ℕ) (n : ReadyNote) : Type 0 where
  pub here : n.join.server ≡ server
  pub elsewhere : is_another server servers n.trans.server ≡ true

abbrev pub AreReadyHere : (server servers : ℕ) → List ReadyNote → Type 0
AreReadyHere server servers ns = AllByRecursion (IsReadyHere server servers) ns

-- a transaction of this server, with at least one part, and parts on other servers of the run alone
pub record IsDecidedHere (server servers : ℕ) (d : DecisionNote) : Type 0 where
  pub here : d.stamp.trans.server ≡ server
  pub some : 1 ≤ length d.joins
  pub elsewhere : list_all (λ (j : JoinNo). is_another server servers j.server) d.joins ≡ true

abbrev pub AreDecidedHere : (server servers : ℕ) → List DecisionNote → Type 0
AreDecidedHere server servers ds = AllByRecursion (IsDecidedHere server servers) ds
