-- The log of a run, by what its openings mean.
use Rattle.std.specs.Prelude.{ℕ}
use Rattle.alp_vault.specs.declared.vault.Vault.{Ghosts}
use Rattle.alp_journal.specs.declared.log.RunLog.{RunLog}
use Rattle.alp_journal.specs.declared.log.ServerLog.{ServerLog}
use Rattle.alp_journal.specs.declared.opening.Opening.{Ghosts as Meanings}
use Rattle.alp_journal.specs.Opening.{Start}
use Rattle.alp_node.specs.declared.opened.Opened.{Opened}
use Rattle.alp_history.specs.RunLogs as runs
use Rattle.alp_history.specs.Log as logs

-- the log of servers on vaults
abbrev pub Log : Type 0 → Type 0
Log V = RunLog (Opened V)

abbrev pub ServerOfLog : Type 0 → Type 0
ServerOfLog V = ServerLog (Opened V)

-- what an opening means: what its vault held, and the sizes that it had
abbrev pub openings : {V : Type 0} → Ghosts V → Meanings (Opened V)
openings G = record {
  cells = λ o. (G.held o.vault.value).cells;
  notes = λ o. (G.held o.vault.value).notes;
  sizes = λ o. G.volume o.vault.value;
}

-- what a server of a run of so many was started on
abbrev pub start_of : {V : Type 0} → Ghosts V → ℕ → ServerOfLog V → Start
start_of G servers x = runs.start_in (openings G) servers x

-- the log as the theorems read it
abbrev pub log_of : {V : Type 0} → Ghosts V → Log V → logs.Log
log_of G log = runs.log_of (openings G) log

abbrev pub lists_of : {V : Type 0} → Ghosts V → Log V → runs.Lists
lists_of G log = runs.lists_of (openings G) log
