use Rattle.std.proofs.Common.{◌≡◌, ◌+◌, ◌-◌, ◌++◌, length, IsTrue}
use Rattle.std.specs.FinMap as map
use Rattle.std.specs.Prelude.{None}
use Rattle.alp_files.specs.Cells.{pages_at}
use Rattle.alp_files.specs.Needs.{through}
use Rattle.alp_calls.specs.Looks.{Looks}
use Rattle.alp_calls.proofs.look.pages_of.Given as goal

abbrev pub invariant-loop-i : goal.invariant-loop-i
invariant-loop-i g l =
    Looks g.V.Vault l.initial.vault l.vault None
    × (IsTrue (g.V.Vault.tells l.initial.vault)
    → l.pages.items ++ pages_at (through l.intents (map.get (g.V.Vault.held l.initial.vault).cells)) l.file (l.run.first + l.i) (l.run.count - l.i)
    ≡ pages_at (through l.intents (map.get (g.V.Vault.held l.initial.vault).cells)) l.file l.run.first l.run.count)
    × (length l.pages.items ≡ l.i)
