use Rattle.std.specs.Prelude.{Ok, IsTrue}
use Rattle.std.specs.List.{filter_map}
use Rattle.std.proofs.Common.{◌≡◌, ℕ, take}
use Rattle.alp_base.specs.Crashes.{NoMore}
use Rattle.alp_cluster.specs.Servers.{HasGoneBy}
use Rattle.alp_top.proofs.OwnerLemmas.{at_name}
use Rattle.alp_top.proofs.owners.owner_records.Given as goal

abbrev pub invariant-loop-name : goal.invariant-loop-name
invariant-loop-name g l = record {
  found : IsTrue (g.V.Vault.tells l.fn.vault) → l.records.items ≡ filter_map (at_name (g.V.Vault.held l.fn.vault).cells) (take l.name-index l.name-items);
  gone : HasGoneBy {T = ℕ} g.V.Vault (λ (s : ℕ). s ≡ l.server) (Unit {0}) l.fn.vault l.vault (Ok 0);
  server : g.V.Vault.server l.vault ≡ l.server;
  held : g.V.Vault.held l.vault ≡ g.V.Vault.held l.fn.vault;
  crash : NoMore (g.V.Vault.may_leave l.fn.vault) (g.V.Vault.may_leave l.vault);
  allowance : g.V.Vault.allowance l.vault ≡ g.V.Vault.allowance l.fn.vault;
  serves : IsTrue (g.V.Vault.serves l.vault);
}
