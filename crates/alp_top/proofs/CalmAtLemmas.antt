-- a server that no entry of its journal stopped, from its start to its end
use Rattle.std.specs.Prelude.{slice_get, Option, Some}
use Rattle.std.proofs.Common.{◌≡◌, ℕ, ◌-◌, ◌∙◌, ap, subst}
use Rattle.alp_node.specs.NodeStates.{NodeState}
use Rattle.alp_vault.specs.declared.vault.Vault.{Ghosts}
use Rattle.alp_cluster.specs.Station.{standing}
use Rattle.alp_cluster.specs.Stations.{IsCalmSince, AreCalmSince, server_in, server_at}
use Rattle.alp_cluster.specs.declared.server.Server.{Server}
use Rattle.alp_cluster.specs.declared.station.Station.{Station}
use Rattle.alp_cluster.specs.declared.stations.Stations.{Stations}

pub calm_at : {V : Type 0} (G : Ghosts V) (first now : Stations V) → AreCalmSince G first now → (n : ℕ) (a b : Station V) (x : NodeState V) (o : Option (Server V)) → slice_get first.all.items (n - 1) ≡ Some a → a.server ≡ standing x
    → slice_get now.all.items (n - 1) ≡ Some b → b.server ≡ o → IsCalmSince G (standing x) o
calm_at {V} G first now calm n a b x o at was there is =
    subst (λ (p : Option (Server V)). IsCalmSince G p o) (ap server_in at ∙ was) (subst (λ (p : Option (Server V)). IsCalmSince G (server_at first n) p) (ap server_in there ∙ is) (calm n))
