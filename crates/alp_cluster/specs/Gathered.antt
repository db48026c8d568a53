-- Servers that did nothing yet, gathered for a run.
use Rattle.std.specs.Prelude.{◌≡◌, ◌≤◌, ℕ, ◌+◌, false, List, [], ◌∷◌, length, Vec}
use Rattle.std.specs.Global.{Global}
use Rattle.std.specs.List.{AllByRecursion}
use Rattle.alp_base.specs.declared.allowance.Allowance.TheVariants.{Free}
use Rattle.alp_journal.specs.declared.log.Item.{Item}
use Rattle.alp_node.specs.NodeStates.{NodeState}
use Rattle.alp_posts.specs.Posts.{IsTable, IsUntaken, Fits}
use Rattle.alp_session.specs.Crowds.{new_crowd}
use Rattle.alp_vault.specs.declared.vault.Vault.{Ghosts}
use Rattle.alp_cluster.specs.Servers.{IsOn, IsIdle}
use Rattle.alp_cluster.specs.Station.{standing}
use Rattle.alp_cluster.specs.declared.parties.Parties.{Parties}
use Rattle.alp_cluster.specs.declared.station.Station.{Station}

-- these servers stand there, without ranks, and no line stops their disks
abbrev pub AreStationsOf : {V : Type 0} → List (NodeState V) → List (Station V) → Type 0
AreStationsOf [] [] = Unit {0}
AreStationsOf (n ∷ ns) (x ∷ xs) = (x.server ≡ standing n) × (x.ranks.items ≡ []) × (x.is_fused ≡ false) × AreStationsOf ns xs
AreStationsOf [] (x ∷ xs) = ⊥
AreStationsOf (n ∷ ns) [] = ⊥

-- these servers are the parties of a run, with clients that were told nothing; nothing was sent and nothing is printed
pub record AreGathered {V : Type 0} (ns : List (NodeState V)) (p : Parties V) (vs : List (Vec Item Global)) (printed : List ℕ) : Type 0 where
  pub stations : AreStationsOf ns p.stations.all.items
  pub clients : p.clients ≡ new_crowd
  pub untaken : IsUntaken p.stations.posts
  pub table : IsTable p.stations.posts
  pub many : length vs ≡ 17
  pub empty : AllByRecursion (λ (x : Vec Item Global). x.items ≡ []) vs
  pub blank : printed ≡ []

-- the servers of a run of so many, the first of which has this number: none did anything yet
abbrev pub AreNew : {V : Type 0} → Ghosts V → (servers number : ℕ) → List (NodeState V) → Type 0
AreNew G servers number [] = Unit {0}
AreNew G servers number (n ∷ ns) = IsOn G n × IsIdle G n × (n.kept.server ≡ number) × (n.kept.servers ≡ servers) × AreNew G servers (number + 1) ns
