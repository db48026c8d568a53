-- How a server goes on by what happens at it.
use Rattle.std.specs.Prelude.{◌≡◌, ℕ, Bool, List, [], ◌++◌, Option, None, Some}
use Rattle.alp_journal.specs.declared.entry.Entry.{Entry}
use Rattle.alp_node.specs.NodeStates.{NodeState}
use Rattle.alp_node.specs.Nodes.{start_in}
use Rattle.alp_node.specs.declared.opened.Opened.{Opened}
use Rattle.alp_vault.specs.declared.vault.Vault.{Ghosts}
use Rattle.alp_course.specs.Happens.{Stand}
use Rattle.alp_cluster.specs.Come.{Come, IsReached}
use Rattle.alp_cluster.specs.Servers.{IsOn, IsFree, AreCalm, stand_of}
use Rattle.alp_cluster.specs.declared.server.Server.{Server}
use Rattle.alp_cluster.specs.declared.server.Server.TheVariants.{Up, Fallen}

-- ---- what it was opened on, and its journal

abbrev pub opening_in : {V : Type 0} → Option (Server V) → Option (Opened V)
opening_in (Some (Up n)) = Some n.opening
opening_in (Some (Fallen d)) = Some d.opening
opening_in None = None

abbrev pub journal_in : {V : Type 0} → Option (Server V) → List Entry
journal_in (Some (Up n)) = n.journal
journal_in (Some (Fallen d)) = d.journal
journal_in None = []

-- ---- one that stands

-- It is the same server, opened on the same, and what calls it had come to it has come to still. Where no entry of its journal stopped it, none
-- did before, and its count of faults stayed.
pub record IsLater {V : Type 0} (G : Ghosts V) (before after : NodeState V) : Type 0 where
  pub on : IsOn G after
  pub number : after.kept.server ≡ before.kept.server
  pub count : after.kept.servers ≡ before.kept.servers
  pub opening : after.opening ≡ before.opening
  pub start : start_in G after ≡ start_in G before
  pub telling : G.tells after.kept.vault ≡ G.tells before.kept.vault
  pub reached : (k : ℕ) (a : Come) → IsReached before.kept k a → IsReached after.kept k a
  pub calm : AreCalm after.journal → AreCalm before.journal × (G.faults after.kept.vault ≡ G.faults before.kept.vault)

-- These are its further entries, and they are made so. Its disk may be stopped before and after, or not.
pub record GoesBy {V : Type 0} (G : Ghosts V) (before_fused after_fused : Bool) (Makes : Stand → List Entry → Stand → Type 0) (before after : NodeState V) : Type 0 where
  pub later : IsLater G before after
  pub free : IsFree G after_fused after
  pub entries : List Entry
  pub journal : after.journal ≡ before.journal ++ entries
  pub made : Makes (stand_of G before_fused before) entries (stand_of G after_fused after)
