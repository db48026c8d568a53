-- A server of a run is handed the frame of a client.
use Rattle.std.specs.Prelude.{◌≡◌, ℕ, List, [], ◌∷◌, Some}
use Rattle.alp_fields.specs.Forms.{whole}
use Rattle.alp_journal.specs.declared.log.Item.{Item}
use Rattle.alp_journal.specs.declared.log.Mark.{Mark}
use Rattle.alp_node.specs.NodeStates.{NodeState}
use Rattle.alp_rpc.specs.Frames.{request}
use Rattle.alp_vault.specs.declared.vault.Vault.{Ghosts}
use Rattle.alp_course.specs.Courses.{at}
use Rattle.alp_course.specs.Happens.{sent_it}
use Rattle.alp_cluster.specs.Exchanges.{IsHanded}
use Rattle.alp_cluster.specs.Servers.{IsOn}
use Rattle.alp_cluster.specs.Goes.{IsLater}
use Rattle.alp_cluster.specs.Stations.{Go, state_at}
use Rattle.alp_cluster.specs.declared.exchange.Handed.{Handed}
use Rattle.alp_cluster.specs.declared.stations.Stations.{Stations}

-- the item that it makes, of a line with that number and mark
abbrev pub item_made : (line server : ℕ) → Mark → Handed → Item
item_made line server w h = record { line = line; server = server; mark = w; sent = h.sent; reply = h.reply; place = h.place }

-- The server took the bytes of the frame, and this is what came of it; all other servers keep what they kept.
pub record AreHanded {V : Type 0} (G : Ghosts V) (server client : ℕ) (frame : List ℕ) (h : Handed) (before after : Stations V) : Type 0 where
  pub was : NodeState V
  pub is : NodeState V
  pub stood : state_at before server ≡ Some was.kept
  pub stands : state_at after server ≡ Some is.kept
  pub number : was.kept.server ≡ server
  pub on : IsOn G was
  pub later : IsLater G was is
  pub handed : IsHanded G was is client frame (whole request frame) h
  pub goes : (line : ℕ) (w : Mark) → Go G (at server (sent_it client (item_made line server w h)) ∷ []) before after
