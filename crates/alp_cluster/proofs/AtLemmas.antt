-- The server at a place of a run.
use Rattle.std.specs.Prelude.{slice_get, Some, Result, Ok, Err, OnOk}
use Rattle.std.proofs.Common.{◌≡◌, ℕ, ◌-◌, ◌<◌, ◌≤◌, length, get_or, sym, ◌∙◌, ap, arith}
use Rattle.alp_node.specs.NodeStates.{NodeState}
use Rattle.alp_vault.specs.declared.vault.Vault.{Ghosts}
use Rattle.alp_cluster.specs.Station.{standing, Keeps}
use Rattle.alp_cluster.specs.Stations.{AreOn, IsManned, IsOneOf}
use Rattle.alp_cluster.specs.declared.station.Station.{Station}
use Rattle.alp_cluster.specs.declared.stations.Stations.{Stations}
use Rattle.alp_cluster.proofs.StationsLemmas.{read_some, its}

pub at_there : {V : Type 0} (s : Stations V) (server : ℕ) (here : IsOneOf s server) (x : Station V) → x ≡ get_or s.all.items (server - 1) x → slice_get s.all.items (server - 1) ≡ Some x
at_there s server here x is = read_some s.all.items (server - 1) x (let some : 1 ≤ server = here.first in let last : server ≤ length s.all.items = here.last in omega (arith, some, last)) (sym is)

pub at_keeps : {V : Type 0} (G : Ghosts V) (s : Stations V) (on : AreOn G s) (server : ℕ) (here : IsOneOf s server) (x : Station V) → x ≡ get_or s.all.items (server - 1) x → (n : NodeState V) × Keeps G x n
at_keeps G s on server here x is = (let mine : IsManned G (length s.all.items) server x = its G s on server here x (at_there s server here x is) in (mine.node, mine.keeps))

pub ok_both : {T E : Type 0} (A B : Type 0) (r : Result T E) → OnOk r A → OnOk r B → OnOk r (A × B)
ok_both A B (Ok x) h k = (h, k)
ok_both A B (Err e) h k = tt

pub at_number : {V : Type 0} (G : Ghosts V) (s : Stations V) (on : AreOn G s) (server : ℕ) (here : IsOneOf s server) (x : Station V) → slice_get s.all.items (server - 1) ≡ Some x → (n : NodeState V) → Keeps G x n → n.kept.server ≡ server
at_number {V = V} G s on server here x there n keeps =
    let mine : IsManned G (length s.all.items) server x = its G s on server here x there in
    let both : standing mine.node ≡ standing n = sym mine.keeps.stands ∙ keeps.stands in
    let same : mine.node ≡ n = cc in
    ap (λ (k : NodeState V). k.kept.server) (sym same) ∙ mine.number_is
