-- one server at rest that is closed
use Rattle.std.specs.Prelude.{Bool, IsTrue, Option, Result, Ok, Err, OnOk}
use Rattle.std.proofs.Common.{◌≡◌, ℕ, ◌≤◌, List, refl, sym, ◌∙◌, ap, subst, arith}
use Rattle.alp_disk.specs.declared.disk.Disk.{Ghosts}
use Rattle.alp_node.specs.NodeStates.{NodeState}
use Rattle.alp_node.specs.Nodes.{IsConsistent}
use Rattle.alp_vault.specs.declared.vault.Vault.{Ghosts as VaultGhosts}
use Rattle.alp_cluster.specs.Servers.{HasGoneBy}
use Rattle.alp_cluster.specs.Station.{standing, HasVault}
use Rattle.alp_cluster.specs.Stations.{IsOfRun}
use Rattle.alp_cluster.specs.declared.fault.RunFault.{RunFault}
use Rattle.alp_cluster.specs.declared.station.Station.{Station}
use Rattle.alp_cluster.proofs.GoneLemmas.{gone_nothing}
use Rattle.alp_top.specs.Disks.{IsAtRest, IsElsewhere, GoesOn, IsGivenAt, IsClosedHere, IsStationPut}
use Rattle.alp_top.specs.Endings.{IsRestPut}
use Rattle.alp_top.specs.Looks.{HasLooked}
use Rattle.alp_top.specs.declared.finish.Rests.{Rests}
use Rattle.alp_top.proofs.CloseLemmas.{gone_elsewhere, gone_named, goes_named}
use Rattle.alp_top.proofs.GivenLemmas.{up_vault}
use Rattle.alp_top.proofs.SeveralLemmas.{one_node}

module _ {V D : Type 0} (G : VaultGhosts V) (g : Ghosts D) (tells : Bool) (servers server : ℕ) (before now : ℕ → Option D) (s : Station V) (rest : IsAtRest G tells server s) where
  pub here_is : G.server rest.node.kept.vault ≡ server
  here_is = rest.on.kept.number ∙ rest.number_is

  -- a fault of another one came before
  pub closed_over : (f : RunFault) (v : V) → HasVault s.server v → IsGivenAt G g tells before now server v → IsElsewhere {T = Unit {0}} servers server (Err f) → IsClosedHere {T = Unit {0}} G g tells servers before now (Err f) server s
  closed_over f v has given away = record {
    disk = given.device;
    is = record {
      node = rest.node;
      stands = rest.stands;
      here = here_is;
      kept = rest.on.kept;
      crash = λ c may. subst (λ (w : V). G.may_leave w c) (up_vault s.server rest.node v rest.stands has) may;
      vault = v;
      gone =
          gone_elsewhere G servers {T = Unit {0}} (Unit {0}) rest.node.kept.vault v tt f
          (subst (λ (w : V). HasGoneBy {T = Unit {0}} G (IsOfRun servers) (Unit {0}) rest.node.kept.vault w (Ok tt)) (sym (up_vault s.server rest.node v rest.stands has)) (gone_nothing G (IsOfRun servers) (Unit {0}) rest.node.kept.vault (Ok tt) tt tt refl))
          (subst (λ (n : ℕ). IsElsewhere {T = Unit {0}} servers n (Err f)) (sym here_is) away);
      held = tt;
      serves = tt;
      back = given.back;
      there = λ told. (given.filled told).here;
    };
    others = λ told k other. (given.filled told).others k other;
  }

  -- it is looked at
  module _ {T : Type 0} (n : NodeState V) (v : V) (r : Result T RunFault) (stands : s.server ≡ standing n) (gone : HasGoneBy G (λ (k : ℕ). k ≡ n.kept.server) (Unit {0}) n.kept.vault v r) (looked : HasLooked G n.kept.vault v r) where
    same : n ≡ rest.node
    same = one_node s.server n rest.node stands rest.stands

    number : n.kept.server ≡ server
    number = ap (λ (k : NodeState V). k.kept.server) same ∙ rest.number_is

    at : G.server n.kept.vault ≡ server
    at = ap (λ (k : NodeState V). G.server k.kept.vault) same ∙ here_is

    by_number : HasGoneBy G (λ (k : ℕ). k ≡ server) (Unit {0}) n.kept.vault v r
    by_number = subst (λ (m : ℕ). HasGoneBy G (λ (k : ℕ). k ≡ m) (Unit {0}) n.kept.vault v r) number gone

    pub closed_now : 1 ≤ server → server ≤ servers → IsGivenAt G g tells before now server v → IsClosedHere G g tells servers before now r server s
    closed_now first last given = record {
      disk = given.device;
      is = record {
        node = n;
        stands = stands;
        here = at;
        kept = subst (λ (k : NodeState V). IsConsistent G k) (sym same) rest.on.kept;
        crash = looked.crash;
        vault = v;
        gone = gone_named G servers server n.kept.vault v r (first, last) by_number;
        held = held_then r looked.held;
        serves = looked.serves;
        back = given.back;
        there = λ told. (given.filled told).here;
      };
      others = λ told k other. (given.filled told).others k other;
    }
      where
        held_then : (q : Result T RunFault) → G.held v ≡ G.held n.kept.vault → OnOk q (G.held v ≡ G.held n.kept.vault)
        held_then (Ok x) h = h
        held_then (Err f) h = tt

    pub goes_now : {U : Type 0} (x : U) → 1 ≤ server → server ≤ servers → GoesOn {T = U} servers server (Ok x) r
    goes_now x first last = goes_named G servers server n.kept.vault v x r (first, last) at by_number

-- what it did and holds comes in front of the others
pub station_put : {V T : Type 0} (G : VaultGhosts V) (s : Station V) (n : NodeState V) (r : Result T RunFault) (old new : Rests V) (rs : List ℕ) → s.server ≡ standing n → rs ≡ s.ranks.items → OnOk r (IsRestPut G n rs old new) → OnOk r (IsStationPut G s old new)
station_put G s n (Ok x) old new rs stands ranks h = record { node = n; stands = stands; put = subst (λ (xs : List ℕ). IsRestPut G n xs old new) ranks h }
station_put G s n (Err f) old new rs stands ranks h = tt
