-- servers that are started one after the other
use Rattle.std.specs.Prelude.{Bool, IsTrue, slice_get, Option, Some, Result}
use Rattle.std.proofs.Common.{◌≡◌, ℕ, zero, suc, ◌+◌, ◌<◌, ◌≤◌, List, [], ◌∷◌, ◌++◌, length, length-append, refl, sym, ◌∙◌, ap, subst, arith}
use Rattle.alp_disk.specs.declared.disk.Disk.{Ghosts}
use Rattle.alp_bay.specs.Bays.{IsTaken}
use Rattle.alp_course.specs.Courses.{IsOneOf}
use Rattle.alp_node.specs.NodeStates.{NodeState}
use Rattle.alp_script.specs.Accepted.{servers_said}
use Rattle.alp_script.specs.Volumes.{sizes_said}
use Rattle.alp_script.specs.declared.numbered.NumberedLine.{NumberedLine}
use Rattle.alp_vault.specs.declared.vault.Vault.{Ghosts as VaultGhosts}
use Rattle.alp_cluster.specs.Gathered.{AreStationsOf, AreGathered, AreNew}
use Rattle.alp_cluster.specs.Station.{standing, HasVault}
use Rattle.alp_cluster.specs.declared.cluster.Cluster.{Cluster}
use Rattle.alp_cluster.specs.declared.server.Server.{Server}
use Rattle.alp_cluster.specs.declared.station.Station.{Station}
use Rattle.alp_top.specs.Disks.{IsBegunAt, AreBegun, IsBegunHere, IsRefusedHere, HasAdded, HaveBegun, HaveBegunSome, IsHeld, AreHeld}
use Rattle.alp_top.specs.Pairs.{ArePaired}
use Rattle.alp_top.specs.Volumes.{pages_of}
use Rattle.alp_top.specs.declared.fault.NoReport.{NoReport}
use Rattle.alp_top.proofs.PairLemmas.{paired_push}

module _ {V D : Type 0} (G : VaultGhosts V) (g : Ghosts D) (tells : Bool) (lines : List NumberedLine) where
  pub begun_none : (before : ℕ → Option D) (c : Cluster V) → AreGathered [] c.parties c.lists.items c.text.items → HaveBegun G g tells lines 0 before before c
  begun_none before c none = record { nodes = []; disks = []; many = refl; gathered = none; begun = tt; others = λ told n out. refl }

  -- one more
  pub begun_more : (k : ℕ) (before mid now : ℕ → Option D) (t : Bool) (old new : Cluster V) → t ≡ tells → HaveBegun G g tells lines k before mid old → HasAdded G g t lines mid now (k + 1) old new → HaveBegun G g tells lines (k + 1) before now new
  begun_more k before mid now t old new same_tells h added =
      let a : HasAdded G g tells lines mid now (k + 1) old new = subst (λ (b : Bool). HasAdded G g b lines mid now (k + 1) old new) same_tells added in
      let out : IsOneOf k (k + 1) → ⊥ = (λ here. let high : k + 1 ≤ k = here.last in omega (arith, high)) in
      let place : k + 1 ≡ 1 + length h.nodes = (let many : length h.nodes ≡ k = h.many in omega (arith, many)) in
      record {
        nodes = h.nodes ++ a.node ∷ [];
        disks = h.disks ++ a.begun.disk ∷ [];
        many = length-append h.nodes (a.node ∷ []) ∙ ap (λ (n : ℕ). n + 1) h.many;
        gathered = a.added h.nodes h.gathered;
        begun =
            paired_push (IsBegunAt G g tells lines before) 1 h.nodes h.disks a.node a.begun.disk h.begun
            (subst (λ (m : ℕ). IsBegunAt G g tells lines before m a.node a.begun.disk) place (record {
              started = a.begun.is.started;
              told = a.begun.is.told;
              was = λ told. subst (λ (o : Option D). IsTaken g o (pages_of (sizes_said lines (k + 1))) a.begun.disk) (h.others told (k + 1) out) (a.begun.is.was told);
            }));
        others = λ told n away.
            a.begun.others told n (λ same. away (record { first = omega (arith, same); last = omega (arith, same) }))
            ∙ h.others told n (λ here. away (record { first = here.first; last = (let high : n ≤ k = here.last in omega (arith, high)) }));
      }

  -- the next one was not
  pub begun_some : (k : ℕ) (before mid now : ℕ → Option D) (bay_before bay_mid bay_now : ℕ) (t : Bool) (f : NoReport) (old new : Cluster V) → t ≡ tells → bay_mid ≡ bay_before → k < servers_said lines → new.parties.stations.all.items ≡ old.parties.stations.all.items
      → HaveBegun G g tells lines k before mid old → IsRefusedHere g t lines (k + 1) mid now bay_mid bay_now f → HaveBegunSome G g tells lines before now bay_before bay_now f new
  begun_some k before mid now bay_before bay_mid bay_now t f old new same_tells same_faults few still h refused = record {
    count = k;
    few = few;
    nodes = h.nodes;
    disks = h.disks;
    many = h.many;
    stand = subst (AreStationsOf h.nodes) (sym still) h.gathered.stations;
    begun = h.begun;
    mid = mid;
    same = h.others;
    next_one =
        subst (λ (b : Bool). IsRefusedHere g b lines (k + 1) mid now bay_before bay_now f) same_tells
        (subst (λ (m : ℕ). IsRefusedHere g t lines (k + 1) mid now m bay_now f) same_faults refused);
  }

  -- ---- what they are then

  -- they did nothing yet
  pub new_of : (before : ℕ → Option D) (number : ℕ) (ns : List (NodeState V)) (ds : List D) → AreBegun G g tells lines before number ns ds → AreNew G (servers_said lines) number ns
  new_of before number [] [] h = tt
  new_of before number [] (d ∷ ds) h = absurd h
  new_of before number (n ∷ ns) [] h = absurd h
  new_of before number (n ∷ ns) (d ∷ ds) h = (let b : IsBegunAt G g tells lines before number n d = h.0 in (b.started.on, b.started.idle, b.started.number, b.started.count, new_of before (number + 1) ns ds h.1))

  -- and each has its vault
  pub held_of_begun : (before : ℕ → Option D) (number : ℕ) (ns : List (NodeState V)) (ds : List D) (xs : List (Station V)) → AreStationsOf ns xs → AreBegun G g tells lines before number ns ds → AreHeld G tells xs
  held_of_begun before number [] [] [] stand h = tt
  held_of_begun before number [] [] (x ∷ xs) stand h = absurd stand
  held_of_begun before number [] (d ∷ ds) xs stand h = absurd h
  held_of_begun before number (n ∷ ns) [] xs stand h = absurd h
  held_of_begun before number (n ∷ ns) (d ∷ ds) [] stand h = absurd stand
  held_of_begun before number (n ∷ ns) (d ∷ ds) (x ∷ xs) stand h =
      let b : IsBegunAt G g tells lines before number n d = h.0 in (
        record {
          vault = n.kept.vault;
          its = subst (λ (o : Option (Server V)). HasVault o n.kept.vault) (sym stand.0) refl;
          told = λ told. subst IsTrue (sym b.started.telling) (b.told told);
        },
        held_of_begun before (number + 1) ns ds xs stand.3 h.1,
      )

-- what holds at each place holds of all
pub held_each : {V : Type 0} (G : VaultGhosts V) (tells : Bool) (xs : List (Station V)) → ((i : ℕ) (x : Station V) → slice_get xs i ≡ Some x → IsHeld G tells x) → AreHeld G tells xs
held_each G tells [] f = tt
held_each G tells (x ∷ xs) f = (f 0 x refl, held_each G tells xs (λ i y at. f (suc i) y at))
