-- what a run leaves of the disk of each server
use Rattle.std.specs.Prelude.{Bool, IsTrue, slice_get, Option, Some, Result, Ok, Err, OnOk}
use Rattle.std.proofs.Common.{◌⊎◌, ◌≡◌, ◌≢◌, ℕ, ◌+◌, ◌-◌, ◌<◌, ◌≤◌, List, [], ◌∷◌, length, refl, sym, ◌∙◌, ap, subst, arith}
use Rattle.alp_base.specs.Causes.{Rose}
use Rattle.alp_base.specs.Crashes.{NoMore}
use Rattle.alp_base.specs.declared.allowance.Allowance.TheVariants.{Free}
use Rattle.alp_base.specs.declared.faults.VaultFault.TheVariants as vault_fault
use Rattle.alp_course.specs.Courses.{IsOneOf}
use Rattle.alp_disk.specs.declared.disk.Disk.{Ghosts}
use Rattle.alp_node.specs.NodeStates.{NodeState}
use Rattle.alp_node.specs.Nodes.{IsConsistent}
use Rattle.alp_node.specs.declared.start.StartFault.TheVariants as start_fault
use Rattle.alp_script.specs.Accepted.{servers_said}
use Rattle.alp_script.specs.declared.numbered.NumberedLine.{NumberedLine}
use Rattle.alp_vault.specs.declared.vault.Vault.{Ghosts as VaultGhosts}
use Rattle.alp_cluster.specs.Gathered.{AreStationsOf}
use Rattle.alp_cluster.specs.Runs.{StopNone}
use Rattle.alp_cluster.specs.Servers.{HasGoneBy, IsFailure, IsToldFault, AreCounted, AreCountedIn}
use Rattle.alp_cluster.specs.Station.{standing, HasVault}
use Rattle.alp_cluster.specs.Stations.{IsOfRun, HaveGone}
use Rattle.alp_cluster.specs.declared.fault.RunFault.{RunFault}
use Rattle.alp_cluster.specs.declared.fault.RunFault.TheVariants as run_fault
use Rattle.alp_cluster.specs.declared.station.Station.{Station}
use Rattle.alp_cluster.specs.declared.stations.Stations.{Stations}
use Rattle.alp_cluster.proofs.GoneLemmas.{gone_then}
use Rattle.alp_top.specs.Disks.{IsBegunAt, AreBegun, AreOthersSame, IsGiven, IsServerRight, IsLeftAt, AreLeftBy, IsClosedAt, AreClosed}
use Rattle.alp_top.specs.Faults.{played}
use Rattle.alp_top.specs.Volumes.{pages_of, AreReturned, IsOfServers}
use Rattle.alp_top.specs.declared.fault.NoReport.TheVariants as fault
use Rattle.alp_top.proofs.GivenLemmas.{one_vault, up_vault, station_at, stations_many}
use Rattle.alp_top.proofs.PairLemmas.{HasPair, paired_at, same_there}

-- ---- one server

-- It was started on a disk; then that came of its vault, which is given back.
pub record IsGoneAt {V D T : Type 0} (G : VaultGhosts V) (g : Ghosts D) (tells : Bool) (lines : List NumberedLine) (before after : ℕ → Option D) (first now : Stations V) (r : Result T RunFault) (n : ℕ) : Type 0 where
  pub node : NodeState V
  pub taken : D
  pub begun : IsBegunAt G g tells lines before n node taken
  pub station : Station V
  pub stood : slice_get first.all.items (n - 1) ≡ Some station
  pub was : station.server ≡ standing node
  pub left : Station V
  pub stands : slice_get now.all.items (n - 1) ≡ Some left
  pub vault : V
  pub gone : HasGoneBy G (IsOfRun (servers_said lines)) (StopNone lines) node.kept.vault vault r
  pub given : D
  pub back : IsGiven G g vault given
  pub there : IsTrue tells → after n ≡ Some given

-- It is left as it was.
pub record IsLeftSo {V D T : Type 0} (G : VaultGhosts V) (g : Ghosts D) (tells : Bool) (lines : List NumberedLine) (before after : ℕ → Option D) (first now : Stations V) (r : Result T RunFault) (n : ℕ) : Type 0 where
  pub at : IsGoneAt G g tells lines before after first now r n
  pub its : HasVault at.left.server at.vault
  pub known : IsServerRight G at.left.server

-- It was at rest, and was closed. Where nobody stops it then, its count of faults stayed.
pub record IsDoneAt {V D T : Type 0} (G : VaultGhosts V) (g : Ghosts D) (tells : Bool) (lines : List NumberedLine) (before after : ℕ → Option D) (first now : Stations V) (r : Result T RunFault) (n : ℕ) : Type 0 where
  pub at : IsGoneAt G g tells lines before after first now r n
  pub rest : NodeState V
  pub rests : at.left.server ≡ standing rest
  pub held : OnOk r (G.held at.vault ≡ G.held rest.kept.vault)
  pub serves : OnOk r (IsTrue (G.serves at.vault))
  pub still : OnOk r (G.allowance rest.kept.vault ≡ Free → G.faults at.vault ≡ G.faults rest.kept.vault)
  pub telling : G.tells rest.kept.vault ≡ G.tells at.node.kept.vault
  pub kept : IsConsistent G rest
  pub crash : NoMore (G.may_leave rest.kept.vault) (G.may_leave at.vault)
  pub looked : G.allowance rest.kept.vault ≡ Free → AreCountedIn (G.server rest.kept.vault) r (G.faults rest.kept.vault) (G.faults at.vault)

ok_counted : {U : Type 0} (F : Type 0) (here before now : ℕ) (q : Result U RunFault) → (F → AreCountedIn here q before now) → OnOk q (F → now ≡ before)
ok_counted F here before now (Ok x) h = h
ok_counted F here before now (Err f) h = tt

module _ {V D : Type 0} (G : VaultGhosts V) (g : Ghosts D) (tells : Bool) (lines : List NumberedLine) (before mid after : ℕ → Option D) (ns : List (NodeState V)) (ds : List D) (first now : Stations V) (stand : AreStationsOf ns first.all.items) (many : length ns ≡ servers_said lines)
    (begun : AreBegun G g tells lines before 1 ns ds) (same : IsTrue tells → AreOthersSame (servers_said lines) before mid) where
  first_many : length first.all.items ≡ servers_said lines
  first_many = stations_many ns first.all.items stand ∙ many

  module _ {T : Type 0} (r : Result T RunFault) (gone : HaveGone G (StopNone lines) first now r) where
    now_many : length now.all.items ≡ servers_said lines
    now_many = gone.many ∙ first_many

    pub others_same : IsTrue tells → AreOthersSame (length now.all.items) mid after → AreOthersSame (servers_said lines) before after
    others_same told others n out = others n (λ here. out (subst (λ (m : ℕ). IsOneOf m n) now_many here)) ∙ same told n out

    -- the run ended, and all was left as it was
    pub left_at : (left : AreLeftBy G g tells now.all.items mid after) (n : ℕ) → IsOneOf (servers_said lines) n → IsLeftSo G g tells lines before after first now r n
    left_at left n here =
        let low : 1 ≤ n = here.first in
        let less : n - 1 < length ns = (let high : n ≤ servers_said lines = here.last in omega (arith, low, high, many)) in
        let number : 1 + (n - 1) ≡ n = omega (arith, low) in
        let p : HasPair (IsBegunAt G g tells lines before) 1 (n - 1) ns ds = paired_at (IsBegunAt G g tells lines before) 1 (n - 1) ns ds begun less in
        let (x, at, stands) = station_at ns first.all.items (n - 1) p.one stand p.at_one in
        let l = gone.each (n - 1) x p.one at stands in
        let q : HasPair (IsLeftAt G g tells after) 1 (n - 1) now.all.items left.disks = paired_at (IsLeftAt G g tells after) 1 (n - 1) now.all.items left.disks left.each (omega (arith, less, many, now_many)) in
        let y : IsLeftAt G g tells after n q.one q.two = subst (λ (m : ℕ). IsLeftAt G g tells after m q.one q.two) number q.both in
        let one : q.one ≡ l.station = same_there (slice_get now.all.items (n - 1)) q.one l.station q.at_one l.there in
        let v : l.vault ≡ y.vault = one_vault q.one.server l.vault y.vault (subst (λ (s : Station V). HasVault s.server l.vault) (sym one) l.its) y.its in
        record {
          at = record {
            node = p.one;
            taken = p.two;
            begun = subst (λ (m : ℕ). IsBegunAt G g tells lines before m p.one p.two) number p.both;
            station = x;
            stood = at;
            was = stands;
            left = q.one;
            stands = q.at_one;
            vault = y.vault;
            gone = subst (λ (w : V). HasGoneBy G (IsOfRun (servers_said lines)) (StopNone lines) p.one.kept.vault w r) v (subst (λ (m : ℕ). HasGoneBy G (IsOfRun m) (StopNone lines) p.one.kept.vault l.vault r) first_many l.gone);
            given = q.two;
            back = y.back;
            there = y.there;
          };
          its = y.its;
          known = y.known;
        }

  -- all was played, and then the servers were closed
  module _ {T U : Type 0} (x : T) (q : Result U RunFault) (gone : HaveGone G (StopNone lines) first now (Ok x)) where
    pub done_at : (closed : AreClosed G g tells (length now.all.items) now.all.items mid after q) (n : ℕ) → IsOneOf (servers_said lines) n → IsDoneAt G g tells lines before after first now q n
    done_at closed n here =
        let low : 1 ≤ n = here.first in
        let less : n - 1 < length ns = (let high : n ≤ servers_said lines = here.last in omega (arith, low, high, many)) in
        let number : 1 + (n - 1) ≡ n = omega (arith, low) in
        let p : HasPair (IsBegunAt G g tells lines before) 1 (n - 1) ns ds = paired_at (IsBegunAt G g tells lines before) 1 (n - 1) ns ds begun less in
        let (s, at, stands) = station_at ns first.all.items (n - 1) p.one stand p.at_one in
        let l = gone.each (n - 1) s p.one at stands in
        let c : HasPair (IsClosedAt G g tells (length now.all.items) after q) 1 (n - 1) now.all.items closed.disks = paired_at (IsClosedAt G g tells (length now.all.items) after q) 1 (n - 1) now.all.items closed.disks closed.each (let now_many : length now.all.items ≡ servers_said lines = gone.many ∙ first_many in omega (arith, less, many, now_many)) in
        let y : IsClosedAt G g tells (length now.all.items) after q n c.one c.two = subst (λ (m : ℕ). IsClosedAt G g tells (length now.all.items) after q m c.one c.two) number c.both in
        let one : c.one ≡ l.station = same_there (slice_get now.all.items (n - 1)) c.one l.station c.at_one l.there in
        let v : l.vault ≡ y.node.kept.vault = up_vault c.one.server y.node l.vault y.stands (subst (λ (z : Station V). HasVault z.server l.vault) (sym one) l.its) in
        let first_gone : HasGoneBy {T = T} G (IsOfRun (servers_said lines)) (StopNone lines) p.one.kept.vault y.node.kept.vault (Ok x) =
        subst (λ (w : V). HasGoneBy {T = T} G (IsOfRun (servers_said lines)) (StopNone lines) p.one.kept.vault w (Ok x)) v (subst (λ (m : ℕ). HasGoneBy {T = T} G (IsOfRun m) (StopNone lines) p.one.kept.vault l.vault (Ok x)) first_many l.gone) in
        record {
          at = record {
            node = p.one;
            taken = p.two;
            begun = subst (λ (m : ℕ). IsBegunAt G g tells lines before m p.one p.two) number p.both;
            station = s;
            stood = at;
            was = stands;
            left = c.one;
            stands = c.at_one;
            vault = y.vault;
            gone = gone_then G (IsOfRun (servers_said lines)) (StopNone lines) (Unit {0}) (StopNone lines) p.one.kept.vault y.node.kept.vault y.vault x q (λ none. none) (λ none. tt) first_gone
                (subst (λ (m : ℕ). HasGoneBy G (IsOfRun m) (Unit {0}) y.node.kept.vault y.vault q) (gone.many ∙ first_many) y.gone);
            given = c.two;
            back = y.back;
            there = y.there;
          };
          rest = y.node;
          rests = y.stands;
          held = y.held;
          serves = y.serves;
          still = ok_counted (G.allowance y.node.kept.vault ≡ Free) (G.server y.node.kept.vault) (G.faults y.node.kept.vault) (G.faults y.vault) q (λ free. y.gone.counted tt free);
          telling = first_gone.same.telling;
          kept = y.kept;
          crash = y.crash;
          looked = λ free. y.gone.counted tt free;
        }

-- ---- why a run was not played to its end

-- each disk is given back, however it ended
pub returned_ok : {V D T : Type 0} (G : VaultGhosts V) (g : Ghosts D) (tells : Bool) (told : IsTrue tells) (lines : List NumberedLine) (before after : ℕ → Option D) (first now : Stations V) (r : Result T RunFault) → AreOthersSame (servers_said lines) before after
    → (at : (n : ℕ) → IsOneOf (servers_said lines) n → IsGoneAt {T = T} G g tells lines before after first now r n) (P : ℕ → D → D → Type 0) → ((n : ℕ) (here : IsOneOf (servers_said lines) n) → P n (at n here).taken (at n here).given) → AreReturned g lines (servers_said lines) before after P
returned_ok G g tells told lines before after first now r others at P make = record {
  each = λ n here.
      let x = at n here in
      record {
        taken = x.taken;
        from_there = x.begun.was told;
        given = x.given;
        there = x.there told;
        size = x.back.sized ∙ ap pages_of x.gone.same.sizes ∙ sym x.begun.started.sized;
        later = (let a : G.faults x.node.kept.vault ≡ g.faults x.taken = x.begun.started.faults in let b : g.faults x.given ≡ G.faults x.vault = x.back.faults in omega (arith, a, b, x.gone.later));
        left = make n here;
      };
  others = others;
}

module _ {V D : Type 0} (G : VaultGhosts V) (g : Ghosts D) (tells : Bool) (lines : List NumberedLine) (before after : ℕ → Option D) (first now : Stations V) (T : Type 0) (f : RunFault) (some : 1 ≤ servers_said lines)
    (at : (n : ℕ) → IsOneOf (servers_said lines) n → IsGoneAt {T = T} G g tells lines before after first now (Err f) n) where
  -- the number of its vault
  here_is : (n : ℕ) (here : IsOneOf (servers_said lines) n) → G.server (at n here).node.kept.vault ≡ n
  here_is n here = (let x = at n here in x.begun.started.on.kept.number ∙ x.begun.started.number)

  pub failed : (n : ℕ) (here : IsOneOf (servers_said lines) n) → IsFailure {T = T} (IsOfRun (servers_said lines)) n (Err f) (G.faults (at n here).node.kept.vault) (G.faults (at n here).vault)
  failed n here = subst (λ (m : ℕ). IsFailure {T = T} (IsOfRun (servers_said lines)) m (Err f) (G.faults (at n here).node.kept.vault) (G.faults (at n here).vault)) (here_is n here) (at n here).gone.failed

  pub counted : StopNone lines → (n : ℕ) (here : IsOneOf (servers_said lines) n) → AreCounted n f (G.faults (at n here).node.kept.vault) (G.faults (at n here).vault)
  counted none n here =
      subst (λ (m : ℕ). AreCounted m f (G.faults (at n here).node.kept.vault) (G.faults (at n here).vault)) (here_is n here) ((at n here).gone.counted none (at n here).begun.started.idle.free)

  pub rose_for : (n : ℕ) (here : IsOneOf (servers_said lines) n) → Rose (G.faults (at n here).node.kept.vault) (G.faults (at n here).vault) → Rose (g.faults (at n here).taken) (g.faults (at n here).given)
  rose_for n here rose = (let x = at n here in subst (λ (m : ℕ). Rose m (g.faults x.given)) x.begun.started.faults (subst (λ (m : ℕ). Rose (G.faults x.node.kept.vault) m) (sym x.back.faults) rose))

  pub same_for : (n : ℕ) (here : IsOneOf (servers_said lines) n) → G.faults (at n here).vault ≡ G.faults (at n here).node.kept.vault → g.faults (at n here).given ≡ g.faults (at n here).taken
  same_for n here same = (let x = at n here in x.back.faults ∙ same ∙ x.begun.started.faults)

  abbrev Failed : RunFault → Type 0
  Failed q = (n : ℕ) (here : IsOneOf (servers_said lines) n) → IsFailure {T = T} (IsOfRun (servers_said lines)) n (Err q) (G.faults (at n here).node.kept.vault) (G.faults (at n here).vault)

  first_here : IsOneOf (servers_said lines) 1
  first_here = record { first = omega arith; last = some }

  pub one_of : (s : ℕ) → IsOfRun (servers_said lines) s → IsOneOf (servers_said lines) s
  one_of s h = record { first = h.0; last = h.1 }

  -- of any bay a fault of a disk is told of one that failed
  pub play_counted : IsOfServers g (servers_said lines) (played f)
  play_counted = go f failed
    where
      disk : (s : ℕ) (among : IsOfRun (servers_said lines) s) → Rose (G.faults (at s (one_of s among)).node.kept.vault) (G.faults (at s (one_of s among)).vault) → IsOfServers g (servers_said lines) (fault.Disk s)
      disk s among rose = (one_of s among, (at s (one_of s among)).taken, (at s (one_of s among)).given, rose_for s (one_of s among) rose)

      go : (q : RunFault) → Failed q → IsOfServers g (servers_said lines) (played q)
      go (run_fault.DiskFault s) x = (let among = (x 1 first_here).0 in disk s among ((x s (one_of s among)).1 refl))
      go run_fault.OutOfMemory x = tt
      go run_fault.JournalFull x = tt
      go (run_fault.Start s (start_fault.Vault vault_fault.Failed)) x = (let among = (x 1 first_here).0 in disk s among ((x s (one_of s among)).1 refl))
      go (run_fault.Start s (start_fault.Vault vault_fault.Stopped)) x = (let among = (x 1 first_here).0 in absurd ((x s (one_of s among)).1 refl))
      go (run_fault.Start s (start_fault.Vault vault_fault.OutOfMemory)) x = tt
      go (run_fault.Start s (start_fault.Vault (vault_fault.NotAVolume found))) x = one_of s (x 1 first_here).0
      go (run_fault.Start s (start_fault.Vault (vault_fault.Damaged place))) x = one_of s (x 1 first_here).0
      go (run_fault.Start s start_fault.BadNote) x = one_of s (x 1 first_here).0
      go (run_fault.Start s start_fault.EpochEnd) x = tt

  -- and the last epoch is that of a server of the run
  pub play_epoch : (s : ℕ) → f ≡ run_fault.Start s start_fault.EpochEnd → IsOneOf (servers_said lines) s
  play_epoch s is = (let named : Failed (run_fault.Start s start_fault.EpochEnd) = subst (λ (q : RunFault). Failed q) is failed in one_of s (named 1 first_here).0)

  -- ---- on a bay that tells

  module _ (told : IsTrue tells) (others : AreOthersSame (servers_said lines) before after) where
    -- each disk is given back
    pub returned : (P : ℕ → D → D → Type 0) → ((n : ℕ) (here : IsOneOf (servers_said lines) n) → P n (at n here).taken (at n here).given) → AreReturned g lines (servers_said lines) before after P
    returned = returned_ok G g tells told lines before after first now (Err f) others at

    vault_told : (n : ℕ) (here : IsOneOf (servers_said lines) n) → IsTrue (G.tells (at n here).node.kept.vault)
    vault_told n here = (let x = at n here in subst IsTrue (sym x.begun.started.telling) (x.begun.told told))

    pub fault_told : (n : ℕ) (here : IsOneOf (servers_said lines) n) → IsToldFault {T = T} n (Err f)
    fault_told n here = subst (λ (m : ℕ). IsToldFault {T = T} m (Err f)) (here_is n here) ((at n here).gone.told (vault_told n here))
