-- How the servers of a run are started on the disks of a bay, and how the disks are given back.
use Rattle.std.specs.Prelude.{◌≡◌, ◌⊎◌, ◌≤◌, ◌<◌, ℕ, ◌+◌, Bool, false, IsTrue, List, [], ◌∷◌, ◌++◌, length, Option, None, Some, Result, Ok, Err, OnOk}
use Rattle.alp_base.specs.Causes.{Rose}
use Rattle.alp_base.specs.Crashes.{Only, NoMore, SameOutcomes}
use Rattle.alp_base.specs.Notes.{Notes}
use Rattle.alp_base.specs.declared.allowance.Allowance.TheVariants.{Free}
use Rattle.alp_base.specs.declared.faults.Sizes.{Sizes}
use Rattle.alp_bay.specs.Bays.{IsTaken, IsFilled}
use Rattle.alp_disk.specs.Disk.{Image}
use Rattle.alp_disk.specs.declared.disk.Disk.{Ghosts}
use Rattle.alp_course.specs.Courses.{IsOneOf}
use Rattle.alp_node.specs.Downs.{IsFallen}
use Rattle.alp_node.specs.NodeStates.{NodeState}
use Rattle.alp_node.specs.Nodes.{IsConsistent, start_in}
use Rattle.alp_script.specs.Accepted.{servers_said}
use Rattle.alp_script.specs.Volumes.{sizes_said}
use Rattle.alp_script.specs.declared.numbered.NumberedLine.{NumberedLine}
use Rattle.alp_store.specs.Holding.{Holds}
use Rattle.alp_store.specs.Starts.{IsNew}
use Rattle.alp_vault.specs.Contents.{Contents}
use Rattle.alp_vault.specs.Volumes.{IsVolumeOf}
use Rattle.alp_vault.specs.declared.vault.Vault.{Ghosts as VaultGhosts}
use Rattle.alp_cluster.specs.Gathered.{AreStationsOf, AreGathered}
use Rattle.alp_cluster.specs.Servers.{IsOn, IsIdle, HasGoneBy}
use Rattle.alp_cluster.specs.Station.{standing, HasVault}
use Rattle.alp_cluster.specs.Stations.{IsOfRun}
use Rattle.alp_cluster.specs.declared.cluster.Cluster.{Cluster}
use Rattle.alp_cluster.specs.declared.fault.RunFault.{RunFault}
use Rattle.alp_cluster.specs.declared.fault.RunFault.TheVariants as run_fault
use Rattle.alp_cluster.specs.declared.server.Server.{Server}
use Rattle.alp_cluster.specs.declared.server.Server.TheVariants.{Up, Fallen}
use Rattle.alp_cluster.specs.declared.station.Station.{Station}
use Rattle.alp_top.specs.Endings.{IsRestPut}
use Rattle.alp_top.specs.Pairs.{ArePaired}
use Rattle.alp_top.specs.Volumes.{pages_of, IsBare, IsOpenedNew, IsOpenedOn, IsReturned, WhyNotBegun}
use Rattle.alp_top.specs.declared.finish.Rests.{Rests}
use Rattle.alp_top.specs.declared.fault.NoReport.{NoReport}
use Rattle.alp_top.specs.declared.fault.NoReport.TheVariants as fault

-- ---- devices

-- two devices that show the same, and of which a crash leaves the same
pub record ShowAlike {A B : Type 0} (g : Ghosts A) (h : Ghosts B) (a : A) (b : B) : Type 0 where
  pub telling : h.tells b ≡ g.tells a
  pub size : h.size b ≡ g.size a
  pub seen : h.seen b ≡ g.seen a
  pub faults : h.faults b ≡ g.faults a
  pub leaves : SameOutcomes (g.may_leave a) (h.may_leave b)

-- it has the pages of its anchors
abbrev pub IsLong : {D : Type 0} → Ghosts D → D → Type 0
IsLong g d = 2 ≤ g.size d

abbrev pub IsToldOf : {D : Type 0} → Ghosts D → D → Type 0
IsToldOf g d = IsTrue (g.tells d)

abbrev pub IsVaultTold : {V : Type 0} → VaultGhosts V → V → Type 0
IsVaultTold G v = IsTrue (G.tells v)

-- a device that shows the same as this disk stands at that place
pub record IsGivenAs {A B : Type 0} (g : Ghosts A) (h : Ghosts B) (tells : Bool) (before now : ℕ → Option B) (server : ℕ) (disk : A) : Type 0 where
  pub device : B
  pub alike : ShowAlike g h disk device
  pub filled : IsTrue tells → IsFilled before now server device

-- ---- a server that was started

-- the notes that its vault had when it was started
abbrev pub notes_in : {V : Type 0} → VaultGhosts V → NodeState V → Notes
notes_in G n = (G.held n.opening.vault.value).notes

-- The server of this number, one of so many, was started on this disk, and did nothing yet. It opened on what the disk read; the only server of a
-- run found no part and no decision.
pub record IsStarted {V D : Type 0} (G : VaultGhosts V) (g : Ghosts D) (sizes : Sizes) (server servers : ℕ) (taken : D) (n : NodeState V) : Type 0 where
  pub on : IsOn G n
  pub idle : IsIdle G n
  pub number : n.kept.server ≡ server
  pub count : n.kept.servers ≡ servers
  pub telling : G.tells n.kept.vault ≡ g.tells taken
  pub sized : g.size taken ≡ pages_of (G.volume n.kept.vault)
  pub faults : G.faults n.kept.vault ≡ g.faults taken
  pub alone : IsTrue (g.tells taken) → servers ≡ 1 → IsBare (start_in G n)
  pub new : IsTrue (g.tells taken) → IsNew sizes (g.size taken) (g.seen taken) → IsOpenedNew sizes (start_in G n) (notes_in G n)
  pub found : IsTrue (g.tells taken) → (IsNew sizes (g.size taken) (g.seen taken) → ⊥) → IsOpenedOn server servers (g.size taken) (g.seen taken) (start_in G n) (notes_in G n)

-- it was, on the disk that was at its place before, or on a new one
pub record IsBegunAt {V D : Type 0} (G : VaultGhosts V) (g : Ghosts D) (tells : Bool) (lines : List NumberedLine) (before : ℕ → Option D) (number : ℕ) (n : NodeState V) (taken : D) : Type 0 where
  pub started : IsStarted G g (sizes_said lines number) number (servers_said lines) taken n
  pub told : IsTrue tells → IsTrue (g.tells taken)
  pub was : IsTrue tells → IsTaken g (before number) (pages_of (sizes_said lines number)) taken

-- so were these
abbrev pub AreBegun : {V D : Type 0} → VaultGhosts V → Ghosts D → Bool → List NumberedLine → (before : ℕ → Option D) → ℕ → List (NodeState V) → List D → Type 0
AreBegun G g tells lines before number ns ds = ArePaired (IsBegunAt G g tells lines before) number ns ds

-- no place changed but those of so many servers, the first ones
abbrev pub AreOthersSame : {D : Type 0} → (count : ℕ) → (before now : ℕ → Option D) → Type 0
AreOthersSame count before now = (n : ℕ) → (IsOneOf count n → ⊥) → now n ≡ before n

-- the bay gave no disk
abbrev pub IsUntaken : NoReport → (bay_before bay_now : ℕ) → Type 0
IsUntaken fault.Bay bay_before bay_now = Rose bay_before bay_now
IsUntaken fault.OutOfMemory bay_before bay_now = Unit {0}
IsUntaken f bay_before bay_now = ⊥

-- a server was not started: its disk was not taken, or it stands at its place again, for that cause
abbrev pub IsRefused : {D : Type 0} → Ghosts D → List NumberedLine → (server : ℕ) → (was now : Option D) → (bay_before bay_now : ℕ) → NoReport → Type 0
IsRefused g lines server was now bay_before bay_now f = ((now ≡ was) × IsUntaken f bay_before bay_now) ⊎ IsReturned g (sizes_said lines server) was now (WhyNotBegun g (sizes_said lines server) server (servers_said lines) f)

-- of any bay: where its disk failed, the count of faults rose, and no other disk is told of
abbrev pub IsOfServer : {D : Type 0} → Ghosts D → (server : ℕ) → NoReport → Type 0
IsOfServer {D} g server (fault.Disk s) = (s ≡ server) × (taken : D) × (given : D) × Rose (g.faults taken) (g.faults given)
IsOfServer g server (fault.NotAVolume s found) = s ≡ server
IsOfServer g server (fault.Damaged s place) = s ≡ server
IsOfServer g server (fault.EpochEnd s) = s ≡ server
IsOfServer g server fault.JournalFull = ⊥
IsOfServer g server f = Unit {0}

-- the same, by the count of faults of its disk
abbrev pub IsCountedStart : (server : ℕ) → NoReport → (before now : ℕ) → Type 0
IsCountedStart server (fault.Disk s) before now = (s ≡ server) × Rose before now
IsCountedStart server (fault.NotAVolume s found) before now = s ≡ server
IsCountedStart server (fault.Damaged s place) before now = s ≡ server
IsCountedStart server (fault.EpochEnd s) before now = s ≡ server
IsCountedStart server fault.OutOfMemory before now = Unit {0}
IsCountedStart server fault.JournalFull before now = ⊥
IsCountedStart server fault.Bay before now = ⊥

-- One server was started, and no other place changed.
pub record IsBegunHere {V D : Type 0} (G : VaultGhosts V) (g : Ghosts D) (tells : Bool) (lines : List NumberedLine) (before now : ℕ → Option D) (number : ℕ) (n : NodeState V) : Type 0 where
  pub disk : D
  pub is : IsBegunAt G g tells lines before number n disk
  pub others : IsTrue tells → (k : ℕ) → (k ≡ number → ⊥) → now k ≡ before k

-- One was not.
pub record IsRefusedHere {D : Type 0} (g : Ghosts D) (tells : Bool) (lines : List NumberedLine) (server : ℕ) (before now : ℕ → Option D) (bay_before bay_now : ℕ) (f : NoReport) : Type 0 where
  pub refused : IsTrue tells → IsRefused g lines server (before server) (now server) bay_before bay_now f
  pub others : IsTrue tells → (k : ℕ) → (k ≡ server → ⊥) → now k ≡ before k
  pub of_server : IsOfServer g server f

-- one was started, and came to the others
pub record HasAdded {V D : Type 0} (G : VaultGhosts V) (g : Ghosts D) (tells : Bool) (lines : List NumberedLine) (before now : ℕ → Option D) (number : ℕ) (old new : Cluster V) : Type 0 where
  pub node : NodeState V
  pub begun : IsBegunHere G g tells lines before now number node
  pub added : (ns : List (NodeState V)) → AreGathered ns old.parties old.lists.items old.text.items → AreGathered (ns ++ node ∷ []) new.parties new.lists.items new.text.items

-- All servers were started and gathered.
pub record HaveBegun {V D : Type 0} (G : VaultGhosts V) (g : Ghosts D) (tells : Bool) (lines : List NumberedLine) (count : ℕ) (before now : ℕ → Option D) (c : Cluster V) : Type 0 where
  pub nodes : List (NodeState V)
  pub disks : List D
  pub many : length nodes ≡ count
  pub gathered : AreGathered nodes c.parties c.lists.items c.text.items
  pub begun : AreBegun G g tells lines before 1 nodes disks
  pub others : IsTrue tells → AreOthersSame count before now

-- Not all were: so many stand there, and the next one was not.
pub record HaveBegunSome {V D : Type 0} (G : VaultGhosts V) (g : Ghosts D) (tells : Bool) (lines : List NumberedLine) (before now : ℕ → Option D) (bay_before bay_now : ℕ) (f : NoReport) (c : Cluster V) : Type 0 where
  pub count : ℕ
  pub few : count < servers_said lines
  pub nodes : List (NodeState V)
  pub disks : List D
  pub many : length nodes ≡ count
  pub stand : AreStationsOf nodes c.parties.stations.all.items
  pub begun : AreBegun G g tells lines before 1 nodes disks
  pub mid : ℕ → Option D
  pub same : IsTrue tells → AreOthersSame count before mid
  pub next_one : IsRefusedHere g tells lines (count + 1) mid now bay_before bay_now f

-- ---- a disk that is given back

-- This disk is what is left of the vault: where it served, the disk holds what the vault held; of any, whatever a crash leaves of it
-- holds something that the vault might have left.
pub record IsGiven {V D : Type 0} (G : VaultGhosts V) (g : Ghosts D) (v : V) (given : D) : Type 0 where
  pub telling : g.tells given ≡ G.tells v
  pub sized : g.size given ≡ pages_of (G.volume v)
  pub faults : g.faults given ≡ G.faults v
  pub files : IsTrue (G.tells v) → IsTrue (G.serves v) → IsVolumeOf (G.volume v) (G.held v).cells
  pub holds : IsTrue (G.tells v) → IsTrue (G.serves v) → Holds (G.server v) (G.servers v) (g.size given) (G.volume v).home (g.seen given) (G.held v)
  pub only : IsTrue (G.tells v) → IsTrue (G.serves v) → Only (g.seen given) (g.may_leave given)
  pub whole : IsTrue (G.tells v) → (image : Image) → g.may_leave given image → (c : Contents) × Holds (G.server v) (G.servers v) (g.size given) (G.volume v).home image c × G.may_leave v c
  pub read : IsTrue (G.tells v) → g.may_leave given (g.seen given)

-- it stands at that place
pub record IsGivenAt {V D : Type 0} (G : VaultGhosts V) (g : Ghosts D) (tells : Bool) (before now : ℕ → Option D) (server : ℕ) (v : V) : Type 0 where
  pub device : D
  pub back : IsGiven G g v device
  pub filled : IsTrue tells → IsFilled before now server device

-- a server stands there, up or not, with a vault that tells where the bay does
pub record IsHeld {V : Type 0} (G : VaultGhosts V) (tells : Bool) (s : Station V) : Type 0 where
  pub vault : V
  pub its : HasVault s.server vault
  pub told : IsTrue tells → IsTrue (G.tells vault)

-- so do all these
abbrev pub AreHeld : {V : Type 0} → VaultGhosts V → Bool → List (Station V) → Type 0
AreHeld G tells [] = Unit {0}
AreHeld G tells (s ∷ ss) = IsHeld G tells s × AreHeld G tells ss

-- what holds of a server, up or not, however a call of it ended
abbrev pub IsServerRight : {V : Type 0} → VaultGhosts V → Option (Server V) → Type 0
IsServerRight G (Some (Up n)) = IsConsistent G n
IsServerRight G (Some (Fallen d)) = IsFallen G d
IsServerRight G None = Unit {0}

-- that of the server that stands there is given back at its place; and what holds of each server holds of this one
pub record IsLeftAt {V D : Type 0} (G : VaultGhosts V) (g : Ghosts D) (tells : Bool) (after : ℕ → Option D) (number : ℕ) (s : Station V) (given : D) : Type 0 where
  pub vault : V
  pub its : HasVault s.server vault
  pub known : IsServerRight G s.server
  pub back : IsGiven G g vault given
  pub there : IsTrue tells → after number ≡ Some given

-- so it is with all of them
pub record AreLeftBy {V D : Type 0} (G : VaultGhosts V) (g : Ghosts D) (tells : Bool) (ss : List (Station V)) (before after : ℕ → Option D) : Type 0 where
  pub disks : List D
  pub each : ArePaired (IsLeftAt G g tells after) 1 ss disks
  pub others : IsTrue tells → AreOthersSame (length ss) before after

-- the server of this number stands there at rest, and nobody stops it
pub record IsAtRest {V : Type 0} (G : VaultGhosts V) (tells : Bool) (number : ℕ) (s : Station V) : Type 0 where
  pub node : NodeState V
  pub stands : s.server ≡ standing node
  pub on : IsOn G node
  pub up : node.kept.is_down ≡ false
  pub free : G.allowance node.kept.vault ≡ Free
  pub number_is : node.kept.server ≡ number
  pub told : IsTrue tells → IsTrue (G.tells node.kept.vault)

-- so do these, with the numbers from this one on
abbrev pub AreAtRest : {V : Type 0} → VaultGhosts V → Bool → ℕ → List (Station V) → Type 0
AreAtRest G tells number [] = Unit {0}
AreAtRest G tells number (s ∷ ss) = IsAtRest G tells number s × AreAtRest G tells (number + 1) ss

-- a fault names another server of so many than this, if it names one
abbrev pub IsElsewhere : {T : Type 0} → (servers server : ℕ) → Result T RunFault → Type 0
IsElsewhere servers server (Ok x) = Unit {0}
IsElsewhere servers server (Err (run_fault.DiskFault s)) = IsOfRun servers s × (s ≡ server → ⊥)
IsElsewhere servers server (Err (run_fault.Start s f)) = IsOfRun servers s × (s ≡ server → ⊥)
IsElsewhere servers server (Err f) = Unit {0}

-- a fault stays the same, and a new one is of this server
abbrev pub GoesOn : {T U : Type 0} → (servers server : ℕ) → Result T RunFault → Result U RunFault → Type 0
GoesOn servers server (Ok x) now = (n : ℕ) → (n ≡ server → ⊥) → IsElsewhere servers n now
GoesOn servers server (Err f) now = now ≡ Err f

-- what the server that stands there did and holds comes in front of the others
pub record IsStationPut {V : Type 0} (G : VaultGhosts V) (s : Station V) (old new : Rests V) : Type 0 where
  pub node : NodeState V
  pub stands : s.server ≡ standing node
  pub put : IsRestPut G node s.ranks.items old new

-- The server that stands there is at its end: its vault was looked at, or a fault came before, and is given back. A crash leaves no more of it than
-- before.
pub record IsClosedAt {V D T : Type 0} (G : VaultGhosts V) (g : Ghosts D) (tells : Bool) (servers : ℕ) (after : ℕ → Option D) (r : Result T RunFault) (number : ℕ) (s : Station V) (given : D) : Type 0 where
  pub node : NodeState V
  pub stands : s.server ≡ standing node
  pub here : G.server node.kept.vault ≡ number
  pub kept : IsConsistent G node
  pub vault : V
  pub crash : NoMore (G.may_leave node.kept.vault) (G.may_leave vault)
  pub gone : HasGoneBy G (IsOfRun servers) (Unit {0}) node.kept.vault vault r
  pub held : OnOk r (G.held vault ≡ G.held node.kept.vault)
  pub serves : OnOk r (IsTrue (G.serves vault))
  pub back : IsGiven G g vault given
  pub there : IsTrue tells → after number ≡ Some given

-- it is, and no other place changed
pub record IsClosedHere {V D T : Type 0} (G : VaultGhosts V) (g : Ghosts D) (tells : Bool) (servers : ℕ) (before now : ℕ → Option D) (r : Result T RunFault) (number : ℕ) (s : Station V) : Type 0 where
  pub disk : D
  pub is : IsClosedAt G g tells servers now r number s disk
  pub others : IsTrue tells → (k : ℕ) → (k ≡ number → ⊥) → now k ≡ before k

-- so are all of them
pub record AreClosed {V D T : Type 0} (G : VaultGhosts V) (g : Ghosts D) (tells : Bool) (servers : ℕ) (ss : List (Station V)) (before after : ℕ → Option D) (r : Result T RunFault) : Type 0 where
  pub disks : List D
  pub each : ArePaired (IsClosedAt G g tells servers after r) 1 ss disks
  pub others : IsTrue tells → AreOthersSame (length ss) before after
