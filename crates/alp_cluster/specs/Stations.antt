-- The servers of a run, and the messages between them.
use Rattle.std.specs.Prelude.{◌≡◌, ℕ, ◌+◌, ◌-◌, ◌≤◌, List, [], ◌∷◌, length, map as list_map, slice_get, slice_set, Option, None, Some, IfSome, Result}
use Rattle.alp_journal.specs.declared.entry.Entry.{Entry}
use Rattle.alp_journal.specs.declared.event.Event.{Event}
use Rattle.alp_journal.specs.Timely.{IsTimelyMessage}
use Rattle.alp_node.specs.NodeStates.{NodeState}
use Rattle.alp_node.specs.declared.opened.Opened.{Opened}
use Rattle.alp_node.specs.declared.server_state.ServerState.{ServerState}
use Rattle.alp_posts.specs.Post.{Post, post_of}
use Rattle.alp_posts.specs.Posts.{AreServers, Fits, post_at}
use Rattle.alp_vault.specs.declared.vault.Vault.{Ghosts}
use Rattle.alp_course.specs.Courses.{Course, seat_at, Occurrence, at, Occurs}
use Rattle.alp_course.specs.Happens.{stop_set, restarted}
use Rattle.alp_course.specs.Languages.{Language}
use Rattle.alp_course.specs.Plays.{Due, IsCut}
use Rattle.alp_cluster.specs.Come.{Come, IsReached}
use Rattle.alp_cluster.specs.Fills.{IsEndFor, IsEventDue, IsFailing, seen_due}
use Rattle.alp_cluster.specs.Goes.{opening_in, journal_in}
use Rattle.alp_cluster.specs.Servers.{AreCalm, HasGoneBy, IsUntouched, HasStopSet, StartsAgain}
use Rattle.alp_cluster.specs.Station.{standing, HasVault, seat_of, Keeps, IsLeftFailed, EndsHere}
use Rattle.alp_cluster.specs.declared.fault.RunFault.{RunFault}
use Rattle.alp_cluster.specs.declared.fault.RunFault.TheVariants as fault
use Rattle.alp_cluster.specs.declared.server.Server.{Server}
use Rattle.alp_cluster.specs.declared.server.Server.TheVariants.{Up, Fallen}
use Rattle.alp_cluster.specs.declared.station.Station.{Station}
use Rattle.alp_cluster.specs.declared.stations.Stations.{Stations}

-- ---- where their run stands

-- what of a journal was shown is no matter of the course
abbrev pub unshown : Post → Post
unshown p = post_of p.to [] p.taken p.last

abbrev pub course_of : {V : Type 0} → Ghosts V → Stations V → Course
course_of G s = record { seats = list_map (seat_of G) s.all.items; posts = list_map unshown s.posts }

abbrev pub journals_in : Course → ℕ → List Entry
journals_in r n = (seat_at r n).journal

-- the server of this number, one of so many, stands there
pub record IsManned {V : Type 0} (G : Ghosts V) (count number : ℕ) (s : Station V) : Type 0 where
  pub node : NodeState V
  pub keeps : Keeps G s node
  pub number_is : node.kept.server ≡ number
  pub count_is : node.kept.servers ≡ count

-- all servers stand, each at its number, what was shown of their journals is the beginning of them, and what was taken last tells no time
-- beyond the last
pub record AreOn {V : Type 0} (G : Ghosts V) (s : Stations V) : Type 0 where
  pub some : 1 ≤ length s.all.items
  pub few : length s.all.items ≤ 8
  pub each : (i : ℕ) (x : Station V) → slice_get s.all.items i ≡ Some x → IsManned G (length s.all.items) (i + 1) x
  pub fits : Fits (journals_in (course_of G s)) s.posts
  pub timely : (from to : ℕ) → AreServers from to → IfSome (post_at s.posts from to).last (λ x. IsTimelyMessage x.0)

-- a server of the run
pub record IsOneOf {V : Type 0} (s : Stations V) (server : ℕ) : Type 0 where
  pub first : 1 ≤ server
  pub last : server ≤ length s.all.items

-- ---- what each of them keeps

abbrev pub state_in : {V : Type 0} → Option (Server V) → Option (ServerState V)
state_in (Some (Up n)) = Some n.kept
state_in (Some (Fallen d)) = None
state_in None = None

abbrev pub state_for : {V : Type 0} → Option (Station V) → Option (ServerState V)
state_for None = None
state_for (Some x) = state_in x.server

abbrev pub state_at : {V : Type 0} → Stations V → ℕ → Option (ServerState V)
state_at s n = state_for (slice_get s.all.items (n - 1))

-- it has come to a call of the client, where it is one of the run
abbrev pub IsReachedBy : {V : Type 0} → Option (ServerState V) → ℕ → Come → Type 0
IsReachedBy None client a = Unit {0}
IsReachedBy (Some k) client a = IsReached k client a

abbrev pub openings_of : {V : Type 0} → Stations V → List (Option (Opened V))
openings_of s = list_map (λ (x : Station _). opening_in x.server) s.all.items

abbrev pub servers_of : {V : Type 0} → Stations V → List (Option (Server V))
servers_of s = list_map (λ (x : Station _). x.server) s.all.items

-- ---- how often their devices failed

abbrev pub server_in : {V : Type 0} → Option (Station V) → Option (Server V)
server_in None = None
server_in (Some x) = x.server

abbrev pub server_at : {V : Type 0} → Stations V → ℕ → Option (Server V)
server_at s n = server_in (slice_get s.all.items (n - 1))

abbrev pub faults_in : {V : Type 0} → Ghosts V → Option (Server V) → ℕ
faults_in G (Some (Up n)) = G.faults n.kept.vault
faults_in G (Some (Fallen d)) = G.faults d.vault
faults_in G None = 0

-- a server that no entry of its journal stopped had none that did before, and its count of faults stayed
abbrev pub IsCalmSince : {V : Type 0} → Ghosts V → (before after : Option (Server V)) → Type 0
IsCalmSince G before after = AreCalm (journal_in after) → AreCalm (journal_in before) × (faults_in G after ≡ faults_in G before)

-- so it is with each of them
abbrev pub AreCalmSince : {V : Type 0} → Ghosts V → (before after : Stations V) → Type 0
AreCalmSince G before after = (n : ℕ) → IsCalmSince G (server_at before n) (server_at after n)

-- so it is with each but the one whose device failed, where that is the fault
abbrev pub AreCalmBut : {V : Type 0} → Ghosts V → RunFault → (before after : Stations V) → Type 0
AreCalmBut G f before after = (n : ℕ) → 1 ≤ n → (IsFailing f n → ⊥) → IsCalmSince G (server_at before n) (server_at after n)

-- ---- how they go on

-- The server of this number fell, with that pick of what a crash leaves, and started again.
pub record StartsAgainAt {V : Type 0} (G : Ghosts V) (number pick : ℕ) (before after : Stations V) : Type 0 where
  pub fell : NodeState V
  pub started : NodeState V
  pub was : Station V
  pub is : Station V
  pub there : slice_get before.all.items (number - 1) ≡ Some was
  pub stood : was.server ≡ standing fell
  pub here : slice_get after.all.items (number - 1) ≡ Some is
  pub stands : is.server ≡ standing started
  pub again : StartsAgain G pick fell started

-- The disk of the server of this number was let pass so many more changing calls.
pub record IsStopSetAt {V : Type 0} (G : Ghosts V) (number calls : ℕ) (before after : Stations V) : Type 0 where
  pub stood_node : NodeState V
  pub set_node : NodeState V
  pub was : Station V
  pub is : Station V
  pub there : slice_get before.all.items (number - 1) ≡ Some was
  pub stood : was.server ≡ standing stood_node
  pub here : slice_get after.all.items (number - 1) ≡ Some is
  pub stands : is.server ≡ standing set_node
  pub set : HasStopSet G calls stood_node set_node

-- what a restart leaves of the disk of its server, and for how long a line lets it go on
abbrev pub Crashes : {V : Type 0} → Ghosts V → Occurrence → (before after : Stations V) → Type 0
Crashes G (at n (restarted pick)) before after = StartsAgainAt G n pick before after
Crashes G (at n (stop_set calls)) before after = IsStopSetAt G n calls before after
Crashes G x before after = Unit {0}

-- all this occurred at them, one after the other
abbrev pub Passes : {V : Type 0} → Ghosts V → Stations V → List Occurrence → Stations V → Type 0
Passes {V} G s [] after = after ≡ s
Passes {V} G s (x ∷ xs) after = (mid : Stations V) × Occurs (course_of G s) x (course_of G mid) × Crashes G x s mid × Passes G mid xs after

-- They are the servers that they were, and what calls they had come to they have come to still. The device of one that no entry stopped did
-- not fail.
pub record AreLater {V : Type 0} (G : Ghosts V) (before after : Stations V) : Type 0 where
  pub on : AreOn G after
  pub openings : openings_of after ≡ openings_of before
  pub reached : (n k : ℕ) (a : Come) → IsReachedBy (state_at before n) k a → IsReachedBy (state_at after n) k a
  pub calm : AreCalmSince G before after

-- all this occurred at them
pub record Go {V : Type 0} (G : Ghosts V) (hs : List Occurrence) (before after : Stations V) : Type 0 where
  pub later : AreLater G before after
  pub passes : Passes G before hs after

-- one of them did not start again: it fell, with some pick of what a crash leaves, and is left so
pub record EndsAt {V : Type 0} (G : Ghosts V) (f : RunFault) (before now : Stations V) : Type 0 where
  pub number : ℕ
  pub here : IsOneOf before number
  pub pick : ℕ
  pub station : Station V
  pub left : Station V
  pub node : NodeState V
  pub there : slice_get before.all.items (number - 1) ≡ Some station
  pub stood : station.server ≡ standing node
  pub number_is : node.kept.server ≡ number
  pub others : now.all.items ≡ slice_set before.all.items (number - 1) left
  pub ends : EndsHere G pick f node left.server

-- their journals stand as they were
pub record IsUnchanged {V : Type 0} (G : Ghosts V) (before now : Stations V) : Type 0 where
  pub servers : servers_of now ≡ servers_of before
  pub course : course_of G now ≡ course_of G before

-- the server stands there still, and took no step
pub record IsStillThere {V : Type 0} (G : Ghosts V) (n : NodeState V) (now : Option (Station V)) : Type 0 where
  pub station : Station V
  pub there : now ≡ Some station
  pub node : NodeState V
  pub stands : station.server ≡ standing node
  pub untouched : IsUntouched G n node

-- Memory was wanting: no server took a step, and each stands as it stood. Vaults may have other pages at hand.
pub record IsNoFurther {V : Type 0} (G : Ghosts V) (before now : Stations V) : Type 0 where
  pub course : course_of G now ≡ course_of G before
  pub each : (i : ℕ) (x : Station V) (n : NodeState V) → slice_get before.all.items i ≡ Some x → x.server ≡ standing n → IsStillThere G n (slice_get now.all.items i)
  pub openings : openings_of now ≡ openings_of before
  pub calm : AreCalmSince G before now

-- The device of the server of this number failed in the step that was due. There is one entry more, of the event that was to come, with its
-- rank, which shows the failure; and nothing else changed.
pub record FailsAt {V : Type 0} (G : Ghosts V) (number : ℕ) (due : Due) (before now : Stations V) : Type 0 where
  pub here : IsOneOf before number
  pub station : Station V
  pub left : Station V
  pub was : NodeState V
  pub there : slice_get before.all.items (number - 1) ≡ Some station
  pub stood : station.server ≡ standing was
  pub others : now.all.items ≡ slice_set before.all.items (number - 1) left
  pub posts : list_map unshown now.posts ≡ list_map unshown before.posts
  pub event : Event
  pub its : IsEventDue (course_of G before) due event
  pub fails : IsLeftFailed G (seen_due (course_of G before) due) event station left was

-- what a run that ended for that fault leaves of these servers, where that was to come
abbrev pub EndsFor : {V : Type 0} → Ghosts V → RunFault → Due → (before now : Stations V) → Type 0
EndsFor G fault.JournalFull due before now = IsUnchanged G before now
EndsFor G fault.OutOfMemory due before now = IsNoFurther G before now
EndsFor G (fault.DiskFault server) due before now = FailsAt G server due before now
EndsFor G (fault.Start server f) due before now = EndsAt G (fault.Start server f) before now

-- what occurred at the servers is such a thing
pub record Did {V : Type 0} (G : Ghosts V) (A : Language) (before after : Stations V) : Type 0 where
  pub hs : List Occurrence
  pub word : A hs
  pub goes : Go G hs before after

-- some of it did, and then the rest could not come for that fault
pub record DidSome {V : Type 0} (G : Ghosts V) (A : Language) (f : RunFault) (before after : Stations V) : Type 0 where
  pub at_end : Stations V
  pub hs : List Occurrence
  pub due : Due
  pub cut : IsCut A hs due
  pub goes : Go G hs before at_end
  pub ends : IsEndFor f (course_of G at_end) due
  pub left : EndsFor G f due at_end after

-- ---- their vaults

abbrev pub IsOfRun : (count server : ℕ) → Type 0
IsOfRun count server = (1 ≤ server) × (server ≤ count)

-- what a call leaves of the vault of one of them, whether it went well or not
pub record LeavesOf {V T : Type 0} (G : Ghosts V) (count : ℕ) (P : Type 0) (n : NodeState V) (now : Option (Station V)) (r : Result T RunFault) : Type 0 where
  pub station : Station V
  pub there : now ≡ Some station
  pub vault : V
  pub its : HasVault station.server vault
  pub gone : HasGoneBy G (IsOfRun count) P n.kept.vault vault r

-- of each of them
pub record HaveGone {V T : Type 0} (G : Ghosts V) (P : Type 0) (old new : Stations V) (r : Result T RunFault) : Type 0 where
  pub many : length new.all.items ≡ length old.all.items
  pub each : (i : ℕ) (x : Station V) (n : NodeState V) → slice_get old.all.items i ≡ Some x → x.server ≡ standing n → LeavesOf G (length old.all.items) P n (slice_get new.all.items i) r
