-- Messages between the servers of a run.
use Rattle.std.specs.Prelude.{◌≡◌, ◌≢◌, ℕ, ◌-◌, ◌<◌, ◌≤◌, Bool, false, List, [], slice_get, slice_set, Option, None, Some}
use Rattle.alp_journal.specs.Answered.{entries_limit}
use Rattle.alp_journal.specs.declared.event.Event.{Event}
use Rattle.alp_journal.specs.declared.message.Message.{Message}
use Rattle.alp_node.specs.NodeStates.{NodeState}
use Rattle.alp_vault.specs.declared.vault.Vault.{Ghosts}
use Rattle.alp_posts.specs.Post.{took}
use Rattle.alp_posts.specs.Posts.{post_at, with_post}
use Rattle.alp_course.specs.Courses.{Occurrence, Course, Arrives, seat_at}
use Rattle.alp_course.specs.Carries.{brings_some}
use Rattle.alp_course.specs.Languages.{Language}
use Rattle.alp_rpc.specs.declared.frame.Request.{Request}
use Rattle.alp_cluster.specs.Exchanges.{event_of}
use Rattle.alp_cluster.specs.Station.{standing, IsLeftFailed}
use Rattle.alp_cluster.specs.Stations.{IsOneOf, AreLater, Go, IsUnchanged, IsNoFurther, course_of}
use Rattle.alp_cluster.specs.declared.fault.RunFault.{RunFault}
use Rattle.alp_cluster.specs.declared.fault.RunFault.TheVariants as fault
use Rattle.alp_cluster.specs.declared.station.Station.{Station}
use Rattle.alp_cluster.specs.declared.stations.Stations.{Stations}

-- what holds of no message, or of one
abbrev pub IfOr : Option Message → Type 0 → (Message → Type 0) → Type 0
IfOr None P Q = P
IfOr (Some m) P Q = Q m

-- it is taken, while its sender has this last rank
abbrev pub taking_at : Course → (from to : ℕ) → Message → (rank : ℕ) → Course
taking_at r from to m rank = record r { posts = with_post r.posts from to (took m rank [] (post_at r.posts from to)) }

-- two servers of the run
pub record AreApart {V : Type 0} (s : Stations V) (from to : ℕ) : Type 0 where
  pub sender : IsOneOf s from
  pub receiver : IsOneOf s to
  pub apart : from ≡ to → ⊥

-- the message came to that server, where it was up, and saw this rank; what was taken is as before
pub record HasArrived {V : Type 0} (G : Ghosts V) (from to : ℕ) (m : Message) (seen : ℕ) (before after : Stations V) : Type 0 where
  pub later : AreLater G before after
  pub posts : after.posts ≡ before.posts
  pub sender : 1 ≤ from → from ≢ to → slice_get after.all.items (from - 1) ≡ slice_get before.all.items (from - 1)
  pub arrives : Arrives (course_of G before) from to m seen (course_of G after)

-- that server is up, and its journal has no room for another entry
pub record HasNoRoomFor {V : Type 0} (G : Ghosts V) (to : ℕ) (before after : Stations V) : Type 0 where
  pub still : IsUnchanged G before after
  pub up : (seat_at (course_of G before) to).stand.is_down ≡ false
  pub full : entries_limit ≤ (seat_at (course_of G before) to).stand.place

-- the device of that server failed in the step of this event, which saw that rank; what was taken is as before
pub record FailsFor {V : Type 0} (G : Ghosts V) (server seen : ℕ) (e : Event) (before after : Stations V) : Type 0 where
  pub here : IsOneOf before server
  pub up : (seat_at (course_of G before) server).stand.is_down ≡ false
  pub room : (seat_at (course_of G before) server).stand.place < entries_limit
  pub station : Station V
  pub left : Station V
  pub was : NodeState V
  pub there : slice_get before.all.items (server - 1) ≡ Some station
  pub stood : station.server ≡ standing was
  pub others : after.all.items ≡ slice_set before.all.items (server - 1) left
  pub posts : after.posts ≡ before.posts
  pub fails : IsLeftFailed G seen e station left was

-- the step of this event at that server, which saw that rank, was not taken as it is to be
abbrev pub EndsEventAt : {V : Type 0} → Ghosts V → RunFault → (server seen : ℕ) → Event → (before after : Stations V) → Type 0
EndsEventAt G fault.JournalFull server seen e before after = HasNoRoomFor G server before after
EndsEventAt G fault.OutOfMemory server seen e before after = IsNoFurther G before after
EndsEventAt G (fault.DiskFault number) server seen e before after = (number ≡ server) × FailsFor G server seen e before after
EndsEventAt G (fault.Start number f) server seen e before after = ⊥

-- nor was one by the bytes of a frame: where they spell no request, memory was wanting
abbrev pub EndsFrameAt : {V : Type 0} → Ghosts V → RunFault → (server : ℕ) → Option Request → (before after : Stations V) → Type 0
EndsFrameAt G f server None before after = (f ≡ fault.OutOfMemory) × IsNoFurther G before after
EndsFrameAt G f server (Some asked) before after = EndsEventAt G f server 0 (event_of asked) before after

-- what occurred at the servers is such a thing, and whether a message was brought is told
pub record DidSay {V : Type 0} (G : Ghosts V) (A : Language) (some : Bool) (before after : Stations V) : Type 0 where
  pub hs : List Occurrence
  pub word : A hs
  pub goes : Go G hs before after
  pub told : some ≡ brings_some hs
