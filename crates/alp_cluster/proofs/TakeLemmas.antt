-- A message between servers of a run is taken.
use Rattle.std.specs.Prelude.{slice_get, Option, None, Some, IfSome, IfNone, Ok, Vec}
use Rattle.std.specs.Global.{Global}
use Rattle.std.proofs.Common.{◌≡◌, ℕ, ◌-◌, List, length, refl, sym, ◌∙◌, ap, subst}
use Rattle.alp_journal.specs.declared.entry.Entry.{Entry}
use Rattle.alp_journal.specs.declared.message.Message.{Message}
use Rattle.alp_node.specs.NodeStates.{NodeState}
use Rattle.alp_posts.specs.Messages.{messages_to}
use Rattle.alp_posts.specs.Post.{shown_all, took}
use Rattle.alp_posts.specs.Posts.{Fits, post_at, with_post}
use Rattle.alp_vault.specs.declared.vault.Vault.{Ghosts}
use Rattle.alp_course.specs.Courses.{Seat, last_rank, seat_at, next_message}
use Rattle.alp_cluster.specs.Messages.{IfOr, taking_at}
use Rattle.alp_cluster.specs.Station.{standing}
use Rattle.alp_cluster.specs.Stations.{AreOn, IsManned, IsOneOf, LeavesOf, HaveGone, course_of, journals_in}
use Rattle.alp_cluster.specs.declared.station.Station.{Station}
use Rattle.alp_cluster.specs.declared.stations.Stations.{Stations}
use Rattle.alp_cluster.proofs.DidLemmas.{gone_none}
use Rattle.alp_cluster.proofs.MessageLemmas.{servers_of, next_is, next_timely, shown_course, shown_on, taken_course, taken_on}
use Rattle.alp_cluster.proofs.StationsLemmas.{its, seat_stands}

-- nothing was done to the servers
pub gone_same : {V T : Type 0} (G : Ghosts V) (P : Type 0) (s after : Stations V) (x : T) → after.all ≡ s.all → HaveGone G P s after (Ok x)
gone_same {V} {T} G P s after x all =
    let none : HaveGone G P s s (Ok x) = gone_none G P s x in
    record {
      many = ap (λ (v : Vec (Station V) Global). length v.items) all;
      each = λ i y n there stood. subst (λ (v : Vec (Station V) Global). LeavesOf G (length s.all.items) P n (slice_get v.items i) (Ok x)) (sym all) (none.each i y n there stood);
    }

-- the last rank of a server
pub rank_is : {V : Type 0} (G : Ghosts V) (s : Stations V) (on : AreOn G s) (server : ℕ) (here : IsOneOf s server) (x : Station V) (there : slice_get s.all.items (server - 1) ≡ Some x) → last_rank (seat_at (course_of G s) server).ranks ≡ last_rank x.ranks.items
rank_is G s on server here x there =
    let mine : IsManned G (length s.all.items) server x = its G s on server here x there in
    ap (λ (z : Seat). last_rank z.ranks) (seat_stands G s on server here x there mine.node mine.keeps.stands)

module _ {V : Type 0} (G : Ghosts V) (s : Stations V) (on : AreOn G s) (from to : ℕ) (a : IsOneOf s from) (b : IsOneOf s to) (x : Station V) (there : slice_get s.all.items (from - 1) ≡ Some x) (n : NodeState V) (stood : x.server ≡ standing n) (after : Stations V) (all : after.all ≡ s.all) (rank : ℕ)
    (journal : List Entry) (same : journal ≡ n.journal) (o : Option Message) (message : o ≡ slice_get (messages_to to journal) (post_at s.posts from to).taken) (none : IfNone o (after.posts ≡ with_post s.posts from to (shown_all journal (post_at s.posts from to))))
    (some : IfSome o (λ m. after.posts ≡ with_post s.posts from to (took m rank journal (post_at s.posts from to)))) where
  message_is : o ≡ slice_get (messages_to to n.journal) (post_at s.posts from to).taken
  message_is = message ∙ ap (λ (j : List Entry). slice_get (messages_to to j) (post_at s.posts from to).taken) same

  pub take_on : Fits (journals_in (course_of G s)) after.posts → AreOn G after
  take_on fits = go o message_is none some
    where
      go : (q : Option Message) → q ≡ slice_get (messages_to to n.journal) (post_at s.posts from to).taken → IfNone q (after.posts ≡ with_post s.posts from to (shown_all journal (post_at s.posts from to)))
          → IfSome q (λ m. after.posts ≡ with_post s.posts from to (took m rank journal (post_at s.posts from to))) → AreOn G after
      go None is shown taken = shown_on G s on after all from to (servers_of G s on from to a b) journal shown fits
      go (Some m) is shown taken = taken_on G s on after all from to (servers_of G s on from to a b) m rank journal taken (next_timely G s on from to a b x there n stood (Some m) is) fits

  pub take_course : IfOr (next_message (course_of G s) from to) (course_of G after ≡ course_of G s) (λ m. course_of G after ≡ taking_at (course_of G s) from to m rank)
  take_course =
      subst (λ (q : Option Message). IfOr q (course_of G after ≡ course_of G s) (λ m. course_of G after ≡ taking_at (course_of G s) from to m rank)) (message_is ∙ next_is G s on from to a b x there n stood) (go o none some)
    where
      go : (q : Option Message) → IfNone q (after.posts ≡ with_post s.posts from to (shown_all journal (post_at s.posts from to))) → IfSome q (λ m. after.posts ≡ with_post s.posts from to (took m rank journal (post_at s.posts from to)))
          → IfOr q (course_of G after ≡ course_of G s) (λ m. course_of G after ≡ taking_at (course_of G s) from to m rank)
      go None shown taken = shown_course G s on after all from to (servers_of G s on from to a b) journal shown
      go (Some m) shown taken = taken_course G s on after all from to (servers_of G s on from to a b) m rank journal taken
