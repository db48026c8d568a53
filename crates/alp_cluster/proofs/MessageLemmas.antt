-- Messages between the servers of a run: what is shown of a journal, and what is taken.
use Rattle.std.specs.Prelude.{◌≢◌, map as list_map, slice_get, slice_set, flat_map, Option, None, Some, IfSome}
use Rattle.std.specs.List.{AllByRecursion}
use Rattle.std.proofs.Common.{inl, inr, ◌≡◌, ℕ, zero, suc, ◌+◌, ◌-◌, ◌<◌, ◌≤◌, List, [], ◌∷◌, ◌++◌, length, get_or, refl, sym, ◌∙◌, ap, subst, arith}
use Rattle.std.proofs.lemmas.List.{map-set, set-get_or, get_or-map, get_or-set_same, get_or-set_other}
use Rattle.std.proofs.lemmas.Bool.{cases_eq}
use Rattle.alp_journal.specs.declared.act.Act.{Act}
use Rattle.alp_journal.specs.declared.act.Act.TheVariants as act
use Rattle.alp_journal.specs.declared.entry.Entry.{Entry}
use Rattle.alp_journal.specs.declared.message.Message.{Message}
use Rattle.alp_journal.specs.declared.message.Message.TheVariants as msg
use Rattle.alp_journal.specs.Timely.{IsTimelyMessage}
use Rattle.alp_node.specs.Halts.{MaySay}
use Rattle.alp_node.specs.NodeStates.{NodeState}
use Rattle.alp_journal.specs.declared.message.Envelope.{Envelope}
use Rattle.alp_node.specs.Nodes.{sent_by, sent_in}
use Rattle.alp_posts.specs.Messages.{messages_to, IsSent, HasGrown}
use Rattle.alp_posts.specs.Post.{Post, nothing_taken, shown_all, took}
use Rattle.alp_posts.specs.Posts.{AreServers, IsTable, Fits, place_of, post_at, with_post}
use Rattle.alp_posts.proofs.MessageLemmas.{sent_by as message_sent}
use Rattle.alp_posts.proofs.TableLemmas.{place_below}
use Rattle.alp_vault.specs.declared.vault.Vault.{Ghosts}
use Rattle.alp_course.specs.Courses.{Course, Seat, seat_at, next_message}
use Rattle.alp_cluster.specs.Messages.{taking_at}
use Rattle.alp_cluster.specs.Station.{standing, seat_of}
use Rattle.alp_cluster.specs.Stations.{AreOn, IsManned, IsOneOf, unshown, course_of, journals_in}
use Rattle.alp_cluster.specs.declared.station.Station.{Station}
use Rattle.alp_cluster.specs.declared.stations.Stations.{Stations}
use Rattle.alp_cluster.proofs.StationsLemmas.{its, seat_stands}

-- ---- what was shown is no matter

module _ (p : List Post) (table : IsTable p) (from to : ℕ) (servers : AreServers from to) where
  place_there : place_of from to < length p
  place_there = (let low : place_of from to < 64 = place_below from to servers in let full : length p ≡ 64 = table.full in omega (arith, low, full))

  pub unshown_at : post_at (list_map unshown p) from to ≡ unshown (post_at p from to)
  unshown_at = get_or-map unshown p (place_of from to) (nothing_taken to) (nothing_taken to) place_there

  -- more of the journal is shown
  pub shown_same : (journal : List Entry) → list_map unshown (with_post p from to (shown_all journal (post_at p from to))) ≡ list_map unshown p
  shown_same journal =
      map-set unshown p (place_of from to) (shown_all journal (post_at p from to))
      ∙ ap (slice_set (list_map unshown p) (place_of from to)) (sym unshown_at)
      ∙ set-get_or (list_map unshown p) (place_of from to) (nothing_taken to)

  -- a message is taken
  pub taken_same : (m : Message) (rank : ℕ) (journal : List Entry) → list_map unshown (with_post p from to (took m rank journal (post_at p from to))) ≡ with_post (list_map unshown p) from to (took m rank [] (post_at (list_map unshown p) from to))
  taken_same m rank journal =
      map-set unshown p (place_of from to) (took m rank journal (post_at p from to))
      ∙ ap (λ (x : Post). slice_set (list_map unshown p) (place_of from to) (took m rank [] x)) (sym unshown_at)

  -- what was taken last of any pair is that, or what it was
  pub taken_last : (x : Post) (f t : ℕ) (P : Option (Message × ℕ) → Type 0) → P x.last → P (post_at p f t).last → P (post_at (with_post p from to x) f t).last
  taken_last x f t P mine before = elim (cases_eq (place_of f t) (place_of from to)) [
    | inl same ↦
        let now : get_or (slice_set p (place_of from to) x) (place_of f t) (nothing_taken t) ≡ x =
        ap (λ (i : ℕ). get_or (slice_set p (place_of from to) x) i (nothing_taken t)) same ∙ get_or-set_same p (place_of from to) x (nothing_taken t) place_there in
        subst (λ (y : Post). P y.last) (sym now) mine
    | inr away ↦
        let now : get_or (slice_set p (place_of from to) x) (place_of f t) (nothing_taken t) ≡ post_at p f t = get_or-set_other p (place_of from to) (place_of f t) x (nothing_taken t) away in
        subst (λ (y : Post). P y.last) (sym now) before
  ]

-- ---- no message tells a time beyond the last

timely : (m : Message) → MaySay m → IsTimelyMessage m
timely (msg.Register t j client) h = tt
timely (msg.Joined t j) h = tt
timely (msg.JoinRefused t j) h = tt
timely (msg.Ask t j) h = tt
timely (msg.Ready t j ts) h = h
timely (msg.No t j w) h = tt
timely (msg.Commit t j stamp) h = h
timely (msg.Abort t j cause) h = tt
timely (msg.Done t j) h = tt
timely (msg.Inquire t j) h = tt

abbrev May : List Envelope → Type 0
May = AllByRecursion (λ (x : Envelope). MaySay x.message)

front_may : (xs ys : List Envelope) → May (xs ++ ys) → May xs
front_may [] ys h = tt
front_may (x ∷ xs) ys h = (h.0, front_may xs ys h.1)

back_may : (xs ys : List Envelope) → May (xs ++ ys) → May ys
back_may [] ys h = h
back_may (x ∷ xs) ys h = back_may xs ys h.1

act_may : (acts : List Act) (number to : ℕ) (m : Message) → slice_get acts number ≡ Some (act.Sent to m) → May (flat_map sent_by acts) → MaySay m
act_may [] number to m at h = cc
act_may (a ∷ acts) zero to m at h =
    let is : a ≡ act.Sent to m = cc in
    (front_may (sent_by (act.Sent to m)) (flat_map sent_by acts) (subst (λ (b : Act). May (sent_by b ++ flat_map sent_by acts)) is h)).0
act_may (a ∷ acts) (suc n) to m at h = act_may acts n to m at (back_may (sent_by a) (flat_map sent_by acts) h)

entry_may : (journal : List Entry) (place : ℕ) (e : Entry) → slice_get journal place ≡ Some e → May (sent_in journal) → May (flat_map sent_by e.acts)
entry_may [] place e at h = cc
entry_may (x ∷ journal) zero e at h =
    let is : x ≡ e = cc in
    subst (λ (y : Entry). May (flat_map sent_by y.acts)) is (front_may (flat_map sent_by x.acts) (sent_in journal) h)
entry_may (x ∷ journal) (suc n) e at h = entry_may journal n e at (back_may (flat_map sent_by x.acts) (sent_in journal) h)

pub message_timely : (to n : ℕ) (o : Option Message) (journal : List Entry) → o ≡ slice_get (messages_to to journal) n → May (sent_in journal) → IfSome o IsTimelyMessage
message_timely to n None journal is h = tt
message_timely to n (Some m) journal is h =
    let s : IsSent to m journal = message_sent to n m journal (sym is) in
    timely m (act_may s.entry.acts s.number to m s.sent (entry_may journal s.place s.entry s.stands h))

-- ---- the servers, and what was taken

module _ {V : Type 0} (G : Ghosts V) (s : Stations V) (on : AreOn G s) where
  pub servers_of : (from to : ℕ) → IsOneOf s from → IsOneOf s to → AreServers from to
  servers_of from to a b = (let few : length s.all.items ≤ 8 = on.few in ((a.first, omega (arith, few, a.last)), (b.first, omega (arith, few, b.last))))

  -- the course of a station that stands
  module _ (from to : ℕ) (a : IsOneOf s from) (b : IsOneOf s to) (x : Station V) (there : slice_get s.all.items (from - 1) ≡ Some x) (n : NodeState V) (stood : x.server ≡ standing n) where
    pub journal_is : journals_in (course_of G s) from ≡ n.journal
    journal_is = ap (λ (z : Seat). z.journal) (seat_stands G s on from a x there n stood)

    pub grown_here : HasGrown (post_at s.posts from to).shown n.journal
    grown_here = subst (HasGrown (post_at s.posts from to).shown) journal_is (on.fits.shown from to (servers_of from to a b))

    pub next_is : slice_get (messages_to to n.journal) (post_at s.posts from to).taken ≡ next_message (course_of G s) from to
    next_is =
        ap (λ (j : List Entry). slice_get (messages_to to j) (post_at s.posts from to).taken) (sym journal_is)
        ∙ ap (λ (p : Post). slice_get (messages_to to (journals_in (course_of G s) from)) p.taken) (sym (unshown_at s.posts on.fits.table from to (servers_of from to a b)))

    pub next_timely : (o : Option Message) → o ≡ slice_get (messages_to to n.journal) (post_at s.posts from to).taken → IfSome o IsTimelyMessage
    next_timely o is =
        let mine = its G s on from a x there in
        let same : mine.node ≡ n = (let both : standing mine.node ≡ standing n = sym mine.keeps.stands ∙ stood in cc) in
        message_timely to (post_at s.posts from to).taken o n.journal is (subst (λ (k : NodeState V). May (sent_in k.journal)) same mine.keeps.on.kept.said)

  -- the same servers, where what was taken fits still
  pub still_on : (after : Stations V) → after.all ≡ s.all → Fits (journals_in (course_of G s)) after.posts → ((from to : ℕ) → AreServers from to → IfSome (post_at after.posts from to).last (λ x. IsTimelyMessage x.0)) → AreOn G after
  still_on after all fits timed =
      let items : after.all.items ≡ s.all.items = ap (λ v. v.items) all in
      let many : length after.all.items ≡ length s.all.items = ap (λ (xs : List (Station V)). length xs) items in
      record {
        some = (let one : 1 ≤ length s.all.items = on.some in omega (arith, many, one));
        few = (let most : length s.all.items ≤ 8 = on.few in omega (arith, many, most));
        each = λ i x there. subst (λ (k : ℕ). IsManned G k (i + 1) x) (sym many) (on.each i x (ap (λ (xs : List (Station V)). slice_get xs i) (sym items) ∙ there));
        fits = subst (λ (xs : List (Station V)). Fits (λ k. (seat_at (record { seats = list_map (seat_of G) xs; posts = list_map unshown s.posts }) k).journal) after.posts) (sym items) fits;
        timely = timed;
      }

  -- ---- it was shown

  module _ (after : Stations V) (all : after.all ≡ s.all) (from to : ℕ) (servers : AreServers from to) (journal : List Entry) (posts : after.posts ≡ with_post s.posts from to (shown_all journal (post_at s.posts from to))) where
    pub shown_course : course_of G after ≡ course_of G s
    shown_course = (λ i. record { seats = list_map (seat_of G) (all i).items; posts = (ap (list_map unshown) posts ∙ shown_same s.posts on.fits.table from to servers journal) i })

    pub shown_on : Fits (journals_in (course_of G s)) after.posts → AreOn G after
    shown_on fits = still_on after all fits (λ f t two.
        subst (λ (p : List Post). IfSome (post_at p f t).last (λ x. IsTimelyMessage x.0)) (sym posts)
        (taken_last s.posts on.fits.table from to servers (shown_all journal (post_at s.posts from to)) f t (λ o. IfSome o (λ x. IsTimelyMessage x.0)) (on.timely from to servers) (on.timely f t two)))

  -- ---- it was taken

  module _ (after : Stations V) (all : after.all ≡ s.all) (from to : ℕ) (servers : AreServers from to) (m : Message) (rank : ℕ) (journal : List Entry) (posts : after.posts ≡ with_post s.posts from to (took m rank journal (post_at s.posts from to))) where
    pub taken_course : course_of G after ≡ taking_at (course_of G s) from to m rank
    taken_course = (λ i. record { seats = list_map (seat_of G) (all i).items; posts = (ap (list_map unshown) posts ∙ taken_same s.posts on.fits.table from to servers m rank journal) i })

    pub taken_on : IsTimelyMessage m → Fits (journals_in (course_of G s)) after.posts → AreOn G after
    taken_on may fits = still_on after all fits (λ f t two.
        subst (λ (p : List Post). IfSome (post_at p f t).last (λ x. IsTimelyMessage x.0)) (sym posts)
        (taken_last s.posts on.fits.table from to servers (took m rank journal (post_at s.posts from to)) f t (λ o. IfSome o (λ x. IsTimelyMessage x.0)) may (on.timely f t two)))
