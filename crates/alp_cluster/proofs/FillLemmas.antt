-- What could not come, and what is left: a journal is full, memory was wanting, a device failed, or a server did not start again.
use Rattle.std.specs.Prelude.{Bool, false, map as list_map, slice_get, slice_set, Option, None, Some}
use Rattle.std.proofs.Common.{inl, inr, ◌⊎◌, ◌≡◌, ℕ, ◌+◌, ◌-◌, ◌<◌, ◌≤◌, List, [], ◌∷◌, length, refl, sym, ◌∙◌, ap, subst}
use Rattle.std.proofs.lemmas.Bool.{cases_eq}
use Rattle.std.proofs.lemmas.List.{map-set, set-get_or, get_or-map}
use Rattle.alp_journal.specs.Answered.{entries_limit}
use Rattle.alp_journal.specs.declared.event.Event.{Event}
use Rattle.alp_node.specs.NodeStates.{NodeState}
use Rattle.alp_node.specs.Nodes as node
use Rattle.alp_node.specs.declared.opened.Opened.{Opened}
use Rattle.alp_node.specs.declared.start.StartFault.{StartFault}
use Rattle.alp_node.specs.declared.start.StartFault.TheVariants as start_fault
use Rattle.alp_vault.specs.declared.vault.Vault.{Ghosts}
use Rattle.alp_course.specs.Courses.{Seat, at, seat_at}
use Rattle.alp_course.specs.Happens.{Happening, restarted}
use Rattle.alp_course.specs.Languages.{Just}
use Rattle.alp_course.specs.Plays.{to_come}
use Rattle.alp_course.proofs.LanguageLemmas.{cut_just}
use Rattle.alp_course.proofs.RankLemmas.{get_below}
use Rattle.alp_cluster.specs.Fills.{IsOfEvent, IsRestartAt, IsEndFor}
use Rattle.alp_cluster.specs.Goes.{opening_in}
use Rattle.alp_cluster.specs.Messages.{HasNoRoomFor, FailsFor, EndsEventAt}
use Rattle.alp_cluster.specs.Servers.{AreCalm, HasNoRoom, IsUntouched}
use Rattle.alp_cluster.specs.Station.{standing, seat_for, seat_of, IsStill, IsLeftUntouched, IsLeftFailed, EndsEvent, EndsHere, EndsRestart}
use Rattle.alp_cluster.specs.Stations.{AreOn, IsOneOf, IsUnchanged, IsStillThere, IsNoFurther, IsCalmSince, AreCalmSince, EndsFor, DidSome, unshown, course_of, server_in, server_at}
use Rattle.alp_cluster.specs.declared.fault.RunFault.{RunFault}
use Rattle.alp_cluster.specs.declared.fault.RunFault.TheVariants as fault
use Rattle.alp_cluster.specs.declared.server.Server.{Server}
use Rattle.alp_cluster.specs.declared.station.Station.{Station}
use Rattle.alp_cluster.specs.declared.stations.Stations.{Stations}
use Rattle.alp_cluster.proofs.DidLemmas.{go_none}
use Rattle.alp_cluster.proofs.EventLemmas.{event_makes}
use Rattle.alp_cluster.proofs.StationsLemmas.{read_or, same_some, seat_stands, now_there, others_there}
use Rattle.alp_cluster.proofs.StationLemmas.{one_of}
use Rattle.alp_cluster.proofs.TakenLemmas.{untouched}

-- a server that was not touched has the seat that it had
seat_still : {V : Type 0} (G : Ghosts V) (f g : Bool) (rs qs : List ℕ) (n m : NodeState V) → IsUntouched G n m → g ≡ f → qs ≡ rs → seat_for G g qs (standing m) ≡ seat_for G f rs (standing n)
seat_still G f g rs qs n m h fused ranks = λ i. record {
  opening = h.start i;
  tells = h.telling i;
  stand = record { server = h.server i; epoch = h.epoch i; is_down = h.down i; is_fused = fused i; place = length (h.journal i); state = node.state_of (h.start i) (h.journal i) };
  journal = h.journal i;
  ranks = ranks i;
}

module _ {V : Type 0} (G : Ghosts V) (s after : Stations V) (on : AreOn G s) (server : ℕ) (here : IsOneOf s server) (x y : Station V) (there : slice_get s.all.items (server - 1) ≡ Some x) (items : after.all.items ≡ slice_set s.all.items (server - 1) y) where
  below : server - 1 < length s.all.items
  below = get_below s.all.items (server - 1) x there

  -- what is the same of this server is the same of all
  map_same : {B : Type 0} (f : Station V → B) (d : B) → f y ≡ f x → list_map f after.all.items ≡ list_map f s.all.items
  map_same f d same =
      ap (list_map f) items ∙ map-set f s.all.items (server - 1) y ∙ ap (slice_set (list_map f s.all.items) (server - 1)) (same ∙ sym (get_or-map f s.all.items (server - 1) x d below ∙ ap f (read_or s.all.items (server - 1) x x there)))
      ∙ set-get_or (list_map f s.all.items) (server - 1) d

  course_same : list_map unshown after.posts ≡ list_map unshown s.posts → seat_of G y ≡ seat_of G x → course_of G after ≡ course_of G s
  course_same posts same = (let seats : list_map (seat_of G) after.all.items ≡ list_map (seat_of G) s.all.items = map_same (seat_of G) (seat_of G x) same in λ i. record { seats = seats i; posts = posts i })

  -- nothing changed
  pub unchanged : after.posts ≡ s.posts → IsStill x y → IsUnchanged G s after
  unchanged posts still = record {
    servers = map_same (λ (z : Station V). z.server) x.server still.server;
    course = course_same (ap (list_map unshown) posts) (λ i. seat_for G (still.fused i) (still.ranks i) (still.server i));
  }

  -- it took no step
  module _ (n : NodeState V) (stood : x.server ≡ standing n) (posts : after.posts ≡ s.posts) (h : IsLeftUntouched G x y n) where
    calm_one : AreCalmSince G s after
    calm_one k = elim (cases_eq (k - 1) (server - 1)) [
      | inl same ↦
          let was : server_at s k ≡ standing n = ap (λ (i : ℕ). server_in (slice_get s.all.items i)) same ∙ ap server_in there ∙ stood in
          let now : server_at after k ≡ standing h.after = ap (λ (i : ℕ). server_in (slice_get after.all.items i)) same ∙ ap server_in (now_there G s after on server here x y there items) ∙ h.stands in
          subst (λ (o : Option (Server V)). IsCalmSince G o (server_at after k)) (sym was)
          (subst (λ (o : Option (Server V)). IsCalmSince G (standing n) o) (sym now) (λ calm. (subst AreCalm h.untouched.journal calm, h.untouched.faults)))
      | inr away ↦ subst (λ (o : Option (Server V)). IsCalmSince G (server_at s k) o) (sym (ap server_in (others_there G s after on server here x y there items (k - 1) away))) (λ calm. (calm, refl))
    ]

    each_still : (i : ℕ) (z : Station V) (m : NodeState V) → slice_get s.all.items i ≡ Some z → z.server ≡ standing m → IsStillThere G m (slice_get after.all.items i)
    each_still i z m found stands = elim (cases_eq i (server - 1)) [
      | inl same ↦
          let one : z ≡ x = same_some (slice_get s.all.items (server - 1)) z x (ap (slice_get s.all.items) (sym same) ∙ found) there in
          let is : n ≡ m = one_of x.server n m stood (ap (λ (w : Station V). w.server) (sym one) ∙ stands) in
          record {
            station = y;
            there = ap (slice_get after.all.items) same ∙ now_there G s after on server here x y there items;
            node = h.after;
            stands = h.stands;
            untouched = subst (λ (k : NodeState V). IsUntouched G k h.after) is h.untouched;
          }
      | inr away ↦ record { station = z; there = others_there G s after on server here x y there items i away ∙ found; node = m; stands = stands; untouched = untouched G m }
    ]

    pub no_further : IsNoFurther G s after
    no_further = record {
      course = course_same (ap (list_map unshown) posts)
          (ap (seat_for G y.is_fused y.ranks.items) h.stands ∙ seat_still G x.is_fused y.is_fused x.ranks.items y.ranks.items n h.after h.untouched h.fused h.ranks ∙ sym (ap (seat_for G x.is_fused x.ranks.items) stood));
      each = each_still;
      openings = map_same (λ (z : Station V). opening_in z.server) None (ap opening_in h.stands ∙ ap (λ (o : Opened V). Some o) h.untouched.opening ∙ sym (ap opening_in stood));
      calm = calm_one;
    }

  up_there : (n : NodeState V) → x.server ≡ standing n → n.kept.is_down ≡ false → (seat_at (course_of G s) server).stand.is_down ≡ false
  up_there n stood up = ap (λ (z : Seat). z.stand.is_down) (seat_stands G s on server here x there n stood) ∙ up

  full_there : (n : NodeState V) → x.server ≡ standing n → entries_limit ≤ length n.journal → entries_limit ≤ (seat_at (course_of G s) server).stand.place
  full_there n stood full = subst (λ (z : Seat). entries_limit ≤ z.stand.place) (sym (seat_stands G s on server here x there n stood)) full

  room_there : (n : NodeState V) → x.server ≡ standing n → length n.journal < entries_limit → (seat_at (course_of G s) server).stand.place < entries_limit
  room_there n stood room = subst (λ (z : Seat). z.stand.place < entries_limit) (sym (seat_stands G s on server here x there n stood)) room

  -- a step of an event was not taken as it is to be
  module _ (n : NodeState V) (stood : x.server ≡ standing n) (number : n.kept.server ≡ server) (posts : after.posts ≡ s.posts) (seen : ℕ) (e : Event) where
    full_here : HasNoRoom n n → IsStill x y → HasNoRoomFor G server s after
    full_here room still = record { still = unchanged posts still; up = up_there n stood room.up; full = full_there n stood room.full }

    fails_here : IsLeftFailed G seen e x y n → FailsFor G server seen e s after
    fails_here h = record {
      here = here;
      up = up_there n stood h.failed.up;
      room = room_there n stood h.failed.room;
      station = x;
      left = y;
      was = n;
      there = there;
      stood = stood;
      others = items;
      posts = posts;
      fails = h;
    }

    pub ends_here : (f : RunFault) → EndsEvent G f seen e x y n → EndsEventAt G f server seen e s after
    ends_here fault.JournalFull h = full_here h.0 h.1
    ends_here fault.OutOfMemory h = no_further n stood posts h
    ends_here (fault.DiskFault m) h = (h.0 ∙ number, fails_here h.1)
    ends_here (fault.Start m f) h = absurd h

  -- its server did not start again
  pub no_restart : (pick : ℕ) (n : NodeState V) → x.server ≡ standing n → n.kept.server ≡ server → after.posts ≡ s.posts → (f : RunFault) → EndsRestart G pick f x y n → DidSome G (Just (at server (restarted pick) ∷ [])) f s after
  no_restart pick n stood number posts = go
    where
      due_at : (m : ℕ) → m ≡ n.kept.server → IsRestartAt m (to_come (at server (restarted pick)))
      due_at m named = record { restart = tt; there = sym number ∙ sym named }

      cause : (m : ℕ) (f : StartFault) → EndsHere G pick (fault.Start m f) n y.server → IsEndFor (fault.Start m f) (course_of G s) (to_come (at server (restarted pick)))
      cause m (start_fault.Vault f) h = due_at m h.2
      cause m start_fault.BadNote h = due_at m h.2
      cause m start_fault.EpochEnd h =
          let (d, left, named, stays) = h in
          record {
            again = due_at m named;
            last = ap (λ (k : ℕ). (seat_at (course_of G s) k).stand.epoch) (named ∙ number) ∙ ap (λ (z : Seat). z.stand.epoch) (seat_stands G s on server here x there n stood) ∙ sym stays.falls.epoch ∙ stays.stays.cause.0;
          }

      go : (f : RunFault) → EndsRestart G pick f x y n → DidSome G (Just (at server (restarted pick) ∷ [])) f s after
      go (fault.DiskFault m) h = absurd h
      go fault.JournalFull h = absurd h
      go fault.OutOfMemory h = record {
        at_end = s;
        hs = [];
        due = to_come (at server (restarted pick));
        cut = cut_just (at server (restarted pick));
        goes = go_none G s on;
        ends = tt;
        left = no_further n stood posts (record { after = n; stands = h.server ∙ stood; untouched = untouched G n; ranks = h.ranks; fused = h.fused });
      }
      go (fault.Start m f) h = record {
        at_end = s;
        hs = [];
        due = to_come (at server (restarted pick));
        cut = cut_just (at server (restarted pick));
        goes = go_none G s on;
        ends = cause m f h;
        left = record { number = server; here = here; pick = pick; station = x; left = y; node = n; there = there; stood = stood; number_is = number; others = items; ends = h };
      }

-- an event was to happen at a server
pub ends_at : {V : Type 0} (G : Ghosts V) (s after : Stations V) (on : AreOn G s) (server : ℕ) (h : Happening) (e : Event) → IsOfEvent h e → (f : RunFault) → EndsEventAt G f server 0 e s after → DidSome G (Just (at server h ∷ [])) f s after
ends_at {V} G s after on server h e is = go
  where
    done : (f : RunFault) → IsEndFor f (course_of G s) (to_come (at server h)) → EndsFor G f (to_come (at server h)) s after → DidSome G (Just (at server h ∷ [])) f s after
    done f ends left = record { at_end = s; hs = []; due = to_come (at server h); cut = cut_just (at server h); goes = go_none G s on; ends = ends; left = left }

    failed : (m : ℕ) → m ≡ server → FailsFor G server 0 e s after → DidSome G (Just (at server h ∷ [])) (fault.DiskFault m) s after
    failed m same k = subst (λ (i : ℕ). DidSome G (Just (at server h ∷ [])) (fault.DiskFault i) s after) (sym same) (record {
      at_end = s;
      hs = [];
      due = to_come (at server h);
      cut = cut_just (at server h);
      goes = go_none G s on;
      ends = record { step = event_makes h e is; there = refl; up = k.up; room = k.room };
      left = record { here = k.here; station = k.station; left = k.left; was = k.was; there = k.there; stood = k.stood; others = k.others; posts = ap (list_map unshown) k.posts; event = e; its = is; fails = k.fails };
    })

    go : (f : RunFault) → EndsEventAt G f server 0 e s after → DidSome G (Just (at server h ∷ [])) f s after
    go fault.JournalFull k = done fault.JournalFull (record { step = event_makes h e is; up = k.up; full = k.full }) k.still
    go fault.OutOfMemory k = done fault.OutOfMemory tt k
    go (fault.DiskFault m) k = failed m k.0 k.1
    go (fault.Start m f) k = absurd k
