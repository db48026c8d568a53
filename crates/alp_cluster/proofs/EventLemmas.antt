-- What happens at one server of a run.
use Rattle.std.specs.Prelude.{Bool, slice_get, slice_set, Some}
use Rattle.std.proofs.Common.{◌≡◌, ℕ, ◌-◌, List, [], ◌∷◌, subst}
use Rattle.alp_journal.specs.declared.entry.Entry.{Entry}
use Rattle.alp_journal.specs.declared.event.Event.{Event}
use Rattle.alp_node.specs.NodeStates.{NodeState}
use Rattle.alp_vault.specs.declared.vault.Vault.{Ghosts}
use Rattle.alp_course.specs.Courses.{at}
use Rattle.alp_course.specs.Happens.{Happening, timed_out, ticked, forced, stop_set, restarted, lifts, Stand, ComesTo, Happens}
use Rattle.alp_course.specs.Languages.{Just}
use Rattle.alp_cluster.specs.Fills.{MakesEntry, IsOfEvent}
use Rattle.alp_cluster.specs.Servers.{HasStopSet, StartsAgain}
use Rattle.alp_cluster.specs.Station.{standing, WentBy}
use Rattle.alp_cluster.specs.Stations.{AreOn, IsOneOf, Crashes, Go, Did}
use Rattle.alp_cluster.specs.declared.station.Station.{Station}
use Rattle.alp_cluster.specs.declared.stations.Stations.{Stations}
use Rattle.alp_cluster.proofs.DidLemmas.{go_one, did_just}
use Rattle.alp_cluster.proofs.StationsLemmas.{later_then, at_then, now_there}

-- ---- an event that is no call

pub event_happens : (h : Happening) (e : Event) → IsOfEvent h e → (tells : Bool) (w : Stand) (es : List Entry) (v : Stand) → ComesTo w w.is_down e es v → Happens tells w h es v
event_happens (timed_out t) e is tells w es v c = subst (λ (x : Event). ComesTo w w.is_down x es v) is c
event_happens ticked e is tells w es v c = subst (λ (x : Event). ComesTo w w.is_down x es v) is c
event_happens forced e is tells w es v c = subst (λ (x : Event). ComesTo w w.is_down x es v) is c
event_happens h e is tells w es v c = absurd is

pub event_makes : (h : Happening) (e : Event) → IsOfEvent h e → MakesEntry h
event_makes (timed_out t) e is = tt
event_makes ticked e is = tt
event_makes forced e is = tt
event_makes h e is = absurd is

no_crash : {V : Type 0} (G : Ghosts V) (n : ℕ) (a b : Stations V) (h : Happening) (e : Event) → IsOfEvent h e → Crashes G (at n h) a b
no_crash G n a b (timed_out t) e is = tt
no_crash G n a b ticked e is = tt
no_crash G n a b forced e is = tt
no_crash G n a b h e is = absurd is

module _ {V : Type 0} (G : Ghosts V) (s after : Stations V) (on : AreOn G s) (server : ℕ) (here : IsOneOf s server) (x y : Station V) (there : slice_get s.all.items (server - 1) ≡ Some x) (items : after.all.items ≡ slice_set s.all.items (server - 1) y) (posts : after.posts ≡ s.posts) (n : NodeState V) (stood : x.server ≡ standing n) where
  -- what happened is of the course
  goes_on : (h : Happening) → WentBy G 0 (λ w es v. Happens (G.tells n.kept.vault) w h es v) x y n → Crashes G (at server h) s after → Go G (at server h ∷ []) s after
  goes_on h w crashes =
      let Makes : Stand → List Entry → Stand → Type 0 = λ w es v. Happens (G.tells n.kept.vault) w h es v in
      go_one G (at server h) s after (later_then G s after on server here x y there items posts n stood 0 Makes w) (at_then G s after on server here x y there items posts n stood 0 Makes w (λ z es v. Happens z.tells z.stand h es v) (λ es v made. made)) crashes

  pub event_did : (h : Happening) (e : Event) → IsOfEvent h e → WentBy G 0 (λ w es v. ComesTo w w.is_down e es v) x y n → Did G (Just (at server h ∷ [])) s after
  event_did h e is w =
      let Makes : Stand → List Entry → Stand → Type 0 = λ w es v. ComesTo w w.is_down e es v in
      did_just G (at server h) s after
      (go_one G (at server h) s after (later_then G s after on server here x y there items posts n stood 0 Makes w)
      (at_then G s after on server here x y there items posts n stood 0 Makes w (λ z es v. Happens z.tells z.stand h es v) (λ es v made. event_happens h e is (G.tells n.kept.vault) _ es v made)) (no_crash G server s after h e is))

  pub stop_did : (calls : ℕ) → WentBy G 0 (λ w es v. Happens (G.tells n.kept.vault) w (stop_set calls) es v) x y n → (m : NodeState V) × (y.server ≡ standing m) × HasStopSet G calls n m → Did G (Just (at server (stop_set calls) ∷ [])) s after
  stop_did calls w sets =
      let (m, stands, set) = sets in
      did_just G (at server (stop_set calls)) s after
      (goes_on (stop_set calls) w (record { stood_node = n; set_node = m; was = x; is = y; there = there; stood = stood; here = now_there G s after on server here x y there items; stands = stands; set = set }))

  pub lift_did : (down : Bool) → WentBy G 0 (λ w es v. Happens (G.tells n.kept.vault) w (lifts down) es v) x y n → Did G (Just (at server (lifts down) ∷ [])) s after
  lift_did down w = did_just G (at server (lifts down)) s after (goes_on (lifts down) w tt)

  pub restart_did : (pick : ℕ) → WentBy G 0 (λ w es v. Happens (G.tells n.kept.vault) w (restarted pick) es v) x y n → (m : NodeState V) × (y.server ≡ standing m) × StartsAgain G pick n m → Did G (Just (at server (restarted pick) ∷ [])) s after
  restart_did pick w again =
      let (m, stands, starts) = again in
      did_just G (at server (restarted pick)) s after
      (goes_on (restarted pick) w (record { fell = n; started = m; was = x; is = y; there = there; stood = stood; here = now_there G s after on server here x y there items; stands = stands; again = starts }))
