-- A server of a run is handed a frame, or a message comes to it.
use Rattle.std.specs.Prelude.{◌≢◌, map as list_map, slice_get, slice_set, Option, None, Some, IsSome}
use Rattle.std.proofs.Common.{◌≡◌, ℕ, ◌-◌, ◌≤◌, List, [], ◌∷◌, length, refl, sym, ◌∙◌, ap, subst, arith}
use Rattle.alp_fields.specs.Forms.{whole}
use Rattle.alp_journal.specs.declared.entry.Entry.{Entry}
use Rattle.alp_journal.specs.declared.event.Event.{Event}
use Rattle.alp_journal.specs.declared.event.Event.TheVariants as event
use Rattle.alp_journal.specs.declared.log.Mark.{Mark}
use Rattle.alp_journal.specs.declared.message.Message.{Message}
use Rattle.alp_node.specs.NodeStates.{NodeState}
use Rattle.alp_rpc.specs.Frames.{request}
use Rattle.alp_rpc.specs.declared.frame.Request.{Request}
use Rattle.alp_session.specs.declared.frames.Addressed.{Addressed}
use Rattle.alp_vault.specs.declared.vault.Vault.{Ghosts}
use Rattle.alp_course.specs.Courses.{at}
use Rattle.alp_course.specs.Happens.{Stand, sent_it, ComesTo, Happens}
use Rattle.alp_cluster.specs.Exchanges.{EndsHanding, event_of}
use Rattle.alp_cluster.specs.Goes.{GoesBy}
use Rattle.alp_cluster.specs.Handings.{item_made, AreHanded}
use Rattle.alp_cluster.specs.Messages.{HasArrived, FailsFor, EndsEventAt, EndsFrameAt}
use Rattle.alp_cluster.specs.Servers.{IsUntouched, stand_of}
use Rattle.alp_cluster.specs.Station.{standing, Keeps, WentBy, WasHanded, EndsEvent, EndsFrame}
use Rattle.alp_cluster.specs.Stations.{AreOn, IsManned, IsOneOf, IsNoFurther, Go, state_in, state_for, unshown}
use Rattle.alp_cluster.specs.Steps.{ExchangesNone}
use Rattle.alp_cluster.specs.declared.exchange.Handed.{Handed}
use Rattle.alp_cluster.specs.declared.fault.RunFault.{RunFault}
use Rattle.alp_cluster.specs.declared.fault.RunFault.TheVariants as fault
use Rattle.alp_cluster.specs.declared.station.Station.{Station}
use Rattle.alp_cluster.specs.declared.stations.Stations.{Stations}
use Rattle.alp_cluster.proofs.DidLemmas.{go_one}
use Rattle.alp_cluster.proofs.ExchangeLemmas.{IsServed, handed_served}
use Rattle.alp_cluster.proofs.FillLemmas.{no_further, ends_here}
use Rattle.alp_cluster.proofs.StationLemmas.{few_taken, went, fused_goes}
use Rattle.alp_cluster.proofs.StationsLemmas.{its, state_is, now_there, others_there, later_then, at_then}

module _ {V : Type 0} (G : Ghosts V) (s after : Stations V) (on : AreOn G s) (server : ℕ) (here : IsOneOf s server) (x y : Station V) (there : slice_get s.all.items (server - 1) ≡ Some x) (items : after.all.items ≡ slice_set s.all.items (server - 1) y) (posts : after.posts ≡ s.posts) (n : NodeState V) (stood : x.server ≡ standing n) where
  mine : IsManned G (length s.all.items) server x
  mine = its G s on server here x there

  same : mine.node ≡ n
  same = (let both : standing mine.node ≡ standing n = sym mine.keeps.stands ∙ stood in cc)

  keeps : Keeps G x n
  keeps = subst (Keeps G x) same mine.keeps

  -- ---- a frame

  module _ (client : ℕ) (frame : List ℕ) (h : Handed) (w : WasHanded G x y n client frame h) where
    number : n.kept.server ≡ server
    number = ap (λ (k : NodeState V). k.kept.server) (sym same) ∙ mine.number_is

    served : IsServed G n w.after client server h
    served = handed_served G n w.after client server h keeps.on (sym number) frame (whole request frame) w.handed

    handed_goes : (line : ℕ) (mark : Mark) → Go G (at server (sent_it client (item_made line server mark h)) ∷ []) s after
    handed_goes line mark =
        let Makes : Stand → List Entry → Stand → Type 0 = λ v es z. Happens (G.tells n.kept.vault) v (sent_it client (item_made line server mark h)) es z in
        let g : GoesBy G x.is_fused x.is_fused Makes n w.after = served.goes line mark x.is_fused (G.tells n.kept.vault) keeps.free in
        let f : GoesBy G x.is_fused y.is_fused Makes n w.after = fused_goes G x.is_fused y.is_fused Makes n w.after w.fused g in
        let by : WentBy G 0 Makes x y n = went G 0 Makes x y n w.after keeps w.stands f (few_taken (stand_of G x.is_fused n) client (item_made line server mark h) n.kept.is_down h.sent f.entries (stand_of G y.is_fused w.after) f.made.1) w.ranks in
        go_one G (at server (sent_it client (item_made line server mark h))) s after (later_then G s after on server here x y there items posts n stood 0 Makes by)
        (at_then G s after on server here x y there items posts n stood 0 Makes by (λ z es v. Happens z.tells z.stand (sent_it client (item_made line server mark h)) es v) (λ es v made. made)) tt

    pub handed_here : AreHanded G server client frame h s after
    handed_here = record {
      was = n;
      is = w.after;
      stood = state_is G s on server here x there n stood;
      stands = ap state_for (now_there G s after on server here x y there items) ∙ ap state_in w.stands;
      number = number;
      on = keeps.on;
      later = served.later;
      handed = w.handed;
      goes = handed_goes;
    }

  -- ---- a step was not taken as it is to be

  number_is : n.kept.server ≡ server
  number_is = ap (λ (k : NodeState V). k.kept.server) (sym same) ∙ mine.number_is

  pub event_ends : (seen : ℕ) (e : Event) (f : RunFault) → EndsEvent G f seen e x y n → EndsEventAt G f server seen e s after
  event_ends seen e = ends_here G s after on server here x y there items n stood number_is posts seen e

  pub frame_ends : (f : RunFault) (o : Option Request) → EndsFrame G f o x y n → EndsFrameAt G f server o s after
  frame_ends f None h = (h.0, no_further G s after on server here x y there items n stood posts h.1)
  frame_ends f (Some q) h = event_ends 0 (event_of q) f h

  -- ---- a message

  pub arrived : (from : ℕ) (m : Message) (seen : ℕ) → WentBy G seen (λ w es v. ComesTo w w.is_down (event.Arrive from m) es v) x y n → HasArrived G from server m seen s after
  arrived from m seen w =
      let Makes : Stand → List Entry → Stand → Type 0 = λ w es v. ComesTo w w.is_down (event.Arrive from m) es v in
      record {
        later = later_then G s after on server here x y there items posts n stood seen Makes w;
        posts = posts;
        sender = λ some away. others_there G s after on server here x y there items (from - 1) (λ e. away (let low : 1 ≤ server = here.first in omega (arith, some, low, e)));
        arrives = at_then G s after on server here x y there items posts n stood seen Makes w (λ z es v. ComesTo z.stand z.stand.is_down (event.Arrive from m) es v) (λ es v made. made);
      }

-- memory was wanting, whatever the bytes of a frame spell
pub wants_memory : {V : Type 0} (G : Ghosts V) (n m : NodeState V) (o : Option Request) → IsUntouched G n m → EndsHanding G fault.OutOfMemory n m o
wants_memory G n m None h = (refl, h)
wants_memory G n m (Some q) h = h

-- a frame did not go out
module _ {V : Type 0} (G : Ghosts V) (client : ℕ) (frame : Addressed) (s after : Stations V) where
  none_wanting : IsNoFurther G s after → ExchangesNone G fault.OutOfMemory client frame s after
  none_wanting left = record { ends = tt; left = left }

  module _ (q : Request) (spelled : whole request frame.bytes ≡ Some q) where
    spells : IsSome (whole request frame.bytes)
    spells = subst (λ (o : Option Request). IsSome o) (sym spelled) refl

    none_failed : (m : ℕ) → m ≡ frame.server → FailsFor G frame.server 0 (event_of q) s after → ExchangesNone G (fault.DiskFault m) client frame s after
    none_failed m is k = subst (λ (i : ℕ). ExchangesNone G (fault.DiskFault i) client frame s after) (sym is) (record {
      ends = record { step = spells; there = refl; up = k.up; room = k.room };
      left = record { here = k.here; station = k.station; left = k.left; was = k.was; there = k.there; stood = k.stood; others = k.others; posts = ap (list_map unshown) k.posts; event = event_of q; its = (q, spelled, refl); fails = k.fails };
    })

    none_stepped : (f : RunFault) → EndsEventAt G f frame.server 0 (event_of q) s after → ExchangesNone G f client frame s after
    none_stepped fault.JournalFull room = record { ends = record { step = spells; up = room.up; full = room.full }; left = room.still }
    none_stepped fault.OutOfMemory left = none_wanting left
    none_stepped (fault.DiskFault m) k = none_failed m k.0 k.1
    none_stepped (fault.Start m f) k = absurd k

  pub exchanges_none : (f : RunFault) (o : Option Request) → whole request frame.bytes ≡ o → EndsFrameAt G f frame.server o s after → ExchangesNone G f client frame s after
  exchanges_none f None spelled h = subst (λ (g : RunFault). ExchangesNone G g client frame s after) (sym h.0) (none_wanting h.1)
  exchanges_none f (Some q) spelled h = none_stepped q spelled f h
