-- Loops over the servers of a run, and what comes behind them.
use Rattle.std.specs.Prelude.{◌&&◌, not, Bool, true, false, map as list_map, slice_get, Option, None, Some, is_some}
use Rattle.std.proofs.Common.{◌≡◌, ℕ, ◌+◌, ◌-◌, ◌<◌, ◌≤◌, List, [], ◌∷◌, length, refl, sym, ◌∙◌, ap, subst, arith}
use Rattle.std.proofs.lemmas.List.{length-map}
use Rattle.alp_base.specs.declared.ids.TransId.{TransId}
use Rattle.alp_journal.specs.declared.message.Message.{Message}
use Rattle.alp_node.specs.NodeStates.{NodeState}
use Rattle.alp_vault.specs.declared.vault.Vault.{Ghosts}
use Rattle.alp_course.specs.Courses.{Course, Seat, Occurrence, IsSeat, seat_at, next_message, is_waiting, AreCourse}
use Rattle.alp_course.specs.Languages.{Language, Just, Each}
use Rattle.alp_course.specs.Plays.{timeouts_at}
use Rattle.alp_course.specs.Settles.{IsLifted, AreTimedOut, IsUpIn}
use Rattle.alp_course.proofs.UpLemmas.{course_up, calm_timed, timeout_up, lifted_up}
use Rattle.alp_cluster.specs.Messages.{DidSay}
use Rattle.alp_cluster.specs.Settled.{IsUpAt, AreUp}
use Rattle.alp_cluster.specs.Station.{standing, seat_of}
use Rattle.alp_cluster.specs.Stations.{AreOn, AreLater, IsManned, IsOneOf, Did, DidSome, course_of}
use Rattle.alp_cluster.specs.declared.fault.RunFault.{RunFault}
use Rattle.alp_cluster.specs.declared.station.Station.{Station}
use Rattle.alp_cluster.specs.declared.stations.Stations.{Stations}
use Rattle.alp_cluster.proofs.CarryLemmas.{count_later}
use Rattle.alp_cluster.proofs.DidLemmas.{passes_course}
use Rattle.alp_cluster.proofs.StationsLemmas.{its, seat_stands}

-- ---- whether a message waits

pub waits_not : (r : Course) (from to : ℕ) → next_message r from to ≡ None → false ≡ is_waiting r from to
waits_not r from to none = ap (λ (o : Option Message). is_some o && not (seat_at r to).stand.is_down) (sym none)

pub waits_there : (r : Course) (from to : ℕ) (o : Option Message) → next_message r from to ≡ o → is_some o ≡ true → (down : Bool) → (seat_at r to).stand.is_down ≡ down → not down ≡ is_waiting r from to
waits_there r from to o next some down is =
    ap (λ (b : Bool). b && not down) (sym some) ∙ ap (λ (q : Option Message). is_some q && not down) (sym next) ∙ ap (λ (b : Bool). is_some (next_message r from to) && not b) (sym is)

module _ {V : Type 0} (G : Ghosts V) where
  -- ---- the server at a place

  pub stands_there : (s : Stations V) → AreOn G s → (server : ℕ) → IsOneOf s server → (x : Station V) → slice_get s.all.items (server - 1) ≡ Some x → (n : NodeState V) × (x.server ≡ standing n)
  stands_there s on server here x there = (let mine : IsManned G (length s.all.items) server x = its G s on server here x there in (mine.node, mine.keeps.stands))

  pub stands_at : (s : Stations V) → AreOn G s → (i : ℕ) (x : Station V) → slice_get s.all.items i ≡ Some x → (n : NodeState V) × (x.server ≡ standing n)
  stands_at s on i x there = (let mine : IsManned G (length s.all.items) (i + 1) x = on.each i x there in (mine.node, mine.keeps.stands))

  pub down_is : (s : Stations V) (on : AreOn G s) (server : ℕ) (here : IsOneOf s server) (x : Station V) → slice_get s.all.items (server - 1) ≡ Some x → (n : NodeState V) → x.server ≡ standing n → (r : Course) → course_of G s ≡ r → (seat_at r server).stand.is_down ≡ n.kept.is_down
  down_is s on server here x there n stood r is = ap (λ (c : Course). (seat_at c server).stand.is_down) (sym is) ∙ ap (λ (z : Seat). z.stand.is_down) (seat_stands G s on server here x there n stood)

  -- ---- the next server of a loop

  pub next_one : (a b : Stations V) (i count : ℕ) → AreLater G a b → count ≡ length a.all.items → i < count → IsOneOf b (i + 1)
  next_one a b i count later all low = record { first = omega arith; last = (let same : length b.all.items ≡ length a.all.items = count_later G a b later in omega (arith, same, all, low)) }

  pub next_small : (s : Stations V) (i count : ℕ) → AreOn G s → count ≡ length s.all.items → i < count → i + 1 < 256
  next_small s i count on all low = (let few : length s.all.items ≤ 8 = on.few in omega (arith, few, all, low))

  pub next_seat : (s : Stations V) (i : ℕ) → IsOneOf s (i + 1) → IsSeat (course_of G s) (i + 1)
  next_seat s i one = record { first = one.first; last = (let many : length (list_map (seat_of G) s.all.items) ≡ length s.all.items = length-map s.all.items (seat_of G) in let last : i + 1 ≤ length s.all.items = one.last in omega (arith, many, last)) }

  -- what is said of so many servers is said of all of them
  pub did_count : (A : ℕ → Language) (i n : ℕ) (a b : Stations V) → i ≡ n → Did G (A i) a b → Did G (A n) a b
  did_count A i n a b is d = subst (λ (k : ℕ). Did G (A k) a b) is d

  pub some_count : (A : ℕ → Language) (i n : ℕ) (f : RunFault) (a b : Stations V) → i ≡ n → DidSome G (A i) f a b → DidSome G (A n) f a b
  some_count A i n f a b is d = subst (λ (k : ℕ). DidSome G (A k) f a b) is d

  pub say_count : (A : ℕ → Language) (i n : ℕ) (some : Bool) (a b : Stations V) → i ≡ n → DidSay G (A i) some a b → DidSay G (A n) some a b
  say_count A i n some a b is d = subst (λ (k : ℕ). DidSay G (A k) some a b) is d

  pub all_done : (s : Stations V) (i count : ℕ) → count ≡ length s.all.items → i ≤ count → count ≤ i → i ≡ length s.all.items
  all_done s i count all low high = omega (arith, all, low, high)

  -- ---- servers that are up

  pub timed_up : (n : ℕ) (a b : Stations V) → Did G (AreTimedOut n) a b → AreUp G a → AreUp G b
  timed_up n a b d up = course_up (course_of G a) (course_of G b) d.hs (calm_timed n d.hs d.word) (passes_course G d.hs a b d.goes.passes) up

  pub one_timed_up : (n : ℕ) (t : TransId) (a b : Stations V) → Did G (Just (timeouts_at n (Some t))) a b → IsUpAt G n a → IsUpAt G n b
  one_timed_up n t a b d up =
      let (mid, first, same) = subst (λ (xs : List Occurrence). AreCourse (course_of G a) xs (course_of G b)) d.word (passes_course G d.hs a b d.goes.passes) in
      subst (λ (r : Course). IsUpIn (seat_at r n)) (sym same) (timeout_up (course_of G a) mid n t first up)

  pub lifted_all_up : (a b : Stations V) → Did G (Each IsLifted (length a.all.items)) a b → AreUp G b
  lifted_all_up a b d =
      let many : length (list_map (seat_of G) a.all.items) ≡ length a.all.items = length-map a.all.items (seat_of G) in
      lifted_up (course_of G a) (course_of G b) d.hs (subst (λ (n : ℕ). Each IsLifted n d.hs) (sym many) d.word) (passes_course G d.hs a b d.goes.passes)
