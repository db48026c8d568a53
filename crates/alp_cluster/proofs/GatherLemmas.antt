-- A run of servers that did nothing yet, before the first line.
use Rattle.std.specs.Prelude.{false, map as list_map, slice_get, Option, None, Some, IfSome, Vec, replicate}
use Rattle.std.specs.Global.{Global}
use Rattle.std.specs.List.{AllByRecursion}
use Rattle.std.proofs.Common.{inl, inr, ◌≡◌, ℕ, zero, suc, ◌+◌, ◌-◌, ◌<◌, ◌≤◌, ◌^◌, List, [], ◌∷◌, ◌++◌, length, refl, sym, ◌∙◌, ap, subst, arith}
use Rattle.std.proofs.lemmas.List.{length-replicate, length-map}
use Rattle.alp_base.specs.declared.ids.TransId.{TransId}
use Rattle.alp_fields.specs.ClockNote.{clock_kept}
use Rattle.alp_journal.specs.Along.{state_after}
use Rattle.alp_journal.specs.Moves.{next}
use Rattle.alp_journal.specs.State.{opened}
use Rattle.alp_journal.specs.declared.entry.Entry.{Entry}
use Rattle.alp_journal.specs.declared.log.Item.{Item}
use Rattle.alp_journal.specs.Timely.{IsTimelyMessage}
use Rattle.alp_node.specs.NodeStates.{NodeState}
use Rattle.alp_node.specs.Nodes.{start_in}
use Rattle.alp_node.specs.declared.server_state.ServerState.{ServerState}
use Rattle.alp_posts.specs.Post.{Post, nothing_taken}
use Rattle.alp_posts.specs.Posts.{AreServers, IsTable, IsUntaken, Fits, post_at}
use Rattle.alp_session.specs.Clients.{new_client}
use Rattle.alp_session.specs.Crowd.{Crowd}
use Rattle.alp_session.specs.Crowds.{new_crowd, client_at}
use Rattle.alp_session.specs.Frames.{IsRequestOf}
use Rattle.alp_vault.specs.declared.vault.Vault.{Ghosts}
use Rattle.alp_course.specs.Courses.{Course, Seat, first_seat}
use Rattle.alp_course.specs.Happens.{first_stand}
use Rattle.alp_course.specs.Links.{AreNumbered, AreIdle, IsFirst}
use Rattle.alp_cluster.specs.Clients.{IsInStep, InStep, HasReached, SpellsPast, IsWithin, HasSentFor, IsToldOf, SpellsOfTold, HasSaid, session_of}
use Rattle.alp_cluster.specs.Come.{Come, none_come}
use Rattle.alp_cluster.specs.Gathered.{AreStationsOf, AreGathered, AreNew}
use Rattle.alp_cluster.specs.Runs.{HasPlayed}
use Rattle.alp_cluster.specs.Servers.{IsOn, IsIdle, stand_of}
use Rattle.alp_cluster.specs.Station.{standing, seat_for, seat_of}
use Rattle.alp_cluster.specs.Stations.{AreOn, IsManned, IsReachedBy, unshown, course_of, journals_in, state_in, state_for, state_at}
use Rattle.alp_cluster.specs.declared.parties.Parties.{Parties}
use Rattle.alp_cluster.specs.declared.station.Station.{Station}
use Rattle.alp_cluster.specs.declared.stations.Stations.{Stations}
use Rattle.alp_cluster.proofs.MessageLemmas.{unshown_at}
use Rattle.alp_cluster.proofs.RunLemmas.{new_list, new_session, new_told, new_begun, new_frames, no_last, no_before}

some_same : {X : Type 0} (y x : X) → Some y ≡ Some x → y ≡ x
some_same y x is = cc

nothing_there : {X : Type 0} (i : ℕ) (x : X) → slice_get [] i ≡ Some x → ⊥
nothing_there i x is = cc

module _ {V : Type 0} (G : Ghosts V) (servers : ℕ) where
  -- ---- one of them

  record Stood (number : ℕ) (x : Station V) : Type 0 where
    node : NodeState V
    server : x.server ≡ standing node
    ranks : x.ranks.items ≡ []
    fused : x.is_fused ≡ false
    on : IsOn G node
    idle : IsIdle G node
    number_is : node.kept.server ≡ number
    count_is : node.kept.servers ≡ servers

  first_of : (number : ℕ) (n : NodeState V) (ns : List (NodeState V)) (x : Station V) (xs : List (Station V)) → AreStationsOf (n ∷ ns) (x ∷ xs) → AreNew G servers number (n ∷ ns) → Stood number x
  first_of number n ns x xs h k = record { node = n; server = h.0; ranks = h.1; fused = h.2; on = k.0; idle = k.1; number_is = k.2; count_is = k.3 }

  first_case : (number : ℕ) (y x : Station V) → Some y ≡ Some x → Stood number y → Stood (number + 0) x
  first_case number y x at one =
      let is : y ≡ x = some_same y x at in
      let same : number ≡ number + 0 = omega arith in
      subst (λ (m : ℕ). Stood m x) same (subst (Stood number) is one)

  later_case : (number i : ℕ) (x : Station V) → Stood (number + 1 + i) x → Stood (number + suc i) x
  later_case number i x one = (let same : number + 1 + i ≡ number + suc i = omega arith in subst (λ (m : ℕ). Stood m x) same one)

  one_there : (number : ℕ) (ns : List (NodeState V)) (xs : List (Station V)) → AreStationsOf ns xs → AreNew G servers number ns → (i : ℕ) (x : Station V) → slice_get xs i ≡ Some x → Stood (number + i) x
  one_there number [] [] h k i x at = absurd (nothing_there i x at)
  one_there number [] (y ∷ ys) h k i x at = absurd h
  one_there number (n ∷ ns) [] h k i x at = absurd h
  one_there number (n ∷ ns) (y ∷ ys) h k zero x at = first_case number y x at (first_of number n ns y ys h k)
  one_there number (n ∷ ns) (y ∷ ys) h k (suc i) x at = later_case number i x (one_there (number + 1) ns ys h.3 k.4 i x at)

  module _ (number : ℕ) (x : Station V) (s : Stood number x) where
    manned_new : IsManned G servers number x
    manned_new = record {
      node = s.node;
      keeps = record { stands = s.server; on = s.on; free = λ e. s.idle.free; ranked = ap (λ (rs : List ℕ). length rs) s.ranks ∙ sym (ap (λ (js : List Entry). length js) s.idle.journal) };
      number_is = s.number_is;
      count_is = s.count_is;
    }

    -- the epoch that it was started in is its own
    epoch_noted : (start_in G s.node).epoch ≡ s.node.kept.epoch
    epoch_noted = ap (λ (v : V). (clock_kept (G.held v).notes).epoch) s.idle.opening ∙ (s.on.kept.noted s.idle.up).epoch

    stands_first : stand_of G false s.node ≡ first_stand (start_in G s.node)
    stands_first = λ i. record {
      server = s.node.kept.server;
      epoch = sym epoch_noted i;
      is_down = s.idle.up i;
      is_fused = false;
      place = ap (λ (js : List Entry). length js) s.idle.journal i;
      state = ap (λ (js : List Entry). state_after next (opened (start_in G s.node)) js) s.idle.journal i;
    }

    seat_new : seat_of G x ≡ first_seat (start_in G s.node) (G.tells s.node.kept.vault)
    seat_new =
        (λ i. seat_for G (s.fused i) (s.ranks i) (s.server i))
        ∙ (λ i. record { opening = start_in G s.node; tells = G.tells s.node.kept.vault; stand = stands_first i; journal = s.idle.journal i; ranks = [] })

    seat_numbered : (seat_of G x).opening.server ≡ number
    seat_numbered = ap (λ (z : Seat). z.opening.server) seat_new ∙ s.number_is

    seat_idle : seat_of G x ≡ first_seat (seat_of G x).opening (seat_of G x).tells
    seat_idle = seat_new ∙ (λ i. first_seat (sym (ap (λ (z : Seat). z.opening) seat_new) i) (sym (ap (λ (z : Seat). z.tells) seat_new) i))

  -- ---- all of them

  all_numbered : (number : ℕ) (ns : List (NodeState V)) (xs : List (Station V)) → AreStationsOf ns xs → AreNew G servers number ns → AreNumbered number (list_map (seat_of G) xs)
  all_numbered number [] [] h k = tt
  all_numbered number [] (y ∷ ys) h k = absurd h
  all_numbered number (n ∷ ns) [] h k = absurd h
  all_numbered number (n ∷ ns) (y ∷ ys) h k = (seat_numbered number y (first_of number n ns y ys h k), all_numbered (number + 1) ns ys h.3 k.4)

  all_idle : (number : ℕ) (ns : List (NodeState V)) (xs : List (Station V)) → AreStationsOf ns xs → AreNew G servers number ns → AreIdle (list_map (seat_of G) xs)
  all_idle number [] [] h k = tt
  all_idle number [] (y ∷ ys) h k = absurd h
  all_idle number (n ∷ ns) [] h k = absurd h
  all_idle number (n ∷ ns) (y ∷ ys) h k = (seat_idle number y (first_of number n ns y ys h k), all_idle (number + 1) ns ys h.3 k.4)

  as_many : (ns : List (NodeState V)) (xs : List (Station V)) → AreStationsOf ns xs → length xs ≡ length ns
  as_many [] [] h = refl
  as_many [] (y ∷ ys) h = absurd h
  as_many (n ∷ ns) [] h = absurd h
  as_many (n ∷ ns) (y ∷ ys) h = ap suc (as_many ns ys h.3)

  -- ---- the run

  module _ (ns : List (NodeState V)) (p : Parties V) (vs : List (Vec Item Global)) (printed : List ℕ) (h : AreGathered ns p vs printed) (new : AreNew G servers 1 ns) (count : length ns ≡ servers) (some : 1 ≤ servers) (few : servers ≤ 8) where
    abbrev s : Stations V
    s = p.stations

    many : length s.all.items ≡ servers
    many = as_many ns s.all.items h.stations ∙ count

    there : (i : ℕ) (x : Station V) → slice_get s.all.items i ≡ Some x → Stood (i + 1) x
    there i x is = (let same : 1 + i ≡ i + 1 = omega arith in subst (λ (m : ℕ). Stood m x) same (one_there 1 ns s.all.items h.stations new i x is))

    gathered_on : AreOn G s
    gathered_on = record {
      some = omega (arith, many, some);
      few = omega (arith, many, few);
      each = λ i x is. subst (λ (m : ℕ). IsManned G m (i + 1) x) (sym many) (manned_new (i + 1) x (there i x is));
      fits = record { table = h.table; shown = λ from to two. record { more = journals_in (course_of G s) from; is = ap (λ (q : Post). q.shown ++ journals_in (course_of G s) from) (sym (h.untaken from to two)) } };
      timely = λ from to two. subst (λ (q : Post). IfSome q.last (λ z. IsTimelyMessage z.0)) (sym (h.untaken from to two)) tt;
    }

    first_course : IsFirst (course_of G s)
    first_course = record {
      few = (let same : length (list_map (seat_of G) s.all.items) ≡ length s.all.items = length-map s.all.items (seat_of G) in omega (arith, same, many, few));
      numbered = all_numbered 1 ns s.all.items h.stations new;
      idle = all_idle 1 ns s.all.items h.stations new;
      table = record {
        full = length-map s.posts unshown ∙ h.table.full;
        there = λ from to two. ap (λ (q : Post). q.to) (unshown_at s.posts h.table from to two) ∙ h.table.there from to two;
      };
      untaken = λ from to two. unshown_at s.posts h.table from to two ∙ ap unshown (h.untaken from to two);
    }

    -- each server has a first epoch, and so has come to no call
    reached_none : (n k : ℕ) → IsReachedBy (state_at s n) k none_come
    reached_none n k = go (slice_get s.all.items (n - 1)) refl
      where
        go : (o : Option (Station V)) → slice_get s.all.items (n - 1) ≡ o → IsReachedBy (state_for o) k none_come
        go None at = tt
        go (Some x) at =
            let one : Stood (n - 1 + 1) x = there (n - 1) x at in
            subst (λ (q : Option (ServerState V)). IsReachedBy q k none_come) (sym (ap state_in one.server)) (inl one.on.kept.ready.raised)

    said_none : (k : ℕ) → HasSaid (state_at s) k (client_at new_crowd k) []
    said_none k = record {
      to = λ n. record {
        numbered = tt;
        within = subst (λ (o : Option Come). IsWithin o none_come) (sym (new_session n k)) tt;
        reached = reached_none n k;
        many = subst (λ (o : Option Come). HasSentFor 0 o) (sym (new_session n k)) tt;
      };
      told = tt;
      seen = tt;
      begun = subst (λ (o : Option TransId). IfSome o (λ t. IsToldOf t [])) (sym (new_begun k)) tt;
      last = no_last (λ f. SpellsOfTold [] f.bytes) (client_at new_crowd k) (new_frames k);
      before = no_before (λ f. SpellsOfTold [] f.bytes) (client_at new_crowd k) (new_frames k);
      outcomes = tt;
    }

    step_none : InStep G new_crowd s
    step_none = record {
      on = gathered_on;
      places = length-replicate 17 new_client;
      each = λ k. record {
        session = λ n. subst (λ (o : Option Come). HasReached (state_at s n) k o) (sym (new_session n k)) tt;
        told = (let low : (client_at new_crowd k).told.ts ≡ 0 = new_told k in omega (arith, low));
        frames = record { last = no_last (λ f. IsRequestOf k f.bytes) (client_at new_crowd k) (new_frames k); before = no_before (λ f. IsRequestOf k f.bytes) (client_at new_crowd k) (new_frames k) };
        past = record {
          last = no_last (λ f. SpellsPast (state_at s f.server) k (session_of f.server (client_at new_crowd k)) f.bytes) (client_at new_crowd k) (new_frames k);
          before = no_before (λ f. SpellsPast (state_at s f.server) k (session_of f.server (client_at new_crowd k)) f.bytes) (client_at new_crowd k) (new_frames k);
        };
      };
    }

    -- no line was played
    pub played_none : HasPlayed G servers [] p.clients s vs printed
    played_none = subst (λ (d : Crowd). HasPlayed G servers [] d s vs printed) (sym h.clients) (record {
      step = step_none;
      count = many;
      turns = [];
      happened = [];
      plays = (refl, refl, refl);
      places = h.many;
      lists = λ k. new_list vs k h.empty;
      few = λ k. omega arith;
      said = λ low k. said_none k;
      text = h.blank;
      ran = record { first = course_of G s; is_first = first_course; course = refl };
    })
