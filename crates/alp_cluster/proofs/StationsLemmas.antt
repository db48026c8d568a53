-- One of the servers of a run goes on.
use Rattle.std.specs.Prelude.{◌≢◌, ◌⊎◌, map as list_map, slice_get, slice_set, Option, None, Some, IfSome, Result, Ok, Err}
use Rattle.std.proofs.Common.{inl, inr, ◌≡◌, ℕ, zero, suc, ◌+◌, ◌-◌, ◌<◌, ◌≤◌, List, [], ◌∷◌, ◌++◌, length, get_or, refl, sym, ◌∙◌, ap, subst, arith}
use Rattle.std.proofs.lemmas.List.{append-nil, length-append, length-set, length-map, map-set, set-get_or, get_or-map, get_or-set_same, get_or-set_other}
use Rattle.std.proofs.lemmas.Bool.{cases_eq}
use Rattle.alp_journal.specs.declared.entry.Entry.{Entry}
use Rattle.alp_journal.specs.Timely.{IsTimelyMessage}
use Rattle.alp_node.specs.NodeStates.{NodeState}
use Rattle.alp_node.specs.declared.opened.Opened.{Opened}
use Rattle.alp_node.specs.declared.server_state.ServerState.{ServerState}
use Rattle.alp_posts.specs.Messages.{HasGrown}
use Rattle.alp_posts.specs.Post.{Post}
use Rattle.alp_posts.specs.Posts.{Fits, post_at}
use Rattle.alp_posts.proofs.TableLemmas.{longer_fits}
use Rattle.alp_vault.specs.declared.vault.Vault.{Ghosts}
use Rattle.alp_course.specs.Courses.{Seat, no_seat, seat_at, seat_after, IsSeat, IsAt}
use Rattle.alp_course.specs.Happens.{Stand}
use Rattle.alp_course.proofs.RankLemmas.{many_from, get_below}
use Rattle.alp_cluster.specs.Come.{Come}
use Rattle.alp_cluster.specs.Goes.{opening_in}
use Rattle.alp_cluster.specs.Servers.{HasGone, IsFailure, IsToldFault, AreCountedIn, stand_of}
use Rattle.alp_cluster.specs.Station.{standing, HasVault, seat_for, seat_of, WentBy, LeavesVault}
use Rattle.alp_cluster.specs.Stations.{AreOn, AreLater, IsManned, IsOneOf, IsOfRun, LeavesOf, HaveGone, IsCalmSince, AreCalmSince, course_of, journals_in, openings_of, server_in, server_at, state_in, state_for, state_at, IsReachedBy}
use Rattle.alp_cluster.specs.declared.fault.RunFault.{RunFault}
use Rattle.alp_cluster.specs.declared.fault.RunFault.TheVariants as fault
use Rattle.alp_cluster.specs.declared.server.Server.{Server}
use Rattle.alp_cluster.specs.declared.station.Station.{Station}
use Rattle.alp_cluster.specs.declared.stations.Stations.{Stations}
use Rattle.alp_cluster.proofs.GoneLemmas.{gone_nothing, gone_among}

-- ---- a list with one place set

pub set_there : {X : Type 0} (xs : List X) (i : ℕ) (y : X) → i < length xs → slice_get (slice_set xs i y) i ≡ Some y
set_there [] i y h = absurd (omega arith)
set_there (x ∷ xs) zero y h = refl
set_there (x ∷ xs) (suc i) y h = set_there xs i y (omega arith)

pub set_elsewhere : {X : Type 0} (xs : List X) (i j : ℕ) (y : X) → j ≢ i → slice_get (slice_set xs i y) j ≡ slice_get xs j
set_elsewhere [] i j y away = refl
set_elsewhere (x ∷ xs) zero zero y away = absurd (away refl)
set_elsewhere (x ∷ xs) zero (suc j) y away = refl
set_elsewhere (x ∷ xs) (suc i) zero y away = refl
set_elsewhere (x ∷ xs) (suc i) (suc j) y away = set_elsewhere xs i j y (λ e. away (ap suc e))

pub read_or : {X : Type 0} (xs : List X) (i : ℕ) (x d : X) → slice_get xs i ≡ Some x → get_or xs i d ≡ x
read_or [] i x d h = cc
read_or (y ∷ xs) zero x d h = cc
read_or (y ∷ xs) (suc i) x d h = read_or xs i x d h

pub read_some : {X : Type 0} (xs : List X) (i : ℕ) (x : X) → i < length xs → get_or xs i x ≡ x → slice_get xs i ≡ Some x
read_some [] i x low h = absurd (omega arith)
read_some (y ∷ xs) zero x low h = ap (λ (z : _). Some z) h
read_some (y ∷ xs) (suc i) x low h = read_some xs i x (omega arith) h

pub same_some : {X : Type 0} (o : Option X) (x y : X) → o ≡ Some x → o ≡ Some y → x ≡ y
same_some o x y a b = (let same : Some x ≡ Some y = sym a ∙ b in cc)

-- ---- a server at its number

module _ {V : Type 0} (G : Ghosts V) (s : Stations V) (on : AreOn G s) (server : ℕ) (here : IsOneOf s server) (x : Station V) (there : slice_get s.all.items (server - 1) ≡ Some x) where
  pub its : IsManned G (length s.all.items) server x
  its = (let same : server - 1 + 1 ≡ server = omega (arith, here.first) in subst (λ (n : ℕ). IsManned G (length s.all.items) n x) same (on.each (server - 1) x there))

  pub seat_here : IsSeat (course_of G s) server
  seat_here = record { first = here.first; last = (let many : length (list_map (seat_of G) s.all.items) ≡ length s.all.items = length-map s.all.items (seat_of G) in let last : server ≤ length s.all.items = here.last in omega (arith, many, last)) }

  pub seat_is : seat_at (course_of G s) server ≡ seat_of G x
  seat_is = get_or-map (seat_of G) s.all.items (server - 1) x no_seat (get_below s.all.items (server - 1) x there) ∙ ap (seat_of G) (read_or s.all.items (server - 1) x x there)

  -- as the server stands there
  pub seat_stands : (n : NodeState V) → x.server ≡ standing n → seat_at (course_of G s) server ≡ seat_for G x.is_fused x.ranks.items (standing n)
  seat_stands n stood = seat_is ∙ ap (seat_for G x.is_fused x.ranks.items) stood

  pub state_is : (n : NodeState V) → x.server ≡ standing n → state_at s server ≡ Some n.kept
  state_is n stood = ap state_for there ∙ ap state_in stood

-- the number is the server's place and one
pub place_number : (i server : ℕ) → 1 ≤ server → i ≢ server - 1 → i + 1 ≢ server
place_number i server some away same = away (omega (arith, same))

-- ---- one of them goes on

module _ {V : Type 0} (G : Ghosts V) (s after : Stations V) (on : AreOn G s) (server : ℕ) (here : IsOneOf s server) (x y : Station V) (there : slice_get s.all.items (server - 1) ≡ Some x) (items : after.all.items ≡ slice_set s.all.items (server - 1) y) where
  below : server - 1 < length s.all.items
  below = get_below s.all.items (server - 1) x there

  pub many_same : length after.all.items ≡ length s.all.items
  many_same = ap (λ (xs : List (Station V)). length xs) items ∙ length-set s.all.items (server - 1) y

  pub now_there : slice_get after.all.items (server - 1) ≡ Some y
  now_there = ap (λ (xs : List (Station V)). slice_get xs (server - 1)) items ∙ set_there s.all.items (server - 1) y below

  pub others_there : (i : ℕ) → i ≢ server - 1 → slice_get after.all.items i ≡ slice_get s.all.items i
  others_there i away = ap (λ (xs : List (Station V)). slice_get xs i) items ∙ set_elsewhere s.all.items (server - 1) i y away

  seats_now : (course_of G after).seats ≡ slice_set (course_of G s).seats (server - 1) (seat_of G y)
  seats_now = ap (list_map (seat_of G)) items ∙ map-set (seat_of G) s.all.items (server - 1) y

  -- ---- what becomes of the vaults

  -- at another server nothing was done, and the fault is not its
  still_failed : {T : Type 0} (n count at : ℕ) (faults other : ℕ) (r : Result T RunFault) → IsOfRun count n → at ≢ n → IsFailure (λ m. m ≡ n) n r faults other → (a : ℕ) → IsFailure (IsOfRun count) at r a a
  still_failed n count at faults other (Ok z) of away h a = tt
  still_failed n count at faults other (Err (fault.DiskFault m)) of away h a = (subst (IsOfRun count) (sym h.0) of, λ same. absurd (away (sym same ∙ h.0)))
  still_failed n count at faults other (Err fault.OutOfMemory) of away h a = tt
  still_failed n count at faults other (Err fault.JournalFull) of away h a = tt
  still_failed n count at faults other (Err (fault.Start m f)) of away h a = (subst (IsOfRun count) (sym h.0) of, λ same. absurd (away (sym same ∙ h.0)))

  still_told : {T : Type 0} (n at : ℕ) (faults other : ℕ) (r : Result T RunFault) → at ≢ n → IsFailure (λ m. m ≡ n) n r faults other → IsToldFault at r
  still_told n at faults other (Ok z) away h = tt
  still_told n at faults other (Err (fault.DiskFault m)) away h = tt
  still_told n at faults other (Err fault.OutOfMemory) away h = tt
  still_told n at faults other (Err fault.JournalFull) away h = tt
  still_told n at faults other (Err (fault.Start m f)) away h = λ same. absurd (away (sym same ∙ h.0))

  still_counted : {T : Type 0} (n at : ℕ) (faults other : ℕ) (r : Result T RunFault) → at ≢ n → IsFailure (λ m. m ≡ n) n r faults other → (a : ℕ) → AreCountedIn at r a a
  still_counted n at faults other (Ok z) away h a = refl
  still_counted n at faults other (Err (fault.DiskFault m)) away h a = ((λ same. absurd (away (sym same ∙ h.0))), (λ other. refl))
  still_counted n at faults other (Err fault.OutOfMemory) away h a = refl
  still_counted n at faults other (Err fault.JournalFull) away h a = refl
  still_counted n at faults other (Err (fault.Start m f)) away h a = ((λ same. absurd (away (sym same ∙ h.0))), (λ other. refl))

  pub leaves_all : {T : Type 0} (P : Type 0) (r : Result T RunFault) → LeavesVault G P x y r → HaveGone G P s after r
  leaves_all {T} P r leaves = record { many = many_same; each = each }
    where
      mine : IsManned G (length s.all.items) server x
      mine = its G s on server here x there

      own : (v : V) × HasVault y.server v × HasGone G P mine.node.kept.vault v r
      own = leaves mine.node mine.keeps.stands

      number : G.server mine.node.kept.vault ≡ server
      number = mine.keeps.on.kept.number ∙ mine.number_is

      of_run : IsOfRun (length s.all.items) server
      of_run = (here.first, here.last)

      failed : IsFailure (λ m. m ≡ server) server r (G.faults mine.node.kept.vault) (G.faults own.0)
      failed = subst (λ (k : ℕ). IsFailure (λ m. m ≡ k) k r (G.faults mine.node.kept.vault) (G.faults own.0)) number own.2.failed

      at_it : (z : Station V) (n : NodeState V) → slice_get s.all.items (server - 1) ≡ Some z → z.server ≡ standing n → LeavesOf G (length s.all.items) P n (slice_get after.all.items (server - 1)) r
      at_it z n at stood =
          let same : z ≡ x = same_some (slice_get s.all.items (server - 1)) z x at there in
          let (v, has, gone) = leaves n (sym (ap (λ (w : Station V). w.server) same) ∙ stood) in
          let is : standing n ≡ standing mine.node = sym stood ∙ ap (λ (w : Station V). w.server) same ∙ mine.keeps.stands in
          let node : n ≡ mine.node = cc in
          let its_number : G.server n.kept.vault ≡ server = ap (λ (k : NodeState V). G.server k.kept.vault) node ∙ number in
          record {
            station = y;
            there = now_there;
            vault = v;
            its = has;
            gone = gone_among G (λ m. m ≡ G.server n.kept.vault) (IsOfRun (length s.all.items)) P n.kept.vault v r (λ m e. subst (IsOfRun (length s.all.items)) (sym (e ∙ its_number)) of_run) gone;
          }

      elsewhere : (i : ℕ) (z : Station V) (n : NodeState V) → i ≢ server - 1 → slice_get s.all.items i ≡ Some z → z.server ≡ standing n → LeavesOf G (length s.all.items) P n (slice_get after.all.items i) r
      elsewhere i z n away at stood =
          let other : IsManned G (length s.all.items) (i + 1) z = on.each i z at in
          let is : standing n ≡ standing other.node = sym stood ∙ other.keeps.stands in
          let node : n ≡ other.node = cc in
          let its_number : G.server n.kept.vault ≡ i + 1 = ap (λ (k : NodeState V). G.server k.kept.vault) node ∙ other.keeps.on.kept.number ∙ other.number_is in
          let apart : G.server n.kept.vault ≢ server = λ (e : G.server n.kept.vault ≡ server). place_number i server here.first away (sym its_number ∙ e) in
          record {
            station = z;
            there = others_there i away ∙ at;
            vault = n.kept.vault;
            its = subst (λ (o : Option (Server V)). HasVault o n.kept.vault) (sym stood) refl;
            gone = gone_nothing G (IsOfRun (length s.all.items)) P n.kept.vault r (still_failed server (length s.all.items) (G.server n.kept.vault) (G.faults mine.node.kept.vault) (G.faults own.0) r of_run apart failed (G.faults n.kept.vault))
                (still_told server (G.server n.kept.vault) (G.faults mine.node.kept.vault) (G.faults own.0) r apart failed) (still_counted server (G.server n.kept.vault) (G.faults mine.node.kept.vault) (G.faults own.0) r apart failed (G.faults n.kept.vault));
          }

      each : (i : ℕ) (z : Station V) (n : NodeState V) → slice_get s.all.items i ≡ Some z → z.server ≡ standing n → LeavesOf G (length s.all.items) P n (slice_get after.all.items i) r
      each i z n at stood = elim (cases_eq i (server - 1)) [
        | inl same ↦ subst (λ (k : ℕ). LeavesOf G (length s.all.items) P n (slice_get after.all.items k) r) (sym same) (at_it z n (ap (slice_get s.all.items) (sym same) ∙ at) stood)
        | inr away ↦ elsewhere i z n away at stood
      ]

  -- ---- it went on

  module _ (posts : after.posts ≡ s.posts) (n : NodeState V) (stood : x.server ≡ standing n) (seen : ℕ) (Makes : Stand → List Entry → Stand → Type 0) (w : WentBy G seen Makes x y n) where
    its_node : IsManned G (length s.all.items) server x
    its_node = its G s on server here x there

    same_node : its_node.node ≡ n
    same_node = (let same : standing its_node.node ≡ standing n = sym its_node.keeps.stands ∙ stood in cc)

    m : NodeState V
    m = w.after

    ranked : length y.ranks.items ≡ length w.after.journal
    ranked =
        let before : length x.ranks.items ≡ length n.journal = its_node.keeps.ranked ∙ ap (λ (k : NodeState V). length k.journal) same_node in
        let rest : length y.ranks.items ≡ length x.ranks.items + length w.goes.entries = ap (λ (rs : List ℕ). length rs) w.ranks ∙ length-append x.ranks.items _ ∙ ap (λ (k : ℕ). length x.ranks.items + k) (many_from _ w.goes.entries) in
        let long : length w.after.journal ≡ length n.journal + length w.goes.entries = ap (λ (es : List Entry). length es) w.goes.journal ∙ length-append n.journal w.goes.entries in
        omega (arith, before, rest, long)

    manned_now : IsManned G (length s.all.items) server y
    manned_now = record {
      node = w.after;
      keeps = record { stands = w.stands; on = w.goes.later.on; free = w.goes.free; ranked = ranked };
      number_is = w.goes.later.number ∙ sym (ap (λ (k : NodeState V). k.kept.server) same_node) ∙ its_node.number_is;
      count_is = w.goes.later.count ∙ sym (ap (λ (k : NodeState V). k.kept.servers) same_node) ∙ its_node.count_is;
    }

    each_manned : (i : ℕ) (z : Station V) → slice_get after.all.items i ≡ Some z → IsManned G (length after.all.items) (i + 1) z
    each_manned i z at = subst (λ (k : ℕ). IsManned G k (i + 1) z) (sym many_same) (elim (cases_eq i (server - 1)) [
      | inl same ↦
          let is : y ≡ z = same_some (slice_get after.all.items (server - 1)) y z now_there (ap (slice_get after.all.items) (sym same) ∙ at) in
          let number : server ≡ i + 1 = omega (arith, same, here.first) in
          subst (λ (k : ℕ). IsManned G (length s.all.items) k z) number (subst (IsManned G (length s.all.items) server) is manned_now)
      | inr away ↦ on.each i z (sym (others_there i away) ∙ at)
    ])

    -- the seat of the server then
    seat_now : seat_of G y ≡ seat_after (seat_for G x.is_fused x.ranks.items (standing n)) seen w.goes.entries (stand_of G y.is_fused w.after)
    seat_now = ap (seat_for G y.is_fused y.ranks.items) w.stands ∙ (λ i. record { opening = w.goes.later.start i; tells = w.goes.later.telling i; stand = stand_of G y.is_fused w.after; journal = w.goes.journal i; ranks = w.ranks i })

    seat_then : seat_of G y ≡ seat_after (seat_at (course_of G s) server) seen w.goes.entries (stand_of G y.is_fused w.after)
    seat_then = seat_now ∙ ap (λ (z : Seat). seat_after z seen w.goes.entries (stand_of G y.is_fused w.after)) (sym (seat_stands G s on server here x there n stood))

    seats_then : (course_of G after).seats ≡ slice_set (course_of G s).seats (server - 1) (seat_after (seat_at (course_of G s) server) seen w.goes.entries (stand_of G y.is_fused w.after))
    seats_then = seats_now ∙ ap (slice_set (course_of G s).seats (server - 1)) seat_then

    -- journals grow
    grown : (k : ℕ) → HasGrown (journals_in (course_of G s) k) (journals_in (course_of G after) k)
    grown k = elim (cases_eq (k - 1) (server - 1)) [
      | inl same ↦
          let now : journals_in (course_of G after) k ≡ (seat_at (course_of G s) server).journal ++ w.goes.entries =
          ap (λ (ss : List Seat). (get_or ss (k - 1) no_seat).journal) seats_then ∙ ap (λ (i : ℕ). (get_or (slice_set (course_of G s).seats (server - 1) (seat_after (seat_at (course_of G s) server) seen w.goes.entries (stand_of G y.is_fused w.after))) i no_seat).journal) same
          ∙ ap (λ (z : Seat). z.journal) (get_or-set_same (course_of G s).seats (server - 1) (seat_after (seat_at (course_of G s) server) seen w.goes.entries (stand_of G y.is_fused w.after)) no_seat long) in
          record { more = w.goes.entries; is = now ∙ ap (λ (i : ℕ). (get_or (course_of G s).seats i no_seat).journal ++ w.goes.entries) (sym same) }
      | inr away ↦
          let now : journals_in (course_of G after) k ≡ journals_in (course_of G s) k =
          ap (λ (ss : List Seat). (get_or ss (k - 1) no_seat).journal) seats_then
          ∙ ap (λ (z : Seat). z.journal) (get_or-set_other (course_of G s).seats (server - 1) (k - 1) (seat_after (seat_at (course_of G s) server) seen w.goes.entries (stand_of G y.is_fused w.after)) no_seat away) in
          record { more = []; is = now ∙ sym (append-nil (journals_in (course_of G s) k)) }
    ]
      where
        long : server - 1 < length (course_of G s).seats
        long = (let many : length (list_map (seat_of G) s.all.items) ≡ length s.all.items = length-map s.all.items (seat_of G) in omega (arith, many, below))

    pub on_then : AreOn G after
    on_then = record {
      some = (let same : length after.all.items ≡ length s.all.items = many_same in let one : 1 ≤ length s.all.items = on.some in omega (arith, same, one));
      few = (let same : length after.all.items ≡ length s.all.items = many_same in let most : length s.all.items ≤ 8 = on.few in omega (arith, same, most));
      each = each_manned;
      fits = subst (Fits (journals_in (course_of G after))) (sym posts) (longer_fits (journals_in (course_of G s)) (journals_in (course_of G after)) s.posts grown on.fits);
      timely = λ from to servers. subst (λ (p : List Post). IfSome (post_at p from to).last (λ z. IsTimelyMessage z.0)) (sym posts) (on.timely from to servers);
    }

    openings_then : openings_of after ≡ openings_of s
    openings_then =
        let f = λ (z : Station V). opening_in z.server in
        let same : opening_in y.server ≡ opening_in x.server = ap opening_in w.stands ∙ ap (λ (o : Opened V). Some o) w.goes.later.opening ∙ sym (ap opening_in stood) in
        ap (list_map f) items ∙ map-set f s.all.items (server - 1) y
        ∙ ap (slice_set (list_map f s.all.items) (server - 1)) (same ∙ sym (get_or-map f s.all.items (server - 1) x None below ∙ ap f (read_or s.all.items (server - 1) x x there)))
        ∙ set-get_or (list_map f s.all.items) (server - 1) None

    reached_then : (j k : ℕ) (a : Come) → IsReachedBy (state_at s j) k a → IsReachedBy (state_at after j) k a
    reached_then j k a old = elim (cases_eq (j - 1) (server - 1)) [
      | inl same ↦
          let was : state_at s j ≡ Some n.kept = ap (λ (i : ℕ). state_for (slice_get s.all.items i)) same ∙ state_is G s on server here x there n stood in
          let now : state_at after j ≡ Some w.after.kept = ap (λ (i : ℕ). state_for (slice_get after.all.items i)) same ∙ ap state_for now_there ∙ ap state_in w.stands in
          subst (λ (o : Option (ServerState V)). IsReachedBy o k a) (sym now) (w.goes.later.reached k a (subst (λ (o : Option (ServerState V)). IsReachedBy o k a) was old))
      | inr away ↦ subst (λ (o : Option (ServerState V)). IsReachedBy o k a) (sym (ap state_for (others_there (j - 1) away))) old
    ]

    calm_then : AreCalmSince G s after
    calm_then j = elim (cases_eq (j - 1) (server - 1)) [
      | inl same ↦
          let was : server_at s j ≡ standing n = ap (λ (i : ℕ). server_in (slice_get s.all.items i)) same ∙ ap server_in there ∙ stood in
          let now : server_at after j ≡ standing w.after = ap (λ (i : ℕ). server_in (slice_get after.all.items i)) same ∙ ap server_in now_there ∙ w.stands in
          subst (λ (o : Option (Server V)). IsCalmSince G o (server_at after j)) (sym was) (subst (λ (o : Option (Server V)). IsCalmSince G (standing n) o) (sym now) w.goes.later.calm)
      | inr away ↦ subst (λ (o : Option (Server V)). IsCalmSince G (server_at s j) o) (sym (ap server_in (others_there (j - 1) away))) (λ calm. (calm, refl))
    ]

    pub later_then : AreLater G s after
    later_then = record { on = on_then; openings = openings_then; reached = reached_then; calm = calm_then }

    -- as the course has it
    pub at_then : (Says : Seat → List Entry → Stand → Type 0) → ((es : List Entry) (v : Stand) → Makes (stand_of G x.is_fused n) es v → Says (seat_for G x.is_fused x.ranks.items (standing n)) es v) → IsAt (course_of G s) server seen Says (course_of G after)
    at_then Says make = record {
      here = seat_here G s on server here x there;
      entries = w.goes.entries;
      stand = stand_of G y.is_fused w.after;
      made = subst (λ (z : Seat). Says z w.goes.entries (stand_of G y.is_fused w.after)) (sym (seat_stands G s on server here x there n stood)) (make w.goes.entries (stand_of G y.is_fused w.after) w.goes.made);
      seats = seats_then;
      posts = ap (list_map _) posts;
    }
