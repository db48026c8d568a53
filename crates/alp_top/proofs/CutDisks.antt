-- a run that ended before its report: what its disks hold
use Rattle.std.specs.Prelude.{Vec, Bool, false, IsTrue, slice_get, slice_set, get_or, Option, Some, Result, Err}
use Rattle.std.specs.Global.{Global}
use Rattle.std.proofs.Common.{inl, inr, ◌⊎◌, ◌≡◌, ◌≢◌, ℕ, zero, suc, ◌+◌, ◌-◌, ◌<◌, ◌≤◌, List, [], ◌∷◌, ◌++◌, length, append-nil, refl, sym, ◌∙◌, ap, subst, arith}
use Rattle.std.proofs.lemmas.Bool.{cases_eq}
use Rattle.alp_base.specs.Causes.{Rose}
use Rattle.alp_base.specs.declared.faults.VaultFault.TheVariants as vault_fault
use Rattle.alp_course.specs.Courses.{Course, Seat, IsOneOf, IsSeat, no_seat, seat_at, TellAll}
use Rattle.alp_course.specs.Plays.{Due}
use Rattle.alp_disk.specs.Disk.{Image}
use Rattle.alp_disk.specs.declared.disk.Disk.{Ghosts}
use Rattle.alp_journal.specs.Along.{state_after}
use Rattle.alp_journal.specs.Answered.{IsAnswered, entries_limit}
use Rattle.alp_journal.specs.Laws.{IsLawful}
use Rattle.alp_journal.specs.Moves.{next}
use Rattle.alp_journal.specs.State.{State, opened}
use Rattle.alp_journal.specs.Opening.{Start, start_at}
use Rattle.alp_journal.specs.declared.entry.Entry.{Entry}
use Rattle.alp_journal.specs.declared.log.Item.{Item}
use Rattle.alp_node.specs.Durable.{IsSaid, IsSaidThen}
use Rattle.alp_node.specs.DownStates.{DownState}
use Rattle.alp_node.specs.Downs.{IsFallen, IsLeftOf, start_of as start_down}
use Rattle.alp_node.specs.NodeStates.{NodeState}
use Rattle.alp_node.specs.Nodes as node
use Rattle.alp_node.specs.Nodes.{IsConsistent, start_in, IsSoundStart}
use Rattle.alp_node.specs.declared.start.StartFault.{StartFault}
use Rattle.alp_node.specs.declared.start.StartFault.TheVariants as start_fault
use Rattle.alp_script.specs.Accepted.{servers_said}
use Rattle.alp_script.specs.Volumes.{sizes_said}
use Rattle.alp_script.specs.declared.numbered.NumberedLine.{NumberedLine}
use Rattle.alp_store.specs.Holding.{Holds}
use Rattle.alp_vault.specs.Contents.{Contents}
use Rattle.alp_vault.specs.Vault.{IsSameVault}
use Rattle.alp_vault.specs.declared.vault.Vault.{Ghosts as VaultGhosts}
use Rattle.alp_cluster.specs.Fills.{IsEndFor, IsEventDue, IsFailing, IsFullFor, server_due}
use Rattle.alp_cluster.specs.Runs.{StopNone, HasEndedEarly}
use Rattle.alp_cluster.specs.Servers.{AreCalm, StaysDown, AreCountedIn, HasFailedIn, ShowsFault}
use Rattle.alp_cluster.specs.Station.{standing, HasVault, seat_for, seat_of}
use Rattle.alp_cluster.specs.Stations.{AreOn, IsCalmSince, AreCalmBut, IsManned, IsStillThere, IsUnchanged, IsNoFurther, EndsFor, server_in, server_at, course_of, openings_of}
use Rattle.alp_cluster.specs.declared.fault.RunFault.{RunFault}
use Rattle.alp_cluster.specs.declared.fault.RunFault.TheVariants as run_fault
use Rattle.alp_cluster.specs.declared.server.Server.{Server}
use Rattle.alp_cluster.specs.declared.server.Server.TheVariants.{Fallen}
use Rattle.alp_cluster.specs.declared.station.Station.{Station}
use Rattle.alp_cluster.specs.declared.stations.Stations.{Stations}
use Rattle.alp_cluster.proofs.LeftLemmas.{end_opened}
use Rattle.alp_cluster.proofs.StationsLemmas.{set_there, set_elsewhere}
use Rattle.alp_top.specs.Disks.{IsServerRight, notes_in}
use Rattle.alp_top.specs.Volumes.{IsUnstopped, IsBare, IsLeftWith, IsLeftBy, IsLeftFallen, IsOpenedNew, IsOpenedOn, IsStored, IsCutShort, HasFailedOn, HasFilled}
use Rattle.alp_top.proofs.BeginLemmas.{holds_by}
use Rattle.alp_top.proofs.CutLemmas.{cut_short}
use Rattle.alp_top.proofs.GivenLemmas.{up_vault}
use Rattle.alp_top.proofs.GoneAtLemmas.{IsGoneAt, IsLeftSo}
use Rattle.alp_top.proofs.PairLemmas.{same_there}
use Rattle.alp_top.proofs.PlayedOutLemmas.{some_same, map_at, opening_same, tell_all}
use Rattle.alp_top.proofs.SeveralLemmas.{one_node}
use Rattle.alp_top.proofs.SeatedLemmas.{there_less, seat_on, many}
use Rattle.alp_top.proofs.StoredLemmas.{bare_as, opened_new, opened_on, started_as, stored}

-- ---- a place that is none

get_none : {A : Type 0} (xs : List A) (i : ℕ) (d : A) → length xs ≤ i → get_or xs i d ≡ d
get_none [] i d h = refl
get_none (x ∷ xs) zero d h = absurd (omega (arith, h))
get_none (x ∷ xs) (suc i) d h = get_none xs i d (omega (arith, h))

low_or : (i n : ℕ) → (i < n) ⊎ (n ≤ i)
low_or i zero = inr (omega arith)
low_or zero (suc n) = inl (omega arith)
low_or (suc i) (suc n) = elim (low_or i n) [ inl a ↦ inl (omega (arith, a)) | inr b ↦ inr (omega (arith, b)) ]

-- ---- the servers, where a run came so far

-- each has the vault of the server that stood there
module _ {V D T : Type 0} (G : VaultGhosts V) (g : Ghosts D) (tells : Bool) (told : IsTrue tells) (lines : List NumberedLine) (before after : ℕ → Option D) (first last now : Stations V) (r : Result T RunFault) (on : AreOn G last) (count : length last.all.items ≡ servers_said lines) (opens : openings_of last ≡ openings_of first)
    (at : (n : ℕ) → IsOneOf (servers_said lines) n → IsGoneAt {T = T} G g tells lines before after first now r n) where
  abbrev c : Course
  c = course_of G last

  pub one_here : (i : ℕ) (s : Station V) → slice_get last.all.items i ≡ Some s → IsOneOf (servers_said lines) (i + 1)
  one_here i s is = (let less : i < length last.all.items = there_less last.all.items i s is in record { first = omega arith; last = omega (arith, less, count) })

  pub vault_tells : (n : ℕ) (here : IsOneOf (servers_said lines) n) → IsTrue (G.tells (at n here).vault)
  vault_tells n here = (let x = at n here in subst IsTrue (sym (x.gone.same.telling ∙ x.begun.started.telling)) (x.begun.told told))

  pub seat_here : (n : ℕ) → IsOneOf (servers_said lines) n → IsSeat c n
  seat_here n here = record { first = here.first; last = (let high : n ≤ servers_said lines = here.last in let all : length c.seats ≡ length last.all.items = many G last on in omega (arith, high, count, all)) }

  pub one_seat : (n : ℕ) → IsSeat c n → IsOneOf (servers_said lines) n
  one_seat n here = record { first = here.first; last = (let high : n ≤ length c.seats = here.last in let all : length c.seats ≡ length last.all.items = many G last on in omega (arith, high, count, all)) }

  -- one of them
  module _ (n : ℕ) (here : IsOneOf (servers_said lines) n) (s : Station V) (there : slice_get last.all.items (n - 1) ≡ Some s) (m : IsManned G (length last.all.items) n s) (sits : seat_at c n ≡ seat_for G s.is_fused s.ranks.items (standing m.node)) where
    abbrev x : IsGoneAt {T = T} G g tells lines before after first now r n
    x = at n here

    opening : m.node.opening ≡ x.node.opening
    opening = opening_same first last (n - 1) x.station s x.node m.node opens x.stood x.was there m.keeps.stands

    module _ (tells_m : IsTrue (G.tells m.node.kept.vault)) where
      -- where it is the only one, it opened with nothing
      pub bare_here : servers_said lines ≡ 1 → IsBare (seat_at c n).opening
      bare_here one =
          subst (λ (z : Seat). IsBare z.opening) (sym sits)
          (bare_as G g (sizes_said lines n) n (servers_said lines) x.node m.node x.vault x.taken x.given x.begun.started (x.begun.told told) m.keeps.on m.number_is opening tells_m one)

      started_here : (seat_at c n).opening ≡ start_at n (servers_said lines) (seat_at c n).opening.sizes (seat_at c n).opening.cells (notes_in G m.node)
      started_here =
          subst (λ (z : Seat). z.opening ≡ start_at n (servers_said lines) z.opening.sizes z.opening.cells (notes_in G m.node)) (sym sits)
          (started_as G g (sizes_said lines n) n (servers_said lines) x.node m.node x.vault x.taken x.given x.begun.started (x.begun.told told) m.keeps.on m.number_is opening tells_m)

      sound_here : IsSoundStart (seat_at c n).opening
      sound_here = subst (λ (z : Seat). IsSoundStart z.opening) (sym sits) (m.keeps.on.kept.right tells_m).opening

      -- whatever a crash leaves of the disk holds what one may leave of the vault
      holds_here : (P : Contents → Type 0) → ((k : Contents) → G.may_leave x.vault k → P k) → (image : Image) → g.may_leave x.given image → (k : Contents) × Holds n (servers_said lines) (g.size x.given) (seat_at c n).opening.sizes.home image k × P k
      holds_here P make image may =
          let same : IsSameVault G.tells G.volume G.server G.servers x.node.kept.vault x.vault = x.gone.same in
          let server_of : G.server x.vault ≡ n = same.number ∙ x.begun.started.on.kept.number ∙ x.begun.started.number in
          let servers_are : G.servers x.vault ≡ servers_said lines = same.of_all ∙ x.begun.started.on.kept.all ∙ x.begun.started.count in
          let volume : G.volume x.vault ≡ (start_in G m.node).sizes = same.sizes ∙ ap G.volume (sym x.begun.started.idle.opening) ∙ ap (λ o. G.volume o.vault.value) (sym opening) in
          let (k, holds, may_be) = x.back.whole (vault_tells n here) image may in (
            k,
            subst (λ (z : Seat). Holds n (servers_said lines) (g.size x.given) z.opening.sizes.home image k) (sym sits) (holds_by _ _ _ _ _ _ _ _ image k server_of servers_are refl (ap (λ z. z.home) volume) holds),
            make k may_be,
          )

      pub with_journal : (journal : List Entry) → ((k : Contents) → G.may_leave x.vault k → IsSaid (state_after next (opened (seat_at c n).opening) journal) k ⊎ IsSaidThen (state_after next (opened (seat_at c n).opening) journal) k)
          → IsLeftWith g lines n (seat_at c n).opening journal x.taken x.given
      with_journal journal says = record {
        notes = notes_in G m.node;
        started = started_here;
        sound = sound_here;
        new = λ new. subst (λ (z : Seat). IsOpenedNew (sizes_said lines n) z.opening (notes_in G m.node)) (sym sits)
            (opened_new G g (sizes_said lines n) n (servers_said lines) x.node m.node x.vault x.taken x.given x.begun.started (x.begun.told told) m.keeps.on m.number_is opening tells_m new);
        found = λ old. subst (λ (z : Seat). IsOpenedOn n (servers_said lines) (g.size x.taken) (g.seen x.taken) z.opening (notes_in G m.node)) (sym sits)
            (opened_on G g (sizes_said lines n) n (servers_said lines) x.node m.node x.vault x.taken x.given x.begun.started (x.begun.told told) m.keeps.on m.number_is opening tells_m old);
        left = holds_here (λ k. IsSaid (state_after next (opened (seat_at c n).opening) journal) k ⊎ IsSaidThen (state_after next (opened (seat_at c n).opening) journal) k) says;
        read = x.back.read (vault_tells n here);
      }

      pub fallen_here : ((k : Contents) → G.may_leave x.vault k → IsLeftOf (state_after next (opened (seat_at c n).opening) (seat_at c n).journal) k) → IsLeftFallen g lines c n x.taken x.given
      fallen_here says = record {
        seat = seat_here n here;
        notes = notes_in G m.node;
        started = started_here;
        new = λ new. subst (λ (z : Seat). IsOpenedNew (sizes_said lines n) z.opening (notes_in G m.node)) (sym sits)
            (opened_new G g (sizes_said lines n) n (servers_said lines) x.node m.node x.vault x.taken x.given x.begun.started (x.begun.told told) m.keeps.on m.number_is opening tells_m new);
        found = λ old. subst (λ (z : Seat). IsOpenedOn n (servers_said lines) (g.size x.taken) (g.seen x.taken) z.opening (notes_in G m.node)) (sym sits)
            (opened_on G g (sizes_said lines n) n (servers_said lines) x.node m.node x.vault x.taken x.given x.begun.started (x.begun.told told) m.keeps.on m.number_is opening tells_m old);
        sound = sound_here;
        left = holds_here (λ k. IsLeftOf (state_after next (opened (seat_at c n).opening) (seat_at c n).journal) k) says;
        read = x.back.read (vault_tells n here);
      }

      -- what the journal of a server says that opened on the same
      pub says_with : (k : NodeState V) (more : List Entry) → IsConsistent G k → start_in G k ≡ start_in G m.node → k.journal ≡ m.node.journal ++ more → IsTrue (G.tells k.kept.vault) → (q : Contents) → G.may_leave k.kept.vault q
          → IsSaid (state_after next (opened (seat_at c n).opening) ((seat_at c n).journal ++ more)) q ⊎ IsSaidThen (state_after next (opened (seat_at c n).opening) ((seat_at c n).journal ++ more)) q
      says_with k more known start journal tells_k q may =
          let o : start_in G k ≡ (seat_at c n).opening = start ∙ sym (ap (λ (z : Seat). z.opening) sits) in
          let j : k.journal ≡ (seat_at c n).journal ++ more = journal ∙ ap (λ (es : List Entry). es ++ more) (sym (ap (λ (z : Seat). z.journal) sits)) in
          subst (λ (s : State). IsSaid s q ⊎ IsSaidThen s q) (λ i. state_after next (opened (o i)) (j i)) ((known.durable tells_k).down q may)

      pub lawful_with : (k : NodeState V) (more : List Entry) → IsConsistent G k → start_in G k ≡ start_in G m.node → k.journal ≡ m.node.journal ++ more → IsTrue (G.tells k.kept.vault)
          → IsLawful (seat_at c n).opening ((seat_at c n).journal ++ more) × IsAnswered (seat_at c n).opening ((seat_at c n).journal ++ more)
      lawful_with k more known start journal tells_k =
          let o : start_in G k ≡ (seat_at c n).opening = start ∙ sym (ap (λ (z : Seat). z.opening) sits) in
          let j : k.journal ≡ (seat_at c n).journal ++ more = journal ∙ ap (λ (es : List Entry). es ++ more) (sym (ap (λ (z : Seat). z.journal) sits)) in
          ((subst (λ (p : Start × List Entry). IsLawful p.0 p.1) (λ i. (o i, j i)) (known.right tells_k).lawful), (subst (λ (p : Start × List Entry). IsAnswered p.0 p.1) (λ i. (o i, j i)) (known.right tells_k).caused))

-- ---- the servers as they were left

-- the server of a fault
abbrev pub IsOfFault : RunFault → ℕ → Type 0
IsOfFault (run_fault.DiskFault server) n = n ≡ server
IsOfFault (run_fault.Start server f) n = n ≡ server
IsOfFault f n = ⊥

-- it stands still, and its journal has these entries more
pub record Stands {V : Type 0} (G : VaultGhosts V) (m : NodeState V) (o : Option (Server V)) (more : List Entry) : Type 0 where
  pub node : NodeState V
  pub stands : o ≡ standing node
  pub start : start_in G node ≡ start_in G m
  pub telling : G.tells node.kept.vault ≡ G.tells m.kept.vault
  pub journal : node.journal ≡ m.journal ++ more

-- it failed in the step that was due
pub record Failed {V : Type 0} (G : VaultGhosts V) (r : Course) (due : Due) (m : NodeState V) (o : Option (Server V)) : Type 0 where
  pub entry : Entry
  pub stands : Stands G m o (entry ∷ [])
  pub its : IsEventDue r due entry.event
  pub shows : ShowsFault entry
  pub rose : Rose (G.faults m.kept.vault) (G.faults stands.node.kept.vault)

-- it fell, and did not start again
pub record Fell {V : Type 0} (G : VaultGhosts V) (f : StartFault) (m : NodeState V) (o : Option (Server V)) : Type 0 where
  pub pick : ℕ
  pub down : DownState V
  pub left : o ≡ Some (Fallen down)
  pub stays : StaysDown G pick m down f

-- what is left of a server where that fault ended the run, and of the one of the fault
abbrev pub IsLeftOther : {V : Type 0} → VaultGhosts V → NodeState V → Option (Server V) → Type 0
IsLeftOther G m o = Stands G m o []

abbrev pub IsLeftOwn : {V : Type 0} → VaultGhosts V → RunFault → Course → Due → NodeState V → Option (Server V) → Type 0
IsLeftOwn G (run_fault.DiskFault server) r due m o = Failed G r due m o
IsLeftOwn G (run_fault.Start server f) r due m o = Fell G f m o
IsLeftOwn G f r due m o = Unit {0}

module _ {V : Type 0} (G : VaultGhosts V) (last left : Stations V) (due : Due) (n : ℕ) (some : 1 ≤ n) (s x : Station V) (m : NodeState V) (there : slice_get last.all.items (n - 1) ≡ Some s) (stood : s.server ≡ standing m) (number : m.kept.server ≡ n) (here : slice_get left.all.items (n - 1) ≡ Some x) where
  as_it_was : x.server ≡ standing m → Stands G m x.server []
  as_it_was still = record { node = m; stands = still; start = refl; telling = refl; journal = sym (append-nil m.journal) }

  away_from : (k : ℕ) → 1 ≤ k → (n ≡ k → ⊥) → n - 1 ≢ k - 1
  away_from k one other same = other (omega (arith, some, one, same))

  elsewhere_as : (i : ℕ) (y : Station V) → left.all.items ≡ slice_set last.all.items i y → n - 1 ≢ i → x.server ≡ standing m
  elsewhere_as i y items away =
      let same : x ≡ s = same_there (slice_get left.all.items (n - 1)) x s here (ap (λ xs. slice_get xs (n - 1)) items ∙ set_elsewhere last.all.items i (n - 1) y away ∙ there) in
      ap (λ (z : Station V). z.server) same ∙ stood

  at_place : (k : ℕ) (was y : Station V) → slice_get last.all.items (k - 1) ≡ Some was → left.all.items ≡ slice_set last.all.items (k - 1) y → n ≡ k → (x ≡ y) × (s ≡ was)
  at_place k was y at items is = (
    same_there (slice_get left.all.items (n - 1)) x y here (ap (λ (i : ℕ). slice_get left.all.items (i - 1)) is ∙ ap (λ xs. slice_get xs (k - 1)) items ∙ set_there last.all.items (k - 1) y (there_less last.all.items (k - 1) was at)),
    same_there (slice_get last.all.items (n - 1)) s was there (ap (λ (i : ℕ). slice_get last.all.items (i - 1)) is ∙ at),
  )

  unchanged_as : IsUnchanged G last left → x.server ≡ standing m
  unchanged_as h =
      some_same x.server (standing m)
      (sym (map_at (λ (z : Station _). z.server) left.all.items (n - 1) x here) ∙ ap (λ os. slice_get os (n - 1)) h.servers ∙ map_at (λ (z : Station _). z.server) last.all.items (n - 1) s there ∙ ap (λ o. Some o) stood)

  further_as : IsNoFurther G last left → Stands G m x.server []
  further_as h =
      let k : IsStillThere G m (slice_get left.all.items (n - 1)) = h.each (n - 1) s m there stood in
      let same : x ≡ k.station = same_there (slice_get left.all.items (n - 1)) x k.station here k.there in
      record { node = k.node; stands = ap (λ (z : Station V). z.server) same ∙ k.stands; start = k.untouched.start; telling = k.untouched.telling; journal = k.untouched.journal ∙ sym (append-nil m.journal) }

  -- another server than that of the fault
  pub other_left : (f : RunFault) → EndsFor G f due last left → (IsOfFault f n → ⊥) → IsLeftOther G m x.server
  other_left run_fault.JournalFull h other = as_it_was (unchanged_as h)
  other_left run_fault.OutOfMemory h other = further_as h
  other_left (run_fault.DiskFault server) h other = as_it_was (elsewhere_as (server - 1) h.left h.others (away_from server h.here.first other))
  other_left (run_fault.Start server f) h other =
      let named : server ≡ h.number = h.ends.2 ∙ h.number_is in
      as_it_was (elsewhere_as (h.number - 1) h.left h.others (away_from h.number h.here.first (λ is. other (is ∙ sym named))))

  -- that of the fault
  pub own_left : (f : RunFault) → EndsFor G f due last left → IsOfFault f n → IsLeftOwn G f (course_of G last) due m x.server
  own_left run_fault.JournalFull h is = tt
  own_left run_fault.OutOfMemory h is = tt
  own_left (run_fault.DiskFault server) h is =
      let (now, was) = at_place server h.station h.left h.there h.others is in
      let same : m ≡ h.was = one_node s.server m h.was stood (ap (λ (z : Station V). z.server) was ∙ h.stood) in
      let k : HasFailedIn G m h.fails.after h.event = subst (λ (z : NodeState V). HasFailedIn G z h.fails.after h.event) (sym same) h.fails.failed in
      record {
        entry = k.entry;
        stands = record { node = h.fails.after; stands = ap (λ (z : Station V). z.server) now ∙ h.fails.stands; start = k.start; telling = k.telling; journal = k.journal };
        its = subst (IsEventDue (course_of G last) due) (sym k.event) h.its;
        shows = k.shows;
        rose = k.rose;
      }
  own_left (run_fault.Start server f) h is =
      let (d, fell, named, stays) = h.ends in
      let (now, was) = at_place h.number h.station h.left h.there h.others (is ∙ named ∙ h.number_is) in
      let same : m ≡ h.node = one_node s.server m h.node stood (ap (λ (z : Station V). z.server) was ∙ h.stood) in
      record { pick = h.pick; down = d; left = ap (λ (z : Station V). z.server) now ∙ fell; stays = subst (λ (z : NodeState V). StaysDown G h.pick z d f) (sym same) stays }

-- ---- how it ended

module _ {V D T : Type 0} (G : VaultGhosts V) (g : Ghosts D) (tells : Bool) (told : IsTrue tells) (lines : List NumberedLine) (before after : ℕ → Option D) (first left : Stations V) (f : RunFault) (vs : List (Vec Item Global)) (early : HasEndedEarly G (servers_said lines) lines f left vs)
    (at : (n : ℕ) → IsOneOf (servers_said lines) n → IsLeftSo {T = T} G g tells lines before after first left (Err f) n) (opens : openings_of left ≡ openings_of first) (calm : AreCalmBut G f first left) where
  abbrev last : Stations V
  last = early.last

  abbrev r : Course
  r = course_of G last

  abbrev gone : (n : ℕ) → IsOneOf (servers_said lines) n → IsGoneAt {T = T} G g tells lines before after first left (Err f) n
  gone n here = (at n here).at

  opens_last : openings_of last ≡ openings_of first
  opens_last = sym (end_opened G f early.due last left early.ended) ∙ opens

  abbrev taken_at : (n : ℕ) → IsOneOf (servers_said lines) n → D
  taken_at n here = (at n here).at.taken

  abbrev given_at : (n : ℕ) → IsOneOf (servers_said lines) n → D
  given_at n here = (at n here).at.given

  v_tells : (n : ℕ) (here : IsOneOf (servers_said lines) n) → IsTrue (G.tells (at n here).at.vault)
  v_tells = vault_tells G g tells told lines before after first last left (Err f) early.on early.count opens_last gone

  seat_of_one : (n : ℕ) → IsOneOf (servers_said lines) n → IsSeat r n
  seat_of_one = seat_here G g tells told lines before after first last left (Err f) early.on early.count opens_last gone

  one_of_seat : (n : ℕ) → IsSeat r n → IsOneOf (servers_said lines) n
  one_of_seat = one_seat G g tells told lines before after first last left (Err f) early.on early.count opens_last gone

  -- one of them as it stood, and as it was left
  pub record Place (n : ℕ) (here : IsOneOf (servers_said lines) n) : Type 0 where
    pub station : Station V
    pub there : slice_get last.all.items (n - 1) ≡ Some station
    pub manned : IsManned G (length last.all.items) n station
    pub sits : seat_at r n ≡ seat_for G station.is_fused station.ranks.items (standing manned.node)
    pub other : (IsOfFault f n → ⊥) → IsLeftOther G manned.node (at n here).at.left.server
    pub own : IsOfFault f n → IsLeftOwn G f r early.due manned.node (at n here).at.left.server

  pub place : (n : ℕ) (here : IsOneOf (servers_said lines) n) → Place n here
  place n here =
      let (y, now, m, sits) = seat_on G last early.on n (seat_of_one n here) in
      record {
        station = y;
        there = now;
        manned = m;
        sits = sits;
        other = other_left G last left early.due n here.first y (at n here).at.left m.node now m.keeps.stands m.number_is (at n here).at.stands f early.ended;
        own = own_left G last left early.due n here.first y (at n here).at.left m.node now m.keeps.stands m.number_is (at n here).at.stands f early.ended;
      }

  -- the vault of one that stands
  module _ (n : ℕ) (here : IsOneOf (servers_said lines) n) (p : Place n here) (more : List Entry) (h : Stands G p.manned.node (at n here).at.left.server more) where
    stands_vault : (at n here).at.vault ≡ h.node.kept.vault
    stands_vault = up_vault (at n here).at.left.server h.node (at n here).at.vault h.stands (at n here).its

    stands_tells : IsTrue (G.tells h.node.kept.vault)
    stands_tells = subst (λ (v : V). IsTrue (G.tells v)) stands_vault (v_tells n here)

    was_tells : IsTrue (G.tells p.manned.node.kept.vault)
    was_tells = subst IsTrue h.telling stands_tells

    stands_known : IsConsistent G h.node
    stands_known = subst (IsServerRight G) h.stands (at n here).known

    stands_left : IsLeftWith g lines n (seat_at r n).opening ((seat_at r n).journal ++ more) (taken_at n here) (given_at n here)
    stands_left =
        with_journal G g tells told lines before after first last left (Err f) early.on early.count opens_last gone n here p.station p.there p.manned p.sits was_tells ((seat_at r n).journal ++ more) (λ k may.
        says_with G g tells told lines before after first last left (Err f) early.on early.count opens_last gone n here p.station p.there p.manned p.sits was_tells h.node more stands_known h.start h.journal stands_tells k (subst (λ (v : V). G.may_leave v k) stands_vault may))

  -- the count of one whose journal stopped it not, where it is not the one that failed
  counted_at : StopNone lines → (n : ℕ) (here : IsOneOf (servers_said lines) n) → AreCountedIn {T = T} n (Err f) (G.faults (at n here).at.node.kept.vault) (G.faults (at n here).at.vault)
  counted_at none n here =
      let x = (at n here).at in
      subst (λ (m : ℕ). AreCountedIn {T = T} m (Err f) (G.faults x.node.kept.vault) (G.faults x.vault)) (x.begun.started.on.kept.number ∙ x.begun.started.number) (x.gone.counted none x.begun.started.idle.free)

  -- a fault that is not this server's leaves its count, where nobody stopped a disk
  same_other : (q : RunFault) (n before_it now_it : ℕ) → (IsOfFault q n → ⊥) → AreCountedIn {T = T} n (Err q) before_it now_it → now_it ≡ before_it
  same_other run_fault.JournalFull n a b other h = h
  same_other run_fault.OutOfMemory n a b other h = h
  same_other (run_fault.DiskFault s) n a b other h = h.1 (λ is. other (sym is))
  same_other (run_fault.Start s q) n a b other h = h.1 (λ is. other (sym is))

  not_failing : (q : RunFault) (n : ℕ) → (IsOfFault q n → ⊥) → IsFailing q n → ⊥
  not_failing run_fault.JournalFull n other h = h
  not_failing run_fault.OutOfMemory n other h = h
  not_failing (run_fault.DiskFault s) n other h = other (sym h)
  not_failing (run_fault.Start s (start_fault.Vault vault_fault.OutOfMemory)) n other h = h
  not_failing (run_fault.Start s (start_fault.Vault vault_fault.Failed)) n other h = other (sym h)
  not_failing (run_fault.Start s (start_fault.Vault vault_fault.Stopped)) n other h = other (sym h)
  not_failing (run_fault.Start s (start_fault.Vault (vault_fault.NotAVolume found))) n other h = other (sym h)
  not_failing (run_fault.Start s (start_fault.Vault (vault_fault.Damaged at_it))) n other h = other (sym h)
  not_failing (run_fault.Start s start_fault.BadNote) n other h = h
  not_failing (run_fault.Start s start_fault.EpochEnd) n other h = h

  -- since it was started
  since : (n : ℕ) (here : IsOneOf (servers_said lines) n) → (IsFailing f n → ⊥) → IsCalmSince G (standing (at n here).at.node) (at n here).at.left.server
  since n here sound =
      let x = (at n here).at in
      subst (λ (o : Option (Server V)). IsCalmSince G o x.left.server) (ap server_in x.stood ∙ x.was) (subst (λ (o : Option (Server V)). IsCalmSince G (server_at first n) o) (ap server_in x.stands) (calm n here.first sound))

  module _ (n : ℕ) (here : IsOneOf (servers_said lines) n) (p : Place n here) (other : IsOfFault f n → ⊥) where
    there_still : Stands G p.manned.node (at n here).at.left.server []
    there_still = p.other other

    same_journal : there_still.node.journal ≡ (seat_at r n).journal
    same_journal = there_still.journal ∙ append-nil p.manned.node.journal ∙ sym (ap (λ (z : Seat). z.journal) p.sits)

    calm_count : AreCalm (seat_at r n).journal → G.faults (at n here).at.vault ≡ G.faults (at n here).at.node.kept.vault
    calm_count stopped_none =
        ap G.faults (stands_vault n here p [] there_still)
        ∙ (subst (λ (o : Option (Server V)). IsCalmSince G (standing (at n here).at.node) o) there_still.stands (since n here (not_failing f n other)) (subst AreCalm (sym same_journal) stopped_none)).1

    other_count : IsUnstopped lines (seat_at r n).journal → G.faults (at n here).at.vault ≡ G.faults (at n here).at.node.kept.vault
    other_count h = elim h [
      | inl none ↦ same_other f n (G.faults (at n here).at.node.kept.vault) (G.faults (at n here).at.vault) other (counted_at none n here)
      | inr stopped_none ↦ calm_count stopped_none
    ]

    pub left_other : IsLeftBy g lines r n (taken_at n here) (given_at n here)
    left_other = record {
      with_it = subst (λ (js : List Entry). IsLeftWith g lines n (seat_at r n).opening js (taken_at n here) (given_at n here)) (append-nil (seat_at r n).journal) (stands_left n here p [] there_still);
      unfailed = λ h. (at n here).at.back.faults ∙ other_count h ∙ (at n here).at.begun.started.faults;
    }

  -- ---- all of them tell what they hold, and opened with nothing where there is one alone

  fell_vault : (n : ℕ) (here : IsOneOf (servers_said lines) n) (m : NodeState V) (q : StartFault) (h : Fell G q m (at n here).at.left.server) → (at n here).at.vault ≡ h.down.vault
  fell_vault n here m q h = subst (λ (o : Option (Server V)). HasVault o (at n here).at.vault) h.left (at n here).its

  fell_tells : (n : ℕ) (here : IsOneOf (servers_said lines) n) (m : NodeState V) (q : StartFault) → Fell G q m (at n here).at.left.server → IsTrue (G.tells m.kept.vault)
  fell_tells n here m q h = subst IsTrue (ap G.tells (fell_vault n here m q h) ∙ h.stays.stays.same.telling ∙ h.stays.falls.same.telling) (v_tells n here)

  of_fault : (q : RunFault) (n : ℕ) → IsOfFault q n ⊎ (IsOfFault q n → ⊥)
  of_fault run_fault.JournalFull n = inr (λ h. h)
  of_fault run_fault.OutOfMemory n = inr (λ h. h)
  of_fault (run_fault.DiskFault s) n = cases_eq n s
  of_fault (run_fault.Start s q) n = cases_eq n s

  own_tells : (n : ℕ) (here : IsOneOf (servers_said lines) n) (p : Place n here) (q : RunFault) → IsOfFault q n → IsLeftOwn G q r early.due p.manned.node (at n here).at.left.server → IsTrue (G.tells p.manned.node.kept.vault)
  own_tells n here p run_fault.JournalFull is h = absurd is
  own_tells n here p run_fault.OutOfMemory is h = absurd is
  own_tells n here p (run_fault.DiskFault s) is h = was_tells n here p (h.entry ∷ []) h.stands
  own_tells n here p (run_fault.Start s q) is h = fell_tells n here p.manned.node q h

  place_tells : (n : ℕ) (here : IsOneOf (servers_said lines) n) (p : Place n here) → IsTrue (G.tells p.manned.node.kept.vault)
  place_tells n here p = elim (of_fault f n) [
    | inl is ↦ own_tells n here p f is (p.own is)
    | inr other ↦ was_tells n here p [] (p.other other)
  ]

  pub all_told : TellAll r
  all_told = tell_all G last (λ i s there.
      let here = one_here G g tells told lines before after first last left (Err f) early.on early.count opens_last gone i s there in
      let p = place (i + 1) here in
      let minus : i + 1 - 1 ≡ i = omega arith in
      let one : p.station ≡ s = same_there (slice_get last.all.items i) p.station s (ap (slice_get last.all.items) (sym minus) ∙ p.there) there in
      subst (λ (z : Station V). IsTrue (seat_of G z).tells) one (subst (λ o. IsTrue (seat_for G p.station.is_fused p.station.ranks.items o).tells) (sym p.manned.keeps.stands) (place_tells (i + 1) here p)))

  pub all_bare : (n : ℕ) → IsSeat r n → servers_said lines ≡ 1 → IsBare (seat_at r n).opening
  all_bare n seat alone =
      let here = one_of_seat n seat in
      let p = place n here in
      bare_here G g tells told lines before after first last left (Err f) early.on early.count opens_last gone n here p.station p.there p.manned p.sits (place_tells n here p) alone

  abbrev pub short : IsCutShort lines f r
  short = cut_short G lines f left vs early all_told all_bare

  pub others_left : (n : ℕ) (here : IsOneOf (servers_said lines) n) → (IsOfFault f n → ⊥) → IsLeftBy g lines r n (taken_at n here) (given_at n here)
  others_left n here other = left_other n here (place n here) other

  -- ---- the one of the fault

  -- it failed in the step that was due
  pub failed_left : (n : ℕ) (here : IsOneOf (servers_said lines) n) → Rose (g.faults (taken_at n here)) (g.faults (given_at n here)) → (p : Place n here) → Failed G r early.due p.manned.node (at n here).at.left.server → HasFailedOn g lines r early.due n (taken_at n here) (given_at n here)
  failed_left n here rose p h =
      let both = lawful_with G g tells told lines before after first last left (Err f) early.on early.count opens_last gone n here p.station p.there p.manned p.sits (was_tells n here p (h.entry ∷ []) h.stands) h.stands.node (h.entry ∷ []) (stands_known n here p (h.entry ∷ []) h.stands)
      h.stands.start h.stands.journal (stands_tells n here p (h.entry ∷ []) h.stands) in
      record {
        seat = seat_of_one n here;
        entry = h.entry;
        its = h.its;
        shows = h.shows;
        lawful = both.0;
        caused = both.1;
        with_it = stands_left n here p (h.entry ∷ []) h.stands;
        rose = rose;
      }

  -- it did not start again
  pub fell_left : (n : ℕ) (here : IsOneOf (servers_said lines) n) (p : Place n here) (q : StartFault) → Fell G q p.manned.node (at n here).at.left.server → IsLeftFallen g lines r n (taken_at n here) (given_at n here)
  fell_left n here p q h =
      fallen_here G g tells told lines before after first last left (Err f) early.on early.count opens_last gone n here p.station p.there p.manned p.sits (fell_tells n here p.manned.node q h) (λ k may.
      let known : IsFallen G h.down = subst (IsServerRight G) h.left (at n here).known in
      let tells_d : IsTrue (G.tells h.down.vault) = subst (λ (v : V). IsTrue (G.tells v)) (fell_vault n here p.manned.node q h) (v_tells n here) in
      let began : start_down G h.down ≡ start_in G p.manned.node = (λ i. node.start_by G ((h.stays.stays.server ∙ h.stays.falls.server) i) ((h.stays.stays.opening ∙ h.stays.falls.opening) i).vault.value) in
      let journal : h.down.journal ≡ p.manned.node.journal = h.stays.stays.journal ∙ h.stays.falls.journal in
      subst (λ (s : State). IsLeftOf s k) (λ i. state_after next (opened ((began ∙ sym (ap (λ (z : Seat). z.opening) p.sits)) i)) ((journal ∙ sym (ap (λ (z : Seat). z.journal) p.sits)) i))
      (known.left tells_d k (subst (λ (v : V). G.may_leave v k) (fell_vault n here p.manned.node q h) may)))

  -- and its count stayed, where that was not its fault
  pub fell_count : (n : ℕ) (here : IsOneOf (servers_said lines) n) (p : Place n here) (q : StartFault) (h : Fell G q p.manned.node (at n here).at.left.server) → (IsFailing f n → ⊥) → (StopNone lines → G.faults (at n here).at.vault ≡ G.faults (at n here).at.node.kept.vault)
      → IsUnstopped lines (seat_at r n).journal → g.faults (given_at n here) ≡ g.faults (taken_at n here)
  fell_count n here p q h sound same u =
      let journal : h.down.journal ≡ (seat_at r n).journal = h.stays.stays.journal ∙ h.stays.falls.journal ∙ sym (ap (λ (z : Seat). z.journal) p.sits) in
      let count : G.faults (at n here).at.vault ≡ G.faults (at n here).at.node.kept.vault = elim u [
        | inl none ↦ same none
        | inr stopped_none ↦
            ap G.faults (fell_vault n here p.manned.node q h)
            ∙ (subst (λ (o : Option (Server V)). IsCalmSince G (standing (at n here).at.node) o) h.left (since n here sound) (subst AreCalm (sym journal) stopped_none)).1
      ] in
      (at n here).at.back.faults ∙ count ∙ (at n here).at.begun.started.faults

  -- ---- a full journal

  module _ (is : f ≡ run_fault.JournalFull) where
    full_for : IsFullFor r early.due
    full_for = subst (λ (q : RunFault). IsEndFor q r early.due) is early.ends

    pub none_of : (n : ℕ) → IsOfFault f n → ⊥
    none_of n h = subst (λ (q : RunFault). IsOfFault q n) is h

    unchanged : IsUnchanged G last left
    unchanged = subst (λ (q : RunFault). EndsFor G q early.due last left) is early.ended

    abbrev pub full_at : ℕ
    full_at = server_due early.due - 1 + 1

    pub full_among : IsOneOf (servers_said lines) full_at
    full_among =
        let i : ℕ = server_due early.due - 1 in
        let full : entries_limit ≤ (get_or r.seats i no_seat).stand.place = full_for.full in
        let less : i < length r.seats = elim (low_or i (length r.seats)) [
          | inl a ↦ a
          | inr far ↦ (let none : (get_or r.seats i no_seat).stand.place ≡ 0 = ap (λ (z : Seat). z.stand.place) (get_none r.seats i no_seat far) in absurd (omega (arith, full, none)))
        ] in
        let many_is : length r.seats ≡ length last.all.items = many G last early.on in
        let count : length last.all.items ≡ servers_said lines = early.count in
        record { first = omega arith; last = omega (arith, less, many_is, count) }

    pub full_left : (here : IsOneOf (servers_said lines) full_at) → HasFilled g lines r full_at (taken_at full_at here) (given_at full_at here)
    full_left here =
        let n : ℕ = full_at in
        let i : ℕ = server_due early.due - 1 in
        let minus : n - 1 ≡ i = omega arith in
        let x = (at n here).at in
        let p = place n here in
        let m = p.manned in
        let still : x.left.server ≡ standing m.node = unchanged_as G last left early.due n here.first p.station x.left m.node p.there m.keeps.stands m.number_is x.stands unchanged in
        let h : Stands G m.node x.left.server [] = record { node = m.node; stands = still; start = refl; telling = refl; journal = sym (append-nil m.node.journal) } in
        let vault_is : x.vault ≡ m.node.kept.vault = stands_vault n here p [] h in
        let tells_m : IsTrue (G.tells m.node.kept.vault) = was_tells n here p [] h in
        let opening : m.node.opening ≡ x.node.opening = opening_same first last (n - 1) x.station p.station x.node m.node opens_last x.stood x.was p.there m.keeps.stands in
        let full : entries_limit ≤ (seat_at r n).stand.place = subst (λ (k : ℕ). entries_limit ≤ (get_or r.seats k no_seat).stand.place) (sym minus) full_for.full in
        let up : (seat_at r n).stand.is_down ≡ false = subst (λ (k : ℕ). (get_or r.seats k no_seat).stand.is_down ≡ false) (sym minus) full_for.up in
        let node_up : m.node.kept.is_down ≡ false = ap (λ (z : Seat). z.stand.is_down) (sym p.sits) ∙ up in
        let serves : IsTrue (G.serves x.vault) = subst (λ v. IsTrue (G.serves v)) (sym vault_is) (m.keeps.on.kept.ready.serving node_up) in
        record {
          seat = seat_of_one n here;
          notes = notes_in G m.node;
          started =
              subst (λ (z : Seat). z.opening ≡ start_at n (servers_said lines) z.opening.sizes z.opening.cells (notes_in G m.node)) (sym p.sits)
              (started_as G g (sizes_said lines n) n (servers_said lines) x.node m.node x.vault x.taken x.given x.begun.started (x.begun.told told) m.keeps.on m.number_is opening tells_m);
          full = subst (λ (z : Seat). entries_limit ≤ length z.journal) (sym p.sits) (subst (λ (z : Seat). entries_limit ≤ z.stand.place) p.sits full);
          stored =
              subst (λ (z : Seat). IsStored g (IsUnstopped lines z.journal) n (servers_said lines) (sizes_said lines n) z.opening (notes_in G m.node) (state_after next (opened z.opening) z.journal) x.taken x.given) (sym p.sits)
              (stored G g (sizes_said lines n) n (servers_said lines) x.node m.node x.vault x.taken x.given x.begun.started (x.begun.told told) m.keeps.on m.number_is opening tells_m node_up x.gone.same (ap G.held vault_is) serves x.back (IsUnstopped lines m.node.journal) here.first here.last
              (λ u. other_count n here p (none_of n) (subst (IsUnstopped lines) (sym (ap (λ (z : Seat). z.journal) p.sits)) u)));
        }
