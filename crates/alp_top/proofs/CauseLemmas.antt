-- why a run was not played to its end, or not reported, and how its disks are left
use Rattle.std.specs.Prelude.{Vec, Bool, IsTrue, slice_get, Option, Some, Result, Ok, Err}
use Rattle.std.specs.Global.{Global}
use Rattle.std.proofs.Common.{inl, inr, ◌⊎◌, ◌≡◌, ℕ, ◌+◌, ◌-◌, ◌≤◌, List, [], ◌∷◌, ◌++◌, length, append-nil, refl, sym, ◌∙◌, ap, subst, arith}
use Rattle.alp_base.specs.Causes.{Rose}
use Rattle.alp_base.specs.declared.allowance.Allowance.TheVariants.{Free}
use Rattle.alp_base.specs.declared.faults.VaultFault.TheVariants as vault_fault
use Rattle.alp_course.specs.Courses.{Course, Seat, IsOneOf, seat_at, TellAll}
use Rattle.alp_disk.specs.declared.disk.Disk.{Ghosts}
use Rattle.alp_journal.specs.declared.entry.Entry.{Entry}
use Rattle.alp_journal.specs.declared.log.Item.{Item}
use Rattle.alp_node.specs.NodeStates.{NodeState}
use Rattle.alp_node.specs.declared.start.StartFault.TheVariants as start_fault
use Rattle.alp_script.specs.Accepted.{servers_said}
use Rattle.alp_script.specs.declared.numbered.NumberedLine.{NumberedLine}
use Rattle.alp_vault.specs.declared.vault.Vault.{Ghosts as VaultGhosts}
use Rattle.alp_cluster.specs.Runs.{StopNone, HasEndedEarly, HasPlayedOut}
use Rattle.alp_cluster.specs.Servers.{AreCalm, AreCountedIn, IsFailure}
use Rattle.alp_cluster.specs.Station.{standing, seat_for, seat_of}
use Rattle.alp_cluster.specs.Stations.{AreCalmSince, AreCalmBut, IsManned, IsOfRun, course_of, openings_of}
use Rattle.alp_cluster.specs.declared.fault.RunFault.{RunFault}
use Rattle.alp_cluster.specs.declared.fault.RunFault.TheVariants as run_fault
use Rattle.alp_cluster.specs.declared.station.Station.{Station}
use Rattle.alp_cluster.specs.declared.stations.Stations.{Stations}
use Rattle.alp_top.specs.Disks.{AreOthersSame}
use Rattle.alp_top.specs.Faults.{played}
use Rattle.alp_top.specs.Looks.{IsLookFault}
use Rattle.alp_top.specs.Volumes.{IsUnstopped, IsLeftWith, IsLeftBy, AreLeftBut, HasFailedOn, HasFilled, HasUsedUp, HasFailedAgain, IsPlayedToEnd, HasRunCause}
use Rattle.alp_top.specs.declared.fault.NoReport.TheVariants as fault
use Rattle.alp_top.proofs.CalmAtLemmas.{calm_at}
use Rattle.alp_top.proofs.CutDisks.{short, place, others_left, failed_left, fell_left, fell_count, full_at, full_among, full_left, seat_here, one_seat, one_here, bare_here, with_journal, says_with}
use Rattle.alp_top.proofs.CutLemmas.{played_end}
use Rattle.alp_top.proofs.GoneAtLemmas.{IsGoneAt, IsLeftSo, IsDoneAt, failed, counted, rose_for, one_of, returned, returned_ok, fault_told}
use Rattle.alp_top.proofs.PairLemmas.{same_there}
use Rattle.alp_top.proofs.PlayedOutLemmas.{tell_all}
use Rattle.alp_top.proofs.SeatedLemmas.{seat_on}
use Rattle.alp_top.proofs.SeveralLemmas.{one_node}

-- ---- in the run

module _ {V D : Type 0} (G : VaultGhosts V) (g : Ghosts D) (tells : Bool) (told : IsTrue tells) (lines : List NumberedLine) (before after : ℕ → Option D) (first left : Stations V) (T : Type 0) (vs : List (Vec Item Global)) (some : 1 ≤ servers_said lines) (others : AreOthersSame (servers_said lines) before after)
    (bay_before bay_after : ℕ) (opens : openings_of left ≡ openings_of first) where
  abbrev gone_in : (f : RunFault) → ((n : ℕ) → IsOneOf (servers_said lines) n → IsLeftSo {T = T} G g tells lines before after first left (Err f) n) → (n : ℕ) → IsOneOf (servers_said lines) n → IsGoneAt {T = T} G g tells lines before after first left (Err f) n
  gone_in f at n here = (at n here).at

  -- the server that a fault names is one of them
  among : (f : RunFault) (at : (n : ℕ) → IsOneOf (servers_said lines) n → IsLeftSo {T = T} G g tells lines before after first left (Err f) n) (s : ℕ) → IsOfRun (servers_said lines) s → IsOneOf (servers_said lines) s
  among f at s h = one_of G g tells lines before after first left T f some (gone_in f at) s h

  -- what its device did there
  failed_at : (f : RunFault) (at : (n : ℕ) → IsOneOf (servers_said lines) n → IsLeftSo {T = T} G g tells lines before after first left (Err f) n) (n : ℕ) (here : IsOneOf (servers_said lines) n) → IsFailure {T = T} (IsOfRun (servers_said lines)) n (Err f) (G.faults (at n here).at.node.kept.vault) (G.faults (at n here).at.vault)
  failed_at f at n here = failed G g tells lines before after first left T f some (gone_in f at) n here

  first_one : IsOneOf (servers_said lines) 1
  first_one = record { first = omega arith; last = some }

  -- each disk is given back, and of that server this holds
  left_but : (f : RunFault) (at : (n : ℕ) → IsOneOf (servers_said lines) n → IsLeftSo {T = T} G g tells lines before after first left (Err f) n) (c : Course) (s : ℕ) (P : D → D → Type 0) → IsOneOf (servers_said lines) s
      → ((n : ℕ) (here : IsOneOf (servers_said lines) n) → (n ≡ s → ⊥) → IsLeftBy g lines c n (at n here).at.taken (at n here).at.given) → ((n : ℕ) (here : IsOneOf (servers_said lines) n) → n ≡ s → P (at n here).at.taken (at n here).at.given)
      → AreLeftBut g lines c s before after P
  left_but f at c s P named away own = (
    named,
    returned G g tells lines before after first left T f some (gone_in f at) told others (λ n d e. ((n ≡ s → ⊥) → IsLeftBy g lines c n d e) × (n ≡ s → P d e)) (λ n here. ((λ other. away n here other), (λ is. own n here is))),
  )

  pub fell_cause : (f : RunFault) → HasEndedEarly G (servers_said lines) lines f left vs → ((n : ℕ) → IsOneOf (servers_said lines) n → IsLeftSo {T = T} G g tells lines before after first left (Err f) n) → AreCalmBut G f first left → HasRunCause g lines before after bay_before bay_after (played f)
  fell_cause run_fault.JournalFull early at calm =
      let f : RunFault = run_fault.JournalFull in
      let c = course_of G early.last in
      let k : ℕ = full_at G g tells told lines before after first left f vs early at opens calm refl in (
        c,
        short G g tells told lines before after first left f vs early at opens calm,
        k,
        full_among G g tells told lines before after first left f vs early at opens calm refl,
        returned G g tells lines before after first left T f some (gone_in f at) told others (λ n d e. IsLeftBy g lines c n d e × (n ≡ k → HasFilled g lines c n d e)) (λ n here. (
          others_left G g tells told lines before after first left f vs early at opens calm n here (λ h. h),
          (λ is. subst (λ (m : ℕ). (h : IsOneOf (servers_said lines) m) → HasFilled g lines c m (at m h).at.taken (at m h).at.given) (sym is) (full_left G g tells told lines before after first left f vs early at opens calm refl) here),
        )),
      )
  fell_cause run_fault.OutOfMemory early at calm =
      let f : RunFault = run_fault.OutOfMemory in
      let c = course_of G early.last in
      inr (inr (inl (
        c,
        short G g tells told lines before after first left f vs early at opens calm,
        returned G g tells lines before after first left T f some (gone_in f at) told others (λ n d e. IsLeftBy g lines c n d e) (λ n here. others_left G g tells told lines before after first left f vs early at opens calm n here (λ h. h)),
      )))
  fell_cause (run_fault.DiskFault s) early at calm =
      let f : RunFault = run_fault.DiskFault s in
      let c = course_of G early.last in
      inr (inl (
        c,
        short G g tells told lines before after first left f vs early at opens calm,
        left_but f at c s (HasFailedOn g lines c early.due s) (among f at s (failed_at f at 1 first_one).0) (λ n here other. others_left G g tells told lines before after first left f vs early at opens calm n here other) (λ n here is.
            subst (λ (m : ℕ). HasFailedOn g lines c early.due m (at n here).at.taken (at n here).at.given) is
            (let p = place G g tells told lines before after first left f vs early at opens calm n here in
            failed_left G g tells told lines before after first left f vs early at opens calm n here (rose_for G g tells lines before after first left T f some (gone_in f at) n here ((failed_at f at n here).1 (sym is))) p (p.own is))),
      ))
  fell_cause (run_fault.Start s (start_fault.Vault vault_fault.Failed)) early at calm =
      let f : RunFault = run_fault.Start s (start_fault.Vault vault_fault.Failed) in
      let c = course_of G early.last in
      inr (inr (inl (
        c,
        short G g tells told lines before after first left f vs early at opens calm,
        left_but f at c s (HasFailedAgain g lines c s) (among f at s (failed_at f at 1 first_one).0) (λ n here other. others_left G g tells told lines before after first left f vs early at opens calm n here other) (λ n here is.
            subst (λ (m : ℕ). HasFailedAgain g lines c m (at n here).at.taken (at n here).at.given) is
            (let p = place G g tells told lines before after first left f vs early at opens calm n here in
            record {
              fallen = fell_left G g tells told lines before after first left f vs early at opens calm n here p (start_fault.Vault vault_fault.Failed) (p.own is);
              rose = rose_for G g tells lines before after first left T f some (gone_in f at) n here ((failed_at f at n here).1 (sym is));
            })),
      )))
  fell_cause (run_fault.Start s (start_fault.Vault vault_fault.OutOfMemory)) early at calm =
      let f : RunFault = run_fault.Start s (start_fault.Vault vault_fault.OutOfMemory) in
      let c = course_of G early.last in
      inr (inr (inr (inl (
        c,
        s,
        short G g tells told lines before after first left f vs early at opens calm,
        left_but f at c s (HasUsedUp g lines c s) (among f at s (failed_at f at 1 first_one).0) (λ n here other. others_left G g tells told lines before after first left f vs early at opens calm n here other) (λ n here is.
            subst (λ (m : ℕ). HasUsedUp g lines c m (at n here).at.taken (at n here).at.given) is
            (let p = place G g tells told lines before after first left f vs early at opens calm n here in
            record {
              fallen = fell_left G g tells told lines before after first left f vs early at opens calm n here p (start_fault.Vault vault_fault.OutOfMemory) (p.own is);
              unfailed = fell_count G g tells told lines before after first left f vs early at opens calm n here p (start_fault.Vault vault_fault.OutOfMemory) (p.own is) (λ h. h)
                  (λ none. (counted G g tells lines before after first left T f some (gone_in f at) none n here).0 (sym is));
            })),
      ))))
  fell_cause (run_fault.Start s start_fault.EpochEnd) early at calm =
      let f : RunFault = run_fault.Start s start_fault.EpochEnd in
      let c = course_of G early.last in
      inr (
        c,
        short G g tells told lines before after first left f vs early at opens calm,
        left_but f at c s (HasUsedUp g lines c s) (among f at s (failed_at f at 1 first_one).0) (λ n here other. others_left G g tells told lines before after first left f vs early at opens calm n here other) (λ n here is.
            subst (λ (m : ℕ). HasUsedUp g lines c m (at n here).at.taken (at n here).at.given) is
            (let p = place G g tells told lines before after first left f vs early at opens calm n here in
            record {
              fallen = fell_left G g tells told lines before after first left f vs early at opens calm n here p start_fault.EpochEnd (p.own is);
              unfailed = fell_count G g tells told lines before after first left f vs early at opens calm n here p start_fault.EpochEnd (p.own is) (λ h. h)
                  (λ none. (counted G g tells lines before after first left T f some (gone_in f at) none n here).0 (sym is));
            })),
      )
  fell_cause (run_fault.Start s (start_fault.Vault vault_fault.Stopped)) early at calm =
      let f : RunFault = run_fault.Start s (start_fault.Vault vault_fault.Stopped) in
      absurd ((failed_at f at s (among f at s (failed_at f at 1 first_one).0)).1 refl)
  fell_cause (run_fault.Start s (start_fault.Vault (vault_fault.NotAVolume found))) early at calm =
      let f : RunFault = run_fault.Start s (start_fault.Vault (vault_fault.NotAVolume found)) in
      absurd (fault_told G g tells lines before after first left T f some (gone_in f at) told others s (among f at s (failed_at f at 1 first_one).0) refl)
  fell_cause (run_fault.Start s (start_fault.Vault (vault_fault.Damaged place_at))) early at calm =
      let f : RunFault = run_fault.Start s (start_fault.Vault (vault_fault.Damaged place_at)) in
      absurd (fault_told G g tells lines before after first left T f some (gone_in f at) told others s (among f at s (failed_at f at 1 first_one).0) refl)
  fell_cause (run_fault.Start s start_fault.BadNote) early at calm =
      let f : RunFault = run_fault.Start s start_fault.BadNote in
      absurd (fault_told G g tells lines before after first left T f some (gone_in f at) told others s (among f at s (failed_at f at 1 first_one).0) refl)

-- ---- for the report, when all was played

module _ {V D T : Type 0} (G : VaultGhosts V) (g : Ghosts D) (tells : Bool) (told : IsTrue tells) (lines : List NumberedLine) (before after : ℕ → Option D) (first last : Stations V) (r : Result T RunFault) (vs : List (Vec Item Global)) (text : List ℕ) (some : 1 ≤ servers_said lines) (others : AreOthersSame (servers_said lines) before after)
    (out : HasPlayedOut G (servers_said lines) lines last vs text) (opens : openings_of last ≡ openings_of first) (calm : AreCalmSince G first last) (at : (n : ℕ) → IsOneOf (servers_said lines) n → IsDoneAt {T = T} G g tells lines before after first last r n) where
  abbrev c : Course
  c = course_of G last

  abbrev gone : (n : ℕ) → IsOneOf (servers_said lines) n → IsGoneAt {T = T} G g tells lines before after first last r n
  gone n here = (at n here).at

  -- one of them, at rest
  record Rests (n : ℕ) (here : IsOneOf (servers_said lines) n) : Type 0 where
    station : Station V
    there : slice_get last.all.items (n - 1) ≡ Some station
    manned : IsManned G (length last.all.items) n station
    sits : seat_at c n ≡ seat_for G station.is_fused station.ranks.items (standing manned.node)
    is : manned.node ≡ (at n here).rest

  rests : (n : ℕ) (here : IsOneOf (servers_said lines) n) → Rests n here
  rests n here =
      let seat = seat_here G g tells told lines before after first last last r out.on out.count opens gone n here in
      let (y, now, m, sits) = seat_on G last out.on n seat in
      let same : y ≡ (at n here).at.left = same_there (slice_get last.all.items (n - 1)) y (at n here).at.left now (at n here).at.stands in
      record { station = y; there = now; manned = m; sits = sits; is = one_node y.server m.node (at n here).rest m.keeps.stands (ap (λ (z : Station V). z.server) same ∙ (at n here).rests) }

  node_tells : (n : ℕ) (here : IsOneOf (servers_said lines) n) (p : Rests n here) → IsTrue (G.tells p.manned.node.kept.vault)
  node_tells n here p =
      let x = at n here in
      subst (λ (z : NodeState V). IsTrue (G.tells z.kept.vault)) (sym p.is) (subst IsTrue (sym (x.telling ∙ x.at.begun.started.telling)) (x.at.begun.told told))

  rest_with : (n : ℕ) (here : IsOneOf (servers_said lines) n) (p : Rests n here) → IsLeftWith g lines n (seat_at c n).opening (seat_at c n).journal (at n here).at.taken (at n here).at.given
  rest_with n here p =
      let m : NodeState V = p.manned.node in
      subst (λ (js : List Entry). IsLeftWith g lines n (seat_at c n).opening js (at n here).at.taken (at n here).at.given) (append-nil (seat_at c n).journal)
      (with_journal G g tells told lines before after first last last r out.on out.count opens gone n here p.station p.there p.manned p.sits (node_tells n here p) ((seat_at c n).journal ++ []) (λ k may.
      says_with G g tells told lines before after first last last r out.on out.count opens gone n here p.station p.there p.manned p.sits (node_tells n here p) m [] p.manned.keeps.on.kept refl (sym (append-nil m.journal)) (node_tells n here p) k
      (subst (λ (z : NodeState V). G.may_leave z.kept.vault k) (sym p.is) ((at n here).crash k may))))

  -- no line stops its disk any more
  free_there : (n : ℕ) (here : IsOneOf (servers_said lines) n) (p : Rests n here) → G.allowance (at n here).rest.kept.vault ≡ Free
  free_there n here p =
      let seat = seat_here G g tells told lines before after first last last r out.on out.count opens gone n here in
      subst (λ (z : NodeState V). G.allowance z.kept.vault ≡ Free) p.is (p.manned.keeps.free (ap (λ (z : Seat). z.stand.is_fused) (sym p.sits) ∙ (out.up n seat).free))

  -- so its count stayed, where it stayed as it was looked at
  rest_count : (n : ℕ) (here : IsOneOf (servers_said lines) n) (p : Rests n here) → (StopNone lines → G.faults (at n here).at.vault ≡ G.faults (at n here).at.node.kept.vault) → G.faults (at n here).at.vault ≡ G.faults (at n here).rest.kept.vault
      → IsUnstopped lines (seat_at c n).journal → g.faults (at n here).at.given ≡ g.faults (at n here).at.taken
  rest_count n here p same looked u =
      let x = (at n here).at in
      let count : G.faults x.vault ≡ G.faults x.node.kept.vault = elim u [
        | inl none ↦ same none
        | inr stopped_none ↦
            looked
            ∙ (calm_at G first last calm n x.station x.left x.node (standing (at n here).rest) x.stood x.was x.stands (at n here).rests
            (subst (λ (z : NodeState V). AreCalm z.journal) p.is (subst AreCalm (ap (λ (z : Seat). z.journal) p.sits) stopped_none))).1
      ] in
      x.back.faults ∙ count ∙ x.begun.started.faults

  rest_left : (n : ℕ) (here : IsOneOf (servers_said lines) n) → (StopNone lines → G.faults (at n here).at.vault ≡ G.faults (at n here).at.node.kept.vault) → G.faults (at n here).at.vault ≡ G.faults (at n here).rest.kept.vault
      → IsLeftBy g lines c n (at n here).at.taken (at n here).at.given
  rest_left n here same looked = (let p = rests n here in record { with_it = rest_with n here p; unfailed = rest_count n here p same looked })

  all_told : TellAll c
  all_told = tell_all G last (λ i s there.
      let here = one_here G g tells told lines before after first last last r out.on out.count opens gone i s there in
      let p = rests (i + 1) here in
      let minus : i + 1 - 1 ≡ i = omega arith in
      let one : p.station ≡ s = same_there (slice_get last.all.items i) p.station s (ap (slice_get last.all.items) (sym minus) ∙ p.there) there in
      subst (λ (z : Station V). IsTrue (seat_of G z).tells) one (subst (λ o. IsTrue (seat_for G p.station.is_fused p.station.ranks.items o).tells) (sym p.manned.keeps.stands) (node_tells (i + 1) here p)))

  to_end : IsPlayedToEnd lines c
  to_end = played_end G lines last vs text out all_told (λ n seat alone.
      let here = one_seat G g tells told lines before after first last last r out.on out.count opens gone n seat in
      let p = rests n here in
      bare_here G g tells told lines before after first last last r out.on out.count opens gone n here p.station p.there p.manned p.sits (node_tells n here p) alone)

  looked_at : (n : ℕ) (here : IsOneOf (servers_said lines) n) → AreCountedIn n r (G.faults (at n here).rest.kept.vault) (G.faults (at n here).at.vault)
  looked_at n here =
      let p = rests n here in
      let number : G.server (at n here).rest.kept.vault ≡ n = (at n here).kept.number ∙ ap (λ (z : NodeState V). z.kept.server) (sym p.is) ∙ p.manned.number_is in
      subst (λ (k : ℕ). AreCountedIn k r (G.faults (at n here).rest.kept.vault) (G.faults (at n here).at.vault)) number ((at n here).looked (free_there n here p))

  counted_in : (n : ℕ) (here : IsOneOf (servers_said lines) n) → StopNone lines → AreCountedIn n r (G.faults (at n here).at.node.kept.vault) (G.faults (at n here).at.vault)
  counted_in n here none =
      let x = (at n here).at in
      subst (λ (k : ℕ). AreCountedIn k r (G.faults x.node.kept.vault) (G.faults x.vault)) (x.begun.started.on.kept.number ∙ x.begun.started.number) (x.gone.counted none x.begun.started.idle.free)

-- there was no memory for the report, whatever the servers told
module _ {V D U : Type 0} (G : VaultGhosts V) (g : Ghosts D) (tells : Bool) (told : IsTrue tells) (lines : List NumberedLine) (before after : ℕ → Option D) (first last : Stations V) (vs : List (Vec Item Global)) (text : List ℕ) (some : 1 ≤ servers_said lines) (others : AreOthersSame (servers_said lines) before after)
    (out : HasPlayedOut G (servers_said lines) lines last vs text) (opens : openings_of last ≡ openings_of first) (calm : AreCalmSince G first last) (bay_before bay_after : ℕ) where
  pub report_cause : (u : U) → ((n : ℕ) → IsOneOf (servers_said lines) n → IsDoneAt {T = U} G g tells lines before after first last (Ok u) n) → HasRunCause g lines before after bay_before bay_after fault.OutOfMemory
  report_cause u at =
      let c = course_of G last in
      inr (inr (inr (inr (
        c,
        to_end G g tells told lines before after first last (Ok u) vs text some others out opens calm at,
        returned_ok G g tells told lines before after first last (Ok u) others (λ n here. (at n here).at) (λ n d e. IsLeftBy g lines c n d e)
            (λ n here. rest_left G g tells told lines before after first last (Ok u) vs text some others out opens calm at n here (λ none. counted_in G g tells told lines before after first last (Ok u) vs text some others out opens calm at n here none)
            (looked_at G g tells told lines before after first last (Ok u) vs text some others out opens calm at n here)),
      ))))

  -- a server could not be looked at
  pub close_cause : (f : RunFault) → IsLookFault f → ((n : ℕ) → IsOneOf (servers_said lines) n → IsDoneAt {T = U} G g tells lines before after first last (Err f) n) → HasRunCause g lines before after bay_before bay_after (played f)
  close_cause run_fault.JournalFull only at = absurd only
  close_cause (run_fault.Start s q) only at = absurd only
  close_cause run_fault.OutOfMemory only at =
      let f : RunFault = run_fault.OutOfMemory in
      let c = course_of G last in
      inr (inr (inr (inr (
        c,
        to_end G g tells told lines before after first last (Err f) vs text some others out opens calm at,
        returned G g tells lines before after first last U f some (λ n here. (at n here).at) told others (λ n d e. IsLeftBy g lines c n d e)
            (λ n here. rest_left G g tells told lines before after first last (Err f) vs text some others out opens calm at n here (λ none. counted_in G g tells told lines before after first last (Err f) vs text some others out opens calm at n here none)
            (looked_at G g tells told lines before after first last (Err f) vs text some others out opens calm at n here)),
      ))))
  close_cause (run_fault.DiskFault s) only at =
      let f : RunFault = run_fault.DiskFault s in
      let c = course_of G last in
      let gone_at : (n : ℕ) → IsOneOf (servers_said lines) n → IsGoneAt {T = U} G g tells lines before after first last (Err f) n = λ n here. (at n here).at in
      let named : IsOneOf (servers_said lines) s = one_of G g tells lines before after first last U f some gone_at s (failed G g tells lines before after first last U f some gone_at 1 (record { first = omega arith; last = some })).0 in
      inr (inr (inr (
        c,
        to_end G g tells told lines before after first last (Err f) vs text some others out opens calm at,
        (
          named,
          returned G g tells lines before after first last U f some gone_at told others
              (λ n d e. ((n ≡ s → ⊥) → IsLeftBy g lines c n d e) × (n ≡ s → IsLeftWith g lines s (seat_at c s).opening (seat_at c s).journal d e × Rose (g.faults d) (g.faults e))) (λ n here. (
                (λ other. rest_left G g tells told lines before after first last (Err f) vs text some others out opens calm at n here (λ none. (counted_in G g tells told lines before after first last (Err f) vs text some others out opens calm at n here none).1 (λ is. other (sym is)))
                    ((looked_at G g tells told lines before after first last (Err f) vs text some others out opens calm at n here).1 (λ is. other (sym is)))),
                (λ is. subst (λ (m : ℕ). IsLeftWith g lines m (seat_at c m).opening (seat_at c m).journal (at n here).at.taken (at n here).at.given × Rose (g.faults (at n here).at.taken) (g.faults (at n here).at.given)) is (
                  rest_with G g tells told lines before after first last (Err f) vs text some others out opens calm at n here (rests G g tells told lines before after first last (Err f) vs text some others out opens calm at n here),
                  rose_for G g tells lines before after first last U f some gone_at n here ((failed G g tells lines before after first last U f some gone_at n here).1 (sym is)),
                )),
              )),
        ),
      )))
