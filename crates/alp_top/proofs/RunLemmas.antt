-- a run on the disks of a bay, and how it ended
use Rattle.std.specs.Prelude.{Vec, Bool, IsTrue, slice_get, Option, Some, Result, Ok, Err}
use Rattle.std.specs.Global.{Global}
use Rattle.std.proofs.Common.{◌≡◌, ℕ, suc, ◌+◌, ◌-◌, ◌<◌, ◌≤◌, List, [], ◌∷◌, length, refl, sym, ◌∙◌, ap, subst, arith}
use Rattle.alp_bay.specs.declared.bay.BayFault.{BayFault}
use Rattle.alp_bay.specs.declared.bay.BayFault.TheVariants as bay_fault
use Rattle.alp_course.specs.Courses.{Seat, IsOneOf, IsSeat}
use Rattle.alp_disk.specs.declared.disk.Disk.{Ghosts}
use Rattle.alp_journal.specs.declared.log.Item.{Item}
use Rattle.alp_node.specs.NodeStates.{NodeState}
use Rattle.alp_node.specs.declared.start.StartFault.TheVariants as start_fault
use Rattle.alp_base.specs.declared.faults.VaultFault.TheVariants as vault_fault
use Rattle.alp_script.specs.Accepted.{RisesFrom, servers_said}
use Rattle.alp_script.specs.declared.numbered.NumberedLine.{NumberedLine}
use Rattle.alp_vault.specs.declared.vault.Vault.{Ghosts as VaultGhosts}
use Rattle.alp_cluster.specs.Fills.{OnEndBy}
use Rattle.alp_cluster.specs.Gathered.{AreStationsOf}
use Rattle.alp_cluster.specs.Runs.{StopNone, HasPlayed, HasPlayedOut, HasEndedEarly}
use Rattle.alp_cluster.specs.Servers.{HasGoneBy}
use Rattle.alp_cluster.specs.Station.{standing, HasVault}
use Rattle.alp_cluster.specs.Stations.{AreCalmSince, AreCalmBut, IsOfRun, HaveGone, course_of, openings_of}
use Rattle.alp_cluster.specs.declared.cluster.Cluster.{Cluster}
use Rattle.alp_cluster.specs.declared.fault.RunFault.{RunFault}
use Rattle.alp_cluster.specs.declared.fault.RunFault.TheVariants as run_fault
use Rattle.alp_cluster.specs.declared.station.Station.{Station}
use Rattle.alp_cluster.specs.declared.stations.Stations.{Stations}
use Rattle.alp_cluster.proofs.GatherLemmas.{played_none}
use Rattle.alp_top.specs.Anywhere.{IsPlayedThrough}
use Rattle.alp_top.specs.Disks.{IsBegunAt, AreBegun, IsOfServer, HaveBegun, HaveBegunSome, AreHeld, AreLeftBy, IsAtRest, AreAtRest, AreClosed}
use Rattle.alp_top.specs.Limits.{IsEndedFor, IsEndTold}
use Rattle.alp_top.specs.Looks.{IsLookFault}
use Rattle.alp_top.specs.Endings.{AreRestsOf, IsReportOf, shown_text}
use Rattle.alp_top.specs.Faults.{of_bay, played}
use Rattle.alp_top.specs.Besides.{IsRunOf}
use Rattle.alp_top.specs.Logs.{Log}
use Rattle.alp_top.specs.Volumes.{HasRunCause, IsBayFault, IsOfServers}
use Rattle.alp_top.specs.declared.fault.NoReport.{NoReport}
use Rattle.alp_top.specs.declared.fault.NoReport.TheVariants as fault
use Rattle.alp_top.specs.declared.finish.Rests.{Rests}
use Rattle.alp_top.proofs.EndedLemmas.{ended_for, ended_told}
use Rattle.alp_top.proofs.CauseLemmas.{fell_cause, report_cause, close_cause}
use Rattle.alp_top.proofs.GivenLemmas.{station_at, stations_many}
use Rattle.alp_top.proofs.GoneAtLemmas.{IsGoneAt, IsLeftSo, others_same, left_at, done_at, play_counted, play_epoch}
use Rattle.alp_top.proofs.PairLemmas.{HasPair, paired_at, same_there}
use Rattle.alp_top.proofs.PlayedOutLemmas.{run_over}
use Rattle.alp_top.proofs.SeatedLemmas.{there_less, seat_on, many}
use Rattle.alp_top.proofs.SeveralLemmas.{played_through}
use Rattle.alp_top.proofs.StartedLemmas.{new_of, held_each, held_of_begun}

-- ---- faults

pub end_by : (f : RunFault) (P : RunFault → Type 0) → OnEndBy f P → P f
end_by (run_fault.DiskFault s) P h = h
end_by run_fault.OutOfMemory P h = h
end_by run_fault.JournalFull P h = h
end_by (run_fault.Start s q) P h = h

-- what ends the closing of servers comes to no limit
pub close_unended : (lines : List NumberedLine) (f : RunFault) → IsLookFault f → IsEndTold lines (played f)
close_unended lines run_fault.JournalFull only = absurd only
close_unended lines (run_fault.Start s q) only = absurd only
close_unended lines run_fault.OutOfMemory only = tt
close_unended lines (run_fault.DiskFault s) only = tt

-- none of the bay
pub play_still : (f : RunFault) (before now : ℕ) → now ≡ before → IsBayFault (played f) before now
play_still (run_fault.DiskFault s) before now same = same
play_still run_fault.OutOfMemory before now same = same
play_still run_fault.JournalFull before now same = same
play_still (run_fault.Start s (start_fault.Vault vault_fault.Failed)) before now same = same
play_still (run_fault.Start s (start_fault.Vault vault_fault.Stopped)) before now same = same
play_still (run_fault.Start s (start_fault.Vault vault_fault.OutOfMemory)) before now same = same
play_still (run_fault.Start s (start_fault.Vault (vault_fault.NotAVolume found))) before now same = same
play_still (run_fault.Start s (start_fault.Vault (vault_fault.Damaged place))) before now same = same
play_still (run_fault.Start s start_fault.BadNote) before now same = same
play_still (run_fault.Start s start_fault.EpochEnd) before now same = same

-- the bay names no server
pub bay_uncounted : {D : Type 0} (g : Ghosts D) (servers : ℕ) (f : BayFault) → IsOfServers g servers (of_bay f)
bay_uncounted g servers bay_fault.Failed = tt
bay_uncounted g servers bay_fault.OutOfMemory = tt

-- one of the servers, the first of those that are not started
pub start_counted : {D : Type 0} (g : Ghosts D) (servers k : ℕ) (f : NoReport) → k < servers → IsOfServer g (k + 1) f → IsOfServers g servers f
start_counted {D} g servers k f less h = go f h
  where
    one : (s : ℕ) → s ≡ k + 1 → IsOneOf servers s
    one s is = record { first = omega (arith, is); last = omega (arith, is, less) }

    go : (q : NoReport) → IsOfServer g (k + 1) q → IsOfServers g servers q
    go fault.Bay h = tt
    go (fault.Disk s) h = (one s h.0, h.1, h.2, h.3)
    go fault.OutOfMemory h = tt
    go fault.JournalFull h = tt
    go (fault.EpochEnd s) h = tt
    go (fault.NotAVolume s found) h = one s h
    go (fault.Damaged s place) h = one s h

-- ---- servers at rest

rest_each : {V : Type 0} (G : VaultGhosts V) (tells : Bool) (number : ℕ) (xs : List (Station V)) → ((i : ℕ) (x : Station V) → slice_get xs i ≡ Some x → IsAtRest G tells (number + i) x) → AreAtRest G tells number xs
rest_each G tells number [] f = tt
rest_each G tells number (x ∷ xs) f = (
  (let same : number + 0 ≡ number = omega arith in subst (λ (m : ℕ). IsAtRest G tells m x) same (f 0 x refl)),
  rest_each G tells (number + 1) xs (λ i y at. (let same : number + suc i ≡ number + 1 + i = omega arith in subst (λ (m : ℕ). IsAtRest G tells m y) same (f (suc i) y at))),
)

-- the server that stands at a place was started, and that came of it
record HasCome {V D T : Type 0} (G : VaultGhosts V) (g : Ghosts D) (tells : Bool) (lines : List NumberedLine) (before : ℕ → Option D) (servers : ℕ) (P : Type 0) (r : Result T RunFault) (number : ℕ) (s : Station V) : Type 0 where
  node : NodeState V
  disk : D
  begun : IsBegunAt G g tells lines before number node disk
  vault : V
  its : HasVault s.server vault
  gone : HasGoneBy G (IsOfRun servers) P node.kept.vault vault r

module _ {V D : Type 0} (G : VaultGhosts V) (g : Ghosts D) (tells : Bool) (lines : List NumberedLine) (before : ℕ → Option D) (ns : List (NodeState V)) (ds : List D) (first now : Stations V) (stand : AreStationsOf ns first.all.items) (begun : AreBegun G g tells lines before 1 ns ds) where
  come_at : {T : Type 0} (P : Type 0) (r : Result T RunFault) → HaveGone G P first now r → (i : ℕ) (s : Station V) → slice_get now.all.items i ≡ Some s → HasCome G g tells lines before (length first.all.items) P r (1 + i) s
  come_at P r gone i s at =
      let low : i < length now.all.items = there_less now.all.items i s at in
      let all : length first.all.items ≡ length ns = stations_many ns first.all.items stand in
      let less : i < length ns = omega (arith, low, gone.many, all) in
      let p : HasPair (IsBegunAt G g tells lines before) 1 i ns ds = paired_at (IsBegunAt G g tells lines before) 1 i ns ds begun less in
      let (x, stood, was) = station_at ns first.all.items i p.one stand p.at_one in
      let l = gone.each i x p.one stood was in
      let one : l.station ≡ s = same_there (slice_get now.all.items i) l.station s l.there at in
      record { node = p.one; disk = p.two; begun = p.both; vault = l.vault; its = subst (λ (z : Station V). HasVault z.server l.vault) one l.its; gone = l.gone }

  come_told : {T : Type 0} (P : Type 0) (r : Result T RunFault) (servers number : ℕ) (s : Station V) (h : HasCome G g tells lines before servers P r number s) → IsTrue tells → IsTrue (G.tells h.vault)
  come_told P r servers number s h told = subst IsTrue (sym (h.gone.same.telling ∙ h.begun.started.telling)) (h.begun.told told)

  -- each has its vault
  pub gone_held : {T : Type 0} (P : Type 0) (r : Result T RunFault) → HaveGone G P first now r → AreHeld G tells now.all.items
  gone_held P r gone = held_each G tells now.all.items (λ i s at. (let h = come_at P r gone i s at in record { vault = h.vault; its = h.its; told = come_told P r (length first.all.items) (1 + i) s h }))

  -- and stands at rest
  pub all_rest : {T : Type 0} (P : Type 0) (x : T) → HaveGone G P first now (Ok x) → (servers : ℕ) (vs : List (Vec Item Global)) (text : List ℕ) → HasPlayedOut G servers lines now vs text → AreAtRest G tells 1 now.all.items
  all_rest P x gone servers vs text out = rest_each G tells 1 now.all.items (λ i s at.
      let h = come_at P (Ok x) gone i s at in
      let low : i < length now.all.items = there_less now.all.items i s at in
      let all : length (course_of G now).seats ≡ length now.all.items = many G now out.on in
      let here : IsSeat (course_of G now) (1 + i) = record { first = omega arith; last = omega (arith, low, all) } in
      let minus : 1 + i - 1 ≡ i = omega arith in
      let (y, there, m, same) = seat_on G now out.on (1 + i) here in
      let one : y ≡ s = same_there (slice_get now.all.items i) y s (ap (slice_get now.all.items) (sym minus) ∙ there) at in
      let stands : s.server ≡ standing m.node = ap (λ (z : Station V). z.server) (sym one) ∙ m.keeps.stands in
      let vault : h.vault ≡ m.node.kept.vault = subst (λ o. HasVault o h.vault) stands h.its in
      record {
        node = m.node;
        stands = stands;
        on = m.keeps.on;
        up = ap (λ (z : Seat). z.stand.is_down) (sym same) ∙ (out.up (1 + i) here).up;
        free = m.keeps.free (ap (λ (z : Seat). z.stand.is_fused) (sym same) ∙ (out.up (1 + i) here).free);
        number_is = m.number_is;
        told = λ told. subst (λ (v : V). IsTrue (G.tells v)) vault (come_told P (Ok x) (length first.all.items) (1 + i) s h told);
      })

-- ---- how it ended

module _ {V D : Type 0} (G : VaultGhosts V) (g : Ghosts D) (tells : Bool) (lines : List NumberedLine) (some : 1 ≤ servers_said lines) (few : servers_said lines ≤ 8) (before mid after : ℕ → Option D) (c : Cluster V) (h : HaveBegun G g tells lines (servers_said lines) before mid c) where
  abbrev first : Stations V
  first = c.parties.stations

  -- it begins with servers that did nothing
  pub begins_new : HasPlayed G (servers_said lines) [] c.parties.clients first c.lists.items c.text.items
  begins_new = played_none G (servers_said lines) h.nodes c.parties c.lists.items c.text.items h.gathered (new_of G g tells lines before 1 h.nodes h.disks h.begun) h.many some few

  first_many : length first.all.items ≡ servers_said lines
  first_many = stations_many h.nodes first.all.items h.gathered.stations ∙ h.many

  -- ---- while it was played

  module _ (now : Stations V) (f : RunFault) (gone : HaveGone {T = Unit {0}} G (StopNone lines) first now (Err f)) where
    pub fell_few : length now.all.items ≤ 8
    fell_few = omega (arith, gone.many, first_many, few)

    pub fell_held : AreHeld G tells now.all.items
    fell_held = gone_held G g tells lines before h.nodes h.disks first now h.gathered.stations h.begun (StopNone lines) (Err f) gone

    module _ (left : AreLeftBy G g tells now.all.items mid after) where
      fell_at : (n : ℕ) → IsOneOf (servers_said lines) n → IsLeftSo {T = Unit {0}} G g tells lines before after first now (Err f) n
      fell_at = left_at G g tells lines before mid after h.nodes h.disks first now h.gathered.stations h.many h.begun h.others (Err f) gone left

      pub fell_counted : IsOfServers g (servers_said lines) (played f)
      fell_counted = play_counted G g tells lines before after first now (Unit {0}) f some (λ n here. (fell_at n here).at)

      pub fell_told : (vs : List (Vec Item Global)) → OnEndBy f (λ e. HasEndedEarly G (servers_said lines) lines e now vs) → IsEndTold lines (played f)
      fell_told vs ended =
          ended_told lines f (λ is. subst (IsEndedFor lines) is (ended_for G lines f now vs (end_by f (λ e. HasEndedEarly G (servers_said lines) lines e now vs) ended)))
          (λ s is. play_epoch G g tells lines before after first now (Unit {0}) f some (λ n here. (fell_at n here).at) s is)

      pub fell_ended : IsTrue tells → (bay_before bay_after : ℕ) (vs : List (Vec Item Global)) → OnEndBy f (λ e. HasEndedEarly G (servers_said lines) lines e now vs) → OnEndBy f (λ e. openings_of now ≡ openings_of first) → OnEndBy f (λ e. AreCalmBut G e first now)
          → HasRunCause g lines before after bay_before bay_after (played f)
      fell_ended told bay_before bay_after vs ended opens calm =
          fell_cause G g tells told lines before after first now (Unit {0}) vs some
          (others_same G g tells lines before mid after h.nodes h.disks first now h.gathered.stations h.many h.begun h.others (Err f) gone told (left.others told)) bay_before bay_after
          (end_by f (λ e. openings_of now ≡ openings_of first) opens) f (end_by f (λ e. HasEndedEarly G (servers_said lines) lines e now vs) ended) fell_at (end_by f (λ e. AreCalmBut G e first now) calm)

  -- ---- when it was played

  module _ (now : Stations V) (gone : HaveGone {T = Unit {0}} G (StopNone lines) first now (Ok tt)) where
    pub rest_few : length now.all.items ≤ 8
    rest_few = omega (arith, gone.many, first_many, few)

    pub rest_all : (vs : List (Vec Item Global)) (text : List ℕ) → HasPlayedOut G (servers_said lines) lines now vs text → AreAtRest G tells 1 now.all.items
    rest_all vs text out = all_rest G g tells lines before h.nodes h.disks first now h.gathered.stations h.begun (StopNone lines) _ gone (servers_said lines) vs text out

    others_then : (closed : IsTrue tells → (n : ℕ) → (IsOneOf (length now.all.items) n → ⊥) → after n ≡ mid n) → (told : IsTrue tells) → (n : ℕ) → (IsOneOf (servers_said lines) n → ⊥) → after n ≡ before n
    others_then closed told = others_same G g tells lines before mid after h.nodes h.disks first now h.gathered.stations h.many h.begun h.others (Ok tt) gone told (closed told)

    module _ {U : Type 0} (q : Result U RunFault) (closed : AreClosed G g tells (length now.all.items) now.all.items mid after q) where
      rest_at : (n : ℕ) → IsOneOf (servers_said lines) n → IsGoneAt {T = U} G g tells lines before after first now q n
      rest_at n here = (done_at G g tells lines before mid after h.nodes h.disks first now h.gathered.stations h.many h.begun h.others tt q gone closed n here).at

    -- a server could not be looked at
    module _ {U : Type 0} (f : RunFault) (closed : AreClosed {T = U} G g tells (length now.all.items) now.all.items mid after (Err f)) where
      pub close_counted : IsOfServers g (servers_said lines) (played f)
      close_counted = play_counted G g tells lines before after first now U f some (rest_at (Err f) closed)

      pub close_ended : IsTrue tells → (bay_before bay_after : ℕ) (vs : List (Vec Item Global)) (text : List ℕ) → HasPlayedOut G (servers_said lines) lines now vs text → openings_of now ≡ openings_of first → AreCalmSince G first now → IsLookFault f
          → HasRunCause g lines before after bay_before bay_after (played f)
      close_ended told bay_before bay_after vs text out opens calm only =
          close_cause {U = U} G g tells told lines before after first now vs text some (others_then closed.others told) out opens calm bay_before bay_after f only
          (λ n here. done_at G g tells lines before mid after h.nodes h.disks first now h.gathered.stations h.many h.begun h.others tt (Err f) gone closed n here)

    -- there was no memory for the report
    module _ {U : Type 0} (u : U) (closed : AreClosed {T = U} G g tells (length now.all.items) now.all.items mid after (Ok u)) where
      pub wanting_ended : IsTrue tells → (bay_before bay_after : ℕ) (vs : List (Vec Item Global)) (text : List ℕ) → HasPlayedOut G (servers_said lines) lines now vs text → openings_of now ≡ openings_of first → AreCalmSince G first now
          → HasRunCause g lines before after bay_before bay_after fault.OutOfMemory
      wanting_ended told bay_before bay_after vs text out opens calm =
          report_cause G g tells told lines before after first now vs text some (others_then closed.others told) out opens calm bay_before bay_after u
          (λ n here. done_at G g tells lines before mid after h.nodes h.disks first now h.gathered.stations h.many h.begun h.others tt (Ok u) gone closed n here)

      -- all went well
      module _ (vs : List (Vec Item Global)) (text printed : List ℕ) (log : Log V) (rests : Rests V) (rises : RisesFrom 1 lines) (out : HasPlayedOut G (servers_said lines) lines now vs text) (kept : AreRestsOf G now.all.items rests) (shows : Bool) (is : IsReportOf rests vs (shown_text shows text) log printed) where
        pub went_well : IsTrue tells → openings_of now ≡ openings_of first → AreCalmSince G first now → IsRunOf G g shows lines log printed before after
        went_well told opens calm =
            run_over G g tells told lines before mid after h.nodes h.disks first now h.gathered.stations h.many few h.begun h.others gone u closed opens calm vs text printed log rests rises out kept shows is

        pub went_through : IsPlayedThrough G shows lines log printed
        went_through = played_through G lines now vs text printed log rests rises out kept shows is

-- ---- it never began

pub some_held : {V D : Type 0} (G : VaultGhosts V) (g : Ghosts D) (tells : Bool) (lines : List NumberedLine) (before now : ℕ → Option D) (bay_before bay_now : ℕ) (f : NoReport) (c : Cluster V) → HaveBegunSome G g tells lines before now bay_before bay_now f c → AreHeld G tells c.parties.stations.all.items
some_held G g tells lines before now bay_before bay_now f c h = held_of_begun G g tells lines before 1 h.nodes h.disks c.parties.stations.all.items h.stand h.begun

pub some_few : {V D : Type 0} (G : VaultGhosts V) (g : Ghosts D) (tells : Bool) (lines : List NumberedLine) (before now : ℕ → Option D) (bay_before bay_now : ℕ) (f : NoReport) (c : Cluster V) → servers_said lines ≤ 8 → HaveBegunSome G g tells lines before now bay_before bay_now f c → length c.parties.stations.all.items ≤ 8
some_few G g tells lines before now bay_before bay_now f c few h = (let all = stations_many h.nodes c.parties.stations.all.items h.stand in omega (arith, all, h.many, h.few, few))

-- ---- the same, said of equal things

pub cause_moved : {D : Type 0} (g : Ghosts D) (lines : List NumberedLine) (b before after : ℕ → Option D) (x bay_before y bay_after : ℕ) (f : NoReport) → b ≡ before → x ≡ bay_before → y ≡ bay_after → HasRunCause g lines b after x y f → HasRunCause g lines before after bay_before bay_after f
cause_moved {D} g lines b before after x bay_before y bay_after f places first last h =
    subst (λ (z : ℕ → Option D). HasRunCause g lines z after bay_before bay_after f) places
    (subst (λ (m : ℕ). HasRunCause g lines b after m bay_after f) first (subst (λ (m : ℕ). HasRunCause g lines b after x m f) last h))

pub left_moved : {V D : Type 0} (G : VaultGhosts V) (g : Ghosts D) (t tells : Bool) (xs ss : List (Station V)) (mid after : ℕ → Option D) → t ≡ tells → xs ≡ ss → AreLeftBy G g t xs mid after → AreLeftBy G g tells ss mid after
left_moved {V} G g t tells xs ss mid after same stations h = subst (λ (zs : List (Station V)). AreLeftBy G g tells zs mid after) stations (subst (λ (b : Bool). AreLeftBy G g b xs mid after) same h)

pub closed_moved : {V D T : Type 0} (G : VaultGhosts V) (g : Ghosts D) (t tells : Bool) (xs ss : List (Station V)) (mid after : ℕ → Option D) (r : Result T RunFault) → t ≡ tells → xs ≡ ss → AreClosed G g t (length xs) xs mid after r → AreClosed G g tells (length ss) ss mid after r
closed_moved {V} G g t tells xs ss mid after r same stations h = subst (λ (zs : List (Station V)). AreClosed G g tells (length zs) zs mid after r) stations (subst (λ (b : Bool). AreClosed G g b (length xs) xs mid after r) same h)

pub held_moved : {V : Type 0} (G : VaultGhosts V) (t tells : Bool) (xs ss : List (Station V)) → tells ≡ t → xs ≡ ss → AreHeld G tells ss → AreHeld G t xs
held_moved {V} G t tells xs ss same stations h = subst (λ (b : Bool). AreHeld G b xs) same (subst (AreHeld G tells) (sym stations) h)

pub rest_moved : {V : Type 0} (G : VaultGhosts V) (t tells : Bool) (xs ss : List (Station V)) → tells ≡ t → xs ≡ ss → AreAtRest G tells 1 ss → AreAtRest G t 1 xs
rest_moved {V} G t tells xs ss same stations h = subst (λ (b : Bool). AreAtRest G b 1 xs) same (subst (AreAtRest G tells 1) (sym stations) h)

pub rests_moved : {V : Type 0} (G : VaultGhosts V) (xs ss : List (Station V)) (r : Rests V) → xs ≡ ss → AreRestsOf G xs r → AreRestsOf G ss r
rests_moved {V} G xs ss r same h = subst (λ (zs : List (Station V)). AreRestsOf G zs r) same h

pub report_moved : {V : Type 0} (r : Rests V) (ls vs : List (Vec Item Global)) (xs text : List ℕ) (log : Log V) (printed : List ℕ) → ls ≡ vs → xs ≡ text → IsReportOf r ls xs log printed → IsReportOf r vs text log printed
report_moved r ls vs xs text log printed lists texts h =
    subst (λ (zs : List (Vec Item Global)). IsReportOf r zs text log printed) lists (subst (λ (zs : List ℕ). IsReportOf r ls zs log printed) texts h)
