-- disks that go together
use Rattle.std.specs.Prelude.{◌==◌, true, false, cond, Bool, flat_map, find, map as list_map, slice_get, unwrap_or, Option, None, Some}
use Rattle.std.specs.FinMap as map
use Rattle.std.specs.List.{AllByRecursion}
use Rattle.std.proofs.Common.{inl, inr, ◌⊎◌, ◌≡◌, ℕ, zero, suc, ◌+◌, ◌<◌, ◌≤◌, List, [], ◌∷◌, ◌++◌, length, refl, sym, ◌∙◌, ap, subst, arith}
use Rattle.alp_base.specs.Keys.{key_cmp}
use Rattle.alp_base.specs.Notes.{Notes}
use Rattle.alp_base.specs.declared.cell.Cell.{Cell}
use Rattle.alp_bay.specs.Bays.{IsTaken}
use Rattle.alp_course.specs.Courses.{IsOneOf}
use Rattle.alp_course.specs.Resting.{AreSpelled}
use Rattle.alp_disk.specs.Disk.{Image}
use Rattle.alp_disk.specs.declared.disk.Disk.{Ghosts}
use Rattle.alp_fields.specs.ClockNote.{clock_name, AreClockNotes}
use Rattle.alp_files.specs.Apart.{AreSized}
use Rattle.alp_files.specs.Sound.{AreSound}
use Rattle.alp_files.proofs.CellMapLemmas.{get_cell}
use Rattle.alp_files.proofs.SoundLemmas.{empty_sound}
use Rattle.alp_history.specs.Log as logs
use Rattle.alp_history.specs.Log.{IsIn, AreDistinct}
use Rattle.alp_history.specs.RunLogs as runs
use Rattle.alp_journal.specs.Opening.{Start, ReadyNote, DecisionNote, start_at, ready_kept, decisions_kept}
use Rattle.alp_journal.proofs.NoteLemmas.{none_ready, none_decided}
use Rattle.alp_node.proofs.FoundNotes.{clock_beside}
use Rattle.alp_script.specs.Accepted.{servers_said}
use Rattle.alp_script.specs.Volumes.{sizes_said}
use Rattle.alp_script.specs.declared.numbered.NumberedLine.{NumberedLine}
use Rattle.alp_store.specs.Holding.{Holds}
use Rattle.alp_store.specs.Starts.{IsNew}
use Rattle.alp_store.proofs.Holdings.{holds_state}
use Rattle.alp_vault.specs.Contents.{Contents}
use Rattle.alp_vault.specs.Volumes.{AreServerNotes}
use Rattle.alp_vault.specs.declared.vault.Vault.{Ghosts as VaultGhosts}
use Rattle.alp_vault.proofs.VolumeLemmas.{alone_so_far}
use Rattle.alp_top.specs.Besides.{IsStoredWhole}
use Rattle.alp_top.specs.Logs.{Log, ServerOfLog, openings, start_of}
use Rattle.alp_top.specs.Together.{BeginsSound, OpensOn, OpenOn, GoTogether}
use Rattle.alp_top.specs.Volumes.{pages_of, IsBare, HasNoPart, IsReturned}
use Rattle.alp_top.proofs.BeginLemmas.{new_by, empty_noted}

-- ---- servers that opened with nothing

no_sizes : AreSized (map.get {R = key_cmp} map.empty)
no_sizes k c is = let wrong : ◌≡◌ {A = Option Cell} None (Some c) = sym (get_cell [] k) ∙ is in cc

-- a server opened with nothing on sound files
pub record IsOpenedWell (o : Start) : Type 0 where
  pub few : o.servers ≤ 8
  pub files : AreSound o.cells
  pub sizes : AreSized (map.get o.cells)
  pub bare : IsBare o

-- what holds of what each server of a log opened on, and of nobody, holds of what any server did
all_openings : (P : Start → Type 0) (xs : List logs.ServerLog) → AllByRecursion (λ (x : logs.ServerLog). P x.opening) xs → ((n : ℕ) → P (logs.nobody n).opening) → (n : ℕ) → P (unwrap_or (find (λ (x : logs.ServerLog). x.opening.server == n) xs) (logs.nobody n)).opening
all_openings P [] h none n = none n
all_openings P (x ∷ xs) h none n = go (x.opening.server == n) (all_openings P xs h.1 none n)
  where
    go : (b : Bool) → P (unwrap_or (find (λ (y : logs.ServerLog). y.opening.server == n) xs) (logs.nobody n)).opening → P (unwrap_or (cond {A = Option logs.ServerLog} b (Some x) (find (λ (y : logs.ServerLog). y.opening.server == n) xs)) (logs.nobody n)).opening
    go true rest = h.0
    go false rest = rest

each_is : (P Q : Start → Type 0) (xs : List logs.ServerLog) → ((o : Start) → P o → Q o) → AllByRecursion (λ (x : logs.ServerLog). P x.opening) xs → AllByRecursion (λ (x : logs.ServerLog). Q x.opening) xs
each_is P Q [] f h = tt
each_is P Q (x ∷ xs) f h = (f x.opening h.0, each_is P Q xs f h.1)

none_flat : (xs : List logs.ServerLog) → AllByRecursion (λ (x : logs.ServerLog). IsOpenedWell x.opening) xs → flat_map (λ (x : logs.ServerLog). x.opening.decisions) xs ≡ []
none_flat [] h = refl
none_flat (x ∷ xs) h = (λ i. h.0.bare.decisions i ++ none_flat xs h.1 i)

module _ (log : logs.Log) (well : AllByRecursion (λ (x : logs.ServerLog). IsOpenedWell x.opening) log.servers) where
  all_well : (n : ℕ) → IsOpenedWell (logs.opening_of log n)
  all_well = all_openings IsOpenedWell log.servers well (λ n. record { few = omega arith; files = empty_sound; sizes = no_sizes; bare = record { ready = refl; decisions = refl } })

  none_noted : logs.noted log ≡ []
  none_noted = none_flat log.servers well

  start_is : (n : ℕ) → logs.start_of log n ≡ (logs.opening_of log n).cells
  start_is n = ap (λ (rs : List ReadyNote). logs.held (logs.is_noted log) rs (logs.opening_of log n).cells) (all_well n).bare.ready

  no_ready : (n : ℕ) (q : ReadyNote) → IsIn q (logs.opening_of log n).ready → ⊥
  no_ready n q i = subst (IsIn q) (all_well n).bare.ready i

  no_decision : (n : ℕ) (d : DecisionNote) → IsIn d (logs.opening_of log n).decisions → ⊥
  no_decision n d i = subst (IsIn d) (all_well n).bare.decisions i

  pub sound_openings : logs.AreSoundOpenings log
  sound_openings n = record {
    few = (all_well n).few;
    files = (all_well n).files;
    files_begun = subst AreSound (sym (start_is n)) (all_well n).files;
    sizes = (all_well n).sizes;
    ready = λ q i. absurd (no_ready n q i);
    distinct = subst AreDistinct (sym (all_well n).bare.ready) tt;
    agree = λ q p i k other. absurd (no_ready n q i);
    decisions = λ d i. absurd (no_decision n d i);
    one_each = λ d e i k same. absurd (no_decision n d i);
    once = λ d e j i k has too. absurd (subst (IsIn d) none_noted i);
  }

-- it is named by nothing, in an epoch that is one
pub record IsOpenedPlain (o : Start) : Type 0 where
  pub well : IsOpenedWell o
  pub spelled : AreSpelled o

begins_plain : (log : logs.Log) → AllByRecursion (λ (x : logs.ServerLog). IsOpenedPlain x.opening) log.servers → BeginsSound log
begins_plain log plain = record {
  sound = sound_openings log (each_is IsOpenedPlain IsOpenedWell log.servers (λ o h. h.well) plain);
  spelled = each_is IsOpenedPlain AreSpelled log.servers (λ o h. h.spelled) plain;
}

-- ---- what one disk holds

pub one_content : (server servers n a b : ℕ) (image : Image) (c d : Contents) → Holds server servers n a image c → Holds server servers n b image d → c ≡ d
one_content server servers n a b image c d x y = holds_state server servers n a image c x.state x x.reads ∙ sym (holds_state server servers n b image d x.state y x.reads)

-- a disk that holds a volume with no note but the clock's
pub record IsPlain {D : Type 0} (g : Ghosts D) (servers n : ℕ) (given : D) : Type 0 where
  pub home : ℕ
  pub held : Contents
  pub holds : Holds n servers (g.size given) home (g.seen given) held
  pub clock : AreClockNotes held.notes

-- ---- disks on which servers open with nothing

module _ {D : Type 0} (g : Ghosts D) (lines : List NumberedLine) where
  abbrev IsOld : ℕ → D → Type 0
  IsOld n d = IsNew (sizes_said lines n) (g.size d) (g.seen d) → ⊥

  module _ (few : servers_said lines ≤ 8) (n : ℕ) (was : Option D) (o : Start) (h : OpensOn g lines n was o) where
    bare_by : (before : Notes) (value : List ℕ) → h.notes ≡ map.insert before clock_name value → AreClockNotes before → IsBare o
    bare_by before value is clock = record {
      ready = ap (λ (s : Start). s.ready) h.started ∙ ap ready_kept is ∙ (clock_beside before value).0 ∙ none_ready before clock;
      decisions = ap (λ (s : Start). s.decisions) h.started ∙ ap decisions_kept is ∙ (clock_beside before value).1 ∙ none_decided before clock;
    }

    opened_bare : ((old : IsOld n h.disk) → AreClockNotes (h.found old).held.notes) → IsBare o
    opened_bare clock = go (new_by (sizes_said lines n) (g.size h.disk) (g.seen h.disk))
      where
        go : IsNew (sizes_said lines n) (g.size h.disk) (g.seen h.disk) ⊎ (IsNew (sizes_said lines n) (g.size h.disk) (g.seen h.disk) → ⊥) → IsBare o
        go (inl is) = bare_by map.empty _ (h.new is).noted empty_noted
        go (inr old) = bare_by (h.found old).held.notes _ (h.found old).noted (clock old)

    opened_plain : ((old : IsOld n h.disk) → AreClockNotes (h.found old).held.notes) → IsOpenedPlain o
    opened_plain clock =
        let bare : IsBare o = opened_bare clock in
        let servers : o.servers ≡ servers_said lines = ap (λ (s : Start). s.servers) h.started in
        record {
          well = record { few = omega (arith, servers, few); files = h.sound.parts.sound [] refl; sizes = h.sound.parts.sized; bare = bare };
          spelled = record {
            epoch = (let earlier : h.sound.before < o.epoch = h.sound.earlier in omega (arith, earlier));
            ready = λ r i. absurd (subst (IsIn r) bare.ready i);
            decisions = λ d i. absurd (subst (IsIn d) bare.decisions i);
          };
        }

  -- what is noted on the disks that are not new is the clock alone
  abbrev AreBlank : (disks : ℕ → Option D) → Type 0
  AreBlank disks = (n : ℕ) → IsOneOf (servers_said lines) n → (o : Start) (h : OpensOn g lines n (disks n) o) → (old : IsOld n h.disk) → AreClockNotes (h.found old).held.notes

  module _ (few : servers_said lines ≤ 8) (disks : ℕ → Option D) (blank : AreBlank disks) where
    all_plain : (n : ℕ) (xs : List logs.ServerLog) → 1 ≤ n → n + length xs ≡ servers_said lines + 1 → OpenOn g lines disks n xs → AllByRecursion (λ (x : logs.ServerLog). IsOpenedPlain x.opening) xs
    all_plain n [] low many are = tt
    all_plain n (x ∷ xs) low many are = (
      opened_plain few n (disks n) x.opening are.0 (blank n (record { first = low; last = omega (arith, many) }) x.opening are.0),
      all_plain (n + 1) xs (omega (arith, low)) (omega (arith, many)) are.1,
    )

    blank_together : GoTogether g lines disks
    blank_together log many are = begins_plain log (all_plain 1 log.servers (omega arith) (omega (arith, many)) are)

  -- those without a part and a decision
  pub fresh_together : servers_said lines ≤ 8 → (disks : ℕ → Option D) → ((n : ℕ) → IsOneOf (servers_said lines) n → HasNoPart g lines n (disks n)) → GoTogether g lines disks
  fresh_together few disks none = blank_together few disks (λ n here o h old. elim (none n here h.disk h.from_there) [ inl is ↦ absurd (old is) | inr clock ↦ clock o.sizes.home (h.found old).held (h.found old).holds ])

  -- the disk of one server
  pub lone_together : servers_said lines ≡ 1 → (disks : ℕ → Option D) → GoTogether g lines disks
  lone_together one disks = blank_together (omega (arith, one)) disks (λ n here o h old.
      let first : n ≡ 1 = (let low : 1 ≤ n = here.first in let high : n ≤ servers_said lines = here.last in omega (arith, low, high, one)) in
      let notes : Notes = (h.found old).held.notes in
      alone_so_far notes (subst (λ (b : ℕ). AreServerNotes 1 b notes) one (subst (λ (a : ℕ). AreServerNotes a (servers_said lines) notes) first (h.found old).own.notes)))

  -- those that are plain
  pub plain_together : servers_said lines ≤ 8 → (disks : ℕ → Option D) → ((n : ℕ) → IsOneOf (servers_said lines) n → (given : D) × (disks n ≡ Some given) × IsPlain g (servers_said lines) n given) → GoTogether g lines disks
  plain_together few disks plain = blank_together few disks (λ n here o h old.
      let (given, there, p) = plain n here in
      let same : h.disk ≡ given = subst (λ (w : Option D). IsTaken g w (pages_of (sizes_said lines n)) h.disk) there h.from_there in
      let holds : Holds n (servers_said lines) (g.size given) o.sizes.home (g.seen given) (h.found old).held = subst (λ (d : D). Holds n (servers_said lines) (g.size d) o.sizes.home (g.seen d) (h.found old).held) same (h.found old).holds in
      subst (λ (c : Contents). AreClockNotes c.notes) (one_content n (servers_said lines) (g.size given) p.home o.sizes.home (g.seen given) p.held (h.found old).held p.holds holds) p.clock)

-- ---- what the servers of a run opened on

module _ {V D : Type 0} (G : VaultGhosts V) (g : Ghosts D) (lines : List NumberedLine) (log : Log V) (before : ℕ → Option D) where
  -- a server opened on the disk that came from its place
  pub opens_by : (n : ℕ) (now : Option D) → (r : IsReturned g (sizes_said lines n) (before n) now (IsStoredWhole G g lines log n)) → OpensOn g lines n (before n) (start_of G (servers_said lines) r.left.server)
  opens_by n now r = record {
    disk = r.taken;
    from_there = r.from_there;
    notes = (openings G).notes r.left.server.opening;
    started = (λ i. start_at (r.left.number i) (servers_said lines) ((openings G).sizes r.left.server.opening) ((openings G).cells r.left.server.opening) ((openings G).notes r.left.server.opening));
    new = r.left.stored.new;
    found = r.left.stored.found;
    sound = r.left.stored.sound;
  }

  pub all_open : (k : ℕ) (xs : List (ServerOfLog V)) → ((i : ℕ) (x : ServerOfLog V) → slice_get xs i ≡ Some x → OpensOn g lines (k + i) (before (k + i)) (start_of G (servers_said lines) x)) → OpenOn g lines before k (list_map (runs.server_log (openings G) (servers_said lines)) xs)
  all_open k [] f = tt
  all_open k (x ∷ xs) f = (
    (let same : k + 0 ≡ k = omega arith in subst (λ (j : ℕ). OpensOn g lines j (before j) (start_of G (servers_said lines) x)) same (f 0 x refl)),
    all_open (k + 1) xs (λ i y at. (let same : k + suc i ≡ k + 1 + i = omega arith in subst (λ (j : ℕ). OpensOn g lines j (before j) (start_of G (servers_said lines) y)) same (f (suc i) y at))),
  )
