-- a server that is started on its disk, or is not
use Rattle.std.specs.List.{list_all, AllByRecursion}
use Rattle.std.specs.Prelude.{◌==◌, map as list_map, true, false, Bool, Option, None, Some, IsTrue, Result, Ok, Err}
use Rattle.std.specs.FinMap as map
use Rattle.std.specs.FinMap.{get-empty}
use Rattle.std.proofs.lemmas.Bool.Decides.{eqb_tells}
use Rattle.std.proofs.Common.{inl, inr, ◌⊎◌, ◌≡◌, ◌≢◌, ℕ, ◌+◌, ◌*◌, ◌≤◌, List, [], length, refl, sym, ◌∙◌, ap, subst, arith}
use Rattle.alp_base.specs.Causes.{Rose}
use Rattle.alp_base.specs.Crashes.{NoMore, Only}
use Rattle.alp_base.specs.Faults.{HasFaultCause, IsCountKept, IsOfVolume}
use Rattle.alp_base.specs.Notes.{Notes, text_cmp}
use Rattle.alp_base.specs.declared.allowance.Allowance.{Allowance}
use Rattle.alp_base.specs.declared.allowance.Allowance.TheVariants.{Free, Spent}
use Rattle.alp_base.specs.declared.faults.Sizes.{Sizes}
use Rattle.alp_base.specs.declared.faults.VaultFault.{VaultFault}
use Rattle.alp_base.specs.declared.faults.VaultFault.TheVariants as vault_fault
use Rattle.alp_base.specs.Pages.{zero_page}
use Rattle.alp_base.specs.declared.key.Key.TheVariants.{Leader}
use Rattle.alp_files.specs.Cells.{same_name}
use Rattle.alp_base.specs.declared.cell.Cell.{Cell}
use Rattle.alp_files.proofs.CellMapLemmas.{get_cell}
use Rattle.alp_files.proofs.SameLemmas.{same_name-true, same_name-false}
use Rattle.alp_anchor.specs.Anchor.{Counts}
use Rattle.alp_anchor.specs.declared.anchor.Anchor.{Anchor}
use Rattle.alp_disk.specs.Disk.{Image, page}
use Rattle.alp_disk.specs.declared.disk.Disk.{Ghosts}
use Rattle.alp_fields.specs.ClockNote.{clock_name, clock_form, is_clock_note, AreClockNotes}
use Rattle.alp_fields.specs.declared.clock_note.ClockNote.{ClockNote}
use Rattle.alp_journal.specs.declared.entry.Entry.{Entry}
use Rattle.alp_journal.specs.Along.{Along}
use Rattle.alp_journal.specs.Moves.{next}
use Rattle.alp_journal.specs.Opening.{Start, ReadyNote, DecisionNote, ready_kept, decisions_kept}
use Rattle.alp_journal.specs.State.{opened}
use Rattle.alp_node.specs.Nodes as node
use Rattle.alp_node.specs.Nodes.{IsConsistent, start_in}
use Rattle.alp_node.specs.NodeStates.{NodeState}
use Rattle.alp_node.specs.Sessions.{no_sessions, session_at}
use Rattle.alp_node.specs.Starts.{GaveFiles, HasRaised, epoch_after, after_note, raised, HasStartCause, IsNoteFault}
use Rattle.alp_node.specs.declared.sessions.Sessions.{Sessions}
use Rattle.alp_node.specs.declared.start.StartFault.{StartFault}
use Rattle.alp_node.specs.declared.start.StartFault.TheVariants as start_fault
use Rattle.alp_journal.proofs.NoteLemmas.{none_ready, none_decided}
use Rattle.alp_node.proofs.FoundNotes.{clock_beside}
use Rattle.alp_node.proofs.StartLemmas.{no_session}
use Rattle.alp_regain.specs.Named.{is_decided_by}
use Rattle.alp_regain.specs.Together.{IsPartNote, AreApart, AreNotesTogether, AreTogether, clock_before, log_sum, size_of}
use Rattle.alp_store.specs.Holding.{Holds}
use Rattle.alp_store.specs.Starts.{AreOfServer as StartedOnOwn, IsNew, WhyNotStarted}
use Rattle.alp_vault.specs.Contents.{Contents}
use Rattle.alp_vault.specs.Volumes.{AreServerNotes, AreNotesSoFar}
use Rattle.alp_vault.specs.declared.vault.Vault.{Ghosts as VaultGhosts}
use Rattle.alp_vault.proofs.VolumeLemmas.{noted_so_far, alone_so_far}
use Rattle.alp_cluster.specs.Servers.{AreKept, IsOn, IsDone}
use Rattle.alp_cluster.proofs.StepLemmas.{kept_epoch, kept_clock}
use Rattle.alp_top.specs.Disks.{IsCountedStart, notes_in}
use Rattle.alp_top.specs.Faults.{of_vault, of_start}
use Rattle.alp_top.specs.Volumes.{IsBare, IsLeftAlone, HoldsApart, HoldsOrRaised, HoldsNothing, IsHalfMade, IsOpenedNew, IsOpenedOn, WhyNotBegun}
use Rattle.alp_top.specs.declared.fault.NoReport.{NoReport}

abbrev nothing : Contents
nothing = record { cells = map.empty; notes = map.empty }

-- ---- a volume that holds nothing begins in its first epoch

pub raised_nothing : (held : Contents) → held ≡ nothing → raised held ≡ Ok (record { epoch = 1; clock = 0 })
raised_nothing held none = ap raised none ∙ ap after_note (get-empty text_cmp clock_name)

first_clock : (held : Contents) (c : ClockNote) → held ≡ nothing → raised held ≡ Ok c → c ≡ record { epoch = 1; clock = 0 }
first_clock held c none e = same c (record { epoch = 1; clock = 0 }) (sym e ∙ raised_nothing held none)
  where
    same : (x y : ClockNote) → ◌≡◌ {A = Result ClockNote StartFault} (Ok x) (Ok y) → x ≡ y
    same x y e = cc

not_last : (held : Contents) → held ≡ nothing → raised held ≡ Err start_fault.EpochEnd → ⊥
not_last held none last = apart (sym (raised_nothing held none) ∙ last)
  where
    apart : ◌≡◌ {A = Result ClockNote StartFault} (Ok (record { epoch = 1; clock = 0 })) (Err start_fault.EpochEnd) → ⊥
    apart e = cc

-- ---- a disk is new, or it is not

pub new_by : (sizes : Sizes) (n : ℕ) (image : Image) → IsNew sizes n image ⊎ (IsNew sizes n image → ⊥)
new_by sizes n image = go (eqb_tells n (2 + 2 * sizes.area + sizes.home)) (same_name (page image 0) zero_page) refl (same_name (page image 1) zero_page) refl
  where
    go : (((n == (2 + 2 * sizes.area + sizes.home)) ≡ true) × (n ≡ 2 + 2 * sizes.area + sizes.home)) ⊎ (((n == (2 + 2 * sizes.area + sizes.home)) ≡ false) × (n ≢ 2 + 2 * sizes.area + sizes.home))
        → (a : Bool) → same_name (page image 0) zero_page ≡ a → (b : Bool) → same_name (page image 1) zero_page ≡ b → IsNew sizes n image ⊎ (IsNew sizes n image → ⊥)
    go (inl many) true one true two = inl (record { size = many.1; first = same_name-true (page image 0) zero_page one; second = same_name-true (page image 1) zero_page two })
    go (inl many) true one false two = inr (λ is. same_name-false (page image 1) zero_page two is.second)
    go (inl many) false one b two = inr (λ is. same_name-false (page image 0) zero_page one is.first)
    go (inr other) a one b two = inr (λ is. other.1 is.size)

-- what a store that started holds was given by its server
pub of_server : {D : Type 0} (g : Ghosts D) (sizes : Sizes) (server : ℕ) (d : D) (held : Contents) → (IsNew sizes (g.size d) (g.seen d) → held ≡ nothing) → ((IsNew sizes (g.size d) (g.seen d) → ⊥) → GaveFiles server held) → GaveFiles server held
of_server g sizes server d held new old = go (new_by sizes (g.size d) (g.seen d))
  where
    none : GaveFiles server nothing
    none f c is = (let wrong : ◌≡◌ {A = Option Cell} None (Some c) = sym (get_cell [] (Leader f)) ∙ is in cc)

    go : IsNew sizes (g.size d) (g.seen d) ⊎ (IsNew sizes (g.size d) (g.seen d) → ⊥) → GaveFiles server held
    go (inl is) = subst (GaveFiles server) (sym (new is)) none
    go (inr is) = old is

-- a disk that holds something for a server, by its numbers
pub holds_by : (a b server servers n m home rooms : ℕ) (image : Image) (held : Contents) → a ≡ server → b ≡ servers → n ≡ m → home ≡ rooms → Holds a b n home image held → Holds server servers m rooms image held
holds_by a b server servers n m home rooms image held one two long same h =
    subst (λ (k : ℕ). Holds server servers m k image held) same
    (subst (λ (k : ℕ). Holds server servers k home image held) long (subst (λ (k : ℕ). Holds server k n home image held) two (subst (λ (k : ℕ). Holds k b n home image held) one h)))

-- ---- what a server that did nothing yet opened on

-- nobody has a session
kept_new : {V : Type 0} (n : NodeState V) → n.kept.sessions ≡ no_sessions → AreKept n.kept
kept_new n is client w at = let wrong : None ≡ Some w = sym (ap (λ (s : Sessions). session_at s client) is ∙ no_session client) ∙ at in cc

pub new_on : {V : Type 0} (G : VaultGhosts V) (n : NodeState V) → IsConsistent G n → n.kept.sessions ≡ no_sessions → n.journal ≡ [] → G.servers n.opening.vault.value ≡ n.kept.servers → IsOn G n
new_on G n kept sessions journal all = record {
  kept = kept;
  all = all;
  replies = λ up. kept_new n sessions;
  answered = λ told. subst (λ (js : List Entry). Along next IsDone (opened (start_in G n)) js) (sym journal) tt;
}

module _ {V D : Type 0} (G : VaultGhosts V) (g : Ghosts D) (sizes : Sizes) (server servers : ℕ) (n : NodeState V) (before : Contents) (vol : Sizes) (d : D) (kept : IsConsistent G n) (idle : n.journal ≡ []) (at_once : n.opening.vault.value ≡ n.kept.vault)
    (volume : G.volume n.kept.vault ≡ vol) (told : IsTrue (G.tells n.kept.vault)) (rose : HasRaised (G.tells n.kept.vault) server servers vol before (G.held n.kept.vault) (record { epoch = n.kept.epoch; clock = n.kept.clock })) where
  abbrev o : Start
  o = start_in G n

  sizes_are : o.sizes ≡ vol
  sizes_are = ap G.volume at_once ∙ volume

  epoch_is : o.epoch ≡ n.kept.epoch
  epoch_is = ap (λ (js : List Entry). (node.state_of o js).ids.epoch) (sym idle) ∙ kept_epoch G n kept told

  clock_is : o.clock ≡ n.kept.clock
  clock_is = ap (λ (js : List Entry). (node.state_of o js).holder.clock) (sym idle) ∙ kept_clock G n kept told

  note_is : ◌≡◌ {A = ClockNote} (record { epoch = o.epoch; clock = o.clock }) (record { epoch = n.kept.epoch; clock = n.kept.clock })
  note_is = (λ i. record { epoch = epoch_is i; clock = clock_is i })

  cells_are : o.cells ≡ before.cells
  cells_are = ap (λ (v : V). (G.held v).cells) at_once ∙ rose.cells told

  noted : notes_in G n ≡ map.insert before.notes clock_name (clock_form.spell (record { epoch = o.epoch; clock = o.clock }))
  noted = ap (λ (v : V). (G.held v).notes) at_once ∙ rose.notes ∙ ap (λ (c : ClockNote). map.insert before.notes clock_name (clock_form.spell c)) (sym note_is)

  -- it finds nothing
  pub opened_bare : AreClockNotes before.notes → IsBare o
  opened_bare clock =
      let beside = clock_beside before.notes (clock_form.spell (record { epoch = o.epoch; clock = o.clock })) in
      record { ready = ap ready_kept noted ∙ beside.0 ∙ none_ready before.notes clock; decisions = ap decisions_kept noted ∙ beside.1 ∙ none_decided before.notes clock }

  pub opened_new : before ≡ nothing → vol ≡ sizes → IsOpenedNew sizes o (notes_in G n)
  opened_new none same =
      let first : ◌≡◌ {A = ClockNote} (record { epoch = o.epoch; clock = o.clock }) (record { epoch = 1; clock = 0 }) = note_is ∙ first_clock before (record { epoch = n.kept.epoch; clock = n.kept.clock }) none rose.next in
      record {
        sizes_are = sizes_are ∙ same;
        epoch = ap (λ (c : ClockNote). c.epoch) first;
        clock = ap (λ (c : ClockNote). c.clock) first;
        cells = cells_are ∙ ap (λ (c : Contents). c.cells) none;
        noted = noted ∙ (λ i. map.insert (none i).notes clock_name (clock_form.spell (first i)));
      }

  pub opened_on : (a : Anchor) → Counts (g.size d) (g.seen d) a → (a.server ≡ server) × (a.servers ≡ servers) → vol ≡ a.sizes → Holds server servers (g.size d) vol.home (g.seen d) before → StartedOnOwn server servers before
      → IsOpenedOn server servers (g.size d) (g.seen d) o (notes_in G n)
  opened_on a counts named same holds own = record {
    anchor = a;
    counts = counts;
    named = named;
    sizes_are = sizes_are ∙ same;
    held = before;
    holds = subst (λ (s : Sizes). Holds server servers (g.size d) s.home (g.seen d) before) (sym sizes_are) holds;
    own = own;
    together = subst (λ (s : Sizes). AreTogether server servers (epoch_after before) s before.cells before.notes) same (rose.together told);
    cells = cells_are;
    next = rose.next ∙ ap Ok (sym note_is);
    noted = noted;
  }

-- ---- the notes of a server that finds nothing

pub together_so_far : (server servers epoch area : ℕ) (notes : Notes) → 24 ≤ area → AreNotesSoFar server servers notes → AreNotesTogether server servers epoch area notes
together_so_far server servers epoch area notes room clock =
    let ready : ready_kept notes ≡ [] = none_ready notes clock in
    let decided : decisions_kept notes ≡ [] = none_decided notes clock in
    let no_ready : length (ready_kept notes) ≡ 0 = ap (λ (rs : List ReadyNote). length rs) ready in
    let no_decided : length (decisions_kept notes) ≡ 0 = ap (λ (ds : List DecisionNote). length ds) decided in
    let least : 24 + 0 + 0 ≤ area = omega (arith, room) in
    record {
      format = noted_so_far server servers notes clock;
      parts = subst (AllByRecursion (IsPartNote server (clock_before epoch notes).epoch)) (sym ready) tt;
      decided = ap (list_all (λ (d : DecisionNote). is_decided_by (clock_before epoch notes) d.stamp)) decided;
      apart = subst AreApart (sym ready) tt;
      few = omega (arith, no_ready, no_decided);
      log = subst (λ (rs : List ReadyNote). log_sum (list_map size_of rs) ≤ area) (sym ready) least;
    }

pub empty_noted : AreClockNotes map.empty
empty_noted name value at = (let wrong : None ≡ Some value = sym (get-empty text_cmp name) ∙ at in cc)

nothing_noted : (held : Contents) → held ≡ nothing → AreClockNotes held.notes
nothing_noted held none = subst (λ (c : Contents). AreClockNotes c.notes) (sym none) empty_noted

-- ---- why a server does not start

spent_free : Free ≡ Spent → ⊥
spent_free e = cc

module _ {D : Type 0} (g : Ghosts D) (sizes : Sizes) (server servers : ℕ) (d e : D) where
  abbrev IsNewDisk : Type 0
  IsNewDisk = IsNew sizes (g.size d) (g.seen d)

  -- of a disk that is not new it reads as before, and a crash leaves no more
  pub record ReadsOn : Type 0 where
    pub seen : (IsNewDisk → ⊥) → g.seen e ≡ g.seen d
    pub crash : (IsNewDisk → ⊥) → NoMore (g.may_leave d) (g.may_leave e)

  left_alone : ReadsOn → (IsNewDisk → ⊥) → g.faults e ≡ g.faults d → IsLeftAlone g sizes d e
  left_alone on old unfailed = record { old = old; seen = on.seen old; crash = on.crash old; unfailed = unfailed }

  -- the store did not start
  pub not_opened : (f : VaultFault) → HasFaultCause (g.faults d) (g.faults e) (g.allowance e) f → IsCountKept (g.faults d) (g.faults e) f → g.allowance e ≡ Free → (IsNewDisk → IsOfVolume f)
      → ((IsNewDisk → ⊥) → WhyNotStarted server servers (g.size d) (g.seen d) f) → ReadsOn
      → (IsNewDisk → f ≡ vault_fault.OutOfMemory → IsNew sizes (g.size e) (g.seen e) × Only (g.seen e) (g.may_leave e)) → (IsNewDisk → IsHalfMade g sizes server servers d e) → WhyNotBegun g sizes server servers (of_vault server f) d e
  not_opened vault_fault.Failed cause kept free new why on blank half = (refl, record { rose = cause.failed refl; old = λ old. inl (record { seen = on.seen old; crash = on.crash old }); new = λ is. inl (half is) })
  not_opened vault_fault.Stopped cause kept free new why on blank half = absurd (spent_free (sym free ∙ cause.stopped refl))
  not_opened vault_fault.OutOfMemory cause kept free new why on blank half = record {
    unfailed = kept;
    old = λ old. inl (record { seen = on.seen old; crash = on.crash old });
    new = λ is. (let again = blank is refl in inl (record { blank = again.0; durable = again.1 }));
  }
  not_opened (vault_fault.NotAVolume found) cause kept free new why on blank half = (refl, left_alone on new kept, why new)
  not_opened (vault_fault.Damaged place) cause kept free new why on blank half = (refl, inl (left_alone on new kept, why new))

  -- the store did, and the server on it did not
  pub not_started : (tells : Bool) (vol : Sizes) (held : Contents) (f : StartFault) (between : ℕ) (allowance : Allowance) (home : ℕ) → HasStartCause tells server servers vol held between (g.faults e) allowance f → allowance ≡ Free → between ≡ g.faults d → IsTrue tells → 1 ≤ server → server ≤ servers → 24 ≤ vol.area → AreServerNotes server servers held.notes
      → (f ≡ start_fault.BadNote → (IsNewDisk → ⊥) → (servers ≡ 1 → ⊥) → (AreTogether server servers (epoch_after held) vol held.cells held.notes → ⊥) → HoldsApart g sizes server servers d e)
      → (f ≡ start_fault.Vault vault_fault.OutOfMemory → g.faults e ≡ between) → (f ≡ start_fault.EpochEnd → g.faults e ≡ between)
      → (IsNewDisk → held ≡ nothing) → ((IsNewDisk → ⊥) → Holds server servers (g.size d) home (g.seen d) held) → ((IsNewDisk → ⊥) → StartedOnOwn server servers held) → (f ≡ start_fault.EpochEnd → ReadsOn)
      → ((IsNewDisk → ⊥) → HoldsOrRaised g server servers d e) → (IsNewDisk → HoldsNothing g sizes server servers e) → WhyNotBegun g sizes server servers (of_start server f) d e
  not_started tells vol held (start_fault.Vault f) between allowance home cause free kept told low high room notes strange memory last_epoch new holds own on stands empty = go f cause memory
    where
      go : (f : VaultFault) → HasStartCause tells server servers vol held between (g.faults e) allowance (start_fault.Vault f) → (start_fault.Vault f ≡ start_fault.Vault vault_fault.OutOfMemory → g.faults e ≡ between) → WhyNotBegun g sizes server servers (of_vault server f) d e
      go vault_fault.Failed h memory = (refl, record { rose = subst (λ (n : ℕ). Rose n (g.faults e)) kept (h.0.failed refl); old = λ old. inr (stands old); new = λ is. inr (empty is) })
      go vault_fault.Stopped h memory = absurd (spent_free (sym free ∙ h.0.stopped refl))
      go vault_fault.OutOfMemory h memory = record { unfailed = memory refl ∙ kept; old = λ old. inr (stands old); new = λ is. inr (empty is) }
      go (vault_fault.NotAVolume found) h memory = absurd h.1
      go (vault_fault.Damaged place) h memory = absurd h.1
  not_started tells vol held start_fault.BadNote between allowance home cause free kept told low high room notes strange memory last_epoch new holds own on stands empty =
      let apart : AreNotesSoFar server servers held.notes → ⊥ = (λ clock. cause.alone (none_ready held.notes clock) (together_so_far server servers (epoch_after held) vol.area held.notes room clock)) in
      let old : IsNewDisk → ⊥ = (λ is. apart (nothing_noted held (new is))) in
      let several : servers ≡ 1 → ⊥ = (λ one.
      let first : server ≡ 1 = omega (arith, low, high, one) in
      apart (alone_so_far held.notes (subst (λ (b : ℕ). AreServerNotes 1 b held.notes) one (subst (λ (a : ℕ). AreServerNotes a servers held.notes) first notes)))) in
      (refl, inr (refl, strange refl old several (cause.told told)))
  not_started tells vol held start_fault.EpochEnd between allowance home cause free kept told low high room notes strange memory last_epoch new holds own on stands empty =
      let old : IsNewDisk → ⊥ = (λ is. not_last held (new is) cause) in
      (refl, left_alone (on refl) old (last_epoch refl ∙ kept), record { home = home; held = held; holds = holds old; own = own old; last = cause })

-- ---- the count of faults of any disk

pub opened_counted : (server before now : ℕ) (allowance : Allowance) (f : VaultFault) → HasFaultCause before now allowance f → allowance ≡ Free → IsCountedStart server (of_vault server f) before now
opened_counted server before now allowance vault_fault.Failed cause free = (refl, cause.failed refl)
opened_counted server before now allowance vault_fault.Stopped cause free = let wrong : Free ≡ Spent = sym free ∙ cause.stopped refl in cc
opened_counted server before now allowance vault_fault.OutOfMemory cause free = tt
opened_counted server before now allowance (vault_fault.NotAVolume found) cause free = refl
opened_counted server before now allowance (vault_fault.Damaged place) cause free = refl

pub started_counted : (tells : Bool) (vol : Sizes) (server servers a b before between now : ℕ) (held : Contents) (allowance : Allowance) (f : StartFault) → HasStartCause tells a b vol held between now allowance f → allowance ≡ Free → between ≡ before → IsCountedStart server (of_start server f) before now
started_counted tells vol server servers a b before between now held allowance (start_fault.Vault f) cause free kept = go f cause
  where
    go : (f : VaultFault) → HasStartCause tells a b vol held between now allowance (start_fault.Vault f) → IsCountedStart server (of_vault server f) before now
    go vault_fault.Failed h = (refl, subst (λ (n : ℕ). Rose n now) kept (h.0.failed refl))
    go vault_fault.Stopped h = let wrong : Free ≡ Spent = sym free ∙ h.0.stopped refl in cc
    go vault_fault.OutOfMemory h = tt
    go (vault_fault.NotAVolume found) h = refl
    go (vault_fault.Damaged place) h = refl
started_counted tells vol server servers a b before between now held allowance start_fault.BadNote cause free kept = refl
started_counted tells vol server servers a b before between now held allowance start_fault.EpochEnd cause free kept = refl
