-- What a checkpoint leaves: the same reading, at each moment and at the end.
use Rattle.std.proofs.Common.{◌≡◌, inl, inr, ◌⊎◌, ◌≤◌, ◌<◌, ℕ, List, [], ◌∷◌, ◌++◌, length, None, refl, sym, ap, subst, ◌∙◌, arith}
use Rattle.std.specs.Prelude.{slice_index_or}
use Rattle.std.specs.List.{AllByRecursion}
use Rattle.std.specs.FinMap as map
use Rattle.std.proofs.lemmas.Bool.{cases_lt}
use Rattle.std.proofs.lemmas.List.{get_or_past, length-replicate}
use Rattle.alp_disk.specs.Disk.{Image, page}
use Rattle.alp_anchor.specs.Anchor.{IsSound, Counts}
use Rattle.alp_anchor.specs.declared.anchor.Anchor.{Anchor}
use Rattle.alp_batch.specs.declared.batch.Batch.{Batch}
use Rattle.alp_batch.specs.Batch.{batch}
use Rattle.alp_record.specs.Record.{behind}
use Rattle.alp_base.specs.Notes.{Notes, notes_after}
use Rattle.alp_wal.specs.State.{State, applied, IsBelow, Suits}
use Rattle.alp_wal.specs.Live.{most_notes, puts, notes_batch}
use Rattle.alp_wal.specs.Reading.{Applies, Leads, area_first, area_end, home_first, home_pages, bare, ReadsBy, Reads}
use Rattle.alp_wal.specs.Home.{Index}
use Rattle.alp_wal.specs.Wal.{shown, indexed, no_index, Logs}
use Rattle.alp_wal.specs.Home.{SameUnlogged, BroughtHome}
use Rattle.alp_wal.specs.Checkpoint.{turned, SameInUse, Turned, Turning, MovingOver, MovedOver}
use Rattle.alp_wal.proofs.Readings.{batch_once}
use Rattle.alp_wal.proofs.States.{shown_indexed, length-indexed, shown_bare, same_from, length-pages_from, page_from, above_area, counts_kept}
use Rattle.alp_wal.proofs.Homes.{shown_unlogged, shown_home}
use Rattle.alp_wal.proofs.Turns.{records_same}

-- ---- the index of the records

pub logs_push : (first mid last : Index) (bodies : List (List ℕ)) (body : List ℕ) → Logs first bodies mid → Logs mid (body ∷ []) last → Logs first (bodies ++ body ∷ []) last
logs_push first mid last [] body logs one = subst (λ (i : Index). Logs i (body ∷ []) last) (sym logs) one
logs_push first mid last (b ∷ bodies) body logs one = (logs.0, logs.1, logs.2, logs_push (indexed first logs.0.images) mid last bodies body logs.3 one)

-- Batches make the same of other home pages, where these differ only under images.
leads_other : (home : ℕ) (p q : Image) (first last : Index) (notes end : Notes) (bodies : List (List ℕ)) → length first ≡ home → Logs first bodies last
    → Leads home (record { pages = shown p first; notes = notes }) bodies (record { pages = shown p last; notes = end })
    → Leads home (record { pages = shown q first; notes = notes }) bodies (record { pages = shown q last; notes = end })
leads_other home p q first last notes end [] long logs leads =
    let same : notes ≡ end = ap (λ (s : State). s.notes) leads in
    λ i. record { pages = shown q (logs i); notes = same i }
leads_other home p q first last notes end (body ∷ bodies) long logs leads =
    let b : Batch = logs.0 in
    let same : leads.0 ≡ b = batch_once leads.0 b leads.1.fits logs.2 (sym leads.1.spelled ∙ logs.1) in
    let applies : Applies home (record { pages = shown p first; notes = notes }) body b = subst (λ (c : Batch). Applies home (record { pages = shown p first; notes = notes }) body c) same leads.1 in
    let below : AllByRecursion (IsBelow (length first)) b.images = subst (λ (k : ℕ). AllByRecursion (IsBelow k) b.images) (sym long) applies.suits.inside in
    let rest : Leads home (applied (record { pages = shown p first; notes = notes }) b) bodies (record { pages = shown p last; notes = end }) =
    subst (λ (c : Batch). Leads home (applied (record { pages = shown p first; notes = notes }) c) bodies (record { pages = shown p last; notes = end })) same leads.2 in
    let before : Leads home (record { pages = shown p (indexed first b.images); notes = notes_after b.notes notes }) bodies (record { pages = shown p last; notes = end }) =
    subst (λ (l : Image). Leads home (record { pages = l; notes = notes_after b.notes notes }) bodies (record { pages = shown p last; notes = end })) (sym (shown_indexed p first b.images below)) rest in
    let after_it : Leads home (record { pages = shown q (indexed first b.images); notes = notes_after b.notes notes }) bodies (record { pages = shown q last; notes = end }) =
    leads_other home p q (indexed first b.images) last (notes_after b.notes notes) end bodies (length-indexed first b.images ∙ long) logs.3 before in (
      b,
      record { spelled = applies.spelled; fits = applies.fits; suits = applies.suits },
      subst (λ (l : Image). Leads home (record { pages = l; notes = notes_after b.notes notes }) bodies (record { pages = shown q last; notes = end })) (shown_indexed q first b.images below) after_it,
    )

-- ---- the reading of a disk of which the pages in use are the same

reads_same : (n : ℕ) (a : Anchor) (old c : Image) (bodies : List (List ℕ)) (state : State) → Counts n c a → behind (area_first a) bodies ≤ area_end a → SameInUse a old c → ReadsBy n old a bodies state → ReadsBy n c a bodies state
reads_same n a old c bodies state counts inside same by =
    let home : bare c a ≡ bare old a = ap (λ (l : Image). record { pages = l; notes = map.empty }) (same_from old c (home_first a) a.sizes.home same.home) in
    record {
      counts = counts;
      records = records_same a.generation (area_end a) (area_first a) bodies old c by.records inside same.area;
      leads = subst (λ (s : State). Leads a.sizes.home s bodies state) (sym home) by.leads;
    }

-- without images the bare pages are shown
bare_shown : (image : Image) (a : Anchor) → ◌≡◌ {A = State} (record { pages = shown (home_pages image a) (no_index a.sizes.home); notes = map.empty }) (bare image a)
bare_shown image a = ap (λ (l : Image). record { pages = l; notes = map.empty }) (shown_bare (home_pages image a) a.sizes.home)

module _ (n : ℕ) (a : Anchor) (old : Image) (index : Index) (notes : Notes) (bodies : List (List ℕ)) (sound : IsSound n a) (inside : behind (area_first a) bodies ≤ area_end a) (logged : Logs (no_index a.sizes.home) bodies index) where
  abbrev state : State
  state = record { pages = shown (home_pages old a) index; notes = notes }

  abbrev home : ℕ
  home = a.sizes.home

  same_length : (c : Image) → length (home_pages c a) ≡ length (home_pages old a)
  same_length c = length-pages_from c (home_first a) home ∙ sym (length-pages_from old (home_first a) home)

  -- the home pages that the index has no image of
  pages_same : (c : Image) → SameUnlogged (home_first a) index old c → (k : ℕ) → slice_index_or index k None ≡ None → page (home_pages c a) k ≡ page (home_pages old a) k
  pages_same c same k none = elim (cases_lt k home) [
    | inl low ↦ page_from c (home_first a) home k low ∙ same.home k none ∙ sym (page_from old (home_first a) home k low)
    | inr past ↦ get_or_past (home_pages c a) k [] (omega (arith, past, length-pages_from c (home_first a) home)) ∙ sym (get_or_past (home_pages old a) k [] (omega (arith, past, length-pages_from old (home_first a) home)))
  ]

  -- what is shown of the pages while the log moves over
  turning_home : (body : List ℕ) (h c : Image) → Turning n a body h c → home_pages c a ≡ home_pages h a
  turning_home body h c (inl before) = same_from h c (home_first a) home before.1.home
  turning_home body h c (inr to) = same_from h c (home_first a) home to.home

  pub moving_shows : (body : List ℕ) (c : Image) → (c ≡ old) ⊎ MovingOver n a index body old c → shown (home_pages c a) index ≡ shown (home_pages old a) index
  moving_shows body c (inl same) = ap (λ (x : Image). shown (home_pages x a) index) same
  moving_shows body c (inr (inl same)) = shown_unlogged (home_pages old a) (home_pages c a) index (same_length c) (pages_same c same)
  moving_shows body c (inr (inr (h, brought, turning))) = ap (λ (l : Image). shown l index) (turning_home body h c turning) ∙ shown_unlogged (home_pages old a) (home_pages h a) index (same_length h) (pages_same h brought.same)

  module _ (by : ReadsBy n old a bodies (record { pages = shown (home_pages old a) index; notes = notes })) where
    reads_home : (c : Image) → SameUnlogged (home_first a) index old c → ReadsBy n c a bodies (record { pages = shown (home_pages old a) index; notes = notes })
    reads_home c same =
        let from_index : Leads home (record { pages = shown (home_pages old a) (no_index home); notes = map.empty }) bodies (record { pages = shown (home_pages old a) index; notes = notes }) =
        subst (λ (s : State). Leads home s bodies (record { pages = shown (home_pages old a) index; notes = notes })) (sym (bare_shown old a)) by.leads in
        let moved : Leads home (record { pages = shown (home_pages c a) (no_index home); notes = map.empty }) bodies (record { pages = shown (home_pages c a) index; notes = notes }) =
        leads_other home (home_pages old a) (home_pages c a) (no_index home) index map.empty notes bodies (length-replicate home None) logged from_index in
        let from_bare : Leads home (bare c a) bodies (record { pages = shown (home_pages c a) index; notes = notes }) =
        subst (λ (s : State). Leads home s bodies (record { pages = shown (home_pages c a) index; notes = notes })) (bare_shown c a) moved in
        record {
          counts = counts_kept n a old c (λ q low. same.before q (omega (arith, low))) by.counts;
          records = records_same a.generation (area_end a) (area_first a) bodies old c by.records inside (λ q above low. same.before q (omega (arith, low, above_area a sound.area)));
          leads = subst (λ (l : Image). Leads home (bare c a) bodies (record { pages = l; notes = notes })) (shown_unlogged (home_pages old a) (home_pages c a) index (same_length c) (pages_same c same)) from_bare;
        }

    home_state : (h : Image) → BroughtHome (home_first a) home index old h → home_pages h a ≡ shown (home_pages old a) index
    home_state h brought = shown_home (home_pages old a) (home_pages h a) index (same_length h) (pages_same h brought.same)
        (λ k image low is. let within : k < home = omega (arith, low, length-pages_from old (home_first a) home) in page_from h (home_first a) home k within ∙ brought.home k image within is)

    module _ (body : List ℕ) (spelled : body ≡ batch.spell (notes_batch notes)) (fits : batch.Fits (notes_batch notes)) (few : map.len notes ≤ most_notes) (again : notes_after (puts (map.entries notes)) map.empty ≡ notes) where
      -- the record of the notes over the home pages
      turned_by : (h c : Image) → Turned n a body h c → ReadsBy n c (turned a) (body ∷ []) (record { pages = home_pages h a; notes = notes })
      turned_by h c to =
          let pages : home_pages c (turned a) ≡ home_pages h a = same_from h c (home_first a) home to.home in
          let suits : Suits home map.empty (notes_batch notes) = record { inside = tt; few = subst (λ (l : Notes). map.len l ≤ most_notes) (sym again) few } in
          let all : ◌≡◌ {A = State} (applied (bare c (turned a)) (notes_batch notes)) (record { pages = home_pages h a; notes = notes }) = λ i. record { pages = pages i; notes = again i } in
          record {
            counts = to.counts;
            records = to.records;
            leads = (notes_batch notes, record { spelled = spelled; fits = fits; suits = suits }, all);
          }

      moved_to : (h c : Image) → BroughtHome (home_first a) home index old h → Turned n a body h c → ReadsBy n c (turned a) (body ∷ []) (record { pages = shown (home_pages old a) index; notes = notes })
      moved_to h c brought to = subst (λ (l : Image). ReadsBy n c (turned a) (body ∷ []) (record { pages = l; notes = notes })) (home_state h brought) (turned_by h c to)

      turning_reads : (h c : Image) → BroughtHome (home_first a) home index old h → Turning n a body h c → Reads a.server a.servers n c (record { pages = shown (home_pages old a) index; notes = notes })
      turning_reads h c brought (inl before) = record { anchor = a; bodies = bodies; server_is = refl; servers_is = refl; by = reads_same n a h c bodies state before.0 inside before.1 (reads_home h brought.same) }
      turning_reads h c brought (inr to) = record { anchor = turned a; bodies = body ∷ []; server_is = refl; servers_is = refl; by = moved_to h c brought to }

      pub moving_reads : (c : Image) → MovingOver n a index body old c → Reads a.server a.servers n c (record { pages = shown (home_pages old a) index; notes = notes })
      moving_reads c (inl same) = record { anchor = a; bodies = bodies; server_is = refl; servers_is = refl; by = reads_home c same }
      moving_reads c (inr (h, brought, turning)) = turning_reads h c brought turning

      pub moved_by : (c : Image) → MovedOver n a index body old c → ReadsBy n c (turned a) (body ∷ []) (record { pages = shown (home_pages old a) index; notes = notes })
      moved_by c (h, brought, to) = moved_to h c brought to

      pub moved_logs : Logs (no_index home) (body ∷ []) (no_index home)
      moved_logs = (notes_batch notes, spelled, fits, refl)

      -- what the log holds then
      pub moved_state : (c : Image) → MovedOver n a index body old c → ◌≡◌ {A = State} (record { pages = shown (home_pages c (turned a)) (no_index home); notes = notes }) (record { pages = shown (home_pages old a) index; notes = notes })
      moved_state c (h, brought, to) =
          let pages : shown (home_pages c (turned a)) (no_index home) ≡ shown (home_pages old a) index = shown_bare (home_pages c (turned a)) home ∙ same_from h c (home_first a) home to.home ∙ home_state h brought in
          ap (λ (l : Image). record { pages = l; notes = notes }) pages

-- ---- a log that is read so, at once

pub reads_at : (n : ℕ) (a : Anchor) (image : Image) (bodies : List (List ℕ)) (state : State) (left : Image → Type 0) → ReadsBy n image a bodies state → ((c : Image) → left c → c ≡ image) → (c : Image) → left c → Reads a.server a.servers n c state
reads_at n a image bodies state left by only c was = subst (λ (x : Image). Reads a.server a.servers n x state) (sym (only c was)) (record { anchor = a; bodies = bodies; server_is = refl; servers_is = refl; by = by })
