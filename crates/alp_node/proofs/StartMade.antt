-- a server that started keeps to all that holds of servers
use Rattle.std.specs.Prelude.{slice_get, Bool, false, IsTrue, Ok, Option, None, Some}
use Rattle.std.specs.FinMap as map
use Rattle.std.specs.FinMap.{get-insert}
use Rattle.std.specs.Cmp.Lexicographic.{nat_list_cmp_total}
use Rattle.std.proofs.Common.{◌≡◌, inr, ℕ, ◌<◌, ◌≤◌, ◌^◌, List, [], length, refl, sym, ◌∙◌, ap, subst, arith}
use Rattle.std.proofs.lemmas.Option.{slice_get_within}
use Rattle.alp_base.specs.Crashes.{Only}
use Rattle.alp_base.specs.Notes.{Notes, noted}
use Rattle.alp_base.specs.declared.faults.Sizes.{Sizes}
use Rattle.alp_base.specs.declared.ids.FileId.{FileId}
use Rattle.alp_base.specs.declared.cell.Cell.{Cell}
use Rattle.alp_base.specs.declared.key.Key.TheVariants.{Leader}
use Rattle.alp_fields.specs.ClockNote.{clock_name, clock_form, clock_in, clock_kept}
use Rattle.alp_fields.specs.declared.clock_note.ClockNote.{ClockNote}
use Rattle.alp_fields.proofs.ClockLemmas.{clock_back}
use Rattle.alp_files.specs.Cells.{Cells}
use Rattle.alp_calls.specs.Looks.{IsLeft}
use Rattle.alp_vault.specs.Contents.{Contents}
use Rattle.alp_vault.specs.Volumes.{IsVolumeOf}
use Rattle.alp_vault.specs.declared.vault.Vault.{Ghosts}
use Rattle.std.specs.List.{AllByRecursion}
use Rattle.alp_journal.specs.declared.entry.Entry.{Entry}
use Rattle.alp_journal.specs.Opening.{Start, ready_kept, decisions_kept}
use Rattle.alp_journal.specs.State.{opened}
use Rattle.alp_journal.specs.Laws.{IsLawful}
use Rattle.alp_journal.specs.Answered.{IsAnswered}
use Rattle.alp_journal.specs.Account.{state_of as account_state}
use Rattle.alp_journal.specs.declared.message.Envelope.{Envelope}
use Rattle.alp_journal.proofs.OpenedLemmas.{opened_on, opened_is}
use Rattle.alp_regain.specs.Together.{clock_before, AreNotesTogether, AreTogether}
use Rattle.alp_node.specs.Found.{FindsAll, HasBegun, IsFoundIn, KeepsFound}
use Rattle.alp_node.specs.Halts.{MaySay}
use Rattle.alp_node.specs.NodeStates.{NodeState}
use Rattle.alp_node.specs.Noted.{AreNotesFor}
use Rattle.alp_node.specs.Nodes.{IsConsistent, IsNewNode, IsRight, state_of, start_by, start_in, sent_in}
use Rattle.alp_node.specs.ServerState.{IsAs, IsReady}
use Rattle.alp_node.specs.Starts.{GaveFiles, PutsClock, raised}
use Rattle.alp_node.specs.declared.found.Found.{Found}
use Rattle.alp_node.specs.declared.server_state.ServerState.{ServerState}
use Rattle.alp_node.proofs.ClockLaws.{time_fits}
use Rattle.alp_node.proofs.FoundAs.{found_as}
use Rattle.alp_node.proofs.FoundNew.{new_told, new_sound}
use Rattle.alp_node.proofs.FoundNotes.{clock_beside}
use Rattle.alp_node.proofs.FoundReady.{found_kept, found_ready, raised_noted}
use Rattle.alp_node.proofs.FoundStart.{opening}
use Rattle.alp_node.proofs.NodeLemmas.{up_durable}
use Rattle.alp_node.proofs.StartLemmas.{before_less, before_same, raised_next, raised_some, raised_within, raised_clock, raised_last}

-- ---- a server that begins

-- the note that was put is read back
pub put_back : (notes : Notes) (c : ClockNote) → clock_form.Fits c → clock_kept (map.insert notes clock_name (clock_form.spell c)) ≡ c
put_back notes c fits = ap clock_in (get-insert nat_list_cmp_total notes clock_name (clock_form.spell c) clock_name) ∙ clock_back c fits

module _ {V : Type 0} (G : Ghosts V) (server servers : ℕ) (before mid : V) (clock : ClockNote) (f : Found) (k : ServerState V) (left : IsLeft G before mid) (fits : clock_form.Fits clock)
    (alone : AreNotesTogether server servers clock.epoch (G.volume before).area (G.held before).notes) (later : (clock_before clock.epoch (G.held before).notes).epoch < clock.epoch) (finds : FindsAll (G.tells before) (G.held before).cells server clock.epoch (G.held before).notes f)
    (put : PutsClock G mid k.vault clock (Ok tt)) (begun : HasBegun (G.volume k.vault) server servers clock f k.vault k) where
  abbrev pub held_before : Contents
  held_before = G.held before

  pub sizes_then : k.sizes ≡ G.volume before
  sizes_then = begun.volume ∙ put.same.sizes ∙ left.same.sizes

  abbrev pub then_kept : ServerState V
  then_kept = found_kept (G.tells before) server servers (G.volume before).area (G.volume before) clock.epoch clock.clock held_before.cells held_before.notes alone later f.lives f.locks f.joins f.coordinator finds.found k

  pub kept_is : k ≡ then_kept
  kept_is = λ i. record k {
    server = begun.number i;
    servers = begun.of_all i;
    sizes = sizes_then i;
    epoch = begun.epoch i;
    clock = begun.time i;
    given = begun.given i;
    coordinator = begun.coordinator i;
    joins = begun.joins i;
    sessions = begun.sessions i;
    lives = begun.lives i;
    dead = begun.dead i;
    waits = begun.waits i;
    locks = begun.locks i;
    is_down = begun.up i;
  }

  pub notes_then : (G.held k.vault).notes ≡ noted clock_name (Some (clock_form.spell clock)) held_before.notes
  notes_then = put.notes ∙ ap (λ (c : Contents). map.insert c.notes clock_name (clock_form.spell clock)) left.contents

  pub cells_then : IsTrue (G.tells before) → (G.held k.vault).cells ≡ held_before.cells
  cells_then told = put.cells (subst IsTrue (sym left.same.telling) told) ∙ ap (λ (c : Contents). c.cells) left.contents

  pub ready_then : (steps : ℕ) → IsTrue (G.serves k.vault) → 64 ≤ (G.volume before).area → (clock_kept held_before.notes).clock ≤ clock.clock → clock.clock ≤ 2 ^ 62 → clock.epoch < 2 ^ 32 → IsReady steps (G.serves k.vault) k
  ready_then steps serving area low within last =
      subst (IsReady steps (G.serves k.vault)) (sym kept_is)
      (found_ready (G.tells before) server servers (G.volume before).area (G.volume before) clock.epoch clock.clock held_before.cells held_before.notes alone later f.lives f.locks f.joins f.coordinator finds.found steps (G.serves k.vault) k serving refl area low within last)

  pub noted_then : AreNotesFor k (G.held k.vault).notes
  noted_then =
      subst (λ (s : ServerState V). AreNotesFor s (G.held k.vault).notes) (sym kept_is)
      (subst (AreNotesFor then_kept) (sym notes_then)
      (raised_noted (G.tells before) server servers (G.volume before).area (G.volume before) clock.epoch clock.clock held_before.cells held_before.notes alone later f.lives f.locks f.joins f.coordinator finds.found fits))

  pub keeps_found : KeepsFound (G.tells before) held_before k
  keeps_found = subst (KeepsFound (G.tells before) held_before) (sym kept_is) (record { all = finds.found; given = refl; sessions = refl; dead = refl; waits = refl; up = refl })

-- ---- and one that starts

module _ {V : Type 0} (G : Ghosts V) (server servers : ℕ) (before mid : V) (clock : ClockNote) (f : Found) (n : NodeState V) (left : IsLeft G before mid) (next : raised (G.held before) ≡ Ok clock)
    (alone : AreNotesTogether server servers clock.epoch (G.volume before).area (G.held before).notes) (finds : FindsAll (G.tells before) (G.held before).cells server clock.epoch (G.held before).notes f)
    (put : PutsClock G mid n.kept.vault clock (Ok tt)) (begun : HasBegun (G.volume n.kept.vault) server servers clock f n.kept.vault n.kept) (opening_is : n.opening.vault.value ≡ n.kept.vault) (empty : n.journal ≡ [])
    (number : G.server before ≡ server) (of_all : G.servers before ≡ servers) where
  later_than : (clock_before clock.epoch (G.held before).notes).epoch < clock.epoch
  later_than = before_less (clock_kept (G.held before).notes).epoch clock.epoch (raised_some (G.held before) clock next)

  given_before : GaveFiles server (G.held before) → (f : FileId) (c : Cell) → map.get (G.held before).cells (Leader f) ≡ Some c → (f.server ≡ server) × (f.epoch ≤ (clock_before clock.epoch (G.held before).notes).epoch)
  given_before given f c there = (
    (given f c there).0,
    subst (λ (n : ℕ). f.epoch ≤ n) (sym (before_same (clock_kept (G.held before).notes).epoch clock.epoch (raised_next (G.held before) clock next))) (given f c there).1,
  )

  fits_note : clock_form.Fits clock
  fits_note = time_fits clock (raised_last (G.held before) clock next) (raised_within (G.held before) clock next)

  low_clock : (clock_kept (G.held before).notes).clock ≤ clock.clock
  low_clock = (let same : clock.clock ≡ (clock_kept (G.held before).notes).clock = raised_clock (G.held before) clock next in omega (arith, same))

  abbrev o : Start
  o = opening server servers (G.volume before).area (G.volume before) clock.epoch clock.clock (G.held before).cells (G.held before).notes alone later_than

  abbrev v : V
  v = n.kept.vault

  notes_now : (G.held v).notes ≡ noted clock_name (Some (clock_form.spell clock)) (G.held before).notes
  notes_now = notes_then G server servers before mid clock f n.kept left fits_note alone later_than finds put begun

  cells_now : IsTrue (G.tells before) → (G.held v).cells ≡ (G.held before).cells
  cells_now = cells_then G server servers before mid clock f n.kept left fits_note alone later_than finds put begun

  clock_now : clock_kept (G.held v).notes ≡ clock
  clock_now = ap clock_kept notes_now ∙ put_back (G.held before).notes clock fits_note

  -- it is opened on that
  start_is : IsTrue (G.tells before) → o ≡ start_in G n
  start_is told = (λ i. record {
    server = sym begun.number i;
    servers = (sym of_all ∙ sym (put.same.of_all ∙ left.same.of_all)) i;
    sizes = sym (put.same.sizes ∙ left.same.sizes) i;
    epoch = ap (λ (c : ClockNote). c.epoch) (sym clock_now) i;
    clock = ap (λ (c : ClockNote). c.clock) (sym clock_now) i;
    cells = sym (cells_now told) i;
    ready = (sym ((clock_beside (G.held before).notes (clock_form.spell clock)).0) ∙ ap ready_kept (sym notes_now)) i;
    decisions = (sym ((clock_beside (G.held before).notes (clock_form.spell clock)).1) ∙ ap decisions_kept (sym notes_now)) i;
  }) ∙ ap (λ (w : V). start_by G n.kept.server w) (sym opening_is)

  module _ (area : 64 ≤ (G.volume before).area) (serving : IsTrue (G.serves n.kept.vault)) (together : IsTrue (G.tells before) → AreTogether server servers clock.epoch (G.volume before) (G.held before).cells (G.held before).notes)
      (volume : IsTrue (G.tells before) → IsVolumeOf (G.volume before) (G.held before).cells) (given : IsTrue (G.tells before) → GaveFiles server (G.held before)) (only : IsTrue (G.tells n.kept.vault) → Only (G.held n.kept.vault) (G.may_leave n.kept.vault)) where
    told_before : IsTrue (G.tells v) → IsTrue (G.tells before)
    told_before told = subst IsTrue (put.same.telling ∙ left.same.telling) told

    right_then : IsTrue (G.tells v) → IsRight (start_in G n) (G.held v) n
    right_then tells =
        let told : IsTrue (G.tells before) = told_before tells in
        subst (λ (x : Start). IsRight x (G.held v) n) (start_is told) (record {
          opening =
              new_sound (G.tells before) server servers (G.volume before).area (G.volume before) clock.epoch clock.clock (G.held before).cells (G.held before).notes alone later_than f.lives f.locks f.joins f.coordinator finds.found (volume told)
              (given_before (given told)) (together told).sound low_clock;
          lawful = subst (IsLawful o) (sym empty) tt;
          caused = subst (IsAnswered o) (sym empty) (tt, λ i e at. inr (let within : i < 0 = slice_get_within [] i e at in omega (arith, within)));
          state = opened_on o;
          says = ap (state_of o) empty;
          kept = subst (IsAs (opened_on o) (G.held v)) (sym (kept_is G server servers before mid clock f n.kept left fits_note alone later_than finds put begun))
              (found_as (G.tells before) server servers (G.volume before).area (G.volume before) clock.epoch clock.clock (G.held before).cells (G.held before).notes alone later_than f.lives f.locks f.joins f.coordinator finds.found (opened_on o)
              (new_told (G.tells before) server servers (G.volume before).area (G.volume before) clock.epoch clock.clock (G.held before).cells (G.held before).notes alone later_than f.lives f.locks f.joins f.coordinator finds.found (volume told) (given_before (given told)))
              n.kept (G.held v) told fits_note low_clock (cells_now told) notes_now (together told).room);
        })

    pub start_consistent : IsConsistent G n
    start_consistent = record {
      number = put.same.number ∙ left.same.number ∙ number ∙ sym begun.number;
      all = put.same.of_all ∙ left.same.of_all ∙ of_all ∙ sym begun.of_all;
      sizes = begun.volume;
      ready = subst (λ (m : ℕ). IsReady m (G.serves v) n.kept) (sym (ap (λ (es : List Entry). length es) empty))
          (ready_then G server servers before mid clock f n.kept left fits_note alone later_than finds put begun 0 serving area low_clock (raised_within (G.held before) clock next) (raised_last (G.held before) clock next));
      noted = λ up. noted_then G server servers before mid clock f n.kept left fits_note alone later_than finds put begun;
      said = subst (λ (es : List Entry). AllByRecursion (λ (x : Envelope). MaySay x.message) (sent_in es)) (sym empty) tt;
      right = right_then;
      durable = λ tells. up_durable (start_in G n) (G.held v) n (G.may_leave v) (right_then tells) begun.up (only tells);
    }

  pub start_new : IsNewNode G before n
  start_new = record {
    number = begun.number ∙ sym number;
    all = begun.of_all ∙ sym of_all;
    sizes = begun.volume;
    opening = opening_is;
    journal = empty;
    found = keeps_found G server servers before mid clock f n.kept left fits_note alone later_than finds put begun;
  }
