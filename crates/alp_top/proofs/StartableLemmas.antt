-- a disk that holds a volume of its server, with no note but the clock's, is one to start on
use Rattle.std.proofs.Common.{inl, inr, ◌≡◌, ℕ, ◌+◌, ◌≤◌, List, [], sym, subst, arith}
use Rattle.alp_base.specs.Notes.{Notes}
use Rattle.alp_base.specs.declared.faults.Sizes.{Sizes}
use Rattle.alp_base.specs.declared.faults.VaultFault.TheVariants as vault_fault
use Rattle.alp_disk.specs.Disk.{Image}
use Rattle.alp_fields.specs.ClockNote.{AreClockNotes}
use Rattle.alp_files.specs.Cells.{Cells}
use Rattle.alp_files.specs.Counts.{used_of, file_count_of, owner_count_of}
use Rattle.alp_journal.specs.Opening.{ReadyNote, ready_kept}
use Rattle.alp_journal.proofs.NoteLemmas.{none_ready}
use Rattle.alp_node.specs.Starts.{epoch_after}
use Rattle.alp_regain.specs.Together.{AreTogether, AreSoundTogether, HaveRoomTogether}
use Rattle.alp_store.specs.Holding.{Holds}
use Rattle.alp_store.specs.Starts.{AreOfServer}
use Rattle.alp_store.specs.Told.{pages_of as pages_in}
use Rattle.alp_store.proofs.RecoverLaws.{is_opened}
use Rattle.alp_store.proofs.Standing.{standing_volume}
use Rattle.alp_vault.specs.Contents.{Contents}
use Rattle.alp_vault.specs.Volumes.{IsVolumeOf}
use Rattle.alp_vault.specs.declared.limits.TheConstants.{FILES_PER_SERVER, OWNERS_PER_SERVER, HEAD_PAGES}
use Rattle.alp_top.specs.Volumes.{HasNoEpoch, IsStartable}
use Rattle.alp_top.proofs.BeginLemmas.{together_so_far}
use Rattle.alp_top.proofs.TogetherLemmas.{one_content}

-- what goes together where no part is ready
bare_together : (server servers epoch : ℕ) (s : Sizes) (m : Cells) (notes : Notes) → 64 ≤ s.area → IsVolumeOf s m → AreClockNotes notes → AreTogether server servers epoch s m notes
bare_together server servers epoch s m notes least volume clock =
    let none : ready_kept notes ≡ [] = none_ready notes clock in
    let places : used_of m + 0 + HEAD_PAGES ≤ s.home = omega (arith, volume.fits.places) in
    let files : file_count_of m + 0 ≤ FILES_PER_SERVER = omega (arith, volume.fits.files) in
    let owners : owner_count_of m + 0 ≤ OWNERS_PER_SERVER = omega (arith, volume.fits.owners) in
    let room : HaveRoomTogether s m [] = record { places = places; files = files; owners = owners } in
    let sound : AreSoundTogether m [] = record { each = tt; all = volume.sound } in
    record {
      notes_alone = together_so_far server servers epoch s.area notes (omega (arith, least)) clock;
      room = subst (λ (ns : List ReadyNote). HaveRoomTogether s m ns) (sym none) room;
      sound = subst (λ (ns : List ReadyNote). AreSoundTogether m ns) (sym none) sound;
    }

pub startable_again : (sizes : Sizes) (server servers n home : ℕ) (image : Image) (held : Contents) → Holds server servers n home image held → AreOfServer server servers held → AreClockNotes held.notes → (HasNoEpoch server servers n image → ⊥)
    → IsStartable sizes server servers n image
startable_again sizes server servers n home image held holds own clock further = record {
  volume = λ found why. absurd (is_opened server servers n home image held (vault_fault.NotAVolume found) holds why);
  whole = λ place why. absurd (elim why [
    | inl not_opened ↦ is_opened server servers n home image held (vault_fault.Damaged place) holds not_opened
    | inr foreign ↦
        let f = foreign.1 in
        let same : held ≡ f.held = one_content server servers n home f.home image held f.held holds f.holds in
        f.foreign (subst (λ (c : Contents). AreOfServer server servers c) same own)
  ]);
  epoch = λ none. absurd (further none);
  notes = λ a there several counts holds_there of_server.
      let same : held ≡ there = one_content server servers n home a.sizes.home image held there holds holds_there in
      let least : 64 ≤ a.sizes.area = counts.is_open.sound.sizes.least_area in
      let volume : IsVolumeOf a.sizes there.cells = standing_volume a.sizes (pages_in holds_there.state) there.cells (let wide : 512 ≤ a.sizes.home = counts.is_open.sound.sizes.least_home in omega (arith, wide)) holds_there.stand in
      inr (bare_together server servers (epoch_after there) a.sizes there.cells there.notes least volume (subst (λ (c : Contents). AreClockNotes c.notes) same clock));
}
