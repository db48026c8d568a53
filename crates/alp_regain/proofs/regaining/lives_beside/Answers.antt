use Rattle.std.specs.Prelude.{Ok, Err, Bool, true, false, map as list_map}
use Rattle.std.proofs.Common.{◌≡◌, List, [], length, ap, ◌∙◌, subst, sym, arith, rules}
use Rattle.std.proofs.lemmas.List.{length-map}
use Rattle.alp_base.specs.declared.faults.Sizes.{Sizes}
use Rattle.alp_base.specs.declared.ids.JoinNo.{JoinNo}
use Rattle.alp_fields.specs.declared.ready_note.ReadyPart.{ReadyPart}
use Rattle.alp_files.specs.Cells.{Cells}
use Rattle.alp_vault.specs.Contents.{Contents}
use Rattle.alp_vault.specs.Volumes.{IsVolumeOf}
use Rattle.alp_calls.proofs.LookLemmas.{later}
use Rattle.alp_journal.specs.Opening.{ReadyNote}
use Rattle.alp_regain.specs.Balance.{DoIntend}
use Rattle.alp_regain.specs.Lives.{IsSoFar}
use Rattle.alp_regain.specs.Notes.{part_note}
use Rattle.alp_regain.specs.Rooms.{HaveRoomFor}
use Rattle.alp_regain.specs.Together.{AreSoundTogether, size_of, log_sum}
use Rattle.alp_regain.specs.declared.fault.RegainFault.TheVariants.{BadNote}
use Rattle.alp_regain.specs.declared.part.RegainedPart.{RegainedPart}
use Rattle.alp_regain.proofs.RoomLemmas.{same_length, room_said, room_meant, no_notes, some_notes, none_room, none_sound}
use Rattle.alp_regain.proofs.SoundLemmas.{parts_intend}
use Rattle.alp_regain.proofs.regaining.lives_beside.Goals as goal

pub volume_has_room-requires-clause-few : goal.volume_has_room-requires-clause-few
volume_has_room-requires-clause-few g c =
    let live = c.in_ok-lives.ensures.live in
    omega (
      arith,
      ap (λ (ps : List RegainedPart). length ps) c.as_slice.ensures.value,
      same_length (g.V.Vault.tells c.args.vault.now) (g.V.Vault.held c.args.vault.now).cells c.args.of.0 c.args.of.1 c.in_ok-lives.lives.parts.items (list_map part_note c.args.notes.now.parts.items) live.parts,
      length-map c.args.notes.now.parts.items part_note,
      c.requires.few,
    )

pub stay_together-requires-clause-intend : goal.stay_together-requires-clause-intend
stay_together-requires-clause-intend g c =
    let ns : List ReadyNote = list_map part_note c.args.notes.now.parts.items in
    let ps : List RegainedPart = c.in_ok-lives.lives.parts.items in
    subst (λ (xs : List RegainedPart). DoIntend xs (list_map part_note c.as_slice-2.result.now)) (sym c.as_slice-3.ensures.value)
    (subst (λ (xs : List (JoinNo × ReadyPart)). DoIntend ps (list_map part_note xs)) (sym c.as_slice-2.ensures.value)
    (parts_intend (g.V.Vault.tells c.args.vault.now) (g.V.Vault.held c.args.vault.now).cells c.args.of.0 c.args.of.1 ps ns c.in_ok-lives.ensures.live.parts))

-- ---- no part

pub returns-then-len-eq0-clause-room : goal.returns-then-len-eq0-clause-room
returns-then-len-eq0-clause-room g c = λ told.
    none_room (g.V.Vault.volume c.args.vault.now) (g.V.Vault.held c.args.vault.now).cells (list_map part_note c.args.notes.now.parts.items) (no_notes c.args.notes.now.parts.items (sym c.args.notes.now.parts.ok.0 ∙ sym c.len.ensures ∙ c.if-len-eq0.true))
    (c.knows.ensures.fitting (g.V.Vault.held c.args.vault.now) told (c.knows.ensures.as_held told c.requires.serving))

pub returns-then-len-eq0-clause-sound : goal.returns-then-len-eq0-clause-sound
returns-then-len-eq0-clause-sound g c = λ told.
    none_sound (g.V.Vault.volume c.args.vault.now) (g.V.Vault.held c.args.vault.now).cells (list_map part_note c.args.notes.now.parts.items) (no_notes c.args.notes.now.parts.items (sym c.args.notes.now.parts.ok.0 ∙ sym c.len.ensures ∙ c.if-len-eq0.true))
    (c.knows.ensures.fitting (g.V.Vault.held c.args.vault.now) told (c.knows.ensures.as_held told c.requires.serving))

-- ---- room

pub returns-then-not-volume_has_room-clause-bad : goal.returns-then-not-volume_has_room-clause-bad
returns-then-not-volume_has_room-clause-bad g c = λ told bad fit sound.
    let tells : Bool = g.V.Vault.tells c.args.vault.now in
    let held : Cells = (g.V.Vault.held c.args.vault.now).cells in
    let ns : List ReadyNote = list_map part_note c.args.notes.now.parts.items in
    let left = c.in_ok-lives.ensures.looked.0 in
    let live : IsSoFar tells held c.args.of.0 c.args.of.1 c.in_ok-lives.lives ns = c.in_ok-lives.ensures.live in
    let room : HaveRoomFor (g.V.Vault.volume c.args.vault.now) held c.in_ok-lives.lives.parts.items =
    room_meant tells held c.args.of.0 c.args.of.1 told (g.V.Vault.volume c.args.vault.now) c.in_ok-lives.lives.parts.items ns live.parts fit.room in
    c.volume_has_room.ensures.no (left.same.telling ∙ told) c.if-not-volume_has_room.true
    (subst (λ (s : Sizes). HaveRoomFor s (g.V.Vault.held c.lives_within.new.vault).cells c.as_slice.result.now) (sym left.same.sizes)
    (subst (λ (x : Contents). HaveRoomFor (g.V.Vault.volume c.args.vault.now) x.cells c.as_slice.result.now) (sym left.contents)
    (subst (λ (ps : List RegainedPart). HaveRoomFor (g.V.Vault.volume c.args.vault.now) held ps) (sym c.as_slice.ensures.value) room)))

pub returns-then-not-volume_has_room-clause-alone : goal.returns-then-not-volume_has_room-clause-alone
returns-then-not-volume_has_room-clause-alone g c = λ bad none log. c.if-len-eq0.false (c.len.ensures ∙ c.args.notes.now.parts.ok.0 ∙ some_notes c.args.notes.now.parts.items none)

pub returns-clause-room : goal.returns-clause-room
returns-clause-room g c = λ told.
    let tells : Bool = g.V.Vault.tells c.args.vault.now in
    let held : Cells = (g.V.Vault.held c.args.vault.now).cells in
    let ns : List ReadyNote = list_map part_note c.args.notes.now.parts.items in
    let left = c.in_ok-lives.ensures.looked.0 in
    let live : IsSoFar tells held c.args.of.0 c.args.of.1 c.in_ok-lives.lives ns = c.in_ok-lives.ensures.live in
    room_said tells held c.args.of.0 c.args.of.1 told (g.V.Vault.volume c.args.vault.now) c.in_ok-lives.lives.parts.items ns live.parts
    (subst (λ (ps : List RegainedPart). HaveRoomFor (g.V.Vault.volume c.args.vault.now) held ps) c.as_slice.ensures.value
    (subst (λ (x : Contents). HaveRoomFor (g.V.Vault.volume c.args.vault.now) x.cells c.as_slice.result.now) left.contents
    (subst (λ (s : Sizes). HaveRoomFor s (g.V.Vault.held c.lives_within.new.vault).cells c.as_slice.result.now) left.same.sizes
    (c.volume_has_room.ensures.yes (left.same.telling ∙ told) c.if-not-volume_has_room.false))))

-- ---- files

pub returns-then-not-branch-clause-bad : goal.returns-then-not-branch-clause-bad
returns-then-not-branch-clause-bad g c = λ told bad fit sound.
    let held : Cells = (g.V.Vault.held c.args.vault.now).cells in
    let no : c.stay_together.result ≡ Ok false = search rules in
    later g.V.Vault c.args.vault.now c.lives_within.new.vault c.in_ok-lives.ensures.looked.0 (λ m. AreSoundTogether m (list_map part_note c.as_slice-2.result.now) → ⊥)
    (λ t. c.stay_together.ensures.no t no) told
    (subst (λ (xs : List (JoinNo × ReadyPart)). AreSoundTogether held (list_map part_note xs)) (sym c.as_slice-2.ensures.value) sound)

pub returns-then-not-branch-clause-alone : goal.returns-then-not-branch-clause-alone
returns-then-not-branch-clause-alone g c = λ bad none log. c.if-len-eq0.false (c.len.ensures ∙ c.args.notes.now.parts.ok.0 ∙ some_notes c.args.notes.now.parts.items none)

pub returns-clause-sound : goal.returns-clause-sound
returns-clause-sound g c = λ told.
    let held : Cells = (g.V.Vault.held c.args.vault.now).cells in
    let yes : c.stay_together.result ≡ Ok true = search rules in
    subst (λ (xs : List (JoinNo × ReadyPart)). AreSoundTogether held (list_map part_note xs)) c.as_slice-2.ensures.value
    (later g.V.Vault c.args.vault.now c.lives_within.new.vault c.in_ok-lives.ensures.looked.0 (λ m. AreSoundTogether m (list_map part_note c.as_slice-2.result.now))
    (λ t. c.stay_together.ensures.yes t yes) told)
