use Rattle.std.specs.Prelude.{Bool, nat_le, map as list_map}
use Rattle.std.proofs.Common.{◌≡◌, List, length, ap, sym, ◌∙◌, subst, arith}
use Rattle.std.proofs.lemmas.List.{length-map}
use Rattle.alp_base.specs.declared.faults.Sizes.{Sizes}
use Rattle.alp_base.specs.declared.ids.JoinNo.{JoinNo}
use Rattle.alp_fields.specs.declared.ready_note.ReadyPart.{ReadyPart}
use Rattle.alp_files.specs.Cells.{Cells}
use Rattle.alp_vault.specs.Contents.{Contents}
use Rattle.alp_journal.specs.Opening.{ReadyNote}
use Rattle.alp_regain.specs.Lives.{IsSoFar}
use Rattle.alp_regain.specs.Notes.{part_note}
use Rattle.alp_regain.specs.Rooms.{part_size, HaveRoomFor}
use Rattle.alp_regain.specs.Together.{log_sum}
use Rattle.alp_regain.specs.declared.part.RegainedPart.{RegainedPart}
use Rattle.alp_regain.proofs.RoomLemmas.{same_length, room_said, room_meant, log_said, log_meant}
use Rattle.alp_regain.proofs.regaining.lives_within.Goals as goal

pub log_has_room-requires : goal.log_has_room-requires
log_has_room-requires g c =
    let live = c.in_ok-lives.ensures.live in
    omega (
      arith,
      ap (λ (ps : List RegainedPart). length ps) c.as_slice-2.ensures.value,
      same_length (g.V.Vault.tells c.args.vault.now) (g.V.Vault.held c.args.vault.now).cells c.args.of.0 c.args.of.1 c.in_ok-lives.lives.parts.items (list_map part_note c.as_slice.result.now) live.parts,
      length-map c.as_slice.result.now part_note,
      ap (λ (ps : List (JoinNo × ReadyPart)). length ps) c.as_slice.ensures.value,
      c.requires.few,
    )

pub returns-then-not-branch-clause-bad : goal.returns-then-not-branch-clause-bad
returns-then-not-branch-clause-bad g c = λ bad notes apart fit.
    let tells : Bool = g.V.Vault.tells c.args.vault.now in
    let held : Cells = (g.V.Vault.held c.args.vault.now).cells in
    let volume : Sizes = g.V.Vault.volume c.args.vault.now in
    let ns : List ReadyNote = list_map part_note c.args.notes.now.parts.items in
    let live : IsSoFar tells held c.args.of.0 c.args.of.1 c.in_ok-lives.lives ns =
    subst (λ (ps : List (JoinNo × ReadyPart)). IsSoFar tells held c.args.of.0 c.args.of.1 c.in_ok-lives.lives (list_map part_note ps)) c.as_slice.ensures.value c.in_ok-lives.ensures.live in
    let area : c.sizes.result ≡ volume = c.sizes.ensures ∙ c.in_ok-lives.ensures.looked.0.same.sizes in
    log_meant tells held c.args.of.0 c.args.of.1 volume.area c.in_ok-lives.lives.parts.items ns live.parts
    (sym (λ i. nat_le (log_sum (list_map part_size (c.as_slice-2.ensures.value i))) (area i).area) ∙ sym c.in_ok-log_has_room.ensures ∙ c.if-not-branch.true) fit

pub returns-clause-log : goal.returns-clause-log
returns-clause-log g c =
    let tells : Bool = g.V.Vault.tells c.args.vault.now in
    let held : Cells = (g.V.Vault.held c.args.vault.now).cells in
    let volume : Sizes = g.V.Vault.volume c.args.vault.now in
    let ns : List ReadyNote = list_map part_note c.args.notes.now.parts.items in
    let live : IsSoFar tells held c.args.of.0 c.args.of.1 c.in_ok-lives.lives ns =
    subst (λ (ps : List (JoinNo × ReadyPart)). IsSoFar tells held c.args.of.0 c.args.of.1 c.in_ok-lives.lives (list_map part_note ps)) c.as_slice.ensures.value c.in_ok-lives.ensures.live in
    let area : c.sizes.result ≡ volume = c.sizes.ensures ∙ c.in_ok-lives.ensures.looked.0.same.sizes in
    log_said tells held c.args.of.0 c.args.of.1 volume.area c.in_ok-lives.lives.parts.items ns live.parts
    (sym (λ i. nat_le (log_sum (list_map part_size (c.as_slice-2.ensures.value i))) (area i).area) ∙ sym c.in_ok-log_has_room.ensures ∙ c.if-not-branch.false)
