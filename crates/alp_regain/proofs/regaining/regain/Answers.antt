use Rattle.std.specs.Prelude.{Bool, true, Err, map as list_map}
use Rattle.std.specs.List.{list_all}
use Rattle.std.proofs.Common.{◌≡◌, ℕ, ◌≤◌, List, length, ap, sym, ◌∙◌, subst, arith, rules}
use Rattle.std.proofs.lemmas.List.{length-map}
use Rattle.alp_base.specs.Notes.{Notes}
use Rattle.alp_base.specs.declared.faults.Sizes.{Sizes}
use Rattle.alp_fields.specs.declared.clock_note.ClockNote.{ClockNote}
use Rattle.alp_files.specs.Cells.{Cells}
use Rattle.alp_coord.specs.Coordinators.{noted}
use Rattle.alp_coord.specs.declared.decision.Decision.{Decision}
use Rattle.alp_journal.specs.Opening.{ReadyNote, DecisionNote, ready_kept}
use Rattle.alp_regain.specs.Named.{is_decided_by}
use Rattle.alp_regain.specs.Notes.{part_note}
use Rattle.alp_regain.specs.Lives.{IsSoFar}
use Rattle.alp_regain.specs.Together.{clock_before, size_of, log_sum, AreSoundTogether, HaveRoomTogether, FitTogether}
use Rattle.alp_regain.specs.declared.fault.RegainFault.TheVariants.{BadNote}
use Rattle.alp_regain.proofs.RoomLemmas.{each_note, decided_by}
use Rattle.alp_regain.proofs.regaining.regain.Goals as goal

pub returns-then-not-are_few-clause-alone : goal.returns-then-not-are_few-clause-alone
returns-then-not-are_few-clause-alone g c = λ bad none alone.
    let notes : Notes = (g.V.Vault.held c.args.vault.now).notes in
    let decided : list_all (λ (d : Decision). is_decided_by c.in_ok-clock.clock d.stamp) c.in_ok-notes.notes.decisions.items ≡ true =
    sym (decided_by c.in_ok-clock.clock c.in_ok-notes.notes.decisions.items)
    ∙ (λ i. list_all (λ (d : DecisionNote). is_decided_by (c.in_ok-clock.ensures.clock i) d.stamp) (c.in_ok-notes.ensures.decisions i)) ∙ alone.decided in
    c.are_few.ensures.no c.if-not-are_few.true decided
    (omega (
      arith,
      length-map c.in_ok-notes.notes.parts.items part_note,
      ap (λ (ns : List ReadyNote). length ns) c.in_ok-notes.ensures.parts,
      length-map c.in_ok-notes.notes.decisions.items noted,
      ap (λ (ds : List DecisionNote). length ds) c.in_ok-notes.ensures.decisions,
      alone.few,
    ))

pub returns-then-not-are_few-clause-bad : goal.returns-then-not-are_few-clause-bad
returns-then-not-are_few-clause-bad g c = λ told bad together.
    let alone = together.notes_alone in
    let notes : Notes = (g.V.Vault.held c.args.vault.now).notes in
    let decided : list_all (λ (d : Decision). is_decided_by c.in_ok-clock.clock d.stamp) c.in_ok-notes.notes.decisions.items ≡ true =
    sym (decided_by c.in_ok-clock.clock c.in_ok-notes.notes.decisions.items)
    ∙ (λ i. list_all (λ (d : DecisionNote). is_decided_by (c.in_ok-clock.ensures.clock i) d.stamp) (c.in_ok-notes.ensures.decisions i)) ∙ alone.decided in
    c.are_few.ensures.no c.if-not-are_few.true decided
    (omega (
      arith,
      length-map c.in_ok-notes.notes.parts.items part_note,
      ap (λ (ns : List ReadyNote). length ns) c.in_ok-notes.ensures.parts,
      length-map c.in_ok-notes.notes.decisions.items noted,
      ap (λ (ds : List DecisionNote). length ds) c.in_ok-notes.ensures.decisions,
      alone.few,
    ))

pub returns-clause-notes : goal.returns-clause-notes
returns-clause-notes g c =
    let notes : Notes = (g.V.Vault.held c.args.vault.now).notes in
    let tells : Bool = g.V.Vault.tells c.args.vault.now in
    let held : Cells = (g.V.Vault.held c.args.vault.now).cells in
    let few = c.are_few.ensures.yes c.if-not-are_few.false in
    let live : IsSoFar tells held c.args.server (clock_before c.args.epoch notes).epoch c.in_ok-lives.lives (ready_kept notes) =
    subst (λ (ns : List ReadyNote). IsSoFar tells held c.args.server (clock_before c.args.epoch notes).epoch c.in_ok-lives.lives ns) c.in_ok-notes.ensures.parts
    (subst (λ (e : ℕ). IsSoFar tells held c.args.server e c.in_ok-lives.lives (list_map part_note c.in_ok-notes.notes.parts.items)) (ap (λ (k : ClockNote). k.epoch) c.in_ok-clock.ensures.clock) c.in_ok-lives.ensures.live) in
    record {
      format = c.in_ok-notes.ensures.format;
      parts = each_note tells held c.args.server (clock_before c.args.epoch notes).epoch c.in_ok-lives.lives.parts.items (ready_kept notes) live.parts;
      decided =
          sym (λ i. list_all (λ (d : DecisionNote). is_decided_by (c.in_ok-clock.ensures.clock i) d.stamp) (c.in_ok-notes.ensures.decisions i))
          ∙ decided_by c.in_ok-clock.clock c.in_ok-notes.notes.decisions.items ∙ few.0;
      apart = live.apart;
      few =
          omega (
            arith,
            length-map c.in_ok-notes.notes.parts.items part_note,
            ap (λ (ns : List ReadyNote). length ns) c.in_ok-notes.ensures.parts,
            length-map c.in_ok-notes.notes.decisions.items noted,
            ap (λ (ds : List DecisionNote). length ds) c.in_ok-notes.ensures.decisions,
            few.1,
          );
      log =
          subst (λ (ns : List ReadyNote). log_sum (list_map size_of ns) ≤ (g.V.Vault.volume c.args.vault.now).area) c.in_ok-notes.ensures.parts c.in_ok-lives.ensures.log;
    }

pub returns-clause-together : goal.returns-clause-together
returns-clause-together g c = λ told.
    let held : Cells = (g.V.Vault.held c.args.vault.now).cells in
    record {
      notes_alone = returns-clause-notes g c;
      room =
          subst (λ (ns : List ReadyNote). HaveRoomTogether (g.V.Vault.volume c.args.vault.now) held ns) c.in_ok-notes.ensures.parts (c.in_ok-lives.ensures.room told);
      sound = subst (λ (ns : List ReadyNote). AreSoundTogether held ns) c.in_ok-notes.ensures.parts (c.in_ok-lives.ensures.sound told);
    }

pub returns-in_err-lives-clause-bad : goal.returns-in_err-lives-clause-bad
returns-in_err-lives-clause-bad g c = λ told bad together.
    let notes : Notes = (g.V.Vault.held c.args.vault.now).notes in
    let held : Cells = (g.V.Vault.held c.args.vault.now).cells in
    let volume : Sizes = g.V.Vault.volume c.args.vault.now in
    let is : c.lives_beside.result ≡ Err BadNote = search rules in
    let fit : FitTogether volume held c.args.server (clock_before c.args.epoch notes).epoch (ready_kept notes) =
    record { parts = together.notes_alone.parts; apart = together.notes_alone.apart; log = together.notes_alone.log; room = together.room } in
    c.lives_beside.ensures.bad told is
    (subst (λ (ns : List ReadyNote). FitTogether volume held c.args.server c.in_ok-clock.clock.epoch ns) (sym c.in_ok-notes.ensures.parts)
    (subst (λ (e : ℕ). FitTogether volume held c.args.server e (ready_kept notes)) (sym (ap (λ (k : ClockNote). k.epoch) c.in_ok-clock.ensures.clock)) fit))
    (subst (λ (ns : List ReadyNote). AreSoundTogether held ns) (sym c.in_ok-notes.ensures.parts) together.sound)

pub returns-in_err-lives-clause-alone : goal.returns-in_err-lives-clause-alone
returns-in_err-lives-clause-alone g c = λ bad none alone.
    let is : c.lives_beside.result ≡ Err BadNote = search rules in
    c.lives_beside.ensures.alone is (c.in_ok-notes.ensures.parts ∙ none)
    (subst (λ (ns : List ReadyNote). log_sum (list_map size_of ns) ≤ (g.V.Vault.volume c.args.vault.now).area) (sym c.in_ok-notes.ensures.parts) alone.log)
