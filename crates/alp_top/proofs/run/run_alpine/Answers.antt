use Rattle.std.specs.Prelude.{Option, map as list_map, string_bytes}
use Rattle.std.proofs.Common.{inl, ◌≡◌, ℕ, List, refl, sym, ◌∙◌, subst}
use Rattle.alp_script.specs.Accepted.{IsAccepted}
use Rattle.alp_script.specs.declared.numbered.NumberedLine.{NumberedLine}
use Rattle.alp_words.specs.Words.{folder_named}
use Rattle.alp_top.specs.Anywhere.{HasPlay}
use Rattle.alp_top.specs.Commands.{AreToPlay}
use Rattle.alp_top.specs.Headline.{HasCause}
use Rattle.alp_top.specs.Volumes.{IsFolderLeft}
use Rattle.alp_top.proofs.CommandLemmas.{few_rounds}
use Rattle.alp_top.proofs.PlayedLemmas.{run_shown, through_shown, is_played, has_laws, reported, done_then, cut_then, caused, folder_left, handed_folder, disk_counted, handed_counted, has_reported, has_reported_part, handed_limits, handed_bay, bay_asked, handed_disk, not_done, not_cut, limited, of_declared, bay_told, read_well, wrote_well, named_folder, folder_told, plays_on, had_lines, not_untaken}
use Rattle.alp_top.proofs.run.run_alpine.Goals as goal

pub lines_of-requires : goal.lines_of-requires
lines_of-requires g c = record { few = few_rounds _ c.in-Ok.command c.in-Ok.ensures.named }

pub run_bay-requires-clause-accepted : goal.run_bay-requires-clause-accepted
run_bay-requires-clause-accepted g c κs within = subst (λ (ls : List NumberedLine). IsAccepted ls) (sym c.deref-played.ensures.value) c.in-Ok-lines_of.ensures.accepted

-- the script has too many lines
pub returns-in-Err-TooLong-clause-any_bay : goal.returns-in-Err-TooLong-clause-any_bay
returns-in-Err-TooLong-clause-any_bay g c = record { played = tt; cut_off = tt; limits = inl refl; server = tt; counted = tt; bay = tt }

pub returns-in-Ok-run_bay-clause-headline : goal.returns-in-Ok-run_bay-clause-headline
returns-in-Ok-run_bay-clause-headline g c told =
    let lines : List NumberedLine = c.deref-played.result.now in
    let script : AreToPlay c.in-Ok.command (g.S.Source.left c.args.script.now) (g.S.Source.left c.lines_of.new.script) lines = subst (AreToPlay c.in-Ok.command _ _) (sym c.deref-played.ensures.value) c.in-Ok-lines_of.ensures.lines in
    let asked = folder_told (λ name. name.now) c.folder_of.result _ _ (c.folder_of.ensures ∙ named_folder _ c.in-Ok.command c.in-Ok.ensures.named) told in
    let ended = c.in-Ok-run_bay.ended in
    reported _ _ ended.text.items ended.log c.hand_over.result _ c.hand_over.ensures.done c.hand_over.ensures.cut_off
    (λ Written out. is_played _ g.B.Device.Disk _ c.in-Ok.command c.in-Ok.ensures.named _ _ _ _ lines ended.log ended.text.items script (run_shown _ g.B.Device.Disk _ _ lines ended.log ended.text.items _ _ c.shows.ensures (c.in-Ok-run_bay.ensures.ran asked)) Written out)

pub returns-in-Ok-run_bay-clause-laws : goal.returns-in-Ok-run_bay-clause-laws
returns-in-Ok-run_bay-clause-laws g c told =
    let lines : List NumberedLine = c.deref-played.result.now in
    let script : AreToPlay c.in-Ok.command (g.S.Source.left c.args.script.now) (g.S.Source.left c.lines_of.new.script) lines = subst (AreToPlay c.in-Ok.command _ _) (sym c.deref-played.ensures.value) c.in-Ok-lines_of.ensures.lines in
    let asked = folder_told (λ name. name.now) c.folder_of.result _ _ (c.folder_of.ensures ∙ named_folder _ c.in-Ok.command c.in-Ok.ensures.named) told in
    let ended = c.in-Ok-run_bay.ended in
    reported _ _ ended.text.items ended.log c.hand_over.result _ c.hand_over.ensures.done c.hand_over.ensures.cut_off
    (λ Written out. has_laws _ g.B.Device.Disk _ c.in-Ok.command c.in-Ok.ensures.named _ _ _ _ lines ended.log ended.text.items script (run_shown _ g.B.Device.Disk _ _ lines ended.log ended.text.items _ _ c.shows.ensures (c.in-Ok-run_bay.ensures.ran asked)) Written out)

pub returns-in-Ok-run_bay-clause-any_bay : goal.returns-in-Ok-run_bay-clause-any_bay
returns-in-Ok-run_bay-clause-any_bay g c =
    let lines : List NumberedLine = c.deref-played.result.now in
    let script : AreToPlay c.in-Ok.command (g.S.Source.left c.args.script.now) (g.S.Source.left c.lines_of.new.script) lines = subst (AreToPlay c.in-Ok.command _ _) (sym c.deref-played.ensures.value) c.in-Ok-lines_of.ensures.lines in
    let ended = c.in-Ok-run_bay.ended in
    record {
      played = done_then c.hand_over.result _ _ (λ log h. has_reported _ _ c.in-Ok.command c.in-Ok.ensures.named _ _ lines ended.log ended.text.items script (through_shown _ _ _ lines ended.log ended.text.items c.shows.ensures c.in-Ok-run_bay.ensures.through) _ _ log h.0 h.1) c.hand_over.ensures.done;
      cut_off = cut_then c.hand_over.result _ _ (λ log h. has_reported_part _ _ c.in-Ok.command c.in-Ok.ensures.named _ _ lines ended.log ended.text.items script (through_shown _ _ _ lines ended.log ended.text.items c.shows.ensures c.in-Ok-run_bay.ensures.through) _ _ log h.0 h.1 h.2) c.hand_over.ensures.cut_off;
      limits = handed_limits c.hand_over.result _ c.hand_over.ensures.played;
      server = handed_disk c.hand_over.result _ c.hand_over.ensures.played;
      counted = handed_counted c.hand_over.result _ c.hand_over.ensures.played;
      bay = handed_bay c.hand_over.result _ c.hand_over.ensures.played;
    }

pub returns-in-Ok-run_bay-clause-folder : goal.returns-in-Ok-run_bay-clause-folder
returns-in-Ok-run_bay-clause-folder g c = handed_folder c.hand_over.result _ _ _ c.hand_over.ensures.played (c.in-Ok-run_bay.ensures.chosen ∙ c.folder_of.ensures ∙ named_folder _ c.in-Ok.command c.in-Ok.ensures.named)

pub returns-clause-any_bay : goal.returns-clause-any_bay
returns-clause-any_bay g c =
    let lines : List NumberedLine = c.deref-played.result.now in
    let script : AreToPlay c.in-Ok.command (g.S.Source.left c.args.script.now) (g.S.Source.left c.lines_of.new.script) lines = subst (AreToPlay c.in-Ok.command _ _) (sym c.deref-played.ensures.value) c.in-Ok-lines_of.ensures.lines in
    record {
      played = not_done c.ended_by.result c.in-Err.fault _ c.ended_by.ensures;
      cut_off = not_cut c.ended_by.result c.in-Err.fault _ c.ended_by.ensures;
      limits = limited c.ended_by.result c.in-Err.fault _ _ _ c.in-Ok.command c.in-Ok.ensures.named lines script c.ended_by.ensures c.in-Err.ensures.ended;
      server = of_declared c.ended_by.result c.in-Err.fault _ _ _ c.in-Ok.command c.in-Ok.ensures.named lines script c.ended_by.ensures c.in-Err.ensures.counted;
      counted = disk_counted c.ended_by.result c.in-Err.fault _ _ _ c.in-Ok.command c.in-Ok.ensures.named lines script c.ended_by.ensures c.in-Err.ensures.counted;
      bay = bay_asked c.ended_by.result c.in-Err.fault (HasPlay _ _ _) c.ended_by.ensures (record { command = c.in-Ok.command; named = c.in-Ok.ensures.named; lines = lines; script = script });
    }

pub returns-clause-faults : goal.returns-clause-faults
returns-clause-faults g c = (read_well c.ended_by.result c.in-Err.fault _ _ c.ended_by.ensures c.in-Ok-lines_of.ensures.cause, wrote_well c.ended_by.result c.in-Err.fault _ _ c.ended_by.ensures refl, bay_told c.ended_by.result c.in-Err.fault _ _ _ c.ended_by.ensures c.in-Err.ensures.counted c.in-Err.ensures.bay)

pub returns-clause-folder : goal.returns-clause-folder
returns-clause-folder g c =
    let named : Option (List ℕ) = folder_named (list_map string_bytes c.args.words.now) in
    folder_left c.ended_by.result c.in-Err.fault (g.B.Bay.chosen c.args.bay.now) (g.B.Bay.chosen c.run_bay.new.bay) named c.ended_by.ensures
    (subst (λ (o : Option (List ℕ)). IsFolderLeft c.in-Err.fault (g.B.Bay.chosen c.args.bay.now) (g.B.Bay.chosen c.run_bay.new.bay) o) (c.folder_of.ensures ∙ named_folder _ c.in-Ok.command c.in-Ok.ensures.named) c.in-Err.ensures.chosen)

pub returns-clause-disk : goal.returns-clause-disk
returns-clause-disk g c told =
    let script : AreToPlay c.in-Ok.command (g.S.Source.left c.args.script.now) (g.S.Source.left c.lines_of.new.script) c.deref-played.result.now = subst (AreToPlay c.in-Ok.command _ _) (sym c.deref-played.ensures.value) c.in-Ok-lines_of.ensures.lines in
    let asked = folder_told (λ name. name.now) c.folder_of.result _ _ (c.folder_of.ensures ∙ named_folder _ c.in-Ok.command c.in-Ok.ensures.named) told in
    caused c.ended_by.result c.in-Err.fault _ (HasCause g.B.Device.Disk _ _ _ _ _ _ _) c.ended_by.ensures (record { command = c.in-Ok.command; named = c.in-Ok.ensures.named; lines = c.deref-played.result.now; script = script; cause = c.in-Err.ensures.cause asked })

pub returns-clause-complete : goal.returns-clause-complete
returns-clause-complete g c good says source sink bay told starts =
    let lines : List NumberedLine = c.deref-played.result.now in
    let script : AreToPlay c.in-Ok.command (g.S.Source.left c.args.script.now) (g.S.Source.left c.lines_of.new.script) lines = subst (AreToPlay c.in-Ok.command _ _) (sym c.deref-played.ensures.value) c.in-Ok-lines_of.ensures.lines in
    let asked = folder_told (λ name. name.now) c.folder_of.result _ _ (c.folder_of.ensures ∙ named_folder _ c.in-Ok.command c.in-Ok.ensures.named) told in
    plays_on lines _ _ (starts c.in-Ok.command c.in-Ok.ensures.named lines script) c.ended_by.result c.in-Err.fault _ _ c.ended_by.ensures (c.in-Err.ensures.cause asked) bay

pub returns-clause-no_lines : goal.returns-clause-no_lines
returns-clause-no_lines g c = had_lines c.ended_by.result c.in-Err.fault _ c.ended_by.ensures

pub returns-clause-untaken : goal.returns-clause-untaken
returns-clause-untaken g c = not_untaken c.ended_by.result c.in-Err.fault _ c.ended_by.ensures
