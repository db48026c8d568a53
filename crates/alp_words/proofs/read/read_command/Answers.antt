use Rattle.std.proofs.Common.{◌∙◌, refl, ap, map}
use Rattle.alp_words.proofs.Named.{enters_by, good, on_ok_of, play_named, drill_is, bad_drill, storm_is, bad_storm}
use Rattle.alp_words.proofs.read.read_command.Goals as goal

pub returns-in-Some-clause-named : goal.returns-in-Some-clause-named
returns-in-Some-clause-named c =
    let all = ap (map (λ w. w.now)) c.as_slice.ensures.value ∙ c.in_ok-all.ensures in
    play_named _ _ _ (enters_by _ _ _ _ c.in_ok-matches.matches all c.in_ok-matches.ensures.rows (c.in-Some.ensures.found.0 refl) c.in-Some.ensures.rows) c.in_ok-folder.ensures

pub returns-in-Some-subcommand_matches-clause-named : goal.returns-in-Some-subcommand_matches-clause-named
returns-in-Some-subcommand_matches-clause-named c =
    let all = ap (map (λ w. w.now)) c.as_slice.ensures.value ∙ c.in_ok-all.ensures in
    let arm = c.in-Some-subcommand_matches.ensures in
    drill_is _ _ (enters_by _ _ _ _ c.in_ok-matches.matches all c.in_ok-matches.ensures.rows (arm.found.0 refl) arm.rows) c.drill_in.result c.drill_in.ensures.made

pub returns-in-Some-subcommand_matches-clause-good : goal.returns-in-Some-subcommand_matches-clause-good
returns-in-Some-subcommand_matches-clause-good c =
    let all = ap (map (λ w. w.now)) c.as_slice.ensures.value ∙ c.in_ok-all.ensures in
    on_ok_of c.drill_in.result _ (good _ _ all c.in_ok-matches.ensures.good)

pub returns-in-Some-subcommand_matches-clause-bad : goal.returns-in-Some-subcommand_matches-clause-bad
returns-in-Some-subcommand_matches-clause-bad c =
    let all = ap (map (λ w. w.now)) c.as_slice.ensures.value ∙ c.in_ok-all.ensures in
    let arm = c.in-Some-subcommand_matches.ensures in
    bad_drill _ _ _ (enters_by _ _ _ _ c.in_ok-matches.matches all c.in_ok-matches.ensures.rows (arm.found.0 refl) arm.rows) all c.in_ok-matches.ensures.good c.drill_in.result c.drill_in.ensures.bad

pub returns-clause-named : goal.returns-clause-named
returns-clause-named c =
    let all = ap (map (λ w. w.now)) c.as_slice.ensures.value ∙ c.in_ok-all.ensures in
    let arm = c.in-Some-subcommand_matches-2.ensures in
    storm_is _ _ (enters_by _ _ _ _ c.in_ok-matches.matches all c.in_ok-matches.ensures.rows (arm.found.0 refl) arm.rows) c.storm_in.result c.storm_in.ensures.made

pub returns-clause-good : goal.returns-clause-good
returns-clause-good c =
    let all = ap (map (λ w. w.now)) c.as_slice.ensures.value ∙ c.in_ok-all.ensures in
    on_ok_of c.storm_in.result _ (good _ _ all c.in_ok-matches.ensures.good)

pub returns-clause-bad : goal.returns-clause-bad
returns-clause-bad c =
    let all = ap (map (λ w. w.now)) c.as_slice.ensures.value ∙ c.in_ok-all.ensures in
    let arm = c.in-Some-subcommand_matches-2.ensures in
    bad_storm _ _ _ (enters_by _ _ _ _ c.in_ok-matches.matches all c.in_ok-matches.ensures.rows (arm.found.0 refl) arm.rows) all c.in_ok-matches.ensures.good c.storm_in.result c.storm_in.ensures.bad
