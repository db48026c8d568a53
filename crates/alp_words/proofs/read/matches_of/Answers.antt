use Rattle.std.proofs.Common.{◌∙◌, sym, map}
use Rattle.alp_words.proofs.Matches.{is_ours}
use Rattle.alp_words.proofs.Refusals.{taken, taken_rows, refused}
use Rattle.alp_words.proofs.read.matches_of.Goals as goal

pub returns-in-Ok-clause-good : goal.returns-in-Ok-clause-good
returns-in-Ok-clause-good c = taken _ (map (λ w. w.now) c.args.words.now) c.in_ok-command.ensures.0 c.in-Ok.ensures.kinds

pub returns-in-Ok-clause-rows : goal.returns-in-Ok-clause-rows
returns-in-Ok-clause-rows c = taken_rows _ (map (λ w. w.now) c.args.words.now) c.in-Ok.matches c.in_ok-command.ensures.0 c.in-Ok.ensures.matches

pub returns-in-Ok-clause-ours : goal.returns-in-Ok-clause-ours
returns-in-Ok-clause-ours c =
    let all = map (λ w. w.now) c.args.words.now in
    is_ours all c.in-Ok.matches (taken _ all c.in_ok-command.ensures.0 c.in-Ok.ensures.kinds) (taken_rows _ all c.in-Ok.matches c.in_ok-command.ensures.0 c.in-Ok.ensures.matches)

pub returns-in-Err-clause-bad : goal.returns-in-Err-clause-bad
returns-in-Err-clause-bad c bad = refused _ (map (λ w. w.now) c.args.words.now) c.in-Err.error c.in_ok-command.ensures.0 c.in-Err.ensures.kinds (sym c.from.ensures ∙ bad)
