use Rattle.std.proofs.Common.{◌+◌, rules, ap}
use Rattle.alp_drill.proofs.RollLemmas.{two_lines}
use Rattle.alp_drill.proofs.StepLemmas.{visit_done}
use Rattle.alp_drill.proofs.transactions.visit.Goals as goal

pub returns : goal.returns
returns c =
    visit_done c.args.pages.now c.args.turn _ _ _ _ _ _ _ _ c.files_of-files.result c.roll-place.result _ c.roll-first.result c.roll-more.result _ c.in_ok-word.word
    c.files_of-files.ensures c.roll-place.ensures.value c.roll-place.ensures.dice (search rules) c.roll-first.ensures.value c.roll-first.ensures.dice c.roll-more.ensures.value c.roll-more.ensures.dice
    c.in_ok-word.ensures (ap (λ n. 1 + n) c.lesser-fewer.ensures)
    (two_lines _ _ _ _ _ c.in_ok-add.ensures c.in_ok-add-2.ensures) c.in_ok-write.ensures
