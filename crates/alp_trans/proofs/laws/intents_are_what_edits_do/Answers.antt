use Rattle.alp_files.proofs.IntentLemmas.{through_of, puts_from, intents_from-append}
use Rattle.alp_files.specs.Needs.{no_intents}
use Rattle.alp_trans.proofs.ChangeLemmas.{get-change, same_change}
use Rattle.alp_trans.proofs.laws.intents_are_what_edits_do.Goals as goal

pub returns-clause-seen : goal.returns-clause-seen
returns-clause-seen c = through_of

pub returns-clause-puts : goal.returns-clause-puts
returns-clause-puts c = puts_from no_intents

pub returns-clause-change : goal.returns-clause-change
returns-clause-change c = get-change

pub returns-clause-cells : goal.returns-clause-cells
returns-clause-cells c = same_change

pub returns-clause-more : goal.returns-clause-more
returns-clause-more c = intents_from-append
