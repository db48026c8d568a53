use Rattle.std.proofs.Common.{◌≡◌, sym, ap, ◌∙◌, subst}
use Rattle.alp_base.specs.declared.change.Change.{Change}
use Rattle.alp_files.specs.Changes.{edits_of}
use Rattle.alp_files.specs.Needs.{Intents, intents_of}
use Rattle.alp_trans.specs.Parts.{change_of}
use Rattle.alp_calls.specs.Regained.{IsNoted}
use Rattle.alp_ready.proofs.BackLemmas.{change_back}
use Rattle.alp_regain.proofs.ChangeLemmas.{noted_within, same_counts}
use Rattle.alp_regain.proofs.changes.part_of.Goals as goal

pub returns-then-not-is_noted-clause-bad : goal.returns-then-not-is_noted-clause-bad
returns-then-not-is_noted-clause-bad g c = λ bad few fit.
    let intents : Intents = intents_of (edits_of c.args.change.now) in
    let whole : c.in_ok-whole.whole ≡ change_of intents = c.in_ok-whole.ensures ∙ ap (λ (i : Intents). change_of i) c.in_ok-intents.ensures in
    c.is_noted.ensures.no c.if-not-is_noted.true (subst IsNoted (sym whole) (noted_within intents few fit))

pub returns-clause-intents : goal.returns-clause-intents
returns-clause-intents g c =
    let intents : Intents = intents_of (edits_of c.args.change.now) in
    let whole : c.in_ok-whole.whole ≡ change_of intents = c.in_ok-whole.ensures ∙ ap (λ (i : Intents). change_of i) c.in_ok-intents.ensures in
    c.in_ok-regained_part.ensures.intents ∙ ap (λ (w : Change). intents_of (edits_of w)) whole ∙ change_back intents

pub returns-clause-counts : goal.returns-clause-counts
returns-clause-counts g c = λ told.
    let intents : Intents = intents_of (edits_of c.args.change.now) in
    let whole : c.in_ok-whole.whole ≡ change_of intents = c.in_ok-whole.ensures ∙ ap (λ (i : Intents). change_of i) c.in_ok-intents.ensures in
    same_counts (g.V.Vault.held c.args.vault.now).cells (edits_of c.in_ok-whole.whole) (edits_of c.args.change.now) c.in_ok-regained_part.field-0.counts
    (ap (λ (w : Change). intents_of (edits_of w)) whole ∙ change_back intents)
    (c.in_ok-regained_part.ensures.counts told)
