use Rattle.std.specs.FinMap as map
use Rattle.std.proofs.Common.{ap, sym, ◌∙◌}
use Rattle.alp_files.specs.Needs.{Intents, first_gone}
use Rattle.alp_trans.specs.Parts.{least_of}
use Rattle.alp_trans.proofs.AheadLemmas.{first_after}
use Rattle.alp_trans.proofs.ahead.Ahead.first_gone.Goals as goal

pub returns : goal.returns
returns c =
    c.least.ensures ∙ (λ j. least_of (c.first_taken.ensures j) (c.first_gone.ensures j))
    ∙ sym (first_after c.self.inside.intents.now c.self.inside.puts.now c.self.inside.gone c.args.file.now)
    ∙ ap (λ (i : Intents). first_gone i c.args.file.now) c.self.view_is
