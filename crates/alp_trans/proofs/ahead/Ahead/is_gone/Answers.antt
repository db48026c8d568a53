use Rattle.std.specs.Prelude.{Bool, true, false, ◌||◌}
use Rattle.std.proofs.Common.{◌≡◌, ap, sym, ◌∙◌}
use Rattle.alp_files.specs.Needs.{Intents, is_gone}
use Rattle.alp_trans.proofs.AheadLemmas.{taken_gone}
use Rattle.alp_trans.proofs.ahead.Ahead.is_gone.Goals as goal

pub returns-then-takes : goal.returns-then-takes
returns-then-takes c =
    c.if-takes.true ∙ ap (λ (b : Bool). b || is_gone c.self.inside.intents.now c.args.key.now) c.if-takes.ensures
    ∙ sym (taken_gone c.self.inside.intents.now c.self.inside.puts.now c.self.inside.gone c.args.key.now)
    ∙ ap (λ (i : Intents). is_gone i c.args.key.now) c.self.view_is

pub returns-else-takes : goal.returns-else-takes
returns-else-takes c =
    c.is_gone.ensures ∙ ap (λ (b : Bool). b || is_gone c.self.inside.intents.now c.args.key.now) c.if-takes.ensures
    ∙ sym (taken_gone c.self.inside.intents.now c.self.inside.puts.now c.self.inside.gone c.args.key.now)
    ∙ ap (λ (i : Intents). is_gone i c.args.key.now) c.self.view_is
