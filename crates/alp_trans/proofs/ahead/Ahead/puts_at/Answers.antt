use Rattle.std.specs.Prelude.{Bool, true, false, not, ◌&&◌, Option, None, Some, is_some}
use Rattle.std.specs.FinMap as map
use Rattle.std.proofs.Common.{◌≡◌, Bor, option_copied, ap, sym, ◌∙◌}
use Rattle.alp_files.specs.Needs.{Intents}
use Rattle.alp_trans.proofs.AheadLemmas.{taken_there}
use Rattle.alp_trans.proofs.ahead.Ahead.puts_at.Goals as goal

there : {X : Type 0} (o : Option (Bor X)) (p : Option X) (b : Bool) → b ≡ is_some o → option_copied o ≡ p → b ≡ is_some p
there None p b e h = e ∙ ap is_some h
there (Some x) p b e h = e ∙ ap is_some h

pub returns-then-not-takes : goal.returns-then-not-takes
returns-then-not-takes c =
    there c.get.result (map.get c.self.inside.puts.now c.args.key.now) c.is_some.result c.is_some.ensures c.get.ensures
    ∙ ap (λ (b : Bool). not b && map.contains_key c.self.inside.puts.now c.args.key.now) c.if-not-takes.ensures
    ∙ sym (taken_there c.self.inside.intents.now c.self.inside.puts.now c.self.inside.gone c.args.key.now)
    ∙ ap (λ (i : Intents). map.contains_key i.puts c.args.key.now) c.self.view_is

pub returns-else-not-takes : goal.returns-else-not-takes
returns-else-not-takes c =
    ap not c.if-not-takes.false
    ∙ ap (λ (b : Bool). not b && map.contains_key c.self.inside.puts.now c.args.key.now) c.if-not-takes.ensures
    ∙ sym (taken_there c.self.inside.intents.now c.self.inside.puts.now c.self.inside.gone c.args.key.now)
    ∙ ap (λ (i : Intents). map.contains_key i.puts c.args.key.now) c.self.view_is
