use Rattle.std.proofs.Common.{◌==◌, not, rules}
use Rattle.std.proofs.lemmas.Fn.{filter_same}
use Rattle.alp_files.specs.declared.open.Open.{Open}
use Rattle.alp_calls.proofs.opens.close.Goals as goal

pub returns : goal.returns
returns c = filter_same _ (λ (o : Open). not (o.number == c.args.number)) _ (λ x b f' k. search rules) _ _ c.retain.ensures.filtered
