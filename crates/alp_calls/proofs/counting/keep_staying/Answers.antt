use Rattle.std.specs.Prelude.{Some}
use Rattle.std.proofs.Common.{not, rules}
use Rattle.std.proofs.lemmas.Fn.{filter_same}
use Rattle.alp_base.specs.declared.key.Key.{Key}
use Rattle.alp_base.specs.declared.cell.Cell.{Cell}
use Rattle.alp_trans.specs.Parts.{takes}
use Rattle.alp_calls.proofs.counting.keep_staying.Goals as goal

pub returns : goal.returns
returns c = filter_same _ (λ (e : Key × Cell). not (takes (Some c.args.gone) e.0)) _ (λ x b f' k. search rules) _ _ c.retain.ensures.filtered
