use Rattle.std.proofs.Common.{◌≡◌, ◌∙◌, Some, ap}
use Rattle.clap.specs.declared.builder.value_parser.ValueParser.TheVariants.{Unsigned}
use Rattle.alp_words.proofs.Options.{rule_made, own_made}
use Rattle.alp_words.proofs.definition.number.Goals as goal

pub returns-clause-rule : goal.returns-clause-rule
returns-clause-rule c =
    let given = c.value_parser.ensures.given in
    let parser : c.value_parser.result.value_parser ≡ Some (Unsigned c.args.least c.args.most) = given.1 ∙ ap Some (given.2 ∙ c.unsigned.ensures) in
    rule_made c.option.result c.required.result c.value_parser.result _ c.args.least c.args.most c.required.ensures c.value_parser.ensures.others parser c.option.ensures.rule

pub returns-clause-own : goal.returns-clause-own
returns-clause-own c = own_made c.option.result c.required.result c.value_parser.result c.required.ensures c.value_parser.ensures.others c.option.ensures.own
