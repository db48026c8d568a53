-- an option that has to be given, with a number, by the steps that make it
use Rattle.std.specs.Prelude.{Some}
use Rattle.std.proofs.Common.{◌≡◌, ◌∙◌, ℕ, List, false, true, ap}
use Rattle.clap.specs.Walk.{Rule, rule_of}
use Rattle.clap.specs.declared.builder.arg.Arg.{Arg}
use Rattle.clap.specs.declared.builder.value_parser.ValueParser.TheVariants.{Unsigned}
use Rattle.alp_words.specs.Definition.{option, number}

pub rule_made : (base needed made : Arg) (name : List ℕ) (least most : ℕ) → needed ≡ record base { required = true } → made ≡ record needed { value_parser = made.value_parser }
    → made.value_parser ≡ Some (Unsigned least most) → rule_of base ≡ option name → rule_of made ≡ number name least most
rule_made base needed made name least most is_needed others parser rule =
    ap rule_of others
    ∙ (λ i. rule_of (record (is_needed i) { value_parser = parser i }))
    ∙ ap (λ (r : Rule). record r { required = true; parser = Some (Unsigned least most) }) rule

pub own_made : (base needed made : Arg) → needed ≡ record base { required = true } → made ≡ record needed { value_parser = made.value_parser } → base.global ≡ false → made.global ≡ false
own_made base needed made is_needed others own =
    ap (λ (a : Arg). a.global) others ∙ (λ i. let a : Arg = record (is_needed i) { value_parser = made.value_parser } in a.global) ∙ own
