-- the numbers that texts say
use Rattle.std.specs.Prelude.{Bool, Option, None, Some, Result, Ok, Err, cond, unwrap_or}
use Rattle.std.specs.Str.Parse.{IsNumeral, ParsesUnsigned, digits_value, without_leading_plus}
use Rattle.std.proofs.Common.{◌≡◌, ◌∙◌, ℕ, ◌<◌, ◌≤◌, ◌^◌, List, true, false, refl, sym, ap, arith}
use Rattle.std.proofs.lemmas.Bool.{cond-true, cond-false, false_from_ne_true}
use Rattle.std.proofs.lemmas.Result.{OkIff-at_ok, OkIff-at_err}
use Rattle.clap.specs.ValueTests.{is_unsigned_in}
use Rattle.clap.specs.declared.builder.value_parser.ValueParser.TheVariants as vp
use Rattle.clap.proofs.ValueTestLemmas.{accepts-Accepts, Accepts-accepts}
use Rattle.alp_words.specs.Words.{number_in}

-- what a text says, whatever its bounds
abbrev said_by : List ℕ → ℕ
said_by text = digits_value 10 (without_leading_plus text)

abbrev IsSaid : List ℕ → Type 0
IsSaid text = IsNumeral 10 (without_leading_plus text) × (said_by text < 2 ^ 64)

refused : (least most : ℕ) (text : List ℕ) → (is_unsigned_in least most text ≡ true → ⊥) → None ≡ number_in least most (Some text)
unfolding number_in
refused least most text bad = sym (cond-false (is_unsigned_in least most text) (Some (said_by text)) None (false_from_ne_true (is_unsigned_in least most text) bad))

pub not_a_number : {E : Type 0} (least most : ℕ) (text : List ℕ) (r : Result ℕ E) (e : E) → ParsesUnsigned 64 10 text r → r ≡ Err e → None ≡ number_in least most (Some text)
not_a_number least most text r e parses is =
    refused least most text (λ yes. let a = accepts-Accepts false (vp.Unsigned least most) text yes in OkIff-at_err r (IsSaid text) (said_by text) e parses is (a.0, a.1))

pub too_small : {E : Type 0} (least most : ℕ) (text : List ℕ) (r : Result ℕ E) (n : ℕ) → ParsesUnsigned 64 10 text r → r ≡ Ok n → n < least → None ≡ number_in least most (Some text)
too_small least most text r n parses is low =
    let read = OkIff-at_ok r (IsSaid text) (said_by text) n parses is in
    refused least most text (λ yes. let a = accepts-Accepts false (vp.Unsigned least most) text yes in omega (arith, read.1, a.2, low))

pub too_great : {E : Type 0} (least most : ℕ) (text : List ℕ) (r : Result ℕ E) (n : ℕ) → ParsesUnsigned 64 10 text r → r ≡ Ok n → most < n → None ≡ number_in least most (Some text)
too_great least most text r n parses is high =
    let read = OkIff-at_ok r (IsSaid text) (said_by text) n parses is in
    refused least most text (λ yes. let a = accepts-Accepts false (vp.Unsigned least most) text yes in omega (arith, read.1, a.3, high))

pub within : {E : Type 0} (least most : ℕ) (text : List ℕ) (r : Result ℕ E) (n : ℕ) → ParsesUnsigned 64 10 text r → r ≡ Ok n → least ≤ n → n ≤ most → Some n ≡ number_in least most (Some text)
unfolding number_in
within least most text r n parses is low high =
    let read = OkIff-at_ok r (IsSaid text) (said_by text) n parses is in
    let fits = Accepts-accepts false (vp.Unsigned least most) text (read.0.0, read.0.1, omega (arith, read.1, low), omega (arith, read.1, high)) in
    sym (cond-true (is_unsigned_in least most text) (Some (said_by text)) None fits ∙ ap Some (sym read.1))

cut : (b : Bool) (x n : ℕ) → cond b (Some x) None ≡ Some n → (b ≡ true) × (x ≡ n)
cut true x n e = (refl, ap (λ (o : Option ℕ). unwrap_or o x) e)
cut false x n e = cc

-- a number is within its bounds
pub bounds_of : (least most : ℕ) (text : Option (List ℕ)) (n : ℕ) → number_in least most text ≡ Some n → (least ≤ n) × (n ≤ most)
unfolding number_in
bounds_of least most None n e = cc
bounds_of least most (Some text) n e =
    let both = cut (is_unsigned_in least most text) (said_by text) n e in
    let a = accepts-Accepts false (vp.Unsigned least most) text both.0 in
    (omega (arith, both.1, a.2), omega (arith, both.1, a.3))
