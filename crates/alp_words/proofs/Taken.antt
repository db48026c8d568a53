-- words that the command line takes for a drill or a storm give it its numbers
use Rattle.std.specs.Prelude.{◌==◌, ◌&&◌, ◌||◌, not, find, nat_lt, option_map, option_and_then, slice_get, is_some, unwrap_or, encode_utf8, IfSome, cond}
use Rattle.std.specs.List.{AllByRecursion, list_any, fold}
use Rattle.std.proofs.lemmas.Slice.Eq.{bytes_eq-Decides}
use Rattle.std.specs.Option.{option_map_or}
use Rattle.std.specs.Str.{bytes_eq, chars}
use Rattle.std.specs.Str.Parse.{digits_value, without_leading_plus}
use Rattle.std.proofs.Common.{◌≡◌, ◌⊎◌, ◌∙◌, ℕ, zero, suc, ◌-◌, ◌^◌, inl, inr, Bool, true, false, refl, sym, ap, subst, List, [], ◌∷◌, ◌++◌, length, drop, Option, Some, None, codes, true≢false, arith}
use Rattle.std.proofs.lemmas.Bool.{cond-false, ne_eqb, or_parts}
use Rattle.clap.specs.Kinds.{Kinds, or_else, range_kinds, values_kinds}
use Rattle.clap.specs.declared.error.kind.ErrorKind.TheVariants as kind
use Rattle.clap.specs.ValueTests.{accepts}
use Rattle.clap.specs.Facts.{explicit_source, parser_of_value}
use Rattle.clap.specs.declared.builder.value_parser.ValueParser.{ValueParser}
use Rattle.clap.specs.declared.builder.value_parser.ValueParser.TheVariants as vp
use Rattle.clap.specs.declared.builder.value_parser.Reading.{Reading}
use Rattle.clap.specs.declared.parser.matches.ValueSource.TheVariants.{CommandLine}
use Rattle.clap.specs.Lexer.{long_of, short_of}
use Rattle.clap.specs.Takes.{is_given}
use Rattle.clap.specs.Walk.{Held, Names, Outcome, Row, Rule, Step, Text, Waiting, Walk, done, waits, plain, refused, next, trailing, subcommand, value, idle, option, positional, answers_to, arg_by_id, arg_by_index, arg_by_long, arg_by_short, has_long, has_short, at_row, attached_value, with_values, more_values, without, has_row, used, used_by_id, settled, settled_rows, reacted, option_met, flag_met, long_met, short_met, bundle_step, bundle_met, takes_values, option_word, plain_word, after_flag, long_or_other, short_or_plain, word_met, subcommand_met, subcommand_or_other, after_step, walked_from, walked, walk, walk_from, nothing_held, finished, with_default, rows_after, stop_after, first_of, default_rows, to_positional, reading_by}
use Rattle.clap.specs.Faults.{fault_of, use_fault, repeat_fault, settle_fault, react_fault, option_fault, long_fault, short_fault, bundle_step_fault, flags_fault, flag_word_fault, word_fault, step_fault, turn_fault, walk_fault, defaults_fault, check_fault, level_fault, entered_fault}
use Rattle.clap.specs.Simple.{App, Shape, argument_words, built, entered, label_of, names_of, rows_at, subcommand_of, filled, with_index, help_rule}
use Rattle.alp_words.specs.Definition.{alpine, number, option as option_said}
use Rattle.alp_words.specs.Words.{are_any, number_in}

-- of two steps neither fails
either : (a b : Kinds) → are_any (or_else a b) ≡ false → (are_any a ≡ false) × (are_any b ≡ false)
either [] b e = (refl, e)
either (k ∷ ks) b e = absurd (true≢false e)

-- ---- the subcommands, as a parse finds them

abbrev whole : App
whole = built alpine

abbrev shape_at : Text → Shape
shape_at name = unwrap_or (find (λ s. answers_to name (label_of s)) whole.subs) whole.top

-- one of this name with these options
abbrev shaped : Text → List Rule → Shape
shaped name rules = record (shape_at (codes "drill")) { name = name; rules = rules }

-- ---- what the rows hold

-- a row of this name holds a number within the bounds
abbrev Holds : Text → ℕ → ℕ → Row → Type 0
Holds id least most r = is_some (number_in least most (slice_get r.values 0)) ≡ true

abbrev Good : Text → ℕ → ℕ → List Row → Type 0
Good id least most rows = IfSome (find (λ r. bytes_eq r.id id) rows) (Holds id least most)

last_by : (b : Bool) (row : Row) (Q : Row → Type 0) → (b ≡ true → Q row) → IfSome (cond b (Some row) None) Q
last_by true row Q new = new refl
last_by false row Q new = tt

first_by : (b : Bool) (row : Row) (rest more : Option Row) (Q : Row → Type 0) → (IfSome rest Q → IfSome more Q) → IfSome (cond b (Some row) rest) Q → IfSome (cond b (Some row) more) Q
first_by true row rest more Q there h = h
first_by false row rest more Q there h = there h

good_push : (id : Text) (least most : ℕ) (rows : List Row) (row : Row) → Good id least most rows → (bytes_eq row.id id ≡ true → Holds id least most row) → Good id least most (rows ++ row ∷ [])
good_push id least most [] row good new = last_by (bytes_eq row.id id) row (Holds id least most) new
good_push id least most (r ∷ rs) row good new =
    first_by (bytes_eq r.id id) r (find (λ q. bytes_eq q.id id) rs) (find (λ q. bytes_eq q.id id) (rs ++ row ∷ [])) (Holds id least most)
    (λ h. good_push id least most rs row h new) good

placed_none : (id : Text) (change : Row → List Row) (missing rows : List Row) → has_row id rows ≡ false → at_row id change missing rows ≡ rows ++ missing
placed_none id change missing [] e = refl
placed_none id change missing (r ∷ rs) e =
    let both = or_parts (bytes_eq r.id id) (has_row id rs) e in
    cond-false (bytes_eq r.id id) (change r ++ rs) (r ∷ at_row id change missing rs) both.0 ∙ ap (λ (l : List Row). r ∷ l) (placed_none id change missing rs both.1)

without_none : (id : Text) (rows : List Row) → has_row id rows ≡ false → without id rows ≡ rows
without_none id [] e = refl
without_none id (r ∷ rs) e =
    let both = or_parts (bytes_eq r.id id) (has_row id rs) e in
    cond-false (bytes_eq r.id id) rs (r ∷ without id rs) both.0 ∙ ap (λ (l : List Row). r ∷ l) (without_none id rs both.1)

abbrev new_row : Text → Reading → List Text → Row
new_row id how values = record { id = id; values = values; count = None; source = Some CommandLine; reading = how }

placed : (id : Text) (how : Reading) (values : List Text) (rows : List Row) → has_row id rows ≡ false
    → with_values id how CommandLine values (without id rows) ≡ rows ++ new_row id how values ∷ []
placed id how values rows none = ap (λ (l : List Row). with_values id how CommandLine values l) (without_none id rows none) ∙ placed_none id (more_values CommandLine values) (new_row id how values ∷ []) rows none

-- ---- one use of an option

-- it leaves a number of this name within the bounds, where there is one
abbrev Uses : Text → ℕ → ℕ → Rule → Type 0
Uses id least most a = (values : List Text) (rows : List Row) → are_any (use_fault false a values rows) ≡ false → Good id least most rows → Good id least most (used a values rows)

abbrev number_rule : Text → ℕ → ℕ → Rule
number_rule name least most = with_index 1 (filled (number name least most))

abbrev folder_rule : Rule
folder_rule = with_index 1 (filled (option_said (codes "folder")))

abbrev help : Rule
help = with_index 1 (filled help_rule)

-- an option takes one value
many : (n : ℕ) → are_any (range_kinds 1 1 (suc (suc n))) ≡ true
many n =
    let none : (suc (suc n) == 0) ≡ false = ne_eqb (suc (suc n)) 0 (λ e. omega (arith, e)) in
    let one : (1 == suc (suc n)) ≡ false = ne_eqb 1 (suc (suc n)) (λ e. omega (arith, e)) in
    λ i. are_any (cond (none i) (kind.InvalidValue ∷ []) (cond (one i) [] (kind.WrongNumberOfValues ∷ [])))

not_twice : (b : Bool) → are_any (cond (b && true) (kind.ArgumentConflict ∷ []) []) ≡ false → b ≡ false
not_twice true e = absurd (true≢false e)
not_twice false e = refl

passes : (b : Bool) (refusal : Kinds) → are_any (or_else (cond b [] refusal) []) ≡ false → are_any refusal ≡ true → b ≡ true
passes true refusal e any = refl
passes false [] e any = absurd (true≢false (sym any))
passes false (k ∷ ks) e any = absurd (true≢false e)

held : (least most : ℕ) (v : Text) → accepts false (vp.Unsigned least most) v ≡ true → is_some (number_in least most (Some v)) ≡ true
unfolding number_in
held least most v e = ap (λ (b : Bool). is_some (cond b (Some (digits_value 10 (without_leading_plus v))) None)) e

uses_same : (id : Text) (least most : ℕ) → Uses id least most (number_rule id least most)
uses_same id least most [] rows e good = absurd (true≢false e)
uses_same id least most (v ∷ []) rows e good =
    let both = either (repeat_fault false id rows) (values_kinds false (vp.Unsigned least most) (v ∷ [])) e in
    let none = not_twice (has_row id rows) both.0 in
    let fits = held least most v (passes (accepts false (vp.Unsigned least most) v) _ both.1 refl) in
    subst (Good id least most) (sym (placed id _ (v ∷ []) rows none)) (good_push id least most rows _ good (λ same. fits))
uses_same id least most (v ∷ w ∷ vs) rows e good = absurd (true≢false (sym (many (length vs)) ∙ (either (range_kinds 1 1 (suc (suc (length vs)))) _ e).0))

uses_other : (id : Text) (least most : ℕ) (name : Text) (low high : ℕ) → bytes_eq name id ≡ false → Uses id least most (number_rule name low high)
uses_other id least most name low high apart [] rows e good = absurd (true≢false e)
uses_other id least most name low high apart (v ∷ []) rows e good =
    let both = either (repeat_fault false name rows) (values_kinds false (vp.Unsigned low high) (v ∷ [])) e in
    let none = not_twice (has_row name rows) both.0 in
    subst (Good id least most) (sym (placed name _ (v ∷ []) rows none)) (good_push id least most rows _ good (λ same. absurd (true≢false (sym same ∙ apart))))
uses_other id least most name low high apart (v ∷ w ∷ vs) rows e good = absurd (true≢false (sym (many (length vs)) ∙ (either (range_kinds 1 1 (suc (suc (length vs)))) _ e).0))

uses_folder : (id : Text) (least most : ℕ) → bytes_eq (codes "folder") id ≡ false → Uses id least most folder_rule
uses_folder id least most apart [] rows e good = absurd (true≢false e)
uses_folder id least most apart (v ∷ []) rows e good =
    let both = either (repeat_fault false (codes "folder") rows) (values_kinds false vp.String (v ∷ [])) e in
    let none = not_twice (has_row (codes "folder") rows) both.0 in
    subst (Good id least most) (sym (placed (codes "folder") _ (v ∷ []) rows none)) (good_push id least most rows _ good (λ same. absurd (true≢false (sym same ∙ apart))))
uses_folder id least most apart (v ∷ w ∷ vs) rows e good = absurd (true≢false (sym (many (length vs)) ∙ (either (range_kinds 1 1 (suc (suc (length vs)))) _ e).0))

uses_help : (id : Text) (least most : ℕ) → Uses id least most help
uses_help id least most values rows e good = absurd (true≢false (either (range_kinds 0 0 (length values)) (kind.DisplayHelp ∷ []) e).1)

-- ---- the rows of options of which none is a positional or has a default

record ArePlain (rules : List Rule) : Type 0 where
  unplaced : (i : ℕ) → arg_by_index rules i ≡ None
  bare : AllByRecursion (λ (a : Rule). a.defaults ≡ []) rules

-- the option is given, where it has to be
abbrev IsGivenIf : List Row → Rule → Type 0
IsGivenIf rows a = a.required ≡ true → is_given a.id rows ≡ true

given_by : (required given : Bool) → (required && not given) ≡ false → required ≡ true → given ≡ true
given_by true true e is = refl
given_by true false e is = absurd (true≢false e)
given_by false given e is = absurd (true≢false (sym is))

given_all : (rows : List Row) (rules : List Rule) → list_any (λ (a : Rule). a.required && not (is_given a.id rows)) rules ≡ false → AllByRecursion (IsGivenIf rows) rules
given_all rows [] e = tt
given_all rows (a ∷ rules) e =
    let both = or_parts (a.required && not (is_given a.id rows)) (list_any (λ (b : Rule). b.required && not (is_given b.id rows)) rules) e in
    (given_by a.required (is_given a.id rows) both.0, given_all rows rules both.1)

lacks_none : (b : Bool) → are_any (cond b (kind.MissingRequiredArgument ∷ []) []) ≡ false → b ≡ false
lacks_none true e = absurd (true≢false e)
lacks_none false e = refl

module _ (name : Text) (rules : List Rule) (are_plain : ArePlain rules) (id : Text) (least most : ℕ) (all_use : AllByRecursion (Uses id least most) rules) where
  abbrev own : Shape
  own = shaped name rules

  abbrev IsGood : List Row → Type 0
  IsGood = Good id least most

  abbrev UsesIt : Rule → Type 0
  UsesIt = Uses id least most

  found_by : (b : Bool) (a : Rule) (rest : Option Rule) → UsesIt a → IfSome rest UsesIt → IfSome (cond b (Some a) rest) UsesIt
  found_by true a rest uses others = uses
  found_by false a rest uses others = others

  found_in : (p : Rule → Bool) (xs : List Rule) → AllByRecursion UsesIt xs → IfSome (find p xs) UsesIt
  found_in p [] all = tt
  found_in p (a ∷ xs) all = found_by (p a) a (find p xs) all.0 (found_in p xs all.1)

  -- ---- what waits for its value

  used_good : (o : Option Rule) (values : List Text) (rows : List Row) → IfSome o UsesIt → are_any (option_map_or (λ a. use_fault false a values rows) o []) ≡ false → IsGood rows
      → IsGood (used_by_id o values rows)
  used_good None values rows uses e good = good
  used_good (Some a) values rows uses e good = uses values rows e good

  settled_by : (pending : Option (Text × List Text)) (rows : List Row) → are_any (option_map_or (λ p. option_map_or (λ a. use_fault false a p.1 rows) (arg_by_id rules p.0) []) pending []) ≡ false
      → IsGood rows → IsGood (settled_rows rules pending rows)
  settled_by None rows e good = good
  settled_by (Some p) rows e good = used_good (arg_by_id rules p.0) p.1 rows (found_in (λ a. bytes_eq a.id p.0) rules all_use) e good

  settle_good : (h : Held) → are_any (settle_fault rules false h) ≡ false → IsGood h.rows → IsGood (settled rules h).rows
  settle_good h e good = settled_by h.pending h.rows e good

  react_good : (a : Rule) (values : List Text) (h : Held) → UsesIt a → are_any (react_fault rules false a values h) ≡ false → IsGood h.rows → IsGood (reacted rules a values h).rows
  react_good a values h uses e good =
      let both = either (settle_fault rules false h) (use_fault false a values (settled rules h).rows) e in
      uses values (settled rules h).rows both.1 (settle_good h both.0 good)

  option_good : (a : Rule) (v : Option Text) (h : Held) → UsesIt a → are_any (option_fault rules false a v h) ≡ false → IsGood h.rows → IsGood (option_met rules a v h).0.rows
  option_good a (Some v) h uses e good = react_good a (v ∷ []) h uses e good
  option_good a None h uses e good = settle_good h e good

  flag_good : (a : Rule) (v : Option Text) (h : Held) → UsesIt a → are_any (cond (is_some v) (kind.TooManyValues ∷ []) (react_fault rules false a [] h)) ≡ false → IsGood h.rows → IsGood (flag_met rules a v h).0.rows
  flag_good a (Some v) h uses e good = good
  flag_good a None h uses e good = react_good a [] h uses e good

  long_by : (b : Bool) (a : Rule) (v : Option Text) (h : Held) → UsesIt a
      → are_any (cond b (option_fault rules false a v h) (cond (is_some v) (kind.TooManyValues ∷ []) (react_fault rules false a [] h))) ≡ false
      → IsGood h.rows → IsGood (cond b (option_met rules a v h) (flag_met rules a v h)).0.rows
  long_by true a v h uses e good = option_good a v h uses e good
  long_by false a v h uses e good = flag_good a v h uses e good

  long_good : (o : Option Rule) (v : Option Text) (h : Held) → IfSome o UsesIt → are_any (long_fault rules false o v h) ≡ false → IsGood h.rows → IsGood (long_met rules o v h).0.rows
  long_good None v h uses e good = good
  long_good (Some a) v h uses e good = long_by (takes_values a) a v h uses e good

  -- ---- several short options in one word

  short_by : (b : Bool) (a : Rule) (rest : Text) (h : Held) (met : Held → Held × Outcome) (fault : Held → Kinds) → UsesIt a
      → ((q : Held) → are_any (fault q) ≡ false → IsGood q.rows → IsGood (met q).0.rows)
      → are_any (cond b (option_fault rules false a (attached_value rest) h) (or_else (react_fault rules false a [] h) (fault (reacted rules a [] h)))) ≡ false
      → IsGood h.rows → IsGood (cond b (option_met rules a (attached_value rest) h) (met (reacted rules a [] h))).0.rows
  short_by true a rest h met fault uses more e good = option_good a (attached_value rest) h uses e good
  short_by false a rest h met fault uses more e good =
      let both = either (react_fault rules false a [] h) (fault (reacted rules a [] h)) e in
      more (reacted rules a [] h) both.1 (react_good a [] h uses both.0 good)

  short_good : (o : Option Rule) (rest : Text) (h : Held) (met : Held → Held × Outcome) (fault : Held → Kinds) → IfSome o UsesIt
      → ((q : Held) → are_any (fault q) ≡ false → IsGood q.rows → IsGood (met q).0.rows)
      → are_any (short_fault rules false o rest h fault) ≡ false → IsGood h.rows → IsGood (short_met rules o rest h met).0.rows
  short_good None rest h met fault uses more e good = good
  short_good (Some a) rest h met fault uses more e good = short_by (takes_values a) a rest h met fault uses more e good

  step_good : (x : Option ℕ) (flags : Text) (skip : ℕ) (so_far : Outcome) (h : Held) (met : Text → ℕ → Outcome → Held → Held × Outcome) (fault : Text → ℕ → Held → Kinds)
      → ((f : Text) (s : ℕ) (o : Outcome) (q : Held) → are_any (fault f s q) ≡ false → IsGood q.rows → IsGood (met f s o q).0.rows)
      → are_any (bundle_step_fault rules false x flags skip h fault) ≡ false → IsGood h.rows → IsGood (bundle_step rules x flags skip so_far h met).0.rows
  step_good None flags skip so_far h met fault more e good = good
  step_good (Some x) flags zero so_far h met fault more e good =
      let rest = drop (length (encode_utf8 x)) flags in
      short_good (arg_by_short rules x) rest h (met rest 0 done) (fault rest 0) (found_in (λ a. not (is_some a.index) && has_short a x) rules all_use) (more rest 0 done) e good
  step_good (Some x) flags (suc skip) so_far h met fault more e good = more (drop (length (encode_utf8 x)) flags) skip so_far h e good

  bundle_good : (k : ℕ) (flags : Text) (skip : ℕ) (so_far : Outcome) (h : Held) → are_any (flags_fault rules false k flags skip h) ≡ false → IsGood h.rows
      → IsGood (bundle_met rules k flags skip so_far h).0.rows
  unfolding flags_fault bundle_met
  bundle_good zero flags skip so_far h e good = good
  bundle_good (suc k) flags skip so_far h e good =
      step_good (slice_get (chars flags) 0) flags skip so_far h (bundle_met rules k) (flags_fault rules false k) (bundle_good k) e good

  -- ---- one word

  option_word_good : (o : Option Rule) (id word : Text) (h : Held) → IsGood h.rows → IsGood (option_word o id word h).0.rows
  option_word_good None id word h good = good
  option_word_good (Some a) id word h good = good

  plain_good : (waiting : Waiting) (word : Text) (h : Held) → IsGood h.rows → IsGood (plain_word rules waiting word h).0.rows
  plain_good (option id) word h good = option_word_good (arg_by_id rules id) id word h good
  plain_good idle word h good = good
  plain_good positional word h good = good

  after_good : (waiting : Waiting) (word : Text) (h : Held) (outcome : Outcome) → IsGood h.rows → IsGood (after_flag rules waiting word h outcome).0.rows
  after_good waiting word h done good = good
  after_good waiting word h (waits id) good = good
  after_good waiting word h plain good = plain_good waiting word h good
  after_good waiting word h refused good = plain_good waiting word h good

  short_word_good : (flags : Option Text) (waiting : Waiting) (word : Text) (h : Held) → are_any (option_map_or (λ fs. flags_fault rules false (length fs) fs h.skip (record h { skip = 0 })) flags []) ≡ false
      → IsGood h.rows → IsGood (short_or_plain rules waiting word flags h).0.rows
  short_word_good None waiting word h e good = plain_good waiting word h good
  short_word_good (Some fs) waiting word h e good =
      let met = bundle_met rules (length fs) fs h.skip plain (record h { skip = 0 }) in
      after_good waiting word met.0 met.1 (bundle_good (length fs) fs h.skip plain (record h { skip = 0 }) e good)

  flag_word_good : (long : Option (Text × Option Text)) (waiting : Waiting) (word : Text) (h : Held) → are_any (flag_word_fault rules false long word h) ≡ false
      → IsGood h.rows → IsGood (long_or_other rules waiting word long h).0.rows
  flag_word_good (Some p) waiting word h e good =
      let met = long_met rules (arg_by_long rules p.0) p.1 h in
      after_good waiting word met.0 met.1 (long_good (arg_by_long rules p.0) p.1 h (found_in (λ a. not (is_some a.index) && has_long a p.0) rules all_use) e good)
  flag_word_good None waiting word h e good = short_word_good (short_of word) waiting word h e good

  dashes_good : (b : Bool) (waiting : Waiting) (position : ℕ) (word : Text) (h : Held) → are_any (cond b [] (flag_word_fault rules false (long_of word) word h)) ≡ false
      → IsGood h.rows → IsGood (cond b (h, trailing position) (long_or_other rules waiting word (long_of word) h)).0.rows
  dashes_good true waiting position word h e good = good
  dashes_good false waiting position word h e good = flag_word_good (long_of word) waiting word h e good

  word_good : (is_trailing : Bool) (waiting : Waiting) (position : ℕ) (word : Text) (h : Held) → are_any (word_fault own [] is_trailing waiting word h) ≡ false
      → IsGood h.rows → IsGood (word_met rules [] is_trailing waiting position word h).0.rows
  word_good true waiting position word h e good = good
  word_good false idle position word h e good = dashes_good (bytes_eq word (45 ∷ 45 ∷ [])) idle position word h e good
  word_good false (option id) position word h e good = dashes_good (bytes_eq word (45 ∷ 45 ∷ [])) (option id) position word h e good
  word_good false positional position word h e good = dashes_good (bytes_eq word (45 ∷ 45 ∷ [])) positional position word h e good

  after_step_good : (word : Text) (w : Walk) (h : Held) (step : Step) → IsGood h.rows → IsGood (after_step rules word w h step).held.rows
  after_step_good word w h (next waiting) good = good
  after_step_good word w h (trailing position) good = good
  after_step_good word w h (subcommand name) good = good
  after_step_good word w h value good = subst (λ (o : Option Rule). IsGood (to_positional rules o word w h).held.rows) (sym (are_plain.unplaced w.position)) good

  turn_by : (stopped : Option (Text × List Text)) (w : Walk) (word : Text)
      → are_any (cond (is_some stopped) [] (or_else (word_fault own [] w.is_trailing w.waiting word w.held)
      (step_fault own w.position (word_met rules [] w.is_trailing w.waiting w.position word w.held).0 (word_met rules [] w.is_trailing w.waiting w.position word w.held).1))) ≡ false
      → IsGood w.held.rows → IsGood (walked_from rules [] stopped w word).held.rows
  turn_by (Some p) w word e good = good
  turn_by None w word e good =
      let met = word_met rules [] w.is_trailing w.waiting w.position word w.held in
      after_step_good word w met.0 met.1
      (word_good w.is_trailing w.waiting w.position word w.held (either (word_fault own [] w.is_trailing w.waiting word w.held) (step_fault own w.position met.0 met.1) e).0 good)

  walk_good : (words : List Text) (w : Walk) → are_any (walk_fault own [] w words) ≡ false → IsGood w.held.rows → IsGood (fold (walked rules []) w words).held.rows
  unfolding walk_fault walked
  walk_good [] w e good = good
  walk_good (word ∷ rest) w e good =
      let both = either (turn_fault own [] w word) (walk_fault own [] (walked rules [] w word) rest) e in
      walk_good rest (walked rules [] w word) both.1 (turn_by w.stopped w word both.0 good)

  -- ---- at the end

  default_by : (b : Bool) (n : Text) (how : Reading) (ds : List Text) (rows : List Row) → ds ≡ [] → IsGood rows → IsGood (cond b rows (default_rows n how ds rows))
  default_by true n how ds rows none good = good
  default_by false n how ds rows none good = subst (λ (d : List Text). IsGood (default_rows n how d rows)) (sym none) good

  finish_good : (xs : List Rule) (rows : List Row) → AllByRecursion (λ (a : Rule). a.defaults ≡ []) xs → IsGood rows → IsGood (fold with_default rows xs)
  finish_good [] rows bare good = good
  finish_good (a ∷ xs) rows bare good = finish_good xs (with_default rows a) bare.1 (default_by (has_row a.id rows) a.id (reading_by a) a.defaults rows bare.0 good)

  level_has : (words : List Text) → are_any (level_fault own [] nothing_held words false []) ≡ false
      → IsGood (rows_after rules [] words) × AllByRecursion (IsGivenIf (rows_after rules [] words)) rules
  level_has words e =
      let end = (walk rules [] nothing_held words).held in
      let rows = finished rules end in
      let walked_well = either (walk_fault own [] (walk_from nothing_held) words) _ e in
      let settled_well = either (settle_fault rules false end) _ walked_well.1 in
      let checked = either (defaults_fault (settled rules end).rows rules) (check_fault own rows false) settled_well.1 in (
        finish_good rules (settled rules end).rows are_plain.bare (settle_good end settled_well.0 (walk_good words (walk_from nothing_held) walked_well.0 tt)),
        given_all rows rules (lacks_none (list_any (λ (a : Rule). a.required && not (is_given a.id rows)) rules) checked.1),
      )

-- a number of this name is there
abbrev Has : Text → ℕ → ℕ → List Row → Type 0
Has id least most rows = is_some (number_in least most (first_of id rows)) ≡ true

has_by : (id : Text) (least most : ℕ) (o : Option Row) → IfSome o (Holds id least most) → option_map_or (λ r. explicit_source r.source) o false ≡ true
    → is_some (number_in least most (option_and_then (λ (r : Row). slice_get r.values 0) o)) ≡ true
has_by id least most None holds given = absurd (true≢false (sym given))
has_by id least most (Some r) holds given = holds

has_of : (id : Text) (least most : ℕ) (rows : List Row) → Good id least most rows → is_given id rows ≡ true → Has id least most rows
has_of id least most rows good given = has_by id least most (find (λ r. bytes_eq r.id id) rows) good given

-- ---- the command that is entered

module _ (wanted : Text) (mine : Shape) (Q : List Row → Type 0) (level : (words : List Text) → are_any (level_fault mine [] nothing_held words false []) ≡ false → Q (rows_after mine.rules [] words)) where
  -- a subcommand of another name, or this one
  abbrev IsKnown : Shape → Type 0
  IsKnown s = (bytes_eq s.name wanted ≡ false) ⊎ (s ≡ mine)

  other_name : (name : Text) (rows : List Row) (p : Text × List Row) → bytes_eq name wanted ≡ false → Some (name, rows) ≡ Some p → p.0 ≡ wanted → Q p.1
  other_name name rows p other same named =
      let is : bytes_eq name wanted ≡ bytes_eq p.0 wanted = ap (λ (o : Option (Text × List Row)). option_map_or (λ (x : Text × List Row). bytes_eq x.0 wanted) o false) same in
      absurd (true≢false (sym ((bytes_eq-Decides p.0 wanted).1 named) ∙ sym is ∙ other))

  picked : (words : List Text) (p : Text × List Row) (s : Shape) (b : Bool) (rest : Option Shape) → IsKnown s
      → (are_any (option_map_or (λ (x : Shape). level_fault x [] nothing_held words false []) rest []) ≡ false → option_map (λ (x : Shape). rows_at x words) rest ≡ Some p → Q p.1)
      → are_any (option_map_or (λ (x : Shape). level_fault x [] nothing_held words false []) (cond b (Some s) rest) []) ≡ false
      → option_map (λ (x : Shape). rows_at x words) (cond b (Some s) rest) ≡ Some p → p.0 ≡ wanted → Q p.1
  picked words p s true rest (inl other) more taken same named = other_name s.name (rows_after s.rules [] words) p other same named
  picked words p s true rest (inr is) more taken same named =
      let here = level words (subst (λ (x : Shape). are_any (level_fault x [] nothing_held words false []) ≡ false) is taken) in
      subst Q (ap (λ (o : Option (Text × List Row)). option_map_or (λ (x : Text × List Row). x.1) o []) same) (subst (λ (x : Shape). Q (rows_after x.rules [] words)) (sym is) here)
  picked words p s false rest known more taken same named = more taken same

  picked_in : (words : List Text) (p : Text × List Row) (test : Shape → Bool) (subs : List Shape) → AllByRecursion IsKnown subs
      → are_any (option_map_or (λ (x : Shape). level_fault x [] nothing_held words false []) (find test subs) []) ≡ false
      → option_map (λ (x : Shape). rows_at x words) (find test subs) ≡ Some p → p.0 ≡ wanted → Q p.1
  picked_in words p test [] all taken same named = absurd (true≢false (sym (ap is_some same)))
  picked_in words p test (s ∷ subs) all taken same named =
      picked words p s (test s) (find test subs) all.0 (λ t e. picked_in words p test subs all.1 t e named) taken same named

  entered_has : AllByRecursion IsKnown whole.subs → (stop : Option (Text × List Text)) (p : Text × List Row) → are_any (entered_fault whole stop) ≡ false → entered whole stop ≡ Some p → p.0 ≡ wanted → Q p.1
  entered_has all None p taken same named = absurd (true≢false (sym (ap is_some same)))
  entered_has all (Some q) p taken same named = picked_in q.1 p (λ s. answers_to q.0 (label_of s)) whole.subs all taken same named

  taken_has : AllByRecursion IsKnown whole.subs → (all : List Text) (p : Text × List Row) → are_any (fault_of alpine all) ≡ false → subcommand_of alpine all ≡ Some p → p.0 ≡ wanted → Q p.1
  taken_has known all p taken same named =
      let words = argument_words alpine all in
      let stop = stop_after whole.top.rules (names_of whole) words in
      let below = either (walk_fault whole.top (names_of whole) (walk_from nothing_held) words) _ taken in
      entered_has known stop p (either (entered_fault whole stop) _ below.1).0 same named

-- ---- a drill

abbrev drill_rules : List Rule
drill_rules = number_rule (codes "seed") 0 18446744073709551615 ∷ number_rule (codes "size") 1 5000 ∷ folder_rule ∷ help ∷ []

drill_plain : ArePlain drill_rules
drill_plain = record { unplaced = λ i. refl; bare = (refl, (refl, (refl, (refl, tt)))) }

pub record DrillHas (rows : List Row) : Type 0 where
  pub seed : Has (codes "seed") 0 18446744073709551615 rows
  pub size : Has (codes "size") 1 5000 rows

drill_level : (words : List Text) → are_any (level_fault (shaped (codes "drill") drill_rules) [] nothing_held words false []) ≡ false → DrillHas (rows_after drill_rules [] words)
drill_level words taken =
    let rows = rows_after drill_rules [] words in
    let seed = level_has (codes "drill") drill_rules drill_plain (codes "seed") 0 18446744073709551615 (
      uses_same (codes "seed") 0 18446744073709551615,
      (
        uses_other (codes "seed") 0 18446744073709551615 (codes "size") 1 5000 refl,
        (uses_folder (codes "seed") 0 18446744073709551615 refl, (uses_help (codes "seed") 0 18446744073709551615, tt)),
      ),
    ) words taken in
    let size = level_has (codes "drill") drill_rules drill_plain (codes "size") 1 5000 (
      uses_other (codes "size") 1 5000 (codes "seed") 0 18446744073709551615 refl,
      (uses_same (codes "size") 1 5000, (uses_folder (codes "size") 1 5000 refl, (uses_help (codes "size") 1 5000, tt))),
    ) words taken in
    record {
      seed = has_of (codes "seed") 0 18446744073709551615 rows seed.0 (seed.1.0 refl);
      size = has_of (codes "size") 1 5000 rows size.0 (size.1.1.0 refl);
    }

-- words that are taken for a drill have both its numbers
pub drill_has : (all : List Text) (p : Text × List Row) → are_any (fault_of alpine all) ≡ false → subcommand_of alpine all ≡ Some p → p.0 ≡ codes "drill" → DrillHas p.1
drill_has all p taken same named =
    taken_has (codes "drill") (shaped (codes "drill") drill_rules) DrillHas drill_level (inl refl, (inr refl, (inl refl, (inl refl, tt)))) all p taken same named

-- ---- a storm

abbrev storm_rules : List Rule
storm_rules =
    number_rule (codes "servers") 1 8 ∷ number_rule (codes "clients") 1 15 ∷ number_rule (codes "size") 1 200
    ∷ number_rule (codes "seed") 0 18446744073709551615 ∷ number_rule (codes "patience") 1 1000 ∷ folder_rule ∷ help ∷ []

storm_plain : ArePlain storm_rules
storm_plain = record { unplaced = λ i. refl; bare = (refl, (refl, (refl, (refl, (refl, (refl, (refl, tt))))))) }

pub record StormHas (rows : List Row) : Type 0 where
  pub servers : Has (codes "servers") 1 8 rows
  pub clients : Has (codes "clients") 1 15 rows
  pub size : Has (codes "size") 1 200 rows
  pub seed : Has (codes "seed") 0 18446744073709551615 rows
  pub patience : Has (codes "patience") 1 1000 rows

-- an option is of this number or of another name
abbrev IsApart : Text → ℕ → ℕ → Text → ℕ → ℕ → Type 0
IsApart id least most name low high = (bytes_eq name id ≡ false) ⊎ ((name ≡ id) × (low ≡ least) × (high ≡ most))

uses_by : (id : Text) (least most : ℕ) (name : Text) (low high : ℕ) → IsApart id least most name low high → Uses id least most (number_rule name low high)
uses_by id least most name low high (inl apart) = uses_other id least most name low high apart
uses_by id least most name low high (inr same) = subst (Uses id least most) (λ i. number_rule (sym same.0 i) (sym same.1 i) (sym same.2 i)) (uses_same id least most)

-- what a storm takes for this number, if each of its options is this one or has another name
storm_good : (id : Text) (least most : ℕ) → IsApart id least most (codes "servers") 1 8 → IsApart id least most (codes "clients") 1 15 → IsApart id least most (codes "size") 1 200
    → IsApart id least most (codes "seed") 0 18446744073709551615 → IsApart id least most (codes "patience") 1 1000 → bytes_eq (codes "folder") id ≡ false
    → (words : List Text) → are_any (level_fault (shaped (codes "storm") storm_rules) [] nothing_held words false []) ≡ false
    → Good id least most (rows_after storm_rules [] words) × AllByRecursion (IsGivenIf (rows_after storm_rules [] words)) storm_rules
storm_good id least most servers clients size seed patience folder words taken =
    level_has (codes "storm") storm_rules storm_plain id least most (
      uses_by id least most (codes "servers") 1 8 servers,
      (
        uses_by id least most (codes "clients") 1 15 clients,
        (
          uses_by id least most (codes "size") 1 200 size,
          (
            uses_by id least most (codes "seed") 0 18446744073709551615 seed,
            (uses_by id least most (codes "patience") 1 1000 patience, (uses_folder id least most folder, (uses_help id least most, tt))),
          ),
        ),
      ),
    ) words taken

storm_level : (words : List Text) → are_any (level_fault (shaped (codes "storm") storm_rules) [] nothing_held words false []) ≡ false → StormHas (rows_after storm_rules [] words)
storm_level words taken =
    let rows = rows_after storm_rules [] words in
    let servers = storm_good (codes "servers") 1 8 (inr (refl, refl, refl)) (inl refl) (inl refl) (inl refl) (inl refl) refl words taken in
    let clients = storm_good (codes "clients") 1 15 (inl refl) (inr (refl, refl, refl)) (inl refl) (inl refl) (inl refl) refl words taken in
    let size = storm_good (codes "size") 1 200 (inl refl) (inl refl) (inr (refl, refl, refl)) (inl refl) (inl refl) refl words taken in
    let seed = storm_good (codes "seed") 0 18446744073709551615 (inl refl) (inl refl) (inl refl) (inr (refl, refl, refl)) (inl refl) refl words taken in
    let patience = storm_good (codes "patience") 1 1000 (inl refl) (inl refl) (inl refl) (inl refl) (inr (refl, refl, refl)) refl words taken in
    record {
      servers = has_of (codes "servers") 1 8 rows servers.0 (servers.1.0 refl);
      clients = has_of (codes "clients") 1 15 rows clients.0 (clients.1.1.0 refl);
      size = has_of (codes "size") 1 200 rows size.0 (size.1.1.1.0 refl);
      seed = has_of (codes "seed") 0 18446744073709551615 rows seed.0 (seed.1.1.1.1.0 refl);
      patience = has_of (codes "patience") 1 1000 rows patience.0 (patience.1.1.1.1.1.0 refl);
    }

-- words that are taken for a storm have its five numbers
pub storm_has : (all : List Text) (p : Text × List Row) → are_any (fault_of alpine all) ≡ false → subcommand_of alpine all ≡ Some p → p.0 ≡ codes "storm" → StormHas p.1
storm_has all p taken same named =
    taken_has (codes "storm") (shaped (codes "storm") storm_rules) StormHas storm_level (inl refl, (inl refl, (inr refl, (inl refl, tt)))) all p taken same named
