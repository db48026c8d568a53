-- Words that the command line takes begin with the name of a command of its own.
use Rattle.std.proofs.Common.{◌≡◌, ◌∙◌, ◌==◌, ℕ, zero, suc, Bool, true, false, refl, sym, ap, subst, inl, inr, List, [], ◌∷◌, length, Option, Some, None, option_map, codes, true≢false}
use Rattle.std.specs.Option.{option_map_or}
use Rattle.std.specs.Prelude.{slice_get}
use Rattle.std.specs.Str.{bytes_eq, chars}
use Rattle.clap.specs.Kinds.{Kinds, or_else}
use Rattle.clap.specs.Faults.{fault_of, walk_fault, turn_fault, other_fault, step_fault, flag_word_fault, long_fault, flags_fault, bundle_fault, bundle_step_fault, short_fault, defaults_fault}
use Rattle.clap.specs.Lexer.{long_of, short_of}
use Rattle.clap.specs.Simple.{App, Shape, built, entered, names_of, subcommand_of}
use Rattle.std.proofs.lemmas.Slice.Eq.{bytes_eq-Decides}
use Rattle.clap.specs.Walk.{Held, Names, Row, Step, Text, Walk, after_flag, idle, plain, arg_by_long, arg_by_short, bundle_met, bundle_step, long_or_other, nothing_held, subcommand_met, subcommand_or_other, short_or_plain, stop_after, walk_from, walked}
use Rattle.clap.proofs.WalkLemmas.{walk_stopped}
use Rattle.alp_words.specs.Definition.{alpine}
use Rattle.alp_words.specs.Words.{are_any, IsOurs}

-- the command line as a parse finds it: with help of its own
abbrev app : App
app = built alpine

abbrev top : Shape
top = app.top

abbrev names : Names
names = names_of app

abbrev start : Walk
start = walk_from nothing_held

-- where the first of two steps fails, both do
first_fails : (a b : Kinds) → are_any a ≡ true → are_any (or_else a b) ≡ true
first_fails [] b e = absurd (true≢false (sym e))
first_fails (k ∷ ks) b e = refl

-- what the step fails by that a first word comes to
abbrev after : Held × Step → Kinds
after met = step_fault top 1 met.0 met.1

-- ---- a first word that names no command and is not `--`

-- the one long option is `--help`
long_fails : (name : Text) (value : Option Text) → are_any (long_fault top.rules false (arg_by_long top.rules name) value nothing_held) ≡ true
long_fails name value = go (bytes_eq (codes "help") name) value refl
  where
    go : (b : Bool) (v : Option Text) → bytes_eq (codes "help") name ≡ b → are_any (long_fault top.rules false (arg_by_long top.rules name) v nothing_held) ≡ true
    go true None e = rw e refl
    go true (Some v) e = rw e refl
    go false v e = rw e refl

-- and the one short option is `-h`
short_fails : (x : ℕ) (rest : Text) (next : Held → Kinds) → are_any (short_fault top.rules false (arg_by_short top.rules x) rest nothing_held next) ≡ true
short_fails x rest next = go (104 == x) refl
  where
    go : (b : Bool) → (104 == x) ≡ b → are_any (short_fault top.rules false (arg_by_short top.rules x) rest nothing_held next) ≡ true
    go true e = rw e refl
    go false e = rw e refl

-- the first flag of a bundle fails, and with no flag the word is a stray one
abbrev flag_kinds : Text → Text → ℕ → Option ℕ → Kinds
flag_kinds w flags k x =
    let met = bundle_step top.rules x flags 0 plain nothing_held (bundle_met top.rules k) in
    or_else (bundle_step_fault top.rules false x flags 0 nothing_held (flags_fault top.rules false k)) (after (after_flag top.rules idle w met.0 met.1))

flag_fails : (w flags : Text) (k : ℕ) (x : Option ℕ) → are_any (flag_kinds w flags k x) ≡ true
flag_fails w flags k None = refl
flag_fails w flags k (Some x) = first_fails _ _ (short_fails x _ _)

abbrev bundle_kinds : Text → Text → ℕ → Kinds
bundle_kinds w flags n =
    let met = bundle_met top.rules n flags 0 plain nothing_held in
    or_else (flags_fault top.rules false n flags 0 nothing_held) (after (after_flag top.rules idle w met.0 met.1))

bundle_fails : (w flags : Text) (n : ℕ) → are_any (bundle_kinds w flags n) ≡ true
unfolding flags_fault bundle_met
bundle_fails w flags zero = refl
bundle_fails w flags (suc k) = flag_fails w flags k (slice_get (chars flags) 0)

-- a word with at most one hyphen before it, by the flags that it holds
abbrev flags_kinds : Text → Option Text → Kinds
flags_kinds w flags = or_else (option_map_or (λ fs. bundle_fault top.rules false fs nothing_held) flags []) (after (short_or_plain top.rules idle w flags nothing_held))

flags_fail : (w : Text) (flags : Option Text) → are_any (flags_kinds w flags) ≡ true
flags_fail w None = refl
flags_fail w (Some flags) = bundle_fails w flags (length flags)

-- a word, by the name and the value of the long option that it is
abbrev option_kinds : Text → Option (Text × Option Text) → Kinds
option_kinds w long = or_else (flag_word_fault top.rules false long w nothing_held) (after (long_or_other top.rules idle w long nothing_held))

option_fails : (w : Text) (long : Option (Text × Option Text)) → are_any (option_kinds w long) ≡ true
option_fails w None = flags_fail w (short_of w)
option_fails w (Some p) = first_fails _ _ (long_fails p.0 p.1)

-- a word, by the command that it names
abbrev word_kinds : Text → Option Text → Kinds
word_kinds w name = or_else (other_fault top name w nothing_held) (after (subcommand_or_other top.rules name idle 1 w nothing_held))

stray_fails : (w : Text) → bytes_eq w (codes "--") ≡ false → are_any (word_kinds w None) ≡ true
stray_fails w e = rw e (option_fails w (long_of w))

-- ---- the first word

-- after `--` nothing can be said
behind_dashes : (rest : List Text) → are_any (fault_of alpine (codes "alpine" ∷ codes "--" ∷ rest)) ≡ true
unfolding walked walk_fault defaults_fault
behind_dashes [] = refl
behind_dashes (w ∷ rest) = refl

-- the first word is the name of a command of ours
enters : (rest : List Text) → stop_after top.rules names (codes "play" ∷ rest) ≡ Some (codes "play", rest)
unfolding walked
enters rest = ap (λ v. v.stopped) (sym (walk_stopped top.rules names start (codes "play") [] rest))

enters_drill : (rest : List Text) → stop_after top.rules names (codes "drill" ∷ rest) ≡ Some (codes "drill", rest)
unfolding walked
enters_drill rest = ap (λ v. v.stopped) (sym (walk_stopped top.rules names start (codes "drill") [] rest))

enters_storm : (rest : List Text) → stop_after top.rules names (codes "storm" ∷ rest) ≡ Some (codes "storm", rest)
unfolding walked
enters_storm rest = ap (λ v. v.stopped) (sym (walk_stopped top.rules names start (codes "storm") [] rest))

abbrev pub name_of : Option (Text × List Row) → Option Text
name_of = option_map (λ p. p.0)

plays : (rest : List Text) → name_of (subcommand_of alpine (codes "alpine" ∷ codes "play" ∷ rest)) ≡ Some (codes "play")
plays rest = ap (λ stop. name_of (entered app stop)) (enters rest)

drills : (rest : List Text) → name_of (subcommand_of alpine (codes "alpine" ∷ codes "drill" ∷ rest)) ≡ Some (codes "drill")
drills rest = ap (λ stop. name_of (entered app stop)) (enters_drill rest)

storms : (rest : List Text) → name_of (subcommand_of alpine (codes "alpine" ∷ codes "storm" ∷ rest)) ≡ Some (codes "storm")
storms rest = ap (λ stop. name_of (entered app stop)) (enters_storm rest)

-- where the first word fails, the line does
line_fails : (w : Text) (rest : List Text) → are_any (turn_fault top names start w) ≡ true → are_any (fault_of alpine (codes "alpine" ∷ w ∷ rest)) ≡ true
unfolding walk_fault
line_fails w rest e = first_fails _ _ (first_fails _ _ e)

-- a word that is no name of a command
turn_other : (w : Text) → bytes_eq (codes "play") w ≡ false → bytes_eq (codes "drill") w ≡ false → bytes_eq (codes "storm") w ≡ false → bytes_eq (codes "help") w ≡ false → bytes_eq w (codes "--") ≡ false
    → are_any (turn_fault top names start w) ≡ true
turn_other w not_play not_drill not_storm not_help not_dashes =
    let none : subcommand_met names idle w ≡ None = rw (not_play, not_drill, not_storm, not_help) refl in
    ap (λ o. are_any (word_kinds w o)) none ∙ stray_fails w not_dashes

no_words : are_any (fault_of alpine (codes "alpine" ∷ [])) ≡ true
unfolding walked walk_fault defaults_fault
no_words = refl

helps : (rest : List Text) → are_any (fault_of alpine (codes "alpine" ∷ codes "help" ∷ rest)) ≡ true
unfolding walk_fault
helps rest = refl

abbrev NamesOurs : List Text → Type 0
NamesOurs words = IsOurs (name_of (subcommand_of alpine (codes "alpine" ∷ words)))

-- words that are taken begin with the name of a command of ours
begins_with_ours : (words : List Text) → are_any (fault_of alpine (codes "alpine" ∷ words)) ≡ false → NamesOurs words
begins_with_ours [] taken = absurd (true≢false (sym no_words ∙ taken))
begins_with_ours (w ∷ rest) taken =
    go (bytes_eq (codes "play") w) (bytes_eq (codes "drill") w) (bytes_eq (codes "storm") w) (bytes_eq (codes "help") w) (bytes_eq w (codes "--")) refl refl refl refl refl
  where
    bad : are_any (fault_of alpine (codes "alpine" ∷ w ∷ rest)) ≡ true → ⊥
    bad e = true≢false (sym e ∙ taken)

    go : (a d m b c : Bool) → bytes_eq (codes "play") w ≡ a → bytes_eq (codes "drill") w ≡ d → bytes_eq (codes "storm") w ≡ m → bytes_eq (codes "help") w ≡ b → bytes_eq w (codes "--") ≡ c → NamesOurs (w ∷ rest)
    go true d m b c p s t q r = subst (λ (v : Text). NamesOurs (v ∷ rest)) ((bytes_eq-Decides (codes "play") w).0 p) (inl (plays rest))
    go false true m b c p s t q r = subst (λ (v : Text). NamesOurs (v ∷ rest)) ((bytes_eq-Decides (codes "drill") w).0 s) (inr (inl (drills rest)))
    go false false true b c p s t q r = subst (λ (v : Text). NamesOurs (v ∷ rest)) ((bytes_eq-Decides (codes "storm") w).0 t) (inr (inr (storms rest)))
    go false false false true c p s t q r = absurd (bad (subst (λ (v : Text). are_any (fault_of alpine (codes "alpine" ∷ v ∷ rest)) ≡ true) ((bytes_eq-Decides (codes "help") w).0 q) (helps rest)))
    go false false false false true p s t q r = absurd (bad (subst (λ (v : Text). are_any (fault_of alpine (codes "alpine" ∷ v ∷ rest)) ≡ true) (sym ((bytes_eq-Decides w (codes "--")).0 r)) (behind_dashes rest)))
    go false false false false false p s t q r = absurd (bad (line_fails w rest (turn_other w p s t q r)))

-- and so they do with the program's name before them, which may be any word
pub taken_is_ours : (all : List Text) → are_any (fault_of alpine all) ≡ false → IsOurs (name_of (subcommand_of alpine all))
taken_is_ours [] taken = absurd (true≢false (sym no_words ∙ taken))
taken_is_ours (name ∷ words) taken = begins_with_ours words taken
