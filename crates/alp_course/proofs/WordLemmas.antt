-- Each kind of what occurs may occur somehow: there are words of all languages.
use Rattle.std.specs.Prelude.{◌==◌, ◌||◌, Bool, true, false, None, Some}
use Rattle.std.specs.List.{list_any}
use Rattle.std.proofs.Common.{◌≡◌, ℕ, zero, suc, List, [], ◌∷◌, ◌++◌, refl, sym, ◌∙◌, ap, subst}
use Rattle.std.proofs.lemmas.List.{append_assoc}
use Rattle.alp_course.specs.Happens.{timed_out, ticked, restarted, lifts, finds}
use Rattle.alp_course.specs.Courses.{Occurrence, at, looks, brings, loses, repeats, rests}
use Rattle.alp_course.specs.Languages.{Language, Nothing, Just, Then, Each}
use Rattle.alp_course.specs.Carries.{ArePairCarried, none_waits, one_waits, OfOthers, CarriesTo, CarriesFrom, IsSweep, is_bringing, brings_some, IsCarried, last_sweep, one_more, CarriesIf}
use Rattle.alp_course.specs.Settles.{lifting, IsLifted, AreTimedOut, none_open, one_open, IsTicked, IsRound, Further, AreRounds, IsSettling}
use Rattle.alp_course.proofs.LanguageLemmas.{Has, then_has, then_word, each_has, just_has}

-- ---- what is brought

or_over : (b c d e : Bool) → c ≡ d || e → b || c ≡ (b || d) || e
or_over true c d e h = refl
or_over false c d e h = h

pub brings_append : (xs ys : List Occurrence) → brings_some (xs ++ ys) ≡ brings_some xs || brings_some ys
brings_append [] ys = refl
brings_append (x ∷ xs) ys = or_over (is_bringing x) (brings_some (xs ++ ys)) (brings_some xs) (brings_some ys) (brings_append xs ys)

-- there is a word that brings nothing
abbrev HasQuiet : Language → Type 0
HasQuiet A = (xs : List Occurrence) × A xs × (brings_some xs ≡ false)

each_quiet : (A : ℕ → Language) → ((n : ℕ) → HasQuiet (A n)) → (n : ℕ) → HasQuiet (Each A n)
each_quiet A has zero = ([], refl, refl)
each_quiet A has (suc n) =
    let (xs, front, none) = each_quiet A has n in
    let (ys, back, quiet) = has (suc n) in
    (xs ++ ys, then_word (Each A n) (A (suc n)) xs ys front back, brings_append xs ys ∙ (λ i. none i || quiet i))

to_quiet : (from to : ℕ) → HasQuiet (CarriesTo from to)
to_quiet from to = go (from == to)
  where
    go : (b : Bool) → HasQuiet (OfOthers b (ArePairCarried from to))
    go true = ([], refl, refl)
    go false = (looks from to false ∷ [], none_waits, refl)

pub pair_has : (from to : ℕ) → Has (ArePairCarried from to)
pair_has from to = (looks from to false ∷ [], none_waits)

pub to_has : (from to : ℕ) → Has (CarriesTo from to)
to_has from to = (let (xs, word, quiet) = to_quiet from to in (xs, word))

from_quiet : (servers from : ℕ) → HasQuiet (CarriesFrom servers from)
from_quiet servers from = each_quiet (CarriesTo from) (to_quiet from) servers

pub from_has : (servers from : ℕ) → Has (CarriesFrom servers from)
from_has servers from = (let (xs, word, quiet) = from_quiet servers from in (xs, word))

sweep_quiet : (servers : ℕ) → HasQuiet (IsSweep servers)
sweep_quiet servers = each_quiet (CarriesFrom servers) (from_quiet servers) servers

pub carried_has : (servers : ℕ) → Has (IsCarried servers)
carried_has servers = (let (xs, word, quiet) = sweep_quiet servers in (xs, last_sweep xs word quiet))

pub if_has : (servers : ℕ) (b : Bool) → Has (CarriesIf servers b)
if_has servers true = carried_has servers
if_has servers false = ([], refl)

-- ---- a settling

pub lifted_has : (n : ℕ) → Has (IsLifted n)
lifted_has n = (lifting n false, (false, refl))

pub timed_has : (n : ℕ) → Has (AreTimedOut n)
timed_has n = (at n (finds None) ∷ [], none_open)

pub ticked_has : (n : ℕ) → Has (IsTicked n)
ticked_has n = just_has (at n ticked ∷ [])

pub round_has : (servers : ℕ) → Has (IsRound servers)
round_has servers = then_has (Each IsTicked servers) (IsCarried servers) (each_has IsTicked ticked_has servers) (carried_has servers)

pub rounds_has : (servers most : ℕ) → Has (AreRounds servers most)
rounds_has servers zero = ([], refl)
rounds_has servers (suc k) =
    let h : Has (Then (IsRound servers) (Further true (AreRounds servers k))) = then_has (IsRound servers) (Further true (AreRounds servers k)) (round_has servers) (rests true ∷ [], refl) in
    (h.0, (true, h.1))

pub lifted_all : (servers : ℕ) → Has (Each IsLifted servers)
lifted_all servers = each_has IsLifted lifted_has servers

pub timed_all : (servers : ℕ) → Has (Each AreTimedOut servers)
timed_all servers = each_has AreTimedOut timed_has servers

pub settling_has : (servers : ℕ) → Has (IsSettling servers)
settling_has servers = then_has (Each IsLifted servers) (Then (Each AreTimedOut servers) (AreRounds servers 8)) (lifted_all servers) (then_has (Each AreTimedOut servers) (AreRounds servers 8) (timed_all servers) (rounds_has servers 8))
