-- lemmas on the lines of a script that is read in pieces
use Rattle.std.specs.Prelude.{nat_le, ◌&&◌, ◌==◌, not, reverse, Bool, Option, None, Some, cond, All, Result, Ok, Err}
use Rattle.std.specs.List.{slice_split, onto_first, list_all, prefix_len}
use Rattle.std.specs.Str.Lines.{lines, lines_of_parts, strip_carriage_return}
use Rattle.std.proofs.Common.{◌≡◌, ℕ, ◌+◌, ◌-◌, ◌<◌, ◌≤◌, List, [], ◌∷◌, ◌++◌, length, take, drop, true, false, refl, sym, ◌∙◌, ap, subst, arith, append_assoc, append-nil, length-append, slice_index, get_or, suc, add-one}
use Rattle.std.proofs.Math.Seq.{drop-cons}
use Rattle.std.proofs.Math.Dec.{eqb-suc-zero}
use Rattle.std.proofs.lemmas.Bool.{lt-leb}
use Rattle.std.proofs.lemmas.List.{length-take, take_all, take_more, reverse-append, drop_all, nil_from_length}
use Rattle.std.proofs.lemmas.List.Splits.{slice_split_none, slice_split_at}
use Rattle.std.proofs.lemmas.List.Elements.{All-push}
use Rattle.std.proofs.lemmas.List.Sums.{sum_by_more}
use Rattle.alp_tokens.specs.Words.{◌>>=◌, is_ascii}
use Rattle.alp_lines.specs.Grammar.{text_said}
use Rattle.alp_script.specs.Known.{Known, nothing_known, has_servers}
use Rattle.alp_script.specs.Script.{flaw_at, read_at, with_front, numbered, line_then, script_from, script, ended}
use Rattle.alp_script.specs.Progress.{Progress, at_start, IsUnfinished, resume, room, line_ends, unended, Follows, IsOutside, Takes, Gives}
use Rattle.alp_script.specs.declared.fault.ScriptFault.{ScriptFault}
use Rattle.alp_script.specs.declared.fault.ScriptFault.TheVariants as fault
use Rattle.alp_lines.specs.declared.line.Line.{Line}
use Rattle.alp_script.specs.declared.numbered.NumberedLine.{NumberedLine}
use Rattle.alp_script.specs.declared.numbered.TheConstants.{SCRIPT_LINES_MOST}
use Rattle.alp_tokens.specs.declared.words.TheConstants.{LINE_BYTES}

-- bytes without a line's end
abbrev pub IsOpen : List ℕ → Type 0
IsOpen xs = All (λ b. (b == 10) ≡ false) xs

first_onto : (x : List ℕ) (b : ℕ) (parts : List (List ℕ)) → lines_of_parts (x ∷ onto_first b parts) ≡ strip_carriage_return x ∷ lines_of_parts (onto_first b parts)
first_onto x b [] = refl
first_onto x b (part ∷ parts) = refl

first_of_parts : (x bs : List ℕ) → lines_of_parts (x ∷ slice_split (λ b. b == 10) bs) ≡ strip_carriage_return x ∷ lines bs
first_of_parts x [] = refl
first_of_parts x (b ∷ bs) =
    let parts : List (List ℕ) = slice_split (λ b. b == 10) bs in
    elim (b == 10) as (λ v. lines_of_parts (x ∷ cond v ([] ∷ parts) (onto_first b parts)) ≡ strip_carriage_return x ∷ lines_of_parts (cond v ([] ∷ parts) (onto_first b parts))) [ true ↦ refl | false ↦ first_onto x b parts ]

-- the first line ends at the first line's end
pub lines-at : (p rest : List ℕ) (b : ℕ) → IsOpen p → (b == 10) ≡ true → lines (p ++ b ∷ rest) ≡ strip_carriage_return p ∷ lines rest
lines-at p rest b open_ended e = ap lines_of_parts (slice_split_at (λ b. b == 10) p b rest open_ended e) ∙ first_of_parts p rest

one_part : (p : List ℕ) → 0 < length p → lines_of_parts (p ∷ []) ≡ p ∷ []
one_part [] some = absurd (omega arith)
one_part (b ∷ bs) some = ap (λ t. cond t [] ((b ∷ bs) ∷ [])) (eqb-suc-zero (length bs))

-- bytes without a line's end are one line
pub lines-last : (p : List ℕ) → IsOpen p → 0 < length p → lines p ≡ p ∷ []
lines-last p open_ended some = ap lines_of_parts (slice_split_none (λ b. b == 10) p open_ended) ∙ one_part p some

with_front-none : (r : Result (List NumberedLine) ScriptFault) → with_front [] r ≡ r
with_front-none (Ok ls) = refl
with_front-none (Err n) = refl

pub with_front-twice : (a b : List NumberedLine) (r : Result (List NumberedLine) ScriptFault) → with_front a (with_front b r) ≡ with_front (a ++ b) r
with_front-twice a b (Ok ls) = ap Ok (sym (append_assoc a b ls))
with_front-twice a b (Err n) = refl

not_line : (b c : Bool) (said : Option (Option Line)) → b ≡ false → cond (b && c) said None ≡ None
not_line b c said e = ap (λ t. cond (t && c) said None) e

text_said-long : (text : List ℕ) → LINE_BYTES < length text → text_said text ≡ None
unfolding text_said
text_said-long text long = not_line (nat_le (length text) LINE_BYTES) (list_all is_ascii text) _ (lt-leb _ _ long)

no_more : (b : Bool) (o : Option (Option Line)) (more : Option Line → Option (Option Line × Known)) → o ≡ None → cond b (o >>= more) None ≡ None
no_more true o more e = ap (λ said. said >>= more) e
no_more false o more e = refl

-- a line that is too long says nothing
pub read_at-long : (s : Known) (n : ℕ) (text : List ℕ) → LINE_BYTES < length text → read_at s n text ≡ None
unfolding read_at
read_at-long s n text long = no_more (nat_le n SCRIPT_LINES_MOST) (text_said text) _ (text_said-long text long)

-- where a line is outside, so is the script
pub script_from-outside : (s : Known) (n : ℕ) (text : List ℕ) (texts : List (List ℕ)) → read_at s n text ≡ None → script_from s n (text ∷ texts) ≡ Err (flaw_at n)
script_from-outside s n text texts e = ap (λ said. line_then n said (λ t. script_from t (n + 1) texts)) e

stripped_length : (p : List ℕ) → length p ≤ length (strip_carriage_return p) + 1
stripped_length p =
    elim (slice_index p (length p - 1) == 13) as (λ v. length p ≤ length (cond v (take (length p - 1) p) p) + 1) [
      | true ↦ omega (arith, length-take (length p - 1) p)
      | false ↦ omega arith
    ]

-- what is too long already is outside, whatever follows
pub script_from-long : (s : Known) (n : ℕ) (p rest : List ℕ) → IsOpen p → LINE_BYTES + 1 < length p → script_from s n (lines (p ++ rest)) ≡ Err (flaw_at n)
script_from-long s n p [] open_ended long =
    ap (λ bytes. script_from s n (lines bytes)) (append-nil p) ∙ ap (script_from s n) (lines-last p open_ended (omega arith))
    ∙ script_from-outside s n p [] (read_at-long s n p (omega arith))
script_from-long s n p (b ∷ rest) open_ended long = go (b == 10) refl (λ q o l. script_from-long s n q rest o l)
  where
    go : (v : Bool) → (b == 10) ≡ v → ((q : List ℕ) → IsOpen q → LINE_BYTES + 1 < length q → script_from s n (lines (q ++ rest)) ≡ Err (flaw_at n))
        → script_from s n (lines (p ++ b ∷ rest)) ≡ Err (flaw_at n)
    go true e longer =
        ap (script_from s n) (lines-at p rest b open_ended e)
        ∙ script_from-outside s n (strip_carriage_return p) (lines rest) (read_at-long s n (strip_carriage_return p) (omega (arith, stripped_length p)))
    go false e longer =
        ap (λ bytes. script_from s n (lines bytes)) (sym (append_assoc p (b ∷ []) rest))
        ∙ longer (p ++ b ∷ []) (All-push (λ x. (x == 10) ≡ false) p b open_ended e) (omega (arith, length-append p (b ∷ [])))

no_end : (b : ℕ) → (b == 10) ≡ false → line_ends (b ∷ []) ≡ 0
no_end b e = ap (λ (v : Bool). 0 + cond v 1 0) e

prefix-on : (p : ℕ → Bool) (xs a b : List ℕ) → prefix_len p a ≡ prefix_len p b → prefix_len p (xs ++ a) ≡ prefix_len p (xs ++ b)
prefix-on p [] a b e = e
prefix-on p (x ∷ xs) a b e = ap (λ (n : ℕ). cond (p x) (1 + n) 0) (prefix-on p xs a b e)

-- nothing stands behind a line's end
unended-none : (xs : List ℕ) → unended (xs ++ 10 ∷ []) ≡ 0
unended-none xs = ap (λ (bytes : List ℕ). prefix_len (λ (b : ℕ). not (b == 10)) bytes) (reverse-append xs (10 ∷ []))

-- what stands behind the last line's end hangs on no more of what comes before
pub unended-on : (a b xs : List ℕ) → unended a ≡ unended b → unended (a ++ xs) ≡ unended (b ++ xs)
unended-on a b xs e =
    ap (λ (bytes : List ℕ). prefix_len (λ (b : ℕ). not (b == 10)) bytes) (reverse-append a xs)
    ∙ prefix-on (λ (b : ℕ). not (b == 10)) (reverse xs) (reverse a) (reverse b) e
    ∙ sym (ap (λ (bytes : List ℕ). prefix_len (λ (b : ℕ). not (b == 10)) bytes) (reverse-append b xs))

-- a byte more in the unfinished line
pub follows-byte : (p : Progress) (b : ℕ) → (b == 10) ≡ false → length p.partial ≤ LINE_BYTES → Follows p (record p { partial = p.partial ++ b ∷ [] }) (b ∷ [])
unfolding resume
follows-byte p b within short = record {
  same = λ rest. ap (λ bytes. with_front p.said (script_from p.known (p.lines + 1) (lines bytes))) (sym (append_assoc p.partial (b ∷ []) rest));
  counted = omega (arith, no_end b within);
  few = λ some. some;
  held = refl;
  short = λ few. omega (arith, length-append p.partial (b ∷ []));
  nearer = omega (arith, length-append p.partial (b ∷ []));
}

-- a byte too many
pub outside-byte : (p : Progress) (b : ℕ) → (b == 10) ≡ false → IsOpen p.partial → LINE_BYTES < length p.partial → IsOutside p (b ∷ []) (flaw_at (p.lines + 1))
unfolding resume
outside-byte p b e open_ended long = record {
  always = λ rest.
      ap (with_front p.said)
      (ap (λ bytes. script_from p.known (p.lines + 1) (lines bytes)) (sym (append_assoc p.partial (b ∷ []) rest))
      ∙ script_from-long p.known (p.lines + 1) (p.partial ++ b ∷ []) rest (All-push (λ x. (x == 10) ≡ false) p.partial b open_ended e) (omega (arith, length-append p.partial (b ∷ []))));
}

-- the progress after a whole line
abbrev pub after_line : Progress → Option Line → Known → Progress
after_line p l t = record { said = p.said ++ numbered (p.lines + 1) l; known = t; lines = p.lines + 1; partial = [] }

pub follows-line : (p : Progress) (l : Option Line) (t : Known) → IsUnfinished p.lines p.partial → p.lines + 1 ≤ SCRIPT_LINES_MOST
    → read_at p.known (p.lines + 1) (strip_carriage_return p.partial) ≡ Some (l, t) → Follows p (after_line p l t) (10 ∷ [])
unfolding resume
follows-line p l t unfinished few said = record {
  same = λ rest.
      ap (λ texts. with_front p.said (script_from p.known (p.lines + 1) texts)) (lines-at p.partial rest 10 unfinished.open_ended refl)
      ∙ ap (λ o. with_front p.said (line_then (p.lines + 1) o (λ s. script_from s (p.lines + 1 + 1) (lines rest)))) said
      ∙ with_front-twice p.said (numbered (p.lines + 1) l) (script_from t (p.lines + 1 + 1) (lines rest));
  counted = refl;
  few = λ _. few;
  held = sym (unended-none p.partial);
  short = λ _. omega arith;
  nearer = omega (arith, unfinished.short);
}

pub outside-line : (p : Progress) → IsUnfinished p.lines p.partial
    → read_at p.known (p.lines + 1) (strip_carriage_return p.partial) ≡ None → IsOutside p (10 ∷ []) (flaw_at (p.lines + 1))
unfolding resume
outside-line p unfinished said = record {
  always = λ rest.
      ap (λ texts. with_front p.said (script_from p.known (p.lines + 1) texts)) (lines-at p.partial rest 10 unfinished.open_ended refl)
      ∙ ap (with_front p.said) (script_from-outside p.known (p.lines + 1) (strip_carriage_return p.partial) (lines rest) said);
}

-- a reader that starts reads a whole script
pub resume-start : (bytes : List ℕ) → resume at_start bytes ≡ script bytes
unfolding resume script
resume-start bytes = with_front-none (script_from nothing_known 1 (lines bytes))

-- one more byte of a piece
pub resume-next : (old mid new : Progress) (piece : List ℕ) (i : ℕ) → i < length piece
    → ((rest : List ℕ) → resume old (piece ++ rest) ≡ resume mid (drop i piece ++ rest)) → Follows mid new (get_or piece i 0 ∷ [])
    → (rest : List ℕ) → resume old (piece ++ rest) ≡ resume new (drop (i + 1) piece ++ rest)
resume-next old mid new piece i within same next rest =
    rw add-one (same rest ∙ ap (λ bytes. resume mid (bytes ++ rest)) (drop-cons piece i 0 within) ∙ next.same (drop (suc i) piece ++ rest))

outside-next : (old mid : Progress) (piece : List ℕ) (i : ℕ) (flaw : ScriptFault) → i < length piece
    → ((rest : List ℕ) → resume old (piece ++ rest) ≡ resume mid (drop i piece ++ rest)) → IsOutside mid (get_or piece i 0 ∷ []) flaw → IsOutside old piece flaw
outside-next old mid piece i flaw within same next = record {
  always = λ rest. same rest ∙ ap (λ bytes. resume mid (bytes ++ rest)) (drop-cons piece i 0 within) ∙ next.always (drop (suc i) piece ++ rest);
}

-- where the next byte is not taken, neither is the piece
pub refused-next : (old mid new : Progress) (piece : List ℕ) (i : ℕ) (e : ScriptFault) → i < length piece
    → ((rest : List ℕ) → resume old (piece ++ rest) ≡ resume mid (drop i piece ++ rest)) → Takes {X = Unit {0}} mid new (get_or piece i 0 ∷ []) (Err e)
    → Takes {X = Unit {0}} old new piece (Err e)
refused-next old mid new piece i (fault.Bad n) within same next = outside-next old mid piece i (fault.Bad n) within same next
refused-next old mid new piece i fault.TooLong within same next = outside-next old mid piece i fault.TooLong within same next
refused-next old mid new piece i fault.ReadFault within same next = absurd next
refused-next old mid new piece i fault.OutOfMemory within same next = tt

-- the lines that end in one byte more
pub counted-next : (old mid new : Progress) (piece : List ℕ) (i : ℕ) → i < length piece
    → mid.lines ≡ old.lines + line_ends (take i piece) → Follows mid new (get_or piece i 0 ∷ []) → new.lines ≡ old.lines + line_ends (take (i + 1) piece)
counted-next old mid new piece i within counted next =
    let one : line_ends (get_or piece i 0 ∷ []) ≡ cond (get_or piece i 0 == 10) 1 0 = omega arith in
    let more : line_ends (take (i + 1) piece) ≡ line_ends (take i piece) + cond (get_or piece i 0 == 10) 1 0 = sum_by_more (λ b. cond (b == 10) 1 0) piece i 0 within in
    omega (arith, counted, next.counted, one, more)

-- what stands behind the last line's end, with one byte more
pub held-next : (old mid new : Progress) (piece : List ℕ) (i : ℕ) → i < length piece
    → unended mid.partial ≡ unended (old.partial ++ take i piece) → Follows mid new (get_or piece i 0 ∷ []) → unended new.partial ≡ unended (old.partial ++ take (i + 1) piece)
held-next old mid new piece i within held next =
    next.held
    ∙ unended-on mid.partial (old.partial ++ take i piece) (get_or piece i 0 ∷ []) held
    ∙ ap unended (append_assoc old.partial (take i piece) (get_or piece i 0 ∷ []) ∙ ap (λ (xs : List ℕ). old.partial ++ xs) (sym (take_more piece i 0 within)))

-- all of a piece
pub follows-all : (old new : Progress) (piece : List ℕ) (i : ℕ) → length piece ≤ i
    → ((rest : List ℕ) → resume old (piece ++ rest) ≡ resume new (drop i piece ++ rest)) → new.lines ≡ old.lines + line_ends (take i piece) → (old.lines ≤ SCRIPT_LINES_MOST → new.lines ≤ SCRIPT_LINES_MOST)
    → unended new.partial ≡ unended (old.partial ++ take i piece) → (length old.partial ≤ LINE_BYTES + 1 → length new.partial ≤ LINE_BYTES + 1)
    → room new + i ≤ room old → Follows old new piece
follows-all old new piece i all same counted few held short nearer = record {
  same = λ rest. same rest ∙ ap (λ bytes. resume new (bytes ++ rest)) (drop_all i piece all);
  counted = counted ∙ ap (λ bytes. old.lines + line_ends bytes) (take_all i piece all);
  few = few;
  held = held ∙ ap (λ bytes. unended (old.partial ++ bytes)) (take_all i piece all);
  short = short;
  nearer = omega arith;
}

-- a script that ends after a whole line
pub resume-ended : (p : Progress) → length p.partial ≡ 0 → resume p [] ≡ with_front p.said (ended p.known (p.lines + 1))
unfolding resume
resume-ended p e = ap (λ bytes. with_front p.said (script_from p.known (p.lines + 1) (lines (bytes ++ [])))) (nil_from_length p.partial e)

-- a script that ends within a line
pub resume-last : (p : Progress) → IsOpen p.partial → 0 < length p.partial → resume p [] ≡ with_front p.said (script_from p.known (p.lines + 1) (p.partial ∷ []))
unfolding resume
resume-last p open_ended some =
    ap (λ bytes. with_front p.said (script_from p.known (p.lines + 1) (lines bytes))) (append-nil p.partial)
    ∙ ap (λ texts. with_front p.said (script_from p.known (p.lines + 1) texts)) (lines-last p.partial open_ended some)

-- what is wrong with a line is told as the reader tells it
pub takes-flaw : (X : Type 0) (old new : Progress) (piece : List ℕ) (n : ℕ) → IsOutside old piece (flaw_at n) → Takes {X = X} old new piece (Err (flaw_at n))
unfolding flaw_at
takes-flaw X old new piece n h =
    elim (nat_le n SCRIPT_LINES_MOST) as (λ v. IsOutside old piece (cond v (fault.Bad n) fault.TooLong) → Takes {X = X} old new piece (Err (cond v (fault.Bad n) fault.TooLong))) [
      | true ↦ λ outside. outside
      | false ↦ λ outside. outside
    ] h

-- and so is what is wrong with the last one
pub gives-flaw : (X : Type 0) (view : X → List NumberedLine) (n : ℕ) (said : Result (List NumberedLine) ScriptFault) → said ≡ Err (flaw_at n) → Gives view (Err (flaw_at n)) said
unfolding flaw_at
gives-flaw X view n said h =
    elim (nat_le n SCRIPT_LINES_MOST) as (λ v. said ≡ Err (cond v (fault.Bad n) fault.TooLong) → Gives view (Err (cond v (fault.Bad n) fault.TooLong)) said) [
      | true ↦ λ is. is
      | false ↦ λ is. is
    ] h

-- where a line is outside, it is the n-th or a later one
abbrev OutsideFrom : ℕ → Result (List NumberedLine) ScriptFault → Type 0
OutsideFrom n (Err (fault.Bad m)) = n ≤ m
OutsideFrom n _ = Unit {0}

from_earlier : (n : ℕ) (r : Result (List NumberedLine) ScriptFault) → OutsideFrom (n + 1) r → OutsideFrom n r
from_earlier n (Ok ls) later = tt
from_earlier n (Err (fault.Bad m)) later = omega arith
from_earlier n (Err fault.TooLong) later = tt
from_earlier n (Err fault.ReadFault) later = tt
from_earlier n (Err fault.OutOfMemory) later = tt

behind_front : (n : ℕ) (front : List NumberedLine) (r : Result (List NumberedLine) ScriptFault) → OutsideFrom n r → OutsideFrom n (with_front front r)
behind_front n front (Ok ls) later = tt
behind_front n front (Err flaw) later = later

flaw_later : (n : ℕ) → OutsideFrom n (Err (flaw_at n))
unfolding flaw_at
flaw_later n = elim (nat_le n SCRIPT_LINES_MOST) as (λ v. OutsideFrom n (Err (cond v (fault.Bad n) fault.TooLong))) [ true ↦ omega arith | false ↦ tt ]

line-later : (n : ℕ) (o : Option (Option Line × Known)) (more : Known → Result (List NumberedLine) ScriptFault) → ((t : Known) → OutsideFrom (n + 1) (more t)) → OutsideFrom n (line_then n o more)
line-later n None more later = flaw_later n
line-later n (Some p) more later = behind_front n (numbered n p.0) (more p.1) (from_earlier n (more p.1) (later p.1))

script_from-later : (k : Known) (n : ℕ) (texts : List (List ℕ)) → OutsideFrom n (script_from k n texts)
script_from-later k n [] = elim (has_servers k) as (λ v. OutsideFrom n (cond v (Ok []) (Err (fault.Bad n)))) [ true ↦ tt | false ↦ omega arith ]
script_from-later k n (text ∷ texts) = line-later n (read_at k n text) (λ t. script_from t (n + 1) texts) (λ t. script_from-later t (n + 1) texts)

-- no line that was whole is outside
pub resume-later : (p : Progress) (rest : List ℕ) (n : ℕ) → resume p rest ≡ Err (fault.Bad n) → p.lines < n
unfolding resume
resume-later p rest n e =
    let later : OutsideFrom (p.lines + 1) (Err (fault.Bad n)) =
    subst (OutsideFrom (p.lines + 1)) e (behind_front (p.lines + 1) p.said _ (script_from-later p.known (p.lines + 1) (lines (p.partial ++ rest)))) in
    omega (arith, later)
